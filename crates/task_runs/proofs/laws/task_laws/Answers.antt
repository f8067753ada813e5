use Rattle.task_runs.proofs.OfCode.{task_of_code, hook_of_code}
use Rattle.task_runs.proofs.laws.task_laws.Goals as goal

pub returns : goal.returns
returns c = record {
  tasks = λ p code h task now fs foot store regions in_time good shows. task_of_code p h.promised h.small h.placed h.lives h.living code h.is task now fs foot store regions in_time good shows;
  hooks = λ p code h c j d ticks k x y own first second store regions there member is_one right class flags few named_so shape at good shows. hook_of_code p h.promised h.small h.placed h.lives h.living code h.is c j d ticks k x y own first second store regions there member is_one right class flags few named_so shape at good shows;
}
