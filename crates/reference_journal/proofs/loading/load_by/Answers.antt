use Rattle.std.proofs.Common.{subst}
use Rattle.st_tree.specs.declared.program.Program.{Program}
use Rattle.st_values.specs.View.{program_of}
use Rattle.region_instances.specs.Instances.{RegionsUnfold}
use Rattle.reference_journal.specs.Loading.{HookRefuses}
use Rattle.reference_journal.proofs.LoadLaws.{came_refused}
use Rattle.reference_journal.proofs.loading.load_by.Goals as goal

pub returns-in-Stopped : goal.returns-in-Stopped
returns-in-Stopped c =
    subst (λ (q : Program). RegionsUnfold (program_of q) → HookRefuses (program_of q) c.refusal_of.result) c.requires.same
    (λ u. came_refused (program_of c.args.tables.now) c.in_ok-store.field-0 (c.in_ok-store.ensures u) c.in-Stopped.stopped c.refusal_of.result c.in-Stopped.is c.refusal_of.ensures)
