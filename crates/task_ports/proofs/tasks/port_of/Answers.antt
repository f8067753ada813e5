use Rattle.std.proofs.Common.{refl, ap, ◌∙◌}
use Rattle.st_tree.specs.Address.{width_of}
use Rattle.st_values.specs.View.{program_of}
use Rattle.process_image.specs.Located.{seen}
use Rattle.task_ports.proofs.TakeLaws.{port_is}
use Rattle.task_ports.proofs.tasks.port_of.Goals as goal

pub returns : goal.returns
returns c =
    λ h. port_is (program_of c.args.layout.now) _ (seen c.args.x.now) c.in-Some.at h (c.in-Some.ensures h.shapes) refl refl refl c.in_ok-first.ensures (c.width_of.ensures ∙ ap width_of c.as_str.ensures) c.in_ok-weight.ensures.0
