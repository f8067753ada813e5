use Rattle.std.proofs.Common.{sym, ap, ◌∙◌}
use Rattle.st_tree.specs.declared.program.Program.{Program}
use Rattle.st_values.specs.View.{program_of}
use Rattle.st_change.specs.Hook.{class_name}
use Rattle.reference_hooks.proofs.HookLaws.{body_named}
use Rattle.reference_hooks.proofs.ChainLaws.{stops_as}
use Rattle.reference_hooks.proofs.hooks.halted.Goals as goal

pub returns-in-Ok : goal.returns-in-Ok
returns-in-Ok c =
    stops_as _ c.args.stop c.in-Fault.fault c.in-Ok.class c.in-Fault.is
    (c.in-Ok.ensures ∙ c.name-class.ensures ∙ body_named c.args.on.now.program.now c.args.class ∙ ap (λ (p : Program). class_name (program_of p) c.args.class) (sym c.requires.tables))
