-- How the first load ended, as the meaning says it.
use Rattle.st_change.specs.Hook.{Ran, ran, stopped}
use Rattle.value_trees.specs.Value.{members_of}
use Rattle.reference_start.specs.declared.started.Started.{Started}
use Rattle.reference_start.specs.declared.started.Started.TheVariants as code

abbrev pub started : Started → Ran
started (code.Ran store ticks) = ran (members_of store) ticks
started (code.Stopped s) = stopped s.class s.fault.kind s.fault.line
