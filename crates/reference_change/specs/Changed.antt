-- How a change ended, as the meaning says it.
use Rattle.st_change.specs.Hook.{Ran, ran, stopped}
use Rattle.value_trees.specs.Value.{members_of}
use Rattle.reference_change.specs.declared.changed.Changed.{Changed}
use Rattle.reference_change.specs.declared.changed.Changed.TheVariants as code

abbrev pub changed : Changed → Ran
changed (code.Ran store ticks) = ran (members_of store) ticks
changed (code.Stopped s) = stopped s.class s.fault.kind s.fault.line
