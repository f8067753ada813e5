-- Instances of the code as the meaning's, and what hooks did.
use Rattle.std.specs.Prelude.{◌≡◌, Result, Ok, Err}
use Rattle.st_values.specs.Program.{Program}
use Rattle.st_change.specs.Hook.{class_name, Ran, ran, stopped}
use Rattle.st_change.specs.Instances.{Member}
use Rattle.run_state.specs.declared.state.RunState.{RunState}
use Rattle.value_trees.specs.Value.{members_of}
use Rattle.reference_hooks.specs.declared.hooks.Halt.{Halt}
use Rattle.reference_hooks.specs.declared.hooks.Halt.TheVariants as halt
use Rattle.reference_hooks.specs.declared.hooks.Instance.{Instance}

abbrev pub member_of : Program → Instance → Member
member_of p x = record { path = x.path; class = x.class; name = class_name p x.class }

-- the store and the ticks that hooks left, or why they stopped, unless memory is wanting
abbrev pub RanAs : Result (Unit {0}) Halt → Ran → RunState → Type 0
RanAs (Ok u) o m = o ≡ ran (members_of m.store) m.ticks
RanAs (Err (halt.Stopped s)) o m = o ≡ stopped s.class s.fault.kind s.fault.line
RanAs (Err halt.NoMemory) o m = Unit {0}
