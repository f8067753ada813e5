-- What the checks of kinds answer. The code keeps the top of a list last, the definitions have it first.
use Rattle.std.specs.Prelude.{Bool, true, false, List, Option, Some, None}
use Rattle.stack_code.specs.declared.op.Kind.{Kind}

-- the kinds that are left, where the check held
abbrev pub kept : Bool → List Kind → Option (List Kind)
kept true ks = Some ks
kept false ks = None
