-- Parameters, as the code lends them.
use Rattle.std.specs.Prelude.{List, map}
use Rattle.std.proofs.Common.{Bor}
use Rattle.st_types.specs.declared.elem.Elem.{Elem}
use Rattle.st_types.specs.declared.elem.Elem.TheVariants.{Bool}
use Rattle.st_rules.specs.declared.names.DeclaredVariable.{DeclaredVariable}
use Rattle.st_rules.specs.Calls.{Callee, a_conversion}

abbrev pub parameters_of : List (Bor DeclaredVariable) → List DeclaredVariable
parameters_of vs = map (λ v. v.now) vs

-- the kind of the operand of a conversion; of nothing else is it looked at
abbrev pub operand_kind : Callee → Elem
operand_kind (a_conversion a b) = a
operand_kind _ = Bool
