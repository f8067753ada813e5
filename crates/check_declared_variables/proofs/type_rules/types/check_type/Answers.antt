use Rattle.std.proofs.Common.{refl}
use Rattle.check_declared_variables.proofs.type_rules.TypeLaws.{type_checks}
use Rattle.check_declared_variables.proofs.type_rules.types.check_type.Goals as goal

pub returns : goal.returns
returns c = type_checks _ _ _ _ _ _ _ c.in_ok-e.ensures refl refl c.as_slice.ensures c.in_ok-found.ensures refl refl c.in_ok-arrays.ensures refl
