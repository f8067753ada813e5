use Rattle.std.proofs.Common.{◌≡◌, Option, Some, None, subst}
use Rattle.std.specs.Prelude.{MatchOption}
use Rattle.st_rules.specs.declared.names.DeclaredVariable.{DeclaredVariable}
use Rattle.name_resolution.proofs.PlaceLaws.{found_first}
use Rattle.name_resolution.proofs.scope.local_at.Goals as goal

pub returns : goal.returns
returns c = subst (λ (o : Option DeclaredVariable). MatchOption c.variable_there.result (o ≡ None) (λ t. o ≡ Some t.now)) (found_first (λ v. v.name) c.args.table.now c.args.locals.now c.args.name.now c.place_of.result c.requires c.place_of.ensures) c.variable_there.ensures
