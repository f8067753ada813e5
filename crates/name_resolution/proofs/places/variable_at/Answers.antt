use Rattle.std.proofs.Common.{◌≡◌, Option, Some, None, subst}
use Rattle.std.specs.Prelude.{MatchOption}
use Rattle.st_rules.specs.declared.names.DeclaredVariable.{DeclaredVariable}
use Rattle.name_resolution.proofs.PlaceLaws.{found_passing}
use Rattle.name_resolution.proofs.places.variable_at.Goals as goal

pub returns : goal.returns
returns c = λ test is. subst (λ (o : Option DeclaredVariable). MatchOption c.variable_there.result (o ≡ None) (λ v. o ≡ Some v.now)) (found_passing (λ v. v.name) test c.args.table.now c.args.all.now c.args.name.now c.place_of.result is c.place_of.ensures) c.variable_there.ensures
