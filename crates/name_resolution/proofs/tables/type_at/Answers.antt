use Rattle.std.proofs.Common.{◌≡◌, Option, Some, None, subst}
use Rattle.std.specs.Prelude.{MatchOption}
use Rattle.st_rules.specs.declared.names.DeclaredType.{DeclaredType}
use Rattle.name_resolution.proofs.PlaceLaws.{found_first}
use Rattle.name_resolution.proofs.tables.type_at.Goals as goal

pub returns : goal.returns
returns c = subst (λ (o : Option DeclaredType). MatchOption c.type_there.result (o ≡ None) (λ t. o ≡ Some t.now)) (found_first (λ t. t.name) c.args.table.now c.args.all.now c.args.name.now c.place_of.result c.requires c.place_of.ensures) c.type_there.ensures
