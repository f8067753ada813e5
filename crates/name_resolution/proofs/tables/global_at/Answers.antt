use Rattle.std.proofs.Common.{◌≡◌, Option, Some, None, subst}
use Rattle.std.specs.Prelude.{MatchOption}
use Rattle.st_rules.specs.declared.names.DeclaredGlobal.{DeclaredGlobal}
use Rattle.st_rules.specs.Scope.{global_name}
use Rattle.name_resolution.proofs.PlaceLaws.{found_first}
use Rattle.name_resolution.proofs.tables.global_at.Goals as goal

pub returns : goal.returns
returns c = subst (λ (o : Option DeclaredGlobal). MatchOption c.global_there.result (o ≡ None) (λ t. o ≡ Some t.now)) (found_first global_name c.args.table.now c.args.all.now c.args.name.now c.place_of.result c.requires c.place_of.ensures) c.global_there.ensures
