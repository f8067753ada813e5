use Rattle.std.proofs.Common.{◌≡◌, ℕ, Option, Some, None, subst, ap}
use Rattle.std.specs.Prelude.{MatchOption, true}
use Rattle.st_rules.specs.declared.names.DeclaredField.{DeclaredField}
use Rattle.st_rules.specs.Scope.{field_list, field_from}
use Rattle.name_resolution.specs.Private.Places.{items_at}
use Rattle.name_resolution.proofs.ClimbLaws.{table_at, no_table_at}
use Rattle.name_resolution.proofs.PlaceLaws.{found_field}
use Rattle.name_resolution.proofs.tables.field_at.Goals as goal

pub returns-in-Some : goal.returns-in-Some
returns-in-Some c =
    let found = rw c.fields_at.ensures at c.field_there.ensures in
    subst
    (λ (o : Option (ℕ × DeclaredField)). MatchOption c.field_there.result (o ≡ None) (λ x. o ≡ Some (x.0, x.1.now)))
    (found_field c.in-Some.table.now (items_at field_list c.args.parts.now c.args.n) c.args.name.now c.number_of.result
    (table_at (λ f. f.name) (λ f. true) field_list c.args.tables.now c.args.parts.now c.args.n c.in-Some.table.now c.requires c.in-Some.ensures) c.number_of.ensures)
    found

pub returns-in-None : goal.returns-in-None
returns-in-None c = ap (field_from 0 c.args.name.now) (no_table_at (λ f. f.name) (λ f. true) field_list c.args.tables.now c.args.parts.now c.args.n c.requires c.in-None.ensures)
