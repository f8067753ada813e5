use Rattle.std.proofs.Common.{sym, ap}
use Rattle.std.specs.Prelude.{true}
use Rattle.st_rules.specs.Named.{first_place}
use Rattle.st_rules.specs.Scope.{value_names}
use Rattle.name_resolution.proofs.ClimbLaws.{table_at, no_table_at}
use Rattle.name_resolution.proofs.PlaceLaws.{found_place}
use Rattle.name_resolution.proofs.tables.value_at.Goals as goal

pub returns-in-Some : goal.returns-in-Some
returns-in-Some c = λ parts are. found_place c.in-Some.table.now _ c.args.name.now c.number_of.result (table_at (λ n. n) (λ n. true) value_names c.args.tables.now parts c.args.n c.in-Some.table.now are c.in-Some.ensures) c.number_of.ensures

pub returns-in-None : goal.returns-in-None
returns-in-None c = λ parts are. sym (ap (first_place c.args.name.now) (no_table_at (λ n. n) (λ n. true) value_names c.args.tables.now parts c.args.n are c.in-None.ensures))
