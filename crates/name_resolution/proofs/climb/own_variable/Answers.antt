use Rattle.std.proofs.Common.{ap}
use Rattle.std.specs.Prelude.{filter}
use Rattle.st_rules.specs.Scope.{first_named}
use Rattle.name_resolution.proofs.ClimbLaws.{table_at, no_table_at}
use Rattle.name_resolution.proofs.climb.own_variable.Goals as goal

pub returns-in-Some : goal.returns-in-Some
returns-in-Some c = λ test are. (
    let f = rw c.variables_at_class.ensures at (c.variable_at.ensures test) in
    f (table_at (λ v. v.name) test (λ class. class.variables) c.args.tables.now c.args.classes.now c.args.class c.in-Some.table.now are c.in-Some.ensures)
    )

pub returns-in-None : goal.returns-in-None
returns-in-None c = λ test are.
    ap (λ vs. first_named (λ v. v.name) c.args.name.now (filter test vs)) (no_table_at (λ v. v.name) test (λ class. class.variables) c.args.tables.now c.args.classes.now c.args.class are c.in-None.ensures)
