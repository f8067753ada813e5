use Rattle.std.proofs.Common.{List, ◌<◌, ◌≤◌, length, get_or, ap, ◌∙◌, subst}
use Rattle.program_tables.specs.declared.st_initial.variables.Variable.{Variable}
use Rattle.change_names.specs.change_paths.Private.Places.{FindsIn}
use Rattle.change_names.proofs.change_paths.NumberLaws.{table_next, tables_found}
use Rattle.change_names.proofs.change_paths.numbers.all_places.Goals as goal

pub loop-list-preserved : goal.loop-list-preserved
loop-list-preserved c =
    table_next c.args.lists.now c.loop-list.list-index c.loop-list.tables.items c.push.new.self.items c.in_ok-table.table c.list-item.result
    (subst (λ (xs : List (List Variable)). c.loop-list.list-index < length xs) c.as_slice-list-items.ensures c.loop-list-test.true)
    (c.list-item.is ∙ ap (λ xs. get_or xs c.loop-list.list-index c.list-item.result) c.as_slice-list-items.ensures) c.loop-list.invariant
    (subst (λ (vs : List Variable). FindsIn c.in_ok-table.table vs) c.as_slice.ensures c.in_ok-table.ensures) c.in_ok-push.ensures.items

pub returns : goal.returns
returns c = tables_found c.args.lists.now c.loop-list.list-index c.loop-list.tables.items (subst (λ (xs : List (List Variable)). length xs ≤ c.loop-list.list-index) c.as_slice-list-items.ensures c.loop-list-test.false) c.loop-list.invariant
