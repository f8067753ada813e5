use Rattle.std.proofs.Common.{◌∙◌}
use Rattle.graph_reach.proofs.ReachLaws.{restored, row_short, row_joins}
use Rattle.graph_reach.proofs.reach.join_rows.Goals as goal

pub join_from-changed-requires : goal.join_from-changed-requires
join_from-changed-requires c =
    row_short c.args.rows.now.items c.deref.result.now c.args.node c.args.other c.replace-row.result c.index_mut.result.now c.replace-row.new.dest
    c.requires.within c.replace-row.ensures.value c.index_mut.ensures.value (c.replace-row.ensures.after ∙ c.none.ensures) c.deref.ensures.value c.requires.even

pub returns-clause-joins : goal.returns-clause-joins
returns-clause-joins c =
    row_joins c.args.rows.now.items c.deref.result.now c.args.node c.args.other c.replace-row.result c.index_mut.result.now c.replace-row.new.dest
    c.requires.within c.replace-row.ensures.value c.index_mut.ensures.value (c.replace-row.ensures.after ∙ c.none.ensures) c.deref.ensures.value c.join_from-changed.new.row c.join_from-changed.ensures.joins

pub returns-clause-still : goal.returns-clause-still
returns-clause-still c = λ h. restored c.args.rows.now.items c.args.node _ _ _ (c.join_from-changed.ensures.still h ∙ c.replace-row.ensures.value ∙ c.index_mut.ensures.value)
