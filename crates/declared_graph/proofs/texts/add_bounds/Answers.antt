use Rattle.std.proofs.Common.{refl}
use Rattle.std.specs.Prelude.{flat_map}
use Rattle.st_tree.specs.Expression.{expression_of}
use Rattle.st_rules.proofs.ListLaws.{left_next, left_end}
use Rattle.st_unit_rules.specs.Cycles.{named_in}
use Rattle.declared_graph.specs.Private.Names.{all_named, named_in_bound}
use Rattle.declared_graph.proofs.NameLaws.{two_named}
use Rattle.declared_graph.proofs.texts.add_bounds.Goals as goal

pub loop-bound-preserved : goal.loop-bound-preserved
loop-bound-preserved c =
    left_next (flat_map named_in_bound) c.args.bounds.now c.loop-bound.bound-index c.bound-item.result (all_named c.loop-bound.list.items) _ (named_in_bound c.bound-item.result) _
    c.loop-bound-test.true c.bound-item.is refl (two_named (named_in (expression_of c.bound-item.result.low)) (named_in (expression_of c.bound-item.result.high)) (named_in_bound c.bound-item.result) (all_named c.loop-bound.list.items) _ _ refl c.in_ok-add_expression.ensures c.in_ok-add_expression-2.ensures) c.loop-bound.invariant

pub returns : goal.returns
returns c = left_end (flat_map named_in_bound) c.args.bounds.now c.loop-bound.bound-index (all_named c.loop-bound.list.items) _ refl c.loop-bound-test.false c.loop-bound.invariant
