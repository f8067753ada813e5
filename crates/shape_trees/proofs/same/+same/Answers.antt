use Rattle.std.proofs.Common.{sym, ◌∙◌}
use Rattle.shape_trees.specs.Shape.{shape_of}
use Rattle.shape_trees.proofs.SameLaws.{unequal, same_next, same_stopped, structure_same, instance_same}
use Rattle.shape_trees.proofs.same.+same.Goals as goal

pub same_fields-returns-then-a-b : goal.same_fields-returns-then-a-b
same_fields-returns-then-a-b t c = unequal c.args.a.now c.args.b.now c.if-a-b.true

pub same_fields-returns-then-not-same_field : goal.same_fields-returns-then-not-same_field
same_fields-returns-then-not-same_field t c =
    same_stopped c.args.a.now c.args.b.now c.loop-k.k c.index-a-k.result c.index-b-k.result c.loop-k-test.true c.index-a-k.is c.index-b-k.is c.loop-k.invariant (sym c.same_field.ensures ∙ c.if-not-same_field.true)

pub same_fields-loop-k-preserved : goal.same_fields-loop-k-preserved
same_fields-loop-k-preserved t c =
    same_next c.args.a.now c.args.b.now c.loop-k.k c.index-a-k.result c.index-b-k.result c.loop-k-test.true c.index-a-k.is c.index-b-k.is c.loop-k.invariant (sym c.same_field.ensures ∙ c.if-not-same_field.false)

pub same_shape-returns-in-Structure : goal.same_shape-returns-in-Structure
same_shape-returns-in-Structure t c =
    structure_same c.args.shape.now c.in-Structure.field-0 c.in-Structure.name c.in-Structure.fields c.as_slice-in-Structure.result.now (shape_of c.args.other.now) c.is_structure.result c.in-Structure.is c.as_slice-in-Structure.ensures c.is_structure.ensures

pub same_shape-returns-in-Instance : goal.same_shape-returns-in-Instance
same_shape-returns-in-Instance t c =
    instance_same c.args.shape.now c.in-Instance.class c.in-Instance.name c.in-Instance.fields c.as_slice-in-Instance.result.now (shape_of c.args.other.now) c.is_instance.result c.in-Instance.is c.as_slice-in-Instance.ensures c.is_instance.ensures
