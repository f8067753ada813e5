use Rattle.std.proofs.Common.{length, get_or, arith}
use Rattle.class_tables.proofs.ClimbLaws.{let_go_within, let_go_step, let_go_end, get_or-self}
use Rattle.class_tables.proofs.chain.let_go.Goals as goal

pub index_mut-requires : goal.index_mut-requires
index_mut-requires c =
    let l = let_go_within (length c.args.held.now.items) c.args.classes.now c.args.held.now.items c.loop-class.class-index (get_or c.args.classes.now c.loop-class.class-index 0) c.requires c.loop-class-test.true (get_or-self c.args.classes.now c.loop-class.class-index 0) in
    omega (arith, l, c.loop-class.invariant.long)

pub loop-class-preserved : goal.loop-class-preserved
loop-class-preserved c =
    let e = get_or-self c.args.classes.now c.loop-class.class-index 0 in
    let l = let_go_within (length c.args.held.now.items) c.args.classes.now c.args.held.now.items c.loop-class.class-index (get_or c.args.classes.now c.loop-class.class-index 0) c.requires c.loop-class-test.true e in
    let_go_step (length c.args.held.now.items) c.args.classes.now c.loop-class.held.items c.loop-class.class-index (get_or c.args.classes.now c.loop-class.class-index 0) c.loop-class.invariant c.loop-class-test.true e l

pub returns : goal.returns
returns c = let_go_end (length c.args.held.now.items) c.args.classes.now c.loop-class.held.items c.loop-class.class-index c.loop-class-test.false c.loop-class.invariant
