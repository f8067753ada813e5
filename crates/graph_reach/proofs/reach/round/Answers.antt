use Rattle.std.proofs.Common.{◌≡◌, ℕ, List, sym, subst, get_or}
use Rattle.graph_reach.proofs.ReachLaws.{none_round, round_more, round_all}
use Rattle.graph_reach.proofs.reach.round.Goals as goal

pub loop-node-init : goal.loop-node-init
loop-node-init c = none_round c.args.lists.now c.args.rows.now.items c.requires.many c.requires.even

pub loop-node-preserved : goal.loop-node-preserved
loop-node-preserved c =
    let j = c.join_ahead-changed in
    let lists = c.args.lists.now in
    round_more lists c.args.rows.now.items c.loop-node.rows.items j.new.rows.items c.loop-node.node c.as_slice.result.now c.loop-node.changed j.result c.loop-node.invariant c.loop-node-test.true
    (subst (λ (x : List ℕ). x ≡ get_or lists c.loop-node.node x) (sym c.as_slice.ensures) c.index-lists-node.is) j.ensures.many j.ensures.even j.ensures.grows j.ensures.next j.ensures.sound j.ensures.still

pub returns-clause-next : goal.returns-clause-next
returns-clause-next c = round_all c.args.lists.now c.args.rows.now.items c.loop-node.rows.items c.loop-node.node c.loop-node.changed c.loop-node-test.false c.loop-node.invariant

pub returns-clause-grows : goal.returns-clause-grows
returns-clause-grows c = c.loop-node.invariant.grows

pub returns-clause-sound : goal.returns-clause-sound
returns-clause-sound c = c.loop-node.invariant.sound

pub returns-clause-still : goal.returns-clause-still
returns-clause-still c = c.loop-node.invariant.still
