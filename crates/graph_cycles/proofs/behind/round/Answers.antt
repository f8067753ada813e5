use Rattle.std.proofs.Common.{◌≡◌, true, false, arith, get_or, ◌∙◌, ap}
use Rattle.std.proofs.lemmas.Option.{slice_get-get_or, slice_get_within}
use Rattle.graph_cycles.specs.Graph.{HasEdge}
use Rattle.graph_cycles.specs.Private.Ways.{mark_count}
use Rattle.graph_cycles.proofs.BehindLaws.{closed_more}
use Rattle.graph_cycles.proofs.behind.round.Goals as goal
use Rattle.graph_cycles.proofs.behind.round.Goals.{then-extend, else-extend}

pub loop-edge-preserved : goal.loop-edge-preserved
loop-edge-preserved c =
    let d = get_or c.args.edges.now c.loop-edge.edge-index (record { from = 0; to = 0 }) in
    let has : HasEdge c.args.edges.now d.from d.to = record { at = c.loop-edge.edge-index; is = slice_get-get_or c.args.edges.now c.loop-edge.edge-index _ c.loop-edge-test.true } in
    elim c.if-extend.branch [
      | then-extend w ↦ record {
        long = c.extend.ensures.long ∙ c.loop-edge.invariant.long;
        sound = λ goals s. c.extend.ensures.sound c.args.edges.now goals has (c.loop-edge.invariant.sound goals s);
        grows = λ i h. c.extend.ensures.grows i (c.loop-edge.invariant.grows i h);
        stays = λ h. cc (h, w.changed-is);
        closed = λ h. cc (h, w.changed-is);
        least = let m = c.extend.ensures.more w.if-extend.true in omega arith;
        more = λ h. let m = c.extend.ensures.more w.if-extend.true in omega arith;
      }
      | else-extend w ↦
          let same = c.extend.ensures.stays w.if-extend.false in
          record {
            long = c.extend.ensures.long ∙ c.loop-edge.invariant.long;
            sound = λ goals s. c.extend.ensures.sound c.args.edges.now goals has (c.loop-edge.invariant.sound goals s);
            grows = λ i h. c.extend.ensures.grows i (c.loop-edge.invariant.grows i h);
            stays = λ h. let was : c.loop-edge.changed ≡ false = cc (h, w.changed-is) in same ∙ c.loop-edge.invariant.stays was;
            closed = λ h. let was : c.loop-edge.changed ≡ false = cc (h, w.changed-is) in closed_more c.args.edges.now c.loop-edge.marks.items c.args.marks.now.items c.loop-edge.edge-index (record { from = 0; to = 0 }) (c.loop-edge.invariant.stays was) (c.loop-edge.invariant.closed was) (c.extend.ensures.closed w.if-extend.false);
            least = let m = c.loop-edge.invariant.least in omega (arith, ap mark_count same);
            more = λ h. let was : c.loop-edge.changed ≡ true = cc (h, w.changed-is) in let m = c.loop-edge.invariant.more was in omega (arith, ap mark_count same);
          }
    ]

pub returns-clause-closed : goal.returns-clause-closed
returns-clause-closed c = λ h k e g. let b = slice_get_within c.args.edges.now k e g in c.loop-edge.invariant.closed h k (omega arith) e g
