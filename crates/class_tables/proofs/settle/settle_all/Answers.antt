use Rattle.std.proofs.Common.{[], ◌∷◌, length, length-append, arith, ap, ◌∙◌}
use Rattle.class_tables.proofs.SettleLaws.{state_pushed}
use Rattle.class_tables.proofs.settle.settle_all.Goals as goal

pub loop-class-preserved : goal.loop-class-preserved
loop-class-preserved c = record {
  work = c.in_ok-state.ensures.work;
  settled = state_pushed c.args.rows.now c.args.names c.loop-class.work.store c.settle.new.work.store c.loop-class.states.items c.push.new.self.items c.loop-class.class c.in_ok-state.state c.in_ok-state.ensures.grows
      c.loop-class.invariant.settled c.loop-class.invariant.count c.in_ok-state.ensures.state c.in_ok-push.ensures.items;
  count =
      let l = ap length c.in_ok-push.ensures.items ∙ length-append c.loop-class.states.items (c.in_ok-state.state ∷ []) in
      omega (arith, l, c.loop-class.invariant.count);
}
