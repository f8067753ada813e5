use Rattle.std.proofs.Common.{List, Option, sym, subst}
use Rattle.class_tables.specs.declared.absorb.State.{State}
use Rattle.class_tables.specs.Private.Settle.{AreSettled}
use Rattle.class_tables.proofs.SettleLaws.{base_settled, work_grown}
use Rattle.class_tables.proofs.settle.next_state.Goals as goal

pub absorb-requires-clause-maps : goal.absorb-requires-clause-maps
absorb-requires-clause-maps c =
    let all = subst (λ (states : List (Option State)). AreSettled c.args.rows.now c.args.names c.args.work.now.store states) (sym c.deref.ensures.value) c.requires.work.settled in
    let base = c.in-Some.ensures c.args.names c.args.work.now.store all in
    base.2.maps

pub returns-in_ok-state-in-Some-clause-state : goal.returns-in_ok-state-in-Some-clause-state
returns-in_ok-state-in-Some-clause-state c =
    let all = subst (λ (states : List (Option State)). AreSettled c.args.rows.now c.args.names c.args.work.now.store states) (sym c.deref.ensures.value) c.requires.work.settled in
    let base = c.in-Some.ensures c.args.names c.args.work.now.store all in
    base_settled c.args.rows.now c.args.names c.args.work.now.store c.absorb.new.store c.args.class base.0 c.in-Some.below c.in_ok-state-in-Some.state c.requires.within base.1 base.2 c.requires.work.keys
    c.in_ok-state-in-Some.ensures.maps c.in_ok-state-in-Some.ensures.absorbs c.in_ok-state-in-Some.ensures.ends

pub returns-in_ok-state-in-Some-clause-work : goal.returns-in_ok-state-in-Some-clause-work
returns-in_ok-state-in-Some-clause-work c =
    work_grown c.args.rows.now c.args.names c.args.work.now.store c.absorb.new.store c.args.work.now.held.items c.args.work.now.held.items c.args.work.now.states.items c.in_ok-state-in-Some.ensures.grows c.requires.work.none_held c.requires.work

pub returns-in_ok-state-in-None-clause-work : goal.returns-in_ok-state-in-None-clause-work
returns-in_ok-state-in-None-clause-work c =
    work_grown c.args.rows.now c.args.names c.args.work.now.store c.settle_chain.new.store c.args.work.now.held.items c.settle_chain.new.held.items c.args.work.now.states.items c.in_ok-state-in-None.ensures.grows c.in_ok-state-in-None.ensures.held c.requires.work
