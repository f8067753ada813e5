use Rattle.std.proofs.Common.{◌≡◌, ◌<◌, ◌≤◌, ◌-◌, ◌+◌, length, arith, refl, ap, ◌∙◌}
use Rattle.class_tables.specs.Slots.{ends_at_top}
use Rattle.class_tables.specs.Private.Chain.{base_in}
use Rattle.class_tables.proofs.StoreLaws.{grows_same}
use Rattle.class_tables.proofs.SettleLaws.{chain_start, chain_down, chain_done, in_chain}
use Rattle.class_tables.proofs.settle.settle_chain.Goals as goal

pub loop-k-init : goal.loop-k-init
loop-k-init c =
    let l : length c.in_ok-classes.classes.items ≤ c.len-count.result - 0 = omega (arith, c.len-count.ensures) in
    chain_start c.args.rows.now c.args.names c.args.store.now c.in_ok-classes.classes.items c.args.store.now _ (c.len-count.result - 0) l c.requires.empty (grows_same c.args.store.now) refl refl refl refl
    (c.ends.ensures ∙ ap (ends_at_top (base_in c.args.rows.now)) c.deref.ensures.value)

pub absorb-requires-clause-within : goal.absorb-requires-clause-within
absorb-requires-clause-within c =
    let i : c.len-count.result - 1 - c.loop-k.k < length c.in_ok-classes.classes.items = omega (arith, c.len-count.ensures, c.loop-k-test.true) in
    in_chain c.args.rows.now c.requires.within c.args.class c.in_ok-classes.classes.items (c.len-count.result - 1 - c.loop-k.k) c.index.result.now c.requires.class c.in_ok-classes.ensures.chain i c.index.ensures

pub loop-k-preserved : goal.loop-k-preserved
loop-k-preserved c =
    let i : c.len-count.result - 1 - c.loop-k.k < length c.in_ok-classes.classes.items = omega (arith, c.len-count.ensures, c.loop-k-test.true) in
    let from : c.len-count.result - c.loop-k.k ≡ c.len-count.result - 1 - c.loop-k.k + 1 = omega (arith, c.loop-k-test.true) in
    let to : c.len-count.result - (c.loop-k.k + 1) ≡ c.len-count.result - 1 - c.loop-k.k = omega arith in
    chain_down c.args.rows.now c.args.names c.args.store.now c.in_ok-classes.classes.items c.loop-k.store c.absorb.new.store c.loop-k.state c.in_ok-state.state (c.len-count.result - 1 - c.loop-k.k) c.index.result.now _ _
    from to i c.index.ensures c.requires.keys c.loop-k.invariant c.in_ok-state.ensures.grows c.in_ok-state.ensures.maps c.in_ok-state.ensures.absorbs c.in_ok-state.ensures.ends

pub returns-clause-settled : goal.returns-clause-settled
returns-clause-settled c =
    let z : c.len-count.result - c.loop-k.k ≡ 0 = omega (arith, c.loop-k-test.false) in
    chain_done c.args.rows.now c.args.names c.args.store.now c.in_ok-classes.classes.items c.loop-k.store c.args.class c.loop-k.state (c.len-count.result - c.loop-k.k) z c.in_ok-classes.ensures.chain c.loop-k.invariant
