use Rattle.std.proofs.Common.{◌≤◌, length, arith}
use Rattle.class_tables.proofs.SettleLaws.{work_start}
use Rattle.class_tables.proofs.settle.start.Goals as goal

pub returns : goal.returns
returns c =
    let l : length c.args.rows.now ≤ c.larger.result = omega (arith, c.requires.count, c.larger.ensures.first) in
    work_start c.args.rows.now c.args.names c.larger.result c.in_ok-store.store c.in_ok-held.held.items c.in_ok-states.states.items c.requires.names c.in_ok-store.ensures.empty c.in_ok-store.ensures.fits
    c.larger.ensures.second l c.in_ok-held.ensures c.in_ok-states.ensures
