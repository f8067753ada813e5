use Rattle.std.proofs.Common.{arith}
use Rattle.type_resolution.proofs.told_names.RoundLaws.{rounds_next, rounds_ended}
use Rattle.type_resolution.proofs.told_names.told.tell_groups.Goals as goal

pub returns-then-len-clause-told : goal.returns-then-len-clause-told
returns-then-len-clause-told c =
    let a = c.if-len.true in
    let b = c.len.ensures in
    let d = c.len-in-rounds.ensures in
    rounds_ended c.args.classes.now.decls c.rounds.groups.items c.deref.result.now c.in_ok-left.left.items c.rounds.tables c.pass.new.tables c.deref.ensures.value (omega (arith, a, b, d)) c.rounds.invariant c.in_ok-left.ensures

pub rounds-preserved : goal.rounds-preserved
rounds-preserved c =
    rounds_next c.args.classes.now.decls c.rounds.groups.items c.deref.result.now c.in_ok-left.left.items c.rounds.tables c.pass.new.tables c.deref.ensures.value c.rounds.invariant c.in_ok-left.ensures
