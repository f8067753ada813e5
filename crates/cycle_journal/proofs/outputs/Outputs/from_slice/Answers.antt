use Rattle.std.proofs.Common.{length, arith}
use Rattle.std.proofs.lemmas.Grind.{common_steps}
use Rattle.cycle_journal.proofs.PaddingLaws.{padded}
use Rattle.cycle_journal.proofs.outputs.Outputs.from_slice.Goals as goal

pub invariant_of-result : goal.invariant_of-result
invariant_of-result c = padded c.copy_from_slice.new.self (length c.args.items.now) c.requires (grind (arith, common_steps))
