use Rattle.std.proofs.Common.{◌/◌, length, arith}
use Rattle.std.proofs.lemmas.Grind.{common_steps}
use Rattle.cycle_journal.proofs.PaddingLaws.{padded}
use Rattle.cycle_journal.proofs.outputs.Outputs.from_hex.Goals as goal

pub invariant_of-result : goal.invariant_of-result
invariant_of-result c = padded c.decode_to_slice.new.out (length c.args.digits.now / 2) (omega arith) (grind (arith, common_steps))
