use Rattle.std.proofs.Common.{◌∙◌}
use Rattle.std.specs.Prelude.{not}
use Rattle.std.specs.Int.{w128}
use Rattle.std.proofs.lemmas.Int.{to_z-of_z}
use Rattle.plc_num.specs.Bits.{bit}
use Rattle.plc_num.proofs.BitLaws.{bits_kept, value_of_bits-is}
use Rattle.plc_num.proofs.bits.not.Goals as goal

pub returns-clause-bits : goal.returns-clause-bits
returns-clause-bits c =
    let a = to_z-of_z w128 c.args.a c.ranges.a in
    bits_kept c.args.e c.opposite.result c.wrap.result (λ k. not (bit c.args.a k)) (record { sfits = c.opposite.type_inv }) (record { sfits = c.wrap.type_inv }) c.wrap.ensures.wraps
    (λ k l. c.opposite.ensures k l ∙ (λ i. not (bit (a i) k)))

pub returns-clause-value : goal.returns-clause-value
returns-clause-value c = value_of_bits-is _ _ _ (returns-clause-bits c)
