use Rattle.std.proofs.Common.{◌∙◌}
use Rattle.std.specs.Int.{w128}
use Rattle.std.proofs.lemmas.Int.{to_z-of_z}
use Rattle.plc_num.specs.Bits.{bit, exclusive_or}
use Rattle.plc_num.proofs.BitLaws.{bits_kept, value_of_bits-is}
use Rattle.plc_num.proofs.bits.xor.Goals as goal

pub returns-clause-bits : goal.returns-clause-bits
returns-clause-bits c =
    let a = to_z-of_z w128 c.args.a c.ranges.a in
    let b = to_z-of_z w128 c.args.b c.ranges.b in
    bits_kept c.args.e c.one.result c.wrap.result (λ k. exclusive_or (bit c.args.a k) (bit c.args.b k)) (record { sfits = c.one.type_inv }) (record { sfits = c.wrap.type_inv }) c.wrap.ensures.wraps
    (λ k l. c.one.ensures k l ∙ (λ i. exclusive_or (bit (a i) k) (bit (b i) k)))

pub returns-clause-value : goal.returns-clause-value
returns-clause-value c = value_of_bits-is _ _ _ (returns-clause-bits c)
