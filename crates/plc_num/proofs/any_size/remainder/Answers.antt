use Rattle.std.proofs.Common.{ap, sym, ◌∙◌}
use Rattle.std.specs.Int.{w128}
use Rattle.std.proofs.lemmas.Int.{to_z-of_z}
use Rattle.plc_num.specs.Arithmetic.{remainder}
use Rattle.plc_num.specs.Wrapping.{wrapped}
use Rattle.plc_num.proofs.Machine.{remainder_is}
use Rattle.plc_num.proofs.Wide.{minus_one, nothing_left}
use Rattle.plc_num.proofs.any_size.remainder.Goals as goal

pub returns-then-b-eqminus1 : goal.returns-then-b-eqminus1
returns-then-b-eqminus1 c =
    to_z-of_z w128 c.wrap.result (record { sfits = c.wrap.type_inv }) ∙ c.wrap.ensures.value
    ∙ sym (ap (remainder c.args.e c.args.a) (minus_one c.args.b c.ranges.b c.if-b-eqminus1.true) ∙ ap (wrapped c.args.e) (nothing_left c.args.a))

pub returns : goal.returns
returns c = remainder_is _ _ _ _ c.ranges.a c.ranges.b (record { sfits = c.wrap-2.type_inv }) c.wrap-2.ensures.value
