use Rattle.plc_num.specs.Bits.{disjunction}
use Rattle.run_steps.proofs.Numbers.{combined}
use Rattle.run_steps.proofs.operations.either.Goals as goal

pub returns : goal.returns
returns c =
    combined disjunction c.args.e c.number_in.result c.number_in-2.result _ _ c.disjunction.result (record { sfits = c.number_in.type_inv }) (record { sfits = c.number_in-2.type_inv }) (record { sfits = c.disjunction.type_inv })
    c.number_in.ensures c.number_in-2.ensures c.disjunction.ensures
