use Rattle.plc_num.specs.Bits.{conjunction}
use Rattle.run_steps.proofs.Numbers.{combined}
use Rattle.run_steps.proofs.operations.both.Goals as goal

pub returns : goal.returns
returns c =
    combined conjunction c.args.e c.number_in.result c.number_in-2.result _ _ c.conjunction.result (record { sfits = c.number_in.type_inv }) (record { sfits = c.number_in-2.type_inv }) (record { sfits = c.conjunction.type_inv })
    c.number_in.ensures c.number_in-2.ensures c.conjunction.ensures
