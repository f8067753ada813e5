use Rattle.plc_num.specs.Arithmetic.{product}
use Rattle.run_steps.proofs.Numbers.{combined}
use Rattle.run_steps.proofs.operations.multiplied.Goals as goal

pub returns : goal.returns
returns c =
    combined product c.args.e c.number_in.result c.number_in-2.result _ _ c.product.result (record { sfits = c.number_in.type_inv }) (record { sfits = c.number_in-2.type_inv }) (record { sfits = c.product.type_inv })
    c.number_in.ensures c.number_in-2.ensures c.product.ensures
