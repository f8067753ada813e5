use Rattle.std.proofs.Common.{refl}
use Rattle.plc_num.proofs.Machine.{kept_case, rest_is, low_case, high_case}
use Rattle.plc_num.proofs.wrapping.turned.Goals as goal

pub returns-then-fits : goal.returns-then-fits
returns-then-fits c = kept_case _ _ c.ranges.v (c.if-fits.ensures.0 refl)

pub returns-then-rest-highest : goal.returns-then-rest-highest
returns-then-rest-highest c =
    let rest = rest_is c.args.e c.args.v _ _ c.ranges.v (record { sfits = c.count.type_inv }) c.rem_euclid-rest.ensures.value c.count.ensures in
    low_case _ _ _ _ (record { sfits = c.rem_euclid-rest.type_inv }) (record { sfits = c.highest.type_inv }) rest c.highest.ensures c.if-rest-highest.true

pub returns-else-rest-highest : goal.returns-else-rest-highest
returns-else-rest-highest c =
    let rest = rest_is c.args.e c.args.v _ _ c.ranges.v (record { sfits = c.count.type_inv }) c.rem_euclid-rest.ensures.value c.count.ensures in
    high_case _ _ _ _ _ (record { sfits = c.rem_euclid-rest.type_inv }) (record { sfits = c.highest.type_inv }) (record { sfits = c.count-else-rest-highest.type_inv }) rest c.highest.ensures c.count-else-rest-highest.ensures c.if-rest-highest.false
