use Rattle.plc_num.proofs.OperationLaws.{rest_smaller, rest_positive, rest_negative, quotient_toward_zero}
use Rattle.plc_num.proofs.laws.division_laws.Goals as goal

pub returns-clause-toward_zero : goal.returns-clause-toward_zero
returns-clause-toward_zero c = quotient_toward_zero

pub returns-clause-smaller : goal.returns-clause-smaller
returns-clause-smaller c = rest_smaller

pub returns-clause-positive : goal.returns-clause-positive
returns-clause-positive c = rest_positive

pub returns-clause-negative : goal.returns-clause-negative
returns-clause-negative c = rest_negative
