use Rattle.plc_num.proofs.BitLaws.{value_of_bits-has, HasBits-unique}
use Rattle.plc_num.proofs.OperationLaws.{complement-conjunction, complement-disjunction}
use Rattle.plc_num.proofs.laws.bit_laws.Goals as goal

pub returns-clause-has : goal.returns-clause-has
returns-clause-has c = value_of_bits-has

pub returns-clause-one : goal.returns-clause-one
returns-clause-one c = HasBits-unique

pub returns-clause-not_both : goal.returns-clause-not_both
returns-clause-not_both c = complement-conjunction

pub returns-clause-neither : goal.returns-clause-neither
returns-clause-neither c = complement-disjunction
