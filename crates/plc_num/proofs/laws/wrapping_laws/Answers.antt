use Rattle.plc_num.proofs.WrappingLaws.{wrapped-wraps, Wraps-unique, wrapped-again, wrapped-fits}
use Rattle.plc_num.proofs.laws.wrapping_laws.Goals as goal

pub returns-clause-wraps : goal.returns-clause-wraps
returns-clause-wraps c = wrapped-wraps

pub returns-clause-one : goal.returns-clause-one
returns-clause-one c = Wraps-unique

pub returns-clause-again : goal.returns-clause-again
returns-clause-again c = wrapped-again

pub returns-clause-kept : goal.returns-clause-kept
returns-clause-kept c = wrapped-fits
