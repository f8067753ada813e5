use Rattle.valid_emitted.proofs.Valid.{routines_valid}
use Rattle.valid_emitted.proofs.laws.valid_emitted_laws.Goals as goal

pub returns : goal.returns
returns c = λ p fine tables r is start code x rets enters. routines_valid p fine tables r is start code x rets enters
