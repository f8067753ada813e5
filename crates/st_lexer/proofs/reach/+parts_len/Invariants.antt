use Rattle.std.proofs.Common.{length}
use Rattle.st_lexer.proofs.reach.+parts_len.Given as goal

abbrev pub decreases-parts_len : goal.decreases-parts_len
decreases-parts_len l = length l.units.now
