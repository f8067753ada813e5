use Rattle.std.proofs.Common.{subst, sym}
use Rattle.std.specs.Str.{IsAscii}
use Rattle.st_lexer.proofs.AsciiLaws.{word_front_ascii}
use Rattle.st_lexer.proofs.marks.old_name.Goals as goal

pub ascii-requires : goal.ascii-requires
ascii-requires c = subst IsAscii (sym c.word_front.ensures) (word_front_ascii c.behind_blanks.result.now)
