use Rattle.st_lexer.proofs.FormLaws.{location_front}
use Rattle.st_lexer.proofs.reach.location_len.Goals as goal

pub returns-clause-within : goal.returns-clause-within
returns-clause-within c = rw (c.max-2.ensures, c.max.ensures, c.bit_len.ensures.value, c.bit_with_width_len.ensures, c.wide_len.ensures) (location_front c.args.text.now).within
