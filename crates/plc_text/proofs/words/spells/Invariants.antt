-- The bytes that are left spell what is left of the word, exactly where all of them spell all of it.
use Rattle.std.proofs.Common.{◌≡◌, drop}
use Rattle.plc_text.specs.Words as words
use Rattle.plc_text.proofs.words.spells.Given as goal

abbrev pub invariant-loop-i : goal.invariant-loop-i
invariant-loop-i l = words.spells (drop l.i l.word) (drop l.i l.text) ≡ words.spells l.word l.text
