use Rattle.std.proofs.Common.{◌≡◌, length}
use Rattle.st_unit_rules.specs.NameRules.{has_word_twice}
use Rattle.check_names.proofs.name_spaces.words.has_word_twice.Given as goal

abbrev pub invariant-words : goal.invariant-words
invariant-words l = has_word_twice l.left ≡ has_word_twice l.words

abbrev pub decreases-words : goal.decreases-words
decreases-words l = length l.left
