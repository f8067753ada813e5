use Rattle.std.proofs.Common.{◌≡◌, ◌≤◌, ◌+◌, length, drop}
use Rattle.std.specs.Prelude.{filter}
use Rattle.std.specs.Option.{is_some}
use Rattle.st_rules.specs.Modifiers.{access_word}
use Rattle.check_names.proofs.name_spaces.words.count_access_words.Given as goal

abbrev pub invariant-loop-word : goal.invariant-loop-word
invariant-loop-word l = record {
  whole : l.count + length (filter (λ m. is_some (access_word m)) (drop l.word-index l.words)) ≡ length (filter (λ m. is_some (access_word m)) l.words);
  few : l.count ≤ l.word-index;
}
