use Rattle.std.specs.Prelude.{◌≡◌, map, take}
use Rattle.console.proofs.console_words.words.lend.Given as goal

abbrev pub invariant-loop-word : goal.invariant-loop-word
invariant-loop-word l = map (λ word. word.now) l.lent.items ≡ take l.word-index l.words
