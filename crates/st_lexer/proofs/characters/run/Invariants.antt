use Rattle.std.proofs.Common.{◌≡◌, ◌+◌, drop}
use Rattle.std.specs.List.{prefix_len}
use Rattle.st_lexer.specs.Private.Characters.{test_of}
use Rattle.st_lexer.proofs.characters.run.Given as goal

abbrev pub invariant-loop-i : goal.invariant-loop-i
invariant-loop-i l = l.i + prefix_len (test_of l.class) (drop l.i l.text) ≡ prefix_len (test_of l.class) l.text
