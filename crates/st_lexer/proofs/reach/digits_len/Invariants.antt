use Rattle.std.proofs.Common.{◌≡◌, ◌≤◌, drop}
use Rattle.st_lexer.specs.Private.Reach as reach
use Rattle.st_lexer.specs.Private.Characters.{test_of}
use Rattle.st_lexer.proofs.reach.digits_len.Given as goal

abbrev pub invariant-loop-i : goal.invariant-loop-i
invariant-loop-i l = record {
  value : reach.spaced_from (test_of l.class) l.i l.len l.after_digit (drop l.i l.text) ≡ reach.digits_len (test_of l.class) l.text;
  within : l.len ≤ l.i;
}
