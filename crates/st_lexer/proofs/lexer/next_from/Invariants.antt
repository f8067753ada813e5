use Rattle.std.proofs.Common.{◌≡◌, ◌≤◌, ◌-◌, false, [], length, drop}
use Rattle.plc_text.specs.Lines.{line_of}
use Rattle.plc_text.specs.Words.{begins, is_blank}
use Rattle.st_tree.specs.Token.{Lexes}
use Rattle.st_lexer.proofs.lexer.next_from.Given as goal

-- what was passed so far holds no token, and no white space comes next
abbrev pub invariant-pieces : goal.invariant-pieces
invariant-pieces l = record {
  within : l.start.at ≤ length l.text;
  counted : l.start.line ≡ line_of l.text l.start.at;
  passed : Lexes l.text l.fn.place.at [] l.start.at;
  inked : begins is_blank (drop l.start.at l.text) ≡ false;
}

abbrev pub decreases-pieces : goal.decreases-pieces
decreases-pieces l = length l.text - l.start.at
