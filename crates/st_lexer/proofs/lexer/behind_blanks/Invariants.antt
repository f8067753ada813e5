use Rattle.std.proofs.Common.{◌≡◌, ◌≤◌, ◌-◌, [], length}
use Rattle.plc_text.specs.Lines.{line_of}
use Rattle.st_tree.specs.Token.{Lexes}
use Rattle.st_lexer.proofs.lexer.behind_blanks.Given as goal

abbrev pub invariant-blanks : goal.invariant-blanks
invariant-blanks l = record {
  within : l.at ≤ length l.text;
  counted : l.line ≡ line_of l.text l.at;
  passed : Lexes l.text l.fn.place.at [] l.at;
}

abbrev pub decreases-blanks : goal.decreases-blanks
decreases-blanks l = length l.text - l.at
