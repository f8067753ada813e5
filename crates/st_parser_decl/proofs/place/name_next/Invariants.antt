use Rattle.std.proofs.Common.{◌≡◌, length}
use Rattle.st_tree.specs.Headings.{name_at}
use Rattle.st_parser_decl.proofs.place.name_next.Given as goal

abbrev pub invariant-loop-terminal : goal.invariant-loop-terminal
invariant-loop-terminal l = name_at l.fn.tokens ≡ name_at l.tokens

abbrev pub decreases-loop-terminal : goal.decreases-loop-terminal
decreases-loop-terminal l = length l.tokens
