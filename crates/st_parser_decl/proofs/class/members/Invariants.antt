use Rattle.std.proofs.Common.{length}
use Rattle.st_tree.specs.Declarations.{member}
use Rattle.st_parser_decl.specs.Private.Rules as w
use Rattle.st_parser_decl.proofs.Steps.{EachSoFar}
use Rattle.st_parser_decl.proofs.class.members.Given as goal

abbrev pub invariant-loop-found : goal.invariant-loop-found
invariant-loop-found l = EachSoFar member w.member l.found l.fn.tokens l.tokens

abbrev pub decreases-loop-found : goal.decreases-loop-found
decreases-loop-found l = length l.tokens
