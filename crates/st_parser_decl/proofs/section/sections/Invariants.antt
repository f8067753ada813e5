use Rattle.std.proofs.Common.{length}
use Rattle.st_tree.specs.Declarations.{vars}
use Rattle.st_parser_decl.specs.Private.Rules as w
use Rattle.st_parser_decl.proofs.Steps.{EachSoFar}
use Rattle.st_parser_decl.proofs.section.sections.Given as goal

abbrev pub invariant-loop-found : goal.invariant-loop-found
invariant-loop-found l = EachSoFar vars w.vars l.found l.fn.tokens l.tokens

abbrev pub decreases-loop-found : goal.decreases-loop-found
decreases-loop-found l = length l.tokens
