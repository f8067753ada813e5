use Rattle.std.proofs.Common.{length}
use Rattle.st_tree.specs.Declarations.{item}
use Rattle.st_parser_decl.specs.Private.Rules as w
use Rattle.st_parser_decl.proofs.Steps.{EachSoFar}
use Rattle.st_parser_decl.proofs.section.items.Given as goal

abbrev pub invariant-loop-alloc : goal.invariant-loop-alloc
invariant-loop-alloc l = EachSoFar item w.item l.found l.fn.tokens l.tokens

abbrev pub decreases-loop-alloc : goal.decreases-loop-alloc
decreases-loop-alloc l = length l.tokens
