use Rattle.std.proofs.Common.{length}
use Rattle.st_tree.specs.Grammar.{name}
use Rattle.st_parser_decl.specs.Private.Rules.{word}
use Rattle.st_parser_decl.proofs.Steps.{ListSoFar}
use Rattle.st_parser_decl.proofs.leaf.names.Given as goal

abbrev pub invariant-loop-alloc : goal.invariant-loop-alloc
invariant-loop-alloc l = ListSoFar name word l.found l.fn.tokens l.tokens

abbrev pub decreases-loop-alloc : goal.decreases-loop-alloc
decreases-loop-alloc l = length l.tokens
