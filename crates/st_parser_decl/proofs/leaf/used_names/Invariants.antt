use Rattle.std.proofs.Common.{length}
use Rattle.st_tree.specs.Declarations.{used}
use Rattle.st_parser_decl.specs.Private.Rules.{word}
use Rattle.st_parser_decl.proofs.Steps.{ListSoFar}
use Rattle.st_parser_decl.proofs.leaf.used_names.Given as goal

abbrev pub invariant-loop-alloc : goal.invariant-loop-alloc
invariant-loop-alloc l = ListSoFar used word l.found l.fn.tokens l.tokens

abbrev pub decreases-loop-alloc : goal.decreases-loop-alloc
decreases-loop-alloc l = length l.tokens
