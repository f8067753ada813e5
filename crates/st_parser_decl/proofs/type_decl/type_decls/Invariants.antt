use Rattle.std.proofs.Common.{length}
use Rattle.st_tree.specs.Declarations.{type_decl}
use Rattle.st_parser_decl.specs.Private.Rules as w
use Rattle.st_parser_decl.proofs.Steps.{EachSoFar}
use Rattle.st_parser_decl.proofs.type_decl.type_decls.Given as goal

abbrev pub invariant-loop-alloc : goal.invariant-loop-alloc
invariant-loop-alloc l = EachSoFar type_decl w.type_decl l.found l.fn.tokens l.tokens

abbrev pub decreases-loop-alloc : goal.decreases-loop-alloc
decreases-loop-alloc l = length l.tokens
