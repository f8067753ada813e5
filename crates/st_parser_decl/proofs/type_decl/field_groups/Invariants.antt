use Rattle.std.proofs.Common.{length}
use Rattle.st_tree.specs.Declarations.{field_group}
use Rattle.st_parser_decl.specs.Private.Rules as w
use Rattle.st_parser_decl.proofs.Steps.{EachSoFar}
use Rattle.st_parser_decl.proofs.type_decl.field_groups.Given as goal

abbrev pub invariant-loop-alloc : goal.invariant-loop-alloc
invariant-loop-alloc l = EachSoFar field_group w.field_group l.found l.fn.tokens l.tokens

abbrev pub decreases-loop-alloc : goal.decreases-loop-alloc
decreases-loop-alloc l = length l.tokens
