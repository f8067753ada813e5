use Rattle.std.proofs.Common.{length}
use Rattle.st_tree.specs.Declarations.{modifier_in}
use Rattle.st_parser_decl.specs.Private.Sections.{allowed, one_word}
use Rattle.st_parser_decl.proofs.Steps.{EachSoFar}
use Rattle.st_parser_decl.proofs.section.modifiers.Given as goal

abbrev pub invariant-loop-modifier : goal.invariant-loop-modifier
invariant-loop-modifier l = EachSoFar (modifier_in (allowed l.fn.words)) (one_word l.fn.words) l.found l.fn.tokens l.tokens

abbrev pub decreases-loop-modifier : goal.decreases-loop-modifier
decreases-loop-modifier l = length l.tokens
