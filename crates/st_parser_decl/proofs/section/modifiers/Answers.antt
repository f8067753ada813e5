use Rattle.std.proofs.Common.{◌∙◌}
use Rattle.st_parser_decl.proofs.SectionSteps as t
use Rattle.st_parser_decl.proofs.Steps as r
use Rattle.st_parser_decl.proofs.section.modifiers.Goals as goal

pub returns-clause-ok : goal.returns-clause-ok
returns-clause-ok c = r.each_read c.loop-modifier.found c.loop-modifier.invariant (t.word_begins c.args.words c.loop-modifier.tokens ∙ c.in_default.ensures.none)
