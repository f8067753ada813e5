use Rattle.std.proofs.Common.{sym, ◌∙◌}
use Rattle.st_parser_decl.proofs.SectionSteps as t
use Rattle.st_parser_decl.proofs.section.next_sort.Goals as goal

pub returns-clause-some : goal.returns-clause-some
returns-clause-some c = t.sorted c.args.tokens.now c.in_ok-peek.field-0 c.sort_of.result (sym c.peek.ensures ∙ c.in_ok-peek.was) c.sort_of.ensures

pub returns-clause-none : goal.returns-clause-none
returns-clause-none c = t.unsorted c.args.tokens.now c.in_ok-peek.field-0 c.sort_of.result (sym c.peek.ensures ∙ c.in_ok-peek.was) c.sort_of.ensures
