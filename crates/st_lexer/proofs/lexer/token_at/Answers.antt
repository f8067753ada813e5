use Rattle.std.proofs.Common.{◌∙◌}
use Rattle.st_lexer.proofs.LexLaws.{start_boundary, end_boundary, shown_there, told_there, token_step}
use Rattle.st_lexer.proofs.lexer.token_at.Goals as goal

pub range-requires-clause-start_boundary : goal.range-requires-clause-start_boundary
range-requires-clause-start_boundary c = λ _. start_boundary c.args.text.now c.args.place.at c.args.len c.args.kind c.args.terminal c.requires.within c.requires.begins

pub range-requires-clause-end_boundary : goal.range-requires-clause-end_boundary
range-requires-clause-end_boundary c = end_boundary c.args.text.now c.args.place.at c.args.len c.args.kind c.args.terminal c.utf8.text c.requires.within c.requires.begins

pub invariant_of-result : goal.invariant_of-result
invariant_of-result c = record { told = told_there c.args.text.now c.range.result.now c.args.place.at c.args.len c.args.kind c.args.terminal c.requires.begins c.range.ensures.value }

pub returns-clause-lexed : goal.returns-clause-lexed
returns-clause-lexed c =
    token_step c.args.text.now c.range.result.now c.args.place.at c.args.len c.args.place.line c.args.kind c.args.terminal c.requires.within c.requires.begins c.requires.counted
    (c.range.ensures.value ∙ shown_there c.args.text.now c.args.place.at c.args.len)
