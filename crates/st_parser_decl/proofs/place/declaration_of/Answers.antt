use Rattle.std.proofs.Common.{sym, ◌∙◌}
use Rattle.st_tree.specs.Headings.{name_at, declaration_of}
use Rattle.st_lexer.specs.Lexeme.{lexemes_of}
use Rattle.st_parser_decl.proofs.PlaceLaws as l
use Rattle.st_parser_decl.proofs.place.declaration_of.Goals as goal

pub returns-then-is_heading-clause-ok : goal.returns-then-is_heading-clause-ok
returns-then-is_heading-clause-ok c =
    let next = rw c.new-tokens.ensures at (sym c.in-Some.ensures) in
    let behind = rw c.new-tokens.ensures at c.bump.ensures in
    l.ok_name c.name_next.result (name_at c.bump.new.self) (declaration_of c.args.place (lexemes_of c.args.lexemes.now))
    (sym (l.passed-found c.args.lexemes.now c.args.place c.search.at c.in-Some.terminal _ c.search-test.true c.search.invariant next (sym c.is_heading.ensures ∙ c.if-is_heading.true) behind))
    c.name_next.ensures.ok

pub search-preserved-else-is_heading : goal.search-preserved-else-is_heading
search-preserved-else-is_heading c =
    let next = rw c.new-tokens.ensures at (sym c.in-Some.ensures) in
    l.passed-next c.args.lexemes.now c.args.place c.search.at c.search-test.true c.search.invariant (l.not_heading _ c.in-Some.terminal next (sym c.is_heading.ensures ∙ c.if-is_heading.false))

pub search-preserved : goal.search-preserved
search-preserved c =
    let next = rw c.new-tokens.ensures at (sym c.in_default.ensures) in
    l.passed-next c.args.lexemes.now c.args.place c.search.at c.search-test.true c.search.invariant (l.nothing_next _ next)
