use Rattle.std.proofs.Common.{◌∙◌, ap, map}
use Rattle.st_tree.specs.Headings.{declaration_before}
use Rattle.st_lexer.specs.Token.{token_view}
use Rattle.st_lexer.proofs.SourceLaws.{smaller, found_more, found_all, found_bad, says_bad}
use Rattle.st_lexer.proofs.source.tokens.Goals as goal

pub tokens-smaller : goal.tokens-smaller
tokens-smaller c = smaller c.args.text.now _ _ _ _ c.tokens.invariant.source c.in-Token.ensures.given.0

pub tokens-preserved : goal.tokens-preserved
tokens-preserved c = record {
  source = c.next.ensures.same ∙ c.tokens.invariant.source;
  found = found_more c.args.text.now _ _ _ _ _ c.in-Token.token c.tokens.invariant.source c.tokens.invariant.found c.in-Token.ensures.given.0 c.in_ok-push-in-Token.ensures.items;
}

pub returns-in-End-clause-found : goal.returns-in-End-clause-found
returns-in-End-clause-found c = found_all c.args.text.now _ _ _ _ c.tokens.invariant.source c.tokens.invariant.found c.in-End.ensures.given.0 c.in-End.ensures.given.1

pub returns-in-Bad-clause-bad : goal.returns-in-Bad-clause-bad
returns-in-Bad-clause-bad c =
    let bad = found_bad c.args.text.now _ _ _ _ c.tokens.invariant.source c.tokens.invariant.found c.in-Bad.ensures.given.0 c.in-Bad.ensures.given.1 in
    says_bad c.args.text.now (map token_view c.tokens.found.items) _ _ _ _ _ _ bad
    (c.declaration-name.ensures ∙ ap (λ ts. declaration_before (map token_view ts)) c.deref.ensures.value) c.in-Bad.ensures.given.2 c.line_of.ensures c.denied-in-Bad.ensures
