use Rattle.std.proofs.Common.{◌≡◌, ◌∙◌, rules, ap, subst, sym, false, map, IfOk, ℕ, List}
use Rattle.std.specs.List.{list_any}
use Rattle.console.specs.console_words.Words.{order_named}
use Rattle.console.specs.console_words.Private.Words.{is_flag}
use Rattle.console.proofs.console_words.words.order_of.Goals as goal

pub read-requires : goal.read-requires
read-requires c =
    let lent : map (λ word. word.now) c.as_slice.result.now ≡ c.args.words.now = ap (map (λ word. word.now)) c.as_slice.ensures.value ∙ c.in_ok-lent.ensures in
    let none : c.has_flag.result ≡ false = search rules in
    ap (list_any is_flag) lent ∙ sym c.has_flag.ensures ∙ none

pub returns : goal.returns
returns c =
    let lent : map (λ word. word.now) c.as_slice.result.now ≡ c.args.words.now = ap (map (λ word. word.now)) c.as_slice.ensures.value ∙ c.in_ok-lent.ensures in
    subst (λ (words : List (List ℕ)). IfOk c.read.result (λ found. found ≡ order_named words)) lent c.read.ensures
