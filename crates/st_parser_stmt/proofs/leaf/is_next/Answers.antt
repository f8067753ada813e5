use Rattle.std.proofs.Common.{◌≡◌, ◌∙◌, sym, true, false, ap}
use Rattle.st_parser_stmt.specs.Private.Numbers.{same_terminal}
use Rattle.st_parser_stmt.proofs.NumberLaws.{same-is, same-self}
use Rattle.st_parser_stmt.proofs.leaf.is_next.Goals as goal

pub returns-in-Some-clause-yes : goal.returns-in-Some-clause-yes
returns-in-Some-clause-yes c = λ e. let same : c.in-Some.next ≡ c.args.terminal = same-is _ _ (sym c.is_same.ensures ∙ e) in cc

pub returns-in-Some-clause-not : goal.returns-in-Some-clause-not
returns-in-Some-clause-not c = λ e q.
    let same : c.in-Some.next ≡ c.args.terminal = cc in
    let bad : true ≡ false = sym (same-self c.in-Some.next) ∙ ap (λ t. same_terminal c.in-Some.next t) same ∙ sym c.is_same.ensures ∙ e in
    cc
