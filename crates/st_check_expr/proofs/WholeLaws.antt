-- Whole expressions, and what they are refused for.
use Rattle.std.proofs.Common.{◌≡◌, ◌++◌, ℕ, [], Option, Some, None, ap, ◌∙◌, subst}
use Rattle.std.specs.Prelude.{MatchOption}
use Rattle.plc_text.specs.declared.code.Code.{Code}
use Rattle.st_tree.specs.Expression.{Expression}
use Rattle.st_rules.specs.declared.asked.Asked.{Asked}
use Rattle.st_rules.specs.Faults.{Faults, least, earlier, BreaksFirst}
use Rattle.st_rules.specs.Scope.{Scope}
use Rattle.st_rules.specs.Calls.{value_unsuited}
use Rattle.st_rules.specs.Expressions.{line_of, type_of, faults, too_many_operators, expression_faults}
use Rattle.st_rules.proofs.FaultLaws.{least_breaks_first}
use Rattle.check_nodes.specs.declared.found.Checked.{Checked}
use Rattle.check_nodes.specs.Found.{Checks}
use Rattle.st_check_expr.proofs.Parts.{joined}

pub whole_least : (s : Scope) (asked : Asked) (e : Expression ℕ) (x : Checked) (line : ℕ) (of_value inner operators found : Option (Code × ℕ)) → Checks x s asked e → line ≡ line_of e →
    of_value ≡ least (value_unsuited s line asked x.told) → inner ≡ earlier x.least of_value → operators ≡ least (too_many_operators e) → found ≡ earlier inner operators → found ≡ least (expression_faults s asked e)
whole_least s asked e x line of_value inner operators found f l v i o h =
    joined found inner operators (faults s asked e ++ value_unsuited s (line_of e) asked (type_of s asked e)) (too_many_operators e) h
    (joined inner x.least of_value (faults s asked e) (value_unsuited s (line_of e) asked (type_of s asked e)) i f.least
    (v ∙ ap (λ n. least (value_unsuited s n asked x.told)) l ∙ ap (λ t. least (value_unsuited s (line_of e) asked t)) f.told))
    o

pub nothing_broken : (fs : Faults) → least fs ≡ None → fs ≡ []
nothing_broken fs h = subst (λ (o : Option (Code × ℕ)). MatchOption o (fs ≡ []) (λ f. BreaksFirst fs f.0 f.1)) h (least_breaks_first fs)

pub broken_first : (fs : Faults) (f : Code × ℕ) → least fs ≡ Some f → BreaksFirst fs f.0 f.1
broken_first fs f h = subst (λ (o : Option (Code × ℕ)). MatchOption o (fs ≡ []) (λ g. BreaksFirst fs g.0 g.1)) h (least_breaks_first fs)
