-- What is found out where a constant is wanted, part by part.
use Rattle.std.proofs.Common.{◌≡◌, ℕ, [], ◌∷◌, Option, Some, None, ◌++◌, refl, sym, ap, ◌∙◌}
use Rattle.plc_text.specs.declared.code.Code.{Code}
use Rattle.st_types.specs.declared.st_type.StType.{StType}
use Rattle.st_tree.specs.declared.expression.Expr.{Expr}
use Rattle.st_tree.specs.declared.program.Note.{Note}
use Rattle.st_tree.specs.Expression.{Expression, expression_of}
use Rattle.st_rules.specs.declared.asked.Asked.{Asked}
use Rattle.st_rules.specs.Faults.{Faults, least, earlier}
use Rattle.st_rules.specs.Scope.{Scope}
use Rattle.st_rules.specs.Calls.{value_unsuited}
use Rattle.st_rules.specs.Expressions.{line_of, type_of, typed, faults, too_many_operators}
use Rattle.st_rules.proofs.FaultLaws.{least-append}
use Rattle.st_unit_rules.specs.declared_names.Constants.{Outcome, comes_to, divides_by_zero, cannot_be_told, if_none, value_faults, constant_faults, constant_value, no_constant_part, zero_divisor}
use Rattle.constant_folding.specs.constant_values.Outcome.{outcome}
use Rattle.constant_folding.specs.declared.constant_values.outcome.Outcome.{Outcome as Held}
use Rattle.st_check_expr.specs.declared.constants.Constant.{Constant}
use Rattle.st_check_expr.specs.Constants.{IsConstant}
use Rattle.st_check_expr.specs.Private.Constants.{number_found, own_least}

none_broken : (v : Outcome) → number_found None v ≡ if_none [] v
none_broken (comes_to z) = refl
none_broken (divides_by_zero l) = refl
none_broken cannot_be_told = refl

some_broken : (f : Code × ℕ) (o : Option (Code × ℕ)) (v : Outcome) → number_found (earlier (Some f) o) v ≡ None
some_broken f None v = refl
some_broken f (Some g) v = refl

pub number_is : (fs : Faults) (v : Outcome) → number_found (least fs) v ≡ if_none fs v
number_is [] v = none_broken v
number_is (f ∷ fs) v = some_broken f (least fs) v

module _ (s : Scope) (asked : Asked) (e : Expression ℕ) where
  pub constant_found : (c : Constant) (t : Option StType) (line : ℕ) (broken of_value of_parts of_operators : Option (Code × ℕ)) (y : Expr Note) (v : Held) → t ≡ type_of s asked e → broken ≡ least (faults s asked e) → expression_of y ≡ typed s asked e → line ≡ line_of e
      → of_value ≡ least (value_unsuited s line asked t) → of_parts ≡ least (no_constant_part s e) → of_operators ≡ least (too_many_operators e) → outcome v ≡ constant_value s asked e → c.told ≡ t
      → ((z : Scope) → c.least ≡ earlier (own_least z broken of_value of_parts (outcome v)) of_operators) → c.tree ≡ y → c.value ≡ v → ((z : Scope) → c.number ≡ number_found (own_least z broken of_value of_parts (outcome v)) (outcome v))
      → IsConstant c s asked e
  unfolding constant_faults
  constant_found c t line broken of_value of_parts of_operators y v g b q l u p o k wt wl we wv wn = record {
    told = wt ∙ g;
    least = wl s ∙ ap (λ y. earlier y of_operators) own ∙ ap (earlier (least (value_faults s asked e))) o ∙ sym (least-append (value_faults s asked e) (too_many_operators e));
    tree = ap expression_of we ∙ q;
    value = ap outcome wv ∙ k;
    number = wn s ∙ ap (λ x. number_found x (outcome v)) own ∙ ap (number_found (least (value_faults s asked e))) k ∙ number_is (value_faults s asked e) (constant_value s asked e);
  }
    where
      unsuited : of_value ≡ least (value_unsuited s (line_of e) asked (type_of s asked e))
      unsuited = u ∙ ap (λ n. least (value_unsuited s n asked t)) l ∙ ap (λ z. least (value_unsuited s (line_of e) asked z)) g

      first : earlier broken of_value ≡ least (faults s asked e ++ value_unsuited s (line_of e) asked (type_of s asked e))
      first = ap (λ y. earlier y of_value) b ∙ ap (earlier (least (faults s asked e))) unsuited ∙ sym (least-append (faults s asked e) (value_unsuited s (line_of e) asked (type_of s asked e)))

      second : earlier (earlier broken of_value) of_parts ≡ least (faults s asked e ++ value_unsuited s (line_of e) asked (type_of s asked e) ++ no_constant_part s e)
      second =
          ap (λ y. earlier y of_parts) first
          ∙ ap (earlier (least (faults s asked e ++ value_unsuited s (line_of e) asked (type_of s asked e)))) p
          ∙ sym (least-append (faults s asked e ++ value_unsuited s (line_of e) asked (type_of s asked e)) (no_constant_part s e))

      own : own_least s broken of_value of_parts (outcome v) ≡ least (value_faults s asked e)
      own =
          ap (λ y. earlier y (least (zero_divisor s (outcome v)))) second
          ∙ ap (λ z. earlier (least (faults s asked e ++ value_unsuited s (line_of e) asked (type_of s asked e) ++ no_constant_part s e)) (least (zero_divisor s z))) k
          ∙ sym (least-append (faults s asked e ++ value_unsuited s (line_of e) asked (type_of s asked e) ++ no_constant_part s e) (zero_divisor s (constant_value s asked e)))
