-- The look ahead, one operand after the other.
use Rattle.std.proofs.Common.{◌≡◌, ℕ, Bool, true, false, Option, Some, None, refl, sym, ap, ◌∙◌, subst}
use Rattle.std.specs.Prelude.{if◌then◌else◌}
use Rattle.st_types.specs.declared.st_type.StType.{StType}
use Rattle.st_tree.specs.declared.expression.Operator.{Operator}
use Rattle.st_tree.specs.Expression.{Expression, Tails, no_tails, tail_then}
use Rattle.st_rules.specs.declared.asked.Asked.{Asked}
use Rattle.st_rules.specs.declared.asked.Asked.TheVariants.{Anything, Wanted, Untold}
use Rattle.st_rules.specs.Kinds.{is_arithmetic, is_elementary, is_number}
use Rattle.st_rules.specs.Literals.{asked_of, number_asked}
use Rattle.st_rules.specs.Scope.{Scope}
use Rattle.st_rules.specs.Expressions.{is_untyped, front_asked, asked_behind, type_of}
use Rattle.check_nodes.specs.declared.found.Checked.{Checked}
use Rattle.check_nodes.specs.declared.rows.Ahead.{Ahead}
use Rattle.check_nodes.specs.Found.{Checks}
use Rattle.check_nodes.specs.Rows.{EndsFront, Looks}
use Rattle.st_check_expr.specs.Private.Rows.{Keeps, GoesOn, EndsAt, LooksAhead, ahead_rest, first_typed}
use Rattle.st_check_expr.proofs.Parts.{both}
use Rattle.st_check_expr.proofs.RowSteps.{keeps_nothing}

number_of : (t : StType) (b : Bool) → is_elementary is_number t ≡ b → number_asked (if b then Wanted t else Anything) ≡ (if b then Wanted t else Anything)
unfolding number_asked
number_of t true h = ap (λ b. if b then Wanted t else Anything) h
number_of t false h = refl

-- what is asked for through an operation, is asked for through two
pub number_again : (a : Asked) → number_asked (number_asked a) ≡ number_asked a
unfolding number_asked
number_again Anything = refl
number_again (Wanted t) = number_of t (is_elementary is_number t) refl
number_again Untold = refl

-- behind operands or not
abbrev pub through : Bool → Asked → Asked
through passed a = if passed then number_asked a else a

through_number : (passed : Bool) (a : Asked) → number_asked a ≡ through passed (number_asked a)
through_number true a = sym (number_again a)
through_number false a = refl

pub goes_on : (s : Scope) (l : ℕ) (o : Operator) (e : Expression ℕ) → is_untyped e ≡ true → is_arithmetic o ≡ true → GoesOn s l o e
unfolding ahead_rest
goes_on s l o e u h = record {
  rest = λ passed asked ts.
      let behind : asked_behind s asked (tail_then l o e ts) ≡ number_asked (asked_behind s asked ts) =
      ap (λ b. if b then (if is_arithmetic o then number_asked (asked_behind s asked ts) else Anything) else asked_of (type_of s Anything e)) u
      ∙ ap (λ b. if b then number_asked (asked_behind s asked ts) else Anything) h in
      both
      (through_number passed (asked_behind s asked ts) ∙ ap (through passed) (sym behind))
      (sym (ap (λ b. if b then first_typed ts else Some e) u));
}

pub ends_nowhere : (s : Scope) (l : ℕ) (o : Operator) (e : Expression ℕ) (a : Ahead) → is_untyped e ≡ true → is_arithmetic o ≡ false → a.asked ≡ Anything → a.kept ≡ None → EndsAt s l o e a
ends_nowhere s l o e a u h p q = record {
  wanted = λ asked ts. p ∙ sym (
      ap (λ b. if b then (if is_arithmetic o then number_asked (asked_behind s asked ts) else Anything) else asked_of (type_of s Anything e)) u
      ∙ ap (λ b. if b then number_asked (asked_behind s asked ts) else Anything) h);
  keeps = λ ts. record { checks = λ c x k m. (keeps_nothing s (tail_then l o e ts)).checks c x (sym q ∙ k) m };
}

same_kept : (x y : Checked) (o : Option Checked) → o ≡ Some x → o ≡ Some y → x ≡ y
same_kept x y o p q = cc

same_operand : (e f : Expression ℕ) → Some e ≡ Some f → e ≡ f
same_operand e f p = cc p

pub ends_typed : (s : Scope) (l : ℕ) (o : Operator) (e : Expression ℕ) (a : Ahead) (y : Checked) → is_untyped e ≡ false → EndsFront a y → Checks y s Anything e → EndsAt s l o e a
ends_typed s l o e a y u ends f = record {
  wanted = λ asked ts. ends.asked ∙ ap asked_of f.told ∙ sym (
      ap (λ b. if b then (if is_arithmetic o then number_asked (asked_behind s asked ts) else Anything) else asked_of (type_of s Anything e)) u);
  keeps = λ ts. record {
    checks = λ c x h p.
        let it : y ≡ c = same_kept y c a.kept ends.kept h in
        let operand : e ≡ x = same_operand e x (sym (ap (λ b. if b then first_typed ts else Some e) u) ∙ p) in
        subst (λ (z : Checked). Checks z s Anything x) it (subst (λ (z : Expression ℕ). Checks y s Anything z) operand f);
  };
}

-- ---- the whole look

module _ (s : Scope) (asked : Asked) (passed : Bool) (rest ts : Tails ℕ) (i : ahead_rest s passed asked rest ≡ ahead_rest s false asked ts) where
  wanted_so : through passed (asked_behind s asked rest) ≡ asked_behind s asked ts
  unfolding ahead_rest
  wanted_so = ap (λ p. p.0) i

  first_so : first_typed rest ≡ first_typed ts
  unfolding ahead_rest
  first_so = ap (λ p. p.1) i

  pub looks_so : (a x : Ahead) → Looks x passed a.asked a.kept → a.asked ≡ asked_behind s asked rest → Keeps a.kept s rest → LooksAhead x s true asked ts
  unfolding front_asked
  looks_so a x looks p k = record {
    wanted = looks.wanted ∙ ap (through passed) p ∙ wanted_so;
    keeps = record { checks = λ c e h q. k.checks c e (sym looks.same ∙ h) (first_so ∙ q) };
  }

pub looks_to_the_end : (s : Scope) (asked : Asked) (passed : Bool) (ts : Tails ℕ) (x : Ahead) → ahead_rest s passed asked no_tails ≡ ahead_rest s false asked ts → Looks x passed asked None → LooksAhead x s true asked ts
unfolding front_asked
looks_to_the_end s asked passed ts x i looks = record {
  wanted = looks.wanted ∙ wanted_so s asked passed no_tails ts i;
  keeps = record { checks = λ c e h q. (keeps_nothing s ts).checks c e (sym looks.same ∙ h) q };
}

pub looks_nowhere : (s : Scope) (asked : Asked) (ts : Tails ℕ) (a : Ahead) (untyped : Bool) → untyped ≡ false → a.asked ≡ Anything → a.kept ≡ None → LooksAhead a s untyped asked ts
unfolding front_asked
looks_nowhere s asked ts a untyped u p q = record {
  wanted = p ∙ sym (ap (λ b. front_asked b (asked_behind s asked ts)) u);
  keeps = record { checks = λ c e h k. (keeps_nothing s ts).checks c e (sym q ∙ h) k };
}
