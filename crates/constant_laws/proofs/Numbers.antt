-- What operators and literals come to is a number of the type that they give.
use Rattle.std.proofs.Common.{◌≡◌, ℕ, ℤ, pos, Bool, true, false, [], Option, Some, refl, sym, ap, ◌∙◌, subst, inl, inr, arith}
use Rattle.std.specs.Prelude.{neg_ℤ, ◌&&◌, if◌then◌else◌, int_le, nat_lt, int_lt, not, ◌^◌}
use Rattle.std.specs.Ordering.{int_eq}
use Rattle.st_types.specs.declared.elem.Elem.{Elem}
use Rattle.st_types.specs.declared.elem.Elem.TheVariants as elem
use Rattle.st_types.specs.declared.st_type.StType.{StType}
use Rattle.st_types.specs.declared.st_type.StType.TheVariants as type
use Rattle.st_types.specs.Range.{Fits}
use Rattle.st_types.proofs.WideningLaws.{keeps}
use Rattle.st_tree.specs.declared.expression.Operator.{Operator}
use Rattle.st_tree.specs.declared.expression.Operator.TheVariants as operator
use Rattle.st_tree.specs.declared.expression.Literal.{Literal}
use Rattle.st_tree.specs.declared.expression.Literal.TheVariants as literal
use Rattle.st_tree.specs.declared.program.Target.TheVariants as target
use Rattle.st_rules.specs.Expressions.{operand_unsuited}
use Rattle.st_rules.specs.Kinds.{converts, is_assignable, unary_type}
use Rattle.st_rules.specs.Literals.{literal_number}
use Rattle.st_rules.specs.Scope.{Scope}
use Rattle.st_rules.specs.Types.{same_type}
use Rattle.st_rules.proofs.Booleans.{either, false≢true, some-same}
use Rattle.st_rules.proofs.KindLaws.{reaches_decides}
use Rattle.st_rules.proofs.TypeLaws.{type_decided}
use Rattle.st_unit_rules.specs.declared_names.Constants.{Outcome, comes_to, divides_by_zero, cannot_be_told, kind_in, literal_outcome, duration_outcome, operated, outcome_map, result_of, both, if_true, if_false, is_division, is_zero, truth}
use Rattle.st_unit_rules.specs.declared_names.Variables.{may_be_constant}
use Rattle.st_values.specs.Program.{Program}
use Rattle.st_values.specs.Shape.{Shape, shape_by, shape_within}
use Rattle.st_values.specs.Shape as shape
use Rattle.st_values.specs.Value.{number}
use Rattle.st_meaning.specs.Operation.{literal_value}
use Rattle.st_meaning.specs.st_frame.Promise.Types.{NumberIs, IsBool, IsHeld}
use Rattle.st_meaning.specs.st_frame.Good.{Fit}
use Rattle.st_meaning.specs.st_frame.Promise.Operators.{Common, OperationIs}
use Rattle.st_meaning.proofs.st_frame.OfTypes.{wraps_fit, bit_fits}
use Rattle.place_laws.specs.Agrees.{ConstantIs}
use Rattle.place_laws.proofs.Operators.{elementary_is, unary_same, unary_taken}
use Rattle.place_laws.proofs.Literals.{LiteralIs}
use Rattle.constant_laws.specs.Given.{NumberOf}

same_literal : (x : Literal) → literal_value x ≡ literal_number x
same_literal (literal.Int digits) = refl
same_literal (literal.Negative digits) = refl
same_literal literal.True = refl
same_literal literal.False = refl

pub literal_fits : (k : Elem) (x : Literal) → Fits k (literal_value x) → Fits k (literal_number x)
literal_fits k x h = subst (Fits k) (same_literal x) h

module _ (p : Program) where
  abbrev pub OutcomeOf : StType → Outcome → Type 0
  OutcomeOf t (comes_to z) = NumberOf p t z
  OutcomeOf t _ = Unit {0}

  -- a type that is told, and what has it
  pub record Right (o : Option StType) (x : Outcome) : Type 0 where
    pub kind : StType
    pub told : o ≡ Some kind
    pub value : OutcomeOf kind x

  elementary_of : (t : StType) (e : Elem) (z : ℤ) → t ≡ type.Elementary e → Fits e z → NumberOf p t z
  elementary_of t e z q h = subst (λ x. NumberOf p x z) (sym q) h

  mapped : (t : StType) (e : Elem) (f : ℤ → ℤ) (x : Outcome) → t ≡ type.Elementary e → ((z : ℤ) → Fits e (f z)) → OutcomeOf t (outcome_map f x)
  mapped t e f (comes_to z) q h = elementary_of t e (f z) q (h z)
  mapped t e f (divides_by_zero l) q h = tt
  mapped t e f cannot_be_told q h = tt

  -- ---- literals

  literal_of : (t : StType) (e : Elem) (z : ℤ) → t ≡ type.Elementary e → Fits e z → OutcomeOf t (literal_outcome z)
  literal_of t e z q h = by (int_le (neg_ℤ (pos 9223372036854775808)) z && int_le z (pos 18446744073709551615))
    where
      by : (b : Bool) → OutcomeOf t (if b then comes_to z else cannot_be_told)
      by true = elementary_of t e z q h
      by false = tt

  pub literal_right : (o : Option StType) (z : ℤ) → LiteralIs o z → Right o (literal_outcome z)
  literal_right o z h = record { kind = h.0; told = h.2; value = literal_of h.0 h.1 z h.3 h.4 }

  pub typed_right : (o : Option StType) (e : Elem) (z : ℤ) → o ≡ Some (type.Elementary e) → Fits e z → Right o (literal_outcome z)
  typed_right o e z q h = record { kind = type.Elementary e; told = q; value = literal_of (type.Elementary e) e z refl h }

  pub lasting : (n : ℕ) → Fits elem.Time (pos n) → OutcomeOf (type.Elementary elem.Time) (duration_outcome n)
  lasting n h = by (nat_lt n (2 ^ 32))
    where
      by : (b : Bool) → OutcomeOf (type.Elementary elem.Time) (if b then comes_to (pos n) else cannot_be_told)
      by true = h
      by false = tt

  -- of what may be constant, by its shape or without
  pub number_of_type : (t : StType) (z : ℤ) → NumberIs p t z → NumberOf p t z
  number_of_type (type.Elementary e) z h = by h.0 (some-same (sym (ap (shape_by p (shape_within p 64)) (type.outs-Elementary e)) ∙ h.1)) h.2
    where
      by : (sh : Shape) → shape.Elementary e ≡ sh → Fit p sh (number z) → Fits e z
      by sh q k = subst (λ x. Fit p x (number z)) (sym q) k
  number_of_type (type.Enumeration n) z h = h
  number_of_type _ z h = tt

  pub constant_number : (t : StType) (z : ℤ) → may_be_constant t ≡ true → NumberOf p t z → ConstantIs p (target.Constant z) t
  constant_number (type.Elementary e) z h n = ((shape.Elementary e, ap (shape_by p (shape_within p 64)) (type.outs-Elementary e), n), tt)
  constant_number (type.Enumeration k) z h n = (n, tt)
  constant_number _ z h n = absurd (false≢true h)

  pub held : (t : StType) (z : ℤ) → IsHeld t → NumberOf p t z
  held (type.Reference c) z h = tt
  held (type.Interface c) z h = tt
  held (type.Elementary c) z h = absurd h
  held (type.Enumeration c) z h = absurd h
  held _ z h = tt

  -- ---- one operand

  pub unary : (test : Elem → Bool) (f : Elem → ℤ → ℤ) → ((e : Elem) (z : ℤ) → Fits e (f e z)) → (l : ℕ) (o : Option StType) (x : Outcome) → Right o x → operand_unsuited l test o ≡ []
      → Right (unary_type test o) (outcome_map (f (kind_in (unary_type test o))) x)
  unary test f fits l o x r h =
      let taken = unary_taken l test r.kind (subst (λ y. operand_unsuited l test y ≡ []) r.told h) in
      let e = elementary_is test r.kind taken in
      let w : unary_type test o ≡ Some r.kind = ap (unary_type test) r.told ∙ unary_same test r.kind taken in
      subst (λ y. Right y (outcome_map (f (kind_in y)) x)) (sym w)
      (record { kind = r.kind; told = refl; value = mapped r.kind e.0 (f (kind_in (Some r.kind))) x e.1 (λ z. subst (λ t. Fits e.0 (f (kind_in (Some t)) z)) (sym e.1) (fits e.0 z)) })

  -- ---- two operands

  bit : (b : Bool) → Fits elem.Bool (truth b)
  bit true = bit_fits elem.Bool 1 (omega arith)
  bit false = bit_fits elem.Bool 0 (omega arith)

  boolean : (w : StType) (b : Bool) → IsBool w → NumberOf p w (truth b)
  boolean w b q = elementary_of w elem.Bool (truth b) q (bit b)

  common : (t u w : StType) (o : Operator) (l : ℕ) (a b : ℤ) → Common t u w → ((e : Elem) → Fits e (result_of o e a b)) → NumberOf p w (result_of o (kind_in (Some w)) a b)
  common t u w o l a b c h = subst (λ x. NumberOf p x (result_of o (kind_in (Some x)) a b)) (sym c.5) (h c.2)

  combined : (o : Operator) (t u w : StType) (a b : ℤ) → OperationIs p o t u w → NumberOf p t a → NumberOf p u b → NumberOf p w (result_of o (kind_in (Some w)) a b)
  combined operator.Plus t u w a b h x y = common t u w operator.Plus 0 a b h (λ e. wraps_fit e _)
  combined operator.Minus t u w a b h x y = common t u w operator.Minus 0 a b h (λ e. wraps_fit e _)
  combined operator.Times t u w a b h x y = common t u w operator.Times 0 a b h (λ e. wraps_fit e _)
  combined operator.Divide t u w a b h x y = common t u w operator.Divide 0 a b h (λ e. wraps_fit e _)
  combined operator.Modulo t u w a b h x y = common t u w operator.Modulo 0 a b h (λ e. wraps_fit e _)
  combined operator.And t u w a b h x y = common t u w operator.And 0 a b h (λ e. wraps_fit e _)
  combined operator.Or t u w a b h x y = common t u w operator.Or 0 a b h (λ e. wraps_fit e _)
  combined operator.Xor t u w a b h x y = common t u w operator.Xor 0 a b h (λ e. wraps_fit e _)
  combined operator.AndThen t u w a b h x y = subst (λ k. NumberOf p k b) (h.1 ∙ sym h.2) y
  combined operator.OrElse t u w a b h x y = subst (λ k. NumberOf p k b) (h.1 ∙ sym h.2) y
  combined operator.Equal t u w a b h x y = boolean w (int_eq a b) h.1
  combined operator.Differs t u w a b h x y = boolean w (not (int_eq a b)) h.1
  combined operator.Less t u w a b h x y = boolean w (int_lt a b) h.2
  combined operator.Greater t u w a b h x y = boolean w (int_lt b a) h.2
  combined operator.AtMost t u w a b h x y = boolean w (int_le a b) h.2
  combined operator.AtLeast t u w a b h x y = boolean w (int_le b a) h.2

  both_of : (o : Operator) (t u w : StType) (l : ℕ) (x y : Outcome) → OperationIs p o t u w → OutcomeOf t x → OutcomeOf u y → OutcomeOf w (both o (kind_in (Some w)) l x y)
  both_of o t u w l (comes_to a) (comes_to b) h i j = by (is_division o && is_zero b)
    where
      by : (c : Bool) → OutcomeOf w (if c then divides_by_zero l else comes_to (result_of o (kind_in (Some w)) a b))
      by true = tt
      by false = combined o t u w a b h i j
  both_of o t u w l cannot_be_told (comes_to b) h i j = by (is_division o && is_zero b)
    where
      by : (c : Bool) → OutcomeOf w (if c then divides_by_zero l else cannot_be_told)
      by true = tt
      by false = tt
  both_of o t u w l (divides_by_zero k) y h i j = tt
  both_of o t u w l (comes_to a) (divides_by_zero k) h i j = tt
  both_of o t u w l (comes_to a) cannot_be_told h i j = tt
  both_of o t u w l cannot_be_told (divides_by_zero k) h i j = tt
  both_of o t u w l cannot_be_told cannot_be_told h i j = tt

  true_of : (t u w : StType) (x y : Outcome) → t ≡ w → u ≡ w → OutcomeOf t x → OutcomeOf u y → OutcomeOf w (if_true x y)
  true_of t u w (comes_to a) y e f i j = by (is_zero a)
    where
      by : (c : Bool) → OutcomeOf w (if c then comes_to a else y)
      by true = subst (λ k. NumberOf p k a) e i
      by false = subst (λ k. OutcomeOf k y) f j
  true_of t u w (divides_by_zero l) y e f i j = tt
  true_of t u w cannot_be_told y e f i j = tt

  false_of : (t u w : StType) (x y : Outcome) → t ≡ w → u ≡ w → OutcomeOf t x → OutcomeOf u y → OutcomeOf w (if_false x y)
  false_of t u w (comes_to a) y e f i j = by (is_zero a)
    where
      by : (c : Bool) → OutcomeOf w (if c then y else comes_to a)
      by true = subst (λ k. OutcomeOf k y) f j
      by false = subst (λ k. NumberOf p k a) e i
  false_of t u w (divides_by_zero l) y e f i j = tt
  false_of t u w cannot_be_told y e f i j = tt

  pub operated_of : (o : Operator) (t u w : StType) (l : ℕ) (x y : Outcome) → OperationIs p o t u w → OutcomeOf t x → OutcomeOf u y → OutcomeOf w (operated o (kind_in (Some w)) l x y)
  operated_of operator.AndThen t u w l x y h i j = true_of t u w x y (h.0 ∙ sym h.2) (h.1 ∙ sym h.2) i j
  operated_of operator.OrElse t u w l x y h i j = false_of t u w x y (h.0 ∙ sym h.2) (h.1 ∙ sym h.2) i j
  operated_of operator.Plus t u w l x y h i j = both_of operator.Plus t u w l x y h i j
  operated_of operator.Minus t u w l x y h i j = both_of operator.Minus t u w l x y h i j
  operated_of operator.Times t u w l x y h i j = both_of operator.Times t u w l x y h i j
  operated_of operator.Divide t u w l x y h i j = both_of operator.Divide t u w l x y h i j
  operated_of operator.Modulo t u w l x y h i j = both_of operator.Modulo t u w l x y h i j
  operated_of operator.And t u w l x y h i j = both_of operator.And t u w l x y h i j
  operated_of operator.Or t u w l x y h i j = both_of operator.Or t u w l x y h i j
  operated_of operator.Xor t u w l x y h i j = both_of operator.Xor t u w l x y h i j
  operated_of operator.Equal t u w l x y h i j = both_of operator.Equal t u w l x y h i j
  operated_of operator.Differs t u w l x y h i j = both_of operator.Differs t u w l x y h i j
  operated_of operator.Less t u w l x y h i j = both_of operator.Less t u w l x y h i j
  operated_of operator.Greater t u w l x y h i j = both_of operator.Greater t u w l x y h i j
  operated_of operator.AtMost t u w l x y h i j = both_of operator.AtMost t u w l x y h i j
  operated_of operator.AtLeast t u w l x y h i j = both_of operator.AtLeast t u w l x y h i j

  -- ---- what is assigned

  module _ (s : Scope) where
    converted_number : (t u : StType) (z : ℤ) → converts s.classes s.interfaces t u ≡ true → NumberOf p t z → NumberOf p u z
    converted_number (type.Elementary a) (type.Elementary b) z h n = keeps a b z ((reaches_decides a b).0 h) n
    converted_number (type.Reference c) (type.Reference d) z h n = tt
    converted_number (type.Reference c) (type.Interface i) z h n = tt
    converted_number (type.Instance c) (type.Interface i) z h n = tt
    converted_number (type.Interface j) (type.Interface i) z h n = tt
    converted_number _ _ z h n = absurd (false≢true h)

    pub assigned_number : (t u : StType) (z : ℤ) → is_assignable s.classes s.interfaces t u ≡ true → NumberOf p t z → NumberOf p u z
    unfolding is_assignable
    assigned_number t u z h n = elim (either (same_type t u) (converts s.classes s.interfaces t u) h) [
      | inl q ↦ subst (λ x. NumberOf p x z) ((type_decided t u).0 q) n
      | inr q ↦ converted_number t u z q n
    ]
