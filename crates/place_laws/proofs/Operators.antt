-- What an operator takes and gives, where it is not refused.
use Rattle.std.proofs.Common.{◌≡◌, ℕ, Bool, true, false, [], Option, Some, None, refl, sym, ap, ◌∙◌, subst, inl, inr}
use Rattle.std.specs.Prelude.{◌||◌, ◌&&◌, option_map, if◌then◌else◌}
use Rattle.std.specs.Option.{is_some}
use Rattle.std.proofs.lemmas.Bool.{eqb-true}
use Rattle.plc_text.specs.declared.code.Code.TheVariants.{E07}
use Rattle.st_types.specs.declared.elem.Elem.{Elem}
use Rattle.st_types.specs.declared.elem.Elem.TheVariants as elem
use Rattle.st_types.specs.declared.st_type.StType.{StType}
use Rattle.st_types.specs.declared.st_type.StType.TheVariants as type
use Rattle.st_types.specs.Widening.{Reaches, itself, through}
use Rattle.st_types.specs.Widening as wide
use Rattle.st_tree.specs.declared.expression.Operator.{Operator}
use Rattle.st_tree.specs.declared.expression.Operator.TheVariants as operator
use Rattle.st_rules.proofs.Booleans.{both, either}
use Rattle.st_rules.proofs.KindLaws.{common_has}
use Rattle.st_rules.specs.Kinds.{is_elementary, is_bool, is_reference, same_enumeration, boolean, takes, kind_taken, common_kind, operand_kind, suits_operator, operation_type, unary_type}
use Rattle.st_rules.specs.Expressions.{operands_unsuited, operand_unsuited}
use Rattle.st_values.specs.Program.{Program}
use Rattle.st_meaning.specs.st_frame.Promise.Types.{IsElementary, IsHeld, IsBool}
use Rattle.st_meaning.specs.st_frame.Promise.Operators.{Common, Comparable, OperationIs}
use Rattle.place_laws.proofs.Words.{passes}

-- ---- one operand

pub elementary_is : (test : Elem → Bool) (t : StType) → is_elementary test t ≡ true → (e : Elem) × (t ≡ type.Elementary e) × (test e ≡ true)
elementary_is test (type.Elementary e) h = (e, refl, h)
elementary_is test _ h = cc

pub elementary_one : (test : Elem → Bool) (t : StType) → is_elementary test t ≡ true → IsElementary t
elementary_one test t h = let e = elementary_is test t h in (e.0, e.1)

pub unary_same : (test : Elem → Bool) (t : StType) → is_elementary test t ≡ true → unary_type test (Some t) ≡ Some t
unfolding unary_type
unary_same test t h = ap (λ b. if b then Some t else None) h

pub unary_taken : (l : ℕ) (test : Elem → Bool) (t : StType) → operand_unsuited l test (Some t) ≡ [] → is_elementary test t ≡ true
unfolding operand_unsuited
unary_taken l test t h = passes (is_elementary test t) E07 l h

-- ---- two operands

only_bool : (e : Elem) → is_bool e ≡ true → e ≡ elem.Bool
only_bool elem.Bool h = refl
only_bool _ h = cc

no_wider : (a e : Elem) → wide.Widens a e → e ≡ elem.Bool → ⊥
no_wider a e wide.sint_int q = cc
no_wider a e wide.int_dint q = cc
no_wider a e wide.dint_lint q = cc
no_wider a e wide.usint_uint q = cc
no_wider a e wide.uint_udint q = cc
no_wider a e wide.udint_ulint q = cc
no_wider a e wide.usint_int q = cc
no_wider a e wide.uint_dint q = cc
no_wider a e wide.udint_lint q = cc
no_wider a e wide.byte_word q = cc
no_wider a e wide.word_dword q = cc
no_wider a e wide.dword_lword q = cc

pub reaches_bool : (a e : Elem) → Reaches a e → e ≡ elem.Bool → a ≡ elem.Bool
reaches_bool a e itself q = q
reaches_bool a e (through {b = b} w r) q = absurd (no_wider a b w (reaches_bool b e r q))

-- the kind in which two operands are taken
pub record Taken (o : Operator) (t u : StType) : Type 0 where
  pub left : Elem
  pub right : Elem
  pub common : Elem
  pub first : t ≡ type.Elementary left
  pub second : u ≡ type.Elementary right
  pub kind : operand_kind o t u ≡ Some common
  pub reaches_left : Reaches left common
  pub reaches_right : Reaches right common
  pub takes_it : takes o common ≡ true

taken_by : (o : Operator) (a b : Elem) (q : Option Elem) → common_kind a b ≡ q → is_some (kind_taken o q) ≡ true → Taken o (type.Elementary a) (type.Elementary b)
taken_by o a b None e h = cc
taken_by o a b (Some k) e h = by (takes o k) refl h
  where
    by : (x : Bool) → takes o k ≡ x → is_some (if x then Some k else None) ≡ true → Taken o (type.Elementary a) (type.Elementary b)
    by true q g =
        let c = common_has a b k e in
        record {
          left = a;
          right = b;
          common = k;
          first = refl;
          second = refl;
          kind = ap (kind_taken o) e ∙ ap (λ y. if y then Some k else None) q;
          reaches_left = c.left;
          reaches_right = c.right;
          takes_it = q;
        }
    by false q g = cc

taken_of : (o : Operator) (t u : StType) → is_some (operand_kind o t u) ≡ true → Taken o t u
taken_of o (type.Elementary a) (type.Elementary b) h = taken_by o a b (common_kind a b) refl h
taken_of o (type.Elementary a) _ h = cc
taken_of o _ u h = cc

common_of : (o : Operator) (t u : StType) (k : Taken o t u) → Common t u (type.Elementary k.common)
common_of o t u k = (k.left, k.right, k.common, k.first, k.second, refl, k.reaches_left, k.reaches_right)

bools_of : (o : Operator) (t u : StType) (k : Taken o t u) → is_bool k.common ≡ true → IsBool t × IsBool u
bools_of o t u k h =
    let c = only_bool k.common h in
    (k.first ∙ ap type.Elementary (reaches_bool k.left k.common k.reaches_left c), k.second ∙ ap type.Elementary (reaches_bool k.right k.common k.reaches_right c))

module _ (p : Program) where
  held : (t : StType) → is_reference t ≡ true → IsHeld t
  held (type.Reference c) h = tt
  held (type.Interface i) h = tt
  held _ h = cc

  held_both : (t u : StType) → is_reference t ≡ true → is_reference u ≡ true → Comparable p t u
  held_both (type.Reference c) u h k = (tt, held u k)
  held_both (type.Interface c) u h k = (tt, held u k)
  held_both _ u h k = cc

  same_both : (t u : StType) → same_enumeration t u ≡ true → Comparable p t u
  same_both (type.Enumeration n) (type.Enumeration m) h = eqb-true n m h
  same_both (type.Enumeration n) _ h = cc
  same_both _ u h = cc

  elementary_both : (t u : StType) (a b : Elem) → t ≡ type.Elementary a → u ≡ type.Elementary b → Comparable p t u
  elementary_both t u a b e f = subst (λ x. Comparable p x u) (sym e) (subst (λ x. Comparable p (type.Elementary a) x) (sym f) tt)

  comparable : (o : Operator) (t u : StType) → (is_some (operand_kind o t u) || (same_enumeration t u || is_reference t && is_reference u)) ≡ true → Comparable p t u
  comparable o t u h = elim (either (is_some (operand_kind o t u)) (same_enumeration t u || is_reference t && is_reference u) h) [
    | inl k ↦ let q = taken_of o t u k in elementary_both t u q.left q.right q.first q.second
    | inr k ↦ elim (either (same_enumeration t u) (is_reference t && is_reference u) k) [
      | inl m ↦ same_both t u m
      | inr m ↦ let r = both (is_reference t) (is_reference u) m in held_both t u r.0 r.1
    ]
  ]

  orderly : (o : Operator) (t u : StType) → is_some (operand_kind o t u) ≡ true → IsElementary t × IsElementary u
  orderly o t u h = let q = taken_of o t u h in ((q.left, q.first), (q.right, q.second))

  plain : (a : Bool) → (a || false) ≡ true → a ≡ true
  plain true h = refl
  plain false h = h

  -- an operation has a type, and is as it is promised
  abbrev pub Operated : Operator → StType → StType → Type 0
  Operated o t u = (w : StType) × (operation_type o (Some t) (Some u) ≡ Some w) × OperationIs p o t u w

  arithmetic : (o : Operator) (t u : StType) → is_some (operand_kind o t u) ≡ true → (w : StType) × (option_map type.Elementary (operand_kind o t u) ≡ Some w) × Common t u w
  arithmetic o t u h = let q = taken_of o t u h in (type.Elementary q.common, ap (option_map type.Elementary) q.kind, common_of o t u q)

  pub operated : (o : Operator) (t u : StType) → suits_operator o t u ≡ true → Operated o t u
  unfolding operation_type
  operated operator.AndThen t u h = let q = taken_of operator.AndThen t u (plain _ h) in let b = bools_of operator.AndThen t u q q.takes_it in (boolean, refl, (b.0, b.1, refl))
  operated operator.OrElse t u h = let q = taken_of operator.OrElse t u (plain _ h) in let b = bools_of operator.OrElse t u q q.takes_it in (boolean, refl, (b.0, b.1, refl))
  operated operator.Equal t u h = (boolean, refl, (comparable operator.Equal t u h, refl))
  operated operator.Differs t u h = (boolean, refl, (comparable operator.Differs t u h, refl))
  operated operator.Less t u h = let q = orderly operator.Less t u (plain _ h) in (boolean, refl, (q.0, q.1, refl))
  operated operator.Greater t u h = let q = orderly operator.Greater t u (plain _ h) in (boolean, refl, (q.0, q.1, refl))
  operated operator.AtMost t u h = let q = orderly operator.AtMost t u (plain _ h) in (boolean, refl, (q.0, q.1, refl))
  operated operator.AtLeast t u h = let q = orderly operator.AtLeast t u (plain _ h) in (boolean, refl, (q.0, q.1, refl))
  operated operator.Or t u h = arithmetic operator.Or t u (plain _ h)
  operated operator.Xor t u h = arithmetic operator.Xor t u (plain _ h)
  operated operator.And t u h = arithmetic operator.And t u (plain _ h)
  operated operator.Plus t u h = arithmetic operator.Plus t u (plain _ h)
  operated operator.Minus t u h = arithmetic operator.Minus t u (plain _ h)
  operated operator.Times t u h = arithmetic operator.Times t u (plain _ h)
  operated operator.Divide t u h = arithmetic operator.Divide t u (plain _ h)
  operated operator.Modulo t u h = arithmetic operator.Modulo t u (plain _ h)

  pub operation : (l : ℕ) (o : Operator) (t u : StType) → operands_unsuited l o (Some t) (Some u) ≡ [] → Operated o t u
  unfolding operands_unsuited
  operation l o t u h = operated o t u (passes (suits_operator o t u) E07 l h)
