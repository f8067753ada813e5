-- A row of operators is the operation on the row before its last operator and the operand behind it.
use Rattle.std.proofs.Common.{◌≡◌, ℕ, Bool, true, false, ◌++◌, refl, sym, ap, ◌∙◌, Option}
use Rattle.std.specs.Prelude.{◌&&◌, if◌then◌else◌}
use Rattle.std.proofs.lemmas.List.{append-nil, append_assoc}
use Rattle.st_types.specs.declared.st_type.StType.{StType}
use Rattle.st_tree.specs.declared.expression.Operator.{Operator}
use Rattle.st_tree.specs.Expression.{Expression, Chain, Tails, no_tails, tail_then}
use Rattle.st_rules.specs.declared.asked.Asked.{Asked}
use Rattle.st_rules.specs.declared.asked.Asked.TheVariants.{Anything, Wanted, Untold}
use Rattle.st_rules.specs.Kinds.{is_arithmetic, is_number, is_elementary, operation_type}
use Rattle.st_rules.specs.Literals.{asked_of, number_asked}
use Rattle.st_rules.specs.Scope.{Scope}
use Rattle.st_rules.specs.Expressions.{is_untyped, are_untyped, type_of, asked_behind, row_type, faults, row_faults, front_asked, operand_asked, row_unsuited}
use Rattle.st_rules.specs.Rows.{tails_and, both_asked, beside}

-- ---- truth values

and-true : (a : Bool) → (a && true) ≡ a
and-true true = refl
and-true false = refl

and-regrouped : (b a c : Bool) → (b && (a && c)) ≡ ((b && a) && c)
and-regrouped true a c = refl
and-regrouped false a c = refl

untyped-so-far : (p u q a : Bool) → (((p && u) && q) && a) ≡ (u && ((p && q) && a))
untyped-so-far true true q a = refl
untyped-so-far true false q a = refl
untyped-so-far false true q a = refl
untyped-so-far false false q a = refl

operator-first : (u a o x : Bool) → (u && (a && (o && x))) ≡ (o && ((u && a) && x))
operator-first true true true x = refl
operator-first true true false x = refl
operator-first true false true x = refl
operator-first true false false x = refl
operator-first false a true x = refl
operator-first false a false x = refl

both-true : (a b : Bool) → (a && b) ≡ true → (a ≡ true) × (b ≡ true)
both-true true b h = (refl, h)
both-true false b h = absurd (cc)

true-or-false : (b : Bool) → b ≡ true → b ≡ false → ⊥
true-or-false b h k = cc

-- ---- what is untyped

untyped_and : (ts : Tails ℕ) (k : ℕ) (o : Operator) (x : Expression ℕ) → are_untyped (tails_and ts k o x) ≡ (are_untyped ts && (is_arithmetic o && is_untyped x))
untyped_and no_tails k o x = and-true (is_arithmetic o && is_untyped x)
untyped_and (tail_then j p y ts) k o x =
    ap (λ b. (is_arithmetic p && is_untyped y) && b) (untyped_and ts k o x)
    ∙ and-regrouped (is_arithmetic p && is_untyped y) (are_untyped ts) (is_arithmetic o && is_untyped x)

pub untyped_alone : (l : ℕ) (e : Expression ℕ) → is_untyped (Chain l e no_tails) ≡ is_untyped e
untyped_alone l e = and-true (is_untyped e)

pub untyped_pair : (l k : ℕ) (e x : Expression ℕ) (ts : Tails ℕ) (o : Operator) → is_untyped (Chain l e (tails_and ts k o x)) ≡ (is_arithmetic o && (is_untyped (Chain l e ts) && is_untyped x))
untyped_pair l k e x ts o = ap (λ b. is_untyped e && b) (untyped_and ts k o x) ∙ operator-first (is_untyped e) (are_untyped ts) (is_arithmetic o) (is_untyped x)

-- ---- what an untyped row is asked for

asked_again : (t : StType) (b : Bool) → is_elementary is_number t ≡ b → number_asked (if b then Wanted t else Anything) ≡ (if b then Wanted t else Anything)
unfolding number_asked
asked_again t true e = ap (λ b. if b then Wanted t else Anything) e
asked_again t false e = refl

asked_twice : (a : Asked) → number_asked (number_asked a) ≡ number_asked a
unfolding number_asked
asked_twice Anything = refl
asked_twice Untold = refl
asked_twice (Wanted t) = asked_again t (is_elementary is_number t) refl

both_twice : (b : Bool) (a : Asked) → number_asked (if b then number_asked a else Anything) ≡ (if b then number_asked a else Anything)
unfolding number_asked
both_twice true a = asked_twice a
both_twice false a = refl

behind_same : (q u r : Bool) (a b c : Asked) → ((q && u) && r) ≡ false → (r ≡ false → a ≡ b) → (if u then (if q then number_asked a else Anything) else c) ≡ (if u then (if q then number_asked b else Anything) else c)
behind_same true true r a b c h f = ap number_asked (f h)
behind_same true false r a b c h f = refl
behind_same false true r a b c h f = refl
behind_same false false r a b c h f = refl

behind_all : (q u r : Bool) (a b c : Asked) → ((q && u) && r) ≡ true → (r ≡ true → a ≡ b) → number_asked b ≡ b → (if u then (if q then number_asked a else Anything) else c) ≡ b
behind_all true true r a b c h f n = ap number_asked (f h) ∙ n
behind_all true false r a b c h f n = absurd (true-or-false false h refl)
behind_all false u r a b c h f n = absurd (true-or-false false h refl)

module _ (s : Scope) where
  asked_and : (asked : Asked) (ts : Tails ℕ) (k : ℕ) (o : Operator) (x : Expression ℕ) → asked_behind s asked (tails_and ts k o x) ≡ asked_behind s (asked_behind s asked (tail_then k o x no_tails)) ts
  asked_and asked no_tails k o x = refl
  asked_and asked (tail_then j p y ts) k o x =
      ap (λ a. if is_untyped y then (if is_arithmetic p then number_asked a else Anything) else asked_of (type_of s Anything y)) (asked_and asked ts k o x)

  -- where something behind has a type, what is asked for further on is of no account
  asked_settled : (a b : Asked) (ts : Tails ℕ) → are_untyped ts ≡ false → asked_behind s a ts ≡ asked_behind s b ts
  asked_settled a b no_tails h = absurd (true-or-false true refl h)
  asked_settled a b (tail_then j p y ts) h = behind_same (is_arithmetic p) (is_untyped y) (are_untyped ts) _ _ _ h (asked_settled a b ts)

  asked_through : (a : Asked) (ts : Tails ℕ) → number_asked a ≡ a → are_untyped ts ≡ true → asked_behind s a ts ≡ a
  asked_through a no_tails n h = refl
  asked_through a (tail_then j p y ts) n h = behind_all (is_arithmetic p) (is_untyped y) (are_untyped ts) _ _ _ h (asked_through a ts n) n

  front_settled : (u : Bool) (a b : Asked) (ts : Tails ℕ) → (u && are_untyped ts) ≡ false → front_asked u (asked_behind s a ts) ≡ front_asked u (asked_behind s b ts)
  unfolding front_asked
  front_settled true a b ts h = asked_settled a b ts h
  front_settled false a b ts h = refl

  front_through : (u : Bool) (a : Asked) (ts : Tails ℕ) → number_asked a ≡ a → (u && are_untyped ts) ≡ true → front_asked u (asked_behind s a ts) ≡ a
  unfolding front_asked
  front_through true a ts n h = asked_through a ts n h
  front_through false a ts n h = absurd (true-or-false false h refl)

  -- ---- one operand more

  row_and : (u : Bool) (a : Asked) (t : Option StType) (ts : Tails ℕ) (k : ℕ) (o : Operator) (x : Expression ℕ)
      → row_type s u a t (tails_and ts k o x) ≡ operation_type o (row_type s u a t ts) (type_of s (operand_asked (u && are_untyped ts) (is_untyped x) a (row_type s u a t ts)) x)
  row_and u a t no_tails k o x = ap (λ b. operation_type o t (type_of s (operand_asked b (is_untyped x) a t) x)) (sym (and-true u))
  row_and u a t (tail_then j p y ts) k o x =
      row_and (is_arithmetic p && u && is_untyped y) a (operation_type p t (type_of s (operand_asked u (is_untyped y) a t) y)) ts k o x
      ∙ ap
      (λ b. operation_type o (row_type s u a t (tail_then j p y ts)) (type_of s (operand_asked b (is_untyped x) a (row_type s u a t (tail_then j p y ts))) x))
      (untyped-so-far (is_arithmetic p) u (is_untyped y) (are_untyped ts))

  row_faults_and : (u : Bool) (a : Asked) (t : Option StType) (ts : Tails ℕ) (k : ℕ) (o : Operator) (x : Expression ℕ)
      → row_faults s u a t (tails_and ts k o x)
      ≡ row_faults s u a t ts ++ (faults s (operand_asked (u && are_untyped ts) (is_untyped x) a (row_type s u a t ts)) x
      ++ row_unsuited x k o (row_type s u a t ts) (type_of s (operand_asked (u && are_untyped ts) (is_untyped x) a (row_type s u a t ts)) x))
  row_faults_and u a t no_tails k o x =
      append-nil (faults s (operand_asked u (is_untyped x) a t) x ++ row_unsuited x k o t (type_of s (operand_asked u (is_untyped x) a t) x))
      ∙ ap (λ b. faults s (operand_asked b (is_untyped x) a t) x ++ row_unsuited x k o t (type_of s (operand_asked b (is_untyped x) a t) x)) (sym (and-true u))
  row_faults_and u a t (tail_then j p y ts) k o x =
      let inner = operand_asked u (is_untyped y) a t in
      let now = operation_type p t (type_of s inner y) in
      ap
      (λ xs. (faults s inner y ++ row_unsuited y j p t (type_of s inner y)) ++ xs)
      (row_faults_and (is_arithmetic p && u && is_untyped y) a now ts k o x
      ∙ ap
      (λ b. row_faults s (is_arithmetic p && u && is_untyped y) a now ts ++ (faults s (operand_asked b (is_untyped x) a (row_type s u a t (tail_then j p y ts))) x
      ++ row_unsuited x k o (row_type s u a t (tail_then j p y ts)) (type_of s (operand_asked b (is_untyped x) a (row_type s u a t (tail_then j p y ts))) x)))
      (untyped-so-far (is_arithmetic p) u (is_untyped y) (are_untyped ts)))
      ∙ sym (append_assoc (faults s inner y ++ row_unsuited y j p t (type_of s inner y)) (row_faults s (is_arithmetic p && u && is_untyped y) a now ts) _)

  -- ---- the row and the operand behind it

  module _ (asked : Asked) (l k : ℕ) (e x : Expression ℕ) (ts : Tails ℕ) (o : Operator) where
    -- what the last operator asks the row before it for
    given : Asked
    given = asked_behind s asked (tail_then k o x no_tails)

    front : Asked → Asked
    front a = front_asked (is_untyped e) (asked_behind s a ts)

    untyped : Bool
    untyped = is_untyped e && are_untyped ts

    left_type : (c : Bool) → untyped ≡ c → type_of s given (Chain l e ts) ≡ type_of s (if c then given else Anything) (Chain l e ts)
    unfolding given untyped front
    left_type true h = refl
    left_type false h = ap (λ f. row_type s (is_untyped e) f (type_of s f e) ts) (front_settled (is_untyped e) given Anything ts h)

    left_faults : (c : Bool) → untyped ≡ c → faults s given (Chain l e ts) ≡ faults s (if c then given else Anything) (Chain l e ts)
    unfolding given untyped front
    left_faults true h = refl
    left_faults false h = ap (λ f. faults s f e ++ row_faults s (is_untyped e) f (type_of s f e) ts) (front_settled (is_untyped e) given Anything ts h)

    right_asked : (v c : Bool) → is_untyped x ≡ v → untyped ≡ c
        → operand_asked c v (front given) (type_of s given (Chain l e ts)) ≡ (if v then (if c then both_asked o asked else asked_of (type_of s Anything (Chain l e ts))) else Anything)
    unfolding given untyped front operand_asked
    right_asked true true d h =
        let is : given ≡ both_asked o asked = ap (λ b. if b then both_asked o asked else asked_of (type_of s Anything x)) d in
        front_through (is_untyped e) given ts (ap number_asked is ∙ both_twice (is_arithmetic o) asked ∙ sym is) h ∙ is
    right_asked true false d h = ap (λ f. asked_of (row_type s (is_untyped e) f (type_of s f e) ts)) (front_settled (is_untyped e) given Anything ts h)
    right_asked false c d h = refl

    pub type_pair : type_of s asked (Chain l e (tails_and ts k o x)) ≡ operation_type o (type_of s (beside s o asked (Chain l e ts) x) (Chain l e ts)) (type_of s (beside s o asked x (Chain l e ts)) x)
    unfolding given untyped front
    type_pair =
        ap (λ a. row_type s (is_untyped e) (front_asked (is_untyped e) a) (type_of s (front_asked (is_untyped e) a) e) (tails_and ts k o x)) (asked_and asked ts k o x)
        ∙ row_and (is_untyped e) (front given) (type_of s (front given) e) ts k o x
        ∙ ap (λ a. operation_type o (type_of s given (Chain l e ts)) (type_of s a x)) (right_asked (is_untyped x) untyped refl refl)
        ∙ ap (λ t. operation_type o t (type_of s (beside s o asked x (Chain l e ts)) x)) (left_type untyped refl)

    pub faults_pair : faults s asked (Chain l e (tails_and ts k o x))
        ≡ faults s (beside s o asked (Chain l e ts) x) (Chain l e ts) ++ (faults s (beside s o asked x (Chain l e ts)) x
        ++ row_unsuited x k o (type_of s (beside s o asked (Chain l e ts) x) (Chain l e ts)) (type_of s (beside s o asked x (Chain l e ts)) x))
    unfolding given untyped front
    faults_pair =
        ap (λ a. faults s (front_asked (is_untyped e) a) e ++ row_faults s (is_untyped e) (front_asked (is_untyped e) a) (type_of s (front_asked (is_untyped e) a) e) (tails_and ts k o x)) (asked_and asked ts k o x)
        ∙ ap (λ xs. faults s (front given) e ++ xs) (row_faults_and (is_untyped e) (front given) (type_of s (front given) e) ts k o x)
        ∙ sym (append_assoc (faults s (front given) e) _ _)
        ∙ ap
        (λ a. faults s given (Chain l e ts) ++ (faults s a x ++ row_unsuited x k o (type_of s given (Chain l e ts)) (type_of s a x)))
        (right_asked (is_untyped x) untyped refl refl)
        ∙ ap
        (λ xs. xs ++ (faults s (beside s o asked x (Chain l e ts)) x ++ row_unsuited x k o (type_of s given (Chain l e ts)) (type_of s (beside s o asked x (Chain l e ts)) x)))
        (left_faults untyped refl)
        ∙ ap
        (λ t. faults s (beside s o asked (Chain l e ts) x) (Chain l e ts) ++ (faults s (beside s o asked x (Chain l e ts)) x ++ row_unsuited x k o t (type_of s (beside s o asked x (Chain l e ts)) x)))
        (left_type untyped refl)
