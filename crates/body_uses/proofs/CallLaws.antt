-- What expressions without places use, and the type on which a method is called.
use Rattle.std.proofs.Common.{◌≡◌, ℕ, zero, suc, Bool, true, false, List, [], ◌∷◌, ◌++◌, length, take, refl, sym, ap, ◌∙◌, arith, append-nil}
use Rattle.st_types.specs.declared.elem.Elem.{Elem}
use Rattle.st_types.specs.declared.st_type.StType.{StType}
use Rattle.st_tree.specs.declared.expression.Literal.{Literal}
use Rattle.st_tree.specs.declared.expression.Argument.{Argument as CodeArgument}
use Rattle.st_tree.specs.declared.expression.Expr.{Expr}
use Rattle.st_tree.specs.declared.expression.Expr.TheVariants as code
use Rattle.st_tree.specs.declared.expression.Place.{Place as CodePlace}
use Rattle.st_tree.specs.declared.expression.Selector.{Selector as CodeSelector}
use Rattle.st_tree.specs.declared.expression.Selector.TheVariants as selection
use Rattle.st_tree.specs.declared.expression.Tail.{Tail}
use Rattle.st_tree.specs.declared.program.Note.{Note}
use Rattle.st_tree.specs.Expression.{Expression, expression_of, expression_of-Int, expression_of-Typed, expression_of-Time, expression_of-True, expression_of-False, expression_of-Null, expression_of-Call, expression_of-Enumerator, expression_of-Ref, expression_of-Now, expression_of-Paren, expression_of-Not, expression_of-Negate, expression_of-Chain, selector_of, selector_of-Field, selector_of-Target, selectors_of}
use Rattle.st_values.specs.Program.{Program}
use Rattle.st_meaning.specs.Expression.{selector_note}
use Rattle.st_meaning.specs.st_frame.Use.{Use, expression_uses, selector_uses, bound_uses, receiver, last_kind}

-- ---- the receiver

pub receiver_is : (t : StType) (ss : List (CodeSelector Note)) (n : ℕ) → suc n ≡ length ss → last_kind t (selectors_of (take n ss)) ≡ receiver t (selectors_of ss)
receiver_is t [] n e = absurd (omega (arith, e))
receiver_is t (s ∷ []) zero e = refl
receiver_is t (s ∷ []) (suc n) e = absurd (omega (arith, e))
receiver_is t (s ∷ r ∷ rest) zero e = absurd (omega (arith, e))
receiver_is t (s ∷ r ∷ rest) (suc n) e = receiver_is (selector_note (selector_of s)).kind (r ∷ rest) n (omega (arith, e))

-- ---- nothing used

nothing : (old xs : List Use) → xs ≡ [] → old ≡ old ++ xs
nothing old xs e = sym (ap (λ x. old ++ x) e ∙ append-nil old)

module _ (p : Program) where
  leaf : (old : List Use) (e : Expr Note) (x : Expression Note) → expression_of e ≡ x → expression_uses p x ≡ [] → old ≡ old ++ expression_uses p (expression_of e)
  leaf old e x h k = nothing old (expression_uses p (expression_of e)) (ap (expression_uses p) h ∙ k)

  pub none_in_int : (old : List Use) (a : Note) (digits : List ℕ) → old ≡ old ++ expression_uses p (expression_of (code.Int a digits))
  none_in_int old a digits = leaf old (code.Int a digits) _ (expression_of-Int a digits) refl

  pub none_in_typed : (old : List Use) (a : Note) (k : Elem) (x : Literal) → old ≡ old ++ expression_uses p (expression_of (code.Typed a k x))
  none_in_typed old a k x = leaf old (code.Typed a k x) _ (expression_of-Typed a k x) refl

  pub none_in_time : (old : List Use) (a : Note) (text : List ℕ) → old ≡ old ++ expression_uses p (expression_of (code.Time a text))
  none_in_time old a text = leaf old (code.Time a text) _ (expression_of-Time a text) refl

  pub none_in_true : (old : List Use) (a : Note) → old ≡ old ++ expression_uses p (expression_of (code.True a))
  none_in_true old a = leaf old (code.True a) _ (expression_of-True a) refl

  pub none_in_false : (old : List Use) (a : Note) → old ≡ old ++ expression_uses p (expression_of (code.False a))
  none_in_false old a = leaf old (code.False a) _ (expression_of-False a) refl

  pub none_in_null : (old : List Use) (a : Note) → old ≡ old ++ expression_uses p (expression_of (code.Null a))
  none_in_null old a = leaf old (code.Null a) _ (expression_of-Null a) refl

  pub none_in_enumerator : (old : List Use) (a : Note) (t : List ℕ) (b : Note) (n : List ℕ) → old ≡ old ++ expression_uses p (expression_of (code.Enumerator a t b n))
  none_in_enumerator old a t b n = leaf old (code.Enumerator a t b n) _ (expression_of-Enumerator a t b n) refl

  pub none_in_now : (old : List Use) (a : Note) → old ≡ old ++ expression_uses p (expression_of (code.Now a))
  none_in_now old a = leaf old (code.Now a) _ (expression_of-Now a) refl

  pub none_in_field : (old : List Use) (a : Note) (n : List ℕ) → old ≡ old ++ selector_uses p (selector_of (selection.Field a n))
  none_in_field old a n = nothing old (selector_uses p (selector_of (selection.Field a n))) (ap (selector_uses p) (selector_of-Field a n))

  pub none_in_target : (old : List Use) (a : Note) → old ≡ old ++ selector_uses p (selector_of (selection.Target a))
  none_in_target old a = nothing old (selector_uses p (selector_of (selection.Target a))) (ap (selector_uses p) (selector_of-Target a))

-- ---- what is bound is a place

free : (old : List Use) (b : Bool) (e : Expr Note) (x : Expression Note) → expression_of e ≡ x → ((c : Bool) → bound_uses c x ≡ []) → old ≡ old ++ bound_uses b (expression_of e)
free old b e x h k = nothing old (bound_uses b (expression_of e)) (ap (bound_uses b) h ∙ k b)

by_cases : (x : Expression Note) → bound_uses true x ≡ [] → (c : Bool) → bound_uses c x ≡ []
by_cases x h true = h
by_cases x h false = refl

pub unbound_int : (old : List Use) (b : Bool) (a : Note) (digits : List ℕ) → old ≡ old ++ bound_uses b (expression_of (code.Int a digits))
unbound_int old b a digits = free old b (code.Int a digits) _ (expression_of-Int a digits) (λ c. by_cases _ refl c)

pub unbound_typed : (old : List Use) (b : Bool) (a : Note) (k : Elem) (x : Literal) → old ≡ old ++ bound_uses b (expression_of (code.Typed a k x))
unbound_typed old b a k x = free old b (code.Typed a k x) _ (expression_of-Typed a k x) (λ c. by_cases _ refl c)

pub unbound_time : (old : List Use) (b : Bool) (a : Note) (text : List ℕ) → old ≡ old ++ bound_uses b (expression_of (code.Time a text))
unbound_time old b a text = free old b (code.Time a text) _ (expression_of-Time a text) (λ c. by_cases _ refl c)

pub unbound_true : (old : List Use) (b : Bool) (a : Note) → old ≡ old ++ bound_uses b (expression_of (code.True a))
unbound_true old b a = free old b (code.True a) _ (expression_of-True a) (λ c. by_cases _ refl c)

pub unbound_false : (old : List Use) (b : Bool) (a : Note) → old ≡ old ++ bound_uses b (expression_of (code.False a))
unbound_false old b a = free old b (code.False a) _ (expression_of-False a) (λ c. by_cases _ refl c)

pub unbound_null : (old : List Use) (b : Bool) (a : Note) → old ≡ old ++ bound_uses b (expression_of (code.Null a))
unbound_null old b a = free old b (code.Null a) _ (expression_of-Null a) (λ c. by_cases _ refl c)

pub unbound_call : (old : List Use) (b : Bool) (a : Note) (q : CodePlace Note) (xs : List (CodeArgument Note)) → old ≡ old ++ bound_uses b (expression_of (code.Call a q xs))
unbound_call old b a q xs = free old b (code.Call a q xs) _ (expression_of-Call a q xs) (λ c. by_cases _ refl c)

pub unbound_enumerator : (old : List Use) (b : Bool) (a : Note) (t : List ℕ) (k : Note) (n : List ℕ) → old ≡ old ++ bound_uses b (expression_of (code.Enumerator a t k n))
unbound_enumerator old b a t k n = free old b (code.Enumerator a t k n) _ (expression_of-Enumerator a t k n) (λ c. by_cases _ refl c)

pub unbound_ref : (old : List Use) (b : Bool) (a : Note) (q : CodePlace Note) → old ≡ old ++ bound_uses b (expression_of (code.Ref a q))
unbound_ref old b a q = free old b (code.Ref a q) _ (expression_of-Ref a q) (λ c. by_cases _ refl c)

pub unbound_now : (old : List Use) (b : Bool) (a : Note) → old ≡ old ++ bound_uses b (expression_of (code.Now a))
unbound_now old b a = free old b (code.Now a) _ (expression_of-Now a) (λ c. by_cases _ refl c)

pub unbound_paren : (old : List Use) (b : Bool) (a : Note) (e : Expr Note) → old ≡ old ++ bound_uses b (expression_of (code.Paren a e))
unbound_paren old b a e = free old b (code.Paren a e) _ (expression_of-Paren a e) (λ c. by_cases _ refl c)

pub unbound_not : (old : List Use) (b : Bool) (a : Note) (e : Expr Note) → old ≡ old ++ bound_uses b (expression_of (code.Not a e))
unbound_not old b a e = free old b (code.Not a e) _ (expression_of-Not a e) (λ c. by_cases _ refl c)

pub unbound_negate : (old : List Use) (b : Bool) (a : Note) (e : Expr Note) → old ≡ old ++ bound_uses b (expression_of (code.Negate a e))
unbound_negate old b a e = free old b (code.Negate a e) _ (expression_of-Negate a e) (λ c. by_cases _ refl c)

pub unbound_chain : (old : List Use) (b : Bool) (a : Note) (e : Expr Note) (ts : List (Tail Note)) → old ≡ old ++ bound_uses b (expression_of (code.Chain a e ts))
unbound_chain old b a e ts = free old b (code.Chain a e ts) _ (expression_of-Chain a e ts) (λ c. by_cases _ refl c)

pub ruleset unbound = (unbound_int, unbound_typed, unbound_time, unbound_true, unbound_false, unbound_null, unbound_call, unbound_enumerator, unbound_ref, unbound_now, unbound_paren, unbound_not, unbound_negate, unbound_chain)
