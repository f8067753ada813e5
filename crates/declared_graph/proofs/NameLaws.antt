-- What parts of expressions name, and what names nothing.
use Rattle.std.proofs.Common.{Bool, ◌≡◌, ℕ, List, [], ◌∷◌, ◌++◌, refl, sym, ap, ◌∙◌, subst, append-nil, append_assoc}
use Rattle.std.specs.Prelude.{flat_map, Result, OnOk}
use Rattle.std.proofs.lemmas.Grind.{flat_map-append}
use Rattle.std.proofs.lemmas.List.{map-append}
use Rattle.st_types.specs.declared.elem.Elem.{Elem}
use Rattle.st_tree.specs.declared.expression.Argument.{Argument as CodeArgument}
use Rattle.st_tree.specs.declared.expression.Argument.TheVariants as argument
use Rattle.st_tree.specs.declared.expression.Literal.{Literal}
use Rattle.st_tree.specs.declared.expression.Place.{Place as CodePlace}
use Rattle.st_tree.specs.declared.expression.Root.{Root}
use Rattle.st_tree.specs.declared.expression.Root.TheVariants as root
use Rattle.st_tree.specs.declared.expression.Selector.{Selector as CodeSelector}
use Rattle.st_tree.specs.declared.expression.Tail.{Tail}
use Rattle.st_tree.specs.declared.expression.Expr.{Expr}
use Rattle.st_tree.specs.declared.expression.Expr.TheVariants as code
use Rattle.st_tree.specs.declared.expression.Selector.TheVariants as selection
use Rattle.st_tree.specs.declared.type_spec.ArraySpec.{ArraySpec}
use Rattle.st_tree.specs.declared.type_spec.TypeSpec.{TypeSpec}
use Rattle.st_tree.specs.Expression.{Expression, Selector, Field, Index, Target, Selectors, selector_then, expression_of, expression_of-Call, expression_of-Chain, expression_of-Enumerator, expression_of-Int, expression_of-Typed, expression_of-Time, expression_of-True, expression_of-False, expression_of-Null, expression_of-Now, expression_of-Place, expression_of-Ref, expression_of-Paren, expression_of-Not, expression_of-Negate, selector_of, selector_of-Field, selector_of-Index, selector_of-Target, argument_of, argument_of-Positional, argument_of-Input, argument_of-Output, expressions_of, tail_of, tail_of-operand, Argument, place_of, place_of-root, place_of-selectors, selectors_of, arguments_of, tails_of}
use Rattle.st_unit_rules.specs.Cycles.{Named, before_hash, named_in, named_by_root, named_in_selectors, named_in_selector, named_in_argument, named_in_arguments, named_in_expressions, named_in_tails, named_in_bounds, begins_with_field}
use Rattle.declared_graph.specs.declared.names.Named.{Named as Lent}
use Rattle.declared_graph.specs.Private.Names.{named_as, all_named, is_field, named_with, named_in_place, named_in_bound, named_in_arrays}

pub begins_by_first : (x : Selector ℕ) (ss : Selectors ℕ) → begins_with_field (selector_then x ss) ≡ is_field x
begins_by_first (Field l n) ss = refl
begins_by_first (Index l es) ss = refl
begins_by_first (Target l) ss = refl

arrays_are : (xs : List (ArraySpec ℕ)) → flat_map named_in_bound (flat_map (λ a. a.bounds) xs) ≡ named_in_arrays xs
arrays_are [] = refl
arrays_are (x ∷ xs) = flat_map-append named_in_bound x.bounds (flat_map (λ (a : ArraySpec ℕ). a.bounds) xs) ∙ ap (λ ys. flat_map named_in_bound x.bounds ++ ys) (arrays_are xs)

pub bounds_are : (t : TypeSpec ℕ) → named_in_bounds t ≡ named_in_arrays t.arrays
bounds_are t = arrays_are t.arrays

-- ---- one after the other

pub two_named : {X : Type 0} (xs ys all old mid new : List X) → xs ++ ys ≡ all → mid ≡ old ++ xs → new ≡ mid ++ ys → new ≡ old ++ all
two_named xs ys all old mid new e h k = k ∙ ap (λ zs. zs ++ ys) h ∙ append_assoc old xs ys ∙ ap (λ zs. old ++ zs) e

module _ (old mid new : List Named) where
  pub place_names : (p : CodePlace ℕ) (ss : List (CodeSelector ℕ)) → ss ≡ p.selectors → mid ≡ old ++ named_by_root (place_of p).0 (place_of p).1 → new ≡ mid ++ named_in_selectors (selectors_of ss)
      → new ≡ old ++ named_in_place (place_of p).0 (place_of p).1
  place_names p ss e h k =
      two_named (named_by_root (place_of p).0 (place_of p).1) (named_in_selectors (place_of p).1) (named_in_place (place_of p).0 (place_of p).1) old mid new refl h
      (k ∙ ap (λ xs. mid ++ named_in_selectors xs) (ap selectors_of e ∙ sym (place_of-selectors p)))

  pub call_names : (e : Expr ℕ) (l : ℕ) (p : CodePlace ℕ) (xs ys : List (CodeArgument ℕ)) → e ≡ code.Call l p xs → ys ≡ xs → mid ≡ old ++ named_in_place (place_of p).0 (place_of p).1
      → new ≡ mid ++ named_in_arguments (arguments_of ys) → new ≡ old ++ named_in (expression_of e)
  call_names e l p xs ys is a h k =
      two_named (named_in_place (place_of p).0 (place_of p).1) (named_in_arguments (arguments_of xs)) (named_in (expression_of e)) old mid new (sym (ap named_in (ap expression_of is ∙ expression_of-Call l p xs))) h
      (k ∙ ap (λ zs. mid ++ named_in_arguments (arguments_of zs)) a)

  pub chain_names : (e : Expr ℕ) (l : ℕ) (f x : Expr ℕ) (ts us : List (Tail ℕ)) → e ≡ code.Chain l f ts → x ≡ f → us ≡ ts → mid ≡ old ++ named_in (expression_of x) → new ≡ mid ++ named_in_tails (tails_of us)
      → new ≡ old ++ named_in (expression_of e)
  chain_names e l f x ts us is a b h k =
      two_named (named_in (expression_of f)) (named_in_tails (tails_of ts)) (named_in (expression_of e)) old mid new (sym (ap named_in (ap expression_of is ∙ expression_of-Chain l f ts)))
      (h ∙ ap (λ y. old ++ named_in (expression_of y)) a) (k ∙ ap (λ vs. mid ++ named_in_tails (tails_of vs)) b)

-- ---- what a part names

module _ (old new : List Named) (e : Expr ℕ) (l : ℕ) where
  one_named : (x : Expression ℕ) → expression_of e ≡ x → new ≡ old ++ named_in x → new ≡ old ++ named_in (expression_of e)
  one_named x is h = h ∙ ap (λ y. old ++ named_in y) (sym is)

  pub paren_names : (i x : Expr ℕ) → e ≡ code.Paren l i → x ≡ i → new ≡ old ++ named_in (expression_of x) → new ≡ old ++ named_in (expression_of e)
  paren_names i x is a h = one_named _ (ap expression_of is ∙ expression_of-Paren l i) (h ∙ ap (λ y. old ++ named_in (expression_of y)) a)

  pub not_names : (i x : Expr ℕ) → e ≡ code.Not l i → x ≡ i → new ≡ old ++ named_in (expression_of x) → new ≡ old ++ named_in (expression_of e)
  not_names i x is a h = one_named _ (ap expression_of is ∙ expression_of-Not l i) (h ∙ ap (λ y. old ++ named_in (expression_of y)) a)

  pub negate_names : (i x : Expr ℕ) → e ≡ code.Negate l i → x ≡ i → new ≡ old ++ named_in (expression_of x) → new ≡ old ++ named_in (expression_of e)
  negate_names i x is a h = one_named _ (ap expression_of is ∙ expression_of-Negate l i) (h ∙ ap (λ y. old ++ named_in (expression_of y)) a)

  pub place_named : (p : CodePlace ℕ) → e ≡ code.Place l p → new ≡ old ++ named_in_place (place_of p).0 (place_of p).1 → new ≡ old ++ named_in (expression_of e)
  place_named p is h = one_named _ (ap expression_of is ∙ expression_of-Place l p) h

  pub ref_names : (p : CodePlace ℕ) → e ≡ code.Ref l p → new ≡ old ++ named_in_place (place_of p).0 (place_of p).1 → new ≡ old ++ named_in (expression_of e)
  ref_names p is h = one_named _ (ap expression_of is ∙ expression_of-Ref l p) h

module _ (old new : List Named) (x : CodeArgument ℕ) where
  one_given : (y : Argument ℕ) → argument_of x ≡ y → new ≡ old ++ named_in_argument y → new ≡ old ++ named_in_argument (argument_of x)
  one_given y is h = h ∙ ap (λ z. old ++ named_in_argument z) (sym is)

  pub positional_names : (e : Expr ℕ) → x ≡ argument.Positional e → new ≡ old ++ named_in (expression_of e) → new ≡ old ++ named_in_argument (argument_of x)
  positional_names e is h = one_given _ (ap argument_of is ∙ argument_of-Positional e) h

  pub input_names : (l : ℕ) (n : List ℕ) (e : Expr ℕ) → x ≡ argument.Input l n e → new ≡ old ++ named_in (expression_of e) → new ≡ old ++ named_in_argument (argument_of x)
  input_names l n e is h = one_given _ (ap argument_of is ∙ argument_of-Input l n e) h

  pub output_names : (l : ℕ) (n : List ℕ) (k : ℕ) (p : CodePlace ℕ) → x ≡ argument.Output l n k p → new ≡ old ++ named_in_place (place_of p).0 (place_of p).1 → new ≡ old ++ named_in_argument (argument_of x)
  output_names l n k p is h = one_given _ (ap argument_of is ∙ argument_of-Output l n k p) h

pub index_names : (old new : List Named) (x : CodeSelector ℕ) (l : ℕ) (es fs : List (Expr ℕ)) → x ≡ selection.Index l es → fs ≡ es → new ≡ old ++ named_in_expressions (expressions_of fs) → new ≡ old ++ named_in_selector (selector_of x)
index_names old new x l es fs is a h =
    h ∙ ap (λ ys. old ++ named_in_expressions (expressions_of ys)) a ∙ ap (λ y. old ++ named_in_selector y) (sym (ap selector_of is ∙ selector_of-Index l es))

pub operand_names : {T E : Type 0} (r : Result T E) (old new : List Named) (x : Tail ℕ) → OnOk r (new ≡ old ++ named_in (expression_of x.operand)) → OnOk r (new ≡ old ++ named_in (tail_of x).2)
operand_names r old new x h = subst (λ (y : Expression ℕ). OnOk r (new ≡ old ++ named_in y)) (sym (tail_of-operand x)) h

-- the name with which a place begins
pub root_names : (p : CodePlace ℕ) (ss : List (CodeSelector ℕ)) (l : ℕ) (name : List ℕ) (dot : Bool) → p.root ≡ root.Name l name → ss ≡ p.selectors → dot ≡ begins_with_field (selectors_of ss)
    → named_with dot name ∷ [] ≡ named_by_root (place_of p).0 (place_of p).1
root_names p ss l name dot h e d =
    ap (λ b. named_with b name ∷ []) (d ∙ ap begins_with_field (ap selectors_of e ∙ sym (place_of-selectors p))) ∙ ap (λ r. named_by_root r (place_of p).1) (sym (place_of-root p ∙ h))

-- what a name before `#` adds
pub hash_names : (e : Expr ℕ) (l : ℕ) (t : List ℕ) (k : ℕ) (n : List ℕ) (old new : List Lent) (x : Lent) → e ≡ code.Enumerator l t k n → new ≡ old ++ x ∷ [] → named_as x ≡ before_hash l t
    → all_named new ≡ all_named old ++ named_in (expression_of e)
hash_names e l t k n old new x is h d =
    ap all_named h ∙ map-append named_as old (x ∷ []) ∙ ap (λ ys. all_named old ++ ys) (ap (λ y. y ∷ []) d ∙ sym (ap named_in (ap expression_of is ∙ expression_of-Enumerator l t k n)))

-- what the name adds with which a place begins
pub name_added : (p : CodePlace ℕ) (ss : List (CodeSelector ℕ)) (l : ℕ) (name : List ℕ) (dot : Bool) (old new : List Lent) (x : Lent) → p.root ≡ root.Name l name → ss ≡ p.selectors → dot ≡ begins_with_field (selectors_of ss)
    → new ≡ old ++ x ∷ [] → named_as x ≡ named_with dot name → all_named new ≡ all_named old ++ named_by_root (place_of p).0 (place_of p).1
name_added p ss l name dot old new x is e d h n =
    ap all_named h ∙ map-append named_as old (x ∷ []) ∙ ap (λ ys. all_named old ++ ys) (ap (λ y. y ∷ []) n ∙ root_names p ss l name dot is e d)

-- ---- what names nothing

nothing : (old : List Named) (xs : List Named) → xs ≡ [] → old ≡ old ++ xs
nothing old xs e = sym (ap (λ x. old ++ x) e ∙ append-nil old)

none_in : (old : List Named) (e : Expr ℕ) (x : Expression ℕ) → expression_of e ≡ x → named_in x ≡ [] → old ≡ old ++ named_in (expression_of e)
none_in old e x h k = nothing old (named_in (expression_of e)) (ap named_in h ∙ k)

pub none_in_int : (old : List Named) (l : ℕ) (digits : List ℕ) → old ≡ old ++ named_in (expression_of (code.Int l digits))
none_in_int old l digits = none_in old (code.Int l digits) _ (expression_of-Int l digits) refl

pub none_in_typed : (old : List Named) (l : ℕ) (k : Elem) (x : Literal) → old ≡ old ++ named_in (expression_of (code.Typed l k x))
none_in_typed old l k x = none_in old (code.Typed l k x) _ (expression_of-Typed l k x) refl

pub none_in_time : (old : List Named) (l : ℕ) (text : List ℕ) → old ≡ old ++ named_in (expression_of (code.Time l text))
none_in_time old l text = none_in old (code.Time l text) _ (expression_of-Time l text) refl

pub none_in_true : (old : List Named) (l : ℕ) → old ≡ old ++ named_in (expression_of (code.True l))
none_in_true old l = none_in old (code.True l) _ (expression_of-True l) refl

pub none_in_false : (old : List Named) (l : ℕ) → old ≡ old ++ named_in (expression_of (code.False l))
none_in_false old l = none_in old (code.False l) _ (expression_of-False l) refl

pub none_in_null : (old : List Named) (l : ℕ) → old ≡ old ++ named_in (expression_of (code.Null l))
none_in_null old l = none_in old (code.Null l) _ (expression_of-Null l) refl

pub none_in_now : (old : List Named) (l : ℕ) → old ≡ old ++ named_in (expression_of (code.Now l))
none_in_now old l = none_in old (code.Now l) _ (expression_of-Now l) refl

-- an expression, a selector or an argument, by its node
pub leaf_names : (old : List Named) (e x : Expr ℕ) → e ≡ x → old ≡ old ++ named_in (expression_of x) → old ≡ old ++ named_in (expression_of e)
leaf_names old e x h k = k ∙ ap (λ y. old ++ named_in (expression_of y)) (sym h)

pub none_in_field : (old : List Named) (l : ℕ) (n : List ℕ) → old ≡ old ++ named_in_selector (selector_of (selection.Field l n))
none_in_field old l n = nothing old (named_in_selector (selector_of (selection.Field l n))) (ap named_in_selector (selector_of-Field l n))

pub none_in_target : (old : List Named) (l : ℕ) → old ≡ old ++ named_in_selector (selector_of (selection.Target l))
none_in_target old l = nothing old (named_in_selector (selector_of (selection.Target l))) (ap named_in_selector (selector_of-Target l))

pub field_names : (old : List Named) (x : CodeSelector ℕ) (l : ℕ) (n : List ℕ) → x ≡ selection.Field l n → old ≡ old ++ named_in_selector (selector_of x)
field_names old x l n h = none_in_field old l n ∙ ap (λ y. old ++ named_in_selector (selector_of y)) (sym h)

pub target_names : (old : List Named) (x : CodeSelector ℕ) (l : ℕ) → x ≡ selection.Target l → old ≡ old ++ named_in_selector (selector_of x)
target_names old x l h = none_in_target old l ∙ ap (λ y. old ++ named_in_selector (selector_of y)) (sym h)

pub no_name : (old : List Named) (p : CodePlace ℕ) (r : Root ℕ) → p.root ≡ r → ((ss : Selectors ℕ) → named_by_root r ss ≡ []) → old ≡ old ++ named_by_root (place_of p).0 (place_of p).1
no_name old p r is h = nothing old (named_by_root (place_of p).0 (place_of p).1) (ap (λ x. named_by_root x (place_of p).1) (place_of-root p ∙ is) ∙ h (place_of p).1)
