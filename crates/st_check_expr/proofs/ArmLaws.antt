-- What each arm of the walk finds, from what its calls promise.
use Rattle.std.proofs.Common.{◌≡◌, ℕ, ◌≤◌, Bool, true, false, List, Option, Some, None, sym, ap, ◌∙◌, subst, drop, length}
use Rattle.plc_text.specs.declared.code.Code.{Code}
use Rattle.st_tree.specs.declared.expression.Argument.{Argument as CodeArgument}
use Rattle.st_tree.specs.declared.expression.Argument.TheVariants as argument
use Rattle.st_tree.specs.declared.expression.Expr.{Expr}
use Rattle.st_tree.specs.declared.expression.Expr.TheVariants as code
use Rattle.st_tree.specs.declared.expression.Place.{Place as CodePlace}
use Rattle.st_tree.specs.declared.expression.Root.{Root}
use Rattle.st_tree.specs.declared.expression.Selector.{Selector as CodeSelector}
use Rattle.st_tree.specs.declared.expression.Selector.TheVariants as selection
use Rattle.st_tree.specs.declared.expression.Tail.{Tail}
use Rattle.st_tree.specs.declared.program.Note.{Note}
use Rattle.st_tree.specs.Expression.{Expression, Int, Negate, expression_of, expression_of-Paren, expression_of-Not, expression_of-Negate, expression_of-Chain, expressions_of, selector_of, selector_of-Field, selector_of-Index, selector_of-Target, Field, selectors_of, argument_of, argument_of-Positional, argument_of-Input, Input, arguments_of, place_of, tail_of, tails_of, no_tails}
use Rattle.st_tree.specs.Expression as tree
use Rattle.st_rules.specs.declared.asked.Asked.{Asked}
use Rattle.st_rules.specs.declared.asked.Asked.TheVariants.{Anything}
use Rattle.st_rules.specs.Faults.{least}
use Rattle.st_rules.specs.Places as places
use Rattle.st_rules.specs.Places.{root_line, root_standing, selected, selector_faults}
use Rattle.st_rules.specs.Calls.{Matched, callee, heads, is_on_super, asked_by}
use Rattle.st_rules.specs.Scope.{Scope}
use Rattle.st_rules.specs.Expressions.{line_of, is_untyped, front_asked, asked_behind, typed_root}
use Rattle.check_places.specs.declared.standing.Standing.{Standing}
use Rattle.check_places.specs.Standing.{standing}
use Rattle.check_nodes.specs.declared.along.Along.{Along}
use Rattle.check_nodes.specs.declared.along.CheckedSelector.{CheckedSelector}
use Rattle.check_nodes.specs.declared.calls.Prepared.{Prepared}
use Rattle.check_nodes.specs.declared.found.Checked.{Checked}
use Rattle.check_nodes.specs.declared.lists.Arguments.{Arguments as SoFar}
use Rattle.check_nodes.specs.declared.lists.CheckedArgument.{CheckedArgument}
use Rattle.check_nodes.specs.declared.lists.Indices.{Indices}
use Rattle.check_nodes.specs.declared.rows.Ahead.{Ahead}
use Rattle.check_nodes.specs.declared.rows.Row.{Row}
use Rattle.check_nodes.specs.declared.slots.Slot.{Slot}
use Rattle.check_nodes.specs.declared.wholes.CheckedPlace.{CheckedPlace}
use Rattle.check_nodes.specs.Along.{IsField, IsIndex, IsTarget}
use Rattle.check_nodes.specs.Calls.{IsPrepared, Finishes}
use Rattle.check_nodes.specs.Found.{Checks}
use Rattle.check_nodes.specs.Given.{GivesPositional, GivesInput, GivesOutput}
use Rattle.check_nodes.specs.Rows.{Begins, Closes, Looks}
use Rattle.check_nodes.specs.Slots.{slots}
use Rattle.check_nodes.specs.Wholes.{root_part, Wholes, Refers}
use Rattle.check_nodes.specs.Wholes as wholes
use Rattle.check_nodes.specs.Wraps.{Encloses, Denies}
use Rattle.st_check_expr.specs.Walk.{PlaceFinds, ArgumentsFind}
use Rattle.st_check_expr.specs.Private.Along.{AlongFinds, SelectorFinds}
use Rattle.st_check_expr.specs.Private.Lists.{IndicesFind, ArgumentFinds}
use Rattle.st_check_expr.specs.Private.Rows.{LooksAhead, StepsAhead, GoesOn, EndsAt, ahead_rest, row_rest}
use Rattle.st_check_expr.proofs.AheadSteps.{looks_to_the_end}
use Rattle.st_check_expr.proofs.AlongSteps.{place_checks, ref_checks, place_finds, field_finds, index_finds, target_finds}
use Rattle.st_check_expr.proofs.ListSteps.{positional_finds, input_finds, output_finds}
use Rattle.st_check_expr.proofs.LoopSteps.{tails_end}
use Rattle.st_check_expr.proofs.NodeLaws.{seen, paren_checks, not_checks, call_checks, place_seen, place_told}
use Rattle.st_check_expr.proofs.StepLaws.{chain_checks, place_is, ref_is, call_is, output_is, selector_seen, argument_seen}

-- ---- expressions in expressions

module _ (c x : Checked) (s : Scope) (asked : Asked) (e : Expr ℕ) (l : ℕ) (inner i : Expr ℕ) (p : i ≡ inner) where
  pub paren_arm : e ≡ code.Paren l inner → Encloses c l x → Checks x s asked (expression_of i) → Checks c s asked (expression_of e)
  paren_arm h w f = seen c s asked e (tree.Paren l (expression_of i)) (ap expression_of (h ∙ ap (code.Paren l) (sym p)) ∙ expression_of-Paren l i) (paren_checks c x s asked l (expression_of i) w f)

  pub not_arm : (k : ℕ) → e ≡ code.Not l inner → Denies c l k x → k ≡ line_of (expression_of i) → Checks x s Anything (expression_of i) → Checks c s asked (expression_of e)
  not_arm k h w n f = seen c s asked e (tree.Not l (expression_of i)) (ap expression_of (h ∙ ap (code.Not l) (sym p)) ∙ expression_of-Not l i) (not_checks c x s asked l k (expression_of i) w n f)

  pub sign_arm : e ≡ code.Negate l inner → Checks c s asked (Negate l (expression_of i)) → Checks c s asked (expression_of e)
  sign_arm h f = seen c s asked e (Negate l (expression_of i)) (ap expression_of (h ∙ ap (code.Negate l) (sym p)) ∙ expression_of-Negate l i) f

pub int_arm : (c : Checked) (s : Scope) (asked : Asked) (l : ℕ) (x : Expression ℕ) (k : ℕ) (digits : List ℕ) → x ≡ Int k digits → Checks c s asked (Negate l (Int k digits)) → Checks c s asked (Negate l x)
int_arm c s asked l x k digits h f = subst (λ (y : Expression ℕ). Checks c s asked (Negate l y)) (sym h) f

pub chain_arm : (c x : Checked) (s : Scope) (asked front : Asked) (e : Expr ℕ) (l : ℕ) (first f : Expr ℕ) (ts us : List (Tail ℕ)) (b r : Row) (u : Bool) → e ≡ code.Chain l first ts → f ≡ first → us ≡ ts →
    u ≡ is_untyped (expression_of f) → front ≡ front_asked u (asked_behind s asked (tails_of us)) → Begins b u x → Checks x s front (expression_of f) →
    row_rest s front r no_tails ≡ row_rest s front b (tails_of us) → Closes c l r → Checks c s asked (expression_of e)
chain_arm c x s asked front e l first f ts us b r u h p q n w begins g goes closes =
    seen c s asked e (tree.Chain l (expression_of f) (tails_of us))
    (ap expression_of (h ∙ ap (λ (y : Expr ℕ). code.Chain l y ts) (sym p) ∙ ap (λ (ys : List (Tail ℕ)). code.Chain l f ys) (sym q)) ∙ expression_of-Chain l f us)
    (chain_checks c x s asked front l (expression_of f) (tails_of us) b r u n w begins g goes closes)

-- ---- places in expressions

module _ (c : Checked) (s : Scope) (asked : Asked) (e : Expr ℕ) (l : ℕ) (p : CodePlace ℕ) (zs : List (CodeSelector ℕ)) (q : zs ≡ p.selectors) where
  place_parts : (x : CheckedPlace) (called : Bool) → PlaceFinds x s called (place_of p).0 (place_of p).1 → PlaceFinds x s called p.root (selectors_of zs)
  place_parts x called f = subst (λ (us : List (CodeSelector ℕ)). PlaceFinds x s called p.root (selectors_of us)) (sym q) (place_told x s called p f)

  pub place_arm : (x : CheckedPlace) → e ≡ code.Place l p → Wholes c s l p.root (selectors_of zs) x → PlaceFinds x s false (place_of p).0 (place_of p).1 → Checks c s asked (expression_of e)
  place_arm x h w f =
      seen c s asked e (tree.Place l p.root (selectors_of zs)) (ap expression_of h ∙ place_is l p ∙ ap (λ (us : List (CodeSelector ℕ)). tree.Place l p.root (selectors_of us)) (sym q))
      (place_checks c s asked l p.root (selectors_of zs) x w (place_parts x false f))

  pub ref_arm : (x : CheckedPlace) → e ≡ code.Ref l p → Refers c s l p.root (selectors_of zs) x → PlaceFinds x s false (place_of p).0 (place_of p).1 → Checks c s asked (expression_of e)
  ref_arm x h w f =
      seen c s asked e (tree.Ref l p.root (selectors_of zs)) (ap expression_of h ∙ ref_is l p ∙ ap (λ (us : List (CodeSelector ℕ)). tree.Ref l p.root (selectors_of us)) (sym q))
      (ref_checks c s asked l p.root (selectors_of zs) x w (place_parts x false f))

  pub call_arm : (xs ys : List (CodeArgument ℕ)) (call : Prepared) (x : CheckedPlace) (found : SoFar) (list : List (Option Slot)) → e ≡ code.Call l p xs → ys ≡ xs →
      IsPrepared call s l (is_on_super p.root (selectors_of zs)) (callee s p.root (selectors_of zs)) (heads (arguments_of ys)) → PlaceFinds x s true (place_of p).0 (place_of p).1 →
      list ≡ call.slots.items → ArgumentsFind found s (slots list) (arguments_of ys) → Finishes c s l p.root (selectors_of zs) call x found → Checks c s asked (expression_of e)
  call_arm xs ys call x found list h k is f g a w =
      seen c s asked e (tree.Call l p.root (selectors_of zs) (arguments_of ys))
      (ap expression_of h ∙ call_is l p xs ∙ ap (λ (us : List (CodeSelector ℕ)). tree.Call l p.root (selectors_of us) (arguments_of xs)) (sym q) ∙ ap (λ (us : List (CodeArgument ℕ)). tree.Call l p.root (selectors_of zs) (arguments_of us)) (sym k))
      (call_checks c s asked l p.root (selectors_of zs) (arguments_of ys) call x found is (place_parts x true f) (subst (λ (us : List (Option Slot)). ArgumentsFind found s (slots us) (arguments_of ys)) g a) w)

-- ---- the look ahead

pub steps_on : (r : Option Ahead) (s : Scope) (t : Tail ℕ) → StepsAhead r s (tail_of t).0 (tail_of t).1 (tail_of t).2 → r ≡ None → GoesOn s (tail_of t).0 (tail_of t).1 (tail_of t).2
steps_on r s t f h = subst (λ (o : Option Ahead). StepsAhead o s (tail_of t).0 (tail_of t).1 (tail_of t).2) h f

pub steps_to : (r : Option Ahead) (s : Scope) (t : Tail ℕ) (a : Ahead) → StepsAhead r s (tail_of t).0 (tail_of t).1 (tail_of t).2 → r ≡ Some a → EndsAt s (tail_of t).0 (tail_of t).1 (tail_of t).2 a
steps_to r s t a f h = subst (λ (o : Option Ahead). StepsAhead o s (tail_of t).0 (tail_of t).1 (tail_of t).2) h f

pub end_arm : (s : Scope) (asked : Asked) (passed untyped : Bool) (ts : List (Tail ℕ)) (i : ℕ) (x : Ahead) → untyped ≡ true → length ts ≤ i → ahead_rest s passed asked (tails_of (drop i ts)) ≡ ahead_rest s false asked (tails_of ts) →
    Looks x passed asked None → LooksAhead x s untyped asked (tails_of ts)
end_arm s asked passed untyped ts i x u h p looks =
    subst (λ (b : Bool). LooksAhead x s b asked (tails_of ts)) (sym u)
    (looks_to_the_end s asked passed (tails_of ts) x (sym (ap (ahead_rest s passed asked) (tails_end ts i h)) ∙ p) looks)

-- ---- places

pub parts_arm : (x : CheckedPlace) (s : Scope) (called : Bool) (p : CodePlace ℕ) (zs : List (CodeSelector ℕ)) (of_root : Option (Code × ℕ)) (typed : Root Note) (along : Along) (line : ℕ) (b : places.Standing) → zs ≡ p.selectors →
    wholes.Begins x of_root typed along → of_root ≡ least (root_part s called p.root (selectors_of zs)) → typed ≡ typed_root s called p.root (selectors_of zs) → line ≡ root_line p.root → b ≡ root_standing s p.root (selectors_of zs) →
    AlongFinds along s line called b (selectors_of zs) → PlaceFinds x s called (place_of p).0 (place_of p).1
parts_arm x s called p zs of_root typed along line b q begins n t h k f =
    place_seen x s called p
    (subst (λ (us : List (CodeSelector ℕ)). PlaceFinds x s called p.root (selectors_of us)) q
    (place_finds x s called p.root (selectors_of zs) of_root typed along begins n t
    (subst (λ (m : ℕ). AlongFinds along s m called (root_standing s p.root (selectors_of zs)) (selectors_of zs)) h
    (subst (λ (d : places.Standing). AlongFinds along s line called d (selectors_of zs)) k f))))

-- ---- one selector

module _ (c : CheckedSelector) (s : Scope) (line : ℕ) (called : Bool) (b : places.Standing) (next : Standing) (own : Option (Code × ℕ)) (x : CodeSelector ℕ)
    (n : standing next ≡ selected s b (selector_of x)) (o : own ≡ least (selector_faults s line called b (selector_of x))) (l : ℕ) where
  pub field_arm : (name : List ℕ) → x ≡ selection.Field l name → IsField c s called b own l name → SelectorFinds c s line called b (selector_of x)
  field_arm name h f =
      let is : selector_of x ≡ Field l name = ap selector_of h ∙ selector_of-Field l name in
      selector_seen c s line called b x (Field l name) is
      (field_finds c s line called b own l name f (o ∙ ap (λ y. least (selector_faults s line called b y)) is))

  pub index_arm : (es ys : List (Expr ℕ)) (found : Indices) → x ≡ selection.Index l es → ys ≡ es → IsIndex c s (standing next) own l found → IndicesFind found s (expressions_of ys) → SelectorFinds c s line called b (selector_of x)
  index_arm es ys found h k f g =
      let is : selector_of x ≡ tree.Index l (expressions_of ys) = ap selector_of (h ∙ ap (selection.Index l) (sym k)) ∙ selector_of-Index l ys in
      selector_seen c s line called b x (tree.Index l (expressions_of ys)) is
      (index_finds c s line called b next own l (expressions_of ys) found f (n ∙ ap (selected s b) is) (o ∙ ap (λ y. least (selector_faults s line called b y)) is) g)

  pub target_arm : x ≡ selection.Target l → IsTarget c s (standing next) own l → SelectorFinds c s line called b (selector_of x)
  target_arm h f =
      let is : selector_of x ≡ tree.Target l = ap selector_of h ∙ selector_of-Target l in
      selector_seen c s line called b x (tree.Target l) is
      (target_finds c s line called b next own l f (n ∙ ap (selected s b) is) (o ∙ ap (λ y. least (selector_faults s line called b y)) is))

-- ---- one argument

module _ (c : CheckedArgument) (s : Scope) (m : Matched) (x : CodeArgument ℕ) where
  pub positional_arm : (e : Expr ℕ) (value : Checked) (a : Asked) → x ≡ argument.Positional e → a ≡ asked_by m → Checks value s a (expression_of e) → GivesPositional c s m (expression_of e) value → ArgumentFinds c s m (argument_of x)
  positional_arm e value a h p f g =
      argument_seen c s m x (tree.Positional (expression_of e)) (ap argument_of h ∙ argument_of-Positional e)
      (positional_finds c s m (expression_of e) value g (subst (λ (b : Asked). Checks value s b (expression_of e)) p f))

  pub input_arm : (l : ℕ) (name : List ℕ) (e : Expr ℕ) (value : Checked) (a : Asked) → x ≡ argument.Input l name e → a ≡ asked_by m → Checks value s a (expression_of e) → GivesInput c s m l name (expression_of e) value → ArgumentFinds c s m (argument_of x)
  input_arm l name e value a h p f g =
      argument_seen c s m x (Input l name (expression_of e)) (ap argument_of h ∙ argument_of-Input l name e)
      (input_finds c s m l name (expression_of e) value g (subst (λ (b : Asked). Checks value s b (expression_of e)) p f))

  pub output_arm : (l : ℕ) (name : List ℕ) (k : ℕ) (p : CodePlace ℕ) (zs : List (CodeSelector ℕ)) (place : CheckedPlace) → x ≡ argument.Output l name k p → zs ≡ p.selectors → PlaceFinds place s false (place_of p).0 (place_of p).1 →
      GivesOutput c s m l name k p.root (selectors_of zs) place → ArgumentFinds c s m (argument_of x)
  output_arm l name k p zs place h q f g =
      argument_seen c s m x (tree.Output l name k p.root (selectors_of p.selectors)) (ap argument_of h ∙ output_is l p name k)
      (output_finds c s m l name k p.root (selectors_of p.selectors) place (subst (λ (us : List (CodeSelector ℕ)). GivesOutput c s m l name k p.root (selectors_of us) place) q g) (place_told place s false p f))
