-- Nodes around expressions, and calls.
use Rattle.std.proofs.Common.{◌≡◌, ◌++◌, ℕ, Bool, true, false, List, [], ◌∷◌, Some, None, map, refl, sym, ap, ◌∙◌, subst}
use Rattle.st_tree.specs.declared.expression.Expr.{Expr}
use Rattle.st_tree.specs.declared.expression.Place.{Place as CodePlace}
use Rattle.st_tree.specs.declared.expression.Root.{Root}
use Rattle.st_tree.specs.declared.program.Note.{Note}
use Rattle.st_tree.specs.declared.program.Target.TheVariants.{Nothing}
use Rattle.st_tree.specs.Expression.{Expression, expression_of, Paren, Not, Negate, Call, Selectors, selectors_of, Argument, Positional, Input, Output, Arguments, no_arguments, argument_then, arguments_of, place_of, place_of-is}
use Rattle.st_rules.specs.declared.asked.Asked.{Asked}
use Rattle.st_rules.specs.declared.asked.Asked.TheVariants.{Anything}
use Rattle.st_rules.specs.Faults.{least, earlier}
use Rattle.st_rules.specs.Kinds.{takes_not, takes_minus, unary_type}
use Rattle.st_rules.specs.Scope.{Scope}
use Rattle.st_rules.specs.Places.{root_line, root_standing, too_many_selectors}
use Rattle.st_rules.specs.Calls.{Matched, callee, call_type, call_without_result, callee_faults, call_matches, heads, is_on_super, first_match, later_matches, asked_by, matched_type}
use Rattle.st_rules.specs.Expressions.{note, is_int, line_of, operand_unsuited, type_of, faults, called_root_faults, along_faults, argument_faults, given_unsuited, matched_target, typed_root, typed_along, typed_arguments}
use Rattle.check_nodes.specs.declared.calls.Prepared.{Prepared}
use Rattle.check_nodes.specs.declared.found.Checked.{Checked}
use Rattle.check_nodes.specs.declared.lists.Arguments.{Arguments as SoFar}
use Rattle.check_nodes.specs.declared.wholes.CheckedPlace.{CheckedPlace}
use Rattle.check_nodes.specs.Calls.{IsPrepared, Finishes}
use Rattle.check_nodes.specs.Found.{Checks}
use Rattle.check_nodes.specs.Wraps.{Encloses, Denies, Negates}
use Rattle.check_nodes.specs.Slots.{slots, used}
use Rattle.st_check_expr.specs.Walk.{PlaceFinds}
use Rattle.st_check_expr.specs.Walk.{ArgumentsFind}
use Rattle.st_check_expr.specs.Private.Lists.{one_argument, one_typed}
use Rattle.st_check_expr.proofs.ListSteps.{first_argument, first_typed}
use Rattle.st_check_expr.proofs.Parts.{joined}
use Rattle.st_check_expr.proofs.NegateLaws.{SignIs, sign_is, inner}

pub paren_checks : (c x : Checked) (s : Scope) (asked : Asked) (l : ℕ) (e : Expression ℕ) → Encloses c l x → Checks x s asked e → Checks c s asked (Paren l e)
paren_checks c x s asked l e w f = record {
  told = w.told ∙ f.told;
  least = w.least ∙ f.least;
  tree = w.tree ∙ ap (λ t. Paren (note l t Nothing) (expression_of x.tree)) f.told ∙ ap (Paren (note l (type_of s asked e) Nothing)) f.tree;
}

pub not_checks : (c x : Checked) (s : Scope) (asked : Asked) (l k : ℕ) (e : Expression ℕ) → Denies c l k x → k ≡ line_of e → Checks x s Anything e → Checks c s asked (Not l e)
not_checks c x s asked l k e w h f = record {
  told = w.told ∙ ap (unary_type takes_not) f.told;
  least = joined c.least x.least (least (operand_unsuited k takes_not x.told)) (faults s Anything e) (operand_unsuited (line_of e) takes_not (type_of s Anything e)) w.least f.least
      (ap (λ n. least (operand_unsuited n takes_not x.told)) h ∙ ap (λ t. least (operand_unsuited (line_of e) takes_not t)) f.told);
  tree = w.tree ∙ ap (λ t. Not (note l (unary_type takes_not t) Nothing) (expression_of x.tree)) f.told ∙ ap (Not (note l (unary_type takes_not (type_of s Anything e)) Nothing)) f.tree;
}

sign_checks : (c x : Checked) (s : Scope) (asked : Asked) (l k : ℕ) (e : Expression ℕ) → SignIs s asked l e → Negates c l k x → k ≡ line_of e → Checks x s (inner s asked l e) e → Checks c s asked (Negate l e)
sign_checks c x s asked l k e i w h f = record {
  told = w.told ∙ ap (unary_type takes_minus) f.told ∙ sym i.told;
  least = joined c.least x.least (least (operand_unsuited k takes_minus x.told)) (faults s (inner s asked l e) e) (operand_unsuited (line_of e) takes_minus (type_of s (inner s asked l e) e)) w.least f.least
      (ap (λ n. least (operand_unsuited n takes_minus x.told)) h ∙ ap (λ t. least (operand_unsuited (line_of e) takes_minus t)) f.told)
      ∙ sym (ap least i.broken);
  tree = w.tree ∙ ap (λ t. Negate (note l (unary_type takes_minus t) Nothing) (expression_of x.tree)) f.told ∙ ap (Negate (note l (unary_type takes_minus (type_of s (inner s asked l e) e)) Nothing)) f.tree ∙ sym i.tree;
}

pub negate_checks : (c x : Checked) (s : Scope) (asked wanted : Asked) (l k : ℕ) (e : Expression ℕ) → is_int e ≡ false → Negates c l k x → k ≡ line_of e → wanted ≡ inner s asked l e → Checks x s wanted e → Checks c s asked (Negate l e)
negate_checks c x s asked wanted l k e i w h p f = sign_checks c x s asked l k e (sign_is s asked l e i) w h (subst (λ (a : Asked). Checks x s a e) p f)

-- ---- calls

-- what is needed of the parameters is all that counts
first_used : (ms : List Matched) → first_match (map used ms) ≡ used (first_match ms)
first_used [] = refl
first_used (m ∷ ms) = refl

later_used : (ms : List Matched) → later_matches (map used ms) ≡ map used (later_matches ms)
later_used [] = refl
later_used (m ∷ ms) = refl

one_used : (s : Scope) (m : Matched) (x : Argument ℕ) → one_argument s (used m) x ≡ one_argument s m x
unfolding asked_by matched_type given_unsuited
one_used s None (Positional e) = refl
one_used s None (Input l n e) = refl
one_used s None (Output l n k r ss) = refl
one_used s (Some p) (Positional e) = refl
one_used s (Some p) (Input l n e) = refl
one_used s (Some p) (Output l n k r ss) = refl

one_typed_used : (s : Scope) (m : Matched) (x : Argument ℕ) → one_typed s (used m) x ≡ one_typed s m x
unfolding asked_by matched_type matched_target
one_typed_used s None (Positional e) = refl
one_typed_used s None (Input l n e) = refl
one_typed_used s None (Output l n k r ss) = refl
one_typed_used s (Some p) (Positional e) = refl
one_typed_used s (Some p) (Input l n e) = refl
one_typed_used s (Some p) (Output l n k r ss) = refl

pub faults_used : (s : Scope) (ms : List Matched) (xs : Arguments ℕ) → least (argument_faults s (map used ms) xs) ≡ least (argument_faults s ms xs)
faults_used s ms no_arguments = refl
faults_used s ms (argument_then x xs) =
    first_argument s (map used ms) x xs
    ∙ ap (λ (m : Matched). earlier (least (one_argument s m x)) (least (argument_faults s (later_matches (map used ms)) xs))) (first_used ms)
    ∙ ap (λ fs. earlier (least fs) (least (argument_faults s (later_matches (map used ms)) xs))) (one_used s (first_match ms) x)
    ∙ ap (λ (us : List Matched). earlier (least (one_argument s (first_match ms) x)) (least (argument_faults s us xs))) (later_used ms)
    ∙ ap (earlier (least (one_argument s (first_match ms) x))) (faults_used s (later_matches ms) xs)
    ∙ sym (first_argument s ms x xs)

pub typed_used : (s : Scope) (ms : List Matched) (xs : Arguments ℕ) → typed_arguments s (map used ms) xs ≡ typed_arguments s ms xs
typed_used s ms no_arguments = refl
typed_used s ms (argument_then x xs) =
    first_typed s (map used ms) x xs
    ∙ ap (λ (m : Matched). argument_then (one_typed s m x) (typed_arguments s (later_matches (map used ms)) xs)) (first_used ms)
    ∙ ap (λ y. argument_then y (typed_arguments s (later_matches (map used ms)) xs)) (one_typed_used s (first_match ms) x)
    ∙ ap (λ (us : List Matched). argument_then (one_typed s (first_match ms) x) (typed_arguments s us xs)) (later_used ms)
    ∙ ap (argument_then (one_typed s (first_match ms) x)) (typed_used s (later_matches ms) xs)
    ∙ sym (first_typed s ms x xs)

pub call_checks : (c : Checked) (s : Scope) (asked : Asked) (l : ℕ) (r : Root ℕ) (ss : Selectors ℕ) (xs : Arguments ℕ) (call : Prepared) (place : CheckedPlace) (found : SoFar) →
    IsPrepared call s l (is_on_super r ss) (callee s r ss) (heads xs) → PlaceFinds place s true r ss →
    ArgumentsFind found s (slots call.slots.items) xs → Finishes c s l r ss call place found → Checks c s asked (Call l r ss xs)
call_checks c s asked l r ss xs call place found p f a w =
    let of_place = called_root_faults s r ss ++ along_faults s (root_line r) true (root_standing s r ss) ss in
    let of_callee = callee_faults s l (is_on_super r ss) (callee s r ss) (heads xs) in
    let ms = call_matches s (callee s r ss) (heads xs) in
    record {
      told = w.told ∙ p.told;
      least =
          joined c.least _ call.of_result (of_place ++ too_many_selectors s (root_line r) ss ++ of_callee ++ argument_faults s ms xs) (call_without_result l (callee s r ss)) w.broken
          (joined _ _ found.least (of_place ++ too_many_selectors s (root_line r) ss ++ of_callee) (argument_faults s ms xs) refl
          (joined _ _ call.least (of_place ++ too_many_selectors s (root_line r) ss) of_callee refl
          (joined _ place.least _ of_place (too_many_selectors s (root_line r) ss) refl f.broken refl)
          p.own)
          (a.broken ∙ ap (λ (us : List Matched). least (argument_faults s us xs)) p.matches ∙ faults_used s ms xs))
          p.without_result;
      tree = w.tree
          ∙ ap (λ t. Call (note l t Nothing) (place_of place.place).0 (place_of place.place).1 (arguments_of found.arguments)) p.told
          ∙ ap (λ (q : Root Note × Selectors Note). Call (note l (call_type (callee s r ss)) Nothing) q.0 q.1 (arguments_of found.arguments)) f.tree
          ∙ ap (λ ys. Call (note l (call_type (callee s r ss)) Nothing) (typed_root s true r ss) (typed_along s true (root_standing s r ss) ss) ys)
          (a.tree ∙ ap (λ (us : List Matched). typed_arguments s us xs) p.matches ∙ typed_used s ms xs);
    }

-- ---- as the code holds them

pub seen : (c : Checked) (s : Scope) (asked : Asked) (e : Expr ℕ) (x : Expression ℕ) → expression_of e ≡ x → Checks c s asked x → Checks c s asked (expression_of e)
seen c s asked e x h f = subst (λ (y : Expression ℕ). Checks c s asked y) (sym h) f

-- places in one, by their parts
pub place_seen : (x : CheckedPlace) (s : Scope) (called : Bool) (p : CodePlace ℕ) → PlaceFinds x s called p.root (selectors_of p.selectors) → PlaceFinds x s called (place_of p).0 (place_of p).1
place_seen x s called p f = subst (λ (q : Root ℕ × Selectors ℕ). PlaceFinds x s called q.0 q.1) (sym (place_of-is p)) f

pub place_told : (x : CheckedPlace) (s : Scope) (called : Bool) (p : CodePlace ℕ) → PlaceFinds x s called (place_of p).0 (place_of p).1 → PlaceFinds x s called p.root (selectors_of p.selectors)
place_told x s called p f = subst (λ (q : Root ℕ × Selectors ℕ). PlaceFinds x s called q.0 q.1) (place_of-is p) f
