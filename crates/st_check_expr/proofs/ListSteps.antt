-- One index or argument more.
use Rattle.std.proofs.Common.{◌≡◌, ℕ, zero, suc, ◌+◌, false, List, [], ◌∷◌, ◌++◌, Option, refl, sym, ap, ◌∙◌, arith, drop, map}
use Rattle.std.proofs.lemmas.Grind.{common_steps}
use Rattle.plc_text.specs.declared.code.Code.{Code}
use Rattle.st_tree.specs.declared.expression.Root.{Root}
use Rattle.st_tree.specs.declared.program.Note.{Note}
use Rattle.st_tree.specs.declared.program.Target.TheVariants.{Nothing}
use Rattle.st_tree.specs.Expression.{Expression, Expressions, no_expressions, expression_then, expression_of, expressions, Selectors, Argument, Positional, Input, Output, Arguments, no_arguments, argument_then, argument_of, arguments}
use Rattle.st_rules.specs.declared.asked.Asked.TheVariants.{Anything}
use Rattle.st_rules.specs.Faults.{Faults, least, earlier}
use Rattle.st_rules.specs.Scope.{Scope}
use Rattle.st_rules.specs.Places.{root_faults, root_line, root_standing, whole_faults, target_faults, place_type}
use Rattle.st_rules.specs.Calls.{Matched, first_match, later_matches, asked_by, matched_type, output_unsuited}
use Rattle.st_rules.specs.Expressions.{note, matched_target, line_of, index_unsuited, index_faults, type_of, faults, given_unsuited, along_faults, argument_faults, typed, typed_indices, typed_arguments}
use Rattle.st_rules.proofs.FaultLaws.{earlier-none, least-append, earlier-assoc}
use Rattle.check_nodes.specs.declared.found.Checked.{Checked}
use Rattle.check_nodes.specs.declared.lists.Indices.{Indices}
use Rattle.check_nodes.specs.declared.lists.Arguments.{Arguments as SoFar}
use Rattle.check_nodes.specs.declared.lists.CheckedArgument.{CheckedArgument}
use Rattle.check_nodes.specs.declared.wholes.CheckedPlace.{CheckedPlace}
use Rattle.check_nodes.specs.Found.{Checks}
use Rattle.check_nodes.specs.Given.{GivesPositional, GivesInput, GivesOutput}
use Rattle.check_nodes.specs.Lists.{NoIndex, NoArgument, AddsIndex, AddsArgument}
use Rattle.st_check_expr.specs.Walk.{PlaceFinds, ArgumentsFind}
use Rattle.st_check_expr.specs.Private.Lists.{IndicesFind, ArgumentFinds, index_rest, argument_rest, one_argument, one_typed, expressions_onto, arguments_onto}
use Rattle.st_check_expr.proofs.Parts.{both, three_parts, joined}

-- ---- indices

pub expressions_append : (xs ys : List (Expression Note)) (rest : Expressions Note) → expressions_onto (xs ++ ys) rest ≡ expressions_onto xs (expressions_onto ys rest)
expressions_append [] ys rest = refl
expressions_append (x ∷ xs) ys rest = ap (expression_then x) (expressions_append xs ys rest)

pub expressions_nothing : (xs : List (Expression Note)) → expressions_onto xs no_expressions ≡ expressions xs
expressions_nothing [] = refl
expressions_nothing (x ∷ xs) = ap (expression_then x) (expressions_nothing xs)

pub index_goes : (s : Scope) (before x : Indices) (one : Checked) (e : Expression ℕ) (es : Expressions ℕ) → AddsIndex x before (line_of e) one → Checks one s Anything e → index_rest s x es ≡ index_rest s before (expression_then e es)
unfolding index_rest
index_goes s before x one e es a f = both
    (ap (λ r. earlier r (least (index_faults s es)))
    (a.least
    ∙ ap (λ t. earlier (earlier before.least t) (least (index_unsuited (line_of e) one.told))) f.least
    ∙ ap (λ t. earlier (earlier before.least (least (faults s Anything e))) (least (index_unsuited (line_of e) t))) f.told)
    ∙ sym (three_parts before.least (faults s Anything e) (index_unsuited (line_of e) (type_of s Anything e)) (index_faults s es)))
    (ap (λ xs. expressions_onto xs (typed_indices s es)) (a.expressions ∙ ap (λ t. map expression_of before.expressions ++ t ∷ []) f.tree)
    ∙ expressions_append (map expression_of before.expressions) (typed s Anything e ∷ []) (typed_indices s es))

pub no_index_so : (s : Scope) (x : Indices) (es : Expressions ℕ) → NoIndex x → index_rest s x es ≡ ((least (index_faults s es)), (typed_indices s es))
unfolding index_rest
no_index_so s x es n = both (ap (λ r. earlier r (least (index_faults s es))) n.least) (ap (λ xs. expressions_onto xs (typed_indices s es)) n.expressions)

pub indices_found : (s : Scope) (x : Indices) (es : Expressions ℕ) → index_rest s x no_expressions ≡ ((least (index_faults s es)), (typed_indices s es)) → IndicesFind x s es
unfolding index_rest
indices_found s x es h = record {
  broken = sym (earlier-none x.least) ∙ ap (λ p. p.0) h;
  tree = sym (expressions_nothing (map expression_of x.expressions)) ∙ ap (λ p. p.1) h;
}

-- ---- arguments

pub later_drop : (i : ℕ) (ms : List Matched) → later_matches (drop i ms) ≡ drop (i + 1) ms
later_drop i [] = grind (arith, common_steps)
later_drop zero (m ∷ ms) = grind (arith, common_steps)
later_drop (suc i) (m ∷ ms) = later_drop i ms ∙ grind (arith, common_steps)

-- the first argument's faults, then those of the rest
pub first_argument : (s : Scope) (ms : List Matched) (x : Argument ℕ) (xs : Arguments ℕ) → least (argument_faults s ms (argument_then x xs)) ≡ earlier (least (one_argument s (first_match ms) x)) (least (argument_faults s (later_matches ms) xs))
first_argument s ms (Positional e) xs = least-append (one_argument s (first_match ms) (Positional e)) (argument_faults s (later_matches ms) xs)
first_argument s ms (Input l n e) xs = least-append (one_argument s (first_match ms) (Input l n e)) (argument_faults s (later_matches ms) xs)
first_argument s ms (Output l n k r ss) xs = least-append (one_argument s (first_match ms) (Output l n k r ss)) (argument_faults s (later_matches ms) xs)

pub first_typed : (s : Scope) (ms : List Matched) (x : Argument ℕ) (xs : Arguments ℕ) → typed_arguments s ms (argument_then x xs) ≡ argument_then (one_typed s (first_match ms) x) (typed_arguments s (later_matches ms) xs)
first_typed s ms (Positional e) xs = refl
first_typed s ms (Input l n e) xs = refl
first_typed s ms (Output l n k r ss) xs = refl

pub arguments_append : (xs ys : List (Argument Note)) (rest : Arguments Note) → arguments_onto (xs ++ ys) rest ≡ arguments_onto xs (arguments_onto ys rest)
arguments_append [] ys rest = refl
arguments_append (x ∷ xs) ys rest = ap (argument_then x) (arguments_append xs ys rest)

pub arguments_nothing : (xs : List (Argument Note)) → arguments_onto xs no_arguments ≡ arguments xs
arguments_nothing [] = refl
arguments_nothing (x ∷ xs) = ap (argument_then x) (arguments_nothing xs)

pub argument_goes : (s : Scope) (before x : SoFar) (one : CheckedArgument) (m : Matched) (c : Argument ℕ) (ms : List Matched) (xs : Arguments ℕ) →
    AddsArgument x before one → ArgumentFinds one s m c → m ≡ first_match ms → argument_rest s x (later_matches ms) xs ≡ argument_rest s before ms (argument_then c xs)
unfolding argument_rest
argument_goes s before x one m c ms xs a f h = both
    (ap (λ r. earlier r (least (argument_faults s (later_matches ms) xs))) (a.least ∙ ap (earlier before.least) (f.broken ∙ ap (λ (n : Matched). least (one_argument s n c)) h))
    ∙ sym (earlier-assoc before.least (least (one_argument s (first_match ms) c)) (least (argument_faults s (later_matches ms) xs)))
    ∙ ap (earlier before.least) (sym (first_argument s ms c xs)))
    (ap (λ ys. arguments_onto ys (typed_arguments s (later_matches ms) xs)) (a.arguments ∙ ap (λ t. map argument_of before.arguments ++ t ∷ []) (f.tree ∙ ap (λ (n : Matched). one_typed s n c) h))
    ∙ arguments_append (map argument_of before.arguments) (one_typed s (first_match ms) c ∷ []) (typed_arguments s (later_matches ms) xs)
    ∙ ap (arguments_onto (map argument_of before.arguments)) (sym (first_typed s ms c xs)))

pub no_argument_so : (s : Scope) (x : SoFar) (ms : List Matched) (xs : Arguments ℕ) → NoArgument x → argument_rest s x ms xs ≡ ((least (argument_faults s ms xs)), (typed_arguments s ms xs))
unfolding argument_rest
no_argument_so s x ms xs n = both (ap (λ r. earlier r (least (argument_faults s ms xs))) n.least) (ap (λ ys. arguments_onto ys (typed_arguments s ms xs)) n.arguments)

pub arguments_found : (s : Scope) (x : SoFar) (ms : List Matched) (rest : List Matched) (xs : Arguments ℕ) → argument_rest s x rest no_arguments ≡ ((least (argument_faults s ms xs)), (typed_arguments s ms xs)) → ArgumentsFind x s ms xs
unfolding argument_rest
arguments_found s x ms rest xs h = record {
  broken = sym (earlier-none x.least) ∙ ap (λ p. p.0) h;
  tree = sym (arguments_nothing (map argument_of x.arguments)) ∙ ap (λ p. p.1) h;
}

-- ---- one argument

given_least : (s : Scope) (m : Matched) (e : Expression ℕ) (value : Checked) (r : Option (Code × ℕ)) → r ≡ earlier value.least (least (given_unsuited s m e value.told)) → Checks value s (asked_by m) e →
    r ≡ least (faults s (asked_by m) e ++ given_unsuited s m e (type_of s (asked_by m) e))
given_least s m e value r h f = joined r value.least (least (given_unsuited s m e value.told)) (faults s (asked_by m) e) (given_unsuited s m e (type_of s (asked_by m) e)) h f.least (ap (λ t. least (given_unsuited s m e t)) f.told)

pub positional_finds : (c : CheckedArgument) (s : Scope) (m : Matched) (e : Expression ℕ) (value : Checked) → GivesPositional c s m e value → Checks value s (asked_by m) e → ArgumentFinds c s m (Positional e)
positional_finds c s m e value g f = record { broken = given_least s m e value c.least g.least f; tree = g.tree ∙ ap Positional f.tree }

pub input_finds : (c : CheckedArgument) (s : Scope) (m : Matched) (l : ℕ) (name : List ℕ) (e : Expression ℕ) (value : Checked) → GivesInput c s m l name e value → Checks value s (asked_by m) e → ArgumentFinds c s m (Input l name e)
input_finds c s m l name e value g f = record { broken = given_least s m e value c.least g.least f; tree = g.tree ∙ ap (Input (note l (matched_type m) (matched_target m)) name) f.tree }

grouped : (a b c d : Faults) (r p : Option (Code × ℕ)) → r ≡ earlier p (least (b ++ c ++ d)) → p ≡ least a → r ≡ least (a ++ b ++ c ++ d)
grouped a b c d r p h q = h ∙ ap (λ x. earlier x (least (b ++ c ++ d))) q ∙ three_parts (least a) b c d
    ∙ sym (least-append (a ++ b ++ c) d ∙ ap (λ x. earlier x (least d)) (least-append (a ++ b) c ∙ ap (λ x. earlier x (least c)) (least-append a b)))

pub output_finds : (c : CheckedArgument) (s : Scope) (m : Matched) (l : ℕ) (name : List ℕ) (k : ℕ) (r : Root ℕ) (ss : Selectors ℕ) (place : CheckedPlace) →
    GivesOutput c s m l name k r ss place → PlaceFinds place s false r ss → ArgumentFinds c s m (Output l name k r ss)
output_finds c s m l name k r ss place g f = record {
  broken = grouped (root_faults s false r ss ++ along_faults s (root_line r) false (root_standing s r ss) ss) (whole_faults s r ss) (target_faults s r ss) (output_unsuited s (root_line r) (matched_type m) (place_type s r ss)) c.least place.least g.least f.broken;
  tree = g.tree ∙ ap (λ (p : Root Note × Selectors Note). Output (note l (matched_type m) (matched_target m)) name (note k (place_type s r ss) Nothing) p.0 p.1) f.tree;
}
