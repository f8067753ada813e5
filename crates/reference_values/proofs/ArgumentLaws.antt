-- The first index, argument or output, and then the rest.
use Rattle.std.proofs.Common.{◌≡◌, ℕ, List, [], ◌∷◌, ◌++◌, Option, Some, None, refl, sym, ap, ◌∙◌, append_assoc, append-nil}
use Rattle.st_types.specs.declared.st_type.StType.{StType}
use Rattle.plc_text.specs.declared.fault.FaultKind.TheVariants as fault
use Rattle.st_tree.specs.declared.path.Path.{Path}
use Rattle.st_tree.specs.declared.path.Step.TheVariants as step
use Rattle.st_tree.specs.declared.program.Note.{Note}
use Rattle.st_tree.specs.Expression.{Expression, Expressions, expression_then, Argument, Positional, Input, Output, Arguments, argument_then}
use Rattle.st_values.specs.Program.{Parameter, Program}
use Rattle.st_meaning.specs.State.{Spot, Frame, State, Outcome, Done, Fault, Run, go_on, some_or, into, write}
use Rattle.st_meaning.specs.Operation.{number_in}
use Rattle.st_meaning.specs.Place.{index_in, element_kind}
use Rattle.st_meaning.specs.Call.{Given, Enter, parameter_named, next_parameter, behind_next}
use Rattle.st_meaning.specs.Expression.{value, place, bound_place, operand, passed, indexed, arguments, outputs, output_of}
use Rattle.reference_values.specs.Private.Parts.{element_of, one_element, added, left_behind, one_argument, one_operand, one_output}

-- one step after another
one_by_one : {A B C : Type 0} (o : Outcome A) (f : A → State → Outcome B) (g : B → State → Outcome C) → go_on (go_on o f) g ≡ go_on o (λ a s. go_on (f a s) g)
one_by_one (Done a s) f g = refl
one_by_one (Fault k l) f g = refl

as_well : {A B : Type 0} (o : Outcome A) (f g : A → State → Outcome B) → ((a : A) (s : State) → f a s ≡ g a s) → go_on o f ≡ go_on o g
as_well (Done a s) f g h = h a s
as_well (Fault k l) f g h = refl

-- what was given, and then what the rest gives
abbrev pub behind : List Given → Outcome (List Given) → Outcome (List Given)
behind found o = go_on o (λ rest s. Done (found ++ rest) s)

pub behind_none : (o : Outcome (List Given)) → behind [] o ≡ o
behind_none (Done xs s) = refl
behind_none (Fault k l) = refl

module _ (p : Program) (enter : Enter) (line : ℕ) (s : State) where
  pub indexed_first : (e : Expression Note) (es : Expressions Note) (t : StType) (spot : Spot) →
      indexed p enter (expression_then e es) t spot line s ≡ go_on (one_element p enter e t spot line s) (λ part u. indexed p enter es (element_kind t) part line u)
  indexed_first e es t spot =
      as_well (value p enter e line s) (λ v u. go_on (some_or fault.Index (index_in t (number_in v)) line u) (λ i w. indexed p enter es (element_kind t) (into spot (step.Element i)) line w)) (λ v u. go_on (element_of t spot v line u) (λ part w. indexed p enter es (element_kind t) part line w))
      (λ v u. sym (one_by_one (some_or fault.Index (index_in t (number_in v)) line u) (λ i w. Done (into spot (step.Element i)) w) (λ part w. indexed p enter es (element_kind t) part line w)))
      ∙ sym (one_by_one (value p enter e line s) (λ v. element_of t spot v line) (λ part u. indexed p enter es (element_kind t) part line u))

  pub operand_first : (x : Argument Note) (xs : Arguments Note) → operand p enter (argument_then x xs) line s ≡ one_operand p enter x line s
  operand_first (Positional e) xs = refl
  operand_first (Input a name e) xs = refl
  operand_first (Output a name b r ss) xs = refl

  -- what one argument gives stands before what the rest gives
  abbrev rest_of : List Parameter → List Parameter → Arguments Note → Option Given → State → Outcome (List Given)
  rest_of ps left xs o u = behind (added [] o) (arguments p enter ps left xs line u)

  one_given : (m : Run Given) (ps left : List Parameter) (xs : Arguments Note) →
      go_on (m line s) (λ g u. go_on (arguments p enter ps left xs line u) (λ rest v. Done (g ∷ rest) v)) ≡ go_on (go_on (m line s) (λ g u. Done (Some g) u)) (rest_of ps left xs)
  one_given m ps left xs = sym (one_by_one (m line s) (λ g u. Done (Some g) u) (rest_of ps left xs))

  pub arguments_first : (ps left : List Parameter) (x : Argument Note) (xs : Arguments Note) →
      arguments p enter ps left (argument_then x xs) line s ≡ go_on (one_argument p enter ps left x line s) (rest_of ps (left_behind x left) xs)
  arguments_first ps left (Positional e) xs = one_given (passed (next_parameter left) (value p enter e) (bound_place p enter e)) ps (behind_next left) xs
  arguments_first ps left (Input a name e) xs = one_given (passed (parameter_named ps a) (value p enter e) (bound_place p enter e)) ps left xs
  arguments_first ps left (Output a name b r ss) xs = sym (behind_none (arguments p enter ps left xs line s))

  pub outputs_first : (ps : List Parameter) (own : Option Path) (f : Frame) (x : Argument Note) (xs : Arguments Note) →
      outputs p enter ps own f (argument_then x xs) line s ≡ go_on (one_output p enter ps own f x line s) (λ a u. outputs p enter ps own f xs line u)
  outputs_first ps own f (Positional e) xs = refl
  outputs_first ps own f (Input a name e) xs = refl
  outputs_first ps own f (Output a name b r ss) xs =
      as_well (output_of (parameter_named ps a) own f line s) _ _ (λ v u. sym (one_by_one (place p enter r ss line u) (λ spot. write spot v line) (λ a' w. outputs p enter ps own f xs line w)))
      ∙ sym (one_by_one (output_of (parameter_named ps a) own f line s) (λ v u. go_on (place p enter r ss line u) (λ spot. write spot v line)) (λ a' w. outputs p enter ps own f xs line w))

behind_both : (xs ys : List Given) (o : Outcome (List Given)) → behind (xs ++ ys) o ≡ behind xs (behind ys o)
behind_both xs ys (Done zs s) = ap (λ l. Done l s) (append_assoc xs ys zs)
behind_both xs ys (Fault k l) = refl

added_is : (xs : List Given) (o : Option Given) → added xs o ≡ xs ++ added [] o
added_is xs None = sym (append-nil xs)
added_is xs (Some g) = refl

-- one argument more
pub arguments_next : (xs ys : List Given) (one : Option Given) (o : Outcome (List Given)) → ys ≡ added xs one → behind ys o ≡ behind xs (behind (added [] one) o)
arguments_next xs ys one o e = ap (λ l. behind l o) (e ∙ added_is xs one) ∙ behind_both xs (added [] one) o
