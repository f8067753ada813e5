-- A routine that is entered may have more parameters than the one that is called: its arguments and outputs mean the same.
use Rattle.std.proofs.Common.{◌≡◌, ◌<◌, List, [], ◌∷◌, ◌++◌, length, Option, Some, None, refl, ap, ◌∙◌, arith, length-append}
use Rattle.st_types.specs.declared.st_type.StType.{StType}
use Rattle.st_tree.specs.declared.path.Path.{Path}
use Rattle.st_tree.specs.declared.program.Note.{Note}
use Rattle.st_tree.specs.Expression.{Expression, Positional, Input, Output, Arguments, no_arguments, argument_then}
use Rattle.st_values.specs.Program.{Parameter, Routine, Program}
use Rattle.st_meaning.specs.State.{Frame, Run, ◌>>=◌, ◌>>◌, gives, write}
use Rattle.st_meaning.specs.Place.{root_note}
use Rattle.st_meaning.specs.Call.{Given, Enter, next_parameter, behind_next, parameter_named}
use Rattle.st_meaning.specs.Expression.{value, bound_place, passed, arguments, output_of, placed, along, outputs}
use Rattle.st_meaning.specs.st_frame.Use.{last_kind}
use Rattle.st_meaning.specs.st_frame.Promise.Names.{Scope}
use Rattle.st_meaning.specs.st_frame.Promise.Calls.{Suits, Leaves}
use Rattle.st_meaning.specs.st_frame.Promise.Expressions.{ArgumentsAre}
use Rattle.st_meaning.specs.st_frame.Promise.Declarations.{Each}
use Rattle.st_meaning.proofs.st_frame.Arguments.{next_longer, named_longer}
use Rattle.code_rules.specs.Places.{result_place}

-- the parameters of a routine begin with those that are called, and there are few
pub record Begins (x : Routine) (ps : List Parameter) : Type 0 where
  pub more : List Parameter
  pub is : x.parameters ≡ ps ++ more
  pub few : length x.parameters < result_place

pub begins_short : (x : Routine) (ps : List Parameter) → Begins x ps → length ps < result_place
begins_short x ps h =
    let f = ap (λ (l : List Parameter). length l) h.is in
    let g = length-append ps h.more in
    let few = h.few in
    omega (arith, f, g, few)

pub each_front : {A : Type 0} (P : A → Type 0) (xs ys : List A) → Each P (xs ++ ys) → Each P xs
each_front P [] ys h = tt
each_front P (x ∷ xs) ys h = (h.0, each_front P xs ys h.1)

pub no_more : (l : List Parameter) → l ++ [] ≡ l
no_more [] = refl
no_more (x ∷ l) = ap (λ l. x ∷ l) (no_more l)

suited_there : (p : Program) (x : Routine) (o : Option Parameter) (e : Expression Note) → Suits p x o e → (q : Parameter) × (o ≡ Some q)
suited_there p x None e h = absurd h
suited_there p x (Some q) e h = (q, refl)

left_there : (p : Program) (x : Routine) (o : Option Parameter) (t : StType) → Leaves p x o t → (q : Parameter) × (o ≡ Some q)
left_there p x None t h = absurd h
left_there p x (Some q) t h = (q, refl)

module _ (rest : List Parameter) (p : Program) (enter : Enter) (g : Scope) (x : Routine) where
  abbrev with_rest : Run Given → Run (List Given) → Run (List Given)
  with_rest one others = do
    g ← one
    gs ← others
    gives (g ∷ gs)

  pub same_arguments : (xs : Arguments Note) (ps left : List Parameter) → ArgumentsAre p g x ps left xs → arguments p enter (ps ++ rest) (left ++ rest) xs ≡ arguments p enter ps left xs
  same_arguments no_arguments ps left h = refl
  same_arguments (argument_then (Positional e) xs) ps left h =
      let n = next_longer rest left (suited_there p x (next_parameter left) e h.1) in
      let one : Option Parameter → Run Given = λ o. passed o (value p enter e) (bound_place p enter e) in
      ap (λ o. with_rest (one o) (arguments p enter (ps ++ rest) (behind_next (left ++ rest)) xs)) n.0
      ∙ (ap (λ l. with_rest (one (next_parameter left)) (arguments p enter (ps ++ rest) l xs)) n.1
      ∙ ap (with_rest (one (next_parameter left))) (same_arguments xs ps (behind_next left) h.2))
  same_arguments (argument_then (Input a name e) xs) ps left h =
      let n = named_longer rest ps a (suited_there p x (parameter_named ps a) e h.1) in
      let one : Option Parameter → Run Given = λ o. passed o (value p enter e) (bound_place p enter e) in
      ap (λ o. with_rest (one o) (arguments p enter (ps ++ rest) (left ++ rest) xs)) n
      ∙ ap (with_rest (one (parameter_named ps a))) (same_arguments xs ps left h.2)
  same_arguments (argument_then (Output a name b r ss) xs) ps left h = same_arguments xs ps left h.3

  pub same_outputs : (xs : Arguments Note) (ps left : List Parameter) (own : Option Path) (f : Frame) → ArgumentsAre p g x ps left xs → outputs p enter (ps ++ rest) own f xs ≡ outputs p enter ps own f xs
  same_outputs no_arguments ps left own f h = refl
  same_outputs (argument_then (Positional e) xs) ps left own f h = same_outputs xs ps (behind_next left) own f h.2
  same_outputs (argument_then (Input a name e) xs) ps left own f h = same_outputs xs ps left own f h.2
  same_outputs (argument_then (Output a name b r ss) xs) ps left own f h =
      let n = named_longer rest ps a (left_there p x (parameter_named ps a) (last_kind (root_note r).kind ss) h.2) in
      let all : Option Parameter → Run (Unit {0}) → Run (Unit {0}) = λ o others. output_of o own f >>= λ v. placed r (along p enter ss) >>= λ spot. write spot v >>= λ _. others in
      ap (λ o. all o (outputs p enter (ps ++ rest) own f xs)) n ∙ ap (all (parameter_named ps a)) (same_outputs xs ps left own f h.3)
