-- A call as the code goes: where it stops, and where it ends.
use Rattle.std.proofs.Common.{◌≡◌, ℕ, false, List, Some, Result, Err, refl, sym, ap, ◌∙◌, subst}
use Rattle.std.specs.Prelude.{if◌then◌else◌}
use Rattle.st_tree.specs.declared.expression.Argument.{Argument as CodeArgument}
use Rattle.st_tree.specs.declared.expression.Expr.{Expr}
use Rattle.st_tree.specs.declared.expression.Expr.TheVariants as code
use Rattle.st_tree.specs.declared.expression.Place.{Place as CodePlace}
use Rattle.st_tree.specs.declared.expression.Selector.{Selector as CodeSelector}
use Rattle.st_tree.specs.declared.program.Note.{Note}
use Rattle.st_tree.specs.Expression.{expression_of, expression_of-Call, place_of, place_of-is, selectors_of, arguments_of}
use Rattle.st_values.specs.Program.{Program}
use Rattle.st_values.specs.Value.{Value}
use Rattle.st_meaning.specs.State.{State, Outcome, Done, Frame, ◌>>=◌, go_on, there, frame_value}
use Rattle.st_meaning.specs.Call.{Callee, callee_of, Enter, result_of}
use Rattle.st_meaning.specs.Expression.{value, operand}
use Rattle.run_state.specs.declared.state.Stop.{Stop}
use Rattle.run_state.specs.declared.state.Stop.TheVariants as stop
use Rattle.run_state.specs.State.{Agrees, Shows, frame_of}
use Rattle.value_trees.specs.declared.value.Value.{Value as CodeValue}
use Rattle.value_trees.specs.Value.{value_of}
use Rattle.reference_values.specs.Called.{called_effect}
use Rattle.reference_values.specs.Private.Parts.{Called, is_conversion, sought, run_called}
use Rattle.reference_values.proofs.CallLaws.{one_by_one, converting, dropping, run_sought, value_parts, effect_parts, value_of_call, effect_of_call}
use Rattle.reference_values.proofs.LoopSteps.{stopped}

-- where a step stops, a statement does
unfinished : {C A B : Type 0} (view : C → A) (x : Stop) (o : Outcome A) (k : A → State → Outcome B) (w : Outcome B) (t : State) → w ≡ go_on o k → Shows view (Err x) o t → Agrees {A = B} (Err x) w t
unfinished view (stop.Fault f) o k w t h e = h ∙ ap (λ x. go_on x k) e
unfinished view stop.NoMemory o k w t h e = tt

module _ (p : Program) (enter : Enter) (line : ℕ) (s : State) (place : CodePlace Note) (ss : List (CodeSelector Note)) (xs ys : List (CodeArgument Note)) (c : Callee)
    (ss_is : ss ≡ place.selectors) (ys_is : ys ≡ xs) (c_is : c ≡ callee_of place.root (selectors_of ss)) (other : is_conversion c ≡ false) where
  callee_is : c ≡ callee_of (place_of place).0 (place_of place).1
  callee_is = c_is ∙ ap (λ us. callee_of place.root (selectors_of us)) ss_is ∙ ap (λ q. callee_of q.0 q.1) (sym (place_of-is place))

  abbrev seek : Outcome Called
  seek = sought p enter c (place_of place).0 (place_of place).1 line s

  abbrev run : Called → State → Outcome Frame
  run f t = run_called p enter f (arguments_of ys) line t

  -- ---- the value

  abbrev left : Frame → State → Outcome Value
  left g u = there (result_of g) line u

  abbrev whole : Expr Note → Outcome Value
  whole e = value p enter (expression_of e) line s

  value_at : (e : Expr Note) (a : Note) → e ≡ code.Call a place xs → whole e ≡ go_on seek (λ f t. go_on (run f t) left)
  value_at e a e_is =
      ap whole e_is
      ∙ ap (λ x. value p enter x line s) (expression_of-Call a place xs)
      ∙ value_of_call p enter (place_of place).0 (place_of place).1 (arguments_of xs) line a s
      ∙ ap (λ d. value_parts p enter (place_of place).0 (place_of place).1 (arguments_of xs) a.kind d line s) (sym callee_is)
      ∙ ap (λ b. (if b then converting a.kind (operand p enter (arguments_of xs)) else (do f ← run_sought p enter (place_of place).0 (place_of place).1 (arguments_of xs) c; there (result_of f))) line s) other
      ∙ one_by_one seek (λ f t. run_called p enter f (arguments_of xs) line t) left
      ∙ ap (λ us. go_on seek (λ f t. go_on (run_called p enter f (arguments_of us) line t) left)) (sym ys_is)

  pub value_unsought : {C : Type 0} (view : C → Called) (e : Expr Note) (a : Note) (x : Stop) (t : State) → e ≡ code.Call a place xs → Shows view (Err x) seek t → Shows value_of (Err x) (whole e) t
  value_unsought view e a x t e_is h = stopped view value_of x seek (λ f t'. go_on (run f t') left) (whole e) (whole e) t (value_at e a e_is) refl h

  pub value_unrun : (e : Expr Note) (a : Note) (f : Called) (t : State) (x : Stop) (u : State) → e ≡ code.Call a place xs → seek ≡ Done f t → Shows frame_of (Err x) (run f t) u → Shows value_of (Err x) (whole e) u
  value_unrun e a f t x u e_is d h = stopped frame_of value_of x (run f t) left (whole e) (whole e) u (value_at e a e_is ∙ ap (λ o. go_on o (λ f' t'. go_on (run f' t') left)) d) refl h

  pub value_left : (e : Expr Note) (a : Note) (f : Called) (t : State) (g : Frame) (u : State) (r : Result CodeValue Stop) (v : State) → e ≡ code.Call a place xs → seek ≡ Done f t → run f t ≡ Done g u
      → Shows value_of r (there (frame_value (Some g) 0) line u) v → Shows value_of r (whole e) v
  value_left e a f t g u r v e_is d ran h =
      subst (λ o. Shows value_of r o v) (sym (value_at e a e_is ∙ ap (λ o. go_on o (λ f' t'. go_on (run f' t') left)) d ∙ ap (λ o. go_on o left) ran)) h

  -- ---- the statement

  abbrev ended : Frame → State → Outcome (Unit {0})
  ended g u = Done tt u

  abbrev all : Outcome (Unit {0})
  all = called_effect p enter (place_of place).0 (place_of place).1 (arguments_of xs) line s

  effect_at : all ≡ go_on seek (λ f t. go_on (run f t) ended)
  effect_at =
      effect_of_call p enter (place_of place).0 (place_of place).1 (arguments_of xs) line s
      ∙ ap (λ d. effect_parts p enter (place_of place).0 (place_of place).1 (arguments_of xs) d line s) (sym callee_is)
      ∙ ap (λ b. (if b then dropping (operand p enter (arguments_of xs)) else dropping (run_sought p enter (place_of place).0 (place_of place).1 (arguments_of xs) c)) line s) other
      ∙ one_by_one seek (λ f t. run_called p enter f (arguments_of xs) line t) ended
      ∙ ap (λ us. go_on seek (λ f t. go_on (run_called p enter f (arguments_of us) line t) ended)) (sym ys_is)

  pub effect_unsought : {C : Type 0} (view : C → Called) (x : Stop) (t : State) → Shows view (Err x) seek t → Agrees {A = Unit {0}} (Err x) all t
  effect_unsought view x t h = unfinished view x seek (λ f t'. go_on (run f t') ended) all t effect_at h

  pub effect_unrun : (f : Called) (t : State) (x : Stop) (u : State) → seek ≡ Done f t → Shows frame_of (Err x) (run f t) u → Agrees {A = Unit {0}} (Err x) all u
  effect_unrun f t x u d h = unfinished frame_of x (run f t) ended all u (effect_at ∙ ap (λ o. go_on o (λ f' t'. go_on (run f' t') ended)) d) h

  pub effect_ends : (f : Called) (t : State) (g : Frame) (u : State) → seek ≡ Done f t → run f t ≡ Done g u → all ≡ Done tt u
  effect_ends f t g u d ran = effect_at ∙ ap (λ o. go_on o (λ f' t'. go_on (run f' t') ended)) d ∙ ap (λ o. go_on o ended) ran
