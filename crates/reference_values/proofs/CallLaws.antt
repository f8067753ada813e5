-- A call in its parts: what it calls is sought, and then it is run.
use Rattle.std.proofs.Common.{◌≡◌, ℕ, Bool, true, false, Option, Some, None, refl, sym, ap, ◌∙◌}
use Rattle.std.specs.Prelude.{if◌then◌else◌, slice_get}
use Rattle.plc_num.specs.Conversion.{converted}
use Rattle.st_types.specs.declared.st_type.StType.{StType}
use Rattle.st_tree.specs.declared.expression.Root.{Root}
use Rattle.st_tree.specs.declared.program.Note.{Note}
use Rattle.st_tree.specs.Expression.{Call, Selectors, Arguments}
use Rattle.st_values.specs.Program.{Routine, Program, lookup, body_of}
use Rattle.st_values.specs.Value.{Value, number}
use Rattle.st_meaning.specs.State.{Spot, State, Outcome, Done, Fault, Frame, Run, ◌>>=◌, go_on, gives, there, path_of}
use Rattle.st_meaning.specs.Operation.{number_in, elem_of}
use Rattle.st_meaning.specs.Call.{Callee, a_conversion, a_function, a_method, a_body, by_instance, from_class, start_class, callee_of, Enter, result_of, call_value, call_effect}
use Rattle.st_meaning.specs.Expression.{value, place, operand}
use Rattle.call_steps.specs.Found.{Found, class_there, on_instance, on_base}
use Rattle.reference_values.specs.Called.{called_by, called_effect}
use Rattle.reference_values.specs.Private.Parts.{Called, is_conversion, sought, run_called}

-- one step after another
pub one_by_one : {A B C : Type 0} (o : Outcome A) (f : A → State → Outcome B) (g : B → State → Outcome C) → go_on (go_on o f) g ≡ go_on o (λ a s. go_on (f a s) g)
one_by_one (Done a s) f g = refl
one_by_one (Fault k l) f g = refl

as_well : {A B : Type 0} (o : Outcome A) (f g : A → State → Outcome B) → ((a : A) (s : State) → f a s ≡ g a s) → go_on o f ≡ go_on o g
as_well (Done a s) f g h = h a s
as_well (Fault k l) f g h = refl

-- the operand in the other type
abbrev pub converting : StType → Run Value → Run Value
converting t operand = do
  v ← operand
  gives (number (converted (elem_of t) (number_in v)))

abbrev pub dropping : {A : Type 0} → Run A → Run (Unit {0})
dropping m = do
  a ← m
  gives tt

module _ (p : Program) (enter : Enter) (r : Root Note) (ss : Selectors Note) (xs : Arguments Note) where
  -- what is sought, and then run
  abbrev pub run_sought : Callee → Run Frame
  run_sought c = do
    f ← sought p enter c r ss
    run_called p enter f xs

  abbrev pub value_parts : StType → Callee → Run Value
  value_parts t c = if is_conversion c then converting t (operand p enter xs) else (do f ← run_sought c; there (result_of f))

  abbrev pub effect_parts : Callee → Run (Unit {0})
  effect_parts c = if is_conversion c then dropping (operand p enter xs) else dropping (run_sought c)

  module _ (line : ℕ) where
    -- what is found on an instance, and then what is done with it
    found_then : (look : ℕ → Option Routine) (spot : Spot) (k : Found → State → Outcome Frame) (s : State) → go_on (on_instance p look spot line s) k
        ≡ go_on (there (path_of spot) line s) (λ q t. go_on (class_there p spot line t) (λ c u. go_on (there (look c) line u) (λ x v. k (record { routine = x; own = q }) v)))
    found_then look spot k s =
        one_by_one (there (path_of spot) line s) (λ q t. go_on (class_there p spot line t) (λ c u. go_on (there (look c) line u) (λ x v. Done (record { routine = x; own = q }) v))) k
        ∙ as_well (there (path_of spot) line s) _ _ (λ q t.
        one_by_one (class_there p spot line t) (λ c u. go_on (there (look c) line u) (λ x v. Done (record { routine = x; own = q }) v)) k
        ∙ as_well (class_there p spot line t) _ _ (λ c u. one_by_one (there (look c) line u) (λ x v. Done (record { routine = x; own = q }) v) k))

    base_then : (d : ℕ) (spot : Spot) (k : Found → State → Outcome Frame) (s : State) → go_on (on_base p d spot line s) k
        ≡ go_on (there (path_of spot) line s) (λ q t. go_on (there (body_of p d) line t) (λ x v. k (record { routine = x; own = q }) v))
    base_then d spot k s =
        one_by_one (there (path_of spot) line s) (λ q t. go_on (there (body_of p d) line t) (λ x v. Done (record { routine = x; own = q }) v)) k
        ∙ as_well (there (path_of spot) line s) _ _ (λ q t. one_by_one (there (body_of p d) line t) (λ x v. Done (record { routine = x; own = q }) v) k)

    -- what is found, as a call
    abbrev as_call : Bool → Found → State → Outcome Called
    as_call same f v = Done (record { routine = f.routine; own = Some f.own; same = same }) v

    abbrev then_run : Called → State → Outcome Frame
    then_run f u = run_called p enter f xs line u

    on_place : (m : Spot → Run Found) (same : Bool) (s : State) →
        go_on (go_on (place p enter r ss line s) (λ spot u. go_on (m spot line u) (as_call same))) then_run
        ≡ go_on (place p enter r ss line s) (λ spot u. go_on (m spot line u) (λ f v. then_run (record { routine = f.routine; own = Some f.own; same = same }) v))
    on_place m same s =
        one_by_one (place p enter r ss line s) (λ spot u. go_on (m spot line u) (as_call same)) then_run
        ∙ as_well (place p enter r ss line s) _ _ (λ spot u. one_by_one (m spot line u) (as_call same) then_run)

    called_is : (c : Callee) (s : State) → is_conversion c ≡ false → called_by p enter c r ss xs line s ≡ run_sought c line s
    called_is a_conversion s h = absurd cc
    called_is (a_function k) s h = sym (one_by_one (there (slice_get p.functions k) line s) (λ f u. Done (record { routine = f; own = None; same = false }) u) then_run)
    called_is (a_method x n) s h =
        as_well (place p enter r ss line s) _ _ (λ spot u. sym (found_then (λ c. lookup p (start_class x c) n) spot (λ f v. then_run (record { routine = f.routine; own = Some f.own; same = false }) v) u))
        ∙ sym (on_place (λ spot. on_instance p (λ c. lookup p (start_class x c) n) spot) false s)
    called_is (a_body by_instance) s h =
        as_well (place p enter r ss line s) _ _ (λ spot u. sym (found_then (λ c. body_of p c) spot (λ f v. then_run (record { routine = f.routine; own = Some f.own; same = false }) v) u))
        ∙ sym (on_place (λ spot. on_instance p (λ c. body_of p c) spot) false s)
    called_is (a_body (from_class d)) s h =
        as_well (place p enter r ss line s) _ _ (λ spot u. sym (base_then d spot (λ f v. then_run (record { routine = f.routine; own = Some f.own; same = true }) v) u))
        ∙ sym (on_place (λ spot. on_base p d spot) true s)

    value_by : (t : StType) (c : Callee) (s : State) → call_value c t (operand p enter xs) (called_by p enter c r ss xs) line s ≡ value_parts t c line s
    value_by t a_conversion s = refl
    value_by t (a_function k) s = ap (λ o. go_on o (λ f. there (result_of f) line)) (called_is (a_function k) s refl)
    value_by t (a_method x n) s = ap (λ o. go_on o (λ f. there (result_of f) line)) (called_is (a_method x n) s refl)
    value_by t (a_body x) s = ap (λ o. go_on o (λ f. there (result_of f) line)) (called_is (a_body x) s refl)

    pub value_of_call : (a : Note) (s : State) → value p enter (Call a r ss xs) line s ≡ value_parts a.kind (callee_of r ss) line s
    value_of_call a s = value_by a.kind (callee_of r ss) s

    effect_by : (c : Callee) (s : State) → call_effect c (operand p enter xs) (called_by p enter c r ss xs) line s ≡ effect_parts c line s
    effect_by a_conversion s = refl
    effect_by (a_function k) s = ap (λ o. go_on o (λ f. gives tt line)) (called_is (a_function k) s refl)
    effect_by (a_method x n) s = ap (λ o. go_on o (λ f. gives tt line)) (called_is (a_method x n) s refl)
    effect_by (a_body x) s = ap (λ o. go_on o (λ f. gives tt line)) (called_is (a_body x) s refl)

    pub effect_of_call : (s : State) → called_effect p enter r ss xs line s ≡ effect_parts (callee_of r ss) line s
    effect_of_call s = effect_by (callee_of r ss) s
