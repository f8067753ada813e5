-- What is given, one after the other.
use Rattle.std.proofs.Common.{◌≡◌, ℕ, List, [], ◌∷◌, ◌++◌, map, reverse, Option, Some, None, Result, Ok, Err, refl, sym, ap, ◌∙◌, append_assoc}
use Rattle.std.proofs.lemmas.List.{reverse-append}
use Rattle.st_tree.specs.declared.path.Step.TheVariants as step
use Rattle.st_values.specs.Value.{Path, Value}
use Rattle.st_meaning.specs.Call.{Given, for_local, for_variable, set_variables, with_given}
use Rattle.st_meaning.specs.State.{in_store, State, Outcome, Done, Fault, go_on, into, write}
use Rattle.run_state.specs.declared.state.Slot.{Slot as CodeSlot}
use Rattle.run_state.specs.declared.state.RunState.{RunState}
use Rattle.run_state.specs.declared.state.Stop.{Stop}
use Rattle.run_state.specs.declared.state.Stop.TheVariants as stop
use Rattle.run_state.specs.State.{Agrees, slot_of, state_of}
use Rattle.call_frames.specs.declared.slots.Given.{Given as CodeGiven}
use Rattle.call_frames.specs.Opening.{given_of}
use Rattle.call_frames.specs.Private.Slots.{one_variable}

-- ---- the other way round

pub popped : {A : Type 0} (xs rest : List A) (x : A) → xs ≡ rest ++ x ∷ [] → reverse xs ≡ x ∷ reverse rest
popped xs rest x e = ap reverse e ∙ reverse-append rest (x ∷ [])

pub turned_next : {A : Type 0} (given rest turned turned' all : List A) (x : A) → given ≡ rest ++ x ∷ [] → turned' ≡ turned ++ x ∷ [] → turned ++ reverse given ≡ all → turned' ++ reverse rest ≡ all
turned_next given rest turned turned' all x e more left =
    ap (λ ys. ys ++ reverse rest) more ∙ append_assoc turned (x ∷ []) (reverse rest) ∙ ap (λ ys. turned ++ ys) (sym (popped given rest x e)) ∙ left

-- ---- writes to variables

nothing : Unit {0}
nothing = tt

by_outcome : (o : Outcome (Unit {0})) (f : State → Outcome (Unit {0})) → go_on o (λ _ s. f s) ≡ go_on (go_on o (λ _ s. Done nothing s)) (λ _ s. f s)
by_outcome (Done a s) f = refl
by_outcome (Fault k l) f = refl

alone : (o : Outcome (Unit {0})) → o ≡ go_on o (λ _ s. Done nothing s)
alone (Done a s) = refl
alone (Fault k l) = refl

pub one_is : (own : Option Path) (k : ℕ) (v : Value) (line : ℕ) (s : State) → one_variable own k v line s ≡ set_variables own (for_variable k v ∷ []) line s
one_is None k v line s = refl
one_is (Some q) k v line s = alone (write (into (in_store q) (step.Field k)) v line s)

-- the first, and then the rest
set_first : (own : Option Path) (g : Given) (rest : List Given) (line : ℕ) (s : State) → set_variables own (g ∷ rest) line s ≡ go_on (set_variables own (g ∷ []) line s) (λ _ s'. set_variables own rest line s')
set_first own (for_local n slot) rest line s = refl
set_first None (for_variable k v) rest line s = refl
set_first (Some q) (for_variable k v) rest line s = by_outcome (write (into (in_store q) (step.Field k)) v line s) (λ s'. set_variables own rest line s')
  where
    own : Option Path
    own = Some q

abbrev err : Stop → Result (Unit {0}) Stop
err x = Err x

-- ---- what was given, and what the rest does, is the whole

pub record GivenLeft (own : Option Path) (line : ℕ) (slots₀ : List CodeSlot) (m₀ : RunState) (turned : List CodeGiven) (slots : List CodeSlot) (m : RunState) (left : List CodeGiven) : Type 0 where
  pub held : with_given (map slot_of slots) (map given_of (reverse left)) ≡ with_given (map slot_of slots₀) (map given_of (reverse turned))
  pub ran : set_variables own (map given_of (reverse left)) line (state_of m) ≡ set_variables own (map given_of (reverse turned)) line (state_of m₀)

module _ (own : Option Path) (line : ℕ) (slots₀ : List CodeSlot) (m₀ : RunState) (turned : List CodeGiven) where
  pub given_begun : GivenLeft own line slots₀ m₀ turned slots₀ m₀ turned
  given_begun = record { held = refl; ran = refl }

  pub given_next : (left rest : List CodeGiven) (g : CodeGiven) (slots slots' : List CodeSlot) (m m' : RunState) → left ≡ rest ++ g ∷ [] → GivenLeft own line slots₀ m₀ turned slots m left
      → ((more : List Given) → with_given (map slot_of slots') more ≡ with_given (map slot_of slots) (given_of g ∷ more)) → set_variables own (given_of g ∷ []) line (state_of m) ≡ Done tt (state_of m') → GivenLeft own line slots₀ m₀ turned slots' m' rest
  given_next left rest g slots slots' m m' e l given ran = record {
    held = given (map given_of (reverse rest)) ∙ ap (λ gs. with_given (map slot_of slots) (map given_of gs)) (sym (popped left rest g e)) ∙ l.held;
    ran = ap (λ o. go_on o (λ _ s. set_variables own (map given_of (reverse rest)) line s)) (sym ran)
        ∙ sym (set_first own (given_of g) (map given_of (reverse rest)) line (state_of m))
        ∙ ap (λ gs. set_variables own (map given_of gs) line (state_of m)) (sym (popped left rest g e)) ∙ l.ran;
  }

  pub given_stopped : (left rest : List CodeGiven) (g : CodeGiven) (slots : List CodeSlot) (m m' : RunState) (r : Result (Unit {0}) Stop) (x : Stop) → left ≡ rest ++ g ∷ [] → GivenLeft own line slots₀ m₀ turned slots m left
      → Agrees r (set_variables own (given_of g ∷ []) line (state_of m)) (state_of m') → r ≡ err x → Agrees (err x) (set_variables own (map given_of (reverse turned)) line (state_of m₀)) (state_of m')
  given_stopped left rest g slots m m' (Ok a) x e l ran is = absurd cc
  given_stopped left rest g slots m m' (Err y) (stop.Fault f) e l ran is = by y ran is
    where
      by : (y : Stop) → Agrees (err y) (set_variables own (given_of g ∷ []) line (state_of m)) (state_of m') → err y ≡ err (stop.Fault f) → set_variables own (map given_of (reverse turned)) line (state_of m₀) ≡ Fault f.kind f.line
      by stop.NoMemory ran is = absurd cc
      by (stop.Fault g') ran is =
          let same : g' ≡ f = cc in
          sym l.ran ∙ ap (λ gs. set_variables own (map given_of gs) line (state_of m)) (popped left rest g e)
          ∙ set_first own (given_of g) (map given_of (reverse rest)) line (state_of m)
          ∙ ap (λ o. go_on o (λ _ s. set_variables own (map given_of (reverse rest)) line s)) ran
          ∙ ap (λ x. Fault x.kind x.line) same
  given_stopped left rest g slots m m' (Err y) stop.NoMemory e l ran is = tt

  pub given_all : (left : List CodeGiven) (slots : List CodeSlot) (m : RunState) → left ≡ [] → GivenLeft own line slots₀ m₀ turned slots m left → map slot_of slots ≡ with_given (map slot_of slots₀) (map given_of (reverse turned))
  given_all left slots m e l = ap (λ gs. with_given (map slot_of slots) (map given_of (reverse gs))) (sym e) ∙ l.held

  pub given_ended : (left : List CodeGiven) (slots : List CodeSlot) (m : RunState) → left ≡ [] → GivenLeft own line slots₀ m₀ turned slots m left → set_variables own (map given_of (reverse turned)) line (state_of m₀) ≡ Done tt (state_of m)
  given_ended left slots m e l = sym l.ran ∙ ap (λ gs. set_variables own (map given_of (reverse gs)) line (state_of m)) e
