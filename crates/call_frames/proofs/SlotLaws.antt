-- The locals that are made so far, and those that are left.
use Rattle.std.proofs.Common.{◌≡◌, ◌≤◌, ◌<◌, ℕ, zero, suc, ◌+◌, List, [], ◌∷◌, ◌++◌, length, drop, get_or, map, None, refl, sym, ap, ◌∙◌, append_assoc, append-nil}
use Rattle.std.specs.Prelude.{slice_get, slice_set}
use Rattle.std.proofs.lemmas.List.{map-append}
use Rattle.st_rules.proofs.ListLaws.{drop-at, drop-end}
use Rattle.st_values.specs.Program.{Program}
use Rattle.st_meaning.specs.Call.{initial_slot, initial_slots}
use Rattle.program_tables.specs.declared.st_initial.variables.Variable as held
use Rattle.program_tables.specs.st_initial.Variables.{variable_of, variables_of}
use Rattle.run_state.specs.declared.state.Slot.{Slot as CodeSlot}
use Rattle.run_state.specs.State.{slot_of}

pub record SlotsLeft (p : Program) (vs : List held.Variable) (k : ℕ) (slots : List CodeSlot) : Type 0 where
  pub by : (map slot_of slots ++ initial_slots p (variables_of (drop k vs))) ≡ initial_slots p (variables_of vs)

module _ (p : Program) (vs : List held.Variable) where
  pub slots_begun : SlotsLeft p vs 0 []
  slots_begun = record { by = refl }

  pub slots_next : (k : ℕ) (v : held.Variable) (slots slots' : List CodeSlot) (slot : CodeSlot) → k < length vs → v ≡ get_or vs k v → SlotsLeft p vs k slots
      → slot_of slot ≡ initial_slot p (variable_of v) → slots' ≡ slots ++ slot ∷ [] → SlotsLeft p vs (k + 1) slots'
  slots_next k v slots slots' slot l is left e more = record {
    by = ap (λ xs. xs ++ initial_slots p (variables_of (drop (k + 1) vs))) (ap (map slot_of) more ∙ map-append slot_of slots (slot ∷ []))
        ∙ append_assoc (map slot_of slots) (slot_of slot ∷ []) (initial_slots p (variables_of (drop (k + 1) vs)))
        ∙ ap (λ x. map slot_of slots ++ x ∷ initial_slots p (variables_of (drop (k + 1) vs))) e
        ∙ ap (λ ws. map slot_of slots ++ initial_slots p (variables_of ws)) (sym (drop-at vs k v l is)) ∙ left.by;
  }

  pub slots_ended : (k : ℕ) (slots : List CodeSlot) → length vs ≤ k → SlotsLeft p vs k slots → map slot_of slots ≡ initial_slots p (variables_of vs)
  slots_ended k slots l left = sym (append-nil (map slot_of slots)) ∙ ap (λ ws. map slot_of slots ++ initial_slots p (variables_of ws)) (sym (drop-end vs k l)) ∙ left.by

-- a slot past the end
pub past_end : {A : Type 0} (xs : List A) (n : ℕ) (x : A) → None ≡ slice_get xs n → slice_set xs n x ≡ xs
past_end [] zero x e = refl
past_end [] (suc n) x e = refl
past_end (y ∷ xs) zero x e = absurd cc
past_end (y ∷ xs) (suc n) x e = ap (λ ys. y ∷ ys) (past_end xs n x e)
