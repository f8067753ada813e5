-- What is noted of tasks, by the places of their names.
use Rattle.std.proofs.Common.{◌≡◌, ℕ, ◌<◌, ◌+◌, ◌||◌, ◌&&◌, not, List, length, Bool, true, false, Some, slice_get, slice_set, slice_index_or, refl, sym, ap, ◌∙◌, subst, arith, length-set}
use Rattle.std.proofs.lemmas.List.{get_or-set_other, get_or-set_same}
use Rattle.std.proofs.lemmas.Option.{slice_get_within}
use Rattle.std.proofs.lemmas.Slice.Eq.{bytes_eq-Decides}
use mathlib.Core.Logic.{dite}
use native.Mathlib.Decide.{ℕ_discrete}
use Rattle.plc_text.specs.Words.{same}
use Rattle.cycle_journal.specs.declared.entry.Answer.{Answer}
use Rattle.cycle_journal.specs.declared.entry.Answer.TheVariants as answer
use Rattle.cycle_journal.specs.declared.entry.CycleReply.{CycleReply}
use Rattle.cycle_journal.specs.declared.entry.CycleReply.TheVariants as reply
use Rattle.plant_rules.specs.Meaning.{Meaning}
use Rattle.plant_rules.specs.One.{since_by, held_after, held_without}
use Rattle.plant_rules.specs.History.{Script, held_with}
use Rattle.plant_core.specs.Private.Tasks.{AreHeld, held_by, freed_by, AreFree, AreRenewed}

some_same : {A : Type 0} (a b : A) → Some a ≡ Some b → a ≡ b
some_same a b e = cc

-- each name stands at one place
abbrev pub Distinct : List (List ℕ) → Type 0
Distinct names = (i j : ℕ) (name : List ℕ) → slice_get names i ≡ Some name → slice_get names j ≡ Some name → i ≡ j

same_true : (a b : List ℕ) → a ≡ b → same a b ≡ true
same_true a b e = (bytes_eq-Decides a b).1 e

same_false : (a b : List ℕ) → (a ≡ b → ⊥) → same a b ≡ false
same_false a b ne = by (same a b) refl
  where
    by : (z : Bool) → same a b ≡ z → same a b ≡ false
    by true e = absurd (ne ((bytes_eq-Decides a b).0 e))
    by false e = e

module _ (names : List (List ℕ)) (distinct : Distinct names) where
  -- one place is set
  set_at : (held : List Bool) (is is' : List ℕ → Bool) (n : ℕ) (name : List ℕ) (b : Bool) → AreHeld names held is → slice_get names n ≡ Some name → is' name ≡ b → ((x : List ℕ) → (name ≡ x → ⊥) → is' x ≡ is x) → AreHeld names (slice_set held n b) is'
  set_at held is is' n name b k at here rest =
      let total = k.total in
      let low = slice_get_within names n name at in
      record {
        total = length-set held n b ∙ total;
        each = λ j x e. dite (ℕ_discrete j n)
            (λ i. ap (λ z. slice_index_or (slice_set held n b) z false) i ∙ (get_or-set_same held n b false (omega (arith, low, total)) ∙ (sym here ∙ ap is' (some_same name x (sym at ∙ (ap (slice_get names) (sym i) ∙ e))))))
            (λ ne. get_or-set_other held n j b false ne ∙ (k.each j x e ∙ sym (rest x (λ i. ne (distinct j n x e (at ∙ ap Some i))))));
      }

  pub held_fault : (held : List Bool) (is : List ℕ → Bool) (r : CycleReply) (n : ℕ) (name : List ℕ) → AreHeld names held is → slice_get names n ≡ Some name → AreHeld names (held_by r n held) (held_after r name is)
  held_fault held is (reply.Done ticks outputs) n name k at = record { total = k.total; each = k.each }
  held_fault held is (reply.Fault fault) n name k at =
      set_at held is (held_after (reply.Fault fault) name is) n name true k at (ap (λ z. z || is name) (same_true name name refl)) (λ x ne. ap (λ z. z || is x) (same_false name x ne))

  pub held_free : {W : Type 0} (m : Meaning W) (script : Script) (held : List Bool) (is : List ℕ → Bool) (a : Answer) (n : ℕ) (name : List ℕ) → AreHeld names held is → slice_get names n ≡ Some name → AreHeld names (freed_by a n held) (held_with m script a name is)
  held_free m script held is answer.Released n name k at =
      set_at held is (held_without name is) n name false k at (ap (λ z. not z && is name) (same_true name name refl)) (λ x ne. ap (λ z. not z && is x) (same_false name x ne))
  held_free m script held is answer.Held n name k at = record { total = k.total; each = k.each }
  held_free m script held is (answer.NoTask v) n name k at = record { total = k.total; each = k.each }
  held_free m script held is (answer.Done t o) n name k at = record { total = k.total; each = k.each }
  held_free m script held is (answer.Fault f) n name k at = record { total = k.total; each = k.each }
  held_free m script held is (answer.Loaded v) n name k at = record { total = k.total; each = k.each }
  held_free m script held is (answer.Refused r) n name k at = record { total = k.total; each = k.each }
  held_free m script held is answer.RefusedMemory n name k at = record { total = k.total; each = k.each }

-- ---- lists that are written one place after another

pub free_begun : (held : List Bool) → AreFree held held 0
free_begun held = record { same = refl; each = λ k h. absurd (omega (arith, h)) }

pub free_next : (before held : List Bool) (n : ℕ) → n < length held → AreFree before held n → AreFree before (slice_set held n false) (n + 1)
free_next before held n h k =
    record {
      same = length-set held n false ∙ k.same;
      each = λ j low. dite (ℕ_discrete j n)
          (λ i. ap (λ z. slice_index_or (slice_set held n false) z false) i ∙ get_or-set_same held n false false h)
          (λ ne. get_or-set_other held n j false false ne ∙ k.each j (omega (arith, low, ne)));
    }

module _ {W : Type 0} (m : Meaning W) (names : List (List ℕ)) (old new : W) (number : ℕ) (before : List ℕ) where
  pub renewed_begun : AreRenewed m names old new number before before 0
  renewed_begun = record { same = refl; each = λ k name h at. absurd (omega (arith, h)); rest = λ k h. refl }

  pub renewed_next : (since : List ℕ) (n one : ℕ) (name : List ℕ) → n < length since → AreRenewed m names old new number before since n → slice_get names n ≡ Some name
      → one ≡ since_by (m.named new name) (m.named old name) number (slice_index_or since n 0) → AreRenewed m names old new number before (slice_set since n one) (n + 1)
  renewed_next since n one name h k at is =
      record {
        same = length-set since n one ∙ k.same;
        each = λ j x low there. dite (ℕ_discrete j n)
            (λ i.
            let nx : name ≡ x = some_same name x (sym at ∙ (ap (slice_get names) (sym i) ∙ there)) in
            ap (λ z. slice_index_or (slice_set since n one) z 0) i ∙ (get_or-set_same since n one 0 h ∙ (is ∙ (ap (λ z. since_by (m.named new z) (m.named old z) number (slice_index_or since n 0)) nx
            ∙ ap (λ z. since_by (m.named new x) (m.named old x) number z) (k.rest n (omega arith) ∙ ap (λ z. slice_index_or before z 0) (sym i))))))
            (λ ne. get_or-set_other since n j one 0 ne ∙ k.each j x (omega (arith, low, ne)) there);
        rest = λ j far. get_or-set_other since n j one 0 (λ i. omega (arith, far, i)) ∙ k.rest j (omega (arith, far));
      }

  -- the same, seen by versions that are equal
  pub renewed_as : (since : List ℕ) (n : ℕ) (old' new' : W) (before' : List ℕ) → AreRenewed m names old new number before since n → old ≡ old' → new ≡ new' → before ≡ before' → AreRenewed m names old' new' number before' since n
  renewed_as since n old' new' before' k a b c = subst (λ z. AreRenewed m names z new' number before' since n) a (subst (λ z. AreRenewed m names old z number before' since n) b (subst (λ z. AreRenewed m names old new number z since n) c k))
