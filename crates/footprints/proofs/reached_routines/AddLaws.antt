-- What is added one after the other.
use Rattle.std.proofs.Common.{◌≡◌, ℕ, zero, suc, List, [], ◌∷◌, ◌++◌, length, Some, None, refl, sym, ap, ◌∙◌, subst, ◌⊎◌, inl, inr, ⊎_elim, arith}
use Rattle.std.specs.Prelude.{slice_get}
use Rattle.st_tree.specs.declared.program.Program.{Program as CheckedProgram}
use Rattle.st_rules.proofs.Booleans.{none≢some, some-same}
use Rattle.st_values.specs.Program.{Routine}
use Rattle.st_meaning.specs.st_frame.Footprint.{Has}
use Rattle.program_tables.specs.Routine.{routine_of}
use Rattle.program_tables.specs.declared.routine.RoutineId.{RoutineId}
use Rattle.footprints.specs.reached_routines.Reached.{IsListed}
use Rattle.footprints.specs.reached_routines.Private.Adds.{Stands, AddsOne, Adds, Via, Takes, Is}

pub no_items : {A : Type 0} (xs : List A) → length xs ≡ 0 → xs ≡ []
no_items [] h = refl
no_items (x ∷ xs) h = absurd (omega arith)

-- ---- one routine

-- the declaration that was pushed
pub pushed : (id : RoutineId) (old : List RoutineId) (k : ℕ) (i : RoutineId) → slice_get (old ++ id ∷ []) k ≡ Some i → (slice_get old k ≡ Some i) ⊎ (i ≡ id)
pushed id [] zero i e = inr (sym (some-same e))
pushed id [] (suc k) i e = absurd (none≢some e)
pushed id (x ∷ xs) zero i e = inl e
pushed id (x ∷ xs) (suc k) i e = pushed id xs k i e

pub stays : (id : RoutineId) (old : List RoutineId) (k : ℕ) (i : RoutineId) → slice_get old k ≡ Some i → slice_get (old ++ id ∷ []) k ≡ Some i
stays id [] k i e = absurd (none≢some e)
stays id (x ∷ xs) zero i e = e
stays id (x ∷ xs) (suc k) i e = stays id xs k i e

last_there : (id : RoutineId) (old : List RoutineId) → slice_get (old ++ id ∷ []) (length old) ≡ Some id
last_there id [] = refl
last_there id (x ∷ xs) = last_there id xs

pub one_pushed : (id : RoutineId) (old mid new : List RoutineId) → mid ≡ old → new ≡ mid ++ id ∷ [] → AddsOne id old new
one_pushed id old mid new m e =
    subst (λ ids. AddsOne id old ids) (sym (e ∙ ap (λ ids. ids ++ id ∷ []) m))
    (record {
      kept = stays id old;
      only = pushed id old;
      added = record { place = length old; there = last_there id old };
    })

pub one_stands : (id : RoutineId) (ids : List RoutineId) → Stands ids id → AddsOne id ids ids
one_stands id ids s = record { kept = λ k i e. e; only = λ k i e. inl e; added = s }

module _ (p : CheckedProgram) where
  pub kept_listed : {a b : List RoutineId} {r : Routine} → ((k : ℕ) (i : RoutineId) → slice_get a k ≡ Some i → slice_get b k ≡ Some i) → IsListed p a r → IsListed p b r
  kept_listed kept l = record { place = l.place; id = l.id; there = kept l.place l.id l.there; is = l.is }

  -- what is added can be said in other words
  pub adds_as : {P Q : Routine → Type 0} {a b : List RoutineId} → ((r : Routine) → P r → Q r) → ((r : Routine) → Q r → P r) → Adds p P a b → Adds p Q a b
  adds_as to from h = record {
    kept = h.kept;
    only = λ k i e. ⊎_elim (λ o. inl o) (λ q. inr (to (routine_of p i) q)) (h.only k i e);
    all = λ r q. ⊎_elim (λ l. inl l) (λ n. absurd n) (h.all r (from r q));
  }

  pub adds_nothing : (P : Routine → Type 0) (a : List RoutineId) → ((r : Routine) → P r → ⊥) → Adds p P a a
  adds_nothing P a h = record { kept = λ k i e. e; only = λ k i e. inl e; all = λ r q. absurd (h r q) }

  -- all of it stands there already
  pub adds_known : (P : Routine → Type 0) (a : List RoutineId) → ((r : Routine) → P r → IsListed p a r) → Adds p P a a
  adds_known P a h = record { kept = λ k i e. e; only = λ k i e. inl e; all = λ r q. inl (h r q) }

  pub adds_one : (id : RoutineId) (a b : List RoutineId) → AddsOne id a b → Adds p (Is (Some (routine_of p id))) a b
  adds_one id a b h = record {
    kept = h.kept;
    only = λ k i e. ⊎_elim (λ o. inl o) (λ q. inr (ap (λ j. Some (routine_of p j)) (sym q))) (h.only k i e);
    all = λ r q. inl (record { place = h.added.place; id = id; there = h.added.there; is = some-same q });
  }

  pub adds_none : (a : List RoutineId) → Adds p (Is None) a a
  adds_none a = adds_nothing (Is None) a (λ r e. none≢some e)

  pub listed : (P : Routine → Type 0) (a b : List RoutineId) → Adds p P a b → (r : Routine) → P r → IsListed p b r
  listed P a b h r q = ⊎_elim (λ l. l) (λ n. absurd n) (h.all r q)

  -- ---- items one after the other

  module _ {A : Type 0} (F : A → Routine → Type 0) where
    pub begun : (xs : List A) (a : List RoutineId) → Takes p F xs xs a a
    begun xs a = record {
      within = λ x h. h;
      adds = record { kept = λ k i e. e; only = λ k i e. inl e; all = λ r q. inr q };
    }

    next_of : (whole behind : List A) (x : A) (a b c : List RoutineId) → Takes p F whole (x ∷ behind) a b → Adds p (F x) b c → Takes p F whole behind a c
    next_of whole behind x a b c t s = record {
      within = λ y h. t.within y (inr h);
      adds = record {
        kept = λ k i e. s.kept k i (t.adds.kept k i e);
        only = λ k i e. ⊎_elim (λ o. t.adds.only k i o) (λ f. inr (x, t.within x (inl refl), f)) (s.only k i e);
        all = λ r q. ⊎_elim (λ l. inl (kept_listed s.kept l)) (λ v. last r v) (t.adds.all r q);
      };
    }
      where
        last : (r : Routine) → Via (x ∷ behind) F r → IsListed p c r ⊎ Via behind F r
        last r v = ⊎_elim (λ e. inl (listed (F x) b c s r (subst (λ y. F y r) e v.2))) (λ h. inr (v.0, h, v.2)) v.1

    pub next : (whole left behind : List A) (x : A) (a b c : List RoutineId) → left ≡ x ∷ behind → Takes p F whole left a b → Adds p (F x) b c → Takes p F whole behind a c
    next whole left behind x a b c e t s = next_of whole behind x a b c (subst (λ l. Takes p F whole l a b) e t) s

    pub ended : (whole left : List A) (a b : List RoutineId) → left ≡ [] → Takes p F whole left a b → Adds p (Via whole F) a b
    ended whole left a b e t = record {
      kept = t.adds.kept;
      only = t.adds.only;
      all = λ r q. ⊎_elim (λ l. inl l) (λ v. absurd (subst (λ l. Has l v.0) e v.1)) (t.adds.all r q);
    }
