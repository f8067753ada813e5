-- The regions of types, uses and texts.
use Rattle.std.proofs.Common.{◌≡◌, ℕ, zero, suc, Bool, true, false, List, [], ◌∷◌, Option, Some, None, cond, refl, sym, ap, ◌∙◌, subst, ◌⊎◌, inl, inr, ⊎_elim}
use Rattle.std.specs.Prelude.{not, slice_get}
use Rattle.std.specs.List.{list_any}
use Rattle.std.specs.HashSet.{HashSet, contains}
use Rattle.st_types.specs.declared.st_type.StType.{StType}
use Rattle.st_tree.specs.declared.program.Program.{Program as CheckedProgram}
use Rattle.st_rules.proofs.Booleans.{none≢some, some-same, true≢false, false≢true}
use Rattle.st_values.specs.Program.{Program}
use Rattle.st_values.specs.View.{program_of}
use Rattle.st_meaning.specs.Enter.{programs_of}
use Rattle.st_meaning.specs.st_frame.Use.{Owner, Use, routine_uses}
use Rattle.st_meaning.specs.st_frame.Footprint.{Has}
use Rattle.program_tables.specs.Routine.{routine_of}
use Rattle.program_tables.specs.declared.routine.RoutineId.{RoutineId}
use Rattle.footprints.specs.reached_routines.Conformers.{classes_of, AreConformers}
use Rattle.footprints.specs.declared.reached_routines.conformers.Conformers.{Conformers}
use Rattle.footprints.specs.reached_routines.Families.{Family, family_of, kind_of, same_family}
use Rattle.footprints.specs.reached_routines.Reached.{IsReached}
use Rattle.footprints.proofs.reached_routines.FamilyLaws.{same_is, conforms_as_family, conforms_to_none}
use Rattle.footprints.specs.declared.walk.Part.{Part}
use Rattle.footprints.specs.Private.Holders.{holders_at, Held}
use Rattle.footprints.specs.Private.Puts.{Puts, Via}
use Rattle.footprints.specs.Private.Walk.{owner_in, InOwner, InOwnerIf, InUse, InText, AreFollowed, InRoutine, AreCollected}
use Rattle.footprints.proofs.PutLaws.{puts_as, puts_nothing, puts_known, put_there}

-- a fresh key was not there
pub not_fresh : (b fresh : Bool) → fresh ≡ not b → fresh ≡ false → b ≡ true
not_fresh true fresh e f = refl
not_fresh false fresh e f = absurd (true≢false (sym e ∙ f))

module _ (p : Program) (lists : List (List ℕ)) where
  pub followed_nothing : {S : Type 0} (followed : HashSet Family S) (regions : List ℕ) → followed.keys ≡ [] → AreFollowed p lists followed regions
  followed_nothing followed regions e = record { each = λ f h r k. absurd (nothing f h) }
    where
      nothing : (f : Family) → contains same_family followed f ≡ true → ⊥
      nothing f h = false≢true (sym (ap (list_any (same_family f)) e) ∙ h)

  pub followed_stays : {S : Type 0} (followed : HashSet Family S) (a b : List ℕ) → ((r : ℕ) → Has a r → Has b r) → AreFollowed p lists followed a → AreFollowed p lists followed b
  followed_stays followed a b kept h = record { each = λ f e r k. kept r (h.each f e r k) }

  module _ (kind : StType) where
    pub kind_found : (t : Conformers) (classes : List ℕ) (a b : List ℕ) → AreConformers p t → classes ≡ classes_of t kind → Puts (Via classes (λ c r. Has (holders_at lists c) r)) a b → Puts (Held p lists kind) a b
    kind_found t classes a b is e h =
        puts_as
        (λ r v. (v.0, is.sound kind v.0 (subst (λ cs. Has cs v.0) e v.1), v.2))
        (λ r v. (v.0, subst (λ cs. Has cs v.0) (sym e) (is.complete kind v.0 v.1), v.2))
        h

    pub kind_of_none : (a : List ℕ) → family_of kind ≡ None → Puts (Held p lists kind) a a
    kind_of_none a e = puts_nothing (Held p lists kind) a (λ r v. conforms_to_none p v.0 kind e v.1)

    module _ (f : Family) (is : family_of kind ≡ Some f) where
      as_family : (r : ℕ) → Held p lists kind r → Held p lists (kind_of f) r
      as_family r h = (h.0, sym (conforms_as_family p h.0 kind f is) ∙ h.1, h.2)

      as_kind : (r : ℕ) → Held p lists (kind_of f) r → Held p lists kind r
      as_kind r h = (h.0, conforms_as_family p h.0 kind f is ∙ h.1, h.2)

      pub kind_known : {S : Type 0} (followed : HashSet Family S) (a : List ℕ) → contains same_family followed f ≡ true → AreFollowed p lists followed a → Puts (Held p lists kind) a a
      kind_known followed a k h = puts_known (Held p lists kind) a (λ r v. h.each f k r (as_family r v))

      module _ {S T : Type 0} (old : HashSet Family S) (new : HashSet Family T) (adds : (o : Family) → contains same_family new o ≡ cond (same_family f o) true (contains same_family old o)) where
        was : (o : Family) → contains same_family new o ≡ true → (o ≡ f) ⊎ (contains same_family old o ≡ true)
        was o e = by (same_family f o) refl (sym (adds o) ∙ e)
          where
            by : (b : Bool) → same_family f o ≡ b → cond b true (contains same_family old o) ≡ true → (o ≡ f) ⊎ (contains same_family old o ≡ true)
            by true g k = inl (sym (same_is f o g))
            by false g k = inr k

        pub followed_more : (a b : List ℕ) → Puts (Held p lists kind) a b → AreFollowed p lists old a → AreFollowed p lists new b
        followed_more a b puts h = record {
          each = λ o e r k.
              ⊎_elim
              (λ q. put_there (Held p lists kind) a b puts r (as_kind r (subst (λ z. Held p lists (kind_of z) r) q k)))
              (λ q. puts.kept r (h.each o q r k))
              (was o e);
        }

        pub followed_again : (a : List ℕ) → contains same_family old f ≡ true → AreFollowed p lists old a → AreFollowed p lists new a
        followed_again a k h = record { each = λ o e r m. h.each o (⊎_elim (λ q. subst (λ z. contains same_family old z ≡ true) (sym q) k) (λ q. q) (was o e)) r m }

  -- ---- uses and texts

  pub use_put : (part : Part) (u : Use) (o : Option Owner) (a b : List ℕ) → o ≡ owner_in part u → Puts (InOwnerIf p lists o) a b → Puts (InUse p lists part u) a b
  use_put part u o a b e h = subst (λ z. Puts (InOwnerIf p lists z) a b) e h

module _ (q : CheckedProgram) (lists : List (List ℕ)) (part : Part) where
  abbrev p : Program
  p = program_of q

  pub text_put : (id : RoutineId) (us : List Use) (a b : List ℕ) → us ≡ routine_uses p (routine_of q id) → Puts (Via us (InUse p lists part)) a b → Puts (InRoutine q lists part id) a b
  text_put id us a b e h = subst (λ z. Puts (Via z (InUse p lists part)) a b) e h

  has_place : (ids : List RoutineId) (id : RoutineId) → Has ids id → (k : ℕ) × (slice_get ids k ≡ Some id)
  has_place [] id h = absurd h
  has_place (x ∷ xs) id h = ⊎_elim (λ e. (0, ap Some (sym e))) (λ k. let w = has_place xs id k in (suc w.0, w.1)) h

  place_has : (ids : List RoutineId) (k : ℕ) (id : RoutineId) → slice_get ids k ≡ Some id → Has ids id
  place_has [] k id e = absurd (none≢some e)
  place_has (x ∷ xs) zero id e = inl (sym (some-same e))
  place_has (x ∷ xs) (suc k) id e = inr (place_has xs k id e)

  pub collected : (task : ℕ) (programs : List ℕ) (ids : List RoutineId) (none a b : List ℕ) → none ≡ [] → programs ≡ programs_of p task → Puts (Via programs (λ x r. r ≡ x)) none a → IsReached q task ids → Puts (Via ids (InRoutine q lists part)) a b → AreCollected p lists part task b
  collected task programs ids none a b n e own reached texts = record {
    sound = λ r h. ⊎_elim (λ o. inl (first r o)) (λ v. let k = has_place ids v.0 v.1 in inr (routine_of q v.0, reached.sound k.0 v.0 k.1, v.2)) (texts.only r h);
    programs = λ r h. texts.kept r (put_there (Via programs (λ x r. r ≡ x)) none a own r (r, subst (λ z. Has z r) (sym e) h, refl));
    texts = λ r c way h.
        let l = reached.complete c way in
        put_there (Via ids (InRoutine q lists part)) a b texts r (l.id, place_has ids l.place l.id l.there, subst (λ z. InText p lists part z r) (sym l.is) h);
  }
    where
      first : (r : ℕ) → Has a r → Has (programs_of p task) r
      first r h = ⊎_elim (λ o. absurd (subst (λ z. Has z r) n o)) (λ v. subst (λ z. Has z r) e (subst (Has programs) (sym v.2) v.1)) (own.only r h)

-- ---- owners

module _ (p : Program) (lists : List (List ℕ)) (o : Option Owner) where
  pub owner_put : (x : Owner) (a b : List ℕ) → o ≡ Some x → Puts (InOwner p lists x) a b → Puts (InOwnerIf p lists o) a b
  owner_put x a b e h = subst (λ z. Puts (InOwnerIf p lists z) a b) (sym e) h

  pub no_owner : (a : List ℕ) → o ≡ None → Puts (InOwnerIf p lists o) a a
  no_owner a e = subst (λ z. Puts (InOwnerIf p lists z) a a) (sym e) (puts_nothing (InOwnerIf p lists None) a (λ r h. h))
