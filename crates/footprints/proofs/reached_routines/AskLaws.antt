-- What was asked stays answered.
use Rattle.std.proofs.Common.{◌≡◌, ℕ, Bool, true, false, List, [], ◌∷◌, Option, Some, None, cond, refl, sym, ap, ◌∙◌, subst, ◌⊎◌, inl, inr, ⊎_elim, nat_eq}
use Rattle.std.specs.Prelude.{IsTrue, not, slice_get}
use Rattle.std.specs.Cmp.Lexicographic.{pointwise}
use Rattle.std.specs.HashSet.{HashSet, contains}
use Rattle.std.specs.List.{list_any}
use Rattle.std.specs.Option.{option_eq}
use Rattle.std.proofs.lemmas.Bool.{eqb-true}
use Rattle.st_types.specs.declared.st_type.StType.{StType}
use Rattle.st_tree.specs.declared.program.Program.{Program as CheckedProgram}
use Rattle.st_rules.proofs.Booleans.{true≢false, false≢true, both}
use Rattle.st_values.specs.Program.{Routine, conforms}
use Rattle.st_values.specs.View.{program_of}
use Rattle.st_meaning.specs.st_frame.Footprint.{Has}
use Rattle.program_tables.specs.declared.routine.RoutineId.{RoutineId}
use Rattle.footprints.specs.reached_routines.Conformers.{classes_of, AreConformers}
use Rattle.footprints.specs.declared.reached_routines.conformers.Conformers.{Conformers}
use Rattle.footprints.specs.reached_routines.Reached.{IsListed}
use Rattle.footprints.specs.reached_routines.Families.{Family, family_of, kind_of, same_family}
use Rattle.footprints.specs.reached_routines.Private.Adds.{Adds, Via, Aims, ByKind}
use Rattle.footprints.specs.reached_routines.Private.Asked.{Question, same_question, is_asked, AsksOne, AreAsked}
use Rattle.footprints.proofs.reached_routines.AddLaws.{kept_listed, listed, adds_as, adds_known, adds_nothing}
use Rattle.footprints.proofs.reached_routines.FamilyLaws.{pair_is, same_is, conforms_as_family, conforms_to_none}

-- ---- questions

text_is : (a b : List ℕ) → pointwise nat_eq a b ≡ true → a ≡ b
text_is [] [] h = refl
text_is [] (y ∷ ys) h = absurd (false≢true h)
text_is (x ∷ xs) [] h = absurd (false≢true h)
text_is (x ∷ xs) (y ∷ ys) h =
    let q = both (nat_eq x y) (pointwise nat_eq xs ys) h in
    ap (λ z. z ∷ xs) (eqb-true x y q.0) ∙ ap (λ zs. y ∷ zs) (text_is xs ys q.1)

name_is : (a b : Option (List ℕ)) → option_eq (pointwise nat_eq) a b ≡ true → a ≡ b
name_is None None h = refl
name_is None (Some y) h = absurd (false≢true h)
name_is (Some x) None h = absurd (false≢true h)
name_is (Some x) (Some y) h = ap Some (text_is x y h)

question_is : (a b : Question) → same_question a b ≡ true → a ≡ b
question_is a b h =
    let q = both (same_family a.0 b.0) (option_eq (pointwise nat_eq) a.1 b.1) h in
    pair_is a b (same_is a.0 b.0 q.0) (name_is a.1 b.1 q.1)

pub not_fresh : (b fresh : Bool) → fresh ≡ not b → fresh ≡ false → b ≡ true
not_fresh true fresh e f = refl
not_fresh false fresh e f = absurd (true≢false (sym e ∙ f))

module _ {S T : Type 0} (q : Question) (old : HashSet Question S) (new : HashSet Question T) where
  pub asks_one : ((o : Question) → contains same_question new o ≡ cond (same_question q o) true (contains same_question old o)) → AsksOne q old new
  asks_one h = record { at = λ o e. by o (same_question q o) refl (sym (h o) ∙ e) }
    where
      by : (o : Question) (b : Bool) → same_question q o ≡ b → cond b true (contains same_question old o) ≡ true → (o ≡ q) ⊎ (is_asked old o ≡ true)
      by o true g k = inl (sym (question_is q o g))
      by o false g k = inr k

-- ---- what was asked

module _ (p : CheckedProgram) where
  pub asked_nothing : {S : Type 0} (asked : HashSet Question S) (ids : List RoutineId) → asked.keys ≡ [] → AreAsked p asked ids
  asked_nothing asked ids e = record { each = λ f what h c k r a. absurd (nothing (f, what) h) }
    where
      nothing : (o : Question) → is_asked asked o ≡ true → ⊥
      nothing o h = false≢true (sym (ap (list_any (same_question o)) e) ∙ h)

  pub asked_stays : {S : Type 0} (asked : HashSet Question S) (a b : List RoutineId) → ((k : ℕ) (i : RoutineId) → slice_get a k ≡ Some i → slice_get b k ≡ Some i) → AreAsked p asked a → AreAsked p asked b
  asked_stays asked a b kept h = record { each = λ f what e c k r q. kept_listed p kept (h.each f what e c k r q) }

  module _ (kind : StType) (what : Option (List ℕ)) where
    -- the classes that are found for the type are followed
    pub followed : (t : Conformers) (a b : List RoutineId) (classes : List ℕ) → AreConformers (program_of p) t → classes ≡ classes_of t kind → Adds p (Via classes (Aims (program_of p) what)) a b → Adds p (ByKind (program_of p) kind what) a b
    followed t a b classes is e h =
        adds_as p
        (λ r v. (v.0, is.sound kind v.0 (subst (λ cs. Has cs v.0) e v.1), v.2))
        (λ r v. (v.0, subst (λ cs. Has cs v.0) (sym e) (is.complete kind v.0 v.1), v.2))
        h

    pub followed_already : {S : Type 0} (asked : HashSet Question S) (f : Family) (a : List RoutineId) → family_of kind ≡ Some f → is_asked asked (f, what) ≡ true → AreAsked p asked a → Adds p (ByKind (program_of p) kind what) a a
    followed_already asked f a e k h =
        adds_known p (ByKind (program_of p) kind what) a
        (λ r v. h.each f what k v.0 (sym (conforms_as_family (program_of p) v.0 kind f e) ∙ v.1) r v.2)

    pub followed_nothing : (a : List RoutineId) → family_of kind ≡ None → Adds p (ByKind (program_of p) kind what) a a
    followed_nothing a e = adds_nothing p (ByKind (program_of p) kind what) a (λ r v. conforms_to_none (program_of p) v.0 kind e v.1)

    pub asked_more : {S : Type 0} (old new : HashSet Question S) (f : Family) (a b : List RoutineId) → family_of kind ≡ Some f → AsksOne (f, what) old new → Adds p (ByKind (program_of p) kind what) a b → AreAsked p old a → AreAsked p new b
    asked_more old new f a b e one adds h = record { each = λ g w k c m r q. by g w c m r q (one.at (g, w) k) }
      where
        by : (g : Family) (w : Option (List ℕ)) (c : ℕ) → IsTrue (conforms (program_of p) c (kind_of g)) → (r : Routine) → Aims (program_of p) w c r → ◌≡◌ {A = Question} (g, w) (f, what) ⊎ (is_asked old (g, w) ≡ true) → IsListed p b r
        by g w c m r q (inr k) = kept_listed p adds.kept (h.each g w k c m r q)
        by g w c m r q (inl k) =
            let d : g ≡ f = ap (λ (z : Question). z.0) k in
            let n : w ≡ what = ap (λ (z : Question). z.1) k in
            listed p (ByKind (program_of p) kind what) a b adds r
            (c, conforms_as_family (program_of p) c kind f e ∙ subst (λ z. conforms (program_of p) c (kind_of z) ≡ true) d m, subst (λ z. Aims (program_of p) z c r) n q)

    -- nothing new is asked
    pub asked_again : {S : Type 0} (old new : HashSet Question S) (f : Family) (a : List RoutineId) → is_asked old (f, what) ≡ true → AsksOne (f, what) old new → AreAsked p old a → AreAsked p new a
    asked_again old new f a e one h = record { each = λ g w k c m r q. h.each g w (⊎_elim (λ d. subst (λ z. is_asked old z ≡ true) (sym d) e) (λ d. d) (one.at (g, w) k)) c m r q }
