-- The regions that hold instances.
use Rattle.std.proofs.Common.{◌≡◌, ◌<◌, ℕ, zero, suc, ◌+◌, Bool, true, false, List, [], ◌∷◌, ◌++◌, length, Option, Some, None, refl, sym, ap, ◌∙◌, subst, ◌⊎◌, inl, inr, ⊎_elim, arith, length-append}
use Rattle.std.specs.Prelude.{slice_get}
use Rattle.std.specs.Bool.{Decides}
use Rattle.std.proofs.lemmas.Option.{slice_get_within}
use Rattle.st_types.specs.declared.st_type.StType.{StType}
use Rattle.st_rules.proofs.Booleans.{none≢some, some-same, true≢false}
use Rattle.program_tables.proofs.ClassLaws.{within_get}
use Rattle.program_tables.proofs.RoutineLaws.{below}
use Rattle.st_values.specs.Program.{Program}
use Rattle.st_values.specs.Shape.{shape_of, shape_at, region_shape}
use Rattle.st_values.proofs.ValueLaws.{then_some}
use Rattle.st_meaning.specs.st_frame.Footprint.{Has, Contains}
use Rattle.st_meaning.proofs.st_frame.Footprints.{has_left, has_right, has_either}
use Rattle.region_instances.specs.Instances.{HoldsInstance, RegionsUnfold}
use Rattle.footprints.proofs.reached_routines.FamilyLaws.{class_within}
use Rattle.footprints.specs.Private.Holders.{AreHolders, AreAllHolders, holders_at, or_none, Held, IsNextHolder}

module _ (p : Program) where
  pub holder_next : (region class : ℕ) (old : List ℕ) (b : Bool) → (RegionsUnfold p → Decides b (HoldsInstance p region class)) → b ≡ true → IsNextHolder p region class old (old ++ region ∷ [])
  holder_next region class old b h e = record {
    kept = λ r k. has_left old (region ∷ []) r k;
    only = λ u r k. ⊎_elim (λ o. inl o) (λ n. ⊎_elim (λ q. inr (q, (h u).0 e)) (λ n. absurd n) n) (has_either old (region ∷ []) r k);
    added = λ u i. has_right old (region ∷ []) region (inl refl);
  }

  pub holder_apart : (region class : ℕ) (old : List ℕ) (b : Bool) → (RegionsUnfold p → Decides b (HoldsInstance p region class)) → b ≡ false → IsNextHolder p region class old old
  holder_apart region class old b h e = record {
    kept = λ r k. k;
    only = λ u r k. inl k;
    added = λ u i. absurd (true≢false (sym ((h u).1 i) ∙ e));
  }

  pub holders_begun : (class : ℕ) (list : List ℕ) → list ≡ [] → AreHolders p class 0 list
  holders_begun class list e = record {
    sound = λ r h. absurd (subst (λ z. Has z r) e h);
    complete = λ r l h. absurd (omega (arith, l));
  }

  pub holders_next : (class n : ℕ) (a b : List ℕ) → RegionsUnfold p → AreHolders p class n a → IsNextHolder p n class a b → AreHolders p class (n + 1) b
  holders_next class n a b u t s = record {
    sound = λ r h. ⊎_elim (λ o. t.sound r o) (λ q. subst (λ z. HoldsInstance p z class) (sym q.0) q.1) (s.only u r h);
    complete = λ r l h. ⊎_elim (λ x. s.kept r (t.complete r x.0 h)) (λ x. here r (let w = x.0 in omega (arith, w, l)) h) (below r n);
  }
    where
      here : (r : ℕ) → r ≡ n → HoldsInstance p r class → Has b r
      here r e h = subst (λ z. Has b z) (sym e) (s.added u (subst (λ z. HoldsInstance p z class) e h))

  -- ---- all classes

  pub no_lists : (regions : ℕ) (lists : List (List ℕ)) → lists ≡ [] → AreAllHolders p regions lists
  no_lists regions lists e = record { each = λ class list h. absurd (none≢some (subst (λ z. slice_get z class ≡ Some list) e h)) }

  last_list : (lists : List (List ℕ)) (x : List ℕ) (class : ℕ) (list : List ℕ) → slice_get (lists ++ x ∷ []) class ≡ Some list → (slice_get lists class ≡ Some list) ⊎ ((class ≡ length lists) × (list ≡ x))
  last_list [] x zero list h = inr (refl, sym (some-same h))
  last_list [] x (suc c) list h = absurd (none≢some h)
  last_list (y ∷ ys) x zero list h = inl h
  last_list (y ∷ ys) x (suc c) list h = ⊎_elim (λ o. inl o) (λ q. inr (ap suc q.0, q.1)) (last_list ys x c list h)

  pub list_next : (regions n : ℕ) (lists : List (List ℕ)) (list : List ℕ) → length lists ≡ n → AreAllHolders p regions lists → AreHolders p n regions list → AreAllHolders p regions (lists ++ list ∷ [])
  list_next regions n lists list l t s = record {
    each = λ class found h.
        ⊎_elim
        (λ o. t.each class found o)
        (λ q. subst (λ z. AreHolders p z regions found) (sym (q.0 ∙ l)) (subst (λ z. AreHolders p n regions z) (sym q.1) s))
        (last_list lists list class found h);
  }

  -- ---- instances that conform

  region_within : (r class : ℕ) → HoldsInstance p r class → r < length p.regions
  region_within r class h =
      let a = then_some (region_shape p h.path.region) (λ sh. shape_at sh h.path.steps) _ h.there in
      let b = then_some (slice_get p.regions h.path.region) (λ x. shape_of p x.variable.kind) a.0 a.1 in
      subst (λ z. z < length p.regions) h.inside (slice_get_within p.regions h.path.region b.0 b.1)

  list_there : (lists : List (List ℕ)) (c r : ℕ) → Has (holders_at lists c) r → (list : List ℕ) × (slice_get lists c ≡ Some list) × Has list r
  list_there lists c r h = by (slice_get lists c) refl h
    where
      by : (o : Option (List ℕ)) → slice_get lists c ≡ o → Has (or_none o) r → (list : List ℕ) × (slice_get lists c ≡ Some list) × Has list r
      by None e k = absurd k
      by (Some list) e k = (list, e, k)

  module _ (lists : List (List ℕ)) (l : length lists ≡ length p.classes) (all : AreAllHolders p (length p.regions) lists) where
    pub held_contains : (t : StType) (r : ℕ) → Held p lists t r → Contains p r t
    held_contains t r h =
        let k = list_there lists h.0 r h.2 in
        let i = (all.each h.0 k.0 k.1).sound r k.2 in
        (i.path, i.inside, record { class = h.0; name = i.name; fields = i.fields; there = i.there; meets = h.1 })

    pub contains_held : (t : StType) (r : ℕ) → Contains p r t → Held p lists t r
    contains_held t r h =
        let n = h.2 in
        let holds : HoldsInstance p r n.class = record { path = h.0; inside = h.1; name = n.name; fields = n.fields; there = n.there } in
        let w = class_within p n.class t n.meets in
        let k = within_get lists n.class (omega (arith, l, w)) in
        (n.class, n.meets, subst (λ o. Has (or_none o) r) (sym k.1) ((all.each n.class k.0 k.1).complete r (region_within r n.class holds) holds))

pub one_longer : (old new : List (List ℕ)) (x : List ℕ) (n : ℕ) → new ≡ old ++ x ∷ [] → length old ≡ n → length new ≡ n + 1
one_longer old new x n e h = let l = length-append old (x ∷ []) in let k : length new ≡ length (old ++ x ∷ []) = ap length e in omega (arith, l, k, h)
