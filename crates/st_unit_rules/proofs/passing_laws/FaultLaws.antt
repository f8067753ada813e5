-- What is bad among the declarations of a unit, by where each stands.
use Rattle.std.proofs.Common.{◌≡◌, ◌⊎◌, inl, inr, ℕ, zero, suc, ◌+◌, ◌<◌, List, [], ◌∷◌, ◌++◌, Option, Some, None, length, refl, sym, ap, ◌∙◌, subst, arith}
use Rattle.std.specs.Prelude.{MatchOption, map, flat_map, slice_get}
use Rattle.plc_text.specs.declared.code.Code.{Code}
use Rattle.st_tree.specs.declared.name.Name.{Name}
use Rattle.st_tree.specs.declared.unit.Decl.{Decl}
use Rattle.st_rules.specs.Faults.{Faults, BreaksFirst, least}
use Rattle.st_rules.proofs.FaultLaws.{least_breaks_first}
use Rattle.st_unit_rules.specs.declared_names.Declarations.{Declaration, Placed, Region, declarations_of, instances_of, is_first_configuration, name_of, names_put, place_each, placed, placed_from, regions_of}
use Rattle.st_unit_rules.specs.DeclarationRules.{declaration_faults}
use Rattle.st_unit_rules.specs.UnitRefusal.{BreaksNothing, IsFirstBad, faults_at, faults_of}
use Rattle.st_unit_rules.specs.passing_laws.Passing.{At, AllDeclsGood, AllGood, OneBad, OneDeclBad, after_decl, no_declarations, with_any}
use Rattle.st_unit_rules.specs.passing_laws.PassingLaws.{SaysOf}
use Rattle.st_unit_rules.proofs.passing_laws.FieldLaws.{earlier_after, earlier_any, names_after, names_any, regions_after, regions_any}

module _ (decls : List (Decl ℕ)) where
  -- none is bad of those that stand from a number on
  GoodFrom : ℕ → List Placed → Type 0
  GoodFrom i [] = Unit {0}
  GoodFrom i (x ∷ xs) = (declaration_faults decls i x ≡ []) × GoodFrom (suc i) xs

  good_append : (i j : ℕ) (xs ys : List Placed) → j ≡ i + length xs → GoodFrom i xs → GoodFrom j ys → GoodFrom i (xs ++ ys)
  unfolding GoodFrom
  good_append i j [] ys e h k = subst (λ n. GoodFrom n ys) (let f : j ≡ i = omega (arith, e) in f) k
  good_append i j (x ∷ xs) ys e h k = (h.0, good_append (suc i) j xs ys (omega (arith, e)) h.1 k)

  -- what stands there is what the passing says
  abbrev stands : List Declaration → List (List ℕ) → List Region → Declaration → Placed
  stands e n r d = record { declaration = d; earlier = e; before = n; regions = r }

  faults_same : (a : At) (d : Declaration) (i : ℕ) (e : List Declaration) (n : List (List ℕ)) (r : List Region) → i ≡ length a.earlier → e ≡ a.earlier → n ≡ a.names → r ≡ a.regions →
      declaration_faults decls i (stands e n r d) ≡ declaration_faults decls (length a.earlier) (stands a.earlier a.names a.regions d)
  faults_same a d i e n r p q s t = ap (λ k. declaration_faults decls k (stands e n r d)) p ∙ ap (λ x. declaration_faults decls (length a.earlier) x) (λ j. stands (q j) (s j) (t j) d)

  long_more : (es : List Declaration) (d : Declaration) → length (es ++ d ∷ []) ≡ suc (length es)
  long_more [] d = refl
  long_more (e ∷ es) d = ap suc (long_more es d)

  long_append : (es ds : List Declaration) → length (es ++ ds) ≡ length es + length ds
  long_append [] ds = let h : length ds ≡ 0 + length ds = omega arith in h
  long_append (e ∷ es) ds = let h : length (es ++ ds) ≡ length es + length ds = long_append es ds in omega (arith, h)

  next_number : (a : At) (d : Declaration) (i : ℕ) → i ≡ length a.earlier → suc i ≡ length (with_any a d).earlier
  next_number a d i p = ap suc p ∙ sym (long_more a.earlier d) ∙ ap (λ es. length es) (sym (earlier_any a d))

  place_good : (a : At) (ds : List Declaration) (i : ℕ) (e : List Declaration) (n : List (List ℕ)) (r : List Region) → i ≡ length a.earlier → e ≡ a.earlier → n ≡ a.names → r ≡ a.regions → AllGood decls a ds → GoodFrom i (place_each e n r ds)
  unfolding GoodFrom
  place_good a [] i e n r p q s t h = tt
  place_good a (d ∷ ds) i e n r p q s t h = (
    faults_same a d i e n r p q s t ∙ h.0,
    place_good (with_any a d) ds (suc i) (e ++ d ∷ []) (n ++ (name_of d).text ∷ []) (r ++ regions_of d) (next_number a d i p) (ap (λ xs. xs ++ d ∷ []) q ∙ sym (earlier_any a d)) (ap (λ xs. xs ++ (name_of d).text ∷ []) s ∙ sym (names_any a d))
        (ap (λ xs. xs ++ regions_of d) t ∙ sym (regions_any a d)) h.1,
  )

  place_long : (e : List Declaration) (n : List (List ℕ)) (r : List Region) (ds : List Declaration) → length (place_each e n r ds) ≡ length ds
  place_long e n r [] = refl
  place_long e n r (d ∷ ds) = ap suc (place_long (e ++ d ∷ []) (n ++ (name_of d).text ∷ []) (r ++ regions_of d) ds)

  number_after : (a : At) (d : Decl ℕ) (i : ℕ) (xs : List Placed) → i ≡ length a.earlier → length xs ≡ length (declarations_of d) → length (after_decl a d).earlier ≡ i + length xs
  number_after a d i xs p l = ap (λ es. length es) (earlier_after a d) ∙ long_append a.earlier (declarations_of d) ∙ ap (λ k. k + length (declarations_of d)) (sym p) ∙ ap (λ k. i + k) (sym l)

  decls_good : (a : At) (ds : List (Decl ℕ)) (i : ℕ) (e : List Declaration) (n : List (List ℕ)) (r : List Region) → i ≡ length a.earlier → e ≡ a.earlier → n ≡ a.names → r ≡ a.regions → AllDeclsGood decls a ds → GoodFrom i (placed_from e n r ds)
  unfolding GoodFrom
  decls_good a [] i e n r p q s t h = tt
  decls_good a (d ∷ ds) i e n r p q s t h =
      good_append i (length (after_decl a d).earlier) (place_each e n r (declarations_of d)) _ (number_after a d i (place_each e n r (declarations_of d)) p (place_long e n r (declarations_of d))) (place_good a (declarations_of d) i e n r p q s t h.0)
      (decls_good (after_decl a d) ds (length (after_decl a d).earlier) (e ++ declarations_of d) (n ++ map (λ x. x.text) (names_put d)) (r ++ (flat_map regions_of (declarations_of d) ++ instances_of (is_first_configuration e) d)) refl
      (ap (λ xs. xs ++ declarations_of d) q ∙ sym (earlier_after a d))
      (ap (λ xs. xs ++ map (λ x. x.text) (names_put d)) s ∙ sym (names_after a d))
      (ap (λ xs. xs ++ (flat_map regions_of (declarations_of d) ++ instances_of (is_first_configuration e) d)) t
      ∙ ap (λ xs. a.regions ++ (flat_map regions_of (declarations_of d) ++ instances_of (is_first_configuration xs) d)) q
      ∙ sym (regions_after a d))
      h.1)

  good_at : (i j : ℕ) (xs : List Placed) → GoodFrom i xs → faults_of decls (i + j) (slice_get xs j) ≡ []
  unfolding GoodFrom
  good_at i j [] h = refl
  good_at i zero (x ∷ xs) h = ap (λ k. declaration_faults decls k x) (let e : i + 0 ≡ i = omega arith in e) ∙ h.0
  good_at i (suc j) (x ∷ xs) h = ap (λ k. faults_of decls k (slice_get xs j)) (let e : i + suc j ≡ suc i + j = omega arith in e) ∙ good_at (suc i) j xs h.1

  from_zero : (k : ℕ) → k ≡ 0 + k
  from_zero k = omega arith

  pub all_good : AllDeclsGood decls no_declarations decls → BreaksNothing decls
  unfolding placed
  all_good h = record { good = λ i. ap (λ k. faults_of decls k (slice_get (placed decls) i)) (from_zero i) ∙ good_at 0 i (placed decls) (decls_good no_declarations decls 0 [] [] [] refl refl refl refl h) }

  -- ---- the first bad one

  module _ (code : Code) (declaration : List ℕ) (line : ℕ) where
    BadFrom : ℕ → List Placed → Type 0
    BadFrom i [] = ⊥
    BadFrom i (x ∷ xs) = SaysOf code declaration line (name_of x.declaration) (least (declaration_faults decls i x)) ⊎ ((declaration_faults decls i x ≡ []) × BadFrom (suc i) xs)

    bad_before : (i : ℕ) (xs ys : List Placed) → BadFrom i xs → BadFrom i (xs ++ ys)
    unfolding BadFrom
    bad_before i [] ys h = absurd h
    bad_before i (x ∷ xs) ys (inl h) = inl h
    bad_before i (x ∷ xs) ys (inr h) = inr (h.0, bad_before (suc i) xs ys h.1)

    bad_behind : (i j : ℕ) (xs ys : List Placed) → j ≡ i + length xs → GoodFrom i xs → BadFrom j ys → BadFrom i (xs ++ ys)
    unfolding BadFrom GoodFrom
    bad_behind i j [] ys e h k = subst (λ n. BadFrom n ys) (let f : j ≡ i = omega (arith, e) in f) k
    bad_behind i j (x ∷ xs) ys e h k = inr (h.0, bad_behind (suc i) j xs ys (omega (arith, e)) h.1 k)

    place_bad : (a : At) (ds : List Declaration) (i : ℕ) (e : List Declaration) (n : List (List ℕ)) (r : List Region) → i ≡ length a.earlier → e ≡ a.earlier → n ≡ a.names → r ≡ a.regions → OneBad decls (SaysOf code declaration line) a ds
        → BadFrom i (place_each e n r ds)
    unfolding BadFrom
    place_bad a [] i e n r p q s t h = absurd h
    place_bad a (d ∷ ds) i e n r p q s t (inl h) = inl (h.0, ap least (faults_same a d i e n r p q s t) ∙ h.1)
    place_bad a (d ∷ ds) i e n r p q s t (inr h) = inr (
      faults_same a d i e n r p q s t ∙ h.0,
      place_bad (with_any a d) ds (suc i) (e ++ d ∷ []) (n ++ (name_of d).text ∷ []) (r ++ regions_of d) (next_number a d i p) (ap (λ xs. xs ++ d ∷ []) q ∙ sym (earlier_any a d)) (ap (λ xs. xs ++ (name_of d).text ∷ []) s ∙ sym (names_any a d))
          (ap (λ xs. xs ++ regions_of d) t ∙ sym (regions_any a d)) h.1,
    )

    decls_bad : (a : At) (ds : List (Decl ℕ)) (i : ℕ) (e : List Declaration) (n : List (List ℕ)) (r : List Region) → i ≡ length a.earlier → e ≡ a.earlier → n ≡ a.names → r ≡ a.regions → OneDeclBad decls (SaysOf code declaration line) a ds
        → BadFrom i (placed_from e n r ds)
    unfolding BadFrom
    decls_bad a [] i e n r p q s t h = absurd h
    decls_bad a (d ∷ ds) i e n r p q s t (inl h) = bad_before i (place_each e n r (declarations_of d)) _ (place_bad a (declarations_of d) i e n r p q s t h)
    decls_bad a (d ∷ ds) i e n r p q s t (inr h) =
        bad_behind i (length (after_decl a d).earlier) (place_each e n r (declarations_of d)) _ (number_after a d i (place_each e n r (declarations_of d)) p (place_long e n r (declarations_of d))) (place_good a (declarations_of d) i e n r p q s t h.0)
        (decls_bad (after_decl a d) ds (length (after_decl a d).earlier) (e ++ declarations_of d) (n ++ map (λ x. x.text) (names_put d)) (r ++ (flat_map regions_of (declarations_of d) ++ instances_of (is_first_configuration e) d)) refl
        (ap (λ xs. xs ++ declarations_of d) q ∙ sym (earlier_after a d))
        (ap (λ xs. xs ++ map (λ x. x.text) (names_put d)) s ∙ sym (names_after a d))
        (ap (λ xs. xs ++ (flat_map regions_of (declarations_of d) ++ instances_of (is_first_configuration e) d)) t
        ∙ ap (λ xs. a.regions ++ (flat_map regions_of (declarations_of d) ++ instances_of (is_first_configuration xs) d)) q
        ∙ sym (regions_after a d))
        h.1)

    -- a place at which the first bad one stands, counted from a number on
    record FoundFrom (i : ℕ) (xs : List Placed) : Type 0 where
      place : ℕ
      bad : Placed
      there : slice_get xs place ≡ Some bad
      says : SaysOf code declaration line (name_of bad.declaration) (least (declaration_faults decls (i + place) bad))
      good : (j : ℕ) → j < place → faults_of decls (i + j) (slice_get xs j) ≡ []

    found_good : (i j : ℕ) (x : Placed) (xs : List Placed) (place : ℕ) → declaration_faults decls i x ≡ [] → ((k : ℕ) → k < place → faults_of decls (suc i + k) (slice_get xs k) ≡ []) → j < suc place → faults_of decls (i + j) (slice_get (x ∷ xs) j) ≡ []
    found_good i zero x xs place h g l = ap (λ k. declaration_faults decls k x) (let e : i + 0 ≡ i = omega arith in e) ∙ h
    found_good i (suc j) x xs place h g l = ap (λ k. faults_of decls k (slice_get xs j)) (let e : i + suc j ≡ suc i + j = omega arith in e) ∙ g j (omega (arith, l))

    found : (i : ℕ) (xs : List Placed) → BadFrom i xs → FoundFrom i xs
    unfolding BadFrom
    found i [] h = absurd h
    found i (x ∷ xs) (inl h) = record {
      place = 0;
      bad = x;
      there = refl;
      says = (h.0, ap (λ k. least (declaration_faults decls k x)) (let e : i + 0 ≡ i = omega arith in e) ∙ h.1);
      good = λ j l. absurd (omega (arith, l));
    }
    found i (x ∷ xs) (inr h) =
        let f : FoundFrom (suc i) xs = found (suc i) xs h.1 in record {
          place = suc f.place;
          bad = f.bad;
          there = f.there;
          says = (f.says.0, ap (λ k. least (declaration_faults decls k f.bad)) (let e : i + suc f.place ≡ suc i + f.place = omega arith in e) ∙ f.says.1);
          good = λ j l. found_good i j x xs f.place h.0 f.good l;
        }

    first_is : (fs : Faults) → least fs ≡ Some (code, line) → BreaksFirst fs code line
    first_is fs e = subst (λ (o : Option (Code × ℕ)). MatchOption o (fs ≡ []) (λ f. BreaksFirst fs f.0 f.1)) e (least_breaks_first fs)

    pub one_bad : OneDeclBad decls (SaysOf code declaration line) no_declarations decls → IsFirstBad decls code declaration line
    unfolding placed
    one_bad h =
        let f : FoundFrom 0 (placed decls) = found 0 (placed decls) (decls_bad no_declarations decls 0 [] [] [] refl refl refl refl h) in record {
          place = f.place;
          bad = f.bad;
          there = f.there;
          breaks = subst (λ (o : Option Placed). BreaksFirst (faults_of decls f.place o) code line) (sym f.there) (first_is (declaration_faults decls f.place f.bad) (ap (λ k. least (declaration_faults decls k f.bad)) (from_zero f.place) ∙ f.says.1));
          name = f.says.0;
          good = λ j l. ap (λ k. faults_of decls k (slice_get (placed decls) j)) (from_zero j) ∙ f.good j l;
        }
