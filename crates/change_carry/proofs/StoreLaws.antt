-- Regions that are carried, one by one.
use Rattle.std.proofs.Common.{◌≡◌, ◌≤◌, ℕ, zero, suc, ◌+◌, Bool, true, false, List, [], ◌∷◌, length, map, Option, Some, None, refl, sym, ap, ◌∙◌, arith}
use Rattle.std.proofs.lemmas.Option.{slice_get-map}
use Rattle.std.specs.Prelude.{if◌then◌else◌, ◌&&◌, ◌||◌, not, option_map, slice_get}
use Rattle.st_values.specs.Program.{Region, Program}
use Rattle.st_values.specs.Value.{Value, Members, no_members, member_then, Store, member, ◌>>=◌}
use Rattle.st_values.specs.Shape.{Shape, region_shape}
use Rattle.st_change.specs.From.{same_flag, old_region}
use Rattle.st_change.specs.Carry.{Old, stays, carry}
use Rattle.st_change.specs.Counterpart.{kept}
use Rattle.st_change.specs.Change.{region_before, carried_region, carry_regions}
use Rattle.change_carry.specs.Private.Carry.{member_by, in_shape, region_carried, region_by}
use Rattle.change_carry.proofs.CarryLaws.{none_carried}

module _ (old new : Program) (keeping : Bool) (before : Store) where
  -- ---- one region

  abbrev old_by : Option ℕ → Old
  old_by q = q >>= λ o. region_shape old o >>= λ sh. member before o >>= λ v. Some (sh, v)

  abbrev from_shape : ℕ → Option Shape → Old
  from_shape o q = q >>= λ sh. member before o >>= λ v. Some (sh, v)

  abbrev from_value : Shape → Option Value → Old
  from_value sh q = q >>= λ v. Some (sh, v)

  nothing_carried : (q : Option Shape) (o : Old) (h : Value) → o ≡ None → in_shape old new keeping q o h ≡ h
  nothing_carried None o h e = refl
  nothing_carried (Some sh) o h e = ap (λ x. carry old new keeping sh x h) e ∙ none_carried old new keeping h sh

  module _ (r : ℕ) (h : Value) where
    pub no_shape : None ≡ region_shape new r → h ≡ region_carried old new keeping before r h
    no_shape e = ap (λ q. in_shape old new keeping q (region_before old new before r) h) e

    pub no_old_region : None ≡ old_region old new r → h ≡ region_carried old new keeping before r h
    no_old_region e = sym (nothing_carried (region_shape new r) (region_before old new before r) h (ap old_by (sym e)))

    module _ (o : ℕ) (there : Some o ≡ old_region old new r) where
      pub no_old_shape : None ≡ region_shape old o → h ≡ region_carried old new keeping before r h
      no_old_shape e = sym (nothing_carried (region_shape new r) (region_before old new before r) h (ap old_by (sym there) ∙ ap (from_shape o) (sym e)))

      module _ (x : Shape) (seen : Some x ≡ region_shape old o) where
        pub no_old_value : None ≡ member before o → h ≡ region_carried old new keeping before r h
        no_old_value e = sym (nothing_carried (region_shape new r) (region_before old new before r) h (ap old_by (sym there) ∙ ap (from_shape o) (sym seen) ∙ ap (from_value x) (sym e)))

        pub old_value : (sh : Shape) (v h' : Value) → Some sh ≡ region_shape new r → Some v ≡ member before o → h' ≡ carry old new keeping sh (Some (x, v)) h → h' ≡ region_carried old new keeping before r h
        old_value sh v h' s e k =
            let from : region_before old new before r ≡ Some (x, v) = ap old_by (sym there) ∙ ap (from_shape o) (sym seen) ∙ ap (from_value x) (sym e) in
            k ∙ ap (λ q. carry old new keeping sh q h) (sym from) ∙ ap (λ q. in_shape old new keeping q (region_before old new before r) h) s

  -- ---- whether it is meant

  module _ (r : ℕ) (x : Region) (h h' : Value) where
    abbrev by_flags : Bool → Bool → Option Shape → Value
    by_flags meant marked q = if meant then marked_by q else h
      where
        marked_by : Option Shape → Value
        marked_by None = h
        marked_by (Some sh) = if marked then h else carry old new keeping sh (region_before old new before r) h

    is_meant : (meant marked : Bool) (q : Option Shape) → (meant && not marked) ≡ true → in_shape old new keeping q (region_before old new before r) h ≡ by_flags meant marked q
    is_meant true false None e = refl
    is_meant true false (Some sh) e = refl
    is_meant true true q e = absurd cc
    is_meant false marked q e = absurd cc

    is_not_meant : (meant marked : Bool) (q : Option Shape) → (meant && not marked) ≡ false → h ≡ by_flags meant marked q
    is_not_meant true true None e = refl
    is_not_meant true true (Some sh) e = refl
    is_not_meant true false q e = absurd cc
    is_not_meant false marked q e = refl

    as_defined : (q : Option Shape) → by_flags (same_flag keeping (kept old new r)) (stays old new keeping x.variable) q ≡ (if same_flag keeping (kept old new r) then carried_region old new keeping q x (region_before old new before r) h else h)
    as_defined None = refl
    as_defined (Some sh) = refl

    pub region_meant : (flag : Bool) → flag ≡ kept old new r → (same_flag keeping flag && not (stays old new keeping x.variable)) ≡ true → h' ≡ region_carried old new keeping before r h → h' ≡ region_by old new keeping before r x h
    region_meant flag is e k =
        k ∙ is_meant (same_flag keeping (kept old new r)) (stays old new keeping x.variable) (region_shape new r) (ap (λ b. same_flag keeping b && not (stays old new keeping x.variable)) (sym is) ∙ e)
        ∙ as_defined (region_shape new r)

    pub region_not_meant : (flag : Bool) → flag ≡ kept old new r → (same_flag keeping flag && not (stays old new keeping x.variable)) ≡ false → h ≡ region_by old new keeping before r x h
    region_not_meant flag is e =
        is_not_meant (same_flag keeping (kept old new r)) (stays old new keeping x.variable) (region_shape new r) (ap (λ b. same_flag keeping b && not (stays old new keeping x.variable)) (sym is) ∙ e)
        ∙ as_defined (region_shape new r)

  -- ---- all of them

  -- those from this place on, whose first has this number
  abbrev regions_after : ℕ → ℕ → List Region → Members → Members
  regions_after zero r xs hs = carry_regions old new keeping before r xs hs
  regions_after (suc k) r xs no_members = no_members
  regions_after (suc k) r [] (member_then n h hs) = member_then n h hs
  regions_after (suc k) r (x ∷ xs) (member_then n h hs) = member_then n h (regions_after k (suc r) xs hs)

  region_next : (k r m : ℕ) (xs : List Region) (x : Region) (hs : Members) → m ≡ r + k → slice_get xs k ≡ Some x → regions_after (suc k) r xs (member_by k (region_by old new keeping before m x) hs) ≡ regions_after k r xs hs
  region_next zero r m [] x hs d e = absurd cc
  region_next (suc k) r m [] x hs d e = absurd cc
  region_next zero r m (y ∷ xs) x no_members d e = refl
  region_next zero r m (y ∷ xs) x (member_then n h hs) d e =
      let s : x ≡ y = cc in
      let t : m ≡ r = omega (arith, d) in
      ap (λ z. member_then n (region_by old new keeping before m z h) (carry_regions old new keeping before (suc r) xs hs)) s
      ∙ ap (λ q. member_then n (region_by old new keeping before q y h) (carry_regions old new keeping before (suc r) xs hs)) t
  region_next (suc k) r m (y ∷ xs) x no_members d e = refl
  region_next (suc k) r m (y ∷ xs) x (member_then n h hs) d e = ap (member_then n h) (region_next k (suc r) m xs x hs (omega (arith, d)) e)

  regions_done : (k r : ℕ) (xs : List Region) (hs : Members) → length xs ≤ k → regions_after k r xs hs ≡ hs
  regions_done zero r [] no_members l = refl
  regions_done zero r [] (member_then n h hs) l = refl
  regions_done zero r (x ∷ xs) hs l = absurd (omega (arith, l))
  regions_done (suc k) r [] no_members l = refl
  regions_done (suc k) r [] (member_then n h hs) l = refl
  regions_done (suc k) r (x ∷ xs) no_members l = refl
  regions_done (suc k) r (x ∷ xs) (member_then n h hs) l = ap (member_then n h) (regions_done k (suc r) xs hs (omega (arith, l)))

  pub record RegionsLeft (xs : List Region) (first now : Members) (k : ℕ) : Type 0 where
    pub rest : regions_after k 0 xs now ≡ carry_regions old new keeping before 0 xs first

  module _ {D : Type 0} (view : D → Region) (ds : List D) (first : Members) where
    pub regions_begun : RegionsLeft (map view ds) first first 0
    regions_begun = record { rest = refl }

    pub regions_next : (now next : Members) (k : ℕ) (d : D) → slice_get ds k ≡ Some d → RegionsLeft (map view ds) first now k → next ≡ member_by k (region_by old new keeping before k (view d)) now → RegionsLeft (map view ds) first next (k + 1)
    regions_next now next k d e left h = record {
      rest =
          let s : k + 1 ≡ suc k = omega arith in
          let t : k ≡ 0 + k = omega arith in
          ap (λ m. regions_after m 0 (map view ds) next) s
          ∙ ap (regions_after (suc k) 0 (map view ds)) h
          ∙ region_next k 0 k (map view ds) (view d) now t (slice_get-map view ds k ∙ ap (option_map view) e)
          ∙ left.rest;
    }

    pub regions_ended : (now : Members) (k : ℕ) → length ds ≤ k → RegionsLeft (map view ds) first now k → now ≡ carry_regions old new keeping before 0 (map view ds) first
    regions_ended now k l left = sym (regions_done k 0 (map view ds) now (long ds k l)) ∙ left.rest
      where
        long : (xs : List D) (m : ℕ) → length xs ≤ m → length (map view xs) ≤ m
        long [] m q = q
        long (x ∷ xs) zero q = absurd (omega (arith, q))
        long (x ∷ xs) (suc m) q = let p = long xs m (omega (arith, q)) in omega (arith, p)
