-- In a unit that breaks no rule a bit of the image is of one output at most.
use Rattle.std.proofs.Common.{◌≡◌, ◌≤◌, ℕ, ◌+◌, Bool, true, false, List, [], ◌∷◌, ◌++◌, length, refl, sym, ap, ◌∙◌, subst, arith, append-nil, append_assoc, leb-true, ltb-true, lt-ltb}
use Rattle.std.specs.Prelude.{if◌then◌else◌, ◌&&◌, nat_le, nat_lt, filter, flat_map}
use Rattle.std.specs.List.{list_any}
use Rattle.std.proofs.lemmas.List.Concat.{flat_map-append}
use Rattle.std.proofs.lemmas.List.Elements.{filter-append}
use Rattle.plc_text.specs.declared.code.Code.TheVariants.{E14}
use Rattle.st_tree.specs.declared.address.Area.{Area}
use Rattle.st_tree.specs.declared.address.Area.TheVariants as area
use Rattle.st_tree.specs.declared.unit.Decl.{Decl}
use Rattle.st_rules.proofs.Booleans.{true≢false, neither, or-neither, both, and-both}
use Rattle.st_unit_rules.specs.Addresses.{Bits, share, is_shared, shares_bits, same_area}
use Rattle.st_unit_rules.specs.declared_names.Declarations.{Region}
use Rattle.st_unit_rules.specs.Checked.{unit_regions}
use Rattle.st_unit_rules.specs.DeclarationRules.{region_bits, region_values, region_faults, region_line, regions_faults}
use Rattle.st_unit_rules.specs.Limits.{too_many_regions, too_many_values}
use Rattle.st_unit_rules.specs.UnitRefusal.{BreaksNothing}
use Rattle.st_meaning.specs.ProcessImage as image
use Rattle.accepted_texts.proofs.unfolding_laws.CycleLaws.{none_in, not_when}
use Rattle.accepted_texts.proofs.sized_units.Regions.{Fine, total, regions_fine}

-- bits of outputs with this one among them
abbrev pub bit_in : ℕ → Bits → Bool
bit_in n b = image.same_area b.area area.Output && (nat_le b.first n && nat_lt n (b.first + b.count))

areas_same : (a b : Area) → image.same_area a area.Output ≡ true → image.same_area b area.Output ≡ true → same_area a b ≡ true
areas_same area.Output area.Output h k = refl
areas_same area.Output area.Input h k = cc
areas_same area.Output area.Memory h k = cc
areas_same area.Input b h k = cc
areas_same area.Memory b h k = cc

share_both : (n : ℕ) (a b : Bits) → bit_in n a ≡ true → bit_in n b ≡ true → share a b ≡ true
share_both n a b h k =
    let p = both (image.same_area a.area area.Output) (nat_le a.first n && nat_lt n (a.first + a.count)) h in
    let q = both (image.same_area b.area area.Output) (nat_le b.first n && nat_lt n (b.first + b.count)) k in
    let r = both (nat_le a.first n) (nat_lt n (a.first + a.count)) p.1 in
    let t = both (nat_le b.first n) (nat_lt n (b.first + b.count)) q.1 in
    let al = leb-true a.first n r.0 in
    let ar = ltb-true n (a.first + a.count) r.1 in
    let bl = leb-true b.first n t.0 in
    let br = ltb-true n (b.first + b.count) t.1 in
    let one = lt-ltb a.first (b.first + b.count) (omega (arith, al, br)) in
    let two = lt-ltb b.first (a.first + a.count) (omega (arith, bl, ar)) in
    let areas = areas_same a.area b.area p.0 q.0 in
    and-both (same_area a.area b.area && nat_lt a.first (b.first + b.count)) (nat_lt b.first (a.first + a.count))
    (and-both (same_area a.area b.area) (nat_lt a.first (b.first + b.count)) areas one) two

none_shares : (n : ℕ) (b : Bits) (taken : List Bits) → bit_in n b ≡ true → is_shared taken b ≡ false → list_any (bit_in n) taken ≡ false
none_shares n b [] h k = refl
none_shares n b (t ∷ ts) h k =
    let p = neither (share b t) (is_shared ts b) k in
    or-neither (bit_in n t) (list_any (bit_in n) ts) (by (bit_in n t) refl p.0) (none_shares n b ts h p.1)
  where
    by : (c : Bool) → bit_in n t ≡ c → share b t ≡ false → c ≡ false
    by false e q = refl
    by true e q = absurd (true≢false (sym (share_both n b t h e) ∙ q))

none_left : {X : Type 0} (test : X → Bool) (xs : List X) → list_any test xs ≡ false → filter test xs ≡ []
none_left test [] h = refl
none_left test (x ∷ xs) h =
    let p = neither (test x) (list_any test xs) h in
    ap (λ b. if b then x ∷ filter test xs else filter test xs) p.0 ∙ none_left test xs p.1

if_false : (b r : Bool) → (if b then true else r) ≡ false → (b ≡ false) × (r ≡ false)
if_false true r e = absurd (true≢false e)
if_false false r e = (refl, e)

-- ---- each bit once

module _ (n : ℕ) where
  one_more : (taken : List Bits) (b : Bits) → length (filter (bit_in n) taken) ≤ 1 → is_shared taken b ≡ false → length (filter (bit_in n) (taken ++ b ∷ [])) ≤ 1
  one_more taken b h k = subst (λ (xs : List Bits). length xs ≤ 1) (sym (filter-append (bit_in n) taken (b ∷ []))) (by (bit_in n b) refl)
    where
      by : (c : Bool) → bit_in n b ≡ c → length (filter (bit_in n) taken ++ (if c then b ∷ [] else [])) ≤ 1
      by true e = subst (λ (xs : List Bits). length (xs ++ b ∷ []) ≤ 1) (sym (none_left (bit_in n) taken (none_shares n b taken e k))) (let one : length (b ∷ []) ≡ 1 = refl in omega (arith, one))
      by false e = subst (λ (xs : List Bits). length xs ≤ 1) (sym (append-nil (filter (bit_in n) taken))) h

  at_most_one : (taken bs : List Bits) → length (filter (bit_in n) taken) ≤ 1 → shares_bits taken bs ≡ false → length (filter (bit_in n) (taken ++ bs)) ≤ 1
  at_most_one taken [] h k = subst (λ (xs : List Bits). length (filter (bit_in n) xs) ≤ 1) (sym (append-nil taken)) h
  at_most_one taken (b ∷ bs) h k =
      let s = if_false (is_shared taken b) (shares_bits (taken ++ b ∷ []) bs) k in
      subst (λ (xs : List Bits). length (filter (bit_in n) xs) ≤ 1) (append_assoc taken (b ∷ []) bs) (at_most_one (taken ++ b ∷ []) bs (one_more taken b h s.0) s.1)

shares_joined : (taken xs ys : List Bits) → shares_bits taken xs ≡ false → shares_bits (taken ++ xs) ys ≡ false → shares_bits taken (xs ++ ys) ≡ false
shares_joined taken [] ys h k = subst (λ t. shares_bits t ys ≡ false) (append-nil taken) k
shares_joined taken (x ∷ xs) ys h k =
    let s = if_false (is_shared taken x) (shares_bits (taken ++ x ∷ []) xs) h in
    let rest = shares_joined (taken ++ x ∷ []) xs ys s.1 (subst (λ t. shares_bits t ys ≡ false) (sym (append_assoc taken (x ∷ []) xs)) k) in
    ap (λ b. if b then true else shares_bits (taken ++ x ∷ []) (xs ++ ys)) s.0 ∙ rest

-- ---- regions

module _ (decls : List (Decl ℕ)) where
  abbrev bits_of_all : List Region → List Bits
  bits_of_all rs = flat_map (region_bits decls) rs

  regions_apart : (before rs : List Region) → Fine decls before rs → shares_bits (bits_of_all before) (bits_of_all rs) ≡ false
  regions_apart before [] h = refl
  regions_apart before (r ∷ rs) h =
      let a = none_in (region_faults decls before (region_line decls r) r) (regions_faults decls (before ++ r ∷ []) rs) h in
      let b = none_in _ (too_many_values (region_line decls r) (total decls before) (region_values decls r)) a.0 in
      let c = none_in _ (too_many_regions (region_line decls r) (length before)) b.0 in
      let own = not_when (shares_bits (bits_of_all before) (region_bits decls r)) E14 (region_line decls r) c.0 in
      let rest = regions_apart (before ++ r ∷ []) rs a.1 in
      let e : bits_of_all (before ++ r ∷ []) ≡ bits_of_all before ++ region_bits decls r = flat_map-append (region_bits decls) before (r ∷ []) ∙ ap (λ x. bits_of_all before ++ x) (append-nil (region_bits decls r)) in
      shares_joined (bits_of_all before) (region_bits decls r) (bits_of_all rs) own (subst (λ x. shares_bits x (bits_of_all rs) ≡ false) e rest)

  pub bit_once : BreaksNothing decls → (n : ℕ) → length (filter (bit_in n) (bits_of_all (unit_regions decls))) ≤ 1
  bit_once good n = at_most_one n [] (bits_of_all (unit_regions decls)) (omega arith) (regions_apart [] (unit_regions decls) (regions_fine decls good))
