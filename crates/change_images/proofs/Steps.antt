-- Regions saved and carried, one after the other.
use Rattle.std.proofs.Common.{◌≡◌, ◌≢◌, ◌≤◌, ◌<◌, ℕ, zero, suc, ◌+◌, ◌-◌, ℤ, List, [], ◌∷◌, ◌++◌, length, get_or, Option, Some, None, refl, sym, ap, ap₂, ◌∙◌, subst, arith, inl, inr, take, drop}
use Rattle.std.specs.Prelude.{◌⊎◌, slice_get, slice_set, slice_range, option_map}
use Rattle.std.proofs.lemmas.Bool.{cases_lt}
use Rattle.std.proofs.lemmas.List.{length-set, take_all, append-nil}
use Rattle.std.proofs.lemmas.Option.{slice_get_past, slice_get_within, slice_get_cases}
use Rattle.mem_image.specs.Image.{replaced}
use Rattle.mem_image.proofs.PartLaws.{replaced_is, length-range}
use Rattle.mem_layout.proofs.store_bytes.Store.{get_set_other, get_set_same}
use Rattle.image_moves.specs.Moves.{Moves, AreWithin}
use Rattle.image_moves.proofs.MoveFacts.{moves_stay}
use Rattle.change_images.specs.Images.{Images, Source, moved_from, carried_from, carried_image, carry_from, carry_images}
use Rattle.change_images.specs.Apply.{long, long_at, SameLengths, Lies, PlanLies, IsAlike, AreAlike, image_at, carried_at}

-- ---- lists

-- lists with the same at each place are one
pub same_lists : {A : Type 0} (xs ys : List A) → ((k : ℕ) → slice_get xs k ≡ slice_get ys k) → xs ≡ ys
same_lists [] [] h = refl
same_lists [] (y ∷ ys) h = let e = h 0 in cc
same_lists (x ∷ xs) [] h = let e = h 0 in cc
same_lists (x ∷ xs) (y ∷ ys) h = let e = h 0 in let x-is : x ≡ y = cc in ap₂ (λ a bs. a ∷ bs) x-is (same_lists xs ys (λ k. h (suc k)))

-- what is there put there again
pub set_same : {A : Type 0} (xs : List A) (i : ℕ) (y : A) → slice_get xs i ≡ Some y → slice_set xs i y ≡ xs
set_same xs i y e = same_lists (slice_set xs i y) xs (λ k. elim (cases_lt k i) [
  | inl low ↦ get_set_other xs i k y (λ q. absurd (omega arith))
  | inr high ↦ elim (cases_lt i k) [
    | inl up ↦ get_set_other xs i k y (λ q. absurd (omega arith))
    | inr down ↦ (let same : i ≡ k = omega arith in subst (λ j. slice_get (slice_set xs i y) j ≡ slice_get xs j) same (get_set_same xs i y y e ∙ sym e))
  ]
])

-- ---- one region saved

whole_copied : (im source : List ℕ) (n : ℕ) → n ≡ length source → length im ≡ length source → replaced im 0 (slice_range source 0 (0 + n)) ≡ source
whole_copied im source n e l =
    let whole : slice_range source 0 (0 + n) ≡ source = take_all (0 + n - 0) source (omega arith) in
    ap (replaced im 0) whole ∙ replaced_is im 0 source (omega arith) ∙ ap (λ ys. source ++ ys) (nothing (0 + length source) im (omega arith)) ∙ append-nil source
  where
    nothing : (k : ℕ) (xs : List ℕ) → length xs ≤ k → drop k xs ≡ []
    nothing zero [] h = refl
    nothing (suc k) [] h = refl
    nothing zero (x ∷ xs) h = absurd (omega arith)
    nothing (suc k) (x ∷ xs) h = nothing k xs (omega arith)

pub empty_saved : (olds saved : Images) (r : ℕ) → slice_get olds r ≡ Some None → IsAlike (slice_get olds r) (slice_get saved r) → Some saved ≡ option_map (slice_set saved r) (slice_get olds r)
empty_saved olds saved r e a = by (slice_get saved r) refl (subst (λ o. IsAlike o (slice_get saved r)) e a) ∙ sym (ap (option_map (slice_set saved r)) e)
  where
    by : (o : Option (Option (List ℕ))) → slice_get saved r ≡ o → IsAlike (Some None) o → Some saved ≡ Some (slice_set saved r None)
    by (Some None) q a = ap Some (sym (set_same saved r None q))
    by (Some (Some im)) q a = absurd a
    by None q a = absurd a

pub image_saved : (olds saved : Images) (r : ℕ) (source im new : List ℕ) (n : ℕ) → slice_get olds r ≡ Some (Some source) → slice_get saved r ≡ Some (Some im) → IsAlike (slice_get olds r) (slice_get saved r) → n ≡ length source → new ≡ replaced im 0 (slice_range source 0 (0 + n))
    → Some (slice_set saved r (Some new)) ≡ option_map (slice_set saved r) (slice_get olds r)
image_saved olds saved r source im new n e q a len is =
    let alike : length im ≡ length source = subst (λ o. IsAlike (Some (Some source)) o) q (subst (λ o. IsAlike o (slice_get saved r)) e a) in
    ap (λ x. Some (slice_set saved r (Some x))) (is ∙ whole_copied im source n len alike) ∙ sym (ap (option_map (slice_set saved r)) e)

-- as far as regions are saved
pub record SavedBelow (olds saved : Images) (r : ℕ) (now : Images) : Type 0 where
  pub count : length now ≡ length olds
  pub below : (k : ℕ) → k < r → slice_get now k ≡ slice_get olds k
  pub above : (k : ℕ) → r ≤ k → slice_get now k ≡ slice_get saved k

pub save_begun : (olds saved : Images) → AreAlike olds saved → SavedBelow olds saved 0 saved
save_begun olds saved a = record { count = a.count; below = λ k lt. absurd (omega (arith, lt)); above = λ k le. refl }

pub save_next : (olds saved now next : Images) (r : ℕ) → r < length olds → SavedBelow olds saved r now → Some next ≡ option_map (slice_set now r) (slice_get olds r) → SavedBelow olds saved (r + 1) next
save_next olds saved now next r lt h e = by (slice_get olds r) refl e
  where
    by : (o : Option (Option (List ℕ))) → slice_get olds r ≡ o → Some next ≡ option_map (slice_set now r) o → SavedBelow olds saved (r + 1) next
    by None q e = cc
    by (Some i) q e =
        let is : next ≡ slice_set now r i = cc in
        let there = slice_get_cases now r in
        subst (λ x. SavedBelow olds saved (r + 1) x) (sym is) (record {
          count = length-set now r i ∙ h.count;
          below = λ k lt'. elim (cases_lt k r) [
            | inl low ↦ get_set_other now r k i (λ p. absurd (omega arith)) ∙ h.below k low
            | inr high ↦ (let same : r ≡ k = omega arith in subst (λ j. slice_get (slice_set now r i) j ≡ slice_get olds j) same (elim there.1 [
              | inl x ↦ get_set_same now r i x.0 x.2 ∙ sym q
              | inr x ↦ absurd (omega (arith, x.0, h.count))
            ]))
          ];
          above = λ k le. get_set_other now r k i (λ p. absurd (omega arith)) ∙ h.above k (omega arith);
        })

pub save_ended : (olds saved now : Images) → SavedBelow olds saved (length olds) now → now ≡ olds
save_ended olds saved now h = same_lists now olds (λ k. elim (cases_lt k (length olds)) [
  | inl low ↦ h.below k low
  | inr high ↦ slice_get_past now k (omega (arith, h.count)) ∙ sym (slice_get_past olds k high)
])

-- ---- one region carried

module _ (relocated : ℕ → ℤ → ℤ) (olds : Images) where
  -- where the source, or the image, is not there
  pub source_lacks : (news : Images) (r s : ℕ) (ms : Moves) → slice_get olds s ≡ Some None → r < length news → news ≡ carried_at relocated olds r (Some (s, ms)) news
  source_lacks news r s ms e lt = elim (slice_get_cases news r).1 [
    | inl x ↦ sym (ap (λ o. slice_set news r (carried_image relocated olds (Some (s, ms)) (image_at o))) x.2 ∙ ap (slice_set news r) (by x.0) ∙ set_same news r x.0 x.2)
    | inr x ↦ absurd (omega (arith, x.0))
  ]
    where
      by : (i : Option (List ℕ)) → carried_image relocated olds (Some (s, ms)) i ≡ i
      by None = refl
      by (Some im) = ap (λ o. Some (moved_from relocated ms o im)) e

  pub image_lacks : (news : Images) (r : ℕ) (a : Source) → slice_get news r ≡ Some None → news ≡ carried_at relocated olds r a news
  image_lacks news r a e = sym (ap (λ o. slice_set news r (carried_image relocated olds a (image_at o))) e ∙ set_same news r None e)

  pub nothing_at : (news : Images) (r : ℕ) (a : Source) → None ≡ a → r < length news → news ≡ carried_at relocated olds r a news
  nothing_at news r a n lt = subst (λ s. news ≡ carried_at relocated olds r s news) n (elim (slice_get_cases news r).1 [
    | inl x ↦ sym (ap (λ o. slice_set news r (carried_image relocated olds None (image_at o))) x.2 ∙ ap (slice_set news r) (by x.0) ∙ set_same news r x.0 x.2)
    | inr x ↦ absurd (omega (arith, x.0))
  ])
    where
      by : (i : Option (List ℕ)) → carried_image relocated olds None i ≡ i
      by None = refl
      by (Some im) = refl

  -- as far as regions are carried
  pub record CarriedBelow (plan : ℕ → Source) (news : Images) (r : ℕ) (now : Images) : Type 0 where
    pub count : length now ≡ length news
    pub below : (k : ℕ) → k < r → slice_get now k ≡ option_map (carried_image relocated olds (plan k)) (slice_get news k)
    pub above : (k : ℕ) → r ≤ k → slice_get now k ≡ slice_get news k

  pub carry_begun : (plan : ℕ → Source) (news : Images) → CarriedBelow plan news 0 news
  carry_begun plan news = record { count = refl; below = λ k lt. absurd (omega (arith, lt)); above = λ k le. refl }

  pub carry_next : (plan : ℕ → Source) (news now next : Images) (r : ℕ) (a : Source) → r < length news → CarriedBelow plan news r now → plan r ≡ a → next ≡ carried_at relocated olds r a now → CarriedBelow plan news (r + 1) next
  carry_next plan news now next r a lt h p e = elim (slice_get_cases now r).1 [
    | inl x ↦ subst (λ y. CarriedBelow plan news (r + 1) y) (sym (e ∙ ap (λ o. slice_set now r (carried_image relocated olds a (image_at o))) x.2)) (put x.0 x.2)
    | inr x ↦ absurd (omega (arith, x.0, h.count))
  ]
    where
      put : (i : Option (List ℕ)) → slice_get now r ≡ Some i → CarriedBelow plan news (r + 1) (slice_set now r (carried_image relocated olds a i))
      put i q =
          let y = carried_image relocated olds a i in
          let was : slice_get news r ≡ Some i = sym (h.above r (omega arith)) ∙ q in
          record {
            count = length-set now r y ∙ h.count;
            below = λ k lt'. elim (cases_lt k r) [
              | inl low ↦ get_set_other now r k y (λ p. absurd (omega arith)) ∙ h.below k low
              | inr high ↦ (let same : r ≡ k = omega arith in subst (λ j. slice_get (slice_set now r y) j ≡ option_map (carried_image relocated olds (plan j)) (slice_get news j)) same
                  (get_set_same now r y i q ∙ sym (ap₂ (λ s o. option_map (carried_image relocated olds s) o) p was)))
            ];
            above = λ k le. get_set_other now r k y (λ p. absurd (omega arith)) ∙ h.above k (omega arith);
          }

  pub each_carried : (plan : ℕ → Source) (is : Images) (r k m : ℕ) → m ≡ r + k → slice_get (carry_from relocated plan olds r is) k ≡ option_map (carried_image relocated olds (plan m)) (slice_get is k)
  each_carried plan [] r k m e = refl
  each_carried plan (i ∷ is) r zero m e = let b : r ≡ m = omega arith in ap (λ x. Some (carried_image relocated olds (plan x) i)) b
  each_carried plan (i ∷ is) r (suc k) m e = each_carried plan is (suc r) k m (omega arith)

  pub carry_ended : (plan : ℕ → Source) (news now : Images) → CarriedBelow plan news (length news) now → now ≡ carry_images relocated plan olds news
  carry_ended plan news now h = same_lists now (carry_images relocated plan olds news) (λ k. elim (cases_lt k (length news)) [
    | inl low ↦ h.below k low ∙ sym (each_carried plan news 0 k k (omega arith))
    | inr high ↦ slice_get_past now k (omega (arith, h.count)) ∙ ap (option_map (carried_image relocated olds (plan k))) (sym (slice_get_past news k high)) ∙ sym (each_carried plan news 0 k k (omega arith))
  ])

  -- a region that is not carried yet lies as it did
  pub lies_yet : (plan : ℕ → Source) (news now : Images) (r : ℕ) → PlanLies plan olds news → r < length news → CarriedBelow plan news r now → Lies olds now r (plan r)
  lies_yet plan news now r l lt h = by (plan r) (l.by r lt)
    where
      by : (a : Source) → Lies olds news r a → Lies olds now r a
      by None x = tt
      by (Some a) x = (x.0, subst (λ o. AreWithin a.1 (long_at (slice_get olds a.0)) (long_at o)) (sym (h.above r (omega arith))) x.1)

-- ---- lengths

pub lengths_stay : (is : Images) → SameLengths is is
lengths_stay is = record { count = refl; each = λ k. refl }

pub lengths_then : {is js ks : Images} → SameLengths is js → SameLengths js ks → SameLengths is ks
lengths_then h g = record { count = g.count ∙ h.count; each = λ k. g.each k ∙ h.each k }

-- moves that lie within images lie within others of the same lengths
pub lies_still : (plan : ℕ → Source) (olds news olds' news' : Images) → SameLengths olds olds' → SameLengths news news' → PlanLies plan olds news → PlanLies plan olds' news'
lies_still plan olds news olds' news' h g l = record { by = λ r lt. by r (plan r) (l.by r (omega (arith, lt, g.count))) }
  where
    by : (r : ℕ) (a : Source) → Lies olds news r a → Lies olds' news' r a
    by r None x = tt
    by r (Some a) x = (omega (arith, x.0, h.count), subst (λ d. AreWithin a.1 (long_at (slice_get olds' a.0)) d) (sym (g.each r)) (subst (λ s. AreWithin a.1 s (long_at (slice_get news r))) (sym (h.each a.0)) x.1))

-- and what is carried has the lengths that it had
pub carried_lengths : (relocated : ℕ → ℤ → ℤ) (plan : ℕ → Source) (olds news : Images) → PlanLies plan olds news → SameLengths news (carry_images relocated plan olds news)
carried_lengths relocated plan olds news l = record { count = same_count news 0; each = λ k. ap long_at (each_carried relocated olds plan news 0 k k (omega arith)) ∙ one k (slice_get_cases news k).1 }
  where
    same_count : (is : Images) (r : ℕ) → length (carry_from relocated plan olds r is) ≡ length is
    same_count [] r = refl
    same_count (i ∷ is) r = ap suc (same_count is (suc r))

    from : (ms : Moves) (o : Option (Option (List ℕ))) (im : List ℕ) → AreWithin ms (long_at o) (length im) → length (moved_from relocated ms o im) ≡ length im
    from ms (Some (Some source)) im w = (moves_stay relocated source ms (length source) (length im) 0 0 im w (omega arith) (omega arith)).long
    from ms (Some None) im w = refl
    from ms None im w = refl

    carried : (k : ℕ) (a : Source) (i : Option (List ℕ)) → slice_get news k ≡ Some i → Lies olds news k a → long (carried_image relocated olds a i) ≡ long i
    carried k None None e x = refl
    carried k (Some a) None e x = refl
    carried k None (Some im) e x = refl
    carried k (Some a) (Some im) e x = from a.1 (slice_get olds a.0) im (subst (λ o. AreWithin a.1 (long_at (slice_get olds a.0)) (long_at o)) e x.1)

    one : (k : ℕ) → ((x : Option (List ℕ)) × (k < length news) × (slice_get news k ≡ Some x) × (get_or news k x ≡ x)) ⊎ ((length news ≤ k) × (slice_get news k ≡ None)) → long_at (option_map (carried_image relocated olds (plan k)) (slice_get news k)) ≡ long_at (slice_get news k)
    one k (inl x) = ap (λ o. long_at (option_map (carried_image relocated olds (plan k)) o)) x.2 ∙ carried k (plan k) x.0 x.2 (l.by k x.1) ∙ sym (ap long_at x.2)
    one k (inr x) = ap (λ o. long_at (option_map (carried_image relocated olds (plan k)) o)) x.1 ∙ sym (ap long_at x.1)
