-- Lists that are made one by one.
use Rattle.std.proofs.Common.{◌≡◌, ◌≤◌, ◌<◌, ℕ, zero, suc, ◌+◌, ◌-◌, List, [], ◌∷◌, ◌++◌, length, map, get_or, take, Option, Some, None, refl, sym, ap, ◌∙◌, subst, arith, inl, inr, ◌⊎◌, length-append}
use Rattle.std.proofs.lemmas.List.{map-append}
use Rattle.std.proofs.lemmas.Option.{slice_get_past}
use Rattle.std.specs.Prelude.{slice_get, option_map, if◌then◌else◌}
use Rattle.plc_text.specs.Words.{same}
use Rattle.st_rules.specs.Named.{first_place}
use Rattle.st_rules.proofs.ListLaws.{take-at, take-end}
use Rattle.change_names.specs.change_pairs.Places.{first_where}

at_end : {A : Type 0} (xs : List A) (x : A) → slice_get (xs ++ x ∷ []) (length xs) ≡ Some x
at_end [] x = refl
at_end (y ∷ xs) x = at_end xs x

before_end : {A : Type 0} (xs ys : List A) (k : ℕ) → k < length xs → slice_get (xs ++ ys) k ≡ slice_get xs k
before_end [] ys k h = absurd (omega arith)
before_end (x ∷ xs) ys zero h = refl
before_end (x ∷ xs) ys (suc k) h = before_end xs ys k (omega arith)

pub split : (a b : ℕ) → (a < b) ⊎ (b ≤ a)
split zero zero = inr (omega arith)
split zero (suc b) = inl (omega arith)
split (suc a) zero = inr (omega arith)
split (suc a) (suc b) = elim (split a b) [ inl p ↦ inl (omega arith) | inr p ↦ inr (omega arith) ]

-- the first items of a list show what they are to show
module _ {A B : Type 0} (show : Option A → B) (of : ℕ → B) where
  pub record FirstShow (n : ℕ) (all : List A) : Type 0 where
    pub long : length all ≡ n
    pub each : (k : ℕ) → k < n → show (slice_get all k) ≡ of k

  pub none_shown : FirstShow 0 []
  none_shown = record { long = refl; each = λ k h. absurd (omega arith) }

  pub one_shown : (n : ℕ) (all new : List A) (x : A) → FirstShow n all → new ≡ all ++ x ∷ [] → show (Some x) ≡ of n → FirstShow (n + 1) new
  one_shown n all new x f e s = subst (λ (ys : List A). FirstShow (n + 1) ys) (sym e) longer
    where
      by : (k : ℕ) → k < n + 1 → (k < n) ⊎ (n ≤ k) → show (slice_get (all ++ x ∷ []) k) ≡ of k
      by k h (inl p) = let l = f.long in ap show (before_end all (x ∷ []) k (omega (arith, l, p))) ∙ f.each k p
      by k h (inr p) =
          let l = f.long in
          let q : k ≡ length all = omega (arith, l, p, h) in
          let r : n ≡ k = omega (arith, p, h) in
          ap (λ j. show (slice_get (all ++ x ∷ []) j)) q ∙ ap show (at_end all x) ∙ s ∙ ap of r

      longer : FirstShow (n + 1) (all ++ x ∷ [])
      longer =
          let l = f.long in
          let m : length all + 1 ≡ n + 1 = omega (arith, l) in
          record { long = length-append all (x ∷ []) ∙ m; each = λ k h. by k h (split k n) }

  pub all_shown : (n : ℕ) (all : List A) → FirstShow n all → ((k : ℕ) → n ≤ k → show None ≡ of k) → (k : ℕ) → show (slice_get all k) ≡ of k
  all_shown n all f none k = by (split k n)
    where
      by : (k < n) ⊎ (n ≤ k) → show (slice_get all k) ≡ of k
      by (inl p) = f.each k p
      by (inr p) = let l = f.long in ap show (slice_get_past all k (omega (arith, l, p))) ∙ none k p

-- what each item of a list gives, so far
module _ {X A : Type 0} (f : X → A) (xs : List X) where
  pub record MappedTo (i : ℕ) (all : List A) : Type 0 where
    pub is : all ≡ map f (take i xs)

  pub none_mapped : MappedTo 0 []
  none_mapped = record { is = refl }

  pub one_mapped : (i : ℕ) (all new : List A) (x : X) (y : A) → i < length xs → x ≡ get_or xs i x → MappedTo i all → new ≡ all ++ y ∷ [] → y ≡ f x → MappedTo (i + 1) new
  one_mapped i all new x y h e m n s = record {
    is =
        n ∙ ap (λ ys. ys ++ y ∷ []) m.is ∙ ap (λ z. map f (take i xs) ++ z ∷ []) s
        ∙ sym (ap (map f) (take-at xs i x h e) ∙ map-append f (take i xs) (x ∷ []));
  }

  pub all_mapped : (i : ℕ) (all : List A) → length xs ≤ i → MappedTo i all → all ≡ map f xs
  all_mapped i all h m = m.is ∙ ap (map f) (take-end xs i h)

-- a search by names is one by their list
pub by_names : {X : Type 0} (name_of : X → List ℕ) (n : List ℕ) (xs : List X) → first_where (λ x. same (name_of x) n) xs ≡ first_place n (map name_of xs)
by_names name_of n [] = refl
by_names name_of n (x ∷ xs) = ap (λ o. if same (name_of x) n then Some 0 else option_map suc o) (by_names name_of n xs)

pub map_map : {X Y Z : Type 0} (f : X → Y) (g : Y → Z) (xs : List X) → map g (map f xs) ≡ map (λ x. g (f x)) xs
map_map f g [] = refl
map_map f g (x ∷ xs) = ap (λ ys. g (f x) ∷ ys) (map_map f g xs)
