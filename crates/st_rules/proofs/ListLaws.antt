-- What is left of a list at a place, and what stands before it.
use Rattle.std.proofs.Common.{◌≡◌, ℕ, zero, suc, ◌+◌, ◌<◌, ◌≤◌, Bool, true, false, List, [], ◌∷◌, ◌++◌, length, map, get_or, take, drop, refl, sym, ap, ◌∙◌, arith, add-one, append-nil, drop-cons}
use Rattle.std.specs.Prelude.{◌||◌}
use Rattle.std.specs.List.{list_any}
use Rattle.std.proofs.lemmas.List.{append_assoc}
use Rattle.std.proofs.Math.Seq.{take-suc}

pub drop-at : {X : Type 0} (xs : List X) (i : ℕ) (x : X) → i < length xs → x ≡ get_or xs i x → drop i xs ≡ x ∷ drop (i + 1) xs
drop-at xs i x h e = drop-cons xs i x h ∙ ap (λ y. y ∷ drop (suc i) xs) (sym e) ∙ ap (λ n. x ∷ drop n xs) (sym (add-one i))

pub take-at : {X : Type 0} (xs : List X) (i : ℕ) (x : X) → i < length xs → x ≡ get_or xs i x → take (i + 1) xs ≡ take i xs ++ x ∷ []
take-at xs i x h e = ap (λ n. take n xs) (add-one i) ∙ take-suc xs i x h ∙ ap (λ y. take i xs ++ y ∷ []) (sym e)

pub drop-end : {X : Type 0} (xs : List X) (i : ℕ) → length xs ≤ i → drop i xs ≡ []
drop-end [] zero h = refl
drop-end [] (suc i) h = refl
drop-end (x ∷ xs) zero h = absurd (omega arith)
drop-end (x ∷ xs) (suc i) h = drop-end xs i (omega arith)

pub take-end : {X : Type 0} (xs : List X) (i : ℕ) → length xs ≤ i → take i xs ≡ xs
take-end [] zero h = refl
take-end [] (suc i) h = refl
take-end (x ∷ xs) zero h = absurd (omega arith)
take-end (x ∷ xs) (suc i) h = ap (λ ys. x ∷ ys) (take-end xs i (omega arith))

-- a search through a list, by what is left of it
module _ {X : Type 0} (test : X → Bool) (xs : List X) (i : ℕ) where
  pub any-found : (x : X) (r : Bool) → i < length xs → x ≡ get_or xs i x → list_any test (drop i xs) ≡ list_any test xs → r ≡ test x → r ≡ true → true ≡ list_any test xs
  any-found x r h e left is t = sym (sym left ∙ ap (list_any test) (drop-at xs i x h e) ∙ ap (λ b. b || list_any test (drop (i + 1) xs)) (sym is ∙ t))

  pub any-next : (x : X) (r : Bool) → i < length xs → x ≡ get_or xs i x → list_any test (drop i xs) ≡ list_any test xs → r ≡ test x → r ≡ false → list_any test (drop (i + 1) xs) ≡ list_any test xs
  any-next x r h e left is t = sym (ap (list_any test) (drop-at xs i x h e) ∙ ap (λ b. b || list_any test (drop (i + 1) xs)) (sym is ∙ t)) ∙ left

  pub any-none : length xs ≤ i → list_any test (drop i xs) ≡ list_any test xs → false ≡ list_any test xs
  any-none h left = sym (ap (list_any test) (drop-end xs i h)) ∙ left

-- A loop that puts what each item gives behind what it has: `given` says what items give.
pub left_next : {X Y : Type 0} (given : List X → List Y) (xs : List X) (i : ℕ) (x : X) (old new part whole : List Y) → i < length xs → x ≡ get_or xs i x → given (x ∷ drop (i + 1) xs) ≡ part ++ given (drop (i + 1) xs) →
    new ≡ old ++ part → old ++ given (drop i xs) ≡ whole → new ++ given (drop (i + 1) xs) ≡ whole
left_next given xs i x old new part whole h e g n left =
    ap (λ zs. zs ++ given (drop (i + 1) xs)) n ∙ append_assoc old part (given (drop (i + 1) xs)) ∙ ap (λ zs. old ++ zs) (sym g) ∙ ap (λ ys. old ++ given ys) (sym (drop-at xs i x h e)) ∙ left

pub left_end : {X Y : Type 0} (given : List X → List Y) (xs : List X) (i : ℕ) (all whole : List Y) → given [] ≡ [] → length xs ≤ i → all ++ given (drop i xs) ≡ whole → all ≡ whole
left_end given xs i all whole g h left = sym (append-nil all) ∙ ap (λ zs. all ++ zs) (sym g) ∙ ap (λ ys. all ++ given ys) (sym (drop-end xs i h)) ∙ left

pub mapped_next : {X Y : Type 0} (f : X → Y) (xs : List X) (i : ℕ) (x : X) (old new whole : List Y) (y : Y) → i < length xs → x ≡ get_or xs i x → new ≡ old ++ y ∷ [] → y ≡ f x → old ++ map f (drop i xs) ≡ whole → new ++ map f (drop (i + 1) xs) ≡ whole
mapped_next f xs i x old new whole y h e n g left = left_next (map f) xs i x old new (y ∷ []) whole h e (ap (λ z. z ∷ map f (drop (i + 1) xs)) (sym g)) n left

pub mapped_end : {X Y : Type 0} (f : X → Y) (xs : List X) (i : ℕ) (all whole : List Y) → length xs ≤ i → all ++ map f (drop i xs) ≡ whole → all ≡ whole
mapped_end f xs i all whole h left = left_end (map f) xs i all whole refl h left
