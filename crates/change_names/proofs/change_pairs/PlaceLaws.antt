-- Tables that are filled from the end of a list, or from its beginning.
use Rattle.std.proofs.Common.{◌≡◌, ◌≤◌, ◌<◌, ℕ, suc, ◌+◌, ◌-◌, Bool, true, false, List, [], ◌∷◌, ◌++◌, length, get_or, take, drop, Option, Some, None, refl, sym, ap, ◌∙◌, arith}
use Rattle.std.specs.Prelude.{if◌then◌else◌, option_map}
use Rattle.std.proofs.lemmas.List.{length-take-le}
use Rattle.st_rules.proofs.ListLaws.{drop-at, drop-end, take-at, take-end}
use Rattle.change_names.specs.change_pairs.Places.{Table, found_in, Finds, first_where, or_here, last_where}

module _ {X : Type 0} (test : X → Bool) where
  one_more : (b : Bool) (i : ℕ) (o : Option ℕ) → 0 < i → (if b then Some (i - 1) else option_map (λ k. i + k) o) ≡ option_map (λ k. (i - 1) + k) (if b then Some 0 else option_map suc o)
  one_more true i o h = let e : i - 1 ≡ (i - 1) + 0 = omega arith in ap Some e
  one_more false i None h = refl
  one_more false i (Some k) h = let e : i + k ≡ (i - 1) + suc k = omega (arith, h) in ap Some e

  pub last_added : (xs : List X) (x : X) → last_where test (xs ++ x ∷ []) ≡ (if test x then Some (length xs) else last_where test xs)
  last_added [] x = refl
  last_added (y ∷ ys) x = ap (λ o. or_here o (test y)) (last_added ys x) ∙ further (test x)
    where
      further : (b : Bool) → or_here (if b then Some (length ys) else last_where test ys) (test y) ≡ (if b then Some (suc (length ys)) else or_here (last_where test ys) (test y))
      further true = refl
      further false = refl

from_zero : (o : Option ℕ) → option_map (λ k. 0 + k) o ≡ o
from_zero None = refl
from_zero (Some k) = let e : 0 + k ≡ k = omega arith in ap Some e

module _ {X : Type 0} (test : List ℕ → X → Bool) (xs : List X) where
  -- what the list has from place i on is in the table
  pub record FromHere (i : ℕ) (table : Table) : Type 0 where
    pub within : i ≤ length xs
    pub finds : (n : List ℕ) → found_in table n ≡ option_map (λ k. i + k) (first_where (test n) (drop i xs))

  pub from_end : (i : ℕ) (table : Table) → i ≡ length xs → ((n : List ℕ) → found_in table n ≡ None) → FromHere i table
  from_end i table e h = record {
    within = omega (arith, e);
    finds = λ n. h n ∙ sym (ap (λ ys. option_map (λ k. i + k) (first_where (test n) ys)) (drop-end xs i (omega (arith, e))));
  }

  pub from_next : (i : ℕ) (table new : Table) (x : X) → 0 < i → x ≡ get_or xs (i - 1) x → FromHere i table → ((n : List ℕ) → found_in new n ≡ (if test n x then Some (i - 1) else found_in table n)) → FromHere (i - 1) new
  from_next i table new x h is so_far put =
      let w = so_far.within in
      record { within = omega (arith, w); finds = λ n. at n }
    where
      at : (n : List ℕ) → found_in new n ≡ option_map (λ k. (i - 1) + k) (first_where (test n) (drop (i - 1) xs))
      at n =
          let w = so_far.within in
          let e : (i - 1) + 1 ≡ i = omega (arith, h) in
          let l : i - 1 < length xs = omega (arith, h, w) in
          put n
          ∙ ap (λ o. if test n x then Some (i - 1) else o) (so_far.finds n)
          ∙ one_more (test n) (test n x) i (first_where (test n) (drop i xs)) h
          ∙ sym (ap (λ ys. option_map (λ k. (i - 1) + k) (first_where (test n) ys)) (drop-at xs (i - 1) x l is ∙ ap (λ m. x ∷ drop m xs) e))

  pub from_all : (i : ℕ) (table : Table) → i ≡ 0 → FromHere i table → Finds table (λ n. first_where (test n) xs)
  from_all i table e so_far = record { by = λ n. so_far.finds n ∙ ap (λ m. option_map (λ k. m + k) (first_where (test n) (drop m xs))) e ∙ from_zero (first_where (test n) xs) }

  -- what the list has before place i is in the table
  pub record ToHere (i : ℕ) (table : Table) : Type 0 where
    pub finds : (n : List ℕ) → found_in table n ≡ last_where (test n) (take i xs)

  pub to_begin : (table : Table) → ((n : List ℕ) → found_in table n ≡ None) → ToHere 0 table
  to_begin table h = record { finds = h }

  pub to_next : (i : ℕ) (table new : Table) (x : X) → i < length xs → x ≡ get_or xs i x → ToHere i table → ((n : List ℕ) → found_in new n ≡ (if test n x then Some i else found_in table n)) → ToHere (i + 1) new
  to_next i table new x h is so_far put = record {
    finds = λ n.
        put n
        ∙ ap (λ o. if test n x then Some i else o) (so_far.finds n)
        ∙ ap (λ m. if test n x then Some m else last_where (test n) (take i xs)) (sym (length-take-le i xs (omega (arith, h))))
        ∙ sym (ap (last_where (test n)) (take-at xs i x h is) ∙ last_added (test n) (take i xs) x);
  }

  pub to_end : (i : ℕ) (table : Table) → length xs ≤ i → ToHere i table → Finds table (λ n. last_where (test n) xs)
  to_end i table h so_far = record { by = λ n. so_far.finds n ∙ ap (last_where (test n)) (take-end xs i h) }
