-- The elements of an array, part by part.
use Rattle.std.proofs.Common.{◌≡◌, ℕ, zero, suc, ◌+◌, ◌-◌, ◌<◌, List, [], ◌∷◌, ◌++◌, Option, Some, None, get_or, length, refl, sym, ap, ◌∙◌, subst, arith}
use Rattle.std.specs.Prelude.{min, replicate}
use Rattle.st_tree.specs.Initial.{Initial, Part, One, Repeated, Parts, part_then, parts}
use Rattle.st_tree.specs.Number.{number_of}
use Rattle.st_unit_rules.specs.Initials.{part_count}
use Rattle.st_unit_rules.specs.Worth.{Worth, Worths, no_worths, worth_then, worth_before, elements_worth, parts_listed}
use Rattle.default_values.specs.given_values.Lists.{given_by, repeat_before, room_after, rooms, parts_worth}

pub before_none : (o : Option Worth) → worth_before o None ≡ None
before_none None = refl
before_none (Some w) = refl

pub repeat_none : (n : ℕ) (o : Option Worth) → repeat_before n o None ≡ None
repeat_none zero o = refl
repeat_none (suc n) o = ap (worth_before o) (repeat_none n o) ∙ before_none o

none_repeat : (n : ℕ) (o : Option Worths) → repeat_before (suc n) None o ≡ None
none_repeat n o = none_before (repeat_before n None o)
  where
    none_before : (o : Option Worths) → worth_before None o ≡ None
    none_before None = refl
    none_before (Some ws) = refl

pub untold_repeat : (n : ℕ) (o : Option Worths) → 0 < n → repeat_before n None o ≡ None
untold_repeat zero o h = absurd (omega (arith, h))
untold_repeat (suc n) o h = none_repeat n o

module _ (f : Option (Initial ℕ) → Option Worth) where
  repeated : (c n : ℕ) (i : Initial ℕ) (is : List (Initial ℕ)) → elements_worth f n (replicate c i ++ is) ≡ repeat_before (min c n) (f (Some i)) (elements_worth f (n - c) is)
  repeated zero n i is =
      let e : 0 ≡ min 0 n = omega arith in
      let d : n ≡ n - 0 = omega arith in
      λ k. repeat_before (e k) (f (Some i)) (elements_worth f (d k) is)
  repeated (suc c) zero i is =
      let e : 0 ≡ min (suc c) 0 = omega arith in
      let d : 0 ≡ 0 - suc c = omega arith in
      λ k. repeat_before (e k) (f (Some i)) (elements_worth f (d k) is)
  repeated (suc c) (suc n) i is =
      let e : suc (min c n) ≡ min (suc c) (suc n) = omega arith in
      let d : n - c ≡ suc n - suc c = omega arith in
      ap (worth_before (f (Some i))) (repeated c n i is) ∙ (λ k. repeat_before (e k) (f (Some i)) (elements_worth f (d k) is))

  pub rest_of_elements : (n : ℕ) → elements_worth f n [] ≡ repeat_before n (f None) (Some no_worths)
  rest_of_elements zero = refl
  rest_of_elements (suc n) = ap (worth_before (f None)) (rest_of_elements n)

  all_elements : (n : ℕ) (ps : List (Part ℕ)) → elements_worth f n (parts_listed (parts ps)) ≡ parts_worth f n ps (elements_worth f (room_after n ps) [])
  all_elements n [] = refl
  all_elements n (One i ∷ ps) = repeated 1 n i (parts_listed (parts ps)) ∙ ap (repeat_before (min 1 n) (f (Some i))) (all_elements (n - 1) ps)
  all_elements n (Repeated l digits i ∷ ps) =
      repeated (number_of digits) n i (parts_listed (parts ps)) ∙ ap (repeat_before (min (number_of digits) n) (f (Some i))) (all_elements (n - number_of digits) ps)

  pub elements_are : (n : ℕ) (ps : List (Part ℕ)) → elements_worth f n (parts_listed (parts ps)) ≡ parts_worth f n ps (repeat_before (room_after n ps) (f None) (Some no_worths))
  elements_are n ps = all_elements n ps ∙ ap (parts_worth f n ps) (rest_of_elements (room_after n ps))

  pub last_part : (n : ℕ) (ps : List (Part ℕ)) (p : Part ℕ) (o : Option Worths)
      → parts_worth f n (ps ++ p ∷ []) o ≡ parts_worth f n ps (repeat_before (min (part_count p) (room_after n ps)) (f (Some (given_by p))) o)
  last_part n [] p o = refl
  last_part n (q ∷ ps) p o = ap (repeat_before (min (part_count q) n) (f (Some (given_by q)))) (last_part (n - part_count q) ps p o)

  pub no_part : (n : ℕ) (ps : List (Part ℕ)) → parts_worth f n ps None ≡ None
  no_part n [] = refl
  no_part n (q ∷ ps) = ap (repeat_before (min (part_count q) n) (f (Some (given_by q)))) (no_part (n - part_count q) ps) ∙ repeat_none (min (part_count q) n) (f (Some (given_by q)))

-- ---- rooms

pub room_there : (n : ℕ) (ps qs : List (Part ℕ)) → get_or (rooms n (ps ++ qs)) (length ps) 0 ≡ room_after n ps
room_there n [] [] = refl
room_there n [] (q ∷ qs) = refl
room_there n (p ∷ ps) qs = room_there (n - part_count p) ps qs
