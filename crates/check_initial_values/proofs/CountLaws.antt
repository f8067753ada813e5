-- How many values the parts of a list give, one part more.
use Rattle.std.proofs.Common.{◌≡◌, ℕ, suc, ◌+◌, ◌<◌, ◌≤◌, ℤ, Bool, List, Option, Some, None, ap, arith, subst, length, get_or, drop}
use Rattle.std.proofs.Math.Nat.{lt_of_not-le}
use Rattle.std.specs.Option.{SomeIff}
use Rattle.std.specs.Prelude.{Result, IfOk}
use Rattle.st_tree.specs.declared.initial.Part.{Part}
use Rattle.st_tree.specs.Initial.{part_of, parts_of}
use Rattle.st_rules.proofs.ListLaws.{drop-at, drop-end}
use Rattle.st_unit_rules.specs.Initials.{part_count, count_parts, is_below}
use Rattle.check_initial_values.specs.Private.Counts.{room_between}

module _ (ps : List (Part ℕ)) (count i : ℕ) where
  here : (p : Part ℕ) → i < length ps → p ≡ get_or ps i p → count_parts (parts_of (drop i ps)) ≡ part_count (part_of p) + count_parts (parts_of (drop (i + 1) ps))
  here p h e = ap (λ qs. count_parts (parts_of qs)) (drop-at ps i p h e)

  pub count_next : (p : Part ℕ) (more : ℕ) → i < length ps → p ≡ get_or ps i p → count + count_parts (parts_of (drop i ps)) ≡ count_parts (parts_of ps) → more ≡ count + part_count (part_of p)
      → more + count_parts (parts_of (drop (i + 1) ps)) ≡ count_parts (parts_of ps)
  count_next p more h e w m = let k = here p h e in omega (arith, k, w, m)

  pub count_too_large : (p : Part ℕ) (most : ℕ) → i < length ps → p ≡ get_or ps i p → count + count_parts (parts_of (drop i ps)) ≡ count_parts (parts_of ps) → (count + part_count (part_of p) < most → ⊥)
      → count_parts (parts_of ps) < most → ⊥
  count_too_large p most h e w large small = let k = here p h e in large (omega (arith, k, w, small))

  pub count_ended : length ps ≤ i → count + count_parts (parts_of (drop i ps)) ≡ count_parts (parts_of ps) → count ≡ count_parts (parts_of ps)
  count_ended h w = let k : count_parts (parts_of (drop i ps)) ≡ 0 = ap (λ qs. count_parts (parts_of qs)) (drop-end ps i h) in omega (arith, k, w)

-- a count that is not there is too large
pub past : (count : Option ℕ) (n most : ℕ) → count ≡ None → SomeIff count (n < most) n → most ≤ n
past None n most e h = let k : most < suc n = lt_of_not-le h in omega (arith, k)
past (Some x) n most e h = absurd (cc e)

-- the same bounds, with a cast
pub same_bounds : {E : Type 0} (r : Result Bool E) (low low' high high' : ℤ) (n : ℕ) → low' ≡ low → high' ≡ high → IfOk r (λ b. b ≡ is_below (room_between low' high') n) → IfOk r (λ b. b ≡ is_below (room_between low high) n)
same_bounds r low low' high high' n p q h =
    subst (λ (z : ℤ). IfOk r (λ b. b ≡ is_below (room_between low z) n)) q (subst (λ (z : ℤ). IfOk r (λ b. b ≡ is_below (room_between z high') n)) p h)
