-- Each part of a shape with few values is small, and each array in it has few elements, where no array is empty.
use Rattle.std.proofs.Common.{◌≡◌, ◌≤◌, ◌<◌, ℕ, zero, suc, ◌+◌, ◌*◌, arith}
use Rattle.std.specs.Prelude.{max}
use Rattle.st_values.specs.Shape.{Shape, Elementary, Enumeration, Reference, Interface, Array, Structure, Instance, Fields, no_fields, field_then}
use Rattle.mem_layout.specs.Layout.{IsSmall, EachIsSmall}
use Rattle.mem_layout.specs.loaded_meaning.Sized.{values_of, all_values_of, HasFewElements, HaveFewElements}
use Rattle.accepted_texts.proofs.sized_units.Sizes.{at_least_one, size_within}

abbrev mutual
  -- no array in it is empty
  pub NoEmptyArray : Shape → Type 0
  NoEmptyArray (Array low n sh) = (0 < n) × NoEmptyArray sh
  NoEmptyArray (Structure name fs) = NoEmptyArrays fs
  NoEmptyArray (Instance c name fs) = NoEmptyArrays fs
  NoEmptyArray _ = Unit {0}

  pub NoEmptyArrays : Fields → Type 0
  NoEmptyArrays no_fields = Unit {0}
  NoEmptyArrays (field_then v sh fs) = NoEmptyArray sh × NoEmptyArrays fs

one_of : (n a : ℕ) → 0 < n → a ≤ n * a
one_of zero a h = absurd (omega (arith, h))
one_of (suc n) a h = let e : suc n * a ≡ a + n * a = grind arith in omega (arith, e)

mutual
  pub part_small : (sh : Shape) → values_of sh ≤ 131072 → NoEmptyArray sh → IsSmall sh
  part_small (Elementary e) l h = tt
  part_small (Enumeration name values) l h = tt
  part_small (Reference c name) l h = tt
  part_small (Interface k name) l h = tt
  part_small (Array low n sh) l h =
      let a = size_within (Array low n sh) in
      let b = one_of n (values_of sh) h.0 in
      (omega (arith, a, l), part_small sh (omega (arith, b, l)) h.1)
  part_small (Structure name fs) l h =
      let a = size_within (Structure name fs) in
      let m = at_least_one (all_values_of fs) (all_values_of fs) (omega arith) in
      (omega (arith, a, l), parts_small fs (omega (arith, m, l)) h)
  part_small (Instance c name fs) l h = let a = size_within (Instance c name fs) in (omega (arith, a, l), parts_small fs (omega (arith, l)) h)

  parts_small : (fs : Fields) → all_values_of fs ≤ 131072 → NoEmptyArrays fs → EachIsSmall fs
  parts_small no_fields l h = tt
  parts_small (field_then v sh fs) l h = (part_small sh (omega (arith, l)) h.0, parts_small fs (omega (arith, l)) h.1)

-- ---- elements

all_of : (n v : ℕ) → 0 < v → n ≤ n * v
all_of zero v h = omega arith
all_of (suc n) v h =
    let k = all_of n v h in
    let e : suc n * v ≡ v + n * v = grind arith in
    omega (arith, e, h, k)

some_value : (sh : Shape) → NoEmptyArray sh → 0 < values_of sh
some_value (Elementary e) h = omega arith
some_value (Enumeration name values) h = omega arith
some_value (Reference c name) h = omega arith
some_value (Interface k name) h = omega arith
some_value (Array low n sh) h =
    let a = one_of n (values_of sh) h.0 in
    let b = some_value sh h.1 in
    omega (arith, a, b)
some_value (Structure name fs) h = by (all_values_of fs)
  where
    by : (n : ℕ) → 0 < max 1 n
    by zero = omega arith
    by (suc n) = omega arith
some_value (Instance c name fs) h = omega arith

mutual
  pub few_elements : (sh : Shape) → values_of sh ≤ 131072 → NoEmptyArray sh → HasFewElements sh
  few_elements (Elementary e) l h = tt
  few_elements (Enumeration name values) l h = tt
  few_elements (Reference c name) l h = tt
  few_elements (Interface k name) l h = tt
  few_elements (Array low n sh) l h =
      let a = one_of n (values_of sh) h.0 in
      let b = all_of n (values_of sh) (some_value sh h.1) in
      (omega (arith, b, l), few_elements sh (omega (arith, a, l)) h.1)
  few_elements (Structure name fs) l h = let m = at_least_one (all_values_of fs) (all_values_of fs) (omega arith) in fields_few fs (omega (arith, m, l)) h
  few_elements (Instance c name fs) l h = fields_few fs (omega (arith, l)) h

  fields_few : (fs : Fields) → all_values_of fs ≤ 131072 → NoEmptyArrays fs → HaveFewElements fs
  fields_few no_fields l h = tt
  fields_few (field_then v sh fs) l h = (few_elements sh (omega (arith, l)) h.0, fields_few fs (omega (arith, l)) h.1)
