-- What sizes tell when they are put together.
use Rattle.std.proofs.Common.{◌≡◌, ℕ, zero, suc, ◌+◌, ◌*◌, ◌<◌, ◌≤◌, ℤ, Bool, true, false, List, [], ◌∷◌, ◌++◌, Option, Some, None, map, refl, sym, ap, ◌∙◌, subst, arith, append-nil}
use Rattle.std.specs.Prelude.{nat_lt, max, if◌then◌else◌, ◌||◌, ◌&&◌, ◌-ℤ◌}
use Rattle.std.specs.List.{list_any}
use Rattle.std.proofs.lemmas.Bool.{le-ltb}
use Rattle.std.proofs.lemmas.List.{map-append}
use Rattle.std.proofs.lemmas.List.Folds.{list_any-append}
use Rattle.st_types.specs.declared.st_type.StType.{StType, out-StType}
use Rattle.st_types.specs.declared.st_type.StType.TheVariants as type
use Rattle.st_types.specs.declared.st_type.StType.TheOpen.{StType-F}
use Rattle.st_rules.specs.Scope.{Scope}
use Rattle.st_unit_rules.specs.Worth.{count_to}
use Rattle.st_unit_rules.specs.Limits.{contents, has_depth, is_composite, kinds_told, level_values, sum_of, has_many_dimensions, values_of, values_within}
use Rattle.check_limits.specs.declared.type_sizes.size.Size.{Size}
use Rattle.check_limits.specs.type_sizes.Size.{capped, nothing, simple, both, structure, instance, array}
use Rattle.check_limits.specs.type_sizes.Levels.{values_in, Tells, IsSize}
use Rattle.check_limits.proofs.type_sizes.NumberLaws.{capped_sum, capped_one, capped_some, capped_product, below_max, below_next, first_below}

module _ (s : Scope) (r : ℕ) where
  -- ---- things side by side

  pub nothing_tells : Tells s r nothing []
  nothing_tells = record { values-are = refl; steps-are = λ n l m. sym (le-ltb n 0 (omega arith)) }

  sum_append : (ms ns : List ℕ) → sum_of s (ms ++ ns) ≡ sum_of s ms + sum_of s ns
  sum_append [] ns = let e : sum_of s ns ≡ 0 + sum_of s ns = omega arith in e
  sum_append (m ∷ ms) ns = let e : m + (sum_of s ms + sum_of s ns) ≡ m + sum_of s ms + sum_of s ns = omega arith in ap (λ n. m + n) (sum_append ms ns) ∙ e

  pub values_append : (ts us : List StType) → values_in s r (ts ++ us) ≡ values_in s r ts + values_in s r us
  values_append ts us = ap (sum_of s) (map-append (values_within s r) ts us) ∙ sum_append (map (values_within s r) ts) (map (values_within s r) us)

  pub both_tell : (a b : Size) (ts us : List StType) → Tells s r a ts → Tells s r b us → Tells s r (both a b) (ts ++ us)
  both_tell a b ts us h k = record {
    values-are =
        ap (λ n. capped (n + b.values)) h.values-are ∙ ap (λ n. capped (capped (values_in s r ts) + n)) k.values-are
        ∙ capped_sum (values_in s r ts) (values_in s r us) ∙ ap capped (sym (values_append ts us));
    steps-are = λ n l m.
        list_any-append (has_depth s n) ts us ∙ ap (λ t. t || list_any (has_depth s n) us) (h.steps-are n l m) ∙ ap (λ t. nat_lt n a.steps || t) (k.steps-are n l m)
        ∙ below_max n a.steps b.steps;
  }

  or_false : (b : Bool) → (b || false) ≡ b
  or_false true = refl
  or_false false = refl

  one_value : (t : StType) → values_in s r (t ∷ []) ≡ values_within s r t
  one_value t = let e : values_within s r t + 0 ≡ values_within s r t = omega arith in e

  pub one_tells : (a : Size) (t : StType) → IsSize s r a t → Tells s r a (t ∷ [])
  one_tells a t h = record {
    values-are = h.values-are ∙ ap capped (sym (one_value t));
    steps-are = λ n l m. or_false (has_depth s n t) ∙ h.steps-are n l m;
  }

  -- ---- one step deeper

  module _ (a : Size) (t : StType) (o : StType-F StType) (e : out-StType t ≡ o) (c : is_composite s o ≡ true) (h : Tells s r a (contents s o)) where
    abbrev steps : ℕ
    steps = capped (a.steps + 1)

    depth_next : (n : ℕ) → has_depth s (suc n) t ≡ list_any (has_depth s n) (contents s o)
    depth_next n = ap (λ p. is_composite s p && list_any (has_depth s n) (contents s p)) e ∙ ap (λ b. b && list_any (has_depth s n) (contents s o)) c

    pub deeper_steps : (n : ℕ) → n < suc r → n ≤ 66 → has_depth s n t ≡ nat_lt n steps
    deeper_steps zero l m = ap (is_composite s) e ∙ c ∙ first_below a.steps
    deeper_steps (suc n) l m = depth_next n ∙ h.steps-are n (omega arith) (omega arith) ∙ below_next n a.steps (omega arith)

    pub deeper_size : (values : ℕ) → values ≡ capped (level_values s (values_within s r) o) → IsSize s (suc r) (record { values = values; steps = steps }) t
    deeper_size values v = record { values-are = v ∙ ap (λ p. capped (level_values s (values_within s r) p)) (sym e); steps-are = deeper_steps }

  pub structure_size : (a : Size) (k : ℕ) → Tells s r a (contents s (StType-F.Structure k)) → IsSize s (suc r) (structure a) (type.Structure k)
  structure_size a k h =
      deeper_size a (type.Structure k) (StType-F.Structure k) (type.outs-Structure k) refl h (max a.values 1)
      (ap (λ n. max n 1) h.values-are ∙ capped_some (values_in s r (contents s (StType-F.Structure k))))

  pub instance_size : (a : Size) (c : ℕ) → Tells s r a (contents s (StType-F.Instance c)) → IsSize s (suc r) (instance a) (type.Instance c)
  instance_size a c h =
      deeper_size a (type.Instance c) (StType-F.Instance c) (type.outs-Instance c) refl h (capped (a.values + 1))
      (ap (λ n. capped (n + 1)) h.values-are ∙ capped_one (values_in s r (contents s (StType-F.Instance c))))

  pub array_size : (a : Size) (t : StType) (low high : ℤ) (of : StType) → t ≡ type.Array low high of → IsSize s r a of → IsSize s (suc r) (array low high a) t
  array_size a t low high of q h =
      deeper_size a t (StType-F.Array low high of) (ap out-StType q ∙ type.outs-Array low high of) refl (one_tells a of h) (capped (capped (count_to (high -ℤ low)) * a.values))
      (ap (λ n. capped (capped (count_to (high -ℤ low)) * n)) h.values-are ∙ capped_product (count_to (high -ℤ low)) (values_within s r of))

  -- ---- what has no parts

  abbrev pub IsSimple : StType-F StType → Type 0
  IsSimple (StType-F.Array low high of) = ⊥
  IsSimple (StType-F.Structure n) = ⊥
  IsSimple (StType-F.Instance c) = ⊥
  IsSimple _ = Unit {0}

  no_steps : (o : StType-F StType) → IsSimple o → is_composite s o ≡ false
  no_steps (StType-F.Elementary e) i = refl
  no_steps (StType-F.Enumeration n) i = refl
  no_steps (StType-F.Structure n) i = absurd i
  no_steps (StType-F.Array low high of) i = absurd i
  no_steps (StType-F.Instance c) i = absurd i
  no_steps (StType-F.Reference c) i = refl
  no_steps (StType-F.Interface n) i = refl

  one_level : (f : StType → ℕ) (o : StType-F StType) → IsSimple o → level_values s f o ≡ 1
  one_level f (StType-F.Elementary e) i = refl
  one_level f (StType-F.Enumeration n) i = refl
  one_level f (StType-F.Structure n) i = absurd i
  one_level f (StType-F.Array low high of) i = absurd i
  one_level f (StType-F.Instance c) i = absurd i
  one_level f (StType-F.Reference c) i = refl
  one_level f (StType-F.Interface n) i = refl

  not_deep : (t : StType) (o : StType-F StType) → out-StType t ≡ o → IsSimple o → (n : ℕ) → has_depth s n t ≡ false
  not_deep t o e i zero = ap (is_composite s) e ∙ no_steps o i
  not_deep t o e i (suc n) = ap (λ b. b && list_any (has_depth s n) (contents s (out-StType t))) (ap (is_composite s) e ∙ no_steps o i)

  pub simple_size : (t : StType) (o : StType-F StType) → out-StType t ≡ o → IsSimple o → IsSize s (suc r) simple t
  simple_size t o e i = record {
    values-are = ap capped (sym (ap (level_values s (values_within s r)) e ∙ one_level (values_within s r) o i));
    steps-are = λ n l m. not_deep t o e i n ∙ sym (le-ltb n 0 (omega arith));
  }

pub zero_size : (s : Scope) (t : StType) → IsSize s 0 nothing t
zero_size s t = record { values-are = refl; steps-are = λ n l m. absurd (omega arith) }

-- of a type that is not too deep and has not too many dimensions
pub values_counted : (s : Scope) (a : Size) (t : StType) (many : Bool) (n : ℕ) → many ≡ has_many_dimensions (Some t) → n ≡ (if many || nat_lt 65 a.steps then 0 else a.values) → IsSize s 66 a t
    → n ≡ capped (values_of s (Some t))
unfolding values_of
values_counted s a t many n d e h =
    e
    ∙ ap (λ (b : Bool). if b || nat_lt 65 a.steps then 0 else a.values) d
    ∙ ap (λ (b : Bool). if has_many_dimensions (Some t) || b then 0 else a.values) (sym (h.steps-are 65 (omega arith) (omega arith)))
    ∙ at (has_many_dimensions (Some t) || has_depth s 65 t)
  where
    at : (b : Bool) → (if b then 0 else a.values) ≡ capped (if b then 0 else values_within s 66 t)
    at true = refl
    at false = h.values-are

-- ---- lists of things that may not be told

module _ (s : Scope) where
  pub told_append : (xs ys : List (Option StType)) → kinds_told s (xs ++ ys) ≡ kinds_told s xs ++ kinds_told s ys
  told_append [] ys = refl
  told_append (None ∷ xs) ys = told_append xs ys
  told_append (Some t ∷ xs) ys = ap (λ ts. t ∷ ts) (told_append xs ys)

  pub with_told : (r : ℕ) (a b : Size) (t : StType) (ts : List StType) → Tells s r a ts → IsSize s r b t → Tells s r (both a b) (ts ++ kinds_told s (Some t ∷ []))
  with_told r a b t ts h k = both_tell s r a b ts (t ∷ []) h (one_tells s r b t k)

  pub with_untold : (r : ℕ) (a : Size) (ts : List StType) → Tells s r a ts → Tells s r a (ts ++ kinds_told s (None ∷ []))
  with_untold r a ts h = subst (λ (us : List StType). Tells s r a us) (sym (append-nil ts)) h
