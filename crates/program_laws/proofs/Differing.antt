-- Lists of names that differ: those of pairs, of regions and of fields.
use Rattle.std.proofs.Common.{◌≡◌, ℕ, Bool, true, false, List, [], ◌∷◌, ◌++◌, map, Option, Some, refl, sym, ap, ◌∙◌, subst}
use Rattle.std.specs.Prelude.{if◌then◌else◌, filter}
use Rattle.plc_text.specs.Words.{same}
use Rattle.st_types.specs.declared.st_type.StType.{StType}
use Rattle.st_rules.proofs.Booleans.{false≢true, some-same}
use Rattle.st_values.specs.Program.{Variable, Region}
use Rattle.st_values.specs.Shape.{Shape, Fields, field_then, fields_by}
use Rattle.st_values.specs.Value.{◌>>=◌}
use Rattle.st_values.proofs.ValueLaws.{then_some}
use Rattle.st_change.specs.From.{Pairs, pairs_by, region_pairs_by}
use Rattle.st_change.specs.Laws.{has_name, Once, has_region, DistinctRegions, has_field, Distinct, DistinctFields}
use Rattle.resolution_order.specs.told_laws.ToldLaws.{Every}
use Rattle.accepted_texts.proofs.unfolding_laws.ListLaws.{every_means}
use Rattle.initial_laws.proofs.Names.{not_turned, Differ, Unique}

-- ---- names that differ from all of a list

-- two lists differ from each other
pub turned : (as' bs : List (List ℕ)) → Every (λ a. Differ a bs) as' → Every (λ b. Differ b as') bs
turned as' [] h = tt
turned as' (b ∷ bs) h =
    (every_means (λ a. Differ a (b ∷ bs)) (λ a. same b a ≡ false) (λ a k. not_turned a b k.0) as' h, turned as' bs (every_means (λ a. Differ a (b ∷ bs)) (λ a. Differ a bs) (λ a k. k.1) as' h))

-- those that pass a narrower test
pub fewer_every : {X : Type 0} (P : List ℕ → Type 0) (f : X → List ℕ) (wide narrow : X → Bool) → ((x : X) → narrow x ≡ true → wide x ≡ true) → (xs : List X) → Every P (map f (filter wide xs)) → Every P (map f (filter narrow xs))
fewer_every P f wide narrow w [] h = tt
fewer_every P f wide narrow w (x ∷ xs) h = by (narrow x) (wide x) (w x) (fewer_every P f wide narrow w xs) h
  where
    by : (b c : Bool) → (b ≡ true → c ≡ true) → (Every P (map f (filter wide xs)) → Every P (map f (filter narrow xs)))
        → Every P (map f (if c then x ∷ filter wide xs else filter wide xs)) → Every P (map f (if b then x ∷ filter narrow xs else filter narrow xs))
    by true true i r k = (k.0, r k.1)
    by false true i r k = r k.1
    by false false i r k = r k
    by true false i r k = absurd (false≢true (i refl))

passing_differ : {X : Type 0} (n : List ℕ) (f : X → List ℕ) (test : X → Bool) (xs : List X) → Differ n (map f xs) → Differ n (map f (filter test xs))
passing_differ n f test [] h = tt
passing_differ n f test (x ∷ xs) h = by (test x) (passing_differ n f test xs h.1)
  where
    by : (b : Bool) → Differ n (map f (filter test xs)) → Differ n (map f (if b then x ∷ filter test xs else filter test xs))
    by true k = (h.0, k)
    by false k = k

pub passing_unique : {X : Type 0} (f : X → List ℕ) (test : X → Bool) (xs : List X) → Unique (map f xs) → Unique (map f (filter test xs))
passing_unique f test [] h = tt
passing_unique f test (x ∷ xs) h = by (test x) (passing_differ (f x) f test xs h.0) (passing_unique f test xs h.1)
  where
    by : (b : Bool) → Differ (f x) (map f (filter test xs)) → Unique (map f (filter test xs)) → Unique (map f (if b then x ∷ filter test xs else filter test xs))
    by true d k = (d, k)
    by false d k = k

-- ---- pairs

abbrev pub new_names : Pairs → List (List ℕ)
new_names [] = []
new_names (a ∷ ps) = a.0 ∷ new_names ps

none_named : (n : List ℕ) (ps : Pairs) → Differ n (new_names ps) → has_name ps n ≡ false
none_named n [] h = refl
none_named n (a ∷ ps) h = ap (λ b. if b then true else has_name ps n) (not_turned n a.0 h.0) ∙ none_named n ps h.1

pub once_each : (ps : Pairs) → Unique (new_names ps) → Once ps
once_each [] h = tt
once_each (a ∷ ps) h = (none_named a.0 ps h.0, once_each ps h.1)

abbrev pub variable_names : List Variable → List (List ℕ)
variable_names vs = map (λ (v : Variable). v.name) vs

pub pairs_named : (f : Variable → Option (List ℕ)) (vs : List Variable) → new_names (pairs_by f vs) ≡ variable_names vs
pairs_named f [] = refl
pairs_named f (v ∷ vs) = ap (λ ns. v.name ∷ ns) (pairs_named f vs)

pub new_append : (ps qs : Pairs) → new_names (ps ++ qs) ≡ new_names ps ++ new_names qs
new_append [] qs = refl
new_append (a ∷ ps) qs = ap (λ ns. a.0 ∷ ns) (new_append ps qs)

-- ---- regions

abbrev pub region_texts : List Region → List (List ℕ)
region_texts xs = map (λ (x : Region). x.variable.name) xs

none_region : (n : List ℕ) (xs : List Region) → Differ n (region_texts xs) → has_region xs n ≡ false
none_region n [] h = refl
none_region n (x ∷ xs) h = ap (λ b. if b then true else has_region xs n) (not_turned n x.variable.name h.0) ∙ none_region n xs h.1

pub regions_distinct : (xs : List Region) → Unique (region_texts xs) → DistinctRegions xs
regions_distinct [] h = tt
regions_distinct (x ∷ xs) h = (none_region x.variable.name xs h.0, regions_distinct xs h.1)

pub region_pairs_named : (f : Region → Option (List ℕ)) (xs : List Region) → new_names (region_pairs_by f xs) ≡ region_texts xs
region_pairs_named f [] = refl
region_pairs_named f (x ∷ xs) = ap (λ ns. x.variable.name ∷ ns) (region_pairs_named f xs)

-- ---- fields

module _ (f : StType → Option Shape) where
  none_field : (n : List ℕ) (vs : List Variable) (fs : Fields) → fields_by f vs ≡ Some fs → Differ n (variable_names vs) → has_field fs n ≡ false
  none_field n [] fs e h = ap (λ x. has_field x n) (sym (some-same e))
  none_field n (v ∷ vs) fs e h =
      let a = then_some (f v.kind) (λ sh. fields_by f vs >>= λ rest. Some (field_then v sh rest)) fs e in
      let b = then_some (fields_by f vs) (λ rest. Some (field_then v a.0 rest)) fs a.2 in
      subst (λ x. has_field x n ≡ false) (some-same b.2) (ap (λ c. if c then true else has_field b.0 n) (not_turned n v.name h.0) ∙ none_field n vs b.0 b.1 h.1)

  pub fields_distinct : ((t : StType) (sh : Shape) → f t ≡ Some sh → Distinct sh) → (vs : List Variable) (fs : Fields) → fields_by f vs ≡ Some fs → Unique (variable_names vs) → DistinctFields fs
  fields_distinct below [] fs e h = subst DistinctFields (some-same e) tt
  fields_distinct below (v ∷ vs) fs e h =
      let a = then_some (f v.kind) (λ sh. fields_by f vs >>= λ rest. Some (field_then v sh rest)) fs e in
      let b = then_some (fields_by f vs) (λ rest. Some (field_then v a.0 rest)) fs a.2 in
      subst DistinctFields (some-same b.2) (none_field v.name vs b.0 b.1 h.0, below v.kind a.0 a.1, fields_distinct below vs b.0 b.1 h.1)
