-- No name stands twice in the program of a good unit, and none is paired twice with those of another one.
use Rattle.std.proofs.Common.{◌≡◌, ℕ, zero, suc, List, [], ◌∷◌, ◌++◌, reverse, Option, Some, None, refl, sym, ap, ◌∙◌, subst}
use Rattle.std.specs.Prelude.{slice_get, if◌then◌else◌, Bool, true, false}
use Rattle.plc_text.specs.Words.{same}
use Rattle.st_types.specs.declared.st_type.StType.{StType, out-StType}
use Rattle.st_types.specs.declared.st_type.StType.TheOpen.{StType-F}
use Rattle.st_tree.specs.declared.program.Program.{Program as Checked}
use Rattle.st_tree.specs.declared.unit.Decl.{Decl}
use Rattle.st_rules.proofs.Booleans.{none≢some, some-same}
use Rattle.st_unit_rules.specs.Checked.{IsChecked}
use Rattle.st_unit_rules.specs.UnitRefusal.{BreaksNothing}
use Rattle.st_values.specs.Program.{TypeEntry, Class, Program, class_at, chain_of, own_of, own_variables, class_variables}
use Rattle.st_values.specs.Shape.{Shape, Elementary, Enumeration, Reference, Interface, Array, Structure, Instance, values_of, fields_of, fields_by, simple_shape, shape_by, shape_within, shape_of, extent}
use Rattle.st_values.specs.Value.{◌>>=◌}
use Rattle.st_values.specs.View.{program_of}
use Rattle.st_values.proofs.ShapeLaws.{mapped_some}
use Rattle.st_values.proofs.ValueLaws.{then_some}
use Rattle.st_change.specs.From.{pairs_by, from, same_name, old_class, own_pairs, chain_pairs, class_pairs, structure_named, structure_pairs, region_from, region_pairs, pairs_of}
use Rattle.st_change.specs.Laws.{Once, Distinct, NamesDiffer, Paired}
use Rattle.initial_laws.proofs.Names.{Unique}
use Rattle.program_laws.proofs.ClassNames.{classes_unique}
use Rattle.program_laws.proofs.Differing.{new_names, variable_names, pairs_named, new_append, once_each, region_texts, regions_distinct, region_pairs_named, fields_distinct}
use Rattle.program_laws.proofs.RegionNames.{regions_unique}
use Rattle.program_laws.proofs.Structures.{structure_unique}
use Rattle.std.proofs.lemmas.List.{map-append}
use Rattle.st_values.specs.Program.{Variable}

-- the fields of a type that may be no structure
abbrev pub or_none : Option (List Variable) → List Variable
or_none None = []
or_none (Some vs) = vs

-- the names in each declaration differ
pub record NamesOnce (p : Program) : Type 0 where
  pub structures : (n : ℕ) (x : TypeEntry) (vs : List Variable) → slice_get p.types n ≡ Some x → fields_of x.body ≡ Some vs → Unique (variable_names vs)
  pub classes : (c : ℕ) → Unique (variable_names (class_variables p c))
  pub regions : Unique (region_texts p.regions)

pub names_once : (decls : List (Decl ℕ)) (p : Checked) → BreaksNothing decls → IsChecked decls p → NamesOnce (program_of p)
names_once decls p good checked = record { structures = structure_unique decls good p checked; classes = classes_unique decls good p checked; regions = regions_unique decls good p checked }

module _ (p : Program) (once : NamesOnce p) where
  -- ---- shapes

  abbrev Below : (StType → Option Shape) → Type 0
  Below f = (t : StType) (sh : Shape) → f t ≡ Some sh → Distinct sh

  simple_distinct : (t : StType-F StType) (sh : Shape) → simple_shape p t ≡ Some sh → Distinct sh
  simple_distinct (StType-F.Elementary e) sh h = subst Distinct (some-same h) tt
  simple_distinct (StType-F.Enumeration n) sh h =
      let a = then_some (slice_get p.types n) (λ x. values_of x.body >>= λ values. Some (Enumeration x.name values)) sh h in
      let b = then_some (values_of a.0.body) (λ values. Some (Enumeration a.0.name values)) sh a.2 in
      subst Distinct (some-same b.2) tt
  simple_distinct (StType-F.Reference c) sh h = let a = mapped_some (λ (k : Class). Reference c k.name) (class_at p c) sh h in subst Distinct a.2 tt
  simple_distinct (StType-F.Interface i) sh h = let a = mapped_some (λ k. Interface i k.name) (slice_get p.interfaces i) sh h in subst Distinct a.2 tt
  simple_distinct (StType-F.Array low high of) sh h = absurd (none≢some h)
  simple_distinct (StType-F.Structure n) sh h = absurd (none≢some h)
  simple_distinct (StType-F.Instance c) sh h = absurd (none≢some h)

  shape_distinct : (f : StType → Option Shape) → Below f → (t : StType-F StType) (sh : Shape) → shape_by p f t ≡ Some sh → Distinct sh
  shape_distinct f below (StType-F.Array low high of) sh h = let a = mapped_some (Array low (extent low high)) (f of) sh h in subst Distinct a.2 (below of a.0 a.1)
  shape_distinct f below (StType-F.Structure n) sh h =
      let a = then_some (slice_get p.types n) (λ x. fields_of x.body >>= λ vs. fields_by f vs >>= λ fs. Some (Structure x.name fs)) sh h in
      let b = then_some (fields_of a.0.body) (λ vs. fields_by f vs >>= λ fs. Some (Structure a.0.name fs)) sh a.2 in
      let c = then_some (fields_by f b.0) (λ fs. Some (Structure a.0.name fs)) sh b.2 in
      subst Distinct (some-same c.2) (fields_distinct f below b.0 c.0 c.1 (once.structures n a.0 b.0 a.1 b.1))
  shape_distinct f below (StType-F.Instance c) sh h =
      let a = then_some (class_at p c) (λ x. fields_by f (class_variables p c) >>= λ fs. Some (Instance c x.name fs)) sh h in
      let b = then_some (fields_by f (class_variables p c)) (λ fs. Some (Instance c a.0.name fs)) sh a.2 in
      subst Distinct (some-same b.2) (fields_distinct f below (class_variables p c) b.0 b.1 (once.classes c))
  shape_distinct f below (StType-F.Elementary e) sh h = simple_distinct (StType-F.Elementary e) sh h
  shape_distinct f below (StType-F.Enumeration n) sh h = simple_distinct (StType-F.Enumeration n) sh h
  shape_distinct f below (StType-F.Reference c) sh h = simple_distinct (StType-F.Reference c) sh h
  shape_distinct f below (StType-F.Interface i) sh h = simple_distinct (StType-F.Interface i) sh h

  pub distinct_within : (n : ℕ) (t : StType) (sh : Shape) → shape_within p n t ≡ Some sh → Distinct sh
  distinct_within zero t sh h = simple_distinct (out-StType t) sh h
  distinct_within (suc n) t sh h = shape_distinct (shape_within p n) (distinct_within n) (out-StType t) sh h

  pub names_differ : NamesDiffer p
  names_differ = record {
    regions = regions_distinct p.regions once.regions;
    shapes = λ r sh h. let a = then_some (slice_get p.regions r) (λ x. shape_of p x.variable.kind) sh h in distinct_within 65 a.0.variable.kind sh a.2;
  }

  -- ---- pairs with the names of an old program

  module _ (old : Program) where
    pub chain_named : (cs : List ℕ) → new_names (chain_pairs old p cs) ≡ variable_names (own_variables p cs)
    chain_named [] = refl
    chain_named (c ∷ cs) =
        new_append (own_pairs old (class_at p c)) (chain_pairs old p cs)
        ∙ (ap (λ ns. ns ++ new_names (chain_pairs old p cs)) (own_named (class_at p c))
        ∙ (ap (λ ns. variable_names (own_of (class_at p c)) ++ ns) (chain_named cs) ∙ sym (map-append (λ (v : Variable). v.name) (own_of (class_at p c)) (own_variables p cs))))
      where
        own_named : (o : Option Class) → new_names (own_pairs old o) ≡ variable_names (own_of o)
        own_named None = refl
        own_named (Some k) = pairs_named (from k.own (own_of (old_class old k))) k.own

    class_once : (c : ℕ) → Once (class_pairs old p c)
    unfolding class_pairs class_variables
    class_once c = let cs = reverse (chain_of (class_at p c)) in once_each (chain_pairs old p cs) (subst Unique (sym (chain_named cs)) (once.classes c))

    -- a structure that is found by its name is one of the types
    named_unique : (ts : List TypeEntry) → ((n : ℕ) (x : TypeEntry) (vs : List Variable) → slice_get ts n ≡ Some x → fields_of x.body ≡ Some vs → Unique (variable_names vs)) → (name : List ℕ) → Unique (variable_names (structure_named ts name))
    named_unique [] h name = tt
    named_unique (t ∷ ts) h name = by (same t.name name) (first (fields_of t.body) refl) (named_unique ts (λ n x vs e f. h (suc n) x vs e f) name)
      where
        first : (o : Option (List Variable)) → fields_of t.body ≡ o → Unique (variable_names (or_none o))
        first None e = tt
        first (Some vs) e = h zero t vs refl e

        by : (b : Bool) → Unique (variable_names (or_none (fields_of t.body))) → Unique (variable_names (structure_named ts name)) → Unique (variable_names (if b then or_none (fields_of t.body) else structure_named ts name))
        by true k r = k
        by false k r = r

    structure_once : (name : List ℕ) → Once (structure_pairs old p name)
    unfolding structure_pairs
    structure_once name =
        let vs = structure_named p.types name in
        let f = same_name (structure_named old.types name) in
        once_each (pairs_by f vs) (subst Unique (sym (pairs_named f vs)) (named_unique p.types once.structures name))

    pairs_once : (sh : Shape) → Once (pairs_of old p sh)
    pairs_once (Elementary e) = tt
    pairs_once (Enumeration n vs) = tt
    pairs_once (Reference c n) = tt
    pairs_once (Interface i n) = tt
    pairs_once (Array low n sh) = tt
    pairs_once (Structure name fs) = structure_once name
    pairs_once (Instance c name fs) = class_once c

    regions_once : Once (region_pairs old p)
    unfolding region_pairs
    regions_once = let f = region_from p.regions old.regions in once_each _ (subst Unique (sym (region_pairs_named f p.regions)) once.regions)

pub paired : (old new : Program) → NamesOnce old → NamesOnce new → Paired old new
paired old new before after = record { old_differ = names_differ old before; new_differ = names_differ new after; once = pairs_once new after old; regions_once = regions_once new after old }
