-- In a program of which nothing is marked each name comes from itself.
use Rattle.std.proofs.Common.{◌≡◌, ℕ, zero, suc, Bool, true, false, List, [], ◌∷◌, ◌++◌, map, reverse, Option, Some, None, is_some, refl, sym, ap, ◌∙◌, subst, inl, inr}
use Rattle.std.specs.Prelude.{if◌then◌else◌, not, ◌&&◌, slice_get}
use Rattle.plc_text.specs.Words.{same}
use Rattle.st_types.specs.declared.st_type.StType.{StType, out-StType}
use Rattle.st_types.specs.declared.st_type.StType.TheOpen.{StType-F}
use Rattle.st_tree.specs.declared.marks.Marks.{Marks}
use Rattle.st_tree.specs.Reads.{no_marks}
use Rattle.st_rules.proofs.Booleans.{none≢some, some-same}
use Rattle.st_values.specs.Program.{Variable, TypeEntry, Class, Region, Program, class_at, class_number, chain_of, own_of, own_variables, class_variables}
use Rattle.st_values.specs.Shape.{Shape, Enumeration, Reference, Interface, Array, Structure, Instance, Fields, field_then, values_of, fields_of, fields_by, simple_shape, shape_by, shape_within, shape_of, region_shape, extent}
use Rattle.st_values.specs.Value.{◌>>=◌}
use Rattle.st_values.proofs.ShapeLaws.{mapped_some}
use Rattle.st_values.proofs.ValueLaws.{then_some}
use Rattle.st_meaning.specs.st_frame.Footprint.{Has}
use Rattle.st_meaning.specs.st_frame.Promise.Declarations.{Each}
use Rattle.st_change.specs.CarryLaws.{Settled, FieldsSettled}
use Rattle.st_change.specs.From.{Pairs, declares, is_name, marked, from_mark, from, pairs_by, is_program, same_flag, of_sort, old_class, own_pairs, chain_pairs, class_pairs, structure_named, structure_pairs, same_name, globals_in, instances_in, region_from, region_pairs_by, region_pairs, comes_from, unless_later, old_name, region_name}
use Rattle.st_change.specs.SameLaws.{AreUnmarked, IsUnmarked}
use Rattle.resolution_order.specs.told_laws.ToldLaws.{Every}
use Rattle.accepted_texts.proofs.sized_units.Outputs.{every_has}
use Rattle.accepted_texts.proofs.unfolding_laws.ListLaws.{every_at, every_means, there_below}
use Rattle.initial_laws.proofs.Members.{all_has, mapped_has}
use Rattle.initial_laws.proofs.Names.{same_self, not_turned, Differ, Unique}
use Rattle.program_laws.specs.Paths.{IsPlain, HasNoMarks}
use Rattle.program_laws.proofs.Apart.{NamesOnce, names_differ, chain_named, or_none}
use Rattle.program_laws.proofs.Differing.{new_names, variable_names, pairs_named, region_texts, region_pairs_named}

-- ---- pairs in which each name comes from itself

abbrev AreOwn : Pairs → Type 0
AreOwn [] = Unit {0}
AreOwn (a ∷ ps) = (a.1 ≡ Some a.0) × AreOwn ps

own_append : (ps qs : Pairs) → AreOwn ps → AreOwn qs → AreOwn (ps ++ qs)
own_append [] qs h k = k
own_append (a ∷ ps) qs h k = (h.0, own_append ps qs h.1 k)

none_from : (n : List ℕ) (ps : Pairs) → AreOwn ps → Differ n (new_names ps) → comes_from ps n ≡ false
none_from n [] o d = refl
none_from n (a ∷ ps) o d =
    ap (λ x. if is_name x n then true else comes_from ps n) o.0
    ∙ (ap (λ b. if b then true else comes_from ps n) (not_turned n a.0 d.0) ∙ none_from n ps o.1 d.1)

-- so it is found as its own old name
itself : (ps : Pairs) (n : List ℕ) → AreOwn ps → Unique (new_names ps) → Has (new_names ps) n → old_name ps n ≡ Some n
itself [] n o u h = absurd h
itself (a ∷ ps) n o u (inl e) =
    ap (λ b. if b then unless_later ps a.1 else old_name ps n) (same_self a.0 n (sym e))
    ∙ (ap (unless_later ps) o.0 ∙ (ap (λ b. if b then None else Some a.0) (none_from a.0 ps o.1 u.0) ∙ ap Some (sym e)))
itself (a ∷ ps) n o u (inr h) =
    ap (λ b. if b then unless_later ps a.1 else old_name ps n) (every_has (λ m. same a.0 m ≡ false) (new_names ps) n u.0 h) ∙ itself ps n o.1 u.1 h

pairs_own : (f : Variable → Option (List ℕ)) (vs : List Variable) → Every (λ v. f v ≡ Some v.name) vs → AreOwn (pairs_by f vs)
pairs_own f [] h = tt
pairs_own f (v ∷ vs) h = (h.0, pairs_own f vs h.1)

-- ---- variables of one declaration

declares_it : (vs : List Variable) (v : Variable) → Has vs v → declares vs v.name ≡ true
declares_it [] v h = absurd h
declares_it (w ∷ vs) v (inl e) = ap (λ b. if b then true else declares vs v.name) (same_self w.name v.name (ap (λ (x : Variable). x.name) (sym e)))
declares_it (w ∷ vs) v (inr h) = by (same w.name v.name) (declares_it vs v h)
  where
    by : (b : Bool) → declares vs v.name ≡ true → (if b then true else declares vs v.name) ≡ true
    by true k = refl
    by false k = k

none_marked : (vs : List Variable) (n : List ℕ) → Each IsPlain vs → marked vs n ≡ None
none_marked [] n h = refl
none_marked (v ∷ vs) n h = ap (λ o. if is_name o n then Some v.name else marked vs n) h.0.0 ∙ none_marked vs n h.1

plain_has : (vs : List Variable) (v : Variable) → Each IsPlain vs → Has vs v → IsPlain v
plain_has [] v h k = absurd k
plain_has (w ∷ vs) v h (inl e) = subst IsPlain (sym e) h.0
plain_has (w ∷ vs) v h (inr k) = plain_has vs v h.1 k

from_itself : (vs : List Variable) (v : Variable) → Each IsPlain vs → Has vs v → from vs vs v ≡ Some v.name
from_itself vs v h k =
    ap (from_mark vs vs v) (plain_has vs v h k).0
    ∙ (ap (λ o. if declares vs v.name && not (is_some o) then Some v.name else None) (none_marked vs v.name h)
    ∙ ap (λ b. if b && true then Some v.name else None) (declares_it vs v k))

same_itself : (vs : List Variable) (v : Variable) → Has vs v → same_name vs v ≡ Some v.name
same_itself vs v k = ap (λ b. if b then Some v.name else None) (declares_it vs v k)

plain_append : (vs ws : List Variable) → Each IsPlain vs → Each IsPlain ws → Each IsPlain (vs ++ ws)
plain_append [] ws h k = k
plain_append (v ∷ vs) ws h k = (h.0, plain_append vs ws h.1 k)

-- ---- what is promised beside names and marks

pub record Known (p : Program) : Type 0 where
  pub once : NamesOnce p
  pub numbered : (c : ℕ) (k : Class) → class_at p c ≡ Some k → class_number p k.name ≡ Some c
  pub types : Unique (map (λ (t : TypeEntry). t.name) p.types)
  pub fields : (n : ℕ) (x : TypeEntry) (vs : List Variable) → slice_get p.types n ≡ Some x → fields_of x.body ≡ Some vs → Every (λ (v : Variable). v.marks ≡ no_marks) vs
  pub shapes : (r : ℕ) (x : Region) → slice_get p.regions r ≡ Some x → (sh : Shape) × (region_shape p r ≡ Some sh)

module _ (p : Program) (known : Known p) (plain : HasNoMarks p) where
  -- ---- classes

  one_sort : (b : Bool) → same_flag b b ≡ true
  one_sort true = refl
  one_sort false = refl

  old_itself : (c : ℕ) (k : Class) → class_at p c ≡ Some k → old_class p k ≡ Some k
  old_itself c k e =
      ap (λ o. of_sort k.sort (o >>= λ d. class_at p d)) (known.numbered c k e)
      ∙ (ap (of_sort k.sort) e ∙ ap (λ b. if b then Some k else None) (one_sort (is_program k.sort)))

  class_own : (c : ℕ) (o : Option Class) → class_at p c ≡ o → AreOwn (own_pairs p o)
  class_own c None e = tt
  class_own c (Some k) e =
      let old = ap own_of (old_itself c k e) in
      pairs_own (from k.own (own_of (old_class p k))) k.own
      (every_means (Has k.own) (λ v. from k.own (own_of (old_class p k)) v ≡ Some v.name)
      (λ v h. ap (λ ws. from k.own ws v) old ∙ from_itself k.own v (plain.classes c k e) h) k.own (all_has k.own))

  chain_own : (cs : List ℕ) → AreOwn (chain_pairs p p cs)
  chain_own [] = tt
  chain_own (c ∷ cs) = own_append (own_pairs p (class_at p c)) (chain_pairs p p cs) (class_own c (class_at p c) refl) (chain_own cs)

  own_plain : (c : ℕ) (o : Option Class) → class_at p c ≡ o → Each IsPlain (own_of o)
  own_plain c None e = tt
  own_plain c (Some k) e = plain.classes c k e

  chain_plain : (cs : List ℕ) → Each IsPlain (own_variables p cs)
  chain_plain [] = tt
  chain_plain (c ∷ cs) = plain_append (own_of (class_at p c)) (own_variables p cs) (own_plain c (class_at p c) refl) (chain_plain cs)

  -- a field that comes from itself, and is not marked
  abbrev Stays : Pairs → Variable → Type 0
  Stays ps v = (old_name ps v.name ≡ Some v.name) × (v.marks.init_on_change ≡ false) × (v.marks.no_copy ≡ false)

  stays : (ps : Pairs) (vs : List Variable) → AreOwn ps → Unique (variable_names vs) → new_names ps ≡ variable_names vs → Each IsPlain vs → Every (Stays ps) vs
  stays ps vs o u q h =
      every_means (Has vs) (Stays ps)
      (λ v k.
      let f = plain_has vs v h k in
      (itself ps v.name o (subst Unique (sym q) u) (subst (λ ns. Has ns v.name) (sym q) (mapped_has (λ (x : Variable). x.name) vs v k)), f.1, f.2)) vs (all_has vs)

  class_stays : (c : ℕ) → Every (Stays (class_pairs p p c)) (class_variables p c)
  unfolding class_pairs class_variables
  class_stays c =
      let cs = reverse (chain_of (class_at p c)) in
      stays (chain_pairs p p cs) (own_variables p cs) (chain_own cs) (known.once.classes c) (chain_named p known.once p cs) (chain_plain cs)

  -- ---- structures

  named_there : (ts : List TypeEntry) (n : ℕ) (x : TypeEntry) (vs : List Variable) → Unique (map (λ (t : TypeEntry). t.name) ts) → slice_get ts n ≡ Some x → fields_of x.body ≡ Some vs → structure_named ts x.name ≡ vs
  named_there [] n x vs u e f = absurd (none≢some e)
  named_there (t ∷ ts) zero x vs u e f =
      let q = some-same e in
      ap (λ b. if b then or_none (fields_of t.body) else structure_named ts x.name) (same_self t.name x.name (ap (λ (y : TypeEntry). y.name) q))
      ∙ (ap (λ (y : TypeEntry). or_none (fields_of y.body)) q ∙ ap or_none f)
  named_there (t ∷ ts) (suc n) x vs u e f =
      ap (λ b. if b then or_none (fields_of t.body) else structure_named ts x.name)
      (every_at (λ m. same t.name m ≡ false) (map (λ (y : TypeEntry). y.name) ts) n x.name u.0 (slice_get_map ts n e))
      ∙ named_there ts n x vs u.1 e f
    where
      slice_get_map : (ys : List TypeEntry) (i : ℕ) → slice_get ys i ≡ Some x → slice_get (map (λ (y : TypeEntry). y.name) ys) i ≡ Some x.name
      slice_get_map [] i q = absurd (none≢some q)
      slice_get_map (y ∷ ys) zero q = ap (λ (z : TypeEntry). Some z.name) (some-same q)
      slice_get_map (y ∷ ys) (suc i) q = slice_get_map ys i q

  no_marks_plain : (vs : List Variable) → Every (λ (v : Variable). v.marks ≡ no_marks) vs → Each IsPlain vs
  no_marks_plain [] h = tt
  no_marks_plain (v ∷ vs) h = ((ap (λ (m : Marks). m.renamed_from) h.0, ap (λ (m : Marks). m.init_on_change) h.0, ap (λ (m : Marks). m.no_copy) h.0), no_marks_plain vs h.1)

  structure_stays : (n : ℕ) (x : TypeEntry) (vs : List Variable) → slice_get p.types n ≡ Some x → fields_of x.body ≡ Some vs → Every (Stays (structure_pairs p p x.name)) vs
  unfolding structure_pairs
  structure_stays n x vs e f =
      let q = named_there p.types n x vs known.types e f in
      let ps = pairs_by (same_name vs) vs in
      let own = pairs_own (same_name vs) vs (every_means (Has vs) (λ v. same_name vs v ≡ Some v.name) (λ v h. same_itself vs v h) vs (all_has vs)) in
      subst (λ us. Every (Stays (pairs_by (same_name us) us)) vs) (sym q)
      (stays ps vs own (known.once.structures n x vs e f) (pairs_named (same_name vs) vs) (no_marks_plain vs (known.fields n x vs e f)))

  -- ---- shapes

  abbrev Below : (StType → Option Shape) → Type 0
  Below f = (t : StType) (sh : Shape) → f t ≡ Some sh → Settled p sh

  fields_settled : (f : StType → Option Shape) → Below f → (ps : Pairs) (vs : List Variable) → Every (Stays ps) vs → (fs : Fields) → fields_by f vs ≡ Some fs → FieldsSettled p ps fs
  fields_settled f below ps [] h fs e = subst (FieldsSettled p ps) (some-same e) tt
  fields_settled f below ps (v ∷ vs) h fs e =
      let a = then_some (f v.kind) (λ sh. fields_by f vs >>= λ rest. Some (field_then v sh rest)) fs e in
      let b = then_some (fields_by f vs) (λ rest. Some (field_then v a.0 rest)) fs a.2 in
      subst (FieldsSettled p ps) (some-same b.2) (h.0.0, h.0.1, h.0.2, below v.kind a.0 a.1, fields_settled f below ps vs h.1 b.0 b.1)

  simple_settled : (t : StType-F StType) (sh : Shape) → simple_shape p t ≡ Some sh → Settled p sh
  simple_settled (StType-F.Elementary e) sh h = subst (Settled p) (some-same h) tt
  simple_settled (StType-F.Enumeration n) sh h =
      let a = then_some (slice_get p.types n) (λ x. values_of x.body >>= λ values. Some (Enumeration x.name values)) sh h in
      let b = then_some (values_of a.0.body) (λ values. Some (Enumeration a.0.name values)) sh a.2 in
      subst (Settled p) (some-same b.2) tt
  simple_settled (StType-F.Reference c) sh h = let a = mapped_some (λ (k : Class). Reference c k.name) (class_at p c) sh h in subst (Settled p) a.2 tt
  simple_settled (StType-F.Interface i) sh h = let a = mapped_some (λ k. Interface i k.name) (slice_get p.interfaces i) sh h in subst (Settled p) a.2 tt
  simple_settled (StType-F.Array low high of) sh h = absurd (none≢some h)
  simple_settled (StType-F.Structure n) sh h = absurd (none≢some h)
  simple_settled (StType-F.Instance c) sh h = absurd (none≢some h)

  shape_settled : (f : StType → Option Shape) → Below f → (t : StType-F StType) (sh : Shape) → shape_by p f t ≡ Some sh → Settled p sh
  shape_settled f below (StType-F.Array low high of) sh h = let a = mapped_some (Array low (extent low high)) (f of) sh h in subst (Settled p) a.2 (below of a.0 a.1)
  shape_settled f below (StType-F.Structure n) sh h =
      let a = then_some (slice_get p.types n) (λ x. fields_of x.body >>= λ vs. fields_by f vs >>= λ fs. Some (Structure x.name fs)) sh h in
      let b = then_some (fields_of a.0.body) (λ vs. fields_by f vs >>= λ fs. Some (Structure a.0.name fs)) sh a.2 in
      let c = then_some (fields_by f b.0) (λ fs. Some (Structure a.0.name fs)) sh b.2 in
      subst (Settled p) (some-same c.2) (fields_settled f below (structure_pairs p p a.0.name) b.0 (structure_stays n a.0 b.0 a.1 b.1) c.0 c.1)
  shape_settled f below (StType-F.Instance c) sh h =
      let a = then_some (class_at p c) (λ x. fields_by f (class_variables p c) >>= λ fs. Some (Instance c x.name fs)) sh h in
      let b = then_some (fields_by f (class_variables p c)) (λ fs. Some (Instance c a.0.name fs)) sh a.2 in
      subst (Settled p) (some-same b.2) (fields_settled f below (class_pairs p p c) (class_variables p c) (class_stays c) b.0 b.1)
  shape_settled f below (StType-F.Elementary e) sh h = simple_settled (StType-F.Elementary e) sh h
  shape_settled f below (StType-F.Enumeration n) sh h = simple_settled (StType-F.Enumeration n) sh h
  shape_settled f below (StType-F.Reference c) sh h = simple_settled (StType-F.Reference c) sh h
  shape_settled f below (StType-F.Interface i) sh h = simple_settled (StType-F.Interface i) sh h

  settled_within : (n : ℕ) (t : StType) (sh : Shape) → shape_within p n t ≡ Some sh → Settled p sh
  settled_within zero t sh h = simple_settled (out-StType t) sh h
  settled_within (suc n) t sh h = shape_settled (shape_within p n) (settled_within n) (out-StType t) sh h

  -- ---- regions

  abbrev PlainRegion : Region → Type 0
  PlainRegion x = IsPlain x.variable

  globals_plain : (xs : List Region) → Each PlainRegion xs → Each IsPlain (globals_in xs)
  globals_plain [] h = tt
  globals_plain (x ∷ xs) h = by x.program (globals_plain xs h.1)
    where
      by : (b : Bool) → Each IsPlain (globals_in xs) → Each IsPlain (if b then globals_in xs else x.variable ∷ globals_in xs)
      by true k = k
      by false k = (h.0, k)

  global_there : (xs : List Region) (x : Region) → Has xs x → x.program ≡ false → Has (globals_in xs) x.variable
  global_there [] x h e = absurd h
  global_there (y ∷ xs) x (inl q) e = subst (λ b. Has (if b then globals_in xs else y.variable ∷ globals_in xs) x.variable) (sym (ap (λ (z : Region). z.program) (sym q) ∙ e)) (inl (ap (λ (z : Region). z.variable) q))
  global_there (y ∷ xs) x (inr h) e = by y.program (global_there xs x h e)
    where
      by : (b : Bool) → Has (globals_in xs) x.variable → Has (if b then globals_in xs else y.variable ∷ globals_in xs) x.variable
      by true k = k
      by false k = inr k

  instance_there : (xs : List Region) (x : Region) → Has xs x → x.program ≡ true → Has (instances_in xs) x.variable
  instance_there [] x h e = absurd h
  instance_there (y ∷ xs) x (inl q) e = subst (λ b. Has (if b then y.variable ∷ instances_in xs else instances_in xs) x.variable) (sym (ap (λ (z : Region). z.program) (sym q) ∙ e)) (inl (ap (λ (z : Region). z.variable) q))
  instance_there (y ∷ xs) x (inr h) e = by y.program (instance_there xs x h e)
    where
      by : (b : Bool) → Has (instances_in xs) x.variable → Has (if b then y.variable ∷ instances_in xs else instances_in xs) x.variable
      by true k = inr k
      by false k = k

  region_itself : (x : Region) → Has p.regions x → region_from p.regions p.regions x ≡ Some x.variable.name
  region_itself x h = by x.program refl
    where
      by : (b : Bool) → x.program ≡ b → (if b then same_name (instances_in p.regions) x.variable else from (globals_in p.regions) (globals_in p.regions) x.variable) ≡ Some x.variable.name
      by true e = same_itself (instances_in p.regions) x.variable (instance_there p.regions x h e)
      by false e = from_itself (globals_in p.regions) x.variable (globals_plain p.regions plain.regions) (global_there p.regions x h e)

  regions_own : (xs : List Region) → Every (Has p.regions) xs → AreOwn (region_pairs_by (region_from p.regions p.regions) xs)
  regions_own [] h = tt
  regions_own (x ∷ xs) h = (region_itself x h.0, regions_own xs h.1)

  region_settles : (r : ℕ) (name : List ℕ) → region_name p r ≡ Some name → old_name (region_pairs p p) name ≡ Some name
  unfolding region_pairs
  region_settles r name e =
      let x = mapped_some (λ (y : Region). y.variable.name) (slice_get p.regions r) name e in
      let f = region_from p.regions p.regions in
      let q = region_pairs_named f p.regions in
      let there = every_at (λ (y : Region). Has (region_texts p.regions) y.variable.name) p.regions r x.0 (every_means (Has p.regions) (λ (y : Region). Has (region_texts p.regions) y.variable.name) (λ y k. mapped_has (λ (z : Region). z.variable.name) p.regions y k) p.regions (all_has p.regions)) x.1 in
      itself (region_pairs_by f p.regions) name (regions_own p.regions (all_has p.regions)) (subst Unique (sym q) known.once.regions) (subst (λ ns. Has ns name) (sym q) (subst (Has (region_texts p.regions)) x.2 there))

  are_unmarked : (xs : List Region) → Each PlainRegion xs → AreUnmarked xs
  are_unmarked [] h = tt
  are_unmarked (x ∷ xs) h = (h.0.1, h.0.2, are_unmarked xs h.1)

  pub unmarked : IsUnmarked p
  unmarked = record {
    settles = record {
      differ = names_differ p known.once;
      regions = region_settles;
      shapes = λ r sh h. let a = then_some (slice_get p.regions r) (λ (x : Region). shape_of p x.variable.kind) sh h in settled_within 65 a.0.variable.kind sh a.2;
    };
    regions = are_unmarked p.regions plain.regions;
    shapes = λ r l. let t = there_below p.regions r l in known.shapes r t.item t.there;
  }
