-- A region holds an instance of a class exactly where its node leads to that of the class.
use Rattle.std.proofs.Common.{◌≡◌, ◌≤◌, ◌<◌, ℕ, ◌+◌, ℤ, pos, negsuc, Bool, true, false, List, [], ◌∷◌, ◌++◌, length, Option, Some, None, refl, sym, ap, ◌∙◌, subst, arith}
use Rattle.std.specs.Prelude.{nat_lt, int_le, ◌-ℤ◌, slice_get, option_and_then, if◌then◌else◌}
use Rattle.std.proofs.lemmas.Bool.{lt-ltb, ltb-true}
use Rattle.std.proofs.lemmas.Int.{ints}
use Rattle.std.proofs.lemmas.Option.{slice_get_within}
use Rattle.st_types.specs.declared.st_type.StType.{StType, out-StType}
use Rattle.st_types.specs.declared.st_type.StType.TheOpen.{StType-F}
use Rattle.st_tree.specs.declared.path.Step.{Step}
use Rattle.st_tree.specs.declared.path.Step.TheVariants as step
use Rattle.st_rules.specs.Chains.{is_among, Leads, itself, onward}
use Rattle.program_tables.specs.st_initial.Variables.{or_none, fields_at}
use Rattle.st_values.specs.Program.{Variable, Class, TypeEntry, Program, class_variables}
use Rattle.st_values.specs.Value.{◌>>=◌, place_of_index}
use Rattle.st_values.specs.Shape.{Shape, Elementary, Enumeration, Reference, Interface, Array, Structure, Instance, Fields, extent, count_to, fields_of, field, element_shape, shape_part, shape_at}
use Rattle.st_values.specs.ShapeLaws.{Unfolds, EachUnfolds}
use Rattle.st_values.proofs.ValueLaws.{then_some}
use Rattle.st_meaning.proofs.st_frame.Values.{element_of}
use Rattle.st_meaning.proofs.st_frame.Unfolded.{opened, field_is, field_of}
use Rattle.st_meaning.proofs.st_frame.Spots.{index_there}
use Rattle.region_instances.specs.declared.held.Held.{Held}
use Rattle.region_instances.specs.declared.held.Held.TheVariants as held
use Rattle.region_instances.specs.declared.held.Counts.{Counts}
use Rattle.region_instances.specs.Private.Held.{held_of, node, node_of}
use Rattle.region_instances.specs.Private.Graph.{nodes_of}
use Rattle.region_instances.proofs.HeldLaws.{held_at}
use Rattle.region_instances.proofs.EdgeLaws.{if_some, then_is, among_nodes, among_at}

-- ---- numbers

at_least_itself : (a : ℤ) → int_le a a ≡ true
at_least_itself a = grind (arith, ints)

-- an array that has an element has bounds in order
in_order : (low high : ℤ) (k : ℕ) → k < extent low high → int_le low high ≡ true
in_order low high k h = go (high -ℤ low) refl
  where
    go : (y : ℤ) → high -ℤ low ≡ y → int_le low high ≡ true
    go (pos m) r = grind (arith, ints)
    go (negsuc m) r = let c : extent low high ≡ 0 = ap count_to r in absurd (omega (arith, c, h))

-- ---- ways along shapes

behind_way : (sh : Shape) (a b : List Step) → shape_at sh (a ++ b) ≡ (shape_at sh a >>= λ x. shape_at x b)
behind_way sh [] b = refl
behind_way sh (s ∷ a) b = by (shape_part sh s) (λ x. behind_way x a b)
  where
    by : (o : Option Shape) → ((x : Shape) → shape_at x (a ++ b) ≡ (shape_at x a >>= λ y. shape_at y b)) → (o >>= λ x. shape_at x (a ++ b)) ≡ ((o >>= λ x. shape_at x a) >>= λ x. shape_at x b)
    by None f = refl
    by (Some x) f = f x

-- an instance of the class stands somewhere in the shape
pub record HoldsIn (sh : Shape) (c : ℕ) : Type 0 where
  pub steps : List Step
  pub name : List ℕ
  pub fields : Fields
  pub there : shape_at sh steps ≡ Some (Instance c name fields)

further_in : (sh part : Shape) (steps : List Step) (c : ℕ) → shape_at sh steps ≡ Some part → HoldsIn part c → HoldsIn sh c
further_in sh part steps c e h = record {
  steps = steps ++ h.steps;
  name = h.name;
  fields = h.fields;
  there = behind_way sh steps h.steps ∙ ap (λ o. o >>= λ x. shape_at x h.steps) e ∙ h.there;
}

module _ (p : Program) (counts : Counts) (ahead : ℕ → List ℕ) where
  pub record IsGraph : Type 0 where
    pub classes : (c : ℕ) → c < counts.classes → ahead c ≡ nodes_of counts (class_variables p c)
    pub structures : (n : ℕ) → ahead (counts.classes + n) ≡ nodes_of counts (fields_at p n)
    pub all_classes : length p.classes ≤ counts.classes
    pub all_structures : length p.types ≤ counts.structures

  -- the type's node leads to that of the class
  pub record Reaches (t : StType) (c : ℕ) : Type 0 where
    pub node : ℕ
    pub is : node_of counts t ≡ Some node
    pub way : Leads ahead node c
    pub below : c < counts.classes

  module _ (graph : IsGraph) where
    class_node : (t : StType) (d : ℕ) (k : Class) → out-StType t ≡ StType-F.Instance d → slice_get p.classes d ≡ Some k → (d < counts.classes) × (node_of counts t ≡ Some d)
    class_node t d k o e =
        let w = slice_get_within p.classes d k e in
        let a = graph.all_classes in
        let l : d < counts.classes = omega (arith, w, a) in
        (l, ap (option_and_then (node counts)) (held_at t _ o) ∙ ap (λ b. if b then Some d else None) (lt-ltb d counts.classes l))

    structure_node : (t : StType) (n : ℕ) (x : TypeEntry) → out-StType t ≡ StType-F.Structure n → slice_get p.types n ≡ Some x → node_of counts t ≡ Some (counts.classes + n)
    structure_node t n x o e =
        let w = slice_get_within p.types n x e in
        let a = graph.all_structures in
        let l : n < counts.structures = omega (arith, w, a) in
        ap (option_and_then (node counts)) (held_at t _ o) ∙ ap (λ b. if b then Some (counts.classes + n) else None) (lt-ltb n counts.structures l)

    fields_are : (n : ℕ) (x : TypeEntry) (vs : List Variable) → slice_get p.types n ≡ Some x → fields_of x.body ≡ Some vs → fields_at p n ≡ vs
    fields_are n x vs e f = ap (λ o. or_none (option_and_then (λ t. fields_of t.body) o)) e ∙ ap or_none f

    -- ---- what stands in the shape is reached

    here_by : (o : StType-F StType) (t : StType) (c : ℕ) (name : List ℕ) (fs : Fields) → out-StType t ≡ o → Unfolds p t (Instance c name fs) → Reaches t c
    here_by (StType-F.Elementary e) t c name fs w u = let x = opened p t _ (Instance c name fs) w u in cc
    here_by (StType-F.Enumeration n) t c name fs w u = let x = opened p t _ (Instance c name fs) w u in let y = x.2 in cc
    here_by (StType-F.Structure n) t c name fs w u = let x = opened p t _ (Instance c name fs) w u in let y = x.5 in cc
    here_by (StType-F.Reference n) t c name fs w u = let x = opened p t _ (Instance c name fs) w u in let y = x.1 in cc
    here_by (StType-F.Interface n) t c name fs w u = let x = opened p t _ (Instance c name fs) w u in let y = x.1 in cc
    here_by (StType-F.Array low high of) t c name fs w u = let x = opened p t _ (Instance c name fs) w u in let y = x.1 in cc
    here_by (StType-F.Instance d) t c name fs w u =
        let x = opened p t _ (Instance c name fs) w u in
        let y = x.3 in
        let q : d ≡ c = cc in
        let n = class_node t d x.0 w x.2 in
        subst (Reaches t) q (record { node = d; is = n.1; way = itself d; below = n.0 })

    along : (m k c : ℕ) (t : StType) (vs : List Variable) (j : ℕ) (v : Variable) → node_of counts t ≡ Some m → ahead m ≡ nodes_of counts vs → slice_get vs j ≡ Some v → Reaches v.kind c → Reaches t c
    along m k c t vs j v n a e r = record {
      node = m;
      is = n;
      way = onward m r.node c (ap (is_among r.node) a ∙ among_at counts vs j v r.node e r.is) r.way;
      below = r.below;
    }

    field_step : (c : ℕ) (t : StType) (m : ℕ) (vs : List Variable) (fs : Fields) (s : Step) (part : Shape) → node_of counts t ≡ Some m → ahead m ≡ nodes_of counts vs → EachUnfolds p vs fs → shape_part (Structure [] fs) s ≡ Some part
        → ((u : StType) → Unfolds p u part → Reaches u c) → Reaches t c
    field_step c t m vs fs (step.Field k) part n a u e r = let f = field_of p vs fs k part u e in along m 0 c t vs k f.0 n a f.1 (r f.0.kind f.2)
    field_step c t m vs fs (step.Element i) part n a u e r = cc

    as_fields : (name : List ℕ) (fs : Fields) (s : Step) (part : Shape) → shape_part (Structure name fs) s ≡ Some part → shape_part (Structure [] fs) s ≡ Some part
    as_fields name fs (step.Field k) part e = e
    as_fields name fs (step.Element i) part e = cc

    as_variables : (name : List ℕ) (c : ℕ) (fs : Fields) (s : Step) (part : Shape) → shape_part (Instance c name fs) s ≡ Some part → shape_part (Structure [] fs) s ≡ Some part
    as_variables name c fs (step.Field k) part e = e
    as_variables name c fs (step.Element i) part e = cc

    array_step : (c : ℕ) (t : StType) (low high : ℤ) (of : StType) (element part : Shape) (s : Step) → out-StType t ≡ StType-F.Array low high of → Unfolds p of element → shape_part (Array low (extent low high) element) s ≡ Some part
        → ((u : StType) → Unfolds p u part → Reaches u c) → Reaches t c
    array_step c t low high of element part (step.Field k) w u e r = cc
    array_step c t low high of element part (step.Element i) w u e r =
        let a = element_of p (extent low high) element part (place_of_index low i) e in
        let q = r of (subst (Unfolds p of) a.3 u) in
        record {
          node = q.node;
          is = ap (option_and_then (node counts)) (held_at t _ w ∙ ap (λ b. if b then held_of of else None) (in_order low high a.0 a.2)) ∙ q.is;
          way = q.way;
          below = q.below;
        }

    inward : (o : StType-F StType) (c : ℕ) (t : StType) (sh part : Shape) (s : Step) → out-StType t ≡ o → Unfolds p t sh → shape_part sh s ≡ Some part → ((u : StType) → Unfolds p u part → Reaches u c) → Reaches t c
    inward (StType-F.Elementary e) c t sh part s w u h r = let x = subst (λ y. shape_part y s ≡ Some part) (opened p t _ sh w u) h in cc
    inward (StType-F.Enumeration n) c t sh part s w u h r = let o = opened p t _ sh w u in let x = subst (λ y. shape_part y s ≡ Some part) o.2 h in cc
    inward (StType-F.Reference n) c t sh part s w u h r = let o = opened p t _ sh w u in let x = subst (λ y. shape_part y s ≡ Some part) o.1 h in cc
    inward (StType-F.Interface n) c t sh part s w u h r = let o = opened p t _ sh w u in let x = subst (λ y. shape_part y s ≡ Some part) o.1 h in cc
    inward (StType-F.Structure n) c t sh part s w u h r =
        let o = opened p t _ sh w u in
        field_step c t (counts.classes + n) o.1 o.2 s part (structure_node t n o.0 w o.3) (graph.structures n ∙ ap (nodes_of counts) (fields_are n o.0 o.1 o.3 o.4)) o.6
        (as_fields o.0.name o.2 s part (subst (λ y. shape_part y s ≡ Some part) o.5 h)) r
    inward (StType-F.Instance d) c t sh part s w u h r =
        let o = opened p t _ sh w u in
        let n = class_node t d o.0 w o.2 in
        field_step c t d (class_variables p d) o.1 s part n.1 (graph.classes d n.0) o.4
        (as_variables o.0.name d o.1 s part (subst (λ y. shape_part y s ≡ Some part) o.3 h)) r
    inward (StType-F.Array low high of) c t sh part s w u h r =
        let o = opened p t _ sh w u in
        array_step c t low high of o.0 part s w o.2 (subst (λ y. shape_part y s ≡ Some part) o.1 h) r

    pub reached : (ss : List Step) (c : ℕ) (name : List ℕ) (fs : Fields) (t : StType) (sh : Shape) → Unfolds p t sh → shape_at sh ss ≡ Some (Instance c name fs) → Reaches t c
    reached [] c name fs t sh u e = let d : sh ≡ Instance c name fs = cc in here_by (out-StType t) t c name fs refl (subst (Unfolds p t) d u)
    reached (s ∷ ss) c name fs t sh u e =
        let a = then_some (shape_part sh s) (λ x. shape_at x ss) (Instance c name fs) e in
        inward (out-StType t) c t sh a.0 s refl u a.1 (λ w v. reached ss c name fs w a.0 v a.2)

    -- ---- what is reached stands in the shape

    abbrev Is : Held → Shape → Type 0
    Is (held.Class d) part = (k : Class) × (fs : Fields) × (part ≡ Instance d k.name fs) × EachUnfolds p (class_variables p d) fs
    Is (held.Structure n) part = (name : List ℕ) × (fs : Fields) × (part ≡ Structure name fs) × EachUnfolds p (fields_at p n) fs

    record Stripped (sh : Shape) (h : Held) : Type 0 where
      steps : List Step
      part : Shape
      there : shape_at sh steps ≡ Some part
      is : Is h part

    from_class : (d : ℕ) (t : StType) (sh : Shape) (h : Held) → out-StType t ≡ StType-F.Instance d → Unfolds p t sh → held_of t ≡ Some h → Stripped sh h
    from_class d t sh h w u e =
        let o = opened p t _ sh w u in
        let q : held.Class d ≡ h = let x = sym (held_at t _ w) ∙ e in cc in
        subst (Stripped sh) q (record { steps = []; part = sh; there = refl; is = (o.0, o.1, o.3, o.4) })

    from_structure : (n : ℕ) (t : StType) (sh : Shape) (h : Held) → out-StType t ≡ StType-F.Structure n → Unfolds p t sh → held_of t ≡ Some h → Stripped sh h
    from_structure n t sh h w u e =
        let o = opened p t _ sh w u in
        let q : held.Structure n ≡ h = let x = sym (held_at t _ w) ∙ e in cc in
        subst (Stripped sh) q (record { steps = []; part = sh; there = refl; is = (o.0.name, o.2, o.5, subst (λ vs. EachUnfolds p vs o.2) (sym (fields_are n o.0 o.1 o.3 o.4)) o.6) })

    nothing_held : (sh : Shape) (h : Held) → None ≡ Some h → Stripped sh h
    nothing_held sh h e = cc

    into_array : (low high : ℤ) (l : ℤ) (n : ℕ) (element : Shape) (h : Held) → l ≡ low → n ≡ extent low high → int_le low high ≡ true → Stripped element h → Stripped (Array l n element) h
    into_array low high l n element h a b o s =
        let k = index_there low high low (at_least_itself low) o in
        record {
          steps = step.Element low ∷ s.steps;
          part = s.part;
          there = ap (λ i. element_shape n element (place_of_index i low) >>= λ x. shape_at x s.steps) a
              ∙ ap (λ q. element_shape n element q >>= λ x. shape_at x s.steps) k.1
              ∙ ap (λ m. (if nat_lt k.0 m then Some element else None) >>= λ x. shape_at x s.steps) b
              ∙ ap (λ t. (if t then Some element else None) >>= λ x. shape_at x s.steps) k.2
              ∙ s.there;
          is = s.is;
        }

    if_held : (b : Bool) (o : Option Held) (h : Held) → (if b then o else None) ≡ Some h → (b ≡ true) × (o ≡ Some h)
    if_held true o h e = (refl, e)
    if_held false o h e = cc

    -- of an array by its element's shape
    of_array : (sh : Shape) (low high : ℤ) (of : StType) (t : StType) (h : Held) → out-StType t ≡ StType-F.Array low high of → Unfolds p t sh → held_of t ≡ Some h
        → ((l : ℤ) (n : ℕ) (element : Shape) → sh ≡ Array l n element → (u : StType) → Unfolds p u element → held_of u ≡ Some h → Stripped element h) → Stripped sh h
    of_array sh low high of t h w u e r =
        let o = opened p t _ sh w u in
        let f = if_held (int_le low high) (held_of of) h (sym (held_at t _ w) ∙ e) in
        subst (λ (x : Shape). Stripped x h) (sym o.1) (into_array low high low (extent low high) o.0 h refl refl f.0 (r low (extent low high) o.0 o.1 of o.2 f.1))

    strip_by : (o : StType-F StType) (sh : Shape) (t : StType) (h : Held) → out-StType t ≡ o → Unfolds p t sh → held_of t ≡ Some h
        → ((l : ℤ) (n : ℕ) (element : Shape) → sh ≡ Array l n element → (u : StType) → Unfolds p u element → held_of u ≡ Some h → Stripped element h) → Stripped sh h
    strip_by (StType-F.Elementary x) sh t h w u e r = nothing_held sh h (sym (held_at t _ w) ∙ e)
    strip_by (StType-F.Enumeration n) sh t h w u e r = nothing_held sh h (sym (held_at t _ w) ∙ e)
    strip_by (StType-F.Reference n) sh t h w u e r = nothing_held sh h (sym (held_at t _ w) ∙ e)
    strip_by (StType-F.Interface n) sh t h w u e r = nothing_held sh h (sym (held_at t _ w) ∙ e)
    strip_by (StType-F.Structure n) sh t h w u e r = from_structure n t sh h w u e
    strip_by (StType-F.Instance d) sh t h w u e r = from_class d t sh h w u e
    strip_by (StType-F.Array low high of) sh t h w u e r = of_array sh low high of t h w u e r

    element_once : (l m : ℤ) (n k : ℕ) (x y : Shape) → Array l n x ≡ Array m k y → x ≡ y
    element_once l m n k x y e = cc

    strip : (sh : Shape) (t : StType) (h : Held) → Unfolds p t sh → held_of t ≡ Some h → Stripped sh h
    strip (Array l n element) t h u e =
        strip_by (out-StType t) (Array l n element) t h refl u e
        (λ m k x q v w f. let d = element_once l m n k element x q in subst (λ (y : Shape). Stripped y h) d (strip element v h (subst (Unfolds p v) (sym d) w) f))
    strip (Elementary x) t h u e = strip_by (out-StType t) (Elementary x) t h refl u e (λ m k y q v w f. cc)
    strip (Enumeration x y) t h u e = strip_by (out-StType t) (Enumeration x y) t h refl u e (λ m k z q v w f. cc)
    strip (Reference x y) t h u e = strip_by (out-StType t) (Reference x y) t h refl u e (λ m k z q v w f. cc)
    strip (Interface x y) t h u e = strip_by (out-StType t) (Interface x y) t h refl u e (λ m k z q v w f. cc)
    strip (Structure x y) t h u e = strip_by (out-StType t) (Structure x y) t h refl u e (λ m k z q v w f. cc)
    strip (Instance x y z) t h u e = strip_by (out-StType t) (Instance x y z) t h refl u e (λ m k a q v w f. cc)

    itself_in : (i : ℕ) (h : Held) (part : Shape) → Is h part → node counts h ≡ Some i → i < counts.classes → HoldsIn part i
    itself_in i (held.Class d) part is e l =
        let q = if_some (nat_lt d counts.classes) d i e in
        subst (HoldsIn part) q.1 (record { steps = []; name = is.0.name; fields = is.1; there = ap Some is.2 })
    itself_in i (held.Structure n) part is e l =
        let q = if_some (nat_lt n counts.structures) (counts.classes + n) i e in
        let x : counts.classes + n ≡ i = q.1 in absurd (omega (arith, x, l))

    -- the variables behind an edge
    record Edge (part : Shape) (k : ℕ) : Type 0 where
      steps : List Step
      kind : StType
      inner : Shape
      there : shape_at part steps ≡ Some inner
      unfolds : Unfolds p kind inner
      node : node_of counts kind ≡ Some k

    edge_of : (vs : List Variable) (fs : Fields) (part : Shape) (k : ℕ) → ((j : ℕ) → shape_at part (step.Field j ∷ []) ≡ field fs j) → EachUnfolds p vs fs → is_among k (nodes_of counts vs) ≡ true → Edge part k
    edge_of vs fs part k parts u h =
        let a = among_nodes counts vs k h in
        let f = field_is p vs fs a.0 a.1 u a.2 in
        record { steps = step.Field a.0 ∷ []; kind = a.1.kind; inner = f.0; there = parts a.0 ∙ f.1; unfolds = f.2; node = a.3 }

    some_only : (o : Option Shape) → (o >>= λ x. Some x) ≡ o
    some_only None = refl
    some_only (Some x) = refl

    edge_in : (i k : ℕ) (h : Held) (part : Shape) → Is h part → node counts h ≡ Some i → is_among k (ahead i) ≡ true → Edge part k
    edge_in i k (held.Class d) part is e m =
        let q = if_some (nat_lt d counts.classes) d i e in
        edge_of (class_variables p d) is.1 part k (λ j. ap (λ x. shape_at x (step.Field j ∷ [])) is.2 ∙ some_only (field is.1 j)) is.3
        (sym (ap (is_among k) (ap ahead (sym q.1) ∙ graph.classes d (ltb-true d counts.classes q.0))) ∙ m)
    edge_in i k (held.Structure n) part is e m =
        let q = if_some (nat_lt n counts.structures) (counts.classes + n) i e in
        edge_of (fields_at p n) is.1 part k (λ j. ap (λ x. shape_at x (step.Field j ∷ [])) is.2 ∙ some_only (field is.1 j)) is.3
        (sym (ap (is_among k) (ap ahead (sym q.1) ∙ graph.structures n)) ∙ m)

    pub stands : (m c : ℕ) → Leads ahead m c → (t : StType) (sh : Shape) → Unfolds p t sh → node_of counts t ≡ Some m → c < counts.classes → HoldsIn sh c
    stands _ _ (itself i) t sh u e l =
        let a = then_is (held_of t) (node counts) i e in
        let s = strip sh t a.0 u a.1 in
        further_in sh s.part s.steps i s.there (itself_in i a.0 s.part s.is a.2 l)
    stands _ _ (onward i k j edge w) t sh u e l =
        let a = then_is (held_of t) (node counts) i e in
        let s = strip sh t a.0 u a.1 in
        let g = edge_in i k a.0 s.part s.is a.2 edge in
        further_in sh s.part s.steps j s.there (further_in s.part g.inner g.steps j g.there (stands k j w g.kind g.inner g.unfolds g.node l))
