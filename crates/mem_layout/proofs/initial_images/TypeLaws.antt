-- What is filled, by the type.
use Rattle.std.proofs.Common.{◌≡◌, ◌≤◌, ℕ, zero, suc, ◌+◌, ◌-◌, ℤ, pos, false, List, [], ◌∷◌, length, Option, Some, refl, sym, ap, ◌∙◌, subst, arith, inl}
use Rattle.st_types.specs.declared.elem.Elem.{Elem}
use Rattle.st_types.specs.declared.elem.Elem.TheVariants.{Udint, Ulint}
use Rattle.st_types.specs.declared.st_type.StType.{StType, out-StType}
use Rattle.st_types.specs.declared.st_type.StType.TheVariants as type
use Rattle.st_types.specs.declared.st_type.StType.TheOpen.{StType-F}
use Rattle.st_types.specs.Elem.{bytes}
use Rattle.st_types.specs.Range.{Fits}
use Rattle.st_tree.specs.declared.path.Step.TheVariants as step
use Rattle.st_tree.specs.declared.program.Note.{Note}
use Rattle.st_tree.specs.Initial.{Initial, FieldInits}
use Rattle.mem_image.specs.Image.{written}
use Rattle.st_values.specs.Program.{Variable, Program, class_at, class_variables}
use Rattle.st_values.specs.Value.{Value, number, structure, instance, ◌>>=◌}
use Rattle.st_values.specs.Shape as shape
use Rattle.st_values.specs.Shape.{Shape, Elementary, Enumeration, Reference, Array, Structure, Instance, Fields, extent, fields_of, fields_by, simple_shape, shape_by, shape_within, region_shape}
use Rattle.st_values.specs.ShapeLaws.{Unfolds}
use Rattle.st_values.specs.Initial.{number_given, list_given, fields_given, elements, init, inits}
use Rattle.st_values.proofs.ValueLaws.{then_some, one_some}
use Rattle.st_values.proofs.ShapeLaws.{more_deep}
use Rattle.program_tables.specs.st_initial.Variables.{fields_at}
use Rattle.mem_layout.specs.store_bytes.Place.{size, ending, part_place}
use Rattle.mem_layout.specs.store_bytes.Spells.{count}
use Rattle.mem_layout.specs.store_bytes.InitialLaws.{IsInRange, AreInRange}
use Rattle.mem_layout.proofs.store_bytes.Leaves.{keeps_written, length-written}
use Rattle.mem_layout.proofs.store_bytes.Moves.{ending_above}
use Rattle.mem_layout.specs.Layout.{IsSmall, HasShape}
use Rattle.mem_layout.specs.Private.Table.{fields_in}
use Rattle.mem_layout.proofs.Unfold.{elementary_is, enumeration_is, reference_is, interface_is, array_opens, opens}
use Rattle.mem_layout.specs.initial_images.Private.Fill.{IsRoom, FillsAt, FillsFields, CanFill, CanFillElements, CanFillFields, Filled, ElementsFilled, FieldsFilled}
use Rattle.mem_layout.proofs.initial_images.FillLaws.{room_part, room_kept, number_filled, enumerator_filled, null_filled, no_interface_filled, structure_filled, instance_filled, array_filled}

-- the shape is found as deep as is allowed
shape_whole : (p : Program) (n : ℕ) (t : StType) (sh : Shape) → n ≤ 65 → shape_within p n t ≡ Some sh → shape_within p 65 t ≡ Some sh
shape_whole p n t sh h e =
    let q : 65 - n + n ≡ 65 = omega (arith, h) in
    subst (λ m. shape_within p m t ≡ Some sh) q (more_deep p (65 - n) n t sh e)

count-elements : (f : Option (Initial Note) → Value) (n : ℕ) (is : List (Initial Note)) → count (elements f n is) ≡ n
count-elements f zero is = refl
count-elements f (suc n) [] = ap suc (count-elements f n [])
count-elements f (suc n) (i ∷ is) = ap suc (count-elements f n is)

pub has_shape : (p : Program) (n : ℕ) (t : StType) (sh : Shape) → n ≤ 65 → shape_within p n t ≡ Some sh → IsSmall sh → HasShape p t
has_shape p n t sh d u s = record { shape = sh; unfolds = shape_whole p n t sh d u; small = s }

module _ (p : Program) (n : ℕ) (t : StType) (given : Option (Initial Note)) (i : ℕ) (im : List ℕ) where
  -- ---- numbers

  pub number_can : (e : Elem) → t ≡ type.Elementary e → CanFill p n t given i im → Fits e (number_given given) × (i + bytes e ≤ length im)
  number_can e q c =
      let is = elementary_is p n t e c.shape q c.unfolds in
      (subst (λ s. IsInRange s given) is c.range, subst (λ s. i + size s ≤ length im) is c.room.within)

  pub number_done : (e : Elem) (im' : List ℕ) → t ≡ type.Elementary e → CanFill p n t given i im → im' ≡ written e im i (number_given given) → Filled p n t given i im im'
  number_done e im' q c w =
      let can = number_can e q c in
      let f = number_filled (region_shape p) e (number_given given) i im can.0 can.1 in
      record {
        by = λ sh u. subst (λ s. FillsAt (region_shape p) s (init s given) i im im') (sym (elementary_is p n t e sh q u)) (subst (λ x. FillsAt (region_shape p) (Elementary e) (number (number_given given)) i im x) (sym w) f);
      }

  pub enumerator_can : (k : ℕ) → t ≡ type.Enumeration k → CanFill p n t given i im → Fits Udint (number_given given) × (i + 4 ≤ length im)
  enumerator_can k q c =
      let is = enumeration_is p n t k c.shape q c.unfolds in
      (subst (λ s. IsInRange s given) is.2 c.range, subst (λ s. i + size s ≤ length im) is.2 c.room.within)

  pub enumerator_done : (k : ℕ) (im' : List ℕ) → t ≡ type.Enumeration k → CanFill p n t given i im → im' ≡ written Udint im i (number_given given) → Filled p n t given i im im'
  enumerator_done k im' q c w =
      let can = enumerator_can k q c in
      record {
        by = λ sh u.
            let is = enumeration_is p n t k sh q u in
            let f = enumerator_filled (region_shape p) is.0 is.1 (number_given given) i im can.0 can.1 in
            subst (λ s. FillsAt (region_shape p) s (init s given) i im im') (sym is.2) (subst (λ x. FillsAt (region_shape p) (Enumeration is.0 is.1) (number (number_given given)) i im x) (sym w) f);
      }

  -- ---- references

  pub reference_done : (k : ℕ) → t ≡ type.Reference k → CanFill p n t given i im → Filled p n t given i im im
  reference_done k q c =
      let room : IsRoom im i 8 = subst (λ s. IsRoom im i (size s)) (reference_is p n t k c.shape q c.unfolds).1 c.room in
      record { by = λ sh u. let is = reference_is p n t k sh q u in subst (λ s. FillsAt (region_shape p) s (init s given) i im im) (sym is.1) (null_filled (region_shape p) k is.0 i im room) }

  pub interface_done : (k : ℕ) → t ≡ type.Interface k → CanFill p n t given i im → Filled p n t given i im im
  interface_done k q c =
      let room : IsRoom im i 8 = subst (λ s. IsRoom im i (size s)) (interface_is p n t k c.shape q c.unfolds).1 c.room in
      record { by = λ sh u. let is = interface_is p n t k sh q u in subst (λ s. FillsAt (region_shape p) s (init s given) i im im) (sym is.1) (no_interface_filled (region_shape p) k is.0 i im room) }

  -- ---- arrays

  pub array_can : (low high : ℤ) (of of' : StType) (bytes : ℕ) → t ≡ type.Array low high of → of' ≡ of → (HasShape p t → (sh : Shape) → Unfolds p t sh → bytes ≡ size sh) → CanFill p n t given i im → CanFillElements p (n - 1) of' (extent low high) bytes (list_given given) i im
  array_can low high of of' bytes q g size-is c =
      let o = array_opens p n t low high of c.shape q c.unfolds in
      let deep = o.deep in
      let d : o.depth ≡ n - 1 = omega (arith, deep) in
      let most = c.deep in
      let range = subst (λ s. IsInRange s given) o.is c.range in
      record {
        shape = o.element;
        unfolds = subst (λ m. shape_within p m of' ≡ Some o.element) d (ap (shape_within p o.depth) g ∙ o.unfolds);
        deep = omega (arith, most);
        small = (subst IsSmall o.is c.small).1;
        none = range.0;
        each = range.1;
        bytes-are = size-is (has_shape p n t c.shape c.deep c.unfolds c.small) c.shape (record { depth = n; by = c.unfolds }) ∙ ap size o.is;
        room = subst (λ s. IsRoom im i (size s)) o.is c.room;
        few = c.few;
      }

  pub array_done : (low high : ℤ) (of of' : StType) (im' : List ℕ) → t ≡ type.Array low high of → of' ≡ of → ElementsFilled p (n - 1) of' (extent low high) (list_given given) i im im' → Filled p n t given i im im'
  array_done low high of of' im' q g f = record {
    by = λ sh u.
        let o = array_opens p n t low high of sh q u in
        let deep = o.deep in
        let d : o.depth ≡ n - 1 = omega (arith, deep) in
        let vs = elements (init o.element) (extent low high) (list_given given) in
        let all = f.by o.element (subst (λ m. shape_within p m of' ≡ Some o.element) d (ap (shape_within p o.depth) g ∙ o.unfolds)) in
        let whole = array_filled (region_shape p) low (extent low high) o.element vs i im im' (count-elements (init o.element) (extent low high) (list_given given)) all in
        subst (λ s. FillsAt (region_shape p) s (init s given) i im im') (sym o.is) whole;
  }

-- ---- structures

pub record StructureOpens (p : Program) (n k : ℕ) (sh : Shape) : Type 0 where
  pub depth : ℕ
  pub deep : n ≡ suc depth
  pub name : List ℕ
  pub fields : Fields
  pub unfolds : fields_by (shape_within p depth) (fields_at p k) ≡ Some fields
  pub is : sh ≡ Structure name fields

structure_is : (sh : Shape) (fs : Fields) → fields_in false sh ≡ Some fs → (name : List ℕ) × (sh ≡ Structure name fs)
structure_is (Structure name gs) fs e = let is : gs ≡ fs = cc in (name, ap (Structure name) is)
structure_is (Elementary e) fs h = cc
structure_is (Enumeration name values) fs h = cc
structure_is (Reference c name) fs h = cc
structure_is (shape.Interface k name) fs h = cc
structure_is (Array low n sh) fs h = cc
structure_is (Instance c name gs) fs h = cc

structure_opens : (p : Program) (n : ℕ) (t : StType) (k : ℕ) (sh : Shape) → t ≡ type.Structure k → shape_within p n t ≡ Some sh → StructureOpens p n k sh
structure_opens p n t k sh q u =
    let o = opens p n false k sh (ap (shape_within p n) (sym q) ∙ u) in
    let is = structure_is sh o.fields o.made in
    record { depth = o.depth; deep = o.deep; name = is.0; fields = o.fields; unfolds = o.unfolds; is = is.1 }

module _ (p : Program) (n : ℕ) (t : StType) (given : Option (Initial Note)) (i : ℕ) (im : List ℕ) (k : ℕ) (vs : List Variable) (gs : FieldInits Note) where
  structure_can : t ≡ type.Structure k → CanFill p n t given i im → vs ≡ fields_at p k → gs ≡ fields_given given → CanFillFields p (n - 1) t vs gs i im
  unfolding has_shape
  structure_can q c v g =
      let o = structure_opens p n t k c.shape q c.unfolds in
      let deep = o.deep in
      let d : o.depth ≡ n - 1 = omega (arith, deep) in
      let most = c.deep in
      let room = subst (λ s. IsRoom im i (size s)) o.is c.room in
      let part = room_part im i (size (Structure o.name o.fields)) 0 (ending 0 o.fields - 0) room (omega arith) in
      record {
        start = 0;
        fields = o.fields;
        unfolds = subst (λ m. fields_by (shape_within p m) vs ≡ Some o.fields) d (ap (fields_by (shape_within p o.depth)) v ∙ o.unfolds);
        has = has_shape p n t c.shape c.deep c.unfolds c.small;
        parts = λ j. ap (λ s. part_place s (step.Field j)) o.is;
        deep = omega (arith, most);
        small = (subst IsSmall o.is c.small).1;
        range = subst (λ x. AreInRange o.fields x) (sym g) (subst (λ s. IsInRange s given) o.is c.range);
        room = part;
        few = c.few;
      }

  pub structure_done : (im' : List ℕ) → t ≡ type.Structure k → CanFill p n t given i im → vs ≡ fields_at p k → gs ≡ fields_given given → FieldsFilled p (n - 1) t vs gs i im im' → Filled p n t given i im im'
  unfolding structure_can
  structure_done im' q c v g f =
      let o = structure_opens p n t k c.shape q c.unfolds in
      let can = structure_can q c v g in
      let all = f.by can in
      let room = subst (λ s. IsRoom im i (size s)) o.is c.room in
      let whole = structure_filled (region_shape p) o.name o.fields (inits o.fields gs) i im im' room all in
      let whole' = subst (λ x. FillsAt (region_shape p) (Structure o.name o.fields) (structure o.name (inits o.fields x)) i im im') g whole in
      record {
        by = λ sh u.
            let same : c.shape ≡ sh = one_some (shape_within p n t) c.shape sh c.unfolds u in
            subst (λ s. FillsAt (region_shape p) s (init s given) i im im') (sym o.is ∙ same) whole';
      }

-- ---- instances

pub record InstanceOpens (p : Program) (n k : ℕ) (sh : Shape) : Type 0 where
  pub depth : ℕ
  pub deep : n ≡ suc depth
  pub name : List ℕ
  pub fields : Fields
  pub unfolds : fields_by (shape_within p depth) (class_variables p k) ≡ Some fields
  pub is : sh ≡ Instance k name fields

instance_opens : (p : Program) (n : ℕ) (t : StType) (k : ℕ) (sh : Shape) → t ≡ type.Instance k → shape_within p n t ≡ Some sh → InstanceOpens p n k sh
instance_opens p zero t k sh q u =
    let x : simple_shape p (StType-F.Instance k) ≡ Some sh = ap (simple_shape p) (sym (ap out-StType q ∙ type.outs-Instance k)) ∙ u in
    cc
instance_opens p (suc n) t k sh q u =
    let x : shape_by p (shape_within p n) (StType-F.Instance k) ≡ Some sh = ap (shape_by p (shape_within p n)) (sym (ap out-StType q ∙ type.outs-Instance k)) ∙ u in
    let a = then_some (class_at p k) (λ x. fields_by (shape_within p n) (class_variables p k) >>= λ fs. Some (Instance k x.name fs)) sh x in
    let b = then_some (fields_by (shape_within p n) (class_variables p k)) (λ fs. Some (Instance k a.0.name fs)) sh a.2 in
    let c = b.2 in
    let is : Instance k a.0.name b.0 ≡ sh = cc in
    record { depth = n; deep = refl; name = a.0.name; fields = b.0; unfolds = b.1; is = sym is }

pub class_can : (p : Program) (n : ℕ) (t : StType) (given : Option (Initial Note)) (i : ℕ) (im : List ℕ) (k : ℕ) → t ≡ type.Instance k → CanFill p n t given i im → Fits Ulint (pos k) × (i + 8 ≤ length im)
class_can p n t given i im k q c =
    let o = instance_opens p n t k c.shape q c.unfolds in
    let range = subst (λ s. IsInRange s given) o.is c.range in
    let within = subst (λ s. i + size s ≤ length im) o.is c.room.within in
    let above = ending_above o.fields 8 in
    (range.0, omega (arith, within, above))

module _ (p : Program) (n : ℕ) (t : StType) (given : Option (Initial Note)) (i : ℕ) (im im' : List ℕ) (k : ℕ) (vs : List Variable) (gs : FieldInits Note) where
  instance_can : t ≡ type.Instance k → CanFill p n t given i im → vs ≡ class_variables p k → gs ≡ fields_given given → im' ≡ written Ulint im i (pos k) → CanFillFields p (n - 1) t vs gs i im'
  unfolding has_shape
  instance_can q c v g w =
      let o = instance_opens p n t k c.shape q c.unfolds in
      let deep = o.deep in
      let d : o.depth ≡ n - 1 = omega (arith, deep) in
      let most = c.deep in
      let fs = o.fields in
      let above = ending_above fs 8 in
      let room = subst (λ s. IsRoom im i (size s)) o.is c.room in
      let part = room_part im i (size (Instance k o.name fs)) 8 (ending 8 fs - 8) room (omega (arith, above)) in
      let can = class_can p n t given i im k q c in
      let keeps = keeps_written Ulint (pos k) im i can.1 in
      let long = length-written Ulint (pos k) im i can.1 in
      let end : i + 8 ≤ i + 8 = omega arith in
      let kept = room_kept im (written Ulint im i (pos k)) i 8 (i + 8) (ending 8 fs - 8) keeps long (inl end) part in
      let long' : length im' ≡ length im = ap length w ∙ long in
      let few = c.few in
      record {
        start = 8;
        fields = fs;
        unfolds = subst (λ m. fields_by (shape_within p m) vs ≡ Some fs) d (ap (fields_by (shape_within p o.depth)) v ∙ o.unfolds);
        has = has_shape p n t c.shape c.deep c.unfolds c.small;
        parts = λ j. ap (λ s. part_place s (step.Field j)) o.is;
        deep = omega (arith, most);
        small = (subst IsSmall o.is c.small).1;
        range = subst (λ x. AreInRange fs x) (sym g) (subst (λ s. IsInRange s given) o.is c.range).1;
        room = subst (λ x. IsRoom x (i + 8) (ending 8 fs - 8)) (sym w) kept;
        few = omega (arith, few, long');
      }

  pub instance_done : (im'' : List ℕ) → t ≡ type.Instance k → CanFill p n t given i im → vs ≡ class_variables p k → gs ≡ fields_given given → im' ≡ written Ulint im i (pos k) → FieldsFilled p (n - 1) t vs gs i im' im'' → Filled p n t given i im im''
  unfolding instance_can
  instance_done im'' q c v g w f =
      let o = instance_opens p n t k c.shape q c.unfolds in
      let fs = o.fields in
      let all = f.by (instance_can q c v g w) in
      let room = subst (λ s. IsRoom im i (size s)) o.is c.room in
      let whole = instance_filled (region_shape p) k o.name fs (inits fs gs) i im im'' (class_can p n t given i im k q c).0 room (subst (λ x. FillsFields (region_shape p) 8 fs (inits fs gs) i x im'') w all) in
      let whole' = subst (λ x. FillsAt (region_shape p) (Instance k o.name fs) (instance o.name (inits fs x)) i im im'') g whole in
      record {
        by = λ sh u.
            let same : c.shape ≡ sh = one_some (shape_within p n t) c.shape sh c.unfolds u in
            subst (λ s. FillsAt (region_shape p) s (init s given) i im im'') (sym o.is ∙ same) whole';
      }
