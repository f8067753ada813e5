-- What types unfold to, with the right numbers.
use Rattle.std.proofs.Common.{◌≡◌, ◌≤◌, ◌<◌, ℕ, zero, suc, ◌+◌, ◌-◌, ℤ, Bool, true, false, List, [], ◌∷◌, ◌++◌, length, drop, get_or, map, Option, Some, None, refl, sym, ap, ap₂, ◌∙◌, arith, Bor}
use Rattle.std.proofs.lemmas.Option.{slice_get-map}
use Rattle.std.proofs.lemmas.Slice.Eq.{bytes_eq-Decides}
use Rattle.std.specs.Prelude.{◌&&◌, is_some, option_and_then, option_map, slice_get}
use Rattle.plc_text.specs.Words.{same}
use Rattle.st_types.specs.declared.elem.Elem.{Elem}
use Rattle.st_types.specs.declared.st_type.StType.{StType, out-StType}
use Rattle.st_types.specs.declared.st_type.StType.TheVariants as type
use Rattle.st_types.specs.declared.st_type.StType.TheOpen.{StType-F}
use Rattle.st_tree.specs.declared.declaration.InterfaceDecl.{InterfaceDecl}
use Rattle.st_tree.specs.declared.declaration.TypeBody.{TypeBody as WrittenBody}
use Rattle.st_tree.specs.declared.declaration.TypeBody.TheVariants as written
use Rattle.st_tree.specs.declared.declaration.TypeDecl.{TypeDecl}
use Rattle.st_tree.specs.declared.name.Name.{Name}
use Rattle.st_tree.specs.declared.program.Note.{Note}
use Rattle.st_tree.specs.declared.program.Program.{Program as CheckedProgram}
use Rattle.st_rules.proofs.ListLaws.{drop-at, drop-end}
use Rattle.program_tables.specs.declared.st_initial.variables.Variable as held
use Rattle.program_tables.specs.st_initial.Members.{items_at}
use Rattle.program_tables.specs.st_initial.Variables.{variable_of, variables_of, fields_at, or_none}
use Rattle.st_values.specs.Program.{Variable, TypeEntry, Class, Program, class_at, class_variables}
use Rattle.st_values.specs.Shape.{Shape, Enumeration, Array, Structure, Instance, Fields, no_fields, field_then, extent, fields_by, values_of, simple_shape, shape_by, shape_within, same_names}
use Rattle.st_values.specs.Shape as plain
use Rattle.st_values.specs.Value.{◌>>=◌}
use Rattle.st_values.specs.View.{type_body, type_entry, interfaces_from, program_of, texts}
use Rattle.shape_trees.specs.declared.shape.Shape.{Shape as CodeShape}
use Rattle.shape_trees.specs.declared.shape.Shape.TheVariants as code
use Rattle.shape_trees.specs.declared.shape.Field.{Field as CodeField}
use Rattle.shape_trees.specs.Shape.{shape_of, field_of, fields_of, listed, shape-Elementary, shape-Enumeration, shape-Reference, shape-Interface, shape-Array, shape-Structure, shape-Instance, field-is}
use Rattle.shape_trees.specs.Numbers.{names_of, is_called, names_in, is_numbered, is_numbered_at, is_named_numbered, are_numbered, number-Elementary, number-Enumeration, number-Reference, number-Interface, number-Array, number-Structure, number-Instance, named-is}
use Rattle.shape_trees.specs.Private.Unfolding.{IsFound, AreFound, are_numbered_at}

-- ---- by the outside of a type

module _ (p : Program) (t : StType) where
  pub of_simple : (n : ℕ) (o : StType-F StType) (found : Option CodeShape) → out-StType t ≡ o → ((f : StType → Option Shape) → shape_by p f o ≡ simple_shape p o) → IsFound p (simple_shape p o) found → IsFound p (shape_within p n t) found
  of_simple zero o found e s h = record { is = h.is ∙ ap (simple_shape p) (sym e); numbered = h.numbered }
  of_simple (suc n) o found e s h = record { is = h.is ∙ sym (s (shape_within p n)) ∙ ap (shape_by p (shape_within p n)) (sym e); numbered = h.numbered }

  pub of_level : (n : ℕ) (o : StType-F StType) (found : Option CodeShape) → 0 < n → out-StType t ≡ o → IsFound p (shape_by p (shape_within p (n - 1)) o) found → IsFound p (shape_within p n t) found
  of_level zero o found l e h = absurd (omega arith)
  of_level (suc n) o found l e h =
      let m : suc n - 1 ≡ n = omega arith in
      record { is = h.is ∙ ap (λ k. shape_by p (shape_within p k) o) m ∙ ap (shape_by p (shape_within p n)) (sym e); numbered = h.numbered }

  of_zero : (n : ℕ) (o : StType-F StType) → n ≡ 0 → out-StType t ≡ o → simple_shape p o ≡ None → IsFound p (shape_within p n t) None
  of_zero n o z e h = record { is = sym (ap (λ m. shape_within p m t) z ∙ ap (simple_shape p) e ∙ h); numbered = refl }

  pub found_elementary : (n : ℕ) (e : Elem) → t ≡ type.Elementary e → IsFound p (shape_within p n t) (Some (code.Elementary e))
  found_elementary n e h =
      of_simple n (StType-F.Elementary e) (Some (code.Elementary e)) (ap out-StType h ∙ type.outs-Elementary e) (λ f. refl)
      (record { is = ap Some (shape-Elementary e); numbered = number-Elementary p e })

  pub found_enumeration : (n k : ℕ) (found : Option CodeShape) → t ≡ type.Enumeration k → IsFound p (simple_shape p (StType-F.Enumeration k)) found → IsFound p (shape_within p n t) found
  found_enumeration n k found h is = of_simple n (StType-F.Enumeration k) found (ap out-StType h ∙ type.outs-Enumeration k) (λ f. refl) is

  pub found_reference : (n c : ℕ) (found : Option CodeShape) → t ≡ type.Reference c → IsFound p (simple_shape p (StType-F.Reference c)) found → IsFound p (shape_within p n t) found
  found_reference n c found h is = of_simple n (StType-F.Reference c) found (ap out-StType h ∙ type.outs-Reference c) (λ f. refl) is

  pub found_interface : (n i : ℕ) (found : Option CodeShape) → t ≡ type.Interface i → IsFound p (simple_shape p (StType-F.Interface i)) found → IsFound p (shape_within p n t) found
  found_interface n i found h is = of_simple n (StType-F.Interface i) found (ap out-StType h ∙ type.outs-Interface i) (λ f. refl) is

  pub no_array : (n : ℕ) (low high : ℤ) (of : StType) → n ≡ 0 → t ≡ type.Array low high of → IsFound p (shape_within p n t) None
  no_array n low high of z h = of_zero n (StType-F.Array low high of) z (ap out-StType h ∙ type.outs-Array low high of) refl

  pub no_structure : (n k : ℕ) → n ≡ 0 → t ≡ type.Structure k → IsFound p (shape_within p n t) None
  no_structure n k z h = of_zero n (StType-F.Structure k) z (ap out-StType h ∙ type.outs-Structure k) refl

  pub no_instance : (n c : ℕ) → n ≡ 0 → t ≡ type.Instance c → IsFound p (shape_within p n t) None
  no_instance n c z h = of_zero n (StType-F.Instance c) z (ap out-StType h ∙ type.outs-Instance c) refl

  pub found_array : (n : ℕ) (low high : ℤ) (of : StType) (found : Option CodeShape) → 0 < n → t ≡ type.Array low high of → IsFound p (shape_by p (shape_within p (n - 1)) (StType-F.Array low high of)) found → IsFound p (shape_within p n t) found
  found_array n low high of found l h is = of_level n (StType-F.Array low high of) found l (ap out-StType h ∙ type.outs-Array low high of) is

  pub found_structure : (n k : ℕ) (found : Option CodeShape) → 0 < n → t ≡ type.Structure k → IsFound p (shape_by p (shape_within p (n - 1)) (StType-F.Structure k)) found → IsFound p (shape_within p n t) found
  found_structure n k found l h is = of_level n (StType-F.Structure k) found l (ap out-StType h ∙ type.outs-Structure k) is

  pub found_instance : (n c : ℕ) (found : Option CodeShape) → 0 < n → t ≡ type.Instance c → IsFound p (shape_by p (shape_within p (n - 1)) (StType-F.Instance c)) found → IsFound p (shape_within p n t) found
  found_instance n c found l h is = of_level n (StType-F.Instance c) found l (ap out-StType h ∙ type.outs-Instance c) is

-- ---- types without parts

types_get : (p : CheckedProgram) (n : ℕ) (o : Option (TypeDecl Note)) → o ≡ slice_get p.types n → slice_get (program_of p).types n ≡ option_map type_entry o
types_get p n o e = slice_get-map type_entry p.types n ∙ ap (option_map type_entry) (sym e)

abbrev enumerated : Option TypeEntry → Option Shape
enumerated o = o >>= λ t. values_of t.body >>= λ values. Some (Enumeration t.name values)

none_found : (p : Program) (o : Option Shape) → o ≡ None → IsFound p o None
none_found p o e = record { is = sym e; numbered = refl }

module _ (p : CheckedProgram) (n : ℕ) where
  pub no_type : None ≡ slice_get p.types n → IsFound (program_of p) (simple_shape (program_of p) (StType-F.Enumeration n)) None
  no_type e = none_found (program_of p) _ (ap enumerated (types_get p n None e))

  entry_is : (decl : TypeDecl Note) (b : WrittenBody Note) → Some decl ≡ slice_get p.types n → decl.body ≡ b → simple_shape (program_of p) (StType-F.Enumeration n) ≡ (values_of (type_body b) >>= λ values. Some (Enumeration decl.name.text values))
  entry_is decl b e h = ap enumerated (types_get p n (Some decl) e) ∙ ap (λ x. values_of (type_body x) >>= λ values. Some (Enumeration decl.name.text values)) h

  pub enumeration_there : (decl : TypeDecl Note) (values : List Name) (name : Bor (List ℕ)) (listed : Bor (List Name)) → Some decl ≡ slice_get p.types n → decl.body ≡ written.Enumeration values → name.now ≡ decl.name.text → listed.now ≡ values
      → IsFound (program_of p) (simple_shape (program_of p) (StType-F.Enumeration n)) (Some (code.Enumeration name listed))
  enumeration_there decl values name listed e h f g = record {
    is = ap Some (shape-Enumeration name listed ∙ ap₂ (λ (x : List ℕ) (ys : List Name). Enumeration x (texts ys)) f g) ∙ sym (entry_is decl (written.Enumeration values) e h);
    numbered = number-Enumeration (program_of p) name listed;
  }

  pub no_enumeration : (decl : TypeDecl Note) (b : WrittenBody Note) → Some decl ≡ slice_get p.types n → decl.body ≡ b → values_of (type_body b) ≡ None → IsFound (program_of p) (simple_shape (program_of p) (StType-F.Enumeration n)) None
  no_enumeration decl b e h f = none_found (program_of p) _ (entry_is decl b e h ∙ ap (λ o. o >>= λ values. Some (Enumeration decl.name.text values)) f)

interfaces_get : (all : List (InterfaceDecl Note)) (i k : ℕ) (ds : List (InterfaceDecl Note)) → option_map (λ d. d.name) (slice_get (interfaces_from all i ds) k) ≡ option_map (λ d. d.name.text) (slice_get ds k)
interfaces_get all i k [] = refl
interfaces_get all i zero (d ∷ ds) = refl
interfaces_get all i (suc k) (d ∷ ds) = interfaces_get all (suc i) k ds

named_by : {A : Type 0} (f : List ℕ → Shape) (name : A → List ℕ) (o : Option A) → option_map (λ a. f (name a)) o ≡ option_map f (option_map name o)
named_by f name None = refl
named_by f name (Some a) = refl

-- the name, where it is there
module _ (p : Program) where
  pub reference_found : (c : ℕ) (o : Option (Bor (List ℕ))) → option_map (λ t. t.now) o ≡ option_map (λ k. k.name) (class_at p c) → IsFound p (simple_shape p (StType-F.Reference c)) (option_map (code.Reference c) o)
  reference_found c o e = by o (sym (named_by (plain.Reference c) (λ k. k.name) (class_at p c) ∙ ap (option_map (plain.Reference c)) (sym e)))
    where
      by : (o : Option (Bor (List ℕ))) → option_map (plain.Reference c) (option_map (λ t. t.now) o) ≡ simple_shape p (StType-F.Reference c) → IsFound p (simple_shape p (StType-F.Reference c)) (option_map (code.Reference c) o)
      by None h = record { is = h; numbered = refl }
      by (Some name) h = record { is = ap Some (shape-Reference c name) ∙ h; numbered = number-Reference p c name }

pub interface_found : (p : CheckedProgram) (i : ℕ) (decl : InterfaceDecl Note) (name : Bor (List ℕ)) → Some decl ≡ slice_get p.interfaces i → name.now ≡ decl.name.text → IsFound (program_of p) (simple_shape (program_of p) (StType-F.Interface i)) (Some (code.Interface i name))
interface_found p i decl name e h = record {
  is =
      ap Some (shape-Interface i name ∙ ap (plain.Interface i) h)
      ∙ sym (named_by (plain.Interface i) (λ k. k.name) (slice_get (program_of p).interfaces i) ∙ ap (option_map (plain.Interface i)) (interfaces_get p.interfaces 0 i p.interfaces ∙ ap (option_map (λ d. d.name.text)) (sym e)));
  numbered = number-Interface (program_of p) i name;
}

pub no_interface : (p : CheckedProgram) (i : ℕ) → None ≡ slice_get p.interfaces i → IsFound (program_of p) (simple_shape (program_of p) (StType-F.Interface i)) None
no_interface p i e = none_found (program_of p) _ (named_by (plain.Interface i) (λ k. k.name) (slice_get (program_of p).interfaces i) ∙ ap (option_map (plain.Interface i)) (interfaces_get p.interfaces 0 i p.interfaces ∙ ap (option_map (λ d. d.name.text)) (sym e)))

-- ---- arrays

module _ (p : Program) (f : StType → Option Shape) where
  pub array_level : (low low' high : ℤ) (of : StType) (count : ℕ) (found : Option CodeShape) (sh : CodeShape) → IsFound p (f of) found → found ≡ Some sh → count ≡ extent low high → low' ≡ low → IsFound p (shape_by p f (StType-F.Array low high of)) (Some (code.Array low' count sh))
  array_level low low' high of count found sh h s e g = record {
    is =
        ap Some (shape-Array low' count sh ∙ ap₂ (λ (z : ℤ) (n : ℕ). Array z n (shape_of sh)) g e)
        ∙ ap (option_map (Array low (extent low high))) (ap (option_map shape_of) (sym s) ∙ h.is);
    numbered = number-Array p low' count sh ∙ ap (is_numbered_at p) (sym s) ∙ h.numbered;
  }

-- ---- names of fields

same_name : (a : List ℕ) → same a a ≡ true
same_name a = (bytes_eq-Decides a a).1 refl

all_same : (ns : List (List ℕ)) → same_names ns ns ≡ true
all_same [] = refl
all_same (n ∷ ns) = ap₂ (λ (a b : Bool). a && b) (same_name n) (all_same ns)

names_are : (p : Program) (fs : List CodeField) → names_in (map (is_named_numbered p) fs) ≡ map (λ f. f.variable.name.now) fs
names_are p [] = refl
names_are p (f ∷ fs) = ap₂ (λ (n : List ℕ) (ns : List (List ℕ)). n ∷ ns) (ap (λ x. x.0) (named-is p f)) (names_are p fs)

-- the names of the fields that variables have
fields_names : (f : StType → Option Shape) (vs : List Variable) (fs : List CodeField) → fields_by f vs ≡ Some (fields_of fs) → map (λ x. x.variable.name.now) fs ≡ names_of vs
fields_names f [] [] e = refl
fields_names f [] (x ∷ fs) e = absurd cc
fields_names f (v ∷ vs) fs e = first (f v.kind) (fields_by f vs) (λ (gs : List CodeField) h. fields_names f vs gs h) refl fs e
  where
    first : (a : Option Shape) (b : Option Fields) → ((gs : List CodeField) → fields_by f vs ≡ Some (fields_of gs) → map (λ x. x.variable.name.now) gs ≡ names_of vs) → fields_by f vs ≡ b → (fs : List CodeField)
        → (a >>= λ sh. b >>= λ rest. Some (field_then v sh rest)) ≡ Some (fields_of fs) → map (λ x. x.variable.name.now) fs ≡ names_of (v ∷ vs)
    first None b more g fs h = absurd cc
    first (Some sh) None more g fs h = absurd cc
    first (Some sh) (Some rest) more g [] h = absurd cc
    first (Some sh) (Some rest) more g (x ∷ fs) h =
        let head : field_then v sh rest ≡ field_then (field_of x).0 (field_of x).1 (fields_of fs) = cc in
        let variable : v ≡ (field_of x).0 = cc in
        let behind : rest ≡ fields_of fs = cc in
        ap₂ (λ (n : List ℕ) (ns : List (List ℕ)). n ∷ ns) (ap (λ (y : Variable). y.name) (sym (ap (λ z. z.0) (field-is x)) ∙ sym variable)) (more fs (g ∙ ap Some behind))

both : (a b c : Bool) → a ≡ true → b ≡ true → c ≡ true → ((a && b) && c) ≡ true
both a b c e f g = ap₂ (λ (x y : Bool). x && y) (ap₂ (λ (x y : Bool). x && y) e f) g

-- ---- structures

module _ (p : CheckedProgram) (f : StType → Option Shape) (n : ℕ) where
  abbrev structured : Option TypeEntry → Option Shape
  structured o = o >>= λ t. plain.fields_of t.body >>= λ vs. fields_by f vs >>= λ fields. Some (Structure t.name fields)

  pub no_structure_type : None ≡ slice_get p.types n → IsFound (program_of p) (shape_by (program_of p) f (StType-F.Structure n)) None
  no_structure_type e = none_found (program_of p) _ (ap structured (types_get p n None e))

  pub no_structure_body : (decl : TypeDecl Note) → Some decl ≡ slice_get p.types n → is_some (plain.fields_of (type_body decl.body)) ≡ false → IsFound (program_of p) (shape_by (program_of p) f (StType-F.Structure n)) None
  no_structure_body decl e h = none_found (program_of p) _ (ap structured (types_get p n (Some decl) e) ∙ by (plain.fields_of (type_body decl.body)) h)
    where
      by : (o : Option (List Variable)) → is_some o ≡ false → (o >>= λ vs. fields_by f vs >>= λ fields. Some (Structure decl.name.text fields)) ≡ None
      by None g = refl
      by (Some vs) g = absurd cc

  with_body : (decl : TypeDecl Note) → Some decl ≡ slice_get p.types n → is_some (plain.fields_of (type_body decl.body)) ≡ true
      → shape_by (program_of p) f (StType-F.Structure n) ≡ (fields_by f (fields_at (program_of p) n) >>= λ fields. Some (Structure decl.name.text fields))
  with_body decl e h =
      ap structured (types_get p n (Some decl) e) ∙ by (plain.fields_of (type_body decl.body)) h
      ∙ sym (ap (λ o. fields_by f (or_none (option_and_then (λ t. plain.fields_of t.body) o)) >>= λ fields. Some (Structure decl.name.text fields)) (types_get p n (Some decl) e))
    where
      by : (o : Option (List Variable)) → is_some o ≡ true → (o >>= λ vs. fields_by f vs >>= λ fields. Some (Structure decl.name.text fields)) ≡ (fields_by f (or_none o) >>= λ fields. Some (Structure decl.name.text fields))
      by None g = absurd cc
      by (Some vs) g = refl

  called : (decl : TypeDecl Note) → Some decl ≡ slice_get p.types n → is_called (option_map (λ t. t.name) (slice_get (program_of p).types n)) decl.name.text ≡ true
  called decl e = ap (λ o. is_called (option_map (λ t. t.name) o) decl.name.text) (types_get p n (Some decl) e) ∙ same_name decl.name.text

  pub structure_level : (decl : TypeDecl Note) (name : Bor (List ℕ)) (vs : List Variable) (found : Option (List CodeField)) (fs : List CodeField) → Some decl ≡ slice_get p.types n → is_some (plain.fields_of (type_body decl.body)) ≡ true → name.now ≡ decl.name.text → vs ≡ fields_at (program_of p) n
      → AreFound (program_of p) (fields_by f vs) found → found ≡ Some fs → IsFound (program_of p) (shape_by (program_of p) f (StType-F.Structure n)) (Some (code.Structure n name fs))
  structure_level decl name vs found fs e h g a are s =
      let by : fields_by f (fields_at (program_of p) n) ≡ Some (fields_of fs) = ap (fields_by f) (sym a) ∙ sym are.is ∙ ap (option_map fields_of) s in
      let t : are_numbered (program_of p) fs ≡ true = ap (are_numbered_at (program_of p)) (sym s) ∙ are.numbered in
      record {
        is = ap Some (shape-Structure n name fs ∙ ap (λ x. Structure x (fields_of fs)) g) ∙ sym (with_body decl e h ∙ ap (λ o. o >>= λ fields. Some (Structure decl.name.text fields)) by);
        numbered =
            number-Structure (program_of p) n name fs
            ∙ both (is_called (option_map (λ t. t.name) (slice_get (program_of p).types n)) name.now) (same_names (names_of (fields_at (program_of p) n)) (names_in (map (is_named_numbered (program_of p)) fs))) (are_numbered (program_of p) fs)
            (ap (is_called (option_map (λ t. t.name) (slice_get (program_of p).types n))) g ∙ called decl e)
            (ap (same_names (names_of (fields_at (program_of p) n))) (names_are (program_of p) fs ∙ fields_names f (fields_at (program_of p) n) fs by) ∙ all_same (names_of (fields_at (program_of p) n)))
            t;
      }

-- ---- instances

module _ (p : Program) (f : StType → Option Shape) (c : ℕ) where
  abbrev instanced : Option Class → Option Shape
  instanced o = o >>= λ k. fields_by f (class_variables p c) >>= λ fields. Some (Instance c k.name fields)

  class_there : (o : Option Class) (name : List ℕ) → Some name ≡ option_map (λ k. k.name) o → (k : Class) × (o ≡ Some k) × (name ≡ k.name)
  class_there None name e = absurd cc
  class_there (Some k) name e = (k, refl, cc)

  no_class : (o : Option Class) → None ≡ option_map (λ k. k.name) o → o ≡ None
  no_class None e = refl
  no_class (Some k) e = absurd cc

  pub no_instance_class : None ≡ option_map (λ k. k.name) (class_at p c) → IsFound p (shape_by p f (StType-F.Instance c)) None
  no_instance_class e = none_found p _ (ap instanced (no_class (class_at p c) e))

  pub instance_level : (name : Bor (List ℕ)) (vs : List Variable) (found : Option (List CodeField)) (fs : List CodeField) → Some name.now ≡ option_map (λ k. k.name) (class_at p c) → vs ≡ class_variables p c → AreFound p (fields_by f vs) found → found ≡ Some fs → IsFound p (shape_by p f (StType-F.Instance c)) (Some (code.Instance c name fs))
  instance_level name vs found fs e a are s =
      let by : fields_by f (class_variables p c) ≡ Some (fields_of fs) = ap (fields_by f) (sym a) ∙ sym are.is ∙ ap (option_map fields_of) s in
      let t : are_numbered p fs ≡ true = ap (are_numbered_at p) (sym s) ∙ are.numbered in
      let k = class_there (class_at p c) name.now e in
      record {
        is = ap Some (shape-Instance c name fs ∙ ap (λ x. Instance c x (fields_of fs)) k.2) ∙ sym (ap instanced k.1 ∙ ap (λ o. o >>= λ fields. Some (Instance c k.0.name fields)) by);
        numbered =
            number-Instance p c name fs
            ∙ both (is_called (option_map (λ k. k.name) (class_at p c)) name.now) (same_names (names_of (class_variables p c)) (names_in (map (is_named_numbered p) fs))) (are_numbered p fs)
            (ap (λ o. is_called o name.now) (sym e) ∙ same_name name.now)
            (ap (same_names (names_of (class_variables p c))) (names_are p fs ∙ fields_names f (class_variables p c) fs by) ∙ all_same (names_of (class_variables p c)))
            t;
      }

-- ---- fields

-- fields, and behind them these
abbrev pub before : List CodeField → Fields → Fields
before [] rest = rest
before (f ∷ fs) rest = field_then (field_of f).0 (field_of f).1 (before fs rest)

before_one : (fs : List CodeField) (x : CodeField) (rest : Fields) → before (fs ++ x ∷ []) rest ≡ before fs (field_then (field_of x).0 (field_of x).1 rest)
before_one [] x rest = refl
before_one (f ∷ fs) x rest = ap (field_then (field_of f).0 (field_of f).1) (before_one fs x rest)

before_none : (fs : List CodeField) → before fs no_fields ≡ fields_of fs
before_none [] = refl
before_none (f ∷ fs) = ap (field_then (field_of f).0 (field_of f).1) (before_none fs)

before_nothing : (o : Option Fields) → o ≡ option_map (before []) o
before_nothing None = refl
before_nothing (Some fs) = refl

numbered_one : (p : Program) (fs : List CodeField) (x : CodeField) → are_numbered p fs ≡ true → is_numbered p x.shape ≡ true → are_numbered p (fs ++ x ∷ []) ≡ true
numbered_one p [] x h g = ap (λ b. b && true) (ap (λ y. y.1) (named-is p x) ∙ g)
numbered_one p (f ∷ fs) x h g =
    let first : (is_named_numbered p f).1 ≡ true = front (is_named_numbered p f).1 (are_numbered p fs) h in
    let rest : are_numbered p fs ≡ true = back (is_named_numbered p f).1 (are_numbered p fs) h in
    ap₂ (λ (a b : Bool). a && b) first (numbered_one p fs x rest g)
  where
    front : (a b : Bool) → (a && b) ≡ true → a ≡ true
    front true b e = refl
    front false b e = absurd cc

    back : (a b : Bool) → (a && b) ≡ true → b ≡ true
    back true b e = e
    back false b e = absurd cc

-- what was found, and behind it what the rest gives, is the whole
pub record FieldsLeft (p : Program) (f : StType → Option Shape) (vs : List held.Variable) (k : ℕ) (fs : List CodeField) : Type 0 where
  pub is : fields_by f (variables_of vs) ≡ option_map (before fs) (fields_by f (variables_of (drop k vs)))
  pub numbered : are_numbered p fs ≡ true

module _ (p : Program) (f : StType → Option Shape) (vs : List held.Variable) where
  pub fields_begun : FieldsLeft p f vs 0 []
  fields_begun = record { is = before_nothing (fields_by f (variables_of vs)); numbered = refl }

  abbrev at_first : Variable → Option Shape → Option Fields → Option Fields
  at_first v a b = a >>= λ sh. b >>= λ rest. Some (field_then v sh rest)

  now_first : (k : ℕ) (v : held.Variable) → k < length vs → v ≡ get_or vs k v → fields_by f (variables_of (drop k vs)) ≡ at_first (variable_of v) (f v.kind.now) (fields_by f (variables_of (drop (k + 1) vs)))
  now_first k v l is = ap (λ us. fields_by f (variables_of us)) (drop-at vs k v l is)

  pub fields_next : (k : ℕ) (v : held.Variable) (o : Option CodeShape) (x : CodeField) (fs new : List CodeField) → k < length vs → v ≡ get_or vs k v → FieldsLeft p f vs k fs → IsFound p (f v.kind.now) o → o ≡ Some x.shape → x.variable ≡ v → new ≡ fs ++ x ∷ [] → FieldsLeft p f vs (k + 1) new
  fields_next k v o x fs new l is left found s e more =
      let rest = fields_by f (variables_of (drop (k + 1) vs)) in
      let shape : f v.kind.now ≡ Some (shape_of x.shape) = sym found.is ∙ ap (option_map shape_of) s in
      let numbered : is_numbered p x.shape ≡ true = ap (is_numbered_at p) (sym s) ∙ found.numbered in
      record {
        is =
            left.is ∙ ap (option_map (before fs)) (now_first k v l is ∙ ap (λ a. at_first (variable_of v) a rest) shape) ∙ one (fields_by f (variables_of (drop (k + 1) vs)))
            ∙ ap (λ ys. option_map (before ys) (fields_by f (variables_of (drop (k + 1) vs)))) (sym more);
        numbered = ap (are_numbered p) more ∙ numbered_one p fs x left.numbered numbered;
      }
    where
      one : (o : Option Fields) → option_map (before fs) (at_first (variable_of v) (Some (shape_of x.shape)) o) ≡ option_map (before (fs ++ x ∷ [])) o
      one None = refl
      one (Some r) =
          ap Some (ap (before fs) (ap (λ (y : Variable). field_then y (shape_of x.shape) r) (ap variable_of (sym e)) ∙ ap (λ z. field_then z.0 z.1 r) (sym (field-is x))) ∙ sym (before_one fs x r))

  pub fields_stopped : (k : ℕ) (v : held.Variable) (o : Option CodeShape) (fs : List CodeField) → k < length vs → v ≡ get_or vs k v → FieldsLeft p f vs k fs → IsFound p (f v.kind.now) o → o ≡ None → AreFound p (fields_by f (variables_of vs)) None
  fields_stopped k v o fs l is left found s = record {
    is =
        sym (left.is ∙ ap (option_map (before fs)) (now_first k v l is ∙ ap (λ a. at_first (variable_of v) a (fields_by f (variables_of (drop (k + 1) vs)))) (sym found.is ∙ ap (option_map shape_of) s)));
    numbered = refl;
  }

  pub fields_ended : (k : ℕ) (fs : List CodeField) → length vs ≤ k → FieldsLeft p f vs k fs → AreFound p (fields_by f (variables_of vs)) (Some fs)
  fields_ended k fs l left = record { is = sym (left.is ∙ ap (λ us. option_map (before fs) (fields_by f (variables_of us))) (drop-end vs k l) ∙ ap Some (before_none fs)); numbered = left.numbered }

-- variables, where there are any
module _ (p : Program) (f : StType → Option Shape) where
  pub no_variables : (o : Option (Bor (List held.Variable))) (fs : List CodeField) → o ≡ None → fs ≡ [] → AreFound p (fields_by f (variables_of (items_at (option_map (λ vs. vs.now) o)))) (Some fs)
  no_variables o fs n e = record {
    is = ap (λ ys. Some (fields_of ys)) e ∙ sym (ap (λ x. fields_by f (variables_of (items_at (option_map (λ vs. vs.now) x)))) n);
    numbered = ap (are_numbered p) e;
  }

  pub of_variables : (o : Option (Bor (List held.Variable))) (b : Bor (List held.Variable)) (vs : List held.Variable) (found : Option (List CodeField)) → o ≡ Some b → vs ≡ b.now → AreFound p (fields_by f (variables_of vs)) found
      → AreFound p (fields_by f (variables_of (items_at (option_map (λ vs. vs.now) o)))) found
  of_variables o b vs found e is are = record {
    is = are.is ∙ ap (λ us. fields_by f (variables_of us)) is ∙ sym (ap (λ x. fields_by f (variables_of (items_at (option_map (λ us. us.now) x)))) e);
    numbered = are.numbered;
  }
