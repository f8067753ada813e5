-- The instances that are found so far, and those that are left.
use Rattle.std.proofs.Common.{◌≡◌, ◌≤◌, ◌<◌, ℕ, zero, suc, ◌+◌, ◌-◌, ℤ, pos, List, [], ◌∷◌, ◌++◌, length, drop, get_or, map, append_assoc, append-nil, Option, Some, None, refl, sym, ap, ◌∙◌, arith, add-one, subst}
use Rattle.std.proofs.lemmas.List.{map-append}
use Rattle.std.specs.Prelude.{◌+ℤ◌, option_and_then, option_map, slice_get}
use Rattle.st_types.specs.declared.elem.Elem.{Elem}
use Rattle.st_types.specs.declared.st_type.StType.{StType, out-StType}
use Rattle.st_types.specs.declared.st_type.StType.TheVariants as type
use Rattle.st_types.specs.declared.st_type.StType.TheOpen.{StType-F}
use Rattle.st_tree.specs.declared.path.Path.{Path}
use Rattle.st_tree.specs.declared.path.Step.TheVariants as step
use Rattle.st_rules.proofs.ListLaws.{drop-at, drop-end}
use Rattle.program_tables.specs.declared.st_initial.variables.Variable as held
use Rattle.program_tables.specs.st_initial.Variables.{variable_of, variables_of, fields_at, or_none}
use Rattle.st_values.specs.Program.{Variable, TypeBody, an_alias, an_enumeration, a_structure, TypeEntry, Class, Program, class_at, class_variables}
use Rattle.st_values.specs.Shape.{Shape, Elementary, Enumeration, Reference, Interface, Array, Structure, Instance, Fields, no_fields, field_then, extent, fields_by, values_of, fields_of, simple_shape, shape_by, shape_within}
use Rattle.st_values.specs.Value.{◌>>=◌}
use Rattle.st_change.specs.Instances.{further, along_elements, members_first, fields_first}
use Rattle.reference_start.specs.declared.instances.Instance.{Instance as CodeInstance}
use Rattle.reference_start.specs.Private.Instances.{bare, instance_of, all_of, in_type, in_fields, in_elements, AddsType, AddsFields, AddsElements}

-- ---- types without parts

enumerated : (q : Path) (t : TypeEntry) (b : TypeBody) (sh : Shape) → (values_of b >>= λ values. Some (Enumeration t.name values)) ≡ Some sh → in_type sh q ≡ []
enumerated q t an_alias sh e = absurd cc
enumerated q t (an_enumeration values) sh e = let s : Enumeration t.name values ≡ sh = cc in ap (λ x. in_type x q) (sym s)
enumerated q t (a_structure fields) sh e = absurd cc

in_enumeration : (q : Path) (o : Option TypeEntry) (sh : Shape) → (o >>= λ t. values_of t.body >>= λ values. Some (Enumeration t.name values)) ≡ Some sh → in_type sh q ≡ []
in_enumeration q None sh e = absurd cc
in_enumeration q (Some t) sh e = enumerated q t t.body sh e

in_named : {A : Type 0} (q : Path) (f : A → Shape) (o : Option A) (sh : Shape) → ((a : A) → in_type (f a) q ≡ []) → option_map f o ≡ Some sh → in_type sh q ≡ []
in_named q f None sh h e = absurd cc
in_named q f (Some a) sh h e = let s : f a ≡ sh = cc in ap (λ x. in_type x q) (sym s) ∙ h a

module _ (p : Program) (q : Path) where
  in_simple : (o : StType-F StType) (sh : Shape) → simple_shape p o ≡ Some sh → in_type sh q ≡ []
  in_simple (StType-F.Elementary k) sh e = let s : Elementary k ≡ sh = cc in ap (λ x. in_type x q) (sym s)
  in_simple (StType-F.Enumeration n) sh e = in_enumeration q (slice_get p.types n) sh e
  in_simple (StType-F.Reference c) sh e = in_named q (λ k. Reference c k.name) (class_at p c) sh (λ a. refl) e
  in_simple (StType-F.Interface i) sh e = in_named q (λ k. Interface i k.name) (slice_get p.interfaces i) sh (λ a. refl) e
  in_simple (StType-F.Structure n) sh e = absurd cc
  in_simple (StType-F.Array low high of) sh e = absurd cc
  in_simple (StType-F.Instance c) sh e = absurd cc

  module _ (t : StType) (xs : List CodeInstance) where
    adds_none : (n : ℕ) → ((sh : Shape) → shape_within p n t ≡ Some sh → in_type sh q ≡ []) → AddsType p n t q xs xs
    adds_none n h = record { by = λ sh e. sym (ap (λ ys. all_of xs ++ ys) (h sh e) ∙ append-nil (all_of xs)) }

    pub adds_at_zero : (n : ℕ) → n ≡ 0 → AddsType p n t q xs xs
    adds_at_zero n z = adds_none n (λ sh e. in_simple (out-StType t) sh (ap (λ m. shape_within p m t) (sym z) ∙ e))

    of_simple : (n : ℕ) (o : StType-F StType) → out-StType t ≡ o → ((f : StType → Option Shape) → shape_by p f o ≡ simple_shape p o) → AddsType p n t q xs xs
    of_simple zero o h s = adds_at_zero zero refl
    of_simple (suc n) o h s = adds_none (suc n) (λ sh e. in_simple o sh (sym (s (shape_within p n)) ∙ ap (shape_by p (shape_within p n)) (sym h) ∙ e))

    pub adds_elementary : (n : ℕ) (e : Elem) → t ≡ type.Elementary e → AddsType p n t q xs xs
    adds_elementary n e h = of_simple n (StType-F.Elementary e) (ap out-StType h ∙ type.outs-Elementary e) (λ f. refl)

    pub adds_enumeration : (n k : ℕ) → t ≡ type.Enumeration k → AddsType p n t q xs xs
    adds_enumeration n k h = of_simple n (StType-F.Enumeration k) (ap out-StType h ∙ type.outs-Enumeration k) (λ f. refl)

    pub adds_reference : (n c : ℕ) → t ≡ type.Reference c → AddsType p n t q xs xs
    adds_reference n c h = of_simple n (StType-F.Reference c) (ap out-StType h ∙ type.outs-Reference c) (λ f. refl)

    pub adds_interface : (n i : ℕ) → t ≡ type.Interface i → AddsType p n t q xs xs
    adds_interface n i h = of_simple n (StType-F.Interface i) (ap out-StType h ∙ type.outs-Interface i) (λ f. refl)

-- ---- types with parts

of_array : (q : Path) (low : ℤ) (count : ℕ) (o : Option Shape) (sh : Shape) → option_map (Array low count) o ≡ Some sh → (x : Shape) × (o ≡ Some x) × (in_type sh q ≡ in_elements x q low count)
of_array q low count None sh e = absurd cc
of_array q low count (Some x) sh e = let s : Array low count x ≡ sh = cc in (x, refl, ap (λ y. in_type y q) (sym s))

of_fields : (q : Path) (name : List ℕ) (o : Option Fields) (sh : Shape) → (o >>= λ fs. Some (Structure name fs)) ≡ Some sh → (fs : Fields) × (o ≡ Some fs) × (in_type sh q ≡ in_fields fs q 0)
of_fields q name None sh e = absurd cc
of_fields q name (Some fs) sh e = let s : Structure name fs ≡ sh = cc in (fs, refl, ap (λ y. in_type y q) (sym s))

of_structure : (q : Path) (f : StType → Option Shape) (name : List ℕ) (b : TypeBody) (sh : Shape) → (fields_of b >>= λ vs. fields_by f vs >>= λ fs. Some (Structure name fs)) ≡ Some sh
    → (fs : Fields) × (fields_by f (or_none (fields_of b)) ≡ Some fs) × (in_type sh q ≡ in_fields fs q 0)
of_structure q f name an_alias sh e = absurd cc
of_structure q f name (an_enumeration values) sh e = absurd cc
of_structure q f name (a_structure vs) sh e = of_fields q name (fields_by f vs) sh e

in_entry : (q : Path) (f : StType → Option Shape) (o : Option TypeEntry) (sh : Shape) → (o >>= λ t. fields_of t.body >>= λ vs. fields_by f vs >>= λ fs. Some (Structure t.name fs)) ≡ Some sh
    → (fs : Fields) × (fields_by f (or_none (option_and_then (λ t. fields_of t.body) o)) ≡ Some fs) × (in_type sh q ≡ in_fields fs q 0)
in_entry q f None sh e = absurd cc
in_entry q f (Some t) sh e = of_structure q f t.name t.body sh e

of_class : (q : Path) (c : ℕ) (name : List ℕ) (o : Option Fields) (sh : Shape) → (o >>= λ fs. Some (Instance c name fs)) ≡ Some sh → (fs : Fields) × (o ≡ Some fs) × (in_type sh q ≡ in_fields fs q 0 ++ (q, c) ∷ [])
of_class q c name None sh e = absurd cc
of_class q c name (Some fs) sh e =
    let s : Instance c name fs ≡ sh = cc in
    (fs, refl, ap (λ y. in_type y q) (sym s) ∙ map-append bare (fields_first fs q 0) (record { path = q; class = c; name = name } ∷ []))

in_class : (q : Path) (f : StType → Option Shape) (c : ℕ) (vs : List Variable) (o : Option Class) (sh : Shape) → (o >>= λ k. fields_by f vs >>= λ fs. Some (Instance c k.name fs)) ≡ Some sh
    → (fs : Fields) × (fields_by f vs ≡ Some fs) × (in_type sh q ≡ in_fields fs q 0 ++ (q, c) ∷ [])
in_class q f c vs None sh e = absurd cc
in_class q f c vs (Some k) sh e = of_class q c k.name (fields_by f vs) sh e

module _ (p : Program) (q : Path) (t : StType) where
  by_level : (n : ℕ) (o : StType-F StType) (sh : Shape) → 0 < n → out-StType t ≡ o → shape_within p n t ≡ Some sh → shape_by p (shape_within p (n - 1)) o ≡ Some sh
  by_level zero o sh l h e = absurd (omega arith)
  by_level (suc n) o sh l h e = let m : suc n - 1 ≡ n = omega arith in ap (λ k. shape_by p (shape_within p k) o) m ∙ ap (shape_by p (shape_within p n)) (sym h) ∙ e

  pub adds_array : (n : ℕ) (low high : ℤ) (of : StType) (xs ys : List CodeInstance) → 0 < n → t ≡ type.Array low high of → AddsElements p (n - 1) of q low (extent low high) xs ys → AddsType p n t q xs ys
  adds_array n low high of xs ys l h added = record {
    by = λ sh e.
        let a = of_array q low (extent low high) (shape_within p (n - 1) of) sh (by_level n (StType-F.Array low high of) sh l (ap out-StType h ∙ type.outs-Array low high of) e) in
        added.by a.0 a.1 ∙ ap (λ zs. all_of xs ++ zs) (sym a.2);
  }

  pub adds_structure : (n k : ℕ) (vs : List Variable) (xs ys : List CodeInstance) → 0 < n → t ≡ type.Structure k → vs ≡ fields_at p k → AddsFields p (n - 1) vs q xs ys → AddsType p n t q xs ys
  adds_structure n k vs xs ys l h is added = record {
    by = λ sh e.
        let a = in_entry q (shape_within p (n - 1)) (slice_get p.types k) sh (by_level n (StType-F.Structure k) sh l (ap out-StType h ∙ type.outs-Structure k) e) in
        added.by a.0 (ap (fields_by (shape_within p (n - 1))) is ∙ a.1) ∙ ap (λ zs. all_of xs ++ zs) (sym a.2);
  }

  pub adds_instance : (n c : ℕ) (vs : List Variable) (xs ys zs : List CodeInstance) → 0 < n → t ≡ type.Instance c → vs ≡ class_variables p c → AddsFields p (n - 1) vs q xs ys → zs ≡ ys ++ (record { path = q; class = c } ∷ []) → AddsType p n t q xs zs
  adds_instance n c vs xs ys zs l h is added more = record {
    by = λ sh e.
        let a = in_class q (shape_within p (n - 1)) c (class_variables p c) (class_at p c) sh (by_level n (StType-F.Instance c) sh l (ap out-StType h ∙ type.outs-Instance c) e) in
        ap all_of more ∙ map-append instance_of ys (record { path = q; class = c } ∷ [])
        ∙ ap (λ us. us ++ (q, c) ∷ []) (added.by a.0 (ap (fields_by (shape_within p (n - 1))) is ∙ a.1))
        ∙ append_assoc (all_of xs) (in_fields a.0 q 0) ((q, c) ∷ [])
        ∙ ap (λ us. all_of xs ++ us) (sym a.2);
  }

-- ---- fields

-- what is left, behind what was found, makes the whole
pub record FieldsLeft (p : Program) (n : ℕ) (vs : List held.Variable) (q : Path) (k : ℕ) (before now : List CodeInstance) : Type 0 where
  pub by : (fs : Fields) → fields_by (shape_within p n) (variables_of vs) ≡ Some fs
      → (rest : Fields) × (fields_by (shape_within p n) (variables_of (drop k vs)) ≡ Some rest) × (all_of now ++ in_fields rest q k ≡ all_of before ++ in_fields fs q 0)

split_fields : (v : Variable) (a : Option Shape) (b : Option Fields) (fs : Fields) → (a >>= λ sh. b >>= λ rest. Some (field_then v sh rest)) ≡ Some fs
    → (sh : Shape) × (rest : Fields) × (a ≡ Some sh) × (b ≡ Some rest) × (fs ≡ field_then v sh rest)
split_fields v None b fs e = absurd cc
split_fields v (Some sh) None fs e = absurd cc
split_fields v (Some sh) (Some rest) fs e = (sh, rest, refl, refl, cc)

joins : (a b c d x y : List (Path × ℕ)) → a ≡ b ++ x → b ++ (x ++ y) ≡ c ++ d → a ++ y ≡ c ++ d
joins a b c d x y e h = ap (λ us. us ++ y) e ∙ append_assoc b x y ∙ h

module _ (p : Program) (n : ℕ) (vs : List held.Variable) (q : Path) (before : List CodeInstance) where
  pub fields_begun : FieldsLeft p n vs q 0 before before
  fields_begun = record { by = λ fs e. (fs, e, refl) }

  pub fields_next : (k : ℕ) (v : held.Variable) (now after : List CodeInstance) → k < length vs → v ≡ get_or vs k v → FieldsLeft p n vs q k before now → AddsType p n (variable_of v).kind (further q (step.Field k)) now after → FieldsLeft p n vs q (k + 1) before after
  fields_next k v now after l is left added = record {
    by = λ fs e.
        let a = left.by fs e in
        let s = split_fields (variable_of v) (shape_within p n (variable_of v).kind) (fields_by (shape_within p n) (variables_of (drop (k + 1) vs))) a.0
        (ap (λ us. fields_by (shape_within p n) (variables_of us)) (sym (drop-at vs k v l is)) ∙ a.1) in (
          s.1,
          s.3,
          joins (all_of after) (all_of now) (all_of before) (in_fields fs q 0) (in_type s.0 (further q (step.Field k))) (in_fields s.1 q (k + 1)) (added.by s.0 s.2)
              (ap (λ us. all_of now ++ us)
              (ap (λ j. in_type s.0 (further q (step.Field k)) ++ in_fields s.1 q j) (add-one k)
              ∙ sym (map-append bare (members_first s.0 (further q (step.Field k))) (fields_first s.1 q (suc k)))
              ∙ ap (λ x. in_fields x q k) (sym s.4))
              ∙ a.2),
        );
  }

  pub fields_ended : (k : ℕ) (now : List CodeInstance) → length vs ≤ k → FieldsLeft p n vs q k before now → AddsFields p n (variables_of vs) q before now
  fields_ended k now l left = record {
    by = λ fs e.
        let a = left.by fs e in
        let none : Some no_fields ≡ Some a.0 = ap (λ us. fields_by (shape_within p n) (variables_of us)) (sym (drop-end vs k l)) ∙ a.1 in
        let is : no_fields ≡ a.0 = cc in
        sym (append-nil (all_of now)) ∙ ap (λ x. all_of now ++ in_fields x q k) is ∙ a.2;
  }

pub no_variables : (p : Program) (n : ℕ) (q : Path) (xs : List CodeInstance) → AddsFields p n [] q xs xs
no_variables p n q xs = record {
  by = λ fs e. let is : no_fields ≡ fs = cc in sym (ap (λ x. all_of xs ++ in_fields x q 0) (sym is) ∙ append-nil (all_of xs));
}

-- ---- elements

pub record ElementsLeft (p : Program) (n : ℕ) (t : StType) (q : Path) (low i : ℤ) (count left : ℕ) (before now : List CodeInstance) : Type 0 where
  pub by : (sh : Shape) → shape_within p n t ≡ Some sh → all_of now ++ in_elements sh q i left ≡ all_of before ++ in_elements sh q low count

module _ (p : Program) (n : ℕ) (t : StType) (q : Path) (low : ℤ) (count : ℕ) (before : List CodeInstance) where
  pub elements_begun : ElementsLeft p n t q low low count count before before
  elements_begun = record { by = λ sh e. refl }

  pub elements_next : (i : ℤ) (left : ℕ) (now after : List CodeInstance) → 0 < left → ElementsLeft p n t q low i count left before now → AddsType p n t (further q (step.Element i)) now after → ElementsLeft p n t q low (i +ℤ pos 1) count (left - 1) before after
  elements_next i zero now after l h added = absurd (omega arith)
  elements_next i (suc left) now after l h added =
      let m : left ≡ suc left - 1 = omega arith in
      subst (λ (k : ℕ). ElementsLeft p n t q low (i +ℤ pos 1) count k before after) m (record {
        by = λ sh e.
            joins (all_of after) (all_of now) (all_of before) (in_elements sh q low count) (in_type sh (further q (step.Element i))) (in_elements sh q (i +ℤ pos 1) left) (added.by sh e)
            (ap (λ us. all_of now ++ us) (sym (map-append bare (members_first sh (further q (step.Element i))) (along_elements (members_first sh) q (i +ℤ pos 1) left))) ∙ h.by sh e);
      })

  pub elements_ended : (i : ℤ) (left : ℕ) (now : List CodeInstance) → left ≤ 0 → ElementsLeft p n t q low i count left before now → AddsElements p n t q low count before now
  elements_ended i zero now l h = record { by = λ sh e. sym (append-nil (all_of now)) ∙ h.by sh e }
  elements_ended i (suc left) now l h = absurd (omega arith)
