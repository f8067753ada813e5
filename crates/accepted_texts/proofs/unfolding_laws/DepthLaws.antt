-- A type that a unit tells, with at most so many steps of containment, has a shape.
use Rattle.std.proofs.Common.{◌≡◌, ℕ, zero, suc, ◌+◌, false, List, [], ◌∷◌, length, Option, Some, refl, ap, ◌∙◌, subst, arith}
use Rattle.std.specs.Prelude.{◌&&◌, option_map, slice_get}
use Rattle.std.specs.List.{list_any}
use Rattle.std.proofs.lemmas.Option.{slice_get-map, slice_get_within}
use Rattle.st_types.specs.declared.st_type.StType.{StType, out-StType}
use Rattle.st_types.specs.declared.st_type.StType.TheOpen.{StType-F}
use Rattle.st_tree.specs.declared.declaration.InterfaceDecl.{InterfaceDecl}
use Rattle.st_tree.specs.declared.declaration.TypeBody.{TypeBody}
use Rattle.st_tree.specs.declared.declaration.TypeBody.TheVariants as body
use Rattle.st_tree.specs.declared.name.Name.{Name}
use Rattle.st_tree.specs.declared.program.Note.{Note}
use Rattle.st_tree.specs.declared.program.Program.{Program}
use Rattle.st_tree.specs.declared.unit.Decl.{Decl}
use Rattle.st_rules.specs.declared.names.DeclaredVariable.{DeclaredVariable}
use Rattle.st_rules.specs.Classes.{classes_in}
use Rattle.st_rules.specs.Interfaces.{interfaces_in}
use Rattle.st_rules.proofs.Booleans.{neither, true≢false}
use Rattle.st_unit_rules.specs.declared_names.Declarations.{entries_in}
use Rattle.st_unit_rules.specs.Checked.{TypedTypeBody, TypedEntry, TypedClass, TypedInterface, IsChecked}
use Rattle.st_unit_rules.specs.Limits.{contents, is_composite, has_depth}
use Rattle.st_values.specs.Program.{Interface as SeenInterface}
use Rattle.st_values.specs.Value.{◌>>=◌}
use Rattle.st_values.specs.Shape.{Shape, Elementary, Enumeration, Reference, Interface, Array, extent, values_of, simple_shape, shape_by, shape_within}
use Rattle.st_values.specs.View.{texts, type_body, type_entry, interfaces_from, program_of}
use Rattle.accepted_texts.proofs.unfolding_laws.ListLaws.{there_below, if_there, each_get, each_long, from_get}
use Rattle.accepted_texts.proofs.unfolding_laws.NumberLaws.{IsEnumeration, IsClass, IsInterface, Numbered, NumberedBy, NumberedWithin, opened, element_numbered}
use Rattle.accepted_texts.proofs.unfolding_laws.DeclaredLaws.{scope}
use Rattle.accepted_texts.proofs.unfolding_laws.ChainLaws.{class_seen}
use Rattle.accepted_texts.proofs.unfolding_laws.ShapedLaws.{Shaped}
use Rattle.accepted_texts.proofs.unfolding_laws.StepLaws.{structure_has, class_has}

enumeration_typed : (decls : List (Decl ℕ)) (ns : List Name) (b : TypeBody Note) → TypedTypeBody decls (body.Enumeration ns) b → (ms : List Name) × (b ≡ body.Enumeration ms)
enumeration_typed decls ns (body.Enumeration ms) h = (ms, refl)
enumeration_typed decls ns (body.Alias t) h = absurd h
enumeration_typed decls ns (body.Structure gs) h = absurd h

interfaces_long : (all : List (InterfaceDecl Note)) (i : ℕ) (ds : List (InterfaceDecl Note)) → length (interfaces_from all i ds) ≡ length ds
interfaces_long all i [] = refl
interfaces_long all i (d ∷ ds) = ap suc (interfaces_long all (suc i) ds)

module _ (decls : List (Decl ℕ)) (p : Program) (checked : IsChecked decls p) where
  -- ---- what holds no parts

  enumeration_shaped : (n : ℕ) → IsEnumeration decls n → (sh : Shape) × (simple_shape (program_of p) (StType-F.Enumeration n) ≡ Some sh)
  enumeration_shaped n w =
      let y = if_there (TypedEntry decls) (slice_get (entries_in decls) n) (slice_get p.types n) w.entry w.there (each_get (TypedEntry decls) (entries_in decls) p.types n checked.types) in
      let v = enumeration_typed decls w.values y.0.body (subst (λ b. TypedTypeBody decls b y.0.body) w.is y.2.body) in (
        Enumeration y.0.name.text (texts v.0),
        ap (λ o. o >>= λ t. values_of t.body >>= λ values. Some (Enumeration t.name values)) (slice_get-map type_entry p.types n ∙ ap (option_map type_entry) y.1)
            ∙ ap (λ b. values_of (type_body b) >>= λ values. Some (Enumeration y.0.name.text values)) v.1,
      )

  reference_shaped : (c : ℕ) → IsClass decls c → (sh : Shape) × (simple_shape (program_of p) (StType-F.Reference c) ≡ Some sh)
  reference_shaped c w =
      let y = if_there (TypedClass decls (0 + c)) (slice_get (classes_in decls) c) (slice_get p.classes c) w.item w.there (from_get (TypedClass decls) 0 (classes_in decls) p.classes c checked.classes) in
      (Reference c y.0.name.text, ap (option_map (λ k. Reference c k.name)) (class_seen p c y.0 y.1))

  interface_shaped : (i : ℕ) → IsInterface decls i → (sh : Shape) × (simple_shape (program_of p) (StType-F.Interface i) ≡ Some sh)
  interface_shaped i w =
      let all = interfaces_from p.interfaces 0 p.interfaces in
      let a = slice_get_within (interfaces_in decls) i w.item w.there in
      let b = each_long (TypedInterface decls) (interfaces_in decls) p.interfaces checked.interfaces in
      let c = interfaces_long p.interfaces 0 p.interfaces in
      let y = there_below all i (omega (arith, a, b, c)) in
      (Interface i y.item.name, ap (option_map (λ (k : SeenInterface). Interface i k.name)) y.there)

  module _ (locals : List DeclaredVariable) where
    simple_has : (o : StType-F StType) → NumberedBy decls (NumberedWithin decls zero) o → is_composite (scope decls locals) o ≡ false → (sh : Shape) × (simple_shape (program_of p) o ≡ Some sh)
    simple_has (StType-F.Elementary e) w h = (Elementary e, refl)
    simple_has (StType-F.Enumeration n) w h = enumeration_shaped n w
    simple_has (StType-F.Reference c) w h = reference_shaped c w
    simple_has (StType-F.Interface i) w h = interface_shaped i w
    simple_has (StType-F.Array low high of) w h = absurd (true≢false h)
    simple_has (StType-F.Structure n) w h = absurd (true≢false h)
    simple_has (StType-F.Instance c) w h = absurd (true≢false h)

    -- ---- one level

    array_has : (f : StType → Option Shape) (of : StType) → Shaped f of → (g : Shape → Shape) → (sh : Shape) × (option_map g (f of) ≡ Some sh)
    array_has f of h g = (g h.shape, ap (option_map g) h.is)

    level_has : (n : ℕ) → ((t : StType) → Numbered decls t → has_depth (scope decls locals) n t ≡ false → Shaped (shape_within (program_of p) n) t) → (t : StType) (o : StType-F StType) → out-StType t ≡ o → Numbered decls t
        → (is_composite (scope decls locals) o && list_any (has_depth (scope decls locals) n) (contents (scope decls locals) o)) ≡ false → (sh : Shape) × (shape_by (program_of p) (shape_within (program_of p) n) o ≡ Some sh)
    level_has n below t (StType-F.Elementary e) q u h = (Elementary e, refl)
    level_has n below t (StType-F.Enumeration k) q u h = enumeration_shaped k (opened decls t (StType-F.Enumeration k) zero q u)
    level_has n below t (StType-F.Reference c) q u h = reference_shaped c (opened decls t (StType-F.Reference c) zero q u)
    level_has n below t (StType-F.Interface i) q u h = interface_shaped i (opened decls t (StType-F.Interface i) zero q u)
    level_has n below t (StType-F.Array low high of) q u h =
        let b = neither (has_depth (scope decls locals) n of) false h in
        array_has (shape_within (program_of p) n) of (below of (element_numbered decls t of low high q u) b.0) (Array low (extent low high))
    level_has n below t (StType-F.Structure k) q u h = structure_has decls p checked locals n below k (opened decls t (StType-F.Structure k) zero q u) h
    level_has n below t (StType-F.Instance c) q u h = class_has decls p checked locals n below c (opened decls t (StType-F.Instance c) zero q u) h

    -- ---- all levels

    pub shaped : (n : ℕ) (t : StType) → Numbered decls t → has_depth (scope decls locals) n t ≡ false → Shaped (shape_within (program_of p) n) t
    shaped zero t u h =
        let r = simple_has (out-StType t) (opened decls t (out-StType t) zero refl u) h in
        record { shape = r.0; is = r.1 }
    shaped (suc n) t u h =
        let r = level_has n (shaped n) t (out-StType t) refl u h in
        record { shape = r.0; is = r.1 }
