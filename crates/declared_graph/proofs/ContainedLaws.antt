-- What declarations contain, part by part.
use Rattle.std.proofs.Common.{◌≡◌, ℕ, Bool, true, false, List, [], ◌∷◌, ◌++◌, map, refl, sym, ap, ◌∙◌}
use Rattle.std.specs.Prelude.{flat_map, filter}
use Rattle.std.proofs.lemmas.List.Elements.{filter_map-append}
use Rattle.graph_reach.specs.declared.threads.Edge.{Edge}
use Rattle.st_tree.specs.declared.declaration.ClassDecl.{ClassDecl}
use Rattle.st_tree.specs.declared.declaration.FieldGroup.{FieldGroup}
use Rattle.st_unit_rules.specs.declared_names.Variables.{Written, is_kept_written, sections_written, sections_in}
use Rattle.st_unit_rules.specs.declared_names.Declarations.{Declaration}
use Rattle.st_unit_rules.specs.Cycles.{type_place, types_named, element_names, base_place, contained_in_class}
use Rattle.st_unit_rules.specs.declared.declaration_list.written.WrittenName.{WrittenName}
use Rattle.st_unit_rules.specs.declaration_list.Written.{written_of}
use Rattle.declared_graph.specs.Private.Edges.{edges_to}
use Rattle.declared_graph.specs.Private.Contained.{group_places, kept_places, name_places}
use Rattle.declared_graph.proofs.PlaceLaws.{two_steps}

module _ (ds : List Declaration) where
  pub groups_are : (gs : List (FieldGroup ℕ)) → flat_map (group_places ds) gs ≡ types_named ds (flat_map (λ g. element_names g.kind.element) gs)
  groups_are [] = refl
  groups_are (g ∷ gs) = ap (λ ys. group_places ds g ++ ys) (groups_are gs) ∙ sym (filter_map-append (type_place ds) (element_names g.kind.element) (flat_map (λ (g : FieldGroup ℕ). element_names g.kind.element) gs))

  kept_next : (w : Written) (ws : List Written) (b : Bool) → is_kept_written w ≡ b → kept_places ds w ++ types_named ds (flat_map (λ w. element_names w.item.kind.element) (filter is_kept_written ws)) ≡ types_named ds (flat_map (λ w. element_names w.item.kind.element) (filter is_kept_written (w ∷ ws)))
  kept_next w ws true e = simp (e, sym (filter_map-append (type_place ds) (element_names w.item.kind.element) (flat_map (λ (w : Written). element_names w.item.kind.element) (filter is_kept_written ws))))
  kept_next w ws false e = simp (e)

  kept_are : (xs : List WrittenName) → flat_map (name_places ds) xs ≡ types_named ds (flat_map (λ w. element_names w.item.kind.element) (filter is_kept_written (map written_of xs)))
  kept_are [] = refl
  kept_are (x ∷ xs) = ap (λ ys. name_places ds x ++ ys) (kept_are xs) ∙ kept_next (written_of x) (map written_of xs) _ refl

  pub class_places : (d : ClassDecl ℕ) (xs : List WrittenName) → map written_of xs ≡ sections_written (sections_in d.members) → base_place ds d.base ++ flat_map (name_places ds) xs ≡ contained_in_class ds d
  class_places d xs e = ap (λ ys. base_place ds d.base ++ ys) (kept_are xs ∙ ap (λ ws. types_named ds (flat_map (λ (w : Written). element_names w.item.kind.element) (filter is_kept_written ws))) e)

  pub class_edges : (d : ClassDecl ℕ) (xs : List WrittenName) → map written_of xs ≡ sections_written (sections_in d.members) → (from : ℕ) (old mid new : List Edge) → mid ≡ old ++ edges_to from (base_place ds d.base)
      → new ≡ mid ++ edges_to from (flat_map (name_places ds) xs) → new ≡ old ++ edges_to from (contained_in_class ds d)
  class_edges d xs e from old mid new h k = two_steps from (base_place ds d.base) (flat_map (name_places ds) xs) (contained_in_class ds d) (class_places d xs e) old mid new h k
