-- What declarations need, part by part.
use Rattle.std.proofs.Common.{◌≡◌, ℕ, Bool, true, false, List, [], ◌∷◌, ◌++◌, refl, sym, ap, ◌∙◌, append_assoc}
use Rattle.std.specs.Prelude.{flat_map, option_map, ◌&&◌, if◌then◌else◌}
use Rattle.std.proofs.lemmas.Grind.{flat_map-append}
use Rattle.st_tree.specs.declared.declaration.Item.{Item}
use Rattle.st_tree.specs.declared.type_spec.TypeSpec.{TypeSpec}
use Rattle.st_tree.specs.Initial.{initial_of}
use Rattle.st_unit_rules.specs.declared_names.Declarations.{Declaration, Global, a_global}
use Rattle.st_unit_rules.specs.Cycles.{Named, types_named, element_names, named_in_bounds, named_in_value, needed_for, needed_by_type}
use Rattle.declared_graph.specs.declared.names.Named.{Named as Lent}
use Rattle.declared_graph.specs.Private.Names.{named_as, all_named}
use Rattle.declared_graph.specs.Private.Needed.{needed_for_lent, needed_by_item, needed_by_global, needed_once}

pub by_lent : {X : Type 0} (f : Named → List X) (ns : List Lent) → flat_map (λ n. f (named_as n)) ns ≡ flat_map f (all_named ns)
by_lent f [] = refl
by_lent f (n ∷ ns) = ap (λ ys. f (named_as n) ++ ys) (by_lent f ns)

module _ (ds : List Declaration) where
  pub type_needs : (t : TypeSpec ℕ) (ns : List Lent) → all_named ns ≡ named_in_bounds t → types_named ds (element_names t.element) ++ flat_map (needed_for_lent ds) ns ≡ needed_by_type ds t
  type_needs t ns e = ap (λ ys. types_named ds (element_names t.element) ++ ys) (by_lent (needed_for ds) ns ∙ ap (flat_map (needed_for ds)) e)

  pub item_needs : (item : Item ℕ) (ns : List Lent) → all_named ns ≡ named_in_bounds item.kind ++ named_in_value (option_map initial_of item.initial)
      → types_named ds (element_names item.kind.element) ++ flat_map (needed_for_lent ds) ns ≡ needed_by_item ds item
  item_needs item ns e =
      ap (λ ys. types_named ds (element_names item.kind.element) ++ ys)
      (by_lent (needed_for ds) ns ∙ ap (flat_map (needed_for ds)) e ∙ flat_map-append (needed_for ds) (named_in_bounds item.kind) (named_in_value (option_map initial_of item.initial)))
      ∙ sym (append_assoc (types_named ds (element_names item.kind.element)) (flat_map (needed_for ds) (named_in_bounds item.kind)) (flat_map (needed_for ds) (named_in_value (option_map initial_of item.initial))))

  both_needs : (a b : Bool) (xs : List ℕ) → (if a && b then xs else []) ≡ (if a then (if b then xs else []) else [])
  both_needs true b xs = refl
  both_needs false b xs = refl

  pub global_needs : (g : Global) → needed_by_global ds g ≡ needed_once ds (a_global g)
  global_needs g = both_needs g.first g.written.constant (needed_by_item ds g.item)
