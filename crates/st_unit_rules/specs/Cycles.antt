-- E06: what contains itself by value, and types and constants that need themselves (IEC 61131-3:2013, 6.4.4.2 and 6.5.1.4).
use Rattle.std.specs.Prelude.{ℕ, suc, Bool, true, false, ◌&&◌, if◌then◌else◌, List, [], ◌∷◌, ◌++◌, flat_map, filter, filter_map, length, Option, Some, None, option_map, option_and_then, slice_get}
use Rattle.std.specs.List.{list_any}
use Rattle.plc_text.specs.Words.{same}
use Rattle.plc_text.specs.declared.code.Code.TheVariants.{E05, E06}
use Rattle.st_tree.specs.declared.declaration.ClassDecl.{ClassDecl}
use Rattle.st_tree.specs.declared.declaration.TypeBody.{TypeBody}
use Rattle.st_tree.specs.declared.declaration.TypeBody.TheVariants as body
use Rattle.st_tree.specs.declared.expression.Root.{Root}
use Rattle.st_tree.specs.declared.expression.Root.TheVariants as root
use Rattle.st_tree.specs.declared.name.Used.{Used}
use Rattle.st_tree.specs.declared.type_spec.SimpleSpec.{SimpleSpec}
use Rattle.st_tree.specs.declared.type_spec.SimpleSpec.TheVariants as spec
use Rattle.st_tree.specs.declared.type_spec.TypeSpec.{TypeSpec}
use Rattle.st_tree.specs.Expression.{Expression, Place, Call, Enumerator, Ref, Paren, Not, Negate, Chain, Expressions, no_expressions, expression_then, Selector, Field, Index, Selectors, no_selectors, selector_then, Argument, Positional, Input, Output, Arguments, no_arguments, argument_then, Tails, no_tails, tail_then, expression_of}
use Rattle.st_tree.specs.Initial.{Initial, Value, Array, Fields, Part, One, Repeated, Parts, no_parts, part_then, FieldInits, no_fields, field_then, initial_of}
use Rattle.st_rules.specs.Chains.{leads_within}
use Rattle.st_rules.specs.Faults.{Faults, when}
use Rattle.st_rules.specs.Numbered.{each_numbered}
use Rattle.st_unit_rules.specs.declared_names.WrittenTypes.{dimensions}
use Rattle.st_unit_rules.specs.declared_names.Variables.{Written, sections_written, sections_in, is_kept_written}
use Rattle.st_unit_rules.specs.declared_names.Declarations.{Declaration, an_entry, a_global, an_interface, a_class, a_function, name_of, is_class, item_line}

-- ---- what texts name

pub data Named : Type 0 where
  -- a name alone, or with something behind it that is no `.`
  alone : List ℕ → Named
  before_dot : List ℕ → Named
  -- with its line
  before_hash : ℕ → List ℕ → Named

abbrev pub begins_with_field : Selectors ℕ → Bool
begins_with_field (selector_then (Field k n) ss) = true
begins_with_field _ = false

abbrev pub named_by_root : Root ℕ → Selectors ℕ → List Named
named_by_root (root.Name l name) ss = (if begins_with_field ss then before_dot name else alone name) ∷ []
named_by_root _ ss = []

abbrev mutual
  pub named_in : Expression ℕ → List Named
  named_in (Place l r ss) = named_by_root r ss ++ named_in_selectors ss
  named_in (Call l r ss xs) = named_by_root r ss ++ named_in_selectors ss ++ named_in_arguments xs
  named_in (Enumerator l t k name) = before_hash l t ∷ []
  named_in (Ref l r ss) = named_by_root r ss ++ named_in_selectors ss
  named_in (Paren l e) = named_in e
  named_in (Not l e) = named_in e
  named_in (Negate l e) = named_in e
  named_in (Chain l e ts) = named_in e ++ named_in_tails ts
  named_in _ = []

  pub named_in_tails : Tails ℕ → List Named
  named_in_tails no_tails = []
  named_in_tails (tail_then l o e ts) = named_in e ++ named_in_tails ts

  pub named_in_expressions : Expressions ℕ → List Named
  named_in_expressions no_expressions = []
  named_in_expressions (expression_then e es) = named_in e ++ named_in_expressions es

  pub named_in_selectors : Selectors ℕ → List Named
  named_in_selectors no_selectors = []
  named_in_selectors (selector_then x ss) = named_in_selector x ++ named_in_selectors ss

  -- an index
  pub named_in_selector : Selector ℕ → List Named
  named_in_selector (Index l es) = named_in_expressions es
  named_in_selector _ = []

  pub named_in_arguments : Arguments ℕ → List Named
  named_in_arguments no_arguments = []
  named_in_arguments (argument_then x xs) = named_in_argument x ++ named_in_arguments xs

  pub named_in_argument : Argument ℕ → List Named
  named_in_argument (Positional e) = named_in e
  named_in_argument (Input l n e) = named_in e
  named_in_argument (Output l n k r ss) = named_by_root r ss ++ named_in_selectors ss

abbrev mutual
  pub named_in_initial : Initial ℕ → List Named
  named_in_initial (Value e) = named_in e
  named_in_initial (Array l ps) = named_in_parts ps
  named_in_initial (Fields l fs) = named_in_fields fs

  pub named_in_parts : Parts ℕ → List Named
  named_in_parts no_parts = []
  named_in_parts (part_then p ps) = named_in_part p ++ named_in_parts ps

  pub named_in_part : Part ℕ → List Named
  named_in_part (One i) = named_in_initial i
  named_in_part (Repeated l digits i) = named_in_initial i

  pub named_in_fields : FieldInits ℕ → List Named
  named_in_fields no_fields = []
  named_in_fields (field_then l name i fs) = named_in_initial i ++ named_in_fields fs

-- in the bounds of a type
abbrev pub named_in_bounds : TypeSpec ℕ → List Named
named_in_bounds t = flat_map (λ b. named_in (expression_of b.low) ++ named_in (expression_of b.high)) (dimensions t)

abbrev pub named_in_value : Option (Initial ℕ) → List Named
named_in_value None = []
named_in_value (Some i) = named_in_initial i

-- the type of which a written type is, or an array: references contain nothing
abbrev pub element_names : SimpleSpec ℕ → List (List ℕ)
element_names (spec.Named l name) = name ∷ []
element_names _ = []

-- ---- declarations by place

-- the place of the first declaration of the name that passes
abbrev pub place_from : (Declaration → Bool) → List ℕ → ℕ → List Declaration → Option ℕ
place_from test name i [] = None
place_from test name i (d ∷ ds) = if test d && same (name_of d).text name then Some i else place_from test name (suc i) ds

abbrev pub is_type : Declaration → Bool
is_type (an_entry t) = true
is_type (an_interface i) = true
is_type (a_class c) = true
is_type _ = false

abbrev pub is_global_or_function : Declaration → Bool
is_global_or_function (a_global g) = true
is_global_or_function (a_function f) = true
is_global_or_function _ = false

-- ---- on a cycle, where `ahead` tells what each is directly ahead of

abbrev pub lies_on_cycle : (ℕ → List ℕ) → ℕ → ℕ → Bool
lies_on_cycle ahead count i = list_any (λ k. leads_within ahead count k i) (ahead i)

module _ (ds : List Declaration) where
  abbrev pub type_place : List ℕ → Option ℕ
  type_place name = place_from is_type name 0 ds

  abbrev pub class_place : List ℕ → Option ℕ
  class_place name = place_from is_class name 0 ds

  abbrev pub types_named : List (List ℕ) → List ℕ
  types_named names = filter_map type_place names

  -- ---- containment by value: bases, fields, elements, and the variables, inputs and outputs of a class

  abbrev pub base_place : Option (Used ℕ) → List ℕ
  base_place None = []
  base_place (Some b) = filter_map class_place (b.text ∷ [])

  abbrev pub contained_in_class : ClassDecl ℕ → List ℕ
  contained_in_class d = base_place d.base ++ types_named (flat_map (λ w. element_names w.item.kind.element) (filter is_kept_written (sections_written (sections_in d.members))))

  abbrev pub contained_in_body : TypeBody ℕ → List ℕ
  contained_in_body (body.Alias t) = types_named (element_names t.element)
  contained_in_body (body.Enumeration ns) = []
  contained_in_body (body.Structure gs) = types_named (flat_map (λ g. element_names g.kind.element) gs)

  abbrev pub contained : Option Declaration → List ℕ
  contained (Some (an_entry t)) = contained_in_body t.body
  contained (Some (a_class d)) = contained_in_class d
  contained _ = []

  abbrev pub contained_at : ℕ → List ℕ
  contained_at i = contained (slice_get ds i)

  abbrev pub contains_itself : ℕ → Bool
  contains_itself i = lies_on_cycle contained_at (length ds) i

  -- a declaration is one that contains itself, or leads to one
  abbrev pub leads_to_cycle : ℕ → Bool
  leads_to_cycle i = list_any (λ b. b) (each_numbered (λ j d. (leads_within contained_at (length ds) i j && contains_itself j) ∷ []) 0 ds)

  -- ---- types and constants: what must be told before another can be told

  -- global constants of these names
  abbrev pub constant_place : List ℕ → Option ℕ
  constant_place name = option_and_then of (place_from is_global_or_function name 0 ds)
    where
      if_constant : ℕ → Option Declaration → Option ℕ
      if_constant i (Some (a_global g)) = if g.written.constant then Some i else None
      if_constant i _ = None

      of : ℕ → Option ℕ
      of i = if_constant i (slice_get ds i)

  -- what a name may mean: before `.` stands a constant or a type, before `#` a type
  abbrev pub needed_for : Named → List ℕ
  needed_for (alone name) = filter_map constant_place (name ∷ [])
  needed_for (before_dot name) = filter_map constant_place (name ∷ []) ++ types_named (name ∷ [])
  needed_for (before_hash l name) = types_named (name ∷ [])

  abbrev pub needed_by_type : TypeSpec ℕ → List ℕ
  needed_by_type t = types_named (element_names t.element) ++ flat_map needed_for (named_in_bounds t)

  abbrev pub needed_by_value : Option (Initial ℕ) → List ℕ
  needed_by_value i = flat_map needed_for (named_in_value i)

  -- structures and enumerations are told by their numbers
  abbrev pub needed_by_body : TypeBody ℕ → List ℕ
  needed_by_body (body.Alias t) = needed_by_type t
  needed_by_body _ = []

  abbrev pub needed : Option Declaration → List ℕ
  needed (Some (an_entry t)) = needed_by_body t.body
  needed (Some (a_global g)) = if g.written.constant then needed_by_type g.item.kind ++ needed_by_value (option_map initial_of g.item.initial) else []
  needed _ = []

  abbrev pub needed_at : ℕ → List ℕ
  needed_at i = needed (slice_get ds i)

  abbrev pub needs_itself : ℕ → Bool
  needs_itself i = lies_on_cycle needed_at (length ds) i

  -- the rule of the declaration at a place, at this line
  unfoldable pub cycle_faults : ℕ → ℕ → Faults
  cycle_faults line i = when (contains_itself i) E06 line ++ when (needs_itself i) E06 line

-- ---- constants within a class or a routine

-- the place of the first of the name, if that is a constant
abbrev pub inner_from : List ℕ → ℕ → List Written → Option ℕ
inner_from name i [] = None
inner_from name i (x ∷ xs) = if same x.name.text name then (if x.constant then Some i else None) else inner_from name (suc i) xs

module _ (ws : List Written) where
  abbrev pub inner_place : List ℕ → Option ℕ
  inner_place name = inner_from name 0 ws

  -- no type needs them
  abbrev pub inner_for : Named → List ℕ
  inner_for (alone name) = filter_map inner_place (name ∷ [])
  inner_for (before_dot name) = filter_map inner_place (name ∷ [])
  inner_for (before_hash l name) = []

  abbrev pub inner_needed : Option Written → List ℕ
  inner_needed None = []
  inner_needed (Some w) = if w.constant then flat_map inner_for (named_in_bounds w.item.kind ++ named_in_value (option_map initial_of w.item.initial)) else []

  abbrev pub inner_needed_at : ℕ → List ℕ
  inner_needed_at i = inner_needed (slice_get ws i)

  abbrev pub needs_inner : ℕ → Bool
  needs_inner i = lies_on_cycle inner_needed_at (length ws) i

  abbrev pub inner_cycle : ℕ → Written → Faults
  inner_cycle i w = when (needs_inner i) E06 (item_line w.item)

  -- each constant that needs itself, at its item
  unfoldable pub inner_cycles : Faults
  inner_cycles = each_numbered inner_cycle 0 ws

-- ---- values of a type within its own text

abbrev pub own_value : List ℕ → Named → Faults
own_value name (before_hash l t) = when (same t name) E05 l
own_value name _ = []

-- a type with bounds has no values by name
unfoldable pub own_values : List ℕ → TypeSpec ℕ → Faults
own_values name t = flat_map (own_value name) (named_in_bounds t)
