-- What the code lends of texts, and what parts of texts name.
use Rattle.std.specs.Prelude.{ℕ, Bool, true, false, if◌then◌else◌, List, ◌++◌, map, flat_map}
use Rattle.st_tree.specs.declared.expression.Root.{Root}
use Rattle.st_tree.specs.declared.type_spec.ArraySpec.{ArraySpec}
use Rattle.st_tree.specs.declared.type_spec.Bounds.{Bounds}
use Rattle.st_tree.specs.Expression.{Selector, Field, Selectors, expression_of}
use Rattle.st_rules.specs.Faults.{Faults}
use Rattle.st_unit_rules.specs.Cycles.{Named, alone, before_dot, before_hash, named_by_root, named_in, named_in_selectors, own_value}
use Rattle.declared_graph.specs.declared.names.Named.{Named as Lent}
use Rattle.declared_graph.specs.declared.names.Named.TheVariants as lent

abbrev pub named_as : Lent → Named
named_as (lent.Alone name) = alone name.now
named_as (lent.BeforeDot name) = before_dot name.now
named_as (lent.BeforeHash l name) = before_hash l name.now

abbrev pub all_named : List Lent → List Named
all_named ns = map named_as ns

abbrev pub is_field : Selector ℕ → Bool
is_field (Field l name) = true
is_field _ = false

abbrev pub named_with : Bool → List ℕ → Named
named_with dot name = if dot then before_dot name else alone name

abbrev pub named_in_place : Root ℕ → Selectors ℕ → List Named
named_in_place r ss = named_by_root r ss ++ named_in_selectors ss

abbrev pub named_in_bound : Bounds ℕ → List Named
named_in_bound b = named_in (expression_of b.low) ++ named_in (expression_of b.high)

abbrev pub named_in_arrays : List (ArraySpec ℕ) → List Named
named_in_arrays as' = flat_map (λ a. flat_map named_in_bound a.bounds) as'

abbrev pub own_value_lent : List ℕ → Lent → Faults
own_value_lent name n = own_value name (named_as n)
