-- Routines and sorts of classes by number, in what a unit declares.
use Rattle.std.specs.Prelude.{ℕ, Bool, true, false, List, Option, Some, None, option_and_then, slice_get}
use Rattle.st_tree.specs.declared.declaration.ClassSort.{ClassSort}
use Rattle.st_tree.specs.declared.declaration.ClassSort.TheVariants as class_sort
use Rattle.st_rules.specs.declared.ids.MethodId.{MethodId}
use Rattle.st_rules.specs.declared.ids.PrototypeId.{PrototypeId}
use Rattle.st_rules.specs.declared.names.DeclaredClass.{DeclaredClass}
use Rattle.st_rules.specs.declared.names.DeclaredRoutine.{DeclaredRoutine}

abbrev pub method_at : List DeclaredClass → MethodId → Option DeclaredRoutine
method_at classes id = option_and_then (λ class. slice_get class.methods id.method) (slice_get classes id.class)

abbrev pub prototype_at : List (List DeclaredRoutine) → PrototypeId → Option DeclaredRoutine
prototype_at interfaces id = option_and_then (λ methods. slice_get methods id.method) (slice_get interfaces id.interface)

abbrev pub is_block_sort : ClassSort → Bool
is_block_sort class_sort.FunctionBlock = true
is_block_sort class_sort.Class = false

abbrev pub sort_is_block : Option DeclaredClass → Bool
sort_is_block None = false
sort_is_block (Some class) = is_block_sort class.sort

abbrev pub is_block : List DeclaredClass → ℕ → Bool
is_block classes c = sort_is_block (slice_get classes c)
