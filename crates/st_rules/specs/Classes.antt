-- Classes and function blocks: their bases and methods, and the method that a name means (IEC 61131-3:2013, 6.6.5). Classes are
-- told by their numbers, from 0 in the order of the text, function blocks among them.
use Rattle.std.specs.Prelude.{ℕ, suc, List, [], ◌∷◌, map, length, Option, Some, option_map, option_and_then, slice_get}
use Rattle.st_tree.specs.declared.declaration.ClassDecl.{ClassDecl}
use Rattle.st_tree.specs.declared.declaration.Member.{Member}
use Rattle.st_tree.specs.declared.declaration.Member.TheVariants as member
use Rattle.st_tree.specs.declared.declaration.Method.{Method}
use Rattle.st_tree.specs.declared.unit.Decl.{Decl}
use Rattle.st_tree.specs.declared.unit.Decl.TheVariants as declaration
use Rattle.st_rules.specs.declared.ids.MethodId.{MethodId}
use Rattle.st_rules.specs.Named.{first_place}
use Rattle.st_rules.specs.Chains.{climb, nearest}

-- the classes of a unit, in the order of the text
abbrev pub classes_in : {A : Type 0} → List (Decl A) → List (ClassDecl A)
classes_in [] = []
classes_in (declaration.Class c ∷ ds) = c ∷ classes_in ds
classes_in (_ ∷ ds) = classes_in ds

-- the methods among a class's members, in the order of the text
abbrev pub methods_in : {A : Type 0} → List (Member A) → List (Method A)
methods_in [] = []
methods_in (member.Method m ∷ ms) = m ∷ methods_in ms
methods_in (member.Section s ∷ ms) = methods_in ms

abbrev pub method_names : {A : Type 0} → ClassDecl A → List (List ℕ)
method_names class = map (λ m. m.name.text) (methods_in class.members)

abbrev pub method_id : ℕ → ℕ → MethodId
method_id c m = record { class = c; method = m }

-- the class or function block that a name means: the first of that name
abbrev pub class_named : {A : Type 0} → List (ClassDecl A) → List ℕ → Option ℕ
class_named classes name = first_place name (map (λ class. class.name.text) classes)

-- the base of a class, where it is found
abbrev pub base_of : {A : Type 0} → List (ClassDecl A) → ℕ → Option ℕ
base_of classes c = option_and_then (λ class. option_and_then (λ base. class_named classes base.text) class.base) (slice_get classes c)

-- the chain of a class: the class, its base and so on; it stops before a class that it holds already
unfoldable pub chain : {A : Type 0} → List (ClassDecl A) → ℕ → List ℕ
chain classes c = climb (base_of classes) (suc (length classes)) [] (Some c)

-- the method of that name that the class itself declares, the first of two
abbrev pub own_method : {A : Type 0} → List (ClassDecl A) → List ℕ → ℕ → Option MethodId
own_method classes name c = option_map (method_id c) (option_and_then (λ class. first_place name (method_names class)) (slice_get classes c))

-- the method that a name means in a class: the nearest one of that name in its chain
unfoldable pub lookup : {A : Type 0} → List (ClassDecl A) → ℕ → List ℕ → Option MethodId
lookup classes c name = nearest (own_method classes name) (chain classes c)

-- the declaration of a method
abbrev pub method_at : {A : Type 0} → List (ClassDecl A) → MethodId → Option (Method A)
method_at classes id = option_and_then (λ class. slice_get (methods_in class.members) id.method) (slice_get classes id.class)
