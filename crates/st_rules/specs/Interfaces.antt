-- Interfaces: what they extend and have, and which classes conform to them (IEC 61131-3:2013, 6.6.6). Interfaces are told by their
-- numbers, from 0 in the order of the text.
use Rattle.std.specs.Prelude.{ℕ, zero, suc, Bool, false, ◌&&◌, List, [], ◌∷◌, map, length, Option, Some, None, is_some, option_map, option_and_then, slice_get, filter_map, unwrap_or, if◌then◌else◌}
use Rattle.std.specs.List.{list_any}
use Rattle.st_types.specs.declared.st_type.StType.{StType}
use Rattle.st_types.specs.declared.st_type.StType.TheVariants as type
use Rattle.st_tree.specs.declared.name.Used.{Used}
use Rattle.st_tree.specs.declared.declaration.ClassDecl.{ClassDecl}
use Rattle.st_tree.specs.declared.declaration.InterfaceDecl.{InterfaceDecl}
use Rattle.st_tree.specs.declared.declaration.Prototype.{Prototype}
use Rattle.st_tree.specs.declared.unit.Decl.{Decl}
use Rattle.st_tree.specs.declared.unit.Decl.TheVariants as declaration
use Rattle.st_rules.specs.declared.ids.PrototypeId.{PrototypeId}
use Rattle.st_rules.specs.Named.{first_place}
use Rattle.st_rules.specs.Numbered.{any_numbered}
use Rattle.st_rules.specs.Chains.{is_among, ◌or_else◌, leads_within}
use Rattle.st_rules.specs.Classes.{chain}

-- the interfaces of a unit, in the order of the text
abbrev pub interfaces_in : {A : Type 0} → List (Decl A) → List (InterfaceDecl A)
interfaces_in [] = []
interfaces_in (declaration.Interface i ∷ ds) = i ∷ interfaces_in ds
interfaces_in (_ ∷ ds) = interfaces_in ds

-- the interface that a name means: the first of that name
abbrev pub interface_named : {A : Type 0} → List (InterfaceDecl A) → List ℕ → Option ℕ
interface_named interfaces name = first_place name (map (λ interface. interface.name.text) interfaces)

-- the interfaces that names mean, where they are found
abbrev pub interfaces_named : {A : Type 0} → List (InterfaceDecl A) → List (Used A) → List ℕ
interfaces_named interfaces names = filter_map (λ used. interface_named interfaces used.text) names

-- the interfaces behind EXTENDS of an interface
abbrev pub extended : {A : Type 0} → List (InterfaceDecl A) → ℕ → List ℕ
extended interfaces i = unwrap_or (option_map (λ interface. interfaces_named interfaces interface.bases) (slice_get interfaces i)) []

-- whether an interface is another one or extends it, in any number of steps
unfoldable pub extends : {A : Type 0} → List (InterfaceDecl A) → ℕ → ℕ → Bool
extends interfaces i j = leads_within (extended interfaces) (length interfaces) i j

-- the interfaces behind IMPLEMENTS of a class
abbrev pub implemented : {A : Type 0} → List (ClassDecl A) → List (InterfaceDecl A) → ℕ → List ℕ
implemented classes interfaces c = unwrap_or (option_map (λ class. interfaces_named interfaces class.interfaces) (slice_get classes c)) []

-- whether the class itself implements the interface, or one that extends it
abbrev pub implements_itself : {A : Type 0} → List (ClassDecl A) → List (InterfaceDecl A) → ℕ → ℕ → Bool
implements_itself classes interfaces i c = list_any (λ j. extends interfaces j i) (implemented classes interfaces c)

-- whether a class conforms to a class, an interface or a reference to a class: to itself, its bases, and the interfaces that it or
-- a base implements, with what these extend
unfoldable pub conforms : {A : Type 0} → List (ClassDecl A) → List (InterfaceDecl A) → ℕ → StType → Bool
conforms classes interfaces c (type.Instance d) = is_among d (chain classes c)
conforms classes interfaces c (type.Reference d) = is_among d (chain classes c)
conforms classes interfaces c (type.Interface i) = list_any (implements_itself classes interfaces i) (chain classes c)
conforms classes interfaces c _ = false

-- ---- methods of interfaces

abbrev pub prototype_names : {A : Type 0} → InterfaceDecl A → List (List ℕ)
prototype_names interface = map (λ m. m.name.text) interface.methods

abbrev pub prototype_id : ℕ → ℕ → PrototypeId
prototype_id i m = record { interface = i; method = m }

-- the method of that name that the interface itself declares, the first of two
abbrev pub own_prototype : {A : Type 0} → List (InterfaceDecl A) → List ℕ → ℕ → Option PrototypeId
own_prototype interfaces name i = option_map (prototype_id i) (option_and_then (λ interface. first_place name (prototype_names interface)) (slice_get interfaces i))

abbrev pub declares : {A : Type 0} → List ℕ → InterfaceDecl A → Bool
declares name interface = is_some (first_place name (prototype_names interface))

-- whether an interface, or one that it extends, declares a method of that name
abbrev pub has_prototype : {A : Type 0} → List (InterfaceDecl A) → List ℕ → ℕ → Bool
has_prototype interfaces name i = any_numbered (λ j interface. extends interfaces i j && declares name interface) 0 interfaces

abbrev pub first_with : (ℕ → Bool) → List ℕ → Option ℕ
first_with test [] = None
first_with test (i ∷ is) = if test i then Some i else first_with test is

-- the method that a name means in an interface, past at most so many: its own, or else what the name means in the first interface
-- behind EXTENDS, in written order, that has one
abbrev pub prototype_within : {A : Type 0} → List (InterfaceDecl A) → List ℕ → ℕ → ℕ → Option PrototypeId
prototype_within interfaces name zero i = None
prototype_within interfaces name (suc n) i = own_prototype interfaces name i or_else option_and_then (prototype_within interfaces name n) (first_with (has_prototype interfaces name) (extended interfaces i))

-- the method that a name means in an interface; a way up is no longer than there are interfaces, but on a cycle, where it ends so
unfoldable pub interface_lookup : {A : Type 0} → List (InterfaceDecl A) → ℕ → List ℕ → Option PrototypeId
interface_lookup interfaces i name = prototype_within interfaces name (length interfaces) i

-- the declaration of a method of an interface
abbrev pub prototype_at : {A : Type 0} → List (InterfaceDecl A) → PrototypeId → Option (Prototype A)
prototype_at interfaces id = option_and_then (λ interface. slice_get interface.methods id.method) (slice_get interfaces id.interface)
