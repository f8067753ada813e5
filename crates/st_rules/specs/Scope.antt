-- What is in scope where a text stands, and what a name means there (IEC 61131-3:2013, 6.5.2.2, 6.6.5 and 6.6.6).
use Rattle.std.specs.Prelude.{ℕ, suc, nat_eq, Bool, true, false, not, ◌&&◌, ◌||◌, if◌then◌else◌, List, [], ◌∷◌, filter, Option, Some, None, option_map, option_and_then, slice_get}
use Rattle.std.specs.Option.{is_some}
use Rattle.std.specs.List.{list_any}
use Rattle.plc_text.specs.Words.{same}
use Rattle.st_types.specs.declared.st_type.StType.{StType}
use Rattle.st_types.specs.declared.st_type.StType.TheVariants as type
use Rattle.st_tree.specs.declared.declaration.SectionSort.{SectionSort}
use Rattle.st_tree.specs.declared.declaration.SectionSort.TheVariants as sort
use Rattle.st_tree.specs.declared.declaration.ClassSort.{ClassSort}
use Rattle.st_tree.specs.declared.declaration.ClassSort.TheVariants as class_sort
use Rattle.st_tree.specs.declared.declaration.ClassDecl.{ClassDecl}
use Rattle.st_tree.specs.declared.declaration.InterfaceDecl.{InterfaceDecl}
use Rattle.st_rules.specs.declared.ids.MethodId.{MethodId}
use Rattle.st_rules.specs.declared.ids.PrototypeId.{PrototypeId}
use Rattle.st_rules.specs.declared.modifiers.Access.{Access}
use Rattle.st_rules.specs.declared.modifiers.Access.TheVariants.{Public, Protected, Private}
use Rattle.st_rules.specs.declared.names.DeclaredVariable.{DeclaredVariable}
use Rattle.st_rules.specs.declared.names.DeclaredRoutine.{DeclaredRoutine}
use Rattle.st_rules.specs.declared.names.DeclaredClass.{DeclaredClass}
use Rattle.st_rules.specs.declared.names.DeclaredField.{DeclaredField}
use Rattle.st_rules.specs.declared.names.DeclaredType.{DeclaredType}
use Rattle.st_rules.specs.declared.names.DeclaredGlobal.{DeclaredGlobal}
use Rattle.st_rules.specs.declared.names.DeclaredGlobal.TheVariants as global
use Rattle.st_rules.specs.declared.names.TypeParts.{TypeParts}
use Rattle.st_rules.specs.declared.names.TypeParts.TheVariants as parts
use Rattle.st_rules.specs.declared.names.DeclaredNames.{DeclaredNames}
use Rattle.st_rules.specs.Named.{first_place}
use Rattle.st_rules.specs.Numbered.{passes_if_there, each_numbered}
use Rattle.st_rules.specs.Chains.{is_among, ◌or_else◌, nearest}
use Rattle.st_rules.specs.Classes.{chain, lookup}

-- what can be seen from where a text stands
pub record Scope : Type 0 where
  -- the classes and interfaces of the unit, and what it says of all its names
  pub classes : List (ClassDecl ℕ)
  pub interfaces : List (InterfaceDecl ℕ)
  pub names : DeclaredNames
  -- the class or function block whose text it is
  pub class : Option ℕ
  -- whether it is the text of a method
  pub in_method : Bool
  -- what the routine declares: its result first, then constants, externals and variables; of a program all its variables
  pub locals : List DeclaredVariable

-- what a name means
pub data Meant : Type 0 where
  -- a variable or a constant, with the class that declares it, where it is one of a class
  a_variable : Option ℕ → DeclaredVariable → Meant
  -- a method of the own class
  a_method : MethodId → Meant
  a_function : ℕ → DeclaredRoutine → Meant
  -- the number of the enumeration, and of the value in it
  an_enumerator : ℕ → ℕ → Meant

-- ---- variables by name

-- the first of the name
abbrev pub first_named : {X : Type 0} → (X → List ℕ) → List ℕ → List X → Option X
first_named name_of name [] = None
first_named name_of name (x ∷ xs) = if same (name_of x) name then Some x else first_named name_of name xs

abbrev pub variable_named : List ℕ → List DeclaredVariable → Option DeclaredVariable
variable_named name vs = first_named (λ v. v.name) name vs

abbrev pub is_external : SectionSort → Bool
is_external sort.External = true
is_external _ = false

abbrev pub is_body_sort : SectionSort → Bool
is_body_sort sort.InOut = true
is_body_sort sort.Temp = true
is_body_sort _ = false

abbrev pub is_instance_sort : SectionSort → Bool
is_instance_sort sort.Var = true
is_instance_sort sort.Input = true
is_instance_sort sort.Output = true
is_instance_sort _ = false

-- an in-out or a temporary variable, which only the body has
abbrev pub is_of_body : DeclaredVariable → Bool
is_of_body v = is_body_sort v.sort && not v.constant

-- a variable that each instance has
abbrev pub is_of_instance : DeclaredVariable → Bool
is_of_instance v = is_instance_sort v.sort && not v.constant

-- an entry of VAR_EXTERNAL is no variable of the class for those derived from it
abbrev pub is_inherited : DeclaredVariable → Bool
is_inherited v = not (is_external v.sort)

-- ---- globals and functions

abbrev pub global_name : DeclaredGlobal → List ℕ
global_name (global.Variable v) = v.name
global_name (global.Function k r) = r.name

abbrev pub global_meaning : DeclaredGlobal → Meant
global_meaning (global.Variable v) = a_variable None v
global_meaning (global.Function k r) = a_function k r

-- the first of the name
abbrev pub global_named : List ℕ → List DeclaredGlobal → Option Meant
global_named name gs = option_map global_meaning (first_named global_name name gs)

abbrev pub is_global_variable : List ℕ → DeclaredGlobal → Bool
is_global_variable name (global.Variable v) = same v.name name
is_global_variable name (global.Function k r) = false

-- ---- enumerations

abbrev pub value_names : TypeParts → List (List ℕ)
value_names (parts.Values names) = names
value_names _ = []

abbrev pub field_list : TypeParts → List DeclaredField
field_list (parts.Fields fields) = fields
field_list _ = []

-- the enumeration with its value of that name
abbrev pub value_named : List ℕ → ℕ → TypeParts → List (ℕ × ℕ)
value_named name n p = of (first_place name (value_names p))
  where
    of : Option ℕ → List (ℕ × ℕ)
    of None = []
    of (Some k) = (n, k) ∷ []

abbrev pub only_enumerator : List (ℕ × ℕ) → Option Meant
only_enumerator (x ∷ []) = Some (an_enumerator x.0 x.1)
only_enumerator _ = None

-- ---- types

-- the first of the name among entries of TYPE, classes and interfaces
abbrev pub type_named : List ℕ → List DeclaredType → Option DeclaredType
type_named name ts = first_named (λ t. t.name) name ts

-- what a type's name qualifies
pub data Qualifier : Type 0 where
  -- the values of an enumeration
  values_of : ℕ → Qualifier
  -- what cannot be told
  of_untold : Qualifier
  -- it is the name of no enumeration
  no_qualifier : Qualifier

abbrev pub qualifier_kind : Option StType → Qualifier
qualifier_kind None = of_untold
qualifier_kind (Some (type.Enumeration n)) = values_of n
qualifier_kind (Some _) = no_qualifier

abbrev pub qualifier_type : Option DeclaredType → Qualifier
qualifier_type None = no_qualifier
qualifier_type (Some t) = qualifier_kind t.kind

-- ---- fields

abbrev pub field_from : ℕ → List ℕ → List DeclaredField → Option (ℕ × DeclaredField)
field_from k name [] = None
field_from k name (f ∷ fs) = if same f.name name then Some (k, f) else field_from (suc k) name fs

module _ (s : Scope) where
  abbrev pub variables_of : ℕ → List DeclaredVariable
  variables_of c = of (slice_get s.names.classes c)
    where
      of : Option DeclaredClass → List DeclaredVariable
      of None = []
      of (Some class) = class.variables

  abbrev pub parts_of : ℕ → TypeParts
  parts_of n = of (slice_get s.names.parts n)
    where
      of : Option TypeParts → TypeParts
      of None = parts.Nothing
      of (Some p) = p

  -- ---- what a bare name means

  -- an entry of VAR_EXTERNAL means the global of its name
  abbrev pub meant_by : Option ℕ → DeclaredVariable → Option Meant
  meant_by class v = if is_external v.sort then global_named v.name s.names.globals else Some (a_variable class v)

  abbrev pub of_class : ℕ → Option DeclaredVariable → Option (Option ℕ × DeclaredVariable)
  of_class c None = None
  of_class c (Some v) = Some (Some c, v)

  -- what the own class declares itself
  abbrev pub own_entry : List ℕ → ℕ → Option (Option ℕ × DeclaredVariable)
  own_entry name c = of_class c (variable_named name (variables_of c))

  -- what a class leaves to those derived from it
  abbrev pub base_entry : List ℕ → ℕ → Option (Option ℕ × DeclaredVariable)
  base_entry name c = of_class c (variable_named name (filter is_inherited (variables_of c)))

  abbrev pub class_entry : List ℕ → Option ℕ → Option (Option ℕ × DeclaredVariable)
  class_entry name None = None
  class_entry name (Some c) = own_entry name c or_else nearest (base_entry name) (chain s.classes c)

  abbrev pub local_entry : List ℕ → Option (Option ℕ × DeclaredVariable)
  local_entry name = option_map (λ v. (None, v)) (variable_named name s.locals)

  -- locals, then variables of the own class and of its bases
  abbrev pub entry : List ℕ → Option (Option ℕ × DeclaredVariable)
  entry name = local_entry name or_else class_entry name s.class

  abbrev pub method_meaning : List ℕ → Option Meant
  method_meaning name = option_and_then (λ c. option_map a_method (lookup s.classes c name)) s.class

  -- a bare enumerator belongs to one enumeration only
  abbrev pub enumerator_meaning : List ℕ → Option Meant
  enumerator_meaning name = only_enumerator (each_numbered (value_named name) 0 s.names.parts)

  -- behind locals and variables: methods, where a call stands, globals and functions, enumerators
  abbrev pub meaning_behind : Bool → List ℕ → Option (Option ℕ × DeclaredVariable) → Option Meant
  meaning_behind called name (Some e) = meant_by e.0 e.1
  meaning_behind called name None = (if called then method_meaning name else None) or_else (global_named name s.names.globals or_else enumerator_meaning name)

  -- what a bare name means, where a call stands or not
  unfoldable pub sought : Bool → List ℕ → Option Meant
  sought called name = meaning_behind called name (entry name)

  -- ---- `Type.Name` and `Type#Name`

  -- behind `#` a type's name stands
  unfoldable pub type_qualifier : List ℕ → Qualifier
  type_qualifier name = qualifier_type (type_named name s.names.types)

  -- before `.` a local, a variable of the class or a global goes before a type
  unfoldable pub dot_qualifier : List ℕ → Qualifier
  dot_qualifier name = if is_some (entry name) || list_any (is_global_variable name) s.names.globals then no_qualifier else type_qualifier name

  -- the number of a value in its enumeration
  abbrev pub value_of : ℕ → List ℕ → Option ℕ
  value_of n name = first_place name (value_names (parts_of n))

  -- ---- what a name means behind a place of a type

  -- a variable of an instance, with the class that declares it
  abbrev pub instance_entry : List ℕ → ℕ → Option (ℕ × DeclaredVariable)
  instance_entry name c = option_map (λ v. (c, v)) (variable_named name (filter is_of_instance (variables_of c)))

  unfoldable pub instance_variable : ℕ → List ℕ → Option (ℕ × DeclaredVariable)
  instance_variable c name = nearest (instance_entry name) (chain s.classes c)

  -- a field of a structure, with its number
  abbrev pub field_named : ℕ → List ℕ → Option (ℕ × DeclaredField)
  field_named n name = field_from 0 name (field_list (parts_of n))

  -- ---- routines by number

  abbrev pub method_routine : MethodId → Option DeclaredRoutine
  method_routine id = option_and_then (λ class. slice_get class.methods id.method) (slice_get s.names.classes id.class)

  abbrev pub prototype_routine : PrototypeId → Option DeclaredRoutine
  prototype_routine id = option_and_then (λ methods. slice_get methods id.method) (slice_get s.names.interfaces id.interface)

  abbrev pub is_block_at : ℕ → Bool
  is_block_at c = of (slice_get s.names.classes c)
    where
      is_block : ClassSort → Bool
      is_block class_sort.FunctionBlock = true
      is_block class_sort.Class = false

      of : Option DeclaredClass → Bool
      of None = false
      of (Some class) = is_block class.sort

  -- ---- from where a name may be used

  -- the text stands in the class itself
  abbrev pub is_text_of : ℕ → Bool
  is_text_of d = passes_if_there (nat_eq d) s.class

  -- it stands in the class or in one that is derived from it
  unfoldable pub is_text_under : ℕ → Bool
  is_text_under d = passes_if_there (λ c. is_among d (chain s.classes c)) s.class

  abbrev pub may_use : Access → ℕ → Bool
  may_use Public d = true
  may_use Protected d = is_text_under d
  may_use Private d = is_text_of d
