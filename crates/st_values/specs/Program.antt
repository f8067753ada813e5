-- A checked program as its meaning sees it: declarations with their variables in the order of their numbers, and bodies as plain trees.
use Rattle.std.specs.Prelude.{ℕ, Bool, false, if◌then◌else◌, List, [], ◌∷◌, ◌++◌, reverse, Option, Some, None, slice_get}
use Rattle.plc_text.specs.Words.{same}
use Rattle.st_types.specs.declared.st_type.StType.{StType}
use Rattle.st_types.specs.declared.st_type.StType.TheVariants as type
use Rattle.st_tree.specs.declared.declaration.SectionSort.{SectionSort}
use Rattle.st_tree.specs.declared.marks.Marks.{Marks}
use Rattle.st_tree.specs.declared.program.Note.{Note}
use Rattle.st_tree.specs.declared.program.TaskDecl.{TaskDecl}
use Rattle.st_tree.specs.Initial.{Initial}
use Rattle.st_tree.specs.Statement.{Statements}
use Rattle.st_rules.specs.Chains.{is_among, nearest}
use Rattle.st_rules.specs.Named.{first_place}

-- a variable that has a place: no constant and no external
pub record Variable : Type 0 where
  pub name : List ℕ
  -- the sort of its section
  pub sort : SectionSort
  pub kind : StType
  pub initial : Option (Initial Note)
  -- what is marked at it, with an old name at the first variable of an item alone
  pub marks : Marks
  -- in upper case
  pub address : Option (List ℕ)

-- where an argument goes
pub data Recipient : Type 0 where
  to_local : ℕ → Recipient
  to_variable : ℕ → Recipient

-- an input, output or in-out of what may be called
pub record Parameter : Type 0 where
  pub sort : SectionSort
  pub to : Recipient

-- what may be entered: a function, a method, or the body of a function block or a program
pub record Routine : Type 0 where
  pub name : List ℕ
  -- the line of its first word
  pub line : ℕ
  -- the class whose text it is
  pub class : Option ℕ
  pub parameters : List Parameter
  -- the result first, where there is one
  pub locals : List Variable
  pub body : Statements Note

pub data Sort : Type 0 where
  a_class a_block a_program : Sort

-- a class, a function block, or a program, which has no base and no methods
pub record Class : Type 0 where
  pub name : List ℕ
  pub sort : Sort
  -- the class and its bases, upward
  pub chain : List ℕ
  -- the interfaces that it conforms to
  pub interfaces : List ℕ
  -- the variables that it declares itself and that an instance has
  pub own : List Variable
  pub methods : List Routine
  pub body : Routine

-- what a method of an interface may be given
pub record Signature : Type 0 where
  pub name : List ℕ
  pub parameters : List Parameter

-- an interface with the methods that names mean in it, its own and those of the interfaces that it extends
pub record Interface : Type 0 where
  pub name : List ℕ
  pub methods : List Signature

pub data TypeBody : Type 0 where
  an_alias : TypeBody
  an_enumeration : List (List ℕ) → TypeBody
  a_structure : List Variable → TypeBody

pub record TypeEntry : Type 0 where
  pub name : List ℕ
  pub body : TypeBody

-- a global, or an instance of a program
pub record Region : Type 0 where
  pub program : Bool
  pub variable : Variable

-- The declarations of each sort in the order of the text; programs stand behind the classes.
pub record Program : Type 0 where
  pub types : List TypeEntry
  pub classes : List Class
  pub interfaces : List Interface
  pub functions : List Routine
  pub regions : List Region
  pub tasks : List TaskDecl

-- ---- classes by number and by name

abbrev pub class_at : Program → ℕ → Option Class
class_at p c = slice_get p.classes c

abbrev pub class_names : List Class → List (List ℕ)
class_names [] = []
class_names (c ∷ cs) = c.name ∷ class_names cs

-- the class of this name
unfoldable pub class_number : Program → List ℕ → Option ℕ
class_number p name = first_place name (class_names p.classes)

abbrev pub chain_of : Option Class → List ℕ
chain_of None = []
chain_of (Some c) = c.chain

abbrev pub own_of : Option Class → List Variable
own_of None = []
own_of (Some c) = c.own

abbrev pub own_variables : Program → List ℕ → List Variable
own_variables p [] = []
own_variables p (c ∷ cs) = own_of (class_at p c) ++ own_variables p cs

-- the variables of an instance, those of its bases first
unfoldable pub class_variables : Program → ℕ → List Variable
class_variables p c = own_variables p (reverse (chain_of (class_at p c)))

abbrev pub conforms_as : StType → Class → Bool
conforms_as (type.Instance d) c = is_among d c.chain
conforms_as (type.Reference d) c = is_among d c.chain
conforms_as (type.Interface i) c = is_among i c.interfaces
conforms_as _ c = false

abbrev pub conforming : StType → Option Class → Bool
conforming t None = false
conforming t (Some c) = conforms_as t c

-- whether a class conforms to the class or interface of a type
unfoldable pub conforms : Program → ℕ → StType → Bool
conforms p c t = conforming t (class_at p c)

-- ---- what a call means

abbrev pub named : List Routine → List ℕ → Option Routine
named [] name = None
named (r ∷ rs) name = if same r.name name then Some r else named rs name

abbrev pub method_of : Option Class → List ℕ → Option Routine
method_of None name = None
method_of (Some c) name = named c.methods name

-- the method of that name that the class itself declares
abbrev pub own_method : Program → List ℕ → ℕ → Option Routine
own_method p name c = method_of (class_at p c) name

-- the nearest method of that name, upward from the class
unfoldable pub lookup : Program → ℕ → List ℕ → Option Routine
lookup p c name = nearest (own_method p name) (chain_of (class_at p c))

abbrev pub body_in : Option Class → Option Routine
body_in None = None
body_in (Some c) = Some c.body

-- the body of a function block or a program; it is not inherited
abbrev pub body_of : Program → ℕ → Option Routine
body_of p c = body_in (class_at p c)
