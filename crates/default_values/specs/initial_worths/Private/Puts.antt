-- Lists that are put together from their ends, step by step.
use Rattle.std.specs.Prelude.{◌≡◌, ℕ, ◌≤◌, ℤ, List, Option, Some, None, option_map}
use Rattle.st_tree.specs.declared.declaration.TypeDecl.{TypeDecl}
use Rattle.st_rules.specs.Scope.{Scope}
use Rattle.st_unit_rules.specs.Worth.{Worth, Worths, a_number, some_parts}
use Rattle.default_values.specs.declared.worth_numbers.node.Node.{Node}
use Rattle.default_values.specs.declared.worth_numbers.numbers.Listed.{Listed}
use Rattle.default_values.specs.worth_numbers.Numbers.{Grows, HasParts}
use Rattle.default_values.specs.initial_worths.Structures.{IsTold, AreStructures}
use Rattle.default_values.specs.declared.initial_worths.structures.Structure.{Structure}
use Rattle.default_values.specs.given_values.Lists.{repeat_before}

abbrev pub IsToldList : List Node → Option Listed → Option Worths → Type 0
IsToldList nodes None None = Unit {0}
IsToldList nodes (Some l) (Some ws) = HasParts nodes l ws
IsToldList nodes _ _ = ⊥

-- a list with something before it, where so much is known
pub record Puts (old new : List Node) (Known : Scope → List (TypeDecl ℕ) → Type 0) (behind : Listed) (r : Option Listed) (put : Scope → List (TypeDecl ℕ) → Option Worths → Option Worths) : Type 0 where
  pub grows : Grows old new
  pub told : (unit : Scope) (entries : List (TypeDecl ℕ)) → Known unit entries → (ws : Worths) → HasParts old behind ws → IsToldList new r (put unit entries (Some ws))

pub record IsEnd (nodes : List Node) (l : Listed) (total : Option Worths) (before : Option Worths → Option Worths) : Type 0 where
  pub worths : Worths
  pub parts : HasParts nodes l worths
  pub same : total ≡ before (Some worths)

-- what was put so far, and what comes before it, is all
pub record PutsTo (old now : List Node) (Known : Scope → List (TypeDecl ℕ) → Type 0) (l : Listed) (total : Scope → List (TypeDecl ℕ) → Option Worths) (before : Scope → List (TypeDecl ℕ) → Option Worths → Option Worths) : Type 0 where
  pub grows : Grows old now
  pub end : (unit : Scope) (entries : List (TypeDecl ℕ)) → Known unit entries → IsEnd now l (total unit entries) (before unit entries)

-- so many of a worth more
pub record PutsFound (old new : List Node) (times : ℕ) (number : Option ℕ) (behind : Listed) (r : Option Listed) : Type 0 where
  pub grows : Grows old new
  pub told : (w : Option Worth) → IsTold old number w → (ws : Worths) → HasParts old behind ws → IsToldList new r (repeat_before times w (Some ws))

pub record MakesWhole (old new : List Node) (list : Option Listed) (r : Option ℕ) : Type 0 where
  pub grows : Grows old new
  pub told : (o : Option Worths) → IsToldList old list o → IsTold new r (option_map some_parts o)

-- the list of these worths, in every unit with these structures
pub record FindsList (old new : List Node) (structures : List Structure) (steps : ℕ) (r : Option Listed) (worths : Scope → List (TypeDecl ℕ) → Option Worths) : Type 0 where
  pub grows : Grows old new
  pub told : (unit : Scope) (entries : List (TypeDecl ℕ)) → AreStructures old unit entries steps structures → steps ≤ 66 → IsToldList new r (worths unit entries)

pub record FindsNumber (old new : List Node) (value : Option ℤ) (r : Option ℕ) : Type 0 where
  pub grows : Grows old new
  pub told : IsTold new r (option_map a_number value)
