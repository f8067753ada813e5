-- What every text that is read has: an argument with a name has one that is not empty.
use Rattle.std.specs.Prelude.{ℕ, List, [], Option, Some, None, option_map}
use Rattle.st_tree.specs.declared.declaration.TypeBody.{TypeBody}
use Rattle.st_tree.specs.declared.declaration.TypeBody.TheVariants as body
use Rattle.st_tree.specs.declared.type_spec.Bounds.{Bounds}
use Rattle.st_tree.specs.declared.type_spec.TypeSpec.{TypeSpec}
use Rattle.st_tree.specs.Expression.{Expression, Call, Paren, Not, Negate, Chain, Positional, Input, Output, Arguments, no_arguments, argument_then, Tails, no_tails, tail_then, expression_of}
use Rattle.st_tree.specs.Initial.{Initial, Value, initial_of}
use Rattle.st_unit_rules.specs.declared_names.Declarations.{Declaration, an_entry, a_global}
use Rattle.st_unit_rules.specs.declared_names.Variables.{Written}
use Rattle.st_unit_rules.specs.declared_names.WrittenTypes.{dimensions}
use Rattle.resolution_order.specs.told_laws.ToldLaws.{Every}

abbrev pub IsName : List ℕ → Type 0
IsName [] = ⊥
IsName _ = Unit {0}

abbrev mutual
  pub HasNames : Expression ℕ → Type 0
  HasNames (Call l r ss xs) = HaveNames xs
  HasNames (Paren l e) = HasNames e
  HasNames (Not l e) = HasNames e
  HasNames (Negate l e) = HasNames e
  HasNames (Chain l e ts) = HasNames e × HaveNamesIn ts
  HasNames _ = Unit {0}

  pub HaveNamesIn : Tails ℕ → Type 0
  HaveNamesIn no_tails = Unit {0}
  HaveNamesIn (tail_then l o e ts) = HasNames e × HaveNamesIn ts

  pub HaveNames : Arguments ℕ → Type 0
  HaveNames no_arguments = Unit {0}
  HaveNames (argument_then (Positional e) xs) = HasNames e × HaveNames xs
  HaveNames (argument_then (Input l name e) xs) = IsName name × HasNames e × HaveNames xs
  HaveNames (argument_then (Output l name k r ss) xs) = HaveNames xs

abbrev pub HaveNamesInBounds : Bounds ℕ → Type 0
HaveNamesInBounds b = HasNames (expression_of b.low) × HasNames (expression_of b.high)

abbrev pub IsFormedType : TypeSpec ℕ → Type 0
IsFormedType t = Every HaveNamesInBounds (dimensions t)

abbrev pub IsFormedResult : Option (TypeSpec ℕ) → Type 0
IsFormedResult None = Unit {0}
IsFormedResult (Some t) = IsFormedType t

-- the value of a constant, which is no list
abbrev pub IsFormedInitial : Option (Initial ℕ) → Type 0
IsFormedInitial (Some (Value e)) = HasNames e
IsFormedInitial _ = Unit {0}

abbrev pub IsFormedWritten : Written → Type 0
IsFormedWritten w = IsFormedType w.item.kind × IsFormedInitial (option_map initial_of w.item.initial)

abbrev pub IsFormedBody : TypeBody ℕ → Type 0
IsFormedBody (body.Alias t) = IsFormedType t
IsFormedBody (body.Enumeration ns) = Unit {0}
IsFormedBody (body.Structure gs) = Every (λ g. IsFormedType g.kind) gs

abbrev pub IsFormedDeclaration : Declaration → Type 0
IsFormedDeclaration (an_entry t) = IsFormedBody t.body
IsFormedDeclaration (a_global g) = IsFormedType g.item.kind × IsFormedInitial (option_map initial_of g.item.initial)
IsFormedDeclaration _ = Unit {0}
