-- The selectors of a place, one after the other.
use Rattle.std.specs.Prelude.{◌≡◌, ℕ, Bool, List, [], ◌∷◌, ◌++◌, map, Option, None}
use Rattle.plc_text.specs.declared.code.Code.{Code}
use Rattle.st_tree.specs.Expression.{Selector, Field, Index, selector_of, expressions_of}
use Rattle.st_tree.specs.Expression as tree
use Rattle.st_rules.specs.Faults.{earlier}
use Rattle.st_rules.specs.Scope.{Scope}
use Rattle.st_rules.specs.Places as places
use Rattle.st_rules.specs.Expressions.{part_note, standing_note}
use Rattle.check_places.specs.declared.standing.Standing.{Standing}
use Rattle.check_places.specs.Standing.{standing}
use Rattle.check_nodes.specs.declared.along.Along.{Along}
use Rattle.check_nodes.specs.declared.along.CheckedSelector.{CheckedSelector}
use Rattle.check_nodes.specs.declared.lists.Indices.{Indices}

pub record Starts (x : Along) (b : Standing) : Type 0 where
  pub standing_is : standing x.standing ≡ standing b
  pub least : x.least ≡ None
  pub selectors : map selector_of x.selectors ≡ []

pub record Extends (x before : Along) (next : Standing) (one : CheckedSelector) : Type 0 where
  pub standing_is : standing x.standing ≡ standing next
  pub least : x.least ≡ earlier before.least one.least
  pub selectors : map selector_of x.selectors ≡ map selector_of before.selectors ++ selector_of one.selector ∷ []

pub record IsField (x : CheckedSelector) (s : Scope) (called : Bool) (b : places.Standing) (own : Option (Code × ℕ)) (line : ℕ) (name : List ℕ) : Type 0 where
  pub least : x.least ≡ own
  pub tree : selector_of x.selector ≡ Field (part_note s called b line name) name

pub record IsIndex (x : CheckedSelector) (s : Scope) (next : places.Standing) (own : Option (Code × ℕ)) (line : ℕ) (indices : Indices) : Type 0 where
  pub least : x.least ≡ earlier own indices.least
  pub tree : selector_of x.selector ≡ Index (standing_note s line next) (expressions_of indices.expressions)

pub record IsTarget (x : CheckedSelector) (s : Scope) (next : places.Standing) (own : Option (Code × ℕ)) (line : ℕ) : Type 0 where
  pub least : x.least ≡ own
  pub tree : selector_of x.selector ≡ tree.Target (standing_note s line next)
