-- Places: the selectors that are still to come.
use Rattle.std.specs.Prelude.{◌≡◌, ℕ, Bool, ◌&&◌, List, [], ◌∷◌, ◌++◌, map, Option}
use Rattle.plc_text.specs.declared.code.Code.{Code}
use Rattle.st_tree.specs.declared.program.Note.{Note}
use Rattle.st_tree.specs.Expression.{Selector, Selectors, selector_then, selector_of, selectors_of}
use Rattle.st_rules.specs.Faults.{least, earlier}
use Rattle.st_rules.specs.Scope.{Scope}
use Rattle.st_rules.specs.Places as places
use Rattle.st_rules.specs.Places.{is_last, selector_faults}
use Rattle.st_rules.specs.Expressions.{along_faults, typed_along, selector_index_faults, typed_selector}
use Rattle.check_places.specs.Standing.{standing}
use Rattle.check_nodes.specs.declared.along.Along.{Along}
use Rattle.check_nodes.specs.declared.along.CheckedSelector.{CheckedSelector}

-- the least that one selector breaks, with its indices, and its typed tree
pub record SelectorFinds (c : CheckedSelector) (s : Scope) (line : ℕ) (called : Bool) (b : places.Standing) (x : Selector ℕ) : Type 0 where
  pub broken : c.least ≡ least (selector_faults s line called b x ++ selector_index_faults s x)
  pub tree : selector_of c.selector ≡ typed_selector s called b x

abbrev pub selectors_onto : List (Selector Note) → Selectors Note → Selectors Note
selectors_onto [] rest = rest
selectors_onto (x ∷ xs) rest = selector_then x (selectors_onto xs rest)

-- what selectors give with all that are still to come: the least rule that is broken, and the typed trees
unfoldable pub along_rest : Scope → ℕ → Bool → Along → Selectors ℕ → Option (Code × ℕ) × Selectors Note
along_rest s line called x ss = (
  (earlier x.least (least (along_faults s line called (standing x.standing) ss))),
  (selectors_onto (map selector_of x.selectors) (typed_along s called (standing x.standing) ss)),
)

-- one selector more leaves the whole as it is, where a call stands behind it or not
pub record AlongGoes (s : Scope) (line : ℕ) (here : Bool) (before x : Along) (one : Selector ℕ) : Type 0 where
  pub whole : (called : Bool) (ss : Selectors ℕ) → (called && is_last ss) ≡ here → along_rest s line called x ss ≡ along_rest s line called before (selector_then one ss)

-- what the selectors of a place give
pub record AlongFinds (x : Along) (s : Scope) (line : ℕ) (called : Bool) (b : places.Standing) (ss : Selectors ℕ) : Type 0 where
  pub broken : x.least ≡ least (along_faults s line called b ss)
  pub tree : selectors_of x.selectors ≡ typed_along s called b ss
