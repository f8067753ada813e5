-- Names that were seen, and one more.
use Rattle.std.specs.Prelude.{◌≡◌, ℕ, List, [], ◌∷◌, ◌++◌, Option}
use Rattle.plc_text.specs.declared.code.Code.{Code}
use Rattle.st_rules.specs.declared.names.DeclaredVariable.{DeclaredVariable}
use Rattle.st_rules.specs.Faults.{least}
use Rattle.st_rules.specs.Calls.{Head, names_among, head_names, unknown_or_repeated}
use Rattle.check_calls.specs.Private.Names.{NameSet, is_in}

-- what one name breaks, and that it is seen then
pub record OneName (seen : NameSet) (earlier : List (List ℕ)) (name : List ℕ) (fault want : Option (Code × ℕ)) : Type 0 where
  pub fault_is : fault ≡ want
  pub are_seen : (q : List ℕ) → is_in seen q ≡ names_among q (earlier ++ name ∷ [])

-- what one argument breaks, and that its name is seen then
pub record OneHead (seen : NameSet) (earlier : List (List ℕ)) (h : Head) (fault : Option (Code × ℕ)) (ps : List DeclaredVariable) : Type 0 where
  pub fault_is : fault ≡ least (unknown_or_repeated ps earlier h)
  pub are_seen : (q : List ℕ) → is_in seen q ≡ names_among q (earlier ++ head_names h)
