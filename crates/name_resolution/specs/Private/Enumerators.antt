-- In which enumerations a name stands: the first and the last.
use Rattle.std.specs.Prelude.{ℕ, ◌+◌, nat_eq, Bool, if◌then◌else◌, List, [], ◌∷◌, Option, Some, None}
use Rattle.std.specs.List.{list_any}
use Rattle.plc_text.specs.Words.{same}
use Rattle.st_rules.specs.declared.names.TypeParts.{TypeParts}
use Rattle.st_rules.specs.Scope.{value_names}

abbrev pub has_value : List ℕ → TypeParts → Bool
has_value name p = list_any (λ n. same n name) (value_names p)

-- the first that has the name, where the list begins at number i
abbrev pub first_having : ℕ → List TypeParts → List ℕ → Option ℕ
first_having i [] name = None
first_having i (p ∷ ps) name = if has_value name p then Some i else first_having (i + 1) ps name

-- the last that has it, or else the one before the list
abbrev pub last_having : Option ℕ → ℕ → List TypeParts → List ℕ → Option ℕ
last_having before i [] name = before
last_having before i (p ∷ ps) name = last_having (if has_value name p then Some i else before) (i + 1) ps name

-- the one that has it, where there is one alone
abbrev pub lone : Option ℕ → Option ℕ → Option ℕ
lone (Some n) (Some m) = if nat_eq n m then Some n else None
lone _ _ = None
