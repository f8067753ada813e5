-- Sets of names, and in-outs that are in none.
use Rattle.std.specs.Prelude.{ℕ, nat_eq, Bool, not, ◌&&◌, List}
use Rattle.std.specs.Option.{is_some}
use Rattle.std.specs.Cmp.Lexicographic.{pointwise}
use Rattle.std.specs.HashMap.{HashMap, get}
use Rattle.std.specs.declared.hash.FoldHasher.{FoldHasher}
use Rattle.std.specs.declared.hash.BuildHasherDefault.{BuildHasherDefault}
use Rattle.st_rules.specs.declared.names.DeclaredVariable.{DeclaredVariable}
use Rattle.st_rules.specs.Calls.{is_in_out_sort}

abbrev pub NameSet : Type 0
NameSet = HashMap (List ℕ) ℕ (BuildHasherDefault FoldHasher)

abbrev pub is_in : NameSet → List ℕ → Bool
is_in names name = is_some (get (pointwise nat_eq) names name)

-- whether it is an in-out whose name is not in the set
abbrev pub is_left_out_of : NameSet → DeclaredVariable → Bool
is_left_out_of names v = is_in_out_sort v.sort && not (is_in names v.name)
