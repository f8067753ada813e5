-- Classes that are held.
use Rattle.std.specs.Prelude.{ℕ, nat_eq, Bool}
use Rattle.std.specs.Option.{is_some}
use Rattle.std.specs.HashMap.{HashMap, get}
use Rattle.std.specs.declared.hash.FoldHasher.{FoldHasher}
use Rattle.std.specs.declared.hash.BuildHasherDefault.{BuildHasherDefault}

abbrev pub Held : Type 0
Held = HashMap ℕ ℕ (BuildHasherDefault FoldHasher)

abbrev pub is_held : Held → ℕ → Bool
is_held held c = is_some (get nat_eq held c)
