-- How kinds that an instruction finds follow from those that the next one finds.
use Rattle.std.specs.Prelude.{ℕ, List, [], ◌∷◌, reverse, Option, option_map, slice_get}
use Rattle.stack_code.specs.declared.op.Kind.{Kind}
use Rattle.stack_code.specs.declared.op.Kind.TheVariants.{Num, Addr}
use Rattle.code_cells.specs.Found.{below}
use Rattle.code_cells.specs.declared.kinds.Change.{Change}
use Rattle.code_cells.specs.declared.kinds.Change.TheVariants as change

abbrev pub changed : Change → List Kind → List Kind
changed change.Same ks = ks
changed change.Nothing ks = []
changed change.Below ks = below ks
changed change.Number ks = Num ∷ ks
changed change.AddressNumber ks = Addr ∷ Num ∷ ks
changed change.Addresses ks = Addr ∷ Addr ∷ ks
changed change.AddressBelow ks = Addr ∷ below ks
changed change.AddressesBelow ks = Addr ∷ Addr ∷ below ks

-- lists that are kept from the last cell to the first, the top of each last
abbrev pub seen : List (List Kind) → ℕ → Option (List Kind)
seen xs n = option_map reverse (slice_get (reverse xs) n)
