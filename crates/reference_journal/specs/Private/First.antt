-- What the first load of a program came to.
use Rattle.std.specs.Prelude.{◌≡◌, ℕ, List}
use Rattle.st_values.specs.Program.{Program}
use Rattle.st_change.specs.Hook.{ran}
use Rattle.st_change.specs.Change.{start}
use Rattle.value_trees.specs.Value.{members_of}
use Rattle.value_trees.specs.declared.value.Member.{Member}
use Rattle.reference_journal.specs.Loading.{HookRefuses}
use Rattle.reference_journal.specs.declared.loading.First.{First}
use Rattle.reference_journal.specs.declared.loading.First.TheVariants as first

-- the first load ends with this store
pub record StartsWith (p : Program) (store : List Member) : Type 0 where
  pub ticks : ℕ
  pub started : start p ≡ ran (members_of store) ticks

abbrev pub CameTo : Program → First → Type 0
CameTo p (first.Loaded store) = StartsWith p store
CameTo p (first.Refused r) = HookRefuses p r
