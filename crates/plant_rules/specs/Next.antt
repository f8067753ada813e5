-- What a core needs besides a version and its contents.
use Rattle.std.specs.Prelude.{◌≡◌, ℕ, ◌<◌, List, length, Option, Some, None, slice_index_or}
use Rattle.plant_rules.specs.Meaning.{Contents, Meaning, Has, Whole, bytes_at}

-- a carrier of a task that runs no cycle: an image of the right length for each region that the task only reads, and nothing else
pub record Spare {W : Type 0} (m : Meaning W) (p : W) (t : ℕ) (c : Contents) : Type 0 where
  pub total : length c ≡ m.region_total p
  pub images : (r : ℕ) → Has (m.reads p t) r → (Has (m.writes p t) r → ⊥) → (bytes : List ℕ) × (bytes_at c r ≡ Some bytes) × ((other : List ℕ) → m.fit p r other → length bytes ≡ length other)
  pub written : (r : ℕ) → Has (m.writes p t) r → bytes_at c r ≡ None
  pub others : (r : ℕ) → (Has (m.reads p t) r → ⊥) → bytes_at c r ≡ None

-- a kit of a task that runs no cycle: an Arc of the version, work of the version for the task, and its carrier
pub record IsKit {W K : Type 0} (m : Meaning W) (ready : W → ℕ → K → Type 0) (p : W) (t : ℕ) (shared : W) (work : K) (carrier : Contents) : Type 0 where
  pub same : shared ≡ p
  pub works : ready p t work
  pub spare : Spare m p t carrier

-- a kit for each task, in order
pub record AllKits {K : Type 0} (kits : List (Option K)) (n : ℕ) (good : ℕ → K → Type 0) : Type 0 where
  pub total : length kits ≡ n
  pub each : (t : ℕ) → t < n → (k : K) × (slice_index_or kits t None ≡ Some k) × good t k

-- another Arc of the version, and a kit for each of its tasks
pub record IsSupplied {W K : Type 0} (m : Meaning W) (good : ℕ → K → Type 0) (p other : W) (kits : List (Option K)) : Type 0 where
  pub same : other ≡ p
  pub kits-are : AllKits kits (m.tasks p) good

-- a version as a core takes it: right, with all regions there and fit, and with what the core needs
pub record IsNextWhole {W K : Type 0} (m : Meaning W) (good : ℕ → K → Type 0) (p other : W) (c : Contents) (kits : List (Option K)) : Type 0 where
  pub right : m.right p
  pub whole : Whole (m.fit p) (m.region_total p) c
  pub supplied : IsSupplied m good p other kits
