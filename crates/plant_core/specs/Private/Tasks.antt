-- What is noted of tasks, by the places of their names.
use Rattle.std.specs.Prelude.{◌≡◌, ℕ, ◌<◌, ◌≤◌, Bool, true, false, List, length, Some, slice_get, slice_set, slice_index_or}
use Rattle.cycle_journal.specs.declared.entry.Answer.{Answer}
use Rattle.cycle_journal.specs.declared.entry.Answer.TheVariants as answer
use Rattle.cycle_journal.specs.declared.entry.CycleReply.{CycleReply}
use Rattle.cycle_journal.specs.declared.entry.CycleReply.TheVariants as reply
use Rattle.plant_rules.specs.Meaning.{Meaning}
use Rattle.plant_rules.specs.One.{since_by}

-- the marks by the names
pub record AreHeld (names : List (List ℕ)) (held : List Bool) (is : List ℕ → Bool) : Type 0 where
  pub total : length held ≡ length names
  pub each : (n : ℕ) (name : List ℕ) → slice_get names n ≡ Some name → slice_index_or held n false ≡ is name

pub record AreSince (names : List (List ℕ)) (since : List ℕ) (is : List ℕ → ℕ) : Type 0 where
  pub total : length since ≡ length names
  pub each : (n : ℕ) (name : List ℕ) → slice_get names n ≡ Some name → slice_index_or since n 0 ≡ is name

-- after a fault the task is held
abbrev pub held_by : CycleReply → ℕ → List Bool → List Bool
held_by (reply.Done ticks outputs) place held = held
held_by (reply.Fault fault) place held = slice_set held place true

abbrev pub freed_by : Answer → ℕ → List Bool → List Bool
freed_by answer.Released place held = slice_set held place false
freed_by _ place held = held

-- the first n are free
pub record AreFree (before after : List Bool) (n : ℕ) : Type 0 where
  pub same : length after ≡ length before
  pub each : (k : ℕ) → k < n → slice_index_or after k false ≡ false

-- the first n are told again, for a version in the place of another
pub record AreRenewed {W : Type 0} (m : Meaning W) (names : List (List ℕ)) (old new : W) (number : ℕ) (before after : List ℕ) (n : ℕ) : Type 0 where
  pub same : length after ≡ length before
  pub each : (k : ℕ) (name : List ℕ) → k < n → slice_get names k ≡ Some name → slice_index_or after k 0 ≡ since_by (m.named new name) (m.named old name) number (slice_index_or before k 0)
  pub rest : (k : ℕ) → n ≤ k → slice_index_or after k 0 ≡ slice_index_or before k 0
