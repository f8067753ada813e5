-- The inputs of a scenario's cycles.
use Rattle.std.proofs.Common.{◌≤◌, ℕ, zero, suc, List, [], ◌∷◌, ◌++◌, length, Some, slice_get, arith}
use Rattle.std.specs.List.{flat_map}
use Rattle.cycle_journal.specs.declared.play.Play.{Play}
use Rattle.cycle_journal.specs.declared.play.Play.TheVariants.{Cycle, Change, Reset}
use Rattle.plant_rules.specs.History.{input_of}
use Rattle.plant_core.specs.Hub.{HasShortInputs}
use Rattle.scenario.specs.Scenario.{Contents}
use Rattle.scenario.specs.Reading.{IsInput, IsPlayLine, ArePlayLines, IsScenario}

none_short : 0 ≤ 256
none_short = omega arith

short_input : (hex input : List ℕ) → IsInput hex input → length input ≤ 256
short_input hex [] h = none_short
short_input hex (b ∷ bytes) h = h.1

short_line : (sources : List (List ℕ × List ℕ)) (line : List ℕ) (play : Play) → IsPlayLine sources line play → length (input_of (Some play)) ≤ 256
short_line sources line (Cycle task now input) h = short_input h.2 input h.8
short_line sources line (Change name n) h = none_short
short_line sources line (Reset task) h = none_short

short_at : (sources : List (List ℕ × List ℕ)) (lines : List (List ℕ)) (plays : List Play) (n : ℕ) → ArePlayLines sources lines plays → length (input_of (slice_get plays n)) ≤ 256
short_at sources [] [] n h = none_short
short_at sources [] (p ∷ ps) n h = absurd h
short_at sources (l ∷ ls) [] n h = absurd h
short_at sources (l ∷ ls) (p ∷ ps) zero h = short_line sources l p h.0
short_at sources (l ∷ ls) (p ∷ ps) (suc n) h = short_at sources ls ps n h.1

pub short : (lines : List (List ℕ)) (held : Contents) → IsScenario lines held → HasShortInputs held.plays
short lines held k zero = none_short
short lines held k (suc n) = short_at held.sources (k.played-are.first ++ flat_map (λ (phase : List (List ℕ)). phase) k.played-are.further) held.plays n k.played-are.plays-are
