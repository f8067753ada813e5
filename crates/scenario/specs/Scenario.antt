-- What a scenario holds.
use Rattle.std.specs.Prelude.{ℕ, List}
use Rattle.cycle_journal.specs.declared.play.Play.{Play}
use Rattle.cycle_journal.specs.Interleaving.{Phase}
use Rattle.scenario.specs.declared.scenario.Scenario.{Scenario}

pub record Contents : Type 0 where
  -- the text of the first program
  pub program : List ℕ
  -- the sources that changes may load: their names in upper case, with their texts
  pub sources : List (List ℕ × List ℕ)
  pub plays : List Play
  pub phases : List Phase

abbrev pub contents_of : Scenario → Contents
contents_of s = record { program = s.program; sources = s.sources.value; plays = s.plays.value; phases = s.phases.value }
