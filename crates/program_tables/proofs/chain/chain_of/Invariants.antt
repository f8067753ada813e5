use Rattle.std.proofs.Common.{◌+◌, length}
use Rattle.st_rules.specs.Upward.{base_in}
use Rattle.program_tables.proofs.ChainLaws.{Climbing}
use Rattle.program_tables.proofs.chain.chain_of.Given as goal

abbrev pub invariant-loop-step : goal.invariant-loop-step
invariant-loop-step l = Climbing (base_in l.bases) (length l.bases + 1) l.class l.held.items l.next l._step
