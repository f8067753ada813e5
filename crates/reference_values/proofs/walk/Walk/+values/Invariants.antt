use Rattle.std.proofs.Common.{◌≡◌, drop, map, option_map}
use Rattle.st_tree.specs.Expression.{arguments_of, expressions_of, selectors_of, tails_of}
use Rattle.st_meaning.specs.Enter.{enter}
use Rattle.st_meaning.specs.Expression.{along, arguments, chained, indexed, outputs}
use Rattle.st_values.specs.View.{program_of}
use Rattle.call_frames.specs.Opening.{given_of}
use Rattle.routine_tables.specs.Parameters.{parameters_of}
use Rattle.run_state.specs.State.{base_of, frame_of, spot_of, state_of}
use Rattle.value_trees.specs.Value.{value_of}
use Rattle.reference_values.proofs.ArgumentLaws.{behind}
use Rattle.reference_values.proofs.walk.Walk.+values.Given as goal

-- what is left does from here what all did from the beginning, and nothing of what was written is lost
abbrev pub invariant-along-loop-selector : goal.invariant-along-loop-selector
invariant-along-loop-selector g l =
    (along (program_of l.self.tables.now) (enter (program_of l.self.tables.now) l.self.room) (selectors_of (drop l.selector-index l.selectors)) l.kind (spot_of l.spot) l.line (state_of l.m)
    ≡ along (program_of l.self.tables.now) (enter (program_of l.self.tables.now) l.self.room) (selectors_of l.selectors) l.fn.kind (spot_of l.fn.spot) l.line (state_of l.fn.m))
    × (base_of l.m ≡ base_of l.fn.m)

abbrev pub invariant-indexed-loop-index : goal.invariant-indexed-loop-index
invariant-indexed-loop-index g l =
    (indexed (program_of l.self.tables.now) (enter (program_of l.self.tables.now) l.self.room) (expressions_of (drop l.index-index l.indices)) l.kind (spot_of l.spot) l.line (state_of l.m)
    ≡ indexed (program_of l.self.tables.now) (enter (program_of l.self.tables.now) l.self.room) (expressions_of l.indices) l.fn.kind (spot_of l.fn.spot) l.line (state_of l.fn.m))
    × (base_of l.m ≡ base_of l.fn.m)

abbrev pub invariant-chained-loop-tail : goal.invariant-chained-loop-tail
invariant-chained-loop-tail g l =
    (chained (program_of l.self.tables.now) (enter (program_of l.self.tables.now) l.self.room) (value_of l.so_far) (tails_of (drop l.tail-index l.tails)) l.line (state_of l.m)
    ≡ chained (program_of l.self.tables.now) (enter (program_of l.self.tables.now) l.self.room) (value_of l.fn.first) (tails_of l.tails) l.line (state_of l.fn.m))
    × (base_of l.m ≡ base_of l.fn.m)

abbrev pub invariant-arguments-loop-argument : goal.invariant-arguments-loop-argument
invariant-arguments-loop-argument g l =
    (behind (map given_of l.given) (arguments (program_of l.self.tables.now) (enter (program_of l.self.tables.now) l.self.room) (parameters_of l.parameters) (parameters_of l.left) (arguments_of (drop l.argument-index l.arguments)) l.line (state_of l.m))
    ≡ arguments (program_of l.self.tables.now) (enter (program_of l.self.tables.now) l.self.room) (parameters_of l.parameters) (parameters_of l.parameters) (arguments_of l.arguments) l.line (state_of l.fn.m))
    × (base_of l.m ≡ base_of l.fn.m)

abbrev pub invariant-outputs-loop-argument : goal.invariant-outputs-loop-argument
invariant-outputs-loop-argument g l =
    (outputs (program_of l.self.tables.now) (enter (program_of l.self.tables.now) l.self.room) (parameters_of l.parameters) (option_map (λ q. q.now) l.own) (frame_of l.frame) (arguments_of (drop l.argument-index l.arguments)) l.line (state_of l.m)
    ≡ outputs (program_of l.self.tables.now) (enter (program_of l.self.tables.now) l.self.room) (parameters_of l.parameters) (option_map (λ q. q.now) l.own) (frame_of l.frame) (arguments_of l.arguments) l.line (state_of l.fn.m))
    × (base_of l.m ≡ base_of l.fn.m)
