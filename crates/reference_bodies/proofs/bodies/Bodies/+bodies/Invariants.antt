use Rattle.std.proofs.Common.{◌≡◌, drop}
use Rattle.st_tree.specs.Expression.{expression_of}
use Rattle.st_tree.specs.Statement.{branches_of, cases_of, statements_of}
use Rattle.st_meaning.specs.Enter.{enter}
use Rattle.st_meaning.specs.Loop.{loop, loop_until}
use Rattle.st_meaning.specs.Operation.{elem_of}
use Rattle.st_meaning.specs.Place.{named_spot}
use Rattle.st_meaning.specs.Statement.{effects}
use Rattle.st_values.specs.View.{program_of}
use Rattle.run_state.specs.State.{base_of, state_of}
use Rattle.reference_bodies.specs.Private.Turns.{condition, counted, in_branch, in_case, is_within}
use Rattle.reference_bodies.proofs.bodies.Bodies.+bodies.Given as goal

-- what is left does from here what all did from the beginning, and nothing of what was written is lost
abbrev pub invariant-effects-loop-statement : goal.invariant-effects-loop-statement
invariant-effects-loop-statement g l =
    (effects (program_of l.self.walk.tables.now) (enter (program_of l.self.walk.tables.now) l.self.walk.room) (statements_of (drop l.statement-index l.body)) l.line (state_of l.m)
    ≡ effects (program_of l.self.walk.tables.now) (enter (program_of l.self.walk.tables.now) l.self.walk.room) (statements_of l.body) l.line (state_of l.fn.m))
    × (base_of l.m ≡ base_of l.fn.m)

abbrev pub invariant-first_true-loop-branch : goal.invariant-first_true-loop-branch
invariant-first_true-loop-branch g l =
    (in_branch (program_of l.self.walk.tables.now) (enter (program_of l.self.walk.tables.now) l.self.walk.room) (branches_of (drop l.branch-index l.branches)) l.line (state_of l.m)
    ≡ in_branch (program_of l.self.walk.tables.now) (enter (program_of l.self.walk.tables.now) l.self.walk.room) (branches_of l.branches) l.line (state_of l.fn.m))
    × (base_of l.m ≡ base_of l.fn.m)

abbrev pub invariant-first_holding-loop-case : goal.invariant-first_holding-loop-case
invariant-first_holding-loop-case g l =
    (in_case (program_of l.self.walk.tables.now) (enter (program_of l.self.walk.tables.now) l.self.walk.room) l.z (cases_of (drop l.case-index l.cases)) l.line (state_of l.m)
    ≡ in_case (program_of l.self.walk.tables.now) (enter (program_of l.self.walk.tables.now) l.self.walk.room) l.z (cases_of l.cases) l.line (state_of l.fn.m))
    × (base_of l.m ≡ base_of l.fn.m)

-- the loop does from here what it did from the beginning
abbrev pub invariant-repeat_while-turns : goal.invariant-repeat_while-turns
invariant-repeat_while-turns g l =
    (loop (condition (program_of l.self.walk.tables.now) (enter (program_of l.self.walk.tables.now) l.self.walk.room) (expression_of l.e)) (effects (program_of l.self.walk.tables.now) (enter (program_of l.self.walk.tables.now) l.self.walk.room) (statements_of l.body)) l.line (state_of l.m)
    ≡ loop (condition (program_of l.self.walk.tables.now) (enter (program_of l.self.walk.tables.now) l.self.walk.room) (expression_of l.e)) (effects (program_of l.self.walk.tables.now) (enter (program_of l.self.walk.tables.now) l.self.walk.room) (statements_of l.body)) l.line (state_of l.fn.m))
    × (base_of l.m ≡ base_of l.fn.m)

abbrev pub decreases-repeat_while-turns : goal.decreases-repeat_while-turns
decreases-repeat_while-turns g l = l.m.ticks

abbrev pub invariant-repeat_until-turns : goal.invariant-repeat_until-turns
invariant-repeat_until-turns g l =
    (loop_until (effects (program_of l.self.walk.tables.now) (enter (program_of l.self.walk.tables.now) l.self.walk.room) (statements_of l.body)) (condition (program_of l.self.walk.tables.now) (enter (program_of l.self.walk.tables.now) l.self.walk.room) (expression_of l.e)) l.line (state_of l.m)
    ≡ loop_until (effects (program_of l.self.walk.tables.now) (enter (program_of l.self.walk.tables.now) l.self.walk.room) (statements_of l.body)) (condition (program_of l.self.walk.tables.now) (enter (program_of l.self.walk.tables.now) l.self.walk.room) (expression_of l.e)) l.line (state_of l.fn.m))
    × (base_of l.m ≡ base_of l.fn.m)

abbrev pub decreases-repeat_until-turns : goal.decreases-repeat_until-turns
decreases-repeat_until-turns g l = l.m.ticks

abbrev pub invariant-count-turns : goal.invariant-count-turns
invariant-count-turns g l =
    (loop (is_within (named_spot l.a.target) l.count.end l.count.step) (counted (elem_of l.a.kind) (named_spot l.a.target) l.count.step (effects (program_of l.self.walk.tables.now) (enter (program_of l.self.walk.tables.now) l.self.walk.room) (statements_of l.body))) l.line (state_of l.m)
    ≡ loop (is_within (named_spot l.a.target) l.count.end l.count.step) (counted (elem_of l.a.kind) (named_spot l.a.target) l.count.step (effects (program_of l.self.walk.tables.now) (enter (program_of l.self.walk.tables.now) l.self.walk.room) (statements_of l.body))) l.line (state_of l.fn.m))
    × (base_of l.m ≡ base_of l.fn.m)

abbrev pub decreases-count-turns : goal.decreases-count-turns
decreases-count-turns g l = l.m.ticks
