use Rattle.std.proofs.Common.{◌≡◌, ℕ, ◌≤◌, List, length}
use Rattle.st_tree.specs.declared.declaration.TypeDecl.{TypeDecl}
use Rattle.st_rules.specs.Scope.{Scope}
use Rattle.default_values.specs.worth_steps.Steps.{AreFields}
use Rattle.default_values.specs.worth_steps.Private.Rounds.{IsRound}
use Rattle.default_values.proofs.worth_steps.rounds.round.Given as goal

-- the structures before this one are done
abbrev pub invariant-loop-number : goal.invariant-loop-number
invariant-loop-number l =
    (length l.structures ≡ length l.parts)
    × ((unit : Scope) (entries : List (TypeDecl ℕ)) → l.steps ≤ 66 → AreFields unit entries l.parts → IsRound unit entries l.initial.structures l.steps 0 → IsRound unit entries l.structures l.steps l.number)
