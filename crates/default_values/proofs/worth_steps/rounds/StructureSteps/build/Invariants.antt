use Rattle.std.proofs.Common.{◌≡◌, ℕ, List, length}
use Rattle.st_tree.specs.declared.declaration.TypeDecl.{TypeDecl}
use Rattle.st_rules.specs.Scope.{Scope}
use Rattle.default_values.specs.worth_steps.Steps.{AreFields}
use Rattle.default_values.specs.worth_steps.Private.Rounds.{IsRound}
use Rattle.default_values.proofs.worth_steps.rounds.StructureSteps.build.Given as goal

-- all are exact below so many steps
abbrev pub invariant-loop-steps : goal.invariant-loop-steps
invariant-loop-steps l =
    (length l.structures.items ≡ length l.parts)
    × ((unit : Scope) (entries : List (TypeDecl ℕ)) → AreFields unit entries l.parts → IsRound unit entries l.structures.items l.steps 0)
