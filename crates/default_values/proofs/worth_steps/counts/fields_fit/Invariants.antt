use Rattle.std.proofs.Common.{◌≡◌, ℕ, ◌<◌, ◌≤◌, List, map, length}
use Rattle.st_tree.specs.declared.declaration.TypeDecl.{TypeDecl}
use Rattle.st_rules.specs.Scope.{Scope}
use Rattle.default_values.specs.worth_steps.Steps.{pass_all_told, takes_steps}
use Rattle.default_values.specs.worth_steps.Private.Rounds.{AreExact}
use Rattle.default_values.proofs.worth_steps.counts.fields_fit.Given as goal

-- all fit where those do that are left
abbrev pub invariant-fields : goal.invariant-fields
invariant-fields l =
    (unit : Scope) (entries : List (TypeDecl ℕ)) (k : ℕ) → AreExact unit entries l.structures k → l.steps < k → l.steps ≤ 66
    → pass_all_told (takes_steps unit entries l.steps) (map (λ f. f.kind) l.left) ≡ pass_all_told (takes_steps unit entries l.steps) (map (λ f. f.kind) l.fields)

abbrev pub decreases-fields : goal.decreases-fields
decreases-fields l = length l.left
