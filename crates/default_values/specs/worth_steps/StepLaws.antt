-- What steps say of worths.
use Rattle.std.specs.Prelude.{◌≡◌, ℕ, suc, true, false, List, Option, None}
use Rattle.st_types.specs.declared.st_type.StType.{StType}
use Rattle.st_tree.specs.declared.declaration.TypeDecl.{TypeDecl}
use Rattle.st_tree.specs.Initial.{Initial}
use Rattle.st_rules.specs.Scope.{Scope}
use Rattle.st_unit_rules.specs.Worth.{worth_within}
use Rattle.default_values.specs.worth_steps.Steps.{takes_steps}

pub record StepLaws (unit : Scope) (entries : List (TypeDecl ℕ)) : Type 0 where
  -- within fewer steps there is no worth
  pub none : (n : ℕ) (s : Scope) (t : StType) (i : Option (Initial ℕ)) → takes_steps unit entries n t ≡ false → worth_within unit entries n s t i ≡ None
  -- more steps change nothing
  pub same : (n : ℕ) (s : Scope) (t : StType) (i : Option (Initial ℕ)) → takes_steps unit entries n t ≡ true → worth_within unit entries (suc n) s t i ≡ worth_within unit entries n s t i
  pub more : (n : ℕ) (t : StType) → takes_steps unit entries n t ≡ true → takes_steps unit entries (suc n) t ≡ true
