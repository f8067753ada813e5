-- A call's rule by what is known of the routines that it may enter.
use Rattle.std.proofs.Common.{◌≡◌, ◌↔◌, ℕ, List, [], ◌∷◌, IsTrue, Bool, inl}
use Rattle.stack_code.specs.declared.op.Kind.{Kind}
use Rattle.stack_code.specs.declared.code.RoutineCode.{RoutineCode}
use Rattle.stack_code.specs.declared.code.MachineCode.{MachineCode}
use Rattle.stack_code.specs.Validity.{IsCall, MayEnterMethod, MayEnterTarget}
use Rattle.stack_code.specs.valid_code.Private.Calls.{IsAmong}
use Rattle.stack_code.specs.valid_code.Private.Entered.{methods_at, targets_of}
use Rattle.stack_code.proofs.valid_code.MayLaws.{fewer, among_one, may_method, method_may, may_target, target_may}

module _ (code : MachineCode) (r : RoutineCode) (at n : ℕ) (ks : List Kind) (b : Bool) where
  pub fine_routine : (k : ℕ) → (IsTrue b ↔ IsCall code r at n ks (λ j. IsAmong j (k ∷ []))) → (IsTrue b ↔ IsCall code r at n ks (λ j. j ≡ k))
  fine_routine k e = (
    λ t. fewer code r at n ks (λ j. IsAmong j (k ∷ [])) (λ j. j ≡ k) (λ j f. inl f) (e.0 t),
    λ l. e.1 (fewer code r at n ks (λ j. j ≡ k) (λ j. IsAmong j (k ∷ [])) (λ j m. among_one j k m) l),
  )

  pub fine_method : (target s : ℕ) → (IsTrue b ↔ IsCall code r at n ks (λ j. IsAmong j (methods_at code target s))) → (IsTrue b ↔ IsCall code r at n ks (MayEnterMethod code target s))
  fine_method target s e = (
    λ t. fewer code r at n ks (λ j. IsAmong j (methods_at code target s)) (MayEnterMethod code target s) (λ j m. may_method code target s j m) (e.0 t),
    λ l. e.1 (fewer code r at n ks (MayEnterMethod code target s) (λ j. IsAmong j (methods_at code target s)) (λ j m. method_may code target s j m) l),
  )

  pub fine_target : (i m : ℕ) → (IsTrue b ↔ IsCall code r at n ks (λ j. IsAmong j (targets_of code.targets code.targets i m))) → (IsTrue b ↔ IsCall code r at n ks (MayEnterTarget code i m))
  fine_target i m e = (
    λ t. fewer code r at n ks (λ j. IsAmong j (targets_of code.targets code.targets i m)) (MayEnterTarget code i m) (λ j x. may_target code i m j x) (e.0 t),
    λ l. e.1 (fewer code r at n ks (MayEnterTarget code i m) (λ j. IsAmong j (targets_of code.targets code.targets i m)) (λ j x. target_may code i m j x) l),
  )
