-- A run ends in one way.
use Rattle.std.proofs.Common.{◌≡◌, ℕ, zero, suc, List, Option, refl, sym, ◌∙◌}
use Rattle.stack_code.specs.declared.memory.Address.{Address}
use Rattle.stack_code.specs.declared.machine.Ending.{Ending}
use Rattle.stack_code.specs.declared.code.MachineCode.{MachineCode}
use Rattle.stack_code.specs.Steps.{Step, Goes, Stops}
use Rattle.stack_code.specs.Machine.{Config, Result, Unfinished, Ends, follow, exec, step, HasOneResult}

pub one_ending : (code : MachineCode) (now m n : ℕ) (c : Config) (e f : Ending) (x y : List (Option (List ℕ))) → exec code now m c ≡ Ends e x → exec code now n c ≡ Ends f y → Ends e x ≡ Ends f y
one_ending code now zero n c e f x y p q = absurd (cc)
one_ending code now (suc m) zero c e f x y p q = absurd (cc)
one_ending code now (suc m) (suc n) c e f x y p q = by (λ c. one_ending code now m n c e f x y) (step code now c) p q
  where
    by : ((c : Config) → exec code now m c ≡ Ends e x → exec code now n c ≡ Ends f y → Ends e x ≡ Ends f y) → (s : Step Config) → follow s c.memory.regions (exec code now m) ≡ Ends e x → follow s c.memory.regions (exec code now n) ≡ Ends f y → Ends e x ≡ Ends f y
    by again (Goes c') p q = again c' p q
    by again (Stops o) p q = sym p ∙ q

pub one_result : (code : MachineCode) (now : ℕ) (regions : List (Option (List ℕ))) (s : Step Config) → HasOneResult (λ n. follow s regions (exec code now n))
one_result code now regions (Goes c) m n e f x y p q = let same = one_ending code now m n c e f x y p q in ((cc), (cc))
one_result code now regions (Stops o) m n e f x y p q = let same : Ends e x ≡ Ends f y = sym p ∙ q in ((cc), (cc))
