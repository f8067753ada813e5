-- Valid code beside its indices.
use Rattle.std.specs.Prelude.{ℕ}
use Rattle.std.specs.HashMap.{HashMap}
use Rattle.std.specs.HashSet.{HashSet}
use Rattle.stack_code.specs.declared.code.MachineCode.{MachineCode}
use Rattle.stack_code.specs.Validity.{IsValid}
use Rattle.stack_code.specs.valid_code.Private.Tables.{ArePairs, AreImplementations}

pub record IsIndexed {S T : Type 0} (code : MachineCode) (conforming : HashSet (ℕ × ℕ) S) (implemented : HashMap (ℕ × (ℕ × ℕ)) ℕ T) : Type 0 where
  pub valid : IsValid code
  pub pairs : ArePairs code.conforms conforming
  pub implementations : AreImplementations code.targets implemented
