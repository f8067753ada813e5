-- What is known of the routines that calls may enter.
use Rattle.std.specs.Prelude.{◌≡◌, ◌&&◌, ◌++◌, ℕ, List, [], ◌∷◌, Option, Some, None, nat_eq, cond, if◌then◌else◌}
use Rattle.std.specs.HashMap.{HashMap, get}
use Rattle.stack_code.specs.declared.code.InterfaceTarget.{InterfaceTarget}
use Rattle.stack_code.specs.declared.code.MachineCode.{MachineCode}
use Rattle.stack_code.specs.declared.valid_code.calls.Common.{Common}
use Rattle.stack_code.specs.declared.valid_code.calls.Common.TheVariants.{Nobody}
use Rattle.stack_code.specs.declared.valid_code.entered.Entered.{Entered}
use Rattle.stack_code.specs.Machine.{first_target}
use Rattle.stack_code.specs.valid_code.Private.Calls.{Shares, with_some, methods_of}
use Rattle.stack_code.specs.valid_code.Private.Tables.{same_pair, conformers, AreConformers}

abbrev pub common_of : Option Common → Common
common_of None = Nobody
common_of (Some common) = common

abbrev pub common_at : {S : Type 0} → HashMap (ℕ × ℕ) Common S → ℕ × ℕ → Common
common_at commons key = common_of (get same_pair commons key)

abbrev pub IsCommonNoted : {S T : Type 0} → HashMap (ℕ × ℕ) Common S → HashMap (ℕ × ℕ) Common T → ℕ × ℕ → Common → Type 0
IsCommonNoted old new key common = (q : ℕ × ℕ) → get same_pair new q ≡ cond (same_pair key q) (Some common) (get same_pair old q)

-- the routines by which the classes of these entries implement the method of the interface
abbrev pub targets_of : List InterfaceTarget → List InterfaceTarget → ℕ → ℕ → List ℕ
targets_of table [] i m = []
targets_of table (t ∷ ts) i m = if nat_eq t.interface i && nat_eq t.method m then with_some (first_target table t.class i m) (targets_of table ts i m) else targets_of table ts i m

-- those of one entry more
abbrev pub IsTargetNoted : {S T : Type 0} → MachineCode → HashMap (ℕ × ℕ) Common S → HashMap (ℕ × ℕ) Common T → InterfaceTarget → Type 0
IsTargetNoted code old new t = (i m : ℕ) (ks : List ℕ) → Shares code ks (common_at old (i, m)) → Shares code (ks ++ targets_of code.targets (t ∷ []) i m) (common_at new (i, m))

abbrev pub AreTargetCommons : {S : Type 0} → MachineCode → List InterfaceTarget → HashMap (ℕ × ℕ) Common S → Type 0
AreTargetCommons code entries commons = (i m : ℕ) → Shares code (targets_of code.targets entries i m) (common_at commons (i, m))

-- the routines in the slot of the classes that conform to the target
abbrev pub methods_at : MachineCode → ℕ → ℕ → List ℕ
methods_at code target s = methods_of code (conformers code.conforms target) s

abbrev pub AreMethodCommons : {S : Type 0} → MachineCode → HashMap (ℕ × ℕ) Common S → Type 0
AreMethodCommons code commons = (target s : ℕ) (common : Common) → get same_pair commons (target, s) ≡ Some common → Shares code (methods_at code target s) common

pub record IsKnown (code : MachineCode) (entered : Entered) : Type 0 where
  pub conformers-are : AreConformers code.conforms entered.conformers
  pub methods-are : AreMethodCommons code entered.methods
  pub targets-are : AreTargetCommons code code.targets entered.targets
