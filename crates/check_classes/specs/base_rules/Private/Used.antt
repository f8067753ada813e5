-- Names in headings, one by one.
use Rattle.std.specs.Prelude.{◌≡◌, ℕ, List, [], ◌∷◌, ◌++◌, Option, Some, None}
use Rattle.std.specs.Option.{is_none}
use Rattle.plc_text.specs.declared.code.Code.TheVariants.{E05}
use Rattle.st_types.specs.declared.st_type.StType.{StType}
use Rattle.st_tree.specs.declared.name.Used.{Used}
use Rattle.st_tree.specs.declared.program.Target.TheVariants as target
use Rattle.st_rules.specs.Expressions.{note}
use Rattle.st_rules.specs.Faults.{least, earlier, when}
use Rattle.check_classes.specs.declared.base_rules.used.CheckedBase.{CheckedBase}
use Rattle.check_classes.specs.declared.base_rules.used.CheckedInterfaces.{CheckedInterfaces}
use Rattle.check_classes.specs.declared.base_rules.used.CheckedUsed.{CheckedUsed}

pub record IsUsed (c : CheckedUsed) (used : Used ℕ) (kind : Option StType) : Type 0 where
  pub least : c.least ≡ least (when (is_none kind) E05 used.note)
  pub note : c.used.note ≡ note used.note kind target.Nothing
  pub text : c.used.text ≡ used.text

pub record IsBase (c : CheckedBase) (found : CheckedUsed) : Type 0 where
  pub least : c.least ≡ found.least
  pub base : c.base ≡ Some found.used

pub record NoInterfaces (x : CheckedInterfaces) : Type 0 where
  pub least : x.least ≡ None
  pub interfaces : x.interfaces ≡ []

pub record AddsInterface (x before : CheckedInterfaces) (one : CheckedUsed) : Type 0 where
  pub least : x.least ≡ earlier before.least one.least
  pub interfaces : x.interfaces ≡ before.interfaces ++ one.used ∷ []
