-- Types and the values of constants, from which all else is told.
use Rattle.std.proofs.Common.{◌≡◌, true}
use Rattle.st_rules.specs.declared.names.DeclaredVariable.{DeclaredVariable}
use Rattle.st_rules.specs.declared.names.DeclaredClass.{DeclaredClass}
use Rattle.st_rules.specs.declared.names.DeclaredGlobal.{DeclaredGlobal}
use Rattle.st_rules.specs.declared.names.DeclaredGlobal.TheVariants as global
use Rattle.st_rules.specs.declared.names.TypeParts.{TypeParts}
use Rattle.st_rules.specs.declared.names.DeclaredNames.{DeclaredNames}
use Rattle.st_rules.specs.Scope.{value_names}
use Rattle.st_unit_rules.specs.declared_names.Constants.{is_told}
use Rattle.resolution_order.specs.told_laws.ToldLaws.{Each, AlikeType, NoLess, MeansNoLess}

-- where the first tells a constant's value, the second is the same
pub record VariableBasis (v w : DeclaredVariable) : Type 0 where
  pub name : v.name ≡ w.name
  pub sort : v.sort ≡ w.sort
  pub constant : v.constant ≡ w.constant
  pub access : v.access ≡ w.access
  pub located_input : v.located_input ≡ w.located_input
  pub told : v.constant ≡ true → is_told v.target ≡ true → w ≡ v

abbrev pub GlobalBasis : DeclaredGlobal → DeclaredGlobal → Type 0
GlobalBasis (global.Variable v) (global.Variable w) = VariableBasis v w
GlobalBasis (global.Function k r) (global.Function j q) = r.name ≡ q.name
GlobalBasis _ _ = ⊥

abbrev pub ClassBasis : DeclaredClass → DeclaredClass → Type 0
ClassBasis c d = Each VariableBasis c.variables d.variables

abbrev pub PartsBasis : TypeParts → TypeParts → Type 0
PartsBasis p q = value_names p ≡ value_names q

-- the second tells the types and the values of constants that the first tells
pub record BasisNoLess (a b : DeclaredNames) : Type 0 where
  pub types : Each (AlikeType NoLess MeansNoLess) a.types b.types
  pub parts : Each PartsBasis a.parts b.parts
  pub classes : Each ClassBasis a.classes b.classes
  pub globals : Each GlobalBasis a.globals b.globals
