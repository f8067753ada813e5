-- Classes and interfaces break no rule of the code E17 by their bases and methods.
use Rattle.std.proofs.Common.{refl}
use Rattle.std.specs.Prelude.{ℕ, Bool, List, Option, Some, None, option_and_then, slice_get}
use Rattle.plc_text.specs.declared.code.Code.TheVariants.{E06, E11, E12}
use Rattle.st_tree.specs.declared.declaration.Method.{Method}
use Rattle.st_tree.specs.declared.declaration.ClassDecl.{ClassDecl}
use Rattle.st_tree.specs.declared.declaration.InterfaceDecl.{InterfaceDecl}
use Rattle.st_rules.specs.declared.signature.Signatures.{Signatures}
use Rattle.st_rules.specs.Classes.{base_of, methods_in, method_at}
use Rattle.st_rules.specs.ClassRules.{inherited, method_faults, base_faults, class_faults_of, class_faults}
use Rattle.st_rules.specs.InterfaceRules.{interface_faults_of, interface_faults, concrete_class_faults_of, concrete_class_faults}
use Rattle.st_unit_rules.proofs.refusal_codes.FaultWords.{Usual, none, ◌also◌, if_broken, of_numbered}

-- ---- classes

module _ {A V : Type 0} (same_value : V → V → Bool) (classes : List (ClassDecl A)) (signatures : Signatures V) where
  method_faults_usual : (c : ℕ) (class : ClassDecl A) (m : ℕ) (method : Method A) → Usual (method_faults same_value classes signatures c class m method)
  method_faults_usual c class m method =
      let over = inherited same_value classes signatures c method.name.text in
      let overridden = option_and_then (method_at classes) over in
      if_broken _ E12 _ refl
      also if_broken _ E12 _ refl
      also if_broken _ E12 _ refl
      also if_broken _ E12 _ refl
      also if_broken _ E12 _ refl
      also if_broken _ E12 _ refl
      also if_broken _ E12 _ refl
      also if_broken _ E12 _ refl
      also if_broken _ E12 _ refl

  base_faults_usual : (c : ℕ) (class : ClassDecl A) → Usual (base_faults same_value classes signatures c class)
  base_faults_usual c class =
      let base = option_and_then (slice_get classes) (base_of classes c) in
      if_broken _ E06 _ refl also if_broken _ E12 _ refl also if_broken _ E12 _ refl also if_broken _ E12 _ refl

  class_faults_of_usual : (c : ℕ) (x : Option (ClassDecl A)) → Usual (class_faults_of same_value classes signatures c x)
  class_faults_of_usual c None = none
  class_faults_of_usual c (Some class) = base_faults_usual c class also of_numbered _ (method_faults_usual c class) 0 (methods_in class.members)

  pub class_faults_usual : (c : ℕ) → Usual (class_faults same_value classes signatures c)
  class_faults_usual c = class_faults_of_usual c (slice_get classes c)

-- ---- interfaces, and classes that are not abstract

interface_faults_of_usual : {A : Type 0} (interfaces : List (InterfaceDecl A)) (i : ℕ) (x : Option (InterfaceDecl A)) → Usual (interface_faults_of interfaces i x)
interface_faults_of_usual interfaces i None = none
interface_faults_of_usual interfaces i (Some interface) = if_broken _ E06 _ refl

pub interface_faults_usual : {A : Type 0} (interfaces : List (InterfaceDecl A)) (i : ℕ) → Usual (interface_faults interfaces i)
interface_faults_usual interfaces i = interface_faults_of_usual interfaces i (slice_get interfaces i)

module _ {A : Type 0} (classes : List (ClassDecl A)) (interfaces : List (InterfaceDecl A)) {V : Type 0} (same_value : V → V → Bool) (signatures : Signatures V) where
  concrete_class_faults_of_usual : (c : ℕ) (x : Option (ClassDecl A)) → Usual (concrete_class_faults_of classes interfaces same_value signatures c x)
  concrete_class_faults_of_usual c None = none
  concrete_class_faults_of_usual c (Some class) = if_broken _ E11 _ refl also if_broken _ E11 _ refl

  pub concrete_class_faults_usual : (c : ℕ) → Usual (concrete_class_faults classes interfaces same_value signatures c)
  concrete_class_faults_usual c = concrete_class_faults_of_usual c (slice_get classes c)
