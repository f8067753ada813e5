-- With signatures that are alike a class breaks the same rules.
use Rattle.std.proofs.Common.{◌≡◌, ℕ, Bool, List, [], Option, Some, None, refl}
use Rattle.std.specs.Prelude.{not, ◌&&◌, ◌++◌, slice_get, option_and_then}
use Rattle.plc_text.specs.declared.code.Code.TheVariants.{E11}
use Rattle.st_tree.specs.declared.declaration.ClassDecl.{ClassDecl}
use Rattle.st_tree.specs.declared.declaration.InterfaceDecl.{InterfaceDecl}
use Rattle.st_tree.specs.declared.declaration.Method.{Method}
use Rattle.st_rules.specs.declared.signature.Signatures.{Signatures}
use Rattle.st_rules.specs.Faults.{Faults, when}
use Rattle.st_rules.specs.Modifiers.{is_abstract}
use Rattle.st_rules.specs.Numbered.{passes_if_there, each_numbered, any_numbered}
use Rattle.st_rules.specs.Classes.{method_id, methods_in, method_at}
use Rattle.st_rules.specs.Interfaces.{conforms, prototype_id}
use Rattle.st_types.specs.declared.st_type.StType.TheVariants.{Interface}
use Rattle.st_rules.specs.ClassRules as rules
use Rattle.st_rules.specs.InterfaceRules as abstracts
use Rattle.default_values.specs.numbered_signatures.Alike.{AreAllAlike}
use Rattle.default_values.proofs.numbered_signatures.AlikeLaws.{overriding_alike, asked_alike, meeting_alike}

module _ {V W : Type 0} (same_v : V → V → Bool) (same_w : W → W → Bool) (Tells : V → W → Type 0)
    (tells : (a b : V) (v w : W) → Tells a v → Tells b w → same_v a b ≡ same_w v w)
    (vs : Signatures V) (ws : Signatures W) (alike : AreAllAlike Tells vs ws) {A : Type 0} (classes : List (ClassDecl A)) where
  method_faults : (c : ℕ) (class : ClassDecl A) (m : ℕ) (method : Method A) → rules.method_faults same_v classes vs c class m method ≡ rules.method_faults same_w classes ws c class m method
  method_faults c class m method =
      let over = rules.inherited same_w classes ws c method.name.text in
      let overridden = option_and_then (method_at classes) over in
      let other = overriding_alike same_v same_w Tells tells vs ws alike (method_id c m) over in
      let hook = asked_alike same_v same_w Tells tells vs ws alike (method_id c m) method.name.text in
      λ i.
      rules.final_method_overridden method overridden
      ++ rules.private_method_overridden method overridden
      ++ rules.overridden_with_other_access method overridden
      ++ rules.overridden_with_other_signature method (other i)
      ++ rules.nothing_to_override method overridden
      ++ rules.abstract_hook method
      ++ rules.hook_with_other_signature method (hook i)
      ++ rules.abstract_method_with_statements method
      ++ rules.abstract_method_in_concrete_class method class

  faults_of : (c : ℕ) (o : Option (ClassDecl A)) → rules.class_faults_of same_v classes vs c o ≡ rules.class_faults_of same_w classes ws c o
  faults_of c None = refl
  faults_of c (Some class) = λ i. rules.base_faults same_w classes ws c class ++ each_numbered (λ m method. method_faults c class m method i) 0 (methods_in class.members)

  -- the rules of bases and methods
  pub class_faults_alike : (c : ℕ) → rules.class_faults same_v classes vs c ≡ rules.class_faults same_w classes ws c
  class_faults_alike c = faults_of c (slice_get classes c)

  module _ (interfaces : List (InterfaceDecl A)) where
    is_met : (c i m : ℕ) → abstracts.is_met classes interfaces same_v vs c i m ≡ abstracts.is_met classes interfaces same_w ws c i m
    is_met c i m = λ k. passes_if_there (λ id. not (meeting_alike same_v same_w Tells tells vs ws alike id (prototype_id i m) k)) (abstracts.target classes interfaces c i m)

    leaves_method : (c i : ℕ) (interface : InterfaceDecl A) → abstracts.leaves_method classes interfaces same_v vs c i interface ≡ abstracts.leaves_method classes interfaces same_w ws c i interface
    leaves_method c i interface = λ k. conforms classes interfaces c (Interface i) && any_numbered (λ m p. not (is_met c i m k)) 0 interface.methods

    concrete_of : (c : ℕ) (o : Option (ClassDecl A)) → abstracts.concrete_class_faults_of classes interfaces same_v vs c o ≡ abstracts.concrete_class_faults_of classes interfaces same_w ws c o
    concrete_of c None = refl
    concrete_of c (Some class) =
        λ k. abstracts.abstract_method_left classes c class
        ++ when (not (is_abstract class.modifiers) && any_numbered (λ i interface. leaves_method c i interface k) 0 interfaces) E11 class.line

    -- the rules of interfaces and abstract methods
    pub concrete_class_faults_alike : (c : ℕ) → abstracts.concrete_class_faults classes interfaces same_v vs c ≡ abstracts.concrete_class_faults classes interfaces same_w ws c
    concrete_class_faults_alike c = concrete_of c (slice_get classes c)
