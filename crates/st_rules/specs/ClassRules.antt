-- The rules of bases and methods that a class or a function block breaks: E06 and E12 (IEC 61131-3:2013, 6.6.5).
use Rattle.std.specs.Prelude.{ℕ, Bool, true, false, not, ◌&&◌, List, [], ◌++◌, Option, Some, None, option_and_then, slice_get}
use Rattle.std.specs.List.{list_any}
use Rattle.std.specs.Option.{is_none}
use Rattle.plc_text.specs.declared.code.Code.TheVariants.{E06, E12}
use Rattle.st_tree.specs.Statement.{Statement, Empty, statement_of}
use Rattle.st_tree.specs.declared.statement.Stmt.{Stmt}
use Rattle.st_tree.specs.declared.declaration.SectionSort.TheVariants as sort
use Rattle.st_tree.specs.declared.declaration.SectionSort.{SectionSort}
use Rattle.st_tree.specs.declared.declaration.Member.{Member}
use Rattle.st_tree.specs.declared.declaration.Member.TheVariants as member
use Rattle.st_tree.specs.declared.declaration.Method.{Method}
use Rattle.st_tree.specs.declared.declaration.ClassSort.{ClassSort}
use Rattle.st_tree.specs.declared.declaration.ClassSort.TheVariants as class_sort
use Rattle.st_tree.specs.declared.declaration.ClassDecl.{ClassDecl}
use Rattle.st_rules.specs.declared.modifiers.Access.TheVariants.{Private}
use Rattle.st_rules.specs.declared.ids.MethodId.{MethodId}
use Rattle.st_rules.specs.declared.signature.Signatures.{Signatures}
use Rattle.st_rules.specs.Faults.{Faults, when}
use Rattle.st_rules.specs.Modifiers.{is_abstract, is_final, is_override, method_access, same_access}
use Rattle.st_rules.specs.Numbered.{passes_if_there, each_numbered}
use Rattle.st_rules.specs.Chains.{is_among}
use Rattle.st_rules.specs.Classes.{method_id, base_of, chain, lookup, methods_in, method_at}
use Rattle.st_rules.specs.Signatures.{differ, signature_of, hook_signature, is_hook}

-- a lone `;` is no statement
abbrev pub is_plain_statement : {A : Type 0} → Statement A → Bool
is_plain_statement (Empty l) = false
is_plain_statement _ = true

unfoldable pub is_statement : {A : Type 0} → Stmt A → Bool
is_statement s = is_plain_statement (statement_of s)

abbrev pub is_in_out : SectionSort → Bool
is_in_out sort.InOut = true
is_in_out _ = false

-- a section VAR_IN_OUT, an empty one too
abbrev pub is_in_out_section : {A : Type 0} → Member A → Bool
is_in_out_section (member.Section s) = is_in_out s.sort
is_in_out_section (member.Method m) = false

abbrev pub is_block_sort : ClassSort → Bool
is_block_sort class_sort.FunctionBlock = true
is_block_sort class_sort.Class = false

abbrev pub is_block : {A : Type 0} → ClassDecl A → Bool
is_block class = is_block_sort class.sort

-- ---- bases

-- the class stands above its own base
abbrev pub lies_on_cycle : {A : Type 0} → List (ClassDecl A) → ℕ → Bool
lies_on_cycle classes c = passes_if_there (λ b. is_among c (chain classes b)) (base_of classes c)

module _ {A : Type 0} (class : ClassDecl A) where
  abbrev pub cycle_of_bases : Bool → Faults
  cycle_of_bases on_cycle = when on_cycle E06 class.line

  abbrev pub final_base : Option (ClassDecl A) → Faults
  final_base base = when (passes_if_there (λ b. is_final b.modifiers) base) E12 class.line

  abbrev pub class_extends_block : Option (ClassDecl A) → Faults
  class_extends_block base = when (not (is_block class) && passes_if_there is_block base) E12 class.line

  abbrev pub block_with_in_outs_extends_block : Option (ClassDecl A) → Faults
  block_with_in_outs_extends_block base = when (is_block class && passes_if_there is_block base && list_any is_in_out_section class.members) E12 class.line

-- ---- methods

module _ {A : Type 0} (method : Method A) where
  abbrev pub final_method_overridden : Option (Method A) → Faults
  final_method_overridden over = when (passes_if_there (λ o. is_final o.modifiers) over) E12 method.line

  abbrev pub private_method_overridden : Option (Method A) → Faults
  private_method_overridden over = when (passes_if_there (λ o. same_access (method_access o.modifiers) Private) over) E12 method.line

  abbrev pub overridden_with_other_access : Option (Method A) → Faults
  overridden_with_other_access over = when (passes_if_there (λ o. not (same_access (method_access method.modifiers) (method_access o.modifiers))) over) E12 method.line

  abbrev pub overridden_with_other_signature : Bool → Faults
  overridden_with_other_signature other = when other E12 method.line

  abbrev pub nothing_to_override : Option (Method A) → Faults
  nothing_to_override over = when (is_override method.modifiers && is_none over) E12 method.line

  abbrev pub abstract_hook : Faults
  abstract_hook = when (is_hook method.name.text && is_abstract method.modifiers) E12 method.line

  abbrev pub hook_with_other_signature : Bool → Faults
  hook_with_other_signature other = when other E12 method.line

  abbrev pub abstract_method_with_statements : Faults
  abstract_method_with_statements = when (is_abstract method.modifiers && list_any is_statement method.body) E12 method.line

  abbrev pub abstract_method_in_concrete_class : ClassDecl A → Faults
  abstract_method_in_concrete_class class = when (is_abstract method.modifiers && not (is_abstract class.modifiers)) E12 method.line

-- ---- a class with its methods

module _ {A V : Type 0} (same_value : V → V → Bool) (classes : List (ClassDecl A)) (signatures : Signatures V) where
  -- the method of that name that the class has from its base
  abbrev pub inherited : ℕ → List ℕ → Option MethodId
  inherited c name = option_and_then (λ b. lookup classes b name) (base_of classes c)

  -- the method that a class declares has another signature than the one that it overrides
  abbrev pub has_other_signature : MethodId → Option MethodId → Bool
  has_other_signature id over = differ same_value (signature_of signatures id) (option_and_then (signature_of signatures) over)

  -- the method has the name of a hook, and another signature than that hook
  abbrev pub is_no_hook : MethodId → List ℕ → Bool
  is_no_hook id name = differ same_value (signature_of signatures id) (hook_signature signatures.falsehood name)

  abbrev pub method_faults : ℕ → ClassDecl A → ℕ → Method A → Faults
  method_faults c class m method =
      let over = inherited c method.name.text in
      let overridden = option_and_then (method_at classes) over in
      final_method_overridden method overridden
      ++ private_method_overridden method overridden
      ++ overridden_with_other_access method overridden
      ++ overridden_with_other_signature method (has_other_signature (method_id c m) over)
      ++ nothing_to_override method overridden
      ++ abstract_hook method
      ++ hook_with_other_signature method (is_no_hook (method_id c m) method.name.text)
      ++ abstract_method_with_statements method
      ++ abstract_method_in_concrete_class method class

  abbrev pub base_faults : ℕ → ClassDecl A → Faults
  base_faults c class =
      let base = option_and_then (slice_get classes) (base_of classes c) in
      cycle_of_bases class (lies_on_cycle classes c)
      ++ final_base class base
      ++ class_extends_block class base
      ++ block_with_in_outs_extends_block class base

  -- the rules that class number c breaks
  abbrev pub class_faults_of : ℕ → Option (ClassDecl A) → Faults
  class_faults_of c None = []
  class_faults_of c (Some class) = base_faults c class ++ each_numbered (method_faults c class) 0 (methods_in class.members)

  abbrev pub class_faults : ℕ → Faults
  class_faults c = class_faults_of c (slice_get classes c)
