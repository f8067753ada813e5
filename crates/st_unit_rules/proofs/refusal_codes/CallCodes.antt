-- Calls break no rule of the code E17.
use Rattle.std.proofs.Common.{refl}
use Rattle.std.specs.Prelude.{ℕ, Bool, List, [], ◌∷◌, ◌++◌, Option, Some}
use Rattle.plc_text.specs.declared.code.Code.TheVariants.{E07, E09, E10}
use Rattle.st_types.specs.declared.st_type.StType.{StType}
use Rattle.st_rules.specs.declared.names.DeclaredVariable.{DeclaredVariable}
use Rattle.st_rules.specs.declared.asked.Asked.{Asked}
use Rattle.st_rules.specs.declared.asked.Asked.TheVariants.{Wanted}
use Rattle.st_rules.specs.Scope.{Scope}
use Rattle.st_rules.specs.Calls.{head_names, unknown_or_repeated, named_unknown_or_twice, matching_faults, call_without_result, callee_parameters, call_of_no_callable, super_call_without_base_block, arguments_of_super_call, super_call_in_a_method, abstract_method_on_super, conversion_without_operand, callee_faults, value_unsuited, bound_to_another_type, output_unsuited, not_callable, a_conversion, a_routine, base_body, no_base_body, unnamed, names_input, names_output, Callee, Head}
use Rattle.st_unit_rules.proofs.refusal_codes.FaultWords.{Usual, none, ◌also◌, broken, if_broken, either}

unknown_or_repeated_usual : (ps : List DeclaredVariable) (earlier : List (List ℕ)) (h : Head) → Usual (unknown_or_repeated ps earlier h)
unknown_or_repeated_usual ps earlier unnamed = none
unknown_or_repeated_usual ps earlier (names_input l name) = if_broken _ E09 _ refl
unknown_or_repeated_usual ps earlier (names_output l name) = if_broken _ E09 _ refl

named_unknown_or_twice_usual : (ps : List DeclaredVariable) (earlier : List (List ℕ)) (x : List Head) → Usual (named_unknown_or_twice ps earlier x)
named_unknown_or_twice_usual ps earlier [] = none
named_unknown_or_twice_usual ps earlier (h ∷ hs) =
    unknown_or_repeated_usual ps earlier h
    also named_unknown_or_twice_usual ps (earlier ++ head_names h) hs

matching_faults_usual : (line : ℕ) (ps : List DeclaredVariable) (hs : List Head) → Usual (matching_faults line ps hs)
matching_faults_usual line ps hs =
    if_broken _ E09 _ refl
    also if_broken _ E09 _ refl
    also named_unknown_or_twice_usual ps [] hs
    also if_broken _ E09 _ refl

pub call_without_result_usual : (line : ℕ) (c : Callee) → Usual (call_without_result line c)
unfolding call_without_result
call_without_result_usual line c = if_broken _ E07 _ refl

module _ (s : Scope) where
  call_of_no_callable_usual : (line : ℕ) (c : Callee) → Usual (call_of_no_callable s line c)
  call_of_no_callable_usual line not_callable = broken E09 _ refl
  call_of_no_callable_usual line _ = none

  super_call_without_base_block_usual : (line : ℕ) (c : Callee) → Usual (super_call_without_base_block s line c)
  super_call_without_base_block_usual line no_base_body = broken E07 _ refl
  super_call_without_base_block_usual line _ = none

  arguments_of_super_call_usual : (line : ℕ) (c : Callee) (hs : List Head) → Usual (arguments_of_super_call s line c hs)
  arguments_of_super_call_usual line (base_body b) (h ∷ hs) = broken E09 _ refl
  arguments_of_super_call_usual line _ hs = none

  super_call_in_a_method_usual : (line : ℕ) (c : Callee) → Usual (super_call_in_a_method s line c)
  super_call_in_a_method_usual line (base_body b) = if_broken _ E10 _ refl
  super_call_in_a_method_usual line _ = none

  abstract_method_on_super_usual : (line : ℕ) (on_super : Bool) (c : Callee) → Usual (abstract_method_on_super s line on_super c)
  abstract_method_on_super_usual line on_super (a_routine r) = if_broken _ E09 _ refl
  abstract_method_on_super_usual line on_super _ = none

  conversion_without_operand_usual : (line : ℕ) (c : Callee) (hs : List Head) → Usual (conversion_without_operand s line c hs)
  conversion_without_operand_usual line (a_conversion a b) [] = broken E09 _ refl
  conversion_without_operand_usual line _ hs = none

  pub callee_faults_usual : (line : ℕ) (on_super : Bool) (c : Callee) (hs : List Head) → Usual (callee_faults s line on_super c hs)
  unfolding callee_faults
  callee_faults_usual line on_super c hs =
      call_of_no_callable_usual line c
      also super_call_without_base_block_usual line c
      also arguments_of_super_call_usual line c hs
      also super_call_in_a_method_usual line c
      also abstract_method_on_super_usual line on_super c
      also conversion_without_operand_usual line c hs
      also (either _ (matching_faults_usual line (callee_parameters s c) hs) none)

  pub value_unsuited_usual : (line : ℕ) (x : Asked) (t : Option StType) → Usual (value_unsuited s line x t)
  unfolding value_unsuited
  value_unsuited_usual line (Wanted u) (Some t) = if_broken _ E07 _ refl
  value_unsuited_usual line _ _ = none

  pub bound_to_another_type_usual : (line : ℕ) (t t' : Option StType) → Usual (bound_to_another_type s line t t')
  bound_to_another_type_usual line (Some u) (Some t) = if_broken _ E07 _ refl
  bound_to_another_type_usual line _ _ = none

  pub output_unsuited_usual : (line : ℕ) (t t' : Option StType) → Usual (output_unsuited s line t t')
  unfolding output_unsuited
  output_unsuited_usual line (Some t) (Some u) = if_broken _ E07 _ refl
  output_unsuited_usual line _ _ = none
