-- Literals, places and what is selected in them break no rule of the code E17.
use Rattle.std.proofs.Common.{refl}
use Rattle.std.specs.Prelude.{ℕ, ℤ, pos, neg_ℤ, List, Option, Some, None, zero, suc, Bool, false, option_and_then}
use Rattle.plc_text.specs.declared.code.Code.TheVariants.{E05, E07, E08, E10, E13, E16}
use Rattle.st_types.specs.declared.elem.Elem.{Elem}
use Rattle.st_types.specs.declared.st_type.StType.{StType}
use Rattle.st_tree.specs.declared.expression.Literal.{Literal}
use Rattle.st_tree.specs.declared.expression.Root.{Root}
use Rattle.st_tree.specs.declared.expression.Root.TheVariants as root
use Rattle.st_tree.specs.Number.{number_of}
use Rattle.st_tree.specs.Expression.{Selector, Field, Index, Selectors, no_selectors, selector_then}
use Rattle.st_tree.specs.Expression as tree
use Rattle.st_rules.specs.Literals.{number_past_its_type, int_faults, negative_faults, typed_literal_faults, time_past_32_bits}
use Rattle.st_rules.specs.Kinds.{element_type}
use Rattle.st_rules.specs.Scope.{Scope, Meant, a_variable, Qualifier, values_of, of_untold, no_qualifier, sought, dot_qualifier}
use Rattle.st_rules.specs.Scope as scope
use Rattle.st_rules.specs.Places.{standing_type, count_expressions, root_line, index_on_no_array, indices_on_no_array, dereference_of_no_reference, part_of, name_out_of_access, part_out_of_access, name_faults, qualified_faults, root_faults, part_faults, selector_faults, too_many_selectors, whole_faults, target_faults, a_value, a_member, a_method, Standing, Part}
use Rattle.st_unit_rules.proofs.refusal_codes.FaultWords.{Usual, none, ◌also◌, if_broken}

-- ---- literals

number_past_its_type_usual : (line : ℕ) (v : ℤ) (t : Option StType) → Usual (number_past_its_type line v t)
number_past_its_type_usual line v None = none
number_past_its_type_usual line v (Some t) = if_broken _ E13 _ refl

pub int_faults_usual : (line : ℕ) (digits : List ℕ) (t : Option StType) → Usual (int_faults line digits t)
unfolding int_faults
int_faults_usual line digits t = if_broken _ E13 _ refl also number_past_its_type_usual line (pos (number_of digits)) t

pub negative_faults_usual : (line : ℕ) (digits : List ℕ) (t : Option StType) → Usual (negative_faults line digits t)
unfolding negative_faults
negative_faults_usual line digits t = if_broken _ E13 _ refl also number_past_its_type_usual line (neg_ℤ (pos (number_of digits))) t

pub typed_literal_faults_usual : (line : ℕ) (e : Elem) (l : Literal) → Usual (typed_literal_faults line e l)
unfolding typed_literal_faults
typed_literal_faults_usual line e l = if_broken _ E07 _ refl also if_broken _ E13 _ refl

pub time_past_32_bits_usual : (line : ℕ) (text : List ℕ) → Usual (time_past_32_bits line text)
unfolding time_past_32_bits
time_past_32_bits_usual line text = if_broken _ E13 _ refl

-- ---- places

index_on_no_array_usual : (line : ℕ) (t : Option StType) → Usual (index_on_no_array line t)
index_on_no_array_usual line None = none
index_on_no_array_usual line (Some t) = if_broken _ E07 _ refl

indices_on_no_array_usual : (line n : ℕ) (t : Option StType) → Usual (indices_on_no_array line n t)
indices_on_no_array_usual line zero t = none
indices_on_no_array_usual line (suc n) t = index_on_no_array_usual line t also indices_on_no_array_usual line n (option_and_then element_type t)

dereference_of_no_reference_usual : (line : ℕ) (x : Standing) → Usual (dereference_of_no_reference line x)
dereference_of_no_reference_usual line (a_value t) = if_broken _ E07 _ refl
dereference_of_no_reference_usual line _ = none

module _ (s : Scope) where
  name_out_of_access_usual : (line : ℕ) (m : Option Meant) → Usual (name_out_of_access s line m)
  name_out_of_access_usual line (Some (a_variable (Some d) v)) = if_broken _ E10 _ refl also if_broken _ E10 _ refl
  name_out_of_access_usual line (Some (scope.a_method id)) = if_broken _ E10 _ refl
  name_out_of_access_usual line _ = none

  part_out_of_access_usual : (line : ℕ) (p : Option Part) → Usual (part_out_of_access s line p)
  part_out_of_access_usual line (Some (a_member d v)) = if_broken _ E10 _ refl
  part_out_of_access_usual line (Some (a_method id)) = if_broken _ E10 _ refl
  part_out_of_access_usual line _ = none

  pub name_faults_usual : (line : ℕ) (called : Bool) (m : Option Meant) → Usual (name_faults s line called m)
  name_faults_usual line called m = if_broken _ E05 _ refl also name_out_of_access_usual line m

  qualified_faults_usual : (line : ℕ) (q : Qualifier) (name : List ℕ) → Usual (qualified_faults s line q name)
  qualified_faults_usual line (values_of n) name = none
  qualified_faults_usual line of_untold name = none
  qualified_faults_usual line no_qualifier name = name_faults_usual line false (sought s false name)

  pub root_faults_usual : (called : Bool) (r : Root ℕ) (ss : Selectors ℕ) → Usual (root_faults s called r ss)
  unfolding root_faults
  root_faults_usual called (root.This l) ss = if_broken _ E10 _ refl
  root_faults_usual called (root.Super l) ss = if_broken _ E10 _ refl
  root_faults_usual called (root.Name l name) no_selectors = name_faults_usual l called (sought s called name)
  root_faults_usual called (root.Name l name) (selector_then (Field k n) ss) = qualified_faults_usual l (dot_qualifier s name) name
  root_faults_usual called (root.Name l name) ss = name_faults_usual l false (sought s false name)

  part_faults_usual : (line : ℕ) (b : Standing) (p : Option Part) → Usual (part_faults s line b p)
  unfolding part_faults
  part_faults_usual line b p = if_broken _ E05 _ refl also part_out_of_access_usual line p

  pub selector_faults_usual : (line : ℕ) (called : Bool) (b : Standing) (x : Selector ℕ) → Usual (selector_faults s line called b x)
  unfolding selector_faults
  selector_faults_usual line called b (Field l name) = part_faults_usual l b (part_of s b called name)
  selector_faults_usual line called b (Index l es) =
      if_broken _ E07 _ refl
      also indices_on_no_array_usual line (count_expressions es) (standing_type b)
  selector_faults_usual line called b (tree.Target l) = dereference_of_no_reference_usual line b

  pub too_many_selectors_usual : (line : ℕ) (ss : Selectors ℕ) → Usual (too_many_selectors s line ss)
  unfolding too_many_selectors
  too_many_selectors_usual line ss = if_broken _ E16 _ refl

  pub whole_faults_usual : (r : Root ℕ) (ss : Selectors ℕ) → Usual (whole_faults s r ss)
  unfolding whole_faults
  whole_faults_usual r ss = if_broken _ E07 _ refl also too_many_selectors_usual (root_line r) ss

  pub target_faults_usual : (r : Root ℕ) (ss : Selectors ℕ) → Usual (target_faults s r ss)
  unfolding target_faults
  target_faults_usual r ss = if_broken _ E08 _ refl also if_broken _ E08 _ refl
