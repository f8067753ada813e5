-- Expressions break no rule of the code E17.
use Rattle.std.proofs.Common.{refl}
use Rattle.std.specs.Prelude.{ℕ, Bool, true, false, ◌&&◌, List, Option, Some, None}
use Rattle.plc_text.specs.declared.code.Code.TheVariants.{E05, E07, E08, E16}
use Rattle.st_types.specs.declared.elem.Elem.{Elem}
use Rattle.st_types.specs.declared.st_type.StType.{StType}
use Rattle.st_tree.specs.declared.expression.Operator.{Operator}
use Rattle.st_tree.specs.declared.expression.Root.{Root}
use Rattle.st_tree.specs.Expression.{Expression, Int, Typed, Time, True, False, Null, Place, Call, Enumerator, Ref, Now, Paren, Not, Negate, Chain, Expressions, no_expressions, expression_then, Selector, Field, Index, Selectors, no_selectors, selector_then, Positional, Input, Output, Arguments, no_arguments, argument_then, Tails, no_tails, tail_then}
use Rattle.st_tree.specs.Expression as tree
use Rattle.st_rules.specs.declared.asked.Asked.{Asked}
use Rattle.st_rules.specs.declared.asked.Asked.TheVariants.{Anything}
use Rattle.st_rules.specs.Kinds.{is_arithmetic, operation_type, takes_not, takes_minus}
use Rattle.st_rules.specs.Literals.{number_asked, int_type, negative_type}
use Rattle.st_rules.specs.Scope.{Scope, Qualifier, values_of, of_untold, no_qualifier, type_qualifier}
use Rattle.st_rules.specs.Places.{Standing, is_last, root_line, root_standing, place_type, selected}
use Rattle.st_rules.specs.Calls.{callee, is_on_super, heads, Matched, call_matches, first_match, later_matches, asked_by, matched_type}
use Rattle.st_rules.specs.Expressions.{line_of, is_untyped, operands_unsuited, operand_unsuited, index_unsuited, operand_asked, front_asked, reference_to_no_instance, enumerator_not_found, type_of, asked_behind, called_root_faults, given_unsuited, faults, row_faults, index_faults, along_faults, selector_index_faults, argument_faults, expression_faults}
use Rattle.st_unit_rules.proofs.refusal_codes.FaultWords.{Usual, none, ◌also◌, broken, if_broken, either}
use Rattle.st_unit_rules.proofs.refusal_codes.PlaceCodes.{int_faults_usual, negative_faults_usual, root_faults_usual, selector_faults_usual, target_faults_usual, time_past_32_bits_usual, too_many_selectors_usual, typed_literal_faults_usual, whole_faults_usual}
use Rattle.st_unit_rules.proofs.refusal_codes.CallCodes.{bound_to_another_type_usual, call_without_result_usual, callee_faults_usual, output_unsuited_usual, value_unsuited_usual}

operands_unsuited_usual : (line : ℕ) (o : Operator) (t t' : Option StType) → Usual (operands_unsuited line o t t')
unfolding operands_unsuited
operands_unsuited_usual line o (Some t) (Some u) = if_broken _ E07 _ refl
operands_unsuited_usual line o _ _ = none

operand_unsuited_usual : (line : ℕ) (takes : (Elem → Bool)) (t : Option StType) → Usual (operand_unsuited line takes t)
unfolding operand_unsuited
operand_unsuited_usual line takes None = none
operand_unsuited_usual line takes (Some t) = if_broken _ E07 _ refl

pub index_unsuited_usual : (line : ℕ) (t : Option StType) → Usual (index_unsuited line t)
unfolding index_unsuited
index_unsuited_usual line None = none
index_unsuited_usual line (Some t) = if_broken _ E07 _ refl

reference_to_no_instance_usual : (line : ℕ) (t : Option StType) → Usual (reference_to_no_instance line t)
unfolding reference_to_no_instance
reference_to_no_instance_usual line None = none
reference_to_no_instance_usual line (Some t) = if_broken _ E07 _ refl

module _ (s : Scope) where
  pub enumerator_not_found_usual : (line name_line : ℕ) (q : Qualifier) (name : List ℕ) → Usual (enumerator_not_found s line name_line q name)
  unfolding enumerator_not_found
  enumerator_not_found_usual line name_line (values_of n) name = if_broken _ E05 _ refl
  enumerator_not_found_usual line name_line of_untold name = none
  enumerator_not_found_usual line name_line no_qualifier name = broken E05 _ refl

  pub called_root_faults_usual : (r : Root ℕ) (ss : Selectors ℕ) → Usual (called_root_faults s r ss)
  unfolding called_root_faults
  called_root_faults_usual r ss = either _ none (root_faults_usual s true r ss)

  given_unsuited_usual : (m : Matched) (e : Expression ℕ) (t : Option StType) → Usual (given_unsuited s m e t)
  unfolding given_unsuited
  given_unsuited_usual m e t =
      either _ (bound_to_another_type_usual s (line_of e) (matched_type m) t also if_broken _ E08 _ refl) (value_unsuited_usual s (line_of e) (asked_by m) t)

  mutual
    pub faults_usual : (asked : Asked) (e : Expression ℕ) → Usual (faults s asked e)
    faults_usual asked (Int l digits) = int_faults_usual l digits (int_type asked digits)
    faults_usual asked (Typed l k literal) = typed_literal_faults_usual l k literal
    faults_usual asked (Time l text) = time_past_32_bits_usual l text
    faults_usual asked (True l) = none
    faults_usual asked (False l) = none
    faults_usual asked (Null l) = none
    faults_usual asked (Place l r ss) =
        root_faults_usual s false r ss
        also along_faults_usual (root_line r) false (root_standing s r ss) ss
        also whole_faults_usual s r ss
    faults_usual asked (Call l r ss xs) =
        called_root_faults_usual r ss
        also along_faults_usual (root_line r) true (root_standing s r ss) ss
        also too_many_selectors_usual s (root_line r) ss
        also callee_faults_usual s l (is_on_super r ss) (callee s r ss) (heads xs)
        also argument_faults_usual (call_matches s (callee s r ss) (heads xs)) xs
        also call_without_result_usual l (callee s r ss)
    faults_usual asked (Enumerator l t k name) = enumerator_not_found_usual l k (type_qualifier s t) name
    faults_usual asked (Ref l r ss) =
        root_faults_usual s false r ss
        also along_faults_usual (root_line r) false (root_standing s r ss) ss
        also whole_faults_usual s r ss
        also reference_to_no_instance_usual (root_line r) (place_type s r ss)
    faults_usual asked (Now l) = none
    faults_usual asked (Paren l e) = faults_usual asked e
    faults_usual asked (Not l e) = faults_usual Anything e also operand_unsuited_usual (line_of e) takes_not (type_of s Anything e)
    faults_usual asked (Negate l (Int k digits)) = negative_faults_usual l digits (negative_type asked)
    faults_usual asked (Negate l e) =
        let inner = front_asked (is_untyped e) (number_asked asked) in
        faults_usual inner e also operand_unsuited_usual (line_of e) takes_minus (type_of s inner e)
    faults_usual asked (Chain l e ts) =
        let front = front_asked (is_untyped e) (asked_behind s asked ts) in
        faults_usual front e also row_faults_usual (is_untyped e) front (type_of s front e) ts

    row_faults_usual : (untyped : Bool) (asked : Asked) (t : Option StType) (x : Tails ℕ) → Usual (row_faults s untyped asked t x)
    row_faults_usual untyped asked t no_tails = none
    row_faults_usual untyped asked t (tail_then l o e ts) =
        let inner = operand_asked untyped (is_untyped e) asked t in
        faults_usual inner e
        also operands_unsuited_usual _ o t (type_of s inner e)
        also row_faults_usual (is_arithmetic o && untyped && is_untyped e) asked (operation_type o t (type_of s inner e)) ts

    index_faults_usual : (x : Expressions ℕ) → Usual (index_faults s x)
    index_faults_usual no_expressions = none
    index_faults_usual (expression_then e es) =
        faults_usual Anything e
        also index_unsuited_usual (line_of e) (type_of s Anything e)
        also index_faults_usual es

    pub along_faults_usual : (line : ℕ) (called : Bool) (b : Standing) (ss : Selectors ℕ) → Usual (along_faults s line called b ss)
    along_faults_usual line called b no_selectors = none
    along_faults_usual line called b (selector_then x ss) =
        selector_faults_usual s line (called && is_last ss) b x
        also selector_index_faults_usual x
        also along_faults_usual line called (selected s b x) ss

    selector_index_faults_usual : (x : Selector ℕ) → Usual (selector_index_faults s x)
    selector_index_faults_usual (Field l n) = none
    selector_index_faults_usual (Index l es) = index_faults_usual es
    selector_index_faults_usual (tree.Target l) = none

    pub argument_faults_usual : (ms : List Matched) (xs : Arguments ℕ) → Usual (argument_faults s ms xs)
    argument_faults_usual ms no_arguments = none
    argument_faults_usual ms (argument_then (Positional e) xs) =
        faults_usual (asked_by (first_match ms)) e
        also given_unsuited_usual (first_match ms) e (type_of s (asked_by (first_match ms)) e)
        also argument_faults_usual (later_matches ms) xs
    argument_faults_usual ms (argument_then (Input l name e) xs) =
        faults_usual (asked_by (first_match ms)) e
        also given_unsuited_usual (first_match ms) e (type_of s (asked_by (first_match ms)) e)
        also argument_faults_usual (later_matches ms) xs
    argument_faults_usual ms (argument_then (Output l name k r ss) xs) =
        root_faults_usual s false r ss
        also along_faults_usual (root_line r) false (root_standing s r ss) ss
        also whole_faults_usual s r ss
        also target_faults_usual s r ss
        also output_unsuited_usual s (root_line r) (matched_type (first_match ms)) (place_type s r ss)
        also argument_faults_usual (later_matches ms) xs

  pub expression_faults_usual : (asked : Asked) (e : Expression ℕ) → Usual (expression_faults s asked e)
  expression_faults_usual asked e = faults_usual asked e also value_unsuited_usual s (line_of e) asked (type_of s asked e) also if_broken _ E16 _ refl
