-- Statements break no rule of the code E17.
use Rattle.std.proofs.Common.{refl}
use Rattle.std.specs.Prelude.{ℕ, Bool, true, false, List, [], ◌∷◌, Option, Some, None}
use Rattle.plc_text.specs.declared.code.Code.TheVariants.{E05, E07, E08, E10, E16}
use Rattle.st_types.specs.declared.st_type.StType.{StType}
use Rattle.st_tree.specs.declared.expression.Root.{Root}
use Rattle.st_tree.specs.declared.statement.Label.{Label}
use Rattle.st_tree.specs.declared.statement.LabelEnd.{LabelEnd}
use Rattle.st_tree.specs.declared.statement.LabelEnd.TheVariants as label
use Rattle.st_tree.specs.Expression.{Expression, Expressions, no_expressions, expression_then, Field, Index, Selectors, no_selectors, selector_then, Positional, Input, Output, Arguments, no_arguments, argument_then}
use Rattle.st_tree.specs.Expression as tree
use Rattle.st_tree.specs.Statement.{Statement, Empty, Assign, Attempt, Call, Exit, Continue, Return, If, Case, For, While, Repeat, Statements, no_statements, statement_then, Branches, no_branches, branch_then, Cases, no_cases, case_then, Otherwise, Nothing, Else}
use Rattle.st_rules.specs.declared.asked.Asked.{Asked}
use Rattle.st_rules.specs.declared.asked.Asked.TheVariants.{Anything, Wanted}
use Rattle.st_rules.specs.Kinds.{boolean}
use Rattle.st_rules.specs.Literals.{asked_of, int_type, negative_type}
use Rattle.st_rules.specs.Scope.{Scope, Qualifier, values_of, of_untold, no_qualifier, sought, type_qualifier, dot_qualifier}
use Rattle.st_rules.specs.Places.{root_line, root_standing, place_type}
use Rattle.st_rules.specs.Calls.{callee, is_on_super, heads, call_matches}
use Rattle.st_rules.specs.Expressions.{line_of, type_of}
use Rattle.st_rules.specs.Statements.{index_limits, selector_limits, argument_limits, attempt_at_no_reference, selector_unsuited, end_line, place_faults, condition_faults, field_not_found, end_type, end_faults, label_end_faults, last_end_faults, label_faults, labels_faults, label_asked, assign_faults, attempt_faults, call_faults, case_selector_faults, control_faults, control_asked, step_faults, for_faults, statement_faults, statements_faults, branches_faults, cases_faults, otherwise_faults, body_faults}
use Rattle.st_unit_rules.proofs.refusal_codes.FaultWords.{Usual, none, ◌also◌, broken, if_broken}
use Rattle.st_unit_rules.proofs.refusal_codes.PlaceCodes.{int_faults_usual, name_faults_usual, negative_faults_usual, root_faults_usual, target_faults_usual, too_many_selectors_usual, typed_literal_faults_usual, whole_faults_usual}
use Rattle.st_unit_rules.proofs.refusal_codes.CallCodes.{callee_faults_usual, value_unsuited_usual}
use Rattle.st_unit_rules.proofs.refusal_codes.ExpressionCodes.{along_faults_usual, argument_faults_usual, called_root_faults_usual, enumerator_not_found_usual, expression_faults_usual}

index_limits_usual : (x : Expressions ℕ) → Usual (index_limits x)
index_limits_usual no_expressions = none
index_limits_usual (expression_then e es) = if_broken _ E16 _ refl also index_limits_usual es

selector_limits_usual : (ss : Selectors ℕ) → Usual (selector_limits ss)
selector_limits_usual no_selectors = none
selector_limits_usual (selector_then (Index l es) ss) = index_limits_usual es also selector_limits_usual ss
selector_limits_usual (selector_then (Field l n) ss) = selector_limits_usual ss
selector_limits_usual (selector_then (tree.Target l) ss) = selector_limits_usual ss

argument_limits_usual : (xs : Arguments ℕ) → Usual (argument_limits xs)
argument_limits_usual no_arguments = none
argument_limits_usual (argument_then (Positional e) xs) = if_broken _ E16 _ refl also argument_limits_usual xs
argument_limits_usual (argument_then (Input l n e) xs) = if_broken _ E16 _ refl also argument_limits_usual xs
argument_limits_usual (argument_then (Output l n k r ss) xs) = selector_limits_usual ss also argument_limits_usual xs

attempt_at_no_reference_usual : (line : ℕ) (t : Option StType) → Usual (attempt_at_no_reference line t)
attempt_at_no_reference_usual line None = none
attempt_at_no_reference_usual line (Some t) = if_broken _ E07 _ refl

selector_unsuited_usual : (line : ℕ) (t : Option StType) → Usual (selector_unsuited line t)
selector_unsuited_usual line None = none
selector_unsuited_usual line (Some t) = if_broken _ E07 _ refl

module _ (s : Scope) where
  place_faults_usual : (r : Root ℕ) (ss : Selectors ℕ) → Usual (place_faults s r ss)
  place_faults_usual r ss =
      root_faults_usual s false r ss
      also along_faults_usual s (root_line r) false (root_standing s r ss) ss
      also whole_faults_usual s r ss
      also selector_limits_usual ss

  condition_faults_usual : (e : Expression ℕ) → Usual (condition_faults s e)
  condition_faults_usual e = expression_faults_usual s (Wanted boolean) e

  field_not_found_usual : (line name_line : ℕ) (q : Qualifier) (name : List ℕ) → Usual (field_not_found s line name_line q name)
  field_not_found_usual line name_line (values_of n) name = enumerator_not_found_usual s line name_line (values_of n) name
  field_not_found_usual line name_line of_untold name = none
  field_not_found_usual line name_line no_qualifier name = broken E05 _ refl

  end_faults_usual : (asked : Asked) (x : LabelEnd ℕ) → Usual (end_faults s asked x)
  end_faults_usual asked (label.Int l digits) = int_faults_usual l digits (int_type asked digits)
  end_faults_usual asked (label.Negative l digits) = negative_faults_usual l digits (negative_type asked)
  end_faults_usual asked (label.Typed l k literal) = typed_literal_faults_usual l k literal
  end_faults_usual asked (label.Name l name) = name_faults_usual s l false (sought s false name) also if_broken _ E05 _ refl
  end_faults_usual asked (label.Enumerator l t k name) = enumerator_not_found_usual s l k (type_qualifier s t) name
  end_faults_usual asked (label.Field l t k name) = field_not_found_usual l k (dot_qualifier s t) name

  label_end_faults_usual : (asked : Asked) (x : LabelEnd ℕ) → Usual (label_end_faults s asked x)
  label_end_faults_usual asked x = end_faults_usual asked x also value_unsuited_usual s (end_line x) asked (end_type s asked x)

  last_end_faults_usual : (asked : Asked) (x : Option (LabelEnd ℕ)) → Usual (last_end_faults s asked x)
  last_end_faults_usual asked None = none
  last_end_faults_usual asked (Some x) = label_end_faults_usual asked x

  label_faults_usual : (asked : Asked) (x : Label ℕ) → Usual (label_faults s asked x)
  label_faults_usual asked x = label_end_faults_usual asked x.first also last_end_faults_usual asked x.last

  labels_faults_usual : (asked : Asked) (x : List (Label ℕ)) → Usual (labels_faults s asked x)
  labels_faults_usual asked [] = none
  labels_faults_usual asked (x ∷ xs) = label_faults_usual asked x also labels_faults_usual asked xs

  assign_faults_usual : (r : Root ℕ) (ss : Selectors ℕ) (e : Expression ℕ) → Usual (assign_faults s r ss e)
  assign_faults_usual r ss e = place_faults_usual r ss also target_faults_usual s r ss also expression_faults_usual s (asked_of (place_type s r ss)) e

  attempt_faults_usual : (r : Root ℕ) (ss : Selectors ℕ) (e : Expression ℕ) → Usual (attempt_faults s r ss e)
  attempt_faults_usual r ss e =
      place_faults_usual r ss
      also target_faults_usual s r ss
      also attempt_at_no_reference_usual (root_line r) (place_type s r ss)
      also expression_faults_usual s Anything e
      also if_broken _ E07 _ refl

  call_faults_usual : (line : ℕ) (r : Root ℕ) (ss : Selectors ℕ) (xs : Arguments ℕ) → Usual (call_faults s line r ss xs)
  call_faults_usual line r ss xs =
      called_root_faults_usual s r ss
      also along_faults_usual s (root_line r) true (root_standing s r ss) ss
      also too_many_selectors_usual s (root_line r) ss
      also selector_limits_usual ss
      also callee_faults_usual s line (is_on_super r ss) (callee s r ss) (heads xs)
      also argument_faults_usual s (call_matches s (callee s r ss) (heads xs)) xs
      also argument_limits_usual xs

  case_selector_faults_usual : (e : Expression ℕ) → Usual (case_selector_faults s e)
  case_selector_faults_usual e = expression_faults_usual s Anything e also selector_unsuited_usual (line_of e) (type_of s Anything e)

  control_faults_usual : (line : ℕ) (name : List ℕ) → Usual (control_faults s line name)
  control_faults_usual line name = name_faults_usual s line false (sought s false name) also if_broken _ E07 _ refl also if_broken _ E08 _ refl

  step_faults_usual : (asked : Asked) (x : Option (Expression ℕ)) → Usual (step_faults s asked x)
  step_faults_usual asked None = none
  step_faults_usual asked (Some e) = expression_faults_usual s asked e

  for_faults_usual : (line : ℕ) (name : List ℕ) (from to : Expression ℕ) (by : Option (Expression ℕ)) → Usual (for_faults s line name from to by)
  for_faults_usual line name from to by =
      control_faults_usual line name
      also expression_faults_usual s (control_asked s name) from
      also expression_faults_usual s (control_asked s name) to
      also step_faults_usual (control_asked s name) by

  mutual
    statement_faults_usual : (in_loop : Bool) (x : Statement ℕ) → Usual (statement_faults s in_loop x)
    statement_faults_usual in_loop (Empty l) = none
    statement_faults_usual in_loop (Assign l a r ss e) = assign_faults_usual r ss e
    statement_faults_usual in_loop (Attempt l a r ss e) = attempt_faults_usual r ss e
    statement_faults_usual in_loop (Call l a r ss xs) = call_faults_usual a r ss xs
    statement_faults_usual in_loop (Exit l) = if_broken _ E10 _ refl
    statement_faults_usual in_loop (Continue l) = if_broken _ E10 _ refl
    statement_faults_usual in_loop (Return l) = none
    statement_faults_usual in_loop (If l bs o) = branches_faults_usual in_loop bs also otherwise_faults_usual in_loop o
    statement_faults_usual in_loop (Case l e cs o) =
        case_selector_faults_usual e
        also cases_faults_usual in_loop (label_asked s e) cs
        also otherwise_faults_usual in_loop o
    statement_faults_usual in_loop (For l a name from to by ss) = for_faults_usual a name from to by also statements_faults_usual true ss
    statement_faults_usual in_loop (While l e ss) = condition_faults_usual e also statements_faults_usual true ss
    statement_faults_usual in_loop (Repeat l ss e) = statements_faults_usual true ss also condition_faults_usual e

    statements_faults_usual : (in_loop : Bool) (x : Statements ℕ) → Usual (statements_faults s in_loop x)
    statements_faults_usual in_loop no_statements = none
    statements_faults_usual in_loop (statement_then x ss) = statement_faults_usual in_loop x also statements_faults_usual in_loop ss

    branches_faults_usual : (in_loop : Bool) (x : Branches ℕ) → Usual (branches_faults s in_loop x)
    branches_faults_usual in_loop no_branches = none
    branches_faults_usual in_loop (branch_then e ss bs) =
        condition_faults_usual e
        also statements_faults_usual in_loop ss
        also branches_faults_usual in_loop bs

    cases_faults_usual : (in_loop : Bool) (asked : Asked) (x : Cases ℕ) → Usual (cases_faults s in_loop asked x)
    cases_faults_usual in_loop asked no_cases = none
    cases_faults_usual in_loop asked (case_then ls ss cs) =
        labels_faults_usual asked ls
        also statements_faults_usual in_loop ss
        also cases_faults_usual in_loop asked cs

    otherwise_faults_usual : (in_loop : Bool) (x : Otherwise ℕ) → Usual (otherwise_faults s in_loop x)
    otherwise_faults_usual in_loop Nothing = none
    otherwise_faults_usual in_loop (Else ss) = statements_faults_usual in_loop ss

  pub body_faults_usual : (ss : Statements ℕ) → Usual (body_faults s ss)
  body_faults_usual ss = statements_faults_usual false ss
