-- The rules that statements break, and their typed trees (IEC 61131-3:2013, 7.3.3).
use Rattle.std.specs.Prelude.{ℕ, pos, neg_ℤ, Bool, true, false, not, ◌&&◌, ◌||◌, List, [], ◌∷◌, ◌++◌, map, Option, Some, None, option_map}
use Rattle.plc_text.specs.declared.code.Code.TheVariants.{E05, E07, E08, E10}
use Rattle.st_types.specs.Elem.{is_integer}
use Rattle.st_types.specs.declared.st_type.StType.{StType}
use Rattle.st_types.specs.declared.st_type.StType.TheVariants as type
use Rattle.st_tree.specs.declared.expression.Root.{Root}
use Rattle.st_tree.specs.declared.program.Note.{Note}
use Rattle.st_tree.specs.declared.program.Target.TheVariants as target
use Rattle.st_tree.specs.declared.statement.Label.{Label}
use Rattle.st_tree.specs.declared.statement.LabelEnd.{LabelEnd}
use Rattle.st_tree.specs.declared.statement.LabelEnd.TheVariants as label
use Rattle.st_tree.specs.Expression.{Expression, Null, Paren, Expressions, no_expressions, expression_then, Selector, Field, Index, Selectors, no_selectors, selector_then, Positional, Input, Output, Arguments, no_arguments, argument_then}
use Rattle.st_tree.specs.Expression as tree
use Rattle.st_tree.specs.Number.{number_of}
use Rattle.st_tree.specs.Statement.{Statement, Empty, Assign, Attempt, Call, Exit, Continue, Return, If, Case, For, While, Repeat, Statements, no_statements, statement_then, Branches, no_branches, branch_then, Cases, no_cases, case_then, Otherwise, Nothing, Else}
use Rattle.st_rules.specs.declared.asked.Asked.{Asked}
use Rattle.st_rules.specs.declared.asked.Asked.TheVariants.{Anything, Wanted}
use Rattle.st_rules.specs.Faults.{Faults, at, when}
use Rattle.st_rules.specs.Kinds.{boolean, is_number, is_elementary, is_reference, is_instance, is_enumeration}
use Rattle.st_rules.specs.Literals.{int_faults, negative_faults, typed_literal_faults, asked_of, int_type, negative_type, typed_literal_type, literal_number}
use Rattle.st_rules.specs.Scope.{Scope, Meant, a_variable, an_enumerator, Qualifier, values_of, of_untold, no_qualifier, sought, type_qualifier, dot_qualifier}
use Rattle.st_rules.specs.Places.{root_line, root_standing, place_type, name_faults, root_faults, whole_faults, too_many_selectors, target_faults}
use Rattle.st_rules.specs.Calls.{callee, call_type, callee_faults, is_on_super, heads, call_matches, value_unsuited}
use Rattle.st_rules.specs.Expressions.{line_of, type_of, along_faults, argument_faults, called_root_faults, too_many_operators, expression_faults, enumerator_type, enumerator_not_found, note_of_value, note, meant_target, value_target, typed, typed_root, typed_along, typed_arguments}

-- ---- the limit of operators in places and arguments, whose expressions stand alone

abbrev pub index_limits : Expressions ℕ → Faults
index_limits no_expressions = []
index_limits (expression_then e es) = too_many_operators e ++ index_limits es

abbrev pub selector_limits : Selectors ℕ → Faults
selector_limits no_selectors = []
selector_limits (selector_then (Index l es) ss) = index_limits es ++ selector_limits ss
selector_limits (selector_then (Field l n) ss) = selector_limits ss
selector_limits (selector_then (tree.Target l) ss) = selector_limits ss

abbrev pub argument_limits : Arguments ℕ → Faults
argument_limits no_arguments = []
argument_limits (argument_then (Positional e) xs) = too_many_operators e ++ argument_limits xs
argument_limits (argument_then (Input l n e) xs) = too_many_operators e ++ argument_limits xs
argument_limits (argument_then (Output l n k r ss) xs) = selector_limits ss ++ argument_limits xs

-- ---- `?=`

abbrev pub is_null : Expression ℕ → Bool
is_null (Null l) = true
is_null (Paren l e) = is_null e
is_null _ = false

-- on the left of `?=` a reference or an interface variable stands
abbrev pub attempt_at_no_reference : ℕ → Option StType → Faults
attempt_at_no_reference line None = []
attempt_at_no_reference line (Some t) = when (not (is_reference t)) E07 line

abbrev pub is_no_attempted : Option StType → Bool
is_no_attempted None = false
is_no_attempted (Some t) = not (is_reference t || is_instance t)

-- on the right an instance, a reference or an interface value, and not NULL
abbrev pub attempt_of_no_instance : ℕ → Bool → Option StType → Faults
attempt_of_no_instance line null t = when (null || is_no_attempted t) E07 line

-- ---- CASE

-- a selector is an integer, a bit string or an enumeration
abbrev pub selector_unsuited : ℕ → Option StType → Faults
selector_unsuited line None = []
selector_unsuited line (Some t) = when (not (is_elementary is_number t || is_enumeration t)) E07 line

abbrev pub end_line : LabelEnd ℕ → ℕ
end_line (label.Int l digits) = l
end_line (label.Negative l digits) = l
end_line (label.Typed l k literal) = l
end_line (label.Name l name) = l
end_line (label.Enumerator l t k name) = l
end_line (label.Field l t k name) = l

-- ---- FOR

abbrev pub is_integer_variable : Option Meant → Bool
is_integer_variable (Some (a_variable c v)) = not v.constant && is_integer_if_told v.kind
  where
    is_integer_if_told : Option StType → Bool
    is_integer_if_told None = true
    is_integer_if_told (Some t) = is_elementary is_integer t
is_integer_variable (Some (an_enumerator n k)) = false
is_integer_variable _ = true

-- the name behind FOR is no integer variable
abbrev pub control_of_no_integer : ℕ → Option Meant → Faults
control_of_no_integer line m = when (not (is_integer_variable m)) E07 line

abbrev pub is_input_image : Option Meant → Bool
is_input_image (Some (a_variable c v)) = v.located_input
is_input_image _ = false

-- it is a variable at an input address
abbrev pub control_at_an_input : ℕ → Option Meant → Faults
control_at_an_input line m = when (is_input_image m) E08 line

abbrev pub control_type : Option Meant → Option StType
control_type (Some (a_variable c v)) = v.kind
control_type (Some (an_enumerator n k)) = Some (type.Enumeration n)
control_type _ = None

-- ---- EXIT and CONTINUE

abbrev pub outside_a_loop : ℕ → Bool → Faults
outside_a_loop line in_loop = when (not in_loop) E10 line

module _ (s : Scope) where
  -- ---- places and conditions

  -- a place by itself, outside of expressions
  abbrev pub place_faults : Root ℕ → Selectors ℕ → Faults
  place_faults r ss =
      root_faults s false r ss
      ++ along_faults s (root_line r) false (root_standing s r ss) ss
      ++ whole_faults s r ss
      ++ selector_limits ss

  abbrev pub condition_faults : Expression ℕ → Faults
  condition_faults e = expression_faults s (Wanted boolean) e

  -- ---- labels

  -- a label is a constant or an enumerator: a name of anything else is none
  abbrev pub is_no_constant : Option Meant → Bool
  is_no_constant (Some (a_variable c v)) = not v.constant
  is_no_constant _ = false

  abbrev pub name_of_no_constant : ℕ → Option Meant → Faults
  name_of_no_constant line m = when (is_no_constant m) E05 line

  -- `Type.Name`, where no variable has the name of the type
  abbrev pub field_not_found : ℕ → ℕ → Qualifier → List ℕ → Faults
  field_not_found line name_line (values_of n) name = enumerator_not_found s line name_line (values_of n) name
  field_not_found line name_line of_untold name = []
  field_not_found line name_line no_qualifier name = at E05 line

  abbrev pub end_type : Asked → LabelEnd ℕ → Option StType
  end_type asked (label.Int l digits) = int_type asked digits
  end_type asked (label.Negative l digits) = negative_type asked
  end_type asked (label.Typed l k literal) = typed_literal_type k literal
  end_type asked (label.Name l name) = control_type (sought s false name)
  end_type asked (label.Enumerator l t k name) = enumerator_type s (type_qualifier s t) name
  end_type asked (label.Field l t k name) = enumerator_type s (dot_qualifier s t) name

  abbrev pub end_faults : Asked → LabelEnd ℕ → Faults
  end_faults asked (label.Int l digits) = int_faults l digits (int_type asked digits)
  end_faults asked (label.Negative l digits) = negative_faults l digits (negative_type asked)
  end_faults asked (label.Typed l k literal) = typed_literal_faults l k literal
  end_faults asked (label.Name l name) = name_faults s l false (sought s false name) ++ name_of_no_constant l (sought s false name)
  end_faults asked (label.Enumerator l t k name) = enumerator_not_found s l k (type_qualifier s t) name
  end_faults asked (label.Field l t k name) = field_not_found l k (dot_qualifier s t) name

  -- a label is to be assigned to the type of its selector
  abbrev pub label_end_faults : Asked → LabelEnd ℕ → Faults
  label_end_faults asked x = end_faults asked x ++ value_unsuited s (end_line x) asked (end_type asked x)

  abbrev pub last_end_faults : Asked → Option (LabelEnd ℕ) → Faults
  last_end_faults asked None = []
  last_end_faults asked (Some x) = label_end_faults asked x

  abbrev pub label_faults : Asked → Label ℕ → Faults
  label_faults asked x = label_end_faults asked x.first ++ last_end_faults asked x.last

  abbrev pub labels_faults : Asked → List (Label ℕ) → Faults
  labels_faults asked [] = []
  labels_faults asked (x ∷ xs) = label_faults asked x ++ labels_faults asked xs

  -- what the labels of a CASE are asked for
  abbrev pub label_asked : Expression ℕ → Asked
  label_asked e = asked_of (type_of s Anything e)

  -- ---- the rules of a statement, but those of the statements in it

  abbrev pub assign_faults : Root ℕ → Selectors ℕ → Expression ℕ → Faults
  assign_faults r ss e = place_faults r ss ++ target_faults s r ss ++ expression_faults s (asked_of (place_type s r ss)) e

  abbrev pub attempt_faults : Root ℕ → Selectors ℕ → Expression ℕ → Faults
  attempt_faults r ss e =
      place_faults r ss
      ++ target_faults s r ss
      ++ attempt_at_no_reference (root_line r) (place_type s r ss)
      ++ expression_faults s Anything e
      ++ attempt_of_no_instance (line_of e) (is_null e) (type_of s Anything e)

  -- a call as a statement may drop its value
  abbrev pub call_faults : ℕ → Root ℕ → Selectors ℕ → Arguments ℕ → Faults
  call_faults line r ss xs =
      called_root_faults s r ss
      ++ along_faults s (root_line r) true (root_standing s r ss) ss
      ++ too_many_selectors s (root_line r) ss
      ++ selector_limits ss
      ++ callee_faults s line (is_on_super r ss) (callee s r ss) (heads xs)
      ++ argument_faults s (call_matches s (callee s r ss) (heads xs)) xs
      ++ argument_limits xs

  abbrev pub case_selector_faults : Expression ℕ → Faults
  case_selector_faults e = expression_faults s Anything e ++ selector_unsuited (line_of e) (type_of s Anything e)

  abbrev pub control_faults : ℕ → List ℕ → Faults
  control_faults line name =
      name_faults s line false (sought s false name)
      ++ control_of_no_integer line (sought s false name)
      ++ control_at_an_input line (sought s false name)

  -- what start, end and step of a FOR are asked for
  abbrev pub control_asked : List ℕ → Asked
  control_asked name = asked_of (control_type (sought s false name))

  abbrev pub step_faults : Asked → Option (Expression ℕ) → Faults
  step_faults asked None = []
  step_faults asked (Some e) = expression_faults s asked e

  abbrev pub for_faults : ℕ → List ℕ → Expression ℕ → Expression ℕ → Option (Expression ℕ) → Faults
  for_faults line name from to by =
      control_faults line name
      ++ expression_faults s (control_asked name) from
      ++ expression_faults s (control_asked name) to
      ++ step_faults (control_asked name) by

  -- ---- statements; the flag says whether they stand in a loop

  abbrev mutual
    pub statement_faults : Bool → Statement ℕ → Faults
    statement_faults in_loop (Empty l) = []
    statement_faults in_loop (Assign l a r ss e) = assign_faults r ss e
    statement_faults in_loop (Attempt l a r ss e) = attempt_faults r ss e
    statement_faults in_loop (Call l a r ss xs) = call_faults a r ss xs
    statement_faults in_loop (Exit l) = outside_a_loop l in_loop
    statement_faults in_loop (Continue l) = outside_a_loop l in_loop
    statement_faults in_loop (Return l) = []
    statement_faults in_loop (If l bs o) = branches_faults in_loop bs ++ otherwise_faults in_loop o
    statement_faults in_loop (Case l e cs o) = case_selector_faults e ++ cases_faults in_loop (label_asked e) cs ++ otherwise_faults in_loop o
    statement_faults in_loop (For l a name from to by ss) = for_faults a name from to by ++ statements_faults true ss
    statement_faults in_loop (While l e ss) = condition_faults e ++ statements_faults true ss
    statement_faults in_loop (Repeat l ss e) = statements_faults true ss ++ condition_faults e

    pub statements_faults : Bool → Statements ℕ → Faults
    statements_faults in_loop no_statements = []
    statements_faults in_loop (statement_then x ss) = statement_faults in_loop x ++ statements_faults in_loop ss

    pub branches_faults : Bool → Branches ℕ → Faults
    branches_faults in_loop no_branches = []
    branches_faults in_loop (branch_then e ss bs) = condition_faults e ++ statements_faults in_loop ss ++ branches_faults in_loop bs

    pub cases_faults : Bool → Asked → Cases ℕ → Faults
    cases_faults in_loop asked no_cases = []
    cases_faults in_loop asked (case_then ls ss cs) = labels_faults asked ls ++ statements_faults in_loop ss ++ cases_faults in_loop asked cs

    pub otherwise_faults : Bool → Otherwise ℕ → Faults
    otherwise_faults in_loop Nothing = []
    otherwise_faults in_loop (Else ss) = statements_faults in_loop ss

  -- the rules that a body breaks
  abbrev pub body_faults : Statements ℕ → Faults
  body_faults ss = statements_faults false ss

  -- ---- the typed tree

  -- a label has its value in its note
  abbrev pub typed_end : Asked → LabelEnd ℕ → LabelEnd Note
  typed_end asked (label.Int l digits) = label.Int (note l (int_type asked digits) (target.Constant (pos (number_of digits)))) digits
  typed_end asked (label.Negative l digits) = label.Negative (note l (negative_type asked) (target.Constant (neg_ℤ (pos (number_of digits))))) digits
  typed_end asked (label.Typed l k literal) = label.Typed (note l (typed_literal_type k literal) (target.Constant (literal_number literal))) k literal
  typed_end asked (label.Name l name) = label.Name (note l (control_type (sought s false name)) (value_target (sought s false name))) name
  typed_end asked (label.Enumerator l t k name) =
      let meant = note_of_value s (type_qualifier s t) name in
      label.Enumerator (note l (enumerator_type s (type_qualifier s t) name) meant) t (note k (enumerator_type s (type_qualifier s t) name) meant) name
  typed_end asked (label.Field l t k name) =
      let meant = note_of_value s (dot_qualifier s t) name in
      label.Field (note l (enumerator_type s (dot_qualifier s t) name) meant) t (note k (enumerator_type s (dot_qualifier s t) name) meant) name

  abbrev pub typed_label : Asked → Label ℕ → Label Note
  typed_label asked x = record { first = typed_end asked x.first; last = option_map (typed_end asked) x.last }

  abbrev pub typed_place_note : ℕ → Root ℕ → Selectors ℕ → Note
  typed_place_note l r ss = note l (place_type s r ss) target.Nothing

  abbrev pub typed_place_root : Root ℕ → Selectors ℕ → Root Note
  typed_place_root r ss = typed_root s false r ss

  abbrev pub typed_place_selectors : Root ℕ → Selectors ℕ → Selectors Note
  typed_place_selectors r ss = typed_along s false (root_standing s r ss) ss

  abbrev mutual
    pub typed_statement : Statement ℕ → Statement Note
    typed_statement (Empty l) = Empty l
    typed_statement (Assign l a r ss e) =
        Assign l (typed_place_note a r ss) (typed_place_root r ss) (typed_place_selectors r ss) (typed s (asked_of (place_type s r ss)) e)
    typed_statement (Attempt l a r ss e) =
        Attempt l (typed_place_note a r ss) (typed_place_root r ss) (typed_place_selectors r ss) (typed s Anything e)
    typed_statement (Call l a r ss xs) =
        Call l (note a (call_type (callee s r ss)) target.Nothing) (typed_root s true r ss) (typed_along s true (root_standing s r ss) ss)
        (typed_arguments s (call_matches s (callee s r ss) (heads xs)) xs)
    typed_statement (Exit l) = Exit l
    typed_statement (Continue l) = Continue l
    typed_statement (Return l) = Return l
    typed_statement (If l bs o) = If l (typed_branches bs) (typed_otherwise o)
    typed_statement (Case l e cs o) = Case l (typed s Anything e) (typed_cases (label_asked e) cs) (typed_otherwise o)
    typed_statement (For l a name from to by ss) =
        For l (note a (control_type (sought s false name)) (meant_target (sought s false name))) name (typed s (control_asked name) from) (typed s (control_asked name) to)
        (option_map (typed s (control_asked name)) by) (typed_statements ss)
    typed_statement (While l e ss) = While l (typed s (Wanted boolean) e) (typed_statements ss)
    typed_statement (Repeat l ss e) = Repeat l (typed_statements ss) (typed s (Wanted boolean) e)

    pub typed_statements : Statements ℕ → Statements Note
    typed_statements no_statements = no_statements
    typed_statements (statement_then x ss) = statement_then (typed_statement x) (typed_statements ss)

    pub typed_branches : Branches ℕ → Branches Note
    typed_branches no_branches = no_branches
    typed_branches (branch_then e ss bs) = branch_then (typed s (Wanted boolean) e) (typed_statements ss) (typed_branches bs)

    pub typed_cases : Asked → Cases ℕ → Cases Note
    typed_cases asked no_cases = no_cases
    typed_cases asked (case_then ls ss cs) = case_then (map (typed_label asked) ls) (typed_statements ss) (typed_cases asked cs)

    pub typed_otherwise : Otherwise ℕ → Otherwise Note
    typed_otherwise Nothing = Nothing
    typed_otherwise (Else ss) = Else (typed_statements ss)
