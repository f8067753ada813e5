-- The type of an expression, the rules that it breaks, and its typed tree (IEC 61131-3:2013, 7.3.2).
use Rattle.std.specs.Prelude.{ℕ, suc, ◌+◌, nat_lt, Bool, true, false, not, ◌&&◌, if◌then◌else◌, List, [], ◌++◌, Option, Some, None, option_map, option_and_then}
use Rattle.std.specs.Option.{is_none, is_some}
use Rattle.plc_text.specs.declared.code.Code.TheVariants.{E05, E07, E16}
use Rattle.st_types.specs.declared.elem.Elem.{Elem}
use Rattle.st_types.specs.declared.elem.Elem.TheVariants as kind
use Rattle.st_types.specs.declared.st_type.StType.{StType}
use Rattle.st_types.specs.declared.st_type.StType.TheVariants as type
use Rattle.st_tree.specs.declared.expression.Operator.{Operator}
use Rattle.st_tree.specs.declared.expression.Root.{Root}
use Rattle.st_tree.specs.declared.expression.Root.TheVariants as root
use Rattle.st_tree.specs.declared.program.Note.{Note}
use Rattle.st_tree.specs.declared.program.Target.{Target}
use Rattle.st_tree.specs.declared.program.Target.TheVariants as target
use Rattle.st_tree.specs.Expression.{Expression, Int, Typed, Time, True, False, Null, Place, Call, Enumerator, Ref, Now, Paren, Not, Negate, Chain, Expressions, no_expressions, expression_then, Selector, Field, Index, Selectors, no_selectors, selector_then, Argument, Positional, Input, Output, Arguments, no_arguments, argument_then, Tails, no_tails, tail_then}
use Rattle.st_tree.specs.Expression as tree
use Rattle.st_rules.specs.declared.asked.Asked.{Asked}
use Rattle.st_rules.specs.declared.asked.Asked.TheVariants.{Anything}
use Rattle.st_rules.specs.Faults.{Faults, at, when}
use Rattle.st_rules.specs.Kinds.{boolean, time, is_number, is_elementary, is_arithmetic, operation_type, suits_operator, takes_not, takes_minus, unary_type}
use Rattle.st_rules.specs.Literals.{int_faults, negative_faults, typed_literal_faults, asked_of, number_asked, int_type, negative_type, typed_literal_type, time_past_32_bits, null_type}
use Rattle.st_rules.specs.Scope.{Scope, Meant, a_variable, a_function, an_enumerator, Qualifier, values_of, of_untold, no_qualifier, sought, type_qualifier, dot_qualifier, value_of}
use Rattle.st_rules.specs.Scope as scope
use Rattle.st_rules.specs.Places.{Standing, an_enumeration, standing_type, Part, a_field, a_member, a_prototype, a_value_of, part_type, part_of, meant_type, is_last, root_line, root_standing, place_type, selected, root_faults, selector_faults, whole_faults, too_many_selectors, target_faults}
use Rattle.st_rules.specs.Places as places
use Rattle.st_rules.specs.Calls.{callee, call_type, call_without_result, callee_faults, is_on_super, heads, Matched, call_matches, first_match, later_matches, asked_by, binds, matched_type, value_unsuited, bound_to_another_type, bound_no_variable, output_unsuited, conversion_named}

-- ---- expressions by themselves

-- the line of the first token
abbrev pub line_of : Expression ℕ → ℕ
line_of (Int l digits) = l
line_of (Typed l k literal) = l
line_of (Time l text) = l
line_of (True l) = l
line_of (False l) = l
line_of (Null l) = l
line_of (Place l r ss) = l
line_of (Call l r ss xs) = l
line_of (Enumerator l t k n) = l
line_of (Ref l r ss) = l
line_of (Now l) = l
line_of (Paren l e) = l
line_of (Not l e) = l
line_of (Negate l e) = l
line_of (Chain l e ts) = l

abbrev pub is_int : {A : Type 0} → Expression A → Bool
is_int (Int a digits) = true
is_int _ = false

-- an int, or an arithmetic operation over what is untyped
abbrev mutual
  pub is_untyped : {A : Type 0} → Expression A → Bool
  is_untyped (Int a digits) = true
  is_untyped (Paren a e) = is_untyped e
  is_untyped (Negate a e) = is_untyped e
  is_untyped (Chain a e ts) = is_untyped e && are_untyped ts
  is_untyped _ = false

  pub are_untyped : {A : Type 0} → Tails A → Bool
  are_untyped no_tails = true
  are_untyped (tail_then a o e ts) = is_arithmetic o && is_untyped e && are_untyped ts

-- the operators in an expression, those in its arguments and indices among them; the `-` of a literal is none
abbrev mutual
  pub operators : {A : Type 0} → Expression A → ℕ
  operators (Place a r ss) = selector_operators ss
  operators (Call a r ss xs) = selector_operators ss + argument_operators xs
  operators (Ref a r ss) = selector_operators ss
  operators (Paren a e) = operators e
  operators (Not a e) = suc (operators e)
  operators (Negate a e) = if is_int e then 0 else suc (operators e)
  operators (Chain a e ts) = operators e + tail_operators ts
  operators _ = 0

  pub tail_operators : {A : Type 0} → Tails A → ℕ
  tail_operators no_tails = 0
  tail_operators (tail_then a o e ts) = suc (operators e + tail_operators ts)

  pub index_operators : {A : Type 0} → Expressions A → ℕ
  index_operators no_expressions = 0
  index_operators (expression_then e es) = operators e + index_operators es

  pub selector_operators : {A : Type 0} → Selectors A → ℕ
  selector_operators no_selectors = 0
  selector_operators (selector_then (Index a es) ss) = index_operators es + selector_operators ss
  selector_operators (selector_then (Field a n) ss) = selector_operators ss
  selector_operators (selector_then (tree.Target a) ss) = selector_operators ss

  pub argument_operators : {A : Type 0} → Arguments A → ℕ
  argument_operators no_arguments = 0
  argument_operators (argument_then (Positional e) xs) = operators e + argument_operators xs
  argument_operators (argument_then (Input a n e) xs) = operators e + argument_operators xs
  argument_operators (argument_then (Output a n b r ss) xs) = selector_operators ss + argument_operators xs

-- more than 256 operators
abbrev pub too_many_operators : Expression ℕ → Faults
too_many_operators e = when (nat_lt 256 (operators e)) E16 (line_of e)

-- ---- operators by the types of their operands

-- an operator does not take its operands; where one cannot be told nothing is broken
unfoldable pub operands_unsuited : ℕ → Operator → Option StType → Option StType → Faults
operands_unsuited line o (Some t) (Some u) = when (not (suits_operator o t u)) E07 line
operands_unsuited line o _ _ = []

-- an untyped operand that cannot take the type of the row before it, and has that of an int for it
abbrev pub is_untaken : StType → StType → Bool
is_untaken t u = is_elementary is_number u && not (is_elementary is_number t)

-- an operation is refused at its operator; where its untyped operand cannot take the type beside it, that is refused instead
unfoldable pub unsuited_line : Bool → ℕ → ℕ → Option StType → Option StType → ℕ
unsuited_line true own line (Some t) (Some u) = if is_untaken t u then own else line
unsuited_line _ own line t u = line

-- what the operator of a row does not take, the row before it and the operand behind it
abbrev pub row_unsuited : Expression ℕ → ℕ → Operator → Option StType → Option StType → Faults
row_unsuited e line o t u = operands_unsuited (unsuited_line (is_untyped e) (line_of e) line t u) o t u

unfoldable pub operand_unsuited : ℕ → (Elem → Bool) → Option StType → Faults
operand_unsuited line takes None = []
operand_unsuited line takes (Some t) = when (not (is_elementary takes t)) E07 line

abbrev pub is_no_index : StType → Bool
is_no_index t = not (is_elementary is_number t)

-- an index that is no integer and no bit string
unfoldable pub index_unsuited : ℕ → Option StType → Faults
index_unsuited line None = []
index_unsuited line (Some t) = when (is_no_index t) E07 line

-- what an untyped operand of a row is asked for, where the row before it is untyped and asked for something, or has a type
unfoldable pub operand_asked : Bool → Bool → Asked → Option StType → Asked
operand_asked untyped true asked t = if untyped then asked else asked_of t
operand_asked untyped false asked t = Anything

unfoldable pub front_asked : Bool → Asked → Asked
front_asked true asked = asked
front_asked false asked = Anything

-- ---- REF

abbrev pub reference_to : StType → Option StType
reference_to (type.Instance c) = Some (type.Reference c)
reference_to _ = None

unfoldable pub reference_to_no_instance : ℕ → Option StType → Faults
reference_to_no_instance line None = []
reference_to_no_instance line (Some t) = when (is_none (reference_to t)) E07 line

-- ---- notes

-- the type in a note; one that cannot be told is noted as DINT, which nobody sees, since the unit is refused
unfoldable pub told : Option StType → StType
told None = type.Elementary kind.Dint
told (Some t) = t

abbrev pub note : ℕ → Option StType → Target → Note
note l t meant = record { line = l; kind = told t; target = meant }

-- what a name is noted to mean
abbrev pub meant_target : Option Meant → Target
meant_target None = target.Nothing
meant_target (Some (a_variable c v)) = v.target
meant_target (Some (scope.a_method id)) = target.Method id.method
meant_target (Some (a_function k r)) = target.Function k
meant_target (Some (an_enumerator n k)) = target.Enumerator k

-- a constant or an enumerator has no place: the whole means its value
abbrev pub value_target : Option Meant → Target
value_target (Some (a_variable c v)) = if v.constant then v.target else target.Nothing
value_target (Some (an_enumerator n k)) = target.Enumerator k
value_target _ = target.Nothing

abbrev pub part_target : Option Part → Target
part_target None = target.Nothing
part_target (Some (a_field k t)) = target.Field k
part_target (Some (a_member d v)) = v.target
part_target (Some (places.a_method id)) = target.Method id.method
part_target (Some (a_prototype id)) = target.Method id.method
part_target (Some (a_value_of n k)) = target.Enumerator k

unfoldable pub matched_target : Matched → Target
matched_target None = target.Nothing
matched_target (Some m) = target.Parameter m.0

abbrev pub qualifier_note : ℕ → Qualifier → Option Meant → Note
qualifier_note l (values_of n) m = note l (Some (type.Enumeration n)) target.Nothing
qualifier_note l of_untold m = note l None target.Nothing
qualifier_note l no_qualifier m = note l (meant_type m) (meant_target m)

module _ (s : Scope) where
  -- ---- `Type#Name`

  abbrev pub value_type : ℕ → Option ℕ → Option StType
  value_type n None = None
  value_type n (Some k) = Some (type.Enumeration n)

  unfoldable pub enumerator_type : Qualifier → List ℕ → Option StType
  enumerator_type (values_of n) name = value_type n (value_of s n name)
  enumerator_type of_untold name = None
  enumerator_type no_qualifier name = None

  abbrev pub enumerator_target : Option ℕ → Target
  enumerator_target None = target.Nothing
  enumerator_target (Some k) = target.Enumerator k

  unfoldable pub note_of_value : Qualifier → List ℕ → Target
  note_of_value (values_of n) name = enumerator_target (value_of s n name)
  note_of_value _ name = target.Nothing

  -- no enumeration before `#`, or no value of it behind
  unfoldable pub enumerator_not_found : ℕ → ℕ → Qualifier → List ℕ → Faults
  enumerator_not_found line name_line (values_of n) name = when (is_none (value_of s n name)) E05 name_line
  enumerator_not_found line name_line of_untold name = []
  enumerator_not_found line name_line no_qualifier name = at E05 line

  -- ---- the type

  abbrev mutual
    -- the type of an expression, from what its place asks for; None where it cannot be told
    pub type_of : Asked → Expression ℕ → Option StType
    type_of asked (Int l digits) = int_type asked digits
    type_of asked (Typed l k literal) = typed_literal_type k literal
    type_of asked (Time l text) = Some time
    type_of asked (True l) = Some boolean
    type_of asked (False l) = Some boolean
    type_of asked (Null l) = Some (null_type asked)
    type_of asked (Place l r ss) = place_type s r ss
    type_of asked (Call l r ss xs) = call_type (callee s r ss)
    type_of asked (Enumerator l t k name) = enumerator_type (type_qualifier s t) name
    type_of asked (Ref l r ss) = option_and_then reference_to (place_type s r ss)
    type_of asked (Now l) = Some time
    type_of asked (Paren l e) = type_of asked e
    type_of asked (Not l e) = unary_type takes_not (type_of Anything e)
    type_of asked (Negate l (Int k digits)) = negative_type asked
    type_of asked (Negate l e) = unary_type takes_minus (type_of (front_asked (is_untyped e) (number_asked asked)) e)
    type_of asked (Chain l e ts) =
        let front = front_asked (is_untyped e) (asked_behind asked ts) in
        row_type (is_untyped e) front (type_of front e) ts

    -- what an untyped row is asked for by what stands behind it: by the next operand, where that has a type of its own, else by
    -- what stands behind that
    pub asked_behind : Asked → Tails ℕ → Asked
    asked_behind asked no_tails = asked
    asked_behind asked (tail_then l o e ts) =
        if is_untyped e then (if is_arithmetic o then number_asked (asked_behind asked ts) else Anything) else asked_of (type_of Anything e)

    -- the type of a row: whether it is untyped so far, what it is asked for then, and its type so far
    pub row_type : Bool → Asked → Option StType → Tails ℕ → Option StType
    row_type untyped asked t no_tails = t
    row_type untyped asked t (tail_then l o e ts) =
        row_type (is_arithmetic o && untyped && is_untyped e) asked (operation_type o t (type_of (operand_asked untyped (is_untyped e) asked t) e)) ts

  -- what the first operand of a row is asked for
  abbrev pub row_asked : Asked → Expression ℕ → Tails ℕ → Asked
  row_asked asked e ts = front_asked (is_untyped e) (asked_behind asked ts)

  abbrev pub is_conversion : Root ℕ → Selectors ℕ → Bool
  is_conversion (root.Name l name) no_selectors = is_some (conversion_named name)
  is_conversion _ ss = false

  -- the name of a conversion that is called is sought nowhere
  unfoldable pub called_root_faults : Root ℕ → Selectors ℕ → Faults
  called_root_faults r ss = if is_conversion r ss then [] else root_faults s true r ss

  -- a value that does not suit its parameter, or what is bound to an in-out and will not do; its type comes last
  unfoldable pub given_unsuited : Matched → Expression ℕ → Option StType → Faults
  given_unsuited m e t =
      if binds m
      then bound_to_another_type s (line_of e) (matched_type m) t ++ bound_no_variable s (line_of e) e
      else value_unsuited s (line_of e) (asked_by m) t

  -- ---- the rules that are broken

  abbrev mutual
    pub faults : Asked → Expression ℕ → Faults
    faults asked (Int l digits) = int_faults l digits (int_type asked digits)
    faults asked (Typed l k literal) = typed_literal_faults l k literal
    faults asked (Time l text) = time_past_32_bits l text
    faults asked (True l) = []
    faults asked (False l) = []
    faults asked (Null l) = []
    faults asked (Place l r ss) =
        root_faults s false r ss
        ++ along_faults (root_line r) false (root_standing s r ss) ss
        ++ whole_faults s r ss
    faults asked (Call l r ss xs) =
        called_root_faults r ss
        ++ along_faults (root_line r) true (root_standing s r ss) ss
        ++ too_many_selectors s (root_line r) ss
        ++ callee_faults s l (is_on_super r ss) (callee s r ss) (heads xs)
        ++ argument_faults (call_matches s (callee s r ss) (heads xs)) xs
        ++ call_without_result l (callee s r ss)
    faults asked (Enumerator l t k name) = enumerator_not_found l k (type_qualifier s t) name
    faults asked (Ref l r ss) =
        root_faults s false r ss
        ++ along_faults (root_line r) false (root_standing s r ss) ss
        ++ whole_faults s r ss
        ++ reference_to_no_instance (root_line r) (place_type s r ss)
    faults asked (Now l) = []
    faults asked (Paren l e) = faults asked e
    faults asked (Not l e) = faults Anything e ++ operand_unsuited (line_of e) takes_not (type_of Anything e)
    faults asked (Negate l (Int k digits)) = negative_faults l digits (negative_type asked)
    faults asked (Negate l e) =
        let inner = front_asked (is_untyped e) (number_asked asked) in
        faults inner e ++ operand_unsuited (line_of e) takes_minus (type_of inner e)
    faults asked (Chain l e ts) =
        let front = front_asked (is_untyped e) (asked_behind asked ts) in
        faults front e ++ row_faults (is_untyped e) front (type_of front e) ts

    pub row_faults : Bool → Asked → Option StType → Tails ℕ → Faults
    row_faults untyped asked t no_tails = []
    row_faults untyped asked t (tail_then l o e ts) =
        let inner = operand_asked untyped (is_untyped e) asked t in
        faults inner e
        ++ row_unsuited e l o t (type_of inner e)
        ++ row_faults (is_arithmetic o && untyped && is_untyped e) asked (operation_type o t (type_of inner e)) ts

    -- an index asks for no type
    pub index_faults : Expressions ℕ → Faults
    index_faults no_expressions = []
    index_faults (expression_then e es) = faults Anything e ++ index_unsuited (line_of e) (type_of Anything e) ++ index_faults es

    -- the selectors of a place; a call stands behind the last one or not. `line` is that of the place's first token
    pub along_faults : ℕ → Bool → Standing → Selectors ℕ → Faults
    along_faults line called b no_selectors = []
    along_faults line called b (selector_then x ss) =
        selector_faults s line (called && is_last ss) b x ++ selector_index_faults x ++ along_faults line called (selected s b x) ss

    pub selector_index_faults : Selector ℕ → Faults
    selector_index_faults (Field l n) = []
    selector_index_faults (Index l es) = index_faults es
    selector_index_faults (tree.Target l) = []

    -- each argument with the parameter that it is for
    pub argument_faults : List Matched → Arguments ℕ → Faults
    argument_faults ms no_arguments = []
    argument_faults ms (argument_then (Positional e) xs) = faults (asked_by (first_match ms)) e ++ given_unsuited (first_match ms) e (type_of (asked_by (first_match ms)) e) ++ argument_faults (later_matches ms) xs
    argument_faults ms (argument_then (Input l name e) xs) = faults (asked_by (first_match ms)) e ++ given_unsuited (first_match ms) e (type_of (asked_by (first_match ms)) e) ++ argument_faults (later_matches ms) xs
    argument_faults ms (argument_then (Output l name k r ss) xs) =
        root_faults s false r ss
        ++ along_faults (root_line r) false (root_standing s r ss) ss
        ++ whole_faults s r ss
        ++ target_faults s r ss
        ++ output_unsuited s (root_line r) (matched_type (first_match ms)) (place_type s r ss)
        ++ argument_faults (later_matches ms) xs

  -- ---- the typed tree

  -- the name of a method has the type of THIS
  abbrev pub root_meant_type : Option Meant → Option StType
  root_meant_type (Some (scope.a_method id)) = option_map type.Instance s.class
  root_meant_type m = meant_type m

  abbrev pub qualified_target : Standing → List ℕ → Target
  qualified_target (an_enumeration n) name = part_target (part_of s (an_enumeration n) false name)
  qualified_target _ name = target.Nothing

  unfoldable pub whole_target : Root ℕ → Selectors ℕ → Target
  whole_target (root.Name l name) no_selectors = value_target (sought s false name)
  whole_target (root.Name l name) (selector_then (Field k n) no_selectors) = qualified_target (root_standing s (root.Name l name) (selector_then (Field k n) no_selectors)) n
  whole_target r ss = target.Nothing

  abbrev pub called_note : ℕ → Option (Elem × Elem) → Option Meant → Note
  called_note l (Some c) m = note l (Some (type.Elementary c.1)) target.Conversion
  called_note l None m = note l (root_meant_type m) (meant_target m)

  unfoldable pub typed_root : Bool → Root ℕ → Selectors ℕ → Root Note
  typed_root called (root.This l) ss = root.This (note l (standing_type (root_standing s (root.This l) ss)) target.Nothing)
  typed_root called (root.Super l) ss = root.Super (note l (standing_type (root_standing s (root.Super l) ss)) target.Nothing)
  typed_root called (root.Name l name) no_selectors = root.Name (if called then called_note l (conversion_named name) (sought s true name) else qualifier_note l no_qualifier (sought s false name)) name
  typed_root called (root.Name l name) (selector_then (Field k n) ss) = root.Name (qualifier_note l (dot_qualifier s name) (sought s false name)) name
  typed_root called (root.Name l name) ss = root.Name (qualifier_note l no_qualifier (sought s false name)) name

  unfoldable pub part_note : Bool → Standing → ℕ → List ℕ → Note
  part_note called b l n = note l (part_type (part_of s b called n)) (part_target (part_of s b called n))

  unfoldable pub standing_note : ℕ → Standing → Note
  standing_note l b = note l (standing_type b) target.Nothing

  abbrev mutual
    pub typed : Asked → Expression ℕ → Expression Note
    typed asked (Int l digits) = Int (note l (int_type asked digits) target.Nothing) digits
    typed asked (Typed l k literal) = Typed (note l (typed_literal_type k literal) target.Nothing) k literal
    typed asked (Time l text) = Time (note l (Some time) target.Nothing) text
    typed asked (True l) = True (note l (Some boolean) target.Nothing)
    typed asked (False l) = False (note l (Some boolean) target.Nothing)
    typed asked (Null l) = Null (note l (Some (null_type asked)) target.Nothing)
    typed asked (Place l r ss) = Place (note l (place_type s r ss) (whole_target r ss)) (typed_root false r ss) (typed_along false (root_standing s r ss) ss)
    typed asked (Call l r ss xs) =
        Call (note l (call_type (callee s r ss)) target.Nothing) (typed_root true r ss) (typed_along true (root_standing s r ss) ss)
        (typed_arguments (call_matches s (callee s r ss) (heads xs)) xs)
    typed asked (Enumerator l t k name) =
        let meant = note_of_value (type_qualifier s t) name in
        Enumerator (note l (enumerator_type (type_qualifier s t) name) meant) t (note k (enumerator_type (type_qualifier s t) name) meant) name
    typed asked (Ref l r ss) = Ref (note l (option_and_then reference_to (place_type s r ss)) target.Nothing) (typed_root false r ss) (typed_along false (root_standing s r ss) ss)
    typed asked (Now l) = Now (note l (Some time) target.Nothing)
    typed asked (Paren l e) = Paren (note l (type_of asked e) target.Nothing) (typed asked e)
    typed asked (Not l e) = Not (note l (unary_type takes_not (type_of Anything e)) target.Nothing) (typed Anything e)
    typed asked (Negate l (Int k digits)) = Negate (note l (negative_type asked) target.Nothing) (Int (note k (negative_type asked) target.Nothing) digits)
    typed asked (Negate l e) =
        let inner = front_asked (is_untyped e) (number_asked asked) in
        Negate (note l (unary_type takes_minus (type_of inner e)) target.Nothing) (typed inner e)
    typed asked (Chain l e ts) =
        let front = front_asked (is_untyped e) (asked_behind asked ts) in
        Chain (note l (row_type (is_untyped e) front (type_of front e) ts) target.Nothing) (typed front e) (typed_row (is_untyped e) front (type_of front e) ts)

    pub typed_row : Bool → Asked → Option StType → Tails ℕ → Tails Note
    typed_row untyped asked t no_tails = no_tails
    typed_row untyped asked t (tail_then l o e ts) =
        let inner = operand_asked untyped (is_untyped e) asked t in
        tail_then (note l (operation_type o t (type_of inner e)) target.Nothing) o (typed inner e)
        (typed_row (is_arithmetic o && untyped && is_untyped e) asked (operation_type o t (type_of inner e)) ts)

    pub typed_indices : Expressions ℕ → Expressions Note
    typed_indices no_expressions = no_expressions
    typed_indices (expression_then e es) = expression_then (typed Anything e) (typed_indices es)

    pub typed_along : Bool → Standing → Selectors ℕ → Selectors Note
    typed_along called b no_selectors = no_selectors
    typed_along called b (selector_then x ss) = selector_then (typed_selector (called && is_last ss) b x) (typed_along called (selected s b x) ss)

    pub typed_selector : Bool → Standing → Selector ℕ → Selector Note
    typed_selector called b (Field l n) = Field (part_note called b l n) n
    typed_selector called b (Index l es) = Index (standing_note l (selected s b (Index l es))) (typed_indices es)
    typed_selector called b (tree.Target l) = tree.Target (standing_note l (selected s b (tree.Target l)))

    pub typed_arguments : List Matched → Arguments ℕ → Arguments Note
    typed_arguments ms no_arguments = no_arguments
    typed_arguments ms (argument_then (Positional e) xs) = argument_then (Positional (typed (asked_by (first_match ms)) e)) (typed_arguments (later_matches ms) xs)
    typed_arguments ms (argument_then (Input l name e) xs) =
        argument_then (Input (note l (matched_type (first_match ms)) (matched_target (first_match ms))) name (typed (asked_by (first_match ms)) e)) (typed_arguments (later_matches ms) xs)
    typed_arguments ms (argument_then (Output l name k r ss) xs) =
        argument_then
        (Output (note l (matched_type (first_match ms)) (matched_target (first_match ms))) name (note k (place_type s r ss) target.Nothing)
        (typed_root false r ss) (typed_along false (root_standing s r ss) ss))
        (typed_arguments (later_matches ms) xs)

  -- ---- whole expressions

  -- an expression at a place that asks for something, and none around it
  abbrev pub expression_faults : Asked → Expression ℕ → Faults
  expression_faults asked e = faults asked e ++ value_unsuited s (line_of e) asked (type_of asked e) ++ too_many_operators e
