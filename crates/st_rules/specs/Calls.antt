-- Calls: what is called, its parameters, and how arguments are matched with them (IEC 61131-3:2013, 6.6.1.4, 6.6.2.2 and 6.6.5.5).
use Rattle.std.specs.Prelude.{ℕ, suc, nat_eq, Bool, true, false, not, ◌&&◌, ◌||◌, if◌then◌else◌, codes, List, [], ◌∷◌, ◌++◌, length, filter, flat_map, take, drop, reverse, Option, Some, None}
use Rattle.std.specs.Option.{is_none}
use Rattle.std.specs.List.{list_any}
use Rattle.plc_text.specs.Words.{same}
use Rattle.plc_text.specs.declared.code.Code.TheVariants.{E07, E08, E09, E10}
use Rattle.st_types.specs.declared.elem.Elem.{Elem}
use Rattle.st_types.specs.declared.elem.Elem.TheVariants as kind
use Rattle.st_types.specs.Elem as elem
use Rattle.st_types.specs.declared.st_type.StType.{StType}
use Rattle.st_types.specs.declared.st_type.StType.TheVariants as type
use Rattle.st_tree.specs.declared.declaration.SectionSort.{SectionSort}
use Rattle.st_tree.specs.declared.declaration.SectionSort.TheVariants as sort
use Rattle.st_tree.specs.declared.expression.Root.{Root}
use Rattle.st_tree.specs.declared.expression.Root.TheVariants as root
use Rattle.st_tree.specs.declared.program.Target.TheVariants.{Nothing}
use Rattle.st_tree.specs.Expression.{Expression, Selector, Field, Index, Selectors, no_selectors, selector_then, Positional, Input, Output, Arguments, no_arguments, argument_then}
use Rattle.st_tree.specs.Expression as tree
use Rattle.st_rules.specs.declared.signature.ResultType.{ResultType}
use Rattle.st_rules.specs.declared.signature.ResultType.TheVariants as outcome
use Rattle.st_rules.specs.declared.modifiers.Access.TheVariants.{Public}
use Rattle.st_rules.specs.declared.names.DeclaredVariable.{DeclaredVariable}
use Rattle.st_rules.specs.declared.names.DeclaredRoutine.{DeclaredRoutine}
use Rattle.st_rules.specs.declared.asked.Asked.{Asked}
use Rattle.st_rules.specs.declared.asked.Asked.TheVariants.{Wanted, Untold}
use Rattle.st_rules.specs.Faults.{Faults, at, when}
use Rattle.st_rules.specs.Types.{same_kind}
use Rattle.st_rules.specs.Signatures.{is_parameter_sort}
use Rattle.st_rules.specs.Classes.{chain}
use Rattle.st_rules.specs.Kinds.{is_assignable, is_bindable}
use Rattle.st_rules.specs.Literals.{asked_of}
use Rattle.st_rules.specs.Scope.{Scope, Meant, a_variable, a_function, an_enumerator, sought, method_routine, prototype_routine, is_block_at, variables_of}
use Rattle.st_rules.specs.Scope as scope
use Rattle.st_rules.specs.Places.{Standing, untold, a_value, own_instance, no_base, an_enumeration, Part, a_field, a_member, a_prototype, a_value_of, part_of, selected, root_standing, is_fixed, is_output_sort}
use Rattle.st_rules.specs.Places as places

-- what a call calls
pub data Callee : Type 0 where
  -- what is not found, or cannot be told
  no_callee : Callee
  -- a variable, a constant, an enumerator, an instance of a class
  not_callable : Callee
  -- from the first kind to the second
  a_conversion : Elem → Elem → Callee
  -- a function or a method
  a_routine : DeclaredRoutine → Callee
  -- the body of a function block
  a_body : ℕ → Callee
  -- SUPER(): the body of the base
  base_body : ℕ → Callee
  -- SUPER() without a base that is a function block
  no_base_body : Callee

-- ---- conversions: A_TO_B, for elementary A and B that differ

abbrev pub kinds : List Elem
kinds = kind.Bool ∷ kind.Sint ∷ kind.Int ∷ kind.Dint ∷ kind.Lint ∷ kind.Usint ∷ kind.Uint ∷ kind.Udint ∷ kind.Ulint ∷ kind.Byte ∷ kind.Word ∷ kind.Dword ∷ kind.Lword ∷ kind.Time ∷ []

abbrev pub kind_named : List ℕ → List Elem → Option Elem
kind_named text [] = None
kind_named text (k ∷ ks) = if same (elem.name k) text then Some k else kind_named text ks

abbrev pub differing : Elem → Option Elem → Option (Elem × Elem)
differing a None = None
differing a (Some b) = if same_kind a b then None else Some (a, b)

-- the name of a kind, and what stands behind it in the name of a conversion
abbrev pub conversion_head : Elem → List ℕ
conversion_head a = elem.name a ++ codes "_TO_"

abbrev pub conversion_from : List ℕ → Elem → Option (Elem × Elem)
conversion_from text a =
    if same (take (length (conversion_head a)) text) (conversion_head a)
    then differing a (kind_named (drop (length (conversion_head a)) text) kinds)
    else None

abbrev pub conversion_among : List ℕ → List Elem → Option (Elem × Elem)
conversion_among text [] = None
conversion_among text (a ∷ ks) = of (conversion_from text a) (conversion_among text ks)
  where
    of : Option (Elem × Elem) → Option (Elem × Elem) → Option (Elem × Elem)
    of (Some c) rest = Some c
    of None rest = rest

-- the conversion that a name is
unfoldable pub conversion_named : List ℕ → Option (Elem × Elem)
conversion_named text = conversion_among text kinds

-- ---- arguments as they are written

pub data Head : Type 0 where
  unnamed : Head
  -- `name := value` and `name => place`, with the line of the name
  names_input : ℕ → List ℕ → Head
  names_output : ℕ → List ℕ → Head

abbrev pub heads : Arguments ℕ → List Head
heads no_arguments = []
heads (argument_then (Positional e) xs) = unnamed ∷ heads xs
heads (argument_then (Input l name e) xs) = names_input l name ∷ heads xs
heads (argument_then (Output l name k r ss) xs) = names_output l name ∷ heads xs

abbrev pub is_unnamed : Head → Bool
is_unnamed unnamed = true
is_unnamed _ = false

abbrev pub is_named : Head → Bool
is_named h = not (is_unnamed h)

abbrev pub names_among : List ℕ → List (List ℕ) → Bool
names_among name earlier = list_any (same name) earlier

abbrev pub head_names : Head → List (List ℕ)
head_names unnamed = []
head_names (names_input l name) = name ∷ []
head_names (names_output l name) = name ∷ []

abbrev pub gives_input : List ℕ → Head → Bool
gives_input name (names_input l n) = same n name
gives_input name _ = false

abbrev pub count_unnamed : List Head → ℕ
count_unnamed [] = 0
count_unnamed (unnamed ∷ hs) = suc (count_unnamed hs)
count_unnamed (_ ∷ hs) = count_unnamed hs

-- ---- parameters

abbrev pub is_parameter : DeclaredVariable → Bool
is_parameter v = is_parameter_sort v.sort && not v.constant

abbrev pub is_in_out_sort : SectionSort → Bool
is_in_out_sort sort.InOut = true
is_in_out_sort _ = false

-- inputs and in-outs are given, outputs are taken
abbrev pub is_given : DeclaredVariable → Bool
is_given v = not (is_output_sort v.sort)

abbrev pub is_taken : DeclaredVariable → Bool
is_taken v = is_output_sort v.sort

-- a parameter with its number among the parameters
abbrev pub Matched : Type 0
Matched = Option (ℕ × DeclaredVariable)

-- the first of the name that passes
abbrev pub parameter_from : (DeclaredVariable → Bool) → ℕ → List ℕ → List DeclaredVariable → Matched
parameter_from test k name [] = None
parameter_from test k name (v ∷ vs) = if test v && same v.name name then Some (k, v) else parameter_from test (suc k) name vs

-- those that arguments without a name are for, in order
abbrev pub given_from : ℕ → List DeclaredVariable → List (ℕ × DeclaredVariable)
given_from k [] = []
given_from k (v ∷ vs) = if is_given v then (k, v) ∷ given_from (suc k) vs else given_from (suc k) vs

abbrev pub first_matched : List (ℕ × DeclaredVariable) → Matched
first_matched [] = None
first_matched (x ∷ xs) = Some x

abbrev pub behind_matched : List (ℕ × DeclaredVariable) → List (ℕ × DeclaredVariable)
behind_matched [] = []
behind_matched (x ∷ xs) = xs

-- which parameter each argument is for; `left` are those for the arguments without a name that are still to come
abbrev pub matched : List DeclaredVariable → List (ℕ × DeclaredVariable) → List Head → List Matched
matched ps left [] = []
matched ps left (unnamed ∷ hs) = first_matched left ∷ matched ps (behind_matched left) hs
matched ps left (names_input l name ∷ hs) = parameter_from is_given 0 name ps ∷ matched ps left hs
matched ps left (names_output l name ∷ hs) = parameter_from is_taken 0 name ps ∷ matched ps left hs

abbrev pub has_right_number : List DeclaredVariable → List Head → Bool
has_right_number ps hs = nat_eq (count_unnamed hs) (length (given_from 0 ps))

-- where the number of arguments without a name is wrong, they are for none
abbrev pub matches : List DeclaredVariable → List Head → List Matched
matches ps hs = matched ps (if has_right_number ps hs then given_from 0 ps else []) hs

abbrev pub first_match : List Matched → Matched
first_match [] = None
first_match (m ∷ ms) = m

abbrev pub later_matches : List Matched → List Matched
later_matches [] = []
later_matches (m ∷ ms) = ms

-- what an argument is asked for; one that is for no parameter, as those of a call of what cannot be told, for a type that cannot be told
unfoldable pub asked_by : Matched → Asked
asked_by None = Untold
asked_by (Some m) = asked_of m.1.kind

abbrev pub binds : Matched → Bool
binds None = false
binds (Some m) = is_in_out_sort m.1.sort

unfoldable pub matched_type : Matched → Option StType
matched_type None = None
matched_type (Some m) = m.1.kind

-- ---- E09: arguments that do not match

abbrev pub positional_and_named_mixed : ℕ → List Head → Faults
positional_and_named_mixed line hs = when (list_any is_unnamed hs && list_any is_named hs) E09 line

abbrev pub wrong_number_of_positional : ℕ → List DeclaredVariable → List Head → Faults
wrong_number_of_positional line ps hs = when (list_any is_unnamed hs && not (has_right_number ps hs)) E09 line

abbrev pub unknown_or_repeated : List DeclaredVariable → List (List ℕ) → Head → Faults
unknown_or_repeated ps earlier unnamed = []
unknown_or_repeated ps earlier (names_input l name) = when (is_none (parameter_from is_given 0 name ps) || names_among name earlier) E09 l
unknown_or_repeated ps earlier (names_output l name) = when (is_none (parameter_from is_taken 0 name ps) || names_among name earlier) E09 l

abbrev pub named_unknown_or_twice : List DeclaredVariable → List (List ℕ) → List Head → Faults
named_unknown_or_twice ps earlier [] = []
named_unknown_or_twice ps earlier (h ∷ hs) = unknown_or_repeated ps earlier h ++ named_unknown_or_twice ps (earlier ++ head_names h) hs

abbrev pub is_left_out : List Head → DeclaredVariable → Bool
is_left_out hs v = is_in_out_sort v.sort && not (list_any (gives_input v.name) hs)

abbrev pub in_out_left_out : ℕ → List DeclaredVariable → List Head → Faults
in_out_left_out line ps hs = when (not (list_any is_unnamed hs) && list_any (is_left_out hs) ps) E09 line

abbrev pub matching_faults : ℕ → List DeclaredVariable → List Head → Faults
matching_faults line ps hs =
    positional_and_named_mixed line hs
    ++ wrong_number_of_positional line ps hs
    ++ named_unknown_or_twice ps [] hs
    ++ in_out_left_out line ps hs

-- ---- what a callee gives

abbrev pub outcome_type : ResultType → Option StType
outcome_type outcome.Nothing = None
outcome_type (outcome.Written t) = t

unfoldable pub call_type : Callee → Option StType
call_type (a_conversion a b) = Some (type.Elementary b)
call_type (a_routine r) = outcome_type r.outcome
call_type _ = None

abbrev pub has_no_outcome : ResultType → Bool
has_no_outcome outcome.Nothing = true
has_no_outcome (outcome.Written t) = false

-- a routine without a result, or a body
abbrev pub has_no_value : Callee → Bool
has_no_value (a_routine r) = has_no_outcome r.outcome
has_no_value (a_body c) = true
has_no_value (base_body b) = true
has_no_value _ = false

unfoldable pub call_without_result : ℕ → Callee → Faults
call_without_result line c = when (has_no_value c) E07 line

-- the operand of a conversion, as an input without a name
abbrev pub operand_parameter : Elem → DeclaredVariable
operand_parameter a = record { name = []; sort = sort.Input; constant = false; access = Public; located_input = false; kind = Some (type.Elementary a); target = Nothing }

-- a call on SUPER itself: with nothing but `^` before the method's name
abbrev pub is_direct : Selectors ℕ → Bool
is_direct no_selectors = false
is_direct (selector_then (Field l name) ss) = places.is_last ss
is_direct (selector_then (Index l es) ss) = false
is_direct (selector_then (tree.Target l) ss) = is_direct ss

unfoldable pub is_on_super : Root ℕ → Selectors ℕ → Bool
is_on_super (root.Super l) ss = is_direct ss
is_on_super _ ss = false

module _ (s : Scope) where
  abbrev pub block_body : ℕ → Callee
  block_body c = if is_block_at s c then a_body c else not_callable

  abbrev pub called_type : Option StType → Callee
  called_type None = no_callee
  called_type (Some (type.Instance c)) = block_body c
  called_type (Some _) = not_callable

  abbrev pub routine_callee : Option DeclaredRoutine → Callee
  routine_callee None = no_callee
  routine_callee (Some r) = a_routine r

  abbrev pub meant_callee : Option Meant → Callee
  meant_callee None = no_callee
  meant_callee (Some (a_variable c v)) = called_type v.kind
  meant_callee (Some (scope.a_method id)) = routine_callee (method_routine s id)
  meant_callee (Some (a_function k r)) = a_routine r
  meant_callee (Some (an_enumerator n k)) = not_callable

  abbrev pub part_callee : Option Part → Callee
  part_callee None = no_callee
  part_callee (Some (a_field k t)) = called_type t
  part_callee (Some (a_member d v)) = called_type v.kind
  part_callee (Some (places.a_method id)) = routine_callee (method_routine s id)
  part_callee (Some (a_prototype id)) = routine_callee (prototype_routine s id)
  part_callee (Some (a_value_of n k)) = not_callable

  -- THIS calls the own body, SUPER that of the base
  abbrev pub own_callee : Root ℕ → ℕ → Callee
  own_callee (root.Super l) b = if is_block_at s b then base_body b else no_base_body
  own_callee _ c = block_body c

  abbrev pub standing_callee : Root ℕ → Standing → Callee
  standing_callee r untold = no_callee
  standing_callee r (a_value t) = called_type (Some t)
  standing_callee r (own_instance c) = own_callee r c
  standing_callee r no_base = no_base_body
  standing_callee r (an_enumeration n) = no_callee

  abbrev pub callee_along : Root ℕ → Standing → Selectors ℕ → Callee
  callee_along r b no_selectors = standing_callee r b
  callee_along r b (selector_then (Field l name) no_selectors) = part_callee (part_of s b true name)
  callee_along r b (selector_then x ss) = callee_along r (selected s b x) ss

  abbrev pub name_callee : Option (Elem × Elem) → Option Meant → Callee
  name_callee (Some c) m = a_conversion c.0 c.1
  name_callee None m = meant_callee m

  -- a bare name that is called
  abbrev pub root_callee : Root ℕ → Callee
  root_callee (root.Name l name) = name_callee (conversion_named name) (sought s true name)
  root_callee r = standing_callee r (root_standing s r no_selectors)

  -- what is called at a place
  unfoldable pub callee : Root ℕ → Selectors ℕ → Callee
  callee r no_selectors = root_callee r
  callee r ss = callee_along r (root_standing s r ss) ss

  -- ---- parameters

  -- those of a block's body: of its bases first
  unfoldable pub block_parameters : ℕ → List DeclaredVariable
  block_parameters c = flat_map (λ d. filter is_parameter (variables_of s d)) (reverse (chain s.classes c))

  abbrev pub callee_parameters : Callee → List DeclaredVariable
  callee_parameters (a_conversion a b) = operand_parameter a ∷ []
  callee_parameters (a_routine r) = r.parameters
  callee_parameters (a_body c) = block_parameters c
  callee_parameters _ = []

  abbrev pub has_in_outs : ℕ → Bool
  has_in_outs c = list_any (λ v. is_in_out_sort v.sort) (block_parameters c)

  -- which parameter each argument is for
  unfoldable pub call_matches : Callee → List Head → List Matched
  call_matches c hs = matches (callee_parameters c) hs

  -- ---- the rules of a call, but those of its place and its arguments themselves

  abbrev pub call_of_no_callable : ℕ → Callee → Faults
  call_of_no_callable line not_callable = at E09 line
  call_of_no_callable line _ = []

  abbrev pub super_call_without_base_block : ℕ → Callee → Faults
  super_call_without_base_block line no_base_body = at E07 line
  super_call_without_base_block line _ = []

  -- SUPER() takes no arguments
  abbrev pub arguments_of_super_call : ℕ → Callee → List Head → Faults
  arguments_of_super_call line (base_body b) (h ∷ hs) = at E09 line
  arguments_of_super_call line _ hs = []

  -- in a method there are no in-outs to hand on
  abbrev pub super_call_in_a_method : ℕ → Callee → Faults
  super_call_in_a_method line (base_body b) = when (s.in_method && has_in_outs b) E10 line
  super_call_in_a_method line _ = []

  abbrev pub abstract_method_on_super : ℕ → Bool → Callee → Faults
  abstract_method_on_super line on_super (a_routine r) = when (on_super && r.abstract_method) E09 line
  abstract_method_on_super line on_super _ = []

  abbrev pub conversion_without_operand : ℕ → Callee → List Head → Faults
  conversion_without_operand line (a_conversion a b) [] = at E09 line
  conversion_without_operand line _ hs = []

  -- whether arguments are matched with parameters
  abbrev pub has_parameters : Callee → Bool
  has_parameters (a_conversion a b) = true
  has_parameters (a_routine r) = true
  has_parameters (a_body c) = true
  has_parameters _ = false

  unfoldable pub callee_faults : ℕ → Bool → Callee → List Head → Faults
  callee_faults line on_super c hs =
      call_of_no_callable line c
      ++ super_call_without_base_block line c
      ++ arguments_of_super_call line c hs
      ++ super_call_in_a_method line c
      ++ abstract_method_on_super line on_super c
      ++ conversion_without_operand line c hs
      ++ (if has_parameters c then matching_faults line (callee_parameters c) hs else [])

  -- ---- values, bound places and outputs

  -- a value that is not to be assigned where it stands: its line is that of its first token
  unfoldable pub value_unsuited : ℕ → Asked → Option StType → Faults
  value_unsuited line (Wanted u) (Some t) = when (not (is_assignable s.classes s.interfaces t u)) E07 line
  value_unsuited line _ _ = []

  -- a place is bound to an in-out of its own type, without any conversion
  abbrev pub bound_to_another_type : ℕ → Option StType → Option StType → Faults
  bound_to_another_type line (Some u) (Some t) = when (not (is_bindable s.classes s.interfaces t u)) E07 line
  bound_to_another_type line _ _ = []

  -- what is bound to an in-out is a variable that may be written; an instance may be one
  abbrev pub is_bindable_place : Expression ℕ → Bool
  is_bindable_place (tree.Place l r ss) = not (is_fixed s r ss)
  is_bindable_place _ = false

  abbrev pub bound_no_variable : ℕ → Expression ℕ → Faults
  bound_no_variable line e = when (not (is_bindable_place e)) E08 line

  -- an output that is not to be assigned to the place that takes it
  unfoldable pub output_unsuited : ℕ → Option StType → Option StType → Faults
  output_unsuited line (Some t) (Some u) = when (not (is_assignable s.classes s.interfaces t u)) E07 line
  output_unsuited line _ _ = []
