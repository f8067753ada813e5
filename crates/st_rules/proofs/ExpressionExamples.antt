-- The definitions of expressions and statements at work on small trees.
use Rattle.std.specs.Prelude.{◌≡◌, ℕ, codes, Bool, true, false, List, [], ◌∷◌, Some, None, refl}
use Rattle.plc_text.specs.declared.code.Code.TheVariants.{E05, E07, E08, E09, E10, E13}
use Rattle.st_types.specs.declared.elem.Elem.TheVariants as elem
use Rattle.st_types.specs.declared.st_type.StType.{StType}
use Rattle.st_types.specs.declared.st_type.StType.TheVariants.{Elementary, Enumeration, Instance, Reference}
use Rattle.st_tree.specs.declared.declaration.ClassSort.TheVariants.{FunctionBlock}
use Rattle.st_tree.specs.declared.declaration.ClassSort.{ClassSort}
use Rattle.st_tree.specs.declared.declaration.ClassDecl.{ClassDecl}
use Rattle.st_tree.specs.declared.declaration.SectionSort.{SectionSort}
use Rattle.st_tree.specs.declared.declaration.SectionSort.TheVariants as sort
use Rattle.st_tree.specs.declared.expression.Operator.TheVariants as operator
use Rattle.st_tree.specs.declared.expression.Root.TheVariants as root
use Rattle.st_tree.specs.declared.program.Target.TheVariants as target
use Rattle.st_tree.specs.Expression as tree
use Rattle.st_tree.specs.Expression.{Expression}
use Rattle.st_tree.specs.Statement as statement
use Rattle.st_rules.specs.declared.modifiers.Access.{Access}
use Rattle.st_rules.specs.declared.modifiers.Access.TheVariants.{Public, Protected}
use Rattle.st_rules.specs.declared.signature.ResultType.TheVariants as outcome
use Rattle.st_rules.specs.declared.asked.Asked.TheVariants.{Anything, Wanted}
use Rattle.st_rules.specs.declared.names.DeclaredVariable.{DeclaredVariable}
use Rattle.st_rules.specs.declared.names.DeclaredGlobal.TheVariants as global
use Rattle.st_rules.specs.declared.names.TypeParts.TheVariants as parts
use Rattle.st_rules.specs.declared.names.DeclaredNames.{DeclaredNames}
use Rattle.st_rules.specs.Faults.{least}
use Rattle.st_rules.specs.Classes.{chain, lookup}
use Rattle.st_rules.specs.Types.{same_type}
use Rattle.st_rules.specs.Literals.{int_type, int_faults, negative_faults, typed_literal_faults, number_asked, negative_type, asked_of}
use Rattle.st_rules.specs.Kinds.{operation_type, unary_type, is_assignable, is_bindable, common_kind, instance_views}
use Rattle.st_rules.specs.Scope.{Scope, sought, type_qualifier, dot_qualifier, instance_variable, is_text_under}
use Rattle.st_rules.specs.Places.{root_standing, part_of, selected, placed, is_fixed, part_faults, root_faults, selector_faults, whole_faults, target_faults, too_many_selectors}
use Rattle.st_rules.specs.Calls.{callee, conversion_named, block_parameters, call_type, call_without_result, call_matches, callee_faults, value_unsuited, output_unsuited, asked_by, matched_type, is_on_super}
use Rattle.st_rules.specs.Expressions.{type_of, faults, expression_faults, operands_unsuited, unsuited_line, operand_unsuited, operand_asked, front_asked, given_unsuited, called_root_faults}
use Rattle.st_rules.specs.Statements.{body_faults}
use Rattle.st_rules.proofs.TypeLaws.{type_decided}

-- ---- a scope by hand: a program's text, with a function block K and an enumeration

simple : StType → List ℕ → ℕ → DeclaredVariable
simple t name n = record { name = name; sort = sort.Var; constant = false; access = Public; located_input = false; kind = Some t; target = target.Local n }

member : SectionSort → Access → List ℕ → DeclaredVariable
member s a name = record { name = name; sort = s; constant = false; access = a; located_input = false; kind = Some (Elementary elem.Int); target = target.Variable 0 }

class : ClassSort → List ℕ → ClassDecl ℕ
class s text = record { line = 1; sort = s; modifiers = []; name = record { text = text; line = 1 }; base = None; interfaces = []; members = []; body = [] }

names : DeclaredNames
names = record {
  types = record { name = codes "M"; kind = Some (Enumeration 0) } ∷ record { name = codes "K"; kind = Some (Instance 0) } ∷ [];
  parts = parts.Values (codes "OFF" ∷ codes "RUN" ∷ []) ∷ [];
  classes = record { sort = FunctionBlock; variables = member sort.Input Public (codes "A") ∷ member sort.Output Public (codes "Q") ∷ member sort.Var Protected (codes "N") ∷ []; methods = [] } ∷ [];
  interfaces = [];
  globals = global.Function 0 (record { name = codes "F"; access = Public; abstract_method = false; outcome = outcome.Written (Some (Elementary elem.Int)); parameters = simple (Elementary elem.Int) (codes "A") 1 ∷ record (simple (Elementary elem.Int) (codes "IO") 2) { sort = sort.InOut } ∷ [] }) ∷ [];
}

here : Scope
here = record {
  classes = class FunctionBlock (codes "K") ∷ [];
  interfaces = [];
  names = names;
  class = None;
  in_method = false;
  locals = simple (Elementary elem.Usint) (codes "U") 0 ∷ simple (Elementary elem.Uint) (codes "V") 1 ∷ simple (Elementary elem.Int) (codes "X") 2 ∷ simple (Instance 0) (codes "K1") 3
      ∷ simple (Reference 0) (codes "R") 4 ∷ simple (Enumeration 0) (codes "E") 5 ∷ simple (Elementary elem.Bool) (codes "B") 6 ∷ [];
}

-- types are compared by their trees, which do not compute: what is needed is told
same_bool : same_type (Elementary elem.Bool) (Elementary elem.Bool) ≡ true
same_bool = (type_decided (Elementary elem.Bool) (Elementary elem.Bool)).1 refl

same_int : same_type (Elementary elem.Int) (Elementary elem.Int) ≡ true
same_int = (type_decided (Elementary elem.Int) (Elementary elem.Int)).1 refl

not_true : (b : Bool) → (b ≡ true → ⊥) → b ≡ false
not_true true h = absurd (h refl)
not_true false h = refl

different_kinds : Elementary elem.Dint ≡ Elementary elem.Bool → ⊥
different_kinds e = cc

other_kinds : Elementary elem.Usint ≡ Elementary elem.Int → ⊥
other_kinds e = cc

dint_no_bool : same_type (Elementary elem.Dint) (Elementary elem.Bool) ≡ false
dint_no_bool = not_true _ (λ h. different_kinds ((type_decided (Elementary elem.Dint) (Elementary elem.Bool)).0 h))

usint_no_int : same_type (Elementary elem.Usint) (Elementary elem.Int) ≡ false
usint_no_int = not_true _ (λ h. other_kinds ((type_decided (Elementary elem.Usint) (Elementary elem.Int)).0 h))

int : List ℕ → Expression ℕ
int digits = tree.Int 1 digits

bare : List ℕ → Expression ℕ
bare name = tree.Place 1 (root.Name 1 name) tree.no_selectors

dotted : List ℕ → List ℕ → Expression ℕ
dotted name field = tree.Place 1 (root.Name 1 name) (tree.selector_then (tree.Field 2 field) tree.no_selectors)

-- u + v of USINT and UINT is UINT
widened : type_of here Anything (tree.Chain 1 (bare (codes "U")) (tree.tail_then 1 operator.Plus (bare (codes "V")) tree.no_tails)) ≡ Some (Elementary elem.Uint)
unfolding here names class simple member int bare dotted sought type_qualifier dot_qualifier instance_variable is_text_under chain lookup common_kind operation_type unary_type is_assignable is_bindable int_type int_faults negative_faults typed_literal_faults number_asked negative_type asked_of root_standing part_of selected placed is_fixed part_faults root_faults selector_faults whole_faults target_faults too_many_selectors callee conversion_named block_parameters call_type call_without_result call_matches callee_faults value_unsuited output_unsuited asked_by matched_type is_on_super operands_unsuited unsuited_line operand_unsuited operand_asked front_asked given_unsuited called_root_faults
widened = refl

-- 1 + 300 + u: each int takes USINT, which 300 does not fit
asked_from_behind : least (faults here Anything (tree.Chain 1 (int (codes "1")) (tree.tail_then 1 operator.Plus (tree.Int 2 (codes "300")) (tree.tail_then 1 operator.Plus (bare (codes "U")) tree.no_tails)))) ≡ Some (E13, 2)
unfolding here names class simple member int bare dotted sought type_qualifier dot_qualifier instance_variable is_text_under chain lookup common_kind operation_type unary_type is_assignable is_bindable int_type int_faults negative_faults typed_literal_faults number_asked negative_type asked_of root_standing part_of selected placed is_fixed part_faults root_faults selector_faults whole_faults target_faults too_many_selectors callee conversion_named block_parameters call_type call_without_result call_matches callee_faults value_unsuited output_unsuited asked_by matched_type is_on_super operands_unsuited unsuited_line operand_unsuited operand_asked front_asked given_unsuited called_root_faults
asked_from_behind = refl

-- an untyped value of a BOOL: 1 will do, 2 will not
one_is_bool : least (expression_faults here (Wanted (Elementary elem.Bool)) (int (codes "1"))) ≡ None
unfolding here names class simple member int bare dotted sought type_qualifier dot_qualifier instance_variable is_text_under chain lookup common_kind operation_type unary_type is_assignable is_bindable int_type int_faults negative_faults typed_literal_faults number_asked negative_type asked_of root_standing part_of selected placed is_fixed part_faults root_faults selector_faults whole_faults target_faults too_many_selectors callee conversion_named block_parameters call_type call_without_result call_matches callee_faults value_unsuited output_unsuited asked_by matched_type is_on_super operands_unsuited unsuited_line operand_unsuited operand_asked front_asked given_unsuited called_root_faults
one_is_bool = simp same_bool refl

two_is_not : least (expression_faults here (Wanted (Elementary elem.Bool)) (tree.Paren 1 (tree.Int 2 (codes "2")))) ≡ Some (E07, 1)
unfolding here names class simple member int bare dotted sought type_qualifier dot_qualifier instance_variable is_text_under chain lookup common_kind operation_type unary_type is_assignable is_bindable int_type int_faults negative_faults typed_literal_faults number_asked negative_type asked_of root_standing part_of selected placed is_fixed part_faults root_faults selector_faults whole_faults target_faults too_many_selectors callee conversion_named block_parameters call_type call_without_result call_matches callee_faults value_unsuited output_unsuited asked_by matched_type is_on_super operands_unsuited unsuited_line operand_unsuited operand_asked front_asked given_unsuited called_root_faults
two_is_not = simp dint_no_bool refl

-- RUN is an enumerator, M.RUN too, M.GO is none
enumerator : type_of here Anything (bare (codes "RUN")) ≡ Some (Enumeration 0)
unfolding here names class simple member int bare dotted sought type_qualifier dot_qualifier instance_variable is_text_under chain lookup common_kind operation_type unary_type is_assignable is_bindable int_type int_faults negative_faults typed_literal_faults number_asked negative_type asked_of root_standing part_of selected placed is_fixed part_faults root_faults selector_faults whole_faults target_faults too_many_selectors callee conversion_named block_parameters call_type call_without_result call_matches callee_faults value_unsuited output_unsuited asked_by matched_type is_on_super operands_unsuited unsuited_line operand_unsuited operand_asked front_asked given_unsuited called_root_faults
enumerator = refl

qualified_enumerator : type_of here Anything (dotted (codes "M") (codes "RUN")) ≡ Some (Enumeration 0)
unfolding here names class simple member int bare dotted sought type_qualifier dot_qualifier instance_variable is_text_under chain lookup common_kind operation_type unary_type is_assignable is_bindable int_type int_faults negative_faults typed_literal_faults number_asked negative_type asked_of root_standing part_of selected placed is_fixed part_faults root_faults selector_faults whole_faults target_faults too_many_selectors callee conversion_named block_parameters call_type call_without_result call_matches callee_faults value_unsuited output_unsuited asked_by matched_type is_on_super operands_unsuited unsuited_line operand_unsuited operand_asked front_asked given_unsuited called_root_faults
qualified_enumerator = refl

no_enumerator : least (faults here Anything (dotted (codes "M") (codes "GO"))) ≡ Some (E05, 2)
unfolding here names class simple member int bare dotted sought type_qualifier dot_qualifier instance_variable is_text_under chain lookup common_kind operation_type unary_type is_assignable is_bindable int_type int_faults negative_faults typed_literal_faults number_asked negative_type asked_of root_standing part_of selected placed is_fixed part_faults root_faults selector_faults whole_faults target_faults too_many_selectors callee conversion_named block_parameters call_type call_without_result call_matches callee_faults value_unsuited output_unsuited asked_by matched_type is_on_super operands_unsuited unsuited_line operand_unsuited operand_asked front_asked given_unsuited called_root_faults
no_enumerator = refl

-- k1.n is PROTECTED, k1.z is nowhere, r.n lacks its `^`
protected_variable : least (faults here Anything (dotted (codes "K1") (codes "N"))) ≡ Some (E10, 2)
unfolding here names class simple member int bare dotted sought type_qualifier dot_qualifier instance_variable is_text_under chain lookup common_kind operation_type unary_type is_assignable is_bindable int_type int_faults negative_faults typed_literal_faults number_asked negative_type asked_of root_standing part_of selected placed is_fixed part_faults root_faults selector_faults whole_faults target_faults too_many_selectors callee conversion_named block_parameters call_type call_without_result call_matches callee_faults value_unsuited output_unsuited asked_by matched_type is_on_super operands_unsuited unsuited_line operand_unsuited operand_asked front_asked given_unsuited called_root_faults
protected_variable = refl

no_part : least (faults here Anything (dotted (codes "K1") (codes "Z"))) ≡ Some (E05, 2)
unfolding here names class simple member int bare dotted sought type_qualifier dot_qualifier instance_variable is_text_under chain lookup common_kind operation_type unary_type is_assignable is_bindable int_type int_faults negative_faults typed_literal_faults number_asked negative_type asked_of root_standing part_of selected placed is_fixed part_faults root_faults selector_faults whole_faults target_faults too_many_selectors callee conversion_named block_parameters call_type call_without_result call_matches callee_faults value_unsuited output_unsuited asked_by matched_type is_on_super operands_unsuited unsuited_line operand_unsuited operand_asked front_asked given_unsuited called_root_faults
no_part = refl

no_dereference : least (faults here Anything (dotted (codes "R") (codes "N"))) ≡ Some (E05, 2)
unfolding here names class simple member int bare dotted sought type_qualifier dot_qualifier instance_variable is_text_under chain lookup common_kind operation_type unary_type is_assignable is_bindable int_type int_faults negative_faults typed_literal_faults number_asked negative_type asked_of root_standing part_of selected placed is_fixed part_faults root_faults selector_faults whole_faults target_faults too_many_selectors callee conversion_named block_parameters call_type call_without_result call_matches callee_faults value_unsuited output_unsuited asked_by matched_type is_on_super operands_unsuited unsuited_line operand_unsuited operand_asked front_asked given_unsuited called_root_faults
no_dereference = refl

-- k1.q := 1 writes an output from outside; EXIT outside a loop
outer_output : least (body_faults here (statement.statement_then (statement.Assign 1 1 (root.Name 1 (codes "K1")) (tree.selector_then (tree.Field 1 (codes "Q")) tree.no_selectors) (int (codes "1"))) statement.no_statements)) ≡ Some (E08, 1)
unfolding here names class simple member int bare dotted sought type_qualifier dot_qualifier instance_variable is_text_under chain lookup common_kind operation_type unary_type is_assignable is_bindable int_type int_faults negative_faults typed_literal_faults number_asked negative_type asked_of root_standing part_of selected placed is_fixed part_faults root_faults selector_faults whole_faults target_faults too_many_selectors callee conversion_named block_parameters call_type call_without_result call_matches callee_faults value_unsuited output_unsuited asked_by matched_type is_on_super operands_unsuited unsuited_line operand_unsuited operand_asked front_asked given_unsuited called_root_faults
outer_output = simp (same_int, instance_views) refl

exit_outside : least (body_faults here (statement.statement_then (statement.Exit 3) statement.no_statements)) ≡ Some (E10, 3)
unfolding here names class simple member int bare dotted sought type_qualifier dot_qualifier instance_variable is_text_under chain lookup common_kind operation_type unary_type is_assignable is_bindable int_type int_faults negative_faults typed_literal_faults number_asked negative_type asked_of root_standing part_of selected placed is_fixed part_faults root_faults selector_faults whole_faults target_faults too_many_selectors callee conversion_named block_parameters call_type call_without_result call_matches callee_faults value_unsuited output_unsuited asked_by matched_type is_on_super operands_unsuited unsuited_line operand_unsuited operand_asked front_asked given_unsuited called_root_faults
exit_outside = refl

-- F(1): one argument too few; F(x + 1, x) is right
few_arguments : least (faults here Anything (tree.Call 1 (root.Name 1 (codes "F")) tree.no_selectors (tree.argument_then (tree.Positional (int (codes "1"))) tree.no_arguments))) ≡ Some (E09, 1)
unfolding here names class simple member int bare dotted sought type_qualifier dot_qualifier instance_variable is_text_under chain lookup common_kind operation_type unary_type is_assignable is_bindable int_type int_faults negative_faults typed_literal_faults number_asked negative_type asked_of root_standing part_of selected placed is_fixed part_faults root_faults selector_faults whole_faults target_faults too_many_selectors callee conversion_named block_parameters call_type call_without_result call_matches callee_faults value_unsuited output_unsuited asked_by matched_type is_on_super operands_unsuited unsuited_line operand_unsuited operand_asked front_asked given_unsuited called_root_faults
few_arguments = refl

right_arguments : least (faults here Anything (tree.Call 1 (root.Name 1 (codes "F")) tree.no_selectors (tree.argument_then (tree.Positional (int (codes "1"))) (tree.argument_then (tree.Positional (bare (codes "X"))) tree.no_arguments)))) ≡ None
unfolding here names class simple member int bare dotted sought type_qualifier dot_qualifier instance_variable is_text_under chain lookup common_kind operation_type unary_type is_assignable is_bindable int_type int_faults negative_faults typed_literal_faults number_asked negative_type asked_of root_standing part_of selected placed is_fixed part_faults root_faults selector_faults whole_faults target_faults too_many_selectors callee conversion_named block_parameters call_type call_without_result call_matches callee_faults value_unsuited output_unsuited asked_by matched_type is_on_super operands_unsuited unsuited_line operand_unsuited operand_asked front_asked given_unsuited called_root_faults
right_arguments = simp same_int refl

-- an in-out takes no widened type
widened_in_out : least (faults here Anything (tree.Call 1 (root.Name 1 (codes "F")) tree.no_selectors (tree.argument_then (tree.Positional (int (codes "1"))) (tree.argument_then (tree.Positional (bare (codes "U"))) tree.no_arguments)))) ≡ Some (E07, 1)
unfolding here names class simple member int bare dotted sought type_qualifier dot_qualifier instance_variable is_text_under chain lookup common_kind operation_type unary_type is_assignable is_bindable int_type int_faults negative_faults typed_literal_faults number_asked negative_type asked_of root_standing part_of selected placed is_fixed part_faults root_faults selector_faults whole_faults target_faults too_many_selectors callee conversion_named block_parameters call_type call_without_result call_matches callee_faults value_unsuited output_unsuited asked_by matched_type is_on_super operands_unsuited unsuited_line operand_unsuited operand_asked front_asked given_unsuited called_root_faults
widened_in_out = simp (usint_no_int, same_int) refl

-- INT_TO_USINT(5) is USINT; a block called as a value
conversion : type_of here Anything (tree.Call 1 (root.Name 1 (codes "INT_TO_USINT")) tree.no_selectors (tree.argument_then (tree.Positional (int (codes "5"))) tree.no_arguments)) ≡ Some (Elementary elem.Usint)
unfolding here names class simple member int bare dotted sought type_qualifier dot_qualifier instance_variable is_text_under chain lookup common_kind operation_type unary_type is_assignable is_bindable int_type int_faults negative_faults typed_literal_faults number_asked negative_type asked_of root_standing part_of selected placed is_fixed part_faults root_faults selector_faults whole_faults target_faults too_many_selectors callee conversion_named block_parameters call_type call_without_result call_matches callee_faults value_unsuited output_unsuited asked_by matched_type is_on_super operands_unsuited unsuited_line operand_unsuited operand_asked front_asked given_unsuited called_root_faults
conversion = refl

block_as_value : least (faults here Anything (tree.Call 1 (root.Name 1 (codes "K1")) tree.no_selectors tree.no_arguments)) ≡ Some (E07, 1)
unfolding here names class simple member int bare dotted sought type_qualifier dot_qualifier instance_variable is_text_under chain lookup common_kind operation_type unary_type is_assignable is_bindable int_type int_faults negative_faults typed_literal_faults number_asked negative_type asked_of root_standing part_of selected placed is_fixed part_faults root_faults selector_faults whole_faults target_faults too_many_selectors callee conversion_named block_parameters call_type call_without_result call_matches callee_faults value_unsuited output_unsuited asked_by matched_type is_on_super operands_unsuited unsuited_line operand_unsuited operand_asked front_asked given_unsuited called_root_faults
block_as_value = refl
