-- Indices and arguments that are still to come.
use Rattle.std.specs.Prelude.{◌≡◌, ℕ, false, List, [], ◌∷◌, ◌++◌, map, Option}
use Rattle.plc_text.specs.declared.code.Code.{Code}
use Rattle.st_tree.specs.declared.program.Note.{Note}
use Rattle.st_tree.specs.declared.program.Target.TheVariants.{Nothing}
use Rattle.st_tree.specs.Expression.{Expression, Expressions, expression_then, expression_of, expressions_of, Argument, Positional, Input, Output, Arguments, argument_then, argument_of}
use Rattle.st_rules.specs.Faults.{Faults, least, earlier}
use Rattle.st_rules.specs.Scope.{Scope}
use Rattle.st_rules.specs.Places.{root_faults, root_line, root_standing, whole_faults, target_faults, place_type}
use Rattle.st_rules.specs.Calls.{Matched, asked_by, matched_type, output_unsuited}
use Rattle.st_rules.specs.Expressions.{note, matched_target, index_faults, type_of, faults, given_unsuited, along_faults, argument_faults, typed, typed_root, typed_along, typed_indices, typed_arguments}
use Rattle.check_nodes.specs.declared.lists.Indices.{Indices}
use Rattle.check_nodes.specs.declared.lists.Arguments.{Arguments as SoFar}
use Rattle.check_nodes.specs.declared.lists.CheckedArgument.{CheckedArgument}

-- ---- indices

abbrev pub expressions_onto : List (Expression Note) → Expressions Note → Expressions Note
expressions_onto [] rest = rest
expressions_onto (x ∷ xs) rest = expression_then x (expressions_onto xs rest)

-- what indices give with all that are still to come: the least rule that is broken, and the typed trees
unfoldable pub index_rest : Scope → Indices → Expressions ℕ → Option (Code × ℕ) × Expressions Note
index_rest s x es = ((earlier x.least (least (index_faults s es))), (expressions_onto (map expression_of x.expressions) (typed_indices s es)))

pub record IndicesFind (x : Indices) (s : Scope) (es : Expressions ℕ) : Type 0 where
  pub broken : x.least ≡ least (index_faults s es)
  pub tree : expressions_of x.expressions ≡ typed_indices s es

-- ---- arguments

-- what one argument breaks that is for this parameter
abbrev pub one_argument : Scope → Matched → Argument ℕ → Faults
one_argument s m (Positional e) = faults s (asked_by m) e ++ given_unsuited s m e (type_of s (asked_by m) e)
one_argument s m (Input l name e) = faults s (asked_by m) e ++ given_unsuited s m e (type_of s (asked_by m) e)
one_argument s m (Output l name k r ss) =
    root_faults s false r ss
    ++ along_faults s (root_line r) false (root_standing s r ss) ss
    ++ whole_faults s r ss
    ++ target_faults s r ss
    ++ output_unsuited s (root_line r) (matched_type m) (place_type s r ss)

-- its typed tree
abbrev pub one_typed : Scope → Matched → Argument ℕ → Argument Note
one_typed s m (Positional e) = Positional (typed s (asked_by m) e)
one_typed s m (Input l name e) = Input (note l (matched_type m) (matched_target m)) name (typed s (asked_by m) e)
one_typed s m (Output l name k r ss) =
    Output (note l (matched_type m) (matched_target m)) name (note k (place_type s r ss) Nothing) (typed_root s false r ss) (typed_along s false (root_standing s r ss) ss)

-- what the walk finds out about one argument
pub record ArgumentFinds (c : CheckedArgument) (s : Scope) (m : Matched) (x : Argument ℕ) : Type 0 where
  pub broken : c.least ≡ least (one_argument s m x)
  pub tree : argument_of c.argument ≡ one_typed s m x

abbrev pub arguments_onto : List (Argument Note) → Arguments Note → Arguments Note
arguments_onto [] rest = rest
arguments_onto (x ∷ xs) rest = argument_then x (arguments_onto xs rest)

-- what arguments give with all that are still to come
unfoldable pub argument_rest : Scope → SoFar → List Matched → Arguments ℕ → Option (Code × ℕ) × Arguments Note
argument_rest s x ms xs = ((earlier x.least (least (argument_faults s ms xs))), (arguments_onto (map argument_of x.arguments) (typed_arguments s ms xs)))
