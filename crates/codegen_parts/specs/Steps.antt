-- One argument of a call after the other.
use Rattle.std.specs.Prelude.{ℕ, suc, ◌+◌, Bool, true, false, if◌then◌else◌, List, [], ◌∷◌, ◌++◌, Option, None, slice_get}
use Rattle.st_types.specs.declared.st_type.StType.{StType}
use Rattle.st_tree.specs.declared.program.Note.{Note}
use Rattle.st_tree.specs.Expression.{Argument, Positional, Input, Output}
use Rattle.st_values.specs.Program.{Parameter}
use Rattle.st_values.specs.Initial.{note_of}
use Rattle.st_meaning.specs.Call.{Callee, a_body, from_class, is_in_out, number_to, parameter_number, parameter_named, next_parameter, behind_next}
use Rattle.st_meaning.specs.Place.{root_note}
use Rattle.st_meaning.specs.st_frame.Promise.Calls.{next_number}
use Rattle.st_meaning.specs.st_frame.Use.{last_kind}
use Rattle.stack_code.specs.declared.op.Op.TheVariants as op
use Rattle.code_cells.specs.declared.cell.Cell.{Cell}
use Rattle.code_cells.specs.declared.cell.Cell.TheVariants.{Does as does}
use Rattle.code_rules.specs.Places.{of_parameter, of_own, room_of}
use Rattle.code_rules.specs.Plan.{Plan}
use Rattle.code_rules.specs.Code.{bound_code, keep_code, large_code, local_code, output_code, passed_code, passed_room, place_code, value_code, widened_code}

-- ---- an argument without a name takes the next parameter of those that are left

abbrev pub argument_number : ℕ → List Parameter → Argument Note → ℕ
argument_number i left (Positional e) = next_number i left
argument_number i left (Input a name e) = parameter_number a.target
argument_number i left (Output a name b r ss) = parameter_number a.target

abbrev pub number_behind : ℕ → List Parameter → Argument Note → ℕ
number_behind i left (Positional e) = suc (next_number i left)
number_behind i left _ = i

abbrev pub left_behind : List Parameter → Argument Note → List Parameter
left_behind left (Positional e) = behind_next left
left_behind left _ = left

-- the parameter to which a value or a place is given
abbrev pub argument_parameter : List Parameter → List Parameter → Argument Note → Option Parameter
argument_parameter ps left (Positional e) = next_parameter left
argument_parameter ps left (Input a name e) = parameter_named ps a
argument_parameter ps left (Output a name b r ss) = None

-- SUPER() gives no arguments
abbrev pub is_base_body : Callee → Bool
is_base_body (a_body (from_class d)) = true
is_base_body c = false

module _ (w : Plan) where
  -- what is free behind an argument
  abbrev pub free_behind : ℕ → List Parameter → List Parameter → Argument Note → ℕ
  free_behind free ps left (Positional e) = free + passed_room w (next_parameter left) (note_of e).kind
  free_behind free ps left (Input a name e) = free + passed_room w (parameter_named ps a) (note_of e).kind
  free_behind free ps left (Output a name b r ss) = free

  -- what is free behind the room of an output
  abbrev pub room_behind : ℕ → Argument Note → ℕ
  room_behind free (Output a name b r ss) = free + room_of w.size_of (last_kind (root_note r).kind ss)
  room_behind free _ = free

-- where a large output comes to
abbrev pub room_code : ℕ → ℕ → ℕ → Argument Note → List Cell
room_code line block free (Output a name b r ss) = large_code line (block + of_parameter (parameter_number a.target)) free (last_kind (root_note r).kind ss)
room_code line block free _ = []

module _ (w : Plan) (line : ℕ) where
  abbrev pub argument_code : ℕ → ℕ → List Parameter → ℕ → List Parameter → Argument Note → List Cell
  argument_code block free ps i left (Positional e) = passed_code line (next_parameter left) (block + of_parameter (next_number i left)) (note_of e).kind (value_code w line free e) (bound_code w line free e)
  argument_code block free ps i left (Input a name e) = passed_code line (parameter_named ps a) (block + of_parameter (parameter_number a.target)) (note_of e).kind (value_code w line free e) (bound_code w line free e)
  argument_code block free ps i left (Output a name b r ss) = []

  -- an in-out of the body that runs
  abbrev pub one_same_code : ℕ → ℕ → Parameter → List Cell
  one_same_code block i q = if is_in_out q.sort then local_code line (slice_get w.locals (number_to q.to)) ++ (does (op.Local (block + of_parameter i)) line ∷ (does op.StoreRef line ∷ [])) else []

  -- an output of a block, from its instance
  abbrev pub member_code : ℕ → ℕ → ℕ → StType → StType → List Cell
  member_code own free k t whole = does (op.Local own) line ∷ (does op.LoadRef line ∷ (does (op.Offset (w.field_of whole k)) line ∷ widened_code w line free t (w.kind_of whole k)))

  abbrev pub one_output_code : ℕ → ℕ → List Parameter → StType → Argument Note → List Cell
  one_output_code block free ps whole (Output a name b r ss) =
      let t = last_kind (root_note r).kind ss in
      output_code w line (parameter_named ps a) (block + of_parameter (parameter_number a.target)) (block + of_own) free t whole
      ++ (place_code w line (free + room_of w.size_of t) r ss ++ keep_code w line t)
  one_output_code block free ps whole _ = []
