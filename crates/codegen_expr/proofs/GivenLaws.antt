-- One argument or output of a call, by what is known of its parts.
use Rattle.std.proofs.Common.{◌≡◌, ℕ, ◌+◌, true, false, List, ◌∷◌, [], ◌++◌, Option, Some, option_map, sym, ap, ◌∙◌}
use Rattle.stack_code.specs.declared.op.Op.TheVariants as op
use Rattle.st_types.specs.declared.st_type.StType.{StType}
use Rattle.st_tree.specs.declared.expression.Argument.{Argument as CodeArgument}
use Rattle.st_tree.specs.declared.expression.Argument.TheVariants as argument
use Rattle.st_tree.specs.declared.expression.Expr.{Expr}
use Rattle.st_tree.specs.declared.expression.Place.{Place as CodePlace}
use Rattle.st_tree.specs.declared.expression.Selector.{Selector as CodeSelector}
use Rattle.st_tree.specs.declared.program.Note.{Note}
use Rattle.st_tree.specs.Expression.{Positional, Input, Output, argument_of, argument_of-Positional, argument_of-Input, argument_of-Output, expression_of, place_of, place_of-is, selectors_of}
use Rattle.st_values.specs.Program.{Parameter}
use Rattle.st_values.specs.Initial.{note_of}
use Rattle.st_meaning.specs.Call.{is_in_out, next_parameter, parameter_named, parameter_number}
use Rattle.st_meaning.specs.Place.{root_note}
use Rattle.st_meaning.specs.st_frame.Promise.Calls.{next_number}
use Rattle.st_meaning.specs.st_frame.Use.{last_kind}
use Rattle.routine_tables.specs.declared.parameters.Parameter.{Parameter as CodeParameter}
use Rattle.routine_tables.specs.Parameters.{parameter_of}
use Rattle.code_cells.specs.declared.cell.Cell.{Cell}
use Rattle.code_cells.specs.declared.cell.Cell.TheVariants.{Does as does}
use Rattle.code_rules.specs.Places.{of_own, of_parameter, room_of}
use Rattle.code_rules.specs.Plan.{Plan}
use Rattle.code_rules.specs.Code.{bound_code, give_code, keep_code, output_code, passed_code, place_code, value_code}
use Rattle.codegen_parts.specs.Steps.{argument_code, argument_number, one_output_code}
use Rattle.codegen_parts.proofs.CodeLaws.{two}
use Rattle.codegen_expr.proofs.CallLaws.{bound_passed, value_passed}

module _ (w : Plan) (line : ℕ) where
  -- ---- a value or a place

  pub bound_given : (o : Option CodeParameter) (q : CodeParameter) (at : ℕ) (t : StType) (value place old mid new : List Cell) → o ≡ Some q → is_in_out q.sort ≡ true → mid ≡ old ++ place
      → new ≡ mid ++ (does (op.Local at) line ∷ (does op.StoreRef line ∷ [])) → new ≡ old ++ passed_code line (option_map parameter_of o) at t value place
  bound_given o q at t value place old mid new d e m k =
      bound_passed w line (parameter_of q) at t value place old mid new e m k ∙ ap (λ y. old ++ passed_code line (option_map parameter_of y) at t value place) (sym d)

  pub value_given : (o : Option CodeParameter) (q : CodeParameter) (at : ℕ) (kind t : StType) (value place old mid new : List Cell) → o ≡ Some q → is_in_out q.sort ≡ false → kind ≡ t → mid ≡ old ++ value
      → new ≡ mid ++ give_code line at kind → new ≡ old ++ passed_code line (option_map parameter_of o) at t value place
  value_given o q at kind t value place old mid new d e i m k =
      value_passed w line (parameter_of q) at t value place old mid new e m (k ∙ ap (λ y. mid ++ give_code line at y) i) ∙ ap (λ y. old ++ passed_code line (option_map parameter_of y) at t value place) (sym d)

  -- ---- an argument

  pub positional_given : (block free : ℕ) (ps : List Parameter) (i : ℕ) (left : List Parameter) (x : CodeArgument Note) (v : Expr Note) (o : Option Parameter) (number at : ℕ) (old new : List Cell) → x ≡ argument.Positional v
      → number ≡ argument_number i left (argument_of x) → at ≡ block + of_parameter number → o ≡ next_parameter left
      → new ≡ old ++ passed_code line o at (note_of (expression_of v)).kind (value_code w line free (expression_of v)) (bound_code w line free (expression_of v))
      → new ≡ old ++ argument_code w line block free ps i left (argument_of x)
  positional_given block free ps i left x v o number at old new q n a p h =
      let e = expression_of v in
      let is : argument_of x ≡ Positional e = ap argument_of q ∙ argument_of-Positional v in
      let at_is : at ≡ block + of_parameter (next_number i left) = a ∙ ap (λ k. block + of_parameter k) (n ∙ ap (argument_number i left) is) in
      h ∙ ap (λ y. old ++ passed_code line y at (note_of e).kind (value_code w line free e) (bound_code w line free e)) p
      ∙ ap (λ y. old ++ passed_code line (next_parameter left) y (note_of e).kind (value_code w line free e) (bound_code w line free e)) at_is
      ∙ ap (λ y. old ++ argument_code w line block free ps i left y) (sym is)

  pub named_given : (block free : ℕ) (ps : List Parameter) (i : ℕ) (left : List Parameter) (x : CodeArgument Note) (a : Note) (name : List ℕ) (v : Expr Note) (o : Option Parameter) (number at : ℕ) (old new : List Cell) → x ≡ argument.Input a name v
      → number ≡ argument_number i left (argument_of x) → at ≡ block + of_parameter number → o ≡ parameter_named ps a
      → new ≡ old ++ passed_code line o at (note_of (expression_of v)).kind (value_code w line free (expression_of v)) (bound_code w line free (expression_of v))
      → new ≡ old ++ argument_code w line block free ps i left (argument_of x)
  named_given block free ps i left x a name v o number at old new q n b p h =
      let e = expression_of v in
      let is : argument_of x ≡ Input a name e = ap argument_of q ∙ argument_of-Input a name v in
      let at_is : at ≡ block + of_parameter (parameter_number a.target) = b ∙ ap (λ k. block + of_parameter k) (n ∙ ap (argument_number i left) is) in
      h ∙ ap (λ y. old ++ passed_code line y at (note_of e).kind (value_code w line free e) (bound_code w line free e)) p
      ∙ ap (λ y. old ++ passed_code line (parameter_named ps a) y (note_of e).kind (value_code w line free e) (bound_code w line free e)) at_is
      ∙ ap (λ y. old ++ argument_code w line block free ps i left y) (sym is)

  -- ---- an output

  pub output_taken : (block free room next : ℕ) (ps : List Parameter) (whole : StType) (x : CodeArgument Note) (a : Note) (name : List ℕ) (b : Note) (q : CodePlace Note) (ss : List (CodeSelector Note)) (n : Note) (t : StType) (c0 c1 c2 c3 : List Cell)
      → x ≡ argument.Output a name b q → n ≡ root_note q.root → ss ≡ q.selectors → t ≡ last_kind n.kind (selectors_of ss) → room ≡ room_of w.size_of t → next ≡ free + room
      → c1 ≡ c0 ++ output_code w line (parameter_named ps a) (block + of_parameter (parameter_number a.target)) (block + of_own) free t whole → c2 ≡ c1 ++ place_code w line next (place_of q).0 (place_of q).1 → c3 ≡ c2 ++ keep_code w line t
      → c3 ≡ c0 ++ one_output_code w line block free ps whole (argument_of x)
  output_taken block free room next ps whole x a name b q ss n t c0 c1 c2 c3 d r s k m f h1 h2 h3 =
      let last : StType = last_kind (root_note (place_of q).0).kind (place_of q).1 in
      let out : StType → List Cell = λ y. output_code w line (parameter_named ps a) (block + of_parameter (parameter_number a.target)) (block + of_own) free y whole in
      let place : ℕ → List Cell = λ y. place_code w line y (place_of q).0 (place_of q).1 in
      let kind_is : t ≡ last =
      k ∙ ap (λ y. last_kind y.kind (selectors_of ss)) r ∙ ap (λ y. last_kind (root_note q.root).kind (selectors_of y)) s ∙ ap (λ y. last_kind (root_note y.0).kind y.1) (sym (place_of-is q)) in
      let next_is : next ≡ free + room_of w.size_of last = f ∙ ap (λ y. free + y) (m ∙ ap (room_of w.size_of) kind_is) in
      two c0 c1 c3 (out t) (place next ++ keep_code w line t) h1 (two c1 c2 c3 (place next) (keep_code w line t) h2 h3)
      ∙ ap (λ y. c0 ++ (out t ++ (place y ++ keep_code w line t))) next_is
      ∙ ap (λ y. c0 ++ (out y ++ (place (free + room_of w.size_of last) ++ keep_code w line y))) kind_is
      ∙ ap (λ y. c0 ++ one_output_code w line block free ps whole y) (sym (ap argument_of d ∙ argument_of-Output a name b q))
