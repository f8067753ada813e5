-- The arms of an expression: what a step gave, and what the expression then gives.
use Rattle.std.proofs.Common.{◌≡◌, ℕ, ℤ, pos, List, Option, Result, Err, refl, sym, ap, ◌∙◌, subst}
use Rattle.plc_text.specs.declared.fault.FaultKind.TheVariants as fault
use Rattle.plc_num.specs.Arithmetic.{difference}
use Rattle.plc_num.specs.Bits.{complement}
use Rattle.st_tree.specs.declared.expression.Argument.{Argument as CodeArgument}
use Rattle.st_tree.specs.declared.expression.Argument.TheVariants as argument
use Rattle.st_tree.specs.declared.expression.Expr.{Expr}
use Rattle.st_tree.specs.declared.expression.Expr.TheVariants as code
use Rattle.st_tree.specs.declared.expression.Place.{Place as CodePlace}
use Rattle.st_tree.specs.declared.expression.Tail.{Tail}
use Rattle.st_tree.specs.declared.path.Path.{Path}
use Rattle.st_tree.specs.declared.program.Note.{Note}
use Rattle.st_tree.specs.Expression as tree
use Rattle.st_tree.specs.Expression.{Expression, expression_of, expression_of-Paren, expression_of-Not, expression_of-Negate, expression_of-Chain, expression_of-Ref, argument_of, argument_of-Output, place_of, tails_of}
use Rattle.st_values.specs.Program.{Parameter, Program}
use Rattle.st_values.specs.Value.{Value, number, reference}
use Rattle.st_meaning.specs.State.{Spot, Frame, State, Outcome, Done, Fault, go_on, path_of, write}
use Rattle.st_meaning.specs.Operation.{number_in, elem_of}
use Rattle.st_meaning.specs.Call.{Enter, parameter_named}
use Rattle.st_meaning.specs.Expression.{value, place, chained, bound_place, output_of}
use Rattle.run_state.specs.declared.state.Spot.{Spot as CodeSpot}
use Rattle.run_state.specs.declared.state.Stop.{Stop}
use Rattle.run_state.specs.declared.state.Stop.TheVariants as stop
use Rattle.run_state.specs.State.{Agrees, Shows, spot_of}
use Rattle.value_trees.specs.declared.value.Value.{Value as CodeValue}
use Rattle.value_trees.specs.Value.{value_of}
use Rattle.reference_values.specs.Called.{written}
use Rattle.reference_values.specs.Private.Parts.{one_output}
use Rattle.reference_values.proofs.LoopSteps.{stopped}

module _ (p : Program) (enter : Enter) (line : ℕ) (s : State) where
  abbrev whole : Expr Note → Outcome Value
  whole e = value p enter (expression_of e) line s

  seen : (e y : Expr Note) (x : Expression Note) → e ≡ y → expression_of y ≡ x → whole e ≡ value p enter x line s
  seen e y x h k = ap whole h ∙ ap (λ z. value p enter z line s) k

  -- what gives a value at once
  pub leaf : (e y : Expr Note) (x : Expression Note) (w : Value) (v : CodeValue) → e ≡ y → expression_of y ≡ x → value p enter x line s ≡ Done w s → value_of v ≡ w → whole e ≡ Done (value_of v) s
  leaf e y x w v h k d is = seen e y x h k ∙ d ∙ ap (λ z. Done z s) (sym is)

  pub paren_shows : (e inner got : Expr Note) (a : Note) (r : Result CodeValue Stop) (t : State) → e ≡ code.Paren a inner → got ≡ inner → Shows value_of r (whole got) t → Shows value_of r (whole e) t
  paren_shows e inner got a r t h g shown =
      subst (λ (o : Outcome Value). Shows value_of r o t) (sym (seen e (code.Paren a inner) (tree.Paren a (expression_of got)) h (expression_of-Paren a inner ∙ ap (λ z. tree.Paren a (expression_of z)) (sym g)))) shown

  module _ (e inner got : Expr Note) (a : Note) (g : got ≡ inner) where
    abbrev complements : Value → State → Outcome Value
    complements x u = Done (number (complement (elem_of a.kind) (number_in x))) u

    not_is : e ≡ code.Not a inner → whole e ≡ go_on (whole got) complements
    not_is h = seen e (code.Not a inner) (tree.Not a (expression_of got)) h (expression_of-Not a inner ∙ ap (λ z. tree.Not a (expression_of z)) (sym g))

    pub not_ends : (v r : CodeValue) (t : State) → e ≡ code.Not a inner → whole got ≡ Done (value_of v) t → value_of r ≡ number (complement (elem_of a.kind) (number_in (value_of v))) → whole e ≡ Done (value_of r) t
    not_ends v r t h ran is = not_is h ∙ ap (λ o. go_on o complements) ran ∙ ap (λ z. Done z t) (sym is)

    pub not_stops : (x : Stop) (t : State) → e ≡ code.Not a inner → Shows value_of (Err x) (whole got) t → Shows value_of (Err x) (whole e) t
    not_stops x t h shown = stopped value_of value_of x (whole got) complements (whole e) (whole e) t (not_is h) refl shown

    abbrev turns : Value → State → Outcome Value
    turns x u = Done (number (difference (elem_of a.kind) (pos 0) (number_in x))) u

    negate_is : e ≡ code.Negate a inner → whole e ≡ go_on (whole got) turns
    negate_is h = seen e (code.Negate a inner) (tree.Negate a (expression_of got)) h (expression_of-Negate a inner ∙ ap (λ z. tree.Negate a (expression_of z)) (sym g))

    pub negate_ends : (v r : CodeValue) (t : State) → e ≡ code.Negate a inner → whole got ≡ Done (value_of v) t → value_of r ≡ number (difference (elem_of a.kind) (pos 0) (number_in (value_of v))) → whole e ≡ Done (value_of r) t
    negate_ends v r t h ran is = negate_is h ∙ ap (λ o. go_on o turns) ran ∙ ap (λ z. Done z t) (sym is)

    pub negate_stops : (x : Stop) (t : State) → e ≡ code.Negate a inner → Shows value_of (Err x) (whole got) t → Shows value_of (Err x) (whole e) t
    negate_stops x t h shown = stopped value_of value_of x (whole got) turns (whole e) (whole e) t (negate_is h) refl shown

    module _ (ts xs : List (Tail Note)) (same : xs ≡ ts) where
      abbrev chains : Value → State → Outcome Value
      chains x u = chained p enter x (tails_of xs) line u

      chain_is : e ≡ code.Chain a inner ts → whole e ≡ go_on (whole got) chains
      chain_is h = seen e (code.Chain a inner ts) (tree.Chain a (expression_of got) (tails_of xs)) h (expression_of-Chain a inner ts ∙ ap (λ z. tree.Chain a (expression_of z) (tails_of ts)) (sym g) ∙ ap (λ z. tree.Chain a (expression_of got) (tails_of z)) (sym same))

      pub chain_shows : (v : CodeValue) (t : State) (r : Result CodeValue Stop) (u : State) → e ≡ code.Chain a inner ts → whole got ≡ Done (value_of v) t → Shows value_of r (chained p enter (value_of v) (tails_of xs) line t) u → Shows value_of r (whole e) u
      chain_shows v t r u h ran shown = subst (λ (o : Outcome Value). Shows value_of r o u) (sym (chain_is h ∙ ap (λ o. go_on o chains) ran)) shown

      pub chain_stops : (x : Stop) (t : State) → e ≡ code.Chain a inner ts → Shows value_of (Err x) (whole got) t → Shows value_of (Err x) (whole e) t
      chain_stops x t h shown = stopped value_of value_of x (whole got) chains (whole e) (whole e) t (chain_is h) refl shown

  -- REF
  module _ (e : Expr Note) (a : Note) (q : CodePlace Note) (h : e ≡ code.Ref a q) where
    abbrev refers : Spot → State → Outcome Value
    refers x u = Done (reference (path_of x)) u

    ref_is : whole e ≡ go_on (place p enter (place_of q).0 (place_of q).1 line s) refers
    ref_is = seen e (code.Ref a q) (tree.Ref a (place_of q).0 (place_of q).1) h (expression_of-Ref a q)

    pub ref_ends : (x : CodeSpot) (r : CodeValue) (t : State) → place p enter (place_of q).0 (place_of q).1 line s ≡ Done (spot_of x) t → value_of r ≡ reference (path_of (spot_of x)) → whole e ≡ Done (value_of r) t
    ref_ends x r t ran is = ref_is ∙ ap (λ o. go_on o refers) ran ∙ ap (λ z. Done z t) (sym is)

    pub ref_stops : (x : Stop) (t : State) → Shows spot_of (Err x) (place p enter (place_of q).0 (place_of q).1 line s) t → Shows value_of (Err x) (whole e) t
    ref_stops x t shown = stopped spot_of value_of x (place p enter (place_of q).0 (place_of q).1 line s) refers (whole e) (whole e) t ref_is refl shown

  -- what is no place
  pub unplaced : (e y : Expr Note) (x : Expression Note) (r : Stop) (t : State) → e ≡ y → expression_of y ≡ x → bound_place p enter x line s ≡ Fault fault.Null line → r ≡ stop.Fault (record { kind = fault.Null; line = line })
      → Shows spot_of (Err r) (bound_place p enter (expression_of e) line s) t
  unplaced e y x r t h k d is =
      subst (λ (q : Stop). Shows spot_of (Err q) (bound_place p enter (expression_of e) line s) t) (sym is) (ap (λ z. bound_place p enter (expression_of z) line s) h ∙ ap (λ z. bound_place p enter z line s) k ∙ d)

  -- an output was read, and is written
  abbrev writes : CodePlace Note → Value → State → Outcome (Unit {0})
  writes q v u = go_on (place p enter (place_of q).0 (place_of q).1 line u) (λ spot. write spot v line)

  pub output_agrees : (ps : List Parameter) (own : Option Path) (f : Frame) (x : CodeArgument Note) (a b : Note) (n : List ℕ) (q : CodePlace Note) (named : Option Parameter) (v : Value) (r : Result (Unit {0}) Stop) (t : State) → x ≡ argument.Output a n b q
      → named ≡ parameter_named ps a → output_of named own f line s ≡ Done v s → Agrees r (written (place p enter (place_of q).0 (place_of q).1) v line s) t → Agrees r (one_output p enter ps own f (argument_of x) line s) t
  output_agrees ps own f x a b n q named v r t h k ran wrote =
      subst (λ (o : Outcome (Unit {0})). Agrees r o t) (sym (
      ap (λ y. one_output p enter ps own f y line s) (ap argument_of h ∙ argument_of-Output a n b q)
      ∙ ap (λ m. go_on (output_of m own f line s) (writes q)) (sym k)
      ∙ ap (λ o. go_on o (writes q)) ran)) wrote
