-- Loops over lists of the tree: what is left begins with the next part.
use Rattle.std.proofs.Common.{◌≡◌, ℕ, ◌+◌, ◌<◌, ◌≤◌, List, [], Option, Result, Err, sym, ap, ◌∙◌, subst, append-nil, map, option_map, drop, get_or, length}
use Rattle.st_types.specs.declared.st_type.StType.{StType}
use Rattle.st_tree.specs.declared.expression.Argument.{Argument as CodeArgument}
use Rattle.st_tree.specs.declared.expression.Expr.{Expr}
use Rattle.st_tree.specs.declared.expression.Selector.{Selector as CodeSelector}
use Rattle.st_tree.specs.declared.expression.Tail.{Tail}
use Rattle.st_tree.specs.declared.path.Path.{Path}
use Rattle.st_tree.specs.declared.program.Note.{Note}
use Rattle.st_tree.specs.Expression.{Expression, expression_of, expressions_of, selector_of, selectors_of, argument_of, arguments_of, tails_of}
use Rattle.st_rules.proofs.ListLaws.{drop-at, drop-end}
use Rattle.st_values.specs.Program.{Parameter, Program}
use Rattle.st_values.specs.Value.{Value}
use Rattle.st_meaning.specs.State.{Spot, Frame, State, Outcome, Done, go_on}
use Rattle.st_meaning.specs.Place.{element_kind}
use Rattle.st_meaning.specs.Call.{Given, Enter}
use Rattle.call_frames.specs.declared.slots.Given.{Given as CodeGiven}
use Rattle.call_frames.specs.Opening.{given_of}
use Rattle.st_meaning.specs.Expression.{selector_note, value, along, selected, indexed, chained, operated, arguments, outputs}
use Rattle.run_state.specs.declared.state.Stop.{Stop}
use Rattle.run_state.specs.declared.state.Stop.TheVariants as stop
use Rattle.run_state.specs.State.{Agrees, Shows}
use Rattle.value_trees.specs.declared.value.Value.{Value as CodeValue}
use Rattle.value_trees.specs.Value.{value_of}
use Rattle.reference_values.specs.Private.Parts.{one_element, added, left_behind, one_argument, one_output}
use Rattle.reference_values.proofs.ArgumentLaws.{behind, indexed_first, arguments_first, arguments_next, outputs_first}
use Rattle.reference_values.proofs.ListLaws.{tails_next}

-- what begins with a step goes on behind it
pub next : {A B : Type 0} (o : Outcome A) (k : A → State → Outcome B) (here w : Outcome B) (a : A) (t : State) → here ≡ go_on o k → o ≡ Done a t → here ≡ w → k a t ≡ w
next o k here w a t h e p = sym (h ∙ ap (λ x. go_on x k) e) ∙ p

-- where the step stops, the whole does
pub stopped : {C D A B : Type 0} (view : C → A) (view' : D → B) (x : Stop) (o : Outcome A) (k : A → State → Outcome B) (here w : Outcome B) (t : State) → here ≡ go_on o k → here ≡ w → Shows view (Err x) o t → Shows view' (Err x) w t
stopped view view' (stop.Fault f) o k here w t h p e = sym p ∙ h ∙ ap (λ x. go_on x k) e
stopped view view' stop.NoMemory o k here w t h p e = tt

module _ (p : Program) (enter : Enter) (line : ℕ) (s : State) (i : ℕ) where
  pub along_at : (ss : List (CodeSelector Note)) (x : CodeSelector Note) (t : StType) (spot : Spot) → i < length ss → x ≡ get_or ss i x →
      along p enter (selectors_of (drop i ss)) t spot line s ≡ go_on (selected p enter (selector_of x) t spot line s) (λ part u. along p enter (selectors_of (drop (i + 1) ss)) (selector_note (selector_of x)).kind part line u)
  along_at ss x t spot l e = ap (λ us. along p enter (selectors_of us) t spot line s) (drop-at ss i x l e)

  pub chained_at : (ts : List (Tail Note)) (x : Tail Note) (v : Value) → i < length ts → x ≡ get_or ts i x →
      chained p enter v (tails_of (drop i ts)) line s ≡ go_on (operated x.operator x.note.kind v (value p enter (expression_of x.operand)) line s) (λ w u. chained p enter w (tails_of (drop (i + 1) ts)) line u)
  chained_at ts x v l e = ap (λ us. chained p enter v us line s) (tails_next ts i x l e)

  pub indexed_at : (es : List (Expr Note)) (x : Expr Note) (t : StType) (spot : Spot) → i < length es → x ≡ get_or es i x →
      indexed p enter (expressions_of (drop i es)) t spot line s ≡ go_on (one_element p enter (expression_of x) t spot line s) (λ part u. indexed p enter (expressions_of (drop (i + 1) es)) (element_kind t) part line u)
  indexed_at es x t spot l e = ap (λ us. indexed p enter (expressions_of us) t spot line s) (drop-at es i x l e) ∙ indexed_first p enter line s (expression_of x) (expressions_of (drop (i + 1) es)) t spot

  pub arguments_at : (xs : List (CodeArgument Note)) (x : CodeArgument Note) (ps left : List Parameter) → i < length xs → x ≡ get_or xs i x →
      arguments p enter ps left (arguments_of (drop i xs)) line s ≡ go_on (one_argument p enter ps left (argument_of x) line s) (λ one u. behind (added [] one) (arguments p enter ps (left_behind (argument_of x) left) (arguments_of (drop (i + 1) xs)) line u))
  arguments_at xs x ps left l e = ap (λ us. arguments p enter ps left (arguments_of us) line s) (drop-at xs i x l e) ∙ arguments_first p enter line s ps left (argument_of x) (arguments_of (drop (i + 1) xs))

  pub outputs_at : (xs : List (CodeArgument Note)) (x : CodeArgument Note) (ps : List Parameter) (own : Option Path) (f : Frame) → i < length xs → x ≡ get_or xs i x →
      outputs p enter ps own f (arguments_of (drop i xs)) line s ≡ go_on (one_output p enter ps own f (argument_of x) line s) (λ a u. outputs p enter ps own f (arguments_of (drop (i + 1) xs)) line u)
  outputs_at xs x ps own f l e = ap (λ us. outputs p enter ps own f (arguments_of us) line s) (drop-at xs i x l e) ∙ outputs_first p enter line s ps own f (argument_of x) (arguments_of (drop (i + 1) xs))

-- a tree under another name
pub value_seen : (p : Program) (enter : Enter) (line : ℕ) (s t : State) (r : Result CodeValue Stop) (e x : Expression Note) → e ≡ x → Shows value_of r (value p enter x line s) t → Shows value_of r (value p enter e line s) t
value_seen p enter line s t r e x h f = subst (λ (y : Expression Note). Shows value_of r (value p enter y line s) t) (sym h) f

pub halted : {A B : Type 0} (x : Stop) (o : Outcome A) (k : A → State → Outcome B) (here w : Outcome B) (t : State) → here ≡ go_on o k → here ≡ w → Agrees {A = A} (Err x) o t → Agrees {A = B} (Err x) w t
halted (stop.Fault f) o k here w t h p e = sym p ∙ h ∙ ap (λ x. go_on x k) e
halted stop.NoMemory o k here w t h p e = tt

-- ---- arguments, and what was given before them

module _ (p : Program) (enter : Enter) (line : ℕ) (s : State) (i : ℕ) (xs : List (CodeArgument Note)) (ps left : List Parameter) (before : List Given) (w : Outcome (List Given))
    (inv : behind before (arguments p enter ps left (arguments_of (drop i xs)) line s) ≡ w) where
  pub arguments_go : (x : CodeArgument Note) (left' : List Parameter) (after : List Given) (one : Option Given) (u : State) → i < length xs → x ≡ get_or xs i x → one_argument p enter ps left (argument_of x) line s ≡ Done one u
      → after ≡ added before one → left' ≡ left_behind (argument_of x) left → behind after (arguments p enter ps left' (arguments_of (drop (i + 1) xs)) line u) ≡ w
  arguments_go x left' after one u l e d a h =
      arguments_next before after one (arguments p enter ps left' (arguments_of (drop (i + 1) xs)) line u) a
      ∙ ap (λ q. behind before (behind (added [] one) (arguments p enter ps q (arguments_of (drop (i + 1) xs)) line u))) h
      ∙ ap (behind before) (sym (arguments_at p enter line s i xs x ps left l e ∙ ap (λ o. go_on o (λ one' v. behind (added [] one') (arguments p enter ps (left_behind (argument_of x) left) (arguments_of (drop (i + 1) xs)) line v))) d))
      ∙ inv

  pub arguments_stop : (x : CodeArgument Note) (e : Stop) (t : State) → i < length xs → x ≡ get_or xs i x → Shows {C = Option CodeGiven} (option_map given_of) (Err e) (one_argument p enter ps left (argument_of x) line s) t
      → Shows {C = List CodeGiven} (map given_of) (Err e) w t
  arguments_stop x (stop.Fault f) t l is e =
      sym inv ∙ ap (behind before) (arguments_at p enter line s i xs x ps left l is ∙ ap (λ o. go_on o (λ one' v. behind (added [] one') (arguments p enter ps (left_behind (argument_of x) left) (arguments_of (drop (i + 1) xs)) line v))) e)
  arguments_stop x stop.NoMemory t l is e = tt

  pub arguments_end : length xs ≤ i → w ≡ Done before s
  arguments_end l = sym inv ∙ ap (λ us. behind before (arguments p enter ps left (arguments_of us) line s)) (drop-end xs i l) ∙ ap (λ q. Done q s) (append-nil before)
