-- The code of statements finds no operands and leaves none, and its jumps lead where none are found.
use Rattle.std.proofs.Common.{◌≡◌, ℕ, ◌+◌, pos, Bool, true, false, List, [], ◌∷◌, ◌++◌, length, Option, Some, None, refl, sym, ap, ◌∙◌, subst, inl, inr}
use Rattle.std.specs.Prelude.{◌&&◌}
use Rattle.st_types.specs.declared.elem.Elem.{Elem}
use Rattle.st_types.specs.declared.st_type.StType.{StType}
use Rattle.st_types.specs.declared.st_type.StType.TheVariants as type
use Rattle.st_tree.specs.declared.expression.Root.{Root}
use Rattle.st_tree.specs.declared.program.Note.{Note}
use Rattle.st_tree.specs.declared.program.Target.{Target}
use Rattle.st_tree.specs.declared.program.Target.TheVariants as target
use Rattle.st_tree.specs.Expression.{Expression, Selectors, Arguments}
use Rattle.st_tree.specs.Expression as tree
use Rattle.st_tree.specs.Statement.{Statement, Empty, Assign, Attempt, Call, Exit, Continue, Return, If, Case, For, While, Repeat, Statements, no_statements, statement_then, Branches, no_branches, branch_then, Cases, no_cases, case_then, Otherwise, Nothing, Else}
use Rattle.st_values.specs.Program.{Routine, Program}
use Rattle.st_values.specs.Initial.{note_of}
use Rattle.st_meaning.specs.Call.{Callee, a_conversion, a_function, a_method, a_body, callee_of}
use Rattle.st_meaning.specs.Operation.{elem_of}
use Rattle.st_meaning.specs.Place.{root_note}
use Rattle.st_meaning.specs.st_frame.Use.{last_kind, called_of, called_parameters}
use Rattle.st_meaning.specs.st_frame.Promise.Types.{IsNumeric, IsHeld, Widens, same_type, wider_number, wider_path}
use Rattle.st_meaning.specs.st_frame.Promise.Names.{Scope}
use Rattle.st_meaning.specs.st_frame.Promise.Places.{NamedIs}
use Rattle.st_meaning.specs.st_frame.Promise.Calls.{kind}
use Rattle.st_meaning.specs.st_frame.Promise.Expressions.{ExpressionIs, ArgumentsAre, PlaceIs}
use Rattle.st_meaning.specs.st_frame.Promise.Statements.{ConditionIs, StepIs, StatementIs, StatementsAre, BranchesAre, CasesAre, OtherwiseIs}
use Rattle.st_meaning.specs.st_frame.Promise.Programs.{ProgramIs}
use Rattle.stack_code.specs.declared.op.Kind.{Kind}
use Rattle.stack_code.specs.declared.op.Kind.TheVariants.{Num, Addr}
use Rattle.stack_code.specs.declared.op.Op.TheVariants as op
use Rattle.code_cells.specs.declared.cell.Cell.{Cell}
use Rattle.code_cells.specs.declared.cell.Cell.TheVariants.{Does as does}
use Rattle.code_cells.specs.Cell.{Targets, behind}
use Rattle.code_cells.specs.Found.{Takes}
use Rattle.code_cells.proofs.Flow.{nothing, both, does_takes}
use Rattle.code_cells.proofs.Forms.{Leaves, takes_leaves, before_leaves, then_leaves, exit_leaves, continue_leaves, return_leaves, choice_leaves}
use Rattle.code_cells.proofs.Loops.{in_loop, while_leaves, repeat_leaves, Ticked}
use Rattle.code_rules.specs.Plan.{Plan}
use Rattle.code_rules.specs.Code.{number_kind, named_code, value_code, place_code, operand_code, arguments_code, outputs_code, behind_outputs, output_rooms, mask_of, source_code, is_source, way_is_quiet}
use Rattle.code_rules.specs.Places.{block_size, is_large, room_of}
use Rattle.code_rules.specs.Bodies.{step_kind, step_code, within_code, advance_code, called_effect_code, assigned_code, call_code, effect_code, effects_code, branches_code, cases_code, otherwise_code}
use Rattle.valid_emitted.specs.Kinds.{kind_at, PlanIs}
use Rattle.valid_emitted.proofs.Values.{left_as, held_kind, path_kind, number_kind_is, root_takes, keep_takes, an_elementary_kind, named_takes, along_takes, value_takes, operand_of, call_right, number_operand, operand_takes, called_takes, called_along_takes, arguments_take, outputs_take, rooms_take}
use Rattle.valid_emitted.proofs.Choices.{case_leaves}
use Rattle.valid_emitted.proofs.Counts.{count_leaves, advance_past, within_takes}

-- ---- each statement's code is empty or begins with a TICK

effect_ticked : (w : Plan) (to : Targets) (free : ℕ) (s : Statement Note) → Ticked (effect_code w to free s)
effect_ticked w to free (Empty line) = inl refl
effect_ticked w to free (Assign line a r ss e) = inr (line, _, refl)
effect_ticked w to free (Attempt line a r ss e) = inr (line, _, refl)
effect_ticked w to free (Call line a r ss xs) = inr (line, _, refl)
effect_ticked w to free (Exit line) = inr (line, _, refl)
effect_ticked w to free (Continue line) = inr (line, _, refl)
effect_ticked w to free (Return line) = inr (line, _, refl)
effect_ticked w to free (If line bs o) = inr (line, _, refl)
effect_ticked w to free (Case line e cs o) = inr (line, _, refl)
effect_ticked w to free (For line a name from end by body) = inr (line, _, refl)
effect_ticked w to free (While line e body) = inr (line, _, refl)
effect_ticked w to free (Repeat line body e) = inr (line, _, refl)

abbrev first_ticked : (a b : List Cell) → Ticked a → Ticked b → Ticked (a ++ b)
first_ticked a b (inl e) k = subst (λ x. Ticked (x ++ b)) (sym e) k
first_ticked a b (inr x) k = inr (x.0, x.1 ++ b, ap (λ y. y ++ b) x.2)

effects_ticked : (w : Plan) (to : Targets) (free : ℕ) (ss : Statements Note) → Ticked (effects_code w to free ss)
effects_ticked w to free no_statements = inl refl
effects_ticked w to free (statement_then s ss) = first_ticked _ _ (effect_ticked w (behind (length (effects_code w to free ss)) to) free s) (effects_ticked w to free ss)

-- a call as a statement
called_takes_as : (w : Plan) (line free : ℕ) (xs : Arguments Note) (c : Callee) (called : List Cell) → (c ≡ a_conversion → Takes (operand_code w line free xs ++ does op.Drop line ∷ []) [] []) → ((c ≡ a_conversion → ⊥) → Takes called [] []) → Takes (called_effect_code w line free c xs called) [] []
called_takes_as w line free xs a_conversion called f h = f refl
called_takes_as w line free xs (a_function k) called f h = h (λ e. cc)
called_takes_as w line free xs (a_method s n) called f h = h (λ e. cc)
called_takes_as w line free xs (a_body s) called f h = h (λ e. cc)

numeric_kind : (t : StType) → IsNumeric t → kind_at t ≡ Num
numeric_kind (type.Elementary e) h = refl
numeric_kind (type.Enumeration n) h = refl
numeric_kind t h = absurd h

-- a value that no word holds is told by its address
large_kind : (t : StType) → is_large t ≡ true → kind_at t ≡ Addr
large_kind (type.Elementary e) h = cc
large_kind (type.Enumeration n) h = cc
large_kind t h = refl

no_address : (t : StType) → kind_at t ≡ Num → is_large t ≡ true → ⊥
no_address t h l = let e : Num ≡ Addr = sym h ∙ large_kind t l in cc

held_small : (t : StType) → IsHeld t → is_large t ≡ false
held_small (type.Reference c) h = refl
held_small (type.Interface i) h = refl
held_small t h = absurd h

and_first : (a b : Bool) → a && b ≡ true → a ≡ true
and_first true b h = refl
and_first false b h = cc

and_second : (a b : Bool) → a && b ≡ true → b ≡ true
and_second true b h = h
and_second false b h = cc

-- another name of the kind that is found below an address
found_below : {cs : List Cell} {k l : Kind} {left : List Kind} → l ≡ k → Takes cs (Addr ∷ l ∷ []) left → Takes cs (Addr ∷ k ∷ []) left
found_below {cs = cs} {left = left} e h = subst (λ x. Takes cs (Addr ∷ x ∷ []) left) e h

module _ (p : Program) where
  same_large : {t u : StType} → Widens p t u → is_large u ≡ true → is_large t ≡ true
  same_large same_type h = h
  same_large (wider_number r) h = cc
  same_large (wider_path {t = t} {u = u} a b n) h = let e : false ≡ true = sym (held_small u b) ∙ h in cc

  widens_kind : {t u : StType} → Widens p t u → kind_at t ≡ kind_at u
  widens_kind same_type = refl
  widens_kind (wider_number r) = refl
  widens_kind (wider_path {t = t} {u = u} a b n) = path_kind t a ∙ sym (held_kind u b)

module _ (p : Program) (g : Scope) (w : Plan) (plan : PlanIs p g w) (fine : ProgramIs p) where
  ticks : (line : ℕ) (ks : List Kind) → Takes (does op.Tick line ∷ []) ks ks
  ticks line ks = does_takes op.Tick line ks ks refl refl (λ next h. h)

  of_value : (line free : ℕ) (e : Expression Note) (ks : List Kind) → ExpressionIs p g e → Takes (value_code w line free e) ks (kind_at (kind e) ∷ ks)
  of_value line free e ks h = value_takes p g w plan line fine free e ks h

  of_place : (line free : ℕ) (r : Root Note) (ss : Selectors Note) (t : StType) (ks : List Kind) → PlaceIs p g r ss t → Takes (place_code w line free r ss) ks (Addr ∷ ks)
  of_place line free r ss t ks h = both (root_takes p g w plan line r ks h.0) (along_takes p g w plan line fine free ss (root_note r).kind ks h.1)

  condition_takes : (line free : ℕ) (e : Expression Note) → ConditionIs p g e → Takes (value_code w line free e) [] (Num ∷ [])
  condition_takes line free e h = left_as (sym (ap kind_at h.1)) (of_value line free e [] h.0)

  -- a source's address is its large value
  place_source : (line free : ℕ) (x : Target) (a : Note) (r : Root Note) (ss : Selectors Note) → NamedIs p x a.kind (PlaceIs p g r ss a.kind) → is_large a.kind ≡ true → Takes (place_code w line free r ss) [] (Addr ∷ [])
  place_source line free (target.Constant z) a r ss h l = absurd (no_address a.kind (number_kind_is p z a.kind h) l)
  place_source line free (target.Enumerator k) a r ss h l = absurd (no_address a.kind (number_kind_is p (pos k) a.kind h) l)
  place_source line free x a r ss h l = of_place line free r ss a.kind [] h

  source_takes : (line free : ℕ) (e : Expression Note) → ExpressionIs p g e → is_source e ≡ true → is_large (kind e) ≡ true → Takes (source_code w line free e) [] (Addr ∷ [])
  source_takes line free (tree.Place a r ss) h s l = place_source line free a.target a r ss h l
  source_takes line free (tree.Paren a e) h s l = source_takes line free e h.0 s (ap is_large h.1 ∙ l)
  source_takes line free e h s l = absurd cc

  -- a target that is copied to
  copied_takes : (line free : ℕ) (a : Note) (r : Root Note) (ss : Selectors Note) (e : Expression Note) (b : Bool) → StatementIs p g (Assign line a r ss e) → is_large a.kind && (is_source e && way_is_quiet ss) ≡ b → Takes (assigned_code w line free a.kind r ss e b) [] []
  copied_takes line free a r ss e true h q =
      let large = and_first (is_large a.kind) (is_source e && way_is_quiet ss) q in
      let source = and_first (is_source e) (way_is_quiet ss) (and_second (is_large a.kind) (is_source e && way_is_quiet ss) q) in
      let held : kind_at a.kind ≡ Addr = large_kind a.kind large in
      both (source_takes line free e h.2 source (same_large p h.3 large)) (both (of_place line free r ss a.kind (Addr ∷ []) h.0) (found_below held (keep_takes p g w plan line a.kind [])))
  copied_takes line free a r ss e false h q =
      both (left_as (sym (widens_kind p h.3)) (of_value line free e [] h.2)) (both (of_place line (free + room_of w.size_of (note_of e).kind) r ss a.kind (kind_at a.kind ∷ []) h.0) (keep_takes p g w plan line a.kind []))

  attempt_takes : (line free : ℕ) (a : Note) (r : Root Note) (ss : Selectors Note) (e : Expression Note) → StatementIs p g (Attempt line a r ss e)
      → Takes (value_code w line free e ++ (does (op.Try (w.tables.conversion_target a.kind)) line ∷ (place_code w line free r ss ++ does op.StoreRef line ∷ []))) [] []
  attempt_takes line free a r ss e h =
      both (left_as (sym (path_kind (kind e) h.3)) (of_value line free e [] h.2))
      (both (does_takes (op.Try _) line (Addr ∷ []) (Addr ∷ []) refl refl (λ next h. h))
      (both (of_place line free r ss a.kind (Addr ∷ []) h.0) (does_takes op.StoreRef line (Addr ∷ Addr ∷ []) [] refl refl (λ next h. h))))

  -- ---- calls

  call_takes : (line free : ℕ) (a : Note) (r : Root Note) (ss : Selectors Note) (xs : Arguments Note) → StatementIs p g (Call line a r ss xs) → Takes (call_code w line free r ss xs) [] []
  call_takes line free a r ss xs h =
      let c = callee_of r ss in
      let ps = w.parameters (called_of r ss) in
      let qs = called_parameters p (called_of r ss) in
      let whole = last_kind (root_note r).kind ss in
      let rooms = free + block_size (length ps) in
      let each : Routine → Type 0 = λ x. ArgumentsAre p g x qs qs xs in
      called_takes_as w line free xs c _
      (λ e.
      let operand = operand_of p g w plan line fine c r ss xs each e h in
      both (left_as (sym (number_operand p g w plan line fine xs operand)) (operand_takes p g w plan line fine free xs [] operand)) (does_takes op.Drop line (Num ∷ []) [] refl refl (λ next h. h)))
      (λ n.
      let fits = call_right p g w plan line fine r ss xs each n h in
      called_takes p g w plan line fine c free ps r ss xs (place_code w line free r ss) (arguments_code w line free (behind_outputs w rooms xs) ps 0 ps xs) (outputs_code w line free (behind_outputs w rooms xs) ps whole xs)
      (output_rooms w line free rooms xs) (mask_of c ps false xs) [] n fits
      (λ f. both (root_takes p g w plan line r [] f.0) (called_along_takes p g w plan line fine free ss (root_note r).kind [] f.1))
      (arguments_take p g w plan line fine free (behind_outputs w rooms xs) ps 0 ps xs (Addr ∷ []) fits.arguments)
      (outputs_take p g w plan line fine free (behind_outputs w rooms xs) ps ps whole xs [] fits.arguments)
      (rooms_take p g w plan line fine free rooms xs (Addr ∷ [])))

  -- ---- FOR

  step_takes : (line free : ℕ) (t : StType) (by : Option (Expression Note)) (ks : List Kind) → kind_at t ≡ Num → StepIs p g by t → Takes (step_code w line free by) ks (Num ∷ ks)
  step_takes line free t None ks n h = does_takes (op.Push _) line ks (Num ∷ ks) refl refl (λ next h. h)
  step_takes line free t (Some e) ks n h = both (left_as (sym (widens_kind p h.1 ∙ n)) (of_value line free e ks h.0)) (does_takes op.NoZero line (Num ∷ ks) (Num ∷ ks) refl refl (λ next h. h))

  kept_number : (line at : ℕ) (e : Elem) (ks : List Kind) → Takes (does (op.Local at) line ∷ (does (op.Store e) line ∷ [])) (Num ∷ ks) ks
  kept_number line at e ks = both (does_takes (op.Local at) line (Num ∷ ks) (Addr ∷ Num ∷ ks) refl refl (λ next h. h)) (does_takes (op.Store e) line (Addr ∷ Num ∷ ks) ks refl refl (λ next h. h))

  for_leaves : (to : Targets) (free line : ℕ) (a : Note) (name : List ℕ) (begin end : Expression Note) (by : Option (Expression Note)) (body : Statements Note) → StatementIs p g (For line a name begin end by body)
      → ((inner : Targets) → StatementsAre p g body → Leaves inner (effects_code w inner (free + 16) body) []) → Leaves to (effect_code w to free (For line a name begin end by body)) []
  for_leaves to free line a name begin end by body h f =
      let n = an_elementary_kind a.kind h.1 in
      let place = named_code w line a.target in
      let e = elem_of a.kind in
      let places : (ks : List Kind) → Takes place ks (Addr ∷ ks) = λ ks. named_takes p g w plan line a.target a.kind ks h.0 in
      let advance = advance_code line free e (step_kind a.kind by) place in
      let inner : Targets = record { to_exit = length advance + 1; to_continue = 0; to_return = length advance + 1 + to.to_return } in
      before_leaves (ticks line [])
      (before_leaves (left_as (sym (widens_kind p h.3 ∙ n)) (of_value line free begin [] h.2))
      (before_leaves (left_as (sym (widens_kind p h.5 ∙ n)) (of_value line free end (Num ∷ []) h.4))
      (before_leaves (kept_number line free (number_kind (note_of end).kind) (Num ∷ []))
      (before_leaves (step_takes line (free + 8) a.kind by (Num ∷ []) n h.6)
      (before_leaves (kept_number line (free + 8) (step_kind a.kind by) (Num ∷ []))
      (before_leaves (places (Num ∷ []))
      (before_leaves (does_takes (op.Store e) line (Addr ∷ Num ∷ []) [] refl refl (λ next h. h))
      (count_leaves to (within_code line free e (number_kind (note_of end).kind) (step_kind a.kind by) place) (effects_code w inner (free + 16) body) advance line _ refl
      (within_takes line place places e free (number_kind (note_of end).kind) (step_kind a.kind by)) (advance_past line place places e free (number_kind (note_of end).kind) (step_kind a.kind by)) (f inner h.7)))))))))

  mutual
    pub effect_leaves : (to : Targets) (free : ℕ) (s : Statement Note) → StatementIs p g s → Leaves to (effect_code w to free s) []
    effect_leaves to free (Empty line) h = takes_leaves to (nothing [])
    effect_leaves to free (Assign line a r ss e) h = takes_leaves to (both (ticks line []) (copied_takes line free a r ss e (is_large a.kind && (is_source e && way_is_quiet ss)) h refl))
    effect_leaves to free (Attempt line a r ss e) h = takes_leaves to (both (ticks line []) (attempt_takes line free a r ss e h))
    effect_leaves to free (Call line a r ss xs) h = takes_leaves to (both (ticks line []) (call_takes line free a r ss xs h))
    effect_leaves to free (Exit line) h = before_leaves (ticks line []) (exit_leaves to line)
    effect_leaves to free (Continue line) h = before_leaves (ticks line []) (continue_leaves to line)
    effect_leaves to free (Return line) h = before_leaves (ticks line []) (return_leaves to line)
    effect_leaves to free (If line bs o) h = before_leaves (ticks line []) (branches_leave line to free bs _ h.0 (otherwise_leaves to free o h.1))
    effect_leaves to free (Case line e cs o) h =
        before_leaves (ticks line []) (before_leaves (left_as (sym (numeric_kind (kind e) h.1)) (of_value line free e [] h.0))
        (cases_leave line to free cs _ h.2 (before_leaves (does_takes op.Drop line (Num ∷ []) [] refl refl (λ next h. h)) (otherwise_leaves to free o h.3))))
    effect_leaves to free (For line a name begin end by body) h = for_leaves to free line a name begin end by body h (λ inner k. effects_leave inner (free + 16) body k)
    effect_leaves to free (While line e body) h =
        before_leaves (ticks line []) (while_leaves to (value_code w line free e) (effects_code w (in_loop to) free body) line _ refl (condition_takes line free e h.0) (effects_leave (in_loop to) free body h.1))
    effect_leaves to free (Repeat line body e) h =
        let ce = value_code w line free e in
        before_leaves (ticks line []) (repeat_leaves to ce _ line _ refl (effects_ticked w _ free body) (condition_takes line free e h.1) (effects_leave _ free body h.0))

    pub effects_leave : (to : Targets) (free : ℕ) (ss : Statements Note) → StatementsAre p g ss → Leaves to (effects_code w to free ss) []
    effects_leave to free no_statements h = takes_leaves to (nothing [])
    effects_leave to free (statement_then s ss) h = then_leaves (effect_leaves (behind (length (effects_code w to free ss)) to) free s h.0) (effects_leave to free ss h.1)

    branches_leave : (line : ℕ) (to : Targets) (free : ℕ) (bs : Branches Note) (otherwise : List Cell) → BranchesAre p g bs → Leaves to otherwise [] → Leaves to (branches_code w line to free bs otherwise) []
    branches_leave line to free no_branches otherwise h o = o
    branches_leave line to free (branch_then e body bs) otherwise h o =
        let rest = branches_code w line to free bs otherwise in
        before_leaves (condition_takes line free e h.0) (choice_leaves line (effects_leave (behind (1 + length rest) to) free body h.1) (branches_leave line to free bs otherwise h.2 o))

    cases_leave : (line : ℕ) (to : Targets) (free : ℕ) (cs : Cases Note) (otherwise : List Cell) → CasesAre p g cs → Leaves to otherwise (Num ∷ []) → Leaves to (cases_code w line to free cs otherwise) (Num ∷ [])
    cases_leave line to free no_cases otherwise h o = o
    cases_leave line to free (case_then labels body cs) otherwise h o =
        let rest = cases_code w line to free cs otherwise in
        case_leaves line labels (effects_leave (behind (1 + length rest) to) free body h.0) (cases_leave line to free cs otherwise h.1 o)

    otherwise_leaves : (to : Targets) (free : ℕ) (o : Otherwise Note) → OtherwiseIs p g o → Leaves to (otherwise_code w to free o) []
    otherwise_leaves to free Nothing h = takes_leaves to (nothing [])
    otherwise_leaves to free (Else body) h = effects_leave to free body h
