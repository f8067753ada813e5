-- Statements whose uses are covered stay within the footprint: by induction on the tree.
use Rattle.std.proofs.Common.{◌≡◌, ℕ, zero, suc, ℤ, pos, negsuc, Bool, true, false, List, ◌∷◌, Option, Some, None, refl, sym, ap, subst}
use Rattle.std.specs.Prelude.{if◌then◌else◌}
use Rattle.plc_text.specs.declared.fault.FaultKind.{FaultKind}
use Rattle.st_types.specs.declared.elem.Elem.{Elem}
use Rattle.st_types.specs.declared.st_type.StType.{StType}
use Rattle.st_types.specs.declared.st_type.StType.TheVariants as type
use Rattle.st_types.specs.Range.{Fits}
use Rattle.st_tree.specs.declared.expression.Root.{Root}
use Rattle.st_tree.specs.declared.program.Note.{Note}
use Rattle.st_tree.specs.Expression.{Expression, Selectors}
use Rattle.st_tree.specs.Statement.{Statement, Empty, Assign, Attempt, Call, Exit, Continue, Return, If, Case, For, While, Repeat, Statements, no_statements, statement_then, Branches, no_branches, branch_then, Cases, no_cases, case_then, Otherwise, Nothing, Else}
use Rattle.st_values.specs.Program.{Routine, Program, conforms}
use Rattle.st_values.specs.Value.{Path, Value, number, reference, array, structure, instance, Store}
use Rattle.st_values.specs.Shape.{Elementary}
use Rattle.st_values.proofs.ShapeLaws.{shape_laws}
use Rattle.st_meaning.specs.State.{Spot, Run, ◌>>=◌, ◌>>◌, gives, fails, at_line, spend, write}
use Rattle.st_meaning.specs.Operation.{number_in, path_in, is_true, elem_of}
use Rattle.st_meaning.specs.Place.{root_note, named_spot}
use Rattle.st_meaning.specs.Call.{callee_of, Enter, call, call_effect}
use Rattle.st_meaning.specs.Expression.{value, place, operand, arguments, outputs}
use Rattle.st_meaning.specs.Loop.{Flow, goes_on, exits, continues, returns, loop, loop_until}
use Rattle.st_meaning.specs.Statement.{no_zero, add_step, then_step, count, attempted, step_value, effect, effects, hold, first_true, first_holding, otherwise_effect}
use Rattle.st_meaning.specs.st_frame.Use.{Use, named_region, root_owner, changed, owner_uses, name_uses, root_uses, receiver, last_kind, called_of, call_use, called_parameters, expression_uses, place_uses, tried, step_uses, statement_uses, body_uses, branch_uses, case_uses, otherwise_uses}
use Rattle.st_meaning.specs.st_frame.Good.{Names, Held, Fit}
use Rattle.st_meaning.specs.st_frame.Promise.Types.{IsElementary, IsHeld, IsPath, IsNoInstance}
use Rattle.st_meaning.specs.st_frame.Promise.Names.{Scope}
use Rattle.st_meaning.specs.st_frame.Promise.Calls.{kind}
use Rattle.st_meaning.specs.st_frame.Promise.Expressions.{ExpressionIs, PlaceIs}
use Rattle.st_meaning.specs.st_frame.Promise.Statements.{StepIs, StatementIs, StatementsAre, BranchesAre, CasesAre, OtherwiseIs}
use Rattle.st_meaning.specs.st_frame.Promise.Programs.{ProgramIs}
use Rattle.st_meaning.proofs.st_frame.Spots.{SpotIs, Within}
use Rattle.st_meaning.proofs.st_frame.OfTypes.{wraps_fit, OfKind, elementary_is, result_is, held_is, path_is, path_near, to_place, widened}
use Rattle.st_meaning.proofs.st_frame.Obeys.{Anything, Obeys, then_obeys, obeys_less, gives_obeys, fails_obeys, test_obeys, line_obeys, spend_obeys, unless_obeys, loop_obeys, until_obeys}
use Rattle.st_meaning.proofs.st_frame.Bodies.{All, front, back, Covered, CallsObey, InstanceAt, plain_obeys, write_plain, class_found, named_obeys, root_obeys, goal_obeys, along_obeys, value_obeys, operand_is, operand_obeys, arguments_obey, outputs_obey, call_obeys, call_effect_obeys, arguments_serve}

-- what is a number is one again
number_again : (p : Program) (e : Elem) (v : Value) → Fit p (Elementary e) v → Fits e (number_in v)
number_again p e (number z) h = h
number_again p e (reference o) h = absurd h
number_again p e (array l vs) h = absurd h
number_again p e (structure m ms) h = absurd h
number_again p e (instance m ms) h = absurd h

module _ (p : Program) (fine : ProgramIs p) (F W : ℕ → Type 0) (base base' : Store) (R : Routine → Type 0) (enter : Enter) (reached : CallsObey p fine F W base base' R enter) (g : Scope) (gs : List Scope) where
  abbrev Runs : {A : Type 0} → Run A → (A → Type 0) → Type 0
  Runs m Q = Obeys p fine F W base base' (g ∷ gs) m Q

  abbrev AllOf : List Use → Type 0
  AllOf us = All (Covered p F W R) us

  abbrev Of : StType → Value → Type 0
  Of t v = OfKind p F t v

  bind : {A B : Type 0} {m : Run A} {f : A → Run B} {Q : A → Type 0} {S : B → Type 0} → Runs m Q → ((a : A) → Q a → Runs (f a) S) → Runs (m >>= f) S
  bind h k = then_obeys p fine F W base base' h k

  give : {A : Type 0} {a : A} {Q : A → Type 0} → Q a → Runs (gives a) Q
  give q = gives_obeys p fine F W base base' q

  fail : {A : Type 0} {k : FaultKind} {Q : A → Type 0} → Runs (fails k) Q
  fail = fails_obeys p fine F W base base'

  less : {A : Type 0} {m : Run A} {Q S : A → Type 0} → Runs m Q → ((a : A) → Q a → S a) → Runs m S
  less h k = obeys_less p fine F W base base' h k

  test : {A : Type 0} {m n : Run A} {Q : A → Type 0} (b : Bool) → Runs m Q → Runs n Q → Runs (if b then m else n) Q
  test b h k = test_obeys p fine F W base base' b (λ _. h) (λ _. k)

  at : {m : Run Flow} (line : ℕ) → Runs m Anything → Runs (at_line line (spend >> m)) Anything
  at line h = line_obeys p fine F W base base' line (bind (spend_obeys p fine F W base base') (λ _ _. h))

  expr : (e : Expression Note) → ExpressionIs p g e → AllOf (expression_uses p e) → Runs (value p enter e) (Of (kind e))
  expr e h u = value_obeys p fine F W base base' R enter reached g gs e h u

  -- a place that is written
  pub target : (r : Root Note) (ss : Selectors Note) (t : StType) → PlaceIs p g r ss t → AllOf (owner_uses r ss) → AllOf (place_uses p r ss) → Runs (place p enter r ss) (λ spot. SpotIs p fine F W (g ∷ gs) spot t × Within W spot)
  target r ss t h w u =
      bind (root_obeys p fine F W base base' R enter reached g gs r h.0 (front _ (root_uses r) _ u)) (λ spot f.
      less (along_obeys p fine F W base base' R enter reached g gs ss (root_owner r) (root_note r).kind spot h.1 (back _ (root_uses r) _ u) f) (λ s z. (subst (SpotIs p fine F W (g ∷ gs) s) h.2 z.0, z.1 w)))

  pub put : (t : StType) (spot : Spot) (v : Value) → IsNoInstance t → SpotIs p fine F W (g ∷ gs) spot t → Within W spot → Of t v → Runs (write spot v) Anything
  put t spot v i s w h = write_plain p fine F W base base' R enter reached g gs t spot v i s w h

  held_plain : (t : StType) → IsHeld t → IsNoInstance t
  held_plain (type.Reference c) h = tt
  held_plain (type.Interface i) h = tt
  held_plain t h = absurd h

  elementary_plain : (t : StType) → IsElementary t → IsNoInstance t
  elementary_plain t h = subst IsNoInstance (sym h.1) tt

  -- ---- ?=

  pub region_near : (u : StType) (v : Value) (q : Path) → IsPath u → Of u v → AllOf (tried p u) → path_in v ≡ Some q → Names p q u → F q.region
  region_near (type.Instance c) v q i h n e k = path_near p F c v q h e
  region_near (type.Reference c) v q i h n e k = n.0 q k
  region_near (type.Interface c) v q i h n e k = n.0 q k
  region_near u v q i h n e k = absurd i

  pub tried_is : (t : StType) (q : Path) (c : ℕ) → InstanceAt p fine F W base base' R enter reached g gs q c → Held p t (if conforms p c t then Some q else None)
  tried_is t q c n = by (conforms p c t) refl
    where
      by : (b : Bool) → conforms p c t ≡ b → Held p t (if b then Some q else None)
      by true e = record { class = c; name = n.0; fields = n.1; there = n.2; meets = e }
      by false e = tt

  pub attempted_obeys : (t u : StType) (v : Value) → IsHeld t → IsPath u → Of u v → AllOf (tried p u) → Runs (attempted p enter t (path_in v)) (Of t)
  attempted_obeys t u v i j h n =
      let a = path_is p F u v j h in
      by (path_in v) refl a.0 (ap path_in a.1) a.2
    where
      by : (o : Option Path) → path_in v ≡ o → (o' : Option Path) → path_in v ≡ o' → Held p u o' → Runs (attempted p enter t o) (Of t)
      by None e o' e' k = give (held_is p F t None i tt)
      by (Some q) e None e' k = cc
      by (Some q) e (Some r) e' k =
          let d : r ≡ q = cc in
          let m : Names p q u = subst (λ x. Names p x u) d k in
          bind (class_found p fine F W base base' R enter reached g gs q u m (region_near u v q j h n e m)) (λ c l. give (held_is p F t _ i (tried_is t q c l.1)))

  -- ---- FOR

  pub no_zero_obeys : (z : ℤ) → Runs (no_zero z) Anything
  no_zero_obeys (pos zero) = fail
  no_zero_obeys (pos (suc n)) = give tt
  no_zero_obeys (negsuc n) = give tt

  pub step_obeys : (by : Option (Expression Note)) (t : StType) → StepIs p g by t → AllOf (step_uses p by) → Runs (step_value p enter by) Anything
  step_obeys None t h u = give tt
  step_obeys (Some e) t h u = bind (expr e h.0 u) (λ v _. no_zero_obeys (number_in v))

  then_step_obeys : (f : Flow) (step : Run Flow) → Runs step Anything → Runs (then_step f step) Anything
  then_step_obeys goes_on step h = h
  then_step_obeys continues step h = h
  then_step_obeys exits step h = give tt
  then_step_obeys returns step h = give tt

  abbrev Counted : StType → Spot → Type 0
  Counted t spot = SpotIs p fine F W (g ∷ gs) spot t × Within W spot

  pub add_step_obeys : (t : StType) (step : ℤ) (where_is : Run Spot) → IsElementary t → Runs where_is (Counted t) → Runs (add_step (elem_of t) step where_is) Anything
  add_step_obeys t step where_is i h =
      bind h (λ spot s.
      bind (plain_obeys p fine F W base base' R enter reached g gs t spot (elementary_plain t i) s.0) (λ v _.
      bind (put t spot _ (elementary_plain t i) s.0 s.1 (result_is p F t _ i (wraps_fit (elem_of t) _))) (λ _ _. give tt)))

  pub count_obeys : (t : StType) (end step : ℤ) (where_is : Run Spot) (body : Run Flow) → IsElementary t → Runs where_is (Counted t) → Runs body Anything → Runs (count (elem_of t) where_is end step body) Anything
  count_obeys t end step where_is body i h k =
      loop_obeys p fine F W base base' _ _
      (bind h (λ spot s. bind (plain_obeys p fine F W base base' R enter reached g gs t spot (elementary_plain t i) s.0) (λ v _. give tt)))
      (bind k (λ flow _. then_step_obeys flow _ (add_step_obeys t step where_is i h)))

  pub number_kind : (t : StType) (v : Value) → IsElementary t → Of t v → Of t (number (number_in v))
  number_kind t v i h =
      let k = subst (λ y. Of y v) i.1 h in
      let f : Fit p (Elementary i.0) v = to_place p F (type.Elementary i.0) (Elementary i.0) v tt (shape_laws.elementary p i.0) k in
      elementary_is p F t i.0 (number_in v) i.1 (number_again p i.0 v f)

  -- ---- statements

  pub condition : (e : Expression Note) → ExpressionIs p g e → AllOf (expression_uses p e) → Runs (value p enter e >>= λ v. gives (is_true v)) Anything
  condition e h u = bind (expr e h u) (λ v _. give tt)

  mutual
    pub effect_obeys : (s : Statement Note) → StatementIs p g s → AllOf (statement_uses p s) → Runs (effect p enter s) Anything
    effect_obeys (Empty line) h u = give tt
    effect_obeys (Assign line a r ss e) h u =
        let rest = back _ (owner_uses r ss) _ u in
        at {m = do v ← value p enter e; spot ← place p enter r ss; write spot v; gives goes_on} line (bind (expr e h.2 (back _ (place_uses p r ss) _ rest)) (λ v k.
        bind (target r ss a.kind h.0 (front _ (owner_uses r ss) _ u) (front _ (place_uses p r ss) _ rest)) (λ spot s.
        bind (put a.kind spot v h.1 s.0 s.1 (widened p F (kind e) a.kind v h.3 k)) (λ _ _. give tt))))
    effect_obeys (Attempt line a r ss e) h u =
        let own = back _ (tried p (kind e)) _ u in
        let rest = back _ (owner_uses r ss) _ own in
        at {m = do v ← value p enter e; w ← attempted p enter a.kind (path_in v); spot ← place p enter r ss; write spot w; gives goes_on} line (bind (expr e h.2 (back _ (place_uses p r ss) _ rest)) (λ v k.
        bind (attempted_obeys a.kind (kind e) v h.1 h.3 k (front _ (tried p (kind e)) _ u)) (λ w l.
        bind (target r ss a.kind h.0 (front _ (owner_uses r ss) _ own) (front _ (place_uses p r ss) _ rest)) (λ spot s.
        bind (put a.kind spot w (held_plain a.kind h.1) s.0 s.1 l) (λ _ _. give tt)))))
    effect_obeys (Call line a r ss xs) h u =
        let c = callee_of r ss in
        let ps = called_parameters p (called_of r ss) in
        let own_u = back _ (call_use (called_of r ss)) _ u in
        let rest_u = back _ (owner_uses r ss) _ own_u in
        let place_u = front _ (place_uses p r ss) _ rest_u in
        let args_u = back _ (place_uses p r ss) _ rest_u in
        at {m = do call_effect (callee_of r ss) (operand p enter xs) (call p enter (callee_of r ss) (place p enter r ss) (λ qs. arguments p enter qs qs xs) (λ qs own f. outputs p enter qs own f xs)); gives goes_on} line (bind (call_effect_obeys p fine F W base base' R enter reached g gs c _ (operand p enter xs) _
        (λ i. operand_obeys p fine F W base base' R enter reached g gs xs ps ps (operand_is p fine F W base base' R enter reached g gs c _ _ _ _ _ _ i h) args_u)
        (λ i.
        call_obeys p fine F W base base' R enter reached g gs c (receiver (root_note r).kind ss) (last_kind (root_note r).kind ss) _ _ _ _ _ _ _ h (front _ (call_use (called_of r ss)) _ u)
        (λ m k b. goal_obeys p fine F W base base' R enter reached g gs r ss k.0 k.1 b (front _ (owner_uses r ss) _ own_u) (front _ (root_uses r) _ place_u) (back _ (root_uses r) _ place_u))
        (λ k q. record {
          given = λ x rest n b ok eq.
              let m = arguments_serve p fine F W base base' R enter reached g gs k r ss x rest xs q eq b args_u in
              arguments_obey p fine F W base base' R enter reached g gs xs x x.parameters x.parameters ok ok.parameters ok.parameters m.0 m.1;
          left = λ x rest own f n b ok eq o.
              let m = arguments_serve p fine F W base base' R enter reached g gs k r ss x rest xs q eq b args_u in
              outputs_obey p fine F W base base' R enter reached g gs xs x x.parameters x.parameters own f ok.parameters m.0 m.1 o;
        })
        i))
        (λ _ _. give tt))
    effect_obeys (Exit line) h u = at {m = gives exits} line (give tt)
    effect_obeys (Continue line) h u = at {m = gives continues} line (give tt)
    effect_obeys (Return line) h u = at {m = gives returns} line (give tt)
    effect_obeys (If line branches otherwise) h u =
        at {m = first_true p enter branches (otherwise_effect p enter otherwise)} line (branches_obey branches (otherwise_effect p enter otherwise) h.0 (front _ (branch_uses p branches) _ u) (otherwise_obeys otherwise h.1 (back _ (branch_uses p branches) _ u)))
    effect_obeys (Case line e cases otherwise) h u =
        let rest = back _ (expression_uses p e) _ u in
        at {m = do v ← value p enter e; first_holding p enter (number_in v) cases (otherwise_effect p enter otherwise)} line (bind (expr e h.0 (front _ (expression_uses p e) _ u)) (λ v _.
        cases_obey (number_in v) cases (otherwise_effect p enter otherwise) h.2 (front _ (case_uses p cases) _ rest) (otherwise_obeys otherwise h.3 (back _ (case_uses p cases) _ rest))))
    effect_obeys (For line a name from to by body) h u =
        let w = front _ (changed (named_region a.target)) _ u in
        let u1 = back _ (changed (named_region a.target)) _ u in
        let n = front _ (name_uses a.target) _ u1 in
        let u2 = back _ (name_uses a.target) _ u1 in
        let u3 = back _ (expression_uses p from) _ u2 in
        let u4 = back _ (expression_uses p to) _ u3 in
        let where_is : Runs (named_spot a.target) (Counted a.kind) = less (named_obeys p fine F W base base' R enter reached g gs a.target a.kind h.0 n) (λ spot s. (s.0, s.1 w)) in
        at {m = do first ← value p enter from; end ← value p enter to; step ← step_value p enter by; spot ← named_spot a.target; write spot (number (number_in first)); count (elem_of a.kind) (named_spot a.target) (number_in end) step (effects p enter body)} line (bind (expr from h.2 (front _ (expression_uses p from) _ u2)) (λ first k.
        bind (expr to h.4 (front _ (expression_uses p to) _ u3)) (λ end _.
        bind (step_obeys by a.kind h.6 (front _ (step_uses p by) _ u4)) (λ step _.
        bind where_is (λ spot s.
        bind (put a.kind spot _ (elementary_plain a.kind h.1) s.0 s.1 (number_kind a.kind first h.1 (widened p F (kind from) a.kind first h.3 k))) (λ _ _.
        count_obeys a.kind (number_in end) step (named_spot a.target) (effects p enter body) h.1 where_is (body_obeys body h.7 (back _ (step_uses p by) _ u4))))))))
    effect_obeys (While line e body) h u =
        at {m = loop (do v ← value p enter e; gives (is_true v)) (effects p enter body)} line (loop_obeys p fine F W base base' _ _ (condition e h.0.0 (front _ (expression_uses p e) _ u)) (body_obeys body h.1 (back _ (expression_uses p e) _ u)))
    effect_obeys (Repeat line body e) h u =
        at {m = loop_until (effects p enter body) (do v ← value p enter e; gives (is_true v))} line (until_obeys p fine F W base base' _ _ (body_obeys body h.0 (front _ (body_uses p body) _ u)) (condition e h.1.0 (back _ (body_uses p body) _ u)))

    pub body_obeys : (b : Statements Note) → StatementsAre p g b → AllOf (body_uses p b) → Runs (effects p enter b) Anything
    body_obeys no_statements h u = give tt
    body_obeys (statement_then s ss) h u =
        bind (effect_obeys s h.0 (front _ (statement_uses p s) _ u)) (λ flow _.
        unless_obeys p fine F W base base' flow (effects p enter ss) (body_obeys ss h.1 (back _ (statement_uses p s) _ u)))

    pub branches_obey : (bs : Branches Note) (otherwise : Run Flow) → BranchesAre p g bs → AllOf (branch_uses p bs) → Runs otherwise Anything → Runs (first_true p enter bs otherwise) Anything
    branches_obey no_branches otherwise h u k = k
    branches_obey (branch_then e body bs) otherwise h u k =
        let rest = back _ (expression_uses p e) _ u in
        bind (expr e h.0.0 (front _ (expression_uses p e) _ u)) (λ v _.
        test (is_true v) (body_obeys body h.1 (front _ (body_uses p body) _ rest)) (branches_obey bs otherwise h.2 (back _ (body_uses p body) _ rest) k))

    pub cases_obey : (z : ℤ) (cs : Cases Note) (otherwise : Run Flow) → CasesAre p g cs → AllOf (case_uses p cs) → Runs otherwise Anything → Runs (first_holding p enter z cs otherwise) Anything
    cases_obey z no_cases otherwise h u k = k
    cases_obey z (case_then labels body cs) otherwise h u k =
        test (hold labels z) (body_obeys body h.0 (front _ (body_uses p body) _ u)) (cases_obey z cs otherwise h.1 (back _ (body_uses p body) _ u) k)

    pub otherwise_obeys : (o : Otherwise Note) → OtherwiseIs p g o → AllOf (otherwise_uses p o) → Runs (otherwise_effect p enter o) Anything
    otherwise_obeys Nothing h u = give tt
    otherwise_obeys (Else body) h u = body_obeys body h u
