-- One node: what its parts use is what it uses.
use Rattle.std.proofs.Common.{◌≡◌, ℕ, ◌+◌, Bool, true, false, List, [], ◌∷◌, Option, Some, length, sym, refl, ap, ◌∙◌}
use Rattle.std.specs.Prelude.{IfOk, Result, max, option_map, slice_get}
use Rattle.std.proofs.lemmas.Result.{IfOk-weaker}
use Rattle.plc_text.specs.declared.memory.NoMemory.{NoMemory}
use Rattle.st_tree.specs.declared.expression.Argument.{Argument as CodeArgument}
use Rattle.st_tree.specs.declared.expression.Argument.TheVariants as argument
use Rattle.st_tree.specs.declared.expression.Expr.{Expr}
use Rattle.st_tree.specs.declared.expression.Expr.TheVariants as node
use Rattle.st_tree.specs.declared.expression.Place.{Place as CodePlace}
use Rattle.st_tree.specs.declared.expression.Root.{Root}
use Rattle.st_tree.specs.declared.expression.Tail.{Tail}
use Rattle.st_tree.specs.declared.program.Note.{Note}
use Rattle.st_tree.specs.declared.statement.Branch.{Branch}
use Rattle.st_tree.specs.declared.statement.Case.{Case as CodeCase}
use Rattle.st_tree.specs.declared.statement.Otherwise.{Otherwise as CodeOtherwise}
use Rattle.st_tree.specs.declared.statement.Stmt.{Stmt}
use Rattle.st_tree.specs.declared.statement.Stmt.TheVariants as code
use Rattle.st_tree.specs.Expression.{Expression, Selectors, Positional, Input, Output, Arguments, argument_then, argument_of, argument_of-Positional, argument_of-Input, argument_of-Output, arguments_of, expression_of, expression_of-Call, expression_of-Chain, expression_of-Place, place_of, tails_of}
use Rattle.st_tree.specs.Statement.{Statement, branch_of, branch_of-is, branches_of, case_branch_of, case_branch_of-is, cases_of, otherwise_of, statement_of, statement_of-Attempt, statement_of-Case, statement_of-For, statement_of-If, statement_of-Repeat, statement_of-While, statements_of}
use Rattle.st_values.specs.Program.{Parameter}
use Rattle.st_values.specs.Initial.{note_of}
use Rattle.st_meaning.specs.Call.{Callee, a_conversion, a_function, a_method, a_body, callee_of}
use Rattle.st_meaning.specs.st_frame.Use.{called_of}
use Rattle.call_steps.specs.Callee.{callee_seen}
use Rattle.routine_tables.specs.Parameters.{parameters_of}
use Rattle.code_rules.specs.Plan.{Plan}
use Rattle.code_rules.specs.Places.{block_size, room_of}
use Rattle.code_rules.specs.Code.{behind_outputs, is_conversion}
use Rattle.code_rules.specs.Tops.{along_top, arguments_top, assigned_top, branches_top, call_top, cases_top, effect_top, effects_top, operand_top, otherwise_top, outputs_top, source_top, step_top, tails_top, value_top}
use Rattle.codegen_parts.specs.declared.calls.CallPlan.{CallPlan}
use Rattle.codegen_parts.specs.CallPlans.{IsCallPlan}
use Rattle.codegen_tops.specs.Steps.{branch_top}

-- an answer that is handed on as it is
pub told_same : (r : Result ℕ NoMemory) (x y : ℕ) → x ≡ y → IfOk r (λ n. n ≡ x) → IfOk r (λ n. n ≡ y)
told_same r x y e h = IfOk-weaker r (λ n. n ≡ x) (λ n. n ≡ y) (λ n k. k ∙ e) h

pub both : (n a b x y : ℕ) → n ≡ max a b → a ≡ x → b ≡ y → n ≡ max x y
both n a b x y h p q = h ∙ ap (λ k. max k b) p ∙ ap (λ k. max x k) q

module _ (w : Plan) (free : ℕ) where
  pub value_as : (e : Expr Note) (x : Expression Note) (n : ℕ) → expression_of e ≡ x → n ≡ value_top w free x → n ≡ value_top w free (expression_of e)
  value_as e x n q h = h ∙ ap (value_top w free) (sym q)

  pub effect_as : (s : Stmt Note) (x : Statement Note) (n : ℕ) → statement_of s ≡ x → n ≡ effect_top w free x → n ≡ effect_top w free (statement_of s)
  effect_as s x n q h = h ∙ ap (effect_top w free) (sym q)

-- ---- calls

converted : (c : Callee) (x y : ℕ) → is_conversion c ≡ true → x ≡ call_top c x y
converted a_conversion x y e = refl
converted (a_function k) x y e = cc
converted (a_method s name) x y e = cc
converted (a_body s) x y e = cc

called : (c : Callee) (x y : ℕ) → is_conversion c ≡ false → y ≡ call_top c x y
called a_conversion x y e = cc
called (a_function k) x y e = refl
called (a_method s name) x y e = refl
called (a_body s) x y e = refl

module _ (w : Plan) (free base : ℕ) (r : Root Note) (ss : Selectors Note) (xs : Arguments Note) (k : CallPlan) (h : IsCallPlan w r ss xs base k) where
  -- what a call uses that is none of a conversion
  abbrev parts : ℕ
  parts =
      let ps = w.parameters (called_of r ss) in
      let behind = behind_outputs w (base + block_size (length ps)) xs in
      max (along_top w free ss) (max behind (max (arguments_top w behind ps ps xs) (outputs_top w behind xs)))

  pub conversion_same : (x : Result ℕ NoMemory) → is_conversion (callee_seen k.callee) ≡ true → IfOk x (λ n. n ≡ operand_top w free xs) → IfOk x (λ n. n ≡ call_top (callee_of r ss) (operand_top w free xs) parts)
  conversion_same x c e = told_same x (operand_top w free xs) (call_top (callee_of r ss) (operand_top w free xs) parts) (converted (callee_of r ss) (operand_top w free xs) parts (sym (ap is_conversion h.callee) ∙ c)) e

  pub call_goes : (way given left inner rest n : ℕ) → is_conversion (callee_seen k.callee) ≡ false → way ≡ along_top w free ss → given ≡ arguments_top w k.free (parameters_of k.parameters.now) (parameters_of k.parameters.now) xs → left ≡ outputs_top w k.free xs
      → inner ≡ max given left → rest ≡ max k.free inner → n ≡ max way rest → n ≡ call_top (callee_of r ss) (operand_top w free xs) parts
  call_goes way given left inner rest n c p g l i j e =
      let ps = w.parameters (called_of r ss) in
      let behind = behind_outputs w (base + block_size (length ps)) xs in
      let given_is : given ≡ arguments_top w behind ps ps xs = g ∙ ap (λ (qs : List Parameter). arguments_top w k.free qs qs xs) h.parameters ∙ ap (λ b. arguments_top w b ps ps xs) h.free in
      let left_is : left ≡ outputs_top w behind xs = l ∙ ap (λ b. outputs_top w b xs) h.free in
      both n way rest _ _ e p (both rest k.free inner _ _ j h.free (both inner given left _ _ i given_is left_is))
      ∙ called (callee_of r ss) (operand_top w free xs) parts (sym (ap is_conversion h.callee) ∙ c)

-- ---- assignments

module _ (w : Plan) (free : ℕ) (ss : Selectors Note) (e : Expression Note) (b : Bool) (first second n : ℕ) where
  pub copied_arm : b ≡ true → first ≡ source_top w free e → second ≡ along_top w free ss → n ≡ max first second → n ≡ assigned_top w free ss e b
  copied_arm y p r m = both n first second (source_top w free e) (along_top w free ss) m p r ∙ ap (assigned_top w free ss e) (sym y)

  pub kept_arm : (room behind : ℕ) (a : Note) → b ≡ false → a ≡ note_of e → room ≡ room_of w.size_of a.kind → behind ≡ free + room → first ≡ value_top w free e → second ≡ along_top w behind ss → n ≡ max first second → n ≡ assigned_top w free ss e b
  kept_arm room behind a y x u v p r m =
      let way : second ≡ along_top w (free + room_of w.size_of (note_of e).kind) ss = r ∙ ap (λ k. along_top w k ss) (v ∙ ap (λ k. free + k) (u ∙ ap (λ z. room_of w.size_of z.kind) x)) in
      both n first second (value_top w free e) (along_top w (free + room_of w.size_of (note_of e).kind) ss) m p way ∙ ap (assigned_top w free ss e) (sym y)

-- ---- nodes of several parts

module _ (w : Plan) (free : ℕ) (e : Expr Note) (n : ℕ) where
  pub place_arm : (a : Note) (q : CodePlace Note) (room behind way : ℕ) → e ≡ node.Place a q → room ≡ room_of w.size_of a.kind → behind ≡ free + room → way ≡ along_top w free (place_of q).1 → n ≡ max way behind → n ≡ value_top w free (expression_of e)
  place_arm a q room behind way at r b p m =
      both n way behind (along_top w free (place_of q).1) (free + room_of w.size_of a.kind) m p (b ∙ ap (λ k. free + k) r) ∙ ap (value_top w free) (sym (ap expression_of at ∙ expression_of-Place a q))

  pub chain_arm : (a : Note) (first f : Expr Note) (ts us : List (Tail Note)) (one others : ℕ) → e ≡ node.Chain a first ts → f ≡ first → us ≡ ts → one ≡ value_top w free (expression_of f) → others ≡ tails_top w free (tails_of us) → n ≡ max one others
      → n ≡ value_top w free (expression_of e)
  chain_arm a first f ts us one others at x y p q m =
      both n one others (value_top w free (expression_of first)) (tails_top w free (tails_of ts)) m (p ∙ ap (λ z. value_top w free (expression_of z)) x) (q ∙ ap (λ z. tails_top w free (tails_of z)) y)
      ∙ ap (value_top w free) (sym (ap expression_of at ∙ expression_of-Chain a first ts))

module _ (w : Plan) (free : ℕ) (s : Stmt Note) (n : ℕ) where
  pub attempt_arm : (line : ℕ) (a : Note) (q : CodePlace Note) (e : Expr Note) (first second : ℕ) → s ≡ code.Attempt line a q e → first ≡ value_top w free (expression_of e) → second ≡ along_top w free (place_of q).1 → n ≡ max first second → n ≡ effect_top w free (statement_of s)
  attempt_arm line a q e first second at p r m =
      both n first second (value_top w free (expression_of e)) (along_top w free (place_of q).1) m p r ∙ ap (effect_top w free) (sym (ap statement_of at ∙ statement_of-Attempt line a q e))

  pub if_arm : (line : ℕ) (bs xs : List (Branch Note)) (o : CodeOtherwise Note) (first second : ℕ) → s ≡ code.If line bs o → xs ≡ bs → first ≡ branches_top w free (branches_of xs) → second ≡ otherwise_top w free (otherwise_of o) → n ≡ max first second
      → n ≡ effect_top w free (statement_of s)
  if_arm line bs xs o first second at x p q m =
      both n first second (branches_top w free (branches_of bs)) (otherwise_top w free (otherwise_of o)) m (p ∙ ap (λ z. branches_top w free (branches_of z)) x) q ∙ ap (effect_top w free) (sym (ap statement_of at ∙ statement_of-If line bs o))

  pub case_arm : (line : ℕ) (e : Expr Note) (cs xs : List (CodeCase Note)) (o : CodeOtherwise Note) (first second third inner : ℕ) → s ≡ code.Case line e cs o → xs ≡ cs → first ≡ value_top w free (expression_of e) → second ≡ cases_top w free (cases_of xs)
      → third ≡ otherwise_top w free (otherwise_of o) → inner ≡ max second third → n ≡ max first inner → n ≡ effect_top w free (statement_of s)
  case_arm line e cs xs o first second third inner at x p q r i m =
      let rest = both inner second third (cases_top w free (cases_of cs)) (otherwise_top w free (otherwise_of o)) i (q ∙ ap (λ z. cases_top w free (cases_of z)) x) r in
      both n first inner (value_top w free (expression_of e)) (max (cases_top w free (cases_of cs)) (otherwise_top w free (otherwise_of o))) m p rest ∙ ap (effect_top w free) (sym (ap statement_of at ∙ statement_of-Case line e cs o))

  pub while_arm : (line : ℕ) (e : Expr Note) (body xs : List (Stmt Note)) (first second : ℕ) → s ≡ code.While line e body → xs ≡ body → first ≡ value_top w free (expression_of e) → second ≡ effects_top w free (statements_of xs) → n ≡ max first second → n ≡ effect_top w free (statement_of s)
  while_arm line e body xs first second at x p q m =
      both n first second (value_top w free (expression_of e)) (effects_top w free (statements_of body)) m p (q ∙ ap (λ z. effects_top w free (statements_of z)) x) ∙ ap (effect_top w free) (sym (ap statement_of at ∙ statement_of-While line e body))

  pub repeat_arm : (line : ℕ) (body xs : List (Stmt Note)) (e : Expr Note) (first second : ℕ) → s ≡ code.Repeat line body e → xs ≡ body → first ≡ effects_top w free (statements_of xs) → second ≡ value_top w free (expression_of e) → n ≡ max first second → n ≡ effect_top w free (statement_of s)
  repeat_arm line body xs e first second at x p q m =
      both n first second (effects_top w free (statements_of body)) (value_top w free (expression_of e)) m (p ∙ ap (λ z. effects_top w free (statements_of z)) x) q ∙ ap (effect_top w free) (sym (ap statement_of at ∙ statement_of-Repeat line body e))

  pub for_arm : (line : ℕ) (a : Note) (name : List ℕ) (from to : Expr Note) (by : Option (Expr Note)) (body xs : List (Stmt Note)) (step behind first second third fourth i1 i2 i3 : ℕ) → s ≡ code.For line a name from to by body → xs ≡ body → step ≡ free + 8 → behind ≡ free + 16
      → first ≡ value_top w free (expression_of from) → second ≡ value_top w free (expression_of to) → third ≡ step_top w step (option_map expression_of by) → fourth ≡ effects_top w behind (statements_of xs)
      → i1 ≡ max behind fourth → i2 ≡ max third i1 → i3 ≡ max second i2 → n ≡ max first i3 → n ≡ effect_top w free (statement_of s)
  for_arm line a name from to by body xs step behind first second third fourth i1 i2 i3 at x u v p q r t m1 m2 m3 m4 =
      let body_top = effects_top w (free + 16) (statements_of body) in
      let third_is : third ≡ step_top w (free + 8) (option_map expression_of by) = r ∙ ap (λ k. step_top w k (option_map expression_of by)) u in
      let fourth_is : fourth ≡ body_top = t ∙ ap (λ k. effects_top w k (statements_of xs)) v ∙ ap (λ z. effects_top w (free + 16) (statements_of z)) x in
      let a1 : i1 ≡ max (free + 16) body_top = both i1 behind fourth (free + 16) body_top m1 v fourth_is in
      let a2 : i2 ≡ max (step_top w (free + 8) (option_map expression_of by)) (max (free + 16) body_top) = both i2 third i1 _ _ m2 third_is a1 in
      let a3 : i3 ≡ max (value_top w free (expression_of to)) (max (step_top w (free + 8) (option_map expression_of by)) (max (free + 16) body_top)) = both i3 second i2 _ _ m3 q a2 in
      both n first i3 (value_top w free (expression_of from)) (max (value_top w free (expression_of to)) (max (step_top w (free + 8) (option_map expression_of by)) (max (free + 16) body_top))) m4 p a3
      ∙ ap (effect_top w free) (sym (ap statement_of at ∙ statement_of-For line a name from to by body))

module _ (w : Plan) (free : ℕ) (e : Expr Note) (a : Note) (q : CodePlace Note) (ys xs : List (CodeArgument Note)) (room block : ℕ) (k : CallPlan) (at : e ≡ node.Call a q ys) (same : xs ≡ ys) (r : room ≡ room_of w.size_of a.kind) (b : block ≡ free + room)
    (h : IsCallPlan w (place_of q).0 (place_of q).1 (arguments_of xs) block k) where
  -- what a call that gives a value uses, by what its arguments are seen as
  whole : (n : ℕ) → n ≡ call_top (callee_of (place_of q).0 (place_of q).1) (operand_top w free (arguments_of xs)) (parts w free block (place_of q).0 (place_of q).1 (arguments_of xs) k h) → n ≡ value_top w free (expression_of e)
  whole n x =
      let rooms : block ≡ free + room_of w.size_of a.kind = b ∙ ap (λ m. free + m) r in
      x ∙ ap (λ m. by m (arguments_of xs)) rooms ∙ ap (λ zs. by (free + room_of w.size_of a.kind) (arguments_of zs)) same ∙ ap (value_top w free) (sym (ap expression_of at ∙ expression_of-Call a q ys))
    where
      by : ℕ → Arguments Note → ℕ
      by base zs =
          let ps = w.parameters (called_of (place_of q).0 (place_of q).1) in
          let behind = behind_outputs w (base + block_size (length ps)) zs in
          call_top (callee_of (place_of q).0 (place_of q).1) (operand_top w free zs) (max (along_top w free (place_of q).1) (max behind (max (arguments_top w behind ps ps zs) (outputs_top w behind zs))))

  pub conversion_arm : (x : Result ℕ NoMemory) → is_conversion (callee_seen k.callee) ≡ true → IfOk x (λ n. n ≡ operand_top w free (arguments_of xs)) → IfOk x (λ n. n ≡ value_top w free (expression_of e))
  conversion_arm x c y = IfOk-weaker x (λ n. n ≡ call_top (callee_of (place_of q).0 (place_of q).1) (operand_top w free (arguments_of xs)) (parts w free block (place_of q).0 (place_of q).1 (arguments_of xs) k h)) (λ n. n ≡ value_top w free (expression_of e)) whole
      (conversion_same w free block (place_of q).0 (place_of q).1 (arguments_of xs) k h x c y)

  pub call_arm : (way given left inner rest n : ℕ) → is_conversion (callee_seen k.callee) ≡ false → way ≡ along_top w free (place_of q).1
      → given ≡ arguments_top w k.free (parameters_of k.parameters.now) (parameters_of k.parameters.now) (arguments_of xs) → left ≡ outputs_top w k.free (arguments_of xs) → inner ≡ max given left → rest ≡ max k.free inner → n ≡ max way rest → n ≡ value_top w free (expression_of e)
  call_arm way given left inner rest n c p g l i j m = whole n (call_goes w free block (place_of q).0 (place_of q).1 (arguments_of xs) k h way given left inner rest n c p g l i j m)

-- ---- the first argument

module _ (w : Plan) (free : ℕ) (x : CodeArgument Note) where
  pub operand_given : (ys : List (CodeArgument Note)) (v : Expr Note) → Some x ≡ slice_get ys 0 → x ≡ argument.Positional v → value_top w free (expression_of v) ≡ operand_top w free (arguments_of ys)
  operand_given [] v h q = cc
  operand_given (y ∷ ys) v h q =
      let same : y ≡ x = cc in
      let is : argument_of y ≡ Positional (expression_of v) = ap argument_of (same ∙ q) ∙ argument_of-Positional v in
      ap (λ z. operand_top w free (argument_then z (arguments_of ys))) (sym is)

  pub operand_input : (ys : List (CodeArgument Note)) (a : Note) (n : List ℕ) (v : Expr Note) → Some x ≡ slice_get ys 0 → x ≡ argument.Input a n v → free ≡ operand_top w free (arguments_of ys)
  operand_input [] a n v h q = cc
  operand_input (y ∷ ys) a n v h q =
      let same : y ≡ x = cc in
      let is : argument_of y ≡ Input a n (expression_of v) = ap argument_of (same ∙ q) ∙ argument_of-Input a n v in
      ap (λ z. operand_top w free (argument_then z (arguments_of ys))) (sym is)

  pub operand_output : (ys : List (CodeArgument Note)) (a : Note) (n : List ℕ) (b : Note) (p : CodePlace Note) → Some x ≡ slice_get ys 0 → x ≡ argument.Output a n b p → free ≡ operand_top w free (arguments_of ys)
  operand_output [] a n b p h q = cc
  operand_output (y ∷ ys) a n b p h q =
      let same : y ≡ x = cc in
      let is : argument_of y ≡ Output a n b (place_of p).0 (place_of p).1 = ap argument_of (same ∙ q) ∙ argument_of-Output a n b p in
      ap (λ z. operand_top w free (argument_then z (arguments_of ys))) (sym is)

-- ---- branches

module _ (w : Plan) (free : ℕ) where
  pub branch_arm : (b : Branch Note) (xs : List (Stmt Note)) (first second n : ℕ) → xs ≡ b.body → first ≡ value_top w free (expression_of b.condition) → second ≡ effects_top w free (statements_of xs) → n ≡ max first second → n ≡ branch_top w free (branch_of b).0 (branch_of b).1
  branch_arm b xs first second n x p q m =
      both n first second (value_top w free (expression_of b.condition)) (effects_top w free (statements_of b.body)) m p (q ∙ ap (λ z. effects_top w free (statements_of z)) x) ∙ ap (λ z. branch_top w free z.0 z.1) (sym (branch_of-is b))

  pub case_branch_arm : (b : CodeCase Note) (xs : List (Stmt Note)) (r : Result ℕ NoMemory) → xs ≡ b.body → IfOk r (λ n. n ≡ effects_top w free (statements_of xs)) → IfOk r (λ n. n ≡ effects_top w free (case_branch_of b).1)
  case_branch_arm b xs r x h = told_same r (effects_top w free (statements_of xs)) (effects_top w free (case_branch_of b).1) (ap (λ z. effects_top w free (statements_of z)) x ∙ ap (λ z. effects_top w free z.1) (sym (case_branch_of-is b))) h
