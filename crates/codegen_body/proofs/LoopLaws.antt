-- Loops around their bodies, kept from the last cell to the first.
use Rattle.std.proofs.Common.{◌≡◌, ℕ, suc, ◌+◌, ◌-◌, List, [], ◌∷◌, ◌++◌, length, reverse, Option, sym, ap, ◌∙◌, arith, append_assoc, length-append}
use Rattle.std.specs.Prelude.{slice_set}
use Rattle.std.proofs.lemmas.List.{reverse-append, length-reverse, reverse-reverse}
use Rattle.std.proofs.Math.Seq.{set-append_seam}
use Rattle.st_tree.specs.declared.program.Note.{Note}
use Rattle.st_tree.specs.declared.statement.Stmt.{Stmt}
use Rattle.st_tree.specs.declared.statement.Stmt.TheVariants as code
use Rattle.st_tree.specs.declared.expression.Expr.{Expr}
use Rattle.st_tree.specs.Expression.{expression_of}
use Rattle.st_tree.specs.Statement.{statement_of, statement_of-While, statement_of-Repeat, statement_of-For, statements_of}
use Rattle.stack_code.specs.declared.op.Op.TheVariants as op
use Rattle.code_cells.specs.declared.cell.Cell.{Cell}
use Rattle.code_cells.specs.declared.cell.Cell.TheVariants.{Does as does, SkipsAt0 as skips_at_0, Returns as returns, ReturnsAt0 as returns_at_0}
use Rattle.code_cells.specs.Cell.{Targets}
use Rattle.code_rules.specs.Plan.{Plan}
use Rattle.code_rules.specs.Code.{named_code, value_code}
use Rattle.code_rules.specs.Bodies.{advance_code, effect_code, effects_code, step_code, within_code}
use Rattle.codegen_body.specs.declared.counting.CountKinds.{CountKinds}
use Rattle.codegen_body.specs.declared.destinations.Destinations.{Destinations}
use Rattle.codegen_body.specs.Backward.{targets_at, Within, Passed, Rounded, ClosedCount, Closed, ClosedUntil, loop_code}
use Rattle.codegen_body.specs.Counting.{seen_expression, kinds_of, kept_code, stored_code, head_code}
use Rattle.codegen_body.proofs.BackLaws.{pushed, long}

-- a cell in the midst, turned round
turned_round : (a b : List Cell) (x : Cell) → reverse (a ++ x ∷ b) ≡ reverse b ++ x ∷ reverse a
turned_round a b x = reverse-append a (x ∷ b) ∙ ap (λ y. y ++ reverse a) (reverse-append (x ∷ []) b) ∙ append_assoc (reverse b) (x ∷ []) (reverse a)

-- another cell in the place of one
patched : (c d front below : List Cell) (x y : Cell) (end : ℕ) → reverse c ≡ front ++ x ∷ below → length below ≡ end → d ≡ slice_set c end y → reverse d ≡ front ++ y ∷ below
patched c d front below x y end h l s =
    let c_is : c ≡ reverse below ++ x ∷ reverse front = sym (reverse-reverse c) ∙ ap reverse h ∙ turned_round front below x in
    let place : end ≡ length (reverse below) = sym (length-reverse below ∙ l) in
    let d_is : d ≡ reverse (front ++ y ∷ below) =
    s ∙ ap (λ z. slice_set z end y) c_is ∙ ap (λ n. slice_set (reverse below ++ x ∷ reverse front) n y) place ∙ set-append_seam (reverse below) x (reverse front) y ∙ sym (turned_round front below y) in
    ap reverse d_is ∙ reverse-reverse (front ++ y ∷ below)

module _ (line end : ℕ) where
  pub passed_goes : (c0 c1 : List Cell) (past : ℕ) → past ≡ length c0 - end → c1 ≡ c0 ++ skips_at_0 past line ∷ [] → Passed line end c0 c1
  passed_goes c0 c1 past p h1 = record {
    by = λ cb below h l.
        let n0 = long c0 cb (returns 0 line ∷ below) h in
        let n1 : length (returns 0 line ∷ below) ≡ length below + 1 = omega arith in
        let past_is : past ≡ suc (length cb) = omega (arith, p, n0, n1, l) in
        pushed c0 c1 (skips_at_0 past line) h1 ∙ ap (λ x. skips_at_0 x line ∷ reverse c0) past_is ∙ ap (λ x. skips_at_0 (suc (length cb)) line ∷ x) h;
  }

  pub rounded_goes : (c0 c1 c2 : List Cell) (far : ℕ) → far ≡ length c0 - end → c1 ≡ slice_set c0 end (returns far line) → c2 ≡ c1 ++ does op.Tick line ∷ [] → Rounded line end c0 c2
  rounded_goes c0 c1 c2 far f h1 h2 = record {
    by = λ cs below h l.
        let n0 = long c0 cs (returns 0 line ∷ below) h in
        let n1 : length (returns 0 line ∷ below) ≡ length below + 1 = omega arith in
        let far_is : far ≡ 1 + length cs = omega (arith, f, n0, n1, l) in
        pushed c1 c2 (does op.Tick line) h2
        ∙ ap (λ x. does op.Tick line ∷ x) (patched c0 c1 cs below (returns 0 line) (returns far line) end h l h1 ∙ ap (λ n. cs ++ returns n line ∷ below) far_is);
  }

  pub counted_goes : (ce c0 c1 c2 c3 : List Cell) → Passed line end c0 c1 → reverse c2 ≡ ce ++ reverse c1 → Rounded line end c2 c3 → ClosedCount ce line end c0 c3
  counted_goes ce c0 c1 c2 c3 p h2 q = record {
    by = λ cb below h l.
        let skip = skips_at_0 (suc (length cb)) line in
        let front = ce ++ (skip ∷ cb) in
        let last = returns (1 + length ce + 1 + length cb) line in
        let r2 : reverse c2 ≡ front ++ returns 0 line ∷ below = h2 ∙ ap (λ x. ce ++ x) (p.by cb below h l) ∙ sym (append_assoc ce (skip ∷ cb) (returns 0 line ∷ below)) in
        let n : length front ≡ length ce + suc (length cb) = length-append ce (skip ∷ cb) in
        let far : 1 + length front ≡ 1 + length ce + 1 + length cb = omega (arith, n) in
        let whole : front ++ last ∷ below ≡ (ce ++ (skip ∷ (cb ++ last ∷ []))) ++ below =
        append_assoc ce (skip ∷ cb) (last ∷ below) ∙ sym (append_assoc ce (skip ∷ (cb ++ last ∷ [])) below ∙ ap (λ x. ce ++ (skip ∷ x)) (append_assoc cb (last ∷ []) below)) in
        q.by front below r2 l ∙ ap (λ k. does op.Tick line ∷ (front ++ returns k line ∷ below)) far ∙ ap (λ x. does op.Tick line ∷ x) whole;
  }

  pub closed_goes : (ce c0 c1 c2 : List Cell) → ClosedCount ce line end c0 c1 → c2 ≡ c1 ++ does op.Tick line ∷ [] → Closed ce line end c0 c2
  closed_goes ce c0 c1 c2 k e = record { by = λ cb below h l. pushed c1 c2 (does op.Tick line) e ∙ ap (λ x. does op.Tick line ∷ x) (k.by cb below h l) }

  pub until_goes : (c0 c1 c2 : List Cell) (far : ℕ) → far ≡ length c0 - end - 1 → c1 ≡ slice_set c0 end (returns_at_0 far line) → c2 ≡ c1 ++ does op.Tick line ∷ [] → ClosedUntil line end c0 c2
  until_goes c0 c1 c2 far f h1 h2 = record {
    by = λ cs below h l.
        let n0 = long c0 cs (returns_at_0 0 line ∷ below) h in
        let n1 : length (returns_at_0 0 line ∷ below) ≡ length below + 1 = omega arith in
        let far_is : far ≡ length cs = omega (arith, f, n0, n1, l) in
        let last = returns_at_0 (length cs) line in
        pushed c1 c2 (does op.Tick line) h2
        ∙ ap (λ x. does op.Tick line ∷ x) (patched c0 c1 cs below (returns_at_0 0 line) (returns_at_0 far line) end h l h1 ∙ ap (λ n. cs ++ returns_at_0 n line ∷ below) far_is ∙ sym (append_assoc cs (last ∷ []) below));
  }

-- ---- statements

abbrev targets : ℕ → ℕ → ℕ → Targets
targets x y z = record { to_exit = x; to_continue = y; to_return = z }

same_targets : (a b c x y z : ℕ) → a ≡ x → b ≡ y → c ≡ z → targets a b c ≡ targets x y z
same_targets a b c x y z e f g = ap (λ k. targets k b c) e ∙ ap (λ k. targets x k c) f ∙ ap (λ k. targets x y k) g

module _ (w : Plan) (free : ℕ) (d : Destinations) (s : Stmt Note) (c0 : List Cell) (end : ℕ) (at : end ≡ length c0) (inside : Within d (length c0)) where
  abbrev inner_of : ℕ → Destinations
  inner_of n = record { exit = end; next = n; end = d.end }

  pub while_goes : (line n : ℕ) (e : Expr Note) (body xs : List (Stmt Note)) (c1 c2 c3 : List Cell) → s ≡ code.While line e body → xs ≡ body → c1 ≡ c0 ++ returns 0 line ∷ [] → n ≡ length c1
      → reverse c2 ≡ effects_code w (targets_at (length c1) (inner_of n)) free (statements_of xs) ++ reverse c1
      → Closed (value_code w line free (expression_of e)) line end c2 c3 → reverse c3 ≡ effect_code w (targets_at (length c0) d) free (statement_of s) ++ reverse c0
  while_goes line n e body xs c1 c2 c3 q x h1 m h2 h3 =
      let inner : Targets = targets 1 0 (1 + (length c0 - d.end)) in
      let n1 : length c1 ≡ length c0 + 1 = ap length h1 ∙ length-append c0 (returns 0 line ∷ []) in
      let i = inside.end in
      let a : length c1 - end ≡ 1 = omega (arith, n1, at) in
      let b : length c1 - n ≡ 0 = omega (arith, m) in
      let c : length c1 - d.end ≡ 1 + (length c0 - d.end) = omega (arith, n1, i) in
      let t : targets_at (length c1) (inner_of n) ≡ inner = same_targets _ _ _ _ _ _ a b c in
      let cb = effects_code w inner free (statements_of body) in
      let r2 : reverse c2 ≡ cb ++ returns 0 line ∷ reverse c0 =
      h2 ∙ ap (λ y. effects_code w y free (statements_of xs) ++ reverse c1) t ∙ ap (λ y. effects_code w inner free (statements_of y) ++ reverse c1) x ∙ ap (λ y. cb ++ y) (pushed c0 c1 (returns 0 line) h1) in
      h3.by cb (reverse c0) r2 (length-reverse c0 ∙ sym at) ∙ ap (λ y. effect_code w (targets_at (length c0) d) free y ++ reverse c0) (sym (ap statement_of q ∙ statement_of-While line e body))

  pub repeat_goes : (line n : ℕ) (e : Expr Note) (body xs : List (Stmt Note)) (c1 c2 c3 : List Cell) → s ≡ code.Repeat line body e → xs ≡ body
      → reverse c1 ≡ does op.Tick line ∷ (value_code w line free (expression_of e) ++ returns_at_0 0 line ∷ reverse c0) → n ≡ length c1
      → reverse c2 ≡ effects_code w (targets_at (length c1) (inner_of n)) free (statements_of xs) ++ reverse c1
      → ClosedUntil line end c2 c3 → reverse c3 ≡ effect_code w (targets_at (length c0) d) free (statement_of s) ++ reverse c0
  repeat_goes line n e body xs c1 c2 c3 q x h1 m h2 h3 =
      let ce = value_code w line free (expression_of e) in
      let inner : Targets = targets (1 + length ce + 1) 0 (1 + length ce + 1 + (length c0 - d.end)) in
      let n0 : length (reverse c0) ≡ length c0 = length-reverse c0 in
      let n1 : length c1 ≡ suc (length ce + suc (length (reverse c0))) = sym (length-reverse c1) ∙ ap length h1 ∙ ap suc (length-append ce (returns_at_0 0 line ∷ reverse c0)) in
      let i = inside.end in
      let a : length c1 - end ≡ 1 + length ce + 1 = omega (arith, n0, n1, at) in
      let b : length c1 - n ≡ 0 = omega (arith, m) in
      let c : length c1 - d.end ≡ 1 + length ce + 1 + (length c0 - d.end) = omega (arith, n0, n1, i) in
      let t : targets_at (length c1) (inner_of n) ≡ inner = same_targets _ _ _ _ _ _ a b c in
      let cb = effects_code w inner free (statements_of body) in
      let cs = cb ++ (does op.Tick line ∷ ce) in
      let back : ℕ → Cell = λ k. returns_at_0 k line in
      let r2 : reverse c2 ≡ cs ++ back 0 ∷ reverse c0 =
      h2 ∙ ap (λ y. effects_code w y free (statements_of xs) ++ reverse c1) t ∙ ap (λ y. effects_code w inner free (statements_of y) ++ reverse c1) x ∙ ap (λ y. cb ++ y) h1
      ∙ sym (append_assoc cb (does op.Tick line ∷ ce) (back 0 ∷ reverse c0)) in
      let l : length cs ≡ length cb + suc (length ce) = length-append cb (does op.Tick line ∷ ce) in
      let far : length cs ≡ length cb + 1 + length ce = omega (arith, l) in
      h3.by cs (reverse c0) r2 (length-reverse c0 ∙ sym at)
      ∙ ap (λ k. (does op.Tick line ∷ (cs ++ back k ∷ [])) ++ reverse c0) far
      ∙ ap (λ y. (does op.Tick line ∷ y) ++ reverse c0) (append_assoc cb (does op.Tick line ∷ ce) (back (length cb + 1 + length ce) ∷ []))
      ∙ ap (λ y. effect_code w (targets_at (length c0) d) free y ++ reverse c0) (sym (ap statement_of q ∙ statement_of-Repeat line body e))

  -- what FOR does first, and then its loop
  head_ends : (line : ℕ) (k : CountKinds) (place : List Cell) (from to : Expr Note) (by : Option (Expr Note)) (rest : List Cell)
      → head_code w line free k place (expression_of from) (expression_of to) (seen_expression by) ++ rest
      ≡ value_code w line free (expression_of from) ++ (value_code w line free (expression_of to) ++ (does (op.Local free) line ∷ (does (op.Store k.end) line ∷
      (step_code w line (free + 8) (seen_expression by) ++ (does (op.Local (free + 8)) line ∷ (does (op.Store k.step) line ∷ (place ++ does (op.Store k.variable) line ∷ rest)))))))
  head_ends line k place from to by rest =
      let vf = value_code w line free (expression_of from) in
      let vt = value_code w line free (expression_of to) in
      let step = step_code w line (free + 8) (seen_expression by) in
      let stored = stored_code line k.variable place in
      let first = kept_code line free k.end in
      let second = kept_code line (free + 8) k.step in
      append_assoc vf (vt ++ (first ++ (step ++ (second ++ stored)))) rest
      ∙ ap (λ y. vf ++ y) (append_assoc vt (first ++ (step ++ (second ++ stored))) rest
      ∙ ap (λ y. vt ++ (does (op.Local free) line ∷ (does (op.Store k.end) line ∷ y))) (append_assoc step (second ++ stored) rest
      ∙ ap (λ y. step ++ (does (op.Local (free + 8)) line ∷ (does (op.Store k.step) line ∷ y))) (append_assoc place (does (op.Store k.variable) line ∷ []) rest)))

  pub for_goes : (line n behind : ℕ) (a : Note) (name : List ℕ) (from to : Expr Note) (by : Option (Expr Note)) (body xs : List (Stmt Note)) (k : CountKinds) (c1 c2 c3 c4 : List Cell)
      → s ≡ code.For line a name from to by body → xs ≡ body → k ≡ kinds_of a.kind (expression_of to) (seen_expression by) → behind ≡ free + 16
      → reverse c1 ≡ advance_code line free k.variable k.step (named_code w line a.target) ++ returns 0 line ∷ reverse c0 → n ≡ length c1
      → reverse c2 ≡ effects_code w (targets_at (length c1) (inner_of n)) behind (statements_of xs) ++ reverse c1
      → ClosedCount (within_code line free k.variable k.end k.step (named_code w line a.target)) line end c2 c3
      → reverse c4 ≡ (does op.Tick line ∷ head_code w line free k (named_code w line a.target) (expression_of from) (expression_of to) (seen_expression by)) ++ reverse c3
      → reverse c4 ≡ effect_code w (targets_at (length c0) d) free (statement_of s) ++ reverse c0
  for_goes line n behind a name from to by body xs k c1 c2 c3 c4 q x kq g h1 m h2 h3 h4 =
      let place = named_code w line a.target in
      let advance = advance_code line free k.variable k.step place in
      let test = within_code line free k.variable k.end k.step place in
      let inner : Targets = targets (length advance + 1) 0 (length advance + 1 + (length c0 - d.end)) in
      let n0 : length (reverse c0) ≡ length c0 = length-reverse c0 in
      let n1 : length c1 ≡ length advance + suc (length (reverse c0)) = sym (length-reverse c1) ∙ ap length h1 ∙ length-append advance (returns 0 line ∷ reverse c0) in
      let i = inside.end in
      let ta : length c1 - end ≡ length advance + 1 = omega (arith, n0, n1, at) in
      let tb : length c1 - n ≡ 0 = omega (arith, m) in
      let tc : length c1 - d.end ≡ length advance + 1 + (length c0 - d.end) = omega (arith, n0, n1, i) in
      let t : targets_at (length c1) (inner_of n) ≡ inner = same_targets _ _ _ _ _ _ ta tb tc in
      let cb = effects_code w inner (free + 16) (statements_of body) in
      let back : ℕ → Cell = λ y. returns y line in
      let r2 : reverse c2 ≡ (cb ++ advance) ++ back 0 ∷ reverse c0 =
      h2 ∙ ap (λ y. effects_code w y behind (statements_of xs) ++ reverse c1) t ∙ ap (λ y. effects_code w inner y (statements_of xs) ++ reverse c1) g
      ∙ ap (λ y. effects_code w inner (free + 16) (statements_of y) ++ reverse c1) x ∙ ap (λ y. cb ++ y) h1 ∙ sym (append_assoc cb advance (back 0 ∷ reverse c0)) in
      let l : length (cb ++ advance) ≡ length cb + length advance = length-append cb advance in
      let past : suc (length (cb ++ advance)) ≡ length cb + length advance + 1 = omega (arith, l) in
      let far : 1 + length test + 1 + length (cb ++ advance) ≡ 1 + length test + 1 + length cb + length advance = omega (arith, l) in
      let loop : List Cell = does op.Tick line ∷ (test ++ (skips_at_0 (length cb + length advance + 1) line ∷ (cb ++ (advance ++ back (1 + length test + 1 + length cb + length advance) ∷ [])))) in
      let loop_is : loop_code test line (cb ++ advance) ≡ loop =
      ap (λ y. does op.Tick line ∷ (test ++ (skips_at_0 y line ∷ ((cb ++ advance) ++ back (1 + length test + 1 + length (cb ++ advance)) ∷ [])))) past
      ∙ ap (λ y. does op.Tick line ∷ (test ++ (skips_at_0 (length cb + length advance + 1) line ∷ ((cb ++ advance) ++ back y ∷ [])))) far
      ∙ ap (λ y. does op.Tick line ∷ (test ++ (skips_at_0 (length cb + length advance + 1) line ∷ y))) (append_assoc cb advance (back (1 + length test + 1 + length cb + length advance) ∷ [])) in
      let head = head_code w line free k place (expression_of from) (expression_of to) (seen_expression by) in
      let r4 : reverse c4 ≡ (does op.Tick line ∷ (head ++ loop)) ++ reverse c0 =
      h4 ∙ ap (λ y. (does op.Tick line ∷ head) ++ y) (h3.by (cb ++ advance) (reverse c0) r2 (length-reverse c0 ∙ sym at) ∙ ap (λ y. y ++ reverse c0) loop_is)
      ∙ ap (λ y. does op.Tick line ∷ y) (sym (append_assoc head loop (reverse c0))) in
      let whole : reverse c4 ≡ (does op.Tick line ∷ counted k) ++ reverse c0 = r4 ∙ ap (λ y. (does op.Tick line ∷ y) ++ reverse c0) (head_ends line k place from to by loop) in
      whole ∙ ap (λ y. (does op.Tick line ∷ counted y) ++ reverse c0) kq
      ∙ ap (λ y. effect_code w (targets_at (length c0) d) free y ++ reverse c0) (sym (ap statement_of q ∙ statement_of-For line a name from to by body))
    where
      counted : CountKinds → List Cell
      counted y =
          let place = named_code w line a.target in
          let advance = advance_code line free y.variable y.step place in
          let test = within_code line free y.variable y.end y.step place in
          let cb = effects_code w (targets (length advance + 1) 0 (length advance + 1 + (length c0 - d.end))) (free + 16) (statements_of body) in
          value_code w line free (expression_of from) ++ (value_code w line free (expression_of to) ++ (does (op.Local free) line ∷ (does (op.Store y.end) line ∷
          (step_code w line (free + 8) (seen_expression by) ++ (does (op.Local (free + 8)) line ∷ (does (op.Store y.step) line ∷ (place ++ does (op.Store y.variable) line ∷
          (does op.Tick line ∷ (test ++ (skips_at_0 (length cb + length advance + 1) line ∷ (cb ++ (advance ++ returns (1 + length test + 1 + length cb + length advance) line ∷ []))))))))))))
