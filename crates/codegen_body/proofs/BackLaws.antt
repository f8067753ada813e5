-- Code before code, kept from its last cell to its first.
use Rattle.std.proofs.Common.{◌≡◌, ℕ, suc, ◌+◌, ◌-◌, ◌<◌, ◌≤◌, List, [], ◌∷◌, ◌++◌, length, take, drop, get_or, reverse, refl, sym, ap, ◌∙◌, subst, arith, append_assoc, length-append}
use Rattle.std.proofs.lemmas.List.{reverse-append, length-reverse, take-append-drop, length-drop}
use Rattle.st_rules.proofs.ListLaws.{drop-at, drop-end}
use Rattle.st_tree.specs.declared.program.Note.{Note}
use Rattle.st_tree.specs.declared.statement.Branch.{Branch}
use Rattle.st_tree.specs.declared.statement.Case.{Case as CodeCase}
use Rattle.st_tree.specs.declared.statement.Label.{Label}
use Rattle.st_tree.specs.declared.statement.Otherwise.{Otherwise as CodeOtherwise}
use Rattle.st_tree.specs.declared.statement.Stmt.{Stmt}
use Rattle.st_tree.specs.declared.statement.Stmt.TheVariants as code
use Rattle.st_tree.specs.declared.expression.Argument.{Argument as CodeArgument}
use Rattle.st_tree.specs.declared.expression.Expr.{Expr}
use Rattle.st_tree.specs.declared.expression.Place.{Place as CodePlace}
use Rattle.st_tree.specs.Expression.{Expression, arguments_of, expression_of, place_of}
use Rattle.st_tree.specs.Statement.{Statements, branches_of, branch_of, branch_of-is, branch_then, cases_of, case_branch_of, case_branch_of-is, case_then, otherwise_of, statement_of, statement_of-Call, statement_of-If, statement_of-Case, statement_then, statements_of}
use Rattle.stack_code.specs.declared.op.Op.TheVariants as op
use Rattle.code_cells.specs.declared.cell.Cell.{Cell}
use Rattle.code_cells.specs.declared.cell.Cell.TheVariants.{Does as does, Skips as skips, SkipsAt0 as skips_at_0}
use Rattle.code_cells.specs.Cell.{Targets, behind}
use Rattle.code_rules.specs.Plan.{Plan}
use Rattle.code_rules.specs.Code.{value_code}
use Rattle.code_rules.specs.Bodies.{call_code, labels_code, effect_code, effects_code, branches_code, cases_code, otherwise_code}
use Rattle.codegen_body.specs.declared.destinations.Destinations.{Destinations}
use Rattle.codegen_body.specs.Backward.{targets_at, Within, Built, branch_before, case_before}

-- one more cell before
pub pushed : (old new : List Cell) (x : Cell) → new ≡ old ++ x ∷ [] → reverse new ≡ x ∷ reverse old
pushed old new x h = ap reverse h ∙ reverse-append old (x ∷ [])

pub targets_behind : (n k m : ℕ) (d : Destinations) → n ≡ k + m → Within d m → targets_at n d ≡ behind k (targets_at m d)
targets_behind n k m d e h =
    let a : n - d.exit ≡ k + (m - d.exit) = let x = h.exit in omega (arith, x, e) in
    let b : n - d.next ≡ k + (m - d.next) = let x = h.next in omega (arith, x, e) in
    let c : n - d.end ≡ k + (m - d.end) = let x = h.end in omega (arith, x, e) in
    let mk : ℕ → ℕ → ℕ → Targets = λ x y z. record { to_exit = x; to_continue = y; to_return = z } in
    ap (λ x. mk x (n - d.next) (n - d.end)) a ∙ ap (λ y. mk (k + (m - d.exit)) y (n - d.end)) b ∙ ap (λ z. mk (k + (m - d.exit)) (k + (m - d.next)) z) c

-- how long code is that is kept so
pub long : (old o below : List Cell) → reverse old ≡ o ++ below → length old ≡ length o + length below
long old o below h = sym (length-reverse old) ∙ ap length h ∙ length-append o below

module _ (w : Plan) (line free : ℕ) (d : Destinations) (end : ℕ) (inside : Within d end) where
  abbrev to : Targets
  to = targets_at end d

  abbrev body_code : Statements Note → List Cell → List Cell
  body_code body o = effects_code w (behind (1 + length o) to) free body

  -- the jump past what stands there, and a body before it
  body_before : (body : Statements Note) (c0 c1 c2 o below : List Cell) (far : ℕ) → far ≡ length c0 - end → c1 ≡ c0 ++ skips far line ∷ [] → reverse c2 ≡ effects_code w (targets_at (length c1) d) free body ++ reverse c1
      → reverse c0 ≡ o ++ below → length below ≡ end → reverse c2 ≡ body_code body o ++ (skips (length o) line ∷ (o ++ below))
  body_before body c0 c1 c2 o below far f p1 p2 h l =
      let n0 = long c0 o below h in
      let n1 : length c1 ≡ length c0 + 1 = ap length p1 ∙ length-append c0 (skips far line ∷ []) in
      let f' : far ≡ length o = omega (arith, f, n0, l) in
      let t : targets_at (length c1) d ≡ behind (1 + length o) to = targets_behind (length c1) (1 + length o) end d (omega (arith, n0, n1, l)) inside in
      let r : reverse c1 ≡ skips (length o) line ∷ (o ++ below) = pushed c0 c1 (skips far line) p1 ∙ ap (λ x. skips x line ∷ reverse c0) f' ∙ ap (λ x. skips (length o) line ∷ x) h in
      p2 ∙ ap (λ x. effects_code w x free body ++ reverse c1) t ∙ ap (λ x. body_code body o ++ x) r

  pub branch_goes : (e : Expression Note) (body : Statements Note) (c0 c1 c2 c3 c4 : List Cell) (far at past : ℕ) → far ≡ length c0 - end → c1 ≡ c0 ++ skips far line ∷ [] → at ≡ length c1
      → reverse c2 ≡ effects_code w (targets_at (length c1) d) free body ++ reverse c1 → past ≡ length c2 - at + 1 → c3 ≡ c2 ++ skips_at_0 past line ∷ [] → reverse c4 ≡ value_code w line free e ++ reverse c3
      → Built (branch_before w line to free e body) end c0 c4
  branch_goes e body c0 c1 c2 c3 c4 far at past f p1 a p2 q p3 p4 = record {
    by = λ o below h l.
        let cb = body_code body o in
        let v = value_code w line free e in
        let rest = skips (length o) line ∷ (o ++ below) in
        let r2 = body_before body c0 c1 c2 o below far f p1 p2 h l in
        let n0 = long c0 o below h in
        let n1 : length c1 ≡ length c0 + 1 = ap length p1 ∙ length-append c0 (skips far line ∷ []) in
        let n2 : length c2 ≡ length cb + suc (length (o ++ below)) = long c2 cb rest r2 in
        let n3 : length (o ++ below) ≡ length o + length below = length-append o below in
        let past_is : past ≡ suc (length cb) = omega (arith, q, a, n0, n1, n2, n3) in
        p4 ∙ ap (λ x. v ++ x) (pushed c2 c3 (skips_at_0 past line) p3 ∙ ap (λ x. skips_at_0 x line ∷ reverse c2) past_is ∙ ap (λ x. skips_at_0 (suc (length cb)) line ∷ x) r2)
        ∙ sym (append_assoc v (skips_at_0 (suc (length cb)) line ∷ (cb ++ skips (length o) line ∷ o)) below ∙ ap (λ x. v ++ (skips_at_0 (suc (length cb)) line ∷ x)) (append_assoc cb (skips (length o) line ∷ o) below));
  }

  pub case_goes : (labels : List (Label Note)) (body : Statements Note) (c0 c1 c2 c3 c4 c5 : List Cell) (far at past : ℕ) → far ≡ length c0 - end → c1 ≡ c0 ++ skips far line ∷ [] → at ≡ length c1
      → reverse c2 ≡ effects_code w (targets_at (length c1) d) free body ++ reverse c1 → past ≡ length c2 - at + 2 → c3 ≡ c2 ++ does op.Drop line ∷ [] → c4 ≡ c3 ++ skips past line ∷ [] → reverse c5 ≡ labels_code line labels ++ reverse c4
      → Built (case_before w line to free labels body) end c0 c5
  case_goes labels body c0 c1 c2 c3 c4 c5 far at past f p1 a p2 q p3 p4 p5 = record {
    by = λ o below h l.
        let cb = body_code body o in
        let v = labels_code line labels in
        let rest = skips (length o) line ∷ (o ++ below) in
        let r2 = body_before body c0 c1 c2 o below far f p1 p2 h l in
        let n0 = long c0 o below h in
        let n1 : length c1 ≡ length c0 + 1 = ap length p1 ∙ length-append c0 (skips far line ∷ []) in
        let n2 : length c2 ≡ length cb + suc (length (o ++ below)) = long c2 cb rest r2 in
        let n3 : length (o ++ below) ≡ length o + length below = length-append o below in
        let past_is : past ≡ 2 + length cb = omega (arith, q, a, n0, n1, n2, n3) in
        let r3 : reverse c3 ≡ does op.Drop line ∷ (cb ++ rest) = pushed c2 c3 (does op.Drop line) p3 ∙ ap (λ x. does op.Drop line ∷ x) r2 in
        p5 ∙ ap (λ x. v ++ x) (pushed c3 c4 (skips past line) p4 ∙ ap (λ x. skips x line ∷ reverse c3) past_is ∙ ap (λ x. skips (2 + length cb) line ∷ x) r3)
        ∙ sym (append_assoc v (skips (2 + length cb) line ∷ (does op.Drop line ∷ (cb ++ skips (length o) line ∷ o))) below ∙ ap (λ x. v ++ (skips (2 + length cb) line ∷ (does op.Drop line ∷ x))) (append_assoc cb (skips (length o) line ∷ o) below));
  }

-- ---- loops over branches and cases

pub then_built : {f g : List Cell → List Cell} {end : ℕ} {a b c : List Cell} → Built f end a b → Built g end b c → Built (λ o. g (f o)) end a c
then_built {f = f} h k = record { by = λ o below e l. k.by (f o) below (h.by o below e l) l }

-- what stands behind stays
pub built_behind : {f : List Cell → List Cell} {end : ℕ} {a b : List Cell} → Built f end a b → end ≤ length a → end ≤ length b
built_behind {f = f} {end = end} {a = a} {b = b} h l =
    let k = length a - end in
    let o = take k (reverse a) in
    let below = drop k (reverse a) in
    let e : length below ≡ end = let x : length below ≡ length (reverse a) - k = length-drop k (reverse a) in let y : length (reverse a) ≡ length a = length-reverse a in omega (arith, x, y, l) in
    let n = long b (f o) below (h.by o below (sym (take-append-drop k (reverse a))) e) in
    omega (arith, n, e)

module _ (w : Plan) (line free : ℕ) (to : Targets) (end : ℕ) where
  pub branches_next : (bs : List (Branch Note)) (i : ℕ) (b : Branch Note) (a m c : List Cell) → 0 < i → i - 1 < length bs → b ≡ get_or bs (i - 1) b → Built (branches_code w line to free (branches_of (drop i bs))) end a m
      → Built (branch_before w line to free (branch_of b).0 (branch_of b).1) end m c → Built (branches_code w line to free (branches_of (drop (i - 1) bs))) end a c
  branches_next bs i b a m c p l g h k =
      let s : i - 1 + 1 ≡ i = omega (arith, p) in
      let next : branches_of (drop (i - 1) bs) ≡ branch_then (branch_of b).0 (branch_of b).1 (branches_of (drop i bs)) =
      ap branches_of (drop-at bs (i - 1) b l g) ∙ ap (λ n. branch_then (branch_of b).0 (branch_of b).1 (branches_of (drop n bs))) s in
      subst (λ x. Built (branches_code w line to free x) end a c) (sym next) (then_built h k)

  pub cases_next : (cs : List (CodeCase Note)) (i : ℕ) (x : CodeCase Note) (a m c : List Cell) → 0 < i → i - 1 < length cs → x ≡ get_or cs (i - 1) x → Built (cases_code w line to free (cases_of (drop i cs))) end a m
      → Built (case_before w line to free (case_branch_of x).0 (case_branch_of x).1) end m c → Built (cases_code w line to free (cases_of (drop (i - 1) cs))) end a c
  cases_next cs i x a m c p l g h k =
      let s : i - 1 + 1 ≡ i = omega (arith, p) in
      let next : cases_of (drop (i - 1) cs) ≡ case_then (case_branch_of x).0 (case_branch_of x).1 (cases_of (drop i cs)) =
      ap cases_of (drop-at cs (i - 1) x l g) ∙ ap (λ n. case_then (case_branch_of x).0 (case_branch_of x).1 (cases_of (drop n cs))) s in
      subst (λ y. Built (cases_code w line to free y) end a c) (sym next) (then_built h k)

  pub branches_none : (bs : List (Branch Note)) (i : ℕ) (a : List Cell) → length bs ≤ i → Built (branches_code w line to free (branches_of (drop i bs))) end a a
  branches_none bs i a e = subst (λ xs. Built (branches_code w line to free (branches_of xs)) end a a) (sym (drop-end bs i e)) (record { by = λ o below h l. h })

  pub cases_none : (cs : List (CodeCase Note)) (i : ℕ) (a : List Cell) → length cs ≤ i → Built (cases_code w line to free (cases_of (drop i cs))) end a a
  cases_none cs i a e = subst (λ xs. Built (cases_code w line to free (cases_of xs)) end a a) (sym (drop-end cs i e)) (record { by = λ o below h l. h })

-- ---- a list of statements

pub within_more : (d : Destinations) (n m : ℕ) → Within d n → n ≤ m → Within d m
within_more d n m h l = let x = h.exit in let y = h.next in let z = h.end in record { exit = omega (arith, x, l); next = omega (arith, y, l); end = omega (arith, z, l) }

-- what stands behind code that was added stays
pub more_behind : (a c o : List Cell) → reverse c ≡ o ++ reverse a → length a ≤ length c
more_behind a c o h = let n = long c o (reverse a) h in let m = length-reverse a in omega (arith, n, m)

-- so it does where a cell stands between
pub more_under : (a c o : List Cell) (x : Cell) → reverse c ≡ o ++ x ∷ reverse a → length a ≤ length c
more_under a c o x h = let n = long c o (x ∷ reverse a) h in let m = length-reverse a in let k : length (x ∷ reverse a) ≡ suc (length (reverse a)) = refl in omega (arith, n, m, k)

pub pushed_more : (a c : List Cell) (x : Cell) → c ≡ a ++ x ∷ [] → length a ≤ length c
pushed_more a c x h = let n = ap length h ∙ length-append a (x ∷ []) in omega (arith, n)

-- where a loop's body leads
pub inner_within : (d : Destinations) (c0 c1 : List Cell) (end n : ℕ) → end ≡ length c0 → n ≡ length c1 → length c0 ≤ length c1 → Within d (length c0) → Within (record { exit = end; next = n; end = d.end }) (length c1)
inner_within d c0 c1 end n e m l h = let z = h.end in record { exit = omega (arith, e, l); next = omega (arith, m); end = omega (arith, z, l) }

module _ (w : Plan) (free : ℕ) (d : Destinations) (c0 : List Cell) where
  pub statements_none : (ss : List (Stmt Note)) (i : ℕ) → length ss ≤ i → reverse c0 ≡ effects_code w (targets_at (length c0) d) free (statements_of (drop i ss)) ++ reverse c0
  statements_none ss i e = ap (λ xs. effects_code w (targets_at (length c0) d) free (statements_of xs) ++ reverse c0) (sym (drop-end ss i e))

  pub statements_next : (ss : List (Stmt Note)) (i : ℕ) (s : Stmt Note) (a c : List Cell) → Within d (length c0) → 0 < i → i - 1 < length ss → s ≡ get_or ss (i - 1) s
      → reverse a ≡ effects_code w (targets_at (length c0) d) free (statements_of (drop i ss)) ++ reverse c0 → reverse c ≡ effect_code w (targets_at (length a) d) free (statement_of s) ++ reverse a
      → reverse c ≡ effects_code w (targets_at (length c0) d) free (statements_of (drop (i - 1) ss)) ++ reverse c0
  statements_next ss i s a c inside p l g h k =
      let to = targets_at (length c0) d in
      let rest = effects_code w to free (statements_of (drop i ss)) in
      let n : length a ≡ length rest + length c0 = long a rest (reverse c0) h ∙ ap (λ m. length rest + m) (length-reverse c0) in
      let t : targets_at (length a) d ≡ behind (length rest) to = targets_behind (length a) (length rest) (length c0) d n inside in
      let one = effect_code w (behind (length rest) to) free (statement_of s) in
      let before : i - 1 + 1 ≡ i = omega (arith, p) in
      let next : statements_of (drop (i - 1) ss) ≡ statement_then (statement_of s) (statements_of (drop i ss)) =
      ap statements_of (drop-at ss (i - 1) s l g) ∙ ap (λ m. statement_then (statement_of s) (statements_of (drop m ss))) before in
      k ∙ ap (λ y. effect_code w y free (statement_of s) ++ reverse a) t ∙ ap (λ y. one ++ y) h ∙ sym (append_assoc one rest (reverse c0)) ∙ ap (λ y. effects_code w to free y ++ reverse c0) (sym next)

-- ---- statements

module _ (w : Plan) (free : ℕ) (d : Destinations) (s : Stmt Note) (c0 : List Cell) (end : ℕ) (at : end ≡ length c0) where
  pub if_goes : (line : ℕ) (bs xs : List (Branch Note)) (o : CodeOtherwise Note) (c1 c2 c3 : List Cell) → s ≡ code.If line bs o → xs ≡ bs → reverse c1 ≡ otherwise_code w (targets_at (length c0) d) free (otherwise_of o) ++ reverse c0
      → Built (branches_code w line (targets_at end d) free (branches_of xs)) end c1 c2 → c3 ≡ c2 ++ does op.Tick line ∷ [] → reverse c3 ≡ effect_code w (targets_at (length c0) d) free (statement_of s) ++ reverse c0
  if_goes line bs xs o c1 c2 c3 q x h1 h2 h3 =
      pushed c2 c3 (does op.Tick line) h3 ∙ ap (λ y. does op.Tick line ∷ y) (h2.by (otherwise_code w (targets_at (length c0) d) free (otherwise_of o)) (reverse c0) h1 (length-reverse c0 ∙ sym at))
      ∙ ap (λ n. does op.Tick line ∷ (branches_code w line (targets_at n d) free (branches_of xs) (otherwise_code w (targets_at (length c0) d) free (otherwise_of o)) ++ reverse c0)) at
      ∙ ap (λ y. does op.Tick line ∷ (branches_code w line (targets_at (length c0) d) free (branches_of y) (otherwise_code w (targets_at (length c0) d) free (otherwise_of o)) ++ reverse c0)) x
      ∙ ap (λ y. effect_code w (targets_at (length c0) d) free y ++ reverse c0) (sym (ap statement_of q ∙ statement_of-If line bs o))

  pub case_goes_whole : (line : ℕ) (e : Expr Note) (cs xs : List (CodeCase Note)) (o : CodeOtherwise Note) (c1 c2 c3 c4 c5 : List Cell) → s ≡ code.Case line e cs o → xs ≡ cs → reverse c1 ≡ otherwise_code w (targets_at (length c0) d) free (otherwise_of o) ++ reverse c0
      → c2 ≡ c1 ++ does op.Drop line ∷ [] → Built (cases_code w line (targets_at end d) free (cases_of xs)) end c2 c3 → reverse c4 ≡ value_code w line free (expression_of e) ++ reverse c3 → c5 ≡ c4 ++ does op.Tick line ∷ []
      → reverse c5 ≡ effect_code w (targets_at (length c0) d) free (statement_of s) ++ reverse c0
  case_goes_whole line e cs xs o c1 c2 c3 c4 c5 q x h1 h2 h3 h4 h5 =
      let other = does op.Drop line ∷ otherwise_code w (targets_at (length c0) d) free (otherwise_of o) in
      let v = value_code w line free (expression_of e) in
      let r2 : reverse c2 ≡ other ++ reverse c0 = pushed c1 c2 (does op.Drop line) h2 ∙ ap (λ y. does op.Drop line ∷ y) h1 in
      let r3 : reverse c3 ≡ cases_code w line (targets_at (length c0) d) free (cases_of cs) other ++ reverse c0 =
      h3.by other (reverse c0) r2 (length-reverse c0 ∙ sym at) ∙ ap (λ n. cases_code w line (targets_at n d) free (cases_of xs) other ++ reverse c0) at ∙ ap (λ y. cases_code w line (targets_at (length c0) d) free (cases_of y) other ++ reverse c0) x in
      pushed c4 c5 (does op.Tick line) h5 ∙ ap (λ y. does op.Tick line ∷ y) (h4 ∙ ap (λ y. v ++ y) r3 ∙ sym (append_assoc v (cases_code w line (targets_at (length c0) d) free (cases_of cs) other) (reverse c0)))
      ∙ ap (λ y. effect_code w (targets_at (length c0) d) free y ++ reverse c0) (sym (ap statement_of q ∙ statement_of-Case line e cs o))

module _ (w : Plan) (free : ℕ) (d : Destinations) (s : Stmt Note) (c0 : List Cell) where
  pub call_statement_goes : (line : ℕ) (a : Note) (place : CodePlace Note) (arguments xs : List (CodeArgument Note)) (c1 : List Cell) → s ≡ code.Call line a place arguments → xs ≡ arguments
      → reverse c1 ≡ (does op.Tick line ∷ call_code w line free (place_of place).0 (place_of place).1 (arguments_of xs)) ++ reverse c0 → reverse c1 ≡ effect_code w (targets_at (length c0) d) free (statement_of s) ++ reverse c0
  call_statement_goes line a place arguments xs c1 q x h =
      h ∙ ap (λ ys. (does op.Tick line ∷ call_code w line free (place_of place).0 (place_of place).1 (arguments_of ys)) ++ reverse c0) x
      ∙ ap (λ y. effect_code w (targets_at (length c0) d) free y ++ reverse c0) (sym (ap statement_of q ∙ statement_of-Call line a place arguments))

-- a branch and a case of the code
pub branch_seen : (w : Plan) (line free : ℕ) (to : Targets) (end : ℕ) (b : Branch Note) (xs : List (Stmt Note)) (a c : List Cell) → xs ≡ b.body → Built (branch_before w line to free (expression_of b.condition) (statements_of xs)) end a c
    → Built (branch_before w line to free (branch_of b).0 (branch_of b).1) end a c
branch_seen w line free to end b xs a c x h =
    subst (λ y. Built (branch_before w line to free y.0 y.1) end a c) (sym (branch_of-is b)) (subst (λ ys. Built (branch_before w line to free (expression_of b.condition) (statements_of ys)) end a c) x h)

pub case_seen : (w : Plan) (line free : ℕ) (to : Targets) (end : ℕ) (b : CodeCase Note) (ls : List (Label Note)) (xs : List (Stmt Note)) (a c : List Cell) → ls ≡ b.labels → xs ≡ b.body → Built (case_before w line to free ls (statements_of xs)) end a c
    → Built (case_before w line to free (case_branch_of b).0 (case_branch_of b).1) end a c
case_seen w line free to end b ls xs a c l x h =
    subst (λ y. Built (case_before w line to free y.0 y.1) end a c) (sym (case_branch_of-is b))
    (subst (λ ks. Built (case_before w line to free ks (statements_of b.body)) end a c) l (subst (λ ys. Built (case_before w line to free ls (statements_of ys)) end a c) x h))
