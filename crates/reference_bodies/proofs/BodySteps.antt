-- Statements, branches and cases one by one: what is left begins with the next one.
use Rattle.std.proofs.Common.{◌≡◌, ℕ, ℤ, ◌+◌, ◌<◌, ◌≤◌, Bool, true, false, List, Option, Some, None, Result, Ok, Err, refl, sym, ap, ◌∙◌, drop, get_or, length, option_map}
use Rattle.std.specs.Prelude.{is_some}
use Rattle.st_tree.specs.declared.program.Note.{Note}
use Rattle.st_tree.specs.declared.statement.Branch.{Branch}
use Rattle.st_tree.specs.declared.statement.Case.{Case}
use Rattle.st_tree.specs.declared.statement.Stmt.{Stmt}
use Rattle.st_tree.specs.Expression.{expression_of}
use Rattle.st_tree.specs.Statement.{statement_of, statements_of, branches_of, cases_of}
use Rattle.st_rules.proofs.ListLaws.{drop-at, drop-end}
use Rattle.st_values.specs.Program.{Program}
use Rattle.st_meaning.specs.State.{State, Outcome, Done, Fault, Run, go_on}
use Rattle.st_meaning.specs.Call.{Enter}
use Rattle.st_meaning.specs.Loop.{Flow, goes_on, exits, continues, returns, unless_left}
use Rattle.st_meaning.specs.Statement.{effect, effects}
use Rattle.run_state.specs.declared.state.Stop.{Stop}
use Rattle.run_state.specs.State.{Shows}
use Rattle.reference_bodies.specs.declared.flow.Flow.{Flow as CodeFlow}
use Rattle.reference_bodies.specs.Flow.{flow_of}
use Rattle.reference_bodies.specs.Private.Turns.{is_on, or_next, one_branch, one_case, in_branch, in_case}
use Rattle.reference_bodies.proofs.ListLaws.{branches_next, cases_next}
use Rattle.reference_values.proofs.LoopSteps.{next, stopped}

-- the statement behind comes, or it does not
on_rest : (flow : Flow) (rest : Run Flow) (line : ℕ) (t : State) → is_on flow ≡ true → rest line t ≡ unless_left flow rest line t
on_rest goes_on rest line t e = refl
on_rest exits rest line t e = absurd cc
on_rest continues rest line t e = absurd cc
on_rest returns rest line t e = absurd cc

off_rest : (flow : Flow) (rest : Run Flow) (line : ℕ) (t : State) → is_on flow ≡ false → unless_left flow rest line t ≡ Done flow t
off_rest goes_on rest line t e = absurd cc
off_rest exits rest line t e = refl
off_rest continues rest line t e = refl
off_rest returns rest line t e = refl

module _ (p : Program) (enter : Enter) (line : ℕ) (s : State) (i : ℕ) (xs : List (Stmt Note)) (x : Stmt Note) (w : Outcome Flow) (inside : i < length xs) (x_is : x ≡ get_or xs i x)
    (inv : effects p enter (statements_of (drop i xs)) line s ≡ w) where
  abbrev behind : Run Flow
  behind = effects p enter (statements_of (drop (i + 1) xs))

  abbrev first : Outcome Flow
  first = effect p enter (statement_of x) line s

  effects_at : effects p enter (statements_of (drop i xs)) line s ≡ go_on first (λ flow u. unless_left flow behind line u)
  effects_at = ap (λ us. effects p enter (statements_of us) line s) (drop-at xs i x inside x_is)

  pub statement_goes : (flow : Flow) (t : State) → first ≡ Done flow t → is_on flow ≡ true → behind line t ≡ w
  statement_goes flow t e on = on_rest flow behind line t on ∙ next first (λ f u. unless_left f behind line u) _ w flow t effects_at e inv

  pub statement_leaves : (flow : Flow) (t : State) → first ≡ Done flow t → is_on flow ≡ false → w ≡ Done flow t
  statement_leaves flow t e off = sym (next first (λ f u. unless_left f behind line u) _ w flow t effects_at e inv) ∙ off_rest flow behind line t off

  pub statement_stops : (stop : Stop) (t : State) → Shows {C = CodeFlow} flow_of (Err stop) first t → Shows {C = CodeFlow} flow_of (Err stop) w t
  statement_stops stop t h = stopped flow_of flow_of stop first (λ f u. unless_left f behind line u) _ w t effects_at inv h

pub statements_end : (p : Program) (enter : Enter) (line : ℕ) (s : State) (i : ℕ) (xs : List (Stmt Note)) (w : Outcome Flow) → effects p enter (statements_of (drop i xs)) line s ≡ w → length xs ≤ i → w ≡ Done goes_on s
statements_end p enter line s i xs w inv l = sym inv ∙ ap (λ us. effects p enter (statements_of us) line s) (drop-end xs i l)

-- ---- branches and cases, by the first one

or_rest : (x : Option Flow) (rest : Run (Option Flow)) (line : ℕ) (t : State) → is_some x ≡ false → rest line t ≡ or_next x rest line t
or_rest None rest line t e = refl
or_rest (Some flow) rest line t e = absurd cc

or_found : (x : Option Flow) (rest : Run (Option Flow)) (line : ℕ) (t : State) → is_some x ≡ true → or_next x rest line t ≡ Done x t
or_found None rest line t e = absurd cc
or_found (Some flow) rest line t e = refl

module _ (line : ℕ) (o : Outcome (Option Flow)) (rest : Run (Option Flow)) (here w : Outcome (Option Flow)) (begins : here ≡ go_on o (λ x u. or_next x rest line u)) (inv : here ≡ w) where
  pub branch_goes : (x : Option Flow) (t : State) → o ≡ Done x t → is_some x ≡ false → rest line t ≡ w
  branch_goes x t e none = or_rest x rest line t none ∙ next o (λ y u. or_next y rest line u) here w x t begins e inv

  pub branch_ends : (x : Option Flow) (t : State) → o ≡ Done x t → is_some x ≡ true → w ≡ Done x t
  branch_ends x t e some = sym (next o (λ y u. or_next y rest line u) here w x t begins e inv) ∙ or_found x rest line t some

  pub branch_stops : (stop : Stop) (t : State) → Shows {C = Option CodeFlow} (option_map flow_of) (Err stop) o t → Shows {C = Option CodeFlow} (option_map flow_of) (Err stop) w t
  branch_stops stop t h = stopped (option_map flow_of) (option_map flow_of) stop o (λ x u. or_next x rest line u) here w t begins inv h

module _ (p : Program) (enter : Enter) (line : ℕ) (s : State) (i : ℕ) where
  pub branches_at : (bs : List (Branch Note)) (b : Branch Note) → i < length bs → b ≡ get_or bs i b →
      in_branch p enter (branches_of (drop i bs)) line s ≡ go_on (one_branch p enter (expression_of b.condition) (statements_of b.body) line s) (λ x u. or_next x (in_branch p enter (branches_of (drop (i + 1) bs))) line u)
  branches_at bs b l e = ap (λ us. in_branch p enter us line s) (branches_next bs i b l e)

  pub branches_end : (bs : List (Branch Note)) (w : Outcome (Option Flow)) → in_branch p enter (branches_of (drop i bs)) line s ≡ w → length bs ≤ i → w ≡ Done None s
  branches_end bs w inv l = sym inv ∙ ap (λ us. in_branch p enter (branches_of us) line s) (drop-end bs i l)

  pub cases_at : (z : ℤ) (cs : List (Case Note)) (c : Case Note) → i < length cs → c ≡ get_or cs i c →
      in_case p enter z (cases_of (drop i cs)) line s ≡ go_on (one_case p enter z c.labels (statements_of c.body) line s) (λ x u. or_next x (in_case p enter z (cases_of (drop (i + 1) cs))) line u)
  cases_at z cs c l e = ap (λ us. in_case p enter z us line s) (cases_next cs i c l e)

  pub cases_end : (z : ℤ) (cs : List (Case Note)) (w : Outcome (Option Flow)) → in_case p enter z (cases_of (drop i cs)) line s ≡ w → length cs ≤ i → w ≡ Done None s
  cases_end z cs w inv l = sym inv ∙ ap (λ us. in_case p enter z (cases_of us) line s) (drop-end cs i l)
