-- Branches and cases, the first and the rest.
use Rattle.std.proofs.Common.{◌≡◌, ℕ, ℤ, ◌+◌, ◌<◌, Bool, true, false, List, Option, Some, None, refl, sym, ap, ◌∙◌, drop, get_or, length}
use Rattle.std.specs.Prelude.{if◌then◌else◌}
use Rattle.st_tree.specs.declared.program.Note.{Note}
use Rattle.st_tree.specs.declared.statement.Branch.{Branch}
use Rattle.st_tree.specs.declared.statement.Case.{Case as CodeCase}
use Rattle.st_tree.specs.Expression.{Expression, expression_of}
use Rattle.st_tree.specs.Statement.{Statements, statements_of, Branches, no_branches, branch_then, branch_of-is, branches_of, Cases, no_cases, case_then, case_branch_of-is, cases_of, If, Case, For, Otherwise}
use Rattle.st_rules.proofs.ListLaws.{drop-at}
use Rattle.st_values.specs.Program.{Program}
use Rattle.st_values.specs.Value.{number}
use Rattle.st_meaning.specs.State.{State, Outcome, Done, Fault, Run, go_on, gives, spend, write}
use Rattle.st_meaning.specs.Operation.{is_true, number_in, elem_of}
use Rattle.st_meaning.specs.Place.{named_spot}
use Rattle.st_meaning.specs.Call.{Enter}
use Rattle.st_meaning.specs.Expression.{value}
use Rattle.st_meaning.specs.Loop.{Flow}
use Rattle.st_meaning.specs.Statement.{hold, count, step_value, effect, effects, first_true, first_holding, otherwise_effect}
use Rattle.reference_bodies.specs.declared.bodies.Limits.{Limits}
use Rattle.reference_bodies.specs.Private.Turns.{condition, some_flow, or_else, or_next, case_number, limits, begins, one_branch, one_case, in_branch, in_case}
use Rattle.reference_bodies.proofs.LoopLaws.{one_by_one, go_on_as}

pub branches_next : (bs : List (Branch Note)) (i : ℕ) (b : Branch Note) → i < length bs → b ≡ get_or bs i b → branches_of (drop i bs) ≡ branch_then (expression_of b.condition) (statements_of b.body) (branches_of (drop (i + 1) bs))
branches_next bs i b h e = ap branches_of (drop-at bs i b h e) ∙ ap (λ x. branch_then x.0 x.1 (branches_of (drop (i + 1) bs))) (branch_of-is b)

pub cases_next : (cs : List (CodeCase Note)) (i : ℕ) (c : CodeCase Note) → i < length cs → c ≡ get_or cs i c → cases_of (drop i cs) ≡ case_then c.labels (statements_of c.body) (cases_of (drop (i + 1) cs))
cases_next cs i c h e = ap cases_of (drop-at cs i c h e) ∙ ap (λ x. case_then x.0 x.1 (cases_of (drop (i + 1) cs))) (case_branch_of-is c)

module _ (line : ℕ) (otherwise : Run Flow) where
  same : (o : Outcome Flow) → o ≡ go_on o (λ flow u. Done flow u)
  same (Done flow u) = refl
  same (Fault k l) = refl

  -- the rest of the branches, and then what stands behind them
  abbrev rest_then : Run (Option Flow) → Option Flow → State → Outcome Flow
  rest_then inner o u = go_on (or_next o inner line u) (λ o. or_else otherwise o line)

  chosen : (h : Bool) (body rest : Run Flow) (inner : Run (Option Flow)) (u : State) → rest line u ≡ go_on (inner line u) (λ o. or_else otherwise o line) →
      (if h then body else rest) line u ≡ go_on ((if h then some_flow body else gives None) line u) (rest_then inner)
  chosen true body rest inner u e = same (body line u) ∙ sym (one_by_one (body line u) (λ flow w. Done (Some flow) w) (rest_then inner))
  chosen false body rest inner u e = e

module _ (p : Program) (enter : Enter) where
  pub true_by : (bs : Branches Note) (otherwise : Run Flow) (line : ℕ) (s : State) → first_true p enter bs otherwise line s ≡ go_on (in_branch p enter bs line s) (λ o. or_else otherwise o line)
  true_by no_branches otherwise line s = refl
  true_by (branch_then e body bs) otherwise line s =
      go_on_as (value p enter e line s) (λ v u. (if is_true v then effects p enter body else first_true p enter bs otherwise) line u)
      (λ v u. go_on ((if is_true v then some_flow (effects p enter body) else gives None) line u) (rest_then line otherwise (in_branch p enter bs)))
      (λ v u. chosen line otherwise (is_true v) (effects p enter body) (first_true p enter bs otherwise) (in_branch p enter bs) u (true_by bs otherwise line u))
      ∙ sym (one_by_one (value p enter e line s) (λ v u. Done (is_true v) u) (λ h u. go_on ((if h then some_flow (effects p enter body) else gives None) line u) (rest_then line otherwise (in_branch p enter bs))))
      ∙ sym (one_by_one (condition p enter e line s) (λ h u. (if h then some_flow (effects p enter body) else gives None) line u) (rest_then line otherwise (in_branch p enter bs)))
      ∙ sym (one_by_one (one_branch p enter e body line s) (λ o u. or_next o (in_branch p enter bs) line u) (λ o. or_else otherwise o line))

  pub holding_by : (z : ℤ) (cs : Cases Note) (otherwise : Run Flow) (line : ℕ) (s : State) → first_holding p enter z cs otherwise line s ≡ go_on (in_case p enter z cs line s) (λ o. or_else otherwise o line)
  holding_by z no_cases otherwise line s = refl
  holding_by z (case_then labels body cs) otherwise line s =
      chosen line otherwise (hold labels z) (effects p enter body) (first_holding p enter z cs otherwise) (in_case p enter z cs) s (holding_by z cs otherwise line s)
      ∙ sym (one_by_one (one_case p enter z labels body line s) (λ o u. or_next o (in_case p enter z cs) line u) (λ o. or_else otherwise o line))

  -- ---- statements in two parts

  abbrev pub then_count : ℕ → Note → Statements Note → Limits → State → Outcome Flow
  then_count ln a body c = count (elem_of a.kind) (named_spot a.target) c.end c.step (effects p enter body) ln

  abbrev pub then_begin : ℕ → Note → Statements Note → ℤ → Limits → State → Outcome Flow
  then_begin ln a body first c u = go_on (begins (named_spot a.target) first ln u) (λ z. then_count ln a body c)

  abbrev pub then_limits : ℕ → Note → Expression Note → Option (Expression Note) → Statements Note → ℤ → State → Outcome Flow
  then_limits ln a to by body first u = go_on (limits p enter to by ln u) (then_begin ln a body first)

  pub if_by : (ln : ℕ) (bs : Branches Note) (o : Otherwise Note) (line : ℕ) (s : State) → effect p enter (If ln bs o) line s
      ≡ go_on (spend ln s) (λ a u. go_on (in_branch p enter bs ln u) (λ x. or_else (otherwise_effect p enter o) x ln))
  if_by ln bs o line s = go_on_as (spend ln s) _ _ (λ a u. true_by bs (otherwise_effect p enter o) ln u)

  pub case_by : (ln : ℕ) (e : Expression Note) (cs : Cases Note) (o : Otherwise Note) (line : ℕ) (s : State) → effect p enter (Case ln e cs o) line s
      ≡ go_on (case_number p enter e ln s) (λ z u. go_on (in_case p enter z cs ln u) (λ x. or_else (otherwise_effect p enter o) x ln))
  case_by ln e cs o line s =
      go_on_as (spend ln s) _ _ (λ a u.
      go_on_as (value p enter e ln u) _ _ (λ v w. holding_by (number_in v) cs (otherwise_effect p enter o) ln w)
      ∙ sym (one_by_one (value p enter e ln u) (λ v w. Done (number_in v) w) (λ z w. go_on (in_case p enter z cs ln w) (λ x. or_else (otherwise_effect p enter o) x ln))))
      ∙ sym (one_by_one (spend ln s) (λ a u. go_on (value p enter e ln u) (λ v w. Done (number_in v) w)) (λ z w. go_on (in_case p enter z cs ln w) (λ x. or_else (otherwise_effect p enter o) x ln)))

  pub for_by : (ln : ℕ) (a : Note) (name : List ℕ) (from to : Expression Note) (by : Option (Expression Note)) (body : Statements Note) (line : ℕ) (s : State) → effect p enter (For ln a name from to by body) line s
      ≡ go_on (case_number p enter from ln s) (then_limits ln a to by body)
  for_by ln a name from to by body line s =
      go_on_as (spend ln s) _ _ (λ z1 s1.
      go_on_as (value p enter from ln s1) _ _ (λ first s2.
      go_on_as (value p enter to ln s2) _ _ (λ end s3.
      go_on_as (step_value p enter by ln s3) _ _ (λ step s4.
      sym (one_by_one (named_spot a.target ln s4) (λ spot s5. write spot (number (number_in first)) ln s5) (λ z. then_count ln a body (record { end = number_in end; step = step }))))
      ∙ sym (one_by_one (step_value p enter by ln s3) _ (then_begin ln a body (number_in first))))
      ∙ sym (one_by_one (value p enter to ln s2) _ (then_begin ln a body (number_in first))))
      ∙ sym (one_by_one (value p enter from ln s1) (λ v u. Done (number_in v) u) (then_limits ln a to by body)))
      ∙ sym (one_by_one (spend ln s) (λ z u. go_on (value p enter from ln u) (λ v w. Done (number_in v) w)) (then_limits ln a to by body))
