-- What is found out about statements and their parts. Labels have numbers of 128 bits in their notes, so a typed tree counts where no rule is broken.
use Rattle.std.specs.Prelude.{◌≡◌, ℕ, Bool, true, false, List, ◌++◌, map, Option, None, option_map}
use Rattle.st_tree.specs.declared.expression.Root.{Root}
use Rattle.st_tree.specs.declared.program.Note.{Note}
use Rattle.st_tree.specs.declared.statement.Label.{Label}
use Rattle.st_tree.specs.declared.statement.LabelEnd.{LabelEnd}
use Rattle.st_tree.specs.Expression.{Expression, Selectors, expression_of, place_of}
use Rattle.st_tree.specs.Statement.{Statement, Statements, Branches, Cases, Otherwise, statement_of, statements_of, branches_of, cases_of, otherwise_of, branch_of, case_branch_of}
use Rattle.st_rules.specs.declared.asked.Asked.{Asked}
use Rattle.st_rules.specs.declared.asked.Asked.TheVariants.{Wanted}
use Rattle.st_rules.specs.Faults.{Faults, least}
use Rattle.st_rules.specs.Kinds.{boolean}
use Rattle.st_rules.specs.Scope.{Scope, sought}
use Rattle.st_rules.specs.Places.{target_faults, place_type}
use Rattle.st_rules.specs.Expressions.{note, meant_target, typed, typed_root, typed_along}
use Rattle.st_rules.specs.Statements.{place_faults, condition_faults, end_faults, end_type, label_end_faults, label_faults, labels_faults, typed_end, typed_label, control_type, control_asked, step_faults, for_faults, statement_faults, statements_faults, branches_faults, cases_faults, otherwise_faults, typed_statement, typed_statements, typed_branches, typed_cases, typed_otherwise, typed_place_root, typed_place_selectors}
use Rattle.check_nodes.specs.declared.wholes.CheckedPlace.{CheckedPlace}
use Rattle.st_check_body.specs.declared.st_body_parts.found.CheckedStatement.{CheckedStatement}
use Rattle.st_check_body.specs.declared.st_body_parts.found.CheckedStatements.{CheckedStatements}
use Rattle.st_check_body.specs.declared.st_body_parts.found.CheckedBranch.{CheckedBranch}
use Rattle.st_check_body.specs.declared.st_body_parts.found.CheckedBranches.{CheckedBranches}
use Rattle.st_check_body.specs.declared.st_body_parts.found.CheckedCase.{CheckedCase}
use Rattle.st_check_body.specs.declared.st_body_parts.found.CheckedCases.{CheckedCases}
use Rattle.st_check_body.specs.declared.st_body_parts.found.CheckedOtherwise.{CheckedOtherwise}
use Rattle.st_check_body.specs.declared.st_body_parts.found.CheckedEnd.{CheckedEnd}
use Rattle.st_check_body.specs.declared.st_body_parts.found.CheckedLabel.{CheckedLabel}
use Rattle.st_check_body.specs.declared.st_body_parts.found.CheckedLabels.{CheckedLabels}
use Rattle.st_check_body.specs.declared.st_body_parts.found.CheckedControl.{CheckedControl}
use Rattle.st_check_body.specs.declared.st_body_parts.found.CheckedStep.{CheckedStep}

-- ---- parts of statements

-- the place on the left of `:=` or `?=`
pub record TargetFinds (x : CheckedPlace) (s : Scope) (r : Root ℕ) (ss : Selectors ℕ) : Type 0 where
  pub broken : x.least ≡ least (place_faults s r ss ++ target_faults s r ss)
  pub tree : place_of x.place ≡ (typed_place_root s r ss, typed_place_selectors s r ss)

-- an end of a label by itself
pub record EndIs (c : CheckedEnd) (s : Scope) (asked : Asked) (x : LabelEnd ℕ) : Type 0 where
  pub told : c.told ≡ end_type s asked x
  pub broken : c.least ≡ least (end_faults s asked x)
  pub tree : c.least ≡ None → c.end ≡ typed_end s asked x

-- an end of a label, which is to suit what is asked for
pub record EndFinds (c : CheckedEnd) (s : Scope) (asked : Asked) (x : LabelEnd ℕ) : Type 0 where
  pub broken : c.least ≡ least (label_end_faults s asked x)
  pub tree : c.least ≡ None → c.end ≡ typed_end s asked x

pub record LabelFinds (c : CheckedLabel) (s : Scope) (asked : Asked) (x : Label ℕ) : Type 0 where
  pub broken : c.least ≡ least (label_faults s asked x)
  pub tree : c.least ≡ None → c.label ≡ typed_label s asked x

pub record LabelsFind (c : CheckedLabels) (s : Scope) (asked : Asked) (xs : List (Label ℕ)) : Type 0 where
  pub broken : c.least ≡ least (labels_faults s asked xs)
  pub tree : c.least ≡ None → c.labels ≡ map (typed_label s asked) xs

-- the step of a FOR, where there is one
pub record StepFinds (c : CheckedStep) (s : Scope) (asked : Asked) (by : Option (Expression ℕ)) : Type 0 where
  pub broken : c.least ≡ least (step_faults s asked by)
  pub step_is : option_map expression_of c.step ≡ option_map (typed s asked) by

-- what stands before DO in a FOR
pub record ControlFinds (c : CheckedControl) (s : Scope) (line : ℕ) (name : List ℕ) (from to : Expression ℕ) (by : Option (Expression ℕ)) : Type 0 where
  pub broken : c.least ≡ least (for_faults s line name from to by)
  pub note_is : c.note ≡ note line (control_type (sought s false name)) (meant_target (sought s false name))
  pub from_is : expression_of c.from ≡ typed s (control_asked s name) from
  pub to_is : expression_of c.to ≡ typed s (control_asked s name) to
  pub by_is : option_map expression_of c.by ≡ option_map (typed s (control_asked s name)) by

-- ---- statements

pub record StatementFinds (c : CheckedStatement) (s : Scope) (in_loop : Bool) (x : Statement ℕ) : Type 0 where
  pub broken : c.least ≡ least (statement_faults s in_loop x)
  pub tree : c.least ≡ None → statement_of c.statement ≡ typed_statement s x

pub record StatementsFind (c : CheckedStatements) (s : Scope) (in_loop : Bool) (xs : Statements ℕ) : Type 0 where
  pub broken : c.least ≡ least (statements_faults s in_loop xs)
  pub tree : c.least ≡ None → statements_of c.statements ≡ typed_statements s xs

pub record BranchFinds (c : CheckedBranch) (s : Scope) (in_loop : Bool) (e : Expression ℕ) (xs : Statements ℕ) : Type 0 where
  pub broken : c.least ≡ least (condition_faults s e ++ statements_faults s in_loop xs)
  pub tree : c.least ≡ None → branch_of c.branch ≡ (typed s (Wanted boolean) e, typed_statements s xs)

pub record BranchesFind (c : CheckedBranches) (s : Scope) (in_loop : Bool) (bs : Branches ℕ) : Type 0 where
  pub broken : c.least ≡ least (branches_faults s in_loop bs)
  pub tree : c.least ≡ None → branches_of c.branches ≡ typed_branches s bs

pub record CaseFinds (c : CheckedCase) (s : Scope) (in_loop : Bool) (asked : Asked) (ls : List (Label ℕ)) (xs : Statements ℕ) : Type 0 where
  pub broken : c.least ≡ least (labels_faults s asked ls ++ statements_faults s in_loop xs)
  pub tree : c.least ≡ None → case_branch_of c.case ≡ (map (typed_label s asked) ls, typed_statements s xs)

pub record CasesFind (c : CheckedCases) (s : Scope) (in_loop : Bool) (asked : Asked) (cs : Cases ℕ) : Type 0 where
  pub broken : c.least ≡ least (cases_faults s in_loop asked cs)
  pub tree : c.least ≡ None → cases_of c.cases ≡ typed_cases s asked cs

pub record OtherwiseFinds (c : CheckedOtherwise) (s : Scope) (in_loop : Bool) (o : Otherwise ℕ) : Type 0 where
  pub broken : c.least ≡ least (otherwise_faults s in_loop o)
  pub tree : c.least ≡ None → otherwise_of c.otherwise ≡ typed_otherwise s o
