-- Code that is kept from its last cell to its first.
use Rattle.std.specs.Prelude.{◌≡◌, ◌≤◌, ℕ, suc, ◌+◌, ◌-◌, List, [], ◌∷◌, ◌++◌, length, reverse}
use Rattle.st_tree.specs.declared.program.Note.{Note}
use Rattle.st_tree.specs.declared.statement.Label.{Label}
use Rattle.st_tree.specs.Expression.{Expression, Arguments}
use Rattle.st_tree.specs.Statement.{Statements}
use Rattle.stack_code.specs.declared.op.Op.TheVariants as op
use Rattle.code_cells.specs.declared.cell.Cell.{Cell}
use Rattle.code_cells.specs.declared.cell.Cell.TheVariants.{Does as does, Skips as skips, SkipsAt0 as skips_at_0, Returns as returns, ReturnsAt0 as returns_at_0}
use Rattle.code_cells.specs.Cell.{Targets, behind}
use Rattle.code_rules.specs.Plan.{Plan}
use Rattle.code_rules.specs.Code.{operand_code, value_code}
use Rattle.code_rules.specs.Bodies.{labels_code, effects_code}
use Rattle.codegen_body.specs.declared.destinations.Destinations.{Destinations}

-- how far they lie behind code behind which so many cells stand
abbrev pub targets_at : ℕ → Destinations → Targets
targets_at n d = record { to_exit = n - d.exit; to_continue = n - d.next; to_return = n - d.end }

-- they lie among so many cells
pub record Within (d : Destinations) (n : ℕ) : Type 0 where
  pub exit : d.exit ≤ n
  pub next : d.next ≤ n
  pub end : d.end ≤ n

-- cells were added: behind the end of what is built stands what stood there, and before it what becomes of the code there
pub record Built (f : List Cell → List Cell) (end : ℕ) (old new : List Cell) : Type 0 where
  pub by : (o below : List Cell) → reverse old ≡ o ++ below → length below ≡ end → reverse new ≡ f o ++ below

-- one branch before what stands behind it
abbrev pub branch_before : Plan → ℕ → Targets → ℕ → Expression Note → Statements Note → List Cell → List Cell
branch_before w line to free e body rest =
    let cb = effects_code w (behind (1 + length rest) to) free body in
    value_code w line free e ++ (skips_at_0 (suc (length cb)) line ∷ (cb ++ skips (length rest) line ∷ rest))

abbrev pub case_before : Plan → ℕ → Targets → ℕ → List (Label Note) → Statements Note → List Cell → List Cell
case_before w line to free labels body rest =
    let cb = effects_code w (behind (1 + length rest) to) free body in
    labels_code line labels ++ (skips (2 + length cb) line ∷ (does op.Drop line ∷ (cb ++ skips (length rest) line ∷ rest)))

-- a conversion of which nothing is left
abbrev pub dropped_code : Plan → ℕ → ℕ → Arguments Note → List Cell
dropped_code w line free xs = operand_code w line free xs ++ does op.Drop line ∷ []

-- ---- loops

-- before a body with a jump back behind it stands a jump past both
pub record Passed (line end : ℕ) (old new : List Cell) : Type 0 where
  pub by : (cb below : List Cell) → reverse old ≡ cb ++ returns 0 line ∷ below → length below ≡ end → reverse new ≡ skips_at_0 (suc (length cb)) line ∷ (cb ++ returns 0 line ∷ below)

-- the jump back leads to a tick before all
pub record Rounded (line end : ℕ) (old new : List Cell) : Type 0 where
  pub by : (cs below : List Cell) → reverse old ≡ cs ++ returns 0 line ∷ below → length below ≡ end → reverse new ≡ does op.Tick line ∷ (cs ++ returns (1 + length cs) line ∷ below)

-- a loop: a tick, a condition, past the body where it does not hold, the body, and back
abbrev pub loop_code : List Cell → ℕ → List Cell → List Cell
loop_code condition line cb = does op.Tick line ∷ (condition ++ (skips_at_0 (suc (length cb)) line ∷ (cb ++ returns (1 + length condition + 1 + length cb) line ∷ [])))

-- a body with a jump back behind it became a loop
pub record ClosedCount (condition : List Cell) (line end : ℕ) (old new : List Cell) : Type 0 where
  pub by : (cb below : List Cell) → reverse old ≡ cb ++ returns 0 line ∷ below → length below ≡ end → reverse new ≡ loop_code condition line cb ++ below

-- WHILE has a tick before
pub record Closed (condition : List Cell) (line end : ℕ) (old new : List Cell) : Type 0 where
  pub by : (cb below : List Cell) → reverse old ≡ cb ++ returns 0 line ∷ below → length below ≡ end → reverse new ≡ (does op.Tick line ∷ loop_code condition line cb) ++ below

-- body and test with a jump back where the test does not hold
pub record ClosedUntil (line end : ℕ) (old new : List Cell) : Type 0 where
  pub by : (cs below : List Cell) → reverse old ≡ cs ++ returns_at_0 0 line ∷ below → length below ≡ end → reverse new ≡ (does op.Tick line ∷ (cs ++ returns_at_0 (length cs) line ∷ [])) ++ below
