-- Cells of code: instructions with their lines, of which jumps say how far they go, so that code has no place of its own.
use Rattle.std.specs.Prelude.{ℕ, ◌+◌, ◌-◌, List, [], ◌∷◌}
use Rattle.stack_code.specs.declared.op.Op.{Op}
use Rattle.stack_code.specs.declared.op.Op.TheVariants as op
use Rattle.code_cells.specs.declared.cell.Cell.{Cell}
use Rattle.code_cells.specs.declared.cell.Cell.TheVariants.{Does as does, Skips as skips, SkipsAt0 as skips_at_0, Returns as returns, ReturnsAt0 as returns_at_0}

-- the instruction of a cell that stands at a place, and its line
abbrev pub settled : ℕ → Cell → Op × ℕ
settled pc (does o line) = (o, line)
settled pc (skips n line) = (op.Jump (pc + 1 + n), line)
settled pc (skips_at_0 n line) = (op.JumpF (pc + 1 + n), line)
settled pc (returns n line) = (op.Jump (pc - n), line)
settled pc (returns_at_0 n line) = (op.JumpF (pc - n), line)

-- code from a place on
abbrev pub settled_from : ℕ → List Cell → List (Op × ℕ)
settled_from pc [] = []
settled_from pc (c ∷ cs) = settled pc c ∷ settled_from (pc + 1) cs

-- where EXIT, CONTINUE and RETURN lead: so many cells behind the end of the code
pub record Targets : Type 0 where
  pub to_exit : ℕ
  pub to_continue : ℕ
  pub to_return : ℕ

-- of code behind which so many more cells stand
abbrev pub behind : ℕ → Targets → Targets
behind n to = record { to_exit = n + to.to_exit; to_continue = n + to.to_continue; to_return = n + to.to_return }
