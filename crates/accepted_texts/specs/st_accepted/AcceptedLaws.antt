-- Laws of acceptance and refusal.
use Rattle.std.specs.Prelude.{◌≡◌, ◌⊎◌, ℕ, false, List}
use Rattle.plc_text.specs.Code.{is_e17}
use Rattle.plc_text.specs.declared.code.Code.{Code}
use Rattle.st_tree.specs.declared.program.Program.{Program}
use Rattle.st_tree.specs.declared.unit.Unit.{Unit as ProgramText}
use Rattle.st_prelude.specs.Prelude.{IsPrelude}
use Rattle.accepted_texts.specs.st_accepted.Accepted.{Accepted, RefusedFor}

pub record AcceptedLaws : Type 0 where
  -- a text is accepted as at most one program
  pub one_program : (prelude text : List ℕ) (p q : Program) → Accepted prelude text p → Accepted prelude text q → p ≡ q
  -- what is accepted is not refused
  pub never_both : (prelude text : List ℕ) (p : Program) (code : Code) (declaration : List ℕ) (line : ℕ) → Accepted prelude text p → RefusedFor prelude text code declaration line → ⊥
  -- a text has one refusal
  pub one_refusal : (prelude text : List ℕ) (code code' : Code) (declaration declaration' : List ℕ) (line line' : ℕ) → RefusedFor prelude text code declaration line → RefusedFor prelude text code' declaration' line'
      → (code ≡ code') × (declaration ≡ declaration') × (line ≡ line')
  -- before declarations that are read, every text is accepted or refused
  pub one_or_other : (prelude text : List ℕ) (blocks : ProgramText) → IsPrelude prelude blocks
      → ((p : Program) × Accepted prelude text p) ⊎ ((code : Code) × (declaration : List ℕ) × (line : ℕ) × RefusedFor prelude text code declaration line)
  -- no text has the refusal of a hook
  pub no_hook : (prelude text : List ℕ) (code : Code) (declaration : List ℕ) (line : ℕ) → RefusedFor prelude text code declaration line → is_e17 code ≡ false
