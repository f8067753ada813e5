-- What the language says of a text: the program that it is accepted as, as its meaning sees it, or its refusal.
use Rattle.std.specs.Prelude.{◌≡◌, ℕ, List}
use Rattle.plc_text.specs.declared.refusal.Refusal.{Refusal}
use Rattle.st_tree.specs.declared.program.Program.{Program as CheckedProgram}
use Rattle.st_prelude.specs.Blocks.{standard_blocks}
use Rattle.st_values.specs.Program.{Program}
use Rattle.st_values.specs.View.{program_of}
use Rattle.accepted_texts.specs.st_accepted.Accepted.{Accepted, RefusedFor}

-- with this prelude the text is accepted, and its meaning is that of the program
pub record IsAcceptedAs (prelude text : List ℕ) (p : Program) : Type 0 where
  pub program : CheckedProgram
  pub accepted : Accepted prelude text program
  pub seen : program_of program ≡ p

-- it is refused, and so says the refusal
abbrev pub IsRefusal : List ℕ → List ℕ → Refusal → Type 0
IsRefusal prelude text r = RefusedFor prelude text r.code r.declaration r.line

-- the same of the prelude of the standard blocks
abbrev pub Accepts : List ℕ → Program → Type 0
Accepts = IsAcceptedAs standard_blocks

abbrev pub Holds : List ℕ → CheckedProgram → Type 0
Holds = Accepted standard_blocks

abbrev pub Refuses : List ℕ → Refusal → Type 0
Refuses = IsRefusal standard_blocks
