-- What a refusal of a source says.
use Rattle.std.specs.Prelude.{◌≡◌, ℕ, List}
use Rattle.plc_text.specs.Lines.{line_of}
use Rattle.plc_text.specs.declared.code.Code.{Code}
use Rattle.plc_text.specs.declared.code.Code.TheVariants as codes
use Rattle.plc_text.specs.declared.refusal.Refusal.{Refusal}
use Rattle.plc_text.specs.declared.denied.Denied.{Denied}
use Rattle.plc_text.specs.declared.denied.Denied.TheVariants.{Refused, NoMemory}
use Rattle.st_tree.specs.Token.{Token, BadAfter}
use Rattle.st_tree.specs.Headings.{declaration_before}

-- P holds where the source is refused; want of memory tells nothing
abbrev pub OnRefused : Denied → (Refusal → Type 0) → Type 0
OnRefused (Refused refusal) P = P refusal
OnRefused NoMemory P = Unit {0}

pub record Says (refusal : Refusal) (code : Code) (declaration : List ℕ) (line : ℕ) : Type 0 where
  pub code-is : refusal.code ≡ code
  pub declaration-is : refusal.declaration ≡ declaration
  pub line-is : refusal.line ≡ line

-- the first bad place of the text is refused, with the declaration and the line that it is in
pub record SaysBad (text : List ℕ) (refusal : Refusal) : Type 0 where
  pub before : List Token
  pub place : ℕ
  pub bad : BadAfter text before place
  pub says : Says refusal codes.E01 (declaration_before before) (line_of text place)
