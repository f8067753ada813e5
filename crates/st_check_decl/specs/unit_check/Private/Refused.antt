-- What is said of a bad declaration, and the refusal that says it.
use Rattle.std.specs.Prelude.{◌≡◌, ℕ, List}
use Rattle.plc_text.specs.declared.code.Code.{Code}
use Rattle.plc_text.specs.declared.refusal.Refusal.{Refusal}
use Rattle.st_check_decl.specs.declared.checked_declarations.so_far.Bad.{Bad}
use Rattle.st_check_decl.specs.declared.checked_declarations.so_far.Bad.TheVariants as bad

-- of the rule that is broken, with the name and the line; want of memory says nothing
abbrev pub IfRule : Bad → (Code → List ℕ → ℕ → Type 0) → Type 0
IfRule (bad.Rule declaration code line) P = P code declaration line
IfRule bad.NoMemory P = Unit {0}

pub record IsRefusal (r : Refusal) (code : Code) (declaration : List ℕ) (line : ℕ) : Type 0 where
  pub code-is : r.code ≡ code
  pub declaration-is : r.declaration ≡ declaration
  pub line-is : r.line ≡ line
