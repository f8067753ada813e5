-- Which interfaces of a program extend which.
use Rattle.std.specs.Prelude.{ℕ, nat_lt, Bool, false, if◌then◌else◌, List, length}
use Rattle.st_tree.specs.declared.declaration.InterfaceDecl.{InterfaceDecl}
use Rattle.st_tree.specs.declared.program.Note.{Note}
use Rattle.st_rules.specs.Interfaces.{extends}

-- whether one of these is another one of them or extends it
abbrev pub is_extended : List (InterfaceDecl Note) → ℕ → ℕ → Bool
is_extended ds i j = if nat_lt i (length ds) then (if nat_lt j (length ds) then extends ds i j else false) else false
