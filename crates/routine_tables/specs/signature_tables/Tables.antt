-- Tables of what methods of interfaces may be given.
use Rattle.std.specs.Prelude.{◌≡◌, ℕ, List, length}
use Rattle.st_tree.specs.declared.program.Program.{Program}
use Rattle.routine_tables.specs.declared.signature_tables.tables.SignatureTables.{SignatureTables}
use Rattle.routine_tables.specs.signature_tables.Private.Declarers.{signed_in, named_from}

-- the tables hold the number of interfaces, and the methods of each name, in the order of the text, with what they may be given
pub record Declares (p : Program) (t : SignatureTables) : Type 0 where
  pub count : t.interfaces ≡ length p.interfaces
  pub methods : (name : List ℕ) → signed_in t.methods name ≡ named_from name 0 p.interfaces
