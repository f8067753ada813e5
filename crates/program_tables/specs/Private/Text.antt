-- The texts of routines, and their lines.
use Rattle.std.specs.Prelude.{ℕ, ◌-◌, nat_lt, if◌then◌else◌, List, [], length, Option, Some, None, slice_get}
use Rattle.st_tree.specs.declared.declaration.ClassDecl.{ClassDecl}
use Rattle.st_tree.specs.declared.declaration.FunctionDecl.{FunctionDecl}
use Rattle.st_tree.specs.declared.declaration.Method.{Method}
use Rattle.st_tree.specs.declared.declaration.ProgramDecl.{ProgramDecl}
use Rattle.st_tree.specs.declared.program.Note.{Note}
use Rattle.st_tree.specs.declared.program.Program.{Program}
use Rattle.st_tree.specs.declared.statement.Stmt.{Stmt}

abbrev pub function_text : Option (FunctionDecl Note) → List (Stmt Note)
function_text None = []
function_text (Some f) = f.body

abbrev pub method_text : Option (Method Note) → List (Stmt Note)
method_text None = []
method_text (Some m) = m.body

abbrev pub class_text : Option (ClassDecl Note) → List (Stmt Note)
class_text None = []
class_text (Some d) = d.body

abbrev pub program_text : Option (ProgramDecl Note) → List (Stmt Note)
program_text None = []
program_text (Some d) = d.body

abbrev pub body_text : Program → ℕ → List (Stmt Note)
body_text p c = if nat_lt c (length p.classes) then class_text (slice_get p.classes c) else program_text (slice_get p.programs (c - length p.classes))

abbrev pub function_line : Option (FunctionDecl Note) → ℕ
function_line None = 0
function_line (Some f) = f.line

abbrev pub method_line : Option (Method Note) → ℕ
method_line None = 0
method_line (Some m) = m.line

abbrev pub class_line : Option (ClassDecl Note) → ℕ
class_line None = 0
class_line (Some d) = d.line

abbrev pub program_line : Option (ProgramDecl Note) → ℕ
program_line None = 0
program_line (Some d) = d.line

abbrev pub body_line : Program → ℕ → ℕ
body_line p c = if nat_lt c (length p.classes) then class_line (slice_get p.classes c) else program_line (slice_get p.programs (c - length p.classes))

abbrev pub function_name : Option (FunctionDecl Note) → List ℕ
function_name None = []
function_name (Some f) = f.name.text

abbrev pub method_name : Option (Method Note) → List ℕ
method_name None = []
method_name (Some m) = m.name.text

abbrev pub class_name : Option (ClassDecl Note) → List ℕ
class_name None = []
class_name (Some d) = d.name.text

abbrev pub program_name : Option (ProgramDecl Note) → List ℕ
program_name None = []
program_name (Some d) = d.name.text

abbrev pub body_name : Program → ℕ → List ℕ
body_name p c = if nat_lt c (length p.classes) then class_name (slice_get p.classes c) else program_name (slice_get p.programs (c - length p.classes))
