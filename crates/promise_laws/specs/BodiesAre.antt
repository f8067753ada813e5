-- What is promised of the bodies of a program: each is right in the scope of its text.
use Rattle.std.specs.Prelude.{◌≡◌, ℕ, List, Some, slice_get}
use Rattle.st_values.specs.Program.{Routine, Program, lookup, body_of}
use Rattle.st_meaning.specs.st_frame.Promise.Statements.{StatementsAre}
use Rattle.st_meaning.specs.st_frame.Promise.Declarations.{scope_of}

abbrev pub BodyIs : Program → Routine → Type 0
BodyIs p r = StatementsAre p (scope_of r) r.body

pub record BodiesAre (p : Program) : Type 0 where
  pub methods : (c : ℕ) (name : List ℕ) (r : Routine) → lookup p c name ≡ Some r → BodyIs p r
  pub bodies : (c : ℕ) (r : Routine) → body_of p c ≡ Some r → BodyIs p r
  pub functions : (k : ℕ) (r : Routine) → slice_get p.functions k ≡ Some r → BodyIs p r
