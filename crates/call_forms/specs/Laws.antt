-- What a call gives and takes where the routine that is entered has more parameters than the one that is called.
use Rattle.std.specs.Prelude.{◌≡◌, List, ◌++◌, Option}
use Rattle.st_tree.specs.declared.path.Path.{Path}
use Rattle.st_tree.specs.declared.program.Note.{Note}
use Rattle.st_tree.specs.Expression.{Arguments}
use Rattle.st_values.specs.Program.{Parameter, Routine, Program}
use Rattle.st_meaning.specs.State.{Frame}
use Rattle.st_meaning.specs.Call.{Enter}
use Rattle.st_meaning.specs.Expression.{arguments, outputs}
use Rattle.st_meaning.specs.st_frame.Promise.Names.{Scope}
use Rattle.st_meaning.specs.st_frame.Promise.Expressions.{ArgumentsAre}

pub record LongerLaws : Type 0 where
  pub gives : (rest : List Parameter) (p : Program) (enter : Enter) (g : Scope) (x : Routine) (xs : Arguments Note) (ps left : List Parameter) → ArgumentsAre p g x ps left xs → arguments p enter (ps ++ rest) (left ++ rest) xs ≡ arguments p enter ps left xs
  pub takes : (rest : List Parameter) (p : Program) (enter : Enter) (g : Scope) (x : Routine) (xs : Arguments Note) (ps left : List Parameter) (own : Option Path) (f : Frame) → ArgumentsAre p g x ps left xs
      → outputs p enter (ps ++ rest) own f xs ≡ outputs p enter ps own f xs
