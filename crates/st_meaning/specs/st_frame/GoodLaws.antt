-- Laws of good stores.
use Rattle.std.specs.Prelude.{◌≡◌, List, Some}
use Rattle.st_tree.specs.declared.path.Step.{Step}
use Rattle.st_values.specs.Program.{Program}
use Rattle.st_values.specs.Value.{Path, Value, Store, value_at, value_with}
use Rattle.st_values.specs.Shape.{Shape, shape_at, path_shape}
use Rattle.st_values.specs.Value as value
use Rattle.st_values.specs.Initial.{initial_store}
use Rattle.st_meaning.specs.st_frame.Good.{Fit, Good}
use Rattle.st_meaning.specs.st_frame.Promise.Programs.{ProgramIs}

pub record GoodLaws : Type 0 where
  -- what is read in a value that fits fits, and so does a value in which something that fits is put
  pub read : (p : Program) (sh part : Shape) (v w : Value) (ss : List Step) → Fit p sh v → shape_at sh ss ≡ Some part → value_at v ss ≡ Some w → Fit p part w
  pub written : (p : Program) (sh part : Shape) (v new v' : Value) (ss : List Step) → Fit p sh v → shape_at sh ss ≡ Some part → Fit p part new → value_with v ss new ≡ Some v' → Fit p sh v'
  -- what leads to a part leads to a value
  pub there : (p : Program) (sh part : Shape) (v : Value) (ss : List Step) → Fit p sh v → shape_at sh ss ≡ Some part → (w : Value) × (value_at v ss ≡ Some w)
  -- the store at the beginning is good
  pub initial : (p : Program) → ProgramIs p → Good p (initial_store p)
  -- and so is one in which something that fits is put
  pub put : (p : Program) (s t : Store) (q : Path) (sh : Shape) (new : Value) → Good p s → path_shape p q ≡ Some sh → Fit p sh new → value.put s q new ≡ Some t → Good p t
