-- From a place of one program to that of the other, step by step.
use Rattle.std.specs.Prelude.{ℕ, List, [], ◌∷◌, ◌++◌, Option, Some, None, option_map}
use Rattle.st_values.specs.Program.{Program}
use Rattle.st_values.specs.Value.{Path, Step, ◌>>=◌}
use Rattle.st_values.specs.Shape.{Shape, Structure, Instance, shape_part, region_shape}
use Rattle.st_change.specs.From.{Way, by_name, by_index, field_number, way_of, step_of, old_way, new_way, old_region, new_region}
use Rattle.shape_trees.specs.Shape.{shape_of}
use Rattle.change_names.specs.declared.change_paths.ways.Way.{Way as CodeWay}
use Rattle.change_names.specs.declared.change_paths.ways.Way.TheVariants as way
use Rattle.change_names.specs.declared.change_paths.walk.Stepped.{Stepped}
use Rattle.change_names.specs.declared.change_paths.which.Which.{Which}
use Rattle.change_names.specs.declared.change_paths.which.Which.TheVariants as which

abbrev pub way_is : CodeWay → Way
way_is (way.Name name) = by_name name.now
way_is (way.Index i) = by_index i

-- the number of the first field of a name
abbrev pub number_in : Shape → List ℕ → Option ℕ
number_in (Structure n fs) name = field_number fs name
number_in (Instance c n fs) name = field_number fs name
number_in sh name = None

-- a step there, and the shapes behind it
abbrev pub StepThere : Type 0
StepThere = Step × (Shape × Shape)

abbrev pub stepped_of : Stepped → StepThere
stepped_of s = (s.step, (shape_of s.from.now, shape_of s.there.now))

module _ (old new : Program) where
  -- the way in the program `to`, where the shapes of both places are known: both directions go by the types of the new program
  abbrev pub turned : Which → Shape → Shape → Way → Option Way
  turned which.Old from there w = old_way old new from w
  turned which.New from there w = new_way old new there w

  abbrev pub step_there : Which → Shape → Shape → Step → Option StepThere
  step_there to from there s = do
    w ← way_of from s
    first ← step_of from w
    inner ← shape_part from first
    v ← turned to from there w
    t ← step_of there v
    inner_there ← shape_part there t
    Some (t, (inner, inner_there))

  abbrev pub steps_there : Which → Shape → Shape → List Step → Option (List Step)
  steps_there to from there [] = Some []
  steps_there to from there (s ∷ ss) = do
    x ← step_there to from there s
    rest ← steps_there to x.1.0 x.1.1 ss
    Some (x.0 ∷ rest)

  abbrev pub region_there : Which → ℕ → Option ℕ
  region_there which.Old r = old_region old new r
  region_there which.New r = new_region old new r

  abbrev pub shape_from : Which → ℕ → Option Shape
  shape_from which.Old r = region_shape new r
  shape_from which.New r = region_shape old r

  abbrev pub shape_there : Which → ℕ → Option Shape
  shape_there which.Old r = region_shape old r
  shape_there which.New r = region_shape new r

  abbrev pub path_there : Which → Path → Option Path
  path_there to q = do
    r ← region_there to q.region
    from ← shape_from to q.region
    there ← shape_there to r
    ss ← steps_there to from there q.steps
    Some (record { region = r; steps = ss })

-- steps, and behind them the rest
abbrev pub behind : List Step → Option (List Step) → Option (List Step)
behind out o = option_map (λ rest. out ++ rest) o
