-- Fields laid out one behind the other.
use Rattle.std.specs.Prelude.{◌≡◌, ℕ, ◌+◌, Bool, List, Some}
use Rattle.st_values.specs.Program.{Variable, Program}
use Rattle.st_values.specs.Shape.{Fields, fields_by, shape_within}
use Rattle.mem_layout.specs.store_bytes.Place.{gap, greatest, ending}
use Rattle.mem_layout.specs.store_bytes.PlaceLaws.{joined}
use Rattle.mem_layout.specs.declared.entries.Laid.{Laid}
use Rattle.mem_layout.specs.declared.sizes.Entry.{Entry}
use Rattle.mem_layout.specs.Private.Table.{start, wide, Rows}

pub record IsLaid (off : ℕ) (fs : Fields) (l : Laid) : Type 0 where
  pub rows : Rows off l.fields fs
  pub end-is : l.end ≡ ending off fs
  pub greatest-is : l.greatest ≡ greatest fs

pub record IsFinished (class : Bool) (fs : Fields) (e : Entry) : Type 0 where
  pub rows : Rows (start class) e.fields fs
  pub size-is : e.measure.size ≡ ending (start class) fs + gap (wide class fs) (ending (start class) fs)
  pub alignment-is : e.measure.alignment ≡ wide class fs

-- with these variables left: some fields are laid out, and what the variables left unfold to makes them whole
pub record Going (p : Program) (n : ℕ) (off : ℕ) (whole : Fields) (left : List Variable) (l : Laid) : Type 0 where
  pub so-far : Fields
  pub rest : Fields
  pub is : whole ≡ joined so-far rest
  pub unfolds : fields_by (shape_within p n) left ≡ Some rest
  pub laid : IsLaid off so-far l
