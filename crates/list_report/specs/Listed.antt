-- What `list` writes of a program: regions, tasks, code.
use Rattle.std.specs.Prelude.{◌≡◌, ℕ, suc, Bool, true, false, List, [], ◌∷◌, ◌++◌, codes, map, Option, Some, None, slice_get, Vec}
use Rattle.std.specs.Fmt.{decimal}
use Rattle.std.specs.declared.alloc.Global.{Global}
use Rattle.std.specs.Ordering.{nat_cmp}
use Rattle.std.specs.List.Sorted.{IsStrictlySortedBy}
use Rattle.plc_text.specs.Lines.{text_of, ended}
use Rattle.st_tree.specs.declared.program.TaskDecl.{TaskDecl}
use Rattle.st_values.specs.Program.{Region, Program}
use Rattle.st_values.specs.Shape.{Shape, region_shape}
use Rattle.st_meaning.specs.st_frame.Footprint.{IsFootprint}
use Rattle.mem_layout.specs.loaded_meaning.Sized.{values_of}
use Rattle.stack_code.specs.declared.code.MachineCode.{MachineCode}
use Rattle.stack_code.specs.Validity.{IsValid}
use Rattle.stack_code.specs.code_listing.Writing.{listing_of}

abbrev pub values_at : Option Shape → ℕ
values_at None = 0
values_at (Some sh) = values_of sh

abbrev pub sort_word : Bool → List ℕ
sort_word true = codes "program"
sort_word false = codes "global"

-- `region NAME global VALUES`, `region NAME program VALUES`
abbrev pub region_line : Region → ℕ → List ℕ
region_line x values = codes "region " ++ x.variable.name ++ codes " " ++ sort_word x.program ++ codes " " ++ decimal values

-- regions, of which the first has this number
abbrev pub region_lines : Program → ℕ → List Region → List (List ℕ)
region_lines p r [] = []
region_lines p r (x ∷ xs) = region_line x (values_at (region_shape p r)) ∷ region_lines p (suc r) xs

abbrev pub or_dash : Option ℕ → List ℕ
or_dash None = codes "-"
or_dash (Some n) = decimal n

abbrev pub name_or_none : Option Region → List ℕ
name_or_none None = []
name_or_none (Some x) = x.variable.name

abbrev pub name_at : Program → ℕ → List ℕ
name_at p r = name_or_none (slice_get p.regions r)

-- names of regions, each behind a space
abbrev pub names_at : Program → List ℕ → List ℕ
names_at p [] = []
names_at p (r ∷ rs) = codes " " ++ name_at p r ++ names_at p rs

-- `task NAME interval MS priority N footprint REGION REGION`
abbrev pub task_line : Program → TaskDecl → List ℕ → List ℕ
task_line p t fs = codes "task " ++ t.name ++ codes " interval " ++ or_dash t.interval ++ codes " priority " ++ or_dash t.priority ++ codes " footprint" ++ names_at p fs

abbrev pub task_lines : Program → List TaskDecl → List (List ℕ) → List (List ℕ)
task_lines p (t ∷ ts) (fs ∷ fss) = task_line p t fs ∷ task_lines p ts fss
task_lines p _ _ = []

abbrev pub list_text : Program → List (List ℕ) → MachineCode → List ℕ
list_text p fss code = text_of (region_lines p 0 p.regions) ++ text_of (task_lines p p.tasks fss) ++ ended (codes "code") ++ listing_of code

abbrev pub lists : List (Vec ℕ Global) → List (List ℕ)
lists xs = map (λ v. v.items) xs

-- the footprint of each task from this number on, rising
abbrev pub AreFootprints : Program → ℕ → List TaskDecl → List (List ℕ) → Type 0
AreFootprints p t [] [] = Unit {0}
AreFootprints p t (x ∷ xs) (fs ∷ fss) = IsFootprint p t fs × IsStrictlySortedBy nat_cmp fs × AreFootprints p (suc t) xs fss
AreFootprints p t _ _ = ⊥

-- The text is that of the program, with valid code that a relation of programs and code says is compiled from it.
pub record IsListed (IsCompiled : Program → MachineCode → Type 0) (p : Program) (text : List ℕ) : Type 0 where
  pub footprints : List (List ℕ)
  pub are : AreFootprints p 0 p.tasks footprints
  pub code : MachineCode
  pub valid : IsValid code
  pub compiled : IsCompiled p code
  pub is : text ≡ list_text p footprints code
