-- Places: what names stand for, indices, and where references and interface values lead (IEC 61131-3:2013, 6.4.4.5, 6.4.4.10 and 6.6.6.6).
use Rattle.std.specs.Prelude.{ℤ, int_le, ◌&&◌, if◌then◌else◌, [], Option, Some, None}
use Rattle.plc_text.specs.declared.fault.FaultKind.TheVariants as fault
use Rattle.st_types.specs.declared.st_type.StType.{StType, out-StType}
use Rattle.st_types.specs.declared.st_type.StType.TheOpen.{StType-F}
use Rattle.st_types.specs.declared.st_type.StType.TheVariants as type
use Rattle.st_tree.specs.declared.expression.Root.{Root}
use Rattle.st_tree.specs.declared.expression.Root.TheVariants as root
use Rattle.st_tree.specs.declared.path.Step.TheVariants as step
use Rattle.st_tree.specs.declared.program.Note.{Note}
use Rattle.st_tree.specs.declared.program.Target.{Target}
use Rattle.st_tree.specs.declared.program.Target.TheVariants as target
use Rattle.st_meaning.specs.State.{Spot, in_store, Run, ◌>>=◌, gives, fails, some_or, own, local_spot, into, read}
use Rattle.st_meaning.specs.Operation.{path_in}

-- ---- names

-- what a name stands for; a method's name means the own instance
abbrev pub named_spot : Target → Run Spot
named_spot (target.Local n) = local_spot n
named_spot (target.Region r) = gives (in_store (record { region = r; steps = [] }))
named_spot (target.Variable k) = do
  q ← own
  gives (into (in_store q) (step.Field k))
named_spot (target.Method m) = do
  q ← own
  gives (in_store q)
named_spot _ = fails fault.Null

abbrev pub root_note : Root Note → Note
root_note (root.Name a name) = a
root_note (root.This a) = a
root_note (root.Super a) = a

-- THIS and SUPER are the own instance
abbrev pub root_spot : Root Note → Run Spot
root_spot (root.Name a name) = named_spot a.target
root_spot _ = do
  q ← own
  gives (in_store q)

-- ---- references

-- where the reference or interface value at a spot leads
abbrev pub held_spot : Spot → Run Spot
held_spot spot = do
  v ← read spot
  q ← some_or fault.Null (path_in v)
  gives (in_store q)

-- `^` on an instance is the instance
abbrev pub followed : StType → Spot → Run Spot
followed (type.Instance c) spot = gives spot
followed t spot = held_spot spot

-- a method of an interface value is one of the instance that it holds
abbrev pub instance_of : StType → Spot → Run Spot
instance_of (type.Interface i) spot = held_spot spot
instance_of t spot = gives spot

-- a part by its name, or a method
abbrev pub part_named : StType → Spot → Target → Run Spot
part_named t spot (target.Field k) = gives (into spot (step.Field k))
part_named t spot (target.Variable k) = gives (into spot (step.Field k))
part_named t spot (target.Method m) = instance_of t spot
part_named t spot _ = fails fault.Null

-- ---- indices

abbrev pub index_within : StType-F StType → ℤ → Option ℤ
index_within (StType-F.Array low high of) i = if int_le low i && int_le i high then Some i else None
index_within _ i = None

-- the index, where the array has it
abbrev pub index_in : StType → ℤ → Option ℤ
index_in t i = index_within (out-StType t) i

abbrev pub elements_of : StType-F StType → StType → StType
elements_of (StType-F.Array low high of) t = of
elements_of _ t = t

-- the type of the elements
abbrev pub element_kind : StType → StType
element_kind t = elements_of (out-StType t) t
