-- Names: one that is noted to mean something means it, and has the type of its note.
use Rattle.std.specs.Prelude.{◌≡◌, ℕ, List, Option, Some, None, IsTrue, slice_get}
use Rattle.st_types.specs.declared.st_type.StType.{StType}
use Rattle.st_types.specs.declared.st_type.StType.TheVariants as type
use Rattle.st_tree.specs.declared.expression.Root.{Root}
use Rattle.st_tree.specs.declared.expression.Root.TheVariants as root
use Rattle.st_tree.specs.declared.program.Note.{Note}
use Rattle.st_tree.specs.declared.program.Target.{Target}
use Rattle.st_tree.specs.declared.program.Target.TheVariants as target
use Rattle.st_values.specs.Program.{Variable, Region, Program, class_variables, conforms}

-- the class and the locals of the routine in whose text the name stands
pub record Scope : Type 0 where
  pub this : Option ℕ
  pub locals : List Variable

abbrev pub VariableIs : Option Variable → StType → Type 0
VariableIs o t = (v : Variable) × (o ≡ Some v) × (v.kind ≡ t)

abbrev pub OwnVariableIs : Program → Option ℕ → ℕ → StType → Type 0
OwnVariableIs p None k t = ⊥
OwnVariableIs p (Some c) k t = VariableIs (slice_get (class_variables p c) k) t

abbrev pub RegionIs : Option Region → StType → Type 0
RegionIs None t = ⊥
RegionIs (Some x) t = x.variable.kind ≡ t

-- what a name means has its type; a method's name has that of THIS
abbrev pub NameIs : Program → Scope → Target → StType → Type 0
NameIs p g (target.Local n) t = VariableIs (slice_get g.locals n) t
NameIs p g (target.Variable k) t = OwnVariableIs p g.this k t
NameIs p g (target.Region r) t = RegionIs (slice_get p.regions r) t
NameIs p g (target.Method m) t = (c : ℕ) × (g.this ≡ Some c) × (t ≡ type.Instance c)
NameIs p g _ t = ⊥

-- THIS is the own instance, and SUPER is it as one of a base
abbrev pub RootIs : Program → Scope → Root Note → Type 0
RootIs p g (root.Name a name) = NameIs p g a.target a.kind
RootIs p g (root.This a) = (c : ℕ) × (g.this ≡ Some c) × (a.kind ≡ type.Instance c)
RootIs p g (root.Super a) = (c d : ℕ) × (g.this ≡ Some c) × (a.kind ≡ type.Instance d) × IsTrue (conforms p c (type.Instance d))
