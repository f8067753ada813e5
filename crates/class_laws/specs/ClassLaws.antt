-- Classes of a checked program as they are seen: what the promise says of chains, and of the text that a routine has.
use Rattle.std.specs.Prelude.{◌≡◌, ◌<◌, ◌++◌, ℕ, true, false, List, length, Some, slice_get}
use Rattle.st_types.specs.declared.st_type.StType.{StType}
use Rattle.st_types.specs.declared.st_type.StType.TheVariants as type
use Rattle.st_tree.specs.declared.program.Program.{Program as Checked}
use Rattle.st_rules.specs.Chains.{is_among}
use Rattle.st_rules.specs.ClassRules.{lies_on_cycle}
use Rattle.st_values.specs.Program.{Variable, Parameter, Routine, Class, class_at, chain_of, class_variables, conforms, lookup, body_of}
use Rattle.st_values.specs.View.{local_parameters, body_parameters, program_of}
use Rattle.st_meaning.specs.st_frame.Promise.Declarations.{AreApart}
use Rattle.st_meaning.specs.st_frame.Promise.Programs.{Above, EndsWith}

-- no class stands above itself
abbrev pub HasNoCycle : Checked → Type 0
HasNoCycle p = (c : ℕ) → lies_on_cycle p.classes c ≡ false

pub record ClassLaws : Type 0 where
  pub upward : (p : Checked) (c d : ℕ) (t : StType) → conforms (program_of p) c (type.Instance d) ≡ true → conforms (program_of p) d t ≡ true → conforms (program_of p) c t ≡ true
  pub methods_above : (p : Checked) (c : ℕ) (name : List ℕ) (r : Routine) → lookup (program_of p) c name ≡ Some r → Above (program_of p) c r.class
  pub bodies_own : (p : Checked) (c : ℕ) (r : Routine) → body_of (program_of p) c ≡ Some r → r.class ≡ Some c
  pub bases : (p : Checked) (c d : ℕ) → is_among d (chain_of (class_at (program_of p) c)) ≡ true → d < length (program_of p).classes
  pub chains : (p : Checked) → HasNoCycle p → (c d : ℕ) → conforms (program_of p) c (type.Instance d) ≡ true → EndsWith (program_of p) c d
  pub variables_above : (p : Checked) → HasNoCycle p → (c d k : ℕ) (v : Variable) → conforms (program_of p) c (type.Instance d) ≡ true → slice_get (class_variables (program_of p) d) k ≡ Some v → slice_get (class_variables (program_of p) c) k ≡ Some v
  -- the parameters of a derived block begin with those of its base
  pub derived : (p : Checked) → HasNoCycle p → (c d : ℕ) (k j : Class) → class_at (program_of p) c ≡ Some k → class_at (program_of p) d ≡ Some j → conforms (program_of p) c (type.Instance d) ≡ true → (rest : List Parameter) × (k.body.parameters ≡ j.body.parameters ++ rest)
  -- no two parameters are one local or variable
  pub locals_apart : (n : ℕ) (vs : List Variable) → AreApart (local_parameters n vs)
  pub bodies_apart : (k l : ℕ) (vs : List Variable) → AreApart (body_parameters k l vs)
