-- What is given as an initial value is one of its type: by names and types, without shapes.
use Rattle.std.specs.Prelude.{◌≡◌, ℕ, ℤ, true, List, ◌∷◌, Option, Some, None, slice_get}
use Rattle.plc_text.specs.Words.{same}
use Rattle.st_types.specs.declared.st_type.StType.{StType}
use Rattle.st_types.specs.declared.st_type.StType.TheVariants as type
use Rattle.st_types.specs.Range.{Fits}
use Rattle.st_tree.specs.declared.program.Note.{Note}
use Rattle.st_tree.specs.Initial.{Initial, Value, Array, Fields, One, Repeated, Parts, no_parts, part_then, FieldInits, no_fields, field_then}
use Rattle.st_rules.specs.Kinds.{element_type}
use Rattle.st_values.specs.Initial.{note_of, constant}
use Rattle.st_values.specs.Program.{Variable, TypeEntry, Program, class_variables}
use Rattle.st_values.specs.Shape.{fields_of, values_of}
use Rattle.st_meaning.specs.st_frame.Footprint.{Has}
use Rattle.st_meaning.specs.st_frame.Promise.Types.{NumberIs}

module _ (p : Program) where
  abbrev pub NumberOf : StType → ℤ → Type 0
  NumberOf (type.Elementary e) z = Fits e z
  NumberOf (type.Enumeration n) z = NumberIs p (type.Enumeration n) z
  NumberOf _ z = Unit {0}

  -- a variable of a structure or an instance
  abbrev pub IsPart : StType → Variable → Type 0
  IsPart (type.Structure n) v = (x : TypeEntry) × (vs : List Variable) × (slice_get p.types n ≡ Some x) × (fields_of x.body ≡ Some vs) × Has vs v
  IsPart (type.Instance c) v = Has (class_variables p c) v
  IsPart _ v = ⊥

  pub record PartNamed (t : StType) (name : List ℕ) (u : StType) : Type 0 where
    pub kind : (v : Variable) → IsPart t v → same name v.name ≡ true → v.kind ≡ u

  abbrev mutual
    pub InitialIs : StType → Initial Note → Type 0
    InitialIs t (Value e) = NumberOf t (constant (note_of e).target)
    InitialIs t (Array l ps) = PartsAre (element_type t) ps
    InitialIs t (Fields l fs) = FieldsAre t fs

    pub PartsAre : Option StType → Parts Note → Type 0
    PartsAre o no_parts = Unit {0}
    PartsAre None (part_then x ps) = ⊥
    PartsAre (Some t) (part_then (One i) ps) = InitialIs t i × PartsAre (Some t) ps
    PartsAre (Some t) (part_then (Repeated l n i) ps) = InitialIs t i × PartsAre (Some t) ps

    pub FieldsAre : StType → FieldInits Note → Type 0
    FieldsAre t no_fields = Unit {0}
    FieldsAre t (field_then a n i fs) = (u : StType) × PartNamed t n u × InitialIs u i × FieldsAre t fs

  abbrev pub GivenIs : StType → Option (Initial Note) → Type 0
  GivenIs t None = Unit {0}
  GivenIs t (Some i) = InitialIs t i

  -- what all declarations give
  pub record AllGiven : Type 0 where
    pub part : (t : StType) (v : Variable) → IsPart t v → GivenIs v.kind v.initial
    -- the grammar gives an enumeration a value at least
    pub values : (n : ℕ) (x : TypeEntry) (vs : List (List ℕ)) → slice_get p.types n ≡ Some x → values_of x.body ≡ Some vs → (v : List ℕ) × (ws : List (List ℕ)) × (vs ≡ v ∷ ws)
