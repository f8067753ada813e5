-- What code is made by: sizes and offsets, where the locals of the routine lie, and what calls name.
use Rattle.std.specs.Prelude.{ℕ, ◌+◌, List, [], ◌∷◌, Option}
use Rattle.st_types.specs.declared.elem.Elem.{Elem}
use Rattle.st_types.specs.declared.st_type.StType.{StType}
use Rattle.st_values.specs.Program.{Variable, Parameter, Program}
use Rattle.st_meaning.specs.Operation.{elem_of}
use Rattle.st_meaning.specs.Call.{is_in_out}
use Rattle.st_meaning.specs.st_frame.Promise.Names.{Scope}
use Rattle.st_meaning.specs.st_frame.Use.{Called, called_parameters}
use Rattle.code_rules.specs.declared.local.LocalPlace.{LocalPlace}
use Rattle.code_rules.specs.Places.{bytes_of, field_offset, variable_kind, width}

-- which routine and which slot a call names
pub record Tables : Type 0 where
  pub function_routine : ℕ → ℕ
  -- of a class that conforms to this one
  pub method_slot : ℕ → List ℕ → ℕ
  pub body_slot : ℕ
  -- of an interface
  pub method_number : ℕ → List ℕ → ℕ
  -- what a class, or the nearest of its bases, has by this name
  pub method_routine : ℕ → List ℕ → ℕ
  pub body_routine : ℕ → ℕ
  -- how a class or interface is numbered as a target of conversion
  pub conversion_target : StType → ℕ

pub record Plan : Type 0 where
  pub size_of : StType → ℕ
  -- of a field of a structure, or a variable of an instance
  pub field_of : StType → ℕ → ℕ
  -- of a variable of an instance that is a number
  pub kind_of : StType → ℕ → Elem
  -- the class whose text the routine is
  pub class : Option ℕ
  -- the locals of the routine
  pub locals : List LocalPlace
  pub parameters : Option Called → List Parameter
  pub tables : Tables

-- of code that names nothing
abbrev pub no_tables : Tables
no_tables = record { function_routine = λ k. 0; method_slot = λ c n. 0; body_slot = 0; method_number = λ i n. 0; method_routine = λ c n. 0; body_routine = λ c. 0; conversion_target = λ t. 0 }

-- where locals lie, the first at an offset
abbrev pub local_places : Program → ℕ → List Variable → List LocalPlace
local_places p offset [] = []
local_places p offset (v ∷ vs) = record { offset = offset; in_out = is_in_out v.sort } ∷ local_places p (offset + width p v) vs

-- the plan of a routine of a program
abbrev pub plan_of : Program → Tables → Scope → ℕ → Plan
plan_of p tables g start = record {
  size_of = bytes_of p;
  field_of = field_offset p;
  kind_of = λ t k. elem_of (variable_kind p t k);
  class = g.this;
  locals = local_places p start g.locals;
  parameters = called_parameters p;
  tables = tables;
}
