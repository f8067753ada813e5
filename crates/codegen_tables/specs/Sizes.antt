-- Sizes of types and offsets of fields, by tables.
use Rattle.std.specs.Prelude.{◌≡◌, ℕ, ◌*◌, ℤ, nat_lt, if◌then◌else◌, Option, Some, None, slice_get}
use Rattle.std.proofs.Common.{sym, ◌∙◌, ap}
use Rattle.st_types.specs.Elem.{bytes}
use Rattle.st_types.specs.declared.elem.Elem.{Elem}
use Rattle.st_types.specs.declared.elem.Elem.TheVariants as elem
use Rattle.st_types.specs.declared.st_type.StType.{StType}
use Rattle.st_types.specs.declared.st_type.StType.TheOpen.{StType-F}
use Rattle.st_types.specs.declared.st_type.StType.TheFolds.{fold-StType, fold-roll-StType}
use Rattle.st_types.specs.declared.st_type.StType.TheVariants as type
use Rattle.st_values.specs.Shape.{extent}
use Rattle.st_meaning.specs.Call.{class_of_kind}
use Rattle.codegen_tables.specs.declared.sizes.Laid.{Laid}
use Rattle.codegen_tables.specs.declared.sizes.Sizes.{Sizes}

-- a number of 32 bits, or 0
abbrev pub fitted : ℕ → ℕ
fitted n = if nat_lt n 4294967296 then n else 0

abbrev pub laid_size : Option Laid → ℕ
laid_size None = 0
laid_size (Some x) = x.size

abbrev pub number_or_0 : Option ℕ → ℕ
number_or_0 None = 0
number_or_0 (Some n) = n

abbrev pub laid_field : Option Laid → ℕ → ℕ
laid_field None k = 0
laid_field (Some x) k = number_or_0 (slice_get x.fields k)

abbrev pub size_level : Sizes → StType-F ℕ → ℕ
size_level s (StType-F.Elementary e) = bytes e
size_level s (StType-F.Enumeration n) = 4
size_level s (StType-F.Structure n) = laid_size (slice_get s.structures n)
size_level s (StType-F.Array low high n) = fitted (extent low high * n)
size_level s (StType-F.Instance n) = laid_size (slice_get s.classes n)
size_level s (StType-F.Reference c) = 8
size_level s (StType-F.Interface i) = 8

unfoldable pub size_by : Sizes → StType → ℕ
size_by s = fold-StType ℕ (size_level s)

pub size_by-Elementary : (s : Sizes) (e : Elem) → size_by s (type.Elementary e) ≡ bytes e
unfolding size_by
size_by-Elementary s e = ap (size_by s) (sym (type.rolls-Elementary e)) ∙ fold-roll-StType ℕ (size_level s) (StType-F.Elementary e)

pub size_by-Enumeration : (s : Sizes) (n : ℕ) → size_by s (type.Enumeration n) ≡ 4
unfolding size_by
size_by-Enumeration s n = ap (size_by s) (sym (type.rolls-Enumeration n)) ∙ fold-roll-StType ℕ (size_level s) (StType-F.Enumeration n)

pub size_by-Structure : (s : Sizes) (n : ℕ) → size_by s (type.Structure n) ≡ laid_size (slice_get s.structures n)
unfolding size_by
size_by-Structure s n = ap (size_by s) (sym (type.rolls-Structure n)) ∙ fold-roll-StType ℕ (size_level s) (StType-F.Structure n)

pub size_by-Array : (s : Sizes) (low high : ℤ) (of : StType) → size_by s (type.Array low high of) ≡ fitted (extent low high * size_by s of)
unfolding size_by
size_by-Array s low high of = ap (size_by s) (sym (type.rolls-Array low high of)) ∙ fold-roll-StType ℕ (size_level s) (StType-F.Array low high of)

pub size_by-Instance : (s : Sizes) (n : ℕ) → size_by s (type.Instance n) ≡ laid_size (slice_get s.classes n)
unfolding size_by
size_by-Instance s n = ap (size_by s) (sym (type.rolls-Instance n)) ∙ fold-roll-StType ℕ (size_level s) (StType-F.Instance n)

pub size_by-Reference : (s : Sizes) (n : ℕ) → size_by s (type.Reference n) ≡ 8
unfolding size_by
size_by-Reference s n = ap (size_by s) (sym (type.rolls-Reference n)) ∙ fold-roll-StType ℕ (size_level s) (StType-F.Reference n)

pub size_by-Interface : (s : Sizes) (n : ℕ) → size_by s (type.Interface n) ≡ 8
unfolding size_by
size_by-Interface s n = ap (size_by s) (sym (type.rolls-Interface n)) ∙ fold-roll-StType ℕ (size_level s) (StType-F.Interface n)

pub ruleset size_views = (size_by-Elementary, size_by-Enumeration, size_by-Structure, size_by-Array, size_by-Instance, size_by-Reference, size_by-Interface)

-- where a field of a structure, or a variable of an instance, lies
abbrev pub field_by : Sizes → StType → ℕ → ℕ
field_by s (type.Structure n) k = laid_field (slice_get s.structures n) k
field_by s (type.Instance n) k = laid_field (slice_get s.classes n) k
field_by s _ k = 0

abbrev pub kind_or_dint : Option Elem → Elem
kind_or_dint None = elem.Dint
kind_or_dint (Some e) = e

abbrev pub laid_kind : Option Laid → ℕ → Elem
laid_kind None k = elem.Dint
laid_kind (Some x) k = kind_or_dint (slice_get x.kinds k)

-- the kind of a variable of an instance that is a number
abbrev pub kind_by : Sizes → StType → ℕ → Elem
kind_by s t k = laid_kind (slice_get s.classes (class_of_kind t)) k
