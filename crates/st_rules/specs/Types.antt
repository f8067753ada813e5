-- Whether two types are one (IEC 61131-3:2013, 6.4).
use Rattle.std.specs.Prelude.{nat_eq, Bool, false, ◌&&◌, ℤ, pos, negsuc}
use Rattle.plc_text.specs.Words.{same}
use Rattle.st_types.specs.declared.elem.Elem.{Elem}
use Rattle.st_types.specs.Elem.{name}
use Rattle.st_types.specs.declared.st_type.StType.{StType, out-StType}
use Rattle.st_types.specs.declared.st_type.StType.TheOpen.{StType-F, Elementary, Enumeration, Structure, Array, Instance, Reference, Interface}
use Rattle.st_types.specs.declared.st_type.StType.TheFolds.{fold-StType}

abbrev pub same_kind : Elem → Elem → Bool
same_kind a b = same (name a) (name b)

abbrev pub same_number : ℤ → ℤ → Bool
same_number (pos m) (pos n) = nat_eq m n
same_number (negsuc m) (negsuc n) = nat_eq m n
same_number _ _ = false

-- one level, where the type of the elements is compared by what stands in its place
abbrev pub same_level : StType-F (StType → Bool) → StType-F StType → Bool
same_level (Elementary a) (Elementary b) = same_kind a b
same_level (Enumeration m) (Enumeration n) = nat_eq m n
same_level (Structure m) (Structure n) = nat_eq m n
same_level (Array low high same_elements) (Array low' high' elements) = same_number low low' && same_number high high' && same_elements elements
same_level (Instance m) (Instance n) = nat_eq m n
same_level (Reference m) (Reference n) = nat_eq m n
same_level (Interface m) (Interface n) = nat_eq m n
same_level _ _ = false

-- elementary types by kind, arrays by bounds and elements, all others by declaration
unfoldable pub same_type : StType → StType → Bool
same_type a = fold-StType (StType → Bool) (λ level b. same_level level (out-StType b)) a
