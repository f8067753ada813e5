-- The elementary kinds (IEC 61131-3:2013, table 10): width, sort and name.
use Rattle.std.specs.Prelude.{ℕ, ◌/◌, ◌||◌, List, Bool, true, false, codes, max}
use Rattle.st_types.specs.declared.elem.Elem.{Elem}
use Rattle.st_types.specs.declared.elem.Elem.TheVariants as kind

-- the width in bits
abbrev pub bits : Elem → ℕ
bits kind.Bool = 1
bits kind.Sint = 8
bits kind.Int = 16
bits kind.Dint = 32
bits kind.Lint = 64
bits kind.Usint = 8
bits kind.Uint = 16
bits kind.Udint = 32
bits kind.Ulint = 64
bits kind.Byte = 8
bits kind.Word = 16
bits kind.Dword = 32
bits kind.Lword = 64
bits kind.Time = 32

-- how many bytes hold a value: a BOOL has one to itself
abbrev pub bytes : Elem → ℕ
bytes e = max 1 (bits e / 8)

abbrev pub is_signed : Elem → Bool
is_signed kind.Sint = true
is_signed kind.Int = true
is_signed kind.Dint = true
is_signed kind.Lint = true
is_signed _ = false

abbrev pub is_unsigned_integer : Elem → Bool
is_unsigned_integer kind.Usint = true
is_unsigned_integer kind.Uint = true
is_unsigned_integer kind.Udint = true
is_unsigned_integer kind.Ulint = true
is_unsigned_integer _ = false

abbrev pub is_integer : Elem → Bool
is_integer e = is_signed e || is_unsigned_integer e

abbrev pub is_bit_string : Elem → Bool
is_bit_string kind.Byte = true
is_bit_string kind.Word = true
is_bit_string kind.Dword = true
is_bit_string kind.Lword = true
is_bit_string _ = false

-- the name in capitals
abbrev pub name : Elem → List ℕ
name kind.Bool = codes "BOOL"
name kind.Sint = codes "SINT"
name kind.Int = codes "INT"
name kind.Dint = codes "DINT"
name kind.Lint = codes "LINT"
name kind.Usint = codes "USINT"
name kind.Uint = codes "UINT"
name kind.Udint = codes "UDINT"
name kind.Ulint = codes "ULINT"
name kind.Byte = codes "BYTE"
name kind.Word = codes "WORD"
name kind.Dword = codes "DWORD"
name kind.Lword = codes "LWORD"
name kind.Time = codes "TIME"
