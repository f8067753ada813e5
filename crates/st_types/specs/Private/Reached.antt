-- The table that the test of widening answers by, for its private contract alone.
use Rattle.std.specs.Prelude.{Bool, true, false}
use Rattle.st_types.specs.declared.elem.Elem.{Elem}
use Rattle.st_types.specs.declared.elem.Elem.TheVariants as kind

abbrev pub reached : Elem → Elem → Bool
reached kind.Sint kind.Sint = true
reached kind.Sint kind.Int = true
reached kind.Sint kind.Dint = true
reached kind.Sint kind.Lint = true
reached kind.Int kind.Int = true
reached kind.Int kind.Dint = true
reached kind.Int kind.Lint = true
reached kind.Dint kind.Dint = true
reached kind.Dint kind.Lint = true
reached kind.Lint kind.Lint = true
reached kind.Usint kind.Usint = true
reached kind.Usint kind.Uint = true
reached kind.Usint kind.Udint = true
reached kind.Usint kind.Ulint = true
reached kind.Usint kind.Int = true
reached kind.Usint kind.Dint = true
reached kind.Usint kind.Lint = true
reached kind.Uint kind.Uint = true
reached kind.Uint kind.Udint = true
reached kind.Uint kind.Ulint = true
reached kind.Uint kind.Dint = true
reached kind.Uint kind.Lint = true
reached kind.Udint kind.Udint = true
reached kind.Udint kind.Ulint = true
reached kind.Udint kind.Lint = true
reached kind.Ulint kind.Ulint = true
reached kind.Byte kind.Byte = true
reached kind.Byte kind.Word = true
reached kind.Byte kind.Dword = true
reached kind.Byte kind.Lword = true
reached kind.Word kind.Word = true
reached kind.Word kind.Dword = true
reached kind.Word kind.Lword = true
reached kind.Dword kind.Dword = true
reached kind.Dword kind.Lword = true
reached kind.Lword kind.Lword = true
reached kind.Bool kind.Bool = true
reached kind.Time kind.Time = true
reached _ _ = false
