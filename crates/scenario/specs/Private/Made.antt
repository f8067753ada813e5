-- The texts of the made sources, piece by piece.
use Rattle.std.specs.Prelude.{ℕ, List, ◌++◌, codes}

-- what all made sources have behind the statements that count
unfoldable pub source_rest : List ℕ
source_rest = codes "sum := sum * 3 + a; Step := sum; END_METHOD END_FUNCTION_BLOCK\nPROGRAM Work1 VAR c : Cell; n AT %ID0 : UDINT; q AT %QD0 : UDINT; END_VAR q := c.Step(a := n); END_PROGRAM\nPROGRAM Work2 VAR c : Cell; n AT %ID0 : UDINT; q AT %QD1 : UDINT; END_VAR q := c.Step(a := n); END_PROGRAM\nPROGRAM Work3 VAR c : Cell; n AT %ID0 : UDINT; q AT %QD2 : UDINT; END_VAR q := c.Step(a := n); END_PROGRAM\nPROGRAM Work4 VAR c : Cell; n AT %ID0 : UDINT; q AT %QD3 : UDINT; END_VAR q := c.Step(a := n); END_PROGRAM\nCONFIGURATION Made TASK T1(); TASK T2(); TASK T3(); TASK T4();\nPROGRAM R1 WITH T1 : Work1; PROGRAM R2 WITH T2 : Work2; PROGRAM R3 WITH T3 : Work3; PROGRAM R4 WITH T4 : Work4;\nEND_CONFIGURATION\n"

abbrev pub source_text : List ℕ → List ℕ → List ℕ
source_text variables statements =
    codes "FUNCTION_BLOCK Cell VAR " ++ variables ++ codes " END_VAR\nMETHOD Step : UDINT VAR_INPUT a : UDINT; END_VAR\n" ++ statements ++ source_rest
