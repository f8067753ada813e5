-- The standard blocks: edges, bistables, counters and timers (IEC 61131-3:2013, 6.6.3.5). Each is an ordinary function block, spelled here.
use Rattle.std.specs.Prelude.{ℕ, List, [], ◌∷◌, ◌++◌, codes}
use Rattle.plc_text.specs.Lines.{text_of}

abbrev pub r_trig : List ℕ
r_trig = text_of (
    codes "FUNCTION_BLOCK R_TRIG VAR_INPUT CLK : BOOL; END_VAR VAR_OUTPUT Q : BOOL; END_VAR VAR M : BOOL; END_VAR" ∷
    codes "Q := CLK AND NOT M; M := CLK; END_FUNCTION_BLOCK" ∷
    [])

abbrev pub f_trig : List ℕ
f_trig = text_of (
    codes "FUNCTION_BLOCK F_TRIG VAR_INPUT CLK : BOOL; END_VAR VAR_OUTPUT Q : BOOL; END_VAR VAR M : BOOL; END_VAR" ∷
    codes "Q := NOT CLK AND M; M := CLK; END_FUNCTION_BLOCK" ∷
    [])

abbrev pub sr : List ℕ
sr = text_of (
    codes "FUNCTION_BLOCK SR VAR_INPUT S1, R : BOOL; END_VAR VAR_OUTPUT Q1 : BOOL; END_VAR" ∷
    codes "Q1 := S1 OR (NOT R AND Q1); END_FUNCTION_BLOCK" ∷
    [])

abbrev pub rs : List ℕ
rs = text_of (
    codes "FUNCTION_BLOCK RS VAR_INPUT S, R1 : BOOL; END_VAR VAR_OUTPUT Q1 : BOOL; END_VAR" ∷
    codes "Q1 := NOT R1 AND (S OR Q1); END_FUNCTION_BLOCK" ∷
    [])

abbrev pub ctu : List ℕ
ctu = text_of (
    codes "FUNCTION_BLOCK CTU VAR_INPUT CU, R : BOOL; PV : INT; END_VAR" ∷
    codes "VAR_OUTPUT Q : BOOL; CV : INT; END_VAR VAR M : BOOL; END_VAR" ∷
    codes "IF R THEN CV := 0; ELSIF CU AND NOT M AND CV < 32767 THEN CV := CV + 1; END_IF" ∷
    codes "M := CU; Q := CV >= PV; END_FUNCTION_BLOCK" ∷
    [])

abbrev pub ctd : List ℕ
ctd = text_of (
    codes "FUNCTION_BLOCK CTD VAR_INPUT CD, LD : BOOL; PV : INT; END_VAR" ∷
    codes "VAR_OUTPUT Q : BOOL; CV : INT; END_VAR VAR M : BOOL; END_VAR" ∷
    codes "IF LD THEN CV := PV; ELSIF CD AND NOT M AND CV > -32768 THEN CV := CV - 1; END_IF" ∷
    codes "M := CD; Q := CV <= 0; END_FUNCTION_BLOCK" ∷
    [])

abbrev pub ctud : List ℕ
ctud = text_of (
    codes "FUNCTION_BLOCK CTUD VAR_INPUT CU, CD, R, LD : BOOL; PV : INT; END_VAR" ∷
    codes "VAR_OUTPUT QU, QD : BOOL; CV : INT; END_VAR VAR MU, MD : BOOL; END_VAR VAR_TEMP up, down : BOOL; END_VAR" ∷
    codes "up := CU AND NOT MU; down := CD AND NOT MD; MU := CU; MD := CD;" ∷
    codes "IF R THEN CV := 0; ELSIF LD THEN CV := PV;" ∷
    codes "ELSIF up AND NOT down AND CV < 32767 THEN CV := CV + 1;" ∷
    codes "ELSIF down AND NOT up AND CV > -32768 THEN CV := CV - 1; END_IF" ∷
    codes "QU := CV >= PV; QD := CV <= 0; END_FUNCTION_BLOCK" ∷
    [])

abbrev pub ton : List ℕ
ton = text_of (
    codes "FUNCTION_BLOCK TON VAR_INPUT IN : BOOL; PT : TIME; END_VAR" ∷
    codes "VAR_OUTPUT Q : BOOL; ET : TIME; END_VAR VAR M : BOOL; T0 : TIME; END_VAR" ∷
    codes "IF NOT IN THEN Q := FALSE; ET := T#0ms; M := FALSE;" ∷
    codes "ELSE IF NOT M THEN M := TRUE; T0 := TIME(); END_IF" ∷
    codes "IF NOT Q THEN ET := TIME() - T0; IF ET >= PT THEN ET := PT; Q := TRUE; END_IF END_IF END_IF" ∷
    codes "END_FUNCTION_BLOCK" ∷
    [])

abbrev pub tof : List ℕ
tof = text_of (
    codes "FUNCTION_BLOCK TOF VAR_INPUT IN : BOOL; PT : TIME; END_VAR" ∷
    codes "VAR_OUTPUT Q : BOOL; ET : TIME; END_VAR VAR M : BOOL; T0 : TIME; END_VAR" ∷
    codes "IF IN THEN Q := TRUE; ET := T#0ms; M := FALSE;" ∷
    codes "ELSIF Q THEN IF NOT M THEN M := TRUE; T0 := TIME(); END_IF" ∷
    codes "ET := TIME() - T0; IF ET >= PT THEN ET := PT; Q := FALSE; END_IF END_IF" ∷
    codes "END_FUNCTION_BLOCK" ∷
    [])

abbrev pub tp : List ℕ
tp = text_of (
    codes "FUNCTION_BLOCK TP VAR_INPUT IN : BOOL; PT : TIME; END_VAR" ∷
    codes "VAR_OUTPUT Q : BOOL; ET : TIME; END_VAR VAR M : BOOL; T0 : TIME; END_VAR" ∷
    codes "IF IN AND NOT M THEN M := TRUE; Q := TRUE; T0 := TIME(); END_IF" ∷
    codes "IF Q THEN ET := TIME() - T0; IF ET >= PT THEN ET := PT; Q := FALSE; END_IF END_IF" ∷
    codes "IF M AND NOT Q AND NOT IN THEN M := FALSE; ET := T#0ms; END_IF" ∷
    codes "END_FUNCTION_BLOCK" ∷
    [])

-- what stands before the declarations of each program text
unfoldable pub standard_blocks : List ℕ
standard_blocks = r_trig ++ f_trig ++ sr ++ rs ++ ctu ++ ctd ++ ctud ++ ton ++ tof ++ tp
