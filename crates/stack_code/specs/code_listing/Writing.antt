-- The listing of code: for each routine a heading, and a line for each instruction.
use Rattle.std.specs.Prelude.{ℕ, suc, List, [], ◌∷◌, ◌++◌, codes}
use Rattle.std.specs.Fmt.{decimal, signed_decimal}
use Rattle.plc_text.specs.Lines.{text_of}
use Rattle.st_types.specs.Elem.{name}
use Rattle.stack_code.specs.declared.op.Op.{Op}
use Rattle.stack_code.specs.declared.op.Op.TheVariants as op
use Rattle.stack_code.specs.declared.code.RoutineCode.{RoutineCode}
use Rattle.stack_code.specs.declared.code.MachineCode.{MachineCode}

-- the name of an instruction
abbrev pub name_of : Op → List ℕ
name_of (op.Push n) = codes "PUSH"
name_of op.Null = codes "NULL"
name_of op.Drop = codes "DROP"
name_of op.Dup = codes "DUP"
name_of (op.Local n) = codes "LOCAL"
name_of (op.This n) = codes "THIS"
name_of (op.Region r n) = codes "REGION"
name_of (op.Offset n) = codes "OFFSET"
name_of (op.Index lo hi size) = codes "INDEX"
name_of op.Deref = codes "DEREF"
name_of (op.Load e) = codes "LOAD"
name_of (op.Store e) = codes "STORE"
name_of op.LoadRef = codes "LOADREF"
name_of op.StoreRef = codes "STOREREF"
name_of (op.Copy n) = codes "COPY"
name_of (op.Add e) = codes "ADD"
name_of (op.Sub e) = codes "SUB"
name_of (op.Mul e) = codes "MUL"
name_of (op.Div e) = codes "DIV"
name_of (op.Mod e) = codes "MOD"
name_of (op.Neg e) = codes "NEG"
name_of (op.AddC e) = codes "ADDC"
name_of op.Eq = codes "EQ"
name_of op.Ne = codes "NE"
name_of op.Lt = codes "LT"
name_of op.Le = codes "LE"
name_of op.Gt = codes "GT"
name_of op.Ge = codes "GE"
name_of op.Same = codes "SAME"
name_of (op.And e) = codes "AND"
name_of (op.Or e) = codes "OR"
name_of (op.Xor e) = codes "XOR"
name_of (op.Not e) = codes "NOT"
name_of (op.Conv e f) = codes "CONV"
name_of op.NoZero = codes "NOZERO"
name_of (op.Jump to) = codes "JUMP"
name_of (op.JumpF to) = codes "JUMPF"
name_of op.Tick = codes "TICK"
name_of (op.Call k n) = codes "CALL"
name_of (op.CallM target s n) = codes "CALLM"
name_of (op.CallI i m n) = codes "CALLI"
name_of (op.Try target) = codes "TRY"
name_of op.Now = codes "NOW"
name_of (op.Ret n) = codes "RET"
name_of op.End = codes "END"

-- the operands of an instruction: numbers in decimal, kinds by their names
abbrev pub operands_of : Op → List (List ℕ)
operands_of (op.Push n) = signed_decimal n ∷ []
operands_of op.Null = []
operands_of op.Drop = []
operands_of op.Dup = []
operands_of (op.Local n) = decimal n ∷ []
operands_of (op.This n) = decimal n ∷ []
operands_of (op.Region r n) = decimal r ∷ decimal n ∷ []
operands_of (op.Offset n) = decimal n ∷ []
operands_of (op.Index lo hi size) = signed_decimal lo ∷ signed_decimal hi ∷ decimal size ∷ []
operands_of op.Deref = []
operands_of (op.Load e) = name e ∷ []
operands_of (op.Store e) = name e ∷ []
operands_of op.LoadRef = []
operands_of op.StoreRef = []
operands_of (op.Copy n) = decimal n ∷ []
operands_of (op.Add e) = name e ∷ []
operands_of (op.Sub e) = name e ∷ []
operands_of (op.Mul e) = name e ∷ []
operands_of (op.Div e) = name e ∷ []
operands_of (op.Mod e) = name e ∷ []
operands_of (op.Neg e) = name e ∷ []
operands_of (op.AddC e) = name e ∷ []
operands_of op.Eq = []
operands_of op.Ne = []
operands_of op.Lt = []
operands_of op.Le = []
operands_of op.Gt = []
operands_of op.Ge = []
operands_of op.Same = []
operands_of (op.And e) = name e ∷ []
operands_of (op.Or e) = name e ∷ []
operands_of (op.Xor e) = name e ∷ []
operands_of (op.Not e) = name e ∷ []
operands_of (op.Conv e f) = name e ∷ name f ∷ []
operands_of op.NoZero = []
operands_of (op.Jump to) = decimal to ∷ []
operands_of (op.JumpF to) = decimal to ∷ []
operands_of op.Tick = []
operands_of (op.Call k n) = decimal k ∷ decimal n ∷ []
operands_of (op.CallM target s n) = decimal target ∷ decimal s ∷ decimal n ∷ []
operands_of (op.CallI i m n) = decimal i ∷ decimal m ∷ decimal n ∷ []
operands_of (op.Try target) = decimal target ∷ []
operands_of op.Now = []
operands_of (op.Ret n) = decimal n ∷ []
operands_of op.End = []

-- words, each behind a space
abbrev pub spaced : List (List ℕ) → List ℕ
spaced [] = []
spaced (w ∷ ws) = codes " " ++ w ++ spaced ws

-- an instruction with its number
abbrev pub op_line : ℕ → Op → List ℕ
op_line n o = decimal n ++ spaced (name_of o ∷ operands_of o)

-- instructions, of which the first has this number
abbrev pub op_lines : ℕ → List Op → List (List ℕ)
op_lines n [] = []
op_lines n (o ∷ ops) = op_line n o ∷ op_lines (suc n) ops

abbrev pub heading : ℕ → RoutineCode → List ℕ
heading k r = codes "routine " ++ decimal k ++ codes " " ++ r.name

-- routines, of which the first has this number
abbrev pub routine_lines : ℕ → List RoutineCode → List (List ℕ)
routine_lines k [] = []
routine_lines k (r ∷ rs) = heading k r ∷ op_lines 0 r.ops ++ routine_lines (suc k) rs

-- each line is ended by LF
abbrev pub listing_of : MachineCode → List ℕ
listing_of code = text_of (routine_lines 0 code.routines)
