-- The texts of reports of one line.
use Rattle.std.specs.Prelude.{ℕ, List, ◌++◌, codes}
use Rattle.std.specs.Fmt.{decimal}
use Rattle.plc_text.specs.Code.{code_name}
use Rattle.plc_text.specs.Lines.{ended}
use Rattle.plc_text.specs.declared.refusal.Refusal.{Refusal}
use Rattle.cycle_journal.specs.Writing.{kind_text}

-- `script LINE`
abbrev pub script_text : ℕ → List ℕ
script_text line = ended (codes "script " ++ decimal line)

-- `CODE DECLARATION LINE`, and for E17 a space and the fault's kind
abbrev pub refusal_text : Refusal → List ℕ
refusal_text r = code_name r.code ++ codes " " ++ r.declaration ++ codes " " ++ decimal r.line ++ kind_text r.kind

-- `refused CODE DECLARATION LINE`
abbrev pub refused_text : Refusal → List ℕ
refused_text r = ended (codes "refused " ++ refusal_text r)
