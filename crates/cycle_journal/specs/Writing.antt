-- The journal as text: the version loaded first, a line for each entry, and the number of entries.
use Rattle.std.specs.Prelude.{ℕ, List, [], ◌∷◌, ◌++◌, length, codes, Option, Some, None, map}
use Rattle.std.specs.Fmt.{decimal}
use Rattle.plc_text.specs.Hex.{encode_lower}
use Rattle.plc_text.specs.Code.{code_name}
use Rattle.plc_text.specs.Fault.{fault_name}
use Rattle.plc_text.specs.Lines.{text_of}
use Rattle.plc_text.specs.declared.fault.FaultKind.{FaultKind}
use Rattle.cycle_journal.specs.declared.play.Play.{Play}
use Rattle.cycle_journal.specs.declared.play.Play.TheVariants.{Cycle, Change, Reset}
use Rattle.cycle_journal.specs.declared.entry.Entry.{Entry}
use Rattle.cycle_journal.specs.declared.entry.Answer.{Answer}
use Rattle.cycle_journal.specs.declared.entry.Answer.TheVariants.{Done, Fault, Held, NoTask, Loaded, Refused, RefusedMemory, Released}
use Rattle.cycle_journal.specs.Play.{play_numbered}

-- output bytes in hexadecimal, or a dash for none
abbrev pub image : List ℕ → List ℕ
image [] = codes "-"
image (b ∷ bytes) = encode_lower (b ∷ bytes)

-- the kind of fault behind a refusal's line, where there is one
abbrev pub kind_text : Option FaultKind → List ℕ
kind_text None = []
kind_text (Some kind) = codes " " ++ fault_name kind

abbrev pub answer_text : Answer → List ℕ
answer_text (Done ticks outputs) = codes "ok " ++ decimal ticks ++ codes " " ++ image outputs
answer_text (Fault fault) = codes "fault " ++ fault_name fault.kind ++ codes " " ++ decimal fault.line
answer_text Held = codes "held"
answer_text (NoTask since) = codes "notask " ++ decimal since
answer_text (Loaded version) = codes "loaded " ++ decimal version
answer_text (Refused r) = codes "refused " ++ code_name r.code ++ codes " " ++ r.declaration ++ codes " " ++ decimal r.line ++ kind_text r.kind
answer_text RefusedMemory = codes "refused memory"
answer_text Released = codes "ok"

-- the play as the journal names it
abbrev pub play_text : Option Play → List ℕ
play_text None = []
play_text (Some (Cycle task now input)) = codes "cycle " ++ task ++ codes " " ++ decimal now
play_text (Some (Change name source)) = codes "change " ++ name
play_text (Some (Reset task)) = codes "reset " ++ task

-- the entry's line
abbrev pub entry_text : List Play → Entry → List ℕ
entry_text plays e = decimal e.version ++ codes " " ++ decimal e.play ++ codes " " ++ play_text (play_numbered plays e.play) ++ codes " " ++ answer_text e.answer

-- the lines of the journal
abbrev pub journal_lines : List Play → List Entry → List (List ℕ)
journal_lines plays entries = codes "load 1" ∷ map (entry_text plays) entries ++ (codes "end " ++ decimal (length entries)) ∷ []

-- the journal's text: each line is ended by LF
abbrev pub journal_text : List Play → List Entry → List ℕ
journal_text plays entries = text_of (journal_lines plays entries)
