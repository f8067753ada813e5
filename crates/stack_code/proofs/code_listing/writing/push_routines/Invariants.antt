-- What was written and the lines that are left are the whole.
use Rattle.std.proofs.Common.{◌≡◌, ◌++◌, drop}
use Rattle.plc_text.specs.Lines.{text_of}
use Rattle.stack_code.specs.code_listing.Writing.{routine_lines}
use Rattle.stack_code.proofs.code_listing.writing.push_routines.Given as goal

abbrev pub invariant-numbers : goal.invariant-numbers
invariant-numbers l = l.text ++ text_of (routine_lines l.k (drop l.k l.routines)) ≡ l.initial.text ++ text_of (routine_lines 0 l.routines)
