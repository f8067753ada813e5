-- What was written and the lines that are left are the whole.
use Rattle.std.proofs.Common.{◌≡◌, ◌++◌, drop}
use Rattle.plc_text.specs.Lines.{text_of}
use Rattle.stack_code.specs.code_listing.Writing.{op_lines}
use Rattle.stack_code.proofs.code_listing.writing.push_ops.Given as goal

abbrev pub invariant-numbers : goal.invariant-numbers
invariant-numbers l = l.text ++ text_of (op_lines l.n (drop l.n l.ops)) ≡ l.initial.text ++ text_of (op_lines 0 l.ops)
