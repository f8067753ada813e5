-- The checked program of a good unit that is formed is sized, its outputs share no bit, and its initial values are in range.
use Rattle.std.proofs.Common.{◌≤◌, ℕ, List, arith}
use Rattle.st_tree.specs.declared.program.Program.{Program}
use Rattle.st_tree.specs.declared.unit.Decl.{Decl}
use Rattle.st_unit_rules.specs.Checked.{IsChecked}
use Rattle.st_unit_rules.specs.RefusalLaws.{IsGood}
use Rattle.st_values.specs.View.{program_of}
use Rattle.accepted_texts.specs.st_accepted.Accepted.{most_bytes}
use Rattle.accepted_texts.specs.formed_units.Formed.{IsFormed}
use Rattle.accepted_texts.proofs.formed_texts.Texts.{formed_text_laws}
use Rattle.accepted_texts.specs.sized_units.Sized.{SizedUnitLaws}
use Rattle.mem_layout.specs.loaded_meaning.Sized.{IsSized}
use Rattle.accepted_texts.specs.sized_units.Locals.{LocalsAre}
use Rattle.accepted_texts.proofs.sized_units.Bodies.{bodies_small}
use Rattle.accepted_texts.proofs.sized_units.Bytes.{byte_small, covered_few}
use Rattle.accepted_texts.proofs.sized_units.Locals.{functions_small, methods_small}
use Rattle.accepted_texts.proofs.sized_units.Outputs.{outputs_are}
use Rattle.accepted_texts.proofs.sized_units.Starts.{starts_in_range}
use Rattle.accepted_texts.proofs.sized_units.Told.{few_values, parts_are_told}
use Rattle.accepted_texts.proofs.sized_units.Top.{sized}

good_sized : (most : ℕ) (decls : List (Decl ℕ)) (p : Program) → most ≤ 4_294_967_296 → IsFormed most decls → IsGood decls → IsChecked decls p → IsSized (program_of p)
good_sized most decls p l h good checked = sized decls p checked good.nothing (parts_are_told decls (formed_text_laws.told most decls h good.nothing)) (few_values most decls l h) good.configured

good_locals : (most : ℕ) (decls : List (Decl ℕ)) (p : Program) → most ≤ 4_294_967_296 → IsFormed most decls → IsGood decls → IsChecked decls p → LocalsAre (program_of p)
good_locals most decls p l h good checked =
    let all = formed_text_laws.told most decls h good.nothing in
    let few = few_values most decls l h in
    record { functions = functions_small decls p checked good.nothing all few; methods = methods_small decls p checked good.nothing all few; bodies = bodies_small decls p checked good.nothing all few }

pub sized_unit_laws : SizedUnitLaws
sized_unit_laws = record {
  sized = good_sized;
  outputs = λ most decls p h good checked. outputs_are most decls p h good.nothing checked (formed_text_laws.told most decls h good.nothing);
  accepted = λ text p a. good_sized most_bytes a.whole.decls p (omega arith) (formed_text_laws.standard text a.whole a.is_unit) a.good a.checked;
  accepted_outputs = λ text p a.
      let h = formed_text_laws.standard text a.whole a.is_unit in
      outputs_are most_bytes a.whole.decls p h a.good.nothing a.checked (formed_text_laws.told most_bytes a.whole.decls h a.good.nothing);
  locals = good_locals;
  accepted_locals = λ text p a. good_locals most_bytes a.whole.decls p (omega arith) (formed_text_laws.standard text a.whole a.is_unit) a.good a.checked;
  starts = starts_in_range;
  covered_few = covered_few;
  bytes = byte_small;
}
