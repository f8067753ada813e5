use Rattle.std.proofs.Common.{None, Some, sym, ap, ◌∙◌, arith}
use Rattle.std.proofs.lemmas.Str.Pattern.{split_parts}
use Rattle.plc_text.specs.Fields.{first_field, behind_field}
use Rattle.plc_text.proofs.LineLaws.{HoldsNo-from_places}
use Rattle.plc_text.proofs.FieldLaws.{first_field-space, behind_field-space, first_field-all, behind_field-all}
use Rattle.plc_text.proofs.fields.split_field.Goals as goal

pub returns-in-Some-clause-first : goal.returns-in-Some-clause-first
returns-in-Some-clause-first c =
    let parts = split_parts 32 c.args.line.now (Some c.in-Some.parts) c.in-Some.ensures.cases (omega arith) in
    sym (ap first_field parts.0 ∙ first_field-space _ _ (HoldsNo-from_places 32 _ parts.1))

pub returns-in-Some-clause-rest : goal.returns-in-Some-clause-rest
returns-in-Some-clause-rest c =
    let parts = split_parts 32 c.args.line.now (Some c.in-Some.parts) c.in-Some.ensures.cases (omega arith) in
    sym (ap behind_field parts.0 ∙ behind_field-space _ _ (HoldsNo-from_places 32 _ parts.1))

pub returns-in-None-clause-first : goal.returns-in-None-clause-first
returns-in-None-clause-first c =
    let places = split_parts 32 c.args.line.now None c.in-None.ensures.cases (omega arith) in
    sym (first_field-all _ (HoldsNo-from_places 32 _ places))

pub returns-in-None-clause-rest : goal.returns-in-None-clause-rest
returns-in-None-clause-rest c =
    let places = split_parts 32 c.args.line.now None c.in-None.ensures.cases (omega arith) in
    sym (behind_field-all _ (HoldsNo-from_places 32 _ places))
