use Rattle.std.proofs.Common.{None, Some, ap, ◌∙◌, arith}
use Rattle.std.proofs.lemmas.Str.Pattern.{split_parts}
use Rattle.plc_text.specs.Lines.{lines_of}
use Rattle.plc_text.proofs.LineLaws.{HoldsNo-from_places, lines_of-ended, lines_of-unended}
use Rattle.plc_text.proofs.lines.first_line.Goals as goal

pub returns-in-Some : goal.returns-in-Some
returns-in-Some c =
    let parts = split_parts 10 c.args.text.now (Some c.in-Some.parts) c.in-Some.ensures.cases (omega arith) in
    ap lines_of parts.0 ∙ lines_of-ended _ _ (HoldsNo-from_places 10 _ parts.1)

pub returns-in-None : goal.returns-in-None
returns-in-None c =
    let places = split_parts 10 c.args.text.now None c.in-None.ensures.cases (omega arith) in
    lines_of-unended _ c.requires (HoldsNo-from_places 10 _ places)
