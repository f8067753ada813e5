use Rattle.std.proofs.Common.{◌+◌, List, ℕ, take, drop, sym, ap, ◌∙◌}
use Rattle.std.proofs.lemmas.List.{take_rest}
use Rattle.plc_text.specs.Lines.{lines_of}
use Rattle.scenario.specs.Reading.{without_returns}
use Rattle.scenario.proofs.EndLaws.{first-ended, last-unended, first_place, no_first_place}
use Rattle.scenario.proofs.lines.first_line.Goals as goal

pub returns-in-Some : goal.returns-in-Some
returns-in-Some c =
    let bytes = c.args.bytes.now in
    let end = c.in-Some.end in
    let at = first_place bytes end (sym c.in-Some.ensures.place) in
    let rest = take_rest bytes (end + 1) in
    let front = c.without_return.ensures in
    rw (rest, front) (ap (λ (b : List ℕ). lines_of (without_returns b)) at.0 ∙ first-ended (take end bytes) (drop (end + 1) bytes) at.1)

pub returns-in-None : goal.returns-in-None
returns-in-None c = last-unended c.args.bytes.now c.requires (no_first_place c.args.bytes.now (sym c.in-None.ensures.place))
