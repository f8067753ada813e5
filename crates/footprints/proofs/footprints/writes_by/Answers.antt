use Rattle.std.proofs.Common.{ℕ, Bool, List, subst}
use Rattle.footprints.specs.Private.Inputs.{IsInput}
use Rattle.footprints.specs.Private.Puts.{Puts, Via}
use Rattle.footprints.proofs.PartLaws.{is_written}
use Rattle.footprints.proofs.footprints.writes_by.Goals as goal

pub returns-clause-exact : goal.returns-clause-exact
returns-clause-exact c =
    let a = c.in_ok-marks.marks.keys in
    let b = c.put_inputs.new.marks.keys in
    is_written c.args.t.now c.requires c.args.task c.in_ok-touched.touched.items a b c.in_ok-list.list.items c.in_ok-touched.ensures.exact c.in_ok-marks.ensures
    (subst (λ (read : List ℕ). Puts (Via read (IsInput c.args.t.now.inputs.items)) a b) c.as_slice-2.ensures.value
    (subst (λ (inputs : List Bool). Puts (Via c.as_slice-2.result.now (IsInput inputs)) a b) c.as_slice.ensures.value c.in_ok-put_inputs.ensures))
    c.in_ok-list.ensures.items
