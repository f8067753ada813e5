use Rattle.std.proofs.Common.{rules, ◌≡◌, sym, ◌∙◌}
use Rattle.std.specs.Prelude.{Some, slice_get}
use Rattle.stack_code.proofs.valid_code.KindLists.{listed_is}
use Rattle.stack_code.proofs.valid_code.kinds.is_list_at.Goals as goal

pub returns-in-Some-Some : goal.returns-in-Some-Some
returns-in-Some-Some c =
    let there : slice_get c.args.routine.now.kinds c.args.at ≡ Some (Some c.in-Some-Some.list) = search rules in
    let both = listed_is _ _ c.args.kinds.now there in
    let same : c.as_slice.result.now ≡ c.in-Some-Some.list = c.as_slice.ensures in
    (λ t. both.0 (sym same ∙ c.same.ensures.0 t), λ e. c.same.ensures.1 (same ∙ both.1 e))
