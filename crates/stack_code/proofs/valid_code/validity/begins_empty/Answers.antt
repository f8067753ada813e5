use Rattle.std.proofs.Common.{◌≡◌, sym, ◌∙◌, ap, []}
use Rattle.std.specs.Option.{option_copied}
use Rattle.std.specs.Prelude.{Some, slice_get}
use Rattle.stack_code.proofs.valid_code.KindLists.{listed_is}
use Rattle.stack_code.proofs.valid_code.validity.begins_empty.Goals as goal

pub returns-in-Some-Some : goal.returns-in-Some-Some
returns-in-Some-Some c =
    let list : slice_get c.args.routine.now.kinds 0 ≡ Some (Some c.in-Some-Some.kinds) = sym c.get.ensures.value ∙ ap option_copied c.in-Some-Some.is ∙ ap Some c.in-Some-Some.field-0-is in
    let both = listed_is _ _ [] list in
    (λ t. both.0 (c.is_empty.ensures.0 t), λ e. c.is_empty.ensures.1 (both.1 e))
