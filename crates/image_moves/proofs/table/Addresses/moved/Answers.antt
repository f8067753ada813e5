use Rattle.std.proofs.Common.{◌≡◌, true, Some, sym, ap, ◌∙◌}
use Rattle.std.specs.Prelude.{slice_get}
use Rattle.image_moves.specs.Table.{may_go, is_low, word_at, word_from}
use Rattle.image_moves.proofs.TableFacts.{target_low, target_found}
use Rattle.image_moves.proofs.table.Addresses.moved.Goals as goal

pub word-requires : goal.word-requires
word-requires c =
    let t = c.in-Some-Some.target in
    let e : slice_get c.args.self.now.regions c.args.region ≡ Some (Some t) = sym c.in-Some-Some.ensures.value ∙ ap Some c.in-Some-Some.field-0-is in
    let low = c.args.self.now.low c.args.region c.args.offset in
    ap is_low (target_found _ t c.args.offset c.find.result e low c.find.ensures) ∙ target_low _ t c.args.offset e low

pub returns-in-Some-Some : goal.returns-in-Some-Some
returns-in-Some-Some c =
    let t = c.in-Some-Some.target in
    let e : slice_get c.args.self.now.regions c.args.region ≡ Some (Some t) = sym c.in-Some-Some.ensures.value ∙ ap Some c.in-Some-Some.field-0-is in
    let low = c.args.self.now.low c.args.region c.args.offset in
    let fits = may_go c.args.self.now.bits c.args.self.now.classes c.args.aim in
    c.word.ensures ∙ ap (word_at fits t.region) (target_found _ t c.args.offset c.find.result e low c.find.ensures) ∙ sym (ap (λ o. word_from fits o c.args.offset) e)
