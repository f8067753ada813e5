use Rattle.std.proofs.Common.{◌≡◌, ◌∙◌, arith}
use Rattle.plc_text.specs.Words.{same}
use Rattle.change_names.proofs.change_pairs.PlaceLaws.{from_all}
use Rattle.change_names.proofs.ListLaws.{by_names}
use Rattle.change_names.proofs.structures.type_places.Goals as goal

pub returns : goal.returns
returns c =
    let h = c.types-test.false in
    let e : c.types.i ≡ 0 = omega (arith, h) in
    let f = from_all (λ n t. same t.name.text n) c.args.types.now c.types.i c.types.table e c.types.invariant in
    record { by = λ n. f.by n ∙ by_names (λ t. t.name.text) n c.args.types.now }
