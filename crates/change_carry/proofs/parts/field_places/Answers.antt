use Rattle.std.proofs.Common.{◌≡◌, arith}
use Rattle.change_names.proofs.change_pairs.PlaceLaws.{from_all}
use Rattle.change_carry.proofs.PartLaws.{has_name, fields_placed}
use Rattle.change_carry.proofs.parts.field_places.Goals as goal

pub returns : goal.returns
returns c =
    let h = c.fields-test.false in
    let e : c.fields.i ≡ 0 = omega (arith, h) in
    fields_placed c.args.fields.now c.fields.table (from_all has_name c.args.fields.now c.fields.i c.fields.table e c.fields.invariant)
