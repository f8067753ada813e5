use Rattle.std.proofs.Common.{◌≡◌, arith}
use Rattle.change_names.proofs.change_paths.NumberLaws.{places_found}
use Rattle.change_names.proofs.change_paths.numbers.places.Goals as goal

pub returns : goal.returns
returns c =
    let h = c.variables-test.false in
    let e : c.variables.i ≡ 0 = omega (arith, h) in
    places_found c.args.all.now c.variables.i c.variables.table e c.variables.invariant
