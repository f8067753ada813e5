use Rattle.std.proofs.Common.{◌≡◌, ap, ◌∙◌, arith}
use Rattle.plc_text.specs.Words.{same}
use Rattle.st_rules.specs.Named.{first_place}
use Rattle.change_names.proofs.change_pairs.PlaceLaws.{from_all}
use Rattle.change_names.proofs.ListLaws.{by_names}
use Rattle.change_names.proofs.RegionLaws.{names_by}
use Rattle.change_names.proofs.regions.region_places.Goals as goal

pub returns : goal.returns
returns c =
    let h = c.regions-test.false in
    let e : c.regions.i ≡ 0 = omega (arith, h) in
    let f = from_all (λ n x. same x.variable.name.now n) c.args.regions.now c.regions.i c.regions.table e c.regions.invariant in
    record { by = λ n. f.by n ∙ by_names (λ x. x.variable.name.now) n c.args.regions.now ∙ ap (first_place n) (names_by c.args.regions.now) }
