use Rattle.std.proofs.Common.{◌<◌, length, Some, ap, ◌∙◌, sym, arith}
use Rattle.std.specs.Prelude.{slice_get}
use Rattle.std.proofs.lemmas.Grind.{common_steps}
use Rattle.std.proofs.lemmas.Option.{slice_get_read}
use Rattle.mem_image.proofs.regions.Regions.at_mut.Goals as goal

pub returns : goal.returns
returns c =
    let table = c.self.inside.places in
    let place = c.index_mut-place.result.now in
    let within : c.args.region < table.len = omega (arith, ap length c.self.view_is) in (
      grind (arith, common_steps),
      record {
        writes_back = tt;
        value = ap (λ ps. slice_get ps c.args.region) (sym c.self.view_is) ∙ slice_get_read table.items table.len c.args.region place table.ok.0 within c.index_mut-place.ensures.value ∙ ap Some (sym c.as_mut.ensures.value);
      },
    )
