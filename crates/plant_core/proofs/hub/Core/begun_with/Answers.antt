use Rattle.std.proofs.Common.{◌≡◌, ◌∙◌, refl}
use Rattle.std.specs.Arc.{arc_value}
use Rattle.plant_core.proofs.Beginning.{kept_new}
use Rattle.plant_core.proofs.hub.Core.begun_with.Goals as goal

pub invariant_of-result : goal.invariant_of-result
invariant_of-result g c =
    let version : c.of-version.result.value ≡ arc_value c.args.first.loaded = c.of-version.ensures ∙ c.deref.ensures in
    rw (version, c.of-first_contents.ensures)
    (kept_new _ g.P.Controlled.meaning _ _ _ _ _ _ _ _ _ _ _ _ _ _ _ _ c.requires.blank c.requires.inputs refl refl refl c.requires.whole)

pub returns : goal.returns
returns g c =
    let version : c.of-version.result.value ≡ arc_value c.args.first.loaded = c.of-version.ensures ∙ c.deref.ensures in
    rw (version, c.of-first_contents.ensures, c.requires.blank.no-event) refl
