use Rattle.std.proofs.Common.{◌∙◌, ◌++◌, ◌≡◌, Some, [], ◌∷◌, ap, sym}
use Rattle.plant_cell.proofs.TurnSteps.{kept_opening}
use Rattle.plant_cell.proofs.plant.PlantOver+Option+Core+P+View+P+Origin+P+Law+P.new.Goals as goal

pub new-requires : goal.new-requires
new-requires g c =
    let e : c.of-start.result.value ≡ c.args.core = c.of-start.ensures in
    kept_opening _ _ _ (ap (λ p. p.history) e ∙ c.requires.empty) c.requires.passes.0
    (c.push_reserved.ensures.items ∙ (ap (λ l. l ++ Some c.args.core ∷ []) c.in_ok-slots.ensures.items ∙ ap (λ p. Some p ∷ []) (sym e)))
