use Rattle.std.proofs.Common.{suc, sym, ap, ◌∙◌}
use Rattle.st_types.specs.declared.st_type.StType.TheVariants as type
use Rattle.st_values.specs.Shape.{shape_within}
use Rattle.mem_layout.proofs.SizeLaws.{reach_less}
use Rattle.mem_layout.proofs.places.part.Goals as goal

pub returns-in-Array : goal.returns-in-Array
returns-in-Array c = λ p n sh f r h s.
    let x = c.in-Array in
    let is = x.is ∙ ap (type.Array x.low x.high) (sym c.get.ensures) in
    c.part_of_array.ensures p n sh f (reach_less p n c.args.tables.now r) (ap (shape_within p (suc n)) (sym is) ∙ h) s
