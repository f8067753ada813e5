use Rattle.std.proofs.Common.{List, map, ap, ap₂, ◌∙◌, subst}
use Rattle.std.specs.Prelude.{option_and_then}
use Rattle.st_change.specs.From.{old_name, new_name, region_from, region_pairs_by, names_of_regions}
use Rattle.st_values.specs.View.{program_of}
use Rattle.change_names.specs.declared.change_pairs.regions.Placed.{Placed}
use Rattle.change_names.specs.change_pairs.Places.{found_in}
use Rattle.change_names.specs.change_pairs.Regions.{regions_of}
use Rattle.change_names.specs.Private.Places.{ArePlacesOf}
use Rattle.change_names.proofs.RegionLaws.{pairs_are, numbers_are}
use Rattle.change_names.proofs.regions.region_numbers.Goals as goal

pub returns : goal.returns
returns c =
    let olds = regions_of c.in_ok-before.before.items in
    let news = regions_of c.in_ok-after.after.items in
    let before = c.in_ok-old_places.old_places in
    let after = c.in_ok-new_places.new_places in
    let ps = c.in_ok-table.table in
    numbers_are (program_of c.args.old.now) (program_of c.args.new.now) (record { old = c.in_ok-old.old; new = c.in_ok-new.new }) olds news ps before after c.in_ok-before.ensures c.in_ok-after.ensures
    (c.in_ok-table.ensures ∙ c.in_ok-pairs.ensures
    ∙ ap₂ (λ (a b : List Placed). region_pairs_by (region_from (regions_of a) (regions_of b)) (regions_of a)) c.deref-3.ensures.value c.deref-4.ensures.value
    ∙ pairs_are (program_of c.args.old.now) (program_of c.args.new.now) news olds c.in_ok-after.ensures c.in_ok-before.ensures)
    (subst (λ (xs : List Placed). ArePlacesOf before (names_of_regions (regions_of xs))) c.deref.ensures.value c.in_ok-old_places.ensures)
    (subst (λ (xs : List Placed). ArePlacesOf after (names_of_regions (regions_of xs))) c.deref-2.ensures.value c.in_ok-new_places.ensures)
    (c.in_ok-old.ensures ∙ ap (λ (xs : List Placed). map (λ x. option_and_then (found_in before) (old_name ps x.variable.name)) (regions_of xs)) c.deref-5.ensures.value)
    (c.in_ok-new.ensures ∙ ap (λ (xs : List Placed). map (λ x. option_and_then (found_in after) (new_name ps x.variable.name)) (regions_of xs)) c.deref-6.ensures.value)
