use Rattle.std.proofs.Common.{rules, ◌≡◌, ◌<◌, sym, ap, ◌∙◌, subst}
use Rattle.std.specs.Prelude.{option_map}
use Rattle.st_tree.specs.Initial.{initial_of}
use Rattle.st_values.specs.View.{program_of, initial_in}
use Rattle.program_tables.proofs.st_initial.WalkLaws.{given_by, given_copied}
use Rattle.mem_layout.specs.initial_images.Private.Fill.{CanFill, Filled}
use Rattle.mem_layout.proofs.initial_images.ImageLaws.{region_begun}
use Rattle.mem_layout.proofs.initial_images.images.initial_image.Goals as goal

pub returns : goal.returns
returns c =
    let p = program_of c.args.layout.now in
    let d = c.args.decl.now in
    let n = c.size_of-bytes.result in
    let a = c.in_ok-image.image in
    let b = c.fill_type.new.image in
    let given : given_by c.as_ref-given.result ≡ initial_in d.initial = given_copied c.as_ref-given.result ∙ ap (option_map initial_of) c.as_ref-given.ensures.value in
    let low : n < 4294967296 = search rules in
    region_begun p d n a b low (λ h. c.size_of-bytes.ensures h h.shape (record { depth = 65; by = h.unfolds })) c.in_ok-image.ensures
    (λ can. subst (λ o. Filled p 65 d.kind o 0 a b) given (c.in_ok-fill_type.ensures (subst (λ o. CanFill p 65 d.kind o 0 a) (sym given) can)))
