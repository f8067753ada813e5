use Rattle.std.proofs.Common.{Some, None, sym, ap, ◌∙◌}
use Rattle.st_values.specs.View.{program_of, region_of}
use Rattle.change_names.specs.Regions.{number_at}
use Rattle.shape_trees.specs.Shape.{shape_of}
use Rattle.change_kept.proofs.KeptLaws.{region_at, no_region, no_old, no_shape, no_old_shape, is_anew, is_equal}
use Rattle.change_kept.proofs.kept.is_kept.Goals as goal

pub returns-in_default : goal.returns-in_default
returns-in_default c =
    no_region (program_of c.args.c.now.old.program.now) (program_of c.args.c.now.new.program.now) c.args.region
    (region_at c.args.c.now.new.program.now c.args.region None (sym c.in_default.ensures.value))

pub returns-in_default-number_in : goal.returns-in_default-number_in
returns-in_default-number_in c =
    no_old (program_of c.args.c.now.old.program.now) (program_of c.args.c.now.new.program.now) c.args.region
    (sym (c.in_default-number_in.ensures ∙ ap (λ xs. number_at xs c.args.region) c.deref.ensures.value ∙ c.requires.names.regions.before c.args.region))

pub returns-in_default-region_shape : goal.returns-in_default-region_shape
returns-in_default-region_shape c =
    no_shape (program_of c.args.c.now.old.program.now) (program_of c.args.c.now.new.program.now) c.args.region (region_of c.in-Some.decl.now) c.in-Some-number_in.before
    (region_at c.args.c.now.new.program.now c.args.region (Some c.in-Some.decl.now) (sym c.in-Some.ensures.value))
    (sym (c.in-Some-number_in.ensures ∙ ap (λ xs. number_at xs c.args.region) c.deref.ensures.value ∙ c.requires.names.regions.before c.args.region))
    (sym (c.in_default-region_shape.ensures ∙ c.requires.new_shapes.by c.args.region))

pub returns-in_default-region_shape-2 : goal.returns-in_default-region_shape-2
returns-in_default-region_shape-2 c =
    no_old_shape (program_of c.args.c.now.old.program.now) (program_of c.args.c.now.new.program.now) c.args.region (region_of c.in-Some.decl.now) c.in-Some-number_in.before
    (region_at c.args.c.now.new.program.now c.args.region (Some c.in-Some.decl.now) (sym c.in-Some.ensures.value))
    (sym (c.in-Some-number_in.ensures ∙ ap (λ xs. number_at xs c.args.region) c.deref.ensures.value ∙ c.requires.names.regions.before c.args.region))
    (sym (c.in_default-region_shape-2.ensures ∙ c.requires.old_shapes.by c.in-Some-number_in.before))

pub returns-then-is_made_anew : goal.returns-then-is_made_anew
returns-then-is_made_anew c =
    is_anew (program_of c.args.c.now.old.program.now) (program_of c.args.c.now.new.program.now) c.args.region (region_of c.in-Some.decl.now) c.in-Some-number_in.before (shape_of c.in-Some-region_shape.shape.now)
    (region_at c.args.c.now.new.program.now c.args.region (Some c.in-Some.decl.now) (sym c.in-Some.ensures.value))
    (sym (c.in-Some-number_in.ensures ∙ ap (λ xs. number_at xs c.args.region) c.deref.ensures.value ∙ c.requires.names.regions.before c.args.region))
    (sym (c.in-Some-region_shape.ensures ∙ c.requires.new_shapes.by c.args.region)) (sym c.is_made_anew.ensures ∙ c.if-is_made_anew.true)

pub returns : goal.returns
returns c =
    c.same_shape.ensures
    ∙ is_equal (program_of c.args.c.now.old.program.now) (program_of c.args.c.now.new.program.now) c.args.region (region_of c.in-Some.decl.now) c.in-Some-number_in.before (shape_of c.in-Some-region_shape.shape.now) (shape_of c.in-Some-region_shape-2.old.now)
    (region_at c.args.c.now.new.program.now c.args.region (Some c.in-Some.decl.now) (sym c.in-Some.ensures.value))
    (sym (c.in-Some-number_in.ensures ∙ ap (λ xs. number_at xs c.args.region) c.deref.ensures.value ∙ c.requires.names.regions.before c.args.region))
    (sym (c.in-Some-region_shape.ensures ∙ c.requires.new_shapes.by c.args.region))
    (sym (c.in-Some-region_shape-2.ensures ∙ c.requires.old_shapes.by c.in-Some-number_in.before)) (sym c.is_made_anew.ensures ∙ c.if-is_made_anew.false)
