use Rattle.std.proofs.Common.{◌≡◌, ◌≤◌, length, Some, sym, ap, ◌∙◌, subst}
use Rattle.std.proofs.lemmas.Option.{slice_get-get_or}
use Rattle.std.specs.Prelude.{slice_get}
use Rattle.st_values.specs.View.{program_of, region_of}
use Rattle.value_trees.specs.Value.{members_of}
use Rattle.change_carry.specs.Private.Carry.{member_by, region_by}
use Rattle.change_carry.proofs.StoreLaws.{regions_next, regions_ended}
use Rattle.change_carry.proofs.store.carry_store.Goals as goal

pub loop-k-preserved : goal.loop-k-preserved
loop-k-preserved c =
    regions_next (program_of c.args.c.now.old.program.now) (program_of c.args.c.now.new.program.now) c.args.keeping (members_of c.args.before.now) region_of c.args.c.now.new.program.now.regions (members_of c.args.held.now) (members_of c.loop-k.held) (members_of c.carry_place.new.held) c.loop-k.k c.decl-item.result
    (ap (λ ds. slice_get ds c.loop-k.k) (sym c.as_slice-decl-items.ensures) ∙ slice_get-get_or c.as_slice-decl-items.result.now c.loop-k.k c.decl-item.result c.loop-k-test.true ∙ ap Some (sym c.decl-item.is)) c.loop-k.invariant
    (subst (λ r. members_of c.carry_place.new.held ≡ member_by r (region_by (program_of c.args.c.now.old.program.now) (program_of c.args.c.now.new.program.now) c.args.keeping (members_of c.args.before.now) r (region_of c.decl-item.result)) (members_of c.loop-k.held)) c.in_ok-region.ensures c.in_ok-carry_place.ensures)

pub returns : goal.returns
returns c = regions_ended (program_of c.args.c.now.old.program.now) (program_of c.args.c.now.new.program.now) c.args.keeping (members_of c.args.before.now) region_of c.args.c.now.new.program.now.regions (members_of c.args.held.now) (members_of c.loop-k.held) c.loop-k.k (subst (λ ds. length ds ≤ c.loop-k.k) c.as_slice-decl-items.ensures c.loop-k-test.false) c.loop-k.invariant
