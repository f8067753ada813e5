use Rattle.std.proofs.Common.{refl, sym}
use Rattle.st_values.specs.View.{program_of, region_of}
use Rattle.value_trees.specs.Value.{members_of}
use Rattle.change_carry.specs.Private.Carry.{region_by}
use Rattle.change_carry.proofs.CarryLaws.{member_written, no_member_written}
use Rattle.change_carry.proofs.store.carry_place.Goals as goal

pub returns-in-Some : goal.returns-in-Some
returns-in-Some c =
    member_written c.carry_region.result (region_by (program_of c.args.c.now.old.program.now) (program_of c.args.c.now.new.program.now) c.args.keeping (members_of c.args.before.now) c.args.region (region_of c.args.decl.now)) c.args.held.now c.args.region c.in-Some.member.now _ c.in-Some.ensures.item refl c.carry_region.ensures

pub returns-in-None : goal.returns-in-None
returns-in-None c =
    no_member_written (region_by (program_of c.args.c.now.old.program.now) (program_of c.args.c.now.new.program.now) c.args.keeping (members_of c.args.before.now) c.args.region (region_of c.args.decl.now)) c.args.held.now c.args.region (sym c.in-None.ensures.item)
