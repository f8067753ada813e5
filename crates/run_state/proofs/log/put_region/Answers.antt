use Rattle.std.proofs.Common.{refl, sym, ap, ◌∙◌, Ok, Err, option_map}
use Rattle.value_trees.specs.declared.value.Member.{Member}
use Rattle.value_trees.specs.Value.{value_of, members_of}
use Rattle.value_trees.proofs.Parts.{member_exchanged, members_get}
use Rattle.run_state.proofs.Stores.{region_put, no_region}
use Rattle.run_state.proofs.log.put_region.Goals as goal

pub returns-in-Ok : goal.returns-in-Ok
returns-in-Ok c =
    region_put (Ok c.in-Ok.old) (members_of c.args.store.now) _ c.args.path.now c.as_slice.result.now (value_of c.args.new) c.as_slice.ensures
    (member_exchanged (Ok c.in-Ok.old) c.args.store.now c.args.path.now.region c.as_slice.result.now (value_of c.args.new) c.in-Some.member.now _ (sym c.in-Some.ensures.item) refl c.in-Ok.ensures)

pub returns-in-Some : goal.returns-in-Some
returns-in-Some c =
    region_put (Err c.in-Err.field-0) (members_of c.args.store.now) _ c.args.path.now c.as_slice.result.now (value_of c.args.new) c.as_slice.ensures
    (member_exchanged (Err c.in-Err.field-0) c.args.store.now c.args.path.now.region c.as_slice.result.now (value_of c.args.new) c.in-Some.member.now _ (sym c.in-Some.ensures.item) refl c.in-Err.ensures)

pub returns : goal.returns
returns c = no_region (members_of c.args.store.now) c.args.path.now (value_of c.args.new) (members_get c.args.store.now c.args.path.now.region ∙ ap (option_map (λ (m : Member). value_of m.value)) (sym c.in-None.ensures.item))
