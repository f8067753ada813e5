use Rattle.std.proofs.Common.{ap, ◌∙◌}
use Rattle.cycle_journal.specs.declared.entry.CycleReply.TheVariants as reply
use Rattle.st_values.specs.View.{program_of}
use Rattle.run_state.specs.State.{base_of, state_of}
use Rattle.value_trees.specs.Value.{members_of}
use Rattle.process_image.specs.Located.{all_seen}
use Rattle.reference_cycle.proofs.CycleLaws.{ended_so, stops_with, keeps_with, comes_to, comes_back}
use Rattle.reference_cycle.proofs.cycles.cycle.Goals as goal

pub returns-in-Ok : goal.returns-in-Ok
returns-in-Ok c =
    ended_so c.done.result _ _
    (comes_to (program_of c.args.on.now.tables.now) (all_seen c.args.located.now) c.args.regions.now c.args.task c.args.moment c.args.input.now (members_of c.args.store) c.requires.located
    (state_of c.begun-m.result) (state_of c.latch.new.m) c.begun-m.ensures.run c.in_ok-latch.ensures.run (state_of c.run_task.new.m) c.in-Ok.ensures.run)
    c.done.ensures

pub returns-in-Fault : goal.returns-in-Fault
returns-in-Fault c =
    c.taken_back.ensures
    ∙ ap (λ b. (reply.Fault c.in-Fault.fault, b)) (keeps_with c.in-Err.stop c.in-Fault.fault (base_of c.latch.new.m) (base_of c.run_task.new.m) c.in-Fault.is c.in-Err.ensures.base ∙ c.in_ok-latch.ensures.base ∙ c.begun-m.ensures.base)
    ∙ comes_back (program_of c.args.on.now.tables.now) (all_seen c.args.located.now) c.args.regions.now c.args.task c.args.moment c.args.input.now (members_of c.args.store) c.requires.located
    (state_of c.begun-m.result) (state_of c.latch.new.m) c.begun-m.ensures.run c.in_ok-latch.ensures.run c.in-Fault.fault (stops_with c.in-Err.stop c.in-Fault.fault _ (state_of c.run_task.new.m) c.in-Fault.is c.in-Err.ensures.run)
