use Rattle.std.proofs.Common.{sym}
use Rattle.std.specs.Map.{keys_of}
use Rattle.check_configurations.proofs.checked_tasks.ListLaws.{place_within, added_at, added_task}
use Rattle.check_configurations.proofs.checked_tasks.groups.TaskRegions.add.Goals as goal

pub add_at-requires : goal.add_at-requires
add_at-requires c = place_within (keys_of c.args.self.now.tasks) c.args.self.now.numbers.items c.args.task.now c.requires c.in-Some.place (sym c.in-Some.ensures)

pub returns-in_ok-add_at-in-Some : goal.returns-in_ok-add_at-in-Some
returns-in_ok-add_at-in-Some c =
    added_at (keys_of c.args.self.now.tasks) c.args.self.now.numbers.items c.args.task.now c.args.number c.requires c.in-Some.place (sym c.in-Some.ensures) c.add_at.new.lists.items c.in_ok-add_at-in-Some.ensures

pub returns-in_ok-add_task-in-None : goal.returns-in_ok-add_task-in-None
returns-in_ok-add_task-in-None c =
    added_task (keys_of c.args.self.now.tasks) c.args.self.now.numbers.items c.args.task.now c.args.number c.requires (sym c.in-None.ensures) (keys_of c.add_task.new.self.tasks) c.add_task.new.self.numbers.items
    c.in_ok-add_task-in-None.ensures.tasks c.in_ok-add_task-in-None.ensures.numbers
