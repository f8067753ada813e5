use Rattle.std.proofs.Common.{ℕ, ◌+◌, ◌*◌, length}
use Rattle.st_unit_rules.specs.Worth.{worth_within}
use Rattle.default_values.proofs.initial_worths.LoopLaws.{PartsGo, NamesGo, GroupsGo}
use Rattle.default_values.proofs.initial_worths.walk.+weigh.Given as goal

-- ---- each goes down a step of containment, or on to what is ranked lower

abbrev pub decreases-weigh : goal.decreases-weigh
decreases-weigh g l = 8 * l.steps

abbrev pub decreases-weigh_array : goal.decreases-weigh_array
decreases-weigh_array g l = 8 * l.steps + 4

abbrev pub decreases-put_elements : goal.decreases-put_elements
decreases-put_elements g l = 8 * l.steps + 3

abbrev pub decreases-put_parts : goal.decreases-put_parts
decreases-put_parts g l = 8 * l.steps + 2

abbrev pub decreases-put_many : goal.decreases-put_many
decreases-put_many g l = 8 * l.steps + 1

abbrev pub decreases-weigh_structure : goal.decreases-weigh_structure
decreases-weigh_structure g l = 8 * l.steps + 7

abbrev pub decreases-put_groups : goal.decreases-put_groups
decreases-put_groups g l = 8 * l.steps + 6

abbrev pub decreases-put_group : goal.decreases-put_group
decreases-put_group g l = 8 * l.steps + 5

abbrev pub decreases-put_names : goal.decreases-put_names
decreases-put_names g l = 8 * l.steps + 4

abbrev pub decreases-put_field : goal.decreases-put_field
decreases-put_field g l = 8 * l.steps + 3

abbrev pub decreases-put_given : goal.decreases-put_given
decreases-put_given g l = 8 * l.steps + 2

-- ---- what was put, and what is left, is all

abbrev pub invariant-put_parts-parts : goal.invariant-put_parts-parts
invariant-put_parts-parts g l = PartsGo l.structures l.steps (λ u e. worth_within u e l.steps (g.S.ConstantValues.scope l.s) l.of) l.rooms l.parts l.initial.list l.initial.table l.table l.list l.left

abbrev pub decreases-put_parts-parts : goal.decreases-put_parts-parts
decreases-put_parts-parts g l = length l.left

abbrev pub invariant-put_names-names : goal.invariant-put_names-names
invariant-put_names-names g l = NamesGo l.structures l.steps (g.S.ConstantValues.scope l.s) l.group l.names l.fields l.initial.list l.initial.table l.table l.list l.left

abbrev pub decreases-put_names-names : goal.decreases-put_names-names
decreases-put_names-names g l = length l.left

abbrev pub invariant-put_groups-loop-place : goal.invariant-put_groups-loop-place
invariant-put_groups-loop-place g l = GroupsGo l.structures l.steps (g.S.ConstantValues.scope l.s) l.groups l.fields l.initial.list l.initial.table l.table l.list l.place

abbrev pub decreases-put_groups-loop-place : goal.decreases-put_groups-loop-place
decreases-put_groups-loop-place g l = l.place
