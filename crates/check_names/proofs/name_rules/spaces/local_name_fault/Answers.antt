use Rattle.std.proofs.Common.{ap, ◌∙◌}
use Rattle.std.specs.Prelude.{flat_map}
use Rattle.st_rules.specs.Faults.{least}
use Rattle.st_unit_rules.specs.NameRules.{space_faults, section_names, local_named_as_routine, local_name_faults}
use Rattle.check_names.specs.name_spaces.NamesIn.{names_of}
use Rattle.check_names.proofs.name_rules.FaultLists.{two_joined}
use Rattle.check_names.proofs.name_rules.spaces.local_name_fault.Goals as goal

pub returns : goal.returns
unfolding local_name_faults
returns c =
    let ss = c.args.sections.now in
    two_joined c.in_ok-space.space c.named_fault-named.result c.earlier.result (space_faults (section_names ss)) (flat_map (local_named_as_routine c.args.routine.now) (section_names ss))
    (c.in_ok-space.ensures ∙ ap (λ ns. least (space_faults ns)) (ap names_of c.deref.ensures.value ∙ c.in_ok-names.ensures))
    (c.named_fault-named.ensures ∙ ap (λ ns. least (flat_map (local_named_as_routine c.args.routine.now) ns)) (ap names_of c.deref-2.ensures.value ∙ c.in_ok-names.ensures)) c.earlier.ensures
