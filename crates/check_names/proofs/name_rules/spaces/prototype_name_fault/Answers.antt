use Rattle.std.proofs.Common.{ap, ◌∙◌}
use Rattle.std.specs.Prelude.{flat_map}
use Rattle.st_rules.specs.Faults.{least}
use Rattle.st_unit_rules.specs.NameRules.{space_faults}
use Rattle.check_names.specs.name_spaces.NamesIn.{names_of}
use Rattle.check_names.specs.name_rules.Spaces.{prototype_locals, method_names_of}
use Rattle.check_names.proofs.name_rules.FaultLists.{two_joined}
use Rattle.check_names.proofs.name_rules.spaces.prototype_name_fault.Goals as goal

pub returns : goal.returns
returns c =
    let methods = c.args.interface.now.methods in
    two_joined c.in_ok-space.space c.in_ok-locals.locals c.earlier.result (space_faults (method_names_of methods)) (flat_map prototype_locals methods)
    (c.in_ok-space.ensures ∙ ap (λ ns. least (space_faults ns)) (ap names_of c.deref.ensures.value ∙ c.in_ok-names.ensures ∙ ap method_names_of c.as_slice-methods.ensures))
    (c.in_ok-locals.ensures ∙ ap (λ ms. least (flat_map prototype_locals ms)) c.as_slice-methods.ensures) c.earlier.ensures
