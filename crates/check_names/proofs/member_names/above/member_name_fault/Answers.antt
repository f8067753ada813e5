use Rattle.std.proofs.Common.{◌++◌, map, drop, ap, ◌∙◌}
use Rattle.std.specs.Prelude.{flat_map}
use Rattle.st_rules.specs.Classes.{methods_in}
use Rattle.st_rules.specs.Faults.{least}
use Rattle.st_unit_rules.specs.NameRules.{space_faults, member_names, own_variables, method_named_as_variable}
use Rattle.check_names.specs.name_spaces.NamesIn.{names_of}
use Rattle.check_names.proofs.name_rules.FaultLists.{two_joined}
use Rattle.check_names.specs.member_names.Private.Above.{names_above, variable_above}
use Rattle.check_names.proofs.member_names.AboveLaws.{whole}
use Rattle.check_names.proofs.member_names.above.member_name_fault.Goals as goal

pub returns : goal.returns
returns c = λ all k knows e.
    let d = c.args.class.now in
    let above = c.bases-above.result.now in
    let vs = names_above c.args.names.now.variables.items above in
    let ms = names_above c.args.names.now.methods.items above in
    let space = space_faults (member_names d.members) in
    let variables = flat_map (variable_above vs ms) (map (λ w. w.name) (own_variables d.members)) in
    let methods = flat_map (method_named_as_variable vs) (map (λ m. m.name) (methods_in d.members)) in
    two_joined c.earlier.result c.methods_fault-of_methods.result c.earlier-2.result (space ++ variables) methods
    (two_joined c.in_ok-space.space c.variables_fault-of_variables.result c.earlier.result space variables
    (c.in_ok-space.ensures ∙ ap (λ ns. least (space_faults ns)) (ap names_of c.deref.ensures.value ∙ c.in_ok-all.ensures ∙ ap member_names c.as_slice-members.ensures))
    (c.variables_fault-of_variables.ensures ∙ ap (λ ns. least (flat_map (variable_above vs ms) ns)) (ap names_of c.deref-2.ensures.value ∙ c.in_ok-variables.ensures ∙ ap (λ xs. map (λ w. w.name) (own_variables xs)) c.as_slice-members.ensures))
    c.earlier.ensures)
    (c.methods_fault-of_methods.ensures ∙ ap (λ ns. least (flat_map (method_named_as_variable vs) ns)) (ap names_of c.deref-3.ensures.value ∙ c.in_ok-methods.ensures ∙ ap (λ xs. map (λ m. m.name) (methods_in xs)) c.as_slice-members.ensures))
    c.earlier-2.ensures
    ∙ whole c.args.names.now all k d above knows (c.bases-above.ensures ∙ ap (drop 1) e)
