use Rattle.std.proofs.Common.{ℕ, List, map, ap, ◌∙◌, subst}
use Rattle.st_unit_rules.specs.NameRules.{own_variables}
use Rattle.st_unit_rules.specs.NameRules.{texts}
use Rattle.check_names.specs.name_spaces.Held.{Holds}
use Rattle.check_names.specs.name_spaces.NamesIn.{names_of}
use Rattle.check_names.proofs.member_names.OwnLaws.{variable_texts_are}
use Rattle.check_names.proofs.member_names.names.held_variables.Goals as goal

pub returns : goal.returns
returns c =
    subst (λ (ts : List (List ℕ)). Holds c.in_ok-held.held ts)
    (ap texts (ap names_of c.deref.ensures.value ∙ c.in_ok-names.ensures ∙ ap (λ ms. map (λ w. w.name) (own_variables ms)) c.as_slice.ensures) ∙ variable_texts_are c.args.class.now) c.in_ok-held.ensures
