use Rattle.std.proofs.Common.{ℕ, List, map, ap, ◌∙◌, subst}
use Rattle.st_rules.specs.Classes.{methods_in}
use Rattle.st_unit_rules.specs.NameRules.{texts}
use Rattle.check_names.specs.name_spaces.Held.{Holds}
use Rattle.check_names.specs.name_spaces.NamesIn.{names_of}
use Rattle.check_names.proofs.member_names.OwnLaws.{method_texts_are}
use Rattle.check_names.proofs.member_names.names.held_methods.Goals as goal

pub returns : goal.returns
returns c =
    subst (λ (ts : List (List ℕ)). Holds c.in_ok-held.held ts)
    (ap texts (ap names_of c.deref.ensures.value ∙ c.in_ok-names.ensures ∙ ap (λ ms. map (λ m. m.name) (methods_in ms)) c.as_slice.ensures) ∙ method_texts_are c.args.class.now) c.in_ok-held.ensures
