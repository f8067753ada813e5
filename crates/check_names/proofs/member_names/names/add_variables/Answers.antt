use Rattle.std.proofs.Common.{ℕ, List, [], ◌∷◌, ◌++◌, sym, subst}
use Rattle.st_tree.specs.declared.unit.Decl.{Decl}
use Rattle.st_unit_rules.specs.NameRules.{variable_texts}
use Rattle.st_rules.specs.Classes.{classes_in}
use Rattle.check_names.specs.member_names.Known.{AreHeld}
use Rattle.check_names.proofs.member_names.OwnLaws.{held_pushed}
use Rattle.check_names.proofs.member_names.names.add_variables.Goals as goal

pub returns-in_ok-push : goal.returns-in_ok-push
returns-in_ok-push c = λ cs h.
    subst (λ (d : Decl ℕ). AreHeld variable_texts c.push.new.self.items (cs ++ classes_in (d ∷ []))) (sym c.in-Class.is)
    (subst (λ (hs : List (List (List ℕ))). AreHeld variable_texts hs (cs ++ c.in-Class.class ∷ [])) (sym c.in_ok-push.ensures.items)
    (held_pushed variable_texts c.args.list.now.items cs c.in_ok-held.held c.in-Class.class h c.in_ok-held.ensures))
