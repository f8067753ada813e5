use Rattle.std.proofs.Common.{◌∙◌, ap, sym, subst}
use Rattle.plant_rules.specs.History.{state_of, Denies}
use Rattle.plant_core.proofs.CauseLaws.{at_once, version_is}
use Rattle.plant_core.proofs.hub.Core.refuse.Goals as goal

pub deny-requires : goal.deny-requires
deny-requires g c =
    let k = at_once _ _ _ _ _ c.self.view_is c.self.invariant in (
      c.requires.wish,
      subst (λ a. Denies g.P.Controlled.meaning c.args.self.now.script (state_of g.P.Controlled.meaning c.args.self.now) c.args.wish.play a) (sym c.answer_in.ensures)
          (c.requires.why (c.if-against-loaded.false ∙ (c.version-loaded.ensures.number ∙ ap g.P.Controlled.meaning.number (version_is _ _ _ _ _ k c.deref.ensures)))),
    )
