use Rattle.std.proofs.Common.{refl, sym, ap, ◌∙◌}
use Rattle.std.specs.Prelude.{not}
use Rattle.st_tree.specs.Expression.{selectors_of, expression_of, expression_of-Int, expression_of-Typed, expression_of-Time, expression_of-True, expression_of-False, expression_of-Null, expression_of-Call, expression_of-Enumerator, expression_of-Ref, expression_of-Now, expression_of-Paren, expression_of-Not, expression_of-Negate, expression_of-Chain}
use Rattle.st_rules.specs.Places.{is_fixed}
use Rattle.st_rules.specs.Calls.{is_bindable_place}
use Rattle.check_nodes.proofs.ViewLaws.{place_is, no_place}
use Rattle.check_nodes.proofs.given.is_bindable_place.Goals as goal

pub returns-in-Place : goal.returns-in-Place
returns-in-Place c =
    ap not (c.is_fixed.ensures ∙ ap (λ ss. is_fixed c.args.s.now c.in-Place.place.root (selectors_of ss)) c.as_slice.ensures)
    ∙ sym (ap (is_bindable_place c.args.s.now) (ap expression_of c.in-Place.is ∙ place_is _ _))

pub returns-in-Int : goal.returns-in-Int
returns-in-Int c = no_place _ _ _ (ap expression_of c.in-Int.is ∙ expression_of-Int _ _) refl

pub returns-in-Typed : goal.returns-in-Typed
returns-in-Typed c = no_place _ _ _ (ap expression_of c.in-Typed.is ∙ expression_of-Typed _ _ _) refl

pub returns-in-Time : goal.returns-in-Time
returns-in-Time c = no_place _ _ _ (ap expression_of c.in-Time.is ∙ expression_of-Time _ _) refl

pub returns-in-True : goal.returns-in-True
returns-in-True c = no_place _ _ _ (ap expression_of c.in-True.is ∙ expression_of-True _) refl

pub returns-in-False : goal.returns-in-False
returns-in-False c = no_place _ _ _ (ap expression_of c.in-False.is ∙ expression_of-False _) refl

pub returns-in-Null : goal.returns-in-Null
returns-in-Null c = no_place _ _ _ (ap expression_of c.in-Null.is ∙ expression_of-Null _) refl

pub returns-in-Call : goal.returns-in-Call
returns-in-Call c = no_place _ _ _ (ap expression_of c.in-Call.is ∙ expression_of-Call _ _ _) refl

pub returns-in-Enumerator : goal.returns-in-Enumerator
returns-in-Enumerator c = no_place _ _ _ (ap expression_of c.in-Enumerator.is ∙ expression_of-Enumerator _ _ _ _) refl

pub returns-in-Ref : goal.returns-in-Ref
returns-in-Ref c = no_place _ _ _ (ap expression_of c.in-Ref.is ∙ expression_of-Ref _ _) refl

pub returns-in-Now : goal.returns-in-Now
returns-in-Now c = no_place _ _ _ (ap expression_of c.in-Now.is ∙ expression_of-Now _) refl

pub returns-in-Paren : goal.returns-in-Paren
returns-in-Paren c = no_place _ _ _ (ap expression_of c.in-Paren.is ∙ expression_of-Paren _ _) refl

pub returns-in-Not : goal.returns-in-Not
returns-in-Not c = no_place _ _ _ (ap expression_of c.in-Not.is ∙ expression_of-Not _ _) refl

pub returns-in-Negate : goal.returns-in-Negate
returns-in-Negate c = no_place _ _ _ (ap expression_of c.in-Negate.is ∙ expression_of-Negate _ _) refl

pub returns-in-Chain : goal.returns-in-Chain
returns-in-Chain c = no_place _ _ _ (ap expression_of c.in-Chain.is ∙ expression_of-Chain _ _ _) refl
