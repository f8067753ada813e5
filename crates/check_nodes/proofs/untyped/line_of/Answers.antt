use Rattle.std.proofs.Common.{sym, ap, ◌∙◌}
use Rattle.st_tree.specs.Expression.{expression_of, expression_of-Int, expression_of-Typed, expression_of-Time, expression_of-True, expression_of-False, expression_of-Null, expression_of-Place, expression_of-Call, expression_of-Enumerator, expression_of-Ref, expression_of-Now, expression_of-Paren, expression_of-Not, expression_of-Negate, expression_of-Chain}
use Rattle.st_rules.specs.Expressions.{line_of}
use Rattle.check_nodes.proofs.untyped.line_of.Goals as goal

pub returns-in-Int : goal.returns-in-Int
returns-in-Int c = sym (ap line_of (ap expression_of c.in-Int.is ∙ expression_of-Int _ _))

pub returns-in-Typed : goal.returns-in-Typed
returns-in-Typed c = sym (ap line_of (ap expression_of c.in-Typed.is ∙ expression_of-Typed _ _ _))

pub returns-in-Time : goal.returns-in-Time
returns-in-Time c = sym (ap line_of (ap expression_of c.in-Time.is ∙ expression_of-Time _ _))

pub returns-in-True : goal.returns-in-True
returns-in-True c = sym (ap line_of (ap expression_of c.in-True.is ∙ expression_of-True _))

pub returns-in-False : goal.returns-in-False
returns-in-False c = sym (ap line_of (ap expression_of c.in-False.is ∙ expression_of-False _))

pub returns-in-Null : goal.returns-in-Null
returns-in-Null c = sym (ap line_of (ap expression_of c.in-Null.is ∙ expression_of-Null _))

pub returns-in-Place : goal.returns-in-Place
returns-in-Place c = sym (ap line_of (ap expression_of c.in-Place.is ∙ expression_of-Place _ _))

pub returns-in-Call : goal.returns-in-Call
returns-in-Call c = sym (ap line_of (ap expression_of c.in-Call.is ∙ expression_of-Call _ _ _))

pub returns-in-Enumerator : goal.returns-in-Enumerator
returns-in-Enumerator c = sym (ap line_of (ap expression_of c.in-Enumerator.is ∙ expression_of-Enumerator _ _ _ _))

pub returns-in-Ref : goal.returns-in-Ref
returns-in-Ref c = sym (ap line_of (ap expression_of c.in-Ref.is ∙ expression_of-Ref _ _))

pub returns-in-Now : goal.returns-in-Now
returns-in-Now c = sym (ap line_of (ap expression_of c.in-Now.is ∙ expression_of-Now _))

pub returns-in-Paren : goal.returns-in-Paren
returns-in-Paren c = sym (ap line_of (ap expression_of c.in-Paren.is ∙ expression_of-Paren _ _))

pub returns-in-Not : goal.returns-in-Not
returns-in-Not c = sym (ap line_of (ap expression_of c.in-Not.is ∙ expression_of-Not _ _))

pub returns-in-Negate : goal.returns-in-Negate
returns-in-Negate c = sym (ap line_of (ap expression_of c.in-Negate.is ∙ expression_of-Negate _ _))

pub returns-in-Chain : goal.returns-in-Chain
returns-in-Chain c = sym (ap line_of (ap expression_of c.in-Chain.is ∙ expression_of-Chain _ _ _))
