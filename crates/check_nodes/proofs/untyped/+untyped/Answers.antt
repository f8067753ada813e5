use Rattle.std.proofs.Common.{ℕ, Bool, sym, ap, ◌∙◌}
use Rattle.st_tree.specs.Expression.{Expression, expression_of, expression_of-Int, expression_of-Typed, expression_of-Time, expression_of-True, expression_of-False, expression_of-Null, expression_of-Place, expression_of-Call, expression_of-Enumerator, expression_of-Ref, expression_of-Now, expression_of-Not, expression_of-Paren, expression_of-Negate}
use Rattle.st_rules.specs.Expressions.{is_untyped}
use Rattle.check_nodes.proofs.UntypedLaws.{chain_untyped, chain_typed, tail_untyped, tail_typed}
use Rattle.check_nodes.proofs.untyped.+untyped.Goals as goal

abbrev test : Expression ℕ → Bool
test x = is_untyped x

pub is_untyped-returns-in-Paren : goal.is_untyped-returns-in-Paren
is_untyped-returns-in-Paren t c = c.is_untyped.ensures ∙ ap (λ x. test (expression_of x)) c.get.ensures ∙ sym (ap test (ap expression_of c.in-Paren.is ∙ expression_of-Paren _ _))

pub is_untyped-returns-in-Negate : goal.is_untyped-returns-in-Negate
is_untyped-returns-in-Negate t c = c.is_untyped-in-Negate.ensures ∙ ap (λ x. test (expression_of x)) c.get-in-Negate.ensures ∙ sym (ap test (ap expression_of c.in-Negate.is ∙ expression_of-Negate _ _))

pub is_untyped-returns-then-is_untyped : goal.is_untyped-returns-then-is_untyped
is_untyped-returns-then-is_untyped t c = chain_untyped _ _ _ _ _ c.in-Chain.is c.get-in-Chain.ensures _ _ c.is_untyped-in-Chain.ensures c.if-is_untyped.true c.as_slice.ensures _ c.are_untyped.ensures

pub is_untyped-returns-else-is_untyped : goal.is_untyped-returns-else-is_untyped
is_untyped-returns-else-is_untyped t c = chain_typed _ _ _ _ _ c.in-Chain.is c.get-in-Chain.ensures _ c.is_untyped-in-Chain.ensures c.if-is_untyped.false

pub is_untyped-returns-in-Int : goal.is_untyped-returns-in-Int
is_untyped-returns-in-Int t c = sym (ap test (ap expression_of c.in-Int.is ∙ expression_of-Int _ _))

pub is_untyped-returns-in-Typed : goal.is_untyped-returns-in-Typed
is_untyped-returns-in-Typed t c = sym (ap test (ap expression_of c.in-Typed.is ∙ expression_of-Typed _ _ _))

pub is_untyped-returns-in-Time : goal.is_untyped-returns-in-Time
is_untyped-returns-in-Time t c = sym (ap test (ap expression_of c.in-Time.is ∙ expression_of-Time _ _))

pub is_untyped-returns-in-True : goal.is_untyped-returns-in-True
is_untyped-returns-in-True t c = sym (ap test (ap expression_of c.in-True.is ∙ expression_of-True _))

pub is_untyped-returns-in-False : goal.is_untyped-returns-in-False
is_untyped-returns-in-False t c = sym (ap test (ap expression_of c.in-False.is ∙ expression_of-False _))

pub is_untyped-returns-in-Null : goal.is_untyped-returns-in-Null
is_untyped-returns-in-Null t c = sym (ap test (ap expression_of c.in-Null.is ∙ expression_of-Null _))

pub is_untyped-returns-in-Place : goal.is_untyped-returns-in-Place
is_untyped-returns-in-Place t c = sym (ap test (ap expression_of c.in-Place.is ∙ expression_of-Place _ _))

pub is_untyped-returns-in-Call : goal.is_untyped-returns-in-Call
is_untyped-returns-in-Call t c = sym (ap test (ap expression_of c.in-Call.is ∙ expression_of-Call _ _ _))

pub is_untyped-returns-in-Enumerator : goal.is_untyped-returns-in-Enumerator
is_untyped-returns-in-Enumerator t c = sym (ap test (ap expression_of c.in-Enumerator.is ∙ expression_of-Enumerator _ _ _ _))

pub is_untyped-returns-in-Ref : goal.is_untyped-returns-in-Ref
is_untyped-returns-in-Ref t c = sym (ap test (ap expression_of c.in-Ref.is ∙ expression_of-Ref _ _))

pub is_untyped-returns-in-Now : goal.is_untyped-returns-in-Now
is_untyped-returns-in-Now t c = sym (ap test (ap expression_of c.in-Now.is ∙ expression_of-Now _))

pub is_untyped-returns-in-Not : goal.is_untyped-returns-in-Not
is_untyped-returns-in-Not t c = sym (ap test (ap expression_of c.in-Not.is ∙ expression_of-Not _ _))

pub is_untyped_tail-returns-then-is_arithmetic : goal.is_untyped_tail-returns-then-is_arithmetic
is_untyped_tail-returns-then-is_arithmetic t c = tail_untyped _ _ c.is_arithmetic.ensures c.if-is_arithmetic.true _ c.is_untyped.ensures

pub is_untyped_tail-returns-else-is_arithmetic : goal.is_untyped_tail-returns-else-is_arithmetic
is_untyped_tail-returns-else-is_arithmetic t c = tail_typed _ _ c.is_arithmetic.ensures c.if-is_arithmetic.false
