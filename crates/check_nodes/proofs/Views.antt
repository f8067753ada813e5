-- What each form of a tree is, one ruleset for each: a search over all views at once takes many times as long.
use Rattle.st_tree.specs.Expression.{tail_of-is, place_of-is, place_of-root, place_of-selectors, expression_of-Int, expression_of-Typed, expression_of-Time, expression_of-True, expression_of-False, expression_of-Null, expression_of-Place, expression_of-Call, expression_of-Enumerator, expression_of-Ref, expression_of-Now, expression_of-Paren, expression_of-Not, expression_of-Negate, expression_of-Chain, argument_of-Positional, argument_of-Input, argument_of-Output, selector_of-Field, selector_of-Index, selector_of-Target}

pub ruleset whole_views = (tail_of-is, place_of-is)

pub ruleset int_view = expression_of-Int

pub ruleset negative_views = (expression_of-Int, expression_of-Negate)

pub ruleset typed_view = expression_of-Typed

pub ruleset time_view = expression_of-Time

pub ruleset true_view = expression_of-True

pub ruleset false_view = expression_of-False

pub ruleset null_view = expression_of-Null

pub ruleset place_view = expression_of-Place

pub ruleset call_view = expression_of-Call

pub ruleset enumerator_view = expression_of-Enumerator

pub ruleset reference_view = expression_of-Ref

pub ruleset now_view = expression_of-Now

pub ruleset paren_view = expression_of-Paren

pub ruleset not_view = expression_of-Not

pub ruleset negate_view = expression_of-Negate

pub ruleset chain_view = expression_of-Chain

pub ruleset positional_view = argument_of-Positional

pub ruleset input_view = argument_of-Input

pub ruleset output_views = (argument_of-Output, place_of-is)

pub ruleset argument_views = (argument_of-Positional, argument_of-Input, argument_of-Output, place_of-root, place_of-selectors)

pub ruleset field_view = selector_of-Field

pub ruleset index_view = selector_of-Index

pub ruleset target_view = selector_of-Target
