-- The value of a constant expression by its typed tree, whose notes have the kinds of its operations and what its names mean.
use Rattle.std.specs.Prelude.{pos, neg_ℤ, Option, Some, None}
use Rattle.st_types.specs.declared.elem.Elem.{Elem}
use Rattle.plc_num.specs.Arithmetic.{difference}
use Rattle.plc_num.specs.Bits.{complement}
use Rattle.plc_num.specs.Conversion.{converted}
use Rattle.st_tree.specs.declared.expression.Root.{Root}
use Rattle.st_tree.specs.declared.expression.Root.TheVariants as root
use Rattle.st_tree.specs.declared.program.Note.{Note}
use Rattle.st_tree.specs.Duration.{milliseconds}
use Rattle.st_tree.specs.Expression.{Expression, Int, Typed, Time, True, False, Null, Place, Call, Enumerator, Ref, Now, Paren, Not, Negate, Chain, Selectors, no_selectors, selector_then, Positional, Arguments, argument_then, Tails, no_tails, tail_then}
use Rattle.st_tree.specs.Number.{number_of}
use Rattle.st_rules.specs.Literals.{literal_number}
use Rattle.st_rules.specs.Calls.{conversion_named}
use Rattle.st_unit_rules.specs.declared_names.Constants.{Outcome, comes_to, cannot_be_told, kind_in, literal_outcome, duration_outcome, target_value, operated, outcome_map}

abbrev pub kind_noted : Note → Elem
kind_noted n = kind_in (Some n.kind)

-- the conversion that a place begins with, and that it is as a whole, by its name
abbrev pub root_conversion : Root Note → Option (Elem × Elem)
root_conversion (root.Name n name) = conversion_named name
root_conversion _ = None

abbrev pub conversion_at : Root Note → Selectors Note → Option (Elem × Elem)
conversion_at r no_selectors = root_conversion r
conversion_at r (selector_then x ss) = None

abbrev pub converted_by : Option (Elem × Elem) → Outcome → Outcome
converted_by None x = cannot_be_told
converted_by (Some c) x = outcome_map (converted c.1) x

abbrev mutual
  pub noted_value : Expression Note → Outcome
  noted_value (Int n digits) = literal_outcome (pos (number_of digits))
  noted_value (Typed n k literal) = literal_outcome (literal_number literal)
  noted_value (Time n text) = duration_outcome (milliseconds text)
  noted_value (True n) = comes_to (pos 1)
  noted_value (False n) = comes_to (pos 0)
  noted_value (Null n) = comes_to (pos 0)
  noted_value (Place n r ss) = target_value n.target
  noted_value (Call n r ss xs) = converted_by (conversion_at r ss) (noted_operand xs)
  noted_value (Enumerator n t k name) = target_value n.target
  noted_value (Ref n r ss) = cannot_be_told
  noted_value (Now n) = cannot_be_told
  noted_value (Paren n e) = noted_value e
  noted_value (Not n e) = outcome_map (complement (kind_noted n)) (noted_value e)
  noted_value (Negate n (Int k digits)) = literal_outcome (neg_ℤ (pos (number_of digits)))
  noted_value (Negate n e) = outcome_map (difference (kind_noted n) (pos 0)) (noted_value e)
  noted_value (Chain n e ts) = noted_row (noted_value e) ts

  -- of a row of operators, behind its value so far
  pub noted_row : Outcome → Tails Note → Outcome
  noted_row x no_tails = x
  noted_row x (tail_then n o e ts) = noted_row (operated o (kind_noted n) n.line x (noted_value e)) ts

  -- the operand of a conversion
  pub noted_operand : Arguments Note → Outcome
  noted_operand (argument_then (Positional e) xs) = noted_value e
  noted_operand xs = cannot_be_told
