use Rattle.std.proofs.Common.{sym, ap, ◌∙◌}
use Rattle.shape_trees.specs.Numbers.{is_numbered}
use Rattle.shape_trees.proofs.NumberLaws.{element_numbered, structure_numbers, class_numbers}
use Rattle.shape_trees.proofs.parts.part.Goals as goal

pub returns-then-has_index-clause-numbered : goal.returns-then-has_index-clause-numbered
returns-then-has_index-clause-numbered c = λ p h. ap (is_numbered p) c.get.ensures ∙ element_numbered p c.in-Array.low c.in-Array.count c.in-Array.element (ap (is_numbered p) (sym c.in-Array.is) ∙ h)

pub returns-in-Field-step-clause-numbered : goal.returns-in-Field-step-clause-numbered
returns-in-Field-step-clause-numbered c = λ p h. c.field.ensures.numbered p (structure_numbers p c.in-Structure.field-0 c.in-Structure.field-1 c.in-Structure.fields (ap (is_numbered p) (sym c.in-Structure.is) ∙ h)).below

pub returns-in-Field-step-2-clause-numbered : goal.returns-in-Field-step-2-clause-numbered
returns-in-Field-step-2-clause-numbered c = λ p h. c.field-in-Field-step-2.ensures.numbered p (class_numbers p c.in-Instance.field-0 c.in-Instance.field-1 c.in-Instance.fields (ap (is_numbered p) (sym c.in-Instance.is) ∙ h)).below
