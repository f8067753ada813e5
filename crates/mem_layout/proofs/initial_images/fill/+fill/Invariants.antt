use Rattle.std.proofs.Common.{ℕ, ◌+◌, ◌*◌, drop}
use Rattle.std.specs.Prelude.{option_map}
use Rattle.st_tree.specs.Initial.{initial_of, fields_of}
use Rattle.st_values.specs.Initial.{list_given}
use Rattle.st_values.specs.Shape.{region_shape}
use Rattle.st_values.specs.View.{program_of}
use Rattle.program_tables.specs.st_initial.Given.{inits_of}
use Rattle.program_tables.specs.st_initial.Variables.{variables_of}
use Rattle.mem_layout.specs.initial_images.Private.Fill.{CanFillElements, CanFillFields}
use Rattle.mem_layout.proofs.initial_images.LoopLaws.{ElementsLeft, FieldsLeft}
use Rattle.mem_layout.proofs.initial_images.fill.+fill.Given as goal

abbrev pub decreases-fill_type : goal.decreases-fill_type
decreases-fill_type l = 2 * l.depth

abbrev pub decreases-fill_elements : goal.decreases-fill_elements
decreases-fill_elements l = 2 * l.depth + 1

abbrev pub decreases-fill_variables : goal.decreases-fill_variables
decreases-fill_variables l = 2 * l.depth + 1

abbrev pub invariant-fill_elements-loop-k : goal.invariant-fill_elements-loop-k
invariant-fill_elements-loop-k l = (many : ℕ) (q : CanFillElements (program_of l.layout) l.depth l.of many l.bytes (list_given (option_map (λ i. initial_of i.now) l.given)) l.offset l.initial.image) → ElementsLeft (region_shape (program_of l.layout)) q.shape (inits_of l.givens.items) many l.k l.offset l.at l.initial.image l.image

abbrev pub invariant-fill_variables-loop-k : goal.invariant-fill_variables-loop-k
invariant-fill_variables-loop-k l = (q : CanFillFields (program_of l.layout) l.depth l.kind (variables_of l.variable-items) (fields_of l.inits) l.offset l.initial.image) → FieldsLeft (program_of l.layout) l.depth q.start q.fields (variables_of (drop l.k l.variable-items)) (fields_of l.inits) l.k l.offset l.initial.image l.image
