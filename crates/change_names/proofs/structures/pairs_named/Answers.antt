use Rattle.std.proofs.Common.{ap, ◌∙◌}
use Rattle.std.specs.Prelude.{option_map}
use Rattle.program_tables.specs.st_initial.Variables.{variables_of}
use Rattle.st_values.specs.View.{program_of}
use Rattle.change_names.specs.change_pairs.Pairs.{pairs_of}
use Rattle.change_names.specs.Private.Classes.{listed_at}
use Rattle.change_names.proofs.StructureLaws.{pairs_with, pairs_none}
use Rattle.change_names.proofs.structures.pairs_named.Goals as goal

pub returns-in_ok-pairs-in-Some : goal.returns-in_ok-pairs-in-Some
returns-in_ok-pairs-in-Some c =
    c.in_ok-pairs-in-Some.ensures
    ∙ pairs_with (program_of c.args.old.now.program.now) (program_of c.args.new.now.program.now) c.args.name.now (variables_of c.as_slice.result.now) (listed_at (option_map (λ vs. vs.now) c.fields_named-before.result))
    (ap variables_of c.as_slice.ensures ∙ c.in-Some.ensures) c.fields_named-before.ensures

pub returns-in-None : goal.returns-in-None
returns-in-None c = ap pairs_of c.new.ensures.items ∙ pairs_none (program_of c.args.old.now.program.now) (program_of c.args.new.now.program.now) c.args.name.now c.in-None.ensures
