use Rattle.std.proofs.Common.{ap, ◌∙◌}
use Rattle.st_tree.specs.declared.program.Program.{Program}
use Rattle.st_values.specs.Program.{class_at, chain_of}
use Rattle.st_values.specs.View.{program_of}
use Rattle.change_names.proofs.ClassLaws.{chain_begin}
use Rattle.change_names.proofs.classes.class_pairs.Goals as goal

pub classes-init : goal.classes-init
classes-init c =
    chain_begin (program_of c.args.old.now.program.now) (program_of c.args.new.now.program.now) c.args.class c.as_slice-left.result.now c.new-out.result.items
    (c.as_slice-left.ensures.value ∙ c.in_ok-chain.ensures ∙ ap (λ (p : Program). chain_of (class_at (program_of p) c.args.class)) c.requires.side.tables) c.new-out.ensures.items
