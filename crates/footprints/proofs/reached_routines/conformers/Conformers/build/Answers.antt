use Rattle.std.proofs.Common.{◌∙◌, subst}
use Rattle.st_tree.specs.declared.program.Program.{Program}
use Rattle.st_values.specs.View.{program_of}
use Rattle.footprints.specs.reached_routines.Conformers.{AreConformers}
use Rattle.footprints.proofs.reached_routines.FamilyLaws.{conformers_are}
use Rattle.footprints.proofs.reached_routines.conformers.Conformers.build.Goals as goal

pub returns : goal.returns
returns c =
    subst (λ (q : Program). AreConformers (program_of q) (record { families = c.in_ok-families.families })) c.requires
    (conformers_are c.args.tables.now c.in_ok-classes.classes (record { families = c.in_ok-families.families }) (c.in_ok-classes.ensures ∙ c.class_count.ensures) c.in_ok-families.ensures)
