-- The region of a program instance.
use Rattle.std.proofs.Common.{◌≡◌, ℕ, ◌+◌, List, Option, length, sym, ap, ◌∙◌, subst, Bor}
use Rattle.std.specs.Prelude.{option_map}
use Rattle.std.proofs.lemmas.List.{length-map}
use Rattle.st_types.specs.declared.st_type.StType.{StType}
use Rattle.st_types.specs.declared.st_type.StType.TheVariants as type
use Rattle.st_tree.specs.declared.configuration.InstanceSpec.{InstanceSpec}
use Rattle.st_tree.specs.declared.declaration.ClassDecl.{ClassDecl}
use Rattle.st_tree.specs.declared.unit.Decl.{Decl}
use Rattle.st_rules.specs.Classes.{classes_in}
use Rattle.st_rules.specs.Expressions.{told}
use Rattle.st_unit_rules.specs.Checked.{program_type}
use Rattle.st_unit_rules.specs.DeclarationRules.{program_of}
use Rattle.section_rules.specs.Variables.{classes_of}
use Rattle.check_regions.specs.declared.region_rules.programs.InstancedProgram.{InstancedProgram}
use Rattle.check_regions.specs.region_rules.Taken.{IsInstanced}
use Rattle.check_configurations.specs.program_instances.Programs.{IsProgramNamed}

module _ (decls : List (Decl ℕ)) (x : InstanceSpec) (found : Option (ℕ × InstancedProgram)) (named : IsProgramNamed decls x.program.text found) where
  pub given_is : (given : Option InstancedProgram) → given ≡ option_map (λ f. f.1) found → IsInstanced decls given (program_of decls x)
  given_is given e = subst (λ g. IsInstanced decls g (program_of decls x)) (sym e) named.takes

  pub kind_is : (classes : List (Bor (ClassDecl ℕ))) (count : ℕ) (number : Option ℕ) (kind : StType) → classes_of classes ≡ classes_in decls → count ≡ length classes → number ≡ option_map (λ f. f.0) found →
      kind ≡ told (option_map (λ k. type.Instance (count + k)) number) → kind ≡ told (program_type decls x.program.text)
  kind_is classes count number kind c l n e =
      e ∙ ap (λ m. told (option_map (λ k. type.Instance (m + k)) number)) (l ∙ sym (length-map classes (λ (d : Bor (ClassDecl ℕ)). d.now)) ∙ ap length c)
      ∙ ap (λ o. told (option_map (λ k. type.Instance (length (classes_in decls) + k)) o)) (n ∙ named.number-is)
