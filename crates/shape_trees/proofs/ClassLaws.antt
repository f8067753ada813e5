-- The names of classes by number.
use Rattle.std.proofs.Common.{◌≡◌, ◌≤◌, ◌<◌, ℕ, zero, suc, ◌-◌, List, [], ◌∷◌, length, Option, refl, sym, ap, ◌∙◌}
use Rattle.std.specs.Prelude.{option_map, slice_get}
use Rattle.st_tree.specs.declared.declaration.ClassDecl.{ClassDecl}
use Rattle.st_tree.specs.declared.declaration.ProgramDecl.{ProgramDecl}
use Rattle.st_tree.specs.declared.program.Note.{Note}
use Rattle.st_tree.specs.declared.program.Program.{Program as CheckedProgram}
use Rattle.st_values.specs.Program.{class_at}
use Rattle.st_values.specs.View.{program_of, programs_from}
use Rattle.program_tables.proofs.ClassLaws.{within_get, class_is_there, program_at}

names_of_programs : (c k : ℕ) (ds : List (ProgramDecl Note)) → option_map (λ k. k.name) (slice_get (programs_from c ds) k) ≡ option_map (λ d. d.name.text) (slice_get ds k)
names_of_programs c k [] = refl
names_of_programs c zero (d ∷ ds) = refl
names_of_programs c (suc k) (d ∷ ds) = names_of_programs (suc c) k ds

pub class_named : (p : CheckedProgram) (c : ℕ) (o : Option (ClassDecl Note)) → c < length p.classes → slice_get p.classes c ≡ o → option_map (λ k. k.name) (class_at (program_of p) c) ≡ option_map (λ d. d.name.text) o
class_named p c o h e =
    let a = within_get p.classes c h in
    ap (option_map (λ k. k.name)) (class_is_there p c a.0 a.1) ∙ ap (option_map (λ d. d.name.text)) (sym a.1 ∙ e)

pub program_named : (p : CheckedProgram) (c : ℕ) (o : Option (ProgramDecl Note)) → length p.classes ≤ c → slice_get p.programs (c - length p.classes) ≡ o → option_map (λ k. k.name) (class_at (program_of p) c) ≡ option_map (λ d. d.name.text) o
program_named p c o h e =
    ap (option_map (λ k. k.name)) (program_at p c h) ∙ names_of_programs (length p.classes) (c - length p.classes) p.programs ∙ ap (option_map (λ d. d.name.text)) e
