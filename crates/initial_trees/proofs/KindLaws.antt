-- Classes, programs and interfaces by their numbers.
use Rattle.std.proofs.Common.{◌≡◌, ◌≤◌, ◌<◌, ℕ, zero, suc, ◌-◌, List, [], ◌∷◌, length, Option, refl, sym, ap, ◌∙◌, subst}
use Rattle.std.specs.Prelude.{is_some, option_map, slice_get}
use Rattle.st_tree.specs.declared.declaration.ClassDecl.{ClassDecl}
use Rattle.st_tree.specs.declared.declaration.InterfaceDecl.{InterfaceDecl}
use Rattle.st_tree.specs.declared.declaration.ProgramDecl.{ProgramDecl}
use Rattle.st_tree.specs.declared.program.Note.{Note}
use Rattle.st_tree.specs.declared.program.Program.{Program as CheckedProgram}
use Rattle.st_values.specs.Program.{class_at}
use Rattle.st_values.specs.View.{program_of, programs_from, interfaces_from}
use Rattle.program_tables.proofs.ClassLaws.{within_get, class_is_there, program_at}

names_of_programs : (c k : ℕ) (ds : List (ProgramDecl Note)) → option_map (λ k. k.name) (slice_get (programs_from c ds) k) ≡ option_map (λ d. d.name.text) (slice_get ds k)
names_of_programs c k [] = refl
names_of_programs c zero (d ∷ ds) = refl
names_of_programs c (suc k) (d ∷ ds) = names_of_programs (suc c) k ds

pub class_named : (p : CheckedProgram) (c : ℕ) (o : Option (ClassDecl Note)) → c < length p.classes → slice_get p.classes c ≡ o → option_map (λ k. k.name) (class_at (program_of p) c) ≡ option_map (λ d. d.name.text) o
class_named p c o h e =
    let a = within_get p.classes c h in
    ap (option_map (λ k. k.name)) (class_is_there p c a.0 a.1) ∙ ap (option_map (λ d. d.name.text)) (sym a.1 ∙ e)

pub program_named : (p : CheckedProgram) (c : ℕ) (o : Option (ProgramDecl Note)) → length p.classes ≤ c → slice_get p.programs (c - length p.classes) ≡ o → option_map (λ k. k.name) (class_at (program_of p) c) ≡ option_map (λ d. d.name.text) o
program_named p c o h e =
    ap (option_map (λ k. k.name)) (program_at p c h) ∙ names_of_programs (length p.classes) (c - length p.classes) p.programs ∙ ap (option_map (λ d. d.name.text)) e

there : (is : List (InterfaceDecl Note)) (i k : ℕ) (ds : List (InterfaceDecl Note)) → is_some (slice_get (interfaces_from is i ds) k) ≡ is_some (slice_get ds k)
there is i k [] = refl
there is i zero (d ∷ ds) = refl
there is i (suc k) (d ∷ ds) = there is (suc i) k ds

pub interface_is_there : (p : CheckedProgram) (k : ℕ) (o : Option (InterfaceDecl Note)) → slice_get p.interfaces k ≡ o → is_some (slice_get (program_of p).interfaces k) ≡ is_some o
interface_is_there p k o e = there p.interfaces 0 k p.interfaces ∙ ap is_some e
