-- What is told in a good unit, of the parts that types may contain; and how many values an enumeration of a formed unit has.
use Rattle.std.proofs.Common.{◌≡◌, ◌≤◌, ℕ, true, List, [], ◌∷◌, map, Some, refl, subst, arith}
use Rattle.std.specs.Prelude.{flat_map, slice_get}
use Rattle.std.specs.Option.{is_some}
use Rattle.st_tree.specs.declared.declaration.FieldGroup.{FieldGroup}
use Rattle.st_tree.specs.declared.declaration.ProgramDecl.{ProgramDecl}
use Rattle.st_tree.specs.declared.declaration.TypeBody.TheVariants as body
use Rattle.st_tree.specs.declared.declaration.TypeDecl.{TypeDecl}
use Rattle.st_tree.specs.declared.unit.Decl.{Decl}
use Rattle.st_tree.specs.declared.unit.Decl.TheVariants as declaration
use Rattle.st_rules.specs.declared.names.DeclaredVariable.{DeclaredVariable}
use Rattle.st_unit_rules.specs.declared_names.Declarations.{Declaration, an_entry, a_global, an_interface, a_class, a_function, a_program, a_configuration, Placed, placed, declarations, declarations_of, globals_of_section, configuration_globals, entries_in, programs_in}
use Rattle.st_unit_rules.specs.declared_names.UnitNames.{unit_names, unit_scope, program_scope}
use Rattle.st_unit_rules.specs.declared_names.WrittenTypes.{type_written}
use Rattle.resolution_order.specs.told_laws.ToldLaws.{Every}
use Rattle.accepted_texts.proofs.unfolding_laws.CycleLaws.{all_placed}
use Rattle.accepted_texts.proofs.unfolding_laws.RegionLaws.{OfProgram, all_programs}
use Rattle.accepted_texts.proofs.unfolding_laws.ListLaws.{every_append, every_front, every_back, every_at, every_from, every_means, every_map, every_mapped}
use Rattle.accepted_texts.specs.told_units.Told.{IsToldVariable, in_program, AllIsTold}
use Rattle.accepted_texts.proofs.sized_units.Kept.{EnumerationsAreFew, PartsAreTold}
use Rattle.accepted_texts.specs.formed_units.Formed as formed
use Rattle.accepted_texts.specs.formed_units.Formed.{FormedEntry, FormedTypeBody, IsFormed}

-- ---- enumerations

formed_entries : (most : ℕ) (ds : List (Decl ℕ)) → IsFormed most ds → Every (FormedEntry most) (entries_in ds)
formed_entries most [] h = tt
formed_entries most (declaration.Types l ts ∷ ds) h = every_append (FormedEntry most) ts (entries_in ds) (same ts h.0) (formed_entries most ds h.1)
  where
    same : (ts : List (TypeDecl ℕ)) → formed.Every (FormedEntry most) ts → Every (FormedEntry most) ts
    same [] k = tt
    same (t ∷ ts) k = (k.0, same ts k.1)
formed_entries most (declaration.Globals s ∷ ds) h = formed_entries most ds h.1
formed_entries most (declaration.Interface d ∷ ds) h = formed_entries most ds h.1
formed_entries most (declaration.Class d ∷ ds) h = formed_entries most ds h.1
formed_entries most (declaration.Function d ∷ ds) h = formed_entries most ds h.1
formed_entries most (declaration.Program d ∷ ds) h = formed_entries most ds h.1
formed_entries most (declaration.Configuration c ∷ ds) h = formed_entries most ds h.1

pub few_values : (most : ℕ) (decls : List (Decl ℕ)) → most ≤ 4294967296 → IsFormed most decls → EnumerationsAreFew decls
few_values most decls l h = record {
  few = λ n t values e q.
      let entry = every_at (FormedEntry most) (entries_in decls) n t (formed_entries most decls h) e in
      let b = subst (FormedTypeBody most) q entry.body in
      let m = b.1 in
      omega (arith, l, m);
}

-- ---- what is told

module _ (decls : List (Decl ℕ)) (all : AllIsTold decls) where
  abbrev ToldGroups : TypeDecl ℕ → Type 0
  ToldGroups t = (gs : List (FieldGroup ℕ)) → t.body ≡ body.Structure gs → Every (λ (g : FieldGroup ℕ). is_some (type_written (unit_scope decls (unit_names decls)) g.kind) ≡ true) gs

  abbrev ToldProgram : ProgramDecl ℕ → Type 0
  ToldProgram d = Every (λ (v : DeclaredVariable). is_some v.kind ≡ true) (program_scope decls (unit_names decls) d).locals

  abbrev ToldPart : Declaration → Type 0
  ToldPart (an_entry t) = ToldGroups t
  ToldPart (a_program d) = ToldProgram d
  ToldPart _ = Unit {0}

  part_told : (i : ℕ) (x : Placed) (d : Declaration) → slice_get (placed decls) i ≡ Some x → x.declaration ≡ d → ToldPart d
  part_told i x (an_entry t) e q = λ gs b. every_from (λ (g : FieldGroup ℕ). is_some (type_written (unit_scope decls (unit_names decls)) g.kind) ≡ true) gs (λ k g f. all.fields i x t gs k g e q b f)
  part_told i x (a_program d) e q = every_means IsToldVariable (λ (v : DeclaredVariable). is_some v.kind ≡ true) (λ v h. h.0) _ (all.locals _ _ _ (in_program i x d e q))
  part_told i x (a_global g) e q = tt
  part_told i x (an_interface d) e q = tt
  part_told i x (a_class d) e q = tt
  part_told i x (a_function d) e q = tt
  part_told i x (a_configuration c) e q = tt

  parts_told : Every ToldPart (declarations decls)
  parts_told =
      subst (Every ToldPart) (all_placed decls)
      (every_mapped ToldPart (λ (x : Placed). x.declaration) (placed decls) (every_from (λ (x : Placed). ToldPart x.declaration) (placed decls) (λ i x e. part_told i x x.declaration e refl)))

  entries_told : (ds : List (Decl ℕ)) → Every ToldPart (flat_map declarations_of ds) → Every ToldGroups (entries_in ds)
  entries_told [] h = tt
  entries_told (declaration.Types l ts ∷ ds) h =
      every_append ToldGroups ts (entries_in ds) (every_map ToldPart an_entry ts (every_front ToldPart (map an_entry ts) (flat_map declarations_of ds) h)) (entries_told ds (every_back ToldPart (map an_entry ts) (flat_map declarations_of ds) h))
  entries_told (declaration.Globals s ∷ ds) h = entries_told ds (every_back ToldPart (globals_of_section s) (flat_map declarations_of ds) h)
  entries_told (declaration.Interface d ∷ ds) h = entries_told ds h.1
  entries_told (declaration.Class d ∷ ds) h = entries_told ds h.1
  entries_told (declaration.Function d ∷ ds) h = entries_told ds h.1
  entries_told (declaration.Program d ∷ ds) h = entries_told ds h.1
  entries_told (declaration.Configuration c ∷ ds) h = entries_told ds (every_back ToldPart (flat_map globals_of_section (configuration_globals c)) (flat_map declarations_of ds) h.1)

  program_part : (d : Declaration) → ToldPart d → OfProgram ToldProgram d
  program_part (a_program d) h = h
  program_part (an_entry t) h = tt
  program_part (a_global g) h = tt
  program_part (an_interface d) h = tt
  program_part (a_class d) h = tt
  program_part (a_function d) h = tt
  program_part (a_configuration c) h = tt

  pub parts_are_told : PartsAreTold decls
  unfolding declarations
  parts_are_told = record {
    fields = λ n t gs e q. every_at ToldGroups (entries_in decls) n t (entries_told decls parts_told) e gs q;
    variables = λ c d e. every_means IsToldVariable (λ (v : DeclaredVariable). is_some v.kind ≡ true) (λ v h. h.0) _ (all.variables c d e);
    programs = λ k d e. every_at ToldProgram (programs_in decls) k d (all_programs decls ToldProgram (every_means ToldPart (OfProgram ToldProgram) program_part (declarations decls) parts_told)) e;
  }
