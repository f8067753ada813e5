-- A declaration of each sort behind what was checked: where it is good, it is passed; else it is said what it breaks.
use Rattle.std.proofs.Common.{◌≡◌, ℕ, List, [], ◌∷◌, ◌++◌, Option, Some, None, length, refl, sym, ap, ◌∙◌, subst}
use Rattle.std.specs.Prelude.{filter, false}
use Rattle.plc_text.specs.declared.code.Code.{Code}
use Rattle.st_tree.specs.declared.configuration.Configuration.{Configuration}
use Rattle.st_tree.specs.declared.declaration.ClassDecl.{ClassDecl}
use Rattle.st_tree.specs.declared.declaration.FunctionDecl.{FunctionDecl}
use Rattle.st_tree.specs.declared.declaration.InterfaceDecl.{InterfaceDecl}
use Rattle.st_tree.specs.declared.declaration.ProgramDecl.{ProgramDecl}
use Rattle.st_tree.specs.declared.declaration.TypeDecl.{TypeDecl}
use Rattle.st_tree.specs.declared.unit.Decl.{Decl}
use Rattle.st_tree.specs.declared.unit.Unit.{Unit as ProgramText}
use Rattle.st_rules.specs.Faults.{Faults, least, earlier}
use Rattle.st_rules.specs.Scope.{Scope}
use Rattle.st_rules.proofs.FaultLaws.{least-append}
use Rattle.st_unit_rules.specs.declared_names.Declarations.{Declaration, Global, a_class, a_configuration, a_function, a_global, a_program, an_entry, an_interface, is_class, is_entry, is_interface, name_of}
use Rattle.check_names.specs.declarations_before.Before.{StandsBefore, common_faults}
use Rattle.check_names.specs.declared.declarations_before.before.DeclarationsBefore.{DeclarationsBefore}
use Rattle.check_classes.specs.declared.class_rules.parts.CheckedClass.{CheckedClass}
use Rattle.check_classes.specs.class_rules.Classes.{ChecksClass}
use Rattle.check_declared_variables.specs.declared.entry_rules.entries.CheckedEntry.{CheckedEntry}
use Rattle.check_declared_variables.specs.entry_rules.Entries.{ChecksEntry, entry_faults}
use Rattle.check_routines.specs.declared.function_rules.functions.CheckedFunction.{CheckedFunction}
use Rattle.check_routines.specs.declared.function_rules.programs.CheckedProgram.{CheckedProgram}
use Rattle.check_routines.specs.function_rules.Functions.{ChecksFunction}
use Rattle.check_routines.specs.function_rules.Programs.{ChecksProgram}
use Rattle.check_classes.specs.declared.interface_rules.interfaces.CheckedInterface.{CheckedInterface}
use Rattle.check_classes.specs.interface_rules.Interfaces.{ChecksInterface}
use Rattle.st_unit_rules.specs.passing_laws.Passing.{At, faults_here, placed_at, with_any}
use Rattle.st_unit_rules.specs.DeclarationRules.{class_declaration_faults, configuration_faults, global_faults, interface_declaration_faults, unit}
use Rattle.st_unit_rules.specs.Limits.{too_many_classes}
use Rattle.st_check_decl.specs.declared.checked_declarations.so_far.Bad.{Bad}
use Rattle.st_check_decl.specs.declared.checked_declarations.so_far.Bad.TheVariants as bad
use Rattle.st_check_decl.specs.declared.checked_declarations.so_far.CheckedSoFar.{CheckedSoFar}
use Rattle.st_check_decl.specs.checked_declarations.SoFar.{Breaks, Passed, Says}
use Rattle.st_check_decl.proofs.checked_declarations.FaultsHere.{good_here, bad_here}
use Rattle.st_check_decl.proofs.checked_declarations.PassedLaws.{class_passed, entry_passed, function_passed, interface_passed, plain_passed, program_passed}

abbrev Fault : Type 0
Fault = Option (Code × ℕ)

-- want of memory says nothing
pub no_memory : (b : Bad) (decls : List (Decl ℕ)) (a : At) (d : Declaration) → b ≡ bad.NoMemory → Breaks b decls a d
no_memory bad.NoMemory decls a d e = tt
no_memory (bad.Rule name code line) decls a d e = absurd (cc)

earlier_none : (a b : Fault) → earlier a b ≡ None → b ≡ None
earlier_none None b e = e
earlier_none (Some f) None e = absurd (cc)
earlier_none (Some f) (Some g) e = absurd (cc)

module _ (decls : List (Decl ℕ)) (old : DeclarationsBefore) where
  -- what all declarations may break is told
  abbrev pub Common : Declaration → Fault → Type 0
  Common d common = (es : List Declaration) (names : List (List ℕ)) → StandsBefore old es names → common ≡ least (common_faults decls es names d)

  -- it is counted
  abbrev pub Counted : DeclarationsBefore → Declaration → Type 0
  Counted new d = (es : List Declaration) (names : List (List ℕ)) → StandsBefore old es names → StandsBefore new (es ++ d ∷ []) (names ++ (name_of d).text ∷ [])

-- ---- functions and programs

module _ (decls : List (Decl ℕ)) (old : CheckedSoFar) (f : FunctionDecl ℕ) (found : CheckedFunction) (common fault : Fault) (told : Common decls old.before (a_function f) common) (checks : ChecksFunction found decls f) (all : fault ≡ earlier common found.least) where
  pub function_good : (new : CheckedSoFar) → new.trees ≡ record old.trees { functions = old.trees.functions ++ found.function ∷ [] } → fault ≡ None → Counted decls old.before new.before (a_function f) → (a : At) → Passed old decls a
      → (faults_here decls a (a_function f) ≡ []) × Passed new decls (with_any a (a_function f))
  function_good new t n k a p = (
    good_here decls a (a_function f) fault common found.least n all (told a.earlier a.names p.before) checks.least,
    function_passed decls old new a p f found.function (k a.earlier a.names p.before) t (checks.tree (earlier_none common found.least (sym all ∙ n))),
  )

  pub function_bad : (b : Bad) → Says b f.name fault → (a : At) → Passed old decls a → Breaks b decls a (a_function f)
  function_bad b s a p = bad_here decls a (a_function f) b fault common found.least s all (told a.earlier a.names p.before) checks.least

module _ (decls : List (Decl ℕ)) (old : CheckedSoFar) (d : ProgramDecl ℕ) (found : CheckedProgram) (common fault : Fault) (told : Common decls old.before (a_program d) common) (checks : ChecksProgram found decls d) (all : fault ≡ earlier common found.least) where
  pub program_good : (new : CheckedSoFar) → new.trees ≡ record old.trees { programs = old.trees.programs ++ found.program ∷ [] } → fault ≡ None → Counted decls old.before new.before (a_program d) → (a : At) → Passed old decls a
      → (faults_here decls a (a_program d) ≡ []) × Passed new decls (with_any a (a_program d))
  program_good new t n k a p = (
    good_here decls a (a_program d) fault common found.least n all (told a.earlier a.names p.before) checks.least,
    program_passed decls old new a p d found.program (k a.earlier a.names p.before) t (checks.tree (earlier_none common found.least (sym all ∙ n))),
  )

  pub program_bad : (b : Bad) → Says b d.name fault → (a : At) → Passed old decls a → Breaks b decls a (a_program d)
  program_bad b s a p = bad_here decls a (a_program d) b fault common found.least s all (told a.earlier a.names p.before) checks.least

-- ---- interfaces, by their number

module _ (decls : List (Decl ℕ)) (old : CheckedSoFar) (d : InterfaceDecl ℕ) (found : CheckedInterface) (common fault : Fault) (told : Common decls old.before (an_interface d) common) (checks : ChecksInterface found decls old.before.interfaces d)
    (all : fault ≡ earlier common found.least) where
  interface_least : (a : At) → Passed old decls a → found.least ≡ least (interface_declaration_faults decls (length (filter is_interface a.earlier)) d)
  interface_least a p = checks.least ∙ ap (λ n. least (interface_declaration_faults decls n d)) p.before.interfaces

  pub interface_good : (new : CheckedSoFar) → new.trees ≡ record old.trees { interfaces = old.trees.interfaces ++ found.interface ∷ [] } → fault ≡ None → Counted decls old.before new.before (an_interface d) → (a : At) → Passed old decls a
      → (faults_here decls a (an_interface d) ≡ []) × Passed new decls (with_any a (an_interface d))
  interface_good new t n k a p = (
    good_here decls a (an_interface d) fault common found.least n all (told a.earlier a.names p.before) (interface_least a p),
    interface_passed decls old new a p d found.interface (k a.earlier a.names p.before) t checks.tree,
  )

  pub interface_bad : (b : Bad) → Says b d.name fault → (a : At) → Passed old decls a → Breaks b decls a (an_interface d)
  interface_bad b s a p = bad_here decls a (an_interface d) b fault common found.least s all (told a.earlier a.names p.before) (interface_least a p)

-- ---- entries of TYPE, by their place and their number

module _ (decls : List (Decl ℕ)) (old : CheckedSoFar) (t : TypeDecl ℕ) (found : CheckedEntry) (common fault : Fault) (told : Common decls old.before (an_entry t) common) (checks : ChecksEntry found decls old.before.count old.before.entries t)
    (all : fault ≡ earlier common found.least) where
  entry_least : (a : At) → Passed old decls a → found.least ≡ least (entry_faults decls (length a.earlier) (length (filter is_entry a.earlier)) t)
  entry_least a p = checks.least ∙ (λ i. least (entry_faults decls (p.before.count i) (p.before.entries i) t))

  pub entry_good : (new : CheckedSoFar) → new.trees ≡ record old.trees { types = old.trees.types ++ found.entry ∷ [] } → fault ≡ None → Counted decls old.before new.before (an_entry t) → (a : At) → Passed old decls a
      → (faults_here decls a (an_entry t) ≡ []) × Passed new decls (with_any a (an_entry t))
  entry_good new e n k a p = (
    good_here decls a (an_entry t) fault common found.least n all (told a.earlier a.names p.before) (entry_least a p),
    entry_passed decls old new a p t found.entry (k a.earlier a.names p.before) e checks.tree,
  )

  pub entry_bad : (b : Bad) → Says b t.name fault → (a : At) → Passed old decls a → Breaks b decls a (an_entry t)
  entry_bad b s a p = bad_here decls a (an_entry t) b fault common found.least s all (told a.earlier a.names p.before) (entry_least a p)

-- ---- classes and function blocks, of which there may be so many

module _ (decls : List (Decl ℕ)) (old : CheckedSoFar) (d : ClassDecl ℕ) (found : CheckedClass) (common many own fault : Fault) (told : Common decls old.before (a_class d) common) (counted : many ≡ least (too_many_classes d.line old.before.classes))
    (checks : ChecksClass found decls old.before.count old.before.classes d) (both : own ≡ earlier found.least many) (all : fault ≡ earlier common own) where
  class_least : (a : At) → Passed old decls a → own ≡ least (class_declaration_faults decls (length a.earlier) (length (filter is_class a.earlier)) d ++ too_many_classes d.line (length (filter is_class a.earlier)))
  class_least a p =
      both ∙ ap (λ f. earlier f many) checks.least ∙ ap (earlier (least (class_declaration_faults decls old.before.count old.before.classes d))) counted
      ∙ sym (least-append (class_declaration_faults decls old.before.count old.before.classes d) (too_many_classes d.line old.before.classes))
      ∙ (λ i. least (class_declaration_faults decls (p.before.count i) (p.before.classes i) d ++ too_many_classes d.line (p.before.classes i)))

  none_found : fault ≡ None → found.least ≡ None
  none_found n = first_none found.least many (sym both ∙ earlier_none common own (sym all ∙ n))
    where
      first_none : (x y : Fault) → earlier x y ≡ None → x ≡ None
      first_none None y e = refl
      first_none (Some f) None e = absurd (cc)
      first_none (Some f) (Some g) e = absurd (cc)

  pub class_good : (new : CheckedSoFar) → new.trees ≡ record old.trees { classes = old.trees.classes ++ found.class ∷ [] } → fault ≡ None → Counted decls old.before new.before (a_class d) → (a : At) → Passed old decls a
      → (faults_here decls a (a_class d) ≡ []) × Passed new decls (with_any a (a_class d))
  class_good new t n k a p = (
    good_here decls a (a_class d) fault common own n all (told a.earlier a.names p.before) (class_least a p),
    class_passed decls old new a p old.before.classes d found.class p.before.classes (k a.earlier a.names p.before) t (checks.tree (none_found n)),
  )

  pub class_bad : (b : Bad) → Says b d.name fault → (a : At) → Passed old decls a → Breaks b decls a (a_class d)
  class_bad b s a p = bad_here decls a (a_class d) b fault common own s all (told a.earlier a.names p.before) (class_least a p)

-- ---- what has no tree of its own, whose own rules were tried

module _ (decls : List (Decl ℕ)) (old : CheckedSoFar) (common own fault : Fault) (all : fault ≡ earlier common own) where
  pub global_good : (new : CheckedSoFar) (g : Global) → Common decls old.before (a_global g) common → new.trees ≡ old.trees → fault ≡ None → Counted decls old.before new.before (a_global g) → (a : At) → Passed old decls a → own ≡ least (global_faults decls a.regions g)
      → (faults_here decls a (a_global g) ≡ []) × Passed new decls (with_any a (a_global g))
  global_good new g told t n k a p o = (good_here decls a (a_global g) fault common own n all (told a.earlier a.names p.before) o, plain_passed decls old new a p (a_global g) (with_any a (a_global g)) (k a.earlier a.names p.before) t refl refl)

  pub global_bad : (g : Global) → Common decls old.before (a_global g) common → (b : Bad) → Says b g.written.name fault → (a : At) → Passed old decls a → own ≡ least (global_faults decls a.regions g) → Breaks b decls a (a_global g)
  global_bad g told b s a p o = bad_here decls a (a_global g) b fault common own s all (told a.earlier a.names p.before) o

  pub configuration_good : (new : CheckedSoFar) (c : Configuration ℕ) → Common decls old.before (a_configuration c) common → new.trees ≡ old.trees → fault ≡ None → Counted decls old.before new.before (a_configuration c) → (a : At) → Passed old decls a
      → own ≡ least (configuration_faults decls (placed_at a (a_configuration c)) c) → (faults_here decls a (a_configuration c) ≡ []) × Passed new decls (with_any a (a_configuration c))
  configuration_good new c told t n k a p o = (
    good_here decls a (a_configuration c) fault common own n all (told a.earlier a.names p.before) o,
    plain_passed decls old new a p (a_configuration c) (with_any a (a_configuration c)) (k a.earlier a.names p.before) t refl refl,
  )

  pub configuration_bad : (c : Configuration ℕ) → Common decls old.before (a_configuration c) common → (b : Bad) → Says b c.name fault → (a : At) → Passed old decls a → own ≡ least (configuration_faults decls (placed_at a (a_configuration c)) c)
      → Breaks b decls a (a_configuration c)
  configuration_bad c told b s a p o = bad_here decls a (a_configuration c) b fault common own s all (told a.earlier a.names p.before) o

-- ---- tables of the unit

pub common_of : (g t : ProgramText) (old : DeclarationsBefore) (d : Declaration) (common : Fault) → g ≡ t → Common g.decls old d common → Common t.decls old d common
common_of g t old d common e h = subst (λ (u : ProgramText). Common u.decls old d common) e h

pub entry_of : (g t : ProgramText) (found : CheckedEntry) (place number : ℕ) (x : TypeDecl ℕ) → g ≡ t → ChecksEntry found g.decls place number x → ChecksEntry found t.decls place number x
entry_of g t found place number x e h = subst (λ (u : ProgramText). ChecksEntry found u.decls place number x) e h

pub unit_of : (g t : ProgramText) (s : Scope) → g ≡ t → s ≡ unit t.decls → s ≡ unit g.decls
unit_of g t s e h = h ∙ ap (λ (u : ProgramText). unit u.decls) (sym e)
