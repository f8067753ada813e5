-- How far a unit is checked, and what is said of one declaration more, or of several.
use Rattle.std.specs.Prelude.{ℕ, List, map, Option}
use Rattle.plc_text.specs.declared.code.Code.{Code}
use Rattle.st_tree.specs.declared.unit.Decl.{Decl}
use Rattle.st_unit_rules.specs.declared_names.Declarations.{Declaration, Global, a_global, declarations_of}
use Rattle.st_check_decl.specs.declared.checked_declarations.so_far.Bad.{Bad}
use Rattle.st_check_decl.specs.declared.checked_declarations.so_far.CheckedSoFar.{CheckedSoFar}
use Rattle.st_check_decl.specs.checked_declarations.SoFar.{Passed}
use Rattle.global_rules.specs.Globals.{HasRegions}
use Rattle.global_rules.specs.Sections.{AreFaults}
use Rattle.st_unit_rules.specs.passing_laws.Passing.{At, AllDeclsGood, AllGood, OneBad, OneDeclBad, after_all, after_decl, with_each}
use Rattle.st_unit_rules.specs.passing_laws.PassingLaws.{SaysOf}
use Rattle.st_check_decl.specs.declared.unit_check.progress.Progress.{Progress}
use Rattle.st_check_decl.specs.unit_check.Private.Refused.{IfRule}

-- what was checked, and the regions
pub record Reached (p : Progress) (decls : List (Decl ℕ)) (a : At) : Type 0 where
  pub passed : Passed p.declarations decls a
  pub regions-are : HasRegions p.regions decls a.regions

-- ---- several declarations

pub record AllPass (x y : CheckedSoFar) (decls : List (Decl ℕ)) (ds : List Declaration) : Type 0 where
  pub good : (a : At) → Passed x decls a → AllGood decls a ds
  pub passed : (a : At) → Passed x decls a → Passed y decls (with_each a ds)

pub record AllFail (b : Bad) (x : CheckedSoFar) (decls : List (Decl ℕ)) (ds : List Declaration) : Type 0 where
  pub one : (a : At) → Passed x decls a → IfRule b (λ code name line. OneBad decls (SaysOf code name line) a ds)

-- globals that break this among the regions before each
pub record GlobalsPass (x y : CheckedSoFar) (decls : List (Decl ℕ)) (faults : List (Option (Code × ℕ))) (gs : List Global) : Type 0 where
  pub good : (a : At) → Passed x decls a → AreFaults decls a.regions gs faults → AllGood decls a (map a_global gs)
  pub passed : (a : At) → Passed x decls a → AreFaults decls a.regions gs faults → Passed y decls (with_each a (map a_global gs))

pub record GlobalsFail (b : Bad) (x : CheckedSoFar) (decls : List (Decl ℕ)) (faults : List (Option (Code × ℕ))) (gs : List Global) : Type 0 where
  pub one : (a : At) → Passed x decls a → AreFaults decls a.regions gs faults → IfRule b (λ code name line. OneBad decls (SaysOf code name line) a (map a_global gs))

-- ---- declarations of the text

pub record DeclPasses (p q : Progress) (decls : List (Decl ℕ)) (d : Decl ℕ) : Type 0 where
  pub good : (a : At) → Reached p decls a → AllGood decls a (declarations_of d)
  pub reached : (a : At) → Reached p decls a → Reached q decls (after_decl a d)

pub record DeclFails (b : Bad) (p : Progress) (decls : List (Decl ℕ)) (d : Decl ℕ) : Type 0 where
  pub one : (a : At) → Reached p decls a → IfRule b (λ code name line. OneBad decls (SaysOf code name line) a (declarations_of d))

pub record DeclsPass (p q : Progress) (decls ds : List (Decl ℕ)) : Type 0 where
  pub good : (a : At) → Reached p decls a → AllDeclsGood decls a ds
  pub reached : (a : At) → Reached p decls a → Reached q decls (after_all a ds)

pub record DeclsFail (b : Bad) (p : Progress) (decls ds : List (Decl ℕ)) : Type 0 where
  pub one : (a : At) → Reached p decls a → IfRule b (λ code name line. OneDeclBad decls (SaysOf code name line) a ds)
