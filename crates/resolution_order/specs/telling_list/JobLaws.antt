-- What can be told of a unit may be told job by job, in any order.
use Rattle.std.specs.Prelude.{◌≡◌, ℕ, ℤ, true, List, Some, slice_get}
use Rattle.st_types.specs.declared.st_type.StType.{StType}
use Rattle.st_tree.specs.declared.unit.Decl.{Decl}
use Rattle.st_rules.specs.declared.names.DeclaredNames.{DeclaredNames}
use Rattle.st_unit_rules.specs.declared_names.UnitNames.{names_from, unit_names}
use Rattle.resolution_order.specs.told_laws.ToldLaws.{Every}
use Rattle.resolution_order.specs.told_laws.TellingLaws.{Sound}
use Rattle.resolution_order.specs.telling_list.Jobs.{Job, jobs_in, is_told_of, with_job, Tells, IsDone}

pub record JobLaws : Type 0 where
  -- what can be told of a job from what is told so far may be told
  pub next : (decls : List (Decl ℕ)) (a : DeclaredNames) (p : ℕ) (j : Job) (k : StType) (z : ℤ) → Sound decls a → slice_get (jobs_in decls) p ≡ Some j → Tells decls a j k z → Sound decls (with_job a j k z)
  -- it is told then
  pub told : (decls : List (Decl ℕ)) (a : DeclaredNames) (p : ℕ) (j : Job) (k : StType) (z : ℤ) → Sound decls a → slice_get (jobs_in decls) p ≡ Some j → is_told_of (with_job a j k z) j ≡ true
  -- what is told stays told
  pub stays : (a : DeclaredNames) (i j : Job) (k : StType) (z : ℤ) → is_told_of a j ≡ true → is_told_of (with_job a i k z) j ≡ true
  -- where of no job more can be told, all is told
  pub ended : (decls : List (Decl ℕ)) (a : DeclaredNames) → Sound decls a → Every (IsDone decls a) (jobs_in decls) → names_from decls a ≡ unit_names decls
