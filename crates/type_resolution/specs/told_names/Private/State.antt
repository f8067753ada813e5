-- What is told so far, group by group.
use Rattle.std.specs.Prelude.{◌≡◌, ◌⊎◌, ℕ, suc, ◌<◌, ◌≤◌, ℤ, Bool, true, false, List, [], ◌∷◌, ◌++◌, length, Option, Some, None, slice_get, if◌then◌else◌}
use Rattle.st_types.specs.declared.st_type.StType.{StType}
use Rattle.st_types.specs.declared.st_type.StType.TheVariants as type
use Rattle.st_tree.specs.declared.declaration.TypeBody.{TypeBody}
use Rattle.st_tree.specs.declared.declaration.TypeBody.TheVariants as body
use Rattle.st_tree.specs.declared.name.Name.{Name}
use Rattle.st_tree.specs.declared.program.Target.TheVariants as target
use Rattle.st_tree.specs.declared.unit.Decl.{Decl}
use Rattle.st_rules.specs.declared.names.DeclaredNames.{DeclaredNames}
use Rattle.st_rules.specs.Classes.{classes_in}
use Rattle.st_rules.specs.Scope.{Scope}
use Rattle.st_rules.specs.Telling.{with_global, with_member}
use Rattle.name_resolution.specs.Tables.{Told, Knows}
use Rattle.st_unit_rules.specs.declared_names.WrittenTypes.{type_written}
use Rattle.st_unit_rules.specs.declared_names.UnitNames.{unit_scope, entry_kind}
use Rattle.resolution_order.specs.told_laws.TellingLaws.{Sound}
use Rattle.resolution_order.specs.telling_list.Jobs.{Job, jobs_in, is_told_of, with_job, can_be_told, Tells}
use Rattle.resolution_order.specs.telling_groups.Groups.{Group, jobs_of_group}
use Rattle.resolution_order.specs.telling_groups.Arranged.{Among}

-- ---- what can be told

-- in a class or in none
abbrev pub scope_in : List (Decl ℕ) → DeclaredNames → Option ℕ → Scope
scope_in decls a c = record (unit_scope decls a) { class = c }

-- the type of an entry of TYPE, which has this number
abbrev pub entry_in : Scope → ℕ → TypeBody ℕ → Option StType
entry_in s n (body.Alias t) = type_written s t
entry_in s n (body.Enumeration ns) = Some (type.Enumeration n)
entry_in s n (body.Structure gs) = Some (type.Structure n)

abbrev pub FindsEntry : Option (StType × ℤ) → List (Decl ℕ) → DeclaredNames → ℕ → TypeBody ℕ → Type 0
FindsEntry None decls a n b = entry_kind decls a n b ≡ None
FindsEntry (Some x) decls a n b = entry_kind decls a n b ≡ Some x.0

-- nothing of the group can be told from what is told so far
pub record Untellable (decls : List (Decl ℕ)) (a : DeclaredNames) (g : Group) : Type 0 where
  pub each : (j : Job) → Among j (jobs_of_group g) → can_be_told decls a j ≡ false

-- this is what can be told of all of the group
pub record Tellable (decls : List (Decl ℕ)) (a : DeclaredNames) (g : Group) (k : StType) (z : ℤ) : Type 0 where
  pub each : (j : Job) → Among j (jobs_of_group g) → Tells decls a j k z

abbrev pub Finds : Option (StType × ℤ) → List (Decl ℕ) → DeclaredNames → Group → Type 0
Finds None decls a g = Untellable decls a g
Finds (Some x) decls a g = Tellable decls a g x.0 x.1

-- ---- what is told

abbrev pub with_jobs : DeclaredNames → List Job → StType → ℤ → DeclaredNames
with_jobs a [] k z = a
with_jobs a (j ∷ js) k z = with_jobs (with_job a j k z) js k z

-- a global for each name, the first at this place
abbrev pub with_globals : DeclaredNames → ℕ → List Name → StType → ℤ → DeclaredNames
with_globals a n [] k z = a
with_globals a n (x ∷ xs) k z = with_globals (with_global a n k (target.Constant z)) (suc n) xs k z

-- the same in a class
abbrev pub with_members : DeclaredNames → ℕ → ℕ → List Name → StType → ℤ → DeclaredNames
with_members a c i [] k z = a
with_members a c i (x ∷ xs) k z = with_members (with_member a c i k (target.Constant z)) c (suc i) xs k z

-- tables that tell these names, and else what they told before
pub record Retold (all : DeclaredNames) (old new : Told) : Type 0 where
  pub names : new.names ≡ all
  pub bases : new.bases ≡ old.bases
  pub derived : new.derived ≡ old.derived

-- the tables know the unit, and what they tell is so
pub record IsState (decls : List (Decl ℕ)) (t : Told) : Type 0 where
  pub knows : Knows t (classes_in decls)
  pub sound : Sound decls t.names

-- what can be told by the group can be told of the unit
pub record IsOfUnit (decls : List (Decl ℕ)) (g : Group) : Type 0 where
  pub each : (j : Job) → Among j (jobs_of_group g) → Among j (jobs_in decls)

pub record AreOfUnit (decls : List (Decl ℕ)) (gs : List Group) : Type 0 where
  pub each : (g : Group) → Among g gs → IsOfUnit decls g

-- all of the group is told
pub record GroupTold (a : DeclaredNames) (g : Group) : Type 0 where
  pub each : (j : Job) → Among j (jobs_of_group g) → is_told_of a j ≡ true

-- what is told stays told
pub record Stays (old new : Told) : Type 0 where
  pub each : (j : Job) → is_told_of old.names j ≡ true → is_told_of new.names j ≡ true

-- what a visit of a group does
pub record Visits (decls : List (Decl ℕ)) (g : Group) (old new : Told) (any : Bool) : Type 0 where
  pub state : IsState decls new
  pub stays : Stays old new
  pub told : any ≡ true → GroupTold new.names g
  pub same : any ≡ false → new ≡ old
  pub none : any ≡ false → Untellable decls old.names g

-- the same, and where nothing is told the group is kept
pub record Keeps (decls : List (Decl ℕ)) (g : Group) (old new : Told) (before after : List Group) : Type 0 where
  pub any : Bool
  pub visits : Visits decls g old new any
  pub kept : after ≡ before ++ (if any then [] else g ∷ [])

-- what visits of the first n groups do; where each is kept, nothing was told, and of none could anything be told
pub record Passes (decls : List (Decl ℕ)) (gs : List Group) (old new : Told) (left : List Group) (n : ℕ) : Type 0 where
  pub state : IsState decls new
  pub stays : Stays old new
  pub told : (p : ℕ) (g : Group) → p < n → slice_get gs p ≡ Some g → GroupTold new.names g ⊎ Among g left
  pub within : (g : Group) → Among g left → Among g gs
  pub fewer : length left ≤ n
  pub same : length left ≡ n → new ≡ old
  pub none : length left ≡ n → (p : ℕ) (g : Group) → p < n → slice_get gs p ≡ Some g → Untellable decls old.names g

-- what is not told is of the groups that are left
pub record IsLeft (decls : List (Decl ℕ)) (t : Told) (gs : List Group) : Type 0 where
  pub state : IsState decls t
  pub within : AreOfUnit decls gs
  pub left : (j : Job) → Among j (jobs_in decls) → (is_told_of t.names j ≡ true) ⊎ ((g : Group) × Among g gs × Among j (jobs_of_group g))
