-- What can be told of a unit, one by one: the types of entries of TYPE, interfaces and classes, and the constants among globals and in
-- classes, each with the numbers by which it is told.
use Rattle.std.specs.Prelude.{◌≡◌, ℕ, suc, ℤ, Bool, true, false, List, [], ◌∷◌, ◌++◌, Option, Some, None, slice_get, if◌then◌else◌}
use Rattle.std.specs.Option.{is_some}
use Rattle.st_types.specs.declared.st_type.StType.{StType}
use Rattle.st_types.specs.declared.st_type.StType.TheVariants as type
use Rattle.st_tree.specs.declared.declaration.TypeDecl.{TypeDecl}
use Rattle.st_tree.specs.declared.program.Target.TheVariants as target
use Rattle.st_tree.specs.declared.unit.Decl.{Decl}
use Rattle.st_rules.specs.declared.names.DeclaredNames.{DeclaredNames}
use Rattle.st_rules.specs.Telling.{with_type, with_global, with_member}
use Rattle.st_unit_rules.specs.declared_names.WrittenTypes.{type_written}
use Rattle.st_unit_rules.specs.declared_names.Variables.{Written, sections_written, sections_in, constant_of}
use Rattle.st_unit_rules.specs.declared_names.Declarations.{Declaration, an_entry, a_global, an_interface, a_class, a_function, declarations}
use Rattle.st_unit_rules.specs.declared_names.UnitNames.{unit_scope, class_scope, entry_kind}
use Rattle.resolution_order.specs.told_places.PlaceLaws.{has_type, is_value, is_global_value, member_in, entry_can_be_told}

pub data Job : Type 0 where
  -- the number among types, and the number among its sort
  of_entry : ℕ → ℕ → TypeDecl ℕ → Job
  of_interface : ℕ → ℕ → Job
  of_class : ℕ → ℕ → Job
  -- a constant, with its number among globals and functions
  of_global : ℕ → Written → Job
  -- a constant, with the number of its class and its number among what the class declares
  of_member : ℕ → ℕ → Written → Job

-- the numbers that come next
pub record Numbers : Type 0 where
  pub types : ℕ
  pub entries : ℕ
  pub interfaces : ℕ
  pub classes : ℕ
  pub globals : ℕ

abbrev pub member_jobs : ℕ → ℕ → List Written → List Job
member_jobs c i [] = []
member_jobs c i (w ∷ ws) = if w.constant then of_member c i w ∷ member_jobs c (suc i) ws else member_jobs c (suc i) ws

abbrev pub global_jobs : ℕ → Written → List Job
global_jobs n w = if w.constant then of_global n w ∷ [] else []

abbrev pub jobs_of : Numbers → Declaration → List Job
jobs_of n (an_entry t) = of_entry n.types n.entries t ∷ []
jobs_of n (an_interface i) = of_interface n.types n.interfaces ∷ []
jobs_of n (a_class d) = of_class n.types n.classes ∷ member_jobs n.classes 0 (sections_written (sections_in d.members))
jobs_of n (a_global g) = global_jobs n.globals g.written
jobs_of n _ = []

abbrev pub behind : Numbers → Declaration → Numbers
behind n (an_entry t) = record n { types = suc n.types; entries = suc n.entries }
behind n (an_interface i) = record n { types = suc n.types; interfaces = suc n.interfaces }
behind n (a_class d) = record n { types = suc n.types; classes = suc n.classes }
behind n (a_global g) = record n { globals = suc n.globals }
behind n (a_function f) = record n { globals = suc n.globals }
behind n _ = n

abbrev pub jobs_from : Numbers → List Declaration → List Job
jobs_from n [] = []
jobs_from n (d ∷ ds) = jobs_of n d ++ jobs_from (behind n d) ds

abbrev pub first_numbers : Numbers
first_numbers = record { types = 0; entries = 0; interfaces = 0; classes = 0; globals = 0 }

unfoldable pub jobs_in : List (Decl ℕ) → List Job
jobs_in decls = jobs_from first_numbers (declarations decls)

-- ---- what is told

-- whether it is told already
abbrev pub is_told_of : DeclaredNames → Job → Bool
is_told_of a (of_entry n e t) = has_type a.types n
is_told_of a (of_interface n i) = has_type a.types n
is_told_of a (of_class n c) = has_type a.types n
is_told_of a (of_global n w) = is_global_value (slice_get a.globals n)
is_told_of a (of_member c i w) = is_value (member_in (slice_get a.classes c) i)

-- the names with one more told: an entry's type, or the type and the value of a constant
abbrev pub with_job : DeclaredNames → Job → StType → ℤ → DeclaredNames
with_job a (of_entry n e t) k z = with_type a n k
with_job a (of_interface n i) k z = with_type a n (type.Interface i)
with_job a (of_class n c) k z = with_type a n (type.Instance c)
with_job a (of_global n w) k z = with_global a n k (target.Constant z)
with_job a (of_member c i w) k z = with_member a c i k (target.Constant z)

module _ (decls : List (Decl ℕ)) (a : DeclaredNames) where
  -- whether it can be told from what is told so far
  abbrev pub can_be_told : Job → Bool
  can_be_told (of_entry n e t) = entry_can_be_told decls a t.body
  can_be_told (of_interface n i) = true
  can_be_told (of_class n c) = true
  can_be_told (of_global n w) = is_some (constant_of (unit_scope decls a) w)
  can_be_told (of_member c i w) = is_some (constant_of (class_scope decls a c) w)

  -- this is what can be told of it
  abbrev pub Tells : Job → StType → ℤ → Type 0
  Tells (of_entry n e t) k z = entry_kind decls a e t.body ≡ Some k
  Tells (of_interface n i) k z = Unit {0}
  Tells (of_class n c) k z = Unit {0}
  Tells (of_global n w) k z = (type_written (unit_scope decls a) w.item.kind ≡ Some k) × (constant_of (unit_scope decls a) w ≡ Some z)
  Tells (of_member c i w) k z = (type_written (class_scope decls a c) w.item.kind ≡ Some k) × (constant_of (class_scope decls a c) w ≡ Some z)

  -- what can be told of it is told
  abbrev pub IsDone : Job → Type 0
  IsDone j = can_be_told j ≡ true → is_told_of a j ≡ true
