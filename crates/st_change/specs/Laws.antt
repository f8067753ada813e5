-- Laws of changes and of runs on one thread.
use Rattle.std.specs.Prelude.{◌≡◌, ◌≢◌, ◌↔◌, ℕ, Bool, true, false, if◌then◌else◌, List, [], ◌∷◌, Some}
use Rattle.plc_text.specs.Words.{same}
use Rattle.plc_text.specs.declared.refusal.Refusal.{Refusal}
use Rattle.cycle_journal.specs.declared.entry.Answer.{Answer}
use Rattle.cycle_journal.specs.declared.entry.Answer.TheVariants as answer
use Rattle.cycle_journal.specs.declared.play.Play.{Play}
use Rattle.st_values.specs.Program.{Region, Program}
use Rattle.st_values.specs.Value.{Path}
use Rattle.st_values.specs.Shape.{Shape, Array, Structure, Instance, Fields, no_fields, field_then, region_shape, path_shape}
use Rattle.st_change.specs.From.{Pairs, region_pairs, pairs_of, old_path, new_path}
use Rattle.st_change.specs.Counterpart.{is_instance_of, old_counterpart, new_counterpart}
use Rattle.st_change.specs.OneThread.{Controller, One}

-- a text is accepted as one program, or refused by one refusal, and not both
pub record Judges (Accepts : List ℕ → Program → Type 0) (Refuses : List ℕ → Refusal → Type 0) : Type 0 where
  pub one_program : (text : List ℕ) (p q : Program) → Accepts text p → Accepts text q → p ≡ q
  pub one_refusal : (text : List ℕ) (r s : Refusal) → Refuses text r → Refuses text s → r ≡ s
  pub not_both : (text : List ℕ) (p : Program) (r : Refusal) → Accepts text p → Refuses text r → ⊥

-- A play has one answer and leaves one state, unless a change finds no memory.
abbrev pub OneAnswer : (List ℕ → Program → Type 0) → (List ℕ → Refusal → Type 0) → List (List ℕ) → Type 0
OneAnswer Accepts Refuses sources =
    (c d e : Controller) (p : Play) (a b : Answer) → One Accepts Refuses sources c p a d → One Accepts Refuses sources c p b e → a ≢ answer.RefusedMemory → b ≢ answer.RefusedMemory → (a ≡ b) × (d ≡ e)

-- ---- paths before and after

abbrev pub has_name : Pairs → List ℕ → Bool
has_name [] n = false
has_name (a ∷ rest) n = if same a.0 n then true else has_name rest n

-- no name stands twice
abbrev pub Once : Pairs → Type 0
Once [] = Unit {0}
Once (a ∷ rest) = (has_name rest a.0 ≡ false) × Once rest

abbrev pub has_region : List Region → List ℕ → Bool
has_region [] n = false
has_region (x ∷ xs) n = if same x.variable.name n then true else has_region xs n

abbrev pub DistinctRegions : List Region → Type 0
DistinctRegions [] = Unit {0}
DistinctRegions (x ∷ xs) = (has_region xs x.variable.name ≡ false) × DistinctRegions xs

abbrev pub has_field : Fields → List ℕ → Bool
has_field no_fields n = false
has_field (field_then v sh fs) n = if same v.name n then true else has_field fs n

-- no field's name stands twice, at any depth
abbrev mutual
  pub Distinct : Shape → Type 0
  Distinct (Array low n sh) = Distinct sh
  Distinct (Structure name fs) = DistinctFields fs
  Distinct (Instance c name fs) = DistinctFields fs
  Distinct _ = Unit {0}

  pub DistinctFields : Fields → Type 0
  DistinctFields no_fields = Unit {0}
  DistinctFields (field_then v sh fs) = (has_field fs v.name ≡ false) × Distinct sh × DistinctFields fs

-- what the checker promises of the names of one program
pub record NamesDiffer (p : Program) : Type 0 where
  pub regions : DistinctRegions p.regions
  pub shapes : (r : ℕ) (sh : Shape) → region_shape p r ≡ Some sh → Distinct sh

-- and of two
pub record Paired (old new : Program) : Type 0 where
  pub old_differ : NamesDiffer old
  pub new_differ : NamesDiffer new
  pub once : (sh : Shape) → Once (pairs_of old new sh)
  pub regions_once : Once (region_pairs old new)

pub record PathLaws : Type 0 where
  -- the two are each other's inverse
  pub inverse : (old new : Program) → Paired old new → (q r : Path) → (old_path old new q ≡ Some r) ↔ (new_path old new r ≡ Some q)
  -- counterparts name each other, where a class of the name is there
  pub counterparts : (old new : Program) → Paired old new → (q r : Path) (name : List ℕ) → is_instance_of name (path_shape new q) ≡ true → is_instance_of name (path_shape old r) ≡ true
      → (old_counterpart old new q name ≡ Some r) ↔ (new_counterpart old new r name ≡ Some q)
