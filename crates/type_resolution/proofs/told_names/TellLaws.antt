-- Names are told one after the other.
use Rattle.std.proofs.Common.{◌≡◌, ℕ, suc, ◌+◌, ◌<◌, ◌≤◌, ℤ, List, [], ◌∷◌, map, drop, length, get_or, refl, sym, ap, ◌∙◌}
use Rattle.st_types.specs.declared.st_type.StType.{StType}
use Rattle.st_tree.specs.declared.declaration.Item.{Item}
use Rattle.st_tree.specs.declared.declaration.Section.{Section}
use Rattle.st_tree.specs.declared.name.Name.{Name}
use Rattle.st_tree.specs.declared.program.Target.TheVariants as target
use Rattle.st_rules.specs.declared.names.DeclaredNames.{DeclaredNames}
use Rattle.st_rules.specs.Telling.{with_global, with_member}
use Rattle.st_rules.proofs.ListLaws.{drop-at, drop-end}
use Rattle.name_resolution.specs.Tables.{Told}
use Rattle.st_unit_rules.specs.declaration_list.Written.{written_in}
use Rattle.resolution_order.specs.telling_list.Jobs.{of_global, of_member}
use Rattle.resolution_order.specs.telling_groups.Groups.{each_name}
use Rattle.type_resolution.specs.told_names.Private.State.{with_jobs, with_globals, with_members, Retold}

-- ---- globals

pub record GlobalsTo (xs : List Name) (old now : Told) (first place i : ℕ) (k : StType) (z : ℤ) : Type 0 where
  pub rest : with_globals now.names place (drop i xs) k z ≡ with_globals old.names first xs k z
  pub bases : now.bases ≡ old.bases
  pub derived : now.derived ≡ old.derived

pub globals_begun : (xs : List Name) (old : Told) (first : ℕ) (k : StType) (z : ℤ) → GlobalsTo xs old old first first 0 k z
globals_begun xs old first k z = record { rest = refl; bases = refl; derived = refl }

pub globals_next : (xs : List Name) (old now more : Told) (first place after i : ℕ) (x : Name) (k : StType) (z : ℤ) → i < length xs → x ≡ get_or xs i x → after ≡ suc place
    → Retold (with_global now.names place k (target.Constant z)) now more → GlobalsTo xs old now first place i k z → GlobalsTo xs old more first after (i + 1) k z
globals_next xs old now more first place after i x k z l e f t g = record {
  rest =
      ap (λ n. with_globals more.names n (drop (i + 1) xs) k z) f
      ∙ ap (λ a. with_globals a (suc place) (drop (i + 1) xs) k z) t.names
      ∙ ap (λ ys. with_globals now.names place ys k z) (sym (drop-at xs i x l e))
      ∙ g.rest;
  bases = t.bases ∙ g.bases;
  derived = t.derived ∙ g.derived;
}

pub globals_ended : (xs : List Name) (old now : Told) (first place i : ℕ) (k : StType) (z : ℤ) → length xs ≤ i → GlobalsTo xs old now first place i k z → Retold (with_globals old.names first xs k z) old now
globals_ended xs old now first place i k z l g = record { names = ap (λ ys. with_globals now.names place ys k z) (sym (drop-end xs i l)) ∙ g.rest; bases = g.bases; derived = g.derived }

globals-are : (s : Section ℕ) (item : Item ℕ) (a : DeclaredNames) (n : ℕ) (xs : List Name) (k : StType) (z : ℤ) → with_globals a n xs k z ≡ with_jobs a (each_name of_global n (map (written_in s item) xs)) k z
globals-are s item a n [] k z = refl
globals-are s item a n (x ∷ xs) k z = globals-are s item (with_global a n k (target.Constant z)) (suc n) xs k z

pub globals_told : (s : Section ℕ) (item : Item ℕ) (old new : Told) (n : ℕ) (k : StType) (z : ℤ) → Retold (with_globals old.names n item.names k z) old new
    → Retold (with_jobs old.names (each_name of_global n (map (written_in s item) item.names)) k z) old new
globals_told s item old new n k z t = record { names = t.names ∙ globals-are s item old.names n item.names k z; bases = t.bases; derived = t.derived }

-- ---- members

pub record MembersTo (xs : List Name) (old now : Told) (c first place i : ℕ) (k : StType) (z : ℤ) : Type 0 where
  pub rest : with_members now.names c place (drop i xs) k z ≡ with_members old.names c first xs k z
  pub bases : now.bases ≡ old.bases
  pub derived : now.derived ≡ old.derived

pub members_begun : (xs : List Name) (old : Told) (c first : ℕ) (k : StType) (z : ℤ) → MembersTo xs old old c first first 0 k z
members_begun xs old c first k z = record { rest = refl; bases = refl; derived = refl }

pub members_next : (xs : List Name) (old now more : Told) (c first place after i : ℕ) (x : Name) (k : StType) (z : ℤ) → i < length xs → x ≡ get_or xs i x → after ≡ suc place
    → Retold (with_member now.names c place k (target.Constant z)) now more → MembersTo xs old now c first place i k z → MembersTo xs old more c first after (i + 1) k z
members_next xs old now more c first place after i x k z l e f t g = record {
  rest =
      ap (λ n. with_members more.names c n (drop (i + 1) xs) k z) f
      ∙ ap (λ a. with_members a c (suc place) (drop (i + 1) xs) k z) t.names
      ∙ ap (λ ys. with_members now.names c place ys k z) (sym (drop-at xs i x l e))
      ∙ g.rest;
  bases = t.bases ∙ g.bases;
  derived = t.derived ∙ g.derived;
}

pub members_ended : (xs : List Name) (old now : Told) (c first place i : ℕ) (k : StType) (z : ℤ) → length xs ≤ i → MembersTo xs old now c first place i k z → Retold (with_members old.names c first xs k z) old now
members_ended xs old now c first place i k z l g = record { names = ap (λ ys. with_members now.names c place ys k z) (sym (drop-end xs i l)) ∙ g.rest; bases = g.bases; derived = g.derived }

members-are : (s : Section ℕ) (item : Item ℕ) (a : DeclaredNames) (c n : ℕ) (xs : List Name) (k : StType) (z : ℤ) → with_members a c n xs k z ≡ with_jobs a (each_name (of_member c) n (map (written_in s item) xs)) k z
members-are s item a c n [] k z = refl
members-are s item a c n (x ∷ xs) k z = members-are s item (with_member a c n k (target.Constant z)) c (suc n) xs k z

pub members_told : (s : Section ℕ) (item : Item ℕ) (old new : Told) (c n : ℕ) (k : StType) (z : ℤ) → Retold (with_members old.names c n item.names k z) old new
    → Retold (with_jobs old.names (each_name (of_member c) n (map (written_in s item) item.names)) k z) old new
members_told s item old new c n k z t = record { names = t.names ∙ members-are s item old.names c n item.names k z; bases = t.bases; derived = t.derived }
