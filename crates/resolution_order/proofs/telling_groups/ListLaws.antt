-- Groups are listed, one after the other.
use Rattle.std.proofs.Common.{◌≡◌, ℕ, suc, ◌+◌, ◌<◌, ◌≤◌, List, [], ◌∷◌, ◌++◌, map, drop, length, get_or, Result, Ok, Err, OnOk, refl, sym, ap, ◌∙◌}
use Rattle.std.proofs.lemmas.List.{append_assoc, append-nil}
use Rattle.st_tree.specs.declared.declaration.Item.{Item}
use Rattle.st_tree.specs.declared.declaration.Section.{Section}
use Rattle.st_rules.proofs.ListLaws.{drop-at, drop-end}
use Rattle.st_unit_rules.specs.declared_names.Declarations.{Global, Declaration}
use Rattle.st_unit_rules.specs.declared.declaration_list.listed.Declared.{Declared}
use Rattle.st_unit_rules.specs.declared.declaration_list.written.WrittenName.{WrittenName}
use Rattle.st_unit_rules.specs.declaration_list.Listed.{declared_as}
use Rattle.st_unit_rules.specs.declaration_list.Written.{global_of}
use Rattle.resolution_order.specs.telling_list.Jobs.{Numbers, behind}
use Rattle.resolution_order.specs.telling_groups.Groups.{Group, one_class, members_of}
use Rattle.resolution_order.specs.telling_groups.Private.Listed.{group_at, groups_named, groups_of, groups_from}

-- ---- constants of a class

pub record MembersTo (names : List WrittenName) (c : ℕ) (old now : List Group) (index i : ℕ) : Type 0 where
  pub rest : now ++ groups_named (members_of c) index (map global_of (drop i names)) ≡ old ++ groups_named (members_of c) 0 (map global_of names)

pub members_begun : (names : List WrittenName) (c : ℕ) (old : List Group) → MembersTo names c old old 0 0
members_begun names c old = record { rest = refl }

pub members_next : (names : List WrittenName) (c : ℕ) (old now more : List Group) (index after i : ℕ) (name : WrittenName) → i < length names → name ≡ get_or names i name → after ≡ suc index
    → more ≡ now ++ group_at (members_of c) index (global_of name) → MembersTo names c old now index i → MembersTo names c old more after (i + 1)
members_next names c old now more index after i name l e f g m = record {
  rest =
      ap (λ n. more ++ groups_named (members_of c) n (map global_of (drop (i + 1) names))) f
      ∙ ap (λ xs. xs ++ groups_named (members_of c) (suc index) (map global_of (drop (i + 1) names))) g
      ∙ append_assoc now (group_at (members_of c) index (global_of name)) (groups_named (members_of c) (suc index) (map global_of (drop (i + 1) names)))
      ∙ ap (λ ns. now ++ groups_named (members_of c) index (map global_of ns)) (sym (drop-at names i name l e))
      ∙ m.rest;
}

pub members_ended : (names : List WrittenName) (c : ℕ) (old now : List Group) (index i : ℕ) → length names ≤ i → MembersTo names c old now index i → now ≡ old ++ groups_named (members_of c) 0 (map global_of names)
members_ended names c old now index i l m = sym (append-nil now) ∙ ap (λ ns. now ++ groups_named (members_of c) index (map global_of ns)) (sym (drop-end names i l)) ∙ m.rest

pub class_added : {T E : Type 0} (r : Result T E) (old mid new : List Group) (t c : ℕ) (ws xs : List Global) → mid ≡ old ++ one_class t c ∷ [] → OnOk r (new ≡ mid ++ groups_named (members_of c) 0 ws) → ws ≡ xs
    → OnOk r (new ≡ old ++ (one_class t c ∷ groups_named (members_of c) 0 xs))
class_added (Ok x) old mid new t c ws xs h g e = g ∙ ap (λ ys. ys ++ groups_named (members_of c) 0 ws) h ∙ append_assoc old (one_class t c ∷ []) (groups_named (members_of c) 0 ws) ∙ ap (λ zs. old ++ (one_class t c ∷ groups_named (members_of c) 0 zs)) e
class_added (Err x) old mid new t c ws xs h g e = g

-- ---- declarations

pub record GroupsTo (declared : List Declared) (first : Numbers) (now : List Group) (next : Numbers) (i : ℕ) : Type 0 where
  pub rest : now ++ groups_from next (map declared_as (drop i declared)) ≡ groups_from first (map declared_as declared)

pub groups_begun : (declared : List Declared) (first : Numbers) → GroupsTo declared first [] first 0
groups_begun declared first = record { rest = refl }

pub groups_next : (declared : List Declared) (first : Numbers) (now more : List Group) (next after : Numbers) (i : ℕ) (one : Declared) → i < length declared → one ≡ get_or declared i one → after ≡ behind next (declared_as one)
    → more ≡ now ++ groups_of next (declared_as one) → GroupsTo declared first now next i → GroupsTo declared first more after (i + 1)
groups_next declared first now more next after i one l e f g j = record {
  rest =
      ap (λ n. more ++ groups_from n (map declared_as (drop (i + 1) declared))) f
      ∙ ap (λ xs. xs ++ groups_from (behind next (declared_as one)) (map declared_as (drop (i + 1) declared))) g
      ∙ append_assoc now (groups_of next (declared_as one)) (groups_from (behind next (declared_as one)) (map declared_as (drop (i + 1) declared)))
      ∙ ap (λ ds. now ++ groups_from next (map declared_as ds)) (sym (drop-at declared i one l e))
      ∙ j.rest;
}

pub groups_ended : (declared : List Declared) (first : Numbers) (now : List Group) (next : Numbers) (i : ℕ) → length declared ≤ i → GroupsTo declared first now next i → now ≡ groups_from first (map declared_as declared)
groups_ended declared first now next i l j = sym (append-nil now) ∙ ap (λ ds. now ++ groups_from next (map declared_as ds)) (sym (drop-end declared i l)) ∙ j.rest
