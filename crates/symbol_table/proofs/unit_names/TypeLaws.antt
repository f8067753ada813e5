-- Types are declared one after the other.
use Rattle.std.proofs.Common.{◌≡◌, ℕ, suc, ◌+◌, ◌<◌, ◌≤◌, List, [], ◌∷◌, ◌++◌, map, drop, length, get_or, Option, refl, sym, ap, ◌∙◌, arith, append-nil}
use Rattle.std.proofs.lemmas.List.{append_assoc}
use Rattle.st_types.specs.declared.st_type.StType.{StType}
use Rattle.st_tree.specs.declared.declaration.TypeDecl.{TypeDecl}
use Rattle.st_tree.specs.declared.unit.Decl.{Decl}
use Rattle.st_tree.specs.declared.unit.Decl.TheVariants as declaration
use Rattle.st_rules.specs.declared.names.DeclaredNames.{DeclaredNames}
use Rattle.st_rules.specs.declared.names.DeclaredType.{DeclaredType}
use Rattle.st_rules.proofs.ListLaws.{drop-at, drop-end}
use Rattle.st_unit_rules.specs.declared_names.UnitNames.{entry_kind, entries_declared, types_declared}

module _ (decls : List (Decl ℕ)) (a : DeclaredNames) where
  pub record EntriesTo (ts : List (TypeDecl ℕ)) (old now : List DeclaredType) (first number i : ℕ) : Type 0 where
    pub types : now ++ entries_declared decls a number (drop i ts) ≡ old ++ entries_declared decls a first ts
    pub count : number + length (drop i ts) ≡ first + length ts

  pub entries_begun : (ts : List (TypeDecl ℕ)) (old : List DeclaredType) (first : ℕ) → EntriesTo ts old old first first 0
  entries_begun ts old first = record { types = refl; count = refl }

  pub entries_next : (ts : List (TypeDecl ℕ)) (old now more : List DeclaredType) (first number after i : ℕ) (t : TypeDecl ℕ) (k : Option StType) → i < length ts → t ≡ get_or ts i t → k ≡ entry_kind decls a number t.body
      → more ≡ now ++ (record { name = t.name.text; kind = k }) ∷ [] → after ≡ suc number → EntriesTo ts old now first number i → EntriesTo ts old more first after (i + 1)
  entries_next ts old now more first number after i t k l e f h n g = record {
    types =
        ap (λ m. more ++ entries_declared decls a m (drop (i + 1) ts)) n
        ∙ ap (λ xs. xs ++ entries_declared decls a (suc number) (drop (i + 1) ts)) h
        ∙ append_assoc now (record { name = t.name.text; kind = k } ∷ []) (entries_declared decls a (suc number) (drop (i + 1) ts))
        ∙ ap (λ x. now ++ (record { name = t.name.text; kind = x }) ∷ entries_declared decls a (suc number) (drop (i + 1) ts)) f
        ∙ ap (λ xs. now ++ entries_declared decls a number xs) (sym (drop-at ts i t l e))
        ∙ g.types;
    count = ap (λ m. m + length (drop (i + 1) ts)) n ∙ shifted number (length (drop (i + 1) ts)) ∙ ap (λ xs. number + length xs) (sym (drop-at ts i t l e)) ∙ g.count;
  }
    where
      shifted : (n m : ℕ) → suc n + m ≡ n + suc m
      shifted n m = omega arith

  pub entries_ended : (ts : List (TypeDecl ℕ)) (old now : List DeclaredType) (first number i : ℕ) → length ts ≤ i → EntriesTo ts old now first number i → (now ≡ old ++ entries_declared decls a first ts) × (number ≡ first + length ts)
  entries_ended ts old now first number i l g = (
    sym (append-nil now) ∙ ap (λ xs. now ++ entries_declared decls a number xs) (sym (drop-end ts i l)) ∙ g.types,
    plain number ∙ ap (λ xs. number + length xs) (sym (drop-end ts i l)) ∙ g.count,
  )
    where
      plain : (n : ℕ) → n ≡ n + 0
      plain n = omega arith

-- ---- one declaration

pub entries_added : (decls : List (Decl ℕ)) (a : DeclaredNames) (old new : List DeclaredType) (n m c i l : ℕ) (ts : List (TypeDecl ℕ)) (ds : List (Decl ℕ)) → (new ≡ old ++ entries_declared decls a n ts) × (m ≡ n + length ts)
    → new ++ types_declared decls a m c i ds ≡ old ++ types_declared decls a n c i (declaration.Types l ts ∷ ds)
entries_added decls a old new n m c i l ts ds h =
    ap (λ xs. xs ++ types_declared decls a m c i ds) h.0
    ∙ append_assoc old (entries_declared decls a n ts) (types_declared decls a m c i ds)
    ∙ ap (λ k. old ++ (entries_declared decls a n ts ++ types_declared decls a k c i ds)) h.1

pub type_added : (old new : List DeclaredType) (t : DeclaredType) (xs ys : List DeclaredType) → new ≡ old ++ t ∷ [] → xs ≡ ys → new ++ xs ≡ old ++ t ∷ ys
type_added old new t xs ys h e = ap (λ zs. zs ++ xs) h ∙ append_assoc old (t ∷ []) xs ∙ ap (λ zs. old ++ t ∷ zs) e
