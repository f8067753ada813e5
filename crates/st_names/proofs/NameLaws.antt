-- What the tests of a table's names say of the places of names.
use Rattle.std.proofs.Common.{◌≡◌, ℕ, zero, suc, ◌<◌, true, false, cond, List, [], ◌∷◌, slice_get, position, Option, None, Some, is_some, unwrap_or, refl, sym, ap, ◌∙◌, true≢false, inl, inr, arith}
use Rattle.std.specs.Map.{keys_of, lookup}
use Rattle.std.specs.List.{IsDistinct}
use Rattle.std.specs.Str.{bytes_eq}
use Rattle.std.specs.Cmp.Lexicographic.{bytes_decides}
use Rattle.std.proofs.lemmas.Bool.{cases_Bool}
use Rattle.std.proofs.lemmas.List.Quantifiers.{position-Some}
use Rattle.std.proofs.lemmas.Map.Entries.{place_from_lookup}
use Rattle.std.proofs.lemmas.Map.Keys.{apart_from_distinct}
use Rattle.std.proofs.lemmas.Option.{slice_get-get_or, slice_get_within, get_or_from_slice_get}
use Rattle.st_names.specs.Names.{IsAt, HasName, AreDistinct}

same-refl : (name : List ℕ) → bytes_eq name name ≡ true
same-refl name = (bytes_decides name name).1 refl

key_place : {V : Type 0} (pairs : List (List ℕ × V)) (n : ℕ) (name : List ℕ) (value : V) → slice_get pairs n ≡ Some (name, value) → IsAt pairs n name
key_place [] n name value h = absurd (true≢false (sym (ap is_some h)))
key_place (p ∷ pairs) zero name value h = ap (λ o. Some (unwrap_or o p).0) h
key_place (p ∷ pairs) (suc n) name value h = key_place pairs n name value h

-- the place of the first name that passes
pub found : {V : Type 0} (pairs : List (List ℕ × V)) (n : ℕ) (name : List ℕ) → position (bytes_eq name) (keys_of pairs) ≡ Some n → IsAt pairs n name
found pairs n name h =
    let p = position-Some (bytes_eq name) (keys_of pairs) n name h in
    slice_get-get_or (keys_of pairs) n name p.0 ∙ ap Some (sym ((bytes_decides name _).0 p.1))

seen : {V : Type 0} (pairs : List (List ℕ × V)) (n : ℕ) (name : List ℕ) → IsAt pairs n name → is_some (lookup (bytes_eq name) pairs) ≡ true
seen [] n name h = absurd (true≢false (sym (ap is_some h)))
seen (p ∷ pairs) zero name h =
    let first : p.0 ≡ name = ap (λ o. unwrap_or o p.0) h in
    ap (λ b. is_some (cond b (Some p.1) (lookup (bytes_eq name) pairs))) ((bytes_decides name p.0).1 (sym first))
seen (p ∷ pairs) (suc n) name h =
    elim (cases_Bool (bytes_eq name p.0)) [
      | inl y ↦ ap (λ b. is_some (cond b (Some p.1) (lookup (bytes_eq name) pairs))) y
      | inr f ↦ ap (λ b. is_some (cond b (Some p.1) (lookup (bytes_eq name) pairs))) f ∙ seen pairs n name h
    ]

-- a look-up that finds nothing
pub missing : {V : Type 0} (pairs : List (List ℕ × V)) (name : List ℕ) → is_some (lookup (bytes_eq name) pairs) ≡ false → HasName pairs name → ⊥
missing pairs name none (n, h) = true≢false (sym (seen pairs n name h) ∙ none)

pub fresh : {V : Type 0} (pairs : List (List ℕ × V)) (name : List ℕ) → (HasName pairs name → ⊥) → lookup (bytes_eq name) pairs ≡ None
fresh {V} pairs name none = by (lookup (bytes_eq name) pairs) refl
  where
    by : (o : Option V) → lookup (bytes_eq name) pairs ≡ o → lookup (bytes_eq name) pairs ≡ None
    by None e = e
    by (Some v) e =
        let w = place_from_lookup (bytes_eq name) pairs v e in
        absurd (none (w.0, key_place pairs w.0 w.1 v w.2 ∙ ap Some (sym ((bytes_decides name w.1).0 w.3))))

apart : (names : List (List ℕ)) (i j : ℕ) (name : List ℕ) → IsDistinct bytes_eq names → slice_get names i ≡ Some name → slice_get names j ≡ Some name → i < j → ⊥
apart names i j name d p q below =
    let differ = apart_from_distinct bytes_eq names i j name d below (slice_get_within names j name q) in
    true≢false (sym (same-refl name) ∙ (λ k. bytes_eq (sym (get_or_from_slice_get names i name name p) k) (sym (get_or_from_slice_get names j name name q) k)) ∙ differ)

pub distinct : {V : Type 0} (pairs : List (List ℕ × V)) → IsDistinct bytes_eq (keys_of pairs) → AreDistinct pairs
distinct pairs d i j name p q =
    let up = apart (keys_of pairs) i j name d p q in
    let down = apart (keys_of pairs) j i name d q p in
    omega (arith, up, down)
