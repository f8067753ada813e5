-- The computed form of widening is the relation: a closed computation over all kinds.
use Rattle.std.proofs.Common.{◌≡◌, ℕ, zero, suc, Bool, true, false, List, [], ◌∷◌, Option, Some, None, refl, sym, ap, ◌∙◌, subst}
use Rattle.std.specs.Prelude.{◌&&◌, ◌||◌, not, nat_le, slice_get, MatchOption}
use Rattle.std.specs.Bool.{Decides}
use Rattle.std.specs.List.{list_all}
use Rattle.std.proofs.lemmas.Bool.{leb-true}
use Rattle.st_types.specs.declared.elem.Elem.{Elem}
use Rattle.st_types.specs.declared.elem.Elem.TheVariants as kind
use Rattle.st_types.specs.Widening.{Reaches, IsCommon, place}
use Rattle.st_types.specs.Private.Reached.{reached}
use Rattle.st_types.proofs.WideningLaws.{reaches_of, reached_of, one_common}
use Rattle.st_rules.specs.Kinds.{reaches, common_kind}
use Rattle.st_rules.proofs.Booleans.{both, false≢true}

kinds : List Elem
kinds = kind.Bool ∷ kind.Sint ∷ kind.Int ∷ kind.Dint ∷ kind.Lint ∷ kind.Usint ∷ kind.Uint ∷ kind.Udint ∷ kind.Ulint ∷ kind.Byte ∷ kind.Word ∷ kind.Dword ∷ kind.Lword ∷ kind.Time ∷ []

passes_at : (test : Elem → Bool) (ks : List Elem) → list_all test ks ≡ true → (i : ℕ) (k : Elem) → slice_get ks i ≡ Some k → test k ≡ true
passes_at test [] h i k e = absurd (cc)
passes_at test (x ∷ xs) h zero k e = let s : x ≡ k = cc in ap test (sym s) ∙ (both (test x) (list_all test xs) h).0
passes_at test (x ∷ xs) h (suc i) k e = passes_at test xs (both (test x) (list_all test xs) h).1 i k e

-- what holds of each in the list holds of each kind
every : (test : Elem → Bool) → list_all test kinds ≡ true → (k : Elem) → test k ≡ true
unfolding kinds
every test h kind.Bool = passes_at test kinds h 0 _ refl
every test h kind.Sint = passes_at test kinds h 1 _ refl
every test h kind.Int = passes_at test kinds h 2 _ refl
every test h kind.Dint = passes_at test kinds h 3 _ refl
every test h kind.Lint = passes_at test kinds h 4 _ refl
every test h kind.Usint = passes_at test kinds h 5 _ refl
every test h kind.Uint = passes_at test kinds h 6 _ refl
every test h kind.Udint = passes_at test kinds h 7 _ refl
every test h kind.Ulint = passes_at test kinds h 8 _ refl
every test h kind.Byte = passes_at test kinds h 9 _ refl
every test h kind.Word = passes_at test kinds h 10 _ refl
every test h kind.Dword = passes_at test kinds h 11 _ refl
every test h kind.Lword = passes_at test kinds h 12 _ refl
every test h kind.Time = passes_at test kinds h 13 _ refl

-- ---- one kind reaches another

agree : Bool → Bool → Bool
agree true b = b
agree false b = not b

agreed : (a b : Bool) → agree a b ≡ true → a ≡ b
unfolding agree
agreed true true h = refl
agreed true false h = absurd (false≢true h)
agreed false true h = absurd (false≢true h)
agreed false false h = refl

both_forms : (a b : Elem) → reaches a b ≡ reached a b
unfolding kinds agree
both_forms a b = agreed (reaches a b) (reached a b) (every (λ k. agree (reaches a k) (reached a k)) (every (λ j. list_all (λ k. agree (reaches j k) (reached j k)) kinds) refl a) b)

pub reaches_decides : (a b : Elem) → Decides (reaches a b) (Reaches a b)
reaches_decides a b = (λ h. reaches_of a b (sym (both_forms a b) ∙ h), λ r. both_forms a b ∙ reached_of a b r)

-- ---- the kind of two operands

no_common : Elem → Elem → Elem → Bool
no_common a b k = not (reached a k && reached b k)

not_before : Elem → Elem → Elem → Elem → Bool
not_before a b j k = not (reached a k && reached b k) || nat_le (place j) (place k)

right_common : Elem → Elem → Option Elem → Bool
right_common a b None = list_all (no_common a b) kinds
right_common a b (Some k) = reached a k && (reached b k && list_all (not_before a b k) kinds)

all_right : list_all (λ a. list_all (λ b. right_common a b (common_kind a b)) kinds) kinds ≡ true
unfolding kinds right_common no_common not_before common_kind
all_right = refl

right : (a b : Elem) → right_common a b (common_kind a b) ≡ true
unfolding kinds
right a b = every (λ k. right_common a k (common_kind a k)) (every (λ j. list_all (λ k. right_common j k (common_kind j k)) kinds) all_right a) b

and_true : (a b : Bool) → a ≡ true → b ≡ true → (a && b) ≡ true
and_true true b p q = q
and_true false b p q = absurd (false≢true p)

not_true : (a : Bool) → not a ≡ true → a ≡ true → ⊥
not_true true p q = false≢true p
not_true false p q = false≢true q

second_true : (a b : Bool) → (not a || b) ≡ true → a ≡ true → b ≡ true
second_true true b p q = p
second_true false b p q = absurd (false≢true q)

is_right : (a b : Elem) (o : Option Elem) → right_common a b o ≡ true → MatchOption o ((k : Elem) → Reaches a k → Reaches b k → ⊥) (λ k. IsCommon a b k)
unfolding right_common no_common not_before
is_right a b None h = λ k p q. not_true (reached a k && reached b k) (every (no_common a b) h k) (and_true (reached a k) (reached b k) (reached_of a k p) (reached_of b k q))
is_right a b (Some k) h =
    let one = both (reached a k) (reached b k && list_all (not_before a b k) kinds) h in
    let two = both (reached b k) (list_all (not_before a b k) kinds) one.1 in
    record {
      left = reaches_of a k one.0;
      right = reaches_of b k two.0;
      first = λ other p q. leb-true (place k) (place other)
          (second_true (reached a other && reached b other) (nat_le (place k) (place other)) (every (not_before a b k) two.1 other) (and_true (reached a other) (reached b other) (reached_of a other p) (reached_of b other q)));
    }

pub common_is : (a b : Elem) → MatchOption (common_kind a b) ((k : Elem) → Reaches a k → Reaches b k → ⊥) (λ k. IsCommon a b k)
common_is a b = is_right a b (common_kind a b) (right a b)

-- whatever has this property is the computed one
pub common_only : (a b : Elem) (o p : Option Elem) → MatchOption o ((k : Elem) → Reaches a k → Reaches b k → ⊥) (λ k. IsCommon a b k) → MatchOption p ((k : Elem) → Reaches a k → Reaches b k → ⊥) (λ k. IsCommon a b k) → o ≡ p
common_only a b None None h g = refl
common_only a b None (Some k) h g = absurd (h k g.left g.right)
common_only a b (Some j) None h g = absurd (g j h.left h.right)
common_only a b (Some j) (Some k) h g = ap Some (one_common a b j k h g)

pub common_found : (a b k : Elem) → IsCommon a b k → common_kind a b ≡ Some k
common_found a b k h = common_only a b (common_kind a b) (Some k) (common_is a b) h

pub common_has : (a b k : Elem) → common_kind a b ≡ Some k → IsCommon a b k
common_has a b k e = of (common_kind a b) (common_is a b) e
  where
    of : (o : Option Elem) → MatchOption o ((j : Elem) → Reaches a j → Reaches b j → ⊥) (λ j. IsCommon a b j) → o ≡ Some k → IsCommon a b k
    of None h e = absurd (cc)
    of (Some j) h e = let s : j ≡ k = cc in subst (λ (x : Elem). IsCommon a b x) s h
