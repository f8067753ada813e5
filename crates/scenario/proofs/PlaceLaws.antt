-- The place of a name among the sources.
use Rattle.std.proofs.Common.{◌≡◌, ◌≢◌, ℕ, zero, suc, Bool, true, false, List, [], ◌∷◌, Option, Some, None, refl, sym, ap, ◌∙◌}
use Rattle.std.specs.Prelude.{MatchOption, is_some, if◌then◌else◌}
use Rattle.std.proofs.lemmas.Bool.{false≢true}
use Rattle.std.proofs.lemmas.Slice.Eq.{bytes_eq-Decides}
use Rattle.plc_text.specs.Words.{same}
use Rattle.st_names.specs.Names.{IsAt, HasName, AreDistinct}
use Rattle.scenario.specs.Private.PlayLine.{◌>>=◌, place_of}

abbrev Sources : Type 0
Sources = List (List ℕ × List ℕ)

-- what the place, or none, says of the name
abbrev pub IsPlace : Sources → List ℕ → Option ℕ → Type 0
IsPlace sources name None = HasName sources name → ⊥
IsPlace sources name (Some n) = IsAt sources n name

none_further : (source : List ℕ × List ℕ) (sources : Sources) (name : List ℕ) (n : ℕ) → source.0 ≢ name → (HasName sources name → ⊥) → IsAt (source ∷ sources) n name → ⊥
none_further source sources name zero apart none at = let same : source.0 ≡ name = cc in apart same
none_further source sources name (suc n) apart none at = none (n, at)

further : (source : List ℕ × List ℕ) (sources : Sources) (name : List ℕ) (r : Option ℕ) → source.0 ≢ name → IsPlace sources name r
    → IsPlace (source ∷ sources) name (r >>= λ n. Some (suc n))
further source sources name None apart none = λ (h : HasName (source ∷ sources) name). none_further source sources name h.0 apart none h.1
further source sources name (Some n) apart at = at

first_or_further : (source : List ℕ × List ℕ) (sources : Sources) (name : List ℕ) (is : Bool) → same source.0 name ≡ is → IsPlace sources name (place_of sources name)
    → IsPlace (source ∷ sources) name (if is then Some 0 else (place_of sources name >>= λ n. Some (suc n)))
first_or_further source sources name true e h = ap Some ((bytes_eq-Decides source.0 name).0 e)
first_or_further source sources name false e h =
    further source sources name (place_of sources name) (λ equal. false≢true (sym e ∙ (bytes_eq-Decides source.0 name).1 equal)) h

pub place_is : (sources : Sources) (name : List ℕ) → IsPlace sources name (place_of sources name)
place_is [] name = λ (h : HasName {V = List ℕ} [] name). let at = h.1 in cc
place_is (source ∷ sources) name = first_or_further source sources name (same source.0 name) refl (place_is sources name)

one_place : (sources : Sources) (name : List ℕ) (found r : Option ℕ) → AreDistinct sources → IsPlace sources name found
    → MatchOption r (HasName sources name → ⊥) (λ n. IsAt sources n name) → r ≡ found
one_place sources name None None distinct h k = refl
one_place sources name None (Some n) distinct h k = absurd (h (n, k))
one_place sources name (Some m) None distinct h k = absurd (k (m, h))
one_place sources name (Some m) (Some n) distinct h k = ap Some (distinct n m name k h)

-- what `find` answers is that place
pub found_is : (sources : Sources) (name : List ℕ) (r : Option ℕ) → AreDistinct sources → MatchOption r (HasName sources name → ⊥) (λ n. IsAt sources n name)
    → r ≡ place_of sources name
found_is sources name r distinct h = one_place sources name (place_of sources name) r distinct (place_is sources name) h

pub place_of-at : (sources : Sources) (n : ℕ) (name : List ℕ) → AreDistinct sources → IsAt sources n name → place_of sources name ≡ Some n
place_of-at sources n name distinct at = sym (found_is sources name (Some n) distinct at)

pub place_of-some : (sources : Sources) (name : List ℕ) (n : ℕ) → place_of sources name ≡ Some n → IsAt sources n name
place_of-some sources name n e = let is = place_is sources name in rw e at is

-- whether a name is taken
none_taken : (sources : Sources) (name : List ℕ) (r : Option ℕ) → IsPlace sources name r → (HasName sources name → ⊥) → is_some r ≡ false
none_taken sources name None h none = refl
none_taken sources name (Some n) h none = absurd (none (n, h))

pub is_free : (sources : Sources) (name : List ℕ) → (HasName sources name → ⊥) → is_some (place_of sources name) ≡ false
is_free sources name none = none_taken sources name (place_of sources name) (place_is sources name) none

free : (sources : Sources) (name : List ℕ) (r : Option ℕ) → IsPlace sources name r → is_some r ≡ false → HasName sources name → ⊥
free sources name None h e = h
free sources name (Some n) h e = absurd cc

pub free-is : (sources : Sources) (name : List ℕ) → is_some (place_of sources name) ≡ false → HasName sources name → ⊥
free-is sources name e = free sources name (place_of sources name) (place_is sources name) e
