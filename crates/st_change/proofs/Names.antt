-- Names and numbers of fields and regions, and names before and after.
use Rattle.std.proofs.Common.{◌≡◌, ℕ, zero, suc, Bool, true, false, List, [], ◌∷◌, Option, Some, None, refl, sym, ap, ◌∙◌, subst}
use Rattle.std.specs.Prelude.{if◌then◌else◌, option_map, slice_get}
use Rattle.std.proofs.lemmas.Slice.Eq.{bytes_eq-Decides}
use Rattle.plc_text.specs.Words.{same}
use Rattle.st_values.specs.Program.{Region}
use Rattle.st_rules.specs.Named.{first_place}
use Rattle.st_values.specs.Value.{◌>>=◌}
use Rattle.st_values.specs.Shape.{Fields, no_fields, field_then}
use Rattle.st_change.specs.From.{Pairs, is_name, comes_from, unless_later, old_name, or_this, new_name, field_name, field_number, names_of_regions}
use Rattle.st_change.specs.Laws.{has_name, Once, has_region, DistinctRegions, has_field, DistinctFields}

pub same-true : (a b : List ℕ) → same a b ≡ true → a ≡ b
same-true a b e = (bytes_eq-Decides a b).0 e

pub eq-same : (a b : List ℕ) → a ≡ b → same a b ≡ true
eq-same a b e = (bytes_eq-Decides a b).1 e

pub then_is : {A B : Type 0} (o : Option A) (f : A → Option B) (a : A) (b : B) → o ≡ Some a → f a ≡ Some b → (o >>= f) ≡ Some b
then_is None f a b e h = cc
then_is (Some x) f a b e h = let k : x ≡ a = cc in subst (λ y. f y ≡ Some b) (sym k) h

pub then_some : {A B : Type 0} (o : Option A) (f : A → Option B) (b : B) → (o >>= f) ≡ Some b → (a : A) × (o ≡ Some a) × (f a ≡ Some b)
then_some None f b e = cc
then_some (Some a) f b e = (a, refl, e)

pub mapped_some : {A B : Type 0} (h : A → B) (o : Option A) (b : B) → option_map h o ≡ Some b → (a : A) × (o ≡ Some a) × (h a ≡ b)
mapped_some h None b e = cc
mapped_some h (Some a) b e = (a, refl, cc)

-- a test is passed, or not
pub passed : {A : Type 0} (b : Bool) (x y : A) → (if b then Some x else None) ≡ Some y → (b ≡ true) × (x ≡ y)
passed true x y e = (refl, cc)
passed false x y e = cc

-- ---- old and new names

named : (o : Option (List ℕ)) (n : List ℕ) → is_name o n ≡ true → o ≡ Some n
named None n e = cc
named (Some m) n e = ap Some (same-true m n e)

is_named : (o : Option (List ℕ)) (n : List ℕ) → o ≡ Some n → is_name o n ≡ true
is_named None n e = cc
is_named (Some m) n e = eq-same m n cc

none_comes : (ps : Pairs) (o : List ℕ) → comes_from ps o ≡ false → new_name ps o ≡ None
none_comes [] o e = refl
none_comes (a ∷ rest) o e = by (is_name a.1 o) refl (none_comes rest o) e
  where
    by : (b : Bool) → is_name a.1 o ≡ b → (comes_from rest o ≡ false → new_name rest o ≡ None) → (if b then true else comes_from rest o) ≡ false → new_name (a ∷ rest) o ≡ None
    by true q k f = cc
    by false q k f = ap (λ x. or_this x a o) (k f) ∙ ap (λ b. if b then Some a.0 else None) q

comes_none : (ps : Pairs) (o : List ℕ) → new_name ps o ≡ None → comes_from ps o ≡ false
comes_none [] o e = refl
comes_none (a ∷ rest) o e = by (new_name rest o) refl (comes_none rest o) e
  where
    last : (b : Bool) → comes_from rest o ≡ false → (if b then Some a.0 else None) ≡ None → (if b then true else comes_from rest o) ≡ false
    last true k f = cc
    last false k f = k

    by : (x : Option (List ℕ)) → new_name rest o ≡ x → (new_name rest o ≡ None → comes_from rest o ≡ false) → or_this x a o ≡ None → comes_from (a ∷ rest) o ≡ false
    by None q k f = last (is_name a.1 o) (k q) f
    by (Some g) q k f = cc

new_has : (ps : Pairs) (o f : List ℕ) → new_name ps o ≡ Some f → has_name ps f ≡ true
new_has [] o f e = cc
new_has (a ∷ rest) o f e = by (new_name rest o) refl (new_has rest o f) e
  where
    more : (b : Bool) → has_name rest f ≡ true → (if b then true else has_name rest f) ≡ true
    more true h = refl
    more false h = h

    by : (x : Option (List ℕ)) → new_name rest o ≡ x → (new_name rest o ≡ Some f → has_name rest f ≡ true) → or_this x a o ≡ Some f → has_name (a ∷ rest) f ≡ true
    by (Some g) q k h = more (same a.0 f) (k (q ∙ h))
    by None q k h = let p = passed (is_name a.1 o) a.0 f h in ap (λ b. if b then true else has_name rest f) (eq-same a.0 f p.1)

later_none : (rest : Pairs) (x : Option (List ℕ)) (o : List ℕ) → unless_later rest x ≡ Some o → (x ≡ Some o) × (comes_from rest o ≡ false)
later_none rest None o e = cc
later_none rest (Some q) o e = by (comes_from rest q) refl e
  where
    by : (b : Bool) → comes_from rest q ≡ b → (if b then None else Some q) ≡ Some o → (Some q ≡ Some o) × (comes_from rest o ≡ false)
    by true k h = cc
    by false k h = let d : q ≡ o = cc in (ap Some d, subst (λ y. comes_from rest y ≡ false) d k)

pub old_new : (ps : Pairs) (f o : List ℕ) → old_name ps f ≡ Some o → new_name ps o ≡ Some f
old_new [] f o e = cc
old_new (a ∷ rest) f o e = by (same a.0 f) refl (old_new rest f o) e
  where
    by : (b : Bool) → same a.0 f ≡ b → (old_name rest f ≡ Some o → new_name rest o ≡ Some f) → (if b then unless_later rest a.1 else old_name rest f) ≡ Some o → new_name (a ∷ rest) o ≡ Some f
    by true q k h =
        let l = later_none rest a.1 o h in
        ap (λ x. or_this x a o) (none_comes rest o l.1) ∙ ap (λ b. if b then Some a.0 else None) (is_named a.1 o l.0) ∙ ap Some (same-true a.0 f q)
    by false q k h = ap (λ x. or_this x a o) (k h)

pub new_old : (ps : Pairs) (f o : List ℕ) → Once ps → new_name ps o ≡ Some f → old_name ps f ≡ Some o
new_old [] f o u e = cc
new_old (a ∷ rest) f o u e = by (new_name rest o) refl (new_old rest f o u.1) e
  where
    apart : (b : Bool) → same a.0 f ≡ b → has_name rest f ≡ true → old_name rest f ≡ Some o → (if b then unless_later rest a.1 else old_name rest f) ≡ Some o
    apart true q h k =
        let d = same-true a.0 f q in
        let t : has_name rest f ≡ false = subst (λ y. has_name rest y ≡ false) d u.0 in
        cc
    apart false q h k = k

    by : (x : Option (List ℕ)) → new_name rest o ≡ x → (new_name rest o ≡ Some f → old_name rest f ≡ Some o) → or_this x a o ≡ Some f → old_name (a ∷ rest) f ≡ Some o
    by (Some g) q k h = apart (same a.0 f) refl (new_has rest o f (q ∙ h)) (k (q ∙ h))
    by None q k h =
        let p = passed (is_name a.1 o) a.0 f h in
        ap (λ b. if b then unless_later rest a.1 else old_name rest f) (eq-same a.0 f p.1)
        ∙ ap (λ x. unless_later rest x) (named a.1 o p.0)
        ∙ ap (λ b. if b then None else Some o) (comes_none rest o q)

-- ---- fields

field_has : (fs : Fields) (k : ℕ) (n : List ℕ) → field_name fs k ≡ Some n → has_field fs n ≡ true
field_has no_fields k n e = cc
field_has (field_then v sh fs) zero n e = let d : v.name ≡ n = cc in ap (λ b. if b then true else has_field fs n) (eq-same v.name n d)
field_has (field_then v sh fs) (suc k) n e = by (same v.name n) (field_has fs k n e)
  where
    by : (b : Bool) → has_field fs n ≡ true → (if b then true else has_field fs n) ≡ true
    by true h = refl
    by false h = h

pub name_number : (fs : Fields) (k : ℕ) (n : List ℕ) → DistinctFields fs → field_name fs k ≡ Some n → field_number fs n ≡ Some k
name_number no_fields k n d e = cc
name_number (field_then v sh fs) zero n d e = let q : v.name ≡ n = cc in ap (λ b. if b then Some 0 else option_map suc (field_number fs n)) (eq-same v.name n q)
name_number (field_then v sh fs) (suc k) n d e = by (same v.name n) refl (name_number fs k n d.2 e)
  where
    by : (b : Bool) → same v.name n ≡ b → field_number fs n ≡ Some k → (if b then Some 0 else option_map suc (field_number fs n)) ≡ Some (suc k)
    by true q h =
        let x : has_field fs n ≡ false = subst (λ y. has_field fs y ≡ false) (same-true v.name n q) d.0 in
        let y = field_has fs k n e in
        cc
    by false q h = ap (option_map suc) h

pub number_name : (fs : Fields) (k : ℕ) (n : List ℕ) → field_number fs n ≡ Some k → field_name fs k ≡ Some n
number_name no_fields k n e = cc
number_name (field_then v sh fs) k n e = by (same v.name n) refl (λ j. number_name fs j n) e
  where
    by : (b : Bool) → same v.name n ≡ b → ((j : ℕ) → field_number fs n ≡ Some j → field_name fs j ≡ Some n) → (if b then Some 0 else option_map suc (field_number fs n)) ≡ Some k → field_name (field_then v sh fs) k ≡ Some n
    by true q go h = let z : 0 ≡ k = cc in subst (λ j. field_name (field_then v sh fs) j ≡ Some n) z (ap Some (same-true v.name n q))
    by false q go h =
        let a = mapped_some suc (field_number fs n) k h in
        subst (λ j. field_name (field_then v sh fs) j ≡ Some n) a.2 (go a.0 a.1)

-- ---- regions

region_has : (xs : List Region) (k : ℕ) (n : List ℕ) → option_map (λ x. x.variable.name) (slice_get xs k) ≡ Some n → has_region xs n ≡ true
region_has [] k n e = cc
region_has (x ∷ xs) zero n e = let d : x.variable.name ≡ n = cc in ap (λ b. if b then true else has_region xs n) (eq-same x.variable.name n d)
region_has (x ∷ xs) (suc k) n e = by (same x.variable.name n) (region_has xs k n e)
  where
    by : (b : Bool) → has_region xs n ≡ true → (if b then true else has_region xs n) ≡ true
    by true h = refl
    by false h = h

pub region_number_of : (xs : List Region) (k : ℕ) (n : List ℕ) → DistinctRegions xs → option_map (λ x. x.variable.name) (slice_get xs k) ≡ Some n → first_place n (names_of_regions xs) ≡ Some k
region_number_of [] k n d e = cc
region_number_of (x ∷ xs) zero n d e = let q : x.variable.name ≡ n = cc in ap (λ b. if b then Some 0 else option_map suc (first_place n (names_of_regions xs))) (eq-same x.variable.name n q)
region_number_of (x ∷ xs) (suc k) n d e = by (same x.variable.name n) refl (region_number_of xs k n d.1 e)
  where
    by : (b : Bool) → same x.variable.name n ≡ b → first_place n (names_of_regions xs) ≡ Some k → (if b then Some 0 else option_map suc (first_place n (names_of_regions xs))) ≡ Some (suc k)
    by true q h =
        let y : has_region xs n ≡ false = subst (λ z. has_region xs z ≡ false) (same-true x.variable.name n q) d.0 in
        let w = region_has xs k n e in
        cc
    by false q h = ap (option_map suc) h

pub region_name_of : (xs : List Region) (k : ℕ) (n : List ℕ) → first_place n (names_of_regions xs) ≡ Some k → option_map (λ x. x.variable.name) (slice_get xs k) ≡ Some n
region_name_of [] k n e = cc
region_name_of (x ∷ xs) k n e = by (same x.variable.name n) refl (λ j. region_name_of xs j n) e
  where
    by : (b : Bool) → same x.variable.name n ≡ b → ((j : ℕ) → first_place n (names_of_regions xs) ≡ Some j → option_map (λ x. x.variable.name) (slice_get xs j) ≡ Some n) → (if b then Some 0 else option_map suc (first_place n (names_of_regions xs))) ≡ Some k → option_map (λ x. x.variable.name) (slice_get (x ∷ xs) k) ≡ Some n
    by true q go h = let z : 0 ≡ k = cc in subst (λ j. option_map (λ y. y.variable.name) (slice_get (x ∷ xs) j) ≡ Some n) z (ap Some (same-true x.variable.name n q))
    by false q go h =
        let a = mapped_some suc (first_place n (names_of_regions xs)) k h in
        subst (λ j. option_map (λ y. y.variable.name) (slice_get (x ∷ xs) j) ≡ Some n) a.2 (go a.0 a.1)
