-- The declarations of a unit beside what it says of them: a name means the declaration in its place.
use Rattle.std.proofs.Common.{◌≡◌, ℕ, suc, ◌+◌, Bool, true, false, List, [], ◌∷◌, ◌++◌, Option, Some, None, refl, sym, ap, ◌∙◌, subst, arith, inl, inr}
use Rattle.std.specs.Prelude.{if◌then◌else◌, flat_map, filter_map, slice_get, ◌&&◌}
use Rattle.std.proofs.lemmas.Bool.{eq-eqb}
use Rattle.std.specs.Prelude.{nat_eq}
use Rattle.plc_text.specs.Words.{same}
use Rattle.st_rules.specs.Chains.{is_among}
use Rattle.st_rules.specs.Scope.{first_named}
use Rattle.st_rules.proofs.Booleans.{either, or-first, or-second, some-same, false≢true}
use Rattle.st_unit_rules.specs.declared_names.Declarations.{Declaration, name_of}
use Rattle.st_unit_rules.specs.Cycles.{place_from}
use Rattle.resolution_order.specs.told_laws.ToldLaws.{Every}

pub chosen : {X : Type 0} (b : Bool) (x y : X) → b ≡ true → (if b then x else y) ≡ x
chosen true x y e = refl
chosen false x y e = absurd (cc)

pub not-chosen : {X : Type 0} (b : Bool) (x y : X) → b ≡ false → (if b then x else y) ≡ y
not-chosen true x y e = absurd (cc)
not-chosen false x y e = refl

module _ {X : Type 0} (test : Declaration → Bool) (named : X → List ℕ) (R : Declaration → X → Type 0) where
  -- each declaration that passes has its row
  pub data Rows : List Declaration → List X → Type 0 where
    no_rows : Rows [] []
    skips : (d : Declaration) (ds : List Declaration) (xs : List X) → test d ≡ false → Rows ds xs → Rows (d ∷ ds) xs
    takes : (d : Declaration) (ds : List Declaration) (x : X) (xs : List X) → test d ≡ true → (name_of d).text ≡ named x → R d x → Rows ds xs → Rows (d ∷ ds) (x ∷ xs)

  pub rows-append : (ds es : List Declaration) (xs ys : List X) → Rows ds xs → Rows es ys → Rows (ds ++ es) (xs ++ ys)
  rows-append _ es _ ys no_rows k = k
  rows-append _ es _ ys (skips d ds xs e h) k = skips d (ds ++ es) (xs ++ ys) e (rows-append ds es xs ys h k)
  rows-append _ es _ ys (takes d ds x xs e n r h) k = takes d (ds ++ es) x (xs ++ ys) e n r (rows-append ds es xs ys h k)

  pub rows-skip : (ds : List Declaration) → Every (λ d. test d ≡ false) ds → Rows ds []
  rows-skip [] h = no_rows
  rows-skip (d ∷ ds) h = skips d ds [] h.0 (rows-skip ds h.1)

  -- the declaration that a name means
  pub record Row (ds : List Declaration) (n : ℕ) (name : List ℕ) (x : X) : Type 0 where
    pub place : ℕ
    pub declaration : Declaration
    pub there : slice_get ds place ≡ Some declaration
    pub found : place_from test name n ds ≡ Some (n + place)
    pub row : R declaration x

  onward : (d : Declaration) (ds : List Declaration) (n : ℕ) (name : List ℕ) (x : X) → (test d && same (name_of d).text name) ≡ false → Row ds (suc n) name x → Row (d ∷ ds) n name x
  onward d ds n name x e r =
      let q : suc n + r.place ≡ n + suc r.place = omega arith in
      record { place = suc r.place; declaration = r.declaration; there = r.there; found = not-chosen (test d && same (name_of d).text name) _ _ e ∙ r.found ∙ ap Some q; row = r.row }

  pub row-found : (ds : List Declaration) (xs : List X) (n : ℕ) (name : List ℕ) (x : X) → Rows ds xs → first_named named name xs ≡ Some x → Row ds n name x
  row-found _ _ n name x no_rows h = absurd (cc)
  row-found _ _ n name x (skips d ds xs e k) h = onward d ds n name x (ap (λ b. b && same (name_of d).text name) e) (row-found ds xs (suc n) name x k h)
  row-found _ _ n name x (takes d ds y xs e m r k) h = by (row-found ds xs (suc n) name x k) (same (named y) name) refl h
    where
      tests : (test d && same (name_of d).text name) ≡ same (named y) name
      tests = ap (λ b. b && same (name_of d).text name) e ∙ ap (λ t. same t name) m

      by : (first_named named name xs ≡ Some x → Row ds (suc n) name x) → (b : Bool) → same (named y) name ≡ b → (if b then Some y else first_named named name xs) ≡ Some x → Row (d ∷ ds) n name x
      by later true q h =
          let z : n ≡ n + 0 = omega arith in
          record { place = 0; declaration = d; there = refl; found = chosen (test d && same (name_of d).text name) _ _ (tests ∙ q) ∙ ap Some z; row = subst (R d) (some-same h) r }
      by later false q h = onward d ds n name x (tests ∙ q) (later h)

-- ---- needs by name

abbrev pub put : Option ℕ → List ℕ → List ℕ
put None xs = xs
put (Some x) xs = x ∷ xs

pub added-first : (k : ℕ) (o : Option ℕ) (xs : List ℕ) → o ≡ Some k → is_among k (put o xs) ≡ true
added-first k None xs e = absurd (cc)
added-first k (Some j) xs e = subst (λ (x : Option ℕ). is_among k (put x xs) ≡ true) (sym e) (or-first (nat_eq k k) (is_among k xs) (eq-eqb k k refl))

added-behind : (k : ℕ) (o : Option ℕ) (xs : List ℕ) → is_among k xs ≡ true → is_among k (put o xs) ≡ true
added-behind k None xs h = h
added-behind k (Some j) xs h = or-second (nat_eq k j) (is_among k xs) h

pub among_front : (k : ℕ) (xs ys : List ℕ) → is_among k xs ≡ true → is_among k (xs ++ ys) ≡ true
among_front k [] ys h = absurd (false≢true h)
among_front k (x ∷ xs) ys h = elim (either (nat_eq k x) (is_among k xs) h) [
  | inl p ↦ or-first (nat_eq k x) (is_among k (xs ++ ys)) p
  | inr p ↦ or-second (nat_eq k x) (is_among k (xs ++ ys)) (among_front k xs ys p)
]

pub among_back : (k : ℕ) (xs ys : List ℕ) → is_among k ys ≡ true → is_among k (xs ++ ys) ≡ true
among_back k [] ys h = h
among_back k (x ∷ xs) ys h = or-second (nat_eq k x) (is_among k (xs ++ ys)) (among_back k xs ys h)

-- what is given for the needs of each is given for all
module _ {X : Type 0} (P : ℕ → Type 0) (f : X → List ℕ) (Q : X → Type 0) (means : (x : X) → ((k : ℕ) → is_among k (f x) ≡ true → P k) → Q x) where
  pub by-needs : (xs : List X) → ((k : ℕ) → is_among k (flat_map f xs) ≡ true → P k) → Every Q xs
  by-needs [] h = tt
  by-needs (x ∷ xs) h = (means x (λ k m. h k (among_front k (f x) (flat_map f xs) m)), by-needs xs (λ k m. h k (among_back k (f x) (flat_map f xs) m)))

-- what holds of all needs holds of each name's
pub by-name : (P : ℕ → Type 0) (f : List ℕ → Option ℕ) (names : List (List ℕ)) → ((k : ℕ) → is_among k (filter_map f names) ≡ true → P k) → Every (λ name. (k : ℕ) → f name ≡ Some k → P k) names
by-name P f [] h = tt
by-name P f (name ∷ names) h = (λ k e. h k (added-first k (f name) (filter_map f names) e), by-name P f names (λ k m. h k (added-behind k (f name) (filter_map f names) m)))

module _ {X : Type 0} (test : Declaration → Bool) (named : X → List ℕ) (R : Declaration → X → Type 0) (S : Declaration → Type 0) (Q : X → Type 0) (means : (d : Declaration) (x : X) → R d x → S d → Q x) where
  -- what each declaration has, its row has
  pub rows-every : (ds : List Declaration) (xs : List X) → Rows test named R ds xs → Every S ds → Every Q xs
  rows-every _ _ no_rows h = tt
  rows-every _ _ (skips d ds xs e k) h = rows-every ds xs k h.1
  rows-every _ _ (takes d ds x xs e n r k) h = (means d x r h.0, rows-every ds xs k h.1)
