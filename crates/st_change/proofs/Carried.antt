-- What is carried fits its new place, and a store whose regions are carried is good.
use Rattle.std.proofs.Common.{◌≡◌, ◌<◌, ℕ, zero, suc, ◌+◌, ℤ, pos, Bool, true, false, List, [], ◌∷◌, Option, Some, None, refl, sym, ap, ◌∙◌, subst, arith}
use Rattle.std.specs.Prelude.{if◌then◌else◌, ◌&&◌, ◌+ℤ◌, length}
use Rattle.plc_text.specs.Words.{same}
use Rattle.st_types.specs.declared.elem.Elem.{Elem}
use Rattle.st_types.specs.declared.elem.Elem.TheVariants as kind
use Rattle.st_types.specs.Elem.{name as elem_name}
use Rattle.st_types.specs.Range.{Fits}
use Rattle.st_types.specs.declared.st_type.StType.{StType}
use Rattle.st_types.specs.declared.st_type.StType.TheVariants as type
use Rattle.st_values.specs.Program.{Region, Program}
use Rattle.st_values.specs.Value.{Path, Value, number, reference, array, structure, instance, Values, no_values, value_then, Members, no_members, member_then, Store, names_of, ◌>>=◌, element, member, place_of_index}
use Rattle.st_values.specs.Shape.{Shape, Elementary, Enumeration, Reference, Interface, Array, Structure, Instance, Fields, no_fields, field_then, same_elem, same_names, region_shape, path_shape}
use Rattle.st_meaning.specs.st_frame.Good.{Names, Held, Fit, FitAll, FitEach, GoodAt, Good}
use Rattle.st_meaning.proofs.st_frame.Values.{element_fits}
use Rattle.st_change.specs.From.{Pairs, old_name, structure_pairs, class_pairs, same_flag, old_region, new_path}
use Rattle.st_change.specs.Carry.{Old, old_element, old_field, field_before, variable_before, before_by, elementary_before, enumerator_before, shape_conforms, checked, relocated, reference_before, stays, carry, carry_elements, carry_members}
use Rattle.st_change.specs.Counterpart.{kept}
use Rattle.st_change.specs.Change.{region_before, carried_region, carry_regions, carry_store}
use Rattle.st_change.specs.CarryLaws.{OldFits}
use Rattle.st_change.proofs.Names.{same-true}

-- ---- equal names

both : (a b : Bool) → (a && b) ≡ true → (a ≡ true) × (b ≡ true)
both true true e = (refl, refl)
both true false e = cc
both false b e = cc

pub names-true : (xs ys : List (List ℕ)) → same_names xs ys ≡ true → xs ≡ ys
names-true [] [] e = refl
names-true [] (y ∷ ys) e = cc
names-true (x ∷ xs) [] e = cc
names-true (x ∷ xs) (y ∷ ys) e =
    let a = both (same x y) (same_names xs ys) e in
    ap (λ n. n ∷ xs) (same-true x y a.0) ∙ ap (λ ns. y ∷ ns) (names-true xs ys a.1)

-- the kind of a name
abbrev kind_among : List Elem → List ℕ → Elem
kind_among [] n = kind.Bool
kind_among (e ∷ es) n = if same (elem_name e) n then e else kind_among es n

abbrev kinds : List Elem
kinds = kind.Sint ∷ kind.Int ∷ kind.Dint ∷ kind.Lint ∷ kind.Usint ∷ kind.Uint ∷ kind.Udint ∷ kind.Ulint ∷ kind.Byte ∷ kind.Word ∷ kind.Dword ∷ kind.Lword ∷ kind.Time ∷ []

abbrev kind_named : List ℕ → Elem
kind_named n = kind_among kinds n

named_back : (e : Elem) → kind_named (elem_name e) ≡ e
named_back kind.Bool = refl
named_back kind.Sint = refl
named_back kind.Int = refl
named_back kind.Dint = refl
named_back kind.Lint = refl
named_back kind.Usint = refl
named_back kind.Uint = refl
named_back kind.Udint = refl
named_back kind.Ulint = refl
named_back kind.Byte = refl
named_back kind.Word = refl
named_back kind.Dword = refl
named_back kind.Lword = refl
named_back kind.Time = refl

pub elem-true : (d e : Elem) → same_elem d e ≡ true → d ≡ e
elem-true d e h = sym (named_back d) ∙ ap kind_named (same-true (elem_name d) (elem_name e) h) ∙ named_back e

-- ---- parts of an old value

-- each part of an old value fits
pub record PartsFit (p : Program) (part : List ℕ → Old) : Type 0 where
  pub by : (f : List ℕ) → OldFits p (part f)

some_fits : (p : Program) (sh : Shape) (o : Option Value) → ((v : Value) → o ≡ Some v → Fit p sh v) → OldFits p (o >>= λ v. Some (sh, v))
some_fits p sh None h = tt
some_fits p sh (Some v) h = h v refl

at_fits : (p : Program) (n : ℕ) (sh : Shape) (vs : Values) (o : Option ℕ) → FitAll p n sh vs → OldFits p (o >>= λ k. element vs k >>= λ v. Some (sh, v))
at_fits p n sh vs None h = tt
at_fits p n sh vs (Some k) h = some_fits p sh (element vs k) (λ v e. element_fits p n sh vs k v h e)

pub old_element_fits : (p : Program) (o : Old) (i : ℤ) → OldFits p o → OldFits p (old_element o i)
old_element_fits p (Some (Array low n sh, array l vs)) i h = at_fits p n sh vs (place_of_index low i) h.1
old_element_fits p o i h = tt

old_field_fits : (p : Program) (fs : Fields) (ms : Members) (f : List ℕ) → FitEach p fs ms → OldFits p (old_field fs ms f)
old_field_fits p no_fields ms f h = tt
old_field_fits p (field_then v sh fs) no_members f h = absurd h
old_field_fits p (field_then v sh fs) (member_then n w ms) f h = by (same v.name f) (old_field_fits p fs ms f h.2)
  where
    by : (b : Bool) → OldFits p (old_field fs ms f) → OldFits p (if b then Some (sh, w) else old_field fs ms f)
    by true k = h.1
    by false k = k

if_old : (p : Program) (b : Bool) (o : Old) → OldFits p o → OldFits p (if b then o else None)
if_old p true o h = h
if_old p false o h = tt

pub structure_fits : (p : Program) (name : List ℕ) (o : Old) → OldFits p o → PartsFit p (field_before name o)
structure_fits p name (Some (Structure n fs, structure m ms)) h = record { by = λ f. if_old p (same n name) (old_field fs ms f) (old_field_fits p fs ms f h.1) }
structure_fits p name o h = record { by = λ f. tt }

pub instance_fits : (p : Program) (name : List ℕ) (o : Old) → OldFits p o → PartsFit p (variable_before name o)
instance_fits p name (Some (Instance c n fs, instance m ms)) h = record { by = λ f. if_old p (same n name) (old_field fs ms f) (old_field_fits p fs ms f h.1) }
instance_fits p name o h = record { by = λ f. tt }

before_fits : (p : Program) (part : List ℕ → Old) (o : Option (List ℕ)) → PartsFit p part → OldFits p (before_by part o)
before_fits p part None h = tt
before_fits p part (Some o) h = h.by o

-- ---- numbers

elementary_fits : (p : Program) (e : Elem) (o : Old) (z : ℤ) → OldFits p o → Fits e z → Fits e (elementary_before e o z)
elementary_fits p e (Some (Elementary d, number n)) z h f = by (same_elem e d) refl
  where
    by : (b : Bool) → same_elem e d ≡ b → Fits e (if b then n else z)
    by true q = subst (λ x. Fits x n) (sym (elem-true e d q)) h
    by false q = f
elementary_fits p e (Some (Elementary d, reference n)) z h f = absurd h
elementary_fits p e (Some (Elementary d, array l vs)) z h f = absurd h
elementary_fits p e (Some (Elementary d, structure n ms)) z h f = absurd h
elementary_fits p e (Some (Elementary d, instance n ms)) z h f = absurd h
elementary_fits p e o z h f = f

abbrev InList : List (List ℕ) → ℤ → Type 0
InList values z = (k : ℕ) × (z ≡ pos k) × (k < length values)

enumerator_fits : (p : Program) (name : List ℕ) (values : List (List ℕ)) (o : Old) (z : ℤ) → OldFits p o → InList values z → InList values (enumerator_before name values o z)
enumerator_fits p name values (Some (Enumeration n vs, number y)) z h f = by (same n name && same_names vs values) refl
  where
    by : (b : Bool) → (same n name && same_names vs values) ≡ b → InList values (if b then y else z)
    by true q = let a = both (same n name) (same_names vs values) q in subst (λ x. InList x y) (names-true vs values a.1) h
    by false q = f
enumerator_fits p name values (Some (Enumeration n vs, reference y)) z h f = absurd h
enumerator_fits p name values (Some (Enumeration n vs, array l ys)) z h f = absurd h
enumerator_fits p name values (Some (Enumeration n vs, structure m ms)) z h f = absurd h
enumerator_fits p name values (Some (Enumeration n vs, instance m ms)) z h f = absurd h
enumerator_fits p name values o z h f = f

-- ---- references

pub checked_held : (p : Program) (t : StType) (o : Option Path) → Held p t (checked p t o)
checked_held p t None = tt
checked_held p t (Some q) = by (shape_conforms p t (path_shape p q)) refl
  where
    there : (o : Option Shape) → path_shape p q ≡ o → shape_conforms p t o ≡ true → Names p q t
    there (Some (Instance c n fs)) k e = record { class = c; name = n; fields = fs; there = k; meets = e }
    there (Some (Elementary x)) k e = cc
    there (Some (Enumeration n vs)) k e = cc
    there (Some (Reference c n)) k e = cc
    there (Some (Interface i n)) k e = cc
    there (Some (Array low n sh)) k e = cc
    there (Some (Structure n fs)) k e = cc
    there None k e = cc

    by : (b : Bool) → shape_conforms p t (path_shape p q) ≡ b → Held p t (if b then Some q else None)
    by true e = there (path_shape p q) refl e
    by false e = tt

module _ (old new : Program) where
  pub relocated_held : (t : StType) (o : Option Path) → Held new t (relocated old new t o)
  relocated_held t None = tt
  relocated_held t (Some q) = checked_held new t (new_path old new q)

  reference_held : (t : StType) (o : Old) (h : Option Path) → Held new t h → Held new t (reference_before old new t o h)
  reference_held t None h k = k
  reference_held t (Some (Reference c name, reference o)) h k = relocated_held t o
  reference_held t (Some (Interface i name, reference o)) h k = relocated_held t o
  reference_held t (Some x) h k = tt

  -- ---- values

  module _ (keeping : Bool) where
    if_fits : (b : Bool) (sh : Shape) (x y : Value) → Fit new sh x → Fit new sh y → Fit new sh (if b then x else y)
    if_fits true sh x y h k = h
    if_fits false sh x y h k = k

    mutual
      pub carry_fits : (h : Value) (sh : Shape) (o : Old) → OldFits old o → Fit new sh h → Fit new sh (carry old new keeping sh o h)
      carry_fits (number z) (Elementary e) o f g = elementary_fits old e o z f g
      carry_fits (number z) (Enumeration name values) o f g = enumerator_fits old name values o z f g
      carry_fits (reference h) (Reference c name) o f g = reference_held (type.Reference c) o h g
      carry_fits (reference h) (Interface i name) o f g = reference_held (type.Interface i) o h g
      carry_fits (array l hs) (Array low n sh) o f g = (g.0, elements_fit hs n sh o low f g.1)
      carry_fits (structure m hs) (Structure name fs) o f g = (g.0, members_fit hs fs (structure_pairs old new name) (field_before name o) (structure_fits old name o f) g.1)
      carry_fits (instance m hs) (Instance c name fs) o f g = (g.0, members_fit hs fs (class_pairs old new c) (variable_before name o) (instance_fits old name o f) g.1)
      carry_fits h sh o f g = absurd g

      elements_fit : (hs : Values) (n : ℕ) (sh : Shape) (o : Old) (i : ℤ) → OldFits old o → FitAll new n sh hs → FitAll new n sh (carry_elements old new keeping sh o i hs)
      elements_fit no_values zero sh o i f g = tt
      elements_fit no_values (suc n) sh o i f g = absurd g
      elements_fit (value_then h hs) zero sh o i f g = absurd g
      elements_fit (value_then h hs) (suc n) sh o i f g = (carry_fits h sh (old_element o i) (old_element_fits old o i f) g.0, elements_fit hs n sh o (i +ℤ pos 1) f g.1)

      members_fit : (hs : Members) (fs : Fields) (ps : Pairs) (part : List ℕ → Old) → PartsFit old part → FitEach new fs hs → FitEach new fs (carry_members old new keeping fs ps part hs)
      members_fit no_members no_fields ps part f g = tt
      members_fit no_members (field_then v sh fs) ps part f g = absurd g
      members_fit (member_then n h hs) no_fields ps part f g = absurd g
      members_fit (member_then n h hs) (field_then v sh fs) ps part f g = (
        g.0,
        if_fits (stays old new keeping v) sh h (carry old new keeping sh (before_by part (old_name ps v.name)) h) g.1
            (carry_fits h sh (before_by part (old_name ps v.name)) (before_fits old part (old_name ps v.name) f) g.1),
        members_fit hs fs ps part f g.2,
      )

    -- ---- regions

    region_before_fits : (before : Store) (r : ℕ) → Good old before → OldFits old (region_before old new before r)
    region_before_fits before r g = by (old_region old new r)
      where
        held : (o : ℕ) (x : Option Shape) → region_shape old o ≡ x → OldFits old (x >>= λ sh. member before o >>= λ v. Some (sh, v))
        held o None e = tt
        held o (Some sh) e =
            some_fits old sh (member before o) (λ v k.
            let h = (g.each o).by sh e in
            let d : h.0 ≡ v = let z = h.1 in cc in
            subst (Fit old sh) d h.2)

        by : (o : Option ℕ) → OldFits old (o >>= λ q. region_shape old q >>= λ sh. member before q >>= λ v. Some (sh, v))
        by None = tt
        by (Some o) = held o (region_shape old o) refl

    carried_fits : (before : Store) (r : ℕ) (sh : Shape) (x : Region) (h : Value) → Good old before → Fit new sh h → Fit new sh (carried_region old new keeping (Some sh) x (region_before old new before r) h)
    carried_fits before r sh x h b g =
        if_fits (stays old new keeping x.variable) sh h (carry old new keeping sh (region_before old new before r) h) g
        (carry_fits h sh (region_before old new before r) (region_before_fits before r b) g)

    names_same : (xs : List Region) (before held : Store) (r : ℕ) → names_of (carry_regions old new keeping before r xs held) ≡ names_of held
    names_same xs before no_members r = refl
    names_same [] before (member_then n h hs) r = refl
    names_same (x ∷ xs) before (member_then n h hs) r = ap (λ ns. n ∷ ns) (names_same xs before hs (suc r))

    -- what one region is carried to
    abbrev now_there : Store → ℕ → Region → Value → Value
    now_there before r x h = if same_flag keeping (kept old new r) then carried_region old new keeping (region_shape new r) x (region_before old new before r) h else h

    -- one region is good, where those before it are so many
    one_good : (before : Store) (r : ℕ) (x : Region) (h : Value) → Good old before → GoodAt new (region_shape new r) (Some h) → GoodAt new (region_shape new r) (Some (now_there before r x h))
    one_good before r x h b g = record { by = λ sh e. by sh e (g.by sh e) }
      where
        by : (sh : Shape) → region_shape new r ≡ Some sh → ((v : Value) × (Some h ≡ Some v) × Fit new sh v) → (v : Value) × (Some (now_there before r x h) ≡ Some v) × Fit new sh v
        by sh e k =
            let d : k.0 ≡ h = let z = k.1 in cc in
            let f : Fit new sh h = subst (Fit new sh) d k.2 in (
              now_there before r x h,
              refl,
              if_fits (same_flag keeping (kept old new r)) sh (carried_region old new keeping (region_shape new r) x (region_before old new before r) h) h
                  (subst (λ o. Fit new sh (carried_region old new keeping o x (region_before old new before r) h)) (sym e) (carried_fits before r sh x h b f))
                  f,
            )

    regions_good : (xs : List Region) (before held : Store) (r k m : ℕ) → m ≡ r + k → Good old before → GoodAt new (region_shape new m) (member held k) → GoodAt new (region_shape new m) (member (carry_regions old new keeping before r xs held) k)
    regions_good xs before no_members r k m e b g = g
    regions_good [] before (member_then n h hs) r k m e b g = g
    regions_good (x ∷ xs) before (member_then n h hs) r zero m e b g =
        let d : r ≡ m = omega arith in
        subst (λ i. GoodAt new (region_shape new i) (Some (now_there before r x h))) d
        (one_good before r x h b (subst (λ i. GoodAt new (region_shape new i) (Some h)) (sym d) g))
    regions_good (x ∷ xs) before (member_then n h hs) r (suc k) m e b g = regions_good xs before hs (suc r) k m (omega arith) b g

    pub store_good : (before held : Store) → Good old before → Good new held → Good new (carry_store old new keeping before held)
    store_good before held b g = record {
      regions = names_same new.regions before held 0 ∙ g.regions;
      each = λ r. regions_good new.regions before held 0 r r (omega arith) b (g.each r);
    }
