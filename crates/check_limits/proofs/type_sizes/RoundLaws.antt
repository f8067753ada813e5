-- One level of sizes after the other.
use Rattle.std.proofs.Common.{◌≡◌, ℕ, zero, suc, ◌+◌, ◌<◌, ◌≤◌, Bool, true, List, [], ◌∷◌, ◌++◌, Option, Some, None, map, length, get_or, take, refl, sym, ap, ◌∙◌, subst, arith, append-nil, ◌⊎◌, inl, inr}
use Rattle.std.specs.Prelude.{flat_map, filter, slice_get, option_and_then, option_map, ◌||◌}
use Rattle.std.specs.List.{list_any}
use Rattle.std.proofs.lemmas.List.{map-append}
use Rattle.std.proofs.lemmas.List.Elements.{filter-append}
use Rattle.std.proofs.lemmas.List.Folds.{list_any-append}
use Rattle.std.proofs.lemmas.Option.{slice_get_within, slice_get_past}
use Rattle.st_types.specs.declared.st_type.StType.{StType}
use Rattle.st_types.specs.declared.st_type.StType.TheVariants as type
use Rattle.st_rules.specs.declared.names.DeclaredClass.{DeclaredClass}
use Rattle.st_rules.specs.declared.names.DeclaredNames.{DeclaredNames}
use Rattle.st_rules.specs.declared.names.DeclaredVariable.{DeclaredVariable}
use Rattle.st_rules.specs.declared.names.TypeParts.{TypeParts}
use Rattle.st_rules.specs.declared.names.TypeParts.TheVariants as parts
use Rattle.st_rules.specs.Classes.{base_of, chain, class_named}
use Rattle.st_rules.specs.Scope.{Scope, is_of_instance, field_list, parts_of, variables_of}
use Rattle.st_rules.proofs.Booleans.{none≢some, some-same}
use Rattle.st_rules.proofs.ListLaws.{take-at, take-end}
use Rattle.st_rules.proofs.ClassLaws.{bases_within}
use Rattle.st_rules.proofs.ChainLaws.{chain-top}
use Rattle.st_unit_rules.specs.Limits.{field_kinds, has_depth, kinds_told, variable_kinds}
use Rattle.declared_symbols.specs.declared.class_chains.cells.Cell.{Cell}
use Rattle.declared_symbols.specs.declared.class_chains.chains.ClassChains.{ClassChains}
use Rattle.declared_symbols.specs.class_chains.Cells.{Lists, ended, onward, Precedes, total, SameClasses}
use Rattle.check_limits.specs.declared.type_sizes.size.Size.{Size}
use Rattle.check_limits.specs.declared.type_sizes.levels.Level.{Level}
use Rattle.check_limits.specs.type_sizes.Size.{capped, nothing, both, structure, instance}
use Rattle.check_limits.specs.type_sizes.Levels.{values_in, Tells, IsSize, size_in, size_or, structure_in, instance_in, structure_there, instance_there, IsLevel, AreLevels, AreChainsOf, own_kinds}
use Rattle.check_limits.specs.type_sizes.Private.Rounds.{AreStructures, AreOwn, AreTotals, size_there, total_behind, instance_from}
use Rattle.check_limits.proofs.type_sizes.TellLaws.{nothing_tells, both_tell, values_append, structure_size, instance_size, told_append}

-- ---- levels

pub structure_level : (s : Scope) (levels : List Level) (i k : ℕ) → i < length levels → AreLevels s levels → IsSize s (suc i) (structure_there levels i k) (type.Structure k)
structure_level s levels i k l a = at (slice_get levels i) refl
  where
    at : (o : Option Level) → slice_get levels i ≡ o → IsSize s (suc i) (structure_in o k) (type.Structure k)
    at None e = absurd (no_level levels i l e)
      where
        no_level : (ls : List Level) (j : ℕ) → j < length ls → slice_get ls j ≡ None → ⊥
        no_level [] j h e = absurd (omega arith)
        no_level (x ∷ ls) zero h e = none≢some (sym e)
        no_level (x ∷ ls) (suc j) h e = no_level ls j (omega arith) e
    at (Some level) e = (a.each i level e).structures k

pub instance_level : (s : Scope) (levels : List Level) (i c : ℕ) → i < length levels → AreLevels s levels → IsSize s (suc i) (instance_there levels i c) (type.Instance c)
instance_level s levels i c l a = at (slice_get levels i) refl
  where
    at : (o : Option Level) → slice_get levels i ≡ o → IsSize s (suc i) (instance_in o c) (type.Instance c)
    at None e = absurd (no_level levels i l e)
      where
        no_level : (ls : List Level) (j : ℕ) → j < length ls → slice_get ls j ≡ None → ⊥
        no_level [] j h e = absurd (omega arith)
        no_level (x ∷ ls) zero h e = none≢some (sym e)
        no_level (x ∷ ls) (suc j) h e = no_level ls j (omega arith) e
    at (Some level) e = (a.each i level e).instances c

pub get_pushed : {X : Type 0} (xs : List X) (x y : X) (i : ℕ) → slice_get (xs ++ x ∷ []) i ≡ Some y → ((i ≡ length xs) × (y ≡ x)) ⊎ (slice_get xs i ≡ Some y)
get_pushed [] x y zero e = inl (refl, sym (some-same e))
get_pushed [] x y (suc i) e = absurd (none≢some e)
get_pushed (z ∷ xs) x y zero e = inr e
get_pushed (z ∷ xs) x y (suc i) e = elim (get_pushed xs x y i e) [ inl p ↦ inl (ap (λ n. suc n) p.0, p.1) | inr p ↦ inr p ]

pub get_stays : {X : Type 0} (xs ys : List X) (i : ℕ) (x : X) → slice_get xs i ≡ Some x → slice_get (xs ++ ys) i ≡ Some x
get_stays [] ys i x e = absurd (none≢some e)
get_stays (y ∷ xs) ys zero x e = e
get_stays (y ∷ xs) ys (suc i) x e = get_stays xs ys i x e

pub get_last : {X : Type 0} (xs : List X) (x : X) → slice_get (xs ++ x ∷ []) (length xs) ≡ Some x
get_last [] x = refl
get_last (y ∷ xs) x = get_last xs x

pub length_pushed : {X : Type 0} (xs : List X) (x : X) → length (xs ++ x ∷ []) ≡ suc (length xs)
length_pushed [] x = refl
length_pushed (y ∷ xs) x = ap (λ n. suc n) (length_pushed xs x)

-- so many levels were made
pub record LevelsTo (names : DeclaredNames) (chains : ClassChains) (levels : List Level) (n : ℕ) : Type 0 where
  pub long : length levels ≡ n
  pub are : (s : Scope) → s.names ≡ names → AreChainsOf s chains → AreLevels s levels

pub levels_begun : (names : DeclaredNames) (chains : ClassChains) → LevelsTo names chains [] 0
levels_begun names chains = record { long = refl; are = λ s e c. record { each = λ i level h. absurd (none≢some h) } }

pub levels_next : (names : DeclaredNames) (chains : ClassChains) (levels more : List Level) (n : ℕ) (level : Level) → more ≡ levels ++ level ∷ []
    → ((s : Scope) → AreLevels s levels → s.names ≡ names → AreChainsOf s chains → IsLevel s (suc (length levels)) level) → LevelsTo names chains levels n → LevelsTo names chains more (n + 1)
levels_next names chains levels more n level e f t = record {
  long = (let m : suc n ≡ n + 1 = omega arith in ap length e ∙ length_pushed levels level ∙ ap (λ k. suc k) t.long ∙ m);
  are = λ s q c. record { each = λ i x h. at s q c i x (get_pushed levels level x i (sym (ap (λ ls. slice_get ls i) e) ∙ h)) };
}
  where
    at : (s : Scope) → s.names ≡ names → AreChainsOf s chains → (i : ℕ) (x : Level) → ((i ≡ length levels) × (x ≡ level)) ⊎ (slice_get levels i ≡ Some x) → IsLevel s (suc i) x
    at s q c i x (inl p) = subst (λ (y : Level). IsLevel s (suc i) y) (sym p.1) (subst (λ (j : ℕ). IsLevel s (suc j) level) (sym p.0) (f s (t.are s q c) q c))
    at s q c i x (inr p) = (t.are s q c).each i x p

-- ---- things one by one

module _ {X : Type 0} (told : X → Option StType) (passes : X → Bool) where
  abbrev kinds_in : Scope → List X → List StType
  kinds_in s xs = kinds_told s (map told (filter passes xs))

  -- what so many of them have together
  pub record KindsTo (levels : List Level) (xs : List X) (size : Size) (i : ℕ) : Type 0 where
    pub far : (s : Scope) → AreLevels s levels → Tells s (length levels) size (kinds_in s (take i xs))

  pub kinds_begun : (levels : List Level) (xs : List X) (size : Size) → size ≡ nothing → KindsTo levels xs size 0
  kinds_begun levels xs size e = record { far = λ s a. subst (λ (x : Size). Tells s (length levels) x []) (sym e) (nothing_tells s (length levels)) }

  pub kinds_next : (levels : List Level) (xs : List X) (size more : Size) (i : ℕ) (x : X) → i < length xs → x ≡ get_or xs i x
      → ((s : Scope) (ts : List StType) → AreLevels s levels → Tells s (length levels) size ts → Tells s (length levels) more (ts ++ kinds_in s (x ∷ []))) → KindsTo levels xs size i → KindsTo levels xs more (i + 1)
  kinds_next levels xs size more i x l e f t = record {
    far = λ s a.
        subst (λ (ts : List StType). Tells s (length levels) more ts)
        (sym (ap (λ ys. kinds_in s ys) (take-at xs i x l e) ∙ ap (λ ys. kinds_told s (map told ys)) (filter-append passes (take i xs) (x ∷ [])) ∙ ap (λ ks. kinds_told s ks) (map-append told (filter passes (take i xs)) (filter passes (x ∷ []))) ∙ told_append s (map told (filter passes (take i xs))) (map told (filter passes (x ∷ [])))))
        (f s (kinds_in s (take i xs)) a (t.far s a));
  }

  pub kinds_ended : (levels : List Level) (xs : List X) (size : Size) (i : ℕ) → length xs ≤ i → KindsTo levels xs size i → (s : Scope) → AreLevels s levels → Tells s (length levels) size (kinds_in s xs)
  kinds_ended levels xs size i l t s a = subst (λ (ys : List X). Tells s (length levels) size (kinds_in s ys)) (take-end xs i l) (t.far s a)

-- ---- structures and what classes have by themselves

-- sizes of so many of the first
pub record SizesTo {X : Type 0} (Fits : Scope → X → Size → Type 0) (levels : List Level) (xs : List X) (sizes : List Size) (i : ℕ) : Type 0 where
  pub long : length sizes ≡ i
  pub each : (s : Scope) → AreLevels s levels → (k : ℕ) (size : Size) → slice_get sizes k ≡ Some size → (x : X) × (slice_get xs k ≡ Some x) × Fits s x size

get_there : {X : Type 0} (xs : List X) (i : ℕ) (x : X) → i < length xs → x ≡ get_or xs i x → slice_get xs i ≡ Some x
get_there [] i x l e = absurd (omega arith)
get_there (y ∷ xs) zero x l e = ap Some (sym e)
get_there (y ∷ xs) (suc i) x l e = get_there xs i x (omega arith) e

module _ {X : Type 0} (Fits : Scope → X → Size → Type 0) (levels : List Level) (xs : List X) where
  pub sizes_begun : SizesTo Fits levels xs [] 0
  sizes_begun = record { long = refl; each = λ s a k size e. absurd (none≢some e) }

  pub sizes_next : (sizes more : List Size) (i : ℕ) (x : X) (size : Size) → i < length xs → x ≡ get_or xs i x → more ≡ sizes ++ size ∷ [] → ((s : Scope) → AreLevels s levels → Fits s x size) → SizesTo Fits levels xs sizes i → SizesTo Fits levels xs more (i + 1)
  sizes_next sizes more i x size l e q f t = record {
    long = (let m : suc i ≡ i + 1 = omega arith in ap length q ∙ length_pushed sizes size ∙ ap (λ k. suc k) t.long ∙ m);
    each = λ s a k y h. at s a k y (get_pushed sizes size y k (sym (ap (λ zs. slice_get zs k) q) ∙ h));
  }
    where
      at : (s : Scope) → AreLevels s levels → (k : ℕ) (y : Size) → ((k ≡ length sizes) × (y ≡ size)) ⊎ (slice_get sizes k ≡ Some y) → (z : X) × (slice_get xs k ≡ Some z) × Fits s z y
      at s a k y (inl p) = (x, ap (slice_get xs) (p.0 ∙ t.long) ∙ get_there xs i x l e, subst (λ (z : Size). Fits s x z) (sym p.1) (f s a))
      at s a k y (inr p) = t.each s a k y p

-- the size of the fields of a structure
abbrev pub FitsPart : ℕ → Scope → TypeParts → Size → Type 0
FitsPart r s part size = (inner : Size) × (size ≡ structure inner) × Tells s r inner (kinds_told s (map (λ f. f.kind) (field_list part)))

abbrev pub FitsClass : ℕ → Scope → DeclaredClass → Size → Type 0
FitsClass r s class size = Tells s r size (kinds_told s (map (λ v. v.kind) (filter is_of_instance class.variables)))

outside : {X : Type 0} (xs : List X) (k : ℕ) → slice_get xs k ≡ None → length xs ≤ k
outside [] k h = omega arith
outside (x ∷ xs) zero h = absurd (none≢some (sym h))
outside (x ∷ xs) (suc k) h = let o = outside xs k h in omega (arith, o)

get_none : {X : Type 0} (xs : List X) (sizes : List Size) (k i : ℕ) → length sizes ≡ i → length xs ≤ i → slice_get sizes k ≡ None → slice_get xs k ≡ None
get_none xs sizes k i e l n = let o = outside sizes k n in slice_get_past xs k (omega (arith, e, l, o))

abbrev parts_in : Option TypeParts → TypeParts
parts_in None = parts.Nothing
parts_in (Some p) = p

parts_are : (s : Scope) (k : ℕ) → parts_of s k ≡ parts_in (slice_get s.names.parts k)
parts_are s k = refl

part_kinds : (s : Scope) (all : List TypeParts) (k : ℕ) (o : Option TypeParts) → s.names.parts ≡ all → slice_get all k ≡ o → kinds_told s (map (λ f. f.kind) (field_list (parts_in o))) ≡ field_kinds s k
part_kinds s all k o q e = ap (λ p. kinds_told s (map (λ f. f.kind) (field_list p))) (ap parts_in (sym (ap (λ ps. slice_get ps k) q ∙ e)) ∙ sym (parts_are s k))

pub structures_are : (levels : List Level) (all : List TypeParts) (sizes : List Size) (i : ℕ) → length all ≤ i → SizesTo (FitsPart (length levels)) levels all sizes i
    → (s : Scope) → AreLevels s levels → s.names.parts ≡ all → AreStructures s (length levels) sizes
structures_are levels all sizes i l t s a q = record { each = λ k. at k (slice_get sizes k) refl }
  where
    at : (k : ℕ) (o : Option Size) → slice_get sizes k ≡ o → IsSize s (suc (length levels)) (size_in o (structure nothing)) (type.Structure k)
    at k None e =
        structure_size s (length levels) nothing k
        (subst (λ (ts : List StType). Tells s (length levels) nothing ts) (part_kinds s all k None q (get_none all sizes k i t.long l e)) (nothing_tells s (length levels)))
    at k (Some size) e =
        let f = t.each s a k size e in
        subst (λ (x : Size). IsSize s (suc (length levels)) x (type.Structure k)) (sym f.2.1)
        (structure_size s (length levels) f.2.0 k (subst (λ (ts : List StType). Tells s (length levels) f.2.0 ts) (part_kinds s all k (Some f.0) q f.1) f.2.2))

abbrev variables_in : Option DeclaredClass → List DeclaredVariable
variables_in None = []
variables_in (Some class) = class.variables

variables_are : (s : Scope) (b : ℕ) → variables_of s b ≡ variables_in (slice_get s.names.classes b)
variables_are s b = refl

class_kinds : (s : Scope) (classes : List DeclaredClass) (b : ℕ) (o : Option DeclaredClass) → s.names.classes ≡ classes → slice_get classes b ≡ o → kinds_told s (map (λ v. v.kind) (filter is_of_instance (variables_in o))) ≡ own_kinds s b
class_kinds s classes b o q e = ap (λ vs. kinds_told s (map (λ v. v.kind) (filter is_of_instance vs))) (ap variables_in (sym (ap (λ cs. slice_get cs b) q ∙ e)) ∙ sym (variables_are s b))

pub own_are : (levels : List Level) (classes : List DeclaredClass) (sizes : List Size) (i : ℕ) → length classes ≤ i → SizesTo (FitsClass (length levels)) levels classes sizes i
    → (s : Scope) → AreLevels s levels → s.names.classes ≡ classes → AreOwn s (length levels) sizes
own_are levels classes sizes i l t s a q = record { each = λ b. at b (slice_get sizes b) refl }
  where
    at : (b : ℕ) (o : Option Size) → slice_get sizes b ≡ o → Tells s (length levels) (size_in o nothing) (own_kinds s b)
    at b None e = subst (λ (ts : List StType). Tells s (length levels) nothing ts) (class_kinds s classes b None q (get_none classes sizes b i t.long l e)) (nothing_tells s (length levels))
    at b (Some size) e = let f = t.each s a b size e in subst (λ (ts : List StType). Tells s (length levels) size ts) (class_kinds s classes b (Some f.0) q f.1) f.2

-- ---- what classes have together, cell by cell

pub record TotalsTo (own : List Size) (cells : List Cell) (totals : List Size) (n : ℕ) : Type 0 where
  pub long : length totals ≡ n
  pub each : (s : Scope) (r : ℕ) → AreOwn s r own → (i : ℕ) (xs : List ℕ) → i < n → Lists cells (Some i) xs → Tells s r (size_there totals i) (flat_map (own_kinds s) xs)

module _ (own : List Size) (cells : List Cell) where
  pub totals_begun : TotalsTo own cells [] 0
  totals_begun = record { long = refl; each = λ s r a i xs l h. absurd (omega arith) }

  -- what stands behind a cell
  behind : (s : Scope) (r : ℕ) (totals : List Size) (n : ℕ) (o : Option ℕ) (xs : List ℕ) → AreOwn s r own → TotalsTo own cells totals n → Precedes o n → Lists cells o xs → Tells s r (total_behind totals o) (flat_map (own_kinds s) xs)
  behind s r totals n None _ a t p ended = nothing_tells s r
  behind s r totals n (Some i) xs a t p l = t.each s r a i xs p l

  there_still : (totals : List Size) (size : Size) (i : ℕ) → i < length totals → size_there (totals ++ size ∷ []) i ≡ size_there totals i
  there_still [] size i l = absurd (omega arith)
  there_still (x ∷ totals) size zero l = refl
  there_still (x ∷ totals) size (suc i) l = there_still totals size i (omega arith)

  there_last : (totals : List Size) (size : Size) → size_there (totals ++ size ∷ []) (length totals) ≡ size
  there_last totals size = ap (λ o. size_in o nothing) (get_last totals size)

  at_last : (s : Scope) (r : ℕ) (totals : List Size) (n : ℕ) (cell : Cell) (i : ℕ) (xs : List ℕ) → AreOwn s r own → TotalsTo own cells totals n → slice_get cells n ≡ Some cell → i ≡ n → Lists cells (Some i) xs
      → Tells s r (both (size_there own cell.class) (total_behind totals cell.behind)) (flat_map (own_kinds s) xs)
  at_last s r totals n cell _ _ a t e q (onward i other xs f p l) =
      let same : other ≡ cell = some-same (sym f ∙ ap (slice_get cells) q ∙ e) in
      let before : Precedes cell.behind n = subst (λ (m : ℕ). Precedes cell.behind m) q (subst (λ (c : Cell). Precedes c.behind i) same p) in
      let rest : Lists cells cell.behind xs = subst (λ (c : Cell). Lists cells c.behind xs) same l in
      subst (λ (c : Cell). Tells s r (both (size_there own cell.class) (total_behind totals cell.behind)) (own_kinds s c.class ++ flat_map (own_kinds s) xs)) (sym same)
      (both_tell s r (size_there own cell.class) (total_behind totals cell.behind) (own_kinds s cell.class) (flat_map (own_kinds s) xs) (a.each cell.class) (behind s r totals n cell.behind xs a t before rest))

  earlier_or_last : (i n : ℕ) → i < n + 1 → (i < n) ⊎ (i ≡ n)
  earlier_or_last zero zero l = inr refl
  earlier_or_last zero (suc n) l = inl (omega arith)
  earlier_or_last (suc i) zero l = absurd (omega arith)
  earlier_or_last (suc i) (suc n) l = elim (earlier_or_last i n (omega arith)) [ inl p ↦ inl (omega arith) | inr p ↦ inr (ap (λ m. suc m) p) ]

  pub totals_next : (totals more : List Size) (n : ℕ) (cell : Cell) (size : Size) → n < length cells → cell ≡ get_or cells n cell → more ≡ totals ++ size ∷ [] → size ≡ both (size_there own cell.class) (total_behind totals cell.behind)
      → TotalsTo own cells totals n → TotalsTo own cells more (n + 1)
  totals_next totals more n cell size l e q f t = record {
    long = (let m : suc n ≡ n + 1 = omega arith in ap length q ∙ length_pushed totals size ∙ ap (λ k. suc k) t.long ∙ m);
    each = λ s r a i xs b h. subst (λ (zs : List Size). Tells s r (size_there zs i) (flat_map (own_kinds s) xs)) (sym q) (at s r a i xs h (earlier_or_last i n b));
  }
    where
      at : (s : Scope) (r : ℕ) → AreOwn s r own → (i : ℕ) (xs : List ℕ) → Lists cells (Some i) xs → (i < n) ⊎ (i ≡ n) → Tells s r (size_there (totals ++ size ∷ []) i) (flat_map (own_kinds s) xs)
      at s r a i xs h (inl p) = subst (λ (x : Size). Tells s r x (flat_map (own_kinds s) xs)) (sym (there_still totals size i (subst (λ (m : ℕ). i < m) (sym t.long) p))) (t.each s r a i xs p h)
      at s r a i xs h (inr p) =
          let last : size_there (totals ++ size ∷ []) i ≡ size = ap (size_there (totals ++ size ∷ [])) (p ∙ sym t.long) ∙ there_last totals size in
          subst (λ (x : Size). Tells s r x (flat_map (own_kinds s) xs)) (sym (last ∙ f)) (at_last s r totals n cell i xs a t (get_there cells n cell l e) p h)

  pub totals_ended : (totals : List Size) (n : ℕ) → length cells ≤ n → TotalsTo own cells totals n → (s : Scope) (r : ℕ) → AreOwn s r own → AreTotals s r cells totals
  totals_ended totals n l t s r a = record { each = λ i xs h. t.each s r a i xs (within i xs h) h }
    where
      within : (i : ℕ) (xs : List ℕ) → Lists cells (Some i) xs → i < n
      within _ _ (onward i cell xs e p b) = let w = slice_get_within cells i cell e in omega (arith, w, l)

-- ---- instances

module _ (s : Scope) (r : ℕ) where
  sum_by_class : (xs : List ℕ) → values_in s r (flat_map (own_kinds s) xs) ≡ total (λ b. values_in s r (own_kinds s b)) xs
  sum_by_class [] = refl
  sum_by_class (x ∷ xs) = values_append s r (own_kinds s x) (flat_map (own_kinds s) xs) ∙ ap (λ n. values_in s r (own_kinds s x) + n) (sum_by_class xs)

  any_by_class : (p : StType → Bool) (xs : List ℕ) → list_any p (flat_map (own_kinds s) xs) ≡ list_any (λ b. list_any p (own_kinds s b)) xs
  any_by_class p [] = refl
  any_by_class p (x ∷ xs) = list_any-append p (own_kinds s x) (flat_map (own_kinds s) xs) ∙ ap (λ b. list_any p (own_kinds s x) || b) (any_by_class p xs)

  same_tell : (size : Size) (xs ys : List ℕ) → SameClasses xs ys → Tells s r size (flat_map (own_kinds s) xs) → Tells s r size (flat_map (own_kinds s) ys)
  same_tell size xs ys h t = record {
    values-are = t.values-are ∙ ap capped (sum_by_class xs ∙ h.totals (λ b. values_in s r (own_kinds s b)) ∙ sym (sum_by_class ys));
    steps-are = λ n l m.
        any_by_class (has_depth s n) ys ∙ sym (h.any (λ b. list_any (has_depth s n) (own_kinds s b))) ∙ sym (any_by_class (has_depth s n) xs) ∙ t.steps-are n l m;
  }

  kinds_of_all : (bs : List ℕ) → kinds_told s (map (λ v. v.kind) (filter is_of_instance (flat_map (variables_of s) bs))) ≡ flat_map (own_kinds s) bs
  kinds_of_all [] = refl
  kinds_of_all (b ∷ bs) =
      ap (λ vs. kinds_told s (map (λ v. v.kind) vs)) (filter-append is_of_instance (variables_of s b) (flat_map (variables_of s) bs))
      ∙ ap (kinds_told s) (map-append (λ (v : DeclaredVariable). v.kind) (filter is_of_instance (variables_of s b)) (filter is_of_instance (flat_map (variables_of s) bs)))
      ∙ told_append s (map (λ v. v.kind) (filter is_of_instance (variables_of s b))) (map (λ v. v.kind) (filter is_of_instance (flat_map (variables_of s) bs)))
      ∙ ap (λ ts. own_kinds s b ++ ts) (kinds_of_all bs)

  chain_past : (c : ℕ) → length s.classes ≤ c → chain s.classes c ≡ c ∷ []
  unfolding chain
  chain_past c l = chain-top (base_of s.classes) (length s.classes) (bases_within s.classes) c (ap (λ o. option_and_then (λ class. option_and_then (λ base. class_named s.classes base.text) class.base) o) (slice_get_past s.classes c l))

  none_past : (c : ℕ) → length s.names.classes ≤ c → own_kinds s c ≡ []
  none_past c l = ap (λ vs. kinds_told s (map (λ v. v.kind) (filter is_of_instance vs))) (variables_are s c ∙ ap variables_in (slice_get_past s.names.classes c l))

  past : (c : ℕ) → length s.classes ≤ c → length s.names.classes ≤ c → variable_kinds s c ≡ []
  past c l m = kinds_of_all (chain s.classes c) ∙ ap (flat_map (own_kinds s)) (chain_past c l) ∙ append-nil (own_kinds s c) ∙ none_past c m

  get_mapped : {X Y : Type 0} (f : X → Y) (xs : List X) (c : ℕ) (o : Option X) → slice_get xs c ≡ o → slice_get (map f xs) c ≡ option_map f o
  get_mapped f [] c o e = ap (option_map f) e
  get_mapped f (x ∷ xs) zero o e = ap (option_map f) e
  get_mapped f (x ∷ xs) (suc c) o e = get_mapped f xs c o e

  pub instances_are : (chains : ClassChains) (totals sizes : List Size) → AreChainsOf s chains → AreTotals s r chains.cells.items totals → sizes ≡ map (instance_from totals) chains.firsts.items
      → (c : ℕ) → IsSize s (suc r) (size_or sizes c (instance nothing)) (type.Instance c)
  instances_are chains totals sizes a t q c = subst (λ (zs : List Size). IsSize s (suc r) (size_or zs c (instance nothing)) (type.Instance c)) (sym q) (at (slice_get chains.firsts.items c) refl)
    where
      there : (o : Option ℕ) → slice_get chains.firsts.items c ≡ o → size_or (map (instance_from totals) chains.firsts.items) c (instance nothing) ≡ size_in (option_map (instance_from totals) o) (instance nothing)
      there o e = ap (λ x. size_in x (instance nothing)) (get_mapped (instance_from totals) chains.firsts.items c o e)

      at : (o : Option ℕ) → slice_get chains.firsts.items c ≡ o → IsSize s (suc r) (size_or (map (instance_from totals) chains.firsts.items) c (instance nothing)) (type.Instance c)
      at None e =
          let o = outside chains.firsts.items c e in
          let l = a.classes in
          let m = a.declared in
          subst (λ (x : Size). IsSize s (suc r) x (type.Instance c)) (sym (there None e))
          (instance_size s r nothing c (subst (λ (ts : List StType). Tells s r nothing ts) (sym (past c (omega (arith, o, l)) (omega (arith, o, m)))) (nothing_tells s r)))
      at (Some i) e =
          let h = a.are.each c i e in
          subst (λ (x : Size). IsSize s (suc r) x (type.Instance c)) (sym (there (Some i) e))
          (instance_size s r (size_there totals i) c
          (subst (λ (ts : List StType). Tells s r (size_there totals i) ts) (sym (kinds_of_all (chain s.classes c))) (same_tell (size_there totals i) h.list (chain s.classes c) h.same (t.each i h.list h.lists))))

pub filter_all : {X : Type 0} (xs : List X) → filter (λ x. true) xs ≡ xs
filter_all [] = refl
filter_all (x ∷ xs) = ap (λ ys. x ∷ ys) (filter_all xs)

pub get_same : {X : Type 0} (xs : List X) (i : ℕ) (d e : X) → i < length xs → get_or xs i d ≡ get_or xs i e
get_same [] i d e l = absurd (omega arith)
get_same (x ∷ xs) zero d e l = refl
get_same (x ∷ xs) (suc i) d e l = get_same xs i d e (omega arith)
