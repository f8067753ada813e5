-- The test whether two types are the same decides whether they are equal.
use Rattle.std.proofs.Common.{◌≡◌, ℕ, Bool, List, [], ◌∷◌, Option, Some, refl, sym, ap, ◌∙◌, nat_eq, subst}
use Rattle.std.specs.Prelude.{◌&&◌, ℤ, pos, negsuc, find}
use Rattle.std.specs.Bool.{Decides}
use Rattle.std.specs.Cmp.Lexicographic.{bytes_decides}
use Rattle.std.proofs.lemmas.Bool.{eqb-true, eq-eqb}
use Rattle.plc_text.specs.Words.{same}
use Rattle.st_types.specs.declared.elem.Elem.{Elem}
use Rattle.st_types.specs.declared.elem.Elem.TheVariants as kind
use Rattle.st_types.specs.Elem.{name}
use Rattle.st_types.specs.declared.st_type.StType.{StType, out-StType, roll-StType, out-roll-StType, roll-out-StType}
use Rattle.st_types.specs.declared.st_type.StType.TheOpen.{StType-F, Elementary, Enumeration, Structure, Array, Instance, Reference, Interface}
use Rattle.st_types.specs.declared.st_type.StType.TheFolds.{fold-roll-StType, ind-StType, map-StType}
use Rattle.st_rules.specs.Types.{same_kind, same_number, same_level, same_type}
use Rattle.st_rules.proofs.Booleans.{false≢true, both, and-both}

pub number_decided : (m n : ℕ) → Decides (nat_eq m n) (m ≡ n)
number_decided m n = (eqb-true m n, eq-eqb m n)

kinds : List Elem
kinds = kind.Bool ∷ kind.Sint ∷ kind.Int ∷ kind.Dint ∷ kind.Lint ∷ kind.Usint ∷ kind.Uint ∷ kind.Udint ∷ kind.Ulint ∷ kind.Byte ∷ kind.Word ∷ kind.Dword ∷ kind.Lword ∷ kind.Time ∷ []

kind_named : List ℕ → Option Elem
kind_named n = find (λ k. same (name k) n) kinds

named : (k : Elem) → kind_named (name k) ≡ Some k
unfolding kind_named kinds
named kind.Bool = refl
named kind.Sint = refl
named kind.Int = refl
named kind.Dint = refl
named kind.Lint = refl
named kind.Usint = refl
named kind.Uint = refl
named kind.Udint = refl
named kind.Ulint = refl
named kind.Byte = refl
named kind.Word = refl
named kind.Dword = refl
named kind.Lword = refl
named kind.Time = refl

some-same : {X : Type 0} {x y : X} → Some x ≡ Some y → x ≡ y
some-same h = cc

pub kind_decided : (a b : Elem) → Decides (same_kind a b) (a ≡ b)
kind_decided a b = (
  λ h. some-same (sym (named a) ∙ ap kind_named ((bytes_decides (name a) (name b)).0 h) ∙ named b),
  λ e. (bytes_decides (name a) (name b)).1 (ap name e),
)

pub bound_decided : (a b : ℤ) → Decides (same_number a b) (a ≡ b)
bound_decided (pos m) (pos n) = (λ h. ap pos (eqb-true m n h), λ e. eq-eqb m n (let f : m ≡ n = cc in f))
bound_decided (pos m) (negsuc n) = (λ h. absurd (false≢true h), λ e. absurd (cc))
bound_decided (negsuc m) (pos n) = (λ h. absurd (false≢true h), λ e. absurd (cc))
bound_decided (negsuc m) (negsuc n) = (λ h. ap negsuc (eqb-true m n h), λ e. eq-eqb m n (let f : m ≡ n = cc in f))

-- the test decides for the type of the elements
abbrev Decided : StType → Type 0
Decided a = (b : StType) → Decides (same_type a b) (a ≡ b)

elementary_level : (a : Elem) (f : StType-F StType) → Decides (same_level (Elementary a) f) (Elementary a ≡ f)
elementary_level a (Elementary b) = let d = kind_decided a b in (λ h. ap Elementary (d.0 h), λ e. d.1 (let q : a ≡ b = cc in q))
elementary_level a _ = (λ h. absurd (false≢true h), λ e. absurd (cc))

enumeration_level : (m : ℕ) (f : StType-F StType) → Decides (same_level (Enumeration m) f) (Enumeration m ≡ f)
enumeration_level m (Enumeration n) = (λ h. ap Enumeration (eqb-true m n h), λ e. eq-eqb m n (let q : m ≡ n = cc in q))
enumeration_level m _ = (λ h. absurd (false≢true h), λ e. absurd (cc))

structure_level : (m : ℕ) (f : StType-F StType) → Decides (same_level (Structure m) f) (Structure m ≡ f)
structure_level m (Structure n) = (λ h. ap Structure (eqb-true m n h), λ e. eq-eqb m n (let q : m ≡ n = cc in q))
structure_level m _ = (λ h. absurd (false≢true h), λ e. absurd (cc))

instance_level : (m : ℕ) (f : StType-F StType) → Decides (same_level (Instance m) f) (Instance m ≡ f)
instance_level m (Instance n) = (λ h. ap Instance (eqb-true m n h), λ e. eq-eqb m n (let q : m ≡ n = cc in q))
instance_level m _ = (λ h. absurd (false≢true h), λ e. absurd (cc))

reference_level : (m : ℕ) (f : StType-F StType) → Decides (same_level (Reference m) f) (Reference m ≡ f)
reference_level m (Reference n) = (λ h. ap Reference (eqb-true m n h), λ e. eq-eqb m n (let q : m ≡ n = cc in q))
reference_level m _ = (λ h. absurd (false≢true h), λ e. absurd (cc))

interface_level : (m : ℕ) (f : StType-F StType) → Decides (same_level (Interface m) f) (Interface m ≡ f)
interface_level m (Interface n) = (λ h. ap Interface (eqb-true m n h), λ e. eq-eqb m n (let q : m ≡ n = cc in q))
interface_level m _ = (λ h. absurd (false≢true h), λ e. absurd (cc))

array_level : (low high : ℤ) (a : StType) → Decided a → (f : StType-F StType) → Decides (same_level (Array low high (same_type a)) f) (Array low high a ≡ f)
array_level low high a d (Array low' high' b) = (
  λ h.
      let parts = both (same_number low low' && same_number high high') (same_type a b) h in
      let bounds = both (same_number low low') (same_number high high') parts.0 in
      let p : low ≡ low' = (bound_decided low low').0 bounds.0 in
      let q : high ≡ high' = (bound_decided high high').0 bounds.1 in
      let r : a ≡ b = (d b).0 parts.1 in
      cc,
  λ e.
      let p : low ≡ low' = cc in
      let q : high ≡ high' = cc in
      let r : a ≡ b = cc in
      and-both _ _ (and-both _ _ ((bound_decided low low').1 p) ((bound_decided high high').1 q)) ((d b).1 r),
)
array_level low high a d _ = (λ h. absurd (false≢true h), λ e. absurd (cc))

-- a type of one level more
rolled : (d : StType-F StType) → ((f : StType-F StType) → Decides (same_level (map-StType StType (StType → Bool) same_type d) f) (d ≡ f)) → Decided (roll-StType d)
unfolding same_type
rolled d h b =
    let one = fold-roll-StType (StType → Bool) (λ level c. same_level level (out-StType c)) d in
    let e : same_type (roll-StType d) b ≡ same_level (map-StType StType (StType → Bool) same_type d) (out-StType b) = ap (λ (f : StType → Bool). f b) one in (
      λ t. ap roll-StType ((h (out-StType b)).0 (sym e ∙ t)) ∙ roll-out-StType b,
      λ q. e ∙ (h (out-StType b)).1 (sym (out-roll-StType d) ∙ ap out-StType q),
    )

-- a type is decided where the types of its elements are
step : (d : StType-F StType) (e : StType-F ((a : StType) × Decided a)) → map-StType ((a : StType) × Decided a) StType (λ p. p.0) e ≡ d → Decided (roll-StType d)
step d (Elementary a) q = subst (λ (x : StType-F StType). Decided (roll-StType x)) q (rolled (Elementary a) (elementary_level a))
step d (Enumeration m) q = subst (λ (x : StType-F StType). Decided (roll-StType x)) q (rolled (Enumeration m) (enumeration_level m))
step d (Structure m) q = subst (λ (x : StType-F StType). Decided (roll-StType x)) q (rolled (Structure m) (structure_level m))
step d (Array low high p) q = subst (λ (x : StType-F StType). Decided (roll-StType x)) q (rolled (Array low high p.0) (array_level low high p.0 p.1))
step d (Instance m) q = subst (λ (x : StType-F StType). Decided (roll-StType x)) q (rolled (Instance m) (instance_level m))
step d (Reference m) q = subst (λ (x : StType-F StType). Decided (roll-StType x)) q (rolled (Reference m) (reference_level m))
step d (Interface m) q = subst (λ (x : StType-F StType). Decided (roll-StType x)) q (rolled (Interface m) (interface_level m))

pub type_decided : (a : StType) → Decided a
type_decided a = ind-StType Decided step a
