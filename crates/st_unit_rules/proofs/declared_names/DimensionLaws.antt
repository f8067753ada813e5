-- How many arrays lie in one another, by the outermost one.
use Rattle.std.proofs.Common.{◌≡◌, ℕ, ℤ, zero, suc, ◌-◌, ◌<◌, ◌≤◌, Bool, refl, sym, ap, ◌∙◌, arith}
use Rattle.std.specs.Prelude.{nat_lt}
use Rattle.std.proofs.lemmas.Bool.Decides.{nat_tests}
use Rattle.st_types.specs.declared.elem.Elem.{Elem}
use Rattle.st_types.specs.declared.st_type.StType.{StType}
use Rattle.st_types.specs.declared.st_type.StType.TheVariants as type
use Rattle.st_types.specs.declared.st_type.StType.TheOpen.{StType-F}
use Rattle.st_types.specs.declared.st_type.StType.TheFolds.{fold-StType, fold-roll-StType}
use Rattle.st_unit_rules.specs.declared_names.WrittenTypes.{array_depth}

level : StType-F ℕ → ℕ
level (StType-F.Array low high n) = suc n
level _ = zero

unfoldable depth : StType → ℕ
depth t = fold-StType ℕ level t

depth-is : (t : StType) → array_depth t ≡ depth t
unfolding array_depth depth level
depth-is t = refl

depth-Array : (low high : ℤ) (t : StType) → depth (type.Array low high t) ≡ suc (depth t)
unfolding depth level
depth-Array low high t = ap depth (sym (type.rolls-Array low high t)) ∙ fold-roll-StType ℕ level (StType-F.Array low high t)

pub array_depth-Array : (low high : ℤ) (t : StType) → array_depth (type.Array low high t) ≡ suc (array_depth t)
array_depth-Array low high t = depth-is (type.Array low high t) ∙ depth-Array low high t ∙ ap (λ n. suc n) (sym (depth-is t))

pub array_depth-Elementary : (e : Elem) → array_depth (type.Elementary e) ≡ 0
unfolding depth level
array_depth-Elementary e = depth-is (type.Elementary e) ∙ ap depth (sym (type.rolls-Elementary e)) ∙ fold-roll-StType ℕ level (StType-F.Elementary e)

pub array_depth-Enumeration : (n : ℕ) → array_depth (type.Enumeration n) ≡ 0
unfolding depth level
array_depth-Enumeration n = depth-is (type.Enumeration n) ∙ ap depth (sym (type.rolls-Enumeration n)) ∙ fold-roll-StType ℕ level (StType-F.Enumeration n)

pub array_depth-Structure : (n : ℕ) → array_depth (type.Structure n) ≡ 0
unfolding depth level
array_depth-Structure n = depth-is (type.Structure n) ∙ ap depth (sym (type.rolls-Structure n)) ∙ fold-roll-StType ℕ level (StType-F.Structure n)

pub array_depth-Instance : (n : ℕ) → array_depth (type.Instance n) ≡ 0
unfolding depth level
array_depth-Instance n = depth-is (type.Instance n) ∙ ap depth (sym (type.rolls-Instance n)) ∙ fold-roll-StType ℕ level (StType-F.Instance n)

pub array_depth-Reference : (n : ℕ) → array_depth (type.Reference n) ≡ 0
unfolding depth level
array_depth-Reference n = depth-is (type.Reference n) ∙ ap depth (sym (type.rolls-Reference n)) ∙ fold-roll-StType ℕ level (StType-F.Reference n)

pub array_depth-Interface : (n : ℕ) → array_depth (type.Interface n) ≡ 0
unfolding depth level
array_depth-Interface n = depth-is (type.Interface n) ∙ ap depth (sym (type.rolls-Interface n)) ∙ fold-roll-StType ℕ level (StType-F.Interface n)

pub ruleset depths = (array_depth-Elementary, array_depth-Enumeration, array_depth-Structure, array_depth-Instance, array_depth-Reference, array_depth-Interface)

-- an array has room for as many as what it is of has for one fewer
pub room-one : (n most : ℕ) → most ≤ 1 → nat_lt 1 most ≡ nat_lt (suc n) most
room-one n most l = grind (arith, nat_tests)

pub room-more : (n most : ℕ) → 1 < most → nat_lt n (most - 1) ≡ nat_lt (suc n) most
room-more n most l = grind (arith, nat_tests)

-- ---- fewer than so many

pub room-none : (t : StType) (most : ℕ) (x : StType) → x ≡ t → array_depth t ≡ 0 → nat_lt 0 most ≡ nat_lt (array_depth x) most
room-none t most x e h = sym (ap (λ y. nat_lt (array_depth y) most) e ∙ ap (λ n. nat_lt n most) h)

pub room-within : (x of part : StType) (low high : ℤ) (most : ℕ) (b : Bool) → x ≡ type.Array low high of → part ≡ of → 1 < most → b ≡ nat_lt (array_depth part) (most - 1) → b ≡ nat_lt (array_depth x) most
room-within x of part low high most b e g l h =
    h ∙ ap (λ y. nat_lt (array_depth y) (most - 1)) g ∙ room-more (array_depth of) most l ∙ sym (ap (λ y. nat_lt (array_depth y) most) e ∙ ap (λ n. nat_lt n most) (array_depth-Array low high of))

pub room-past : (x of : StType) (low high : ℤ) (most : ℕ) → x ≡ type.Array low high of → most ≤ 1 → nat_lt 1 most ≡ nat_lt (array_depth x) most
room-past x of low high most e l = room-one (array_depth of) most l ∙ sym (ap (λ y. nat_lt (array_depth y) most) e ∙ ap (λ n. nat_lt n most) (array_depth-Array low high of))
