-- No rule that is broken has the code E17: what is so of the words with which faults are put together.
use Rattle.std.proofs.Common.{◌≡◌, ℕ, suc, Bool, true, false, List, [], ◌∷◌, ◌++◌, sym, ap, ◌∙◌, inl, inr}
use Rattle.std.specs.Prelude.{if◌then◌else◌, flat_map}
use Rattle.plc_text.specs.declared.code.Code.{Code}
use Rattle.plc_text.specs.Code.{is_e17}
use Rattle.st_rules.specs.Faults.{Faults, Breaks, at, when}
use Rattle.st_rules.specs.Numbered.{each_numbered}

abbrev pub NoHook : Faults → Type 0
NoHook [] = Unit {0}
NoHook (f ∷ fs) = (is_e17 f.0 ≡ false) × NoHook fs

-- none of them is of a hook
pub record Usual (faults : Faults) : Type 0 where
  pub each : NoHook faults

pub none : Usual []
none = record { each = tt }

infixl 5 ◌also◌
pub ◌also◌ : {xs ys : Faults} → Usual xs → Usual ys → Usual (xs ++ ys)
◌also◌ {xs = xs} {ys = ys} h k = record { each = by xs h.each }
  where
    by : (zs : Faults) → NoHook zs → NoHook (zs ++ ys)
    by [] g = k.each
    by (z ∷ zs) g = (g.0, by zs g.1)

pub broken : (code : Code) (line : ℕ) → is_e17 code ≡ false → Usual (at code line)
broken code line e = record { each = (e, tt) }

pub if_broken : (b : Bool) (code : Code) (line : ℕ) → is_e17 code ≡ false → Usual (when b code line)
if_broken true code line e = broken code line e
if_broken false code line e = none

pub either : (b : Bool) {xs ys : Faults} → Usual xs → Usual ys → Usual (if b then xs else ys)
either true h k = h
either false h k = k

pub of_each : {X : Type 0} (f : X → Faults) → ((x : X) → Usual (f x)) → (xs : List X) → Usual (flat_map f xs)
of_each f h [] = none
of_each f h (x ∷ xs) = h x also of_each f h xs

pub of_numbered : {X : Type 0} (f : ℕ → X → Faults) → ((n : ℕ) (x : X) → Usual (f n x)) → (n : ℕ) (xs : List X) → Usual (each_numbered f n xs)
of_numbered f h n [] = none
of_numbered f h n (x ∷ xs) = h n x also of_numbered f h (suc n) xs

-- of those that are broken
pub usual : (fs : Faults) (code : Code) (line : ℕ) → Usual fs → Breaks fs code line → is_e17 code ≡ false
usual fs code line h = by fs h.each
  where
    by : (gs : Faults) → NoHook gs → Breaks gs code line → is_e17 code ≡ false
    by [] k b = absurd b
    by (g ∷ gs) k (inl e) = sym (ap (λ f. is_e17 f.0) e) ∙ k.0
    by (g ∷ gs) k (inr b) = by gs k.1 b
