-- What follows where no rule is broken.
use Rattle.std.proofs.Common.{◌≡◌, ℕ, Bool, true, false, [], ◌∷◌, ◌++◌, refl}
use Rattle.std.specs.Prelude.{not}
use Rattle.plc_text.specs.declared.code.Code.{Code}
use Rattle.st_rules.specs.Faults.{Faults, when}

pub none_in : (xs ys : Faults) → xs ++ ys ≡ [] → (xs ≡ []) × (ys ≡ [])
none_in [] ys e = (refl, e)
none_in (x ∷ xs) ys e = cc

pub not_when : (b : Bool) (code : Code) (line : ℕ) → when b code line ≡ [] → b ≡ false
not_when true code line e = cc
not_when false code line e = refl

pub not_not : (b : Bool) → not b ≡ false → b ≡ true
not_not true h = refl
not_not false h = cc

pub passes : (b : Bool) (code : Code) (line : ℕ) → when (not b) code line ≡ [] → b ≡ true
passes b code line e = not_not b (not_when (not b) code line e)

pub three : (a b c : Faults) → a ++ b ++ c ≡ [] → (a ≡ []) × (b ≡ []) × (c ≡ [])
three a b c h = let last = none_in (a ++ b) c h in let first = none_in a b last.0 in (first.0, first.1, last.1)

pub four : (a b c d : Faults) → a ++ b ++ c ++ d ≡ [] → (a ≡ []) × (b ≡ []) × (c ≡ []) × (d ≡ [])
four a b c d h = let last = none_in (a ++ b ++ c) d h in let t = three a b c last.0 in (t.0, t.1, t.2, last.1)

pub six : (a b c d e f : Faults) → a ++ b ++ c ++ d ++ e ++ f ≡ [] → (a ≡ []) × (b ≡ []) × (c ≡ []) × (d ≡ []) × (e ≡ []) × (f ≡ [])
six a b c d e f h =
    let last = none_in (a ++ b ++ c ++ d ++ e) f h in
    let fifth = none_in (a ++ b ++ c ++ d) e last.0 in
    let t = four a b c d fifth.0 in
    (t.0, t.1, t.2, t.3, fifth.1, last.1)

pub five : (a b c d e : Faults) → a ++ b ++ c ++ d ++ e ≡ [] → (a ≡ []) × (b ≡ []) × (c ≡ []) × (d ≡ []) × (e ≡ [])
five a b c d e h = let last = none_in (a ++ b ++ c ++ d) e h in let t = four a b c d last.0 in (t.0, t.1, t.2, t.3, last.1)

pub seven : (a b c d e f g : Faults) → a ++ b ++ c ++ d ++ e ++ f ++ g ≡ [] → (a ≡ []) × (b ≡ []) × (c ≡ []) × (d ≡ []) × (e ≡ []) × (f ≡ []) × (g ≡ [])
seven a b c d e f g h = let last = none_in (a ++ b ++ c ++ d ++ e ++ f) g h in let t = six a b c d e f last.0 in (t.0, t.1, t.2, t.3, t.4, t.5, last.1)
