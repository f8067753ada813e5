-- Steps of looking up.
use Rattle.std.proofs.Common.{◌≡◌, ◌≤◌, ◌<◌, ℕ, ◌+◌, ◌-◌, Bool, true, false, List, [], ◌∷◌, Option, Some, None, map, refl, sym, ap, subst, ◌∙◌, arith}
use Rattle.std.specs.Prelude.{nat_lt, if◌then◌else◌}
use Rattle.std.proofs.lemmas.Bool.{lt-ltb, ltb-true}
use Rattle.image_moves.specs.declared.ways.Part.{Part}
use Rattle.image_moves.specs.Ways.{Found, led, led_in, further, IsLow}
use Rattle.image_moves.specs.WayViews.{way_of, parts_of, listed, piece_of, piece-is}

part_step : (p : Part) (ps : List Part) (x : ℕ) → led_in (parts_of (p ∷ ps)) x ≡ (if nat_lt x p.end then further p.target (led (way_of p.way) (x - p.start)) else led_in (parts_of ps) x)
part_step p ps x = ap (λ q. led_in (listed (q ∷ map piece_of ps)) x) (piece-is p)

pub part_first : (p : Part) (ps : List Part) (x : ℕ) → x < p.end → led_in (parts_of (p ∷ ps)) x ≡ further p.target (led (way_of p.way) (x - p.start))
part_first p ps x h = part_step p ps x ∙ ap (λ b. if b then further p.target (led (way_of p.way) (x - p.start)) else led_in (parts_of ps) x) (lt-ltb x p.end h)

pub part_later : (p : Part) (ps : List Part) (x : ℕ) → p.end ≤ x → led_in (parts_of (p ∷ ps)) x ≡ led_in (parts_of ps) x
part_later p ps x h = part_step p ps x ∙ by (nat_lt x p.end) refl
  where
    by : (b : Bool) → nat_lt x p.end ≡ b → (if b then further p.target (led (way_of p.way) (x - p.start)) else led_in (parts_of ps) x) ≡ led_in (parts_of ps) x
    by true e = let lt = ltb-true x p.end e in absurd (omega arith)
    by false e = refl

low_inner : (n : ℕ) (f : Found) → IsLow (further n f) → IsLow f
low_inner n None h = tt
low_inner n (Some x) h = omega (arith, h)

pub found_here : (ps rest : List Part) (now : List Part) (p : Part) (x sub : ℕ) (found moved : Found) → led_in (parts_of now) x ≡ led_in (parts_of ps) x → now ≡ p ∷ rest → x < p.end → sub ≡ x - p.start
    → (IsLow (led (way_of p.way) sub) → found ≡ led (way_of p.way) sub) → (IsLow (further p.target found) → moved ≡ further p.target found) → IsLow (led_in (parts_of ps) x) → moved ≡ led_in (parts_of ps) x
found_here ps rest now p x sub found moved inv cons lt s f m low =
    let whole : led_in (parts_of ps) x ≡ further p.target (led (way_of p.way) (x - p.start)) = sym inv ∙ ap (λ (l : List Part). led_in (parts_of l) x) cons ∙ part_first p rest x lt in
    let in_low : IsLow (further p.target (led (way_of p.way) (x - p.start))) = subst IsLow whole low in
    let is : found ≡ led (way_of p.way) (x - p.start) = f (subst (λ k. IsLow (led (way_of p.way) k)) (sym s) (low_inner p.target _ in_low)) ∙ ap (led (way_of p.way)) s in
    m (subst (λ y. IsLow (further p.target y)) (sym is) in_low) ∙ ap (further p.target) is ∙ sym whole

pub found_later : (ps rest : List Part) (now : List Part) (p : Part) (x : ℕ) → led_in (parts_of now) x ≡ led_in (parts_of ps) x → now ≡ p ∷ rest → p.end ≤ x → led_in (parts_of rest) x ≡ led_in (parts_of ps) x
found_later ps rest now p x inv cons le = sym (part_later p rest x le) ∙ sym (ap (λ (l : List Part). led_in (parts_of l) x) cons) ∙ inv
