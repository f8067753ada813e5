-- Steps of relocating.
use Rattle.std.proofs.Common.{◌≡◌, ◌<◌, ◌+◌, ◌*◌, ℕ, Bool, true, false, Option, Some, None, refl, sym, ap, subst, ◌∙◌, arith}
use Rattle.std.specs.Prelude.{nat_lt, slice_get}
use Rattle.std.proofs.lemmas.Bool.{ltb-true}
use Rattle.image_moves.specs.Ways.{Found, led, IsLow}
use Rattle.image_moves.specs.WayViews.{way_of}
use Rattle.image_moves.specs.declared.table.Target.{Target}
use Rattle.image_moves.specs.Table.{is_low, is_low_at, word_at, word_from}

pub low_offset : (found : Found) (offset class : ℕ) → found ≡ Some (offset, class) → is_low found ≡ true → offset < 4294967295
low_offset found offset class e h = ltb-true offset 4294967295 (sym (ap is_low e) ∙ h)

low_is : (f : Found) → is_low f ≡ true → IsLow f
low_is None h = tt
low_is (Some x) h = let lt = ltb-true x.0 4294967295 h in omega (arith, lt)

-- what the way of a target leads to
pub target_low : (o : Option (Option Target)) (t : Target) (offset : ℕ) → o ≡ Some (Some t) → is_low_at o offset ≡ true → is_low (led (way_of t.way) offset) ≡ true
target_low o t offset e h = sym (ap (λ x. is_low_at x offset) e) ∙ h

pub target_found : (o : Option (Option Target)) (t : Target) (offset : ℕ) (found : Found) → o ≡ Some (Some t) → is_low_at o offset ≡ true → (IsLow (led (way_of t.way) offset) → found ≡ led (way_of t.way) offset) → found ≡ led (way_of t.way) offset
target_found o t offset found e h f = f (low_is (led (way_of t.way) offset) (target_low o t offset e h))
