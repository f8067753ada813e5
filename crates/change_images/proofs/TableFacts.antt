-- The table of ways finds what is found by offsets.
use Rattle.std.proofs.Common.{◌≡◌, ◌<◌, ℕ, zero, suc, ◌+◌, ◌/◌, ◌%◌, ℤ, pos, Bool, true, false, List, Option, Some, None, refl, sym, ap, ◌∙◌, subst, arith}
use Rattle.std.specs.Prelude.{nat_lt, if◌then◌else◌, slice_get, unsigned_abs}
use Rattle.std.proofs.lemmas.Bool.{lt-ltb}
use Rattle.std.proofs.lemmas.Int.{ints}
use Rattle.st_types.specs.declared.elem.Elem.TheVariants.{Ulint}
use Rattle.st_types.specs.Range.{Fits}
use Rattle.st_types.specs.declared.st_type.StType.{StType}
use Rattle.st_values.specs.Program.{Program, conforms}
use Rattle.st_values.specs.Value.{Path, ◌>>=◌}
use Rattle.st_values.specs.Shape.{Shape, region_shape}
use Rattle.mem_layout.specs.store_bytes.Place.{kept}
use Rattle.st_change.specs.From.{new_region}
use Rattle.st_change.specs.Carry.{relocated}
use Rattle.st_change.specs.Laws.{NamesDiffer}
use Rattle.image_moves.specs.Ways.{Found, Way, led}
use Rattle.image_moves.specs.WayViews.{way_of}
use Rattle.image_moves.specs.declared.table.Target.{Target}
use Rattle.image_moves.specs.Table.{may_go, kept_word, word_at, word_from}
use Rattle.image_moves.specs.Table as table
use Rattle.carry_moves.specs.Addresses.{IsAddressOf, IsAim, Relocates}
use Rattle.carry_moves.specs.Found.{found, conforming, word_found, or_null, HasAddresses}
use Rattle.carry_moves.specs.Found as carry
use Rattle.carry_moves.specs.WaysOf.{way}
use Rattle.carry_moves.proofs.Leading.{leads}
use Rattle.carry_moves.proofs.Relocation as relocation
use Rattle.change_images.specs.TableLaws.{target_seen, target_of, IsTable, TableLaws}

abbrev from_seen : (ℕ → Bool) → Option (ℕ × Way) → ℕ → ℕ
from_seen fits None offset = 0
from_seen fits (Some a) offset = word_at fits a.0 (led a.1 offset)

seen_word : (fits : ℕ → Bool) (o : Option (Option Target)) (offset : ℕ) → word_from fits o offset ≡ from_seen fits (target_seen o) offset
seen_word fits (Some (Some t)) offset = refl
seen_word fits (Some None) offset = refl
seen_word fits None offset = refl

module _ (old new : Program) (t : StType) (fits : ℕ → Bool) (same : (c : ℕ) → fits c ≡ conforms new c t) where
  at_found : (r : ℕ) (f : Found) → word_at fits r f ≡ or_null (f >>= conforming old new t r)
  at_found r None = refl
  at_found r (Some x) = ap (λ b. if b then kept_word r x.0 else 0) (same x.1) ∙ by (conforms new x.1 t)
    where
      by : (b : Bool) → (if b then kept_word r x.0 else 0) ≡ or_null (if b then Some (kept r x.0) else None)
      by true = refl
      by false = refl

  target_word : (r offset : ℕ) → from_seen fits (target_of old new r) offset ≡ or_null (word_found old new t r offset)
  target_word r offset = by (new_region old new r)
    where
      new_shape : (n : ℕ) (sh : Shape) (o : Option Shape) → from_seen fits (o >>= λ z. Some (n, way old new sh z)) offset ≡ or_null (o >>= λ z. found old new sh z offset >>= conforming old new t n)
      new_shape n sh None = refl
      new_shape n sh (Some z) = ap (word_at fits n) (leads old new sh z offset) ∙ at_found n (found old new sh z offset)

      old_shape : (n : ℕ) (o : Option Shape) → from_seen fits (o >>= λ sh. region_shape new n >>= λ z. Some (n, way old new sh z)) offset ≡ or_null (o >>= λ sh. region_shape new n >>= λ z. found old new sh z offset >>= conforming old new t n)
      old_shape n None = refl
      old_shape n (Some sh) = new_shape n sh (region_shape new n)

      by : (o : Option ℕ) → from_seen fits (o >>= λ n. region_shape old r >>= λ sh. region_shape new n >>= λ z. Some (n, way old new sh z)) offset
          ≡ or_null (o >>= λ n. region_shape old r >>= λ sh. region_shape new n >>= λ z. found old new sh z offset >>= conforming old new t n)
      by None = refl
      by (Some n) = old_shape n (region_shape old r)

pub relocates : (old new : Program) (aim : StType → ℕ) (aimed : ℕ → StType) (ts : List (Option Target)) (classes : ℕ) (bits : List Bool) → NamesDiffer old → HasAddresses old → HasAddresses new → ((t : StType) → IsAim t → aimed (aim t) ≡ t) → IsTable old new aimed ts classes bits
    → Relocates old new aim (table.address_moved ts classes bits)
relocates old new aim aimed ts classes bits differ few small back is = record { by = by }
  where
    word : (t : StType) (w : ℕ) → Fits Ulint (pos w) → table.word_moved ts classes bits (aim t) w ≡ carry.word_moved old new (aimed (aim t)) w
    word t zero f = refl
    word t (suc w) f =
        let low : w < 18446744073709551616 = omega (arith, ints, f.1) in
        let fits = may_go bits classes (aim t) in
        let r = w / 4294967296 in
        ap (λ b. if b then word_from fits (slice_get ts r) (w % 4294967296) else 0) (lt-ltb w 18446744073709551616 low)
        ∙ seen_word fits (slice_get ts r) (w % 4294967296)
        ∙ ap (λ o. from_seen fits o (w % 4294967296)) (is.targets r)
        ∙ target_word old new (aimed (aim t)) fits (is.fits (aim t)) r (w % 4294967296)

    by : (t : StType) → IsAim t → (o : Option Path) (z : ℤ) → IsAddressOf old o z → IsAddressOf new (relocated old new t o) (table.address_moved ts classes bits (aim t) z)
    by t g o z a =
        let one : table.address_moved ts classes bits (aim t) z ≡ carry.address_moved old new aimed (aim t) z =
        ap (table.address_moved ts classes bits (aim t)) a.is ∙ ap pos (word t a.word a.fits) ∙ sym (ap (carry.address_moved old new aimed (aim t)) a.is) in
        subst (IsAddressOf new (relocated old new t o)) (sym one) ((relocation.relocates old new aim aimed differ few small back).by t g o z a)

pub table_laws : TableLaws
table_laws = record { relocates = relocates }
