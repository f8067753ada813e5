-- Inputs and outputs in images.
use Rattle.std.proofs.Common.{◌≡◌, ◌≤◌, ◌<◌, ◌+◌, ℕ, ℤ, pos, Bool, true, false, List, [], ◌∷◌, Option, Some, None, refl, sym, ap, ◌∙◌, subst, length, arith, map}
use Rattle.std.specs.Prelude.{◌/◌, ◌%◌, slice_get, slice_set, if◌then◌else◌}
use Rattle.std.specs.Option.{option_map}
use Rattle.std.proofs.lemmas.Option.{slice_get-map, slice_get_within}
use Rattle.std.proofs.lemmas.List.{length-map}
use Rattle.st_types.specs.declared.elem.Elem.{Elem}
use Rattle.st_types.specs.Range.{Fits}
use Rattle.plc_num.specs.Wrapping.{wrapped}
use Rattle.mem_image.specs.Image.{written}
use Rattle.undo_image.proofs.TableLaws.{bytes_set}
use Rattle.st_meaning.specs.ProcessImage.{is_bit, bytes_in as bytes_of_width, input_byte, input_number}
use Rattle.st_meaning.proofs.st_frame.OfTypes.{wraps_fit, bit_fits}
use Rattle.undo_image.specs.Undoable.{Undoable, bytes_of, committed_of, bytes_in, committed_in}
use Rattle.task_ports.specs.declared.ports.Port.{Port}
use Rattle.task_ports.specs.Ports.{bytes_or, region_bytes, HasRoom, PortFits, PortsFit, port_input, with_value, latched_one, latched}

-- what is taken of an input fits the variable
pub input_fits : (input : List ℕ) (x : Port) → Fits x.elem (port_input input x)
input_fits input x = by (is_bit x.width)
  where
    by : (b : Bool) → Fits x.elem (if b then pos (input_byte input x.first / x.weight % 2) else wrapped x.elem (pos (input_number input x.first (bytes_of_width x.width))))
    by true = bit_fits x.elem _ (omega arith)
    by false = wraps_fit x.elem _

-- what stands at a place of a table
pub there_bytes : (rs : List (Option Undoable)) (r : ℕ) (u : Undoable) → slice_get rs r ≡ Some (Some u) → region_bytes (bytes_in rs) r ≡ u.bytes
there_bytes rs r u e = ap bytes_or (slice_get-map (option_map bytes_of) rs r ∙ ap (option_map (option_map bytes_of)) e)

pub there_committed : (rs : List (Option Undoable)) (r : ℕ) (u : Undoable) → slice_get rs r ≡ Some (Some u) → region_bytes (committed_in rs) r ≡ u.committed
there_committed rs r u e = ap bytes_or (slice_get-map (option_map committed_of) rs r ∙ ap (option_map (option_map committed_of)) e)

pub value_put : (rs : List (Option Undoable)) (r offset : ℕ) (e : Elem) (v : ℤ) (u w : Undoable) → slice_get rs r ≡ Some (Some u) → w.bytes ≡ written e u.bytes offset v → bytes_in (slice_set rs r (Some w)) ≡ with_value (bytes_in rs) r offset e v
value_put rs r offset e v u w there same =
    bytes_set rs r w (written e (region_bytes (bytes_in rs) r) offset v) (same ∙ ap (λ b. written e b offset v) (sym (there_bytes rs r u there)))

pub room_within : (rs : List (Option Undoable)) (r end : ℕ) → HasRoom (committed_in rs) r end → r < length rs
room_within rs r end h = (let l = slice_get_within (committed_in rs) r (Some (region_bytes (committed_in rs) r)) h.is in let s = length-map rs (option_map committed_of) in omega arith)

nothing_there : (o : Option (Option Undoable)) (image : List ℕ) → option_map (option_map committed_of) o ≡ Some (Some image) → o ≡ Some None → ⊥
nothing_there None image e h = cc
nothing_there (Some None) image e h = cc
nothing_there (Some (Some u)) image e h = cc

pub never_away : (rs : List (Option Undoable)) (r end : ℕ) → HasRoom (committed_in rs) r end → slice_get rs r ≡ Some None → ⊥
never_away rs r end h e = nothing_there (slice_get rs r) (region_bytes (committed_in rs) r) (sym (slice_get-map (option_map committed_of) rs r) ∙ h.is) e

fit_kept : (xs : List Port) (images images' : List (Option (List ℕ))) → images' ≡ images → PortsFit images xs → PortsFit images' xs
fit_kept xs images images' e h = subst (λ is. PortsFit is xs) (sym e) h

-- one input after another
pub record Latching (input : List ℕ) (all : List Port) (before : List (Option (List ℕ))) (left : List Port) (images committed : List (Option (List ℕ))) : Type 0 where
  pub fits : PortsFit committed left
  pub gives : latched left input images ≡ latched all input before

pub latching_fits : (input : List ℕ) (all ps qs : List Port) (before images committed : List (Option (List ℕ))) (x : Port) → Latching input all before ps images committed → ps ≡ x ∷ qs → PortFits committed x
latching_fits input all ps qs before images committed x l e = (subst (PortsFit committed) e l.fits).0

pub latching_next : (input : List ℕ) (all ps qs : List Port) (before images committed images' committed' : List (Option (List ℕ))) (x : Port) → Latching input all before ps images committed → ps ≡ x ∷ qs
    → images' ≡ latched_one input x images → committed' ≡ committed → Latching input all before qs images' committed'
latching_next input all ps qs before images committed images' committed' x l e h k = record {
  fits = fit_kept qs committed committed' k (subst (PortsFit committed) e l.fits).1;
  gives = ap (λ is. latched qs input is) h ∙ sym (ap (λ ys. latched ys input images) e) ∙ l.gives;
}

pub no_ports : (ps : List Port) → length ps ≡ 0 → ps ≡ []
no_ports [] e = refl
no_ports (x ∷ xs) e = absurd (omega arith)

pub latching_ends : (input : List ℕ) (all ps : List Port) (before images committed : List (Option (List ℕ))) → Latching input all before ps images committed → length ps ≡ 0 → images ≡ latched all input before
latching_ends input all ps before images committed l e = sym (ap (λ ys. latched ys input images) (no_ports ps e)) ∙ l.gives
