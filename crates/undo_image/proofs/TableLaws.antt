-- Tables of images, of which one changes.
use Rattle.std.proofs.Common.{◌≡◌, ℕ, List, Option, Some, None, sym, ap, ◌∙◌}
use Rattle.std.specs.Prelude.{slice_get, slice_set}
use Rattle.std.specs.Option.{option_map}
use Rattle.std.proofs.lemmas.Option.{get_or_from_slice_get, slice_get-map}
use Rattle.std.proofs.lemmas.List.{map-set, set-get_or}
use Rattle.undo_image.specs.Undoable.{Undoable, bytes_of, committed_of, bytes_in, committed_in}

pub bytes_set : (rs : List (Option Undoable)) (i : ℕ) (u : Undoable) (image : List ℕ) → u.bytes ≡ image → bytes_in (slice_set rs i (Some u)) ≡ slice_set (bytes_in rs) i (Some image)
bytes_set rs i u image e = map-set (option_map bytes_of) rs i (Some u) ∙ ap (λ b. slice_set (bytes_in rs) i (Some b)) e

pub committed_set : (rs : List (Option Undoable)) (i : ℕ) (u v : Undoable) → slice_get rs i ≡ Some (Some v) → u.committed ≡ v.committed → committed_in (slice_set rs i (Some u)) ≡ committed_in rs
committed_set rs i u v is e =
    let there : slice_get (committed_in rs) i ≡ Some (Some v.committed) = slice_get-map (option_map committed_of) rs i ∙ ap (option_map (option_map committed_of)) is in
    map-set (option_map committed_of) rs i (Some u) ∙ ap (λ c. slice_set (committed_in rs) i (Some c)) e
    ∙ ap (slice_set (committed_in rs) i) (sym (get_or_from_slice_get (committed_in rs) i (Some v.committed) None there)) ∙ set-get_or (committed_in rs) i None
