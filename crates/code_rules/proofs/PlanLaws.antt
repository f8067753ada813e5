-- The plan of a routine: where its locals lie.
use Rattle.std.proofs.Common.{◌≡◌, ℕ, zero, suc, ◌+◌, List, [], ◌∷◌, Option, Some, ap}
use Rattle.std.specs.Prelude.{slice_get}
use Rattle.st_values.specs.Program.{Variable, Program}
use Rattle.st_meaning.specs.Call.{is_in_out}
use Rattle.code_rules.specs.declared.local.LocalPlace.{LocalPlace}
use Rattle.code_rules.specs.Places.{width, local_offset}
use Rattle.code_rules.specs.Plan.{local_places}

pub place_found : (p : Program) (vs : List Variable) (offset n : ℕ) (v : Variable) → slice_get vs n ≡ Some v → slice_get (local_places p offset vs) n ≡ Some (record { offset = local_offset p offset vs n; in_out = is_in_out v.sort })
place_found p [] offset n v e = cc
place_found p (w ∷ vs) offset zero v e = ap at (first w v e)
  where
    at : Variable → Option LocalPlace
    at x = Some (record { offset = offset; in_out = is_in_out x.sort })

    first : (a b : Variable) → Some a ≡ Some b → a ≡ b
    first a b e = cc
place_found p (w ∷ vs) offset (suc n) v e = place_found p vs (offset + width p w) n v e
