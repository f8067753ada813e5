-- Where the plan of a routine has its locals.
use Rattle.std.specs.Prelude.{◌≡◌, ℕ, List, Some, slice_get}
use Rattle.st_values.specs.Program.{Variable, Program}
use Rattle.st_meaning.specs.Call.{is_in_out}
use Rattle.code_rules.specs.Places.{local_offset}
use Rattle.code_rules.specs.Plan.{local_places}

pub record PlanLaws : Type 0 where
  -- each behind those before it
  pub places : (p : Program) (vs : List Variable) (offset n : ℕ) (v : Variable) → slice_get vs n ≡ Some v → slice_get (local_places p offset vs) n ≡ Some (record { offset = local_offset p offset vs n; in_out = is_in_out v.sort })
