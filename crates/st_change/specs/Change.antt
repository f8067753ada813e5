-- The first load and the five phases of a change, on whole stores.
use Rattle.std.specs.Prelude.{ℕ, suc, Bool, true, false, not, if◌then◌else◌, List, [], ◌∷◌, ◌++◌, Option, Some, None, is_some}
use Rattle.st_values.specs.Program.{Region, Program}
use Rattle.st_values.specs.Value.{Value, Store, no_members, member_then, member, ◌>>=◌}
use Rattle.st_values.specs.Shape.{Shape, region_shape}
use Rattle.st_values.specs.Initial.{initial_store}
use Rattle.st_meaning.specs.Cycle.{all_ticks}
use Rattle.st_change.specs.From.{same_flag, old_region}
use Rattle.st_change.specs.Carry.{Old, stays, carry}
use Rattle.st_change.specs.Counterpart.{kept, was_kept, old_counterpart, new_counterpart}
use Rattle.st_change.specs.Instances.{Member, members_first, owner_first, of_regions}
use Rattle.st_change.specs.Hook.{Hook, init_hooks, exit_hooks, reinit_hooks, init_flags, Ran, go_on, run_hooks}

-- ---- the first load

abbrev pub first_inits : Program → List Member → List Hook
first_inits p [] = []
first_inits p (m ∷ ms) = init_hooks p (init_flags false) m ++ first_inits p ms

-- Initial values, and then the inits of all instances.
abbrev pub start : Program → Ran
start p = run_hooks p (first_inits p (of_regions p (λ r. true) members_first 0 p.regions)) (initial_store p) all_ticks

-- ---- the copy

-- the old value of the region from which a new one comes
abbrev pub region_before : Program → Program → Store → ℕ → Old
region_before old new before r = do
  o ← old_region old new r
  sh ← region_shape old o
  v ← member before o
  Some (sh, v)

abbrev pub carried_region : Program → Program → Bool → Option Shape → Region → Old → Value → Value
carried_region old new keeping None x o held = held
carried_region old new keeping (Some sh) x o held = if stays old new keeping x.variable then held else carry old new keeping sh o held

-- the new regions from number r on that are kept, or those that are not, carried from the store before
abbrev pub carry_regions : Program → Program → Bool → Store → ℕ → List Region → Store → Store
carry_regions old new keeping before r xs no_members = no_members
carry_regions old new keeping before r [] (member_then n h hs) = member_then n h hs
carry_regions old new keeping before r (x ∷ xs) (member_then n h hs) =
    member_then n
    (if same_flag keeping (kept old new r) then carried_region old new keeping (region_shape new r) x (region_before old new before r) h else h)
    (carry_regions old new keeping before (suc r) xs hs)

abbrev pub carry_store : Program → Program → Bool → Store → Store → Store
carry_store old new keeping before held = carry_regions old new keeping before 0 new.regions held

-- ---- the hooks of a change

-- the instances of old regions that are not kept, and of new ones
abbrev pub leaving : Program → Program → List Member
leaving old new = of_regions old (λ r. not (was_kept old new r)) owner_first 0 old.regions

abbrev pub coming : Program → Program → List Member
coming old new = of_regions new (λ r. not (kept old new r)) members_first 0 new.regions

-- whether an old instance has a counterpart, and whether a new one has
abbrev pub goes_on : Program → Program → Member → Bool
goes_on old new m = is_some (new_counterpart old new m.path m.name)

abbrev pub comes_from : Program → Program → Member → Bool
comes_from old new m = is_some (old_counterpart old new m.path m.name)

abbrev pub exits : Program → Program → List Member → List Hook
exits old new [] = []
exits old new (m ∷ ms) = exit_hooks old (goes_on old new m ∷ []) m ++ exits old new ms

abbrev pub inits : Program → Program → List Member → List Hook
inits old new [] = []
inits old new (m ∷ ms) = init_hooks new (init_flags (comes_from old new m)) m ++ inits old new ms

abbrev pub reinits : Program → Program → List Member → List Hook
reinits old new [] = []
reinits old new (m ∷ ms) = (if comes_from old new m then reinit_hooks new m else []) ++ reinits old new ms

-- ---- the change

-- Exits in the old program; a fresh store with the kept regions; inits in the new program; the copy into the other regions; reinits.
-- All hooks share the ticks.
abbrev pub change : Program → Program → Store → Ran
change old new s =
    go_on (run_hooks old (exits old new (leaving old new)) s all_ticks) (λ s1 n1.
    go_on (run_hooks new (inits old new (coming old new)) (carry_store old new true s1 (initial_store new)) n1) (λ s3 n3.
    run_hooks new (reinits old new (coming old new)) (carry_store old new false s1 s3) n3))
