-- The footprints of tasks, one after the other, and what a first load comes to.
use Rattle.std.proofs.Common.{◌≡◌, ◌⊎◌, ℕ, zero, suc, ◌+◌, List, [], ◌∷◌, ◌++◌, length, Option, Some, None, inl, inr, refl, sym, ap, ◌∙◌, subst, arith, length-append}
use Rattle.std.specs.Prelude.{Vec, slice_get}
use Rattle.std.specs.declared.alloc.Global.{Global}
use Rattle.plc_text.specs.declared.refusal.Refusal.{Refusal}
use Rattle.st_tree.specs.declared.program.Program.{Program as CheckedProgram}
use Rattle.st_values.specs.Program.{Program}
use Rattle.st_values.specs.View.{program_of}
use Rattle.program_tables.specs.st_initial.Members as members
use Rattle.st_meaning.specs.st_frame.Footprint.{IsFootprint}
use Rattle.st_change.specs.Change.{start}
use Rattle.st_change.specs.OneThread.{hook_refusal}
use Rattle.region_instances.specs.Instances.{RegionsUnfold}
use Rattle.routine_tables.specs.Tables.{Holds}
use Rattle.reference_tasks.specs.Loaded.{IsLoaded}
use Rattle.reference_tasks.specs.declared.loaded.Loaded.{Loaded}
use Rattle.reference_start.specs.Start.{started}
use Rattle.reference_start.specs.declared.hooks.Stopped.{Stopped}
use Rattle.reference_start.specs.declared.started.Started.{Started}
use Rattle.reference_start.specs.declared.started.Started.TheVariants as came
use Rattle.value_trees.specs.Value.{members_of}
use Rattle.value_trees.specs.declared.value.Member.{Member}
use Rattle.reference_journal.specs.Loading.{HookRefuses, Loads}
use Rattle.reference_journal.specs.declared.loading.First.{First}
use Rattle.reference_journal.specs.declared.loading.First.TheVariants as first
use Rattle.reference_journal.specs.Private.First.{CameTo, StartsWith}
use Rattle.reference_journal.specs.Private.Footprints.{AreFootprints}

-- ---- footprints

none_there : {A : Type 0} (x : A) (k : ℕ) → slice_get [] k ≡ Some x → ⊥
none_there x zero e = absurd cc
none_there x (suc k) e = absurd cc

-- what is found in a list with one more is in the list, or it is the one more
found : {A : Type 0} (xs : List A) (x y : A) (k : ℕ) → slice_get (xs ++ x ∷ []) k ≡ Some y → (slice_get xs k ≡ Some y) ⊎ ((k ≡ length xs) × (x ≡ y))
found [] x y zero e = inr (refl, cc)
found [] x y (suc k) e = absurd (none_there y k e)
found (z ∷ xs) x y zero e = inl e
found (z ∷ xs) x y (suc k) e = elim (found xs x y k e) [ inl p ↦ inl p | inr p ↦ inr (ap suc p.0, p.1) ]

-- the footprints of the first tasks
pub record Firsts (p : Program) (all : List (Vec ℕ Global)) (n : ℕ) : Type 0 where
  pub long : length all ≡ n
  pub each : RegionsUnfold p → AreFootprints p all

pub begun : (p : Program) → Firsts p [] 0
begun p = record { long = refl; each = λ u. record { by = λ t regions e. absurd (none_there regions t e) } }

module _ (p : Program) (all : List (Vec ℕ Global)) (n : ℕ) (regions : Vec ℕ Global) where
  pub next : Firsts p all n → (RegionsUnfold p → IsFootprint p n regions.items) → Firsts p (all ++ regions ∷ []) (n + 1)
  next f is =
      let l = f.long in
      let m : length all + 1 ≡ n + 1 = omega (arith, l) in
      record { long = length-append all (regions ∷ []) ∙ m; each = λ u. record { by = λ t found_there e. by u t found_there (found all regions found_there t e) } }
    where
      by : RegionsUnfold p → (t : ℕ) (q : Vec ℕ Global) → (slice_get all t ≡ Some q) ⊎ ((t ≡ length all) × (regions ≡ q)) → IsFootprint p t q.items
      by u t q (inl e) = (f.each u).by t q e
      by u t q (inr e) = subst (λ (x : Vec ℕ Global). IsFootprint p t x.items) e.1 (subst (λ (k : ℕ). IsFootprint p k regions.items) (sym (e.0 ∙ f.long)) (is u))

pub exact_at : (p q : CheckedProgram) (t task : ℕ) (regions : List ℕ) → q ≡ p → task ≡ t → (RegionsUnfold (program_of q) → IsFootprint (program_of q) task regions) → RegionsUnfold (program_of p) → IsFootprint (program_of p) t regions
exact_at p q t task regions same number is =
    subst (λ (k : ℕ). RegionsUnfold (program_of p) → IsFootprint (program_of p) k regions) number
    (subst (λ (x : CheckedProgram). RegionsUnfold (program_of x) → IsFootprint (program_of x) task regions) same is)

-- ---- the first load

pub is_loaded : (on : Loaded) → on.tables.now ≡ on.program.now → members.Holds (program_of on.program.now) on.members.now → Holds on.program.now on.routines.now → IsLoaded on
is_loaded on tables members routines = record { tables = tables; members = members; routines = subst (λ (q : CheckedProgram). Holds q on.routines.now) (sym tables) routines }

module _ (p : Program) (s : Started) (e : started s ≡ start p) where
  pub came_loaded : (store : List Member) (ticks : ℕ) → s ≡ came.Ran store ticks → StartsWith p store
  came_loaded store ticks is = record { ticks = ticks; started = sym (sym (ap started is) ∙ e) }

  pub came_refused : (x : Stopped) (r : Refusal) → s ≡ came.Stopped x → r ≡ hook_refusal x.class x.fault.kind x.fault.line → HookRefuses p r
  came_refused x r is so = record { class = x.class; kind = x.fault.kind; line = x.fault.line; stops = sym (sym (ap started is) ∙ e); refusal = so }

pub loads_by : (p : Program) (x : First) (store : List Member) → x ≡ first.Loaded store → CameTo p x → Loads p None
loads_by p x store is h =
    let starts : StartsWith p store = subst (λ (y : First). CameTo p y) is h in
    record { store = members_of store; ticks = starts.ticks; started = starts.started }

pub loads_refused : (p : Program) (x : First) (r : Refusal) → x ≡ first.Refused r → CameTo p x → Loads p (Some r)
loads_refused p x r is h = subst (λ (y : First). CameTo p y) is h
