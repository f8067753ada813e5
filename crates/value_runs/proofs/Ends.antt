-- Where runs of the machine lead.
use Rattle.std.proofs.Common.{◌≡◌, ◌≤◌, ℕ, zero, suc, ◌+◌, List, [], ◌∷◌, ◌++◌, length, Option, refl, sym, ap, ◌∙◌, subst, arith}
use Rattle.std.specs.Prelude.{slice_get}
use Rattle.plc_text.specs.declared.fault.FaultKind.{FaultKind}
use Rattle.st_meaning.specs.State.{State, Outcome, Done, Fault, go_on}
use Rattle.st_meaning.specs.Loop.{Flow, goes_on, exits, continues, returns}
use Rattle.stack_code.specs.declared.op.Op.{Op}
use Rattle.stack_code.specs.declared.code.MachineCode.{MachineCode}
use Rattle.stack_code.specs.Memory.{Memory}
use Rattle.stack_code.specs.Steps.{Step, Goes, ◌>>=◌, fault_at, faults, some_or_broken}
use Rattle.stack_code.specs.Machine.{Config, cell_in, act, exec, follow, Ends}
use Rattle.code_cells.specs.declared.cell.Cell.{Cell}
use Rattle.code_cells.specs.Cell.{settled, Targets}

-- where a statement goes on, of code that ends at a place
abbrev pub flow_at : Targets → ℕ → Flow → ℕ
flow_at to end goes_on = end
flow_at to end exits = end + to.to_exit
flow_at to end continues = end + to.to_continue
flow_at to end returns = end + to.to_return

module _ (code : MachineCode) (now : ℕ) where
  abbrev pub Arrives : Step Config → Config → Type 0
  Arrives here c = (k : ℕ) → (j : ℕ) × (k ≤ j) × ((rs : List (Option (List ℕ))) → follow here rs (exec code now j) ≡ exec code now k c)

  abbrev pub Fails : Step Config → FaultKind → ℕ → Type 0
  Fails here f line = (j : ℕ) × ((rs : List (Option (List ℕ))) → (left : List (Option (List ℕ))) × (follow here rs (exec code now j) ≡ Ends (fault_at f line) left))

  -- from here the machine comes to where the outcome says, with a memory that shows what it says
  abbrev pub Comes : {A : Type 0} → Step Config → (A → State → Memory → Config) → (A → State → Memory → Type 0) → Outcome A → Type 0
  Comes here after shown (Done a s) = (m : Memory) × shown a s m × Arrives here (after a s m)
  Comes here after shown (Fault f line) = Fails here f line

  pub record Leads {A : Type 0} (here : Step Config) (after : A → State → Memory → Config) (shown : A → State → Memory → Type 0) (o : Outcome A) : Type 0 where
    pub by : Comes here after shown o

  -- the machine is at this place already
  pub stays : {A : Type 0} {after : A → State → Memory → Config} {shown : A → State → Memory → Type 0} (a : A) (s : State) (m : Memory) → shown a s m → Leads (Goes (after a s m)) after shown (Done a s)
  stays a s m h = record { by = (m, h, λ k. (k, omega arith, λ rs. refl)) }

  joins : (here : Step Config) (c d : Config) → Arrives here c → Arrives (Goes c) d → Arrives here d
  joins here c d h g = λ k. let y = g k in let x = h y.0 in (x.0, omega (arith, x.1, y.1), λ rs. x.2 rs ∙ y.2 rs)

  joins_fault : (here : Step Config) (c : Config) (f : FaultKind) (line : ℕ) → Arrives here c → Fails (Goes c) f line → Fails here f line
  joins_fault here c f line h g = let x = h g.0 in (x.0, λ rs. let y = g.1 rs in (y.0, x.2 rs ∙ y.1))

  -- one step after another
  pub then_leads : {A B : Type 0} {here : Step Config} {after : B → State → Memory → Config} {shown : B → State → Memory → Type 0} {o : Outcome A} {f : A → State → Outcome B} (mid : A → State → Memory → Config) (middle : A → State → Memory → Type 0)
      → Leads here mid middle o → ((a : A) (s : State) (m : Memory) → middle a s m → o ≡ Done a s → Leads (Goes (mid a s m)) after shown (f a s)) → Leads here after shown (go_on o f)
  then_leads {A = A} {B = B} {here = here} {after = after} {shown = shown} {o = o} {f = f} mid middle h k = go o h.by k
    where
      from : (a : A) (s : State) (m : Memory) (x : Outcome B) → Arrives here (mid a s m) → Comes (Goes (mid a s m)) after shown x → Comes here after shown x
      from a s m (Done b t) h g = (g.0, g.1, joins here (mid a s m) (after b t g.0) h g.2)
      from a s m (Fault q line) h g = joins_fault here (mid a s m) q line h g

      go : (o : Outcome A) → Comes here mid middle o → ((a : A) (s : State) (m : Memory) → middle a s m → o ≡ Done a s → Leads (Goes (mid a s m)) after shown (f a s)) → Leads here after shown (go_on o f)
      go (Done a s) h k = record { by = from a s h.0 (f a s) h.2 (k a s h.0 h.1 refl).by }
      go (Fault q line) h k = record { by = h }

  -- further instructions that change no more than the place, or what is known
  pub and_leads : {A : Type 0} {here : Step Config} {after : A → State → Memory → Config} {shown : A → State → Memory → Type 0} {o : Outcome A} (mid : A → State → Memory → Config) (middle : A → State → Memory → Type 0)
      → Leads here mid middle o → ((a : A) (s : State) (m : Memory) → middle a s m → o ≡ Done a s → Leads (Goes (mid a s m)) after shown (Done a s)) → Leads here after shown o
  and_leads {A = A} {here = here} {after = after} {shown = shown} {o = o} mid middle h k = record { by = go o h.by k }
    where
      go : (o : Outcome A) → Comes here mid middle o → ((a : A) (s : State) (m : Memory) → middle a s m → o ≡ Done a s → Leads (Goes (mid a s m)) after shown (Done a s)) → Comes here after shown o
      go (Done a s) h k = let g = (k a s h.0 h.1 refl).by in (g.0, g.1, joins here (mid a s h.0) (after a s g.0) h.2 g.2)
      go (Fault q line) h k = h

  -- instructions that change the memory and not the state
  pub and_then : {B : Type 0} {here : Step Config} {after : B → State → Memory → Config} {shown : B → State → Memory → Type 0} {s : State} {o : Outcome B} (mid : Unit {0} → State → Memory → Config) (middle : Unit {0} → State → Memory → Type 0)
      → Leads here mid middle (Done tt s) → ((m : Memory) → middle tt s m → Leads (Goes (mid tt s m)) after shown o) → Leads here after shown o
  and_then {B = B} {here = here} {after = after} {shown = shown} {s = s} {o = o} mid middle h k = record { by = go o (k h.by.0 h.by.1).by }
    where
      go : (o : Outcome B) → Comes (Goes (mid tt s h.by.0)) after shown o → Comes here after shown o
      go (Done b t) g = (g.0, g.1, joins here (mid tt s h.by.0) (after b t g.0) h.by.2 g.2)
      go (Fault q line) g = joins_fault here (mid tt s h.by.0) q line h.by.2 g

  -- another name of the same outcome, and of the same beginning
  pub same_outcome : {A : Type 0} {here : Step Config} {after : A → State → Memory → Config} {shown : A → State → Memory → Type 0} {o o' : Outcome A} → o' ≡ o → Leads here after shown o → Leads here after shown o'
  same_outcome {here = here} {after = after} {shown = shown} e h = subst (Leads here after shown) (sym e) h

  pub same_start : {A : Type 0} {here here' : Step Config} {after : A → State → Memory → Config} {shown : A → State → Memory → Type 0} {o : Outcome A} → here ≡ here' → Leads here' after shown o → Leads here after shown o
  same_start {after = after} {shown = shown} {o = o} e h = subst (λ x. Leads x after shown o) (sym e) h

  pub same_end : {A : Type 0} {here : Step Config} {after after' : A → State → Memory → Config} {shown : A → State → Memory → Type 0} {o : Outcome A} → after ≡ after' → Leads here after shown o → Leads here after' shown o
  same_end {here = here} {shown = shown} {o = o} e h = subst (λ x. Leads here x shown o) e h

  -- inside an instruction
  pub goes_leads : {A B : Type 0} (x : Step B) (b : B) (g : B → Step Config) {after : A → State → Memory → Config} {shown : A → State → Memory → Type 0} {o : Outcome A} → x ≡ Goes b → Leads (g b) after shown o → Leads (x >>= g) after shown o
  goes_leads x b g e h = same_start (ap (λ y. y >>= g) e) h

  pub faults_leads : {A : Type 0} {here : Step Config} {after : A → State → Memory → Config} {shown : A → State → Memory → Type 0} {f : FaultKind} {line : ℕ} → here ≡ faults f line → Leads here after shown (Fault f line)
  faults_leads e = same_start e (record { by = (zero, λ rs. (rs, refl)) })

  -- one instruction
  pub step_leads : {A : Type 0} {c : Config} {after : A → State → Memory → Config} {shown : A → State → Memory → Type 0} {o : Outcome A} (cell : Op × ℕ) → (some_or_broken (slice_get code.routines c.here.routine) >>= cell_in code c.here.next) ≡ Goes cell
      → Leads (act code now cell.0 cell.1 c) after shown o → Leads (Goes c) after shown o
  step_leads {A = A} {c = c} {after = after} {shown = shown} {o = o} cell e h = record { by = go o h.by }
    where
      one : (j : ℕ) → exec code now (suc j) c ≡ follow (act code now cell.0 cell.1 c) c.memory.regions (exec code now j)
      one j = ap (λ x. follow (x >>= λ cell. act code now cell.0 cell.1 c) c.memory.regions (exec code now j)) e

      go : (o : Outcome A) → Comes (act code now cell.0 cell.1 c) after shown o → Comes (Goes c) after shown o
      go (Done a s) h = (h.0, h.1, λ k. let x = h.2 k in (suc x.0, omega (arith, x.1), λ rs. one x.0 ∙ x.2 c.memory.regions))
      go (Fault q line) h = (suc h.0, λ rs. let y = h.1 c.memory.regions in (y.0, one h.0 ∙ y.1))

  -- the cells stand in a routine from a place on
  abbrev pub Stands : ℕ → ℕ → List Cell → Type 0
  Stands r pc [] = Unit {0}
  Stands r pc (i ∷ is) = ((some_or_broken (slice_get code.routines r) >>= cell_in code pc) ≡ Goes (settled pc i)) × Stands r (pc + 1) is

  pub front : (r pc : ℕ) (a b : List Cell) → Stands r pc (a ++ b) → Stands r pc a
  front r pc [] b h = tt
  front r pc (i ∷ a) b h = (h.0, front r (pc + 1) a b h.1)

  pub back : (r pc : ℕ) (a b : List Cell) → Stands r pc (a ++ b) → Stands r (pc + length a) b
  back r pc [] b h = let e : pc ≡ pc + 0 = omega arith in subst (λ n. Stands r n b) e h
  back r pc (i ∷ a) b h = let e : pc + 1 + length a ≡ pc + length (i ∷ a) = omega arith in subst (λ n. Stands r n b) e (back r (pc + 1) a b h.1)
