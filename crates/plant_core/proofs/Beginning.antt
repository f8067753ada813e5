-- A core before its first play.
use Rattle.std.proofs.Common.{◌≡◌, ℕ, zero, suc, ◌*◌, List, [], ◌∷◌, length, map, replicate, Some, Option, Bool, true, false, slice_index_or, refl, sym, ap, ◌∙◌, subst, inr, arith}
use Rattle.std.proofs.lemmas.List.{length-replicate}
use Rattle.cycle_journal.specs.declared.entry.Entry.{Entry}
use Rattle.plant_rules.specs.Meaning.{Contents, Meaning, bytes_at}
use Rattle.plant_rules.specs.Next.{IsNextWhole}
use Rattle.plant_rules.specs.History.{past, idle, open_by, done, opening, stage_at}
use Rattle.plant_rules.proofs.plant_history.Running.{none_open}
use Rattle.plant_core.specs.play_order.Progress.{Standing}
use Rattle.plant_core.specs.declared.stage.Status.{Status}
use Rattle.plant_core.specs.declared.stage.Status.TheVariants.{Idle}
use Rattle.plant_core.specs.declared.stage.Ongoing.TheVariants.{Free}
use Rattle.plant_core.specs.declared.event.Event.{Event}
use Rattle.plant_core.specs.Stage.{stage_of, done_of, entries_left, events_left, total_of}
use Rattle.plant_core.specs.Hub.{HasShortInputs}
use Rattle.plant_core.specs.Event.{step_of}
use Rattle.plant_core.specs.Private.Ledger.{IsBlank}
use Rattle.plant_core.specs.Private.Keeping.{fields, Kept}
use Rattle.plant_core.proofs.Stages.{turning_free}

idle_entries : (n : ℕ) → total_of entries_left (replicate n idle) ≡ n
idle_entries zero = refl
idle_entries (suc n) = let k = idle_entries n in omega (arith, k)

idle_events : (n : ℕ) → total_of events_left (replicate n idle) ≡ 3 * n
idle_events zero = refl
idle_events (suc n) = let k = idle_events n in omega (arith, k)

idle_stages : (n : ℕ) → map stage_of (replicate n Idle) ≡ replicate n idle
idle_stages zero = refl
idle_stages (suc n) = ap (λ gs. idle ∷ gs) (idle_stages n)

idle_done : (n : ℕ) → replicate n false ≡ map done_of (replicate n idle)
idle_done zero = refl
idle_done (suc n) = ap (λ gs. false ∷ gs) (idle_done n)

at_replicate : {A : Type 0} (d : A) (n k : ℕ) → slice_index_or (replicate n d) k d ≡ d
at_replicate d zero k = refl
at_replicate d (suc n) zero = refl
at_replicate d (suc n) (suc k) = at_replicate d n k

pub kept_new : {W K : Type 0} (good : W → ℕ → K → Type 0) (m : Meaning W) (q loaded other : W) (home d nothing : Contents) (o : Option W) (kits : List (Option K)) (progress : Standing) (status : List Status) (held : List Bool) (since : List ℕ) (entries : List Entry) (er : ℕ) (events : List (Event W)) (vr : ℕ)
    → IsBlank progress.script progress nothing status held since entries er events vr → HasShortInputs progress.script.plays → loaded ≡ q → home ≡ d → o ≡ Some other → IsNextWhole m (good q) q other d kits
    → Kept (fields kits loaded o home (Some nothing) status Free progress held since entries er vr) good m (past q d progress.script (map step_of events))
kept_new good m q loaded other home d nothing o kits progress status held since entries er events vr blank inputs same there spare whole =
    let script = progress.script in
    let n = length script.plays in
    let gone : (p w t : ℕ) (c : Contents) → stage_at (replicate n idle) p ≡ open_by w t c → ⊥ = λ p w t c e. none_open n p w t c e in
    let a = idle_entries n in
    let b = idle_events n in
    let none-len : length entries ≡ 0 = ap length blank.no-entry in
    let turning = turning_free m script (opening (past q d script [])) refl in
    let er-ok = blank.entry-room in
    let vr-ok = blank.event-room in
    subst (λ (z : List (Event _)). Kept (fields kits loaded o home (Some nothing) status Free progress held since entries er vr) good m (past q d script (map step_of z))) (sym blank.no-event)
    record {
      legal = tt;
      holds = record {
        sound = record {
          right = whole.right;
          whole = whole.whole;
          below = λ t x. absurd (gone x.play x.who t x.contents x.is);
          cycles = λ p w t c e. absurd (gone p w t c e);
          agrees = λ p w t c e. absurd (gone p w t c e);
          apart = λ p w t c p' w' t' c' e. absurd (gone p w t c e);
          waits = turning.waits;
          changes = turning.changes;
        };
        loaded-is = same;
        spare-is = (spare ∙ ap Some whole.supplied.same, ap Some blank.empty);
        home-is = record { total = ap length there ∙ whole.whole.0; here = λ r out. ap (λ z. bytes_at z r) there; out = λ r x. absurd (gone x.by.play x.by.who x.task x.by.contents x.by.is) };
        stages-are = ap (map stage_of) blank.all-idle ∙ ap (λ gs. done ∷ gs) (idle_stages n);
        done-are = blank.none-done ∙ ap (λ z. true ∷ z) (idle_done n);
        turn-is = refl;
        held-are = record {
          total = ap length blank.none-held ∙ length-replicate (length progress.names) false;
          each = λ k name h. ap (λ z. slice_index_or z k false) blank.none-held ∙ at_replicate false (length progress.names) k;
        };
        since-are = record {
          total = ap length blank.none-gone ∙ length-replicate (length progress.names) 0;
          each = λ k name h. ap (λ z. slice_index_or z k 0) blank.none-gone ∙ at_replicate 0 (length progress.names) k;
        };
        entries-are = blank.no-entry;
        kits-all = whole.supplied.kits-are.total;
        kits-are = λ t h. let x = whole.supplied.kits-are.each t h in inr (x.0, x.1, x.2, λ y. gone y.play y.who t y.contents y.is);
      };
      fixed = record {
        script-is = refl;
        status-all = ap length blank.all-idle ∙ (let l = length-replicate n Idle in omega (arith, l));
        inputs = inputs;
      };
      room = record { for-entries = omega (arith, a, none-len, er-ok); for-events = omega (arith, b, vr-ok) };
    }
