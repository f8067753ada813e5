-- Runs, one play at a time, over one program and the next ones.
use Rattle.std.proofs.Common.{◌≡◌, ℕ, zero, suc, ◌+◌, ◌<◌, ◌≤◌, List, [], ◌∷◌, ◌++◌, map, get_or, refl, sym, ◌∙◌, ap, subst, arith, add-one, Option, Some, None, length, length-append}
use Rattle.std.specs.List.{range_with_len}
use Rattle.std.specs.Prelude.{slice_get}
use Rattle.std.proofs.lemmas.List.{map-append}
use Rattle.std.proofs.lemmas.Option.{slice_get-get_or}
use Rattle.plc_text.specs.declared.refusal.Refusal.{Refusal}
use Rattle.cycle_journal.specs.declared.play.Play.{Play}
use Rattle.cycle_journal.specs.declared.entry.Answer.TheVariants as answer
use Rattle.cycle_journal.specs.declared.entry.Entry.{Entry}
use Rattle.cycle_journal.specs.Play.{play_numbered}
use Rattle.st_values.specs.Program.{Program}
use Rattle.st_values.specs.Value.{Store}
use Rattle.st_values.specs.View.{program_of}
use Rattle.st_change.specs.Change.{start}
use Rattle.st_change.specs.OneThread.{Controller, One, Steps, OneThread}
use Rattle.value_trees.specs.Value.{members_of}
use Rattle.value_trees.specs.declared.value.Member.{Member}
use Rattle.reference_journal.specs.Playing.{IsPlayed}
use Rattle.reference_journal.specs.declared.next.Version.{Version}
use Rattle.reference_journal.specs.declared.playing.Step.{Step}
use Rattle.reference_journal.specs.declared.playing.Step.TheVariants as step
use Rattle.reference_journal.specs.Private.First.{StartsWith}
use Rattle.reference_journal.specs.Private.Running.{AreNumbered, behind, Enters, first, RunsOn, RunsFrom, StepOf}

-- ---- steps

module _ (Accepts : List ℕ → Program → Type 0) (Refuses : List ℕ → Refusal → Type 0) (sources : List (List ℕ)) (plays : List Play) where
  -- one entry more
  pub steps_more : (c : Controller) (entries : List Entry) (middle : Controller) (e : Entry) (play : Play) (end : Controller) → Steps Accepts Refuses sources plays c entries middle
      → play_numbered plays e.play ≡ Some play → e.version ≡ middle.version → One Accepts Refuses sources middle play e.answer end → Steps Accepts Refuses sources plays c (entries ++ e ∷ []) end
  steps_more c [] middle e play end so_far of version one =
      (play, end, of, version ∙ ap (λ (k : Controller). k.version) (sym so_far), subst (λ (k : Controller). One Accepts Refuses sources k play e.answer end) (sym so_far) one, refl)
  steps_more c (first_entry ∷ entries) middle e play end h of version one = (h.0, h.1, h.2, h.3, h.4, steps_more h.1 entries middle e play end h.5 of version one)

-- the play at an index has the number after it
pub play_numbered_next : (plays : List Play) (i n : ℕ) (play : Play) → i < length plays → play ≡ get_or plays i play → n ≡ i + 1 → play_numbered plays n ≡ Some play
play_numbered_next plays i n play below is number =
    ap (play_numbered plays) (number ∙ add-one i) ∙ (slice_get-get_or plays i play below ∙ ap Some (sym is))

range_more : (a n : ℕ) → range_with_len a n ++ (a + n) ∷ [] ≡ range_with_len a (suc n)
range_more a zero = ap (λ m. m ∷ []) (omega arith)
range_more a (suc n) =
    let e : a + suc n ≡ a + 1 + n = omega arith in
    ap (λ ms. a ∷ ms) (rw e (range_more (a + 1) n))

-- one number more
pub numbers_more : (entries : List Entry) (e : Entry) → e.play ≡ length entries + 1 → AreNumbered entries → AreNumbered (entries ++ e ∷ [])
numbers_more entries e next so_far =
    let number : e.play ≡ 1 + length entries = omega (arith, next) in
    let more : suc (length entries) ≡ length (entries ++ e ∷ []) = sym (length-append entries (e ∷ []) ∙ add-one (length entries)) in
    map-append (λ x. x.play) entries (e ∷ [])
    ∙ (ap (λ ns. ns ++ e.play ∷ []) so_far
    ∙ (ap (λ n. range_with_len 1 (length entries) ++ n ∷ []) number ∙ (range_more 1 (length entries) ∙ ap (range_with_len 1) more)))

-- ---- one play

module _ (Accepts : List ℕ → Program → Type 0) (Refuses : List ℕ → Refusal → Type 0) (sources : List (List ℕ)) (plays : List Play) where
  -- the entry of a step behind the others
  one_on : (c : Controller) (before after : List Entry) (e : Entry) (play : Play) (end : Controller) → length before < length plays → play ≡ get_or plays (length before) play
      → e.play ≡ length before + 1 → e.version ≡ c.version → One Accepts Refuses sources c play e.answer end → after ≡ before ++ e ∷ [] → RunsOn Accepts Refuses sources plays before c after end
  one_on c before after e play end left is number version one added =
      subst (λ (es : List Entry). RunsOn Accepts Refuses sources plays before c es end) (sym added) (record {
        steps = λ start_at so_far. steps_more Accepts Refuses sources plays start_at before c e play end so_far (play_numbered_next plays (length before) e.play play left is number) version one;
        numbers = numbers_more before e number;
        within = λ h.
            let m = length-append before (e ∷ []) in
            omega (arith, m, left);
      })

  pub play_on : (c end : Controller) (before after : List Entry) (version number : ℕ) (s : Step) (next : Option Version) (play : Play) → length before < length plays → play ≡ get_or plays (length before) play
      → number ≡ length before + 1 → version ≡ c.version → StepOf Accepts Refuses sources c play s end → Enters version number s next before after → RunsOn Accepts Refuses sources plays before c after (behind next end)
  play_on c end before after version number (step.Answered a) next play left is counts held one enters =
      subst (λ (o : Option Version). RunsOn Accepts Refuses sources plays before c after (behind o end)) (sym enters.1)
      (one_on c before after (record { version = version; play = number; answer = a }) play end left is counts held one enters.0)
  play_on c end before after version number (step.Loaded v) next play left is counts held one enters =
      subst (λ (o : Option Version). RunsOn Accepts Refuses sources plays before c after (behind o end)) (sym enters.1)
      (one_on c before after (record { version = version; play = number; answer = answer.Loaded v.state.version }) play (behind (Some v) end) left is counts held one enters.0)

  pub one_entered : (before after : List Entry) (version number : ℕ) (s : Step) (next : Option Version) → Enters version number s next before after → length after ≡ length before + 1
  one_entered before after version number (step.Answered a) next h = ap length h.0 ∙ length-append before _
  one_entered before after version number (step.Loaded v) next h = ap length h.0 ∙ length-append before _

  -- ---- plays one after the other

  pub none_on : (c : Controller) (entries : List Entry) → RunsOn Accepts Refuses sources plays entries c entries c
  none_on c entries = record { steps = λ start_at h. h; numbers = λ h. h; within = λ h. h }

  pub then_on : (c d e : Controller) (xs ys zs : List Entry) → RunsOn Accepts Refuses sources plays xs c ys d → RunsOn Accepts Refuses sources plays ys d zs e → RunsOn Accepts Refuses sources plays xs c zs e
  then_on c d e xs ys zs a b = record { steps = λ start_at h. b.steps start_at (a.steps start_at h); numbers = λ h. b.numbers (a.numbers h); within = λ h. b.within (a.within h) }

  -- entries that begin with none
  pub runs_from : (c end : Controller) (entries : List Entry) → RunsOn Accepts Refuses sources plays [] c entries end → length entries ≡ length plays → RunsFrom Accepts Refuses sources c plays entries
  runs_from c end entries on whole = record { end = end; steps = on.steps c refl; numbers = on.numbers refl; whole = whole }

  pub is_played : (text : List ℕ) (p : Program) (store : List Member) (c : Controller) (entries : List Entry) → Accepts text p → StartsWith p store → c ≡ first p (members_of store)
      → RunsFrom Accepts Refuses sources c plays entries → OneThread Accepts Refuses sources text plays entries × (map (λ e. e.play) entries ≡ range_with_len 1 (length plays))
  is_played text p store c entries accepted starts is runs = (
    record {
      program = p;
      accepted = accepted;
      store = members_of store;
      ticks = starts.ticks;
      started = starts.started;
      end = runs.end;
      steps = subst (λ (k : Controller). Steps Accepts Refuses sources plays k entries runs.end) is runs.steps;
    },
    runs.numbers ∙ ap (range_with_len 1) runs.whole,
  )
