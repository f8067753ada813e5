-- The summary of a run on one thread is that of any disjoint one.
use Rattle.std.proofs.Common.{◌≡◌, ◌≤◌, ℕ, suc, ◌+◌, Bool, true, false, List, [], ◌∷◌, ◌++◌, length, Option, Some, None, refl, sym, ap, ◌∙◌, subst, inl, inr, arith, length-append}
use Rattle.std.specs.Prelude.{◌⊎◌, if◌then◌else◌, nat_eq, codes}
use Rattle.std.specs.List.{filter, flat_map}
use Rattle.std.specs.Fmt.{decimal}
use Rattle.std.proofs.lemmas.Bool.{eqb-true, eq-eqb}
use Rattle.std.proofs.lemmas.Slice.Eq.{bytes_eq-Decides}
use Rattle.plc_text.specs.declared.refusal.Refusal.{Refusal}
use Rattle.plc_text.specs.Lines.{ended}
use Rattle.cycle_journal.specs.Interleaving.{Phase, Lane, task_named as lane, is_in, in_lane, times, InPhases, numbers_of}
use Rattle.cycle_journal.specs.Play.{play_numbered}
use Rattle.cycle_journal.specs.Summary.{version_after, last_version, is_cycle_of, steps_and_outputs, cycles_of, task_line, summary}
use Rattle.cycle_journal.specs.declared.entry.Answer.{Answer}
use Rattle.cycle_journal.specs.declared.entry.CycleReply.{CycleReply}
use Rattle.cycle_journal.specs.declared.entry.CycleReply.TheVariants as reply
use Rattle.cycle_journal.specs.declared.entry.Entry.{Entry}
use Rattle.cycle_journal.specs.declared.play.Play.{Play}
use Rattle.cycle_journal.specs.declared.play.Play.TheVariants as play
use Rattle.st_values.specs.Program.{Program}
use Rattle.st_change.specs.OneThread.{Controller, One, cycle_without_task, cycle_held, cycle_run, reset_without_task, reset_done, change_loaded, change_refused, change_stopped, change_without_memory, cycle_answer, Steps}
use Rattle.plant_rules.specs.Meaning.{Has}
use Rattle.serial_laws.specs.Disjoint.{entry_in}
use Rattle.serial_laws.specs.Threads.{DisjointSteps}

-- ---- cycles of a task

module _ (plays : List Play) where
  in_its_lane : (task : List ℕ) (o : Option Play) → is_cycle_of task o ≡ true → is_in (lane task) o ≡ true
  in_its_lane task None e = cc
  in_its_lane task (Some (play.Change n source)) e = cc
  in_its_lane task (Some (play.Reset n)) e = cc
  in_its_lane task (Some (play.Cycle n now input)) e = (bytes_eq-Decides task n).1 (sym ((bytes_eq-Decides n task).0 e))

  -- the cycles of a task stand among its entries
  cycles_lane : (task : List ℕ) (es : List Entry) → cycles_of plays task es ≡ cycles_of plays task (filter (entry_in plays (lane task)) es)
  cycles_lane task [] = refl
  cycles_lane task (e ∷ es) = by (in_lane plays (lane task) e.play) (is_cycle_of task (play_numbered plays e.play)) refl refl (cycles_lane task es)
    where
      by : (b c : Bool) → in_lane plays (lane task) e.play ≡ b → is_cycle_of task (play_numbered plays e.play) ≡ c → cycles_of plays task es ≡ cycles_of plays task (filter (entry_in plays (lane task)) es)
          → (if c then steps_and_outputs e.answer else []) ++ cycles_of plays task es ≡ cycles_of plays task (if b then e ∷ filter (entry_in plays (lane task)) es else filter (entry_in plays (lane task)) es)
      by true c p q k = ap (λ z. (if c then steps_and_outputs e.answer else []) ++ z) k ∙ ap (λ z. (if z then steps_and_outputs e.answer else []) ++ cycles_of plays task (filter (entry_in plays (lane task)) es)) (sym q)
      by false true p q k = let f : true ≡ false = sym (in_its_lane task (play_numbered plays e.play) q) ∙ p in cc
      by false false p q k = k

  same_cycles : (es fs : List Entry) → ((l : Lane) → filter (entry_in plays l) es ≡ filter (entry_in plays l) fs) → (task : List ℕ) → cycles_of plays task es ≡ cycles_of plays task fs
  same_cycles es fs h task = cycles_lane task es ∙ (ap (cycles_of plays task) (h (lane task)) ∙ sym (cycles_lane task fs))

-- ---- how many

times_more : (y n : ℕ) (ys : List ℕ) → times n (y ∷ ys) ≡ (if nat_eq y n then 1 else 0) + times n ys
times_more y n ys = by (nat_eq y n) (filter (λ m. nat_eq m n) ys)
  where
    by : (b : Bool) (zs : List ℕ) → length (if b then y ∷ zs else zs) ≡ (if b then 1 else 0) + length zs
    by true zs = omega arith
    by false zs = omega arith

abbrev one_if : Bool → ℕ
one_if b = if b then 1 else 0

itself : (n : ℕ) → one_if (nat_eq n n) ≡ one_if true
itself n = let e : nat_eq n n ≡ true = eq-eqb n n refl in ap one_if e

-- the numbers without one of them
pub record Less (x : ℕ) (ys : List ℕ) : Type 0 where
  pub rest : List ℕ
  pub long : length ys ≡ suc (length rest)
  pub counts : (n : ℕ) → times n ys ≡ (if nat_eq x n then 1 else 0) + times n rest

less_there : (x y : ℕ) (ys : List ℕ) → Less x ys → Less x (y ∷ ys)
less_there x y ys k = record {
  rest = y ∷ k.rest;
  long = ap suc k.long;
  counts = λ n. let a = times_more y n ys in let b = k.counts n in let c = times_more y n k.rest in omega (arith, a, b, c);
}

less : (x : ℕ) (ys : List ℕ) → Has ys x → Less x ys
less x [] h = absurd h
less x (y ∷ ys) (inl e) = record { rest = ys; long = refl; counts = λ n. subst (λ z. times n (y ∷ ys) ≡ (if nat_eq z n then 1 else 0) + times n ys) (sym e) (times_more y n ys) }
less x (y ∷ ys) (inr h) = less_there x y ys (less x ys h)

times_there : (x : ℕ) (ys : List ℕ) → 1 ≤ times x ys → Has ys x
times_there x [] h = absurd (omega arith)
times_there x (y ∷ ys) h = by (nat_eq y x) refl (times_more y x ys) (λ k. times_there x ys k)
  where
    by : (b : Bool) → nat_eq y x ≡ b → times x (y ∷ ys) ≡ (if b then 1 else 0) + times x ys → (1 ≤ times x ys → Has ys x) → (x ≡ y) ⊎ Has ys x
    by true q e rest = inl (sym (eqb-true y x q))
    by false q e rest = inr (rest (omega (arith, e, h)))

same_length : (xs ys : List ℕ) → ((n : ℕ) → times n xs ≡ times n ys) → length xs ≡ length ys
same_length [] [] h = refl
same_length [] (y ∷ ys) h = let a = h y in let b = times_more y y ys in let c = itself y in absurd (omega (arith, a, b, c))
same_length (x ∷ xs) ys h =
    let a = times_more x x xs in
    let c = itself x in
    let k = less x ys (times_there x ys (let e = h x in omega (arith, e, a, c))) in
    let rest = same_length xs k.rest (λ n. let p = h n in let q = times_more x n xs in let r = k.counts n in omega (arith, p, q, r)) in
    omega (arith, rest, k.long)

phases_length : (plays : List Play) (phases : List Phase) (ns ks : List ℕ) → InPhases plays phases ns → InPhases plays phases ks → length ns ≡ length ks
phases_length plays [] ns ks i j = ap length i ∙ sym (ap length j)
phases_length plays (phase ∷ phases) ns ks i j =
    let first = same_length i.0 j.0 (λ n. i.3.once n ∙ sym (j.3.once n)) in
    let rest = phases_length plays phases i.1 j.1 i.4 j.4 in
    let a = ap length i.2 ∙ length-append i.0 i.1 in
    let b = ap length j.2 ∙ length-append j.0 j.1 in
    omega (arith, first, rest, a, b)

numbers_length : (es : List Entry) → length (numbers_of es) ≡ length es
numbers_length [] = refl
numbers_length (e ∷ es) = ap suc (numbers_length es)

numbers_both : (xs ys : List Entry) → numbers_of (xs ++ ys) ≡ numbers_of xs ++ numbers_of ys
numbers_both [] ys = refl
numbers_both (x ∷ xs) ys = ap (λ z. x.play ∷ z) (numbers_both xs ys)

-- ---- versions

after_cycle : (v : ℕ) (r : CycleReply) → version_after v (cycle_answer r) ≡ v
after_cycle v (reply.Done ticks outputs) = refl
after_cycle v (reply.Fault f) = refl

module _ (Accepts : List ℕ → Program → Type 0) (Refuses : List ℕ → Refusal → Type 0) (sources : List (List ℕ)) (plays : List Play) where
  one_version : (c d : Controller) (x : Play) (a : Answer) → One Accepts Refuses sources c x a d → version_after c.version a ≡ d.version
  one_version c d x a (cycle_without_task e) = refl
  one_version c d x a (cycle_held t e k) = refl
  one_version c d x a (cycle_run {name} {now} {input} t fs e k f) = after_cycle c.version _
  one_version c d x a (reset_without_task e) = refl
  one_version c d x a (reset_done t e) = refl
  one_version c d x a (change_loaded text q s k e f g) = refl
  one_version c d x a (change_refused text r e f) = refl
  one_version c d x a (change_stopped text q class kind line e f g) = refl
  one_version c d x a change_without_memory = refl

  last_is : (es : List Entry) (c d : Controller) → c.version ≡ 1 → Steps Accepts Refuses sources plays c es d → last_version es ≡ d.version
  last_is [] c d one s = sym one ∙ ap (λ (z : Controller). z.version) s
  last_is (e ∷ es) c d one s = behind e es c d s
    where
      behind : (e : Entry) (es : List Entry) (c d : Controller) → Steps Accepts Refuses sources plays c (e ∷ es) d → last_version (e ∷ es) ≡ d.version
      behind e [] c d s = ap (λ v. version_after v e.answer) s.3 ∙ (one_version c s.1 s.0 e.answer s.4 ∙ ap (λ (z : Controller). z.version) s.5)
      behind e (o ∷ es) c d s = behind o es s.1 d s.5

  pub disjoint_phases : (phases : List Phase) (c d : Controller) (es : List Entry) → DisjointSteps plays Accepts Refuses sources phases c es d → InPhases plays phases (numbers_of es)
  disjoint_phases [] c d es k = ap numbers_of k.0
  disjoint_phases (phase ∷ phases) c d es k = (numbers_of k.0, numbers_of k.1, ap numbers_of k.3 ∙ numbers_both k.0 k.1, k.4, disjoint_phases phases k.2 d k.1 k.7)

  append_steps : (xs ys : List Entry) (c m d : Controller) → Steps Accepts Refuses sources plays c xs m → Steps Accepts Refuses sources plays m ys d → Steps Accepts Refuses sources plays c (xs ++ ys) d
  append_steps [] ys c m d s t = subst (λ (z : Controller). Steps Accepts Refuses sources plays z ys d) (sym s) t
  append_steps (x ∷ xs) ys c m d s t = (s.0, s.1, s.2, s.3, s.4, append_steps xs ys s.1 m d s.5 t)

  pub record StepsSplit (c : Controller) (xs ys : List Entry) (d : Controller) : Type 0 where
    pub mid : Controller
    pub first : Steps Accepts Refuses sources plays c xs mid
    pub rest : Steps Accepts Refuses sources plays mid ys d

  pub split_steps : (xs ys : List Entry) (c d : Controller) → Steps Accepts Refuses sources plays c (xs ++ ys) d → StepsSplit c xs ys d
  split_steps [] ys c d r = record { mid = c; first = refl; rest = r }
  split_steps (x ∷ xs) ys c d r = let s = split_steps xs ys r.1 d r.5 in record { mid = s.mid; first = (r.0, r.1, r.2, r.3, r.4, s.first); rest = s.rest }

  -- disjoint steps are steps
  pub disjoint_steps : (phases : List Phase) (c d : Controller) (es : List Entry) → DisjointSteps plays Accepts Refuses sources phases c es d → Steps Accepts Refuses sources plays c es d
  disjoint_steps [] c d es k = subst (λ z. Steps Accepts Refuses sources plays c z d) (sym k.0) k.1
  disjoint_steps (phase ∷ phases) c d es k = subst (λ z. Steps Accepts Refuses sources plays c z d) (sym k.3) (append_steps k.0 k.1 c k.2 d k.5 (disjoint_steps phases k.2 d k.1 k.7))

  abbrev lines : List Entry → List ℕ
  lines es = flat_map (λ task. ended (task_line task (cycles_of plays task es))) (codes "T1" ∷ codes "T2" ∷ codes "T3" ∷ codes "T4" ∷ [])

  same_lines : (tasks : List (List ℕ)) (es fs : List Entry) → ((task : List ℕ) → cycles_of plays task es ≡ cycles_of plays task fs) → flat_map (λ task. ended (task_line task (cycles_of plays task es))) tasks ≡ flat_map (λ task. ended (task_line task (cycles_of plays task fs))) tasks
  same_lines [] es fs h = refl
  same_lines (t ∷ ts) es fs h =
      ap (λ z. ended (task_line t z) ++ flat_map (λ task. ended (task_line task (cycles_of plays task es))) ts) (h t) ∙ ap (λ z. ended (task_line t (cycles_of plays t fs)) ++ z) (same_lines ts es fs h)

  -- the summaries are equal
  pub same_summary : (n : ℕ) (phases : List Phase) (c c' d d' : Controller) (es fs : List Entry) → c.version ≡ 1 → c'.version ≡ 1 → Steps Accepts Refuses sources plays c es d → InPhases plays phases (numbers_of es) → DisjointSteps plays Accepts Refuses sources phases c' fs d'
      → d.version ≡ d'.version → ((l : Lane) → filter (entry_in plays l) es ≡ filter (entry_in plays l) fs) → summary n plays es ≡ summary n plays fs
  same_summary n phases c c' d d' es fs one one' s i k v h =
      let long : length es ≡ length fs = sym (numbers_length es) ∙ (phases_length plays phases (numbers_of es) (numbers_of fs) i (disjoint_phases phases c' d' fs k) ∙ numbers_length fs) in
      let last : last_version es ≡ last_version fs = last_is es c d one s ∙ (v ∙ sym (last_is fs c' d' one' (disjoint_steps phases c' d' fs k))) in
      let each : (task : List ℕ) → cycles_of plays task es ≡ cycles_of plays task fs = same_cycles plays es fs h in
      ap (λ z. ended (codes "load " ++ decimal n) ++ ended (codes "entries " ++ decimal z) ++ ended (codes "version " ++ decimal (last_version es)) ++ lines es) long
      ∙ (ap (λ z. ended (codes "load " ++ decimal n) ++ ended (codes "entries " ++ decimal (length fs)) ++ ended (codes "version " ++ decimal z) ++ lines es) last
      ∙ ap (λ z. ended (codes "load " ++ decimal n) ++ ended (codes "entries " ++ decimal (length fs)) ++ ended (codes "version " ++ decimal (last_version fs)) ++ z) (same_lines (codes "T1" ∷ codes "T2" ∷ codes "T3" ∷ codes "T4" ∷ []) es fs each))
