-- Runs of disjoint phases give each task the same entries, and come to the same state, in whatever order.
use Rattle.std.proofs.Common.{◌≡◌, ◌≤◌, ◌<◌, ℕ, zero, suc, ◌+◌, ◌-◌, Bool, true, false, List, [], ◌∷◌, ◌++◌, length, Option, Some, None, refl, sym, ap, ◌∙◌, subst, inl, inr, ⊎_elim, arith}
use Rattle.std.specs.Prelude.{◌⊎◌, if◌then◌else◌, nat_eq}
use Rattle.std.specs.List.{filter}
use Rattle.std.proofs.Math.Path.{fun_ext}
use Rattle.std.proofs.lemmas.Bool.{eq-eqb}
use Rattle.std.proofs.lemmas.Bool.Decides.{nat_tests}
use Rattle.cycle_journal.specs.Interleaving.{Phase, task_named, in_lane, has_play, times, IsPhase, numbers_of}
use Rattle.cycle_journal.specs.Play.{play_numbered}
use Rattle.cycle_journal.specs.declared.entry.Entry.{Entry}
use Rattle.cycle_journal.specs.declared.play.Play.{Play}
use Rattle.cycle_journal.specs.declared.play.Play.TheVariants as play
use Rattle.plant_rules.specs.Meaning.{Meaning, bytes_at, Has, Frames}
use Rattle.plant_rules.specs.One.{OneState, Runs}
use Rattle.plant_rules.specs.History.{is_change, entry}
use Rattle.serial_laws.specs.Disjoint.{OneChange, Cycles, HasNoChange, Apart, entry_in, NoneWanted}
use Rattle.serial_laws.proofs.PhaseRuns.{has?, same_contents, stepped, one_steps, ran, IsFine, keeps, Steps, Local, back_local, then_local, InPhase, AreTimely, LaneIs, lane_alone, cycle_step, reset_step}

-- ---- lists

pub times_has : (p : ℕ) (ns : List ℕ) → Has ns p → 1 ≤ times p ns
times_has p [] h = absurd h
times_has p (x ∷ xs) h = by (nat_eq x p) refl h (λ k. times_has p xs k)
  where
    by : (b : Bool) → nat_eq x p ≡ b → (p ≡ x) ⊎ Has xs p → (Has xs p → 1 ≤ times p xs) → 1 ≤ length (if b then x ∷ filter (λ m. nat_eq m p) xs else filter (λ m. nat_eq m p) xs)
    by true q k rest = omega arith
    by false q (inl e) rest = let w : nat_eq x p ≡ true = eq-eqb x p (sym e) in let f : true ≡ false = sym w ∙ q in cc
    by false q (inr k) rest = rest k

pub inside_play : (n : ℕ) (phase : Phase) → has_play n phase ≡ true → (phase.0 ≤ n) × (n < phase.1)
inside_play n phase e = (grind (arith, nat_tests), grind (arith, nat_tests))

one_or_none : (b : Bool) (n : ℕ) → 1 ≤ n → n ≡ (if b then 1 else 0) → b ≡ true
one_or_none true n h e = refl
one_or_none false n h e = absurd (omega arith)

module _ (plays : List Play) (phase : Phase) where
  pub number_inside : (ns : List ℕ) → IsPhase plays phase ns → (p : ℕ) → Has ns p → (phase.0 ≤ p) × (p < phase.1)
  number_inside ns is p h = inside_play p phase (one_or_none (has_play p phase) (times p ns) (times_has p ns h) (is.once p))

-- entries whose numbers are split
pub record Split (es : List Entry) (xs ys : List ℕ) : Type 0 where
  pub front : List Entry
  pub back : List Entry
  pub is : es ≡ front ++ back
  pub front-is : numbers_of front ≡ xs
  pub back-is : numbers_of back ≡ ys

pub split_entries : (es : List Entry) (xs ys : List ℕ) → numbers_of es ≡ xs ++ ys → Split es xs ys
split_entries es [] ys e = record { front = []; back = es; is = refl; front-is = refl; back-is = e }
split_entries [] (x ∷ xs) ys e = cc
split_entries (f ∷ fs) (x ∷ xs) ys e =
    let first : f.play ≡ x = cc in
    let rest : numbers_of fs ≡ xs ++ ys = cc in
    let s = split_entries fs xs ys rest in
    record { front = f ∷ s.front; back = s.back; is = ap (λ z. f ∷ z) s.is; front-is = ap (λ z. z ∷ numbers_of s.front) first ∙ ap (λ z. x ∷ z) s.front-is; back-is = s.back-is }

pub none_wanted : (xs ys : List Entry) → NoneWanted (xs ++ ys) → NoneWanted xs × NoneWanted ys
none_wanted [] ys h = (tt, h)
none_wanted (x ∷ xs) ys h = let k = none_wanted xs ys h.1 in ((h.0, k.0), k.1)

module _ {W : Type 0} (m : Meaning W) (frames : Frames m) (one_change : OneChange m) (sources : List (List ℕ)) (plays : List Play) (timely : AreTimely m frames sources plays (0, 0)) where
  -- ---- runs

  pub record RunSplit (a : OneState W) (xs ys : List Entry) (b : OneState W) : Type 0 where
    pub mid : OneState W
    pub first : Runs m sources plays a xs mid
    pub rest : Runs m sources plays mid ys b

  pub split_run : (xs ys : List Entry) (a b : OneState W) → Runs m sources plays a (xs ++ ys) b → RunSplit a xs ys b
  split_run [] ys a b r = record { mid = a; first = refl; rest = r }
  split_run (x ∷ xs) ys a b r = let s = split_run xs ys r.1 b r.5 in record { mid = s.mid; first = (r.0, r.1, r.2, r.3, r.4, s.first); rest = s.rest }

  -- a run without changes is the function's
  pub runs_ran : (es : List Entry) (a b : OneState W) → ((e : ℕ) → Has (numbers_of es) e → is_change (play_numbered plays e) ≡ false) → Runs m sources plays a es b
      → (es ≡ (ran m frames sources plays a (numbers_of es)).0) × (b ≡ (ran m frames sources plays a (numbers_of es)).1)
  runs_ran [] a b none r = (refl, sym r)
  runs_ran (e ∷ es) a b none r =
      let calm : is_change (Some r.0) ≡ false = ap is_change (sym r.2) ∙ none e.play (inl refl) in
      let one : stepped m frames sources plays a (play_numbered plays e.play) ≡ (e.answer, r.1) = ap (stepped m frames sources plays a) r.2 ∙ one_steps m frames sources plays a r.1 r.0 e.answer r.4 calm in
      let state : (stepped m frames sources plays a (play_numbered plays e.play)).1 ≡ r.1 = ap (λ z. z.1) one in
      let rest = runs_ran es r.1 b (λ n h. none n (inr h)) r.5 in
      let first : e ≡ entry (m.number a.version) e.play (stepped m frames sources plays a (play_numbered plays e.play)).0 =
      ap (λ v. entry v e.play e.answer) r.3 ∙ ap (λ z. entry (m.number a.version) e.play z) (sym (ap (λ z. z.0) one)) in (
        ap (λ z. z ∷ es) first ∙ ap (λ z. entry (m.number a.version) e.play (stepped m frames sources plays a (play_numbered plays e.play)).0 ∷ z) (rest.0 ∙ ap (λ (s : OneState W). (ran m frames sources plays s (numbers_of es)).0) (sym state)),
        rest.1 ∙ ap (λ (s : OneState W). (ran m frames sources plays s (numbers_of es)).1) (sym state),
      )

  pub ran_keeps : (ns : List ℕ) (a : OneState W) → IsFine m frames sources plays a → Steps m frames sources plays a (ran m frames sources plays a ns).1
  ran_keeps [] a f = record { version = refl; since = refl; fine = f }
  ran_keeps (n ∷ ns) a f =
      let k = keeps m frames sources plays a (play_numbered plays n) f (timely n) in
      let r = ran_keeps ns (stepped m frames sources plays a (play_numbered plays n)).1 k.fine in
      record { version = r.version ∙ k.version; since = r.since ∙ k.since; fine = r.fine }

  -- ---- one phase of cycles and resets

  module _ (phase : Phase) (calm : HasNoChange plays phase) where
    -- a cycle of the phase writes the region
    pub record IsWriter (p : W) (r : ℕ) : Type 0 where
      pub name : List ℕ
      pub cycles : Cycles plays phase name
      pub task : ℕ
      pub named : m.named p name ≡ Some task
      pub writes : Has (m.writes p task) r

    abbrev NotAt : W → ℕ → Option Play → Type 0
    NotAt p r o = (name : List ℕ) (now : ℕ) (input : List ℕ) (t : ℕ) → o ≡ Some (play.Cycle name now input) → m.named p name ≡ Some t → Has (m.writes p t) r → ⊥

    by_name : (p : W) (r n : ℕ) (name : List ℕ) (now : ℕ) (input : List ℕ) (o : Option ℕ) → phase.0 ≤ n → n < phase.1 → play_numbered plays n ≡ Some (play.Cycle name now input) → m.named p name ≡ o
        → IsWriter p r ⊎ ((t : ℕ) → o ≡ Some t → Has (m.writes p t) r → ⊥)
    by_name p r n name now input None l h e i = inr (λ t j w. cc)
    by_name p r n name now input (Some u) l h e i =
        ⊎_elim
        (λ w. inl (record { name = name; cycles = record { number = n; low = l; high = h; now = now; input = input; is = e }; task = u; named = i; writes = w }))
        (λ k. inr (λ t j w. let s : u ≡ t = cc in k (subst (λ z. Has (m.writes p z) r) (sym s) w)))
        (has? (m.writes p u) r)

    at_number : (p : W) (r n : ℕ) (o : Option Play) → play_numbered plays n ≡ o → phase.0 ≤ n → n < phase.1 → IsWriter p r ⊎ NotAt p r o
    at_number p r n None e l h = inr (λ name now input t i. cc)
    at_number p r n (Some (play.Change name source)) e l h = inr (λ k now input t i. cc)
    at_number p r n (Some (play.Reset name)) e l h = inr (λ k now input t i. cc)
    at_number p r n (Some (play.Cycle name now input)) e l h =
        ⊎_elim (λ w. inl w) (λ k. inr (λ name' now' input' t i j w. let s : name ≡ name' = cc in k t (ap (m.named p) s ∙ j) w)) (by_name p r n name now input (m.named p name) l h e refl)

    scanned : (p : W) (r k len : ℕ) → phase.0 ≤ k → k + len ≡ phase.1 → IsWriter p r ⊎ ((n : ℕ) → k ≤ n → n < phase.1 → NotAt p r (play_numbered plays n))
    scanned p r k zero l e = inr (λ n a b. absurd (omega arith))
    scanned p r k (suc len) l e =
        ⊎_elim (λ w. inl w)
        (λ here. ⊎_elim (λ w. inl w) (λ rest. inr (λ n a b. by n a b here rest (same_or n k a))) (scanned p r (suc k) len (omega arith) (omega arith)))
        (at_number p r k (play_numbered plays k) refl l (omega arith))
      where
        same_or : (n k : ℕ) → k ≤ n → (n ≡ k) ⊎ (suc k ≤ n)
        same_or zero zero h = inl refl
        same_or (suc n) zero h = inr (omega arith)
        same_or zero (suc k) h = absurd (omega arith)
        same_or (suc n) (suc k) h = ⊎_elim (λ e. inl (ap suc e)) (λ g. inr (omega arith)) (same_or n k (omega arith))

        by : (n : ℕ) → k ≤ n → n < phase.1 → NotAt p r (play_numbered plays k) → ((n : ℕ) → suc k ≤ n → n < phase.1 → NotAt p r (play_numbered plays n)) → (n ≡ k) ⊎ (suc k ≤ n) → NotAt p r (play_numbered plays n)
        by n a b here rest (inl i) = subst (λ z. NotAt p r (play_numbered plays z)) (sym i) here
        by n a b here rest (inr g) = rest n g b

    -- what no cycle of the phase writes stays
    cycle_stays : (a : OneState W) (name : List ℕ) (now : ℕ) (input : List ℕ) (o : Option ℕ) (h : Bool) (r : ℕ) → m.named a.version name ≡ o → ((t : ℕ) → m.named a.version name ≡ Some t → Has (m.writes a.version t) r → ⊥)
        → bytes_at (cycle_step m frames sources plays a name now input o h).1.store r ≡ bytes_at a.store r
    cycle_stays a name now input None h r e n = refl
    cycle_stays a name now input (Some t) true r e n = refl
    cycle_stays a name now input (Some t) false r e n = (frames.elsewhere a.version t now input a.store).1 r (n t e)

    reset_stays : (a : OneState W) (name : List ℕ) (o : Option ℕ) (r : ℕ) → bytes_at (reset_step m frames sources plays a name o).1.store r ≡ bytes_at a.store r
    reset_stays a name None r = refl
    reset_stays a name (Some t) r = refl

    step_stays : (a : OneState W) (o : Option Play) (r : ℕ) → NotAt a.version r o → bytes_at (stepped m frames sources plays a o).1.store r ≡ bytes_at a.store r
    step_stays a None r n = refl
    step_stays a (Some (play.Change name source)) r n = refl
    step_stays a (Some (play.Reset name)) r n = reset_stays a name (m.named a.version name) r
    step_stays a (Some (play.Cycle name now input)) r n = cycle_stays a name now input (m.named a.version name) (a.held name) r refl (λ t e w. n name now input t refl e w)

    ran_stays : (ns : List ℕ) (a : OneState W) (r : ℕ) → IsFine m frames sources plays a → InPhase m frames sources plays phase ns → ((n : ℕ) → phase.0 ≤ n → n < phase.1 → NotAt a.version r (play_numbered plays n))
        → bytes_at (ran m frames sources plays a ns).1.store r ≡ bytes_at a.store r
    ran_stays [] a r f i n = refl
    ran_stays (p ∷ ns) a r f i n =
        let k = keeps m frames sources plays a (play_numbered plays p) f (timely p) in
        ran_stays ns (stepped m frames sources plays a (play_numbered plays p)).1 r k.fine i.2 (λ q l h. subst (λ z. NotAt z r (play_numbered plays q)) (sym k.version) (n q l h)) ∙ step_stays a (play_numbered plays p) r (n p i.0 i.1)

    all_inside : (ns : List ℕ) → ((p : ℕ) → Has ns p → (phase.0 ≤ p) × (p < phase.1)) → InPhase m frames sources plays phase ns
    all_inside [] h = tt
    all_inside (n ∷ ns) h = let k = h n (inl refl) in (k.0, k.1, all_inside ns (λ p w. h p (inr w)))

    -- two orders of one phase
    module _ (a : OneState W) (fine : IsFine m frames sources plays a) (apart : Apart plays m a.version phase) (ns ks : List ℕ) (first : IsPhase plays phase ns) (second : IsPhase plays phase ks) where
      low-ns : InPhase m frames sources plays phase ns
      low-ns = all_inside ns (number_inside plays phase ns first)

      low-ks : InPhase m frames sources plays phase ks
      low-ks = all_inside ks (number_inside plays phase ks second)

      same_local : (n : List ℕ) → Local m frames sources plays phase n a a
      same_local n = record { version = refl; since = refl; held = refl; agree = λ d t e r h. refl }

      alone_ns : (n : List ℕ) → LaneIs m frames sources plays phase n (ran m frames sources plays a ns).0 (ran m frames sources plays a ns).1 (ran m frames sources plays a (filter (in_lane plays (task_named n)) ns))
      alone_ns n = lane_alone m frames sources plays phase n ns a a timely low-ns apart fine (same_local n)

      alone_ks : (n : List ℕ) → LaneIs m frames sources plays phase n (ran m frames sources plays a ks).0 (ran m frames sources plays a ks).1 (ran m frames sources plays a (filter (in_lane plays (task_named n)) ks))
      alone_ks n = lane_alone m frames sources plays phase n ks a a timely low-ks apart fine (same_local n)

      same_order : (n : List ℕ) → filter (in_lane plays (task_named n)) ns ≡ filter (in_lane plays (task_named n)) ks
      same_order n = first.in_order (task_named n) ∙ sym (second.in_order (task_named n))

      pub same_lane_entries : (n : List ℕ) → filter (entry_in plays (task_named n)) (ran m frames sources plays a ns).0 ≡ filter (entry_in plays (task_named n)) (ran m frames sources plays a ks).0
      same_lane_entries n = (alone_ns n).entries ∙ (ap (λ z. (ran m frames sources plays a z).0) (same_order n) ∙ sym (alone_ks n).entries)

      both_local : (n : List ℕ) → Local m frames sources plays phase n (ran m frames sources plays a ns).1 (ran m frames sources plays a ks).1
      both_local n =
          let l = subst (λ z. Local m frames sources plays phase n (ran m frames sources plays a ns).1 (ran m frames sources plays a z).1) (same_order n) (alone_ns n).local in
          then_local m frames sources plays phase n (ran m frames sources plays a ns).1 (ran m frames sources plays a (filter (in_lane plays (task_named n)) ks)).1 (ran m frames sources plays a ks).1 l
          (back_local m frames sources plays phase n (ran m frames sources plays a ks).1 (ran m frames sources plays a (filter (in_lane plays (task_named n)) ks)).1 (alone_ks n).local)

      keeps_ns : Steps m frames sources plays a (ran m frames sources plays a ns).1
      keeps_ns = ran_keeps ns a fine

      keeps_ks : Steps m frames sources plays a (ran m frames sources plays a ks).1
      keeps_ks = ran_keeps ks a fine

      same_region : (r : ℕ) → bytes_at (ran m frames sources plays a ns).1.store r ≡ bytes_at (ran m frames sources plays a ks).1.store r
      same_region r = ⊎_elim written untouched (either (dichotomy phase.0 phase.1))
        where
          dichotomy : (a b : ℕ) → (a ≤ b) ⊎ (b < a)
          dichotomy zero b = inl (omega arith)
          dichotomy (suc a) zero = inr (omega arith)
          dichotomy (suc a) (suc b) = ⊎_elim (λ h. inl (omega arith)) (λ h. inr (omega arith)) (dichotomy a b)

          either : (phase.0 ≤ phase.1) ⊎ (phase.1 < phase.0) → IsWriter a.version r ⊎ ((n : ℕ) → phase.0 ≤ n → n < phase.1 → NotAt a.version r (play_numbered plays n))
          either (inl h) = scanned a.version r phase.0 (phase.1 - phase.0) (omega arith) (omega arith)
          either (inr h) = inr (λ n l g. absurd (omega arith))

          written : IsWriter a.version r → bytes_at (ran m frames sources plays a ns).1.store r ≡ bytes_at (ran m frames sources plays a ks).1.store r
          written w =
              let v = keeps_ns.version in
              let named = ap (λ z. m.named z w.name) v ∙ w.named in
              let low = frames.named-below a.version w.name w.task fine.right w.named in
              let reads = frames.writes-read a.version w.task r fine.right low w.writes in
              (both_local w.name).agree w.cycles w.task named r (subst (λ z. Has (m.reads z w.task) r) (sym v) reads)

          untouched : ((n : ℕ) → phase.0 ≤ n → n < phase.1 → NotAt a.version r (play_numbered plays n)) → bytes_at (ran m frames sources plays a ns).1.store r ≡ bytes_at (ran m frames sources plays a ks).1.store r
          untouched n = ran_stays ns a r fine low-ns n ∙ sym (ran_stays ks a r fine low-ks n)

      pub same_state : (ran m frames sources plays a ns).1 ≡ (ran m frames sources plays a ks).1
      same_state =
          joined (ran m frames sources plays a ns).1 (ran m frames sources plays a ks).1 (keeps_ns.version ∙ sym keeps_ks.version)
          (same_contents (ran m frames sources plays a ns).1.store (ran m frames sources plays a ks).1.store lengths same_region)
          (fun_ext (λ n. (both_local n).held)) (keeps_ns.since ∙ sym keeps_ks.since)
        where
          lengths : length (ran m frames sources plays a ns).1.store ≡ length (ran m frames sources plays a ks).1.store
          lengths = keeps_ns.fine.whole.0 ∙ (ap m.region_total (keeps_ns.version ∙ sym keeps_ks.version) ∙ sym keeps_ks.fine.whole.0)

          joined : (x y : OneState W) → x.version ≡ y.version → x.store ≡ y.store → x.held ≡ y.held → x.since ≡ y.since → x ≡ y
          joined x y v s h i =
              ap (λ z. record { version = z; store = x.store; held = x.held; since = x.since }) v
              ∙ (ap (λ z. record { version = y.version; store = z; held = x.held; since = x.since }) s
              ∙ (ap (λ z. record { version = y.version; store = y.store; held = z; since = x.since }) h ∙ ap (λ z. record { version = y.version; store = y.store; held = y.held; since = z }) i))
