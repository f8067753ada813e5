-- The readers that lines lead to, part by part.
use Rattle.std.proofs.Common.{◌≡◌, ℕ, ◌+◌, ◌<◌, ◌≤◌, Bool, true, false, List, [], ◌∷◌, ◌++◌, length, Option, Some, None, fold, refl, sym, ◌∙◌, subst, arith, append_assoc, length-append}
use Rattle.std.specs.Prelude.{nat_le, nat_lt, count_by, cond, if◌then◌else◌}
use Rattle.std.specs.List.{flat_map, list_any}
use Rattle.std.proofs.lemmas.Bool.{leb-true, ltb-true}
use Rattle.std.proofs.lemmas.Bool.Decides.{nat_tests}
use Rattle.std.proofs.lemmas.List.{append-nil}
use Rattle.std.proofs.lemmas.List.Sums.{fold-append, sum_by-cons}
use Rattle.plc_text.specs.Words.{same}
use Rattle.cycle_journal.specs.declared.play.Play.{Play}
use Rattle.cycle_journal.specs.declared.play.Play.TheVariants.{Cycle, Change, Reset}
use Rattle.scenario.specs.Reading.{is_change, tasks_of_play, with_name}
use Rattle.scenario.specs.declared.played.Played.{Played}
use Rattle.scenario.specs.declared.reader.Part.TheVariants.{Program, Source, Plays, End}
use Rattle.scenario.specs.declared.reader.Reader.{Reader}
use Rattle.scenario.specs.Private.PlayLine.{◌>>=◌}
use Rattle.scenario.specs.Private.Played.{nothing_played, with_change, counted, with_play}
use Rattle.scenario.specs.Private.Reader.{step, run}

abbrev pub Lines : Type 0
Lines = List (List ℕ)

abbrev pub Sources : Type 0
Sources = List (List ℕ × List ℕ)

-- The reader behind `@program` and lines of this text, behind the beginning of a source, behind `@plays` and some plays, and
-- behind `@end`.
abbrev pub in_program : List ℕ → Reader
in_program program = record { part = Program; program = program; sources = []; name = []; text = []; played = nothing_played }

abbrev pub in_source : List ℕ → Sources → List ℕ → List ℕ → Reader
in_source program sources name text = record { part = Source; program = program; sources = sources; name = name; text = text; played = nothing_played }

abbrev pub in_plays : List ℕ → Sources → Played → Reader
in_plays program sources played = record { part = Plays; program = program; sources = sources; name = []; text = []; played = played }

abbrev pub at_end : List ℕ → Sources → Played → Reader
at_end program sources played = record { part = End; program = program; sources = sources; name = []; text = []; played = played }

-- lines after lines
run_after : (s : Option Reader) (front more : Lines) → ((q : Reader) → run q (front ++ more) ≡ (run q front >>= λ o. run o more))
    → (s >>= λ q. run q (front ++ more)) ≡ ((s >>= λ q. run q front) >>= λ q. run q more)
run_after None front more later = refl
run_after (Some q) front more later = later q

pub run-append : (r : Reader) (front more : Lines) → run r (front ++ more) ≡ (run r front >>= λ q. run q more)
run-append r [] more = refl
run-append r (line ∷ front) more = run_after (step r line) front more (λ q. run-append q front more)

-- what one more play counts
abbrev pub count_change : ℕ → Play → ℕ
count_change n (Change source at) = n + 1
count_change n _ = n

abbrev pub one_more : Played → Play → Played
one_more p play = record p {
  plays = p.plays ++ play ∷ [];
  next = p.next + 1;
  changes = count_change p.changes play;
  tasks = fold with_name p.tasks (tasks_of_play play);
}

-- the limits allow the play
abbrev pub Allows : Played → Play → Type 0
Allows p play = (p.next ≤ 65536) × (count_change p.changes play ≤ 256) × (length (fold with_name p.tasks (tasks_of_play play)) ≤ 32)

task_is : (p : Played) (play : Play) (task : List ℕ) (is : Bool) → list_any (same task) p.tasks ≡ is → length (if is then p.tasks else p.tasks ++ task ∷ []) ≤ 32
    → ((if is then Some p else if nat_lt (length p.tasks) 32 then Some (record p { tasks = p.tasks ++ task ∷ [] }) else None)
    >>= λ q. Some (record q { plays = q.plays ++ play ∷ []; next = q.next + 1 }))
    ≡ Some (record p { plays = p.plays ++ play ∷ []; next = p.next + 1; tasks = (if is then p.tasks else p.tasks ++ task ∷ []) })
task_is p play task true e l = refl
task_is p play task false e l =
    let room : nat_lt (length p.tasks) 32 ≡ true = small (length p.tasks) (omega (arith, l, length-append p.tasks (task ∷ []))) in
    rw room
  where
    small : (n : ℕ) → n < 32 → nat_lt n 32 ≡ true
    small n h = grind (arith, nat_tests)

change_is : (p : Played) (play : Play) → p.changes + 1 ≤ 256
    → (with_change p >>= λ q. Some (record q { plays = q.plays ++ play ∷ []; next = q.next + 1 }))
    ≡ Some (record p { plays = p.plays ++ play ∷ []; next = p.next + 1; changes = p.changes + 1 })
change_is p play l = let room : nat_lt p.changes 256 ≡ true = small p.changes (omega arith) in rw room
  where
    small : (n : ℕ) → n < 256 → nat_lt n 256 ≡ true
    small n h = grind (arith, nat_tests)

counted_is : (p : Played) (play : Play) → Allows p play
    → (counted p play >>= λ q. Some (record q { plays = q.plays ++ play ∷ []; next = q.next + 1 })) ≡ Some (one_more p play)
counted_is p (Cycle task now input) h = task_is p (Cycle task now input) task (list_any (same task) p.tasks) refl h.2
counted_is p (Change source n) h = change_is p (Change source n) h.1
counted_is p (Reset task) h = task_is p (Reset task) task (list_any (same task) p.tasks) refl h.2

pub with_play-is : (p : Played) (play : Play) → Allows p play → with_play p play ≡ Some (one_more p play)
with_play-is p play h =
    let room : nat_le p.next 65536 ≡ true = small p.next h.0 in
    rw room (counted_is p play h)
  where
    small : (n : ℕ) → n ≤ 65536 → nat_le n 65536 ≡ true
    small n l = grind (arith, nat_tests)

-- and where the limits do not allow it, nothing is added
task_some : (p : Played) (play : Play) (task : List ℕ) (is : Bool) (q : Played) → list_any (same task) p.tasks ≡ is → length p.tasks ≤ 32
    → ((if is then Some p else if nat_lt (length p.tasks) 32 then Some (record p { tasks = p.tasks ++ task ∷ [] }) else None)
    >>= λ q. Some (record q { plays = q.plays ++ play ∷ []; next = q.next + 1 })) ≡ Some q
    → (q ≡ record p { plays = p.plays ++ play ∷ []; next = p.next + 1; tasks = (if is then p.tasks else p.tasks ++ task ∷ []) })
    × (length (if is then p.tasks else p.tasks ++ task ∷ []) ≤ 32)
task_some p play task true q e l h = (cc, l)
task_some p play task false q e l h = room (nat_lt (length p.tasks) 32) refl h
  where
    snoc : (names : Lines) (name : List ℕ) → length names < 32 → length (names ++ name ∷ []) ≤ 32
    snoc names name h = omega (arith, length-append names (name ∷ []))

    room : (is : Bool) → nat_lt (length p.tasks) 32 ≡ is
        → ((if is then Some (record p { tasks = p.tasks ++ task ∷ [] }) else None) >>= λ q. Some (record q { plays = q.plays ++ play ∷ []; next = q.next + 1 })) ≡ Some q
        → (q ≡ record p { plays = p.plays ++ play ∷ []; next = p.next + 1; tasks = p.tasks ++ task ∷ [] }) × (length (p.tasks ++ task ∷ []) ≤ 32)
    room true e h = (cc, snoc p.tasks task (ltb-true (length p.tasks) 32 e))
    room false e h = absurd cc

change_some : (p : Played) (play : Play) (is : Bool) (q : Played) → nat_lt p.changes 256 ≡ is
    → ((if is then Some (record p { changes = p.changes + 1 }) else None) >>= λ q. Some (record q { plays = q.plays ++ play ∷ []; next = q.next + 1 })) ≡ Some q
    → (q ≡ record p { plays = p.plays ++ play ∷ []; next = p.next + 1; changes = p.changes + 1 }) × (p.changes + 1 ≤ 256)
change_some p play true q e h = (cc, let l = ltb-true p.changes 256 e in omega arith)
change_some p play false q e h = absurd cc

-- the numbers are within their limits
pub record Within (p : Played) : Type 0 where
  pub next : p.next ≤ 65537
  pub changes : p.changes ≤ 256
  pub tasks : length p.tasks ≤ 32

counted_some : (p : Played) (play : Play) (q : Played) → Within p
    → (counted p play >>= λ q. Some (record q { plays = q.plays ++ play ∷ []; next = q.next + 1 })) ≡ Some q
    → (q ≡ one_more p play) × (count_change p.changes play ≤ 256) × (length (fold with_name p.tasks (tasks_of_play play)) ≤ 32)
counted_some p (Cycle task now input) q w h =
    let is = task_some p (Cycle task now input) task (list_any (same task) p.tasks) q refl w.tasks h in
    (is.0, w.changes, is.1)
counted_some p (Change source n) q w h =
    let is = change_some p (Change source n) (nat_lt p.changes 256) q refl h in
    (is.0, is.1, w.tasks)
counted_some p (Reset task) q w h =
    let is = task_some p (Reset task) task (list_any (same task) p.tasks) q refl w.tasks h in
    (is.0, w.changes, is.1)

pub with_play-some : (p : Played) (play : Play) (q : Played) → Within p → with_play p play ≡ Some q → (q ≡ one_more p play) × Allows p play × Within (one_more p play)
with_play-some p play q w h = room (nat_le p.next 65536) refl h
  where
    room : (is : Bool) → nat_le p.next 65536 ≡ is
        → (if is then (counted p play >>= λ q. Some (record q { plays = q.plays ++ play ∷ []; next = q.next + 1 })) else None) ≡ Some q
        → (q ≡ one_more p play) × Allows p play × Within (one_more p play)
    room false e h = absurd cc
    room true e h =
        let is = counted_some p play q w h in
        let l = leb-true p.next 65536 e in
        (is.0, (l, is.1, is.2), record { next = omega arith; changes = is.1; tasks = is.2 })

-- some more plays
abbrev pub more_plays : Played → List Play → Played
more_plays p plays = fold one_more p plays

pub plays-more_plays : (p : Played) (plays : List Play) → (more_plays p plays).plays ≡ p.plays ++ plays
plays-more_plays p [] = sym (append-nil p.plays)
plays-more_plays p (play ∷ plays) = plays-more_plays (one_more p play) plays ∙ append_assoc p.plays (play ∷ []) plays

pub next-more_plays : (p : Played) (plays : List Play) → (more_plays p plays).next ≡ p.next + length plays
next-more_plays p [] = omega arith
next-more_plays p (play ∷ plays) = let rest = next-more_plays (one_more p play) plays in omega (arith, rest)

pub phases-more_plays : (p : Played) (plays : List Play) → ((more_plays p plays).phases ≡ p.phases) × ((more_plays p plays).first ≡ p.first)
phases-more_plays p [] = (refl, refl)
phases-more_plays p (play ∷ plays) = phases-more_plays (one_more p play) plays

-- the limits allow all of these plays
pub record AllowsAll (p : Played) (plays : List Play) : Type 0 where
  pub few-plays : p.next + length plays ≤ 65537
  pub few-changes : fold count_change p.changes plays ≤ 256
  pub few-tasks : length (fold with_name p.tasks (flat_map tasks_of_play plays)) ≤ 32

counts_up : (plays : List Play) (n : ℕ) → n ≤ fold count_change n plays
counts_up [] n = omega arith
counts_up (Cycle task now input ∷ plays) n = counts_up plays n
counts_up (Change source at ∷ plays) n = let rest = counts_up plays (n + 1) in omega arith
counts_up (Reset task ∷ plays) n = counts_up plays n

name_kept : (names : Lines) (name : List ℕ) (is : Bool) → length names ≤ length (if is then names else names ++ name ∷ [])
name_kept names name true = omega arith
name_kept names name false = omega (arith, length-append names (name ∷ []))

names_up : (more names : Lines) → length names ≤ length (fold with_name names more)
names_up [] names = omega arith
names_up (name ∷ more) names =
    let one = name_kept names name (list_any (same name) names) in
    let rest = names_up more (with_name names name) in
    omega arith

pub before_changes : (plays : List Play) (n : ℕ) → fold count_change n plays ≤ 256 → n ≤ 256
before_changes plays n h = let up = counts_up plays n in omega arith

pub before_tasks : (more names : Lines) → length (fold with_name names more) ≤ 32 → length names ≤ 32
before_tasks more names h = let up = names_up more names in omega arith

pub allows_first : (p : Played) (play : Play) (plays : List Play) → AllowsAll p (play ∷ plays) → Allows p play × AllowsAll (one_more p play) plays
allows_first p play plays h =
    let tasks = fold-append with_name p.tasks (tasks_of_play play) (flat_map tasks_of_play plays) in
    let up = counts_up plays (count_change p.changes play) in
    let names = names_up (flat_map tasks_of_play plays) (fold with_name p.tasks (tasks_of_play play)) in
    let few : length (fold with_name (fold with_name p.tasks (tasks_of_play play)) (flat_map tasks_of_play plays)) ≤ 32 = subst (λ (ns : Lines). length ns ≤ 32) tasks h.few-tasks in (
      (omega (arith, h.few-plays), omega (arith, h.few-changes), omega arith),
      record { few-plays = omega (arith, h.few-plays); few-changes = h.few-changes; few-tasks = few },
    )

pub allows_more : (p : Played) (play : Play) (plays : List Play) → AllowsAll (one_more p play) plays → AllowsAll p (play ∷ plays)
allows_more p play plays h =
    let tasks = fold-append with_name p.tasks (tasks_of_play play) (flat_map tasks_of_play plays) in
    record {
      few-plays = omega (arith, h.few-plays);
      few-changes = h.few-changes;
      few-tasks = subst (λ (ns : Lines). length ns ≤ 32) (sym tasks) h.few-tasks;
    }

pub allows_none : (p : Played) → Within p → AllowsAll p []
allows_none p w = record { few-plays = omega (arith, w.next); few-changes = w.changes; few-tasks = w.tasks }

-- how many changes there are
pub fold-count_change : (plays : List Play) (n : ℕ) → fold count_change n plays ≡ n + count_by is_change plays
fold-count_change [] n = omega arith
fold-count_change (Cycle task now input ∷ plays) n = fold-count_change plays n
fold-count_change (Change source at ∷ plays) n =
    let rest = fold-count_change plays (n + 1) in
    let one : count_by is_change (Change source at ∷ plays) ≡ 1 + count_by is_change plays = sum_by-cons (λ (x : Play). cond (is_change x) 1 0) (Change source at) plays in
    omega (arith, rest, one)
fold-count_change (Reset task ∷ plays) n = fold-count_change plays n
