-- Which lines a scenario begins with, and the first line that none does.
use Rattle.std.proofs.Common.{◌≡◌, ℕ, zero, suc, ◌+◌, ◌<◌, Bool, true, false, ◌&&◌, List, [], ◌∷◌, ◌++◌, length, drop, Option, Some, None, refl, sym, ap, ◌∙◌, subst, arith, length-append}
use Rattle.std.specs.Prelude.{codes, nat_eq, nat_lt, not, is_some, IsUtf8, if◌then◌else◌}
use Rattle.std.specs.List.{AllByRecursion, list_all, starts_with}
use Rattle.std.specs.Str.{IsAscii}
use Rattle.std.proofs.lemmas.Bool.{and_parts, ltb-true}
use Rattle.std.proofs.lemmas.Str.{IsUtf8-from_ascii}
use Rattle.std.proofs.lemmas.List.{append-nil}
use Rattle.plc_text.specs.Lines.{ended, FirstBad}
use Rattle.plc_text.specs.Text.{folded}
use Rattle.plc_text.specs.Words.{same, is_word}
use Rattle.st_names.specs.Names.{HasName}
use Rattle.plc_text.proofs.LineLaws.{first_bad}
use Rattle.scenario.specs.Scenario.{Contents}
use Rattle.scenario.specs.Reading.{scenario_lines, IsScenario, CanBegin, NoScenario}
use Rattle.scenario.specs.declared.reader.Part.{Part}
use Rattle.scenario.specs.declared.reader.Part.TheVariants.{Start, Program, Source, Plays, End}
use Rattle.scenario.specs.declared.reader.Reader.{Reader}
use Rattle.scenario.specs.Private.PlayLine.{◌>>=◌, place_of, play_in}
use Rattle.scenario.specs.Private.Played.{with_phase, with_play}
use Rattle.scenario.specs.Private.Reader.{start, with_source, opened, directed, is_directive, step_in, step, run, IsFreshIn, IsFresh, outcome, held_by}
use Rattle.scenario.proofs.EndLaws.{few_lines}
use Rattle.scenario.proofs.PlaceLaws.{free-is}
use Rattle.scenario.proofs.PlayLineLaws.{bound, chosen}
use Rattle.scenario.proofs.StateLaws.{Lines, run-append}
use Rattle.scenario.proofs.FormLaws.{run-scenario}
use Rattle.scenario.proofs.SoundLaws.{is_scenario}

-- from each part on lines lead to an end
pub record Ends (r : Reader) : Type 0 where
  pub more : Lines
  pub utf8 : AllByRecursion IsUtf8 more
  pub last : Reader
  pub run-is : run r more ≡ Some last
  pub done : outcome last.part last ≡ Some (held_by last)

ascii : (bytes : List ℕ) → list_all (λ b. nat_lt b 128) bytes ≡ true → IsAscii bytes
ascii [] h i = omega arith
ascii (b ∷ bytes) h zero = ltb-true b 128 (and_parts (nat_lt b 128) (list_all (λ c. nat_lt c 128) bytes) h).0
ascii (b ∷ bytes) h (suc i) = ascii bytes (and_parts (nat_lt b 128) (list_all (λ c. nat_lt c 128) bytes) h).1 i

program_line : IsUtf8 (codes "@program")
program_line = IsUtf8-from_ascii (codes "@program") (ascii (codes "@program") refl)

plays_line : IsUtf8 (codes "@plays")
plays_line = IsUtf8-from_ascii (codes "@plays") (ascii (codes "@plays") refl)

end_line : IsUtf8 (codes "@end")
end_line = IsUtf8-from_ascii (codes "@end") (ascii (codes "@end") refl)

ends_in : (part : Part) (r : Reader) → Ends (record r { part = part })
ends_in Start r = record { more = codes "@program" ∷ codes "@plays" ∷ codes "@end" ∷ []; utf8 = (program_line, (plays_line, (end_line, tt))); last = _; run-is = refl; done = refl }
ends_in Program r = record { more = codes "@plays" ∷ codes "@end" ∷ []; utf8 = (plays_line, (end_line, tt)); last = _; run-is = refl; done = refl }
ends_in Source r = record { more = codes "@plays" ∷ codes "@end" ∷ []; utf8 = (plays_line, (end_line, tt)); last = _; run-is = refl; done = refl }
ends_in Plays r = record { more = codes "@end" ∷ []; utf8 = (end_line, tt); last = _; run-is = refl; done = refl }
ends_in End r = record { more = []; utf8 = tt; last = _; run-is = refl; done = refl }

ends : (r : Reader) → Ends r
ends r = ends_in r.part r

all_utf8 : (front more : Lines) → AllByRecursion IsUtf8 front → AllByRecursion IsUtf8 more → AllByRecursion IsUtf8 (front ++ more)
all_utf8 [] more h k = k
all_utf8 (line ∷ front) more h k = (h.0, all_utf8 front more h.1 k)

utf8_front : (front more : Lines) → AllByRecursion IsUtf8 (front ++ more) → AllByRecursion IsUtf8 front
utf8_front [] more h = tt
utf8_front (line ∷ front) more h = (h.0, utf8_front front more h.1)

-- lines that lead a reader on are those that a scenario begins with
pub can_begin : (front : Lines) (r : Reader) → AllByRecursion IsUtf8 front → run start front ≡ Some r → CanBegin front
can_begin front r utf8 e =
    let on = ends r in
    let whole : run start (front ++ on.more) ≡ Some on.last = run-append start front on.more ∙ ap (λ (s : Option Reader). s >>= λ q. run q on.more) e ∙ on.run-is in
    (held_by on.last, on.more, is_scenario (front ++ on.more) on.last (held_by on.last) (all_utf8 front on.more utf8 on.utf8) whole on.done)

begun : (front : Lines) → CanBegin front → (r : Reader) × (run start front ≡ Some r) × AllByRecursion IsUtf8 front
begun front can =
    let whole = run-scenario (front ++ can.1) can.0 can.2 in
    let first = bound (run start front) (λ q. run q can.1) whole.0 (sym (run-append start front can.1) ∙ whole.1) in
    (first.0, first.1, utf8_front front can.1 can.2.utf8)

-- a name is looked for before a source of it begins
opened_fresh : (r q : Reader) (name : List ℕ) → opened r name ≡ Some q → IsFresh q
opened_fresh r q name e =
    let may = chosen (is_word name && (not (is_some (place_of r.sources (folded name))) && nat_lt (length r.sources) 256)) (Some (record r { part = Source; name = folded name })) q e in
    let free = and_parts (not (is_some (place_of r.sources (folded name)))) (nat_lt (length r.sources) 256) (and_parts (is_word name) (not (is_some (place_of r.sources (folded name))) && nat_lt (length r.sources) 256) may.0).1 in
    let none = not_true (is_some (place_of r.sources (folded name))) free.0 in
    let is : record r { part = Source; name = folded name } ≡ q = cc in
    subst IsFresh is (free-is r.sources (folded name) none)
  where
    not_true : (b : Bool) → not b ≡ true → b ≡ false
    not_true true h = absurd cc
    not_true false h = refl

directed_fresh : (r q : Reader) (line : List ℕ) (plays source : Bool)
    → (if plays then Some (record r { part = Plays }) else if source then opened r (drop 8 line) else None) ≡ Some q → IsFresh q
directed_fresh r q line true source e = let is : record r { part = Plays } ≡ q = cc in subst IsFresh is tt
directed_fresh r q line false true e = opened_fresh r q (drop 8 line) e
directed_fresh r q line false false e = absurd cc

played_fresh : (r q : Reader) (line : List ℕ) (ends syncs : Bool) → r.part ≡ Plays
    → (if ends then Some (record r { part = End; played = with_phase r.played }) else if syncs then Some (record r { played = with_phase r.played })
    else (play_in r.sources line >>= λ play. with_play r.played play >>= λ played. Some (record r { played = played }))) ≡ Some q → IsFresh q
played_fresh r q line true syncs at e = let is : record r { part = End; played = with_phase r.played } ≡ q = cc in subst IsFresh is tt
played_fresh r q line false true at e =
    let is : record r { played = with_phase r.played } ≡ q = cc in
    subst IsFresh is (subst (λ (p : Part). IsFreshIn p (record r { played = with_phase r.played })) (sym at) tt)
played_fresh r q line false false at e =
    let play = bound (play_in r.sources line) (λ play. with_play r.played play >>= λ played. Some (record r { played = played })) q e in
    let added = bound (with_play r.played play.0) (λ played. Some (record r { played = played })) q play.2 in
    let there = added.2 in
    let is : record r { played = added.0 } ≡ q = cc in
    subst IsFresh is (subst (λ (p : Part). IsFreshIn p (record r { played = added.0 })) (sym at) tt)

program_fresh : (r q : Reader) (line : List ℕ) (is : Bool) → r.part ≡ Program
    → (if is then directed r line else Some (record r { program = r.program ++ ended line })) ≡ Some q → IsFresh q
program_fresh r q line true at e = directed_fresh r q line (same line (codes "@plays")) (starts_with nat_eq line (codes "@source ")) e
program_fresh r q line false at e =
    let is : record r { program = r.program ++ ended line } ≡ q = cc in
    subst IsFresh is (subst (λ (p : Part). IsFreshIn p (record r { program = r.program ++ ended line })) (sym at) tt)

source_fresh : (r q : Reader) (line : List ℕ) (is : Bool) → r.part ≡ Source → (HasName r.sources r.name → ⊥)
    → (if is then directed (with_source r) line else Some (record r { text = r.text ++ ended line })) ≡ Some q → IsFresh q
source_fresh r q line true at fresh e = directed_fresh (with_source r) q line (same line (codes "@plays")) (starts_with nat_eq line (codes "@source ")) e
source_fresh r q line false at fresh e =
    let is : record r { text = r.text ++ ended line } ≡ q = cc in
    subst IsFresh is (subst (λ (p : Part). IsFreshIn p (record r { text = r.text ++ ended line })) (sym at) fresh)

step_fresh : (part : Part) (r q : Reader) (line : List ℕ) → r.part ≡ part → IsFreshIn part r → step_in part r line ≡ Some q → IsFresh q
step_fresh Start r q line at fresh e =
    let may = chosen (same line (codes "@program")) (Some (record r { part = Program })) q e in
    let there = may.1 in
    let is : record r { part = Program } ≡ q = cc in
    subst IsFresh is tt
step_fresh Program r q line at fresh e = program_fresh r q line (is_directive line) at e
step_fresh Source r q line at fresh e = source_fresh r q line (is_directive line) at fresh e
step_fresh Plays r q line at fresh e = played_fresh r q line (same line (codes "@end")) (same line (codes "sync")) at e
step_fresh End r q line at fresh e =
    let may = chosen (same line []) (Some r) q e in
    let there = may.1 in
    let is : r ≡ q = cc in
    subst IsFresh is (subst (λ (p : Part). IsFreshIn p r) (sym at) tt)

-- what is known of the lines that were read, and of those that are left
pub record HasRead (lines : Lines) (r : Reader) (left : Lines) (number : ℕ) : Type 0 where
  pub front : Lines
  pub split : lines ≡ front ++ left
  pub run-is : run start front ≡ Some r
  pub utf8 : AllByRecursion IsUtf8 front
  pub fresh : IsFresh r
  pub counted : number ≡ length front

pub counts : (bytes : List ℕ) (r : Reader) (left : Lines) (number : ℕ) → length bytes < 4294967295 → HasRead (scenario_lines bytes) r left number → number < 4294967295
counts bytes r left number l h = omega (arith, h.counted, ap length h.split, length-append h.front left, few_lines bytes)

pub reads_none : (lines : Lines) (r : Reader) → r ≡ start → HasRead lines r lines 0
reads_none lines r e = record { front = []; split = refl; run-is = ap (λ (x : Reader). Some x) (sym e); utf8 = tt; fresh = subst IsFresh (sym e) tt; counted = refl }

pub reads_one : (lines : Lines) (r q : Reader) (line : List ℕ) (left : Lines) (number : ℕ) → HasRead lines r (line ∷ left) number → IsUtf8 line → step r line ≡ Some q
    → HasRead lines q left (number + 1)
reads_one lines r q line left number h utf8 e =
    record {
      front = h.front ++ line ∷ [];
      split = h.split ∙ sym (append_one h.front line left);
      run-is = run-append start h.front (line ∷ []) ∙ ap (λ (s : Option Reader). s >>= λ q. run q (line ∷ [])) h.run-is ∙ ap (λ (s : Option Reader). s >>= λ q. run q []) e;
      utf8 = all_utf8 h.front (line ∷ []) h.utf8 (utf8, tt);
      fresh = step_fresh r.part r q line refl h.fresh e;
      counted = omega (arith, h.counted, length-append h.front (line ∷ []));
    }
  where
    append_one : (front : Lines) (line : List ℕ) (left : Lines) → (front ++ line ∷ []) ++ left ≡ front ++ line ∷ left
    append_one [] line left = refl
    append_one (l ∷ front) line left = ap (λ (ls : Lines). l ∷ ls) (append_one front line left)

-- the line behind those that were read can't stand
abbrev pub IsBad : Lines → ℕ → Type 0
IsBad lines number = NoScenario lines × FirstBad CanBegin lines number

cannot : (front : Lines) (r : Reader) (line : List ℕ) → run start front ≡ Some r → (IsUtf8 line → step r line ≡ None) → CanBegin (front ++ line ∷ []) → ⊥
cannot front r line e stuck can =
    let b = begun (front ++ line ∷ []) can in
    let last = utf8_last front line b.2 in
    let there : run start (front ++ line ∷ []) ≡ (step r line >>= λ q. run q []) = run-append start front (line ∷ []) ∙ ap (λ (s : Option Reader). s >>= λ q. run q (line ∷ [])) e in
    let none = ap (λ (s : Option Reader). s >>= λ q. run q []) (stuck last) in
    let wrong : Some b.0 ≡ None = sym b.1 ∙ there ∙ none in
    cc
  where
    utf8_last : (front : Lines) (line : List ℕ) → AllByRecursion IsUtf8 (front ++ line ∷ []) → IsUtf8 line
    utf8_last [] line h = h.0
    utf8_last (l ∷ front) line h = utf8_last front line h.1

pub bad_line : (lines : Lines) (r : Reader) (line : List ℕ) (left : Lines) (number : ℕ) → HasRead lines r (line ∷ left) number → (IsUtf8 line → step r line ≡ None)
    → IsBad lines (number + 1)
bad_line lines r line left number h stuck =
    let not = cannot h.front r line h.run-is stuck in (
      λ held is. not (held, left, subst (λ (ls : Lines). IsScenario ls held) (h.split ∙ sym (append_one h.front line left)) is),
      first_bad CanBegin lines h.front (line ∷ left) (number + 1) h.split (omega (arith, h.counted)) (can_begin h.front r h.utf8 h.run-is) not,
    )
  where
    append_one : (front : Lines) (line : List ℕ) (left : Lines) → (front ++ line ∷ []) ++ left ≡ front ++ line ∷ left
    append_one [] line left = refl
    append_one (l ∷ front) line left = ap (λ (ls : Lines). l ∷ ls) (append_one front line left)

-- no line is left, and the end was not read
pub bad_end : (lines : Lines) (r : Reader) (number : ℕ) → HasRead lines r [] number → outcome r.part r ≡ None → IsBad lines (number + 1)
bad_end lines r number h none =
    let all : lines ≡ h.front = h.split ∙ append-nil h.front in (
      λ held is. not_held held (run-scenario h.front held (subst (λ (ls : Lines). IsScenario ls held) all is)),
      first_bad CanBegin lines h.front [] (number + 1) h.split (omega (arith, h.counted)) (can_begin h.front r h.utf8 h.run-is) tt,
    )
  where
    not_held : (held : Contents) → (q : Reader) × (run start h.front ≡ Some q) × (outcome q.part q ≡ Some held) → ⊥
    not_held held (q, e, told) =
        let one : r ≡ q = cc in
        let wrong : None ≡ Some held = sym none ∙ ap (λ (x : Reader). outcome x.part x) one ∙ told in
        cc

pub whole : (lines : Lines) (r : Reader) (number : ℕ) (held : Contents) → HasRead lines r [] number → outcome r.part r ≡ Some held → IsScenario lines held
whole lines r number held h told =
    let all : h.front ≡ lines = sym (append-nil h.front) ∙ sym h.split in
    subst (λ (ls : Lines). IsScenario ls held) all (is_scenario h.front r held h.utf8 h.run-is told)

pub one_scenario_lem : (lines : Lines) (held other : Contents) → IsScenario lines held → IsScenario lines other → held ≡ other
one_scenario_lem lines held other h k =
    let a = run-scenario lines held h in
    let b = run-scenario lines other k in
    let first = a.1 in
    let second = b.1 in
    let one : a.0 ≡ b.0 = cc in
    let same : Some held ≡ Some other = sym a.2 ∙ ap (λ (x : Reader). outcome x.part x) one ∙ b.2 in
    cc
