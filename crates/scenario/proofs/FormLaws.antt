-- The lines of a scenario lead a reader to what the scenario holds.
use Rattle.std.proofs.Common.{◌≡◌, ℕ, zero, suc, ◌+◌, ◌<◌, ◌≤◌, true, false, ◌&&◌, List, [], ◌∷◌, ◌++◌, length, map, Option, Some, refl, sym, ap, ◌∙◌, subst, arith, append_assoc, length-append}
use Rattle.std.specs.Prelude.{codes, nat_lt, not, is_some, replicate}
use Rattle.std.specs.List.{AllByRecursion, flat_map}
use Rattle.std.proofs.lemmas.List.{append-nil}
use Rattle.std.proofs.lemmas.Bool.Decides.{nat_tests}
use Rattle.plc_text.specs.Lines.{ended, text_of}
use Rattle.plc_text.specs.Text.{folded}
use Rattle.plc_text.specs.Words.{same, is_word}
use Rattle.st_names.specs.Names.{IsAt, HasName, AreDistinct}
use Rattle.cycle_journal.specs.declared.play.Play.{Play}
use Rattle.cycle_journal.specs.declared.play.Play.TheVariants.{Cycle, Change, Reset}
use Rattle.cycle_journal.specs.Interleaving.{Phase}
use Rattle.scenario.specs.Scenario.{Contents}
use Rattle.scenario.specs.Reading.{IsSourceLine, Block, lines_of_block, source_of, IsBlock, IsPlayLine, ArePlayLines, phases_from, tasks_of_play, ArePlayed, IsScenario}
use Rattle.scenario.specs.declared.played.Played.{Played}
use Rattle.scenario.specs.declared.reader.Reader.{Reader}
use Rattle.scenario.specs.Private.PlayLine.{◌>>=◌, place_of}
use Rattle.scenario.specs.Private.Played.{nothing_played, with_phase, with_play}
use Rattle.scenario.specs.Private.Reader.{start, step, run, outcome}
use Rattle.scenario.proofs.PlaceLaws.{is_free}
use Rattle.scenario.proofs.PlayLineLaws.{play_in-is}
use Rattle.scenario.proofs.StateLaws.{Lines, Sources, in_program, in_source, in_plays, at_end, one_more, more_plays, with_play-is, AllowsAll, allows_first, allows_more, before_changes, before_tasks, plays-more_plays, next-more_plays, phases-more_plays, fold-count_change}

-- lines of sources
pub run-program : (program : List ℕ) (lines rest : Lines) → AllByRecursion IsSourceLine lines → run (in_program program) (lines ++ rest) ≡ run (in_program (program ++ text_of lines)) rest
run-program program [] rest h = ap (λ (t : List ℕ). run (in_program t) rest) (sym (append-nil program))
run-program program (line ∷ lines) rest h =
    let plain = h.0 in
    rw plain (run-program (program ++ ended line) lines rest h.1 ∙ ap (λ (t : List ℕ). run (in_program t) rest) (append_assoc program (ended line) (text_of lines)))

pub run-source : (program : List ℕ) (sources : Sources) (name text : List ℕ) (lines rest : Lines) → AllByRecursion IsSourceLine lines
    → run (in_source program sources name text) (lines ++ rest) ≡ run (in_source program sources name (text ++ text_of lines)) rest
run-source program sources name text [] rest h = ap (λ (t : List ℕ). run (in_source program sources name t) rest) (sym (append-nil text))
run-source program sources name text (line ∷ lines) rest h =
    let plain = h.0 in
    rw plain (run-source program sources name (text ++ ended line) lines rest h.1 ∙ ap (λ (t : List ℕ). run (in_source program sources name t) rest) (append_assoc text (ended line) (text_of lines)))

-- names of sources
at_front : (sources more : Sources) (n : ℕ) (name : List ℕ) → IsAt sources n name → IsAt (sources ++ more) n name
at_front [] more n name at = absurd cc
at_front (source ∷ sources) more zero name at = at
at_front (source ∷ sources) more (suc n) name at = at_front sources more n name at

at_behind : (sources more : Sources) (source : List ℕ × List ℕ) → IsAt (sources ++ source ∷ more) (length sources) source.0
at_behind [] more source = refl
at_behind (first ∷ sources) more source = at_behind sources more source

at_within : (sources : Sources) (n : ℕ) (name : List ℕ) → IsAt sources n name → n < length sources
at_within [] n name at = absurd cc
at_within (source ∷ sources) zero name at = omega arith
at_within (source ∷ sources) (suc n) name at = let rest = at_within sources n name at in omega (arith, rest)

pub fresh_before : (sources more : Sources) (source : List ℕ × List ℕ) → AreDistinct (sources ++ source ∷ more) → HasName sources source.0 → ⊥
fresh_before sources more source distinct (n, at) =
    let same = distinct n (length sources) source.0 (at_front sources (source ∷ more) n source.0 at) (at_behind sources more source) in
    let below = at_within sources n source.0 at in
    omega (arith, same, below)

-- a source begins
opened-is : (sources : Sources) (name : List ℕ) → is_word name ≡ true → (HasName sources (folded name) → ⊥) → length sources < 256
    → (is_word name && (not (is_some (place_of sources (folded name))) && nat_lt (length sources) 256)) ≡ true
opened-is sources name w fresh few =
    let free = is_free sources (folded name) fresh in
    let room : nat_lt (length sources) 256 ≡ true = small (length sources) few in
    rw (w, free, room)
  where
    small : (n : ℕ) → n < 256 → nat_lt n 256 ≡ true
    small n h = grind (arith, nat_tests)

run-opened : (program : List ℕ) (name : List ℕ) (rest : Lines) → is_word name ≡ true
    → run (in_program program) ((codes "@source " ++ name) ∷ rest) ≡ run (in_source program [] (folded name) []) rest
run-opened program name rest w =
    let may = opened-is [] name w (λ (h : HasName {V = List ℕ} [] (folded name)). let at = h.1 in cc) (omega arith) in
    rw may

run-reopened : (program : List ℕ) (sources : Sources) (name text next : List ℕ) (rest : Lines) → is_word next ≡ true
    → (HasName (sources ++ (name, text) ∷ []) (folded next) → ⊥) → length (sources ++ (name, text) ∷ []) < 256
    → run (in_source program sources name text) ((codes "@source " ++ next) ∷ rest) ≡ run (in_source program (sources ++ (name, text) ∷ []) (folded next) []) rest
run-reopened program sources name text next rest w fresh few =
    let may = opened-is (sources ++ (name, text) ∷ []) next w fresh few in
    rw may

-- the blocks of sources, up to `@plays`
blocks_behind : (block : Block) (blocks : List Block) (rest : Lines) → flat_map lines_of_block (block ∷ blocks) ++ rest ≡ (codes "@source " ++ block.name) ∷ (block.lines ++ (flat_map lines_of_block blocks ++ rest))
blocks_behind block blocks rest =
    append_assoc (lines_of_block block) (flat_map lines_of_block blocks) rest

run-blocks : (blocks : List Block) (program : List ℕ) (sources : Sources) (name text : List ℕ) (rest : Lines) → AllByRecursion IsBlock blocks
    → AreDistinct ((sources ++ (name, text) ∷ []) ++ map source_of blocks) → length ((sources ++ (name, text) ∷ []) ++ map source_of blocks) ≤ 256
    → run (in_source program sources name text) (flat_map lines_of_block blocks ++ codes "@plays" ∷ rest)
    ≡ run (in_plays program ((sources ++ (name, text) ∷ []) ++ map source_of blocks) nothing_played) rest
run-blocks [] program sources name text rest h distinct few =
    ap (λ (s : Sources). run (in_plays program s nothing_played) rest) (sym (append-nil (sources ++ (name, text) ∷ [])))
run-blocks (block ∷ blocks) program sources name text rest h distinct few =
    let before = sources ++ (name, text) ∷ [] in
    let regrouped = append_assoc before (source_of block ∷ []) (map source_of blocks) in
    let behind = flat_map lines_of_block blocks ++ codes "@plays" ∷ rest in
    let fewer : length before < 256 = omega (arith, few, length-append before (map source_of (block ∷ blocks))) in
    ap (run (in_source program sources name text)) (blocks_behind block blocks (codes "@plays" ∷ rest))
    ∙ run-reopened program sources name text block.name (block.lines ++ behind) h.0.0 (fresh_before before (map source_of blocks) (source_of block) distinct) fewer
    ∙ run-source program before (folded block.name) [] block.lines behind h.0.1
    ∙ run-blocks blocks program before (folded block.name) (text_of block.lines) rest h.1
    (subst AreDistinct (sym regrouped) distinct) (subst (λ (s : Sources). length s ≤ 256) (sym regrouped) few)
    ∙ ap (λ (s : Sources). run (in_plays program s nothing_played) rest) regrouped

pub run-sources : (blocks : List Block) (program : List ℕ) (rest : Lines) → AllByRecursion IsBlock blocks → AreDistinct (map source_of blocks) → length (map source_of blocks) ≤ 256
    → run (in_program program) (flat_map lines_of_block blocks ++ codes "@plays" ∷ rest) ≡ run (in_plays program (map source_of blocks) nothing_played) rest
run-sources [] program rest h distinct few = refl
run-sources (block ∷ blocks) program rest h distinct few =
    let behind = flat_map lines_of_block blocks ++ codes "@plays" ∷ rest in
    ap (run (in_program program)) (blocks_behind block blocks (codes "@plays" ∷ rest))
    ∙ run-opened program block.name (block.lines ++ behind) h.0.0
    ∙ run-source program [] (folded block.name) [] block.lines behind h.0.1
    ∙ run-blocks blocks program [] (folded block.name) (text_of block.lines) rest h.1 distinct few

-- lines of plays
no_directive : (sources : Sources) (line : List ℕ) (play : Play) → IsPlayLine sources line play → (same line (codes "@end") ≡ false) × (same line (codes "sync") ≡ false)
no_directive sources line (Cycle task now input) h = (ap (λ (l : List ℕ). same l (codes "@end")) h.3, ap (λ (l : List ℕ). same l (codes "sync")) h.3)
no_directive sources line (Change source n) h = (ap (λ (l : List ℕ). same l (codes "@end")) h.1, ap (λ (l : List ℕ). same l (codes "sync")) h.1)
no_directive sources line (Reset task) h = (ap (λ (l : List ℕ). same l (codes "@end")) h.1, ap (λ (l : List ℕ). same l (codes "sync")) h.1)

step-play : (program : List ℕ) (sources : Sources) (p : Played) (line : List ℕ) (play : Play) → AreDistinct sources → IsPlayLine sources line play → with_play p play ≡ Some (one_more p play)
    → step (in_plays program sources p) line ≡ Some (in_plays program sources (one_more p play))
step-play program sources p line play distinct h added =
    let apart = no_directive sources line play h in
    let no_end = apart.0 in
    let no_sync = apart.1 in
    let read = play_in-is sources line play distinct h in
    rw (no_end, no_sync, read, added)

pub run-plays : (plays : List Play) (program : List ℕ) (sources : Sources) (p : Played) (lines rest : Lines) → AreDistinct sources → ArePlayLines sources lines plays → AllowsAll p plays
    → run (in_plays program sources p) (lines ++ rest) ≡ run (in_plays program sources (more_plays p plays)) rest
run-plays [] program sources p [] rest distinct h fit = refl
run-plays [] program sources p (line ∷ lines) rest distinct h fit = absurd h
run-plays (play ∷ plays) program sources p [] rest distinct h fit = absurd h
run-plays (play ∷ plays) program sources p (line ∷ lines) rest distinct h fit =
    let allowed = allows_first p play plays fit in
    let one = step-play program sources p line play distinct h.0 (with_play-is p play allowed.0) in
    ap (λ (s : Option Reader). s >>= λ q. run q (lines ++ rest)) one ∙ run-plays plays program sources (one_more p play) lines rest distinct h.1 allowed.1

-- plays in two parts
pub record TwoParts (sources : Sources) (front back : Lines) (plays : List Play) : Type 0 where
  pub first : List Play
  pub second : List Play
  pub split : plays ≡ first ++ second
  pub first-are : ArePlayLines sources front first
  pub second-are : ArePlayLines sources back second

pub two_parts : (sources : Sources) (front back : Lines) (plays : List Play) → ArePlayLines sources (front ++ back) plays → TwoParts sources front back plays
two_parts sources [] back plays h = record { first = []; second = plays; split = refl; first-are = tt; second-are = h }
two_parts sources (line ∷ front) back [] h = absurd h
two_parts sources (line ∷ front) back (play ∷ plays) h =
    let rest = two_parts sources front back plays h.1 in
    record { first = play ∷ rest.first; second = rest.second; split = ap (λ ps. play ∷ ps) rest.split; first-are = (h.0, rest.first-are); second-are = rest.second-are }

pub length-lines : (sources : Sources) (lines : Lines) (plays : List Play) → ArePlayLines sources lines plays → length plays ≡ length lines
length-lines sources [] [] h = refl
length-lines sources [] (play ∷ plays) h = absurd h
length-lines sources (line ∷ lines) [] h = absurd h
length-lines sources (line ∷ lines) (play ∷ plays) h = ap suc (length-lines sources lines plays h.1)

allows_behind : (front back : List Play) (p : Played) → AllowsAll p (front ++ back) → AllowsAll p front × AllowsAll (more_plays p front) back
allows_behind [] back p h = (record { few-plays = omega (arith, h.few-plays); few-changes = before_changes back p.changes h.few-changes; few-tasks = before_tasks (flat_map tasks_of_play back) p.tasks h.few-tasks }, h)
allows_behind (play ∷ front) back p h =
    let first = allows_first p play (front ++ back) h in
    let rest = allows_behind front back (one_more p play) first.1 in
    (allows_more p play front rest.0, rest.1)

-- phases behind the first one, up to `@end`
abbrev synced : Lines → Lines
synced phase = codes "sync" ∷ phase

pub record Ended (program : List ℕ) (sources : Sources) (p : Played) (lines : Lines) (plays : List Play) (further : List Lines) (rest : Lines) : Type 0 where
  pub final : Played
  pub run-is : run (in_plays program sources p) lines ≡ run (at_end program sources final) rest
  pub plays-are : final.plays ≡ p.plays ++ plays
  pub phases-are : final.phases ≡ p.phases ++ (p.first, p.next) ∷ phases_from p.next (map length further)

syncs_behind : (phase : Lines) (further : List Lines) (rest : Lines) → flat_map synced (phase ∷ further) ++ rest ≡ codes "sync" ∷ (phase ++ (flat_map synced further ++ rest))
syncs_behind phase further rest = append_assoc (synced phase) (flat_map synced further) rest

no_more_plays : (sources : Sources) (plays : List Play) → ArePlayLines sources [] plays → plays ≡ []
no_more_plays sources [] h = refl
no_more_plays sources (play ∷ plays) h = absurd h

pub run-phases : (further : List Lines) (program : List ℕ) (sources : Sources) (p : Played) (plays : List Play) (rest : Lines) → AreDistinct sources
    → ArePlayLines sources (flat_map (λ phase. phase) further) plays → AllowsAll p plays
    → Ended program sources p (flat_map synced further ++ codes "@end" ∷ rest) plays further rest
run-phases [] program sources p plays rest distinct h fit =
    let none = no_more_plays sources plays h in
    record {
      final = with_phase p;
      run-is = refl;
      plays-are = sym (append-nil p.plays) ∙ ap (λ ps. p.plays ++ ps) (sym none);
      phases-are = refl;
    }
run-phases (phase ∷ further) program sources p plays rest distinct h fit =
    let parts = two_parts sources phase (flat_map (λ (p : Lines). p) further) plays h in
    let next = with_phase p in
    let split : AllowsAll next (parts.first ++ parts.second) = subst (AllowsAll next) parts.split (record { few-plays = fit.few-plays; few-changes = fit.few-changes; few-tasks = fit.few-tasks }) in
    let fits = allows_behind parts.first parts.second next split in
    let behind = flat_map synced further ++ codes "@end" ∷ rest in
    let last = more_plays next parts.first in
    let ends = run-phases further program sources last parts.second rest distinct parts.second-are fits.1 in
    let same_phases = phases-more_plays next parts.first in
    let counted : last.next ≡ p.next + length phase = next-more_plays next parts.first ∙ ap (λ n. p.next + n) (length-lines sources phase parts.first parts.first-are) in
    record {
      final = ends.final;
      run-is = ap (run (in_plays program sources p)) (syncs_behind phase further (codes "@end" ∷ rest))
          ∙ run-plays parts.first program sources next phase behind distinct parts.first-are fits.0 ∙ ends.run-is;
      plays-are = ends.plays-are ∙ ap (λ ps. ps ++ parts.second) (plays-more_plays next parts.first) ∙ append_assoc p.plays parts.first parts.second
          ∙ ap (λ ps. p.plays ++ ps) (sym parts.split);
      phases-are = ends.phases-are ∙ phases_joined p last phase further same_phases.0 same_phases.1 counted;
    }
  where
    phases_joined : (p last : Played) (phase : Lines) (further : List Lines) → last.phases ≡ p.phases ++ (p.first, p.next) ∷ [] → last.first ≡ p.next → last.next ≡ p.next + length phase
        → last.phases ++ (last.first, last.next) ∷ phases_from last.next (map length further) ≡ p.phases ++ (p.first, p.next) ∷ phases_from p.next (map length (phase ∷ further))
    phases_joined p last phase further a b c =
        ap (λ (ps : List Phase). ps ++ (last.first, last.next) ∷ phases_from last.next (map length further)) a
        ∙ ap (λ (n : ℕ). (p.phases ++ (p.first, p.next) ∷ []) ++ (n, last.next) ∷ phases_from last.next (map length further)) b
        ∙ ap (λ (n : ℕ). (p.phases ++ (p.first, p.next) ∷ []) ++ (p.next, n) ∷ phases_from n (map length further)) c
        ∙ append_assoc p.phases ((p.first, p.next) ∷ []) ((p.next, p.next + length phase) ∷ phases_from (p.next + length phase) (map length further))

-- empty lines behind `@end`
run-empty : (n : ℕ) (program : List ℕ) (sources : Sources) (p : Played) → run (at_end program sources p) (replicate n []) ≡ Some (at_end program sources p)
run-empty zero program sources p = refl
run-empty (suc n) program sources p = run-empty n program sources p

-- all plays
pub run-played : (program : List ℕ) (sources : Sources) (lines rest : Lines) (plays : List Play) (phases : List Phase) → AreDistinct sources → ArePlayed sources lines plays phases
    → (final : Played) × (run (in_plays program sources nothing_played) (lines ++ codes "@end" ∷ rest) ≡ run (at_end program sources final) rest) × (final.plays ≡ plays) × (final.phases ≡ phases)
run-played program sources lines rest plays phases distinct h =
    let parts = two_parts sources h.first (flat_map (λ (p : Lines). p) h.further) plays h.plays-are in
    let all : AllowsAll nothing_played plays = record { few-plays = omega (arith, h.few-plays); few-changes = subst (λ (n : ℕ). n ≤ 256) (sym (fold-count_change plays 0)) (omega (arith, h.few-changes)); few-tasks = h.few-tasks } in
    let split : AllowsAll nothing_played (parts.first ++ parts.second) = subst (AllowsAll nothing_played) parts.split all in
    let fits = allows_behind parts.first parts.second nothing_played split in
    let last = more_plays nothing_played parts.first in
    let behind = flat_map synced h.further ++ codes "@end" ∷ rest in
    let ends = run-phases h.further program sources last parts.second rest distinct parts.second-are fits.1 in
    let same_phases = phases-more_plays nothing_played parts.first in
    let counted : last.next ≡ 1 + length h.first = next-more_plays nothing_played parts.first ∙ ap (λ n. 1 + n) (length-lines sources h.first parts.first parts.first-are) in (
      ends.final,
      ap (λ (ls : Lines). run (in_plays program sources nothing_played) (ls ++ codes "@end" ∷ rest)) h.split
          ∙ ap (run (in_plays program sources nothing_played)) (append_assoc h.first (flat_map synced h.further) (codes "@end" ∷ rest))
          ∙ run-plays parts.first program sources nothing_played h.first behind distinct parts.first-are fits.0 ∙ ends.run-is,
      ends.plays-are ∙ ap (λ ps. ps ++ parts.second) (plays-more_plays nothing_played parts.first) ∙ sym parts.split,
      ends.phases-are ∙ ap (λ (ps : List Phase). ps ++ (last.first, last.next) ∷ phases_from last.next (map length h.further)) same_phases.0
          ∙ ap (λ (n : ℕ). (n, last.next) ∷ phases_from last.next (map length h.further)) same_phases.1
          ∙ ap (λ (n : ℕ). (1, n) ∷ phases_from n (map length h.further)) counted ∙ sym h.phases-are,
    )

-- the whole
pub run-scenario : (lines : Lines) (held : Contents) → IsScenario lines held → (q : Reader) × (run start lines ≡ Some q) × (outcome q.part q ≡ Some held)
run-scenario lines held h =
    let s = h.sources-are in
    let tail = codes "@end" ∷ replicate h.empty [] in
    let played = run-played (text_of h.program) held.sources h.played (replicate h.empty []) held.plays held.phases s.distinct h.played-are in
    let sources : map source_of s.blocks ≡ held.sources = sym s.sources-are in
    let good : AreDistinct (map source_of s.blocks) = subst AreDistinct s.sources-are s.distinct in
    let few : length (map source_of s.blocks) ≤ 256 = subst (λ (ss : Sources). length ss ≤ 256) s.sources-are s.few in
    let behind = codes "@plays" ∷ (h.played ++ tail) in
    let grouped : lines ≡ codes "@program" ∷ (h.program ++ (h.sources ++ behind)) = h.split ∙ regroup h.program h.sources h.played tail in
    let blocks = ap (λ (ls : Lines). run (in_program (text_of h.program)) (ls ++ behind)) s.split in
    let whole : run start lines ≡ Some (at_end (text_of h.program) held.sources played.0) =
    ap (run start) grouped ∙ run-program [] h.program (h.sources ++ behind) h.program-lines ∙ blocks
    ∙ run-sources s.blocks (text_of h.program) (h.played ++ tail) s.good good few
    ∙ ap (λ (ss : Sources). run (in_plays (text_of h.program) ss nothing_played) (h.played ++ tail)) sources
    ∙ played.1 ∙ run-empty h.empty (text_of h.program) held.sources played.0 in
    (at_end (text_of h.program) held.sources played.0, whole, outcome_is held (text_of h.program) played.0 (sym h.program-is) played.2 played.3)
  where
    regroup : (program sources played tail : Lines) → ((((codes "@program" ∷ program) ++ sources) ++ (codes "@plays" ∷ played)) ++ tail) ≡ codes "@program" ∷ (program ++ (sources ++ codes "@plays" ∷ (played ++ tail)))
    regroup program sources played tail = simp append_assoc

    outcome_is : (held : Contents) (program : List ℕ) (final : Played) → program ≡ held.program → final.plays ≡ held.plays → final.phases ≡ held.phases
        → Some (record { program = program; sources = held.sources; plays = final.plays; phases = final.phases }) ≡ Some held
    outcome_is held program final a b c =
        ap (λ (t : List ℕ). Some (record { program = t; sources = held.sources; plays = final.plays; phases = final.phases })) a
        ∙ ap (λ (ps : List Play). Some (record { program = held.program; sources = held.sources; plays = ps; phases = final.phases })) b
        ∙ ap (λ (ps : List Phase). Some (record { program = held.program; sources = held.sources; plays = held.plays; phases = ps })) c
