-- Lines that lead a reader to an end are those of a scenario.
use Rattle.std.proofs.Common.{◌≡◌, ◌⊎◌, inl, inr, ⊎_elim, ℕ, zero, suc, ◌+◌, ◌<◌, ◌≤◌, Bool, true, false, ◌&&◌, List, [], ◌∷◌, ◌++◌, length, map, drop, Option, Some, None, refl, sym, ap, ◌∙◌, subst, arith, append_assoc, length-append}
use Rattle.std.specs.Prelude.{codes, nat_eq, nat_lt, not, is_some, count_by, replicate, IsUtf8, if◌then◌else◌}
use Rattle.std.specs.List.{AllByRecursion, flat_map, starts_with}
use Rattle.std.proofs.lemmas.List.{append-nil}
use Rattle.std.proofs.lemmas.Bool.{and_parts, ltb-true}
use Rattle.std.proofs.lemmas.Bool.Decides.{Decides-eqb}
use Rattle.std.proofs.lemmas.Slice.Eq.{bytes_eq-Decides, starts_is}
use Rattle.plc_text.specs.Lines.{ended, text_of}
use Rattle.plc_text.specs.Text.{folded}
use Rattle.plc_text.specs.Words.{same, is_word}
use Rattle.st_names.specs.Names.{IsAt, HasName, AreDistinct}
use Rattle.cycle_journal.specs.declared.play.Play.{Play}
use Rattle.scenario.specs.Scenario.{Contents}
use Rattle.scenario.specs.Reading.{IsSourceLine, Block, lines_of_block, source_of, IsBlock, IsPlayLine, ArePlayLines, phases_from, tasks_of, is_change, ArePlayed, AreSources, IsScenario}
use Rattle.scenario.specs.declared.played.Played.{Played}
use Rattle.scenario.specs.declared.reader.Part.{Part}
use Rattle.scenario.specs.declared.reader.Part.TheVariants.{Start, Program, Source, Plays, End}
use Rattle.scenario.specs.declared.reader.Reader.{Reader}
use Rattle.scenario.specs.Private.PlayLine.{◌>>=◌, place_of, play_in}
use Rattle.scenario.specs.Private.Played.{nothing_played, with_phase, with_play}
use Rattle.scenario.specs.Private.Reader.{start, with_source, directed, is_directive, run, outcome}
use Rattle.scenario.proofs.PlaceLaws.{free-is}
use Rattle.scenario.proofs.PlayLineLaws.{bound, chosen, play_in-some}
use Rattle.scenario.proofs.StateLaws.{Lines, Sources, in_program, in_source, in_plays, at_end, one_more, with_play-some, Within, AllowsAll, allows_more, allows_none, fold-count_change}

-- the reader has read to the end
abbrev pub IsDone : Reader → Type 0
IsDone q = q.part ≡ End

-- behind `@end`
pub record EndRead (program : List ℕ) (sources : Sources) (p : Played) (lines : Lines) (q : Reader) : Type 0 where
  pub empty : ℕ
  pub lines-are : lines ≡ replicate empty []
  pub is : q ≡ at_end program sources p

end_more : (program : List ℕ) (sources : Sources) (p : Played) (line : List ℕ) (lines : Lines) (q : Reader) → line ≡ [] → EndRead program sources p lines q
    → EndRead program sources p (line ∷ lines) q
end_more program sources p line lines q none rest =
    record { empty = suc rest.empty; lines-are = ap (λ (l : List ℕ). l ∷ lines) none ∙ ap (λ (ls : Lines). [] ∷ ls) rest.lines-are; is = rest.is }

end_read : (program : List ℕ) (sources : Sources) (p : Played) (lines : Lines) (q : Reader) → run (at_end program sources p) lines ≡ Some q → EndRead program sources p lines q
end_read program sources p [] q e = record { empty = 0; lines-are = refl; is = cc }
end_read program sources p (line ∷ lines) q e =
    let next = bound (if same line [] then Some (at_end program sources p) else None) (λ r. run r lines) q e in
    let empty = chosen (same line []) (Some (at_end program sources p)) next.0 next.1 in
    let here : at_end program sources p ≡ next.0 = cc in
    end_more program sources p line lines q ((bytes_eq-Decides line []).0 empty.0)
    (end_read program sources p lines q (subst (λ (r : Reader). run r lines ≡ Some q) (sym here) next.2))

-- behind `@plays` and some plays
abbrev synced : Lines → Lines
synced phase = codes "sync" ∷ phase

pub record PlaysRead (program : List ℕ) (sources : Sources) (p : Played) (lines : Lines) (q : Reader) : Type 0 where
  pub first : Lines
  pub further : List Lines
  pub empty : ℕ
  pub lines-are : lines ≡ first ++ (flat_map synced further ++ codes "@end" ∷ replicate empty [])
  pub plays : List Play
  pub play-lines : ArePlayLines sources (first ++ flat_map (λ phase. phase) further) plays
  pub allowed : AllowsAll p plays
  pub final : Played
  pub is : q ≡ at_end program sources final
  pub plays-are : final.plays ≡ p.plays ++ plays
  pub phases-are : final.phases ≡ p.phases ++ (p.first, p.next + length first) ∷ phases_from (p.next + length first) (map length further)

plus_none : (n : ℕ) → n ≡ n + 0
plus_none n = omega arith

plays_end : (program : List ℕ) (sources : Sources) (p : Played) (line : List ℕ) (lines : Lines) (q : Reader) → Within p → line ≡ codes "@end"
    → run (at_end program sources (with_phase p)) lines ≡ Some q → PlaysRead program sources p (line ∷ lines) q
plays_end program sources p line lines q w e h =
    let rest = end_read program sources (with_phase p) lines q h in
    record {
      first = [];
      further = [];
      empty = rest.empty;
      lines-are = ap (λ (l : List ℕ). l ∷ lines) e ∙ ap (λ (ls : Lines). codes "@end" ∷ ls) rest.lines-are;
      plays = [];
      play-lines = tt;
      allowed = allows_none p w;
      final = with_phase p;
      is = rest.is;
      plays-are = sym (append-nil p.plays);
      phases-are = ap (λ (n : ℕ). p.phases ++ (p.first, n) ∷ []) (plus_none p.next);
    }

plays_sync : (program : List ℕ) (sources : Sources) (p : Played) (line : List ℕ) (lines : Lines) (q : Reader) → line ≡ codes "sync"
    → PlaysRead program sources (with_phase p) lines q → PlaysRead program sources p (line ∷ lines) q
plays_sync program sources p line lines q e rest =
    record {
      first = [];
      further = rest.first ∷ rest.further;
      empty = rest.empty;
      lines-are = ap (λ (l : List ℕ). l ∷ lines) e ∙ ap (λ (ls : Lines). codes "sync" ∷ ls) rest.lines-are
          ∙ sym (append_assoc (synced rest.first) (flat_map synced rest.further) (codes "@end" ∷ replicate rest.empty []));
      plays = rest.plays;
      play-lines = rest.play-lines;
      allowed = record { few-plays = rest.allowed.few-plays; few-changes = rest.allowed.few-changes; few-tasks = rest.allowed.few-tasks };
      final = rest.final;
      is = rest.is;
      plays-are = rest.plays-are;
      phases-are = rest.phases-are ∙ append_assoc p.phases ((p.first, p.next) ∷ []) ((p.next, p.next + length rest.first) ∷ phases_from (p.next + length rest.first) (map length rest.further))
          ∙ ap (λ (n : ℕ). p.phases ++ (p.first, n) ∷ phases_from n (map length (rest.first ∷ rest.further))) (plus_none p.next);
    }

next_after : (n k : ℕ) → n + 1 + k ≡ n + suc k
next_after n k = omega arith

plays_play : (program : List ℕ) (sources : Sources) (p : Played) (line : List ℕ) (lines : Lines) (q : Reader) (play : Play) → IsPlayLine sources line play
    → PlaysRead program sources (one_more p play) lines q → PlaysRead program sources p (line ∷ lines) q
plays_play program sources p line lines q play is rest =
    record {
      first = line ∷ rest.first;
      further = rest.further;
      empty = rest.empty;
      lines-are = ap (λ (ls : Lines). line ∷ ls) rest.lines-are;
      plays = play ∷ rest.plays;
      play-lines = (is, rest.play-lines);
      allowed = allows_more p play rest.plays rest.allowed;
      final = rest.final;
      is = rest.is;
      plays-are = rest.plays-are ∙ append_assoc p.plays (play ∷ []) rest.plays;
      phases-are = rest.phases-are ∙ ap (λ (n : ℕ). p.phases ++ (p.first, n) ∷ phases_from n (map length rest.further)) (next_after p.next (length rest.first));
    }

abbrev part_of : Option Reader → Part
part_of None = Start
part_of (Some r) = r.part

-- what is known of the lines behind a line among the plays
abbrev PlaysLater : List ℕ → Sources → Lines → Reader → Type 0
PlaysLater program sources lines q = (p : Played) → Within p → run (in_plays program sources p) lines ≡ Some q → PlaysRead program sources p lines q

plays_next : (program : List ℕ) (sources : Sources) (p : Played) (line : List ℕ) (lines : Lines) (q : Reader) (ends syncs : Bool) → Within p → PlaysLater program sources lines q
    → same line (codes "@end") ≡ ends → same line (codes "sync") ≡ syncs
    → ((if ends then Some (at_end program sources (with_phase p)) else if syncs then Some (in_plays program sources (with_phase p))
    else (play_in sources line >>= λ play. with_play p play >>= λ played. Some (in_plays program sources played))) >>= λ r. run r lines) ≡ Some q
    → PlaysRead program sources p (line ∷ lines) q
plays_next program sources p line lines q true syncs w later a b h = plays_end program sources p line lines q w ((bytes_eq-Decides line (codes "@end")).0 a) h
plays_next program sources p line lines q false true w later a b h =
    plays_sync program sources p line lines q ((bytes_eq-Decides line (codes "sync")).0 b)
    (later (with_phase p) (record { next = w.next; changes = w.changes; tasks = w.tasks }) h)
plays_next program sources p line lines q false false w later a b h =
    let next = bound (play_in sources line >>= λ play. with_play p play >>= λ played. Some (in_plays program sources played)) (λ r. run r lines) q h in
    let play = bound (play_in sources line) (λ play. with_play p play >>= λ played. Some (in_plays program sources played)) next.0 next.1 in
    let added = bound (with_play p play.0) (λ played. Some (in_plays program sources played)) next.0 play.2 in
    let one = with_play-some p play.0 added.0 w added.1 in
    let there = added.2 in
    let here : in_plays program sources added.0 ≡ next.0 = cc in
    let at : in_plays program sources (one_more p play.0) ≡ next.0 = ap (in_plays program sources) (sym one.0) ∙ here in
    plays_play program sources p line lines q play.0 (play_in-some sources line play.0 play.1)
    (later (one_more p play.0) one.2 (subst (λ (r : Reader). run r lines ≡ Some q) (sym at) next.2))

plays_read : (lines : Lines) (program : List ℕ) (sources : Sources) (p : Played) (q : Reader) → Within p → run (in_plays program sources p) lines ≡ Some q → IsDone q
    → PlaysRead program sources p lines q
plays_read [] program sources p q w e done = let at : Plays ≡ q.part = ap part_of e in absurd cc
plays_read (line ∷ lines) program sources p q w e done =
    plays_next program sources p line lines q (same line (codes "@end")) (same line (codes "sync")) w (λ o v h. plays_read lines program sources o q v h done) refl refl e

-- names of sources
at_last : (sources : Sources) (name text : List ℕ) (i : ℕ) (other : List ℕ) → IsAt (sources ++ (name, text) ∷ []) i other → IsAt sources i other ⊎ ((i ≡ length sources) × (name ≡ other))
at_last [] name text zero other at = inr (refl, cc)
at_last [] name text (suc i) other at = absurd cc
at_last (source ∷ sources) name text zero other at = inl at
at_last (source ∷ sources) name text (suc i) other at =
    ⊎_elim (λ (a : IsAt sources i other). inl a) (λ (b : (i ≡ length sources) × (name ≡ other)). inr (ap suc b.0, b.1)) (at_last sources name text i other at)

one_place : (sources : Sources) (name other : List ℕ) (i j : ℕ) → AreDistinct sources → (HasName sources name → ⊥)
    → IsAt sources i other ⊎ ((i ≡ length sources) × (name ≡ other)) → IsAt sources j other ⊎ ((j ≡ length sources) × (name ≡ other)) → i ≡ j
one_place sources name other i j distinct fresh (inl a) (inl b) = distinct i j other a b
one_place sources name other i j distinct fresh (inl a) (inr b) = absurd (fresh (i, subst (IsAt sources i) (sym b.1) a))
one_place sources name other i j distinct fresh (inr a) (inl b) = absurd (fresh (j, subst (IsAt sources j) (sym a.1) b))
one_place sources name other i j distinct fresh (inr a) (inr b) = a.0 ∙ sym b.0

distinct_snoc : (sources : Sources) (name text : List ℕ) → AreDistinct sources → (HasName sources name → ⊥) → AreDistinct (sources ++ (name, text) ∷ [])
distinct_snoc sources name text distinct fresh i j other a b = one_place sources name other i j distinct fresh (at_last sources name text i other a) (at_last sources name text j other b)

-- a source that begins
pub record Opens (sources : Sources) (line : List ℕ) (name : List ℕ) : Type 0 where
  pub line-is : line ≡ codes "@source " ++ name
  pub word : is_word name ≡ true
  pub fresh : HasName sources (folded name) → ⊥
  pub few : length sources < 256

not_true : (b : Bool) → not b ≡ true → b ≡ false
not_true true h = absurd cc
not_true false h = refl

may_open : (sources : Sources) (line name : List ℕ) → line ≡ codes "@source " ++ name
    → (is_word name && (not (is_some (place_of sources (folded name))) && nat_lt (length sources) 256)) ≡ true → Opens sources line name
may_open sources line name e h =
    let word = and_parts (is_word name) (not (is_some (place_of sources (folded name))) && nat_lt (length sources) 256) h in
    let free = and_parts (not (is_some (place_of sources (folded name)))) (nat_lt (length sources) 256) word.1 in
    record {
      line-is = e;
      word = word.0;
      fresh = free-is sources (folded name) (not_true (is_some (place_of sources (folded name))) free.0);
      few = ltb-true (length sources) 256 free.1;
    }

-- behind a line that begins with `@`
pub data Directs (program : List ℕ) (sources : Sources) (line : List ℕ) (q : Reader) : Type 0 where
  plays_begin : line ≡ codes "@plays" → in_plays program sources nothing_played ≡ q → Directs program sources line q
  source_begins : (name : List ℕ) → Opens sources line name → in_source program sources (folded name) [] ≡ q → Directs program sources line q

directs : (program : List ℕ) (sources : Sources) (line : List ℕ) (q : Reader) (plays source : Bool) → same line (codes "@plays") ≡ plays → starts_with nat_eq line (codes "@source ") ≡ source
    → (if plays then Some (in_plays program sources nothing_played)
    else if source
    then (if is_word (drop 8 line) && (not (is_some (place_of sources (folded (drop 8 line)))) && nat_lt (length sources) 256) then Some (in_source program sources (folded (drop 8 line)) []) else None)
    else None) ≡ Some q
    → Directs program sources line q
directs program sources line q true source a b h = plays_begin ((bytes_eq-Decides line (codes "@plays")).0 a) cc
directs program sources line q false true a b h =
    let name = drop 8 line in
    let is = chosen (is_word name && (not (is_some (place_of sources (folded name))) && nat_lt (length sources) 256)) (Some (in_source program sources (folded name) [])) q h in
    let begins = (starts_is Decides-eqb line (codes "@source ") (starts_with nat_eq line (codes "@source ")) refl).0 b in
    source_begins name (may_open sources line name begins is.0) cc
directs program sources line q false false a b h = absurd cc

-- lines of a source, the sources behind it, `@plays` and the lines behind that
pub record SourcesRead (program : List ℕ) (before : Sources) (name text : List ℕ) (lines : Lines) (q : Reader) : Type 0 where
  pub own : Lines
  pub own-lines : AllByRecursion IsSourceLine own
  pub blocks : List Block
  pub good : AllByRecursion IsBlock blocks
  pub rest : Lines
  pub lines-are : lines ≡ own ++ (flat_map lines_of_block blocks ++ codes "@plays" ∷ rest)
  pub sources : Sources
  pub sources-are : sources ≡ (before ++ (name, text ++ text_of own) ∷ []) ++ map source_of blocks
  pub distinct : AreDistinct sources
  pub few : length sources ≤ 256
  pub run-is : run (in_plays program sources nothing_played) rest ≡ Some q

plays_behind : (program : List ℕ) (before : Sources) (name text line : List ℕ) (lines : Lines) (q : Reader) → AreDistinct before → (HasName before name → ⊥) → length before < 256
    → line ≡ codes "@plays" → run (in_plays program (before ++ (name, text) ∷ []) nothing_played) lines ≡ Some q → SourcesRead program before name text (line ∷ lines) q
plays_behind program before name text line lines q distinct fresh few e h =
    record {
      own = [];
      own-lines = tt;
      blocks = [];
      good = tt;
      rest = lines;
      lines-are = ap (λ (l : List ℕ). l ∷ lines) e;
      sources = before ++ (name, text) ∷ [];
      sources-are = ap (λ (t : List ℕ). before ++ (name, t) ∷ []) (sym (append-nil text)) ∙ sym (append-nil (before ++ (name, text ++ []) ∷ []));
      distinct = distinct_snoc before name text distinct fresh;
      few = omega (arith, length-append before ((name, text) ∷ []));
      run-is = h;
    }

source_behind : (program : List ℕ) (before : Sources) (name text line next : List ℕ) (lines : Lines) (q : Reader) → Opens (before ++ (name, text) ∷ []) line next
    → SourcesRead program (before ++ (name, text) ∷ []) (folded next) [] lines q → SourcesRead program before name text (line ∷ lines) q
source_behind program before name text line next lines q opens rest =
    let block : Block = record { name = next; lines = rest.own } in
    let own_text : [] ++ text_of rest.own ≡ text_of rest.own = refl in
    record {
      own = [];
      own-lines = tt;
      blocks = block ∷ rest.blocks;
      good = ((opens.word, rest.own-lines), rest.good);
      rest = rest.rest;
      lines-are = ap (λ (l : List ℕ). l ∷ lines) opens.line-is ∙ ap (λ (ls : Lines). (codes "@source " ++ next) ∷ ls) rest.lines-are
          ∙ sym (append_assoc (lines_of_block block) (flat_map lines_of_block rest.blocks) (codes "@plays" ∷ rest.rest));
      sources = rest.sources;
      sources-are = rest.sources-are ∙ append_assoc (before ++ (name, text) ∷ []) (source_of block ∷ []) (map source_of rest.blocks)
          ∙ ap (λ (t : List ℕ). (before ++ (name, t) ∷ []) ++ map source_of (block ∷ rest.blocks)) (sym (append-nil text));
      distinct = rest.distinct;
      few = rest.few;
      run-is = rest.run-is;
    }

line_behind : (program : List ℕ) (before : Sources) (name text line : List ℕ) (lines : Lines) (q : Reader) → is_directive line ≡ false
    → SourcesRead program before name (text ++ ended line) lines q → SourcesRead program before name text (line ∷ lines) q
line_behind program before name text line lines q plain rest =
    record {
      own = line ∷ rest.own;
      own-lines = (plain, rest.own-lines);
      blocks = rest.blocks;
      good = rest.good;
      rest = rest.rest;
      lines-are = ap (λ (ls : Lines). line ∷ ls) rest.lines-are;
      sources = rest.sources;
      sources-are = rest.sources-are ∙ ap (λ (t : List ℕ). (before ++ (name, t) ∷ []) ++ map source_of rest.blocks) (append_assoc text (ended line) (text_of rest.own));
      distinct = rest.distinct;
      few = rest.few;
      run-is = rest.run-is;
    }

-- what is known of the lines behind a line of a source
abbrev SourcesLater : List ℕ → Lines → Reader → Type 0
SourcesLater program lines q = (before : Sources) (name text : List ℕ) → AreDistinct before → (HasName before name → ⊥) → length before < 256
    → run (in_source program before name text) lines ≡ Some q → SourcesRead program before name text lines q

sources_directed : (program : List ℕ) (before : Sources) (name text line : List ℕ) (lines : Lines) (q r : Reader) → AreDistinct before → (HasName before name → ⊥) → length before < 256
    → SourcesLater program lines q → Directs program (before ++ (name, text) ∷ []) line r → run r lines ≡ Some q → SourcesRead program before name text (line ∷ lines) q
sources_directed program before name text line lines q r distinct fresh few later (plays_begin a b) h =
    plays_behind program before name text line lines q distinct fresh few a (subst (λ (x : Reader). run x lines ≡ Some q) (sym b) h)
sources_directed program before name text line lines q r distinct fresh few later (source_begins next opens b) h =
    source_behind program before name text line next lines q opens
    (later (before ++ (name, text) ∷ []) (folded next) [] (distinct_snoc before name text distinct fresh) opens.fresh opens.few
    (subst (λ (x : Reader). run x lines ≡ Some q) (sym b) h))

sources_next : (program : List ℕ) (before : Sources) (name text line : List ℕ) (lines : Lines) (q : Reader) (is : Bool) → AreDistinct before → (HasName before name → ⊥) → length before < 256
    → SourcesLater program lines q → is_directive line ≡ is
    → ((if is then directed (with_source (in_source program before name text)) line else Some (in_source program before name (text ++ ended line))) >>= λ r. run r lines) ≡ Some q
    → SourcesRead program before name text (line ∷ lines) q
sources_next program before name text line lines q false distinct fresh few later d h =
    line_behind program before name text line lines q d (later before name (text ++ ended line) distinct fresh few h)
sources_next program before name text line lines q true distinct fresh few later d h =
    let next = bound (directed (with_source (in_source program before name text)) line) (λ r. run r lines) q h in
    sources_directed program before name text line lines q next.0 distinct fresh few later
    (directs program (before ++ (name, text) ∷ []) line next.0 (same line (codes "@plays")) (starts_with nat_eq line (codes "@source ")) refl refl next.1) next.2

sources_read : (lines : Lines) (program : List ℕ) (before : Sources) (name text : List ℕ) (q : Reader) → AreDistinct before → (HasName before name → ⊥) → length before < 256
    → run (in_source program before name text) lines ≡ Some q → IsDone q → SourcesRead program before name text lines q
sources_read [] program before name text q distinct fresh few e done = let at : Source ≡ q.part = ap part_of e in absurd cc
sources_read (line ∷ lines) program before name text q distinct fresh few e done =
    sources_next program before name text line lines q (is_directive line) distinct fresh few
    (λ b n t d f l h. sources_read lines program b n t q d f l h done) refl e

-- lines of the first program, the sources, `@plays` and the lines behind that
pub record ProgramRead (before : List ℕ) (lines : Lines) (q : Reader) : Type 0 where
  pub program : Lines
  pub program-lines : AllByRecursion IsSourceLine program
  pub source-lines : Lines
  pub sources : Sources
  pub sources-are : AreSources source-lines sources
  pub rest : Lines
  pub lines-are : lines ≡ program ++ (source-lines ++ codes "@plays" ∷ rest)
  pub run-is : run (in_plays (before ++ text_of program) sources nothing_played) rest ≡ Some q

none_distinct : (sources : Sources) → sources ≡ [] → AreDistinct sources
none_distinct [] e i j name a b = absurd cc
none_distinct (source ∷ sources) e i j name a b = absurd cc

plays_first : (before line : List ℕ) (lines : Lines) (q : Reader) → line ≡ codes "@plays" → run (in_plays before [] nothing_played) lines ≡ Some q → ProgramRead before (line ∷ lines) q
plays_first before line lines q e h =
    record {
      program = [];
      program-lines = tt;
      source-lines = [];
      sources = [];
      sources-are = record { blocks = []; split = refl; good = tt; sources-are = refl; distinct = none_distinct [] refl; few = omega arith };
      rest = lines;
      lines-are = ap (λ (l : List ℕ). l ∷ lines) e;
      run-is = subst (λ (t : List ℕ). run (in_plays t [] nothing_played) lines ≡ Some q) (sym (append-nil before)) h;
    }

source_first : (before line name : List ℕ) (lines : Lines) (q : Reader) → Opens [] line name → SourcesRead before [] (folded name) [] lines q → ProgramRead before (line ∷ lines) q
source_first before line name lines q opens rest =
    let block : Block = record { name = name; lines = rest.own } in
    let blocks = block ∷ rest.blocks in
    record {
      program = [];
      program-lines = tt;
      source-lines = flat_map lines_of_block blocks;
      sources = rest.sources;
      sources-are = record { blocks = blocks; split = refl; good = ((opens.word, rest.own-lines), rest.good); sources-are = rest.sources-are; distinct = rest.distinct; few = rest.few };
      rest = rest.rest;
      lines-are = ap (λ (l : List ℕ). l ∷ lines) opens.line-is ∙ ap (λ (ls : Lines). (codes "@source " ++ name) ∷ ls) rest.lines-are
          ∙ sym (append_assoc (lines_of_block block) (flat_map lines_of_block rest.blocks) (codes "@plays" ∷ rest.rest));
      run-is = subst (λ (t : List ℕ). run (in_plays t rest.sources nothing_played) rest.rest ≡ Some q) (sym (append-nil before)) rest.run-is;
    }

line_first : (before line : List ℕ) (lines : Lines) (q : Reader) → is_directive line ≡ false → ProgramRead (before ++ ended line) lines q → ProgramRead before (line ∷ lines) q
line_first before line lines q plain rest =
    record {
      program = line ∷ rest.program;
      program-lines = (plain, rest.program-lines);
      source-lines = rest.source-lines;
      sources = rest.sources;
      sources-are = rest.sources-are;
      rest = rest.rest;
      lines-are = ap (λ (ls : Lines). line ∷ ls) rest.lines-are;
      run-is = subst (λ (t : List ℕ). run (in_plays t rest.sources nothing_played) rest.rest ≡ Some q) (append_assoc before (ended line) (text_of rest.program)) rest.run-is;
    }

program_directed : (before line : List ℕ) (lines : Lines) (q r : Reader) → IsDone q → Directs before [] line r → run r lines ≡ Some q → ProgramRead before (line ∷ lines) q
program_directed before line lines q r done (plays_begin a b) h = plays_first before line lines q a (subst (λ (x : Reader). run x lines ≡ Some q) (sym b) h)
program_directed before line lines q r done (source_begins name opens b) h =
    source_first before line name lines q opens
    (sources_read lines before [] (folded name) [] q (none_distinct [] refl) opens.fresh opens.few (subst (λ (x : Reader). run x lines ≡ Some q) (sym b) h) done)

program_next : (before line : List ℕ) (lines : Lines) (q : Reader) (is : Bool) → IsDone q → ((b : List ℕ) → run (in_program b) lines ≡ Some q → ProgramRead b lines q) → is_directive line ≡ is
    → ((if is then directed (in_program before) line else Some (in_program (before ++ ended line))) >>= λ r. run r lines) ≡ Some q
    → ProgramRead before (line ∷ lines) q
program_next before line lines q false done later d h = line_first before line lines q d (later (before ++ ended line) h)
program_next before line lines q true done later d h =
    let next = bound (directed (in_program before) line) (λ r. run r lines) q h in
    program_directed before line lines q next.0 done (directs before [] line next.0 (same line (codes "@plays")) (starts_with nat_eq line (codes "@source ")) refl refl next.1) next.2

program_read : (lines : Lines) (before : List ℕ) (q : Reader) → run (in_program before) lines ≡ Some q → IsDone q → ProgramRead before lines q
program_read [] before q e done = let at : Program ≡ q.part = ap part_of e in absurd cc
program_read (line ∷ lines) before q e done = program_next before line lines q (is_directive line) done (λ b h. program_read lines b q h done) refl e

-- the whole
outcome_some : (part : Part) (q : Reader) (held : Contents) → outcome part q ≡ Some held → (part ≡ End) × (record { program = q.program; sources = q.sources; plays = q.played.plays; phases = q.played.phases } ≡ held)
outcome_some End q held e = (refl, cc)
outcome_some Start q held e = absurd cc
outcome_some Program q held e = absurd cc
outcome_some Source q held e = absurd cc
outcome_some Plays q held e = absurd cc

start_within : Within nothing_played
start_within = record { next = omega arith; changes = omega arith; tasks = omega arith }

all_played : (sources : Sources) (lines : Lines) (q : Reader) (program : List ℕ) (r : PlaysRead program sources nothing_played lines q)
    → ArePlayed sources (r.first ++ flat_map synced r.further) r.final.plays r.final.phases
all_played sources lines q program r =
    record {
      first = r.first;
      further = r.further;
      split = refl;
      plays-are = subst (ArePlayLines sources (r.first ++ flat_map (λ phase. phase) r.further)) (sym r.plays-are) r.play-lines;
      phases-are = r.phases-are;
      few-plays = omega (arith, r.allowed.few-plays, ap length r.plays-are);
      few-changes = subst (λ (ps : List Play). count_by is_change ps ≤ 256) (sym r.plays-are) (omega (arith, r.allowed.few-changes, fold-count_change r.plays 0));
      few-tasks = subst (λ (ps : List Play). length (tasks_of ps) ≤ 32) (sym r.plays-are) r.allowed.few-tasks;
    }

begun : (lines : Lines) (q : Reader) → run start lines ≡ Some q → IsDone q → (rest : Lines) × (lines ≡ codes "@program" ∷ rest) × (run (in_program []) rest ≡ Some q)
begun [] q e done = let at : Start ≡ q.part = ap part_of e in absurd cc
begun (line ∷ lines) q e done =
    let next = bound (if same line (codes "@program") then Some (in_program []) else None) (λ r. run r lines) q e in
    let is = chosen (same line (codes "@program")) (Some (in_program [])) next.0 next.1 in
    let here : in_program [] ≡ next.0 = cc in
    (lines, ap (λ (l : List ℕ). l ∷ lines) ((bytes_eq-Decides line (codes "@program")).0 is.0), subst (λ (r : Reader). run r lines ≡ Some q) (sym here) next.2)

regroup : (program sources first further tail : Lines) → codes "@program" ∷ (program ++ (sources ++ codes "@plays" ∷ (first ++ (further ++ tail))))
    ≡ (((codes "@program" ∷ program) ++ sources) ++ codes "@plays" ∷ (first ++ further)) ++ tail
regroup program sources first further tail =
    let behind = codes "@plays" ∷ (first ++ further) in
    sym (append_assoc ((codes "@program" ∷ program) ++ sources) behind tail ∙ append_assoc (codes "@program" ∷ program) sources (behind ++ tail)
    ∙ ap (λ (ls : Lines). (codes "@program" ∷ program) ++ (sources ++ codes "@plays" ∷ ls)) (append_assoc first further tail))

whole_split : (lines behind program sources rest first further tail : Lines) → lines ≡ codes "@program" ∷ behind → behind ≡ program ++ (sources ++ codes "@plays" ∷ rest)
    → rest ≡ first ++ (further ++ tail) → lines ≡ (((codes "@program" ∷ program) ++ sources) ++ codes "@plays" ∷ (first ++ further)) ++ tail
whole_split lines behind program sources rest first further tail a b c =
    a ∙ ap (λ (ls : Lines). codes "@program" ∷ ls) b ∙ ap (λ (ls : Lines). codes "@program" ∷ (program ++ (sources ++ codes "@plays" ∷ ls))) c
    ∙ regroup program sources first further tail

-- what a reader has read of the program, the sources and the plays is a scenario
read_all : (lines behind : Lines) (q : Reader) → AllByRecursion IsUtf8 lines → lines ≡ codes "@program" ∷ behind → (p : ProgramRead [] behind q)
    → (r : PlaysRead (text_of p.program) p.sources nothing_played p.rest q)
    → IsScenario lines (record { program = text_of p.program; sources = p.sources; plays = r.final.plays; phases = r.final.phases })
read_all lines behind q utf8 e p r =
    record {
      program = p.program;
      sources = p.source-lines;
      played = r.first ++ flat_map synced r.further;
      empty = r.empty;
      split = whole_split lines behind p.program p.source-lines p.rest r.first (flat_map synced r.further) (codes "@end" ∷ replicate r.empty []) e p.lines-are r.lines-are;
      utf8 = utf8;
      program-lines = p.program-lines;
      program-is = refl;
      sources-are = p.sources-are;
      played-are = all_played p.sources p.rest q (text_of p.program) r;
    }

held_so : (program : List ℕ) (sources : Sources) (final : Played) (q : Reader) (held : Contents) → q ≡ at_end program sources final
    → record { program = q.program; sources = q.sources; plays = q.played.plays; phases = q.played.phases } ≡ held
    → record { program = program; sources = sources; plays = final.plays; phases = final.phases } ≡ held
held_so program sources final q held is told =
    ap (λ (x : Reader). record { program = x.program; sources = x.sources; plays = x.played.plays; phases = x.played.phases }) (sym is) ∙ told

read_held : (lines behind : Lines) (q : Reader) (held : Contents) → AllByRecursion IsUtf8 lines → lines ≡ codes "@program" ∷ behind
    → record { program = q.program; sources = q.sources; plays = q.played.plays; phases = q.played.phases } ≡ held → (p : ProgramRead [] behind q)
    → PlaysRead (text_of p.program) p.sources nothing_played p.rest q → IsScenario lines held
read_held lines behind q held utf8 e told p r =
    subst (IsScenario lines) (held_so (text_of p.program) p.sources r.final q held r.is told) (read_all lines behind q utf8 e p r)

pub is_scenario : (lines : Lines) (q : Reader) (held : Contents) → AllByRecursion IsUtf8 lines → run start lines ≡ Some q → outcome q.part q ≡ Some held → IsScenario lines held
is_scenario lines q held utf8 e told =
    let done = outcome_some q.part q held told in
    let first = begun lines q e done.0 in
    let p = program_read first.0 [] q first.2 done.0 in
    read_held lines first.0 q held utf8 first.1 done.1 p (plays_read p.rest (text_of p.program) p.sources nothing_played q start_within p.run-is done.0)
