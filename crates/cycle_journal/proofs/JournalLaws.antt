-- The lines of a journal's text, and which lines a journal can begin with.
use Rattle.std.proofs.Common.{◌≡◌, ◌⊎◌, inl, inr, ⊎_elim, ℕ, suc, ◌+◌, ◌<◌, true, List, [], ◌∷◌, ◌++◌, length, map, Option, Some, None, refl, sym, ap, ◌∙◌, subst, arith, append_assoc, length-append}
use Rattle.std.specs.Prelude.{codes}
use Rattle.std.specs.Fmt.{decimal}
use Rattle.std.specs.List.{AllByRecursion, flat_map}
use Rattle.std.proofs.lemmas.List.{append-nil, length-map}
use Rattle.plc_text.specs.Code.{code_name}
use Rattle.plc_text.specs.Fault.{fault_name}
use Rattle.plc_text.specs.declared.fault.FaultKind.{FaultKind}
use Rattle.cycle_journal.specs.declared.play.Play.{Play}
use Rattle.cycle_journal.specs.declared.play.Play.TheVariants.{Cycle, Change, Reset}
use Rattle.cycle_journal.specs.declared.entry.Entry.{Entry}
use Rattle.cycle_journal.specs.declared.entry.Answer.{Answer}
use Rattle.cycle_journal.specs.declared.entry.Answer.TheVariants.{Done, Fault, Held, NoTask, Loaded, Refused, RefusedMemory, Released}
use Rattle.plc_text.specs.Words.{is_upper_word}
use Rattle.plc_text.specs.Lines.{lines_of, ended, text_of, FirstBad}
use Rattle.cycle_journal.specs.Play.{play_numbered, name_of, Named}
use Rattle.cycle_journal.specs.Writing.{image, kind_text, answer_text, play_text, entry_text, journal_lines, journal_text}
use Rattle.cycle_journal.specs.Fits.{FitsAnswer, FitsEntry, Fits}
use Rattle.plc_text.specs.Fields.{first_field}
use Rattle.plc_text.specs.Numbers.{number_in}
use Rattle.cycle_journal.specs.Private.Candidate.{entry_in}
use Rattle.cycle_journal.specs.declared.journal_error.JournalError.{JournalError}
use Rattle.cycle_journal.specs.declared.journal_error.JournalError.TheVariants.{Bad, NoMemory}
use Rattle.cycle_journal.specs.Reading.{OnBad, CanBegin, NoJournal}
use Rattle.cycle_journal.specs.Private.Reading.{IsNoLine, Stops, AreEntries, end_line}
use Rattle.plc_text.proofs.NumberLaws.{number_in-decimal}
use Rattle.plc_text.proofs.LineLaws.{HoldsNo, lines_of-text_of, text_of-last, text_of-lines_of, lines_few, NoNext, first_bad}
use Rattle.cycle_journal.proofs.InkLaws.{Above, above_append, above_no, above_less, decimal_above, name_above, declaration_above, image_above, code_above, fault_above}
use Rattle.cycle_journal.proofs.AgainLaws.{entry_again, entry_fields, first_word, named_play}

-- no LF stands in an entry's line

decimal_line : (n : ℕ) → Above 31 (decimal n)
decimal_line n = above_less (decimal n) (decimal_above n)

kind_line : (kind : Option FaultKind) → Above 31 (kind_text kind)
kind_line None = refl
kind_line (Some kind) = above_less (fault_name kind) (fault_above kind)

answer_line : (version : ℕ) (a : Answer) → FitsAnswer version a → Above 31 (answer_text a)
answer_line version (Done ticks outputs) h =
    above_append 31 (codes "ok " ++ decimal ticks ++ codes " ") (image outputs)
    (above_append 31 (codes "ok " ++ decimal ticks) (codes " ") (decimal_line ticks) refl) (above_less (image outputs) (image_above outputs h.2))
answer_line version (Fault fault) h =
    above_append 31 (codes "fault " ++ fault_name fault.kind ++ codes " ") (decimal fault.line)
    (above_append 31 (codes "fault " ++ fault_name fault.kind) (codes " ") (above_less (fault_name fault.kind) (fault_above fault.kind)) refl) (decimal_line fault.line)
answer_line version Held h = refl
answer_line version (NoTask since) h = decimal_line since
answer_line version (Loaded next) h = decimal_line next
answer_line version (Refused r) h =
    let code = above_less (code_name r.code) (code_above r.code) in
    let declaration = above_less r.declaration (declaration_above r.declaration h.0) in
    let one = above_append 31 (code_name r.code) (codes " ") code refl in
    let two = above_append 31 (code_name r.code ++ codes " ") r.declaration one declaration in
    let three = above_append 31 (code_name r.code ++ codes " " ++ r.declaration) (codes " ") two refl in
    let four = above_append 31 (code_name r.code ++ codes " " ++ r.declaration ++ codes " ") (decimal r.line) three (decimal_line r.line) in
    above_append 31 (code_name r.code ++ codes " " ++ r.declaration ++ codes " " ++ decimal r.line) (kind_text r.kind) four (kind_line r.kind)
answer_line version RefusedMemory h = refl
answer_line version Released h = refl

play_line : (play : Play) → is_upper_word (name_of play) ≡ true → Above 31 (play_text (Some play))
play_line (Cycle task now input) h =
    above_append 31 (task ++ codes " ") (decimal now) (above_append 31 task (codes " ") (above_less task (name_above task h)) refl) (decimal_line now)
play_line (Change name source) h = above_less name (name_above name h)
play_line (Reset task) h = above_less task (name_above task h)

entry_line : (plays : List Play) (e : Entry) → Named plays → FitsEntry plays e → Above 31 (entry_text plays e)
entry_line plays e named h =
    let is = h.play-is in
    let play = subst (λ (p : Option Play). Above 31 (play_text p)) (sym is) (play_line h.play (named_play plays e.play h.play named is)) in
    let answer = above_append 31 (play_text (play_numbered plays e.play)) (32 ∷ answer_text e.answer) play (answer_line e.version e.answer h.answer-fits) in
    let number = above_append 31 (decimal e.play) (32 ∷ (play_text (play_numbered plays e.play) ++ 32 ∷ answer_text e.answer)) (decimal_line e.play) answer in
    let text = above_append 31 (decimal e.version) (32 ∷ (decimal e.play ++ 32 ∷ (play_text (play_numbered plays e.play) ++ 32 ∷ answer_text e.answer))) (decimal_line e.version) number in
    subst (Above 31) (sym (entry_fields plays e)) text

unended : (line : List ℕ) → Above 31 line → HoldsNo 10 line
unended line h = above_no 31 10 (omega arith) line h

all_unended : (lines : List (List ℕ)) → AllByRecursion (Above 31) lines → AllByRecursion (HoldsNo 10) lines
all_unended [] h = tt
all_unended (line ∷ lines) h = (unended line h.0, all_unended lines h.1)

entry_lines : (plays : List Play) (entries : List Entry) (last : List ℕ) → Named plays → Fits plays entries → Above 31 last → AllByRecursion (Above 31) (map (entry_text plays) entries ++ last ∷ [])
entry_lines plays [] last named h l = (l, tt)
entry_lines plays (e ∷ entries) last named h l = (entry_line plays e named h.0, entry_lines plays entries last named h.1 l)

pub lines_of-journal : (plays : List Play) (entries : List Entry) → Named plays → Fits plays entries → lines_of (journal_text plays entries) ≡ journal_lines plays entries
lines_of-journal plays entries named h =
    lines_of-text_of (journal_lines plays entries) (all_unended (journal_lines plays entries) (refl, entry_lines plays entries (end_line (length entries)) named h (decimal_line (length entries))))

-- no entry's line is the last line
pub entry_not_end : (plays : List Play) (e : Entry) (count : ℕ) → FitsEntry plays e → entry_text plays e ≡ end_line count → ⊥
unfolding number_in
entry_not_end plays e count h same =
    let first = first_word (decimal e.version) (decimal e.play ++ 32 ∷ (play_text (play_numbered plays e.play) ++ 32 ∷ answer_text e.answer)) (decimal_above e.version) in
    let word : decimal e.version ≡ codes "end" = sym first ∙ ap first_field (sym (entry_fields plays e) ∙ same) in
    let number : Some e.version ≡ None = sym (number_in-decimal e.version h.version-fits) ∙ ap number_in word in
    cc

-- a journal's text ends with LF
pub journal_ends : (plays : List Play) (entries : List Entry) → (front : List ℕ) × (journal_text plays entries ≡ front ++ 10 ∷ [])
journal_ends plays entries =
    let last = end_line (length entries) in
    let lines = flat_map (λ (e : Entry). ended (entry_text plays e)) entries in
    let split = text_of-last (entry_text plays) entries last ∙ sym (append_assoc lines last (10 ∷ [])) in
    (codes "load 1\n" ++ (lines ++ last), ap (λ t. codes "load 1\n" ++ t) split)

-- where the lines of some entries and one line more are those that another journal begins with
abbrev Walked : List Play → List Entry → List Entry → List ℕ → List ℕ → List (List ℕ) → Type 0
Walked plays entries others last line more =
    ((line ≡ last) × (length others ≡ length entries) × (more ≡ [])) ⊎ ((e : Entry) × FitsEntry plays e × (line ≡ entry_text plays e))

walked_on : (plays : List Play) (entries others : List Entry) (x y : Entry) (last line : List ℕ) (more : List (List ℕ))
    → Walked plays entries others last line more → Walked plays (x ∷ entries) (y ∷ others) last line more
walked_on plays entries others x y last line more w =
    ⊎_elim (λ (h : (line ≡ last) × (length others ≡ length entries) × (more ≡ [])). inl (h.0, omega (arith, h.1), h.2)) inr w

walk : (plays : List Play) (entries others : List Entry) (last line : List ℕ) (more : List (List ℕ)) → Fits plays entries → Fits plays others
    → ((e : Entry) → FitsEntry plays e → entry_text plays e ≡ last → ⊥)
    → map (entry_text plays) entries ++ line ∷ more ≡ map (entry_text plays) others ++ last ∷ [] → Walked plays entries others last line more
walk plays [] [] last line more he ho apart same = inl (cc, refl, cc)
walk plays [] (y ∷ others) last line more he ho apart same = inr (y, ho.0, cc)
walk plays (x ∷ entries) [] last line more he ho apart same = let first : entry_text plays x ≡ last = cc in absurd (apart x he.0 first)
walk plays (x ∷ entries) (y ∷ others) last line more he ho apart same =
    let rest : map (entry_text plays) entries ++ line ∷ more ≡ map (entry_text plays) others ++ last ∷ [] = cc in
    walked_on plays entries others x y last line more (walk plays entries others last line more he.1 ho.1 apart rest)

-- the lines of entries alone are no journal's
unfinished : (plays : List Play) (entries others : List Entry) (last : List ℕ) → Fits plays entries
    → ((e : Entry) → FitsEntry plays e → entry_text plays e ≡ last → ⊥)
    → map (entry_text plays) entries ≡ map (entry_text plays) others ++ last ∷ [] → ⊥
unfinished plays [] [] last he apart same = cc
unfinished plays [] (y ∷ others) last he apart same = cc
unfinished plays (x ∷ entries) [] last he apart same = let first : entry_text plays x ≡ last = cc in apart x he.0 first
unfinished plays (x ∷ entries) (y ∷ others) last he apart same =
    let rest : map (entry_text plays) entries ≡ map (entry_text plays) others ++ last ∷ [] = cc in
    unfinished plays entries others last he.1 apart rest

-- no journal has a text whose lines go on as none does
none_goes_on : (plays : List Play) (text : List ℕ) (front rest : List (List ℕ)) → lines_of text ≡ front ++ rest → NoNext (CanBegin plays) front rest
    → (rest ≡ [] → NoJournal plays text) → NoJournal plays text
none_goes_on plays text front [] split none whole = whole refl
none_goes_on plays text front (line ∷ more) split none whole = λ entries fit same.
    none (entries, more, fit, ap lines_of (sym same) ∙ split ∙ sym (append_assoc front (line ∷ []) more))

-- what the reader answers at a line, where it holds of the text that the lines are those of
abbrev pub IsBadAt : List Play → List ℕ → ℕ → Type 0
IsBadAt plays text line = NoJournal plays text × FirstBad (CanBegin plays) (lines_of text) line

bad_at : (plays : List Play) (text : List ℕ) (front rest : List (List ℕ)) (line : ℕ) → lines_of text ≡ front ++ rest → line ≡ suc (length front)
    → CanBegin plays front → NoNext (CanBegin plays) front rest → (rest ≡ [] → NoJournal plays text) → IsBadAt plays text line
bad_at plays text front rest line split number can none whole =
    (none_goes_on plays text front rest split none whole, first_bad (CanBegin plays) (lines_of text) front rest line split number can none)

abbrev pub first_line : List ℕ
first_line = codes "load 1"

-- a line behind entries
abbrev begun : List Play → List Entry → List (List ℕ)
begun plays entries = first_line ∷ map (entry_text plays) entries

begun_len : (plays : List Play) (entries : List Entry) → length (begun plays entries) ≡ suc (length entries)
begun_len plays entries = ap suc (length-map entries (entry_text plays))

can_begin-entries : (plays : List Play) (entries : List Entry) → Named plays → Fits plays entries → CanBegin plays (begun plays entries)
can_begin-entries plays entries named fit = (entries, end_line (length entries) ∷ [], fit, lines_of-journal plays entries named fit)

no_next : (plays : List Play) (entries : List Entry) (rest : List (List ℕ)) → Named plays → Fits plays entries → IsNoLine plays (length entries) rest → NoNext (CanBegin plays) (begun plays entries) rest
no_next plays entries [] named fit bad = tt
no_next plays entries (line ∷ more) named fit bad = λ can.
    let whole : journal_lines plays can.0 ≡ (begun plays entries ++ line ∷ []) ++ can.1 = sym (lines_of-journal plays can.0 named can.2) ∙ can.3 in
    let lines : begun plays can.0 ++ end_line (length can.0) ∷ [] ≡ begun plays entries ++ line ∷ can.1 = whole ∙ append_assoc (begun plays entries) (line ∷ []) can.1 in
    let tails : map (entry_text plays) entries ++ line ∷ can.1 ≡ map (entry_text plays) can.0 ++ end_line (length can.0) ∷ [] = cc in
    ⊎_elim (λ (h : (line ≡ end_line (length can.0)) × (length can.0 ≡ length entries) × (can.1 ≡ [])). bad.0 (h.0 ∙ ap end_line h.1))
    (λ (h : (e : Entry) × FitsEntry plays e × (line ≡ entry_text plays e)). bad.1 h.0 h.1 h.2)
    (walk plays entries can.0 (end_line (length can.0)) line can.1 fit can.2 (λ e. entry_not_end plays e (length can.0)) tails)

no_end : (plays : List Play) (text : List ℕ) (entries : List Entry) → Named plays → Fits plays entries → lines_of text ≡ begun plays entries → NoJournal plays text
no_end plays text entries named fit split others other_fit same =
    let lines : begun plays entries ≡ begun plays others ++ end_line (length others) ∷ [] = sym split ∙ ap lines_of same ∙ lines_of-journal plays others named other_fit in
    let tails : map (entry_text plays) entries ≡ map (entry_text plays) others ++ end_line (length others) ∷ [] = cc in
    unfinished plays entries others (end_line (length others)) fit (λ e. entry_not_end plays e (length others)) tails

pub bad_line : (plays : List Play) (text : List ℕ) (middle : List (List ℕ)) (line : ℕ) → Named plays → lines_of text ≡ first_line ∷ middle → Stops plays middle line → IsBadAt plays text line
bad_line plays text middle line named first s =
    let split = first ∙ ap (λ ls. first_line ∷ ls) s.split in
    bad_at plays text (begun plays s.entries) s.rest line split (omega (arith, s.number, begun_len plays s.entries)) (can_begin-entries plays s.entries named s.fit)
    (no_next plays s.entries s.rest named s.fit s.bad)
    (λ none. no_end plays text s.entries named s.fit (split ∙ ap (λ ls. begun plays s.entries ++ ls) none ∙ append-nil (begun plays s.entries)))

-- a line behind the last
no_more : (plays : List Play) (entries : List Entry) (after : List (List ℕ)) → Named plays → Fits plays entries → NoNext (CanBegin plays) (journal_lines plays entries) after
no_more plays entries [] named fit = tt
no_more plays entries (line ∷ more) named fit = λ can.
    let last = end_line (length entries) in
    let whole : journal_lines plays can.0 ≡ (journal_lines plays entries ++ line ∷ []) ++ can.1 = sym (lines_of-journal plays can.0 named can.2) ∙ can.3 in
    let lines : begun plays can.0 ++ end_line (length can.0) ∷ [] ≡ begun plays entries ++ last ∷ line ∷ can.1 =
    whole ∙ append_assoc (journal_lines plays entries) (line ∷ []) can.1 ∙ append_assoc (begun plays entries) (last ∷ []) (line ∷ can.1) in
    let tails : map (entry_text plays) entries ++ last ∷ line ∷ can.1 ≡ map (entry_text plays) can.0 ++ end_line (length can.0) ∷ [] = cc in
    ⊎_elim (λ (h : (last ≡ end_line (length can.0)) × (length can.0 ≡ length entries) × (line ∷ can.1 ≡ [])). let e = h.2 in cc)
    (λ (h : (e : Entry) × FitsEntry plays e × (last ≡ entry_text plays e)). entry_not_end plays h.0 (length entries) h.1 (sym h.2))
    (walk plays entries can.0 (end_line (length can.0)) last (line ∷ can.1) fit can.2 (λ e. entry_not_end plays e (length can.0)) tails)

whole_lines : (plays : List Play) (text : List ℕ) (middle : List (List ℕ)) (entries : List Entry) (after : List (List ℕ))
    → lines_of text ≡ first_line ∷ middle → AreEntries plays middle entries after → lines_of text ≡ journal_lines plays entries ++ after
whole_lines plays text middle entries after first are =
    first ∙ ap (λ ls. first_line ∷ ls) (are.split ∙ sym (append_assoc (map (entry_text plays) entries) (end_line (length entries) ∷ []) after))

-- the text ends with its last line, which LF ends
abbrev pub IsOver : List ℕ → List (List ℕ) → Type 0
IsOver text after = (after ≡ []) × ((front : List ℕ) × (text ≡ front ++ 10 ∷ []))

ends_so : (plays : List Play) (text : List ℕ) (after : List (List ℕ)) → (IsOver text after → ⊥) → after ≡ [] → NoJournal plays text
ends_so plays text after not none entries fit same =
    let ends = journal_ends plays entries in
    not (none, (ends.0, same ∙ ends.1))

pub bad_after : (plays : List Play) (text : List ℕ) (middle : List (List ℕ)) (entries : List Entry) (after : List (List ℕ)) (line : ℕ)
    → Named plays → lines_of text ≡ first_line ∷ middle → AreEntries plays middle entries after → (IsOver text after → ⊥) → line ≡ length entries + 3 → IsBadAt plays text line
bad_after plays text middle entries after line named first are not number =
    let last = end_line (length entries) in
    let long = length-append (begun plays entries) (last ∷ []) in
    bad_at plays text (journal_lines plays entries) after line (whole_lines plays text middle entries after first are)
    (omega (arith, number, begun_len plays entries, long))
    (entries, [], are.fit, lines_of-journal plays entries named are.fit ∙ sym (append-nil (journal_lines plays entries)))
    (no_more plays entries after named are.fit) (ends_so plays text after not)

pub is_journal : (plays : List Play) (text : List ℕ) (middle : List (List ℕ)) (entries : List Entry) (after : List (List ℕ))
    → lines_of text ≡ first_line ∷ middle → AreEntries plays middle entries after → IsOver text after → Fits plays entries × (text ≡ journal_text plays entries)
is_journal plays text middle entries after first are over =
    let lines = whole_lines plays text middle entries after first are ∙ ap (λ ls. journal_lines plays entries ++ ls) over.0 ∙ append-nil (journal_lines plays entries) in
    let front = over.1.0 in
    let ends = over.1.1 in
    (are.fit, ends ∙ sym (text_of-lines_of front) ∙ ap (λ t. text_of (lines_of t)) (sym ends) ∙ ap text_of lines)

pub middle_few : (text : List ℕ) (middle : List (List ℕ)) → lines_of text ≡ first_line ∷ middle → length middle < length text
middle_few text middle first = omega (arith, ap length first, lines_few text)

pub entries_few : (plays : List Play) (text : List ℕ) (middle : List (List ℕ)) (entries : List Entry) (after : List (List ℕ))
    → lines_of text ≡ first_line ∷ middle → AreEntries plays middle entries after → length entries + 1 < length text
entries_few plays text middle entries after first are =
    omega (arith, middle_few text middle first, simp (length-append, length-map) at (ap length are.split))

pub on_bad_line : (plays : List Play) (text : List ℕ) (middle : List (List ℕ)) (e : JournalError) → Named plays → lines_of text ≡ first_line ∷ middle
    → OnBad e (Stops plays middle) → OnBad e (IsBadAt plays text)
on_bad_line plays text middle (Bad line) named first stops = bad_line plays text middle line named first stops
on_bad_line plays text middle NoMemory named first stops = tt

-- the text determines the journal
one_entry : (plays : List Play) (e o : Entry) → Named plays → FitsEntry plays e → FitsEntry plays o → entry_text plays e ≡ entry_text plays o → e ≡ o
one_entry plays e o named he ho same =
    let found : Some e ≡ Some o = sym (entry_again plays e named he) ∙ ap (entry_in plays) same ∙ entry_again plays o named ho in
    cc

same_entries : (plays : List Play) (entries others : List Entry) (m n : ℕ) → Named plays → Fits plays entries → Fits plays others
    → map (entry_text plays) entries ++ end_line m ∷ [] ≡ map (entry_text plays) others ++ end_line n ∷ [] → entries ≡ others
same_entries plays [] [] m n named he ho same = refl
same_entries plays [] (o ∷ others) m n named he ho same = let first : entry_text plays o ≡ end_line m = cc in absurd (entry_not_end plays o m ho.0 first)
same_entries plays (e ∷ entries) [] m n named he ho same = let first : entry_text plays e ≡ end_line n = cc in absurd (entry_not_end plays e n he.0 first)
same_entries plays (e ∷ entries) (o ∷ others) m n named he ho same =
    let first : entry_text plays e ≡ entry_text plays o = cc in
    let rest : map (entry_text plays) entries ++ end_line m ∷ [] ≡ map (entry_text plays) others ++ end_line n ∷ [] = cc in
    let one = one_entry plays e o named he.0 ho.0 first in
    let more = same_entries plays entries others m n named he.1 ho.1 rest in
    cc

pub one_journal_lem : (plays : List Play) (entries others : List Entry) → Named plays → Fits plays entries → Fits plays others
    → journal_text plays entries ≡ journal_text plays others → entries ≡ others
one_journal_lem plays entries others named he ho same =
    let lines : journal_lines plays entries ≡ journal_lines plays others = sym (lines_of-journal plays entries named he) ∙ ap lines_of same ∙ lines_of-journal plays others named ho in
    let tails : map (entry_text plays) entries ++ end_line (length entries) ∷ [] ≡ map (entry_text plays) others ++ end_line (length others) ∷ [] = cc in
    same_entries plays entries others (length entries) (length others) named he ho tails
