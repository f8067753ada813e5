-- An entry's own line gives the entry.
use Rattle.std.proofs.Common.{◌≡◌, ℕ, zero, suc, ◌*◌, ◌/◌, ◌<◌, ◌≤◌, ◌^◌, Bool, true, false, ◌&&◌, List, [], ◌∷◌, ◌++◌, length, Option, Some, None, refl, ap, ◌∙◌, subst, arith, append_assoc}
use Rattle.std.specs.Prelude.{codes, nat_eq, nat_le, slice_get}
use Rattle.std.specs.Fmt.{decimal}
use Rattle.std.specs.List.{AllByRecursion}
use Rattle.std.specs.Result.{result_ok}
use Rattle.std.specs.Str.{bytes_eq}
use Rattle.std.proofs.lemmas.Bool.Decides.{nat_tests}
use Rattle.std.proofs.lemmas.List.{append-nil}
use Rattle.hex.specs.Hex.{encode_lower, lower_digits, decode_sized, IsBytes}
use Rattle.hex.proofs.HexLemmas.{decode_sized-encode_lower, length-encode_with}
use Rattle.plc_text.specs.Code.{code_name}
use Rattle.plc_text.specs.Fault.{fault_name}
use Rattle.plc_text.specs.declared.code.Code.{Code}
use Rattle.plc_text.specs.declared.code.Code.TheVariants.{E01}
use Rattle.plc_text.specs.declared.fault.FaultKind.{FaultKind}
use Rattle.plc_text.specs.declared.fault.FaultKind.TheVariants.{Divide}
use Rattle.plc_text.specs.declared.fault.Fault.{Fault as Stop}
use Rattle.plc_text.specs.declared.refusal.Refusal.{Refusal}
use Rattle.cycle_journal.specs.declared.play.Play.{Play}
use Rattle.cycle_journal.specs.declared.play.Play.TheVariants.{Cycle, Change, Reset}
use Rattle.cycle_journal.specs.declared.entry.Entry.{Entry}
use Rattle.cycle_journal.specs.declared.entry.Answer.{Answer}
use Rattle.cycle_journal.specs.declared.entry.Answer.TheVariants.{Done, Fault, Held, NoTask, Loaded, Refused, RefusedMemory, Released}
use Rattle.plc_text.specs.Words.{is_upper_word}
use Rattle.cycle_journal.specs.Play.{play_numbered, name_of, Named}
use Rattle.cycle_journal.specs.Writing.{image, kind_text, answer_text, play_text, entry_text}
use Rattle.cycle_journal.specs.Fits.{is_declaration, FitsAnswer, FitsEntry}
use Rattle.plc_text.specs.Fields.{first_field, behind_field}
use Rattle.plc_text.specs.Numbers.{number_in}
use Rattle.cycle_journal.specs.Private.Candidate.{code_in, fault_kind_in, hex_in, outputs_in, done_in, ended_in, fault_in, kind_in, refusal_in, refused_in, answer_of, behind_play, answer_in, entry_in}
use Rattle.plc_text.proofs.LineLaws.{HoldsNo}
use Rattle.plc_text.proofs.FieldLaws.{first_field-space, behind_field-space, first_field-all, behind_field-all}
use Rattle.plc_text.proofs.NumberLaws.{number_in-decimal}
use Rattle.cycle_journal.proofs.RefusalLaws.{refusal_again}
use Rattle.cycle_journal.proofs.InkLaws.{Above, above_no, decimal_above, name_above, declaration_above, code_above, fault_above, IsBytes-from_all}

-- words
unspaced : (word : List ℕ) → Above 32 word → HoldsNo 32 word
unspaced word h = above_no 32 32 (omega arith) word h

pub first_word : (word rest : List ℕ) → Above 32 word → first_field (word ++ 32 ∷ rest) ≡ word
first_word word rest h = first_field-space word rest (unspaced word h)

after_word : (word rest : List ℕ) → Above 32 word → behind_field (word ++ 32 ∷ rest) ≡ rest
after_word word rest h = behind_field-space word rest (unspaced word h)

last_word : (word : List ℕ) → Above 32 word → first_field word ≡ word
last_word word h = first_field-all word (unspaced word h)

nothing_after : (word : List ℕ) → Above 32 word → behind_field word ≡ []
nothing_after word h = behind_field-all word (unspaced word h)

-- codes and kinds of faults
code_again : (code : Code) → code_in (code_name code) ≡ Some code
unfolding code_in
code_again E01 = refl
code_again _ = refl

fault_kind_again : (kind : FaultKind) → fault_kind_in (fault_name kind) ≡ Some kind
unfolding fault_kind_in
fault_kind_again Divide = refl
fault_kind_again _ = refl

-- outputs
half : (n : ℕ) → (2 * n) / 2 ≡ n
half n = omega arith

within : (n : ℕ) → n ≤ 256 → nat_le n 256 ≡ true
within n h = grind (arith, nat_tests)

hex_again : (xs : List ℕ) → length xs ≤ 256 → IsBytes xs → hex_in (encode_lower xs) ≡ Some xs
unfolding hex_in
hex_again xs l h =
    let long : length (encode_lower xs) / 2 ≡ length xs = ap (λ n. n / 2) (length-encode_with lower_digits xs) ∙ half (length xs) in
    let few : nat_le (length (encode_lower xs) / 2) 256 ≡ true = ap (λ n. nat_le n 256) long ∙ within (length xs) l in
    rw few (ap (λ n. result_ok (decode_sized (encode_lower xs) n)) long ∙ ap result_ok (decode_sized-encode_lower xs (length xs) refl h))

and_no : (b : Bool) → (b && false) ≡ false
and_no true = refl
and_no false = refl

other_than_dash : (text : List ℕ) → 2 ≤ length text → bytes_eq text (codes "-") ≡ false
other_than_dash [] l = absurd (omega arith)
other_than_dash (y ∷ []) l = absurd (omega arith)
other_than_dash (y ∷ z ∷ ys) l = and_no (nat_eq y 45)

outputs_again : (xs : List ℕ) → length xs ≤ 256 → AllByRecursion (λ b. b < 256) xs → outputs_in (image xs) ≡ Some xs
unfolding outputs_in
outputs_again [] l h = refl
outputs_again (x ∷ xs) l h =
    let apart = other_than_dash (encode_lower (x ∷ xs)) (omega (arith, length-encode_with lower_digits (x ∷ xs))) in
    rw apart (hex_again (x ∷ xs) l (IsBytes-from_all (x ∷ xs) h))

-- answers

not_empty : (front rest : List ℕ) (b : ℕ) → ended_in (front ++ b ∷ rest) ≡ done_in (front ++ b ∷ rest)
unfolding ended_in
not_empty [] rest b = refl
not_empty (x ∷ front) rest b = refl

done_again : (ticks : ℕ) (outputs : List ℕ) → ticks < 2 ^ 32 → length outputs ≤ 256 → AllByRecursion (λ b. b < 256) outputs
    → ended_in (decimal ticks ++ 32 ∷ image outputs) ≡ Some (Done ticks outputs)
unfolding done_in
done_again ticks outputs ht l h =
    let text = decimal ticks ++ 32 ∷ image outputs in
    let n : number_in (first_field text) ≡ Some ticks = ap number_in (first_word (decimal ticks) (image outputs) (decimal_above ticks)) ∙ number_in-decimal ticks ht in
    let bytes : outputs_in (behind_field text) ≡ Some outputs = ap outputs_in (after_word (decimal ticks) (image outputs) (decimal_above ticks)) ∙ outputs_again outputs l h in
    not_empty (decimal ticks) (image outputs) 32 ∙ rw (n, bytes)

fault_again : (fault : Stop) → fault.line < 2 ^ 32 → fault_in (fault_name fault.kind ++ 32 ∷ decimal fault.line) ≡ Some (Fault fault)
unfolding fault_in
fault_again fault h =
    let kind = first_word (fault_name fault.kind) (decimal fault.line) (fault_above fault.kind) in
    let line = after_word (fault_name fault.kind) (decimal fault.line) (fault_above fault.kind) in
    let again = fault_kind_again fault.kind in
    let n = number_in-decimal fault.line h in
    rw (kind, line, again, n)

-- the word of a refusal's kind, where there is one
abbrev kind_word : Option FaultKind → List ℕ
kind_word None = []
kind_word (Some kind) = fault_name kind

line_before_kind : (line : ℕ) (kind : Option FaultKind) → first_field (decimal line ++ kind_text kind) ≡ decimal line
line_before_kind line None = ap first_field (append-nil (decimal line)) ∙ last_word (decimal line) (decimal_above line)
line_before_kind line (Some kind) = first_word (decimal line) (fault_name kind) (decimal_above line)

kind_after_line : (line : ℕ) (kind : Option FaultKind) → behind_field (decimal line ++ kind_text kind) ≡ kind_word kind
kind_after_line line None = ap behind_field (append-nil (decimal line)) ∙ nothing_after (decimal line) (decimal_above line)
kind_after_line line (Some kind) = after_word (decimal line) (fault_name kind) (decimal_above line)

kind_again : (kind : Option FaultKind) → kind_in (kind_word kind) ≡ Some kind
unfolding kind_in fault_kind_in
kind_again None = refl
kind_again (Some Divide) = refl
kind_again (Some _) = refl

-- what stands behind the code of a refusal, and behind its declaration
abbrev line_text : Refusal → List ℕ
line_text r = decimal r.line ++ kind_text r.kind

abbrev declaration_text : Refusal → List ℕ
declaration_text r = r.declaration ++ 32 ∷ line_text r

refusal_read : (r : Refusal) → is_declaration r.declaration ≡ true → r.line < 2 ^ 32 → refusal_in (code_name r.code ++ 32 ∷ declaration_text r) ≡ Some r
unfolding refusal_in
refusal_read r named fits =
    let text = code_name r.code ++ 32 ∷ declaration_text r in
    let word = declaration_above r.declaration named in
    let behind : behind_field text ≡ declaration_text r = after_word (code_name r.code) (declaration_text r) (code_above r.code) in
    let twice : behind_field (behind_field text) ≡ line_text r = ap behind_field behind ∙ after_word r.declaration (line_text r) word in
    let code : code_in (first_field text) ≡ Some r.code = ap code_in (first_word (code_name r.code) (declaration_text r) (code_above r.code)) ∙ code_again r.code in
    let declaration : first_field (behind_field text) ≡ r.declaration = ap first_field behind ∙ first_word r.declaration (line_text r) word in
    let line : number_in (first_field (behind_field (behind_field text))) ≡ Some r.line = ap (λ t. number_in (first_field t)) twice ∙ ap number_in (line_before_kind r.line r.kind) ∙ number_in-decimal r.line fits in
    let kind : kind_in (behind_field (behind_field (behind_field text))) ≡ Some r.kind = ap (λ t. kind_in (behind_field t)) twice ∙ ap kind_in (kind_after_line r.line r.kind) ∙ kind_again r.kind in
    rw (code, line, kind, declaration) (refusal_again r)

not_memory : (code : Code) (rest : List ℕ) → bytes_eq (code_name code ++ rest) (codes "memory") ≡ false
not_memory E01 rest = refl
not_memory _ rest = refl

refused_again : (r : Refusal) → is_declaration r.declaration ≡ true → r.line < 2 ^ 32 → refused_in (code_name r.code ++ 32 ∷ declaration_text r) ≡ Some (Refused r)
unfolding refused_in
refused_again r named fits =
    let apart = not_memory r.code (32 ∷ declaration_text r) in
    let read = refusal_read r named fits in
    rw (apart, read)

refused_fields : (code declaration line kind : List ℕ) → ((((code ++ codes " ") ++ declaration) ++ codes " ") ++ line) ++ kind ≡ code ++ 32 ∷ (declaration ++ 32 ∷ (line ++ kind))
refused_fields code declaration line kind = simp append_assoc

answer_again : (version : ℕ) (a : Answer) → FitsAnswer version a → answer_of (first_field (answer_text a)) (behind_field (answer_text a)) ≡ Some a
unfolding answer_of ended_in refused_in
answer_again version (Done ticks outputs) h = ap ended_in (append_assoc (decimal ticks) (codes " ") (image outputs)) ∙ done_again ticks outputs h.0 h.1 h.2
answer_again version (Fault fault) h = ap fault_in (append_assoc (fault_name fault.kind) (codes " ") (decimal fault.line)) ∙ fault_again fault h
answer_again version Held h = refl
answer_again version (NoTask since) h = let n = number_in-decimal since h in rw n
answer_again version (Loaded next) h = let n = number_in-decimal next h.1 in rw n
answer_again version (Refused r) h =
    ap refused_in (refused_fields (code_name r.code) r.declaration (decimal r.line) (kind_text r.kind)) ∙ refused_again r h.0 h.1
answer_again version RefusedMemory h = refl
answer_again version Released h = refl

-- plays
cycle_fields : (task digits answer : List ℕ) → ((task ++ codes " ") ++ digits) ++ 32 ∷ answer ≡ task ++ 32 ∷ (digits ++ 32 ∷ answer)
cycle_fields task digits answer = simp append_assoc

play_again : (play : Play) (answer : List ℕ) → is_upper_word (name_of play) ≡ true → behind_play play (play_text (Some play) ++ 32 ∷ answer) ≡ answer
play_again (Cycle task now input) answer h =
    ap (λ t. behind_field (behind_field t)) (cycle_fields task (decimal now) answer)
    ∙ ap behind_field (after_word task (decimal now ++ 32 ∷ answer) (name_above task h)) ∙ after_word (decimal now) answer (decimal_above now)
play_again (Change name source) answer h = after_word name answer (name_above name h)
play_again (Reset task) answer h = after_word task answer (name_above task h)

answer_read : (play : Play) (version : ℕ) (a : Answer) → is_upper_word (name_of play) ≡ true → FitsAnswer version a → answer_in play (play_text (Some play) ++ 32 ∷ answer_text a) ≡ Some a
unfolding answer_in
answer_read play version a named h =
    let behind = play_again play (answer_text a) named in
    ap (λ t. answer_of (first_field t) (behind_field t)) behind ∙ answer_again version a h

of_all : {X : Type 0} (P : X → Type 0) (xs : List X) (i : ℕ) (x : X) → AllByRecursion P xs → slice_get xs i ≡ Some x → P x
of_all P [] i x h e = absurd cc
of_all P (y ∷ ys) zero x h e = let same : y ≡ x = cc in subst P same h.0
of_all P (y ∷ ys) (suc i) x h e = of_all P ys i x h.1 e

pub named_play : (plays : List Play) (n : ℕ) (play : Play) → Named plays → play_numbered plays n ≡ Some play → is_upper_word (name_of play) ≡ true
named_play plays zero play named e = absurd cc
named_play plays (suc n) play named e = of_all (λ (p : Play). is_upper_word (name_of p) ≡ true) plays n play named e

-- an entry's line, with the fields in a row
pub entry_fields : (plays : List Play) (e : Entry)
    → entry_text plays e ≡ decimal e.version ++ 32 ∷ (decimal e.play ++ 32 ∷ (play_text (play_numbered plays e.play) ++ 32 ∷ answer_text e.answer))
entry_fields plays e = simp append_assoc

entry_from_parts : (plays : List Play) (line : List ℕ) (version number : ℕ) (play : Play) (answer : Answer)
    → number_in (first_field line) ≡ Some version → number_in (first_field (behind_field line)) ≡ Some number
    → play_numbered plays number ≡ Some play → answer_in play (behind_field (behind_field line)) ≡ Some answer
    → entry_in plays line ≡ Some (record { version = version; play = number; answer = answer })
unfolding entry_in
entry_from_parts plays line version number play answer a b found c = rw (a, b, found, c)

pub entry_again : (plays : List Play) (e : Entry) → Named plays → FitsEntry plays e → entry_in plays (entry_text plays e) ≡ Some e
entry_again plays e named h =
    let answer = play_text (play_numbered plays e.play) ++ 32 ∷ answer_text e.answer in
    let rest = decimal e.play ++ 32 ∷ answer in
    let text = decimal e.version ++ 32 ∷ rest in
    let behind : behind_field text ≡ rest = after_word (decimal e.version) rest (decimal_above e.version) in
    let twice : behind_field (behind_field text) ≡ answer = ap behind_field behind ∙ after_word (decimal e.play) answer (decimal_above e.play) in
    let version : number_in (first_field text) ≡ Some e.version = ap number_in (first_word (decimal e.version) rest (decimal_above e.version)) ∙ number_in-decimal e.version h.version-fits in
    let number : number_in (first_field (behind_field text)) ≡ Some e.play =
    ap (λ t. number_in (first_field t)) behind ∙ ap number_in (first_word (decimal e.play) answer (decimal_above e.play)) ∙ number_in-decimal e.play h.play-fits in
    let found = h.play-is in
    let read : answer_in h.play (behind_field (behind_field text)) ≡ Some e.answer =
    ap (answer_in h.play) (twice ∙ ap (λ p. play_text p ++ 32 ∷ answer_text e.answer) found) ∙ answer_read h.play e.version e.answer (named_play plays e.play h.play named found) h.answer-fits in
    ap (entry_in plays) (entry_fields plays e) ∙ entry_from_parts plays text e.version e.play h.play e.answer version number found read
