-- What is kept of an image, byte for byte.
use Rattle.std.proofs.Common.{◌≡◌, ◌≢◌, ℕ, ◌+◌, ◌-◌, ◌*◌, ◌/◌, ◌<◌, ◌≤◌, Bool, true, false, List, ◌++◌, length, take, drop, get_or, inl, inr, refl, sym, ap, ◌∙◌, subst, arith, rules, length-append, length-drop}
use Rattle.std.specs.Prelude.{◌⊎◌, slice_range, min, set, nat_eq}
use Rattle.std.proofs.lemmas.List.{append_assoc, get_or-take, get_or-drop, get_or_append_left, get_or-append_right, get_or-set_same, get_or-set_other, length-set, length-take-le, ext_get_or}
use Rattle.mem_image.specs.Image.{replaced}
use Rattle.mem_image.proofs.PartLaws.{replaced_is, length-replaced, length-range}
use Rattle.undo_image.specs.declared.blocks.Blocks.{Blocks}
use Rattle.std.proofs.lemmas.Bool.{cases_lt, cases_eq, eq-eqb, ne_eqb}
use borrow.Author.Tests.{clash}
use Rattle.undo_image.specs.Private.Blocks.{is_marked, IsWellFormed, IsLog, IsUndoable, StaysUndoable, AreMarked, Preserved, Restores, Restored}

-- ---- bytes after a write

before_part : (xs part : List ℕ) (at i : ℕ) → at + length part ≤ length xs → i < at → get_or (replaced xs at part) i 0 ≡ get_or xs i 0
before_part xs part at i h l =
    let front : length (take at xs) ≡ at = length-take-le at xs (omega arith) in
    ap (λ l. get_or l i 0) (replaced_is xs at part h ∙ append_assoc (take at xs) part (drop (at + length part) xs))
    ∙ get_or_append_left (take at xs) (part ++ drop (at + length part) xs) 0 i (omega arith)
    ∙ get_or-take at xs i 0 l

pub in_part : (xs part : List ℕ) (at i : ℕ) → at + length part ≤ length xs → i < length part → get_or (replaced xs at part) (at + i) 0 ≡ get_or part i 0
in_part xs part at i h l =
    let front : length (take at xs) ≡ at = length-take-le at xs (omega arith) in
    let k : at + i - at ≡ i = omega arith in
    ap (λ l. get_or l (at + i) 0) (replaced_is xs at part h ∙ append_assoc (take at xs) part (drop (at + length part) xs))
    ∙ get_or-append_right (take at xs) (part ++ drop (at + length part) xs) at (at + i) 0 front (omega arith)
    ∙ ap (λ j. get_or (part ++ drop (at + length part) xs) j 0) k
    ∙ get_or_append_left part (drop (at + length part) xs) 0 i l

behind_part : (xs part : List ℕ) (at i : ℕ) → at + length part ≤ length xs → at + length part ≤ i → get_or (replaced xs at part) i 0 ≡ get_or xs i 0
behind_part xs part at i h l =
    let end = at + length part in
    let front : length (take at xs ++ part) ≡ end = length-append (take at xs) part ∙ ap (λ n. n + length part) (length-take-le at xs (omega arith)) in
    let k : end + (i - end) ≡ i = omega arith in
    ap (λ l. get_or l i 0) (replaced_is xs at part h)
    ∙ get_or-append_right (take at xs ++ part) (drop end xs) end i 0 front l
    ∙ get_or-drop end xs (i - end) 0
    ∙ ap (λ j. get_or xs j 0) k

pub out_of_part : (xs part : List ℕ) (at i : ℕ) → at + length part ≤ length xs → (i < at) ⊎ (at + length part ≤ i) → get_or (replaced xs at part) i 0 ≡ get_or xs i 0
out_of_part xs part at i h side = elim side [
  | inl l ↦ before_part xs part at i h l
  | inr l ↦ behind_part xs part at i h l
]

of_range : (xs : List ℕ) (at n i : ℕ) → i < n → get_or (slice_range xs at (at + n)) i 0 ≡ get_or xs (at + i) 0
of_range xs at n i l =
    let m : at + n - at ≡ n = omega arith in
    ap (λ m. get_or (take m (drop at xs)) i 0) m ∙ get_or-take n (drop at xs) i 0 l ∙ get_or-drop at xs i 0

-- a part that is copied from the same place of another list
pub copied_in : (xs ys : List ℕ) (at n i : ℕ) → at + n ≤ length xs → at + n ≤ length ys → at ≤ i → i < at + n
    → get_or (replaced xs at (slice_range ys at (at + n))) i 0 ≡ get_or ys i 0
copied_in xs ys at n i h g low high =
    let size : length (slice_range ys at (at + n)) ≡ n = length-range ys at n g in
    let k : at + (i - at) ≡ i = omega arith in
    ap (λ j. get_or (replaced xs at (slice_range ys at (at + n))) j 0) (sym k)
    ∙ in_part xs (slice_range ys at (at + n)) at (i - at) (omega arith) (omega arith)
    ∙ of_range ys at n (i - at) (omega arith)
    ∙ ap (λ j. get_or ys j 0) k

pub copied_out : (xs ys : List ℕ) (at n i : ℕ) → at + n ≤ length xs → at + n ≤ length ys → (i < at) ⊎ (at + n ≤ i)
    → get_or (replaced xs at (slice_range ys at (at + n))) i 0 ≡ get_or xs i 0
copied_out xs ys at n i h g side =
    let size : length (slice_range ys at (at + n)) ≡ n = length-range ys at n g in
    out_of_part xs (slice_range ys at (at + n)) at i (omega arith) (elim side [ inl l ↦ inl l | inr l ↦ inr (omega arith) ])

-- ---- writes to what is marked

formed_with : (b : Blocks) (image : List ℕ) → IsWellFormed b → length image ≡ length b.image → IsWellFormed (record b { image = image })
formed_with b image u long = record { before_long = u.before_long ∙ sym long; small = (let s = u.small in omega arith); blocks = (let s = u.blocks in omega arith); begun = u.begun; no_later = u.no_later; exact = (let s = u.exact in omega arith) }

-- a byte of a part that is marked, or one beside it
aside : (b : Blocks) (at n i : ℕ) → AreMarked b at n → is_marked b (i / 256) ≡ false → (i < at) ⊎ (at + n ≤ i)
aside b at n i m e = elim (cases_lt i at) [
  | inl l ↦ inl l
  | inr g ↦ elim (cases_lt i (at + n)) [
    | inl l ↦ absurd (clash (sym e ∙ m.each i g l))
    | inr h ↦ inr h
  ]
]

pub written_undoable : (b : Blocks) (committed part image : List ℕ) (at : ℕ) → IsUndoable b committed → at + length part ≤ length b.image → AreMarked b at (length part) → image ≡ replaced b.image at part
    → IsUndoable (record b { image = image }) committed
written_undoable b committed part image at u h m e =
    let long : length image ≡ length b.image = ap length e ∙ length-replaced b.image part at h in
    record {
      formed = formed_with b image u.formed long;
      committed_long = u.committed_long ∙ sym long;
      stays = λ i l unmarked.
          ap (λ xs. get_or xs i 0) e
          ∙ out_of_part b.image part at i h (aside b at (length part) i m unmarked)
          ∙ u.stays i (omega arith) unmarked;
      saved = λ i l marked. u.saved i (omega arith) marked;
    }

-- ---- blocks

-- a byte of a block, by the quotient
in_block : (block i : ℕ) → i / 256 ≡ block → (block * 256 ≤ i) × (i < block * 256 + 256)
in_block block i e = (omega arith, omega arith)

out_of_block : (block i n : ℕ) → (i / 256 ≡ block → ⊥) → n ≤ 256 → (i < block * 256) ⊎ (block * 256 + n ≤ i)
out_of_block block i n ne few = elim (cases_lt i (block * 256)) [
  | inl l ↦ inl l
  | inr g ↦ elim (cases_lt i (block * 256 + 256)) [
    | inl l ↦ absurd (ne (omega arith))
    | inr h ↦ inr (omega arith)
  ]
]

-- in a block of which the last n bytes are there
within_block : (block i n long : ℕ) → i / 256 ≡ block → i < long → n ≡ min (long - block * 256) 256 → (block * 256 ≤ i) × (i < block * 256 + n)
within_block block i n long e l m = (omega arith, omega arith)

marked_other : (b c : Blocks) (block j m : ℕ) → c.marks.items ≡ set b.marks.items block m → c.epoch ≡ b.epoch → (j ≡ block → ⊥) → is_marked c j ≡ is_marked b j
marked_other b c block j m e ep ne = ap (λ n. nat_eq n c.epoch) (ap (λ ms. get_or ms j 0) e ∙ get_or-set_other b.marks.items block j m 0 ne) ∙ ap (nat_eq (get_or b.marks.items j 0)) ep

mark_is : (b c : Blocks) (block m : ℕ) → c.marks.items ≡ set b.marks.items block m → block < length b.marks.items → get_or c.marks.items block 0 ≡ m
mark_is b c block m e l = ap (λ ms. get_or ms block 0) e ∙ get_or-set_same b.marks.items block m 0 l

formed_then : (b c : Blocks) (block m : ℕ) → IsWellFormed b → block < length b.marks.items → length c.image ≡ length b.image → length c.before ≡ length b.before → c.marks.items ≡ set b.marks.items block m → c.epoch ≡ b.epoch → m ≤ b.epoch → IsWellFormed c
formed_then b c block m formed below long kept mk ep l =
    let count : length c.marks.items ≡ length b.marks.items = ap length mk ∙ length-set b.marks.items block m in
    record {
      before_long = kept ∙ formed.before_long ∙ sym long;
      small = (let s = formed.small in omega arith);
      blocks = (let s = formed.blocks in omega arith);
      begun = (let s = formed.begun in omega arith);
      no_later = λ k. elim (cases_eq k block) [
        | inl e ↦ (let here : get_or c.marks.items k 0 ≡ m = ap (λ j. get_or c.marks.items j 0) e ∙ mark_is b c block m mk below in omega arith)
        | inr ne ↦ (let other : get_or c.marks.items k 0 ≡ get_or b.marks.items k 0 = ap (λ ms. get_or ms k 0) mk ∙ get_or-set_other b.marks.items block k m 0 ne in let s = formed.no_later k in omega arith)
      ];
      exact = (let s = formed.exact in omega arith);
    }

pub saved_block : (b c : Blocks) (block n : ℕ) → IsWellFormed b → block * 256 < length b.image → is_marked b block ≡ false → n ≡ min (length b.image - block * 256) 256
    → c.image ≡ b.image → c.before ≡ replaced b.before (block * 256) (slice_range b.image (block * 256) (block * 256 + n)) → c.marks.items ≡ set b.marks.items block b.epoch → c.epoch ≡ b.epoch
    → StaysUndoable b c × (is_marked c block ≡ true)
saved_block b c block n formed within unmarked m im sp mk ep =
    let room : block * 256 + n ≤ length b.image = omega arith in
    let there : block * 256 + n ≤ length b.before = (let s = formed.before_long in omega arith) in
    let below : block < length b.marks.items = (let s = formed.blocks in omega arith) in
    let long : length c.image ≡ length b.image = ap length im in
    let size : length (slice_range b.image (block * 256) (block * 256 + n)) ≡ n = length-range b.image (block * 256) n room in
    let kept : length c.before ≡ length b.before = ap length sp ∙ length-replaced b.before (slice_range b.image (block * 256) (block * 256 + n)) (block * 256) (omega arith) in
    let here : is_marked c block ≡ true = ap (λ n. nat_eq n c.epoch) (mark_is b c block b.epoch mk below) ∙ eq-eqb b.epoch c.epoch (sym ep) in
    let formed2 : IsWellFormed c = formed_then b c block b.epoch formed below long kept mk ep (omega arith) in (
      record {
        image = im;
        formed = formed2;
        undoable = λ committed u. record {
          formed = formed2;
          committed_long = u.committed_long ∙ sym long;
          stays = λ i l e.
              elim (cases_eq (i / 256) block) [
                | inl same ↦ absurd (clash (sym e ∙ (ap (is_marked c) same ∙ here)))
                | inr ne ↦ ap (λ xs. get_or xs i 0) im ∙ u.stays i (omega arith) (sym (marked_other b c block (i / 256) b.epoch mk ep ne) ∙ e)
              ];
          saved = λ i l e.
              elim (cases_eq (i / 256) block) [
                | inl same ↦
                    let w = within_block block i n (length b.image) same (omega arith) m in
                    ap (λ xs. get_or xs i 0) sp ∙ copied_in b.before b.image (block * 256) n i there room w.0 w.1 ∙ u.stays i (omega arith) (ap (is_marked b) same ∙ unmarked)
                | inr ne ↦ ap (λ xs. get_or xs i 0) sp ∙ copied_out b.before b.image (block * 256) n i there room (out_of_block block i n ne (omega arith)) ∙ u.saved i (omega arith) (sym (marked_other b c block (i / 256) b.epoch mk ep ne) ∙ e)
              ];
        };
        marks = λ j e.
            elim (cases_eq j block) [
              | inl same ↦ ap (is_marked c) same ∙ here
              | inr ne ↦ marked_other b c block j b.epoch mk ep ne ∙ e
            ];
      },
      here,
    )

pub restored_block : (b c : Blocks) (block n : ℕ) → IsWellFormed b → block < length b.marks.items → is_marked b block ≡ true → n ≡ min (length b.image - block * 256) 256
    → c.before ≡ b.before → c.image ≡ replaced b.image (block * 256) (slice_range b.before (block * 256) (block * 256 + n)) → c.marks.items ≡ set b.marks.items block 0 → c.epoch ≡ b.epoch
    → Restores b c × (is_marked c block ≡ false)
restored_block b c block n formed below marked m sp im mk ep =
    let within : block * 256 < length b.image = (let s = formed.exact in omega arith) in
    let room : block * 256 + n ≤ length b.image = omega arith in
    let there : block * 256 + n ≤ length b.before = (let s = formed.before_long in omega arith) in
    let size : length (slice_range b.before (block * 256) (block * 256 + n)) ≡ n = length-range b.before (block * 256) n there in
    let long : length c.image ≡ length b.image = ap length im ∙ length-replaced b.image (slice_range b.before (block * 256) (block * 256 + n)) (block * 256) (omega arith) in
    let kept : length c.before ≡ length b.before = ap length sp in
    let count : length c.marks.items ≡ length b.marks.items = ap length mk ∙ length-set b.marks.items block 0 in
    let positive : 0 < c.epoch = (let s = formed.begun in omega arith) in
    let here : is_marked c block ≡ false = ap (λ n. nat_eq n c.epoch) (mark_is b c block 0 mk below) ∙ ne_eqb 0 c.epoch (λ e. absurd (omega arith)) in
    let formed2 : IsWellFormed c = formed_then b c block 0 formed below long kept mk ep (omega arith) in (
      record {
        formed = formed2;
        undoable = λ committed u. record {
          formed = formed2;
          committed_long = u.committed_long ∙ sym long;
          stays = λ i l e.
              elim (cases_eq (i / 256) block) [
                | inl same ↦
                    let w = within_block block i n (length b.image) same (omega arith) m in
                    ap (λ xs. get_or xs i 0) im ∙ copied_in b.image b.before (block * 256) n i room there w.0 w.1 ∙ u.saved i (omega arith) (ap (is_marked b) same ∙ marked)
                | inr ne ↦ ap (λ xs. get_or xs i 0) im ∙ copied_out b.image b.before (block * 256) n i room there (out_of_block block i n ne (omega arith)) ∙ u.stays i (omega arith) (sym (marked_other b c block (i / 256) 0 mk ep ne) ∙ e)
              ];
          saved = λ i l e.
              elim (cases_eq (i / 256) block) [
                | inl same ↦ absurd (clash (sym here ∙ (ap (is_marked c) (sym same) ∙ e)))
                | inr ne ↦ ap (λ xs. get_or xs i 0) sp ∙ u.saved i (omega arith) (sym (marked_other b c block (i / 256) 0 mk ep ne) ∙ e)
              ];
        };
        marks = λ j e.
            elim (cases_eq j block) [
              | inl same ↦ ap (is_marked c) same ∙ here
              | inr ne ↦ marked_other b c block j 0 mk ep ne ∙ e
            ];
        count = count;
      },
      here,
    )

-- where no block is marked, the bytes are those that were committed
pub all_restored : (b : Blocks) (committed : List ℕ) → IsUndoable b committed → ((block : ℕ) → block < length b.marks.items → is_marked b block ≡ false) → b.image ≡ committed
all_restored b committed u h =
    ext_get_or 0 b.image committed (sym u.committed_long) (λ i l. u.stays i l (h (i / 256) (let s = u.formed.blocks in omega arith)))

-- ---- loops over blocks

pub stays_same : (b : Blocks) → IsWellFormed b → StaysUndoable b b
stays_same b formed = record { image = refl; formed = formed; undoable = λ c u. u; marks = λ k e. e }

pub stays_then : (b c d : Blocks) → StaysUndoable b c → StaysUndoable c d → StaysUndoable b d
stays_then b c d s t = record { image = t.image ∙ s.image; formed = t.formed; undoable = λ x u. t.undoable x (s.undoable x u); marks = λ k e. t.marks k (s.marks k e) }

pub preserved_begun : (b : Blocks) (first : ℕ) → IsWellFormed b → Preserved b b first first
preserved_begun b first formed = record { stays = stays_same b formed; marked = λ k g l. absurd (omega arith) }

pub preserved_next : (b c d : Blocks) (first n : ℕ) → Preserved b c first n → StaysUndoable c d → is_marked d n ≡ true → Preserved b d first (n + 1)
preserved_next b c d first n o s m = record {
  stays = stays_then b c d o.stays s;
  marked = λ k g l. elim (cases_eq k n) [ inl e ↦ ap (is_marked d) e ∙ m | inr ne ↦ s.marks k (o.marked k g (omega arith)) ];
}

pub preserved_ended : (b c : Blocks) (at n last : ℕ) → last ≡ (at + (n - 1)) / 256 → Preserved b c (at / 256) (last + 1) → AreMarked c at n
preserved_ended b c at n last e o = record { each = λ i g l. o.marked (i / 256) (omega arith) (omega arith) }

pub restored_begun : (b : Blocks) → IsWellFormed b → Restored b b 0
restored_begun b formed = record { restores = record { formed = formed; undoable = λ c u. u; marks = λ k e. e; count = refl }; done = λ k l. absurd (omega arith) }

pub restored_next : (b c d : Blocks) (n : ℕ) → Restored b c n → Restores c d → is_marked d n ≡ false → Restored b d (n + 1)
restored_next b c d n o r m = record {
  restores = record { formed = r.formed; undoable = λ x u. r.undoable x (o.restores.undoable x u); marks = λ k e. r.marks k (o.restores.marks k e); count = r.count ∙ o.restores.count };
  done = λ k l. elim (cases_eq k n) [ inl e ↦ ap (is_marked d) e ∙ m | inr ne ↦ r.marks k (o.done k (omega arith)) ];
}

pub restored_ended : (b c : Blocks) (n : ℕ) → Restored b c n → length b.marks.items ≤ n → (committed : List ℕ) → IsUndoable b committed → IsUndoable c committed × (c.image ≡ committed)
restored_ended b c n o l committed u =
    let v = o.restores.undoable committed u in
    (v, all_restored c committed v (λ k h. o.done k (let s = o.restores.count in omega arith)))

-- ---- without marks

pub fresh : (b : Blocks) → IsWellFormed b → ((block : ℕ) → is_marked b block ≡ false) → IsUndoable b b.image
fresh b formed h = record { formed = formed; committed_long = refl; stays = λ i l e. refl; saved = λ i l e. absurd (clash (sym (h (i / 256)) ∙ e)) }

pub next_epoch : (b c : Blocks) → IsWellFormed b → c.image ≡ b.image → c.before ≡ b.before → c.marks.items ≡ b.marks.items → c.epoch ≡ b.epoch + 1 → IsUndoable c b.image
next_epoch b c formed im sp mk ep =
    let long : length c.image ≡ length b.image = ap length im in
    let kept : length c.before ≡ length b.before = ap length sp in
    let count : length c.marks.items ≡ length b.marks.items = ap length mk in
    let mark = λ (k : ℕ). ap (λ ms. get_or ms k 0) mk in
    subst (IsUndoable c) im (fresh c (record {
      before_long = kept ∙ formed.before_long ∙ sym long;
      small = (let s = formed.small in omega arith);
      blocks = (let s = formed.blocks in omega arith);
      begun = omega arith;
      no_later = λ k. (let s = formed.no_later k in let e = mark k in omega arith);
      exact = (let s = formed.exact in omega arith);
    }) (λ k. ne_eqb (get_or c.marks.items k 0) c.epoch (λ e. (let s = formed.no_later k in let m = mark k in absurd (omega arith)))))

-- ---- an image and its log

pub log_joined : (b : Blocks) → IsLog b.before b.marks.items b.epoch → length b.image ≡ length b.before → IsWellFormed b
log_joined b log long = record {
  before_long = sym long;
  small = (let s = log.small in omega arith);
  blocks = (let s = log.blocks in omega arith);
  begun = log.begun;
  no_later = log.no_later;
  exact = (let s = log.exact in omega arith);
}

pub log_left : (b : Blocks) → IsWellFormed b → IsLog b.before b.marks.items b.epoch
log_left b formed =
    let long : length b.before ≡ length b.image = formed.before_long in
    record {
      small = (let s = formed.small in omega arith);
      blocks = (let s = formed.blocks in omega arith);
      begun = formed.begun;
      no_later = formed.no_later;
      exact = (let s = formed.exact in omega arith);
    }
