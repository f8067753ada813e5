-- What the lexer's loops and calls give.
use Rattle.std.proofs.Common.{◌≡◌, ℕ, ◌+◌, ◌-◌, ◌<◌, true, false, List, ◌∷◌, length, take, drop, get_or, sym, ap, ◌∙◌, cond, nat_eq}
use Rattle.std.proofs.lemmas.List.{drop_more, take_rest}
use Rattle.std.proofs.lemmas.Bool.{cond-true, cond-false, ne_eqb}
use Rattle.plc_text.specs.Words.{opens}
use Rattle.st_tree.specs.Pieces.{units}
use Rattle.st_lexer.specs.Private.Reach.{with_head, closing_from, part_len, underscore_len, parts_len, timed_len}

pub closing_step : (mark text : List ℕ) (i x : ℕ) → i < length text → opens mark (take (length text - i) (drop i text)) ≡ false → closing_from mark i (drop i text) ≡ x → closing_from mark (i + 1) (drop (i + 1) text) ≡ x
closing_step mark text i x within fails h =
    let cell : drop i text ≡ get_or text i 0 ∷ drop (i + 1) text = drop_more text i 0 within in
    let same : opens mark (get_or text i 0 ∷ drop (i + 1) text) ≡ false = ap (opens mark) (sym (take_rest text i ∙ cell)) ∙ fails in
    sym (cond-false (opens mark (get_or text i 0 ∷ drop (i + 1) text)) (i + length mark) _ same) ∙ sym (ap (closing_from mark i) cell) ∙ h

pub timed_is : (head text : List ℕ) (n r : ℕ) → opens head text ≡ true → n ≡ parts_len units (take (length text - length head) (drop (length head) text)) → r ≡ with_head (length head) n → r ≡ timed_len head text
timed_is head text n r holds e f =
    f ∙ ap (with_head (length head)) (e ∙ ap (parts_len units) (take_rest text (length head)))
    ∙ sym (cond-true (opens head text) _ _ holds)

pub parts_are : (unit : List ℕ) (units : List (List ℕ)) (text : List ℕ) (part gap n r : ℕ) → part ≡ part_len unit text → (part ≡ 0 → ⊥) → gap ≡ underscore_len (take (length text - part) (drop part text)) → n ≡ parts_len units (take (length text - (part + gap)) (drop (part + gap) text)) → r ≡ with_head gap n → part + r ≡ parts_len (unit ∷ units) text
parts_are unit units text part gap n r e some g f h =
    ap (λ x. part + x) (h ∙ ap (with_head gap) (f ∙ ap (parts_len units) (take_rest text (part + gap))))
    ∙ ap (λ x. part + with_head x (parts_len units (drop (part + x) text))) (g ∙ ap underscore_len (take_rest text part))
    ∙ sym (cond-false (nat_eq part 0) (parts_len units text) (part + with_head (underscore_len (drop part text)) (parts_len units (drop (part + underscore_len (drop part text)) text))) (ne_eqb part 0 some))
    ∙ ap (λ x. cond (nat_eq x 0) (parts_len units text) (x + with_head (underscore_len (drop x text)) (parts_len units (drop (x + underscore_len (drop x text)) text)))) e
