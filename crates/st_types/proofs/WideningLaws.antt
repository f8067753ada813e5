-- The table of widening and the relation are one.
use Rattle.std.proofs.Common.{◌≡◌, ℕ, ℤ, ◌<◌, ◌≤◌, ◌+◌, true, List, [], ◌∷◌, get_or, inl, inr, refl, sym, ap, subst, ◌∙◌, arith}
use Rattle.std.proofs.Math.Nat.{eq-or-lt_of_le}
use Rattle.std.proofs.lemmas.Bool.{cases_lt, cases_Bool}
use Rattle.std.specs.Prelude.{T, not, ◌≤ℤ◌}
use Rattle.std.specs.Int.Signed.{lt_z, lt_z_yes, lt_z_no, le_z_yes, <ℤ_irrefl, <ℤ-≤ℤ_trans}
use Rattle.std.proofs.lemmas.List.{get_or-map}
use Rattle.std.proofs.lemmas.List.FromFn.{get_or-range_with_len}
use Rattle.st_types.specs.declared.elem.Elem.{Elem}
use Rattle.st_types.specs.declared.elem.Elem.TheVariants as kind
use Rattle.st_types.specs.Widening.{Widens, Reaches, IsCommon, place, itself, through, sint_int, int_dint, dint_lint, usint_uint, uint_udint, udint_ulint, usint_int, uint_dint, udint_lint, byte_word, word_dword, dword_lword}
use Rattle.st_types.specs.Private.Reached.{reached}
use Rattle.st_types.specs.Range.{Fits, lowest, highest}

pub reaches_of : (a b : Elem) → reached a b ≡ true → Reaches a b
reaches_of kind.Sint kind.Sint h = itself
reaches_of kind.Sint kind.Int h = through sint_int itself
reaches_of kind.Sint kind.Dint h = through sint_int (through int_dint itself)
reaches_of kind.Sint kind.Lint h = through sint_int (through int_dint (through dint_lint itself))
reaches_of kind.Int kind.Int h = itself
reaches_of kind.Int kind.Dint h = through int_dint itself
reaches_of kind.Int kind.Lint h = through int_dint (through dint_lint itself)
reaches_of kind.Dint kind.Dint h = itself
reaches_of kind.Dint kind.Lint h = through dint_lint itself
reaches_of kind.Lint kind.Lint h = itself
reaches_of kind.Usint kind.Usint h = itself
reaches_of kind.Usint kind.Uint h = through usint_uint itself
reaches_of kind.Usint kind.Udint h = through usint_uint (through uint_udint itself)
reaches_of kind.Usint kind.Ulint h = through usint_uint (through uint_udint (through udint_ulint itself))
reaches_of kind.Usint kind.Int h = through usint_int itself
reaches_of kind.Usint kind.Dint h = through usint_int (through int_dint itself)
reaches_of kind.Usint kind.Lint h = through usint_int (through int_dint (through dint_lint itself))
reaches_of kind.Uint kind.Uint h = itself
reaches_of kind.Uint kind.Udint h = through uint_udint itself
reaches_of kind.Uint kind.Ulint h = through uint_udint (through udint_ulint itself)
reaches_of kind.Uint kind.Dint h = through uint_dint itself
reaches_of kind.Uint kind.Lint h = through uint_dint (through dint_lint itself)
reaches_of kind.Udint kind.Udint h = itself
reaches_of kind.Udint kind.Ulint h = through udint_ulint itself
reaches_of kind.Udint kind.Lint h = through udint_lint itself
reaches_of kind.Ulint kind.Ulint h = itself
reaches_of kind.Byte kind.Byte h = itself
reaches_of kind.Byte kind.Word h = through byte_word itself
reaches_of kind.Byte kind.Dword h = through byte_word (through word_dword itself)
reaches_of kind.Byte kind.Lword h = through byte_word (through word_dword (through dword_lword itself))
reaches_of kind.Word kind.Word h = itself
reaches_of kind.Word kind.Dword h = through word_dword itself
reaches_of kind.Word kind.Lword h = through word_dword (through dword_lword itself)
reaches_of kind.Dword kind.Dword h = itself
reaches_of kind.Dword kind.Lword h = through dword_lword itself
reaches_of kind.Lword kind.Lword h = itself
reaches_of kind.Bool kind.Bool h = itself
reaches_of kind.Time kind.Time h = itself
reaches_of a b h = absurd cc

reached_itself : (a : Elem) → reached a a ≡ true
reached_itself kind.Sint = refl
reached_itself kind.Int = refl
reached_itself kind.Dint = refl
reached_itself kind.Lint = refl
reached_itself kind.Usint = refl
reached_itself kind.Uint = refl
reached_itself kind.Udint = refl
reached_itself kind.Ulint = refl
reached_itself kind.Byte = refl
reached_itself kind.Word = refl
reached_itself kind.Dword = refl
reached_itself kind.Lword = refl
reached_itself kind.Bool = refl
reached_itself kind.Time = refl

reached_through : {a b : Elem} → Widens a b → (c : Elem) → reached b c ≡ true → reached a c ≡ true
reached_through sint_int kind.Int h = refl
reached_through sint_int kind.Dint h = refl
reached_through sint_int kind.Lint h = refl
reached_through sint_int c h = absurd cc
reached_through int_dint kind.Dint h = refl
reached_through int_dint kind.Lint h = refl
reached_through int_dint c h = absurd cc
reached_through dint_lint kind.Lint h = refl
reached_through dint_lint c h = absurd cc
reached_through usint_uint kind.Uint h = refl
reached_through usint_uint kind.Udint h = refl
reached_through usint_uint kind.Ulint h = refl
reached_through usint_uint kind.Dint h = refl
reached_through usint_uint kind.Lint h = refl
reached_through usint_uint c h = absurd cc
reached_through uint_udint kind.Udint h = refl
reached_through uint_udint kind.Ulint h = refl
reached_through uint_udint kind.Lint h = refl
reached_through uint_udint c h = absurd cc
reached_through udint_ulint kind.Ulint h = refl
reached_through udint_ulint c h = absurd cc
reached_through usint_int kind.Int h = refl
reached_through usint_int kind.Dint h = refl
reached_through usint_int kind.Lint h = refl
reached_through usint_int c h = absurd cc
reached_through uint_dint kind.Dint h = refl
reached_through uint_dint kind.Lint h = refl
reached_through uint_dint c h = absurd cc
reached_through udint_lint kind.Lint h = refl
reached_through udint_lint c h = absurd cc
reached_through byte_word kind.Word h = refl
reached_through byte_word kind.Dword h = refl
reached_through byte_word kind.Lword h = refl
reached_through byte_word c h = absurd cc
reached_through word_dword kind.Dword h = refl
reached_through word_dword kind.Lword h = refl
reached_through word_dword c h = absurd cc
reached_through dword_lword kind.Lword h = refl
reached_through dword_lword c h = absurd cc

pub reached_of : (a b : Elem) → Reaches a b → reached a b ≡ true
reached_of a b itself = reached_itself a
reached_of a c (through {b = b} step more) = reached_through step c (reached_of b c more)

-- the kinds by their places
abbrev pub kinds : List Elem
kinds = kind.Bool ∷ kind.Time ∷ kind.Sint ∷ kind.Usint ∷ kind.Int ∷ kind.Uint ∷ kind.Dint ∷ kind.Udint ∷ kind.Lint ∷ kind.Ulint ∷ kind.Byte ∷ kind.Word ∷ kind.Dword ∷ kind.Lword ∷ []

pub at_place : (k : Elem) → get_or kinds (place k) kind.Bool ≡ k
at_place kind.Bool = refl
at_place kind.Time = refl
at_place kind.Sint = refl
at_place kind.Usint = refl
at_place kind.Int = refl
at_place kind.Uint = refl
at_place kind.Dint = refl
at_place kind.Udint = refl
at_place kind.Lint = refl
at_place kind.Ulint = refl
at_place kind.Byte = refl
at_place kind.Word = refl
at_place kind.Dword = refl
at_place kind.Lword = refl

pub place_at : (i : ℕ) → i < 14 → place (get_or kinds i kind.Bool) ≡ i
place_at i h = sym (get_or-map place kinds i kind.Bool 0 h) ∙ get_or-range_with_len 0 14 i 0 h ∙ omega arith

-- no kind before place i is reached by both
abbrev pub NoneBefore : Elem → Elem → ℕ → Type 0
NoneBefore a b i = (k : Elem) → place k < i → Reaches a k → Reaches b k → ⊥

pub one_more : (a b : Elem) (i : ℕ) → i < 14 → NoneBefore a b i → (Reaches a (get_or kinds i kind.Bool) → Reaches b (get_or kinds i kind.Bool) → ⊥) → NoneBefore a b (i + 1)
one_more a b i h none here k before p q = elim (eq-or-lt_of_le (let le : place k ≤ i = omega arith in le)) [
  | inl same ↦ (let is : get_or kinds i kind.Bool ≡ k = ap (λ j. get_or kinds j kind.Bool) (sym same) ∙ at_place k in here (subst (Reaches a) (sym is) p) (subst (Reaches b) (sym is) q))
  | inr less ↦ none k less p q
]

pub first_common : (a b : Elem) (i : ℕ) → i < 14 → NoneBefore a b i → Reaches a (get_or kinds i kind.Bool) → Reaches b (get_or kinds i kind.Bool) → IsCommon a b (get_or kinds i kind.Bool)
first_common a b i h none p q = record {
  left = p;
  right = q;
  first = λ other u v. elim (cases_lt (place other) i) [
    | inl less ↦ absurd (none other less u v)
    | inr more ↦ (let at : place (get_or kinds i kind.Bool) ≡ i = place_at i h in omega (arith, at, more))
  ];
}

pub transitive : (a b c : Elem) → Reaches a b → Reaches b c → Reaches a c
transitive a b c itself q = q
transitive a b c (through {b = m} step more) q = through step (transitive m b c more q)

between : (a b c : ℤ) → a ≤ℤ b → b ≤ℤ c → a ≤ℤ c
between a b c p q = elim (cases_Bool (lt_z c a)) [
  | inl below ↦ absurd (<ℤ_irrefl (<ℤ-≤ℤ_trans (<ℤ-≤ℤ_trans (lt_z_yes (subst T (sym below) tt)) p) q))
  | inr not_below ↦ lt_z_no (subst (λ t. T (not t)) (sym not_below) tt)
]

within : (a b : Elem) (v : ℤ) → lowest b ≤ℤ lowest a → highest a ≤ℤ highest b → Fits a v → Fits b v
within a b v low high h = (between (lowest b) (lowest a) v low h.0, between v (highest a) (highest b) h.1 high)

step_keeps : {a b : Elem} → Widens a b → (v : ℤ) → Fits a v → Fits b v
step_keeps sint_int = λ v. within kind.Sint kind.Int v (le_z_yes tt) (le_z_yes tt)
step_keeps int_dint = λ v. within kind.Int kind.Dint v (le_z_yes tt) (le_z_yes tt)
step_keeps dint_lint = λ v. within kind.Dint kind.Lint v (le_z_yes tt) (le_z_yes tt)
step_keeps usint_uint = λ v. within kind.Usint kind.Uint v (le_z_yes tt) (le_z_yes tt)
step_keeps uint_udint = λ v. within kind.Uint kind.Udint v (le_z_yes tt) (le_z_yes tt)
step_keeps udint_ulint = λ v. within kind.Udint kind.Ulint v (le_z_yes tt) (le_z_yes tt)
step_keeps usint_int = λ v. within kind.Usint kind.Int v (le_z_yes tt) (le_z_yes tt)
step_keeps uint_dint = λ v. within kind.Uint kind.Dint v (le_z_yes tt) (le_z_yes tt)
step_keeps udint_lint = λ v. within kind.Udint kind.Lint v (le_z_yes tt) (le_z_yes tt)
step_keeps byte_word = λ v. within kind.Byte kind.Word v (le_z_yes tt) (le_z_yes tt)
step_keeps word_dword = λ v. within kind.Word kind.Dword v (le_z_yes tt) (le_z_yes tt)
step_keeps dword_lword = λ v. within kind.Dword kind.Lword v (le_z_yes tt) (le_z_yes tt)

pub keeps : (a b : Elem) (v : ℤ) → Reaches a b → Fits a v → Fits b v
keeps a b v itself h = h
keeps a b v (through {b = m} step more) h = keeps m b v more (step_keeps step v h)

pub one_common : (a b j k : Elem) → IsCommon a b j → IsCommon a b k → j ≡ k
one_common a b j k p q =
    let same : place j ≡ place k = omega (arith, p.first k q.left q.right, q.first j p.left p.right) in
    sym (at_place j) ∙ ap (λ i. get_or kinds i kind.Bool) same ∙ at_place k

place_below : (k : Elem) → place k < 14
place_below kind.Bool = omega arith
place_below kind.Time = omega arith
place_below kind.Sint = omega arith
place_below kind.Usint = omega arith
place_below kind.Int = omega arith
place_below kind.Uint = omega arith
place_below kind.Dint = omega arith
place_below kind.Udint = omega arith
place_below kind.Lint = omega arith
place_below kind.Ulint = omega arith
place_below kind.Byte = omega arith
place_below kind.Word = omega arith
place_below kind.Dword = omega arith
place_below kind.Lword = omega arith

pub none_common : (a b : Elem) → NoneBefore a b 14 → (k : Elem) → Reaches a k → Reaches b k → ⊥
none_common a b none k p q = none k (place_below k) p q
