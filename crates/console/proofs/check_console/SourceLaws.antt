-- Lines of sources, one source after the other.
use Rattle.std.proofs.Common.{◌≡◌, ◌≤◌, ℕ, zero, suc, ◌+◌, List, [], ◌∷◌, ◌++◌, length, take, Option, Some, None, refl, sym, ap, ◌∙◌, subst, arith, add-one, append_assoc}
use Rattle.std.specs.Prelude.{slice_get}
use Rattle.std.specs.Map.{keys_of, values_of}
use Rattle.std.proofs.lemmas.List.{append-nil}
use Rattle.std.proofs.lemmas.List.Concat.{flat_map-append}
use Rattle.plc_text.specs.Lines.{ended, text_of}
use Rattle.plc_text.specs.declared.refusal.Refusal.{Refusal}
use Rattle.st_values.specs.Program.{Program}
use Rattle.console.specs.check_console.Report.{accepted_line, refused_line, IsJudged, accepted, refused, AreJudged}
use Rattle.console.specs.check_console.Private.Lines.{AddsLine, Adds}

-- ---- the first ones

take_from : {A : Type 0} (xs : List A) (n : ℕ) (x : A) → slice_get xs n ≡ Some x → take (suc n) xs ≡ take n xs ++ x ∷ []
take_from [] zero x e = absurd cc
take_from [] (suc n) x e = absurd cc
take_from (y ∷ xs) zero x e =
    let same : y ≡ x = cc in
    ap (λ z. z ∷ []) same
take_from (y ∷ xs) (suc n) x e = ap (λ ys. y ∷ ys) (take_from xs n x e)

take_all : {A : Type 0} (xs : List A) (n : ℕ) → length xs ≤ n → take n xs ≡ xs
take_all [] zero h = refl
take_all [] (suc n) h = refl
take_all (x ∷ xs) zero h = absurd (omega arith)
take_all (x ∷ xs) (suc n) h = ap (λ ys. x ∷ ys) (take_all xs n (omega arith))

pair_at : (ps : List (List ℕ × List ℕ)) (n : ℕ) (k v : List ℕ) → slice_get (keys_of ps) n ≡ Some k → slice_get (values_of ps) n ≡ Some v → slice_get ps n ≡ Some (k, v)
pair_at [] zero k v e f = absurd cc
pair_at [] (suc n) k v e f = absurd cc
pair_at (p ∷ ps) zero k v e f =
    let key : p.0 ≡ k = cc in
    let value : p.1 ≡ v = cc in
    ap Some (ap (λ (x : List ℕ). (x, p.1)) key ∙ ap (λ (x : List ℕ). (k, x)) value)
pair_at (p ∷ ps) (suc n) k v e f = pair_at ps n k v e f

text_more : (lines : List (List ℕ)) (line : List ℕ) → text_of (lines ++ line ∷ []) ≡ text_of lines ++ ended line
text_more lines line = flat_map-append ended lines (line ∷ []) ∙ ap (λ end. text_of lines ++ end) (append-nil (ended line))

module _ (Accepts : List ℕ → Program → Type 0) (Refuses : List ℕ → Refusal → Type 0) where
  -- ---- the line of a source

  pub line_accepted : (name text old new : List ℕ) (p : Program) → Accepts text p → new ≡ old ++ ended (accepted_line name) → AddsLine Accepts Refuses (name, text) old new
  line_accepted name text old new p a e = record { line = accepted_line name; judged = accepted p a refl; added = e }

  pub line_refused : (name text old new : List ℕ) (r : Refusal) → Refuses text r → new ≡ old ++ ended (refused_line name r) → AddsLine Accepts Refuses (name, text) old new
  line_refused name text old new r a e = record { line = refused_line name r; judged = refused r a refl; added = e }

  -- ---- the lines of all

  judged_more : (sources : List (List ℕ × List ℕ)) (lines : List (List ℕ)) (source : List ℕ × List ℕ) (line : List ℕ) → AreJudged Accepts Refuses sources lines → IsJudged Accepts Refuses source line
      → AreJudged Accepts Refuses (sources ++ source ∷ []) (lines ++ line ∷ [])
  judged_more [] [] source line h j = (j, tt)
  judged_more [] (l ∷ lines) source line h j = absurd h
  judged_more (s ∷ sources) [] source line h j = absurd h
  judged_more (s ∷ sources) (l ∷ lines) source line h j = (h.0, judged_more sources lines source line h.1 j)

  pub adds_none : (sources : List (List ℕ × List ℕ)) (old : List ℕ) → Adds Accepts Refuses (take 0 sources) old old
  adds_none sources old = record { lines = []; judged = tt; added = sym (append-nil old) }

  module _ (sources : List (List ℕ × List ℕ)) (n : ℕ) (name text old middle new : List ℕ) where
    pub adds_next : Adds Accepts Refuses (take n sources) old middle → slice_get (keys_of sources) n ≡ Some name → slice_get (values_of sources) n ≡ Some text → AddsLine Accepts Refuses (name, text) middle new
        → Adds Accepts Refuses (take (n + 1) sources) old new
    adds_next a key value l =
        let more : take (n + 1) sources ≡ take n sources ++ (name, text) ∷ [] = ap (λ k. take k sources) (add-one n) ∙ take_from sources n (name, text) (pair_at sources n name text key value) in
        record {
          lines = a.lines ++ l.line ∷ [];
          judged = subst (λ (xs : List (List ℕ × List ℕ)). AreJudged Accepts Refuses xs (a.lines ++ l.line ∷ [])) (sym more) (judged_more (take n sources) a.lines (name, text) l.line a.judged l.judged);
          added =
              l.added ∙ ap (λ x. x ++ ended l.line) a.added ∙ append_assoc old (text_of a.lines) (ended l.line)
              ∙ ap (λ x. old ++ x) (sym (text_more a.lines l.line));
        }

  pub adds_all : (sources : List (List ℕ × List ℕ)) (n : ℕ) (old new : List ℕ) → Adds Accepts Refuses (take n sources) old new → length sources ≤ n → Adds Accepts Refuses sources old new
  adds_all sources n old new a h = subst (λ (xs : List (List ℕ × List ℕ)). Adds Accepts Refuses xs old new) (take_all sources n h) a
