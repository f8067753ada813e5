-- Lexemes of a form consist of its parts in one way.
use Rattle.std.proofs.Common.{◌≡◌, inl, inr, Bool, true, false, List, [], ◌∷◌, ◌++◌, Some, None, length, refl, sym, ◌∙◌, ap, subst, arith, length-append}
use Rattle.std.proofs.Math.Bool.{Bool-set}
use Rattle.std.proofs.Math.Nat.{ℕ_set}
use Rattle.st_tree.specs.declared.terminal.Terminal.{Terminal}
use Rattle.st_tree.specs.Grammar.{Lexeme, each}
use Rattle.st_parser_expr.specs.Private.Machine.{Ending}
use Rattle.st_parser_stmt.specs.Private.Machine as s
use Rattle.st_parser_decl.specs.Private.Form.{Form, one, one_of, both, may, option, several, either, inside, starts}
use Rattle.st_parser_stmt.specs.Private.Numbers.{same_terminal}
use Rattle.st_parser_stmt.proofs.NumberLaws.{same-self}
use Rattle.st_parser_decl.specs.Private.Promises.{first_in}
use Rattle.st_parser_decl.proofs.Closed.{reads-whole}
use Rattle.st_parser_decl.proofs.Takes.{Parts, Takes, apart, follow, Fine, Followed, not_first, closed-is, some-begun, begun-each, begun, followed}

same-pair : {X Y : Type 0} (x x' : X) (y y' : Y) → x ≡ x' → y ≡ y' → ◌≡◌ {A = X × Y} (x, y) (x', y')
same-pair x x' y y' h h' = ap (λ u. (u, y)) h ∙ ap (λ u. (x', u)) h'

same-ending : (x y : Ending) (p q : x ≡ y) → p ≡ q
same-ending = let set : IsSet Ending = hlevel (Bool-set, ℕ_set) in set

-- what takes some lexeme and what takes none
not_both : (S F : Terminal → Bool) (ts ts' : List Lexeme) → apart S F ≡ true → ts ≡ ts' → first_in S ts ≡ true → Followed F ts' → ⊥
not_both S F ts ts' d q h f = let bad : true ≡ false = sym h ∙ ap (first_in S) q ∙ not_first S F d ts' f in cc

same-front : (a a' r r' : List Lexeme) → a ++ r ≡ a' ++ r' → length r ≡ length r' → (a ≡ a') × (r ≡ r')
same-front [] [] r r' h n = (refl, h)
same-front [] (t ∷ a') r r' h n = absurd (omega (arith, ap length h, length-append a' r'))
same-front (t ∷ a) [] r r' h n = absurd (omega (arith, ap length h, length-append a r))
same-front (t ∷ a) (t' ∷ a') r r' h n =
    let tail : a ++ r ≡ a' ++ r' = cc in
    let both = same-front a a' r r' tail n in
    ((let i = both.0 in cc), both.1)

one-inside : (k : s.State) (p p' : Parts (inside k)) (r r' : List Lexeme) → p.0 ++ r ≡ p'.0 ++ r' → length r ≡ length r' → (p ≡ p') × (r ≡ r')
one-inside k (a, h) (a', h') r r' q n = let both = same-front a a' r r' q n in (same a a' both.0 h h', both.1)
  where
    same : (a a' : List Lexeme) → a ≡ a' → (h : s.machine k a ≡ (true, 0)) (h' : s.machine k a' ≡ (true, 0)) → ◌≡◌ {A = Parts (inside k)} (a, h) (a', h')
    same a a' e h h' =
        let P : List Lexeme → Type 0 = λ u. (h' : s.machine k u ≡ (true, 0)) → ◌≡◌ {A = Parts (inside k)} (a, h) (u, h') in
        subst P e (λ h''. ap (λ v. (a, v)) (same-ending _ _ h h'')) h'

one-each : (a : Form) (F : Terminal → Bool) (ps ps' : List (Parts a)) (ts ts' r r' : List Lexeme)
    → ((p p' : Parts a) (ts ts' r r' : List Lexeme) → ts ≡ ts' → Takes a p ts r → Takes a p' ts' r' → Followed (follow (several a) F) r → Followed (follow (several a) F) r' → (p ≡ p') × (r ≡ r'))
    → ((p : Parts a) (ts rest : List Lexeme) → Takes a p ts rest → first_in (starts a) ts ≡ true) → apart (starts a) F ≡ true → ts ≡ ts' → each (Takes a) ps ts r → each (Takes a) ps' ts' r' → Followed F r → Followed F r'
    → (ps ≡ ps') × (r ≡ r')
one-each a F [] [] ts ts' r r' same first d q h h' f f' = (refl, sym h ∙ q ∙ h')
one-each a F [] (p' ∷ ps') ts ts' r r' same first d q h (m', h', more') f f' = absurd (not_both (starts a) F ts' r d (sym q ∙ h) (first p' ts' m' h') f)
one-each a F (p ∷ ps) [] ts ts' r r' same first d q (m, h, more) h' f f' = absurd (not_both (starts a) F ts r' d (q ∙ h') (first p ts m h) f')
one-each a F (p ∷ ps) (p' ∷ ps') ts ts' r r' same first d q (m, h, more) (m', h', more') f f' =
    let head = same p p' ts ts' m m' q h h' (followed (several a) F m r (begun-each a ps m r first more) f) (followed (several a) F m' r' (begun-each a ps' m' r' first more') f') in
    let tail = one-each a F ps ps' m m' r r' same first d head.1 more more' f f' in
    (ap (λ u. u ∷ ps) head.0 ∙ ap (λ u. p' ∷ u) tail.0, tail.1)

not_next : (s : Terminal) (ts ts' r : List Lexeme) (t : Lexeme) → ts ≡ ts' → first_in (same_terminal s) ts ≡ false → (t.terminal ≡ s) × (ts' ≡ t ∷ r) → ⊥
not_next s ts ts' r t q n h =
    let bad : false ≡ true = sym n ∙ ap (first_in (same_terminal s)) (q ∙ h.1) ∙ ap (same_terminal s) h.0 ∙ same-self s in
    cc

pub one_way : (a : Form) (F : Terminal → Bool) (p p' : Parts a) (ts ts' r r' : List Lexeme) → Fine a F → ts ≡ ts' → Takes a p ts r → Takes a p' ts' r' → Followed F r → Followed F r' → (p ≡ p') × (r ≡ r')
one_way (one s) F t t' ts ts' r r' fine q h h' f f' = let e : t ∷ r ≡ t' ∷ r' = sym h.1 ∙ q ∙ h'.1 in (cc, cc)
one_way (one_of S s p) F t t' ts ts' r r' fine q h h' f f' = let e : t ∷ r ≡ t' ∷ r' = sym h.1 ∙ q ∙ h'.1 in (cc, cc)
one_way (both a b) F p p' ts ts' r r' fine q (m, h, g) (m', h', g') f f' =
    let first = one_way a (follow b F) p.0 p'.0 ts ts' m m' fine.0 q h h' (followed b F m r (begun b F p.1 m r fine.1 g) f) (followed b F m' r' (begun b F p'.1 m' r' fine.1 g') f') in
    let second = one_way b F p.1 p'.1 m m' r r' fine.1 first.1 g g' f f' in
    (same-pair p.0 p'.0 p.1 p'.1 first.0 second.0, second.1)
one_way (may s) F None None ts ts' r r' fine q h h' f f' = (refl, sym h.1 ∙ q ∙ h'.1)
one_way (may s) F None (Some t') ts ts' r r' fine q h h' f f' = absurd (not_next s ts ts' r' t' q h.0 h')
one_way (may s) F (Some t) None ts ts' r r' fine q h h' f f' = absurd (not_next s ts' ts r t (sym q) h'.0 h)
one_way (may s) F (Some t) (Some t') ts ts' r r' fine q h h' f f' = let e : t ∷ r ≡ t' ∷ r' = sym h.1 ∙ q ∙ h'.1 in (cc, cc)
one_way (option a) F None None ts ts' r r' fine q h h' f f' = (refl, sym h ∙ q ∙ h')
one_way (option a) F None (Some p') ts ts' r r' fine q h h' f f' = absurd (not_both (starts a) F ts' r fine.2 (sym q ∙ h) (some-begun a ts' r' fine.1 (begun a F p' ts' r' fine.0 h')) f)
one_way (option a) F (Some p) None ts ts' r r' fine q h h' f f' = absurd (not_both (starts a) F ts r' fine.2 (q ∙ h') (some-begun a ts r fine.1 (begun a F p ts r fine.0 h)) f')
one_way (option a) F (Some p) (Some p') ts ts' r r' fine q h h' f f' = let both = one_way a F p p' ts ts' r r' fine.0 q h h' f f' in (ap Some both.0, both.1)
one_way (several a) F ps ps' ts ts' r r' fine q h h' f f' =
    one-each a F ps ps' ts ts' r r' (λ p p' ts ts' r r' q h h' f f'. one_way a (follow (several a) F) p p' ts ts' r r' fine.0 q h h' f f')
    (λ p ts rest g. some-begun a ts rest fine.1 (begun a (follow (several a) F) p ts rest fine.0 g)) fine.2 q h h' f f'
one_way (either a b) F (inl p) (inl p') ts ts' r r' fine q h h' f f' = let both = one_way a F p p' ts ts' r r' fine.0 q h h' f f' in (ap inl both.0, both.1)
one_way (either a b) F (inl p) (inr p') ts ts' r r' fine q h h' f f' =
    absurd (not_both (starts a) (follow b F) ts ts' fine.3 q (some-begun a ts r fine.2 (begun a F p ts r fine.0 h)) (followed b F ts' r' (begun b F p' ts' r' fine.1 h') f'))
one_way (either a b) F (inr p) (inl p') ts ts' r r' fine q h h' f f' =
    absurd (not_both (starts a) (follow b F) ts' ts fine.3 (sym q) (some-begun a ts' r' fine.2 (begun a F p' ts' r' fine.0 h')) (followed b F ts r (begun b F p ts r fine.1 h) f))
one_way (either a b) F (inr p) (inr p') ts ts' r r' fine q h h' f f' = let both = one_way b F p p' ts ts' r r' fine.1 q h h' f f' in (ap inr both.0, both.1)
one_way (inside k) F p p' ts ts' r r' fine q h h' f f' =
    let whole : p.0 ++ r ≡ p'.0 ++ r' = sym h ∙ q ∙ h' in
    let many : ◌≡◌ {A = Ending} (true, length r) (true, length r') =
    sym (reads-whole p.0 r k p.1 (closed-is F fine r f)) ∙ ap (s.machine k) whole ∙ reads-whole p'.0 r' k p'.1 (closed-is F fine r' f') in
    one-inside k p p' r r' whole (ap (λ v. v.1) many)
