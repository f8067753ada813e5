-- Lexemes spell at most one initial value.
use Rattle.std.proofs.Common.{◌≡◌, ℕ, suc, true, List, [], ◌∷◌, ◌++◌, length, refl, sym, ◌∙◌, ap, arith}
use Rattle.st_tree.specs.declared.terminal.Terminal.TheVariants as x
use Rattle.st_tree.specs.Expression.{Expression}
use Rattle.st_tree.specs.Initial as init
use Rattle.st_tree.specs.Initial.{Initial, Part, Parts, no_parts, part_then, FieldInits, no_fields, field_then}
use Rattle.st_tree.specs.Grammar.{Lexeme, sign, expression, initial, first_part, more_parts, part, first_field, more_fields}
use Rattle.st_parser_expr.specs.Private.Machine as e
use Rattle.st_parser_expr.specs.Private.Machine.{NoStep}
use Rattle.st_parser_expr.proofs.MachineLaws as l
use Rattle.st_parser_expr.proofs.MachineLaws.{signed}
use Rattle.st_parser_expr.proofs.Fronts as f
use Rattle.st_parser_expr.proofs.Fronts.{front}
use Rattle.st_parser_stmt.specs.Private.Machine.{behind_paren, behind_paren_word, behind_int}
use Rattle.st_parser_stmt.proofs.Passes.{Closed, closed-sign}
use Rattle.st_parser_stmt.proofs.InitialPasses.{int-stops, runs, fields-closed, parts-closed, stuck}
use Rattle.st_parser_stmt.proofs.Unique.{sign-same, sign-two, spelled-same, line-same, expression-same}

-- ---- an expression begins no list, by the lower run

no_bracket : (v : Expression ℕ) (ts ts' r m : List Lexeme) → ts ≡ ts' → expression v 0 ts r → Closed r → sign x.OpenBracket ts' m → ⊥
no_bracket v ts ts' r m q h c w = stuck (suc (length m)) (length r) (sym (l.on-sign e.start x.OpenBracket ts' m w) ∙ sym (ap (e.machine e.start) q) ∙ runs v ts r h c)

no_fields_here : (v : Expression ℕ) (n : List ℕ) (ts ts' r m m2 m3 : List Lexeme) → ts ≡ ts' → expression v 0 ts r → Closed r → sign x.Open ts' m → sign x.Word m m2 → sign x.Assign m2 m3 → ⊥
no_fields_here v n ts ts' r m m2 m3 q h c w w2 w3 =
    stuck (suc (length m3)) (length r)
    (sym (l.on-sign e.start x.Open ts' m w ∙ l.on-sign behind_paren x.Word m m2 w2 ∙ l.on-sign behind_paren_word x.Assign m2 m3 w3) ∙ sym (ap (e.machine e.start) q) ∙ runs v ts r h c)

no_repetition : (v : Expression ℕ) (ts ts' r m m2 : List Lexeme) → ts ≡ ts' → expression v 0 ts r → Closed r → sign x.Int ts' m → sign x.Open m m2 → ⊥
no_repetition v ts ts' r m m2 q h c (t0, is0, w0) (t, is, w) =
    let b = front _ (f.of_expression v 0) ts r h in
    let run : ◌≡◌ {A = e.Ending} (e.machine behind_int m) (true, length r) = sym (l.on-sign e.start x.Int ts' m (t0, is0, w0)) ∙ sym (ap (e.machine e.start) q) ∙ runs v ts r h c in
    let whole : t0 ∷ m ≡ b.tokens ++ r = sym w0 ∙ sym q ∙ b.whole in
    at b.tokens whole (sym (ap (e.machine behind_int) w) ∙ run)
  where
    at : (a : List Lexeme) → t0 ∷ m ≡ a ++ r → ◌≡◌ {A = e.Ending} (e.machine behind_int (t ∷ m2)) (true, length r) → ⊥
    at [] whole run =
        let stop : ◌≡◌ {A = e.Ending} (true, suc (length m2)) (true, length r) = sym (ap (λ u. e.go_on (e.advance behind_int u) (λ k'. e.machine k' m2) (true, suc (length m2))) is) ∙ run in
        let many : suc (length m2) ≡ length r = ap (λ p. p.1) stop in
        let all : suc (length m) ≡ length r = ap length whole in
        let len : length m ≡ suc (length m2) = ap length w in
        omega arith
    at (d ∷ a) whole run = let tail : m ≡ a ++ r = cc in int-stops t m2 a r c.0 (sym w ∙ tail) run is

abbrev OneInitial : Initial ℕ → Type 0
OneInitial i = (i' : Initial ℕ) (ts ts' r r' : List Lexeme) → ts ≡ ts' → initial i ts r → initial i' ts' r' → Closed r → Closed r' → (i ≡ i') × (r ≡ r')

abbrev OnePart : Part ℕ → Type 0
OnePart p = (p' : Part ℕ) (ts ts' r r' : List Lexeme) → ts ≡ ts' → part p ts r → part p' ts' r' → Closed r → Closed r' → (p ≡ p') × (r ≡ r')

abbrev OneFields : FieldInits ℕ → Type 0
OneFields fs = (fs' : FieldInits ℕ) (ts ts' m m' r r' : List Lexeme) → ts ≡ ts' → more_fields fs ts m → sign x.Close m r → more_fields fs' ts' m' → sign x.Close m' r' → (fs ≡ fs') × (r ≡ r')

abbrev OneParts : Parts ℕ → Type 0
OneParts ps = (ps' : Parts ℕ) (ts ts' m m' r r' : List Lexeme) → ts ≡ ts' → more_parts ps ts m → sign x.CloseBracket m r → more_parts ps' ts' m' → sign x.CloseBracket m' r' → (ps ≡ ps') × (r ≡ r')

mutual
  pub one-initial : (i : Initial ℕ) → OneInitial i
  one-initial (init.Value v) (init.Value v') ts ts' r r' q h h' c c' = let both = expression-same v v' ts ts' r r' q h h' c c' in (ap init.Value both.0, both.1)
  one-initial (init.Value v) (init.Array line' ps') ts ts' r r' q h (a', (m', w', more')) c c' = absurd (no_bracket v ts ts' r m' q h c w')
  one-initial (init.Value v) (init.Fields line' no_fields) ts ts' r r' q h (a', (m', w', (n', bad, more'))) c c' = absurd bad
  one-initial (init.Value v) (init.Fields line' (field_then l' n' i' fs')) ts ts' r r' q h (a', (m', w', (k', (m2', (b', hn'), (m3', z', more')), end'))) c c' =
      absurd (no_fields_here v n' ts ts' r m' m2' m3' q h c w' (signed x.Word n' m' m2' hn') z')
  one-initial (init.Array line ps) (init.Value v') ts ts' r r' q (a, (m, w, more)) h' c c' = absurd (no_bracket v' ts' ts r' m (sym q) h' c' w)
  one-initial (init.Array line ps) (init.Array line' ps') ts ts' r r' q (a, (m, w, (m2, hp, k))) (a', (m', w', (m2', hp', k'))) c c' =
      let both = one-first_part ps ps' m m' m2 m2' r r' (sign-same x.OpenBracket ts ts' m m' q w w') hp k hp' k' in
      ((let i = line-same line line' ts ts' q a a' in let j = both.0 in cc), both.1)
  one-initial (init.Array line ps) (init.Fields line' fs') ts ts' r r' q (a, (m, w, more)) (a', (m', w', more')) c c' = absurd (let bad = sign-two x.OpenBracket x.Open ts ts' m m' q w w' in cc)
  one-initial (init.Fields line no_fields) (init.Value v') ts ts' r r' q (a, (m, w, (n, bad, more))) h' c c' = absurd bad
  one-initial (init.Fields line (field_then l n i fs)) (init.Value v') ts ts' r r' q (a, (m, w, (k, (m2, (b, hn), (m3, z, more)), end))) h' c c' =
      absurd (no_fields_here v' n ts' ts r' m m2 m3 (sym q) h' c' w (signed x.Word n m m2 hn) z)
  one-initial (init.Fields line fs) (init.Array line' ps') ts ts' r r' q (a, (m, w, more)) (a', (m', w', more')) c c' = absurd (let bad = sign-two x.Open x.OpenBracket ts ts' m m' q w w' in cc)
  one-initial (init.Fields line fs) (init.Fields line' fs') ts ts' r r' q (a, (m, w, (m2, hf, k))) (a', (m', w', (m2', hf', k'))) c c' =
      let both = one-first_field fs fs' m m' m2 m2' r r' (sign-same x.Open ts ts' m m' q w w') hf k hf' k' in
      ((let i = line-same line line' ts ts' q a a' in let j = both.0 in cc), both.1)

  one-first_field : (fs fs' : FieldInits ℕ) (ts ts' m m' r r' : List Lexeme) → ts ≡ ts' → first_field fs ts m → sign x.Close m r → first_field fs' ts' m' → sign x.Close m' r' → (fs ≡ fs') × (r ≡ r')
  one-first_field no_fields fs' ts ts' m m' r r' q h k h' k' = absurd h
  one-first_field (field_then l n i fs) no_fields ts ts' m m' r r' q h k h' k' = absurd h'
  one-first_field (field_then l n i fs) (field_then l' n' i' fs') ts ts' m m' r r' q (m1, (a, w), (m2, z, (m3, hi, hf))) k (m1', (a', w'), (m2', z', (m3', hi', hf'))) k' =
      let name = spelled-same x.Word n n' ts ts' m1 m1' q w w' in
      let both = one-initial i i' m2 m2' m3 m3' (sign-same x.Assign m1 m1' m2 m2' name.1 z z') hi hi' (fields-closed fs m3 m r hf k) (fields-closed fs' m3' m' r' hf' k') in
      let more = one-more_fields fs fs' m3 m3' m m' r r' both.1 hf k hf' k' in
      ((let u = line-same l l' ts ts' q a a' in let v = name.0 in let s = both.0 in let t = more.0 in cc), more.1)

  one-more_fields : (fs : FieldInits ℕ) → OneFields fs
  one-more_fields no_fields no_fields ts ts' m m' r r' q h k h' k' = (refl, sign-same x.Close m m' r r' (sym h ∙ q ∙ h') k k')
  one-more_fields no_fields (field_then l n i fs) ts ts' m m' r r' q h k (m0, w, more) k' = absurd (let bad = sign-two x.Close x.Comma m ts' r m0 (sym h ∙ q) k w in cc)
  one-more_fields (field_then l n i fs) no_fields ts ts' m m' r r' q (m0, w, more) k h' k' = absurd (let bad = sign-two x.Comma x.Close ts m' m0 r' (q ∙ h') w k' in cc)
  one-more_fields (field_then l n i fs) (field_then l' n' i' fs') ts ts' m m' r r' q (m0, y, (m1, (a, w), (m2, z, (m3, hi, hf)))) k (m0', y', (m1', (a', w'), (m2', z', (m3', hi', hf')))) k' =
      let first = sign-same x.Comma ts ts' m0 m0' q y y' in
      let name = spelled-same x.Word n n' m0 m0' m1 m1' first w w' in
      let both = one-initial i i' m2 m2' m3 m3' (sign-same x.Assign m1 m1' m2 m2' name.1 z z') hi hi' (fields-closed fs m3 m r hf k) (fields-closed fs' m3' m' r' hf' k') in
      let more = one-more_fields fs fs' m3 m3' m m' r r' both.1 hf k hf' k' in
      ((let u = line-same l l' m0 m0' first a a' in let v = name.0 in let s = both.0 in let t = more.0 in cc), more.1)

  one-first_part : (ps ps' : Parts ℕ) (ts ts' m m' r r' : List Lexeme) → ts ≡ ts' → first_part ps ts m → sign x.CloseBracket m r → first_part ps' ts' m' → sign x.CloseBracket m' r' → (ps ≡ ps') × (r ≡ r')
  one-first_part no_parts ps' ts ts' m m' r r' q h k h' k' = absurd h
  one-first_part (part_then p ps) no_parts ts ts' m m' r r' q h k h' k' = absurd h'
  one-first_part (part_then p ps) (part_then p' ps') ts ts' m m' r r' q (m1, hp, hm) k (m1', hp', hm') k' =
      let both = one-part p p' ts ts' m1 m1' q hp hp' (parts-closed ps m1 m r hm k) (parts-closed ps' m1' m' r' hm' k') in
      let more = one-more_parts ps ps' m1 m1' m m' r r' both.1 hm k hm' k' in
      ((let s = both.0 in let t = more.0 in cc), more.1)

  one-more_parts : (ps : Parts ℕ) → OneParts ps
  one-more_parts no_parts no_parts ts ts' m m' r r' q h k h' k' = (refl, sign-same x.CloseBracket m m' r r' (sym h ∙ q ∙ h') k k')
  one-more_parts no_parts (part_then p ps) ts ts' m m' r r' q h k (m0, w, more) k' = absurd (let bad = sign-two x.CloseBracket x.Comma m ts' r m0 (sym h ∙ q) k w in cc)
  one-more_parts (part_then p ps) no_parts ts ts' m m' r r' q (m0, w, more) k h' k' = absurd (let bad = sign-two x.Comma x.CloseBracket ts m' m0 r' (q ∙ h') w k' in cc)
  one-more_parts (part_then p ps) (part_then p' ps') ts ts' m m' r r' q (m0, y, (m1, hp, hm)) k (m0', y', (m1', hp', hm')) k' =
      let both = one-part p p' m0 m0' m1 m1' (sign-same x.Comma ts ts' m0 m0' q y y') hp hp' (parts-closed ps m1 m r hm k) (parts-closed ps' m1' m' r' hm' k') in
      let more = one-more_parts ps ps' m1 m1' m m' r r' both.1 hm k hm' k' in
      ((let s = both.0 in let t = more.0 in cc), more.1)

  one-part : (p : Part ℕ) → OnePart p
  one-part (init.One i) (init.One i') ts ts' r r' q h h' c c' = let both = one-initial i i' ts ts' r r' q h h' c c' in (ap init.One both.0, both.1)
  one-part (init.One (init.Value v)) (init.Repeated line' n' i') ts ts' r r' q h (a', (m', w', (m2', o', more'))) c c' = absurd (no_repetition v ts ts' r m' m2' q h c (signed x.Int n' ts' m' w') o')
  one-part (init.One (init.Array l ps)) (init.Repeated line' n' i') ts ts' r r' q (a, (m, w, more)) (a', (m', w', more')) c c' = absurd (let bad = sign-two x.OpenBracket x.Int ts ts' m m' q w (signed x.Int n' ts' m' w') in cc)
  one-part (init.One (init.Fields l fs)) (init.Repeated line' n' i') ts ts' r r' q (a, (m, w, more)) (a', (m', w', more')) c c' = absurd (let bad = sign-two x.Open x.Int ts ts' m m' q w (signed x.Int n' ts' m' w') in cc)
  one-part (init.Repeated line n i) (init.One (init.Value v')) ts ts' r r' q (a, (m, w, (m2, o, more))) h' c c' = absurd (no_repetition v' ts' ts r' m m2 (sym q) h' c' (signed x.Int n ts m w) o)
  one-part (init.Repeated line n i) (init.One (init.Array l' ps')) ts ts' r r' q (a, (m, w, more)) (a', (m', w', more')) c c' = absurd (let bad = sign-two x.Int x.OpenBracket ts ts' m m' q (signed x.Int n ts m w) w' in cc)
  one-part (init.Repeated line n i) (init.One (init.Fields l' fs')) ts ts' r r' q (a, (m, w, more)) (a', (m', w', more')) c c' = absurd (let bad = sign-two x.Int x.Open ts ts' m m' q (signed x.Int n ts m w) w' in cc)
  one-part (init.Repeated line n i) (init.Repeated line' n' i') ts ts' r r' q (a, (m, w, (m2, o, (m3, hi, k)))) (a', (m', w', (m2', o', (m3', hi', k')))) c c' =
      let first = spelled-same x.Int n n' ts ts' m m' q w w' in
      let both = one-initial i i' m2 m2' m3 m3' (sign-same x.Open m m' m2 m2' first.1 o o') hi hi' (closed-sign x.Close m3 r tt refl k) (closed-sign x.Close m3' r' tt refl k') in
      ((let u = line-same line line' ts ts' q a a' in let v = first.0 in let s = both.0 in cc), sign-same x.Close m3 m3' r r' both.1 k k')

-- lexemes spell at most one initial value
pub initials-one : (ts : List Lexeme) (i i' : Initial ℕ) → initial i ts [] → initial i' ts [] → i ≡ i'
initials-one ts i i' h h' = (one-initial i i' ts ts [] [] refl h h' (tt, tt) (tt, tt)).0
