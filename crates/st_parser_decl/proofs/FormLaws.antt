-- How the machine goes on.
use Rattle.std.proofs.Common.{◌≡◌, ℕ, suc, ◌≤◌, Bool, true, false, ◌&&◌, ◌||◌, List, [], ◌∷◌, ◌++◌, Option, Some, None, length, refl, ◌∙◌, ap, arith, length-append}
use Rattle.std.specs.Prelude.{is_some}
use Rattle.st_tree.specs.declared.terminal.Terminal.{Terminal}
use Rattle.st_tree.specs.Grammar.{Lexeme, sign}
use Rattle.st_parser_expr.specs.Private.Machine.{Ending}
use Rattle.st_parser_stmt.specs.Private.Machine as s
use Rattle.st_parser_stmt.specs.Private.Numbers.{same_terminal}
use Rattle.st_parser_stmt.proofs.MachineLaws as l
use Rattle.st_parser_stmt.proofs.NumberLaws.{same-self}
use Rattle.st_parser_decl.specs.Private.Promises.{first_in}
use Rattle.st_parser_decl.specs.Private.Form.{Form, one, one_of, both, may, option, several, either, inside, State, nullable, starts, choose, on_terminal, on_inside, step, advance, accepts, go_on, machine}

-- ---- one lexeme

pub on-sign : (K : State) (s : Terminal) (ts rest : List Lexeme) → sign s ts rest
    → machine K ts ≡ go_on (advance K s) (λ K'. machine K' rest) (accepts K, suc (length rest))
on-sign K s ts rest (t, is, w) = ap (machine K) w ∙ ap (λ u. go_on (advance K u) (λ K'. machine K' rest) (accepts K, suc (length rest))) is

pub on-one : (K : State) (s : Terminal) (ts rest : List Lexeme) → sign s ts rest → machine (one s ∷ K) ts ≡ machine K rest
on-one K s ts rest h = on-sign (one s ∷ K) s ts rest h ∙ ap (λ b. go_on (on_terminal b K) (λ K'. machine K' rest) (false, suc (length rest))) (same-self s)

pub on-one_of : (K : State) (S : Terminal → Bool) (s : Terminal) (p : S s ≡ true) (t : Lexeme) (rest : List Lexeme) → S t.terminal ≡ true → machine (one_of S s p ∷ K) (t ∷ rest) ≡ machine K rest
on-one_of K S s p t rest h = ap (λ b. go_on (on_terminal b K) (λ K'. machine K' rest) (false, suc (length rest))) h

-- ---- one after the other, and choices

and-assoc : (a b c : Bool) → (a && b) && c ≡ a && (b && c)
and-assoc true b c = refl
and-assoc false b c = refl

pub machine-both : (a b : Form) (K : State) (ts : List Lexeme) → machine (both a b ∷ K) ts ≡ machine (a ∷ b ∷ K) ts
machine-both a b K [] = ap (λ v. (v, 0)) (and-assoc (nullable a) (nullable b) (accepts K))
machine-both a b K (t ∷ ts) =
    ap (λ v. go_on (advance (a ∷ b ∷ K) t.terminal) (λ K'. machine K' ts) (v, suc (length ts))) (and-assoc (nullable a) (nullable b) (accepts K))

-- what takes some lexeme does not look at what stands below
pub step-other : (a : Form) (t : Terminal) (K : State) (o o' : Option State) → nullable a ≡ false → step a t K o ≡ step a t K o'
step-other (one s) t K o o' n = refl
step-other (one_of S s p) t K o o' n = refl
step-other (both a b) t K o o' n = at (λ v. step-other a t (b ∷ K) (step b t K o) (step b t K o') v) (λ v. step-other b t K o o' v) (nullable a) refl n
  where
    at : (nullable a ≡ false → step a t (b ∷ K) (step b t K o) ≡ step a t (b ∷ K) (step b t K o')) → (nullable b ≡ false → step b t K o ≡ step b t K o')
        → (v : Bool) → nullable a ≡ v → v && nullable b ≡ false → step a t (b ∷ K) (step b t K o) ≡ step a t (b ∷ K) (step b t K o')
    at first second true is n = ap (step a t (b ∷ K)) (second n)
    at first second false is n = first is
step-other (may s) t K o o' n = cc
step-other (option a) t K o o' n = cc
step-other (several a) t K o o' n = cc
step-other (either a b) t K o o' n = ap (choose (starts a t) (step a t K None)) (step-other b t K o o' n)
step-other (inside k) t K o o' n = at (s.advance k t)
  where
    at : (v : Option s.State) → on_inside v (s.accepts k) K o ≡ on_inside v (s.accepts k) K o'
    at (Some k') = refl
    at None = rw n refl

-- where it takes nothing and does not begin, the terminal is for what stands below
pub step-below : (a : Form) (t : Terminal) (K : State) (o : Option State) → nullable a ≡ true → starts a t ≡ false → step a t K o ≡ o
step-below (one s) t K o n h = cc
step-below (one_of S s p) t K o n h = cc
step-below (both a b) t K o n h = at (λ v w. step-below a t (b ∷ K) (step b t K o) v w) (λ v w. step-below b t K o v w) (nullable a) (starts a t) refl refl n h
  where
    at : (nullable a ≡ true → starts a t ≡ false → step a t (b ∷ K) (step b t K o) ≡ step b t K o) → (nullable b ≡ true → starts b t ≡ false → step b t K o ≡ o)
        → (v w : Bool) → nullable a ≡ v → starts a t ≡ w → v && nullable b ≡ true → w || (v && starts b t) ≡ false → step a t (b ∷ K) (step b t K o) ≡ o
    at first second true true is is' n h = cc
    at first second true false is is' n h = first is is' ∙ second n h
    at first second false w is is' n h = cc
step-below (may s) t K o n h = rw h refl
step-below (option a) t K o n h = rw h refl
step-below (several a) t K o n h = rw h refl
step-below (either a b) t K o n h = at (λ v. step-below b t K o n v) (starts a t) h
  where
    at : (starts b t ≡ false → step b t K o ≡ o) → (v : Bool) → v || starts b t ≡ false → choose v (step a t K None) (step b t K o) ≡ o
    at second true h = cc
    at second false h = second h
step-below (inside k) t K o n h = at (s.advance k t) h
  where
    at : (v : Option s.State) → is_some v ≡ false → on_inside v (s.accepts k) K o ≡ o
    at (Some k') h = cc
    at None h = rw n refl

-- where it begins, something is wanted then
pub step-some : (a : Form) (t : Terminal) (K : State) (o : Option State) → starts a t ≡ true → is_some (step a t K o) ≡ true
step-some (one s) t K o h = rw h refl
step-some (one_of S s p) t K o h = rw h refl
step-some (both a b) t K o h = at (λ v. step-some a t (b ∷ K) (step b t K o) v) (λ v. step-some b t K o v) (nullable a) (starts a t) refl refl h
  where
    at : (starts a t ≡ true → is_some (step a t (b ∷ K) (step b t K o)) ≡ true) → (starts b t ≡ true → is_some (step b t K o) ≡ true)
        → (v w : Bool) → nullable a ≡ v → starts a t ≡ w → w || (v && starts b t) ≡ true → is_some (step a t (b ∷ K) (step b t K o)) ≡ true
    at first second v true is is' h = first is'
    at first second true false is is' h = ap is_some (step-below a t (b ∷ K) (step b t K o) is is') ∙ second h
    at first second false false is is' h = cc
step-some (may s) t K o h = rw h refl
step-some (option a) t K o h = rw h (step-some a t K o h)
step-some (several a) t K o h = rw h (step-some a t (several a ∷ K) o h)
step-some (either a b) t K o h = at (λ v. step-some a t K None v) (λ v. step-some b t K o v) (starts a t) refl h
  where
    at : (starts a t ≡ true → is_some (step a t K None) ≡ true) → (starts b t ≡ true → is_some (step b t K o) ≡ true)
        → (w : Bool) → starts a t ≡ w → w || starts b t ≡ true → is_some (choose w (step a t K None) (step b t K o)) ≡ true
    at first second true is h = first is
    at first second false is h = second h
step-some (inside k) t K o h = at (s.advance k t) h
  where
    at : (v : Option s.State) → is_some v ≡ true → is_some (on_inside v (s.accepts k) K o) ≡ true
    at (Some k') h = refl
    at None h = cc

-- the ending does not count where it goes on
go_on-some : (o : Option State) (f : State → Ending) (v v' : Ending) → is_some o ≡ true → go_on o f v ≡ go_on o f v'
go_on-some None f v v' h = cc
go_on-some (Some K) f v v' h = refl

pub machine-may : (s : Terminal) (K : State) (ts rest : List Lexeme) → sign s ts rest → machine (may s ∷ K) ts ≡ machine K rest
machine-may s K ts rest h =
    on-sign (may s ∷ K) s ts rest h ∙ ap (λ b. go_on (choose b (Some K) (advance K s)) (λ K'. machine K' rest) (accepts K, suc (length rest))) (same-self s)

pub machine-may_not : (s : Terminal) (K : State) (ts : List Lexeme) → first_in (same_terminal s) ts ≡ false → machine (may s ∷ K) ts ≡ machine K ts
machine-may_not s K [] h = refl
machine-may_not s K (t ∷ ts) h = ap (λ b. go_on (choose b (Some K) (advance K t.terminal)) (λ K'. machine K' ts) (accepts K, suc (length ts))) h

pub machine-option : (a : Form) (K : State) (ts : List Lexeme) → first_in (starts a) ts ≡ true → machine (option a ∷ K) ts ≡ machine (a ∷ K) ts
machine-option a K [] h = cc
machine-option a K (t ∷ ts) h =
    ap (λ b. go_on (choose b (step a t.terminal K (advance K t.terminal)) (advance K t.terminal)) (λ K'. machine K' ts) (accepts K, suc (length ts))) h
    ∙ go_on-some (step a t.terminal K (advance K t.terminal)) (λ K'. machine K' ts) _ _ (step-some a t.terminal K (advance K t.terminal) h)

pub machine-no_option : (a : Form) (K : State) (ts : List Lexeme) → first_in (starts a) ts ≡ false → machine (option a ∷ K) ts ≡ machine K ts
machine-no_option a K [] h = refl
machine-no_option a K (t ∷ ts) h = ap (λ b. go_on (choose b (step a t.terminal K (advance K t.terminal)) (advance K t.terminal)) (λ K'. machine K' ts) (accepts K, suc (length ts))) h

pub machine-several : (a : Form) (K : State) (ts : List Lexeme) → nullable a ≡ false → first_in (starts a) ts ≡ true → machine (several a ∷ K) ts ≡ machine (a ∷ several a ∷ K) ts
machine-several a K [] n h = cc
machine-several a K (t ∷ ts) n h =
    let o = advance K t.terminal in
    let o' = advance (several a ∷ K) t.terminal in
    ap (λ b. go_on (choose b (step a t.terminal (several a ∷ K) o) o) (λ K'. machine K' ts) (accepts K, suc (length ts))) h
    ∙ go_on-some (step a t.terminal (several a ∷ K) o) (λ K'. machine K' ts) _ _ (step-some a t.terminal (several a ∷ K) o h)
    ∙ ap (λ p. go_on p (λ K'. machine K' ts) (nullable a && accepts K, suc (length ts))) (step-other a t.terminal (several a ∷ K) o o' n)

pub machine-no_several : (a : Form) (K : State) (ts : List Lexeme) → first_in (starts a) ts ≡ false → machine (several a ∷ K) ts ≡ machine K ts
machine-no_several a K [] h = refl
machine-no_several a K (t ∷ ts) h =
    ap (λ b. go_on (choose b (step a t.terminal (several a ∷ K) (advance K t.terminal)) (advance K t.terminal)) (λ K'. machine K' ts) (accepts K, suc (length ts))) h

pub machine-first : (a b : Form) (K : State) (ts : List Lexeme) → nullable a ≡ false → first_in (starts a) ts ≡ true → machine (either a b ∷ K) ts ≡ machine (a ∷ K) ts
machine-first a b K [] n h = cc
machine-first a b K (t ∷ ts) n h =
    ap (λ v. go_on (choose v (step a t.terminal K None) (step b t.terminal K (advance K t.terminal))) (λ K'. machine K' ts) (accepts (either a b ∷ K), suc (length ts))) h
    ∙ go_on-some (step a t.terminal K None) (λ K'. machine K' ts) _ _ (step-some a t.terminal K None h)
    ∙ ap (λ p. go_on p (λ K'. machine K' ts) (accepts (a ∷ K), suc (length ts))) (step-other a t.terminal K None (advance K t.terminal) n)

pub machine-second : (a b : Form) (K : State) (ts : List Lexeme) → first_in (starts a) ts ≡ false → machine (either a b ∷ K) ts ≡ machine (b ∷ K) ts
machine-second a b K [] h = refl
machine-second a b K (t ∷ ts) h =
    ap (λ v. go_on (choose v (step a t.terminal K None) (step b t.terminal K (advance K t.terminal))) (λ K'. machine K' ts) (accepts (b ∷ K), suc (length ts))) h

-- no more lexemes are left than there were
pub machine-left : (K : State) (ts : List Lexeme) (v : Bool) (n : ℕ) → machine K ts ≡ (v, n) → n ≤ length ts
machine-left K [] v n h = let z : 0 ≡ n = ap (λ p. p.1) h in omega (arith, z)
machine-left K (t ∷ ts) v n h = at (λ K' h'. machine-left K' ts v n h') (advance K t.terminal) h
  where
    at : ((K' : State) → machine K' ts ≡ (v, n) → n ≤ length ts) → (o : Option State) → go_on o (λ K'. machine K' ts) (accepts K, suc (length ts)) ≡ (v, n) → n ≤ suc (length ts)
    at go None h = let z : suc (length ts) ≡ n = ap (λ p. p.1) h in omega (arith, z)
    at go (Some K') h = let z = go K' h in omega (arith, z)

-- ---- what the machine of statements reads

left-le : (ts : List Lexeme) (k : s.State) (b : Bool) (n : ℕ) → s.machine k ts ≡ (b, n) → n ≤ length ts
left-le ts k b n h = at (l.cut ts k b n h)
  where
    at : l.Cut k ts b n → n ≤ length ts
    at c = omega (arith, c.many, ap length c.whole, length-append c.before c.rest)

-- what stands for its state, up to where it stops, is passed
pub inside-passes : (a rest : List Lexeme) (k : s.State) (K : State) → s.machine k (a ++ rest) ≡ (true, length rest) → machine (inside k ∷ K) (a ++ rest) ≡ machine K rest
inside-passes [] [] k K h = let b : s.accepts k ≡ true = ap (λ p. p.0) h in rw b refl
inside-passes [] (t ∷ ts) k K h = at (s.advance k t.terminal) refl h
  where
    at : (o : Option s.State) → s.advance k t.terminal ≡ o → s.go_on o (λ k'. s.machine k' ts) (s.accepts k, suc (length ts)) ≡ (true, suc (length ts))
        → machine (inside k ∷ K) (t ∷ ts) ≡ machine K (t ∷ ts)
    at None is h =
        let b : s.accepts k ≡ true = ap (λ p. p.0) h in
        rw (is, b) refl
    at (Some k') is h = absurd (let many : suc (length ts) ≤ length ts = left-le ts k' true (suc (length ts)) h in omega arith)
inside-passes (t ∷ a) rest k K h = at (λ k' h'. inside-passes a rest k' K h') (s.advance k t.terminal) refl h
  where
    at : ((k' : s.State) → s.machine k' (a ++ rest) ≡ (true, length rest) → machine (inside k' ∷ K) (a ++ rest) ≡ machine K rest)
        → (o : Option s.State) → s.advance k t.terminal ≡ o → s.go_on o (λ k'. s.machine k' (a ++ rest)) (s.accepts k, suc (length (a ++ rest))) ≡ (true, length rest)
        → machine (inside k ∷ K) (t ∷ a ++ rest) ≡ machine K rest
    at go None is h = absurd (let n : suc (length (a ++ rest)) ≡ length rest = ap (λ p. p.1) h in omega (arith, length-append a rest))
    at go (Some k') is h = rw is (go k' h)

-- where its state fails, so does the whole
pub inside-fails : (ts : List Lexeme) (k : s.State) (K : State) (n : ℕ) → s.machine k ts ≡ (false, n) → machine (inside k ∷ K) ts ≡ (false, n)
inside-fails [] k K n h = let b : s.accepts k ≡ false = ap (λ p. p.0) h in let z : 0 ≡ n = ap (λ p. p.1) h in rw b (ap (λ i. (false, i)) z)
inside-fails (t ∷ ts) k K n h = at (λ k' h'. inside-fails ts k' K n h') (s.advance k t.terminal) refl h
  where
    at : ((k' : s.State) → s.machine k' ts ≡ (false, n) → machine (inside k' ∷ K) ts ≡ (false, n))
        → (o : Option s.State) → s.advance k t.terminal ≡ o → s.go_on o (λ k'. s.machine k' ts) (s.accepts k, suc (length ts)) ≡ (false, n)
        → machine (inside k ∷ K) (t ∷ ts) ≡ (false, n)
    at go None is h =
        let b : s.accepts k ≡ false = ap (λ p. p.0) h in
        let z : suc (length ts) ≡ n = ap (λ p. p.1) h in
        rw (is, b) (ap (λ i. (false, i)) z)
    at go (Some k') is h = rw is (go k' h)
