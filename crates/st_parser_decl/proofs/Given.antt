-- What is wanted can be given.
use Rattle.std.proofs.Common.{◌≡◌, ℕ, suc, inl, Bool, true, false, List, [], ◌∷◌, ◌++◌, Option, Some, None, length, refl, sym, ◌∙◌, ap, subst, arith, append_assoc}
use Rattle.st_tree.specs.declared.terminal.Terminal.{Terminal}
use Rattle.st_tree.specs.Grammar.{Lexeme}
use Rattle.st_tree.specs.Reads.{no_marks}
use Rattle.st_parser_stmt.specs.Private.Machine as s
use Rattle.st_parser_stmt.specs.Private.Numbers.{same_terminal}
use Rattle.st_parser_stmt.proofs.MachineLaws as l
use Rattle.st_parser_decl.specs.Private.Form.{Form, one, one_of, both, may, option, several, either, inside, State, starts, choose, on_terminal, on_inside, step, advance, accepts, go_on, machine}
use Rattle.st_parser_decl.proofs.Takes.{Parts, Takes, follow, Fine, Followed, begun, followed, passes}

-- the terminals that may come where these are wanted
abbrev pub wanted : State → Terminal → Bool
wanted [] t = false
wanted (a ∷ K) t = follow a (wanted K) t

-- one terminal tells which way each form goes
abbrev pub FineState : State → Type 0
FineState [] = Unit {0}
FineState (a ∷ K) = Fine a (wanted K) × FineState K

-- ---- it stays so

fine-terminal : (v : Bool) (K K' : State) → FineState K → on_terminal v K ≡ Some K' → FineState K'
fine-terminal true K K' fine h = let same : K ≡ K' = cc in subst FineState same fine
fine-terminal false K K' fine h = cc

fine-inside : (o : Option s.State) (v : Bool) (k : s.State) (K K' : State) (other : Option State) → Fine (inside k) (wanted K) → FineState K → (other ≡ Some K' → FineState K') → on_inside o v K other ≡ Some K' → FineState K'
fine-inside (Some k') v k K K' other here fine go h = let same : inside k' ∷ K ≡ K' = cc in subst FineState same (here, fine)
fine-inside None true k K K' other here fine go h = go h
fine-inside None false k K K' other here fine go h = cc

fine-choose : (v : Bool) (o o' : Option State) (K' : State) → (o ≡ Some K' → FineState K') → (o' ≡ Some K' → FineState K') → choose v o o' ≡ Some K' → FineState K'
fine-choose true o o' K' f g h = f h
fine-choose false o o' K' f g h = g h

fine-step : (a : Form) (t : Terminal) (K : State) (other : Option State) (K' : State) → Fine a (wanted K) → FineState K → (other ≡ Some K' → FineState K') → step a t K other ≡ Some K' → FineState K'
fine-step (one s) t K other K' here fine go h = fine-terminal (same_terminal s t) K K' fine h
fine-step (one_of S s p) t K other K' here fine go h = fine-terminal (S t) K K' fine h
fine-step (both a b) t K other K' here fine go h =
    fine-step a t (b ∷ K) (step b t K other) K' here.0 (here.1, fine) (λ h'. fine-step b t K other K' here.1 fine go h') h
fine-step (may s) t K other K' here fine go h = fine-choose (same_terminal s t) (Some K) other K' (λ h'. let same : K ≡ K' = cc in subst FineState same fine) go h
fine-step (option a) t K other K' here fine go h = fine-choose (starts a t) (step a t K other) other K' (λ h'. fine-step a t K other K' here.0 fine go h') go h
fine-step (several a) t K other K' here fine go h =
    fine-choose (starts a t) (step a t (several a ∷ K) other) other K' (λ h'. fine-step a t (several a ∷ K) other K' here.0 (here, fine) go h') go h
fine-step (either a b) t K other K' here fine go h =
    fine-choose (starts a t) (step a t K None) (step b t K other) K' (λ h'. fine-step a t K None K' here.0 fine (λ bad. cc) h') (λ h'. fine-step b t K other K' here.1 fine go h') h
fine-step (inside k) t K other K' here fine go h = fine-inside (s.advance k t) (s.accepts k) k K K' other here fine go h

fine-advance : (K : State) (t : Terminal) (K' : State) → FineState K → advance K t ≡ Some K' → FineState K'
fine-advance [] t K' fine h = cc
fine-advance (a ∷ K) t K' fine h = fine-step a t K (advance K t) K' fine.0 fine.1 (λ h'. fine-advance K t K' fine.1 h') h

-- ---- lexemes that a form takes

abbrev lexeme : Terminal → Lexeme
lexeme s = record { terminal = s; text = []; line = 0; marks = no_marks }

record Filled (a : Form) : Type 0 where
  parts : Parts a
  tokens : List Lexeme
  takes : (ts : List Lexeme) → Takes a parts (tokens ++ ts) ts

filled : (a : Form) → Filled a
filled (one s) = record { parts = lexeme s; tokens = lexeme s ∷ []; takes = λ ts. (refl, refl) }
filled (one_of S s p) = record { parts = lexeme s; tokens = lexeme s ∷ []; takes = λ ts. (p, refl) }
filled (both a b) =
    let f = filled a in
    let g = filled b in
    record { parts = (f.parts, g.parts); tokens = f.tokens ++ g.tokens; takes = λ ts. (g.tokens ++ ts, subst (λ u. Takes a f.parts u (g.tokens ++ ts)) (sym (append_assoc f.tokens g.tokens ts)) (f.takes (g.tokens ++ ts)), g.takes ts) }
filled (may s) = record { parts = Some (lexeme s); tokens = lexeme s ∷ []; takes = λ ts. (refl, refl) }
filled (option a) = record { parts = None; tokens = []; takes = λ ts. refl }
filled (several a) = record { parts = []; tokens = []; takes = λ ts. refl }
filled (either a b) = let f = filled a in record { parts = inl f.parts; tokens = f.tokens; takes = f.takes }
filled (inside k) = let g = l.given k in record { parts = (g.tokens, g.accepted); tokens = g.tokens; takes = λ ts. refl }

record Given (K : State) : Type 0 where
  tokens : List Lexeme
  accepted : machine K tokens ≡ (true, 0)
  may_follow : Followed (wanted K) tokens

given : (K : State) → FineState K → Given K
given [] fine = record { tokens = []; accepted = refl; may_follow = tt }
given (a ∷ K) fine =
    let g = given K fine.1 in
    let f = filled a in
    record {
      tokens = f.tokens ++ g.tokens;
      accepted = passes a (wanted K) f.parts K (f.tokens ++ g.tokens) g.tokens fine.0 (f.takes g.tokens) g.may_follow ∙ g.accepted;
      may_follow = followed a (wanted K) (f.tokens ++ g.tokens) g.tokens (begun a (wanted K) f.parts (f.tokens ++ g.tokens) g.tokens fine.0 (f.takes g.tokens)) g.may_follow;
    }

pub completes : (a : List Lexeme) (K : State) (v : Bool) → FineState K → machine K a ≡ (v, 0) → (b : List Lexeme) × (machine K (a ++ b) ≡ (true, 0))
completes [] K v fine h = let g = given K fine in (g.tokens, g.accepted)
completes (t ∷ a) K v fine h = at (λ K' f h'. completes a K' v f h') (advance K t.terminal) refl h
  where
    at : ((K' : State) → FineState K' → machine K' a ≡ (v, 0) → (b : List Lexeme) × (machine K' (a ++ b) ≡ (true, 0)))
        → (o : Option State) → advance K t.terminal ≡ o → go_on o (λ K'. machine K' a) (accepts K, suc (length a)) ≡ (v, 0)
        → (b : List Lexeme) × (machine K (t ∷ a ++ b) ≡ (true, 0))
    at go None is h = absurd (let q : suc (length a) ≡ 0 = ap (λ p. p.1) h in omega arith)
    at go (Some K') is h = let more = go K' (fine-advance K t.terminal K' fine is) h in (more.0, rw is more.1)

-- ---- a front of what is passed whole is passed whole

pub machine-front : (a b : List Lexeme) (K : State) (v : Bool) → machine K (a ++ b) ≡ (v, 0) → (v' : Bool) × (machine K a ≡ (v', 0))
machine-front [] b K v h = (accepts K, refl)
machine-front (t ∷ a) b K v h = at (λ K' h'. machine-front a b K' v h') (advance K t.terminal) h
  where
    at : ((K' : State) → machine K' (a ++ b) ≡ (v, 0) → (v' : Bool) × (machine K' a ≡ (v', 0)))
        → (o : Option State) → go_on o (λ K'. machine K' (a ++ b)) (accepts K, suc (length (a ++ b))) ≡ (v, 0)
        → (v' : Bool) × (go_on o (λ K'. machine K' a) (accepts K, suc (length a)) ≡ (v', 0))
    at front None h = absurd (let q : suc (length (a ++ b)) ≡ 0 = ap (λ p. p.1) h in omega arith)
    at front (Some K') h = front K' h

-- ---- the place where it stops

-- the lexemes before the place and from it on
pub record Cut (K : State) (ts : List Lexeme) (v : Bool) (left : ℕ) : Type 0 where
  pub before : List Lexeme
  pub rest : List Lexeme
  pub whole : ts ≡ before ++ rest
  pub many : length rest ≡ left
  pub passed : machine K before ≡ (v, 0)
  pub stuck : (t : Lexeme) (after : List Lexeme) → rest ≡ t ∷ after → machine K (before ++ t ∷ []) ≡ (v, 1)

pub cut : (ts : List Lexeme) (K : State) (v : Bool) (left : ℕ) → machine K ts ≡ (v, left) → Cut K ts v left
cut [] K v left h = record { before = []; rest = []; whole = refl; many = ap (λ p. p.1) h; passed = let z : 0 ≡ left = ap (λ p. p.1) h in rw (← z) at h; stuck = λ t after w. absurd (nil_cons t after w) }
  where
    nil_cons : (t : Lexeme) (after : List Lexeme) → [] ≡ t ∷ after → ⊥
    nil_cons t after w = cc
cut (t ∷ ts) K v left h = at (λ K' h'. cut ts K' v left h') (advance K t.terminal) refl h
  where
    at : ((K' : State) → machine K' ts ≡ (v, left) → Cut K' ts v left)
        → (o : Option State) → advance K t.terminal ≡ o → go_on o (λ K'. machine K' ts) (accepts K, suc (length ts)) ≡ (v, left) → Cut K (t ∷ ts) v left
    at go None is h = record {
      before = [];
      rest = t ∷ ts;
      whole = refl;
      many = ap (λ p. p.1) h;
      passed = let same : accepts K ≡ v = ap (λ p. p.0) h in ap (λ b. (b, 0)) same;
      stuck = λ u after w.
          let same : accepts K ≡ v = ap (λ p. p.0) h in
          let first : t ≡ u = cc in
          rw (← first, is) (ap (λ b. (b, 1)) same);
    }
    at go (Some K') is h =
        let c = go K' h in
        record {
          before = t ∷ c.before;
          rest = c.rest;
          whole = ap (λ l. t ∷ l) c.whole;
          many = c.many;
          passed = rw is c.passed;
          stuck = λ u after w. rw is (c.stuck u after w);
        }
