-- What the machine accepts consists of the parts of what was wanted.
use Rattle.std.proofs.Common.{◌≡◌, ℕ, suc, inl, inr, Bool, true, false, ◌&&◌, List, [], ◌∷◌, Option, Some, None, length, refl, sym, ap, arith}
use Rattle.st_tree.specs.Grammar.{Lexeme}
use Rattle.st_parser_expr.specs.Private.Machine.{Ending}
use Rattle.st_parser_stmt.specs.Private.Machine as s
use Rattle.st_parser_stmt.specs.Private.Numbers.{same_terminal}
use Rattle.st_parser_stmt.proofs.NumberLaws.{same-is}
use Rattle.st_parser_decl.specs.Private.Form.{Form, one, one_of, both, may, option, several, either, inside, State, nullable, starts, choose, on_terminal, on_inside, step, advance, accepts, go_on, machine}
use Rattle.st_parser_decl.proofs.Takes.{Parts, Takes}

abbrev pub GivesAll : State → List Lexeme → Type 0
GivesAll [] ts = ts ≡ []
GivesAll (a ∷ K) ts = (p : Parts a) × (m : List Lexeme) × Takes a p ts m × GivesAll K m

abbrev Accepted : Ending → Type 0
Accepted v = v ≡ (true, 0)

-- the form takes nothing
takes-nothing : (a : Form) → nullable a ≡ true → (p : Parts a) × Takes a p [] []
takes-nothing (one s) h = cc
takes-nothing (one_of S s p) h = cc
takes-nothing (both a b) h = at (nullable a) refl h (λ n. takes-nothing a n) (λ n. takes-nothing b n)
  where
    at : (v : Bool) → nullable a ≡ v → v && nullable b ≡ true → (nullable a ≡ true → (p : Parts a) × Takes a p [] []) → (nullable b ≡ true → (p : Parts b) × Takes b p [] [])
        → (p : Parts (both a b)) × Takes (both a b) p [] []
    at true is h first second = let p = first is in let q = second h in ((p.0, q.0), ([], p.1, q.1))
    at false is h first second = cc
takes-nothing (may s) h = (None, (refl, refl))
takes-nothing (option a) h = (None, refl)
takes-nothing (several a) h = ([], refl)
takes-nothing (either a b) h = let q = takes-nothing b h in (inr q.0, q.1)
takes-nothing (inside k) h = (([], ap (λ v. (v, 0)) h), refl)

and-both : (a b : Bool) → a && b ≡ true → (a ≡ true) × (b ≡ true)
and-both true b h = (refl, h)
and-both false b h = cc

at_end : (K : State) → accepts K ≡ true → GivesAll K []
at_end [] h = refl
at_end (a ∷ K) h =
    let both = and-both (nullable a) (accepts K) h in
    let p = takes-nothing a both.0 in
    (p.0, [], p.1, at_end K both.1)

not_here : {A : Type 0} (b : Bool) (n : ℕ) → Accepted (b, suc n) → A
not_here b n h = absurd (let z : suc n ≡ 0 = ap (λ p. p.1) h in omega arith)

-- a lexeme t stands before ts, of which all is known already
module _ (t : Lexeme) (ts : List Lexeme) (later : (K : State) → Accepted (machine K ts) → GivesAll K ts) where
  abbrev Goes : Option State → Bool → Type 0
  Goes o v = Accepted (go_on o (λ K'. machine K' ts) (v, suc (length ts)))

  reassociate : (a b : Form) (K : State) → GivesAll (a ∷ b ∷ K) (t ∷ ts) → GivesAll (both a b ∷ K) (t ∷ ts)
  reassociate a b K (p, m, h, (q, m', h', rest)) = ((p, q), m', (m, h, h'), rest)

  on-terminal : (a : Form) (v w : Bool) (K : State) → (v ≡ true → GivesAll K ts → GivesAll (a ∷ K) (t ∷ ts)) → Goes (on_terminal v K) w → GivesAll (a ∷ K) (t ∷ ts)
  on-terminal a true w K take h = take refl (later K h)
  on-terminal a false w K take h = not_here w (length ts) h

  on-inside : (k : s.State) (K : State) (other : Option State) (v : Bool) (o : Option s.State) (b : Bool) → s.advance k t.terminal ≡ o → s.accepts k ≡ b
      → (Goes other v → GivesAll K (t ∷ ts)) → Goes (on_inside o b K other) v → GivesAll (inside k ∷ K) (t ∷ ts)
  on-inside k K other v (Some k') b is ok go h = longer (later (inside k' ∷ K) h)
    where
      longer : GivesAll (inside k' ∷ K) ts → GivesAll (inside k ∷ K) (t ∷ ts)
      longer ((a, run), m, w, rest) = ((t ∷ a, rw is run), m, ap (λ u. t ∷ u) w, rest)
  on-inside k K other v None true is ok go h = (([], ap (λ u. (u, 0)) ok), t ∷ ts, refl, go h)
  on-inside k K other v None false is ok go h = not_here v (length ts) h

  -- the state below is known where it comes to that
  on-step : (a : Form) (K : State) (other : Option State) (v : Bool) → (Goes other v → GivesAll K (t ∷ ts)) → Goes (step a t.terminal K other) v → GivesAll (a ∷ K) (t ∷ ts)
  on-step (one s) K other v go h = on-terminal (one s) (same_terminal s t.terminal) v K (λ e rest. (t, ts, (sym (same-is s t.terminal e), refl), rest)) h
  on-step (one_of S s p) K other v go h = on-terminal (one_of S s p) (S t.terminal) v K (λ e rest. (t, ts, (e, refl), rest)) h
  on-step (both a b) K other v go h = reassociate a b K (on-step a (b ∷ K) (step b t.terminal K other) v (λ h'. on-step b K other v go h') h)
  on-step (may s) K other v go h = at (same_terminal s t.terminal) refl h
    where
      at : (b : Bool) → same_terminal s t.terminal ≡ b → Goes (choose b (Some K) other) v → GivesAll (may s ∷ K) (t ∷ ts)
      at true e h = (Some t, ts, (sym (same-is s t.terminal e), refl), later K h)
      at false e h = (None, t ∷ ts, (e, refl), go h)
  on-step (option a) K other v go h = at (λ h'. on-step a K other v go h') (starts a t.terminal) h
    where
      at : (Goes (step a t.terminal K other) v → GivesAll (a ∷ K) (t ∷ ts)) → (b : Bool) → Goes (choose b (step a t.terminal K other) other) v → GivesAll (option a ∷ K) (t ∷ ts)
      at taken true h = let g = taken h in (Some g.0, g.1, g.2, g.3)
      at taken false h = (None, t ∷ ts, refl, go h)
  on-step (several a) K other v go h = at (λ h'. on-step a (several a ∷ K) other v (λ g. ([], t ∷ ts, refl, go g)) h') (starts a t.terminal) h
    where
      join : GivesAll (a ∷ several a ∷ K) (t ∷ ts) → GivesAll (several a ∷ K) (t ∷ ts)
      join (p, m, h, (ps, m', h', rest)) = (p ∷ ps, m', (m, h, h'), rest)

      at : (Goes (step a t.terminal (several a ∷ K) other) v → GivesAll (a ∷ several a ∷ K) (t ∷ ts)) → (b : Bool) → Goes (choose b (step a t.terminal (several a ∷ K) other) other) v
          → GivesAll (several a ∷ K) (t ∷ ts)
      at taken true h = join (taken h)
      at taken false h = ([], t ∷ ts, refl, go h)
  on-step (either a b) K other v go h = at (λ h'. on-step a K None v (not_here v (length ts)) h') (λ h'. on-step b K other v go h') (starts a t.terminal) h
    where
      at : (Goes (step a t.terminal K None) v → GivesAll (a ∷ K) (t ∷ ts)) → (Goes (step b t.terminal K other) v → GivesAll (b ∷ K) (t ∷ ts)) → (c : Bool)
          → Goes (choose c (step a t.terminal K None) (step b t.terminal K other)) v → GivesAll (either a b ∷ K) (t ∷ ts)
      at first second true h = let g = first h in (inl g.0, g.1, g.2, g.3)
      at first second false h = let g = second h in (inr g.0, g.1, g.2, g.3)
  on-step (inside k) K other v go h = on-inside k K other v (s.advance k t.terminal) (s.accepts k) refl refl go h

  on-lexeme : (K : State) → Goes (advance K t.terminal) (accepts K) → GivesAll K (t ∷ ts)
  on-lexeme [] h = not_here true (length ts) h
  on-lexeme (a ∷ K) h = on-step a K (advance K t.terminal) (accepts (a ∷ K)) (λ h'. on-lexeme K (same_goes (advance K t.terminal) (accepts (a ∷ K)) (accepts K) h')) h
    where
      -- what is left does not depend on whether more was wanted
      same_goes : (o : Option State) (v w : Bool) → Goes o v → Goes o w
      same_goes None v w h = not_here v (length ts) h
      same_goes (Some K') v w h = h

pub given_all : (ts : List Lexeme) (K : State) → machine K ts ≡ (true, 0) → GivesAll K ts
given_all [] K h = at_end K (ap (λ p. p.0) h)
given_all (t ∷ ts) K h = on-lexeme t ts (given_all ts) K h
