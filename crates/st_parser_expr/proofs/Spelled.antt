-- What the machine accepts, the grammar spells.
use Rattle.std.proofs.Common.{◌≡◌, ℕ, suc, ◌⊎◌, inl, inr, Bool, true, false, List, [], ◌∷◌, Option, Some, None, length, refl, ap, arith}
use Rattle.st_types.specs.declared.elem.Elem.{Elem}
use Rattle.st_types.specs.declared.elem.Elem.TheVariants as kind
use Rattle.st_tree.specs.declared.terminal.Terminal.{Terminal}
use Rattle.st_tree.specs.declared.terminal.Terminal.TheVariants as x
use Rattle.st_tree.specs.declared.marks.Marks.{Marks}
use Rattle.st_tree.specs.declared.expression.Operator.{Operator}
use Rattle.st_tree.specs.declared.expression.Literal.{Literal}
use Rattle.st_tree.specs.declared.expression.Literal.TheVariants as literals
use Rattle.st_tree.specs.declared.expression.Root.{Root}
use Rattle.st_tree.specs.declared.expression.Root.TheVariants as roots
use Rattle.st_tree.specs.Expression as expr
use Rattle.st_tree.specs.Expression.{Expression, Expressions, no_expressions, expression_then, Selectors, no_selectors, selector_then, Argument, Arguments, no_arguments, argument_then}
use Rattle.st_tree.specs.Grammar.{Lexeme, Phrase, sign, spelled, word, operator_of, ◌⋆◌, literal, root, expression, selectors, more_expressions, argument, arguments, more_arguments}
use Rattle.st_parser_expr.specs.Parse.{Spells}
use Rattle.st_parser_expr.specs.Private.Machine.{Follow, calls, reference_end, arguments_end, elsewhere, Want, operand, more_tails, selecting, behind_name, root_next, name_next, close_next, behind_ref, behind_kind, literal_next, digits_next, comma_or_bracket, first_argument, argument_next, behind_argument, comma_or_close, State, on_operand, on_tail, on_selector, on_call, on_hash, on_root, on_name, on_close, on_reference, on_time, on_kind, on_literal, on_digits, on_index, on_more, on_argument, on_first, on_naming, on_follow, on_named, advance, accepts, Ending, go_on, machine, start}
use Rattle.st_parser_expr.proofs.Groups.{flat, grouped, expression-looser}

-- what stands behind the selectors of a place
abbrev pub Behind : Follow → Phrase
Behind calls ts rest = (ts ≡ rest) ⊎ ((xs : Arguments ℕ) × (sign x.Open ⋆ arguments xs ⋆ sign x.Close) ts rest)
Behind reference_end ts rest = sign x.Close ts rest
Behind arguments_end ts rest = (xs : Arguments ℕ) × (more_arguments xs ⋆ sign x.Close) ts rest
Behind elsewhere ts rest = ts ≡ rest

abbrev pub Selected : Follow → Phrase
Selected f ts rest = (s : Selectors ℕ) × (selectors s ⋆ Behind f) ts rest

abbrev pub Named : Phrase
Named ts rest = ((n : List ℕ) × (sign x.Hash ⋆ word n) ts rest) ⊎ Selected calls ts rest

abbrev pub Flat : Phrase
Flat ts rest = (t : List (Operator × Expression ℕ)) × flat t ts rest

abbrev pub More : Phrase
More ts rest = (xs : Arguments ℕ) × (more_arguments xs ⋆ sign x.Close) ts rest

abbrev pub Whole : Phrase
Whole ts rest = (e : Expression ℕ) × expression e 0 ts rest

-- an argument, without the name that it may begin with
abbrev pub Valued : Phrase
Valued = sign x.Assign ⋆ Whole ⋆ More

abbrev pub Sent : Phrase
Sent ts rest = (m : List Lexeme) × sign x.Sends ts m × ((r : Root ℕ) × (root r ⋆ Selected arguments_end) m rest)

-- what gives one thing that is wanted
abbrev pub Gives : Want → Phrase
Gives operand ts rest = (e : Expression ℕ) × expression e 7 ts rest
Gives more_tails ts rest = Flat ts rest
Gives (selecting f) ts rest = Selected f ts rest
Gives behind_name ts rest = Named ts rest
Gives root_next ts rest = (r : Root ℕ) × root r ts rest
Gives name_next ts rest = (n : List ℕ) × word n ts rest
Gives close_next ts rest = sign x.Close ts rest
Gives behind_ref ts rest = (m : List Lexeme) × sign x.Open ts m × ((r : Root ℕ) × (root r ⋆ Selected reference_end) m rest)
Gives (behind_kind e) ts rest = ((v : Literal) × (sign x.Hash ⋆ literal v) ts rest) ⊎ ((e ≡ kind.Time) × (sign x.Open ⋆ sign x.Close) ts rest)
Gives literal_next ts rest = (v : Literal) × literal v ts rest
Gives digits_next ts rest = (n : List ℕ) × spelled x.Int n ts rest
Gives comma_or_bracket ts rest = (es : Expressions ℕ) × (more_expressions es ⋆ sign x.CloseBracket) ts rest
Gives first_argument ts rest = (xs : Arguments ℕ) × (arguments xs ⋆ sign x.Close) ts rest
Gives argument_next ts rest = (a : Argument ℕ) × (argument a ⋆ More) ts rest
Gives behind_argument ts rest = Valued ts rest ⊎ (Sent ts rest ⊎ (Named ⋆ Flat ⋆ More) ts rest)
Gives comma_or_close ts rest = More ts rest

abbrev pub GivesAll : State → List Lexeme → Type 0
GivesAll [] ts = ts ≡ []
GivesAll (w ∷ k) ts = (m : List Lexeme) × Gives w ts m × GivesAll k m

at_end : (k : State) → accepts k ≡ true → GivesAll k []
at_end [] h = refl
at_end (operand ∷ k) h = cc
at_end (more_tails ∷ k) h = ([], ([], refl), at_end k h)
at_end (selecting calls ∷ k) h = ([], (no_selectors, ([], refl, inl refl)), at_end k h)
at_end (selecting reference_end ∷ k) h = cc
at_end (selecting arguments_end ∷ k) h = cc
at_end (selecting elsewhere ∷ k) h = ([], (no_selectors, ([], refl, refl)), at_end k h)
at_end (behind_name ∷ k) h = ([], inr (no_selectors, ([], refl, inl refl)), at_end k h)
at_end (root_next ∷ k) h = cc
at_end (name_next ∷ k) h = cc
at_end (close_next ∷ k) h = cc
at_end (behind_ref ∷ k) h = cc
at_end (behind_kind e ∷ k) h = cc
at_end (literal_next ∷ k) h = cc
at_end (digits_next ∷ k) h = cc
at_end (comma_or_bracket ∷ k) h = cc
at_end (first_argument ∷ k) h = cc
at_end (argument_next ∷ k) h = cc
at_end (behind_argument ∷ k) h = cc
at_end (comma_or_close ∷ k) h = cc

abbrev Accepted : Ending → Type 0
Accepted e = e ≡ (true, 0)

not_here : {A : Type 0} (b : Bool) (n : ℕ) → Accepted (b, suc n) → A
not_here b n h = absurd (let z : suc n ≡ 0 = ap (λ p. p.1) h in omega arith)

whole : (ts m rest : List Lexeme) → Gives operand ts m → Flat m rest → Whole ts rest
whole ts m rest (e, he) (t, ht) = grouped t e ts m rest (looser e ts m he) ht
  where
    looser : (e : Expression ℕ) (ts m : List Lexeme) → expression e 7 ts m → expression e 0 ts m
    looser e ts m h = expression-looser e 7 0 ts m (omega arith) h

-- what a name is, by what stands behind it
named : (t : Lexeme) (ts m : List Lexeme) → t.terminal ≡ x.Word → Named ts m → Gives operand (t ∷ ts) m
named t ts m is (inl (n, (m', hash, (u, both, w)))) = (expr.Enumerator t.line t.text u.line n, (refl, (ts, (t, (is, refl), refl), (m', hash, (rw w refl, (u, both, w))))))
named t ts m is (inr (s, (m', hs, inl e))) = (expr.Place t.line (roots.Name t.line t.text) s, (refl, (ts, (refl, (t, (is, refl), refl)), rw (← e) hs)))
named t ts m is (inr (s, (m', hs, inr (xs, more)))) = (expr.Call t.line (roots.Name t.line t.text) s xs, (refl, (ts, (refl, (t, (is, refl), refl)), (m', hs, more))))

-- and what a place without a name is
begun : (r : Root ℕ) (t : Lexeme) (ts m : List Lexeme) → root r (t ∷ ts) ts → Selected calls ts m → Gives operand (t ∷ ts) m
begun r t ts m hr (s, (m', hs, inl e)) = (expr.Place t.line r s, (refl, (ts, hr, rw (← e) hs)))
begun r t ts m hr (s, (m', hs, inr (xs, more))) = (expr.Call t.line r s xs, (refl, (ts, hr, (m', hs, more))))

kinded : (e : Elem) (t : Lexeme) (ts m : List Lexeme) → t.terminal ≡ x.Kind e → Gives (behind_kind e) ts m → Gives operand (t ∷ ts) m
kinded e t ts m is (inl (v, more)) = (expr.Typed t.line e v, (refl, (ts, (t, is, refl), more)))
kinded e t ts m is (inr (is_time, more)) = (expr.Now t.line, (refl, (ts, (t, rw is_time at is, refl), more)))

referred : (t : Lexeme) (ts m : List Lexeme) → t.terminal ≡ x.Ref → Gives behind_ref ts m → Gives operand (t ∷ ts) m
referred t ts m is (m1, o, (r, (m2, hr, (s, (m3, hs, c))))) = (expr.Ref t.line r s, (refl, (ts, (t, is, refl), (m1, o, (m2, hr, (m3, hs, c))))))

-- the line of what a place begins with
root-line : Root ℕ → ℕ
root-line (roots.Name line n) = line
root-line (roots.This line) = line
root-line (roots.Super line) = line

-- an argument, by what stands behind the name that it begins with
worded : (t : Lexeme) (ts rest : List Lexeme) → t.terminal ≡ x.Word → Gives behind_argument ts rest → Gives argument_next (t ∷ ts) rest
worded t ts rest is (inl (m, assign, (m', (e, he), more))) = (expr.Input t.line t.text e, (m', (ts, (refl, (t, (is, refl), refl)), (m, assign, he)), more))
worded t ts rest is (inr (inl (m, sends, (r, (m', hr, (s, (m'', hs, more))))))) = sent r hr
  where
    sent : (r : Root ℕ) → root r m m' → Gives argument_next (t ∷ ts) rest
    sent (roots.Name line n) hr = (expr.Output t.line t.text line (roots.Name line n) s, (m'', (ts, (refl, (t, (is, refl), refl)), (m, sends, (hr.0, (m', hr, hs)))), more))
    sent (roots.This line) hr = (expr.Output t.line t.text line (roots.This line) s, (m'', (ts, (refl, (t, (is, refl), refl)), (m, sends, (hr.0, (m', hr, hs)))), more))
    sent (roots.Super line) hr = (expr.Output t.line t.text line (roots.Super line) s, (m'', (ts, (refl, (t, (is, refl), refl)), (m, sends, (hr.0, (m', hr, hs)))), more))
worded t ts rest is (inr (inr (m, n, (m', f, more)))) =
    let e = whole (t ∷ ts) m m' (named t ts m is n) f in
    (expr.Positional e.0, (m', e.1, more))

-- a token with the terminal u stands before ts, of which all is known already
module _ (text : List ℕ) (line : ℕ) (marks : Marks) (ts : List Lexeme) (later : (k : State) → Accepted (machine k ts) → GivesAll k ts) where
  abbrev one : Terminal → Lexeme
  one u = record { terminal = u; text = text; line = line; marks = marks }

  abbrev Goes : Option State → Bool → Type 0
  Goes o b = Accepted (go_on o (λ k'. machine k' ts) (b, suc (length ts)))

  on-operand : (u : Terminal) (k : State) (b : Bool) → Goes (on_operand u k) b → GivesAll (operand ∷ k) (one u ∷ ts)
  on-operand x.Int k b h = (ts, (expr.Int line text, (refl, (one x.Int, (refl, refl), refl))), later k h)
  on-operand x.Duration k b h = (ts, (expr.Time line text, (refl, (one x.Duration, (refl, refl), refl))), later k h)
  on-operand x.True k b h = (ts, (expr.True line, (refl, (one x.True, refl, refl))), later k h)
  on-operand x.False k b h = (ts, (expr.False line, (refl, (one x.False, refl, refl))), later k h)
  on-operand x.Null k b h = (ts, (expr.Null line, (refl, (one x.Null, refl, refl))), later k h)
  on-operand (x.Kind e) k b h = let g = later (behind_kind e ∷ k) h in (g.0, kinded e (one (x.Kind e)) ts g.0 refl g.1, g.2)
  on-operand x.Word k b h = let g = later (behind_name ∷ k) h in (g.0, named (one x.Word) ts g.0 refl g.1, g.2)
  on-operand x.This k b h = let g = later (selecting calls ∷ k) h in (g.0, begun (roots.This line) (one x.This) ts g.0 (refl, (one x.This, refl, refl)) g.1, g.2)
  on-operand x.Super k b h = let g = later (selecting calls ∷ k) h in (g.0, begun (roots.Super line) (one x.Super) ts g.0 (refl, (one x.Super, refl, refl)) g.1, g.2)
  on-operand x.Ref k b h = let g = later (behind_ref ∷ k) h in (g.0, referred (one x.Ref) ts g.0 refl g.1, g.2)
  on-operand x.Open k b h = parenthesized (later (operand ∷ more_tails ∷ close_next ∷ k) h)
    where
      parenthesized : GivesAll (operand ∷ more_tails ∷ close_next ∷ k) ts → GivesAll (operand ∷ k) (one x.Open ∷ ts)
      parenthesized (m1, ho, (m2, ht, (m3, hc, rest))) =
          let e = whole ts m1 m2 ho ht in
          (m3, (expr.Paren line e.0, (refl, (ts, (one x.Open, refl, refl), (m2, e.1, hc)))), rest)
  on-operand x.Not k b h = let g = later (operand ∷ k) h in (g.0, (expr.Not line g.1.0, (refl, (ts, (one x.Not, refl, refl), g.1.1))), g.2)
  on-operand x.Minus k b h = let g = later (operand ∷ k) h in (g.0, (expr.Negate line g.1.0, (refl, (ts, (one x.Minus, refl, refl), g.1.1))), g.2)
  on-operand _ k b h = not_here b (length ts) h

  on-tail : (u : Terminal) (k : State) (other : Option State) (b : Bool) (o : Option Operator) → operator_of u ≡ o
      → (Goes other b → GivesAll k (one u ∷ ts)) → Goes (on_tail o k other) b → GivesAll (more_tails ∷ k) (one u ∷ ts)
  on-tail u k other b None is go h = (one u ∷ ts, ([], refl), go h)
  on-tail u k other b (Some p) is go h = operators (later (operand ∷ more_tails ∷ k) h)
    where
      operators : GivesAll (operand ∷ more_tails ∷ k) ts → GivesAll (more_tails ∷ k) (one u ∷ ts)
      operators (m1, (e, he), (m2, (t, ht), rest)) = (m2, ((p, e) ∷ t, (ts, (one u, is, refl), (m1, he, ht))), rest)

  on-call : (u : Terminal) (k : State) (other : Option State) (b : Bool)
      → (Goes other b → GivesAll k (one u ∷ ts)) → Goes (on_call u k other) b → GivesAll (selecting calls ∷ k) (one u ∷ ts)
  on-call x.Open k other b go h = called (later (first_argument ∷ k) h)
    where
      called : GivesAll (first_argument ∷ k) ts → GivesAll (selecting calls ∷ k) (one x.Open ∷ ts)
      called (m1, (xs, (m2, ha, hc)), rest) = (m1, (no_selectors, (one x.Open ∷ ts, refl, inr (xs, (ts, (one x.Open, refl, refl), (m2, ha, hc))))), rest)
  on-call _ k other b go h = (_, (no_selectors, (_, refl, inl refl)), go h)

  -- a selector, and those behind it
  on-selector : (f : Follow) (u : Terminal) (k : State) (other : Option State) (b : Bool)
      → (Goes other b → GivesAll (selecting f ∷ k) (one u ∷ ts)) → Goes (on_selector u (selecting f ∷ k) other) b → GivesAll (selecting f ∷ k) (one u ∷ ts)
  on-selector f x.Dot k other b go h = fielded (later (name_next ∷ selecting f ∷ k) h)
    where
      fielded : GivesAll (name_next ∷ selecting f ∷ k) ts → GivesAll (selecting f ∷ k) (one x.Dot ∷ ts)
      fielded (m1, (n, (t, both, w)), (m2, (s, (m, hs, c)), rest)) =
          (m2, (selector_then (expr.Field t.line n) s, (m, (m1, (ts, (one x.Dot, refl, refl), (rw w refl, (t, both, w))), hs), c)), rest)
  on-selector f x.OpenBracket k other b go h = indexed (later (operand ∷ more_tails ∷ comma_or_bracket ∷ selecting f ∷ k) h)
    where
      indexed : GivesAll (operand ∷ more_tails ∷ comma_or_bracket ∷ selecting f ∷ k) ts → GivesAll (selecting f ∷ k) (one x.OpenBracket ∷ ts)
      indexed (m1, ho, (m2, ht, (m3, (es, (m4, hm, hc)), (m5, (s, (m, hs, c)), rest)))) =
          let e = whole ts m1 m2 ho ht in
          (m5, (selector_then (expr.Index line (expression_then e.0 es)) s, (m, (m3, (refl, (ts, (one x.OpenBracket, refl, refl), (m4, (m2, e.1, hm), hc))), hs), c)), rest)
  on-selector f x.Caret k other b go h = targeted (later (selecting f ∷ k) h)
    where
      targeted : GivesAll (selecting f ∷ k) ts → GivesAll (selecting f ∷ k) (one x.Caret ∷ ts)
      targeted (m2, (s, (m, hs, c)), rest) = (m2, (selector_then (expr.Target line) s, (m, (ts, (refl, (one x.Caret, refl, refl)), hs), c)), rest)
  on-selector f _ k other b go h = go h

  on-close : (u : Terminal) (k : State) → Goes (on_close u k) false → GivesAll (close_next ∷ k) (one u ∷ ts)
  on-close x.Close k h = (ts, (one x.Close, refl, refl), later k h)
  on-close _ k h = not_here false (length ts) h

  -- an argument that begins with an expression, and more of them
  argued : (v : Lexeme) (k : State) → GivesAll (operand ∷ more_tails ∷ comma_or_close ∷ k) (v ∷ ts) → GivesAll (argument_next ∷ k) (v ∷ ts)
  argued v k (m1, ho, (m2, ht, (m3, more, rest))) =
      let e = whole (v ∷ ts) m1 m2 ho ht in
      (m3, (expr.Positional e.0, (m2, e.1, more)), rest)

  on-argument : (u : Terminal) (k : State) → Goes (on_argument u k) false → GivesAll (argument_next ∷ k) (one u ∷ ts)
  on-argument x.Word k h = let g = later (behind_argument ∷ k) h in (g.0, worded (one x.Word) ts g.0 refl g.1, g.2)
  on-argument u k h = argued (one u) k (on-operand u (more_tails ∷ comma_or_close ∷ k) false h)

  on-more : (u : Terminal) (k : State) → Goes (on_more u k) false → GivesAll (comma_or_close ∷ k) (one u ∷ ts)
  on-more x.Comma k h = next (later (argument_next ∷ k) h)
    where
      next : GivesAll (argument_next ∷ k) ts → GivesAll (comma_or_close ∷ k) (one x.Comma ∷ ts)
      next (m1, (a, (m2, ha, (xs, (m3, hm, hc)))), rest) = (m1, (argument_then a xs, (m3, (ts, (one x.Comma, refl, refl), (m2, ha, hm)), hc)), rest)
  on-more x.Close k h = (ts, (no_arguments, (one x.Close ∷ ts, refl, (one x.Close, refl, refl))), later k h)
  on-more _ k h = not_here false (length ts) h

  first : (v : Lexeme) (k : State) → GivesAll (argument_next ∷ k) (v ∷ ts) → GivesAll (first_argument ∷ k) (v ∷ ts)
  first v k (m1, (a, (m2, ha, (xs, (m3, hm, hc)))), rest) = (m1, (argument_then a xs, (m3, (m2, ha, hm), hc)), rest)

  on-first : (u : Terminal) (k : State) → Goes (on_first u k) false → GivesAll (first_argument ∷ k) (one u ∷ ts)
  on-first x.Close k h = (ts, (no_arguments, (one x.Close ∷ ts, refl, (one x.Close, refl, refl))), later k h)
  on-first u k h = first (one u) k (on-argument u k h)

  on-follow : (f : Follow) (u : Terminal) (k : State) → (Goes (advance k u) (accepts k) → GivesAll k (one u ∷ ts))
      → Goes (on_follow f u k (advance k u)) (accepts (selecting f ∷ k)) → GivesAll (selecting f ∷ k) (one u ∷ ts)
  on-follow calls u k go h = on-call u k (advance k u) (accepts k) go h
  on-follow reference_end u k go h = let g = on-close u k h in (g.0, (no_selectors, (one u ∷ ts, refl, g.1)), g.2)
  on-follow arguments_end u k go h = let g = on-more u k h in (g.0, (no_selectors, (one u ∷ ts, refl, g.1)), g.2)
  on-follow elsewhere u k go h = (one u ∷ ts, (no_selectors, (one u ∷ ts, refl, refl)), go h)

  selected : (v : Lexeme) (k : State) → GivesAll (selecting calls ∷ k) (v ∷ ts) → GivesAll (behind_name ∷ k) (v ∷ ts)
  selected v k (m, s, rest) = (m, inr s, rest)

  on-hash : (u : Terminal) (k : State) (other : Option State) (b : Bool)
      → (Goes other b → GivesAll (selecting calls ∷ k) (one u ∷ ts)) → Goes (on_hash u k other) b → GivesAll (behind_name ∷ k) (one u ∷ ts)
  on-hash x.Hash k other b go h = enumerated (later (name_next ∷ k) h)
    where
      enumerated : GivesAll (name_next ∷ k) ts → GivesAll (behind_name ∷ k) (one x.Hash ∷ ts)
      enumerated (m, (n, w), rest) = (m, inl (n, (ts, (one x.Hash, refl, refl), w)), rest)
  on-hash u k other b go h = selected (one u) k (go h)

  on-named : (u : Terminal) (k : State) (other : Option State) (b : Bool)
      → (Goes other b → GivesAll k (one u ∷ ts)) → Goes (on_named u k other) b → GivesAll (behind_name ∷ k) (one u ∷ ts)
  on-named u k other b go h =
      on-hash u k (on_selector u (selecting calls ∷ k) (on_call u k other)) b
      (λ h1. on-selector calls u k (on_call u k other) b (λ h2. on-call u k other b go h2) h1) h

  unnamed : (v : Lexeme) (k : State) → GivesAll (behind_name ∷ more_tails ∷ comma_or_close ∷ k) (v ∷ ts) → GivesAll (behind_argument ∷ k) (v ∷ ts)
  unnamed v k (m1, n, (m2, f, (m3, more, rest))) = (m3, inr (inr (m1, n, (m2, f, more))), rest)

  on-naming : (u : Terminal) (k : State) (other : Option State)
      → (Goes other false → GivesAll (behind_name ∷ more_tails ∷ comma_or_close ∷ k) (one u ∷ ts)) → Goes (on_naming u k other) false → GivesAll (behind_argument ∷ k) (one u ∷ ts)
  on-naming x.Assign k other go h = valued (later (operand ∷ more_tails ∷ comma_or_close ∷ k) h)
    where
      valued : GivesAll (operand ∷ more_tails ∷ comma_or_close ∷ k) ts → GivesAll (behind_argument ∷ k) (one x.Assign ∷ ts)
      valued (m1, ho, (m2, ht, (m3, more, rest))) = (m3, inl (ts, (one x.Assign, refl, refl), (m2, whole ts m1 m2 ho ht, more)), rest)
  on-naming x.Sends k other go h = sent (later (root_next ∷ selecting arguments_end ∷ k) h)
    where
      sent : GivesAll (root_next ∷ selecting arguments_end ∷ k) ts → GivesAll (behind_argument ∷ k) (one x.Sends ∷ ts)
      sent (m1, (r, hr), (m2, s, rest)) = (m2, inr (inl (ts, (one x.Sends, refl, refl), (r, (m1, hr, s)))), rest)
  on-naming u k other go h = unnamed (one u) k (go h)

  on-root : (u : Terminal) (k : State) → Goes (on_root u k) false → GivesAll (root_next ∷ k) (one u ∷ ts)
  on-root x.Word k h = (ts, (roots.Name line text, (refl, (one x.Word, (refl, refl), refl))), later k h)
  on-root x.This k h = (ts, (roots.This line, (refl, (one x.This, refl, refl))), later k h)
  on-root x.Super k h = (ts, (roots.Super line, (refl, (one x.Super, refl, refl))), later k h)
  on-root _ k h = not_here false (length ts) h

  on-name : (u : Terminal) (k : State) → Goes (on_name u k) false → GivesAll (name_next ∷ k) (one u ∷ ts)
  on-name x.Word k h = (ts, (text, (one x.Word, (refl, refl), refl)), later k h)
  on-name _ k h = not_here false (length ts) h

  on-reference : (u : Terminal) (k : State) → Goes (on_reference u k) false → GivesAll (behind_ref ∷ k) (one u ∷ ts)
  on-reference x.Open k h = opened (later (root_next ∷ selecting reference_end ∷ k) h)
    where
      opened : GivesAll (root_next ∷ selecting reference_end ∷ k) ts → GivesAll (behind_ref ∷ k) (one x.Open ∷ ts)
      opened (m1, (r, hr), (m2, s, rest)) = (m2, (ts, (one x.Open, refl, refl), (r, (m1, hr, s))), rest)
  on-reference _ k h = not_here false (length ts) h

  on-time : (e : Elem) (k : State) → Goes (on_time e k) false → GivesAll (behind_kind e ∷ k) (one x.Open ∷ ts)
  on-time kind.Time k h = let g = later (close_next ∷ k) h in (g.0, inr (refl, (ts, (one x.Open, refl, refl), g.1)), g.2)
  on-time _ k h = not_here false (length ts) h

  on-kind : (u : Terminal) (e : Elem) (k : State) → Goes (on_kind u e k) false → GivesAll (behind_kind e ∷ k) (one u ∷ ts)
  on-kind x.Hash e k h = let g = later (literal_next ∷ k) h in (g.0, inl (g.1.0, (ts, (one x.Hash, refl, refl), g.1.1)), g.2)
  on-kind x.Open e k h = on-time e k h
  on-kind _ e k h = not_here false (length ts) h

  on-literal : (u : Terminal) (k : State) → Goes (on_literal u k) false → GivesAll (literal_next ∷ k) (one u ∷ ts)
  on-literal x.Int k h = (ts, (literals.Int text, (one x.Int, (refl, refl), refl)), later k h)
  on-literal x.Minus k h = let g = later (digits_next ∷ k) h in (g.0, (literals.Negative g.1.0, (ts, (one x.Minus, refl, refl), g.1.1)), g.2)
  on-literal x.True k h = (ts, (literals.True, (one x.True, refl, refl)), later k h)
  on-literal x.False k h = (ts, (literals.False, (one x.False, refl, refl)), later k h)
  on-literal _ k h = not_here false (length ts) h

  on-digits : (u : Terminal) (k : State) → Goes (on_digits u k) false → GivesAll (digits_next ∷ k) (one u ∷ ts)
  on-digits x.Int k h = (ts, (text, (one x.Int, (refl, refl), refl)), later k h)
  on-digits _ k h = not_here false (length ts) h

  on-index : (u : Terminal) (k : State) → Goes (on_index u k) false → GivesAll (comma_or_bracket ∷ k) (one u ∷ ts)
  on-index x.Comma k h = next (later (operand ∷ more_tails ∷ comma_or_bracket ∷ k) h)
    where
      next : GivesAll (operand ∷ more_tails ∷ comma_or_bracket ∷ k) ts → GivesAll (comma_or_bracket ∷ k) (one x.Comma ∷ ts)
      next (m1, ho, (m2, ht, (m3, (es, (m4, hm, hc)), rest))) =
          let e = whole ts m1 m2 ho ht in
          (m3, (expression_then e.0 es, (m4, (ts, (one x.Comma, refl, refl), (m2, e.1, hm)), hc)), rest)
  on-index x.CloseBracket k h = (ts, (no_expressions, (one x.CloseBracket ∷ ts, refl, (one x.CloseBracket, refl, refl))), later k h)
  on-index _ k h = not_here false (length ts) h

  on-token : (u : Terminal) (k : State) → Goes (advance k u) (accepts k) → GivesAll k (one u ∷ ts)
  on-token u [] h = not_here true (length ts) h
  on-token u (operand ∷ k) h = on-operand u k false h
  on-token u (more_tails ∷ k) h = on-tail u k (advance k u) (accepts k) (operator_of u) refl (on-token u k) h
  on-token u (selecting f ∷ k) h = on-selector f u k (on_follow f u k (advance k u)) (accepts (selecting f ∷ k)) (on-follow f u k (on-token u k)) h
  on-token u (behind_name ∷ k) h = on-named u k (advance k u) (accepts k) (on-token u k) h
  on-token u (root_next ∷ k) h = on-root u k h
  on-token u (name_next ∷ k) h = on-name u k h
  on-token u (close_next ∷ k) h = on-close u k h
  on-token u (behind_ref ∷ k) h = on-reference u k h
  on-token u (behind_kind e ∷ k) h = on-kind u e k h
  on-token u (literal_next ∷ k) h = on-literal u k h
  on-token u (digits_next ∷ k) h = on-digits u k h
  on-token u (comma_or_bracket ∷ k) h = on-index u k h
  on-token u (first_argument ∷ k) h = on-first u k h
  on-token u (argument_next ∷ k) h = on-argument u k h
  on-token u (behind_argument ∷ k) h =
      on-naming u k (on_named u (more_tails ∷ comma_or_close ∷ k) (on_tail (operator_of u) (comma_or_close ∷ k) (on_more u k)))
      (λ h1. on-named u (more_tails ∷ comma_or_close ∷ k) (on_tail (operator_of u) (comma_or_close ∷ k) (on_more u k)) false
      (λ h2. on-tail u (comma_or_close ∷ k) (on_more u k) false (operator_of u) refl (on-more u k) h2) h1) h
  on-token u (comma_or_close ∷ k) h = on-more u k h

pub spelled_all : (ts : List Lexeme) (k : State) → Accepted (machine k ts) → GivesAll k ts
spelled_all [] k h = at_end k (ap (λ p. p.0) h)
spelled_all (t ∷ ts) k h = on-token t.text t.line t.marks ts (spelled_all ts) t.terminal k h

pub derived : (ts : List Lexeme) → machine start ts ≡ (true, 0) → (e : Expression ℕ) × Spells ts e
derived ts h = at (spelled_all ts start h)
  where
    at : GivesAll start ts → (e : Expression ℕ) × Spells ts e
    at (m1, ho, (m2, ht, end)) = let e = whole ts m1 m2 ho ht in (e.0, rw (← end) e.1)
