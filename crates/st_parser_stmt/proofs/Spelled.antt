-- What the machine accepts, the grammar spells.
use Rattle.std.proofs.Common.{◌≡◌, ℕ, suc, ◌⊎◌, inl, inr, Bool, true, false, ◌&&◌, List, [], ◌∷◌, ◌++◌, Option, Some, None, length, refl, sym, ap, subst, arith}
use Rattle.st_tree.specs.declared.terminal.Terminal.{Terminal}
use Rattle.st_tree.specs.declared.terminal.Terminal.TheVariants as x
use Rattle.st_tree.specs.declared.marks.Marks.{Marks}
use Rattle.st_tree.specs.declared.expression.Literal.{Literal}
use Rattle.st_tree.specs.declared.expression.Root.{Root}
use Rattle.st_tree.specs.declared.expression.Root.TheVariants as roots
use Rattle.st_tree.specs.declared.statement.Label.{Label}
use Rattle.st_tree.specs.declared.statement.LabelEnd.{LabelEnd}
use Rattle.st_tree.specs.declared.statement.LabelEnd.TheVariants as labels
use Rattle.st_tree.specs.Expression as expr
use Rattle.st_tree.specs.Expression.{Expression, Selectors, selector_then, Arguments}
use Rattle.st_tree.specs.Statement as stmt
use Rattle.st_tree.specs.Statement.{Statement, Statements, no_statements, statement_then, Branches, no_branches, branch_then, Cases, no_cases, case_then, Otherwise}
use Rattle.st_tree.specs.Initial as init
use Rattle.st_tree.specs.Initial.{Initial, Part, Parts, no_parts, part_then, FieldInits, no_fields, field_then}
use Rattle.st_tree.specs.Grammar.{initial, first_part, more_parts, part, first_field, more_fields}
use Rattle.st_tree.specs.Grammar as g
use Rattle.st_tree.specs.Grammar.{Lexeme, Phrase, ◌⋆◌, sign, spelled, word, at, At, root, selectors, arguments, expression, literal, label_end, range_end, label, more_labels, step_by, statement, more_branches, otherwise, cases}
use Rattle.st_parser_expr.specs.Private.Machine as e
use Rattle.st_parser_expr.proofs.Spelled as p
use Rattle.st_parser_expr.proofs.Fronts as f
use Rattle.st_parser_expr.proofs.Fronts.{front, both_fronts}
use Rattle.st_parser_stmt.specs.Private.Numbers.{same_terminal}
use Rattle.st_parser_stmt.specs.Private.Machine.{Ender, branches_end, until, Quiet, IsNoStatement, Want, inside, need, word_next, place_state, body, statement_next, behind_place, by_or_do, branch_next, otherwise_next, first_case, case_body, case_word, case_dot, case_field, const_next, const_tail, behind_label, label_more, init_next, init_open, init_word, fields_more, part_next, part_int, parts_more, behind_paren, behind_paren_word, behind_int, on_init, on_init_open, on_init_word, on_fields, on_part, on_part_int, on_parts, State, on_need, on_inside, on_statement, on_otherwise, on_branch, on_ender, on_placed, on_step, on_case_end, on_const, on_const_word, on_const_tail, on_label_more, on_behind_label, on_case_dot, on_case_body, on_place, advance, accepts, go_on, machine}
use Rattle.st_parser_stmt.proofs.NumberLaws.{same-is}
use Rattle.st_parser_stmt.proofs.Fronts.{move}

-- ---- what gives one thing that is wanted

abbrev pub Placed : Phrase
Placed ts rest =
    ((v : Expression ℕ) × (sign x.Assign ⋆ expression v 0 ⋆ sign x.Semicolon) ts rest)
    ⊎ (((v : Expression ℕ) × (sign x.Attempt ⋆ expression v 0 ⋆ sign x.Semicolon) ts rest)
    ⊎ ((xs : Arguments ℕ) × (sign x.Open ⋆ arguments xs ⋆ sign x.Close ⋆ sign x.Semicolon) ts rest))

abbrev pub Branched : Phrase
Branched ts rest = (bs : Branches ℕ) × (o : Otherwise ℕ) × ((more_branches bs ⋆ otherwise o ⋆ sign x.EndIf) ts rest)

abbrev pub Closing : Terminal → Phrase
Closing s ts rest = (o : Otherwise ℕ) × ((otherwise o ⋆ sign s) ts rest)

abbrev pub Chosen : Phrase
Chosen ts rest = (cs : Cases ℕ) × ((cases cs ⋆ Closing x.EndCase) ts rest)

abbrev pub Bodied : Phrase → Phrase
Bodied P ts rest = (ss : Statements ℕ) × ((g.body ss ⋆ P) ts rest)

abbrev pub Labelled : Phrase
Labelled ts rest = (ls : List (Label ℕ)) × ((more_labels ls ⋆ sign x.Colon ⋆ Bodied Chosen) ts rest)

abbrev pub Ranged : Phrase
Ranged ts rest = (o : Option (LabelEnd ℕ)) × ((range_end o ⋆ Labelled) ts rest)

abbrev pub Named : Phrase
Named ts rest = (n : List ℕ) × (line : ℕ) × (at line (word n) ts rest)

-- behind the name that a label begins with
abbrev pub Tail : Phrase
Tail ts rest = (ts ≡ rest) ⊎ ((sign x.Hash ⋆ Named) ts rest ⊎ (sign x.Dot ⋆ Named) ts rest)

-- behind the name that a statement begins with
abbrev pub Stated : Phrase
Stated ts rest = (s : Selectors ℕ) × ((selectors s ⋆ Placed ⋆ Bodied Chosen) ts rest)

abbrev pub Stepped : Phrase
Stepped ts rest = (by : Option (Expression ℕ)) × ((step_by by ⋆ sign x.Do ⋆ Bodied (sign x.EndFor)) ts rest)

abbrev pub EndedBy : Ender → Phrase
EndedBy branches_end ts rest = Branched ts rest
EndedBy (until s free q) ts rest = sign s ts rest

-- a front that the machine of expressions accepts
abbrev pub Within : e.State → Phrase
Within k ts rest = (a : List Lexeme) × (ts ≡ a ++ rest) × (e.machine k a ≡ (true, 0))

abbrev pub Gives : Want → Phrase
Gives (inside k) ts rest = Within k ts rest
Gives (need s q) ts rest = sign s ts rest
Gives (body b) ts rest = Bodied (EndedBy b) ts rest
Gives statement_next ts rest = (s : Statement ℕ) × statement s ts rest
Gives behind_place ts rest = Placed ts rest
Gives by_or_do ts rest = Stepped ts rest
Gives branch_next ts rest = Branched ts rest
Gives (otherwise_next s free q) ts rest = Closing s ts rest
Gives first_case ts rest = Chosen ts rest
Gives case_body ts rest = Bodied Chosen ts rest
Gives case_word ts rest = (Tail ⋆ Ranged) ts rest ⊎ Stated ts rest
Gives case_dot ts rest = (Named ⋆ Ranged) ts rest ⊎ (Named ⋆ Stated) ts rest
Gives case_field ts rest = Ranged ts rest ⊎ Stated ts rest
Gives const_next ts rest = (c : LabelEnd ℕ) × label_end c ts rest
Gives const_tail ts rest = Tail ts rest
Gives behind_label ts rest = Ranged ts rest
Gives label_more ts rest = Labelled ts rest
Gives init_next ts rest = (i : Initial ℕ) × initial i ts rest
Gives init_open ts rest = ((fs : FieldInits ℕ) × ((first_field fs ⋆ sign x.Close) ts rest)) ⊎ Within behind_paren ts rest
Gives init_word ts rest = ((i : Initial ℕ) × (fs : FieldInits ℕ) × ((sign x.Assign ⋆ initial i ⋆ more_fields fs ⋆ sign x.Close) ts rest)) ⊎ Within behind_paren_word ts rest
Gives fields_more ts rest = (fs : FieldInits ℕ) × ((more_fields fs ⋆ sign x.Close) ts rest)
Gives part_next ts rest = (p : Part ℕ) × part p ts rest
Gives part_int ts rest = ((i : Initial ℕ) × ((sign x.Open ⋆ initial i ⋆ sign x.Close) ts rest)) ⊎ Within behind_int ts rest
Gives parts_more ts rest = (ps : Parts ℕ) × ((more_parts ps ⋆ sign x.CloseBracket) ts rest)

abbrev pub GivesAll : State → List Lexeme → Type 0
GivesAll [] ts = ts ≡ []
GivesAll (w ∷ K) ts = (m : List Lexeme) × Gives w ts m × GivesAll K m

-- ---- what the machine of expressions accepts

pub given_expression : (ts rest : List Lexeme) → Within e.start ts rest → (v : Expression ℕ) × expression v 0 ts rest
given_expression ts rest (a, w, h) =
    let d = p.derived a h in
    (d.0, subst (λ u. expression d.0 0 u rest) (sym w) (move (expression d.0 0) (front _ (f.of_expression d.0 0)) a rest d.1))

given_selectors : (ts rest : List Lexeme) → Within place_state ts rest → (s : Selectors ℕ) × selectors s ts rest
given_selectors ts rest (a, w, h) = at (p.spelled_all a place_state h)
  where
    at : p.GivesAll place_state a → (s : Selectors ℕ) × selectors s ts rest
    at (m, (s, (m', hs, same)), end) =
        let whole : selectors s a [] = rw (same, end) at hs in
        (s, subst (λ u. selectors s u rest) (sym w) (move (selectors s) (f.of_selectors s) a rest whole))

given_arguments : (ts rest : List Lexeme) → Within (e.first_argument ∷ []) ts rest → (xs : Arguments ℕ) × ((arguments xs ⋆ sign x.Close) ts rest)
given_arguments ts rest (a, w, h) = at (p.spelled_all a (e.first_argument ∷ []) h)
  where
    at : p.GivesAll (e.first_argument ∷ []) a → (xs : Arguments ℕ) × ((arguments xs ⋆ sign x.Close) ts rest)
    at (m, (xs, ha), end) =
        let whole = subst (λ u. (arguments xs ⋆ sign x.Close) a u) end ha in
        (xs, subst (λ u. (arguments xs ⋆ sign x.Close) u rest) (sym w) (move (arguments xs ⋆ sign x.Close) (both_fronts _ _ (f.of_arguments xs) (front _ (f.of_sign x.Close))) a rest whole))

given_literal : (ts rest : List Lexeme) → Within (e.literal_next ∷ []) ts rest → (v : Literal) × literal v ts rest
given_literal ts rest (a, w, h) = at (p.spelled_all a (e.literal_next ∷ []) h)
  where
    at : p.GivesAll (e.literal_next ∷ []) a → (v : Literal) × literal v ts rest
    at (m, (v, hv), end) =
        let whole = subst (λ u. literal v a u) end hv in
        (v, subst (λ u. literal v u rest) (sym w) (move (literal v) (front _ (f.of_literal v)) a rest whole))

-- a word with its text and its line
named : (ts rest : List Lexeme) → sign x.Word ts rest → Named ts rest
named ts rest (t, is, w) = (t.text, t.line, (rw w refl, (t, (is, refl), w)))

-- ---- the end

abbrev Accepted : e.Ending → Type 0
Accepted v = v ≡ (true, 0)

at_end : (K : State) → accepts K ≡ true → GivesAll K []
at_end [] h = refl
at_end (inside k ∷ K) h = both (λ h'. at_end K h') (e.accepts k) refl h
  where
    both : (accepts K ≡ true → GivesAll K []) → (b : Bool) → e.accepts k ≡ b → b && accepts K ≡ true → GivesAll (inside k ∷ K) []
    both go true is h = ([], ([], refl, ap (λ v. (v, 0)) is), go h)
    both go false is h = cc
at_end (need s q ∷ K) h = cc
at_end (body b ∷ K) h = cc
at_end (statement_next ∷ K) h = cc
at_end (behind_place ∷ K) h = cc
at_end (by_or_do ∷ K) h = cc
at_end (branch_next ∷ K) h = cc
at_end (otherwise_next s free q ∷ K) h = cc
at_end (first_case ∷ K) h = cc
at_end (case_body ∷ K) h = cc
at_end (case_word ∷ K) h = cc
at_end (case_dot ∷ K) h = cc
at_end (case_field ∷ K) h = cc
at_end (const_next ∷ K) h = cc
at_end (const_tail ∷ K) h = ([], inl refl, at_end K h)
at_end (behind_label ∷ K) h = cc
at_end (label_more ∷ K) h = cc
at_end (init_next ∷ K) h = cc
at_end (init_open ∷ K) h = cc
at_end (init_word ∷ K) h = cc
at_end (fields_more ∷ K) h = cc
at_end (part_next ∷ K) h = cc
at_end (part_int ∷ K) h = ([], inr ([], refl, refl), at_end K h)
at_end (parts_more ∷ K) h = cc

not_here : {A : Type 0} (b : Bool) (n : ℕ) → Accepted (b, suc n) → A
not_here b n h = absurd (let z : suc n ≡ 0 = ap (λ p. p.1) h in omega arith)

-- ---- what stands behind a name, with the name

-- a statement that begins with a place, whose root is read
placed : (t : Lexeme) (r : Root ℕ) (ts m rest : List Lexeme) (s : Selectors ℕ) → root r (t ∷ ts) ts → selectors s ts m → Placed m rest → (v : Statement ℕ) × statement v (t ∷ ts) rest
placed t r ts m rest s hr hs (inl (v, h)) = (stmt.Assign t.line t.line r s v, (refl, (m, (refl, (ts, hr, hs)), h)))
placed t r ts m rest s hr hs (inr (inl (v, h))) = (stmt.Attempt t.line t.line r s v, (refl, (m, (refl, (ts, hr, hs)), h)))
placed t r ts m rest s hr hs (inr (inr (xs, h))) = (stmt.Call t.line t.line r s xs, (refl, (m, (refl, (ts, hr, hs)), h)))

-- a label that begins with a name
tailed : (t : Lexeme) (ts rest : List Lexeme) → t.terminal ≡ x.Word → Tail ts rest → (c : LabelEnd ℕ) × label_end c (t ∷ ts) rest
tailed t ts rest is (inl w) = (labels.Name t.line t.text, (refl, (t, (is, refl), ap (λ u. t ∷ u) w)))
tailed t ts rest is (inr (inl (m, h, (n, line, w)))) = (labels.Enumerator t.line t.text line n, (refl, (ts, (t, (is, refl), refl), (m, h, w))))
tailed t ts rest is (inr (inr (m, h, (n, line, w)))) = (labels.Field t.line t.text line n, (refl, (ts, (t, (is, refl), refl), (m, h, w))))

-- a label, what stands behind it, and the rest of the CASE
labelled : (c : LabelEnd ℕ) (ts m rest : List Lexeme) → label_end c ts m → Ranged m rest → Chosen ts rest
labelled c ts m rest hc (o, (m2, ho, (ls, (m3, hl, (m4, colon, (ss, (m5, hs, (cs, (m6, hcs, more))))))))) =
    (case_then (record { first = c; last = o } ∷ ls) ss cs, (m6, (m3, (m2, (m, hc, ho), hl), (m4, colon, (m5, hs, hcs))), more))

-- one more statement before the rest of the CASE
stated : (s : Statement ℕ) (ts m rest : List Lexeme) → statement s ts m → Bodied Chosen m rest → Bodied Chosen ts rest
stated s ts m rest h (ss, (m2, hs, more)) = (statement_then s ss, (m2, (m, h, hs), more))

unstated : (ts rest : List Lexeme) → Chosen ts rest → Bodied Chosen ts rest
unstated ts rest h = (no_statements, (ts, refl, h))

worded : (t : Lexeme) (ts rest : List Lexeme) → t.terminal ≡ x.Word → Gives case_word ts rest → Gives case_body (t ∷ ts) rest
worded t ts rest is (inl (m, h, more)) =
    let c = tailed t ts m is h in
    unstated (t ∷ ts) rest (labelled c.0 (t ∷ ts) m rest c.1 more)
worded t ts rest is (inr (s, (m, hs, (m2, hp, more)))) =
    let v = placed t (roots.Name t.line t.text) ts m m2 s (refl, (t, (is, refl), refl)) hs hp in
    stated v.0 (t ∷ ts) m2 rest v.1 more

-- a token with the terminal u stands before ts, of which all is known already
module _ (text : List ℕ) (line : ℕ) (marks : Marks) (ts : List Lexeme) (later : (K : State) → Accepted (machine K ts) → GivesAll K ts) where
  abbrev one : Terminal → Lexeme
  one u = record { terminal = u; text = text; line = line; marks = marks }

  abbrev Goes : Option State → Bool → Type 0
  Goes o b = Accepted (go_on o (λ K'. machine K' ts) (b, suc (length ts)))

  sign_one : (s u : Terminal) → s ≡ u → sign s (one u ∷ ts) ts
  sign_one s u same = (one u, sym same, refl)

  on-need : (s u : Terminal) (q : Quiet s) (K : State) → Goes (on_need (same_terminal s u) K) false → GivesAll (need s q ∷ K) (one u ∷ ts)
  on-need s u q K h = at (same_terminal s u) refl h
    where
      at : (b : Bool) → same_terminal s u ≡ b → Goes (on_need b K) false → GivesAll (need s q ∷ K) (one u ∷ ts)
      at true is h = (ts, sign_one s u (same-is s u is), later K h)
      at false is h = not_here false (length ts) h

  on-inside : (u : Terminal) (k : e.State) (K : State) (other : Option State) (c : Bool) (o : Option e.State) (b : Bool) → e.advance k u ≡ o → e.accepts k ≡ b
      → (Goes other c → GivesAll K (one u ∷ ts)) → Goes (on_inside o b K other) (b && c) → GivesAll (inside k ∷ K) (one u ∷ ts)
  on-inside u k K other c (Some k') b is ok go h = longer (later (inside k' ∷ K) h)
    where
      longer : GivesAll (inside k' ∷ K) ts → GivesAll (inside k ∷ K) (one u ∷ ts)
      longer (m, (a, w, run), rest) = (m, (one u ∷ a, ap (λ v. one u ∷ v) w, rw is run), rest)
  on-inside u k K other c None true is ok go h = (one u ∷ ts, ([], refl, ap (λ v. (v, 0)) ok), go h)
  on-inside u k K other c None false is ok go h = not_here false (length ts) h

  -- a value and what ends the statement
  valued : (s : Terminal) (K : State) → Goes (Some (inside e.start ∷ need x.Semicolon (refl, tt) ∷ K)) false
      → (rest : List Lexeme) × ((v : Expression ℕ) × ((sign s ⋆ expression v 0 ⋆ sign x.Semicolon) (one s ∷ ts) rest)) × GivesAll K rest
  valued s K h = at (later (inside e.start ∷ need x.Semicolon (refl, tt) ∷ K) h)
    where
      at : GivesAll (inside e.start ∷ need x.Semicolon (refl, tt) ∷ K) ts → (rest : List Lexeme) × ((v : Expression ℕ) × ((sign s ⋆ expression v 0 ⋆ sign x.Semicolon) (one s ∷ ts) rest)) × GivesAll K rest
      at (m, hv, (m2, c, more)) = let v = given_expression ts m hv in (m2, (v.0, (ts, sign_one s s refl, (m, v.1, c))), more)

  on-placed : (u : Terminal) (K : State) → Goes (on_placed u K) false → GivesAll (behind_place ∷ K) (one u ∷ ts)
  on-placed x.Assign K h = let v = valued x.Assign K h in (v.0, inl v.1, v.2)
  on-placed x.Attempt K h = let v = valued x.Attempt K h in (v.0, inr (inl v.1), v.2)
  on-placed x.Open K h = at (later (inside (e.first_argument ∷ []) ∷ need x.Semicolon (refl, tt) ∷ K) h)
    where
      at : GivesAll (inside (e.first_argument ∷ []) ∷ need x.Semicolon (refl, tt) ∷ K) ts → GivesAll (behind_place ∷ K) (one x.Open ∷ ts)
      at (m, ha, (m2, c, more)) = let xs = given_arguments ts m ha in (m2, inr (inr (xs.0, (ts, sign_one x.Open x.Open refl, (xs.1.0, xs.1.1, (m, xs.1.2, c))))), more)
  on-placed _ K h = not_here false (length ts) h

  on-otherwise : (s : Terminal) (free : IsNoStatement s) (q : Quiet s) (u : Terminal) (K : State) → Goes (on_otherwise s free q u K) false → GivesAll (otherwise_next s free q ∷ K) (one u ∷ ts)
  on-otherwise s free q x.Else K h = at (later (body (until s free q) ∷ K) h)
    where
      at : GivesAll (body (until s free q) ∷ K) ts → GivesAll (otherwise_next s free q ∷ K) (one x.Else ∷ ts)
      at (m, (ss, (m2, hs, c)), more) = (m, (stmt.Else ss, (m2, (ts, sign_one x.Else x.Else refl, hs), c)), more)
  on-otherwise s free q u K h =
      let n = on-need s u q K h in
      (n.0, (stmt.Nothing, (one u ∷ ts, refl, n.1)), n.2)

  on-branch : (u : Terminal) (K : State) → Goes (on_branch u K) false → GivesAll (branch_next ∷ K) (one u ∷ ts)
  on-branch x.Elsif K h = at (later (inside e.start ∷ need x.Then (refl, tt) ∷ body branches_end ∷ K) h)
    where
      at : GivesAll (inside e.start ∷ need x.Then (refl, tt) ∷ body branches_end ∷ K) ts → GivesAll (branch_next ∷ K) (one x.Elsif ∷ ts)
      at (m, hv, (m2, c, (m3, (ss, (m4, hs, (bs, o, (m5, hb, ho)))), more))) =
          let v = given_expression ts m hv in
          (m3, (branch_then v.0 ss bs, o, (m5, (ts, sign_one x.Elsif x.Elsif refl, (m, v.1, (m2, c, (m4, hs, hb)))), ho)), more)
  on-branch u K h =
      let n = on-otherwise x.EndIf tt (refl, tt) u K h in
      (n.0, (no_branches, n.1.0, (one u ∷ ts, refl, n.1.1)), n.2)

  on-step : (u : Terminal) (K : State) → Goes (on_step u K) false → GivesAll (by_or_do ∷ K) (one u ∷ ts)
  on-step x.By K h = at (later (inside e.start ∷ need x.Do (refl, tt) ∷ body (until x.EndFor tt (refl, tt)) ∷ K) h)
    where
      at : GivesAll (inside e.start ∷ need x.Do (refl, tt) ∷ body (until x.EndFor tt (refl, tt)) ∷ K) ts → GivesAll (by_or_do ∷ K) (one x.By ∷ ts)
      at (m, hv, (m2, d, (m3, hs, more))) = let v = given_expression ts m hv in (m3, (Some v.0, (m, (ts, sign_one x.By x.By refl, v.1), (m2, d, hs))), more)
  on-step x.Do K h = let n = later (body (until x.EndFor tt (refl, tt)) ∷ K) h in (n.0, (None, (one x.Do ∷ ts, refl, (ts, sign_one x.Do x.Do refl, n.1))), n.2)
  on-step _ K h = not_here false (length ts) h

  -- ---- statements

  abbrev One : Terminal → State → Type 0
  One u K = (rest : List Lexeme) × ((s : Statement ℕ) × statement s (one u ∷ ts) rest) × GivesAll K rest

  rooted : (u : Terminal) (r : Root ℕ) (K : State) → root r (one u ∷ ts) ts → GivesAll (inside place_state ∷ behind_place ∷ K) ts → One u K
  rooted u r K hr (m, hs, (m2, hp, more)) =
      let s = given_selectors ts m hs in
      (m2, placed (one u) r ts m m2 s.0 hr s.1 hp, more)

  short : (u : Terminal) (K : State) (make : ℕ → Statement ℕ) → ((rest : List Lexeme) → (sign u ⋆ sign x.Semicolon) (one u ∷ ts) rest → statement (make line) (one u ∷ ts) rest)
      → GivesAll (need x.Semicolon (refl, tt) ∷ K) ts → One u K
  short u K make is (m, c, more) = (m, (make line, is m (ts, sign_one u u refl, c)), more)

  -- what comes of a terminal with which a statement begins, and of the others
  on-statement : (u : Terminal) (K : State) (other : Option State) (b : Bool) {A : Type 0} → (One u K → A) → (Goes other b → A) → Goes (on_statement u K other) b → A
  on-statement x.Semicolon K other b give go h = give (ts, (stmt.Empty line, (refl, sign_one x.Semicolon x.Semicolon refl)), later K h)
  on-statement x.Word K other b give go h = give (rooted x.Word (roots.Name line text) K (refl, (one x.Word, (refl, refl), refl)) (later (inside place_state ∷ behind_place ∷ K) h))
  on-statement x.This K other b give go h = give (rooted x.This (roots.This line) K (refl, (one x.This, refl, refl)) (later (inside place_state ∷ behind_place ∷ K) h))
  on-statement x.Super K other b give go h = give (rooted x.Super (roots.Super line) K (refl, (one x.Super, refl, refl)) (later (inside place_state ∷ behind_place ∷ K) h))
  on-statement x.Exit K other b give go h = give (short x.Exit K stmt.Exit (λ rest w. (refl, w)) (later (need x.Semicolon (refl, tt) ∷ K) h))
  on-statement x.Continue K other b give go h = give (short x.Continue K stmt.Continue (λ rest w. (refl, w)) (later (need x.Semicolon (refl, tt) ∷ K) h))
  on-statement x.Return K other b give go h = give (short x.Return K stmt.Return (λ rest w. (refl, w)) (later (need x.Semicolon (refl, tt) ∷ K) h))
  on-statement x.If K other b give go h = give (at (later (inside e.start ∷ need x.Then (refl, tt) ∷ body branches_end ∷ K) h))
    where
      at : GivesAll (inside e.start ∷ need x.Then (refl, tt) ∷ body branches_end ∷ K) ts → One x.If K
      at (m, hv, (m2, c, (m3, (ss, (m4, hs, (bs, o, (m5, hb, ho)))), more))) =
          let v = given_expression ts m hv in
          (m3, (stmt.If line (branch_then v.0 ss bs) o, (refl, (ts, sign_one x.If x.If refl, (m5, (m, v.1, (m2, c, (m4, hs, hb))), ho)))), more)
  on-statement x.Case K other b give go h = give (at (later (inside e.start ∷ need x.Of (refl, tt) ∷ first_case ∷ K) h))
    where
      at : GivesAll (inside e.start ∷ need x.Of (refl, tt) ∷ first_case ∷ K) ts → One x.Case K
      at (m, hv, (m2, c, (m3, (cs, (m4, hc, (o, ho))), more))) =
          let v = given_expression ts m hv in
          (m3, (stmt.Case line v.0 cs o, (refl, (ts, sign_one x.Case x.Case refl, (m, v.1, (m2, c, (m4, hc, ho)))))), more)
  on-statement x.For K other b give go h = give (at (later (word_next ∷ need x.Assign (refl, tt) ∷ inside e.start ∷ need x.To (refl, tt) ∷ inside e.start ∷ by_or_do ∷ K) h))
    where
      at : GivesAll (word_next ∷ need x.Assign (refl, tt) ∷ inside e.start ∷ need x.To (refl, tt) ∷ inside e.start ∷ by_or_do ∷ K) ts → One x.For K
      at (m, hn, (m2, w, (m3, hf, (m4, u, (m5, ht, (m6, (by, (m7, hb, (m8, d, (ss, (m9, hs, c))))), more)))))) =
          let n = named ts m hn in
          let from = given_expression m2 m3 hf in
          let to = given_expression m4 m5 ht in
          (m6, (stmt.For line n.1 n.0 from.0 to.0 by ss, (refl, (ts, sign_one x.For x.For refl, (m, n.2, (m2, w, (m3, from.1, (m4, u, (m5, to.1, (m7, hb, (m8, d, (m9, hs, c))))))))))), more)
  on-statement x.While K other b give go h = give (at (later (inside e.start ∷ need x.Do (refl, tt) ∷ body (until x.EndWhile tt (refl, tt)) ∷ K) h))
    where
      at : GivesAll (inside e.start ∷ need x.Do (refl, tt) ∷ body (until x.EndWhile tt (refl, tt)) ∷ K) ts → One x.While K
      at (m, hv, (m2, d, (m3, (ss, (m4, hs, c)), more))) =
          let v = given_expression ts m hv in
          (m3, (stmt.While line v.0 ss, (refl, (ts, sign_one x.While x.While refl, (m, v.1, (m2, d, (m4, hs, c)))))), more)
  on-statement x.Repeat K other b give go h = give (at (later (body (until x.Until tt (refl, tt)) ∷ inside e.start ∷ need x.EndRepeat (refl, tt) ∷ K) h))
    where
      at : GivesAll (body (until x.Until tt (refl, tt)) ∷ inside e.start ∷ need x.EndRepeat (refl, tt) ∷ K) ts → One x.Repeat K
      at (m, (ss, (m2, hs, u)), (m3, hv, (m4, c, more))) =
          let v = given_expression m m3 hv in
          (m4, (stmt.Repeat line ss v.0, (refl, (ts, sign_one x.Repeat x.Repeat refl, (m2, hs, (m, u, (m3, v.1, c)))))), more)
  on-statement _ K other b give go h = go h

  on-ender : (b : Ender) (u : Terminal) (K : State) → Goes (on_ender b u K) false → GivesAll (body b ∷ K) (one u ∷ ts)
  on-ender branches_end u K h = let n = on-branch u K h in (n.0, (no_statements, (one u ∷ ts, refl, n.1)), n.2)
  on-ender (until s free q) u K h = let n = on-need s u q K h in (n.0, (no_statements, (one u ∷ ts, refl, n.1)), n.2)

  on-body : (b : Ender) (u : Terminal) (K : State) → Goes (on_statement u (body b ∷ K) (on_ender b u K)) false → GivesAll (body b ∷ K) (one u ∷ ts)
  on-body b u K h = on-statement u (body b ∷ K) (on_ender b u K) false more (on-ender b u K) h
    where
      more : One u (body b ∷ K) → GivesAll (body b ∷ K) (one u ∷ ts)
      more (m, (s, hs), (m2, (ss, (m3, hss, c)), rest)) = (m2, (statement_then s ss, (m3, (m, hs, hss), c)), rest)

  -- ---- labels

  on-label_more : (u : Terminal) (K : State) (other : Option State) {A : Type 0} → (GivesAll (label_more ∷ K) (one u ∷ ts) → A) → (Goes other false → A) → Goes (on_label_more u K other) false → A
  on-label_more x.Comma K other give go h = give (at (later (const_next ∷ behind_label ∷ K) h))
    where
      at : GivesAll (const_next ∷ behind_label ∷ K) ts → GivesAll (label_more ∷ K) (one x.Comma ∷ ts)
      at (m, (c, hc), (m2, (o, (m3, ho, (ls, (m4, hl, more)))), rest)) =
          (m2, (record { first = c; last = o } ∷ ls, (m4, (ts, sign_one x.Comma x.Comma refl, (m3, (m, hc, ho), hl)), more)), rest)
  on-label_more x.Colon K other give go h = let n = later (case_body ∷ K) h in give (n.0, ([], (one x.Colon ∷ ts, refl, (ts, sign_one x.Colon x.Colon refl, n.1))), n.2)
  on-label_more _ K other give go h = go h

  on-behind_label : (u : Terminal) (K : State) (other : Option State) {A : Type 0} → (GivesAll (behind_label ∷ K) (one u ∷ ts) → A) → (Goes other false → A) → Goes (on_behind_label u K other) false → A
  on-behind_label x.Range K other give go h = give (at (later (const_next ∷ label_more ∷ K) h))
    where
      at : GivesAll (const_next ∷ label_more ∷ K) ts → GivesAll (behind_label ∷ K) (one x.Range ∷ ts)
      at (m, (c, hc), (m2, more, rest)) = (m2, (Some c, (m, (ts, sign_one x.Range x.Range refl, hc), more)), rest)
  on-behind_label u K other give go h = on-label_more u K other (λ n. give (n.0, (None, (one u ∷ ts, refl, n.1)), n.2)) go h

  on-const : (u : Terminal) (K : State) (other : Option State) (b : Bool) {A : Type 0} → (GivesAll (const_next ∷ K) (one u ∷ ts) → A) → (Goes other b → A) → Goes (on_const u K other) b → A
  on-const x.Int K other b give go h = give (ts, (labels.Int line text, (refl, (one x.Int, (refl, refl), refl))), later K h)
  on-const x.Minus K other b give go h = give (at (later (need x.Int (refl, tt) ∷ K) h))
    where
      at : GivesAll (need x.Int (refl, tt) ∷ K) ts → GivesAll (const_next ∷ K) (one x.Minus ∷ ts)
      at (m, (t, is, w), rest) = (m, (labels.Negative line t.text, (refl, (ts, sign_one x.Minus x.Minus refl, (t, (is, refl), w)))), rest)
  on-const (x.Kind k) K other b give go h = give (at (later (need x.Hash (refl, tt) ∷ inside (e.literal_next ∷ []) ∷ K) h))
    where
      at : GivesAll (need x.Hash (refl, tt) ∷ inside (e.literal_next ∷ []) ∷ K) ts → GivesAll (const_next ∷ K) (one (x.Kind k) ∷ ts)
      at (m, w, (m2, hv, rest)) = let v = given_literal m m2 hv in (m2, (labels.Typed line k v.0, (refl, (ts, sign_one (x.Kind k) (x.Kind k) refl, (m, w, v.1)))), rest)
  on-const _ K other b give go h = go h

  on-const_word : (u : Terminal) (K : State) (other : Option State) (b : Bool) {A : Type 0} → (GivesAll (const_next ∷ K) (one u ∷ ts) → A) → (Goes other b → A) → Goes (on_const_word u K other) b → A
  on-const_word x.Word K other b give go h = let n = later (const_tail ∷ K) h in give (n.0, tailed (one x.Word) ts n.0 refl n.1, n.2)
  on-const_word _ K other b give go h = go h

  on-const_tail : (u : Terminal) (K : State) (other : Option State) (b : Bool) → (Goes other b → GivesAll K (one u ∷ ts)) → Goes (on_const_tail u K other) b → GivesAll (const_tail ∷ K) (one u ∷ ts)
  on-const_tail x.Hash K other b go h = let n = later (word_next ∷ K) h in (n.0, inr (inl (ts, sign_one x.Hash x.Hash refl, named ts n.0 n.1)), n.2)
  on-const_tail x.Dot K other b go h = let n = later (word_next ∷ K) h in (n.0, inr (inr (ts, sign_one x.Dot x.Dot refl, named ts n.0 n.1)), n.2)
  on-const_tail u K other b go h = (one u ∷ ts, inl refl, go h)

  -- ---- the branches of a CASE

  on-case_end : (u : Terminal) (K : State) → Goes (on_case_end u K) false → GivesAll (first_case ∷ K) (one u ∷ ts)
  on-case_end u K h = let n = on-otherwise x.EndCase tt (refl, tt) u K h in (n.0, (no_cases, (one u ∷ ts, refl, n.1)), n.2)

  a_label : (u : Terminal) (K : State) → GivesAll (const_next ∷ behind_label ∷ K) (one u ∷ ts) → GivesAll (first_case ∷ K) (one u ∷ ts)
  a_label u K (m, (c, hc), (m2, more, rest)) = (m2, labelled c (one u ∷ ts) m m2 hc more, rest)

  on-first_case : (u : Terminal) (K : State) → Goes (advance (first_case ∷ K) u) false → GivesAll (first_case ∷ K) (one u ∷ ts)
  on-first_case u K h =
      on-const u (behind_label ∷ K) (on_const_word u (behind_label ∷ K) (on_case_end u K)) false (a_label u K)
      (λ h'. on-const_word u (behind_label ∷ K) (on_case_end u K) false (a_label u K) (on-case_end u K) h') h

  no_more : (u : Terminal) (K : State) → GivesAll (first_case ∷ K) (one u ∷ ts) → GivesAll (case_body ∷ K) (one u ∷ ts)
  no_more u K (m, cs, rest) = (m, unstated (one u ∷ ts) m cs, rest)

  on-case_body : (u : Terminal) (K : State) → Goes (on_case_body u K) false → GivesAll (case_body ∷ K) (one u ∷ ts)
  on-case_body x.Word K h = let n = later (case_word ∷ K) h in (n.0, worded (one x.Word) ts n.0 refl n.1, n.2)
  on-case_body u K h =
      on-statement u (case_body ∷ K) (on_const u (behind_label ∷ K) (on_case_end u K)) false more
      (λ h'. on-const u (behind_label ∷ K) (on_case_end u K) false (λ n. no_more u K (a_label u K n)) (λ h''. no_more u K (on-case_end u K h'')) h') h
    where
      more : One u (case_body ∷ K) → GivesAll (case_body ∷ K) (one u ∷ ts)
      more (m, (s, hs), (m2, hb, rest)) = (m2, stated s (one u ∷ ts) m m2 hs hb, rest)

  -- a place from here on, and the statements behind it
  abbrev PlaceOn : Terminal → State → Type 0
  PlaceOn u K = (m : List Lexeme) × Stated (one u ∷ ts) m × GivesAll K m

  on-place : (u : Terminal) (K : State) → Goes (on_place u (case_body ∷ K)) false → PlaceOn u K
  on-place u K h =
      at (on-inside u place_state (behind_place ∷ case_body ∷ K) (on_placed u (case_body ∷ K)) false (e.advance place_state u) true refl refl (on-placed u (case_body ∷ K)) h)
    where
      at : GivesAll (inside place_state ∷ behind_place ∷ case_body ∷ K) (one u ∷ ts) → PlaceOn u K
      at (m, hs, (m2, hp, (m3, hb, rest))) = let s = given_selectors (one u ∷ ts) m hs in (m3, (s.0, (m, s.1, (m2, hp, hb))), rest)

  on-case_field : (u : Terminal) (K : State) → Goes (advance (case_field ∷ K) u) false → GivesAll (case_field ∷ K) (one u ∷ ts)
  on-case_field u K h = on-behind_label u K (on_place u (case_body ∷ K)) (λ n. (n.0, inl n.1, n.2)) (λ h'. let n = on-place u K h' in (n.0, inr n.1, n.2)) h

  on-case_dot : (u : Terminal) (K : State) → Goes (on_case_dot u K) false → GivesAll (case_dot ∷ K) (one u ∷ ts)
  on-case_dot x.Word K h = at (later (case_field ∷ K) h)
    where
      at : GivesAll (case_field ∷ K) ts → GivesAll (case_dot ∷ K) (one x.Word ∷ ts)
      at (m, (inl more), rest) = (m, inl (ts, named (one x.Word ∷ ts) ts (sign_one x.Word x.Word refl), more), rest)
      at (m, (inr more), rest) = (m, inr (ts, named (one x.Word ∷ ts) ts (sign_one x.Word x.Word refl), more), rest)
  on-case_dot _ K h = not_here false (length ts) h

  on-case_word : (u : Terminal) (K : State) → Goes (advance (case_word ∷ K) u) false → GivesAll (case_word ∷ K) (one u ∷ ts)
  on-case_word x.Hash K h = at (later (word_next ∷ behind_label ∷ K) h)
    where
      at : GivesAll (word_next ∷ behind_label ∷ K) ts → GivesAll (case_word ∷ K) (one x.Hash ∷ ts)
      at (m, w, (m2, more, rest)) = (m2, inl (m, inr (inl (ts, sign_one x.Hash x.Hash refl, named ts m w)), more), rest)
  on-case_word x.Dot K h = at (later (case_dot ∷ K) h)
    where
      at : GivesAll (case_dot ∷ K) ts → GivesAll (case_word ∷ K) (one x.Dot ∷ ts)
      at (m, (inl (m2, n, more)), rest) = (m, inl (m2, inr (inr (ts, sign_one x.Dot x.Dot refl, n)), more), rest)
      at (m, (inr (m2, (n, line', w), (s, (m3, hs, more)))), rest) = (m, inr (selector_then (expr.Field line' n) s, (m3, (m2, (ts, sign_one x.Dot x.Dot refl, w), hs), more)), rest)
  on-case_word u K h =
      on-behind_label u K (on_place u (case_body ∷ K)) (λ n. (n.0, inl (one u ∷ ts, inl refl, n.1), n.2)) (λ h'. let n = on-place u K h' in (n.0, inr n.1, n.2)) h

  -- ---- initial values

  valued-init : (u : Terminal) (K : State) → GivesAll (inside e.start ∷ K) (one u ∷ ts) → GivesAll (init_next ∷ K) (one u ∷ ts)
  valued-init u K (m, hv, more) = let v = given_expression (one u ∷ ts) m hv in (m, (init.Value v.0, v.1), more)

  on-init : (u : Terminal) (K : State) → Goes (on_init u K) false → GivesAll (init_next ∷ K) (one u ∷ ts)
  on-init x.OpenBracket K h = at (later (part_next ∷ parts_more ∷ K) h)
    where
      at : GivesAll (part_next ∷ parts_more ∷ K) ts → GivesAll (init_next ∷ K) (one x.OpenBracket ∷ ts)
      at (m, (p, hp), (m2, (ps, (m3, hm, c)), more)) = (m2, (init.Array line (part_then p ps), (refl, (ts, sign_one x.OpenBracket x.OpenBracket refl, (m3, (m, hp, hm), c)))), more)
  on-init x.Open K h = at (later (init_open ∷ K) h)
    where
      at : GivesAll (init_open ∷ K) ts → GivesAll (init_next ∷ K) (one x.Open ∷ ts)
      at (m, (inl (fs, (m2, hf, c))), more) = (m, (init.Fields line fs, (refl, (ts, sign_one x.Open x.Open refl, (m2, hf, c)))), more)
      at (m, (inr (a, w, run)), more) = valued-init x.Open K (m, (one x.Open ∷ a, ap (λ v. one x.Open ∷ v) w, run), more)
  on-init u K h = valued-init u K (on-inside u e.start K None false (e.advance e.start u) false refl refl (not_here false (length ts)) h)

  on-init_open : (u : Terminal) (K : State) → Goes (on_init_open u K) false → GivesAll (init_open ∷ K) (one u ∷ ts)
  on-init_open x.Word K h = at (later (init_word ∷ K) h)
    where
      at : GivesAll (init_word ∷ K) ts → GivesAll (init_open ∷ K) (one x.Word ∷ ts)
      at (m, (inl (i, fs, (m2, w, (m3, hi, (m4, hf, c))))), more) = (m, inl (field_then line text i fs, (m4, (ts, (refl, (one x.Word, (refl, refl), refl)), (m2, w, (m3, hi, hf))), c)), more)
      at (m, (inr (a, w, run)), more) = (m, inr (one x.Word ∷ a, ap (λ v. one x.Word ∷ v) w, run), more)
  on-init_open u K h =
      let n = on-inside u behind_paren K None false (e.advance behind_paren u) false refl refl (not_here false (length ts)) h in
      (n.0, inr n.1, n.2)

  on-init_word : (u : Terminal) (K : State) → Goes (on_init_word u K) false → GivesAll (init_word ∷ K) (one u ∷ ts)
  on-init_word x.Assign K h = at (later (init_next ∷ fields_more ∷ K) h)
    where
      at : GivesAll (init_next ∷ fields_more ∷ K) ts → GivesAll (init_word ∷ K) (one x.Assign ∷ ts)
      at (m, (i, hi), (m2, (fs, (m3, hf, c)), more)) = (m2, inl (i, fs, (ts, sign_one x.Assign x.Assign refl, (m, hi, (m3, hf, c)))), more)
  on-init_word u K h =
      let n = on-inside u behind_paren_word K None false (e.advance behind_paren_word u) false refl refl (not_here false (length ts)) h in
      (n.0, inr n.1, n.2)

  on-fields : (u : Terminal) (K : State) → Goes (on_fields u K) false → GivesAll (fields_more ∷ K) (one u ∷ ts)
  on-fields x.Comma K h = at (later (word_next ∷ need x.Assign (refl, tt) ∷ init_next ∷ fields_more ∷ K) h)
    where
      at : GivesAll (word_next ∷ need x.Assign (refl, tt) ∷ init_next ∷ fields_more ∷ K) ts → GivesAll (fields_more ∷ K) (one x.Comma ∷ ts)
      at (m, hn, (m2, w, (m3, (i, hi), (m4, (fs, (m5, hf, c)), more)))) =
          let n = named ts m hn in
          (m4, (field_then n.1 n.0 i fs, (m5, (ts, sign_one x.Comma x.Comma refl, (m, n.2, (m2, w, (m3, hi, hf)))), c)), more)
  on-fields x.Close K h = (ts, (no_fields, (one x.Close ∷ ts, refl, sign_one x.Close x.Close refl)), later K h)
  on-fields _ K h = not_here false (length ts) h

  on-part : (u : Terminal) (K : State) → Goes (on_part u K) false → GivesAll (part_next ∷ K) (one u ∷ ts)
  on-part x.Int K h = at (later (part_int ∷ K) h)
    where
      at : GivesAll (part_int ∷ K) ts → GivesAll (part_next ∷ K) (one x.Int ∷ ts)
      at (m, (inl (i, more)), rest) = (m, (init.Repeated line text i, (refl, (ts, (one x.Int, (refl, refl), refl), more))), rest)
      at (m, (inr (a, w, run)), rest) =
          let v = given_expression (one x.Int ∷ ts) m (one x.Int ∷ a, ap (λ z. one x.Int ∷ z) w, run) in
          (m, (init.One (init.Value v.0), v.1), rest)
  on-part u K h = let n = on-init u K h in (n.0, (init.One n.1.0, n.1.1), n.2)

  on-part_int : (u : Terminal) (K : State) → (Goes (advance K u) (accepts K) → GivesAll K (one u ∷ ts)) → Goes (on_part_int u K (advance K u)) (accepts K) → GivesAll (part_int ∷ K) (one u ∷ ts)
  on-part_int x.Open K go h = at (later (init_next ∷ need x.Close (refl, tt) ∷ K) h)
    where
      at : GivesAll (init_next ∷ need x.Close (refl, tt) ∷ K) ts → GivesAll (part_int ∷ K) (one x.Open ∷ ts)
      at (m, (i, hi), (m2, c, rest)) = (m2, inl (i, (ts, sign_one x.Open x.Open refl, (m, hi, c))), rest)
  on-part_int u K go h =
      let n = on-inside u behind_int K (advance K u) (accepts K) (e.advance behind_int u) true refl refl go h in
      (n.0, inr n.1, n.2)

  on-parts : (u : Terminal) (K : State) → Goes (on_parts u K) false → GivesAll (parts_more ∷ K) (one u ∷ ts)
  on-parts x.Comma K h = at (later (part_next ∷ parts_more ∷ K) h)
    where
      at : GivesAll (part_next ∷ parts_more ∷ K) ts → GivesAll (parts_more ∷ K) (one x.Comma ∷ ts)
      at (m, (p, hp), (m2, (ps, (m3, hm, c)), more)) = (m2, (part_then p ps, (m3, (ts, sign_one x.Comma x.Comma refl, (m, hp, hm)), c)), more)
  on-parts x.CloseBracket K h = (ts, (no_parts, (one x.CloseBracket ∷ ts, refl, sign_one x.CloseBracket x.CloseBracket refl)), later K h)
  on-parts _ K h = not_here false (length ts) h

  on-token : (u : Terminal) (K : State) → Goes (advance K u) (accepts K) → GivesAll K (one u ∷ ts)
  on-token u [] h = not_here true (length ts) h
  on-token u (inside k ∷ K) h = on-inside u k K (advance K u) (accepts K) (e.advance k u) (e.accepts k) refl refl (on-token u K) h
  on-token u (need s q ∷ K) h = on-need s u q K h
  on-token u (body b ∷ K) h = on-body b u K h
  on-token u (statement_next ∷ K) h = on-statement u K None false (λ n. n) (not_here false (length ts)) h
  on-token u (behind_place ∷ K) h = on-placed u K h
  on-token u (by_or_do ∷ K) h = on-step u K h
  on-token u (branch_next ∷ K) h = on-branch u K h
  on-token u (otherwise_next s free q ∷ K) h = on-otherwise s free q u K h
  on-token u (first_case ∷ K) h = on-first_case u K h
  on-token u (case_body ∷ K) h = on-case_body u K h
  on-token u (case_word ∷ K) h = on-case_word u K h
  on-token u (case_dot ∷ K) h = on-case_dot u K h
  on-token u (case_field ∷ K) h = on-case_field u K h
  on-token u (const_next ∷ K) h = on-const u K (on_const_word u K None) false (λ n. n) (λ h'. on-const_word u K None false (λ n. n) (not_here false (length ts)) h') h
  on-token u (const_tail ∷ K) h = on-const_tail u K (advance K u) (accepts K) (on-token u K) h
  on-token u (behind_label ∷ K) h = on-behind_label u K None (λ n. n) (not_here false (length ts)) h
  on-token u (label_more ∷ K) h = on-label_more u K None (λ n. n) (not_here false (length ts)) h
  on-token u (init_next ∷ K) h = on-init u K h
  on-token u (init_open ∷ K) h = on-init_open u K h
  on-token u (init_word ∷ K) h = on-init_word u K h
  on-token u (fields_more ∷ K) h = on-fields u K h
  on-token u (part_next ∷ K) h = on-part u K h
  on-token u (part_int ∷ K) h = on-part_int u K (on-token u K) h
  on-token u (parts_more ∷ K) h = on-parts u K h

pub spelled_all : (ts : List Lexeme) (K : State) → Accepted (machine K ts) → GivesAll K ts
spelled_all [] K h = at_end K (ap (λ p. p.0) h)
spelled_all (t ∷ ts) K h = on-token t.text t.line t.marks ts (spelled_all ts) t.terminal K h
