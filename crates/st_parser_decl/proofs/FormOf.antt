-- What a form is the form of: phrases of the grammar, each a tree of theirs.
use Rattle.std.proofs.Common.{◌≡◌, ℕ, ◌⊎◌, inl, inr, Bool, true, false, List, [], ◌∷◌, Option, Some, None, refl, sym, ◌∙◌, ap, subst, append-nil}
use Rattle.st_tree.specs.declared.terminal.Terminal.{Terminal}
use Rattle.st_tree.specs.declared.terminal.Terminal.TheVariants as x
use Rattle.st_tree.specs.declared.marks.Marks.{Marks}
use Rattle.st_tree.specs.Grammar.{Lexeme, Phrase, ◌⋆◌, nothing, never, sign, spelled, at, At, marked, HasMarks, NotNext, optional, each}
use Rattle.st_parser_expr.proofs.Fronts.{IsFront}
use Rattle.st_parser_stmt.specs.Private.Machine as s
use Rattle.st_parser_stmt.specs.Private.Numbers.{same_terminal}
use Rattle.st_parser_stmt.proofs.NumberLaws.{same-self, same-not}
use Rattle.st_parser_stmt.proofs.Fronts.{move}
use Rattle.st_parser_decl.specs.Private.Form.{Form, one, one_of, both, may, option, several, either, inside}
use Rattle.st_parser_decl.specs.Private.Rules.{more_of, list_of}
use Rattle.st_parser_decl.specs.Private.Promises.{first_in}
use Rattle.st_parser_decl.proofs.Takes.{Parts, Takes, perhaps, either_of, may_be}

-- the parts make a tree, and each tree is made of parts
pub record FormOf (a : Form) (X : Type 0) (P : X → Phrase) : Type 0 where
  pub from : Parts a → X
  pub spells : (p : Parts a) (ts rest : List Lexeme) → Takes a p ts rest → P (from p) ts rest
  pub takes : (v : X) (ts rest : List Lexeme) → P v ts rest → (p : Parts a) × Takes a p ts rest × (from p ≡ v)

-- the same of trees that are written in another way
pub of_map : {a : Form} {X Y : Type 0} (P : X → Phrase) (Q : Y → Phrase) (f : X → Y) (g : Y → X) → ((y : Y) (ts rest : List Lexeme) → Q y ts rest → f (g y) ≡ y) → ((v : X) (ts rest : List Lexeme) → P v ts rest → Q (f v) ts rest)
    → ((y : Y) (ts rest : List Lexeme) → Q y ts rest → P (g y) ts rest) → FormOf a X P → FormOf a Y Q
of_map P Q f g same to back r = record {
  from = λ p. f (r.from p);
  spells = λ p ts rest h. to (r.from p) ts rest (r.spells p ts rest h);
  takes = λ y ts rest h. let u = r.takes (g y) ts rest (back y ts rest h) in (u.0, u.1, ap f u.2 ∙ same y ts rest h);
}

-- ---- single lexemes

pub of_sign : (t : Terminal) → FormOf (one t) (Unit {0}) (λ u. sign t)
of_sign t = record {
  from = λ p. tt;
  spells = λ p ts rest h. (p, h.0, h.1);
  takes = λ v ts rest h. (h.0, (h.1, h.2), refl);
}

-- a lexeme with its text
pub of_text : (t : Terminal) → FormOf (one t) (List ℕ) (λ n. spelled t n)
of_text t = record {
  from = λ p. p.text;
  spells = λ p ts rest h. (p, (h.0, refl), h.1);
  takes = λ v ts rest h. (h.0, (h.1.0, h.2), h.1.1);
}

-- one of several terminals: the tree is told from the terminal alone
pub of_one_of : {X : Type 0} (S : Terminal → Bool) (t : Terminal) (p : S t ≡ true) (tree : Terminal → X) (terminal : X → Terminal) (P : X → Phrase)
    → ((u : Terminal) → S u ≡ true → terminal (tree u) ≡ u) → ((v : X) (ts rest : List Lexeme) → P v ts rest → (S (terminal v) ≡ true) × (tree (terminal v) ≡ v) × sign (terminal v) ts rest)
    → ((u : Terminal) (ts rest : List Lexeme) → S u ≡ true → sign u ts rest → P (tree u) ts rest) → FormOf (one_of S t p) X P
of_one_of S t p tree terminal P same back to = record {
  from = λ v. tree v.terminal;
  spells = λ v ts rest h. to v.terminal ts rest h.0 (v, refl, h.1);
  takes = λ v ts rest h.
      let b = back v ts rest h in
      (b.2.0, (subst (λ u. S u ≡ true) (sym b.2.1) b.0, b.2.2), ap tree b.2.1 ∙ b.1);
}

not_next : (t : Terminal) (ts : List Lexeme) → first_in (same_terminal t) ts ≡ false → NotNext t ts
not_next t [] h = tt
not_next t (u ∷ ts) h = λ e. let bad : false ≡ true = sym h ∙ ap (same_terminal t) e ∙ same-self t in cc

first_not : (t : Terminal) (ts : List Lexeme) → NotNext t ts → first_in (same_terminal t) ts ≡ false
first_not t [] h = refl
first_not t (u ∷ ts) h = same-not t u.terminal (λ e. h (sym e))

pub of_optional : (t : Terminal) → FormOf (may t) (Unit {0}) (λ u. optional t)
of_optional t = record {
  from = λ p. tt;
  spells = spell;
  takes = λ v ts rest h. take ts rest h;
}
  where
    spell : (p : Option Lexeme) (ts rest : List Lexeme) → may_be t p ts rest → optional t ts rest
    spell None ts rest h = inr (h.1, not_next t ts h.0)
    spell (Some p) ts rest h = inl (p, h.0, h.1)

    take : (ts rest : List Lexeme) → optional t ts rest → (p : Option Lexeme) × may_be t p ts rest × (◌≡◌ {A = Unit {0}} tt tt)
    take ts rest (inl (p, is, w)) = (Some p, (is, w), refl)
    take ts rest (inr (w, n)) = (None, (first_not t ts n, w), refl)

-- ---- one after the other, and choices

same-pair : {X Y : Type 0} (a a' : X) (b b' : Y) → a ≡ a' → b ≡ b' → ◌≡◌ {A = X × Y} (a, b) (a', b')
same-pair a a' b b' h h' = ap (λ u. (u, b)) h ∙ ap (λ u. (a', u)) h'

pub of_both : {a b : Form} {X Y : Type 0} (P : X → Phrase) (Q : Y → Phrase) → FormOf a X P → FormOf b Y Q → FormOf (both a b) (X × Y) (λ z. P z.0 ⋆ Q z.1)
of_both P Q f g = record {
  from = λ p. (f.from p.0, g.from p.1);
  spells = λ p ts rest h. (h.0, f.spells p.0 ts h.0 h.1, g.spells p.1 h.0 rest h.2);
  takes = λ v ts rest h.
      let u = f.takes v.0 ts h.0 h.1 in
      let w = g.takes v.1 h.0 rest h.2 in
      ((u.0, w.0), (h.0, u.1, w.1), same-pair _ _ _ _ u.2 w.2);
}

pub of_perhaps : {a : Form} {X : Type 0} (P : X → Phrase) → FormOf a X P → FormOf (option a) (Option X) (perhaps P)
of_perhaps {a = a} {X = X} P f = record { from = from; spells = spell; takes = take }
  where
    from : Option (Parts a) → Option X
    from None = None
    from (Some p) = Some (f.from p)

    spell : (p : Option (Parts a)) (ts rest : List Lexeme) → perhaps (Takes a) p ts rest → perhaps P (from p) ts rest
    spell None ts rest h = h
    spell (Some p) ts rest h = f.spells p ts rest h

    take : (v : Option X) (ts rest : List Lexeme) → perhaps P v ts rest → (p : Option (Parts a)) × perhaps (Takes a) p ts rest × (from p ≡ v)
    take None ts rest h = (None, h, refl)
    take (Some v) ts rest h = let u = f.takes v ts rest h in (Some u.0, u.1, ap Some u.2)

pub of_either : {a b : Form} {X Y : Type 0} (P : X → Phrase) (Q : Y → Phrase) → FormOf a X P → FormOf b Y Q → FormOf (either a b) (X ⊎ Y) (either_of P Q)
of_either {a = a} {b = b} {X = X} {Y = Y} P Q f g = record { from = from; spells = spell; takes = take }
  where
    from : Parts a ⊎ Parts b → X ⊎ Y
    from (inl p) = inl (f.from p)
    from (inr p) = inr (g.from p)

    spell : (p : Parts a ⊎ Parts b) (ts rest : List Lexeme) → either_of (Takes a) (Takes b) p ts rest → either_of P Q (from p) ts rest
    spell (inl p) ts rest h = f.spells p ts rest h
    spell (inr p) ts rest h = g.spells p ts rest h

    take : (v : X ⊎ Y) (ts rest : List Lexeme) → either_of P Q v ts rest → (p : Parts a ⊎ Parts b) × either_of (Takes a) (Takes b) p ts rest × (from p ≡ v)
    take (inl v) ts rest h = let u = f.takes v ts rest h in (inl u.0, u.1, ap inl u.2)
    take (inr v) ts rest h = let u = g.takes v ts rest h in (inr u.0, u.1, ap inr u.2)

pub of_each : {a : Form} {X : Type 0} (P : X → Phrase) → FormOf a X P → FormOf (several a) (List X) (each P)
of_each {a = a} {X = X} P f = record { from = from; spells = spell; takes = take }
  where
    from : List (Parts a) → List X
    from [] = []
    from (p ∷ ps) = f.from p ∷ from ps

    spell : (ps : List (Parts a)) (ts rest : List Lexeme) → each (Takes a) ps ts rest → each P (from ps) ts rest
    spell [] ts rest h = h
    spell (p ∷ ps) ts rest (m, h, more) = (m, f.spells p ts m h, spell ps m rest more)

    take : (vs : List X) (ts rest : List Lexeme) → each P vs ts rest → (ps : List (Parts a)) × each (Takes a) ps ts rest × (from ps ≡ vs)
    take [] ts rest h = ([], h, refl)
    take (v ∷ vs) ts rest (m, h, more) =
        let u = f.takes v ts m h in
        let w = take vs m rest more in
        (u.0 ∷ w.0, (m, u.1, w.1), ap (λ z. z ∷ from w.0) u.2 ∙ ap (λ z. v ∷ z) w.2)

-- ---- lists with commas

abbrev pub more : {X : Type 0} → (X → Phrase) → List X → Phrase
more P [] = nothing
more P (v ∷ vs) = sign x.Comma ⋆ P v ⋆ more P vs

abbrev pub first_of : {X : Type 0} → (X → Phrase) → List X → Phrase
first_of P [] = never
first_of P (v ∷ vs) = P v ⋆ more P vs

pub of_more : {a : Form} {X : Type 0} (P : X → Phrase) → FormOf a X P → FormOf (more_of a) (List X) (more P)
of_more {a = a} {X = X} P f = record { from = from; spells = spell; takes = take }
  where
    from : List (Lexeme × Parts a) → List X
    from [] = []
    from (p ∷ ps) = f.from p.1 ∷ from ps

    spell : (ps : List (Lexeme × Parts a)) (ts rest : List Lexeme) → each (Takes (both (one x.Comma) a)) ps ts rest → more P (from ps) ts rest
    spell [] ts rest h = h
    spell (p ∷ ps) ts rest (m, (m', c, h), others) = (m', (p.0, c.0, c.1), (m, f.spells p.1 m' m h, spell ps m rest others))

    take : (vs : List X) (ts rest : List Lexeme) → more P vs ts rest → (ps : List (Lexeme × Parts a)) × each (Takes (both (one x.Comma) a)) ps ts rest × (from ps ≡ vs)
    take [] ts rest h = ([], h, refl)
    take (v ∷ vs) ts rest (m', (t, is, w), (m, h, others)) =
        let u = f.takes v m' m h in
        let z = take vs m rest others in
        ((t, u.0) ∷ z.0, (m, (m', (is, w), u.1), z.1), ap (λ y. y ∷ from z.0) u.2 ∙ ap (λ y. v ∷ y) z.2)

pub of_list : {a : Form} {X : Type 0} (P : X → Phrase) → FormOf a X P → FormOf (list_of a) (List X) (first_of P)
of_list {a = a} {X = X} P f = record {
  from = λ p. f.from p.0 ∷ (of_more P f).from p.1;
  spells = λ p ts rest h. (h.0, f.spells p.0 ts h.0 h.1, (of_more P f).spells p.1 h.0 rest h.2);
  takes = take;
}
  where
    take : (vs : List X) (ts rest : List Lexeme) → first_of P vs ts rest → (p : Parts (list_of a)) × Takes (list_of a) p ts rest × (f.from p.0 ∷ (of_more P f).from p.1 ≡ vs)
    take [] ts rest h = absurd h
    take (v ∷ vs) ts rest (m, h, others) =
        let u = f.takes v ts m h in
        let z = (of_more P f).takes vs m rest others in
        ((u.0, z.0), (m, u.1, z.1), ap (λ y. y ∷ (of_more P f).from z.0) u.2 ∙ ap (λ y. v ∷ y) z.2)

-- ---- the line and the marks of the first lexeme

pub record Headed (a : Form) : Type 0 where
  pub first : Parts a → Lexeme
  pub heads : (p : Parts a) (ts rest : List Lexeme) → Takes a p ts rest → (behind : List Lexeme) × (ts ≡ first p ∷ behind)

pub headed_one : (t : Terminal) → Headed (one t)
headed_one t = record { first = λ p. p; heads = λ p ts rest h. (rest, h.1) }

pub headed_one_of : (S : Terminal → Bool) (t : Terminal) (q : S t ≡ true) → Headed (one_of S t q)
headed_one_of S t q = record { first = λ p. p; heads = λ p ts rest h. (rest, h.1) }

pub headed_both : (a b : Form) → Headed a → Headed (both a b)
headed_both a b f = record { first = λ p. f.first p.0; heads = λ p ts rest h. f.heads p.0 ts h.0 h.1 }

pub headed_either : (a b : Form) → Headed a → Headed b → Headed (either a b)
headed_either a b f g = record { first = first; heads = heads }
  where
    first : Parts a ⊎ Parts b → Lexeme
    first (inl p) = f.first p
    first (inr p) = g.first p

    heads : (p : Parts a ⊎ Parts b) (ts rest : List Lexeme) → either_of (Takes a) (Takes b) p ts rest → (behind : List Lexeme) × (ts ≡ first p ∷ behind)
    heads (inl p) ts rest h = f.heads p ts rest h
    heads (inr p) ts rest h = g.heads p ts rest h

pub of_at : {a : Form} {X : Type 0} (P : X → Phrase) → Headed a → FormOf a X P → FormOf a (ℕ × X) (λ z. at z.0 (P z.1))
of_at P head f = record {
  from = λ p. ((head.first p).line, f.from p);
  spells = λ p ts rest h. (let b = head.heads p ts rest h in subst (At (head.first p).line) (sym b.1) refl, f.spells p ts rest h);
  takes = λ v ts rest h.
      let u = f.takes v.1 ts rest h.1 in
      let b = head.heads u.0 ts rest u.1 in
      (u.0, u.1, same-pair _ _ _ _ (subst (At v.0) b.1 h.0) u.2);
}

pub of_marked : {a : Form} {X : Type 0} (P : X → Phrase) → Headed a → FormOf a X P → FormOf a (Marks × X) (λ z. marked z.0 (P z.1))
of_marked P head f = record {
  from = λ p. ((head.first p).marks, f.from p);
  spells = λ p ts rest h. (let b = head.heads p ts rest h in subst (HasMarks (head.first p).marks) (sym b.1) refl, f.spells p ts rest h);
  takes = λ v ts rest h.
      let u = f.takes v.1 ts rest h.1 in
      let b = head.heads u.0 ts rest u.1 in
      (u.0, u.1, same-pair _ _ _ _ (subst (HasMarks v.0) b.1 h.0) u.2);
}

-- ---- what the machine of statements accepts

pub of_inside : {X : Type 0} (k : s.State) (P : X → Phrase) → ((a : List Lexeme) → s.machine k a ≡ (true, 0) → (v : X) × P v a []) → ((v : X) (a : List Lexeme) → P v a [] → s.machine k a ≡ (true, 0))
    → ((v v' : X) (a : List Lexeme) → P v a [] → P v' a [] → v ≡ v') → ((v : X) → IsFront (P v)) → FormOf (inside k) X P
of_inside k P derive accept same front = record {
  from = λ p. (derive p.0 p.1).0;
  spells = λ p ts rest w. let d = derive p.0 p.1 in subst (λ u. P d.0 u rest) (sym w) (move (P d.0) (front d.0) p.0 rest d.1);
  takes = λ v ts rest h.
      let b = front v ts rest h in
      let alone = subst (λ u. P v u []) (append-nil b.tokens) (b.moved []) in
      let run = accept v b.tokens alone in
      ((b.tokens, run), b.whole, same (derive b.tokens run).0 v b.tokens (derive b.tokens run).1 alone);
}
