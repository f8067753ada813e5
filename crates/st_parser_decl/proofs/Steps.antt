-- What the functions have to show.
use Rattle.std.proofs.Common.{◌≡◌, ℕ, suc, ◌<◌, ◌≤◌, inl, inr, Bool, true, false, ◌&&◌, ◌||◌, List, [], ◌∷◌, ◌++◌, Option, Some, None, length, drop, refl, sym, ◌∙◌, ap, subst, arith, append-nil, append_assoc}
use Rattle.st_tree.specs.declared.terminal.Terminal.{Terminal}
use Rattle.st_tree.specs.declared.terminal.Terminal.TheVariants as x
use Rattle.st_tree.specs.Grammar.{Lexeme, Phrase, ◌⋆◌, nothing, never, sign, spelled, At, at, HasMarks, marked, optional, each}
use Rattle.st_parser_expr.specs.declared.stop.Stop.{Stop}
use Rattle.st_parser_expr.specs.declared.stop.Stop.TheVariants.{Left}
use Rattle.st_parser_expr.specs.Private.Promises.{next_terminal, LineOf, TextTaken}
use Rattle.st_parser_expr.proofs.Rules.{sign_at, taken, sign-shorter, spelled-shorter, line_sign, line_spelled}
use Rattle.st_parser_expr.proofs.MachineLaws.{signed}
use Rattle.st_parser_expr.proofs.Fronts.{IsFront, front, both_fronts, of_expression, of_sign}
use Rattle.st_tree.specs.Expression.{Expression}
use Rattle.st_tree.specs.Initial.{Initial}
use Rattle.st_tree.specs.Statement.{Statements}
use Rattle.st_tree.specs.Grammar as g
use Rattle.st_parser_stmt.specs.Private.Machine as s
use Rattle.st_parser_stmt.specs.Private.Promises as m
use Rattle.st_parser_stmt.proofs.Fronts.{of_body, of_initial}
use Rattle.st_parser_stmt.specs.Private.Numbers.{same_terminal}
use Rattle.st_parser_stmt.proofs.NumberLaws.{same-self, same-not}
use Rattle.st_parser_decl.specs.Private.Form.{Form, one, one_of, both, may, option, several, either, inside, State, nullable, starts, on_terminal, advance, go_on, machine}
use Rattle.st_parser_decl.specs.Private.Rules as w
use Rattle.st_parser_decl.specs.Private.Rules.{more_of, list_of}
use Rattle.st_parser_decl.specs.Private.Promises.{first_in, Parses, Fails, FailsInside}
use Rattle.st_parser_decl.proofs.FormLaws.{machine-left, on-one, on-one_of, inside-passes, inside-fails, machine-both, machine-may, machine-may_not, machine-option, machine-no_option, machine-several, machine-no_several, machine-first, machine-second}
use Rattle.st_parser_decl.proofs.FormOf.{more, first_of}

-- ---- exits

pub fails_at : (a : Form) (ts m : List Lexeme) → ((K : State) → machine (a ∷ K) ts ≡ (false, length m)) → Fails a ts (Left (length m))
fails_at a ts m h = record { stops = λ n e K. let same : length m ≡ n = cc in h K ∙ ap (λ i. (false, i)) same }

-- where the machine comes from one to the other
pub fails_after : {a b : Form} {ts m : List Lexeme} {stop : Stop} (g : State → State) → ((K : State) → machine (a ∷ K) ts ≡ machine (b ∷ g K) m) → Fails b m stop → Fails a ts stop
fails_after g p h = record { stops = λ n e K. p K ∙ h.stops n e (g K) }

-- the first part fails
pub fails_here : {a b : Form} {ts : List Lexeme} {stop : Stop} → Fails a ts stop → Fails (both a b) ts stop
fails_here {a = a} {b = b} {ts = ts} h = fails_after (λ K. b ∷ K) (λ K. machine-both a b K ts) h

-- a part behind the first fails
pub fails_behind : {P : Phrase} {a b : Form} {ts m : List Lexeme} {stop : Stop} → Parses P a ts m → Fails b m stop → Fails (both a b) ts stop
fails_behind {a = a} {b = b} {ts = ts} r h = fails_after (λ K. K) (λ K. machine-both a b K ts ∙ r.passes (b ∷ K)) h

-- one after the other
pub behind : {P Q : Phrase} {a b : Form} {ts m rest : List Lexeme} → Parses P a ts m → Parses Q b m rest → Parses (P ⋆ Q) (both a b) ts rest
behind {a = a} {b = b} {ts = ts} {m = m} r h = record {
  spelled = (m, r.spelled, h.spelled);
  passes = λ K. machine-both a b K ts ∙ r.passes (b ∷ K) ∙ h.passes K;
  shorter = omega (arith, r.shorter, h.shorter);
}

-- the same lexemes are another phrase
pub as_phrase : {P Q : Phrase} {a : Form} {ts rest : List Lexeme} → (P ts rest → Q ts rest) → Parses P a ts rest → Parses Q a ts rest
as_phrase f r = record { spelled = f r.spelled; passes = r.passes; shorter = r.shorter }

-- the same, with what is read first
pub phrase_as : {P Q : Phrase} {a : Form} {ts rest : List Lexeme} → Parses P a ts rest → (P ts rest → Q ts rest) → Parses Q a ts rest
phrase_as r f = as_phrase f r

-- what takes some lexeme leaves fewer
pub parses_strictly : {P : Phrase} {a : Form} {ts rest : List Lexeme} → nullable a ≡ false → Parses P a ts rest → length rest < length ts
parses_strictly {a = a} {ts = ts} {rest = rest} takes r = at ts (r.passes [] ∙ all rest)
  where
    all : (rest : List Lexeme) → machine [] rest ≡ (true, length rest)
    all [] = refl
    all (t ∷ ts) = refl

    behind_first : (ts : List Lexeme) (o : Option State) → go_on o (λ K. machine K ts) (nullable a && true, suc (length ts)) ≡ (true, length rest) → length rest < suc (length ts)
    behind_first ts None h = let bad : nullable a && true ≡ true = ap (λ p. p.0) h in absurd (let no_such : false ≡ true = ap (λ b. b && true) (sym takes) ∙ bad in cc)
    behind_first ts (Some K) h = let z : length rest ≤ length ts = machine-left K ts true (length rest) h in omega (arith, z)

    at : (ts : List Lexeme) → machine (a ∷ []) ts ≡ (true, length rest) → length rest < length ts
    at [] h = let bad : nullable a && true ≡ true = ap (λ p. p.0) h in absurd (let no_such : false ≡ true = ap (λ b. b && true) (sym takes) ∙ bad in cc)
    at (t ∷ ts) h = behind_first ts (advance (a ∷ []) t.terminal) h

-- ---- single lexemes

pub parses_sign : (s : Terminal) (ts us : List Lexeme) → next_terminal ts ≡ Some s → us ≡ drop 1 ts → Parses (sign s) (one s) ts us
parses_sign s ts us h is =
    let w = sign_at s ts us h is in
    record { spelled = w; passes = λ K. on-one K s ts us w; shorter = omega (arith, sign-shorter s ts us w) }

pub parses_eaten : (s : Terminal) (ts us : List Lexeme) → sign s ts us → Parses (sign s) (one s) ts us
parses_eaten s ts us w = record { spelled = w; passes = λ K. on-one K s ts us w; shorter = omega (arith, sign-shorter s ts us w) }

pub sign_fails : (s : Terminal) (ts : List Lexeme) → (next_terminal ts ≡ Some s → ⊥) → Fails (one s) ts (Left (length ts))
sign_fails s ts h = fails_at (one s) ts ts (at ts h)
  where
    at : (ts : List Lexeme) → (next_terminal ts ≡ Some s → ⊥) → (K : State) → machine (one s ∷ K) ts ≡ (false, length ts)
    at [] h K = refl
    at (t ∷ ts) h K =
        let other : s ≡ t.terminal → ⊥ = λ e. h (ap Some (sym e)) in
        ap (λ b. go_on (on_terminal b K) (λ K'. machine K' ts) (false, suc (length ts))) (same-not s t.terminal other)

pub parses_text : (s : Terminal) (n : List ℕ) (ts us : List Lexeme) → next_terminal ts ≡ Some s → TextTaken n ts us → Parses (spelled s n) (one s) ts us
parses_text s n ts us h t =
    let w = taken s n ts us h t in
    record { spelled = w; passes = λ K. on-one K s ts us (signed s n ts us w); shorter = omega (arith, spelled-shorter s n ts us w) }

-- one of several terminals
pub parses_word : (S : Terminal → Bool) (s0 : Terminal) (p : S s0 ≡ true) (s : Terminal) (ts us : List Lexeme) → S s ≡ true → next_terminal ts ≡ Some s → us ≡ drop 1 ts → Parses (sign s) (one_of S s0 p) ts us
parses_word S s0 p s ts us is h same =
    let w = sign_at s ts us h same in
    record { spelled = w; passes = λ K. at K w; shorter = omega (arith, sign-shorter s ts us w) }
  where
    at : (K : State) → sign s ts us → machine (one_of S s0 p ∷ K) ts ≡ machine K us
    at K (t, e, whole) = ap (machine (one_of S s0 p ∷ K)) whole ∙ on-one_of K S s0 p t us (ap S e ∙ is)

-- ---- lines and marks

-- the line of lexemes of which the first stands at some line
line_there : (line note : ℕ) (ts : List Lexeme) → LineOf ts line → At note ts → At line ts
line_there line note [] h a = absurd a
line_there line note (t ∷ ts) h a = h

pub parses_text_at : {a : Form} {ts rest : List Lexeme} (s : Terminal) (n : List ℕ) (line : ℕ) → LineOf ts line → Parses (spelled s n) a ts rest → Parses (at line (spelled s n)) a ts rest
parses_text_at {ts = ts} {rest = rest} s n line h r = as_phrase (λ w. (line_spelled s n line ts rest h w, w)) r

pub parses_at : {Q : Phrase} {a : Form} {ts rest : List Lexeme} (s : Terminal) (line : ℕ) → LineOf ts line → Parses (sign s ⋆ Q) a ts rest → Parses (at line (sign s ⋆ Q)) a ts rest
parses_at {ts = ts} s line h r = as_phrase (λ w. (line_sign s line ts w.0 h w.1, w)) r

pub parses_sign_at : {a : Form} {ts rest : List Lexeme} (s : Terminal) (line : ℕ) → LineOf ts line → Parses (sign s) a ts rest → Parses (at line (sign s)) a ts rest
parses_sign_at {ts = ts} {rest = rest} s line h r = as_phrase (λ w. (line_sign s line ts rest h w, w)) r

-- ---- options

pub next_is : (s : Terminal) (ts : List Lexeme) → next_terminal ts ≡ Some s → first_in (same_terminal s) ts ≡ true
next_is s [] h = cc
next_is s (t ∷ ts) h = let e : t.terminal ≡ s = cc in ap (same_terminal s) e ∙ same-self s

pub next_not : (s : Terminal) (ts : List Lexeme) → (next_terminal ts ≡ Some s → ⊥) → first_in (same_terminal s) ts ≡ false
next_not s [] h = refl
next_not s (t ∷ ts) h = same-not s t.terminal (λ e. h (ap Some (sym e)))

-- what the next terminal tells of the first lexeme
pub first_is : (S : Terminal → Bool) (s : Terminal) (ts : List Lexeme) → next_terminal ts ≡ Some s → first_in S ts ≡ S s
first_is S s [] h = cc
first_is S s (t ∷ ts) h = let e : t.terminal ≡ s = cc in ap S e

pub begins : (a : Form) (s : Terminal) (ts : List Lexeme) → starts a s ≡ true → next_terminal ts ≡ Some s → first_in (starts a) ts ≡ true
begins a s ts is h = first_is (starts a) s ts h ∙ is

pub begins_not : (a : Form) (s : Terminal) (ts : List Lexeme) → ((t : Terminal) → same_terminal s t ≡ false → starts a t ≡ false) → (next_terminal ts ≡ Some s → ⊥) → first_in (starts a) ts ≡ false
begins_not a s [] is h = refl
begins_not a s (t ∷ ts) is h = is t.terminal (same-not s t.terminal (λ e. h (ap Some (sym e))))

sign_next : (s : Terminal) (ts m : List Lexeme) → sign s ts m → next_terminal ts ≡ Some s
sign_next s ts m (t, is, w) = ap next_terminal w ∙ ap Some is

-- what takes some lexeme is told by its first part alone
pub starts_both : (a b : Form) (ts : List Lexeme) → nullable a ≡ false → first_in (starts (both a b)) ts ≡ first_in (starts a) ts
starts_both a b [] n = refl
starts_both a b (t ∷ ts) n = rw n (or_false (starts a t.terminal))
  where
    or_false : (v : Bool) → v || false ≡ v
    or_false true = refl
    or_false false = refl

pub starts_one : (s : Terminal) (b : Form) (ts : List Lexeme) → first_in (starts (both (one s) b)) ts ≡ first_in (same_terminal s) ts
starts_one s b ts = starts_both (one s) b ts refl

pub parses_option : {P : Phrase} {b : Form} {ts m rest : List Lexeme} (s : Terminal) → sign s ts m → Parses P b m rest → Parses (sign s ⋆ P) (option (both (one s) b)) ts rest
parses_option {b = b} {ts = ts} {m = m} s w r =
    let whole = behind (parses_eaten s ts m w) r in
    record {
      spelled = whole.spelled;
      passes = λ K. machine-option (both (one s) b) K ts (starts_one s b ts ∙ next_is s ts (sign_next s ts m w)) ∙ whole.passes K;
      shorter = whole.shorter;
    }

-- the form where it begins
pub present : {P : Phrase} {a : Form} {ts rest : List Lexeme} → first_in (starts a) ts ≡ true → Parses P a ts rest → Parses P (option a) ts rest
present {a = a} {ts = ts} h r = record { spelled = r.spelled; passes = λ K. machine-option a K ts h ∙ r.passes K; shorter = r.shorter }

pub present_fails : {a : Form} {ts : List Lexeme} {stop : Stop} → first_in (starts a) ts ≡ true → Fails a ts stop → Fails (option a) ts stop
present_fails {a = a} {ts = ts} h z = fails_after (λ K. K) (λ K. machine-option a K ts h) z

pub absent : (a : Form) (ts : List Lexeme) → first_in (starts a) ts ≡ false → Parses nothing (option a) ts ts
absent a ts h = record { spelled = refl; passes = λ K. machine-no_option a K ts h; shorter = omega arith }

pub option_fails : {b : Form} {ts m : List Lexeme} {stop : Stop} (s : Terminal) → sign s ts m → Fails b m stop → Fails (option (both (one s) b)) ts stop
option_fails {b = b} {ts = ts} {m = m} s w h =
    fails_after (λ K. K) (λ K. machine-option (both (one s) b) K ts (starts_one s b ts ∙ next_is s ts (sign_next s ts m w))) (fails_behind (parses_eaten s ts m w) h)

pub no_option : (s : Terminal) (b : Form) (ts : List Lexeme) → (next_terminal ts ≡ Some s → ⊥) → Parses nothing (option (both (one s) b)) ts ts
no_option s b ts h = record { spelled = refl; passes = λ K. machine-no_option (both (one s) b) K ts (starts_one s b ts ∙ next_not s ts h); shorter = omega arith }

not_next : (s : Terminal) (ts : List Lexeme) → (next_terminal ts ≡ Some s → ⊥) → optional s ts ts
not_next s [] h = inr (refl, tt)
not_next s (t ∷ ts) h = inr (refl, λ e. h (ap Some e))

pub parses_may : (s : Terminal) (ts m : List Lexeme) → sign s ts m → Parses (optional s) (may s) ts m
parses_may s ts m w = record { spelled = inl w; passes = λ K. machine-may s K ts m w; shorter = omega (arith, sign-shorter s ts m w) }

pub no_may : (s : Terminal) (ts : List Lexeme) → (next_terminal ts ≡ Some s → ⊥) → Parses (optional s) (may s) ts ts
no_may s ts h = record { spelled = not_next s ts h; passes = λ K. machine-may_not s K ts (next_not s ts h); shorter = omega arith }

-- taken where it is next
pub parses_eat : (s : Terminal) (ts us : List Lexeme) (b : Bool) → (b ≡ true → sign s ts us) → (b ≡ false → us ≡ ts) → (b ≡ false → next_terminal ts ≡ Some s → ⊥) → Parses (optional s) (may s) ts us
parses_eat s ts us true w same other = parses_may s ts us (w refl)
parses_eat s ts us false w same other = rw (same refl) (no_may s ts (other refl))

-- ---- as often as it begins

-- those found so far, and whatever follows
pub record EachSoFar {X : Type 0} (P : X → Phrase) (a : Form) (found : List X) (old now : List Lexeme) : Type 0 where
  pub spelled : (vs : List X) (rest : List Lexeme) → each P vs now rest → each P (found ++ vs) old rest
  pub passes : (K : State) → machine (several a ∷ K) old ≡ machine (several a ∷ K) now
  pub shorter : length now ≤ length old

pub each_first : {X : Type 0} (P : X → Phrase) (a : Form) (old : List Lexeme) → EachSoFar P a [] old old
each_first P a old = record { spelled = λ vs rest h. h; passes = λ K. refl; shorter = omega arith }

pub each_pushed : {X : Type 0} {P : X → Phrase} {a : Form} {old now next : List Lexeme} (found : List X) (v : X) → EachSoFar P a found old now → nullable a ≡ false → first_in (starts a) now ≡ true → Parses (P v) a now next
    → EachSoFar P a (found ++ v ∷ []) old next
each_pushed {P = P} {a = a} {old = old} {now = now} {next = next} found v so n h r = record {
  spelled = λ vs rest others. subst (λ u. each P u old rest) (sym (append_assoc found (v ∷ []) vs)) (so.spelled (v ∷ vs) rest (next, r.spelled, others));
  passes = λ K. so.passes K ∙ machine-several a K now n h ∙ r.passes (several a ∷ K);
  shorter = omega (arith, so.shorter, r.shorter);
}

pub each_fails : {X : Type 0} {P : X → Phrase} {a : Form} {old now : List Lexeme} {stop : Stop} (found : List X) → EachSoFar P a found old now → nullable a ≡ false → first_in (starts a) now ≡ true → Fails a now stop → Fails (several a) old stop
each_fails {a = a} {now = now} found so n h z = fails_after (λ K. several a ∷ K) (λ K. so.passes K ∙ machine-several a K now n h) z

pub fails_inside : {a : Form} {ts : List Lexeme} {stop : Stop} → first_in (starts a) ts ≡ true → Fails a ts stop → FailsInside a ts stop
fails_inside h z = record { begins = λ n e. h; fails = z }

-- one more of them fails
pub each_stops : {X : Type 0} {P : X → Phrase} {a : Form} {old now : List Lexeme} {stop : Stop} (found : List X) → EachSoFar P a found old now → nullable a ≡ false → FailsInside a now stop → Fails (several a) old stop
each_stops {a = a} {now = now} found so takes z = record { stops = λ n e K. so.passes K ∙ machine-several a K now takes (z.begins n e) ∙ z.fails.stops n e (several a ∷ K) }

pub each_read : {X : Type 0} {P : X → Phrase} {a : Form} {old now : List Lexeme} (found : List X) → EachSoFar P a found old now → first_in (starts a) now ≡ false → Parses (each P found) (several a) old now
each_read {P = P} {a = a} {old = old} {now = now} found so h = record {
  spelled = subst (λ u. each P u old now) (append-nil found) (so.spelled [] now refl);
  passes = λ K. so.passes K ∙ machine-no_several a K now h;
  shorter = so.shorter;
}

-- ---- with commas between them

pub record ListSoFar {X : Type 0} (P : X → Phrase) (a : Form) (found : List X) (old now : List Lexeme) : Type 0 where
  pub spelled : (vs : List X) (rest : List Lexeme) → more P vs now rest → first_of P (found ++ vs) old rest
  pub passes : (K : State) → machine (list_of a ∷ K) old ≡ machine (more_of a ∷ K) now
  pub shorter : length now ≤ length old

pub list_first : {X : Type 0} {P : X → Phrase} {a : Form} {old now : List Lexeme} (v : X) → Parses (P v) a old now → ListSoFar P a (v ∷ []) old now
list_first {a = a} {old = old} {now = now} v r = record { spelled = λ vs rest h. (now, r.spelled, h); passes = λ K. machine-both a (more_of a) K old ∙ r.passes (more_of a ∷ K); shorter = r.shorter }

more_starts : (a : Form) (ts m : List Lexeme) → sign x.Comma ts m → first_in (starts (both (one x.Comma) a)) ts ≡ true
more_starts a ts m w = starts_one x.Comma a ts ∙ next_is x.Comma ts (sign_next x.Comma ts m w)

passes_comma : (a : Form) (K : State) (ts m : List Lexeme) → sign x.Comma ts m → machine (more_of a ∷ K) ts ≡ machine (a ∷ more_of a ∷ K) m
passes_comma a K ts m w = machine-several (both (one x.Comma) a) K ts refl (more_starts a ts m w) ∙ machine-both (one x.Comma) a (more_of a ∷ K) ts ∙ on-one (a ∷ more_of a ∷ K) x.Comma ts m w

pub list_pushed : {X : Type 0} {P : X → Phrase} {a : Form} {old now m next : List Lexeme} (found : List X) (v : X) → ListSoFar P a found old now → sign x.Comma now m → Parses (P v) a m next → ListSoFar P a (found ++ v ∷ []) old next
list_pushed {P = P} {a = a} {old = old} {now = now} {m = m} {next = next} found v so w r = record {
  spelled = λ vs rest others. subst (λ u. first_of P u old rest) (sym (append_assoc found (v ∷ []) vs)) (so.spelled (v ∷ vs) rest (m, w, (next, r.spelled, others)));
  passes = λ K. so.passes K ∙ passes_comma a K now m w ∙ r.passes (more_of a ∷ K);
  shorter = omega (arith, so.shorter, sign-shorter x.Comma now m w, r.shorter);
}

pub list_fails : {X : Type 0} {P : X → Phrase} {a : Form} {old now m : List Lexeme} {stop : Stop} (found : List X) → ListSoFar P a found old now → sign x.Comma now m → Fails a m stop → Fails (list_of a) old stop
list_fails {a = a} {now = now} {m = m} found so w z = fails_after (λ K. more_of a ∷ K) (λ K. so.passes K ∙ passes_comma a K now m w) z

pub list_read : {X : Type 0} {P : X → Phrase} {a : Form} {old now : List Lexeme} (found : List X) → ListSoFar P a found old now → (next_terminal now ≡ Some x.Comma → ⊥) → Parses (first_of P found) (list_of a) old now
list_read {P = P} {a = a} {old = old} {now = now} found so h = record {
  spelled = subst (λ u. first_of P u old now) (append-nil found) (so.spelled [] now refl);
  passes = λ K. so.passes K ∙ machine-no_several (both (one x.Comma) a) K now (starts_one x.Comma a now ∙ next_not x.Comma now h);
  shorter = so.shorter;
}

-- ---- one or the other

-- neither the name of a kind nor a name comes next
abbrev pub is_type_word : Option Terminal → Bool
is_type_word (Some (x.Kind k)) = true
is_type_word (Some x.Word) = true
is_type_word _ = false

pub no_kind : (ts : List Lexeme) → is_type_word (next_terminal ts) ≡ false → first_in w.is_kind ts ≡ false
no_kind [] h = refl
no_kind (t ∷ ts) h = at t.terminal h
  where
    at : (u : Terminal) → is_type_word (Some u) ≡ false → w.is_kind u ≡ false
    at (x.Kind k) h = cc
    at _ h = refl

pub no_word : (ts : List Lexeme) → is_type_word (next_terminal ts) ≡ false → first_in (same_terminal x.Word) ts ≡ false
no_word ts h = next_not x.Word ts (λ e. let bad : is_type_word (Some x.Word) ≡ false = subst (λ o. is_type_word o ≡ false) e h in cc)

pub parses_first : {P : Phrase} {a b : Form} {ts rest : List Lexeme} → nullable a ≡ false → first_in (starts a) ts ≡ true → Parses P a ts rest → Parses P (either a b) ts rest
parses_first {a = a} {b = b} {ts = ts} n h r = record { spelled = r.spelled; passes = λ K. machine-first a b K ts n h ∙ r.passes K; shorter = r.shorter }

pub first_fails : {a b : Form} {ts : List Lexeme} {stop : Stop} → nullable a ≡ false → first_in (starts a) ts ≡ true → Fails a ts stop → Fails (either a b) ts stop
first_fails {a = a} {b = b} {ts = ts} n h z = fails_after (λ K. K) (λ K. machine-first a b K ts n h) z

pub parses_second : {P : Phrase} {a b : Form} {ts rest : List Lexeme} → first_in (starts a) ts ≡ false → Parses P b ts rest → Parses P (either a b) ts rest
parses_second {a = a} {b = b} {ts = ts} h r = record { spelled = r.spelled; passes = λ K. machine-second a b K ts h ∙ r.passes K; shorter = r.shorter }

pub second_fails : {a b : Form} {ts : List Lexeme} {stop : Stop} → first_in (starts a) ts ≡ false → Fails b ts stop → Fails (either a b) ts stop
second_fails {a = a} {b = b} {ts = ts} h z = fails_after (λ K. K) (λ K. machine-second a b K ts h) z

either_begins : (a b : Form) (ts : List Lexeme) → first_in (starts a) ts ≡ false → first_in (starts (either a b)) ts ≡ first_in (starts b) ts
either_begins a b [] h = refl
either_begins a b (t ∷ ts) h = rw h refl

pub second_inside : {a b : Form} {ts : List Lexeme} {stop : Stop} → first_in (starts a) ts ≡ false → FailsInside b ts stop → FailsInside (either a b) ts stop
second_inside {a = a} {b = b} {ts = ts} h z = record { begins = λ n e. either_begins a b ts h ∙ z.begins n e; fails = second_fails h z.fails }

pub perhaps_second : {P : Phrase} {a b : Form} {ts rest : List Lexeme} → first_in (starts a) ts ≡ false → (first_in (starts b) ts ≡ true) × Parses P b ts rest → (first_in (starts (either a b)) ts ≡ true) × Parses P (either a b) ts rest
perhaps_second {a = a} {b = b} {ts = ts} h r = (either_begins a b ts h ∙ r.0, parses_second h r.1)

pub perhaps_none : (a b : Form) {ts rest : List Lexeme} → first_in (starts a) ts ≡ false → (rest ≡ ts) × (first_in (starts b) ts ≡ false) → (rest ≡ ts) × (first_in (starts (either a b)) ts ≡ false)
perhaps_none a b {ts = ts} h r = (r.0, either_begins a b ts h ∙ r.1)

-- ---- what the functions over statements read

ended : (rest : List Lexeme) → s.machine [] rest ≡ (true, length rest)
ended [] = refl
ended (t ∷ ts) = refl

inside_parses : {P : Phrase} {ts rest : List Lexeme} (wanted : s.State → s.State) → IsFront P → m.Parses P wanted m.same ts rest → Parses P (inside (wanted [])) ts rest
inside_parses {P = P} {ts = ts} {rest = rest} wanted f r =
    let b = f ts rest r.spelled in
    let run : s.machine (wanted []) (b.tokens ++ rest) ≡ (true, length rest) = subst (λ u. s.machine (wanted []) u ≡ (true, length rest)) b.whole (r.passes [] ∙ ended rest) in
    record {
      spelled = r.spelled;
      passes = λ K. subst (λ u. machine (inside (wanted []) ∷ K) u ≡ machine K rest) (sym b.whole) (inside-passes b.tokens rest (wanted []) K run);
      shorter = r.shorter;
    }

inside_fails : {ts : List Lexeme} {stop : Stop} (wanted : s.State → s.State) → m.Fails wanted ts stop → Fails (inside (wanted [])) ts stop
inside_fails {ts = ts} wanted h = record { stops = λ n e K. inside-fails ts (wanted []) K n (subst (m.Fails wanted ts) e h []) }

pub expression_parses : {ts rest : List Lexeme} (v : Expression ℕ) → m.Parses (g.expression v 0) m.for_expression m.same ts rest → Parses (g.expression v 0) w.expression ts rest
unfolding w.expression
expression_parses v r = inside_parses m.for_expression (front _ (of_expression v 0)) r

pub expression_fails : {ts : List Lexeme} {stop : Stop} → m.Fails m.for_expression ts stop → Fails w.expression ts stop
unfolding w.expression
expression_fails h = inside_fails m.for_expression h

pub value_parses : {ts rest : List Lexeme} (i : Initial ℕ) → m.Parses (g.initial i) m.for_initial m.same ts rest → Parses (g.initial i) w.value ts rest
unfolding w.value
value_parses i r = inside_parses m.for_initial (front _ (of_initial i)) r

pub value_fails : {ts : List Lexeme} {stop : Stop} → m.Fails m.for_initial ts stop → Fails w.value ts stop
unfolding w.value
value_fails h = inside_fails m.for_initial h

pub body_parses : {ts rest : List Lexeme} (t : Terminal) (free : s.IsNoStatement t) (q : s.Quiet t) (ss : Statements ℕ) → m.ReadsUntil (g.body ss ⋆ sign t) t ts rest → Parses (g.body ss ⋆ sign t) (w.body t free q) ts rest
unfolding w.body
body_parses t free q ss r = inside_parses (λ K. s.body (s.until t free q) ∷ K) (both_fronts _ _ (of_body ss) (front _ (of_sign t))) (r free q)

pub body_fails : {ts : List Lexeme} {stop : Stop} (t : Terminal) (free : s.IsNoStatement t) (q : s.Quiet t) → m.UntilFails t ts stop → Fails (w.body t free q) ts stop
unfolding w.body
body_fails t free q h = inside_fails (λ K. s.body (s.until t free q) ∷ K) (h free q)
