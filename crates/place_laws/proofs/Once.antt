-- No two arguments of a call that breaks no rule go to one parameter.
use Rattle.std.proofs.Common.{◌≡◌, ◌≤◌, ℕ, suc, ◌+◌, Bool, true, false, List, [], ◌∷◌, ◌++◌, Some, None, refl, sym, ap, ◌∙◌, subst, arith, nat_eq}
use Rattle.std.specs.Prelude.{◌||◌, ◌&&◌, if◌then◌else◌, slice_get}
use Rattle.std.specs.List.{list_any}
use Rattle.std.specs.Option.{is_none}
use Rattle.std.proofs.lemmas.Bool.{eqb-true}
use Rattle.std.proofs.lemmas.Slice.Eq.{bytes_eq-Decides}
use Rattle.plc_text.specs.Words.{same}
use Rattle.plc_text.specs.declared.code.Code.TheVariants.{E09}
use Rattle.st_tree.specs.declared.program.Note.{Note}
use Rattle.st_tree.specs.Expression.{Positional, Input, Output, Arguments, no_arguments, argument_then}
use Rattle.st_rules.proofs.Booleans.{some-same, both, neither}
use Rattle.st_rules.specs.declared.names.DeclaredVariable.{DeclaredVariable}
use Rattle.st_rules.specs.Chains.{is_among}
use Rattle.st_rules.specs.Faults.{when}
use Rattle.st_rules.specs.Scope.{Scope}
use Rattle.st_rules.specs.Calls.{is_unnamed, is_named, heads, names_input, names_output, names_among, is_given, is_taken, parameter_from, Matched, matched, matches, has_right_number, given_from, positional_and_named_mixed, wrong_number_of_positional, unknown_or_repeated, named_unknown_or_twice, in_out_left_out, matching_faults}
use Rattle.st_rules.specs.Expressions.{typed_arguments, matched_target}
use Rattle.st_values.specs.Program.{Parameter}
use Rattle.st_meaning.specs.Call.{is_output, parameter_number, behind_next}
use Rattle.st_meaning.specs.st_frame.Promise.Calls.{next_number, written_numbers, Distinct, GivenOnce}
use Rattle.place_laws.proofs.Words.{none_in, not_when, four}

-- ---- numbers

abbrev AllFrom : ℕ → List ℕ → Type 0
AllFrom i [] = Unit {0}
AllFrom i (n ∷ ns) = (i ≤ n) × AllFrom i ns

further : (i k : ℕ) (ns : List ℕ) → i ≤ k → AllFrom k ns → AllFrom i ns
further i k [] h f = tt
further i k (n ∷ ns) h f = let l = f.0 in (omega (arith, h, l), further i k ns h f.1)

no_less : (k n : ℕ) → suc k ≤ n → n ≡ k → ⊥
no_less k n h e = omega (arith, h, e)

not_above : (k : ℕ) (ns : List ℕ) → AllFrom (suc k) ns → is_among k ns ≡ false
not_above k [] h = refl
not_above k (n ∷ ns) h = by (nat_eq k n) refl (not_above k ns h.1)
  where
    by : (b : Bool) → nat_eq k n ≡ b → is_among k ns ≡ false → (b || is_among k ns) ≡ false
    by true e f = absurd (no_less k n h.0 (sym (eqb-true k n e)))
    by false e f = f

next_from : (i : ℕ) (left : List Parameter) → i ≤ next_number i left
next_from i [] = omega arith
next_from i (q ∷ left) = by (is_output q.sort) (next_from (suc i) left)
  where
    by : (b : Bool) → suc i ≤ next_number (suc i) left → i ≤ (if b then next_number (suc i) left else i)
    by true h = omega (arith, h)
    by false h = omega arith

-- ---- arguments without names: their numbers rise

abbrev AreUnnamed : Arguments Note → Type 0
AreUnnamed no_arguments = Unit {0}
AreUnnamed (argument_then (Positional e) xs) = AreUnnamed xs
AreUnnamed _ = ⊥

rising : (xs : Arguments Note) → AreUnnamed xs → (i : ℕ) (left : List Parameter) → AllFrom i (written_numbers i left xs) × Distinct (written_numbers i left xs)
rising no_arguments u i left = (tt, tt)
rising (argument_then (Positional e) xs) u i left =
    let n = next_number i left in
    let r = rising xs u (suc n) (behind_next left) in
    let f : i ≤ n = next_from i left in
    ((f, further i (suc n) _ (omega (arith, f)) r.0), (not_above n _ r.0, r.1))
rising (argument_then (Input a name e) xs) u i left = absurd u
rising (argument_then (Output a name b r ss) xs) u i left = absurd u

unnamed_typed : (s : Scope) (ms : List Matched) (xs : Arguments ℕ) → list_any is_named (heads xs) ≡ false → AreUnnamed (typed_arguments s ms xs)
unnamed_typed s ms no_arguments h = tt
unnamed_typed s ms (argument_then (Positional e) xs) h = unnamed_typed s _ xs h
unnamed_typed s ms (argument_then (Input l name e) xs) h = cc
unnamed_typed s ms (argument_then (Output l name k r ss) xs) h = cc

-- ---- arguments with names: each is for the parameter of its name

-- the parameter has a name that is not among these
pub record IsFresh (vs : List DeclaredVariable) (earlier : List (List ℕ)) (k : ℕ) : Type 0 where
  pub name : List ℕ
  pub variable : DeclaredVariable
  pub there : slice_get vs k ≡ Some variable
  pub named : same variable.name name ≡ true
  pub fresh : names_among name earlier ≡ false

abbrev AllFresh : List DeclaredVariable → List (List ℕ) → List ℕ → Type 0
AllFresh vs earlier [] = Unit {0}
AllFresh vs earlier (n ∷ ns) = IsFresh vs earlier n × AllFresh vs earlier ns

fewer : (name : List ℕ) (earlier more : List (List ℕ)) → names_among name (earlier ++ more) ≡ false → names_among name earlier ≡ false
fewer name [] more h = refl
fewer name (e ∷ earlier) more h = let p = neither (same name e) (names_among name (earlier ++ more)) h in by (same name e) p.0 (fewer name earlier more p.1)
  where
    by : (b : Bool) → b ≡ false → names_among name earlier ≡ false → (b || names_among name earlier) ≡ false
    by true f g = cc
    by false f g = g

last_among : (name : List ℕ) (earlier : List (List ℕ)) (last : List ℕ) → names_among name (earlier ++ last ∷ []) ≡ false → same name last ≡ false
last_among name [] last h = (neither (same name last) false h).0
last_among name (e ∷ earlier) last h = last_among name earlier last (neither (same name e) (names_among name (earlier ++ last ∷ [])) h).1

all_fewer : (vs : List DeclaredVariable) (earlier more : List (List ℕ)) (ns : List ℕ) → AllFresh vs (earlier ++ more) ns → AllFresh vs earlier ns
all_fewer vs earlier more [] h = tt
all_fewer vs earlier more (n ∷ ns) h =
    let f = h.0 in
    (record { name = f.name; variable = f.variable; there = f.there; named = f.named; fresh = fewer f.name earlier more f.fresh }, all_fewer vs earlier more ns h.1)

-- one that is fresh beside a name is none of it
another : (vs : List DeclaredVariable) (earlier : List (List ℕ)) (name : List ℕ) (v : DeclaredVariable) (k n : ℕ) → slice_get vs k ≡ Some v → same v.name name ≡ true → IsFresh vs (earlier ++ name ∷ []) n → n ≡ k → ⊥
another vs earlier name v k n there named f e =
    let d : v ≡ f.variable = some-same (sym there ∙ (ap (slice_get vs) (sym e) ∙ f.there)) in
    let a : v.name ≡ name = (bytes_eq-Decides v.name name).0 named in
    let b : f.variable.name ≡ f.name = (bytes_eq-Decides f.variable.name f.name).0 f.named in
    let c : f.name ≡ name = sym b ∙ (ap (λ w. w.name) (sym d) ∙ a) in
    let t : same f.name name ≡ true = (bytes_eq-Decides f.name name).1 c in
    let u : same f.name name ≡ false = last_among f.name earlier name f.fresh in
    cc

not_fresh : (vs : List DeclaredVariable) (earlier : List (List ℕ)) (name : List ℕ) (v : DeclaredVariable) (k : ℕ) (ns : List ℕ) → slice_get vs k ≡ Some v → same v.name name ≡ true → AllFresh vs (earlier ++ name ∷ []) ns → is_among k ns ≡ false
not_fresh vs earlier name v k [] there named h = refl
not_fresh vs earlier name v k (n ∷ ns) there named h = by (nat_eq k n) refl (not_fresh vs earlier name v k ns there named h.1)
  where
    by : (b : Bool) → nat_eq k n ≡ b → is_among k ns ≡ false → (b || is_among k ns) ≡ false
    by true e f = absurd (another vs earlier name v k n there named h.0 (sym (eqb-true k n e)))
    by false e f = f

-- the parameter of a name stands at its number
pub record IsAt (vs : List DeclaredVariable) (k : ℕ) (name : List ℕ) (m : ℕ × DeclaredVariable) : Type 0 where
  pub place : ℕ
  pub number : m.0 ≡ k + place
  pub there : slice_get vs place ≡ Some m.1
  pub named : same m.1.name name ≡ true

parameter_at : (test : DeclaredVariable → Bool) (k : ℕ) (name : List ℕ) (vs : List DeclaredVariable) (m : ℕ × DeclaredVariable) → parameter_from test k name vs ≡ Some m → IsAt vs k name m
parameter_at test k name [] m e = cc
parameter_at test k name (v ∷ vs) m e = by (λ f. parameter_at test (suc k) name vs m f) (test v && same v.name name) refl e
  where
    by : (parameter_from test (suc k) name vs ≡ Some m → IsAt vs (suc k) name m) → (b : Bool) → (test v && same v.name name) ≡ b → (if b then Some (k, v) else parameter_from test (suc k) name vs) ≡ Some m → IsAt (v ∷ vs) k name m
    by rest true f g =
        let d : (k, v) ≡ m = some-same g in
        let z : k ≡ k + 0 = omega arith in
        subst (IsAt (v ∷ vs) k name) d (record { place = 0; number = z; there = refl; named = (both (test v) (same v.name name) f).1 })
    by rest false f g =
        let r = rest g in
        let q : m.0 ≡ suc k + r.place = r.number in
        record { place = suc r.place; number = omega (arith, q); there = r.there; named = r.named }

number_of : (m : ℕ × DeclaredVariable) → parameter_number (matched_target (Some m)) ≡ m.0
unfolding matched_target
number_of m = refl

-- one argument more, with a name
one_more : (test : DeclaredVariable → Bool) (vs : List DeclaredVariable) (earlier : List (List ℕ)) (l : ℕ) (name : List ℕ) (o : Matched) → parameter_from test 0 name vs ≡ o → when (is_none o || names_among name earlier) E09 l ≡ [] → (ns : List ℕ) → AllFresh vs (earlier ++ name ∷ []) ns → Distinct ns
    → AllFresh vs earlier (parameter_number (matched_target o) ∷ ns) × Distinct (parameter_number (matched_target o) ∷ ns)
one_more test vs earlier l name None e f ns h d = cc
one_more test vs earlier l name (Some m) e f ns h d =
    let a = parameter_at test 0 name vs m e in
    let q : m.0 ≡ 0 + a.place = a.number in
    let z : a.place ≡ parameter_number (matched_target (Some m)) = omega (arith, q) ∙ sym (number_of m) in
    let there : slice_get vs (parameter_number (matched_target (Some m))) ≡ Some m.1 = subst (λ k. slice_get vs k ≡ Some m.1) z a.there in
    let new : names_among name earlier ≡ false = not_when (names_among name earlier) E09 l f in
    ((record { name = name; variable = m.1; there = there; named = a.named; fresh = new }, all_fewer vs earlier (name ∷ []) ns h), (not_fresh vs earlier name m.1 (parameter_number (matched_target (Some m))) ns there a.named h, d))

named_apart : (s : Scope) (vs : List DeclaredVariable) (left : List (ℕ × DeclaredVariable)) (xs : Arguments ℕ) (earlier : List (List ℕ)) → list_any is_unnamed (heads xs) ≡ false → named_unknown_or_twice vs earlier (heads xs) ≡ [] → (i : ℕ) (lq : List Parameter)
    → AllFresh vs earlier (written_numbers i lq (typed_arguments s (matched vs left (heads xs)) xs)) × Distinct (written_numbers i lq (typed_arguments s (matched vs left (heads xs)) xs))
named_apart s vs left no_arguments earlier u f i lq = (tt, tt)
named_apart s vs left (argument_then (Positional e) xs) earlier u f i lq = cc
named_apart s vs left (argument_then (Input l name e) xs) earlier u f i lq =
    let us = none_in (unknown_or_repeated vs earlier (names_input l name)) (named_unknown_or_twice vs (earlier ++ name ∷ []) (heads xs)) f in
    let r = named_apart s vs left xs (earlier ++ name ∷ []) u us.1 i lq in
    one_more is_given vs earlier l name (parameter_from is_given 0 name vs) refl us.0 _ r.0 r.1
named_apart s vs left (argument_then (Output l name k r ss) xs) earlier u f i lq =
    let us = none_in (unknown_or_repeated vs earlier (names_output l name)) (named_unknown_or_twice vs (earlier ++ name ∷ []) (heads xs)) f in
    let r = named_apart s vs left xs (earlier ++ name ∷ []) u us.1 i lq in
    one_more is_taken vs earlier l name (parameter_from is_taken 0 name vs) refl us.0 _ r.0 r.1

-- arguments have names all of them, or none
pub given_once : (s : Scope) (l : ℕ) (vs : List DeclaredVariable) (qs : List Parameter) (xs : Arguments ℕ) → matching_faults l vs (heads xs) ≡ [] → GivenOnce qs (typed_arguments s (matches vs (heads xs)) xs)
given_once s l vs qs xs m = by (list_any is_unnamed (heads xs)) refl (not_when (list_any is_unnamed (heads xs) && list_any is_named (heads xs)) E09 l fs.0)
  where
    fs : (positional_and_named_mixed l (heads xs) ≡ []) × (wrong_number_of_positional l vs (heads xs) ≡ []) × (named_unknown_or_twice vs [] (heads xs) ≡ []) × (in_out_left_out l vs (heads xs) ≡ [])
    fs = four (positional_and_named_mixed l (heads xs)) (wrong_number_of_positional l vs (heads xs)) (named_unknown_or_twice vs [] (heads xs)) (in_out_left_out l vs (heads xs)) m

    by : (b : Bool) → list_any is_unnamed (heads xs) ≡ b → (b && list_any is_named (heads xs)) ≡ false → GivenOnce qs (typed_arguments s (matches vs (heads xs)) xs)
    by true e h = (rising (typed_arguments s (matches vs (heads xs)) xs) (unnamed_typed s (matches vs (heads xs)) xs h) 0 qs).1
    by false e h = (named_apart s vs (if has_right_number vs (heads xs) then given_from 0 vs else []) xs [] e fs.2 0 qs).1
