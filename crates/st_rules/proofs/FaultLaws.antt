-- The least of rules that are broken: lists may be joined, and the least is among them with none before it.
use Rattle.std.proofs.Common.{◌≡◌, ℕ, Bool, true, false, [], ◌∷◌, ◌++◌, Option, Some, None, refl, sym, ap, ◌∙◌, arith, subst, inl, inr}
use Rattle.std.specs.Prelude.{nat_lt, nat_eq, ◌||◌, ◌&&◌, if◌then◌else◌, MatchOption}
use Rattle.std.proofs.lemmas.Grind.{common_steps}
use Rattle.plc_text.specs.declared.code.Code.{Code}
use Rattle.st_rules.specs.Faults.{rank, comes_before, earlier, least, Faults, Breaks, BreaksFirst, when}

abbrev Fault : Type 0
Fault = Code × ℕ

abbrev lex : ℕ → ℕ → ℕ → ℕ → Bool
lex a b c d = nat_lt a c || nat_eq a c && nat_lt b d

lex_trans : (a b c d e f : ℕ) → lex a b c d ≡ true → lex c d e f ≡ true → lex a b e f ≡ true
lex_trans a b c d e f h k = grind (arith, common_steps)

lex_back : (a b c d e f : ℕ) → lex a b c d ≡ false → lex c d e f ≡ false → lex a b e f ≡ false
lex_back a b c d e f h k = grind (arith, common_steps)

lex_self : (a b : ℕ) → lex a b a b ≡ false
lex_self a b = grind (arith, common_steps)

lex_turn : (a b c d : ℕ) → lex a b c d ≡ true → lex c d a b ≡ false
lex_turn a b c d h = grind (arith, common_steps)

before_trans : (x y z : Fault) → comes_before x y ≡ true → comes_before y z ≡ true → comes_before x z ≡ true
before_trans x y z h k = lex_trans (rank x.0) x.1 (rank y.0) y.1 (rank z.0) z.1 h k

before_back : (x y z : Fault) → comes_before x y ≡ false → comes_before y z ≡ false → comes_before x z ≡ false
before_back x y z h k = lex_back (rank x.0) x.1 (rank y.0) y.1 (rank z.0) z.1 h k

before_self : (x : Fault) → comes_before x x ≡ false
before_self x = lex_self (rank x.0) x.1

before_turn : (x y : Fault) → comes_before x y ≡ true → comes_before y x ≡ false
before_turn x y h = lex_turn (rank x.0) x.1 (rank y.0) y.1 h

three : (x y z : Fault) (p q r : Bool) → comes_before y x ≡ p → comes_before z y ≡ q → comes_before z x ≡ r →
    earlier (Some x) (earlier (Some y) (Some z)) ≡ earlier (earlier (Some x) (Some y)) (Some z)
three x y z true true true h k l = simp (h, k, l)
three x y z true true false h k l = cc (before_trans z y x k h)
three x y z true false true h k l = simp (h, k)
three x y z true false false h k l = simp (h, k)
three x y z false true true h k l = simp (h, k, l)
three x y z false true false h k l = simp (h, k, l)
three x y z false false true h k l = cc (before_back z y x k h)
three x y z false false false h k l = simp (h, k, l)

pub earlier-assoc : (a b c : Option Fault) → earlier a (earlier b c) ≡ earlier (earlier a b) c
earlier-assoc None b c = refl
earlier-assoc (Some x) None c = refl
earlier-assoc (Some x) (Some y) None = refl
earlier-assoc (Some x) (Some y) (Some z) = three x y z _ _ _ refl refl refl

pub earlier-none : (a : Option Fault) → earlier a None ≡ a
earlier-none None = refl
earlier-none (Some x) = refl

pub least-append : (xs ys : Faults) → least (xs ++ ys) ≡ earlier (least xs) (least ys)
least-append [] ys = refl
least-append (f ∷ fs) ys = ap (earlier (Some f)) (least-append fs ys) ∙ earlier-assoc (Some f) (least fs) (least ys)

pub ruleset faults = (earlier-none, least-append)

-- ---- the least of a list

none-some : (f : Fault) → None ≡ Some f → ⊥
none-some f e = cc e

some-none : (f : Fault) → Some f ≡ None → ⊥
some-none f e = cc e

some-some : (f g : Fault) → Some f ≡ Some g → f ≡ g
some-some f g e = cc e

earlier_some : (f : Fault) (o : Option Fault) → earlier (Some f) o ≡ None → ⊥
earlier_some f None e = some-none f e
earlier_some f (Some g) e = some-none _ e

none_broken : (fs : Faults) → least fs ≡ None → fs ≡ []
none_broken [] e = refl
none_broken (g ∷ gs) e = absurd (earlier_some g (least gs) e)

record IsLeast (f : Fault) (fs : Faults) : Type 0 where
  broken : Breaks fs f.0 f.1
  first : (g : Fault) → Breaks fs g.0 g.1 → comes_before g f ≡ false

one : (x : Fault) (xs : Faults) → least xs ≡ None → IsLeast x (x ∷ xs)
one x xs e = record {
  broken = inl refl;
  first = λ g m. elim m [ inl q ↦ ap (λ y. comes_before y x) (sym q) ∙ before_self x | inr q ↦ absurd (subst (λ (ys : Faults). Breaks ys g.0 g.1) (none_broken xs e) q) ];
}

picked : (x h : Fault) (xs : Faults) (b : Bool) → comes_before h x ≡ b → IsLeast h xs → IsLeast (if b then h else x) (x ∷ xs)
picked x h xs true e l = record {
  broken = inr l.broken;
  first = λ g m. elim m [ inl q ↦ ap (λ y. comes_before y h) (sym q) ∙ before_turn h x e | inr q ↦ l.first g q ];
}
picked x h xs false e l = record {
  broken = inl refl;
  first = λ g m. elim m [ inl q ↦ ap (λ y. comes_before y x) (sym q) ∙ before_self x | inr q ↦ before_back g h x (l.first g q) e ];
}

of : (x : Fault) (xs : Faults) (o : Option Fault) → least xs ≡ o → ((h : Fault) → least xs ≡ Some h → IsLeast h xs) → (f : Fault) → earlier (Some x) o ≡ Some f → IsLeast f (x ∷ xs)
of x xs None e i f h = subst (λ (y : Fault). IsLeast y (x ∷ xs)) (some-some x f h) (one x xs e)
of x xs (Some g) e i f h = subst (λ (y : Fault). IsLeast y (x ∷ xs)) (some-some _ f h) (picked x g xs (comes_before g x) refl (i g e))

least_is : (fs : Faults) (f : Fault) → least fs ≡ Some f → IsLeast f fs
least_is [] f e = absurd (none-some f e)
least_is (x ∷ xs) f e = of x xs (least xs) refl (λ h. least_is xs h) f e

first_of : (fs : Faults) (o : Option Fault) → least fs ≡ o → MatchOption o (fs ≡ []) (λ f. BreaksFirst fs f.0 f.1)
first_of fs None e = none_broken fs e
first_of fs (Some f) e = let l : IsLeast f fs = least_is fs f e in record { broken = l.broken; first = λ code line b. l.first (code, line) b }

pub least_breaks_first : (fs : Faults) → MatchOption (least fs) (fs ≡ []) (λ f. BreaksFirst fs f.0 f.1)
least_breaks_first fs = first_of fs (least fs) refl

-- two rules of one code at one line are one
pub when-or : (a b : Bool) (c : Code) (l : ℕ) → earlier (least (when a c l)) (least (when b c l)) ≡ least (when (a || b) c l)
when-or true true c l = ap (λ x. Some (if x then (c, l) else (c, l))) (before_self (c, l))
when-or true false c l = refl
when-or false true c l = refl
when-or false false c l = refl
