-- Names that were seen, one after the other.
use Rattle.std.proofs.Common.{◌≡◌, ℕ, nat_eq, Bool, true, false, List, [], ◌∷◌, ◌++◌, Option, refl, sym, ap, ◌∙◌, arith}
use Rattle.std.proofs.lemmas.Grind.{common_steps}
use Rattle.std.specs.Prelude.{◌||◌, ◌&&◌}
use Rattle.std.specs.List.{list_any}
use Rattle.plc_text.specs.Words.{same}
use Rattle.plc_text.specs.declared.code.Code.{Code}
use Rattle.st_rules.specs.declared.names.DeclaredVariable.{DeclaredVariable}
use Rattle.st_rules.specs.Faults.{least, earlier}
use Rattle.st_rules.proofs.FaultLaws.{least-append, earlier-assoc}
use Rattle.st_rules.specs.Calls.{Head, names_among, head_names, unknown_or_repeated, named_unknown_or_twice}
use Rattle.check_calls.specs.Private.Names.{NameSet, is_in}
use Rattle.check_calls.specs.Private.Seen.{OneHead}

nat_turn : (m n : ℕ) → nat_eq m n ≡ nat_eq n m
nat_turn m n = grind (arith, common_steps)

pub same_turn : (a b : List ℕ) → same a b ≡ same b a
same_turn [] [] = refl
same_turn [] (y ∷ ys) = refl
same_turn (x ∷ xs) [] = refl
same_turn (x ∷ xs) (y ∷ ys) = ap (λ t. t && same xs ys) (nat_turn x y) ∙ ap (λ t. nat_eq y x && t) (same_turn xs ys)

either_turn : (a b : Bool) → (a || b) ≡ (b || a)
either_turn true true = refl
either_turn true false = refl
either_turn false true = refl
either_turn false false = refl

pub among_more : (q name : List ℕ) (names : List (List ℕ)) → names_among q (names ++ name ∷ []) ≡ (same name q || names_among q names)
among_more q name [] = ap (λ t. t || false) (same_turn q name)
among_more q name (n ∷ ns) = ap (λ t. same q n || t) (among_more q name ns) ∙ mixed (same q n) (same name q) (names_among q ns)
  where
    mixed : (a b c : Bool) → (a || (b || c)) ≡ (b || (a || c))
    mixed true true c = refl
    mixed true false c = refl
    mixed false b c = refl

-- what was seen and broken so far, with what the arguments that are left break
pub record SeenSoFar (ps : List DeclaredVariable) (seen : NameSet) (found : Option (Code × ℕ)) (left all : List Head) : Type 0 where
  pub names : List (List ℕ)
  pub are_seen : (q : List ℕ) → is_in seen q ≡ names_among q names
  pub whole : earlier found (least (named_unknown_or_twice ps names left)) ≡ least (named_unknown_or_twice ps [] all)

pub one_more : (ps : List DeclaredVariable) (seen new : NameSet) (found fault next : Option (Code × ℕ)) (h : Head) (left all : List Head)
    (so_far : SeenSoFar ps seen found (h ∷ left) all) → OneHead new so_far.names h fault ps → next ≡ earlier found fault → SeenSoFar ps new next left all
one_more ps seen new found fault next h left all so_far one e = record {
  names = so_far.names ++ head_names h;
  are_seen = one.are_seen;
  whole = ap (λ n. earlier n (least (named_unknown_or_twice ps (so_far.names ++ head_names h) left))) (e ∙ ap (earlier found) one.fault_is)
      ∙ sym (earlier-assoc found (least (unknown_or_repeated ps so_far.names h)) (least (named_unknown_or_twice ps (so_far.names ++ head_names h) left)))
      ∙ ap (earlier found) (sym (least-append (unknown_or_repeated ps so_far.names h) (named_unknown_or_twice ps (so_far.names ++ head_names h) left)))
      ∙ so_far.whole;
}

-- tests that agree pass the same
pub any_same : {X : Type 0} (p q : X → Bool) → ((x : X) → p x ≡ q x) → (xs : List X) → list_any p xs ≡ list_any q xs
any_same p q h [] = refl
any_same p q h (x ∷ xs) = ap (λ t. t || list_any p xs) (h x) ∙ ap (λ t. q x || t) (any_same p q h xs)
