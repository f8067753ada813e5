-- Spans are taken one list after the other.
use Rattle.std.proofs.Common.{◌≡◌, ℕ, ◌+◌, ◌<◌, ◌≤◌, Bool, List, [], ◌∷◌, ◌++◌, length, get_or, take, sym, ap, ◌∙◌, subst, append_assoc, append-nil}
use Rattle.std.specs.Prelude.{◌||◌, flat_map}
use Rattle.std.proofs.lemmas.List.Concat.{flat_map-append}
use Rattle.st_rules.proofs.ListLaws.{take-at, take-end}
use Rattle.check_regions.specs.declared.shared_bits.span.Span.{Span}
use Rattle.check_regions.specs.shared_bits.Private.Spans.{Marks, shares, TakesSpans}

pub takes_nothing : (marks : List Bool) (shared : Bool) → TakesSpans marks marks shared shared []
takes_nothing marks shared = record {
  marks = λ taken m. subst (λ (ss : List Span). Marks marks ss) (sym (append-nil taken)) m;
  told = λ taken rest m. ap (λ ss. shared || shares ss rest) (append-nil taken);
}

pub takes_both : (a b c : List Bool) (s r q : Bool) (xs ys : List Span) → TakesSpans a b s r xs → TakesSpans b c r q ys → TakesSpans a c s q (xs ++ ys)
takes_both a b c s r q xs ys f g = record {
  marks = λ taken m. subst (λ (ss : List Span). Marks c ss) (append_assoc taken xs ys) (g.marks (taken ++ xs) (f.marks taken m));
  told = λ taken rest m.
      ap (λ ss. q || shares ss rest) (sym (append_assoc taken xs ys))
      ∙ g.told (taken ++ xs) rest (f.marks taken m)
      ∙ f.told taken (ys ++ rest) m
      ∙ ap (λ ss. s || shares taken ss) (sym (append_assoc xs ys rest));
}

pub takes_same : (a b : List Bool) (s r : Bool) (xs ys : List Span) → xs ≡ ys → TakesSpans a b s r xs → TakesSpans a b s r ys
takes_same a b s r xs ys e t = subst (λ (ss : List Span). TakesSpans a b s r ss) e t

module _ {X : Type 0} (f : X → List Span) (xs : List X) (i : ℕ) where
  pub takes_next : (x : X) (a b c : List Bool) (s r q : Bool) → i < length xs → x ≡ get_or xs i x → TakesSpans a b s r (flat_map f (take i xs)) → TakesSpans b c r q (f x) → TakesSpans a c s q (flat_map f (take (i + 1) xs))
  takes_next x a b c s r q l e t g =
      takes_same a c s q (flat_map f (take i xs) ++ f x) (flat_map f (take (i + 1) xs))
      (ap (λ ys. flat_map f (take i xs) ++ ys) (sym (append-nil (f x))) ∙ sym (flat_map-append f (take i xs) (x ∷ [])) ∙ ap (flat_map f) (sym (take-at xs i x l e)))
      (takes_both a b c s r q (flat_map f (take i xs)) (f x) t g)

  pub takes_all : (a b : List Bool) (s r : Bool) → length xs ≤ i → TakesSpans a b s r (flat_map f (take i xs)) → TakesSpans a b s r (flat_map f xs)
  takes_all a b s r l t = takes_same a b s r (flat_map f (take i xs)) (flat_map f xs) (ap (flat_map f) (take-end xs i l)) t
