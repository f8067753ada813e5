-- What is marked in rounds, against the edges, from goals.
use Rattle.std.proofs.Common.{◌≡◌, ◌<◌, ℕ, ◌+◌, nat_eq, Bool, true, List, Some, sym, ap, ◌∙◌, length, subst, ◌⊎◌, inl, inr, get_or, below_more}
use Rattle.std.specs.Prelude.{◌||◌, slice_set}
use Rattle.std.specs.Bool.{Decides}
use Rattle.std.specs.List.{slice_get}
use Rattle.std.proofs.lemmas.Bool.{eqb-true}
use Rattle.std.proofs.lemmas.Option.{get_or_from_slice_get}
use Rattle.graph_reach.specs.declared.threads.Edge.{Edge}
use Rattle.graph_cycles.specs.Graph.{HasEdge, marked}
use Rattle.graph_cycles.specs.Private.Ways.{Ends, here, further, AllEnd, IsClosedBack}
use Rattle.graph_cycles.proofs.CycleLaws.{marked_set, either_of}

pub end_set : (edges : List Edge) (goals marks : List Bool) (i j : ℕ) → i < length marks → HasEdge edges i j → marked marks j ≡ true → AllEnd edges goals marks → AllEnd edges goals (slice_set marks i true)
end_set edges goals marks i j h e m s = record { ends = λ k t. each k (either_of (marked marks k) (nat_eq i k) (sym (marked_set marks i k h) ∙ t)) }
  where
    each : (k : ℕ) → (marked marks k ≡ true) ⊎ (nat_eq i k ≡ true) → Ends edges goals k
    each k (inl q) = s.ends k q
    each k (inr q) = subst (λ (n : ℕ). Ends edges goals n) (eqb-true i k q) (further i j e (s.ends j m))

pub set_grows : (marks : List Bool) (i j : ℕ) → i < length marks → marked marks j ≡ true → marked (slice_set marks i true) j ≡ true
set_grows marks i j h m = marked_set marks i j h ∙ ap (λ b. b || nat_eq i j) m

pub closed_more : (edges : List Edge) (old marks : List Bool) (i : ℕ) (d : Edge) → old ≡ marks → ((k : ℕ) → k < i → (e : Edge) → slice_get edges k ≡ Some e → IsClosedBack marks e) → IsClosedBack old (get_or edges i d) → (k : ℕ) → k < i + 1 → (e : Edge) → slice_get edges k ≡ Some e → IsClosedBack marks e
closed_more edges old marks i d q below now =
    below_more (λ k. (e : Edge) → slice_get edges k ≡ Some e → IsClosedBack marks e) i below
    (λ e g. subst (λ (f : Edge). IsClosedBack marks f) (get_or_from_slice_get edges i e d g) (subst (λ (m : List Bool). IsClosedBack m (get_or edges i d)) q now))

pub first_sound : (edges : List Edge) (goals : List Bool) → AllEnd edges goals goals
first_sound edges goals = record { ends = λ i h. here i h }

pub decided : (edges : List Edge) (goals old new : List Bool) → new ≡ old → ((k : ℕ) (e : Edge) → slice_get edges k ≡ Some e → IsClosedBack old e) → AllEnd edges goals old → ((i : ℕ) → marked goals i ≡ true → marked old i ≡ true) → (i : ℕ) → Decides (marked new i) (Ends edges goals i)
decided edges goals old new q closed s grows i = subst (λ (m : List Bool). Decides (marked m i) (Ends edges goals i)) (sym q) (s.ends i, found i)
  where
    found : (i : ℕ) → Ends edges goals i → marked old i ≡ true
    found _ (here i c) = grows i c
    found _ (further i j e r) = (closed e.at _ e.is).back (found j r)
