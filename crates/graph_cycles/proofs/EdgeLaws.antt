-- One more edge between nodes.
use Rattle.std.proofs.Common.{◌≡◌, ℕ, zero, suc, ◌<◌, List, [], ◌∷◌, ◌++◌, Some, None, subst}
use Rattle.std.specs.List.{slice_get}
use Rattle.graph_reach.specs.declared.threads.Edge.{Edge}
use Rattle.graph_cycles.specs.Graph.{AreWithin}

no_edge : (x : Edge) → None ≡ Some x → ⊥
no_edge x h = cc

pub none_within : (n : ℕ) → AreWithin n []
none_within n = record { within = λ k x h. absurd (no_edge x h) }

pub within_push : (n : ℕ) (es : List Edge) (e : Edge) → AreWithin n es → e.from < n → e.to < n → AreWithin n (es ++ e ∷ [])
within_push n es e h f t = record { within = each es h.within }
  where
    each : (xs : List Edge) → ((k : ℕ) (x : Edge) → slice_get xs k ≡ Some x → (x.from < n) × (x.to < n)) → (k : ℕ) (x : Edge) → slice_get (xs ++ e ∷ []) k ≡ Some x → (x.from < n) × (x.to < n)
    each [] g zero x q = let s : e ≡ x = cc q in subst (λ (y : Edge). (y.from < n) × (y.to < n)) s (f, t)
    each [] g (suc k) x q = absurd (no_edge x q)
    each (y ∷ ys) g zero x q = g 0 x q
    each (y ∷ ys) g (suc k) x q = each ys (λ j z r. g (suc j) z r) k x q
