-- Ways along the edges of a graph are those that `ahead` tells.
use Rattle.std.proofs.Common.{◌≡◌, ℕ, Bool, true, List}
use Rattle.std.specs.Bool.{Decides}
use Rattle.st_rules.specs.Chains.{is_among, Leads, itself, onward}
use Rattle.graph_reach.specs.declared.threads.Edge.{Edge}
use Rattle.graph_cycles.specs.Graph.{HasEdge, AreEdgesOf, LiesOnCycle, LeadsToCycle, LeadsToMarked, marked}
use Rattle.graph_cycles.specs.Private.Ways.{Way, IsTurning, Ends, here, further}
use Rattle.graph_cycles.specs.Private.Ways as ways

-- a way of an edge and what leads on from there
record Begins (ahead : ℕ → List ℕ) (i k : ℕ) : Type 0 where
  next : ℕ
  edge : is_among next (ahead i) ≡ true
  rest : Leads ahead next k

module _ (edges : List Edge) (ahead : ℕ → List ℕ) (told : AreEdgesOf edges ahead) where
  begins : (i k : ℕ) → Way edges i k → Begins ahead i k
  begins _ _ (ways.along i k e) = record { next = k; edge = (told.told i k).1 e; rest = itself k }
  begins _ _ (ways.onward i j k e r) = let q = begins j k r in record { next = j; edge = (told.told i j).1 e; rest = onward j q.next k q.edge q.rest }

  way : (i j k : ℕ) → HasEdge edges i j → Leads ahead j k → Way edges i k
  way i _ _ e (itself j) = ways.along i j e
  way i _ _ e (onward j m k edge r) = ways.onward i j k e (way j m k ((told.told j m).0 edge) r)

  lies : (i : ℕ) → IsTurning edges i → LiesOnCycle ahead i
  lies i t = let q = begins i i t in record { next = q.next; edge = q.edge; back = q.rest }

  turns : (i : ℕ) → LiesOnCycle ahead i → IsTurning edges i
  turns i l = way i l.next i ((told.told i l.next).0 l.edge) l.back

  leads : (goals : List Bool) (i : ℕ) → Ends edges goals i → LeadsToMarked ahead goals i
  leads goals _ (here i m) = record { goal = i; way = itself i; is = m }
  leads goals _ (further i j e r) = let q = leads goals j r in record { goal = q.goal; way = onward i j q.goal ((told.told i j).1 e) q.way; is = q.is }

  ends_at : (goals : List Bool) (i t : ℕ) → Leads ahead i t → marked goals t ≡ true → Ends edges goals i
  ends_at goals _ _ (itself i) m = here i m
  ends_at goals _ _ (onward i j t edge r) m = further i j ((told.told i j).0 edge) (ends_at goals j t r m)

  pub on_cycle : (b : Bool) (i : ℕ) → Decides b (IsTurning edges i) → Decides b (LiesOnCycle ahead i)
  on_cycle b i d = (λ h. lies i (d.0 h), λ l. d.1 (turns i l))

  pub to_marked : (goals : List Bool) (b : Bool) (i : ℕ) → Decides b (Ends edges goals i) → Decides b (LeadsToMarked ahead goals i)
  to_marked goals b i d = (λ h. leads goals i (d.0 h), λ l. d.1 (ends_at goals i l.goal l.way l.is))

pub to_cycle : (ahead : ℕ → List ℕ) (goals : List Bool) (b : Bool) (i : ℕ) → ((j : ℕ) → Decides (marked goals j) (LiesOnCycle ahead j)) → Decides b (LeadsToMarked ahead goals i) → Decides b (LeadsToCycle ahead i)
to_cycle ahead goals b i turning d = (
  λ h. let l = d.0 h in record { turning = l.goal; way = l.way; cycle = (turning l.goal).0 l.is },
  λ c. d.1 (record { goal = c.turning; way = c.way; is = (turning c.turning).1 c.cycle }),
)
