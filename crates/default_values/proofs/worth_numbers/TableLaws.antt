-- No node stands in a table twice, and a table that grows keeps the worths of its numbers.
use Rattle.std.proofs.Common.{◌≡◌, ℕ, suc, ◌<◌, Bool, true, false, ◌&&◌, List, [], ◌∷◌, ◌++◌, Some, refl, sym, ap, ◌∙◌, true≢false, arith}
use Rattle.std.specs.Prelude.{replicate}
use Rattle.std.specs.List.{IsDistinct}
use Rattle.std.proofs.lemmas.Bool.{eq-eqb}
use Rattle.std.proofs.lemmas.Bool.Decides.{Decides-int_eq}
use Rattle.std.proofs.lemmas.Map.Keys.{apart_from_distinct}
use Rattle.std.proofs.lemmas.Option.{slice_get_within, get_or_from_slice_get}
use Rattle.st_unit_rules.specs.Worth.{Worth, a_number, nothing_held, some_parts, Worths, no_worths, worth_then}
use Rattle.default_values.specs.declared.worth_numbers.node.Node.{Node}
use Rattle.default_values.specs.declared.worth_numbers.node.Node.TheVariants.{Number, Held, Parts, End, Run}
use Rattle.default_values.specs.contracts.worth_numbers.node.NodePartialEq.TheImpl as eq
use Rattle.default_values.specs.worth_numbers.Numbers.{IsAt, Grows, IsApart, IsListOf, ended, run, IsWhole, HasWorth, AreWorths}
use Rattle.default_values.specs.worth_numbers.Private.Nodes.{AreDistinct}

-- ---- nodes are distinct

abbrev same : Node → Node → Bool
same = eq.ghosts.eq

all : (a b c : Bool) → a ≡ true → b ≡ true → c ≡ true → (a && (b && c)) ≡ true
all true true true h k l = refl
all false b c h k l = absurd (true≢false (sym h))
all true false c h k l = absurd (true≢false (sym k))
all true true false h k l = absurd (true≢false (sym l))

itself : (n : Node) → same n n ≡ true
itself (Number z) = (Decides-int_eq z z).1 refl
itself Held = refl
itself (Parts k) = eq-eqb k k refl
itself End = refl
itself (Run c x r) = all _ _ _ (eq-eqb c c refl) (eq-eqb x x refl) (eq-eqb r r refl)

apart : (nodes : List Node) (i j : ℕ) (n : Node) → IsDistinct same nodes → IsAt nodes i n → IsAt nodes j n → i < j → ⊥
apart nodes i j n d p q below =
    let differ = apart_from_distinct same nodes i j n d below (slice_get_within nodes j n q) in
    true≢false (sym (itself n) ∙ (λ k. same (sym (get_or_from_slice_get nodes i n n p) k) (sym (get_or_from_slice_get nodes j n n q) k)) ∙ differ)

pub distinct : (nodes : List Node) → IsDistinct same nodes → AreDistinct nodes
distinct nodes d i j n p q =
    let up = apart nodes i j n d p q in
    let down = apart nodes j i n d q p in
    omega (arith, up, down)

-- ---- tables that grow

pub grows_self : (nodes : List Node) → Grows nodes nodes
grows_self nodes = record { stays = λ k n p. p }

pub grows_through : (a b c : List Node) → Grows a b → Grows b c → Grows a c
grows_through a b c g h = record { stays = λ k n p. h.stays k n (g.stays k n p) }

module _ (old new : List Node) (g : Grows old new) where
  pub list_stays : (k : ℕ) (xs : List ℕ) → IsListOf old k xs → IsListOf new k xs
  list_stays _ _ (ended k p) = ended k (g.stays k End p)
  list_stays _ _ (run k c x rest xs ys p l a e) = run k c x rest xs ys (g.stays k (Run (suc c) x rest) p) (list_stays rest xs l) a e

  mutual
    pub worth_stays : (k : ℕ) (w : Worth) → HasWorth old k w → HasWorth new k w
    worth_stays k (a_number z) h = g.stays k (Number z) h
    worth_stays k nothing_held h = g.stays k Held h
    worth_stays k (some_parts ws) h = record { list = h.list; parts = h.parts; at = g.stays k (Parts h.list) h.at; lists = list_stays h.list h.parts h.lists; each = worths_stay h.parts ws h.each }

    pub worths_stay : (xs : List ℕ) (ws : Worths) → AreWorths old xs ws → AreWorths new xs ws
    worths_stay [] no_worths h = tt
    worths_stay [] (worth_then w ws) h = absurd h
    worths_stay (x ∷ xs) no_worths h = absurd h
    worths_stay (x ∷ xs) (worth_then w ws) h = (worth_stays x w h.0, worths_stay xs ws h.1)
