-- Searches upward along what the chain gives: what is found, and whether one passes.
use Rattle.std.proofs.Common.{◌≡◌, ◌<◌, ℕ, zero, suc, ◌-◌, nat_eq, Bool, true, false, List, [], ◌∷◌, Option, Some, None, refl, sym, ap, ◌∙◌, arith}
use Rattle.std.specs.Prelude.{option_and_then, option_map, if◌then◌else◌, ◌||◌}
use Rattle.std.specs.List.{list_any}
use Rattle.std.specs.Option.{is_some}
use Rattle.std.proofs.lemmas.Bool.{eq-eqb}
use Rattle.st_rules.specs.Chains.{is_among, ◌or_else◌, nearest, climb}
use Rattle.st_rules.specs.Numbered.{passes_if_there}
use Rattle.st_rules.specs.Upward.{upward}
use Rattle.st_rules.proofs.UpwardLaws.{upward_is}
use Rattle.program_tables.specs.Private.Climb.{any_upward}

pub map_nearest : {X Y : Type 0} (f : X → Y) (has : ℕ → Option X) (cs : List ℕ) → option_map f (nearest has cs) ≡ nearest (λ c. option_map f (has c)) cs
map_nearest f has [] = refl
map_nearest f has (c ∷ cs) = at (has c) (nearest has cs) ∙ ap (λ o. option_map f (has c) or_else o) (map_nearest f has cs)
  where
    at : (o p : Option _) → option_map f (o or_else p) ≡ (option_map f o or_else option_map f p)
    at None p = refl
    at (Some x) p = refl

-- ---- whether one passes

module _ (test : ℕ → Bool) where
  abbrev pick : ℕ → Option ℕ
  pick c = if test c then Some c else None

  picked : (cs : List ℕ) → is_some (nearest pick cs) ≡ list_any test cs
  picked [] = refl
  picked (c ∷ cs) = at (test c) ∙ ap (λ b. test c || b) (picked cs)
    where
      at : (b : Bool) → is_some ((if b then Some c else None) or_else nearest pick cs) ≡ (b || is_some (nearest pick cs))
      at true = refl
      at false = refl

  module _ (above : ℕ → Option ℕ) where
    pub any_upward_next : (k c : ℕ) → 0 < k → any_upward test above k c ≡ (test c || passes_if_there (any_upward test above (k - 1)) (above c))
    any_upward_next zero c h = absurd (omega arith)
    any_upward_next (suc k) c h =
        let e : suc k - 1 ≡ k = omega arith in
        ap (λ j. test c || passes_if_there (any_upward test above j) (above c)) (sym e)

    by_picking : (k c : ℕ) → any_upward test above k c ≡ is_some (upward pick above k c)
    by_picking zero c = refl
    by_picking (suc k) c = ap (λ b. test c || b) (on (λ b. by_picking k b) (above c)) ∙ at (test c) (option_and_then (upward pick above k) (above c))
      where
        on : ((b : ℕ) → any_upward test above k b ≡ is_some (upward pick above k b)) → (o : Option ℕ) → passes_if_there (any_upward test above k) o ≡ is_some (option_and_then (upward pick above k) o)
        on f None = refl
        on f (Some b) = f b

        at : (b : Bool) (o : Option ℕ) → (b || is_some o) ≡ is_some ((if b then Some c else None) or_else o)
        at true o = refl
        at false o = refl

    -- the search upward passes where one in the chain does
    pub any_upward_is : (k c : ℕ) → any_upward test above k c ≡ list_any test (climb above k [] (Some c))
    any_upward_is k c = by_picking k c ∙ ap is_some (upward_is pick above k c) ∙ picked (climb above k [] (Some c))

pub any_same : (f g : ℕ → Bool) (ns : List ℕ) → ((n : ℕ) → is_among n ns ≡ true → f n ≡ g n) → list_any f ns ≡ list_any g ns
any_same f g [] h = refl
any_same f g (n ∷ ns) h =
    ap (λ b. b || list_any f ns) (h n (ap (λ b. b || is_among n ns) (eq-eqb n n refl)))
    ∙ ap (λ b. g n || b) (any_same f g ns (λ m i. h m (later (nat_eq m n) (is_among m ns) i)))
  where
    later : (a b : Bool) → b ≡ true → (a || b) ≡ true
    later true b e = refl
    later false b e = e
