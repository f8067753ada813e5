-- What stands above a declaration. Declarations are numbers here: `above` tells the one directly above, if there is one, and
-- `ahead` those directly ahead.
use Rattle.std.specs.Prelude.{◌≡◌, ℕ, zero, suc, nat_eq, Bool, true, ◌||◌, if◌then◌else◌, List, [], ◌∷◌, Option, Some, None}
use Rattle.std.specs.List.{list_any}

abbrev pub is_among : ℕ → List ℕ → Bool
is_among n ns = list_any (nat_eq n) ns

infixr 6 ◌or_else◌
abbrev pub ◌or_else◌ : {X : Type 0} → Option X → Option X → Option X
None or_else b = b
(Some a) or_else b = Some a

-- what the first in the list has that has any
abbrev pub nearest : {X : Type 0} → (ℕ → Option X) → List ℕ → Option X
nearest has [] = None
nearest has (c ∷ cs) = has c or_else nearest has cs

-- from one upward, at most so many; it stops before one that is held already
abbrev pub climb : (ℕ → Option ℕ) → ℕ → List ℕ → Option ℕ → List ℕ
climb above zero held c = []
climb above (suc n) held None = []
climb above (suc n) held (Some c) = if is_among c held then [] else c ∷ climb above n (c ∷ held) (above c)

-- one stands above another, directly or further up
pub data IsAbove (above : ℕ → Option ℕ) : ℕ → ℕ → Type 0 where
  directly : (c b : ℕ) → above c ≡ Some b → IsAbove above b c
  further : (c b d : ℕ) → above c ≡ Some b → IsAbove above d b → IsAbove above d c

-- whether one is another or leads to it, in at most so many steps
abbrev pub leads_within : (ℕ → List ℕ) → ℕ → ℕ → ℕ → Bool
leads_within ahead zero i j = nat_eq i j
leads_within ahead (suc n) i j = nat_eq i j || list_any (λ k. leads_within ahead n k j) (ahead i)

-- one is another, or leads to it in any number of steps
pub data Leads (ahead : ℕ → List ℕ) : ℕ → ℕ → Type 0 where
  itself : (i : ℕ) → Leads ahead i i
  onward : (i k j : ℕ) → is_among k (ahead i) ≡ true → Leads ahead k j → Leads ahead i j
