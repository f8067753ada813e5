-- The laws of reading and replacing.
use Rattle.std.specs.Prelude.{◌≡◌, ◌≢◌, List, ◌∷◌, Some, ◌⊎◌}
use Rattle.st_values.specs.Value.{Path, Step, Value, Store, names_of, value_at, value_with, at, put}

-- two ways part at some step
abbrev pub Apart : List Step → List Step → Type 0
Apart (s ∷ ss) (t ∷ ts) = (s ≢ t) ⊎ ((s ≡ t) × Apart ss ts)
Apart _ _ = ⊥

-- neither path leads to what the other leads to, or into it
abbrev pub ArePathsApart : Path → Path → Type 0
ArePathsApart q r = (q.region ≢ r.region) ⊎ ((q.region ≡ r.region) × Apart q.steps r.steps)

pub record ValueLaws : Type 0 where
  -- what was put is read
  pub same : (v new v' : Value) (ss : List Step) → value_with v ss new ≡ Some v' → value_at v' ss ≡ Some new
  -- what lies apart stays
  pub other : (v new v' : Value) (ss ts : List Step) → Apart ss ts → value_with v ss new ≡ Some v' → value_at v' ts ≡ value_at v ts
  -- what can be read can be replaced
  pub there : (v new old : Value) (ss : List Step) → value_at v ss ≡ Some old → (v' : Value) × (value_with v ss new ≡ Some v')
  -- what was there, put back, gives the value that was
  pub back : (v v' old new : Value) (ss : List Step) → value_at v ss ≡ Some old → value_with v ss new ≡ Some v' → value_with v' ss old ≡ Some v

-- the same of stores
pub record StoreLaws : Type 0 where
  pub same : (s s' : Store) (q : Path) (new : Value) → put s q new ≡ Some s' → at s' q ≡ Some new
  pub other : (s s' : Store) (q r : Path) (new : Value) → ArePathsApart q r → put s q new ≡ Some s' → at s' r ≡ at s r
  pub there : (s : Store) (q : Path) (new old : Value) → at s q ≡ Some old → (s' : Store) × (put s q new ≡ Some s')
  pub back : (s s' : Store) (q : Path) (old new : Value) → at s q ≡ Some old → put s q new ≡ Some s' → put s' q old ≡ Some s
  -- the regions keep their names
  pub names : (s s' : Store) (q : Path) (new : Value) → put s q new ≡ Some s' → names_of s' ≡ names_of s
