-- Images that change places between two tables.
use Rattle.std.specs.Prelude.{◌≡◌, ℕ, ◌<◌, List, length, Option, None, Some}
use Rattle.plant_rules.specs.Meaning.{Contents, bytes_at, Has}

-- each of these regions went from one to the other, and nothing else changed
pub record Moved (rs : List ℕ) (from to from' to' : Contents) : Type 0 where
  pub from-length : length from' ≡ length from
  pub to-length : length to' ≡ length to
  pub gone : (r : ℕ) → Has rs r → bytes_at from' r ≡ None
  pub here : (r : ℕ) → Has rs r → bytes_at to' r ≡ bytes_at from r
  pub from-rest : (r : ℕ) → (Has rs r → ⊥) → bytes_at from' r ≡ bytes_at from r
  pub to-rest : (r : ℕ) → (Has rs r → ⊥) → bytes_at to' r ≡ bytes_at to r

-- each of these regions has a place in both, and the place that it goes to is empty
abbrev pub MayMove : List ℕ → Contents → Contents → Type 0
MayMove rs from to = (r : ℕ) → Has rs r → (r < length from) × (r < length to) × (bytes_at to r ≡ None)

-- the bytes of the one place, where they are there; else what the other holds
abbrev pub or_stay : Option (List ℕ) → Option (List ℕ) → Option (List ℕ)
or_stay (Some bytes) o = Some bytes
or_stay None o = o

-- what is there is copied over an image as long
abbrev pub CanCopy : Option (List ℕ) → Option (List ℕ) → Type 0
CanCopy (Some bytes) o = (target : List ℕ) × (o ≡ Some target) × (length target ≡ length bytes)
CanCopy None o = Unit {0}

-- each of these regions that is there was copied, and nothing else changed
pub record Copied (rs : List ℕ) (from to to' : Contents) : Type 0 where
  pub total : length to' ≡ length to
  pub here : (r : ℕ) → Has rs r → bytes_at to' r ≡ or_stay (bytes_at from r) (bytes_at to r)
  pub others : (r : ℕ) → (Has rs r → ⊥) → bytes_at to' r ≡ bytes_at to r

abbrev pub MayCopy : List ℕ → Contents → Contents → Type 0
MayCopy rs from to = (r : ℕ) → Has rs r → (r < length from) × (r < length to) × CanCopy (bytes_at from r) (bytes_at to r)

-- two images of one length
pub record IsCopy (from to : Option (List ℕ)) : Type 0 where
  pub source : List ℕ
  pub target : List ℕ
  pub from-is : from ≡ Some source
  pub to-is : to ≡ Some target
  pub same : length target ≡ length source

-- what a claim takes: it has all that it reads, and what it writes is gone from home
pub record Taken (reads writes : List ℕ) (home carrier home' carrier' : Contents) : Type 0 where
  pub home-total : length home' ≡ length home
  pub total : length carrier' ≡ length carrier
  pub gone : (r : ℕ) → Has writes r → bytes_at home' r ≡ None
  pub here : (r : ℕ) → Has reads r → bytes_at carrier' r ≡ bytes_at home r
  pub rest : (r : ℕ) → (Has writes r → ⊥) → bytes_at home' r ≡ bytes_at home r
  pub others : (r : ℕ) → (Has reads r → ⊥) → bytes_at carrier' r ≡ bytes_at carrier r

-- a carrier that has an image as long for each region that is only read, and an empty place for each that is written
pub record MayTake (reads writes : List ℕ) (home carrier : Contents) : Type 0 where
  pub within : (r : ℕ) → Has writes r → Has reads r
  pub moves : MayMove writes home carrier
  pub copies : (r : ℕ) → Has reads r → (Has writes r → ⊥) → (r < length home) × (r < length carrier) × IsCopy (bytes_at home r) (bytes_at carrier r)
