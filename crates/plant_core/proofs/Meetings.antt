-- The least region that two tasks want.
use Rattle.std.proofs.Common.{◌≡◌, ℕ, ◌<◌, ◌≤◌, List, [], ◌∷◌, refl, sym, subst, ⊎_elim, inl, inr, arith}
use Rattle.plant_rules.specs.Meaning.{Has, Rising}
use Rattle.plant_core.specs.Private.Meeting.{IsFrom, IsCommon, Meets, MeetsFirst}

-- what lies behind regions that are too low
pub record Going (all : List ℕ) (r : ℕ) (left : List ℕ) : Type 0 where
  pub rising : Rising left
  pub keeps : (k : ℕ) → r ≤ k → Has all k → Has left k
  pub within : (k : ℕ) → Has left k → Has all k

pub going_begun : (all : List ℕ) (r : ℕ) → Rising all → Going all r all
going_begun all r rising = record { rising = rising; keeps = λ k h w. w; within = λ k w. w }

pub going_next : (all left behind : List ℕ) (r first : ℕ) → left ≡ first ∷ behind → first < r → Going all r left → Going all r behind
going_next all left behind r first e low k0 =
    let k = subst (λ (z : List ℕ). Going all r z) e k0 in
    record { rising = k.rising.1; keeps = λ q h w. ⊎_elim (λ i. absurd (omega (arith, i, low, h))) (λ x. x) (k.keeps q h w); within = λ q w. k.within q (inr w) }

pub going_found : (all left behind : List ℕ) (r first : ℕ) → left ≡ first ∷ behind → r ≤ first → Going all r left → IsFrom all r left
going_found all left behind r first e up k0 =
    let k = subst (λ (z : List ℕ). Going all r z) e k0 in
    record {
      rising = k0.rising;
      keeps = k0.keeps;
      above = λ q w. ⊎_elim (λ i. omega (arith, i, up)) (λ x. let far = k.rising.0 q x in omega (arith, far, up)) (subst (λ (z : List ℕ). Has z q) e w);
      within = k0.within;
    }

pub going_ended : (all left : List ℕ) (r : ℕ) → left ≡ [] → Going all r left → IsFrom all r left
going_ended all left r e k = record { rising = k.rising; keeps = k.keeps; above = λ q w. absurd (subst (λ (z : List ℕ). Has z q) e w); within = k.within }

-- what both have lies in what is left of both
pub record Meeting (one other left others : List ℕ) : Type 0 where
  pub both : (r : ℕ) → Has one r → Has other r → Has left r × Has others r
  pub rising : Rising left
  pub others-rising : Rising others
  pub within : (r : ℕ) → Has left r → Has one r
  pub others-within : (r : ℕ) → Has others r → Has other r

pub meeting_begun : (one other : List ℕ) → Rising one → Rising other → Meeting one other one other
meeting_begun one other a b = record { both = λ r x y. (x, y); rising = a; others-rising = b; within = λ r x. x; others-within = λ r x. x }

-- the least region that is left of the one, and what is left of the other from there on
pub record Looking (one other : List ℕ) (first : ℕ) (behind others : List ℕ) : Type 0 where
  pub both : (r : ℕ) → Has one r → Has other r → Has (first ∷ behind) r × Has others r
  pub rising : Rising (first ∷ behind)
  pub others-rising : Rising others
  pub above : (r : ℕ) → Has others r → first ≤ r
  pub within : (r : ℕ) → Has (first ∷ behind) r → Has one r
  pub others-within : (r : ℕ) → Has others r → Has other r

lowest : (first r : ℕ) (behind : List ℕ) → Rising (first ∷ behind) → Has (first ∷ behind) r → first ≤ r
lowest first r behind rising w = ⊎_elim (λ e. omega (arith, e)) (λ x. let up = rising.0 r x in omega (arith, up)) w

pub looking_of : (one other left behind others others' : List ℕ) (first : ℕ) → left ≡ first ∷ behind → IsFrom others first others' → Meeting one other left others → Looking one other first behind others'
looking_of one other left behind others others' first e from k0 =
    let k = subst (λ (z : List ℕ). Meeting one other z others) e k0 in
    record {
      both = λ r x y. let w = k.both r x y in (w.0, from.keeps r (lowest first r behind k.rising w.0) w.1);
      rising = k.rising;
      others-rising = from.rising;
      above = from.above;
      within = k.within;
      others-within = λ r w. k.others-within r (from.within r w);
    }

pub looking_none : (one other behind others : List ℕ) (first : ℕ) → others ≡ [] → Looking one other first behind others → (r : ℕ) → Has one r → Has other r → ⊥
looking_none one other behind others first e k r x y = subst (λ (z : List ℕ). Has z r) e (k.both r x y).1

pub looking_found : (one other behind others rest : List ℕ) (first second : ℕ) → others ≡ second ∷ rest → second ≡ first → Looking one other first behind others → IsCommon one other first
looking_found one other behind others rest first second e same k =
    record {
      first = k.within first (inl refl);
      second = k.others-within first (subst (λ (z : List ℕ). Has z first) (sym e) (inl (sym same)));
      least = λ r less x y. let up = k.above r (k.both r x y).1 in omega (arith, up, less);
    }

pub looking_next : (one other behind others rest : List ℕ) (first second : ℕ) → others ≡ second ∷ rest → (second ≡ first → ⊥) → Looking one other first behind others → Meeting one other behind others
looking_next one other behind others rest first second e apart k =
    let up : first ≤ second = k.above second (subst (λ (z : List ℕ). Has z second) (sym e) (inl refl)) in
    let rises : Rising (second ∷ rest) = subst (λ (z : List ℕ). Rising z) e k.others-rising in
    record {
      both = λ r x y.
          let w = k.both r x y in
          let far = lowest second r rest rises (subst (λ (z : List ℕ). Has z r) e w.1) in
          (⊎_elim (λ i. absurd (apart (omega (arith, i, far, up)))) (λ z. z) w.0, w.1);
      rising = k.rising.1;
      others-rising = k.others-rising;
      within = λ r w. k.within r (inr w);
      others-within = k.others-within;
    }

pub meeting_ended : (one other left others : List ℕ) → left ≡ [] → Meeting one other left others → (r : ℕ) → Has one r → Has other r → ⊥
meeting_ended one other left others e k r x y = subst (λ (z : List ℕ). Has z r) e (k.both r x y).0

-- ---- both ways

module _ (reads writes other-reads other-writes : List ℕ) where
  pub meets_none : ((r : ℕ) → Has reads r → Has other-writes r → ⊥) → ((r : ℕ) → Has writes r → Has other-reads r → ⊥) → (r : ℕ) → Meets reads writes other-reads other-writes r → ⊥
  meets_none a b r w = ⊎_elim (λ x. a r x.0 x.1) (λ x. b r x.0 x.1) w

  pub meets_second : (b : ℕ) → ((r : ℕ) → Has reads r → Has other-writes r → ⊥) → IsCommon writes other-reads b → MeetsFirst reads writes other-reads other-writes b
  meets_second b none k = record { meets = inr (k.first, k.second); least = λ r less w. ⊎_elim (λ x. none r x.0 x.1) (λ x. k.least r less x.0 x.1) w }

  pub meets_only : (a : ℕ) → IsCommon reads other-writes a → ((r : ℕ) → Has writes r → Has other-reads r → ⊥) → MeetsFirst reads writes other-reads other-writes a
  meets_only a k none = record { meets = inl (k.first, k.second); least = λ r less w. ⊎_elim (λ x. k.least r less x.0 x.1) (λ x. none r x.0 x.1) w }

  pub meets_less : (a b : ℕ) → IsCommon reads other-writes a → IsCommon writes other-reads b → a ≤ b → MeetsFirst reads writes other-reads other-writes a
  meets_less a b k l up = record { meets = inl (k.first, k.second); least = λ r less w. ⊎_elim (λ x. k.least r less x.0 x.1) (λ x. l.least r (omega (arith, less, up)) x.0 x.1) w }

  pub meets_more : (a b : ℕ) → IsCommon reads other-writes a → IsCommon writes other-reads b → b < a → MeetsFirst reads writes other-reads other-writes b
  meets_more a b k l up = record { meets = inr (l.first, l.second); least = λ r less w. ⊎_elim (λ x. k.least r (omega (arith, less, up)) x.0 x.1) (λ x. l.least r less x.0 x.1) w }
