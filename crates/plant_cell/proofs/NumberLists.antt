-- Numbers, and the events that carry them.
use Rattle.std.proofs.Common.{◌≡◌, ℕ, zero, suc, ◌<◌, ◌≤◌, List, [], ◌∷◌, ◌++◌, length, refl, sym, ap, ◌∙◌, subst, ⊎_elim, ◌⊎◌, inl, inr, arith, append-nil, append_assoc}
use mathlib.Core.Logic.{dite}
use native.Mathlib.Decide.{ℕ_discrete}
use Rattle.plant_rules.specs.Meaning.{Has, Once}
use Rattle.plant_rules.specs.History.{Step}
use Rattle.plant_cell.specs.Known.{NoneOf, AllBelow, AllBy, Since, others_of, last_of}

-- ---- numbers

pub has_left : (a b : List ℕ) (n : ℕ) → Has a n → Has (a ++ b) n
has_left [] b n h = absurd h
has_left (x ∷ xs) b n h = ⊎_elim (λ e. inl e) (λ t. inr (has_left xs b n t)) h

pub has_right : (a b : List ℕ) (n : ℕ) → Has b n → Has (a ++ b) n
has_right [] b n h = h
has_right (x ∷ xs) b n h = inr (has_right xs b n h)

pub has_either : (a b : List ℕ) (n : ℕ) → Has (a ++ b) n → Has a n ⊎ Has b n
has_either [] b n h = inr h
has_either (x ∷ xs) b n h = ⊎_elim (λ e. inl (inl e)) (λ t. ⊎_elim (λ l. inl (inr l)) (λ r. inr r) (has_either xs b n t)) h

pub has_one : (a n : ℕ) → Has (a ∷ []) n → n ≡ a
has_one a n h = ⊎_elim (λ e. e) (λ t. absurd t) h

pub once_joined : (a b : List ℕ) → Once a → Once b → ((n : ℕ) → Has a n → Has b n → ⊥) → Once (a ++ b)
once_joined [] b u v apart = v
once_joined (x ∷ xs) b u v apart =
    ((λ h. ⊎_elim (λ l. u.0 l) (λ r. apart x (inl refl) r) (has_either xs b x h)), once_joined xs b u.1 v (λ n h k. apart n (inr h) k))

pub once_left : (a b : List ℕ) → Once (a ++ b) → Once a
once_left [] b u = tt
once_left (x ∷ xs) b u = ((λ h. u.0 (has_left xs b x h)), once_left xs b u.1)

pub once_right : (a b : List ℕ) → Once (a ++ b) → Once b
once_right [] b u = u
once_right (x ∷ xs) b u = once_right xs b u.1

pub once_apart : (a b : List ℕ) → Once (a ++ b) → (n : ℕ) → Has a n → Has b n → ⊥
once_apart [] b u n h k = h
once_apart (x ∷ xs) b u n h k = ⊎_elim (λ e. u.0 (subst (λ (z : ℕ). Has (xs ++ b) z) e (has_right xs b n k))) (λ t. once_apart xs b u.1 n t k) h

pub cut_whole : (ns : List ℕ) → others_of ns ++ last_of ns ≡ ns
cut_whole [] = refl
cut_whole (n ∷ []) = refl
cut_whole (n ∷ m ∷ ns) = ap (λ (l : List ℕ). n ∷ l) (cut_whole (m ∷ ns))

pub cut_snoc : (ns : List ℕ) (n : ℕ) → (others_of (ns ++ n ∷ []) ≡ ns) × (last_of (ns ++ n ∷ []) ≡ n ∷ [])
cut_snoc [] n = (refl, refl)
cut_snoc (a ∷ []) n = (refl, refl)
cut_snoc (a ∷ b ∷ ns) n = let r = cut_snoc (b ∷ ns) n in (ap (λ (l : List ℕ). a ∷ l) r.0, r.1)

-- ---- events

module _ {W : Type 0} where
  pub none_empty : (es : List (Step W)) → NoneOf [] es
  none_empty [] = tt
  none_empty (e ∷ es) = ((λ h. h), none_empty es)

  pub none_fewer : (ms ns : List ℕ) (es : List (Step W)) → ((n : ℕ) → Has ms n → Has ns n) → NoneOf ns es → NoneOf ms es
  none_fewer ms ns [] sub k = tt
  none_fewer ms ns (e ∷ es) sub k = ((λ h. k.0 (sub e.who h)), none_fewer ms ns es sub k.1)

  pub none_both : (a b : List ℕ) (es : List (Step W)) → NoneOf a es → NoneOf b es → NoneOf (a ++ b) es
  none_both a b [] k l = tt
  none_both a b (e ∷ es) k l = ((λ h. ⊎_elim k.0 l.0 (has_either a b e.who h)), none_both a b es k.1 l.1)

  pub none_append : (ns : List ℕ) (a b : List (Step W)) → NoneOf ns a → NoneOf ns b → NoneOf ns (a ++ b)
  none_append ns [] b k l = l
  none_append ns (e ∷ es) b k l = (k.0, none_append ns es b k.1 l)

  pub none_behind : (ns : List ℕ) (a b : List (Step W)) → NoneOf ns (a ++ b) → NoneOf ns b
  none_behind ns [] b k = k
  none_behind ns (e ∷ es) b k = none_behind ns es b k.1

  pub none_by : (ns : List ℕ) (m : ℕ) (es : List (Step W)) → (Has ns m → ⊥) → AllBy m es → NoneOf ns es
  none_by ns m [] out own = tt
  none_by ns m (e ∷ es) out own = ((λ h. out (subst (λ (z : ℕ). Has ns z) own.0 h)), none_by ns m es out own.1)

  pub none_above : (n : ℕ) (es : List (Step W)) → AllBelow n es → NoneOf (n ∷ []) es
  none_above n [] k = tt
  none_above n (e ∷ es) k = ((λ h. let i : e.who ≡ n = has_one n e.who h in let l : e.who < n = k.0 in omega arith), none_above n es k.1)

  pub below_append : (n : ℕ) (a b : List (Step W)) → AllBelow n a → AllBelow n b → AllBelow n (a ++ b)
  below_append n [] b k l = l
  below_append n (e ∷ es) b k l = (k.0, below_append n es b k.1 l)

  pub below_behind : (n : ℕ) (a b : List (Step W)) → AllBelow n (a ++ b) → AllBelow n b
  below_behind n [] b k = k
  below_behind n (e ∷ es) b k = below_behind n es b k.1

  pub below_more : (n m : ℕ) (es : List (Step W)) → n ≤ m → AllBelow n es → AllBelow m es
  below_more n m [] le k = tt
  below_more n m (e ∷ es) le k = let l : e.who < n = k.0 in (omega arith, below_more n m es le k.1)

  pub below_by : (n m : ℕ) (es : List (Step W)) → m < n → AllBy m es → AllBelow n es
  below_by n m [] lt own = tt
  below_by n m (e ∷ es) lt own = let i : e.who ≡ m = own.0 in (omega arith, below_by n m es lt own.1)

  abbrev tail_of : List (Step W) → List (Step W)
  tail_of [] = []
  tail_of (e ∷ es) = es

  -- of two beginnings of one history the longer_of leaves fewer events
  pub none_shorter : (ns : List ℕ) (a b x y : List (Step W)) → a ++ x ≡ b ++ y → length a ≤ length b → NoneOf ns x → NoneOf ns y
  none_shorter ns [] b x y e le k = none_behind ns b y (subst (λ (z : List (Step W)). NoneOf ns z) e k)
  none_shorter ns (p ∷ a) [] x y e le k = absurd (omega arith)
  none_shorter ns (p ∷ a) (q ∷ b) x y e le k = none_shorter ns a b x y (ap tail_of e) (omega arith) k

  pub since_all : (ns : List ℕ) (log : List (Step W)) → Since ns log log
  since_all ns log = record { more = []; is = sym (append-nil log); others = tt }

  -- the history has more events, none of these numbers
  pub since_more : (ns : List ℕ) (seen log added : List (Step W)) → Since ns seen log → NoneOf ns added → Since ns seen (log ++ added)
  since_more ns seen log added s k =
      record { more = s.more ++ added; is = ap (λ (z : List (Step W)). z ++ added) s.is ∙ append_assoc seen s.more added; others = none_append ns s.more added s.others k }

  pub since_fewer : (ms ns : List ℕ) (seen log : List (Step W)) → ((n : ℕ) → Has ms n → Has ns n) → Since ns seen log → Since ms seen log
  since_fewer ms ns seen log sub s = record { more = s.more; is = s.is; others = none_fewer ms ns s.more sub s.others }

-- ---- how many numbers there can be

removed : (m : ℕ) (xs : List ℕ) → Once xs → (r : List ℕ) × Once r × ((n : ℕ) → Has r n → Has xs n × (n ≡ m → ⊥)) × (length xs ≤ suc (length r))
removed m [] u = ([], tt, (λ n h. absurd h), omega arith)
removed m (x ∷ xs) u =
    dite (ℕ_discrete x m)
    (λ e. (xs, u.1, (λ n h. (inr h, λ i. u.0 (subst (λ (z : ℕ). Has xs z) (i ∙ sym e) h))), omega arith))
    (λ ne. let r = removed m xs u.1 in
    let l : length xs ≤ suc (length r.0) = r.3 in
    (x ∷ r.0, ((λ h. u.0 (r.2 x h).0), r.1), (λ n h. ⊎_elim (λ e. (inl e, λ i. ne (sym e ∙ i))) (λ t. (inr (r.2 n t).0, (r.2 n t).1)) h), omega arith))

pub once_few : (limit : ℕ) (ns : List ℕ) → Once ns → ((n : ℕ) → Has ns n → n < limit) → length ns ≤ limit
once_few zero [] u below = omega arith
once_few zero (x ∷ xs) u below = (let b = below x (inl refl) in absurd (omega arith))
once_few (suc m) ns u below =
    let r = removed m ns u in
    let l : length ns ≤ suc (length r.0) = r.3 in
    let k : length r.0 ≤ m = once_few m r.0 r.1 (λ n h. (let a = below n (r.2 n h).0 in let ne = (r.2 n h).1 in omega arith)) in
    omega arith
