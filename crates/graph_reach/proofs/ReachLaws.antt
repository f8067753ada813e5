-- Rows of a graph: what is sound stays sound, and rows that no edge adds to are complete.
use Rattle.std.proofs.Common.{◌≡◌, ℕ, zero, suc, ◌%◌, ◌<◌, ◌≤◌, Bool, true, false, List, [], ◌∷◌, ◌++◌, ◌⊎◌, length, get_or, set, take, ◌+◌, add-one, refl, sym, ap, ◌∙◌, arith, subst, inl, inr, nat_eq, nat_lt, length-set, get_or-set_same, get_or-set_other}
use Rattle.std.specs.Prelude.{◌||◌, ◌&&◌}
use Rattle.std.proofs.Math.Seq.{take-suc}
use Rattle.std.proofs.lemmas.Bool.{eqb-true, eq-eqb}
use Rattle.std.proofs.lemmas.Bool.Decides.{nat_tests}
use Rattle.std.proofs.lemmas.List.{get_or_read, get_or_past}
use Rattle.std.specs.List.{list_any}
use Rattle.std.proofs.Math.ListN.{length-append, get_or-append}
use Rattle.std.proofs.Math.Seq.{get_or-append_seam}
use Rattle.st_rules.specs.Chains.{is_among, leads_within, Leads, itself, onward}
use Rattle.st_rules.proofs.LeadsLaws.{IsWithin, leads_decided}
use Rattle.st_rules.proofs.Booleans.{cases, differ_from_test, or-first, or-second, either, neither, both, and-both, false≢true, Among, any-parts}
use Rattle.graph_reach.specs.Bits.{has_bit}
use Rattle.graph_reach.specs.Private.Joins.{Joins}
use Rattle.graph_reach.specs.Reach.{ahead_in, reaches, AreEdges, AreReached}
use Rattle.graph_reach.specs.Private.Rounds.{AreEven, AreSound, Grows, GoesOn}
use Rattle.graph_reach.proofs.BitLaws.{no_bit}

-- an element that is taken out and put back
pub restored : {A : Type 0} (xs : List A) (i : ℕ) (a r d : A) → r ≡ get_or xs i d → set (set xs i a) i r ≡ xs
restored [] i a r d e = refl
restored (x ∷ xs) zero a r d e = ap (λ y. y ∷ xs) e
restored (x ∷ xs) (suc i) a r d e = ap (λ ys. x ∷ ys) (restored xs i a r d e)

or-self : (b : Bool) → (b || b) ≡ b
or-self true = refl
or-self false = refl

or-false : (b : Bool) → (b || false) ≡ b
or-false true = refl
or-false false = refl

module _ (rows here : List (List ℕ)) (node other : ℕ) (row item emptied : List ℕ) (within : node < length rows) (row_is : row ≡ item) (item_is : item ≡ get_or rows node item) (emptied_is : emptied ≡ []) (here_is : here ≡ set rows node emptied) where
  row_at : get_or rows node [] ≡ row
  row_at = sym (row_is ∙ get_or_read rows node item within item_is [])

  here_same : other ≡ node → get_or here other [] ≡ []
  here_same e = ap (λ (xs : List (List ℕ)). get_or xs other []) here_is ∙ ap (λ k. get_or (set rows node emptied) k []) e ∙ get_or-set_same rows node emptied [] within ∙ emptied_is

  here_other : (other ≡ node → ⊥) → get_or here other [] ≡ get_or rows other []
  here_other ne = ap (λ (xs : List (List ℕ)). get_or xs other []) here_is ∙ get_or-set_other rows node other emptied [] ne

  pub row_short : AreEven rows → length (get_or here other []) ≤ length row
  row_short even = elim (cases (nat_eq other node)) [
    | inl p ↦ let e = ap length (here_same (eqb-true other node p)) in omega arith
    | inr p ↦
        let e = ap length (here_other (differ_from_test other node p)) in
        let r = ap length row_at in
        elim (cases (nat_lt other (length rows))) [
          | inl q ↦ let inside : other < length rows = grind (arith, nat_tests) in let s = even.even other node inside within in omega arith
          | inr q ↦ let outside : length rows ≤ other = grind (arith, nat_tests) in let s = ap length (get_or_past rows other [] outside) in omega arith
        ]
  ]

  module _ (joined : List ℕ) (joins : Joins row (get_or here other []) joined) where
    bits_here : (j : ℕ) → (b : Bool) → nat_eq other node ≡ b → has_bit joined j ≡ (reaches rows node j || reaches rows other j)
    bits_here j true p =
        let e = eqb-true other node p in
        joins.bits j ∙ ap (λ x. has_bit row j || has_bit x j) (here_same e) ∙ ap (λ b. has_bit row j || b) (no_bit (j % 64)) ∙ or-false (has_bit row j)
        ∙ sym (ap (λ k. reaches rows node j || reaches rows k j) e ∙ or-self (reaches rows node j) ∙ ap (λ x. has_bit x j) row_at)
    bits_here j false p = joins.bits j ∙ ap (λ x. has_bit row j || has_bit x j) (here_other (differ_from_test other node p)) ∙ sym (ap (λ x. has_bit x j || reaches rows other j) row_at)

    pub row_joins : (i j : ℕ) → reaches (set (set rows node emptied) node joined) i j ≡ (reaches rows i j || (nat_eq i node && reaches rows other j))
    row_joins i j = at (nat_eq i node) refl
      where
        at : (b : Bool) → nat_eq i node ≡ b → reaches (set (set rows node emptied) node joined) i j ≡ (reaches rows i j || (b && reaches rows other j))
        at true p =
            let e = eqb-true i node p in
            let inside : node < length (set rows node emptied) = let l = length-set rows node emptied in omega arith in
            ap (λ k. reaches (set (set rows node emptied) node joined) k j) e ∙ ap (λ x. has_bit x j) (get_or-set_same (set rows node emptied) node joined [] inside)
            ∙ bits_here j (nat_eq other node) refl ∙ ap (λ k. reaches rows k j || reaches rows other j) (sym e)
        at false p =
            let ne = differ_from_test i node p in
            ap (λ x. has_bit x j) (get_or-set_other (set rows node emptied) node i joined [] ne ∙ get_or-set_other rows node i emptied [] ne) ∙ sym (or-false (reaches rows i j))

-- what joining the rows of some nodes to that of one has done
pub record AheadJoined (old now : List (List ℕ)) (node : ℕ) (ahead done : List ℕ) (changed : Bool) : Type 0 where
  pub many : length now ≡ length old
  pub even : AreEven now
  pub grows : Grows old now
  pub next : (k j : ℕ) → is_among k done ≡ true → reaches old k j ≡ true → reaches now node j ≡ true
  pub sound : (lists : List (List ℕ)) → ((k : ℕ) → is_among k ahead ≡ true → is_among k (ahead_in lists node) ≡ true) → AreSound lists old → AreSound lists now
  pub still : changed ≡ false → now ≡ old

pub none_ahead : (old : List (List ℕ)) (node : ℕ) (ahead : List ℕ) → AreEven old → AheadJoined old old node ahead [] false
none_ahead old node ahead even = record {
  many = refl;
  even = even;
  grows = record { stays = λ i j h. h };
  next = λ k j h. absurd (false≢true h);
  sound = λ lists sub s. s;
  still = λ h. refl;
}

among-push : (k other : ℕ) (ns : List ℕ) → is_among k (ns ++ other ∷ []) ≡ true → (is_among k ns ≡ true) ⊎ (k ≡ other)
among-push k other [] h = elim (either (nat_eq k other) false h) [ inl p ↦ inr (eqb-true k other p) | inr p ↦ absurd (false≢true p) ]
among-push k other (n ∷ ns) h = elim (either (nat_eq k n) (is_among k (ns ++ other ∷ [])) h) [
  | inl p ↦ inl (or-first (nat_eq k n) (is_among k ns) p)
  | inr p ↦ elim (among-push k other ns p) [ inl q ↦ inl (or-second (nat_eq k n) (is_among k ns) q) | inr q ↦ inr q ]
]

-- one row more
pub ahead_more : (old now new : List (List ℕ)) (node other : ℕ) (ahead done : List ℕ) (changed new_one : Bool) →
    AheadJoined old now node ahead done changed → is_among other ahead ≡ true → length new ≡ length now → AreEven new →
    ((i j : ℕ) → reaches new i j ≡ (reaches now i j || (nat_eq i node && reaches now other j))) → (new_one ≡ false → new ≡ now) →
    AheadJoined old new node ahead (done ++ other ∷ []) (changed || new_one)
ahead_more old now new node other ahead done changed new_one a among many even joins still = record {
  many = many ∙ a.many;
  even = even;
  grows = record { stays = λ i j h. stays i j (a.grows.stays i j h) };
  next = λ k j h r. elim (among-push k other done h) [
    | inl p ↦ stays node j (a.next k j p r)
    | inr p ↦ gained j (a.grows.stays other j (subst (λ (x : ℕ). reaches old x j ≡ true) p r))
  ];
  sound = λ lists sub s. record {
    leads = λ i j h. elim (either (reaches now i j) (nat_eq i node && reaches now other j) (sym (joins i j) ∙ h)) [
      | inl p ↦ (a.sound lists sub s).leads i j p
      | inr p ↦
          let parts = both (nat_eq i node) (reaches now other j) p in
          let e = eqb-true i node parts.0 in
          subst (λ (x : ℕ). Leads (ahead_in lists) x j) (sym e) (onward node other j (sub other among) ((a.sound lists sub s).leads other j parts.1))
    ];
  };
  still = λ h. let parts = neither changed new_one h in still parts.1 ∙ a.still parts.0;
}
  where
    stays : (i j : ℕ) → reaches now i j ≡ true → reaches new i j ≡ true
    stays i j h = joins i j ∙ or-first (reaches now i j) (nat_eq i node && reaches now other j) h

    gained : (j : ℕ) → reaches now other j ≡ true → reaches new node j ≡ true
    gained j h = joins node j ∙ or-second (reaches now node j) (nat_eq node node && reaches now other j) (and-both (nat_eq node node) (reaches now other j) (eq-eqb node node refl) h)

pub take-push : (ns : List ℕ) (i : ℕ) → i < length ns → take (i + 1) ns ≡ take i ns ++ get_or ns i 0 ∷ []
take-push ns i h = ap (λ n. take n ns) (add-one i) ∙ take-suc ns i 0 h

pub among_at : (ns : List ℕ) (i : ℕ) → i < length ns → is_among (get_or ns i 0) ns ≡ true
among_at [] i h = absurd (omega arith)
among_at (n ∷ ns) zero h = or-first (nat_eq n n) (is_among n ns) (eq-eqb n n refl)
among_at (n ∷ ns) (suc i) h = or-second (nat_eq (get_or ns i 0) n) (is_among (get_or ns i 0) ns) (among_at ns i (omega arith))

-- what a round over the nodes has done up to a node
pub record RoundJoined (lists old now : List (List ℕ)) (n : ℕ) (changed : Bool) : Type 0 where
  pub many : length now ≡ length lists
  pub even : AreEven now
  pub grows : Grows old now
  pub next : (i k j : ℕ) → i < n → is_among k (ahead_in lists i) ≡ true → reaches old k j ≡ true → reaches now i j ≡ true
  pub sound : AreSound lists old → AreSound lists now
  pub still : changed ≡ false → now ≡ old

pub none_round : (lists old : List (List ℕ)) → length old ≡ length lists → AreEven old → RoundJoined lists old old 0 false
none_round lists old many even = record {
  many = many;
  even = even;
  grows = record { stays = λ i j h. h };
  next = λ i k j l. absurd (omega arith);
  sound = λ s. s;
  still = λ h. refl;
}

pub round_more : (lists old now new : List (List ℕ)) (node : ℕ) (ahead : List ℕ) (changed more : Bool) → RoundJoined lists old now node changed → node < length lists → ahead ≡ get_or lists node ahead →
    length new ≡ length now → AreEven new → Grows now new → ((k j : ℕ) → is_among k ahead ≡ true → reaches now k j ≡ true → reaches new node j ≡ true) →
    ((ls : List (List ℕ)) → ((k : ℕ) → is_among k ahead ≡ true → is_among k (ahead_in ls node) ≡ true) → AreSound ls now → AreSound ls new) → (more ≡ false → new ≡ now) →
    RoundJoined lists old new (node + 1) (changed || more)
round_more lists old now new node ahead changed more r within ahead_is many even grows next sound still = record {
  many = many ∙ r.many;
  even = even;
  grows = record { stays = λ i j h. grows.stays i j (r.grows.stays i j h) };
  next = λ i k j l h t. elim (cases (nat_eq i node)) [
    | inl p ↦
        let e = eqb-true i node p in
        let here : is_among k ahead ≡ true = ap (is_among k) (get_or_read lists node ahead within ahead_is []) ∙ ap (λ x. is_among k (ahead_in lists x)) (sym e) ∙ h in
        subst (λ (x : ℕ). reaches new x j ≡ true) (sym e) (next k j here (r.grows.stays k j t))
    | inr p ↦
        let ne = differ_from_test i node p in
        let lower : i < node = omega (arith, ne) in
        grows.stays i j (r.next i k j lower h t)
  ];
  sound = λ s. sound lists (λ k h. sym (ap (is_among k) (get_or_read lists node ahead within ahead_is [])) ∙ h) (r.sound s);
  still = λ h. let parts = neither changed more h in still parts.1 ∙ r.still parts.0;
}

pub round_all : (lists old now : List (List ℕ)) (n : ℕ) (changed : Bool) → length lists ≤ n → RoundJoined lists old now n changed → GoesOn lists old now
round_all lists old now n changed h r = record { next = λ i k j e t. at i k j e t (cases (nat_lt i n)) }
  where
    at : (i k j : ℕ) → is_among k (ahead_in lists i) ≡ true → reaches old k j ≡ true → (nat_lt i n ≡ true) ⊎ (nat_lt i n ≡ false) → reaches now i j ≡ true
    at i k j e t (inl p) = let lower : i < n = grind (arith, nat_tests) in r.next i k j lower e t
    at i k j e t (inr p) =
        let past : length lists ≤ i = grind (arith, nat_tests) in
        absurd (false≢true (sym (ap (is_among k) (get_or_past lists i [] past)) ∙ e))

-- joining along one edge is sound
pub edge_sound : (lists old new : List (List ℕ)) (node place : ℕ) (ahead item : List ℕ) → node < length lists → ahead ≡ item → item ≡ get_or lists node item → place < length ahead →
    ((i j : ℕ) → reaches new i j ≡ (reaches old i j || (nat_eq i node && reaches old (get_or ahead place 0) j))) → AreSound lists old → AreSound lists new
edge_sound lists old new node place ahead item within ahead_is item_is inside joins s = record {
  leads = λ i j h. elim (either (reaches old i j) (nat_eq i node && reaches old (get_or ahead place 0) j) (sym (joins i j) ∙ h)) [
    | inl p ↦ s.leads i j p
    | inr p ↦
        let parts = both (nat_eq i node) (reaches old (get_or ahead place 0) j) p in
        let e = eqb-true i node parts.0 in
        let edge : is_among (get_or ahead place 0) (ahead_in lists node) ≡ true = sym (ap (is_among (get_or ahead place 0)) (ahead_is ∙ get_or_read lists node item within item_is [])) ∙ among_at ahead place inside in
        subst (λ (x : ℕ). Leads (ahead_in lists) x j) (sym e) (onward node (get_or ahead place 0) j edge (s.leads (get_or ahead place 0) j parts.1))
  ];
}

-- rows of which each node has no more than itself, and has that where it is one of the first
pub record Started (rows : List (List ℕ)) (n columns words : ℕ) : Type 0 where
  pub many : length rows ≡ n
  pub wide : (i : ℕ) → i < n → length (get_or rows i []) ≡ words
  pub bits : (i j : ℕ) → i < n → reaches rows i j ≡ (nat_eq j i && nat_lt i columns)

started_more : (rows : List (List ℕ)) (n columns words : ℕ) (row : List ℕ) → Started rows n columns words → length row ≡ words → ((j : ℕ) → has_bit row j ≡ (nat_eq j n && nat_lt n columns)) → Started (rows ++ row ∷ []) (n + 1) columns words
started_more rows n columns words row s long bits = record {
  many = let l = length-append rows (row ∷ []) in let m = s.many in omega arith;
  wide = λ i h. elim (cases (nat_eq i n)) [ inl p ↦ ap length (last i p) ∙ long | inr p ↦ ap length (front i (lower i h p)) ∙ s.wide i (lower i h p) ];
  bits = λ i j h. elim (cases (nat_eq i n)) [
    | inl p ↦ ap (λ x. has_bit x j) (last i p) ∙ bits j ∙ ap (λ k. nat_eq j k && nat_lt k columns) (sym (eqb-true i n p))
    | inr p ↦ ap (λ x. has_bit x j) (front i (lower i h p)) ∙ s.bits i j (lower i h p)
  ];
}
  where
    lower : (i : ℕ) → i < n + 1 → nat_eq i n ≡ false → i < n
    lower i h p = let ne = differ_from_test i n p in omega (arith, ne)

    last : (i : ℕ) → nat_eq i n ≡ true → get_or (rows ++ row ∷ []) i [] ≡ row
    last i p = ap (λ k. get_or (rows ++ row ∷ []) k []) (eqb-true i n p ∙ sym s.many) ∙ get_or-append_seam rows row [] []

    front : (i : ℕ) → i < n → get_or (rows ++ row ∷ []) i [] ≡ get_or rows i []
    front i h = let m = s.many in let w : i < length rows = omega arith in get_or-append rows (row ∷ []) [] i w

pub started_next : (rows new : List (List ℕ)) (n columns words : ℕ) (row : List ℕ) → new ≡ rows ++ row ∷ [] → Started rows n columns words → length row ≡ words → ((j : ℕ) → has_bit row j ≡ (nat_eq j n && nat_lt n columns)) → Started new (n + 1) columns words
started_next rows new n columns words row e s long bits = subst (λ (rs : List (List ℕ)). Started rs (n + 1) columns words) (sym e) (started_more rows n columns words row s long bits)

pub started_even : (rows : List (List ℕ)) (n columns words : ℕ) → Started rows n columns words → AreEven rows
started_even rows n columns words s = record { even = λ i k h l. let m = s.many in let a : i < n = omega arith in let b : k < n = omega arith in s.wide i a ∙ sym (s.wide k b) }

pub started_own : (rows : List (List ℕ)) (n columns words : ℕ) → columns ≤ n → Started rows n columns words → (i : ℕ) → i < columns → reaches rows i i ≡ true
started_own rows n columns words c s i h = let a : i < n = omega arith in let b : nat_lt i columns ≡ true = grind (arith, nat_tests) in s.bits i i a ∙ and-both (nat_eq i i) (nat_lt i columns) (eq-eqb i i refl) b

pub started_only : (rows : List (List ℕ)) (n columns words : ℕ) → Started rows n columns words → (i j : ℕ) → reaches rows i j ≡ true → i ≡ j
started_only rows n columns words s i j h = elim (cases (nat_lt i n)) [
  | inl p ↦ let a : i < n = grind (arith, nat_tests) in sym (eqb-true j i (both (nat_eq j i) (nat_lt i columns) (sym (s.bits i j a) ∙ h)).0)
  | inr p ↦ let m = s.many in let past : length rows ≤ i = grind (arith, nat_tests) in absurd (false≢true (sym (ap (λ x. has_bit x j) (get_or_past rows i [] past) ∙ no_bit (j % 64)) ∙ h))
]

-- ---- rounds

edges_within : (lists : List (List ℕ)) → AreEdges lists → IsWithin (ahead_in lists) (length lists)
edges_within lists edges = record { within = λ i k h. (inside i k h, edges.within i k h) }
  where
    inside : (i k : ℕ) → is_among k (ahead_in lists i) ≡ true → i < length lists
    inside i k h = elim (cases (nat_lt i (length lists))) [
      | inl p ↦ grind (arith, nat_tests)
      | inr p ↦ let past : length lists ≤ i = grind (arith, nat_tests) in absurd (false≢true (sym (ap (is_among k) (get_or_past lists i [] past)) ∙ h))
    ]

pub record AfterRounds (lists : List (List ℕ)) (columns : ℕ) (rows : List (List ℕ)) (n : ℕ) : Type 0 where
  pub many : length rows ≡ length lists
  pub even : AreEven rows
  pub own : (i : ℕ) → i < columns → reaches rows i i ≡ true
  pub sound : AreSound lists rows
  pub within : (i j : ℕ) → leads_within (ahead_in lists) n i j ≡ true → j < columns → reaches rows i j ≡ true

pub no_rounds : (lists : List (List ℕ)) (columns : ℕ) (rows : List (List ℕ)) → length rows ≡ length lists → AreEven rows → ((i : ℕ) → i < columns → reaches rows i i ≡ true) → AreSound lists rows → AfterRounds lists columns rows 0
no_rounds lists columns rows many even own sound = record {
  many = many;
  even = even;
  own = own;
  sound = sound;
  within = λ i j h c. subst (λ (x : ℕ). reaches rows x j ≡ true) (sym (eqb-true i j h)) (own j c);
}

pub round_after : (lists : List (List ℕ)) (columns : ℕ) (rows new : List (List ℕ)) (n : ℕ) → AfterRounds lists columns rows n → length new ≡ length lists → AreEven new → Grows rows new → GoesOn lists rows new →
    (AreSound lists rows → AreSound lists new) → AfterRounds lists columns new (n + 1)
round_after lists columns rows new n a many even grows next sound = record {
  many = many;
  even = even;
  own = λ i h. grows.stays i i (a.own i h);
  sound = sound a.sound;
  within = λ i j h c. step i j c (sym (ap (λ k. leads_within (ahead_in lists) k i j) (add-one n)) ∙ h);
}
  where
    step : (i j : ℕ) → j < columns → leads_within (ahead_in lists) (suc n) i j ≡ true → reaches new i j ≡ true
    step i j c h = elim (either (nat_eq i j) (list_any (λ k. leads_within (ahead_in lists) n k j) (ahead_in lists i)) h) [
      | inl p ↦ subst (λ (x : ℕ). reaches new x j ≡ true) (sym (eqb-true i j p)) (grows.stays j j (a.own j c))
      | inr p ↦ let r : Among (λ k. leads_within (ahead_in lists) n k j) (ahead_in lists i) = any-parts (λ k. leads_within (ahead_in lists) n k j) (ahead_in lists i) p in next.next i r.number j r.among (a.within r.number j r.passes c)
    ]

-- rows to which a round adds nothing are complete
pub closed_reached : (lists : List (List ℕ)) (columns : ℕ) (rows : List (List ℕ)) (n : ℕ) → AfterRounds lists columns rows n → GoesOn lists rows rows → AreReached lists columns rows
closed_reached lists columns rows n a next = record { decided = λ i j h c. (a.sound.leads i j, all i j c) }
  where
    all : (i j : ℕ) → j < columns → Leads (ahead_in lists) i j → reaches rows i j ≡ true
    all _ _ c (itself i) = a.own i c
    all _ _ c (onward i k j e r) = next.next i k j e (all k j c r)

pub all_rounds : (lists : List (List ℕ)) (columns : ℕ) (rows : List (List ℕ)) (n : ℕ) → AreEdges lists → length lists ≤ n → n ≤ length lists → AfterRounds lists columns rows n → AreReached lists columns rows
all_rounds lists columns rows n edges low high a = record { decided = λ i j h c. (a.sound.leads i j, λ r. a.within i j (steps i j r) c) }
  where
    count : length lists ≡ n
    count = omega arith

    steps : (i j : ℕ) → Leads (ahead_in lists) i j → leads_within (ahead_in lists) n i j ≡ true
    steps i j r = ap (λ m. leads_within (ahead_in lists) m i j) (sym count) ∙ (leads_decided (ahead_in lists) (length lists) (edges_within lists edges) i j).1 r

pub followed : (lists : List (List ℕ)) (columns : ℕ) (rows new : List (List ℕ)) → AfterRounds lists columns rows 0 → length new ≡ length lists → AreEven new → Grows rows new → (AreSound lists rows → AreSound lists new) → AfterRounds lists columns new 0
followed lists columns rows new a many even grows sound = no_rounds lists columns new many even (λ i h. grows.stays i i (a.own i h)) (sound a.sound)

-- rows of which each node reaches at most itself are sound
pub only_sound : (lists rows : List (List ℕ)) → ((i j : ℕ) → reaches rows i j ≡ true → i ≡ j) → AreSound lists rows
only_sound lists rows only = record { leads = λ i j h. subst (λ (x : ℕ). Leads (ahead_in lists) i x) (only i j h) (itself i) }

pub unchanged_reached : (lists : List (List ℕ)) (columns : ℕ) (rows new : List (List ℕ)) (n : ℕ) → AfterRounds lists columns rows n → GoesOn lists rows new → new ≡ rows → AreReached lists columns new
unchanged_reached lists columns rows new n a next e =
    subst (λ (x : List (List ℕ)). AreReached lists columns x) (sym e) (closed_reached lists columns rows n a (subst (λ (x : List (List ℕ)). GoesOn lists rows x) e next))
