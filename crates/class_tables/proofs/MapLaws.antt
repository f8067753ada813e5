-- Maps stay as they are when a node is added, and a node more with one part changed is the map with the value put.
use Rattle.std.proofs.Common.{◌≡◌, ℕ, zero, suc, ◌<◌, ◌/◌, ◌%◌, Bool, true, false, List, [], ◌∷◌, ◌++◌, length, get_or, set, refl, sym, ap, ◌∙◌, arith, subst, inl, inr, nat_eq}
use Rattle.std.specs.Prelude.{◌&&◌, if◌then◌else◌}
use Rattle.std.proofs.Math.ListN.{get_or-append, length-append}
use Rattle.std.proofs.Common.{get_or-set_same, get_or-set_other, ◌-◌, ◌+◌, ◌*◌, ◌^◌, ◌≢◌}
use Rattle.std.proofs.lemmas.List.{get_or_read}
use Rattle.std.proofs.Math.Seq.{get_or-append_seam}
use Rattle.std.proofs.lemmas.Bool.{eqb-true, eq-eqb}
use Rattle.std.proofs.Math.Nat.{pow-suc}
use Rattle.st_rules.proofs.Booleans.{cases, differ_from_test, both, and-both, same-tests}
use Rattle.class_tables.specs.Private.Maps.{part, value_at, IsMap, same_key, Keeps, Puts}

part-append : (nodes more : List (List ℕ)) (root d : ℕ) → root < length nodes → part (nodes ++ more) root d ≡ part nodes root d
part-append nodes more root d h = ap (λ (node : List ℕ). get_or node d 0) (get_or-append nodes more [] root h)

more_maps : (nodes more : List (List ℕ)) (n root : ℕ) → IsMap nodes n root → IsMap (nodes ++ more) n root
more_maps nodes more zero root m = tt
more_maps nodes more (suc n) root m =
    let l = length-append nodes more in
    ((let h = m.0 in let w : root < length (nodes ++ more) = omega arith in w), λ d h. subst (λ (r : ℕ). IsMap (nodes ++ more) n r) (sym (part-append nodes more root d m.0)) (more_maps nodes more n (part nodes root d) (m.1 d h)))

more_values : (nodes more : List (List ℕ)) (n root key : ℕ) → IsMap nodes n root → value_at (nodes ++ more) n root key ≡ value_at nodes n root key
more_values nodes more zero root key m = refl
more_values nodes more (suc n) root key m =
    let low : key % 4 < 4 = omega arith in
    ap (λ r. value_at (nodes ++ more) n r (key / 4)) (part-append nodes more root (key % 4) m.0) ∙ more_values nodes more n (part nodes root (key % 4)) (key / 4) (m.1 (key % 4) low)

pub keeps_more : (nodes more : List (List ℕ)) → Keeps nodes (nodes ++ more)
keeps_more nodes more = record { maps = more_maps nodes more; values = more_values nodes more }

pub keeps_same : (nodes : List (List ℕ)) → Keeps nodes nodes
keeps_same nodes = record { maps = λ n root m. m; values = λ n root key m. refl }

pub keeps_through : {a b c : List (List ℕ)} → Keeps a b → Keeps b c → Keeps a c
keeps_through k l = record {
  maps = λ n root m. l.maps n root (k.maps n root m);
  values = λ n root key m. l.values n root key (k.maps n root m) ∙ k.values n root key m;
}

pub value_step : (nodes : List (List ℕ)) (n i root key : ℕ) → i < n → value_at nodes (n - i) root key ≡ value_at nodes (n - (i + 1)) (part nodes root (key % 4)) (key / 4)
value_step nodes n i root key h = let e : n - i ≡ suc (n - (i + 1)) = omega arith in ap (λ m. value_at nodes m root key) e

keeps_push : (nodes new : List (List ℕ)) (node : List ℕ) → new ≡ nodes ++ node ∷ [] → Keeps nodes new
keeps_push nodes new node e = subst (λ (x : List (List ℕ)). Keeps nodes x) (sym e) (keeps_more nodes (node ∷ []))

pub keeps_push_if : (nodes new : List (List ℕ)) (node : List ℕ) (b : Bool) → new ≡ (if b then nodes ++ node ∷ [] else nodes) → Keeps nodes new
keeps_push_if nodes new node true e = keeps_push nodes new node e
keeps_push_if nodes new node false e = subst (λ (x : List (List ℕ)). Keeps nodes x) (sym e) (keeps_same nodes)

module _ (old mid new : List (List ℕ)) (node : List ℕ) (n root key value below made : ℕ)
    (within : root < length old) (node_is : node ≡ get_or old root node) (long : length node ≡ 4)
    (map : IsMap old (suc n) root) (keeps : Keeps old mid) (puts : Puts old mid n (get_or node (key % 4) 0) (key / 4) value below)
    (made_is : made ≡ length mid) (new_is : new ≡ mid ++ set node (key % 4) below ∷ []) where
  node_at : get_or old root [] ≡ node
  node_at = sym (get_or_read old root node within node_is [])

  low : key % 4 < 4
  low = omega arith

  made_node : get_or new made [] ≡ set node (key % 4) below
  made_node = ap (λ (xs : List (List ℕ)). get_or xs made []) new_is ∙ ap (λ k. get_or (mid ++ set node (key % 4) below ∷ []) k []) made_is ∙ get_or-append_seam mid (set node (key % 4) below) [] []

  changed_part : part new made (key % 4) ≡ below
  changed_part = ap (λ (x : List ℕ). get_or x (key % 4) 0) made_node ∙ get_or-set_same node (key % 4) below 0 (let h = low in let l = long in omega arith)

  other_part : (d : ℕ) → d ≢ key % 4 → part new made d ≡ part old root d
  other_part d ne = ap (λ (x : List ℕ). get_or x d 0) made_node ∙ get_or-set_other node (key % 4) d below 0 ne ∙ sym (ap (λ (x : List ℕ). get_or x d 0) node_at)

  last : Keeps mid new
  last = keeps_push mid new (set node (key % 4) below) new_is

  part_map : (d : ℕ) → d < 4 → IsMap new n (part new made d)
  part_map d h = elim (cases (nat_eq d (key % 4))) [
    | inl e ↦ subst (λ (r : ℕ). IsMap new n r) (sym (ap (part new made) (eqb-true d (key % 4) e) ∙ changed_part)) (last.maps n below puts.map)
    | inr e ↦ subst (λ (r : ℕ). IsMap new n r) (sym (other_part d (differ_from_test d (key % 4) e))) (last.maps n (part old root d) (keeps.maps n (part old root d) (map.1 d h)))
  ]

  made_within : made < length new
  made_within = let e = made_is in let l = ap length new_is ∙ length-append mid (set node (key % 4) below ∷ []) in omega arith

  old_child : get_or node (key % 4) 0 ≡ part old root (key % 4)
  old_child = sym (ap (λ (x : List ℕ). get_or x (key % 4) 0) node_at)

  value_here : (k : ℕ) → (b : Bool) → nat_eq (k % 4) (key % 4) ≡ b → value_at new n (part new made (k % 4)) (k / 4) ≡ (if b && same_key n (k / 4) (key / 4) then value else value_at old n (part old root (k % 4)) (k / 4))
  value_here k true e =
      let same_digit : k % 4 ≡ key % 4 = eqb-true (k % 4) (key % 4) e in
      ap (λ r. value_at new n r (k / 4)) (ap (part new made) same_digit ∙ changed_part) ∙ last.values n below (k / 4) puts.map ∙ puts.values (k / 4)
      ∙ ap (λ r. if same_key n (k / 4) (key / 4) then value else value_at old n r (k / 4)) (old_child ∙ ap (part old root) (sym same_digit))
  value_here k false e =
      let below_four : k % 4 < 4 = omega arith in
      ap (λ r. value_at new n r (k / 4)) (other_part (k % 4) (differ_from_test (k % 4) (key % 4) e))
      ∙ last.values n (part old root (k % 4)) (k / 4) (keeps.maps n (part old root (k % 4)) (map.1 (k % 4) below_four)) ∙ keeps.values n (part old root (k % 4)) (k / 4) (map.1 (k % 4) below_four)

  pub put_level : Puts old new (suc n) root key value made
  put_level = record { map = (made_within, part_map); values = λ k. value_here k (nat_eq (k % 4) (key % 4)) refl }

pub put_levels : (old mid new : List (List ℕ)) (node : List ℕ) (levels root key value below made : ℕ) → (levels ≡ 0 → ⊥) → IsMap old levels root →
    node ≡ get_or old root node → length node ≡ 4 → Keeps old mid → Puts old mid (levels - 1) (get_or node (key % 4) 0) (key / 4) value below → made ≡ length mid → new ≡ mid ++ set node (key % 4) below ∷ [] →
    Puts old new levels root key value made
put_levels old mid new node zero root key value below made some map node_is long keeps puts made_is new_is = absurd (some refl)
put_levels old mid new node (suc n) root key value below made some map node_is long keeps puts made_is new_is =
    let e : suc n - 1 ≡ n = omega arith in
    let lower : Puts old mid n (get_or node (key % 4) 0) (key / 4) value below = subst (λ (m : ℕ). Puts old mid m (get_or node (key % 4) 0) (key / 4) value below) e puts in
    put_level old mid new node n root key value below made map.0 node_is long map keeps lower made_is new_is

-- keys below the number that so many levels tell apart are told apart
pub same_key-is : (n k key : ℕ) → k < 4 ^ n → key < 4 ^ n → same_key n k key ≡ nat_eq k key
same_key-is zero k key h i = let e : k ≡ key = omega arith in sym (eq-eqb k key e)
same_key-is (suc n) k key h i =
    let p : 4 ^ suc n ≡ 4 * 4 ^ n = omega (arith, pow-suc 4 n) in
    let low : k / 4 < 4 ^ n = omega arith in
    let low' : key / 4 < 4 ^ n = omega arith in
    let rest = same_key-is n (k / 4) (key / 4) low low' in
    ap (λ b. nat_eq (k % 4) (key % 4) && b) rest ∙ same-tests (nat_eq (k % 4) (key % 4) && nat_eq (k / 4) (key / 4)) (nat_eq k key)
    (λ t. let parts = both (nat_eq (k % 4) (key % 4)) (nat_eq (k / 4) (key / 4)) t in
    let a : k % 4 ≡ key % 4 = eqb-true (k % 4) (key % 4) parts.0 in
    let b : k / 4 ≡ key / 4 = eqb-true (k / 4) (key / 4) parts.1 in
    let e : k ≡ key = omega arith in
    eq-eqb k key e)
    (λ t. let e : k ≡ key = eqb-true k key t in and-both _ _ (eq-eqb (k % 4) (key % 4) (ap (λ x. x % 4) e)) (eq-eqb (k / 4) (key / 4) (ap (λ x. x / 4) e)))

pub value-put : (old new : List (List ℕ)) (levels root key value made k : ℕ) → Puts old new levels root key value made → k < 4 ^ levels → key < 4 ^ levels →
    value_at new levels made k ≡ (if nat_eq k key then value else value_at old levels root k)
value-put old new levels root key value made k puts h i = puts.values k ∙ ap (λ b. if b then value else value_at old levels root k) (same_key-is levels k key h i)

-- the map whose root is a node of zeros at the front has 0 at each key
pub empty_map : (nodes : List (List ℕ)) (n : ℕ) → 0 < length nodes → ((d : ℕ) → part nodes 0 d ≡ 0) → IsMap nodes n 0
empty_map nodes zero h z = tt
empty_map nodes (suc n) h z = (h, λ d i. subst (λ (r : ℕ). IsMap nodes n r) (sym (z d)) (empty_map nodes n h z))

pub value-empty : (nodes : List (List ℕ)) (n key : ℕ) → ((d : ℕ) → part nodes 0 d ≡ 0) → value_at nodes n 0 key ≡ 0
value-empty nodes zero key z = refl
value-empty nodes (suc n) key z = ap (λ r. value_at nodes n r (key / 4)) (z (key % 4)) ∙ value-empty nodes n (key / 4) z
