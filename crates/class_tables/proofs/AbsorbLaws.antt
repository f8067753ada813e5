-- What names mean with the methods of one class more.
use Rattle.std.proofs.Common.{◌≡◌, ℕ, zero, suc, ◌+◌, ◌-◌, ◌<◌, ◌≤◌, ◌^◌, Bool, true, false, List, [], ◌∷◌, ◌++◌, Option, Some, None, length, take, drop, get_or, refl, sym, ap, ◌∙◌, arith, subst, nat_eq, ◌⊎◌, inl, inr}
use Rattle.std.specs.Prelude.{◌||◌, if◌then◌else◌, slice_get, is_some, option_map, unwrap_or, min}
use Rattle.std.proofs.Math.ListN.{take-append-drop, length-take}
use Rattle.std.proofs.lemmas.Bool.{eqb-true, eq-eqb}
use Rattle.std.proofs.lemmas.Option.{slice_get_read}
use Rattle.st_rules.specs.declared.ids.MethodId.{MethodId}
use Rattle.st_rules.specs.Numbered.{passes_if_there}
use Rattle.st_rules.specs.Chains.{◌or_else◌}
use Rattle.st_rules.specs.Classes.{method_id}
use Rattle.st_rules.proofs.Booleans.{cases, none≢some, some-same, true≢false}
use Rattle.class_tables.specs.declared.rows.ClassRow.{ClassRow}
use Rattle.class_tables.specs.declared.rows.MethodRow.{MethodRow}
use Rattle.class_tables.specs.declared.store.Entry.{Entry}
use Rattle.class_tables.specs.declared.store.Store.{Store}
use Rattle.class_tables.specs.declared.absorb.State.{State}
use Rattle.class_tables.specs.Private.Store.{entry_of, is_in, IsEntryMap, Grows, PutsNumber}
use Rattle.class_tables.specs.Private.Absorb.{first_number, with_numbers, tally, numbers_of, own_of, methods_at, row_at, is_abstract_row, is_abstract_entry, is_of, one_if, entry_with, HasMaps, Holds, Declares, IsOwn, HasKeys, Absorbs}
use Rattle.st_rules.proofs.ListLaws.{take-at, take-end}
use Rattle.class_tables.proofs.StoreLaws.{grows_through, map_grown, entries_grown, entry-grown, in-grown}

-- ---- numbers

number_else : (b : Bool) (o p : Option ℕ) → (if b then Some 0 else option_map (λ n. suc n) (o or_else p)) ≡ ((if b then Some 0 else option_map (λ n. suc n) o) or_else option_map (λ n. suc n) p)
number_else true o p = refl
number_else false None p = refl
number_else false (Some x) p = refl

pub number-push : (n last : ℕ) (ns : List ℕ) → first_number n (ns ++ last ∷ []) ≡ (first_number n ns or_else (if nat_eq last n then Some (length ns) else None))
number-push n last [] = refl
number-push n last (m ∷ ms) =
    ap (λ o. if nat_eq m n then Some 0 else option_map (λ k. suc k) o) (number-push n last ms) ∙ number_else (nat_eq m n) (first_number n ms) _
    ∙ ap (λ p. first_number n (m ∷ ms) or_else p) (later (nat_eq last n))
  where
    later : (b : Bool) → option_map (λ k. suc k) (if b then Some (length ms) else None) ≡ (if b then Some (suc (length ms)) else None)
    later true = refl
    later false = refl

turned : (m n : ℕ) → nat_eq m n ≡ false → nat_eq n m ≡ false
turned m n h = at (cases (nat_eq n m))
  where
    at : (nat_eq n m ≡ true) ⊎ (nat_eq n m ≡ false) → nat_eq n m ≡ false
    at (inl p) = absurd (true≢false (sym (eq-eqb m n (sym (eqb-true n m p))) ∙ h))
    at (inr p) = p

else-nothing : {X : Type 0} (o : Option X) → (o or_else None) ≡ o
else-nothing None = refl
else-nothing (Some x) = refl

-- ---- tallies

pub tally-same : (f g : ℕ → Bool) (count : ℕ) → ((n : ℕ) → n < count → g n ≡ f n) → tally g count ≡ tally f count
tally-same f g zero h = refl
tally-same f g (suc m) h =
    ap (λ (b : Bool). (if b then 1 else 0) + tally g m) (h m (omega arith)) ∙ ap (λ t. (if f m then 1 else 0) + t) (tally-same f g m (λ n l. h n (omega arith)))

tally_has : (f : ℕ → Bool) (x count : ℕ) → x < count → one_if (f x) ≤ tally f count
tally_has f x zero h = absurd (omega arith)
tally_has f x (suc m) h = at (tally_has f x m) (cases (nat_eq x m))
  where
    at : (x < m → one_if (f x) ≤ tally f m) → (nat_eq x m ≡ true) ⊎ (nat_eq x m ≡ false) → one_if (f x) ≤ (if f m then 1 else 0) + tally f m
    at r (inl p) = let e : one_if (f x) ≡ (if f m then 1 else 0) = ap (λ n. one_if (f n)) (eqb-true x m p) in omega (arith, e)
    at r (inr p) = let apart : (x ≡ m → ⊥) = λ e. true≢false (sym (eq-eqb x m e) ∙ p) in let l : x < m = omega (arith, apart) in let t = r l in omega (arith, t)

-- only the test of one number is another
pub tally-change : (f g : ℕ → Bool) (x count : ℕ) → ((n : ℕ) → n < count → nat_eq n x ≡ false → g n ≡ f n) → x < count → tally g count + one_if (f x) ≡ tally f count + one_if (g x)
tally-change f g x zero h l = absurd (omega arith)
tally-change f g x (suc m) h l = at (tally-change f g x m (λ n j. h n (omega arith))) (cases (nat_eq m x))
  where
    at : (x < m → tally g m + one_if (f x) ≡ tally f m + one_if (g x)) → (nat_eq m x ≡ true) ⊎ (nat_eq m x ≡ false) → ((if g m then 1 else 0) + tally g m) + one_if (f x) ≡ ((if f m then 1 else 0) + tally f m) + one_if (g x)
    at r (inl p) =
        let e : m ≡ x = eqb-true m x p in
        let same = tally-same f g m (λ n k. h n (omega arith) (apart n (omega (arith, e, k)))) in
        let a : one_if (f m) ≡ one_if (f x) = ap (λ n. one_if (f n)) e in
        let b : one_if (g m) ≡ one_if (g x) = ap (λ n. one_if (g n)) e in
        omega (arith, same, a, b)
      where
        apart : (n : ℕ) → (n ≡ x → ⊥) → nat_eq n x ≡ false
        apart n q = case_of (cases (nat_eq n x))
          where
            case_of : (nat_eq n x ≡ true) ⊎ (nat_eq n x ≡ false) → nat_eq n x ≡ false
            case_of (inl r) = absurd (q (eqb-true n x r))
            case_of (inr r) = r
    at r (inr p) =
        let apart : (m ≡ x → ⊥) = λ e. true≢false (sym (eq-eqb m x e) ∙ p) in
        let k : x < m = omega (arith, apart) in
        let rest = r k in
        let e : one_if (g m) ≡ one_if (f m) = ap one_if (h m (omega arith) p) in
        omega (arith, rest, e)

-- ---- one method more

abbrev pub is_mine : ℕ → Option MethodId → Bool
is_mine c o = passes_if_there (λ (i : MethodId). nat_eq i.class c) o

-- the name means the method, if it does not mean one of that class already
abbrev pub declared_at : MethodId → Option MethodId → Option MethodId
declared_at id o = if is_mine id.class o then o else Some id

abbrev pub declared : MethodId → ℕ → (ℕ → Option MethodId) → ℕ → Option MethodId
declared id name means n = if nat_eq n name then declared_at id (means name) else means n

abbrev next_entry : MethodId → MethodRow → ℕ → Option Entry → Option Entry
next_entry id method slots o = if is_of id.class o then o else Some (entry_with id method slots o)

id_next : (id : MethodId) (method : MethodRow) (slots : ℕ) (o : Option Entry) → option_map (λ e. e.id) (next_entry id method slots o) ≡ declared_at id (option_map (λ e. e.id) o)
id_next id method slots None = refl
id_next id method slots (Some e) = at (nat_eq e.id.class id.class)
  where
    at : (b : Bool) → option_map (λ (e : Entry). e.id) (if b then Some e else Some (entry_with id method slots (Some e))) ≡ (if b then Some e.id else Some id)
    at true = refl
    at false = refl

slot_next : (id : MethodId) (method : MethodRow) (slots : ℕ) (o : Option Entry) (ns : List ℕ) → slots ≡ length ns → option_map (λ e. e.slot) o ≡ first_number method.name ns →
    option_map (λ e. e.slot) (next_entry id method slots o) ≡ first_number method.name (with_numbers ns (method.name ∷ []))
slot_next id method slots None ns l h =
    ap Some l ∙ sym (
    ap (λ q. first_number method.name (if is_some q then ns else ns ++ method.name ∷ [])) (sym h)
    ∙ number-push method.name method.name ns
    ∙ ap (λ q. q or_else (if nat_eq method.name method.name then Some (length ns) else None)) (sym h)
    ∙ ap (λ b. if b then Some (length ns) else None) (eq-eqb method.name method.name refl))
slot_next id method slots (Some e) ns l h =
    at (nat_eq e.id.class id.class) ∙ h ∙ sym (ap (λ q. first_number method.name (if is_some q then ns else ns ++ method.name ∷ [])) (sym h))
  where
    at : (b : Bool) → option_map (λ (e : Entry). e.slot) (if b then Some e else Some (entry_with id method slots (Some e))) ≡ Some e.slot
    at true = refl
    at false = refl

slot_other : (name n : ℕ) (ns : List ℕ) → nat_eq n name ≡ false → first_number n ns ≡ first_number n (with_numbers ns (name ∷ []))
slot_other name n ns h = at (is_some (first_number name ns))
  where
    at : (b : Bool) → first_number n ns ≡ first_number n (if b then ns else ns ++ name ∷ [])
    at true = refl
    at false = sym (number-push n name ns ∙ ap (λ b. first_number n ns or_else (if b then Some (length ns) else None)) (turned n name h) ∙ else-nothing (first_number n ns))

module _ (rows : List ClassRow) (names : ℕ) (old new : Store) (id : MethodId) (method : MethodRow) (below state : State)
    (grows : Grows old new) (maps : HasMaps old below) (d : Declares old new id method (entry_of old below.methods method.name) below state)
    (key : method.name < names) (keys : names ≤ 4 ^ old.levels) (row : row_at rows id ≡ Some method)
    (means : ℕ → Option MethodId) (numbers : List ℕ) (above : ℕ → Bool) (h : Holds rows names old means numbers above below) where
  abbrev found : Option Entry
  found = entry_of old below.methods method.name

  key' : method.name < 4 ^ old.levels
  key' = omega (arith, key, keys)

  entry : (n : ℕ) → n < names → entry_of new state.methods n ≡ (if nat_eq n method.name then next_entry id method below.slots found else entry_of old below.methods n)
  entry n l = d.entries n (omega (arith, l, keys)) key'

  at_name : {X : Type 0} (f : Option Entry → X) (n : ℕ) → n < names → nat_eq n method.name ≡ true → f (entry_of new state.methods n) ≡ f (next_entry id method below.slots found)
  at_name f n l e = ap f (entry n l ∙ ap (λ b. if b then next_entry id method below.slots found else entry_of old below.methods n) e)

  at_other : {X : Type 0} (f : Option Entry → X) (n : ℕ) → n < names → nat_eq n method.name ≡ false → f (entry_of new state.methods n) ≡ f (entry_of old below.methods n)
  at_other f n l e = ap f (entry n l ∙ ap (λ b. if b then next_entry id method below.slots found else entry_of old below.methods n) e)

  mean_name : (n : ℕ) → nat_eq n method.name ≡ true → declared id method.name means n ≡ declared_at id (means method.name)
  mean_name n e = ap (λ b. if b then declared_at id (means method.name) else means n) e

  mean_other : (n : ℕ) → nat_eq n method.name ≡ false → declared id method.name means n ≡ means n
  mean_other n e = ap (λ b. if b then declared_at id (means method.name) else means n) e

  methods_next : (n : ℕ) → n < names → (nat_eq n method.name ≡ true) ⊎ (nat_eq n method.name ≡ false) → option_map (λ e. e.id) (entry_of new state.methods n) ≡ declared id method.name means n
  methods_next n l (inl e) =
      at_name (option_map (λ (e : Entry). e.id)) n l e ∙ id_next id method below.slots found ∙ ap (declared_at id) (h.methods method.name key) ∙ sym (mean_name n e)
  methods_next n l (inr e) = at_other (option_map (λ (e : Entry). e.id)) n l e ∙ h.methods n l ∙ sym (mean_other n e)

  slots_next : (n : ℕ) → n < names → (nat_eq n method.name ≡ true) ⊎ (nat_eq n method.name ≡ false) → option_map (λ e. e.slot) (entry_of new state.methods n) ≡ first_number n (with_numbers numbers (method.name ∷ []))
  slots_next n l (inl e) =
      at_name (option_map (λ (e : Entry). e.slot)) n l e ∙ slot_next id method below.slots found numbers h.slot_count (h.slots method.name key)
      ∙ ap (λ k. first_number k (with_numbers numbers (method.name ∷ []))) (sym (eqb-true n method.name e))
  slots_next n l (inr e) = at_other (option_map (λ (e : Entry). e.slot)) n l e ∙ h.slots n l ∙ slot_other method.name n numbers e

  abstract_row : method.is_abstract ≡ is_abstract_row rows (Some id)
  abstract_row = sym (ap (passes_if_there (λ (m : MethodRow). m.is_abstract)) row)

  kind_next : (o : Option Entry) (m : Option MethodId) → option_map (λ e. e.id) o ≡ m → is_abstract_entry o ≡ is_abstract_row rows m → is_abstract_entry (next_entry id method below.slots o) ≡ is_abstract_row rows (declared_at id m)
  kind_next None None e k = abstract_row
  kind_next None (Some i) e k = absurd (none≢some e)
  kind_next (Some x) None e k = absurd (none≢some (sym e))
  kind_next (Some x) (Some i) e k = ap (λ (j : MethodId). is_abstract_entry (if nat_eq j.class id.class then Some x else Some (entry_with id method below.slots (Some x)))) (some-same e) ∙ at (nat_eq i.class id.class)
    where
      at : (b : Bool) → is_abstract_entry (if b then Some x else Some (entry_with id method below.slots (Some x))) ≡ is_abstract_row rows (if b then Some i else Some id)
      at true = k
      at false = abstract_row

  kinds_next : (n : ℕ) → n < names → (nat_eq n method.name ≡ true) ⊎ (nat_eq n method.name ≡ false) → is_abstract_entry (entry_of new state.methods n) ≡ is_abstract_row rows (declared id method.name means n)
  kinds_next n l (inl e) =
      at_name is_abstract_entry n l e ∙ kind_next found (means method.name) (h.methods method.name key) (h.kinds method.name key) ∙ ap (is_abstract_row rows) (sym (mean_name n e))
  kinds_next n l (inr e) = at_other is_abstract_entry n l e ∙ h.kinds n l ∙ ap (is_abstract_row rows) (sym (mean_other n e))

  count_next : (o : Option Entry) → option_map (λ e. e.slot) o ≡ first_number method.name numbers → (if is_some o then below.slots else suc below.slots) ≡ length (with_numbers numbers (method.name ∷ []))
  count_next None e = ap (λ n. suc n) h.slot_count ∙ sym (ap (λ q. length (if is_some q then numbers else numbers ++ method.name ∷ [])) (sym e) ∙ one_more numbers)
    where
      one_more : (ns : List ℕ) → length (ns ++ method.name ∷ []) ≡ suc (length ns)
      one_more [] = refl
      one_more (n ∷ ns) = ap (λ k. suc k) (one_more ns)
  count_next (Some x) e = h.slot_count ∙ sym (ap (λ q. length (if is_some q then numbers else numbers ++ method.name ∷ [])) (sym e))

  abbrev was : ℕ → Bool
  was n = is_abstract_entry (entry_of old below.methods n)

  abbrev now : ℕ → Bool
  now n = is_abstract_entry (entry_of new state.methods n)

  open_next : (b : Bool) → is_of id.class found ≡ b → state.abstracts ≡ tally now names
  open_next true e =
      let change = tally-change was now method.name names (λ n l k. at_other is_abstract_entry n l k) key in
      let same : now method.name ≡ was method.name = at_name is_abstract_entry method.name key (eq-eqb method.name method.name refl) ∙ ap (λ b. is_abstract_entry (if b then found else Some (entry_with id method below.slots found))) e in
      let count : one_if (now method.name) ≡ one_if (was method.name) = ap one_if same in
      let kept : state.abstracts ≡ below.abstracts = d.abstracts ∙ ap (λ b. if b then below.abstracts else (below.abstracts - one_if (is_abstract_entry found)) + one_if method.is_abstract) e in
      let abstracts = h.abstracts in
      omega (arith, change, count, kept, abstracts)
  open_next false e =
      let change = tally-change was now method.name names (λ n l k. at_other is_abstract_entry n l k) key in
      let other : now method.name ≡ method.is_abstract = at_name is_abstract_entry method.name key (eq-eqb method.name method.name refl) ∙ ap (λ b. is_abstract_entry (if b then found else Some (entry_with id method below.slots found))) e in
      let count : one_if (now method.name) ≡ one_if method.is_abstract = ap one_if other in
      let left : state.abstracts ≡ (below.abstracts - one_if (was method.name)) + one_if method.is_abstract = d.abstracts ∙ ap (λ b. if b then below.abstracts else (below.abstracts - one_if (is_abstract_entry found)) + one_if method.is_abstract) e in
      let some = tally_has was method.name names key in
      let abstracts = h.abstracts in
      omega (arith, change, count, left, some, abstracts)

  pub holds_next : Holds rows names new (declared id method.name means) (with_numbers numbers (method.name ∷ [])) above state
  holds_next = record {
    methods = λ n l. methods_next n l (cases (nat_eq n method.name));
    slots = λ n l. slots_next n l (cases (nat_eq n method.name));
    kinds = λ n l. kinds_next n l (cases (nat_eq n method.name));
    above_it = λ k l. ap (λ r. is_in new r k) d.above ∙ in-grown old new below.above grows k maps.above ∙ h.above_it k l;
    slot_count = d.slots ∙ count_next found (h.slots method.name key);
    abstracts = open_next (is_of id.class found) refl;
  }

-- ---- other words for the same

pub holds_same : (rows : List ClassRow) (names : ℕ) (store : Store) (f g : ℕ → Option MethodId) (ns ms : List ℕ) (a b : ℕ → Bool) (state : State) →
    ((n : ℕ) → f n ≡ g n) → ns ≡ ms → ((d : ℕ) → a d ≡ b d) → Holds rows names store f ns a state → Holds rows names store g ms b state
holds_same rows names store f g ns ms a b state e l q h = record {
  methods = λ n i. h.methods n i ∙ e n;
  slots = λ n i. h.slots n i ∙ ap (first_number n) l;
  kinds = λ n i. h.kinds n i ∙ ap (is_abstract_row rows) (e n);
  above_it = λ d i. h.above_it d i ∙ q d;
  slot_count = h.slot_count ∙ ap length l;
  abstracts = h.abstracts;
}

pub maps_grown : (old new : Store) (state : State) → Grows old new → HasMaps old state → HasMaps new state
maps_grown old new state g m = record { methods = entries_grown old new state.methods g m.methods; above = map_grown old new state.above g m.above }

pub holds_grown : (rows : List ClassRow) (names : ℕ) (old new : Store) (means : ℕ → Option MethodId) (numbers : List ℕ) (above : ℕ → Bool) (state : State) →
    Grows old new → HasMaps old state → Holds rows names old means numbers above state → Holds rows names new means numbers above state
holds_grown rows names old new means numbers above state g m h = record {
  methods = λ n i. ap (option_map (λ (e : Entry). e.id)) (same n) ∙ h.methods n i;
  slots = λ n i. ap (option_map (λ (e : Entry). e.slot)) (same n) ∙ h.slots n i;
  kinds = λ n i. ap is_abstract_entry (same n) ∙ h.kinds n i;
  above_it = λ d i. in-grown old new state.above g d m.above ∙ h.above_it d i;
  slot_count = h.slot_count;
  abstracts = h.abstracts ∙ sym (tally-same (λ n. is_abstract_entry (entry_of old state.methods n)) (λ n. is_abstract_entry (entry_of new state.methods n)) names (λ n i. ap is_abstract_entry (same n)));
}
  where
    same : (n : ℕ) → entry_of new state.methods n ≡ entry_of old state.methods n
    same n = entry-grown old new state.methods g n m.methods

-- ---- the methods of a class

pub numbers-append : (ns xs ys : List ℕ) → with_numbers ns (xs ++ ys) ≡ with_numbers (with_numbers ns xs) ys
numbers-append ns [] ys = refl
numbers-append ns (x ∷ xs) ys = numbers-append (if is_some (first_number x ns) then ns else ns ++ x ∷ []) xs ys

names-append : (xs : List MethodRow) (m : MethodRow) → numbers_of (xs ++ m ∷ []) ≡ numbers_of xs ++ m.name ∷ []
names-append [] m = refl
names-append (x ∷ xs) m = ap (λ ns. x.name ∷ ns) (names-append xs m)

names_long : (xs : List MethodRow) → length (numbers_of xs) ≡ length xs
names_long [] = refl
names_long (x ∷ xs) = ap (λ n. suc n) (names_long xs)

-- what is found in the first part is found in the whole
found_before : (n : ℕ) (xs ys : List MethodRow) (k : ℕ) → first_number n (numbers_of xs) ≡ Some k → first_number n (numbers_of (xs ++ ys)) ≡ Some k
found_before n [] ys k h = absurd (none≢some h)
found_before n (x ∷ xs) ys k h = at (found_before n xs ys) (nat_eq x.name n) (first_number n (numbers_of xs)) refl h
  where
    at : ((j : ℕ) → first_number n (numbers_of xs) ≡ Some j → first_number n (numbers_of (xs ++ ys)) ≡ Some j) → (b : Bool) (o : Option ℕ) → first_number n (numbers_of xs) ≡ o → ◌≡◌ {A = Option ℕ} (if b then Some 0 else option_map (λ k. suc k) o) (Some k) →
        ◌≡◌ {A = Option ℕ} (if b then Some 0 else option_map (λ k. suc k) (first_number n (numbers_of (xs ++ ys)))) (Some k)
    at r true o e f = f
    at r false None e f = absurd (none≢some f)
    at r false (Some j) e f = ap (option_map (λ k. suc k)) (r j e) ∙ f

module _ (c k : ℕ) (methods : List MethodRow) (m : MethodRow) (h : k < length methods) (is : m ≡ get_or methods k m) (means : ℕ → Option MethodId) where
  abbrev before : List ℕ
  before = numbers_of (take k methods)

  abbrev after : ℕ → ℕ → Option MethodId
  after i n = own_of c (take i methods) n or_else means n

  next_names : numbers_of (take (k + 1) methods) ≡ before ++ m.name ∷ []
  next_names = ap numbers_of (take-at methods k m h is) ∙ names-append (take k methods) m

  before_long : length before ≡ k
  before_long = names_long (take k methods) ∙ length-take k methods ∙ (let e : min k (length methods) ≡ k = omega (arith, h) in e)

  first_here : first_number m.name before ≡ None → first_number m.name (numbers_of (take (k + 1) methods)) ≡ Some k
  first_here e =
      ap (first_number m.name) next_names ∙ number-push m.name m.name before ∙ ap (λ o. o or_else (if nat_eq m.name m.name then Some (length before) else None)) e
      ∙ ap (λ b. if b then Some (length before) else None) (eq-eqb m.name m.name refl) ∙ ap Some before_long

  own_here : first_number m.name before ≡ None → own_of c methods m.name ≡ Some (method_id c k)
  own_here e =
      ap (option_map (method_id c)) (ap (λ ms. first_number m.name (numbers_of ms)) (sym (take-append-drop (k + 1) methods)) ∙ found_before m.name (take (k + 1) methods) (drop (k + 1) methods) k (first_here e))

  mine : (j : ℕ) → is_mine c (Some (method_id c j)) ≡ true
  mine j = eq-eqb c c refl

  -- of two of one name the first counts
  one_more_at : (o : Option ℕ) → first_number m.name before ≡ o → ((id : MethodId) → means m.name ≡ Some id → id.class ≡ c → own_of c methods m.name ≡ Some id) →
      declared_at (method_id c k) (after k m.name) ≡ after (k + 1) m.name
  one_more_at (Some j) e f =
      ap (λ p. declared_at (method_id c k) (option_map (method_id c) p or_else means m.name)) e
      ∙ ap (λ b. if b then Some (method_id c j) else Some (method_id c k)) (mine j)
      ∙ sym (ap (λ p. option_map (method_id c) p or_else means m.name) (ap (first_number m.name) next_names ∙ number-push m.name m.name before ∙ ap (λ p. p or_else (if nat_eq m.name m.name then Some (length before) else None)) e))
  one_more_at None e f =
      ap (λ p. declared_at (method_id c k) (option_map (method_id c) p or_else means m.name)) e
      ∙ at (means m.name) refl
      ∙ sym (ap (λ p. option_map (method_id c) p or_else means m.name) (first_here e))
    where
      mine_or : (id : MethodId) → means m.name ≡ Some id → (b : Bool) → nat_eq id.class c ≡ b → (if b then Some id else Some (method_id c k)) ≡ Some (method_id c k)
      mine_or id p true q = sym (f id p (eqb-true id.class c q)) ∙ own_here e
      mine_or id p false q = refl

      at : (o : Option MethodId) → means m.name ≡ o → declared_at (method_id c k) o ≡ Some (method_id c k)
      at None p = refl
      at (Some id) p = mine_or id p (nat_eq id.class c) refl

  other_stays : (n : ℕ) → nat_eq n m.name ≡ false → after k n ≡ after (k + 1) n
  other_stays n e = sym (ap (λ p. option_map (method_id c) p or_else means n) (
      ap (first_number n) next_names ∙ number-push n m.name before ∙ ap (λ b. first_number n before or_else (if b then Some (length before) else None)) (turned n m.name e) ∙ else-nothing (first_number n before)))

  pub one_more : ((id : MethodId) → means m.name ≡ Some id → id.class ≡ c → own_of c methods m.name ≡ Some id) → (n : ℕ) →
      declared (method_id c k) m.name (after k) n ≡ after (k + 1) n
  one_more f n = at (cases (nat_eq n m.name))
    where
      at : (nat_eq n m.name ≡ true) ⊎ (nat_eq n m.name ≡ false) → declared (method_id c k) m.name (after k) n ≡ after (k + 1) n
      at (inl p) = ap (λ b. if b then declared_at (method_id c k) (after k m.name) else after k n) p ∙ one_more_at (first_number m.name before) refl f ∙ ap (after (k + 1)) (sym (eqb-true n m.name p))
      at (inr p) = ap (λ b. if b then declared_at (method_id c k) (after k m.name) else after k n) p ∙ other_stays n p

  numbers_next : (ns : List ℕ) → with_numbers (with_numbers ns before) (m.name ∷ []) ≡ with_numbers ns (numbers_of (take (k + 1) methods))
  numbers_next ns = sym (ap (with_numbers ns) next_names ∙ numbers-append ns before (m.name ∷ []))

-- after the first k methods of class c
pub record AbsorbedTo (rows : List ClassRow) (names : ℕ) (old now : Store) (c : ℕ) (below state : State) (k : ℕ) : Type 0 where
  pub maps : HasMaps now state
  pub grows : Grows old now
  pub ends : state.ends ≡ below.ends
  pub holds : (means : ℕ → Option MethodId) (numbers : List ℕ) (above : ℕ → Bool) → HasKeys rows names old.levels → IsOwn rows names c means → Holds rows names old means numbers above below →
      Holds rows names now (λ n. own_of c (take k (methods_at rows c)) n or_else means n) (with_numbers numbers (numbers_of (take k (methods_at rows c)))) (λ d. nat_eq d c || above d) state

module _ (rows : List ClassRow) (names : ℕ) (old : Store) (c : ℕ) (below : State) where
  pub absorb_start : (now : Store) (state : State) → c < length rows → HasMaps old below → Grows old now → PutsNumber old now below.above c state.above →
      state.methods ≡ below.methods → state.slots ≡ below.slots → state.abstracts ≡ below.abstracts → state.ends ≡ below.ends → AbsorbedTo rows names old now c below state 0
  absorb_start now state within maps g p m s o e = record {
    maps = record { methods = subst (IsEntryMap now) (sym m) (entries_grown old now below.methods g maps.methods); above = p.map };
    grows = g;
    ends = e;
    holds = λ means numbers above keys own h. record {
      methods = λ n i. ap (option_map (λ (e : Entry). e.id)) (same n) ∙ h.methods n i;
      slots = λ n i. ap (option_map (λ (e : Entry). e.slot)) (same n) ∙ h.slots n i;
      kinds = λ n i. ap is_abstract_entry (same n) ∙ h.kinds n i;
      above_it = λ d i. p.numbers d (omega (arith, i, keys.class_keys)) (omega (arith, within, keys.class_keys)) ∙ ap (λ b. if nat_eq d c then true else b) (h.above_it d i) ∙ or_if (nat_eq d c) (above d);
      slot_count = s ∙ h.slot_count;
      abstracts = o ∙ h.abstracts ∙ sym (tally-same (λ n. is_abstract_entry (entry_of old below.methods n)) (λ n. is_abstract_entry (entry_of now state.methods n)) names (λ n i. ap is_abstract_entry (same n)));
    };
  }
    where
      same : (n : ℕ) → entry_of now state.methods n ≡ entry_of old below.methods n
      same n = ap (λ r. entry_of now r n) m ∙ entry-grown old now below.methods g n maps.methods

      or_if : (a b : Bool) → (if a then true else b) ≡ (a || b)
      or_if true b = refl
      or_if false b = refl

  pub absorb_step : (mid new : Store) (state next : State) (k : ℕ) (m : MethodRow) → k < length (methods_at rows c) → m ≡ get_or (methods_at rows c) k m → AbsorbedTo rows names old mid c below state k →
      Grows mid new → HasMaps new next → Declares mid new (method_id c k) m (entry_of mid state.methods m.name) state next → AbsorbedTo rows names old new c below next (k + 1)
  absorb_step mid new state next k m h is to g maps d = record {
    maps = maps;
    grows = grows_through old mid new to.grows g;
    ends = d.ends ∙ to.ends;
    holds = λ means numbers above keys own held.
        let there : slice_get (methods_at rows c) k ≡ Some m = slice_get_read (methods_at rows c) (length (methods_at rows c)) k m refl h is in
        let key = keys.within c k m there in
        let name_keys : names ≤ 4 ^ mid.levels = subst (λ (l : ℕ). names ≤ 4 ^ l) (sym to.grows.levels) keys.name_keys in
        holds_same rows names new _ _ _ _ _ _ next
        (one_more c k (methods_at rows c) m h is means (λ id e f. own.own m.name id key e f))
        (numbers_next c k (methods_at rows c) m h is means numbers)
        (λ d. refl)
        (holds_next rows names mid new (method_id c k) m state next g to.maps d key name_keys there _ _ _ (to.holds means numbers above keys own held));
  }

  pub absorb_end : (new : Store) (state : State) (k : ℕ) → length (methods_at rows c) ≤ k → AbsorbedTo rows names old new c below state k → Absorbs rows names old new c below state
  absorb_end new state k h to = record {
    holds = λ means numbers above keys own held.
        let all = take-end (methods_at rows c) k h in
        holds_same rows names new _ _ _ _ _ _ state (λ n. ap (λ ms. own_of c ms n or_else means n) all) (ap (λ ms. with_numbers numbers (numbers_of ms)) all) (λ d. refl) (to.holds means numbers above keys own held);
  }

  -- where the methods stand in a list of their own
  pub absorb_more : (ms : List MethodRow) → ms ≡ methods_at rows c → (mid new : Store) (state next : State) (k : ℕ) (m : MethodRow) → k < length ms → m ≡ get_or ms k m → AbsorbedTo rows names old mid c below state k →
      Grows mid new → HasMaps new next → Declares mid new (method_id c k) m (entry_of mid state.methods m.name) state next → AbsorbedTo rows names old new c below next (k + 1)
  absorb_more ms e mid new state next k m h is to g maps d =
      absorb_step mid new state next k m (subst (λ (xs : List MethodRow). k < length xs) e h) (subst (λ (xs : List MethodRow). m ≡ get_or xs k m) e is) to g maps d

  pub absorb_all : (ms : List MethodRow) → ms ≡ methods_at rows c → (new : Store) (state : State) (k : ℕ) → length ms ≤ k → AbsorbedTo rows names old new c below state k → Absorbs rows names old new c below state
  absorb_all ms e new state k h to = absorb_end new state k (subst (λ (xs : List MethodRow). length xs ≤ k) e h) to

pub methods_read : (rows : List ClassRow) (c : ℕ) (row : ClassRow) (ms : List MethodRow) → c < length rows → row ≡ get_or rows c row → ms ≡ row.methods → ms ≡ methods_at rows c
methods_read rows c row ms l is e = e ∙ sym (ap (λ o. unwrap_or (option_map (λ (r : ClassRow). r.methods) o) []) (slice_get_read rows (length rows) c row refl l is))
