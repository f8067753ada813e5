-- What is found in the parts of tables is what the definitions say.
use Rattle.std.proofs.Common.{◌≡◌, ℕ, zero, suc, ◌+◌, ◌<◌, ◌≤◌, Bool, true, false, List, [], ◌∷◌, Option, Some, None, length, refl, sym, ap, ◌∙◌, arith, subst, nat_eq, nat_lt, ◌⊎◌, inl, inr}
use Rattle.std.specs.Prelude.{◌&&◌, if◌then◌else◌, slice_get, option_map, option_and_then, is_some, ◌||◌, unwrap_or}
use Rattle.std.specs.Option.{is_none}
use Rattle.std.specs.List.{list_any}
use Rattle.std.proofs.lemmas.Option.{slice_get_past}
use Rattle.std.proofs.lemmas.Bool.Decides.{nat_tests}
use Rattle.st_types.specs.declared.st_type.StType.{StType}
use Rattle.st_types.specs.declared.st_type.StType.TheVariants as type
use Rattle.st_tree.specs.declared.declaration.ClassDecl.{ClassDecl}
use Rattle.st_tree.specs.declared.declaration.InterfaceDecl.{InterfaceDecl}
use Rattle.st_rules.specs.declared.ids.MethodId.{MethodId}
use Rattle.st_rules.specs.Named.{first_place}
use Rattle.st_rules.specs.Chains.{is_among, nearest, ◌or_else◌}
use Rattle.st_rules.specs.Classes.{base_of, chain, lookup, own_method, method_id, method_names, methods_in, method_at}
use Rattle.st_rules.specs.Interfaces as interface
use Rattle.st_rules.specs.Interfaces.{implements_itself}
use Rattle.st_rules.specs.Numbered.{passes_if_there}
use Rattle.st_rules.specs.InterfaceRules.{means_abstract, declares_one, has_abstract_method, is_public, lies_on_interface_cycle}
use Rattle.st_rules.specs.Modifiers.{is_abstract, same_access, method_access}
use Rattle.st_rules.specs.declared.modifiers.Access.TheVariants.{Public}
use Rattle.st_tree.specs.declared.declaration.Method.{Method}
use Rattle.class_rows.specs.declared.rows.InterfaceRow.{InterfaceRow}
use Rattle.st_rules.proofs.Booleans.{none≢some}
use Rattle.st_rules.proofs.ClassLaws.{first_place_within}
use Rattle.class_rows.specs.declared.unit_names.UnitNames.{UnitNames}
use Rattle.class_rows.specs.declared.rows.UnitRows.{UnitRows}
use Rattle.class_rows.specs.declared.rows.ClassRow.{ClassRow}
use Rattle.class_rows.specs.declared.rows.MethodRow.{MethodRow}
use Rattle.class_tables.specs.declared.store.Entry.{Entry}
use Rattle.class_tables.specs.declared.absorb.State.{State}
use Rattle.class_tables.specs.declared.settle.Settled.{Settled}
use Rattle.class_tables.specs.Slots as slots
use Rattle.class_rows.specs.UnitNames.{all_names, class_names, interface_names}
use Rattle.class_tables.specs.Slots.{ends_at_top, names_upward, slot_names}
use Rattle.class_tables.specs.Private.Store.{entry_of}
use Rattle.class_tables.specs.Private.Absorb.{first_number, methods_at}
use Rattle.class_rows.specs.UnitNames.{HasClasses, HasInterfaces}
use Rattle.class_rows.specs.Rows.{AreRows, method_row, class_row, interface_row}
use Rattle.class_tables.specs.Private.Graph.{graph_of}
use Rattle.class_tables.specs.Private.Chain.{base_in, chain_in, AreWithin}
use Rattle.class_tables.specs.Private.Settle.{IsSettled, AreAllSettled}
use Rattle.class_tables.specs.Private.Tables.{AreTables}
use Rattle.class_tables.specs.Private.Found as found
use Rattle.graph_reach.specs.Reach.{reaches, AreReached}
use Rattle.class_tables.proofs.BridgeLaws.{rows_long, interfaces_long, base-same, chain-same, lookup-same, lookup_none, place-same, keys_within, lead_within, row-at, interface-at, method-same}
use Rattle.class_rows.proofs.IndexLaws.{keys_long}
use Rattle.class_tables.proofs.ConformLaws.{chain-past, class-past, interface-past, reaches-conforms, reaches-extends, extends-past}

past_end : {X : Type 0} (xs : List X) (i : ℕ) → slice_get xs i ≡ None → length xs ≤ i
past_end [] i h = omega arith
past_end (x ∷ xs) zero h = absurd (none≢some (sym h))
past_end (x ∷ xs) (suc i) h = let p = past_end xs i h in omega (arith, p)

ends-same : (f g : ℕ → Option ℕ) → ((c : ℕ) → f c ≡ g c) → (cs : List ℕ) → ends_at_top f cs ≡ ends_at_top g cs
ends-same f g h [] = refl
ends-same f g h (c ∷ []) = ap is_none (h c)
ends-same f g h (c ∷ d ∷ cs) = ends-same f g h (d ∷ cs)

any-same : (f g : ℕ → Bool) → ((n : ℕ) → f n ≡ g n) → (ns : List ℕ) → list_any f ns ≡ list_any g ns
any-same f g h [] = refl
any-same f g h (n ∷ ns) = ap (λ b. b || list_any f ns) (h n) ∙ ap (λ b. g n || b) (any-same f g h ns)

below : (a b : ℕ) → ((a < b) × (nat_lt a b ≡ true)) ⊎ ((b ≤ a) × (nat_lt a b ≡ false))
below a b = at (nat_lt a b) refl
  where
    at : (t : Bool) → nat_lt a b ≡ t → ((a < b) × (nat_lt a b ≡ true)) ⊎ ((b ≤ a) × (nat_lt a b ≡ false))
    at true e = let h : a < b = grind (arith, nat_tests) in inl (h, e)
    at false e = let h : b ≤ a = grind (arith, nat_tests) in inr (h, e)

pub no_abstract : {A : Type 0} (classes : List (ClassDecl A)) (interfaces : List (InterfaceDecl A)) (c : ℕ) → length classes ≤ c → has_abstract_method classes c ≡ false
no_abstract classes interfaces c h =
    ap (list_any (declares_one classes (means_abstract classes c))) (chain-past classes interfaces c h)
    ∙ ap (λ o. passes_if_there (λ class. list_any (λ m. means_abstract classes c m.name.text) (methods_in class.members)) o || false) (slice_get_past classes c h)

module _ {A : Type 0} (classes : List (ClassDecl A)) (interfaces : List (InterfaceDecl A)) (names : UnitNames) (rows : UnitRows) (settled : Settled) (reach : List (List ℕ))
    (t : AreTables classes interfaces names rows settled reach) where
  states_long : length settled.states.items ≡ length classes
  states_long = t.count ∙ rows_long classes interfaces rows t.are_rows

  pub no_state : (c : ℕ) → found.state_at settled c ≡ None → length classes ≤ c
  no_state c e = let p = past_end settled.states.items c e in let l = states_long in omega (arith, p, l)

  lookup-past : (c : ℕ) (name : List ℕ) → length classes ≤ c → lookup classes c name ≡ None
  unfolding lookup
  lookup-past c name h =
      ap (nearest (own_method classes name)) (chain-past classes interfaces c h)
      ∙ ap (λ o. option_map (method_id c) (option_and_then (λ class. first_place name (method_names class)) o) or_else None) (slice_get_past classes c h)

  abbrev means : (c n : ℕ) (s : State) → Option MethodId
  means c n s = option_map (λ (e : Entry). e.id) (entry_of settled.store s.methods n)

  means-lookup : (c n : ℕ) (s : State) (name : List ℕ) → first_place name (all_names classes) ≡ Some n → found.state_at settled c ≡ Some s → means c n s ≡ lookup classes c name
  means-lookup c n s name e f = (t.states.settled c s f).holds.methods n (first_place_within name (all_names classes) n e) ∙ lookup-same classes interfaces rows t.are_rows name n e c

  pub entry_found : (c n : ℕ) (name : List ℕ) → first_place name (all_names classes) ≡ Some n → found.with_entry settled c (λ s e. e.id) n ≡ lookup classes c name
  entry_found c n name e = there (found.state_at settled c) refl
    where
      there : (o : Option State) → found.state_at settled c ≡ o → option_and_then (λ (s : State). option_map (λ (e : Entry). e.id) (entry_of settled.store s.methods n)) o ≡ lookup classes c name
      there None f = sym (lookup-past c name (no_state c f))
      there (Some s) f = means-lookup c n s name e f

  pub method_found : (c : ℕ) (name : List ℕ) → found.method names settled c name ≡ lookup classes c name
  method_found c name = ap (λ ks. option_and_then (λ n. found.with_entry settled c (λ s e. e.id) n) (first_place name ks)) t.class_names.methods ∙ at (first_place name (all_names classes)) refl
    where
      at : (o : Option ℕ) → first_place name (all_names classes) ≡ o → option_and_then (λ n. found.with_entry settled c (λ s e. e.id) n) o ≡ lookup classes c name
      at None e = sym (lookup_none classes interfaces rows t.are_rows name c e)
      at (Some n) e = entry_found c n name e

  -- ---- slots

  ends_is : (c : ℕ) (s : State) → found.state_at settled c ≡ Some s → s.ends ≡ ends_at_top (base_of classes) (chain classes c)
  ends_is c s f =
      (t.states.settled c s f).ends ∙ ends-same (base_in rows.classes) (base_of classes) (base-same classes interfaces rows t.are_rows) (chain_in rows.classes c)
      ∙ ap (ends_at_top (base_of classes)) (chain-same classes interfaces rows t.are_rows c)

  slot_of : (c n : ℕ) (s : State) (name : List ℕ) → first_place name (all_names classes) ≡ Some n → found.state_at settled c ≡ Some s → (x : Entry) → entry_of settled.store s.methods n ≡ Some x →
      (b : Bool) → s.ends ≡ b → Some (if b then x.slot else n) ≡ first_place name (if b then names_upward classes (chain classes c) else all_names classes)
  slot_of c n s name e f x g true h =
      let is : IsSettled rows.classes (length (all_names classes)) settled.store c s = t.states.settled c s f in
      sym (ap (option_map (λ (y : Entry). y.slot)) g) ∙ is.holds.slots n (first_place_within name (all_names classes) n e)
      ∙ ap (first_number n) (is.upward h) ∙ place-same classes interfaces rows t.are_rows name n (chain_in rows.classes c) e
      ∙ ap (λ cs. first_place name (names_upward classes cs)) (chain-same classes interfaces rows t.are_rows c)
  slot_of c n s name e f x g false h = sym e

  abbrev slot_if : (c : ℕ) (name : List ℕ) → Option MethodId → Option ℕ
  slot_if c name o = if is_some o then first_place name (slot_names classes c) else None

  slot_some : (c n : ℕ) (s : State) (name : List ℕ) → first_place name (all_names classes) ≡ Some n → found.state_at settled c ≡ Some s → (o : Option Entry) → entry_of settled.store s.methods n ≡ o →
      option_map (found.slot_in n s) o ≡ slot_if c name (option_map (λ (e : Entry). e.id) o)
  slot_some c n s name e f None g = refl
  slot_some c n s name e f (Some x) g =
      slot_of c n s name e f x g s.ends refl
      ∙ ap (λ b. first_place name (if b then names_upward classes (chain classes c) else all_names classes)) (ends_is c s f)

  pub slot_found : (c : ℕ) (name : List ℕ) → found.slot names settled c name ≡ slots.slot classes c name
  unfolding slots.slot
  slot_found c name = ap (λ ks. option_and_then (λ n. found.with_entry settled c (found.slot_in n) n) (first_place name ks)) t.class_names.methods ∙ at (first_place name (all_names classes)) refl
    where
      there : (n : ℕ) → first_place name (all_names classes) ≡ Some n → (o : Option State) → found.state_at settled c ≡ o →
          option_and_then (λ (s : State). option_map (found.slot_in n s) (entry_of settled.store s.methods n)) o ≡ slot_if c name (lookup classes c name)
      there n e None f = sym (ap (slot_if c name) (lookup-past c name (no_state c f)))
      there n e (Some s) f = slot_some c n s name e f (entry_of settled.store s.methods n) refl ∙ ap (slot_if c name) (means-lookup c n s name e f)

      at : (o : Option ℕ) → first_place name (all_names classes) ≡ o → option_and_then (λ n. found.with_entry settled c (found.slot_in n) n) o ≡ slot_if c name (lookup classes c name)
      at None e = sym (ap (slot_if c name) (lookup_none classes interfaces rows t.are_rows name c e))
      at (Some n) e = there n e (found.state_at settled c) refl

  -- ---- what stands above, and what is conformed to

  pub above_found : (c d : ℕ) → found.has_above settled c d ≡ is_among d (chain classes c)
  above_found c d = elim (below d (length settled.states.items)) [
    | inl p ↦ ap (λ b. if b then found.above_in settled c d (found.state_at settled c) else nat_eq c d) p.1 ∙ inside p.0 (found.state_at settled c) refl
    | inr p ↦ ap (λ b. if b then found.above_in settled c d (found.state_at settled c) else nat_eq c d) p.1 ∙ sym (class-past classes interfaces c d (inr (let l = states_long in let q = p.0 in omega (arith, l, q))))
  ]
    where
      inside : d < length settled.states.items → (o : Option State) → found.state_at settled c ≡ o → found.above_in settled c d o ≡ is_among d (chain classes c)
      inside h None f = sym (class-past classes interfaces c d (inl (no_state c f)))
      inside h (Some s) f = (t.states.settled c s f).holds.above_it d (let l = t.count in omega (arith, h, l)) ∙ ap (is_among d) (chain-same classes interfaces rows t.are_rows c)

  pub conforms_found : (c j : ℕ) → found.conforms_to rows reach c j ≡ list_any (implements_itself classes interfaces j) (chain classes c)
  conforms_found c j = at (below c (length rows.classes)) (below j (length rows.interfaces))
    where
      at : ((c < length rows.classes) × (nat_lt c (length rows.classes) ≡ true)) ⊎ ((length rows.classes ≤ c) × (nat_lt c (length rows.classes) ≡ false)) →
          ((j < length rows.interfaces) × (nat_lt j (length rows.interfaces) ≡ true)) ⊎ ((length rows.interfaces ≤ j) × (nat_lt j (length rows.interfaces) ≡ false)) →
          found.conforms_to rows reach c j ≡ list_any (implements_itself classes interfaces j) (chain classes c)
      at (inl p) (inl q) =
          ap (λ (b : Bool). if b && nat_lt j (length rows.interfaces) then reaches reach (length rows.interfaces + c) j else false) p.1
          ∙ ap (λ (b : Bool). if b then reaches reach (length rows.interfaces + c) j else false) q.1
          ∙ reaches-conforms classes interfaces rows reach t.are_rows t.reached c j
          (let l = rows_long classes interfaces rows t.are_rows in let h = p.0 in omega (arith, l, h)) (let l = interfaces_long classes interfaces rows t.are_rows in let h = q.0 in omega (arith, l, h))
      at (inr p) _ =
          ap (λ (b : Bool). if b && nat_lt j (length rows.interfaces) then reaches reach (length rows.interfaces + c) j else false) p.1
          ∙ sym (interface-past classes interfaces c j (inl (let l = rows_long classes interfaces rows t.are_rows in let h = p.0 in omega (arith, l, h))))
      at (inl p) (inr q) =
          ap (λ (b : Bool). if b && nat_lt j (length rows.interfaces) then reaches reach (length rows.interfaces + c) j else false) p.1
          ∙ ap (λ (b : Bool). if b then reaches reach (length rows.interfaces + c) j else false) q.1
          ∙ sym (interface-past classes interfaces c j (inr (let l = interfaces_long classes interfaces rows t.are_rows in let h = q.0 in omega (arith, l, h))))

  pub extends_found : (i j : ℕ) → found.extends rows reach i j ≡ interface.extends interfaces i j
  extends_found i j = at (below i (length rows.interfaces)) (below j (length rows.interfaces))
    where
      at : ((i < length rows.interfaces) × (nat_lt i (length rows.interfaces) ≡ true)) ⊎ ((length rows.interfaces ≤ i) × (nat_lt i (length rows.interfaces) ≡ false)) →
          ((j < length rows.interfaces) × (nat_lt j (length rows.interfaces) ≡ true)) ⊎ ((length rows.interfaces ≤ j) × (nat_lt j (length rows.interfaces) ≡ false)) →
          found.extends rows reach i j ≡ interface.extends interfaces i j
      at (inl p) (inl q) =
          ap (λ (b : Bool). if b && nat_lt j (length rows.interfaces) then reaches reach i j else nat_eq i j) p.1
          ∙ ap (λ (b : Bool). if b then reaches reach i j else nat_eq i j) q.1
          ∙ reaches-extends classes interfaces rows reach t.are_rows t.reached i j
          (let l = interfaces_long classes interfaces rows t.are_rows in let h = p.0 in omega (arith, l, h)) (let l = interfaces_long classes interfaces rows t.are_rows in let h = q.0 in omega (arith, l, h))
      at (inr p) _ =
          ap (λ (b : Bool). if b && nat_lt j (length rows.interfaces) then reaches reach i j else nat_eq i j) p.1
          ∙ sym (extends-past classes interfaces i j (inl (let l = interfaces_long classes interfaces rows t.are_rows in let h = p.0 in omega (arith, l, h))))
      at (inl p) (inr q) =
          ap (λ (b : Bool). if b && nat_lt j (length rows.interfaces) then reaches reach i j else nat_eq i j) p.1
          ∙ ap (λ (b : Bool). if b then reaches reach i j else nat_eq i j) q.1
          ∙ sym (extends-past classes interfaces i j (inr (let l = interfaces_long classes interfaces rows t.are_rows in let h = q.0 in omega (arith, l, h))))

  pub conforms_instance : (c d : ℕ) (target : StType) (r : Bool) → target ≡ type.Instance d → r ≡ found.has_above settled c d → r ≡ interface.conforms classes interfaces c target
  unfolding interface.conforms
  conforms_instance c d target r e h = h ∙ above_found c d ∙ sym (ap (interface.conforms classes interfaces c) e)

  pub conforms_reference : (c d : ℕ) (target : StType) (r : Bool) → target ≡ type.Reference d → r ≡ found.has_above settled c d → r ≡ interface.conforms classes interfaces c target
  unfolding interface.conforms
  conforms_reference c d target r e h = h ∙ above_found c d ∙ sym (ap (interface.conforms classes interfaces c) e)

  pub conforms_interface : (c j : ℕ) (target : StType) (r : Bool) → target ≡ type.Interface j → r ≡ found.conforms_to rows reach c j → r ≡ interface.conforms classes interfaces c target
  unfolding interface.conforms
  conforms_interface c j target r e h = h ∙ conforms_found c j ∙ sym (ap (interface.conforms classes interfaces c) e)

  -- ---- lines and access

  pub public_found : (id : MethodId) → found.is_public rows id ≡ is_public classes id
  public_found id = ap (passes_if_there (λ (m : MethodRow). same_access m.access Public)) (method-same classes interfaces rows t.are_rows id) ∙ at (method_at classes id)
    where
      at : (o : Option (Method A)) → passes_if_there (λ (m : MethodRow). same_access m.access Public) (option_map (method_row (all_names classes)) o) ≡ passes_if_there (λ m. same_access (method_access m.modifiers) Public) o
      at None = refl
      at (Some m) = refl

  abbrev row_of : ClassDecl A → ClassRow
  row_of = class_row (all_names classes) (class_names classes) (interface_names interfaces)

  pub base_found : (c : ℕ) → base_in rows.classes c ≡ base_of classes c
  base_found = base-same classes interfaces rows t.are_rows

  pub extends_there : (c : ℕ) → found.has_extends rows c ≡ passes_if_there (λ class. is_some class.base) (slice_get classes c)
  extends_there c = ap (passes_if_there (λ (row : ClassRow). row.has_extends)) (row-at classes interfaces rows t.are_rows c) ∙ at (slice_get classes c)
    where
      at : (o : Option (ClassDecl A)) → passes_if_there (λ (row : ClassRow). row.has_extends) (option_map row_of o) ≡ passes_if_there (λ class. is_some class.base) o
      at None = refl
      at (Some class) = refl

  pub concrete_found : (c : ℕ) → found.concrete_line rows c ≡ option_and_then (λ class. if is_abstract class.modifiers then None else Some class.line) (slice_get classes c)
  concrete_found c = ap (option_and_then found.line_of) (row-at classes interfaces rows t.are_rows c) ∙ at (slice_get classes c)
    where
      at : (o : Option (ClassDecl A)) → option_and_then found.line_of (option_map row_of o) ≡ option_and_then (λ class. if is_abstract class.modifiers then None else Some class.line) o
      at None = refl
      at (Some class) = refl

  pub interface_line_found : (i : ℕ) → found.interface_line rows i ≡ option_map (λ interface. interface.line) (slice_get interfaces i)
  interface_line_found i = ap (option_map (λ (row : InterfaceRow). row.line)) (interface-at classes interfaces rows t.are_rows i) ∙ at (slice_get interfaces i)
    where
      at : (o : Option (InterfaceDecl A)) → option_map (λ (row : InterfaceRow). row.line) (option_map (interface_row (interface_names interfaces)) o) ≡ option_map (λ interface. interface.line) o
      at None = refl
      at (Some interface) = refl

  pub extended-same : (i : ℕ) → found.extended rows i ≡ interface.extended interfaces i
  extended-same i = ap (λ o. unwrap_or (option_map (λ (row : InterfaceRow). row.extended) o) []) (interface-at classes interfaces rows t.are_rows i) ∙ at (slice_get interfaces i)
    where
      at : (o : Option (InterfaceDecl A)) → unwrap_or (option_map (λ (row : InterfaceRow). row.extended) (option_map (interface_row (interface_names interfaces)) o)) [] ≡ unwrap_or (option_map (λ j. interface.interfaces_named interfaces j.bases) o) []
      at None = refl
      at (Some j) = refl

  pub cycle_found : (i : ℕ) → found.lies_on_cycle rows reach i ≡ lies_on_interface_cycle interfaces i
  cycle_found i = any-same (λ j. found.extends rows reach j i) (λ j. interface.extends interfaces j i) (λ j. extends_found j i) (found.extended rows i) ∙ ap (list_any (λ j. interface.extends interfaces j i)) (extended-same i)

-- ---- the tables as they are built

module _ {A : Type 0} (classes : List (ClassDecl A)) (interfaces : List (InterfaceDecl A)) (names : UnitNames) (rows : UnitRows) (slice : List ClassRow) (n : ℕ)
    (has : HasClasses names classes) (r : AreRows classes interfaces rows) (is : slice ≡ rows.classes) (count : n ≡ length names.methods) where
  names_many : n ≡ length (all_names classes)
  names_many = count ∙ sym (keys_long names.methods) ∙ ap length has.methods

  pub rows_within : AreWithin slice
  rows_within = subst AreWithin (sym is) (lead_within classes interfaces rows r).bases

  pub rows_keys : (c k : ℕ) (m : MethodRow) → slice_get (methods_at slice c) k ≡ Some m → m.name < n
  rows_keys c k m e =
      let l = keys_within classes interfaces rows r c k m (sym (ap (λ rs. slice_get (methods_at rs c) k) is) ∙ e) in
      let q = names_many in omega (arith, l, q)

  pub tables_made : (settled : Settled) (reach : List (List ℕ)) → HasInterfaces names interfaces → AreAllSettled slice n settled.store settled.states.items → length settled.states.items ≡ length slice →
      AreReached (graph_of rows) (length rows.interfaces) reach → AreTables classes interfaces names rows settled reach
  tables_made settled reach i s l told = record {
    class_names = has;
    interface_names = i;
    are_rows = r;
    states = subst (λ (k : ℕ). AreAllSettled rows.classes k settled.store settled.states.items) names_many (subst (λ (rs : List ClassRow). AreAllSettled rs n settled.store settled.states.items) is s);
    count = l ∙ ap length is;
    reached = told;
  }
