-- What the tables tell is what the program means.
use Rattle.std.proofs.Common.{◌≡◌, ◌≤◌, ◌<◌, ℕ, zero, suc, ◌+◌, ◌-◌, nat_eq, Bool, true, false, List, [], ◌∷◌, length, map, Option, Some, None, refl, sym, ap, ◌∙◌, subst, arith, ◌⊎◌, inl, inr}
use Rattle.std.specs.Prelude.{if◌then◌else◌, ◌||◌, nat_lt, filter, option_map, option_and_then, unwrap_or, slice_get}
use Rattle.std.specs.List.{list_any, range_with_len}
use Rattle.std.proofs.lemmas.Bool.{eqb-true, eq-eqb}
use Rattle.std.proofs.lemmas.List.{length-map}
use Rattle.std.proofs.lemmas.Option.{slice_get-map, slice_get_past}
use Rattle.plc_text.specs.Words.{same}
use Rattle.st_types.specs.declared.st_type.StType.{StType}
use Rattle.st_types.specs.declared.st_type.StType.TheVariants as type
use Rattle.st_tree.specs.declared.declaration.ClassDecl.{ClassDecl}
use Rattle.st_tree.specs.declared.declaration.InterfaceDecl.{InterfaceDecl}
use Rattle.st_tree.specs.declared.declaration.Member.{Member}
use Rattle.st_tree.specs.declared.declaration.Member.TheVariants as member
use Rattle.st_tree.specs.declared.declaration.ProgramDecl.{ProgramDecl}
use Rattle.st_tree.specs.declared.program.Note.{Note}
use Rattle.st_tree.specs.declared.program.Program.{Program as CheckedProgram}
use Rattle.st_rules.specs.Numbered.{passes_if_there}
use Rattle.st_rules.specs.Chains.{is_among, ◌or_else◌, nearest, climb, Leads, itself, onward}
use Rattle.st_rules.specs.Classes.{base_of, chain, class_named, methods_in}
use Rattle.st_rules.specs.Interfaces as rules
use Rattle.st_rules.specs.Interfaces.{interfaces_named, extended, extends}
use Rattle.st_rules.proofs.Booleans.{either, true≢false, false≢true, same-tests, or-first, or-second}
use Rattle.st_rules.proofs.InterfaceLaws.{named_within, extended_within, extends_law}
use Rattle.program_tables.specs.Interfaces.{is_extended}
use Rattle.graph_reach.specs.Reach.{ahead_in, reaches, AreEdges, AreReached}
use Rattle.st_values.specs.Program as plain
use Rattle.st_values.specs.Program.{Routine, Class, class_at, chain_of, conforming, conforms_as, body_in, named, lookup, conforms}
use Rattle.st_values.specs.View.{method_of, function_of, program_of}
use Rattle.program_tables.specs.declared.parts.Tables.{Tables}
use Rattle.program_tables.specs.declared.routine.RoutineId.TheVariants as id
use Rattle.program_tables.specs.Routine.{members_of, method_in, or_empty, routine_of}
use Rattle.program_tables.specs.Private.Places.{Table, found_in, first_from, IsTableOf, class_name, program_name, interface_name, is_method, method_name, AreMemberTables}
use Rattle.program_tables.specs.Private.Bases.{base_by, implemented_by, extended_by}
use Rattle.st_rules.specs.Upward.{base_in}
use Rattle.program_tables.specs.Private.Climb.{any_upward, own_method, implements_itself}
use Rattle.program_tables.specs.Private.Found as found
use Rattle.program_tables.specs.Private.Tables.{bases_in, implemented_in, extended_in, AreTables}
use Rattle.program_tables.proofs.PlaceLaws.{shifted, placed, class_found, bases_are, implemented_are, extended_are, table_at, no_table_at}
use Rattle.st_rules.proofs.UpwardLaws.{upward_is, climb_same, nearest_same}
use Rattle.program_tables.proofs.ClimbLaws.{any_upward_is, map_nearest, any_same}
use Rattle.program_tables.proofs.ClassLaws.{past_end, within_get, only, class_is_there, count_classes, class_climbs, program_climbs, no_method, no_interface, number_of_name, chain_past, above_conforms}
use Rattle.program_tables.proofs.RoutineLaws.{below}

-- ---- edges of interfaces

lists-at : (all interfaces : List (InterfaceDecl Note)) (i : ℕ) → ahead_in (extended_in all interfaces) i ≡ unwrap_or (option_map (λ d. interfaces_named all d.bases) (slice_get interfaces i)) []
lists-at all [] i = refl
lists-at all (d ∷ ds) zero = refl
lists-at all (d ∷ ds) (suc i) = lists-at all ds i

pub are_edges : (interfaces : List (InterfaceDecl Note)) → AreEdges (extended_in interfaces interfaces)
are_edges interfaces = record {
  within = λ i k h.
      let l = length-map interfaces (λ (d : InterfaceDecl Note). interfaces_named interfaces d.bases) in
      let w = ((extended_within interfaces).within i k (ap (is_among k) (sym (lists-at interfaces interfaces i)) ∙ h)).1 in
      omega (arith, l, w);
}

leads_same : (f g : ℕ → List ℕ) (i j : ℕ) → ((k : ℕ) → f k ≡ g k) → Leads f i j → Leads g i j
leads_same f g _ _ h (itself i) = itself i
leads_same f g _ _ h (onward i k j e p) = onward i k j (ap (is_among k) (sym (h i)) ∙ e) (leads_same f g k j h p)

pub reaches_is : (interfaces : List (InterfaceDecl Note)) (reach : List (List ℕ)) (i j : ℕ) → AreReached (extended_in interfaces interfaces) (length interfaces) reach → i < length interfaces → j < length interfaces → reaches reach i j ≡ extends interfaces i j
reaches_is interfaces reach i j told h k =
    let l = length-map interfaces (λ (d : InterfaceDecl Note). interfaces_named interfaces d.bases) in
    let at = told.decided i j (omega (arith, h, l)) k in
    let law = extends_law interfaces i j in
    same-tests _ _
    (λ e. law.1 (leads_same (ahead_in (extended_in interfaces interfaces)) (extended interfaces) i j (lists-at interfaces interfaces) (at.0 e)))
    (λ e. at.1 (leads_same (extended interfaces) (ahead_in (extended_in interfaces interfaces)) i j (λ m. sym (lists-at interfaces interfaces m)) (law.0 e)))

-- ---- numbers that pass

from_there : (test : ℕ → Bool) (i a n : ℕ) → is_among i (filter test (range_with_len a n)) ≡ true → (a ≤ i) × (i < a + n) × (test i ≡ true)
from_there test i a zero h = absurd (false≢true h)
from_there test i a (suc n) h = at (λ g. on (from_there test i (a + 1) n g)) (test a) refl h
  where
    on : (a + 1 ≤ i) × (i < (a + 1) + n) × (test i ≡ true) → (a ≤ i) × (i < a + suc n) × (test i ≡ true)
    on r = let u = r.0 in let v = r.1 in (omega (arith, u), omega (arith, v), r.2)

    at : (is_among i (filter test (range_with_len (a + 1) n)) ≡ true → (a ≤ i) × (i < a + suc n) × (test i ≡ true)) → (b : Bool) → test a ≡ b → is_among i (if b then a ∷ filter test (range_with_len (a + 1) n) else filter test (range_with_len (a + 1) n)) ≡ true → (a ≤ i) × (i < a + suc n) × (test i ≡ true)
    at f true e g = elim (either (nat_eq i a) (is_among i (filter test (range_with_len (a + 1) n))) g) [
      | inl q ↦ let s : i ≡ a = eqb-true i a q in (omega (arith, s), omega (arith, s), ap test s ∙ e)
      | inr q ↦ f q
    ]
    at f false e g = f g

to_there : (test : ℕ → Bool) (i a n : ℕ) → a ≤ i → i < a + n → test i ≡ true → is_among i (filter test (range_with_len a n)) ≡ true
to_there test i a zero h k e = absurd (omega arith)
to_there test i a (suc n) h k e = at (λ l m. to_there test i (a + 1) n l m e) (test a) refl (split a i h)
  where
    split : (x y : ℕ) → x ≤ y → (x ≡ y) ⊎ (x < y)
    split zero zero h = inl refl
    split zero (suc y) h = inr (omega arith)
    split (suc x) zero h = absurd (omega arith)
    split (suc x) (suc y) h = elim (split x y (omega arith)) [ inl p ↦ inl (ap suc p) | inr p ↦ inr (omega (arith, p)) ]

    at : (a + 1 ≤ i → i < (a + 1) + n → is_among i (filter test (range_with_len (a + 1) n)) ≡ true) → (b : Bool) → test a ≡ b → (a ≡ i) ⊎ (a < i) → is_among i (if b then a ∷ filter test (range_with_len (a + 1) n) else filter test (range_with_len (a + 1) n)) ≡ true
    at g true f (inl p) = or-first (nat_eq i a) (is_among i (filter test (range_with_len (a + 1) n))) (eq-eqb i a (sym p))
    at g true f (inr p) = or-second (nat_eq i a) (is_among i (filter test (range_with_len (a + 1) n))) (g (omega (arith, p)) (omega (arith, k)))
    at g false f (inl p) = absurd (true≢false (sym e ∙ ap test (sym p) ∙ f))
    at g false f (inr p) = g (omega (arith, p)) (omega (arith, k))

pub among_passing : (test : ℕ → Bool) (i n : ℕ) → is_among i (filter test (range_with_len 0 n)) ≡ (if nat_lt i n then test i else false)
among_passing test i n = elim (below i n) [
  | inl h ↦ same-tests _ _ (λ e. (from_there test i 0 n e).2) (λ e. to_there test i 0 n (omega arith) (let l = h.0 in omega (arith, l)) e) ∙ ap (λ b. if b then test i else false) (sym h.1)
  | inr h ↦ none (is_among i (filter test (range_with_len 0 n))) refl h.0 ∙ ap (λ b. if b then test i else false) (sym h.1)
]
  where
    none : (b : Bool) → is_among i (filter test (range_with_len 0 n)) ≡ b → n ≤ i → b ≡ false
    none true e l = let w = (from_there test i 0 n e).1 in absurd (omega (arith, l, w))
    none false e l = refl

-- ---- methods among members

behind_one : {X : Type 0} (f : Option (Member Note) → X) (x : Member Note) (xs : List (Member Note)) (o : Option ℕ) → option_map (λ k. f (slice_get (x ∷ xs) k)) (option_map suc o) ≡ option_map (λ k. f (slice_get xs k)) o
behind_one f x xs None = refl
behind_one f x xs (Some k) = refl

abbrev the_method : ℕ → Option (Member Note) → Routine
the_method c o = or_empty (Some c) (option_map (method_of c) (method_in o))

named_first : (c : ℕ) (ms : List (Member Note)) (name : List ℕ) → option_map (λ k. the_method c (slice_get ms k)) (first_from method_name is_method 0 ms name) ≡ named (map (method_of c) (methods_in ms)) name
named_first c [] name = refl
named_first c (member.Section s ∷ ms) name =
    ap (option_map (λ k. the_method c (slice_get (member.Section s ∷ ms) k))) (shifted method_name is_method 0 ms name)
    ∙ behind_one (the_method c) (member.Section s) ms (first_from method_name is_method 0 ms name)
    ∙ named_first c ms name
named_first c (member.Method m ∷ ms) name =
    ap (λ o. option_map (λ k. the_method c (slice_get (member.Method m ∷ ms) k)) (if same m.name.text name then Some 0 else o)) (shifted method_name is_method 0 ms name)
    ∙ at (named_first c ms name) (same m.name.text name)
  where
    at : option_map (λ k. the_method c (slice_get ms k)) (first_from method_name is_method 0 ms name) ≡ named (map (method_of c) (methods_in ms)) name → (b : Bool) → option_map (λ k. the_method c (slice_get (member.Method m ∷ ms) k)) (if b then Some 0 else option_map suc (first_from method_name is_method 0 ms name)) ≡ (if b then Some (method_of c m) else named (map (method_of c) (methods_in ms)) name)
    at f true = refl
    at f false = behind_one (the_method c) (member.Method m) ms (first_from method_name is_method 0 ms name) ∙ f

-- ---- the tables of a program

module _ (p : CheckedProgram) (t : Tables) (is : AreTables p t) where
  base_is : (c : ℕ) → base_in t.bases.items c ≡ base_of p.classes c
  base_is c = ap (λ bs. base_in bs c) is.bases ∙ ap (option_and_then (λ b. b)) (slice_get-map (λ (d : ClassDecl Note). option_and_then (λ b. class_named p.classes b.text) d.base) p.classes c) ∙ at (slice_get p.classes c)
    where
      at : (o : Option (ClassDecl Note)) → option_and_then (λ (b : Option ℕ). b) (option_map (λ (d : ClassDecl Note). option_and_then (λ b. class_named p.classes b.text) d.base) o) ≡ option_and_then (λ class. option_and_then (λ base. class_named p.classes base.text) class.base) o
      at None = refl
      at (Some d) = refl

  steps : length t.bases.items + 1 ≡ suc (length p.classes)
  steps =
      let a = ap length is.bases in
      let b = length-map p.classes (λ (d : ClassDecl Note). option_and_then (λ b. class_named p.classes b.text) d.base) in
      omega (arith, a, b)

  climbed : (c : ℕ) → climb (base_in t.bases.items) (length t.bases.items + 1) [] (Some c) ≡ chain p.classes c
  unfolding chain
  climbed c = ap (λ n. climb (base_in t.bases.items) n [] (Some c)) steps ∙ climb_same (base_in t.bases.items) (base_of p.classes) base_is (suc (length p.classes)) [] (Some c)

  -- ---- names of classes

  pub number_found : (name : List ℕ) → found.class_number t name ≡ plain.class_number (program_of p) name
  number_found name =
      ap (λ o. o or_else found_in t.program_places name) (class_found t.class_places p.classes is.class_places name)
      ∙ ap (λ o. class_named p.classes name or_else o) (is.program_places.finds name ∙ placed program_name (length p.classes) p.programs name)
      ∙ sym (number_of_name p name)

  -- ---- methods

  method_is : (d k : ℕ) → routine_of p (id.Method d k) ≡ the_method d (slice_get (members_of (slice_get p.classes d)) k)
  unfolding routine_of
  method_is d k = refl

  methods_are : (d : ℕ) (o : Option ℕ) → option_map (routine_of p) (option_map (id.Method d) o) ≡ option_map (λ k. the_method d (slice_get (members_of (slice_get p.classes d)) k)) o
  methods_are d None = refl
  methods_are d (Some k) = ap Some (method_is d k)

  abbrev own_in : ℕ → List ℕ → Option Table → Option Routine
  own_in d name q = option_map (routine_of p) (option_map (id.Method d) (option_and_then (λ tab. found_in tab name) q))

  own_found : (d : ℕ) (name : List ℕ) → option_map (routine_of p) (own_method t.methods.items name d) ≡ plain.own_method (program_of p) name d
  own_found d name = at (slice_get p.classes d) refl
    where
      at : (o : Option (ClassDecl Note)) → slice_get p.classes d ≡ o → own_in d name (slice_get t.methods.items d) ≡ plain.own_method (program_of p) name d
      at None e = ap (own_in d name) (no_table_at t.methods.items p.classes d is.methods e) ∙ sym (no_method p d name (past_end p.classes d e))
      at (Some decl) e =
          let tab = table_at t.methods.items p.classes d decl is.methods e in
          let firsts = first_from method_name is_method 0 decl.members name in
          ap (own_in d name) tab.1
          ∙ ap (λ q. option_map (routine_of p) (option_map (id.Method d) q)) (tab.2.finds name)
          ∙ methods_are d firsts
          ∙ ap (λ q. option_map (λ k. the_method d (slice_get (members_of q) k)) firsts) e
          ∙ named_first d decl.members name
          ∙ sym (ap (λ q. plain.method_of q name) (class_is_there p d decl e))

  nearest_past : (c : ℕ) (name : List ℕ) → length p.classes ≤ c → nearest (plain.own_method (program_of p) name) (c ∷ []) ≡ nearest (plain.own_method (program_of p) name) (chain_of (class_at (program_of p) c))
  nearest_past c name h =
      ap (λ o. o or_else None) (no_method p c name h)
      ∙ at (slice_get p.programs (c - length p.classes))
      ∙ ap (nearest (plain.own_method (program_of p) name)) (sym (program_climbs p c h))
    where
      at : {X : Type 0} (o : Option X) → None ≡ nearest (plain.own_method (program_of p) name) (only c o)
      at None = refl
      at (Some d) = sym (ap (λ o. o or_else None) (no_method p c name h))

  along_chain : (c : ℕ) (name : List ℕ) → nearest (plain.own_method (program_of p) name) (chain p.classes c) ≡ nearest (plain.own_method (program_of p) name) (chain_of (class_at (program_of p) c))
  along_chain c name = elim (below c (length p.classes)) [
    | inl h ↦ ap (nearest (plain.own_method (program_of p) name)) (sym (class_climbs p c h.0))
    | inr h ↦ ap (nearest (plain.own_method (program_of p) name)) (chain_past p c h.0) ∙ nearest_past c name h.0
  ]

  pub method_found : (c : ℕ) (name : List ℕ) → option_map (routine_of p) (found.method t c name) ≡ plain.lookup (program_of p) c name
  unfolding lookup
  method_found c name =
      ap (option_map (routine_of p)) (upward_is (own_method t.methods.items name) (base_in t.bases.items) (length t.bases.items + 1) c ∙ ap (nearest (own_method t.methods.items name)) (climbed c))
      ∙ map_nearest (routine_of p) (own_method t.methods.items name) (chain p.classes c)
      ∙ nearest_same (λ d. option_map (routine_of p) (own_method t.methods.items name d)) (plain.own_method (program_of p) name) (λ d. own_found d name) (chain p.classes c)
      ∙ along_chain c name

  -- ---- functions and bodies

  function_is : (k : ℕ) → routine_of p (id.Function k) ≡ or_empty None (slice_get (program_of p).functions k)
  unfolding routine_of
  function_is k = refl

  pub function_found : (k : ℕ) → option_map (routine_of p) (found.function t k) ≡ slice_get (program_of p).functions k
  function_found k = ap (λ n. option_map (routine_of p) (if nat_lt k n then Some (id.Function k) else None)) is.functions ∙ at (below k (length p.functions))
    where
      long : length (program_of p).functions ≡ length p.functions
      long = length-map p.functions function_of

      at : ((k < length p.functions) × (nat_lt k (length p.functions) ≡ true)) ⊎ ((length p.functions ≤ k) × (nat_lt k (length p.functions) ≡ false))
          → option_map (routine_of p) (if nat_lt k (length p.functions) then Some (id.Function k) else None) ≡ slice_get (program_of p).functions k
      at (inl h) =
          let l = long in let g = h.0 in
          let f = within_get (program_of p).functions k (omega (arith, l, g)) in
          ap (λ b. option_map (routine_of p) (if b then Some (id.Function k) else None)) h.1 ∙ ap Some (function_is k ∙ ap (or_empty None) f.1) ∙ sym f.1
      at (inr h) =
          let l = long in let g = h.0 in
          ap (λ b. option_map (routine_of p) (if b then Some (id.Function k) else None)) h.1 ∙ sym (slice_get_past (program_of p).functions k (omega (arith, l, g)))

  body_is : (c : ℕ) → routine_of p (id.Body c) ≡ or_empty (Some c) (plain.body_of (program_of p) c)
  unfolding routine_of
  body_is c = refl

  pub body_found : (c : ℕ) → option_map (routine_of p) (found.body_of t c) ≡ plain.body_of (program_of p) c
  body_found c = ap (λ n. option_map (routine_of p) (if nat_lt c n then Some (id.Body c) else None)) is.classes ∙ at (below c (found.count p))
    where
      at : ((c < found.count p) × (nat_lt c (found.count p) ≡ true)) ⊎ ((found.count p ≤ c) × (nat_lt c (found.count p) ≡ false))
          → option_map (routine_of p) (if nat_lt c (found.count p) then Some (id.Body c) else None) ≡ plain.body_of (program_of p) c
      at (inl h) =
          let l = count_classes p in let g = h.0 in
          let k = within_get (program_of p).classes c (omega (arith, l, g)) in
          ap (λ b. option_map (routine_of p) (if b then Some (id.Body c) else None)) h.1 ∙ ap Some (body_is c ∙ ap (λ o. or_empty (Some c) (body_in o)) k.1) ∙ sym (ap body_in k.1)
      at (inr h) =
          let l = count_classes p in let g = h.0 in
          ap (λ b. option_map (routine_of p) (if b then Some (id.Body c) else None)) h.1 ∙ sym (ap body_in (slice_get_past (program_of p).classes c (omega (arith, l, g))))

  pub count_found : t.classes ≡ length (program_of p).classes
  count_found = is.classes ∙ sym (count_classes p)

  -- ---- what a class conforms to

  is_past : (c : ℕ) → found.count p ≤ c → class_at (program_of p) c ≡ None
  is_past c h = let l = count_classes p in slice_get_past (program_of p).classes c (omega (arith, l, h))

  chain_there : (c : ℕ) → c < found.count p → chain p.classes c ≡ chain_of (class_at (program_of p) c)
  chain_there c h = elim (below c (length p.classes)) [
    | inl k ↦ sym (class_climbs p c k.0)
    | inr k ↦
        let l = k.0 in
        let x = within_get p.programs (c - length p.classes) (omega (arith, h, l)) in
        chain_past p c k.0 ∙ sym (program_climbs p c k.0 ∙ ap (only c) x.1)
  ]

  pub chain_found : (c : ℕ) → found.chain t c ≡ chain_of (class_at (program_of p) c)
  chain_found c = ap (λ n. if nat_lt c n then climb (base_in t.bases.items) (length t.bases.items + 1) [] (Some c) else []) is.classes ∙ at (below c (found.count p))
    where
      at : ((c < found.count p) × (nat_lt c (found.count p) ≡ true)) ⊎ ((found.count p ≤ c) × (nat_lt c (found.count p) ≡ false))
          → (if nat_lt c (found.count p) then climb (base_in t.bases.items) (length t.bases.items + 1) [] (Some c) else []) ≡ chain_of (class_at (program_of p) c)
      at (inl h) = ap (λ b. if b then climb (base_in t.bases.items) (length t.bases.items + 1) [] (Some c) else []) h.1 ∙ climbed c ∙ chain_there c h.0
      at (inr h) = ap (λ b. if b then climb (base_in t.bases.items) (length t.bases.items + 1) [] (Some c) else []) h.1 ∙ sym (ap chain_of (is_past c h.0))

  derived_at : (c d : ℕ) → found.is_derived t c d ≡ is_among d (chain_of (class_at (program_of p) c))
  derived_at c d = ap (λ n. if nat_lt c n then any_upward (nat_eq d) (base_in t.bases.items) (length t.bases.items + 1) c else false) is.classes ∙ at (below c (found.count p))
    where
      at : ((c < found.count p) × (nat_lt c (found.count p) ≡ true)) ⊎ ((found.count p ≤ c) × (nat_lt c (found.count p) ≡ false))
          → (if nat_lt c (found.count p) then any_upward (nat_eq d) (base_in t.bases.items) (length t.bases.items + 1) c else false) ≡ is_among d (chain_of (class_at (program_of p) c))
      at (inl h) =
          ap (λ b. if b then any_upward (nat_eq d) (base_in t.bases.items) (length t.bases.items + 1) c else false) h.1
          ∙ any_upward_is (nat_eq d) (base_in t.bases.items) (length t.bases.items + 1) c ∙ ap (is_among d) (climbed c ∙ chain_there c h.0)
      at (inr h) =
          ap (λ b. if b then any_upward (nat_eq d) (base_in t.bases.items) (length t.bases.items + 1) c else false) h.1
          ∙ sym (ap (λ o. is_among d (chain_of o)) (is_past c h.0))

  conforms_instance : (d : ℕ) (o : Option Class) → is_among d (chain_of o) ≡ conforming (type.Instance d) o
  conforms_instance d None = refl
  conforms_instance d (Some k) = refl

  conforms_reference : (d : ℕ) (o : Option Class) → is_among d (chain_of o) ≡ conforming (type.Reference d) o
  conforms_reference d None = refl
  conforms_reference d (Some k) = refl

  itself_there : (i d : ℕ) → i < length p.interfaces → implements_itself t.implemented.items t.reach.items i d ≡ rules.implements_itself p.classes p.interfaces i d
  itself_there i d h =
      ap (λ js. implements_itself js t.reach.items i d) is.implemented
      ∙ ap (passes_if_there (λ js. list_any (λ j. reaches t.reach.items j i) js)) (slice_get-map (λ (x : ClassDecl Note). interfaces_named p.interfaces x.interfaces) p.classes d)
      ∙ at (slice_get p.classes d)
    where
      at : (o : Option (ClassDecl Note)) → passes_if_there (λ js. list_any (λ j. reaches t.reach.items j i) js) (option_map (λ (x : ClassDecl Note). interfaces_named p.interfaces x.interfaces) o)
          ≡ list_any (λ j. extends p.interfaces j i) (unwrap_or (option_map (λ class. interfaces_named p.interfaces class.interfaces) o) [])
      at None = refl
      at (Some x) = any_same (λ j. reaches t.reach.items j i) (λ j. extends p.interfaces j i) (interfaces_named p.interfaces x.interfaces)
          (λ j e. reaches_is p.interfaces t.reach.items j i is.reach (named_within p.interfaces x.interfaces j e) h)

  abbrev to_interface : ℕ → ℕ → Bool
  to_interface c i = any_upward (implements_itself t.implemented.items t.reach.items i) (base_in t.bases.items) (length t.bases.items + 1) c

  interface_above : (c i : ℕ) → i < length p.interfaces → to_interface c i ≡ list_any (rules.implements_itself p.classes p.interfaces i) (chain p.classes c)
  interface_above c i h =
      any_upward_is (implements_itself t.implemented.items t.reach.items i) (base_in t.bases.items) (length t.bases.items + 1) c
      ∙ ap (list_any (implements_itself t.implemented.items t.reach.items i)) (climbed c)
      ∙ any_same (implements_itself t.implemented.items t.reach.items i) (rules.implements_itself p.classes p.interfaces i) (chain p.classes c) (λ d e. itself_there i d h)

  nothing_past : (c i : ℕ) → length p.classes ≤ c → list_any (rules.implements_itself p.classes p.interfaces i) (chain p.classes c) ≡ false
  nothing_past c i h =
      ap (list_any (rules.implements_itself p.classes p.interfaces i)) (chain_past p c h)
      ∙ ap (λ o. list_any (λ j. extends p.interfaces j i) (unwrap_or (option_map (λ class. interfaces_named p.interfaces class.interfaces) o) []) || false) (slice_get_past p.classes c h)

  abbrev conforms_here : ℕ → ℕ → Bool
  conforms_here c i = rules.conforms p.classes p.interfaces c (type.Interface i)

  interface_at : (c i : ℕ) → (if nat_lt i (length p.interfaces) then conforms_here c i else false) ≡ conforming (type.Interface i) (class_at (program_of p) c)
  interface_at c i = elim (below c (length p.classes)) [
    | inl h ↦
        let d = within_get p.classes c h.0 in
        sym (ap (conforming (type.Interface i)) (class_is_there p c d.0 d.1) ∙ among_passing (conforms_here c) i (length p.interfaces))
    | inr h ↦ at (nat_lt i (length p.interfaces)) (sym (above_conforms p c i) ∙ nothing_past c i h.0) ∙ sym (no_interface p c i h.0)
  ]
    where
      at : (b : Bool) → conforms_here c i ≡ false → (if b then conforms_here c i else false) ≡ false
      at true e = e
      at false e = refl

  conforms_to_is : (c i : ℕ) → found.conforms_to t c i ≡ conforming (type.Interface i) (class_at (program_of p) c)
  conforms_to_is c i = ap (λ n. if nat_lt i n then to_interface c i else false) is.interfaces ∙ at (below i (length p.interfaces)) ∙ interface_at c i
    where
      at : ((i < length p.interfaces) × (nat_lt i (length p.interfaces) ≡ true)) ⊎ ((length p.interfaces ≤ i) × (nat_lt i (length p.interfaces) ≡ false))
          → (if nat_lt i (length p.interfaces) then to_interface c i else false) ≡ (if nat_lt i (length p.interfaces) then conforms_here c i else false)
      at (inl h) = ap (λ v. if nat_lt i (length p.interfaces) then v else false) (interface_above c i h.0 ∙ above_conforms p c i)
      at (inr h) = ap (λ b. if b then to_interface c i else false) h.1 ∙ sym (ap (λ b. if b then conforms_here c i else false) h.1)

  nothing_else : (k : StType) (o : Option Class) → ((c : Class) → conforms_as k c ≡ false) → false ≡ conforming k o
  nothing_else k None h = refl
  nothing_else k (Some c) h = sym (h c)

  pub conforms_found : (c : ℕ) (k : StType) → found.conforms t c k ≡ plain.conforms (program_of p) c k
  unfolding conforms
  conforms_found c (type.Instance d) = derived_at c d ∙ conforms_instance d (class_at (program_of p) c)
  conforms_found c (type.Reference d) = derived_at c d ∙ conforms_reference d (class_at (program_of p) c)
  conforms_found c (type.Interface i) = conforms_to_is c i
  conforms_found c (type.Elementary e) = nothing_else (type.Elementary e) (class_at (program_of p) c) (λ k. refl)
  conforms_found c (type.Enumeration n) = nothing_else (type.Enumeration n) (class_at (program_of p) c) (λ k. refl)
  conforms_found c (type.Structure n) = nothing_else (type.Structure n) (class_at (program_of p) c) (λ k. refl)
  conforms_found c k = nothing_else k (class_at (program_of p) c) (λ x. refl)

  abbrev extended_here : ℕ → ℕ → Bool
  extended_here i j = if nat_lt i (length p.interfaces) then (if nat_lt j (length p.interfaces) then reaches t.reach.items i j else false) else false

  pub extended_found : (i : ℕ) → found.extended t i ≡ extended p.interfaces i
  extended_found i = ap (λ lists. ahead_in lists i) is.extended ∙ lists-at p.interfaces p.interfaces i

  pub extends_found : (i j : ℕ) → found.extends t i j ≡ is_extended p.interfaces i j
  extends_found i j = ap (λ n. if nat_lt i n then (if nat_lt j n then reaches t.reach.items i j else false) else false) is.interfaces ∙ at (below i (length p.interfaces)) (below j (length p.interfaces))
    where
      at : ((i < length p.interfaces) × (nat_lt i (length p.interfaces) ≡ true)) ⊎ ((length p.interfaces ≤ i) × (nat_lt i (length p.interfaces) ≡ false))
          → ((j < length p.interfaces) × (nat_lt j (length p.interfaces) ≡ true)) ⊎ ((length p.interfaces ≤ j) × (nat_lt j (length p.interfaces) ≡ false))
          → extended_here i j ≡ is_extended p.interfaces i j
      at (inl h) (inl k) = ap (λ v. if nat_lt i (length p.interfaces) then (if nat_lt j (length p.interfaces) then v else false) else false) (reaches_is p.interfaces t.reach.items i j is.reach h.0 k.0)
      at (inl h) (inr k) = ap (λ b. if nat_lt i (length p.interfaces) then (if b then reaches t.reach.items i j else false) else false) k.1
          ∙ sym (ap (λ b. if nat_lt i (length p.interfaces) then (if b then extends p.interfaces i j else false) else false) k.1)
      at (inr h) k = ap (λ b. if b then (if nat_lt j (length p.interfaces) then reaches t.reach.items i j else false) else false) h.1
          ∙ sym (ap (λ b. if b then (if nat_lt j (length p.interfaces) then extends p.interfaces i j else false) else false) h.1)

-- ---- the tables that are made

module _ (p : CheckedProgram) (classes : List (ClassDecl Note)) (interfaces : List (InterfaceDecl Note)) (programs : List (ProgramDecl Note)) (tables : Tables) (places : Table) where
  pub tables_made : classes ≡ p.classes → interfaces ≡ p.interfaces → programs ≡ p.programs → tables.functions ≡ length p.functions → tables.classes ≡ found.count p → tables.interfaces ≡ length interfaces
      → IsTableOf class_name (λ d. true) 0 tables.class_places classes → IsTableOf program_name (λ d. true) (length classes) tables.program_places programs → IsTableOf interface_name (λ d. true) 0 places interfaces
      → tables.bases.items ≡ map (base_by tables.class_places) classes → AreMemberTables tables.methods.items classes → tables.implemented.items ≡ map (implemented_by places) classes
      → tables.extended.items ≡ map (extended_by places) interfaces → AreReached tables.extended.items (length interfaces) tables.reach.items → AreTables p tables
  tables_made c i q functions count interface_count class_places program_places interface_places bases methods implemented extended_by_places reach = record {
    functions = functions;
    classes = count;
    interfaces = interface_count ∙ ap length i;
    class_places = subst (λ (ds : List (ClassDecl Note)). IsTableOf class_name (λ d. true) 0 tables.class_places ds) c class_places;
    program_places = subst (λ (ds : List (ClassDecl Note)). IsTableOf program_name (λ d. true) (length ds) tables.program_places p.programs) c
        (subst (λ (ds : List (ProgramDecl Note)). IsTableOf program_name (λ d. true) (length classes) tables.program_places ds) q program_places);
    bases = bases ∙ bases_are tables.class_places classes class_places ∙ ap (λ ds. bases_in ds ds) c;
    methods = subst (λ (ds : List (ClassDecl Note)). AreMemberTables tables.methods.items ds) c methods;
    implemented = implemented ∙ implemented_are places interfaces classes interface_places ∙ ap (λ ds. implemented_in ds classes) i ∙ ap (implemented_in p.interfaces) c;
    extended = lists ∙ ap (λ ds. extended_in ds ds) i;
    reach = subst (λ (ds : List (InterfaceDecl Note)). AreReached (extended_in ds ds) (length ds) tables.reach.items) i
        (subst (λ (ls : List (List ℕ)). AreReached ls (length interfaces) tables.reach.items) lists reach);
  }
    where
      lists : tables.extended.items ≡ extended_in interfaces interfaces
      lists = extended_by_places ∙ extended_are places interfaces interface_places
