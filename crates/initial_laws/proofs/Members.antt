-- A name that means a variable of an instance means no other variable of it, those of its bases among them.
use Rattle.std.proofs.Common.{◌≡◌, ◌≤◌, ℕ, zero, suc, ◌+◌, Bool, true, false, List, [], ◌∷◌, map, length, Option, Some, None, refl, sym, ap, ◌∙◌, subst, inl, inr, ◌⊎◌, nat_eq, arith}
use Rattle.std.specs.Prelude.{◌&&◌, ◌||◌, not, drop, flat_map, filter, option_map, option_and_then, slice_get, if◌then◌else◌}
use Rattle.std.specs.List.{list_any}
use Rattle.std.specs.Option.{is_some}
use Rattle.std.proofs.lemmas.Bool.{eqb-true, eq-eqb}
use Rattle.std.proofs.lemmas.Option.{slice_get_within}
use Rattle.plc_text.specs.Words.{same}
use Rattle.plc_text.specs.declared.code.Code.TheVariants.{E04}
use Rattle.st_types.specs.declared.st_type.StType.{StType}
use Rattle.st_types.specs.declared.st_type.StType.TheVariants as type
use Rattle.st_tree.specs.declared.declaration.ClassDecl.{ClassDecl}
use Rattle.st_tree.specs.declared.declaration.SectionSort.{SectionSort}
use Rattle.st_tree.specs.declared.declaration.SectionSort.TheVariants as sort
use Rattle.st_tree.specs.declared.name.Used.{Used}
use Rattle.st_tree.specs.declared.program.Note.{Note}
use Rattle.st_tree.specs.declared.program.Program.{Program as Checked}
use Rattle.st_tree.specs.declared.unit.Decl.{Decl}
use Rattle.st_rules.specs.declared.names.DeclaredClass.{DeclaredClass}
use Rattle.st_rules.specs.declared.names.DeclaredNames.{DeclaredNames}
use Rattle.st_rules.specs.declared.names.DeclaredVariable.{DeclaredVariable}
use Rattle.st_rules.specs.Chains.{is_among, nearest, ◌or_else◌}
use Rattle.st_rules.specs.Classes.{class_named, classes_in, base_of, chain, method_names}
use Rattle.st_rules.specs.Expressions.{told}
use Rattle.st_rules.specs.Numbered.{each_numbered}
use Rattle.st_rules.specs.Scope.{Scope, variable_named, variables_of, is_external, is_of_instance, is_instance_sort, instance_entry, instance_variable}
use Rattle.st_rules.proofs.Booleans.{none≢some, some-same, either, both, true≢false, or-first, or-second}
use Rattle.st_rules.proofs.ClassLaws.{chain-base_law, chain-top_law}
use Rattle.st_unit_rules.specs.Checked.{TypedClass, IsChecked}
use Rattle.st_unit_rules.specs.declared_names.UnitNames.{unit_names, unit_scope, class_scope, class_declared, names_from}
use Rattle.st_unit_rules.specs.declared_names.Variables.{Written, sections_written, sections_in, is_kept_written}
use Rattle.st_unit_rules.specs.declared_names.WrittenTypes.{type_written}
use Rattle.st_unit_rules.specs.NameRules.{is_named, member_names, member_name_faults, space_faults, own_variables, of_class, of_bases, variable_texts, variable_of_base}
use Rattle.st_unit_rules.specs.UnitRefusal.{BreaksNothing}
use Rattle.st_values.specs.Program.{Variable, Program, class_at, own_of, class_variables}
use Rattle.st_values.specs.View.{sections_in as seen_sections, class_of, program_of}
use Rattle.st_values.proofs.ShapeLaws.{mapped_some}
use Rattle.st_meaning.specs.st_frame.Footprint.{Has}
use Rattle.resolution_order.specs.told_laws.ToldLaws.{Every}
use Rattle.resolution_order.proofs.told_laws.Telling.{told_laws}
use Rattle.accepted_texts.specs.told_units.Told.{IsToldVariable, AllIsTold}
use Rattle.accepted_texts.proofs.sized_units.Outputs.{every_has}
use Rattle.accepted_texts.proofs.sized_units.Variables.{IsOf}
use Rattle.accepted_texts.proofs.told_units.Inner.{IsRow, AreRows, members-rows}
use Rattle.accepted_texts.proofs.unfolding_laws.ChainLaws.{chain_same, chain_there, sections_typed, class_seen, variables_every}
use Rattle.accepted_texts.proofs.unfolding_laws.CycleLaws.{none_in, none_of_each, not_when}
use Rattle.accepted_texts.proofs.unfolding_laws.DeclaredLaws.{members_are}
use Rattle.accepted_texts.proofs.unfolding_laws.ListLaws.{There, every_both, every_means, if_there, from_get}
use Rattle.constant_laws.specs.Given.{PartNamed}
use Rattle.initial_laws.proofs.Fields.{has_front, has_back, told_kind}
use Rattle.initial_laws.proofs.Items.{class_fine, on_no_cycle}
use Rattle.initial_laws.proofs.Names.{equal, same_self, space_unique, sections_unique, only_named}
use Rattle.initial_laws.proofs.Parts.{kept_says}

-- ---- lists

named_one : (name : List ℕ) (vs : List DeclaredVariable) (v : DeclaredVariable) → variable_named name vs ≡ Some v → Has vs v × (same v.name name ≡ true)
named_one name [] v e = absurd (none≢some e)
named_one name (x ∷ vs) v e = by (same x.name name) refl e (named_one name vs v)
  where
    by : (b : Bool) → same x.name name ≡ b → (if b then Some x else variable_named name vs) ≡ Some v → (variable_named name vs ≡ Some v → Has vs v × (same v.name name ≡ true)) → Has (x ∷ vs) v × (same v.name name ≡ true)
    by true q g h = let w : x ≡ v = some-same g in (inl (sym w), ap (λ (z : DeclaredVariable). same z.name name) (sym w) ∙ q)
    by false q g h = let r = h g in (inr r.0, r.1)

named_none : (name : List ℕ) (vs : List DeclaredVariable) (v : DeclaredVariable) → variable_named name vs ≡ None → Has vs v → same v.name name ≡ false
named_none name [] v e h = absurd h
named_none name (x ∷ vs) v e h = by (same x.name name) refl e h (named_none name vs v)
  where
    by : (b : Bool) → same x.name name ≡ b → (if b then Some x else variable_named name vs) ≡ None → Has (x ∷ vs) v → (variable_named name vs ≡ None → Has vs v → same v.name name ≡ false) → same v.name name ≡ false
    by true q g k r = absurd (none≢some (sym g))
    by false q g (inl a) r = ap (λ (z : DeclaredVariable). same z.name name) a ∙ q
    by false q g (inr k) r = r g k

passes_has : {X : Type 0} (test : X → Bool) (xs : List X) (x : X) → Has (filter test xs) x → Has xs x × (test x ≡ true)
passes_has test [] x h = absurd h
passes_has test (y ∷ xs) x h = by (test y) refl h (passes_has test xs x)
  where
    by : (b : Bool) → test y ≡ b → Has (if b then y ∷ filter test xs else filter test xs) x → (Has (filter test xs) x → Has xs x × (test x ≡ true)) → Has (y ∷ xs) x × (test x ≡ true)
    by true q (inl e) f = (inl e, ap test e ∙ q)
    by true q (inr k) f = let r = f k in (inr r.0, r.1)
    by false q k f = let r = f k in (inr r.0, r.1)

has_passing : {X : Type 0} (test : X → Bool) (xs : List X) (x : X) → Has xs x → test x ≡ true → Has (filter test xs) x
has_passing test [] x h t = absurd h
has_passing test (y ∷ xs) x h t = by (test y) refl h (λ k. has_passing test xs x k t)
  where
    by : (b : Bool) → test y ≡ b → Has (y ∷ xs) x → (Has xs x → Has (filter test xs) x) → Has (if b then y ∷ filter test xs else filter test xs) x
    by true q (inl e) f = inl e
    by true q (inr k) f = inr (f k)
    by false q (inl e) f = absurd (true≢false (sym t ∙ (ap test e ∙ q)))
    by false q (inr k) f = f k

flat_has : {X : Type 0} (f : ℕ → List X) (ks : List ℕ) (k : ℕ) (x : X) → is_among k ks ≡ true → Has (f k) x → Has (flat_map f ks) x
flat_has f [] k x h i = absurd (true≢false (sym h))
flat_has f (j ∷ ks) k x h i = elim (either (nat_eq k j) (is_among k ks) h) [
  | inl e ↦ has_front (f j) (flat_map f ks) x (subst (λ n. Has (f n) x) (eqb-true k j e) i)
  | inr m ↦ has_back (f j) (flat_map f ks) x (flat_has f ks k x m i)
]

pub mapped_has : {X Y : Type 0} (f : X → Y) (xs : List X) (x : X) → Has xs x → Has (map f xs) (f x)
mapped_has f [] x h = absurd h
mapped_has f (y ∷ xs) x (inl e) = inl (ap f e)
mapped_has f (y ∷ xs) x (inr h) = inr (mapped_has f xs x h)

any_named : (name : List ℕ) (ns : List (List ℕ)) (n : List ℕ) → Has ns n → name ≡ n → is_named name ns ≡ true
any_named name [] n h e = absurd h
any_named name (m ∷ ns) n (inl q) e = or-first (same name m) (list_any (same name) ns) (same_self name m (e ∙ q))
any_named name (m ∷ ns) n (inr h) e = or-second (same name m) (list_any (same name) ns) (any_named name ns n h e)

-- ---- rows

module _ (s : Scope) where
  row_test : (w : Written) (v : DeclaredVariable) → IsRow s w v → is_of_instance v ≡ is_kept_written w
  row_test w v r = ap (λ z. is_instance_sort z && not v.constant) r.4 ∙ ap (λ c. is_instance_sort w.sort && not c) r.1

  row_of : (ws : List Written) (vs : List DeclaredVariable) (v : DeclaredVariable) → AreRows s ws vs → Has vs v → (w : Written) × Has ws w × IsRow s w v
  row_of [] [] v r h = absurd h
  row_of [] (x ∷ vs) v r h = absurd r
  row_of (w ∷ ws) [] v r h = absurd h
  row_of (w ∷ ws) (x ∷ vs) v r (inl e) = (w, inl refl, subst (IsRow s w) (sym e) r.0)
  row_of (w ∷ ws) (x ∷ vs) v r (inr h) = let q = row_of ws vs v r.1 h in (q.0, inr q.1, q.2)

  row_by : (ws : List Written) (vs : List DeclaredVariable) (w : Written) → AreRows s ws vs → Has ws w → (v : DeclaredVariable) × Has vs v × IsRow s w v
  row_by [] [] w r h = absurd h
  row_by [] (x ∷ vs) w r h = absurd h
  row_by (y ∷ ws) [] w r h = absurd r
  row_by (y ∷ ws) (x ∷ vs) w r (inl e) = (x, inl refl, subst (λ z. IsRow s z x) (sym e) r.0)
  row_by (y ∷ ws) (x ∷ vs) w r (inr h) = let q = row_by ws vs w r.1 h in (q.0, inr q.1, q.2)

no_external : (so : SectionSort) → is_instance_sort so ≡ true → is_external so ≡ false
no_external sort.Var h = refl
no_external sort.Input h = refl
no_external sort.Output h = refl
no_external sort.InOut h = absurd (true≢false (sym h))
no_external sort.Temp h = absurd (true≢false (sym h))
no_external sort.External h = absurd (true≢false (sym h))
no_external sort.Global h = absurd (true≢false (sym h))

numbered_none : {X Y : Type 0} (f : ℕ → X → Y) (n : ℕ) (xs : List X) (i : ℕ) → slice_get xs i ≡ None → slice_get (each_numbered (λ k y. f k y ∷ []) n xs) i ≡ None
numbered_none f n [] i e = refl
numbered_none f n (x ∷ xs) zero e = absurd (none≢some (sym e))
numbered_none f n (x ∷ xs) (suc i) e = numbered_none f (suc n) xs i e

abbrev variables_in_class : Option DeclaredClass → List DeclaredVariable
variables_in_class None = []
variables_in_class (Some class) = class.variables

-- what the nearest of a chain has
pub nearest_has : {X : Type 0} (P : X → Type 0) (has : ℕ → Option X) → ((b : ℕ) (x : X) → has b ≡ Some x → P x) → (cs : List ℕ) (x : X) → nearest has cs ≡ Some x → P x
nearest_has P has f [] x e = absurd (none≢some e)
nearest_has P has f (c ∷ cs) x e = by (has c) refl e (nearest_has P has f cs x)
  where
    by : (o : Option _) → has c ≡ o → (o or_else nearest has cs) ≡ Some x → (nearest has cs ≡ Some x → P x) → P x
    by None q g k = k g
    by (Some y) q g k = f c x (q ∙ g)

among_self : (ks : List ℕ) → Every (λ k. is_among k ks ≡ true) ks
among_self [] = tt
among_self (k ∷ ks) = (or-first (nat_eq k k) (is_among k ks) (eq-eqb k k refl), every_means (λ j. is_among j ks ≡ true) (λ j. is_among j (k ∷ ks) ≡ true) (λ j h. or-second (nat_eq j k) (is_among j ks) h) ks (among_self ks))

pub all_has : {X : Type 0} (xs : List X) → Every (Has xs) xs
all_has [] = tt
all_has (x ∷ xs) = (inl refl, every_means (Has xs) (Has (x ∷ xs)) (λ y h. inr h) xs (all_has xs))

base_none : (classes : List (ClassDecl ℕ)) (c : ℕ) → slice_get classes c ≡ None → base_of classes c ≡ None
base_none classes c e = ap (option_and_then (λ (d : ClassDecl ℕ). option_and_then (λ (u : Used ℕ). class_named classes u.text) d.base)) e

module _ (decls : List (Decl ℕ)) (good : BreaksNothing decls) where
  abbrev classes : List (ClassDecl ℕ)
  classes = classes_in decls

  abbrev unit : Scope
  unit = unit_scope decls (unit_names decls)

  abbrev written : ClassDecl ℕ → List Written
  written d = sections_written (sections_in d.members)

  -- ---- the variables of one class

  rows : (c : ℕ) (d : ClassDecl ℕ) → AreRows (class_scope decls (unit_names decls) c) (written d) (class_declared decls (unit_names decls) c d).variables
  rows c d = members-rows (class_scope decls (unit_names decls) c) _ _ (written d)

  -- a variable of the name, as it is written
  record FoundIn (c : ℕ) (d : ClassDecl ℕ) (name : List ℕ) (v : DeclaredVariable) : Type 0 where
    one : Written
    there : Has (written d) one
    kept : is_kept_written one ≡ true
    names : one.name.text ≡ name
    kind : v.kind ≡ type_written (class_scope decls (unit_names decls) c) one.item.kind

  found_in : (c : ℕ) (d : ClassDecl ℕ) (name : List ℕ) (v : DeclaredVariable) → slice_get classes c ≡ Some d → variable_named name (filter is_of_instance (variables_of unit c)) ≡ Some v → FoundIn c d name v
  found_in c d name v e h =
      let s = class_scope decls (unit_names decls) c in
      let vs = (class_declared decls (unit_names decls) c d).variables in
      let q = named_one name (filter is_of_instance vs) v (sym (ap (λ us. variable_named name (filter is_of_instance us)) (members_are decls [] c d e)) ∙ h) in
      let a = passes_has is_of_instance vs v q.0 in
      let r = row_of s (written d) vs v (rows c d) a.0 in
      record { one = r.0; there = r.1; kept = sym (row_test s r.0 v r.2) ∙ a.1; names = sym (r.2).0 ∙ equal v.name name q.1; kind = (r.2).2 }

  not_found : (c : ℕ) (d : ClassDecl ℕ) (name : List ℕ) (w : Written) → slice_get classes c ≡ Some d → variable_named name (filter is_of_instance (variables_of unit c)) ≡ None → Has (written d) w → is_kept_written w ≡ true → w.name.text ≡ name → ⊥
  not_found c d name w e h i k n =
      let s = class_scope decls (unit_names decls) c in
      let vs = (class_declared decls (unit_names decls) c d).variables in
      let r = row_by s (written d) vs w (rows c d) i in
      let f = named_none name (filter is_of_instance vs) r.0 (sym (ap (λ us. variable_named name (filter is_of_instance us)) (members_are decls [] c d e)) ∙ h) (has_passing is_of_instance vs r.0 r.1 (row_test s w r.0 r.2 ∙ k)) in
      true≢false (sym (same_self (r.0).name name ((r.2).0 ∙ n)) ∙ f)

  -- no two of one class have one name
  one_of_class : (c : ℕ) (d : ClassDecl ℕ) → slice_get classes c ≡ Some d → (w u : Written) → Has (written d) w → Has (written d) u → w.name.text ≡ u.name.text → w ≡ u
  unfolding member_name_faults
  one_of_class c d e w u h k n =
      let a = none_in _ _ (class_fine decls good c d e).names in
      let b = none_in (space_faults (member_names d.members)) _ a.0 in
      only_named (λ (x : Written). x.name.text) (written d) (sections_unique d.members (space_unique (member_names d.members) b.0)) w u h k n

  kept_sort : (w : Written) → is_kept_written w ≡ true → is_external w.sort ≡ false
  kept_sort w k = no_external w.sort (both (is_instance_sort w.sort) (not w.constant) k).0

  -- no variable has the name of one of a base
  not_of_base : (c : ℕ) (d : ClassDecl ℕ) → slice_get classes c ≡ Some d → (b : ℕ) (x : ClassDecl ℕ) → slice_get classes b ≡ Some x → is_among b (drop 1 (chain classes c)) ≡ true → (w u : Written) → Has (written d) w → is_kept_written w ≡ true → Has (written x) u → is_kept_written u ≡ true → w.name.text ≡ u.name.text → ⊥
  unfolding member_name_faults
  not_of_base c d e b x f m w u h i k j n =
      let variables = of_bases classes variable_texts c in
      let methods = of_bases classes method_names c in
      let a = none_in _ _ (class_fine decls good c d e).names in
      let g = none_in _ (flat_map (variable_of_base variables methods) (own_variables d.members)) a.0 in
      let own = has_passing (λ (y : Written). not (is_external y.sort)) (written d) w h (ap not (kept_sort w i)) in
      let one = every_has (λ y. variable_of_base variables methods y ≡ []) (own_variables d.members) w (none_of_each (variable_of_base variables methods) (own_variables d.members) g.1) own in
      let bad = not_when (is_named w.name.text variables || is_named w.name.text methods) E04 w.name.line one in
      let base_own = has_passing (λ (y : Written). not (is_external y.sort)) (written x) u k (ap not (kept_sort u j)) in
      let there : Has (of_class variable_texts (slice_get classes b)) u.name.text = subst (λ o. Has (of_class variable_texts o) u.name.text) (sym f) (mapped_has (λ (y : Written). y.name.text) (own_variables x.members) u base_own) in
      let named = any_named w.name.text variables u.name.text (flat_has (λ y. of_class variable_texts (slice_get classes y)) (drop 1 (chain classes c)) b u.name.text m there) n in
      true≢false (sym (or-first (is_named w.name.text variables) (is_named w.name.text methods) named) ∙ bad)

  -- a class with variables is there
  no_variables : (c : ℕ) → slice_get classes c ≡ None → variables_of unit c ≡ []
  unfolding names_from
  no_variables c e =
      ap variables_in_class (ap (λ (a : DeclaredNames). slice_get a.classes c) (sym (told_laws.settled decls)) ∙ numbered_none (class_declared decls (unit_names decls)) 0 classes c e)

  none_of_none : (c : ℕ) (name : List ℕ) → slice_get classes c ≡ None → variable_named name (filter is_of_instance (variables_of unit c)) ≡ None
  none_of_none c name e = ap (λ us. variable_named name (filter is_of_instance us)) (no_variables c e)

  class_with : (c : ℕ) (name : List ℕ) (v : DeclaredVariable) → variable_named name (filter is_of_instance (variables_of unit c)) ≡ Some v → (d : ClassDecl ℕ) × (slice_get classes c ≡ Some d)
  class_with c name v h = by (slice_get classes c) refl
    where
      by : (o : Option (ClassDecl ℕ)) → slice_get classes c ≡ o → (d : ClassDecl ℕ) × (slice_get classes c ≡ Some d)
      by None q = absurd (none≢some (sym (none_of_none c name q) ∙ h))
      by (Some d) q = (d, q)

  -- ---- along the chain

  -- what the name means is the variable of that name, whichever class of the chain declares it
  abbrev Means : ℕ → Type 0
  Means c = (name : List ℕ) (m : ℕ × DeclaredVariable) → nearest (instance_entry unit name) (chain classes c) ≡ Some m → (b : ℕ) (x : ClassDecl ℕ) → is_among b (chain classes c) ≡ true → slice_get classes b ≡ Some x
      → (u : Written) → Has (written x) u → is_kept_written u ≡ true → u.name.text ≡ name → m.1.kind ≡ type_written (class_scope decls (unit_names decls) b) u.item.kind

  -- where the class itself has the name
  here : (c : ℕ) (d : ClassDecl ℕ) (name : List ℕ) (v : DeclaredVariable) → slice_get classes c ≡ Some d → FoundIn c d name v → (u : Written) → Has (written d) u → u.name.text ≡ name → v.kind ≡ type_written (class_scope decls (unit_names decls) c) u.item.kind
  here c d name v e f u h n =
      let same_one = one_of_class c d e f.one u f.there h (f.names ∙ sym n) in
      f.kind ∙ ap (λ (y : Written). type_written (class_scope decls (unit_names decls) c) y.item.kind) same_one

  step : (c : ℕ) (tail : List ℕ) → chain classes c ≡ c ∷ tail → ((name : List ℕ) (m : ℕ × DeclaredVariable) → instance_entry unit name c ≡ None → nearest (instance_entry unit name) (chain classes c) ≡ Some m → (b : ℕ) (x : ClassDecl ℕ) → is_among b tail ≡ true → slice_get classes b ≡ Some x
      → (u : Written) → Has (written x) u → is_kept_written u ≡ true → u.name.text ≡ name → m.1.kind ≡ type_written (class_scope decls (unit_names decls) b) u.item.kind) → Means c
  step c tail q above name m e b x a f u h k n = by (variable_named name (filter is_of_instance (variables_of unit c))) refl
    where
      place : (b ≡ c) ⊎ (is_among b tail ≡ true)
      place = elim (either (nat_eq b c) (is_among b tail) (subst (λ l. is_among b l ≡ true) q a)) [
        | inl i ↦ inl (eqb-true b c i)
        | inr i ↦ inr i
      ]

      none_here : instance_entry unit name c ≡ None → variable_named name (filter is_of_instance (variables_of unit c)) ≡ None → (b ≡ c) ⊎ (is_among b tail ≡ true) → m.1.kind ≡ type_written (class_scope decls (unit_names decls) b) u.item.kind
      none_here z i (inl j) = absurd (not_found c x name u (ap (slice_get classes) (sym j) ∙ f) i h k n)
      none_here z i (inr j) = above name m z e b x j f u h k n

      one_here : (v : DeclaredVariable) → variable_named name (filter is_of_instance (variables_of unit c)) ≡ Some v → m ≡ (c, v) → (d : ClassDecl ℕ) → slice_get classes c ≡ Some d → (b ≡ c) ⊎ (is_among b tail ≡ true) → m.1.kind ≡ type_written (class_scope decls (unit_names decls) b) u.item.kind
      one_here v i j d g (inl z) =
          let same_class : d ≡ x = some-same (sym g ∙ (ap (slice_get classes) (sym z) ∙ f)) in
          ap (λ (y : ℕ × DeclaredVariable). y.1.kind) j
          ∙ (here c d name v g (found_in c d name v g i) u (subst (λ y. Has (written y) u) (sym same_class) h) n ∙ ap (λ y. type_written (class_scope decls (unit_names decls) y) u.item.kind) (sym z))
      one_here v i j d g (inr z) =
          let w = found_in c d name v g i in
          absurd (not_of_base c d g b x f (ap (λ l. is_among b (drop 1 l)) q ∙ z) w.one u w.there w.kept h k (w.names ∙ sym n))

      by : (o : Option DeclaredVariable) → variable_named name (filter is_of_instance (variables_of unit c)) ≡ o → m.1.kind ≡ type_written (class_scope decls (unit_names decls) b) u.item.kind
      by None i = none_here (ap (option_map (λ v. (c, v))) i) i place
      by (Some v) i =
          let d = class_with c name v i in
          let whole : Some (c, v) ≡ Some m = sym (ap (λ o. o or_else nearest (instance_entry unit name) tail) (ap (option_map (λ z. (c, z))) i)) ∙ (sym (ap (nearest (instance_entry unit name)) q) ∙ e) in
          one_here v i (sym (some-same whole)) d.0 d.1 place

  chain_some : (c : ℕ) → length (chain classes c) ≤ 0 → ⊥
  chain_some c l = by (base_of classes c) refl
    where
      by : (o : Option ℕ) → base_of classes c ≡ o → ⊥
      by None q = let w = ap length (chain-top_law classes c q) in omega (arith, l, w)
      by (Some b) q = let w = ap length (chain-base_law classes c b q (on_no_cycle decls good c)) in omega (arith, l, w)

  means_next : (n c : ℕ) → ((b : ℕ) → length (chain classes b) ≤ n → Means b) → length (chain classes c) ≤ suc n → Means c
  means_next n c below l = by (base_of classes c) refl
    where
      later : (b : ℕ) (name : List ℕ) (m : ℕ × DeclaredVariable) → chain classes c ≡ c ∷ chain classes b → instance_entry unit name c ≡ None → nearest (instance_entry unit name) (chain classes c) ≡ Some m → nearest (instance_entry unit name) (chain classes b) ≡ Some m
      later b name m w z e = sym (ap (λ o. o or_else nearest (instance_entry unit name) (chain classes b)) z) ∙ (sym (ap (nearest (instance_entry unit name)) w) ∙ e)

      by : (o : Option ℕ) → base_of classes c ≡ o → Means c
      by None q = step c [] (chain-top_law classes c q) (λ name m z e k x a f u h i j. absurd (true≢false (sym a)))
      by (Some b) q =
          let w = chain-base_law classes c b q (on_no_cycle decls good c) in
          let long = ap length w in
          step c (chain classes b) w (λ name m z e k x a f u h i j. below b (omega (arith, l, long)) name m (later b name m w z e) k x a f u h i j)

  means_within : (n c : ℕ) → length (chain classes c) ≤ n → Means c
  means_within zero c l = absurd (chain_some c l)
  means_within (suc n) c l = means_next n c (λ b h. means_within n b h) l

  means : (c : ℕ) → Means c
  means c = means_within (length (chain classes c)) c (omega arith)

  -- ---- what it means has a type

  pub member_told : AllIsTold decls → (c : ℕ) (name : List ℕ) (m : ℕ × DeclaredVariable) → instance_variable unit c name ≡ Some m → is_some m.1.kind ≡ true
  unfolding instance_variable
  member_told all c name m e = nearest_has (λ x. is_some x.1.kind ≡ true) (instance_entry unit name) one (chain classes c) m e
    where
      one : (b : ℕ) (x : ℕ × DeclaredVariable) → instance_entry unit name b ≡ Some x → is_some x.1.kind ≡ true
      one b x h =
          let v = mapped_some (λ (z : DeclaredVariable). (b, z)) (variable_named name (filter is_of_instance (variables_of unit b))) x h in
          let d = class_with b name v.0 v.1 in
          let vs = (class_declared decls (unit_names decls) b d.0).variables in
          let q = named_one name (filter is_of_instance vs) v.0 (sym (ap (λ us. variable_named name (filter is_of_instance us)) (members_are decls [] b d.0 d.1)) ∙ v.1) in
          let told_one = every_has IsToldVariable vs v.0 (all.variables b d.0 d.1) (passes_has is_of_instance vs v.0 q.0).0 in
          ap (λ (z : ℕ × DeclaredVariable). is_some z.1.kind) (sym v.2) ∙ told_one.0

  -- ---- as it is seen

  class_of_chain : (c : ℕ) (name : List ℕ) (m : ℕ × DeclaredVariable) → nearest (instance_entry unit name) (chain classes c) ≡ Some m → (d : ClassDecl ℕ) × (slice_get classes c ≡ Some d)
  class_of_chain c name m e = by (slice_get classes c) refl
    where
      by : (o : Option (ClassDecl ℕ)) → slice_get classes c ≡ o → (d : ClassDecl ℕ) × (slice_get classes c ≡ Some d)
      by (Some d) q = (d, q)
      by None q =
          let top = chain-top_law classes c (base_none classes c q) in
          absurd (none≢some (sym (ap (λ o. option_map (λ v. (c, v)) o or_else None) (none_of_none c name q)) ∙ (sym (ap (nearest (instance_entry unit name)) top) ∙ e)))

  module _ (p : Checked) (checked : IsChecked decls p) where
    abbrev Seen : Program
    Seen = program_of p

    typed_at : (b : ℕ) (x : ClassDecl ℕ) → slice_get classes b ≡ Some x → (y : ClassDecl Note) × (slice_get p.classes b ≡ Some y) × TypedClass decls b x y
    typed_at b x e =
        let z : 0 + b ≡ b = omega arith in
        let y = if_there (TypedClass decls (0 + b)) (slice_get classes b) (slice_get p.classes b) x e (from_get (TypedClass decls) 0 classes p.classes b checked.classes) in
        (y.0, y.1, subst (λ n. TypedClass decls n x y.0) z y.2)

    module _ (c : ℕ) (name : List ℕ) (m : ℕ × DeclaredVariable) (t : StType) (e : nearest (instance_entry unit name) (chain classes c) ≡ Some m) (k : m.1.kind ≡ Some t) where
      abbrev Fits : Variable → Type 0
      Fits v = same name v.name ≡ true → v.kind ≡ t

      abbrev OwnFits : ℕ → Type 0
      OwnFits b = Every Fits (own_of (class_at Seen b))

      one_fits : (b : ℕ) (x : ClassDecl ℕ) → slice_get classes b ≡ Some x → is_among b (chain classes c) ≡ true → (v : Variable) (w : Written) → IsOf (class_scope decls (unit_names decls) b) v w → is_kept_written w ≡ true → Has (written x) w → Fits v
      one_fits b x f a v w i j h n =
          let kind = means c name m e b x a f w h j (sym i.name ∙ sym (equal name v.name n)) in
          told_kind decls m.1.kind t v.kind k (i.kind ∙ ap told (sym kind))

      own_fits : (b : ℕ) (x : ClassDecl ℕ) → slice_get classes b ≡ Some x → is_among b (chain classes c) ≡ true → OwnFits b
      own_fits b x f a =
          let y = typed_at b x f in
          let s = class_scope decls (unit_names decls) b in
          subst (λ o. Every Fits (own_of o)) (sym (class_seen p b y.0 y.1))
          (kept_says s Fits (Has (written x)) (one_fits b x f a) (sections_in x.members) (seen_sections (y.0).members) (sections_typed decls b x.members (y.0).members (y.2).members) (all_has (written x)))

      all_fit : (v : Variable) → Has (class_variables Seen c) v → Fits v
      all_fit v h =
          let d = class_of_chain c name m e in
          let y = typed_at c d.0 d.1 in
          let class = class_of p.classes p.interfaces c y.0 in
          let all = every_both (λ b. is_among b (chain classes c) ≡ true) (There (ClassDecl ℕ) classes) OwnFits (λ b a g. own_fits b g.item g.there a) (chain classes c) (among_self (chain classes c)) (chain_there classes c (slice_get_within classes c d.0 d.1)) in
          let along : Every OwnFits (class.chain) = subst (Every OwnFits) (sym (chain_same decls classes p.classes checked.classes c)) all in
          every_has Fits (class_variables Seen c) v (variables_every p Fits c class (class_seen p c y.0 y.1) along) h

    pub member_only : (c : ℕ) (name : List ℕ) (m : ℕ × DeclaredVariable) (t : StType) → instance_variable unit c name ≡ Some m → m.1.kind ≡ Some t → PartNamed Seen (type.Instance c) name t
    unfolding instance_variable
    member_only c name m t e k = record { kind = all_fit c name m t e k }
