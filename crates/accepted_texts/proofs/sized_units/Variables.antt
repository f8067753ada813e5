-- The variables of sections as a checked program shows them are, one by one, those that the unit writes there.
use Rattle.std.proofs.Common.{◌≡◌, ℕ, Bool, true, false, List, [], ◌∷◌, ◌++◌, map, Option, Some, None, refl, sym, ap, ◌∙◌, subst}
use Rattle.std.specs.Prelude.{if◌then◌else◌, not, ◌&&◌, flat_map, filter, option_map}
use Rattle.std.proofs.lemmas.List.Elements.{filter-append}
use Rattle.st_tree.specs.declared.declaration.Item.{Item}
use Rattle.st_tree.specs.declared.declaration.Section.{Section}
use Rattle.st_tree.specs.declared.declaration.SectionSort.{SectionSort}
use Rattle.st_tree.specs.declared.declaration.SectionSort.TheVariants as sort
use Rattle.st_tree.specs.declared.initial.Init.{Init}
use Rattle.st_tree.specs.declared.marks.Marks.{Marks}
use Rattle.st_tree.specs.declared.name.Name.{Name}
use Rattle.st_tree.specs.declared.program.Note.{Note}
use Rattle.st_tree.specs.declared.type_spec.TypeSpec.{TypeSpec}
use Rattle.st_tree.specs.Initial.{initial_of}
use Rattle.st_rules.specs.Expressions.{told}
use Rattle.st_rules.specs.Modifiers.{is_constant}
use Rattle.st_rules.specs.Scope.{Scope, is_external, is_instance_sort}
use Rattle.st_unit_rules.specs.declared_names.Variables.{Written, item_written, section_written, sections_written, is_kept_written, declares_constants}
use Rattle.st_unit_rules.specs.declared_names.WrittenTypes.{type_written}
use Rattle.st_unit_rules.specs.Checked.{Each, IfThere, TypedInitial, TypedItem, TypedSection}
use Rattle.st_unit_rules.specs.Initials.{typed_initial}
use Rattle.st_values.specs.Program.{Variable}
use Rattle.st_values.specs.View.{kind_of, initial_in, named_variables, items_in, sorted_items, variables_in, is_kept, those}
use Rattle.accepted_texts.proofs.unfolding_laws.ViewLaws.{kind_shown}

pub each_append : {A B : Type 0} (R : A → B → Type 0) (xs us : List A) (ys ws : List B) → Each R xs ys → Each R us ws → Each R (xs ++ us) (ys ++ ws)
each_append R [] us [] ws h k = k
each_append R [] us (y ∷ ys) ws h k = absurd h
each_append R (x ∷ xs) us [] ws h k = absurd h
each_append R (x ∷ xs) us (y ∷ ys) ws h k = (h.0, each_append R xs us ys ws h.1 k)

-- no constant, and no external
abbrev pub is_variable : Written → Bool
is_variable w = not w.constant && not (is_external w.sort)

-- a test behind another one
pub test_twice : {X : Type 0} (a b c : X → Bool) → ((x : X) → (a x && b x) ≡ c x) → (xs : List X) → filter b (filter a xs) ≡ filter c xs
test_twice a b c e [] = refl
test_twice a b c e (x ∷ xs) = by (a x) (b x) (c x) (e x) refl (test_twice a b c e xs)
  where
    by : (p q r : Bool) → (p && q) ≡ r → b x ≡ q → filter b (filter a xs) ≡ filter c xs
        → filter b (if p then x ∷ filter a xs else filter a xs) ≡ (if r then x ∷ filter c xs else filter c xs)
    by true q r i j h = ap (λ z. if z then x ∷ filter b (filter a xs) else filter b (filter a xs)) (j ∙ i) ∙ ap (λ zs. if r then x ∷ zs else zs) h
    by false q r i j h = h ∙ ap (λ z. if z then x ∷ filter c xs else filter c xs) i

module _ (s : Scope) where
  -- the variable is the one that is written
  pub record IsOf (v : Variable) (w : Written) : Type 0 where
    pub sort : v.sort ≡ w.sort
    pub name : v.name ≡ w.name.text
    pub kind : v.kind ≡ told (type_written s w.item.kind)
    pub initial : v.initial ≡ option_map (λ i. typed_initial s (type_written s w.item.kind) (initial_of i)) w.item.initial
    pub address : v.address ≡ w.item.address

  pub given_same : (t : TypeSpec ℕ) (i : Option (Init ℕ)) (j : Option (Init Note)) → IfThere (TypedInitial s t) i j → initial_in j ≡ option_map (λ k. typed_initial s (type_written s t) (initial_of k)) i
  given_same t None None h = refl
  given_same t None (Some j) h = absurd h
  given_same t (Some i) None h = absurd h
  given_same t (Some i) (Some j) h = ap Some h

  one_more : (v : Variable) (w : Written) (vs : List Variable) (ws : List Written) (b : Bool) → b ≡ true → IsOf v w → Each IsOf vs ws → Each IsOf (v ∷ vs) (if b then w ∷ ws else ws)
  one_more v w vs ws true e h k = (h, k)
  one_more v w vs ws false e h k = cc

  joined : (us vs : List Variable) (ws zs : List Written) → Each IsOf us (filter is_variable ws) → Each IsOf vs (filter is_variable zs) → Each IsOf (us ++ vs) (filter is_variable (ws ++ zs))
  joined us vs ws zs h k = subst (Each IsOf (us ++ vs)) (sym (filter-append is_variable ws zs)) (each_append IsOf us vs (filter is_variable ws) (filter is_variable zs) h k)

  -- ---- a section of variables

  module _ (x : Section ℕ) (so : SectionSort) (same : x.sort ≡ so) (plain : (not (declares_constants x) && not (is_external x.sort)) ≡ true) where
    names_of : (a : Item ℕ) (b : Item Note) → TypedItem s a b → (m : Marks) (ns : List Name) → (f : Name → Written) → ((n : Name) → (f n).sort ≡ x.sort) → ((n : Name) → (f n).constant ≡ declares_constants x)
        → ((n : Name) → (f n).name ≡ n) → ((n : Name) → (f n).item ≡ a) → Each IsOf (named_variables so b m ns) (filter is_variable (map f ns))
    names_of a b w m [] f fs fc fn fi = tt
    names_of a b w m (n ∷ ns) f fs fc fn fi =
        let v : Variable = record { name = n.text; sort = so; kind = kind_of b.kind; initial = initial_in b.initial; marks = m; address = b.address } in
        let test : is_variable (f n) ≡ true = ap (λ c. not c && not (is_external (f n).sort)) (fc n) ∙ (ap (λ z. not (declares_constants x) && not (is_external z)) (fs n) ∙ plain) in
        let this : IsOf v (f n) = record {
          sort = sym (fs n ∙ same);
          name = ap (λ (k : Name). k.text) (sym (fn n));
          kind = kind_shown s a.kind b.kind w.kind ∙ ap (λ (i : Item ℕ). told (type_written s i.kind)) (sym (fi n));
          initial = given_same a.kind a.initial b.initial w.initial ∙ ap (λ (i : Item ℕ). option_map (λ k. typed_initial s (type_written s i.kind) (initial_of k)) i.initial) (sym (fi n));
          address = w.address ∙ ap (λ (i : Item ℕ). i.address) (sym (fi n));
        } in
        one_more v (f n) (named_variables so b (record m { renamed_from = None }) ns) (filter is_variable (map f ns)) (is_variable (f n)) test this (names_of a b w (record m { renamed_from = None }) ns f fs fc fn fi)

    item_of : (a : Item ℕ) (b : Item Note) → TypedItem s a b → Each IsOf (named_variables so b b.marks b.names) (filter is_variable (item_written x a))
    item_of a b w =
        subst (λ ns. Each IsOf (named_variables so b b.marks ns) (filter is_variable (item_written x a))) (sym w.names)
        (names_of a b w b.marks a.names _ (λ n. refl) (λ n. refl) (λ n. refl) (λ n. refl))

    items_of : (xs : List (Item ℕ)) (ys : List (Item Note)) → Each (TypedItem s) xs ys → Each IsOf (items_in so ys) (filter is_variable (flat_map (item_written x) xs))
    items_of [] [] w = tt
    items_of [] (b ∷ ys) w = absurd w
    items_of (a ∷ xs) [] w = absurd w
    items_of (a ∷ xs) (b ∷ ys) w = joined (named_variables so b b.marks b.names) (items_in so ys) (item_written x a) (flat_map (item_written x) xs) (item_of a b w.0) (items_of xs ys w.1)

  -- ---- a section of none

  no_names : (c : Bool) (so : SectionSort) → (not c && not (is_external so)) ≡ false → (ns : List Name) (f : Name → Written) → ((n : Name) → (f n).sort ≡ so) → ((n : Name) → (f n).constant ≡ c) → filter is_variable (map f ns) ≡ []
  no_names c so e [] f fs fc = refl
  no_names c so e (n ∷ ns) f fs fc =
      let test : is_variable (f n) ≡ false = ap (λ z. not z && not (is_external (f n).sort)) (fc n) ∙ (ap (λ z. not c && not (is_external z)) (fs n) ∙ e) in
      ap (λ b. if b then f n ∷ filter is_variable (map f ns) else filter is_variable (map f ns)) test ∙ no_names c so e ns f fs fc

  pub no_items : (x : Section ℕ) → (not (declares_constants x) && not (is_external x.sort)) ≡ false → (items : List (Item ℕ)) → filter is_variable (flat_map (item_written x) items) ≡ []
  no_items x e [] = refl
  no_items x e (a ∷ items) =
      filter-append is_variable (item_written x a) (flat_map (item_written x) items)
      ∙ ap (λ ws. ws ++ filter is_variable (flat_map (item_written x) items)) (no_names (declares_constants x) x.sort e a.names _ (λ n. refl) (λ n. refl))
      ∙ no_items x e items

  -- ---- sections

  of_constants : (b : Bool) → (not (true && not b) && not b) ≡ false
  of_constants true = refl
  of_constants false = refl

  section_of : (x : Section ℕ) (y : Section Note) → TypedSection s x y → Each IsOf (if is_constant y.modifiers then [] else sorted_items y.sort y.items) (filter is_variable (section_written x))
  section_of x y w =
      subst (λ ms. Each IsOf (if is_constant ms then [] else sorted_items y.sort y.items) (filter is_variable (section_written x))) (sym w.modifiers)
      (by (is_constant x.modifiers) refl y.sort (sym w.sort))
    where
      none : (not (declares_constants x) && not (is_external x.sort)) ≡ false → Each IsOf [] (filter is_variable (section_written x))
      none e = subst (Each IsOf []) (sym (no_items x e x.items)) tt

      test : is_constant x.modifiers ≡ false → (so : SectionSort) → x.sort ≡ so → (not (declares_constants x) && not (is_external x.sort)) ≡ not (is_external so)
      test k so q = ap (λ c. not (c && not (is_external x.sort)) && not (is_external x.sort)) k ∙ ap (λ z. not (is_external z)) q

      by : (m : Bool) → is_constant x.modifiers ≡ m → (so : SectionSort) → x.sort ≡ so → Each IsOf (if m then [] else sorted_items so y.items) (filter is_variable (section_written x))
      by true k so q = none (ap (λ c. not (c && not (is_external x.sort)) && not (is_external x.sort)) k ∙ of_constants (is_external x.sort))
      by false k sort.External q = none (test k sort.External q)
      by false k sort.Var q = items_of x sort.Var q (test k sort.Var q) x.items y.items w.items
      by false k sort.Input q = items_of x sort.Input q (test k sort.Input q) x.items y.items w.items
      by false k sort.Output q = items_of x sort.Output q (test k sort.Output q) x.items y.items w.items
      by false k sort.InOut q = items_of x sort.InOut q (test k sort.InOut q) x.items y.items w.items
      by false k sort.Temp q = items_of x sort.Temp q (test k sort.Temp q) x.items y.items w.items
      by false k sort.Global q = items_of x sort.Global q (test k sort.Global q) x.items y.items w.items

  pub all_of : (xs : List (Section ℕ)) (ys : List (Section Note)) → Each (TypedSection s) xs ys → Each IsOf (variables_in ys) (filter is_variable (sections_written xs))
  all_of [] [] w = tt
  all_of [] (y ∷ ys) w = absurd w
  all_of (x ∷ xs) [] w = absurd w
  all_of (x ∷ xs) (y ∷ ys) w =
      joined (if is_constant y.modifiers then [] else sorted_items y.sort y.items) (variables_in ys) (section_written x) (sections_written xs) (section_of x y w.0) (all_of xs ys w.1)

  -- ---- those of some sorts

  pub those_of : (test : SectionSort → Bool) (vs : List Variable) (ws : List Written) → Each IsOf vs ws → Each IsOf (those test vs) (filter (λ (w : Written). test w.sort) ws)
  those_of test [] [] h = tt
  those_of test [] (w ∷ ws) h = absurd h
  those_of test (v ∷ vs) [] h = absurd h
  those_of test (v ∷ vs) (w ∷ ws) h = by (test v.sort) (test w.sort) (ap test h.0.sort) (those_of test vs ws h.1)
    where
      by : (a b : Bool) → a ≡ b → Each IsOf (those test vs) (filter (λ (u : Written). test u.sort) ws)
          → Each IsOf (if a then v ∷ those test vs else those test vs) (if b then w ∷ filter (λ (u : Written). test u.sort) ws else filter (λ (u : Written). test u.sort) ws)
      by true true e k = (h.0, k)
      by false false e k = k
      by true false e k = cc
      by false true e k = cc

  kept_sort : (c : Bool) (so : SectionSort) → ((not c && not (is_external so)) && is_kept so) ≡ (is_instance_sort so && not c)
  kept_sort true sort.Var = refl
  kept_sort true sort.Input = refl
  kept_sort true sort.Output = refl
  kept_sort true sort.InOut = refl
  kept_sort true sort.Temp = refl
  kept_sort true sort.Global = refl
  kept_sort true sort.External = refl
  kept_sort false sort.Var = refl
  kept_sort false sort.Input = refl
  kept_sort false sort.Output = refl
  kept_sort false sort.InOut = refl
  kept_sort false sort.Temp = refl
  kept_sort false sort.Global = refl
  kept_sort false sort.External = refl

  -- what an instance keeps is what the sections say is kept
  pub kept_of : (xs : List (Section ℕ)) (ys : List (Section Note)) → Each (TypedSection s) xs ys → Each IsOf (those is_kept (variables_in ys)) (filter is_kept_written (sections_written xs))
  kept_of xs ys w =
      subst (Each IsOf (those is_kept (variables_in ys)))
      (test_twice is_variable (λ (u : Written). is_kept u.sort) is_kept_written (λ u. kept_sort u.constant u.sort) (sections_written xs))
      (those_of is_kept (variables_in ys) (filter is_variable (sections_written xs)) (all_of xs ys w))
