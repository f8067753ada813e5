-- Routines of equal signature have equal parameters.
use Rattle.std.proofs.Common.{◌≡◌, ℕ, suc, Bool, true, false, List, [], ◌∷◌, ◌++◌, map, length, Option, Some, None, refl, sym, ap, ◌∙◌, subst}
use Rattle.std.specs.Prelude.{if◌then◌else◌, ◌&&◌, not, flat_map}
use Rattle.std.proofs.lemmas.List.{map-append}
use Rattle.plc_text.specs.Words.{same}
use Rattle.st_types.specs.declared.st_type.StType.{StType}
use Rattle.st_tree.specs.declared.declaration.Item.{Item}
use Rattle.st_tree.specs.declared.declaration.Section.{Section}
use Rattle.st_tree.specs.declared.declaration.SectionSort.{SectionSort}
use Rattle.st_tree.specs.declared.declaration.SectionSort.TheVariants as sort
use Rattle.st_tree.specs.declared.initial.Init.{Init}
use Rattle.st_tree.specs.declared.marks.Marks.{Marks}
use Rattle.st_tree.specs.declared.name.Name.{Name}
use Rattle.st_tree.specs.declared.program.Note.{Note}
use Rattle.st_tree.specs.declared.type_spec.TypeSpec.{TypeSpec}
use Rattle.st_rules.specs.declared.signature.Parameter.{Parameter as Declared}
use Rattle.st_rules.specs.Modifiers.{is_constant}
use Rattle.st_rules.specs.Scope.{Scope}
use Rattle.st_rules.specs.Signatures.{is_parameter_sort, parameter, section_parameters, signature, result_type, same_sort, same_result, same_if_told, same_parameter, same_parameters, same_signature}
use Rattle.st_rules.specs.Types.{same_type}
use Rattle.st_rules.proofs.Booleans.{both}
use Rattle.st_unit_rules.specs.Checked.{Each, IfThere, TypedSpec, TypedItem, TypedSection}
use Rattle.st_values.specs.Program.{Variable, Parameter, to_local}
use Rattle.st_values.specs.View.{named_variables, items_in, sorted_items, variables_in, is_parameter, those, local_parameters, result_of}

-- ---- parameters by their sorts

numbered : ℕ → List SectionSort → List Parameter
numbered n [] = []
numbered n (x ∷ xs) = record { sort = x; to = to_local n } ∷ numbered (suc n) xs

by_sorts : (n : ℕ) (vs : List Variable) → local_parameters n vs ≡ numbered n (map (λ (v : Variable). v.sort) vs)
unfolding numbered
by_sorts n [] = refl
by_sorts n (v ∷ vs) = ap (λ l. record { sort = v.sort; to = to_local n } ∷ l) (by_sorts (suc n) vs)

-- ---- equal signatures

pub sort_same : (a b : SectionSort) → same_sort a b ≡ true → a ≡ b
sort_same sort.Var sort.Var h = refl
sort_same sort.Input sort.Input h = refl
sort_same sort.Output sort.Output h = refl
sort_same sort.InOut sort.InOut h = refl
sort_same sort.Temp sort.Temp h = refl
sort_same sort.External sort.External h = refl
sort_same sort.Global sort.Global h = refl
sort_same _ _ h = cc

module _ {V : Type 0} (same_value : V → V → Bool) where
  abbrev sorts : List (Declared V) → List SectionSort
  sorts qs = map (λ (q : Declared V). q.sort) qs

  pub sorts_same : (ps qs : List (Declared V)) → same_parameters same_value ps qs ≡ true → sorts ps ≡ sorts qs
  sorts_same [] [] h = refl
  sorts_same [] (q ∷ qs) h = cc
  sorts_same (p ∷ ps) [] h = cc
  sorts_same (p ∷ ps) (q ∷ qs) h =
      let t = both (same_parameter same_value p q) (same_parameters same_value ps qs) h in
      let a = both (same_sort p.sort q.sort && same p.name q.name && same_if_told same_type p.kind q.kind) (same_if_told same_value p.initial q.initial) t.0 in
      let b = both (same_sort p.sort q.sort && same p.name q.name) (same_if_told same_type p.kind q.kind) a.0 in
      let c = both (same_sort p.sort q.sort) (same p.name q.name) b.0 in
      ap (λ x. x ∷ map (λ (z : Declared V). z.sort) ps) (sort_same p.sort q.sort c.0) ∙ ap (λ xs. q.sort ∷ xs) (sorts_same ps qs t.1)

-- ---- the parameters of a routine have the sorts of its signature

parameter_sorts : (x : SectionSort) → is_parameter x ≡ is_parameter_sort x
parameter_sorts sort.Input = refl
parameter_sorts sort.Output = refl
parameter_sorts sort.InOut = refl
parameter_sorts sort.Var = refl
parameter_sorts sort.Temp = refl
parameter_sorts sort.External = refl
parameter_sorts sort.Global = refl

those_append : (f : SectionSort → Bool) (vs ws : List Variable) → those f (vs ++ ws) ≡ those f vs ++ those f ws
those_append f [] ws = refl
those_append f (v ∷ vs) ws = by (those_append f vs ws) (f v.sort)
  where
    by : those f (vs ++ ws) ≡ those f vs ++ those f ws → (b : Bool) → (if b then v ∷ those f (vs ++ ws) else those f (vs ++ ws)) ≡ (if b then v ∷ those f vs else those f vs) ++ those f ws
    by k true = ap (λ l. v ∷ l) k
    by k false = k

module _ {V : Type 0} (kinds : TypeSpec ℕ → Option StType) (value : TypeSpec ℕ → Option (Init ℕ) → Option V) (s : Scope) where
  abbrev Sorts : List Variable → List SectionSort
  Sorts vs = map (λ (v : Variable). v.sort) (those is_parameter vs)

  abbrev Signed : List (Declared V) → List SectionSort
  Signed qs = map (λ (q : Declared V). q.sort) qs

  pass : (x : SectionSort) → is_parameter x ≡ true → (i : Item ℕ) (j : Item Note) (m : Marks) (ns : List Name) → Sorts (named_variables x j m ns) ≡ Signed (map (parameter kinds value x i) ns)
  pass x h i j m [] = refl
  pass x h i j m (n ∷ ns) = by (is_parameter x) h (pass x h i j (record m { renamed_from = None }) ns)
    where
      by : (b : Bool) → b ≡ true → Sorts (named_variables x j (record m { renamed_from = None }) ns) ≡ Signed (map (parameter kinds value x i) ns)
          → map (λ (v : Variable). v.sort) (if b then record { name = n.text; sort = x; kind = Rattle.st_values.specs.View.kind_of j.kind; initial = Rattle.st_values.specs.View.initial_in j.initial; marks = m; address = j.address } ∷ those is_parameter (named_variables x j (record m { renamed_from = None }) ns) else those is_parameter (named_variables x j (record m { renamed_from = None }) ns))
          ≡ x ∷ Signed (map (parameter kinds value x i) ns)
      by true e k = ap (λ l. x ∷ l) k
      by false e k = cc

  none_pass : (x : SectionSort) → is_parameter x ≡ false → (j : Item Note) (m : Marks) (ns : List Name) → those is_parameter (named_variables x j m ns) ≡ []
  none_pass x h j m [] = refl
  none_pass x h j m (n ∷ ns) = ap (λ b. if b then record { name = n.text; sort = x; kind = Rattle.st_values.specs.View.kind_of j.kind; initial = Rattle.st_values.specs.View.initial_in j.initial; marks = m; address = j.address } ∷ those is_parameter (named_variables x j (record m { renamed_from = None }) ns) else those is_parameter (named_variables x j (record m { renamed_from = None }) ns)) h ∙ none_pass x h j (record m { renamed_from = None }) ns

  items_pass : (x : SectionSort) → is_parameter x ≡ true → (is : List (Item ℕ)) (js : List (Item Note)) → Each (TypedItem s) is js → Sorts (items_in x js) ≡ Signed (flat_map (λ i. map (parameter kinds value x i) i.names) is)
  items_pass x h [] [] e = refl
  items_pass x h [] (j ∷ js) e = absurd e
  items_pass x h (i ∷ is) [] e = absurd e
  items_pass x h (i ∷ is) (j ∷ js) e =
      ap (map (λ (v : Variable). v.sort)) (those_append is_parameter (named_variables x j j.marks j.names) (items_in x js))
      ∙ (map-append (λ (v : Variable). v.sort) (those is_parameter (named_variables x j j.marks j.names)) (those is_parameter (items_in x js))
      ∙ (ap (λ l. l ++ Sorts (items_in x js)) (pass x h i j j.marks j.names ∙ ap (λ ns. Signed (map (parameter kinds value x i) ns)) e.0.names)
      ∙ (ap (λ l. Signed (map (parameter kinds value x i) i.names) ++ l) (items_pass x h is js e.1)
      ∙ sym (map-append (λ (q : Declared V). q.sort) (map (parameter kinds value x i) i.names) (flat_map (λ k. map (parameter kinds value x k) k.names) is)))))

  items_none : (x : SectionSort) → is_parameter x ≡ false → (js : List (Item Note)) → those is_parameter (items_in x js) ≡ []
  items_none x h [] = refl
  items_none x h (j ∷ js) = those_append is_parameter (named_variables x j j.marks j.names) (items_in x js) ∙ (ap (λ l. l ++ those is_parameter (items_in x js)) (none_pass x h j j.marks j.names) ∙ items_none x h js)

  sorted : (x : SectionSort) (js : List (Item Note)) → is_parameter x ≡ true → sorted_items x js ≡ items_in x js
  sorted sort.External js h = cc
  sorted sort.Input js h = refl
  sorted sort.Output js h = refl
  sorted sort.InOut js h = refl
  sorted _ js h = cc

  sorted_none : (x : SectionSort) (js : List (Item Note)) → is_parameter x ≡ false → those is_parameter (sorted_items x js) ≡ []
  sorted_none sort.External js h = refl
  sorted_none sort.Input js h = cc
  sorted_none sort.Output js h = cc
  sorted_none sort.InOut js h = cc
  sorted_none sort.Var js h = items_none sort.Var h js
  sorted_none sort.Temp js h = items_none sort.Temp h js
  sorted_none sort.Global js h = items_none sort.Global h js

  section_pass : (x : Section ℕ) (y : Section Note) → TypedSection s x y → Sorts (if is_constant y.modifiers then [] else sorted_items y.sort y.items) ≡ Signed (section_parameters kinds value x)
  section_pass x y t = subst (λ m. Sorts (if is_constant m then [] else sorted_items y.sort y.items) ≡ Signed (section_parameters kinds value x)) (sym t.modifiers) (subst (λ z. Sorts (if is_constant x.modifiers then [] else sorted_items z y.items) ≡ Signed (section_parameters kinds value x)) (sym t.sort) (by (is_constant x.modifiers) (is_parameter x.sort) refl))
    where
      from : (b : Bool) → is_parameter x.sort ≡ b → is_parameter_sort x.sort ≡ b
      from b e = sym (parameter_sorts x.sort) ∙ e

      by : (c b : Bool) → is_parameter x.sort ≡ b → Sorts (if c then [] else sorted_items x.sort y.items) ≡ Signed (if is_parameter_sort x.sort && not c then flat_map (λ i. map (parameter kinds value x.sort i) i.names) x.items else [])
      by true true e = ap (λ z. Signed (if z && false then flat_map (λ i. map (parameter kinds value x.sort i) i.names) x.items else [])) (sym (from true e))
      by true false e = ap (λ z. Signed (if z && false then flat_map (λ i. map (parameter kinds value x.sort i) i.names) x.items else [])) (sym (from false e))
      by false true e = ap Sorts (sorted x.sort y.items e) ∙ (items_pass x.sort e x.items y.items t.items ∙ ap (λ z. Signed (if z && true then flat_map (λ i. map (parameter kinds value x.sort i) i.names) x.items else [])) (sym (from true e)))
      by false false e = ap (map (λ (v : Variable). v.sort)) (sorted_none x.sort y.items e) ∙ ap (λ z. Signed (if z && true then flat_map (λ i. map (parameter kinds value x.sort i) i.names) x.items else [])) (sym (from false e))

  pub sections_pass : (xs : List (Section ℕ)) (ys : List (Section Note)) → Each (TypedSection s) xs ys → Sorts (variables_in ys) ≡ Signed (flat_map (section_parameters kinds value) xs)
  sections_pass [] [] e = refl
  sections_pass [] (y ∷ ys) e = absurd e
  sections_pass (x ∷ xs) [] e = absurd e
  sections_pass (x ∷ xs) (y ∷ ys) e =
      ap (map (λ (v : Variable). v.sort)) (those_append is_parameter (if is_constant y.modifiers then [] else sorted_items y.sort y.items) (variables_in ys))
      ∙ (map-append (λ (v : Variable). v.sort) (those is_parameter (if is_constant y.modifiers then [] else sorted_items y.sort y.items)) (those is_parameter (variables_in ys))
      ∙ (ap (λ l. l ++ Sorts (variables_in ys)) (section_pass x y e.0)
      ∙ (ap (λ l. Signed (section_parameters kinds value x) ++ l) (sections_pass xs ys e.1)
      ∙ sym (map-append (λ (q : Declared V). q.sort) (section_parameters kinds value x) (flat_map (section_parameters kinds value) xs)))))

-- the parameters of a routine by its signature
module _ {V : Type 0} (same_value : V → V → Bool) (kinds other : TypeSpec ℕ → Option StType) (value given : TypeSpec ℕ → Option (Init ℕ) → Option V) (s t : Scope) where
  results : (name name' : List ℕ) (o q : Option (TypeSpec ℕ)) (o' q' : Option (TypeSpec Note)) → IfThere (TypedSpec s) o o' → IfThere (TypedSpec t) q q' → same_result (result_type kinds value o) (result_type other given q) ≡ true → length (result_of name o') ≡ length (result_of name' q')
  results name name' None None None None h k e = refl
  results name name' (Some a) (Some b) (Some a') (Some b') h k e = refl
  results name name' None (Some b) o' q' h k e = cc
  results name name' (Some a) None o' q' h k e = cc
  results name name' None None (Some a') q' h k e = absurd h
  results name name' None None None (Some a') h k e = absurd k
  results name name' (Some a) (Some b) None q' h k e = absurd h
  results name name' (Some a) (Some b) (Some a') None h k e = absurd k

  pub parameters_same : (name name' : List ℕ) (o q : Option (TypeSpec ℕ)) (o' q' : Option (TypeSpec Note)) (xs ws : List (Section ℕ)) (ys zs : List (Section Note)) → IfThere (TypedSpec s) o o' → IfThere (TypedSpec t) q q' → Each (TypedSection s) xs ys → Each (TypedSection t) ws zs
      → same_signature same_value (signature kinds value o xs) (signature other given q ws) ≡ true
      → local_parameters (length (result_of name o')) (those is_parameter (variables_in ys)) ≡ local_parameters (length (result_of name' q')) (those is_parameter (variables_in zs))
  parameters_same name name' o q o' q' xs ws ys zs ho hq hx hw e =
      let c = both (same_result (result_type kinds value o) (result_type other given q)) (same_parameters same_value (flat_map (section_parameters kinds value) xs) (flat_map (section_parameters other given) ws)) e in
      let l = results name name' o q o' q' ho hq c.0 in
      by_sorts (length (result_of name o')) (those is_parameter (variables_in ys))
      ∙ (ap (numbered (length (result_of name o'))) (sections_pass kinds value s xs ys hx ∙ (sorts_same same_value (flat_map (section_parameters kinds value) xs) (flat_map (section_parameters other given) ws) c.1 ∙ sym (sections_pass other given t ws zs hw)))
      ∙ (ap (λ n. numbered n (map (λ (v : Variable). v.sort) (those is_parameter (variables_in zs)))) l
      ∙ sym (by_sorts (length (result_of name' q')) (those is_parameter (variables_in zs)))))
