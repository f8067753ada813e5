-- Parameters, item by item.
use Rattle.std.proofs.Common.{◌≡◌, ℕ, Bool, true, false, true≢false, List, [], ◌∷◌, ◌++◌, Option, Some, None, map, refl, sym, ap, ◌∙◌, subst, arith}
use Rattle.std.specs.Prelude.{not, ◌&&◌, if◌then◌else◌, flat_map, option_map}
use Rattle.st_types.specs.declared.st_type.StType.{StType}
use Rattle.st_tree.specs.declared.declaration.Item.{Item}
use Rattle.st_tree.specs.declared.declaration.Section.{Section}
use Rattle.st_tree.specs.declared.declaration.SectionSort.{SectionSort}
use Rattle.st_tree.specs.declared.declaration.SectionSort.TheVariants as sort
use Rattle.st_tree.specs.declared.initial.Init.{Init}
use Rattle.st_tree.specs.declared.name.Name.{Name}
use Rattle.st_tree.specs.declared.type_spec.TypeSpec.{TypeSpec}
use Rattle.st_tree.specs.Initial.{Initial, initial_of}
use Rattle.st_rules.specs.declared.signature.Parameter.{Parameter}
use Rattle.st_rules.specs.Scope.{Scope}
use Rattle.st_rules.specs.Signatures as signatures
use Rattle.st_unit_rules.specs.declared_names.Declarations.{entries_in}
use Rattle.st_unit_rules.specs.DeclarationRules.{unit}
use Rattle.st_unit_rules.specs.declared_names.WrittenTypes.{type_written}
use Rattle.st_unit_rules.specs.Worth.{Worth, typed_worth, worth_within, worth_of}
use Rattle.default_values.specs.declared.worth_numbers.node.Node.{Node}
use Rattle.default_values.specs.worth_numbers.Numbers.{Grows, HasWorth}
use Rattle.default_values.proofs.worth_numbers.TableLaws.{grows_self, worth_stays}
use Rattle.default_values.specs.initial_worths.Structures.{IsTold}
use Rattle.default_values.specs.initial_worths.Found.{Finds}
use Rattle.default_values.proofs.initial_worths.PutLaws.{structures_stay}
use Rattle.default_values.specs.numbered_signatures.Alike.{IsAlikeIfTold, AreAlike, IsAlikeParameter}
use Rattle.check_signatures.specs.declared.unit_signatures.weighed.Weighed.{Weighed}
use Rattle.check_signatures.specs.unit_signatures.Private.Adds.{Adds}
use Rattle.check_signatures.specs.unit_signatures.Private.Parameters.{AreWeighed, parameter_tells, numbered, worth_in, is_in_out, initial_in, FindsWorth, FindsInitial, value_in, item_parameters, has_parameters, section_parameters}
use Rattle.check_signatures.proofs.unit_signatures.AddLaws.{if_told_more, adds_none, adds_as, adds_many}

-- ---- what stays as the table grows

pub weighed_stay : (w : Weighed) (a b : List Node) → Grows a b → AreWeighed w a → AreWeighed w b
weighed_stay w a b g h = structures_stay a b g (unit w.tables.now.decls) (entries_in w.tables.now.decls) 66 w.structures.now h

pub parameter_stays : (a b : List Node) → Grows a b → (p : Parameter ℕ) (q : Parameter Worth) → parameter_tells a p q → parameter_tells b p q
parameter_stays a b g p q h = record { sort = h.sort; name = h.name; kind = h.kind; initial = if_told_more (HasWorth a) (HasWorth b) (worth_stays a b g) p.initial q.initial h.initial }

told_alike : (nodes : List Node) (k : Option ℕ) (o : Option Worth) → IsTold nodes k o → IsAlikeIfTold (HasWorth nodes) k o
told_alike nodes None None h = tt
told_alike nodes None (Some v) h = absurd h
told_alike nodes (Some k) None h = absurd h
told_alike nodes (Some k) (Some v) h = h

-- ---- initial values

module _ (w : Weighed) (old new : List Node) (s : Scope) (i : Option (Init ℕ)) where
  pub worth_found : (kind : Option StType) (t : StType) (given : Option (Initial ℕ)) (r : Option ℕ) → kind ≡ Some t → given ≡ option_map initial_of i
      → Finds old new w.structures.now 66 r (λ u e. worth_within u e 66 s t given) → FindsWorth w old new s kind i r
  worth_found kind t given r q v h = record {
    grows = h.grows;
    told = λ a.
        subst (λ (o : Option Worth). IsTold new r o)
        (λ k. typed_worth (unit w.tables.now.decls) (entries_in w.tables.now.decls) (worth_within (unit w.tables.now.decls) (entries_in w.tables.now.decls) 66) s (sym q k) (v k))
        (h.told (unit w.tables.now.decls) (entries_in w.tables.now.decls) a (omega arith));
  }

  pub initial_found : (sort : SectionSort) (kind : Option StType) (r : Option ℕ) (b : Bool) → b ≡ is_in_out sort → b ≡ false → FindsWorth w old new s kind i r → FindsInitial w old new s sort kind i r
  initial_found sort.Var kind r b q f h = record { grows = h.grows; told = h.told }
  initial_found sort.Input kind r b q f h = record { grows = h.grows; told = h.told }
  initial_found sort.Output kind r b q f h = record { grows = h.grows; told = h.told }
  initial_found sort.InOut kind r b q f h = absurd (true≢false (sym q ∙ f))
  initial_found sort.Temp kind r b q f h = record { grows = h.grows; told = h.told }
  initial_found sort.External kind r b q f h = record { grows = h.grows; told = h.told }
  initial_found sort.Global kind r b q f h = record { grows = h.grows; told = h.told }

pub no_worth : (w : Weighed) (nodes : List Node) (s : Scope) (kind : Option StType) (i : Option (Init ℕ)) → kind ≡ None → FindsWorth w nodes nodes s kind i None
no_worth w nodes s kind i q = record { grows = grows_self nodes; told = λ a. subst (λ (o : Option StType). IsTold nodes None (worth_in w s o i)) (sym q) tt }

pub no_initial : (w : Weighed) (nodes : List Node) (s : Scope) (sort : SectionSort) (kind : Option StType) (i : Option (Init ℕ)) (b : Bool) → b ≡ is_in_out sort → b ≡ true → FindsInitial w nodes nodes s sort kind i None
no_initial w nodes s sort.InOut kind i b q t = record { grows = grows_self nodes; told = λ a. tt }
no_initial w nodes s sort.Var kind i b q t = absurd (true≢false (sym t ∙ q))
no_initial w nodes s sort.Input kind i b q t = absurd (true≢false (sym t ∙ q))
no_initial w nodes s sort.Output kind i b q t = absurd (true≢false (sym t ∙ q))
no_initial w nodes s sort.Temp kind i b q t = absurd (true≢false (sym t ∙ q))
no_initial w nodes s sort.External kind i b q t = absurd (true≢false (sym t ∙ q))
no_initial w nodes s sort.Global kind i b q t = absurd (true≢false (sym t ∙ q))

-- ---- items

module _ (w : Weighed) (s : Scope) where
  worth_is : (t : TypeSpec ℕ) (kind : Option StType) (i : Option (Init ℕ)) → kind ≡ type_written s t → worth_in w s kind i ≡ value_in w s t i
  unfolding worth_of
  worth_is t kind i q = ap (λ o. worth_in w s o i) q

  initial_is : (sort : SectionSort) (x : Item ℕ) (kind : Option StType) → kind ≡ type_written s x.kind → initial_in w s sort kind x.initial ≡ signatures.initial_value (type_written s) (value_in w s) sort x
  initial_is sort.InOut x kind q = refl
  initial_is sort.Var x kind q = worth_is x.kind kind x.initial q
  initial_is sort.Input x kind q = worth_is x.kind kind x.initial q
  initial_is sort.Output x kind q = worth_is x.kind kind x.initial q
  initial_is sort.Temp x kind q = worth_is x.kind kind x.initial q
  initial_is sort.External x kind q = worth_is x.kind kind x.initial q
  initial_is sort.Global x kind q = worth_is x.kind kind x.initial q

  names_alike : (nodes : List Node) (sort : SectionSort) (x : Item ℕ) (kind : Option StType) (r : Option ℕ) → kind ≡ type_written s x.kind → IsTold nodes r (initial_in w s sort kind x.initial) → (ns : List Name)
      → AreAlike (parameter_tells nodes) (map (numbered sort kind r) ns) (map (signatures.parameter (type_written s) (value_in w s) sort x) ns)
  names_alike nodes sort x kind r q h [] = tt
  names_alike nodes sort x kind r q h (n ∷ ns) = (
    record {
      sort = refl;
      name = refl;
      kind = q;
      initial = told_alike nodes r (signatures.initial_value (type_written s) (value_in w s) sort x) (subst (λ (o : Option Worth). IsTold nodes r o) (initial_is sort x kind q) h);
    },
    names_alike nodes sort x kind r q h ns,
  )

  pub item_added : (old new : List Node) (xs ys : List (Parameter ℕ)) (sort : SectionSort) (x : Item ℕ) (kind : Option StType) (r : Option ℕ) (ns : List Name) → kind ≡ type_written s x.kind → FindsInitial w old new s sort kind x.initial r → ns ≡ x.names
      → ys ≡ xs ++ map (numbered sort kind r) ns → Adds parameter_tells (AreWeighed w) old new xs ys (item_parameters w s sort x)
  item_added old new xs ys sort x kind r ns q h e p =
      subst (λ (zs : List (Parameter ℕ)). Adds parameter_tells (AreWeighed w) old new xs zs (item_parameters w s sort x)) (sym (p ∙ ap (λ ms. xs ++ map (numbered sort kind r) ms) e))
      (adds_many parameter_tells (AreWeighed w) (weighed_stay w) parameter_stays old new xs (map (numbered sort kind r) x.names) (item_parameters w s sort x) h.grows
      (λ a. names_alike new sort x kind r q (h.told a) x.names))

  -- ---- sections

  section_with : (b : Bool) (x : Section ℕ) → has_parameters x ≡ b → (if b then flat_map (item_parameters w s x.sort) x.items else []) ≡ section_parameters w s x
  section_with b x q = ap (λ c. if c then flat_map (item_parameters w s x.sort) x.items else []) (sym q)

  pub section_without : (nodes : List Node) (xs : List (Parameter ℕ)) (x : Section ℕ) (b : Bool) → b ≡ has_parameters x → b ≡ false → Adds parameter_tells (AreWeighed w) nodes nodes xs xs (section_parameters w s x)
  section_without nodes xs x b q f = adds_none parameter_tells (AreWeighed w) nodes xs (section_parameters w s x) (sym (section_with false x (sym q ∙ f)))

  pub section_added : (old new : List Node) (xs ys : List (Parameter ℕ)) (x : Section ℕ) (b : Bool) (is : List (Item ℕ)) → b ≡ has_parameters x → b ≡ true → is ≡ x.items
      → Adds parameter_tells (AreWeighed w) old new xs ys (flat_map (item_parameters w s x.sort) is) → Adds parameter_tells (AreWeighed w) old new xs ys (section_parameters w s x)
  section_added old new xs ys x b is q t e h =
      adds_as parameter_tells (AreWeighed w) old new xs ys (flat_map (item_parameters w s x.sort) is) (section_parameters w s x) (ap (flat_map (item_parameters w s x.sort)) e ∙ section_with true x (sym q ∙ t)) h
