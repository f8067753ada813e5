-- What tables hold is what a scope says.
use Rattle.std.proofs.Common.{◌≡◌, ℕ, suc, ◌+◌, List, [], ◌∷◌, Option, Some, None, refl, sym, ap, ◌∙◌, add-one, length, Bor}
use Rattle.std.specs.Prelude.{map, option_map, option_and_then, slice_get, filter, MatchOption}
use Rattle.st_rules.specs.declared.names.TypeParts.{TypeParts}
use Rattle.st_rules.specs.declared.names.DeclaredVariable.{DeclaredVariable}
use Rattle.st_tree.specs.declared.declaration.ClassSort.{ClassSort}
use Rattle.st_tree.specs.declared.declaration.ClassSort.TheVariants.{FunctionBlock, Class}
use Rattle.st_rules.specs.declared.names.DeclaredClass.{DeclaredClass}
use Rattle.name_resolution.specs.Private.Routines.{is_block}
use Rattle.st_rules.specs.Chains.{nearest, climb, ◌or_else◌}
use Rattle.st_rules.specs.Classes.{base_of, chain}
use Rattle.st_rules.specs.Scope.{Scope, first_named, variables_of, parts_of, instance_variable, instance_entry, is_of_instance, is_inherited, base_entry, of_class, variable_named, value_names, value_named, value_of, enumerator_meaning, only_enumerator, an_enumerator, is_block_at}
use Rattle.std.proofs.lemmas.Option.{slice_get-map}
use Rattle.std.proofs.lemmas.List.{length-map}
use Rattle.st_tree.specs.declared.declaration.ClassDecl.{ClassDecl}
use Rattle.name_resolution.specs.Tables.{Told, Holds, Knows}
use Rattle.name_resolution.specs.Private.Bases.{base_number, bases_by, is_derived}
use Rattle.name_resolution.specs.declared.places.Which.TheVariants.{All, Inherited, OfInstance}
use Rattle.name_resolution.specs.Private.Places.{items_at, passes}
use Rattle.st_rules.specs.Upward.{upward, base_in}
use Rattle.name_resolution.specs.Private.Climb.{own, own_with_class}
use Rattle.st_rules.specs.Named.{first_place}
use Rattle.st_rules.specs.Numbered.{each_numbered}
use Rattle.name_resolution.specs.Private.Enumerators.{first_having, last_having, lone}
use Rattle.name_resolution.proofs.EnumeratorLaws.{enumerator_alone}
use Rattle.name_resolution.proofs.PlaceLaws.{all_pass}
use Rattle.st_rules.proofs.UpwardLaws.{upward_is, climb_same, nearest_same}

-- the class of a variable that a class has
abbrev pub some_class : ℕ × DeclaredVariable → Option ℕ × DeclaredVariable
some_class x = (Some x.0, x.1)

else_map : {X Y : Type 0} (f : X → Y) (o p : Option X) (q : Option Y) → q ≡ option_map f p → (option_map f o or_else q) ≡ option_map f (o or_else p)
else_map f None p q h = h
else_map f (Some x) p q h = refl

nearest_map : {X Y : Type 0} (f : X → Y) (has : ℕ → Option X) (cs : List ℕ) → nearest (λ c. option_map f (has c)) cs ≡ option_map f (nearest has cs)
nearest_map f has [] = refl
nearest_map f has (c ∷ cs) = else_map f (has c) (nearest has cs) _ (nearest_map f has cs)

module _ (t : Told) (s : Scope) (holds : Holds t s) where
  variables_here : (c : ℕ) → items_at (λ class. class.variables) t.names.classes c ≡ variables_of s c
  variables_here c = ap (λ n. items_at (λ class. class.variables) n.classes c) (sym holds.names)

  pub upward_in_chain : {X : Type 0} (has other : ℕ → Option X) → ((c : ℕ) → has c ≡ other c) → (c : ℕ) → upward has (base_in t.bases) (length t.bases + 1) c ≡ nearest other (chain s.classes c)
  unfolding chain
  upward_in_chain has other same c =
      upward_is has (base_in t.bases) (length t.bases + 1) c
      ∙ ap (nearest has) (climb_same (base_in t.bases) (base_of s.classes) holds.bases (length t.bases + 1) [] (Some c) ∙ ap (λ n. climb (base_of s.classes) n [] (Some c)) (add-one (length t.bases) ∙ ap suc holds.long))
      ∙ nearest_same has other same (climb (base_of s.classes) (suc (length s.classes)) [] (Some c))

  pub variables_are : (c : ℕ) → items_at (λ class. class.variables) t.names.classes c ≡ variables_of s c
  variables_are c = variables_here c

  pub chain_is : (c : ℕ) → climb (base_in t.bases) (length t.bases + 1) [] (Some c) ≡ chain s.classes c
  unfolding chain
  chain_is c = climb_same (base_in t.bases) (base_of s.classes) holds.bases (length t.bases + 1) [] (Some c) ∙ ap (λ n. climb (base_of s.classes) n [] (Some c)) (add-one (length t.bases) ∙ ap suc holds.long)

  pub of_instance : (name : List ℕ) (c : ℕ) → upward (own_with_class (passes OfInstance) t.names.classes name) (base_in t.bases) (length t.bases + 1) c ≡ instance_variable s c name
  unfolding instance_variable
  of_instance name c = upward_in_chain _ (instance_entry s name) (λ d. ap (λ vs. option_map (λ v. (d, v)) (first_named (λ v. v.name) name (filter is_of_instance vs))) (variables_here d)) c

  pub own_here : (name : List ℕ) (c : ℕ) → own (passes All) t.names.classes name c ≡ variable_named name (variables_of s c)
  own_here name c = ap (λ vs. first_named (λ v. v.name) name (filter (passes All) vs)) (variables_here c) ∙ ap (first_named (λ v. v.name) name) (all_pass (λ v. v.name) (variables_of s c))

  classed : (c : ℕ) (o : Option DeclaredVariable) → option_map some_class (option_map (λ v. (c, v)) o) ≡ of_class s c o
  classed c None = refl
  classed c (Some v) = refl

  pub from_bases : (name : List ℕ) (c : ℕ) → option_map some_class (upward (own_with_class (passes Inherited) t.names.classes name) (base_in t.bases) (length t.bases + 1) c) ≡ nearest (base_entry s name) (chain s.classes c)
  from_bases name c =
      ap (option_map some_class) (upward_in_chain _ _ (λ d. refl) c)
      ∙ sym (nearest_map some_class (own_with_class (passes Inherited) t.names.classes name) (chain s.classes c))
      ∙ nearest_same _ (base_entry s name) (λ d. classed d (own (passes Inherited) t.names.classes name d) ∙ ap (λ vs. of_class s d (first_named (λ v. v.name) name (filter is_inherited vs))) (variables_here d)) (chain s.classes c)

-- what is found, with its class as that of a variable
pub with_class : (o : Option (ℕ × DeclaredVariable)) (found : Option (ℕ × Bor DeclaredVariable)) → MatchOption found (o ≡ None) (λ x. o ≡ Some (x.0, x.1.now)) → MatchOption found (option_map some_class o ≡ None) (λ x. option_map some_class o ≡ Some (Some x.0, x.1.now))
with_class o None h = ap (option_map some_class) h
with_class o (Some x) h = ap (option_map some_class) h

parts_here : (s : Scope) (n : ℕ) → items_at value_names s.names.parts n ≡ value_names (parts_of s n)
parts_here s n = at (slice_get s.names.parts n) refl
  where
    at : (o : Option TypeParts) → slice_get s.names.parts n ≡ o → items_at value_names s.names.parts n ≡ value_names (parts_of s n)
    at None e = rw e refl
    at (Some p) e = rw e refl

value_here : (s : Scope) (name : List ℕ) (o : Option ℕ) → option_and_then (λ n. option_map (an_enumerator n) (first_place name (items_at value_names s.names.parts n))) o ≡ option_and_then (λ n. option_map (an_enumerator n) (value_of s n name)) o
value_here s name None = refl
value_here s name (Some n) = ap (λ ns. option_map (an_enumerator n) (first_place name ns)) (parts_here s n)

-- the enumeration that has the name alone, and its value
pub enumerator_is : (t : Told) (s : Scope) (name : List ℕ) → Holds t s → (first last : Option ℕ) → first ≡ first_having 0 t.names.parts name → last ≡ last_having None 0 t.names.parts name
    → (o : Option ℕ) → o ≡ lone first last → enumerator_meaning s name ≡ option_and_then (λ n. option_map (an_enumerator n) (value_of s n name)) o
enumerator_is t s name holds first last f l o e =
    ap (λ n. only_enumerator (each_numbered (value_named name) 0 n.parts)) holds.names
    ∙ enumerator_alone name t.names.parts
    ∙ ap (λ n. option_and_then (λ k. option_map (an_enumerator k) (first_place name (items_at value_names t.names.parts k))) n) (ap (λ x. lone x (last_having None 0 t.names.parts name)) (sym f) ∙ ap (lone first) (sym l) ∙ sym e)
    ∙ ap (λ n. option_and_then (λ k. option_map (an_enumerator k) (first_place name (items_at value_names n.parts k))) o) (sym holds.names)
    ∙ value_here s name o

-- ---- bases

joined : {X Y : Type 0} (f : X → Option Y) (o : Option X) → option_and_then (λ b. b) (option_map f o) ≡ option_and_then f o
joined f None = refl
joined f (Some x) = refl

pub bases_known : (t : Told) (classes : List (ClassDecl ℕ)) → t.bases ≡ bases_by classes classes → t.derived ≡ map is_derived classes → Knows t classes
bases_known t classes e d = record {
  bases = λ c. ap (λ bs. option_and_then (λ b. b) (slice_get bs c)) e ∙ ap (option_and_then (λ b. b)) (slice_get-map (λ class. base_number classes class.base) classes c)
      ∙ joined (λ class. base_number classes class.base) (slice_get classes c);
  long = ap length e ∙ length-map classes _;
  derived = λ c. ap (λ ds. slice_get ds c) d ∙ slice_get-map is_derived classes c;
}

-- ---- sorts of classes

pub block_is : (s : Scope) (c : ℕ) → is_block s.names.classes c ≡ is_block_at s c
block_is s c = at (slice_get s.names.classes c) refl
  where
    by_sort : (class : DeclaredClass) → slice_get s.names.classes c ≡ Some class → (x : ClassSort) → class.sort ≡ x → is_block s.names.classes c ≡ is_block_at s c
    by_sort class e FunctionBlock f = rw (e, f) refl
    by_sort class e Class f = rw (e, f) refl

    at : (o : Option DeclaredClass) → slice_get s.names.classes c ≡ o → is_block s.names.classes c ≡ is_block_at s c
    at None e = rw e refl
    at (Some class) e = by_sort class e class.sort refl
