-- What names mean where more types and constants are told.
use Rattle.std.proofs.Common.{◌≡◌, ℕ, zero, suc, Bool, true, false, List, [], ◌∷◌, ◌++◌, Option, Some, None, refl, sym, ap, subst, ◌∙◌}
use Rattle.std.specs.Prelude.{option_and_then, option_map, if◌then◌else◌, filter, slice_get, ◌||◌, not}
use Rattle.std.specs.Option.{is_some}
use Rattle.std.specs.List.{list_any}
use Rattle.plc_text.specs.Words.{same}
use Rattle.st_types.specs.declared.st_type.StType.{StType}
use Rattle.st_tree.specs.declared.program.Target.{Target}
use Rattle.st_tree.specs.declared.program.Target.TheVariants as target
use Rattle.st_rules.specs.declared.names.DeclaredVariable.{DeclaredVariable}
use Rattle.st_rules.specs.declared.names.DeclaredClass.{DeclaredClass}
use Rattle.st_rules.specs.declared.names.DeclaredType.{DeclaredType}
use Rattle.st_rules.specs.declared.names.DeclaredGlobal.{DeclaredGlobal}
use Rattle.st_rules.specs.declared.names.DeclaredGlobal.TheVariants as global
use Rattle.st_rules.specs.declared.names.TypeParts.{TypeParts}
use Rattle.st_rules.specs.declared.names.TypeParts.TheVariants as parts
use Rattle.st_rules.specs.declared.names.DeclaredNames.{DeclaredNames}
use Rattle.st_rules.specs.Named.{first_place}
use Rattle.st_rules.specs.Numbered.{each_numbered}
use Rattle.st_rules.specs.Chains.{◌or_else◌, nearest}
use Rattle.st_rules.specs.Classes.{chain}
use Rattle.st_rules.specs.Scope.{Scope, Meant, a_variable, a_function, an_enumerator, first_named, variable_named, is_external, is_inherited, global_name, global_meaning, global_named, is_global_variable, value_names, value_named, only_enumerator, type_named, Qualifier, values_of, of_untold, no_qualifier, qualifier_kind, qualifier_type, variables_of, parts_of, meant_by, of_class, own_entry, base_entry, class_entry, local_entry, entry, enumerator_meaning, meaning_behind, sought, type_qualifier, dot_qualifier, value_of}
use Rattle.st_rules.specs.Scope as scope
use Rattle.st_rules.specs.Expressions.{value_target}
use Rattle.st_unit_rules.specs.declared_names.Constants.{is_told}
use Rattle.st_unit_rules.specs.declared_names.WrittenTypes.{named_type}
use Rattle.resolution_order.specs.told_laws.ToldLaws.{Each, AlikeType, NoLess, MeansNoLess}
use Rattle.resolution_order.proofs.told_laws.Basis.{VariableBasis, GlobalBasis, ClassBasis, PartsBasis, BasisNoLess}
use Rattle.resolution_order.proofs.told_laws.Heart.{more, Lookups}

-- ---- options and lists

-- both are there, and as R says, or none is
abbrev Both : {X : Type 0} → (X → X → Type 0) → Option X → Option X → Type 0
Both R None None = Unit {0}
Both R (Some x) (Some y) = R x y
Both R _ _ = ⊥

either-is : {X : Type 0} (R : X → X → Type 0) (b c : Bool) (x y x' y' : X) → b ≡ c → R x y → R x' y' → R (if b then x else x') (if c then y else y')
either-is R true true x y x' y' e h k = h
either-is R false false x y x' y' e h k = k
either-is R true false x y x' y' e h k = absurd (cc)
either-is R false true x y x' y' e h k = absurd (cc)

or-else-is : {X : Type 0} (R : X → X → Type 0) (a a' b b' : Option X) → Both R a a' → Both R b b' → Both R (a or_else b) (a' or_else b')
or-else-is R None None b b' h k = k
or-else-is R (Some x) (Some y) b b' h k = h
or-else-is R None (Some y) b b' h k = absurd h
or-else-is R (Some x) None b b' h k = absurd h

mapped-is : {X Y : Type 0} (R : X → X → Type 0) (S : Y → Y → Type 0) (f g : X → Y) → ((x y : X) → R x y → S (f x) (g y)) → (a b : Option X) → Both R a b → Both S (option_map f a) (option_map g b)
mapped-is R S f g step None None h = tt
mapped-is R S f g step (Some x) (Some y) h = step x y h
mapped-is R S f g step None (Some y) h = absurd h
mapped-is R S f g step (Some x) None h = absurd h

both-there : {X : Type 0} (R : X → X → Type 0) (a b : Option X) → Both R a b → is_some a ≡ is_some b
both-there R None None h = refl
both-there R (Some x) (Some y) h = refl
both-there R None (Some y) h = absurd h
both-there R (Some x) None h = absurd h

nearest-is : {X : Type 0} (R : X → X → Type 0) (f g : ℕ → Option X) → ((c : ℕ) → Both R (f c) (g c)) → (cs : List ℕ) → Both R (nearest f cs) (nearest g cs)
nearest-is R f g h [] = tt
nearest-is R f g h (c ∷ cs) = or-else-is R (f c) (g c) (nearest f cs) (nearest g cs) (h c) (nearest-is R f g h cs)

module _ {X : Type 0} (R : X → X → Type 0) where
  first-is : (name_of : X → List ℕ) → ((x y : X) → R x y → name_of x ≡ name_of y) → (name : List ℕ) (xs ys : List X) → Each R xs ys → Both R (first_named name_of name xs) (first_named name_of name ys)
  first-is name_of same-name name [] [] h = tt
  first-is name_of same-name name (x ∷ xs) (y ∷ ys) h =
      either-is (Both R) (same (name_of x) name) (same (name_of y) name) (Some x) (Some y) (first_named name_of name xs) (first_named name_of name ys)
      (ap (λ n. same n name) (same-name x y h.0)) h.0 (first-is name_of same-name name xs ys h.1)
  first-is name_of same-name name [] (y ∷ ys) h = absurd h
  first-is name_of same-name name (x ∷ xs) [] h = absurd h

  pub item-is : (xs ys : List X) (i : ℕ) → Each R xs ys → Both R (slice_get xs i) (slice_get ys i)
  item-is [] [] i h = tt
  item-is (x ∷ xs) (y ∷ ys) zero h = h.0
  item-is (x ∷ xs) (y ∷ ys) (suc i) h = item-is xs ys i h.1
  item-is [] (y ∷ ys) i h = absurd h
  item-is (x ∷ xs) [] i h = absurd h

  pub filter-is : (p : X → Bool) → ((x y : X) → R x y → p x ≡ p y) → (xs ys : List X) → Each R xs ys → Each R (filter p xs) (filter p ys)
  filter-is p h [] [] e = tt
  filter-is p h (x ∷ xs) (y ∷ ys) e =
      either-is (Each R) (p x) (p y) (x ∷ filter p xs) (y ∷ filter p ys) (filter p xs) (filter p ys) (h x y e.0) (e.0, filter-is p h xs ys e.1) (filter-is p h xs ys e.1)
  filter-is p h [] (y ∷ ys) e = absurd e
  filter-is p h (x ∷ xs) [] e = absurd e

  any-is : (p : X → Bool) → ((x y : X) → R x y → p x ≡ p y) → (xs ys : List X) → Each R xs ys → list_any p xs ≡ list_any p ys
  any-is p h [] [] e = refl
  any-is p h (x ∷ xs) (y ∷ ys) e = ap (λ b. b || list_any p xs) (h x y e.0) ∙ ap (λ b. p y || b) (any-is p h xs ys e.1)
  any-is p h [] (y ∷ ys) e = absurd e
  any-is p h (x ∷ xs) [] e = absurd e

-- ---- classes and parts by number

variables_in : Option DeclaredClass → List DeclaredVariable
variables_in None = []
variables_in (Some class) = class.variables

variables-are : (s : Scope) (c : ℕ) → variables_of s c ≡ variables_in (slice_get s.names.classes c)
unfolding variables_in
variables-are s c = refl

parts_in : Option TypeParts → TypeParts
parts_in None = parts.Nothing
parts_in (Some p) = p

parts-are : (s : Scope) (n : ℕ) → parts_of s n ≡ parts_in (slice_get s.names.parts n)
unfolding parts_in
parts-are s n = refl

class-variables : (c d : Option DeclaredClass) → Both ClassBasis c d → Each VariableBasis (variables_in c) (variables_in d)
unfolding variables_in
class-variables None None h = tt
class-variables (Some c) (Some d) h = h
class-variables None (Some d) h = absurd h
class-variables (Some c) None h = absurd h

parts-values : (p q : Option TypeParts) → Both PartsBasis p q → value_names (parts_in p) ≡ value_names (parts_in q)
unfolding parts_in
parts-values None None h = refl
parts-values (Some p) (Some q) h = h
parts-values None (Some q) h = absurd h
parts-values (Some p) None h = absurd h

place_value : ℕ → Option ℕ → List (ℕ × ℕ)
place_value n None = []
place_value n (Some k) = (n, k) ∷ []

value-is : (name : List ℕ) (n : ℕ) (p : TypeParts) → value_named name n p ≡ place_value n (first_place name (value_names p))
unfolding place_value
value-is name n p = refl

enumerators-are : (name : List ℕ) (n : ℕ) (ps qs : List TypeParts) → Each PartsBasis ps qs → each_numbered (value_named name) n ps ≡ each_numbered (value_named name) n qs
enumerators-are name n [] [] h = refl
enumerators-are name n (p ∷ ps) (q ∷ qs) h =
    let e : value_named name n p ≡ value_named name n q = value-is name n p ∙ ap (λ ns. place_value n (first_place name ns)) h.0 ∙ sym (value-is name n q) in
    ap (λ x. x ++ each_numbered (value_named name) (suc n) ps) e ∙ ap (λ x. value_named name n q ++ x) (enumerators-are name (suc n) ps qs h.1)
enumerators-are name n [] (q ∷ qs) h = absurd h
enumerators-are name n (p ∷ ps) [] h = absurd h

-- ---- meanings

abbrev EntryBasis : Option ℕ × DeclaredVariable → Option ℕ × DeclaredVariable → Type 0
EntryBasis x y = (x.0 ≡ y.0) × VariableBasis x.1 y.1

abbrev MeantBasis : Meant → Meant → Type 0
MeantBasis (a_variable c v) (a_variable d w) = (c ≡ d) × VariableBasis v w
MeantBasis (a_function k r) (a_function j q) = Unit {0}
MeantBasis (an_enumerator n k) (an_enumerator m j) = an_enumerator m j ≡ an_enumerator n k
MeantBasis _ _ = ⊥

global-meant : (g h : DeclaredGlobal) → GlobalBasis g h → MeantBasis (global_meaning g) (global_meaning h)
global-meant (global.Variable v) (global.Variable w) b = (refl, b)
global-meant (global.Function k r) (global.Function j q) b = tt
global-meant (global.Variable v) (global.Function j q) b = absurd b
global-meant (global.Function k r) (global.Variable w) b = absurd b

global-name : (g h : DeclaredGlobal) → GlobalBasis g h → global_name g ≡ global_name h
global-name (global.Variable v) (global.Variable w) b = b.name
global-name (global.Function k r) (global.Function j q) b = b
global-name (global.Variable v) (global.Function j q) b = absurd b
global-name (global.Function k r) (global.Variable w) b = absurd b

global-variable : (name : List ℕ) (g h : DeclaredGlobal) → GlobalBasis g h → is_global_variable name g ≡ is_global_variable name h
global-variable name (global.Variable v) (global.Variable w) b = ap (λ n. same n name) b.name
global-variable name (global.Function k r) (global.Function j q) b = refl
global-variable name (global.Variable v) (global.Function j q) b = absurd b
global-variable name (global.Function k r) (global.Variable w) b = absurd b

same-meaning : (m : Option Meant) → Both MeantBasis m m → Both MeantBasis m m
same-meaning m h = h

enumerator-is : (xs ys : List (ℕ × ℕ)) → xs ≡ ys → Both MeantBasis (only_enumerator xs) (only_enumerator ys)
enumerator-is xs ys e = subst (λ zs. Both MeantBasis (only_enumerator xs) (only_enumerator zs)) e (alone xs)
  where
    alone : (xs : List (ℕ × ℕ)) → Both MeantBasis (only_enumerator xs) (only_enumerator xs)
    alone [] = tt
    alone (x ∷ []) = refl
    alone (x ∷ y ∷ xs) = tt

-- what is told of a meaning is the same
if-told : (b : Bool) (t : Target) → is_told (if b then t else target.Nothing) ≡ true → (b ≡ true) × (is_told t ≡ true)
if-told true t h = (refl, h)
if-told false t h = absurd (cc)

told-meaning : (m n : Option Meant) → Both MeantBasis m n → is_told (value_target m) ≡ true → n ≡ m
told-meaning None n b h = absurd (cc)
told-meaning (Some (a_variable c v)) (Some (a_variable d w)) b h =
    let t = if-told v.constant v.target h in
    ap (λ x. Some (a_variable x w)) (sym b.0) ∙ ap (λ x. Some (a_variable c x)) (b.1.told t.0 t.1)
told-meaning (Some (an_enumerator n k)) (Some (an_enumerator m j)) b h = ap Some b
told-meaning (Some (scope.a_method i)) n b h = absurd (cc)
told-meaning (Some (a_function k r)) n b h = absurd (cc)
told-meaning (Some (a_variable c v)) None b h = absurd b
told-meaning (Some (a_variable c v)) (Some (scope.a_method i)) b h = absurd b
told-meaning (Some (a_variable c v)) (Some (a_function k r)) b h = absurd b
told-meaning (Some (a_variable c v)) (Some (an_enumerator m j)) b h = absurd b
told-meaning (Some (an_enumerator n k)) None b h = absurd b
told-meaning (Some (an_enumerator n k)) (Some (a_variable c v)) b h = absurd b
told-meaning (Some (an_enumerator n k)) (Some (scope.a_method i)) b h = absurd b
told-meaning (Some (an_enumerator n k)) (Some (a_function j r)) b h = absurd b

-- ---- types

kind-named : (o p : Option DeclaredType) → Both (AlikeType NoLess MeansNoLess) o p → NoLess (option_and_then (λ t. t.kind) o) (option_and_then (λ t. t.kind) p)
kind-named None None h = tt
kind-named (Some t) (Some u) h = h.kind
kind-named None (Some u) h = tt
kind-named (Some t) None h = absurd h

kind-qualifies : (k j : Option StType) (n : ℕ) → NoLess k j → qualifier_kind k ≡ values_of n → qualifier_kind j ≡ values_of n
kind-qualifies None j n h e = absurd (cc)
kind-qualifies (Some t) j n h e = ap qualifier_kind h ∙ e

type-qualifies : (o p : Option DeclaredType) (n : ℕ) → Both (AlikeType NoLess MeansNoLess) o p → qualifier_type o ≡ values_of n → qualifier_type p ≡ values_of n
type-qualifies None p n h e = absurd (cc)
type-qualifies (Some t) (Some u) n h e = kind-qualifies t.kind u.kind n h.kind e
type-qualifies (Some t) None n h e = absurd h

not-hidden : (b c : Bool) (q p : Qualifier) (n : ℕ) → b ≡ c → (q ≡ values_of n → p ≡ values_of n) → (if b then no_qualifier else q) ≡ values_of n → (if c then no_qualifier else p) ≡ values_of n
not-hidden true c q p n e f h = absurd (cc)
not-hidden false false q p n e f h = f h
not-hidden false true q p n e f h = absurd (cc)

-- ---- scopes

module _ (s : Scope) (names : DeclaredNames) (locals : List DeclaredVariable) (basis : BasisNoLess s.names names) (mine : Each VariableBasis s.locals locals) where
  globals-are : (name : List ℕ) → Both MeantBasis (global_named name s.names.globals) (global_named name names.globals)
  globals-are name =
      mapped-is GlobalBasis MeantBasis global_meaning global_meaning global-meant (first_named global_name name s.names.globals) (first_named global_name name names.globals)
      (first-is GlobalBasis global_name global-name name s.names.globals names.globals basis.globals)

  class-is : (c : ℕ) → Each VariableBasis (variables_of s c) (variables_of (more s names locals) c)
  class-is c =
      let h = class-variables (slice_get s.names.classes c) (slice_get names.classes c) (item-is ClassBasis s.names.classes names.classes c basis.classes) in
      subst (λ xs. Each VariableBasis xs (variables_of (more s names locals) c)) (sym (variables-are s c))
      (subst (λ ys. Each VariableBasis (variables_in (slice_get s.names.classes c)) ys) (sym (variables-are (more s names locals) c)) h)

  named-is : (name : List ℕ) (vs ws : List DeclaredVariable) → Each VariableBasis vs ws → Both VariableBasis (variable_named name vs) (variable_named name ws)
  named-is name vs ws h = first-is VariableBasis (λ v. v.name) (λ v w b. b.name) name vs ws h

  in-class : (c : ℕ) (o p : Option DeclaredVariable) → Both VariableBasis o p → Both EntryBasis (of_class s c o) (of_class (more s names locals) c p)
  in-class c None None h = tt
  in-class c (Some v) (Some w) h = (refl, h)
  in-class c None (Some w) h = absurd h
  in-class c (Some v) None h = absurd h

  own-is : (name : List ℕ) (c : ℕ) → Both EntryBasis (own_entry s name c) (own_entry (more s names locals) name c)
  own-is name c = in-class c _ _ (named-is name (variables_of s c) (variables_of (more s names locals) c) (class-is c))

  base-is : (name : List ℕ) (c : ℕ) → Both EntryBasis (base_entry s name c) (base_entry (more s names locals) name c)
  base-is name c =
      in-class c _ _
      (named-is name (filter is_inherited (variables_of s c)) (filter is_inherited (variables_of (more s names locals) c))
      (filter-is VariableBasis is_inherited (λ v w b. ap (λ x. not (is_external x)) b.sort) (variables_of s c) (variables_of (more s names locals) c) (class-is c)))

  class-entry-is : (name : List ℕ) (c : Option ℕ) → Both EntryBasis (class_entry s name c) (class_entry (more s names locals) name c)
  class-entry-is name None = tt
  class-entry-is name (Some c) =
      or-else-is EntryBasis (own_entry s name c) (own_entry (more s names locals) name c) (nearest (base_entry s name) (chain s.classes c)) (nearest (base_entry (more s names locals) name) (chain s.classes c))
      (own-is name c) (nearest-is EntryBasis (base_entry s name) (base_entry (more s names locals) name) (base-is name) (chain s.classes c))

  entry-is : (name : List ℕ) → Both EntryBasis (entry s name) (entry (more s names locals) name)
  entry-is name =
      or-else-is EntryBasis (local_entry s name) (local_entry (more s names locals) name) (class_entry s name s.class) (class_entry (more s names locals) name s.class)
      (mapped-is VariableBasis EntryBasis (λ v. (None, v)) (λ v. (None, v)) (λ v w b. (refl, b)) (variable_named name s.locals) (variable_named name locals) (named-is name s.locals locals mine))
      (class-entry-is name s.class)

  meant-is : (c d : Option ℕ) (v w : DeclaredVariable) → c ≡ d → VariableBasis v w → Both MeantBasis (meant_by s c v) (meant_by (more s names locals) d w)
  meant-is c d v w e b =
      either-is (Both MeantBasis) (is_external v.sort) (is_external w.sort) (global_named v.name s.names.globals) (global_named w.name names.globals) (Some (a_variable c v)) (Some (a_variable d w))
      (ap is_external b.sort) (subst (λ n. Both MeantBasis (global_named v.name s.names.globals) (global_named n names.globals)) b.name (globals-are v.name)) (e, b)

  behind-is : (name : List ℕ) (o p : Option (Option ℕ × DeclaredVariable)) → Both EntryBasis o p → Both MeantBasis (meaning_behind s false name o) (meaning_behind (more s names locals) false name p)
  behind-is name None None h =
      or-else-is MeantBasis (global_named name s.names.globals) (global_named name names.globals) (enumerator_meaning s name) (enumerator_meaning (more s names locals) name) (globals-are name)
      (enumerator-is _ _ (enumerators-are name 0 s.names.parts names.parts basis.parts))
  behind-is name (Some x) (Some y) h = meant-is x.0 y.0 x.1 y.1 h.0 h.1
  behind-is name None (Some y) h = absurd h
  behind-is name (Some x) None h = absurd h

  sought-is : (name : List ℕ) → Both MeantBasis (sought s false name) (sought (more s names locals) false name)
  unfolding sought
  sought-is name = behind-is name (entry s name) (entry (more s names locals) name) (entry-is name)

  type-is : (name : List ℕ) → Both (AlikeType NoLess MeansNoLess) (type_named name s.names.types) (type_named name names.types)
  type-is name = first-is (AlikeType NoLess MeansNoLess) (λ t. t.name) (λ t u h. h.name) name s.names.types names.types basis.types

  pub kinds-stay : (name : List ℕ) → NoLess (named_type s name) (named_type (more s names locals) name)
  kinds-stay name = kind-named (type_named name s.names.types) (type_named name names.types) (type-is name)

  types-are : (name : List ℕ) (n : ℕ) → type_qualifier s name ≡ values_of n → type_qualifier (more s names locals) name ≡ values_of n
  unfolding type_qualifier
  types-are name n h = type-qualifies (type_named name s.names.types) (type_named name names.types) n (type-is name) h

  dots-are : (name : List ℕ) (n : ℕ) → dot_qualifier s name ≡ values_of n → dot_qualifier (more s names locals) name ≡ values_of n
  unfolding dot_qualifier
  dots-are name n h =
      not-hidden (is_some (entry s name) || list_any (is_global_variable name) s.names.globals) (is_some (entry (more s names locals) name) || list_any (is_global_variable name) names.globals)
      (type_qualifier s name) (type_qualifier (more s names locals) name) n
      (ap (λ b. b || list_any (is_global_variable name) s.names.globals) (both-there EntryBasis (entry s name) (entry (more s names locals) name) (entry-is name))
      ∙ ap (λ b. is_some (entry (more s names locals) name) || b) (any-is GlobalBasis (is_global_variable name) (global-variable name) s.names.globals names.globals basis.globals))
      (types-are name n) h

  values-are : (n : ℕ) (name : List ℕ) → value_of (more s names locals) n name ≡ value_of s n name
  values-are n name =
      ap (λ p. first_place name (value_names p)) (parts-are (more s names locals) n)
      ∙ sym (ap (λ ns. first_place name ns) (parts-values (slice_get s.names.parts n) (slice_get names.parts n) (item-is PartsBasis s.names.parts names.parts n basis.parts)))
      ∙ sym (ap (λ p. first_place name (value_names p)) (parts-are s n))

  pub lookups : Lookups s names locals
  lookups = record {
    names_stay = λ name h. told-meaning (sought s false name) (sought (more s names locals) false name) (sought-is name) h;
    dots_stay = dots-are;
    types_stay = types-are;
    values_stay = values-are;
  }
