-- In a scope where what is told of constants are numbers of their types, so is what a name means.
use Rattle.std.proofs.Common.{◌≡◌, ◌<◌, ℕ, zero, suc, ◌+◌, Bool, true, false, List, [], ◌∷◌, length, Option, Some, None, refl, subst, arith}
use Rattle.std.specs.Prelude.{pos, filter, slice_get, if◌then◌else◌, option_map, option_and_then}
use Rattle.plc_text.specs.Words.{same}
use Rattle.st_types.specs.declared.st_type.StType.TheVariants as type
use Rattle.st_rules.specs.declared.ids.MethodId.{MethodId}
use Rattle.st_rules.specs.declared.names.DeclaredClass.{DeclaredClass}
use Rattle.st_rules.specs.declared.names.DeclaredGlobal.{DeclaredGlobal}
use Rattle.st_rules.specs.declared.names.DeclaredGlobal.TheVariants as global
use Rattle.st_rules.specs.declared.names.DeclaredNames.{DeclaredNames}
use Rattle.st_rules.specs.declared.names.DeclaredVariable.{DeclaredVariable}
use Rattle.st_rules.specs.declared.names.TypeParts.{TypeParts}
use Rattle.st_rules.specs.declared.names.TypeParts.TheVariants as parts
use Rattle.st_rules.specs.Chains.{◌or_else◌, nearest}
use Rattle.st_rules.specs.Classes.{chain, lookup}
use Rattle.st_rules.specs.Named.{first_place}
use Rattle.st_rules.specs.Numbered.{each_numbered}
use Rattle.st_rules.specs.Scope.{Scope, Meant, a_variable, a_method, variable_named, first_named, global_name, global_meaning, global_named, variables_of, value_names, value_named, value_of, is_external, is_inherited, of_class, own_entry, base_entry, class_entry, local_entry, entry, method_meaning, enumerator_meaning, only_enumerator, meaning_behind, sought}
use Rattle.st_rules.proofs.Booleans.{none≢some}
use Rattle.st_rules.proofs.ClassLaws.{first_place_within}
use Rattle.st_values.specs.Program.{Program}
use Rattle.st_meaning.specs.st_frame.Promise.Types.{NumberIs}
use Rattle.resolution_order.specs.told_laws.ToldLaws.{Every, TellsKind, TellsKinds}
use Rattle.accepted_texts.proofs.told_units.ScopeLaws.{values-have-types}
use Rattle.accepted_texts.proofs.told_units.TypeLaws.{ValuesHaveTypes}
use Rattle.accepted_texts.proofs.unfolding_laws.ListLaws.{every_append}
use Rattle.constant_laws.proofs.Constants.{ValueFits, MeantFits, ScopeFits}

pick : {X : Type 0} (P : X → Type 0) (b : Bool) (x y : X) → P x → P y → P (if b then x else y)
pick P true x y h k = h
pick P false x y h k = k

module _ (p : Program) where
  -- ---- variables

  abbrev FitsIn : Option DeclaredVariable → Type 0
  FitsIn None = Unit {0}
  FitsIn (Some v) = ValueFits p v

  named : (name : List ℕ) (vs : List DeclaredVariable) → Every (ValueFits p) vs → FitsIn (variable_named name vs)
  named name [] h = tt
  named name (v ∷ vs) h = pick FitsIn (same v.name name) (Some v) (variable_named name vs) h.0 (named name vs h.1)

  filtered : (test : DeclaredVariable → Bool) (vs : List DeclaredVariable) → Every (ValueFits p) vs → Every (ValueFits p) (filter test vs)
  filtered test [] h = tt
  filtered test (v ∷ vs) h = pick (Every (ValueFits p)) (test v) (v ∷ filter test vs) (filter test vs) (h.0, filtered test vs h.1) (filtered test vs h.1)

  abbrev variables_in : Option DeclaredClass → List DeclaredVariable
  variables_in None = []
  variables_in (Some class) = class.variables

  of_class_fits : (classes : List DeclaredClass) (c : ℕ) → Every (λ d. Every (ValueFits p) d.variables) classes → Every (ValueFits p) (variables_in (slice_get classes c))
  of_class_fits [] c h = tt
  of_class_fits (d ∷ classes) zero h = h.0
  of_class_fits (d ∷ classes) (suc c) h = of_class_fits classes c h.1

  -- ---- entries

  abbrev EntryFits : Option (Option ℕ × DeclaredVariable) → Type 0
  EntryFits None = Unit {0}
  EntryFits (Some e) = ValueFits p e.1

  either_entry : (a b : Option (Option ℕ × DeclaredVariable)) → EntryFits a → EntryFits b → EntryFits (a or_else b)
  either_entry None b h k = k
  either_entry (Some e) b h k = h

  nearest_entry : (has : ℕ → Option (Option ℕ × DeclaredVariable)) → ((c : ℕ) → EntryFits (has c)) → (cs : List ℕ) → EntryFits (nearest has cs)
  nearest_entry has h [] = tt
  nearest_entry has h (c ∷ cs) = either_entry (has c) (nearest has cs) (h c) (nearest_entry has h cs)

  local_fits : (o : Option DeclaredVariable) → FitsIn o → EntryFits (option_map (λ v. (None, v)) o)
  local_fits None h = tt
  local_fits (Some v) h = h

  -- ---- meanings

  abbrev pub GlobalFits : DeclaredGlobal → Type 0
  GlobalFits (global.Variable v) = ValueFits p v
  GlobalFits (global.Function k r) = Unit {0}

  globals_fit : (name : List ℕ) (gs : List DeclaredGlobal) → Every GlobalFits gs → MeantFits p (global_named name gs)
  globals_fit name [] h = tt
  globals_fit name (global.Variable v ∷ gs) h = pick (λ o. MeantFits p (option_map global_meaning o)) (same v.name name) (Some (global.Variable v)) (first_named global_name name gs) h.0 (globals_fit name gs h.1)
  globals_fit name (global.Function k r ∷ gs) h = pick (λ o. MeantFits p (option_map global_meaning o)) (same r.name name) (Some (global.Function k r)) (first_named global_name name gs) tt (globals_fit name gs h.1)

  either_meant : (a b : Option Meant) → MeantFits p a → MeantFits p b → MeantFits p (a or_else b)
  either_meant None b h k = k
  either_meant (Some m) b h k = h

  method_fits : (o : Option ℕ) (f : ℕ → Option MethodId) → MeantFits p (option_and_then (λ c. option_map a_method (f c)) o)
  method_fits None f = tt
  method_fits (Some c) f = by (f c)
    where
      by : (o : Option MethodId) → MeantFits p (option_map a_method o)
      by None = tt
      by (Some id) = tt

  -- ---- enumerators

  abbrev IsValue : ℕ × ℕ → Type 0
  IsValue x = NumberIs p (type.Enumeration x.0) (pos x.1)

  only_fits : (xs : List (ℕ × ℕ)) → Every IsValue xs → MeantFits p (only_enumerator xs)
  only_fits [] h = tt
  only_fits (x ∷ []) h = h.0
  only_fits (x ∷ (y ∷ xs)) h = tt

  -- each value of an enumeration is one
  abbrev pub HaveValues : List TypeParts → Type 0
  HaveValues ts = (n : ℕ) (t : TypeParts) (k : ℕ) → slice_get ts n ≡ Some t → k < length (value_names t) → NumberIs p (type.Enumeration n) (pos k)

  abbrev found_value : ℕ → Option ℕ → List (ℕ × ℕ)
  found_value n None = []
  found_value n (Some k) = (n, k) ∷ []

  abbrev parts_in : Option TypeParts → TypeParts
  parts_in None = parts.Nothing
  parts_in (Some t) = t

  one_named : (name : List ℕ) (n : ℕ) (t : TypeParts) → ((k : ℕ) → k < length (value_names t) → NumberIs p (type.Enumeration n) (pos k)) → Every IsValue (value_named name n t)
  one_named name n t h = by (first_place name (value_names t)) refl
    where
      by : (o : Option ℕ) → first_place name (value_names t) ≡ o → Every IsValue (found_value n o)
      by None e = tt
      by (Some k) e = (h k (first_place_within name (value_names t) k e), tt)

  all_named : (name : List ℕ) (n : ℕ) (ts : List TypeParts) → ((i : ℕ) (t : TypeParts) (k : ℕ) → slice_get ts i ≡ Some t → k < length (value_names t) → NumberIs p (type.Enumeration (n + i)) (pos k)) → Every IsValue (each_numbered (value_named name) n ts)
  all_named name n [] h = tt
  all_named name n (t ∷ ts) h =
      let z : n + 0 ≡ n = omega arith in
      every_append IsValue (value_named name n t) (each_numbered (value_named name) (suc n) ts) (one_named name n t (λ k q. subst (λ m. NumberIs p (type.Enumeration m) (pos k)) z (h 0 t k refl q)))
      (all_named name (suc n) ts (λ i u k e q. let w : n + suc i ≡ suc n + i = omega arith in subst (λ m. NumberIs p (type.Enumeration m) (pos k)) w (h (suc i) u k e q)))

  -- ---- a scope

  pub record NamesFit (a : DeclaredNames) : Type 0 where
    pub classes : Every (λ c. Every (ValueFits p) c.variables) a.classes
    pub globals : Every GlobalFits a.globals
    pub values : HaveValues a.parts

  -- what is told of the constants that it sees is right
  pub record Sound (s : Scope) : Type 0 where
    pub tells : TellsKinds s.names
    pub locals_tell : Every TellsKind s.locals
    pub names : NamesFit s.names
    pub locals : Every (ValueFits p) s.locals

  module _ (s : Scope) (h : Sound s) where
    class_fits : (c : ℕ) → Every (ValueFits p) (variables_of s c)
    class_fits c = of_class_fits s.names.classes c h.names.classes

    of_fits : (c : ℕ) (o : Option DeclaredVariable) → FitsIn o → EntryFits (of_class s c o)
    of_fits c None k = tt
    of_fits c (Some v) k = k

    own_fits : (name : List ℕ) (c : ℕ) → EntryFits (own_entry s name c)
    own_fits name c = of_fits c (variable_named name (variables_of s c)) (named name (variables_of s c) (class_fits c))

    base_fits : (name : List ℕ) (c : ℕ) → EntryFits (base_entry s name c)
    base_fits name c = of_fits c (variable_named name (filter is_inherited (variables_of s c))) (named name (filter is_inherited (variables_of s c)) (filtered is_inherited (variables_of s c) (class_fits c)))

    class_entry_fits : (name : List ℕ) (o : Option ℕ) → EntryFits (class_entry s name o)
    class_entry_fits name None = tt
    class_entry_fits name (Some c) = either_entry (own_entry s name c) (nearest (base_entry s name) (chain s.classes c)) (own_fits name c) (nearest_entry (base_entry s name) (base_fits name) (chain s.classes c))

    entry_fits : (name : List ℕ) → EntryFits (entry s name)
    entry_fits name = either_entry (local_entry s name) (class_entry s name s.class) (local_fits (variable_named name s.locals) (named name s.locals h.locals)) (class_entry_fits name s.class)

    enumerated : (name : List ℕ) → MeantFits p (enumerator_meaning s name)
    enumerated name = only_fits (each_numbered (value_named name) 0 s.names.parts) (all_named name 0 s.names.parts (λ i t k e q. let z : i ≡ 0 + i = omega arith in subst (λ n. NumberIs p (type.Enumeration n) (pos k)) z (h.names.values i t k e q)))

    behind_fits : (called : Bool) (name : List ℕ) (o : Option (Option ℕ × DeclaredVariable)) → EntryFits o → MeantFits p (meaning_behind s called name o)
    behind_fits true name None k =
        either_meant (method_meaning s name) (global_named name s.names.globals or_else enumerator_meaning s name) (method_fits s.class (λ c. lookup s.classes c name))
        (either_meant (global_named name s.names.globals) (enumerator_meaning s name) (globals_fit name s.names.globals h.names.globals) (enumerated name))
    behind_fits false name None k = either_meant (global_named name s.names.globals) (enumerator_meaning s name) (globals_fit name s.names.globals h.names.globals) (enumerated name)
    behind_fits called name (Some e) k = pick (MeantFits p) (is_external (e.1).sort) (global_named (e.1).name s.names.globals) (Some (a_variable e.0 e.1)) (globals_fit (e.1).name s.names.globals h.names.globals) k

    value_fits : (n : ℕ) (name : List ℕ) (k : ℕ) → value_of s n name ≡ Some k → NumberIs p (type.Enumeration n) (pos k)
    value_fits n name k e = by (slice_get s.names.parts n) refl e
      where
        by : (o : Option TypeParts) → slice_get s.names.parts n ≡ o → first_place name (value_names (parts_in o)) ≡ Some k → NumberIs p (type.Enumeration n) (pos k)
        by None q f = absurd (none≢some f)
        by (Some t) q f = h.names.values n t k q (first_place_within name (value_names t) k f)

    pub scope_fits : ScopeFits p s
    unfolding sought
    scope_fits = record { each = λ called name. behind_fits called name (entry s name) (entry_fits name); values = value_fits }

    pub scope_types : ValuesHaveTypes s
    scope_types = values-have-types s h.tells h.locals_tell
