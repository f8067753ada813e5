-- What a name is sought to mean is among all names and the locals.
use Rattle.std.proofs.Common.{ℕ, zero, suc, Bool, true, false, List, [], ◌∷◌, Option, Some, None}
use Rattle.std.specs.Prelude.{filter, slice_get, if◌then◌else◌, option_map}
use Rattle.st_rules.specs.declared.names.DeclaredClass.{DeclaredClass}
use Rattle.st_rules.specs.declared.names.DeclaredGlobal.{DeclaredGlobal}
use Rattle.st_rules.specs.declared.names.DeclaredGlobal.TheVariants as global
use Rattle.st_rules.specs.declared.names.DeclaredVariable.{DeclaredVariable}
use Rattle.st_rules.specs.Chains.{◌or_else◌, nearest}
use Rattle.st_rules.specs.Classes.{chain}
use Rattle.plc_text.specs.Words.{same}
use Rattle.st_rules.specs.Scope.{Scope, Meant, a_variable, variable_named, first_named, global_name, global_meaning, global_named, variables_of, is_external, is_inherited, meant_by, of_class, own_entry, base_entry, class_entry, local_entry, entry, enumerator_meaning, only_enumerator, meaning_behind, sought}
use Rattle.resolution_order.specs.told_laws.ToldLaws.{Every, TellsKind, TellsGlobalKind, TellsKinds}
use Rattle.accepted_texts.proofs.told_units.TypeLaws.{HasItsType, ValuesHaveTypes}

pick : {X : Type 0} (P : X → Type 0) (b : Bool) (x y : X) → P x → P y → P (if b then x else y)
pick P true x y p q = p
pick P false x y p q = q

-- ---- variables

abbrev TellsIn : Option DeclaredVariable → Type 0
TellsIn None = Unit {0}
TellsIn (Some v) = TellsKind v

named : (name : List ℕ) (vs : List DeclaredVariable) → Every TellsKind vs → TellsIn (variable_named name vs)
named name [] h = tt
named name (v ∷ vs) h = pick TellsIn (same v.name name) (Some v) (variable_named name vs) h.0 (named name vs h.1)

filtered : (p : DeclaredVariable → Bool) (vs : List DeclaredVariable) → Every TellsKind vs → Every TellsKind (filter p vs)
filtered p [] h = tt
filtered p (v ∷ vs) h = pick (Every TellsKind) (p v) (v ∷ filter p vs) (filter p vs) (h.0, filtered p vs h.1) (filtered p vs h.1)

abbrev variables_in : Option DeclaredClass → List DeclaredVariable
variables_in None = []
variables_in (Some class) = class.variables

of-class-tells : (classes : List DeclaredClass) (c : ℕ) → Every (λ d. Every TellsKind d.variables) classes → Every TellsKind (variables_in (slice_get classes c))
of-class-tells [] c h = tt
of-class-tells (d ∷ classes) zero h = h.0
of-class-tells (d ∷ classes) (suc c) h = of-class-tells classes c h.1

-- ---- entries

abbrev TellsEntry : Option (Option ℕ × DeclaredVariable) → Type 0
TellsEntry None = Unit {0}
TellsEntry (Some e) = TellsKind e.1

either-tells : (a b : Option (Option ℕ × DeclaredVariable)) → TellsEntry a → TellsEntry b → TellsEntry (a or_else b)
either-tells None b h k = k
either-tells (Some e) b h k = h

nearest-tells : (has : ℕ → Option (Option ℕ × DeclaredVariable)) → ((c : ℕ) → TellsEntry (has c)) → (cs : List ℕ) → TellsEntry (nearest has cs)
nearest-tells has h [] = tt
nearest-tells has h (c ∷ cs) = either-tells (has c) (nearest has cs) (h c) (nearest-tells has h cs)

local-tells : (o : Option DeclaredVariable) → TellsIn o → TellsEntry (option_map (λ v. (None, v)) o)
local-tells None h = tt
local-tells (Some v) h = h

-- ---- meanings

globals-tell : (name : List ℕ) (gs : List DeclaredGlobal) → Every TellsGlobalKind gs → HasItsType (global_named name gs)
globals-tell name [] h = tt
globals-tell name (global.Variable v ∷ gs) h = pick (λ o. HasItsType (option_map global_meaning o)) (same v.name name) (Some (global.Variable v)) (first_named global_name name gs) h.0 (globals-tell name gs h.1)
globals-tell name (global.Function k r ∷ gs) h = pick (λ o. HasItsType (option_map global_meaning o)) (same r.name name) (Some (global.Function k r)) (first_named global_name name gs) tt (globals-tell name gs h.1)

either-has : (a b : Option Meant) → HasItsType a → HasItsType b → HasItsType (a or_else b)
either-has None b h k = k
either-has (Some m) b h k = h

only-has : (xs : List (ℕ × ℕ)) → HasItsType (only_enumerator xs)
only-has [] = tt
only-has (x ∷ []) = tt
only-has (x ∷ (y ∷ xs)) = tt

module _ (s : Scope) (k : TellsKinds s.names) (l : Every TellsKind s.locals) where
  class-tells : (c : ℕ) → Every TellsKind (variables_of s c)
  class-tells c = of-class-tells s.names.classes c k.classes

  of-tells : (c : ℕ) (o : Option DeclaredVariable) → TellsIn o → TellsEntry (of_class s c o)
  of-tells c None h = tt
  of-tells c (Some v) h = h

  own-tells : (name : List ℕ) (c : ℕ) → TellsEntry (own_entry s name c)
  own-tells name c = of-tells c (variable_named name (variables_of s c)) (named name (variables_of s c) (class-tells c))

  base-tells : (name : List ℕ) (c : ℕ) → TellsEntry (base_entry s name c)
  base-tells name c = of-tells c (variable_named name (filter is_inherited (variables_of s c))) (named name (filter is_inherited (variables_of s c)) (filtered is_inherited (variables_of s c) (class-tells c)))

  class-entry-tells : (name : List ℕ) (o : Option ℕ) → TellsEntry (class_entry s name o)
  class-entry-tells name None = tt
  class-entry-tells name (Some c) = either-tells (own_entry s name c) (nearest (base_entry s name) (chain s.classes c)) (own-tells name c) (nearest-tells (base_entry s name) (base-tells name) (chain s.classes c))

  entry-tells : (name : List ℕ) → TellsEntry (entry s name)
  entry-tells name = either-tells (local_entry s name) (class_entry s name s.class) (local-tells (variable_named name s.locals) (named name s.locals l)) (class-entry-tells name s.class)

  meant-has : (class : Option ℕ) (v : DeclaredVariable) → TellsKind v → HasItsType (meant_by s class v)
  meant-has class v h = pick HasItsType (is_external v.sort) (global_named v.name s.names.globals) (Some (a_variable class v)) (globals-tell v.name s.names.globals k.globals) h

  behind-has : (name : List ℕ) (o : Option (Option ℕ × DeclaredVariable)) → TellsEntry o → HasItsType (meaning_behind s false name o)
  behind-has name None h = either-has (global_named name s.names.globals) (enumerator_meaning s name) (globals-tell name s.names.globals k.globals) (only-has _)
  behind-has name (Some e) h = meant-has e.0 e.1 h

  -- in a scope of which names and locals tell the value of a constant only with its type, the value of a name is told only with its type
  pub values-have-types : ValuesHaveTypes s
  unfolding sought
  values-have-types = record { each = λ name. behind-has name (entry s name) (entry-tells name) }
