-- Where the constants that a scope sees are told, each name means what is told.
use Rattle.std.proofs.Common.{◌≡◌, ℕ, Bool, true, false, List, [], ◌∷◌, Option, Some, None, refl, ap, ◌∙◌}
use Rattle.std.specs.Prelude.{if◌then◌else◌, filter, option_map}
use Rattle.std.proofs.lemmas.Bool.{eq-eqb}
use Rattle.std.specs.Prelude.{nat_eq}
use Rattle.st_tree.specs.declared.program.Target.TheVariants as target
use Rattle.st_rules.specs.declared.names.DeclaredVariable.{DeclaredVariable}
use Rattle.st_rules.specs.Chains.{is_among, ◌or_else◌, nearest}
use Rattle.st_rules.specs.Classes.{chain}
use Rattle.st_rules.specs.Scope.{Scope, Meant, a_variable, sought, variable_named, variables_of, is_external, is_inherited, of_class, base_entry, class_entry, local_entry, entry, global_named, enumerator_meaning, only_enumerator, meaning_behind}
use Rattle.st_rules.specs.Expressions.{value_target}
use Rattle.st_rules.proofs.Booleans.{or-first, or-second}
use Rattle.st_unit_rules.specs.declared_names.Constants.{is_told, is_constant_meaning}
use Rattle.accepted_texts.specs.told_units.Told.{HasValue, IsToldName}

module _ (s : Scope) (globals : (name : List ℕ) → is_constant_meaning s (global_named name s.names.globals) ≡ true → is_told (value_target (global_named name s.names.globals)) ≡ true) where
  abbrev IsToldMeaning : Option Meant → Type 0
  IsToldMeaning m = is_constant_meaning s m ≡ true → is_told (value_target m) ≡ true

  abbrev HasEntry : Option (Option ℕ × DeclaredVariable) → Type 0
  HasEntry None = Unit {0}
  HasEntry (Some e) = HasValue e.1

  variable-told : (c : Option ℕ) (v : DeclaredVariable) → HasValue v → IsToldMeaning (Some (a_variable c v))
  variable-told c v h m = ap (λ b. is_told (if b then v.target else target.Nothing)) m ∙ h m

  picked : (b : Bool) (x y : Option Meant) → IsToldMeaning x → IsToldMeaning y → IsToldMeaning (if b then x else y)
  picked true x y h k = h
  picked false x y h k = k

  enumerated : (xs : List (ℕ × ℕ)) → IsToldMeaning (only_enumerator xs)
  enumerated [] h = absurd (cc)
  enumerated (x ∷ []) h = refl
  enumerated (x ∷ (y ∷ xs)) h = absurd (cc)

  either-told : (a b : Option Meant) → IsToldMeaning a → IsToldMeaning b → IsToldMeaning (a or_else b)
  either-told None b h k = k
  either-told (Some m) b h k = h

  behind : (name : List ℕ) (o : Option (Option ℕ × DeclaredVariable)) → HasEntry o → IsToldMeaning (meaning_behind s false name o)
  behind name None h = either-told (global_named name s.names.globals) (enumerator_meaning s name) (globals name) (enumerated _)
  behind name (Some e) h = picked (is_external (e.1).sort) (global_named (e.1).name s.names.globals) (Some (a_variable e.0 e.1)) (globals (e.1).name) (variable-told e.0 e.1 h)

  either-has : (a b : Option (Option ℕ × DeclaredVariable)) → HasEntry a → HasEntry b → HasEntry (a or_else b)
  either-has None b h k = k
  either-has (Some e) b h k = h

  local-has : (o : Option DeclaredVariable) → ((v : DeclaredVariable) → o ≡ Some v → HasValue v) → HasEntry (option_map (λ v. (None, v)) o)
  local-has None h = tt
  local-has (Some v) h = h v refl

  class-has : (c : ℕ) (o : Option DeclaredVariable) → ((v : DeclaredVariable) → o ≡ Some v → HasValue v) → HasEntry (of_class s c o)
  class-has c None h = tt
  class-has c (Some v) h = h v refl

  nearest-has : (has : ℕ → Option (Option ℕ × DeclaredVariable)) (cs : List ℕ) → ((d : ℕ) → is_among d cs ≡ true → HasEntry (has d)) → HasEntry (nearest has cs)
  nearest-has has [] h = tt
  nearest-has has (c ∷ cs) h = either-has (has c) (nearest has cs) (h c (or-first (nat_eq c c) (is_among c cs) (eq-eqb c c refl))) (nearest-has has cs (λ d m. h d (or-second (nat_eq d c) (is_among d cs) m)))

  -- what classes have that the scope sees
  pub record ClassesHave (o : Option ℕ) (name : List ℕ) : Type 0 where
    pub own : (c : ℕ) → o ≡ Some c → (v : DeclaredVariable) → variable_named name (variables_of s c) ≡ Some v → HasValue v
    pub bases : (c : ℕ) → o ≡ Some c → (d : ℕ) → is_among d (chain s.classes c) ≡ true → variable_named name (variables_of s c) ≡ None → (v : DeclaredVariable) → variable_named name (filter is_inherited (variables_of s d)) ≡ Some v → HasValue v

  class-entry-has : (name : List ℕ) (o : Option ℕ) → ClassesHave o name → HasEntry (class_entry s name o)
  class-entry-has name None h = tt
  class-entry-has name (Some c) h = by (variable_named name (variables_of s c)) refl
    where
      by : (o : Option DeclaredVariable) → variable_named name (variables_of s c) ≡ o → HasEntry (of_class s c o or_else nearest (base_entry s name) (chain s.classes c))
      by None e = nearest-has (base_entry s name) (chain s.classes c) (λ d m. class-has d (variable_named name (filter is_inherited (variables_of s d))) (h.bases c refl d m e))
      by (Some v) e = h.own c refl v e

  -- a name, where the locals and the constants of classes that it may mean are told
  pub name-means : (name : List ℕ) → ((v : DeclaredVariable) → variable_named name s.locals ≡ Some v → HasValue v) → ClassesHave s.class name → IsToldName s name
  unfolding sought
  name-means name h k =
      behind name (entry s name) (either-has (local_entry s name) (class_entry s name s.class) (local-has (variable_named name s.locals) h) (class-entry-has name s.class k))
