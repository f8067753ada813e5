-- Values of constant expressions, where their names are told, and of bounds and constants.
use Rattle.std.proofs.Common.{◌≡◌, ℕ, ℤ, Bool, true, false, Option, Some, None, refl, sym, ap, ◌∙◌}
use Rattle.std.specs.Prelude.{if◌then◌else◌, option_map, option_and_then}
use Rattle.st_types.specs.declared.st_type.StType.{StType}
use Rattle.st_tree.specs.Expression.{Expression}
use Rattle.st_tree.specs.Initial.{Initial, Value}
use Rattle.st_tree.specs.Initial as initial
use Rattle.st_rules.specs.declared.asked.Asked.{Asked}
use Rattle.st_rules.specs.declared.asked.Asked.TheVariants.{Anything, Wanted}
use Rattle.st_rules.specs.Expressions.{type_of}
use Rattle.st_rules.specs.Scope.{Scope}
use Rattle.st_unit_rules.specs.declared_names.Constants.{if_none, constant_value, value_faults, told_value, names_are_told}
use Rattle.st_unit_rules.specs.declared_names.WrittenTypes.{is_number_type, bound_value, type_written}
use Rattle.st_unit_rules.specs.declared_names.Variables.{Written, may_be_constant, value_given, constant_of}
use Rattle.type_resolution.specs.written_types.Private.Values.{expression_given}

module _ (s : Scope) where
  -- ---- values

  pub value-untold : (asked : Asked) (e : Expression ℕ) (b : Bool) → b ≡ names_are_told s e → b ≡ false → None ≡ told_value s asked e
  unfolding told_value
  value-untold asked e b h f = sym (ap (λ b. if b then if_none (value_faults s asked e) (constant_value s asked e) else None) (sym h ∙ f))

  pub value-told : (asked : Asked) (e : Expression ℕ) (b : Bool) (r : Option ℤ) → b ≡ names_are_told s e → b ≡ true → r ≡ if_none (value_faults s asked e) (constant_value s asked e) → r ≡ told_value s asked e
  unfolding told_value
  value-told asked e b r h q k = k ∙ sym (ap (λ b. if b then if_none (value_faults s asked e) (constant_value s asked e) else None) (sym h ∙ q))

  -- ---- bounds

  pub bound-untold : (e : Expression ℕ) (b : Bool) → b ≡ names_are_told s e → b ≡ false → None ≡ bound_value s e
  bound-untold e b h f = at (is_number_type (type_of s Anything e))
    where
      at : (c : Bool) → None ≡ (if c then told_value s Anything e else None)
      at true = value-untold Anything e b h f
      at false = refl

  pub bound-told : (e : Expression ℕ) (t : Option StType) (n r : Option ℤ) → t ≡ type_of s Anything e → n ≡ told_value s Anything e → r ≡ (if is_number_type t then n else None) → r ≡ bound_value s e
  bound-told e t n r g h k = k ∙ ap (λ m. if is_number_type t then m else None) h ∙ ap (λ u. if is_number_type u then told_value s Anything e else None) g

  -- ---- constants

  pub no-constant : (t : StType) (i : Option (Initial ℕ)) (b : Bool) → b ≡ may_be_constant t → b ≡ false → None ≡ value_given s t i
  no-constant t None b h f = refl
  no-constant t (Some (Value e)) b h f = sym (ap (λ b. if b then told_value s (Wanted t) e else None) (sym h ∙ f))
  no-constant t (Some (initial.Array l ps)) b h f = refl
  no-constant t (Some (initial.Fields l fs)) b h f = refl

  pub no-expression : (t : StType) (i : Option (Initial ℕ)) → expression_given i ≡ None → None ≡ value_given s t i
  no-expression t None h = refl
  no-expression t (Some (Value e)) h = absurd (cc)
  no-expression t (Some (initial.Array l ps)) h = refl
  no-expression t (Some (initial.Fields l fs)) h = refl

  pub constant-told : (t : StType) (i : Option (Initial ℕ)) (b : Bool) (e : Expression ℕ) (r : Option ℤ) → b ≡ may_be_constant t → b ≡ true → expression_given i ≡ Some e → r ≡ told_value s (Wanted t) e → r ≡ value_given s t i
  constant-told t None b e r h f g k = absurd (cc)
  constant-told t (Some (Value d)) b e r h f g k =
      let same : d ≡ e = cc in
      k ∙ ap (told_value s (Wanted t)) (sym same) ∙ sym (ap (λ b. if b then told_value s (Wanted t) d else None) (sym h ∙ f))
  constant-told t (Some (initial.Array l ps)) b e r h f g k = absurd (cc)
  constant-told t (Some (initial.Fields l fs)) b e r h f g k = absurd (cc)

  given-untold : (i : Option (Initial ℕ)) (o : Option StType) → o ≡ None → option_and_then (λ t. value_given s t i) o ≡ None
  given-untold i o h = ap (option_and_then (λ t. value_given s t i)) h

  given-told : (i : Option (Initial ℕ)) (o : Option StType) (t : StType) → o ≡ Some t → option_and_then (λ t. value_given s t i) o ≡ value_given s t i
  given-told i o t h = ap (option_and_then (λ t. value_given s t i)) h

  pub constant-without-type : (w : Written) (o : Option StType) → o ≡ type_written s w.item.kind → o ≡ None → constant_of s w ≡ None
  constant-without-type w o h f = given-untold (option_map initial.initial_of w.item.initial) (type_written s w.item.kind) (sym h ∙ f)

  pub constant-is : (w : Written) (o : Option StType) (t : StType) (v r : Option ℤ) → o ≡ type_written s w.item.kind → o ≡ Some t → v ≡ value_given s t (option_map initial.initial_of w.item.initial) → v ≡ r → constant_of s w ≡ r
  constant-is w o t v r h f g e = given-told (option_map initial.initial_of w.item.initial) (type_written s w.item.kind) t (sym h ∙ f) ∙ sym g ∙ e
