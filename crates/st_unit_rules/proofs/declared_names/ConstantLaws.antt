-- What is told of constants, and the names of locals at each step.
use Rattle.std.proofs.Common.{◌≡◌, ℕ, zero, suc, ℤ, Bool, true, false, List, [], ◌∷◌, ◌++◌, map, Option, Some, None, refl, ap, ◌∙◌}
use Rattle.std.specs.Prelude.{if◌then◌else◌}
use Rattle.st_types.specs.declared.elem.Elem.{Elem}
use Rattle.st_tree.specs.declared.declaration.Section.{Section}
use Rattle.st_tree.specs.declared.expression.Operator.TheVariants as operator
use Rattle.st_tree.specs.declared.program.Target.{Target}
use Rattle.st_tree.specs.declared.type_spec.TypeSpec.{TypeSpec}
use Rattle.st_tree.specs.Expression.{Expression}
use Rattle.st_rules.specs.declared.asked.Asked.{Asked}
use Rattle.st_rules.specs.declared.names.DeclaredVariable.{DeclaredVariable}
use Rattle.st_rules.specs.Faults.{Faults}
use Rattle.st_rules.specs.Signatures.{is_parameter_sort}
use Rattle.st_rules.specs.Scope.{Scope, is_instance_sort, is_body_sort}
use Rattle.st_unit_rules.specs.declared_names.Constants.{Outcome, comes_to, divides_by_zero, cannot_be_told, operated, is_zero, constant_value, value_faults, if_none, names_are_told, told_value}
use Rattle.st_unit_rules.specs.declared_names.ConstantLaws.{result_name, ConstantLaws}
use Rattle.st_unit_rules.specs.declared_names.Variables.{Written, sections_written, declared_each, local_targets, routine_locals}
use Rattle.st_unit_rules.specs.declared_names.UnitNames.{forgotten, told_locals}

if_none_is : (fs : Faults) (x : Outcome) (z : ℤ) → if_none fs x ≡ Some z → (fs ≡ []) × (x ≡ comes_to z)
if_none_is [] (comes_to a) z h = let e : a ≡ z = cc in (refl, ap comes_to e)
if_none_is [] (divides_by_zero l) z h = cc
if_none_is [] cannot_be_told z h = cc
if_none_is (f ∷ fs) x z h = cc

if_told_is : (b : Bool) (fs : Faults) (x : Outcome) (z : ℤ) → (if b then if_none fs x else None) ≡ Some z → (b ≡ true) × (fs ≡ []) × (x ≡ comes_to z)
if_told_is true fs x z h = let q = if_none_is fs x z h in (refl, q.0, q.1)
if_told_is false fs x z h = cc

told : (s : Scope) (asked : Asked) (e : Expression ℕ) (z : ℤ) → told_value s asked e ≡ Some z → (names_are_told s e ≡ true) × (value_faults s asked e ≡ []) × (constant_value s asked e ≡ comes_to z)
unfolding told_value
told s asked e z h = if_told_is (names_are_told s e) (value_faults s asked e) (constant_value s asked e) z h

and_skips : (e : Elem) (line : ℕ) (a : ℤ) (x : Outcome) → is_zero a ≡ true → operated operator.AndThen e line (comes_to a) x ≡ comes_to a
and_skips e line a x h = ap (λ b. if b then comes_to a else x) h

or_skips : (e : Elem) (line : ℕ) (a : ℤ) (x : Outcome) → is_zero a ≡ false → operated operator.OrElse e line (comes_to a) x ≡ comes_to a
or_skips e line a x h = ap (λ b. if b then x else comes_to a) h

-- ---- names of locals

module _ (s : Scope) where
  abbrev Names : List Target → List Written → Type 0
  Names ts ws = map (λ v. v.name) (declared_each s ts ws) ≡ map (λ w. w.name.text) ws

  one_of : (b c d e : Bool) (t u v x y : Target) (ts us vs xs ys : List Target) (w : Written) (ws : List Written) → Names ts ws → Names us ws → Names vs ws → Names xs ws → Names ys ws
      → Names (if b then t ∷ ts else if c then u ∷ us else if d then v ∷ vs else if e then x ∷ xs else y ∷ ys) (w ∷ ws)
  one_of true c d e t u v x y ts us vs xs ys w ws h i j k l = ap (λ ns. w.name.text ∷ ns) h
  one_of false true d e t u v x y ts us vs xs ys w ws h i j k l = ap (λ ns. w.name.text ∷ ns) i
  one_of false false true e t u v x y ts us vs xs ys w ws h i j k l = ap (λ ns. w.name.text ∷ ns) j
  one_of false false false true t u v x y ts us vs xs ys w ws h i j k l = ap (λ ns. w.name.text ∷ ns) k
  one_of false false false false t u v x y ts us vs xs ys w ws h i j k l = ap (λ ns. w.name.text ∷ ns) l

  local_names : (p q : ℕ) (ws : List Written) → Names (local_targets s p q ws) ws
  local_names p q [] = refl
  local_names p q (w ∷ ws) =
      one_of w.constant (is_parameter_sort w.sort) (is_instance_sort w.sort) (is_body_sort w.sort) _ _ _ _ _ _ _ _ _ _ w ws
      (local_names p q ws) (local_names (suc p) q ws) (local_names p (suc q) ws) (local_names p (suc q) ws) (local_names p q ws)

  routine_names : (name : List ℕ) (result : Option (TypeSpec ℕ)) (sections : List (Section ℕ)) → map (λ v. v.name) (routine_locals s name result sections) ≡ result_name name result ++ map (λ w. w.name.text) (sections_written sections)
  unfolding routine_locals
  routine_names name None sections = local_names _ _ (sections_written sections)
  routine_names name (Some t) sections = ap (λ ns. name ∷ ns) (local_names _ _ (sections_written sections))

forgotten_names : (vs : List DeclaredVariable) → map (λ v. v.name) (map forgotten vs) ≡ map (λ v. v.name) vs
forgotten_names [] = refl
forgotten_names (v ∷ vs) = ap (λ ns. v.name ∷ ns) (forgotten_names vs)

names_stay : (s : Scope) (name : List ℕ) (result : Option (TypeSpec ℕ)) (sections : List (Section ℕ)) (k : ℕ)
    → map (λ v. v.name) (told_locals s (λ t. routine_locals t name result sections) k) ≡ result_name name result ++ map (λ w. w.name.text) (sections_written sections)
names_stay s name result sections zero = forgotten_names (routine_locals s name result sections) ∙ routine_names s name result sections
names_stay s name result sections (suc k) = routine_names (record s { locals = told_locals s (λ t. routine_locals t name result sections) k }) name result sections

pub constant_laws : ConstantLaws
constant_laws = record { told = told; and_skips = and_skips; or_skips = or_skips; names_stay = names_stay }
