-- The plain tree of an initial value. Its nodes have the names of the code's.
use Rattle.std.specs.Prelude.{◌≡◌, ℕ, List, [], ◌∷◌, map}
use Rattle.std.proofs.Common.{sym, ◌∙◌, ap}
use Rattle.st_tree.specs.declared.expression.Expr.{Expr}
use Rattle.st_tree.specs.Expression.{Expression, expression_of}
use Rattle.st_tree.specs.declared.initial.Init.TheOpen.{Init-F, Part-F, FieldInit-F}
use Rattle.st_tree.specs.declared.initial.Init.TheFolds.{fold-Init, fold-Part, fold-FieldInit, fold-roll-Init, fold-roll-Part, fold_out-FieldInit}
use Rattle.st_tree.specs.declared.initial.Init.{Init}
use Rattle.st_tree.specs.declared.initial.Init.TheVariants as code
use Rattle.st_tree.specs.declared.initial.Part.{Part as CodePart}
use Rattle.st_tree.specs.declared.initial.Part.TheVariants as part
use Rattle.st_tree.specs.declared.initial.FieldInit.{FieldInit}

mutual
  pub data Initial (A : Type 0) : Type 0 where
    Value : Expression A → Initial A
    Array : ℕ → Parts A → Initial A
    Fields : ℕ → FieldInits A → Initial A

  pub data Part (A : Type 0) : Type 0 where
    One : Initial A → Part A
    Repeated : ℕ → List ℕ → Initial A → Part A

  pub data Parts (A : Type 0) : Type 0 where
    no_parts : Parts A
    part_then : Part A → Parts A → Parts A

  pub data FieldInits (A : Type 0) : Type 0 where
    no_fields : FieldInits A
    field_then : A → List ℕ → Initial A → FieldInits A → FieldInits A

-- ---- the plain tree of an initial value of the code

-- lists of one level
abbrev pub parts : {A : Type 0} → List (Part A) → Parts A
parts [] = no_parts
parts (p ∷ ps) = part_then p (parts ps)

abbrev pub fields_then : {A : Type 0} → List (A × List ℕ × Initial A) → FieldInits A
fields_then [] = no_fields
fields_then (f ∷ fs) = field_then f.0 f.1 f.2 (fields_then fs)

-- one level, with the plain trees of its parts in their places
abbrev pub initial_level : {A : Type 0} → Init-F A (Initial A) (Part A) (A × List ℕ × Initial A) → Initial A
initial_level (Init-F.Value e) = Value (expression_of e)
initial_level (Init-F.Array l ps) = Array l (parts ps)
initial_level (Init-F.Fields l fs) = Fields l (fields_then fs)

abbrev pub part_level : {A : Type 0} → Part-F A (Initial A) (Part A) (A × List ℕ × Initial A) → Part A
part_level (Part-F.One i) = One i
part_level (Part-F.Repeated l digits i) = Repeated l digits i

abbrev pub field_level : {A : Type 0} → FieldInit-F A (Initial A) (Part A) (A × List ℕ × Initial A) → A × List ℕ × Initial A
field_level x = (x.note, x.name, x.value)

unfoldable pub initial_of : {A : Type 0} → Init A → Initial A
initial_of {A = A} = fold-Init A (Initial A) (Part A) (A × List ℕ × Initial A) initial_level part_level field_level

unfoldable pub part_of : {A : Type 0} → CodePart A → Part A
part_of {A = A} = fold-Part A (Initial A) (Part A) (A × List ℕ × Initial A) initial_level part_level field_level

unfoldable pub field_of : {A : Type 0} → FieldInit A → A × List ℕ × Initial A
field_of {A = A} = fold-FieldInit A (Initial A) (Part A) (A × List ℕ × Initial A) initial_level part_level field_level

abbrev pub parts_of : {A : Type 0} → List (CodePart A) → Parts A
parts_of ps = parts (map part_of ps)

abbrev pub fields_of : {A : Type 0} → List (FieldInit A) → FieldInits A
fields_of fs = fields_then (map field_of fs)

-- what each variant is
pub initial_of-Value : {A : Type 0} (e : Expr A) → initial_of (code.Value e) ≡ Value (expression_of e)
unfolding initial_of part_of field_of
initial_of-Value {A = A} e = ap (initial_of {A = A}) (sym (code.rolls-Value e)) ∙ fold-roll-Init A _ _ _ initial_level part_level field_level (Init-F.Value e)

pub initial_of-Array : {A : Type 0} (l : ℕ) (ps : List (CodePart A)) → initial_of (code.Array l ps) ≡ Array l (parts_of ps)
unfolding initial_of part_of field_of
initial_of-Array {A = A} l ps = ap (initial_of {A = A}) (sym (code.rolls-Array l ps)) ∙ fold-roll-Init A _ _ _ initial_level part_level field_level (Init-F.Array l ps)

pub initial_of-Fields : {A : Type 0} (l : ℕ) (fs : List (FieldInit A)) → initial_of (code.Fields l fs) ≡ Fields l (fields_of fs)
unfolding initial_of part_of field_of
initial_of-Fields {A = A} l fs = ap (initial_of {A = A}) (sym (code.rolls-Fields l fs)) ∙ fold-roll-Init A _ _ _ initial_level part_level field_level (Init-F.Fields l fs)

pub part_of-One : {A : Type 0} (i : Init A) → part_of (part.One i) ≡ One (initial_of i)
unfolding initial_of part_of field_of
part_of-One {A = A} i = ap (part_of {A = A}) (sym (part.rolls-One i)) ∙ fold-roll-Part A _ _ _ initial_level part_level field_level (Part-F.One i)

pub part_of-Repeated : {A : Type 0} (l : ℕ) (digits : List ℕ) (i : Init A) → part_of (part.Repeated l digits i) ≡ Repeated l digits (initial_of i)
unfolding initial_of part_of field_of
part_of-Repeated {A = A} l digits i = ap (part_of {A = A}) (sym (part.rolls-Repeated l digits i)) ∙ fold-roll-Part A _ _ _ initial_level part_level field_level (Part-F.Repeated l digits i)

pub field_of-is : {A : Type 0} (x : FieldInit A) → field_of x ≡ (x.note, x.name, (initial_of x.value))
unfolding initial_of part_of field_of
field_of-is {A = A} x = fold_out-FieldInit A _ _ _ initial_level part_level field_level x

pub field_of-note : {A : Type 0} (x : FieldInit A) → (field_of x).0 ≡ x.note
field_of-note x = ap (λ p. p.0) (field_of-is x)

pub field_of-name : {A : Type 0} (x : FieldInit A) → (field_of x).1 ≡ x.name
field_of-name x = ap (λ p. p.1) (field_of-is x)

pub field_of-value : {A : Type 0} (x : FieldInit A) → (field_of x).2 ≡ (initial_of x.value)
field_of-value x = ap (λ p. p.2) (field_of-is x)

pub ruleset initial_views = (initial_of-Value, initial_of-Array, initial_of-Fields, part_of-One, part_of-Repeated, field_of-note, field_of-name, field_of-value)
