-- What each arm of the walk finds, from what its calls promise.
use Rattle.std.proofs.Common.{◌≡◌, ℕ, List, [], Option, refl, sym, ap, ◌∙◌, subst}
use Rattle.plc_text.specs.declared.code.Code.{Code}
use Rattle.st_types.specs.declared.st_type.StType.{StType}
use Rattle.st_tree.specs.declared.expression.Expr.{Expr}
use Rattle.st_tree.specs.declared.initial.FieldInit.{FieldInit}
use Rattle.st_tree.specs.declared.initial.Init.{Init}
use Rattle.st_tree.specs.declared.initial.Init.TheVariants as code
use Rattle.st_tree.specs.declared.initial.Part.{Part as CodePart}
use Rattle.st_tree.specs.declared.initial.Part.TheVariants as part
use Rattle.st_tree.specs.declared.program.Note.{Note}
use Rattle.st_tree.specs.Expression.{Expression, expression_of}
use Rattle.st_tree.specs.Initial.{Initial, Value, Array, Fields, Part, One, Repeated, Parts, FieldInits, initial_of, part_of, field_of, parts_of, fields_of, initial_of-Value, initial_of-Array, initial_of-Fields, part_of-One, part_of-Repeated}
use Rattle.st_tree.specs.Number.{number_of}
use Rattle.st_rules.specs.Faults.{least}
use Rattle.st_rules.specs.Literals.{past_64_bits}
use Rattle.st_rules.specs.Expressions.{note}
use Rattle.st_rules.specs.Scope.{Scope}
use Rattle.st_unit_rules.specs.Initials.{Given, list_of_no_fields, element_given, initial_faults, part_faults, given_faults, given_by, given_type, given_target, typed_initial}
use Rattle.check_initial_values.specs.declared.found.CheckedInitial.{CheckedInitial}
use Rattle.check_initial_values.specs.declared.found.CheckedPart.{CheckedPart}
use Rattle.check_initial_values.specs.declared.found.CheckedParts.{CheckedParts}
use Rattle.check_initial_values.specs.declared.found.CheckedField.{CheckedField}
use Rattle.check_initial_values.specs.declared.found.CheckedFields.{CheckedFields}
use Rattle.check_initial_values.specs.Walk.{ChecksInitial}
use Rattle.check_initial_values.specs.declared.fields.NotedName.{NotedName}
use Rattle.check_initial_values.specs.Private.Nodes.{IsArray, IsFields, IsOne, IsRepeated, IsField}
use Rattle.check_initial_values.specs.Private.Found.{ValueChecks, array_faults, PartChecks, PartsFind, FieldChecks, FieldsFind}
use Rattle.check_initial_values.proofs.Parts.{joined}

seen : (c : CheckedInitial) (s : Scope) (t : Option StType) (x : Init ℕ) (y : Initial ℕ) → initial_of x ≡ y → ChecksInitial c s t y → ChecksInitial c s t (initial_of x)
seen c s t x y h f = subst (λ (z : Initial ℕ). ChecksInitial c s t z) (sym h) f

module _ (c : CheckedInitial) (s : Scope) (t : Option StType) (x : Init ℕ) where
  pub value_arm : (e : Expr ℕ) → x ≡ code.Value e → ValueChecks c s t (expression_of e) → ChecksInitial c s t (initial_of x)
  value_arm e h f = seen c s t x (Value (expression_of e)) (ap initial_of h ∙ initial_of-Value e) (record { least = f.least; tree = f.tree })

  pub array_arm : (l : ℕ) (ps us : List (CodePart ℕ)) (own : Option (Code × ℕ)) (element : Option StType) (found : CheckedParts) → x ≡ code.Array l ps → us ≡ ps → own ≡ least (array_faults l t (parts_of us)) → element ≡ element_given t
      → PartsFind found s element (parts_of us) → IsArray c l own found → ChecksInitial c s t (initial_of x)
  array_arm l ps us own element found h q o e f w =
      let g : PartsFind found s (element_given t) (parts_of us) = subst (λ (u : Option StType). PartsFind found s u (parts_of us)) e f in
      seen c s t x (Array l (parts_of us)) (ap initial_of (h ∙ ap (λ (ys : List (CodePart ℕ)). code.Array l ys) (sym q)) ∙ initial_of-Array l us)
      (record {
        least = joined c.least own found.least (array_faults l t (parts_of us)) (part_faults s (element_given t) (parts_of us)) w.least o g.least;
        tree = w.tree ∙ ap (Array l) g.parts;
      })

  pub fields_arm : (l : ℕ) (fs us : List (FieldInit ℕ)) (own : Option (Code × ℕ)) (found : CheckedFields) → x ≡ code.Fields l fs → us ≡ fs → own ≡ least (list_of_no_fields l t)
      → FieldsFind found s t (fields_of us) → IsFields c l own found → ChecksInitial c s t (initial_of x)
  fields_arm l fs us own found h q o f w =
      seen c s t x (Fields l (fields_of us)) (ap initial_of (h ∙ ap (λ (ys : List (FieldInit ℕ)). code.Fields l ys) (sym q)) ∙ initial_of-Fields l us)
      (record {
        least = joined c.least own found.least (list_of_no_fields l t) (given_faults s t [] (fields_of us)) w.least o f.least;
        tree = w.tree ∙ ap (Fields l) f.fields;
      })

part_seen : (c : CheckedPart) (s : Scope) (t : Option StType) (x : CodePart ℕ) (y : Part ℕ) → part_of x ≡ y → PartChecks c s t y → PartChecks c s t (part_of x)
part_seen c s t x y h f = subst (λ (z : Part ℕ). PartChecks c s t z) (sym h) f

module _ (c : CheckedPart) (s : Scope) (t : Option StType) (x : CodePart ℕ) (i : Init ℕ) (found : CheckedInitial) where
  pub one_arm : x ≡ part.One i → ChecksInitial found s t (initial_of i) → IsOne c found → PartChecks c s t (part_of x)
  one_arm h f w = part_seen c s t x (One (initial_of i)) (ap part_of h ∙ part_of-One i) (record { least = w.least ∙ f.least; part = w.part ∙ ap One f.tree })

  pub repeated_arm : (l : ℕ) (digits copy : List ℕ) → x ≡ part.Repeated l digits i → copy ≡ digits → ChecksInitial found s t (initial_of i) → IsRepeated c l copy found → PartChecks c s t (part_of x)
  repeated_arm l digits copy h e f v =
      let w : IsRepeated c l digits found = subst (λ (ds : List ℕ). IsRepeated c l ds found) e v in
      part_seen c s t x (Repeated l digits (initial_of i)) (ap part_of h ∙ part_of-Repeated l digits i)
      (record {
        least = joined c.least (least (past_64_bits l (number_of digits))) found.least (past_64_bits l (number_of digits)) (initial_faults s t (initial_of i)) w.least refl f.least;
        part = w.part ∙ ap (Repeated l digits) f.tree;
      })

pub field_arm : (c : CheckedField) (s : Scope) (t : Option StType) (y : FieldInit ℕ) (g : Given) (of : Option StType) (found : CheckedInitial) (n : NotedName) → g ≡ given_by s t y.name → of ≡ given_type g
    → n.note ≡ note y.note (given_type g) (given_target g) → n.name ≡ y.name → ChecksInitial found s of (initial_of y.value) → IsField c n found → FieldChecks c s t y
field_arm c s t y g of found n h k m e f w =
    let at : of ≡ given_type (given_by s t y.name) = k ∙ ap given_type h in
    let checked : ChecksInitial found s (given_type (given_by s t y.name)) (initial_of y.value) = subst (λ (u : Option StType). ChecksInitial found s u (initial_of y.value)) at f in
    record {
      least = w.least ∙ checked.least;
      field = w.field
          ∙ ap (λ (v : Note). named v n.name (initial_of found.tree)) m
          ∙ ap (λ (ns : List ℕ). named (note y.note (given_type g) (given_target g)) ns (initial_of found.tree)) e
          ∙ ap (λ (u : Given). as_field y (note y.note (given_type u) (given_target u)) (initial_of found.tree)) h
          ∙ ap (as_field y (note y.note (given_type (given_by s t y.name)) (given_target (given_by s t y.name)))) checked.tree;
    }
  where
    named : Note → List ℕ → Initial Note → Note × List ℕ × Initial Note
    named v ns i = (v, ns, i)

    as_field : FieldInit ℕ → Note → Initial Note → Note × List ℕ × Initial Note
    as_field z v i = (v, z.name, i)
