-- One part of a list, or one value with its name, more.
use Rattle.std.proofs.Common.{◌≡◌, ℕ, ◌+◌, ◌<◌, ◌≤◌, List, [], ◌∷◌, ◌++◌, Option, refl, sym, ap, ◌∙◌, subst, map, take, drop, get_or, length}
use Rattle.plc_text.specs.declared.code.Code.{Code}
use Rattle.st_types.specs.declared.st_type.StType.{StType}
use Rattle.st_tree.specs.declared.initial.FieldInit.{FieldInit}
use Rattle.st_tree.specs.declared.initial.Part.{Part as CodePart}
use Rattle.st_tree.specs.declared.program.Note.{Note}
use Rattle.st_tree.specs.Initial.{Initial, Part, One, Repeated, Parts, no_parts, part_then, FieldInits, no_fields, field_then, initial_of, part_of, field_of, field_of-is, parts, parts_of, fields_then, fields_of}
use Rattle.st_rules.specs.Faults.{Faults, least, earlier}
use Rattle.st_rules.specs.Expressions.{note}
use Rattle.st_rules.specs.Scope.{Scope}
use Rattle.st_rules.proofs.FaultLaws.{earlier-none, least-append}
use Rattle.st_rules.proofs.ListLaws.{drop-at, drop-end, take-at}
use Rattle.st_unit_rules.specs.Initials.{initial_faults, part_faults, given_faults, given_by, given_type, given_target, typed_initial, typed_parts, typed_fields}
use Rattle.check_names.specs.name_spaces.Held.{Holds}
use Rattle.check_initial_values.specs.declared.found.CheckedPart.{CheckedPart}
use Rattle.check_initial_values.specs.declared.found.CheckedParts.{CheckedParts}
use Rattle.check_initial_values.specs.declared.found.CheckedField.{CheckedField}
use Rattle.check_initial_values.specs.declared.found.CheckedFields.{CheckedFields}
use Rattle.check_initial_values.specs.Private.Names.{name_faults}
use Rattle.check_initial_values.specs.Private.Nodes.{NoParts, AddsPart, NoFields, AddsField}
use Rattle.check_initial_values.specs.Private.Found.{faults_of_part, typed_part, PartChecks, PartsFind, FieldChecks, FieldsFind}
use Rattle.check_initial_values.specs.Private.Lists.{PartsLeft, parts_onto, FieldsTo, fields_onto, names_given}
use Rattle.check_initial_values.proofs.Parts.{joined, more_broken}

-- ---- parts

parts_append : (xs ys : List (Part Note)) (rest : Parts Note) → parts_onto (xs ++ ys) rest ≡ parts_onto xs (parts_onto ys rest)
parts_append [] ys rest = refl
parts_append (x ∷ xs) ys rest = ap (part_then x) (parts_append xs ys rest)

parts_nothing : (xs : List (Part Note)) → parts_onto xs no_parts ≡ parts xs
parts_nothing [] = refl
parts_nothing (x ∷ xs) = ap (part_then x) (parts_nothing xs)

module _ (s : Scope) (t : Option StType) where
  faults_then : (p : Part ℕ) (ps : Parts ℕ) → part_faults s t (part_then p ps) ≡ faults_of_part s t p ++ part_faults s t ps
  faults_then (One i) ps = refl
  faults_then (Repeated l digits i) ps = refl

  typed_then : (p : Part ℕ) (ps : Parts ℕ) → typed_parts s t (part_then p ps) ≡ part_then (typed_part s t p) (typed_parts s t ps)
  typed_then (One i) ps = refl
  typed_then (Repeated l digits i) ps = refl

  pub parts_begun : (x : CheckedParts) (all : Parts ℕ) → NoParts x → PartsLeft x s t all all
  parts_begun x all n = record {
    broken = ap (λ r. earlier r (least (part_faults s t all))) n.least;
    tree = ap (λ xs. parts_onto xs (typed_parts s t all)) n.parts;
  }

  pub parts_next : (x before : CheckedParts) (one : CheckedPart) (list : List (CodePart ℕ)) (i : ℕ) (y : CodePart ℕ) (all : Parts ℕ) → i < length list → y ≡ get_or list i y → AddsPart x before one → PartChecks one s t (part_of y) →
      PartsLeft before s t (parts_of (drop i list)) all → PartsLeft x s t (parts_of (drop (i + 1) list)) all
  parts_next x before one list i y all h at a f l =
      let rest = parts_of (drop (i + 1) list) in
      let here : parts_of (drop i list) ≡ part_then (part_of y) rest = ap parts_of (drop-at list i y h at) in
      record {
        broken = more_broken x.least before.least one.least (faults_of_part s t (part_of y)) (part_faults s t rest) (least (part_faults s t all)) a.least f.least
            (ap (λ fs. earlier before.least (least fs)) (sym (ap (part_faults s t) here ∙ faults_then (part_of y) rest)) ∙ l.broken);
        tree =
            ap (λ xs. parts_onto xs (typed_parts s t rest)) (a.parts ∙ ap (λ p. map part_of before.parts ++ p ∷ []) f.part)
            ∙ parts_append (map part_of before.parts) (typed_part s t (part_of y) ∷ []) (typed_parts s t rest)
            ∙ ap (parts_onto (map part_of before.parts)) (sym (ap (typed_parts s t) here ∙ typed_then (part_of y) rest))
            ∙ l.tree;
      }

  pub parts_ended : (x : CheckedParts) (list : List (CodePart ℕ)) (i : ℕ) (all : Parts ℕ) → length list ≤ i → PartsLeft x s t (parts_of (drop i list)) all → PartsFind x s t all
  parts_ended x list i all h l =
      let here : parts_of (drop i list) ≡ no_parts = ap parts_of (drop-end list i h) in
      record {
        least = sym (earlier-none x.least) ∙ sym (ap (λ ps. earlier x.least (least (part_faults s t ps))) here) ∙ l.broken;
        parts = sym (parts_nothing (map part_of x.parts)) ∙ sym (ap (λ ps. parts_onto (map part_of x.parts) (typed_parts s t ps)) here) ∙ l.tree;
      }

-- ---- values with names

fields_append : (xs ys : List (Note × List ℕ × Initial Note)) (rest : FieldInits Note) → fields_onto (xs ++ ys) rest ≡ fields_onto xs (fields_onto ys rest)
fields_append [] ys rest = refl
fields_append (x ∷ xs) ys rest = ap (field_then x.0 x.1 x.2) (fields_append xs ys rest)

fields_nothing : (xs : List (Note × List ℕ × Initial Note)) → fields_onto xs no_fields ≡ fields_then xs
fields_nothing [] = refl
fields_nothing (x ∷ xs) = ap (field_then x.0 x.1 x.2) (fields_nothing xs)

fields_first : (y : FieldInit ℕ) (ys : List (FieldInit ℕ)) → fields_of (y ∷ ys) ≡ field_then y.note y.name (initial_of y.value) (fields_of ys)
fields_first y ys = ap (λ (f : ℕ × List ℕ × Initial ℕ). field_then f.0 f.1 f.2 (fields_of ys)) (field_of-is y)

named_last : (fs : List (FieldInit ℕ)) (y : FieldInit ℕ) → names_given (fs ++ y ∷ []) ≡ names_given fs ++ y.name ∷ []
named_last [] y = refl
named_last (f ∷ fs) y = ap (λ ns. f.name ∷ ns) (named_last fs y)

module _ (s : Scope) (t : Option StType) (list : List (FieldInit ℕ)) where
  pub fields_begun : (x : CheckedFields) (held : List (List ℕ)) → NoFields x → Holds held [] → FieldsTo x held s t list 0
  fields_begun x held n h = record {
    holds = h;
    broken = ap (λ r. earlier r (least (given_faults s t [] (fields_of list)))) n.least;
    tree = ap (λ xs. fields_onto xs (typed_fields s t (fields_of list))) n.fields;
  }

  pub fields_next : (x before : CheckedFields) (held held' : List (List ℕ)) (name : Option (Code × ℕ)) (one : CheckedField) (i : ℕ) (y : FieldInit ℕ) → i < length list → y ≡ get_or list i y
      → ((names : List (List ℕ)) → Holds held names → name ≡ least (name_faults s t y.note names y.name)) → ((names : List (List ℕ)) → Holds held names → Holds held' (names ++ y.name ∷ []))
      → FieldChecks one s t y → AddsField x before name one → FieldsTo before held s t list i → FieldsTo x held' s t list (i + 1)
  fields_next x before held held' name one i y h at found holds f a l =
      let rest = fields_of (drop (i + 1) list) in
      let names = names_given (take i list) in
      let g = given_by s t y.name in
      let own = name_faults s t y.note names y.name in
      let value = initial_faults s (given_type g) (initial_of y.value) in
      let here : fields_of (drop i list) ≡ field_then y.note y.name (initial_of y.value) rest = ap fields_of (drop-at list i y h at) ∙ fields_first y (drop (i + 1) list) in
      let more : names_given (take (i + 1) list) ≡ names ++ y.name ∷ [] = ap names_given (take-at list i y h at) ∙ named_last (take i list) y in
      record {
        holds = subst (λ (ns : List (List ℕ)). Holds held' ns) (sym more) (holds names l.holds);
        broken =
            ap (λ ns. earlier x.least (least (given_faults s t ns rest))) more
            ∙ more_broken x.least before.least (earlier name one.least) (own ++ value) (given_faults s t (names ++ y.name ∷ []) rest) (least (given_faults s t [] (fields_of list))) a.least
            (joined (earlier name one.least) name one.least own value refl (found names l.holds) f.least)
            (sym (ap (λ fs. earlier before.least (least (given_faults s t names fs))) here) ∙ l.broken);
        tree =
            ap (λ xs. fields_onto xs (typed_fields s t rest)) (a.fields ∙ ap (λ p. map field_of before.fields ++ p ∷ []) f.field)
            ∙ fields_append (map field_of before.fields) (((note y.note (given_type g) (given_target g)), y.name, (typed_initial s (given_type g) (initial_of y.value))) ∷ []) (typed_fields s t rest)
            ∙ sym (ap (λ fs. fields_onto (map field_of before.fields) (typed_fields s t fs)) here)
            ∙ l.tree;
      }

  pub fields_ended : (x : CheckedFields) (held : List (List ℕ)) (i : ℕ) → length list ≤ i → FieldsTo x held s t list i → FieldsFind x s t (fields_of list)
  fields_ended x held i h l =
      let here : fields_of (drop i list) ≡ no_fields = ap fields_of (drop-end list i h) in
      record {
        least = sym (earlier-none x.least) ∙ sym (ap (λ fs. earlier x.least (least (given_faults s t (names_given (take i list)) fs))) here) ∙ l.broken;
        fields = sym (fields_nothing (map field_of x.fields)) ∙ sym (ap (λ fs. fields_onto (map field_of x.fields) (typed_fields s t fs)) here) ∙ l.tree;
      }
