-- No type that a unit tells has an empty array.
use Rattle.std.proofs.Common.{◌≡◌, ℕ, zero, suc, ◌+◌, ℤ, Bool, true, false, List, [], ◌∷◌, map, length, Option, Some, None, refl, sym, subst}
use Rattle.std.specs.Prelude.{int_le, nat_lt, if◌then◌else◌, option_and_then}
use Rattle.plc_text.specs.Words.{same}
use Rattle.st_types.specs.declared.st_type.StType.{StType, out-StType}
use Rattle.st_types.specs.declared.st_type.StType.TheVariants as type
use Rattle.st_types.specs.declared.st_type.StType.TheOpen.{StType-F}
use Rattle.st_tree.specs.declared.declaration.TypeBody.{TypeBody}
use Rattle.st_tree.specs.declared.declaration.TypeBody.TheVariants as body
use Rattle.st_tree.specs.declared.declaration.TypeDecl.{TypeDecl}
use Rattle.st_tree.specs.declared.type_spec.Bounds.{Bounds}
use Rattle.st_tree.specs.declared.type_spec.SimpleSpec.{SimpleSpec}
use Rattle.st_tree.specs.declared.type_spec.SimpleSpec.TheVariants as simple
use Rattle.st_tree.specs.declared.type_spec.TypeSpec.{TypeSpec}
use Rattle.st_tree.specs.declared.unit.Decl.{Decl}
use Rattle.st_tree.specs.declared.unit.Decl.TheVariants as declaration
use Rattle.st_tree.specs.Expression.{expression_of}
use Rattle.st_rules.specs.declared.names.DeclaredNames.{DeclaredNames}
use Rattle.st_rules.specs.declared.names.DeclaredType.{DeclaredType}
use Rattle.st_rules.specs.Expressions.{reference_to}
use Rattle.st_rules.specs.Scope.{Scope, type_named}
use Rattle.st_unit_rules.specs.declared_names.UnitNames.{forgotten_type, unit_scope, entry_kind, entries_declared, types_declared, names_from, no_names, names_told, steps_needed, unit_names}
use Rattle.st_unit_rules.specs.declared_names.WrittenTypes.{array_depth, dimensions_told, array_of, dimensions, named_type, bound_value, element_written, arrays_of, type_written}
use Rattle.resolution_order.specs.told_laws.ToldLaws.{Every}
use Rattle.accepted_texts.proofs.unfolding_laws.ListLaws.{every_append}

abbrev pub SpansBy : (StType → Type 0) → StType-F StType → Type 0
SpansBy f (StType-F.Array low high of) = (int_le low high ≡ true) × f of
SpansBy f _ = Unit {0}

-- within so many arrays
abbrev pub SpansWithin : ℕ → StType → Type 0
SpansWithin zero t = Unit {0}
SpansWithin (suc n) t = SpansBy (SpansWithin n) (out-StType t)

pub record Spans (t : StType) : Type 0 where
  pub within : (n : ℕ) → SpansWithin n t

abbrev pub ToldSpans : Option StType → Type 0
ToldSpans None = Unit {0}
ToldSpans (Some t) = Spans t

abbrev pub TypesSpan : List DeclaredType → Type 0
TypesSpan ts = Every (λ (d : DeclaredType). ToldSpans d.kind) ts

pub opened : (t : StType) (o : StType-F StType) (n : ℕ) → out-StType t ≡ o → Spans t → SpansBy (SpansWithin n) o
opened t o n e h = subst (SpansBy (SpansWithin n)) e (h.within (suc n))

pub element_spans : (t of : StType) (low high : ℤ) → out-StType t ≡ StType-F.Array low high of → Spans t → (int_le low high ≡ true) × Spans of
element_spans t of low high e h = ((opened t (StType-F.Array low high of) zero e h).0, record { within = λ n. (opened t (StType-F.Array low high of) n e h).1 })

plain : (t : StType) (o : StType-F StType) → out-StType t ≡ o → ((f : StType → Type 0) → SpansBy f o) → Spans t
plain t o e h = record { within = by }
  where
    by : (n : ℕ) → SpansWithin n t
    by zero = tt
    by (suc n) = subst (SpansBy (SpansWithin n)) (sym e) (h (SpansWithin n))

array_spans : (low high : ℤ) (t : StType) → int_le low high ≡ true → Spans t → Spans (type.Array low high t)
array_spans low high t q h = record { within = by }
  where
    by : (n : ℕ) → SpansWithin n (type.Array low high t)
    by zero = tt
    by (suc n) = subst (SpansBy (SpansWithin n)) (sym (type.outs-Array low high t)) (q, h.within n)

-- ---- types as they are written

named_spans : (name : List ℕ) (ts : List DeclaredType) → TypesSpan ts → ToldSpans (option_and_then (λ (d : DeclaredType). d.kind) (type_named name ts))
named_spans name [] h = tt
named_spans name (t ∷ ts) h = by (named_spans name ts h.1) (same t.name name)
  where
    by : ToldSpans (option_and_then (λ (d : DeclaredType). d.kind) (type_named name ts)) → (b : Bool) → ToldSpans (option_and_then (λ (d : DeclaredType). d.kind) (if b then Some t else type_named name ts))
    by k true = h.0
    by k false = k

reference_spans : (o : Option StType) → ToldSpans (option_and_then reference_to o)
reference_spans None = tt
reference_spans (Some (type.Instance c)) = plain (type.Reference c) (StType-F.Reference c) (type.outs-Reference c) (λ f. tt)
reference_spans (Some _) = tt

told_array : (low high : Option ℤ) (o : Option StType) → ToldSpans o → ToldSpans (array_of low high o)
told_array (Some low) (Some high) (Some t) h = by (int_le low high) (nat_lt (array_depth t) dimensions_told) refl
  where
    by : (a b : Bool) → int_le low high ≡ a → ToldSpans (if a then Some (if b then type.Array low high t else t) else None)
    by true true q = array_spans low high t q h
    by true false q = h
    by false b q = tt
told_array (Some low) (Some high) None h = tt
told_array (Some low) None o h = tt
told_array None high o h = tt

arrays_span : (s : Scope) (bs : List (Bounds ℕ)) (o : Option StType) → ToldSpans o → ToldSpans (arrays_of s bs o)
arrays_span s [] o h = h
arrays_span s (b ∷ bs) o h = told_array (bound_value s (expression_of b.low)) (bound_value s (expression_of b.high)) (arrays_of s bs o) (arrays_span s bs o h)

simple_spans : (s : Scope) (x : SimpleSpec ℕ) → TypesSpan s.names.types → ToldSpans (element_written s x)
simple_spans s (simple.Elementary l e) h = plain (type.Elementary e) (StType-F.Elementary e) (type.outs-Elementary e) (λ f. tt)
simple_spans s (simple.Named l name) h = named_spans name s.names.types h
simple_spans s (simple.Reference l k name) h = reference_spans (named_type s name)

pub written_spans : (s : Scope) (t : TypeSpec ℕ) → TypesSpan s.names.types → ToldSpans (type_written s t)
unfolding type_written
written_spans s t h = arrays_span s (dimensions t) (element_written s t.element) (simple_spans s t.element h)

-- ---- the types of a unit

module _ (decls : List (Decl ℕ)) where
  module _ (a : DeclaredNames) (h : TypesSpan a.types) where
    entry_spans : (n : ℕ) (b : TypeBody ℕ) → ToldSpans (entry_kind decls a n b)
    entry_spans n (body.Alias u) = written_spans (unit_scope decls a) u h
    entry_spans n (body.Enumeration ns) = plain (type.Enumeration n) (StType-F.Enumeration n) (type.outs-Enumeration n) (λ f. tt)
    entry_spans n (body.Structure gs) = plain (type.Structure n) (StType-F.Structure n) (type.outs-Structure n) (λ f. tt)

    entries_span : (n : ℕ) (ts : List (TypeDecl ℕ)) → TypesSpan (entries_declared decls a n ts)
    entries_span n [] = tt
    entries_span n (t ∷ ts) = (entry_spans n t.body, entries_span (suc n) ts)

    types_span : (n c i : ℕ) (ds : List (Decl ℕ)) → TypesSpan (types_declared decls a n c i ds)
    types_span n c i [] = tt
    types_span n c i (declaration.Types l ts ∷ ds) = every_append (λ (d : DeclaredType). ToldSpans d.kind) (entries_declared decls a n ts) (types_declared decls a (n + length ts) c i ds) (entries_span n ts) (types_span (n + length ts) c i ds)
    types_span n c i (declaration.Class d ∷ ds) = (plain (type.Instance c) (StType-F.Instance c) (type.outs-Instance c) (λ f. tt), types_span n (suc c) i ds)
    types_span n c i (declaration.Interface d ∷ ds) = (plain (type.Interface i) (StType-F.Interface i) (type.outs-Interface i) (λ f. tt), types_span n c (suc i) ds)
    types_span n c i (declaration.Globals s ∷ ds) = types_span n c i ds
    types_span n c i (declaration.Function f ∷ ds) = types_span n c i ds
    types_span n c i (declaration.Program q ∷ ds) = types_span n c i ds
    types_span n c i (declaration.Configuration q ∷ ds) = types_span n c i ds

  forgotten_span : (ts : List DeclaredType) → TypesSpan (map forgotten_type ts)
  forgotten_span [] = tt
  forgotten_span (t ∷ ts) = (tt, forgotten_span ts)

  told_span : (k : ℕ) → TypesSpan (names_told decls k).types
  unfolding names_from
  told_span zero = forgotten_span (names_from decls (no_names decls)).types
  told_span (suc k) = types_span (names_told decls k) (told_span k) 0 0 0 decls

  pub unit_spans : TypesSpan (unit_names decls).types
  unfolding unit_names
  unit_spans = told_span (suc (suc (steps_needed decls)))
