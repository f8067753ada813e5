-- Outputs as they are seen: those of functions and methods are locals, those of bodies variables of the class.
use Rattle.std.proofs.Common.{◌≡◌, ℕ, zero, suc, Bool, true, false, List, [], ◌∷◌, map, reverse, length, Option, Some, None, refl, sym, ap, ◌∙◌, subst}
use Rattle.std.specs.Prelude.{if◌then◌else◌, slice_get}
use Rattle.std.proofs.lemmas.Option.{slice_get-map}
use Rattle.plc_text.specs.Words.{same}
use Rattle.st_tree.specs.declared.declaration.ClassDecl.{ClassDecl}
use Rattle.st_tree.specs.declared.declaration.Method.{Method}
use Rattle.st_tree.specs.declared.declaration.ProgramDecl.{ProgramDecl}
use Rattle.st_tree.specs.declared.declaration.SectionSort.{SectionSort}
use Rattle.st_tree.specs.declared.declaration.SectionSort.TheVariants as sort
use Rattle.st_tree.specs.declared.program.Note.{Note}
use Rattle.st_tree.specs.declared.program.Program.{Program as Checked}
use Rattle.st_rules.specs.Classes.{methods_in, chain}
use Rattle.st_rules.proofs.Booleans.{none≢some, some-same, true≢false}
use Rattle.st_values.specs.Program.{Variable, Parameter, Routine, Class, Program, class_at, chain_of, named, method_of as method_found, own_method, lookup, body_in, body_of}
use Rattle.st_values.specs.View.{is_of_body, variables_in, local_parameters, method_of, function_of, body_parameters, declared_along, classes_from, programs_from, program_of}
use Rattle.st_values.proofs.ShapeLaws.{mapped_some}
use Rattle.st_meaning.specs.st_frame.OutputPlaces.{EachOutput, InLocal, InVariable, OutputsPlaced}
use Rattle.resolution_order.specs.told_laws.ToldLaws.{Every}
use Rattle.accepted_texts.proofs.unfolding_laws.ListLaws.{every_append, every_at}
use Rattle.initial_laws.proofs.Members.{nearest_has}

-- ---- of functions and methods

locals_placed : (n : ℕ) (vs : List Variable) (i : ℕ) (q : Parameter) → slice_get (local_parameters n vs) i ≡ Some q → InLocal q.to
locals_placed n [] i q e = absurd (none≢some e)
locals_placed n (v ∷ vs) zero q e = (n, ap (λ (x : Parameter). x.to) (sym (some-same e)))
locals_placed n (v ∷ vs) (suc i) q e = locals_placed (suc n) vs i q e

method_placed : (c : ℕ) (m : Method Note) → EachOutput InLocal (method_of c m)
method_placed c m i q e h = locals_placed _ _ i q e

methods_placed : (c : ℕ) (ms : List (Method Note)) (name : List ℕ) (r : Routine) → named (map (method_of c) ms) name ≡ Some r → EachOutput InLocal r
methods_placed c [] name r e = absurd (none≢some e)
methods_placed c (m ∷ ms) name r e = by (methods_placed c ms name r) (same m.name.text name) e
  where
    by : (named (map (method_of c) ms) name ≡ Some r → EachOutput InLocal r) → (b : Bool) → (if b then Some (method_of c m) else named (map (method_of c) ms) name) ≡ Some r → EachOutput InLocal r
    by later true f = subst (EachOutput InLocal) (some-same f) (method_placed c m)
    by later false f = later f

-- ---- of bodies

abbrev ArePlaced : List Variable → Type 0
ArePlaced vs = (k l i : ℕ) (q : Parameter) → slice_get (body_parameters k l vs) i ≡ Some q → q.sort ≡ sort.Output → InVariable q.to

-- by the sort of the first variable
placed_next : (x : SectionSort) (v : Variable) (vs : List Variable) → ArePlaced vs → (k l i : ℕ) (q : Parameter) → slice_get (body_parameters k l (record v { sort = x } ∷ vs)) i ≡ Some q → q.sort ≡ sort.Output → InVariable q.to
placed_next sort.Input v vs rest k l zero q e h = (k, ap (λ (y : Parameter). y.to) (sym (some-same e)))
placed_next sort.Input v vs rest k l (suc i) q e h = rest (suc k) l i q e h
placed_next sort.Output v vs rest k l zero q e h = (k, ap (λ (y : Parameter). y.to) (sym (some-same e)))
placed_next sort.Output v vs rest k l (suc i) q e h = rest (suc k) l i q e h
placed_next sort.InOut v vs rest k l zero q e h = absurd (true≢false (ap (λ (y : Parameter). is_of_body y.sort) (some-same e) ∙ ap is_of_body h))
placed_next sort.InOut v vs rest k l (suc i) q e h = rest k (suc l) i q e h
placed_next sort.Temp v vs rest k l i q e h = rest k (suc l) i q e h
placed_next _ v vs rest k l i q e h = rest (suc k) l i q e h

bodies_placed : (vs : List Variable) → ArePlaced vs
bodies_placed [] k l i q e h = absurd (none≢some e)
bodies_placed (v ∷ vs) k l i q e h = placed_next v.sort v vs (bodies_placed vs) k l i q e h

-- ---- of classes and programs

record ClassPlaced (k : Class) : Type 0 where
  methods : (name : List ℕ) (r : Routine) → named k.methods name ≡ Some r → EachOutput InLocal r
  body : EachOutput InVariable k.body

module _ (p : Checked) where
  classes_placed : (n : ℕ) (ds : List (ClassDecl Note)) → Every ClassPlaced (classes_from p.classes p.interfaces n ds)
  classes_placed n [] = tt
  classes_placed n (d ∷ ds) = (
    record { methods = methods_placed n (methods_in d.members); body = bodies_placed (declared_along p.classes (reverse (chain p.classes n))) 0 0 },
    classes_placed (suc n) ds,
  )

  programs_placed : (n : ℕ) (ds : List (ProgramDecl Note)) → Every ClassPlaced (programs_from n ds)
  programs_placed n [] = tt
  programs_placed n (d ∷ ds) = (record { methods = λ name r e. absurd (none≢some e); body = bodies_placed (variables_in d.sections) 0 0 }, programs_placed (suc n) ds)

  abbrev Seen : Program
  Seen = program_of p

  all_placed : Every ClassPlaced Seen.classes
  all_placed = every_append ClassPlaced (classes_from p.classes p.interfaces 0 p.classes) (programs_from (length p.classes) p.programs) (classes_placed 0 p.classes) (programs_placed (length p.classes) p.programs)

  class_placed : (c : ℕ) (k : Class) → class_at Seen c ≡ Some k → ClassPlaced k
  class_placed c k e = every_at ClassPlaced Seen.classes c k all_placed e

  own_placed : (name : List ℕ) (c : ℕ) (r : Routine) → own_method Seen name c ≡ Some r → EachOutput InLocal r
  own_placed name c r e = by (class_at Seen c) refl e
    where
      by : (o : Option Class) → class_at Seen c ≡ o → method_found o name ≡ Some r → EachOutput InLocal r
      by None q f = absurd (none≢some f)
      by (Some k) q f = (class_placed c k q).methods name r f

  found_placed : (c : ℕ) (name : List ℕ) (r : Routine) → lookup Seen c name ≡ Some r → EachOutput InLocal r
  unfolding lookup
  found_placed c name r e = nearest_has (EachOutput InLocal) (own_method Seen name) (own_placed name) (chain_of (class_at Seen c)) r e

  function_placed : (k : ℕ) (r : Routine) → slice_get Seen.functions k ≡ Some r → EachOutput InLocal r
  function_placed k r e =
      let y = mapped_some function_of (slice_get p.functions k) r (sym (slice_get-map function_of p.functions k) ∙ e) in
      subst (EachOutput InLocal) y.2 (λ i q f h. locals_placed _ _ i q f)

  body_placed : (c : ℕ) (r : Routine) → body_of Seen c ≡ Some r → EachOutput InVariable r
  body_placed c r e = by (class_at Seen c) refl e
    where
      by : (o : Option Class) → class_at Seen c ≡ o → body_in o ≡ Some r → EachOutput InVariable r
      by None q f = absurd (none≢some f)
      by (Some k) q f = subst (EachOutput InVariable) (some-same f) (class_placed c k q).body

  pub outputs_placed : OutputsPlaced Seen
  outputs_placed = record { functions = function_placed; methods = found_placed; bodies = body_placed }
