-- The initial values of a program that keeps its promise are in range.
use Rattle.std.proofs.Common.{◌≡◌, ◌≤◌, ◌<◌, ℕ, zero, suc, ◌+◌, ℤ, pos, List, [], ◌∷◌, length, Option, Some, None, refl, sym, ap, ◌∙◌, subst, arith}
use Rattle.std.specs.Prelude.{slice_get, ◌≤ℤ◌}
use Rattle.std.proofs.lemmas.Int.{ints}
use Rattle.st_types.specs.declared.elem.Elem.TheVariants.{Udint, Ulint}
use Rattle.st_types.specs.Range.{Fits}
use Rattle.st_tree.specs.declared.program.Note.{Note}
use Rattle.st_tree.specs.Initial.{Initial, FieldInits}
use Rattle.st_rules.specs.Chains.{◌or_else◌}
use Rattle.st_values.specs.Program.{Variable, Region, Program}
use Rattle.st_values.specs.Value.{◌>>=◌}
use Rattle.st_values.specs.Shape.{Shape, Elementary, Enumeration, Reference, Interface, Array, Structure, Instance, Fields, no_fields, field_then, shape_of, region_shape}
use Rattle.st_values.specs.Initial.{number_given, list_given, fields_given, given_for}
use Rattle.st_meaning.specs.st_frame.Promise.Declarations.{Each, StartsRight, StartRight, VariableFits}
use Rattle.st_meaning.specs.st_frame.Promise.Programs.{ProgramIs}
use Rattle.mem_layout.specs.store_bytes.InitialLaws.{EachGiven, IsInRange, AreInRange, StartsInRange}
use Rattle.mem_layout.specs.loaded_meaning.Sized.{IsCounted, AreCounted, IsSized}

udint_fits : (w : ℕ) → w < 4294967296 → Fits Udint (pos w)
udint_fits w h = (omega (arith, ints), omega (arith, ints))

ulint_fits : (w : ℕ) → w < 4294967296 → Fits Ulint (pos w)
ulint_fits w h = (omega (arith, ints), omega (arith, ints))

each_given : (P Q : Option (Initial Note) → Type 0) → ((j : Initial Note) → P (Some j) → Q (Some j)) → (is : List (Initial Note)) → Each (λ j. P (Some j)) is → EachGiven Q is
each_given P Q f [] h = tt
each_given P Q f (j ∷ js) h = (f j h.0, each_given P Q f js h.1)

module _ (p : Program) where
  mutual
    in_range : (sh : Shape) (i : Option (Initial Note)) → IsCounted sh → StartsRight sh i → IsInRange sh i
    in_range (Elementary e) i c h = h
    in_range (Enumeration name values) i c h = subst (Fits Udint) (sym h.1) (udint_fits h.0 (omega (arith, h.2, c)))
    in_range (Reference k name) i c h = tt
    in_range (Interface k name) i c h = tt
    in_range (Array low n sh) i c h = (in_range sh None c h.0, each_given (StartsRight sh) (IsInRange sh) (λ j k. in_range sh (Some j) c k) (list_given i) h.1)
    in_range (Structure name fs) i c h = are_in_range fs (fields_given i) c h
    in_range (Instance k name fs) i c h = (ulint_fits k (omega (arith, c.0)), are_in_range fs (fields_given i) c.1 h)

    are_in_range : (fs : Fields) (gs : FieldInits Note) → AreCounted fs → StartRight fs gs → AreInRange fs gs
    are_in_range no_fields gs c h = tt
    are_in_range (field_then v sh fs) gs c h = (in_range sh (given_for v.name gs or_else v.initial) c.0 h.0, are_in_range fs gs c.1 h.1)

  each_at : (xs : List Region) (r : ℕ) (x : Region) → Each (λ y. VariableFits p y.variable) xs → slice_get xs r ≡ Some x → VariableFits p x.variable
  each_at [] r x h e = cc
  each_at (y ∷ ys) zero x h e = let i : y ≡ x = cc in subst (λ (z : Region). VariableFits p z.variable) i h.0
  each_at (y ∷ ys) (suc r) x h e = each_at ys r x h.1 e

  pub starts_in_range : ProgramIs p → IsSized p → StartsInRange p
  starts_in_range fine sized = record {
    region = λ r x sh e s.
        let f = each_at p.regions r x fine.regions e in
        let some : Some f.0 ≡ Some sh = sym f.1 ∙ s in
        let same : f.0 ≡ sh = cc in
        let shape : region_shape p r ≡ Some sh = ap (λ o. o >>= λ y. shape_of p y.variable.kind) e ∙ s in
        in_range sh x.variable.initial (sized.counted r sh shape) (subst (λ z. StartsRight z x.variable.initial) same f.2);
  }
