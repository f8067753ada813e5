-- The operand of a conversion that breaks no rule: as if it were given to a routine with one input of the type that is converted.
use Rattle.std.proofs.Common.{◌≡◌, ℕ, Bool, [], ◌∷◌, Some, None, refl, sym, ap, subst}
use Rattle.st_types.specs.declared.elem.Elem.{Elem}
use Rattle.st_types.specs.declared.st_type.StType.{StType}
use Rattle.st_types.specs.declared.st_type.StType.TheVariants as type
use Rattle.st_tree.specs.declared.declaration.SectionSort.TheVariants as sort
use Rattle.st_tree.specs.Expression.{Positional, Input, Output, Arguments, no_arguments, argument_then}
use Rattle.st_tree.specs.Reads.{no_marks}
use Rattle.st_tree.specs.Statement.{no_statements}
use Rattle.st_rules.proofs.Booleans.{some-same}
use Rattle.st_rules.specs.Scope.{Scope}
use Rattle.st_rules.specs.Calls.{Callee, a_conversion, operand_parameter, heads, names_input, names_output, positional_and_named_mixed, wrong_number_of_positional, unknown_or_repeated, named_unknown_or_twice, in_out_left_out, matching_faults, matches, call_matches, conversion_without_operand, callee_faults}
use Rattle.st_rules.specs.Expressions.{typed_arguments, argument_faults}
use Rattle.st_values.specs.Program.{Variable, to_local, Parameter, Routine, Program}
use Rattle.st_meaning.specs.st_frame.Promise.Types.{IsElementary, IsHeld, Widens, same_type, wider_number, wider_path}
use Rattle.st_meaning.specs.st_frame.Promise.Names.{Scope as Around}
use Rattle.st_meaning.specs.st_frame.Promise.Expressions.{OperandIs, ArgumentsBy}
use Rattle.accepted_texts.specs.formed_units.Formed.{FormedArguments}
use Rattle.place_laws.specs.Agrees.{Agrees, TakesBy, GivesBy, LeavesBy}
use Rattle.place_laws.proofs.Words.{none_in, four}
use Rattle.call_laws.proofs.Called.{ArgumentsGood, all_arguments, matching_of, without_operand}

-- ---- a routine with one input

abbrev operand : Elem → Variable
operand x = record { name = []; sort = sort.Input; kind = type.Elementary x; initial = None; marks = no_marks; address = None }

abbrev its_input : Parameter
its_input = record { sort = sort.Input; to = to_local 0 }

abbrev taker : Elem → Routine
taker x = record { name = []; line = 0; class = None; parameters = its_input ∷ []; locals = operand x ∷ []; body = no_statements }

takes : (p : Program) (x : Elem) → TakesBy p (Some (taker x)) (operand_parameter x ∷ []) (its_input ∷ [])
takes p x = (record { declares = record { kind = type.Elementary x; told = refl; sort = refl }; plain = refl; there = (operand x, refl, refl) }, tt)

-- what widens to an elementary type is of one
elementary_by : (p : Program) (t u : StType) (x : Elem) → Widens p t u → u ≡ type.Elementary x → IsElementary t
elementary_by p t u x same_type e = (x, e)
elementary_by p t u x (wider_number {a} r) e = (a, refl)
elementary_by p t u x (wider_path i k n) e = absurd (subst IsHeld e k)

module _ (s : Scope) (p : Program) (g : Around) (a : Agrees s p g) where
  pub operand_right : (l : ℕ) (x y : Elem) (xs : Arguments ℕ) → FormedArguments xs → ArgumentsGood s p g a xs → matching_faults l (operand_parameter x ∷ []) (heads xs) ≡ [] → conversion_without_operand s l (a_conversion x y) (heads xs) ≡ []
      → argument_faults s (matches (operand_parameter x ∷ []) (heads xs)) xs ≡ [] → OperandIs p g (typed_arguments s (matches (operand_parameter x ∷ []) (heads xs)) xs)
  operand_right l x y xs i good m c f = by xs i m c (all_arguments s p g a l (operand_parameter x ∷ []) xs good m f (Some (taker x)) (its_input ∷ []) (takes p x))
    where
      by : (ys : Arguments ℕ) → FormedArguments ys → matching_faults l (operand_parameter x ∷ []) (heads ys) ≡ [] → conversion_without_operand s l (a_conversion x y) (heads ys) ≡ []
          → ArgumentsBy p g (GivesBy p (Some (taker x))) (LeavesBy p (Some (taker x))) (its_input ∷ []) (its_input ∷ []) (typed_arguments s (matches (operand_parameter x ∷ []) (heads ys)) ys) → OperandIs p g (typed_arguments s (matches (operand_parameter x ∷ []) (heads ys)) ys)
      by no_arguments j n d h = cc
      by (argument_then (Positional e) ys) j n d h = (h.0, elementary_by p _ h.1.0.kind x (h.1.3 refl) (ap (λ v. v.kind) (sym (some-same h.1.1))))
      by (argument_then (Input k [] e) ys) j n d h = absurd j.0.0
      by (argument_then (Input k (b ∷ name) e) ys) j n d h =
          let hs = heads (argument_then (Input k (b ∷ name) e) ys) in
          let fs = four (positional_and_named_mixed l hs) (wrong_number_of_positional l (operand_parameter x ∷ []) hs) (named_unknown_or_twice (operand_parameter x ∷ []) [] hs) (in_out_left_out l (operand_parameter x ∷ []) hs) n in
          let u = (none_in (unknown_or_repeated (operand_parameter x ∷ []) [] (names_input k (b ∷ name))) _ fs.2).0 in
          cc
      by (argument_then (Output k name b r ss) ys) j n d h =
          let hs = heads (argument_then (Output k name b r ss) ys) in
          let fs = four (positional_and_named_mixed l hs) (wrong_number_of_positional l (operand_parameter x ∷ []) hs) (named_unknown_or_twice (operand_parameter x ∷ []) [] hs) (in_out_left_out l (operand_parameter x ∷ []) hs) n in
          let u = (none_in (unknown_or_repeated (operand_parameter x ∷ []) [] (names_output k name)) _ fs.2).0 in
          cc

  conversion_right : (l : ℕ) (b : Bool) (x y : Elem) (xs : Arguments ℕ) → FormedArguments xs → ArgumentsGood s p g a xs → callee_faults s l b (a_conversion x y) (heads xs) ≡ [] → argument_faults s (call_matches s (a_conversion x y) (heads xs)) xs ≡ []
      → OperandIs p g (typed_arguments s (call_matches s (a_conversion x y) (heads xs)) xs)
  unfolding call_matches
  conversion_right l b x y xs i good f h = operand_right l x y xs i good (matching_of s p g a l b (a_conversion x y) (heads xs) refl f) (without_operand s p g a l b (a_conversion x y) (heads xs) f) h

  pub operand_of : (l : ℕ) (b : Bool) (c : Callee) (x y : Elem) (xs : Arguments ℕ) → c ≡ a_conversion x y → FormedArguments xs → ArgumentsGood s p g a xs → callee_faults s l b c (heads xs) ≡ [] → argument_faults s (call_matches s c (heads xs)) xs ≡ []
      → OperandIs p g (typed_arguments s (call_matches s c (heads xs)) xs)
  operand_of l b c x y xs e i good f h =
      subst (λ z. OperandIs p g (typed_arguments s (call_matches s z (heads xs)) xs)) (sym e)
      (conversion_right l b x y xs i good (subst (λ z. callee_faults s l b z (heads xs) ≡ []) e f) (subst (λ z. argument_faults s (call_matches s z (heads xs)) xs ≡ []) e h))
