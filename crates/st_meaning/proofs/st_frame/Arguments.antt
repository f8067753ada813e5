-- Arguments that are right by the declared parameters are right for a routine that has more behind them, and use the same.
use Rattle.std.proofs.Common.{◌≡◌, ℕ, zero, suc, Bool, true, false, List, [], ◌∷◌, ◌++◌, Option, Some, None, refl, sym, ap, ◌∙◌, subst}
use Rattle.std.specs.Prelude.{if◌then◌else◌, slice_get}
use Rattle.st_types.specs.declared.st_type.StType.{StType}
use Rattle.st_tree.specs.declared.program.Note.{Note}
use Rattle.st_tree.specs.Expression.{Expression, Positional, Input, Output, Arguments, no_arguments, argument_then}
use Rattle.st_values.specs.Program.{Parameter, Routine, Program}
use Rattle.st_meaning.specs.Call.{is_output, parameter_number, parameter_named, next_parameter, behind_next}
use Rattle.st_meaning.specs.Place.{root_note}
use Rattle.st_meaning.specs.st_frame.Use.{owner_uses, root_uses, last_kind, is_bound, bound_uses, along_uses, expression_uses, argument_uses}
use Rattle.st_meaning.specs.st_frame.Promise.Names.{Scope}
use Rattle.st_meaning.specs.st_frame.Promise.Calls.{Suits, Leaves}
use Rattle.st_meaning.specs.st_frame.Promise.Expressions.{ArgumentsAre}

abbrev IsThere : Option Parameter → Type 0
IsThere o = (q : Parameter) × (o ≡ Some q)

suited_there : (p : Program) (x : Routine) (o : Option Parameter) (e : Expression Note) → Suits p x o e → IsThere o
suited_there p x None e h = absurd h
suited_there p x (Some q) e h = (q, refl)

left_there : (p : Program) (x : Routine) (o : Option Parameter) (t : StType) → Leaves p x o t → IsThere o
left_there p x None t h = absurd h
left_there p x (Some q) t h = (q, refl)

module _ (rest : List Parameter) where
  -- the next parameter, where there is one, is the same, and so are those behind it
  pub next_longer : (left : List Parameter) → IsThere (next_parameter left) → (next_parameter (left ++ rest) ≡ next_parameter left) × (behind_next (left ++ rest) ≡ behind_next left ++ rest)
  next_longer [] h = let e = h.1 in cc
  next_longer (q ∷ left) h = by (is_output q.sort) (next_longer left) h
    where
      by : (b : Bool) → (IsThere (next_parameter left) → (next_parameter (left ++ rest) ≡ next_parameter left) × (behind_next (left ++ rest) ≡ behind_next left ++ rest))
          → IsThere (if b then next_parameter left else Some q)
          → ((if b then next_parameter (left ++ rest) else Some q) ≡ (if b then next_parameter left else Some q)) × ((if b then behind_next (left ++ rest) else left ++ rest) ≡ (if b then behind_next left else left) ++ rest)
      by true k i = k i
      by false k i = (refl, refl)

  slice_longer : (ps : List Parameter) (n : ℕ) → IsThere (slice_get ps n) → slice_get (ps ++ rest) n ≡ slice_get ps n
  slice_longer [] n h = let e = h.1 in cc
  slice_longer (q ∷ ps) zero h = refl
  slice_longer (q ∷ ps) (suc n) h = slice_longer ps n h

  -- and so is the one that is named
  pub named_longer : (ps : List Parameter) (a : Note) → IsThere (parameter_named ps a) → parameter_named (ps ++ rest) a ≡ parameter_named ps a
  named_longer ps a h = slice_longer ps (parameter_number a.target) h

  module _ (p : Program) (g : Scope) (x : Routine) where
    pub arguments_longer : (xs : Arguments Note) (ps left : List Parameter) → ArgumentsAre p g x ps left xs → ArgumentsAre p g x (ps ++ rest) (left ++ rest) xs
    arguments_longer no_arguments ps left h = tt
    arguments_longer (argument_then (Positional e) xs) ps left h =
        let n = next_longer left (suited_there p x (next_parameter left) e h.1) in
        (h.0, subst (λ o. Suits p x o e) (sym n.0) h.1, subst (λ l. ArgumentsAre p g x (ps ++ rest) l xs) (sym n.1) (arguments_longer xs ps (behind_next left) h.2))
    arguments_longer (argument_then (Input a name e) xs) ps left h =
        let n = named_longer ps a (suited_there p x (parameter_named ps a) e h.1) in
        (h.0, subst (λ o. Suits p x o e) (sym n) h.1, arguments_longer xs ps left h.2)
    arguments_longer (argument_then (Output a name b r ss) xs) ps left h =
        let t = last_kind (root_note r).kind ss in
        let n = named_longer ps a (left_there p x (parameter_named ps a) t h.2) in
        (h.0, h.1, subst (λ o. Leaves p x o t) (sym n) h.2, arguments_longer xs ps left h.3)

    pub uses_longer : (xs : Arguments Note) (ps left : List Parameter) → ArgumentsAre p g x ps left xs → argument_uses p (ps ++ rest) (left ++ rest) xs ≡ argument_uses p ps left xs
    uses_longer no_arguments ps left h = refl
    uses_longer (argument_then (Positional e) xs) ps left h =
        let n = next_longer left (suited_there p x (next_parameter left) e h.1) in
        ap (λ o. bound_uses (is_bound o) e ++ (expression_uses p e ++ argument_uses p (ps ++ rest) (behind_next (left ++ rest)) xs)) n.0
        ∙ (ap (λ l. bound_uses (is_bound (next_parameter left)) e ++ (expression_uses p e ++ argument_uses p (ps ++ rest) l xs)) n.1
        ∙ ap (λ us. bound_uses (is_bound (next_parameter left)) e ++ (expression_uses p e ++ us)) (uses_longer xs ps (behind_next left) h.2))
    uses_longer (argument_then (Input a name e) xs) ps left h =
        let n = named_longer ps a (suited_there p x (parameter_named ps a) e h.1) in
        ap (λ o. bound_uses (is_bound o) e ++ (expression_uses p e ++ argument_uses p (ps ++ rest) (left ++ rest) xs)) n
        ∙ ap (λ us. bound_uses (is_bound (parameter_named ps a)) e ++ (expression_uses p e ++ us)) (uses_longer xs ps left h.2)
    uses_longer (argument_then (Output a name b r ss) xs) ps left h =
        ap (λ us. owner_uses r ss ++ (root_uses r ++ (along_uses p (root_note r).kind ss ++ us))) (uses_longer xs ps left h.3)
