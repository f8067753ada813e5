-- In-outs that were found so far, and those that are left.
use Rattle.std.proofs.Common.{inl, inr, ◌≡◌, ℕ, Bool, true, false, List, [], ◌∷◌, ◌++◌, length, map, Option, Some, None, Ok, Err, refl, sym, ap, ◌∙◌, subst, append_assoc, append-nil}
use Rattle.std.specs.Prelude.{◌⊎◌, if◌then◌else◌}
use Rattle.plc_text.specs.declared.fault.FaultKind.TheVariants.{Null}
use Rattle.std.proofs.lemmas.List.{map-append}
use Rattle.st_values.specs.Program.{Parameter}
use Rattle.st_meaning.specs.State.{Spot, bound, State, Outcome, Done, Fault, ◌>>=◌, go_on, gives, there, local_spot, local_spot_in}
use Rattle.st_meaning.specs.Call.{Given, for_local, number_to, is_in_out, same_in_outs}
use Rattle.call_frames.specs.declared.slots.Given.{Given as CodeGiven}
use Rattle.call_frames.specs.Opening.{given_of}
use Rattle.routine_tables.specs.declared.parameters.Parameter as code
use Rattle.routine_tables.specs.Parameters.{parameter_of, parameters_of}
use Rattle.run_state.specs.declared.state.Stop.{Stop}
use Rattle.run_state.specs.declared.state.Stop.TheVariants as stop
use Rattle.run_state.specs.State.{Shows}
use Rattle.call_steps.specs.Private.Given.{same_one, alone, same_of, SameAdds}

-- what was found, and then what the rest gives
abbrev pub behind : List Given → Outcome (List Given) → Outcome (List Given)
behind found o = go_on o (λ rest s. Done (found ++ rest) s)

module _ (line : ℕ) (s : State) where
  -- the in-outs are all there, or one of them is not
  abbrev Settled : Outcome (List Given) → Type 0
  Settled o = ((xs : List Given) × (o ≡ Done xs s)) ⊎ (o ≡ Fault Null line)

  -- one more in front of the rest
  abbrev in_front : Bool → ℕ → Outcome (List Given) → Outcome (List Given)
  in_front b n o = go_on o (λ rest. (if b then (do spot ← local_spot n; gives (for_local n (bound spot) ∷ rest)) else gives rest) line)

  abbrev alone_or_none : Bool → ℕ → Outcome (List Given)
  alone_or_none b n = (if b then alone (same_one n) else gives []) line s

  front_settles : (b : Bool) (n : ℕ) (o : Outcome (List Given)) → Settled o → Settled (in_front b n o)
  front_settles b n o (inr e) = inr (ap (in_front b n) e)
  front_settles false n o (inl (xs, e)) = inl (xs, ap (in_front false n) e)
  front_settles true n o (inl (xs, e)) = subst (λ q. Settled (in_front true n q)) (sym e) (of (local_spot_in s.frames n))
    where
      of : (x : Option Spot) → Settled (go_on (there x line s) (λ spot. gives (for_local n (bound spot) ∷ xs) line))
      of None = inr refl
      of (Some spot) = inl (for_local n (bound spot) ∷ xs, refl)

  settles : (qs : List Parameter) → Settled (same_in_outs qs line s)
  settles [] = inl ([], refl)
  settles (q ∷ qs) = front_settles (is_in_out q.sort) (number_to q.to) (same_in_outs qs line s) (settles qs)

  -- the first may be sought before the rest
  swaps : (b : Bool) (n : ℕ) (o : Outcome (List Given)) → Settled o → in_front b n o ≡ go_on (alone_or_none b n) (λ xs _. behind xs o)
  swaps false n o (inl (xs, e)) = ap (in_front false n) e ∙ sym (ap (behind []) e)
  swaps false n o (inr e) = ap (in_front false n) e ∙ sym (ap (behind []) e)
  swaps true n o (inl (xs, e)) = ap (in_front true n) e ∙ of (local_spot_in s.frames n) ∙ sym (ap (λ r. go_on (alone_or_none true n) (λ ys _. behind ys r)) e)
    where
      of : (x : Option Spot) → go_on (there x line s) (λ spot. gives (for_local n (bound spot) ∷ xs) line)
          ≡ go_on (go_on (go_on (there x line s) (λ spot. gives (for_local n (bound spot)) line)) (λ g. gives (g ∷ []) line)) (λ ys _. behind ys (Done xs s))
      of None = refl
      of (Some spot) = refl
  swaps true n o (inr e) = ap (in_front true n) e ∙ of (local_spot_in s.frames n) ∙ sym (ap (λ r. go_on (alone_or_none true n) (λ ys _. behind ys r)) e)
    where
      of : (x : Option Spot) → Fault Null line ≡ go_on (go_on (go_on (there x line s) (λ spot. gives (for_local n (bound spot)) line)) (λ g. gives (g ∷ []) line)) (λ ys _. behind ys (Fault Null line))
      of None = refl
      of (Some spot) = refl

  first : (q : Parameter) (qs : List Parameter) → same_in_outs (q ∷ qs) line s ≡ go_on (same_of q line s) (λ xs _. behind xs (same_in_outs qs line s))
  first q qs = swaps (is_in_out q.sort) (number_to q.to) (same_in_outs qs line s) (settles qs)

behind_none : (o : Outcome (List Given)) → behind [] o ≡ o
behind_none (Done xs s) = refl
behind_none (Fault k l) = refl

behind_both : (xs ys : List Given) (o : Outcome (List Given)) → behind (xs ++ ys) o ≡ behind xs (behind ys o)
behind_both xs ys (Done zs s) = ap (λ l. Done l s) (append_assoc xs ys zs)
behind_both xs ys (Fault k l) = refl

-- ---- the loop

pub record SameLeft (qs left : List code.Parameter) (line : ℕ) (s : State) (given : List CodeGiven) : Type 0 where
  pub by : behind (map given_of given) (same_in_outs (parameters_of left) line s) ≡ same_in_outs (parameters_of qs) line s

module _ (qs : List code.Parameter) (line : ℕ) (s : State) where
  pub same_begun : SameLeft qs qs line s []
  same_begun = record { by = behind_none (same_in_outs (parameters_of qs) line s) }

  taken : (left rest : List code.Parameter) (q : code.Parameter) → left ≡ q ∷ rest → same_in_outs (parameters_of left) line s ≡ go_on (same_of (parameter_of q) line s) (λ xs _. behind xs (same_in_outs (parameters_of rest) line s))
  taken left rest q is = ap (λ us. same_in_outs (parameters_of us) line s) is ∙ first line s (parameter_of q) (parameters_of rest)

  pub same_next : (left rest : List code.Parameter) (q : code.Parameter) (given given' : List CodeGiven) → left ≡ q ∷ rest → SameLeft qs left line s given → SameAdds (Ok tt) (same_of (parameter_of q) line s) s (map given_of given) (map given_of given')
      → SameLeft qs rest line s given'
  same_next left rest q given given' is l (found, e, more) = record {
    by = ap (λ xs. behind xs (same_in_outs (parameters_of rest) line s)) more
        ∙ behind_both (map given_of given) found (same_in_outs (parameters_of rest) line s)
        ∙ sym (ap (behind (map given_of given)) (taken left rest q is ∙ ap (λ o. go_on o (λ xs _. behind xs (same_in_outs (parameters_of rest) line s))) e))
        ∙ l.by;
  }

  pub same_stopped : (left rest : List code.Parameter) (q : code.Parameter) (given given' : List CodeGiven) (x : Stop) → left ≡ q ∷ rest → SameLeft qs left line s given → SameAdds (Err x) (same_of (parameter_of q) line s) s (map given_of given) (map given_of given')
      → Shows {C = List CodeGiven} (map given_of) (Err x) (same_in_outs (parameters_of qs) line s) s
  same_stopped left rest q given given' (stop.Fault f) is l e =
      sym l.by ∙ ap (behind (map given_of given)) (taken left rest q is ∙ ap (λ o. go_on o (λ xs _. behind xs (same_in_outs (parameters_of rest) line s))) e)
  same_stopped left rest q given given' stop.NoMemory is l e = tt

  pub same_ended : (left : List code.Parameter) (given : List CodeGiven) → length left ≡ 0 → SameLeft qs left line s given → same_in_outs (parameters_of qs) line s ≡ Done (map given_of given) s
  same_ended [] given h l = sym l.by ∙ ap (λ xs. Done xs s) (append-nil (map given_of given))
  same_ended (q ∷ rest) given h l = absurd cc

-- ---- one more

pub same_added : (q : Parameter) (line : ℕ) (s : State) (g : CodeGiven) (before after : List CodeGiven) → is_in_out q.sort ≡ true → same_one (number_to q.to) line s ≡ Done (given_of g) s → after ≡ before ++ g ∷ []
    → SameAdds (Ok tt) (same_of q line s) s (map given_of before) (map given_of after)
same_added q line s g before after h e more =
    (given_of g ∷ [], ap (λ b. (if b then alone (same_one (number_to q.to)) else gives []) line s) h ∙ ap (λ o. go_on o (λ x. gives (x ∷ []) line)) e, ap (map given_of) more ∙ map-append given_of before (g ∷ []))
