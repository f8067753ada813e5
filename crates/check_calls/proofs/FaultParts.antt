-- The rules of a call in the order in which the code asks for them.
use Rattle.std.proofs.Common.{◌≡◌, ℕ, Bool, List, [], ◌∷◌, ◌++◌, refl, ap}
use Rattle.std.specs.Prelude.{if◌then◌else◌}
use Rattle.st_rules.specs.Scope.{Scope}
use Rattle.st_rules.specs.Calls.{Callee, no_callee, not_callable, a_conversion, a_routine, a_body, base_body, no_base_body, Head, callee_faults, super_call_in_a_method, has_parameters, matching_faults, callee_parameters}
use Rattle.check_calls.specs.Private.Faults.{own_callee_faults}

append_none : {X : Type 0} (xs : List X) → xs ++ [] ≡ xs
append_none [] = refl
append_none (x ∷ xs) = ap (λ ys. x ∷ ys) (append_none xs)

pub callee_parts : (s : Scope) (line : ℕ) (on_super : Bool) (c : Callee) (hs : List Head) → callee_faults s line on_super c hs
    ≡ own_callee_faults s line on_super c hs ++ super_call_in_a_method s line c ++ (if has_parameters s c then matching_faults line (callee_parameters s c) hs else [])
unfolding callee_faults
callee_parts s line on_super no_callee hs = refl
callee_parts s line on_super not_callable hs = refl
callee_parts s line on_super (a_conversion a b) [] = refl
callee_parts s line on_super (a_conversion a b) (h ∷ hs) = refl
callee_parts s line on_super (a_routine r) hs = simp append_none
callee_parts s line on_super (a_body c) hs = refl
callee_parts s line on_super (base_body b) [] = simp append_none
callee_parts s line on_super (base_body b) (h ∷ hs) = simp append_none
callee_parts s line on_super no_base_body hs = refl
