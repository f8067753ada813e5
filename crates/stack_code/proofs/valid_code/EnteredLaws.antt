-- One entry more among those of a method of an interface.
use Rattle.std.proofs.Common.{◌≡◌, ℕ, Bool, true, false, ◌&&◌, List, [], ◌∷◌, ◌++◌, Some, refl, sym, ap, subst, ◌∙◌}
use Rattle.std.specs.Prelude.{nat_eq, cond, if◌then◌else◌}
use Rattle.std.specs.HashMap.{HashMap, get}
use Rattle.std.proofs.lemmas.List.{append-nil}
use Rattle.std.proofs.lemmas.Bool.{eqb-true}
use Rattle.stack_code.specs.declared.code.InterfaceTarget.{InterfaceTarget}
use Rattle.stack_code.specs.declared.code.MachineCode.{MachineCode}
use Rattle.stack_code.specs.declared.valid_code.calls.Common.{Common}
use Rattle.stack_code.specs.Machine.{first_target}
use Rattle.stack_code.specs.valid_code.Private.Calls.{Shares, with_some}
use Rattle.stack_code.specs.valid_code.Private.Tables.{same_pair}
use Rattle.stack_code.specs.valid_code.Private.Entered.{common_of, common_at, IsCommonNoted, IsTargetNoted, targets_of}
use Rattle.stack_code.proofs.valid_code.CallLaws.{with_some_append}

both : (a b : Bool) → (a && b) ≡ true → (a ≡ true) × (b ≡ true)
both true true e = (refl, refl)
both true false e = absurd (cc)
both false b e = absurd (cc)

pub target_noted : {S T : Type 0} (code : MachineCode) (old : HashMap (ℕ × ℕ) Common S) (new : HashMap (ℕ × ℕ) Common T) (t : InterfaceTarget) (common : Common)
    → ((ks : List ℕ) → Shares code ks (common_at old (t.interface, t.method)) → Shares code (ks ++ with_some (first_target code.targets t.class t.interface t.method) []) common)
    → IsCommonNoted old new (t.interface, t.method) common → IsTargetNoted code old new t
target_noted code old new t common more noted i m ks s = by (nat_eq t.interface i && nat_eq t.method m) refl
  where
    by : (b : Bool) → (nat_eq t.interface i && nat_eq t.method m) ≡ b → Shares code (ks ++ (if nat_eq t.interface i && nat_eq t.method m then with_some (first_target code.targets t.class i m) [] else [])) (common_at new (i, m))
    by true e =
        let h = both (nat_eq t.interface i) (nat_eq t.method m) e in
        let ei : t.interface ≡ i = eqb-true t.interface i h.0 in
        let em : t.method ≡ m = eqb-true t.method m h.1 in
        let here : common_at new (i, m) ≡ common = ap common_of (noted (i, m) ∙ ap (λ x. cond x (Some common) (get same_pair old (i, m))) e) in
        let from : Shares code ks (common_at old (t.interface, t.method)) = subst (λ x. Shares code ks (common_at old (x, t.method))) (sym ei) (subst (λ x. Shares code ks (common_at old (i, x))) (sym em) s) in
        let made : Shares code (ks ++ with_some (first_target code.targets t.class i m) []) common = subst (λ x. Shares code (ks ++ with_some (first_target code.targets t.class x m) []) common) ei (subst (λ x. Shares code (ks ++ with_some (first_target code.targets t.class t.interface x) []) common) em (more ks from)) in
        rw e (subst (Shares code (ks ++ with_some (first_target code.targets t.class i m) [])) (sym here) made)
    by false e =
        let here : common_at new (i, m) ≡ common_at old (i, m) = ap common_of (noted (i, m) ∙ ap (λ x. cond x (Some common) (get same_pair old (i, m))) e) in
        rw e (subst (λ l. Shares code l (common_at new (i, m))) (sym (append-nil ks)) (subst (Shares code ks) (sym here) s))

pub targets_append : (table ts : List InterfaceTarget) (t : InterfaceTarget) (i m : ℕ) (ks : List ℕ) → (ks ++ targets_of table (t ∷ []) i m) ++ targets_of table ts i m ≡ ks ++ targets_of table (t ∷ ts) i m
targets_append table ts t i m ks = by (nat_eq t.interface i && nat_eq t.method m)
  where
    by : (b : Bool) → (ks ++ (if b then with_some (first_target table t.class i m) [] else [])) ++ targets_of table ts i m ≡ ks ++ (if b then with_some (first_target table t.class i m) (targets_of table ts i m) else targets_of table ts i m)
    by true = with_some_append (first_target table t.class i m) ks (targets_of table ts i m)
    by false = ap (λ l. l ++ targets_of table ts i m) (append-nil ks)
