-- What a call finds: arguments, the address below them, and what is below that.
use Rattle.std.proofs.Common.{◌≡◌, ℕ, ◌≤◌, Bool, Ok, Err, List, [], ◌∷◌, ◌++◌, length, reverse, Some, refl, sym, ap, ◌∙◌, arith, append_assoc, length-append}
use Rattle.std.specs.Prelude.{slice_get, Result, IfOk}
use Rattle.std.proofs.lemmas.List.{reverse-append, reverse-reverse, length-reverse, append_cancel_right}
use Rattle.stack_code.specs.declared.op.Kind.{Kind}
use Rattle.stack_code.specs.declared.op.Kind.TheVariants.{Num, Addr}
use Rattle.stack_code.specs.declared.code.RoutineCode.{RoutineCode}
use Rattle.stack_code.specs.declared.code.MachineCode.{MachineCode}
use Rattle.stack_code.specs.declared.valid_code.calls.Common.TheVariants.{Nobody}
use Rattle.stack_code.specs.Validity.{IsCall}
use Rattle.stack_code.specs.valid_code.Private.Calls.{IsAmong, Differ, AreLike, Shares, Enters}

-- there is one way to split
unique : (below below' args args' : List Kind) (x y : Kind) → below ++ x ∷ args ≡ below' ++ y ∷ args' → length args ≡ length args' → (below ≡ below') × (x ≡ y) × (args ≡ args')
unique [] [] args args' x y e n = (refl, (cc), (cc))
unique [] (b ∷ bs) args args' x y e n = absurd (let size : length (x ∷ args) ≡ length (b ∷ bs ++ y ∷ args') = ap length e in omega (arith, n, size, length-append bs (y ∷ args')))
unique (a ∷ as') [] args args' x y e n = absurd (let size : length (a ∷ as' ++ x ∷ args) ≡ length (y ∷ args') = ap length e in omega (arith, n, size, length-append as' (x ∷ args)))
unique (a ∷ as') (b ∷ bs) args args' x y e n =
    let rest : as' ++ x ∷ args ≡ bs ++ y ∷ args' = cc in
    let first : a ≡ b = cc in
    let more = unique as' bs args args' x y rest n in
    (rw (first, more.0) refl, more.1, more.2)

turned : (x : Kind) (below args : List Kind) → reverse (below ++ x ∷ args) ≡ reverse args ++ x ∷ reverse below
turned x below args = reverse-append below (x ∷ args) ∙ ap (λ l. l ++ reverse below) (reverse-append (x ∷ []) args) ∙ append_assoc (reverse args) (x ∷ []) (reverse below)

untold : (xs ys : List Kind) → Some xs ≡ Some ys → xs ≡ ys
untold xs ys e = cc

module _ (code : MachineCode) (r : RoutineCode) (at n : ℕ) (kinds : List Kind) (may : ℕ → Type 0) where
  -- a call's kinds with the top last
  split_of : (l : IsCall code r at n (reverse kinds) may) → (kinds ≡ reverse l.below ++ Addr ∷ reverse l.args) × (length (reverse l.args) ≡ n)
  split_of l = (sym (reverse-reverse kinds) ∙ ap reverse l.finds ∙ turned Addr l.args l.below, length-reverse l.args ∙ l.count)

  pub no_short : length kinds ≤ n → IsCall code r at n (reverse kinds) may → ⊥
  no_short few l = let s = split_of l in absurd (let size : length kinds ≡ length (reverse l.below ++ Addr ∷ reverse l.args) = ap length s.0 in omega (arith, few, size, s.1, length-append (reverse l.below) (Addr ∷ reverse l.args)))

  module _ (below args : List Kind) (count : length args ≡ n) where
    pub no_number : kinds ≡ below ++ Num ∷ args → IsCall code r at n (reverse kinds) may → ⊥
    no_number parts l =
        let s = split_of l in
        let same : Num ≡ Addr = (unique below (reverse l.below) args (reverse l.args) Num Addr (sym parts ∙ s.0) (count ∙ sym s.1)).1 in
        absurd (cc)

    module _ (parts : kinds ≡ below ++ Addr ∷ args) where
      pub from_call : IsCall code r at n (reverse kinds) may → (k : ℕ) (routine : RoutineCode) → may k → slice_get code.routines k ≡ Some routine → Enters r at below args routine
      from_call l k routine m is =
          let s = split_of l in
          let u = unique below (reverse l.below) args (reverse l.args) Addr Addr (sym parts ∙ s.0) (count ∙ sym s.1) in
          let e = l.enters k routine m is in
          let back : reverse routine.rets ++ l.below ≡ reverse (below ++ routine.rets) =
          ap (λ b. reverse routine.rets ++ b) (sym (reverse-reverse l.below) ∙ ap reverse (sym u.0)) ∙ sym (reverse-append below routine.rets) in
          (u.2 ∙ ap reverse e.0 ∙ reverse-reverse routine.args, record { ks = e.1.ks; leaves = ap Some (sym back) ∙ e.1.leaves; finds = e.1.finds })

      pub to_call : ((k : ℕ) (routine : RoutineCode) → may k → slice_get code.routines k ≡ Some routine → Enters r at below args routine) → IsCall code r at n (reverse kinds) may
      to_call all = record {
        args = reverse args;
        below = reverse below;
        finds = ap reverse parts ∙ turned Addr below args;
        count = length-reverse args ∙ count;
        enters = λ k routine m is. (let e = all k routine m is in
            (ap reverse e.0, record { ks = e.1.ks; leaves = ap Some (sym (reverse-append below routine.rets)) ∙ e.1.leaves; finds = e.1.finds }));
      }

module _ (code : MachineCode) (r : RoutineCode) (at n : ℕ) (kinds below args : List Kind) (count : length args ≡ n) (parts : kinds ≡ below ++ Addr ∷ args) (ks : List ℕ) where
  pub call_of_nobody : Shares code ks Nobody → IsCall code r at n (reverse kinds) (λ k. IsAmong k ks)
  call_of_nobody none = to_call code r at n kinds (λ k. IsAmong k ks) below args count parts (λ k routine m is. absurd (none k routine (record { among = m; is = is })))

  pub call_of_like : (k : ℕ) (callee : RoutineCode) → slice_get code.routines k ≡ Some callee → AreLike code ks k → Enters r at below args callee → IsCall code r at n (reverse kinds) (λ k. IsAmong k ks)
  call_of_like k callee is s e = to_call code r at n kinds (λ k. IsAmong k ks) below args count parts (λ j routine m isj. by j routine m isj)
    where
      found : callee ≡ s.r
      found = untold_routine (sym is ∙ s.one.is)
        where
          untold_routine : Some callee ≡ Some s.r → callee ≡ s.r
          untold_routine e = cc

      by : (j : ℕ) (routine : RoutineCode) → IsAmong j ks → slice_get code.routines j ≡ Some routine → Enters r at below args routine
      by j routine m isj =
          let same = s.all j routine (record { among = m; is = isj }) in
          let sig : (callee.args ≡ routine.args) × (callee.rets ≡ routine.rets) = (ap (λ x. x.args) found ∙ sym same.0, ap (λ x. x.rets) found ∙ sym same.1) in
          (e.0 ∙ sig.0, record { ks = e.1.ks; leaves = ap (λ l. Some (reverse (below ++ l))) (sym sig.1) ∙ e.1.leaves; finds = e.1.finds })

  pub like_of_call : (k : ℕ) (callee : RoutineCode) → slice_get code.routines k ≡ Some callee → AreLike code ks k → IsCall code r at n (reverse kinds) (λ k. IsAmong k ks) → Enters r at below args callee
  like_of_call k callee is s l = from_call code r at n kinds (λ k. IsAmong k ks) below args count parts l k callee s.one.among is

  -- routines that differ are not entered by one call
  pub no_mixed : Differ code ks → IsCall code r at n (reverse kinds) (λ k. IsAmong k ks) → ⊥
  no_mixed d l =
      let a = from_call code r at n kinds (λ k. IsAmong k ks) below args count parts l d.j d.q d.one.among d.one.is in
      let b = from_call code r at n kinds (λ k. IsAmong k ks) below args count parts l d.k d.r d.other.among d.other.is in
      let lists : a.1.ks ≡ b.1.ks = untold a.1.ks b.1.ks (sym a.1.finds ∙ b.1.finds) in
      let turned_rets : reverse (below ++ d.q.rets) ≡ reverse (below ++ d.r.rets) = untold _ _ (a.1.leaves ∙ ap Some lists ∙ sym b.1.leaves) in
      let split : reverse d.q.rets ++ reverse below ≡ reverse d.r.rets ++ reverse below = sym (reverse-append below d.q.rets) ∙ turned_rets ∙ reverse-append below d.r.rets in
      let rets : reverse d.q.rets ≡ reverse d.r.rets = append_cancel_right (reverse d.q.rets) (reverse d.r.rets) (reverse below) split in
      d.differ (sym a.0 ∙ b.0, sym (reverse-reverse d.q.rets) ∙ ap reverse rets ∙ reverse-reverse d.r.rets)

pub when_ok : {E : Type 0} {P Q : Bool → Type 0} (r : Result Bool E) → IfOk r P → ((b : Bool) → P b → Q b) → IfOk r Q
when_ok (Ok b) p f = f b p
when_ok (Err e) p f = tt
