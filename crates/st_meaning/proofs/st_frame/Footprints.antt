-- What is written is in the footprint, and a cycle does not hang on how the footprint is listed.
use Rattle.std.proofs.Common.{◌≡◌, ℕ, Bool, true, false, List, [], ◌∷◌, ◌++◌, Option, Some, None, refl, sym, ap, ◌∙◌, subst, inl, inr, ⊎_elim, eq-eqb}
use Rattle.std.specs.Prelude.{◌⊎◌, ◌&&◌, ◌+◌, nat_eq, ◌-◌, ◌||◌, if◌then◌else◌, map, max}
use Rattle.std.specs.List.{range_with_len}
use Rattle.std.proofs.lemmas.Bool.{eqb-true}
use Rattle.st_types.specs.declared.st_type.StType.{StType}
use Rattle.st_types.specs.declared.st_type.StType.TheVariants as type
use Rattle.st_tree.specs.declared.address.Area.TheVariants as area
use Rattle.st_tree.specs.declared.expression.Root.{Root}
use Rattle.st_tree.specs.declared.expression.Root.TheVariants as root
use Rattle.st_tree.specs.declared.program.Note.{Note}
use Rattle.st_tree.specs.declared.program.Target.{Target}
use Rattle.st_tree.specs.declared.program.Target.TheVariants as target
use Rattle.st_tree.specs.Expression.{Expression, Int, Typed, Time, True, False, Null, Place, Call, Enumerator, Ref, Now, Paren, Not, Negate, Chain, Expressions, no_expressions, expression_then, Selector, Field, Index, Selectors, no_selectors, selector_then, Argument, Positional, Input, Output, Arguments, no_arguments, argument_then, Tails, no_tails, tail_then}
use Rattle.st_tree.specs.Expression as tree
use Rattle.st_tree.specs.Statement.{Statement, Empty, Assign, Attempt, Exit, Continue, Return, If, Case, For, While, Repeat, Statements, no_statements, statement_then, Branches, no_branches, branch_then, Cases, no_cases, case_then, Otherwise, Nothing, Else}
use Rattle.st_tree.specs.Statement as effect_tree
use Rattle.st_values.specs.Program.{Parameter, Routine, Program}
use Rattle.st_rules.specs.Chains.{is_among}
use Rattle.st_values.specs.Value.{number, Store, at, put}
use Rattle.st_values.specs.Initial.{note_of}
use Rattle.st_meaning.specs.Place.{root_note}
use Rattle.st_meaning.specs.Call.{next_parameter, behind_next, parameter_named}
use Rattle.st_meaning.specs.Expression.{selector_note}
use Rattle.st_meaning.specs.st_frame.Use.{Called, Owner, the_region, the_instances, Use, names, follows, calls, changes, is_followed, named_region, root_owner, owner_along, changed, owner_uses, name_uses, root_uses, called_of, call_use, called_parameters, is_bound, bound_uses, along_uses, selector_uses, index_uses, expression_uses, tail_uses, argument_uses, place_uses, call_uses, tried, step_uses, statement_uses, body_uses, branch_uses, case_uses, otherwise_uses, routine_uses}
use Rattle.st_meaning.specs.st_frame.Footprint.{Has, Touches, Alters, Footprint, own_program, touched, Writes, latched, altered, IsFootprint}
use Rattle.st_meaning.specs.st_frame.Footprint as footprint
use Rattle.st_meaning.specs.ProcessImage.{Located, located_of, is_in, input_value, or_same, latch, share, number_or_zero, output_byte, covered, size_of, first_byte, collect}
use Rattle.st_meaning.specs.Enter.{run_task}
use Rattle.st_meaning.specs.State.{Outcome, Done, Fault}
use Rattle.cycle_journal.specs.declared.entry.CycleReply.TheVariants as reply
use Rattle.st_meaning.specs.Cycle.{all_ticks, begun, ended, cycle}
use Rattle.st_meaning.specs.st_frame.FootprintLaws.{FootprintLaws}

pub has_left : {A : Type 0} (xs ys : List A) (a : A) → Has xs a → Has (xs ++ ys) a
has_left [] ys a h = absurd h
has_left (x ∷ xs) ys a h = ⊎_elim (λ e. inl e) (λ k. inr (has_left xs ys a k)) h

pub has_right : {A : Type 0} (xs ys : List A) (a : A) → Has ys a → Has (xs ++ ys) a
has_right [] ys a h = h
has_right (x ∷ xs) ys a h = inr (has_right xs ys a h)

pub has_either : {A : Type 0} (xs ys : List A) (a : A) → Has (xs ++ ys) a → Has xs a ⊎ Has ys a
has_either [] ys a h = inr h
has_either (x ∷ xs) ys a h = ⊎_elim (λ e. inl (inl e)) (λ k. ⊎_elim (λ l. inl (inr l)) (λ r. inr r) (has_either xs ys a k)) h

-- ---- the owner of a place is named or followed in it

-- the use that brings in what an owner stands for
abbrev shown : Owner → Use
shown (the_region r) = names r
shown (the_instances t) = follows t

-- the owners that change among the first are brought in by the second
record Backed (us vs : List Use) : Type 0 where
  by : (o : Owner) → Has us (changes o) → Has vs (shown o)

none_backed : (vs : List Use) → Backed [] vs
none_backed vs = record { by = λ o h. absurd h }

both_backed : (us ws vs : List Use) → Backed us vs → Backed ws vs → Backed (us ++ ws) vs
both_backed us ws vs h k = record { by = λ o m. ⊎_elim (λ a. h.by o a) (λ a. k.by o a) (has_either us ws (changes o) m) }

more_left : (us vs ws : List Use) → Backed us vs → Backed us (vs ++ ws)
more_left us vs ws h = record { by = λ o m. has_left vs ws (shown o) (h.by o m) }

more_right : (us vs ws : List Use) → Backed us ws → Backed us (vs ++ ws)
more_right us vs ws h = record { by = λ o m. has_right vs ws (shown o) (h.by o m) }

-- parts that are backed by themselves, and a whole that is
whole : (us vs : List Use) → Backed us us → Backed vs vs → Backed (us ++ vs) (us ++ vs)
whole us vs h k = both_backed us vs (us ++ vs) (more_left us us vs h) (more_right vs us vs k)

-- a first part that the second backs
led : (us vs : List Use) → Backed us vs → Backed vs vs → Backed (us ++ vs) (us ++ vs)
led us vs h k = both_backed us vs (us ++ vs) (more_right us us vs h) (more_right vs us vs k)

longer : (us xs ys zs : List Use) → Backed us (xs ++ ys) → Backed us (xs ++ (ys ++ zs))
longer us xs ys zs h = record { by = λ o m. ⊎_elim (λ a. has_left xs (ys ++ zs) (shown o) a) (λ a. has_right xs (ys ++ zs) (shown o) (has_left ys zs (shown o) a)) (has_either xs ys (shown o) (h.by o m)) }

plain_use : (u : Use) (vs : List Use) → ((o : Owner) → changes o ≡ u → ⊥) → Backed (u ∷ []) vs
plain_use u vs h = record { by = λ o m. ⊎_elim (λ e. absurd (h o e)) (λ e. absurd e) m }

named_alone : (t : Target) → Backed (name_uses t) (name_uses t)
named_alone (target.Region r) = plain_use (names r) _ (λ o e. cc)
named_alone target.Nothing = none_backed []
named_alone (target.Local n) = none_backed []
named_alone (target.Variable k) = none_backed []
named_alone (target.Field k) = none_backed []
named_alone (target.Function k) = none_backed []
named_alone (target.Method m) = none_backed []
named_alone target.Conversion = none_backed []
named_alone (target.Parameter k) = none_backed []
named_alone (target.Enumerator k) = none_backed []
named_alone (target.Constant z) = none_backed []

root_alone : (r : Root Note) → Backed (root_uses r) (root_uses r)
root_alone (root.Name a name) = named_alone a.target
root_alone (root.This a) = none_backed []
root_alone (root.Super a) = none_backed []

-- an owner, where there is one, is brought in
record Covers (o : Option Owner) (vs : List Use) : Type 0 where
  by : (x : Owner) → o ≡ Some x → Has vs (shown x)

covers_more : (o : Option Owner) (vs ws : List Use) → Covers o vs → Covers o (vs ++ ws)
covers_more o vs ws h = record { by = λ x e. has_left vs ws (shown x) (h.by x e) }

name_covers : (t : Target) → Covers (named_region t) (name_uses t)
name_covers (target.Region r) = record { by = λ x e. let h : the_region r ≡ x = cc in subst (λ y. Has (names r ∷ []) (shown y)) h (inl refl) }
name_covers target.Nothing = record { by = λ x e. cc }
name_covers (target.Local n) = record { by = λ x e. cc }
name_covers (target.Variable k) = record { by = λ x e. cc }
name_covers (target.Field k) = record { by = λ x e. cc }
name_covers (target.Function k) = record { by = λ x e. cc }
name_covers (target.Method m) = record { by = λ x e. cc }
name_covers target.Conversion = record { by = λ x e. cc }
name_covers (target.Parameter k) = record { by = λ x e. cc }
name_covers (target.Enumerator k) = record { by = λ x e. cc }
name_covers (target.Constant z) = record { by = λ x e. cc }

root_covers : (r : Root Note) → Covers (root_owner r) (root_uses r)
root_covers (root.Name a name) = name_covers a.target
root_covers (root.This a) = record { by = λ x e. cc }
root_covers (root.Super a) = record { by = λ x e. cc }

covers_from : (o : Option Owner) (xs ys : List Use) → Covers o (xs ++ ys) → (zs : List Use) → Covers o (xs ++ (ys ++ zs))
covers_from o xs ys h zs = record { by = λ x e. ⊎_elim (λ a. has_left xs (ys ++ zs) (shown x) a) (λ a. has_right xs (ys ++ zs) (shown x) (has_left ys zs (shown x) a)) (has_either xs ys (shown x) (h.by x e)) }

changed_backed : (o : Option Owner) (vs : List Use) → Covers o vs → Backed (changed o) vs
changed_backed None vs h = none_backed vs
changed_backed (Some o) vs h = record { by = λ x m. ⊎_elim (λ e. let k : o ≡ x = cc in subst (λ y. Has vs (shown y)) k (h.by o refl)) (λ e. absurd e) m }

module _ (p : Program) where
  -- going along the selectors, what was brought in stays, and what is followed is brought in
  owner_covers : (ss : Selectors Note) (t : StType) (o : Option Owner) (vs : List Use) → Covers o vs → Covers (owner_along o t ss) (vs ++ along_uses p t ss)
  owner_covers no_selectors t o vs h = covers_more o vs [] h
  owner_covers (selector_then s ss) t o vs h = by (is_followed t s) (owner_covers ss (selector_note s).kind)
    where
      -- what stands in the list, and then in more of it
      push : (o : Option Owner) (xs ys zs : List Use) → Covers o ((xs ++ ys) ++ zs) → Covers o (xs ++ (ys ++ zs))
      push o xs ys zs k = record { by = λ x e. ⊎_elim (λ a. ⊎_elim (λ b. has_left xs (ys ++ zs) (shown x) b) (λ b. has_right xs (ys ++ zs) (shown x) (has_left ys zs (shown x) b)) (has_either xs ys (shown x) a)) (λ a. has_right xs (ys ++ zs) (shown x) (has_right ys zs (shown x) a)) (has_either (xs ++ ys) zs (shown x) (k.by x e)) }

      by : (b : Bool) → ((o : Option Owner) (vs : List Use) → Covers o vs → Covers (owner_along o (selector_note s).kind ss) (vs ++ along_uses p (selector_note s).kind ss))
          → Covers (owner_along (if b then Some (the_instances t) else o) (selector_note s).kind ss) (vs ++ ((if b then follows t ∷ [] else []) ++ (selector_uses p s ++ along_uses p (selector_note s).kind ss)))
      by true go =
          let mine : Covers (Some (the_instances t)) (follows t ∷ []) = record { by = λ x e. let k : the_instances t ≡ x = cc in subst (λ y. Has (follows t ∷ []) (shown y)) k (inl refl) } in
          let a = go (Some (the_instances t)) ((vs ++ (follows t ∷ [])) ++ selector_uses p s) (covers_more _ _ _ (record { by = λ x e. has_right vs (follows t ∷ []) (shown x) (mine.by x e) })) in
          let o' = owner_along (Some (the_instances t)) (selector_note s).kind ss in
          push o' vs (follows t ∷ []) (selector_uses p s ++ along_uses p (selector_note s).kind ss) (push o' (vs ++ (follows t ∷ [])) (selector_uses p s) (along_uses p (selector_note s).kind ss) a)
      by false go =
          let a = go o (vs ++ selector_uses p s) (covers_more o vs (selector_uses p s) h) in
          push (owner_along o (selector_note s).kind ss) vs (selector_uses p s) (along_uses p (selector_note s).kind ss) a

  -- the owner of a place is brought in by the place
  place_backs : (r : Root Note) (ss : Selectors Note) → Backed (owner_uses r ss) (root_uses r ++ along_uses p (root_note r).kind ss)
  place_backs r ss = changed_backed _ _ (owner_covers ss (root_note r).kind (root_owner r) (root_uses r) (root_covers r))

  followed_alone : (b : Bool) (t : StType) → Backed (if b then follows t ∷ [] else []) (if b then follows t ∷ [] else [])
  followed_alone true t = plain_use (follows t) _ (λ o e. cc)
  followed_alone false t = none_backed []

  call_alone : (o : Option Called) → Backed (call_use o) (call_use o)
  call_alone None = none_backed []
  call_alone (Some c) = plain_use (calls c) _ (λ o e. cc)

  bound_backed : (b : Bool) (e : Expression Note) (vs : List Use) → Backed (bound_uses b e) (expression_uses p e ++ vs)
  bound_backed true (Place a r ss) vs = more_left _ (root_uses r ++ along_uses p (root_note r).kind ss) vs (place_backs r ss)
  bound_backed false e vs = none_backed _
  bound_backed true e vs = none_backed _

  -- the owner, the place and what follows
  owned_then : (r : Root Note) (ss : Selectors Note) (us : List Use) → Backed (along_uses p (root_note r).kind ss) (along_uses p (root_note r).kind ss) → Backed us us
      → Backed (owner_uses r ss ++ (root_uses r ++ (along_uses p (root_note r).kind ss ++ us))) (owner_uses r ss ++ (root_uses r ++ (along_uses p (root_note r).kind ss ++ us)))
  owned_then r ss us h k =
      led (owner_uses r ss) (root_uses r ++ (along_uses p (root_note r).kind ss ++ us)) (longer (owner_uses r ss) (root_uses r) (along_uses p (root_note r).kind ss) us (place_backs r ss))
      (whole (root_uses r) (along_uses p (root_note r).kind ss ++ us) (root_alone r) (whole (along_uses p (root_note r).kind ss) us h k))

  mutual
    along_alone : (ss : Selectors Note) (t : StType) → Backed (along_uses p t ss) (along_uses p t ss)
    along_alone no_selectors t = none_backed []
    along_alone (selector_then s ss) t = whole _ _ (followed_alone (is_followed t s) t) (whole _ _ (selector_alone s) (along_alone ss (selector_note s).kind))

    selector_alone : (s : Selector Note) → Backed (selector_uses p s) (selector_uses p s)
    selector_alone (Index a es) = index_alone es
    selector_alone (Field a name) = none_backed []
    selector_alone (tree.Target a) = none_backed []

    index_alone : (es : Expressions Note) → Backed (index_uses p es) (index_uses p es)
    index_alone no_expressions = none_backed []
    index_alone (expression_then e es) = whole _ _ (expression_alone e) (index_alone es)

    expression_alone : (e : Expression Note) → Backed (expression_uses p e) (expression_uses p e)
    expression_alone (Int a digits) = none_backed []
    expression_alone (Typed a k literal) = none_backed []
    expression_alone (Time a text) = none_backed []
    expression_alone (True a) = none_backed []
    expression_alone (False a) = none_backed []
    expression_alone (Null a) = none_backed []
    expression_alone (Place a r ss) = whole _ _ (root_alone r) (along_alone ss (root_note r).kind)
    expression_alone (Call a r ss xs) =
        let ps = called_parameters p (called_of r ss) in
        whole _ _ (call_alone (called_of r ss)) (owned_then r ss (argument_uses p ps ps xs) (along_alone ss (root_note r).kind) (argument_alone xs ps ps))
    expression_alone (Enumerator a t b name) = none_backed []
    expression_alone (Ref a r ss) = whole _ _ (root_alone r) (along_alone ss (root_note r).kind)
    expression_alone (Now a) = none_backed []
    expression_alone (Paren a e) = expression_alone e
    expression_alone (Not a e) = expression_alone e
    expression_alone (Negate a e) = expression_alone e
    expression_alone (Chain a e ts) = whole _ _ (expression_alone e) (tail_alone ts)

    tail_alone : (ts : Tails Note) → Backed (tail_uses p ts) (tail_uses p ts)
    tail_alone no_tails = none_backed []
    tail_alone (tail_then a o e ts) = whole _ _ (expression_alone e) (tail_alone ts)

    argument_alone : (xs : Arguments Note) (ps left : List Parameter) → Backed (argument_uses p ps left xs) (argument_uses p ps left xs)
    argument_alone no_arguments ps left = none_backed []
    argument_alone (argument_then (Positional e) xs) ps left =
        led _ _ (bound_backed (is_bound (next_parameter left)) e _) (whole _ _ (expression_alone e) (argument_alone xs ps (behind_next left)))
    argument_alone (argument_then (Input a name e) xs) ps left =
        led _ _ (bound_backed (is_bound (parameter_named ps a)) e _) (whole _ _ (expression_alone e) (argument_alone xs ps left))
    argument_alone (argument_then (Output a name b r ss) xs) ps left = owned_then r ss (argument_uses p ps left xs) (along_alone ss (root_note r).kind) (argument_alone xs ps left)

  -- the same of places that stand before something else
  owned_place : (r : Root Note) (ss : Selectors Note) (us : List Use) → Backed us us
      → Backed (owner_uses r ss ++ (place_uses p r ss ++ us)) (owner_uses r ss ++ (place_uses p r ss ++ us))
  owned_place r ss us k =
      led (owner_uses r ss) (place_uses p r ss ++ us) (more_left (owner_uses r ss) (place_uses p r ss) us (place_backs r ss))
      (whole (place_uses p r ss) us (whole (root_uses r) (along_uses p (root_note r).kind ss) (root_alone r) (along_alone ss (root_note r).kind)) k)

  calls_alone : (r : Root Note) (ss : Selectors Note) (xs : Arguments Note) → Backed (call_uses p r ss xs) (call_uses p r ss xs)
  calls_alone r ss xs =
      let ps = called_parameters p (called_of r ss) in
      whole _ _ (call_alone (called_of r ss)) (owned_place r ss (argument_uses p ps ps xs) (argument_alone xs ps ps))

  tried_alone : (t : StType) → Backed (tried p t) (tried p t)
  tried_alone (type.Reference c) = plain_use (follows (type.Reference c)) _ (λ o e. cc)
  tried_alone (type.Interface i) = plain_use (follows (type.Interface i)) _ (λ o e. cc)
  tried_alone t = none_backed []

  step_alone : (o : Option (Expression Note)) → Backed (step_uses p o) (step_uses p o)
  step_alone None = none_backed []
  step_alone (Some e) = expression_alone e

  mutual
    statement_alone : (s : Statement Note) → Backed (statement_uses p s) (statement_uses p s)
    statement_alone (Empty line) = none_backed []
    statement_alone (Assign line a r ss e) = owned_place r ss (expression_uses p e) (expression_alone e)
    statement_alone (Attempt line a r ss e) = whole _ _ (tried_alone (note_of e).kind) (owned_place r ss (expression_uses p e) (expression_alone e))
    statement_alone (effect_tree.Call line a r ss xs) = calls_alone r ss xs
    statement_alone (Exit line) = none_backed []
    statement_alone (Continue line) = none_backed []
    statement_alone (Return line) = none_backed []
    statement_alone (If line branches otherwise) = whole _ _ (branch_alone branches) (otherwise_alone otherwise)
    statement_alone (Case line e cases otherwise) = whole _ _ (expression_alone e) (whole _ _ (case_alone cases) (otherwise_alone otherwise))
    statement_alone (For line a name from to by body) =
        let rest = expression_uses p from ++ (expression_uses p to ++ (step_uses p by ++ body_uses p body)) in
        led (changed (named_region a.target)) (name_uses a.target ++ rest) (more_left _ (name_uses a.target) rest (changed_backed _ _ (name_covers a.target)))
        (whole _ _ (named_alone a.target) (whole _ _ (expression_alone from) (whole _ _ (expression_alone to) (whole _ _ (step_alone by) (body_alone body)))))
    statement_alone (While line e body) = whole _ _ (expression_alone e) (body_alone body)
    statement_alone (Repeat line body e) = whole _ _ (body_alone body) (expression_alone e)

    body_alone : (ss : Statements Note) → Backed (body_uses p ss) (body_uses p ss)
    body_alone no_statements = none_backed []
    body_alone (statement_then s ss) = whole _ _ (statement_alone s) (body_alone ss)

    branch_alone : (bs : Branches Note) → Backed (branch_uses p bs) (branch_uses p bs)
    branch_alone no_branches = none_backed []
    branch_alone (branch_then e body bs) = whole _ _ (expression_alone e) (whole _ _ (body_alone body) (branch_alone bs))

    case_alone : (cs : Cases Note) → Backed (case_uses p cs) (case_uses p cs)
    case_alone no_cases = none_backed []
    case_alone (case_then labels body cs) = whole _ _ (body_alone body) (case_alone cs)

    otherwise_alone : (o : Otherwise Note) → Backed (otherwise_uses p o) (otherwise_uses p o)
    otherwise_alone Nothing = none_backed []
    otherwise_alone (Else body) = body_alone body

altered_touched : (p : Program) (b : Routine) (u : Use) (r : ℕ) → Has (routine_uses p b) u → Alters p u r → (v : Use) × Has (routine_uses p b) v × Touches p v r
altered_touched p b (changes (the_region g)) r h k = (names g, (body_alone p b.body).by (the_region g) h, k)
altered_touched p b (changes (the_instances t)) r h k = (follows t, (body_alone p b.body).by (the_instances t) h, k)
altered_touched p b (names g) r h k = absurd k
altered_touched p b (follows t) r h k = absurd k
altered_touched p b (calls c) r h k = absurd k

pub writes_read : (p : Program) (task r : ℕ) → Writes p task r → Footprint p task r
writes_read p task r (footprint.Writes.own_program h) = own_program h
writes_read p task r (latched x h i e f) = f
writes_read p task r (altered b u reached h k) = let a = altered_touched p b u r h k in touched b a.0 reached a.1 a.2

-- ---- a cycle goes by which regions there are

pub has_any : (fs : List ℕ) (r : ℕ) → Has fs r → is_among r fs ≡ true
has_any [] r h = absurd h
has_any (x ∷ xs) r h =
    ⊎_elim
    (λ e. ap (λ b. b || is_among r xs) (eq-eqb r x e))
    (λ k. by (nat_eq r x) (has_any xs r k))
    h
  where
    by : (b : Bool) → is_among r xs ≡ true → b || is_among r xs ≡ true
    by true e = refl
    by false e = e

pub any_has : (fs : List ℕ) (r : ℕ) → is_among r fs ≡ true → Has fs r
any_has [] r e = cc
any_has (x ∷ xs) r e = by (nat_eq r x) refl (any_has xs r) e
  where
    by : (b : Bool) → nat_eq r x ≡ b → (is_among r xs ≡ true → Has xs r) → b || is_among r xs ≡ true → (r ≡ x) ⊎ Has xs r
    by true q k f = inl (eqb-true r x q)
    by false q k f = inr (k f)

-- lists that hold the same
same_test : (fs gs : List ℕ) → ((r : ℕ) → Has fs r → Has gs r) → ((r : ℕ) → Has gs r → Has fs r) → (r : ℕ) → is_among r fs ≡ is_among r gs
same_test fs gs h k r = by (is_among r fs) (is_among r gs) refl refl
  where
    by : (a b : Bool) → is_among r fs ≡ a → is_among r gs ≡ b → is_among r fs ≡ is_among r gs
    by true true e f = e ∙ sym f
    by false false e f = e ∙ sym f
    by true false e f = let q = has_any gs r (h r (any_has fs r e)) in cc
    by false true e f = let q = has_any fs r (k r (any_has gs r f)) in cc

module _ (fs gs : List ℕ) (same : (r : ℕ) → is_among r fs ≡ is_among r gs) where
  latch_same : (xs : List Located) (input : List ℕ) (s : Store) → latch xs fs input s ≡ latch xs gs input s
  latch_same [] input s = refl
  latch_same (x ∷ xs) input s =
      ap (λ b. latch xs fs input (if is_in area.Input x && b then or_same s (put s x.path (number (input_value input x))) else s)) (same x.path.region)
      ∙ latch_same xs input _

  byte_same : (xs : List Located) (s : Store) (b : ℕ) → output_byte xs fs s b ≡ output_byte xs gs s b
  byte_same [] s b = refl
  byte_same (x ∷ xs) s b =
      ap (λ t. (if is_in area.Output x && t then share x.address (number_or_zero (at s x.path)) b else 0) + output_byte xs fs s b) (same x.path.region)
      ∙ ap (λ n. (if is_in area.Output x && is_among x.path.region gs then share x.address (number_or_zero (at s x.path)) b else 0) + n) (byte_same xs s b)

  covered_same : (xs : List Located) → covered xs fs ≡ covered xs gs
  covered_same [] = refl
  covered_same (x ∷ xs) =
      ap (λ t. max (if is_in area.Output x && t then first_byte x.address + size_of x.address else 0) (covered xs fs)) (same x.path.region)
      ∙ ap (λ n. max (if is_in area.Output x && is_among x.path.region gs then first_byte x.address + size_of x.address else 0) n) (covered_same xs)

  mapped_same : (xs : List Located) (s : Store) (bs : List ℕ) → map (output_byte xs fs s) bs ≡ map (output_byte xs gs s) bs
  mapped_same xs s [] = refl
  mapped_same xs s (b ∷ bs) = ap (λ n. n ∷ map (output_byte xs fs s) bs) (byte_same xs s b) ∙ ap (λ ns. output_byte xs gs s b ∷ ns) (mapped_same xs s bs)

  collect_same : (xs : List Located) (s : Store) → collect xs fs s ≡ collect xs gs s
  collect_same xs s = mapped_same xs s (range_with_len 0 (covered xs fs)) ∙ ap (λ n. map (output_byte xs gs s) (range_with_len 0 n)) (covered_same xs)

  ended_same : (p : Program) (s : Store) (o : Outcome (Unit {0})) → ended p fs s o ≡ ended p gs s o
  ended_same p s (Done a t) = ap (λ bs. (reply.Done (all_ticks - t.ticks) bs, t.store)) (collect_same (located_of p) t.store)
  ended_same p s (Fault kind line) = refl

  cycle_same : (p : Program) (task now : ℕ) (input : List ℕ) (s : Store) → cycle p fs task now input s ≡ cycle p gs task now input s
  cycle_same p task now input s =
      ended_same p s (run_task p task 0 (begun (latch (located_of p) fs input s) now))
      ∙ ap (λ t. ended p gs s (run_task p task 0 (begun t now))) (latch_same (located_of p) input s)

pub footprint_laws : FootprintLaws
footprint_laws = record {
  writes_read = writes_read;
  one_cycle = λ p task fs gs now input s f g. cycle_same fs gs (same_test fs gs (λ r h. g.complete r (f.sound r h)) (λ r h. f.complete r (g.sound r h))) p task now input s;
}
