-- Rounds over the groups that are left.
use Rattle.std.proofs.Common.{◌≡◌, ℕ, zero, suc, ◌+◌, ◌<◌, ◌≤◌, Bool, true, false, List, [], ◌∷◌, ◌++◌, Option, Some, None, map, get_or, length, refl, sym, ap, ◌∙◌, subst, arith, ◌⊎◌, inl, inr, append-nil}
use Rattle.std.specs.Prelude.{slice_get, option_map, if◌then◌else◌}
use Rattle.std.proofs.lemmas.Option.{slice_get_within, slice_get-map, slice_get-get_or}
use Rattle.st_tree.specs.declared.unit.Decl.{Decl}
use Rattle.st_rules.specs.declared.names.DeclaredNames.{DeclaredNames}
use Rattle.name_resolution.specs.Tables.{Told}
use Rattle.resolution_order.specs.told_laws.ToldLaws.{Every}
use Rattle.resolution_order.specs.telling_list.Jobs.{Job, jobs_in, is_told_of, can_be_told, IsDone}
use Rattle.resolution_order.proofs.telling_list.JobLaws.{job-laws}
use Rattle.resolution_order.specs.telling_groups.Groups.{Group, group_of, jobs_of_group}
use Rattle.resolution_order.specs.declared.telling_groups.groups.Group.{Group as Held}
use Rattle.resolution_order.specs.telling_groups.Arranged.{Among, Arranges}
use Rattle.type_resolution.specs.told_names.Told.{TellsAll}
use Rattle.type_resolution.specs.told_names.Private.State.{Untellable, IsState, IsOfUnit, AreOfUnit, GroupTold, Stays, Visits, Keeps, Passes, IsLeft}

among-left : {X : Type 0} (x : X) (xs ys : List X) (p : ℕ) → slice_get xs p ≡ Some x → Among x (xs ++ ys)
among-left x [] ys p e = absurd (none-some e)
  where
    none-some : {X : Type 0} {x : X} → None ≡ Some x → ⊥
    none-some h = cc
among-left x (y ∷ xs) ys zero e = record { place = zero; at = e }
among-left x (y ∷ xs) ys (suc p) e = let r = among-left x xs ys p e in record { place = suc r.place; at = r.at }

among-right : {X : Type 0} (x : X) (xs ys : List X) → Among x ys → Among x (xs ++ ys)
among-right x [] ys h = h
among-right x (y ∷ xs) ys h = let r = among-right x xs ys h in record { place = suc r.place; at = r.at }

among-either : {X : Type 0} (x : X) (xs ys : List X) (p : ℕ) → slice_get (xs ++ ys) p ≡ Some x → Among x xs ⊎ Among x ys
among-either x [] ys p e = inr (record { place = p; at = e })
among-either x (y ∷ xs) ys zero e = inl (record { place = zero; at = e })
among-either x (y ∷ xs) ys (suc p) e = elim (among-either x xs ys p e) [ inl r ↦ inl (record { place = suc r.place; at = r.at }) | inr r ↦ inr r ]

some-same : {X : Type 0} {x y : X} → Some x ≡ Some y → x ≡ y
some-same h = cc

among-one : {X : Type 0} (x y : X) (p : ℕ) → slice_get (y ∷ []) p ≡ Some x → y ≡ x
among-one x y zero e = some-same e
among-one x y (suc p) e = absurd (none-some e)
  where
    none-some : {X : Type 0} {x : X} → None ≡ Some x → ⊥
    none-some h = cc

earlier_or_last : (i n : ℕ) → i < n + 1 → (i < n) ⊎ (i ≡ n)
earlier_or_last zero zero l = inr refl
earlier_or_last zero (suc n) l = inl (omega arith)
earlier_or_last (suc i) zero l = absurd (omega arith)
earlier_or_last (suc i) (suc n) l = elim (earlier_or_last i n (omega arith)) [ inl p ↦ inl (omega arith) | inr p ↦ inr (ap (λ m. suc m) p) ]

length-one : {X : Type 0} (xs : List X) (x : X) → length (xs ++ x ∷ []) ≡ length xs + 1
length-one [] x = refl
length-one (y ∷ xs) x = more (length (xs ++ x ∷ [])) (length xs) (length-one xs x)
  where
    more : (a b : ℕ) → a ≡ b + 1 → suc a ≡ suc b + 1
    more a b h = omega (arith, h)

module _ (decls : List (Decl ℕ)) where
  -- ---- one round

  pub passes_begun : (gs : List Group) (t : Told) → IsState decls t → Passes decls gs t t [] 0
  passes_begun gs t s = record {
    state = s;
    stays = record { each = λ j h. h };
    told = λ p g l e. absurd (omega arith);
    within = λ g m. absurd (none-some m.at);
    fewer = omega arith;
    same = λ e. refl;
    none = λ e p g l h. absurd (omega arith);
  }
    where
      none-some : {X : Type 0} {x : X} → None ≡ Some x → ⊥
      none-some h = cc

  group-stays : (t u : Told) (g : Group) → Stays t u → GroupTold t.names g → GroupTold u.names g
  group-stays t u g s h = record { each = λ j m. s.each j (h.each j m) }

  stays-then : (t u v : Told) → Stays t u → Stays u v → Stays t v
  stays-then t u v a b = record { each = λ j h. b.each j (a.each j h) }

  -- of a group of which something was told
  next-told : (gs : List Group) (old mid new : Told) (left : List Group) (n : ℕ) (g : Group) → slice_get gs n ≡ Some g → Visits decls g mid new true → Passes decls gs old mid left n → Passes decls gs old new left (n + 1)
  next-told gs old mid new left n g e v p = record {
    state = v.state;
    stays = stays-then old mid new p.stays v.stays;
    told = λ i x l h. at i x h (earlier_or_last i n l);
    within = p.within;
    fewer = let f = p.fewer in omega (arith, f);
    same = λ q. let f = p.fewer in absurd (omega (arith, f, q));
    none = λ q. let f = p.fewer in absurd (omega (arith, f, q));
  }
    where
      at : (i : ℕ) (x : Group) → slice_get gs i ≡ Some x → (i < n) ⊎ (i ≡ n) → GroupTold new.names x ⊎ Among x left
      at i x h (inl l) = elim (p.told i x l h) [ inl a ↦ inl (group-stays mid new x v.stays a) | inr m ↦ inr m ]
      at i x h (inr q) = inl (subst (λ y. GroupTold new.names y) (some-same (sym e ∙ ap (slice_get gs) (sym q) ∙ h)) (v.told refl))

  -- of one that is kept
  next-kept : (gs : List Group) (old mid new : Told) (left : List Group) (n : ℕ) (g : Group) → slice_get gs n ≡ Some g → Visits decls g mid new false → Passes decls gs old mid left n → Passes decls gs old new (left ++ g ∷ []) (n + 1)
  next-kept gs old mid new left n g e v p = record {
    state = v.state;
    stays = stays-then old mid new p.stays v.stays;
    told = λ i x l h. at i x h (earlier_or_last i n l);
    within = λ x m. of x (among-either x left (g ∷ []) m.place m.at);
    fewer = let f = p.fewer in let o = length-one left g in omega (arith, f, o);
    same = λ q. v.same refl ∙ p.same (long q);
    none = λ q i x l h. nothing (long q) i x h (earlier_or_last i n l);
  }
    where
      long : length (left ++ g ∷ []) ≡ n + 1 → length left ≡ n
      long q = let o = length-one left g in omega (arith, o, q)

      at : (i : ℕ) (x : Group) → slice_get gs i ≡ Some x → (i < n) ⊎ (i ≡ n) → GroupTold new.names x ⊎ Among x (left ++ g ∷ [])
      at i x h (inl l) = elim (p.told i x l h) [ inl a ↦ inl (group-stays mid new x v.stays a) | inr m ↦ inr (among-left x left (g ∷ []) m.place m.at) ]
      at i x h (inr q) = inr (among-right x left (g ∷ []) (record { place = zero; at = sym e ∙ ap (slice_get gs) (sym q) ∙ h }))

      of : (x : Group) → Among x left ⊎ Among x (g ∷ []) → Among x gs
      of x (inl m) = p.within x m
      of x (inr m) = record { place = n; at = e ∙ ap Some (among-one x g m.place m.at) }

      nothing : length left ≡ n → (i : ℕ) (x : Group) → slice_get gs i ≡ Some x → (i < n) ⊎ (i ≡ n) → Untellable decls old.names x
      nothing q i x h (inl l) = p.none q i x l h
      nothing q i x h (inr w) =
          subst (λ (t : Told). Untellable decls t.names x) (p.same q)
          (subst (λ y. Untellable decls mid.names y) (some-same (sym e ∙ ap (slice_get gs) (sym w) ∙ h)) (v.none refl))

  pub passes_next : (gs : List Group) (old mid new : Told) (left more : List Group) (n : ℕ) (g : Group) → slice_get gs n ≡ Some g → Keeps decls g mid new left more → Passes decls gs old mid left n → Passes decls gs old new more (n + 1)
  passes_next gs old mid new left more n g e k p = subst (λ xs. Passes decls gs old new xs (n + 1)) (sym k.kept) (at k.any k.visits)
    where
      at : (b : Bool) → Visits decls g mid new b → Passes decls gs old new (left ++ (if b then [] else g ∷ [])) (n + 1)
      at true v = subst (λ xs. Passes decls gs old new xs (n + 1)) (sym (append-nil left)) (next-told gs old mid new left n g e v p)
      at false v = next-kept gs old mid new left n g e v p

  -- ---- all rounds

  pub left_begun : (gs : List Group) (t : Told) → Arranges decls gs → IsState decls t → IsLeft decls t gs
  left_begun gs t a s = record {
    state = s;
    within = record { each = λ g m. record { each = λ j h. a.within g j m h } };
    left = λ j m. inr (a.all j m);
  }

  pub left_next : (gs : List Group) (old new : Told) (left : List Group) (n : ℕ) → length gs ≤ n → IsLeft decls old gs → Passes decls gs old new left n → IsLeft decls new left
  left_next gs old new left n l s p = record {
    state = p.state;
    within = record { each = λ g m. (s.within).each g (p.within g m) };
    left = λ j m. at j (s.left j m);
  }
    where
      at : (j : Job) → (is_told_of old.names j ≡ true) ⊎ ((g : Group) × Among g gs × Among j (jobs_of_group g)) → (is_told_of new.names j ≡ true) ⊎ ((g : Group) × Among g left × Among j (jobs_of_group g))
      at j (inl h) = inl ((p.stays).each j h)
      at j (inr r) =
          let w = slice_get_within gs (r.1).place r.0 (r.1).at in
          elim (p.told (r.1).place r.0 (omega (arith, w, l)) (r.1).at) [ inl a ↦ inl (a.each j r.2) | inr m ↦ inr (r.0, m, r.2) ]

  every-among : (P : Job → Type 0) (js : List Job) → ((j : Job) → Among j js → P j) → Every P js
  every-among P [] f = tt
  every-among P (j ∷ js) f = (f j (record { place = zero; at = refl }), every-among P js (λ i m. f i (record { place = suc m.place; at = m.at })))

  pub left_ended : (gs : List Group) (old new : Told) (left : List Group) (n : ℕ) → length gs ≡ n → n ≤ length left → IsLeft decls old gs → Passes decls gs old new left n → TellsAll decls new.names
  left_ended gs old new left n q l s p = record {
    sound = (p.state).sound;
    whole = job-laws.ended decls new.names (p.state).sound (every-among (IsDone decls new.names) (jobs_in decls) (λ j m. at j (s.left j m)));
  }
    where
      all : length left ≡ n
      all = let f = p.fewer in omega (arith, f, l)

      both : (b : Bool) → b ≡ true → b ≡ false → ⊥
      both b h k = cc

      at : (j : Job) → (is_told_of old.names j ≡ true) ⊎ ((g : Group) × Among g gs × Among j (jobs_of_group g)) → IsDone decls new.names j
      at j (inl h) = λ c. (p.stays).each j h
      at j (inr r) =
          let w = slice_get_within gs (r.1).place r.0 (r.1).at in
          let u = p.none all (r.1).place r.0 (omega (arith, w, q)) (r.1).at in
          subst (λ (t : Told). IsDone decls t.names j) (sym (p.same all)) (λ c. absurd (both (can_be_told decls old.names j) c (u.each j r.2)))

-- ---- the groups as the code lends them

long : (xs : List Held) → length (map group_of xs) ≡ length xs
long [] = refl
long (x ∷ xs) = ap (λ n. suc n) (long xs)

pub rounds_next : (decls : List (Decl ℕ)) (groups lent left : List Held) (old new : Told) → lent ≡ groups → IsLeft decls old (map group_of groups) → Passes decls (map group_of lent) old new (map group_of left) (length lent)
    → IsLeft decls new (map group_of left)
rounds_next decls groups lent left old new e l p =
    let q = long groups in
    left_next decls (map group_of groups) old new (map group_of left) (length groups) (omega (arith, q)) l (subst (λ (xs : List Held). Passes decls (map group_of xs) old new (map group_of left) (length xs)) e p)

pub rounds_ended : (decls : List (Decl ℕ)) (groups lent left : List Held) (old new : Told) → lent ≡ groups → length groups ≤ length left → IsLeft decls old (map group_of groups)
    → Passes decls (map group_of lent) old new (map group_of left) (length lent) → TellsAll decls new.names
rounds_ended decls groups lent left old new e m l p =
    let q = long left in
    left_ended decls (map group_of groups) old new (map group_of left) (length groups) (long groups) (omega (arith, q, m)) l
    (subst (λ (xs : List Held). Passes decls (map group_of xs) old new (map group_of left) (length xs)) e p)

pub item-at : (groups : List Held) (i : ℕ) (x : Held) → i < length groups → x ≡ get_or groups i x → slice_get (map group_of groups) i ≡ Some (group_of x)
item-at groups i x l e = slice_get-map group_of groups i ∙ ap (option_map group_of) (slice_get-get_or groups i x l ∙ ap Some (sym e))

pub item-of : (decls : List (Decl ℕ)) (groups : List Held) (i : ℕ) (x : Held) → AreOfUnit decls (map group_of groups) → i < length groups → x ≡ get_or groups i x → IsOfUnit decls (group_of x)
item-of decls groups i x a l e = a.each (group_of x) (record { place = i; at = item-at groups i x l e })
