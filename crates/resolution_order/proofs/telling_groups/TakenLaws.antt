-- Groups are taken one after the other.
use Rattle.std.proofs.Common.{◌≡◌, ℕ, zero, suc, ◌+◌, ◌<◌, ◌≤◌, Bool, true, false, List, [], ◌∷◌, ◌++◌, Option, Some, None, map, length, get_or, replicate, refl, sym, ap, ◌∙◌, subst, arith, ◌⊎◌, inl, inr}
use Rattle.std.specs.Prelude.{slice_get, flat_map, option_map}
use Rattle.std.proofs.lemmas.Option.{slice_get_within, slice_get-map, slice_get-get_or}
use Rattle.std.proofs.lemmas.List.{map-append}
use Rattle.st_tree.specs.declared.unit.Decl.{Decl}
use Rattle.resolution_order.specs.telling_list.Jobs.{Job, jobs_in}
use Rattle.resolution_order.specs.telling_groups.Groups.{Group, jobs_of_group, group_of}
use Rattle.resolution_order.specs.declared.telling_groups.groups.Group.{Group as Held}
use Rattle.resolution_order.specs.telling_groups.Arranged.{Among, Arranges}
use Rattle.resolution_order.specs.telling_groups.Private.Listed.{groups_in}
use Rattle.resolution_order.specs.telling_groups.Private.Taken.{Taken, Takes, TakenTo, SameGroups}
use Rattle.resolution_order.proofs.telling_groups.GroupLaws.{told_by, groups-tell}

-- ---- items of lists

pub some-same : {X : Type 0} {x y : X} → Some x ≡ Some y → x ≡ y
some-same h = cc

pub none-some : {X : Type 0} {x : X} → None ≡ Some x → ⊥
none-some h = cc

among-left : {X : Type 0} (x : X) (xs ys : List X) (p : ℕ) → slice_get xs p ≡ Some x → Among x (xs ++ ys)
among-left x [] ys p e = absurd (none-some e)
among-left x (y ∷ xs) ys zero e = record { place = zero; at = e }
among-left x (y ∷ xs) ys (suc p) e = let r = among-left x xs ys p e in record { place = suc r.place; at = r.at }

among-right : {X : Type 0} (x : X) (xs ys : List X) → Among x ys → Among x (xs ++ ys)
among-right x [] ys h = h
among-right x (y ∷ xs) ys h = let r = among-right x xs ys h in record { place = suc r.place; at = r.at }

among-either : {X : Type 0} (x : X) (xs ys : List X) (p : ℕ) → slice_get (xs ++ ys) p ≡ Some x → Among x xs ⊎ Among x ys
among-either x [] ys p e = inr (record { place = p; at = e })
among-either x (y ∷ xs) ys zero e = inl (record { place = zero; at = e })
among-either x (y ∷ xs) ys (suc p) e = elim (among-either x xs ys p e) [ inl r ↦ inl (record { place = suc r.place; at = r.at }) | inr r ↦ inr r ]

among-one : {X : Type 0} (x y : X) → Among x (y ∷ []) → y ≡ x
among-one x y h = at h.place h.at
  where
    at : (p : ℕ) → slice_get (y ∷ []) p ≡ Some x → y ≡ x
    at zero e = some-same e
    at (suc p) e = absurd (none-some e)

among-flat : {X Y : Type 0} (f : X → List Y) (y : Y) (xs : List X) (p : ℕ) (x : X) → slice_get xs p ≡ Some x → Among y (f x) → Among y (flat_map f xs)
among-flat f y [] p x e h = absurd (none-some e)
among-flat f y (z ∷ xs) zero x e h = let m = subst (λ u. Among y (f u)) (sym (some-same e)) h in among-left y (f z) (flat_map f xs) m.place m.at
among-flat f y (z ∷ xs) (suc p) x e h = among-right y (f z) (flat_map f xs) (among-flat f y xs p x e h)

flat-among : {X Y : Type 0} (f : X → List Y) (y : Y) (xs : List X) (p : ℕ) → slice_get (flat_map f xs) p ≡ Some y → (x : X) × Among x xs × Among y (f x)
flat-among f y [] p e = absurd (none-some e)
flat-among f y (x ∷ xs) p e = elim (among-either y (f x) (flat_map f xs) p e) [
  | inl m ↦ (x, record { place = zero; at = refl }, m)
  | inr m ↦ let r = flat-among f y xs m.place m.at in (r.0, record { place = suc (r.1).place; at = (r.1).at }, r.2)
]

-- ---- one group

pub takes_marked : (groups list : List Group) (marks : List Bool) (place : ℕ) → Taken groups list marks → slice_get marks place ≡ Some true → Takes groups list list place
takes_marked groups list marks place t h = record { stays = λ g m. m; there = λ g e. t.marked place g h e }

pub takes_nothing : (groups list : List Group) (place : ℕ) → slice_get groups place ≡ None → Takes groups list list place
takes_nothing groups list place h = record { stays = λ g m. m; there = λ g e. absurd (none-some (sym h ∙ e)) }

pub takes_one : (groups list more : List Group) (place : ℕ) (g : Group) → slice_get groups place ≡ Some g → more ≡ list ++ g ∷ [] → Takes groups list more place
takes_one groups list more place g h e = record {
  stays = λ x m. subst (Among x) (sym e) (among-left x list (g ∷ []) m.place m.at);
  there = λ x k. subst (Among x) (sym e) (among-right x list (g ∷ []) (record { place = zero; at = sym h ∙ k }));
}

pub taken_one : (groups list more : List Group) (marks after : List Bool) (place : ℕ) (g : Group) → Taken groups list marks → slice_get groups place ≡ Some g → more ≡ list ++ g ∷ []
    → ((q : ℕ) → slice_get after q ≡ Some true → (q ≡ place) ⊎ (slice_get marks q ≡ Some true)) → Taken groups more after
taken_one groups list more marks after place g t h e m = record {
  within = λ x a. let b = subst (Among x) e a in was x (among-either x list (g ∷ []) b.place b.at);
  marked = λ p x k a. subst (Among x) (sym e) (there p x a (m p k));
}
  where
    was : (x : Group) → Among x list ⊎ Among x (g ∷ []) → Among x groups
    was x (inl a) = t.within x a
    was x (inr a) = record { place = place; at = h ∙ ap Some (among-one x g a) }

    there : (p : ℕ) (x : Group) → slice_get groups p ≡ Some x → (p ≡ place) ⊎ (slice_get marks p ≡ Some true) → Among x (list ++ g ∷ [])
    there p x a (inl q) = among-right x list (g ∷ []) (record { place = zero; at = sym h ∙ ap (slice_get groups) (sym q) ∙ a })
    there p x a (inr q) = let r = t.marked p x q a in among-left x list (g ∷ []) r.place r.at

-- the same of groups as the code lends them
pub pushed : (list more : List Held) (g : Held) → more ≡ list ++ g ∷ [] → map group_of more ≡ map group_of list ++ group_of g ∷ []
pushed list more g e = ap (map group_of) e ∙ map-append group_of list (g ∷ [])

pub got : (groups : List Held) (place : ℕ) (g : Held) → place < length groups → g ≡ get_or groups place g → slice_get (map group_of groups) place ≡ Some (group_of g)
got groups place g l e = slice_get-map group_of groups place ∙ ap (option_map group_of) (slice_get-get_or groups place g l ∙ ap Some (sym e))

-- ---- all groups

not-replicated : (n p : ℕ) → slice_get (replicate n false) p ≡ Some true → ⊥
not-replicated zero p e = none-some e
not-replicated (suc n) zero e = cc
not-replicated (suc n) (suc p) e = not-replicated n p e

pub taken_begun : (groups : List Group) (n : ℕ) → Taken groups [] (replicate n false)
taken_begun groups n = record { within = λ g m. absurd (none-some m.at); marked = λ p g h e. absurd (not-replicated n p h) }

pub taken_to_begun : (groups list : List Group) (marks : List Bool) → Taken groups list marks → TakenTo groups list marks 0
taken_to_begun groups list marks t = record { taken = t; first = λ p g l e. absurd (omega arith) }

earlier_or_last : (i n : ℕ) → i < n + 1 → (i < n) ⊎ (i ≡ n)
earlier_or_last zero zero l = inr refl
earlier_or_last zero (suc n) l = inl (omega arith)
earlier_or_last (suc i) zero l = absurd (omega arith)
earlier_or_last (suc i) (suc n) l = elim (earlier_or_last i n (omega arith)) [ inl p ↦ inl (omega arith) | inr p ↦ inr (ap (λ m. suc m) p) ]

pub taken_to_next : (groups list more : List Group) (marks after : List Bool) (n : ℕ) → TakenTo groups list marks n → Taken groups more after → Takes groups list more n → TakenTo groups more after (n + 1)
taken_to_next groups list more marks after n t u k = record { taken = u; first = λ p g l e. at p g e (earlier_or_last p n l) }
  where
    at : (p : ℕ) (g : Group) → slice_get groups p ≡ Some g → (p < n) ⊎ (p ≡ n) → Among g more
    at p g e (inl l) = k.stays g (t.first p g l e)
    at p g e (inr q) = k.there g (ap (slice_get groups) (sym q) ∙ e)

pub taken_all : (groups list : List Group) (marks : List Bool) (n : ℕ) → length groups ≤ n → TakenTo groups list marks n → SameGroups groups list
taken_all groups list marks n l t = record {
  within = (t.taken).within;
  all = λ g m. let w = slice_get_within groups m.place g m.at in t.first m.place g (omega (arith, w, l)) m.at;
}

pub arranges : (decls : List (Decl ℕ)) (groups list : List Group) → groups ≡ groups_in decls → SameGroups groups list → Arranges decls list
arranges decls groups list e s = record {
  within = λ g j a b. let m = s.within g a in subst (Among j) told (among-flat jobs_of_group j groups m.place g m.at b);
  all = λ j a. let b = subst (Among j) (sym told) a in let r = flat-among jobs_of_group j groups b.place b.at in (r.0, s.all r.0 r.1, r.2);
}
  where
    told : told_by groups ≡ jobs_in decls
    told = ap told_by e ∙ groups-tell decls
