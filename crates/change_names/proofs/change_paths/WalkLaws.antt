-- The walk from one program to the other is the three ways of the definitions one after the other.
use Rattle.std.proofs.Common.{◌≡◌, ℕ, List, [], ◌∷◌, ◌++◌, append_assoc, append-nil, Option, Some, None, refl, sym, ap, ◌∙◌, Result, Ok, Err, IfOk}
use Rattle.st_values.specs.Program.{Program}
use Rattle.st_values.specs.Value.{Path, Step, ◌>>=◌}
use Rattle.st_values.specs.Shape.{Shape, shape_part}
use Rattle.st_change.specs.From.{Way, part_by, way_of, step_of, ways_of, steps_of, old_way, new_way, old_ways, new_ways, old_region, new_region, old_path, new_path}
use Rattle.st_values.specs.Shape as plain
use Rattle.change_names.specs.declared.change_paths.which.Which.{Which}
use Rattle.change_names.specs.declared.change_paths.which.Which.TheVariants as which
use Rattle.change_names.specs.change_paths.Private.Walk.{behind, StepThere, turned, step_there, steps_there, path_there}
use Rattle.change_names.proofs.change_paths.NumberLaws.{by_step}

-- ---- options one after the other

pub in_turn : {A B C : Type 0} (o : Option A) (f : A → Option B) (g : B → Option C) → (o >>= f >>= g) ≡ (o >>= λ a. f a >>= g)
in_turn None f g = refl
in_turn (Some a) f g = refl

pub same_on : {A B : Type 0} (o : Option A) (f g : A → Option B) → ((a : A) → f a ≡ g a) → (o >>= f) ≡ (o >>= g)
same_on None f g h = refl
same_on (Some a) f g h = h a

abbrev nowhere : {B : Type 0} → Option B
nowhere = None

none_behind : {A B : Type 0} (o : Option A) → (o >>= λ a. nowhere {B = B}) ≡ None
none_behind None = refl
none_behind (Some a) = refl

-- ---- steps behind one

-- what the step there gives, with the rest
abbrev ahead : Shape → Way → (Shape → Option (List Step)) → Option (List Step)
ahead b v rest = step_of b v >>= λ t. shape_part b t >>= λ inner. rest inner >>= λ ts. Some (t ∷ ts)

ahead_none : (b : Shape) (v : Way) → None ≡ ahead b v (λ inner. None)
ahead_none b v = by (step_of b v)
  where
    by : (o : Option Step) → None ≡ (o >>= λ t. shape_part b t >>= λ inner. nowhere {B = List Step} >>= λ ts. Some (t ∷ ts))
    by None = refl
    by (Some t) = sym (none_behind (shape_part b t))

-- the same where the way leads, by the way or by its step
one_step : (b : Shape) (v : Way) (rest : Shape → Option (List Step)) → (step_of b v >>= λ t. part_by b v >>= λ inner. rest inner >>= λ ts. Some (t ∷ ts)) ≡ ahead b v rest
one_step b v rest = by (step_of b v) refl
  where
    by : (o : Option Step) → step_of b v ≡ o → (o >>= λ t. part_by b v >>= λ inner. rest inner >>= λ ts. Some (t ∷ ts)) ≡ (o >>= λ t. shape_part b t >>= λ inner. rest inner >>= λ ts. Some (t ∷ ts))
    by None e = refl
    by (Some t) e = ap (λ q. q >>= λ inner. rest inner >>= λ ts. Some (t ∷ ts)) (by_step b v ∙ ap (λ o. o >>= λ s. shape_part b s) e)

-- the steps of ways behind one
old_ahead : (b : Shape) (v : Way) (m : Option (List Way)) → (m >>= (λ vs. Some (v ∷ vs)) >>= λ vs. steps_of b vs) ≡ ahead b v (λ inner. m >>= λ vs. steps_of inner vs)
old_ahead b v None = ahead_none b v
old_ahead b v (Some vs) = one_step b v (λ inner. steps_of inner vs)

-- the same where the ways go by the place there
new_ahead : (b : Shape) (v : Way) (more : Shape → Option (List Way)) → ((part_by b v >>= λ inner. more inner >>= λ vs. Some (v ∷ vs)) >>= λ vs. steps_of b vs) ≡ ahead b v (λ inner. more inner >>= λ vs. steps_of inner vs)
new_ahead b v more = by (part_by b v) refl ∙ one_step b v (λ inner. more inner >>= λ vs. steps_of inner vs)
  where
    none_there : (o : Option Step) → None ≡ (o >>= λ t. nowhere {B = Shape} >>= λ inner. more inner >>= (λ vs. steps_of inner vs) >>= λ ts. Some (t ∷ ts))
    none_there None = refl
    none_there (Some t) = refl

    no_more : (o : Option Step) → None ≡ (o >>= λ t. nowhere {B = List Step} >>= λ ts. Some (t ∷ ts))
    no_more None = refl
    no_more (Some t) = refl

    at_last : (inner : Shape) (m : Option (List Way)) → part_by b v ≡ Some inner → (m >>= (λ vs. Some (v ∷ vs)) >>= λ vs. steps_of b vs) ≡ (step_of b v >>= λ t. m >>= (λ vs. steps_of inner vs) >>= λ ts. Some (t ∷ ts))
    at_last inner None e = no_more (step_of b v)
    at_last inner (Some vs) e = ap (λ q. step_of b v >>= λ t. q >>= λ part. steps_of part vs >>= λ ts. Some (t ∷ ts)) e

    by : (q : Option Shape) → part_by b v ≡ q → ((q >>= λ inner. more inner >>= λ vs. Some (v ∷ vs)) >>= λ vs. steps_of b vs) ≡ (step_of b v >>= λ t. part_by b v >>= λ inner. more inner >>= (λ vs. steps_of inner vs) >>= λ ts. Some (t ∷ ts))
    by None e = none_there (step_of b v) ∙ ap (λ q. step_of b v >>= λ t. q >>= λ inner. more inner >>= (λ vs. steps_of inner vs) >>= λ ts. Some (t ∷ ts)) (sym e)
    by (Some inner) e = at_last inner (more inner) e ∙ ap (λ q. step_of b v >>= λ t. q >>= λ inner. more inner >>= (λ vs. steps_of inner vs) >>= λ ts. Some (t ∷ ts)) (sym e)

module _ (old new : Program) where
  -- the three ways one after the other
  abbrev pub three : Which → Shape → Shape → List Step → Option (List Step)
  three which.New a b ss = ways_of a ss >>= λ os. new_ways old new b os >>= λ ws. steps_of b ws
  three which.Old a b ss = ways_of a ss >>= λ ws. old_ways old new a ws >>= λ os. steps_of b os

  -- one step of them, where the rest is known
  abbrev one : Which → Shape → Shape → Step → (Shape → Shape → Option (List Step)) → Option (List Step)
  one to a b s rest = way_of a s >>= λ w. part_by a w >>= λ inner. turned old new to a b w >>= λ v. ahead b v (rest inner)

  no_rest : (b : Shape) (o : Option Way) → None ≡ (o >>= λ v. ahead b v (λ there. None))
  no_rest b None = refl
  no_rest b (Some v) = ahead_none b v

  new_rest : (b : Shape) (w : Way) (o : Option (List Way)) → (o >>= (λ ws. Some (w ∷ ws)) >>= λ os. new_ways old new b os >>= λ ws. steps_of b ws) ≡ (new_way old new b w >>= λ v. ahead b v (λ there. o >>= λ os. new_ways old new there os >>= λ ws. steps_of there ws))
  new_rest b w None = no_rest b (new_way old new b w)
  new_rest b w (Some ws) = by (new_way old new b w)
    where
      by : (o : Option Way) → ((o >>= λ v. part_by b v >>= λ part. new_ways old new part ws >>= λ vs. Some (v ∷ vs)) >>= λ vs. steps_of b vs) ≡ (o >>= λ v. ahead b v (λ there. new_ways old new there ws >>= λ vs. steps_of there vs))
      by None = refl
      by (Some v) = new_ahead b v (λ there. new_ways old new there ws)

  old_rest : (a b inner : Shape) (w : Way) (o : Option (List Way)) → part_by a w ≡ Some inner → (o >>= (λ ws. Some (w ∷ ws)) >>= λ ws. old_ways old new a ws >>= λ os. steps_of b os) ≡ (old_way old new a w >>= λ v. ahead b v (λ there. o >>= λ ws. old_ways old new inner ws >>= λ os. steps_of there os))
  old_rest a b inner w None e = no_rest b (old_way old new a w)
  old_rest a b inner w (Some ws) e =
      ap (λ q. (old_way old new a w >>= λ v. q >>= λ part. old_ways old new part ws >>= λ vs. Some (v ∷ vs)) >>= λ vs. steps_of b vs) e ∙ by (old_way old new a w)
    where
      by : (o : Option Way) → ((o >>= λ v. old_ways old new inner ws >>= λ vs. Some (v ∷ vs)) >>= λ vs. steps_of b vs) ≡ (o >>= λ v. ahead b v (λ there. old_ways old new inner ws >>= λ vs. steps_of there vs))
      by None = refl
      by (Some v) = old_ahead b v (old_ways old new inner ws)

  -- the three ways, one step at a time
  three_step : (to : Which) (a b : Shape) (s : Step) (ss : List Step) → three to a b (s ∷ ss) ≡ one to a b s (λ inner there. three to inner there ss)
  three_step which.New a b s ss = first (way_of a s)
    where
      second : (w : Way) (q : Option Shape) → ((q >>= λ part. ways_of part ss >>= λ ws. Some (w ∷ ws)) >>= λ os. new_ways old new b os >>= λ ws. steps_of b ws) ≡ (q >>= λ inner. new_way old new b w >>= λ v. ahead b v (λ there. three which.New inner there ss))
      second w None = refl
      second w (Some inner) = new_rest b w (ways_of inner ss)

      first : (o : Option Way) → ((o >>= λ w. part_by a w >>= λ part. ways_of part ss >>= λ ws. Some (w ∷ ws)) >>= λ os. new_ways old new b os >>= λ ws. steps_of b ws) ≡ (o >>= λ w. part_by a w >>= λ inner. new_way old new b w >>= λ v. ahead b v (λ there. three which.New inner there ss))
      first None = refl
      first (Some w) = second w (part_by a w)
  three_step which.Old a b s ss = first (way_of a s)
    where
      second : (w : Way) (q : Option Shape) → part_by a w ≡ q → ((q >>= λ part. ways_of part ss >>= λ ws. Some (w ∷ ws)) >>= λ ws. old_ways old new a ws >>= λ os. steps_of b os) ≡ (q >>= λ inner. old_way old new a w >>= λ v. ahead b v (λ there. three which.Old inner there ss))
      second w None e = refl
      second w (Some inner) e = old_rest a b inner w (ways_of inner ss) e

      first : (o : Option Way) → ((o >>= λ w. part_by a w >>= λ part. ways_of part ss >>= λ ws. Some (w ∷ ws)) >>= λ ws. old_ways old new a ws >>= λ os. steps_of b os) ≡ (o >>= λ w. part_by a w >>= λ inner. old_way old new a w >>= λ v. ahead b v (λ there. three which.Old inner there ss))
      first None = refl
      first (Some w) = second w (part_by a w) refl

  -- a step of the walk, and the rest
  step_is : (to : Which) (a b : Shape) (s : Step) (rest : Shape → Shape → Option (List Step)) → (step_there old new to a b s >>= λ x. rest x.1.0 x.1.1 >>= λ ts. Some (x.0 ∷ ts)) ≡ one to a b s rest
  step_is to a b s rest =
      in_turn (way_of a s) (λ w. step_of a w >>= λ first. shape_part a first >>= λ inner. beyond w inner) onward
      ∙ same_on (way_of a s) (λ w. (step_of a w >>= λ first. shape_part a first >>= λ inner. beyond w inner) >>= onward) (λ w. part_by a w >>= λ inner. turned old new to a b w >>= λ v. ahead b v (rest inner)) here
    where
      onward : StepThere → Option (List Step)
      onward x = rest x.1.0 x.1.1 >>= λ ts. Some (x.0 ∷ ts)

      beyond : Way → Shape → Option StepThere
      beyond w inner = turned old new to a b w >>= λ v. step_of b v >>= λ t. shape_part b t >>= λ it. Some (t, (inner, it))

      there : (w : Way) (inner : Shape) → (beyond w inner >>= onward) ≡ (turned old new to a b w >>= λ v. ahead b v (rest inner))
      there w inner =
          in_turn (turned old new to a b w) (λ v. step_of b v >>= λ t. shape_part b t >>= λ it. Some (t, (inner, it))) onward
          ∙ same_on (turned old new to a b w) (λ v. (step_of b v >>= λ t. shape_part b t >>= λ it. Some (t, (inner, it))) >>= onward) (λ v. ahead b v (rest inner))
          (λ v.
          in_turn (step_of b v) (λ t. shape_part b t >>= λ it. Some (t, (inner, it))) onward
          ∙ same_on (step_of b v) (λ t. (shape_part b t >>= λ it. Some (t, (inner, it))) >>= onward) (λ t. shape_part b t >>= λ it. rest inner it >>= λ ts. Some (t ∷ ts))
          (λ t. in_turn (shape_part b t) (λ it. Some (t, (inner, it))) onward))

      here : (w : Way) → ((step_of a w >>= λ first. shape_part a first >>= λ inner. beyond w inner) >>= onward) ≡ (part_by a w >>= λ inner. turned old new to a b w >>= λ v. ahead b v (rest inner))
      here w =
          in_turn (step_of a w) (λ first. shape_part a first >>= λ inner. beyond w inner) onward
          ∙ same_on (step_of a w) (λ first. (shape_part a first >>= λ inner. beyond w inner) >>= onward) (λ first. shape_part a first >>= λ inner. beyond w inner >>= onward) (λ first. in_turn (shape_part a first) (beyond w) onward)
          ∙ sym (in_turn (step_of a w) (λ first. shape_part a first) (λ inner. beyond w inner >>= onward))
          ∙ ap (λ q. q >>= λ inner. beyond w inner >>= onward) (sym (by_step a w))
          ∙ same_on (part_by a w) (λ inner. beyond w inner >>= onward) (λ inner. turned old new to a b w >>= λ v. ahead b v (rest inner)) (there w)

  one_same : (to : Which) (a b : Shape) (s : Step) (f g : Shape → Shape → Option (List Step)) → ((x y : Shape) → f x y ≡ g x y) → one to a b s f ≡ one to a b s g
  one_same to a b s f g h =
      same_on (way_of a s) (λ w. part_by a w >>= λ inner. turned old new to a b w >>= λ v. ahead b v (f inner)) (λ w. part_by a w >>= λ inner. turned old new to a b w >>= λ v. ahead b v (g inner))
      (λ w. same_on (part_by a w) (λ inner. turned old new to a b w >>= λ v. ahead b v (f inner)) (λ inner. turned old new to a b w >>= λ v. ahead b v (g inner))
      (λ inner. same_on (turned old new to a b w) (λ v. ahead b v (f inner)) (λ v. ahead b v (g inner))
      (λ v. same_on (step_of b v) (λ t. shape_part b t >>= λ it. f inner it >>= λ ts. Some (t ∷ ts)) (λ t. shape_part b t >>= λ it. g inner it >>= λ ts. Some (t ∷ ts))
      (λ t. same_on (shape_part b t) (λ it. f inner it >>= λ ts. Some (t ∷ ts)) (λ it. g inner it >>= λ ts. Some (t ∷ ts)) (λ it. ap (λ o. o >>= λ ts. Some (t ∷ ts)) (h inner it))))))

  none_left : (to : Which) (a b : Shape) → Some [] ≡ three to a b []
  none_left which.Old a b = refl
  none_left which.New a b = refl

  -- the walk is the three ways
  pub walk_is : (to : Which) (ss : List Step) (a b : Shape) → steps_there old new to a b ss ≡ three to a b ss
  walk_is to [] a b = none_left to a b
  walk_is to (s ∷ ss) a b =
      step_is to a b s (λ x y. steps_there old new to x y ss)
      ∙ one_same to a b s (λ x y. steps_there old new to x y ss) (λ x y. three to x y ss) (λ x y. walk_is to ss x y)
      ∙ sym (three_step to a b s ss)

  -- ---- paths

  abbrev arrived : ℕ → List Step → Option Path
  arrived r ss = Some (record { region = r; steps = ss })

  pub new_is : (q : Path) → path_there old new which.New q ≡ new_path old new q
  new_is q =
      same_on (new_region old new q.region) _ _ (λ r.
      same_on (plain.region_shape old q.region) _ _ (λ a.
      same_on (plain.region_shape new r) _ _ (λ b.
      ap (λ o. o >>= arrived r) (walk_is which.New q.steps a b)
      ∙ in_turn (ways_of a q.steps) (λ os. new_ways old new b os >>= λ ws. steps_of b ws) (arrived r)
      ∙ same_on (ways_of a q.steps) (λ os. (new_ways old new b os >>= λ ws. steps_of b ws) >>= arrived r) (λ os. new_ways old new b os >>= λ ws. steps_of b ws >>= arrived r) (λ os. in_turn (new_ways old new b os) (λ ws. steps_of b ws) (arrived r)))))

  pub old_is : (q : Path) → path_there old new which.Old q ≡ old_path old new q
  old_is q =
      same_on (old_region old new q.region) _ _ (λ r.
      same_on (plain.region_shape new q.region) _ _ (λ a.
      same_on (plain.region_shape old r) _ _ (λ b.
      ap (λ o. o >>= arrived r) (walk_is which.Old q.steps a b)
      ∙ in_turn (ways_of a q.steps) (λ ws. old_ways old new a ws >>= λ os. steps_of b os) (arrived r)
      ∙ same_on (ways_of a q.steps) (λ ws. (old_ways old new a ws >>= λ os. steps_of b os) >>= arrived r) (λ ws. old_ways old new a ws >>= λ os. steps_of b os >>= arrived r) (λ ws. in_turn (old_ways old new a ws) (λ os. steps_of b os) (arrived r)))))

  -- ---- steps one after the other

  module _ (to : Which) (from there : Shape) (out : List Step) where
    pub walk_next : (s : Step) (ss steps out' : List Step) (x : StepThere) (o : Option (List Step)) → steps ≡ s ∷ ss → Some x ≡ step_there old new to from there s → out' ≡ out ++ x.0 ∷ [] → o ≡ behind out' (steps_there old new to x.1.0 x.1.1 ss)
        → o ≡ behind out (steps_there old new to from there steps)
    walk_next s ss steps out' x o d e f h =
        h ∙ ap (λ ts. behind ts (steps_there old new to x.1.0 x.1.1 ss)) f ∙ by (steps_there old new to x.1.0 x.1.1 ss)
        ∙ ap (λ q. behind out (q >>= λ y. steps_there old new to y.1.0 y.1.1 ss >>= λ rest. Some (y.0 ∷ rest))) e
        ∙ ap (λ ts. behind out (steps_there old new to from there ts)) (sym d)
      where
        by : (q : Option (List Step)) → behind (out ++ x.0 ∷ []) q ≡ behind out (q >>= λ rest. Some (x.0 ∷ rest))
        by None = refl
        by (Some rest) = ap Some (append_assoc out (x.0 ∷ []) rest)

    pub walk_stopped : (s : Step) (ss steps : List Step) → steps ≡ s ∷ ss → None ≡ step_there old new to from there s → None ≡ behind out (steps_there old new to from there steps)
    walk_stopped s ss steps d e =
        ap (λ q. behind out (q >>= λ y. steps_there old new to y.1.0 y.1.1 ss >>= λ rest. Some (y.0 ∷ rest))) e ∙ ap (λ ts. behind out (steps_there old new to from there ts)) (sym d)

    pub walk_ended : (steps : List Step) → steps ≡ [] → Some out ≡ behind out (steps_there old new to from there steps)
    walk_ended steps d = ap Some (sym (append-nil out)) ∙ ap (λ ts. behind out (steps_there old new to from there ts)) (sym d)

  from_nothing : (o : Option (List Step)) → behind [] o ≡ o
  from_nothing None = refl
  from_nothing (Some ss) = refl

  pub walk_whole : (to : Which) (from there : Shape) (steps out : List Step) (o : Option (List Step)) → out ≡ [] → o ≡ behind out (steps_there old new to from there steps) → o ≡ steps_there old new to from there steps
  walk_whole to from there steps out o e h = h ∙ ap (λ ts. behind ts (steps_there old new to from there steps)) e ∙ from_nothing (steps_there old new to from there steps)

pub ok_is : {E : Type 0} (r : Result (Option Path) E) (x y : Option Path) → IfOk r (λ q. q ≡ x) → x ≡ y → IfOk r (λ q. q ≡ y)
ok_is (Ok q) x y h e = h ∙ e
ok_is (Err f) x y h e = h
