-- What is declared, one by one with what is written: where its number leads, among the variables that the checked program shows.
use Rattle.std.proofs.Common.{◌≡◌, ℕ, suc, ◌+◌, Bool, true, false, List, [], ◌∷◌, ◌++◌, Some, refl, sym, ap, ◌∙◌, subst, arith}
use Rattle.std.specs.Prelude.{if◌then◌else◌, not, ◌&&◌, filter, slice_get}
use Rattle.plc_text.specs.Words.{same}
use Rattle.st_tree.specs.declared.declaration.SectionSort.{SectionSort}
use Rattle.st_tree.specs.declared.declaration.SectionSort.TheVariants as sort
use Rattle.st_tree.specs.declared.program.Target.{Target}
use Rattle.st_tree.specs.declared.program.Target.TheVariants as target
use Rattle.st_rules.specs.declared.names.DeclaredVariable.{DeclaredVariable}
use Rattle.st_rules.specs.Scope.{Scope, variable_named, is_external, is_instance_sort, is_body_sort}
use Rattle.st_rules.specs.Signatures.{is_parameter_sort}
use Rattle.st_rules.proofs.Booleans.{none≢some, some-same, false≢true}
use Rattle.st_unit_rules.specs.declared_names.Variables.{Written, declared_with, declared_each, member_targets, local_targets, constant_target, constant_of}
use Rattle.st_unit_rules.specs.Checked.{Each}
use Rattle.st_values.specs.Program.{Variable}
use Rattle.st_values.specs.View.{is_kept, is_parameter, is_of_body, those, negated}
use Rattle.resolution_order.specs.told_laws.ToldLaws.{Every}
use Rattle.resolution_order.proofs.told_laws.Tells.{pick}
use Rattle.st_tree.specs.Declarations.{is_global}
use Rattle.accepted_texts.proofs.unfolding_laws.ListLaws.{front_get, Behind}
use Rattle.accepted_texts.proofs.told_units.Inner.{IsRow}
use Rattle.accepted_texts.proofs.sized_units.Variables.{IsOf, is_variable}

-- ---- sorts

pub parameter_inside : (x : SectionSort) → is_parameter_sort x ≡ true → (is_parameter x ≡ true) × (is_external x ≡ false)
parameter_inside sort.Input h = (refl, refl)
parameter_inside sort.Output h = (refl, refl)
parameter_inside sort.InOut h = (refl, refl)
parameter_inside _ h = cc

pub no_parameter : (x : SectionSort) → is_parameter_sort x ≡ false → is_parameter x ≡ false
no_parameter sort.Var h = refl
no_parameter sort.Temp h = refl
no_parameter sort.Global h = refl
no_parameter sort.External h = refl
no_parameter _ h = cc

instance_inside : (x : SectionSort) → is_instance_sort x ≡ true → (is_kept x ≡ true) × (is_of_body x ≡ false) × (is_external x ≡ false)
instance_inside sort.Var h = (refl, refl, refl)
instance_inside sort.Input h = (refl, refl, refl)
instance_inside sort.Output h = (refl, refl, refl)
instance_inside _ h = cc

pub body_inside : (x : SectionSort) → is_body_sort x ≡ true → (is_kept x ≡ false) × (is_of_body x ≡ true) × (is_external x ≡ false)
body_inside sort.InOut h = (refl, refl, refl)
body_inside sort.Temp h = (refl, refl, refl)
body_inside _ h = cc

pub outside : (x : SectionSort) → is_global x ≡ false → is_instance_sort x ≡ false → is_body_sort x ≡ false → is_external x ≡ true
outside sort.External h i j = refl
outside _ h i j = cc

pub inside_of : (w : Written) → w.constant ≡ false → is_external w.sort ≡ false → is_variable w ≡ true
inside_of w e f = ap (λ c. not c && not (is_external w.sort)) e ∙ ap not f

pub no_constant : (w : Written) → w.constant ≡ true → is_variable w ≡ false
no_constant w e = ap (λ c. not c && not (is_external w.sort)) e

pub no_external : (w : Written) → w.constant ≡ false → is_external w.sort ≡ true → is_variable w ≡ false
no_external w e f = ap (λ c. not c && not (is_external w.sort)) e ∙ ap not f

-- ---- variables of some sorts, from a number on

-- these stand in all of them from the number on
pub record From (all rest : List Variable) (n : ℕ) : Type 0 where
  pub by : (j : ℕ) (v : Variable) → slice_get rest j ≡ Some v → slice_get all (n + j) ≡ Some v

pub from_behind : (all rest : List Variable) (n : ℕ) → Behind Variable all rest n → From all rest n
from_behind all rest n h = record { by = λ j v e. h.items j ∙ e }

pub from_front : (all xs ys : List Variable) (n : ℕ) → From all (xs ++ ys) n → From all xs n
from_front all xs ys n h = record { by = λ j v e. h.by j v (front_get xs ys j v e) }

pub from_first : (all rest : List Variable) (n : ℕ) (v : Variable) → From all (v ∷ rest) n → slice_get all n ≡ Some v
from_first all rest n v h = let z : n ≡ n + 0 = omega arith in ap (slice_get all) z ∙ h.by 0 v refl

pub from_next : (all rest : List Variable) (n : ℕ) (v : Variable) → From all (v ∷ rest) n → From all rest (suc n)
from_next all rest n v h = record { by = λ j w e. let z : suc n + j ≡ n + suc j = omega arith in ap (slice_get all) z ∙ h.by (suc j) w e }

pub here : (test : SectionSort → Bool) (all : List Variable) (n : ℕ) (v : Variable) (vs : List Variable) → test v.sort ≡ true → From all (those test (v ∷ vs)) n → From all (v ∷ those test vs) n
here test all n v vs e h = subst (λ l. From all l n) (ap (λ b. if b then v ∷ those test vs else those test vs) e) h

pub past : (test : SectionSort → Bool) (all : List Variable) (n : ℕ) (v : Variable) (vs : List Variable) → test v.sort ≡ false → From all (those test (v ∷ vs)) n → From all (those test vs) n
past test all n v vs e h = subst (λ l. From all l n) (ap (λ b. if b then v ∷ those test vs else those test vs) e) h

module _ (s : Scope) where
  -- the variable of this number is the one that is written
  pub record SeenAt (vs : List Variable) (n : ℕ) (w : Written) : Type 0 where
    pub variable : Variable
    pub there : slice_get vs n ≡ Some variable
    pub of : IsOf s variable w

  pub record Headed (vs : List Variable) (w : Written) (us : List Written) : Type 0 where
    pub first : Variable
    pub rest : List Variable
    pub are : vs ≡ first ∷ rest
    pub of : IsOf s first w
    pub others : Each (IsOf s) rest us

  pub headed : (vs : List Variable) (w : Written) (us : List Written) → Each (IsOf s) vs (w ∷ us) → Headed vs w us
  headed [] w us h = absurd h
  headed (v ∷ vs) w us h = record { first = v; rest = vs; are = refl; of = h.0; others = h.1 }

  pub first_of : (vs : List Variable) (w : Written) (ws : List Written) → is_variable w ≡ true → Each (IsOf s) vs (filter is_variable (w ∷ ws)) → Headed vs w (filter is_variable ws)
  first_of vs w ws e h = headed vs w (filter is_variable ws) (subst (Each (IsOf s) vs) (ap (λ b. if b then w ∷ filter is_variable ws else filter is_variable ws) e) h)

  pub skipped : (vs : List Variable) (w : Written) (ws : List Written) → is_variable w ≡ false → Each (IsOf s) vs (filter is_variable (w ∷ ws)) → Each (IsOf s) vs (filter is_variable ws)
  skipped vs w ws e h = subst (Each (IsOf s) vs) (ap (λ b. if b then w ∷ filter is_variable ws else filter is_variable ws) e) h

  value_row : (w : Written) → IsRow s w (declared_with s (constant_target (constant_of s w)) w)
  value_row w = (refl, refl, refl, λ e. refl, refl)

  plain_row : (w : Written) (t : Target) → w.constant ≡ false → IsRow s w (declared_with s t w)
  plain_row w t f = (refl, refl, refl, λ e. absurd (false≢true (sym f ∙ e)), refl)

  -- ---- locals of a function or a method

  pub record LocalRow (all : List Variable) (w : Written) (v : DeclaredVariable) : Type 0 where
    pub row : IsRow s w v
    pub seen : is_variable w ≡ true → (n : ℕ) × (v.target ≡ target.Local n) × SeenAt all n w

  unseen : (all : List Variable) (w : Written) (v : DeclaredVariable) → is_variable w ≡ false → IsRow s w v → LocalRow all w v
  unseen all w v e r = record { row = r; seen = λ f. absurd (false≢true (sym e ∙ f)) }

  module _ (all : List Variable) where
    abbrev LocalsOf : Written → List Written → List Target → Type 0
    LocalsOf w ws ts = Each (LocalRow all) (w ∷ ws) (declared_each s ts (w ∷ ws))

    -- the rows behind, from any numbers on
    abbrev LocalsBehind : List Written → Type 0
    LocalsBehind ws = (p q : ℕ) (us : List Variable) → Each (IsOf s) us (filter is_variable ws) → From all (those is_parameter us) p → From all (those (negated is_parameter) us) q → Each (LocalRow all) ws (declared_each s (local_targets s p q ws) ws)

    parameter_next : (p q : ℕ) (w : Written) (ws : List Written) (vs : List Variable) → LocalsBehind ws → From all (those is_parameter vs) p → From all (those (negated is_parameter) vs) q
        → w.constant ≡ false → is_parameter_sort w.sort ≡ true → Headed vs w (filter is_variable ws) → LocalsOf w ws (target.Local p ∷ local_targets s (suc p) q ws)
    parameter_next p q w ws vs rec a b e f d =
        let i : is_parameter (d.first).sort ≡ true = ap is_parameter d.of.sort ∙ (parameter_inside w.sort f).0 in
        let x = here is_parameter all p d.first d.rest i (subst (λ l. From all (those is_parameter l) p) d.are a) in
        let y = past (negated is_parameter) all q d.first d.rest (ap (λ z. if z then false else true) i) (subst (λ l. From all (those (negated is_parameter) l) q) d.are b) in (
          record { row = plain_row w (target.Local p) e; seen = λ z. (p, refl, record { variable = d.first; there = from_first all (those is_parameter d.rest) p d.first x; of = d.of }) },
          rec (suc p) q d.rest d.others (from_next all (those is_parameter d.rest) p d.first x) y,
        )

    other_next : (p q : ℕ) (w : Written) (ws : List Written) (vs : List Variable) → LocalsBehind ws → From all (those is_parameter vs) p → From all (those (negated is_parameter) vs) q
        → w.constant ≡ false → is_parameter_sort w.sort ≡ false → Headed vs w (filter is_variable ws) → LocalsOf w ws (target.Local q ∷ local_targets s p (suc q) ws)
    other_next p q w ws vs rec a b e f d =
        let i : is_parameter (d.first).sort ≡ false = ap is_parameter d.of.sort ∙ no_parameter w.sort f in
        let x = past is_parameter all p d.first d.rest i (subst (λ l. From all (those is_parameter l) p) d.are a) in
        let y = here (negated is_parameter) all q d.first d.rest (ap (λ z. if z then false else true) i) (subst (λ l. From all (those (negated is_parameter) l) q) d.are b) in (
          record { row = plain_row w (target.Local q) e; seen = λ z. (q, refl, record { variable = d.first; there = from_first all (those (negated is_parameter) d.rest) q d.first y; of = d.of }) },
          rec p (suc q) d.rest d.others x (from_next all (those (negated is_parameter) d.rest) q d.first y),
        )

    pub locals_seen : (p q : ℕ) (ws : List Written) (vs : List Variable) → Every (λ (w : Written). is_global w.sort ≡ false) ws → Each (IsOf s) vs (filter is_variable ws)
        → From all (those is_parameter vs) p → From all (those (negated is_parameter) vs) q → Each (LocalRow all) ws (declared_each s (local_targets s p q ws) ws)
    locals_seen p q [] vs g h a b = tt
    locals_seen p q (w ∷ ws) vs g h a b =
        let rec : LocalsBehind ws = λ p' q' us h' a' b'. locals_seen p' q' ws us g.1 h' a' b' in
        pick (LocalsOf w ws) w.constant _ _ (λ e. (unseen all w _ (no_constant w e) (value_row w), rec p q vs (skipped vs w ws (no_constant w e) h) a b)) (λ e.
        pick (LocalsOf w ws) (is_parameter_sort w.sort) _ _ (λ f. parameter_next p q w ws vs rec a b e f (first_of vs w ws (inside_of w e (parameter_inside w.sort f).1) h)) (λ f.
        pick (LocalsOf w ws) (is_instance_sort w.sort) _ _ (λ i. other_next p q w ws vs rec a b e f (first_of vs w ws (inside_of w e (instance_inside w.sort i).2) h)) (λ i.
        pick (LocalsOf w ws) (is_body_sort w.sort) _ _ (λ j. other_next p q w ws vs rec a b e f (first_of vs w ws (inside_of w e (body_inside w.sort j).2) h)) (λ j.
        let n = no_external w e (outside w.sort g.0 i j) in
        (unseen all w _ n (plain_row w target.Nothing e), rec p q vs (skipped vs w ws n h) a b)))))

  -- ---- variables of a class, a block or a program

  pub record MemberRow (kept bodies : List Variable) (w : Written) (v : DeclaredVariable) : Type 0 where
    pub row : IsRow s w v
    pub inside : is_global w.sort ≡ false
    pub variable : w.constant ≡ false → is_instance_sort w.sort ≡ true → (n : ℕ) × (v.target ≡ target.Variable n) × SeenAt kept n w
    pub local : w.constant ≡ false → is_body_sort w.sort ≡ true → (n : ℕ) × (v.target ≡ target.Local n) × SeenAt bodies n w

  module _ (kept bodies : List Variable) where
    abbrev MembersOf : Written → List Written → List Target → Type 0
    MembersOf w ws ts = Each (MemberRow kept bodies) (w ∷ ws) (declared_each s ts (w ∷ ws))

    both_sorts : (x : SectionSort) → is_instance_sort x ≡ true → is_body_sort x ≡ true → ⊥
    both_sorts x h i = false≢true (sym (instance_inside x h).1 ∙ (body_inside x i).1)

    abbrev MembersBehind : List Written → Type 0
    MembersBehind ws = (k l : ℕ) (us : List Variable) → Each (IsOf s) us (filter is_variable ws) → From kept (those is_kept us) k → From bodies (those is_of_body us) l → Each (MemberRow kept bodies) ws (declared_each s (member_targets s k l ws) ws)

    variable_next : (k l : ℕ) (w : Written) (ws : List Written) (vs : List Variable) → MembersBehind ws → is_global w.sort ≡ false → From kept (those is_kept vs) k → From bodies (those is_of_body vs) l
        → w.constant ≡ false → is_instance_sort w.sort ≡ true → Headed vs w (filter is_variable ws) → MembersOf w ws (target.Variable k ∷ member_targets s (suc k) l ws)
    variable_next k l w ws vs rec g a b e i d =
        let q = instance_inside w.sort i in
        let x = here is_kept kept k d.first d.rest (ap is_kept d.of.sort ∙ q.0) (subst (λ us. From kept (those is_kept us) k) d.are a) in
        let y = past is_of_body bodies l d.first d.rest (ap is_of_body d.of.sort ∙ q.1) (subst (λ us. From bodies (those is_of_body us) l) d.are b) in (
          record {
            row = plain_row w (target.Variable k) e;
            inside = g;
            variable = λ f z. (k, refl, record { variable = d.first; there = from_first kept (those is_kept d.rest) k d.first x; of = d.of });
            local = λ f z. absurd (both_sorts w.sort i z);
          },
          rec (suc k) l d.rest d.others (from_next kept (those is_kept d.rest) k d.first x) y,
        )

    local_next : (k l : ℕ) (w : Written) (ws : List Written) (vs : List Variable) → MembersBehind ws → is_global w.sort ≡ false → From kept (those is_kept vs) k → From bodies (those is_of_body vs) l
        → w.constant ≡ false → is_body_sort w.sort ≡ true → Headed vs w (filter is_variable ws) → MembersOf w ws (target.Local l ∷ member_targets s k (suc l) ws)
    local_next k l w ws vs rec g a b e j d =
        let q = body_inside w.sort j in
        let x = past is_kept kept k d.first d.rest (ap is_kept d.of.sort ∙ q.0) (subst (λ us. From kept (those is_kept us) k) d.are a) in
        let y = here is_of_body bodies l d.first d.rest (ap is_of_body d.of.sort ∙ q.1) (subst (λ us. From bodies (those is_of_body us) l) d.are b) in (
          record {
            row = plain_row w (target.Local l) e;
            inside = g;
            variable = λ f z. absurd (both_sorts w.sort z j);
            local = λ f z. (l, refl, record { variable = d.first; there = from_first bodies (those is_of_body d.rest) l d.first y; of = d.of });
          },
          rec k (suc l) d.rest d.others x (from_next bodies (those is_of_body d.rest) l d.first y),
        )

    pub members_seen : (k l : ℕ) (ws : List Written) (vs : List Variable) → Every (λ (w : Written). is_global w.sort ≡ false) ws → Each (IsOf s) vs (filter is_variable ws)
        → From kept (those is_kept vs) k → From bodies (those is_of_body vs) l → Each (MemberRow kept bodies) ws (declared_each s (member_targets s k l ws) ws)
    members_seen k l [] vs g h a b = tt
    members_seen k l (w ∷ ws) vs g h a b =
        let rec : MembersBehind ws = λ k' l' us h' a' b'. members_seen k' l' ws us g.1 h' a' b' in
        pick (MembersOf w ws) w.constant _ _ (λ e. (
          record { row = value_row w; inside = g.0; variable = λ f. absurd (false≢true (sym f ∙ e)); local = λ f. absurd (false≢true (sym f ∙ e)) },
          rec k l vs (skipped vs w ws (no_constant w e) h) a b,
        )) (λ e.
        pick (MembersOf w ws) (is_instance_sort w.sort) _ _ (λ i. variable_next k l w ws vs rec g.0 a b e i (first_of vs w ws (inside_of w e (instance_inside w.sort i).2) h)) (λ i.
        pick (MembersOf w ws) (is_body_sort w.sort) _ _ (λ j. local_next k l w ws vs rec g.0 a b e j (first_of vs w ws (inside_of w e (body_inside w.sort j).2) h)) (λ j. (
          record { row = plain_row w target.Nothing e; inside = g.0; variable = λ f z. absurd (false≢true (sym i ∙ z)); local = λ f z. absurd (false≢true (sym j ∙ z)) },
          rec k l vs (skipped vs w ws (no_external w e (outside w.sort g.0 i j)) h) a b,
        ))))

-- ---- by name

-- one of the name that passes, with what is written of it
pub found_row : {W : Type 0} (R : W → DeclaredVariable → Type 0) (pass : DeclaredVariable → Bool) (name : List ℕ) (ws : List W) (vs : List DeclaredVariable) (v : DeclaredVariable) → Each R ws vs → variable_named name (filter pass vs) ≡ Some v
    → (w : W) × R w v × (pass v ≡ true)
found_row R pass name [] [] v r e = absurd (none≢some e)
found_row R pass name [] (x ∷ vs) v r e = absurd r
found_row R pass name (w ∷ ws) [] v r e = absurd r
found_row {W = W} R pass name (w ∷ ws) (x ∷ vs) v r e = by (found_row R pass name ws vs v r.1) (pass x) refl e
  where
    named : (b : Bool) → pass x ≡ true → (variable_named name (filter pass vs) ≡ Some v → (u : W) × R u v × (pass v ≡ true)) → (if b then Some x else variable_named name (filter pass vs)) ≡ Some v → (u : W) × R u v × (pass v ≡ true)
    named true q later h = subst (λ y. (u : W) × R u y × (pass y ≡ true)) (some-same h) (w, r.0, q)
    named false q later h = later h

    by : (variable_named name (filter pass vs) ≡ Some v → (u : W) × R u v × (pass v ≡ true)) → (b : Bool) → pass x ≡ b → variable_named name (if b then x ∷ filter pass vs else filter pass vs) ≡ Some v → (u : W) × R u v × (pass v ≡ true)
    by later true q h = named (same x.name name) q later h
    by later false q h = later h

pub all_pass : (vs : List DeclaredVariable) → filter (λ (v : DeclaredVariable). true) vs ≡ vs
all_pass [] = refl
all_pass (v ∷ vs) = ap (λ l. v ∷ l) (all_pass vs)

-- one of the name
pub found_named : {W : Type 0} (R : W → DeclaredVariable → Type 0) (name : List ℕ) (ws : List W) (vs : List DeclaredVariable) (v : DeclaredVariable) → Each R ws vs → variable_named name vs ≡ Some v → (w : W) × R w v
found_named R name ws vs v r e =
    let f = found_row R (λ (x : DeclaredVariable). true) name ws vs v r (ap (variable_named name) (all_pass vs) ∙ e) in
    (f.0, f.1)

-- what each has, one of the name has
pub every_named : (P : DeclaredVariable → Type 0) (name : List ℕ) (vs : List DeclaredVariable) (v : DeclaredVariable) → Every P vs → variable_named name vs ≡ Some v → P v
every_named P name [] v h e = absurd (none≢some e)
every_named P name (x ∷ vs) v h e = by (every_named P name vs v h.1) (same x.name name) e
  where
    by : (variable_named name vs ≡ Some v → P v) → (b : Bool) → (if b then Some x else variable_named name vs) ≡ Some v → P v
    by later true q = subst P (some-same q) h.0
    by later false q = later q
