-- What is told of the constants among variables, one by one.
use Rattle.std.proofs.Common.{◌≡◌, ℕ, suc, ◌+◌, ℤ, Bool, true, false, List, [], ◌∷◌, Option, Some, None, refl, sym, ap, ◌∙◌, arith}
use Rattle.std.specs.Prelude.{slice_get}
use Rattle.std.specs.Option.{is_some}
use Rattle.st_tree.specs.declared.declaration.Section.{Section}
use Rattle.st_tree.specs.declared.program.Target.{Target}
use Rattle.st_tree.specs.declared.program.Target.TheVariants as target
use Rattle.st_tree.specs.declared.type_spec.TypeSpec.{TypeSpec}
use Rattle.st_rules.specs.declared.names.DeclaredVariable.{DeclaredVariable}
use Rattle.st_rules.specs.Signatures.{is_parameter_sort}
use Rattle.st_rules.specs.Scope.{Scope, is_instance_sort, is_body_sort}
use Rattle.st_unit_rules.specs.declared_names.Constants.{is_told}
use Rattle.st_unit_rules.specs.declared_names.Variables.{Written, sections_written, constant_target, constant_of, declared_with, declared_each, member_targets, local_targets, result_count, locals_declared, routine_locals}
use Rattle.resolution_order.specs.told_laws.ToldLaws.{Each}
use Rattle.resolution_order.specs.told_laws.TellingLaws.{NoValueLeft}
use Rattle.resolution_order.proofs.told_laws.Tells.{pick}
use Rattle.resolution_order.specs.told_places.PlaceLaws.{is_value, AllValues}
use Rattle.resolution_order.proofs.told_places.Places.{Paired, paired-at, third}

true-or-false : (b : Bool) → b ≡ true → b ≡ false → ⊥
true-or-false b t f = cc

module _ (s : Scope) where
  -- a constant means its value
  abbrev pub VariableLike : Written → DeclaredVariable → Type 0
  VariableLike w v = (v.constant ≡ w.constant) × (w.constant ≡ true → v ≡ declared_with s (constant_target (constant_of s w)) w)

  a-value : (w : Written) → VariableLike w (declared_with s (constant_target (constant_of s w)) w)
  a-value w = (refl, λ t. refl)

  no-value : (w : Written) (t : Target) → w.constant ≡ false → VariableLike w (declared_with s t w)
  no-value w t e = (refl, λ c. absurd (true-or-false w.constant c e))

  abbrev Rows : Written → List Written → List Target → Type 0
  Rows w ws ts = Paired VariableLike (w ∷ ws) (declared_each s ts (w ∷ ws))

  pub members-like : (k l : ℕ) (ws : List Written) → Paired VariableLike ws (declared_each s (member_targets s k l ws) ws)
  members-like k l [] = tt
  members-like k l (w ∷ ws) =
      pick (Rows w ws) w.constant _ _ (λ e. (a-value w, members-like k l ws)) λ e.
      pick (Rows w ws) (is_instance_sort w.sort) _ _ (λ i. (no-value w (target.Variable k) e, members-like (suc k) l ws)) λ i.
      pick (Rows w ws) (is_body_sort w.sort) _ _ (λ b. (no-value w (target.Local l) e, members-like k (suc l) ws)) λ b.
      (no-value w target.Nothing e, members-like k l ws)

  locals-like : (p q : ℕ) (ws : List Written) → Paired VariableLike ws (declared_each s (local_targets s p q ws) ws)
  locals-like p q [] = tt
  locals-like p q (w ∷ ws) =
      pick (Rows w ws) w.constant _ _ (λ e. (a-value w, locals-like p q ws)) λ e.
      pick (Rows w ws) (is_parameter_sort w.sort) _ _ (λ i. (no-value w (target.Local p) e, locals-like (suc p) q ws)) λ i.
      pick (Rows w ws) (is_instance_sort w.sort) _ _ (λ i. (no-value w (target.Local q) e, locals-like p (suc q) ws)) λ i.
      pick (Rows w ws) (is_body_sort w.sort) _ _ (λ b. (no-value w (target.Local q) e, locals-like p (suc q) ws)) λ b.
      (no-value w target.Nothing e, locals-like p q ws)

  -- the constant at a place
  pub constant-at : (ws : List Written) (vs : List DeclaredVariable) (i : ℕ) (w : Written) → Paired VariableLike ws vs → slice_get ws i ≡ Some w → w.constant ≡ true
      → slice_get vs i ≡ Some (declared_with s (constant_target (constant_of s w)) w)
  constant-at ws vs i w h e c = let p = paired-at VariableLike ws vs i w h e in p.1 ∙ ap Some (p.2.1 c)

  pub told-value : (o : Option ℤ) → is_told (constant_target o) ≡ true → is_some o ≡ true
  told-value None h = absurd (cc)
  told-value (Some z) h = refl

  Left : ℕ → Written → DeclaredVariable → Type 0
  Left i w z = w.constant ≡ true → is_some (constant_of s w) ≡ true → is_told z.target ≡ true

  not-left : (i : ℕ) (w : Written) (v z : DeclaredVariable) → VariableLike w v → Left i w z → NoValueLeft z v
  unfolding Left
  not-left i w v z h f c t =
      let k : w.constant ≡ true = sym h.0 ∙ c in
      f k (told-value (constant_of s w) (sym (ap (λ x. is_told x.target) (h.1 k)) ∙ t))

  -- where of each constant that can be told the value is told, none is left
  pub none-left : (A : DeclaredVariable → DeclaredVariable → Type 0) (ws : List Written) (vs zs : List DeclaredVariable) → Paired VariableLike ws vs → Each A zs vs → AllValues s ws (λ i. is_value (slice_get zs i))
      → Each NoValueLeft zs vs
  unfolding Left
  none-left A ws vs zs h k f =
      third VariableLike A NoValueLeft Left not-left ws vs zs h k
      λ i w z e g c t. sym (ap is_value g) ∙ f i w e c t

-- ---- routines: the result stands before what the sections declare

module _ (s : Scope) (name : List ℕ) (sections : List (Section ℕ)) where
  pub routine-constant-at : (result : Option (TypeSpec ℕ)) (i : ℕ) (w : Written) → slice_get (sections_written sections) i ≡ Some w → w.constant ≡ true
      → slice_get (routine_locals s name result sections) (result_count s result + i) ≡ Some (declared_with s (constant_target (constant_of s w)) w)
  unfolding routine_locals
  routine-constant-at None i w h c =
      let e : 0 + i ≡ i = omega arith in
      ap (λ n. slice_get (locals_declared s None sections) n) e ∙ constant-at s (sections_written sections) (locals_declared s None sections) i w (locals-like s _ _ (sections_written sections)) h c
  routine-constant-at (Some t) i w h c =
      let e : 1 + i ≡ suc i = omega arith in
      ap (λ n. slice_get (routine_locals s name (Some t) sections) n) e ∙ constant-at s (sections_written sections) (locals_declared s (Some t) sections) i w (locals-like s _ _ (sections_written sections)) h c

  pub routine-none-left : (A : DeclaredVariable → DeclaredVariable → Type 0) (result : Option (TypeSpec ℕ)) (zs : List DeclaredVariable) → Each A zs (routine_locals s name result sections)
      → AllValues s (sections_written sections) (λ i. is_value (slice_get zs (result_count s result + i))) → Each NoValueLeft zs (routine_locals s name result sections)
  unfolding routine_locals
  routine-none-left A None zs k f =
      none-left s A (sections_written sections) (locals_declared s None sections) zs (locals-like s _ _ (sections_written sections)) k
      λ i w e c t. let g : i ≡ 0 + i = omega arith in ap (λ n. is_value (slice_get zs n)) g ∙ f i w e c t
  routine-none-left A (Some x) [] k f = absurd k
  routine-none-left A (Some x) (z ∷ zs) k f = (
    (λ c t. absurd (cc)),
    none-left s A (sections_written sections) (locals_declared s (Some x) sections) zs (locals-like s _ _ (sections_written sections)) k.1
        λ i w e c t. let g : suc i ≡ 1 + i = omega arith in ap (λ n. is_value (slice_get (z ∷ zs) n)) g ∙ f i w e c t,
  )
