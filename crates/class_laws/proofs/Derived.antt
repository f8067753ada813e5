-- The parameters of a derived block begin with those of its base.
use Rattle.std.proofs.Common.{◌≡◌, ℕ, true, List, [], ◌∷◌, ◌++◌, reverse, Some, refl, sym, ap, ◌∙◌, subst, inl, inr}
use Rattle.std.proofs.lemmas.List.{reverse-append, append_assoc}
use Rattle.st_types.specs.declared.st_type.StType.TheVariants as type
use Rattle.st_tree.specs.declared.declaration.ClassDecl.{ClassDecl}
use Rattle.st_tree.specs.declared.program.Note.{Note}
use Rattle.st_tree.specs.declared.program.Program.{Program as Checked}
use Rattle.std.specs.Prelude.{slice_get}
use Rattle.st_rules.specs.Chains.{is_among}
use Rattle.st_rules.specs.Classes.{chain}
use Rattle.st_rules.proofs.Booleans.{some-same}
use Rattle.st_values.specs.Program.{Parameter, Class, class_at, conforms, conforms_as}
use Rattle.st_values.specs.View.{declared_by, declared_along, body_parameters, program_of}
use Rattle.class_laws.proofs.Above.{ClassAt, EndsWith, NoCycle, at_number, only_one, there, chain_class, chain_ends}
use Rattle.class_laws.proofs.Parameters.{bodies_begin}

-- the variables of one chain behind another
along_append : (classes : List (ClassDecl Note)) (cs ds : List ℕ) → declared_along classes (cs ++ ds) ≡ declared_along classes cs ++ declared_along classes ds
along_append classes [] ds = refl
along_append classes (c ∷ cs) ds = ap (λ vs. declared_by (slice_get classes c) ++ vs) (along_append classes cs ds) ∙ sym (append_assoc (declared_by (slice_get classes c)) (declared_along classes cs) (declared_along classes ds))

module _ (p : Checked) where
  abbrev Own : ℕ → List Parameter
  Own c = body_parameters 0 0 (declared_along p.classes (reverse (chain p.classes c)))

  parameters_of : (c : ℕ) (k : Class) → ClassAt p c k → k.body.parameters ≡ Own c
  parameters_of c k a = ap (λ (x : Class). x.body.parameters) a.is

  chain_begins : (cs ds : List ℕ) → EndsWith p cs ds → (rest : List Parameter) × (body_parameters 0 0 (declared_along p.classes (reverse cs)) ≡ body_parameters 0 0 (declared_along p.classes (reverse ds)) ++ rest)
  chain_begins cs ds h =
      let r = bodies_begin (declared_along p.classes (reverse ds)) (declared_along p.classes (reverse h.front)) 0 0 in
      let e : declared_along p.classes (reverse cs) ≡ declared_along p.classes (reverse ds) ++ declared_along p.classes (reverse h.front) =
      ap (λ l. declared_along p.classes (reverse l)) h.is ∙ (ap (declared_along p.classes) (reverse-append h.front ds) ∙ along_append p.classes (reverse ds) (reverse h.front)) in
      (r.0, ap (body_parameters 0 0) e ∙ r.1)

  -- of two classes of which one conforms to the other
  pub derived_begins : NoCycle p → (c d : ℕ) (k j : Class) → class_at (program_of p) c ≡ Some k → class_at (program_of p) d ≡ Some j → conforms (program_of p) c (type.Instance d) ≡ true → (rest : List Parameter) × (k.body.parameters ≡ j.body.parameters ++ rest)
  derived_begins free c d k j f g h =
      let x = there p c (type.Instance d) h in
      let same : x.0 ≡ k = some-same (sym x.1 ∙ f) in
      let among : conforms_as (type.Instance d) k ≡ true = subst (λ (y : Class). conforms_as (type.Instance d) y ≡ true) same x.2 in
      elim (at_number p c k f) [
        | inr a ↦
            let q : d ≡ c = only_one p c d (subst (λ l. is_among d l ≡ true) a.chain among) in
            let e : k ≡ j = some-same (sym f ∙ (ap (class_at (program_of p)) (sym q) ∙ g)) in
            (own_rest k j e)
        | inl a ↦
            let b = chain_class p c d k j f a g among in
            let r = chain_begins (chain p.classes c) (chain p.classes d) (chain_ends p free c d (subst (λ (y : Class). is_among d y.chain ≡ true) a.is among)) in
            (r.0, parameters_of c k a ∙ (r.1 ∙ ap (λ l. l ++ r.0) (sym (parameters_of d j b))))
      ]
    where
      none_behind : (qs : List Parameter) → qs ≡ qs ++ []
      none_behind [] = refl
      none_behind (q ∷ qs) = ap (λ l. q ∷ l) (none_behind qs)

      own_rest : (y z : Class) → y ≡ z → (rest : List Parameter) × (y.body.parameters ≡ z.body.parameters ++ rest)
      own_rest y z e = ([], ap (λ (w : Class). w.body.parameters) e ∙ none_behind z.body.parameters)
