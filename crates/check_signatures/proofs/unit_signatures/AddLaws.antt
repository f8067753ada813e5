-- Lists that tell others grow one item after the other.
use Rattle.std.proofs.Common.{◌≡◌, ℕ, ◌+◌, ◌<◌, ◌≤◌, List, [], ◌∷◌, ◌++◌, Option, Some, None, take, length, get_or, refl, sym, ap, ◌∙◌, subst, append-nil, append_assoc}
use Rattle.std.specs.Prelude.{flat_map}
use Rattle.std.proofs.lemmas.List.Concat.{flat_map-append}
use Rattle.st_rules.proofs.ListLaws.{take-at, take-end}
use Rattle.default_values.specs.declared.worth_numbers.node.Node.{Node}
use Rattle.default_values.specs.worth_numbers.Numbers.{Grows}
use Rattle.default_values.proofs.worth_numbers.TableLaws.{grows_self, grows_through}
use Rattle.default_values.specs.numbered_signatures.Alike.{IsAlikeIfTold, AreAlike}
use Rattle.check_signatures.specs.unit_signatures.Private.Adds.{Adds}

pub alike_more : {X Y : Type 0} (P Q : X → Y → Type 0) → ((x : X) (y : Y) → P x y → Q x y) → (xs : List X) (ys : List Y) → AreAlike P xs ys → AreAlike Q xs ys
alike_more P Q f [] [] h = tt
alike_more P Q f [] (y ∷ ys) h = absurd h
alike_more P Q f (x ∷ xs) [] h = absurd h
alike_more P Q f (x ∷ xs) (y ∷ ys) h = (f x y h.0, alike_more P Q f xs ys h.1)

pub alike_both : {X Y : Type 0} (P : X → Y → Type 0) (xs ps : List X) (ys qs : List Y) → AreAlike P xs ys → AreAlike P ps qs → AreAlike P (xs ++ ps) (ys ++ qs)
alike_both P [] ps [] qs h k = k
alike_both P [] ps (y ∷ ys) qs h k = absurd h
alike_both P (x ∷ xs) ps [] qs h k = absurd h
alike_both P (x ∷ xs) ps (y ∷ ys) qs h k = (h.0, alike_both P xs ps ys qs h.1 k)

pub if_told_more : {X Y : Type 0} (P Q : X → Y → Type 0) → ((x : X) (y : Y) → P x y → Q x y) → (o : Option X) (p : Option Y) → IsAlikeIfTold P o p → IsAlikeIfTold Q o p
if_told_more P Q f None None h = tt
if_told_more P Q f None (Some y) h = absurd h
if_told_more P Q f (Some x) None h = absurd h
if_told_more P Q f (Some x) (Some y) h = f x y h

module _ {X Y : Type 0} (tells : List Node → X → Y → Type 0) (Known : List Node → Type 0) where
  pub adds_begun : (nodes : List Node) (xs : List X) → xs ≡ [] → Adds tells Known nodes nodes [] xs []
  adds_begun nodes xs e = record {
    grows = grows_self nodes;
    told = λ k ws h. subst (λ (ys : List X). AreAlike (tells nodes) ys (ws ++ [])) (sym e) (subst (λ (zs : List Y). AreAlike (tells nodes) [] zs) (sym (append-nil ws)) h);
  }

  pub adds_none : (nodes : List Node) (xs : List X) (more : List Y) → more ≡ [] → Adds tells Known nodes nodes xs xs more
  adds_none nodes xs more e = record {
    grows = grows_self nodes;
    told = λ k ws h. subst (λ (zs : List Y). AreAlike (tells nodes) xs zs) (sym (append-nil ws) ∙ ap (λ zs. ws ++ zs) (sym e)) h;
  }

  pub adds_as : (old new : List Node) (xs ys : List X) (more other : List Y) → more ≡ other → Adds tells Known old new xs ys more → Adds tells Known old new xs ys other
  adds_as old new xs ys more other e h = subst (λ (zs : List Y). Adds tells Known old new xs ys zs) e h

  module _ (stays : (a b : List Node) → Grows a b → Known a → Known b) (keeps : (a b : List Node) → Grows a b → (x : X) (y : Y) → tells a x y → tells b x y) where
    pub adds_through : (a b c : List Node) (xs ys zs : List X) (m n : List Y) → Adds tells Known a b xs ys m → Adds tells Known b c ys zs n → Adds tells Known a c xs zs (m ++ n)
    adds_through a b c xs ys zs m n p q = record {
      grows = grows_through a b c p.grows q.grows;
      told = λ k ws h. subst (λ (vs : List Y). AreAlike (tells c) zs vs) (append_assoc ws m n) (q.told (stays a b p.grows k) (ws ++ m) (p.told k ws h));
    }

    pub adds_many : (a b : List Node) (xs ps : List X) (qs : List Y) → Grows a b → (Known a → AreAlike (tells b) ps qs) → Adds tells Known a b xs (xs ++ ps) qs
    adds_many a b xs ps qs g f = record {
      grows = g;
      told = λ k ws h. alike_both (tells b) xs ps ws qs (alike_more (tells a) (tells b) (keeps a b g) xs ws h) (f k);
    }

    pub adds_one : (a b : List Node) (xs ys : List X) (x : X) (y : Y) → Grows a b → (Known a → tells b x y) → ys ≡ xs ++ x ∷ [] → Adds tells Known a b xs ys (y ∷ [])
    adds_one a b xs ys x y g f e = subst (λ (zs : List X). Adds tells Known a b xs zs (y ∷ [])) (sym e) (adds_many a b xs (x ∷ []) (y ∷ []) g (λ k. (f k, tt)))

    -- ---- loops

    module _ {Z : Type 0} (f : Z → List Y) (zs : List Z) where
      pub adds_next : (a b c : List Node) (xs ys us : List X) (i : ℕ) (z : Z) → i < length zs → z ≡ get_or zs i z → Adds tells Known a b xs ys (flat_map f (take i zs)) → Adds tells Known b c ys us (f z)
          → Adds tells Known a c xs us (flat_map f (take (i + 1) zs))
      adds_next a b c xs ys us i z l e p q =
          adds_as a c xs us (flat_map f (take i zs) ++ f z) (flat_map f (take (i + 1) zs))
          (ap (λ vs. flat_map f (take i zs) ++ vs) (sym (append-nil (f z))) ∙ sym (flat_map-append f (take i zs) (z ∷ [])) ∙ ap (flat_map f) (sym (take-at zs i z l e)))
          (adds_through a b c xs ys us (flat_map f (take i zs)) (f z) p q)

      pub adds_ended : (a b : List Node) (xs ys : List X) (i : ℕ) → length zs ≤ i → Adds tells Known a b xs ys (flat_map f (take i zs)) → Adds tells Known a b xs ys (flat_map f zs)
      adds_ended a b xs ys i l h = adds_as a b xs ys (flat_map f (take i zs)) (flat_map f zs) (ap (flat_map f) (take-end zs i l)) h
