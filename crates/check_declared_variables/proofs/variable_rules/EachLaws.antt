-- Lists of which each item is related to the one in its place, one item more; and faults of lists, one item more.
use Rattle.std.proofs.Common.{◌≡◌, ℕ, ◌+◌, ◌<◌, ◌≤◌, List, [], ◌∷◌, ◌++◌, Option, None, refl, sym, ap, ◌∙◌, subst, length, get_or, take, drop}
use Rattle.std.specs.Prelude.{flat_map}
use Rattle.plc_text.specs.declared.code.Code.{Code}
use Rattle.st_rules.specs.Faults.{Faults, least, earlier}
use Rattle.st_rules.proofs.FaultLaws.{earlier-none}
use Rattle.st_rules.proofs.ListLaws.{drop-at, drop-end, take-at, take-end}
use Rattle.st_unit_rules.specs.Checked.{Each}
use Rattle.check_initial_values.proofs.Parts.{more_broken}

module _ {A B : Type 0} (R : A → B → Type 0) where
  each_more : (xs : List A) (ys : List B) (x : A) (y : B) → Each R xs ys → R x y → Each R (xs ++ x ∷ []) (ys ++ y ∷ [])
  each_more [] [] x y h r = (r, tt)
  each_more (a ∷ xs) (b ∷ ys) x y h r = (h.0, each_more xs ys x y h.1 r)
  each_more [] (b ∷ ys) x y h r = absurd h
  each_more (a ∷ xs) [] x y h r = absurd h

  -- so many were looked at: what they and the rest break is what all break, and each has its tree
  pub record EachTo (faults : A → Faults) (least_is : Option (Code × ℕ)) (ys : List B) (list : List A) (i : ℕ) : Type 0 where
    pub broken : earlier least_is (least (flat_map faults (drop i list))) ≡ least (flat_map faults list)
    pub trees : Each R (take i list) ys

  module _ (faults : A → Faults) (list : List A) where
    pub each_begun : (o : Option (Code × ℕ)) (ys : List B) → o ≡ None → ys ≡ [] → EachTo faults o ys list 0
    each_begun o ys n e = record {
      broken = ap (λ r. earlier r (least (flat_map faults list))) n;
      trees = subst (λ (zs : List B). Each R [] zs) (sym e) tt;
    }

    pub each_next : (o before one : Option (Code × ℕ)) (ys zs : List B) (x : A) (y : B) (i : ℕ) → i < length list → x ≡ get_or list i x → o ≡ earlier before one → one ≡ least (faults x) → R x y → ys ≡ zs ++ y ∷ []
        → EachTo faults before zs list i → EachTo faults o ys list (i + 1)
    each_next o before one ys zs x y i h at w f r e k = record {
      broken = more_broken o before one (faults x) (flat_map faults (drop (i + 1) list)) (least (flat_map faults list)) w f
          (ap (λ xs. earlier before (least (flat_map faults xs))) (sym (drop-at list i x h at)) ∙ k.broken);
      trees = subst (λ (xs : List A). Each R xs ys) (sym (take-at list i x h at)) (subst (λ (us : List B). Each R (take i list ++ x ∷ []) us) (sym e) (each_more (take i list) zs x y k.trees r));
    }

    pub each_least : (o : Option (Code × ℕ)) (ys : List B) (i : ℕ) → length list ≤ i → EachTo faults o ys list i → o ≡ least (flat_map faults list)
    each_least o ys i h k = sym (earlier-none o) ∙ sym (ap (λ xs. earlier o (least (flat_map faults xs))) (drop-end list i h)) ∙ k.broken

    pub each_trees : (o : Option (Code × ℕ)) (ys : List B) (i : ℕ) → length list ≤ i → EachTo faults o ys list i → Each R list ys
    each_trees o ys i h k = subst (λ (xs : List A). Each R xs ys) (take-end list i h) k.trees
