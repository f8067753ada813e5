-- A terminal has a number of its own.
use Rattle.std.proofs.Common.{◌≡◌, ℕ, zero, suc, Bool, true, false, List, [], ◌∷◌, Option, Some, None, refl, sym, ◌∙◌, ap, eqb-true, eq-eqb}
use Rattle.std.specs.Prelude.{◌&&◌}
use Rattle.std.specs.List.{list_all}
use Rattle.st_types.specs.declared.elem.Elem.{Elem}
use Rattle.st_types.specs.declared.elem.Elem.TheVariants as kind
use Rattle.st_tree.specs.declared.terminal.Terminal.{Terminal}
use Rattle.st_tree.specs.declared.terminal.Terminal.TheVariants as x
use Rattle.st_parser_stmt.specs.Private.Numbers.{number, all, same_terminal}

nth : List Terminal → ℕ → Option Terminal
nth [] n = None
nth (t ∷ ts) zero = Some t
nth (t ∷ ts) (suc n) = nth ts n

found_kind : (e : Elem) → nth all (number (x.Kind e)) ≡ Some (x.Kind e)
unfolding nth number all
found_kind kind.Bool = refl
found_kind _ = refl

found : (t : Terminal) → nth all (number t) ≡ Some t
unfolding nth number all
found (x.Kind e) = found_kind e
found _ = refl

pub same-is : (s t : Terminal) → same_terminal s t ≡ true → s ≡ t
unfolding same_terminal
same-is s t h =
    let n : number s ≡ number t = eqb-true (number s) (number t) h in
    let both : Some s ≡ Some t = sym (found s) ∙ ap (nth all) n ∙ found t in
    cc

pub same-self : (s : Terminal) → same_terminal s s ≡ true
unfolding same_terminal
same-self s = eq-eqb (number s) (number s) refl

pub same-not : (s t : Terminal) → (s ≡ t → ⊥) → same_terminal s t ≡ false
same-not s t h = at (same_terminal s t) refl
  where
    at : (b : Bool) → same_terminal s t ≡ b → b ≡ false
    at true e = absurd (h (same-is s t e))
    at false e = refl

list_all-nth : (p : Terminal → Bool) (ts : List Terminal) (n : ℕ) (t : Terminal) → list_all p ts ≡ true → nth ts n ≡ Some t → p t ≡ true
unfolding nth
list_all-nth p [] n t h i = cc
list_all-nth p (u ∷ ts) n t h i = at (λ h' k i'. list_all-nth p ts k t h' i') (p u) refl h n i
  where
    at : (list_all p ts ≡ true → (k : ℕ) → nth ts k ≡ Some t → p t ≡ true) → (b : Bool) → p u ≡ b → b && list_all p ts ≡ true → (n : ℕ) → nth (u ∷ ts) n ≡ Some t → p t ≡ true
    at next false e h n i = cc
    at next true e h zero i = let same : u ≡ t = cc in rw (← same) e
    at next true e h (suc n) i = next h n i

-- what holds of all that are listed holds of every one
pub all-is : (p : Terminal → Bool) → list_all p all ≡ true → (t : Terminal) → p t ≡ true
all-is p h t = list_all-nth p all (number t) t h (found t)
