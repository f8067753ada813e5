-- Globals are added one list after the other.
use Rattle.std.proofs.Common.{◌≡◌, ℕ, suc, ◌+◌, ◌<◌, ◌≤◌, Bool, List, [], ◌∷◌, ◌++◌, map, length, get_or, take, refl, sym, ap, subst, ◌∙◌}
use Rattle.std.specs.Prelude.{flat_map, not}
use Rattle.std.proofs.lemmas.List.{append_assoc, append-nil, map-append}
use Rattle.std.proofs.lemmas.List.Concat.{flat_map-append}
use Rattle.st_rules.proofs.ListLaws.{take-at, take-end}
use Rattle.st_tree.specs.declared.configuration.Configuration.{Configuration}
use Rattle.st_tree.specs.declared.declaration.FunctionDecl.{FunctionDecl}
use Rattle.st_tree.specs.declared.declaration.Section.{Section}
use Rattle.st_tree.specs.declared.program.Target.{Target}
use Rattle.st_tree.specs.declared.unit.Decl.{Decl}
use Rattle.st_tree.specs.declared.unit.Decl.TheVariants as declaration
use Rattle.st_rules.specs.declared.names.DeclaredVariable.{DeclaredVariable}
use Rattle.st_rules.specs.declared.names.DeclaredGlobal.{DeclaredGlobal}
use Rattle.st_rules.specs.declared.names.DeclaredGlobal.TheVariants as global
use Rattle.st_unit_rules.specs.declared_names.Variables.{Written, section_written, sections_written}
use Rattle.st_unit_rules.specs.declared_names.Declarations.{resource_globals, configuration_globals}
use Rattle.declared_symbols.specs.untold_names.Untold.{untold_variable, number_behind, region_target, untold_variables, regions_of, untold_routine, untold_globals}
use Rattle.declared_symbols.specs.untold_names.Private.Adds.{AddsGlobals}
use Rattle.declared_symbols.proofs.untold_names.StepLaws.{variable_added}

pub adds_nothing : (list : List DeclaredGlobal) (r : ℕ) → AddsGlobals list list r r []
adds_nothing list r = record { variables = λ rest. refl; regions = λ rest. refl }

pub adds_both : (a b c : List DeclaredGlobal) (r s t : ℕ) (vs ws : List Written) → AddsGlobals a b r s vs → AddsGlobals b c s t ws → AddsGlobals a c r t (vs ++ ws)
adds_both a b c r s t vs ws f g = record {
  variables = λ rest. g.variables rest ∙ f.variables (ws ++ rest) ∙ ap (λ xs. a ++ untold_variables r xs) (sym (append_assoc vs ws rest));
  regions = λ rest. g.regions rest ∙ f.regions (ws ++ rest) ∙ ap (λ xs. regions_of r xs) (sym (append_assoc vs ws rest));
}

pub adds_same : (a b : List DeclaredGlobal) (r s : ℕ) (vs ws : List Written) → vs ≡ ws → AddsGlobals a b r s vs → AddsGlobals a b r s ws
adds_same a b r s vs ws e h = subst (λ (xs : List Written). AddsGlobals a b r s xs) e h

module _ {X : Type 0} (f : X → List Written) (xs : List X) (i : ℕ) where
  pub adds_next : (x : X) (a b c : List DeclaredGlobal) (r s t : ℕ) → i < length xs → x ≡ get_or xs i x → AddsGlobals a b r s (flat_map f (take i xs)) → AddsGlobals b c s t (f x) → AddsGlobals a c r t (flat_map f (take (i + 1) xs))
  adds_next x a b c r s t l e h k =
      adds_same a c r t (flat_map f (take i xs) ++ f x) (flat_map f (take (i + 1) xs))
      (ap (λ ys. flat_map f (take i xs) ++ ys) (sym (append-nil (f x))) ∙ sym (flat_map-append f (take i xs) (x ∷ [])) ∙ ap (flat_map f) (sym (take-at xs i x l e)))
      (adds_both a b c r s t (flat_map f (take i xs)) (f x) h k)

  pub adds_all : (a b : List DeclaredGlobal) (r s : ℕ) → length xs ≤ i → AddsGlobals a b r s (flat_map f (take i xs)) → AddsGlobals a b r s (flat_map f xs)
  adds_all a b r s l h = adds_same a b r s (flat_map f (take i xs)) (flat_map f xs) (ap (flat_map f) (take-end xs i l)) h

module _ {X : Type 0} (f : X → Written) (xs : List X) (i : ℕ) where
  pub adds_one : (x : X) (a b c : List DeclaredGlobal) (r s t : ℕ) → i < length xs → x ≡ get_or xs i x → AddsGlobals a b r s (map f (take i xs)) → AddsGlobals b c s t (f x ∷ []) → AddsGlobals a c r t (map f (take (i + 1) xs))
  adds_one x a b c r s t l e h k =
      adds_same a c r t (map f (take i xs) ++ f x ∷ []) (map f (take (i + 1) xs)) (sym (map-append f (take i xs) (x ∷ [])) ∙ ap (map f) (sym (take-at xs i x l e)))
      (adds_both a b c r s t (map f (take i xs)) (f x ∷ []) h k)

  pub adds_each : (a b : List DeclaredGlobal) (r s : ℕ) → length xs ≤ i → AddsGlobals a b r s (map f (take i xs)) → AddsGlobals a b r s (map f xs)
  adds_each a b r s l h = adds_same a b r s (map f (take i xs)) (map f xs) (ap (map f) (take-end xs i l)) h

pub name_added : (new old : List DeclaredGlobal) (v : DeclaredVariable) (w : Written) (r n : ℕ) (t : Target) (c : Bool) → t ≡ region_target r w → v ≡ untold_variable t w → new ≡ old ++ global.Variable v ∷ [] → c ≡ w.constant → n ≡ number_behind (not c) r
    → AddsGlobals old new r n (w ∷ [])
name_added new old v w r n t c e f h p q = record {
  variables = λ rest. variable_added new old v w r n t (not c) rest e f h (ap not p) q;
  regions = λ rest. ap (λ x. regions_of x rest) (q ∙ ap (λ x. number_behind (not x) r) p);
}

pub configuration_added : (a b c : List DeclaredGlobal) (r s t : ℕ) (x : Configuration ℕ) (gs : List (Section ℕ)) → gs ≡ resource_globals x.resource → AddsGlobals a b r s (sections_written x.globals) → AddsGlobals b c s t (sections_written gs)
    → AddsGlobals a c r t (sections_written (configuration_globals x))
configuration_added a b c r s t x gs e h k =
    adds_same a c r t (sections_written x.globals ++ sections_written gs) (sections_written (configuration_globals x))
    (ap (λ ys. sections_written x.globals ++ sections_written ys) e ∙ sym (flat_map-append section_written x.globals (resource_globals x.resource)))
    (adds_both a b c r s t (sections_written x.globals) (sections_written gs) h k)

-- ---- declarations

-- with nothing behind them
added : (a b : List DeclaredGlobal) (r s : ℕ) (ws : List Written) → AddsGlobals a b r s ws → b ≡ a ++ untold_variables r ws
added a b r s ws h = sym (append-nil b) ∙ h.variables [] ∙ ap (λ xs. a ++ untold_variables r xs) (append-nil ws)

numbered : (a b : List DeclaredGlobal) (r s : ℕ) (ws : List Written) → AddsGlobals a b r s ws → s ≡ regions_of r ws
numbered a b r s ws h = h.regions [] ∙ ap (λ xs. regions_of r xs) (append-nil ws)

pub section_declared : (old new : List DeclaredGlobal) (r s k : ℕ) (x : Section ℕ) (ds : List (Decl ℕ)) → AddsGlobals old new r s (section_written x) → new ++ untold_globals s k ds ≡ old ++ untold_globals r k (declaration.Globals x ∷ ds)
section_declared old new r s k x ds h =
    let g = adds_same old new r s (section_written x) (sections_written (x ∷ [])) (sym (append-nil (section_written x))) h in
    ap (λ xs. xs ++ untold_globals s k ds) (added old new r s (sections_written (x ∷ [])) g)
    ∙ append_assoc old (untold_variables r (sections_written (x ∷ []))) (untold_globals s k ds)
    ∙ ap (λ n. old ++ (untold_variables r (sections_written (x ∷ [])) ++ untold_globals n k ds)) (numbered old new r s (sections_written (x ∷ [])) g)

pub function_declared : (old new : List DeclaredGlobal) (r k n : ℕ) (f : FunctionDecl ℕ) (ds : List (Decl ℕ)) → new ≡ old ++ global.Function k (untold_routine f.name.text [] f.result f.sections) ∷ [] → n ≡ suc k
    → new ++ untold_globals r n ds ≡ old ++ untold_globals r k (declaration.Function f ∷ ds)
function_declared old new r k n f ds h e =
    ap (λ xs. xs ++ untold_globals r n ds) h
    ∙ append_assoc old (global.Function k (untold_routine f.name.text [] f.result f.sections) ∷ []) (untold_globals r n ds)
    ∙ ap (λ m. old ++ global.Function k (untold_routine f.name.text [] f.result f.sections) ∷ untold_globals r m ds) e

pub configuration_declared : (old new : List DeclaredGlobal) (r s n k : ℕ) (c : Configuration ℕ) (ds : List (Decl ℕ)) → AddsGlobals old new r s (sections_written (configuration_globals c)) → n ≡ s + length c.instances
    → new ++ untold_globals n k ds ≡ old ++ untold_globals r k (declaration.Configuration c ∷ ds)
configuration_declared old new r s n k c ds h e =
    let ws = sections_written (configuration_globals c) in
    ap (λ xs. xs ++ untold_globals n k ds) (added old new r s ws h)
    ∙ append_assoc old (untold_variables r ws) (untold_globals n k ds)
    ∙ ap (λ m. old ++ (untold_variables r ws ++ untold_globals m k ds)) (e ∙ ap (λ m. m + length c.instances) (numbered old new r s ws h))
