-- Globals are declared one after the other.
use Rattle.std.proofs.Common.{◌≡◌, ℕ, suc, ◌+◌, Bool, true, false, List, [], ◌∷◌, ◌++◌, map, length, refl, sym, ap, ◌∙◌, arith, append-nil}
use Rattle.std.specs.Prelude.{if◌then◌else◌, not, filter, flat_map}
use Rattle.std.proofs.lemmas.List.{append_assoc}
use Rattle.std.proofs.lemmas.List.Concat.{flat_map-append}
use Rattle.st_tree.specs.declared.configuration.Configuration.{Configuration}
use Rattle.st_tree.specs.declared.declaration.FunctionDecl.{FunctionDecl}
use Rattle.st_tree.specs.declared.declaration.Section.{Section}
use Rattle.st_tree.specs.declared.program.Target.TheVariants as target
use Rattle.st_tree.specs.declared.unit.Decl.{Decl}
use Rattle.st_tree.specs.declared.unit.Decl.TheVariants as declaration
use Rattle.st_rules.specs.declared.names.DeclaredNames.{DeclaredNames}
use Rattle.st_rules.specs.declared.names.DeclaredGlobal.{DeclaredGlobal}
use Rattle.st_rules.specs.declared.names.DeclaredGlobal.TheVariants as global
use Rattle.st_rules.specs.Scope.{Scope}
use Rattle.st_unit_rules.specs.declared_names.Variables.{Written, section_written, sections_written, constant_target, constant_of, declared_with}
use Rattle.st_unit_rules.specs.declared_names.Declarations.{resource_globals, configuration_globals}
use Rattle.st_unit_rules.specs.declared_names.UnitNames.{unit_scope, variables_declared, region_count, routine_declared, globals_from}
use Rattle.declared_symbols.specs.untold_names.Untold.{number_behind, regions_of}
use Rattle.type_resolution.specs.declared_variables.Globals.{globals_in, AddsGlobals}

-- ---- sections

globals-append : (s : Scope) (r : ℕ) (vs ws : List Written) → globals_in s r (vs ++ ws) ≡ globals_in s r vs ++ globals_in s (regions_of r vs) ws
globals-append s r [] ws = refl
globals-append s r (v ∷ vs) ws = at v.constant (globals-append s (number_behind (not v.constant) r) vs ws)
  where
    at : (c : Bool) → globals_in s (number_behind (not c) r) (vs ++ ws) ≡ globals_in s (number_behind (not c) r) vs ++ globals_in s (regions_of (number_behind (not v.constant) r) vs) ws
        → (if c then global.Variable (declared_with s (constant_target (constant_of s v)) v) ∷ globals_in s r (vs ++ ws) else global.Variable (declared_with s (target.Region r) v) ∷ globals_in s (suc r) (vs ++ ws))
        ≡ (if c then global.Variable (declared_with s (constant_target (constant_of s v)) v) ∷ globals_in s r vs else global.Variable (declared_with s (target.Region r) v) ∷ globals_in s (suc r) vs) ++ globals_in s (regions_of (number_behind (not v.constant) r) vs) ws
    at true h = ap (λ gs. global.Variable (declared_with s (constant_target (constant_of s v)) v) ∷ gs) h
    at false h = ap (λ gs. global.Variable (declared_with s (target.Region r) v) ∷ gs) h

regions-append : (r : ℕ) (vs ws : List Written) → regions_of r (vs ++ ws) ≡ regions_of (regions_of r vs) ws
regions-append r [] ws = refl
regions-append r (v ∷ vs) ws = regions-append (number_behind (not v.constant) r) vs ws

adds-both : (s : Scope) (a b c : List DeclaredGlobal) (r q t : ℕ) (vs ws : List Written) → AddsGlobals s a b r q vs → AddsGlobals s b c q t ws → AddsGlobals s a c r t (vs ++ ws)
adds-both s a b c r q t vs ws f g = record {
  globals =
      g.globals ∙ ap (λ xs. xs ++ globals_in s q ws) f.globals ∙ append_assoc a (globals_in s r vs) (globals_in s q ws) ∙ ap (λ n. a ++ (globals_in s r vs ++ globals_in s n ws)) f.regions
      ∙ ap (λ xs. a ++ xs) (sym (globals-append s r vs ws));
  regions = g.regions ∙ ap (λ n. regions_of n ws) f.regions ∙ sym (regions-append r vs ws);
}

adds-same : (s : Scope) (a b : List DeclaredGlobal) (r q : ℕ) (vs ws : List Written) → vs ≡ ws → AddsGlobals s a b r q vs → AddsGlobals s a b r q ws
adds-same s a b r q vs ws e f = record { globals = f.globals ∙ ap (λ xs. a ++ globals_in s r xs) e; regions = f.regions ∙ ap (regions_of r) e }

pub configuration_added : (s : Scope) (a b c : List DeclaredGlobal) (r q t : ℕ) (x : Configuration ℕ) (gs : List (Section ℕ)) → gs ≡ resource_globals x.resource → AddsGlobals s a b r q (sections_written x.globals) → AddsGlobals s b c q t (sections_written gs)
    → AddsGlobals s a c r t (sections_written (configuration_globals x))
configuration_added s a b c r q t x gs e h k =
    adds-same s a c r t (sections_written x.globals ++ sections_written gs) (sections_written (configuration_globals x))
    (ap (λ ys. sections_written x.globals ++ sections_written ys) e ∙ sym (flat_map-append section_written x.globals (resource_globals x.resource)))
    (adds-both s a b c r q t (sections_written x.globals) (sections_written gs) h k)

-- ---- declarations

variables-are : (decls : List (Decl ℕ)) (a : DeclaredNames) (r : ℕ) (ws : List Written) → globals_in (unit_scope decls a) r ws ≡ variables_declared decls a r ws
variables-are decls a r [] = refl
variables-are decls a r (w ∷ ws) = at w.constant (variables-are decls a r ws) (variables-are decls a (suc r) ws)
  where
    at : (c : Bool) → globals_in (unit_scope decls a) r ws ≡ variables_declared decls a r ws → globals_in (unit_scope decls a) (suc r) ws ≡ variables_declared decls a (suc r) ws
        → (if c then global.Variable (declared_with (unit_scope decls a) (constant_target (constant_of (unit_scope decls a) w)) w) ∷ globals_in (unit_scope decls a) r ws else global.Variable (declared_with (unit_scope decls a) (target.Region r) w) ∷ globals_in (unit_scope decls a) (suc r) ws)
        ≡ (if c then global.Variable (declared_with (unit_scope decls a) (constant_target (constant_of (unit_scope decls a) w)) w) ∷ variables_declared decls a r ws else global.Variable (declared_with (unit_scope decls a) (target.Region r) w) ∷ variables_declared decls a (suc r) ws)
    at true h k = ap (λ gs. global.Variable (declared_with (unit_scope decls a) (constant_target (constant_of (unit_scope decls a) w)) w) ∷ gs) h
    at false h k = ap (λ gs. global.Variable (declared_with (unit_scope decls a) (target.Region r) w) ∷ gs) k

counted : (decls : List (Decl ℕ)) (a : DeclaredNames) (r : ℕ) (ws : List Written) → regions_of r ws ≡ r + region_count decls a ws
counted decls a r [] = plain r
  where
    plain : (r : ℕ) → r ≡ r + 0
    plain r = omega arith
counted decls a r (w ∷ ws) = counted decls a (number_behind (not w.constant) r) ws ∙ at w.constant
  where
    at : (c : Bool) → number_behind (not c) r + region_count decls a ws ≡ r + length (if (if c then false else true) then w ∷ filter (λ v. if v.constant then false else true) ws else filter (λ v. if v.constant then false else true) ws)
    at true = refl
    at false = more r (region_count decls a ws)
      where
        more : (r n : ℕ) → suc r + n ≡ r + suc n
        more r n = omega arith

module _ (decls : List (Decl ℕ)) (a : DeclaredNames) where
  pub section_declared : (old new : List DeclaredGlobal) (r q k : ℕ) (x : Section ℕ) (ds : List (Decl ℕ)) → AddsGlobals (unit_scope decls a) old new r q (section_written x) → new ++ globals_from decls a q k ds ≡ old ++ globals_from decls a r k (declaration.Globals x ∷ ds)
  section_declared old new r q k x ds h =
      let g = adds-same (unit_scope decls a) old new r q (section_written x) (sections_written (x ∷ [])) (sym (append-nil (section_written x))) h in
      ap (λ xs. xs ++ globals_from decls a q k ds) g.globals
      ∙ append_assoc old (globals_in (unit_scope decls a) r (sections_written (x ∷ []))) (globals_from decls a q k ds)
      ∙ ap (λ xs. old ++ (xs ++ globals_from decls a q k ds)) (variables-are decls a r (sections_written (x ∷ [])))
      ∙ ap (λ n. old ++ (variables_declared decls a r (sections_written (x ∷ [])) ++ globals_from decls a n k ds)) (g.regions ∙ counted decls a r (sections_written (x ∷ [])))

  pub function_declared : (old new : List DeclaredGlobal) (r k n : ℕ) (f : FunctionDecl ℕ) (ds : List (Decl ℕ)) → new ≡ old ++ global.Function k (routine_declared (unit_scope decls a) f.name.text [] f.result f.sections) ∷ [] → n ≡ suc k
      → new ++ globals_from decls a r n ds ≡ old ++ globals_from decls a r k (declaration.Function f ∷ ds)
  function_declared old new r k n f ds h e =
      ap (λ xs. xs ++ globals_from decls a r n ds) h
      ∙ append_assoc old (global.Function k (routine_declared (unit_scope decls a) f.name.text [] f.result f.sections) ∷ []) (globals_from decls a r n ds)
      ∙ ap (λ m. old ++ global.Function k (routine_declared (unit_scope decls a) f.name.text [] f.result f.sections) ∷ globals_from decls a r m ds) e

  pub configuration_declared : (old new : List DeclaredGlobal) (r q n k : ℕ) (c : Configuration ℕ) (ds : List (Decl ℕ)) → AddsGlobals (unit_scope decls a) old new r q (sections_written (configuration_globals c)) → n ≡ q + length c.instances
      → new ++ globals_from decls a n k ds ≡ old ++ globals_from decls a r k (declaration.Configuration c ∷ ds)
  configuration_declared old new r q n k c ds h e =
      ap (λ xs. xs ++ globals_from decls a n k ds) h.globals
      ∙ append_assoc old (globals_in (unit_scope decls a) r (sections_written (configuration_globals c))) (globals_from decls a n k ds)
      ∙ ap (λ xs. old ++ (xs ++ globals_from decls a n k ds)) (variables-are decls a r (sections_written (configuration_globals c)))
      ∙ ap (λ m. old ++ (variables_declared decls a r (sections_written (configuration_globals c)) ++ globals_from decls a m k ds)) (e ∙ ap (λ m. m + length c.instances) (h.regions ∙ counted decls a r (sections_written (configuration_globals c))) ∙ sum r (region_count decls a (sections_written (configuration_globals c))) (length c.instances))
    where
      sum : (a b c : ℕ) → a + b + c ≡ a + (b + c)
      sum a b c = omega arith
