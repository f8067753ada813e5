-- A whole unit.
use Rattle.std.proofs.Common.{◌≡◌, ℕ, false, List, [], Option, Some, None, map, refl, sym, ap, ◌∙◌, subst}
use Rattle.std.specs.Prelude.{pos}
use Rattle.st_tree.specs.declared.unit.Decl.{Decl}
use Rattle.st_rules.specs.declared.signature.Signature.{Signature}
use Rattle.st_rules.specs.declared.signature.Signatures.{Signatures}
use Rattle.st_rules.specs.Classes.{classes_in}
use Rattle.st_rules.specs.Interfaces.{interfaces_in}
use Rattle.st_rules.specs.Scope.{Scope}
use Rattle.st_unit_rules.specs.declared_names.Declarations.{entries_in}
use Rattle.st_unit_rules.specs.declared_names.UnitNames.{method_scope, prototype_scope}
use Rattle.st_unit_rules.specs.DeclarationRules.{signatures, unit}
use Rattle.st_unit_rules.specs.Worth.{Worth, a_number}
use Rattle.default_values.specs.declared.worth_numbers.node.Node.{Node}
use Rattle.default_values.specs.worth_numbers.Numbers.{Grows, HasWorth, Gives}
use Rattle.default_values.proofs.worth_numbers.TableLaws.{grows_through, worth_stays}
use Rattle.default_values.specs.declared.initial_worths.structures.Structure.{Structure}
use Rattle.default_values.specs.initial_worths.Structures.{AreStructures}
use Rattle.default_values.specs.declared.structure_worths.unweighed.DeclaredStructure.{DeclaredStructure}
use Rattle.default_values.specs.structure_worths.Unweighed.{AreDeclared}
use Rattle.default_values.specs.structure_worths.Weighed.{WeighsAll}
use Rattle.default_values.specs.numbered_signatures.Alike.{AreAlike, AreAllAlike}
use Rattle.default_values.specs.numbered_signatures.Signatures.{Tells}
use Rattle.symbol_table.specs.unit_tables.Scopes.{scope_in}
use Rattle.check_signatures.specs.declared.unit_signatures.weighed.Weighed.{Weighed}
use Rattle.check_signatures.specs.unit_signatures.Private.Adds.{Adds}
use Rattle.check_signatures.specs.unit_signatures.Private.Parameters.{AreWeighed}
use Rattle.check_signatures.specs.unit_signatures.Private.Routines.{list_tells, classes_from, interface_signatures}
use Rattle.check_signatures.specs.unit_signatures.Private.Unit.{all_of, TellsAll, WeighsUnit}
use Rattle.check_signatures.proofs.unit_signatures.AddLaws.{alike_more}
use Rattle.check_signatures.proofs.unit_signatures.ParameterLaws.{weighed_stay}
use Rattle.check_signatures.proofs.unit_signatures.RoutineLaws.{list_stays}

pub all_told : (w : Weighed) (a b c d : List Node) (ds : List (Decl ℕ)) (ms ps : List (List (Signature ℕ))) (k : ℕ) → ds ≡ w.tables.now.decls → Adds list_tells (AreWeighed w) a b [] ms (classes_from w 0 (classes_in ds))
    → Adds list_tells (AreWeighed w) b c [] ps (map (interface_signatures w) (interfaces_in ds)) → Gives c d k (a_number (pos 0)) → TellsAll w a d (record { methods = ms; prototypes = ps; falsehood = k })
all_told w a b c d ds ms ps k q m p f =
    let g = grows_through b c d p.grows f.grows in
    record {
      grows = grows_through a b d m.grows g;
      told = λ h. record {
        methods = subst (λ (xs : List (Decl ℕ)). AreAlike (list_tells d) ms (classes_from w 0 (classes_in xs))) q (alike_more (list_tells b) (list_tells d) (list_stays b d g) ms (classes_from w 0 (classes_in ds)) (m.told h [] tt));
        prototypes =
            subst (λ (xs : List (Decl ℕ)). AreAlike (list_tells d) ps (map (interface_signatures w) (interfaces_in xs))) q
            (alike_more (list_tells c) (list_tells d) (list_stays c d f.grows) ps (map (interface_signatures w) (interfaces_in ds)) (p.told (weighed_stay w a b m.grows h) [] tt));
        falsehood = f.worth;
      };
    }

-- they are the signatures of the rules
all_is : (w : Weighed) → all_of w ≡ signatures w.tables.now.decls
unfolding signatures method_scope prototype_scope
all_is w = refl

unit_told : (w : Weighed) (old new : List Node) (x : Signatures ℕ) → AreWeighed w old → TellsAll w old new x → Tells new x (signatures w.tables.now.decls)
unit_told w old new x a h = subst (λ (y : Signatures Worth). AreAllAlike (HasWorth new) x y) (all_is w) (h.told a)

-- the structures of the unit
pub unit_weighed : (decls : List (Decl ℕ)) (old new : List Node) (s : Scope) (ds : List (Decl ℕ)) (declared : List DeclaredStructure) (xs : List Structure) → s ≡ scope_in decls None false [] → ds ≡ decls → AreDeclared s (entries_in ds) declared → WeighsAll old new s declared xs
    → WeighsUnit decls old new xs
unit_weighed decls old new s ds declared xs e q d h = record {
  grows = h.grows;
  structures = subst (λ (es : List (Decl ℕ)). AreStructures new (unit decls) (entries_in es) 66 xs) q (subst (λ (t : Scope). AreStructures new t (entries_in ds) 66 xs) e (h.structures (entries_in ds) d));
}

pub unit_told_as : (w : Weighed) (first old new : List Node) (x : Signatures ℕ) (xs : List Structure) → w.structures.now ≡ xs → WeighsUnit w.tables.now.decls first old xs → TellsAll w old new x → Tells new x (signatures w.tables.now.decls)
unit_told_as w first old new x xs e u h = unit_told w old new x (subst (λ (ys : List Structure). AreStructures old (unit w.tables.now.decls) (entries_in w.tables.now.decls) 66 ys) (sym e) u.structures) h
