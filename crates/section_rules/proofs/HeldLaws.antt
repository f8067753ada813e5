-- The class that a type holds, by its variants.
use Rattle.std.proofs.Common.{◌≡◌, ℕ, zero, suc, ℤ, List, [], ◌∷◌, Option, Some, None, Bor, refl, sym, ap, ◌∙◌}
use Rattle.std.specs.Prelude.{slice_get}
use Rattle.st_types.specs.declared.elem.Elem.{Elem}
use Rattle.st_types.specs.declared.st_type.StType.{StType}
use Rattle.st_types.specs.declared.st_type.StType.TheVariants as type
use Rattle.st_types.specs.declared.st_type.StType.TheOpen.{StType-F}
use Rattle.st_types.specs.declared.st_type.StType.TheFolds.{fold-roll-StType}
use Rattle.st_tree.specs.declared.declaration.ClassDecl.{ClassDecl}
use Rattle.st_rules.specs.Modifiers.{is_abstract}
use Rattle.st_rules.specs.Numbered.{passes_if_there}
use Rattle.st_unit_rules.specs.VariableRules.{class_held, is_abstract_class}
use Rattle.section_rules.specs.Variables.{classes_of}

pub held-Elementary : (e : Elem) → class_held (type.Elementary e) ≡ None
unfolding class_held
held-Elementary e = ap class_held (sym (type.rolls-Elementary e)) ∙ fold-roll-StType (Option ℕ) _ (StType-F.Elementary e)

pub held-Enumeration : (n : ℕ) → class_held (type.Enumeration n) ≡ None
unfolding class_held
held-Enumeration n = ap class_held (sym (type.rolls-Enumeration n)) ∙ fold-roll-StType (Option ℕ) _ (StType-F.Enumeration n)

pub held-Structure : (n : ℕ) → class_held (type.Structure n) ≡ None
unfolding class_held
held-Structure n = ap class_held (sym (type.rolls-Structure n)) ∙ fold-roll-StType (Option ℕ) _ (StType-F.Structure n)

pub held-Instance : (n : ℕ) → class_held (type.Instance n) ≡ Some n
unfolding class_held
held-Instance n = ap class_held (sym (type.rolls-Instance n)) ∙ fold-roll-StType (Option ℕ) _ (StType-F.Instance n)

pub held-Reference : (n : ℕ) → class_held (type.Reference n) ≡ None
unfolding class_held
held-Reference n = ap class_held (sym (type.rolls-Reference n)) ∙ fold-roll-StType (Option ℕ) _ (StType-F.Reference n)

pub held-Interface : (n : ℕ) → class_held (type.Interface n) ≡ None
unfolding class_held
held-Interface n = ap class_held (sym (type.rolls-Interface n)) ∙ fold-roll-StType (Option ℕ) _ (StType-F.Interface n)

pub held-Array : (low high : ℤ) (t : StType) → class_held (type.Array low high t) ≡ class_held t
unfolding class_held
held-Array low high t = ap class_held (sym (type.rolls-Array low high t)) ∙ fold-roll-StType (Option ℕ) _ (StType-F.Array low high t)

pub ruleset held_views = (held-Elementary, held-Enumeration, held-Structure, held-Instance, held-Reference, held-Interface, held-Array)

-- a class among those that are lent
pub class_there : (cs : List (Bor (ClassDecl ℕ))) (c : ℕ) → is_abstract_class (classes_of cs) (Some c) ≡ passes_if_there (λ d. is_abstract d.now.modifiers) (slice_get cs c)
class_there [] c = refl
class_there (x ∷ xs) zero = refl
class_there (x ∷ xs) (suc c) = class_there xs c
