-- The tables of the code by what they are asked for.
use Rattle.std.specs.Prelude.{◌≡◌, ◌&&◌, ◌++◌, ℕ, Bool, true, cond, List, [], ◌∷◌, Option, Some, None, nat_eq, if◌then◌else◌}
use Rattle.std.specs.HashMap.{HashMap, get}
use Rattle.std.specs.HashSet.{HashSet, contains}
use Rattle.std.specs.List.{list_any}
use Rattle.stack_code.specs.declared.code.Conformance.{Conformance}
use Rattle.stack_code.specs.declared.code.InterfaceTarget.{InterfaceTarget}
use Rattle.stack_code.specs.Machine.{first_target}

abbrev pub same_pair : ℕ × ℕ → ℕ × ℕ → Bool
same_pair a b = nat_eq a.0 b.0 && nat_eq a.1 b.1

abbrev pub is_conforming : ℕ → ℕ → List Conformance → Bool
is_conforming class target table = list_any (λ p. nat_eq p.class class && nat_eq p.target target) table

-- the set has one pair more
abbrev pub IsPairNoted : {S T : Type 0} → HashSet (ℕ × ℕ) S → HashSet (ℕ × ℕ) T → ℕ → ℕ → Type 0
IsPairNoted old new c t = (q : ℕ × ℕ) → contains same_pair new q ≡ cond (same_pair (c, t) q) true (contains same_pair old q)

-- the set has the pairs of the table
abbrev pub ArePairs : {S : Type 0} → List Conformance → HashSet (ℕ × ℕ) S → Type 0
ArePairs table found = (class target : ℕ) → contains same_pair found (class, target) ≡ is_conforming class target table

abbrev pub same_implemented : ℕ × (ℕ × ℕ) → ℕ × (ℕ × ℕ) → Bool
same_implemented a b = nat_eq a.0 b.0 && (nat_eq a.1.0 b.1.0 && nat_eq a.1.1 b.1.1)

-- the map has the routine of one entry more
abbrev pub IsImplementationNoted : {S T : Type 0} → HashMap (ℕ × (ℕ × ℕ)) ℕ S → HashMap (ℕ × (ℕ × ℕ)) ℕ T → InterfaceTarget → Type 0
IsImplementationNoted old new t = (q : ℕ × (ℕ × ℕ)) → get same_implemented new q ≡ cond (same_implemented (t.class, (t.interface, t.method)) q) (Some t.routine) (get same_implemented old q)

-- the map has the first routine of the table for each class, interface and method
abbrev pub AreImplementations : {S : Type 0} → List InterfaceTarget → HashMap (ℕ × (ℕ × ℕ)) ℕ S → Type 0
AreImplementations table found = (class interface method : ℕ) → get same_implemented found (class, (interface, method)) ≡ first_target table class interface method

-- the classes that conform to a target, in the order of the table
abbrev pub conformers : List Conformance → ℕ → List ℕ
conformers [] target = []
conformers (p ∷ ps) target = if nat_eq p.target target then p.class ∷ conformers ps target else conformers ps target

abbrev pub numbers_of : Option (List ℕ) → List ℕ
numbers_of None = []
numbers_of (Some ns) = ns

-- the map has for each target the classes that conform to it
abbrev pub AreConformers : {S : Type 0} → List Conformance → HashMap ℕ (List ℕ) S → Type 0
AreConformers table found = (target : ℕ) → numbers_of (get nat_eq found target) ≡ conformers table target

-- the group has one number more, and the others have what they had
abbrev pub IsNoted : {S T : Type 0} → HashMap ℕ (List ℕ) S → HashMap ℕ (List ℕ) T → ℕ → ℕ → Type 0
IsNoted old new group number = (q : ℕ) → numbers_of (get nat_eq new q) ≡ (if nat_eq group q then numbers_of (get nat_eq old q) ++ number ∷ [] else numbers_of (get nat_eq old q))
