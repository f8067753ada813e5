-- The definitions at work on small units.
use Rattle.std.specs.Prelude.{◌≡◌, ℕ, nat_eq, codes, true, false, List, [], ◌∷◌, Option, Some, None, map, refl}
use Rattle.plc_text.specs.declared.code.Code.TheVariants.{E06, E11, E12}
use Rattle.st_types.specs.declared.st_type.StType.TheVariants.{Instance, Interface, Reference}
use Rattle.st_tree.specs.declared.name.Name.{Name}
use Rattle.st_tree.specs.declared.name.Used.{Used}
use Rattle.st_tree.specs.declared.declaration.Modifier.{Modifier}
use Rattle.st_tree.specs.declared.declaration.Modifier.TheVariants.{Abstract, Final, Override, Private, Internal}
use Rattle.st_tree.specs.declared.declaration.Member.TheVariants as member
use Rattle.st_tree.specs.declared.declaration.ClassSort.TheVariants.{Class}
use Rattle.st_tree.specs.declared.declaration.ClassDecl.{ClassDecl}
use Rattle.st_tree.specs.declared.declaration.Method.{Method}
use Rattle.st_tree.specs.declared.declaration.Prototype.{Prototype}
use Rattle.st_tree.specs.declared.declaration.InterfaceDecl.{InterfaceDecl}
use Rattle.st_rules.specs.declared.signature.ResultType.TheVariants.{Nothing}
use Rattle.st_rules.specs.declared.signature.Signature.{Signature}
use Rattle.st_rules.specs.declared.signature.Signatures.{Signatures}
use Rattle.st_rules.specs.Classes.{chain, lookup, method_id}
use Rattle.st_rules.specs.Interfaces.{extends, conforms, interface_lookup, prototype_id}
use Rattle.st_rules.specs.ClassRules.{class_faults}
use Rattle.st_rules.specs.InterfaceRules.{target, interface_faults, concrete_class_faults}

-- ---- trees by hand: every line is 1, but for methods, which have line 2

name : List ℕ → Name
name text = record { text = text; line = 1 }

used : List ℕ → Used ℕ
used text = record { note = 1; text = text }

method : List Modifier → List ℕ → Method ℕ
method modifiers text = record { line = 2; modifiers = modifiers; name = name text; result = None; sections = []; body = [] }

class : List Modifier → List ℕ → Option (List ℕ) → List (List ℕ) → List (Method ℕ) → ClassDecl ℕ
class modifiers text base interfaces methods = record {
  line = 1;
  sort = Class;
  modifiers = modifiers;
  name = name text;
  base = base_used base;
  interfaces = map used interfaces;
  members = map member.Method methods;
  body = [];
}
  where
    base_used : Option (List ℕ) → Option (Used ℕ)
    base_used None = None
    base_used (Some text) = Some (used text)

interface : List ℕ → List (List ℕ) → List (List ℕ) → InterfaceDecl ℕ
interface text bases methods = record { line = 1; name = name text; bases = map used bases; methods = map prototype methods }
  where
    prototype : List ℕ → Prototype ℕ
    prototype text = record { line = 1; name = name text; result = None; sections = [] }

-- ---- chains and look-up

-- A; B extends A; C extends B; D and E extend each other; F extends D; a second A
classes : List (ClassDecl ℕ)
classes =
    class [] (codes "A") None [] (method [] (codes "M") ∷ method [] (codes "N") ∷ method [] (codes "M") ∷ [])
    ∷ class [] (codes "B") (Some (codes "A")) [] (method [] (codes "N") ∷ [])
    ∷ class [] (codes "C") (Some (codes "B")) [] []
    ∷ class [] (codes "D") (Some (codes "E")) [] (method [] (codes "M") ∷ [])
    ∷ class [] (codes "E") (Some (codes "D")) [] (method [] (codes "N") ∷ [])
    ∷ class [] (codes "F") (Some (codes "D")) [] []
    ∷ class [] (codes "A") None [] (method [] (codes "O") ∷ [])
    ∷ []

upward : chain classes 2 ≡ 2 ∷ 1 ∷ 0 ∷ []
unfolding chain classes class name used method
upward = refl

-- a chain stops before a class that it holds already
round : chain classes 3 ≡ 3 ∷ 4 ∷ []
unfolding chain classes class name used method
round = refl

behind : chain classes 5 ≡ 5 ∷ 3 ∷ 4 ∷ []
unfolding chain classes class name used method
behind = refl

-- the first of two methods, two bases up
first_method : lookup classes 2 (codes "M") ≡ Some (method_id 0 0)
unfolding lookup chain classes class name used method
first_method = refl

nearest_method : lookup classes 2 (codes "N") ≡ Some (method_id 1 0)
unfolding lookup chain classes class name used method
nearest_method = refl

no_method : lookup classes 2 (codes "O") ≡ None
unfolding lookup chain classes class name used method
no_method = refl

-- ---- interfaces: L extends J and K, which extend I

interfaces : List (InterfaceDecl ℕ)
interfaces =
    interface (codes "I") [] (codes "M" ∷ [])
    ∷ interface (codes "J") (codes "I" ∷ []) (codes "N" ∷ [])
    ∷ interface (codes "K") (codes "I" ∷ []) []
    ∷ interface (codes "L") (codes "K" ∷ codes "J" ∷ []) (codes "N" ∷ [])
    ∷ []

diamond : extends interfaces 3 0 ≡ true
unfolding extends interfaces interface name used
diamond = refl

not_back : extends interfaces 0 3 ≡ false
unfolding extends interfaces interface name used
not_back = refl

own_first : interface_lookup interfaces 3 (codes "N") ≡ Some (prototype_id 3 0)
unfolding interface_lookup extends interfaces interface name used
own_first = refl

from_above : interface_lookup interfaces 3 (codes "M") ≡ Some (prototype_id 0 0)
unfolding interface_lookup extends interfaces interface name used
from_above = refl

-- C; B; A extends B and C, in which M stands twice; D extends C and B
with_both : List (InterfaceDecl ℕ)
with_both =
    interface (codes "C") [] (codes "M" ∷ [])
    ∷ interface (codes "B") [] (codes "M" ∷ [])
    ∷ interface (codes "A") (codes "B" ∷ codes "C" ∷ []) []
    ∷ interface (codes "D") (codes "C" ∷ codes "B" ∷ []) []
    ∷ []

first_written : interface_lookup with_both 2 (codes "M") ≡ Some (prototype_id 1 0)
unfolding interface_lookup extends with_both interface name used
first_written = refl

first_of_other : interface_lookup with_both 3 (codes "M") ≡ Some (prototype_id 0 0)
unfolding interface_lookup extends with_both interface name used
first_of_other = refl

-- D and E extend B and C, which extend A; C declares M again. In D it is that of B, which is that of A; in E that of C
arms : List (InterfaceDecl ℕ)
arms =
    interface (codes "A") [] (codes "M" ∷ [])
    ∷ interface (codes "B") (codes "A" ∷ []) []
    ∷ interface (codes "C") (codes "A" ∷ []) (codes "M" ∷ [])
    ∷ interface (codes "D") (codes "B" ∷ codes "C" ∷ []) []
    ∷ interface (codes "E") (codes "C" ∷ codes "B" ∷ []) []
    ∷ []

first_arm : interface_lookup arms 3 (codes "M") ≡ Some (prototype_id 0 0)
unfolding interface_lookup extends arms interface name used
first_arm = refl

other_arm : interface_lookup arms 4 (codes "M") ≡ Some (prototype_id 2 0)
unfolding interface_lookup extends arms interface name used
other_arm = refl

-- A and B extend each other; C extends D and E, and D extends C: from C the first that has M leads back
turning : List (InterfaceDecl ℕ)
turning =
    interface (codes "A") (codes "B" ∷ []) []
    ∷ interface (codes "B") (codes "A" ∷ []) (codes "M" ∷ [])
    ∷ interface (codes "C") (codes "D" ∷ codes "E" ∷ []) []
    ∷ interface (codes "D") (codes "C" ∷ []) []
    ∷ interface (codes "E") [] (codes "M" ∷ [])
    ∷ []

along_cycle : interface_lookup turning 0 (codes "M") ≡ Some (prototype_id 1 0)
unfolding interface_lookup extends turning interface name used
along_cycle = refl

turned_round : interface_lookup turning 2 (codes "M") ≡ None
unfolding interface_lookup extends turning interface name used
turned_round = refl

-- A implements L; B extends A
implementing : List (ClassDecl ℕ)
implementing =
    class [] (codes "A") None (codes "L" ∷ []) (method [] (codes "M") ∷ method (Internal ∷ []) (codes "N") ∷ [])
    ∷ class [] (codes "B") (Some (codes "A")) [] (method (Private ∷ Override ∷ []) (codes "M") ∷ [])
    ∷ []

conforms_above : conforms implementing interfaces 1 (Interface 0) ≡ true
unfolding conforms chain extends implementing interfaces class interface name used method
conforms_above = refl

conforms_to_base : conforms implementing interfaces 1 (Reference 0) ≡ true
unfolding conforms chain extends implementing interfaces class interface name used method
conforms_to_base = refl

not_to_derived : conforms implementing interfaces 0 (Instance 1) ≡ false
unfolding conforms chain extends implementing interfaces class interface name used method
not_to_derived = refl

internal_is_public : target implementing interfaces 1 1 0 ≡ Some (method_id 0 1)
unfolding target lookup conforms chain extends implementing interfaces class interface name used method
internal_is_public = refl

private_is_no_target : target implementing interfaces 1 0 0 ≡ None
unfolding target lookup conforms chain extends implementing interfaces class interface name used method
private_is_no_target = refl

-- ---- rules, with no signature but that of the hook FB_reinit, which is to have a result BOOL

plain : Signature ℕ
plain = record { result = Nothing; parameters = [] }

signatures : Signatures ℕ
signatures = record { methods = (plain ∷ plain ∷ plain ∷ plain ∷ []) ∷ (plain ∷ plain ∷ plain ∷ []) ∷ []; prototypes = (plain ∷ []) ∷ (plain ∷ []) ∷ [] ∷ (plain ∷ []) ∷ []; falsehood = 0 }

-- PRIVATE has another access than PUBLIC
other_access : class_faults nat_eq implementing signatures 1 ≡ (E12, 2) ∷ []
unfolding lookup chain implementing class name used method signatures plain
other_access = refl

on_cycle : class_faults nat_eq (class [] (codes "A") (Some (codes "A")) [] [] ∷ []) signatures 0 ≡ (E06, 1) ∷ []
unfolding lookup chain class name used method signatures plain
on_cycle = refl

-- FINAL is overridden, nothing is overridden, and a hook has no result
methods_broken : class_faults nat_eq (class [] (codes "A") None [] (method (Final ∷ []) (codes "M") ∷ []) ∷ class [] (codes "B") (Some (codes "A")) [] (method [] (codes "M") ∷ method (Override ∷ []) (codes "N") ∷ method [] (codes "FB_REINIT") ∷ []) ∷ []) signatures 1
    ≡ (E12, 2) ∷ (E12, 2) ∷ (E12, 2) ∷ []
unfolding lookup chain class name used method signatures plain
methods_broken = refl

interfaces_met : concrete_class_faults implementing interfaces nat_eq signatures 0 ≡ []
unfolding target lookup conforms chain extends implementing interfaces class interface name used method signatures plain
interfaces_met = refl

-- the PRIVATE method does not serve I
interface_left : concrete_class_faults implementing interfaces nat_eq signatures 1 ≡ (E11, 1) ∷ []
unfolding target lookup conforms chain extends implementing interfaces class interface name used method signatures plain
interface_left = refl

-- a class that is not abstract inherits an abstract method
abstract_left : concrete_class_faults (class (Abstract ∷ []) (codes "A") None [] (method (Abstract ∷ []) (codes "M") ∷ []) ∷ class [] (codes "B") (Some (codes "A")) [] [] ∷ []) [] nat_eq signatures 1 ≡ (E11, 1) ∷ []
unfolding target lookup conforms chain extends class name used method signatures plain
abstract_left = refl

interface_on_cycle : interface_faults (interface (codes "I") (codes "J" ∷ []) [] ∷ interface (codes "J") (codes "J" ∷ []) [] ∷ []) 0 ≡ []
unfolding extends interface name used
interface_on_cycle = refl
