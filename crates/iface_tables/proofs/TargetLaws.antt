-- What the names of interfaces' methods tell of targets and broken rules is what the rules say.
use Rattle.std.proofs.Common.{◌≡◌, ℕ, suc, ◌+◌, ◌<◌, ◌≤◌, Bool, true, false, List, [], ◌∷◌, ◌++◌, Option, Some, None, length, map, drop, get_or, add-one, refl, sym, ap, ◌∙◌, arith}
use Rattle.std.specs.Prelude.{◌||◌, ◌&&◌, not, slice_get, option_map, option_and_then, if◌then◌else◌}
use Rattle.std.proofs.lemmas.List.{length-map}
use Rattle.plc_text.specs.declared.code.Code.TheVariants.{E11}
use Rattle.st_types.specs.declared.st_type.StType.TheVariants.{Interface}
use Rattle.st_tree.specs.declared.declaration.ClassDecl.{ClassDecl}
use Rattle.st_tree.specs.declared.declaration.InterfaceDecl.{InterfaceDecl}
use Rattle.st_tree.specs.declared.declaration.Prototype.{Prototype}
use Rattle.st_tree.specs.declared.unit.Unit.{Unit}
use Rattle.st_rules.specs.declared.signature.Signatures.{Signatures}
use Rattle.st_rules.specs.Faults.{least, when}
use Rattle.st_rules.specs.Numbered.{passes_if_there, any_numbered}
use Rattle.st_rules.specs.Modifiers.{is_abstract}
use Rattle.st_rules.specs.Classes.{classes_in, lookup}
use Rattle.st_rules.specs.Interfaces.{interfaces_in, conforms, prototype_names, prototype_id}
use Rattle.st_rules.specs.InterfaceRules as rules
use Rattle.st_rules.specs.InterfaceRules.{if_public, has_abstract_method, lies_on_interface_cycle}
use Rattle.st_rules.proofs.Booleans.{or-first}
use Rattle.st_rules.proofs.ListLaws.{drop-at, drop-end}
use Rattle.class_tables.proofs.BridgeLaws.{get-map}
use Rattle.class_tables.proofs.ClimbLaws.{get_or-self}
use Rattle.iface_tables.specs.Private.Targets as targets
use Rattle.iface_tables.specs.Private.Broken as broken

-- ---- a search through numbered items, by what is left of them

module _ {X : Type 0} (test : ℕ → X → Bool) (xs : List X) (i : ℕ) (d : X) (all : Bool) where
  here : i < length xs → drop i xs ≡ get_or xs i d ∷ drop (i + 1) xs
  here l = drop-at xs i (get_or xs i d) l (get_or-self xs i d)

  pub any_found : i < length xs → test i (get_or xs i d) ≡ true → any_numbered test i (drop i xs) ≡ all → true ≡ all
  any_found l t h = sym (ap (any_numbered test i) (here l) ∙ or-first (test i (get_or xs i d)) (any_numbered test (suc i) (drop (i + 1) xs)) t) ∙ h

  pub any_next : i < length xs → test i (get_or xs i d) ≡ false → any_numbered test i (drop i xs) ≡ all → any_numbered test (i + 1) (drop (i + 1) xs) ≡ all
  any_next l t h =
      ap (λ k. any_numbered test k (drop (i + 1) xs)) (add-one i) ∙ sym (ap (any_numbered test i) (here l) ∙ ap (λ b. b || any_numbered test (suc i) (drop (i + 1) xs)) t) ∙ h

  pub any_none : length xs ≤ i → any_numbered test i (drop i xs) ≡ all → false ≡ all
  any_none l h = sym (ap (any_numbered test i) (drop-end xs i l)) ∙ h

any-map : {X Y : Type 0} (f : ℕ → X → Bool) (g : ℕ → Y → Bool) (h : X → Y) (n : ℕ) (xs : List X) → ((k : ℕ) (x : X) → slice_get xs k ≡ Some x → g (n + k) (h x) ≡ f (n + k) x) → any_numbered g n (map h xs) ≡ any_numbered f n xs
any-map f g h n [] e = refl
any-map f g h n (x ∷ xs) e = ap (λ b. b || any_numbered g (suc n) (map h xs)) first ∙ ap (λ b. f n x || b) (any-map f g h (suc n) xs rest)
  where
    first : g n (h x) ≡ f n x
    first = let z : n + 0 ≡ n = omega arith in ap (λ m. g m (h x)) (sym z) ∙ e 0 x refl ∙ ap (λ m. f m x) z

    rest : (k : ℕ) (y : _) → slice_get xs k ≡ Some y → g (suc n + k) (h y) ≡ f (suc n + k) y
    rest k y q = let z : n + suc k ≡ suc n + k = omega arith in ap (λ m. g m (h y)) (sym z) ∙ e (suc k) y q ∙ ap (λ m. f m y) z

-- ---- a unit

module _ (unit : Unit) (prototypes : List (List (List ℕ))) (is : prototypes ≡ map prototype_names (interfaces_in unit.decls)) where
  abbrev classes : List (ClassDecl ℕ)
  classes = classes_in unit.decls

  abbrev interfaces : List (InterfaceDecl ℕ)
  interfaces = interfaces_in unit.decls

  pub as_many : length prototypes ≡ length interfaces
  as_many = ap length is ∙ length-map interfaces prototype_names

  named-same : (c i m : ℕ) → targets.named_method unit prototypes c i m
      ≡ option_and_then (if_public classes) (option_and_then (λ p. lookup classes c p.name.text) (option_and_then (λ interface. slice_get interface.methods m) (slice_get interfaces i)))
  named-same c i m = ap (λ ps. option_and_then (λ names. option_and_then (targets.public_method unit c) (slice_get names m)) (slice_get ps i)) is
      ∙ ap (option_and_then (λ names. option_and_then (targets.public_method unit c) (slice_get names m))) (get-map prototype_names interfaces i) ∙ at (slice_get interfaces i)
    where
      in_interface : (o : Option (Prototype ℕ)) → option_and_then (targets.public_method unit c) (option_map (λ (p : Prototype ℕ). p.name.text) o) ≡ option_and_then (if_public classes) (option_and_then (λ p. lookup classes c p.name.text) o)
      in_interface None = refl
      in_interface (Some p) = refl

      at : (o : Option (InterfaceDecl ℕ)) → option_and_then (λ names. option_and_then (targets.public_method unit c) (slice_get names m)) (option_map prototype_names o)
          ≡ option_and_then (if_public classes) (option_and_then (λ p. lookup classes c p.name.text) (option_and_then (λ interface. slice_get interface.methods m) o))
      at None = refl
      at (Some interface) = ap (option_and_then (targets.public_method unit c)) (get-map (λ (p : Prototype ℕ). p.name.text) interface.methods m) ∙ in_interface (slice_get interface.methods m)

  pub target-same : (c i m : ℕ) → targets.target unit prototypes c i m ≡ rules.target classes interfaces c i m
  unfolding rules.target
  target-same c i m = ap (λ o. if conforms classes interfaces c (Interface i) then o else None) (named-same c i m)

  module _ {V : Type 0} (same_value : V → V → Bool) (signatures : Signatures V) where
    leaves-same : (c i : ℕ) (interface : InterfaceDecl ℕ) → broken.leaves_interface same_value unit prototypes signatures c i (prototype_names interface) ≡ rules.leaves_method classes interfaces same_value signatures c i interface
    leaves-same c i interface =
        ap (λ b. conforms classes interfaces c (Interface i) && b)
        (any-map (λ m p. not (rules.is_met classes interfaces same_value signatures c i m)) (λ m name. not (broken.is_met same_value unit prototypes signatures c i m)) (λ (p : Prototype ℕ). p.name.text) 0 interface.methods
        (λ k p e. ap (λ o. not (passes_if_there (λ id. broken.has_signature same_value signatures id (prototype_id i (0 + k))) o)) (target-same c i (0 + k))))

    any_left-same : (c : ℕ) → broken.leaves_any same_value unit prototypes signatures c ≡ any_numbered (rules.leaves_method classes interfaces same_value signatures c) 0 interfaces
    any_left-same c =
        ap (any_numbered (broken.leaves_interface same_value unit prototypes signatures c) 0) is
        ∙ any-map (rules.leaves_method classes interfaces same_value signatures c) (broken.leaves_interface same_value unit prototypes signatures c) prototype_names 0 interfaces (λ k interface e. leaves-same c (0 + k) interface)

    pub class_faults-same : (c : ℕ) → least (broken.class_faults same_value unit prototypes signatures c) ≡ least (rules.concrete_class_faults classes interfaces same_value signatures c)
    class_faults-same c = at (slice_get classes c)
      where
        line : (class : ClassDecl ℕ) (b : Bool) → least (broken.faults_at same_value unit prototypes signatures c (if b then None else Some class.line))
            ≡ least (when (not b && has_abstract_method classes c) E11 class.line ++ when (not b && any_numbered (rules.leaves_method classes interfaces same_value signatures c) 0 interfaces) E11 class.line)
        line class true = refl
        line class false = ap (λ b. least (when (has_abstract_method classes c) E11 class.line ++ when b E11 class.line)) (any_left-same c)

        at : (o : Option (ClassDecl ℕ)) → least (broken.faults_at same_value unit prototypes signatures c (option_and_then (λ class. if is_abstract class.modifiers then None else Some class.line) o)) ≡ least (rules.concrete_class_faults_of classes interfaces same_value signatures c o)
        at None = refl
        at (Some class) = line class (is_abstract class.modifiers)

pub interface_faults-same : (unit : Unit) (i : ℕ) → least (broken.interface_faults unit i) ≡ least (rules.interface_faults (interfaces_in unit.decls) i)
interface_faults-same unit i = at (slice_get (interfaces_in unit.decls) i)
  where
    at : (o : Option (InterfaceDecl ℕ)) → least (broken.cycle_at unit i (option_map (λ interface. interface.line) o)) ≡ least (rules.interface_faults_of (interfaces_in unit.decls) i o)
    at None = refl
    at (Some interface) = refl
