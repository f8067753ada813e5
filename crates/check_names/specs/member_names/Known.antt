-- What is known of the names that classes declare.
use Rattle.std.specs.Prelude.{ℕ, List, [], ◌∷◌}
use Rattle.st_tree.specs.declared.declaration.ClassDecl.{ClassDecl}
use Rattle.st_rules.specs.Classes.{method_names}
use Rattle.st_unit_rules.specs.NameRules.{variable_texts}
use Rattle.check_names.specs.name_spaces.Held.{Holds}
use Rattle.check_names.specs.declared.member_names.names.MemberNames.{MemberNames}

-- each list holds the names that the class at its place gives
abbrev pub HoldsEach : (ClassDecl ℕ → List (List ℕ)) → List (List (List ℕ)) → List (ClassDecl ℕ) → Type 0
HoldsEach gives [] [] = Unit {0}
HoldsEach gives (h ∷ hs) (c ∷ cs) = Holds h (gives c) × HoldsEach gives hs cs
HoldsEach gives _ _ = ⊥

pub record AreHeld (gives : ClassDecl ℕ → List (List ℕ)) (held : List (List (List ℕ))) (classes : List (ClassDecl ℕ)) : Type 0 where
  pub each : HoldsEach gives held classes

-- the names of the variables of each class, without externals, and of its methods
pub record Knows (names : MemberNames) (classes : List (ClassDecl ℕ)) : Type 0 where
  pub variables : AreHeld variable_texts names.variables.items classes
  pub methods : AreHeld method_names names.methods.items classes
