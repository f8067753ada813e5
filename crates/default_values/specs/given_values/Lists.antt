-- Lists of worths by what is given: part by part, and name by name.
use Rattle.std.specs.Prelude.{ℕ, zero, suc, ◌-◌, min, List, [], ◌∷◌, Option, Some, None}
use Rattle.st_tree.specs.declared.declaration.FieldGroup.{FieldGroup}
use Rattle.st_tree.specs.declared.declaration.TypeDecl.{TypeDecl}
use Rattle.st_tree.specs.declared.initial.FieldInit.{FieldInit}
use Rattle.st_tree.specs.Initial.{Initial, Fields, Part, One, Repeated, fields_of}
use Rattle.st_rules.specs.Scope.{Scope}
use Rattle.st_unit_rules.specs.Initials.{part_count}
use Rattle.st_unit_rules.specs.Worth.{Worth, Worths, worth_before, Weighs, names_worth}

abbrev pub given_by : Part ℕ → Initial ℕ
given_by (One i) = i
given_by (Repeated l digits i) = i

-- so many times the same, before what is behind it
abbrev pub repeat_before : ℕ → Option Worth → Option Worths → Option Worths
repeat_before zero w o = o
repeat_before (suc n) w o = worth_before w (repeat_before n w o)

abbrev pub room_after : ℕ → List (Part ℕ) → ℕ
room_after n [] = n
room_after n (p ∷ ps) = room_after (n - part_count p) ps

-- the room before each part, and behind all
abbrev pub rooms : ℕ → List (Part ℕ) → List ℕ
rooms n [] = n ∷ []
rooms n (p ∷ ps) = n ∷ rooms (n - part_count p) ps

abbrev pub parts_worth : (Option (Initial ℕ) → Option Worth) → ℕ → List (Part ℕ) → Option Worths → Option Worths
parts_worth f n [] rest = rest
parts_worth f n (p ∷ ps) rest = repeat_before (min (part_count p) n) (f (Some (given_by p))) (parts_worth f (n - part_count p) ps rest)

-- values for names
abbrev pub fields_as : List (FieldInit ℕ) → Option (Initial ℕ)
fields_as fs = Some (Fields 0 (fields_of fs))

module _ (unit : Scope) (entries : List (TypeDecl ℕ)) where
  abbrev pub groups_behind : Weighs unit entries → Scope → Option (Initial ℕ) → List (FieldGroup ℕ) → Option Worths → Option Worths
  groups_behind f s i [] rest = rest
  groups_behind f s i (g ∷ gs) rest = names_worth unit entries f s i g g.names (groups_behind f s i gs rest)
