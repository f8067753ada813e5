-- The constants of a routine or a program are told one by one, in any order, until no more can be told: then all is told of its locals.
use Rattle.std.specs.Prelude.{◌≡◌, ℕ, List, map, Option, Some, slice_get}
use Rattle.st_types.specs.declared.st_type.StType.{StType}
use Rattle.st_tree.specs.declared.declaration.Section.{Section}
use Rattle.st_tree.specs.declared.program.Target.{Target}
use Rattle.st_tree.specs.declared.type_spec.TypeSpec.{TypeSpec}
use Rattle.st_rules.specs.declared.names.DeclaredVariable.{DeclaredVariable}
use Rattle.st_rules.specs.Scope.{Scope}
use Rattle.st_unit_rules.specs.declared_names.Variables.{members_declared, routine_locals}
use Rattle.st_unit_rules.specs.declared_names.UnitNames.{forgotten, locals_of, program_locals}
use Rattle.resolution_order.specs.told_laws.ToldLaws.{Each, Every, AlikeVariable, NoLess, MeansNoLess, TellsKind}
use Rattle.st_rules.specs.Telling.{changed_at, variable_told}
use Rattle.resolution_order.specs.told_laws.TellingLaws.{NoValueLeft}

-- the local at the place has this type and means this
abbrev pub with_local : List DeclaredVariable → ℕ → StType → Target → List DeclaredVariable
with_local vs i t meant = changed_at (variable_told t meant) i vs

-- all that is told so far is so in the end, and the value of a constant is told only with its type
pub record SoundLocals (vs all : List DeclaredVariable) : Type 0 where
  pub kinds : Every TellsKind vs
  pub below : Each (AlikeVariable NoLess MeansNoLess) vs all

-- what `gives` tells of locals from what is told of them so far; `first` is told at first, `all` in the end
pub record TellsAll (gives : List DeclaredVariable → List DeclaredVariable) (first all : List DeclaredVariable) : Type 0 where
  pub begun : SoundLocals first all
  pub next : (vs : List DeclaredVariable) (i : ℕ) (v : DeclaredVariable) (t : StType) → SoundLocals vs all → slice_get (gives vs) i ≡ Some v → v.kind ≡ Some t → SoundLocals (with_local vs i t v.target) all
  pub round : (vs : List DeclaredVariable) → SoundLocals vs all → SoundLocals (gives vs) all
  pub ended : (vs : List DeclaredVariable) → SoundLocals vs all → Each NoValueLeft vs (gives vs) → gives vs ≡ all
  pub settled : gives all ≡ all

pub record LocalLaws : Type 0 where
  -- of a function, a method or a method of an interface, in the scope around it
  pub routine : (s : Scope) (name : List ℕ) (result : Option (TypeSpec ℕ)) (sections : List (Section ℕ))
      → TellsAll (λ vs. routine_locals (record s { locals = vs }) name result sections) (map forgotten (routine_locals s name result sections)) (locals_of s name result sections)
  -- of a program
  pub program : (s : Scope) (sections : List (Section ℕ))
      → TellsAll (λ vs. members_declared (record s { locals = vs }) 0 0 sections) (map forgotten (members_declared s 0 0 sections)) (program_locals s sections)
