-- The locals of a routine or a program: where no constant needs itself, all are told.
use Rattle.std.proofs.Common.{◌≡◌, ℕ, Bool, true, false, List, [], ◌∷◌, ◌++◌, Option, Some, None, refl, sym, ap, ◌∙◌, subst}
use Rattle.std.specs.Prelude.{if◌then◌else◌}
use Rattle.std.specs.Option.{is_some}
use Rattle.plc_text.specs.Words.{same}
use Rattle.st_tree.specs.declared.declaration.Section.{Section}
use Rattle.st_tree.specs.declared.type_spec.TypeSpec.{TypeSpec}
use Rattle.st_rules.specs.declared.names.DeclaredVariable.{DeclaredVariable}
use Rattle.st_rules.specs.Expressions.{value_target}
use Rattle.st_rules.specs.Scope.{Scope, variable_named, global_named}
use Rattle.st_rules.proofs.Booleans.{some-same, false≢true}
use Rattle.st_unit_rules.specs.declared_names.Constants.{is_told, is_constant_meaning}
use Rattle.st_unit_rules.specs.declared_names.UnitNames.{locals_of, program_locals}
use Rattle.st_unit_rules.specs.declared_names.Variables.{Written, sections_written, members_declared, routine_locals, locals_declared, result_declared, constant_of, constant_target}
use Rattle.st_unit_rules.specs.declared_names.WrittenTypes.{type_written, type_faults}
use Rattle.st_unit_rules.specs.VariableRules.{Home, sections_faults, result_faults, instance_out_of_place}
use Rattle.resolution_order.specs.told_laws.ToldLaws.{Every, TellsKind, TellsKinds}
use Rattle.resolution_order.proofs.told_laws.LocalTelling.{local_laws}
use Rattle.resolution_order.proofs.told_laws.Tells.{routine-tells, members-tell}
use Rattle.accepted_texts.proofs.unfolding_laws.ListLaws.{every_one, every_append}
use Rattle.accepted_texts.proofs.unfolding_laws.CycleLaws.{none_in}
use Rattle.st_unit_rules.specs.Cycles.{Named, alone, before_dot, before_hash, named_in_bounds, element_names, needs_inner}
use Rattle.accepted_texts.specs.told_units.Formed.{IsFormedResult}
use Rattle.accepted_texts.proofs.told_units.Names.{IsToldType, IsToldNamed}
use Rattle.accepted_texts.specs.told_units.Told.{HasValue, IsToldVariable, IsToldName, AllTold}
use Rattle.accepted_texts.proofs.told_units.Meant.{ClassesHave, name-means}
use Rattle.accepted_texts.proofs.told_units.Inner.{AreRows, IsGoodWritten, IsWellWritten, IsToldWritten, members-rows, locals-rows, constants-told, each-name}
use Rattle.accepted_texts.proofs.told_units.Sections.{sections-good}
use Rattle.accepted_texts.proofs.told_units.ScopeLaws.{values-have-types}
use Rattle.accepted_texts.proofs.told_units.Written.{written-told}
use Rattle.accepted_texts.proofs.told_units.TypeLaws.{ValuesHaveTypes}

pub all-told : (s : Scope) → ValuesHaveTypes s → ((name : List ℕ) → IsToldType s name) → ((name : List ℕ) → IsToldName s name) → AllTold s
all-told s v types names = record {
  names = names;
  written = λ t n f. written-told s v t n (every_one (IsToldNamed s) each (named_in_bounds t)) (every_one (IsToldType s) types (element_names t.element)) f;
}
  where
    each : (x : Named) → IsToldNamed s x
    each (alone name) = names name
    each (before_dot name) = (names name, types name)
    each (before_hash l name) = types name

pub rows-told : (s : Scope) (ws : List Written) (vs : List DeclaredVariable) → AreRows s ws vs → AllTold s → Every (IsGoodWritten s) ws → Every (IsWellWritten s) ws → Every (IsToldWritten s) ws → Every IsToldVariable vs
rows-told s [] [] r a g x t = tt
rows-told s (w ∷ ws) (v ∷ vs) r a g x t = (
  (ap is_some (r.0).2 ∙ a.written w.item.kind (x.0).0 (g.0).0, λ c. let q = sym (r.0).1 ∙ c in ap is_told ((r.0).3 q) ∙ there (constant_of s w) (t.0 q).1),
  rows-told s ws vs r.1 a g.1 x.1 t.1,
)
  where
    there : (o : Option _) → is_some o ≡ true → is_told (constant_target o) ≡ true
    there None e = absurd (false≢true e)
    there (Some z) e = refl
rows-told s [] (v ∷ vs) r a g x t = absurd r
rows-told s (w ∷ ws) [] r a g x t = absurd r

module _ (s : Scope) (types : (name : List ℕ) → IsToldType s name) (tells : TellsKinds s.names)
    (globals : (name : List ℕ) → is_constant_meaning s (global_named name s.names.globals) ≡ true → is_told (value_target (global_named name s.names.globals)) ≡ true)
    (classes : (vs : List DeclaredVariable) (name : List ℕ) → ClassesHave (record s { locals = vs }) globals s.class name)
    (h : Home) (sections : List (Section ℕ)) (free : (i : ℕ) → needs_inner (sections_written sections) i ≡ false)
  where
    -- ---- a routine

    module _ (name : List ℕ) (result : Option (TypeSpec ℕ)) where
      abbrev pub routine : Scope
      routine = record s { locals = locals_of s name result sections }

      routine-fixed : routine_locals (record s { locals = locals_of s name result sections }) name result sections ≡ locals_of s name result sections
      routine-fixed = (local_laws.routine s name result sections).settled

      routine-types : ValuesHaveTypes (record s { locals = locals_of s name result sections })
      routine-types =
          values-have-types (record s { locals = locals_of s name result sections }) tells
          (subst (Every TellsKind) routine-fixed (routine-tells (record s { locals = locals_of s name result sections }) name result sections))

      behind-result : (o : Option (TypeSpec ℕ)) (vs : List DeclaredVariable) (x : List ℕ) → ((v : DeclaredVariable) → variable_named x vs ≡ Some v → HasValue v)
          → (v : DeclaredVariable) → variable_named x (result_declared (record s { locals = locals_of s name result sections }) name o ++ vs) ≡ Some v → HasValue v
      behind-result None vs x k v e = k v e
      behind-result (Some t) vs x k v e = by _ refl (same name x) e
        where
          by : (u : DeclaredVariable) → u.constant ≡ false → (b : Bool) → (if b then Some u else variable_named x vs) ≡ Some v → HasValue v
          by u f true q c = absurd (false≢true (sym f ∙ ap (λ (y : DeclaredVariable). y.constant) (some-same q) ∙ c))
          by u f false q c = k v q c

      module _ (rules : sections_faults (record s { locals = locals_of s name result sections }) h sections ≡ []) (result_rules : (line : ℕ) × (result_faults (record s { locals = locals_of s name result sections }) line result ≡ []))
          (well : Every (IsWellWritten (record s { locals = locals_of s name result sections })) (sections_written sections))
        where
          routine-meant : (x : List ℕ) → ((v : DeclaredVariable) → variable_named x (locals_declared (record s { locals = locals_of s name result sections }) result sections) ≡ Some v → HasValue v) → IsToldName (record s { locals = locals_of s name result sections }) x
          unfolding routine_locals
          routine-meant x k =
              name-means (record s { locals = locals_of s name result sections }) globals x
              (λ v e. behind-result result (locals_declared (record s { locals = locals_of s name result sections }) result sections) x k v (ap (variable_named x) routine-fixed ∙ e))
              (classes (locals_of s name result sections) x)

          routine-good : Every (IsGoodWritten (record s { locals = locals_of s name result sections })) (sections_written sections)
          routine-good = sections-good (record s { locals = locals_of s name result sections }) routine-types h sections rules

          routine-rows : AreRows (record s { locals = locals_of s name result sections }) (sections_written sections) (locals_declared (record s { locals = locals_of s name result sections }) result sections)
          routine-rows = locals-rows (record s { locals = locals_of s name result sections }) _ _ (sections_written sections)

          pub routine-told : AllTold (record s { locals = locals_of s name result sections })
          routine-told =
              all-told (record s { locals = locals_of s name result sections }) routine-types types
              (each-name (record s { locals = locals_of s name result sections }) (sections_written sections) (locals_declared (record s { locals = locals_of s name result sections }) result sections) routine-rows types routine-types routine-meant routine-good well free)

          routine-constants : Every (IsToldWritten (record s { locals = locals_of s name result sections })) (sections_written sections)
          routine-constants =
              constants-told (record s { locals = locals_of s name result sections }) (sections_written sections) (locals_declared (record s { locals = locals_of s name result sections }) result sections) routine-rows types routine-types routine-meant routine-good well free

          result-told : (o : Option (TypeSpec ℕ)) → IsFormedResult o → (line : ℕ) → result_faults (record s { locals = locals_of s name result sections }) line o ≡ [] → Every IsToldVariable (result_declared (record s { locals = locals_of s name result sections }) name o)
          result-told None x line f = tt
          result-told (Some t) x line f =
              let r = record s { locals = locals_of s name result sections } in
              ((routine-told.written t x (none_in (type_faults r t) (instance_out_of_place line false (type_written r t)) f).0, λ c. absurd (false≢true c)), tt)

          -- each local of a routine, its result among them
          pub locals-told : IsFormedResult result → Every IsToldVariable (locals_of s name result sections)
          unfolding routine_locals
          locals-told x =
              subst (Every IsToldVariable) routine-fixed
              (every_append IsToldVariable (result_declared (record s { locals = locals_of s name result sections }) name result) (locals_declared (record s { locals = locals_of s name result sections }) result sections)
              (result-told result x result_rules.0 result_rules.1)
              (rows-told (record s { locals = locals_of s name result sections }) (sections_written sections) (locals_declared (record s { locals = locals_of s name result sections }) result sections) routine-rows routine-told routine-good well routine-constants))

    -- ---- a program

    program-fixed : members_declared (record s { locals = program_locals s sections }) 0 0 sections ≡ program_locals s sections
    program-fixed = (local_laws.program s sections).settled

    program-types : ValuesHaveTypes (record s { locals = program_locals s sections })
    program-types =
        values-have-types (record s { locals = program_locals s sections }) tells
        (subst (Every TellsKind) program-fixed (members-tell (record s { locals = program_locals s sections }) 0 0 (sections_written sections)))

    module _ (rules : sections_faults (record s { locals = program_locals s sections }) h sections ≡ []) (well : Every (IsWellWritten (record s { locals = program_locals s sections })) (sections_written sections)) where
      program-meant : (x : List ℕ) → ((v : DeclaredVariable) → variable_named x (members_declared (record s { locals = program_locals s sections }) 0 0 sections) ≡ Some v → HasValue v) → IsToldName (record s { locals = program_locals s sections }) x
      program-meant x k = name-means (record s { locals = program_locals s sections }) globals x (λ v e. k v (ap (variable_named x) program-fixed ∙ e)) (classes (program_locals s sections) x)

      program-good : Every (IsGoodWritten (record s { locals = program_locals s sections })) (sections_written sections)
      program-good = sections-good (record s { locals = program_locals s sections }) program-types h sections rules

      program-rows : AreRows (record s { locals = program_locals s sections }) (sections_written sections) (members_declared (record s { locals = program_locals s sections }) 0 0 sections)
      program-rows = members-rows (record s { locals = program_locals s sections }) 0 0 (sections_written sections)

      pub program-told : AllTold (record s { locals = program_locals s sections })
      program-told =
          all-told (record s { locals = program_locals s sections }) program-types types
          (each-name (record s { locals = program_locals s sections }) (sections_written sections) (members_declared (record s { locals = program_locals s sections }) 0 0 sections) program-rows types program-types program-meant program-good well free)

      -- each variable of a program
      pub variables-told : Every IsToldVariable (program_locals s sections)
      variables-told =
          subst (Every IsToldVariable) program-fixed
          (rows-told (record s { locals = program_locals s sections }) (sections_written sections) (members_declared (record s { locals = program_locals s sections }) 0 0 sections) program-rows program-told program-good well
          (constants-told (record s { locals = program_locals s sections }) (sections_written sections) (members_declared (record s { locals = program_locals s sections }) 0 0 sections) program-rows types program-types program-meant program-good well free))
