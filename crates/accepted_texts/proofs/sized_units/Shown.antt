-- What a checked program shows of fields and variables is, one by one, what the unit declares of them.
use Rattle.std.proofs.Common.{◌≡◌, ◌≤◌, ℕ, true, List, [], ◌∷◌, ◌++◌, map, Option, Some, None, sym, ap, subst, arith}
use Rattle.std.specs.Prelude.{flat_map, filter}
use Rattle.std.specs.Option.{is_some}
use Rattle.std.proofs.lemmas.List.{map-append}
use Rattle.st_types.specs.declared.st_type.StType.{StType}
use Rattle.st_tree.specs.declared.declaration.FieldGroup.{FieldGroup}
use Rattle.st_tree.specs.declared.declaration.Section.{Section}
use Rattle.st_tree.specs.declared.name.Name.{Name}
use Rattle.st_tree.specs.declared.program.Note.{Note}
use Rattle.st_tree.specs.declared.type_spec.TypeSpec.{TypeSpec}
use Rattle.st_tree.specs.declared.unit.Decl.{Decl}
use Rattle.st_rules.specs.declared.names.DeclaredField.{DeclaredField}
use Rattle.st_rules.specs.Expressions.{told}
use Rattle.st_rules.specs.Scope.{Scope}
use Rattle.st_unit_rules.specs.declared_names.UnitNames.{unit_names, unit_scope, group_declared}
use Rattle.st_unit_rules.specs.declared_names.Variables.{Written, sections_written, is_kept_written}
use Rattle.st_unit_rules.specs.declared_names.WrittenTypes.{type_written}
use Rattle.st_unit_rules.specs.Checked.{Each, TypedSection, TypedSpec, TypedGroup}
use Rattle.st_unit_rules.specs.Limits.{sum_of, kinds_told}
use Rattle.st_values.specs.Program.{Variable, Program}
use Rattle.st_values.specs.View.{variables_in, is_kept, those, group_variables, groups_in}
use Rattle.resolution_order.specs.told_laws.ToldLaws.{Every}
use Rattle.accepted_texts.proofs.unfolding_laws.ListLaws.{every_passing}
use Rattle.accepted_texts.proofs.unfolding_laws.ViewLaws.{kind_shown}
use Rattle.accepted_texts.proofs.sized_units.Counted.{sums, Sums}
use Rattle.accepted_texts.proofs.sized_units.Sound.{Sound, ToldSound, TypesSound, written_sound}
use Rattle.accepted_texts.proofs.sized_units.Variables.{each_append, IsOf, kept_of}

module _ (decls : List (Decl ℕ)) where
  -- the variable has this type, which is told
  pub record Alike (v : Variable) (o : Option StType) : Type 0 where
    pub is : o ≡ Some v.kind
    pub sound : Sound decls v.kind

  alike : (s : Scope) → TypesSound decls s.names.types → (t : TypeSpec ℕ) (v : Variable) → v.kind ≡ told (type_written s t) → is_some (type_written s t) ≡ true → Alike v (type_written s t)
  unfolding told
  alike s u t v e h = by (type_written s t) (written_sound decls s t u) e h
    where
      by : (o : Option StType) → ToldSound decls o → v.kind ≡ told o → is_some o ≡ true → Alike v o
      by (Some k) n q i = record { is = ap Some (sym q); sound = subst (Sound decls) (sym q) n }
      by None n q i = cc

  -- ---- sums

  pub alike_sums : (s : Scope) (p : Program) (vs : List Variable) (os : List (Option StType)) → Each Alike vs os → Sums s p (Sound decls) vs (kinds_told s os)
  alike_sums s p vs os h = record { each = each_of vs os h; sum = λ f. sum_of_each f vs os h }
    where
      each_of : (vs : List Variable) (os : List (Option StType)) → Each Alike vs os → Every (λ (v : Variable). Sound decls v.kind) vs
      each_of [] [] h = tt
      each_of [] (o ∷ os) h = absurd h
      each_of (v ∷ vs) [] h = absurd h
      each_of (v ∷ vs) (o ∷ os) h = (h.0.sound, each_of vs os h.1)

      sum_of_each : (f : StType → ℕ) (vs : List Variable) (os : List (Option StType)) → Each Alike vs os → sums f vs ≤ sum_of s (map f (kinds_told s os))
      sum_of_each f [] [] h = omega arith
      sum_of_each f [] (o ∷ os) h = absurd h
      sum_of_each f (v ∷ vs) [] h = absurd h
      sum_of_each f (v ∷ vs) (o ∷ os) h =
          let k = sum_of_each f vs os h.1 in
          let i : sums f (v ∷ vs) ≤ sum_of s (map f (kinds_told s (Some v.kind ∷ os))) = omega (arith, k) in
          subst (λ q. sums f (v ∷ vs) ≤ sum_of s (map f (kinds_told s (q ∷ os)))) (sym h.0.is) i

  -- ---- fields

  module _ (s : Scope) (sound : TypesSound decls s.names.types) where
    abbrev IsTold : TypeSpec ℕ → Type 0
    IsTold t = is_some (type_written s t) ≡ true

    group_alike : (g : FieldGroup ℕ) (h : FieldGroup Note) → TypedSpec s g.kind h.kind → IsTold g.kind → (ns : List Name)
        → Each Alike (group_variables h ns) (map (λ (f : DeclaredField). f.kind) (map (λ n. record { name = n.text; kind = type_written s g.kind }) ns))
    group_alike g h w i [] = tt
    group_alike g h w i (n ∷ ns) = (alike s sound g.kind _ (kind_shown s g.kind h.kind w) i, group_alike g h w i ns)

    -- ---- variables of sections

    abbrev kind_of_written : Written → Option StType
    kind_of_written w = type_written s w.item.kind

    of_told : (vs : List Variable) (ws : List Written) → Each (IsOf s) vs ws → Every (λ (w : Written). IsTold w.item.kind) ws → Each Alike vs (map kind_of_written ws)
    of_told [] [] e h = tt
    of_told [] (w ∷ ws) e h = absurd e
    of_told (v ∷ vs) [] e h = absurd e
    of_told (v ∷ vs) (w ∷ ws) e h = (alike s sound w.item.kind v e.0.kind h.0, of_told vs ws e.1 h.1)

    -- what an instance keeps is, one by one, what the sections say is kept
    pub kept_alike : (xs : List (Section ℕ)) (ys : List (Section Note)) → Each (TypedSection s) xs ys → Every (λ (w : Written). is_kept_written w ≡ true → IsTold w.item.kind) (sections_written xs)
        → Each Alike (those is_kept (variables_in ys)) (map kind_of_written (filter is_kept_written (sections_written xs)))
    kept_alike xs ys w h = of_told (those is_kept (variables_in ys)) (filter is_kept_written (sections_written xs)) (kept_of s xs ys w) (every_passing (λ (u : Written). IsTold u.item.kind) is_kept_written (sections_written xs) h)

  pub groups_alike : TypesSound decls (unit_names decls).types → (gs : List (FieldGroup ℕ)) (hs : List (FieldGroup Note)) → Each (TypedGroup (unit_scope decls (unit_names decls))) gs hs
      → Every (λ (g : FieldGroup ℕ). is_some (type_written (unit_scope decls (unit_names decls)) g.kind) ≡ true) gs
      → Each Alike (groups_in hs) (map (λ (f : DeclaredField). f.kind) (flat_map (group_declared decls (unit_names decls)) gs))
  groups_alike u [] [] w h = tt
  groups_alike u [] (b ∷ hs) w h = absurd w
  groups_alike u (a ∷ gs) [] w h = absurd w
  groups_alike u (a ∷ gs) (b ∷ hs) w h =
      subst (λ os. Each Alike (group_variables b b.names ++ groups_in hs) os) (sym (map-append (λ (f : DeclaredField). f.kind) (group_declared decls (unit_names decls) a) (flat_map (group_declared decls (unit_names decls)) gs)))
      (each_append Alike (group_variables b b.names) (groups_in hs) _ _
      (subst (λ ns. Each Alike (group_variables b ns) (map (λ (f : DeclaredField). f.kind) (group_declared decls (unit_names decls) a))) (sym w.0.names) (group_alike (unit_scope decls (unit_names decls)) u a b w.0.kind h.0 a.names))
      (groups_alike u gs hs w.1 h.1))
