-- Structures as a unit declares them, one after the other.
use Rattle.std.proofs.Common.{◌≡◌, ℕ, zero, suc, ◌+◌, ◌<◌, ◌≤◌, List, [], ◌∷◌, ◌++◌, Option, Some, None, map, take, length, get_or, refl, sym, ap, ◌∙◌, subst, append-nil, append_assoc}
use Rattle.std.specs.Prelude.{slice_get}
use Rattle.st_rules.proofs.ListLaws.{take-at, take-end}
use Rattle.st_tree.specs.declared.configuration.Configuration.{Configuration}
use Rattle.st_tree.specs.declared.declaration.ClassDecl.{ClassDecl}
use Rattle.st_tree.specs.declared.declaration.FieldGroup.{FieldGroup}
use Rattle.st_tree.specs.declared.declaration.FunctionDecl.{FunctionDecl}
use Rattle.st_tree.specs.declared.declaration.InterfaceDecl.{InterfaceDecl}
use Rattle.st_tree.specs.declared.declaration.ProgramDecl.{ProgramDecl}
use Rattle.st_tree.specs.declared.declaration.Section.{Section}
use Rattle.st_tree.specs.declared.declaration.TypeBody.{TypeBody}
use Rattle.st_tree.specs.declared.declaration.TypeBody.TheVariants as body
use Rattle.st_tree.specs.declared.declaration.TypeDecl.{TypeDecl}
use Rattle.st_tree.specs.declared.name.Name.{Name}
use Rattle.st_tree.specs.declared.unit.Decl.{Decl}
use Rattle.st_tree.specs.declared.unit.Decl.TheVariants as declaration
use Rattle.st_rules.specs.Scope.{Scope}
use Rattle.st_unit_rules.specs.declared_names.Declarations.{entries_in}
use Rattle.st_unit_rules.specs.declared_names.WrittenTypes.{type_written}
use Rattle.st_unit_rules.specs.Worth.{groups_of}
use Rattle.default_values.specs.declared.initial_worths.structures.Group.{Group}
use Rattle.default_values.specs.declared.structure_worths.unweighed.DeclaredStructure.{DeclaredStructure}
use Rattle.default_values.specs.structure_worths.Unweighed.{AreKinds, IsDeclared, AreDeclared}
use Rattle.default_values.specs.numbered_signatures.Alike.{AreAlike}
use Rattle.check_signatures.specs.unit_signatures.Private.Structures.{groups_in, DeclaresGroup, DeclaresGroups, DeclaresEntry, AddsEntries}
use Rattle.check_signatures.proofs.unit_signatures.AddLaws.{alike_both}

module _ (s : Scope) where
  -- ---- groups

  pub no_groups : (gs : List (FieldGroup ℕ)) (xs : List Group) → gs ≡ [] → xs ≡ [] → DeclaresGroups s gs xs
  no_groups gs xs e q = record { groups = ap (map (λ (g : Group). g.declared.now)) q ∙ sym e; kinds = subst (AreKinds s) (sym q) tt }

  kinds_more : (xs : List Group) (x : Group) → AreKinds s xs → x.kind ≡ type_written s x.declared.now.kind → AreKinds s (xs ++ x ∷ [])
  kinds_more [] x h k = (k, tt)
  kinds_more (y ∷ xs) x h k = (h.0, kinds_more xs x h.1 k)

  groups_more : (xs : List Group) (x : Group) → map (λ (g : Group). g.declared.now) (xs ++ x ∷ []) ≡ map (λ (g : Group). g.declared.now) xs ++ x.declared.now ∷ []
  groups_more [] x = refl
  groups_more (y ∷ xs) x = ap (λ gs. y.declared.now ∷ gs) (groups_more xs x)

  pub groups_next : (gs : List (FieldGroup ℕ)) (i : ℕ) (g : FieldGroup ℕ) (xs ys : List Group) (x : Group) → i < length gs → g ≡ get_or gs i g → DeclaresGroups s (take i gs) xs → DeclaresGroup s g x → ys ≡ xs ++ x ∷ [] → DeclaresGroups s (take (i + 1) gs) ys
  groups_next gs i g xs ys x l e h k p =
      subst (DeclaresGroups s (take (i + 1) gs)) (sym p) (record {
        groups = groups_more xs x ∙ (λ j. h.groups j ++ k.group j ∷ []) ∙ sym (take-at gs i g l e);
        kinds = kinds_more xs x h.kinds (k.kind ∙ ap (λ (y : FieldGroup ℕ). type_written s y.kind) (sym k.group));
      })

  pub groups_ended : (gs : List (FieldGroup ℕ)) (i : ℕ) (xs : List Group) → length gs ≤ i → DeclaresGroups s (take i gs) xs → DeclaresGroups s gs xs
  groups_ended gs i xs l h = subst (λ (ys : List (FieldGroup ℕ)). DeclaresGroups s ys xs) (take-end gs i l) h

  pub groups_as : (gs hs : List (FieldGroup ℕ)) (xs : List Group) → gs ≡ hs → DeclaresGroups s gs xs → DeclaresGroups s hs xs
  groups_as gs hs xs e h = subst (λ (ys : List (FieldGroup ℕ)). DeclaresGroups s ys xs) e h

  -- ---- entries

  pub adds_no_entry : (xs : List DeclaredStructure) (more : List (TypeDecl ℕ)) → more ≡ [] → AddsEntries s xs xs more
  adds_no_entry xs more e = record { told = λ ts h. subst (λ (vs : List (TypeDecl ℕ)). AreAlike (DeclaresEntry s) xs vs) (sym (append-nil ts) ∙ ap (λ vs. ts ++ vs) (sym e)) h }

  pub adds_through : (xs ys zs : List DeclaredStructure) (m n : List (TypeDecl ℕ)) → AddsEntries s xs ys m → AddsEntries s ys zs n → AddsEntries s xs zs (m ++ n)
  adds_through xs ys zs m n p q = record { told = λ ts h. subst (λ (vs : List (TypeDecl ℕ)). AreAlike (DeclaresEntry s) zs vs) (append_assoc ts m n) (q.told (ts ++ m) (p.told ts h)) }

  pub adds_as : (xs ys : List DeclaredStructure) (m n : List (TypeDecl ℕ)) → m ≡ n → AddsEntries s xs ys m → AddsEntries s xs ys n
  adds_as xs ys m n e h = subst (AddsEntries s xs ys) e h

  pub adds_entry : (xs ys : List DeclaredStructure) (x : DeclaredStructure) (t : TypeDecl ℕ) → DeclaresEntry s x t → ys ≡ xs ++ x ∷ [] → AddsEntries s xs ys (t ∷ [])
  adds_entry xs ys x t h e = subst (λ (zs : List DeclaredStructure). AddsEntries s xs zs (t ∷ [])) (sym e) (record { told = λ ts k. alike_both (DeclaresEntry s) xs (x ∷ []) ts (t ∷ []) k (h, tt) })

  pub entries_next : (ts : List (TypeDecl ℕ)) (i : ℕ) (t : TypeDecl ℕ) (xs ys zs : List DeclaredStructure) (x : DeclaredStructure) → i < length ts → t ≡ get_or ts i t → AddsEntries s xs ys (take i ts) → DeclaresEntry s x t → zs ≡ ys ++ x ∷ []
      → AddsEntries s xs zs (take (i + 1) ts)
  entries_next ts i t xs ys zs x l e h k p = adds_as xs zs (take i ts ++ t ∷ []) (take (i + 1) ts) (sym (take-at ts i t l e)) (adds_through xs ys zs (take i ts) (t ∷ []) h (adds_entry ys zs x t k p))

  pub entries_ended : (ts : List (TypeDecl ℕ)) (i : ℕ) (xs ys : List DeclaredStructure) → length ts ≤ i → AddsEntries s xs ys (take i ts) → AddsEntries s xs ys ts
  entries_ended ts i xs ys l h = adds_as xs ys (take i ts) ts (take-end ts i l) h

  -- ---- declarations

  entries_append : (ds es : List (Decl ℕ)) → entries_in (ds ++ es) ≡ entries_in ds ++ entries_in es
  entries_append [] es = refl
  entries_append (declaration.Types l ts ∷ ds) es = ap (λ us. ts ++ us) (entries_append ds es) ∙ sym (append_assoc ts (entries_in ds) (entries_in es))
  entries_append (declaration.Class c ∷ ds) es = entries_append ds es
  entries_append (declaration.Globals x ∷ ds) es = entries_append ds es
  entries_append (declaration.Interface i ∷ ds) es = entries_append ds es
  entries_append (declaration.Function f ∷ ds) es = entries_append ds es
  entries_append (declaration.Program p ∷ ds) es = entries_append ds es
  entries_append (declaration.Configuration c ∷ ds) es = entries_append ds es

  pub declarations_next : (ds : List (Decl ℕ)) (i : ℕ) (d : Decl ℕ) (xs ys zs : List DeclaredStructure) → i < length ds → d ≡ get_or ds i d → AddsEntries s xs ys (entries_in (take i ds)) → AddsEntries s ys zs (entries_in (d ∷ []))
      → AddsEntries s xs zs (entries_in (take (i + 1) ds))
  declarations_next ds i d xs ys zs l e h k =
      adds_as xs zs (entries_in (take i ds) ++ entries_in (d ∷ [])) (entries_in (take (i + 1) ds)) (sym (entries_append (take i ds) (d ∷ [])) ∙ ap entries_in (sym (take-at ds i d l e)))
      (adds_through xs ys zs (entries_in (take i ds)) (entries_in (d ∷ [])) h k)

  pub types_added : (d : Decl ℕ) (l : ℕ) (ts us : List (TypeDecl ℕ)) (xs ys : List DeclaredStructure) → d ≡ declaration.Types l ts → us ≡ ts → AddsEntries s xs ys us → AddsEntries s xs ys (entries_in (d ∷ []))
  types_added d l ts us xs ys q e h = adds_as xs ys us (entries_in (d ∷ [])) (e ∙ sym (append-nil ts) ∙ ap (λ (x : Decl ℕ). entries_in (x ∷ [])) (sym q)) h

  pub globals_add_none : (d : Decl ℕ) (xs : List DeclaredStructure) (x : Section ℕ) → d ≡ declaration.Globals x → AddsEntries s xs xs (entries_in (d ∷ []))
  globals_add_none d xs x q = adds_no_entry xs (entries_in (d ∷ [])) (ap (λ (y : Decl ℕ). entries_in (y ∷ [])) q)

  pub interface_adds_none : (d : Decl ℕ) (xs : List DeclaredStructure) (i : InterfaceDecl ℕ) → d ≡ declaration.Interface i → AddsEntries s xs xs (entries_in (d ∷ []))
  interface_adds_none d xs i q = adds_no_entry xs (entries_in (d ∷ [])) (ap (λ (y : Decl ℕ). entries_in (y ∷ [])) q)

  pub class_adds_none : (d : Decl ℕ) (xs : List DeclaredStructure) (c : ClassDecl ℕ) → d ≡ declaration.Class c → AddsEntries s xs xs (entries_in (d ∷ []))
  class_adds_none d xs c q = adds_no_entry xs (entries_in (d ∷ [])) (ap (λ (y : Decl ℕ). entries_in (y ∷ [])) q)

  pub function_adds_none : (d : Decl ℕ) (xs : List DeclaredStructure) (f : FunctionDecl ℕ) → d ≡ declaration.Function f → AddsEntries s xs xs (entries_in (d ∷ []))
  function_adds_none d xs f q = adds_no_entry xs (entries_in (d ∷ [])) (ap (λ (y : Decl ℕ). entries_in (y ∷ [])) q)

  pub program_adds_none : (d : Decl ℕ) (xs : List DeclaredStructure) (p : ProgramDecl ℕ) → d ≡ declaration.Program p → AddsEntries s xs xs (entries_in (d ∷ []))
  program_adds_none d xs p q = adds_no_entry xs (entries_in (d ∷ [])) (ap (λ (y : Decl ℕ). entries_in (y ∷ [])) q)

  pub configuration_adds_none : (d : Decl ℕ) (xs : List DeclaredStructure) (c : Configuration ℕ) → d ≡ declaration.Configuration c → AddsEntries s xs xs (entries_in (d ∷ []))
  configuration_adds_none d xs c q = adds_no_entry xs (entries_in (d ∷ [])) (ap (λ (y : Decl ℕ). entries_in (y ∷ [])) q)

  groups_same : (n : Name) (b : TypeBody ℕ) → groups_in b ≡ groups_of (Some (record { name = n; body = b }))
  groups_same n (body.Alias x) = refl
  groups_same n (body.Enumeration ns) = refl
  groups_same n (body.Structure gs) = refl

  entry_there : (xs : List DeclaredStructure) (ts : List (TypeDecl ℕ)) (n : ℕ) (x : DeclaredStructure) → AreAlike (DeclaresEntry s) xs ts → slice_get xs n ≡ Some x → DeclaresGroups s (groups_of (slice_get ts n)) x.groups.items
  entry_there [] ts n x h q = absurd (cc)
  entry_there (y ∷ ys) [] n x h q = absurd h
  entry_there (y ∷ ys) (t ∷ ts) zero x h q =
      let e : y ≡ x = cc in
      subst (λ (z : DeclaredStructure). DeclaresGroups s (groups_of (Some t)) z.groups.items) e (groups_as (groups_in t.body) (groups_of (Some t)) y.groups.items (groups_same t.name t.body) h.0)
  entry_there (y ∷ ys) (t ∷ ts) (suc n) x h q = entry_there ys ts n x h.1 q

  as_long : (xs : List DeclaredStructure) (ts : List (TypeDecl ℕ)) → AreAlike (DeclaresEntry s) xs ts → length xs ≡ length ts
  as_long [] [] h = refl
  as_long [] (t ∷ ts) h = absurd h
  as_long (x ∷ xs) [] h = absurd h
  as_long (x ∷ xs) (t ∷ ts) h = ap suc (as_long xs ts h.1)

  are_declared : (ts : List (TypeDecl ℕ)) (xs : List DeclaredStructure) → AreAlike (DeclaresEntry s) xs ts → AreDeclared s ts xs
  are_declared ts xs h = record {
    long = as_long xs ts h;
    each = λ n x q. let d = entry_there xs ts n x h q in record { groups = d.groups; kinds = d.kinds };
  }

  pub declarations_begun : (xs : List DeclaredStructure) → xs ≡ [] → AddsEntries s [] xs []
  declarations_begun xs e = subst (λ (ys : List DeclaredStructure). AddsEntries s [] ys []) (sym e) (adds_no_entry [] [] refl)

  pub declarations_ended : (ds : List (Decl ℕ)) (i : ℕ) (xs : List DeclaredStructure) → length ds ≤ i → AddsEntries s [] xs (entries_in (take i ds)) → AreDeclared s (entries_in ds) xs
  declarations_ended ds i xs l h = subst (λ (es : List (Decl ℕ)). AreDeclared s (entries_in es) xs) (take-end ds i l) (are_declared (entries_in (take i ds)) xs (h.told [] tt))
