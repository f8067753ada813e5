-- What is found of one name of a group is so of all of them.
use Rattle.std.proofs.Common.{◌≡◌, ℕ, zero, suc, ℤ, false, List, [], ◌∷◌, Option, Some, None, map, refl, sym, ap, ◌∙◌, subst}
use Rattle.std.specs.Prelude.{slice_get}
use Rattle.std.specs.Option.{is_some}
use Rattle.st_types.specs.declared.st_type.StType.{StType}
use Rattle.st_types.specs.declared.st_type.StType.TheVariants as type
use Rattle.st_tree.specs.declared.declaration.Item.{Item}
use Rattle.st_tree.specs.declared.declaration.Section.{Section}
use Rattle.st_tree.specs.declared.declaration.TypeBody.{TypeBody}
use Rattle.st_tree.specs.declared.declaration.TypeBody.TheVariants as body
use Rattle.st_tree.specs.declared.declaration.TypeDecl.{TypeDecl}
use Rattle.st_tree.specs.declared.name.Name.{Name}
use Rattle.st_tree.specs.declared.unit.Decl.{Decl}
use Rattle.st_rules.specs.declared.names.DeclaredNames.{DeclaredNames}
use Rattle.st_rules.specs.Scope.{Scope}
use Rattle.st_unit_rules.specs.declared_names.Variables.{Written}
use Rattle.st_unit_rules.specs.declared_names.UnitNames.{entry_kind}
use Rattle.st_unit_rules.specs.declaration_list.Written.{written_in}
use Rattle.resolution_order.specs.told_places.PlaceLaws.{entry_can_be_told}
use Rattle.resolution_order.specs.telling_list.Jobs.{Job, of_entry, of_interface, of_class, of_global, of_member, can_be_told, Tells}
use Rattle.resolution_order.specs.telling_groups.Groups.{Group, one_entry, one_interface, one_class, globals_of, members_of, each_name, jobs_of_group}
use Rattle.type_resolution.specs.written_types.Types.{TellsConstant}
use Rattle.type_resolution.specs.told_names.Private.State.{scope_in, entry_in, FindsEntry, Untellable, Tellable, Finds}

pub some-same : {X : Type 0} {x y : X} → Some x ≡ Some y → x ≡ y
some-same h = cc

pub none-some : {X : Type 0} {x : X} → None ≡ Some x → ⊥
none-some h = cc

-- ---- each name of an item

every-name : (P : Job → Type 0) (job : ℕ → Written → Job) (s : Section ℕ) (item : Item ℕ) → ((n : ℕ) (x : Name) → P (job n (written_in s item x)))
    → (n : ℕ) (xs : List Name) (p : ℕ) (j : Job) → slice_get (each_name job n (map (written_in s item) xs)) p ≡ Some j → P j
every-name P job s item f n [] p j e = absurd (none-some e)
every-name P job s item f n (x ∷ xs) zero j e = subst P (some-same e) (f n x)
every-name P job s item f n (x ∷ xs) (suc p) j e = every-name P job s item f (suc n) xs p j e

every-one : (P : Job → Type 0) (i : Job) → P i → (p : ℕ) (j : Job) → slice_get (i ∷ []) p ≡ Some j → P j
every-one P i h zero j e = subst P (some-same e) h
every-one P i h (suc p) j e = absurd (none-some e)

module _ (decls : List (Decl ℕ)) (a : DeclaredNames) where
  untellable : (g : Group) → ((p : ℕ) (j : Job) → slice_get (jobs_of_group g) p ≡ Some j → can_be_told decls a j ≡ false) → Untellable decls a g
  untellable g f = record { each = λ j m. f m.place j m.at }

  tellable : (g : Group) (k : StType) (z : ℤ) → ((p : ℕ) (j : Job) → slice_get (jobs_of_group g) p ≡ Some j → Tells decls a j k z) → Tellable decls a g k z
  tellable g k z f = record { each = λ j m. f m.place j m.at }

  -- ---- constants

  pub finds-globals : (x : Option (StType × ℤ)) (n : ℕ) (s : Section ℕ) (item : Item ℕ) (name : Name) → TellsConstant x (scope_in decls a None) (written_in s item name) → Finds x decls a (globals_of n s item)
  finds-globals None n s item name h =
      untellable (globals_of n s item) (every-name (λ j. can_be_told decls a j ≡ false) of_global s item (λ m y. ap is_some h) n item.names)
  finds-globals (Some x) n s item name h =
      tellable (globals_of n s item) x.0 x.1 (every-name (λ j. Tells decls a j x.0 x.1) of_global s item (λ m y. h) n item.names)

  pub finds-members : (x : Option (StType × ℤ)) (c i : ℕ) (s : Section ℕ) (item : Item ℕ) (name : Name) → TellsConstant x (scope_in decls a (Some c)) (written_in s item name) → Finds x decls a (members_of c i s item)
  finds-members None c i s item name h =
      untellable (members_of c i s item) (every-name (λ j. can_be_told decls a j ≡ false) (of_member c) s item (λ m y. ap is_some h) i item.names)
  finds-members (Some x) c i s item name h =
      tellable (members_of c i s item) x.0 x.1 (every-name (λ j. Tells decls a j x.0 x.1) (of_member c) s item (λ m y. h) i item.names)

  -- ---- types

  pub entry-is : (n : ℕ) (b : TypeBody ℕ) → entry_in (scope_in decls a None) n b ≡ entry_kind decls a n b
  entry-is n (body.Alias t) = refl
  entry-is n (body.Enumeration ns) = refl
  entry-is n (body.Structure gs) = refl

  entry-none : (n : ℕ) (b : TypeBody ℕ) → entry_kind decls a n b ≡ None → entry_can_be_told decls a b ≡ false
  entry-none n (body.Alias t) h = ap is_some h
  entry-none n (body.Enumeration ns) h = absurd (none-some (sym h))
  entry-none n (body.Structure gs) h = absurd (none-some (sym h))

  pub finds-entry : (x : Option (StType × ℤ)) (n e : ℕ) (t : TypeDecl ℕ) → FindsEntry x decls a e t.body → Finds x decls a (one_entry n e t)
  finds-entry None n e t h = untellable (one_entry n e t) (every-one (λ j. can_be_told decls a j ≡ false) (of_entry n e t) (entry-none e t.body h))
  finds-entry (Some x) n e t h = tellable (one_entry n e t) x.0 x.1 (every-one (λ j. Tells decls a j x.0 x.1) (of_entry n e t) h)

  pub finds-interface : (n i : ℕ) (z : ℤ) → Finds (Some (type.Interface i, z)) decls a (one_interface n i)
  finds-interface n i z = tellable (one_interface n i) (type.Interface i) z (every-one (λ j. Tells decls a j (type.Interface i) z) (of_interface n i) tt)

  pub finds-class : (n c : ℕ) (z : ℤ) → Finds (Some (type.Instance c, z)) decls a (one_class n c)
  finds-class n c z = tellable (one_class n c) (type.Instance c) z (every-one (λ j. Tells decls a j (type.Instance c) z) (of_class n c) tt)

-- ---- as the code finds it

pub constant-found : (decls : List (Decl ℕ)) (a : DeclaredNames) (c : Option ℕ) (x : Option (StType × ℤ)) (s : Scope) (w : Written) → s ≡ scope_in decls a c → TellsConstant x s w → TellsConstant x (scope_in decls a c) w
constant-found decls a c x s w e f = subst (λ t. TellsConstant x t w) e f

pub entry-found : (decls : List (Decl ℕ)) (a : DeclaredNames) (k : Option StType) (s : Scope) (n : ℕ) (b : TypeBody ℕ) → s ≡ scope_in decls a None → k ≡ entry_in s n b → entry_kind decls a n b ≡ k
entry-found decls a k s n b e f = sym (f ∙ ap (λ t. entry_in t n b) e ∙ entry-is decls a n b)
