-- Types and constants told one by one, by the places at which they are declared.
use Rattle.std.proofs.Common.{◌≡◌, ℕ, zero, suc, ◌+◌, ℤ, true, List, [], ◌∷◌, Option, Some, refl, sym, ap, subst, ◌∙◌, arith}
use Rattle.std.specs.Prelude.{filter, slice_get, option_and_then}
use Rattle.std.specs.Option.{is_some}
use Rattle.st_types.specs.declared.st_type.StType.{StType}
use Rattle.st_types.specs.declared.st_type.StType.TheVariants as type
use Rattle.st_tree.specs.declared.declaration.ClassDecl.{ClassDecl}
use Rattle.st_tree.specs.declared.declaration.InterfaceDecl.{InterfaceDecl}
use Rattle.st_tree.specs.declared.declaration.Section.{Section}
use Rattle.st_tree.specs.declared.declaration.TypeDecl.{TypeDecl}
use Rattle.st_tree.specs.declared.program.Target.TheVariants as target
use Rattle.st_tree.specs.declared.type_spec.TypeSpec.{TypeSpec}
use Rattle.st_tree.specs.declared.unit.Decl.{Decl}
use Rattle.st_rules.specs.declared.names.DeclaredVariable.{DeclaredVariable}
use Rattle.st_rules.specs.declared.names.DeclaredClass.{DeclaredClass}
use Rattle.st_rules.specs.declared.names.DeclaredType.{DeclaredType}
use Rattle.st_rules.specs.declared.names.DeclaredGlobal.{DeclaredGlobal}
use Rattle.st_rules.specs.declared.names.DeclaredGlobal.TheVariants as global
use Rattle.st_rules.specs.declared.names.DeclaredNames.{DeclaredNames}
use Rattle.st_rules.specs.Classes.{classes_in}
use Rattle.st_rules.specs.Numbered.{each_numbered}
use Rattle.st_rules.specs.Scope.{Scope}
use Rattle.st_unit_rules.specs.declared_names.Constants.{is_told}
use Rattle.st_unit_rules.specs.declared_names.WrittenTypes.{type_written}
use Rattle.st_unit_rules.specs.declared_names.Variables.{Written, sections_written, sections_in, constant_target, constant_of, declared_with, members_declared, result_count, routine_locals}
use Rattle.st_unit_rules.specs.declared_names.Declarations.{Global, Declaration, an_entry, a_global, an_interface, a_class, a_function, a_program, a_configuration, declarations, is_entry, is_class, is_interface}
use Rattle.st_unit_rules.specs.declared_names.UnitNames.{unit_scope, class_scope, entry_kind, class_declared, locals_of, program_locals, names_from, unit_names}
use Rattle.resolution_order.specs.told_laws.ToldLaws.{Each, AlikeVariable, AlikeClass, AlikeType, AlikeGlobal, NoLess, MeansNoLess}
use Rattle.st_rules.specs.Telling.{with_type, with_global, with_member}
use Rattle.resolution_order.specs.told_laws.TellingLaws.{Sound, NoTypeLeft, NoValueLeft, NoGlobalLeft}
use Rattle.resolution_order.specs.told_laws.LocalLaws.{with_local, SoundLocals}
use Rattle.resolution_order.proofs.told_laws.Telling.{from-below, telling_laws}
use Rattle.resolution_order.proofs.told_laws.LocalTelling.{local_laws}
use Rattle.resolution_order.proofs.told_laws.Next.{AnyKind, AnyTarget, routine-names, member-names}
use Rattle.resolution_order.specs.told_places.PlaceLaws.{is_type, is_global_or_function, number_before, has_type, is_value, is_global_value, member_in, AllValues, Done, PlaceLaws, LocalPlaceLaws}
use Rattle.resolution_order.proofs.told_places.Places.{among, by-number, paired-at, third}
use Rattle.resolution_order.proofs.told_places.Flat.{kind-of-entry, kind-of-class, kind-of-interface, type-at, can_be_told, TypeLike, types-like, GlobalLike, globals-like, class-number, class-at}
use Rattle.resolution_order.proofs.told_places.Variables.{told-value, members-like, constant-at, none-left, routine-constant-at, routine-none-left}

-- ---- one more is told

entry : (decls : List (Decl ℕ)) (a : DeclaredNames) (place : ℕ) (t : TypeDecl ℕ) (k : StType) → Sound decls a
    → slice_get (declarations decls) place ≡ Some (an_entry t) → entry_kind decls a (number_before is_entry (declarations decls) place) t.body ≡ Some k
    → Sound decls (with_type a (number_before is_type (declarations decls) place) k)
entry decls a place t k s h e = telling_laws.type_next decls a _ _ k s (type-at decls a place (an_entry t) h refl) (kind-of-entry decls a _ _ _ t ∙ e)

class : (decls : List (Decl ℕ)) (a : DeclaredNames) (place : ℕ) (d : ClassDecl ℕ) → Sound decls a → slice_get (declarations decls) place ≡ Some (a_class d)
    → Sound decls (with_type a (number_before is_type (declarations decls) place) (type.Instance (number_before is_class (declarations decls) place)))
class decls a place d s h = telling_laws.type_next decls a _ _ _ s (type-at decls a place (a_class d) h refl) (kind-of-class decls a _ _ _ d)

interface : (decls : List (Decl ℕ)) (a : DeclaredNames) (place : ℕ) (d : InterfaceDecl ℕ) → Sound decls a → slice_get (declarations decls) place ≡ Some (an_interface d)
    → Sound decls (with_type a (number_before is_type (declarations decls) place) (type.Interface (number_before is_interface (declarations decls) place)))
interface decls a place d s h = telling_laws.type_next decls a _ _ _ s (type-at decls a place (an_interface d) h refl) (kind-of-interface decls a _ _ _ d)

like-global : (decls : List (Decl ℕ)) (a : DeclaredNames) (g : Global) (x : DeclaredGlobal) → GlobalLike decls a (a_global g) x → (g.written).constant ≡ true
    → x ≡ global.Variable (declared_with (unit_scope decls a) (constant_target (constant_of (unit_scope decls a) g.written)) g.written)
like-global decls a g (global.Variable v) h c = ap global.Variable (h.1 c)
like-global decls a g (global.Function k r) h c = absurd h

global-at : (decls : List (Decl ℕ)) (a : DeclaredNames) (place : ℕ) (g : Global) → slice_get (declarations decls) place ≡ Some (a_global g) → (g.written).constant ≡ true
    → slice_get (names_from decls a).globals (number_before is_global_or_function (declarations decls) place)
    ≡ Some (global.Variable (declared_with (unit_scope decls a) (constant_target (constant_of (unit_scope decls a) g.written)) g.written))
global-at decls a place g h c =
    let p = paired-at (GlobalLike decls a) (filter is_global_or_function (declarations decls)) (names_from decls a).globals (number_before is_global_or_function (declarations decls) place) (a_global g)
    (globals-like decls a) (among is_global_or_function (declarations decls) place (a_global g) h refl) in
    p.1 ∙ ap Some (like-global decls a g p.0 p.2 c)

value : (decls : List (Decl ℕ)) (a : DeclaredNames) (place : ℕ) (g : Global) (k : StType) (z : ℤ) → Sound decls a
    → slice_get (declarations decls) place ≡ Some (a_global g) → (g.written).constant ≡ true
    → type_written (unit_scope decls a) (g.written).item.kind ≡ Some k → constant_of (unit_scope decls a) g.written ≡ Some z
    → Sound decls (with_global a (number_before is_global_or_function (declarations decls) place) k (target.Constant z))
value decls a place g k z s h c t v =
    subst (λ x. Sound decls (with_global a (number_before is_global_or_function (declarations decls) place) k (constant_target x))) v
    (telling_laws.global_next decls a (number_before is_global_or_function (declarations decls) place) (declared_with (unit_scope decls a) (constant_target (constant_of (unit_scope decls a) g.written)) g.written) k s
    (global-at decls a place g h c) t)

member : (decls : List (Decl ℕ)) (a : DeclaredNames) (place i : ℕ) (d : ClassDecl ℕ) (w : Written) (k : StType) (z : ℤ) → Sound decls a
    → slice_get (declarations decls) place ≡ Some (a_class d) → slice_get (sections_written (sections_in d.members)) i ≡ Some w → w.constant ≡ true
    → type_written (class_scope decls a (number_before is_class (declarations decls) place)) w.item.kind ≡ Some k
    → constant_of (class_scope decls a (number_before is_class (declarations decls) place)) w ≡ Some z
    → Sound decls (with_member a (number_before is_class (declarations decls) place) i k (target.Constant z))
member decls a place i d w k z s h e c t v =
    let n = number_before is_class (declarations decls) place in
    let u = class_scope decls a n in
    subst (λ x. Sound decls (with_member a n i k (constant_target x))) v
    (telling_laws.member_next decls a n i (class_declared decls a n d) (declared_with u (constant_target (constant_of u w)) w) k s (class-at decls a place d h)
    (constant-at u (sections_written (sections_in d.members)) (class_declared decls a n d).variables i w (members-like u _ _ (sections_written (sections_in d.members))) e c) t)

-- ---- none is left

same-length : {X : Type 0} (R S : X → X → Type 0) (xs ys us : List X) → Each R xs us → Each S ys us → Each (λ x y. Unit {0}) xs ys
same-length R S [] [] us h k = tt
same-length R S (x ∷ xs) (y ∷ ys) (u ∷ us) h k = (tt, same-length R S xs ys us h.1 k.1)
same-length R S [] (y ∷ ys) [] h k = absurd k
same-length R S [] (y ∷ ys) (u ∷ us) h k = absurd h
same-length R S (x ∷ xs) ys [] h k = absurd h
same-length R S (x ∷ xs) [] (u ∷ us) h k = absurd k

module _ (decls : List (Decl ℕ)) (a : DeclaredNames) (s : Sound decls a) (f : (place : ℕ) (d : Declaration) → slice_get (declarations decls) place ≡ Some d → Done decls a place d) where
  HasType : ℕ → Declaration → Type 0
  HasType p d = can_be_told decls a d ≡ true → has_type a.types p ≡ true

  done-type : (place : ℕ) (d : Declaration) → Done decls a place d → can_be_told decls a d ≡ true → has_type a.types (number_before is_type (declarations decls) place) ≡ true
  done-type place (an_entry t) h c = h c
  done-type place (an_interface i) h c = h
  done-type place (a_class x) h c = h.0
  done-type place (a_global g) h c = absurd (cc)
  done-type place (a_function x) h c = absurd (cc)
  done-type place (a_program p) h c = absurd (cc)
  done-type place (a_configuration x) h c = absurd (cc)

  type-done : (p : ℕ) (d : Declaration) → slice_get (filter is_type (declarations decls)) p ≡ Some d → HasType p d
  unfolding HasType
  type-done = by-number is_type HasType (declarations decls) λ place d h t c. done-type place d (f place d h) c

  ReadyType : ℕ → Declaration → DeclaredType → Type 0
  ReadyType p d z = can_be_told decls a d ≡ true → is_some z.kind ≡ true

  ready-type : (p : ℕ) (d : Declaration) (y z : DeclaredType) → TypeLike decls a d y → ReadyType p d z → NoTypeLeft z y
  unfolding ReadyType
  ready-type p d y z h q e = q (h e)

  types-left : Each NoTypeLeft a.types (names_from decls a).types
  unfolding ReadyType HasType
  types-left =
      third (TypeLike decls a) (λ x y. Unit {0}) NoTypeLeft ReadyType ready-type (filter is_type (declarations decls)) (names_from decls a).types a.types (types-like decls a)
      (same-length (AlikeType NoLess MeansNoLess) (AlikeType NoLess MeansNoLess) a.types (names_from decls a).types (unit_names decls).types (s.below).types (from-below decls a s).types)
      λ p d z e g c. sym (ap (λ o. is_some (option_and_then (λ t. t.kind) o)) g) ∙ type-done p d e c

  -- ---- globals

  abbrev HasValue : Declaration → Option DeclaredGlobal → Type 0
  HasValue (a_global g) o = (g.written).constant ≡ true → is_some (constant_of (unit_scope decls a) g.written) ≡ true → is_global_value o ≡ true
  HasValue d o = Unit {0}

  done-global : (place : ℕ) (d : Declaration) → Done decls a place d → HasValue d (slice_get a.globals (number_before is_global_or_function (declarations decls) place))
  done-global place (a_global g) h = h
  done-global place (an_entry t) h = tt
  done-global place (an_interface i) h = tt
  done-global place (a_class x) h = tt
  done-global place (a_function x) h = tt
  done-global place (a_program p) h = tt
  done-global place (a_configuration x) h = tt

  global-done : (p : ℕ) (d : Declaration) → slice_get (filter is_global_or_function (declarations decls)) p ≡ Some d → HasValue d (slice_get a.globals p)
  global-done = by-number is_global_or_function (λ p d. HasValue d (slice_get a.globals p)) (declarations decls) λ place d h t. done-global place d (f place d h)

  ready-global : (p : ℕ) (d : Declaration) (y z : DeclaredGlobal) → GlobalLike decls a d y → HasValue d (Some z) → NoGlobalLeft z y
  ready-global p (a_global g) (global.Variable w) (global.Variable v) h q =
      λ c t.
      let k : (g.written).constant ≡ true = sym h.0 ∙ c in
      q k (told-value (unit_scope decls a) (constant_of (unit_scope decls a) g.written) (sym (ap (λ x. is_told x.target) (h.1 k)) ∙ t))
  ready-global p (a_global g) (global.Variable w) (global.Function k r) h q = tt
  ready-global p (a_function x) (global.Function k r) (global.Variable v) h q = tt
  ready-global p (a_function x) (global.Function k r) (global.Function j e) h q = tt
  ready-global p (a_global g) (global.Function k r) z h q = absurd h
  ready-global p (a_function x) (global.Variable w) z h q = absurd h
  ready-global p (an_entry t) y z h q = absurd h
  ready-global p (an_interface i) y z h q = absurd h
  ready-global p (a_class x) y z h q = absurd h
  ready-global p (a_program x) y z h q = absurd h
  ready-global p (a_configuration x) y z h q = absurd h

  globals-left : Each NoGlobalLeft a.globals (names_from decls a).globals
  globals-left =
      third (GlobalLike decls a) (λ x y. Unit {0}) NoGlobalLeft (λ p d z. HasValue d (Some z)) ready-global (filter is_global_or_function (declarations decls)) (names_from decls a).globals a.globals (globals-like decls a)
      (same-length (AlikeGlobal NoLess MeansNoLess) (AlikeGlobal NoLess MeansNoLess) a.globals (names_from decls a).globals (unit_names decls).globals (s.below).globals (from-below decls a s).globals)
      λ p d z e g. subst (λ o. HasValue d o) g (global-done p d e)

  -- ---- classes

  abbrev AsMany : DeclaredClass → DeclaredClass → Type 0
  AsMany c d = Each (λ v w. Unit {0}) c.variables d.variables

  abbrev ClassDone : ℕ → ClassDecl ℕ → Option DeclaredClass → Type 0
  ClassDone c d o = AllValues (class_scope decls a c) (sections_written (sections_in d.members)) (λ i. is_value (member_in o i))

  done-class : (place : ℕ) (x : Declaration) → Done decls a place x → (d : ClassDecl ℕ) → x ≡ a_class d → ClassDone (number_before is_class (declarations decls) place) d (slice_get a.classes (number_before is_class (declarations decls) place))
  done-class place x h d e = (subst (λ y. Done decls a place y) e h).1

  class-done : (c : ℕ) (d : ClassDecl ℕ) → slice_get (classes_in decls) c ≡ Some d → ClassDone c d (slice_get a.classes c)
  class-done c d h =
      by-number is_class (λ c x. (d : ClassDecl ℕ) → x ≡ a_class d → ClassDone c d (slice_get a.classes c)) (declarations decls) (λ place x g t. done-class place x (f place x g)) c (a_class d) (class-number decls c d h) d refl

  classes-left-from : (n : ℕ) (ds : List (ClassDecl ℕ)) (cs : List DeclaredClass) → Each AsMany cs (each_numbered (λ c d. class_declared decls a c d ∷ []) n ds)
      → ((c : ℕ) (d : ClassDecl ℕ) (m : ℕ) → m ≡ n + c → slice_get ds c ≡ Some d → ClassDone m d (slice_get cs c))
      → Each (λ c d. Each NoValueLeft c.variables d.variables) cs (each_numbered (λ c d. class_declared decls a c d ∷ []) n ds)
  classes-left-from n [] [] h g = tt
  classes-left-from n (d ∷ ds) (c ∷ cs) h g = (
    none-left (class_scope decls a n) (λ v w. Unit {0}) (sections_written (sections_in d.members)) (class_declared decls a n d).variables c.variables
        (members-like (class_scope decls a n) _ _ (sections_written (sections_in d.members))) h.0 (g zero d n (omega arith) refl),
    classes-left-from (suc n) ds cs h.1 λ k x m e. g (suc k) x m (omega arith),
  )
  classes-left-from n [] (c ∷ cs) h g = absurd h
  classes-left-from n (d ∷ ds) [] h g = absurd h

  as-many : (cs ds us : List DeclaredClass) → Each (AlikeClass NoLess MeansNoLess) cs us → Each (AlikeClass NoLess MeansNoLess) ds us → Each AsMany cs ds
  as-many [] [] us h k = tt
  as-many (c ∷ cs) (d ∷ ds) (u ∷ us) h k = (same-length (AlikeVariable NoLess MeansNoLess) (AlikeVariable NoLess MeansNoLess) c.variables d.variables u.variables (h.0).variables (k.0).variables, as-many cs ds us h.1 k.1)
  as-many [] (d ∷ ds) [] h k = absurd k
  as-many [] (d ∷ ds) (u ∷ us) h k = absurd h
  as-many (c ∷ cs) ds [] h k = absurd h
  as-many (c ∷ cs) [] (u ∷ us) h k = absurd k

  classes-left : Each (λ c d. Each NoValueLeft c.variables d.variables) a.classes (names_from decls a).classes
  unfolding names_from
  classes-left =
      classes-left-from 0 (classes_in decls) a.classes (as-many a.classes (names_from decls a).classes (unit_names decls).classes (s.below).classes (from-below decls a s).classes)
      λ c d m e h. let g : c ≡ m = omega arith in subst (λ n. ClassDone n d (slice_get a.classes c)) g (class-done c d h)

  all-told : names_from decls a ≡ unit_names decls
  all-told = telling_laws.ended decls a s (record { types = types-left; globals = globals-left; classes = classes-left })

pub place_laws : PlaceLaws
place_laws = record { entry = entry; class = class; interface = interface; value = value; member = member; ended = all-told }

-- ---- locals

routine-as-many : (s : Scope) (name : List ℕ) (result : Option (TypeSpec ℕ)) (sections : List (Section ℕ)) (vs : List DeclaredVariable) → SoundLocals vs (locals_of s name result sections)
    → Each (λ v w. Unit {0}) vs (routine_locals (record s { locals = vs }) name result sections)
routine-as-many s name result sections vs h =
    let all = locals_of s name result sections in
    let u : Scope = record s { locals = vs } in
    let t : Scope = record s { locals = all } in
    same-length (AlikeVariable NoLess MeansNoLess) (AlikeVariable AnyKind AnyTarget) vs (routine_locals u name result sections) all h.below
    (subst (λ ws. Each (AlikeVariable AnyKind AnyTarget) (routine_locals u name result sections) ws) (local_laws.routine s name result sections).settled (routine-names u t name result sections))

program-as-many : (s : Scope) (sections : List (Section ℕ)) (vs : List DeclaredVariable) → SoundLocals vs (program_locals s sections)
    → Each (λ v w. Unit {0}) vs (members_declared (record s { locals = vs }) 0 0 sections)
program-as-many s sections vs h =
    let all = program_locals s sections in
    let u : Scope = record s { locals = vs } in
    let t : Scope = record s { locals = all } in
    same-length (AlikeVariable NoLess MeansNoLess) (AlikeVariable AnyKind AnyTarget) vs (members_declared u 0 0 sections) all h.below
    (subst (λ ws. Each (AlikeVariable AnyKind AnyTarget) (members_declared u 0 0 sections) ws) (local_laws.program s sections).settled (member-names u t 0 0 sections))

routine-next : (s : Scope) (name : List ℕ) (result : Option (TypeSpec ℕ)) (sections : List (Section ℕ)) (vs : List DeclaredVariable) (i : ℕ) (w : Written) (k : StType) (z : ℤ)
    → SoundLocals vs (locals_of s name result sections) → slice_get (sections_written sections) i ≡ Some w → w.constant ≡ true
    → type_written (record s { locals = vs }) w.item.kind ≡ Some k → constant_of (record s { locals = vs }) w ≡ Some z
    → SoundLocals (with_local vs (result_count s result + i) k (target.Constant z)) (locals_of s name result sections)
routine-next s name result sections vs i w k z h e c t v =
    let u : Scope = record s { locals = vs } in
    subst (λ x. SoundLocals (with_local vs (result_count s result + i) k (constant_target x)) (locals_of s name result sections)) v
    ((local_laws.routine s name result sections).next vs (result_count s result + i) (declared_with u (constant_target (constant_of u w)) w) k h (routine-constant-at u name sections result i w e c) t)

routine-ended : (s : Scope) (name : List ℕ) (result : Option (TypeSpec ℕ)) (sections : List (Section ℕ)) (vs : List DeclaredVariable)
    → SoundLocals vs (locals_of s name result sections) → AllValues (record s { locals = vs }) (sections_written sections) (λ i. is_value (slice_get vs (result_count s result + i)))
    → routine_locals (record s { locals = vs }) name result sections ≡ locals_of s name result sections
routine-ended s name result sections vs h g =
    let u : Scope = record s { locals = vs } in
    (local_laws.routine s name result sections).ended vs h
    (routine-none-left u name sections (λ v w. Unit {0}) result vs (routine-as-many s name result sections vs h) g)

program-next : (s : Scope) (sections : List (Section ℕ)) (vs : List DeclaredVariable) (i : ℕ) (w : Written) (k : StType) (z : ℤ)
    → SoundLocals vs (program_locals s sections) → slice_get (sections_written sections) i ≡ Some w → w.constant ≡ true
    → type_written (record s { locals = vs }) w.item.kind ≡ Some k → constant_of (record s { locals = vs }) w ≡ Some z
    → SoundLocals (with_local vs i k (target.Constant z)) (program_locals s sections)
program-next s sections vs i w k z h e c t v =
    let u : Scope = record s { locals = vs } in
    subst (λ x. SoundLocals (with_local vs i k (constant_target x)) (program_locals s sections)) v
    ((local_laws.program s sections).next vs i (declared_with u (constant_target (constant_of u w)) w) k h
    (constant-at u (sections_written sections) (members_declared u 0 0 sections) i w (members-like u 0 0 (sections_written sections)) e c) t)

program-ended : (s : Scope) (sections : List (Section ℕ)) (vs : List DeclaredVariable)
    → SoundLocals vs (program_locals s sections) → AllValues (record s { locals = vs }) (sections_written sections) (λ i. is_value (slice_get vs i))
    → members_declared (record s { locals = vs }) 0 0 sections ≡ program_locals s sections
program-ended s sections vs h g =
    let u : Scope = record s { locals = vs } in
    (local_laws.program s sections).ended vs h
    (none-left u (λ v w. Unit {0}) (sections_written sections) (members_declared u 0 0 sections) vs (members-like u 0 0 (sections_written sections)) (program-as-many s sections vs h) g)

pub local_place_laws : LocalPlaceLaws
local_place_laws = record { routine_next = routine-next; routine_ended = routine-ended; program_next = program-next; program_ended = program-ended }
