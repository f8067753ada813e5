-- The classes of each class and interface.
use Rattle.std.proofs.Common.{◌≡◌, ◌<◌, ◌≤◌, ℕ, ◌+◌, Bool, true, false, List, [], ◌∷◌, ◌++◌, length, Option, Some, None, refl, sym, ap, ◌∙◌, subst, ◌⊎◌, inl, inr, ⊎_elim, arith, nat_eq}
use Rattle.std.specs.Prelude.{if◌then◌else◌, ◌&&◌, filter, nat_lt, slice_get}
use Rattle.std.specs.List.{range_with_len}
use Rattle.std.specs.Bool.{beq}
use Rattle.std.specs.HashMap.{HashMap}
use Rattle.std.specs.Map.{lookup}
use Rattle.std.proofs.lemmas.Bool.{eqb-true, eq-eqb}
use Rattle.std.proofs.lemmas.Option.{slice_get_within}
use Rattle.st_types.specs.declared.st_type.StType.{StType}
use Rattle.st_types.specs.declared.st_type.StType.TheVariants as type
use Rattle.st_tree.specs.declared.declaration.ClassDecl.{ClassDecl}
use Rattle.st_tree.specs.declared.program.Note.{Note}
use Rattle.st_tree.specs.declared.program.Program.{Program as CheckedProgram}
use Rattle.st_rules.specs.Chains.{is_among}
use Rattle.st_rules.specs.Interfaces as rules
use Rattle.st_rules.proofs.Booleans.{true≢false, false≢true, none≢some, some-same, both}
use Rattle.st_values.specs.Program.{Class, Program, class_at, chain_of, conforming, conforms_as, conforms}
use Rattle.st_values.specs.View.{program_of}
use Rattle.st_meaning.specs.st_frame.Footprint.{Has}
use Rattle.program_tables.proofs.ClassLaws.{past_end, class_is_there, no_interface}
use Rattle.program_tables.proofs.RoutineLaws.{below}
use Rattle.program_tables.proofs.TableLaws.{among_passing}
use Rattle.st_meaning.proofs.st_frame.Footprints.{has_left, has_right, has_either, has_any, any_has}
use Rattle.footprints.specs.reached_routines.Conformers.{AreConformers}
use Rattle.footprints.specs.declared.reached_routines.conformers.Conformers.{Conformers}
use Rattle.footprints.specs.reached_routines.Families.{Family, family_of, kind_of, same_family}
use Rattle.footprints.specs.reached_routines.Private.Families.{numbers_of, classes_at, classes_if, IsNoted, NotesBut, Nothing, IsClassIn, IsConformedTo, IsInterfaceUpTo, Conforms, AreFamilies}

-- ---- families

beq-true : (a b : Bool) → beq a b ≡ true → a ≡ b
beq-true true true h = refl
beq-true true false h = absurd (false≢true h)
beq-true false true h = absurd (false≢true h)
beq-true false false h = refl

beq-same : (a : Bool) → beq a a ≡ true
beq-same true = refl
beq-same false = refl

pub pair_is : {A B : Type 0} (x y : A × B) → x.0 ≡ y.0 → x.1 ≡ y.1 → x ≡ y
pair_is x y h k =
    let a : x ≡ (y.0, x.1) = ap (λ z. (z, x.1)) h in
    let b : (y.0, x.1) ≡ y = ap (λ z. (y.0, z)) k in
    a ∙ b

pub same_is : (f g : Family) → same_family f g ≡ true → f ≡ g
same_is f g h =
    let q = both (beq f.0 g.0) (nat_eq f.1 g.1) h in
    pair_is f g (beq-true f.0 g.0 q.0) (eqb-true f.1 g.1 q.1)

same_itself : (f : Family) → same_family f f ≡ true
same_itself f = ap (λ b. b && nat_eq f.1 f.1) (beq-same f.0) ∙ eq-eqb f.1 f.1 refl

-- ---- one class more

module _ {S T : Type 0} (old : HashMap Family (List ℕ) S) (new : HashMap Family (List ℕ) T) (f : Family) (c : ℕ) (noted : IsNoted old new f c) where
  pub noted_kept : (g : Family) (x : ℕ) → Has (classes_at old g) x → Has (classes_at new g) x
  noted_kept g x h = subst (λ xs. Has xs x) (sym (noted.at g)) (by (same_family f g))
    where
      by : (b : Bool) → Has (if b then classes_at old g ++ c ∷ [] else classes_at old g) x
      by true = has_left (classes_at old g) (c ∷ []) x h
      by false = h

  pub noted_only : (g : Family) (x : ℕ) → Has (classes_at new g) x → Has (classes_at old g) x ⊎ ((x ≡ c) × (g ≡ f))
  noted_only g x h = by (same_family f g) refl (subst (λ xs. Has xs x) (noted.at g) h)
    where
      by : (b : Bool) → same_family f g ≡ b → Has (if b then classes_at old g ++ c ∷ [] else classes_at old g) x → Has (classes_at old g) x ⊎ ((x ≡ c) × (g ≡ f))
      by true e k = ⊎_elim (λ l. inl l) (λ r. ⊎_elim (λ q. inr (q, sym (same_is f g e))) (λ n. absurd n) r) (has_either (classes_at old g) (c ∷ []) x k)
      by false e k = inl k

  pub noted_there : Has (classes_at new f) c
  noted_there =
      subst (λ xs. Has xs c) (sym (noted.at f ∙ ap (λ b. if b then classes_at old f ++ c ∷ [] else classes_at old f) (same_itself f)))
      (has_right (classes_at old f) (c ∷ []) c (inl refl))

  -- the family is one that passes, and all that passes is that family
  pub noted_as : (P : Family → Type 0) → P f → ((g : Family) → P g → g ≡ f) → NotesBut P Nothing c old new
  noted_as P h is = record {
    kept = noted_kept;
    only = λ g x k. ⊎_elim (λ o. inl o) (λ q. inr (q.0, subst P (sym q.1) h)) (noted_only g x k);
    all = λ g q. inl (subst (λ z. Has (classes_at new z) c) (sym (is g q)) noted_there);
  }

module _ {S : Type 0} (c : ℕ) where
  pub notes_nothing : (P : Family → Type 0) (m : HashMap Family (List ℕ) S) → ((g : Family) → P g → ⊥) → NotesBut P Nothing c m m
  notes_nothing P m h = record { kept = λ f x k. k; only = λ f x k. inl k; all = λ f q. absurd (h f q) }

  pub notes_begun : (P : Family → Type 0) (m : HashMap Family (List ℕ) S) → NotesBut P P c m m
  notes_begun P m = record { kept = λ f x k. k; only = λ f x k. inl k; all = λ f q. inr q }

  -- some of those that are left are noted
  pub notes_next : (P L Q M : Family → Type 0) (a b d : HashMap Family (List ℕ) S) → ((f : Family) → Q f → P f) → ((f : Family) → L f → Q f ⊎ M f) → NotesBut P L c a b → NotesBut Q Nothing c b d → NotesBut P M c a d
  notes_next P L Q M a b d up split t s = record {
    kept = λ f x k. s.kept f x (t.kept f x k);
    only = λ f x k. ⊎_elim (λ o. t.only f x o) (λ q. inr (q.0, up f q.1)) (s.only f x k);
    all = λ f q. ⊎_elim (λ h. inl (s.kept f c h)) (λ l. ⊎_elim (λ k. ⊎_elim (λ h. inl h) (λ n. absurd n) (s.all f k)) (λ r. inr r) (split f l)) (t.all f q);
  }

  pub notes_ended : (P L : Family → Type 0) (a b : HashMap Family (List ℕ) S) → ((f : Family) → L f → ⊥) → NotesBut P L c a b → NotesBut P Nothing c a b
  notes_ended P L a b none t = record {
    kept = t.kept;
    only = t.only;
    all = λ f q. ⊎_elim (λ h. inl h) (λ l. absurd (none f l)) (t.all f q);
  }

  pub notes_both : (P Q R : Family → Type 0) (a b d : HashMap Family (List ℕ) S) → ((f : Family) → P f → R f) → ((f : Family) → Q f → R f) → ((f : Family) → R f → P f ⊎ Q f) → NotesBut P Nothing c a b → NotesBut Q Nothing c b d → NotesBut R Nothing c a d
  notes_both P Q R a b d to1 to2 split t s = record {
    kept = λ f x k. s.kept f x (t.kept f x k);
    only = λ f x k. ⊎_elim (λ o. ⊎_elim (λ h. inl h) (λ q. inr (q.0, to1 f q.1)) (t.only f x o)) (λ q. inr (q.0, to2 f q.1)) (s.only f x k);
    all = λ f q. ⊎_elim (λ k. ⊎_elim (λ h. inl (s.kept f c h)) (λ n. absurd n) (t.all f k)) (λ k. s.all f k) (split f q);
  }

-- ---- the chain of a class

-- the classes of the chain are noted, but those that are left
pub record Chained {S : Type 0} (c : ℕ) (whole left : List ℕ) (old new : HashMap Family (List ℕ) S) : Type 0 where
  pub within : (d : ℕ) → Has left d → Has whole d
  pub notes : NotesBut (IsClassIn whole) (IsClassIn left) c old new

module _ {S : Type 0} (c : ℕ) where
  pub chain_begun : (whole : List ℕ) (m : HashMap Family (List ℕ) S) → Chained c whole whole m m
  chain_begun whole m = record { within = λ d h. h; notes = notes_begun c (IsClassIn whole) m }

  pub chain_next : (whole left behind : List ℕ) (d : ℕ) (a b n : HashMap Family (List ℕ) S) → left ≡ d ∷ behind → Chained c whole left a b → IsNoted b n (false, d) c → Chained c whole behind a n
  chain_next whole left behind d a b n e t0 noted = record {
    within = λ x h. t.within x (inr h);
    notes = notes_next c (IsClassIn whole) (IsClassIn (d ∷ behind)) (λ f. f ≡ (false, d)) (IsClassIn behind) a b n
        (λ f q. (ap (λ z. z.0) q, subst (Has whole) (sym (ap (λ (z : Family). z.1) q)) (t.within d (inl refl))))
        (λ f l. ⊎_elim (λ q. inl (pair_is f (false, d) l.0 q)) (λ h. inr (l.0, h)) l.1)
        t.notes (noted_as b n (false, d) c noted (λ f. f ≡ (false, d)) refl (λ f q. q));
  }
    where
      t : Chained c whole (d ∷ behind) a b
      t = subst (λ l. Chained c whole l a b) e t0

  pub chain_ended : (whole left : List ℕ) (a b : HashMap Family (List ℕ) S) → left ≡ [] → Chained c whole left a b → NotesBut (IsClassIn whole) Nothing c a b
  chain_ended whole left a b e t = notes_ended c (IsClassIn whole) (IsClassIn left) a b (λ f l. subst (λ ds. Has ds f.1) e l.1) t.notes

-- ---- the interfaces of a class

module _ (p : Program) (c : ℕ) where
  -- from this number on
  abbrev pub IsInterfaceFrom : ℕ → ℕ → Family → Type 0
  IsInterfaceFrom i n f = (i ≤ f.1) × IsInterfaceUpTo p c n f

  module _ {S : Type 0} where
    pub conformed : (i : ℕ) (a b : HashMap Family (List ℕ) S) → conforms p c (type.Interface i) ≡ true → IsNoted a b (true, i) c → NotesBut (IsConformedTo p c i) Nothing c a b
    conformed i a b h noted = noted_as a b (true, i) c noted (IsConformedTo p c i) (refl, h) (λ f q. q.0)

    pub not_conformed : (i : ℕ) (a : HashMap Family (List ℕ) S) → conforms p c (type.Interface i) ≡ false → NotesBut (IsConformedTo p c i) Nothing c a a
    not_conformed i a h = notes_nothing c (IsConformedTo p c i) a (λ f q. true≢false (sym q.1 ∙ h))

    pub interfaces_begun : (n : ℕ) (m : HashMap Family (List ℕ) S) → NotesBut (IsInterfaceUpTo p c n) (IsInterfaceFrom 0 n) c m m
    interfaces_begun n m = record { kept = λ f x k. k; only = λ f x k. inl k; all = λ f q. inr (omega arith, q) }

    pub interfaces_next : (i n : ℕ) (a b d : HashMap Family (List ℕ) S) → i < n → NotesBut (IsInterfaceUpTo p c n) (IsInterfaceFrom i n) c a b → NotesBut (IsConformedTo p c i) Nothing c b d → NotesBut (IsInterfaceUpTo p c n) (IsInterfaceFrom (i + 1) n) c a d
    interfaces_next i n a b d l t s =
        notes_next c (IsInterfaceUpTo p c n) (IsInterfaceFrom i n) (IsConformedTo p c i) (IsInterfaceFrom (i + 1) n) a b d up split t s
      where
        up : (f : Family) → IsConformedTo p c i f → IsInterfaceUpTo p c n f
        up f q =
            let e : f.1 ≡ i = ap (λ (z : Family). z.1) q.0 in
            (ap (λ (z : Family). z.0) q.0, subst (λ k. k < n) (sym e) l, subst (λ k. conforms p c (type.Interface k) ≡ true) (sym e) q.1)

        apart : (k m : ℕ) → k ≤ m → (m ≡ k) ⊎ (k + 1 ≤ m)
        apart k m h = ⊎_elim (λ q. inr (let w = q.0 in omega (arith, w))) (λ q. inl (let w = q.0 in omega (arith, w, h))) (below k m)

        split : (f : Family) → IsInterfaceFrom i n f → IsConformedTo p c i f ⊎ IsInterfaceFrom (i + 1) n f
        split f h =
            ⊎_elim
            (λ e. inl (pair_is f (true, i) h.1.0 e, subst (λ k. conforms p c (type.Interface k) ≡ true) e h.1.2))
            (λ g. inr (g, h.1))
            (apart i f.1 h.0)

    pub interfaces_ended : (i n : ℕ) (a b : HashMap Family (List ℕ) S) → n ≤ i → NotesBut (IsInterfaceUpTo p c n) (IsInterfaceFrom i n) c a b → NotesBut (IsInterfaceUpTo p c n) Nothing c a b
    interfaces_ended i n a b l t = notes_ended c (IsInterfaceUpTo p c n) (IsInterfaceFrom i n) a b (λ f h. let u = h.0 in let v = h.1.1 in absurd (omega (arith, u, v, l))) t

-- ---- to what a class conforms

conforms_to_class : (p : Program) (c d : ℕ) → conforms p c (type.Instance d) ≡ true → Has (chain_of (class_at p c)) d
unfolding conforms
conforms_to_class p c d h = by (class_at p c) h
  where
    by : (o : Option Class) → conforming (type.Instance d) o ≡ true → Has (chain_of o) d
    by None e = absurd (false≢true e)
    by (Some k) e = any_has k.chain d e

class_conforms : (p : Program) (c d : ℕ) → Has (chain_of (class_at p c)) d → conforms p c (type.Instance d) ≡ true
unfolding conforms
class_conforms p c d h = by (class_at p c) h
  where
    by : (o : Option Class) → Has (chain_of o) d → conforming (type.Instance d) o ≡ true
    by None e = absurd e
    by (Some k) e = has_any k.chain d e

pub class_within : (p : Program) (c : ℕ) (t : StType) → conforms p c t ≡ true → c < length p.classes
unfolding conforms
class_within p c t h = by (class_at p c) refl h
  where
    by : (o : Option Class) → class_at p c ≡ o → conforming t o ≡ true → c < length p.classes
    by None e k = absurd (false≢true k)
    by (Some x) e k = slice_get_within p.classes c x e

abbrev conforms_by : CheckedProgram → ℕ → ℕ → Bool
conforms_by q c j = rules.conforms q.classes q.interfaces c (type.Interface j)

interface_within : (q : CheckedProgram) (c i : ℕ) → conforms (program_of q) c (type.Interface i) ≡ true → i < length q.interfaces
unfolding conforms
interface_within q c i h = by (slice_get q.classes c) refl
  where
    inside : ((i < length q.interfaces) × (nat_lt i (length q.interfaces) ≡ true)) ⊎ ((length q.interfaces ≤ i) × (nat_lt i (length q.interfaces) ≡ false)) → is_among i (filter (conforms_by q c) (range_with_len 0 (length q.interfaces))) ≡ true → i < length q.interfaces
    inside (inl r) k = r.0
    inside (inr r) k = absurd (false≢true (sym (among_passing (conforms_by q c) i (length q.interfaces) ∙ ap (λ b. if b then conforms_by q c i else false) r.1) ∙ k))

    by : (o : Option (ClassDecl Note)) → slice_get q.classes c ≡ o → i < length q.interfaces
    by None e = absurd (true≢false (sym h ∙ no_interface q c i (past_end q.classes c e)))
    by (Some d) e = inside (below i (length q.interfaces)) (sym (ap (conforming (type.Interface i)) (class_is_there q c d e)) ∙ h)

-- the class and interface of a type tell who conforms to it
pub conforms_as_family : (p : Program) (c : ℕ) (t : StType) (f : Family) → family_of t ≡ Some f → conforms p c t ≡ conforms p c (kind_of f)
unfolding conforms
conforms_as_family p c (type.Instance d) f e = ap (λ g. conforms p c (kind_of g)) (some-same e)
conforms_as_family p c (type.Reference d) f e = by (class_at p c) ∙ ap (λ g. conforms p c (kind_of g)) (some-same e)
  where
    by : (o : Option Class) → conforming (type.Reference d) o ≡ conforming (type.Instance d) o
    by None = refl
    by (Some k) = refl
conforms_as_family p c (type.Interface i) f e = ap (λ g. conforms p c (kind_of g)) (some-same e)
conforms_as_family p c (type.Elementary k) f e = absurd (none≢some e)
conforms_as_family p c (type.Enumeration k) f e = absurd (none≢some e)
conforms_as_family p c (type.Structure k) f e = absurd (none≢some e)
conforms_as_family p c t f e = absurd (none≢some e)

-- a type that is none of these
none_conforms : (t : StType) (o : Option Class) → ((x : Class) → conforms_as t x ≡ false) → conforming t o ≡ true → ⊥
none_conforms t None h e = false≢true e
none_conforms t (Some x) h e = false≢true (sym (h x) ∙ e)

pub conforms_to_none : (p : Program) (c : ℕ) (t : StType) → family_of t ≡ None → conforms p c t ≡ true → ⊥
unfolding conforms
conforms_to_none p c (type.Instance d) e h = absurd (none≢some (sym e))
conforms_to_none p c (type.Reference d) e h = absurd (none≢some (sym e))
conforms_to_none p c (type.Interface i) e h = absurd (none≢some (sym e))
conforms_to_none p c (type.Elementary k) e h = none_conforms (type.Elementary k) (class_at p c) (λ x. refl) h
conforms_to_none p c (type.Enumeration k) e h = none_conforms (type.Enumeration k) (class_at p c) (λ x. refl) h
conforms_to_none p c (type.Structure k) e h = none_conforms (type.Structure k) (class_at p c) (λ x. refl) h
conforms_to_none p c t e h = none_conforms t (class_at p c) (λ x. refl) h

-- ---- one class, and all

module _ (q : CheckedProgram) where
  abbrev p : Program
  p = program_of q

  instance_kind : (f : Family) → f.0 ≡ false → kind_of f ≡ type.Instance f.1
  instance_kind f e = ap (λ b. if b then type.Interface f.1 else type.Instance f.1) e

  interface_kind : (f : Family) → f.0 ≡ true → kind_of f ≡ type.Interface f.1
  interface_kind f e = ap (λ b. if b then type.Interface f.1 else type.Instance f.1) e

  split_family : (c : ℕ) (f : Family) → Conforms p c f → IsClassIn (chain_of (class_at p c)) f ⊎ IsInterfaceUpTo p c (length q.interfaces) f
  split_family c f h = by f.0 refl
    where
      by : (b : Bool) → f.0 ≡ b → IsClassIn (chain_of (class_at p c)) f ⊎ IsInterfaceUpTo p c (length q.interfaces) f
      by true e = let k : conforms p c (type.Interface f.1) ≡ true = subst (λ t. conforms p c t ≡ true) (interface_kind f e) h in inr (e, interface_within q c f.1 k, k)
      by false e = let k : conforms p c (type.Instance f.1) ≡ true = subst (λ t. conforms p c t ≡ true) (instance_kind f e) h in inl (e, conforms_to_class p c f.1 k)

  module _ {S : Type 0} where
    pub class_noted : (c n : ℕ) (chain : List ℕ) (a b d : HashMap Family (List ℕ) S) → chain ≡ chain_of (class_at p c) → n ≡ length q.interfaces → NotesBut (IsClassIn chain) Nothing c a b → NotesBut (IsInterfaceUpTo p c n) Nothing c b d → NotesBut (Conforms p c) Nothing c a d
    class_noted c n chain a b d e l t s =
        notes_both c (IsClassIn (chain_of (class_at p c))) (IsInterfaceUpTo p c (length q.interfaces)) (Conforms p c) a b d
        (λ f h. subst (λ t. conforms p c t ≡ true) (sym (instance_kind f h.0)) (class_conforms p c f.1 h.1))
        (λ f h. subst (λ t. conforms p c t ≡ true) (sym (interface_kind f h.0)) h.2)
        (split_family c)
        (subst (λ cs. NotesBut (IsClassIn cs) Nothing c a b) e t)
        (subst (λ m. NotesBut (IsInterfaceUpTo p c m) Nothing c b d) l s)

    pub families_begun : (m : HashMap Family (List ℕ) S) → m.entries ≡ [] → AreFamilies p 0 m
    families_begun m e = record {
      sound = λ f c h. absurd (nothing f c h);
      complete = λ f c l h. absurd (omega (arith, l));
    }
      where
        nothing : (f : Family) (c : ℕ) → Has (classes_at m f) c → ⊥
        nothing f c h = subst (λ es. Has (numbers_of (lookup (same_family f) es)) c) e h

    pub families_next : (n : ℕ) (a b : HashMap Family (List ℕ) S) → AreFamilies p n a → NotesBut (Conforms p n) Nothing n a b → AreFamilies p (n + 1) b
    families_next n a b t s = record {
      sound = λ f c h. ⊎_elim (λ o. t.sound f c o) (λ r. subst (λ k. Conforms p k f) (sym r.0) r.1) (s.only f c h);
      complete = λ f c l h. ⊎_elim (λ r. s.kept f c (t.complete f c r.0 h)) (λ r. here f c (let w = r.0 in omega (arith, w, l)) h) (below c n);
    }
      where
        here : (f : Family) (c : ℕ) → c ≡ n → Conforms p c f → Has (classes_at b f) c
        here f c e h = subst (λ k. Has (classes_at b f) k) (sym e) (⊎_elim (λ k. k) (λ k. absurd k) (s.all f (subst (λ k. Conforms p k f) e h)))

  pub conformers_are : (n : ℕ) (t : Conformers) → n ≡ length p.classes → AreFamilies p n t.families → AreConformers p t
  conformers_are n t e h = record {
    sound = λ kind c k. by_sound kind c (family_of kind) refl k;
    complete = λ kind c k. by_complete kind c (family_of kind) refl k;
  }
    where
      by_sound : (kind : StType) (c : ℕ) (o : Option Family) → family_of kind ≡ o → Has (classes_if t.families o) c → conforms p c kind ≡ true
      by_sound kind c None g k = absurd k
      by_sound kind c (Some f) g k = conforms_as_family p c kind f g ∙ h.sound f c k

      by_complete : (kind : StType) (c : ℕ) (o : Option Family) → family_of kind ≡ o → conforms p c kind ≡ true → Has (classes_if t.families o) c
      by_complete kind c None g k = absurd (conforms_to_none p c kind g k)
      by_complete kind c (Some f) g k = h.complete f c (subst (λ m. c < m) (sym e) (class_within p c kind k)) (sym (conforms_as_family p c kind f g) ∙ k)
