-- What is called is there, where a call breaks no rule: of a bare name, of THIS, and behind a place.
use Rattle.std.proofs.Common.{◌≡◌, ℕ, Bool, true, false, List, [], Option, Some, None, refl, sym, ap, ◌∙◌, subst, inl, inr}
use Rattle.std.specs.Prelude.{◌&&◌, option_map, if◌then◌else◌}
use Rattle.std.specs.Option.{is_some, is_none}
use Rattle.plc_text.specs.declared.code.Code.TheVariants.{E05, E09}
use Rattle.st_types.specs.declared.elem.Elem.{Elem}
use Rattle.st_types.specs.declared.st_type.StType.{StType}
use Rattle.st_types.specs.declared.st_type.StType.TheVariants as type
use Rattle.st_tree.specs.declared.expression.Root.{Root}
use Rattle.st_tree.specs.declared.expression.Root.TheVariants as root
use Rattle.st_tree.specs.declared.program.Note.{Note}
use Rattle.st_tree.specs.declared.program.Target.TheVariants as target
use Rattle.st_tree.specs.Expression.{Selector, Field, Index, Selectors, no_selectors, selector_then}
use Rattle.st_tree.specs.Expression as tree
use Rattle.st_rules.specs.declared.signature.ResultType.TheVariants as outcome
use Rattle.st_rules.specs.Faults.{at}
use Rattle.st_rules.specs.Scope.{Scope, is_block_at, Meant, sought, dot_qualifier, Qualifier, values_of, of_untold, no_qualifier, value_of}
use Rattle.st_rules.specs.Places.{Standing, untold, a_value, own_instance, no_base, an_enumeration, a_value_of, part_of, standing_type, root_line, root_standing, root_faults, selector_faults, is_last, name_faults, name_not_found, name_out_of_access}
use Rattle.st_rules.specs.Calls.{block_parameters, Callee, a_body, standing_callee, not_callable, call_of_no_callable, callee_along, part_callee, conversion_named, callee, callee_faults, is_on_super, Head}
use Rattle.st_rules.specs.Expressions.{typed_root, note, along_faults, called_root_faults}
use Rattle.st_values.specs.Program.{Program}
use Rattle.st_meaning.specs.Call.{callee_of}
use Rattle.st_meaning.specs.st_frame.Use.{a_body_of, called_of}
use Rattle.st_meaning.specs.st_frame.Promise.Names.{Scope as Around, RootIs}
use Rattle.place_laws.specs.Agrees.{Agrees, Runs, IsPlain}
use Rattle.place_laws.proofs.Words.{none_in, not_when}
use Rattle.place_laws.proofs.Places.{StandsAs, IsPlaced, root_is}
use Rattle.place_laws.proofs.Whole
use Rattle.call_laws.proofs.Called
use Rattle.call_laws.proofs.Behind
use Rattle.call_laws.proofs.Joined

module _ (s : Scope) (p : Program) (g : Around) (a : Agrees s p g) where
  -- what a call that breaks no rule has
  pub record Passes (l : ℕ) (r : Root ℕ) (ss : Selectors ℕ) (hs : List Head) : Type 0 where
    pub root : called_root_faults s r ss ≡ []
    pub along : along_faults s (root_line r) true (root_standing s r ss) ss ≡ []
    pub callee : callee_faults s l (is_on_super r ss) (callee s r ss) hs ≡ []

  pub callable : (l : ℕ) (r : Root ℕ) (ss : Selectors ℕ) (hs : List Head) → Passes l r ss hs → call_of_no_callable s l (callee s r ss) ≡ []
  callable l r ss hs h = Called.callable s p g a l (is_on_super r ss) (callee s r ss) hs h.callee

  -- ---- a bare name

  called_found : (l k : ℕ) (name : List ℕ) (o : Option (Elem × Elem)) (m : Option Meant) → (if is_some o then [] else name_faults s k true m) ≡ [] → (is_some o ≡ false → is_none m ≡ false) × (is_some o ≡ false → name_out_of_access s k m ≡ [])
  called_found l k name (Some c) m f = (λ e. cc, λ e. cc)
  called_found l k name None m f = let q = none_in (name_not_found s k true m) (name_out_of_access s k m) f in (λ e. not_when (is_none m) E05 k q.0, λ e. q.1)

  bare_is : (l k : ℕ) (name : List ℕ) (hs : List Head) → Passes l (root.Name k name) no_selectors hs → Joined.IsCallee s p g a (root.Name k name) no_selectors
  unfolding callee typed_root called_root_faults root_faults
  bare_is l k name hs h =
      let q = called_found l k name (conversion_named name) (sought s true name) h.root in
      Called.bare s p g a l k name (conversion_named name) (sought s true name) q.0 (λ e. a.name k true name (q.1 e)) (callable l (root.Name k name) no_selectors hs h)

  -- ---- THIS()

  -- where THIS stands for an instance of a block, its body is called
  this_body : (l k : ℕ) (b : Standing) (t : StType) → StandsAs b t → call_of_no_callable s l (standing_callee s (root.This k) b) ≡ [] → (d : ℕ) × (t ≡ type.Instance d) × (standing_callee s (root.This k) b ≡ a_body d) × (is_block_at s d ≡ true)
  this_body l k (a_value u) t h f = let b = Called.variable_body s p g a l u (Some u) refl f in (b.0, sym h ∙ b.1, b.2, b.3)
  this_body l k (own_instance c) t h f = let b = Called.variable_body s p g a l (type.Instance c) (Some (type.Instance c)) refl f in by (is_block_at s c) refl f
    where
      by : (b : Bool) → is_block_at s c ≡ b → call_of_no_callable s l (if b then a_body c else not_callable) ≡ [] → (d : ℕ) × (t ≡ type.Instance d) × ((if b then a_body c else not_callable) ≡ a_body d) × (is_block_at s d ≡ true)
      by true e i = (c, sym h, refl, e)
      by false e i = cc
  this_body l k untold t h f = absurd h
  this_body l k no_base t h f = absurd h
  this_body l k (an_enumeration n) t h f = absurd h

  this_root : (k : ℕ) → called_root_faults s (root.This k) no_selectors ≡ root_faults s false (root.This k) no_selectors
  unfolding called_root_faults root_faults
  this_root k = refl

  this_callee : (k : ℕ) → callee s (root.This k) no_selectors ≡ standing_callee s (root.This k) (root_standing s (root.This k) no_selectors)
  unfolding callee
  this_callee k = refl

  -- the body that is called, by the note of THIS
  this_called : (n : Note) (d : ℕ) → RootIs p g (root.This n) → n.kind ≡ type.Instance d → is_block_at s d ≡ true
      → Called.BareIs s p g a (a_body d) (callee_of (root.This n) no_selectors) (RootIs p g (root.This n) × Unit {0}) n.kind (called_of (root.This n) no_selectors)
  this_called n d h e b = (refl, (h, tt), e, refl, subst (λ y. Runs p (a_body_of y) (block_parameters s d) outcome.Nothing) (sym e) (a.body d b))

  plain_instance : (t : StType) (d : ℕ) → IsPlain t → t ≡ type.Instance d → ⊥
  plain_instance t d h e = subst IsPlain e h

  this_is : (l k : ℕ) (hs : List Head) → Passes l (root.This k) no_selectors hs → Joined.IsCallee s p g a (root.This k) no_selectors
  unfolding typed_root
  this_is l k hs h =
      let r = root.This k in
      let q = root_is s p g a r no_selectors (sym (this_root k) ∙ h.root) (Whole.this_placed s p g a k no_selectors) in
      let b = this_body l k (root_standing s r no_selectors) q.kind q.stands (subst (λ z. call_of_no_callable s l z ≡ []) (this_callee k) (callable l r no_selectors hs h)) in
      let n = note k (standing_type (root_standing s r no_selectors)) target.Nothing in
      elim q.is [
        | inl w ↦ subst (λ z. Called.BareIs s p g a z (callee_of (root.This n) no_selectors) (RootIs p g (root.This n) × Unit {0}) n.kind (called_of (root.This n) no_selectors)) (sym (this_callee k ∙ b.2)) (this_called n b.0 w (q.noted ∙ b.1) b.3)
        | inr w ↦ absurd (plain_instance q.kind b.0 w b.1)
      ]

  -- ---- behind a place

  called_roots : (r : Root ℕ) (x : Selector ℕ) (ss : Selectors ℕ) → called_root_faults s r (selector_then x ss) ≡ root_faults s false r (selector_then x ss)
  unfolding called_root_faults root_faults
  called_roots (root.This l) x ss = refl
  called_roots (root.Super l) x ss = refl
  called_roots (root.Name l name) (Field j n) ss = refl
  called_roots (root.Name l name) (Index j n) ss = refl
  called_roots (root.Name l name) (tree.Target j) ss = refl

  plain_called : (line : ℕ) (b : Standing) (t : StType) (x : Selector ℕ) (ss : Selectors ℕ) → StandsAs b t → IsPlain t → Whole.HasIndices s p g a x → along_faults s line true b (selector_then x ss) ≡ [] → ⊥
  plain_called line (a_value u) t x ss h k q f = Whole.plain_stops s p g a line (true && is_last ss) u x q (subst IsPlain (sym h) k) ((Whole.parts_of_along s p g a line true (a_value u) x ss f).0)
  plain_called line (own_instance c) t x ss h k q f = subst IsPlain (sym h) k
  plain_called line untold t x ss h k q f = absurd h
  plain_called line no_base t x ss h k q f = absurd h
  plain_called line (an_enumeration n) t x ss h k q f = absurd h

  abbrev pub Beyond : Root ℕ → Selectors ℕ → Type 0
  Beyond r ss = (b : Standing) (t : StType) → StandsAs b t → along_faults s (root_line r) true b ss ≡ [] → Behind.Behind s p g a r b t ss

  placed_is : (l : ℕ) (r : Root ℕ) (x : Selector ℕ) (ss : Selectors ℕ) (hs : List Head) → Joined.Own s p g a r → Whole.HasIndices s p g a x → IsPlaced s p g a r (selector_then x ss) → Beyond r (selector_then x ss) → Passes l r (selector_then x ss) hs → Joined.IsCallee s p g a r (selector_then x ss)
  placed_is l r x ss hs o i h on f =
      let q = root_is s p g a r (selector_then x ss) (sym (called_roots r x ss) ∙ f.root) h in
      elim q.is [
        | inl w ↦ Joined.joined s p g a l r x ss o q w (on (root_standing s r (selector_then x ss)) q.kind q.stands f.along) (callable l r (selector_then x ss) hs f)
        | inr w ↦ absurd (plain_called (root_line r) (root_standing s r (selector_then x ss)) q.kind x ss q.stands w i f.along)
      ]

  enumeration_same : (l j n : ℕ) (called : Bool) (m : List ℕ) → selector_faults s l called (an_enumeration n) (Field j m) ≡ selector_faults s l false (an_enumeration n) (Field j m)
  unfolding selector_faults part_of
  enumeration_same l j n called m = refl

  enumeration_callee : (r : Root ℕ) (j n k : ℕ) (m : List ℕ) → value_of s n m ≡ Some k → callee_along s r (an_enumeration n) (selector_then (Field j m) no_selectors) ≡ not_callable
  unfolding part_of
  enumeration_callee r j n k m e = ap (λ o. part_callee s (option_map (a_value_of n) o)) e

  callee_there : (r : Root ℕ) (x : Selector ℕ) (ss : Selectors ℕ) → callee s r (selector_then x ss) ≡ callee_along s r (root_standing s r (selector_then x ss)) (selector_then x ss)
  unfolding callee
  callee_there r x ss = refl

  no_call : (l : ℕ) (c : Callee) → c ≡ not_callable → call_of_no_callable s l c ≡ [] → ⊥
  no_call l c e h = bad (sym (ap (call_of_no_callable s l) e) ∙ h)
    where
      bad : at E09 l ≡ [] → ⊥
      bad k = cc

  no_enumeration : (l k j n : ℕ) (name m : List ℕ) (ss : Selectors ℕ) (hs : List Head) → Whole.AllHaveIndices s p g a ss → dot_qualifier s name ≡ values_of n → Passes l (root.Name k name) (selector_then (Field j m) ss) hs → ⊥
  no_enumeration l k j n name m ss hs i e f =
      let r = root.Name k name in
      let z = Whole.enumeration_root s p g a k j n name m ss e in
      let ps = Whole.parts_of_along s p g a k true (an_enumeration n) (Field j m) ss (subst (λ b. along_faults s k true b (selector_then (Field j m) ss) ≡ []) z f.along) in
      let v = Whole.enumeration_part s p g a k j n false m (sym (enumeration_same k j n (true && is_last ss) m) ∙ ps.0) in
      by ss i v.0 v.1 (subst (λ b. along_faults s k true b ss ≡ []) (Whole.enumeration_step s p g a n j v.0 m v.1) ps.2)
      (subst (λ c. call_of_no_callable s l c ≡ []) (callee_there r (Field j m) ss ∙ ap (λ b. callee_along s r b (selector_then (Field j m) ss)) z) (callable l r (selector_then (Field j m) ss) hs f))
    where
      by : (rest : Selectors ℕ) → Whole.AllHaveIndices s p g a rest → (v : ℕ) → value_of s n m ≡ Some v → along_faults s k true (a_value (type.Enumeration n)) rest ≡ [] → call_of_no_callable s l (callee_along s (root.Name k name) (an_enumeration n) (selector_then (Field j m) rest)) ≡ [] → ⊥
      by no_selectors w v q h c = no_call l _ (enumeration_callee (root.Name k name) j n v m q) c
      by (selector_then y rest) w v q h c = plain_called k (a_value (type.Enumeration n)) (type.Enumeration n) y rest refl tt w.0 h

  -- ---- any call but those on SUPER

  pub callee_is : (l : ℕ) (r : Root ℕ) (ss : Selectors ℕ) (hs : List Head) → Joined.Own s p g a r → Whole.AllHaveIndices s p g a ss → ((x : Selector ℕ) (rest : Selectors ℕ) → ss ≡ selector_then x rest → Beyond r (selector_then x rest)) → Passes l r ss hs → Joined.IsCallee s p g a r ss
  callee_is l (root.Name k name) no_selectors hs o i on f = bare_is l k name hs f
  callee_is l (root.Name k name) (selector_then (Field j n) ss) hs o i on f = by (dot_qualifier s name) refl
    where
      by : (q : Qualifier) → dot_qualifier s name ≡ q → Joined.IsCallee s p g a (root.Name k name) (selector_then (Field j n) ss)
      by (values_of m) e = absurd (no_enumeration l k j m name n ss hs i.1 e f)
      by of_untold e = absurd (a.dot name e)
      by no_qualifier e = placed_is l (root.Name k name) (Field j n) ss hs tt tt (Whole.field_placed s p g a k j name n ss e) (on (Field j n) ss refl) f
  callee_is l (root.Name k name) (selector_then (Index j es) ss) hs o i on f = placed_is l (root.Name k name) (Index j es) ss hs tt i.0 (Whole.other_placed s p g a k name (Index j es) ss (λ u v e. cc)) (on (Index j es) ss refl) f
  callee_is l (root.Name k name) (selector_then (tree.Target j) ss) hs o i on f = placed_is l (root.Name k name) (tree.Target j) ss hs tt tt (Whole.other_placed s p g a k name (tree.Target j) ss (λ u v e. cc)) (on (tree.Target j) ss refl) f
  callee_is l (root.This k) (selector_then x ss) hs o i on f = placed_is l (root.This k) x ss hs tt i.0 (Whole.this_placed s p g a k (selector_then x ss)) (on x ss refl) f
  callee_is l (root.This k) no_selectors hs o i on f = this_is l k hs f
  callee_is l (root.Super k) ss hs o i on f = absurd o
