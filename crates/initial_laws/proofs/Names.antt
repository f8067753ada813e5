-- Names of a space differ: what has a name among them is one.
use Rattle.std.proofs.Common.{◌≡◌, ℕ, true, false, List, [], ◌∷◌, ◌++◌, map, refl, sym, ap, ◌∙◌, subst, inl, inr}
use Rattle.std.specs.Prelude.{flat_map}
use Rattle.std.specs.List.{list_any}
use Rattle.std.proofs.lemmas.List.{map-append}
use Rattle.std.proofs.lemmas.Slice.Eq.{bytes_eq-Decides}
use Rattle.plc_text.specs.Words.{same}
use Rattle.plc_text.specs.declared.code.Code.TheVariants.{E04}
use Rattle.st_tree.specs.declared.declaration.Member.{Member}
use Rattle.st_tree.specs.declared.declaration.Member.TheVariants as member
use Rattle.st_tree.specs.declared.declaration.Section.{Section}
use Rattle.st_tree.specs.declared.name.Name.{Name}
use Rattle.st_rules.proofs.Booleans.{neither, cases, true≢false}
use Rattle.st_unit_rules.specs.NameRules.{is_named, texts, declared_before, declared_twice, name_of_conversion, space_faults, section_names, member_names}
use Rattle.st_unit_rules.specs.declared_names.Variables.{Written, section_written, sections_written, sections_in}
use Rattle.st_meaning.specs.st_frame.Footprint.{Has}
use Rattle.resolution_order.specs.told_laws.ToldLaws.{Every}
use Rattle.accepted_texts.proofs.sized_units.Instances.{same_turned}
use Rattle.accepted_texts.proofs.sized_units.Outputs.{every_has}
use Rattle.accepted_texts.proofs.unfolding_laws.CycleLaws.{none_in, not_when}
use Rattle.accepted_texts.proofs.unfolding_laws.ListLaws.{every_append, every_back, every_front}

-- ---- equal names

pub equal : (a b : List ℕ) → same a b ≡ true → a ≡ b
equal a b h = (bytes_eq-Decides a b).0 h

pub same_self : (a b : List ℕ) → a ≡ b → same a b ≡ true
same_self a b e = (bytes_eq-Decides a b).1 e

pub not_turned : (a b : List ℕ) → same a b ≡ false → same b a ≡ false
not_turned a b h = elim (cases (same b a)) [
  | inl e ↦ absurd (true≢false (sym (same_turned b a e) ∙ h))
  | inr e ↦ e
]

-- ---- names that differ

abbrev pub Differ : List ℕ → List (List ℕ) → Type 0
Differ n ns = Every (λ m. same n m ≡ false) ns

abbrev pub Unique : List (List ℕ) → Type 0
Unique [] = Unit {0}
Unique (n ∷ ns) = Differ n ns × Unique ns

none_named : (n : List ℕ) (before : List (List ℕ)) → list_any (same n) before ≡ false → Every (λ b. same b n ≡ false) before
none_named n [] h = tt
none_named n (b ∷ before) h = let q = neither (same n b) (list_any (same n) before) h in (not_turned n b q.0, none_named n before q.1)

-- with those before them
pub record AllDiffer (before : List (List ℕ)) (ns : List Name) : Type 0 where
  pub unique : Unique (texts ns)
  pub others : Every (λ b. Differ b (texts ns)) before

pub twice_differ : (before : List (List ℕ)) (ns : List Name) → declared_twice before ns ≡ [] → AllDiffer before ns
twice_differ before [] h = record { unique = tt; others = all before }
  where
    all : (bs : List (List ℕ)) → Every (λ b. Differ b []) bs
    all [] = tt
    all (b ∷ bs) = (tt, all bs)
twice_differ before (n ∷ ns) h =
    let q = none_in (declared_before before n) (declared_twice (before ++ n.text ∷ []) ns) h in
    let r = twice_differ (before ++ n.text ∷ []) ns q.1 in
    let this = every_back (λ b. Differ b (texts ns)) before (n.text ∷ []) r.others in
    record {
      unique = (this.0, r.unique);
      others = joined before (none_named n.text before (not_when (is_named n.text before) E04 n.line q.0)) (every_front (λ b. Differ b (texts ns)) before (n.text ∷ []) r.others);
    }
  where
    joined : (bs : List (List ℕ)) → Every (λ b. same b n.text ≡ false) bs → Every (λ b. Differ b (texts ns)) bs → Every (λ b. Differ b (n.text ∷ texts ns)) bs
    joined [] a b = tt
    joined (x ∷ bs) a b = ((a.0, b.0), joined bs a.1 b.1)

pub space_unique : (ns : List Name) → space_faults ns ≡ [] → Unique (texts ns)
unfolding space_faults
space_unique ns h = (twice_differ [] ns (none_in (declared_twice [] ns) (flat_map name_of_conversion ns) h).0).unique

-- ---- what has a name

mapped_has : {X : Type 0} (f : X → List ℕ) (xs : List X) (x : X) → Has xs x → Has (map f xs) (f x)
mapped_has f [] x h = absurd h
mapped_has f (y ∷ xs) x (inl e) = inl (ap f e)
mapped_has f (y ∷ xs) x (inr h) = inr (mapped_has f xs x h)

pub only_named : {X : Type 0} (f : X → List ℕ) (xs : List X) → Unique (map f xs) → (x y : X) → Has xs x → Has xs y → f x ≡ f y → x ≡ y
only_named f [] u x y h k e = absurd h
only_named f (z ∷ xs) u x y (inl a) (inl b) e = a ∙ sym b
only_named f (z ∷ xs) u x y (inl a) (inr k) e =
    let d : same (f z) (f y) ≡ false = every_has (λ m. same (f z) m ≡ false) (map f xs) (f y) u.0 (mapped_has f xs y k) in
    absurd (true≢false (sym (same_self (f z) (f y) (ap f (sym a) ∙ e)) ∙ d))
only_named f (z ∷ xs) u x y (inr h) (inl b) e =
    let d : same (f z) (f x) ≡ false = every_has (λ m. same (f z) m ≡ false) (map f xs) (f x) u.0 (mapped_has f xs x h) in
    absurd (true≢false (sym (same_self (f z) (f x) (ap f (sym b) ∙ sym e)) ∙ d))
only_named f (z ∷ xs) u x y (inr h) (inr k) e = only_named f xs u.1 x y h k e

-- ---- parts of a list of names

unique_back : (as' bs : List (List ℕ)) → Unique (as' ++ bs) → Unique bs
unique_back [] bs u = u
unique_back (a ∷ as') bs u = unique_back as' bs u.1

-- those of the sections among all members
abbrev pub written_texts : List Written → List (List ℕ)
written_texts ws = map (λ (w : Written). w.name.text) ws

pub section_texts : (ws : List Written) → texts (map (λ (w : Written). w.name) ws) ≡ written_texts ws
section_texts [] = refl
section_texts (w ∷ ws) = ap (λ ns. w.name.text ∷ ns) (section_texts ws)

none_behind : (ws : List Written) → ws ++ [] ≡ ws
none_behind [] = refl
none_behind (w ∷ ws) = ap (λ us. w ∷ us) (none_behind ws)

-- a section's names, then those of the members behind it
behind_section : (s : Section ℕ) (ms : List (Member ℕ)) → texts (section_names (s ∷ []) ++ member_names ms) ≡ written_texts (section_written s) ++ texts (member_names ms)
behind_section s ms =
    map-append (λ (n : Name). n.text) (section_names (s ∷ [])) (member_names ms)
    ∙ ap (λ ts. ts ++ texts (member_names ms)) (section_texts (sections_written (s ∷ [])) ∙ ap written_texts (none_behind (section_written s)))

before_sections : (s : Section ℕ) (ss : List (Section ℕ)) → written_texts (sections_written (s ∷ ss)) ≡ written_texts (section_written s) ++ written_texts (sections_written ss)
before_sections s ss = map-append (λ (w : Written). w.name.text) (section_written s) (sections_written ss)

sections_every : (P : List ℕ → Type 0) (ms : List (Member ℕ)) → Every P (texts (member_names ms)) → Every P (written_texts (sections_written (sections_in ms)))
sections_every P [] h = tt
sections_every P (member.Method m ∷ ms) h = sections_every P ms h.1
sections_every P (member.Section s ∷ ms) h =
    let all = subst (Every P) (behind_section s ms) h in
    subst (Every P) (sym (before_sections s (sections_in ms)))
    (every_append P (written_texts (section_written s)) (written_texts (sections_written (sections_in ms)))
    (every_front P (written_texts (section_written s)) (texts (member_names ms)) all) (sections_every P ms (every_back P (written_texts (section_written s)) (texts (member_names ms)) all)))

-- a list before others, which it differs from as it differs from more
shorter : (as' bs cs : List (List ℕ)) → ((P : List ℕ → Type 0) → Every P bs → Every P cs) → Unique cs → Unique (as' ++ bs) → Unique (as' ++ cs)
shorter [] bs cs f v u = v
shorter (a ∷ as') bs cs f v u =
    let d = u.0 in
    (every_append (λ m. same a m ≡ false) as' cs (every_front (λ m. same a m ≡ false) as' bs d) (f (λ m. same a m ≡ false) (every_back (λ m. same a m ≡ false) as' bs d)), shorter as' bs cs f v u.1)

sections_unique_in : (ms : List (Member ℕ)) → Unique (texts (member_names ms)) → Unique (written_texts (sections_written (sections_in ms)))
sections_unique_in [] u = tt
sections_unique_in (member.Method m ∷ ms) u = sections_unique_in ms u.1
sections_unique_in (member.Section s ∷ ms) u =
    let all = subst Unique (behind_section s ms) u in
    subst Unique (sym (before_sections s (sections_in ms)))
    (shorter (written_texts (section_written s)) (texts (member_names ms)) (written_texts (sections_written (sections_in ms))) (λ P h. sections_every P ms h)
    (sections_unique_in ms (unique_back (written_texts (section_written s)) (texts (member_names ms)) all)) all)

pub sections_unique : (ms : List (Member ℕ)) → Unique (texts (member_names ms)) → Unique (map (λ (w : Written). w.name.text) (sections_written (sections_in ms)))
sections_unique ms u = sections_unique_in ms u
