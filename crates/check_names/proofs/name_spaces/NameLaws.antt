-- The names of sections and members, and one more name of a space.
use Rattle.std.proofs.Common.{◌≡◌, ℕ, Bool, true, false, List, [], ◌∷◌, ◌++◌, Option, map, cond, Bor, refl, sym, ap, ◌∙◌, append-nil}
use Rattle.std.specs.Prelude.{flat_map, ◌||◌}
use Rattle.std.specs.List.{list_any}
use Rattle.std.proofs.lemmas.List.{map-append}
use Rattle.std.proofs.lemmas.Slice.Eq.{bytes_eq-Decides}
use Rattle.std.proofs.lemmas.List.Folds.{list_any-append}
use Rattle.plc_text.specs.declared.code.Code.{Code}
use Rattle.plc_text.specs.declared.code.Code.TheVariants.{E04}
use Rattle.plc_text.specs.Words.{same}
use Rattle.st_tree.specs.declared.declaration.Item.{Item}
use Rattle.st_tree.specs.declared.declaration.Member.{Member}
use Rattle.st_tree.specs.declared.declaration.Member.TheVariants as member
use Rattle.st_tree.specs.declared.declaration.Section.{Section}
use Rattle.st_tree.specs.declared.name.Name.{Name}
use Rattle.st_rules.specs.Faults.{earlier, least, when}
use Rattle.st_rules.proofs.Booleans.{same-tests}
use Rattle.st_rules.proofs.FaultLaws.{earlier-assoc, least-append}
use Rattle.st_unit_rules.specs.declared_names.Variables.{Written, item_written, section_written, sections_written}
use Rattle.st_unit_rules.specs.NameRules.{is_named, declared_before, declared_twice, section_names, member_names, local_named_as_routine}
use Rattle.check_names.specs.name_spaces.Held.{Holds}
use Rattle.check_names.specs.name_spaces.NamesIn.{names_of}
use Rattle.check_names.specs.name_spaces.Private.Items.{item_names, names_in_sections}

-- ---- names of sections

mapped : {X Y : Type 0} (f : X → Y) (g : Y → X) (xs : List X) → ((x : X) → g (f x) ≡ x) → map g (map f xs) ≡ xs
mapped f g [] h = refl
mapped f g (x ∷ xs) h = ap (λ y. y ∷ map g (map f xs)) (h x) ∙ ap (λ ys. x ∷ ys) (mapped f g xs h)

item_is : (s : Section ℕ) (item : Item ℕ) → map (λ w. w.name) (item_written s item) ≡ item.names
item_is s item = mapped _ (λ (w : Written). w.name) item.names (λ n. refl)

items_are : (s : Section ℕ) (items : List (Item ℕ)) → map (λ w. w.name) (flat_map (item_written s) items) ≡ item_names items
items_are s [] = refl
items_are s (i ∷ is) = map-append (λ (w : Written). w.name) (item_written s i) (flat_map (item_written s) is) ∙ ap (λ ns. ns ++ map (λ (w : Written). w.name) (flat_map (item_written s) is)) (item_is s i) ∙ ap (λ ns. i.names ++ ns) (items_are s is)

pub section_names_are : (ss : List (Section ℕ)) → section_names ss ≡ names_in_sections ss
section_names_are [] = refl
section_names_are (s ∷ ss) = map-append (λ (w : Written). w.name) (section_written s) (sections_written ss) ∙ ap (λ ns. ns ++ section_names ss) (items_are s s.items) ∙ ap (λ ns. item_names s.items ++ ns) (section_names_are ss)

pub one_section_is : (s : Section ℕ) → member_names (member.Section s ∷ []) ≡ item_names s.items
one_section_is s = append-nil (section_names (s ∷ [])) ∙ section_names_are (s ∷ []) ∙ append-nil (item_names s.items)

pub member_next : (m : Member ℕ) (ms : List (Member ℕ)) → member_names (m ∷ ms) ≡ member_names (m ∷ []) ++ member_names ms
member_next (member.Section s) ms = ap (λ ns. ns ++ member_names ms) (sym (append-nil (section_names (s ∷ []))))
member_next (member.Method m) ms = refl

-- ---- one more name

pub twice_next : (found t : Option (Code × ℕ)) (b : Bool) (before : List (List ℕ)) (n : Name) (rest : List Name) → b ≡ is_named n.text before → t ≡ least (when b E04 n.line)
    → earlier (earlier found t) (least (declared_twice (before ++ n.text ∷ []) rest)) ≡ earlier found (least (declared_twice before (n ∷ rest)))
twice_next found t b before n rest e h =
    sym (earlier-assoc found t (least (declared_twice (before ++ n.text ∷ []) rest)))
    ∙ ap (earlier found) (ap (λ x. earlier x (least (declared_twice (before ++ n.text ∷ []) rest))) (h ∙ ap (λ b. least (when b E04 n.line)) e) ∙ sym (least-append (declared_before before n) (declared_twice (before ++ n.text ∷ []) rest)))

pub routine_next : (found t : Option (Code × ℕ)) (b : Bool) (routine : List ℕ) (n : Name) (rest : List Name) → b ≡ same n.text routine → t ≡ least (when b E04 n.line)
    → earlier (earlier found t) (least (flat_map (local_named_as_routine routine) rest)) ≡ earlier found (least (flat_map (local_named_as_routine routine) (n ∷ rest)))
routine_next found t b routine n rest e h =
    sym (earlier-assoc found t (least (flat_map (local_named_as_routine routine) rest)))
    ∙ ap (earlier found) (ap (λ x. earlier x (least (flat_map (local_named_as_routine routine) rest))) (h ∙ ap (λ b. least (when b E04 n.line)) e) ∙ sym (least-append (local_named_as_routine routine n) (flat_map (local_named_as_routine routine) rest)))

-- ---- names that are held

swapped : (a b : Bool) → cond a true b ≡ (b || (a || false))
swapped true true = refl
swapped true false = refl
swapped false true = refl
swapped false false = refl

pub same_even : (a b : List ℕ) → same a b ≡ same b a
same_even a b = same-tests (same a b) (same b a) (λ h. (bytes_eq-Decides b a).1 (sym ((bytes_eq-Decides a b).0 h))) (λ h. (bytes_eq-Decides a b).1 (sym ((bytes_eq-Decides b a).0 h)))

pub held_next : (old new names : List (List ℕ)) (k n : List ℕ) → k ≡ n → ((q : List ℕ) → list_any (same q) new ≡ cond (same k q) true (list_any (same q) old)) → Holds old names → Holds new (names ++ n ∷ [])
held_next old new names k n e u h = record {
  same = λ q.
      u q ∙ ap (λ x. cond (same x q) true (list_any (same q) old)) e ∙ ap (cond (same n q) true) (h.same q)
      ∙ swapped (same n q) (is_named q names) ∙ ap (λ b. is_named q names || (b || false)) (same_even n q)
      ∙ sym (list_any-append (same q) names (n ∷ []));
}

-- ---- names that are lent, one more

pub lent_next : (old new : List (Bor Name)) (b : Bor Name) → new ≡ old ++ b ∷ [] → names_of new ≡ names_of old ++ b.now ∷ []
lent_next old new b e = ap names_of e ∙ map-append (λ (n : Bor Name). n.now) old (b ∷ [])
