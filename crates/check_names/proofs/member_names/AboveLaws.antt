-- Names that stand in some classes: by tables, and as the classes declare them.
use Rattle.std.proofs.Common.{◌≡◌, ℕ, zero, suc, Bool, List, [], ◌∷◌, ◌++◌, Bor, map, drop, refl, sym, ap, ◌∙◌}
use Rattle.std.specs.Prelude.{flat_map, ◌||◌, slice_get}
use Rattle.std.specs.List.{list_any}
use Rattle.std.proofs.lemmas.List.Folds.{list_any-append}
use Rattle.plc_text.specs.declared.code.Code.TheVariants.{E04}
use Rattle.plc_text.specs.Words.{same}
use Rattle.st_tree.specs.declared.declaration.ClassDecl.{ClassDecl}
use Rattle.st_tree.specs.declared.name.Name.{Name}
use Rattle.st_rules.specs.Classes.{chain, methods_in, method_names}
use Rattle.st_rules.specs.Faults.{Faults, least, when}
use Rattle.st_unit_rules.specs.declared_names.Variables.{Written}
use Rattle.st_unit_rules.specs.NameRules.{is_named, of_class, of_bases, own_variables, variable_texts, variable_of_base, method_named_as_variable, space_faults, member_names, member_name_faults}
use Rattle.check_names.specs.name_spaces.NamesIn.{names_of}
use Rattle.check_names.specs.declared.member_names.names.MemberNames.{MemberNames}
use Rattle.check_names.specs.member_names.Known.{HoldsEach, AreHeld, Knows}
use Rattle.check_names.specs.member_names.Private.Above.{held_at, names_above, variable_above}

any_flat : {X Y : Type 0} (p : Y → Bool) (f : X → List Y) (xs : List X) → list_any (λ x. list_any p (f x)) xs ≡ list_any p (flat_map f xs)
any_flat p f [] = refl
any_flat p f (x ∷ xs) = ap (λ b. list_any p (f x) || b) (any_flat p f xs) ∙ sym (list_any-append p (f x) (flat_map f xs))

-- a search through the tables of some classes
pub any_above : (name : List ℕ) (tables : List (List (List ℕ))) (above : List ℕ) → list_any (λ c. is_named name (held_at tables c)) above ≡ is_named name (names_above tables above)
any_above name tables above = any_flat (same name) (held_at tables) above

-- ---- tables that hold what the classes declare

module _ (gives : ClassDecl ℕ → List (List ℕ)) where
  there : (name : List ℕ) (hs : List (List (List ℕ))) (cs : List (ClassDecl ℕ)) (c : ℕ) → HoldsEach gives hs cs → is_named name (held_at hs c) ≡ is_named name (of_class gives (slice_get cs c))
  there name [] [] c e = refl
  there name [] (d ∷ cs) c e = absurd e
  there name (h ∷ hs) [] c e = absurd e
  there name (h ∷ hs) (d ∷ cs) zero e = e.0.same name
  there name (h ∷ hs) (d ∷ cs) (suc c) e = there name hs cs c e.1

  any_each : (name : List ℕ) (hs : List (List (List ℕ))) (cs : List (ClassDecl ℕ)) (above : List ℕ) → HoldsEach gives hs cs
      → list_any (λ c. is_named name (held_at hs c)) above ≡ list_any (λ c. is_named name (of_class gives (slice_get cs c))) above
  any_each name hs cs [] e = refl
  any_each name hs cs (c ∷ above) e = ap (λ b. b || list_any (λ c. is_named name (held_at hs c)) above) (there name hs cs c e) ∙ ap (λ b. is_named name (of_class gives (slice_get cs c)) || b) (any_each name hs cs above e)

  pub above_are : (name : List ℕ) (hs : List (List (List ℕ))) (cs : List (ClassDecl ℕ)) (c : ℕ) (above : List ℕ) → AreHeld gives hs cs → above ≡ drop 1 (chain cs c)
      → is_named name (names_above hs above) ≡ is_named name (of_bases cs gives c)
  above_are name hs cs c above e a =
      sym (any_above name hs above)
      ∙ any_each name hs cs above e.each
      ∙ any_flat (same name) (λ b. of_class gives (slice_get cs b)) above
      ∙ ap (λ bs. is_named name (flat_map (λ b. of_class gives (slice_get cs b)) bs)) a

-- ---- faults by names that are the same

module _ (vs ms us ns : List (List ℕ)) (v : (name : List ℕ) → is_named name vs ≡ is_named name us) (m : (name : List ℕ) → is_named name ms ≡ is_named name ns) where
  variables_same : (ws : List Written) → flat_map (variable_above vs ms) (map (λ w. w.name) ws) ≡ flat_map (variable_of_base us ns) ws
  variables_same [] = refl
  variables_same (w ∷ ws) =
      ap (λ fs. fs ++ flat_map (variable_above vs ms) (map (λ w. w.name) ws)) (ap (λ b. when (b || is_named w.name.text ms) E04 w.name.line) (v w.name.text) ∙ ap (λ b. when (is_named w.name.text us || b) E04 w.name.line) (m w.name.text))
      ∙ ap (λ fs. variable_of_base us ns w ++ fs) (variables_same ws)

  methods_same : (xs : List Name) → flat_map (method_named_as_variable vs) xs ≡ flat_map (method_named_as_variable us) xs
  methods_same [] = refl
  methods_same (x ∷ xs) = ap (λ fs. fs ++ flat_map (method_named_as_variable vs) xs) (ap (λ b. when b E04 x.line) (v x.text)) ∙ ap (λ fs. method_named_as_variable us x ++ fs) (methods_same xs)

-- what a class breaks, by tables and by its unit
pub whole : (names : MemberNames) (all : List (ClassDecl ℕ)) (c : ℕ) (d : ClassDecl ℕ) (above : List ℕ) → Knows names all → above ≡ drop 1 (chain all c)
    → least (space_faults (member_names d.members)
    ++ flat_map (variable_above (names_above names.variables.items above) (names_above names.methods.items above)) (map (λ w. w.name) (own_variables d.members))
    ++ flat_map (method_named_as_variable (names_above names.variables.items above)) (map (λ m. m.name) (methods_in d.members)))
    ≡ least (member_name_faults all c d)
unfolding member_name_faults
whole names all c d above k a =
    let v : (name : List ℕ) → is_named name (names_above names.variables.items above) ≡ is_named name (of_bases all variable_texts c) = λ name. above_are variable_texts name names.variables.items all c above k.variables a in
    let m : (name : List ℕ) → is_named name (names_above names.methods.items above) ≡ is_named name (of_bases all method_names c) = λ name. above_are method_names name names.methods.items all c above k.methods a in
    ap (λ fs. least (space_faults (member_names d.members) ++ fs ++ flat_map (method_named_as_variable (names_above names.variables.items above)) (map (λ m. m.name) (methods_in d.members))))
    (variables_same _ _ _ _ v m (own_variables d.members))
    ∙ ap (λ fs. least (space_faults (member_names d.members) ++ flat_map (variable_of_base (of_bases all variable_texts c) (of_bases all method_names c)) (own_variables d.members) ++ fs))
    (methods_same _ _ _ _ v m (map (λ m. m.name) (methods_in d.members)))

-- ---- names that are lent, one by one

pub lent_are : (gives : Name → Faults) (ns : List (Bor Name)) → flat_map (λ n. gives n.now) ns ≡ flat_map gives (names_of ns)
lent_are gives [] = refl
lent_are gives (n ∷ ns) = ap (λ fs. gives n.now ++ fs) (lent_are gives ns)
