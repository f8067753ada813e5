-- In a unit that breaks no rule, where no class is its own base and no constant of a class needs itself, all constants of classes are told.
use Rattle.std.proofs.Common.{◌≡◌, ℕ, zero, suc, Bool, true, false, List, [], ◌∷◌, length, Option, Some, None, refl, sym, ap, ◌∙◌, subst, ◌⊎◌, inl, inr}
use Rattle.std.specs.Prelude.{if◌then◌else◌, filter, slice_get, nat_eq}
use Rattle.std.specs.Option.{is_some}
use Rattle.std.specs.List.{list_any}
use Rattle.std.proofs.lemmas.Bool.{eqb-true, eq-eqb}
use Rattle.std.proofs.lemmas.Option.{slice_get_within}
use Rattle.plc_text.specs.Words.{same}
use Rattle.st_tree.specs.declared.declaration.ClassDecl.{ClassDecl}
use Rattle.st_tree.specs.declared.unit.Decl.{Decl}
use Rattle.st_rules.specs.declared.names.DeclaredVariable.{DeclaredVariable}
use Rattle.st_rules.specs.Chains.{is_among, climb, leads_within, Leads, itself, onward}
use Rattle.st_rules.specs.Classes.{classes_in, base_of, chain}
use Rattle.st_rules.specs.Expressions.{value_target}
use Rattle.st_rules.specs.Scope.{Scope, variable_named, variables_of, is_inherited, global_named}
use Rattle.st_rules.proofs.Booleans.{either, or-first, false≢true, none≢some, some-same}
use Rattle.st_rules.proofs.ClassLaws.{bases_within}
use Rattle.st_rules.proofs.LeadsLaws.{IsWithin, leads_through}
use Rattle.st_unit_rules.specs.declared_names.Constants.{is_told, is_constant_meaning}
use Rattle.st_unit_rules.specs.declared_names.UnitNames.{unit_names, unit_scope, class_scope, class_declared}
use Rattle.st_unit_rules.specs.declared_names.Variables.{Written, sections_written, sections_in, constant_target, constant_of}
use Rattle.st_unit_rules.specs.DeclarationRules.{class_home}
use Rattle.st_unit_rules.specs.VariableRules.{sections_faults}
use Rattle.resolution_order.specs.told_laws.ToldLaws.{Every, TellsKinds}
use Rattle.accepted_texts.proofs.unfolding_laws.ListLaws.{There}
use Rattle.accepted_texts.proofs.unfolding_laws.ChainLaws.{chain_there}
use Rattle.accepted_texts.proofs.unfolding_laws.DeclaredLaws.{members_are}
use Rattle.st_unit_rules.specs.Cycles.{needs_inner}
use Rattle.accepted_texts.proofs.told_units.Acyclic.{all_of}
use Rattle.accepted_texts.specs.told_units.Told.{IsToldName}
use Rattle.accepted_texts.proofs.told_units.Names.{IsToldType}
use Rattle.accepted_texts.specs.told_units.Told.{HasValue}
use Rattle.accepted_texts.proofs.told_units.Meant.{ClassesHave, name-means}
use Rattle.accepted_texts.proofs.told_units.Inner.{AreRows, IsWellWritten, IsToldWritten, members-rows, constants-told}
use Rattle.accepted_texts.proofs.told_units.Sections.{sections-good}
use Rattle.accepted_texts.proofs.told_units.ScopeLaws.{values-have-types}

-- ---- look-ups

none-filtered : (p : DeclaredVariable → Bool) (name : List ℕ) (vs : List DeclaredVariable) → variable_named name vs ≡ None → variable_named name (filter p vs) ≡ None
none-filtered p name [] e = refl
none-filtered p name (v ∷ vs) e = by (none-filtered p name vs) (same v.name name) refl e (p v)
  where
    by : (variable_named name vs ≡ None → variable_named name (filter p vs) ≡ None) → (b : Bool) → same v.name name ≡ b → (if b then Some v else variable_named name vs) ≡ None → (q : Bool) → variable_named name (if q then v ∷ filter p vs else filter p vs) ≡ None
    by later true t h q = absurd (none≢some (sym h))
    by later false t h true = ap (λ b. if b then Some v else variable_named name (filter p vs)) t ∙ later h
    by later false t h false = later h

every-named : (name : List ℕ) (vs : List DeclaredVariable) (v : DeclaredVariable) → Every HasValue vs → variable_named name vs ≡ Some v → HasValue v
every-named name [] v h e = absurd (none≢some e)
every-named name (x ∷ vs) v h e = by (every-named name vs v h.1) (same x.name name) e
  where
    by : (variable_named name vs ≡ Some v → HasValue v) → (b : Bool) → (if b then Some x else variable_named name vs) ≡ Some v → HasValue v
    by later true q = subst HasValue (some-same q) h.0
    by later false q = later q

pub every-filtered : (P : DeclaredVariable → Type 0) (p : DeclaredVariable → Bool) (vs : List DeclaredVariable) → Every P vs → Every P (filter p vs)
every-filtered P p [] h = tt
every-filtered P p (v ∷ vs) h = by (every-filtered P p vs h.1) (p v)
  where
    by : Every P (filter p vs) → (b : Bool) → Every P (if b then v ∷ filter p vs else filter p vs)
    by later true = (h.0, later)
    by later false = later

every-among : (P : ℕ → Type 0) (cs : List ℕ) (d : ℕ) → Every P cs → is_among d cs ≡ true → P d
every-among P [] d h m = absurd (false≢true m)
every-among P (c ∷ cs) d h m = elim (either (nat_eq d c) (is_among d cs) m) [
  | inl q ↦ subst P (sym (eqb-true d c q)) h.0
  | inr q ↦ every-among P cs d h.1 q
]

rows-values : (s : Scope) (ws : List Written) (vs : List DeclaredVariable) → AreRows s ws vs → Every (IsToldWritten s) ws → Every HasValue vs
rows-values s [] [] r h = tt
rows-values s (w ∷ ws) (v ∷ vs) r h = (λ c. let q = sym (r.0).1 ∙ c in ap is_told ((r.0).3 q) ∙ there (constant_of s w) (h.0 q).1, rows-values s ws vs r.1 h.1)
  where
    there : (o : Option _) → is_some o ≡ true → is_told (constant_target o) ≡ true
    there None e = absurd (false≢true e)
    there (Some z) e = refl
rows-values s [] (v ∷ vs) r h = absurd r
rows-values s (w ∷ ws) [] r h = absurd r

-- ---- bases

abbrev pub one : Option ℕ → List ℕ
one None = []
one (Some b) = b ∷ []

abbrev pub bases : (ℕ → Option ℕ) → ℕ → List ℕ
bases above c = one (above c)

to-base : (above : ℕ → Option ℕ) (c b : ℕ) → above c ≡ Some b → is_among b (bases above c) ≡ true
to-base above c b e = ap (λ o. is_among b (one o)) e ∙ or-first (nat_eq b b) false (eq-eqb b b refl)

pub from-base : (o : Option ℕ) (b : ℕ) → is_among b (one o) ≡ true → o ≡ Some b
from-base None b m = absurd (false≢true m)
from-base (Some x) b m = elim (either (nat_eq b x) false m) [ inl q ↦ ap Some (sym (eqb-true b x q)) | inr q ↦ absurd (false≢true q) ]

climb-leads : (above : ℕ → Option ℕ) (c n : ℕ) (held : List ℕ) (o : Option ℕ) → ((b : ℕ) → o ≡ Some b → Leads (bases above) c b) → Every (Leads (bases above) c) (climb above n held o)
climb-leads above c zero held o h = tt
climb-leads above c (suc n) held None h = tt
climb-leads above c (suc n) held (Some d) h =
    by (climb-leads above c n (d ∷ held) (above d) (λ b e. leads_through (bases above) c d b (h d refl) (onward d b b (to-base above d b e) (itself b)))) (is_among d held)
  where
    by : Every (Leads (bases above) c) (climb above n (d ∷ held) (above d)) → (b : Bool) → Every (Leads (bases above) c) (if b then [] else d ∷ climb above n (d ∷ held) (above d))
    by k true = tt
    by k false = (h d refl, k)

chain-leads : (classes : List (ClassDecl ℕ)) (c : ℕ) → Every (Leads (bases (base_of classes)) c) (chain classes c)
unfolding chain
chain-leads classes c = climb-leads (base_of classes) c (suc (length classes)) [] (Some c) (λ b e. subst (λ x. Leads (bases (base_of classes)) c x) (some-same e) (itself c))

module _ (decls : List (Decl ℕ))
    (types : (name : List ℕ) → IsToldType (unit_scope decls (unit_names decls)) name)
    (globals : (name : List ℕ) → is_constant_meaning (unit_scope decls (unit_names decls)) (global_named name (unit_names decls).globals) ≡ true → is_told (value_target (global_named name (unit_names decls).globals)) ≡ true)
    (tells : TellsKinds (unit_names decls))
  where
    abbrev pub seen : ℕ → Bool → List DeclaredVariable → Scope
    seen c m vs = record (unit_scope decls (unit_names decls)) { class = Some c; in_method = m; locals = vs }

    abbrev pub IsToldClass : ℕ → Type 0
    IsToldClass c = (d : ClassDecl ℕ) → slice_get (classes_in decls) c ≡ Some d → Every (IsToldWritten (class_scope decls (unit_names decls) c)) (sections_written (sections_in d.members))

    -- what the rules of a class say of its constants
    pub record IsGoodClass (c : ℕ) (d : ClassDecl ℕ) : Type 0 where
      pub rules : sections_faults (class_scope decls (unit_names decls) c) (class_home decls d.sort) (sections_in d.members) ≡ []
      pub well : Every (IsWellWritten (class_scope decls (unit_names decls) c)) (sections_written (sections_in d.members))
      pub free : (i : ℕ) → needs_inner (sections_written (sections_in d.members)) i ≡ false

    class-rows : (c : ℕ) (d : ClassDecl ℕ) → AreRows (class_scope decls (unit_names decls) c) (sections_written (sections_in d.members)) (class_declared decls (unit_names decls) c d).variables
    class-rows c d = members-rows (class_scope decls (unit_names decls) c) _ _ (sections_written (sections_in d.members))

    class-values : (c : ℕ) (d : ClassDecl ℕ) (m : Bool) (vs : List DeclaredVariable) (k : ℕ) → slice_get (classes_in decls) k ≡ Some d → IsToldClass k → Every HasValue (variables_of (seen c m vs) k)
    class-values c d m vs k e t = subst (Every HasValue) (sym (members_are decls [] k d e)) (rows-values (class_scope decls (unit_names decls) k) (sections_written (sections_in d.members)) _ (class-rows k d) (t d e))

    split : (c d : ℕ) → Leads (bases (base_of (classes_in decls))) c d → (c ≡ d) ⊎ ((b : ℕ) × (is_among b (bases (base_of (classes_in decls)) c) ≡ true) × Leads (bases (base_of (classes_in decls))) b d)
    split _ _ (itself c) = inl refl
    split _ _ (onward c b d m l) = inr (b, m, l)

    module _ (good : (c : ℕ) (d : ClassDecl ℕ) → slice_get (classes_in decls) c ≡ Some d → IsGoodClass c d)
        (free : (c : ℕ) → list_any (λ k. leads_within (bases (base_of (classes_in decls))) (length (classes_in decls)) k c) (bases (base_of (classes_in decls)) c) ≡ false)
      where
        -- a class whose bases are told
        class-step : (c : ℕ) → ((b : ℕ) → is_among b (bases (base_of (classes_in decls)) c) ≡ true → (d : ℕ) → Leads (bases (base_of (classes_in decls))) b d → IsToldClass d) → IsToldClass c
        class-step c h d e =
            let s = class_scope decls (unit_names decls) c in
            let g = good c d e in
            let ws = sections_written (sections_in d.members) in
            let values = values-have-types s tells tt in
            constants-told s ws (class_declared decls (unit_names decls) c d).variables (class-rows c d) types values meant
            (sections-good s values (class_home decls d.sort) (sections_in d.members) g.rules) g.well g.free
          where
            scope : Scope
            scope = class_scope decls (unit_names decls) c

            own : (name : List ℕ) → ((v : DeclaredVariable) → variable_named name (class_declared decls (unit_names decls) c d).variables ≡ Some v → HasValue v) → (k : ℕ) → Some c ≡ Some k → (v : DeclaredVariable) → variable_named name (variables_of (class_scope decls (unit_names decls) c) k) ≡ Some v → HasValue v
            own name o k q v f = o v (sym (ap (variable_named name) (ap (variables_of (class_scope decls (unit_names decls) c)) (sym (some-same q)) ∙ members_are decls [] c d e)) ∙ f)

            told-above : (b : ℕ) → Leads (bases (base_of (classes_in decls))) c b → (c ≡ b) ⊎ IsToldClass b
            told-above b l = elim (split c b l) [ inl q ↦ inl q | inr r ↦ inr (h r.0 r.1 b r.2) ]

            at-base : (name : List ℕ) (b : ℕ) → There (ClassDecl ℕ) (classes_in decls) b → (c ≡ b) ⊎ IsToldClass b → variable_named name (variables_of (class_scope decls (unit_names decls) c) c) ≡ None
                → (v : DeclaredVariable) → variable_named name (filter is_inherited (variables_of (class_scope decls (unit_names decls) c) b)) ≡ Some v → HasValue v
            at-base name b t (inl q) n v f =
                absurd (none≢some (sym (none-filtered is_inherited name (variables_of (class_scope decls (unit_names decls) c) c) n) ∙ ap (λ x. variable_named name (filter is_inherited (variables_of (class_scope decls (unit_names decls) c) x))) q ∙ f))
            at-base name b t (inr q) n v f =
                every-named name (filter is_inherited (variables_of (class_scope decls (unit_names decls) c) b)) v
                (every-filtered HasValue is_inherited (variables_of (class_scope decls (unit_names decls) c) b) (class-values c t.item false [] b t.there q)) f

            above : (name : List ℕ) (k : ℕ) → Some c ≡ Some k → (b : ℕ) → is_among b (chain (classes_in decls) k) ≡ true → variable_named name (variables_of (class_scope decls (unit_names decls) c) k) ≡ None
                → (v : DeclaredVariable) → variable_named name (filter is_inherited (variables_of (class_scope decls (unit_names decls) c) b)) ≡ Some v → HasValue v
            above name k q b m n v f =
                let w = sym (some-same q) in
                let m' = ap (λ x. is_among b (chain (classes_in decls) x)) (sym w) ∙ m in
                at-base name b (every-among (There (ClassDecl ℕ) (classes_in decls)) (chain (classes_in decls) c) b (chain_there (classes_in decls) c (slice_get_within (classes_in decls) c d e)) m')
                (told-above b (every-among (Leads (bases (base_of (classes_in decls))) c) (chain (classes_in decls) c) b (chain-leads (classes_in decls) c) m'))
                (ap (λ x. variable_named name (variables_of (class_scope decls (unit_names decls) c) x)) (sym w) ∙ n) v f

            meant : (name : List ℕ) → ((v : DeclaredVariable) → variable_named name (class_declared decls (unit_names decls) c d).variables ≡ Some v → HasValue v) → IsToldName (class_scope decls (unit_names decls) c) name
            meant name o = name-means (class_scope decls (unit_names decls) c) globals name (λ v q. absurd (none≢some q)) (record { own = own name o; bases = above name })

        within : IsWithin (bases (base_of (classes_in decls))) (length (classes_in decls))
        within = record { within = λ i k h. (bases_within (classes_in decls)).within i k (from-base (base_of (classes_in decls) i) k h) }

        -- all classes
        pub classes-told : (c : ℕ) → IsToldClass c
        classes-told c =
            all_of (bases (base_of (classes_in decls))) (length (classes_in decls)) within free (λ k. (d : ℕ) → Leads (bases (base_of (classes_in decls))) k d → IsToldClass d)
            (λ k h d l. by k h d (split k d l)) c c (itself c)
          where
            by : (k : ℕ) → ((b : ℕ) → is_among b (bases (base_of (classes_in decls)) k) ≡ true → (d : ℕ) → Leads (bases (base_of (classes_in decls))) b d → IsToldClass d) → (d : ℕ)
                → (k ≡ d) ⊎ ((b : ℕ) × (is_among b (bases (base_of (classes_in decls)) k) ≡ true) × Leads (bases (base_of (classes_in decls))) b d) → IsToldClass d
            by k h d (inl q) = subst IsToldClass q (class-step k h)
            by k h d (inr r) = h r.0 r.1 d r.2

        -- what a scope within a class sees of classes
        pub classes-have : (c : ℕ) (d : ClassDecl ℕ) → slice_get (classes_in decls) c ≡ Some d → (m : Bool) (vs : List DeclaredVariable) (name : List ℕ) → ClassesHave (seen c m vs) globals (Some c) name
        classes-have c d e m vs name = record {
          own = λ k q v f. every-named name (variables_of (seen c m vs) k) v (values k (subst (λ x. There (ClassDecl ℕ) (classes_in decls) x) (some-same q) (record { item = d; there = e }))) f;
          bases = λ k q b a n v f.
              every-named name (filter is_inherited (variables_of (seen c m vs) b)) v
              (every-filtered HasValue is_inherited (variables_of (seen c m vs) b)
              (values b (every-among (There (ClassDecl ℕ) (classes_in decls)) (chain (classes_in decls) c) b (chain_there (classes_in decls) c (slice_get_within (classes_in decls) c d e)) (ap (λ x. is_among b (chain (classes_in decls) x)) (some-same q) ∙ a)))) f;
        }
          where
            values : (k : ℕ) → There (ClassDecl ℕ) (classes_in decls) k → Every HasValue (variables_of (seen c m vs) k)
            values k t = class-values c t.item m vs k t.there (classes-told k)
