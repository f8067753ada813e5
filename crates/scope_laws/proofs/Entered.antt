-- What a call of a function or a method may enter takes what is declared and gives the result that is declared.
use Rattle.std.proofs.Common.{◌≡◌, ◌≤◌, ◌<◌, ℕ, Bool, true, false, List, [], ◌∷◌, length, Option, Some, None, refl, sym, ap, ◌∙◌, subst, inl, inr, arith, append-nil}
use Rattle.std.specs.Prelude.{not, nat_eq, option_map, option_and_then, slice_get}
use Rattle.std.proofs.lemmas.Option.{slice_get-map, slice_get_within}
use Rattle.st_rules.specs.Named.{first_place}
use Rattle.std.proofs.lemmas.Bool.{eq-eqb}
use Rattle.st_unit_rules.specs.declared_names.WrittenTypes.{type_written}
use Rattle.plc_text.specs.Words.{same}
use Rattle.st_types.specs.declared.st_type.StType.TheVariants as type
use Rattle.st_tree.specs.declared.declaration.ClassDecl.{ClassDecl}
use Rattle.st_tree.specs.declared.declaration.FunctionDecl.{FunctionDecl}
use Rattle.st_tree.specs.declared.declaration.InterfaceDecl.{InterfaceDecl}
use Rattle.st_tree.specs.declared.declaration.Method.{Method}
use Rattle.st_tree.specs.declared.program.Note.{Note}
use Rattle.st_tree.specs.declared.program.Program.{Program as Checked}
use Rattle.st_tree.specs.declared.unit.Decl.{Decl}
use Rattle.st_tree.specs.Statement.{statements_of, no_statements}
use Rattle.st_rules.specs.declared.ids.MethodId.{MethodId}
use Rattle.st_rules.specs.declared.ids.PrototypeId.{PrototypeId}
use Rattle.st_rules.specs.declared.names.DeclaredRoutine.{DeclaredRoutine}
use Rattle.st_rules.specs.declared.names.DeclaredVariable.{DeclaredVariable}
use Rattle.st_rules.specs.declared.signature.ResultType.{ResultType}
use Rattle.st_rules.specs.declared.signature.Signature.{Signature}
use Rattle.st_rules.specs.Chains.{is_among, IsAbove, directly, further, nearest, ◌or_else◌}
use Rattle.st_rules.specs.Classes.{classes_in, base_of, chain, lookup, own_method, method_at}
use Rattle.st_rules.specs.Classes as rules
use Rattle.st_rules.specs.ClassRules.{class_faults}
use Rattle.st_rules.specs.Interfaces.{interfaces_in, interface_lookup}
use Rattle.st_rules.specs.Scope.{method_routine, prototype_routine}
use Rattle.st_rules.specs.Signatures.{differ, same_signature, signature_of, prototype_signature}
use Rattle.st_rules.proofs.Booleans.{none≢some, some-same, or-first, or-second}
use Rattle.st_rules.proofs.ClassLaws.{bases_within, chain_law}
use Rattle.st_unit_rules.specs.declared_names.Declarations.{functions_in}
use Rattle.st_unit_rules.specs.declared_names.UnitNames.{unit_names, unit_scope, method_scope, function_scope, prototype_scope, routine_declared, method_declared, prototype_declared}
use Rattle.st_unit_rules.specs.Checked.{Each, TypedClass, TypedFunction, IsChecked}
use Rattle.st_unit_rules.specs.DeclarationRules.{signatures, signature_in}
use Rattle.st_unit_rules.specs.UnitRefusal.{BreaksNothing}
use Rattle.st_unit_rules.specs.Worth.{Worth, same_worth}
use Rattle.st_values.specs.Program as seen
use Rattle.st_values.specs.Program.{Parameter, Routine, conforms}
use Rattle.st_values.specs.View as view
use Rattle.st_values.specs.View.{method_of, function_of, program_of}
use Rattle.st_meaning.specs.st_frame.Footprint.{Enters, by_number, by_class, by_text}
use Rattle.st_meaning.specs.st_frame.Use.{Called, the_function, a_method_of, a_method_from, parameters_of, signed, signatures_at, interface_parameters, called_parameters}
use Rattle.st_meaning.specs.st_frame.Promise.Calls.{IsLiving, Answers, most_parameters}
use Rattle.accepted_texts.specs.formed_units.Formed.{IsFormed}
use Rattle.accepted_texts.specs.told_units.Told.{AllIsTold}
use Rattle.accepted_texts.proofs.unfolding_laws.ListLaws.{There, there_below, if_there, each_get, from_long}
use Rattle.accepted_texts.proofs.unfolding_laws.ChainLaws.{chain_same}
use Rattle.class_laws.proofs.Above.{at_number, only_one, there}
use Rattle.class_laws.proofs.Overrides.{chain_found}
use Rattle.class_laws.proofs.Signed.{parameters_same}
use Rattle.place_laws.specs.Agrees.{FillsBy, TakesBy, Gives, ToldOutcome, Runs}
use Rattle.scope_laws.specs.Agreement.{MeetsInterfaces}
use Rattle.name_laws.proofs.Found.{same_is, is_same, MethodShown, own_found, LookedUp, looked_up, PrototypeShown, PrototypeFound, prototype_found}
use Rattle.name_laws.proofs.Routines.{declared_takes, routine_takes, few_parameters, told_result, routine_gives}
use Rattle.scope_laws.proofs.Texts.{method_text, function_text, prototype_text, SameParameter, AlikeRoutines, alike_itself, alike_through, texts_alike, value_in, method_there, prototype_there, method_signature, interface_signature}

-- ---- one routine for another

module _ (p : seen.Program) where
  fills_same : (o : Option Routine) (v w : DeclaredVariable) (q : Parameter) → SameParameter v w → FillsBy p o v q → FillsBy p o w q
  fills_same None v w q s h = record { kind = h.kind; told = sym s.kind ∙ h.told; sort = h.sort ∙ s.sort }
  fills_same (Some x) v w q s h = record { declares = record { kind = h.declares.kind; told = sym s.kind ∙ h.declares.told; sort = h.declares.sort ∙ s.sort }; plain = sym s.plain ∙ h.plain; there = h.there }

  pub takes_same : (o : Option Routine) (vs ws : List DeclaredVariable) (qs : List Parameter) → Each SameParameter vs ws → TakesBy p o vs qs → TakesBy p o ws qs
  takes_same o [] [] qs s h = tt
  takes_same o [] (w ∷ ws) qs s h = absurd s
  takes_same o (v ∷ vs) [] qs s h = absurd s
  takes_same o (v ∷ vs) (w ∷ ws) [] s h = absurd h
  takes_same o (v ∷ vs) (w ∷ ws) (q ∷ qs) s h = (fills_same o v w q s.0 h.0, takes_same o vs ws qs s.1 h.1)

  -- a routine that has the parameters that are called
  pub answers : (k : Called) (x : Routine) (vs : List DeclaredVariable) (o : ResultType) → x.parameters ≡ called_parameters p (Some k) → length x.parameters ≤ most_parameters → TakesBy p (Some x) vs x.parameters → Gives x o
      → Answers p k (λ y. TakesBy p (Some y) vs (called_parameters p (Some k)) × Gives y o) x
  answers k x vs o e f t g = record { rest = []; begins = e ∙ sym (append-nil (called_parameters p (Some k))); few = f; suits = (subst (TakesBy p (Some x) vs) e t, g) }

  -- what holds of a routine and what it declares
  pub record RoutineFacts (x : Routine) (r : DeclaredRoutine) : Type 0 where
    pub takes : TakesBy p None r.parameters x.parameters
    pub fills : TakesBy p (Some x) r.parameters x.parameters
    pub gives : Gives x r.outcome
    pub told : ToldOutcome r.outcome
    pub few : length x.parameters ≤ most_parameters

  -- by a routine that is alike
  pub enters_alike : (k : Called) (x : Routine) (r q : DeclaredRoutine) → RoutineFacts x r → AlikeRoutines r q → x.parameters ≡ called_parameters p (Some k) → Answers p k (λ y. TakesBy p (Some y) q.parameters (called_parameters p (Some k)) × Gives y q.outcome) x
  enters_alike k x r q f a e = answers k x q.parameters q.outcome e f.few (takes_same (Some x) r.parameters q.parameters x.parameters a.parameters f.fills) (subst (Gives x) a.outcome f.gives)

-- the parameters of a method of an interface
parameters_signed : (o : Option seen.Interface) (name : List ℕ) → interface_parameters o name ≡ signed (signatures_at o) name
parameters_signed None name = refl
parameters_signed (Some i) name = refl

-- signatures that do not differ
pub not_differ : (a b : Signature Worth) → differ same_worth (Some a) (Some b) ≡ false → same_signature same_worth a b ≡ true
not_differ a b h = by (same_signature same_worth a b) h
  where
    by : (x : Bool) → not x ≡ false → x ≡ true
    by true e = refl
    by false e = cc

-- ---- in a unit

module _ (most : ℕ) (decls : List (Decl ℕ)) (p : Checked) (checked : IsChecked decls p) (well : IsFormed most decls) (good : BreaksNothing decls) (all : AllIsTold decls) where
  abbrev pp : seen.Program
  pp = program_of p

  abbrev xs : List (ClassDecl ℕ)
  xs = classes_in decls

  -- ---- functions

  function_facts : (k : ℕ) (f : FunctionDecl ℕ) (y : FunctionDecl Note) → slice_get (functions_in decls) k ≡ Some f → TypedFunction decls f y → RoutineFacts pp (function_of y) (routine_declared (unit_scope decls (unit_names decls)) f.name.text [] f.result f.sections)
  unfolding function_scope
  function_facts k f y e h =
      let s = function_scope decls (unit_names decls) f in
      let t = function_text most decls well good all k f e in
      record {
        takes = declared_takes pp s None y.line y.name.text f.name.text f.result y.result f.sections y.sections (statements_of y.body) t.settled t.told_all t.outcome t.inside h.result h.sections t.few;
        fills = routine_takes pp s None y.line y.name.text f.name.text f.result y.result f.sections y.sections (statements_of y.body) t.settled t.told_all t.outcome t.inside h.result h.sections t.few;
        gives = routine_gives pp s None y.line y.name.text f.name.text f.result y.result f.sections y.sections (statements_of y.body) t.settled t.told_all t.outcome t.inside h.result h.sections t.few;
        told = told_result pp s None y.line y.name.text f.name.text f.result y.result f.sections y.sections (statements_of y.body) t.settled t.told_all t.outcome t.inside h.result h.sections t.few;
        few = few_parameters pp s None y.line y.name.text f.name.text f.result y.result f.sections y.sections (statements_of y.body) t.settled t.told_all t.outcome t.inside h.result h.sections t.few;
      }

  pub function_runs : (k : ℕ) (f : FunctionDecl ℕ) (r : DeclaredRoutine) → slice_get (functions_in decls) k ≡ Some f → r ≡ routine_declared (unit_scope decls (unit_names decls)) f.name.text [] f.result f.sections → Runs pp (the_function k) r.parameters r.outcome
  function_runs k f r e q =
      let y = if_there (TypedFunction decls) (slice_get (functions_in decls) k) (slice_get p.functions k) f e (each_get (TypedFunction decls) (functions_in decls) p.functions k checked.functions) in
      let at : slice_get pp.functions k ≡ Some (function_of y.0) = slice_get-map function_of p.functions k ∙ ap (option_map function_of) y.1 in
      let d = routine_declared (unit_scope decls (unit_names decls)) f.name.text [] f.result f.sections in
      let facts = function_facts k f y.0 e y.2 in
      let called : called_parameters pp (Some (the_function k)) ≡ (function_of y.0).parameters = ap parameters_of at in
      subst (λ (z : DeclaredRoutine). Runs pp (the_function k) z.parameters z.outcome) (sym q)
      (record {
        found = (function_of y.0, at);
        told = facts.told;
        declared = subst (TakesBy pp None d.parameters) (sym called) facts.takes;
        enters = enters_function k (function_of y.0) d at facts (sym called);
      })
    where
      enters_function : (k : ℕ) (z : Routine) (d : DeclaredRoutine) → slice_get (program_of p).functions k ≡ Some z → RoutineFacts (program_of p) z d → z.parameters ≡ called_parameters (program_of p) (Some (the_function k)) → (x : Routine) (n : Enters (program_of p) (the_function k) x) → IsLiving (program_of p) n
          → Answers (program_of p) (the_function k) (λ y. TakesBy (program_of p) (Some y) d.parameters (called_parameters (program_of p) (Some (the_function k))) × Gives y d.outcome) x
      enters_function k z d at facts same x (by_number e) l =
          subst (Answers (program_of p) (the_function k) (λ y. TakesBy (program_of p) (Some y) d.parameters (called_parameters (program_of p) (Some (the_function k))) × Gives y d.outcome)) (some-same (sym at ∙ e))
          (answers (program_of p) (the_function k) z d.parameters d.outcome same facts.few facts.fills facts.gives)

  -- ---- methods

  abbrev Declared : MethodId → Method ℕ → DeclaredRoutine
  Declared id m = method_declared decls (unit_names decls) id.class m

  method_facts : (id : MethodId) (x : MethodShown decls p checked id) → RoutineFacts pp (method_of id.class x.shown) (Declared id x.method)
  unfolding method_scope
  method_facts id x =
      let m = x.method in
      let y = x.shown in
      let h = x.typed in
      let s = method_scope decls (unit_names decls) id.class m in
      let t = method_text most decls well good all id.class id.method x.class m x.class_there x.there in
      record {
        takes = declared_takes pp s (Some id.class) y.line y.name.text m.name.text m.result y.result m.sections y.sections (statements_of y.body) t.settled t.told_all t.outcome t.inside h.result h.sections t.few;
        fills = routine_takes pp s (Some id.class) y.line y.name.text m.name.text m.result y.result m.sections y.sections (statements_of y.body) t.settled t.told_all t.outcome t.inside h.result h.sections t.few;
        gives = routine_gives pp s (Some id.class) y.line y.name.text m.name.text m.result y.result m.sections y.sections (statements_of y.body) t.settled t.told_all t.outcome t.inside h.result h.sections t.few;
        told = told_result pp s (Some id.class) y.line y.name.text m.name.text m.result y.result m.sections y.sections (statements_of y.body) t.settled t.told_all t.outcome t.inside h.result h.sections t.few;
        few = few_parameters pp s (Some id.class) y.line y.name.text m.name.text m.result y.result m.sections y.sections (statements_of y.body) t.settled t.told_all t.outcome t.inside h.result h.sections t.few;
      }

  -- what stands at the number of a method
  pub record IsAt (id : MethodId) (r : DeclaredRoutine) (qs : List Parameter) : Type 0 where
    pub declared : method_routine (unit_scope decls (unit_names decls)) id ≡ Some r
    pub shown : option_map (λ (y : Method Note). (method_of id.class y).parameters) (method_at p.classes id) ≡ Some qs

  at_shown : (id : MethodId) (x : MethodShown decls p checked id) → IsAt id (Declared id x.method) (method_of id.class x.shown).parameters
  at_shown id x = record {
    declared = method_there decls (unit_scope decls (unit_names decls)) refl id x.class x.method x.class_there x.there;
    shown = ap (option_map (λ (y : Method Note). (method_of id.class y).parameters)) x.shown_there;
  }

  -- two methods that are alike
  pub record AlikeAt (i j : MethodId) : Type 0 where
    pub first : DeclaredRoutine
    pub second : DeclaredRoutine
    pub parameters : List Parameter
    pub first_at : IsAt i first parameters
    pub second_at : IsAt j second parameters
    pub alike : AlikeRoutines first second

  through_alike : (i j k : MethodId) → AlikeAt i j → AlikeAt j k → AlikeAt i k
  through_alike i j k a b =
      let r : a.second ≡ b.first = some-same (sym a.second_at.declared ∙ b.first_at.declared) in
      let q : a.parameters ≡ b.parameters = some-same (sym a.second_at.shown ∙ b.first_at.shown) in
      record {
        first = a.first;
        second = b.second;
        parameters = a.parameters;
        first_at = a.first_at;
        second_at = subst (IsAt k b.second) (sym q) b.second_at;
        alike = alike_through a.first b.first b.second (subst (AlikeRoutines a.first) r a.alike) b.alike;
      }

  -- methods of equal signature
  methods_alike : (i j : MethodId) (x : MethodShown decls p checked i) (z : MethodShown decls p checked j) → differ same_worth (signature_of (signatures decls) i) (signature_of (signatures decls) j) ≡ false → AlikeAt i j
  unfolding method_scope
  methods_alike i j x z h =
      let s = method_scope decls (unit_names decls) i.class x.method in
      let t = method_scope decls (unit_names decls) j.class z.method in
      let a = signature_in decls s x.method.result x.method.sections in
      let b = signature_in decls t z.method.result z.method.sections in
      let d : differ same_worth (Some a) (Some b) ≡ false =
      ap (λ o. differ same_worth o (Some b)) (sym (method_signature decls i x.class x.method x.class_there x.there)) ∙ (ap (λ o. differ same_worth (signature_of (signatures decls) i) o) (sym (method_signature decls j z.class z.method z.class_there z.there)) ∙ h) in
      let e = not_differ a b d in
      let texts = texts_alike s t (value_in decls s) (value_in decls t) x.method.name.text z.method.name.text x.method.result z.method.result x.method.sections z.method.sections
      (method_text most decls well good all i.class i.method x.class x.method x.class_there x.there) (method_text most decls well good all j.class j.method z.class z.method z.class_there z.there) e in
      let same_ones : (method_of i.class x.shown).parameters ≡ (method_of j.class z.shown).parameters =
      parameters_same same_worth (type_written s) (type_written t) (value_in decls s) (value_in decls t) s t x.shown.name.text z.shown.name.text x.method.result z.method.result x.shown.result z.shown.result x.method.sections z.method.sections x.shown.sections z.shown.sections
      x.typed.result z.typed.result x.typed.sections z.typed.sections e in
      let at = at_shown j z in
      record {
        first = Declared i x.method;
        second = Declared j z.method;
        parameters = (method_of i.class x.shown).parameters;
        first_at = at_shown i x;
        second_at = subst (IsAt j (Declared j z.method)) (sym same_ones) at;
        alike = record { parameters = texts.parameters; outcome = texts.outcome };
      }

  -- ---- where methods are looked up

  pub above_range : (d c : ℕ) → IsAbove (base_of xs) d c → c < length xs
  above_range _ _ (directly c b e) = ((bases_within xs).within c b e).0
  above_range _ _ (further c b d e r) = ((bases_within xs).within c b e).0

  own_range : (name : List ℕ) (c : ℕ) (id : MethodId) → own_method xs name c ≡ Some id → c < length xs
  own_range name c id e = by (slice_get xs c) refl e
    where
      by : (o : Option (ClassDecl ℕ)) → slice_get (classes_in decls) c ≡ o → option_map (rules.method_id c) (option_and_then (λ (d : ClassDecl ℕ). first_place name (rules.method_names d)) o) ≡ Some id → c < length (classes_in decls)
      by None q f = absurd (none≢some f)
      by (Some d) q f = slice_get_within (classes_in decls) c d q

  near_range : (name : List ℕ) (c : ℕ) (id : MethodId) (cs : List ℕ) → ((d : ℕ) → is_among d cs ≡ true → d < length xs → c < length xs) → nearest (own_method xs name) cs ≡ Some id → c < length xs
  near_range name c id [] f e = absurd (none≢some e)
  near_range name c id (d ∷ cs) f e = by (own_method xs name d) refl (near_range name c id cs (λ k m. f k (or-second (nat_eq k d) (is_among k cs) m))) e
    where
      by : (o : Option MethodId) → own_method (classes_in decls) name d ≡ o → (nearest (own_method (classes_in decls) name) cs ≡ Some id → c < length (classes_in decls)) → (o or_else nearest (own_method (classes_in decls) name) cs) ≡ Some id → c < length (classes_in decls)
      by None q later h = later h
      by (Some j) q later h = f d (or-first (nat_eq d d) (is_among d cs) (eq-eqb d d refl)) (own_range name d j q)

  pub lookup_range : (c : ℕ) (name : List ℕ) (id : MethodId) → lookup xs c name ≡ Some id → c < length xs
  unfolding lookup
  lookup_range c name id e = near_range name c id (chain xs c) (λ d m l. elim ((chain_law xs c d).0 m) [ inl q ↦ subst (λ (k : ℕ). k < length xs) q l | inr q ↦ above_range d c q ]) e

  pub found_at : (c : ℕ) (name : List ℕ) (id : MethodId) → lookup xs c name ≡ Some id → LookedUp decls p checked c name id
  found_at c name id e = looked_up decls p checked c name id (lookup_range c name id e) e

  own_shown : (name : List ℕ) (c : ℕ) (id : MethodId) → own_method xs name c ≡ Some id → MethodShown decls p checked id
  own_shown name c id e = (own_found decls p checked c name id (there_below xs c (own_range name c id e)) e).method

  -- ---- what conforms to a class

  classes_long : length p.classes ≡ length xs
  classes_long = from_long (TypedClass decls) 0 xs p.classes checked.classes

  pub record Conforming (x c : ℕ) : Type 0 where
    pub within : x < length xs
    pub among : is_among c (chain xs x) ≡ true

  pub conforming : (x c : ℕ) → c < length xs → conforms pp x (type.Instance c) ≡ true → Conforming x c
  conforming x c l h =
      let k = there p x (type.Instance c) h in
      elim (at_number p x k.0 k.1) [
        | inr a ↦
            let q = only_one p x c (subst (λ l. is_among c l ≡ true) a.chain k.2) in
            record { within = subst (λ (n : ℕ). n < length xs) q l; among = subst (λ n. is_among n (chain xs x) ≡ true) (sym q) ((chain_law xs x x).1 (inl refl)) }
        | inl a ↦
            let w = slice_get_within p.classes x a.decl a.there in
            let n = classes_long in
            record { within = omega (arith, w, n); among = subst (λ l. is_among c l ≡ true) (chain_same decls xs p.classes checked.classes x) (subst (λ (y : seen.Class). is_among c y.chain ≡ true) a.is k.2) }
      ]

  -- ---- methods that a call may enter

  module _ (rules_good : (c : ℕ) → class_faults same_worth xs (signatures decls) c ≡ []) where
    overriding : (c d : ℕ) (name : List ℕ) (j : MethodId) → is_among d (chain xs c) ≡ true → lookup xs d name ≡ Some j → (i : MethodId) × (lookup xs c name ≡ Some i) × AlikeAt i j
    overriding c d name j h e =
        chain_found same_worth xs (signatures decls) rules_good same_is AlikeAt
        (λ b n i q. itself i (found_at b n i q).method) through_alike
        (λ a b n i k q r f. methods_alike i k (own_shown n a i q) (found_at b n k r).method f) c d name j h e
      where
        itself : (i : MethodId) → MethodShown decls p checked i → AlikeAt i i
        itself i x = record { first = Declared i x.method; second = Declared i x.method; parameters = (method_of i.class x.shown).parameters; first_at = at_shown i x; second_at = at_shown i x; alike = alike_itself (Declared i x.method) }

    abbrev Suits : Called → DeclaredRoutine → Routine → Type 0
    Suits k r x = Answers pp k (λ y. TakesBy pp (Some y) r.parameters (called_parameters pp (Some k)) × Gives y r.outcome) x

    -- the method found from a class, for one that it is alike
    suits_found : (k : Called) (c : ℕ) (name : List ℕ) (i j : MethodId) (r : DeclaredRoutine) (x : Routine) → lookup xs c name ≡ Some i → AlikeAt i j → method_routine (unit_scope decls (unit_names decls)) j ≡ Some r
        → (qs : List Parameter) → option_map (λ (y : Method Note). (method_of j.class y).parameters) (method_at p.classes j) ≡ Some qs → called_parameters pp (Some k) ≡ qs → seen.lookup pp c name ≡ Some x → Suits k r x
    suits_found k c name i j r x e a d qs s q f =
        let l = found_at c name i e in
        let at = at_shown i l.method in
        let same_x : method_of i.class l.method.shown ≡ x = some-same (sym l.is ∙ f) in
        let first : a.first ≡ Declared i l.method.method = some-same (sym a.first_at.declared ∙ at.declared) in
        let second : a.second ≡ r = some-same (sym a.second_at.declared ∙ d) in
        let params : (method_of i.class l.method.shown).parameters ≡ called_parameters pp (Some k) =
        some-same (sym at.shown ∙ a.first_at.shown) ∙ (some-same (sym a.second_at.shown ∙ s) ∙ sym q) in
        subst (Suits k r) same_x
        (enters_alike pp k (method_of i.class l.method.shown) (Declared i l.method.method) r (method_facts i l.method) (subst (λ z. AlikeRoutines z r) first (subst (AlikeRoutines a.first) second a.alike)) params)

    pub method_runs : (c : ℕ) (name : List ℕ) (id : MethodId) → lookup xs c name ≡ Some id
        → (r : DeclaredRoutine) × (method_routine (unit_scope decls (unit_names decls)) id ≡ Some r) × Runs pp (a_method_of (type.Instance c) name) r.parameters r.outcome × Runs pp (a_method_from c name) r.parameters r.outcome
    method_runs c name id e =
        let l = found_at c name id e in
        let at = at_shown id l.method in
        let facts = method_facts id l.method in
        let r = Declared id l.method.method in
        let called : called_parameters pp (Some (a_method_from c name)) ≡ (method_of id.class l.method.shown).parameters = ap parameters_of l.is in (
          r,
          at.declared,
          record {
            found = ((method_of id.class l.method.shown, l.is), λ x i h. let o = overriding x c name id (conforming x c (lookup_range c name id e) h).among e in let y = found_at x name o.0 o.1 in (method_of (o.0).class y.method.shown, y.is));
            told = facts.told;
            declared = subst (TakesBy pp None r.parameters) (sym called) facts.takes;
            enters = by_type at called;
          },
          record {
            found = (method_of id.class l.method.shown, l.is);
            told = facts.told;
            declared = subst (TakesBy pp None r.parameters) (sym called) facts.takes;
            enters = by_place at called;
          },
        )
      where
        by_type : IsAt id (Declared id ((found_at c name id e).method).method) (method_of id.class ((found_at c name id e).method).shown).parameters
            → called_parameters (program_of p) (Some (a_method_from c name)) ≡ (method_of id.class ((found_at c name id e).method).shown).parameters
            → (x : Routine) (n : Enters (program_of p) (a_method_of (type.Instance c) name) x) → IsLiving (program_of p) n → Suits (a_method_of (type.Instance c) name) (Declared id ((found_at c name id e).method).method) x
        by_type at called x (by_class d m f) l =
            let o = overriding d c name id (conforming d c (lookup_range c name id e) m).among e in
            suits_found (a_method_of (type.Instance c) name) d name o.0 id (Declared id ((found_at c name id e).method).method) x o.1 o.2 at.declared (method_of id.class ((found_at c name id e).method).shown).parameters at.shown called f

        by_place : IsAt id (Declared id ((found_at c name id e).method).method) (method_of id.class ((found_at c name id e).method).shown).parameters
            → called_parameters (program_of p) (Some (a_method_from c name)) ≡ (method_of id.class ((found_at c name id e).method).shown).parameters
            → (x : Routine) (n : Enters (program_of p) (a_method_from c name) x) → IsLiving (program_of p) n → Suits (a_method_from c name) (Declared id ((found_at c name id e).method).method) x
        by_place at called x (by_text f) l =
            let o = overriding c c name id ((chain_law (classes_in decls) c c).1 (inl refl)) e in
            suits_found (a_method_from c name) c name o.0 id (Declared id ((found_at c name id e).method).method) x o.1 o.2 at.declared (method_of id.class ((found_at c name id e).method).shown).parameters at.shown called f

    -- ---- through an interface

    prototype_facts : (id : PrototypeId) (x : PrototypeShown decls p checked id) → TakesBy pp None (prototype_declared decls (unit_names decls) x.prototype).parameters (view.signature_of x.shown).parameters × ToldOutcome (prototype_declared decls (unit_names decls) x.prototype).outcome
    unfolding prototype_scope
    prototype_facts id x =
        let m = x.prototype in
        let y = x.shown in
        let h = x.typed in
        let s = prototype_scope decls (unit_names decls) m in
        let t = prototype_text most decls well good all id.interface id.method x.interface m x.interface_there x.there in (
          declared_takes pp s None y.line y.name.text m.name.text m.result y.result m.sections y.sections no_statements t.settled t.told_all t.outcome t.inside h.result h.sections t.few,
          told_result pp s None y.line y.name.text m.name.text m.result y.result m.sections y.sections no_statements t.settled t.told_all t.outcome t.inside h.result h.sections t.few,
        )

    record AlikeBoth (k : MethodId) (x : MethodShown decls p checked k) (id : PrototypeId) (z : PrototypeShown decls p checked id) : Type 0 where
      routines : AlikeRoutines (Declared k x.method) (prototype_declared decls (unit_names decls) z.prototype)
      parameters : (method_of k.class x.shown).parameters ≡ (view.signature_of z.shown).parameters

    both_alike : (k : MethodId) (x : MethodShown decls p checked k) (id : PrototypeId) (z : PrototypeShown decls p checked id) → differ same_worth (signature_of (signatures decls) k) (prototype_signature (signatures decls) id) ≡ false → AlikeBoth k x id z
    unfolding method_scope prototype_scope
    both_alike k x id z h =
        let s = method_scope decls (unit_names decls) k.class x.method in
        let t = prototype_scope decls (unit_names decls) z.prototype in
        let a = signature_in decls s x.method.result x.method.sections in
        let b = signature_in decls t z.prototype.result z.prototype.sections in
        let d : differ same_worth (Some a) (Some b) ≡ false =
        ap (λ o. differ same_worth o (Some b)) (sym (method_signature decls k x.class x.method x.class_there x.there)) ∙ (ap (λ o. differ same_worth (signature_of (signatures decls) k) o) (sym (interface_signature decls id z.interface z.prototype z.interface_there z.there)) ∙ h) in
        let e = not_differ a b d in
        let texts = texts_alike s t (value_in decls s) (value_in decls t) x.method.name.text z.prototype.name.text x.method.result z.prototype.result x.method.sections z.prototype.sections
        (method_text most decls well good all k.class k.method x.class x.method x.class_there x.there) (prototype_text most decls well good all id.interface id.method z.interface z.prototype z.interface_there z.there) e in
        record {
          routines = record { parameters = texts.parameters; outcome = texts.outcome };
          parameters =
              parameters_same same_worth (type_written s) (type_written t) (value_in decls s) (value_in decls t) s t x.shown.name.text z.shown.name.text x.method.result z.prototype.result x.shown.result z.shown.result x.method.sections z.prototype.sections x.shown.sections z.shown.sections
              x.typed.result z.typed.result x.typed.sections z.typed.sections e;
        }

    module _ (meets : MeetsInterfaces decls p) where
      interface_enters : (i : ℕ) (name : List ℕ) (id : PrototypeId) → interface_lookup (interfaces_in decls) i name ≡ Some id → (z : PrototypeFound decls p checked i name id) → (x : Routine) (n : Enters pp (a_method_of (type.Interface i) name) x) → IsLiving pp n
          → Suits (a_method_of (type.Interface i) name) (prototype_declared decls (unit_names decls) z.prototype.prototype) x
      interface_enters i name id e z x (by_class c m f) l =
          let k = meets.by c i name id l m e in
          let y = found_at c name k.0 k.1 in
          let b = both_alike k.0 y.method id z.prototype k.2 in
          subst (Suits (a_method_of (type.Interface i) name) (prototype_declared decls (unit_names decls) z.prototype.prototype)) (some-same (sym y.is ∙ f))
          (enters_alike pp (a_method_of (type.Interface i) name) (method_of (k.0).class y.method.shown) (Declared k.0 y.method.method) (prototype_declared decls (unit_names decls) z.prototype.prototype) (method_facts k.0 y.method) b.routines (b.parameters ∙ (sym z.parameters ∙ sym (parameters_signed (slice_get pp.interfaces i) name))))

      pub interface_runs : (i : ℕ) (name : List ℕ) (id : PrototypeId) → There (InterfaceDecl ℕ) (interfaces_in decls) i → interface_lookup (interfaces_in decls) i name ≡ Some id
          → (r : DeclaredRoutine) × (prototype_routine (unit_scope decls (unit_names decls)) id ≡ Some r) × Runs pp (a_method_of (type.Interface i) name) r.parameters r.outcome
      interface_runs i name id t e =
          let z = prototype_found decls p checked i name id t e in
          let x = z.prototype in
          let r = prototype_declared decls (unit_names decls) x.prototype in
          let facts = prototype_facts id x in (
            r,
            prototype_there decls (unit_scope decls (unit_names decls)) refl id x.interface x.prototype x.interface_there x.there,
            record {
              found = ((z.place, view.signature_of x.shown, z.there, is_same x.shown.name.text name z.name_is), λ c l h. let k = meets.by c i name id l h e in let y = found_at c name k.0 k.1 in (method_of (k.0).class y.method.shown, y.is));
              told = facts.1;
              declared = subst (TakesBy pp None r.parameters) (sym z.parameters ∙ sym (parameters_signed (slice_get pp.interfaces i) name)) facts.0;
              enters = interface_enters i name id e z;
            },
          )
