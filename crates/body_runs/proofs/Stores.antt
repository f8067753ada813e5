-- What is kept at a place: a number, a reference, a whole array or structure.
use Rattle.std.proofs.Common.{◌≡◌, ℕ, ◌+◌, ℤ, pos, Bool, true, false, List, [], ◌∷◌, length, Option, Some, refl, sym, ap, ◌∙◌, subst, arith}
use Rattle.st_types.specs.declared.elem.Elem.{Elem}
use Rattle.st_types.specs.Range.{Fits}
use Rattle.st_types.proofs.WideningLaws.{keeps}
use Rattle.st_types.specs.declared.st_type.StType.{StType}
use Rattle.st_types.specs.declared.elem.Elem.TheVariants as elem
use Rattle.st_types.specs.declared.st_type.StType.TheVariants as type
use Rattle.st_tree.specs.Expression.{Null}
use Rattle.st_tree.specs.declared.path.Path.{Path}
use Rattle.st_values.specs.Program.{Routine, Program}
use Rattle.st_values.specs.Value.{Value, number, reference, Store}
use Rattle.st_values.specs.Shape.{Elementary, Instance}
use Rattle.st_values.specs.ShapeLaws.{Unfolds}
use Rattle.st_meaning.specs.State.{Spot, in_store, State, Outcome, Done, Run, ◌>>=◌, write, ◌>>◌}
use Rattle.st_meaning.specs.Expression.{place}
use Rattle.st_meaning.specs.Enter.{enter}
use Rattle.st_meaning.specs.st_frame.Use.{Use}
use Rattle.st_meaning.specs.st_frame.Promise.Names.{Scope}
use Rattle.st_meaning.specs.st_frame.Promise.Programs.{ProgramIs}
use Rattle.st_meaning.specs.st_frame.Promise.Types.{IsNoInstance, IsHeld}
use Rattle.st_meaning.proofs.st_frame.OfTypes.{OfKind}
use Rattle.st_meaning.proofs.st_frame.Spots.{SpotIs, as_plain}
use Rattle.st_meaning.proofs.st_frame.Obeys.{Obeys}
use Rattle.st_meaning.proofs.st_frame.Bodies.{All, Covered, CallsObey}
use Rattle.stack_code.specs.declared.machine.Frame.{Frame as At}
use Rattle.stack_code.specs.declared.memory.Space.TheVariants.{Locals}
use Rattle.stack_code.specs.declared.memory.Address.{Address}
use Rattle.stack_code.specs.declared.memory.Word.{Word}
use Rattle.stack_code.specs.declared.code.MachineCode.{MachineCode}
use Rattle.stack_code.specs.Memory.{Memory, write as write_bytes, copy as copy_bytes, kept as kept_word}
use Rattle.stack_code.specs.Steps.{Step, Goes, ◌>>=◌ as ◌>>=step◌}
use Rattle.stack_code.specs.Machine.{Config, act, on_memory}
use Rattle.stack_code.specs.declared.memory.Word.TheVariants as word
use Rattle.stack_code.specs.declared.op.Op.TheVariants as op
use Rattle.mem_layout.specs.store_bytes.StoreLaws.{IsNumber}
use Rattle.mem_layout.specs.store_bytes.Place as store
use Rattle.code_cells.specs.declared.cell.Cell.TheVariants.{Does as does}
use Rattle.code_rules.specs.Plan.{Tables, Plan, plan_of}
use Rattle.code_rules.specs.Code.{keep_code}
use Rattle.code_rules.specs.Places.{bytes_of, is_large}
use Rattle.shown_memory.specs.Shown.{Kept, Open, scopes, Layout, layouts, Located, located, path_word, spot_word, word_at, value_word, Shown, Small}
use Rattle.shown_memory.proofs.Locals.{kept_less}
use Rattle.shown_memory.proofs.Geometry.{held_shape}
use Rattle.shown_memory.proofs.Parts.{sized, located_known}
use Rattle.shown_memory.proofs.Geometry as geometry
use Rattle.memory_access.proofs.Likes.{store_like, path_kept, InstanceAt, storeref_like}
use Rattle.memory_access.proofs.Copies.{Assigned}
use Rattle.value_runs.proofs.Ends.{Leads, Stands}
use Rattle.value_runs.proofs.Expressions.{a_number, is_wrapped}
use Rattle.memory_access.proofs.Worded.{NoNumber, no_number, instances, numeric_value, large_plain, enumeration_shape, enumerator_fits}
use Rattle.value_runs.proofs.Ends as ends
use Rattle.value_runs.proofs.Expressions as runs

module _ (p : Program) (fine : ProgramIs p) (small : Small p) (is_there : ℕ → Bool) (W : ℕ → Type 0) (first : Store) (R : Routine → Type 0) (code : MachineCode) (now base : ℕ) (tables : Tables)
    (room : ℕ) (reached : CallsObey p fine (λ r. is_there r ≡ true) W first first R (enter p room)) (k0 : Open) (ks : List Open) (r : ℕ) (own : Option Address) (ar : List At)
    (own_there : (c : ℕ) → k0.scope.this ≡ Some c → (q : Path) × (l : Located) × (k0.own ≡ Some q) × (own ≡ Some l.address) × (located p base [] (in_store q) ≡ Some l)) where
  abbrev F : ℕ → Type 0
  F r = is_there r ≡ true

  abbrev gs : List Scope
  gs = scopes (k0 ∷ ks)

  abbrev plan : Plan
  plan = plan_of p tables k0.scope k0.start

  abbrev ls : List Layout
  ls = layouts (k0 ∷ ks)

  abbrev kept_at : ℕ → List Kept → List Open
  kept_at free kept = record k0 { free = free; kept = kept } ∷ ks

  abbrev cfg : ℕ → List Word → State → Memory → Config
  cfg pc ws s m = record { here = record { routine = r; next = pc; own = own }; words = ws; around = ar; memory = m; ticks = s.ticks }

  abbrev lands : {A : Type 0} → ℕ → (A → List Word) → A → State → Memory → Config
  lands pc words a s m = cfg pc (words a) s m

  abbrev Shows : {A : Type 0} → ℕ → List Kept → A → State → Memory → Type 0
  Shows free kept a s m = Shown p base is_there now (kept_at free kept) m s

  abbrev Now_shown : ℕ → List Kept → State → Memory → Type 0
  Now_shown free kept s m = Shown p base is_there now (kept_at free kept) m s

  abbrev here_at : ℕ → Address
  here_at free = record { space = Locals; index = base + length ks; offset = free }

  abbrev From : {A : Type 0} → Config → (A → State → Memory → Config) → (A → State → Memory → Type 0) → Outcome A → Type 0
  From c after shown o = Leads code now (Goes c) after shown o

  abbrev AllOf : List Use → Type 0
  AllOf us = All (Covered p F W R) us

  abbrev Typed_run : {A : Type 0} → Run A → (A → Type 0) → Type 0
  Typed_run m Q = Obeys p fine F W first first gs m Q

  abbrev lost : {A : Type 0} → ℕ → List Word → A → State → Memory → Config
  lost pc ws a s m = cfg pc ws s m

  pub lost_by : {here : Step Config} {shown : Unit {0} → State → Memory → Type 0} {o : Outcome (Unit {0})} (a b : ℕ) (ws : List Word) → a ≡ b → Leads code now here (lost a ws) shown o → Leads code now here (lost b ws) shown o
  lost_by {here = here} {shown = shown} {o = o} a b ws e h = subst (λ n. Leads code now here (lost n ws) shown o) e h

  -- what was kept behind the locals is no longer of use
  pub no_longer : (free free' : ℕ) (x : Kept) (kept : List Kept) (s : State) (m : Memory) → x.from ≡ free → Now_shown free' (x ∷ kept) s m → Now_shown free kept s m
  no_longer free free' x kept s m e sh = record { regions = sh.regions; frames = kept_less p base (record k0 { free = free' }) ks s.frames m.locals free x kept e sh.frames; deep = sh.deep; moment = sh.moment }

  -- ---- what is kept at a place: a number, a reference, a whole array or structure

  pub number_stored : (e : Elem) (z : ℤ) (t : StType) (free pc line : ℕ) (kept : List Kept) (ws : List Word) (spot : Spot) (s : State) (m : Memory) (f : SpotIs p fine F W gs spot t) → IsNumber (runs.lies p fine small is_there W first R code now base tables room reached k0 ks r own ar line own_there spot t f).place.shape e → Fits e z → Now_shown free kept s m → Stands code now r pc (does (op.Store e) line ∷ [])
      → From (cfg pc (spot_word p base ls spot ∷ (word.Number z ∷ ws)) s m) (lost (pc + 1) ws) (Shows free kept) (write spot (number z) line s)
  number_stored e z t free pc line kept ws spot s m f is_number fits sh has =
      let l = runs.lies p fine small is_there W first R code now base tables room reached k0 ks r own ar line own_there spot t f in
      let x = store_like p base is_there now (kept_at free kept) spot e l.place z m s sh l.is (runs.within_is p fine small is_there W first R code now base tables room reached k0 ks r own ar line own_there spot t f) is_number fits in
      subst (λ (y : Option Located). From (cfg pc (word_at p base y ∷ (word.Number z ∷ ws)) s m) (lost (pc + 1) ws) (Shows free kept) (write spot (number z) line s)) (sym l.is)
      (ends.step_leads code now (op.Store e, line) has.0
      (subst (λ y. Leads code now (write_bytes e m l.place.address y >>=step λ m'. on_memory (cfg pc (word.Address l.place.address ∷ (word.Number z ∷ ws)) s m) ws m') (lost (pc + 1) ws) (Shows free kept) (write spot (number z) line s)) (sym (is_wrapped p fine small is_there W first R code now base tables e z fits))
      (ends.goes_leads code now (write_bytes e m l.place.address z) x.memory _ x.by_bytes
      (ends.same_outcome code now (x.by_state line)
      (subst (λ n. Leads code now (Goes (record { here = record { routine = r; next = pc + 1; own = own }; words = ws; around = ar; memory = x.memory; ticks = n })) (lost (pc + 1) ws) (Shows free kept) (Done tt x.state)) x.same_ticks
      (ends.stays code now tt x.state x.memory x.shows))))))

  storeref_acts : (w : Word) → NoNumber w → (a : Address) (pc line : ℕ) (ws : List Word) (s : State) (m : Memory) → act code now op.StoreRef line (cfg pc (word.Address a ∷ (w ∷ ws)) s m) ≡ (kept_word w >>=step λ v. write_bytes elem.Ulint m a v >>=step λ m'. on_memory (cfg pc (word.Address a ∷ (w ∷ ws)) s m) ws m')
  storeref_acts (word.Number z) h a pc line ws s m = absurd h
  storeref_acts (word.Address b) h a pc line ws s m = refl
  storeref_acts word.Null h a pc line ws s m = refl

  pub reference_stored : (t : StType) (o : Option Path) (free pc line : ℕ) (kept : List Kept) (ws : List Word) (spot : Spot) (s : State) (m : Memory) → IsHeld t → ((q : Path) → o ≡ Some q → InstanceAt p base is_there now q) → SpotIs p fine F W gs spot t → Now_shown free kept s m → Stands code now r pc (does op.StoreRef line ∷ [])
      → From (cfg pc (spot_word p base ls spot ∷ (path_word p base o ∷ ws)) s m) (lost (pc + 1) ws) (Shows free kept) (write spot (reference o) line s)
  reference_stored t o free pc line kept ws spot s m i names f sh has =
      let l = runs.lies p fine small is_there W first R code now base tables room reached k0 ks r own ar line own_there spot t f in
      let keep = path_kept p base is_there now o small names in
      let x = storeref_like p base is_there now (kept_at free kept) spot l.place o m s keep sh l.is (runs.within_is p fine small is_there W first R code now base tables room reached k0 ks r own ar line own_there spot t f) (held_shape p fine l.place.shape t i l.meets) in
      let write_next : ℤ → Step Config = λ v. write_bytes elem.Ulint m l.place.address v >>=step λ m'. on_memory (cfg pc (word.Address l.place.address ∷ (path_word p base o ∷ ws)) s m) ws m' in
      subst (λ (y : Option Located). From (cfg pc (word_at p base y ∷ (path_word p base o ∷ ws)) s m) (lost (pc + 1) ws) (Shows free kept) (write spot (reference o) line s)) (sym l.is)
      (ends.step_leads code now (op.StoreRef, line) has.0
      (ends.same_start code now (storeref_acts (path_word p base o) (no_number p base is_there now o names) l.place.address pc line ws s m ∙ ap (λ y. y >>=step write_next) x.keeps)
      (ends.goes_leads code now (write_bytes elem.Ulint m l.place.address (pos x.w)) x.memory _ x.by_bytes
      (ends.same_outcome code now (x.by_state line)
      (subst (λ n. Leads code now (Goes (record { here = record { routine = r; next = pc + 1; own = own }; words = ws; around = ar; memory = x.memory; ticks = n })) (lost (pc + 1) ws) (Shows free kept) (Done tt x.state)) x.same_ticks
      (ends.stays code now tt x.state x.memory x.shows))))))

  pub word_stored : (t : StType) (free pc line : ℕ) (kept : List Kept) (ws : List Word) (spot : Spot) (v : Value) (s : State) (m : Memory) → is_large t ≡ false → IsNoInstance t → SpotIs p fine F W gs spot t → OfKind p F t v → Now_shown free kept s m → Stands code now r pc (keep_code plan line t)
      → (a : Address) → From (cfg pc (spot_word p base ls spot ∷ (value_word p base a v ∷ ws)) s m) (lost (pc + length (keep_code plan line t)) ws) (Shows free kept) (write spot v line s)
  word_stored (type.Elementary e) free pc line kept ws spot v s m q i f is sh has a =
      let z = a_number p fine small is_there W first R code now base tables (type.Elementary e) e v refl is in
      let l = runs.lies p fine small is_there W first R code now base tables room reached k0 ks r own ar line own_there spot (type.Elementary e) f in
      lost_by (pc + 1) _ ws (omega arith)
      (subst (λ y. From (cfg pc (spot_word p base ls spot ∷ (value_word p base a y ∷ ws)) s m) (lost (pc + 1) ws) (Shows free kept) (write spot y line s)) (sym z.1)
      (number_stored e z.0 (type.Elementary e) free pc line kept ws spot s m f (runs.number_shape p fine small is_there W first R code now base tables room reached k0 ks r own ar line own_there l.place.shape (type.Elementary e) e refl l.meets) z.2 sh has))
  word_stored (type.Enumeration n) free pc line kept ws spot v s m q i f is sh has a =
      let z = numeric_value p F (type.Enumeration n) v tt is in
      let l = runs.lies p fine small is_there W first R code now base tables room reached k0 ks r own ar line own_there spot (type.Enumeration n) f in
      lost_by (pc + 1) _ ws (omega arith)
      (subst (λ y. From (cfg pc (spot_word p base ls spot ∷ (value_word p base a y ∷ ws)) s m) (lost (pc + 1) ws) (Shows free kept) (write spot y line s)) (sym z.1)
      (number_stored elem.Udint z.0 (type.Enumeration n) free pc line kept ws spot s m f (enumeration_shape p fine n l.place.shape l.meets) (enumerator_fits p F small n z.0 (subst (OfKind p F (type.Enumeration n)) z.1 is)) sh has))
  word_stored (type.Reference c) free pc line kept ws spot v s m q i f is sh has a =
      lost_by (pc + 1) _ ws (omega arith)
      (subst (λ y. From (cfg pc (spot_word p base ls spot ∷ (value_word p base a y ∷ ws)) s m) (lost (pc + 1) ws) (Shows free kept) (write spot y line s)) (sym is.1)
      (reference_stored (type.Reference c) is.0 free pc line kept ws spot s m tt (instances p base is_there now (type.Reference c) is.0 is.2) f sh has))
  word_stored (type.Interface c) free pc line kept ws spot v s m q i f is sh has a =
      lost_by (pc + 1) _ ws (omega arith)
      (subst (λ y. From (cfg pc (spot_word p base ls spot ∷ (value_word p base a y ∷ ws)) s m) (lost (pc + 1) ws) (Shows free kept) (write spot y line s)) (sym is.1)
      (reference_stored (type.Interface c) is.0 free pc line kept ws spot s m tt (instances p base is_there now (type.Interface c) is.0 is.2) f sh has))
  word_stored (type.Instance c) free pc line kept ws spot v s m q i f is sh has a = absurd i
  word_stored t free pc line kept ws spot v s m q i f is sh has a = absurd (no_truth q)
    where
      no_truth : true ≡ false → ⊥
      no_truth q = cc

  pub keep_large : (t : StType) (line : ℕ) → is_large t ≡ true → keep_code plan line t ≡ does (op.Copy (bytes_of p t)) line ∷ []
  keep_large (type.Elementary e) line q = cc
  keep_large (type.Enumeration n) line q = cc
  keep_large (type.Reference c) line q = cc
  keep_large (type.Interface c) line q = cc
  keep_large (type.Instance c) line q = cc
  keep_large t line q = refl

  -- the bytes at an address come to a place
  pub large_stored : (n free pc line : ℕ) (kept : List Kept) (ws : List Word) (spot : Spot) (l : Located) (a : Address) (v : Value) (s : State) (m : Memory) → n ≡ store.size l.shape → located p base ls spot ≡ Some l → Assigned p base is_there now (kept_at free kept) spot a l.address (store.size l.shape) v m s
      → Stands code now r pc (does (op.Copy n) line ∷ []) → From (cfg pc (spot_word p base ls spot ∷ (word.Address a ∷ ws)) s m) (lost {A = Unit {0}} (pc + 1) ws) (Shows free kept) (write spot v line s)
  large_stored n free pc line kept ws spot l a v s m size_is at x has =
      subst (λ (y : Option Located). From (cfg pc (word_at p base y ∷ (word.Address a ∷ ws)) s m) (lost {A = Unit {0}} (pc + 1) ws) (Shows free kept) (write spot v line s)) (sym at)
      (ends.same_outcome code now (x.writes line)
      (ends.step_leads code now (op.Copy n, line) has.0
      (ends.goes_leads code now (copy_bytes n m a l.address) x.memory _ (ap (λ k. copy_bytes k m a l.address) size_is ∙ x.by_bytes)
      (subst (λ k. Leads code now (Goes (record { here = record { routine = r; next = pc + 1; own = own }; words = ws; around = ar; memory = x.memory; ticks = k })) (lost {A = Unit {0}} (pc + 1) ws) (Shows free kept) (Done tt x.state)) x.same_ticks
      (ends.stays code now tt x.state x.memory x.shows)))))

  -- what a large place is
  pub record LargePlace (t : StType) (spot : Spot) : Type 0 where
    pub place_is : Located
    pub is : located p base ls spot ≡ Some place_is
    pub unfolds : Unfolds p t place_is.shape
    pub size_is : bytes_of p t ≡ store.size place_is.shape

  pub large_place : (line : ℕ) (t : StType) (spot : Spot) → is_large t ≡ true → SpotIs p fine F W gs spot t → LargePlace t spot
  large_place line t spot large f =
      let l = runs.lies p fine small is_there W first R code now base tables room reached k0 ks r own ar line own_there spot t f in
      let a = as_plain p fine (Some l.place.shape) t (large_plain t large) l.meets in
      let same = geometry.some_shape p fine l.place.shape a.0 a.2 in
      let u = subst (Unfolds p t) (sym same) a.1 in
      record { place_is = l.place; is = l.is; unfolds = u; size_is = sized p t l.place.shape u (located_known p base ls spot l.place l.is).within }
