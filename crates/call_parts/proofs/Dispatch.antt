-- Which routine the code of a call enters: the one that the meaning finds, by the class of the instance.
use Rattle.std.proofs.Common.{◌≡◌, ℕ, ◌+◌, ◌-◌, Bool, true, false, List, [], ◌∷◌, length, Option, Some, None, refl, sym, ap, ◌∙◌, arith}
use Rattle.std.specs.Prelude.{if◌then◌else◌, IsTrue, nat_le}
use Rattle.std.proofs.lemmas.Bool.{le-leb}
use Rattle.st_types.specs.declared.st_type.StType.{StType}
use Rattle.st_types.specs.declared.st_type.StType.TheVariants as type
use Rattle.st_tree.specs.declared.expression.Root.{Root}
use Rattle.st_tree.specs.declared.program.Note.{Note}
use Rattle.st_tree.specs.Expression.{Expression, Null, Call, Selectors}
use Rattle.st_tree.specs.declared.path.Path.{Path}
use Rattle.st_values.specs.Program.{Routine, Program, lookup, body_of, conforms, class_number, class_at, Class, Interface}
use Rattle.st_values.specs.Value.{Value, number, instance, Store}
use Rattle.st_values.specs.Shape.{Instance, Fields, path_shape}
use Rattle.st_meaning.specs.State.{path_of, Spot, in_store, in_frame, State, Outcome, Done, Run, go_on, ◌>>=◌, there}
use Rattle.st_meaning.specs.Enter.{enter}
use Rattle.st_meaning.specs.st_frame.Use.{Use}
use Rattle.st_meaning.specs.st_frame.Promise.Names.{Scope}
use Rattle.st_meaning.specs.st_frame.Promise.Programs.{ProgramIs}
use Rattle.st_meaning.specs.st_frame.Promise.Calls.{HasInstance}
use Rattle.st_meaning.specs.st_frame.Good.{Names}
use Rattle.st_meaning.proofs.st_frame.Unfolded.{OfClass, instance_is}
use Rattle.st_meaning.proofs.st_frame.Obeys.{Obeys}
use Rattle.st_meaning.proofs.st_frame.Bodies.{All, Covered, CallsObey, OnInstance}
use Rattle.st_meaning.specs.Call.{class_at_spot, call}
use Rattle.stack_code.specs.declared.machine.Frame.{Frame as At}
use Rattle.stack_code.specs.declared.memory.Space.TheVariants.{Locals}
use Rattle.stack_code.specs.declared.memory.Address.{Address}
use Rattle.stack_code.specs.declared.memory.Word.{Word}
use Rattle.stack_code.specs.declared.op.Op.{Op}
use Rattle.stack_code.specs.declared.code.MachineCode.{MachineCode}
use Rattle.stack_code.specs.Memory.{Memory}
use Rattle.stack_code.specs.Steps.{Step, Goes, some_or_stuck, broken, ◌>>=◌ as ◌>>=step◌}
use Rattle.stack_code.specs.Machine.{Config, act, on, enters, method_of}
use Rattle.stack_code.specs.declared.memory.Word.TheVariants as word
use Rattle.stack_code.specs.declared.op.Op.TheVariants as op
use Rattle.stack_code.specs.Machine as machine
use Rattle.code_cells.specs.declared.cell.Cell.{Cell}
use Rattle.code_rules.specs.Plan.{Tables, Plan, plan_of}
use Rattle.code_rules.specs.Code.{value_code, along_code, root_code}
use Rattle.shown_memory.specs.Shown.{Kept, Open, scopes, Layout, layouts, Located, located, spot_word, Shown, Small}
use Rattle.shown_memory.proofs.Geometry.{spot_located}
use Rattle.memory_access.proofs.Likes.{class_like}
use Rattle.memory_access.proofs.Worded.{none_in_frame}
use Rattle.value_runs.proofs.Ends.{Leads, Stands}
use Rattle.value_runs.proofs.Ends as ends
use Rattle.value_runs.proofs.Expressions as ex
use Rattle.call_forms.proofs.CallForm.{CodeOf, TablesAre, HasSignature}

module _ (p : Program) (fine : ProgramIs p) (small : Small p) (is_there : ℕ → Bool) (W : ℕ → Type 0) (first : Store) (R : Routine → Type 0) (code : MachineCode) (now base : ℕ) (tables : Tables) where
  abbrev F : ℕ → Type 0
  F r = is_there r ≡ true

  abbrev Fair : List Scope → State → Type 0
  Fair gs s = ex.Fair p fine small is_there W first R code now base tables gs s

  module _ (room : ℕ) (reached : CallsObey p fine F W first first R (enter p room)) (k0 : Open) (ks : List Open) (r : ℕ) (own : Option Address) (ar : List At) (line : ℕ)
      (own_there : (c : ℕ) → k0.scope.this ≡ Some c → (q : Path) × (l : Located) × (k0.own ≡ Some q) × (own ≡ Some l.address) × (located p base [] (in_store q) ≡ Some l)) where
    abbrev gs : List Scope
    gs = scopes (k0 ∷ ks)

    abbrev plan : Plan
    plan = plan_of p tables k0.scope k0.start

    abbrev ls : List Layout
    ls = layouts (k0 ∷ ks)

    abbrev kept_at : ℕ → List Kept → List Open
    kept_at free kept = record k0 { free = free; kept = kept } ∷ ks

    abbrev cfg : ℕ → List Word → State → Memory → Config
    cfg pc ws s m = ex.cfg p fine small is_there W first R code now base tables room reached k0 ks r own ar line own_there pc ws s m

    abbrev lands : {A : Type 0} → ℕ → (A → List Word) → A → State → Memory → Config
    lands pc words a s m = cfg pc (words a) s m

    abbrev Shows : {A : Type 0} → ℕ → List Kept → A → State → Memory → Type 0
    Shows free kept a s m = Shown p base is_there now (kept_at free kept) m s

    abbrev Now_shown : ℕ → List Kept → State → Memory → Type 0
    Now_shown free kept s m = Shown p base is_there now (kept_at free kept) m s

    abbrev here_at : ℕ → Address
    here_at free = record { space = Locals; index = base + length ks; offset = free }

    abbrev From : {A : Type 0} → Config → (A → State → Memory → Config) → (A → State → Memory → Type 0) → Outcome A → Type 0
    From c after shown o = Leads code now (Goes c) after shown o

    abbrev AllOf : List Use → Type 0
    AllOf us = All (Covered p F W R) us

    abbrev Valued : StType → ℕ → List Kept → Value → State → Memory → Type 0
    Valued t free kept v s m = ex.Valued p fine small is_there W first R code now base tables room reached k0 ks r own ar line own_there t free kept v s m

    abbrev ec : ℕ → Expression Note → List Cell
    ec free e = value_code plan line free e

    abbrev ac : ℕ → Selectors Note → StType → List Cell
    ac free ss t = along_code plan line free ss t

    abbrev rc : Root Note → List Cell
    rc q = root_code plan line q

    abbrev Typed_run : {A : Type 0} → Run A → (A → Type 0) → Type 0
    Typed_run m Q = Obeys p fine F W first first gs m Q

    one_word : (a w : Word) (ws : List Word) → nat_le 1 (length (a ∷ w ∷ ws)) ≡ true
    one_word a w ws = le-leb 1 (length (a ∷ w ∷ ws)) (omega arith)

    abbrev split_by : Bool → List Word → List Word → Step (List Word × List Word)
    split_by t taken left = if t then Goes (taken, left) else broken

    abbrev own_by : Step (List Word × List Word) → Step (Option Address × List Word × List Word)
    own_by x = x >>=step λ args. machine.instance args.1 >>=step λ own. Goes (own.0, args.0, own.1)

    -- a function
    pub function_acts : (n : ℕ) (b : Address) (c : Config) (ws : List Word) → c.words ≡ word.Address b ∷ (word.Null ∷ ws) → act code now (op.Call n 1) line c ≡ enters code n None (word.Address b ∷ []) ws line c
    function_acts n b c ws e =
        ap (λ u. machine.operands 1 u >>=step λ w. enters code n w.0 w.1 w.2 line c) e
        ∙ ap (λ t. own_by (split_by t (word.Address b ∷ []) (word.Null ∷ ws)) >>=step λ w. enters code n w.0 w.1 w.2 line c) (one_word (word.Address b) word.Null ws)

    -- a method, by the class of the instance
    method_acts : (d slot n cl : ℕ) (a b : Address) (c : Config) (ws : List Word) → c.words ≡ word.Address b ∷ (word.Address a ∷ ws) → machine.class_at c.memory a ≡ Goes cl → method_of code d slot cl ≡ Goes n
        → act code now (op.CallM d slot 1) line c ≡ enters code n (Some a) (word.Address b ∷ []) ws line c
    method_acts d slot n cl a b c ws e class found =
        ap (λ u. machine.operands 1 u >>=step λ w. some_or_stuck w.0 >>=step λ own. machine.class_at c.memory own >>=step λ class. method_of code d slot class >>=step λ k. enters code k w.0 w.1 w.2 line c) e
        ∙ (ap (λ t. own_by (split_by t (word.Address b ∷ []) (word.Address a ∷ ws)) >>=step λ w. some_or_stuck w.0 >>=step λ own. machine.class_at c.memory own >>=step λ class. method_of code d slot class >>=step λ k. enters code k w.0 w.1 w.2 line c) (one_word (word.Address b) (word.Address a) ws)
        ∙ (ap (λ x. x >>=step λ class. method_of code d slot class >>=step λ k. enters code k (Some a) (word.Address b ∷ []) ws line c) class
        ∙ ap (λ x. x >>=step λ k. enters code k (Some a) (word.Address b ∷ []) ws line c) found))

    -- ---- dispatch: the routine that the code enters is that which the meaning finds

    -- an instance of a class that conforms, and where it lies
    pub record Instance_at (q : Path) (t : StType) : Type 0 where
      pub place : Located
      pub is : located p base ls (in_store q) ≡ Some place
      pub class : ℕ
      pub name : List ℕ
      pub fields : Fields
      pub shape : path_shape p q ≡ Some (Instance class name fields)
      pub meets : IsTrue (conforms p class t)
      pub there : is_there q.region ≡ true

    pub instance_at : (q : Path) (t : StType) → Names p q t → is_there q.region ≡ true → Instance_at q t
    instance_at q t n f = let a = spot_located p base (k0 ∷ ks) (in_store q) (Instance n.class n.name n.fields) n.there in record { place = a.0; is = a.1; class = n.class; name = n.name; fields = n.fields; shape = n.there; meets = n.meets; there = f }

    -- its class, by the meaning and by the machine, in whatever state
    pub class_found : (q : Path) (t : StType) (i : Instance_at q t) (free : ℕ) (kept : List Kept) (s : State) (m : Memory) → Now_shown free kept s m → (machine.class_at m i.place.address ≡ Goes i.class) × ((line : ℕ) → class_at_spot p (enter p room) (in_store q) line s ≡ Done i.class s)
    class_found q t i free kept s m sh =
        let a = spot_located p base (k0 ∷ ks) (in_store q) (Instance i.class i.name i.fields) i.shape in
        let same : a.0 ≡ i.place = let e : Some a.0 ≡ Some i.place = sym a.1 ∙ i.is in cc in
        class_like p base is_there now (enter p room) (kept_at free kept) q i.place i.class i.name i.fields m s sh i.is i.there (ap (λ (l : Located). l.shape) (sym same) ∙ a.2) (named_so (class_at p i.class) refl)
      where
        k' : OfClass p fine.regions i.class i.name i.fields
        k' = instance_is p fine.regions q i.class i.name i.fields i.shape

        named_so : (o : Option Class) → class_at p i.class ≡ o → class_number p i.name ≡ Some i.class
        named_so o e = ap (class_number p) k'.2 ∙ fine.numbered i.class k'.0 k'.1

    -- CALLM, CALLI, and CALL of a class's own method on an instance, each where the tables say so
    pub by_class_acts : (d slot n : ℕ) (q : Path) (t : StType) (i : Instance_at q t) (b : Address) (ws : List Word) (at free : ℕ) (kept : List Kept) (s : State) (m : Memory) → Now_shown free kept s m → machine.method_of code d slot i.class ≡ Goes n
        → act code now (op.CallM d slot 1) line (cfg at (word.Address b ∷ (word.Address i.place.address ∷ ws)) s m) ≡ enters code n (Some i.place.address) (word.Address b ∷ []) ws line (cfg at (word.Address b ∷ (word.Address i.place.address ∷ ws)) s m)
    by_class_acts d slot n q t i b ws at free kept s m sh found = method_acts d slot n i.class i.place.address b (cfg at (word.Address b ∷ (word.Address i.place.address ∷ ws)) s m) ws refl (class_found q t i free kept s m sh).0 found

    interface_acts : (i number_is n cl : ℕ) (a b : Address) (c : Config) (ws : List Word) → c.words ≡ word.Address b ∷ (word.Address a ∷ ws) → machine.class_at c.memory a ≡ Goes cl → machine.target_of code i number_is cl ≡ Goes n
        → act code now (op.CallI i number_is 1) line c ≡ enters code n (Some a) (word.Address b ∷ []) ws line c
    interface_acts i number_is n cl a b c ws e class found =
        ap (λ u. machine.operands 1 u >>=step λ w. some_or_stuck w.0 >>=step λ own. machine.class_at c.memory own >>=step λ class. machine.target_of code i number_is class >>=step λ k. enters code k w.0 w.1 w.2 line c) e
        ∙ (ap (λ t. own_by (split_by t (word.Address b ∷ []) (word.Address a ∷ ws)) >>=step λ w. some_or_stuck w.0 >>=step λ own. machine.class_at c.memory own >>=step λ class. machine.target_of code i number_is class >>=step λ k. enters code k w.0 w.1 w.2 line c) (one_word (word.Address b) (word.Address a) ws)
        ∙ (ap (λ x. x >>=step λ class. machine.target_of code i number_is class >>=step λ k. enters code k (Some a) (word.Address b ∷ []) ws line c) class
        ∙ ap (λ x. x >>=step λ k. enters code k (Some a) (word.Address b ∷ []) ws line c) found))

    pub by_interface_acts : (j number_is n : ℕ) (q : Path) (t : StType) (i : Instance_at q t) (b : Address) (ws : List Word) (at free : ℕ) (kept : List Kept) (s : State) (m : Memory) → Now_shown free kept s m → machine.target_of code j number_is i.class ≡ Goes n
        → act code now (op.CallI j number_is 1) line (cfg at (word.Address b ∷ (word.Address i.place.address ∷ ws)) s m) ≡ enters code n (Some i.place.address) (word.Address b ∷ []) ws line (cfg at (word.Address b ∷ (word.Address i.place.address ∷ ws)) s m)
    by_interface_acts j number_is n q t i b ws at free kept s m sh found = interface_acts j number_is n i.class i.place.address b (cfg at (word.Address b ∷ (word.Address i.place.address ∷ ws)) s m) ws refl (class_found q t i free kept s m sh).0 found

    -- SUPER: the routine is fixed, the instance is the own one
    pub fixed_acts : (n : ℕ) (a b : Address) (c : Config) (ws : List Word) → c.words ≡ word.Address b ∷ (word.Address a ∷ ws) → act code now (op.Call n 1) line c ≡ enters code n (Some a) (word.Address b ∷ []) ws line c
    fixed_acts n a b c ws e =
        ap (λ u. machine.operands 1 u >>=step λ w. enters code n w.0 w.1 w.2 line c) e
        ∙ ap (λ t. own_by (split_by t (word.Address b ∷ []) (word.Address a ∷ ws)) >>=step λ w. enters code n w.0 w.1 w.2 line c) (one_word (word.Address b) (word.Address a) ws)

    -- what a call on a type may enter, and by which number the code finds it
    pub record Dispatched (o : Op) (q : Path) (t : StType) (i : Instance_at q t) (x : Routine) : Type 0 where
      pub number : ℕ
      pub code_is : CodeOf p fine is_there W first R code now base tables x number
      pub acts : (b : Address) (ws : List Word) (at free : ℕ) (kept : List Kept) (s : State) (m : Memory) → Now_shown free kept s m
          → act code now o line (cfg at (word.Address b ∷ (word.Address i.place.address ∷ ws)) s m) ≡ enters code number (Some i.place.address) (word.Address b ∷ []) ws line (cfg at (word.Address b ∷ (word.Address i.place.address ∷ ws)) s m)

    module _ (tables_are : TablesAre p fine is_there W first R code now base tables) where
      lives_at : (q : Path) (t : StType) (i : Instance_at q t) → HasInstance p i.class
      lives_at q t i = (q, i.name, i.fields, i.shape)

      -- a method by the class of the instance; the class of the text has one of this name
      pub method_dispatched : (d : ℕ) (name : List ℕ) (q : Path) (i : Instance_at q (type.Instance d)) (x y : Routine) → lookup p d name ≡ Some y → lookup p i.class name ≡ Some x → Dispatched (op.CallM d (tables.method_slot d name) 1) q (type.Instance d) i x
      method_dispatched d name q i x y e f =
          let a = tables_are.methods i.class d name x y (lives_at q (type.Instance d) i) i.meets e f in
          record { number = a.0; code_is = a.2; acts = λ b ws at free kept s m sh. by_class_acts d (tables.method_slot d name) a.0 q (type.Instance d) i b ws at free kept s m sh a.1 }

      pub interface_dispatched : (j : ℕ) (name : List ℕ) (q : Path) (i : Instance_at q (type.Interface j)) (x : Routine) → HasSignature p fine is_there W first R code now base tables j name → lookup p i.class name ≡ Some x → Dispatched (op.CallI j (tables.method_number j name) 1) q (type.Interface j) i x
      interface_dispatched j name q i x e f =
          let a = tables_are.of_interfaces i.class j name x (lives_at q (type.Interface j) i) i.meets e f in
          record { number = a.0; code_is = a.2; acts = λ b ws at free kept s m sh. by_interface_acts j (tables.method_number j name) a.0 q (type.Interface j) i b ws at free kept s m sh a.1 }

      pub body_dispatched : (d : ℕ) (q : Path) (i : Instance_at q (type.Instance d)) (x : Routine) → body_of p i.class ≡ Some x → Dispatched (op.CallM d tables.body_slot 1) q (type.Instance d) i x
      body_dispatched d q i x e =
          let a = tables_are.bodies i.class d x (lives_at q (type.Instance d) i) i.meets e in
          record { number = a.0; code_is = a.2; acts = λ b ws at free kept s m sh. by_class_acts d tables.body_slot a.0 q (type.Instance d) i b ws at free kept s m sh a.1 }

      pub super_dispatched : (d : ℕ) (name : List ℕ) (q : Path) (t : StType) (i : Instance_at q t) (x : Routine) → lookup p d name ≡ Some x → Dispatched (op.Call (tables.method_routine d name) 1) q t i x
      super_dispatched d name q t i x e = record { number = tables.method_routine d name; code_is = tables_are.upward d name x e; acts = λ b ws at free kept s m sh. fixed_acts (tables.method_routine d name) i.place.address b (cfg at (word.Address b ∷ (word.Address i.place.address ∷ ws)) s m) ws refl }

      pub super_body_dispatched : (d : ℕ) (q : Path) (t : StType) (i : Instance_at q t) (x : Routine) → body_of p d ≡ Some x → Dispatched (op.Call (tables.body_routine d) 1) q t i x
      super_body_dispatched d q t i x e = record { number = tables.body_routine d; code_is = tables_are.bases d x e; acts = λ b ws at free kept s m sh. fixed_acts (tables.body_routine d) i.place.address b (cfg at (word.Address b ∷ (word.Address i.place.address ∷ ws)) s m) ws refl }

    -- ---- a call on an instance: its target, its class, the routine found, and what is done with it

    -- the search of the meaning: by the class of the instance, or a fixed one
    abbrev pub finding : Bool → (ℕ → Option Routine) → Spot → Run Routine
    finding true find spot = class_at_spot p (enter p room) spot >>= λ c. there (find c)
    finding false find spot = there (find 0)

    pub member_run : {V : Type 0} (by_class : Bool) (find : ℕ → Option Routine) (t : StType) (target_of_call : Run Spot) (cp : List Cell) (run_of : Path → Routine → Run V) (after : V → List Word) (done : V → State → Memory → Type 0) (free : ℕ) (kept : List Kept) (pc end : ℕ) (ws : List Word) (s : State) (m : Memory)
        → Fair gs s → Stands code now r pc cp
        → (Stands code now r pc cp → From (cfg pc ws s m) (lands (pc + length cp) (λ spot. spot_word p base ls spot ∷ ws)) (Shows free kept) (target_of_call line s))
        → Typed_run target_of_call (λ spot. OnInstance p fine F W first first R (enter p room) reached k0.scope (scopes ks) spot × ((q : Path) → path_of spot ≡ Some q → Names p q t × F q.region × W q.region))
        → ((q : Path) (i : Instance_at q t) (u : State) (y : Memory) → W q.region → Fair gs u → Now_shown free kept u y → (x : Routine) → find (if by_class then i.class else 0) ≡ Some x
        → From (cfg (pc + length cp) (word.Address i.place.address ∷ ws) u y) (λ v t y. cfg end (after v) t y) done (run_of q x line u))
        → ((q : Path) (i : Instance_at q t) → (x : Routine) × (find (if by_class then i.class else 0) ≡ Some x))
        → From (cfg pc ws s m) (λ v t y. cfg end (after v) t y) done ((target_of_call >>= λ spot. there (path_of spot) >>= λ q. finding by_class find spot >>= λ x. run_of q x) line s)
    member_run by_class find t target_of_call cp run_of after done free kept pc end ws s m fair has runs typed goes finds =
        ex.bind p fine small is_there W first R code now base tables room reached k0 ks r own ar line own_there {m = target_of_call} (lands (pc + length cp) (λ spot. spot_word p base ls spot ∷ ws)) (Shows free kept) (runs has) typed fair (λ spot u y sh is fair'. at_spot spot u y sh is.0 is.1 fair')
      where
        found : (b : Bool) (q : Path) (i : Instance_at q t) (u : State) (y : Memory) → Now_shown free kept u y → (x : (x : Routine) × (find (if b then i.class else 0) ≡ Some x)) → (finding b find (in_store q) >>= λ x. run_of q x) line u ≡ run_of q x.0 line u
        found true q i u y sh x =
            ap (λ o. go_on (go_on o (λ c v. there (find c) line v)) (λ x v. run_of q x line v)) ((class_found q t i free kept u y sh).1 line)
            ∙ ap (λ o. go_on (there o line u) (λ x v. run_of q x line v)) x.1
        found false q i u y sh x = ap (λ o. go_on (there o line u) (λ x v. run_of q x line v)) x.1

        at_spot : (spot : Spot) (u : State) (y : Memory) → Now_shown free kept u y → OnInstance p fine F W first first R (enter p room) reached k0.scope (scopes ks) spot → ((q : Path) → path_of spot ≡ Some q → Names p q t × F q.region × W q.region) → Fair gs u
            → From (cfg (pc + length cp) (spot_word p base ls spot ∷ ws) u y) (λ v t y. cfg end (after v) t y) done ((there (path_of spot) >>= λ q. finding by_class find spot >>= λ x. run_of q x) line u)
        at_spot (in_frame d n ss) u y sh on is fair' = absurd (none_in_frame p fine F W gs u.frames d n ss on.0 fair'.frames on.1)
        at_spot (in_store q) u y sh on names fair' =
            let is = names q refl in
            let i = instance_at q t is.0 is.1 in
            let x = finds q i in
            ex.spot_leads p fine small is_there W first R code now base tables room reached k0 ks r own ar line own_there (pc + length cp) ws u y (in_store q) i.place i.is
            (ends.same_outcome code now (found by_class q i u y sh x) (goes q i u y is.2 fair' sh x.0 x.1))
