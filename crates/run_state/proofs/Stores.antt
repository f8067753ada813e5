-- Regions and locals, read and written, and writes that are taken back.
use Rattle.std.proofs.Common.{◌≡◌, ℕ, Bool, true, false, List, [], ◌∷◌, ◌++◌, Option, Some, None, Result, Ok, Err, refl, sym, ap, ◌∙◌}
use Rattle.std.specs.Prelude.{slice_get, slice_set, map, option_map, is_some, OnOk}
use Rattle.std.proofs.lemmas.List.{map-set}
use Rattle.st_tree.specs.declared.path.Step.{Step}
use Rattle.st_tree.specs.declared.path.Path.{Path}
use Rattle.st_values.specs.Value.{Value, Store, Members, member, with_member, at, put, value_at, value_with, ◌>>=◌ as ◌>>?◌}
use Rattle.st_values.proofs.ValueLaws.{store_laws}
use Rattle.st_meaning.specs.ProcessImage.{or_same}
use Rattle.st_meaning.specs.State.{Spot, in_store, in_frame, holds, State, Done, there, read, write, held_in, held_by, frame_at, frame_value, frames_with, with_local, ◌>>=◌}
use Rattle.value_trees.specs.declared.value.Value.{Value as CodeValue}
use Rattle.value_trees.specs.declared.value.Member.{Member}
use Rattle.value_trees.specs.Value.{value_of, members_of}
use Rattle.value_trees.specs.Private.Parts.{MemberExchanged}
use Rattle.run_state.specs.declared.state.Slot.{Slot as CodeSlot}
use Rattle.run_state.specs.declared.state.Frame.{Frame as CodeFrame}
use Rattle.run_state.specs.declared.state.Undo.{Undo}
use Rattle.run_state.specs.State.{frame_of, slot_of, stack, undone, unwind, or_whole}
use Rattle.run_state.specs.Places.{spot_value, spot_with}
use Rattle.run_state.specs.Private.Log.{RegionPut, OkValue}
use Rattle.run_state.specs.Private.Writes.{SlotPut, LocalPut, written}
use Rattle.run_state.proofs.Stack.{stack-at, stack-with, local_is, no_local}

-- ---- reading and writing as one step

-- a value that may be there, and then what may be there in it
there_in : {A B : Type 0} (o : Option A) (f : A → Option B) (line : ℕ) (s : State) → ((λ line s. there o line s) >>= λ a. there (f a)) line s ≡ there (o >>? f) line s
there_in None f line s = refl
there_in (Some a) f line s = refl

pub read-is : (x : Spot) (line : ℕ) (s : State) → read x line s ≡ there (spot_value s x) line s
read-is (in_store q) line s = there_in (member s.store q.region) (λ v. value_at v q.steps) line s
read-is (in_frame d n ss) line s = there_in (frame_value (frame_at s.frames d) n) (λ v. value_at v ss) line s

pub write-is : (x : Spot) (new : Value) (line : ℕ) (s : State) → write x new line s ≡ written (spot_with s x new) line s
write-is (in_store q) new line s = by (member s.store q.region)
  where
    behind : (o : Option Value) → ((λ l t. there o l t) >>= λ w. λ l t. Done tt (record t { store = with_member t.store q.region w })) line s ≡ written (option_map (λ st. record s { store = st }) (o >>? λ w. Some (with_member s.store q.region w))) line s
    behind None = refl
    behind (Some w) = refl

    by : (o : Option Value) → ((λ l t. there o l t) >>= λ v. (λ l t. there (value_with v q.steps new) l t) >>= λ w. λ l t. Done tt (record t { store = with_member t.store q.region w })) line s
        ≡ written (option_map (λ st. record s { store = st }) (o >>? λ v. value_with v q.steps new >>? λ w. Some (with_member s.store q.region w))) line s
    by None = refl
    by (Some v) = behind (value_with v q.steps new)
write-is (in_frame d n ss) new line s = by (frame_value (frame_at s.frames d) n)
  where
    behind : (o : Option Value) → ((λ l t. there o l t) >>= λ w. λ l t. Done tt (record t { frames = with_local t.frames d n w (frame_at t.frames d) })) line s
        ≡ written (o >>? λ w. Some (record s { frames = with_local s.frames d n w (frame_at s.frames d) })) line s
    behind None = refl
    behind (Some w) = refl

    by : (o : Option Value) → ((λ l t. there o l t) >>= λ v. (λ l t. there (value_with v ss new) l t) >>= λ w. λ l t. Done tt (record t { frames = with_local t.frames d n w (frame_at t.frames d) })) line s
        ≡ written (o >>? λ v. value_with v ss new >>? λ w. Some (record s { frames = with_local s.frames d n w (frame_at s.frames d) })) line s
    by None = refl
    by (Some v) = behind (value_with v ss new)

-- ---- regions

lost : {A B C : Type 0} (o : Option A) (f : A → Option B) (g : B → Option C) → (o >>? f) ≡ None → (o >>? λ a. f a >>? g) ≡ None
lost None f g e = refl
lost (Some a) f g e = ap (λ q. q >>? g) e

pub region_put : (r : Result CodeValue CodeValue) (ms ms' : Members) (q : Path) (ss : List Step) (new : Value) → ss ≡ q.steps → MemberExchanged r ms q.region ss new ms' → RegionPut (OkValue r) ms q new ms'
region_put (Ok old) ms ms' q ss new e h =
    let reads : at ms q ≡ Some (value_of old) = ap (λ o. o >>? λ v. value_at v q.steps) h.there ∙ ap (value_at h.from) (sym e) ∙ h.reads in
    let writes : put ms q new ≡ Some ms' =
    ap (λ o. o >>? λ v. value_with v q.steps new >>? λ w. Some (with_member ms q.region w)) h.there
    ∙ ap (λ ts. value_with h.from ts new >>? λ w. Some (with_member ms q.region w)) (sym e)
    ∙ ap (λ o. o >>? λ w. Some (with_member ms q.region w)) h.writes
    ∙ ap Some (sym h.is) in
    (writes, store_laws.back ms ms' q (value_of old) new reads writes)
region_put (Err back) ms ms' q ss new e h =
    (ap (λ ts. member ms q.region >>? λ v. value_with v ts new >>? λ w. Some (with_member ms q.region w)) (sym e) ∙ lost (member ms q.region) (λ v. value_with v ss new) (λ w. Some (with_member ms q.region w)) h.writes, h.is)

pub no_region : (ms : Members) (q : Path) (new : Value) → member ms q.region ≡ None → RegionPut None ms q new ms
no_region ms q new e = (ap (λ o. o >>? λ v. value_with v q.steps new >>? λ w. Some (with_member ms q.region w)) e, refl)

-- ---- locals

kept : (o : Option CodeSlot) (x : CodeSlot) (ss : List Step) (new : Value) (a : Option Value) → o ≡ Some x → (held_in (slot_of x) >>? λ v. value_with v ss new) ≡ a → (held_by (option_map slot_of o) >>? λ v. value_with v ss new) ≡ a
kept o x ss new a e h = ap (λ p. held_by (option_map slot_of p) >>? λ v. value_with v ss new) e ∙ h

-- a slot of a call was written, or not
pub local_put : (done : Bool) (fs : List CodeFrame) (d n : ℕ) (ss : List Step) (new : Value) (f : CodeFrame) (x x' : CodeSlot) → slice_get fs d ≡ Some f → slice_get f.locals n ≡ Some x
    → SlotPut done (slot_of x) ss new (slot_of x') → LocalPut done (stack [] fs) d n ss new (stack [] (slice_set fs d (record f { locals = slice_set f.locals n x' })))
local_put true fs d n ss new f x x' e k h =
    let g = record f { locals = slice_set f.locals n x' } in
    let is : frame_of g ≡ record (frame_of f) { locals = slice_set (frame_of f).locals n (holds h.0) } = ap (λ l. record (frame_of f) { locals = l }) (map-set slot_of f.locals n x' ∙ ap (slice_set (map slot_of f.locals) n) h.2) in (
      h.0,
      ap (λ o. o >>? λ v. value_with v ss new) (local_is fs d n f (Some x) e k) ∙ h.1,
      sym (ap (with_local (stack [] fs) d n h.0) (stack-at fs d ∙ ap (option_map frame_of) e) ∙ ap (frames_with (stack [] fs) d) (sym is) ∙ stack-with fs d g),
    )
local_put false fs d n ss new f x x' e k h = ap (λ o. o >>? λ v. value_with v ss new) (local_is fs d n f (Some x) e k) ∙ h

pub no_slot : (fs : List CodeFrame) (d n : ℕ) (ss : List Step) (new : Value) (f : CodeFrame) → slice_get fs d ≡ Some f → slice_get f.locals n ≡ None → LocalPut false (stack [] fs) d n ss new (stack [] fs)
no_slot fs d n ss new f e k = ap (λ o. o >>? λ v. value_with v ss new) (local_is fs d n f None e k)

pub no_frame : (fs : List CodeFrame) (d n : ℕ) (ss : List Step) (new : Value) → slice_get fs d ≡ None → LocalPut false (stack [] fs) d n ss new (stack [] fs)
no_frame fs d n ss new e = ap (λ o. o >>? λ v. value_with v ss new) (no_local fs d n e)

-- ---- what takes writes back

unwind-push : (us : List Undo) (u : Undo) (s : Store) → unwind (us ++ u ∷ []) s ≡ unwind us (undone u s)
unwind-push [] u s = refl
unwind-push (x ∷ us) u s = ap (undone x) (unwind-push us u s)

-- a value is kept
pub added : (whole : Option (List Member)) (us us' : List Undo) (q q' : Path) (old : CodeValue) (s : Store) → us' ≡ us ++ record { path = q'; old = old } ∷ [] → q' ≡ q
    → or_whole whole (unwind us' s) ≡ or_whole whole (unwind us (undone (record { path = q; old = old }) s))
added whole us us' q q' old s e p =
    ap (or_whole whole) (ap (λ us. unwind us s) e ∙ unwind-push us (record { path = q'; old = old }) s ∙ ap (λ q. unwind us (undone (record { path = q; old = old }) s)) p)

-- where the store is known as a whole, nothing is to be kept
pub known : (whole : Option (List Member)) (us : List Undo) (s t : Store) → is_some whole ≡ true → or_whole whole (unwind us s) ≡ or_whole whole (unwind us t)
known None us s t e = absurd cc
known (Some ms) us s t e = refl

pub not_known : (whole : Option (List Member)) → is_some whole ≡ false → whole ≡ None
not_known None e = refl
not_known (Some ms) e = absurd cc

pub ok_behind : {T E : Type 0} (r : Result T E) (a b c : Store) → OnOk r (a ≡ b) → b ≡ c → OnOk r (a ≡ c)
ok_behind (Ok x) a b c h e = h ∙ e
ok_behind (Err x) a b c h e = h

-- a copy from which all is taken back is the store as a whole
pub shortened : (whole : Option (List Member)) (us : List Undo) (first copy store : List Member) → whole ≡ None → copy ≡ store → members_of first ≡ unwind us (members_of copy) → members_of first ≡ or_whole whole (unwind us (members_of store))
shortened whole us first copy store n e h = h ∙ ap (λ ms. unwind us (members_of ms)) e ∙ sym (ap (λ o. or_whole o (unwind us (members_of store))) n)

pub whole_is : (whole : Option (List Member)) (ms : List Member) (s : Store) → whole ≡ Some ms → members_of ms ≡ or_whole whole s
whole_is whole ms s e = sym (ap (λ o. or_whole o s) e)

-- a region was written, and that is remembered
pub remembered : (whole : Option (List Member)) (us : List Undo) (q : Path) (old : CodeValue) (was is first : Store) → put is q (value_of old) ≡ Some was → first ≡ or_whole whole (unwind us (undone (record { path = q; old = old }) is)) → first ≡ or_whole whole (unwind us was)
remembered whole us q old was is first e h = h ∙ ap (λ o. or_whole whole (unwind us (or_same is o))) e

-- the last replacement is taken back
pub restored : (r : Option CodeValue) (u : Undo) (before after : Store) → RegionPut r before u.path (value_of u.old) after → after ≡ undone u before
restored (Some old) u before after h = sym (ap (or_same before) h.0)
restored None u before after h = h.1 ∙ sym (ap (or_same before) h.0)

pub rolled : (us : List Undo) (u : Undo) (before after : Store) → after ≡ undone u before → unwind us after ≡ unwind (us ++ u ∷ []) before
rolled us u before after h = ap (unwind us) h ∙ sym (unwind-push us u before)
