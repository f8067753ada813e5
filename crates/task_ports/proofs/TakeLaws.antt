-- Ports that are added one after another.
use Rattle.std.proofs.Common.{◌≡◌, ◌+◌, ◌<◌, ◌≤◌, ◌^◌, ℕ, Bool, true, false, List, [], ◌∷◌, ◌++◌, Option, Some, None, refl, sym, ap, ◌∙◌, subst, length, arith, append_assoc, append-nil, drop, get_or}
use Rattle.std.specs.Prelude.{max, filter, if◌then◌else◌}
use Rattle.st_types.specs.declared.elem.Elem.{Elem}
use Rattle.st_tree.specs.Address.{width_of, bit_of}
use Rattle.mem_image.specs.declared.at.At.{At}
use Rattle.st_rules.proofs.ListLaws.{drop-at, drop-end}
use Rattle.st_values.specs.Program.{Program}
use Rattle.st_values.specs.Value.{◌>>=◌}
use Rattle.st_values.specs.Shape.{Shape, Elementary, shape_at, region_shape, path_shape}
use Rattle.st_values.proofs.ValueLaws.{then_some, one_some}
use Rattle.st_meaning.specs.ProcessImage.{Located, is_shown, first_byte, size_of, covered}
use Rattle.process_image.specs.declared.located.Located.{Located as CodeLocated}
use Rattle.process_image.specs.Located.{seen, all_seen}
use Rattle.mem_layout.specs.Layout.{IsPlace}
use Rattle.mem_layout.specs.store_bytes.Place.{Place, place_of, inner_place}
use Rattle.mem_layout.proofs.store_bytes.Apart.{place_laws}
use Rattle.task_ports.specs.declared.ports.Port.{Port}
use Rattle.task_ports.specs.TaskPorts.{IsPort, ArePorts, is_latched, ArePortsAmong, IsAt, AllAt}
use Rattle.task_ports.specs.Private.Takes.{Takes, Taken, Collecting}

-- ---- one port

place_is : (p : Program) (l : Located) (at : At) → IsAt p l → IsPlace p l.path at → place_of (region_shape p) l.path ≡ Some (record { offset = at.offset; shape = Elementary l.elem })
place_is p l at h i =
    let a = then_some (region_shape p l.path.region) (λ sh. shape_at sh l.path.steps) (Elementary l.elem) h.number in
    let n = place_laws.has a.0 (Elementary l.elem) l.path.steps a.2 in
    let is : place_of (region_shape p) l.path ≡ Some (record { offset = n.0; shape = Elementary l.elem }) = ap (λ o. o >>= λ sh. inner_place sh l.path.steps) a.1 ∙ n.1 in
    let same : i.place ≡ record { offset = n.0; shape = Elementary l.elem } = one_some (place_of (region_shape p) l.path) i.place (record { offset = n.0; shape = Elementary l.elem }) i.is is in
    is ∙ ap (λ m. Some (record { offset = m; shape = Elementary l.elem })) (sym (i.offset ∙ ap (λ x. x.offset) same))

pub port_is : (p : Program) (x : Port) (l : Located) (at : At) → IsAt p l → IsPlace p l.path at → x.region ≡ at.region → x.offset ≡ at.offset → x.elem ≡ l.elem → x.first ≡ first_byte l.address → x.width ≡ width_of l.address → x.weight ≡ 2 ^ bit_of l.address → IsPort p x l
port_is p x l at h i r o e f w t = record {
  region = r ∙ i.region;
  elem = e;
  first = f;
  width = w;
  weight = t;
  place = place_is p l at h i ∙ ap (λ m. Some (record { offset = m; shape = Elementary l.elem })) (sym o);
}

-- ---- one more

none_passes : (f : Located → Bool) (l : Located) → f l ≡ false → filter f (l ∷ []) ≡ []
none_passes f l e = ap (λ b. if b then l ∷ [] else []) e

one_passes : (f : Located → Bool) (l : Located) → f l ≡ true → filter f (l ∷ []) ≡ l ∷ []
one_passes f l e = ap (λ b. if b then l ∷ [] else []) e

pub taken_not : (p : Program) (f : Located → Bool) (l : Located) (old : List Port) → f l ≡ false → Takes p f l old old
taken_not p f l old e = record { ports = λ h. ([], sym (append-nil old), subst (ArePorts p []) (sym (none_passes f l e)) tt) }

pub taken_one : (p : Program) (f : Located → Bool) (l : Located) (old new : List Port) (x : Port) → f l ≡ true → new ≡ old ++ x ∷ [] → (IsAt p l → IsPort p x l) → Takes p f l old new
taken_one p f l old new x e a is = record { ports = λ h. (x ∷ [], a, subst (ArePorts p (x ∷ [])) (sym (one_passes f l e)) (is h, tt)) }

joined : (p : Program) (f : Located → Bool) (l : Located) (ls : List Located) (xs ys : List Port) → ArePorts p xs (filter f (l ∷ [])) → ArePorts p ys (filter f ls) → ArePorts p (xs ++ ys) (filter f (l ∷ ls))
joined p f l ls xs ys a b = by (f l) xs a
  where
    by : (c : Bool) (zs : List Port) → ArePorts p zs (if c then l ∷ [] else []) → ArePorts p (zs ++ ys) (if c then l ∷ filter f ls else filter f ls)
    by false [] h = b
    by false (z ∷ zs) h = absurd h
    by true [] h = absurd h
    by true (z ∷ []) h = (h.0, b)
    by true (z ∷ y ∷ zs) h = absurd h.1

taken_begun : (p : Program) (f : Located → Bool) (all : List Located) → Taken p f all all []
taken_begun p f all = record { at = λ h. h; whole = λ h ys a. a }

taken_next : (p : Program) (f : Located → Bool) (all ls : List Located) (l : Located) (old new : List Port) → Taken p f all (l ∷ ls) old → Takes p f l old new → Taken p f all ls new
taken_next p f all ls l old new t k = record {
  at = λ h. (t.at h).1;
  whole = λ h ys a.
      let one = k.ports (t.at h).0 in
      subst (λ zs. ArePorts p zs (filter f all)) (sym (ap (λ zs. zs ++ ys) one.1 ∙ append_assoc old one.0 ys)) (t.whole h (one.0 ++ ys) (joined p f l ls one.0 ys one.2 a));
}

taken_ended : (p : Program) (f : Located → Bool) (all : List Located) (xs : List Port) → Taken p f all [] xs → AllAt p all → ArePorts p xs (filter f all)
taken_ended p f all xs t h = subst (λ zs. ArePorts p zs (filter f all)) (append-nil xs) (t.whole h [] tt)

-- ---- the loop

collecting_begun : (p : Program) (fs : List ℕ) (all : List CodeLocated) → Collecting p fs (all_seen all) (all_seen all) [] [] 0
collecting_begun p fs all = record { latched = taken_begun p (is_latched fs) (all_seen all); shown = taken_begun p (is_shown fs) (all_seen all); covers = omega arith }

collecting_next : (p : Program) (fs : List ℕ) (all ps qs : List CodeLocated) (x : CodeLocated) (inputs outputs inputs' outputs' : List Port) (end n end' : ℕ) → Collecting p fs (all_seen all) (all_seen ps) inputs outputs end → ps ≡ x ∷ qs
    → Takes p (is_latched fs) (seen x) inputs inputs' → Takes p (is_shown fs) (seen x) outputs outputs' → n ≡ (if is_shown fs (seen x) then first_byte x.address.now + size_of x.address.now else 0) → end' ≡ max n end
    → Collecting p fs (all_seen all) (all_seen qs) inputs' outputs' end'
collecting_next p fs all ps qs x inputs outputs inputs' outputs' end n end' c e a b k m =
    let d : Collecting p fs (all_seen all) (seen x ∷ all_seen qs) inputs outputs end = subst (λ ys. Collecting p fs (all_seen all) (all_seen ys) inputs outputs end) e c in
    record {
      latched = taken_next p (is_latched fs) (all_seen all) (all_seen qs) (seen x) inputs inputs' d.latched a;
      shown = taken_next p (is_shown fs) (all_seen all) (all_seen qs) (seen x) outputs outputs' d.shown b;
      covers =
          (let s : max end (max (if is_shown fs (seen x) then first_byte x.address.now + size_of x.address.now else 0) (covered (all_seen qs) fs)) ≡ covered (all_seen all) fs = d.covers in
          omega arith);
    }

collecting_ended : (p : Program) (fs : List ℕ) (all ps : List CodeLocated) (inputs outputs : List Port) (end : ℕ) → Collecting p fs (all_seen all) (all_seen ps) inputs outputs end → ps ≡ [] → AllAt p (all_seen all)
    → ArePortsAmong p (all_seen all) fs inputs outputs end
collecting_ended p fs all ps inputs outputs end c e h =
    let d : Collecting p fs (all_seen all) [] inputs outputs end = subst (λ ys. Collecting p fs (all_seen all) (all_seen ys) inputs outputs end) e c in
    record {
      latched = taken_ended p (is_latched fs) (all_seen all) inputs d.latched h;
      shown = taken_ended p (is_shown fs) (all_seen all) outputs d.shown h;
      ends = (let s = d.covers in let z : covered [] fs ≡ 0 = refl in omega arith);
    }

-- by the number of the next variable
pub taking_begun : (p : Program) (fs : List ℕ) (all : List CodeLocated) (xs ys : List Port) → xs ≡ [] → ys ≡ [] → Collecting p fs (all_seen all) (all_seen all) xs ys 0
taking_begun p fs all xs ys e f = subst (λ us. Collecting p fs (all_seen all) (all_seen all) us ys 0) (sym e) (subst (λ us. Collecting p fs (all_seen all) (all_seen all) [] us 0) (sym f) (collecting_begun p fs all))

pub taking_next : (p : Program) (fs : List ℕ) (all : List CodeLocated) (k : ℕ) (x : CodeLocated) (inputs outputs inputs' outputs' : List Port) (end n end' : ℕ) → k < length all → x ≡ get_or all k x
    → Collecting p fs (all_seen all) (all_seen (drop k all)) inputs outputs end → Takes p (is_latched fs) (seen x) inputs inputs' → Takes p (is_shown fs) (seen x) outputs outputs'
    → n ≡ (if is_shown fs (seen x) then first_byte x.address.now + size_of x.address.now else 0) → end' ≡ max n end → Collecting p fs (all_seen all) (all_seen (drop (k + 1) all)) inputs' outputs' end'
taking_next p fs all k x inputs outputs inputs' outputs' end n end' l is c a b m e = collecting_next p fs all (drop k all) (drop (k + 1) all) x inputs outputs inputs' outputs' end n end' c (drop-at all k x l is) a b m e

pub taking_ended : (p : Program) (fs : List ℕ) (all : List CodeLocated) (k : ℕ) (inputs outputs : List Port) (end : ℕ) → length all ≤ k → Collecting p fs (all_seen all) (all_seen (drop k all)) inputs outputs end → AllAt p (all_seen all)
    → ArePortsAmong p (all_seen all) fs inputs outputs end
taking_ended p fs all k inputs outputs end l c h = collecting_ended p fs all (drop k all) inputs outputs end c (drop-end all k l) h
