-- Signatures that are alike differ from others that are alike in the same way.
use Rattle.std.proofs.Common.{◌≡◌, ℕ, zero, suc, Bool, true, false, List, [], ◌∷◌, Option, Some, None, refl, sym, ap, ◌∙◌, cond}
use Rattle.std.specs.Prelude.{not, ◌&&◌, codes, if◌then◌else◌, option_and_then, slice_get}
use Rattle.plc_text.specs.Words.{same}
use Rattle.st_rules.specs.declared.ids.MethodId.{MethodId}
use Rattle.st_rules.specs.declared.ids.PrototypeId.{PrototypeId}
use Rattle.st_rules.specs.declared.signature.Parameter.{Parameter}
use Rattle.st_rules.specs.declared.signature.Signature.{Signature}
use Rattle.st_rules.specs.declared.signature.Signatures.{Signatures}
use Rattle.st_rules.specs.Types.{same_type}
use Rattle.st_rules.specs.Signatures.{same_if_told, same_sort, same_result, same_parameter, same_parameters, same_signature, differ, signature_of, prototype_signature, hook_input, hook_with, init_inputs, exit_inputs, hook_signature}
use Rattle.default_values.specs.numbered_signatures.Alike.{IsAlikeIfTold, AreAlike, IsAlikeParameter, IsAlike, AreAllAlike}

get_alike : {X Y : Type 0} (R : X → Y → Type 0) (xs : List X) (ys : List Y) (n : ℕ) → AreAlike R xs ys → IsAlikeIfTold R (slice_get xs n) (slice_get ys n)
get_alike R [] [] n h = tt
get_alike R [] (y ∷ ys) n h = absurd h
get_alike R (x ∷ xs) [] n h = absurd h
get_alike R (x ∷ xs) (y ∷ ys) zero h = h.0
get_alike R (x ∷ xs) (y ∷ ys) (suc n) h = get_alike R xs ys n h.1

get_in : {X Y : Type 0} (R : X → Y → Type 0) (o : Option (List X)) (p : Option (List Y)) (n : ℕ) → IsAlikeIfTold (AreAlike R) o p
    → IsAlikeIfTold R (option_and_then (λ xs. slice_get xs n) o) (option_and_then (λ ys. slice_get ys n) p)
get_in R None None n h = tt
get_in R None (Some ys) n h = absurd h
get_in R (Some xs) None n h = absurd h
get_in R (Some xs) (Some ys) n h = get_alike R xs ys n h

if_alike : {X Y : Type 0} (R : X → Y → Type 0) (b : Bool) (o p : Option X) (q r : Option Y) → IsAlikeIfTold R o q → IsAlikeIfTold R p r → IsAlikeIfTold R (if b then o else p) (if b then q else r)
if_alike R true o p q r h k = h
if_alike R false o p q r h k = k

module _ {V W : Type 0} (same_v : V → V → Bool) (same_w : W → W → Bool) (Tells : V → W → Type 0)
    (tells : (a b : V) (v w : W) → Tells a v → Tells b w → same_v a b ≡ same_w v w) where
  told_alike : (a b : Option V) (v w : Option W) → IsAlikeIfTold Tells a v → IsAlikeIfTold Tells b w → same_if_told same_v a b ≡ same_if_told same_w v w
  told_alike None b None w h k = refl
  told_alike None b (Some v) w h k = absurd h
  told_alike (Some a) b None w h k = absurd h
  told_alike (Some a) None (Some v) None h k = refl
  told_alike (Some a) None (Some v) (Some w) h k = absurd k
  told_alike (Some a) (Some b) (Some v) None h k = absurd k
  told_alike (Some a) (Some b) (Some v) (Some w) h k = tells a b v w h k

  parameter_alike : (a b : Parameter V) (v w : Parameter W) → IsAlikeParameter Tells a v → IsAlikeParameter Tells b w → same_parameter same_v a b ≡ same_parameter same_w v w
  parameter_alike a b v w h k =
      let i = told_alike a.initial b.initial v.initial w.initial h.initial k.initial in
      λ j. same_sort (h.sort j) (k.sort j) && same (h.name j) (k.name j) && same_if_told same_type (h.kind j) (k.kind j) && i j

  parameters_alike : (ps bs : List (Parameter V)) (vs ws : List (Parameter W)) → AreAlike (IsAlikeParameter Tells) ps vs → AreAlike (IsAlikeParameter Tells) bs ws → same_parameters same_v ps bs ≡ same_parameters same_w vs ws
  parameters_alike [] [] [] [] h k = refl
  parameters_alike [] [] [] (w ∷ ws) h k = absurd k
  parameters_alike [] [] (v ∷ vs) ws h k = absurd h
  parameters_alike [] (b ∷ bs) [] [] h k = absurd k
  parameters_alike [] (b ∷ bs) [] (w ∷ ws) h k = refl
  parameters_alike [] (b ∷ bs) (v ∷ vs) ws h k = absurd h
  parameters_alike (a ∷ ps) bs [] ws h k = absurd h
  parameters_alike (a ∷ ps) [] (v ∷ vs) [] h k = refl
  parameters_alike (a ∷ ps) [] (v ∷ vs) (w ∷ ws) h k = absurd k
  parameters_alike (a ∷ ps) (b ∷ bs) (v ∷ vs) [] h k = absurd k
  parameters_alike (a ∷ ps) (b ∷ bs) (v ∷ vs) (w ∷ ws) h k =
      let p = parameter_alike a b v w h.0 k.0 in
      let q = parameters_alike ps bs vs ws h.1 k.1 in
      λ j. p j && q j

  signature_alike : (a b : Signature V) (v w : Signature W) → IsAlike Tells a v → IsAlike Tells b w → same_signature same_v a b ≡ same_signature same_w v w
  signature_alike a b v w h k =
      let p = parameters_alike a.parameters b.parameters v.parameters w.parameters h.parameters k.parameters in
      λ j. same_result (h.result j) (k.result j) && p j

  differ_alike : (a b : Option (Signature V)) (v w : Option (Signature W)) → IsAlikeIfTold (IsAlike Tells) a v → IsAlikeIfTold (IsAlike Tells) b w → differ same_v a b ≡ differ same_w v w
  differ_alike None b None w h k = refl
  differ_alike None b (Some v) w h k = absurd h
  differ_alike (Some a) b None w h k = absurd h
  differ_alike (Some a) None (Some v) None h k = refl
  differ_alike (Some a) None (Some v) (Some w) h k = absurd k
  differ_alike (Some a) (Some b) (Some v) None h k = absurd k
  differ_alike (Some a) (Some b) (Some v) (Some w) h k = ap not (signature_alike a b v w h k)

  -- ---- the signatures of hooks

  input_alike : (f : V) (g : W) (name : List ℕ) → Tells f g → IsAlikeParameter Tells (hook_input f name) (hook_input g name)
  input_alike f g name h = record { sort = refl; name = refl; kind = refl; initial = h }

  with_alike : (ps : List (Parameter V)) (vs : List (Parameter W)) → AreAlike (IsAlikeParameter Tells) ps vs → IsAlike Tells (hook_with ps) (hook_with vs)
  with_alike ps vs h = record { result = refl; parameters = h }

  pub hook_alike : (f : V) (g : W) (name : List ℕ) → Tells f g → IsAlikeIfTold (IsAlike Tells) (hook_signature f name) (hook_signature g name)
  hook_alike f g name h =
      if_alike (IsAlike Tells) (same name (codes "FB_INIT")) _ _ _ _ (with_alike (init_inputs f) (init_inputs g) (input_alike f g (codes "BINITRETAINS") h, (input_alike f g (codes "BINCOPYCODE") h, tt)))
      (if_alike (IsAlike Tells) (same name (codes "FB_EXIT")) _ _ _ _ (with_alike (exit_inputs f) (exit_inputs g) (input_alike f g (codes "BINCOPYCODE") h, tt))
      (if_alike (IsAlike Tells) (same name (codes "FB_REINIT")) _ _ _ _ (with_alike [] [] tt) tt))

  -- ---- signatures by number

  module _ (vs : Signatures V) (ws : Signatures W) (alike : AreAllAlike Tells vs ws) where
    method_alike : (id : MethodId) → IsAlikeIfTold (IsAlike Tells) (signature_of vs id) (signature_of ws id)
    method_alike id = get_in (IsAlike Tells) (slice_get vs.methods id.class) (slice_get ws.methods id.class) id.method (get_alike (AreAlike (IsAlike Tells)) vs.methods ws.methods id.class alike.methods)

    maybe_alike : (o : Option MethodId) → IsAlikeIfTold (IsAlike Tells) (option_and_then (signature_of vs) o) (option_and_then (signature_of ws) o)
    maybe_alike None = tt
    maybe_alike (Some id) = method_alike id

    prototype_alike : (id : PrototypeId) → IsAlikeIfTold (IsAlike Tells) (prototype_signature vs id) (prototype_signature ws id)
    prototype_alike id = get_in (IsAlike Tells) (slice_get vs.prototypes id.interface) (slice_get ws.prototypes id.interface) id.method (get_alike (AreAlike (IsAlike Tells)) vs.prototypes ws.prototypes id.interface alike.prototypes)

    pub overriding_alike : (id : MethodId) (over : Option MethodId) → differ same_v (signature_of vs id) (option_and_then (signature_of vs) over) ≡ differ same_w (signature_of ws id) (option_and_then (signature_of ws) over)
    overriding_alike id over = differ_alike (signature_of vs id) (option_and_then (signature_of vs) over) (signature_of ws id) (option_and_then (signature_of ws) over) (method_alike id) (maybe_alike over)

    pub asked_alike : (id : MethodId) (name : List ℕ) → differ same_v (signature_of vs id) (hook_signature vs.falsehood name) ≡ differ same_w (signature_of ws id) (hook_signature ws.falsehood name)
    asked_alike id name = differ_alike (signature_of vs id) (hook_signature vs.falsehood name) (signature_of ws id) (hook_signature ws.falsehood name) (method_alike id) (hook_alike vs.falsehood ws.falsehood name alike.falsehood)

    pub meeting_alike : (id : MethodId) (p : PrototypeId) → differ same_v (signature_of vs id) (prototype_signature vs p) ≡ differ same_w (signature_of ws id) (prototype_signature ws p)
    meeting_alike id p = differ_alike (signature_of vs id) (prototype_signature vs p) (signature_of ws id) (prototype_signature ws p) (method_alike id) (prototype_alike p)
