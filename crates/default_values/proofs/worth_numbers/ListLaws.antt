-- Lists that are put together from their ends.
use Rattle.std.proofs.Common.{◌≡◌, ℕ, zero, suc, ◌+◌, ◌<◌, List, [], ◌∷◌, ◌++◌, refl, sym, ap, ◌∙◌, ◌⊎◌, inl, inr, subst, arith}
use Rattle.std.specs.Prelude.{replicate}
use Rattle.st_unit_rules.specs.Worth.{Worth, some_parts, Worths, no_worths, worth_then}
use Rattle.default_values.specs.declared.worth_numbers.node.Node.{Node}
use Rattle.default_values.specs.declared.worth_numbers.node.Node.TheVariants.{Parts, End, Run}
use Rattle.default_values.specs.declared.worth_numbers.numbers.Listed.{Listed}
use Rattle.default_values.specs.worth_numbers.Numbers.{IsAt, Grows, IsApart, IsListOf, ended, run, HasWorth, AreWorths, IsRun, IsListed, HasParts, worths_before, Gives, GivesEmpty, GivesLonger, GivesWhole}
use Rattle.default_values.specs.worth_numbers.Private.Nodes.{Puts, Closes, Longer}
use Rattle.default_values.proofs.worth_numbers.TableLaws.{grows_self, grows_through, list_stays, worth_stays, worths_stay}

pub given_worth : (old new : List Node) (k : ℕ) (n : Node) (w : Worth) → (IsAt new k n → HasWorth new k w) → Puts old new k n → Gives old new k w
given_worth old new k n w f p = record { grows = p.grows; worth = f p.at }

pub empty_list : (old new : List Node) (rest : ℕ) → Puts old new rest End → GivesEmpty old new (record { count = 0; first = 0; rest = rest })
empty_list old new rest p = record {
  grows = p.grows;
  worths = record { parts = []; listed = record { behind = []; lists = ended rest p.at; run = refl; is = refl }; each = tt };
}

-- ---- a list as it stands

pub closed_none : (nodes : List Node) (l : Listed) → l.count ≡ 0 → Closes nodes nodes l l.rest
closed_none nodes l z = record { grows = grows_self nodes; lists = λ parts h. subst (λ (xs : List ℕ). IsListOf nodes l.rest xs) (sym (h.is ∙ ap (λ n. replicate n l.first ++ h.behind) z)) h.lists }

closed_run : (old new : List Node) (count first rest k : ℕ) → 0 < count → Puts old new k (Run count first rest)
    → (parts behind : List ℕ) → IsListOf old rest behind → IsRun count first behind → parts ≡ replicate count first ++ behind → IsListOf new k parts
closed_run old new zero first rest k z p parts behind l r e = absurd (omega (arith, z))
closed_run old new (suc c) first rest k z p parts behind l r e = run k c first rest behind parts p.at (list_stays old new p.grows rest behind l) r e

pub closed_some : (old new : List Node) (l : Listed) (k : ℕ) → 0 < l.count → Puts old new k (Run l.count l.first l.rest) → Closes old new l k
closed_some old new l k z p = record { grows = p.grows; lists = λ parts h. closed_run old new l.count l.first l.rest k z p parts h.behind h.lists h.run h.is }

-- ---- a list with more before it

apart_from : (c x first : ℕ) (behind : List ℕ) → (c ≡ 0) ⊎ (first ≡ x → ⊥) → IsRun c x behind → IsApart first (replicate c x ++ behind)
apart_from zero x first [] o r = tt
apart_from zero x first (y ∷ ys) o r = absurd (cc)
apart_from (suc c) x first behind (inl z) r = absurd (cc)
apart_from (suc c) x first behind (inr f) r = f

is_run : (count first : ℕ) (xs : List ℕ) → 0 < count → IsApart first xs → IsRun count first xs
is_run zero first xs z a = absurd (omega (arith, z))
is_run (suc c) first xs z a = a

pub begun_list : (old new : List Node) (count first : ℕ) (behind : Listed) (rest : ℕ) → 0 < count → (behind.count ≡ 0) ⊎ (first ≡ behind.first → ⊥)
    → Closes old new behind rest → Longer old new count first behind (record { count = count; first = first; rest = rest })
begun_list old new count first behind rest z o c = record {
  grows = c.grows;
  lists = λ parts h. record {
    behind = parts;
    lists = c.lists parts h;
    run = is_run count first parts z (subst (λ (xs : List ℕ). IsApart first xs) (sym h.is) (apart_from behind.count behind.first first h.behind o h.run));
    is = refl;
  };
}

joined : (count more x : ℕ) (xs : List ℕ) → replicate count x ++ (replicate more x ++ xs) ≡ replicate (more + count) x ++ xs
joined count more x xs = let e : count + more ≡ more + count = omega arith in by count ∙ ap (λ n. replicate n x ++ xs) e
  where
    by : (n : ℕ) → replicate n x ++ (replicate more x ++ xs) ≡ replicate (n + more) x ++ xs
    by zero = let e : more ≡ 0 + more = omega arith in ap (λ n. replicate n x ++ xs) e
    by (suc n) = let e : suc (n + more) ≡ suc n + more = omega arith in ap (λ ys. x ∷ ys) (by n) ∙ ap (λ m. replicate m x ++ xs) e

more_run : (count more x : ℕ) (xs : List ℕ) → 0 < more → IsRun more x xs → IsRun (more + count) x xs
more_run count zero x xs z r = absurd (omega (arith, z))
more_run count (suc c) x xs z r = let e : suc (c + count) ≡ suc c + count = omega arith in subst (λ (n : ℕ). IsRun n x xs) e r

pub longer_run : (nodes : List Node) (count first : ℕ) (behind : Listed) → 0 < behind.count → first ≡ behind.first
    → Longer nodes nodes count first behind (record { count = behind.count + count; first = behind.first; rest = behind.rest })
longer_run nodes count first behind z e = record {
  grows = grows_self nodes;
  lists = λ parts h. record {
    behind = h.behind;
    lists = h.lists;
    run = more_run count behind.count behind.first h.behind z h.run;
    is = (λ i. replicate count (e i) ++ h.is i) ∙ joined count behind.count behind.first h.behind;
  };
}

repeated : (nodes : List Node) (count first : ℕ) (w : Worth) (parts : List ℕ) (ws : Worths) → HasWorth nodes first w → AreWorths nodes parts ws → AreWorths nodes (replicate count first ++ parts) (worths_before count w ws)
repeated nodes zero first w parts ws h k = k
repeated nodes (suc n) first w parts ws h k = (h, repeated nodes n first w parts ws h k)

pub longer_worths : (old new : List Node) (count first : ℕ) (behind l : Listed) → Longer old new count first behind l → GivesLonger old new count first behind l
longer_worths old new count first behind l g = record {
  grows = g.grows;
  worths = λ w ws h k. record {
    parts = replicate count first ++ k.parts;
    listed = g.lists k.parts k.listed;
    each = repeated new count first w k.parts ws (worth_stays old new g.grows first w h) (worths_stay old new g.grows k.parts ws k.each);
  };
}

pub longer_none : (nodes : List Node) (count first : ℕ) (behind : Listed) → count ≡ 0 → GivesLonger nodes nodes count first behind behind
longer_none nodes count first behind z = record { grows = grows_self nodes; worths = λ w ws h k. subst (λ (n : ℕ). HasParts nodes behind (worths_before n w ws)) (sym z) k }

-- ---- a whole

pub whole_worth : (old mid new : List Node) (l : Listed) (list k : ℕ) → Closes old mid l list → Puts mid new k (Parts list) → GivesWhole old new l k
whole_worth old mid new l list k c p = record {
  grows = grows_through old mid new c.grows p.grows;
  worth = λ ws h. record {
    list = list;
    parts = h.parts;
    at = p.at;
    lists = list_stays mid new p.grows list h.parts (c.lists h.parts h.listed);
    each = worths_stay old new (grows_through old mid new c.grows p.grows) h.parts ws h.each;
  };
}
