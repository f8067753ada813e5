-- What the tables tell of a region is what it holds.
use Rattle.std.proofs.Common.{◌≡◌, ◌≤◌, ◌<◌, ℕ, ◌+◌, Bool, true, false, List, length, Option, Some, None, refl, sym, ap, ◌∙◌, arith}
use Rattle.std.specs.Prelude.{slice_get, option_map, option_and_then}
use Rattle.std.specs.Bool.{Decides}
use Rattle.std.proofs.lemmas.Option.{slice_get-map}
use Rattle.graph_reach.specs.Reach.{ahead_in}
use Rattle.st_tree.specs.declared.program.Program.{Program as CheckedProgram}
use Rattle.st_tree.specs.declared.program.RegionDecl.{RegionDecl}
use Rattle.st_rules.proofs.Booleans.{false≢true}
use Rattle.st_values.specs.Program.{Program}
use Rattle.st_values.specs.Value.{◌>>=◌}
use Rattle.st_values.specs.View.{program_of, region_of}
use Rattle.st_values.specs.Shape.{Shape, Instance, shape_of, shape_at, region_shape}
use Rattle.st_values.specs.ShapeLaws.{Unfolds}
use Rattle.st_values.proofs.ValueLaws.{then_some}
use Rattle.st_meaning.proofs.st_frame.Unfolded.{within_bound}
use Rattle.region_instances.specs.declared.held.Counts.{Counts}
use Rattle.region_instances.specs.Instances.{HoldsInstance, RegionsUnfold}
use Rattle.region_instances.specs.Private.Held.{node_of}
use Rattle.region_instances.specs.Private.Graph.{nodes_of, lists_of}
use Rattle.region_instances.specs.Private.Instances.{region_node, leads, node_at, AreRows}
use Rattle.region_instances.proofs.EdgeLaws.{list_count, class_ahead, structure_ahead, node_of_below}
use Rattle.region_instances.proofs.HoldLaws.{IsGraph, Reaches, reached, stands}

module _ (q : CheckedProgram) (counts : Counts) (rows : List (List ℕ)) (nodes : List (Option ℕ)) (is : AreRows q counts rows nodes) where
  abbrev p : Program
  p = program_of q

  abbrev ahead : ℕ → List ℕ
  ahead = ahead_in (lists_of counts is.members)

  graph : IsGraph p counts ahead
  graph = record {
    classes = λ c l. class_ahead counts is.members c (let n = is.classes in let w = l in omega (arith, n, w)) ∙ ap (nodes_of counts) (is.holds.classes c);
    structures = λ n. ap (λ m. ahead_in (lists_of counts is.members) (m + n)) is.classes ∙ structure_ahead counts is.members n ∙ ap (nodes_of counts) (is.holds.structures n);
    all_classes = let a = is.holds.all_classes in let n = is.classes in omega (arith, a, n);
    all_structures = let a = is.holds.all_structures in let n = is.structures in omega (arith, a, n);
  }

  region_there : (r : ℕ) → slice_get p.regions r ≡ option_map region_of (slice_get q.regions r)
  region_there r = slice_get-map region_of q.regions r

  node_there : (r : ℕ) → node_at nodes r ≡ option_and_then (region_node counts) (slice_get q.regions r)
  node_there r = ap (λ ns. node_at ns r) is.nodes-are ∙ ap (option_and_then (λ (n : Option ℕ). n)) (slice_get-map (region_node counts) q.regions r) ∙ at (slice_get q.regions r)
    where
      at : (o : Option RegionDecl) → option_and_then (λ (n : Option ℕ). n) (option_map (region_node counts) o) ≡ option_and_then (region_node counts) o
      at None = refl
      at (Some d) = refl

  -- a region that has a node
  record Known (r node : ℕ) : Type 0 where
    decl : RegionDecl
    there : slice_get q.regions r ≡ Some decl
    is-node : node_of counts decl.kind ≡ Some node

  known : (r node : ℕ) → node_at nodes r ≡ Some node → Known r node
  known r node e = at (slice_get q.regions r) refl (sym (node_there r) ∙ e)
    where
      at : (o : Option RegionDecl) → slice_get q.regions r ≡ o → option_and_then (region_node counts) o ≡ Some node → Known r node
      at None h f = cc
      at (Some d) h f = record { decl = d; there = h; is-node = f }

  shape_is : (r : ℕ) (d : RegionDecl) (sh : Shape) → slice_get q.regions r ≡ Some d → region_shape p r ≡ Some sh → Unfolds p d.kind sh
  shape_is r d sh e s =
      within_bound p d.kind sh (sym (ap (λ o. o >>= λ x. shape_of p x.variable.kind) (region_there r ∙ ap (option_map region_of) e)) ∙ s)

  reached_is : (node c : ℕ) (t : RegionDecl) → node_of counts t.kind ≡ Some node → c < counts.classes → node < length (lists_of counts is.members)
  reached_is node c t e l =
      let b = node_of_below counts t.kind node e in
      let n = list_count counts is.members in
      let x = is.classes in let y = is.structures in
      omega (arith, b, n, x, y)

  yes : (r node c : ℕ) → RegionsUnfold p → Known r node → c < counts.classes → leads rows node c ≡ true → HoldsInstance p r c
  yes r node c u k l h =
      let s = u.shapes r (region_of k.decl) (region_there r ∙ ap (option_map region_of) k.there) in
      let way = (is.reached.decided node c (reached_is node c k.decl k.is-node l) l).0 h in
      let i = stands p counts ahead graph node c way k.decl.kind s.0 (shape_is r k.decl s.0 k.there s.1) k.is-node l in
      record {
        path = record { region = r; steps = i.steps };
        inside = refl;
        name = i.name;
        fields = i.fields;
        there = ap (λ o. o >>= λ sh. shape_at sh i.steps) s.1 ∙ i.there;
      }

  -- what a region that holds an instance has
  record Led (r c : ℕ) : Type 0 where
    node : ℕ
    found : node_at nodes r ≡ Some node
    led : leads rows node c ≡ true
    below : c < counts.classes

  led_at : (r c : ℕ) (d : RegionDecl) → slice_get q.regions r ≡ Some d → Reaches p counts ahead d.kind c → Led r c
  led_at r c d e m = record {
    node = m.node;
    found = node_there r ∙ ap (option_and_then (region_node counts)) e ∙ m.is;
    led = (is.reached.decided m.node c (reached_is m.node c d m.is m.below) m.below).1 m.way;
    below = m.below;
  }

  led : (r c : ℕ) → HoldsInstance p r c → Led r c
  led r c h =
      let a = then_some (region_shape p h.path.region) (λ sh. shape_at sh h.path.steps) (Instance c h.name h.fields) h.there in
      at (slice_get q.regions r) refl a.0 (ap (region_shape p) (sym h.inside) ∙ a.1) a.2
    where
      at : (o : Option RegionDecl) → slice_get q.regions r ≡ o → (sh : Shape) → region_shape p r ≡ Some sh → shape_at sh h.path.steps ≡ Some (Instance c h.name h.fields) → Led r c
      at None e sh s w = let x = sym (ap (λ o. o >>= λ x. shape_of p x.variable.kind) (region_there r ∙ ap (option_map region_of) e)) ∙ s in cc
      at (Some d) e sh s w = led_at r c d e (reached p counts ahead graph h.path.steps c h.name h.fields d.kind sh (shape_is r d sh e s) w)

  pub no_class : (r c : ℕ) → counts.classes ≤ c → Decides false (HoldsInstance p r c)
  no_class r c l = (λ f. absurd (false≢true f), λ h. let x = (led r c h).below in absurd (omega (arith, x, l)))

  pub no_node : (r c : ℕ) → node_at nodes r ≡ None → Decides false (HoldsInstance p r c)
  no_node r c e = (λ f. absurd (false≢true f), λ h. let x = sym e ∙ (led r c h).found in cc)

  pub node_decides : (r c node : ℕ) (b : Bool) → node_at nodes r ≡ Some node → b ≡ leads rows node c → c < counts.classes → RegionsUnfold p → Decides b (HoldsInstance p r c)
  node_decides r c node b e g l u = (λ f. yes r node c u (known r node e) l (sym g ∙ f), λ h. back (led r c h))
    where
      back : Led r c → b ≡ true
      back x = let y = sym e ∙ x.found in let n : node ≡ x.node = cc in g ∙ ap (λ m. leads rows m c) n ∙ x.led
