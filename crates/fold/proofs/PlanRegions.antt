-- The reply of a plan is that of its region, by the replies of its rings. Assumes nothing.
use mathlib.Core.Path.{◌≡◌, refl, sym, ◌∙◌, ap, ap₂, subst}
use mathlib.Core.Bool.{Bool, true, false, not, cond, ◌||◌}
use mathlib.Core.List.{List, [], ◌∷◌, ◌++◌}
use Prim.Native.Nat.{ℕ, zero, suc, ◌+◌, ◌*◌, ◌≤◌, ◌<◌}
use native.Mathlib.Omega.{arith}
use lib.Dec.{T}
use lib.IntN.{ℤ}
use lib.ListN.{length, get_or, take, drop}
use lib.Seq.{length-take-le, take-length, take_all, take-suc, drop-drop}
use Rattle.integers.proofs.Tests.{or_false}
use Rattle.geom.specs.declared.Point.{Point}
use Rattle.rules.specs.declared.Kind.{Kind}
use Rattle.rules.specs.declared.Kind.TheVariants.{Polygons, Tree}
use Rattle.rules.specs.declared.Location.{Location}
use Rattle.rules.specs.declared.Location.TheVariants.{Outside, Inside, OnBoundary}
use Rattle.rules.specs.declared.State.{State}
use Rattle.rules.specs.Edges.{edges_of, winding, on_edge}
use Rattle.rules.specs.Lists.{any_of, count_of, total, is_odd, parts_of}
use Rattle.rules.specs.Plans.{Plan, corners_of, rings_of, polygons_of, kind_reply}
use Rattle.rules.specs.Replies.{is_nonzero, ring_reply, within_outer, by_hole, holes_reply, polygon_reply, stronger, list_reply, tree_reply}
use Rattle.rules.specs.Tables.{lengths_from, Ends, plan_of, PlanSound}
use Rattle.rules.proofs.FourRays.{odd_suc}
use Rattle.rules.proofs.Indexed.{tabulate, tabulate_same, tabulate_part, bit, any_to, count_to, any_tabulate, count_tabulate}
use Rattle.rings.specs.Places.{is_boundary, flipped_by}
use Rattle.fold.specs.declared.Fold.{Fold}
use Rattle.fold.specs.Regions.{polygon_place, list_place, touched, odd_inside, tree_place, region_place}
use Rattle.fold.specs.Folds.{place_of, Folding}
use Rattle.fold.proofs.Quiet.{within_inside, stronger_none, polygon_none, polygon_outer, polygon_hole, list_none, list_one_more}
use Rattle.fold.proofs.Foldings.{rest}
use Rattle.fold.proofs.PolygonEnds.{lengths_length, total_more, counts_in, counts_long, start_total, count_at_lem, all_polygons, polygons_reach, polygon_sums, all_rings, plan_polygons}

-- ---- the rules, one at a time from the front or from the back
hole_first : (outer hole later : Location) → within_outer outer (by_hole hole later) ≡ within_outer (within_outer outer (by_hole hole Inside)) later
hole_first Outside hole later = refl
hole_first Inside Outside later = refl
hole_first Inside Inside later = refl
hole_first Inside OnBoundary later = refl
hole_first OnBoundary hole later = refl

stronger_assoc : (a b c : Location) → stronger a (stronger b c) ≡ stronger (stronger a b) c
stronger_assoc Outside b c = refl
stronger_assoc Inside b c = refl
stronger_assoc OnBoundary Outside c = refl
stronger_assoc OnBoundary Inside c = refl
stronger_assoc OnBoundary OnBoundary Outside = refl
stronger_assoc OnBoundary OnBoundary Inside = refl
stronger_assoc OnBoundary OnBoundary OnBoundary = refl

polygon_last : (polygons : List (List (List Point))) (polygon : List (List Point)) (p : Point) → list_reply (polygons ++ polygon ∷ []) p ≡ stronger (list_reply polygons p) (polygon_reply polygon p)
unfolding list_reply
polygon_last [] polygon p = stronger_none (polygon_reply polygon p)
polygon_last (first ∷ polygons) polygon p = ap (stronger (polygon_reply first p)) (polygon_last polygons polygon p) ∙ stronger_assoc (polygon_reply first p) (list_reply polygons p) (polygon_reply polygon p)

part_last : {A : Type 0} (ns : List ℕ) (n : ℕ) (xs : List A) → parts_of (ns ++ n ∷ []) xs ≡ parts_of ns xs ++ take n (drop (total ns) xs) ∷ []
unfolding parts_of total
part_last [] n xs = refl
part_last (m ∷ ns) n xs = ap (λ l. take m xs ∷ l) (part_last ns n (drop m xs) ∙ ap (λ l. parts_of ns (drop m xs) ++ take n l ∷ []) (drop-drop (total ns) m xs))

parts_long : {A : Type 0} (ns : List ℕ) (xs : List A) → length (parts_of ns xs) ≡ length ns
unfolding parts_of
parts_long [] xs = refl
parts_long (n ∷ ns) xs = ap suc (parts_long ns (drop n xs))

no_parts : {A : Type 0} (ns : List ℕ) (xs : List A) → parts_of (take 0 ns) xs ≡ []
unfolding parts_of
no_parts ns xs = refl

no_polygons : (p : Point) → list_reply [] p ≡ Outside
unfolding list_reply
no_polygons p = refl

-- a ring's reply tells whether the point is on its boundary, and if not whether it winds round the point
on_boundary : (ring : List Point) (p : Point) → on_edge (edges_of ring) p ≡ is_boundary (ring_reply ring p)
unfolding ring_reply
on_boundary ring p = go (on_edge (edges_of ring) p) (is_nonzero (winding ring p))
  where
    go : (on inside : Bool) → on ≡ is_boundary (cond on OnBoundary (cond inside Inside Outside))
    go true inside = refl
    go false true = refl
    go false false = refl

winds : (ring : List Point) (p : Point) (odd : Bool) (n : ℕ) → is_boundary (ring_reply ring p) ≡ false → is_odd n ≡ odd → is_odd (n + bit (is_nonzero (winding ring p))) ≡ flipped_by odd (ring_reply ring p)
unfolding ring_reply
winds ring p odd n = go (on_edge (edges_of ring) p) (is_nonzero (winding ring p))
  where
    go : (on inside : Bool) → is_boundary (cond on OnBoundary (cond inside Inside Outside)) ≡ false → is_odd n ≡ odd → is_odd (n + bit inside) ≡ flipped_by odd (cond on OnBoundary (cond inside Inside Outside))
    go true inside off e = absurd (subst T off tt)
    go false true off e = ap is_odd (let q : n + 1 ≡ suc n = omega arith in q) ∙ odd_suc n ∙ ap not e
    go false false off e = ap is_odd (let q : n + 0 ≡ n = omega arith in q) ∙ e

-- ---- a region by the replies of its rings
module _ (rings : List (List Point)) (p : Point) (places : ℕ → Location) (each : (k : ℕ) → k < length rings → places k ≡ ring_reply (get_or rings k []) p) where
  -- the holes from ring a + k on
  holes_on : (a k j : ℕ) → 0 < k → a + k + j ≤ length rings
      → within_outer (polygon_place places a k) (holes_reply (tabulate (λ i. get_or rings (a + k + i) []) j) p) ≡ polygon_place places a (k + j)
  unfolding holes_reply tabulate
  holes_on a k zero some reach = within_inside (polygon_place places a k) ∙ ap (polygon_place places a) (let e : k ≡ k + 0 = omega arith in e)
  holes_on a k (suc j) some reach =
      ap (λ n. within_outer (polygon_place places a k) (by_hole (ring_reply (get_or rings n []) p) (holes_reply (tabulate (λ i. get_or rings (a + k + suc i) []) j) p))) (let e : a + k + 0 ≡ a + k = omega arith in e)
      ∙ ap (λ place. within_outer (polygon_place places a k) (by_hole place (holes_reply (tabulate (λ i. get_or rings (a + k + suc i) []) j) p))) (sym (each (a + k) (omega arith)))
      ∙ hole_first (polygon_place places a k) (places (a + k)) (holes_reply (tabulate (λ i. get_or rings (a + k + suc i) []) j) p)
      ∙ ap (λ place. within_outer place (holes_reply (tabulate (λ i. get_or rings (a + k + suc i) []) j) p)) (sym (polygon_hole places a k some))
      ∙ ap (λ l. within_outer (polygon_place places a (suc k)) (holes_reply l p)) (tabulate_same (λ i. get_or rings (a + k + suc i) []) (λ i. get_or rings (a + suc k + i) []) j (λ i l. ap (λ n. get_or rings n []) (let e : a + k + suc i ≡ a + suc k + i = omega arith in e)))
      ∙ holes_on a (suc k) j (omega arith) (omega arith)
      ∙ ap (polygon_place places a) (let e : suc k + j ≡ k + suc j = omega arith in e)

  polygon_by_rings : (a m : ℕ) → a + m ≤ length rings → polygon_reply (tabulate (λ i. get_or rings (a + i) []) m) p ≡ polygon_place places a m
  unfolding polygon_reply tabulate
  polygon_by_rings a zero reach = sym (polygon_none places a)
  polygon_by_rings a (suc m) reach =
      ap (λ place. within_outer place (holes_reply (tabulate (λ i. get_or rings (a + suc i) []) m) p)) (ap (λ n. ring_reply (get_or rings n []) p) (let e : a + 0 ≡ a = omega arith in e) ∙ sym (each a (omega arith)) ∙ sym (polygon_outer places a))
      ∙ ap (λ l. within_outer (polygon_place places a 1) (holes_reply l p)) (tabulate_same (λ i. get_or rings (a + suc i) []) (λ i. get_or rings (a + 1 + i) []) m (λ i l. ap (λ n. get_or rings n []) (let e : a + suc i ≡ a + 1 + i = omega arith in e)))
      ∙ holes_on a 1 m (omega arith) (omega arith)
      ∙ ap (polygon_place places a) (let e : 1 + m ≡ suc m = omega arith in e)

  polygon_is : (a m : ℕ) → a + m ≤ length rings → polygon_reply (take m (drop a rings)) p ≡ polygon_place places a m
  polygon_is a m reach = ap (λ l. polygon_reply l p) (tabulate_part rings a m [] reach) ∙ polygon_by_rings a m reach

  -- ---- a list, whose polygons end at the first entries of a table
  module _ (count : ℕ) (table : List ℕ) (reach : count ≤ length table) (sums : Ends count table) (all : total (counts_in count table) ≤ length rings) where
    list_to : (i : ℕ) → i ≤ count → total (take i (counts_in count table)) ≤ length rings → list_reply (parts_of (take i (counts_in count table)) rings) p ≡ list_place places table i
    list_to zero h u = ap (λ l. list_reply l p) (no_parts (counts_in count table) rings) ∙ no_polygons p ∙ sym (list_none places table)
    list_to (suc i) h u =
        let counts = counts_in count table in
        let long : length counts ≡ count = counts_long count table reach sums in
        let more : total (take (suc i) counts) ≡ total (take i counts) + get_or counts i 0 = total_more counts i (omega arith) in
        ap (λ ns. list_reply (parts_of ns rings) p) (take-suc counts i 0 (omega arith))
        ∙ ap (λ l. list_reply l p) (part_last (take i counts) (get_or counts i 0) rings)
        ∙ polygon_last (parts_of (take i counts) rings) (take (get_or counts i 0) (drop (total (take i counts)) rings)) p
        ∙ ap₂ stronger (list_to i (omega arith) (omega arith)) (polygon_is (total (take i counts)) (get_or counts i 0) (omega arith))
        ∙ ap₂ (λ a m. stronger (list_place places table i) (polygon_place places a m)) (sym (start_total count table reach sums i (omega arith))) (count_at_lem count table reach sums i (omega arith))
        ∙ sym (list_one_more places table i)

    pub list_is : list_reply (parts_of (counts_in count table) rings) p ≡ list_place places table count
    list_is =
        let whole : take count (counts_in count table) ≡ counts_in count table = take_all count (counts_in count table) (omega (arith, counts_long count table reach sums)) in
        ap (λ ns. list_reply (parts_of ns rings) p) (sym whole) ∙ list_to count (omega arith) (omega (arith, ap total whole))

  -- ---- a tree
  abbrev ring_at : ℕ → List Point
  ring_at k = get_or rings k []

  by_number : rings ≡ tabulate ring_at (length rings)
  by_number =
      sym (take-length rings) ∙ tabulate_part rings 0 (length rings) [] (omega arith)
      ∙ tabulate_same (λ i. get_or rings (0 + i) []) ring_at (length rings) (λ i l. ap ring_at (let e : 0 + i ≡ i = omega arith in e))

  touched_to : (n : ℕ) → n ≤ length rings → any_to (λ k. on_edge (edges_of (ring_at k)) p) n ≡ touched places n
  unfolding any_to touched
  touched_to zero h = refl
  touched_to (suc n) h = ap₂ ◌||◌ (touched_to n (omega arith)) (on_boundary (ring_at n) p ∙ ap is_boundary (sym (each n (omega arith))))

  odd_to : (n : ℕ) → n ≤ length rings → touched places n ≡ false → is_odd (count_to (λ k. is_nonzero (winding (ring_at k) p)) n) ≡ odd_inside places n
  unfolding count_to touched odd_inside
  odd_to zero h off = refl
  odd_to (suc n) h off =
      let is = each n (omega arith) in
      let both = or_false (touched places n) (is_boundary (places n)) off in
      winds (ring_at n) p (odd_inside places n) (count_to (λ k. is_nonzero (winding (ring_at k) p)) n) (ap is_boundary (sym is) ∙ both.1) (odd_to n (omega arith) both.0)
      ∙ ap (flipped_by (odd_inside places n)) (sym is)

  pub tree_is : tree_reply rings p ≡ tree_place (touched places (length rings)) (odd_inside places (length rings))
  unfolding tree_reply
  tree_is =
      ap₂ tree_place
      (ap (any_of (λ ring. on_edge (edges_of ring) p)) by_number ∙ any_tabulate (λ ring. on_edge (edges_of ring) p) ring_at (length rings) ∙ touched_to (length rings) (omega arith))
      (ap (λ l. is_odd (count_of (λ ring. is_nonzero (winding ring p)) l)) by_number ∙ ap is_odd (count_tabulate (λ ring. is_nonzero (winding ring p)) ring_at (length rings)))
      ∙ go (touched places (length rings)) refl
    where
      go : (on : Bool) → touched places (length rings) ≡ on → tree_place on (is_odd (count_to (λ k. is_nonzero (winding (ring_at k) p)) (length rings))) ≡ tree_place on (odd_inside places (length rings))
      go true e = refl
      go false e = ap (tree_place false) (odd_to (length rings) (omega arith) e)

-- ---- a sound plan
module _ (state : State) (corners : List ℤ) (rings polygons : List ℕ) (sound : PlanSound state corners rings polygons) where
  abbrev plan : Plan
  plan = plan_of state corners rings polygons

  pub rings_long : length (rings_of (plan_of state corners rings polygons)) ≡ state.rings
  unfolding plan_of rings_of
  rings_long =
      parts_long (lengths_from 0 (take state.rings rings)) (corners_of (take (2 * state.corners) corners))
      ∙ lengths_length 0 (take state.rings rings) ∙ length-take-le state.rings rings sound.rings_reach

  module _ (p : Point) (places : ℕ → Location) (each : (k : ℕ) → k < state.rings → places k ≡ ring_reply (get_or (rings_of (plan_of state corners rings polygons)) k []) p) where
    -- item 4 for the plan that the tables hold
    pub region_is : region_place state.kind places polygons state.polygons state.rings ≡ kind_reply (plan_of state corners rings polygons).kind (plan_of state corners rings polygons) p
    unfolding plan_of polygons_of
    region_is = go state.kind refl
      where
        within : (k : ℕ) → k < length (rings_of plan) → places k ≡ ring_reply (get_or (rings_of plan) k []) p
        within k h = each k (omega (arith, rings_long))

        go : (kind : Kind) → state.kind ≡ kind → region_place kind places polygons state.polygons state.rings ≡ kind_reply kind plan p
        go Polygons list =
            sym (list_is (rings_of plan) p places within state.polygons polygons (polygons_reach state corners rings polygons sound list) (polygon_sums state corners rings polygons sound list) (omega (arith, all_rings state corners rings polygons sound list, rings_long)))
            ∙ ap (λ n. list_reply (parts_of (counts_in n polygons) (rings_of plan)) p) (sym (all_polygons state corners rings polygons sound list))
        go Tree tree = sym (tree_is (rings_of plan) p places within ∙ ap (λ n. tree_place (touched places n) (odd_inside places n)) rings_long)

    -- a fold gives it, if the point is outside of every ring that it has not come to
    pub folded : (r : ℕ) → r ≤ state.rings → ((k : ℕ) → r ≤ k → k < state.rings → places k ≡ Outside) → (fold : Fold) → Folding state.kind places polygons state.polygons r fold
        → place_of fold ≡ kind_reply (plan_of state corners rings polygons).kind (plan_of state corners rings polygons) p
    folded r l quiet fold F = rest state.kind places polygons state.rings state.polygons (plan_polygons state corners rings polygons sound) r fold F l quiet ∙ region_is
