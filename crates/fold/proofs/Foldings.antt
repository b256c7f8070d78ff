-- The turns of a fold: it begins, it skips rings that are not met, it takes in one that is, and it is done. Assumes nothing.
use Rattle.std.specs.Prelude.{Option, Some, None}
use mathlib.Core.Path.{◌≡◌, refl, sym, ◌∙◌, ap, ap₂, subst}
use mathlib.Core.Bool.{cond, ◌||◌}
use mathlib.Core.List.{List}
use Prim.Native.Nat.{ℕ, zero, suc, ◌+◌, ◌-◌, ◌≤◌, ◌<◌}
use native.Mathlib.Numerals.{add-one}
use native.Mathlib.Decide.{ℕ_discrete, dec_lt}
use native.Mathlib.Omega.{arith}
use borrow.Author.Tests.{eq-eqb, ne_eqb}
use lib.ListN.{get_or}
use Rattle.rules.specs.declared.Kind.{Kind}
use Rattle.rules.specs.declared.Kind.TheVariants.{Polygons, Tree}
use Rattle.rules.specs.declared.Location.{Location}
use Rattle.rules.specs.declared.Location.TheVariants.{Outside, Inside}
use Rattle.rules.specs.Replies.{within_outer, by_hole, stronger}
use Rattle.rings.specs.Places.{is_boundary, flipped_by}
use Rattle.boxes.specs.Rings.{start_of, RingEnds}
use Rattle.boxes.proofs.Rings.{start_zero, start_suc}
use Rattle.fold.specs.declared.Fold.{Fold}
use Rattle.fold.specs.declared.Fold as Fold
use Rattle.fold.specs.declared.ListFold.{ListFold}
use Rattle.fold.specs.declared.Polygon.{Polygon}
use Rattle.fold.specs.declared.TreeFold.{TreeFold}
use Rattle.fold.specs.Regions.{polygon_place, list_place, touched, odd_inside, tree_place, region_place}
use Rattle.fold.specs.Folds.{begun, open_place, open_end, list_place_of, place_of, with_hole, first_met, opened, with_ring, Spans, Current, Standing, ListFolding, TreeFolding, Folding, Fits, ListFolds, Folds}
use Rattle.fold.proofs.Quiet.{starts_rise, polygon_outer, polygon_hole, polygon_quiet, polygon_outside, list_none, list_one_more, list_quiet, touched_more, odd_more, touched_quiet, odd_quiet}

-- no ring lies before the end of an open polygon where none is open
pub none_open : (current : Option Polygon) → ((polygon : Polygon) → current ≡ Some polygon → ⊥) → (ring : ℕ) → open_end current ≤ ring
none_open None none ring = omega arith
none_open (Some polygon) none ring = absurd (none polygon refl)

-- ---- it begins
pub begins : (kind : Kind) (places : ℕ → Location) (ends : List ℕ) (count : ℕ) → Folding kind places ends count 0 (begun kind)
unfolding touched odd_inside
begins Polygons places ends count =
    record { opened = 0; seen = 0; few = omega arith; end = sym (start_zero ends); behind = omega arith; low = omega arith; clear = λ k l u. absurd (omega arith); stands = (refl, refl) }
begins Tree places ends count = record { on = refl; odd = refl }

-- ---- it skips
pub skips : (kind : Kind) (places : ℕ → Location) (ends : List ℕ) (count r s : ℕ) (fold : Fold) → r ≤ s → ((k : ℕ) → r ≤ k → k < s → places k ≡ Outside)
    → Folding kind places ends count r fold → Folding kind places ends count s fold
skips Polygons places ends count r s (Fold.TheVariants.List list) l quiet F =
    record { opened = F.opened; seen = F.seen; few = F.few; end = F.end; behind = omega (arith, F.behind); low = F.low; clear = λ k a b. go k a b (dec_lt k r); stands = F.stands }
  where
    go : (k : ℕ) → F.seen ≤ k → k < s → Dec (k < r) → places k ≡ Outside
    go k a b (yes h) = F.clear k a h
    go k a b (no h) = quiet k (omega arith) b
skips Polygons places ends count r s (Fold.TheVariants.Tree tree) l quiet F = absurd F
skips Tree places ends count r s (Fold.TheVariants.List list) l quiet F = absurd F
skips Tree places ends count r s (Fold.TheVariants.Tree tree) l quiet F =
    record {
      on = F.on ∙ sym (touched_quiet places r (s - r) (λ k a b. quiet k a (omega arith))) ∙ ap (touched places) (let e : r + (s - r) ≡ s = omega arith in e);
      odd = F.odd ∙ sym (odd_quiet places r (s - r) (λ k a b. quiet k a (omega arith))) ∙ ap (odd_inside places) (let e : r + (s - r) ≡ s = omega arith in e);
    }

-- ---- the polygons before a polygon that starts no later than ring r
module _ (places : ℕ → Location) (ends : List ℕ) (n count : ℕ) (R : RingEnds n count ends) (r : ℕ) (list : ListFold) (F : ListFolding places ends count r list) where
  -- the current polygon with all of its rings
  last_weighed : (opened : ℕ) → F.opened ≡ opened → start_of ends opened ≤ r → list_place places ends opened ≡ list_place_of list
  last_weighed zero e h =
      let S : Standing places ends F.seen list 0 = subst (Standing places ends F.seen list) e F.stands in
      list_none places ends ∙ sym (ap₂ stronger S.0 S.1)
  last_weighed (suc i) e h =
      let C : Current places ends F.seen list i = subst (Standing places ends F.seen list) e F.stands in
      let next : start_of ends (suc i) ≡ get_or ends i 0 = ap (start_of ends) (sym (add-one i)) ∙ start_suc ends i in
      let here : start_of ends F.opened ≡ start_of ends (suc i) = ap (start_of ends) e in
      list_one_more places ends i
      ∙ ap₂ stronger (sym C.best) (polygon_quiet places (start_of ends i) F.seen (get_or ends i 0) C.first (omega (arith, F.low, F.end)) (λ k a b. F.clear k a (omega arith)) ∙ sym C.current)

  pub weighed : (j : ℕ) → F.opened ≤ j → j ≤ count → start_of ends j ≤ r → list_place places ends j ≡ list_place_of list
  weighed j l u h =
      list_quiet places ends n count R F.opened j l u (λ k a b. F.clear k (omega (arith, F.low, F.end)) (omega arith))
      ∙ last_weighed F.opened refl (omega (arith, starts_rise n count ends R F.opened j l u))

-- ---- it takes in one ring
module _ (places : ℕ → Location) (ends : List ℕ) (n count : ℕ) (R : RingEnds n count ends) (r : ℕ) (list : ListFold) (F : ListFolding places ends count r list) where
  -- a hole of the current polygon
  hole_taken : (polygon : Polygon) → list.current ≡ Some polygon → r < polygon.end → ListFolding places ends count (r + 1) (record { best = list.best; current = Some (with_hole polygon (places r)) })
  hole_taken polygon is h = go F.opened refl
    where
      ends_at : polygon.end ≡ open_end list.current
      ends_at = sym (ap open_end is)

      go : (opened : ℕ) → F.opened ≡ opened → ListFolding places ends count (r + 1) (record { best = list.best; current = Some (with_hole polygon (places r)) })
      go zero e = absurd (omega (arith, h, ends_at, F.end, ap (start_of ends) e, start_zero ends))
      go (suc i) e =
          let C : Current places ends F.seen list i = subst (Standing places ends F.seen list) e F.stands in
          let a = start_of ends i in
          let first : a < F.seen = C.first in
          let behind : F.seen ≤ r = F.behind in
          record {
            opened = suc i;
            seen = r + 1;
            few = omega (arith, F.few);
            end = ends_at ∙ F.end ∙ ap (start_of ends) e;
            behind = omega arith;
            low = omega (arith, h);
            clear = λ k l u. absurd (omega arith);
            stands = record {
              first = omega arith;
              best = C.best;
              current =
                  ap (λ place. within_outer place (by_hole (places r) Inside)) (sym (ap open_place is) ∙ C.current ∙ sym (polygon_quiet places a F.seen r first behind (λ k l u. F.clear k l u)))
                  ∙ ap (λ k. within_outer (polygon_place places a (r - a)) (by_hole (places k) Inside)) (let q : r ≡ a + (r - a) = omega arith in q)
                  ∙ sym (polygon_hole places a (r - a) (omega arith))
                  ∙ ap (polygon_place places a) (let q : suc (r - a) ≡ r + 1 - a = omega arith in q);
            };
          }

  -- a ring of another polygon
  polygon_opened : open_end list.current ≤ r → (start end : ℕ) → Spans ends count r start end → ListFolding places ends count (r + 1) (opened list start end r (places r))
  polygon_opened h start end S =
      let i = S.polygon in
      let next : start_of ends (suc i) ≡ get_or ends i 0 = ap (start_of ends) (sym (add-one i)) ∙ start_suc ends i in
      let ring : i < count = S.holds.ring in
      let from : start_of ends i ≤ r = S.holds.from in
      let to : r < get_or ends i 0 = S.holds.to in
      record {
        opened = suc i;
        seen = r + 1;
        few = omega arith;
        end = S.to ∙ sym next;
        behind = omega arith;
        low = omega (arith, S.to);
        clear = λ k l u. absurd (omega arith);
        stands = record { first = omega arith; best = sym (weighed places ends n count R r list F i later (omega arith) from); current = ap (λ s. first_met r s (places r)) S.from ∙ first (ℕ_discrete r (start_of ends i)) };
      }
    where
      later : F.opened ≤ S.polygon
      later = go (dec_lt S.polygon F.opened)
        where
          go : Dec (S.polygon < F.opened) → F.opened ≤ S.polygon
          go (yes l) = absurd (omega (arith, starts_rise n count ends R (S.polygon + 1) F.opened (omega arith) F.few, start_suc ends S.polygon, S.holds.to, F.end))
          go (no l) = omega arith

      first : Dec (r ≡ start_of ends S.polygon) → first_met r (start_of ends S.polygon) (places r) ≡ polygon_place places (start_of ends S.polygon) (r + 1 - start_of ends S.polygon)
      first (yes e) =
          ap (λ b. cond b (places r) Outside) (eq-eqb r (start_of ends S.polygon) e)
          ∙ ap places e
          ∙ sym (polygon_outer places (start_of ends S.polygon))
          ∙ ap (polygon_place places (start_of ends S.polygon)) (let q : 1 ≡ r + 1 - start_of ends S.polygon = omega arith in q)
      first (no d) =
          let l : S.polygon ≤ count = omega (arith, S.holds.ring) in
          ap (λ b. cond b (places r) Outside) (ne_eqb r (start_of ends S.polygon) d)
          ∙ sym (polygon_outside places (start_of ends S.polygon) (r + 1 - start_of ends S.polygon) (F.clear (start_of ends S.polygon) (omega (arith, F.low, F.end, starts_rise n count ends R F.opened S.polygon later l)) (omega (arith, S.holds.from))))

-- what a step promises, by its cases
module _ (ends : List ℕ) (count : ℕ) (list : ListFold) (ring : ℕ) (place : Location) where
  pub folds_outside : place ≡ Outside → ListFolds ends count list ring place list
  folds_outside e n R h places F is = skips Polygons places ends count ring (ring + 1) (Fold.TheVariants.List list) (omega arith) (λ k l u. ap places (let q : k ≡ ring = omega arith in q) ∙ is ∙ e) F

  module _ (next : ListFold) where
    pub folds_hole : (polygon : Polygon) → list.current ≡ Some polygon → ring < polygon.end → next ≡ record { best = list.best; current = Some (with_hole polygon place) } → ListFolds ends count list ring place next
    folds_hole polygon is_open l e n R h places F is =
        subst (ListFolding places ends count (ring + 1)) (ap (λ place. record { best = list.best; current = Some (with_hole polygon place) }) is ∙ sym e) (hole_taken places ends n count R ring list F polygon is_open l)

    pub folds_other : open_end list.current ≤ ring → (start end : ℕ) → Spans ends count ring start end → next ≡ opened list start end ring place → ListFolds ends count list ring place next
    folds_other l start end S e n R h places F is = subst (ListFolding places ends count (ring + 1)) (ap (opened list start end ring) is ∙ sym e) (polygon_opened places ends n count R ring list F l start end S)

module _ (ends : List ℕ) (count ring : ℕ) (place : Location) where
  pub folds_list : (list next : ListFold) → ListFolds ends count list ring place next → Folds ends count (Fold.TheVariants.List list) ring place (Fold.TheVariants.List next)
  folds_list list next step Polygons n R h places F is = step n R h places F is
  folds_list list next step Tree n R h places F is = absurd F

  pub folds_tree : (tree next : TreeFold) → next ≡ with_ring tree place → Folds ends count (Fold.TheVariants.Tree tree) ring place (Fold.TheVariants.Tree next)
  folds_tree tree next e Polygons n R h places F is = absurd F
  folds_tree tree next e Tree n R h places F is =
      record {
        on = ap (λ f. f.on) e ∙ ap₂ (λ b p. b || is_boundary p) F.on (sym is) ∙ sym (touched_more places ring) ∙ ap (touched places) (sym (add-one ring));
        odd = ap (λ f. f.odd) e ∙ ap₂ flipped_by F.odd (sym is) ∙ sym (odd_more places ring) ∙ ap (odd_inside places) (sym (add-one ring));
      }

-- ---- it is done
pub done : (kind : Kind) (places : ℕ → Location) (ends : List ℕ) (n count : ℕ) → Fits kind n count ends → (fold : Fold) → Folding kind places ends count n fold → place_of fold ≡ region_place kind places ends count n
done Polygons places ends n count R (Fold.TheVariants.List list) F = sym (weighed places ends n count R n list F count F.few (omega arith) (omega (arith, R.all)))
done Polygons places ends n count R (Fold.TheVariants.Tree tree) F = absurd F
done Tree places ends n count R (Fold.TheVariants.List list) F = absurd F
done Tree places ends n count R (Fold.TheVariants.Tree tree) F = ap₂ tree_place F.on F.odd

-- ---- with the rings between two that are met, and after the last
module _ (kind : Kind) (places : ℕ → Location) (ends : List ℕ) (n count : ℕ) (fits : Fits kind n count ends) (r : ℕ) (fold : Fold) (F : Folding kind places ends count r fold) where
  pub met : (ring : ℕ) → r ≤ ring → ring < n → ((k : ℕ) → r ≤ k → k < ring → places k ≡ Outside) → (place : Location) → places ring ≡ place → (next : Fold) → Folds ends count fold ring place next → Folding kind places ends count (ring + 1) next
  met ring l h quiet place is next step = step kind n fits h places (skips kind places ends count r ring fold l quiet F) is

  pub rest : r ≤ n → ((k : ℕ) → r ≤ k → k < n → places k ≡ Outside) → place_of fold ≡ region_place kind places ends count n
  rest l quiet = done kind places ends n count fits fold (skips kind places ends count r n fold l quiet F)
