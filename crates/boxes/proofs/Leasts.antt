-- The box of a part is the smallest round its edges: it holds their end points, each of its ends is one of theirs, and every box that
-- holds the edges' boxes holds it; no other box is smallest. Assumes nothing.
use mathlib.Core.Path.{◌≡◌, refl, sym, ◌∙◌, subst}
use mathlib.Core.Bool.{true, ◌&&◌}
use mathlib.Core.Logic.{◌⊎◌, inl, inr}
use mathlib.Core.List.{List, [], ◌∷◌}
use Prim.Native.Nat.{ℕ, zero, suc, ◌+◌, ◌≤◌, ◌<◌, ◌^◌}
use native.Mathlib.Decide.{ℕ_discrete}
use native.Mathlib.Omega.{arith}
use lib.IntN.{ℤ, nat_abs}
use lib.Signed.{◌≤ℤ◌}
use lib.ListN.{get_or}
use Rattle.integers.specs.Extremes.{min_z, max_z}
use Rattle.integers.proofs.Order.{≤ℤ_antisym}
use Rattle.integers.proofs.Signs.{min_one, max_one}
use Rattle.integers.proofs.Tests.{and_true}
use Rattle.geom.specs.declared.Point.{Point}
use Rattle.geom.specs.declared.Rect.{Rect}
use Rattle.geom.specs.Boxes.{union_of, empty_rect, holds_point, holds_rect}
use Rattle.geom.specs.Range.{within}
use Rattle.geom.proofs.Boxes.{Held, held, union_left, union_right, union_least, rect_holds_first, rect_holds_second, rect_proper, holds_itself}
use Rattle.geom.proofs.Range.{near}
use Rattle.boxes.specs.Rings.{edge_of, next_corner, RingEnds, CornersNear}
use Rattle.boxes.specs.Boxes.{edge_box, box_of, NearRect, Names, Reached, SmallestRound}
use Rattle.boxes.proofs.Rings.{next_inside}
use Rattle.boxes.proofs.Unions.{box_one}

module _ (corners : List ℤ) (rings edges : List ℕ) where
  -- what each edge's box holds, the part's box holds
  box_has : (pt : ℕ → Point) → ((e : ℕ) → holds_point (edge_box corners rings e) (pt e) ≡ true) → (f m k : ℕ) → f ≤ k → k < f + m → holds_point (box_of corners rings edges f m) (pt (get_or edges k 0)) ≡ true
  unfolding box_of
  box_has pt h f zero k a b = absurd (omega arith)
  box_has pt h f (suc zero) k a b = let e : f ≡ k = omega arith in subst (λ (j : ℕ). holds_point (edge_box corners rings (get_or edges f 0)) (pt (get_or edges j 0)) ≡ true) e (h (get_or edges f 0))
  box_has pt h f (suc (suc m)) k a b = go (ℕ_discrete (f + suc m) k) (λ c. box_has pt h f (suc m) k a c)
    where
      go : Dec (f + suc m ≡ k) → (k < f + suc m → holds_point (box_of corners rings edges f (suc m)) (pt (get_or edges k 0)) ≡ true)
          → holds_point (union_of (box_of corners rings edges f (suc m)) (edge_box corners rings (get_or edges (f + suc m) 0))) (pt (get_or edges k 0)) ≡ true
      go (yes e) ih =
          union_right (box_of corners rings edges f (suc m)) (edge_box corners rings (get_or edges (f + suc m) 0)) (pt (get_or edges k 0))
          (subst (λ (j : ℕ). holds_point (edge_box corners rings (get_or edges (f + suc m) 0)) (pt (get_or edges j 0)) ≡ true) e (h (get_or edges (f + suc m) 0)))
      go (no d) ih = union_left (box_of corners rings edges f (suc m)) (edge_box corners rings (get_or edges (f + suc m) 0)) (pt (get_or edges k 0)) (ih (omega arith))

  own : (e : ℕ) → holds_rect (edge_box corners rings e) (edge_box corners rings e) ≡ true
  unfolding edge_box
  own e = holds_itself (edge_box corners rings e) (rect_proper (edge_of corners rings e).0 (edge_of corners rings e).1)

  -- the box of a part holds the box of each of its edges
  pub box_holds : (f m k : ℕ) → f ≤ k → k < f + m → holds_rect (box_of corners rings edges f m) (edge_box corners rings (get_or edges k 0)) ≡ true
  box_holds f m k a b =
      let low = box_has (λ e. (edge_box corners rings e).min) (λ e. (and_true (holds_point (edge_box corners rings e) (edge_box corners rings e).min) (holds_point (edge_box corners rings e) (edge_box corners rings e).max) (own e)).0) f m k a b in
      let high = box_has (λ e. (edge_box corners rings e).max) (λ e. (and_true (holds_point (edge_box corners rings e) (edge_box corners rings e).min) (holds_point (edge_box corners rings e) (edge_box corners rings e).max) (own e)).1) f m k a b in
      λ i. low i && high i

  -- and every box that holds these holds it
  pub box_within : (r : Rect) (f m : ℕ) → 0 < m → ((k : ℕ) → f ≤ k → k < f + m → holds_rect r (edge_box corners rings (get_or edges k 0)) ≡ true) → holds_rect r (box_of corners rings edges f m) ≡ true
  unfolding box_of
  box_within r f zero l h = absurd (omega arith)
  box_within r f (suc zero) l h = h f (omega arith) (omega arith)
  box_within r f (suc (suc m)) l h =
      union_least (box_of corners rings edges f (suc m)) (edge_box corners rings (get_or edges (f + suc m) 0)) r (box_within r f (suc m) (omega arith) (λ k a b. h k a (omega arith))) (h (f + suc m) (omega arith) (omega arith))

  -- an end of the box is an end point's: g reads it off a box, h off a point
  module _ (g : Rect → ℤ) (h : Point → ℤ) (op : ℤ → ℤ → ℤ) (one : (a b : ℤ) → (op a b ≡ a) ⊎ (op a b ≡ b)) (un : (r s : Rect) → g (union_of r s) ≡ op (g r) (g s)) (two : (e : ℕ) → g (edge_box corners rings e) ≡ op (h (edge_of corners rings e).0) (h (edge_of corners rings e).1)) where
    edge_end : (f m k : ℕ) → f ≤ k → k < f + m → Reached h corners rings edges f m (g (edge_box corners rings (get_or edges k 0)))
    edge_end f m k a b = (k, a, b, go (one (h (edge_of corners rings (get_or edges k 0)).0) (h (edge_of corners rings (get_or edges k 0)).1)))
      where
        start : ℤ
        start = h (edge_of corners rings (get_or edges k 0)).0

        stop : ℤ
        stop = h (edge_of corners rings (get_or edges k 0)).1

        go : (op start stop ≡ start) ⊎ (op start stop ≡ stop) → (start ≡ g (edge_box corners rings (get_or edges k 0))) ⊎ (stop ≡ g (edge_box corners rings (get_or edges k 0)))
        go (inl e) = inl (sym (two (get_or edges k 0) ∙ e))
        go (inr e) = inr (sym (two (get_or edges k 0) ∙ e))

    box_end : (f m : ℕ) → 0 < m → Reached h corners rings edges f m (g (box_of corners rings edges f m))
    unfolding box_of
    box_end f zero l = absurd (omega arith)
    box_end f (suc zero) l = edge_end f 1 f (omega arith) (omega arith)
    box_end f (suc (suc m)) l = go (box_end f (suc m) (omega arith)) (one (g (box_of corners rings edges f (suc m))) (g (edge_box corners rings (get_or edges (f + suc m) 0))))
      where
        z : ℤ
        z = op (g (box_of corners rings edges f (suc m))) (g (edge_box corners rings (get_or edges (f + suc m) 0)))

        go : Reached h corners rings edges f (suc m) (g (box_of corners rings edges f (suc m))) → (z ≡ g (box_of corners rings edges f (suc m))) ⊎ (z ≡ g (edge_box corners rings (get_or edges (f + suc m) 0)))
            → Reached h corners rings edges f (suc (suc m)) (g (union_of (box_of corners rings edges f (suc m)) (edge_box corners rings (get_or edges (f + suc m) 0))))
        go ih (inl e) = subst (Reached h corners rings edges f (suc (suc m))) (sym (un (box_of corners rings edges f (suc m)) (edge_box corners rings (get_or edges (f + suc m) 0)) ∙ e)) (ih.0, ih.1, (let b = ih.2 in omega arith), ih.3)
        go ih (inr e) = subst (Reached h corners rings edges f (suc (suc m))) (sym (un (box_of corners rings edges f (suc m)) (edge_box corners rings (get_or edges (f + suc m) 0)) ∙ e)) (edge_end f (suc (suc m)) (f + suc m) (omega arith) (omega arith))

  -- document 01's words of a smallest box: its ends are the least and greatest x and y of the end points
  pub box_smallest : (f m : ℕ) → 0 < m → SmallestRound corners rings edges f m (box_of corners rings edges f m)
  unfolding edge_box
  box_smallest f m l = record {
    starts = box_has (λ e. (edge_of corners rings e).0) (λ e. rect_holds_first (edge_of corners rings e).0 (edge_of corners rings e).1) f m;
    stops = box_has (λ e. (edge_of corners rings e).1) (λ e. rect_holds_second (edge_of corners rings e).0 (edge_of corners rings e).1) f m;
    min_x = box_end (λ r. r.min.x) (λ p. p.x) min_z min_one (λ r s. refl) (λ e. refl) f m l;
    min_y = box_end (λ r. r.min.y) (λ p. p.y) min_z min_one (λ r s. refl) (λ e. refl) f m l;
    max_x = box_end (λ r. r.max.x) (λ p. p.x) max_z max_one (λ r s. refl) (λ e. refl) f m l;
    max_y = box_end (λ r. r.max.y) (λ p. p.y) max_z max_one (λ r s. refl) (λ e. refl) f m l;
  }

  -- ---- and these words fit one box: what holds of all end points holds of an end of a box, and so each of two smallest boxes ends
  -- where the other does
  reached_held : (h : Point → ℤ) (P : ℤ → Type 0) (s : Rect) → ((p : Point) → Held s p → P (h p)) → (f m : ℕ) → SmallestRound corners rings edges f m s → (z : ℤ) → Reached h corners rings edges f m z → P z
  reached_held h P s read f m S z (k, a, b, inl e) = subst P e (read (edge_of corners rings (get_or edges k 0)).0 (held s (edge_of corners rings (get_or edges k 0)).0 (S.starts k a b)))
  reached_held h P s read f m S z (k, a, b, inr e) = subst P e (read (edge_of corners rings (get_or edges k 0)).1 (held s (edge_of corners rings (get_or edges k 0)).1 (S.stops k a b)))

  least_x : (r s : Rect) (f m : ℕ) → SmallestRound corners rings edges f m r → SmallestRound corners rings edges f m s → s.min.x ≤ℤ r.min.x
  least_x r s f m R S = reached_held (λ p. p.x) (λ z. s.min.x ≤ℤ z) s (λ p h. h.right_of) f m S r.min.x R.min_x

  least_y : (r s : Rect) (f m : ℕ) → SmallestRound corners rings edges f m r → SmallestRound corners rings edges f m s → s.min.y ≤ℤ r.min.y
  least_y r s f m R S = reached_held (λ p. p.y) (λ z. s.min.y ≤ℤ z) s (λ p h. h.above) f m S r.min.y R.min_y

  greatest_x : (r s : Rect) (f m : ℕ) → SmallestRound corners rings edges f m r → SmallestRound corners rings edges f m s → r.max.x ≤ℤ s.max.x
  greatest_x r s f m R S = reached_held (λ p. p.x) (λ z. z ≤ℤ s.max.x) s (λ p h. h.left_of) f m S r.max.x R.max_x

  greatest_y : (r s : Rect) (f m : ℕ) → SmallestRound corners rings edges f m r → SmallestRound corners rings edges f m s → r.max.y ≤ℤ s.max.y
  greatest_y r s f m R S = reached_held (λ p. p.y) (λ z. z ≤ℤ s.max.y) s (λ p h. h.below) f m S r.max.y R.max_y

  round_same : (r s : Rect) (f m : ℕ) → SmallestRound corners rings edges f m r → SmallestRound corners rings edges f m s → r ≡ s
  round_same r s f m R S = λ i. record {
    min = record { x = ≤ℤ_antisym r.min.x s.min.x (least_x s r f m S R) (least_x r s f m R S) i; y = ≤ℤ_antisym r.min.y s.min.y (least_y s r f m S R) (least_y r s f m R S) i };
    max = record { x = ≤ℤ_antisym r.max.x s.max.x (greatest_x r s f m R S) (greatest_x s r f m S R) i; y = ≤ℤ_antisym r.max.y s.max.y (greatest_y r s f m R S) (greatest_y s r f m S R) i };
  }

  -- a smallest box is round at least one edge
  round_some : (r : Rect) (f m : ℕ) → SmallestRound corners rings edges f m r → 0 < m
  round_some r f m R = let a = R.min_x.1 in let b = R.min_x.2 in omega arith

  -- document 01's words determine the box of a part that has an edge
  pub smallest_box : (r : Rect) (f m : ℕ) → SmallestRound corners rings edges f m r → r ≡ box_of corners rings edges f m
  smallest_box r f m R = round_same r (box_of corners rings edges f m) f m R (box_smallest f m (round_some r f m R))

  -- and item 1 that of one that has none
  pub box_none : (f : ℕ) → box_of corners rings edges f 0 ≡ empty_rect
  unfolding box_of
  box_none f = refl

-- ---- boxes of corners in range
near_x : (p : Point) → within (2 ^ 40) p.x && within (2 ^ 40) p.y ≡ true → nat_abs p.x ≤ 2 ^ 40
near_x p e = near (2 ^ 40) p.x (and_true (within (2 ^ 40) p.x) (within (2 ^ 40) p.y) e).0

near_y : (p : Point) → within (2 ^ 40) p.x && within (2 ^ 40) p.y ≡ true → nat_abs p.y ≤ 2 ^ 40
near_y p e = near (2 ^ 40) p.y (and_true (within (2 ^ 40) p.x) (within (2 ^ 40) p.y) e).1

module _ (n count : ℕ) (corners : List ℤ) (rings : List ℕ) (C : CornersNear n corners) (R : RingEnds n count rings) where
  near_end : (h : Point → ℤ) → ((p : Point) → within (2 ^ 40) p.x && within (2 ^ 40) p.y ≡ true → nat_abs (h p) ≤ 2 ^ 40)
      → (edges : List ℕ) (f m : ℕ) → Names n edges f m → (z : ℤ) → Reached h corners rings edges f m z → nat_abs z ≤ 2 ^ 40
  unfolding edge_of
  near_end h read edges f m N z (k, a, b, inl e) = subst (λ x. nat_abs x ≤ 2 ^ 40) e (read _ (C.near (get_or edges k 0) (N.each k a b)))
  near_end h read edges f m N z (k, a, b, inr e) = subst (λ x. nat_abs x ≤ 2 ^ 40) e (read _ (C.near (next_corner rings (get_or edges k 0)) (next_inside n count rings R (get_or edges k 0) (N.each k a b))))

  pub box_near : (edges : List ℕ) (f m : ℕ) → Names n edges f m → 0 < m → NearRect (box_of corners rings edges f m)
  box_near edges f m N l =
      let S = box_smallest corners rings edges f m l in
      record {
        min_x = near_end (λ p. p.x) near_x edges f m N _ S.min_x;
        min_y = near_end (λ p. p.y) near_y edges f m N _ S.min_y;
        max_x = near_end (λ p. p.x) near_x edges f m N _ S.max_x;
        max_y = near_end (λ p. p.y) near_y edges f m N _ S.max_y;
      }

  pub edge_near : (e : ℕ) → e < n → NearRect (edge_box corners rings e)
  edge_near e h = subst NearRect (box_one corners rings (e ∷ []) 0) (box_near (e ∷ []) 0 1 (record { inside = omega arith; each = λ k a b. let z : k ≡ 0 = omega arith in rw z h }) (omega arith))
