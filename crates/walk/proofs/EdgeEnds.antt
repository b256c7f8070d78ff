-- The edge of a number on any tables: what is found is item 1's edge where the ring ends rise, and there nothing is refused.
-- Assumes nothing.
use mathlib.Core.Path.{◌≡◌, refl, sym, ap, ◌∙◌}
use mathlib.Core.List.{List}
use Prim.Native.Nat.{ℕ, ◌*◌, ◌≤◌, ◌<◌}
use native.Mathlib.Omega.{arith}
use lib.IntN.{ℤ}
use lib.ListN.{length, get_or}
use Rattle.geom.specs.declared.Point.{Point}
use Rattle.rules.specs.Plans.{corner_at}
use Rattle.boxes.specs.Rings.{start_of, next_in, edge_of, RingAt, RingEnds}
use Rattle.boxes.proofs.Rings.{searchable, one_ring, next_of_ring, next_inside}
use Rattle.walk.specs.Edges.{EdgeFound, EdgeRefused}

-- no ring: no table of ring ends with e among its corners
pub no_ring : (rings : List ℕ) (count e : ℕ) → count ≡ 0 → (n : ℕ) → RingEnds n count rings → e < n → ⊥
no_ring rings count e z n R h = omega (arith, (searchable n count rings R e h).0)

module _ (n count : ℕ) (corners : List ℤ) (rings : List ℕ) (e ring : ℕ) (A : RingAt rings count e ring) where
  -- on ring ends the next corner is one of the n
  pub next_astray : n ≤ next_in (start_of rings ring) (get_or rings ring 0) e → EdgeRefused n count corners rings e
  next_astray l = record { number = refl; never = λ S. omega (arith, next_of_ring n count rings S.ends e ring A, next_inside n count rings S.ends e S.one) }

  pub edge_found : (a b : Point) → e < n → 2 * n ≤ length corners → count ≤ length rings → a ≡ corner_at corners e → next_in (start_of rings ring) (get_or rings ring 0) e < n → b ≡ corner_at corners (next_in (start_of rings ring) (get_or rings ring 0) e)
      → EdgeFound n count corners rings e (record { ring = ring; from = a; to = b })
  unfolding edge_of
  edge_found a b one reach rings_reach p next q =
      record {
        number = refl;
        one = one;
        reach = reach;
        rings_reach = rings_reach;
        holds = A;
        starts = p;
        next = next;
        stops = q;
        edge_is = λ R. λ i. (p i, (q ∙ ap (corner_at corners) (sym (next_of_ring n count rings R e ring A))) i);
        only = λ R r B. one_ring n count rings R e r ring B A;
      }
