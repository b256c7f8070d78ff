-- Edges by their number, over the ring table of a prepared plan: where each ring ends (document 01, item 1).
use Rattle.std.specs.Prelude.{◌≡◌, Bool, cond, true, ◌&&◌, List, [], ◌∷◌, ℕ, zero, suc, ◌+◌, ◌-◌, ◌*◌, ◌≤◌, ◌<◌, leb, ltb, ℤ, length, get_or}
use Rattle.geom.specs.Range.{in_range}
use Rattle.rules.specs.Edges.{Edge}
use Rattle.rules.specs.Plans.{corner_at}

-- ring r starts where the ring before it ends
unfoldable pub start_of : List ℕ → ℕ → ℕ
start_of rings zero = 0
start_of rings (suc r) = get_or rings r 0

-- in a ring from `start` to `end`: the next corner, or the first after the last
abbrev pub next_in : ℕ → ℕ → ℕ → ℕ
next_in start end e = cond (ltb (e + 1) end) (e + 1) start

-- and the corner before: the one before, or the last before the first
abbrev pub previous_in : ℕ → ℕ → ℕ → ℕ
previous_in start end e = cond (ltb start e) (e - 1) (end - 1)

-- the corner after corner e in its ring, which is the first to end after e; a corner of no ring stays
unfoldable pub next_from : ℕ → List ℕ → ℕ → ℕ
next_from start [] e = e
next_from start (end ∷ rings) e = cond (ltb e end) (next_in start end e) (next_from end rings e)

unfoldable pub next_corner : List ℕ → ℕ → ℕ
unfolding next_from
next_corner rings e = next_from 0 rings e

-- item 1: edge e starts at corner e and ends at the next corner of its ring
unfoldable pub edge_of : List ℤ → List ℕ → ℕ → Edge
edge_of corners rings e = (corner_at corners e, corner_at corners (next_corner rings e))

-- corner e is in ring r: as a test, and of the first `count` rings
abbrev pub in_ring : List ℕ → ℕ → ℕ → Bool
in_ring rings r e = leb (start_of rings r) e && ltb e (get_or rings r 0)

pub record RingAt (rings : List ℕ) (count e r : ℕ) : Type 0 where
  pub ring : r < count
  pub from : start_of rings r ≤ e
  pub to : e < get_or rings r 0

-- the first `count` entries are the ends of the rings of n corners
pub record RingEnds (n count : ℕ) (rings : List ℕ) : Type 0 where
  pub reach : count ≤ length rings
  pub rise : (r : ℕ) → r < count → start_of rings r ≤ get_or rings r 0
  pub all : start_of rings count ≡ n

-- n corners in range
pub record CornersNear (n : ℕ) (corners : List ℤ) : Type 0 where
  pub reach : 2 * n ≤ length corners
  pub few : n ≤ 1048576
  pub near : (i : ℕ) → i < n → in_range (corner_at corners i) ≡ true
