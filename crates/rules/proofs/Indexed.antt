-- Edges by number: edge i of a ring of n corners goes from corner i to the next, the last one to corner 0. Sums, counts and tests over
-- the edge numbers 0 to n − 1 are those over the ring's edges, and so is the four-ray theorem. Assumes nothing.
use mathlib.Core.Path.{◌≡◌, refl, sym, ◌∙◌, ap, ap₂}
use mathlib.Core.Bool.{Bool, true, false, cond, ◌||◌}
use mathlib.Core.List.{List, [], ◌∷◌, ◌++◌, map}
use Prim.Native.Nat.{ℕ, zero, suc, ◌+◌, ◌≤◌, ◌<◌}
use native.Mathlib.Omega.{arith}
use borrow.Author.Tests.{lt-ltb}
use lib.Dec.{ltb, leb-suc-suc}
use lib.IntN.{ℤ, pos, ◌+ℤ◌, +ℤ_idl, +ℤ_idr, +ℤ_assoc}
use lib.ListN.{length, get_or, take, drop}
use lib.Seq.{drop-cons}
use Rattle.integers.proofs.Tests.{or_assoc, or_none}
use Rattle.geom.specs.declared.Point.{Point}
use Rattle.predicates.specs.Turn.{on_segment}
use Rattle.rules.specs.declared.Ray.{Ray}
use Rattle.rules.specs.Edges.{Edge, edges_from, edges_of, all_edges, edge_winding, winding, on_edge}
use Rattle.rules.specs.Lists.{any_of, count_of, sum_of, is_odd}
use Rattle.rules.specs.Rays.{winding_on}
use Rattle.rules.specs.Replies.{is_nonzero}
use Rattle.rules.proofs.FourRays.{four_rays, four_rays_parity}

-- ---- a list by a function of its places
unfoldable pub tabulate : {A : Type 0} → (ℕ → A) → ℕ → List A
tabulate f zero = []
tabulate f (suc n) = f 0 ∷ tabulate (λ i. f (suc i)) n

pub tabulate_same : {A : Type 0} (f g : ℕ → A) (n : ℕ) → ((i : ℕ) → i < n → f i ≡ g i) → tabulate f n ≡ tabulate g n
unfolding tabulate
tabulate_same f g zero e = refl
tabulate_same f g (suc n) e = ap₂ ◌∷◌ (e 0 (omega arith)) (tabulate_same (λ i. f (suc i)) (λ i. g (suc i)) n (λ i h. e (suc i) (omega arith)))

pub tabulate_at : {A : Type 0} (f : ℕ → A) (n i : ℕ) (d : A) → i < n → get_or (tabulate f n) i d ≡ f i
unfolding tabulate
tabulate_at f zero i d h = absurd (omega arith)
tabulate_at f (suc n) zero d h = refl
tabulate_at f (suc n) (suc i) d h = tabulate_at (λ k. f (suc k)) n i d (omega arith)

pub tabulate_length : {A : Type 0} (f : ℕ → A) (n : ℕ) → length (tabulate f n) ≡ n
unfolding tabulate
tabulate_length f zero = refl
tabulate_length f (suc n) = ap suc (tabulate_length (λ k. f (suc k)) n)

-- a part of a list, by its places
pub tabulate_part : {A : Type 0} (xs : List A) (start n : ℕ) (d : A) → start + n ≤ length xs → take n (drop start xs) ≡ tabulate (λ i. get_or xs (start + i) d) n
unfolding tabulate
tabulate_part xs start zero d h = refl
tabulate_part xs start (suc n) d h =
    ap (take (suc n)) (drop-cons xs start d (omega arith))
    ∙ ap₂ ◌∷◌ (ap (λ k. get_or xs k d) (let e : start ≡ start + 0 = omega arith in e))
    (tabulate_part xs (suc start) n d (omega arith) ∙ tabulate_same (λ i. get_or xs (suc start + i) d) (λ i. get_or xs (start + suc i) d) n (λ i l. ap (λ k. get_or xs k d) (let e : suc start + i ≡ start + suc i = omega arith in e)))

-- ---- sums, counts and tests over the numbers below n, the last one last
unfoldable pub sum_to : (ℕ → ℤ) → ℕ → ℤ
sum_to weight zero = pos 0
sum_to weight (suc n) = sum_to weight n +ℤ weight n

unfoldable pub any_to : (ℕ → Bool) → ℕ → Bool
any_to test zero = false
any_to test (suc n) = any_to test n || test n

abbrev pub bit : Bool → ℕ
bit true = 1
bit false = 0

unfoldable pub count_to : (ℕ → Bool) → ℕ → ℕ
count_to test zero = 0
count_to test (suc n) = count_to test n + bit (test n)

sum_first : (weight : ℕ → ℤ) (n : ℕ) → sum_to weight (suc n) ≡ weight 0 +ℤ sum_to (λ i. weight (suc i)) n
unfolding sum_to
sum_first weight zero = +ℤ_idl (weight 0) ∙ sym (+ℤ_idr (weight 0))
sum_first weight (suc n) = ap (λ z. z +ℤ weight (suc n)) (sum_first weight n) ∙ +ℤ_assoc (weight 0) (sum_to (λ i. weight (suc i)) n) (weight (suc n))

any_first : (test : ℕ → Bool) (n : ℕ) → any_to test (suc n) ≡ test 0 || any_to (λ i. test (suc i)) n
unfolding any_to
any_first test zero = sym (or_none (test 0))
any_first test (suc n) = ap (λ b. b || test (suc n)) (any_first test n) ∙ or_assoc (test 0) (any_to (λ i. test (suc i)) n) (test (suc n))

count_first : (test : ℕ → Bool) (n : ℕ) → count_to test (suc n) ≡ bit (test 0) + count_to (λ i. test (suc i)) n
unfolding count_to
count_first test zero = omega arith
count_first test (suc n) = let r = count_first test n in omega arith

pub sum_tabulate : {A : Type 0} (weight : A → ℤ) (f : ℕ → A) (n : ℕ) → sum_of weight (tabulate f n) ≡ sum_to (λ i. weight (f i)) n
unfolding sum_of tabulate sum_to
sum_tabulate weight f zero = refl
sum_tabulate weight f (suc n) = ap (λ z. weight (f 0) +ℤ z) (sum_tabulate weight (λ i. f (suc i)) n) ∙ sym (sum_first (λ i. weight (f i)) n)

pub any_tabulate : {A : Type 0} (test : A → Bool) (f : ℕ → A) (n : ℕ) → any_of test (tabulate f n) ≡ any_to (λ i. test (f i)) n
unfolding any_of tabulate any_to
any_tabulate test f zero = refl
any_tabulate test f (suc n) = ap (λ b. test (f 0) || b) (any_tabulate test (λ i. f (suc i)) n) ∙ sym (any_first (λ i. test (f i)) n)

pub count_tabulate : {A : Type 0} (test : A → Bool) (f : ℕ → A) (n : ℕ) → count_of test (tabulate f n) ≡ count_to (λ i. test (f i)) n
unfolding count_of tabulate count_to
count_tabulate test f zero = refl
count_tabulate test f (suc n) = go (test (f 0)) ∙ ap (λ k. bit (test (f 0)) + k) (count_tabulate test (λ i. f (suc i)) n) ∙ sym (count_first (λ i. test (f i)) n)
  where
    go : (b : Bool) → cond b (suc (count_of test (tabulate (λ i. f (suc i)) n))) (count_of test (tabulate (λ i. f (suc i)) n)) ≡ bit b + count_of test (tabulate (λ i. f (suc i)) n)
    go true = omega arith
    go false = omega arith

-- ---- the edges of a ring by number
abbrev pub next_in : ℕ → ℕ → ℕ
next_in n i = cond (ltb (suc i) n) (suc i) 0

abbrev pub edge_at : (ℕ → Point) → ℕ → ℕ → Edge
edge_at corner n i = (corner i, corner (next_in n i))

-- from a corner on, where `first` closes the ring
abbrev closing : Point → (ℕ → Point) → ℕ → ℕ → Edge
closing first corner n i = (corner i, cond (ltb (suc i) n) (corner (suc i)) first)

edges_from_lem : (first : Point) (corner : ℕ → Point) (k : ℕ) → edges_from first (corner 0) (tabulate (λ i. corner (suc i)) k) ≡ tabulate (closing first corner (suc k)) (suc k)
unfolding edges_from tabulate
edges_from_lem first corner zero = refl
edges_from_lem first corner (suc k) =
    ap₂ ◌∷◌ (ap (λ b. (corner 0, cond b (corner 1) first)) (sym (lt-ltb 1 (suc (suc k)) (omega arith))))
    (edges_from_lem first (λ i. corner (suc i)) k
    ∙ tabulate_same (closing first (λ i. corner (suc i)) (suc k)) (λ i. closing first corner (suc (suc k)) (suc i)) (suc k)
    (λ i h. ap (λ b. (corner (suc i), cond b (corner (suc (suc i))) first)) (sym (leb-suc-suc (suc (suc i)) (suc k)))))

closes : (corner : ℕ → Point) (n i : ℕ) → closing (corner 0) corner n i ≡ edge_at corner n i
closes corner n i = go (ltb (suc i) n)
  where
    go : (b : Bool) → ◌≡◌ {A = Edge} (corner i, cond b (corner (suc i)) (corner 0)) (corner i, corner (cond b (suc i) 0))
    go true = refl
    go false = refl

pub edges_by_number : (corner : ℕ → Point) (n : ℕ) → edges_of (tabulate corner n) ≡ tabulate (edge_at corner n) n
unfolding edges_of tabulate
edges_by_number corner zero = refl
edges_by_number corner (suc k) = edges_from_lem (corner 0) corner k ∙ tabulate_same (closing (corner 0) corner (suc k)) (edge_at corner (suc k)) (suc k) (λ i h. closes corner (suc k) i)

-- ---- item 1 for a whole plan: edge i starts at corner i
starts_from : (first corner : Point) (rest : List Point) → map (λ e. e.0) (edges_from first corner rest) ≡ corner ∷ rest
unfolding edges_from
starts_from first corner [] = refl
starts_from first corner (next ∷ rest) = ap (λ l. corner ∷ l) (starts_from first next rest)

starts_of : (ring : List Point) → map (λ e. e.0) (edges_of ring) ≡ ring
unfolding edges_of
starts_of [] = refl
starts_of (first ∷ rest) = starts_from first first rest

starts_append : (s t : List Edge) → map (λ e. e.0) (s ++ t) ≡ map (λ e. e.0) s ++ map (λ e. e.0) t
starts_append [] t = refl
starts_append (e ∷ s) t = ap (λ l. e.0 ∷ l) (starts_append s t)

-- all corners of all rings, in plan order
unfoldable pub all_corners : List (List Point) → List Point
all_corners [] = []
all_corners (ring ∷ rings) = ring ++ all_corners rings

pub edge_starts : (rings : List (List Point)) → map (λ e. e.0) (all_edges rings) ≡ all_corners rings
unfolding all_edges all_corners
edge_starts [] = refl
edge_starts (ring ∷ rings) = starts_append (edges_of ring) (all_edges rings) ∙ ap₂ ◌++◌ (starts_of ring) (edge_starts rings)

-- ---- the four-ray theorem by edge number
module _ (ray : Ray) (corner : ℕ → Point) (n : ℕ) (p : Point) (off : any_to (λ i. on_segment (edge_at corner n i).0 (edge_at corner n i).1 p) n ≡ false) where
  off_ring : on_edge (edges_of (tabulate corner n)) p ≡ false
  unfolding on_edge
  off_ring = ap (λ es. on_edge es p) (edges_by_number corner n) ∙ any_tabulate (λ e. on_segment e.0 e.1 p) (edge_at corner n) n ∙ off

  by_number : (weight : Edge → ℤ) → sum_of weight (edges_of (tabulate corner n)) ≡ sum_to (λ i. weight (edge_at corner n i)) n
  by_number weight = ap (sum_of weight) (edges_by_number corner n) ∙ sum_tabulate weight (edge_at corner n) n

  count_by_number : (test : Edge → Bool) → count_of test (edges_of (tabulate corner n)) ≡ count_to (λ i. test (edge_at corner n i)) n
  count_by_number test = ap (count_of test) (edges_by_number corner n) ∙ count_tabulate test (edge_at corner n) n

  pub four_rays_by_number : sum_to (λ i. winding_on ray (edge_at corner n i).0 (edge_at corner n i).1 p) n ≡ sum_to (λ i. edge_winding (edge_at corner n i).0 (edge_at corner n i).1 p) n
  unfolding winding
  four_rays_by_number =
      sym (by_number (λ e. winding_on ray e.0 e.1 p)) ∙ four_rays ray (tabulate corner n) p off_ring ∙ by_number (λ e. edge_winding e.0 e.1 p)

  pub four_rays_parity_by_number : is_odd (count_to (λ i. is_nonzero (winding_on ray (edge_at corner n i).0 (edge_at corner n i).1 p)) n) ≡ is_odd (count_to (λ i. is_nonzero (edge_winding (edge_at corner n i).0 (edge_at corner n i).1 p)) n)
  four_rays_parity_by_number =
      ap is_odd (sym (count_by_number (λ e. is_nonzero (winding_on ray e.0 e.1 p))))
      ∙ four_rays_parity ray (tabulate corner n) p off_ring
      ∙ ap is_odd (count_by_number (λ e. is_nonzero (edge_winding e.0 e.1 p)))
