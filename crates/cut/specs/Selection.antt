-- A part of a list cut in two by value (document 01, item 5: no key on the left exceeds one on the right).
use Rattle.std.specs.Prelude.{◌≡◌, ◌⊎◌, List, ℕ, ◌+◌, ◌-◌, ◌*◌, ◌/◌, ◌≤◌, ◌<◌, min, max, get_or}
use Rattle.cut.specs.Shuffle.{Shuffled}

-- P holds of what stands at each place of [lo, hi)
abbrev pub Each : (ℕ → Type 0) → ℕ → ℕ → List ℕ → Type 0
Each P lo hi xs = (k : ℕ) → lo ≤ k → k < hi → P (get_or xs k 0)

-- v stands at one of the places of [lo, hi)
abbrev pub Among : ℕ → ℕ → ℕ → List ℕ → Type 0
Among v lo hi xs = (k : ℕ) × (lo ≤ k) × (k < hi) × (get_or xs k 0 ≡ v)

-- the least and the greatest of what had the least and the greatest before, and x
pub record Wider (least greatest x least' greatest' : ℕ) : Type 0 where
  pub lower : least' ≡ min least x
  pub higher : greatest' ≡ max greatest x

-- the least and the greatest of the numbers at the places of [lo, hi)
pub record Spans (xs : List ℕ) (lo hi least greatest : ℕ) : Type 0 where
  pub from : Each (λ x. least ≤ x) lo hi xs
  pub to : Each (λ x. x ≤ greatest) lo hi xs
  pub least_among : Among least lo hi xs
  pub greatest_among : Among greatest lo hi xs

-- the least and the greatest, found with so many reads: each number is compared once
pub record SpansRead (xs : List ℕ) (lo hi least greatest reads : ℕ) : Type 0 where
  pub spans : Spans xs lo hi least greatest
  pub read : reads ≡ hi - lo

-- a partition of [lo, hi) by v, with the place s of the first number above v
pub record Parted (lo hi v : ℕ) (xs ys : List ℕ) (s : ℕ) : Type 0 where
  pub from : lo ≤ s
  pub to : s ≤ hi
  pub moved : Shuffled lo hi xs ys
  pub low : Each (λ x. x ≤ v) lo s ys
  pub high : Each (λ x. v < x) s hi ys

-- a partition made with so many reads: each number is compared once
pub record PartedRead (lo hi v : ℕ) (xs ys : List ℕ) (s reads : ℕ) : Type 0 where
  pub parted : Parted lo hi v xs ys s
  pub read : reads ≡ hi - lo

-- no number of [lo, m) exceeds one of [m, hi)
abbrev pub Ordered : ℕ → ℕ → ℕ → List ℕ → Type 0
Ordered lo m hi xs = (j k : ℕ) → lo ≤ j → j < m → m ≤ k → k < hi → get_or xs j 0 ≤ get_or xs k 0

-- the middle of a and b, rounded down
abbrev pub midway : ℕ → ℕ → ℕ
midway a b = a + (b - a) / 2

-- the partitions of a selection at m. After so many of them the list is ys, the window [p, q) holds what is still to be parted, its
-- numbers lie between a and b, and so many numbers have been read. To begin with each number of the part is read once, for the least
-- and the greatest. Then each partition reads its window, splits it by the middle of the values that are left, and leaves the side that
-- holds place m
pub data Bisected (lo m hi : ℕ) (xs : List ℕ) : List ℕ → ℕ → ℕ → ℕ → ℕ → ℕ → ℕ → Type 0 where
  spanned : {a b : ℕ} → Spans xs lo hi a b → Bisected lo m hi xs xs lo hi a b 0 (hi - lo)
  lower : {ys zs : List ℕ} {p q a b s partitions reads : ℕ} → Bisected lo m hi xs ys p q a b partitions reads → p < m → m < q → a < b → Parted p q (midway a b) ys zs s → m ≤ s
      → Bisected lo m hi xs zs p s a (midway a b) (partitions + 1) (reads + (q - p))
  upper : {ys zs : List ℕ} {p q a b s partitions reads : ℕ} → Bisected lo m hi xs ys p q a b partitions reads → p < m → m < q → a < b → Parted p q (midway a b) ys zs s → s < m
      → Bisected lo m hi xs zs s q (midway a b + 1) b (partitions + 1) (reads + (q - p))

-- the reads of a selection that ends with ys: those of its partitions, at most 64, up to where one side is empty or one value is left
pub record Counted (lo m hi : ℕ) (xs ys : List ℕ) (reads : ℕ) : Type 0 where
  pub left : ℕ
  pub right : ℕ
  pub least : ℕ
  pub greatest : ℕ
  pub partitions : ℕ
  pub bisected : Bisected lo m hi xs ys left right least greatest partitions reads
  pub rounds : partitions ≤ 64
  pub done : (m ≤ left) ⊎ (right ≤ m) ⊎ (greatest ≤ least)

-- the part is cut at m: a reordering of what it was, in order across m, with its reads counted, at most 65 a number
pub record Selected (lo m hi : ℕ) (xs ys : List ℕ) (reads : ℕ) : Type 0 where
  pub moved : Shuffled lo hi xs ys
  pub ordered : Ordered lo m hi ys
  pub counted : Counted lo m hi xs ys reads
  pub few : reads ≤ 65 * (hi - lo)
