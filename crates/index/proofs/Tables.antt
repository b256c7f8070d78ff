-- What the builder's stores do to the tables, place by place. Assumes nothing.
use mathlib.Core.Path.{◌≡◌, refl, ◌∙◌, subst}
use mathlib.Core.List.{List}
use Prim.Native.Nat.{ℕ, ◌+◌, ◌-◌, ◌/◌, ◌≤◌, ◌<◌}
use native.Mathlib.Omega.{arith}
use lib.IntN.{ℤ}
use lib.ListN.{length, set, length-set}
use lib.Seq.{get_or-set_same, get_or-set_other}
use Rattle.geom.specs.declared.Rect.{Rect}
use Rattle.boxes.specs.Boxes.{box_of, rect_at, Names}
use Rattle.cut.specs.declared.keys.Axis.{Axis}
use Rattle.cut.specs.Keys.{axis_of, CutPart}
use Rattle.cut.specs.Shuffle.{Shuffled}
use Rattle.cut.proofs.Shuffles.{shuffled_length, shuffled_each}
use Rattle.index.specs.Parts.{first_at, count_at}
use Rattle.index.specs.Build.{Numbered, KeptFrom, Two, Children, NodeCut}

-- ---- edge numbers in order
pub numbered_none : (xs : List ℕ) → Numbered 0 xs xs
numbered_none xs = record { long = refl; inside = λ k u. absurd (omega arith); after = λ k l. refl }

-- ---- two on the stack
pub two : (xs : List ℕ) (u a b : ℕ) → u + 1 < length xs → Two xs u a b (set (set xs u a) (u + 1) b)
two xs u a b h =
    record {
      long = simp length-set;
      before = λ k l. get_or-set_other (set xs u a) (u + 1) k b 0 (omega arith) ∙ get_or-set_other xs u k a 0 (omega arith);
      at = get_or-set_other (set xs u a) (u + 1) u b 0 (omega arith) ∙ get_or-set_same xs u a 0 (omega arith);
      next = get_or-set_same (set xs u a) (u + 1) b 0 (simp length-set h);
      after = λ k l. get_or-set_other (set xs u a) (u + 1) k b 0 (omega arith) ∙ get_or-set_other xs u k a 0 (omega arith);
    }

-- ---- working space
pub kept_all : (m : ℕ) (xs : List ℕ) → KeptFrom m xs xs
kept_all m xs = record { long = refl; rest = λ k l. refl }

pub kept_both : (m : ℕ) (xs ys zs : List ℕ) → KeptFrom m xs ys → KeptFrom m ys zs → KeptFrom m xs zs
kept_both m xs ys zs K L = record { long = L.long ∙ K.long; rest = λ k l. L.rest k l ∙ K.rest k l }

pub kept_wider : (m l : ℕ) (xs ys : List ℕ) → m ≤ l → KeptFrom m xs ys → KeptFrom l xs ys
kept_wider m l xs ys h K = record { long = K.long; rest = λ k i. K.rest k (omega arith) }

pub kept_set : (m : ℕ) (xs ys : List ℕ) (i v : ℕ) → i < m → KeptFrom m xs ys → KeptFrom m xs (set ys i v)
kept_set m xs ys i v h K = record { long = length-set ys i v ∙ K.long; rest = λ k l. get_or-set_other ys i k v 0 (omega arith) ∙ K.rest k l }

pub kept_two : (m : ℕ) (xs ys : List ℕ) (u a b : ℕ) (zs : List ℕ) → u + 1 < m → KeptFrom m xs ys → Two ys u a b zs → KeptFrom m xs zs
kept_two m xs ys u a b zs h K T = record { long = T.long ∙ K.long; rest = λ k l. T.after k (omega arith) ∙ K.rest k l }

-- ---- a node cut
module _ (corners : List ℤ) (rings : List ℕ) (boxes : List (List ℤ)) (parts : List (List ℕ)) (edges : List ℕ) (p u : ℕ) (boxes' : List (List ℤ)) (parts' : List (List ℕ)) (edges' : List ℕ) (reads : ℕ) where
  pub node_cut : (axis : Axis) (left right : Rect) → axis ≡ axis_of (rect_at boxes p) → CutPart corners rings axis (first_at parts p) (count_at parts p) edges edges' reads
      → left ≡ box_of corners rings edges' (first_at parts p) (count_at parts p / 2) → right ≡ box_of corners rings edges' (first_at parts p + count_at parts p / 2) (count_at parts p - count_at parts p / 2)
      → Children boxes parts p u (u + 1) (first_at parts p) (count_at parts p / 2) (count_at parts p - count_at parts p / 2) left right boxes' parts' → NodeCut corners rings boxes parts edges p u boxes' parts' edges' reads
  node_cut axis left right is cut l r grown =
      record {
        cut = subst (λ a. CutPart corners rings a (first_at parts p) (count_at parts p) edges edges' reads) is cut;
        grown =
            subst (λ b. Children boxes parts p u (u + 1) (first_at parts p) (count_at parts p / 2) (count_at parts p - count_at parts p / 2) (box_of corners rings edges' (first_at parts p) (count_at parts p / 2)) b boxes' parts') r
            (subst (λ b. Children boxes parts p u (u + 1) (first_at parts p) (count_at parts p / 2) (count_at parts p - count_at parts p / 2) b right boxes' parts') l grown);
      }

-- a shuffle keeps names of edges
pub names_shuffled : (n : ℕ) (xs ys : List ℕ) (f m g k : ℕ) → Names n xs f m → Shuffled f (f + m) xs ys → f ≤ g → g + k ≤ f + m → Names n ys g k
names_shuffled n xs ys f m g k N S l u =
    record { inside = omega (arith, N.inside, shuffled_length S); each = λ j a b. shuffled_each (λ e. e < n) S N.each j (omega arith) (omega arith) }
