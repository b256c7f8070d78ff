-- The laws of `Shuffled`: length, frame, what holds of each place of the window, a chain of two, a wider window,
-- and back. Assumes nothing.
use mathlib.Core.Path.{◌≡◌, refl, ◌∙◌, subst}
use mathlib.Core.List.{List}
use Prim.Native.Nat.{ℕ, ◌≤◌, ◌<◌}
use native.Mathlib.Decide.{ℕ_discrete}
use native.Mathlib.Omega.{arith}
use lib.ListN.{length, get_or, set, length-set}
use lib.Seq.{get_or-set_same, get_or-set_other, ext_get_or}
use Rattle.cut.specs.Shuffle.{swapped, Shuffled}
use Rattle.cut.specs.Shuffle.Shuffled.{same, more}

pub length_swapped : (i j : ℕ) (xs : List ℕ) → length (swapped i j xs) ≡ length xs
unfolding swapped
length_swapped i j xs = simp length-set

-- what stands at k after a swap stood before at i, at j, or at k
pub swapped_at : (P : ℕ → Type 0) (i j : ℕ) (xs : List ℕ) (k : ℕ) → i < length xs → j < length xs → P (get_or xs i 0) → P (get_or xs j 0) → P (get_or xs k 0) → P (get_or (swapped i j xs) k 0)
unfolding swapped
swapped_at P i j xs k hi hj pi pj pk = go (ℕ_discrete k j)
  where
    goi : Dec (k ≡ i) → (k ≡ j → ⊥) → P (get_or (set (set xs i (get_or xs j 0)) j (get_or xs i 0)) k 0)
    goi (yes e) n = rw (get_or-set_other (set xs i (get_or xs j 0)) j k (get_or xs i 0) 0 n, e, get_or-set_same xs i (get_or xs j 0) 0 hi) pj
    goi (no d) n = rw (get_or-set_other (set xs i (get_or xs j 0)) j k (get_or xs i 0) 0 n, get_or-set_other xs i k (get_or xs j 0) 0 d) pk

    go : Dec (k ≡ j) → P (get_or (set (set xs i (get_or xs j 0)) j (get_or xs i 0)) k 0)
    go (yes e) = rw (e, get_or-set_same (set xs i (get_or xs j 0)) j (get_or xs i 0) 0 (simp length-set hj)) pi
    go (no n) = goi (ℕ_discrete k i) n

-- at a third place nothing changes
pub swapped_other : (i j : ℕ) (xs : List ℕ) (k : ℕ) → (k ≡ i → ⊥) → (k ≡ j → ⊥) → get_or (swapped i j xs) k 0 ≡ get_or xs k 0
unfolding swapped
swapped_other i j xs k ni nj = get_or-set_other (set xs i (get_or xs j 0)) j k (get_or xs i 0) 0 nj ∙ get_or-set_other xs i k (get_or xs j 0) 0 ni

-- the second place holds what the first held
pub swapped_second : (i j : ℕ) (xs : List ℕ) → j < length xs → get_or (swapped i j xs) j 0 ≡ get_or xs i 0
unfolding swapped
swapped_second i j xs hj = get_or-set_same (set xs i (get_or xs j 0)) j (get_or xs i 0) 0 (simp length-set hj)

-- the first place holds what the second held
pub swapped_first : (i j : ℕ) (xs : List ℕ) → i < length xs → j < length xs → get_or (swapped i j xs) i 0 ≡ get_or xs j 0
unfolding swapped
swapped_first i j xs hi hj = go (ℕ_discrete i j)
  where
    go : Dec (i ≡ j) → get_or (set (set xs i (get_or xs j 0)) j (get_or xs i 0)) i 0 ≡ get_or xs j 0
    go (yes e) = rw (e, get_or-set_same (set xs j (get_or xs j 0)) j (get_or xs j 0) 0 (simp length-set hj))
    go (no n) = get_or-set_other (set xs i (get_or xs j 0)) j i (get_or xs i 0) 0 n ∙ get_or-set_same xs i (get_or xs j 0) 0 hi

module _ {lo hi : ℕ} {xs : List ℕ} where
  pub shuffled_length : {ys : List ℕ} → Shuffled lo hi xs ys → length ys ≡ length xs
  shuffled_length same = refl
  shuffled_length (more {ys} i j li ih lj jh hl s) = length_swapped i j ys ∙ shuffled_length s

  -- what holds of each place of the window holds of each again
  pub shuffled_each : (P : ℕ → Type 0) {ys : List ℕ} → Shuffled lo hi xs ys → ((k : ℕ) → lo ≤ k → k < hi → P (get_or xs k 0)) → (k : ℕ) → lo ≤ k → k < hi → P (get_or ys k 0)
  shuffled_each P same h k l u = h k l u
  shuffled_each P (more {ys} i j li ih lj jh hl s) h k l u =
      swapped_at P i j ys k (omega arith) (omega arith) (shuffled_each P s h i li ih) (shuffled_each P s h j lj jh) (shuffled_each P s h k l u)

  -- the frame
  pub shuffled_before : {ys : List ℕ} → Shuffled lo hi xs ys → (k : ℕ) → k < lo → get_or ys k 0 ≡ get_or xs k 0
  shuffled_before same k u = refl
  shuffled_before (more {ys} i j li ih lj jh hl s) k u = swapped_other i j ys k (omega arith) (omega arith) ∙ shuffled_before s k u

  pub shuffled_after : {ys : List ℕ} → Shuffled lo hi xs ys → (k : ℕ) → hi ≤ k → get_or ys k 0 ≡ get_or xs k 0
  shuffled_after same k u = refl
  shuffled_after (more {ys} i j li ih lj jh hl s) k u = swapped_other i j ys k (omega arith) (omega arith) ∙ shuffled_after s k u

  pub shuffled_trans : {ys zs : List ℕ} → Shuffled lo hi xs ys → Shuffled lo hi ys zs → Shuffled lo hi xs zs
  shuffled_trans s same = s
  shuffled_trans s (more i j li ih lj jh hl t) = more i j li ih lj jh hl (shuffled_trans s t)

  -- a wider window
  pub shuffled_wider : (lo' hi' : ℕ) {ys : List ℕ} → lo' ≤ lo → hi ≤ hi' → hi' ≤ length xs → Shuffled lo hi xs ys → Shuffled lo' hi' xs ys
  shuffled_wider lo' hi' l h w same = same
  shuffled_wider lo' hi' l h w (more {ys} i j li ih lj jh hl s) =
      more {ys = ys} i j (omega arith) (omega arith) (omega arith) (omega arith) (omega (arith, shuffled_length s)) (shuffled_wider lo' hi' l h w s)

-- ---- and back again
swapped_twice : (i j : ℕ) (xs : List ℕ) → i < length xs → j < length xs → swapped i j (swapped i j xs) ≡ xs
swapped_twice i j xs hi hj = ext_get_or 0 (swapped i j (swapped i j xs)) xs (length_swapped i j (swapped i j xs) ∙ length_swapped i j xs) (λ k l. go k (ℕ_discrete k j) (ℕ_discrete k i))
  where
    long : length (swapped i j xs) ≡ length xs
    long = length_swapped i j xs

    go : (k : ℕ) → Dec (k ≡ j) → Dec (k ≡ i) → get_or (swapped i j (swapped i j xs)) k 0 ≡ get_or xs k 0
    go k (yes e) d = rw e (swapped_second i j (swapped i j xs) (omega (arith, long)) ∙ swapped_first i j xs hi hj)
    go k (no n) (yes e) = rw e (swapped_first i j (swapped i j xs) (omega (arith, long)) (omega (arith, long)) ∙ swapped_second i j xs hj)
    go k (no n) (no d) = swapped_other i j (swapped i j xs) k d n ∙ swapped_other i j xs k d n

pub shuffled_sym : {lo hi : ℕ} {xs ys : List ℕ} → Shuffled lo hi xs ys → Shuffled lo hi ys xs
shuffled_sym same = same
shuffled_sym {lo} {hi} {xs} (more {ys = ys} i j li ih lj jh hl s) =
    shuffled_trans (subst (Shuffled lo hi (swapped i j ys)) (swapped_twice i j ys (omega arith) (omega arith)) (more {ys = swapped i j ys} i j li ih lj jh (omega (arith, length_swapped i j ys)) same)) (shuffled_sym s)
