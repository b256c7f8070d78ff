-- What a shuffle of a part of the edge list leaves: counts of edge numbers, boxes of parts and the cut rule, where no border of the
-- part runs through the window that is shuffled. Assumes nothing.
use mathlib.Core.Path.{◌≡◌, refl, ap, ap₂, ◌∙◌}
use mathlib.Core.Bool.{Bool, true, false, cond}
use mathlib.Core.Logic.{◌⊎◌, inl, inr}
use mathlib.Core.List.{List, [], ◌∷◌}
use Prim.Native.Nat.{ℕ, zero, suc, ◌+◌, ◌/◌, ◌≤◌, ◌<◌}
use native.Mathlib.Nat.{le_of_suc-le-suc, not-suc-le-zero}
use native.Mathlib.Decide.{ℕ_discrete}
use native.Mathlib.Omega.{arith}
use borrow.Author.Tests.{eq-eqb, ne_eqb}
use lib.Dec.{eqb}
use lib.IntN.{ℤ}
use lib.ListN.{length, get_or, set, take, length-set}
use lib.Seq.{get_or-set_same, get_or-set_other, take-set-lt, get_or-take, length-take-le}
use lib.Signed.{◌≤ℤ◌}
use Rattle.geom.specs.Boxes.{holds_rect}
use Rattle.geom.proofs.Boxes.{holds_both}
use Rattle.rules.specs.Lists.{count_of}
use Rattle.rules.proofs.Indexed.{count_to, bit, tabulate_part, count_tabulate}
use Rattle.boxes.specs.Boxes.{edge_box, box_of}
use Rattle.boxes.proofs.Unions.{box_same}
use Rattle.boxes.proofs.Leasts.{box_holds, box_within}
use Rattle.index.specs.Build.{Numbered}
use Rattle.cut.specs.declared.keys.Axis.{Axis}
use Rattle.cut.specs.Keys.{edge_key, CutRule}
use Rattle.cut.specs.Selection.{Each}
use Rattle.cut.specs.Shuffle.{swapped, Shuffled}
use Rattle.cut.specs.Shuffle.Shuffled.{same, more}
use Rattle.cut.proofs.Shuffles.{shuffled_length, shuffled_each, shuffled_before, shuffled_after, shuffled_wider, shuffled_sym}

-- ---- how often a number occurs
count_set : (test : ℕ → Bool) (xs : List ℕ) (i a : ℕ) → i < length xs → count_of test (set xs i a) + bit (test (get_or xs i 0)) ≡ count_of test xs + bit (test a)
unfolding count_of
count_set test [] i a h = absurd (not-suc-le-zero h)
count_set test (x ∷ xs) zero a h = go (test a) (test x)
  where
    go : (s t : Bool) → cond s (suc (count_of test xs)) (count_of test xs) + bit t ≡ cond t (suc (count_of test xs)) (count_of test xs) + bit s
    go true true = refl
    go true false = omega arith
    go false true = omega arith
    go false false = refl
count_set test (x ∷ xs) (suc i) a h = go (test x) (count_set test xs i a (le_of_suc-le-suc h))
  where
    go : (t : Bool) → count_of test (set xs i a) + bit (test (get_or xs i 0)) ≡ count_of test xs + bit (test a)
        → cond t (suc (count_of test (set xs i a))) (count_of test (set xs i a)) + bit (test (get_or xs i 0)) ≡ cond t (suc (count_of test xs)) (count_of test xs) + bit (test a)
    go true ih = omega arith
    go false ih = ih

count_swapped : (test : ℕ → Bool) (n i j : ℕ) (xs : List ℕ) → i < n → j < n → n ≤ length xs → count_of test (take n (swapped i j xs)) ≡ count_of test (take n xs)
unfolding swapped
count_swapped test n i j xs hi hj w =
    let long = length-take-le n xs w in
    let x = get_or xs i 0 in
    let y = get_or xs j 0 in
    let moved : take n (set (set xs i y) j x) ≡ set (set (take n xs) i y) j x = take-set-lt n (set xs i y) j x hj ∙ ap (λ l. set l j x) (take-set-lt n xs i y hi) in
    let first = count_set test (take n xs) i y (omega arith) in
    let second = count_set test (set (take n xs) i y) j x (simp length-set (omega arith)) in
    let at_i = ap (λ k. bit (test k)) (get_or-take n xs i 0 hi) in
    let at_j = ap (λ k. bit (test k)) (there n i j xs hi hj long (ℕ_discrete j i)) in
    ap (count_of test) moved ∙ omega (arith, first, second, at_i, at_j)
  where
    there : (n i j : ℕ) (xs : List ℕ) → i < n → j < n → length (take n xs) ≡ n → Dec (j ≡ i) → get_or (set (take n xs) i (get_or xs j 0)) j 0 ≡ get_or xs j 0
    there n i j xs hi hj long (yes e) = rw e (get_or-set_same (take n xs) i (get_or xs i 0) 0 (omega arith))
    there n i j xs hi hj long (no d) = get_or-set_other (take n xs) i j (get_or xs j 0) 0 d ∙ get_or-take n xs j 0 hj

pub count_shuffled : (test : ℕ → Bool) (n : ℕ) {lo hi : ℕ} {xs ys : List ℕ} → Shuffled lo hi xs ys → hi ≤ n → n ≤ length xs → count_of test (take n ys) ≡ count_of test (take n xs)
count_shuffled test n same h w = refl
count_shuffled test n (more {ys = ys} i j li ih lj jh hl s) h w =
    count_swapped test n i j ys (omega arith) (omega arith) (omega (arith, shuffled_length s)) ∙ count_shuffled test n s h w

-- a count by place
pub count_same : (test test' : ℕ → Bool) (n : ℕ) → ((k : ℕ) → k < n → test k ≡ test' k) → count_to test n ≡ count_to test' n
unfolding count_to
count_same test test' zero f = refl
count_same test test' (suc n) f = ap₂ ◌+◌ (count_same test test' n (λ k l. f k (omega arith))) (ap bit (f n (omega arith)))

pub count_places : (test : ℕ → Bool) (n : ℕ) (xs : List ℕ) → n ≤ length xs → count_of test (take n xs) ≡ count_to (λ k. test (get_or xs k 0)) n
count_places test n xs w =
    ap (count_of test) (tabulate_part xs 0 n 0 (omega arith)) ∙ count_tabulate test (λ i. get_or xs (0 + i) 0) n
    ∙ count_same (λ k. test (get_or xs (0 + k) 0)) (λ k. test (get_or xs k 0)) n (λ k l. ap (λ i. test (get_or xs i 0)) (let e : 0 + k ≡ k = omega arith in e))

-- among the numbers below n each occurs once
once_below : (n e : ℕ) → e < n → count_to (λ k. eqb k e) n ≡ 1
unfolding count_to
once_below zero e h = absurd (omega arith)
once_below (suc n) e h = go (ℕ_discrete n e) (once_below n e)
  where
    none : (m : ℕ) → m ≤ e → count_to (λ k. eqb k e) m ≡ 0
    none zero l = refl
    none (suc m) l = let z = none m (omega arith) in omega (arith, ap bit (ne_eqb m e (λ q. omega arith)))

    go : Dec (n ≡ e) → (e < n → count_to (λ k. eqb k e) n ≡ 1) → count_to (λ k. eqb k e) n + bit (eqb n e) ≡ 1
    go (yes q) ih = omega (arith, none n (omega arith), ap bit (eq-eqb n e q))
    go (no d) ih = let z = ih (omega arith) in omega (arith, ap bit (ne_eqb n e d))

pub once_numbered : (n : ℕ) (xs ys : List ℕ) → n ≤ length xs → Numbered n xs ys → (e : ℕ) → e < n → count_of (λ x. eqb x e) (take n ys) ≡ 1
once_numbered n xs ys w N e h =
    count_places (λ x. eqb x e) n ys (omega (arith, N.long)) ∙ count_same (λ k. eqb (get_or ys k 0) e) (λ k. eqb k e) n (λ k l. ap (λ x. eqb x e) (N.inside k l)) ∙ once_below n e h

-- ---- borders
-- the border x does not run through [lo, hi)
abbrev pub Clear : ℕ → ℕ → ℕ → Type 0
Clear x lo hi = (x ≤ lo) ⊎ (hi ≤ x)

pub clear_sub : (x lo hi lo' hi' : ℕ) → lo ≤ lo' → hi' ≤ hi → Clear x lo hi → Clear x lo' hi'
clear_sub x lo hi lo' hi' a b (inl h) = inl (omega arith)
clear_sub x lo hi lo' hi' a b (inr h) = inr (omega arith)

-- what holds of each place between two borders, after a shuffle of a window that neither runs through
each_kept : (Q : ℕ → Type 0) (a b : ℕ) {lo hi : ℕ} {ys zs : List ℕ} → Shuffled lo hi ys zs → b ≤ length ys → Clear a lo hi → Clear b lo hi → Each Q a b ys → Each Q a b zs
each_kept Q a b s w (inr h) cb f k l u = rw (shuffled_after s k (omega arith)) (f k l u)
each_kept Q a b s w (inl h) (inl g) f k l u = rw (shuffled_before s k (omega arith)) (f k l u)
each_kept Q a b s w (inl h) (inr g) f k l u = shuffled_each Q (shuffled_wider a b h g w s) f k l u

module _ (corners : List ℤ) (rings : List ℕ) where
  pub rule_kept : (axis : Axis) (f m : ℕ) {lo hi : ℕ} {ys zs : List ℕ} → Shuffled lo hi ys zs → f + m ≤ length ys → Clear f lo hi → Clear (f + m / 2) lo hi → Clear (f + m) lo hi
      → CutRule corners rings axis f m ys → CutRule corners rings axis f m zs
  rule_kept axis f m {ys = ys} {zs = zs} s w cf ch cm rule j k fj jm mk km =
      each_kept (λ x. Each (λ y. edge_key corners rings axis x ≤ℤ edge_key corners rings axis y) (f + m / 2) (f + m) zs) f (f + m / 2) s (omega arith) cf ch
      (λ i l u. each_kept (λ y. edge_key corners rings axis (get_or ys i 0) ≤ℤ edge_key corners rings axis y) (f + m / 2) (f + m) s w ch cm (λ t v x. rule i t l u v x)) j fj jm k mk km

  -- the box of a part does not change where the part is shuffled
  box_shuffled : (f m : ℕ) (ys zs : List ℕ) → Shuffled f (f + m) ys zs → box_of corners rings zs f m ≡ box_of corners rings ys f m
  box_shuffled f zero ys zs s = box_same corners corners rings ys zs f zero (λ k a b. absurd (omega arith))
  box_shuffled f (suc m) ys zs s = holds_both (box_of corners rings zs f (suc m)) (box_of corners rings ys f (suc m)) (inside zs ys (shuffled_sym s)) (inside ys zs s)
    where
      inside : (us vs : List ℕ) → Shuffled f (f + suc m) us vs → holds_rect (box_of corners rings us f (suc m)) (box_of corners rings vs f (suc m)) ≡ true
      inside us vs t = box_within corners rings vs (box_of corners rings us f (suc m)) f (suc m) (omega arith) (shuffled_each (λ e. holds_rect (box_of corners rings us f (suc m)) (edge_box corners rings e) ≡ true) t (box_holds corners rings us f (suc m)))

  pub box_kept : (f m : ℕ) {lo hi : ℕ} {ys zs : List ℕ} → Shuffled lo hi ys zs → f + m ≤ length ys → Clear f lo hi → Clear (f + m) lo hi → box_of corners rings zs f m ≡ box_of corners rings ys f m
  box_kept f m {ys = ys} {zs = zs} s w (inr h) cb = box_same corners corners rings ys zs f m (λ k a b. ap (edge_box corners rings) (shuffled_after s k (omega arith)))
  box_kept f m {ys = ys} {zs = zs} s w (inl h) (inl g) = box_same corners corners rings ys zs f m (λ k a b. ap (edge_box corners rings) (shuffled_before s k (omega arith)))
  box_kept f m {ys = ys} {zs = zs} s w (inl h) (inr g) = box_shuffled f m ys zs (shuffled_wider f (f + m) h g w s)
