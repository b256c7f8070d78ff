-- N(n) as item 5 says it: the bound on the halvings does not show. Assumes nothing.
use mathlib.Core.Path.{◌≡◌, refl, sym, ◌∙◌, ap, ap₂}
use mathlib.Core.Bool.{Bool, true, false, cond}
use Prim.Native.Nat.{ℕ, zero, suc, ◌+◌, ◌-◌, ◌/◌, ◌≤◌, ◌<◌}
use native.Mathlib.Omega.{arith}
use borrow.Author.Tests.{le-leb, lt-leb, leb-false}
use lib.Dec.{leb}
use Rattle.rules.specs.Nodes.{nodes_within, node_count}

-- any bound from n on will do
enough : (k j n : ℕ) → n ≤ k → n ≤ j → nodes_within k n ≡ nodes_within j n
unfolding nodes_within
enough zero zero n h g = refl
enough zero (suc j) n h g = sym (ap (λ b. cond b 1 (1 + nodes_within j (n / 2) + nodes_within j (n - n / 2))) (le-leb n 8 (omega arith)))
enough (suc k) zero n h g = ap (λ b. cond b 1 (1 + nodes_within k (n / 2) + nodes_within k (n - n / 2))) (le-leb n 8 (omega arith))
enough (suc k) (suc j) n h g = go (leb n 8) refl (λ m small more. enough k j m small more)
  where
    go : (b : Bool) → leb n 8 ≡ b → ((m : ℕ) → m ≤ k → m ≤ j → nodes_within k m ≡ nodes_within j m) → cond b 1 (1 + nodes_within k (n / 2) + nodes_within k (n - n / 2)) ≡ cond b 1 (1 + nodes_within j (n / 2) + nodes_within j (n - n / 2))
    go true e rest = refl
    go false e rest =
        let big = leb-false n 8 e in
        ap₂ (λ x y. 1 + x + y) (rest (n / 2) (omega arith) (omega arith)) (rest (n - n / 2) (omega arith) (omega arith))

pub node_count_leaf : (n : ℕ) → n ≤ 8 → node_count n ≡ 1
unfolding node_count nodes_within
node_count_leaf zero h = refl
node_count_leaf (suc n) h = ap (λ b. cond b 1 (1 + nodes_within n (suc n / 2) + nodes_within n (suc n - suc n / 2))) (le-leb (suc n) 8 h)

pub node_count_cut : (n : ℕ) → 8 < n → node_count n ≡ 1 + node_count (n / 2) + node_count (n - n / 2)
unfolding node_count nodes_within
node_count_cut zero h = absurd (omega arith)
node_count_cut (suc n) h =
    ap (λ b. cond b 1 (1 + nodes_within n (suc n / 2) + nodes_within n (suc n - suc n / 2))) (lt-leb (suc n) 8 h)
    ∙ ap₂ (λ x y. 1 + x + y) (enough n (suc n / 2) (suc n / 2) (omega arith) (omega arith)) (enough n (suc n - suc n / 2) (suc n - suc n / 2) (omega arith) (omega arith))
