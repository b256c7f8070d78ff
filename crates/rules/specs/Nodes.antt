-- How many nodes a hierarchy over n edges has (document 01, item 5).
use Rattle.std.specs.Prelude.{cond, ℕ, zero, suc, ◌+◌, ◌-◌, ◌/◌, leb}

-- with a bound on how often n is halved; n itself bounds it
unfoldable pub nodes_within : ℕ → ℕ → ℕ
nodes_within zero n = 1
nodes_within (suc bound) n = cond (leb n 8) 1 (1 + nodes_within bound (n / 2) + nodes_within bound (n - n / 2))

-- N(n) = 1 for n ≤ 8, else 1 + N(floor(n / 2)) + N(n − floor(n / 2))
unfoldable pub node_count : ℕ → ℕ
node_count n = nodes_within n n
