-- The four rays on signs alone: those of a − p and b − p in x and in y, and of the turn. What is claimed of an edge is a test of five
-- signs, which antt computes for all 243 of them. Assumes nothing.
use mathlib.Core.Path.{◌≡◌}
use mathlib.Core.Bool.{Bool, false, not, cond, ◌&&◌, ◌||◌}
use lib.Dec.{T}
use lib.IntN.{ℤ, pos, negsuc, ◌+ℤ◌}
use lib.Signed.{le_z, le_z_yes}
use Rattle.integers.specs.declared.Sign.{Sign}
use Rattle.integers.specs.declared.Sign.TheVariants.{Negative, Zero, Positive}
use Rattle.integers.specs.Signs.{is_negative, is_zero, is_positive}
use Rattle.integers.proofs.Order.{≤ℤ_antisym}
use Rattle.integers.proofs.Tests.{and_left, and_right}
use Rattle.integers.proofs.Signs.{opposite, times, agree}
use Rattle.rules.specs.declared.Ray.{Ray}
use Rattle.rules.specs.declared.Ray.TheVariants.{Right, Left, Up, Down}
use Rattle.rules.specs.Replies.{is_nonzero}
use Rattle.rules.specs.Lists.{xor}
use Rattle.rules.proofs.Flags.{remaining, same, same_is}

-- ---- the rules, of signs

-- item 3's rule, of the two heights and the turn
abbrev pub winding_by : Sign → Sign → Sign → ℤ
winding_by ay by s = cond (not (is_positive ay) && is_positive by && is_positive s) (pos 1) (cond (not (is_positive by) && is_positive ay && is_negative s) (negsuc 0) (pos 0))

-- one of two is at most p, one of two is at least p
abbrev pub low : Sign → Sign → Bool
low a b = not (is_positive a) || not (is_positive b)

abbrev pub high : Sign → Sign → Bool
high a b = not (is_negative a) || not (is_negative b)

-- p is on the closed edge
abbrev pub on_by : Sign → Sign → Sign → Sign → Sign → Bool
on_by ax ay bx by s = is_zero s && ((low ax bx && high ax bx) && (low ay by && high ay by))

-- the turned coordinates
abbrev pub x_turned : Ray → Sign → Sign → Sign
x_turned Right x y = x
x_turned Left x y = opposite x
x_turned Up x y = y
x_turned Down x y = opposite y

abbrev pub y_turned : Ray → Sign → Sign → Sign
y_turned Right x y = y
y_turned Left x y = opposite y
y_turned Up x y = opposite x
y_turned Down x y = x

abbrev pub winding_turned : Ray → Sign → Sign → Sign → Sign → Sign → ℤ
winding_turned ray ax ay bx by s = winding_by (y_turned ray ax ay) (y_turned ray bx by) s

-- the edge's box has a point on the ray
abbrev pub meets_by : Ray → Sign → Sign → Sign → Sign → Bool
meets_by Right ax ay bx by = high ax bx && (low ay by && high ay by)
meets_by Left ax ay bx by = low ax bx && (low ay by && high ay by)
meets_by Up ax ay bx by = high ay by && (low ax bx && high ax bx)
meets_by Down ax ay bx by = low ay by && (low ax bx && high ax bx)

-- the signs that a turn can have, given those of a − p and b − p
abbrev pub possible : Sign → Sign → Sign → Sign → Sign → Bool
possible ax ay bx by s = agree (times ax by) (times ay bx) s

-- ---- the potential: 1 for a corner between the ray to the right and the ray d, counter-clockwise, as seen from p
abbrev pub potential : Ray → Sign → Sign → ℤ
potential Right x y = pos 0
potential Up x y = cond (not (is_negative x) && is_positive y) (pos 1) (pos 0)
potential Left x y = cond (is_positive y || (is_zero y && is_negative x)) (pos 1) (pos 0)
potential Down x y = cond (is_positive x && not (is_positive y)) (pos 0) (pos 1)

-- ---- all signs at once
abbrev pub all : (Sign → Bool) → Bool
all test = test Negative && (test Zero && test Positive)

abbrev pub all5 : (Sign → Sign → Sign → Sign → Sign → Bool) → Bool
all5 test = all (λ a. all (λ b. all (λ c. all (λ d. all (λ e. test a b c d e)))))

all_at : (test : Sign → Bool) → T (all test) → (s : Sign) → T (test s)
all_at test t Negative = and_left (test Negative) (test Zero && test Positive) t
all_at test t Zero = and_left (test Zero) (test Positive) (and_right (test Negative) (test Zero && test Positive) t)
all_at test t Positive = and_right (test Zero) (test Positive) (and_right (test Negative) (test Zero && test Positive) t)

pub all5_at : (test : Sign → Sign → Sign → Sign → Sign → Bool) → T (all5 test) → (a b c d e : Sign) → T (test a b c d e)
all5_at test t a b c d e =
    all_at (λ e. test a b c d e) (all_at (λ d. all (λ e. test a b c d e)) (all_at (λ c. all (λ d. all (λ e. test a b c d e))) (all_at (λ b. all (λ c. all (λ d. all (λ e. test a b c d e)))) (all_at (λ a. all (λ b. all (λ c. all (λ d. all (λ e. test a b c d e))))) t a) b) c) d) e

-- ---- an edge that p is not on winds alike on each ray, but for the potential of its ends
abbrev equal_z : ℤ → ℤ → Bool
equal_z u v = le_z u v && le_z v u

abbrev test_winding : Ray → Sign → Sign → Sign → Sign → Sign → Bool
test_winding ray ax ay bx by s =
    not (possible ax ay bx by s) || (on_by ax ay bx by s || equal_z (winding_turned ray ax ay bx by s +ℤ potential ray bx by) (winding_by ay by s +ℤ potential ray ax ay))

winding_tested : (ray : Ray) → T (all5 (test_winding ray))
winding_tested Right = tt
winding_tested Left = tt
winding_tested Up = tt
winding_tested Down = tt

pub winding_signs : (ray : Ray) (ax ay bx by s : Sign) → T (possible ax ay bx by s) → on_by ax ay bx by s ≡ false
    → winding_turned ray ax ay bx by s +ℤ potential ray bx by ≡ winding_by ay by s +ℤ potential ray ax ay
winding_signs ray ax ay bx by s h g =
    let u = winding_turned ray ax ay bx by s +ℤ potential ray bx by in
    let v = winding_by ay by s +ℤ potential ray ax ay in
    let t = remaining (possible ax ay bx by s) (on_by ax ay bx by s) (equal_z u v) (all5_at (test_winding ray) (winding_tested ray) ax ay bx by s) h g in
    ≤ℤ_antisym u v (le_z_yes (and_left (le_z u v) (le_z v u) t)) (le_z_yes (and_right (le_z u v) (le_z v u) t))

-- ---- and crosses alike
abbrev test_parity : Ray → Sign → Sign → Sign → Sign → Sign → Bool
test_parity ray ax ay bx by s =
    not (possible ax ay bx by s) || (on_by ax ay bx by s || same (xor (is_nonzero (winding_turned ray ax ay bx by s)) (is_nonzero (potential ray bx by))) (xor (is_nonzero (winding_by ay by s)) (is_nonzero (potential ray ax ay))))

parity_tested : (ray : Ray) → T (all5 (test_parity ray))
parity_tested Right = tt
parity_tested Left = tt
parity_tested Up = tt
parity_tested Down = tt

pub parity_signs : (ray : Ray) (ax ay bx by s : Sign) → T (possible ax ay bx by s) → on_by ax ay bx by s ≡ false
    → xor (is_nonzero (winding_turned ray ax ay bx by s)) (is_nonzero (potential ray bx by)) ≡ xor (is_nonzero (winding_by ay by s)) (is_nonzero (potential ray ax ay))
parity_signs ray ax ay bx by s h g =
    same_is _ _ (remaining (possible ax ay bx by s) (on_by ax ay bx by s) _ (all5_at (test_parity ray) (parity_tested ray) ax ay bx by s) h g)

-- ---- an edge whose box misses the ray adds nothing, and p is not on it
abbrev test_box : Ray → Sign → Sign → Sign → Sign → Sign → Bool
test_box ray ax ay bx by s =
    not (possible ax ay bx by s) || (meets_by ray ax ay bx by || (not (is_nonzero (winding_turned ray ax ay bx by s)) && not (on_by ax ay bx by s)))

box_tested : (ray : Ray) → T (all5 (test_box ray))
box_tested Right = tt
box_tested Left = tt
box_tested Up = tt
box_tested Down = tt

pub box_signs : (ray : Ray) (ax ay bx by s : Sign) → T (possible ax ay bx by s) → meets_by ray ax ay bx by ≡ false
    → T (not (is_nonzero (winding_turned ray ax ay bx by s))) × T (not (on_by ax ay bx by s))
box_signs ray ax ay bx by s h g =
    let u = not (is_nonzero (winding_turned ray ax ay bx by s)) in
    let v = not (on_by ax ay bx by s) in
    let t = remaining (possible ax ay bx by s) (meets_by ray ax ay bx by) (u && v) (all5_at (test_box ray) (box_tested ray) ax ay bx by s) h g in
    (and_left u v t, and_right u v t)

-- ---- p is on the edge in turned coordinates exactly if it is on it
abbrev test_on : Ray → Sign → Sign → Sign → Sign → Sign → Bool
test_on ray ax ay bx by s = same (on_by (x_turned ray ax ay) (y_turned ray ax ay) (x_turned ray bx by) (y_turned ray bx by) s) (on_by ax ay bx by s)

on_tested : (ray : Ray) → T (all5 (test_on ray))
on_tested Right = tt
on_tested Left = tt
on_tested Up = tt
on_tested Down = tt

pub on_signs : (ray : Ray) (ax ay bx by s : Sign) → on_by (x_turned ray ax ay) (y_turned ray ax ay) (x_turned ray bx by) (y_turned ray bx by) s ≡ on_by ax ay bx by s
on_signs ray ax ay bx by s = same_is _ _ (all5_at (test_on ray) (on_tested ray) ax ay bx by s)
