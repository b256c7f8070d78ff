-- The size of a turn: twice the area of a triangle is at most the area of a square that holds its corners. So two words and a borrow hold
-- the turn of any three points, and of doubled points two words alone (document 02, R-2). Assumes nothing.
use mathlib.Core.Path.{◌≡◌, sym, ◌∙◌, subst}
use mathlib.Core.Bool.{true, ◌&&◌}
use Prim.Native.Nat.{ℕ, suc, ◌+◌, ◌*◌, ◌≤◌, ◌<◌, ◌^◌}
use native.Mathlib.Omega.{arith}
use native.Mathlib.Nat.{mul-le-mul, le_trans, lt_of_le_of_lt}
use lib.Dec.{lit<}
use lib.IntN.{ℤ, pos, negsuc, neg_ℤ, nat_abs, ◌+ℤ◌, ◌-ℤ◌, ◌*ℤ◌, *ℤ_comm}
use lib.Signed.{◌≤ℤ◌, le_z, lt_z}
use mir.Syntax.{w64}
use mir.Val.{SFits}
use Rattle.integers.specs.declared.SignedWide.{SignedWide}
use Rattle.integers.specs.Words.{word_pair, wide_value_of, top_bit, signed_words_of}
use Rattle.integers.proofs.Bits.{rd, rd_is, read₂}
use Rattle.integers.proofs.Borrows.{top_bit_lem, signed_words}
use Rattle.integers.proofs.Order.{zarith, add_parts, sub_parts, neg_parts, abs_parts, mag_parts, thin}
use Rattle.integers.proofs.Sizes.{abs_sub, abs_flip, abs_apart, abs_mul}
use Rattle.integers.proofs.Tests.{and_true, le_true, lt_true, true_le, true_lt}
use Rattle.geom.specs.declared.Point.{Point}
use Rattle.geom.specs.Range.{within, both_within, in_range, in_doubled_range}
use Rattle.geom.proofs.Range.{near}
use Rattle.predicates.specs.Turn.{is_narrow, AllNarrow, orientation}

-- ---- the difference of two products of numbers that are at most L and at most L apart
-- the outer two lie within L together
outer : (L : ℕ) (u s t v : ℤ) → nat_abs u + nat_abs v ≤ L → nat_abs s ≤ L → nat_abs t ≤ L → nat_abs (u *ℤ s -ℤ t *ℤ v) ≤ L * L
outer L u s t v h hs ht = le_trans (abs_sub (u *ℤ s) (t *ℤ v)) (rw (abs_mul u s, abs_mul t v) (go (nat_abs u) (nat_abs s) (nat_abs t) (nat_abs v) h hs ht))
  where
    go : (a b c d : ℕ) → a + d ≤ L → b ≤ L → c ≤ L → a * b + c * d ≤ L * L
    go a b c d h hb hc =
        let e : a * b ≤ a * L = mul-le-mul {n₂ = a} (omega arith) hb in
        let f : c * d ≤ L * d = mul-le-mul {m₂ = d} hc (omega arith) in
        let g : (a + d) * L ≤ L * L = mul-le-mul {m₂ = L} h (omega arith) in
        omega arith

-- the inner two do
inner : (L : ℕ) (u s t v : ℤ) → nat_abs s + nat_abs t ≤ L → nat_abs u ≤ L → nat_abs v ≤ L → nat_abs (u *ℤ s -ℤ t *ℤ v) ≤ L * L
inner L u s t v h hu hv = subst (λ z. nat_abs z ≤ L * L) (λ i. *ℤ_comm s u i -ℤ *ℤ_comm v t i) (outer L s u v t h hu hv)

-- two products of one sign: the larger one bounds their difference
alike : (k m n : ℕ) → m ≤ k → n ≤ k → nat_abs (pos m -ℤ pos n) ≤ k
alike k m n h g = omega (zarith, sub_parts (pos m) (pos n), abs_parts (pos m -ℤ pos n), thin (pos m -ℤ pos n))

both_below : (k m n : ℕ) → m ≤ k → n ≤ k → nat_abs (neg_ℤ (pos m) -ℤ neg_ℤ (pos n)) ≤ k
both_below k m n h g = omega (zarith, neg_parts (pos m), neg_parts (pos n), sub_parts (neg_ℤ (pos m)) (neg_ℤ (pos n)), abs_parts (neg_ℤ (pos m) -ℤ neg_ℤ (pos n)), thin (neg_ℤ (pos m) -ℤ neg_ℤ (pos n)))

-- two numbers of two signs lie within L together, and else both products have one sign
cross_size : (L : ℕ) (u s t v : ℤ) → nat_abs u ≤ L → nat_abs s ≤ L → nat_abs t ≤ L → nat_abs v ≤ L → nat_abs (u -ℤ v) ≤ L → nat_abs (s -ℤ t) ≤ L → nat_abs (u *ℤ s -ℤ t *ℤ v) ≤ L * L
cross_size L (pos m) s t (negsuc n) hu hs ht hv h g = outer L (pos m) s t (negsuc n) (omega (arith, abs_apart m n)) hs ht
cross_size L (negsuc m) s t (pos n) hu hs ht hv h g = outer L (negsuc m) s t (pos n) (omega (arith, abs_flip (negsuc m) (pos n), abs_apart n m)) hs ht
cross_size L (pos m) (pos k) (negsuc l) (pos n) hu hs ht hv h g = inner L (pos m) (pos k) (negsuc l) (pos n) (omega (arith, abs_apart k l)) hu hv
cross_size L (pos m) (negsuc k) (pos l) (pos n) hu hs ht hv h g = inner L (pos m) (negsuc k) (pos l) (pos n) (omega (arith, abs_flip (negsuc k) (pos l), abs_apart l k)) hu hv
cross_size L (negsuc m) (pos k) (negsuc l) (negsuc n) hu hs ht hv h g = inner L (negsuc m) (pos k) (negsuc l) (negsuc n) (omega (arith, abs_apart k l)) hu hv
cross_size L (negsuc m) (negsuc k) (pos l) (negsuc n) hu hs ht hv h g = inner L (negsuc m) (negsuc k) (pos l) (negsuc n) (omega (arith, abs_flip (negsuc k) (pos l), abs_apart l k)) hu hv
cross_size L (pos m) (pos k) (pos l) (pos n) hu hs ht hv h g = alike (L * L) (m * k) (l * n) (mul-le-mul hu hs) (mul-le-mul ht hv)
cross_size L (pos m) (negsuc k) (negsuc l) (pos n) hu hs ht hv h g = both_below (L * L) (m * suc k) (suc l * n) (mul-le-mul hu hs) (mul-le-mul ht hv)
cross_size L (negsuc m) (pos k) (pos l) (negsuc n) hu hs ht hv h g = both_below (L * L) (suc m * k) (l * suc n) (mul-le-mul hu hs) (mul-le-mul ht hv)
cross_size L (negsuc m) (negsuc k) (negsuc l) (negsuc n) hu hs ht hv h g = alike (L * L) (suc m * suc k) (suc l * suc n) (mul-le-mul hu hs) (mul-le-mul ht hv)

-- ---- three points in a square
-- from `low` on, and no farther than L
record Span (low : ℤ) (L : ℕ) (z : ℤ) : Type 0 where
  pub from : low ≤ℤ z
  pub to : z ≤ℤ (low +ℤ pos L)

record Square (low : ℤ) (L : ℕ) (p : Point) : Type 0 where
  pub across : Span low L p.x
  pub up : Span low L p.y

apart : (low : ℤ) (L : ℕ) (y z : ℤ) → Span low L y → Span low L z → nat_abs (y -ℤ z) ≤ L
apart low L y z h g = omega (zarith, h.from, h.to, g.from, g.to, add_parts low (pos L), sub_parts y z, abs_parts (y -ℤ z), thin (y -ℤ z))

from_one : (x y z : ℤ) → (y -ℤ x) -ℤ (z -ℤ x) ≡ y -ℤ z
from_one x y z = omega (zarith, sub_parts y x, sub_parts z x, sub_parts (y -ℤ x) (z -ℤ x), sub_parts y z)

-- twice the area of a triangle is at most that of the square
turn_size : (low : ℤ) (L : ℕ) (a b c : Point) → Square low L a → Square low L b → Square low L c → nat_abs (orientation a b c) ≤ L * L
unfolding orientation
turn_size low L a b c ha hb hc =
    cross_size L (b.x -ℤ a.x) (c.y -ℤ a.y) (b.y -ℤ a.y) (c.x -ℤ a.x) (apart low L b.x a.x hb.across ha.across) (apart low L c.y a.y hc.up ha.up)
    (apart low L b.y a.y hb.up ha.up) (apart low L c.x a.x hc.across ha.across)
    (subst (λ z. nat_abs z ≤ L) (sym (from_one a.x b.x c.x)) (apart low L b.x c.x hb.across hc.across))
    (subst (λ z. nat_abs z ≤ L) (sym (from_one a.y c.y b.y)) (apart low L c.y b.y hc.up hb.up))

-- ---- any points of 64 bits
any_span : (z : ℤ) → SFits w64 z → Span (negsuc 9223372036854775807) 18446744073709551615 z
any_span z f =
    record {
      from = omega (zarith, f.sfits, mag_parts z, thin z);
      to = omega (zarith, f.sfits, mag_parts z, thin z, add_parts (negsuc 9223372036854775807) (pos 18446744073709551615));
    }

-- a point of 64-bit coordinates
abbrev pub Fits : Point → Type 0
Fits p = SFits w64 p.x × SFits w64 p.y

any_square : (p : Point) → Fits p → Square (negsuc 9223372036854775807) 18446744073709551615 p
any_square p h = record { across = any_span p.x h.0; up = any_span p.y h.1 }

square_below : (L : ℕ) → L * L < suc L * suc L
square_below L = omega arith

-- the bound that makes two words and a borrow enough
pub turn_fits : (a b c : Point) → Fits a → Fits b → Fits c → nat_abs (orientation a b c) < word_pair
unfolding word_pair
turn_fits a b c ha hb hc =
    lt_of_le_of_lt (turn_size (negsuc 9223372036854775807) 18446744073709551615 a b c (any_square a ha) (any_square b hb) (any_square c hc)) (square_below 18446744073709551615)

-- and the same of each of the two products
pub product_fits : (a b c d : ℤ) → SFits w64 a → SFits w64 b → SFits w64 c → SFits w64 d → nat_abs ((a -ℤ b) *ℤ (c -ℤ d)) < word_pair
unfolding word_pair
product_fits a b c d fa fb fc fd =
    subst (λ (n : ℕ). n < 2 ^ 64 * 2 ^ 64) (sym (abs_mul (a -ℤ b) (c -ℤ d)))
    (lt_of_le_of_lt (mul-le-mul (one_word a b fa fb) (one_word c d fc fd)) (square_below 18446744073709551615))
  where
    one_word : (x y : ℤ) → SFits w64 x → SFits w64 y → nat_abs (x -ℤ y) ≤ 18446744073709551615
    one_word x y fx fy = apart (negsuc 9223372036854775807) 18446744073709551615 x y (any_span x fx) (any_span y fy)

-- of two differences, of numbers read back
pub factors_fit : (a b c d p q : ℤ) → SFits w64 a → SFits w64 b → SFits w64 c → SFits w64 d → p ≡ rd a -ℤ rd b → q ≡ rd c -ℤ rd d → nat_abs (p *ℤ q) < word_pair
factors_fit a b c d p q fa fb fc fd e f =
    subst (λ z. nat_abs z < word_pair) (sym (λ i. (e ∙ read₂ ◌-ℤ◌ a b fa fb) i *ℤ (f ∙ read₂ ◌-ℤ◌ c d fc fd) i)) (product_fits a b c d fa fb fc fd)

-- the difference of two products, of differences of coordinates read back: it fits, and is the turn
pub record Crossed (a b c : Point) (p q : ℤ) : Type 0 where
  pub fits : nat_abs (p -ℤ q) < word_pair
  pub turn : p -ℤ q ≡ orientation a b c

pub crossed : (a b c : Point) (bx by cx cy p q : ℤ) → Fits a → Fits b → Fits c → bx ≡ rd b.x -ℤ rd a.x → cy ≡ rd c.y -ℤ rd a.y → p ≡ bx *ℤ cy → by ≡ rd b.y -ℤ rd a.y → cx ≡ rd c.x -ℤ rd a.x → q ≡ by *ℤ cx → Crossed a b c p q
unfolding orientation
crossed a b c bx by cx cy p q fa fb fc is_bx is_cy is_p is_by is_cx is_q = record { fits = subst (λ z. nat_abs z < word_pair) (sym turn) (turn_fits a b c fa fb fc); turn = turn }
  where
    first : p ≡ (b.x -ℤ a.x) *ℤ (c.y -ℤ a.y)
    first = is_p ∙ (λ i. (is_bx ∙ read₂ ◌-ℤ◌ b.x a.x fb.0 fa.0) i *ℤ (is_cy ∙ read₂ ◌-ℤ◌ c.y a.y fc.1 fa.1) i)

    second : q ≡ (b.y -ℤ a.y) *ℤ (c.x -ℤ a.x)
    second = is_q ∙ (λ i. (is_by ∙ read₂ ◌-ℤ◌ b.y a.y fb.1 fa.1) i *ℤ (is_cx ∙ read₂ ◌-ℤ◌ c.x a.x fc.0 fa.0) i)

    turn : p -ℤ q ≡ (b.x -ℤ a.x) *ℤ (c.y -ℤ a.y) -ℤ (b.y -ℤ a.y) *ℤ (c.x -ℤ a.x)
    turn = λ i. first i -ℤ second i

-- the two products, of coordinates read back, differ by the turn
pub products_turn : (ax ay bx by cx cy : ℤ) (p q : SignedWide) → SFits w64 ax → SFits w64 ay → SFits w64 bx → SFits w64 by → SFits w64 cx → SFits w64 cy
    → wide_value_of p ≡ (rd bx -ℤ rd ax) *ℤ (rd cy -ℤ rd ay) → wide_value_of q ≡ (rd by -ℤ rd ay) *ℤ (rd cx -ℤ rd ax)
    → wide_value_of p -ℤ wide_value_of q ≡ orientation (record { x = ax; y = ay }) (record { x = bx; y = by }) (record { x = cx; y = cy })
unfolding orientation
products_turn ax ay bx by cx cy p q fax fay fbx fby fcx fcy e f =
    (λ i. e i -ℤ f i)
    ∙ (λ i. (rd_is bx fbx i -ℤ rd_is ax fax i) *ℤ (rd_is cy fcy i -ℤ rd_is ay fay i) -ℤ (rd_is by fby i -ℤ rd_is ay fay i) *ℤ (rd_is cx fcx i -ℤ rd_is ax fax i))

-- ---- points of 63 bits

narrow_span : (z : ℤ) → is_narrow z ≡ true → Span (neg_ℤ (pos (2 ^ 62))) 9223372036854775807 z
narrow_span z e =
    let h = and_true (le_z (neg_ℤ (pos (2 ^ 62))) z) (lt_z z (pos (2 ^ 62))) e in
    record {
      from = true_le (neg_ℤ (pos (2 ^ 62))) z h.0;
      to = omega (zarith, true_lt z (pos (2 ^ 62)) h.1, add_parts (neg_ℤ (pos (2 ^ 62))) (pos 9223372036854775807));
    }

-- two words alone, read as a signed number, are their turn: the borrow is the top bit
pub narrow_words : (ax ay bx by cx cy : ℤ) (d : SignedWide) → AllNarrow ax ay bx by cx cy → d.words.lo < 2 ^ 64 → wide_value_of d ≡ orientation (record { x = ax; y = ay }) (record { x = bx; y = by }) (record { x = cx; y = cy })
    → (d.borrow ≡ top_bit d.words) × (signed_words_of d.words ≡ orientation (record { x = ax; y = ay }) (record { x = bx; y = by }) (record { x = cx; y = cy }))
narrow_words ax ay bx by cx cy d h small e = (top_bit_lem d small fits, signed_words d small fits ∙ e)
  where
    fits : nat_abs (wide_value_of d) < 2 ^ 63 * 2 ^ 64
    fits =
        subst (λ z. nat_abs z < 2 ^ 63 * 2 ^ 64) (sym e)
        (lt_of_le_of_lt
        (turn_size (neg_ℤ (pos (2 ^ 62))) 9223372036854775807 (record { x = ax; y = ay }) (record { x = bx; y = by }) (record { x = cx; y = cy })
        (record { across = narrow_span ax h.0; up = narrow_span ay h.1 }) (record { across = narrow_span bx h.2; up = narrow_span by h.3 }) (record { across = narrow_span cx h.4; up = narrow_span cy h.5 }))
        (lit< tt))

-- ---- grid and doubled points are such points
within_narrow : (bound : ℕ) (z : ℤ) → bound < 2 ^ 62 → within bound z ≡ true → is_narrow z ≡ true
within_narrow bound z h e =
    let g = near bound z e in
    λ i. le_true (neg_ℤ (pos (2 ^ 62))) z (omega (zarith, h, g, abs_parts z, thin z)) i && lt_true z (pos (2 ^ 62)) (omega (zarith, h, g, abs_parts z, thin z)) i

words_within : (bound : ℕ) → bound < 2 ^ 62 → (a b c : Point) (d : SignedWide) → both_within bound a ≡ true → both_within bound b ≡ true → both_within bound c ≡ true → d.words.lo < 2 ^ 64
    → wide_value_of d ≡ orientation a b c → (d.borrow ≡ top_bit d.words) × (signed_words_of d.words ≡ orientation a b c)
words_within bound h a b c d ha hb hc small e =
    let na = narrow a ha in
    let nb = narrow b hb in
    let nc = narrow c hc in
    narrow_words a.x a.y b.x b.y c.x c.y d (na.0, na.1, nb.0, nb.1, nc.0, nc.1) small e
  where
    narrow : (p : Point) → both_within bound p ≡ true → (is_narrow p.x ≡ true) × (is_narrow p.y ≡ true)
    narrow p e = let k = and_true (within bound p.x) (within bound p.y) e in (within_narrow bound p.x h k.0, within_narrow bound p.y h k.1)

pub grid_words : (a b c : Point) (d : SignedWide) → in_range a ≡ true → in_range b ≡ true → in_range c ≡ true → d.words.lo < 2 ^ 64 → wide_value_of d ≡ orientation a b c
    → (d.borrow ≡ top_bit d.words) × (signed_words_of d.words ≡ orientation a b c)
grid_words = words_within (2 ^ 40) (lit< tt)

pub doubled_words : (a b c : Point) (d : SignedWide) → in_doubled_range a ≡ true → in_doubled_range b ≡ true → in_doubled_range c ≡ true → d.words.lo < 2 ^ 64 → wide_value_of d ≡ orientation a b c
    → (d.borrow ≡ top_bit d.words) × (signed_words_of d.words ≡ orientation a b c)
doubled_words = words_within (2 ^ 41) (lit< tt)
