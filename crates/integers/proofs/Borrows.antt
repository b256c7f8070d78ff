-- Differences and products in words with a borrow (document 02, R-2). Assumes nothing.
use Rattle.std.proofs.Common.{◌≡◌, ℕ, suc, ◌+◌, ◌*◌, ◌^◌, ◌<◌, ◌≤◌, Bool, true, false, cond, not, ◌&&◌, eqb, ltb, leb, ℤ, pos, ◌-ℤ◌, ◌*ℤ◌, nat_abs, sym, refl, ap, ◌∙◌, subst, mul-le-mul_right, mul_comm, arith, ltb-false, ltb-true, eqb-true, le-leb, leb-false, leb-true}
use mathlib.Core.Bool.{beq}
use borrow.Author.Tests.{lt-leb, eqb-false}
use Rattle.std.specs.Int.{from_bool}
use Rattle.integers.specs.declared.Sign.TheVariants.{Negative, Zero, Positive}
use Rattle.integers.specs.declared.Signed.{Signed}
use Rattle.integers.specs.declared.Wide.{Wide}
use Rattle.integers.specs.declared.SignedWide.{SignedWide}
use Rattle.integers.specs.Signs.{sign_of}
use Rattle.integers.specs.Words.{value_of, size_of, word_pair, wide_value_of, top_bit, signed_words_of}
use Rattle.integers.proofs.Order.{zarith, sub_parts, abs_parts}
use Rattle.integers.proofs.Signs.{has_sign}
use Rattle.integers.proofs.Polynomials.{ring₄, ◌:+◌, ◌:-◌, ◌:*◌}

-- ---- two words, over any base W
below_product : (W H hi lo : ℕ) → hi < H → lo < W → hi * W + lo < H * W
below_product W H hi lo h k = let g : suc hi * W ≤ H * W = mul-le-mul_right W h in omega arith

high_below : (W H hi lo : ℕ) → hi * W + lo < H * W → hi < H
high_below W H hi lo h = go (ltb hi H) refl
  where
    go : (s : Bool) → ltb hi H ≡ s → hi < H
    go true u = ltb-true hi H u
    go false u = absurd (let g : H * W ≤ hi * W = mul-le-mul_right W (ltb-false hi H u) in omega arith)

pub size_small : (w : Wide) → w.hi < 2 ^ 64 → w.lo < 2 ^ 64 → size_of w < word_pair
unfolding size_of word_pair
size_small w h k = below_product (2 ^ 64) (2 ^ 64) w.hi w.lo h k

-- ---- a difference
two_step : (W hi lo qh ql ph pl b c : ℕ) → lo + ql + 0 ≡ pl + b * W → hi + qh + b ≡ ph + c * W → hi * W + lo + (qh * W + ql) ≡ ph * W + pl + c * (W * W)
two_step W hi lo qh ql ph pl b c e f = let g : (hi + qh + b) * W ≡ (ph + c * W) * W = ap (λ (x : ℕ). x * W) f in omega arith

pub words_exact : (p q : Wide) (hi lo : ℕ) (b c : Bool) → lo + q.lo + 0 ≡ p.lo + from_bool b * 2 ^ 64 → hi + q.hi + from_bool b ≡ p.hi + from_bool c * 2 ^ 64
    → wide_value_of (record { borrow = c; words = record { hi = hi; lo = lo } }) ≡ pos (size_of p) -ℤ pos (size_of q)
unfolding wide_value_of size_of word_pair
words_exact p q hi lo b c e f =
    let g = two_step (2 ^ 64) hi lo q.hi q.lo p.hi p.lo (from_bool b) (from_bool c) e f in
    moved (hi * 2 ^ 64 + lo) (q.hi * 2 ^ 64 + q.lo) (p.hi * 2 ^ 64 + p.lo) (from_bool c * (2 ^ 64 * 2 ^ 64)) g
  where
    moved : (d s t k : ℕ) → d + s ≡ t + k → pos d -ℤ pos k ≡ pos t -ℤ pos s
    moved d s t k h = omega (zarith, sub_parts (pos d) (pos k), sub_parts (pos t) (pos s))

-- ---- its sign
pub sign_borrowed : (d : SignedWide) → d.borrow ≡ true → size_of d.words < word_pair → sign_of (wide_value_of d) ≡ Negative
unfolding wide_value_of
sign_borrowed d e h = ap (λ b. sign_of (pos (size_of d.words) -ℤ pos (from_bool b * word_pair))) e ∙ go (size_of d.words) word_pair h
  where
    go : (m k : ℕ) → m < k → sign_of (pos m -ℤ pos (1 * k)) ≡ Negative
    go m k h = has_sign Negative (pos m -ℤ pos (1 * k)) (omega (zarith, sub_parts (pos m) (pos (1 * k))))

less_none : (m k : ℕ) → pos m -ℤ pos (0 * k) ≡ pos m
less_none m k = omega (zarith, sub_parts (pos m) (pos (0 * k)))

kept : (d : SignedWide) → d.borrow ≡ false → wide_value_of d ≡ pos (size_of d.words)
unfolding wide_value_of
kept d e = ap (λ b. pos (size_of d.words) -ℤ pos (from_bool b * word_pair)) e ∙ less_none (size_of d.words) word_pair

pub sign_zero : (d : SignedWide) → d.borrow ≡ false → eqb (size_of d.words) 0 ≡ true → sign_of (wide_value_of d) ≡ Zero
sign_zero d e z = ap sign_of (kept d e) ∙ has_sign Zero (pos (size_of d.words)) (ap pos (eqb-true (size_of d.words) 0 z))

pub sign_more : (d : SignedWide) → d.borrow ≡ false → eqb (size_of d.words) 0 ≡ false → sign_of (wide_value_of d) ≡ Positive
sign_more d e z = ap sign_of (kept d e) ∙ go (size_of d.words) (eqb-false (size_of d.words) 0 z)
  where
    go : (n : ℕ) → (n ≡ 0 → ⊥) → sign_of (pos n) ≡ Positive
    go n h = has_sign Positive (pos n) (let k = h in omega zarith)

-- ---- its top bit: a difference of less than 2^127 borrows exactly where the top bit is set
any_top : (W H hi lo : ℕ) (b : Bool) → W ≡ H + H → lo < W → nat_abs (pos (hi * W + lo) -ℤ pos (from_bool b * (W * W))) < H * W → b ≡ leb H hi
any_top W H hi lo false e k h = sym (lt-leb H hi (high_below W H hi lo (subst (λ z. nat_abs z < H * W) (less_none (hi * W + lo) (W * W)) h)))
any_top W H hi lo true e k h = sym (le-leb H hi (go (leb H hi) refl))
  where
    less_one : (m n c : ℕ) → nat_abs (pos m -ℤ pos (1 * n)) < c → n < c + m
    less_one m n c h = omega (zarith, sub_parts (pos m) (pos (1 * n)), abs_parts (pos m -ℤ pos (1 * n)))

    go : (t : Bool) → leb H hi ≡ t → H ≤ hi
    go true u = leb-true H hi u
    go false u =
        let g = below_product W H hi lo (leb-false H hi u) k in
        let f = less_one (hi * W + lo) (W * W) (H * W) h in
        let q : W * W ≡ (H + H) * W = ap (λ (x : ℕ). x * W) e in
        absurd (omega arith)

pub top_bit_lem : (d : SignedWide) → d.words.lo < 2 ^ 64 → nat_abs (wide_value_of d) < 2 ^ 63 * 2 ^ 64 → d.borrow ≡ top_bit d.words
unfolding wide_value_of size_of word_pair
top_bit_lem d k h = any_top (2 ^ 64) (2 ^ 63) d.words.hi d.words.lo d.borrow refl k h

pub signed_words : (d : SignedWide) → d.words.lo < 2 ^ 64 → nat_abs (wide_value_of d) < 2 ^ 63 * 2 ^ 64 → signed_words_of d.words ≡ wide_value_of d
signed_words d k h = ap (λ b. wide_value_of (record { borrow = b; words = d.words })) (sym (top_bit_lem d k h))

-- ---- one borrow of three: a number less than k in size, that is m with two borrows and one of the other side
pub one_borrow : (b c e : Bool) (m k : ℕ) (z : ℤ) → m < k → nat_abs z < k → z ≡ pos (m + from_bool e * k) -ℤ pos (from_bool b * k + from_bool c * k) → pos m -ℤ pos (from_bool (not (beq (not (beq b c)) e)) * k) ≡ z
one_borrow true true true m k z h g f = omega (zarith, f, sub_parts (pos (m + 1 * k)) (pos (1 * k + 1 * k)), sub_parts (pos m) (pos (1 * k)))
one_borrow true true false m k z h g f = absurd (omega (zarith, f, sub_parts (pos (m + 0 * k)) (pos (1 * k + 1 * k)), abs_parts z))
one_borrow true false true m k z h g f = omega (zarith, f, sub_parts (pos (m + 1 * k)) (pos (1 * k + 0 * k)), sub_parts (pos m) (pos (0 * k)))
one_borrow true false false m k z h g f = omega (zarith, f, sub_parts (pos (m + 0 * k)) (pos (1 * k + 0 * k)), sub_parts (pos m) (pos (1 * k)))
one_borrow false true true m k z h g f = omega (zarith, f, sub_parts (pos (m + 1 * k)) (pos (0 * k + 1 * k)), sub_parts (pos m) (pos (0 * k)))
one_borrow false true false m k z h g f = omega (zarith, f, sub_parts (pos (m + 0 * k)) (pos (0 * k + 1 * k)), sub_parts (pos m) (pos (1 * k)))
one_borrow false false true m k z h g f = absurd (omega (zarith, f, sub_parts (pos (m + 1 * k)) (pos (0 * k + 0 * k)), abs_parts z))
one_borrow false false false m k z h g f = omega (zarith, f, sub_parts (pos (m + 0 * k)) (pos (0 * k + 0 * k)), sub_parts (pos m) (pos (0 * k)))

-- ---- a difference of numbers
pub difference_exact : (p q d : SignedWide) → size_of d.words < word_pair → nat_abs (wide_value_of p -ℤ wide_value_of q) < word_pair → wide_value_of d ≡ pos (size_of p.words) -ℤ pos (size_of q.words)
    → wide_value_of (record { borrow = not (beq (not (beq p.borrow d.borrow)) q.borrow); words = d.words }) ≡ wide_value_of p -ℤ wide_value_of q
unfolding wide_value_of
difference_exact p q d small fits e =
    one_borrow p.borrow d.borrow q.borrow (size_of d.words) word_pair (wide_value_of p -ℤ wide_value_of q) small fits
    (moved (size_of p.words) (size_of q.words) (size_of d.words) (from_bool p.borrow * word_pair) (from_bool q.borrow * word_pair) (from_bool d.borrow * word_pair) e)
  where
    moved : (m n d b c f : ℕ) → pos d -ℤ pos f ≡ pos m -ℤ pos n → (pos m -ℤ pos b) -ℤ (pos n -ℤ pos c) ≡ pos (d + c) -ℤ pos (b + f)
    moved m n d b c f e =
        omega (zarith, e, sub_parts (pos d) (pos f), sub_parts (pos m) (pos n), sub_parts (pos m) (pos b), sub_parts (pos n) (pos c), sub_parts (pos m -ℤ pos b) (pos n -ℤ pos c), sub_parts (pos (d + c)) (pos (b + f)))

-- ---- a product of numbers
-- (u − x) · (v − y), by its four products
crossed : (u x v y : ℕ) → (pos u -ℤ pos x) *ℤ (pos v -ℤ pos y) ≡ pos (u * v + x * y) -ℤ pos (u * y + x * v)
crossed u x v y = ring₄ (λ a b c d. (a :- b) :* (c :- d)) (λ a b c d. (a :* c :+ b :* d) :- (a :* d :+ b :* c)) refl (pos u) (pos x) (pos v) (pos y)

-- what is taken off the high word, over any base W
taken_off : (W u v hi lo once twice b c x y : ℕ) → hi * W + lo ≡ u * v → once + x + 0 ≡ hi + b * W → twice + y + 0 ≡ once + c * W → twice * W + lo + (y * W + x * W) ≡ u * v + (b * (W * W) + c * (W * W))
taken_off W u v hi lo once twice b c x y e f g =
    let f' : (once + x + 0) * W ≡ (hi + b * W) * W = ap (λ (n : ℕ). n * W) f in
    let g' : (twice + y + 0) * W ≡ (once + c * W) * W = ap (λ (n : ℕ). n * W) g in
    omega arith

both_borrowed : (W : ℕ) (s t : Bool) → from_bool s * W * (from_bool t * W) ≡ from_bool (s && t) * (W * W)
both_borrowed W true true = omega arith
both_borrowed W true false = omega arith
both_borrowed W false t = omega arith

where_borrowed : (W v : ℕ) (s : Bool) → from_bool s * W * v ≡ cond s v 0 * W
where_borrowed W v true = omega arith
where_borrowed W v false = omega arith

product_any : (W u v hi lo once twice : ℕ) (s t b c : Bool) → lo < W → twice < W → hi * W + lo ≡ u * v → once + cond s v 0 + 0 ≡ hi + from_bool b * W → twice + cond t u 0 + 0 ≡ once + from_bool c * W
    → nat_abs ((pos u -ℤ pos (from_bool s * W)) *ℤ (pos v -ℤ pos (from_bool t * W))) < W * W
    → pos (twice * W + lo) -ℤ pos (from_bool (not (beq (not (beq b c)) (s && t))) * (W * W)) ≡ (pos u -ℤ pos (from_bool s * W)) *ℤ (pos v -ℤ pos (from_bool t * W))
product_any W u v hi lo once twice s t b c hl ht e f g fits =
    one_borrow b c (s && t) (twice * W + lo) (W * W) ((pos u -ℤ pos (from_bool s * W)) *ℤ (pos v -ℤ pos (from_bool t * W))) (below_product W W twice lo ht hl) fits
    (crossed u (from_bool s * W) v (from_bool t * W) ∙ settled (u * v) (from_bool s * W * (from_bool t * W)) (u * (from_bool t * W)) (from_bool s * W * v) (twice * W + lo) (from_bool (s && t) * (W * W)) (from_bool b * (W * W) + from_bool c * (W * W)) (cond t u 0 * W) (cond s v 0 * W) (both_borrowed W s t) (mul_comm u (from_bool t * W) ∙ where_borrowed W u t) (where_borrowed W v s) (taken_off W u v hi lo once twice (from_bool b) (from_bool c) (cond s v 0) (cond t u 0) e f g))
  where
    settled : (uv xy uy xv m both borrows y x : ℕ) → xy ≡ both → uy ≡ y → xv ≡ x → m + (y + x) ≡ uv + borrows → pos (uv + xy) -ℤ pos (uy + xv) ≡ pos (m + both) -ℤ pos borrows
    settled uv xy uy xv m both borrows y x e f g h = omega (zarith, sub_parts (pos (uv + xy)) (pos (uy + xv)), sub_parts (pos (m + both)) (pos borrows))

pub product_exact : (a b : Signed) (w : Wide) (once twice x y : ℕ) (first second : Bool) → w.lo < 2 ^ 64 → twice < 2 ^ 64 → size_of w ≡ a.word * b.word → x ≡ cond a.borrow b.word 0 → y ≡ cond b.borrow a.word 0
    → once + x + 0 ≡ w.hi + from_bool first * 2 ^ 64 → twice + y + 0 ≡ once + from_bool second * 2 ^ 64
    → nat_abs (value_of a *ℤ value_of b) < word_pair
    → wide_value_of (record { borrow = not (beq (not (beq first second)) (a.borrow && b.borrow)); words = record { hi = twice; lo = w.lo } }) ≡ value_of a *ℤ value_of b
unfolding wide_value_of size_of word_pair
product_exact a b w once twice x y first second hl ht e ex ey f g fits =
    product_any (2 ^ 64) a.word b.word w.hi w.lo once twice a.borrow b.borrow first second hl ht e (omega (arith, ex, f)) (omega (arith, ey, g)) fits
