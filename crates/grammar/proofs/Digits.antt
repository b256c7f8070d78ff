-- Numbers a byte at a time: what has been read, and what completes it. Assumes nothing.
use mathlib.Core.Path.{◌≡◌, refl, ap, sym, ◌∙◌}
use mathlib.Core.Bool.{Bool, true, false, cond}
use mathlib.Core.List.{List, [], ◌∷◌, ◌++◌}
use Prim.Native.Nat.{ℕ, zero, suc, ◌+◌, ◌-◌, ◌*◌, ◌^◌, ◌≤◌, ◌<◌}
use native.Mathlib.Omega.{arith}
use lib.Dec.{eqb, leb, ltb}
use lib.IntN.{ℤ, pos, negsuc}
use borrow.Author.Tests.{leb-true, eqb-true, lt-ltb}
use Rattle.fields.specs.Decimals.{digits, decimal, fits_word}
use Rattle.fields.proofs.Decimals.{digits_one, digits_next}
use Rattle.grammar.specs.Numbers.{Whole, Begun, minus_begun, value_begun, off_begun, is_digit, value_of, plain, under, fitting, first_byte, negative, after_plain, after_value, next_digit}

abbrev pub text_of : Begun → List ℕ
text_of minus_begun = 45 ∷ []
text_of (value_begun w) = decimal (value_of w)
text_of off_begun = []

-- not off, and of 64 bits
abbrev pub Fine : Begun → Type 0
Fine minus_begun = Unit {0}
Fine (value_begun w) = ltb w.size (2 ^ 63) ≡ true
Fine off_begun = ⊥

abbrev pub Allowed : Begun → Type 0
Allowed minus_begun = Unit {0}
Allowed (value_begun w) = Unit {0}
Allowed off_begun = ⊥

pub digit_range : (b : ℕ) → is_digit b ≡ true → (48 ≤ b) × (b ≤ 57)
digit_range b e = go (leb 48 b) (leb b 57) refl refl e
  where
    go : (p q : Bool) → leb 48 b ≡ p → leb b 57 ≡ q → mathlib.Core.Bool.◌&&◌ p q ≡ true → (48 ≤ b) × (b ≤ 57)
    go true true h k r = (leb-true 48 b h, leb-true b 57 k)
    go true false h k r = absurd (let z : ◌≡◌ {A = ℕ} 0 1 = ap (λ t. cond t 1 0) r in omega arith)
    go false true h k r = absurd (let z : ◌≡◌ {A = ℕ} 0 1 = ap (λ t. cond t 1 0) r in omega arith)
    go false false h k r = absurd (let z : ◌≡◌ {A = ℕ} 0 1 = ap (λ t. cond t 1 0) r in omega arith)

-- ---- a digit more is a byte more

negative_text : (d : ℕ) → d < 10 → Allowed (negative d) → text_of (negative d) ≡ 45 ∷ (48 + d) ∷ []
unfolding decimal
negative_text zero h a = absurd a
negative_text (suc d) h a = ap (λ s. 45 ∷ s) (digits_one (suc d) h)

fitting_text : (w : Whole) → Allowed (fitting w) → text_of (fitting w) ≡ decimal (value_of w)
fitting_text w a = go (ltb w.size (2 ^ 63)) a
  where
    go : (b : Bool) → Allowed (cond b (value_begun w) off_begun) → text_of (cond b (value_begun w) off_begun) ≡ decimal (value_of w)
    go true a = refl
    go false a = absurd a

plain_text : (n d : ℕ) → d < 10 → Allowed (after_plain n d) → text_of (after_plain n d) ≡ digits n ++ ((48 + d) ∷ [])
unfolding decimal
plain_text zero d h a = absurd a
plain_text (suc n) d h a = fitting_text (plain (suc n * 10 + d)) a ∙ digits_next (suc n) d (omega arith) h

under_text : (n d : ℕ) → d < 10 → Allowed (fitting (under (n * 10 + 9 + d))) → text_of (fitting (under (n * 10 + 9 + d))) ≡ 45 ∷ (digits (suc n) ++ ((48 + d) ∷ []))
unfolding decimal
under_text n d h a =
    let same : suc (n * 10 + 9 + d) ≡ suc n * 10 + d = omega arith in
    fitting_text (under (n * 10 + 9 + d)) a ∙ ap (λ k. 45 ∷ digits k) same ∙ ap (λ s. 45 ∷ s) (digits_next (suc n) d (omega arith) h)

value_text : (b : Bool) (n d : ℕ) → d < 10 → Allowed (after_value (record { below = b; size = n }) d) → text_of (after_value (record { below = b; size = n }) d) ≡ decimal (value_of (record { below = b; size = n })) ++ ((48 + d) ∷ [])
unfolding decimal
value_text true n d h a = under_text n d h a
value_text false n d h a = plain_text n d h a

pub next_text : (n : Begun) (d : ℕ) → d < 10 → Allowed (next_digit n d) → text_of (next_digit n d) ≡ text_of n ++ ((48 + d) ∷ [])
next_text minus_begun d h a = negative_text d h a
next_text (value_begun w) d h a = value_text w.below w.size d h a
next_text off_begun d h a = absurd a

negative_fine : (d : ℕ) → d < 10 → Allowed (negative d) → Fine (negative d)
negative_fine zero h a = absurd a
negative_fine (suc d) h a = lt-ltb d (2 ^ 63) (omega arith)

fitting_fine : (w : Whole) → Allowed (fitting w) → Fine (fitting w)
fitting_fine w a = go (ltb w.size (2 ^ 63)) refl a
  where
    go : (b : Bool) → ltb w.size (2 ^ 63) ≡ b → Allowed (cond b (value_begun w) off_begun) → Fine (cond b (value_begun w) off_begun)
    go true e a = e
    go false e a = absurd a

plain_fine : (n d : ℕ) → Allowed (after_plain n d) → Fine (after_plain n d)
plain_fine zero d a = absurd a
plain_fine (suc n) d a = fitting_fine (plain (suc n * 10 + d)) a

value_fine : (b : Bool) (n d : ℕ) → Allowed (after_value (record { below = b; size = n }) d) → Fine (after_value (record { below = b; size = n }) d)
value_fine true n d a = fitting_fine (under (n * 10 + 9 + d)) a
value_fine false n d a = plain_fine n d a

pub next_fine : (n : Begun) (d : ℕ) → d < 10 → Allowed (next_digit n d) → Fine (next_digit n d)
next_fine minus_begun d h a = negative_fine d h a
next_fine (value_begun w) d h a = value_fine w.below w.size d a
next_fine off_begun d h a = absurd a

-- a pair of 64 bits is a number of 64 bits
pub fits_value : (w : Whole) → ltb w.size (2 ^ 63) ≡ true → fits_word (value_of w) ≡ true
fits_value w h = go w.below
  where
    go : (b : Bool) → fits_word (cond b (negsuc w.size) (pos w.size)) ≡ true
    go true = h
    go false = h

pub first_text : (b : ℕ) → Allowed (first_byte b) → text_of (first_byte b) ≡ b ∷ []
unfolding decimal
first_text b a = go (eqb b 45) refl a
  where
    inner : (t : Bool) → is_digit b ≡ t → Allowed (cond t (value_begun (plain (b - 48))) off_begun) → text_of (cond t (value_begun (plain (b - 48))) off_begun) ≡ b ∷ []
    inner true e a =
        let r = digit_range b e in
        let low : b - 48 < 10 = omega (arith, r.0, r.1) in
        let back : 48 + (b - 48) ≡ b = omega (arith, r.0) in
        digits_one (b - 48) low ∙ ap (λ k. k ∷ []) back
    inner false e a = absurd a

    go : (t : Bool) → eqb b 45 ≡ t → Allowed (cond t minus_begun (cond (is_digit b) (value_begun (plain (b - 48))) off_begun)) → text_of (cond t minus_begun (cond (is_digit b) (value_begun (plain (b - 48))) off_begun)) ≡ b ∷ []
    go true e a = ap (λ k. k ∷ []) (sym (eqb-true b 45 e))
    go false e a = inner (is_digit b) refl a

pub first_fine : (b : ℕ) → Allowed (first_byte b) → Fine (first_byte b)
first_fine b a = go (eqb b 45) a
  where
    inner : (t : Bool) → is_digit b ≡ t → Allowed (cond t (value_begun (plain (b - 48))) off_begun) → Fine (cond t (value_begun (plain (b - 48))) off_begun)
    inner true e a = let r = digit_range b e in lt-ltb (b - 48) (2 ^ 63) (omega (arith, r.1))
    inner false e a = absurd a

    go : (t : Bool) → Allowed (cond t minus_begun (cond (is_digit b) (value_begun (plain (b - 48))) off_begun)) → Fine (cond t minus_begun (cond (is_digit b) (value_begun (plain (b - 48))) off_begun))
    go true a = tt
    go false a = inner (is_digit b) refl a

-- these bytes more make a number of 64 bits
pub record Completes (n : Begun) (d : List ℕ) : Type 0 where
  pub whole : ℤ
  pub fits : fits_word whole ≡ true
  pub text : text_of n ++ d ≡ decimal whole

-- what is fine can be completed
pub completed : (n : Begun) → Fine n → (d : List ℕ) × Completes n d
unfolding decimal
completed minus_begun h = (49 ∷ [], record { whole = negsuc 0; fits = refl; text = ap (λ s. 45 ∷ s) (sym (digits_one 1 (omega arith))) })
completed (value_begun w) h = ([], record { whole = value_of w; fits = fits_value w h; text = mathlib.Core.List.append-nil (decimal (value_of w)) })
completed off_begun h = absurd h
