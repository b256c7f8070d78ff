-- A list cut into parts: the parts from one of them on, and where it begins. Assumes nothing.
use mathlib.Core.Path.{◌≡◌, refl, sym, ap, ap₂, subst, ◌∙◌}
use mathlib.Core.List.{List, [], ◌∷◌}
use Prim.Native.Nat.{ℕ, zero, suc, ◌+◌, ◌-◌, ◌*◌, ◌≤◌, ◌<◌}
use native.Mathlib.Numerals.{add-one}
use native.Mathlib.Omega.{arith}
use lib.IntN.{ℤ}
use lib.ListN.{length, get_or, take, drop}
use lib.Seq.{drop-cons, drop-drop}
use Rattle.rules.specs.Lists.{total, parts_of}
use Rattle.rules.specs.Plans.{corners_of}
use Rattle.rules.proofs.Corners.{corners_drop}

-- ---- parts

module _ {A : Type 0} where
  parts_take : (c : ℕ) (ls : List ℕ) (xs : List A) → take c (parts_of ls xs) ≡ parts_of (take c ls) xs
  unfolding parts_of
  parts_take zero ls xs = refl
  parts_take (suc c) [] xs = refl
  parts_take (suc c) (n ∷ ls) xs = ap (λ ps. take n xs ∷ ps) (parts_take c ls (drop n xs))

  parts_drop : (c : ℕ) (ls : List ℕ) (xs : List A) → drop c (parts_of ls xs) ≡ parts_of (drop c ls) (drop (total (take c ls)) xs)
  unfolding parts_of total
  parts_drop zero ls xs = refl
  parts_drop (suc c) [] xs = refl
  parts_drop (suc c) (n ∷ ls) xs = parts_drop c ls (drop n xs) ∙ ap (parts_of (drop c ls)) (drop-drop (total (take c ls)) n xs)

  pub parts_count : (ls : List ℕ) (xs : List A) → length (parts_of ls xs) ≡ length ls
  unfolding parts_of
  parts_count [] xs = refl
  parts_count (n ∷ ls) xs = ap suc (parts_count ls (drop n xs))

total_cut : (c : ℕ) (ls : List ℕ) → total ls ≡ total (take c ls) + total (drop c ls)
unfolding total
total_cut zero ls = omega arith
total_cut (suc c) [] = refl
total_cut (suc c) (n ∷ ls) = let h = total_cut c ls in omega arith

one_total : (ls : List ℕ) (i : ℕ) → i < length ls → total (take 1 (drop i ls)) ≡ get_or ls i 0
unfolding total
one_total ls i h = ap (λ l. total (take 1 l)) (drop-cons ls i 0 h) ∙ (let e : get_or ls i 0 + 0 ≡ get_or ls i 0 = omega arith in e)

-- part i of a list cut into parts begins at `from`
pub record Cut {A : Type 0} (ls : List ℕ) (xs : List A) (i from : ℕ) : Type 0 where
  pub few : i ≤ length ls
  pub left : drop i (parts_of ls xs) ≡ parts_of (drop i ls) (drop from xs)
  pub sum : from + total (drop i ls) ≡ total ls

module _ {A : Type 0} (ls : List ℕ) (xs : List A) where
  pub cut : Cut ls xs 0 0
  cut = record { few = omega arith; left = refl; sum = omega arith }

  module _ (i from : ℕ) (k : Cut ls xs i from) where
    -- c parts on
    pub cut_many : (c : ℕ) → i + c ≤ length ls → Cut ls xs (i + c) (from + total (take c (drop i ls)))
    cut_many c h =
        record {
          few = h;
          left = sym (drop-drop c i (parts_of ls xs)) ∙ ap (drop c) k.left ∙ parts_drop c (drop i ls) (drop from xs) ∙ ap₂ parts_of (drop-drop c i ls) (drop-drop (total (take c (drop i ls))) from xs);
          sum = let a = total_cut c (drop i ls) in let b = ap total (drop-drop c i ls) in let s = k.sum in omega (arith, a, b, s);
        }

    pub cut_one : i < length ls → Cut ls xs (i + 1) (from + get_or ls i 0)
    cut_one h = subst (λ n. Cut ls xs (i + 1) (from + n)) (one_total ls i h) (cut_many 1 (omega (arith, h)))

    pub cut_many_reach : (c : ℕ) → total ls ≤ length xs → from + total (take c (drop i ls)) ≤ length xs
    cut_many_reach c e = let a = total_cut c (drop i ls) in let s = k.sum in omega (arith, a, s, e)

    pub cut_reach : i < length ls → total ls ≤ length xs → from + get_or ls i 0 ≤ length xs
    cut_reach h e = let a = cut_many_reach 1 e in let b = one_total ls i h in omega (arith, a, b)

    -- part i, and those after it
    pub cut_item : i < length ls → drop i (parts_of ls xs) ≡ take (get_or ls i 0) (drop from xs) ∷ drop (suc i) (parts_of ls xs)
    unfolding parts_of
    cut_item h =
        let e = drop-cons ls i 0 h in
        let here : drop i (parts_of ls xs) ≡ take (get_or ls i 0) (drop from xs) ∷ parts_of (drop (suc i) ls) (drop (get_or ls i 0) (drop from xs)) = k.left ∙ ap (λ l. parts_of l (drop from xs)) e in
        let rest : drop (suc i) (parts_of ls xs) ≡ parts_of (drop (suc i) ls) (drop (get_or ls i 0) (drop from xs)) = ap (λ j. drop j (parts_of ls xs)) (sym (add-one i)) ∙ sym (drop-drop 1 i (parts_of ls xs)) ∙ ap (drop 1) here in
        here ∙ ap (λ ps. take (get_or ls i 0) (drop from xs) ∷ ps) (sym rest)

    -- c parts from part i on
    pub cut_parts : (c : ℕ) → take c (drop i (parts_of ls xs)) ≡ parts_of (take c (drop i ls)) (drop from xs)
    cut_parts c = ap (take c) k.left ∙ parts_take c (drop i ls) (drop from xs)

-- ---- corners

corners_take : (n : ℕ) (xs : List ℤ) → corners_of (take (2 * n) xs) ≡ take n (corners_of xs)
unfolding corners_of
corners_take zero xs = refl
corners_take (suc n) [] = ap (λ k. corners_of (take k [])) (let e : 2 * suc n ≡ suc (suc (2 * n)) = omega arith in e)
corners_take (suc n) (x ∷ []) = ap (λ k. corners_of (take k (x ∷ []))) (let e : 2 * suc n ≡ suc (suc (2 * n)) = omega arith in e)
corners_take (suc n) (x ∷ y ∷ xs) = ap (λ k. corners_of (take k (x ∷ y ∷ xs))) (let e : 2 * suc n ≡ suc (suc (2 * n)) = omega arith in e) ∙ ap (λ ps. record { x = x; y = y } ∷ ps) (corners_take n xs)

-- the corners of a part of the coordinates
pub corners_part : (from n : ℕ) (xs : List ℤ) → corners_of (take (2 * (from + n) - 2 * from) (drop (2 * from) xs)) ≡ take n (drop from (corners_of xs))
corners_part from n xs =
    ap (λ k. corners_of (take k (drop (2 * from) xs))) (let e : 2 * (from + n) - 2 * from ≡ 2 * n = omega arith in e)
    ∙ corners_take n (drop (2 * from) xs)
    ∙ ap (take n) (sym (corners_drop xs from))
