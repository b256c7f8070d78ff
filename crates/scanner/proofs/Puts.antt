-- Numbers stored one after another. Assumes nothing.
use mathlib.Core.Path.{◌≡◌, refl, sym, ap, ◌∙◌}
use mathlib.Core.List.{List, [], ◌∷◌, ◌++◌, append_assoc}
use Prim.Native.Nat.{ℕ, suc, ◌+◌, ◌≤◌, ◌<◌}
use native.Mathlib.Omega.{arith}
use lib.ListN.{length, take, drop, set, length-append, length-set, take-append-drop}
use lib.Seq.{set_split, take_at, drop_at, drop-drop, length-take-le}
use Rattle.scanner.specs.Puts.{put}

pub put_length : {A : Type 0} (k : ℕ) (xs table : List A) → length (put k xs table) ≡ length table
unfolding put
put_length k [] table = refl
put_length k (x ∷ xs) table = put_length (suc k) xs (set table k x) ∙ length-set table k x

-- others behind these
pub put_append : {A : Type 0} (k : ℕ) (xs ys table : List A) → put k (xs ++ ys) table ≡ put (k + length xs) ys (put k xs table)
unfolding put
put_append k [] ys table = ap (λ n. put n ys table) (let e : k ≡ k + 0 = omega arith in e)
put_append k (x ∷ xs) ys table = put_append (suc k) xs ys (set table k x) ∙ ap (λ n. put n ys (put (suc k) xs (set table k x))) (let e : suc k + length xs ≡ k + suc (length xs) = omega arith in e)

pub put_one : {A : Type 0} (k : ℕ) (x : A) (table : List A) → put k (x ∷ []) table ≡ set table k x
unfolding put
put_one k x table = refl

pub put_two : {A : Type 0} (k : ℕ) (x y : A) (table : List A) → put k (x ∷ y ∷ []) table ≡ set (set table k x) (k + 1) y
unfolding put
put_two k x y table = ap (λ n. set (set table k x) n y) (let e : suc k ≡ k + 1 = omega arith in e)

-- where the table has room for them
set_inside : {A : Type 0} (k : ℕ) (x : A) (rest table : List A) → k < length table → take (suc k) (set table k x) ++ rest ≡ take k table ++ (x ∷ rest)
set_inside k x rest table h =
    ap (λ t. take (suc k) t ++ rest) (set_split table k x h ∙ sym (append_assoc (take k table) (x ∷ []) (drop (suc k) table)))
    ∙ ap (λ t. t ++ rest) (take_at (take k table ++ (x ∷ [])) (drop (suc k) table) (suc k) (length-append (take k table) (x ∷ []) ∙ (let l = length-take-le k table (omega arith) in let e : length (take k table) + 1 ≡ suc k = omega arith in e)))
    ∙ append_assoc (take k table) (x ∷ []) rest

put_inside : {A : Type 0} (k : ℕ) (xs table : List A) → k + length xs ≤ length table → put k xs table ≡ take k table ++ (xs ++ drop (k + length xs) table)
unfolding put
put_inside k [] table h = sym (ap (λ n. take k table ++ drop n table) (let e : k + 0 ≡ k = omega arith in e) ∙ take-append-drop k table)
put_inside k (x ∷ xs) table h =
    put_inside (suc k) xs (set table k x) (let l = length-set table k x in omega arith)
    ∙ set_inside k x (xs ++ drop (suc k + length xs) (set table k x)) table (omega arith)
    ∙ ap (λ t. take k table ++ (x ∷ (xs ++ t)))
    (sym (drop-drop (length xs) (suc k) (set table k x))
    ∙ ap (drop (length xs)) (ap (drop (suc k)) (set_split table k x (omega arith) ∙ sym (append_assoc (take k table) (x ∷ []) (drop (suc k) table)))
    ∙ drop_at (take k table ++ (x ∷ [])) (drop (suc k) table) (suc k) (length-append (take k table) (x ∷ []) ∙ (let l = length-take-le k table (omega arith) in let e : length (take k table) + 1 ≡ suc k = omega arith in e)))
    ∙ drop-drop (length xs) (suc k) table
    ∙ ap (λ n. drop n table) (let e : suc k + length xs ≡ k + suc (length xs) = omega arith in e))

-- a table that starts with them
pub put_all : {A : Type 0} (xs table : List A) → length xs ≤ length table → put 0 xs table ≡ xs ++ drop (length xs) table
put_all xs table h = put_inside 0 xs table (omega arith) ∙ ap (λ n. xs ++ drop n table) (let e : 0 + length xs ≡ length xs = omega arith in e)
