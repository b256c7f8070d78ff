-- A store after what a table holds already, and one that counts on its last number. Assumes nothing.
use mathlib.Core.Path.{◌≡◌, refl, sym, ap, ◌∙◌}
use mathlib.Core.List.{List, [], ◌∷◌, ◌++◌, append_assoc}
use Prim.Native.Nat.{ℕ, suc, ◌+◌, ◌-◌, ◌≤◌, ◌<◌}
use native.Mathlib.Numerals.{add-one}
use native.Mathlib.Omega.{arith}
use lib.ListN.{length, get_or, set, drop, length-append, length-drop, get_or-append}
use lib.Seq.{drop-cons, set_at}
use Rattle.lines.specs.Plans.{last_one_more}
use Rattle.lines.specs.Stored.{starting_with}
use Rattle.lines.specs.Steps.{one_more_before}
use Rattle.lines.proofs.Counting.{one_longer, as_long}

-- what a table holds that starts with a list
pub length_starting : {A : Type 0} (xs table : List A) → length xs ≤ length table → length (starting_with xs table) ≡ length table
length_starting xs table h = let a = length-append xs (drop (length xs) table) in let b = length-drop (length xs) table in omega arith

-- one more at its end
pub pushed : {A : Type 0} (xs table : List A) (x d : A) → length xs < length table → set (starting_with xs table) (length xs) x ≡ starting_with (xs ++ x ∷ []) table
pushed xs table x d h =
    let place : suc (length xs) ≡ length (xs ++ x ∷ []) = let e = one_longer xs x in omega arith in
    ap (λ rest. set (xs ++ rest) (length xs) x) (drop-cons table (length xs) d h)
    ∙ set_at xs (get_or table (length xs) d) (drop (suc (length xs)) table) x (length xs) refl
    ∙ sym (append_assoc xs (x ∷ []) (drop (suc (length xs)) table))
    ∙ ap (λ n. (xs ++ x ∷ []) ++ drop n table) place

-- its last number one more
last_more : (ns rest : List ℕ) → 0 < length ns → one_more_before (length ns) (ns ++ rest) ≡ last_one_more ns ++ rest
unfolding last_one_more
last_more [] rest h = absurd (omega arith)
last_more (n ∷ []) rest h = ap (λ k. k ∷ rest) (add-one n)
last_more (n ∷ m ∷ ns) rest h =
    let there : suc (suc (length ns)) - 1 ≡ suc (length ns) = omega arith in
    let here : length ns ≡ suc (length ns) - 1 = omega arith in
    ap (λ i. set (n ∷ m ∷ (ns ++ rest)) i (get_or (n ∷ m ∷ (ns ++ rest)) i 0 + 1)) there
    ∙ ap (λ i. n ∷ set (m ∷ (ns ++ rest)) i (get_or (m ∷ (ns ++ rest)) i 0 + 1)) here
    ∙ ap (λ ks. n ∷ ks) (last_more (m ∷ ns) rest (omega arith))

pub counted_on_lem : (ns table : List ℕ) → 0 < length ns → one_more_before (length ns) (starting_with ns table) ≡ starting_with (last_one_more ns) table
counted_on_lem ns table h = last_more ns (drop (length ns) table) h ∙ ap (λ n. last_one_more ns ++ drop n table) (sym (as_long ns))

-- a number of the list stands in the table
pub number_held : (ns table : List ℕ) (i : ℕ) → i < length ns → get_or (starting_with ns table) i 0 ≡ get_or ns i 0
number_held ns table i h = get_or-append ns (drop (length ns) table) 0 i h
