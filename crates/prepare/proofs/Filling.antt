-- Tables filled from their start: what a loop has stored so far. Assumes nothing.
use mathlib.Core.Path.{◌≡◌, refl, sym, ◌∙◌, ap, ap₂}
use mathlib.Core.List.{List, [], ◌∷◌, ◌++◌}
use Prim.Native.Nat.{ℕ, zero, suc, ◌+◌, ◌≤◌, ◌<◌}
use native.Mathlib.Numerals.{add-one}
use native.Mathlib.Omega.{arith}
use lib.ListN.{length, get_or, set, take, drop}
use lib.Seq.{drop-cons, take-length, paste, paste-zero, paste-suc, length-paste}
use Rattle.rules.specs.Lists.{total}
use Rattle.rules.specs.Tables.{ends_from}
use Rattle.rules.proofs.Tables.{ends_length}
use Rattle.prepare.specs.Tables.{ends_in}

-- the first i entries are those of a list, and the rest is as it was
pub record Stored {A : Type 0} (xs before after : List A) (i : ℕ) : Type 0 where
  pub passed : i ≤ length xs
  pub is : after ≡ take i xs ++ drop i before
  pub long : length after ≡ length before

pub stored_none : {A : Type 0} (xs before : List A) → Stored xs before before 0
stored_none xs before = record { passed = omega arith; is = paste-zero before 0 xs; long = refl }

module _ {A : Type 0} (xs before after : List A) (i : ℕ) (room : length xs ≤ length before) (s : Stored xs before after i) where
  place : (k : ℕ) → 0 + k ≡ k
  place k = omega arith

  pasted : (k : ℕ) → paste before 0 xs k ≡ take k xs ++ drop k before
  pasted k = ap (λ j. take k xs ++ drop j before) (place k)

  pub stored_more : (x d : A) → i < length xs → x ≡ get_or xs i d → Stored xs before (set after i x) (i + 1)
  stored_more x d h e =
      let turn : set (take i xs ++ drop i before) i (get_or xs i d) ≡ take (suc i) xs ++ drop (suc i) before =
      ap₂ (λ table k. set table k (get_or xs i d)) (sym (pasted i)) (sym (place i)) ∙ paste-suc before 0 xs i d (omega arith) h ∙ pasted (suc i) in
      let is' : set after i x ≡ take (i + 1) xs ++ drop (i + 1) before =
      ap₂ (λ table y. set table i y) s.is e ∙ turn ∙ ap (λ k. take k xs ++ drop k before) (sym (add-one i)) in
      record { passed = omega arith; is = is'; long = ap length is' ∙ ap length (sym (pasted (i + 1))) ∙ length-paste before 0 xs (i + 1) (omega arith) (omega arith) }

  pub stored_all : length xs ≤ i → after ≡ xs ++ drop (length xs) before
  stored_all h =
      let e : i ≡ length xs = let p = s.passed in omega arith in
      s.is ∙ ap (λ k. take k xs ++ drop k before) e ∙ ap (λ l. l ++ drop (length xs) before) (take-length xs)

-- ---- ends

-- an end is at most the sum of all
ends_most : (start : ℕ) (lengths : List ℕ) (k : ℕ) → k < length lengths → get_or (ends_from start lengths) k 0 ≤ start + total lengths
unfolding ends_from total
ends_most start [] k h = absurd (omega arith)
ends_most start (n ∷ lengths) zero h = omega arith
ends_most start (n ∷ lengths) (suc k) h = let ih = ends_most (start + n) lengths k (omega arith) in omega arith

-- the first i ends are stored, and `end` is the last of them
pub record Ending (lengths before after : List ℕ) (end i : ℕ) : Type 0 where
  pub stored : Stored (ends_from 0 lengths) before after i
  pub rest : drop i (ends_from 0 lengths) ≡ ends_from end (drop i lengths)

pub ending_none : (lengths before : List ℕ) → Ending lengths before before 0 0
ending_none lengths before = record { stored = stored_none (ends_from 0 lengths) before; rest = refl }

module _ (lengths before after : List ℕ) (end i : ℕ) (room : length lengths ≤ length before) (s : Ending lengths before after end i) where
  module _ (h : i < length lengths) where
    -- the ends from this one on
    onward : get_or (ends_from 0 lengths) i 0 ∷ drop (suc i) (ends_from 0 lengths) ≡ (end + get_or lengths i 0) ∷ ends_from (end + get_or lengths i 0) (drop (suc i) lengths)
    unfolding ends_from
    onward =
        sym (drop-cons (ends_from 0 lengths) i 0 (omega (arith, ends_length 0 lengths)))
        ∙ s.rest
        ∙ ap (ends_from end) (drop-cons lengths i 0 h)

    next_end : end + get_or lengths i 0 ≡ get_or (ends_from 0 lengths) i 0
    next_end = sym (ap (λ l. get_or l 0 0) onward)

    -- no end is above the sum of all
    pub end_most : end + get_or lengths i 0 ≤ total lengths
    end_most = omega (arith, next_end, ends_most 0 lengths i h)

    pub ending_more : Ending lengths before (set after i (end + get_or lengths i 0)) (end + get_or lengths i 0) (i + 1)
    ending_more =
        record {
          stored = stored_more (ends_from 0 lengths) before after i (omega (arith, ends_length 0 lengths)) s.stored (end + get_or lengths i 0) 0 (omega (arith, ends_length 0 lengths)) next_end;
          rest = ap (λ k. drop k (ends_from 0 lengths)) (add-one i) ∙ ap (drop 1) onward ∙ ap (λ k. ends_from (end + get_or lengths i 0) (drop k lengths)) (sym (add-one i));
        }

  pub ending_all : length lengths ≤ i → after ≡ ends_in lengths before
  ending_all h =
      let e = ends_length 0 lengths in
      stored_all (ends_from 0 lengths) before after i (omega arith) s.stored (omega arith) ∙ ap (λ k. ends_from 0 lengths ++ drop k before) e
