-- Lines of output: how long they are, and how they are written field by field. Assumes nothing.
use mathlib.Core.Path.{◌≡◌, subst}
use mathlib.Core.List.{List, ◌++◌}
use Prim.Native.Nat.{ℕ, ◌+◌, ◌≤◌}
use native.Mathlib.Omega.{arith}
use lib.ListN.{length, length-append}
use Rattle.fields.specs.Decimals.{digits}
use Rattle.fields.specs.Written.{Wrote}
use Rattle.fields.proofs.Written.{wrote_on}
use Rattle.answers.specs.Replies.{reply_line, refusal_line, number_field}
use Rattle.answers.specs.Words.{refused, tab, line_end}

pub four_length : (a b c d : List ℕ) → length (a ++ b ++ c ++ d) ≡ length a + length b + length c + length d
four_length a b c d = let x = length-append a b in let y = length-append (a ++ b) c in let z = length-append (a ++ b ++ c) d in omega arith

pub reply_length : (line word : List ℕ) → length (reply_line line word) ≡ length line + 1 + length word + 1
reply_length line word = four_length line tab word line_end

pub refusal_length : (number line : ℕ) → length (refusal_line number line) ≡ 7 + (1 + length (digits number)) + (1 + length (digits line)) + 1
refusal_length number line = let l = four_length refused (number_field number) (number_field line) line_end in omega arith

-- four writes, each from where the last one ended
pub wrote_four : (at : ℕ) (a b c d : List ℕ) (o₀ o₁ o₂ o₃ o₄ : List ℕ) (n₁ n₂ n₃ n₄ : ℕ) → at + length (a ++ b ++ c ++ d) ≤ length o₀ → Wrote at a o₀ o₁ n₁ → Wrote n₁ b o₁ o₂ n₂ → Wrote n₂ c o₂ o₃ n₃ → Wrote n₃ d o₃ o₄ n₄ → Wrote at (a ++ b ++ c ++ d) o₀ o₄ n₄
wrote_four at a b c d o₀ o₁ o₂ o₃ o₄ n₁ n₂ n₃ n₄ room f g h k =
    let l = four_length a b c d in
    let x = length-append a b in
    let y = length-append (a ++ b) c in
    wrote_on at (a ++ b ++ c) o₀ (omega arith) d o₃ o₄ n₃ n₄
    (wrote_on at (a ++ b) o₀ (omega arith) c o₂ o₃ n₂ n₃ (wrote_on at a o₀ (omega arith) b o₁ o₂ n₁ n₂ f g) h)
    k

-- the same bytes by another name
pub wrote_same : (bytes bytes' output output' : List ℕ) (r : ℕ) → bytes ≡ bytes' → Wrote 0 bytes output output' r → Wrote 0 bytes' output output' r
wrote_same bytes bytes' output output' r e w = subst (λ xs. Wrote 0 xs output output' r) e w
