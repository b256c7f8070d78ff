-- The contract of `answers::answer`, whatever the code is, rules out wrong programs. Assumes nothing.
use mathlib.Core.Path.{◌≡◌, sym, ap, ◌∙◌}
use mathlib.Core.Bool.{cond}
use mathlib.Core.List.{List, [], ◌∷◌, ◌++◌}
use Prim.Native.Nat.{ℕ, ◌+◌, ◌-◌, ◌≤◌, ◌<◌}
use native.Mathlib.Omega.{arith}
use lib.ListN.{length, get_or, drop, replicate}
use lib.Seq.{get_or-append-add, get_or-drop}
use borrow.Author.Tests.{lt-ltb, le-ltb}
use Rattle.fields.specs.Written.{overwritten}
use Rattle.lines.specs.Words.{plan, list, outer}
use Rattle.std.specs.Prelude.{Ok}
use Rattle.answers.specs.Answers.{answered, Outcome, too_short, outcome_number, output_after, Answered}
use Rattle.asked.specs.Words.{grid_word}
use Rattle.answers.specs.Words.{inside, outside, boundary}
use Rattle.answers.proofs.Worked.{lines, ◌⇥◌, n0, n1, n4, n5, worked, worked_output, worked_answered, turned, turned_answered, refusal, too_long, no_query, stops, two_first}

same_count : (m n : ℕ) → ◌≡◌ {A = Outcome} (Ok m) (Ok n) → m ≡ n
same_count m n e = cc

-- with an output that has room for the answer, as one of 33,000 bytes always has: how many bytes are written, and the output whole
pub roomy : (input output output' : List ℕ) (r : Outcome) → 33000 ≤ length output → Answered input output output' r → length (answered input) ≤ length output
roomy input output output' r room g = let few = g.few in omega arith

module _ (input output output' : List ℕ) (r : Outcome) (room : length (answered input) ≤ length output) (g : Answered input output output' r) where
  pub count_is : r ≡ Ok (length (answered input))
  count_is = g.answer ∙ ap (λ b. cond b too_short (Ok (length (answered input)))) (le-ltb (length output) (length (answered input)) room)

  pub output_is : output' ≡ overwritten 0 (answered input) output
  output_is = g.written ∙ ap (λ a. output_after a (answered input) output) count_is

  -- what stands behind the answer stays as it was
  pub rest_kept : (i : ℕ) → length (answered input) ≤ i → get_or output' i 0 ≡ get_or output i 0
  rest_kept i h =
      let n = length (answered input) in
      let place : i ≡ n + (i - n) = omega arith in
      let here : 0 + n + (i - n) ≡ i = omega arith in
      ap (λ xs. get_or xs i 0) output_is
      ∙ ap (λ k. get_or (answered input ++ drop (0 + n) output) k 0) place
      ∙ get_or-append-add (answered input) (drop (0 + n) output) (i - n) 0
      ∙ get_or-drop (0 + n) output (i - n) 0
      ∙ ap (λ k. get_or output k 0) here

-- a shorter output gets 11 and stays as it was
pub short_output_kept : (input output output' : List ℕ) (r : Outcome) → length output < length (answered input) → Answered input output output' r → (outcome_number r ≡ 11) × (output' ≡ output)
short_output_kept input output output' r h g =
    let e : r ≡ too_short = g.answer ∙ ap (λ b. cond b too_short (Ok (length (answered input)))) (lt-ltb (length output) (length (answered input)) h) in
    (ap outcome_number e, g.written ∙ ap (λ a. output_after a (answered input) output) e)

-- ---- document 01's example

module _ (output output' : List ℕ) (r : Outcome) (room : 33000 ≤ length output) (g : Answered worked output output' r) where
  worked_is : output' ≡ overwritten 0 worked_output output
  worked_is = output_is worked output output' r (roomy worked output output' r room g) g ∙ ap (λ bytes. overwritten 0 bytes output) worked_answered

  -- another output that starts otherwise is ruled out by a byte
  other : (wrong : List ℕ) (i : ℕ) → output' ≡ overwritten 0 wrong output → get_or (overwritten 0 worked_output output) i 0 ≡ get_or (overwritten 0 wrong output) i 0
  other wrong i e = ap (λ xs. get_or xs i 0) (sym worked_is ∙ e)

  -- always outside: the second line says `boundary`
  pub not_always_outside : output' ≡ overwritten 0 (lines (grid_word ⇥ n5 ⇥ n5 ⇥ outside ∷ grid_word ⇥ n4 ⇥ n5 ⇥ outside ∷ grid_word ⇥ n1 ⇥ n5 ⇥ outside ∷ [])) output → ⊥
  not_always_outside e = let h : ◌≡◌ {A = ℕ} 98 111 = other (lines (grid_word ⇥ n5 ⇥ n5 ⇥ outside ∷ grid_word ⇥ n4 ⇥ n5 ⇥ outside ∷ grid_word ⇥ n1 ⇥ n5 ⇥ outside ∷ [])) 26 e in omega arith

  -- a reply without its fields
  pub not_without_fields : output' ≡ overwritten 0 (lines (outside ∷ boundary ∷ inside ∷ [])) output → ⊥
  not_without_fields e = let h : ◌≡◌ {A = ℕ} 99 111 = other (lines (outside ∷ boundary ∷ inside ∷ [])) 0 e in omega arith

  -- refusal throughout, with any number and line
  pub not_refused_throughout : (number line : List ℕ) → output' ≡ overwritten 0 (refusal number line) output → ⊥
  not_refused_throughout number line e = let h = other (refusal number line) 0 e in omega arith

  -- an empty output, and one cut by a byte: it has 51 bytes
  pub count_named : r ≡ Ok 51
  count_named = count_is worked output output' r (roomy worked output output' r room g) g ∙ ap (λ bytes. Ok (length bytes)) worked_answered

  pub not_empty : r ≡ Ok 0 → ⊥
  not_empty e = let same = same_count 51 0 (sym count_named ∙ e) in omega (arith, same)

  pub not_cut : r ≡ Ok 50 → ⊥
  not_cut e = let same = same_count 51 50 (sym count_named ∙ e) in omega (arith, same)

-- the first reply repeated: `inside` and then `outside`
pub not_the_first_repeated : (output output' : List ℕ) (r : Outcome) → 33000 ≤ length output → Answered turned output output' r → output' ≡ overwritten 0 (lines (grid_word ⇥ n1 ⇥ n5 ⇥ inside ∷ grid_word ⇥ n5 ⇥ n5 ⇥ inside ∷ [])) output → ⊥
not_the_first_repeated output output' r room g e =
    let is = output_is turned output output' r (roomy turned output output' r room g) g ∙ ap (λ bytes. overwritten 0 bytes output) turned_answered in
    let h = ap (λ xs. get_or xs 25 0) (sym is ∙ e) in
    omega arith

-- a good plan and nothing asked: nothing is written, and it is no refusal
pub nothing_asked : (output output' : List ℕ) (r : Outcome) → 33000 ≤ length output → Answered (lines (plan ∷ [])) output output' r → (r ≡ Ok 0) × (output' ≡ output)
nothing_asked output output' r room g =
    (count_is (lines (plan ∷ [])) output output' r (roomy (lines (plan ∷ [])) output output' r room g) g ∙ ap (λ bytes. Ok (length bytes)) no_query, output_is (lines (plan ∷ [])) output output' r (roomy (lines (plan ∷ [])) output output' r room g) g ∙ ap (λ bytes. overwritten 0 bytes output) no_query)

-- an input that is too long: 1 and line 0, whatever it says
pub long_refused : (input output output' : List ℕ) (r : Outcome) → 16384 < length input → 33000 ≤ length output → Answered input output output' r → output' ≡ overwritten 0 (refusal n1 n0) output
long_refused input output output' r h room g = output_is input output output' r (roomy input output output' r room g) g ∙ ap (λ bytes. overwritten 0 bytes output) (too_long input h)

-- the rest answered after a refusal, or the line counted from the first query: a reply, then 2 with line 3, and no more
pub stopped_there : (output output' : List ℕ) (r : Outcome) → 33000 ≤ length output → Answered (lines (plan ∷ grid_word ⇥ n0 ⇥ n0 ∷ grid_word ⇥ n0 ∷ grid_word ⇥ n0 ⇥ n0 ∷ [])) output output' r → (r ≡ Ok 29) × (output' ≡ overwritten 0 (lines (grid_word ⇥ n0 ⇥ n0 ⇥ outside ∷ []) ++ refusal (50 ∷ []) (51 ∷ [])) output)
stopped_there output output' r room g = (count_is _ output output' r (roomy _ output output' r room g) g ∙ ap (λ bytes. Ok (length bytes)) stops, output_is _ output output' r (roomy _ output output' r room g) g ∙ ap (λ bytes. overwritten 0 bytes output) stops)

-- 11 before 2: a plan of 257 rings with a bad line gets 2 with that line
pub line_before_ceiling : (output output' : List ℕ) (r : Outcome) → 33000 ≤ length output → Answered (lines (plan ∷ replicate 257 outer) ++ lines (list ∷ [])) output output' r → output' ≡ overwritten 0 (refusal (50 ∷ []) (50 ∷ 53 ∷ 57 ∷ [])) output
line_before_ceiling output output' r room g = output_is _ output output' r (roomy _ output output' r room g) g ∙ ap (λ bytes. overwritten 0 bytes output) two_first
