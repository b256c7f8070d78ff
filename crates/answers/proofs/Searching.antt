-- What the search for the first line that asks knows before each line. Assumes nothing.
use mathlib.Core.Path.{◌≡◌, refl, sym, ap, subst, ◌∙◌}
use mathlib.Core.Bool.{true, false, cond}
use mathlib.Core.List.{List, [], ◌∷◌, ◌++◌, append_assoc, append-nil}
use Prim.Native.Nat.{ℕ, suc, ◌+◌, ◌≤◌, ◌<◌}
use native.Mathlib.Numerals.{add-one}
use native.Mathlib.Omega.{arith}
use lib.ListN.{length, take, drop, length-append, drop_of_length-le, take-append-drop}
use lib.Seq.{take-add, take_at, drop_at, drop-drop, take-length}
use Rattle.std.specs.Prelude.{Some}
use Rattle.fields.specs.declared.lines.Line.{Line}
use Rattle.fields.specs.declared.lines.Line.TheVariants.{Ended, Unended}
use Rattle.fields.specs.Lines.{line_bytes, line_size, NextLine}
use Rattle.fields.specs.Pieces.{split, Parted}
use Rattle.fields.proofs.Pieces.{some_piece, parted_length}
use Rattle.rules.specs.Plans.{Plan}
use Rattle.asked.specs.Queries.{asks}
use Rattle.answers.specs.Replies.{replies}
use Rattle.answers.specs.Answers.{plan_text, after_plan, FirstQuery}
use Rattle.answers.specs.Words.{line_end}

-- ---- the definitions, a line at a time

module _ (line : List ℕ) (lines : List (List ℕ)) (e : asks (split 9 line) ≡ true) where
  text_over : plan_text (line ∷ lines) ≡ []
  unfolding plan_text
  text_over = go lines
    where
      go : (lines : List (List ℕ)) → plan_text (line ∷ lines) ≡ []
      go [] = ap (λ b. cond b [] line) e
      go (next ∷ others) = ap (λ b. cond b [] (line ++ line_end ++ plan_text (next ∷ others))) e

  replies_begin : (plan : Plan) (k : ℕ) → after_plan plan k (line ∷ lines) ≡ replies plan k (line ∷ lines)
  unfolding after_plan
  replies_begin plan k = ap (λ b. cond b (replies plan k (line ∷ lines)) (after_plan plan (suc k) lines)) e

module _ (line : List ℕ) (e : asks (split 9 line) ≡ false) where
  text_on : (separator : ℕ) (s : List ℕ) → plan_text (line ∷ split separator s) ≡ line ++ line_end ++ plan_text (split separator s)
  unfolding plan_text
  text_on separator s =
      let p = some_piece separator s in
      ap (λ pieces. plan_text (line ∷ pieces)) p.are
      ∙ ap (λ b. cond b [] (line ++ line_end ++ plan_text (p.first ∷ p.others))) e
      ∙ sym (ap (λ pieces. line ++ line_end ++ plan_text pieces) p.are)

  text_last : plan_text (line ∷ []) ≡ line
  unfolding plan_text
  text_last = ap (λ b. cond b [] line) e

  passed_over : (plan : Plan) (k : ℕ) (lines : List (List ℕ)) → after_plan plan k (line ∷ lines) ≡ after_plan plan (suc k) lines
  unfolding after_plan
  passed_over plan k lines = ap (λ b. cond b (replies plan k (line ∷ lines)) (after_plan plan (suc k) lines)) e

-- nothing is left to say of an empty last piece
text_empty : plan_text (split 10 []) ≡ []
unfolding plan_text asks split
text_empty = refl

none_due : (plan : Plan) (k : ℕ) → after_plan plan k (split 10 []) ≡ []
unfolding after_plan asks split
none_due plan k = refl

no_replies : (plan : Plan) (k : ℕ) → replies plan k (split 10 []) ≡ []
unfolding replies split
no_replies plan k = refl

-- ---- the loop

-- no line before the rest asks; the rest starts here, and its first line has this number
pub record Passing (input : List ℕ) (from line : ℕ) (rest : List ℕ) : Type 0 where
  pub stands : drop from input ≡ rest
  pub within : from + length rest ≡ length input
  pub numbered : line ≤ from + 1
  pub front : plan_text (split 10 input) ≡ take from input ++ plan_text (split 10 rest)
  pub due : (plan : Plan) → after_plan plan 1 (split 10 input) ≡ after_plan plan line (split 10 rest)

pub passing_begun : (input : List ℕ) (line : ℕ) (rest : List ℕ) → line ≡ 1 → rest ≡ input → Passing input 0 line rest
passing_begun input line rest l e = subst (λ k. Passing input 0 k rest) (sym l) (subst (Passing input 0 1) (sym e) (record { stands = refl; within = omega arith; numbered = omega arith; front = refl; due = λ plan. refl }))

module _ (input : List ℕ) (from line : ℕ) (rest : List ℕ) (g : Passing input from line rest) where
  -- pieces that start with a line that asks
  stopped : (row : List ℕ) (lines : List (List ℕ)) → split 10 rest ≡ row ∷ lines → asks (split 9 row) ≡ true → FirstQuery input (record { from = from; line = line })
  stopped row lines e a =
      let w = g.within in
      record {
        within = omega arith;
        numbered = g.numbered;
        plan_part = g.front ∙ ap (λ xs. take from input ++ xs) (ap plan_text e ∙ text_over row lines a) ∙ append-nil (take from input);
        rest_due = λ plan. g.due plan ∙ ap (after_plan plan line) e ∙ replies_begin row lines a plan line ∙ sym (ap (replies plan line) (ap (split 10) g.stands ∙ e));
      }

  -- what was passed with the line and its end
  front_grown : (row after : List ℕ) → Parted 10 rest row after → take (from + (length row + 1)) input ≡ take from input ++ (row ++ line_end)
  front_grown row after p =
      take-add from (length row + 1) input
      ∙ ap (λ xs. take from input ++ xs) (ap (take (length row + 1)) (g.stands ∙ p.whole ∙ sym (append_assoc row line_end after)) ∙ take_at (row ++ line_end) after (length row + 1) (length-append row line_end))

  ended_on : (row after : List ℕ) → Parted 10 rest row after → asks (split 9 row) ≡ false → Passing input (from + (length row + 1)) (line + 1) after
  ended_on row after p a =
      let w = g.within in
      let n = g.numbered in
      let l = parted_length 10 rest row after p in
      let text = ap plan_text p.pieces ∙ text_on row a 10 after in
      record {
        stands = sym (drop-drop (length row + 1) from input) ∙ ap (drop (length row + 1)) (g.stands ∙ p.whole) ∙ sym (drop-drop 1 (length row) (row ++ 10 ∷ after)) ∙ ap (drop 1) (drop_at row (10 ∷ after) (length row) refl);
        within = omega arith;
        numbered = omega arith;
        front = g.front ∙ ap (λ xs. take from input ++ xs) text ∙ sym (append_assoc (take from input) (row ++ line_end) (plan_text (split 10 after))) ∙ ap (λ xs. xs ++ plan_text (split 10 after)) (sym (front_grown row after p));
        due = λ plan. g.due plan ∙ ap (after_plan plan line) p.pieces ∙ passed_over row a plan line (split 10 after) ∙ ap (λ k. after_plan plan k (split 10 after)) (sym (add-one line));
      }

  unended_on : split 10 rest ≡ rest ∷ [] → 0 < length rest → asks (split 9 rest) ≡ false → Passing input (from + length rest) (line + 1) []
  unfolding after_plan
  unended_on e h a =
      let w = g.within in
      let n = g.numbered in
      record {
        stands = drop_of_length-le input (omega arith);
        within = omega arith;
        numbered = omega arith;
        front = g.front ∙ ap (λ xs. take from input ++ xs) (ap plan_text e ∙ text_last rest a) ∙ ap (λ xs. take from input ++ xs) (sym g.stands) ∙ take-append-drop from input ∙ sym (take-length input) ∙ ap (λ n. take n input) (sym w) ∙ sym (ap (λ xs. take (from + length rest) input ++ xs) text_empty ∙ append-nil (take (from + length rest) input));
        due = λ plan. g.due plan ∙ ap (after_plan plan line) e ∙ passed_over rest a plan line [] ∙ sym (none_due plan (line + 1));
      }

  module _ (next : Line) (after : List ℕ) (n : NextLine rest (Some next) after) where
    pub asked_here : asks (split 9 (line_bytes next)) ≡ true → FirstQuery input (record { from = from; line = line })
    asked_here a = go next n a
      where
        go : (next : Line) → NextLine rest (Some next) after → asks (split 9 (line_bytes next)) ≡ true → FirstQuery input (record { from = from; line = line })
        go (Ended row) p a = stopped row.now (split 10 after) p.pieces a
        go (Unended row) p a = stopped rest [] p.0 (ap (λ s. asks (split 9 s)) (sym p.1) ∙ a)

    pub passing_onward : (size line' : ℕ) → asks (split 9 (line_bytes next)) ≡ false → size ≡ line_size next → line' ≡ line + 1 → Passing input (from + size) line' after
    passing_onward size line' a z l = subst (λ k. Passing input (from + size) k after) (sym l) (subst (λ n. Passing input (from + n) (line + 1) after) (sym z) (go next n a))
      where
        go : (next : Line) → NextLine rest (Some next) after → asks (split 9 (line_bytes next)) ≡ false → Passing input (from + line_size next) (line + 1) after
        go (Ended row) p a = ended_on row.now after p a
        go (Unended row) p a = subst (Passing input (from + length row.now) (line + 1)) (sym p.3) (subst (λ s. Passing input (from + length s) (line + 1) []) (sym p.1) (unended_on p.0 p.2 (ap (λ s. asks (split 9 s)) (sym p.1) ∙ a)))

  pub none_asked : rest ≡ [] → FirstQuery input (record { from = length input; line = 1 })
  none_asked e =
      let w = g.within in
      let z = ap length e in
      record {
        within = omega arith;
        numbered = omega arith;
        plan_part = g.front ∙ ap (λ s. take from input ++ plan_text (split 10 s)) e ∙ ap (λ xs. take from input ++ xs) text_empty ∙ append-nil (take from input) ∙ ap (λ n. take n input) (let all : from ≡ length input = omega arith in all);
        rest_due = λ plan. g.due plan ∙ ap (λ s. after_plan plan line (split 10 s)) e ∙ none_due plan line ∙ sym (ap (λ xs. replies plan 1 (split 10 xs)) (drop_of_length-le input (omega arith)) ∙ no_replies plan 1);
      }
