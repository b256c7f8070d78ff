-- No answer is longer than 33,000 bytes: a reply's line is at most twice as long as the query's. Assumes nothing.
use mathlib.Core.Path.{◌≡◌, refl, sym, ap, ◌∙◌}
use mathlib.Core.Bool.{Bool, true, false, cond}
use mathlib.Core.List.{List, [], ◌∷◌, ◌++◌}
use Prim.Native.Nat.{ℕ, suc, ◌+◌, ◌*◌, ◌≤◌, ◌<◌}
use native.Mathlib.Omega.{arith}
use lib.Dec.{ltb}
use lib.IntN.{ℤ}
use lib.ListN.{length, length-append}
use borrow.Author.Tests.{ltb-false}
use Rattle.std.specs.Prelude.{Option, Some, None, option_map}
use Rattle.geom.specs.declared.Point.{Point}
use Rattle.fields.specs.Bytes.{same_bytes}
use Rattle.fields.specs.Decimals.{number_of}
use Rattle.fields.specs.Pieces.{split}
use Rattle.fields.proofs.Bytes.{same_equal}
use Rattle.fields.proofs.Numbers.{no_number}
use Rattle.fields.proofs.Written.{digits_below}
use Rattle.rules.specs.declared.Kind.TheVariants.{Polygons}
use Rattle.rules.specs.declared.Location.{Location}
use Rattle.rules.specs.declared.Location.TheVariants.{Outside, Inside, OnBoundary}
use Rattle.rules.specs.Plans.{Plan}
use Rattle.lines.specs.declared.records.Record.{Record}
use Rattle.lines.specs.Plans.{Meaning, start_meaning, gives_meaning, broken_meaning, size_of, grown, empty_plan, is_header, allowed, after_line, at_end, after_lines, meaning}
use Rattle.lines.proofs.Spans.{span, span_split}
use Rattle.rules.specs.declared.Spot.{Spot}
use Rattle.rules.specs.Spots.{spot_reply}
use Rattle.rules.specs.declared.Spot.TheVariants.{OnGrid, Doubled}
use Rattle.asked.specs.Queries.{word_query, query_of, asks}
use Rattle.lines.specs.Records.{record_of, point_from, point_of}
use Rattle.answers.specs.Replies.{place_word, reply_word, reply_line, refusal_line, answer_line, answer_end, replies}
use Rattle.answers.specs.Answers.{plan_text, after_plan, too_large, judged, answered}
use Rattle.asked.specs.Words.{grid_word, half_word}
use Rattle.answers.specs.Words.{line_end}
use Rattle.answers.proofs.Lines.{reply_length, refusal_length}

-- ---- a query's line has eight bytes or more

abbrev least : Option Spot → ℕ
least (Some query) = 8
least None = 0

abbrev least_named : Option Point → ℕ
least_named (Some p) = 2
least_named None = 0

number_long : (field : List ℕ) → (n : Option ℤ) → number_of field ≡ n → (n ≡ None → ⊥) → 1 ≤ length field
number_long [] n e d = absurd (d (sym e ∙ sym (no_number [] refl)))
number_long (x ∷ field) n e d = omega arith

point_long : (x y : List ℕ) → least_named (point_of x y) ≤ length x + length y
unfolding point_of
point_long x y = go (number_of x) (number_of y) refl refl
  where
    go : (m n : Option ℤ) → number_of x ≡ m → number_of y ≡ n → least_named (point_from m n) ≤ length x + length y
    go (Some a) (Some b) p q =
        let j = number_long x (Some a) p (λ e. let one : ◌≡◌ {A = ℕ} 0 1 = cc in omega arith) in
        let k = number_long y (Some b) q (λ e. let one : ◌≡◌ {A = ℕ} 0 1 = cc in omega arith) in
        omega arith
    go (Some a) None p q = omega arith
    go None (Some b) p q = omega arith
    go None None p q = omega arith

query_least : (query : Point → Spot) (named : Option Point) (n : ℕ) → least_named named ≤ n → least (option_map query named) ≤ n + 6
query_least query (Some p) n h = omega arith
query_least query None n h = omega arith

word_least : (word x y : List ℕ) → least (word_query word x y) ≤ length word + 1 + (length x + 1 + length y)
unfolding word_query
word_least word x y = go (same_bytes word grid_word) (same_bytes word half_word) refl refl
  where
    go : (a b : Bool) → same_bytes word grid_word ≡ a → same_bytes word half_word ≡ b → least (cond a (option_map OnGrid (point_of x y)) (cond b (option_map Doubled (point_of x y)) None)) ≤ length word + 1 + (length x + 1 + length y)
    go true b p q = let w = ap length (same_equal word grid_word p) in let h = query_least OnGrid (point_of x y) (length x + length y) (point_long x y) in omega arith
    go false true p q = let w = ap length (same_equal word half_word q) in let h = query_least Doubled (point_of x y) (length x + length y) (point_long x y) in omega arith
    go false false p q = omega arith

fields_least : (fields : List (List ℕ)) → least (query_of fields) ≤ span fields
unfolding query_of span
fields_least [] = omega arith
fields_least (word ∷ []) = omega arith
fields_least (word ∷ x ∷ []) = omega arith
fields_least (word ∷ x ∷ y ∷ []) = word_least word x y
fields_least (word ∷ x ∷ y ∷ more ∷ fields) = omega arith

line_least : (line : List ℕ) → least (query_of (split 9 line)) ≤ length line
line_least line = let h = fields_least (split 9 line) in let e = span_split 9 line in omega arith

-- ---- the lines of output

place_short : (location : Location) → length (place_word location) ≤ 8
place_short Outside = omega arith
place_short Inside = omega arith
place_short OnBoundary = omega arith

word_short : (plan : Plan) (spot : Spot) → length (reply_word plan spot) ≤ 8
word_short plan spot = place_short (spot_reply plan spot)

pub refusal_short : (number line : ℕ) → number < 100000 → line < 100000 → length (refusal_line number line) ≤ 20
refusal_short number line h k = let l = refusal_length number line in let a = digits_below 4 number h in let b = digits_below 4 line k in omega arith

-- ---- line by line

one_short : (plan : Plan) (k : ℕ) (line : List ℕ) (said : Option Spot) (rest : List ℕ) (n : ℕ) → k < 100000 → least said ≤ length line → length rest ≤ 2 * n + 20 → length (answer_line plan k line said rest) ≤ 2 * (length line + 1 + n) + 20
one_short plan k line (Some query) rest n h l r =
    let a = length-append (reply_line line (reply_word plan query)) rest in
    let b = reply_length line (reply_word plan query) in
    let w = word_short plan query in
    omega arith
one_short plan k line None rest n h l r = let a = refusal_short 2 k (omega arith) h in omega arith

end_short : (k : ℕ) (last : List ℕ) → k < 100000 → length (answer_end k last) ≤ 2 * length last + 20
end_short k [] h = omega arith
end_short k (x ∷ last) h = let a = refusal_short 2 k (omega arith) h in omega arith

replies_short : (plan : Plan) (k : ℕ) (lines : List (List ℕ)) → k + span lines < 100000 → length (replies plan k lines) ≤ 2 * span lines + 20
unfolding replies span
replies_short plan k [] h = omega arith
replies_short plan k (last ∷ []) h = end_short k last (omega arith)
replies_short plan k (line ∷ next ∷ lines) h = one_short plan k line (query_of (split 9 line)) (replies plan (suc k) (next ∷ lines)) (span (next ∷ lines)) (omega arith) (line_least line) (replies_short plan (suc k) (next ∷ lines) (omega arith))

after_short : (plan : Plan) (k : ℕ) (lines : List (List ℕ)) → k + span lines < 100000 → length (after_plan plan k lines) ≤ 2 * span lines + 20
unfolding after_plan span
after_short plan k [] h = omega arith
after_short plan k (last ∷ []) h = go (asks (split 9 last))
  where
    go : (b : Bool) → length (cond b (replies plan k (last ∷ [])) []) ≤ 2 * length last + 20
    go true = replies_short plan k (last ∷ []) h
    go false = omega arith
after_short plan k (line ∷ next ∷ lines) h = go (asks (split 9 line)) (after_short plan (suc k) (next ∷ lines) (omega arith))
  where
    go : (b : Bool) → length (after_plan plan (suc k) (next ∷ lines)) ≤ 2 * span (next ∷ lines) + 20 → length (cond b (replies plan k (line ∷ next ∷ lines)) (after_plan plan (suc k) (next ∷ lines))) ≤ 2 * (length line + 1 + span (next ∷ lines)) + 20
    go true r = replies_short plan k (line ∷ next ∷ lines) h
    go false r = omega arith

-- ---- the line that a plan's text is broken in is one of its lines

abbrev Numbered : ℕ → Meaning → Type 0
Numbered n start_meaning = Unit {0}
Numbered n (gives_meaning plan) = Unit {0}
Numbered n (broken_meaning line) = line ≤ n

line_numbered : (n k : ℕ) (m : Meaning) (said : Option Record) → k ≤ n → Numbered n m → Numbered n (after_line k m said)
line_numbered n k start_meaning (Some row) h g = go (is_header row)
  where
    go : (b : Bool) → Numbered n (cond b (gives_meaning (grown (empty_plan Polygons) row)) (broken_meaning k))
    go true = tt
    go false = h
line_numbered n k start_meaning None h g = h
line_numbered n k (gives_meaning plan) (Some row) h g = go (allowed (size_of plan) row)
  where
    go : (b : Bool) → Numbered n (cond b (gives_meaning (grown plan row)) (broken_meaning k))
    go true = tt
    go false = h
line_numbered n k (gives_meaning plan) None h g = h
line_numbered n k (broken_meaning line) said h g = g

end_numbered : (n k : ℕ) (m : Meaning) (last : List ℕ) → k ≤ n → Numbered n m → Numbered n (at_end k m last)
end_numbered n k start_meaning last h g = h
end_numbered n k (gives_meaning plan) [] h g = tt
end_numbered n k (gives_meaning plan) (x ∷ last) h g = h
end_numbered n k (broken_meaning line) last h g = g

lines_numbered : (n k : ℕ) (m : Meaning) (lines : List (List ℕ)) → k + span lines ≤ n → Numbered n m → Numbered n (after_lines k m lines)
unfolding after_lines span
lines_numbered n k m [] h g = g
lines_numbered n k m (last ∷ []) h g = end_numbered n k m last (omega arith) g
lines_numbered n k m (line ∷ next ∷ lines) h g = lines_numbered n (suc k) (after_line k m (record_of (split 9 line))) (next ∷ lines) (omega arith) (line_numbered n k m (record_of (split 9 line)) (omega arith) g)

meaning_numbered : (text : List ℕ) → Numbered (1 + length text) (meaning text)
unfolding meaning
meaning_numbered text = lines_numbered (1 + length text) 1 start_meaning (split 10 text) (let e = span_split 10 text in omega arith) tt

-- ---- the whole

text_short : (lines : List (List ℕ)) → length (plan_text lines) ≤ span lines
unfolding plan_text span
text_short [] = omega arith
text_short (last ∷ []) = go (asks (split 9 last))
  where
    go : (b : Bool) → length (cond b [] last) ≤ length last
    go true = omega arith
    go false = omega arith
text_short (line ∷ next ∷ lines) = go (asks (split 9 line)) (text_short (next ∷ lines))
  where
    go : (b : Bool) → length (plan_text (next ∷ lines)) ≤ span (next ∷ lines) → length (cond b [] (line ++ line_end ++ plan_text (next ∷ lines))) ≤ length line + 1 + span (next ∷ lines)
    go true r = omega arith
    go false r = let a = length-append line line_end in let c = length-append (line ++ line_end) (plan_text (next ∷ lines)) in omega arith

judged_short : (m : Meaning) (lines : List (List ℕ)) (n : ℕ) → n ≤ 20000 → Numbered n m → span lines ≤ 16384 → length (judged m lines) ≤ 33000
judged_short start_meaning lines n h g s = let a = refusal_short 2 1 (omega arith) (omega arith) in omega arith
judged_short (gives_meaning plan) lines n h g s = go (too_large plan)
  where
    go : (b : Bool) → length (cond b (refusal_line 11 0) (after_plan plan 1 lines)) ≤ 33000
    go true = let a = refusal_short 11 0 (omega arith) (omega arith) in omega arith
    go false = let a = after_short plan 1 lines (omega arith) in omega arith
judged_short (broken_meaning line) lines n h g s = let a = refusal_short 2 line (omega arith) (omega arith) in omega arith

-- what a small input gets
pub few : (input : List ℕ) → length input ≤ 16384 → length (judged (meaning (plan_text (split 10 input))) (split 10 input)) ≤ 33000
few input h =
    let e = span_split 10 input in
    let t = text_short (split 10 input) in
    judged_short (meaning (plan_text (split 10 input))) (split 10 input) (1 + length (plan_text (split 10 input))) (omega arith) (meaning_numbered (plan_text (split 10 input))) (omega arith)

-- what any input gets
pub answered_few : (input : List ℕ) → length (answered input) ≤ 33000
unfolding answered
answered_few input = go (ltb 16384 (length input)) refl
  where
    go : (b : Bool) → ltb 16384 (length input) ≡ b → length (cond b (refusal_line 1 0) (judged (meaning (plan_text (split 10 input))) (split 10 input))) ≤ 33000
    go true e = let a = refusal_short 1 0 (omega arith) (omega arith) in omega arith
    go false e = few input (ltb-false 16384 (length input) e)
