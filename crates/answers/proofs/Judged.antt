-- From what reading the plan's text answers to what is written. Assumes nothing.
use Rattle.std.specs.Prelude.{Err, Ok, Result}
use mathlib.Core.Path.{◌≡◌, refl, sym, ap, subst, ◌∙◌}
use mathlib.Core.Bool.{Bool, true, false, cond, ◌||◌}
use mathlib.Core.List.{List}
use Prim.Native.Nat.{ℕ, ◌*◌, ◌≤◌}
use native.Mathlib.Omega.{arith}
use lib.Dec.{ltb}
use lib.ListN.{length, take, drop, length-take}
use borrow.Author.Tests.{lt-ltb, le-ltb, ltb-true, ltb-false}
use Rattle.fields.specs.Pieces.{split}
use Rattle.rules.specs.declared.Refusal.{Refusal}
use Rattle.rules.specs.declared.Refusal.TheVariants.{TextTooLong, BadLine, TableTooShort}
use Rattle.rules.specs.declared.Table.TheVariants.{Corners, Rings, Polygons}
use Rattle.rules.specs.Numbers.{refusal_number}
use Rattle.rules.specs.Plans.{Plan, corner_count}
use Rattle.lines.specs.declared.Size.{Size}
use Rattle.lines.specs.Plans.{Meaning, start_meaning, gives_meaning, broken_meaning, meaning, size_of}
use Rattle.text.specs.Readings.{with_room, reading_of, reading}
use Rattle.text.proofs.Answers.{different, Given}
use Rattle.text.proofs.Held.{lists_fit}
use Rattle.lines.proofs.Largest.{accepted}
use Rattle.answers.specs.declared.parts.Place.{Place}
use Rattle.answers.specs.Replies.{refusal_line, line_named, replies, Due}
use Rattle.answers.specs.Answers.{plan_text, after_plan, FirstQuery, too_large, Admitted, judged}
use Rattle.answers.proofs.Bounds.{few}

-- ---- a refusal

-- the ceiling of corners, by coordinates
corners_test : (n : ℕ) → ltb 512 n ≡ ltb 1024 (2 * n)
corners_test n = go (ltb 512 n) refl
  where
    go : (b : Bool) → ltb 512 n ≡ b → b ≡ ltb 1024 (2 * n)
    go true e = let h = ltb-true 512 n e in sym (lt-ltb 1024 (2 * n) (omega arith))
    go false e = let h = ltb-false 512 n e in sym (le-ltb 1024 (2 * n) (omega arith))

module _ (refusal : Refusal) (lines : List (List ℕ)) where
  abbrev Written : Meaning → Type 0
  Written m = refusal_line (refusal_number refusal) (line_named refusal) ≡ judged m lines

  written_as : (other : Refusal) → ◌≡◌ {A = Result Size Refusal} (Err refusal) (Err other) → refusal_line (refusal_number refusal) (line_named refusal) ≡ refusal_line (refusal_number other) (line_named other)
  written_as other e = let same : refusal ≡ other = cc in ap (λ r. refusal_line (refusal_number r) (line_named r)) same

  by_room : (plan : Plan) → Err refusal ≡ with_room (size_of plan) 1024 256 256 → Written (gives_meaning plan)
  by_room plan e = go (ltb 1024 (2 * corner_count plan)) (ltb 256 (length plan.lengths)) (ltb 256 (length plan.counts)) e ∙ ap (λ b. cond (b || (ltb 256 (length plan.lengths) || ltb 256 (length plan.counts))) (refusal_line 11 0) (after_plan plan 1 lines)) (sym (corners_test (corner_count plan)))
    where
      go : (a b c : Bool) → Err refusal ≡ cond a (Err (TableTooShort Corners)) (cond b (Err (TableTooShort Rings)) (cond c (Err (TableTooShort Polygons)) (Ok (size_of plan)))) → refusal_line (refusal_number refusal) (line_named refusal) ≡ cond (a || (b || c)) (refusal_line 11 0) (after_plan plan 1 lines)
      go true b c h = written_as (TableTooShort Corners) h
      go false true c h = written_as (TableTooShort Rings) h
      go false false true h = written_as (TableTooShort Polygons) h
      go false false false h = different (size_of plan) refusal (sym h)

  by_meaning : (m : Meaning) → Err refusal ≡ reading_of m 1024 256 256 → Written m
  by_meaning start_meaning e = written_as (BadLine 1) e
  by_meaning (gives_meaning plan) e = by_room plan e
  by_meaning (broken_meaning line) e = written_as (BadLine line) e

  -- 1 is not for a text that is a part of a small input
  by_reading : (text : List ℕ) → length text ≤ 65536 → Err refusal ≡ reading text 1024 256 256 → Written (meaning text)
  unfolding reading
  by_reading text h e = by_meaning (meaning text) (e ∙ ap (λ b. cond b (Err TextTooLong) (reading_of (meaning text) 1024 256 256)) (le-ltb 65536 (length text) h))

-- ---- the input

module _ (input : List ℕ) (small : length input ≤ 16384) (place : Place) (g : FirstQuery input place) where
  part_small : length (take place.from input) ≤ 65536
  part_small = let w = g.within in let l = length-take place.from input in omega arith

  pub refused_line : (refusal : Refusal) → Err refusal ≡ reading (take place.from input) 1024 256 256 → refusal_line (refusal_number refusal) (line_named refusal) ≡ judged (meaning (plan_text (split 10 input))) (split 10 input)
  refused_line refusal e = by_reading refusal (split 10 input) (take place.from input) part_small e ∙ ap (λ text. judged (meaning text) (split 10 input)) (sym g.plan_part)

  pub refused_room : (refusal : Refusal) (room : ℕ) → 65536 ≤ room → Err refusal ≡ reading (take place.from input) 1024 256 256 → length (refusal_line (refusal_number refusal) (line_named refusal)) ≤ room
  refused_room refusal room h e = let l = ap length (refused_line refusal e) in let f = few input small in omega arith

  module _ (size : Size) (p : Given (take place.from input) 1024 256 256 size) where
    within_ceilings : too_large p.plan ≡ false
    within_ceilings =
        let f = lists_fit (take place.from input) 1024 256 256 size p in
        let a = f.0 in
        let b = f.1 in
        let c = f.2 in
        rw (le-ltb 512 (corner_count p.plan) (omega arith), le-ltb 256 (length p.plan.lengths) b, le-ltb 256 (length p.plan.counts) c) refl

    pub replies_due : judged (meaning (plan_text (split 10 input))) (split 10 input) ≡ replies p.plan place.line (split 10 (drop place.from input))
    replies_due =
        ap (λ text. judged (meaning text) (split 10 input)) g.plan_part
        ∙ ap (λ m. judged m (split 10 input)) p.is
        ∙ ap (λ b. cond b (refusal_line 11 0) (after_plan p.plan 1 (split 10 input))) within_ceilings
        ∙ g.rest_due p.plan

    pub plan_admitted : (plan : Plan) → plan ≡ p.plan → Admitted plan
    plan_admitted plan e = subst Admitted (sym e) (record { accepted = accepted (take place.from input) p.plan p.small p.is; few = within_ceilings })

    pub plan_due : (plan : Plan) (output : List ℕ) → plan ≡ p.plan → 65536 ≤ length output → Due plan input place.from place.line output
    plan_due plan output e h =
        let l = ap length replies_due in
        let f = few input small in
        subst (λ q. Due q input place.from place.line output) (sym e)
        (record {
          small = small;
          starts = g.within;
          numbered = g.numbered;
          room = omega arith;
        })
