-- What `lines::stages::judge` knows before each line, and how one line carries it on. Assumes nothing.
use mathlib.Core.Path.{◌≡◌, refl, sym, ap, subst, ◌∙◌}
use mathlib.Core.Bool.{Bool, true, false, cond}
use mathlib.Core.List.{List, [], ◌∷◌}
use Prim.Native.Nat.{ℕ, ◌+◌, ◌≤◌, ◌<◌}
use native.Mathlib.Omega.{arith}
use lib.ListN.{length}
use Rattle.std.specs.Prelude.{Option, Some, None, Result, Ok, Err, MatchOption, option_map, ok_or}
use Rattle.std.specs.Borrow.{Bor}
use Rattle.fields.specs.Pieces.{split, Parted}
use Rattle.fields.specs.declared.lines.Line.{Line}
use Rattle.fields.specs.declared.lines.Line.TheVariants.{Ended, Unended}
use Rattle.fields.specs.Lines.{ended_part, NextLine}
use Rattle.fields.proofs.Pieces.{parted_length, nothing_left}
use Rattle.rules.specs.declared.Kind.TheVariants.{Polygons}
use Rattle.rules.specs.Plans.{Plan}
use Rattle.lines.specs.declared.records.Record.{Record}
use Rattle.lines.specs.declared.stages.BadLine.{BadLine}
use Rattle.lines.specs.declared.Size.{Size}
use Rattle.lines.specs.Records.{record_of}
use Rattle.lines.specs.Plans.{Meaning, start_meaning, gives_meaning, broken_meaning, size_of, empty_plan, grown, is_header, allowed, after_line, at_end, after_lines, meaning}
use Rattle.lines.specs.Steps.{bad_line, stage_of, stage_after, broken_number, broken_line, stage_number, stage_detail, Judged}
use Rattle.lines.proofs.Counting.{unbroken, stage_after_lem}
use Rattle.lines.proofs.LineByLine.{next_line, last_line, stays_broken}
use Rattle.lines.proofs.Spans.{row_bytes}
use Rattle.lines.proofs.Sensible.{Fine, fine_line}

-- what a line says; an unended one says nothing
abbrev pub said_by : Line → Option Record
said_by (Ended row) = record_of (split 9 row.now)
said_by (Unended row) = None

pub said_is : (line : Line) (part : Option (Bor (List ℕ))) (said : Option Record) → part ≡ ended_part line → MatchOption part (said ≡ None) (λ row. said ≡ record_of (split 9 row.now)) → said ≡ said_by line
said_is (Ended row) part said e m = subst (λ p. MatchOption p (said ≡ None) (λ row. said ≡ record_of (split 9 row.now))) e m
said_is (Unended row) part said e m = subst (λ p. MatchOption p (said ≡ None) (λ row. said ≡ record_of (split 9 row.now))) e m

-- the lines before the rest come to this meaning, and the rest starts with this line
pub record Reached (text : List ℕ) (so_far : Meaning) (line : ℕ) (rest : List ℕ) : Type 0 where
  pub from : ℕ
  pub bytes : from + length rest ≡ length text
  pub numbered : line ≤ from + 1
  pub fine : Fine from so_far
  pub due : meaning text ≡ after_lines line so_far (split 10 rest)

pub begun : (text : List ℕ) → Reached text start_meaning 1 text
unfolding meaning
begun text = record { from = 0; bytes = omega arith; numbered = omega arith; fine = tt; due = refl }

module _ (text : List ℕ) (so_far : Meaning) (line : ℕ) (rest : List ℕ) (g : Reached text so_far line rest) where
  pub onward : (row after : List ℕ) → Parted 10 rest row after → Reached text (after_line line so_far (record_of (split 9 row))) (line + 1) after
  onward row after p =
      let l = parted_length 10 rest row after p in
      let b = g.bytes in
      let n = g.numbered in
      record {
        from = g.from + length row + 1;
        bytes = omega arith;
        numbered = omega arith;
        fine = fine_line line g.from (length row) so_far (record_of (split 9 row)) g.fine (row_bytes row);
        due = g.due ∙ next_line line so_far rest row after p;
      }

  pub over : split 10 rest ≡ rest ∷ [] → meaning text ≡ at_end line so_far rest
  over e = g.due ∙ last_line line so_far rest e

-- ---- by counts

number_of_lem : (m : Meaning) → stage_number (stage_of m) ≡ broken_number m
number_of_lem start_meaning = refl
number_of_lem (gives_meaning plan) = refl
number_of_lem (broken_meaning line) = refl

line_of : (m : Meaning) → stage_detail (stage_of m) ≡ broken_line m
line_of start_meaning = refl
line_of (gives_meaning plan) = refl
line_of (broken_meaning line) = refl

judged_by : (m : Meaning) (r : Result Size BadLine) → r ≡ stage_of m → Judged m r
judged_by m r e = record { stage = e; number = ap stage_number e ∙ number_of_lem m; detail = ap stage_detail e ∙ line_of m }

-- a line that is taken leaves a plan so far
record Taken (k : ℕ) (so_far : Option Plan) (said : Option Record) (size : Size) : Type 0 where
  plan : Plan
  gives : after_line k (unbroken so_far) said ≡ gives_meaning plan
  sized : size ≡ size_of plan

pub refused : {A : Type 0} (k : ℕ) (size : Size) → bad_line k ≡ Ok size → A
refused k size e = absurd (let one : ◌≡◌ {A = ℕ} 0 1 = cc in omega arith)

taken : (k : ℕ) (so_far : Option Plan) (said : Option Record) (size : Size) → stage_of (after_line k (unbroken so_far) said) ≡ Ok size → Taken k so_far said size
taken k None (Some row) size e = go (is_header row) refl e
  where
    go : (b : Bool) → is_header row ≡ b → stage_of (cond b (gives_meaning (grown (empty_plan Polygons) row)) (broken_meaning k)) ≡ Ok size → Taken k None (Some row) size
    go true t h = record { plan = grown (empty_plan Polygons) row; gives = ap (λ b. cond b (gives_meaning (grown (empty_plan Polygons) row)) (broken_meaning k)) t; sized = (let s : size_of (grown (empty_plan Polygons) row) ≡ size = cc in sym s) }
    go false t h = refused k size h
taken k (Some plan) (Some row) size e = go (allowed (size_of plan) row) refl e
  where
    go : (b : Bool) → allowed (size_of plan) row ≡ b → stage_of (cond b (gives_meaning (grown plan row)) (broken_meaning k)) ≡ Ok size → Taken k (Some plan) (Some row) size
    go true t h = record { plan = grown plan row; gives = ap (λ b. cond b (gives_meaning (grown plan row)) (broken_meaning k)) t; sized = (let s : size_of (grown plan row) ≡ size = cc in sym s) }
    go false t h = refused k size h
taken k None None size e = refused k size e
taken k (Some plan) None size e = refused k size e

-- a line that is refused breaks the text
no_plan : (plan : Plan) (bad : BadLine) → Ok (size_of plan) ≡ Err bad → ⊥
no_plan plan bad e = let one : ◌≡◌ {A = ℕ} 0 1 = cc in omega arith

breaks : (k j : ℕ) (so_far : Option Plan) (said : Option Record) (pieces : List (List ℕ)) (bad : BadLine) → stage_of (after_line k (unbroken so_far) said) ≡ Err bad → stage_of (after_lines j (after_line k (unbroken so_far) said) pieces) ≡ Err bad
breaks k j None (Some row) pieces bad e = go (is_header row) e
  where
    go : (b : Bool) → stage_of (cond b (gives_meaning (grown (empty_plan Polygons) row)) (broken_meaning k)) ≡ Err bad → stage_of (after_lines j (cond b (gives_meaning (grown (empty_plan Polygons) row)) (broken_meaning k)) pieces) ≡ Err bad
    go true h = absurd (no_plan (grown (empty_plan Polygons) row) bad h)
    go false h = ap stage_of (stays_broken j k pieces) ∙ h
breaks k j (Some plan) (Some row) pieces bad e = go (allowed (size_of plan) row) e
  where
    go : (b : Bool) → stage_of (cond b (gives_meaning (grown plan row)) (broken_meaning k)) ≡ Err bad → stage_of (after_lines j (cond b (gives_meaning (grown plan row)) (broken_meaning k)) pieces) ≡ Err bad
    go true h = absurd (no_plan (grown plan row) bad h)
    go false h = ap stage_of (stays_broken j k pieces) ∙ h
breaks k j None None pieces bad e = ap stage_of (stays_broken j k pieces) ∙ e
breaks k j (Some plan) None pieces bad e = ap stage_of (stays_broken j k pieces) ∙ e

-- the lines before the rest come to this size, and the rest starts with this line; none came where there is no size
pub record Judging (text : List ℕ) (size : Option Size) (line : ℕ) (rest : List ℕ) : Type 0 where
  pub so_far : Option Plan
  pub is : size ≡ option_map size_of so_far
  pub fresh : size ≡ None → line ≡ 1
  pub reached : Reached text (unbroken so_far) line rest

pub judging_begun : (text : List ℕ) (line : ℕ) (rest : List ℕ) → line ≡ 1 → rest ≡ text → Judging text None line rest
judging_begun text line rest l e = subst (λ k. Judging text None k rest) (sym l) (record { so_far = None; is = refl; fresh = λ n. refl; reached = subst (Reached text start_meaning 1) (sym e) (begun text) })

module _ (text : List ℕ) (size : Option Size) (line : ℕ) (rest : List ℕ) (g : Judging text size line rest) where
  module _ (said : Option Record) (r : Result Size BadLine) (e : r ≡ stage_after line size said) where
    staged : r ≡ stage_of (after_line line (unbroken g.so_far) said)
    staged = e ∙ ap (λ s. stage_after line s said) g.is ∙ stage_after_lem line g.so_far said

    module _ (after : List ℕ) (n : (next : Line) × NextLine rest (Some next) after × (said ≡ said_by next)) where
      pub judging_onward : (size' : Size) (line' : ℕ) → r ≡ Ok size' → line' ≡ line + 1 → Judging text (Some size') line' after
      judging_onward size' line' h l = subst (λ k. Judging text (Some size') k after) (sym l) (go n.0 n.1 n.2)
        where
          t : Taken line g.so_far said size'
          t = taken line g.so_far said size' (sym staged ∙ h)

          go : (next : Line) → NextLine rest (Some next) after → said ≡ said_by next → Judging text (Some size') (line + 1) after
          go (Ended row) p s =
              let on = onward text (unbroken g.so_far) line rest g.reached row.now after p in
              record {
                so_far = Some t.plan;
                is = ap Some t.sized;
                fresh = λ n. absurd (let one : ◌≡◌ {A = ℕ} 0 1 = cc in omega arith);
                reached = subst (λ m. Reached text m (line + 1) after) (ap (after_line line (unbroken g.so_far)) (sym s) ∙ t.gives) on;
              }
          go (Unended row) p s = refused line size' (sym (e ∙ ap (stage_after line size) s) ∙ h)

      pub judged_broken : (bad : BadLine) → r ≡ Err bad → Judged (meaning text) (Err bad)
      judged_broken bad h = go n.0 n.1 n.2
        where
          go : (next : Line) → NextLine rest (Some next) after → said ≡ said_by next → Judged (meaning text) (Err bad)
          go (Ended row) p s =
              let on = onward text (unbroken g.so_far) line rest g.reached row.now after p in
              judged_by (meaning text) (Err bad) (sym (ap stage_of on.due ∙ ap (λ t. stage_of (after_lines (line + 1) (after_line line (unbroken g.so_far) t) (split 10 after))) (sym s) ∙ breaks line (line + 1) g.so_far said (split 10 after) bad (sym staged ∙ h)))
          go (Unended row) p s = judged_by (meaning text) (Err bad) (sym h ∙ e ∙ ap (stage_after line size) s ∙ sym (ap stage_of (over text (unbroken g.so_far) line rest g.reached p.0 ∙ unended line g.so_far rest p.2)))
            where
              unended : (k : ℕ) (so_far : Option Plan) (last : List ℕ) → 0 < length last → at_end k (unbroken so_far) last ≡ broken_meaning k
              unended k None last h = refl
              unended k (Some plan) [] h = absurd (omega arith)
              unended k (Some plan) (x ∷ xs) h = refl

  -- no line is left: the plan of those before, or a text without a line
  pub judged_whole : rest ≡ [] → Judged (meaning text) (ok_or size (record { line = 1 }))
  judged_whole z = judged_by (meaning text) (ok_or size (record { line = 1 })) (go g.so_far g.is ∙ sym (ap stage_of (over text (unbroken g.so_far) line rest g.reached (nothing_left 10 rest z) ∙ ap (at_end line (unbroken g.so_far)) z)))
    where
      go : (so_far : Option Plan) → size ≡ option_map size_of so_far → ok_or size (record { line = 1 }) ≡ stage_of (at_end line (unbroken so_far) [])
      go None i = ap (λ s. ok_or s (record { line = 1 })) i ∙ ap bad_line (sym (g.fresh i))
      go (Some plan) i = ap (λ s. ok_or s (record { line = 1 })) i
