-- What writing a plan answers, refusal by refusal, and what is known where its text was written. Assumes nothing.
use Rattle.std.specs.Prelude.{Err, Ok, Result, ℕ}
use mathlib.Core.Path.{◌≡◌, refl, sym, ap, subst, ◌∙◌}
use mathlib.Core.Bool.{Bool, true, false, not, cond, ◌&&◌}
use mathlib.Core.List.{List}
use Prim.Native.Nat.{ℕ, ◌≤◌, ◌<◌}
use native.Mathlib.Omega.{arith}
use lib.Dec.{T, eqb, ltb}
use lib.IntN.{ℤ}
use lib.ListN.{length}
use borrow.Author.Tests.{lt-ltb, le-ltb, ltb-false}
use Rattle.fields.specs.Written.{Wrote}
use Rattle.rules.specs.declared.Kind.{Kind}
use Rattle.rules.specs.declared.Kind.TheVariants.{Polygons, Tree}
use Rattle.rules.specs.declared.Refusal.{Refusal}
use Rattle.rules.specs.declared.Refusal.TheVariants.{TextTooLong, TableTooShort, Unclosed, TooMany, Uneven}
use Rattle.rules.specs.declared.Table.TheVariants.{Output}
use Rattle.rules.specs.Lists.{any_of}
use Rattle.rules.specs.Plans.{Plan, is_list, too_many, uneven, plan_verdict}
use Rattle.grammar.specs.Texts.{wkt_of}
use Rattle.writer.specs.Drawn.{Drawn}
use Rattle.writer.specs.Lengths.{TextLong}
use Rattle.wkt.specs.Writings.{drawable, with_output, drawn_writing, writing_of, writing, writing_number, writing_detail, number_due, detail_due, output_after, Answered, WktWritten}
use Rattle.rules.specs.Answering.{Verdict, Accepted}

-- ---- 1 and 11

module _ (plan : Plan) (room bytes : ℕ) (l : TextLong plan bytes) where
  abbrev due : (Result ℕ Refusal)
  due = with_output (length (wkt_of plan)) room

  counted : with_output bytes room ≡ due
  counted = ap (λ n. with_output n room) l.exact

  pub too_long : 65536 < bytes → Answered plan.coordinates (with_output (length (wkt_of plan)) room) (Err TextTooLong)
  too_long h = record { answer = sym (rw (lt-ltb 65536 bytes h) refl) ∙ counted; fits = tt }

  module _ (h : bytes ≤ 65536) where
    pub too_short_lem : room < bytes → Answered plan.coordinates (with_output (length (wkt_of plan)) room) (Err (TableTooShort Output))
    too_short_lem k = record { answer = sym (rw (le-ltb 65536 bytes h, lt-ltb room bytes k) refl) ∙ counted; fits = tt }

    pub text_fits : bytes ≤ room → Answered plan.coordinates (with_output (length (wkt_of plan)) room) (Ok bytes)
    text_fits k = record { answer = sym (rw (le-ltb 65536 bytes h, le-ltb room bytes k) refl) ∙ counted; fits = l.fits }

-- ---- 22

a_list : (kind : Kind) → is_list kind ≡ true → kind ≡ Polygons
a_list Polygons e = refl
a_list Tree e = absurd (subst T (sym e) tt)

abbrev pub plan_given : Kind → List ℤ → List ℕ → List ℕ → Plan
plan_given kind coordinates lengths counts = record { kind = kind; coordinates = coordinates; lengths = lengths; counts = counts }

-- ---- 4 and 3

pub accepted_as : (plan : Plan) (room : ℕ) (r : Result ℕ Refusal) → plan_verdict plan ≡ Accepted → Answered plan.coordinates (drawn_writing plan room) r → Answered plan.coordinates (writing plan room) r
unfolding writing
accepted_as plan room r v a = record { answer = a.answer ∙ ap (λ w. writing_of w plan room) (sym v); fits = a.fits }

pub refused_as : (plan : Plan) (room : ℕ) (refusal : Refusal) → plan_verdict plan ≡ Err refusal → Answered plan.coordinates (writing plan room) (Err refusal)
unfolding writing
refused_as plan room refusal v = record { answer = ap (λ w. writing_of w plan room) (sym v); fits = tt }

-- ---- the numbers

by_tests : (many odd drawn long short : Bool) (bytes : ℕ) (plan : Plan) (room : ℕ) → drawn_writing plan room ≡ cond drawn (cond long (Err TextTooLong) (cond short (Err (TableTooShort Output)) (Ok bytes))) (Err Unclosed)
    → let r : (Result ℕ Refusal) = writing_of (cond many (Err TooMany) (cond odd (Err Uneven) Accepted)) plan room in
    let n : ℕ = cond many 4 (cond odd 3 (cond (not drawn) 22 (cond long 1 (cond short 11 0)))) in
    (writing_number r ≡ n) × (writing_detail r ≡ cond (eqb n 11) 6 0)
by_tests true odd drawn long short bytes plan room e = (refl, refl)
by_tests false true drawn long short bytes plan room e = (refl, refl)
by_tests false false false long short bytes plan room e = (ap writing_number e, ap writing_detail e)
by_tests false false true true short bytes plan room e = (ap writing_number e, ap writing_detail e)
by_tests false false true false true bytes plan room e = (ap writing_number e, ap writing_detail e)
by_tests false false true false false bytes plan room e = (ap writing_number e, ap writing_detail e)

pub numbers : (plan : Plan) (room : ℕ) → (writing_number (writing plan room) ≡ number_due plan room) × (writing_detail (writing plan room) ≡ detail_due plan room)
unfolding writing plan_verdict number_due detail_due
numbers plan room = by_tests (too_many plan) (uneven plan) (drawable plan) (ltb 65536 (length (wkt_of plan))) (ltb room (length (wkt_of plan))) (length (wkt_of plan)) plan room refl

-- ---- answer and output

module _ (plan : Plan) (output output' : List ℕ) where
  -- what the promise says, from the answer and what became of the output
  pub written_as : (r : Result ℕ Refusal) → Answered plan.coordinates (writing plan (length output)) r → output' ≡ output_after r (wkt_of plan) output → WktWritten plan output output' r
  written_as r a e =
      let n = numbers plan (length output) in
      record {
        answer = a.answer;
        number = ap writing_number a.answer ∙ n.0;
        detail = ap writing_detail a.answer ∙ n.1;
        output_written = e;
        fits = a.fits;
      }

-- ---- a text that was written

different : {A : Type 0} (bytes : ℕ) (refusal : Refusal) → Ok bytes ≡ Err refusal → A
different bytes refusal e = let one : ◌≡◌ {A = ℕ} 0 1 = cc in absurd (omega arith)

-- where a text is due: the plan is accepted, can be drawn, and its text has so many bytes, for which there is room
pub record Due (plan : Plan) (room bytes : ℕ) : Type 0 where
  pub accepted : plan_verdict plan ≡ Accepted
  pub list : plan.kind ≡ Polygons
  pub full : any_of (λ n. eqb n 0) plan.lengths ≡ false
  pub exact : bytes ≡ length (wkt_of plan)
  pub short : length (wkt_of plan) ≤ 65536
  pub reach : length (wkt_of plan) ≤ room

pub due_for : (plan : Plan) (room bytes : ℕ) → Ok bytes ≡ writing plan room → Due plan room bytes
unfolding writing drawable
due_for plan room bytes h = by_verdict (plan_verdict plan) refl h
  where
    by_room : (long small : Bool) → ltb 65536 (length (wkt_of plan)) ≡ long → ltb room (length (wkt_of plan)) ≡ small → Ok bytes ≡ cond long (Err TextTooLong) (cond small (Err (TableTooShort Output)) (Ok (length (wkt_of plan)))) → (bytes ≡ length (wkt_of plan)) × (length (wkt_of plan) ≤ 65536) × (length (wkt_of plan) ≤ room)
    by_room true small p q e = different bytes TextTooLong e
    by_room false true p q e = different bytes (TableTooShort Output) e
    by_room false false p q e = (cc, ltb-false 65536 (length (wkt_of plan)) p, ltb-false room (length (wkt_of plan)) q)

    by_drawing : (list bare : Bool) → is_list plan.kind ≡ list → any_of (λ n. eqb n 0) plan.lengths ≡ bare → plan_verdict plan ≡ Accepted → Ok bytes ≡ cond (list && not bare) (with_output (length (wkt_of plan)) room) (Err Unclosed) → Due plan room bytes
    by_drawing true true p q v e = different bytes Unclosed e
    by_drawing false bare p q v e = different bytes Unclosed e
    by_drawing true false p q v e =
        let f = by_room (ltb 65536 (length (wkt_of plan))) (ltb room (length (wkt_of plan))) refl refl e in
        record { accepted = v; list = a_list plan.kind p; full = q; exact = f.0; short = f.1; reach = f.2 }

    by_verdict : (w : Verdict) → plan_verdict plan ≡ w → Ok bytes ≡ writing_of w plan room → Due plan room bytes
    by_verdict Accepted v e = by_drawing (is_list plan.kind) (any_of (λ n. eqb n 0) plan.lengths) refl refl v e
    by_verdict (Err refusal) v e = different bytes refusal e

module _ (plan : Plan) (output : List ℕ) (bytes : ℕ) (a : Answered plan.coordinates (writing plan (length output)) (Ok bytes)) where
  due_here : Due plan (length output) bytes
  due_here = due_for plan (length output) bytes a.answer

  pub answered_drawn : Drawn plan
  answered_drawn = record { list = due_here.list; accepted = due_here.accepted; full = due_here.full }

  pub answered_room : length (wkt_of plan) ≤ length output
  answered_room = due_here.reach

  pub text_written : (output' : List ℕ) (n : ℕ) → Wrote 0 (wkt_of plan) output output' n → WktWritten plan output output' (Ok bytes)
  text_written output' n w = written_as plan output output' (Ok bytes) a w.whole
