-- A plan that was written: the output begins with its text, which spells closed polygons, and these are the plan again. Assumes nothing.
use Rattle.std.specs.Prelude.{Ok}
use mathlib.Core.Path.{◌≡◌, refl, sym, ap, subst, ◌∙◌}
use mathlib.Core.Bool.{true}
use mathlib.Core.List.{List}
use Prim.Native.Nat.{ℕ, ◌+◌, ◌≤◌}
use lib.IntN.{ℤ}
use lib.ListN.{length, take, drop}
use lib.Seq.{take-append_seam}
use Rattle.fields.specs.Written.{overwritten}
use Rattle.rules.specs.declared.Kind.{Kind}
use Rattle.rules.specs.Plans.{Plan}
use Rattle.grammar.specs.Grammar.{Polygon}
use Rattle.grammar.specs.Spellings.{spells}
use Rattle.grammar.specs.Scans.{spelling}
use Rattle.grammar.specs.Texts.{wkt_of}
use Rattle.grammar.specs.Plans.{every_closed, plan_spelt}
use Rattle.writer.specs.Drawn.{Drawn, closed_polygons}
use Rattle.writer.proofs.Members.{list_of, as_list, drawn_list}
use Rattle.writer.proofs.Back.{spelt_back, closed_back, plan_back}
use Rattle.wkt.specs.Writings.{writing, Answered, WktWritten}
use Rattle.wkt.proofs.Writings.{plan_given, Due, due_for, answered_drawn}

pub record Back (plan : Plan) (bytes : ℕ) (output : List ℕ) : Type 0 where
  pub polygons : List Polygon
  -- the output's first bytes are the text: not too long to be read, on the grammar, and closed
  pub short : length (take bytes output) ≤ 65536
  pub spelt : spelling (take bytes output) ≡ spells polygons
  pub are_closed : every_closed polygons ≡ true
  -- and what they give is the plan
  pub same : plan_spelt polygons ≡ plan

module _ (kind : Kind) (coordinates : List ℤ) (lengths counts output output' : List ℕ) (bytes : ℕ) (w : WktWritten (plan_given kind coordinates lengths counts) output output' (Ok bytes)) where
  abbrev plan : Plan
  plan = plan_given kind coordinates lengths counts

  due : Due plan (length output) bytes
  due = due_for plan (length output) bytes w.answer

  answered : Answered coordinates (writing (plan_given kind coordinates lengths counts) (length output)) (Ok bytes)
  answered = record { answer = w.answer; fits = w.fits }

  -- the plan is a list
  as_drawn : plan ≡ list_of coordinates lengths counts
  as_drawn = as_list plan plan refl (answered_drawn plan output bytes answered)

  drawn : Drawn (list_of coordinates lengths counts)
  drawn = drawn_list plan plan refl (answered_drawn plan output bytes answered)

  begins : take bytes output' ≡ wkt_of plan
  begins = ap (λ o. take bytes o) w.output_written ∙ ap (λ n. take n (overwritten 0 (wkt_of plan) output)) due.exact ∙ take-append_seam (wkt_of plan) (drop (0 + length (wkt_of plan)) output)

  pub written_back : Back (plan_given kind coordinates lengths counts) bytes output'
  written_back =
      record {
        polygons = closed_polygons (list_of coordinates lengths counts);
        short = subst (λ s. length s ≤ 65536) (sym begins) due.short;
        spelt = ap spelling (begins ∙ ap wkt_of as_drawn) ∙ spelt_back coordinates lengths counts drawn w.fits;
        are_closed = closed_back coordinates lengths counts drawn w.fits;
        same = plan_back coordinates lengths counts drawn w.fits ∙ sym as_drawn;
      }
