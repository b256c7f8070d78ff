-- What `lines::tables::write_plan` knows before each line: the tables start with the plan so far, and there is room for all that is still to
-- come. Assumes nothing.
use mathlib.Core.Path.{◌≡◌, refl, sym, ap, subst, ◌∙◌}
use mathlib.Core.Bool.{Bool, true, false, cond, ◌&&◌, true≢false}
use mathlib.Core.List.{List, [], ◌∷◌, ◌++◌, append_assoc}
use Prim.Native.Nat.{ℕ, suc, ◌+◌, ◌-◌, ◌*◌, ◌/◌, ◌≤◌, ◌<◌}
use native.Mathlib.Omega.{arith}
use lib.Dec.{ltb}
use lib.IntN.{ℤ, pos}
use lib.ListN.{length, set}
use borrow.Author.Tests.{ltb-true}
use Rattle.geom.specs.declared.Point.{Point}
use Rattle.std.specs.Prelude.{Option, Some, None}
use Rattle.fields.specs.declared.lines.Line.{Line}
use Rattle.fields.specs.declared.lines.Line.TheVariants.{Ended, Unended}
use Rattle.fields.specs.Lines.{NextLine}
use Rattle.fields.specs.Pieces.{split}
use Rattle.fields.proofs.Pieces.{nothing_left}
use Rattle.rules.specs.declared.Kind.TheVariants.{Polygons}
use Rattle.rules.specs.Lists.{total}
use Rattle.rules.specs.Plans.{Plan, is_list}
use Rattle.lines.specs.declared.records.Record.{Record}
use Rattle.lines.specs.declared.records.Record.TheVariants.{Header, Outer, Hole, Node, Corner}
use Rattle.lines.specs.declared.Size.{Size}
use Rattle.lines.specs.Records.{record_of}
use Rattle.lines.specs.Plans.{Meaning, start_meaning, gives_meaning, broken_meaning, size_of, empty_plan, grown, is_header, allowed, after_line, at_end, after_lines, meaning}
use Rattle.lines.specs.Stored.{plan_in, starting_with}
use Rattle.lines.specs.Steps.{empty_size, size_after, Countable, RoomBefore, corners_with, CornerRoom, lengths_with, LengthRoom, counts_with, CountRoom, Ready}
use Rattle.lines.proofs.Counting.{one_longer, two_longer, as_long, size_grown}
use Rattle.lines.proofs.Judging.{said_by, Reached, begun, onward, over}
use Rattle.lines.proofs.Sensible.{Fine, part_of_total, fewer_polygons}
use Rattle.lines.proofs.Stores.{length_starting, pushed, counted_on_lem, number_held}

-- ---- no plan shrinks

pub record Covers (plan final : Plan) : Type 0 where
  pub corners : length plan.coordinates ≤ length final.coordinates
  pub rings : length plan.lengths ≤ length final.lengths
  pub polygons : length plan.counts ≤ length final.counts

-- the final plan is reached from here
abbrev Leads : Meaning → Plan → Type 0
Leads start_meaning final = Unit {0}
Leads (gives_meaning plan) final = Covers plan final
Leads (broken_meaning line) final = ⊥

grown_covers : (plan final : Plan) (row : Record) → allowed (size_of plan) row ≡ true → Covers (grown plan row) final → Covers plan final
unfolding grown
grown_covers plan final (Header kind) ok g = absurd (true≢false (sym ok))
grown_covers plan final Outer ok g = let a = one_longer plan.lengths 0 in let b = one_longer plan.counts 1 in record { corners = g.corners; rings = omega (arith, g.rings); polygons = omega (arith, g.polygons) }
grown_covers plan final Hole ok g = let a = one_longer plan.lengths 0 in let b = as_long plan.counts in record { corners = g.corners; rings = omega (arith, g.rings); polygons = omega (arith, g.polygons) }
grown_covers plan final Node ok g = let a = one_longer plan.lengths 0 in record { corners = g.corners; rings = omega (arith, g.rings); polygons = g.polygons }
grown_covers plan final (Corner p) ok g = let a = two_longer plan.coordinates p.x p.y in let b = as_long plan.lengths in record { corners = omega (arith, g.corners); rings = omega (arith, g.rings); polygons = g.polygons }

-- whether a line may come now
abbrev pub accepts : Meaning → Record → Bool
accepts start_meaning row = is_header row
accepts (gives_meaning plan) row = allowed (size_of plan) row
accepts (broken_meaning line) row = false

-- a line on the way to a plan says what is accepted, and what it adds is on the way too
pub record Taken (k : ℕ) (so_far : Meaning) (said : Option Record) (final : Plan) : Type 0 where
  pub row : Record
  pub is : said ≡ Some row
  pub accepted : accepts so_far row ≡ true
  pub gives : after_line k so_far said ≡ gives_meaning (grown (plan_in so_far) row)
  pub covers : Covers (grown (plan_in so_far) row) final

taken : (k : ℕ) (so_far : Meaning) (said : Option Record) (final : Plan) → Leads (after_line k so_far said) final → Taken k so_far said final
taken k start_meaning (Some row) final h = go (is_header row) refl h
  where
    go : (b : Bool) → is_header row ≡ b → Leads (cond b (gives_meaning (grown (empty_plan Polygons) row)) (broken_meaning k)) final → Taken k start_meaning (Some row) final
    go true e g = record { row = row; is = refl; accepted = e; gives = ap (λ b. cond b (gives_meaning (grown (empty_plan Polygons) row)) (broken_meaning k)) e; covers = g }
    go false e g = absurd g
taken k start_meaning None final h = absurd h
taken k (gives_meaning plan) (Some row) final h = go (allowed (size_of plan) row) refl h
  where
    go : (b : Bool) → allowed (size_of plan) row ≡ b → Leads (cond b (gives_meaning (grown plan row)) (broken_meaning k)) final → Taken k (gives_meaning plan) (Some row) final
    go true e g = record { row = row; is = refl; accepted = e; gives = ap (λ b. cond b (gives_meaning (grown plan row)) (broken_meaning k)) e; covers = g }
    go false e g = absurd g
taken k (gives_meaning plan) None final h = absurd h
taken k (broken_meaning j) said final h = absurd h

back : (k : ℕ) (so_far : Meaning) (said : Option Record) (final : Plan) → Leads (after_line k so_far said) final → Leads so_far final
back k start_meaning said final h = tt
back k (gives_meaning plan) said final h = let t = taken k (gives_meaning plan) said final h in grown_covers plan final t.row t.accepted t.covers
back k (broken_meaning j) said final h = h

itself : (so_far : Meaning) (final : Plan) → so_far ≡ gives_meaning final → Leads so_far final
itself so_far final e = subst (λ m. Leads m final) (sym e) (record { corners = omega arith; rings = omega arith; polygons = omega arith })

broken : (k : ℕ) (final : Plan) → broken_meaning k ≡ gives_meaning final → ⊥
broken k final e = let one : ◌≡◌ {A = ℕ} 0 1 = cc in omega arith

-- a text that ends in a plan ended its last line there
pub ended : (k : ℕ) (so_far : Meaning) (last : List ℕ) (final : Plan) → at_end k so_far last ≡ gives_meaning final → so_far ≡ gives_meaning final
ended k start_meaning last final e = absurd (broken k final e)
ended k (gives_meaning plan) [] final e = e
ended k (gives_meaning plan) (x ∷ xs) final e = absurd (broken k final e)
ended k (broken_meaning j) last final e = e

unended : (k : ℕ) (so_far : Meaning) (last : List ℕ) (final : Plan) → 0 < length last → at_end k so_far last ≡ gives_meaning final → ⊥
unended k start_meaning last final h e = broken k final e
unended k (gives_meaning plan) [] final h e = absurd (omega arith)
unended k (gives_meaning plan) (x ∷ xs) final h e = broken k final e
unended k (broken_meaning j) last final h e = broken j final e

leads : (k : ℕ) (so_far : Meaning) (pieces : List (List ℕ)) (final : Plan) → after_lines k so_far pieces ≡ gives_meaning final → Leads so_far final
unfolding after_lines
leads k so_far [] final e = itself so_far final e
leads k so_far (last ∷ []) final e = itself so_far final (ended k so_far last final e)
leads k so_far (line ∷ next ∷ pieces) final e = back k so_far (record_of (split 9 line)) final (leads (suc k) (after_line k so_far (record_of (split 9 line))) (next ∷ pieces) final e)

-- ---- room for a line, and the tables with it

-- what a plan so far has, and where a header may come
pub record Base (plan : Plan) (row : Record) : Type 0 where
  pub even : length plan.coordinates ≡ 2 * total plan.lengths
  pub corners_few : total plan.lengths ≤ 65536
  pub rings_few : total plan.counts ≤ 65536
  pub fresh : is_header row ≡ true → plan ≡ empty_plan Polygons

none_total : (ns : List ℕ) → length ns ≡ 0 → total ns ≡ 0
unfolding total
none_total [] e = refl
none_total (n ∷ ns) e = absurd (omega arith)

no_header : (counts : Size) (row : Record) → allowed counts row ≡ true → is_header row ≡ true → ⊥
no_header counts (Header kind) e h = true≢false (sym e)
no_header counts Outer e h = true≢false (sym h)
no_header counts Hole e h = true≢false (sym h)
no_header counts Node e h = true≢false (sym h)
no_header counts (Corner p) e h = true≢false (sym h)

pub base : (n : ℕ) (so_far : Meaning) (row : Record) → n ≤ 65536 → Fine n so_far → accepts so_far row ≡ true → Base (plan_in so_far) row
unfolding total
base n start_meaning row h f e = record { even = refl; corners_few = omega arith; rings_few = omega arith; fresh = λ g. refl }
base n (gives_meaning plan) row h f e =
    let b = f.bytes in
    record { even = f.even; corners_few = omega arith; rings_few = go (is_list plan.kind) refl; fresh = λ g. absurd (no_header (size_of plan) row e g) }
  where
    go : (b : Bool) → is_list plan.kind ≡ b → total plan.counts ≤ 65536
    go true t = let r = f.rings t in let b = f.bytes in omega arith
    go false t = let z = none_total plan.counts (f.no_polygons t) in omega arith
base n (broken_meaning j) row h f e = absurd (true≢false (sym e))

pub open_ring : (so_far : Meaning) (p : Point) → accepts so_far (Corner p) ≡ true → 0 < length (plan_in so_far).lengths
open_ring start_meaning p e = absurd (true≢false (sym e))
open_ring (gives_meaning plan) p e = ltb-true 0 (length plan.lengths) e
open_ring (broken_meaning j) p e = absurd (true≢false (sym e))

both_true : (b c : Bool) → (b && c) ≡ true → c ≡ true
both_true true c e = e
both_true false true e = refl
both_true false false e = e

pub open_polygon : (so_far : Meaning) → accepts so_far Hole ≡ true → 0 < length (plan_in so_far).counts
open_polygon start_meaning e = absurd (true≢false (sym e))
open_polygon (gives_meaning plan) e = ltb-true 0 (length plan.counts) (both_true (is_list plan.kind) (ltb 0 (length plan.counts)) e)
open_polygon (broken_meaning j) e = absurd (true≢false (sym e))

-- the number at the end of a list that a table starts with can be counted on
room_before : (ns table : List ℕ) → 0 < length ns → length ns ≤ length table → total ns ≤ 65536 → RoomBefore (length ns) (starting_with ns table)
room_before ns table some fits few =
    let l = length_starting ns table fits in
    let held = number_held ns table (length ns - 1) (omega arith) in
    let part = part_of_total ns (length ns - 1) in
    (some, omega arith, omega arith)

corner_room : (plan final : Plan) (row : Record) (table : List ℤ) → Base plan row → Covers (grown plan row) final → length final.coordinates ≤ length table → CornerRoom (length plan.coordinates / 2) row (starting_with plan.coordinates table)
unfolding grown
corner_room plan final (Header kind) table b c h = tt
corner_room plan final Outer table b c h = tt
corner_room plan final Hole table b c h = tt
corner_room plan final Node table b c h = tt
corner_room plan final (Corner p) table b c h =
    let e = b.even in
    let a = two_longer plan.coordinates p.x p.y in
    let k = c.corners in
    let l = length_starting plan.coordinates table (omega arith) in
    omega arith

length_room : (plan final : Plan) (row : Record) (table : List ℕ) → Base plan row → ((p : Point) → row ≡ Corner p → 0 < length plan.lengths) → Covers (grown plan row) final → length final.lengths ≤ length table → LengthRoom (length plan.lengths) row (starting_with plan.lengths table)
unfolding grown
length_room plan final (Header kind) table b o c h = tt
length_room plan final Outer table b o c h = let a = one_longer plan.lengths 0 in let k = c.rings in let l = length_starting plan.lengths table (omega arith) in omega arith
length_room plan final Hole table b o c h = let a = one_longer plan.lengths 0 in let k = c.rings in let l = length_starting plan.lengths table (omega arith) in omega arith
length_room plan final Node table b o c h = let a = one_longer plan.lengths 0 in let k = c.rings in let l = length_starting plan.lengths table (omega arith) in omega arith
length_room plan final (Corner p) table b o c h = let a = as_long plan.lengths in let k = c.rings in room_before plan.lengths table (o p refl) (omega arith) b.corners_few

count_room : (plan final : Plan) (row : Record) (table : List ℕ) → Base plan row → (row ≡ Hole → 0 < length plan.counts) → Covers (grown plan row) final → length final.counts ≤ length table → CountRoom (length plan.counts) row (starting_with plan.counts table)
unfolding grown
count_room plan final (Header kind) table b o c h = tt
count_room plan final Outer table b o c h = let a = one_longer plan.counts 1 in let k = c.polygons in let l = length_starting plan.counts table (omega arith) in omega arith
count_room plan final Hole table b o c h = let a = as_long plan.counts in let k = c.polygons in room_before plan.counts table (o refl) (omega arith) b.rings_few
count_room plan final Node table b o c h = tt
count_room plan final (Corner p) table b o c h = tt

corners_after : (plan final : Plan) (row : Record) (table : List ℤ) → Base plan row → Covers (grown plan row) final → length final.coordinates ≤ length table → corners_with (length plan.coordinates / 2) row (starting_with plan.coordinates table) ≡ starting_with (grown plan row).coordinates table
unfolding grown
corners_after plan final (Header kind) table b c h = ap (λ q. starting_with q.coordinates table) (b.fresh refl)
corners_after plan final Outer table b c h = refl
corners_after plan final Hole table b c h = refl
corners_after plan final Node table b c h = refl
corners_after plan final (Corner p) table b c h =
    let e = b.even in
    let a = two_longer plan.coordinates p.x p.y in
    let k = c.corners in
    let l = one_longer plan.coordinates p.x in
    let here : 2 * (length plan.coordinates / 2) ≡ length plan.coordinates = omega arith in
    let next : length plan.coordinates + 1 ≡ length (plan.coordinates ++ p.x ∷ []) = omega arith in
    ap (λ i. set (set (starting_with plan.coordinates table) i p.x) (i + 1) p.y) here
    ∙ ap (λ xs. set xs (length plan.coordinates + 1) p.y) (pushed plan.coordinates table p.x (pos 0) (omega arith))
    ∙ ap (λ i. set (starting_with (plan.coordinates ++ p.x ∷ []) table) i p.y) next
    ∙ pushed (plan.coordinates ++ p.x ∷ []) table p.y (pos 0) (omega arith)
    ∙ ap (λ xs. starting_with xs table) (append_assoc plan.coordinates (p.x ∷ []) (p.y ∷ []))

lengths_after : (plan final : Plan) (row : Record) (table : List ℕ) → Base plan row → ((p : Point) → row ≡ Corner p → 0 < length plan.lengths) → Covers (grown plan row) final → length final.lengths ≤ length table → lengths_with (length plan.lengths) row (starting_with plan.lengths table) ≡ starting_with (grown plan row).lengths table
unfolding grown
lengths_after plan final (Header kind) table b o c h = ap (λ q. starting_with q.lengths table) (b.fresh refl)
lengths_after plan final Outer table b o c h = let a = one_longer plan.lengths 0 in let k = c.rings in pushed plan.lengths table 0 0 (omega arith)
lengths_after plan final Hole table b o c h = let a = one_longer plan.lengths 0 in let k = c.rings in pushed plan.lengths table 0 0 (omega arith)
lengths_after plan final Node table b o c h = let a = one_longer plan.lengths 0 in let k = c.rings in pushed plan.lengths table 0 0 (omega arith)
lengths_after plan final (Corner p) table b o c h = counted_on_lem plan.lengths table (o p refl)

counts_after : (plan final : Plan) (row : Record) (table : List ℕ) → Base plan row → (row ≡ Hole → 0 < length plan.counts) → Covers (grown plan row) final → length final.counts ≤ length table → counts_with (length plan.counts) row (starting_with plan.counts table) ≡ starting_with (grown plan row).counts table
unfolding grown
counts_after plan final (Header kind) table b o c h = ap (λ q. starting_with q.counts table) (b.fresh refl)
counts_after plan final Outer table b o c h = let a = one_longer plan.counts 1 in let k = c.polygons in pushed plan.counts table 1 0 (omega arith)
counts_after plan final Hole table b o c h = counted_on_lem plan.counts table (o refl)
counts_after plan final Node table b o c h = refl
counts_after plan final (Corner p) table b o c h = refl

-- ---- the loop

-- what the text gives, and that the tables have room for it
pub record Whole (text : List ℕ) (corners lengths counts : ℕ) : Type 0 where
  pub final : Plan
  pub is : meaning text ≡ gives_meaning final
  pub corners_fit : length final.coordinates ≤ corners
  pub lengths_fit : length final.lengths ≤ lengths
  pub counts_fit : length final.counts ≤ counts

pub whole : (text : List ℕ) (corners lengths counts : ℕ) → Ready (meaning text) corners lengths counts → Whole text corners lengths counts
whole text corners lengths counts h = go (meaning text) refl h
  where
    go : (m : Meaning) → meaning text ≡ m → Ready m corners lengths counts → Whole text corners lengths counts
    go start_meaning e r = absurd r
    go (gives_meaning plan) e r = record { final = plan; is = e; corners_fit = r.0; lengths_fit = r.1; counts_fit = r.2 }
    go (broken_meaning line) e r = absurd r

pub record Writing (text : List ℕ) (corners₀ : List ℤ) (lengths₀ counts₀ : List ℕ) (corners : List ℤ) (lengths counts : List ℕ) (done : Size) (rest : List ℕ) : Type 0 where
  pub so_far : Meaning
  pub line : ℕ
  pub reached : Reached text so_far line rest
  pub counted : done ≡ size_of (plan_in so_far)
  pub corners_held : corners ≡ starting_with (plan_in so_far).coordinates corners₀
  pub lengths_held : lengths ≡ starting_with (plan_in so_far).lengths lengths₀
  pub counts_held : counts ≡ starting_with (plan_in so_far).counts counts₀

pub writing_begun : (text : List ℕ) (corners : List ℤ) (lengths counts : List ℕ) (done : Size) (rest : List ℕ) → done ≡ empty_size Polygons → rest ≡ text → Writing text corners lengths counts corners lengths counts done rest
writing_begun text corners lengths counts done rest d e = subst (Writing text corners lengths counts corners lengths counts done) (sym e) (record { so_far = start_meaning; line = 1; reached = begun text; counted = d; corners_held = refl; lengths_held = refl; counts_held = refl })

module _ (text : List ℕ) (corners₀ : List ℤ) (lengths₀ counts₀ : List ℕ) (small : length text ≤ 65536) (w : Whole text (length corners₀) (length lengths₀) (length counts₀)) (corners : List ℤ) (lengths counts : List ℕ) (done : Size) (rest : List ℕ) (g : Writing text corners₀ lengths₀ counts₀ corners lengths counts done rest) where
  -- at the text's end the tables start with its plan
  all_read : rest ≡ [] → plan_in g.so_far ≡ plan_in (meaning text)
  all_read h =
      let e : g.so_far ≡ gives_meaning w.final = ended g.line g.so_far rest w.final (sym (over text g.so_far g.line rest g.reached (nothing_left 10 rest h)) ∙ w.is) in
      ap plan_in (e ∙ sym w.is)

  pub corners_written : rest ≡ [] → corners ≡ starting_with (plan_in (meaning text)).coordinates corners₀
  corners_written h = g.corners_held ∙ ap (λ plan. starting_with plan.coordinates corners₀) (all_read h)

  pub lengths_written : rest ≡ [] → lengths ≡ starting_with (plan_in (meaning text)).lengths lengths₀
  lengths_written h = g.lengths_held ∙ ap (λ plan. starting_with plan.lengths lengths₀) (all_read h)

  pub counts_written : rest ≡ [] → counts ≡ starting_with (plan_in (meaning text)).counts counts₀
  counts_written h = g.counts_held ∙ ap (λ plan. starting_with plan.counts counts₀) (all_read h)

  module _ (line : Line) (after : List ℕ) (n : NextLine rest (Some line) after) (said : Option Record) (s : said ≡ said_by line) where
    -- every line of a plan is ended
    next_reached : Reached text (after_line g.line g.so_far said) (g.line + 1) after
    next_reached = go line n s
      where
        go : (line : Line) → NextLine rest (Some line) after → said ≡ said_by line → Reached text (after_line g.line g.so_far said) (g.line + 1) after
        go (Ended row) p e = subst (λ t. Reached text (after_line g.line g.so_far t) (g.line + 1) after) (sym e) (onward text g.so_far g.line rest g.reached row.now after p)
        go (Unended row) p e = absurd (unended g.line g.so_far rest w.final p.2 (sym (over text g.so_far g.line rest g.reached p.0) ∙ w.is))

    -- the line is on the way to the plan
    on_the_way : Taken g.line g.so_far said w.final
    on_the_way = taken g.line g.so_far said w.final (leads (g.line + 1) (after_line g.line g.so_far said) (split 10 after) w.final (sym next_reached.due ∙ w.is))

    pub always_said : said ≡ None → ⊥
    always_said e = nothing on_the_way.row (sym e ∙ on_the_way.is)
      where
        nothing : (row : Record) → None ≡ Some row → ⊥
        nothing row e = let one : ◌≡◌ {A = ℕ} 0 1 = cc in omega arith

    module _ (row : Record) (r : said ≡ Some row) where
      same : on_the_way.row ≡ row
      same = inside on_the_way.row (sym on_the_way.is ∙ r)
        where
          inside : (other : Record) → Some other ≡ Some row → other ≡ row
          inside other e = cc

      row_accepted : accepts g.so_far row ≡ true
      row_accepted = ap (accepts g.so_far) (sym same) ∙ on_the_way.accepted

      row_covers : Covers (grown (plan_in g.so_far) row) w.final
      row_covers = subst (λ t. Covers (grown (plan_in g.so_far) t) w.final) same on_the_way.covers

      based : Base (plan_in g.so_far) row
      based = let f = g.reached.bytes in base g.reached.from g.so_far row (omega arith) g.reached.fine row_accepted

      ring_open : (p : Point) → row ≡ Corner p → 0 < length (plan_in g.so_far).lengths
      ring_open p e = open_ring g.so_far p (ap (accepts g.so_far) (sym e) ∙ row_accepted)

      polygon_open : row ≡ Hole → 0 < length (plan_in g.so_far).counts
      polygon_open e = open_polygon g.so_far (ap (accepts g.so_far) (sym e) ∙ row_accepted)

      -- there is room for what the line adds
      pub row_fits : CornerRoom done.corners row corners × LengthRoom done.rings row lengths × CountRoom done.polygons row counts
      row_fits = (
        subst (λ t. CornerRoom done.corners row t) (sym g.corners_held) (subst (λ d. CornerRoom d.corners row (starting_with (plan_in g.so_far).coordinates corners₀)) (sym g.counted) (corner_room (plan_in g.so_far) w.final row corners₀ based row_covers w.corners_fit)),
        subst (λ t. LengthRoom done.rings row t) (sym g.lengths_held) (subst (λ d. LengthRoom d.rings row (starting_with (plan_in g.so_far).lengths lengths₀)) (sym g.counted) (length_room (plan_in g.so_far) w.final row lengths₀ based ring_open row_covers w.lengths_fit)),
        subst (λ t. CountRoom done.polygons row t) (sym g.counts_held) (subst (λ d. CountRoom d.polygons row (starting_with (plan_in g.so_far).counts counts₀)) (sym g.counted) (count_room (plan_in g.so_far) w.final row counts₀ based polygon_open row_covers w.counts_fit)),
      )

      pub done_countable : Countable done
      done_countable = subst Countable (sym g.counted) (go g.so_far g.reached.fine row_accepted)
        where
          go : (so_far : Meaning) → Fine g.reached.from so_far → accepts so_far row ≡ true → Countable (size_of (plan_in so_far))
          go start_meaning f e = (omega arith, omega arith, omega arith)
          go (gives_meaning plan) f e = let b = f.bytes in let v = f.even in let p = fewer_polygons g.reached.from plan f in let few = g.reached.bytes in (omega arith, omega arith, omega arith)
          go (broken_meaning j) f e = absurd (true≢false (sym e))

      pub writing_onward : (corners' : List ℤ) (lengths' counts' : List ℕ) (done' : Size) → (corners' ≡ corners_with done.corners row corners) × (lengths' ≡ lengths_with done.rings row lengths) × (counts' ≡ counts_with done.polygons row counts) → done' ≡ size_after done row → Writing text corners₀ lengths₀ counts₀ corners' lengths' counts' done' after
      writing_onward corners' lengths' counts' done' stored d =
          let plan = plan_in g.so_far in
          let now : plan_in (after_line g.line g.so_far said) ≡ grown plan row = ap plan_in on_the_way.gives ∙ ap (grown plan) same in
          record {
            so_far = after_line g.line g.so_far said;
            line = g.line + 1;
            reached = next_reached;
            counted = d ∙ ap (λ counts. size_after counts row) g.counted ∙ size_grown plan row ∙ ap size_of (sym now);
            corners_held = stored.0 ∙ ap (λ d. corners_with d.corners row corners) g.counted ∙ ap (corners_with (length plan.coordinates / 2) row) g.corners_held ∙ corners_after plan w.final row corners₀ based row_covers w.corners_fit ∙ ap (λ q. starting_with q.coordinates corners₀) (sym now);
            lengths_held = stored.1 ∙ ap (λ d. lengths_with d.rings row lengths) g.counted ∙ ap (lengths_with (length plan.lengths) row) g.lengths_held ∙ lengths_after plan w.final row lengths₀ based ring_open row_covers w.lengths_fit ∙ ap (λ q. starting_with q.lengths lengths₀) (sym now);
            counts_held = stored.2 ∙ ap (λ d. counts_with d.polygons row counts) g.counted ∙ ap (counts_with (length plan.counts) row) g.counts_held ∙ counts_after plan w.final row counts₀ based polygon_open row_covers w.counts_fit ∙ ap (λ q. starting_with q.counts counts₀) (sym now);
          }
