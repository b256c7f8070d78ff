-- What reading a text answers, refusal by refusal, and what is known where a plan was read. Assumes nothing.
use mathlib.Core.Path.{◌≡◌, refl, sym, ap, subst, ◌∙◌}
use mathlib.Core.Bool.{Bool, true, false, cond}
use mathlib.Core.List.{List}
use Prim.Native.Nat.{ℕ, ◌*◌, ◌/◌, ◌≤◌, ◌<◌}
use native.Mathlib.Omega.{arith}
use lib.Dec.{eqb, ltb}
use lib.IntN.{ℤ}
use lib.ListN.{length}
use borrow.Author.Tests.{lt-ltb, le-ltb, ltb-false}
use Rattle.rules.specs.declared.Refusal.{Refusal}
use Rattle.rules.specs.declared.Refusal.TheVariants.{TextTooLong, TableTooShort}
use Rattle.rules.specs.declared.Table.TheVariants.{Corners, Rings, Polygons}
use Rattle.rules.specs.Lists.{total}
use Rattle.rules.specs.Plans.{Plan}
use Rattle.lines.specs.declared.Size.{Size}
use Rattle.std.specs.Prelude.{Ok, Err, Result}
use Rattle.lines.specs.declared.stages.BadLine.{BadLine}
use Rattle.lines.specs.Plans.{Meaning, start_meaning, gives_meaning, broken_meaning, meaning, size_of}
use Rattle.text.specs.Readings.{reading_number, reading_detail, with_room, reading_of, reading, short_table, number_of, detail_of, number_due, detail_due, written, PlanRead}
use Rattle.lines.specs.Steps.{stage_of, Ready}
use Rattle.lines.specs.Stored.{plan_in}
use Rattle.lines.proofs.Sensible.{Fine, meaning_fine}

module _ (text : List ℕ) (corners lengths counts : ℕ) where
  pub too_long : 65536 < length text → Err TextTooLong ≡ reading text corners lengths counts
  unfolding reading
  too_long h = sym (ap (λ b. cond b (Err TextTooLong) (reading_of (meaning text) corners lengths counts)) (lt-ltb 65536 (length text) h))

  module _ (small : length text ≤ 65536) where
    judged : reading_of (meaning text) corners lengths counts ≡ reading text corners lengths counts
    unfolding reading
    judged = sym (ap (λ b. cond b (Err TextTooLong) (reading_of (meaning text) corners lengths counts)) (le-ltb 65536 (length text) small))

    pub line_broken : (bad : BadLine) → Err bad ≡ stage_of (meaning text) → Err (Refusal.BadLine bad.line) ≡ reading text corners lengths counts
    line_broken bad e = go (meaning text) e ∙ judged
      where
        go : (m : Meaning) → Err bad ≡ stage_of m → Err (Refusal.BadLine bad.line) ≡ reading_of m corners lengths counts
        go start_meaning p = let same : bad ≡ record { line = 1 } = cc in ap (λ b. Err (Refusal.BadLine b.line)) same
        go (gives_meaning plan) p = let one : ◌≡◌ {A = ℕ} 0 1 = cc in absurd (omega arith)
        go (broken_meaning j) p = let same : bad ≡ record { line = j } = cc in ap (λ b. Err (Refusal.BadLine b.line)) same

    module _ (size : Size) (e : Ok size ≡ stage_of (meaning text)) where
      pub sized : with_room size corners lengths counts ≡ reading text corners lengths counts
      sized = go (meaning text) e ∙ judged
        where
          go : (m : Meaning) → Ok size ≡ stage_of m → with_room size corners lengths counts ≡ reading_of m corners lengths counts
          go start_meaning p = let one : ◌≡◌ {A = ℕ} 0 1 = cc in absurd (omega arith)
          go (gives_meaning plan) p = let same : size ≡ size_of plan = cc in ap (λ s. with_room s corners lengths counts) same
          go (broken_meaning j) p = let one : ◌≡◌ {A = ℕ} 0 1 = cc in absurd (omega arith)

-- ---- room

module _ (size : Size) (corners rings polygons : ℕ) where
  pub corners_short : corners / 2 < size.corners → Err (TableTooShort Corners) ≡ with_room size corners rings polygons
  corners_short a = sym (rw (lt-ltb corners (2 * size.corners) (omega arith)) refl)

  module _ (a : size.corners ≤ corners / 2) where
    pub rings_short : rings < size.rings → Err (TableTooShort Rings) ≡ with_room size corners rings polygons
    rings_short b = sym (rw (le-ltb corners (2 * size.corners) (omega arith), lt-ltb rings size.rings b) refl)

    module _ (b : size.rings ≤ rings) where
      pub polygons_short : polygons < size.polygons → Err (TableTooShort Polygons) ≡ with_room size corners rings polygons
      polygons_short c = sym (rw (le-ltb corners (2 * size.corners) (omega arith), le-ltb rings size.rings b, lt-ltb polygons size.polygons c) refl)

      pub room_enough : size.polygons ≤ polygons → Ok size ≡ with_room size corners rings polygons
      room_enough c = sym (rw (le-ltb corners (2 * size.corners) (omega arith), le-ltb rings size.rings b, le-ltb polygons size.polygons c) refl)

-- ---- the numbers

module _ (corners rings polygons : ℕ) where
  pub room_number : (size : Size) → reading_number (with_room size corners rings polygons) ≡ cond (eqb (short_table size corners rings polygons) 0) 0 11
  room_number size = go (ltb corners (2 * size.corners)) (ltb rings size.rings) (ltb polygons size.polygons)
    where
      go : (a b c : Bool) → reading_number (cond a (Err (TableTooShort Corners)) (cond b (Err (TableTooShort Rings)) (cond c (Err (TableTooShort Polygons)) (Ok size)))) ≡ cond (eqb (cond a 1 (cond b 2 (cond c 3 0))) 0) 0 11
      go true b c = refl
      go false true c = refl
      go false false true = refl
      go false false false = refl

  pub room_detail : (size : Size) → reading_detail (with_room size corners rings polygons) ≡ short_table size corners rings polygons
  room_detail size = go (ltb corners (2 * size.corners)) (ltb rings size.rings) (ltb polygons size.polygons)
    where
      go : (a b c : Bool) → reading_detail (cond a (Err (TableTooShort Corners)) (cond b (Err (TableTooShort Rings)) (cond c (Err (TableTooShort Polygons)) (Ok size)))) ≡ cond a 1 (cond b 2 (cond c 3 0))
      go true b c = refl
      go false true c = refl
      go false false true = refl
      go false false false = refl

  number_of_lem : (m : Meaning) → reading_number (reading_of m corners rings polygons) ≡ number_of m corners rings polygons
  number_of_lem start_meaning = refl
  number_of_lem (gives_meaning plan) = room_number (size_of plan)
  number_of_lem (broken_meaning line) = refl

  detail_of_lem : (m : Meaning) → reading_detail (reading_of m corners rings polygons) ≡ detail_of m corners rings polygons
  detail_of_lem start_meaning = refl
  detail_of_lem (gives_meaning plan) = room_detail (size_of plan)
  detail_of_lem (broken_meaning line) = refl

  pub number_due_lem : (text : List ℕ) → reading_number (reading text corners rings polygons) ≡ number_due text corners rings polygons
  unfolding reading number_due
  number_due_lem text = go (ltb 65536 (length text))
    where
      go : (long : Bool) → reading_number (cond long (Err TextTooLong) (reading_of (meaning text) corners rings polygons)) ≡ cond long 1 (number_of (meaning text) corners rings polygons)
      go true = refl
      go false = number_of_lem (meaning text)

  pub detail_due_lem : (text : List ℕ) → reading_detail (reading text corners rings polygons) ≡ detail_due text corners rings polygons
  unfolding reading detail_due
  detail_due_lem text = go (ltb 65536 (length text))
    where
      go : (long : Bool) → reading_detail (cond long (Err TextTooLong) (reading_of (meaning text) corners rings polygons)) ≡ cond long 0 (detail_of (meaning text) corners rings polygons)
      go true = refl
      go false = detail_of_lem (meaning text)

-- ---- answer and tables

-- what the promise says, from the answer and what became of the tables
pub read_as : (text : List ℕ) (corners corners' : List ℤ) (lengths lengths' counts counts' : List ℕ) (r : Result Size Refusal) → r ≡ reading text (length corners) (length lengths) (length counts) → corners' ≡ written r (plan_in (meaning text)).coordinates corners → lengths' ≡ written r (plan_in (meaning text)).lengths lengths
    → counts' ≡ written r (plan_in (meaning text)).counts counts → PlanRead text corners corners' lengths lengths' counts counts' r
read_as text corners corners' lengths lengths' counts counts' r e x y z = record {
  answer = e;
  number = ap reading_number e ∙ number_due_lem (length corners) (length lengths) (length counts) text;
  detail = ap reading_detail e ∙ detail_due_lem (length corners) (length lengths) (length counts) text;
  corners_written = x;
  lengths_written = y;
  counts_written = z;
}

-- ---- a plan that was read

pub different : {A : Type 0} (size : Size) (refusal : Refusal) → Ok size ≡ Err refusal → A
different size refusal e = let one : ◌≡◌ {A = ℕ} 0 1 = cc in absurd (omega arith)

pub record Given (text : List ℕ) (corners rings polygons : ℕ) (size : Size) : Type 0 where
  pub plan : Plan
  pub is : meaning text ≡ gives_meaning plan
  pub counted : size ≡ size_of plan
  pub small : length text ≤ 65536
  pub ready : Ready (meaning text) corners rings polygons

-- the plan is in its text, and there is room for it
pub room_given : (corners rings polygons : ℕ) (plan : Plan) (size : Size) → length plan.coordinates ≡ 2 * total plan.lengths → Ok size ≡ with_room (size_of plan) corners rings polygons → (size ≡ size_of plan) × Ready (gives_meaning plan) corners rings polygons
room_given corners rings polygons plan size even e = go (ltb corners (2 * (size_of plan).corners)) (ltb rings (length plan.lengths)) (ltb polygons (length plan.counts)) refl refl refl e
  where
    go : (a b c : Bool) → ltb corners (2 * (size_of plan).corners) ≡ a → ltb rings (length plan.lengths) ≡ b → ltb polygons (length plan.counts) ≡ c → Ok size ≡ cond a (Err (TableTooShort Corners)) (cond b (Err (TableTooShort Rings)) (cond c (Err (TableTooShort Polygons)) (Ok (size_of plan)))) → (size ≡ size_of plan) × Ready (gives_meaning plan) corners rings polygons
    go true b c p q r h = different size (TableTooShort Corners) h
    go false true c p q r h = different size (TableTooShort Rings) h
    go false false true p q r h = different size (TableTooShort Polygons) h
    go false false false p q r h =
        let x = ltb-false corners (2 * (size_of plan).corners) p in
        let y = ltb-false rings (length plan.lengths) q in
        let z = ltb-false polygons (length plan.counts) r in
        (cc, (omega arith, omega arith, omega arith))

pub given : (text : List ℕ) (corners rings polygons : ℕ) (size : Size) → Ok size ≡ reading text corners rings polygons → Given text corners rings polygons size
unfolding reading
given text corners rings polygons size h = go (ltb 65536 (length text)) refl h
  where
    by_meaning : (m : Meaning) → meaning text ≡ m → Fine (length text) m → length text ≤ 65536 → Ok size ≡ reading_of m corners rings polygons → Given text corners rings polygons size
    by_meaning start_meaning e f s r = different size (Refusal.BadLine 1) r
    by_meaning (gives_meaning plan) e f s r =
        let g = room_given corners rings polygons plan size f.even r in
        record { plan = plan; is = e; counted = g.0; small = s; ready = subst (λ m. Ready m corners rings polygons) (sym e) g.1 }
    by_meaning (broken_meaning line) e f s r = different size (Refusal.BadLine line) r

    go : (b : Bool) → ltb 65536 (length text) ≡ b → Ok size ≡ cond b (Err TextTooLong) (reading_of (meaning text) corners rings polygons) → Given text corners rings polygons size
    go true e r = different size TextTooLong r
    go false e r = by_meaning (meaning text) refl (meaning_fine text) (ltb-false 65536 (length text) e) r
