-- The ways out of reading, and what then stands in the tables. Assumes nothing.
use mathlib.Core.Path.{◌≡◌, refl, sym, ap, subst, ◌∙◌}
use mathlib.Core.Bool.{Bool, true, false, cond}
use mathlib.Core.List.{List, []}
use Prim.Native.Nat.{ℕ, ◌+◌, ◌/◌, ◌≤◌, ◌<◌}
use native.Mathlib.Omega.{arith}
use lib.Dec.{eqb, ltb}
use lib.IntN.{ℤ}
use lib.ListN.{length}
use borrow.Author.Tests.{lt-ltb, le-ltb, ltb-false}
use Rattle.rules.specs.declared.Kind.TheVariants.{Polygons}
use Rattle.rules.specs.declared.Refusal.TheVariants.{TextTooLong, OffGrammar, Unclosed}
use Rattle.rules.specs.Lists.{total}
use Rattle.lines.specs.declared.Size.{Size}
use Rattle.lines.specs.Plans.{size_of}
use Rattle.lines.specs.Stored.{starting_with}
use Rattle.text.specs.Readings.{reading_number, reading_detail, with_room, short_table, written}
use Rattle.text.proofs.Answers.{room_number, room_detail, room_given, different}
use Rattle.grammar.specs.Grammar.{Polygon}
use Rattle.grammar.specs.Modes.{start_mode}
use Rattle.grammar.specs.Spellings.{Spelling, spells, breaks}
use Rattle.grammar.specs.Scans.{spelling}
use Rattle.grammar.specs.Plans.{every_closed, coordinates, plan_spelt}
use Rattle.grammar.specs.Plans as Plans
use Rattle.grammar.proofs.Means.{means}
use Rattle.grammar.proofs.Tables.{coordinates_twice}
use Rattle.scanner.specs.declared.Extent.{Extent}
use Rattle.std.specs.Prelude.{Result, Ok, Err}
use Rattle.grammar.specs.declared.OffGrammar as Off
use Rattle.scanner.specs.Puts.{put}
use Rattle.scanner.specs.Scanned.{TextScanned}
use Rattle.scanner.proofs.Puts.{put_all}
use Rattle.wkt.specs.Readings.{plan_in, reading_of, reading, number_of, detail_of, number_due, detail_due, WktRead, Judged, judged_reading}
use Rattle.rules.specs.declared.Refusal.{Refusal}

-- ---- judging

pub judged : (text : List ℕ) (c c' : List ℤ) (l l' n n' : List ℕ) (r : Result Extent Off.OffGrammar) → TextScanned text 0 start_mode c c' l l' n n' r → Judged text r
unfolding spelling
judged text c c' l l' n n' (Ok e) g = (g.polygons, g.means, g.adds.counted)
judged text c c' l l' n n' (Err off) g = g

size_is : (polygons : List Polygon) → ◌≡◌ {A = Size} (record { kind = Polygons; corners = 0 + total (Plans.lengths polygons); rings = 0 + length (Plans.lengths polygons); polygons = 0 + length (Plans.counts polygons) }) (size_of (plan_spelt polygons))
size_is polygons =
    let t = coordinates_twice polygons in
    let c : 0 + total (Plans.lengths polygons) ≡ length (coordinates polygons) / 2 = omega arith in
    let r : 0 + length (Plans.lengths polygons) ≡ length (Plans.lengths polygons) = omega arith in
    let p : 0 + length (Plans.counts polygons) ≡ length (Plans.counts polygons) = omega arith in
    λ i. record { kind = Polygons; corners = c i; rings = r i; polygons = p i }

module _ (text : List ℕ) (corners rings counts : ℕ) where
  pub too_long : 65536 < length text → Err TextTooLong ≡ reading text corners rings counts
  unfolding reading
  too_long h = sym (ap (λ b. cond b (Err TextTooLong) (reading_of (spelling text) corners rings counts)) (lt-ltb 65536 (length text) h))

  module _ (h : length text ≤ 65536) where
    short_enough : reading_of (spelling text) corners rings counts ≡ reading text corners rings counts
    unfolding reading
    short_enough = sym (ap (λ b. cond b (Err TextTooLong) (reading_of (spelling text) corners rings counts)) (le-ltb 65536 (length text) h))

    pub off : (off : Off.OffGrammar) → Judged text (Err off) → Err (OffGrammar off.place) ≡ reading text corners rings counts
    off o g = ap (λ s. reading_of s corners rings counts) (sym g) ∙ short_enough

    pub on : (e : Extent) → Judged text (Ok e) → judged_reading e corners rings counts ≡ reading text corners rings counts
    on e g =
        ap (λ e. judged_reading e corners rings counts) g.2
        ∙ ap (λ size. cond (every_closed g.0) (with_room size corners rings counts) (Err Unclosed)) (size_is g.0)
        ∙ ap (λ s. reading_of s corners rings counts) (sym g.1)
        ∙ short_enough

-- ---- the numbers

module _ (corners rings counts : ℕ) where
  number_of_lem : (s : Spelling) → reading_number (reading_of s corners rings counts) ≡ number_of s corners rings counts
  number_of_lem (spells polygons) = go (every_closed polygons)
    where
      go : (b : Bool) → reading_number (cond b (with_room (size_of (plan_spelt polygons)) corners rings counts) (Err Unclosed)) ≡ cond b (cond (eqb (short_table (size_of (plan_spelt polygons)) corners rings counts) 0) 0 11) 22
      go true = room_number corners rings counts (size_of (plan_spelt polygons))
      go false = refl
  number_of_lem (breaks place) = refl

  detail_of_lem : (s : Spelling) → reading_detail (reading_of s corners rings counts) ≡ detail_of s corners rings counts
  detail_of_lem (spells polygons) = go (every_closed polygons)
    where
      go : (b : Bool) → reading_detail (cond b (with_room (size_of (plan_spelt polygons)) corners rings counts) (Err Unclosed)) ≡ cond b (short_table (size_of (plan_spelt polygons)) corners rings counts) 0
      go true = room_detail corners rings counts (size_of (plan_spelt polygons))
      go false = refl
  detail_of_lem (breaks place) = refl

  number_due_lem : (text : List ℕ) → reading_number (reading text corners rings counts) ≡ number_due text corners rings counts
  unfolding reading number_due
  number_due_lem text = go (ltb 65536 (length text))
    where
      go : (long : Bool) → reading_number (cond long (Err TextTooLong) (reading_of (spelling text) corners rings counts)) ≡ cond long 1 (number_of (spelling text) corners rings counts)
      go true = refl
      go false = number_of_lem (spelling text)

  detail_due_lem : (text : List ℕ) → reading_detail (reading text corners rings counts) ≡ detail_due text corners rings counts
  unfolding reading detail_due
  detail_due_lem text = go (ltb 65536 (length text))
    where
      go : (long : Bool) → reading_detail (cond long (Err TextTooLong) (reading_of (spelling text) corners rings counts)) ≡ cond long 0 (detail_of (spelling text) corners rings counts)
      go true = refl
      go false = detail_of_lem (spelling text)

-- ---- answer and tables

pub read_as : (text : List ℕ) (c c' : List ℤ) (l l' n n' : List ℕ) (r : Result Size Refusal) → r ≡ reading text (length c) (length l) (length n) → c' ≡ written r (plan_in (spelling text)).coordinates c → l' ≡ written r (plan_in (spelling text)).lengths l → n' ≡ written r (plan_in (spelling text)).counts n → WktRead text c c' l l' n n' r
read_as text c c' l l' n n' r e x y z =
    record {
      answer = e;
      number = ap reading_number e ∙ number_due_lem (length c) (length l) (length n) text;
      detail = ap reading_detail e ∙ detail_due_lem (length c) (length l) (length n) text;
      means = means text;
      corners_written = x;
      lengths_written = y;
      counts_written = z;
    }

-- a plan that is read: it is spelt and closed, and there is room
pub record Given (text : List ℕ) (corners rings counts : ℕ) (size : Size) : Type 0 where
  pub polygons : List Polygon
  pub is : spelling text ≡ spells polygons
  pub closed : every_closed polygons ≡ true
  pub counted : size ≡ size_of (plan_spelt polygons)
  pub small : length text ≤ 65536
  pub corners_room : length (coordinates polygons) ≤ corners
  pub rings_room : length (Plans.lengths polygons) ≤ rings
  pub counts_room : length (Plans.counts polygons) ≤ counts

pub given : (text : List ℕ) (corners rings counts : ℕ) (size : Size) → Ok size ≡ reading text corners rings counts → Given text corners rings counts size
unfolding reading
given text corners rings counts size h = go (ltb 65536 (length text)) refl h
  where
    by_closed : (polygons : List Polygon) (b : Bool) → spelling text ≡ spells polygons → every_closed polygons ≡ b → length text ≤ 65536 → Ok size ≡ cond b (with_room (size_of (plan_spelt polygons)) corners rings counts) (Err Unclosed) → Given text corners rings counts size
    by_closed polygons true e b s r =
        let g = room_given corners rings counts (plan_spelt polygons) size (coordinates_twice polygons) r in
        record { polygons = polygons; is = e; closed = b; counted = g.0; small = s; corners_room = g.1.0; rings_room = g.1.1; counts_room = g.1.2 }
    by_closed polygons false e b s r = different size Unclosed r

    by_spelling : (s : Spelling) → spelling text ≡ s → length text ≤ 65536 → Ok size ≡ reading_of s corners rings counts → Given text corners rings counts size
    by_spelling (spells polygons) e s r = by_closed polygons (every_closed polygons) e refl s r
    by_spelling (breaks place) e s r = different size (OffGrammar place) r

    go : (b : Bool) → ltb 65536 (length text) ≡ b → Ok size ≡ cond b (Err TextTooLong) (reading_of (spelling text) corners rings counts) → Given text corners rings counts size
    go true e r = different size TextTooLong r
    go false e r = by_spelling (spelling text) refl (ltb-false 65536 (length text) e) r

abbrev IsSpelt : Spelling → Type 0
IsSpelt (spells polygons) = Unit {0}
IsSpelt (breaks place) = ⊥

abbrev polygons_in : Spelling → List Polygon
polygons_in (spells polygons) = polygons
polygons_in (breaks place) = []

module _ (text : List ℕ) (c c' : List ℤ) (l l' n n' : List ℕ) (size : Size) (h : Ok size ≡ reading text (length c) (length l) (length n)) where
  was : Given text (length c) (length l) (length n) size
  was = given text (length c) (length l) (length n) size h

  -- a table in which a list was put from its start
  held : {A : Type 0} (xs ys table table' : List A) → xs ≡ ys → length xs ≤ length table → table' ≡ put 0 ys table → table' ≡ starting_with xs table
  held xs ys table table' e r p = p ∙ ap (λ zs. put 0 zs table) (sym e) ∙ put_all xs table r

  pub stored : (r : Result Extent Off.OffGrammar) → TextScanned text 0 start_mode c c' l l' n n' r → WktRead text c c' l l' n n' (Ok size)
  unfolding spelling
  stored (Ok e) g =
      let same : was.polygons ≡ g.polygons = ap polygons_in (sym was.is ∙ g.means) in
      let plan : plan_in (spelling text) ≡ plan_spelt was.polygons = ap plan_in was.is in
      read_as text c c' l l' n n' (Ok size) h
      (held (coordinates was.polygons) (coordinates g.polygons) c c' (ap coordinates same) was.corners_room g.adds.corners_put ∙ ap (λ p. starting_with p.coordinates c) (sym plan))
      (held (Plans.lengths was.polygons) (Plans.lengths g.polygons) l l' (ap Plans.lengths same) was.rings_room g.adds.lengths_put ∙ ap (λ p. starting_with p.lengths l) (sym plan))
      (held (Plans.counts was.polygons) (Plans.counts g.polygons) n n' (ap Plans.counts same) was.counts_room g.adds.counts_put ∙ ap (λ p. starting_with p.counts n) (sym plan))
  stored (Err off) g = absurd (subst IsSpelt (sym was.is ∙ g) tt)
