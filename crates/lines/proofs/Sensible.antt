-- A plan that lines give fits together, and it cannot be large: every line takes its bytes. Assumes nothing.
use mathlib.Core.Path.{◌≡◌, refl, sym, ap, subst, ◌∙◌}
use mathlib.Core.Bool.{Bool, true, false, cond, not, ◌&&◌, ◌||◌, true≢false}
use mathlib.Core.List.{List, [], ◌∷◌, ◌++◌}
use Prim.Native.Nat.{ℕ, zero, suc, ◌+◌, ◌*◌, ◌≤◌, ◌<◌}
use native.Mathlib.Omega.{arith}
use lib.Dec.{eqb, ltb, eqb-suc-zero}
use lib.ListN.{length, get_or}
use Rattle.std.specs.Prelude.{Option, Some, None}
use borrow.Author.Tests.{ltb-true}
use Rattle.fields.specs.Pieces.{split}
use Rattle.rules.specs.declared.Kind.TheVariants.{Polygons}
use Rattle.rules.specs.Lists.{any_of, total}
use Rattle.rules.specs.Plans.{Plan, is_list}
use Rattle.lines.specs.declared.records.Record.{Record}
use Rattle.lines.specs.declared.records.Record.TheVariants.{Header, Outer, Hole, Node, Corner}
use Rattle.lines.specs.Records.{record_of}
use Rattle.lines.specs.Plans.{Meaning, start_meaning, gives_meaning, broken_meaning, size_of, empty_plan, last_one_more, grown, is_header, allowed, after_line, at_end, after_lines, meaning}
use Rattle.lines.proofs.Counting.{one_longer, two_longer, as_long}
use Rattle.lines.proofs.Spans.{span, span_split, least, row_bytes}

-- ---- lists of counts

pub total_append : (ns : List ℕ) (n : ℕ) → total (ns ++ n ∷ []) ≡ total ns + n
unfolding total
total_append [] n = omega arith
total_append (m ∷ ns) n = let h = total_append ns n in omega arith

pub total_more : (ns : List ℕ) → 0 < length ns → total (last_one_more ns) ≡ total ns + 1
unfolding total last_one_more
total_more [] h = absurd (omega arith)
total_more (n ∷ []) h = omega arith
total_more (n ∷ m ∷ ns) h = let rest = total_more (m ∷ ns) (omega arith) in omega arith

pub part_of_total : (ns : List ℕ) (i : ℕ) → get_or ns i 0 ≤ total ns
unfolding total
part_of_total [] i = omega arith
part_of_total (n ∷ ns) zero = omega arith
part_of_total (n ∷ ns) (suc i) = let h = part_of_total ns i in omega arith

abbrev is_zero : ℕ → Bool
is_zero n = eqb n 0

none_append : (ns : List ℕ) → any_of is_zero ns ≡ false → any_of is_zero (ns ++ 1 ∷ []) ≡ false
unfolding any_of
none_append [] h = refl
none_append (n ∷ ns) h = go (is_zero n) h (λ g. none_append ns g)
  where
    go : (b : Bool) → (b || any_of is_zero ns) ≡ false → (any_of is_zero ns ≡ false → any_of is_zero (ns ++ 1 ∷ []) ≡ false) → (b || any_of is_zero (ns ++ 1 ∷ [])) ≡ false
    go true g rest = absurd (true≢false g)
    go false g rest = rest g

none_more : (ns : List ℕ) → any_of is_zero ns ≡ false → any_of is_zero (last_one_more ns) ≡ false
unfolding any_of last_one_more
none_more [] h = refl
none_more (n ∷ []) h = ap (λ b. b || false) (eqb-suc-zero n)
none_more (n ∷ m ∷ ns) h = go (is_zero n) h (λ g. none_more (m ∷ ns) g)
  where
    go : (b : Bool) → (b || any_of is_zero (m ∷ ns)) ≡ false → (any_of is_zero (m ∷ ns) ≡ false → any_of is_zero (last_one_more (m ∷ ns)) ≡ false) → (b || any_of is_zero (last_one_more (m ∷ ns))) ≡ false
    go true g rest = absurd (true≢false g)
    go false g rest = rest g

-- as many numbers, none of them 0, sum to as much or more
few_of_total : (ns : List ℕ) → any_of is_zero ns ≡ false → length ns ≤ total ns
unfolding any_of total
few_of_total [] h = omega arith
few_of_total (zero ∷ ns) h = absurd (true≢false h)
few_of_total (suc n ∷ ns) h = let rest = few_of_total ns (sym (ap (λ b. b || any_of is_zero ns) (eqb-suc-zero n)) ∙ h) in omega arith

-- ---- the plan so far, n bytes on

pub record Sensible (n : ℕ) (plan : Plan) : Type 0 where
  pub bytes : 5 + 7 * total plan.lengths + 5 * length plan.lengths + length plan.counts ≤ n
  pub even : length plan.coordinates ≡ 2 * total plan.lengths
  pub rings : is_list plan.kind ≡ true → total plan.counts ≡ length plan.lengths
  pub polygons : any_of is_zero plan.counts ≡ false
  pub no_polygons : is_list plan.kind ≡ false → length plan.counts ≡ 0

pub fewer_polygons : (n : ℕ) (plan : Plan) → Sensible n plan → length plan.counts ≤ length plan.lengths
fewer_polygons n plan g = go (is_list plan.kind) refl
  where
    go : (b : Bool) → is_list plan.kind ≡ b → length plan.counts ≤ length plan.lengths
    go true e = let h = few_of_total plan.counts g.polygons in let r = g.rings e in omega arith
    go false e = let h = g.no_polygons e in omega arith

first_of : (b c : Bool) → (b && c) ≡ true → (b ≡ true) × (c ≡ true)
first_of true c e = (refl, e)
first_of false true e = (e, refl)
first_of false false e = (e, e)

is_not : (b : Bool) → not b ≡ true → b ≡ true → ⊥
is_not true e h = true≢false (sym e)
is_not false e h = true≢false (sym h)

wrong : {A : Type 0} (b : Bool) → b ≡ true → b ≡ false → A
wrong b e h = absurd (true≢false (sym e ∙ h))

-- an allowed line keeps it so
pub still_sensible : (n size : ℕ) (plan : Plan) (row : Record) → allowed (size_of plan) row ≡ true → Sensible n plan → least (Some row) ≤ size → Sensible (n + size + 1) (grown plan row)
unfolding grown
still_sensible n size plan (Header kind) ok g h = wrong false ok refl
still_sensible n size plan Outer ok g h =
    let a = one_longer plan.lengths 0 in
    let b = one_longer plan.counts 1 in
    let c = total_append plan.lengths 0 in
    let d = total_append plan.counts 1 in
    record {
      bytes = omega (arith, g.bytes);
      even = omega (arith, g.even);
      rings = λ e. omega (arith, g.rings e);
      polygons = none_append plan.counts g.polygons;
      no_polygons = λ e. wrong (is_list plan.kind) ok e;
    }
still_sensible n size plan Hole ok g h =
    let both = first_of (is_list plan.kind) (ltb 0 (length plan.counts)) ok in
    let some = ltb-true 0 (length plan.counts) both.1 in
    let a = one_longer plan.lengths 0 in
    let b = as_long plan.counts in
    let c = total_append plan.lengths 0 in
    let d = total_more plan.counts some in
    record {
      bytes = omega (arith, g.bytes);
      even = omega (arith, g.even);
      rings = λ e. omega (arith, g.rings e);
      polygons = none_more plan.counts g.polygons;
      no_polygons = λ e. wrong (is_list plan.kind) both.0 e;
    }
still_sensible n size plan Node ok g h =
    let a = one_longer plan.lengths 0 in
    let c = total_append plan.lengths 0 in
    record {
      bytes = omega (arith, g.bytes);
      even = omega (arith, g.even);
      rings = λ e. absurd (is_not (is_list plan.kind) ok e);
      polygons = g.polygons;
      no_polygons = g.no_polygons;
    }
still_sensible n size plan (Corner p) ok g h =
    let some = ltb-true 0 (length plan.lengths) ok in
    let a = two_longer plan.coordinates p.x p.y in
    let b = as_long plan.lengths in
    let c = total_more plan.lengths some in
    record {
      bytes = omega (arith, g.bytes);
      even = omega (arith, g.even);
      rings = λ e. omega (arith, g.rings e);
      polygons = g.polygons;
      no_polygons = g.no_polygons;
    }

-- a header begins it
pub sensible_start : (n size : ℕ) (plan : Plan) (row : Record) → is_header row ≡ true → least (Some row) ≤ size → Sensible (n + size + 1) (grown plan row)
unfolding grown total any_of
sensible_start n size plan (Header kind) ok h = record { bytes = omega arith; even = refl; rings = λ e. refl; polygons = refl; no_polygons = λ e. refl }
sensible_start n size plan Outer ok h = wrong false ok refl
sensible_start n size plan Hole ok h = wrong false ok refl
sensible_start n size plan Node ok h = wrong false ok refl
sensible_start n size plan (Corner p) ok h = wrong false ok refl

-- ---- the meaning so far

abbrev pub Fine : ℕ → Meaning → Type 0
Fine n start_meaning = Unit {0}
Fine n (gives_meaning plan) = Sensible n plan
Fine n (broken_meaning line) = Unit {0}

pub fine_line : (k n size : ℕ) (so_far : Meaning) (said : Option Record) → Fine n so_far → least said ≤ size → Fine (n + size + 1) (after_line k so_far said)
fine_line k n size start_meaning None g h = tt
fine_line k n size start_meaning (Some row) g h = go (is_header row) refl
  where
    go : (b : Bool) → is_header row ≡ b → Fine (n + size + 1) (cond b (gives_meaning (grown (empty_plan Polygons) row)) (broken_meaning k))
    go true e = sensible_start n size (empty_plan Polygons) row e h
    go false e = tt
fine_line k n size (gives_meaning plan) None g h = tt
fine_line k n size (gives_meaning plan) (Some row) g h = go (allowed (size_of plan) row) refl
  where
    go : (b : Bool) → allowed (size_of plan) row ≡ b → Fine (n + size + 1) (cond b (gives_meaning (grown plan row)) (broken_meaning k))
    go true e = still_sensible n size plan row e g h
    go false e = tt
fine_line k n size (broken_meaning j) said g h = tt

more_bytes : (n m : ℕ) (plan : Plan) → n ≤ m → Sensible n plan → Sensible m plan
more_bytes n m plan h g = record { bytes = omega (arith, g.bytes); even = g.even; rings = g.rings; polygons = g.polygons; no_polygons = g.no_polygons }

fine_end : (k n : ℕ) (so_far : Meaning) (last : List ℕ) → Fine n so_far → Fine (n + length last) (at_end k so_far last)
fine_end k n start_meaning last g = tt
fine_end k n (gives_meaning plan) [] g = more_bytes n (n + 0) plan (omega arith) g
fine_end k n (gives_meaning plan) (x ∷ xs) g = tt
fine_end k n (broken_meaning j) last g = tt

fine_lines : (k n : ℕ) (so_far : Meaning) (pieces : List (List ℕ)) → Fine n so_far → Fine (n + span pieces) (after_lines k so_far pieces)
unfolding after_lines span
fine_lines k n so_far [] g = subst (λ m. Fine m so_far) (plus_none n) g
  where
    plus_none : (n : ℕ) → n ≡ n + 0
    plus_none n = omega arith
fine_lines k n so_far (last ∷ []) g = fine_end k n so_far last g
fine_lines k n so_far (line ∷ next ∷ pieces) g =
    let bytes : n + length line + 1 + span (next ∷ pieces) ≡ n + (length line + 1 + span (next ∷ pieces)) = omega arith in
    subst (λ m. Fine m (after_lines (suc k) (after_line k so_far (record_of (split 9 line))) (next ∷ pieces))) bytes
    (fine_lines (suc k) (n + length line + 1) (after_line k so_far (record_of (split 9 line))) (next ∷ pieces) (fine_line k n (length line) so_far (record_of (split 9 line)) g (row_bytes line)))

-- every text's plan fits together and has bytes for all that is in it
pub meaning_fine : (text : List ℕ) → Fine (length text) (meaning text)
unfolding meaning
meaning_fine text =
    let bytes : 0 + span (split 10 text) ≡ length text = let e = span_split 10 text in omega arith in
    subst (λ m. Fine m (meaning text)) bytes (fine_lines 1 0 start_meaning (split 10 text) tt)
