-- Every text of the grammar leads to a mode in which it may end, with its polygons built. Assumes nothing.
use mathlib.Core.Path.{◌≡◌, refl, ap, ap₂, sym, ◌∙◌}
use mathlib.Core.Bool.{Bool, true, false, cond, true≢false}
use mathlib.Core.List.{List, [], ◌∷◌, ◌++◌, append_assoc, append-nil}
use Prim.Native.Nat.{ℕ, zero, suc, ◌+◌, ◌-◌, ◌*◌, ◌/◌, ◌%◌, ◌^◌, ◌≤◌, ◌<◌}
use native.Mathlib.Omega.{arith}
use lib.Dec.{eqb, ltb}
use lib.IntN.{ℤ, pos, negsuc}
use borrow.Author.Tests.{ne_eqb, le-leb, lt-ltb, ltb-true, ltb-false}
use Rattle.fields.specs.Decimals.{digits, decimal, fits_word}
use Rattle.fields.proofs.Decimals.{digits_one, digits_more}
use Rattle.grammar.specs.Words.{polygon, multipolygon, empty}
use Rattle.grammar.specs.Grammar.{Ring, Polygon, Spaces, none, more, Mark, round, Pair, pair, Rest, close, next, Bracketed, bracketed, RingText, PolygonText, Member, full, bare, kept, Text, one, one_empty, many, many_empty, Begins}
use Rattle.geom.specs.declared.Point.{Point}
use Rattle.grammar.specs.Numbers.{Whole, Begun, minus_begun, value_begun, off_begun, is_digit, value_of, whole_of, plain, under, fitting, first_byte, next_digit}
use Rattle.grammar.specs.Modes.{Mode, start_mode, word_mode, spaced_mode, empty_text_mode, want_member_mode, empty_member_mode, after_member_mode, want_ring_mode, want_x_mode, in_x_mode, want_y_mode, in_y_mode, after_y_mode, after_ring_mode, finished_mode, broken_mode, nothing_event, corner_event, ring_ends_event, begun_x, begun_y, end_x, end_y, y_event, next_mode, event_of}
use Rattle.grammar.specs.Scans.{SoFar, nothing, point_of, built, may_end, is_broken, place_of}
use Rattle.grammar.proofs.Digits.{digit_range}
use Rattle.grammar.proofs.Completions.{mode_after}

-- a mode with what has been built
pub record State : Type 0 where
  pub mode : Mode
  pub built_so_far : SoFar

abbrev pub at : Mode → SoFar → State
at mode f = record { mode = mode; built_so_far = f }

unfoldable pub step : State → ℕ → State
step st b = at (next_mode st.mode b) (built st.built_so_far (event_of st.mode b))

unfoldable pub run : State → List ℕ → State
run st [] = st
run st (b ∷ bytes) = run (step st b) bytes

pub run_append : (st : State) (a b : List ℕ) → run st (a ++ b) ≡ run (run st a) b
unfolding run
run_append st [] b = refl
run_append st (x ∷ a) b = run_append (step st x) a b

run_spaces : (st : State) {a : List ℕ} → step st 32 ≡ st → Spaces a → run st a ≡ st
unfolding run
run_spaces st e none = refl
run_spaces st e (more {s} h) = ap (λ z. run z s) e ∙ run_spaces st e h

run_mark : (st after : State) (c : ℕ) {m : List ℕ} → step st 32 ≡ st → step st c ≡ after → step after 32 ≡ after → Mark c m → run st m ≡ after
unfolding run
run_mark st after c e f g (round {a} {b} h k) = run_append st a (c ∷ b) ∙ ap (λ z. run z (c ∷ b)) (run_spaces st e h) ∙ ap (λ z. run z b) f ∙ run_spaces after g k

-- ---- numbers

digit_is : (d : ℕ) → d < 10 → is_digit (48 + d) ≡ true
digit_is d h = rw (le-leb 48 (48 + d) (omega arith), le-leb (48 + d) 57 (omega arith)) refl

less : (d : ℕ) → 48 + d - 48 ≡ d
less d = omega arith

first_digit : (d : ℕ) → d < 10 → first_byte (48 + d) ≡ value_begun (plain d)
first_digit d h = rw (ne_eqb (48 + d) 45 (λ e. omega arith), digit_is d h, less d) refl

value_back : (z : ℤ) → value_of (whole_of z) ≡ z
value_back (pos n) = refl
value_back (negsuc n) = refl

pub point_back : (p : Point) → point_of (place_of p) ≡ p
point_back p = ap₂ (λ x y. record { x = x; y = y }) (value_back p.x) (value_back p.y)

module _ (W : State) (K : Begun → State) (starts : (b : ℕ) → eqb b 32 ≡ false → step W b ≡ K (first_byte b)) (goes : (n : Begun) (b : ℕ) → is_digit b ≡ true → step (K n) b ≡ K (next_digit n (b - 48))) where
  start_digit : (d : ℕ) → d < 10 → step W (48 + d) ≡ K (value_begun (plain d))
  start_digit d h = starts (48 + d) (ne_eqb (48 + d) 32 (λ e. omega arith)) ∙ ap K (first_digit d h)

  go_digit : (n : Begun) (d : ℕ) → d < 10 → step (K n) (48 + d) ≡ K (next_digit n d)
  go_digit n d h = goes n (48 + d) (digit_is d h) ∙ ap (λ k. K (next_digit n k)) (less d)

  up_digit : (q d n : ℕ) → d < 10 → 1 ≤ q → q * 10 + d ≡ n → n < 2 ^ 63 → K (next_digit (value_begun (plain q)) d) ≡ K (value_begun (plain n))
  up_digit zero d n h k e f = absurd (omega arith)
  up_digit (suc q) d n h k e f = ap (λ z. K (fitting (plain z))) e ∙ ap (λ t. K (cond t (value_begun (plain n)) off_begun)) (lt-ltb n (2 ^ 63) f)

  down_digit : (q d n : ℕ) → d < 10 → suc q * 10 + d ≡ suc n → n < 2 ^ 63 → K (next_digit (value_begun (under q)) d) ≡ K (value_begun (under n))
  down_digit q d n h e f =
      let same : q * 10 + 9 + d ≡ n = omega arith in
      ap (λ z. K (fitting (under z))) same ∙ ap (λ t. K (cond t (value_begun (under n)) off_begun)) (lt-ltb n (2 ^ 63) f)

  plain_run : (bound n : ℕ) → n ≤ bound → n < 2 ^ 63 → run W (digits n) ≡ K (value_begun (plain n))
  unfolding run
  plain_run zero zero h f = ap (run W) (digits_one 0 (omega arith)) ∙ start_digit 0 (omega arith)
  plain_run zero (suc n) h f = absurd (omega arith)
  plain_run (suc bound) n h f = go (ltb n 10) refl (λ m small. plain_run bound m small)
    where
      go : (b : Bool) → ltb n 10 ≡ b → ((m : ℕ) → m ≤ bound → m < 2 ^ 63 → run W (digits m) ≡ K (value_begun (plain m))) → run W (digits n) ≡ K (value_begun (plain n))
      go true e rec = let l = ltb-true n 10 e in ap (run W) (digits_one n l) ∙ start_digit n l
      go false e rec =
          let l = ltb-false n 10 e in
          let whole : n / 10 * 10 + n % 10 ≡ n = omega arith in
          ap (run W) (digits_more n l)
          ∙ run_append W (digits (n / 10)) ((48 + n % 10) ∷ [])
          ∙ ap (λ z. run z ((48 + n % 10) ∷ [])) (rec (n / 10) (omega arith) (omega arith))
          ∙ go_digit (value_begun (plain (n / 10))) (n % 10) (omega arith)
          ∙ up_digit (n / 10) (n % 10) n (omega arith) (omega arith) whole f

  minus_run : (bound n : ℕ) → n ≤ bound → n < 2 ^ 63 → run (K minus_begun) (digits (suc n)) ≡ K (value_begun (under n))
  unfolding run
  minus_run zero zero h f = ap (run (K minus_begun)) (digits_one 1 (omega arith)) ∙ go_digit minus_begun 1 (omega arith)
  minus_run zero (suc n) h f = absurd (omega arith)
  minus_run (suc bound) n h f = go (ltb (suc n) 10) refl (λ m small. minus_run bound m small)
    where
      rest : (q : ℕ) → suc n / 10 ≡ suc q → 10 ≤ suc n → ((m : ℕ) → m ≤ bound → m < 2 ^ 63 → run (K minus_begun) (digits (suc m)) ≡ K (value_begun (under m))) → run (K minus_begun) (digits (suc n)) ≡ K (value_begun (under n))
      rest q e l rec =
          let whole : suc q * 10 + suc n % 10 ≡ suc n = omega arith in
          ap (run (K minus_begun)) (digits_more (suc n) l)
          ∙ run_append (K minus_begun) (digits (suc n / 10)) ((48 + suc n % 10) ∷ [])
          ∙ ap (λ k. run (run (K minus_begun) (digits k)) ((48 + suc n % 10) ∷ [])) e
          ∙ ap (λ z. run z ((48 + suc n % 10) ∷ [])) (rec q (omega arith) (omega arith))
          ∙ go_digit (value_begun (under q)) (suc n % 10) (omega arith)
          ∙ down_digit q (suc n % 10) n (omega arith) whole f

      split : (k : ℕ) → suc n / 10 ≡ k → 10 ≤ suc n → ((m : ℕ) → m ≤ bound → m < 2 ^ 63 → run (K minus_begun) (digits (suc m)) ≡ K (value_begun (under m))) → run (K minus_begun) (digits (suc n)) ≡ K (value_begun (under n))
      split zero e l rec = absurd (omega arith)
      split (suc q) e l rec = rest q e l rec

      go : (b : Bool) → ltb (suc n) 10 ≡ b → ((m : ℕ) → m ≤ bound → m < 2 ^ 63 → run (K minus_begun) (digits (suc m)) ≡ K (value_begun (under m))) → run (K minus_begun) (digits (suc n)) ≡ K (value_begun (under n))
      go true e rec = let l = ltb-true (suc n) 10 e in ap (run (K minus_begun)) (digits_one (suc n) l) ∙ go_digit minus_begun (suc n) l
      go false e rec = split (suc n / 10) refl (ltb-false (suc n) 10 e) rec

  number_run : (z : ℤ) → fits_word z ≡ true → run W (decimal z) ≡ K (value_begun (whole_of z))
  unfolding run decimal
  number_run (pos n) h = plain_run n n (omega arith) (ltb-true n (2 ^ 63) h)
  number_run (negsuc n) h = ap (λ z. run z (digits (suc n))) (starts 45 refl) ∙ minus_run n n (omega arith) (ltb-true n (2 ^ 63) h)

-- a digit ends nothing
quiet : (x : Whole) (n : Begun) (b : ℕ) → is_digit b ≡ true → y_event x n b ≡ nothing_event
quiet x minus_begun b e = refl
quiet x (value_begun y) b e =
    let r = digit_range b e in
    let comma : b ≡ 44 → ⊥ = λ h. omega (arith, r.0) in
    let bracket : b ≡ 41 → ⊥ = λ h. omega (arith, r.0) in
    rw (ne_eqb b 44 comma, ne_eqb b 41 bracket) refl
quiet x off_begun b e = refl

x_starts : (multi : Bool) (f : SoFar) (b : ℕ) → eqb b 32 ≡ false → step (at (want_x_mode multi) f) b ≡ at (begun_x multi (first_byte b)) f
unfolding step next_mode event_of
x_starts multi f b e = ap (λ c. at (cond c (want_x_mode multi) (begun_x multi (first_byte b))) f) e

x_goes : (multi : Bool) (f : SoFar) (n : Begun) (b : ℕ) → is_digit b ≡ true → step (at (begun_x multi n) f) b ≡ at (begun_x multi (next_digit n (b - 48))) f
unfolding step next_mode event_of
x_goes multi f minus_begun b e = ap (λ c. at (cond c (begun_x multi (next_digit minus_begun (b - 48))) (end_x multi minus_begun b)) f) e
x_goes multi f (value_begun z) b e = ap (λ c. at (cond c (begun_x multi (next_digit (value_begun z) (b - 48))) (end_x multi (value_begun z) b)) f) e
x_goes multi f off_begun b e = refl

y_starts : (multi : Bool) (x : Whole) (f : SoFar) (b : ℕ) → eqb b 32 ≡ false → step (at (want_y_mode multi x) f) b ≡ at (begun_y multi x (first_byte b)) f
unfolding step next_mode event_of
y_starts multi x f b e = ap (λ c. at (cond c (want_y_mode multi x) (begun_y multi x (first_byte b))) f) e

y_goes : (multi : Bool) (x : Whole) (f : SoFar) (n : Begun) (b : ℕ) → is_digit b ≡ true → step (at (begun_y multi x n) f) b ≡ at (begun_y multi x (next_digit n (b - 48))) f
unfolding step next_mode event_of
y_goes multi x f minus_begun b e = ap (λ c. at (cond c (begun_y multi x (next_digit minus_begun (b - 48))) (end_y multi x minus_begun b)) f) e
y_goes multi x f (value_begun y) b e =
    ap (λ c. at (cond c (begun_y multi x (next_digit (value_begun y) (b - 48))) (end_y multi x (value_begun y) b)) (built f (y_event x (value_begun y) b))) e
    ∙ ap (λ v. at (begun_y multi x (next_digit (value_begun y) (b - 48))) (built f v)) (quiet x (value_begun y) b e)
y_goes multi x f off_begun b e = refl

-- ---- positions and rings

pair_run : (multi : Bool) (f : SoFar) (p : Point) {s : List ℕ} → Pair p s → run (at (want_x_mode multi) f) s ≡ at (in_y_mode multi (whole_of p.x) (value_begun (whole_of p.y))) f
unfolding run step next_mode event_of
pair_run multi f p (pair x y {a} h k sp) =
    run_append (at (want_x_mode multi) f) (decimal x) (32 ∷ (a ++ decimal y))
    ∙ ap (λ z. run z (32 ∷ (a ++ decimal y))) (number_run (at (want_x_mode multi) f) (λ n. at (begun_x multi n) f) (x_starts multi f) (x_goes multi f) x h)
    ∙ run_append (at (want_y_mode multi (whole_of x)) f) a (decimal y)
    ∙ ap (λ z. run z (decimal y)) (run_spaces (at (want_y_mode multi (whole_of x)) f) refl sp)
    ∙ number_run (at (want_y_mode multi (whole_of x)) f) (λ n. at (begun_y multi (whole_of x) n) f) (y_starts multi (whole_of x) f) (y_goes multi (whole_of x) f) y k

-- after y: a mark, whether spaces stand before it or not
y_mark : (multi : Bool) (f : SoFar) (p : Point) (c : ℕ) (after : State) {m : List ℕ} → step (at (in_y_mode multi (whole_of p.x) (value_begun (whole_of p.y))) f) c ≡ after → step (at (after_y_mode multi (place_of p)) f) c ≡ after → step after 32 ≡ after → Mark c m → run (at (in_y_mode multi (whole_of p.x) (value_begun (whole_of p.y))) f) m ≡ after
unfolding run step next_mode event_of
y_mark multi f p c after e g k (round {b} none h) = ap (λ z. run z b) e ∙ run_spaces after k h
y_mark multi f p c after e g k (round {b} (more {s} a) h) = run_mark (at (after_y_mode multi (place_of p)) f) after c refl g k (round a h)

abbrev full_ring : SoFar → Ring → SoFar
full_ring f points = record { done = f.done; rings = f.rings ++ ((f.ring ++ points) ∷ []); ring = [] }

ring_run : (multi : Bool) (f : SoFar) (p : Point) (points : Ring) {t : List ℕ} → Rest Point Pair points t → run (at (in_y_mode multi (whole_of p.x) (value_begun (whole_of p.y))) f) t ≡ at (after_ring_mode multi) (full_ring f (p ∷ points))
unfolding step next_mode event_of
ring_run multi f p points (close m) = y_mark multi f p 41 (at (after_ring_mode multi) (built f (ring_ends_event (place_of p)))) refl refl refl m ∙ ap (λ q. at (after_ring_mode multi) (full_ring f (q ∷ []))) (point_back p)
ring_run multi f p points (next {item} {items} {m} {s} {t} mk i r) =
    let g = built f (corner_event (place_of p)) in
    run_append (at (in_y_mode multi (whole_of p.x) (value_begun (whole_of p.y))) f) m (s ++ t)
    ∙ ap (λ z. run z (s ++ t)) (y_mark multi f p 44 (at (want_x_mode multi) g) refl refl refl mk)
    ∙ run_append (at (want_x_mode multi) g) s t
    ∙ ap (λ z. run z t) (pair_run multi g item i)
    ∙ ring_run multi g item items r
    ∙ ap (λ q. at (after_ring_mode multi) (full_ring (record { done = f.done; rings = f.rings; ring = f.ring ++ (q ∷ []) }) (item ∷ items))) (point_back p)
    ∙ ap (λ z. at (after_ring_mode multi) (record { done = f.done; rings = f.rings ++ (z ∷ []); ring = [] })) (append_assoc f.ring (p ∷ []) (item ∷ items))

abbrev pub inside : List Polygon → Polygon → SoFar
inside done rings = record { done = done; rings = rings; ring = [] }

ring_text_run : (multi : Bool) (done : List Polygon) (rings : Polygon) (ring : Ring) {u : List ℕ} → RingText ring u → run (at (want_ring_mode multi) (inside done rings)) u ≡ at (after_ring_mode multi) (inside done (rings ++ (ring ∷ [])))
unfolding step next_mode event_of
ring_text_run multi done rings ring (bracketed {item} {items} {m} {s} {t} mk i r) =
    let f = inside done rings in
    run_append (at (want_ring_mode multi) f) m (s ++ t)
    ∙ ap (λ z. run z (s ++ t)) (run_mark (at (want_ring_mode multi) f) (at (want_x_mode multi) f) 40 refl refl refl mk)
    ∙ run_append (at (want_x_mode multi) f) s t
    ∙ ap (λ z. run z t) (pair_run multi f item i)
    ∙ ring_run multi f item items r

-- ---- polygons

abbrev polygon_end : Bool → List Polygon → State
polygon_end multi done = at (cond multi after_member_mode finished_mode) (inside done [])

end_space : (multi : Bool) (done : List Polygon) → step (polygon_end multi done) 32 ≡ polygon_end multi done
unfolding step next_mode event_of
end_space true done = refl
end_space false done = refl

rings_run : (multi : Bool) (done : List Polygon) (rings items : Polygon) {t : List ℕ} → Rest Ring RingText items t → run (at (after_ring_mode multi) (inside done rings)) t ≡ polygon_end multi (done ++ ((rings ++ items) ∷ []))
unfolding step next_mode event_of
rings_run multi done rings items (close mk) = run_mark (at (after_ring_mode multi) (inside done rings)) (polygon_end multi (done ++ (rings ∷ []))) 41 refl refl (end_space multi (done ++ (rings ∷ []))) mk ∙ ap (λ z. polygon_end multi (done ++ (z ∷ []))) (sym (append-nil rings))
rings_run multi done rings items (next {item} {items = more_items} {m} {s} {t} mk i r) =
    run_append (at (after_ring_mode multi) (inside done rings)) m (s ++ t)
    ∙ ap (λ z. run z (s ++ t)) (run_mark (at (after_ring_mode multi) (inside done rings)) (at (want_ring_mode multi) (inside done rings)) 44 refl refl refl mk)
    ∙ run_append (at (want_ring_mode multi) (inside done rings)) s t
    ∙ ap (λ z. run z t) (ring_text_run multi done rings item i)
    ∙ rings_run multi done (rings ++ (item ∷ [])) more_items r
    ∙ ap (λ z. polygon_end multi (done ++ (z ∷ []))) (append_assoc rings (item ∷ []) more_items)

polygon_run : (st : State) (multi : Bool) (done : List Polygon) (rings : Polygon) → ((m : List ℕ) → Mark 40 m → run st m ≡ at (want_ring_mode multi) (inside done [])) → (t : List ℕ) → PolygonText rings t → run st t ≡ polygon_end multi (done ++ (rings ∷ []))
polygon_run st multi done rings opens u (bracketed {item} {items} {m} {s} {t} mk i r) =
    run_append st m (s ++ t)
    ∙ ap (λ z. run z (s ++ t)) (opens m mk)
    ∙ run_append (at (want_ring_mode multi) (inside done [])) s t
    ∙ ap (λ z. run z t) (ring_text_run multi done [] item i)
    ∙ rings_run multi done (item ∷ []) items r

-- ---- members

abbrev built_of : List Polygon → SoFar
built_of done = inside done []

member_opens : (done : List Polygon) (m : List ℕ) → Mark 40 m → run (at want_member_mode (built_of done)) m ≡ at (want_ring_mode true) (inside done [])
unfolding step next_mode event_of
member_opens done m mk = run_mark (at want_member_mode (built_of done)) (at (want_ring_mode true) (built_of done)) 40 refl refl refl mk

-- after EMPTY as after any member
same_mark : (done : List Polygon) (c : ℕ) (m r : List ℕ) → Mark c m → run (at (empty_member_mode 5) (built_of done)) (m ++ r) ≡ run (at after_member_mode (built_of done)) (m ++ r)
unfolding run step next_mode event_of
same_mark done c m r (round none h) = refl
same_mark done c m r (round (more a) h) = refl

same_rest : (done members : List Polygon) (t : List ℕ) → Rest Polygon Member members t → run (at (empty_member_mode 5) (built_of done)) t ≡ run (at after_member_mode (built_of done)) t
same_rest done members t (close {m} mk) = ap (run (at (empty_member_mode 5) (built_of done))) (sym (append-nil m)) ∙ same_mark done 41 m [] mk ∙ ap (run (at after_member_mode (built_of done))) (append-nil m)
same_rest done members t (next {m} {s} {t = u} mk i r) = same_mark done 44 m (s ++ u) mk

kept_full : {rings : Polygon} {u : List ℕ} (done members : List Polygon) → PolygonText rings u → at finished_mode (built_of ((done ++ (rings ∷ [])) ++ kept members)) ≡ at finished_mode (built_of (done ++ kept (rings ∷ members)))
unfolding kept
kept_full done members (bracketed {item} {items} mk i q) = ap (λ d. at finished_mode (built_of d)) (append_assoc done ((item ∷ items) ∷ []) (kept members))

bare_run : (done : List Polygon) (t : List ℕ) → run (at want_member_mode (built_of done)) (empty ++ t) ≡ run (at (empty_member_mode 5) (built_of done)) t
unfolding run step next_mode event_of
bare_run done t = refl

kept_bare : (members : List Polygon) → kept ([] ∷ members) ≡ kept members
unfolding kept
kept_bare members = refl

member_run : (done members : List Polygon) (member : Polygon) (u t : List ℕ) → Member member u → Rest Polygon Member members t → ((d : List Polygon) → run (at after_member_mode (built_of d)) t ≡ at finished_mode (built_of (d ++ kept members))) → run (at want_member_mode (built_of done)) (u ++ t) ≡ at finished_mode (built_of (done ++ kept (member ∷ members)))
member_run done members member u t (full {rings} p) r rec = run_append (at want_member_mode (built_of done)) u t ∙ ap (λ z. run z t) (polygon_run (at want_member_mode (built_of done)) true done rings (member_opens done) u p) ∙ rec (done ++ (rings ∷ [])) ∙ kept_full done members p
member_run done members member u t bare r rec = bare_run done t ∙ same_rest done members t r ∙ rec done ∙ ap (λ k. at finished_mode (built_of (done ++ k))) (sym (kept_bare members))

members_run : (done members : List Polygon) (t : List ℕ) → Rest Polygon Member members t → run (at after_member_mode (built_of done)) t ≡ at finished_mode (built_of (done ++ kept members))
unfolding step next_mode event_of kept
members_run done members t (close mk) = run_mark (at after_member_mode (built_of done)) (at finished_mode (built_of done)) 41 refl refl refl mk ∙ ap (λ d. at finished_mode (built_of d)) (sym (append-nil done))
members_run done members t (next {item} {items} {m} {s} {t = u} mk i r) =
    run_append (at after_member_mode (built_of done)) m (s ++ u)
    ∙ ap (λ z. run z (s ++ u)) (run_mark (at after_member_mode (built_of done)) (at want_member_mode (built_of done)) 44 refl refl refl mk)
    ∙ member_run done items item s u i r (λ d. members_run d items u r)

-- ---- texts

abbrev word_end : Bool → Mode
word_end true = word_mode true 12
word_end false = word_mode false 7

word_mark : (multi : Bool) (after : State) (m : List ℕ) → step (at (word_end multi) nothing) 40 ≡ after → step (at (spaced_mode multi) nothing) 40 ≡ after → step after 32 ≡ after → Mark 40 m → run (at (word_end multi) nothing) m ≡ after
unfolding run step next_mode event_of
word_mark true after m e g k (round {b} none h) = ap (λ z. run z b) e ∙ run_spaces after k h
word_mark true after m e g k (round {b} (more {s} a) h) = run_mark (at (spaced_mode true) nothing) after 40 refl g k (round a h)
word_mark false after m e g k (round {b} none h) = ap (λ z. run z b) e ∙ run_spaces after k h
word_mark false after m e g k (round {b} (more {s} a) h) = run_mark (at (spaced_mode false) nothing) after 40 refl g k (round a h)

one_opens : (m : List ℕ) → Mark 40 m → run (at (word_end false) nothing) m ≡ at (want_ring_mode false) nothing
unfolding step next_mode event_of
one_opens m mk = word_mark false (at (want_ring_mode false) nothing) m refl refl refl mk

many_opens : (m : List ℕ) → Mark 40 m → run (at (word_end true) nothing) m ≡ at want_member_mode nothing
unfolding step next_mode event_of
many_opens m mk = word_mark true (at want_member_mode nothing) m refl refl refl mk

many_run : (members : List Polygon) (t : List ℕ) → Bracketed Polygon Member members t → run (at (word_end true) nothing) t ≡ at finished_mode (built_of (kept members))
many_run members t (bracketed {item} {items} {m} {s} {t = u} mk i r) =
    run_append (at (word_end true) nothing) m (s ++ u)
    ∙ ap (λ z. run z (s ++ u)) (many_opens m mk)
    ∙ member_run [] items item s u i r (λ d. members_run d items u r)

empty_run : (multi : Bool) (a : List ℕ) → Spaces a → run (at (word_end multi) nothing) (32 ∷ (a ++ empty)) ≡ at (empty_text_mode 5) nothing
unfolding run step next_mode event_of
empty_run true a sp = run_append (at (spaced_mode true) nothing) a empty ∙ ap (λ z. run z empty) (run_spaces (at (spaced_mode true) nothing) refl sp)
empty_run false a sp = run_append (at (spaced_mode false) nothing) a empty ∙ ap (λ z. run z empty) (run_spaces (at (spaced_mode false) nothing) refl sp)

one_word : (s : List ℕ) → run (at start_mode nothing) (polygon ++ s) ≡ run (at (word_end false) nothing) s
unfolding run step next_mode event_of
one_word s = refl

many_word : (s : List ℕ) → run (at start_mode nothing) (multipolygon ++ s) ≡ run (at (word_end true) nothing) s
unfolding run step next_mode event_of
many_word s = refl

-- the text may end there, and these polygons are built
pub record Gives (st : State) (polygons : List Polygon) : Type 0 where
  pub accepts : may_end st.mode ≡ true
  pub given : st.built_so_far.done ≡ polygons

gives_at : (st : State) (mode : Mode) (polygons : List Polygon) → may_end mode ≡ true → st ≡ at mode (built_of polygons) → Gives st polygons
gives_at st mode polygons a e = record { accepts = ap (λ s. may_end s.mode) e ∙ a; given = ap (λ s. s.built_so_far.done) e }

-- every text of the grammar
pub text_given : (polygons : List Polygon) (t : List ℕ) → Text polygons t → Gives (run (at start_mode nothing) t) polygons
text_given polygons t (one {rings} {s} p) = gives_at (run (at start_mode nothing) (polygon ++ s)) finished_mode (rings ∷ []) refl (one_word s ∙ polygon_run (at (word_end false) nothing) false [] rings one_opens s p)
text_given polygons t (one_empty {a} sp) = gives_at (run (at start_mode nothing) (polygon ++ (32 ∷ (a ++ empty)))) (empty_text_mode 5) [] refl (one_word (32 ∷ (a ++ empty)) ∙ empty_run false a sp)
text_given polygons t (many {members} {s} p) = gives_at (run (at start_mode nothing) (multipolygon ++ s)) finished_mode (kept members) refl (many_word s ∙ many_run members s p)
text_given polygons t (many_empty {a} sp) = gives_at (run (at start_mode nothing) (multipolygon ++ (32 ∷ (a ++ empty)))) (empty_text_mode 5) [] refl (many_word (32 ∷ (a ++ empty)) ∙ empty_run true a sp)

-- ---- what begins a text does not lead to `Broken`

pub run_mode : (st : State) (t : List ℕ) → (run st t).mode ≡ mode_after st.mode t
unfolding run step mode_after
run_mode st [] = refl
run_mode st (b ∷ t) = run_mode (step st b) t

mode_append : (mode : Mode) (a b : List ℕ) → mode_after mode (a ++ b) ≡ mode_after (mode_after mode a) b
unfolding mode_after
mode_append mode [] b = refl
mode_append mode (x ∷ a) b = mode_append (next_mode mode x) a b

broken_stays : (t : List ℕ) → mode_after broken_mode t ≡ broken_mode
unfolding mode_after next_mode
broken_stays [] = refl
broken_stays (b ∷ t) = broken_stays t

broken_is : (mode : Mode) → is_broken mode ≡ true → mode ≡ broken_mode
broken_is start_mode e = absurd (true≢false (sym e))
broken_is (word_mode multi k) e = absurd (true≢false (sym e))
broken_is (spaced_mode multi) e = absurd (true≢false (sym e))
broken_is (empty_text_mode k) e = absurd (true≢false (sym e))
broken_is want_member_mode e = absurd (true≢false (sym e))
broken_is (empty_member_mode k) e = absurd (true≢false (sym e))
broken_is after_member_mode e = absurd (true≢false (sym e))
broken_is (want_ring_mode multi) e = absurd (true≢false (sym e))
broken_is (want_x_mode multi) e = absurd (true≢false (sym e))
broken_is (in_x_mode multi n) e = absurd (true≢false (sym e))
broken_is (want_y_mode multi x) e = absurd (true≢false (sym e))
broken_is (in_y_mode multi x n) e = absurd (true≢false (sym e))
broken_is (after_y_mode multi p) e = absurd (true≢false (sym e))
broken_is (after_ring_mode multi) e = absurd (true≢false (sym e))
broken_is finished_mode e = absurd (true≢false (sym e))
broken_is broken_mode e = refl

pub begins_unbroken : (t : List ℕ) → Begins t → is_broken (mode_after start_mode t) ≡ false
begins_unbroken t b = go (is_broken (mode_after start_mode t)) refl
  where
    go : (d : Bool) → is_broken (mode_after start_mode t) ≡ d → d ≡ false
    go false e = refl
    go true e = absurd (true≢false (sym (text_given b.1 (t ++ b.0) b.2).accepts ∙ ap may_end (run_mode (at start_mode nothing) (t ++ b.0) ∙ mode_append start_mode t b.0 ∙ ap (λ m. mode_after m b.0) (broken_is (mode_after start_mode t) e) ∙ broken_stays b.0)))
