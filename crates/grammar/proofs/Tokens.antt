-- Spaces and numbers read from a place of a text on. Assumes nothing.
use mathlib.Core.Path.{◌≡◌, refl, sym, ap, subst, ◌∙◌}
use mathlib.Core.Bool.{Bool, true, false, cond, and-false}
use mathlib.Core.List.{List}
use Prim.Native.Nat.{ℕ, zero, suc, ◌+◌, ◌-◌, ◌*◌, ◌^◌, ◌≤◌, ◌<◌}
use native.Mathlib.Decide.{dec_lt}
use native.Mathlib.Omega.{arith}
use lib.IntN.{ℤ, pos, negsuc}
use lib.ListN.{length, get_or, drop, length-drop}
use lib.Seq.{get_or-drop}
use lib.Dec.{leb, ltb}
use borrow.Author.Tests.{lt-leb, le-leb, ne_eqb}
use Rattle.std.proofs.lemmas.Option.{none-some}
use Rattle.std.specs.Prelude.{Some, None, Ok, Err}
use Rattle.grammar.specs.Numbers.{Whole, Begun, minus_begun, value_begun, off_begun, is_digit, value_of, whole_of, plain, under, first_byte, after_value, next_digit, begun_number}
use Rattle.grammar.specs.Modes.{Mode, broken_mode, nothing_event, begun_x, begun_y, next_mode, event_of}
use Rattle.grammar.specs.Scans.{SoFar, may_end, is_broken, read_from}
use Rattle.grammar.specs.Tokens.{Resting, Skipped, Read, Wanted, wants_x, wants_y, wanting, within, Ended, NumberRead}
use Rattle.grammar.proofs.Digits.{Allowed, digit_range}
use Rattle.grammar.proofs.Steps.{leads, leaves, stops_early, space_skipped}

-- ---- spaces

-- the spaces so far
pub record Skipping (text : List ℕ) (at place : ℕ) : Type 0 where
  pub on : at ≤ place
  pub inside : place ≤ length text
  pub spaces : (before : ℕ) → at ≤ before → before < place → get_or text before 0 ≡ 32
  pub same : (mode : Mode) (f : SoFar) → Resting mode → read_from text at mode f ≡ read_from text place mode f

pub skipping : (text : List ℕ) (at : ℕ) → at ≤ length text → Skipping text at at
skipping text at h = record { on = omega arith; inside = h; spaces = λ k l m. absurd (omega arith); same = λ mode f r. refl }

pub skipped_on : (text : List ℕ) (at place : ℕ) → Skipping text at place → place < length text → get_or text place 0 ≡ 32 → Skipping text at (place + 1)
skipped_on text at place g h b =
    let o = g.on in
    record { on = omega arith; inside = omega arith; spaces = λ k l m. go k l m (dec_lt k place); same = λ mode f r. g.same mode f r ∙ space_skipped text place mode f h b r }
  where
    go : (k : ℕ) → at ≤ k → k < place + 1 → Dec (k < place) → get_or text k 0 ≡ 32
    go k l m (yes n) = g.spaces k l n
    go k l m (no n) = ap (λ i. get_or text i 0) (let e : k ≡ place = omega arith in e) ∙ b

module _ (text : List ℕ) (at : ℕ) (h : at ≤ length text) (n : ℕ) (spaces : (k : ℕ) → k < n → get_or (drop at text) k 0 ≡ 32) (few : n ≤ length (drop at text)) where
  reach : at + n ≤ length text
  reach = let l = length-drop at text in omega arith

  skipping_to : (k : ℕ) → k ≤ n → Skipping text at (at + k)
  skipping_to zero l = subst (Skipping text at) (let e : at ≡ at + 0 = omega arith in e) (skipping text at h)
  skipping_to (suc k) l =
      subst (Skipping text at) (let e : at + k + 1 ≡ at + suc k = omega arith in e)
      (skipped_on text at (at + k) (skipping_to k (omega arith)) (let r = reach in omega arith) (sym (get_or-drop at text k 0) ∙ spaces k (omega arith)))

  pub skipped : (r : ℕ) → r ≡ at + n → (n < length (drop at text) → get_or (drop at text) n 0 ≡ 32 → ⊥) → Skipped text at r
  skipped r e s =
      let g = skipping_to n (omega arith) in
      let l = length-drop at text in
      subst (Skipped text at) (sym e) (record { on = g.on; inside = g.inside; spaces = g.spaces; stops = λ i b. s (omega arith) (get_or-drop at text n 0 ∙ b); same = g.same })

-- ---- numbers and pairs

whole_back : (w : Whole) → whole_of (value_of w) ≡ w
whole_back w = go w.below w.size
  where
    go : (b : Bool) (n : ℕ) → whole_of (value_of (record { below = b; size = n })) ≡ record { below = b; size = n }
    go true n = refl
    go false n = refl

-- ---- the modes of a number

abbrev begun_as : Wanted → Begun → Mode
begun_as w minus_begun = within w minus_begun
begun_as w (value_begun v) = within w (value_begun v)
begun_as w off_begun = broken_mode

begun_x_lem : (multi : Bool) (n : Begun) → begun_x multi n ≡ begun_as (wants_x multi) n
begun_x_lem multi minus_begun = refl
begun_x_lem multi (value_begun v) = refl
begun_x_lem multi off_begun = refl

begun_y_lem : (multi : Bool) (x : Whole) (n : Begun) → begun_y multi x n ≡ begun_as (wants_y multi x) n
begun_y_lem multi x minus_begun = refl
begun_y_lem multi x (value_begun v) = refl
begun_y_lem multi x off_begun = refl

first_next : (w : Wanted) (b : ℕ) → (b ≡ 32 → ⊥) → next_mode (wanting w) b ≡ begun_as w (first_byte b)
unfolding next_mode
first_next (wants_x multi) b s = rw (ne_eqb b 32 s) (begun_x_lem multi (first_byte b))
first_next (wants_y multi x) b s = rw (ne_eqb b 32 s) (begun_y_lem multi x (first_byte b))

first_silent : (w : Wanted) (b : ℕ) → event_of (wanting w) b ≡ nothing_event
unfolding event_of
first_silent (wants_x multi) b = refl
first_silent (wants_y multi x) b = refl

digit_next : (w : Wanted) (n : Begun) (b : ℕ) → is_digit b ≡ true → next_mode (within w n) b ≡ begun_as w (next_digit n (b - 48))
unfolding next_mode
digit_next (wants_x multi) n b d = rw d (begun_x_lem multi (next_digit n (b - 48)))
digit_next (wants_y multi x) n b d = rw d (begun_y_lem multi x (next_digit n (b - 48)))

digit_silent : (w : Wanted) (n : Begun) (b : ℕ) → is_digit b ≡ true → event_of (within w n) b ≡ nothing_event
unfolding event_of
digit_silent (wants_x multi) n b d = refl
digit_silent (wants_y multi x) minus_begun b d = refl
digit_silent (wants_y multi x) (value_begun y) b d = let r = digit_range b d in rw (ne_eqb b 44 (λ e. omega arith), ne_eqb b 41 (λ e. omega arith)) refl
digit_silent (wants_y multi x) off_begun b d = refl

minus_off : (w : Wanted) (b : ℕ) → is_digit b ≡ false → next_mode (within w minus_begun) b ≡ broken_mode
unfolding next_mode
minus_off (wants_x multi) b d = rw d refl
minus_off (wants_y multi x) b d = rw d refl

within_whole : (w : Wanted) (v : Whole) → is_broken (within w (value_begun v)) ≡ false
within_whole (wants_x multi) v = refl
within_whole (wants_y multi x) v = refl

minus_whole : (w : Wanted) → is_broken (within w minus_begun) ≡ false
minus_whole (wants_x multi) = refl
minus_whole (wants_y multi x) = refl

within_early : (w : Wanted) (n : Begun) → may_end (within w n) ≡ false
within_early (wants_x multi) n = refl
within_early (wants_y multi x) n = refl

wanting_early : (w : Wanted) → may_end (wanting w) ≡ false
wanting_early (wants_x multi) = refl
wanting_early (wants_y multi x) = refl

wanting_rests : (w : Wanted) → Resting (wanting w)
unfolding next_mode event_of
wanting_rests (wants_x multi) = record { stays = refl; silent = refl; whole = refl }
wanting_rests (wants_y multi x) = record { stays = refl; silent = refl; whole = refl }

-- ---- a digit more

begun_some : (b : Begun) (z : ℤ) → Some z ≡ begun_number b → b ≡ value_begun (whole_of z)
begun_some minus_begun z e = absurd (none-some _ (sym e))
begun_some (value_begun w) z e = let same : z ≡ value_of w = cc in sym (ap (λ y. value_begun (whole_of y)) same ∙ ap value_begun (whole_back w))
begun_some off_begun z e = absurd (none-some _ (sym e))

-- a digit behind a number makes a number or none
begun_none : (w : Whole) (d : ℕ) → None ≡ begun_number (next_digit (value_begun w) d) → next_digit (value_begun w) d ≡ off_begun
begun_none w d e = go w.below w.size e
  where
    fits : (v : Whole) (b : Bool) → None ≡ begun_number (cond b (value_begun v) off_begun) → cond b (value_begun v) off_begun ≡ off_begun
    fits v true e = absurd (none-some _ e)
    fits v false e = refl

    go : (b : Bool) (n : ℕ) → None ≡ begun_number (after_value (record { below = b; size = n }) d) → after_value (record { below = b; size = n }) d ≡ off_begun
    go true n e = fits (under (n * 10 + 9 + d)) (ltb (n * 10 + 9 + d) (2 ^ 63)) e
    go false zero e = refl
    go false (suc n) e = fits (plain (suc n * 10 + d)) (ltb (suc n * 10 + d) (2 ^ 63)) e

-- and the number is not 0
begun_other : (z y : ℤ) (d : ℕ) → Some y ≡ begun_number (next_digit (value_begun (whole_of z)) d) → y ≡ pos 0 → ⊥
begun_other z y d e o = go z (e ∙ refl)
  where
    none : (v : Whole) (b : Bool) → (value_of v ≡ pos 0 → ⊥) → Some y ≡ begun_number (cond b (value_begun v) off_begun) → ⊥
    none v true h e = let same : y ≡ value_of v = cc in h (sym same ∙ o)
    none v false h e = none-some _ (sym e)

    go : (z : ℤ) → Some y ≡ begun_number (next_digit (value_begun (whole_of z)) d) → ⊥
    go (pos zero) e = none-some _ (sym e)
    go (pos (suc n)) e = none (plain (suc n * 10 + d)) (ltb (suc n * 10 + d) (2 ^ 63)) (λ h. let same : suc n * 10 + d ≡ 0 = cc in omega (arith, same)) e
    go (negsuc n) e = none (under (n * 10 + 9 + d)) (ltb (n * 10 + 9 + d) (2 ^ 63)) (λ h. let same : ◌≡◌ {A = ℕ} 0 1 = cc in omega (arith, same)) e

-- the digits so far of a number that began like this
pub record More (text : List ℕ) (at : ℕ) (begun : Begun) (number : ℤ) (place : ℕ) : Type 0 where
  pub on : at ≤ place
  pub inside : place ≤ length text
  pub some : number ≡ pos 0 → ⊥
  pub same : (w : Wanted) (f : SoFar) → read_from text at (within w begun) f ≡ read_from text place (within w (value_begun (whole_of number))) f

module _ (text : List ℕ) (at : ℕ) (begun : Begun) (number : ℤ) (place : ℕ) (g : More text at begun number place) (h : place < length text) (b : is_digit (get_or text place 0) ≡ true) where
  abbrev digit : ℕ
  digit = get_or text place 0 - 48

  pub grown_on : (grown : ℤ) → Some grown ≡ begun_number (next_digit (value_begun (whole_of number)) digit) → More text at begun grown (place + 1)
  grown_on grown e =
      let o = g.on in
      record {
        on = omega arith;
        inside = omega arith;
        some = begun_other number grown digit e;
        same = λ w f. g.same w f
            ∙ leads text place (within w (value_begun (whole_of number))) f (within w (value_begun (whole_of grown))) nothing_event h
            (digit_next w (value_begun (whole_of number)) (get_or text place 0) b ∙ ap (begun_as w) (begun_some _ grown e))
            (digit_silent w (value_begun (whole_of number)) (get_or text place 0) b)
            (within_whole w (whole_of grown));
      }

  pub grown_off : None ≡ begun_number (next_digit (value_begun (whole_of number)) digit) → NumberRead text at (λ w. within w begun) at (Err (record { place = place }))
  grown_off e =
      record {
        ended = tt;
        means = λ w f. g.same w f
            ∙ leaves text place (within w (value_begun (whole_of number))) f h
            (digit_next w (value_begun (whole_of number)) (get_or text place 0) b ∙ ap (begun_as w) (begun_none (whole_of number) digit e));
      }

-- ---- the ways out

begun_within : (w : Wanted) (begun : Begun) → Allowed begun → (begun_as w begun ≡ within w begun) × (is_broken (within w begun) ≡ false)
begun_within w minus_begun a = (refl, minus_whole w)
begun_within w (value_begun v) a = (refl, within_whole w v)
begun_within w off_begun a = absurd a

ended_later : (text : List ℕ) (from from' : ℕ) (r : Read ℤ) → from ≤ from' → Ended text from' r → Ended text from r
ended_later text from from' (Ok (z, end)) h e = let o = e.0 in (omega arith, e.1, e.2)
ended_later text from from' (Err off) h e = tt

module _ (text : List ℕ) (at : ℕ) where
  -- a byte that no number goes on with
  off : (begun : Begun) → at < length text → ((w : Wanted) → next_mode (within w begun) (get_or text at 0) ≡ broken_mode) → NumberRead text at (λ w. within w begun) at (Err (record { place = at }))
  off begun h b = record { ended = tt; means = λ w f. leaves text at (within w begun) f h (b w) }

  pub zero_off : at < length text → is_digit (get_or text at 0) ≡ true → NumberRead text at (λ w. within w (value_begun (plain 0))) at (Err (record { place = at }))
  zero_off h d = off (value_begun (plain 0)) h (λ w. digit_next w (value_begun (plain 0)) (get_or text at 0) d)

  pub minus_early : length text ≤ at → NumberRead text at (λ w. within w minus_begun) at (Err (record { place = at }))
  minus_early h = record { ended = tt; means = λ w f. stops_early text at (within w minus_begun) f h (within_early w minus_begun) }

  pub minus_other : at < length text → is_digit (get_or text at 0) ≡ false → NumberRead text at (λ w. within w minus_begun) at (Err (record { place = at }))
  minus_other h d = off minus_begun h (λ w. minus_off w (get_or text at 0) d)

  pub minus_zero : at < length text → get_or text at 0 ≡ 48 → NumberRead text at (λ w. within w minus_begun) at (Err (record { place = at }))
  minus_zero h z = off minus_begun h (λ w. ap (next_mode (within w minus_begun)) z ∙ digit_next w minus_begun 48 refl)

  pub minus_digit : (r : Read ℤ) (n : ℕ) → at < length text → is_digit (get_or text at 0) ≡ true → get_or text at 0 ≡ 49 + n → NumberRead text (at + 1) (λ w. within w (value_begun (under n))) (at + 1) r → NumberRead text at (λ w. within w minus_begun) at r
  minus_digit r n h d z g =
      record {
        ended = ended_later text at (at + 1) r (omega arith) g.ended;
        means = λ w f. leads text at (within w minus_begun) f (within w (value_begun (under n))) nothing_event h (digit_next w minus_begun (get_or text at 0) d ∙ ap (λ k. begun_as w (next_digit minus_begun k)) (let e : get_or text at 0 - 48 ≡ suc n = omega arith in e)) (digit_silent w minus_begun (get_or text at 0) d) (within_whole w (under n)) ∙ g.means w f;
      }

  module _ (start : ℕ) (g : Skipped text at start) where
    pub number_early : length text ≤ start → NumberRead text at wanting (at + 1) (Err (record { place = start }))
    number_early h = record { ended = tt; means = λ w f. g.same (wanting w) f (wanting_rests w) ∙ stops_early text start (wanting w) f h (wanting_early w) }

    pub number_off : start < length text → first_byte (get_or text start 0) ≡ off_begun → NumberRead text at wanting (at + 1) (Err (record { place = start }))
    number_off h b = record { ended = tt; means = λ w f. g.same (wanting w) f (wanting_rests w) ∙ leaves text start (wanting w) f h (first_next w (get_or text start 0) (g.stops h) ∙ ap (begun_as w) b) }

    pub number_begun : (begun : Begun) (r : Read ℤ) → Allowed begun → start < length text → first_byte (get_or text start 0) ≡ begun → NumberRead text (start + 1) (λ w. within w begun) (start + 1) r → NumberRead text at wanting (at + 1) r
    number_begun begun r a h b n =
        let o = g.on in
        record {
          ended = ended_later text (at + 1) (start + 1) r (omega arith) n.ended;
          means = λ w f. g.same (wanting w) f (wanting_rests w)
              ∙ leads text start (wanting w) f (within w begun) nothing_event h (first_next w (get_or text start 0) (g.stops h) ∙ ap (begun_as w) b ∙ (begun_within w begun a).0) (first_silent w (get_or text start 0)) (begun_within w begun a).1
              ∙ n.means w f;
        }

-- ---- a first byte

pub first_digit : (b : ℕ) → (b ≡ 45 → ⊥) → is_digit b ≡ true → first_byte b ≡ value_begun (plain (b - 48))
first_digit b m d = rw (ne_eqb b 45 m, d) refl

pub first_off : (b : ℕ) → (b ≡ 45 → ⊥) → is_digit b ≡ false → first_byte b ≡ off_begun
first_off b m d = rw (ne_eqb b 45 m, d) refl

-- ---- a byte that is no digit

pub below_digits : (b : ℕ) → b < 48 → is_digit b ≡ false
below_digits b h = rw (lt-leb 48 b h) refl

pub above_digits : (b : ℕ) → 57 < b → is_digit b ≡ false
above_digits b h = rw (lt-leb b 57 h) (and-false (leb 48 b))

pub digit_there : (b : ℕ) → 48 ≤ b → b ≤ 57 → is_digit b ≡ true
digit_there b h k = rw (le-leb 48 b h, le-leb b 57 k) refl

-- behind a minus
pub minus_below : (text : List ℕ) (at : ℕ) → at < length text → get_or text at 0 < 49 → NumberRead text at (λ w. within w minus_begun) at (Err (record { place = at }))
minus_below text at h b = go (dec_lt (get_or text at 0) 48)
  where
    go : Dec (get_or text at 0 < 48) → NumberRead text at (λ w. within w minus_begun) at (Err (record { place = at }))
    go (yes k) = minus_other text at h (below_digits (get_or text at 0) k)
    go (no k) = minus_zero text at h (omega arith)
