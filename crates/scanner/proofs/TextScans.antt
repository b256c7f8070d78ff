-- A whole text: its first word, what stands behind it, and its end. Assumes nothing.
use mathlib.Core.Path.{◌≡◌, refl, sym, ap, ◌∙◌}
use mathlib.Core.Bool.{Bool, true, false}
use mathlib.Core.List.{List, [], ◌∷◌}
use Prim.Native.Nat.{ℕ, ◌+◌, ◌≤◌, ◌<◌}
use native.Mathlib.Decide.{dec_lt}
use native.Mathlib.Omega.{arith}
use lib.IntN.{ℤ}
use lib.ListN.{length, get_or}
use borrow.Author.Tests.{ne_eqb}
use Rattle.grammar.specs.declared.NextByte.{NextByte}
use Rattle.grammar.specs.Modes.{Mode, start_mode, broken_mode, word_mode, spaced_mode, empty_text_mode, finished_mode, nothing_event, word_of, opening, after_word, next_mode, event_of}
use Rattle.grammar.specs.Spellings.{spells, breaks}
use Rattle.grammar.specs.Scans.{SoFar, is_broken, may_end, read_from}
use Rattle.grammar.specs.Tokens.{Resting, NextRead}
use Rattle.grammar.proofs.Steps.{leads, leaves, stops_early, stops_whole, space_skipped, byte_inside, byte_is, byte_there}
use Rattle.scanner.specs.declared.Extent.{Extent}
use Rattle.std.specs.Prelude.{Some, Result, Ok, Err}
use Rattle.grammar.specs.declared.OffGrammar.{OffGrammar}
use Rattle.scanner.specs.Extents.{no_extent}
use Rattle.scanner.specs.Scanned.{so_far_of, WordRead, FirstWordRead, bracketed, AllThere, TextThere, TextScanned, EmptyScanned, WithoutBrackets, Ended}
use Rattle.scanner.proofs.WordScans.{polygon_spelt, multipolygon_spelt, text_spelt, word_off, word_whole, word_inside, text_goes_on}
use Rattle.scanner.proofs.MemberScans.{adds_none}

-- ---- the end

finished_rests : Resting finished_mode
unfolding next_mode event_of
finished_rests = record { stays = refl; silent = refl; whole = refl }

finished_other : (b : ℕ) → (b ≡ 32 → ⊥) → next_mode finished_mode b ≡ broken_mode
unfolding next_mode
finished_other b s = rw (ne_eqb b 32 s) refl

module _ (text : List ℕ) (end : ℕ) (m : NextByte) (k : NextRead text end m) where
  pub end_off : m.at < length text → (f : SoFar) → read_from text end finished_mode f ≡ breaks m.at
  end_off h f = k.skipped.same finished_mode f finished_rests ∙ leaves text m.at finished_mode f h (finished_other (get_or text m.at 0) (k.skipped.stops h))

  pub end_whole : length text ≤ m.at → (f : SoFar) → read_from text end finished_mode f ≡ spells f.done
  end_whole h f = k.skipped.same finished_mode f finished_rests ∙ stops_whole text m.at finished_mode f h refl

-- what is in brackets, and then the end
module _ (text : List ℕ) (at : ℕ) (mode : Mode) (c c' : List ℤ) (l l' n n' : List ℕ) (e : Extent) (end : ℕ) (g : AllThere text at mode c c' l l' n n' e end) where
  pub all_whole : (done : Unit {0}) → Ended text end (Ok done) → TextThere text at mode c c' l l' n n' e
  all_whole done h = record { polygons = g.polygons; means = g.means ∙ h (so_far_of g.polygons []); adds = g.adds }

  pub all_cut : (off : OffGrammar) → Ended text end (Err off) → read_from text at mode (so_far_of [] []) ≡ breaks off.place
  all_cut off h = g.means ∙ h (so_far_of g.polygons [])

-- another mode before it
pub before : (text : List ℕ) (at : ℕ) (mode : Mode) (first : ℕ) (other : Mode) (c c' : List ℤ) (l l' n n' : List ℕ) (r : Result Extent OffGrammar) → read_from text first other (so_far_of [] []) ≡ read_from text at mode (so_far_of [] []) → TextScanned text at mode c c' l l' n n' r → TextScanned text first other c c' l l' n n' r
before text at mode first other c c' l l' n n' (Ok e) p g = record { polygons = g.polygons; means = p ∙ g.means; adds = g.adds }
before text at mode first other c c' l l' n n' (Err off) p g = p ∙ g

-- ---- EMPTY

pub empty_cut : (text : List ℕ) (at : ℕ) (off : OffGrammar) → WordRead text at (77 ∷ 80 ∷ 84 ∷ 89 ∷ []) (Err off) → EmptyScanned text at (empty_text_mode 1) (Err off)
empty_cut text at off w c l n = word_off text at _ _ text_spelt off w (so_far_of [] [])

module _ (text : List ℕ) (at end : ℕ) (w : WordRead text at (77 ∷ 80 ∷ 84 ∷ 89 ∷ []) (Ok end)) where
  whole : read_from text at (empty_text_mode 1) (so_far_of [] []) ≡ read_from text end (empty_text_mode 5) (so_far_of [] [])
  whole = word_whole text at _ _ text_spelt end w (so_far_of [] [])

  pub empty_long : end < length text → EmptyScanned text at (empty_text_mode 1) (Err (record { place = end }))
  empty_long k c l n = whole ∙ text_goes_on text end (so_far_of [] []) k

  pub empty_whole : length text ≤ end → EmptyScanned text at (empty_text_mode 1) (Ok no_extent)
  empty_whole k c l n = record { polygons = []; means = whole ∙ stops_whole text end (empty_text_mode 5) (so_far_of [] []) k refl; adds = adds_none no_extent c l n }

-- ---- behind the first word

word_end_lem : (multi : Bool) (b : ℕ) → (next_mode (word_mode multi (length (word_of multi))) b ≡ after_word multi b) × (event_of (word_mode multi (length (word_of multi))) b ≡ nothing_event)
unfolding next_mode event_of
word_end_lem true b = (refl, refl)
word_end_lem false b = (refl, refl)

spaced_rests : (multi : Bool) → Resting (spaced_mode multi)
unfolding next_mode event_of
spaced_rests multi = record { stays = refl; silent = refl; whole = refl }

spaced_silent : (multi : Bool) (b : ℕ) → event_of (spaced_mode multi) b ≡ nothing_event
unfolding event_of
spaced_silent multi b = refl

spaced_empty : (multi : Bool) → next_mode (spaced_mode multi) 69 ≡ empty_text_mode 1
unfolding next_mode
spaced_empty multi = refl

spaced_open : (multi : Bool) → next_mode (spaced_mode multi) 40 ≡ opening multi 40
unfolding next_mode
spaced_open multi = refl

spaced_other : (multi : Bool) (b : ℕ) → (b ≡ 32 → ⊥) → (b ≡ 69 → ⊥) → (b ≡ 40 → ⊥) → next_mode (spaced_mode multi) b ≡ broken_mode
unfolding next_mode
spaced_other multi b s e o = rw (ne_eqb b 32 s, ne_eqb b 69 e, ne_eqb b 40 o) refl

after_other : (multi : Bool) (b : ℕ) → (b ≡ 32 → ⊥) → (b ≡ 40 → ⊥) → after_word multi b ≡ broken_mode
after_other multi b s o = rw (ne_eqb b 32 s, ne_eqb b 40 o) refl

opens : (multi : Bool) → (opening multi 40 ≡ bracketed multi) × (is_broken (bracketed multi) ≡ false)
opens true = (refl, refl)
opens false = (refl, refl)

early : (multi : Bool) (at : ℕ) → may_end (word_mode multi at) ≡ false
early multi at = refl

module _ (text : List ℕ) (at : ℕ) (multi : Bool) (e : at ≡ length (word_of multi)) (m : NextByte) (k : NextRead text at m) (f : SoFar) where
  next_is : (b : ℕ) → next_mode (word_mode multi at) b ≡ after_word multi b
  next_is b = ap (λ i. next_mode (word_mode multi i) b) e ∙ (word_end_lem multi b).0

  silent : (b : ℕ) → event_of (word_mode multi at) b ≡ nothing_event
  silent b = ap (λ i. event_of (word_mode multi i) b) e ∙ (word_end_lem multi b).1

  spaced : at < m.at → read_from text at (word_mode multi at) f ≡ read_from text m.at (spaced_mode multi) f
  spaced h =
      let i = k.skipped.inside in
      let inside : at < length text = omega arith in
      let space = k.skipped.spaces at (omega arith) h in
      leads text at (word_mode multi at) f (spaced_mode multi) nothing_event inside (next_is (get_or text at 0) ∙ ap (after_word multi) space) (silent (get_or text at 0)) refl
      ∙ sym (space_skipped text at (spaced_mode multi) f inside space (spaced_rests multi))
      ∙ k.skipped.same (spaced_mode multi) f (spaced_rests multi)

  same_place : (at < m.at → ⊥) → m.at ≡ at
  same_place h = let o = k.skipped.on in omega arith

  bracket_opens : m.byte ≡ Some 40 → read_from text at (word_mode multi at) f ≡ read_from text (m.at + 1) (bracketed multi) f
  bracket_opens o = go (dec_lt at m.at)
    where
      inside : m.at < length text
      inside = byte_inside text at m k 40 o

      byte : get_or text m.at 0 ≡ 40
      byte = byte_is text at m k 40 o

      go : Dec (at < m.at) → read_from text at (word_mode multi at) f ≡ read_from text (m.at + 1) (bracketed multi) f
      go (yes h) = spaced h ∙ leads text m.at (spaced_mode multi) f (bracketed multi) nothing_event inside (ap (next_mode (spaced_mode multi)) byte ∙ spaced_open multi ∙ (opens multi).0) (spaced_silent multi (get_or text m.at 0)) (opens multi).1
      go (no h) =
          ap (λ i. read_from text i (word_mode multi at) f) (sym (same_place h))
          ∙ leads text m.at (word_mode multi at) f (bracketed multi) nothing_event inside (next_is (get_or text m.at 0) ∙ ap (after_word multi) byte ∙ (opens multi).0) (silent (get_or text m.at 0)) (opens multi).1

  -- neither a bracket nor EMPTY behind a space
  pub neither : (m.byte ≡ Some 40 → ⊥) → (at < m.at → m.byte ≡ Some 69 → ⊥) → read_from text at (word_mode multi at) f ≡ breaks m.at
  neither o z = go (dec_lt at m.at) (dec_lt m.at (length text))
    where
      go : Dec (at < m.at) → Dec (m.at < length text) → read_from text at (word_mode multi at) f ≡ breaks m.at
      go (yes h) (yes i) = spaced h ∙ leaves text m.at (spaced_mode multi) f i (spaced_other multi (get_or text m.at 0) (k.skipped.stops i) (λ x. z h (byte_there text at m k i ∙ ap Some x)) (λ x. o (byte_there text at m k i ∙ ap Some x)))
      go (yes h) (no i) = spaced h ∙ stops_early text m.at (spaced_mode multi) f (omega arith) refl
      go (no h) (yes i) = ap (λ j. read_from text j (word_mode multi at) f) (sym (same_place h)) ∙ leaves text m.at (word_mode multi at) f i (next_is (get_or text m.at 0) ∙ after_other multi (get_or text m.at 0) (k.skipped.stops i) (λ x. o (byte_there text at m k i ∙ ap Some x)))
      go (no h) (no i) = ap (λ j. read_from text j (word_mode multi at) f) (sym (same_place h)) ∙ stops_early text m.at (word_mode multi at) f (omega arith) (early multi at)

  pub empty_begins : at < m.at → m.byte ≡ Some 69 → read_from text at (word_mode multi at) f ≡ read_from text (m.at + 1) (empty_text_mode 1) f
  empty_begins h z = spaced h ∙ leads text m.at (spaced_mode multi) f (empty_text_mode 1) nothing_event (byte_inside text at m k 69 z) (ap (next_mode (spaced_mode multi)) (byte_is text at m k 69 z) ∙ spaced_empty multi) (spaced_silent multi (get_or text m.at 0)) refl

-- ---- the first word

start_silent : (b : ℕ) → event_of start_mode b ≡ nothing_event
unfolding event_of
start_silent b = refl

start_one : next_mode start_mode 80 ≡ word_mode false 1
unfolding next_mode
start_one = refl

start_many : next_mode start_mode 77 ≡ word_mode true 1
unfolding next_mode
start_many = refl

start_other : (b : ℕ) → (b ≡ 80 → ⊥) → (b ≡ 77 → ⊥) → next_mode start_mode b ≡ broken_mode
unfolding next_mode
start_other b p m = rw (ne_eqb b 80 p, ne_eqb b 77 m) refl

module _ (text : List ℕ) (f : SoFar) where
  module _ (h : 0 < length text) where
    one_starts : get_or text 0 0 ≡ 80 → read_from text 0 start_mode f ≡ read_from text 1 (word_mode false 1) f
    one_starts e = leads text 0 start_mode f (word_mode false 1) nothing_event h (ap (next_mode start_mode) e ∙ start_one) (start_silent (get_or text 0 0)) refl

    many_starts : get_or text 0 0 ≡ 77 → read_from text 0 start_mode f ≡ read_from text 1 (word_mode true 1) f
    many_starts e = leads text 0 start_mode f (word_mode true 1) nothing_event h (ap (next_mode start_mode) e ∙ start_many) (start_silent (get_or text 0 0)) refl

    pub none_starts : (get_or text 0 0 ≡ 80 → ⊥) → (get_or text 0 0 ≡ 77 → ⊥) → read_from text 0 start_mode f ≡ breaks 0
    none_starts p m = leaves text 0 start_mode f h (start_other (get_or text 0 0) p m)

  pub nothing_starts : length text ≤ 0 → read_from text 0 start_mode f ≡ breaks 0
  nothing_starts h = stops_early text 0 start_mode f h refl

-- ---- the first word, whole or cut

module _ (text : List ℕ) (h : 0 < length text) where
  pub one_cut : get_or text 0 0 ≡ 80 → (off : OffGrammar) → WordRead text 1 (79 ∷ 76 ∷ 89 ∷ 71 ∷ 79 ∷ 78 ∷ []) (Err off) → FirstWordRead text (Err off)
  one_cut b off w f = one_starts text f h b ∙ word_off text 1 _ _ polygon_spelt off w f

  pub many_cut : get_or text 0 0 ≡ 77 → (off : OffGrammar) → WordRead text 1 (85 ∷ 76 ∷ 84 ∷ 73 ∷ 80 ∷ 79 ∷ 76 ∷ 89 ∷ 71 ∷ 79 ∷ 78 ∷ []) (Err off) → FirstWordRead text (Err off)
  many_cut b off w f = many_starts text f h b ∙ word_off text 1 _ _ multipolygon_spelt off w f

  pub one_word : get_or text 0 0 ≡ 80 → (at : ℕ) → WordRead text 1 (79 ∷ 76 ∷ 89 ∷ 71 ∷ 79 ∷ 78 ∷ []) (Ok at) → FirstWordRead text (Ok (false, at))
  one_word b at w = (w.0, word_inside text 1 _ _ polygon_spelt at w (omega arith), λ f. one_starts text f h b ∙ word_whole text 1 _ _ polygon_spelt at w f ∙ ap (λ k. read_from text at (word_mode false k) f) (sym w.0))

  pub many_word : get_or text 0 0 ≡ 77 → (at : ℕ) → WordRead text 1 (85 ∷ 76 ∷ 84 ∷ 73 ∷ 80 ∷ 79 ∷ 76 ∷ 89 ∷ 71 ∷ 79 ∷ 78 ∷ []) (Ok at) → FirstWordRead text (Ok (true, at))
  many_word b at w = (w.0, word_inside text 1 _ _ multipolygon_spelt at w (omega arith), λ f. many_starts text f h b ∙ word_whole text 1 _ _ multipolygon_spelt at w f ∙ ap (λ k. read_from text at (word_mode true k) f) (sym w.0))

-- ---- what is behind it

module _ (text : List ℕ) (multi : Bool) (at : ℕ) (w : FirstWordRead text (Ok (multi, at))) where
  pub word_alone : (c : List ℤ) (l n : List ℕ) (r : Result Extent OffGrammar) → WithoutBrackets text at r → TextScanned text 0 start_mode c c l l n n r
  word_alone c l n r g = before text at (word_mode multi at) 0 start_mode c c l l n n r (w.2 (so_far_of [] [])) (g multi w.0 c l n)

  pub behind_bracket : (m : NextByte) → NextRead text at m → m.byte ≡ Some 40 → (c c' : List ℤ) (l l' n n' : List ℕ) (r : Result Extent OffGrammar) → TextScanned text (m.at + 1) (bracketed multi) c c' l l' n n' r → TextScanned text 0 start_mode c c' l l' n n' r
  behind_bracket m k b c c' l l' n n' r g = before text (m.at + 1) (bracketed multi) 0 start_mode c c' l l' n n' r (w.2 (so_far_of [] []) ∙ bracket_opens text at multi w.0 m k (so_far_of [] []) b) g
