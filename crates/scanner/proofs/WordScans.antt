-- Words read byte by byte. Assumes nothing.
use mathlib.Core.Path.{◌≡◌, refl, sym, ap, ◌∙◌}
use mathlib.Core.Bool.{Bool, true, false, cond}
use mathlib.Core.List.{List, [], ◌∷◌}
use Prim.Native.Nat.{ℕ, zero, suc, ◌+◌, ◌-◌, ◌≤◌, ◌<◌}
use native.Mathlib.Decide.{dec_lt}
use native.Mathlib.Numerals.{add-one}
use native.Mathlib.Omega.{arith}
use lib.Dec.{eqb}
use lib.ListN.{length, get_or}
use borrow.Author.Tests.{eq-eqb, ne_eqb, lt-ltb, le-ltb}
use Rattle.std.specs.Prelude.{Some, None, Ok, Err}
use Rattle.grammar.specs.declared.OffGrammar.{OffGrammar}
use Rattle.grammar.specs.Tokens.{byte_at}
use Rattle.grammar.specs.Words.{polygon, multipolygon, empty}
use Rattle.grammar.specs.Modes.{Mode, broken_mode, word_mode, empty_text_mode, empty_member_mode, after_member_mode, nothing_event, word_of, next_mode, event_of}
use Rattle.grammar.specs.Spellings.{breaks}
use Rattle.grammar.specs.Scans.{SoFar, is_broken, may_end, read_from}
use Rattle.grammar.proofs.Completions.{NoZero, word_fine, empty_fine}
use Rattle.grammar.proofs.Steps.{leads, leaves, stops_early, alike}
use Rattle.scanner.specs.Scanned.{Matched, WordRead}

-- ---- a byte at a place

pub byte_inside : (text : List ℕ) (at : ℕ) → at < length text → byte_at text at ≡ Some (get_or text at 0)
byte_inside text at h = ap (λ t. cond t (Some (get_or text at 0)) None) (lt-ltb at (length text) h)

pub byte_found : (text : List ℕ) (at b : ℕ) → byte_at text at ≡ Some b → (at < length text) × (get_or text at 0 ≡ b)
byte_found text at b e = go (dec_lt at (length text))
  where
    go : Dec (at < length text) → (at < length text) × (get_or text at 0 ≡ b)
    go (yes h) = (h, (let same : Some (get_or text at 0) ≡ Some b = sym (byte_inside text at h) ∙ e in cc))
    go (no h) = absurd (let none : None ≡ Some b = sym (ap (λ t. cond t (Some (get_or text at 0)) None) (le-ltb at (length text) (omega arith))) ∙ e in let one : ◌≡◌ {A = ℕ} 0 1 = cc in omega arith)

-- ---- the loop over a word

-- ---- a word's modes: so many of its bytes are read

pub record Spelt (mode : ℕ → Mode) (word : List ℕ) : Type 0 where
  pub next : (j b : ℕ) → j < length word → next_mode (mode j) b ≡ cond (eqb b (get_or word j 0)) (mode (suc j)) broken_mode
  pub silent : (j b : ℕ) → event_of (mode j) b ≡ nothing_event
  pub whole : (j : ℕ) → is_broken (mode j) ≡ false
  pub early : (j : ℕ) → j < length word → may_end (mode j) ≡ false
  pub some : (j : ℕ) → j < length word → get_or word j 0 ≡ 0 → ⊥

module _ (text : List ℕ) (at : ℕ) (mode : ℕ → Mode) (word : List ℕ) (s : Spelt mode word) where
  module _ (r : ℕ) (m : Matched text at word r) where
    so_far : (f : SoFar) (j : ℕ) → j ≤ r → read_from text at (mode 0) f ≡ read_from text (at + j) (mode j) f
    so_far f zero h = ap (λ k. read_from text k (mode 0) f) (let e : at ≡ at + 0 = omega arith in e)
    so_far f (suc j) h =
        let l = m.most in
        let b = byte_found text (at + j) (get_or word j 0) (m.upto j (omega arith)) in
        so_far f j (omega arith)
        ∙ leads text (at + j) (mode j) f (mode (suc j)) nothing_event b.0 (s.next j (get_or text (at + j) 0) (omega arith) ∙ ap (λ b. cond b (mode (suc j)) broken_mode) (eq-eqb (get_or text (at + j) 0) (get_or word j 0) b.1)) (s.silent j (get_or text (at + j) 0)) (s.whole (suc j))
        ∙ ap (λ k. read_from text k (mode (suc j)) f) (let e : at + j + 1 ≡ at + suc j = omega arith in e)

    off_at : (f : SoFar) → r < length word → read_from text at (mode 0) f ≡ breaks (at + r)
    off_at f h = so_far f r (omega arith) ∙ go (dec_lt (at + r) (length text))
      where
        go : Dec (at + r < length text) → read_from text (at + r) (mode r) f ≡ breaks (at + r)
        go (yes k) = leaves text (at + r) (mode r) f k (s.next r (get_or text (at + r) 0) h ∙ ap (λ b. cond b (mode (suc r)) broken_mode) (ne_eqb (get_or text (at + r) 0) (get_or word r 0) (λ e. m.stops h (byte_inside text (at + r) k ∙ ap Some e))))
        go (no k) = stops_early text (at + r) (mode r) f (omega arith) (s.early r h)

  pub word_off : (off : OffGrammar) → WordRead text at word (Err off) → (f : SoFar) → read_from text at (mode 0) f ≡ breaks off.place
  word_off off w f = off_at w.0 w.3 f w.2 ∙ ap breaks (sym w.1)

  pub word_whole : (end : ℕ) → WordRead text at word (Ok end) → (f : SoFar) → read_from text at (mode 0) f ≡ read_from text end (mode (length word)) f
  word_whole end w f = so_far (length word) w.1 f (length word) (omega arith) ∙ ap (λ k. read_from text k (mode (length word)) f) (sym w.0)

  pub word_inside : (end : ℕ) → WordRead text at word (Ok end) → 0 < length word → end ≤ length text
  word_inside end w p = let b = byte_found text (at + (length word - 1)) (get_or word (length word - 1) 0) (w.1.upto (length word - 1) (omega arith)) in let e = w.0 in let i = b.0 in omega arith

-- ---- the words

no_zero : (word : List ℕ) → NoZero word → (j : ℕ) → j < length word → get_or word j 0 ≡ 0 → ⊥
no_zero [] z j h e = absurd (omega arith)
no_zero (b ∷ word) z zero h e = z.0 e
no_zero (b ∷ word) z (suc j) h e = no_zero word z.1 j (omega arith) e

abbrev tail : List ℕ → List ℕ
tail [] = []
tail (b ∷ word) = word

word_next : (multi : Bool) (k b : ℕ) → (get_or (word_of multi) k 0 ≡ 0 → ⊥) → next_mode (word_mode multi k) b ≡ cond (eqb b (get_or (word_of multi) k 0)) (word_mode multi (k + 1)) broken_mode
unfolding next_mode
word_next multi k b z = rw (ne_eqb (get_or (word_of multi) k 0) 0 z) refl

word_silent : (multi : Bool) (k b : ℕ) → event_of (word_mode multi k) b ≡ nothing_event
unfolding event_of
word_silent multi k b = refl

text_next : (k b : ℕ) → (get_or empty k 0 ≡ 0 → ⊥) → next_mode (empty_text_mode k) b ≡ cond (eqb b (get_or empty k 0)) (empty_text_mode (k + 1)) broken_mode
unfolding next_mode
text_next k b z = rw (ne_eqb (get_or empty k 0) 0 z) refl

text_silent : (k b : ℕ) → event_of (empty_text_mode k) b ≡ nothing_event
unfolding event_of
text_silent k b = refl

member_next : (k b : ℕ) → (get_or empty k 0 ≡ 0 → ⊥) → next_mode (empty_member_mode k) b ≡ cond (eqb b (get_or empty k 0)) (empty_member_mode (k + 1)) broken_mode
unfolding next_mode
member_next k b z = rw (ne_eqb (get_or empty k 0) 0 z) refl

member_silent : (k b : ℕ) → event_of (empty_member_mode k) b ≡ nothing_event
unfolding event_of
member_silent k b = refl

pub polygon_spelt : Spelt (λ j. word_mode false (suc j)) (tail polygon)
polygon_spelt =
    record {
      next = λ j b h. word_next false (suc j) b (no_zero (tail polygon) (word_fine false).1 j h) ∙ ap (λ k. cond (eqb b (get_or (tail polygon) j 0)) (word_mode false k) broken_mode) (add-one (suc j));
      silent = λ j b. word_silent false (suc j) b;
      whole = λ j. refl;
      early = λ j h. refl;
      some = no_zero (tail polygon) (word_fine false).1;
    }

pub multipolygon_spelt : Spelt (λ j. word_mode true (suc j)) (tail multipolygon)
multipolygon_spelt =
    record {
      next = λ j b h. word_next true (suc j) b (no_zero (tail multipolygon) (word_fine true).1 j h) ∙ ap (λ k. cond (eqb b (get_or (tail multipolygon) j 0)) (word_mode true k) broken_mode) (add-one (suc j));
      silent = λ j b. word_silent true (suc j) b;
      whole = λ j. refl;
      early = λ j h. refl;
      some = no_zero (tail multipolygon) (word_fine true).1;
    }

pub text_spelt : Spelt (λ j. empty_text_mode (suc j)) (tail empty)
text_spelt =
    record {
      next = λ j b h. text_next (suc j) b (no_zero (tail empty) empty_fine.1 j h) ∙ ap (λ k. cond (eqb b (get_or (tail empty) j 0)) (empty_text_mode k) broken_mode) (add-one (suc j));
      silent = λ j b. text_silent (suc j) b;
      whole = λ j. refl;
      early = λ j h. ne_eqb (suc j) 5 (λ e. omega arith);
      some = no_zero (tail empty) empty_fine.1;
    }

pub member_spelt : Spelt (λ j. empty_member_mode (suc j)) (tail empty)
member_spelt =
    record {
      next = λ j b h. member_next (suc j) b (no_zero (tail empty) empty_fine.1 j h) ∙ ap (λ k. cond (eqb b (get_or (tail empty) j 0)) (empty_member_mode k) broken_mode) (add-one (suc j));
      silent = λ j b. member_silent (suc j) b;
      whole = λ j. refl;
      early = λ j h. refl;
      some = no_zero (tail empty) empty_fine.1;
    }

-- ---- behind EMPTY

member_done : (b : ℕ) → (next_mode (empty_member_mode 5) b ≡ next_mode after_member_mode b) × (event_of (empty_member_mode 5) b ≡ event_of after_member_mode b)
unfolding next_mode event_of
member_done b = (refl, refl)

pub empty_member : (text : List ℕ) (at : ℕ) (f : SoFar) → read_from text at (empty_member_mode 5) f ≡ read_from text at after_member_mode f
empty_member text at f = alike text at (empty_member_mode 5) after_member_mode f (λ h. (member_done (get_or text at 0)).0) (λ h. (member_done (get_or text at 0)).1) refl

text_done : (b : ℕ) → next_mode (empty_text_mode 5) b ≡ broken_mode
unfolding next_mode
text_done b = refl

pub text_goes_on : (text : List ℕ) (at : ℕ) (f : SoFar) → at < length text → read_from text at (empty_text_mode 5) f ≡ breaks at
text_goes_on text at f h = leaves text at (empty_text_mode 5) f h (text_done (get_or text at 0))
