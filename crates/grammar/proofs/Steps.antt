-- A text read from a place on: one byte more, and its end. Assumes nothing.
use mathlib.Core.Path.{◌≡◌, refl, sym, ap, ap₂, ◌∙◌}
use mathlib.Core.Bool.{Bool, true, false, cond, not, true≢false}
use mathlib.Core.List.{List}
use Prim.Native.Nat.{ℕ, ◌+◌, ◌≤◌, ◌<◌}
use native.Mathlib.Decide.{dec_lt}
use native.Mathlib.Numerals.{add-one}
use native.Mathlib.Omega.{arith}
use lib.ListN.{length, get_or, drop_of_length-le}
use borrow.Author.Tests.{lt-ltb, le-ltb, eq-eqb, eqb-true}
use lib.Dec.{eqb}
use Rattle.std.specs.Prelude.{Option, Some, None}
use Rattle.std.specs.Option.{option_eq}
use lib.Seq.{drop-cons}
use Rattle.grammar.specs.declared.NextByte.{NextByte}
use Rattle.grammar.specs.Modes.{Mode, broken_mode, Event, nothing_event, next_mode, event_of}
use Rattle.grammar.specs.Spellings.{spells, breaks}
use Rattle.grammar.specs.Scans.{SoFar, built, may_end, is_broken, read, read_from}
use Rattle.grammar.specs.Tokens.{Resting, NextRead}

module _ (text : List ℕ) (at : ℕ) (mode : Mode) (f : SoFar) where
  here : at < length text → read_from text at mode f ≡ cond (is_broken (next_mode mode (get_or text at 0))) (breaks at) (read_from text (at + 1) (next_mode mode (get_or text at 0)) (built f (event_of mode (get_or text at 0))))
  unfolding read
  here h =
      ap (read at mode f) (drop-cons text at 0 h)
      ∙ ap (λ k. cond (is_broken (next_mode mode (get_or text at 0))) (breaks at) (read_from text k (next_mode mode (get_or text at 0)) (built f (event_of mode (get_or text at 0))))) (sym (add-one at))

  -- a byte that leads on
  pub leads : (next : Mode) (event : Event) → at < length text → next_mode mode (get_or text at 0) ≡ next → event_of mode (get_or text at 0) ≡ event → is_broken next ≡ false → read_from text at mode f ≡ read_from text (at + 1) next (built f event)
  leads next event h n e w =
      here h
      ∙ ap (λ m. cond (is_broken m) (breaks at) (read_from text (at + 1) m (built f (event_of mode (get_or text at 0))))) n
      ∙ ap (λ b. cond b (breaks at) (read_from text (at + 1) next (built f (event_of mode (get_or text at 0))))) w
      ∙ ap (λ e. read_from text (at + 1) next (built f e)) e

  -- a byte at which the text leaves the grammar
  pub leaves : at < length text → next_mode mode (get_or text at 0) ≡ broken_mode → read_from text at mode f ≡ breaks at
  leaves h n = here h ∙ ap (λ m. cond (is_broken m) (breaks at) (read_from text (at + 1) m (built f (event_of mode (get_or text at 0))))) n

  end : length text ≤ at → read_from text at mode f ≡ cond (may_end mode) (spells f.done) (breaks at)
  unfolding read
  end h = ap (read at mode f) (drop_of_length-le text h)

  -- it only ends early
  pub stops_early : length text ≤ at → may_end mode ≡ false → read_from text at mode f ≡ breaks at
  stops_early h e = end h ∙ ap (λ b. cond b (spells f.done) (breaks at)) e

  pub stops_whole : length text ≤ at → may_end mode ≡ true → read_from text at mode f ≡ spells f.done
  stops_whole h e = end h ∙ ap (λ b. cond b (spells f.done) (breaks at)) e

  -- a space where it changes nothing
  pub space_skipped : at < length text → get_or text at 0 ≡ 32 → Resting mode → read_from text at mode f ≡ read_from text (at + 1) mode f
  space_skipped h b r = leads mode nothing_event h (ap (next_mode mode) b ∙ r.stays) (ap (event_of mode) b ∙ r.silent) r.whole

-- a mode that goes on like another
pub alike : (text : List ℕ) (at : ℕ) (mode other : Mode) (f : SoFar) → (at < length text → next_mode mode (get_or text at 0) ≡ next_mode other (get_or text at 0)) → (at < length text → event_of mode (get_or text at 0) ≡ event_of other (get_or text at 0)) → may_end mode ≡ may_end other → read_from text at mode f ≡ read_from text at other f
alike text at mode other f n e m = go (dec_lt at (length text))
  where
    go : Dec (at < length text) → read_from text at mode f ≡ read_from text at other f
    go (yes h) =
        here text at mode f h
        ∙ ap₂ (λ next event. cond (is_broken next) (breaks at) (read_from text (at + 1) next (built f event))) (n h) (e h)
        ∙ sym (here text at other f h)
    go (no h) = end text at mode f (omega arith) ∙ ap (λ b. cond b (spells f.done) (breaks at)) m ∙ sym (end text at other f (omega arith))

-- ---- a byte behind spaces

module _ (text : List ℕ) (at : ℕ) (m : NextByte) (g : NextRead text at m) where
  byte_here : (b : ℕ) → m.byte ≡ Some b → (m.at < length text) × (get_or text m.at 0 ≡ b)
  byte_here b e = go (dec_lt m.at (length text))
    where
      go : Dec (m.at < length text) → (m.at < length text) × (get_or text m.at 0 ≡ b)
      go (yes h) = (h, (let same : Some (get_or text m.at 0) ≡ Some b = sym (g.byte ∙ ap (λ t. cond t (Some (get_or text m.at 0)) None) (lt-ltb m.at (length text) h)) ∙ e in cc))
      go (no h) = absurd (let none : None ≡ Some b = sym (g.byte ∙ ap (λ t. cond t (Some (get_or text m.at 0)) None) (le-ltb m.at (length text) (omega arith))) ∙ e in let one : ◌≡◌ {A = ℕ} 0 1 = cc in omega arith)

  pub byte_inside : (b : ℕ) → m.byte ≡ Some b → m.at < length text
  byte_inside b e = (byte_here b e).0

  pub byte_is : (b : ℕ) → m.byte ≡ Some b → get_or text m.at 0 ≡ b
  byte_is b e = (byte_here b e).1

  pub byte_there : m.at < length text → m.byte ≡ Some (get_or text m.at 0)
  byte_there h = g.byte ∙ ap (λ t. cond t (Some (get_or text m.at 0)) None) (lt-ltb m.at (length text) h)

  pub no_byte : m.byte ≡ None → length text ≤ m.at
  no_byte e = go (dec_lt m.at (length text))
    where
      go : Dec (m.at < length text) → length text ≤ m.at
      go (yes h) = absurd (let some : None ≡ Some (get_or text m.at 0) = sym e ∙ byte_there h in let one : ◌≡◌ {A = ℕ} 0 1 = cc in omega arith)
      go (no h) = omega arith

  -- it leads on
  pub byte_leads : (mode : Mode) (f : SoFar) (b : ℕ) (next : Mode) (event : Event) → Resting mode → m.byte ≡ Some b → next_mode mode b ≡ next → event_of mode b ≡ event → is_broken next ≡ false → read_from text at mode f ≡ read_from text (m.at + 1) next (built f event)
  byte_leads mode f b next event r e n v w =
      let same = byte_is b e in
      g.skipped.same mode f r ∙ leads text m.at mode f next event (byte_inside b e) (ap (next_mode mode) same ∙ n) (ap (event_of mode) same ∙ v) w

  -- no text goes on with it
  pub byte_refused : (mode : Mode) (f : SoFar) → Resting mode → may_end mode ≡ false → ((b : ℕ) → m.byte ≡ Some b → (b ≡ 32 → ⊥) → next_mode mode b ≡ broken_mode) → read_from text at mode f ≡ breaks m.at
  byte_refused mode f r e n = g.skipped.same mode f r ∙ go (dec_lt m.at (length text))
    where
      go : Dec (m.at < length text) → read_from text m.at mode f ≡ breaks m.at
      go (yes h) = leaves text m.at mode f h (n (get_or text m.at 0) (byte_there h) (g.skipped.stops h))
      go (no h) = stops_early text m.at mode f (omega arith) e

-- ---- a byte that is another

pub other_byte : (r : Option ℕ) (b x : ℕ) → r ≡ Some b → (b ≡ x → ⊥) → r ≡ Some x → ⊥
other_byte r b x e n h = n (let same : Some b ≡ Some x = sym e ∙ h in cc)

pub none_byte : (r : Option ℕ) (x : ℕ) → r ≡ None → r ≡ Some x → ⊥
none_byte r x e h = let none : None ≡ Some x = sym e ∙ h in let one : ◌≡◌ {A = ℕ} 0 1 = cc in omega arith

-- what a comparison with a byte says
pub byte_differs : (r : Option ℕ) (b : ℕ) → true ≡ not (option_eq eqb r (Some b)) → r ≡ Some b → ⊥
byte_differs r b e h = true≢false (e ∙ ap (λ o. not (option_eq eqb o (Some b))) h ∙ ap not (eq-eqb b b refl))

pub byte_same : (r : Option ℕ) (b : ℕ) → false ≡ not (option_eq eqb r (Some b)) → r ≡ Some b
byte_same None b e = absurd (true≢false (sym e))
byte_same (Some x) b e = go (eqb x b) refl e
  where
    go : (t : Bool) → eqb x b ≡ t → false ≡ not t → Some x ≡ Some b
    go true p h = ap Some (eqb-true x b p)
    go false p h = absurd (true≢false (sym h))
