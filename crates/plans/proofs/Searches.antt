-- A search from the front for an element that passes a test: as long as none did, the elements from i on decide. Assumes nothing.
use mathlib.Core.Path.{◌≡◌, sym, ◌∙◌, ap}
use mathlib.Core.Bool.{Bool, true, false, ◌||◌}
use mathlib.Core.List.{List, ◌∷◌}
use Prim.Native.Nat.{ℕ, ◌+◌, ◌<◌, ◌≤◌}
use native.Mathlib.Numerals.{add-one}
use lib.ListN.{length, get_or, drop, drop_of_length-le}
use lib.Seq.{drop-cons}
use Rattle.rules.specs.Lists.{any_of}

module _ {A : Type 0} (test : A → Bool) (xs : List A) where
  -- whether some element passes is what the elements from i on say
  abbrev pub Undecided : ℕ → Type 0
  Undecided i = any_of test xs ≡ any_of test (drop i xs)

  at : (i : ℕ) (x : A) (t : Bool) → drop i xs ≡ x ∷ drop (i + 1) xs → test x ≡ t → Undecided i → any_of test xs ≡ t || any_of test (drop (i + 1) xs)
  unfolding any_of
  at i x t e p h = h ∙ ap (any_of test) e ∙ ap (λ b. b || any_of test (drop (i + 1) xs)) p

  pub found : (i : ℕ) (x : A) → drop i xs ≡ x ∷ drop (i + 1) xs → test x ≡ true → Undecided i → true ≡ any_of test xs
  found i x e p h = sym (at i x true e p h)

  pub passed : (i : ℕ) (x : A) → drop i xs ≡ x ∷ drop (i + 1) xs → test x ≡ false → Undecided i → Undecided (i + 1)
  passed i x e p h = at i x false e p h

  pub none : (i : ℕ) → length xs ≤ i → Undecided i → false ≡ any_of test xs
  unfolding any_of
  none i h e = sym (e ∙ ap (any_of test) (drop_of_length-le xs h))

-- element i and what follows it, at the code's i + 1
pub element : {A : Type 0} (xs : List A) (i : ℕ) (d : A) → i < length xs → drop i xs ≡ get_or xs i d ∷ drop (i + 1) xs
element xs i d h = rw (add-one, drop-cons xs i d)
