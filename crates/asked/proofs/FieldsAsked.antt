-- What a line asks, by its fields as they are found one after another. Assumes nothing.
use mathlib.Core.Path.{◌≡◌, sym, ap, ◌∙◌}
use mathlib.Core.Bool.{true, ◌||◌}
use mathlib.Core.List.{List, [], ◌∷◌}
use Prim.Native.Nat.{ℕ}
use Rattle.std.specs.Prelude.{Option, None, is_some}
use Rattle.std.specs.Borrow.{Bor}
use Rattle.fields.specs.Bytes.{same_bytes}
use Rattle.fields.specs.Pieces.{split, Parted, SplitOnce}
use Rattle.fields.proofs.Pieces.{two_pieces}
use Rattle.asked.specs.Queries.{word_query, query_of, asks}
use Rattle.asked.specs.Words.{grid_word, half_word}

pub first_word : (s word rest : List ℕ) → Parted 9 s word rest → (same_bytes word grid_word || same_bytes word half_word) ≡ asks (split 9 s)
unfolding asks
first_word s word rest p = sym (ap asks p.pieces)

module _ (s word rest first second : List ℕ) (p : Parted 9 s word rest) (q : Parted 9 rest first second) where
  three : split 9 s ≡ word ∷ first ∷ split 9 second
  three = p.pieces ∙ ap (λ fields. word ∷ fields) q.pieces

  pub three_fields_lem : split 9 second ≡ second ∷ [] → word_query word first second ≡ query_of (split 9 s)
  unfolding query_of
  three_fields_lem e = sym (ap query_of (three ∙ ap (λ fields. word ∷ first ∷ fields) e))

  pub more_fields : (r : Option (Bor (List ℕ) × Bor (List ℕ))) → SplitOnce 9 second r → true ≡ is_some r → None ≡ query_of (split 9 s)
  unfolding query_of
  more_fields r g e = let t = two_pieces 9 second r g e in sym (ap query_of (three ∙ ap (λ fields. word ∷ first ∷ fields) t.are))
