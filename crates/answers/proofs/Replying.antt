-- What `put_replies` knows before each line, and how one line carries it on. Assumes nothing.
use mathlib.Core.Path.{◌≡◌, refl, sym, ap, subst, ◌∙◌}
use mathlib.Core.List.{List, [], ◌∷◌, ◌++◌, append_assoc}
use Prim.Native.Nat.{ℕ, suc, ◌+◌, ◌≤◌, ◌<◌}
use native.Mathlib.Numerals.{add-one}
use native.Mathlib.Omega.{arith}
use lib.ListN.{length, drop, length-append, length-drop}
use Rattle.std.specs.Prelude.{Some, None}
use Rattle.fields.specs.declared.lines.Line.{Line}
use Rattle.fields.specs.declared.lines.Line.TheVariants.{Ended, Unended}
use Rattle.fields.specs.Lines.{line_bytes, NextLine}
use Rattle.fields.specs.Pieces.{split, Parted}
use Rattle.fields.specs.Written.{Wrote}
use Rattle.fields.proofs.Pieces.{some_piece, parted_length, nothing_left}
use Rattle.fields.proofs.Written.{overwritten_length, wrote_on, nothing_written}
use Rattle.rules.specs.Plans.{Plan}
use Rattle.rules.specs.declared.Spot.{Spot}
use Rattle.asked.specs.Queries.{query_of}
use Rattle.answers.specs.Replies.{reply_word, reply_line, refusal_line, answer_line, answer_end, replies, asked_by, Due}

-- ---- the definition, a line at a time

one_line : (plan : Plan) (k : ℕ) (line : List ℕ) (separator : ℕ) (s : List ℕ) → replies plan k (line ∷ split separator s) ≡ answer_line plan k line (query_of (split 9 line)) (replies plan (suc k) (split separator s))
unfolding replies
one_line plan k line separator s =
    let p = some_piece separator s in
    ap (λ pieces. replies plan k (line ∷ pieces)) p.are ∙ sym (ap (λ pieces. answer_line plan k line (query_of (split 9 line)) (replies plan (suc k) pieces)) p.are)

pub next_line : (plan : Plan) (k : ℕ) (text row after : List ℕ) → Parted 10 text row after → replies plan k (split 10 text) ≡ answer_line plan k row (query_of (split 9 row)) (replies plan (k + 1) (split 10 after))
next_line plan k text row after p =
    ap (replies plan k) p.pieces
    ∙ one_line plan k row 10 after
    ∙ ap (λ j. answer_line plan k row (query_of (split 9 row)) (replies plan j (split 10 after))) (sym (add-one k))

pub last_line : (plan : Plan) (k : ℕ) (text : List ℕ) → split 10 text ≡ text ∷ [] → replies plan k (split 10 text) ≡ answer_end k text
unfolding replies
last_line plan k text e = ap (replies plan k) e

end_none : (k : ℕ) (s : List ℕ) → length s ≡ 0 → answer_end k s ≡ []
end_none k [] e = refl
end_none k (x ∷ s) e = absurd (omega arith)

end_some : (k : ℕ) (s : List ℕ) → 0 < length s → answer_end k s ≡ refusal_line 2 k
end_some k [] h = absurd (omega arith)
end_some k (x ∷ s) h = refl

-- ---- the loop

-- so many bytes are written, which the replies to the rest complete; the rest starts with the line of this number
pub record Replying (plan : Plan) (input : List ℕ) (first number : ℕ) (output₀ output : List ℕ) (at line : ℕ) (rest : List ℕ) : Type 0 where
  pub numbered : line + length rest ≤ 16385
  pub done : List ℕ
  pub wrote : Wrote 0 done output₀ output at
  pub due : replies plan number (split 10 (drop first input)) ≡ done ++ replies plan line (split 10 rest)

module _ (plan : Plan) (input : List ℕ) (first number : ℕ) (output₀ : List ℕ) (due : Due plan input first number output₀) where
  pub begun : (line : ℕ) (rest : List ℕ) → line ≡ number → rest ≡ drop first input → Replying plan input first number output₀ output₀ 0 line rest
  begun line rest same e =
      let l = length-drop first input in
      let s = due.small in
      let f = due.starts in
      let n = due.numbered in
      let r = ap length e in
      record { numbered = omega arith; done = []; wrote = nothing_written 0 output₀; due = ap (λ xs. replies plan number (split 10 xs)) (sym e) ∙ ap (λ k. replies plan k (split 10 rest)) (sym same) }

  module _ (output : List ℕ) (at line : ℕ) (rest : List ℕ) (g : Replying plan input first number output₀ output at line rest) where
    few_done : 0 + length g.done ≤ length output₀
    few_done = let r = due.room in let e = ap length g.due in let l = length-append g.done (replies plan line (split 10 rest)) in omega arith

    pub kept : length output ≡ length output₀
    kept = ap length g.wrote.whole ∙ overwritten_length 0 g.done output₀ few_done

    -- there is room for what the rest comes to
    room_for : (bytes : List ℕ) → length bytes ≤ length (replies plan line (split 10 rest)) → at + length bytes ≤ length output
    room_for bytes h =
        let r = due.room in
        let e = ap length g.due in
        let l = length-append g.done (replies plan line (split 10 rest)) in
        let n = g.wrote.next in
        let k = kept in
        omega arith

    -- bytes that end it
    pub over : (bytes output' : List ℕ) (r : ℕ) → replies plan line (split 10 rest) ≡ bytes → Wrote at bytes output output' r → Wrote 0 (replies plan number (split 10 (drop first input))) output₀ output' r
    over bytes output' r e w = subst (λ xs. Wrote 0 xs output₀ output' r) (sym (g.due ∙ ap (λ xs. g.done ++ xs) e)) (wrote_on 0 g.done output₀ few_done bytes output output' at r g.wrote w)

    -- what the rest comes to, by its first line
    refused_is : (next : Line) (after : List ℕ) → NextLine rest (Some next) after → asked_by next ≡ None → replies plan line (split 10 rest) ≡ refusal_line 2 line
    refused_is (Ended row) after p q = next_line plan line rest row.now after p ∙ ap (λ said. answer_line plan line row.now said (replies plan (line + 1) (split 10 after))) q
    refused_is (Unended row) after p q = last_line plan line rest p.0 ∙ end_some line rest p.2

    asked_is : (next : Line) (after : List ℕ) → NextLine rest (Some next) after → (query : Spot) → asked_by next ≡ Some query → replies plan line (split 10 rest) ≡ reply_line (line_bytes next) (reply_word plan query) ++ replies plan (line + 1) (split 10 after)
    asked_is (Ended row) after p query q = next_line plan line rest row.now after p ∙ ap (λ said. answer_line plan line row.now said (replies plan (line + 1) (split 10 after))) q
    asked_is (Unended row) after p query q = let one : ◌≡◌ {A = ℕ} 0 1 = cc in absurd (omega arith)

    shorter : (next : Line) (after : List ℕ) → NextLine rest (Some next) after → 1 + length after ≤ length rest
    shorter (Ended row) after p = let l = parted_length 10 rest row.now after p in omega arith
    shorter (Unended row) after p = let l = ap length p.3 in let h = p.2 in omega arith

    module _ (next : Line) (after : List ℕ) (n : NextLine rest (Some next) after) where
      module _ (q : asked_by next ≡ None) (line' : ℕ) (l : line' ≡ line) where
        refused_due : replies plan line (split 10 rest) ≡ refusal_line 2 line'
        refused_due = refused_is next after n q ∙ ap (refusal_line 2) (sym l)

        pub refused_room : at + length (refusal_line 2 line') ≤ length output
        refused_room = room_for (refusal_line 2 line') (let e = ap length refused_due in omega arith)

        pub refused : (output' : List ℕ) (r : ℕ) → Wrote at (refusal_line 2 line') output output' r → Wrote 0 (replies plan number (split 10 (drop first input))) output₀ output' r
        refused output' r w = over (refusal_line 2 line') output' r refused_due w

      module _ (row : List ℕ) (query : Spot) (b : row ≡ line_bytes next) (q : asked_by next ≡ Some query) where
        asked_due : replies plan line (split 10 rest) ≡ reply_line row (reply_word plan query) ++ replies plan (line + 1) (split 10 after)
        asked_due = asked_is next after n query q ∙ ap (λ bytes. reply_line bytes (reply_word plan query) ++ replies plan (line + 1) (split 10 after)) (sym b)

        pub asked_room : at + length (reply_line row (reply_word plan query)) ≤ length output
        asked_room =
            let e = ap length asked_due in
            let l = length-append (reply_line row (reply_word plan query)) (replies plan (line + 1) (split 10 after)) in
            room_for (reply_line row (reply_word plan query)) (omega arith)

        pub asked : (output' : List ℕ) (at' line' : ℕ) → Wrote at (reply_line row (reply_word plan query)) output output' at' → line' ≡ line + 1 → Replying plan input first number output₀ output' at' line' after
        asked output' at' line' w l =
            let m = g.numbered in
            let s = shorter next after n in
            subst (λ k. Replying plan input first number output₀ output' at' k after) (sym l)
            (record {
              numbered = omega arith;
              done = g.done ++ reply_line row (reply_word plan query);
              wrote = wrote_on 0 g.done output₀ few_done (reply_line row (reply_word plan query)) output output' at at' g.wrote w;
              due = g.due ∙ ap (λ xs. g.done ++ xs) asked_due ∙ sym (append_assoc g.done (reply_line row (reply_word plan query)) (replies plan (line + 1) (split 10 after)));
            })

    pub all_replied : rest ≡ [] → Wrote 0 (replies plan number (split 10 (drop first input))) output₀ output at
    all_replied h = over [] output at (last_line plan line rest (nothing_left 10 rest h) ∙ end_none line rest (ap length h)) (nothing_written at output)
