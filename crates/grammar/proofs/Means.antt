-- What a text spells, found a byte at a time, is what the grammar says, and the grammar says one thing. Assumes nothing.
use mathlib.Core.Path.{◌≡◌, refl, ap, sym, subst, ◌∙◌}
use mathlib.Core.Bool.{Bool, true, false, cond, true≢false}
use mathlib.Core.List.{List, [], ◌∷◌, ◌++◌, append_assoc, append-nil}
use Prim.Native.Nat.{ℕ, suc, ◌+◌, ◌<◌}
use native.Mathlib.Omega.{arith}
use lib.Dec.{ltb}
use lib.ListN.{length, take, drop, length-append, take-append-drop}
use lib.Seq.{take-append-le, take-append-add}
use borrow.Author.Tests.{ltb-true, ltb-false}
use Rattle.grammar.specs.Modes.{start_mode, next_mode, event_of}
use Rattle.grammar.specs.Grammar.{Polygon, Text, Begins}
use Rattle.grammar.specs.Spellings.{Spelling, spells, breaks, BreaksAt, Means}
use Rattle.grammar.specs.Scans.{nothing, built, may_end, is_broken, read, spelling}
use Rattle.grammar.proofs.Completions.{mode_after, unbroken_begins, accepted_text}
use Rattle.grammar.proofs.Runs.{State, at, step, run, run_append, run_mode, Gives, text_given, begins_unbroken}

-- ---- beginnings

begins_front : (a b : List ℕ) → Begins (a ++ b) → Begins a
begins_front a b h = (b ++ h.0, h.1, subst (λ s. Text h.1 s) (append_assoc a b h.0) h.2)

begins_take : (j : ℕ) (s : List ℕ) → Begins s → Begins (take j s)
begins_take j s h = begins_front (take j s) (drop j s) (subst Begins (sym (take-append-drop j s)) h)

text_begins : (polygons : List Polygon) (s : List ℕ) → Text polygons s → Begins s
text_begins polygons s h = ([], polygons, subst (λ t. Text polygons t) (sym (append-nil s)) h)

-- ---- the mode behind some bytes

abbrev reached : List ℕ → State
reached pre = run (at start_mode nothing) pre

mode_is : (pre : List ℕ) → (reached pre).mode ≡ mode_after start_mode pre
mode_is pre = run_mode (at start_mode nothing) pre

one_step : (pre : List ℕ) (b : ℕ) → reached (pre ++ (b ∷ [])) ≡ step (reached pre) b
unfolding run
one_step pre b = run_append (at start_mode nothing) pre (b ∷ [])

begun_unbroken : (pre : List ℕ) → Begins pre → is_broken (reached pre).mode ≡ false
begun_unbroken pre h = ap is_broken (mode_is pre) ∙ begins_unbroken pre h

unbroken_begun : (pre : List ℕ) → is_broken (reached pre).mode ≡ false → Begins pre
unbroken_begun pre h = unbroken_begins pre (sym (ap is_broken (mode_is pre)) ∙ h)

given_one : (st : State) (o p : List Polygon) → Gives st o → Gives st p → o ≡ p
given_one st o p g h = sym g.given ∙ h.given

-- ---- at the end

end_means : (pre : List ℕ) → is_broken (reached pre).mode ≡ false → Means pre (cond (may_end (reached pre).mode) (spells (reached pre).built_so_far.done) (breaks (length pre)))
end_means pre a = go (may_end (reached pre).mode) refl
  where
    go : (c : Bool) → may_end (reached pre).mode ≡ c → Means pre (cond c (spells (reached pre).built_so_far.done) (breaks (length pre)))
    go true e =
        let t = accepted_text pre (sym (ap may_end (mode_is pre)) ∙ e) in
        subst (λ o. Text o pre) (sym (text_given t.0 pre t.1).given) t.1
    go false e = record { off = λ o t. absurd (true≢false (sym (text_given o pre t).accepts ∙ e)); inside = omega arith; so_far = λ j l. begins_take j pre (unbroken_begun pre a); no_farther = λ l b. omega arith }

-- ---- byte by byte

take_next : (pre : List ℕ) (b : ℕ) (s : List ℕ) → take (suc (length pre)) (pre ++ (b ∷ s)) ≡ pre ++ (b ∷ [])
take_next pre b s = let e : suc (length pre) ≡ length pre + 1 = omega arith in ap (λ k. take k (pre ++ (b ∷ s))) e ∙ take-append-add pre (b ∷ s) 1

broken_means : (pre : List ℕ) (b : ℕ) (s : List ℕ) → is_broken (reached pre).mode ≡ false → is_broken (next_mode (reached pre).mode b) ≡ true → BreaksAt (pre ++ (b ∷ s)) (length pre)
unfolding step
broken_means pre b s a e =
    let stuck : Begins (pre ++ (b ∷ [])) → ⊥ = λ h. absurd (true≢false (sym e ∙ sym (ap (λ st. is_broken st.mode) (one_step pre b)) ∙ begun_unbroken (pre ++ (b ∷ [])) h)) in
    record {
      off = λ o t. stuck (begins_front (pre ++ (b ∷ [])) s (subst Begins (sym (append_assoc pre (b ∷ []) s)) (text_begins o (pre ++ (b ∷ s)) t)));
      inside = omega (arith, length-append pre (b ∷ s));
      so_far = λ j l. subst Begins (sym (take-append-le j pre (b ∷ s) l)) (begins_take j pre (unbroken_begun pre a));
      no_farther = λ l h. stuck (subst Begins (take_next pre b s) h);
    }

reads : (pre s : List ℕ) → is_broken (reached pre).mode ≡ false → Means (pre ++ s) (read (length pre) (reached pre).mode (reached pre).built_so_far s)
unfolding read step
reads pre [] a = subst (λ t. Means t (cond (may_end (reached pre).mode) (spells (reached pre).built_so_far.done) (breaks (length pre)))) (sym (append-nil pre)) (end_means pre a)
reads pre (b ∷ s) a = go (is_broken (next_mode (reached pre).mode b)) refl (λ h. reads (pre ++ (b ∷ [])) s h)
  where
    longer : length (pre ++ (b ∷ [])) ≡ suc (length pre)
    longer = length-append pre (b ∷ []) ∙ omega arith

    go : (d : Bool) → is_broken (next_mode (reached pre).mode b) ≡ d → (is_broken (reached (pre ++ (b ∷ []))).mode ≡ false → Means ((pre ++ (b ∷ [])) ++ s) (read (length (pre ++ (b ∷ []))) (reached (pre ++ (b ∷ []))).mode (reached (pre ++ (b ∷ []))).built_so_far s)) → Means (pre ++ (b ∷ s)) (cond d (breaks (length pre)) (read (suc (length pre)) (next_mode (reached pre).mode b) (built (reached pre).built_so_far (event_of (reached pre).mode b)) s))
    go true e rec = broken_means pre b s a e
    go false e rec =
        let m = rec (ap (λ st. is_broken st.mode) (one_step pre b) ∙ e) in
        subst (Means (pre ++ (b ∷ s))) (ap (λ k. read k (reached (pre ++ (b ∷ []))).mode (reached (pre ++ (b ∷ []))).built_so_far s) longer ∙ ap (λ st. read (suc (length pre)) st.mode st.built_so_far s) (one_step pre b))
        (subst (λ t. Means t (read (length (pre ++ (b ∷ []))) (reached (pre ++ (b ∷ []))).mode (reached (pre ++ (b ∷ []))).built_so_far s)) (append_assoc pre (b ∷ []) s) m)

-- what is found is what the grammar says
pub means : (text : List ℕ) → Means text (spelling text)
unfolding spelling run
means text = reads [] text refl

-- which is one thing
less_broken : (text : List ℕ) (j k : ℕ) → BreaksAt text j → BreaksAt text k → j < k → ⊥
less_broken text j k g h l = g.no_farther (omega (arith, h.inside)) (h.so_far (suc j) l)

pub means_one : (text : List ℕ) (m n : Spelling) → Means text m → Means text n → m ≡ n
means_one text (spells o) (spells p) g h = ap spells (given_one (reached text) o p (text_given o text g) (text_given p text h))
means_one text (spells o) (breaks k) g h = absurd (h.off o g)
means_one text (breaks j) (spells p) g h = absurd (g.off p h)
means_one text (breaks j) (breaks k) g h = go (ltb j k) (ltb k j) refl refl
  where
    go : (b c : Bool) → ltb j k ≡ b → ltb k j ≡ c → breaks j ≡ breaks k
    go true c p q = absurd (less_broken text j k g h (ltb-true j k p))
    go false true p q = absurd (less_broken text k j h g (ltb-true k j q))
    go false false p q = let l = ltb-false j k p in let r = ltb-false k j q in ap breaks (let e : j ≡ k = omega arith in e)
