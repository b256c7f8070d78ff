-- Tables that cut a list into parts, entry by entry. Assumes nothing.
use Rattle.std.specs.Prelude.{Err}
use mathlib.Core.Path.{◌≡◌, refl, sym, ◌∙◌, ap, subst}
use mathlib.Core.Logic.{⊎_elim}
use mathlib.Core.List.{List, [], ◌∷◌}
use Prim.Native.Nat.{ℕ, zero, suc, ◌+◌, ◌-◌, ◌≤◌, ◌<◌}
use native.Mathlib.Numerals.{add-one}
use native.Mathlib.Omega.{arith}
use lib.ListN.{length, get_or, take, drop, drop_of_length-le, length-drop}
use lib.Seq.{drop-cons, drop-drop, take_all}
use Rattle.rules.specs.Lists.{parts_of}
use Rattle.rules.specs.Tables.{lengths_from}
use Rattle.outlines.specs.declared.rows.Form.{Form}
use Rattle.outlines.specs.declared.rows.Form.TheVariants.{Lengths, Ends}
use Rattle.rings.specs.Parts.{part}
use Rattle.outlines.specs.Rows.{end_at, lengths_by, end_by, Within, parts_from, EndSays}

-- ---- the entries from place k on
pub table_cons : (table : List ℕ) (k : ℕ) → k < length table → drop k table ≡ get_or table k 0 ∷ drop (k + 1) table
table_cons table k h = rw (add-one, drop-cons table k 0)

pub within_start : (form : Form) (limit start : ℕ) (table : List ℕ) → Within form limit start table → start ≤ limit
unfolding Within
within_start form limit start [] w = w
within_start form limit start (entry ∷ table) w = let h = within_start form limit (end_at form start entry) table w.1 in omega arith

-- what an entry that fits gives
pub record Stepped (form : Form) (limit start : ℕ) (table : List ℕ) (k : ℕ) : Type 0 where
  pub rises : start ≤ end_at form start (get_or table k 0)
  pub reaches : end_at form start (get_or table k 0) ≤ limit
  pub rest : Within form limit (end_at form start (get_or table k 0)) (drop (k + 1) table)

pub within_step : (form : Form) (limit start : ℕ) (table : List ℕ) (k : ℕ) → k < length table → Within form limit start (drop k table) → Stepped form limit start table k
unfolding Within
within_step form limit start table k h w =
    let v : Within form limit start (get_or table k 0 ∷ drop (k + 1) table) = subst (Within form limit start) (table_cons table k h) w in
    record { rises = v.0; reaches = within_start form limit (end_at form start (get_or table k 0)) (drop (k + 1) table) v.1; rest = v.1 }

pub misfit : (form : Form) (limit start : ℕ) (table : List ℕ) (k : ℕ) → k < length table → Within form limit start (drop k table) → EndSays form (get_or table k 0) start limit (Err (record {})) → ⊥
misfit form limit start table k h w says =
    let s = within_step form limit start table k h w in
    ⊎_elim (λ past. omega (arith, s.reaches)) (λ before. omega (arith, s.rises)) says

pub end_step : (form : Form) (start : ℕ) (table : List ℕ) (k : ℕ) → k < length table → end_by form start (drop k table) ≡ end_by form (end_at form start (get_or table k 0)) (drop (k + 1) table)
unfolding end_by
end_step form start table k h = ap (end_by form start) (table_cons table k h)

pub none_left : {A : Type 0} (xs : List A) (k : ℕ) → length xs ≤ k → drop k xs ≡ []
none_left xs k h = drop_of_length-le xs {i = k} h

-- a part that reaches the end is the rest
pub to_the_end : {A : Type 0} (xs : List A) (k : ℕ) → part xs k (length xs) ≡ drop k xs
to_the_end xs k = take_all (length xs - k) (drop k xs) (omega (arith, length-drop k xs))

pub done : (form : Form) (table : List ℕ) (k start : ℕ) → length table ≤ k → start ≡ end_by form start (drop k table)
unfolding end_by
done form table k start h = sym (ap (end_by form start) (none_left table k h))

-- ---- the parts, one by one
length_by : (form : Form) (start entry : ℕ) (table : List ℕ) → start ≤ end_at form start entry → lengths_by form start (entry ∷ table) ≡ (end_at form start entry - start) ∷ lengths_by form (end_at form start entry) table
unfolding lengths_from
length_by Lengths start entry table h = ap (λ n. n ∷ table) (let e : entry ≡ start + entry - start = omega arith in e)
length_by Ends start entry table h = refl

pub parts_cons : {A : Type 0} (form : Form) (xs : List A) (start entry : ℕ) (table : List ℕ) → start ≤ end_at form start entry
    → parts_from form xs start (entry ∷ table) ≡ part xs start (end_at form start entry) ∷ parts_from form xs (end_at form start entry) table
unfolding parts_from parts_of
parts_cons form xs start entry table h =
    ap (λ ns. parts_of ns (drop start xs)) (length_by form start entry table h)
    ∙ ap (λ l. part xs start (end_at form start entry) ∷ parts_of (lengths_by form (end_at form start entry) table) l) (drop-drop (end_at form start entry - start) start xs ∙ ap (λ n. drop n xs) (let e : start + (end_at form start entry - start) ≡ end_at form start entry = omega arith in e))

pub parts_step : {A : Type 0} (form : Form) (xs : List A) (start : ℕ) (table : List ℕ) (k : ℕ) → k < length table → start ≤ end_at form start (get_or table k 0)
    → parts_from form xs start (drop k table) ≡ part xs start (end_at form start (get_or table k 0)) ∷ parts_from form xs (end_at form start (get_or table k 0)) (drop (k + 1) table)
parts_step form xs start table k h rises = ap (parts_from form xs start) (table_cons table k h) ∙ parts_cons form xs start (get_or table k 0) (drop (k + 1) table) rises

pub parts_none : {A : Type 0} (form : Form) (xs : List A) (start : ℕ) → parts_from form xs start [] ≡ []
unfolding parts_from parts_of lengths_from
parts_none Lengths xs start = refl
parts_none Ends xs start = refl

-- ---- the first m parts, and the rest
pub parts_take : {A : Type 0} (form : Form) (limit : ℕ) (xs : List A) (m start : ℕ) (table : List ℕ) → Within form limit start table → take m (parts_from form xs start table) ≡ parts_from form xs start (take m table)
unfolding Within
parts_take form limit xs zero start table w = sym (parts_none form xs start)
parts_take form limit xs (suc m) start [] w = ap (take (suc m)) (parts_none form xs start) ∙ sym (parts_none form xs start)
parts_take form limit xs (suc m) start (entry ∷ table) w =
    ap (take (suc m)) (parts_cons form xs start entry table w.0)
    ∙ ap (λ l. part xs start (end_at form start entry) ∷ l) (parts_take form limit xs m (end_at form start entry) table w.1)
    ∙ sym (parts_cons form xs start entry (take m table) w.0)

pub parts_drop : {A : Type 0} (form : Form) (limit : ℕ) (xs : List A) (m start : ℕ) (table : List ℕ) → Within form limit start table → drop m (parts_from form xs start table) ≡ parts_from form xs (end_by form start (take m table)) (drop m table)
unfolding Within end_by
parts_drop form limit xs zero start table w = refl
parts_drop form limit xs (suc m) start [] w = ap (drop (suc m)) (parts_none form xs start) ∙ sym (parts_none form xs start)
parts_drop form limit xs (suc m) start (entry ∷ table) w = ap (drop (suc m)) (parts_cons form xs start entry table w.0) ∙ parts_drop form limit xs m (end_at form start entry) table w.1

pub within_take : (form : Form) (limit m start : ℕ) (table : List ℕ) → Within form limit start table → Within form limit start (take m table)
unfolding Within
within_take form limit zero start table w = within_start form limit start table w
within_take form limit (suc m) start [] w = w
within_take form limit (suc m) start (entry ∷ table) w = (w.0, within_take form limit m (end_at form start entry) table w.1)

pub within_drop : (form : Form) (limit m start : ℕ) (table : List ℕ) → Within form limit start table → Within form limit (end_by form start (take m table)) (drop m table)
unfolding Within end_by
within_drop form limit zero start table w = w
within_drop form limit (suc m) start [] w = w
within_drop form limit (suc m) start (entry ∷ table) w = within_drop form limit m (end_at form start entry) table w.1
