-- Two tables read side by side: the polygon table cuts the rings that the ring table cuts out of the corners. `first` is the ring
-- reached, `start` the corner at which it starts. Assumes nothing.
use mathlib.Core.Path.{◌≡◌, refl, sym, ◌∙◌, ap, subst}
use mathlib.Core.List.{List}
use Prim.Native.Nat.{ℕ, ◌+◌, ◌-◌, ◌≤◌}
use native.Mathlib.Omega.{arith}
use lib.ListN.{take, drop}
use lib.Seq.{drop-drop}
use Rattle.outlines.specs.declared.rows.Form.{Form}
use Rattle.rings.specs.Parts.{part}
use Rattle.outlines.specs.Rows.{end_by, Within, parts_from}
use Rattle.outlines.proofs.Cuts.{parts_take, parts_drop, within_take, within_drop}

module _ {A : Type 0} (form : Form) (limit : ℕ) (xs : List A) (table : List ℕ) (w : Within form limit 0 table) where
  pub record Aligned (first start : ℕ) : Type 0 where
    pub fits : Within form limit start (drop first table)
    pub same : drop first (parts_from form xs 0 table) ≡ parts_from form xs start (drop first table)

  pub aligned : Aligned 0 0
  aligned = record { fits = w; same = refl }

  module _ (first start last : ℕ) (g : Aligned first start) (h : first ≤ last) where
    pub slice_fits : Within form limit start (part table first last)
    slice_fits = within_take form limit (last - first) start (drop first table) g.fits

    pub slice_is : part (parts_from form xs 0 table) first last ≡ parts_from form xs start (part table first last)
    slice_is = ap (take (last - first)) g.same ∙ parts_take form limit xs (last - first) start (drop first table) g.fits

    rest : {B : Type 0} (ys : List B) → drop last ys ≡ drop (last - first) (drop first ys)
    rest ys = sym (drop-drop (last - first) first ys ∙ ap (λ n. drop n ys) (let e : first + (last - first) ≡ last = omega arith in e))

    pub realigned : (next : ℕ) → next ≡ end_by form start (part table first last) → Aligned last next
    realigned next e =
        record {
          fits = subst (λ n. Within form limit n (drop last table)) (sym e) (subst (Within form limit (end_by form start (part table first last))) (sym (rest table)) (within_drop form limit (last - first) start (drop first table) g.fits));
          same =
              rest (parts_from form xs 0 table) ∙ ap (drop (last - first)) g.same ∙ parts_drop form limit xs (last - first) start (drop first table) g.fits
              ∙ (λ i. parts_from form xs (sym e i) (sym (rest table) i));
        }
