-- A loop over a table that cuts a list into parts: what is reached, in either form, and how one entry more carries it on.
-- `Rel` is what the loop knows of the parts still to come. Assumes nothing.
use Rattle.std.specs.Prelude.{Ok, Err}
use Rattle.std.specs.Prelude.{◌≡◌, Err, IsErrAnd}
use Rattle.std.proofs.lemmas.Result.{err_from_is_err_and}
use mathlib.Core.Path.{sym, ◌∙◌, ap, subst}
use mathlib.Core.Logic.{inr, ⊎_elim}
use mathlib.Core.List.{List, [], ◌∷◌}
use Prim.Native.Nat.{ℕ, ◌+◌, ◌≤◌, ◌<◌}
use native.Mathlib.Omega.{arith}
use lib.ListN.{length, drop, get_or}
use Rattle.rules.specs.declared.Location.{Location}
use Rattle.rules.specs.declared.Refusal.{Refusal}
use Rattle.rules.specs.declared.Refusal.TheVariants.{Unsound}
use Rattle.rules.specs.Answering.{Reply}
use Rattle.outlines.specs.declared.rows.Form.{Form}
use Rattle.rings.specs.Parts.{part}
use Rattle.outlines.specs.Rows.{Within, parts_from, EndSays}
use Rattle.outlines.specs.Shapes.{Placed, Shown}
use Rattle.outlines.proofs.Cuts.{none_left, within_step, misfit, parts_step, parts_none}

module _ {A : Type 0} (form : Form) (limit start : ℕ) (xs : List A) (table : List ℕ) where
  pub record Reached (at k : ℕ) (Rel : List (List A) → Type 0) : Type 0 where
    pub few : k ≤ length table
    pub low : at ≤ limit
    pub rest : Within form limit start table → Within form limit at (drop k table)
    pub rel : Within form limit start table → Rel (parts_from form xs at (drop k table))

  pub begun : (Rel : List (List A) → Type 0) → start ≤ limit → Rel (parts_from form xs start table) → Reached start 0 Rel
  begun Rel h r = record { few = omega arith; low = h; rest = λ w. w; rel = λ w. r }

  module _ (at k : ℕ) (Rel : List (List A) → Type 0) (g : Reached at k Rel) where
    pub refused : k < length table → EndSays form (get_or table k 0) at limit (Err (record {})) → Within form limit start table → ⊥
    refused h says w = misfit form limit at table k h (g.rest w) says

    pub over : length table ≤ k → Within form limit start table → Rel []
    over h w = subst Rel (ap (parts_from form xs at) (none_left table k h) ∙ parts_none form xs at) (g.rel w)

    -- the part that an entry gives, and the ones after it
    module _ (end : ℕ) (h : k < length table) (says : EndSays form (get_or table k 0) at limit (Ok end)) where
      pub ahead : Within form limit start table → Rel (part xs at end ∷ parts_from form xs end (drop (k + 1) table))
      ahead w =
          let s = within_step form limit at table k h (g.rest w) in
          subst (λ e. Rel (part xs at e ∷ parts_from form xs e (drop (k + 1) table))) (sym says.0) (subst Rel (parts_step form xs at table k h s.rises) (g.rel w))

      pub onward : (Next : List (List A) → Type 0) → ((later : List (List A)) → Rel (part xs at end ∷ later) → Next later) → Reached end (k + 1) Next
      onward Next f =
          record {
            few = omega arith;
            low = says.2;
            rest = λ w. subst (λ e. Within form limit e (drop (k + 1) table)) (sym says.0) (within_step form limit at table k h (g.rest w)).rest;
            rel = λ w. f (parts_from form xs end (drop (k + 1) table)) (ahead w);
          }

-- ---- an entry that does not fit gets 15
refused_as : (r : Reply) → IsErrAnd r (λ e. e ≡ Unsound) → r ≡ Err Unsound
refused_as r is = let p = err_from_is_err_and r is in rw (p.1, p.2)

pub misfit_placed : (r : Reply) → IsErrAnd r (λ e. e ≡ Unsound) → Placed r
misfit_placed r is = inr (refused_as r is)

pub misfit_shown : (form : Form) (limit start : ℕ) (table : List ℕ) (location : Location) (r : Reply) → IsErrAnd r (λ e. e ≡ Unsound) → (Within form limit start table → ⊥) → Shown form limit start table location r
misfit_shown form limit start table location r is never = record { placed = misfit_placed r is; exact = λ w. absurd (never w) }

-- a reply that is passed on as it is
pub refused_placed : (r s : Reply) (e : Refusal) → Placed r → r ≡ Err e → IsErrAnd s (λ d. d ≡ e) → Placed s
refused_placed r s e placed is passed =
    let p = err_from_is_err_and s passed in
    ⊎_elim (λ at. absurd (let no : ⊥ = cc (at.1, is) in no)) (λ same. inr (cc (p.1, p.2, same, is))) placed
