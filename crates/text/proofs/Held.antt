-- Where a plan was read, the tables have room for it and start with it. Assumes nothing.
use mathlib.Core.Path.{◌≡◌, refl, sym, ap, subst, ◌∙◌}
use mathlib.Core.List.{List}
use Prim.Native.Nat.{ℕ, ◌*◌, ◌≤◌}
use native.Mathlib.Omega.{arith}
use lib.IntN.{ℤ}
use lib.ListN.{length, take, drop}
use lib.Seq.{take_at}
use Rattle.rules.specs.Plans.{Plan}
use Rattle.lines.specs.declared.Size.{Size}
use Rattle.lines.specs.Plans.{meaning, size_of}
use Rattle.lines.specs.Stored.{plan_in, starting_with}
use Rattle.lines.specs.Steps.{Ready}
use Rattle.text.proofs.Answers.{Given}
use Rattle.lines.proofs.Largest.{largest}

module _ (text : List ℕ) (corners₀ lengths₀ counts₀ : ℕ) (size : Size) (g : Given text corners₀ lengths₀ counts₀ size) where
  -- the plan's lists fit
  pub lists_fit : (length g.plan.coordinates ≤ corners₀) × (length g.plan.lengths ≤ lengths₀) × (length g.plan.counts ≤ counts₀)
  lists_fit = subst (λ m. Ready m corners₀ lengths₀ counts₀) g.is g.ready

  -- so do the counts in the answer
  pub counts_fit : (2 * size.corners ≤ corners₀) × (size.rings ≤ lengths₀) × (size.polygons ≤ counts₀)
  counts_fit =
      let e = (largest text g.plan g.small g.is).even in
      let f = lists_fit in
      subst (λ s. (2 * s.corners ≤ corners₀) × (s.rings ≤ lengths₀) × (s.polygons ≤ counts₀)) (sym g.counted) (omega arith, f.1, f.2)

  -- what stands at the start of the tables is the plan
  pub plan_held_lem : (corners corners' : List ℤ) (lengths lengths' counts counts' : List ℕ) → corners' ≡ starting_with (plan_in (meaning text)).coordinates corners → lengths' ≡ starting_with (plan_in (meaning text)).lengths lengths → counts' ≡ starting_with (plan_in (meaning text)).counts counts → ◌≡◌ {A = Plan} (record { kind = size.kind; coordinates = take (2 * size.corners) corners'; lengths = take size.rings lengths'; counts = take size.polygons counts' }) g.plan
  plan_held_lem corners corners' lengths lengths' counts counts' a b c =
      let plan = g.plan in
      let e = (largest text plan g.small g.is).even in
      let held : plan_in (meaning text) ≡ plan = ap plan_in g.is in
      let k : size.kind ≡ plan.kind = ap (λ s. s.kind) g.counted in
      let x : take (2 * size.corners) corners' ≡ plan.coordinates = ap (λ s. take (2 * s.corners) corners') g.counted ∙ ap (take (2 * (size_of plan).corners)) (a ∙ ap (λ q. starting_with q.coordinates corners) held) ∙ take_at plan.coordinates (drop (length plan.coordinates) corners) (2 * (size_of plan).corners) e in
      let y : take size.rings lengths' ≡ plan.lengths = ap (λ s. take s.rings lengths') g.counted ∙ ap (take (length plan.lengths)) (b ∙ ap (λ q. starting_with q.lengths lengths) held) ∙ take_at plan.lengths (drop (length plan.lengths) lengths) (length plan.lengths) refl in
      let z : take size.polygons counts' ≡ plan.counts = ap (λ s. take s.polygons counts') g.counted ∙ ap (take (length plan.counts)) (c ∙ ap (λ q. starting_with q.counts counts) held) ∙ take_at plan.counts (drop (length plan.counts) counts) (length plan.counts) refl in
      λ i. record { kind = k i; coordinates = x i; lengths = y i; counts = z i }
