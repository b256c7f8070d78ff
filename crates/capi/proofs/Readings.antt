-- From what reading a text answers to the reply. Assumes nothing.
use Rattle.std.specs.Prelude.{Err, Ok}
use mathlib.Core.Path.{◌≡◌, refl, sym, ap, ◌∙◌}
use mathlib.Core.Bool.{Bool, true, false, cond}
use mathlib.Core.List.{List}
use Prim.Native.Nat.{ℕ, ◌*◌, ◌≤◌}
use native.Mathlib.Omega.{arith}
use lib.Dec.{ltb}
use lib.ListN.{length}
use borrow.Author.Tests.{le-ltb, ltb-false}
use Rattle.geom.specs.declared.Point.{Point}
use Rattle.rules.specs.declared.Refusal.{Refusal}
use Rattle.rules.specs.declared.Refusal.TheVariants.{TextTooLong, BadLine}
use Rattle.rules.specs.Plans.{Plan, plan_verdict, plan_reply, answer}
use Rattle.lines.specs.declared.Size.{Size}
use Rattle.lines.specs.Plans.{Meaning, start_meaning, gives_meaning, broken_meaning, meaning, size_of}
use Rattle.text.specs.Readings.{with_room, reading_of, reading}
use Rattle.text.proofs.Answers.{different, Given}
use Rattle.lines.proofs.Largest.{Largest, largest, accepted}
use Rattle.capi.specs.Replies.{reply_in, text_reply}

-- with room for any text's plan no table is too short
roomy : (plan : Plan) (corners lengths counts : ℕ) → Largest plan → 18720 ≤ corners → 13106 ≤ lengths → 10921 ≤ counts → with_room (size_of plan) corners lengths counts ≡ Ok (size_of plan)
roomy plan corners lengths counts g a b c =
    let e = g.even in
    let n = g.corners in
    let r = g.rings in
    let q = g.polygons in
    rw (le-ltb corners (2 * (size_of plan).corners) (omega arith), le-ltb lengths (length plan.lengths) (omega arith), le-ltb counts (length plan.counts) (omega arith)) refl

-- a refusal is 1 or 2
pub refused_reply : (text : List ℕ) (corners lengths counts : ℕ) (p : Point) (refusal : Refusal) → 18720 ≤ corners → 13106 ≤ lengths → 10921 ≤ counts → Err refusal ≡ reading text corners lengths counts → Err refusal ≡ text_reply text p
unfolding reading text_reply
refused_reply text corners lengths counts p refusal a b c h = go (ltb 65536 (length text)) refl h
  where
    by_meaning : (m : Meaning) → meaning text ≡ m → length text ≤ 65536 → Err refusal ≡ reading_of m corners lengths counts → Err refusal ≡ reply_in m p
    by_meaning start_meaning e s r = let same : refusal ≡ BadLine 1 = cc in ap Err same
    by_meaning (gives_meaning plan) e s r = different (size_of plan) refusal (sym (r ∙ roomy plan corners lengths counts (largest text plan s e) a b c))
    by_meaning (broken_meaning line) e s r = let same : refusal ≡ BadLine line = cc in ap Err same

    go : (t : Bool) → ltb 65536 (length text) ≡ t → Err refusal ≡ cond t (Err TextTooLong) (reading_of (meaning text) corners lengths counts) → Err refusal ≡ cond t (Err TextTooLong) (reply_in (meaning text) p)
    go true e r = let same : refusal ≡ TextTooLong = cc in ap Err same
    go false e r = by_meaning (meaning text) refl (ltb-false 65536 (length text) e) r

module _ (text : List ℕ) (corners₀ lengths₀ counts₀ : ℕ) (size : Size) (g : Given text corners₀ lengths₀ counts₀ size) where
  -- the reply of the plan that was read is the text's
  pub reply_is : (p : Point) → answer (plan_verdict g.plan) (plan_reply g.plan p) ≡ text_reply text p
  unfolding text_reply
  reply_is p =
      ap (λ v. answer v (plan_reply g.plan p)) (accepted text g.plan g.small g.is)
      ∙ sym (ap (λ b. cond b (Err TextTooLong) (reply_in (meaning text) p)) (le-ltb 65536 (length text) g.small) ∙ ap (λ m. reply_in m p) g.is)
