-- Wrong answers that the contracts of the C entry and of the exports rule out, whatever the code is. Assumes nothing.
use Rattle.std.specs.Prelude.{Err, None}
use mathlib.Core.Path.{◌≡◌, refl, ap, ◌∙◌}
use mathlib.Core.Bool.{Bool, true, false, cond}
use mathlib.Core.Logic.{◌⊎◌, inl, inr}
use mathlib.Core.List.{List}
use Prim.Native.Nat.{ℕ, ◌<◌}
use lib.Dec.{ltb}
use lib.IntN.{ℤ, pos, negsuc}
use lib.ListN.{length}
use borrow.Author.Tests.{lt-ltb}
use Rattle.geom.specs.declared.Point.{Point}
use Rattle.rules.specs.declared.Location.{Location}
use Rattle.rules.specs.declared.Location.TheVariants.{Outside, Inside, OnBoundary}
use Rattle.rules.specs.declared.Refusal.TheVariants.{TextTooLong}
use Rattle.rules.specs.Numbers.{location_number, reply_number}
use Rattle.rules.specs.Plans.{plan_reply}
use Rattle.model.specs.declared.Answer as Answer
use Rattle.lines.specs.Plans.{Meaning, start_meaning, gives_meaning, broken_meaning, meaning}
use Rattle.rules.specs.declared.State.{State}
use Rattle.prepared.specs.Firsts.{points_verdict, First}
use Rattle.capi.specs.declared.exports.FirstAnswer.{FirstAnswer}
use Rattle.capi.specs.Exports as Exports
use Rattle.capi.specs.Exports.{first_numbers, unnamed_first, correction_refusal}
use Rattle.capi.specs.Replies.{reply_in, text_reply}
use Rattle.rules.specs.Answering.{Accepted}

-- 0, 1, 2, −1 or −2
abbrev Listed : ℤ → Type 0
Listed n = (n ≡ pos 0) ⊎ ((n ≡ pos 1) ⊎ ((n ≡ pos 2) ⊎ ((n ≡ negsuc 0) ⊎ (n ≡ negsuc 1))))

placed : (location : Location) → Listed (pos (location_number location))
placed Outside = inl refl
placed Inside = inr (inl refl)
placed OnBoundary = inr (inr (inl refl))

by_meaning : (m : Meaning) (p : Point) → Listed (reply_number (reply_in m p))
by_meaning start_meaning p = inr (inr (inr (inr refl)))
by_meaning (gives_meaning plan) p = placed (plan_reply plan p)
by_meaning (broken_meaning line) p = inr (inr (inr (inr refl)))

-- no other number is ever answered: not −3, −4 or −11
pub five_answers : (text : List ℕ) (p : Point) → Listed (reply_number (text_reply text p))
unfolding text_reply
five_answers text p = go (ltb 65536 (length text))
  where
    go : (b : Bool) → Listed (reply_number (cond b (Err TextTooLong) (reply_in (meaning text) p)))
    go true = inr (inr (inr (inl refl)))
    go false = by_meaning (meaning text) p

-- −1 is every longer text's answer, and it comes first
pub too_long_first : (text : List ℕ) (p : Point) → 65536 < length text → reply_number (text_reply text p) ≡ negsuc 0
unfolding text_reply
too_long_first text p h = ap (λ b. reply_number (cond b (Err TextTooLong) (reply_in (meaning text) p))) (lt-ltb 65536 (length text) h)

-- ---- the exports

-- an acceptance told as a refusal: 0 alone says that a correction was made
pub accepted_zero : correction_refusal Answer.TheVariants.Accepted ≡ 0
accepted_zero = refl

-- numbers that name no state: 15 for a list that is neither too long nor odd, and so neither a place nor none
pub unnamed_fifteen : (points : List ℤ) (Promised : State → First → Type 0) (answer : FirstAnswer) → Exports.Listed None points Promised answer → points_verdict points ≡ Accepted → answer.refusal ≡ 15
unnamed_fifteen points Promised answer is e = ap (λ (a : FirstAnswer). a.refusal) (is ∙ ap (λ v. first_numbers (unnamed_first v)) e)
