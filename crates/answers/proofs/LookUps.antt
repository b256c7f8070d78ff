-- Look-ups in a plan that was prepared give its replies, and preparing it is never refused. Assumes nothing.
use Rattle.std.specs.Prelude.{Ok, Err}
use mathlib.Core.Path.{◌≡◌, refl, sym, ap, ◌∙◌}
use mathlib.Core.Bool.{Bool, true, false, cond, ◌&&◌, and-false}
use mathlib.Core.Logic.{inl, inr}
use mathlib.Core.List.{List, [], ◌∷◌, ◌++◌}
use Prim.Native.Nat.{ℕ, suc, ◌≤◌}
use native.Mathlib.Omega.{arith}
use lib.Dec.{ltb}
use lib.IntN.{ℤ}
use lib.ListN.{length, drop}
use borrow.Author.Tests.{ltb-false}
use Rattle.fields.specs.Pieces.{split}
use Rattle.integers.proofs.Tests.{or_false}
use Rattle.rules.specs.declared.Kind.{Kind}
use Rattle.rules.specs.declared.Kind.TheVariants.{Polygons, Tree}
use Rattle.rules.specs.declared.Location.{Location}
use Rattle.rules.specs.declared.Location.TheVariants.{Outside}
use Rattle.rules.specs.declared.Refusal.{Refusal}
use Rattle.rules.specs.declared.State.{State}
use Rattle.rules.specs.Nodes.{node_count}
use Rattle.rules.specs.Plans.{Plan, corner_count, plan_in_range}
use Rattle.rules.specs.Tables.{polygons_in, plan_of}
use Rattle.index.proofs.Counts.{node_count_within}
use Rattle.prepare.specs.declared.Room.{Room}
use Rattle.prepare.specs.Answers.{state_of, preparing, ready_with}
use Rattle.prepare.specs.Tables.{Tables, room_of, Prepared}
use Rattle.prepare.proofs.Rooms.{accepted_next, ready_unindexed, ready_indexed, different}
use Rattle.prepare.proofs.Readiness.{held_in, held_range, held_reply, held_half, unmarked_near, marked_stray, plan_sound, index_sound}
use Rattle.prepared.specs.Calls.{Looked}
use Rattle.std.specs.Prelude.{Option, Some, None}
use Rattle.rules.specs.declared.Spot.{Spot}
use Rattle.rules.specs.Spots.{spot_in_range, near_reply, spot_reply}
use Rattle.query.proofs.Fits.{spot_located}
use Rattle.rules.specs.declared.Spot.TheVariants.{OnGrid, Doubled}
use Rattle.asked.specs.Queries.{query_of}
use Rattle.answers.specs.Replies.{place_word, reply_word, reply_line, answer_line, replies, PreparedTables, Due}
use Rattle.answers.specs.Answers.{Admitted}
use Rattle.rules.specs.Answering.{Reply}

-- ---- what a look-up gives

module _ (state : State) (corners : List ℤ) (rings polygons : List ℕ) (boxes : List (List ℤ)) (parts : List (List ℕ)) (edges : List ℕ) (t : PreparedTables state corners rings polygons boxes parts edges) where
  -- on either grid: the place that is promised, where that is outside for a marked plan and for a point out of range
  looked_at : (ranged : Bool) (location : Location) (r : Reply) → (plan_in_range (plan_of state corners rings polygons) && ranged ≡ false → location ≡ Outside) → Looked state corners rings polygons boxes parts edges ranged location r → r ≡ Ok location
  looked_at ranged location r beyond looked = go state.out_of_range ranged refl refl
    where
      go : (m k : Bool) → state.out_of_range ≡ m → ranged ≡ k → r ≡ Ok location
      go true k e f = looked.early (inl e) ∙ ap Ok (sym (beyond (ap (λ b. b && ranged) (t.marked e))))
      go false false e f = looked.early (inr f) ∙ ap Ok (sym (beyond (ap (λ b. plan_in_range (plan_of state corners rings polygons) && b) f ∙ and-false (plan_in_range (plan_of state corners rings polygons)))))
      go false true e f = (looked.looked e f).exact (t.sound e)

  pub spot_looked : (spot : Spot) (r : Reply) → Looked state corners rings polygons boxes parts edges (spot_in_range spot) (spot_reply (plan_of state corners rings polygons) spot) r → r ≡ Ok (spot_reply (plan_of state corners rings polygons) spot)
  spot_looked spot r looked = looked_at (spot_in_range spot) _ r (λ e. spot_located (plan_of state corners rings polygons) spot _ _ refl refl ∙ ap (λ b. cond b (near_reply (plan_of state corners rings polygons) spot) Outside) e) looked

-- a reply is one place, and then no refusal
pub at_place : (r : Reply) (l x : Location) → r ≡ Ok l → r ≡ Ok x → x ≡ l
at_place r l x e f = cc

pub at_no_refusal : {A : Type 0} (r : Reply) (l : Location) (refusal : Refusal) → r ≡ Ok l → r ≡ Err refusal → A
at_no_refusal r l refusal e f = let one : ◌≡◌ {A = ℕ} 0 1 = cc in absurd (omega arith)

-- ---- the plan prepared

module _ (plan : Plan) (before after : Tables) (state : State) (nodes : Option ℕ) (p : Prepared plan before after (ready_with state nodes)) where
  pub tables_prepared : PreparedTables state after.corners after.rings after.polygons after.boxes after.parts after.edges
  tables_prepared =
      record {
        marked = λ e. held_range plan before after state nodes p ∙ marked_stray plan before after state nodes p e;
        sound = λ e. let near = unmarked_near plan before after state nodes p e in record { plan = plan_sound plan before after state nodes p near; index = index_sound plan before after state nodes p near };
      }

  -- the words are the plan's, and so is all that is written
  word_held : (spot : Spot) → reply_word (held_in state after) spot ≡ reply_word plan spot
  word_held (OnGrid q) = ap place_word (held_reply plan before after state nodes p q)
  word_held (Doubled q) = ap place_word (held_half plan before after state nodes p q)

  line_held : (k : ℕ) (line : List ℕ) (said : Option Spot) (rest rest' : List ℕ) → rest ≡ rest' → answer_line (held_in state after) k line said rest ≡ answer_line plan k line said rest'
  line_held k line (Some query) rest rest' e = λ i. reply_line line (word_held query i) ++ e i
  line_held k line None rest rest' e = refl

  pub replies_held : (k : ℕ) (lines : List (List ℕ)) → replies (held_in state after) k lines ≡ replies plan k lines
  unfolding replies
  replies_held k [] = refl
  replies_held k (last ∷ []) = refl
  replies_held k (line ∷ next ∷ lines) = line_held k line (query_of (split 9 line)) _ _ (replies_held (suc k) (next ∷ lines))

  pub due_held : (input : List ℕ) (from line : ℕ) (output : List ℕ) → Due plan input from line output → Due (held_in state after) input from line output
  due_held input from line output d =
      let r = d.room in
      let e = ap length (replies_held line (split 10 (drop from input))) in
      record { small = d.small; starts = d.starts; numbered = d.numbered; room = omega arith }

-- ---- it is never refused

-- the room of tables of the ceilings: 512 corners have at most N(512) = 127 nodes
abbrev pub ceilings : Room
ceilings = record { corners = 1024; rings = 256; polygons = 256; boxes = 127; parts = 127; edges = 512 }

module _ (plan : Plan) (a : Admitted plan) where
  few : (corner_count plan ≤ 512) × (length plan.lengths ≤ 256) × (length plan.counts ≤ 256)
  few =
      let x = or_false (ltb 512 (corner_count plan)) _ a.few in
      let y = or_false (ltb 256 (length plan.lengths)) _ x.1 in
      (ltb-false 512 (corner_count plan) x.0, ltb-false 256 (length plan.lengths) y.0, ltb-false 256 (length plan.counts) y.1)

  polygons_few : polygons_in plan.kind (length plan.counts) ≤ 256
  polygons_few = go plan.kind
    where
      go : (kind : Kind) → polygons_in kind (length plan.counts) ≤ 256
      go Polygons = few.2
      go Tree = omega arith

  nodes_few : node_count (corner_count plan) ≤ 127
  nodes_few = let n = few.0 in omega (arith, node_count_within 5 (corner_count plan) (omega arith))

  prepared_ready : (nodes : Option ℕ) × (ready_with (state_of plan) nodes ≡ preparing plan ceilings)
  prepared_ready = go (state_of plan).out_of_range refl
    where
      go : (m : Bool) → (state_of plan).out_of_range ≡ m → (nodes : Option ℕ) × (ready_with (state_of plan) nodes ≡ preparing plan ceilings)
      go true e = let n = few.0 in (None, ready_unindexed (state_of plan) ceilings (omega arith) few.1 polygons_few e ∙ accepted_next plan ceilings a.accepted)
      go false e = let n = few.0 in (Some (node_count (corner_count plan)), ready_indexed (state_of plan) ceilings (omega arith) few.1 polygons_few e nodes_few nodes_few n ∙ accepted_next plan ceilings a.accepted)

  pub never_unprepared : {A : Type 0} (before after : Tables) (refusal : Refusal) → room_of before ≡ ceilings → Prepared plan before after (Err refusal) → A
  never_unprepared before after refusal room p =
      let found = prepared_ready in
      different (state_of plan) found.0 refusal (found.1 ∙ sym (p.answer ∙ ap (preparing plan) room))
