-- `index::build::build` meets its contract: the state of the tables and the stack (`Building`).
use mathlib.Core.Path.{refl, sym, ap, ◌∙◌}
use native.Mathlib.Omega.{arith}
use Rattle.index.specs.Parts.{count_at}
use Rattle.index.proofs.Building.{Frame, Rooted, rooted_frame, building_start, building_leaf, building_cut, reading_more, built, turn_inside, turn_room, turn_part, turn_names, turn_near}
use Prim.Native.Nat.{◌-◌, ◌<◌}
use lib.ListN.{get_or, set}
use Rattle.boxes.specs.Boxes.{row_of}
use Rattle.index.proofs.Readings.{reading_start, reading_leaf, reads_small}
use Rattle.index.proofs.Counts.{node_count_some, node_count_most}
use Rattle.index.proofs.build.build.Goals as goal
use Rattle.index.proofs.build.build.Goals.{After-parts-1}

root : (c : After-parts-1) → let a = c.args in Rooted a.n a.corners.now a.rings.now a.boxes.now a.parts.now a.edges.now c.put_rect.new.boxes c.put_part.new.parts c.number.new.edges
root c =
    record {
      boxes_reach = c.requires.n_in_bounds.0;
      parts_reach = c.requires.n_in_bounds.1;
      edges_reach = c.requires.n_in_bounds.2;
      numbers = c.number.ensures;
      boxes_are = c.put_rect.ensures ∙ ap (λ b. set c.args.boxes.now 0 (row_of b)) c.part_box-whole.ensures;
      parts_are = c.put_part.ensures;
    }

framed : (c : After-parts-1) → let a = c.args in Frame a.n a.boxes.now a.parts.now a.edges.now c.put_rect.new.boxes c.put_part.new.parts c.number.new.edges 1
framed c =
    let a = c.args in
    rooted_frame a.n a.corners.now a.rings.now a.boxes.now a.parts.now a.edges.now _ _ _ (root c)

pub number-requires : goal.number-requires
number-requires c = c.requires.n_in_bounds.2

pub part_box-whole-requires : goal.part_box-whole-requires
part_box-whole-requires c =
    let numbered = c.number.ensures in record { n_in_bounds = c.requires.corners_near.reach; ring_ends = c.requires.ring_ends; names = record { inside = omega (arith, numbered.long, c.requires.n_in_bounds.2); each = λ k a b. rw (numbered.inside k (omega arith)) (omega arith) } }

pub put_rect-requires : goal.put_rect-requires
put_rect-requires c = omega (arith, node_count_some c.args.n, c.requires.n_in_bounds.0)

pub put_part-requires : goal.put_part-requires
put_part-requires c = omega (arith, node_count_some c.args.n, c.requires.n_in_bounds.1)

pub loop-top-init : goal.loop-top-init
loop-top-init c =
    let a = c.args in
    (building_start a.n a.corners.now a.rings.now a.boxes.now a.parts.now a.edges.now _ _ _ (root c) _ c.requires.corners_near.few refl refl, reading_start a.corners.now a.rings.now _ _ _ _ refl)

pub overflow_sub-top : goal.overflow_sub-top
overflow_sub-top c = c.loop-top-test.true

pub offset_bounds-waiting-top : goal.offset_bounds-waiting-top
offset_bounds-waiting-top c = omega (arith, c.loop-top.invariant.0.shaping.shallow_stack)

pub bounds-waiting-top : goal.bounds-waiting-top
bounds-waiting-top c = omega (arith, c.loop-top.invariant.0.shaping.shallow_stack, c.loop-top-test.true)

pub offset_bounds-parts-p : goal.offset_bounds-parts-p
offset_bounds-parts-p c = let l = c.loop-top in let a = c.args in
    omega (arith, turn_inside a.n a.corners.now a.rings.now _ _ _ l.boxes l.parts l.edges l.waiting l.top l.free l.invariant.0 c.loop-top-test.true, l.invariant.0.frame, l.invariant.0.parts_reach, c.well_formed)

pub bounds-parts-p : goal.bounds-parts-p
bounds-parts-p c = let l = c.loop-top in let a = c.args in
    omega (arith, turn_inside a.n a.corners.now a.rings.now _ _ _ l.boxes l.parts l.edges l.waiting l.top l.free l.invariant.0 c.loop-top-test.true, l.invariant.0.parts_reach)

pub cut_node-reads-requires : goal.cut_node-reads-requires
cut_node-reads-requires c =
    let a = c.args in
    let l = c.loop-top in
    let h = c.loop-top-test.true in
    let big : 8 < count_at l.parts (get_or l.waiting (l.top - 1) 0) = omega (arith, c.if-size-gt-LEAF.true) in
    let inside = turn_inside a.n a.corners.now a.rings.now _ _ _ l.boxes l.parts l.edges l.waiting l.top l.free l.invariant.0 h in
    let room = turn_room a.n a.corners.now a.rings.now _ _ _ l.boxes l.parts l.edges l.waiting l.top l.free l.invariant.0 h big in record { corners_near = c.requires.corners_near; ring_ends = c.requires.ring_ends; p_lt_free = (inside.0, omega (arith, room.0, l.invariant.0.boxes_reach), omega (arith, room.0, l.invariant.0.parts_reach)); near_rect = turn_near a.n a.corners.now a.rings.now _ _ _ l.boxes l.parts l.edges l.waiting l.top l.free l.invariant.0 h big a.count c.requires.corners_near c.requires.ring_ends; names = turn_names a.n a.corners.now a.rings.now _ _ _ l.boxes l.parts l.edges l.waiting l.top l.free l.invariant.0 h big; part_inside = (omega arith, turn_part a.n a.corners.now a.rings.now _ _ _ l.boxes l.parts l.edges l.waiting l.top l.free l.invariant.0 h big) }

pub overflow_add-reads : goal.overflow_add-reads
overflow_add-reads c =
    let a = c.args in
    let l = c.loop-top in
    let h = c.loop-top-test.true in
    let few = c.requires.corners_near.few in
    let big : 8 < count_at l.parts (get_or l.waiting (l.top - 1) 0) = omega (arith, c.if-size-gt-LEAF.true) in
    let part = turn_part a.n a.corners.now a.rings.now _ _ _ l.boxes l.parts l.edges l.waiting l.top l.free l.invariant.0 h big in
    let inside = turn_inside a.n a.corners.now a.rings.now _ _ _ l.boxes l.parts l.edges l.waiting l.top l.free l.invariant.0 h in
    let small = reads_small a.corners.now a.rings.now _ _ _ a.n l.boxes l.parts l.edges l.waiting l.top l.free l.reads l.invariant.0.shaping l.invariant.1 few in
    omega (arith, inside.1, node_count_most a.n few, c.cut_node-reads.ensures.cut.few)

pub slice_bounds-push-end : goal.slice_bounds-push-end
slice_bounds-push-end c = sym c.loop-top.invariant.0.shaping.stack

pub overflow_add-free : goal.overflow_add-free
overflow_add-free c = let a = c.args in let l = c.loop-top in
    omega (arith, (turn_room a.n a.corners.now a.rings.now _ _ _ l.boxes l.parts l.edges l.waiting l.top l.free l.invariant.0 c.loop-top-test.true (omega (arith, c.if-size-gt-LEAF.true))).0, node_count_most a.n c.requires.corners_near.few)

pub push-requires : goal.push-requires
push-requires c = let a = c.args in let l = c.loop-top in
    omega (arith, (turn_room a.n a.corners.now a.rings.now _ _ _ l.boxes l.parts l.edges l.waiting l.top l.free l.invariant.0 c.loop-top-test.true (omega (arith, c.if-size-gt-LEAF.true))).1, l.invariant.0.shaping.stack, c.loop-top-test.true)

pub overflow_add-top : goal.overflow_add-top
overflow_add-top c = let l = c.loop-top in omega (arith, l.invariant.0.shaping.shallow_stack)

pub overflow_add-free-then-size-gt-LEAF : goal.overflow_add-free-then-size-gt-LEAF
overflow_add-free-then-size-gt-LEAF c = let a = c.args in let l = c.loop-top in
    omega (arith, (turn_room a.n a.corners.now a.rings.now _ _ _ l.boxes l.parts l.edges l.waiting l.top l.free l.invariant.0 c.loop-top-test.true (omega (arith, c.if-size-gt-LEAF.true))).0, node_count_most a.n c.requires.corners_near.few)

pub loop-top-smaller-then-size-gt-LEAF : goal.loop-top-smaller-then-size-gt-LEAF
loop-top-smaller-then-size-gt-LEAF c = let a = c.args in let l = c.loop-top in
    omega (arith, (turn_room a.n a.corners.now a.rings.now _ _ _ l.boxes l.parts l.edges l.waiting l.top l.free l.invariant.0 c.loop-top-test.true (omega (arith, c.if-size-gt-LEAF.true))).0, c.loop-top-test.true)

pub loop-top-preserved-then-size-gt-LEAF : goal.loop-top-preserved-then-size-gt-LEAF
loop-top-preserved-then-size-gt-LEAF c =
    let a = c.args in
    let l = c.loop-top in
    let h = c.loop-top-test.true in
    let cut = c.cut_node-reads in
    let big : 8 < count_at l.parts (get_or l.waiting (l.top - 1) 0) = omega (arith, c.if-size-gt-LEAF.true) in (
      building_cut a.n a.corners.now a.rings.now _ _ _ l.boxes l.parts l.edges l.waiting l.top l.free l.invariant.0 h big _ _ _ _ cut.result cut.ensures c.push.ensures,
      reading_more a.n a.corners.now a.rings.now _ _ _ l.boxes l.parts l.edges l.waiting l.top l.free l.invariant.0 h big _ _ _ _ cut.result cut.ensures c.push.ensures l.reads l.invariant.1,
    )

pub loop-top-smaller : goal.loop-top-smaller
loop-top-smaller c = omega (arith, c.loop-top-test.true)

pub loop-top-preserved : goal.loop-top-preserved
loop-top-preserved c =
    let a = c.args in
    let l = c.loop-top in
    let h = c.loop-top-test.true in (
      building_leaf a.n a.corners.now a.rings.now _ _ _ l.boxes l.parts l.edges l.waiting l.top l.free l.invariant.0 h c.if-size-gt-LEAF.false,
      reading_leaf a.corners.now a.rings.now _ _ _ a.n l.boxes l.parts l.edges l.waiting l.top l.free l.reads l.invariant.0.shaping l.invariant.1 h,
    )

pub shape_of-boxes : goal.shape_of-boxes
shape_of-boxes c = c.loop-top.invariant.0.frame.boxes_long ∙ (framed (goal.at.shape_of-boxes c).After-parts-1).boxes_long

pub shape_of-parts : goal.shape_of-parts
shape_of-parts c = c.loop-top.invariant.0.frame.parts_long ∙ (framed (goal.at.shape_of-parts c).After-parts-1).parts_long

pub shape_of-edges : goal.shape_of-edges
shape_of-edges c = c.loop-top.invariant.0.frame.edges_long ∙ (framed (goal.at.shape_of-edges c).After-parts-1).edges_long

pub returns : goal.returns
returns c =
    let a = c.args in
    let l = c.loop-top in
    built a.n a.corners.now a.rings.now a.boxes.now a.parts.now a.edges.now _ _ _ (root (goal.at.returns c).After-parts-1) l.boxes l.parts l.edges l.waiting l.top l.free l.reads l.invariant.0 l.invariant.1 c.requires.corners_near.few c.loop-top-test.false
