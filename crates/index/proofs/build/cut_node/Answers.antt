-- `index::build::cut_node` meets its contract.
use mathlib.Core.Path.{ap, ◌∙◌}
use native.Mathlib.Omega.{arith}
use Prim.Native.Nat.{◌+◌, ◌/◌}
use Rattle.cut.specs.Keys.{axis_of}
use Rattle.index.specs.Parts.{first_at, count_at}
use Rattle.index.proofs.Tables.{node_cut, names_shuffled}
use Rattle.index.proofs.build.cut_node.Goals as goal

pub axis_of-axis-requires : goal.axis_of-axis-requires
axis_of-axis-requires c = rw c.rect_at.ensures c.requires.near_rect

pub part_box-left-requires : goal.part_box-left-requires
part_box-left-requires c =
    let f = first_at c.args.parts.now c.args.p in
    let m = count_at c.args.parts.now c.args.p in record { n_in_bounds = c.requires.corners_near.reach; ring_ends = c.requires.ring_ends; names = names_shuffled c.args.n c.args.edges.now _ f m f (m / 2) c.requires.names c.cut_part-reads.ensures.moved (omega arith) (omega arith) }

pub overflow_add-first : goal.overflow_add-first
overflow_add-first c = omega (arith, c.requires.part_inside.1, c.ranges.n)

pub part_box-right-requires : goal.part_box-right-requires
part_box-right-requires c =
    let f = first_at c.args.parts.now c.args.p in
    let m = count_at c.args.parts.now c.args.p in record { n_in_bounds = c.requires.corners_near.reach; ring_ends = c.requires.ring_ends; names = names_shuffled c.args.n c.args.edges.now _ f m (f + m / 2) _ c.requires.names c.cut_part-reads.ensures.moved (omega arith) (omega arith) }

pub put_children-requires : goal.put_children-requires
put_children-requires c =
    let room = c.requires.p_lt_free in
    let part = c.requires.part_inside in
    let few = c.requires.corners_near.few in record { p_in_bounds = (omega arith, omega arith, omega arith); part_bound = omega arith }

pub returns : goal.returns
returns c =
    let a = c.args in
    let rect = c.rect_at in
    let axis = c.axis_of-axis in
    let cut = c.cut_part-reads in
    let left = c.part_box-left in
    let right = c.part_box-right in
    let children = c.put_children in
    node_cut a.corners.now a.rings.now a.boxes.now a.parts.now a.edges.now a.p a.free children.new.boxes children.new.parts cut.new.edges cut.result axis.result left.result right.result (axis.ensures ∙ ap axis_of rect.ensures) cut.ensures left.ensures right.ensures children.ensures
