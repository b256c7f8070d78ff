-- `cut::keys::cut_part` meets its contract: packed, selected, unpacked (`Packing.part_cut`).
use mathlib.Core.Path.{◌∙◌}
use native.Mathlib.Omega.{arith}
use Rattle.cut.proofs.Packing.{part_cut}
use Rattle.cut.proofs.Shuffles.{shuffled_length}
use Rattle.cut.proofs.keys.cut_part.Goals as goal

pub select-reads-requires : goal.select-reads-requires
select-reads-requires c =
    let packed = c.pack.ensures.long in
    (omega arith, omega arith, omega arith, omega (arith, c.requires.names.inside), omega (arith, c.requires.corners_near.few))

pub unpack-requires : goal.unpack-requires
unpack-requires c =
    let packed = c.pack.ensures.long in
    let moved = shuffled_length c.select-reads.ensures.moved in
    omega (arith, c.requires.names.inside)

pub shape_of-edges : goal.shape_of-edges
shape_of-edges c =
    c.unpack.ensures.long ∙ shuffled_length c.select-reads.ensures.moved ∙ c.pack.ensures.long

pub returns : goal.returns
returns c =
    let a = c.args in
    let pack = c.pack in
    let select = c.select-reads in
    let unpack = c.unpack in
    part_cut a.n a.count a.first a.size a.corners.now a.rings.now a.axis a.edges.now pack.new.edges select.new.values unpack.new.edges select.result c.requires.corners_near c.requires.ring_ends c.requires.names pack.ensures select.ensures unpack.ensures
