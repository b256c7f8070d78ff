-- `prepare::tables::put_index` meets its contract.
use mathlib.Core.Path.{refl, sym, ◌∙◌}
use mathlib.Core.Bool.{true≢false}
use Rattle.prepare.proofs.Indexing.{counted_built}
use Rattle.prepare.proofs.tables.put_index.Goals as goal

pub returns-then-state : goal.returns-then-state
returns-then-state c = record { unwritten = λ e. (refl, refl, refl); built = λ e. absurd (true≢false (sym (rw e at c.if-state.true))) }

pub build-requires : goal.build-requires
build-requires c =
    let i = c.requires c.if-state.false in record { corners_near = i.near; ring_ends = i.ends; n_in_bounds = (i.boxes_reach, i.parts_reach, i.edges_reach) }

pub returns : goal.returns
returns c = record { unwritten = λ e. absurd (true≢false (sym e ∙ c.if-state.false)); built = λ e. counted_built c.build.ensures }
