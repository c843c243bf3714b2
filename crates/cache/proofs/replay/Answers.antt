-- The columns are as long as a row can matter. Assumes nothing.
use Rattle.std.proofs.Common.{◌∙◌, ◌≤◌, sym, length}
use lib.Seq.{length-take-le}
use Rattle.cache.proofs.Widening.{reach_most}
use Rattle.cache.proofs.replay.Goals as goal

pub slice_bounds-pages-end : goal.slice_bounds-pages-end
slice_bounds-pages-end c = rw c.reach-n.ensures (reach_most (length c.args.frames.now))

pub slice_bounds-replay_by-end : goal.slice_bounds-replay_by-end
slice_bounds-replay_by-end c =
    let most : c.reach-n.result ≤ 4096 = rw c.reach-n.ensures (reach_most (length c.args.frames.now)) in
    sym (length-take-le c.reach-n.result _ most)

pub slice_bounds-written-end : goal.slice_bounds-written-end
slice_bounds-written-end c = rw c.reach-n.ensures (reach_most (length c.args.frames.now))

pub slice_bounds-replay_by-end-2 : goal.slice_bounds-replay_by-end-2
slice_bounds-replay_by-end-2 c =
    let most : c.reach-n.result ≤ 4096 = rw c.reach-n.ensures (reach_most (length c.args.frames.now)) in
    sym (length-take-le c.reach-n.result _ most)

pub replay_by-requires : goal.replay_by-requires
replay_by-requires c =
    let most : c.reach-n.result ≤ 4096 = rw c.reach-n.ensures (reach_most (length c.args.frames.now)) in
    (length-take-le c.reach-n.result _ most ∙ c.reach-n.ensures, length-take-le c.reach-n.result _ most ∙ sym (length-take-le c.reach-n.result _ most))
