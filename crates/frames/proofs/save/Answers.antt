-- A turn puts the frame of the two columns at its place, and where the loop ends the row is filled. Assumes nothing.
use Rattle.std.proofs.Common.{◌≡◌, ◌≤◌, ◌∙◌, sym, length, arith}
use Rattle.frames.specs.Frames.{blank, frames_of}
use Rattle.frames.proofs.Columns.{frames-length, frames-get_or}
use Rattle.frames.proofs.Fill.{filled_next, filled_front}
use Rattle.frames.proofs.save.Goals as goal

pub loop-i-preserved : goal.loop-i-preserved
loop-i-preserved c = record {
  frames = filled_next (frames_of c.args.pages.now c.args.written.now) c.args.fs.now blank c.loop-i.i c.loop-i.invariant.frames
      (frames-get_or c.args.pages.now c.args.written.now c.loop-i.i c.requires.1 c.loop-i-test.true);
}

pub returns : goal.returns
returns c =
    let made = frames-length c.args.pages.now c.args.written.now c.requires.1 in
    let end : c.loop-i.i ≡ length c.args.pages.now = omega arith in
    let room : length (frames_of c.args.pages.now c.args.written.now) ≤ length c.args.fs.now = omega (arith, made, c.requires.0) in
    c.loop-i.invariant.frames ∙ filled_front (frames_of c.args.pages.now c.args.written.now) c.args.fs.now blank c.loop-i.i room (end ∙ sym made)
