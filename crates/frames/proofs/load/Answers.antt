-- Where the loop ends, the columns are filled. Assumes nothing.
use Rattle.std.proofs.Common.{◌≡◌, ◌∙◌, false, sym, length, take, arith}
use lib.ListN.{length-map}
use lib.Seq.{length-take-le}
use Rattle.frames.specs.Frames.{pages_of, marks_of}
use Rattle.frames.specs.declared.Frame.{Frame}
use Rattle.frames.proofs.Fill.{filled_full}
use Rattle.frames.proofs.load.Goals as goal

pub returns : goal.returns
returns c =
    let all = length-take-le (length c.args.pages.now) c.args.fs.now c.requires.0 in
    let pages = length-map (take (length c.args.pages.now) c.args.fs.now) (λ (f : Frame). f.page) ∙ all in
    let marks = length-map (take (length c.args.pages.now) c.args.fs.now) (λ (f : Frame). f.written) ∙ all in
    let end : c.loop-i.i ≡ length c.args.pages.now = omega arith in (
      c.loop-i.invariant.pages ∙ filled_full (pages_of (take (length c.args.pages.now) c.args.fs.now)) c.args.pages.now 0 c.loop-i.i (sym pages) (end ∙ sym pages),
      c.loop-i.invariant.marks
          ∙ filled_full (marks_of (take (length c.args.pages.now) c.args.fs.now)) c.args.written.now false c.loop-i.i (c.requires.1 ∙ sym marks) (end ∙ sym marks),
    )
