-- The first i frames are those of the columns. Assumes nothing.
use Rattle.std.proofs.Common.{ℕ, ◌≡◌, get_or}
use Rattle.frames.specs.Frames.{blank, frames_of}
use Rattle.frames.proofs.Fill.{filled}
use Rattle.frames.proofs.save.Given as goal

abbrev pub invariant-loop-i : goal.invariant-loop-i
invariant-loop-i l = record {
  frames : l.fs ≡ filled (λ (k : ℕ). get_or (frames_of l.pages l.written) k blank) l.initial.fs l.i;
}
