-- The first i elements of each column are those of the frames. Assumes nothing.
use Rattle.std.proofs.Common.{ℕ, ◌≡◌, length, false, take, get_or}
use Rattle.frames.specs.Frames.{pages_of, marks_of}
use Rattle.frames.proofs.Fill.{filled}
use Rattle.frames.proofs.load.Given as goal

abbrev pub invariant-loop-i : goal.invariant-loop-i
invariant-loop-i l = record {
  pages : l.pages ≡ filled (λ (k : ℕ). get_or (pages_of (take (length l.initial.pages) l.fs)) k 0) l.initial.pages l.i;
  marks : l.written ≡ filled (λ (k : ℕ). get_or (marks_of (take (length l.initial.pages) l.fs)) k false) l.initial.written l.i;
}
