-- What is promised of a start, over the definitions that the contract of `replay` cites. Assumes nothing.
use Rattle.std.specs.Prelude.{ℕ, ◌≤◌, ◌≡◌, false, List, length, take}
use Rattle.pages.specs.Pages.{Distinct}
use Rattle.frames.specs.Frames.{pages_of}
use Rattle.frames.specs.declared.Frame.{Frame}
use Rattle.lru_cache.specs.Promises.{Fine}
use Rattle.replays.specs.Replay.{bad_start}

-- The list at the start is a list of distinct pages with room for K, unless the replay is refused.
abbrev pub StartsFine : Type 0
StartsFine = (K : ℕ) (frames : List Frame) (resident : ℕ) → bad_start K (pages_of frames) resident ≡ false → Fine K (take resident frames)

-- And distinct pages, no more than K, in a row with K places, are a start, whatever pages they are: "every 64-bit page is valid in items and in a starting cache".
abbrev pub FineStarts : Type 0
FineStarts =
    (K : ℕ) (frames : List Frame) (resident : ℕ) → resident ≤ K → K ≤ length frames → Distinct (pages_of (take resident frames))
    → bad_start K (pages_of frames) resident ≡ false
