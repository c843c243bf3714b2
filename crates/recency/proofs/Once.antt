-- What the contracts of the public functions determine: `find` one place, `save` one content of each column, `evict` one frame; of logs that hold a cache, the frames that they hold. Assumes nothing.
use mathlib.Core.Path.{◌≡◌, sym, ap, ◌∙◌}
use mathlib.Core.List.{List}
use mathlib.Core.Option.{Option, get_or}
use Rattle.pages.proofs.Once.{OneResult, OneBuffer}
use Rattle.frames.specs.Frames.{blank}
use Rattle.frames.specs.declared.Frame.{Frame}
use Rattle.chains.proofs.Counted.{counted_once}
use Rattle.recency.specs.Held.{frames, Holds, Gone}
use Rattle.recency.specs.declared.Queue.{Queue}
use Rattle.recency.specs.State.{State}
use Rattle.recency.proofs.find.Kinds as find
use Rattle.recency.proofs.find.Reads.{Post as find_post}
use Rattle.recency.proofs.Log.find.Kinds as find_in
use Rattle.recency.proofs.Log.find.Reads.{Post as find_in_post}
use Rattle.recency.proofs.save.Kinds as save
use Rattle.recency.proofs.save.Reads.{Post as save_post}
use Rattle.recency.proofs.Log.save.Kinds as save_in
use Rattle.recency.proofs.Log.save.Reads.{Post as save_in_post}

pub find_once : OneResult find.ps find.r find_post
find_once κs args x y s t p q = counted_once (p ∙ sym q)

pub find_in_once : OneResult find_in.ps find_in.r find_in_post
find_in_once κs args x y s t p q = counted_once (p ∙ sym q)

pub save_once : OneBuffer save.ps save.r save_post (λ κs s. s.1.1.1.0.now)
save_once κs args x y s t p q = p.0 ∙ sym q.0

pub save_marks_once : OneBuffer save.ps save.r save_post (λ κs s. s.1.1.1.1.0.now)
save_marks_once κs args x y s t p q = p.1 ∙ sym q.1

pub save_in_once : OneBuffer save_in.ps save_in.r save_in_post (λ κs s. s.1.0.now)
save_in_once κs args x y s t p q = p.0 ∙ sym q.0

pub save_in_marks_once : OneBuffer save_in.ps save_in.r save_in_post (λ κs s. s.1.1.0.now)
save_in_marks_once κs args x y s t p q = p.1 ∙ sym q.1

-- Whatever logs `used` and `load` leave, they hold the same frames in the same order.
pub holds_once : {s : List Frame} {log log' : State} → Holds s log → Holds s log' → frames log ≡ frames log'
holds_once p t = p.frames_are ∙ sym t.frames_are

-- Any two evictions leave the same frames, and tell the same one.
pub evict_once : {log : State} {q q' : Queue} {f f' : Frame} → Gone log q f → Gone log q' f'
    → (frames (record log { queue = q }) ≡ frames (record log { queue = q' })) × (f ≡ f')
evict_once p t = (p.frames_are ∙ sym t.frames_are, ap (λ (o : Option Frame). get_or o blank) (sym p.last_is ∙ t.last_is))
