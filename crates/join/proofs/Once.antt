-- The contract of `join` allows one result, and of the output one content afterwards. Assumes nothing.
use mathlib.Core.Path.{sym, ◌∙◌}
use Rattle.pages.proofs.Once.{OneResult, OneBuffer}
use Rattle.join.proofs.join.Kinds as join
use Rattle.join.proofs.join.Reads.{Post as join_post}

-- Two results that the contract allows are the same.
pub join_once : OneResult join.ps join.r join_post
join_once κs args x y s t p q = p.0 ∙ sym q.0

-- So are two contents of the output.
pub join_out_once : OneBuffer join.ps join.r join_post (λ κs s. s.1.1.0.now)
join_out_once κs args x y s t p q = p.1 ∙ sym q.1
