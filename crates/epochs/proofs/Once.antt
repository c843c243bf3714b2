-- Each public function's contract allows one result. Assumes nothing.
use mathlib.Core.Path.{sym, ◌∙◌}
use Rattle.pages.proofs.Once.{OneResult}
use Rattle.epochs.proofs.U64FromMode.from.Kinds as from
use Rattle.epochs.proofs.U64FromMode.from.Reads.{Post as from_post}
use Rattle.epochs.proofs.ModeTryFromU64.try_from.Kinds as try_from
use Rattle.epochs.proofs.ModeTryFromU64.try_from.Reads.{Post as try_from_post}

pub from_once : OneResult from.ps from.r from_post
from_once κs args x y s t p q = p ∙ sym q

pub try_from_once : OneResult try_from.ps try_from.r try_from_post
try_from_once κs args x y s t p q = p ∙ sym q
