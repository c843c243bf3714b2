-- The contracts of `run` and `per_million` allow one result, and that of `run` one content of each lent buffer and one count of resident frames. Assumes nothing.
use mathlib.Core.Path.{sym, ◌∙◌}
use Rattle.pages.proofs.Once.{OneResult, OneBuffer}
use Rattle.lru_cache.proofs.per_million.Kinds as per_million
use Rattle.lru_cache.proofs.per_million.Reads.{Post as per_million_post}
use Rattle.lru_cache.proofs.run.Kinds as run
use Rattle.lru_cache.proofs.run.Reads.{Post as run_post}

pub per_million_once : OneResult per_million.ps per_million.r per_million_post
per_million_once κs args x y s t p q = p ∙ sym q

pub run_once : OneResult run.ps run.r run_post
run_once κs args x y s t p q = p.0.tally_is ∙ sym q.0.tally_is

pub run_cache_once : OneBuffer run.ps run.r run_post (λ κs s. s.1.1.0.now)
run_cache_once κs args x y s t p q = p.0.cache_is ∙ sym q.0.cache_is

pub run_marks_once : OneBuffer run.ps run.r run_post (λ κs s. s.1.1.1.0.now)
run_marks_once κs args x y s t p q = p.0.kept_is ∙ sym q.0.kept_is

pub run_events_once : OneBuffer run.ps run.r run_post (λ κs s. s.1.1.1.1.1.0.now)
run_events_once κs args x y s t p q = p.0.events_are ∙ sym q.0.events_are

pub run_resident_once : OneBuffer run.ps run.r run_post (λ κs s. s.1.1.1.1.1.1.0.now.queue.resident)
run_resident_once κs args x y s t p q = p.0.resident_is ∙ sym q.0.resident_is
