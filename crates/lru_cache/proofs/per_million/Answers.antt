-- `lru_cache::per_million` meets its contract. Assumes nothing.
use mathlib.Core.Path.{◌∙◌}
use Rattle.lru_cache.proofs.Counting.{rate_is}
use Rattle.lru_cache.proofs.per_million.Goals as goal

pub returns : goal.returns
returns c =
    c.unwrap_or.ensures ∙ rate_is c.args.fetches c.args.items c.checked_div.result c.checked_div.ensures
