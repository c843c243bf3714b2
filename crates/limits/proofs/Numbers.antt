-- The limits as numbers, for definitions to cite: what the code's constants say. Here they are held to the paper. Assumes nothing.
use Prim.Native.Nat.{ℕ}
use mathlib.Core.Path.{◌≡◌, refl}
use Rattle.limits.specs.declared.TheConstants.Filter as filter
use Rattle.limits.specs.declared.TheConstants.Cache as cache
use Rattle.limits.specs.declared.TheConstants.Items as items
use Rattle.limits.specs.declared.TheConstants.Input as input

-- `Filter::LEAST` and `Filter::MOST`
abbrev pub filter_least : ℕ
filter_least = filter.LEAST

abbrev pub filter_most : ℕ
filter_most = filter.MOST

-- `Cache::LEAST` and `Cache::MOST`
abbrev pub cache_least : ℕ
cache_least = cache.LEAST

abbrev pub cache_most : ℕ
cache_most = cache.MOST

-- `Items::LEAST` and `Items::MOST`
abbrev pub items_least : ℕ
items_least = items.LEAST

abbrev pub items_most : ℕ
items_most = items.MOST

-- `Input::LEAST` and `Input::MOST`
abbrev pub input_least : ℕ
input_least = input.LEAST

abbrev pub input_most : ℕ
input_most = input.MOST

-- "Filter size 1 to 1,024. Cache size 1 to 4,096. Items in a file 0 to 1,000,000." "The programs take at most 32,768 bytes."
pub record Paper : Type 0 where
  pub filter : (filter_least ≡ 1) × (filter_most ≡ 1024)
  pub cache : (cache_least ≡ 1) × (cache_most ≡ 4096)
  pub items : (items_least ≡ 0) × (items_most ≡ 1000000)
  pub input : (input_least ≡ 0) × (input_most ≡ 32768)

pub paper : Paper
paper = record { filter = (refl, refl); cache = (refl, refl); items = (refl, refl); input = (refl, refl) }
