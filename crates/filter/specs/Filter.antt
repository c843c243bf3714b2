-- The reducer's filter: a row of item numbers, one for each page that it holds, and chains by which a page is found. No page is stored: it is read from the file. Assumes nothing.
use Rattle.std.specs.Prelude.{ℕ, zero, suc, ◌+◌, ◌-◌, ◌*◌, ◌/◌, ◌%◌, ◌≤◌, ◌<◌, ◌≡◌, Bool, true, false, cond, not, List, [], ◌∷◌, map, length, get_or, take, replicate, filter, min, nat_le, ltb, eqb, Option, Some, None}
use Rattle.std.specs.List.{reduce}
use Rattle.std.specs.Coded.{Coded-set, coded_ℕ, coded_bool, coded_list, ×_prop, Unit-prop, le_prop}
use Rattle.limits.proofs.Numbers.{filter_most}
use Rattle.pages.specs.Pages.{has, place, Distinct}
use Rattle.trace.specs.Layout.{item_at}
use Rattle.chains.specs.Chains.{at, newest, Chained, mixed}

-- ---- which pages it holds

-- The pages of the items of a file that have these numbers.
unfoldable pub pages_of : List ℕ → List ℕ → List ℕ
pages_of file items = map (λ i. (item_at file i).page) items

-- The pages that a filter holds: those of the items noted in its first places.
abbrev pub pages_in : List ℕ → List ℕ → ℕ → List ℕ
pages_in file last held = pages_of file (take held last)

-- Place j notes an item of the file.
pub record Stands (file last : List ℕ) (j : ℕ) : Type 0 where
  pub within : j < length last
  pub readable : 23 + 19 * (get_or last j 0 + 1) ≤ length file

-- The first `held` places note items of the file, whose pages are l, and none of them stands twice.
pub record Notes (file last : List ℕ) (held : ℕ) (l : List ℕ) : Type 0 where
  pub within : held ≤ length last
  pub readable : (j : ℕ) → j < held → 23 + 19 * (get_or last j 0 + 1) ≤ length file
  pub pages_are : pages_in file last held ≡ l
  pub once : Distinct l

-- ---- how it finds them

-- How many places there are.
abbrev pub places : ℕ
places = filter_most

-- How many buckets there are.
abbrev pub buckets : ℕ
buckets = 1024

-- The bucket of a page: ten bits of the number that it is mixed to.
unfoldable pub bucket_of : ℕ → ℕ
bucket_of p = mixed p / 4194304 % buckets

-- The bucket of the page at a place of a list.
unfoldable pub bucket_at : List ℕ → ℕ → ℕ
bucket_at l j = bucket_of (at l j)

-- The filter holds the pages l. It has as many places as `last`; its chains are by the pages' buckets, and two bytes hold base plus every place.
pub record Holds (file last : List ℕ) (held base : ℕ) (heads next l : List ℕ) : Type 0 where
  pub notes : Notes file last held l
  pub chained : Chained (bucket_at l) held base heads next
  pub heads_long : buckets ≤ length heads
  pub next_long : length last ≤ length next
  pub small : base + length last ≤ 65535

-- The rows are a filter.
abbrev pub IsFilter : List ℕ → List ℕ → ℕ → ℕ → List ℕ → List ℕ → Type 0
IsFilter file last held base heads next = Holds file last held base heads next (pages_in file last held)

-- ---- it is one fact, which has one proof, as a ghost field has to

Distinct-prop : (l : List ℕ) → IsProp (Distinct l)
Distinct-prop [] = Unit-prop
Distinct-prop (q ∷ l) = ×_prop (Coded-set coded_bool (has q l) false) (Distinct-prop l)

Notes-prop : (file last : List ℕ) (held : ℕ) (l : List ℕ) → IsProp (Notes file last held l)
Notes-prop file last held l a b = λ i. record {
  within = le_prop a.within b.within i;
  readable = λ j o. le_prop (a.readable j o) (b.readable j o) i;
  pages_are = Coded-set (coded_list coded_ℕ) (pages_in file last held) l a.pages_are b.pages_are i;
  once = Distinct-prop l a.once b.once i;
}

Chained-prop : (m : ℕ → ℕ) (n base : ℕ) (heads next : List ℕ) → IsProp (Chained m n base heads next)
Chained-prop m n base heads next a b = λ i. record {
  heads_are = λ v. Coded-set coded_ℕ (get_or heads v 0 - base) (newest m v n) (a.heads_are v) (b.heads_are v) i;
  next_are = λ j o. Coded-set coded_ℕ (get_or next j 0) (newest m (m j) j) (a.next_are j o) (b.next_are j o) i;
}

pub Holds-prop : (file last : List ℕ) (held base : ℕ) (heads next l : List ℕ) → IsProp (Holds file last held base heads next l)
Holds-prop file last held base heads next l a b = λ i. record {
  notes = Notes-prop file last held l a.notes b.notes i;
  chained = Chained-prop (bucket_at l) held base heads next a.chained b.chained i;
  heads_long = le_prop a.heads_long b.heads_long i;
  next_long = le_prop a.next_long b.next_long i;
  small = le_prop a.small b.small i;
}

-- ---- what is done with it

-- Item k can be noted at place j: it is in the file, it has the place's page, and its number fits four bytes.
pub record CanNote (file last : List ℕ) (held j k : ℕ) : Type 0 where
  pub within : j < held
  pub readable : 23 + 19 * (k + 1) ≤ length file
  pub few : k < 4294967296
  pub page : (item_at file k).page ≡ get_or (pages_in file last held) j 0

-- Item k can be added: it is in the file, its page is new, there is a place for it, and its number fits four bytes.
pub record CanAdd (file last : List ℕ) (held k : ℕ) : Type 0 where
  pub room : held < length last
  pub readable : 23 + 19 * (k + 1) ≤ length file
  pub few : k < 4294967296
  pub new : has (item_at file k).page (pages_in file last held) ≡ false

-- ---- what is found

-- A place if it is one of so many, or none.
unfoldable pub among : ℕ → ℕ → Option ℕ
among j held = cond (ltb j held) (Some j) None

-- The place of a page, or none where it is not in the list.
unfoldable pub found : ℕ → List ℕ → Option ℕ
found p l = among (place p l) (length l)

-- ---- which items it notes

-- From item k on r is the first that may be one of these items: none before it is, and if it is k itself then k is one.
pub record FirstNoted (items : List ℕ) (k r : ℕ) : Type 0 where
  pub from : k ≤ r
  pub none : (i : ℕ) → k ≤ i → i < r → has i items ≡ false
  pub here : r ≡ k → has k items ≡ true

-- The first of these items that is not before item k, or none.
abbrev pub first_from : ℕ → List ℕ → Option ℕ
first_from k items = reduce min (filter (λ i. nat_le k i) items)

-- ---- flags, one for each place

-- The flags in a row of bytes: two in a byte, so that a filter's take half a byte a place.
unfoldable pub flags_of : List ℕ → List ℕ
flags_of [] = []
flags_of (b ∷ bs) = b % 2 ∷ b / 2 % 2 ∷ flags_of bs

-- No flag from place c on is set.
abbrev pub Clear : ℕ → List ℕ → Type 0
Clear c flags = (j : ℕ) → c ≤ j → get_or flags j 0 ≡ 0

-- A flag that is set, or not.
abbrev pub flag_of : Bool → ℕ
flag_of on = cond on 1 0

-- How many of the first c flags are set.
unfoldable pub flags_set : ℕ → List ℕ → ℕ
flags_set zero flags = 0
flags_set (suc j) flags = cond (eqb (get_or flags j 0) 1) (suc (flags_set j flags)) (flags_set j flags)

-- Whether a flag is 1, or is not, as is asked.
unfoldable pub flag_is : Bool → ℕ → Bool
flag_is on flag = cond on (eqb flag 1) (not (eqb flag 1))

-- The place of a page whose flag is as is asked, or how many pages there are.
unfoldable pub place_if : Bool → List ℕ → ℕ → List ℕ → ℕ
place_if on flags p l = cond (flag_is on (get_or flags (place p l) 0)) (place p l) (length l)

-- The same place, or none.
unfoldable pub found_if : Bool → List ℕ → ℕ → List ℕ → Option ℕ
found_if on flags p l = among (place_if on flags p l) (length l)

-- ---- emptying it

-- Whether two bytes hold the numbers of a whole filter more, above the places that are given up.
unfoldable pub fits_above : ℕ → ℕ → ℕ → Bool
fits_above base held places = ltb (base + held + places) 65536

-- The base of the emptied filter: no head says more; or 0, with heads that are cleared.
unfoldable pub empty_base : ℕ → ℕ → ℕ → ℕ
empty_base base held places = cond (fits_above base held places) (base + held) 0

-- Its heads: as they were, or cleared.
unfoldable pub empty_heads : ℕ → ℕ → ℕ → List ℕ → List ℕ
empty_heads base held places heads = cond (fits_above base held places) heads (replicate (length heads) 0)
