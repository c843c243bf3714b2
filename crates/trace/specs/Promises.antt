-- What is promised of the file format, over the definitions that the contracts cite. Assumes nothing.
use Rattle.std.specs.Prelude.{ℕ, ◌+◌, ◌*◌, ◌<◌, ◌≤◌, ◌≡◌, false, ◌||◌, List, length, get_or}
use Rattle.pages.specs.Pages.{has}
use Rattle.trace.specs.Layout.{encode, header, items, decode}
use Rattle.trace.specs.Rules.{Allowed}
use Rattle.trace.specs.Refusals.{row, withdrawn}
use Rattle.trace.specs.Check.{is_field, is_item, checked}
use Rattle.trace.specs.declared.Item.{Item}
use Rattle.trace.specs.declared.Header.{Header}
use Rattle.trace.specs.declared.Reason.{Reason}
use Rattle.std.specs.Prelude.{Ok}

-- Every number of a row is a byte.
abbrev pub AreBytes : List ℕ → Type 0
AreBytes f = (i : ℕ) → get_or f i 0 < 256

-- A file: a row of bytes that `check` accepts.
pub record IsFile (f : List ℕ) : Type 0 where
  pub bytes : AreBytes f
  pub accepted : checked f ≡ Ok (header f)

-- Refusal 4 "now allows tags 5 and 6": a field of 16 bytes under one of these tags is an item's, and no other field is.
abbrev pub TagsAre : Type 0
TagsAre = (s : List ℕ) → is_item s ≡ is_field 5 16 s 0 || is_field 6 16 s 0

-- A number that a refusal can have: not 0, and not one that is withdrawn.
pub record IsGiven (n : ℕ) : Type 0 where
  pub some : 1 ≤ n
  pub stands : has n withdrawn ≡ false

-- "5 is withdrawn": every refusal has a number that can be given.
abbrev pub AllGiven : Type 0
AllGiven = (r : Reason) → IsGiven (row r).number

-- "A written trace reads back as the items that went in": for every header and items that the rules allow.
abbrev pub ReadsBack : Type 0
ReadsBack = (h : Header) (t : List Item) → Allowed h t → decode (encode h t) ≡ record { header = h; items = t }

-- What is written by the rules is accepted.
abbrev pub IsTaken : Type 0
IsTaken = (h : Header) (t : List Item) → Allowed h t → checked (encode h t) ≡ Ok h

-- What is accepted says what the rules allow, and nothing else would be it: a file is determined by what it says.
pub record Says (f : List ℕ) (h : Header) : Type 0 where
  pub header_is : header f ≡ h
  pub long : length f ≡ 23 + 19 * h.items
  pub keeps_rules : Allowed h (items f)
  pub written : encode h (items f) ≡ f

abbrev pub IsDetermined : Type 0
IsDetermined = (f : List ℕ) (h : Header) → AreBytes f → checked f ≡ Ok h → Says f h
