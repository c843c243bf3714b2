-- The filter's definitions at work, computed on the paper's trace T. Assumes nothing.
use Rattle.std.specs.Prelude.{◌≡◌, refl, true, false, [], ◌∷◌, map}
use Rattle.trace.specs.Bytes.{number, number_at, bytes}
use Rattle.trace.specs.Layout.{field, encode_header, encode_item, encode_items, encode, item, item_at}
use Rattle.trace.specs.Examples.{file_T}
use Rattle.pages.specs.Pages.{place}
use Rattle.chains.specs.Chains.{mixed}
use Rattle.filter.specs.Filter.{pages_of, pages_in, bucket_of, flags_of, flag_is, place_if, fits_above, empty_base, empty_heads}

-- After T's first five items a filter that notes items 4 and 3 holds pages 1 and 2; a third place, which is not held, may say anything.
pages_held : pages_in file_T (4 ∷ 3 ∷ 77 ∷ []) 2 ≡ 1 ∷ 2 ∷ []
unfolding pages_of encode encode_header encode_items encode_item field bytes item_at item number_at number
pages_held = refl

-- Pages 0 and 987 share a bucket, and pages 0 and 1 do not.
buckets_of : map bucket_of (0 ∷ 1 ∷ 2 ∷ 987 ∷ 4294967296 ∷ 18446744073709551615 ∷ []) ≡ 0 ∷ 391 ∷ 782 ∷ 0 ∷ 367 ∷ 265 ∷ []
unfolding bucket_of mixed
buckets_of = refl

-- A filter of 1,024 places at base 63,487 that holds 1,024 pages is emptied with the heads as they are; at one more they are cleared.
emptied_above : empty_base 63487 1024 1024 ≡ 64511
unfolding fits_above empty_base
emptied_above = refl

heads_stay : empty_heads 63487 1024 1024 (5 ∷ 64511 ∷ []) ≡ 5 ∷ 64511 ∷ []
unfolding fits_above empty_heads
heads_stay = refl

emptied_clear : empty_base 63488 1024 1024 ≡ 0
unfolding fits_above empty_base
emptied_clear = refl

heads_cleared : empty_heads 63488 1024 1024 (5 ∷ 64511 ∷ []) ≡ 0 ∷ 0 ∷ []
unfolding fits_above empty_heads
heads_cleared = refl

-- Three bytes hold the flags of six places: of these the second, the third and the fourth are set.
two_a_byte : flags_of (2 ∷ 3 ∷ 0 ∷ []) ≡ 0 ∷ 1 ∷ 1 ∷ 1 ∷ 0 ∷ 0 ∷ []
unfolding flags_of
two_a_byte = refl

-- Of pages 5, 6 and 7 page 6 alone is flagged: it is found where a flag is asked for, and the two others where none is.
flagged : map (λ p. place_if true (0 ∷ 1 ∷ 0 ∷ []) p (5 ∷ 6 ∷ 7 ∷ [])) (5 ∷ 6 ∷ 7 ∷ []) ≡ 3 ∷ 1 ∷ 3 ∷ []
unfolding flag_is place_if place
flagged = refl

not_flagged : map (λ p. place_if false (0 ∷ 1 ∷ 0 ∷ []) p (5 ∷ 6 ∷ 7 ∷ [])) (5 ∷ 6 ∷ 7 ∷ []) ≡ 0 ∷ 3 ∷ 2 ∷ []
unfolding flag_is place_if place
not_flagged = refl
