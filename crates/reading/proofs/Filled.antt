-- A buffer that a read has filled further, and what two reads took of a reader, one after the other. Assumes nothing.
use Rattle.std.proofs.Common.{◌≡◌, ℕ, ◌+◌, ◌-◌, ◌≤◌, Option, None, Some, List, ◌++◌, length, take, sym, ◌∙◌, ap, subst, drop, append_assoc}
use Rattle.std.specs.Io.KnownBytes.{Consumes}
use Rattle.std.proofs.lemmas.List.{take-append-le}
use Rattle.std.proofs.Math.Seq.{take-append-add}
use borrow.Rule.Slice.PartMut.{put_mid}
use lib.Seq.{length-take-le}

-- What was in front, and then what is read.
pub front_more : (xs ys : List ℕ) (a n : ℕ) → a ≤ length xs → n ≤ length ys
    → take (a + n) (put_mid a (length xs - a) xs ys) ≡ take a xs ++ take n ys
front_more xs ys a n h k =
    let first : length (take a xs) ≡ a = length-take-le a xs h in
    let rest = drop (length xs - a) (drop a xs) in
    subst (λ (m : ℕ). take (m + n) (take a xs ++ (ys ++ rest)) ≡ take a xs ++ take n ys) first
    (take-append-add (take a xs) (ys ++ rest) n ∙ ap (λ (l : List ℕ). take a xs ++ l) (take-append-le n ys rest k))

-- Two reads take what is read first, and then the rest.
pub consumes_both : (a b c : Option (List ℕ)) (x y : List ℕ) → Consumes a b x → Consumes b c y → Consumes a c (x ++ y)
consumes_both None b c x y p q = p
consumes_both (Some u) None c x y p q = elim p [ ]
consumes_both (Some u) (Some v) None x y p q = elim q [ ]
consumes_both (Some u) (Some v) (Some w) x y p q = p ∙ ap (λ (l : List ℕ). x ++ l) q ∙ sym (append_assoc x y w)
