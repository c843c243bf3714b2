-- Each public function's contract allows one result, and of lent rows, a lent table or lent flags one content afterwards; of `first_noted` what it says of its item. Assumes nothing.
use Prim.Native.Nat.{ℕ}
use mathlib.Core.Path.{◌≡◌, sym, ap, ◌∙◌}
use mathlib.Core.Bool.{true≢false}
use mathlib.Core.List.{List}
use native.Mathlib.Omega.{arith}
use mir.Val.{Fits}
use lib.Dec.{eqb}
use mir.Syntax.{w8}
use borrow.Author.Tests.{eqb-false}
use Rattle.pages.proofs.Choice.{split, same}
use contract.Lifetimes.{Lfts}
use borrow.Fn.Kinds.{ParamKind, ResultKind, Dens, Out, res_t, ended_of}
use denote.Triple.Clauses.{AtExit}
use Rattle.chains.specs.declared.Chains.{Chains}
use Rattle.pages.proofs.Once.{OneResult, OneBuffer}
use Rattle.filter.specs.Filter.{places, buckets, flags_of, flags_set, FirstNoted}
use Rattle.filter.proofs.Finding.{first-after}
use Rattle.filter.proofs.lent.Rows.find.Kinds as rows_find
use Rattle.filter.proofs.lent.Rows.find.Reads.{Post as rows_find_post}
use Rattle.filter.proofs.lent.Rows.find_by_flag.Kinds as rows_find_by_flag
use Rattle.filter.proofs.lent.Rows.find_by_flag.Reads.{Post as rows_find_by_flag_post}
use Rattle.filter.proofs.lent.is_at.Kinds as rows_is_at
use Rattle.filter.proofs.lent.is_at.Reads.{Post as rows_is_at_post}
use Rattle.filter.proofs.lent.add.Kinds as rows_add
use Rattle.filter.proofs.lent.add.Reads.{Post as rows_add_post}
use Rattle.filter.proofs.lent.empty.Kinds as rows_empty
use Rattle.filter.proofs.lent.empty.Reads.{Post as rows_empty_post}
use Rattle.filter.proofs.flags.flag_at.Kinds as flag_at
use Rattle.filter.proofs.flags.flag_at.Reads.{Post as flag_at_post}
use Rattle.filter.proofs.flags.put_flag.Kinds as put_flag
use Rattle.filter.proofs.flags.put_flag.Reads.{Post as put_flag_post}
use Rattle.filter.proofs.flags.clear_flags.Kinds as clear_flags
use Rattle.filter.proofs.flags.clear_flags.Reads.{Post as clear_flags_post}
use Rattle.filter.proofs.Table.new.Kinds as new
use Rattle.filter.proofs.Table.new.Reads.{Post as new_post}
use Rattle.filter.proofs.flags.Flags.new.Kinds as flags_new
use Rattle.filter.proofs.flags.Flags.new.Reads.{Post as flags_new_post}
use Rattle.filter.proofs.Table.find.Kinds as find
use Rattle.filter.proofs.Table.find.Reads.{Post as find_post}
use Rattle.filter.proofs.Table.find_by_flag.Kinds as find_by_flag
use Rattle.filter.proofs.Table.find_by_flag.Reads.{Post as find_by_flag_post}
use Rattle.filter.proofs.Table.is_at.Kinds as is_at
use Rattle.filter.proofs.Table.is_at.Reads.{Post as is_at_post}
use Rattle.filter.proofs.Table.note.Kinds as note
use Rattle.filter.proofs.Table.note.Reads.{Post as note_post}
use Rattle.filter.proofs.Table.add.Kinds as add
use Rattle.filter.proofs.Table.add.Reads.{Post as add_post}
use Rattle.filter.proofs.Table.empty.Kinds as empty
use Rattle.filter.proofs.Table.empty.Reads.{Post as empty_post}
use Rattle.filter.proofs.flags.Flags.is_set.Kinds as is_set
use Rattle.filter.proofs.flags.Flags.is_set.Reads.{Post as is_set_post}
use Rattle.filter.proofs.flags.Flags.put.Kinds as put
use Rattle.filter.proofs.flags.Flags.put.Reads.{Post as put_post}
use Rattle.filter.proofs.flags.Flags.clear.Kinds as clear
use Rattle.filter.proofs.flags.Flags.clear.Reads.{Post as clear_post}

-- ---- of rows of any length

pub rows_find_once : OneResult rows_find.ps rows_find.r rows_find_post
rows_find_once κs args x y s t p q = p ∙ sym q

pub rows_find_by_flag_once : (on : ℕ) (fits : Fits w8 on) → OneResult (rows_find_by_flag.ps on fits) (rows_find_by_flag.r on fits) (rows_find_by_flag_post on fits)
rows_find_by_flag_once on fits κs args x y s t p q = p ∙ sym q

pub rows_is_at_once : OneResult rows_is_at.ps rows_is_at.r rows_is_at_post
rows_is_at_once κs args x y s t p q = p ∙ sym q

pub rows_add_last_once : OneBuffer rows_add.ps rows_add.r rows_add_post (λ κs s. s.1.0.now)
rows_add_last_once κs args x y s t p q = p.0 ∙ sym q.0

pub rows_add_heads_once : OneBuffer rows_add.ps rows_add.r rows_add_post (λ κs s. s.1.1.1.1.0.now)
rows_add_heads_once κs args x y s t p q = p.1.0 ∙ sym q.1.0

pub rows_add_next_once : OneBuffer rows_add.ps rows_add.r rows_add_post (λ κs s. s.1.1.1.1.1.0.now)
rows_add_next_once κs args x y s t p q = p.1.1.0 ∙ sym q.1.1.0

pub rows_empty_once : OneResult rows_empty.ps rows_empty.r rows_empty_post
rows_empty_once κs args x y s t p q = p.0 ∙ sym q.0

pub rows_empty_heads_once : OneBuffer rows_empty.ps rows_empty.r rows_empty_post (λ κs s. s.1.1.1.1.0.now)
rows_empty_heads_once κs args x y s t p q = p.1.0 ∙ sym q.1.0

pub flag_at_once : OneResult flag_at.ps flag_at.r flag_at_post
flag_at_once κs args x y s t p q = p ∙ sym q

pub flags_put_once : OneBuffer put_flag.ps put_flag.r put_flag_post (λ κs s. flags_of s.0.now)
flags_put_once κs args x y s t p q = p ∙ sym q

pub flags_cleared_once : OneBuffer clear_flags.ps clear_flags.r clear_flags_post (λ κs s. flags_of s.0.now)
flags_cleared_once κs args x y s t p q = p ∙ sym q

-- ---- of a table and its flags

-- What is seen of any two new filters or flags is the same.
module _ {n : ℕ} (ps : List (ParamKind n)) (r : ResultKind n) (Post : Out n ps r) where
  abbrev pub OneSeen : {A : Type 0} → ((κs : Lfts n) → (res_t r κs).Denot → A) → Type 0
  OneSeen seen =
      (κs : Lfts n) (args : Dens κs ps) (x y : (res_t r κs).Denot) (s t : AtExit (ended_of n ps r) κs)
      → Post κs args x s → Post κs args y t → seen κs x ≡ seen κs y

pub new_rows_once : OneSeen new.ps new.r new_post {A = List ℕ × (List ℕ × (List ℕ × List ℕ))} (λ κs x. (x.file.now, (x.last, (x.chains.heads, x.chains.next))))
new_rows_once κs args x y s t p q = λ i. (
  (p.0 ∙ sym q.0) i,
  ((p.1.0 ∙ sym q.1.0) i, ((p.1.1.0 ∙ sym q.1.1.0) i, (p.1.1.1.0 ∙ sym q.1.1.1.0) i)),
)

pub new_numbers_once : OneSeen new.ps new.r new_post {A = ℕ × ℕ} (λ κs x. (x.held, x.base))
new_numbers_once κs args x y s t p q = λ i. ((p.1.1.1.1.0 ∙ sym q.1.1.1.1.0) i, (p.1.1.1.1.1 ∙ sym q.1.1.1.1.1) i)

pub new_flags_once : OneSeen flags_new.ps flags_new.r flags_new_post (λ κs x. flags_of x.bytes)
new_flags_once κs args x y s t p q = p ∙ sym q

pub find_once : OneResult find.ps find.r find_post
find_once κs args x y s t p q = p ∙ sym q

-- Where a flag is asked for, and where none is.
pub find_by_flag_once : (on : ℕ) (fits : Fits w8 on) → OneResult (find_by_flag.ps on fits) (find_by_flag.r on fits) (find_by_flag_post on fits)
find_by_flag_once on fits κs args x y s t p q = p ∙ sym q

pub is_at_once : OneResult is_at.ps is_at.r is_at_post
is_at_once κs args x y s t p q = p ∙ sym q

-- The contract of `first_noted` allows more than one result, but any two say the same of item k: that it is noted, or that it is not.
pub first_noted_once : (items : List ℕ) {k x y : ℕ} → FirstNoted items k x → FirstNoted items k y → x ≡ k → y ≡ k
first_noted_once items {k} {x} {y} p q e =
    split (eqb y k)
    (λ t. same y k t)
    (λ t. absurd (true≢false (sym (p.here e) ∙ q.none k (omega arith) (first-after q (eqb-false y k t)))))

pub note_last_once : OneBuffer note.ps note.r note_post (λ κs s. s.0.now.last)
note_last_once κs args x y s t p q = p.0 ∙ sym q.0

pub note_rest_once : OneBuffer note.ps note.r note_post {A = List ℕ × (Chains places buckets × (ℕ × ℕ))} (λ κs s. (s.0.now.file.now, (s.0.now.chains, (s.0.now.held, s.0.now.base))))
note_rest_once κs args x y s t p q = λ i. (
  (p.1.0 ∙ sym q.1.0) i,
  ((p.1.1.0 ∙ sym q.1.1.0) i, ((p.1.1.1.0 ∙ sym q.1.1.1.0) i, (p.1.1.1.1 ∙ sym q.1.1.1.1) i)),
)

pub add_last_once : OneBuffer add.ps add.r add_post (λ κs s. s.0.now.last)
add_last_once κs args x y s t p q = p.0 ∙ sym q.0

pub add_heads_once : OneBuffer add.ps add.r add_post (λ κs s. s.0.now.chains.heads)
add_heads_once κs args x y s t p q = p.1.0 ∙ sym q.1.0

pub add_next_once : OneBuffer add.ps add.r add_post (λ κs s. s.0.now.chains.next)
add_next_once κs args x y s t p q = p.1.1.0 ∙ sym q.1.1.0

pub add_rest_once : OneBuffer add.ps add.r add_post {A = List ℕ × (ℕ × ℕ)} (λ κs s. (s.0.now.file.now, (s.0.now.held, s.0.now.base)))
add_rest_once κs args x y s t p q = λ i. (
  (p.1.1.1.0 ∙ sym q.1.1.1.0) i,
  ((p.1.1.1.1.0 ∙ sym q.1.1.1.1.0) i, (p.1.1.1.1.1.0 ∙ sym q.1.1.1.1.1.0) i),
)

pub empty_once : OneBuffer empty.ps empty.r empty_post (λ κs s. s.0.now.base)
empty_once κs args x y s t p q = p.0 ∙ sym q.0

pub empty_heads_once : OneBuffer empty.ps empty.r empty_post (λ κs s. s.0.now.chains.heads)
empty_heads_once κs args x y s t p q = p.1.0 ∙ sym q.1.0

pub empty_rest_once : OneBuffer empty.ps empty.r empty_post {A = ℕ × (List ℕ × (List ℕ × List ℕ))} (λ κs s. (s.0.now.held, (s.0.now.file.now, (s.0.now.last, s.0.now.chains.next))))
empty_rest_once κs args x y s t p q = λ i. (
  (p.1.1.0 ∙ sym q.1.1.0) i,
  ((p.1.1.1.0 ∙ sym q.1.1.1.0) i, ((p.1.1.1.1.0 ∙ sym q.1.1.1.1.0) i, (p.1.1.1.1.1 ∙ sym q.1.1.1.1.1) i)),
)

pub is_set_once : OneResult is_set.ps is_set.r is_set_post
is_set_once κs args x y s t p q = p ∙ sym q

pub put_flag_once : OneBuffer put.ps put.r put_post (λ κs s. flags_of s.0.now.bytes)
put_flag_once κs args x y s t p q = p ∙ sym q

pub clear_flags_once : OneBuffer clear.ps clear.r clear_post (λ κs s. flags_of s.0.now.bytes)
clear_flags_once κs args x y s t p q = p ∙ sym q

-- So many flags are set as are counted, in a row that is given: flags that are the same have the same count.
same_count : {x y a b : ℕ} → x ≡ a → y ≡ b → a ≡ b → x ≡ y
same_count p q e = p ∙ e ∙ sym q

pub put_set_once : OneBuffer put.ps put.r put_post (λ κs s. s.0.now.set)
put_set_once κs args x y s t p q =
    same_count s.0.now.is_count t.0.now.is_count (ap (flags_set places) (p ∙ sym q))

pub clear_set_once : OneBuffer clear.ps clear.r clear_post (λ κs s. s.0.now.set)
clear_set_once κs args x y s t p q =
    same_count s.0.now.is_count t.0.now.is_count (ap (flags_set places) (p ∙ sym q))

pub new_set_once : OneSeen flags_new.ps flags_new.r flags_new_post (λ κs x. x.set)
new_set_once κs args x y s t p q =
    same_count x.is_count y.is_count (ap (flags_set places) (p ∙ sym q))
