-- Each public function's contract allows one result, and of lent chains one content afterwards. Assumes nothing.
use Prim.Native.Nat.{ℕ}
use mathlib.Core.Path.{◌≡◌, refl, sym, ◌∙◌}
use mathlib.Core.List.{List}
use mir.Val.{Fits}
use mir.Syntax.{w64}
use Rattle.pages.proofs.Once.{OneResult, OneBuffer}
use Rattle.chains.specs.declared.Chains.{Chains}
use Rattle.chains.proofs.Counted.{counted_once}
use Rattle.chains.proofs.mix.Kinds as mix
use Rattle.chains.proofs.mix.Reads.{Post as mix_post}
use Rattle.chains.proofs.bucket.Kinds as row_bucket
use Rattle.chains.proofs.bucket.Reads.{Post as row_bucket_post}
use Rattle.chains.proofs.head.Kinds as row_head
use Rattle.chains.proofs.head.Reads.{Post as row_head_post}
use Rattle.chains.proofs.link.Kinds as row_link
use Rattle.chains.proofs.link.Reads.{Post as row_link_post}
use Rattle.chains.proofs.push.Kinds as row_push
use Rattle.chains.proofs.push.Reads.{Post as row_push_post}
use Rattle.chains.proofs.clear.Kinds as row_clear
use Rattle.chains.proofs.clear.Reads.{Post as row_clear_post}
use Rattle.chains.proofs.Chains.new.Kinds as new
use Rattle.chains.proofs.Chains.new.Reads.{Post as new_post}
use Rattle.chains.proofs.Chains.bucket.Kinds as bucket
use Rattle.chains.proofs.Chains.bucket.Reads.{Post as bucket_post}
use Rattle.chains.proofs.Chains.head.Kinds as head
use Rattle.chains.proofs.Chains.head.Reads.{Post as head_post}
use Rattle.chains.proofs.Chains.link.Kinds as link
use Rattle.chains.proofs.Chains.link.Reads.{Post as link_post}
use Rattle.chains.proofs.Chains.push.Kinds as push
use Rattle.chains.proofs.Chains.push.Reads.{Post as push_post}
use Rattle.chains.proofs.Chains.clear.Kinds as clear
use Rattle.chains.proofs.Chains.clear.Reads.{Post as clear_post}

pub mix_once : OneResult mix.ps mix.r mix_post
mix_once κs args x y s t p q = p ∙ sym q

-- ---- over rows of any length

pub row_bucket_once : (B : ℕ) (b_fits : Fits w64 B) → OneResult (row_bucket.ps B b_fits) (row_bucket.r B b_fits) (row_bucket_post B b_fits)
row_bucket_once B b_fits κs args x y s t p q = p.0 ∙ sym q.0

pub row_head_once : OneResult row_head.ps row_head.r row_head_post
row_head_once κs args x y s t p q = counted_once (p.0 ∙ sym q.0)

pub row_link_once : OneResult row_link.ps row_link.r row_link_post
row_link_once κs args x y s t p q = counted_once (p ∙ sym q)

pub row_push_heads_once : OneBuffer row_push.ps row_push.r row_push_post (λ κs s. s.1.0.now)
row_push_heads_once κs args x y s t p q = p.0 ∙ sym q.0

pub row_push_next_once : OneBuffer row_push.ps row_push.r row_push_post (λ κs s. s.1.1.0.now)
row_push_next_once κs args x y s t p q = p.1 ∙ sym q.1

pub row_clear_once : OneBuffer row_clear.ps row_clear.r row_clear_post (λ κs s. s.0.now)
row_clear_once κs args x y s t p q = p ∙ sym q

-- ---- of chains

same_rows : (P B : ℕ) {h h' n n' : List ℕ} → h ≡ h' → n ≡ n' → ◌≡◌ {A = Chains P B} (record { heads = h; next = n }) (record { heads = h'; next = n' })
same_rows P B p q = rw (p, q) refl

module _ (P B : ℕ) (p_fits : Fits w64 P) (b_fits : Fits w64 B) where
  pub new_once : OneResult (new.ps P B p_fits b_fits) (new.r P B p_fits b_fits) (new_post P B p_fits b_fits)
  new_once κs args x y s t p q = same_rows P B (p.0 ∙ sym q.0) (p.1 ∙ sym q.1)

  pub bucket_once : OneResult (bucket.ps P B p_fits b_fits) (bucket.r P B p_fits b_fits) (bucket_post P B p_fits b_fits)
  bucket_once κs args x y s t p q = p.0 ∙ sym q.0

  pub head_once : OneResult (head.ps P B p_fits b_fits) (head.r P B p_fits b_fits) (head_post P B p_fits b_fits)
  head_once κs args x y s t p q = counted_once (p.0 ∙ sym q.0)

  pub link_once : OneResult (link.ps P B p_fits b_fits) (link.r P B p_fits b_fits) (link_post P B p_fits b_fits)
  link_once κs args x y s t p q = counted_once (p ∙ sym q)

  pub push_heads_once : OneBuffer (push.ps P B p_fits b_fits) (push.r P B p_fits b_fits) (push_post P B p_fits b_fits) (λ κs s. s.0.now.heads)
  push_heads_once κs args x y s t p q = p.0 ∙ sym q.0

  pub push_next_once : OneBuffer (push.ps P B p_fits b_fits) (push.r P B p_fits b_fits) (push_post P B p_fits b_fits) (λ κs s. s.0.now.next)
  push_next_once κs args x y s t p q = p.1 ∙ sym q.1

  pub clear_heads_once : OneBuffer (clear.ps P B p_fits b_fits) (clear.r P B p_fits b_fits) (clear_post P B p_fits b_fits) (λ κs s. s.0.now.heads)
  clear_heads_once κs args x y s t p q = p.0 ∙ sym q.0

  pub clear_next_once : OneBuffer (clear.ps P B p_fits b_fits) (clear.r P B p_fits b_fits) (clear_post P B p_fits b_fits) (λ κs s. s.0.now.next)
  clear_next_once κs args x y s t p q = p.1 ∙ sym q.1
