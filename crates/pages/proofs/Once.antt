-- What it is for a contract to allow one result. A function's contract, as the check reads it, is its `Reads.Post`. Assumes nothing.
use Prim.Native.Nat.{ℕ}
use mathlib.Core.Path.{◌≡◌}
use mathlib.Core.List.{List}
use contract.Lifetimes.{Lfts}
use borrow.Fn.Kinds.{ParamKind, ResultKind, Dens, Out, res_t, ended_of}
use denote.Triple.Clauses.{AtExit}

module _ {n : ℕ} (ps : List (ParamKind n)) (r : ResultKind n) (Post : Out n ps r) where
  -- Any two results that the contract allows of one call are equal.
  abbrev pub OneResult : Type 0
  OneResult =
      (κs : Lfts n) (args : Dens κs ps) (x y : (res_t r κs).Denot) (s t : AtExit (ended_of n ps r) κs)
      → Post κs args x s → Post κs args y t → x ≡ y

  -- And so is any part of the lent buffers afterwards that `seen` reads.
  abbrev pub OneBuffer : {A : Type 0} → ((κs : Lfts n) → AtExit (ended_of n ps r) κs → A) → Type 0
  OneBuffer seen =
      (κs : Lfts n) (args : Dens κs ps) (x y : (res_t r κs).Denot) (s t : AtExit (ended_of n ps r) κs)
      → Post κs args x s → Post κs args y t → seen κs s ≡ seen κs t
