-- Of which disks a header may be.
use Rattle.std.proofs.Common.{◌≡◌, ℕ, List, Option, Some, None, sym, subst, IfSome}
use Rattle.layout_journal.specs.declared.header.Header.{Header}
use Rattle.layout_journal.specs.Layout.{header_of, IsWithinDisk}

-- what is read as a header keeps to a disk of this size
pub within_disk : ((n : ℕ) (b : List ℕ) (h : Header) → header_of n b ≡ Some h → IsWithinDisk n h) → (n k : ℕ) (b : List ℕ) (o : Option Header) → o ≡ header_of k b → k ≡ n → IfSome o (IsWithinDisk n)
within_disk keep n k b None e same = tt
within_disk keep n k b (Some h) e same = subst (λ m. IsWithinDisk m h) same (keep k b h (sym e))

-- so it has as many blocks
pub sized : (n : ℕ) (o : Option (ℕ × Header)) → IfSome o (λ p. IsWithinDisk n p.1) → IfSome o (λ p. p.1.geom.n ≡ n)
sized n None w = tt
sized n (Some p) w = w.blocks
