-- What is found in an image is its recovery.
use Rattle.std.proofs.Common.{◌≡◌, ℕ, ◌<◌, List, length, sym, ◌∙◌, ap, subst}
use Rattle.base_types.specs.Seal.{Blocks, blocks_of}
use Rattle.layout_geometry.specs.Geometry.{IsGeometry}
use Rattle.layout_journal.specs.declared.header.Header.{Header}
use Rattle.layout_journal.specs.Run.{Newest, Record, IsRun, replayed, HeldIs}
use Rattle.crash_plain_recovery.specs.Recovery.{IsRecovery}
use Rattle.crash_plain_recovery.proofs.Lives.{same_live}

-- without a newest header no blocks are held
pub none_held : (n : ℕ) (img : Blocks) → ((slot : ℕ) (h : Header) → ¬ Newest n img slot h) → (m : Blocks) → ¬ HeldIs n img m
none_held n img none m held = none held.slot held.header held.newest

-- a newest header, its run and the replayed blocks are a recovery
pub recovery_is : (n : ℕ) (img : Blocks) (slot : ℕ) (h : Header) (run rs : List Record) (blocks : List (List ℕ)) → Newest n img slot h → h.geom.n ≡ n → IsRun img h run → rs ≡ run
    → IsGeometry h.geom → length blocks ≡ h.geom.n → ((b : ℕ) → b < h.geom.n → blocks_of blocks b ≡ replayed h.geom img rs b)
    → IsRecovery n img (record { slot = slot; header = h; run = run; blocks = blocks })
recovery_is n img slot h run rs blocks newest size is_run same limits count each = record {
  newest = newest;
  is_run = is_run;
  count = count ∙ size;
  each = λ b lt. at b (subst (λ k. b < k) (sym size) lt);
  held = record { slot = slot; header = h; run = run; newest = newest; is_run = is_run; each = same_live h.geom (blocks_of blocks) (replayed h.geom img run) limits at };
}
  where
    at : (b : ℕ) → b < h.geom.n → blocks_of blocks b ≡ replayed h.geom img run b
    at b lt = each b lt ∙ ap (λ (l : List Record). replayed h.geom img l b) same
