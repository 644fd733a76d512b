-- A disk that lags behind has no image of its own.
use Rattle.std.proofs.Common.{ℕ, List, sym, ◌∙◌, ap}
use Rattle.base_types.specs.Seal.{Blocks, sha256}
use Rattle.disk_contract.specs.declared.event.Event.{Event}
use Rattle.disk_contract.specs.Crash.{IsImage, IsHonest}
use Rattle.disk_mirror.specs.Behind.{LagsBehind}
use Rattle.disk_mirror.proofs.Chains.{may_hold, torn_too}

pub image_of : (n : ℕ) (base : Blocks) (log : List Event) (began : Blocks) (events : List Event) → LagsBehind n base log began events → (img : Blocks) → IsImage n began events img → IsImage n base log img
image_of n base log began events l img i b below = may_hold _ _ (l.cells b below) (img b) (i b below)

pub honest_of : (n : ℕ) (base : Blocks) (log : List Event) (began : Blocks) (events : List Event) → LagsBehind n base log began events → (img : Blocks) → IsHonest n began events img → IsHonest n base log img
honest_of n base log began events l img h = record {
  leaves = image_of n base log began events l img h.leaves;
  unsealed = λ b below torn. h.unsealed b below (torn_too _ _ (l.cells b below) (img b) torn);
  like_base = λ b c below under same. h.like_base b c below under (same ∙ ap sha256 (sym (l.alike c under))) ∙ l.alike c under;
  like_written = λ b x below w same. h.like_written b x below (l.written x w) same;
}
