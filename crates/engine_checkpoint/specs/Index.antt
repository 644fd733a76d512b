-- That the pipeline's index is right: it says where the newest payload of each block is, in the records that aren't placed. It is described in docs/PIPELINE.md.
use Rattle.std.specs.Prelude.{◌≡◌, ℕ, List, [], ◌∷◌, Option, None}
use Rattle.engine_checkpoint.specs.declared.newest.Spot.{Spot}
use Rattle.engine_checkpoint.specs.declared.pipeline.Pipeline.{Pipeline}
use Rattle.engine_checkpoint.specs.Kept.{Kept, kept}
use Rattle.engine_checkpoint.specs.Newest.{spot_of, spot_after}

-- where the newest payload of a block is in these records, None where a later one wrote it fresh or freed it
abbrev pub newest_spot : Option Spot → List Kept → ℕ → Option Spot
newest_spot before [] b = before
newest_spot before (k ∷ ks) b = newest_spot (spot_after before k.number k.payloads k.fresh k.freed b) ks b

-- the pipeline's index has of each block where its newest payload is in the records that aren't placed
pub record IndexIsRight (v : Pipeline) : Type 0 where
  pub at : (b : ℕ) → spot_of v.newest b ≡ newest_spot None (kept v) b
