-- Which freed blocks an advance lets be taken again, told by the disk's log alone. It is described in docs/PIPELINE.md.
use Rattle.std.specs.Prelude.{◌≡◌, ℕ, ◌-◌, ◌<◌, ◌≤◌, ◌==◌, Bool, true, not, List, [], length, slice_get, Some}
use Rattle.base_types.specs.Seal.{Blocks}
use Rattle.disk_contract.specs.declared.event.Event.{Event}
use Rattle.disk_contract.specs.Cell.{Cell, cell_of}
use Rattle.disk_contract.specs.Disk.{State}
use Rattle.layout_journal.specs.declared.header.Header.{Header}
use Rattle.layout_journal.specs.Layout.{header_of}
use Rattle.engine_reuse.specs.Numbers.{is_among}
use Rattle.engine_reuse.specs.Dead.{DeadBlocks}
use Rattle.engine_reuse.specs.Calls.{with_released}
use Rattle.engine_checkpoint.specs.declared.pipeline.Pipeline.{Pipeline}
use Rattle.engine_checkpoint.specs.Waits.{HearsAll}

-- nothing is pending on the block
abbrev pub is_at_rest : Cell → Bool
is_at_rest c = length c.pending == 0

-- The newest header at rest: it stands in a slot on which nothing is pending, and any other that does so has a lesser turn.
pub record IsNewestAtRest (n : ℕ) (cells : ℕ → Cell) (h : Header) : Type 0 where
  pub slot : ℕ
  pub is_slot : slot < 2
  pub rests : (cells slot).pending ≡ []
  pub stands : header_of n (cells slot).settled ≡ Some h
  pub other : (k : Header) → (cells (1 - slot)).pending ≡ [] → header_of n (cells (1 - slot)).settled ≡ Some k → k.turn < h.turn

-- Of the blocks that waited just those may be taken again whose record the newest header at rest makes sure, and on which nothing is pending.
pub record ServesByLog (n : ℕ) (base : Blocks) (log : List Event) (header : Header) (dead next : DeadBlocks) : Type 0 where
  pub newest : IsNewestAtRest n (cell_of base log) header
  pub going : List ℕ
  pub served : next ≡ with_released dead header.sure going
  pub pending : (k b r : ℕ) → slice_get dead.waiting k ≡ Some (b, r) → r ≤ header.sure → is_among b going ≡ not (is_at_rest (cell_of base log b))

-- the same where the disk's waits bring the notice of their own ticket alone and the notes knew all notices of tickets that they expect
abbrev pub ServesKnown : State → State → Pipeline → Pipeline → DeadBlocks → DeadBlocks → Type 0
ServesKnown d e v w dead next = d.manner.waits_alone ≡ true → HearsAll d.log v → ServesByLog v.geom.n e.base e.log w.header dead next
