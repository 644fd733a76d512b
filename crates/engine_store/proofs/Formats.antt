-- What the three groups leave together, and what stays of the data.
use Rattle.std.proofs.Common.{◌≡◌, inl, inr, ℕ, ◌-◌, ◌<◌, ◌≤◌, List, [], replicate, sym, ◌∙◌, ap, arith}
use Rattle.std.proofs.lemmas.Bool.{cases_eq, cases_lt}
use Rattle.base_types.specs.Seal.{Blocks}
use Rattle.disk_contract.specs.declared.event.Event.{Event}
use Rattle.disk_contract.specs.Cell.{Cell, cell_of}
use Rattle.disk_contract.specs.Disk.{State}
use Rattle.layout_geometry.specs.Geometry.{Geometry, bitmap_start, data_start}
use Rattle.layout_journal.specs.Formatted.{formatted}
use Rattle.layout_journal.specs.Run.{HeldIs}
use Rattle.crash_argument.specs.Ledger.{HoldsUnder, cells_of}
use Rattle.engine_mount.specs.Mount.{IsIdle}
use Rattle.engine_store.specs.Formatting.{zeros, AddsFormatting, WritesBelow, IsFormattedOver}
use Rattle.engine_store.proofs.Settling.{cell_of-append, idle_avoids, row_settles, row_keeps, row_idle}

-- this content and nothing pending
abbrev settled_cell : List ℕ → Cell
settled_cell x = record { settled = x; pending = [] }

module _ (g : Geometry) (base : Blocks) (old new : List Event) (blank : (b : ℕ) → 0 < b → b < bitmap_start g → formatted g b ≡ replicate 1024 0)
    (idle : (b : ℕ) → (cell_of base old b).pending ≡ []) (adds : AddsFormatting g old new) where
  idle_cleared : (b : ℕ) → (cell_of base adds.cleared b).pending ≡ []
  idle_cleared = row_idle base zeros 0 (bitmap_start g) old adds.cleared idle adds.clears

  idle_laid : (b : ℕ) → (cell_of base adds.laid b).pending ≡ []
  idle_laid = row_idle base (formatted g) (bitmap_start g) (data_start g - bitmap_start g) adds.cleared adds.laid idle_cleared adds.lays

  pub idle_new : (b : ℕ) → (cell_of base new b).pending ≡ []
  idle_new = row_idle base (formatted g) 0 1 adds.laid new idle_laid adds.heads

  -- the last group writes block 0 alone
  past_header : (b : ℕ) → 0 < b → cell_of base new b ≡ cell_of base adds.laid b
  past_header b some = row_keeps base (formatted g) 0 1 b adds.laid new (inr (omega (arith, some))) (idle_laid b) adds.heads

  -- the second leaves what is before it
  before_bitmap : (b : ℕ) → 0 < b → b < bitmap_start g → cell_of base new b ≡ settled_cell (formatted g b)
  before_bitmap b some low =
      past_header b some
      ∙ row_keeps base (formatted g) (bitmap_start g) (data_start g - bitmap_start g) b adds.cleared adds.laid (inl low) (idle_cleared b) adds.lays
      ∙ row_settles base zeros 0 (bitmap_start g) b old adds.cleared (omega arith) (omega (arith, low)) (idle b) adds.clears
      ∙ ap settled_cell (sym (blank b some low))

  from_bitmap : (b : ℕ) → bitmap_start g ≤ b → b < data_start g → cell_of base new b ≡ settled_cell (formatted g b)
  from_bitmap b low high =
      past_header b (omega (arith, low))
      ∙ row_settles base (formatted g) (bitmap_start g) (data_start g - bitmap_start g) b adds.cleared adds.laid low (omega (arith, high)) (idle_cleared b) adds.lays

  header_there : cell_of base new 0 ≡ settled_cell (formatted g 0)
  header_there = row_settles base (formatted g) 0 1 0 adds.laid new (omega arith) (omega arith) (idle_laid 0) adds.heads

  -- each block before the data is the formatted disk's
  pub before_data : (b : ℕ) → b < data_start g → cell_of base new b ≡ settled_cell (formatted g b)
  before_data b high = elim (cases_eq b 0) [
    | inl e ↦ ap (cell_of base new) e ∙ header_there ∙ ap (λ c. settled_cell (formatted g c)) (sym e)
    | inr d ↦ elim (cases_lt b (bitmap_start g)) [ inl low ↦ before_bitmap b (omega (arith, d)) low | inr from ↦ from_bitmap b from high ]
  ]

-- the data stay, whatever comes of the calls
pub data_stays : (end : ℕ) (base : Blocks) (old new : List Event) → ((b : ℕ) → (cell_of base old b).pending ≡ []) → WritesBelow end old new → (b : ℕ) → end ≤ b → cell_of base new b ≡ cell_of base old b
data_stays end base old new idle below b high =
    ap (λ (l : List Event). cell_of base l b) below.log ∙ cell_of-append base old below.more b ∙ idle_avoids b (cell_of base old b) below.more (idle b) (below.avoids b high)

-- the same of what is known of a disk
pub cells_stay : (end : ℕ) (old new : State) → new.base ≡ old.base → IsIdle old → WritesBelow end old.log new.log → (b : ℕ) → end ≤ b → cells_of new b ≡ cells_of old b
cells_stay end old new same idle below b high = ap (λ base. cell_of base new.log b) same ∙ data_stays end old.base old.log new.log idle below b high

pub is_formatted : (g : Geometry) (old new : State) → ((b : ℕ) → 0 < b → b < bitmap_start g → formatted g b ≡ replicate 1024 0) → new.base ≡ old.base → IsIdle old → AddsFormatting g old.log new.log → WritesBelow (data_start g) old.log new.log → IsFormattedOver g old new
is_formatted g old new blank same idle adds below = record {
  idle = λ b. ap (λ base. (cell_of base new.log b).pending) same ∙ idle_new g old.base old.log new.log blank idle adds b;
  before = λ b low. ap (λ base. (cell_of base new.log b).settled) same ∙ ap (λ (c : Cell). c.settled) (before_data g old.base old.log new.log blank idle adds b low);
  kept = λ b high. ap (λ (c : Cell). c.settled) (cells_stay (data_start g) old new same idle below b high);
}

-- an image that holds a map under a header of this geometry
pub holds_under : (g : Geometry) (img m : Blocks) → (held : HeldIs g.n img m) × (held.header.geom ≡ g) → HoldsUnder g.n g img m
holds_under g img m h = record { held = h.0; geom = h.1 }
