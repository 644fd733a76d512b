-- What a disk of zeros leaves, once it was formatted: the image of the formatted disk.
use Rattle.std.proofs.Common.{◌≡◌, ◌⊎◌, inl, inr, ℕ, ◌<◌, ◌≤◌, false, true, List, [], length, replicate, Option, Some, None, sym, ap, ◌∙◌, subst, arith}
use Rattle.std.proofs.lemmas.Bool.{cases_lt}
use Rattle.std.proofs.lemmas.List.{get_or-replicate}
use Rattle.base_types.specs.Seal.{Blocks, blocks_of}
use Rattle.disk_contract.specs.declared.bay.Mark.{Mark}
use Rattle.disk_contract.specs.declared.event.Event.{Event}
use Rattle.disk_contract.specs.Bay.{Begins, IsLeftBy, Kept, TakesBack, zero_blocks}
use Rattle.disk_contract.specs.Cell.{accepted, cell_of, is_lost}
use Rattle.disk_contract.specs.Disk.{State}
use Rattle.layout_geometry.specs.Geometry.{Geometry, data_start, geometry_fits}
use Rattle.layout_journal.specs.Formatted.{formatted}
use Rattle.lang_tree.specs.Step.{start}
use Rattle.crash_stands.specs.Bounds.{bounds_of}
use Rattle.crash_stands.specs.Stands.{StandsFor}
use Rattle.engine_mount.specs.Mount.{IsIdle, settled_on}
use Rattle.engine_store.specs.Formatting.{IsFormattedOver}
use Rattle.cmd_session.specs.Images.{CanBeMounted, StandsMounted}
use Rattle.cmd_image.specs.Shows.{HasImage}
use Rattle.cmd_image.specs.Makes.{IsFormattedImage}

-- What layout_journal says of the data of the formatted disk, crash_stands and a law here of images that have its blocks, and crash_argument of what is accepted where nothing is pending.
pub record FormattedLaws : Type 0 where
  pub zeros : (g : Geometry) (b : ℕ) → geometry_fits g ≡ true → data_start g ≤ b → formatted g b ≡ replicate 1024 0
  pub alike : (g : Geometry) (img : Blocks) → geometry_fits g ≡ true → ((b : ℕ) → b < g.n → img b ≡ formatted g b) → StandsFor g.n img (start (bounds_of g)).tree
  pub mountable : (g : Geometry) (at : Blocks) → geometry_fits g ≡ true → ((b : ℕ) → b < data_start g → at b ≡ formatted g b) → CanBeMounted g.n at
  pub idle : (base : Blocks) (log : List Event) (b : ℕ) → (cell_of base log b).pending ≡ [] → (is_lost b log ≡ false) × (accepted base log b ≡ (cell_of base log b).settled)

-- nothing is pending on a disk that just began
pub rests : (image : List (List ℕ)) (d : State) → Begins image d → IsIdle d
rests image d begins b = ap (λ (log : List Event). (cell_of d.base log b).pending) begins.log

-- and settled is what it began with
settled_is : (image : List (List ℕ)) (d : State) → Begins image d → (b : ℕ) → settled_on d b ≡ blocks_of image b
settled_is image d begins b = ap (λ (log : List Event). (cell_of d.base log b).settled) begins.log ∙ ap (λ (at : Blocks). at b) begins.base

module _ (laws : FormattedLaws) (g : Geometry) (fits : geometry_fits g ≡ true) (room : data_start g ≤ g.n) (first last : State) (begins : Begins (zero_blocks g.n) first) (blocks : last.blocks ≡ g.n) (over : IsFormattedOver g first last) where
  zeros_kept : (b : ℕ) → data_start g ≤ b → b < g.n → settled_on last b ≡ replicate 1024 0
  zeros_kept b from low = over.kept b from ∙ settled_is (zero_blocks g.n) first begins b ∙ get_or-replicate g.n b (replicate 1024 0) [] low

  settled_formatted : (b : ℕ) → b < g.n → settled_on last b ≡ formatted g b
  settled_formatted b low = by (cases_lt b (data_start g))
    where
      by : (b < data_start g) ⊎ (data_start g ≤ b) → settled_on last b ≡ formatted g b
      by (inl before) = over.before b before
      by (inr from) = zeros_kept b from low ∙ sym (laws.zeros g b fits from)

  -- so what it leaves is the formatted disk
  left : (image : List (List ℕ)) → IsLeftBy last image → IsFormattedImage g (length image) (blocks_of image)
  left image is = record {
    size = size;
    blocks = each;
    zeros = λ b from low. each b low ∙ laws.zeros g b fits from;
    stands = subst (λ (n : ℕ). StandsMounted n (blocks_of image) (start (bounds_of g)).tree) (sym size) mounted;
  }
    where
      size : length image ≡ g.n
      size = is.length ∙ blocks

      each : (b : ℕ) → b < length image → blocks_of image b ≡ formatted g b
      each b low = is.each b (omega (arith, low, size, blocks)) ∙ (laws.idle last.base last.log b (over.idle b)).1 ∙ settled_formatted b (omega (arith, low, size))

      formatted_below : (b : ℕ) → b < g.n → blocks_of image b ≡ formatted g b
      formatted_below b low = each b (omega (arith, low, size))

      mounted : StandsMounted g.n (blocks_of image) (start (bounds_of g)).tree
      mounted = record {
        mountable = laws.mountable g (blocks_of image) fits (λ b low. formatted_below b (omega (arith, low, room)));
        stands = laws.alike g (blocks_of image) fits formatted_below;
      }

  -- and is under the name, where there was an image
  pub under : (marks : List Mark) (before : Kept) (now : Option Kept) → TakesBack last marks (Some before) now → HasImage now (IsFormattedImage g)
  under marks before None none = absurd none
  under marks before (Some kept) is = left kept.image is.image
