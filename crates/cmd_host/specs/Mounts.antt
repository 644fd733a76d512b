-- What the mount of a disk that was just formatted adds to its log. It is described in docs/TRACE.md.
use Rattle.std.specs.Prelude.{◌≡◌, ◌⊎◌, ℕ, ◌<◌, ◌≤◌, false, List, [], ◌∷◌, Some}
use Rattle.disk_contract.specs.declared.event.Event.{Event}
use Rattle.disk_contract.specs.declared.event.Event.TheVariants.{Wrote, Noticed}
use Rattle.layout_geometry.specs.Geometry.{Geometry}
use Rattle.layout_journal.specs.declared.header.Header.{Header}
use Rattle.layout_journal.specs.Layout.{header_of}
use Rattle.crash_argument.specs.Opening.{LosesOne}

-- The header of the first session on a formatted disk of this geometry: its epoch is the next one, its turn is later by one or two, and it has no record, so that the first one comes to the first place of the ring.
pub record IsFirstHeader (g : Geometry) (h : Header) : Type 0 where
  pub geom : h.geom ≡ g
  pub epoch : h.epoch ≡ 2
  pub turn : 1 < h.turn
  pub most : h.turn ≤ 3
  pub start : h.start ≡ 1
  pub sure : h.sure ≡ 0
  pub place : h.at ≡ 0
  pub not_closed : h.closed ≡ false

-- The mount writes once, that header into a slot. The write is accepted, and its notice comes behind it, and no other event.
pub record MountsOnce (g : Geometry) (log : List Event) : Type 0 where
  pub ticket : ℕ
  pub slot : ℕ
  pub bytes : List ℕ
  pub header : Header
  pub is_slot : slot < 2
  pub reads : header_of g.n bytes ≡ Some header
  pub first : IsFirstHeader g header
  pub is : log ≡ Wrote ticket slot bytes ∷ Noticed ticket ∷ []

-- One write, which is accepted. Behind it comes its notice, or nothing.
pub record WritesAlone (log : List Event) : Type 0 where
  pub ticket : ℕ
  pub block : ℕ
  pub bytes : List ℕ
  pub is : (log ≡ Wrote ticket block bytes ∷ []) ⊎ (log ≡ Wrote ticket block bytes ∷ Noticed ticket ∷ [])

-- A mount that fails adds nothing, or its one write is lost, or it is accepted.
abbrev pub MountsAtMost : List Event → Type 0
MountsAtMost log = (log ≡ []) ⊎ (LosesOne [] log ⊎ WritesAlone log)
