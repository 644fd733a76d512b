-- Fields of a header that hold no geometry.
use Rattle.std.proofs.Common.{◌≡◌, ℕ, false, ◌&&◌, List, Some, None, ◌+◌, ◌==◌, nat_lt, nat_le}
use Rattle.std.proofs.lemmas.Bool.{and_left, and_right}
use Rattle.base_types.specs.Seal.{is_sealed}
use Rattle.layout_geometry.specs.Geometry.{geometry_fits}
use Rattle.layout_bytes.specs.Bytes.{field, has_zeros}
use Rattle.layout_journal.proofs.Fields.{none_behind}
use Rattle.layout_journal.specs.Layout.{header_tag, layout_in, has_tag, header_fields, header_fits, header_of}

-- a block whose fields hold no geometry is no header
pub no_geometry : (n : ℕ) (b : List ℕ) → geometry_fits (header_fields b).geom ≡ false → header_of n b ≡ None
unfolding header_of
no_geometry n b p =
    let h = header_fields b in
    let unfit : header_fits n b h ≡ false =
    and_right (has_tag (header_tag (layout_in b)) b) _ (and_right (nat_lt 0 h.epoch) _ (and_right (nat_lt 0 h.turn) _ (and_right (nat_lt 0 h.start) _
    (and_right (nat_le h.start (h.sure + 1)) _ (and_right (nat_lt h.at h.geom.j) _ (and_right (nat_le (field b 44 4) 1) _
    (and_left _ ((h.geom.n == n) && has_zeros b 60 992) p))))))) in
    none_behind (is_sealed b) (Some h) unfit
