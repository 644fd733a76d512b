-- What a header or a commit block that reads says of its numbers.
use Rattle.std.proofs.Common.{◌≡◌, ℕ, ◌+◌, ◌==◌, nat_lt, nat_le, List, Some, subst, eqb-true}
use Rattle.std.proofs.lemmas.Bool.{and_parts, leb-true, ltb-true}
use Rattle.std.proofs.lemmas.Option.{same_Some}
use Rattle.base_types.specs.Seal.{is_sealed}
use Rattle.layout_geometry.specs.Geometry.{Geometry, geometry_fits}
use Rattle.layout_bytes.specs.Bytes.{field}
use Rattle.layout_journal.specs.declared.header.Header.{Header}
use Rattle.layout_journal.specs.declared.record.Commit.{Commit}
use Rattle.layout_journal.proofs.Fields.{when_some, when_inner}
use Rattle.layout_journal.specs.Layout.{has_tag, header_tag, layout_in, header_fields, header_fits, header_of, IsWithinDisk, commit_tag, commit_fields, commit_fits, commit_of, IsWithinRing, descriptor_count}

-- each number of a header that reads was tested
pub header_bounds : (n : ℕ) (b : List ℕ) (h : Header) → header_of n b ≡ Some h → IsWithinDisk n h
unfolding header_of
header_bounds n b h e =
    let inner = when_inner (is_sealed b) _ h e in
    let fits = when_some (header_fits n b (header_fields b)) _ h inner in
    let same = same_Some _ _ (when_inner (header_fits n b (header_fields b)) _ h inner) in
    let f : Header = header_fields b in
    let tag = and_parts (has_tag (header_tag (layout_in b)) b) _ fits in
    let epoch = and_parts (nat_lt 0 f.epoch) _ tag.1 in
    let turn = and_parts (nat_lt 0 f.turn) _ epoch.1 in
    let first = and_parts (nat_lt 0 f.start) _ turn.1 in
    let sure = and_parts (nat_le f.start (f.sure + 1)) _ first.1 in
    let at = and_parts (nat_lt f.at f.geom.j) _ sure.1 in
    let closed = and_parts (nat_le (field b 44 4) 1) _ at.1 in
    let geom = and_parts (geometry_fits f.geom) _ closed.1 in
    let blocks = and_parts (f.geom.n == n) _ geom.1 in
    let fields : IsWithinDisk n f = record {
      epoch = ltb-true 0 f.epoch epoch.0;
      turn = ltb-true 0 f.turn turn.0;
      first = ltb-true 0 f.start first.0;
      sure = leb-true f.start (f.sure + 1) sure.0;
      at = ltb-true f.at f.geom.j at.0;
      geom = geom.0;
      blocks = eqb-true f.geom.n n blocks.0;
    } in
    subst (IsWithinDisk n) same fields

-- and so was each number of a commit block
pub commit_bounds : (g : Geometry) (b : List ℕ) (c : Commit) → commit_of g b ≡ Some c → IsWithinRing g c
unfolding commit_of
commit_bounds g b c e =
    let inner = when_inner (is_sealed b) _ c e in
    let fits = when_some (commit_fits g b (commit_fields b)) _ c inner in
    let same = same_Some _ _ (when_inner (commit_fits g b (commit_fields b)) _ c inner) in
    let f : Commit = commit_fields b in
    let tag = and_parts (has_tag commit_tag b) _ fits in
    let some = and_parts (nat_lt 0 f.payloads) _ tag.1 in
    let count = and_parts (f.descriptors == descriptor_count (f.payloads + f.fresh)) _ some.1 in
    let room = and_parts (nat_le (1 + f.descriptors + f.payloads) g.j) _ count.1 in
    let fields : IsWithinRing g f = record {
      some = ltb-true 0 f.payloads some.0;
      descriptors = eqb-true f.descriptors (descriptor_count (f.payloads + f.fresh)) count.0;
      room = leb-true (1 + f.descriptors + f.payloads) g.j room.0;
    } in
    subst (IsWithinRing g) same fields
