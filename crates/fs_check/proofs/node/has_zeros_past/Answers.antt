use Rattle.std.proofs.Common.{◌≡◌, ◌≤◌, ◌<◌, ◌-◌, ◌%◌, ℕ, List, take, drop, true, refl, sym, ap, subst, ◌∙◌, arith, take_all}
use Rattle.std.proofs.lemmas.List.{length-drop}
use Rattle.std.proofs.lemmas.Option.{get_or_from_slice_get, slice_get_within}
use Rattle.layout_geometry.specs.Geometry.{Geometry, bitmap_start}
use Rattle.layout_bytes.specs.Bitmap.{is_set}
use Rattle.layout_bytes.specs.Bytes.{are_zeros}
use Rattle.fs_check.proofs.sound.Nodes.{data_at}
use Rattle.fs_check.proofs.sound.Tails.{nothing_past, past_last}
use Rattle.fs_check.proofs.sound.Told.{defined_at, whole_at, whole_marked}
use Rattle.fs_check.proofs.node.has_zeros_past.Goals as goal

pub returns-then-used-eq0-clause-zeros : goal.returns-then-used-eq0-clause-zeros
returns-then-used-eq0-clause-zeros g c = λ tells marked.
    let s = g.S.Blocks.state c.args.blocks.now in
    sym (nothing_past s.map c.args.places.now c.args.size
    (whole_marked s c.args.geom.now c.args.places.now c.requires.geom c.requires.none_bare (g.met.S.Blocks.is_told c.args.blocks.now tells) c.requires.«data» marked)
    (omega (arith, c.requires.count, c.if-used-eq0.true)))

pub get-requires-clause-from : goal.get-requires-clause-from
get-requires-clause-from g c =
    let is = data_at c.args.geom.now c.args.places.now (c.count.result - 1) c.place-last.result c.requires.«data» c.place-last.ensures.value in
    subst (λ (h : Geometry). bitmap_start h ≤ c.place-last.result) (sym c.requires.geom) (omega (arith, is.from))

pub get-requires-clause-below : goal.get-requires-clause-below
get-requires-clause-below g c =
    let is = data_at c.args.geom.now c.args.places.now (c.count.result - 1) c.place-last.result c.requires.«data» c.place-last.ensures.value in
    subst (λ (h : Geometry). c.place-last.result < h.n) (sym c.requires.geom) is.below

pub returns-clause-zeros : goal.returns-clause-zeros
returns-clause-zeros g c = λ tells marked.
    let s = g.S.Blocks.state c.args.blocks.now in
    let told = g.met.S.Blocks.is_told c.args.blocks.now tells in
    let is = data_at c.args.geom.now c.args.places.now (c.count.result - 1) c.place-last.result c.requires.«data» c.place-last.ensures.value in
    let marks = subst (λ b. is_set c.args.geom.now s.map b ≡ true) (get_or_from_slice_get c.args.places.now (c.count.result - 1) c.place-last.result 0 c.place-last.ensures.value)
    (marked (c.count.result - 1) 0 (slice_get_within c.args.places.now (c.count.result - 1) c.place-last.result c.place-last.ensures.value)) in
    let whole = whole_marked s c.args.geom.now c.args.places.now c.requires.geom c.requires.none_bare told c.requires.«data» marked in
    let size = whole_at s c.args.geom.now c.place-last.result c.requires.geom c.requires.none_bare told is marks in
    let into = c.in_ok-get.ensures.block tells (defined_at s c.args.geom.now c.place-last.result c.requires.geom c.requires.none_bare told is marks) in
    let used : ℕ = c.args.size % 1024 in
    c.are_zeros.ensures
    ∙ ap (λ (xs : List ℕ). are_zeros (take (1024 - used) (drop used xs))) into
    ∙ ap are_zeros (take_all (1024 - used) (drop used (s.map c.place-last.result)) (omega (arith, length-drop used (s.map c.place-last.result), size)))
    ∙ ap are_zeros (sym (past_last s.map c.args.places.now (c.count.result - 1) c.place-last.result c.args.size used whole c.place-last.ensures.value c.requires.count refl (omega (arith, c.if-used-eq0.false)) (omega (arith, c.count.ensures.value))))
