use Rattle.std.proofs.Common.{◌≡◌, ℕ, ◌+◌, Bool, List, Vec, false, refl, sym, ap, subst, ◌∙◌}
use Rattle.std.proofs.lemmas.Result.{err_from_is_err_and}
use Rattle.base_types.specs.Seal.{Blocks, blocks_of}
use Rattle.layout_geometry.specs.Geometry.{Geometry}
use Rattle.crash_stands.specs.Stands.{AreSound, HasNoSnapshots}
use Rattle.fs_check.specs.Broken.{IsLost}
use Rattle.fs_files.specs.Places.{looks_more}
use Rattle.fs_check.specs.Meeting.{AreBits, IsCheckedTo, IsUnmet}
use Rattle.fs_check.specs.Snapshots.{AreCheckedBelow, numbers_in}
use Rattle.fs_check.specs.Whole.{IsDamaged, OnDamage, fails_by, of_blocks}
use Rattle.fs_check.proofs.sound.Ends.{bits_then, blocks_damage, counts_tell, looks_ended, no_snapshots, sound_nodes, through}
use Rattle.fs_check.proofs.sound.Whole.{LeavesNone, held_first, lost, whole_sound, written_back}
use Rattle.fs_check.proofs.blocks.check_blocks.Goals as goal

pub returns-in_err-found-clause-damage : goal.returns-in_err-found-clause-damage
returns-in_err-found-clause-damage g c = λ tells.
    let s = g.S.Blocks.state c.args.blocks.now in
    let t = g.S.Blocks.state c.read_bitmap.new.blocks in
    let h = c.geom-geom.result in
    let same : c.as_slice.result.now ≡ c.read_bitmap.new.into = c.as_slice.ensures.value ∙ written_back c.in_ok-marked.marked.len c.read_bitmap.new.into c.in_ok-marked.marked.items (c.in_ok-read_bitmap.ensures.size ∙ c.as_mut_slice.ensures.len) in
    let are = bits_then g.S.Blocks.tells s t h c.read_bitmap.new.into c.as_slice.result.now c.in_ok-read_bitmap.ensures.looks tells (c.in_ok-read_bitmap.ensures.bits tells) same in
    let why = c.in_err-found.field-0.0 in
    let p = err_from_is_err_and c.from_residual-in_err-found.result c.from_residual-in_err-found.ensures.1 in
    rw (p.1, p.2) (held_first (λ x m. OnDamage (of_blocks why) (IsDamaged x m)) g.S.Blocks.tells s t h c.in_ok-read_bitmap.ensures.looks c.geom-geom.ensures tells (blocks_damage Bool h t.map why (c.in_err-found.ensures.damage tells are)))

pub returns-in_err-found-clause-looks : goal.returns-in_err-found-clause-looks
returns-in_err-found-clause-looks g c =
    let p = err_from_is_err_and c.from_residual-in_err-found.result c.from_residual-in_err-found.ensures.1 in
    rw (p.1, p.2) (looks_ended Bool g.S.Blocks.tells (g.S.Blocks.state c.args.blocks.now) (g.S.Blocks.state c.read_bitmap.new.blocks) (g.S.Blocks.state c.check_with.new.blocks) c.in_err-found.field-0.0 c.in_ok-read_bitmap.ensures.looks c.in_err-found.ensures.looks)

pub find_snapshots-requires-clause-none : goal.find_snapshots-requires-clause-none
find_snapshots-requires-clause-none g c = λ tells none.
    let s = g.S.Blocks.state c.args.blocks.now in
    let t = g.S.Blocks.state c.read_bitmap.new.blocks in
    let u = g.S.Blocks.state c.check_with.new.blocks in
    let h = c.geom-geom.result in
    let same : c.as_slice.result.now ≡ c.read_bitmap.new.into = c.as_slice.ensures.value ∙ written_back c.in_ok-marked.marked.len c.read_bitmap.new.into c.in_ok-marked.marked.items (c.in_ok-read_bitmap.ensures.size ∙ c.as_mut_slice.ensures.len) in
    let are = bits_then g.S.Blocks.tells s t h c.read_bitmap.new.into c.as_slice.result.now c.in_ok-read_bitmap.ensures.looks tells (c.in_ok-read_bitmap.ensures.bits tells) same in
    let checked = c.in_ok-found.ensures.checked tells are in
    subst (HasNoSnapshots h) (sym (c.in_ok-found.ensures.looks.map tells)) (no_snapshots h t.map c.as_slice.result.now c.check_with.new.met c.in_ok-found.found checked none)

pub find_snapshots-requires-clause-nodes : goal.find_snapshots-requires-clause-nodes
find_snapshots-requires-clause-nodes g c = λ tells.
    let s = g.S.Blocks.state c.args.blocks.now in
    let t = g.S.Blocks.state c.read_bitmap.new.blocks in
    let u = g.S.Blocks.state c.check_with.new.blocks in
    let h = c.geom-geom.result in
    let same : c.as_slice.result.now ≡ c.read_bitmap.new.into = c.as_slice.ensures.value ∙ written_back c.in_ok-marked.marked.len c.read_bitmap.new.into c.in_ok-marked.marked.items (c.in_ok-read_bitmap.ensures.size ∙ c.as_mut_slice.ensures.len) in
    let are = bits_then g.S.Blocks.tells s t h c.read_bitmap.new.into c.as_slice.result.now c.in_ok-read_bitmap.ensures.looks tells (c.in_ok-read_bitmap.ensures.bits tells) same in
    let checked = c.in_ok-found.ensures.checked tells are in
    sound_nodes h u.map c.as_slice.result.now c.check_with.new.met c.in_ok-found.found (subst (λ (m : Blocks). IsCheckedTo h m c.as_slice.result.now c.check_with.new.met c.in_ok-found.found (h.i + 1)) (sym (c.in_ok-found.ensures.looks.map tells)) checked)

pub find_snapshots-requires-clause-are : goal.find_snapshots-requires-clause-are
find_snapshots-requires-clause-are g c = λ tells.
    let s = g.S.Blocks.state c.args.blocks.now in
    let t = g.S.Blocks.state c.read_bitmap.new.blocks in
    let u = g.S.Blocks.state c.check_with.new.blocks in
    let h = c.geom-geom.result in
    let same : c.as_slice.result.now ≡ c.read_bitmap.new.into = c.as_slice.ensures.value ∙ written_back c.in_ok-marked.marked.len c.read_bitmap.new.into c.in_ok-marked.marked.items (c.in_ok-read_bitmap.ensures.size ∙ c.as_mut_slice.ensures.len) in
    let are = bits_then g.S.Blocks.tells s t h c.read_bitmap.new.into c.as_slice.result.now c.in_ok-read_bitmap.ensures.looks tells (c.in_ok-read_bitmap.ensures.bits tells) same in
    subst (AreBits h u.map) c.as_slice.ensures.value (bits_then g.S.Blocks.tells t u h c.as_slice.result.now c.as_slice.result.now c.in_ok-found.ensures.looks tells are refl)

pub returns-in_err-snapshots-clause-damage : goal.returns-in_err-snapshots-clause-damage
returns-in_err-snapshots-clause-damage g c = λ tells.
    let s = g.S.Blocks.state c.args.blocks.now in
    let t = g.S.Blocks.state c.read_bitmap.new.blocks in
    let u = g.S.Blocks.state c.check_with.new.blocks in
    let h = c.geom-geom.result in
    let same : c.as_slice.result.now ≡ c.read_bitmap.new.into = c.as_slice.ensures.value ∙ written_back c.in_ok-marked.marked.len c.read_bitmap.new.into c.in_ok-marked.marked.items (c.in_ok-read_bitmap.ensures.size ∙ c.as_mut_slice.ensures.len) in
    let are = bits_then g.S.Blocks.tells s t h c.read_bitmap.new.into c.as_slice.result.now c.in_ok-read_bitmap.ensures.looks tells (c.in_ok-read_bitmap.ensures.bits tells) same in
    let checked = c.in_ok-found.ensures.checked tells are in
    let two = looks_more g.S.Blocks.tells false s t u c.in_ok-read_bitmap.ensures.looks c.in_ok-found.ensures.looks in
    let nodes = sound_nodes h u.map c.as_slice.result.now c.check_with.new.met c.in_ok-found.found (subst (λ (m : Blocks). IsCheckedTo h m c.as_slice.result.now c.check_with.new.met c.in_ok-found.found (h.i + 1)) (sym (c.in_ok-found.ensures.looks.map tells)) checked) in
    let bits = subst (AreBits h u.map) c.as_slice.ensures.value (bits_then g.S.Blocks.tells t u h c.as_slice.result.now c.as_slice.result.now c.in_ok-found.ensures.looks tells are refl) in
    let why = c.in_err-snapshots.field-0.0 in
    let p = err_from_is_err_and c.from_residual-in_err-snapshots.result c.from_residual-in_err-snapshots.ensures.1 in
    rw (p.1, p.2) (held_first (λ x m. OnDamage why (IsDamaged x m)) g.S.Blocks.tells s u h two c.geom-geom.ensures tells (c.in_err-snapshots.ensures.damage tells))

pub returns-in_err-snapshots-clause-looks : goal.returns-in_err-snapshots-clause-looks
returns-in_err-snapshots-clause-looks g c =
    let s = g.S.Blocks.state c.args.blocks.now in
    let t = g.S.Blocks.state c.read_bitmap.new.blocks in
    let u = g.S.Blocks.state c.check_with.new.blocks in
    let h = c.geom-geom.result in
    let two = looks_more g.S.Blocks.tells false s t u c.in_ok-read_bitmap.ensures.looks c.in_ok-found.ensures.looks in
    let p = err_from_is_err_and c.from_residual-in_err-snapshots.result c.from_residual-in_err-snapshots.ensures.1 in
    rw (p.1, p.2) (looks_more g.S.Blocks.tells (fails_by c.in_err-snapshots.field-0.0) s u (g.S.Blocks.state c.find_snapshots.new.blocks) two c.in_err-snapshots.ensures.looks)

pub returns-in_err-check_rest-clause-damage : goal.returns-in_err-check_rest-clause-damage
returns-in_err-check_rest-clause-damage g c = λ tells.
    let s = g.S.Blocks.state c.args.blocks.now in
    let t = g.S.Blocks.state c.read_bitmap.new.blocks in
    let u = g.S.Blocks.state c.check_with.new.blocks in
    let h = c.geom-geom.result in
    let same : c.as_slice.result.now ≡ c.read_bitmap.new.into = c.as_slice.ensures.value ∙ written_back c.in_ok-marked.marked.len c.read_bitmap.new.into c.in_ok-marked.marked.items (c.in_ok-read_bitmap.ensures.size ∙ c.as_mut_slice.ensures.len) in
    let are = bits_then g.S.Blocks.tells s t h c.read_bitmap.new.into c.as_slice.result.now c.in_ok-read_bitmap.ensures.looks tells (c.in_ok-read_bitmap.ensures.bits tells) same in
    let checked = c.in_ok-found.ensures.checked tells are in
    let two = looks_more g.S.Blocks.tells false s t u c.in_ok-read_bitmap.ensures.looks c.in_ok-found.ensures.looks in
    let nodes = sound_nodes h u.map c.as_slice.result.now c.check_with.new.met c.in_ok-found.found (subst (λ (m : Blocks). IsCheckedTo h m c.as_slice.result.now c.check_with.new.met c.in_ok-found.found (h.i + 1)) (sym (c.in_ok-found.ensures.looks.map tells)) checked) in
    let bits = subst (AreBits h u.map) c.as_slice.ensures.value (bits_then g.S.Blocks.tells t u h c.as_slice.result.now c.as_slice.result.now c.in_ok-found.ensures.looks tells are refl) in
    let first = subst (λ (m : Blocks). IsCheckedTo h m c.as_slice.result.now c.check_with.new.met c.in_ok-found.found (h.i + 1)) (c.in_ok-read_bitmap.ensures.looks.map tells) checked in
    let below = subst (λ (m : Blocks). AreCheckedBelow h m (h.i + 1) (numbers_in c.in_ok-snapshots.snapshots.numbers.entries) c.in_ok-snapshots.snapshots.shared) (two.map tells) (c.in_ok-snapshots.ensures.known tells) in
    let room = c.in_ok-snapshots.ensures.room in
    let same_bits : c.as_slice-2.result.now ≡ c.as_slice.result.now = c.as_slice-2.ensures.value ∙ ap (λ (v : Vec (List ℕ) _). v.items) c.in_ok-snapshots.ensures.marked ∙ sym c.as_slice.ensures.value in
    let same_met : c.as_slice-3.result.now ≡ c.check_with.new.met = c.as_slice-3.ensures.value ∙ written_back c.in_ok-met.met.len c.check_with.new.met c.in_ok-met.met.items (c.in_ok-found.ensures.size ∙ c.as_mut_slice-2.ensures.len) in
    let counts = c.in_ok-snapshots.snapshots.shared in
    let left = c.in_err-check_rest.ensures.lost in
    let unmet = subst (λ xs. IsUnmet h (blocks_of xs) (blocks_of c.check_with.new.met) left.0) same_bits (subst (λ ys. IsUnmet h (blocks_of c.as_slice-2.result.now) (blocks_of ys) left.0) same_met left.2) in
    let tell = counts_tell c.what_is_known_of_snapshots_is_so.ensures.kept h s.map (numbers_in c.in_ok-snapshots.snapshots.numbers.entries) counts below room in
    let p = err_from_is_err_and c.from_residual-in_err-check_rest.result c.from_residual-in_err-check_rest.ensures.1 in
    rw (p.1, p.2, left.1) (subst (λ (x : Geometry). IsLost x s.map left.0) c.geom-geom.ensures (lost h s.map c.as_slice.result.now c.check_with.new.met c.in_ok-found.found counts left.0 first tell unmet left.3))

pub returns-in_err-check_rest-clause-looks : goal.returns-in_err-check_rest-clause-looks
returns-in_err-check_rest-clause-looks g c =
    let s = g.S.Blocks.state c.args.blocks.now in
    let t = g.S.Blocks.state c.read_bitmap.new.blocks in
    let u = g.S.Blocks.state c.check_with.new.blocks in
    let h = c.geom-geom.result in
    let two = looks_more g.S.Blocks.tells false s t u c.in_ok-read_bitmap.ensures.looks c.in_ok-found.ensures.looks in
    let p = err_from_is_err_and c.from_residual-in_err-check_rest.result c.from_residual-in_err-check_rest.ensures.1 in
    rw (p.1, p.2) (looks_more g.S.Blocks.tells false s u (g.S.Blocks.state c.find_snapshots.new.blocks) two c.in_ok-snapshots.ensures.looks)

pub returns-clause-sound : goal.returns-clause-sound
returns-clause-sound g c = λ tells.
    let s = g.S.Blocks.state c.args.blocks.now in
    let t = g.S.Blocks.state c.read_bitmap.new.blocks in
    let u = g.S.Blocks.state c.check_with.new.blocks in
    let h = c.geom-geom.result in
    let same : c.as_slice.result.now ≡ c.read_bitmap.new.into = c.as_slice.ensures.value ∙ written_back c.in_ok-marked.marked.len c.read_bitmap.new.into c.in_ok-marked.marked.items (c.in_ok-read_bitmap.ensures.size ∙ c.as_mut_slice.ensures.len) in
    let are = bits_then g.S.Blocks.tells s t h c.read_bitmap.new.into c.as_slice.result.now c.in_ok-read_bitmap.ensures.looks tells (c.in_ok-read_bitmap.ensures.bits tells) same in
    let checked = c.in_ok-found.ensures.checked tells are in
    let two = looks_more g.S.Blocks.tells false s t u c.in_ok-read_bitmap.ensures.looks c.in_ok-found.ensures.looks in
    let nodes = sound_nodes h u.map c.as_slice.result.now c.check_with.new.met c.in_ok-found.found (subst (λ (m : Blocks). IsCheckedTo h m c.as_slice.result.now c.check_with.new.met c.in_ok-found.found (h.i + 1)) (sym (c.in_ok-found.ensures.looks.map tells)) checked) in
    let bits = subst (AreBits h u.map) c.as_slice.ensures.value (bits_then g.S.Blocks.tells t u h c.as_slice.result.now c.as_slice.result.now c.in_ok-found.ensures.looks tells are refl) in
    let first = subst (λ (m : Blocks). IsCheckedTo h m c.as_slice.result.now c.check_with.new.met c.in_ok-found.found (h.i + 1)) (c.in_ok-read_bitmap.ensures.looks.map tells) checked in
    let below = subst (λ (m : Blocks). AreCheckedBelow h m (h.i + 1) (numbers_in c.in_ok-snapshots.snapshots.numbers.entries) c.in_ok-snapshots.snapshots.shared) (two.map tells) (c.in_ok-snapshots.ensures.known tells) in
    let room = c.in_ok-snapshots.ensures.room in
    let same_bits : c.as_slice-2.result.now ≡ c.as_slice.result.now = c.as_slice-2.ensures.value ∙ ap (λ (v : Vec (List ℕ) _). v.items) c.in_ok-snapshots.ensures.marked ∙ sym c.as_slice.ensures.value in
    let same_met : c.as_slice-3.result.now ≡ c.check_with.new.met = c.as_slice-3.ensures.value ∙ written_back c.in_ok-met.met.len c.check_with.new.met c.in_ok-met.met.items (c.in_ok-found.ensures.size ∙ c.as_mut_slice-2.ensures.len) in
    let counts = c.in_ok-snapshots.snapshots.shared in
    let rest = subst (λ xs. LeavesNone h xs c.check_with.new.met counts) same_bits (subst (λ ys. LeavesNone h c.as_slice-2.result.now ys counts) same_met c.in_ok-check_rest.ensures.none) in
    subst (λ (x : Geometry). AreSound x s.map) c.geom-geom.ensures (whole_sound s h c.as_slice.result.now c.check_with.new.met c.in_ok-found.found counts (sym c.geom-geom.ensures) c.lawful.ensures.limits c.requires.none_bare (g.met.S.Blocks.is_told c.args.blocks.now tells)
    (through c.what_is_known_of_snapshots_is_so.ensures.kept h s.map c.as_slice.result.now c.check_with.new.met c.in_ok-found.found (numbers_in c.in_ok-snapshots.snapshots.numbers.entries) counts c.in_ok-found.ensures.good first below room rest))

pub returns-clause-known : goal.returns-clause-known
returns-clause-known g c = λ tells.
    let s = g.S.Blocks.state c.args.blocks.now in
    let t = g.S.Blocks.state c.read_bitmap.new.blocks in
    let u = g.S.Blocks.state c.check_with.new.blocks in
    let h = c.geom-geom.result in
    let same : c.as_slice.result.now ≡ c.read_bitmap.new.into = c.as_slice.ensures.value ∙ written_back c.in_ok-marked.marked.len c.read_bitmap.new.into c.in_ok-marked.marked.items (c.in_ok-read_bitmap.ensures.size ∙ c.as_mut_slice.ensures.len) in
    let are = bits_then g.S.Blocks.tells s t h c.read_bitmap.new.into c.as_slice.result.now c.in_ok-read_bitmap.ensures.looks tells (c.in_ok-read_bitmap.ensures.bits tells) same in
    let checked = c.in_ok-found.ensures.checked tells are in
    let two = looks_more g.S.Blocks.tells false s t u c.in_ok-read_bitmap.ensures.looks c.in_ok-found.ensures.looks in
    let nodes = sound_nodes h u.map c.as_slice.result.now c.check_with.new.met c.in_ok-found.found (subst (λ (m : Blocks). IsCheckedTo h m c.as_slice.result.now c.check_with.new.met c.in_ok-found.found (h.i + 1)) (sym (c.in_ok-found.ensures.looks.map tells)) checked) in
    let bits = subst (AreBits h u.map) c.as_slice.ensures.value (bits_then g.S.Blocks.tells t u h c.as_slice.result.now c.as_slice.result.now c.in_ok-found.ensures.looks tells are refl) in
    held_first (λ x m. AreCheckedBelow x m (x.i + 1) (numbers_in c.in_ok-snapshots.snapshots.numbers.entries) c.in_ok-snapshots.snapshots.shared) g.S.Blocks.tells s u h two c.geom-geom.ensures tells (c.in_ok-snapshots.ensures.known tells)

pub returns-clause-looks : goal.returns-clause-looks
returns-clause-looks g c =
    let s = g.S.Blocks.state c.args.blocks.now in
    let t = g.S.Blocks.state c.read_bitmap.new.blocks in
    let u = g.S.Blocks.state c.check_with.new.blocks in
    let h = c.geom-geom.result in
    let two = looks_more g.S.Blocks.tells false s t u c.in_ok-read_bitmap.ensures.looks c.in_ok-found.ensures.looks in
    looks_more g.S.Blocks.tells false s u (g.S.Blocks.state c.find_snapshots.new.blocks) two c.in_ok-snapshots.ensures.looks
