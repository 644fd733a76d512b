use Rattle.base_types.specs.Layouts.{directory_blocks, most_runs}
use Rattle.std.proofs.Common.{ℕ, ◌+◌, ◌-◌, ◌≤◌, [], ◌∷◌, ◌++◌, false, IsTrue, List, take, length, sym, subst, ap, ◌∙◌, arith}
use Rattle.std.proofs.lemmas.List.{append-nil}
use Rattle.layout_geometry.specs.Geometry.{Geometry}
use Rattle.layout_extent.specs.Runs.{stretches}
use Rattle.layout_directory.specs.Directory.{without_at}
use Rattle.lang_tree.specs.Figures.{growth, release}
use Rattle.crash_stands.specs.Files.{files_of}
use Rattle.fs_inodes.specs.Changes.{MovesSlot, slot_of}
use Rattle.engine_blocks.specs.State.{Bookkeeping, reusable_blocks}
use Rattle.fs_files.specs.Calls.{GrowthRefused, IsWithPlaces, files_in, places_in}
use Rattle.fs_files.specs.Drafts.{DraftState, nothing_drafted}
use Rattle.fs_dirs.specs.Changing.{Alters, IsWithSlots}
use Rattle.fs_dirs.specs.Directories.{inodes_in}
use Rattle.fs_session.specs.Commands.{GrowsInRuns, places_of}
use Rattle.fs_session.specs.Sessions.{inodes}
use Rattle.fs_session.specs.Space.{ArePlaced, none_renewed}
use Rattle.fs_commands.proofs.Placing.{placed_cut, placed_grown, placed_then}
use Rattle.fs_commands.proofs.planning.Looking.{cut_growth, settled_then, settled_cut, calm_on, looked_calmly}
use Rattle.fs_commands.proofs.moved.Free.{leaves_across, moves_across, used_across}
use Rattle.fs_commands.proofs.moved.Onto.{place_within}
use Rattle.fs_commands.proofs.looking.Found.{look_begins}
use Rattle.fs_commands.proofs.keeping.Begun.{altered_beside}
use Rattle.fs_commands.proofs.keeping.Laid.{inodes_laid, slots_laid, reads_laid}
use Rattle.fs_commands.specs.Moving.{MayMoveAway}
use Rattle.fs_commands.proofs.moving.draft_across.Given as given
use Rattle.fs_commands.proofs.moving.draft_across.Goals as goal
use Rattle.fs_commands.proofs.moving.draft_across.Goals.{In-Ok}
use Rattle.lang_tree.specs.Sharing.{none_shared}
use Rattle.fs_session.specs.NothingKept.{runs_behind}

-- a slot came
named_so : (g : given.Over) (c : goal.In-Ok g) → IsTrue g.S.Blocks.tells → (name : List ℕ) (may : MayMoveAway (g.S.Blocks.state c.args.blocks.now) c.args.source.now c.args.into c.args.count name c.args.other.now)
    → IsWithSlots (g.S.Blocks.state c.args.blocks.now).books.geom.layout (files_in (g.S.Blocks.state c.args.blocks.now) nothing_drafted) (files_in (g.S.Blocks.state c.add_slot.new.blocks) c.add_slot.new.draft) c.args.into (may.into.slots ++ slot_of c.args.source.now.entry.node.number c.args.other.now ∷ [])
named_so g c told name may =
    let s = g.S.Blocks.state c.args.blocks.now in
    let f1 = files_in (g.S.Blocks.state c.add_slot.new.blocks) c.add_slot.new.draft in
    let number = c.args.source.now.entry.node.number in
    subst (λ (n : List ℕ). IsWithSlots s.books.geom.layout (files_in s nothing_drafted) f1 c.args.into (may.into.slots ++ slot_of number n ∷ [])) c.copy.ensures
    (subst (λ d. IsWithSlots s.books.geom.layout (files_in s d) f1 c.args.into (may.into.slots ++ slot_of number c.copy.result ∷ [])) c.beside-draft.ensures
    (c.in-Ok.ensures.slots told may.into.slots (ap (λ d. inodes_in s d c.args.into) c.beside-draft.ensures ∙ may.into.dir_is)))

-- and its directory has blocks behind its own
placed_so : (g : given.Over) (c : goal.In-Ok g) → IsTrue g.S.Blocks.tells → (name : List ℕ) (may : MayMoveAway (g.S.Blocks.state c.args.blocks.now) c.args.source.now c.args.into c.args.count name c.args.other.now)
    → IsWithPlaces (places_of (g.S.Blocks.state c.args.blocks.now)) (places_in (g.S.Blocks.state c.add_slot.new.blocks) c.add_slot.new.draft) c.args.into
    (places_of (g.S.Blocks.state c.args.blocks.now) c.args.into ++ take (growth (g.S.Blocks.state c.args.blocks.now).books.geom.layout (length may.into.slots)) (reusable_blocks (g.S.Blocks.state c.add_slot.new.blocks).books))
placed_so g c told name may =
    let s = g.S.Blocks.state c.args.blocks.now in
    let t = g.S.Blocks.state c.add_slot.new.blocks in
    subst (λ d. IsWithPlaces (places_in s d) (places_in t c.add_slot.new.draft) c.args.into (places_in s d c.args.into ++ take (growth s.books.geom.layout (length may.into.slots)) (reusable_blocks t.books))) c.beside-draft.ensures
    (c.in-Ok.ensures.places told may.into.slots (ap (λ d. inodes_in s d c.args.into) c.beside-draft.ensures ∙ may.into.dir_is))

pub take_slot-requires-clause-there : goal.take_slot-requires-clause-there
take_slot-requires-clause-there g c = λ told.
    let s = g.S.Blocks.state c.args.blocks.now in
    let name = (c.requires.moves told).0 in
    let may = (c.requires.moves told).1 in
    let at = ap (λ d. inodes_in s d c.args.into) c.beside-draft.ensures ∙ may.into.dir_is in
    let one = c.in-Ok.ensures.slots told may.into.slots at in
    let there = inodes_laid s (g.S.Blocks.state c.add_slot.new.blocks) c.in-Ok.ensures.settles.pipeline.geom c.add_slot.new.draft in
    (may.from.slots, ap (λ m. m c.args.source.now.dir) there ∙ one.inodes.others c.args.source.now.dir may.apart ∙ ap (λ d. inodes_in s d c.args.source.now.dir) c.beside-draft.ensures ∙ may.from.dir, place_within (inodes_in s nothing_drafted) name c.args.source.now may.from)

pub returns-in-Err-clause-refused : goal.returns-in-Err-clause-refused
returns-in-Err-clause-refused g c = λ told name may.
    let s = g.S.Blocks.state c.args.blocks.now in
    let t = g.S.Blocks.state c.add_slot.new.blocks in
    let at = ap (λ d. inodes_in s d c.args.into) c.beside-draft.ensures ∙ may.into.dir_is in
    subst (λ n. GrowthRefused (growth s.books.geom.layout n) (λ more. places_of s c.args.into ++ more) s.books t.books c.in-Err.why) (sym may.into.many_are)
    (subst (λ d. GrowthRefused (growth s.books.geom.layout (length may.into.slots)) (λ more. places_in s d c.args.into ++ more) s.books t.books c.in-Err.why) c.beside-draft.ensures (c.in-Err.ensures.refused told may.into.slots at))

pub returns-in-Ok-take_slot-clause-kept : goal.returns-in-Ok-take_slot-clause-kept
returns-in-Ok-take_slot-clause-kept g c = c.in-Ok-take_slot.ensures.kept ∙ c.in-Ok.ensures.kept ∙ ap (λ (d : DraftState). d.kept) c.beside-draft.ensures

pub returns-in-Ok-take_slot-clause-settles : goal.returns-in-Ok-take_slot-clause-settles
returns-in-Ok-take_slot-clause-settles g c = settled_then g.S.Blocks.tells g.S.Blocks.state c.calls_compose.ensures.rests c.calls_compose.ensures.advances c.args.blocks.now c.add_slot.new.blocks c.take_slot.new.blocks c.in-Ok.ensures.settles false c.in-Ok-take_slot.ensures.looks

pub returns-clause-settles : goal.returns-clause-settles
returns-clause-settles g c =
    settled_cut g.S.Blocks.tells g.S.Blocks.state c.calls_compose.ensures.rests c.calls_compose.ensures.advances c.args.blocks.now c.add_slot.new.blocks c.take_slot.new.blocks c.in-Ok.ensures.settles c.in-Err-take_slot.why c.in-Err-take_slot.ensures.refused c.in-Err-take_slot.ensures.looks

pub returns-clause-refused : goal.returns-clause-refused
returns-clause-refused g c = λ told name may.
    cut_growth (growth (g.S.Blocks.state c.args.blocks.now).books.geom.layout c.args.count) (λ more. places_of (g.S.Blocks.state c.args.blocks.now) c.args.into ++ more) (g.S.Blocks.state c.args.blocks.now).books (g.S.Blocks.state c.take_slot.new.blocks).books c.in-Err-take_slot.why c.in-Err-take_slot.ensures.refused

pub returns-in-Ok-take_slot-clause-grows : goal.returns-in-Ok-take_slot-clause-grows
returns-in-Ok-take_slot-clause-grows g c = λ told name may.
    let s = g.S.Blocks.state c.args.blocks.now in
    let t = g.S.Blocks.state c.add_slot.new.blocks in
    let at = ap (λ d. inodes_in s d c.args.into) c.beside-draft.ensures ∙ may.into.dir_is in
    subst (λ (k : Bookkeeping). GrowsInRuns none_shared s k c.args.into (growth s.books.geom.layout c.args.count)) (sym c.in-Ok-take_slot.ensures.looks.books)
    (subst (λ n. GrowsInRuns none_shared s t.books c.args.into (growth s.books.geom.layout n)) (sym may.into.many_are) (runs_behind s t.books c.args.into (growth s.books.geom.layout (length may.into.slots)) (c.in-Ok.ensures.room told may.into.slots at)
    (subst (λ d. stretches (places_in s d c.args.into ++ take (growth s.books.geom.layout (length may.into.slots)) (reusable_blocks t.books)) ≤ most_runs s.books.geom.layout) c.beside-draft.ensures (c.in-Ok.ensures.runs told may.into.slots at))))

pub returns-in-Ok-take_slot-clause-rests : goal.returns-in-Ok-take_slot-clause-rests
returns-in-Ok-take_slot-clause-rests g c = λ told name may enough.
    let s = g.S.Blocks.state c.args.blocks.now in
    let at = ap (λ d. inodes_in s d c.args.into) c.beside-draft.ensures ∙ may.into.dir_is in
    c.in-Ok-take_slot.ensures.looks.books
    ∙ (c.in-Ok.ensures.looks told may.into.slots at (subst (λ n. growth s.books.geom.layout n ≤ length (reusable_blocks s.books)) may.into.many_are enough)).books

pub returns-in-Ok-take_slot-clause-leaves : goal.returns-in-Ok-take_slot-clause-leaves
returns-in-Ok-take_slot-clause-leaves g c = λ told.
    let s = g.S.Blocks.state c.args.blocks.now in
    let t = g.S.Blocks.state c.add_slot.new.blocks in
    let u = g.S.Blocks.state c.take_slot.new.blocks in
    let name = (c.requires.moves told).0 in
    let may = (c.requires.moves told).1 in
    let p = (goal.at.returns-in-Ok-take_slot-clause-leaves g c).In-Ok in
    let named = named_so g p told name may in
    let laid = c.in-Ok.ensures.settles.pipeline.geom in
    let from_at = ap (λ m. m c.args.source.now.dir) (inodes_laid s t laid c.add_slot.new.draft) ∙ named.inodes.others c.args.source.now.dir may.apart ∙ may.from.dir in
    let takes = take (growth s.books.geom.layout (length may.into.slots)) (reusable_blocks t.books) in
    let left = take (directory_blocks t.books.geom.layout (length may.from.slots - 1)) (places_in t c.add_slot.new.draft c.args.source.now.dir) in
    leaves_across s.books.geom.layout (files_in s nothing_drafted) (files_in t c.add_slot.new.draft) (files_in u c.take_slot.new.draft) c.args.source.now c.args.into c.args.count name c.args.other.now may.from may.into may.apart named
    (slots_laid s t laid (files_in t c.add_slot.new.draft) (files_in u c.take_slot.new.draft) c.args.source.now.dir (without_at c.args.source.now.entry.place may.from.slots) (c.in-Ok-take_slot.ensures.slots told may.from.slots from_at))
    (places_of s) (places_in t c.add_slot.new.draft) (places_in u c.take_slot.new.draft) (places_of s c.args.into ++ takes) left (placed_so g p told name may) (c.in-Ok-take_slot.ensures.places told may.from.slots from_at)

pub returns-in-Ok-take_slot-clause-moves : goal.returns-in-Ok-take_slot-clause-moves
returns-in-Ok-take_slot-clause-moves g c = λ told name may.
    let s = g.S.Blocks.state c.args.blocks.now in
    let t = g.S.Blocks.state c.add_slot.new.blocks in
    let u = g.S.Blocks.state c.take_slot.new.blocks in
    let tree = c.requires.stands told in
    let f0 = files_in s nothing_drafted in
    let f1 = files_in t c.add_slot.new.draft in
    let f2 = files_in u c.take_slot.new.draft in
    let reads = c.files_have_one_map.ensures.read s.books.geom.layout (files_of s.books.geom s.map) (λ k file is. c.blocks_have_a_map.ensures.reads s.books.geom s.map tree.0 k file tree.1 is) in
    let p = (goal.at.returns-in-Ok-take_slot-clause-moves g c).In-Ok in
    let named = named_so g p told name may in
    let laid = c.in-Ok.ensures.settles.pipeline.geom in
    let laid_now = ap (λ (b : Bookkeeping). b.geom) c.in-Ok-take_slot.ensures.looks.books ∙ laid in
    let from_at = ap (λ m. m c.args.source.now.dir) (inodes_laid s t laid c.add_slot.new.draft) ∙ named.inodes.others c.args.source.now.dir may.apart ∙ may.from.dir in
    let two = slots_laid s t laid f1 f2 c.args.source.now.dir (without_at c.args.source.now.entry.place may.from.slots) (c.in-Ok-take_slot.ensures.slots told may.from.slots from_at) in
    let takes = take (growth (g.S.Blocks.state c.args.blocks.now).books.geom.layout (length may.into.slots)) (reusable_blocks t.books) in
    let a1 = altered_beside c.args.shared.now 2 takes 0 c.add_slot.new.draft (subst (λ d. Alters 2 takes 0 d c.add_slot.new.draft) c.beside-draft.ensures
    (c.in-Ok.ensures.alters told may.into.slots (ap (λ d. inodes_in s d c.args.into) c.beside-draft.ensures ∙ may.into.dir_is))) in
    let a2 = subst (λ (k : Geometry). Alters 3 [] (release k.layout (length may.from.slots)) c.add_slot.new.draft c.take_slot.new.draft) laid (c.in-Ok-take_slot.ensures.alters told may.from.slots from_at) in
    let all = c.alterations_add_up.ensures.both 2 3 0 (release (g.S.Blocks.state c.args.blocks.now).books.geom.layout (length may.from.slots)) takes [] nothing_drafted c.add_slot.new.draft c.take_slot.new.draft a1 a2 in
    let flat = subst (λ (xs : List ℕ). Alters 5 xs (0 + release (g.S.Blocks.state c.args.blocks.now).books.geom.layout (length may.from.slots)) nothing_drafted c.take_slot.new.draft) (append-nil takes) all in
    let freed = subst (λ n. Alters 5 takes n nothing_drafted c.take_slot.new.draft) {x = 0 + release (g.S.Blocks.state c.args.blocks.now).books.geom.layout (length may.from.slots)} {y = release (g.S.Blocks.state c.args.blocks.now).books.geom.layout (length may.from.slots)} (omega arith) flat in
    let many = subst (λ n. Alters 5 takes (release (g.S.Blocks.state c.args.blocks.now).books.geom.layout n) nothing_drafted c.take_slot.new.draft) (sym may.from.count) freed in
    let counted = subst (λ n. Alters 5 (take (growth (g.S.Blocks.state c.args.blocks.now).books.geom.layout n) (reusable_blocks t.books)) (release (g.S.Blocks.state c.args.blocks.now).books.geom.layout c.args.source.now.count) nothing_drafted c.take_slot.new.draft) (sym may.into.many_are) many in
    let p0 = places_of s in
    let p1 = places_in t c.add_slot.new.draft in
    let p2 = places_in u c.take_slot.new.draft in
    let grown = placed_grown p0 p1 c.args.into takes (placed_so g p told name may) in
    let cut = placed_cut p1 p2 c.args.source.now.dir (directory_blocks t.books.geom.layout (length may.from.slots - 1)) [] (c.in-Ok-take_slot.ensures.places told may.from.slots from_at) in
    let placed = subst (λ n. ArePlaced none_renewed p0 p2 (take (growth (g.S.Blocks.state c.args.blocks.now).books.geom.layout n) (reusable_blocks t.books))) (sym may.into.many_are) (placed_then p0 p1 p2 takes grown cut) in
    record {
      moves = subst (λ m. MovesSlot (inodes s) m c.args.source.now.dir c.args.into c.args.source.now.entry.node.number name c.args.other.now) (sym (inodes_laid s u laid_now c.take_slot.new.draft))
          (moves_across s.books.geom.layout f0 f1 f2 c.args.source.now c.args.into c.args.count name c.args.other.now may.from may.into may.apart named two);
      reads = reads_laid s u laid_now c.take_slot.new.draft
          (c.directories_are_read.ensures s.books.geom.layout f1 f2 c.args.source.now.dir (without_at c.args.source.now.entry.place may.from.slots) two
          (c.directories_are_read.ensures s.books.geom.layout f0 f1 c.args.into (may.into.slots ++ slot_of c.args.source.now.entry.node.number c.args.other.now ∷ []) named reads));
      alters = subst (λ (k : Bookkeeping). Alters 5 (take (growth (g.S.Blocks.state c.args.blocks.now).books.geom.layout c.args.count) (reusable_blocks k)) (release (g.S.Blocks.state c.args.blocks.now).books.geom.layout c.args.source.now.count) nothing_drafted c.take_slot.new.draft) (sym c.in-Ok-take_slot.ensures.looks.books) counted;
      placed = subst (λ (k : Bookkeeping). ArePlaced none_renewed p0 p2 (take (growth (g.S.Blocks.state c.args.blocks.now).books.geom.layout c.args.count) (reusable_blocks k))) (sym c.in-Ok-take_slot.ensures.looks.books) placed;
      used = used_across (g.S.Blocks.state c.args.blocks.now).books.geom.layout f0 f1 f2 c.args.source.now c.args.into c.args.count name c.args.other.now may.from may.into may.apart named two;
    }

pub returns-in-Err-clause-quiet : goal.returns-in-Err-clause-quiet
returns-in-Err-clause-quiet g c = λ told name may enough.
    looked_calmly g.S.Blocks.tells _ (g.S.Blocks.state c.args.blocks.now) (g.S.Blocks.state c.add_slot.new.blocks) (c.in-Err.ensures.looks told may.into.slots (ap (λ d. inodes_in (g.S.Blocks.state c.args.blocks.now) d c.args.into) c.beside-draft.ensures ∙ may.into.dir_is)
    (subst (λ n. growth (g.S.Blocks.state c.args.blocks.now).books.geom.layout n ≤ length (reusable_blocks (g.S.Blocks.state c.args.blocks.now).books)) may.into.many_are enough)) told

pub returns-in-Ok-take_slot-clause-quiet : goal.returns-in-Ok-take_slot-clause-quiet
returns-in-Ok-take_slot-clause-quiet g c = λ told name may enough.
    calm_on (g.S.Blocks.state c.args.blocks.now) (g.S.Blocks.state c.add_slot.new.blocks) (g.S.Blocks.state c.take_slot.new.blocks) (looked_calmly g.S.Blocks.tells _ (g.S.Blocks.state c.args.blocks.now) (g.S.Blocks.state c.add_slot.new.blocks) (c.in-Ok.ensures.looks told may.into.slots (ap (λ d. inodes_in (g.S.Blocks.state c.args.blocks.now) d c.args.into) c.beside-draft.ensures ∙ may.into.dir_is)
    (subst (λ n. growth (g.S.Blocks.state c.args.blocks.now).books.geom.layout n ≤ length (reusable_blocks (g.S.Blocks.state c.args.blocks.now).books)) may.into.many_are enough)) told) (looked_calmly g.S.Blocks.tells _ (g.S.Blocks.state c.add_slot.new.blocks) (g.S.Blocks.state c.take_slot.new.blocks) c.in-Ok-take_slot.ensures.looks told)

pub returns-clause-quiet : goal.returns-clause-quiet
returns-clause-quiet g c = λ told name may enough.
    calm_on (g.S.Blocks.state c.args.blocks.now) (g.S.Blocks.state c.add_slot.new.blocks) (g.S.Blocks.state c.take_slot.new.blocks) (looked_calmly g.S.Blocks.tells _ (g.S.Blocks.state c.args.blocks.now) (g.S.Blocks.state c.add_slot.new.blocks) (c.in-Ok.ensures.looks told may.into.slots (ap (λ d. inodes_in (g.S.Blocks.state c.args.blocks.now) d c.args.into) c.beside-draft.ensures ∙ may.into.dir_is)
    (subst (λ n. growth (g.S.Blocks.state c.args.blocks.now).books.geom.layout n ≤ length (reusable_blocks (g.S.Blocks.state c.args.blocks.now).books)) may.into.many_are enough)) told) (looked_calmly g.S.Blocks.tells _ (g.S.Blocks.state c.add_slot.new.blocks) (g.S.Blocks.state c.take_slot.new.blocks) c.in-Err-take_slot.ensures.looks told)

pub add_slot-requires-clause-look : goal.add_slot-requires-clause-look
add_slot-requires-clause-look g c = look_begins g.S.Blocks.tells _ _ _ c.beside-draft.ensures c.requires.begin c.requires.into c.a_draft_may_begin.ensures

pub add_slot-requires-clause-there : goal.add_slot-requires-clause-there
add_slot-requires-clause-there g c = λ told.
    let may = (c.requires.moves told).1 in
    (may.into.slots, ap (λ d. inodes_in (g.S.Blocks.state c.args.blocks.now) d c.args.into) c.beside-draft.ensures ∙ may.into.dir_is, may.into.many_are)
