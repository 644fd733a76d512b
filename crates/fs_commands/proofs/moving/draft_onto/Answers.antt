use Rattle.std.proofs.Common.{◌≡◌, ℕ, ◌+◌, ◌-◌, ◌<◌, [], false, List, set, take, length, Some, Err, sym, subst, ap, ap₂, ◌∙◌, arith, IsTrue}
use Rattle.base_types.specs.Layouts.{directory_blocks}
use Rattle.layout_geometry.specs.Geometry.{Geometry}
use Rattle.layout_directory.specs.Directory.{without_at}
use Rattle.lang_tree.specs.Figures.{release}
use Rattle.layout_bytes.specs.declared.slot.Slot.{Slot}
use Rattle.crash_stands.specs.Files.{files_of}
use Rattle.crash_stands.specs.Inodes.{ADir, AreInodesOf, inodes_of}
use Rattle.fs_inodes.specs.Changes.{MovesSlot, slot_of}
use Rattle.engine_blocks.specs.State.{Bookkeeping}
use Rattle.fs_files.specs.Calls.{IsWithPlaces, files_in, places_in}
use Rattle.fs_files.specs.Content.{fails_reading}
use Rattle.fs_files.specs.Drafts.{DraftState, nothing_drafted}
use Rattle.fs_files.specs.Shared.{is_kept}
use Rattle.fs_dirs.specs.Changing.{Alters, IsWithSlots}
use Rattle.fs_dirs.specs.Directories.{inodes_in}
use Rattle.fs_session.specs.Commands.{places_of}
use Rattle.fs_commands.specs.Removing.{blocks_gone}
use Rattle.fs_commands.proofs.Placing.{placed_cut, placed_kept, placed_then}
use Rattle.fs_commands.proofs.keeping.Begun.{altered_beside}
use Rattle.fs_commands.proofs.keeping.Laid.{inodes_laid, link_laid, reads_laid, slots_laid}
use Rattle.fs_commands.proofs.looking.Found.{look_begins, looks_more}
use Rattle.fs_commands.proofs.moved.Onto.{place_within, between, found2, leaves3, plain2, shown2, moves, reads3, used3, Between}
use Rattle.fs_commands.proofs.moving.draft_onto.Given as given
use Rattle.fs_commands.specs.Moving.{MayMoveOnto}
use Rattle.fs_session.specs.Sessions.{inodes}
use Rattle.fs_commands.proofs.moving.draft_onto.Goals as goal
use Rattle.fs_commands.proofs.moving.draft_onto.Goals.{In-Ok}

-- the slot of the target names the node that moves
set_so : (g : given.Over) (c : goal.In-Ok g) → IsTrue g.S.Blocks.tells → (name : List ℕ) (may : MayMoveOnto (g.S.Blocks.state c.args.blocks.now) c.args.source.now c.args.target.now name c.args.other.now) → IsWithSlots (g.S.Blocks.state c.args.blocks.now).books.geom.layout (files_in (g.S.Blocks.state c.args.blocks.now) nothing_drafted) (files_in (g.S.Blocks.state c.set_slot.new.blocks) c.set_slot.new.draft) c.args.target.now.dir (set may.onto.slots c.args.target.now.entry.place (slot_of c.args.source.now.entry.node.number c.args.other.now))
set_so g c told name may =
    let f1 = files_in (g.S.Blocks.state c.set_slot.new.blocks) c.set_slot.new.draft in
    subst (λ (n : List ℕ). IsWithSlots (g.S.Blocks.state c.args.blocks.now).books.geom.layout (files_in (g.S.Blocks.state c.args.blocks.now) nothing_drafted) f1 c.args.target.now.dir (set may.onto.slots c.args.target.now.entry.place (slot_of c.args.source.now.entry.node.number n))) c.copy.ensures
    (subst (λ d. IsWithSlots (g.S.Blocks.state c.args.blocks.now).books.geom.layout (files_in (g.S.Blocks.state c.args.blocks.now) d) f1 c.args.target.now.dir (set may.onto.slots c.args.target.now.entry.place (slot_of c.args.source.now.entry.node.number c.copy.result))) c.beside-draft.ensures
    (c.in-Ok.ensures.slots told may.onto.slots (ap (λ d. inodes_in (g.S.Blocks.state c.args.blocks.now) d c.args.target.now.dir) c.beside-draft.ensures ∙ may.onto.dir)))

-- so the directory that the name leaves has as many slots
left_so : (g : given.Over) (c : goal.In-Ok g) → IsTrue g.S.Blocks.tells → (name : List ℕ) (may : MayMoveOnto (g.S.Blocks.state c.args.blocks.now) c.args.source.now c.args.target.now name c.args.other.now) → Between (inodes_of (g.S.Blocks.state c.args.blocks.now).books.geom.layout (files_in (g.S.Blocks.state c.set_slot.new.blocks) c.set_slot.new.draft)) c.args.source.now.dir c.args.source.now.count
left_so g c told name may = between (g.S.Blocks.state c.args.blocks.now).books.geom.layout (files_in (g.S.Blocks.state c.args.blocks.now) nothing_drafted) (files_in (g.S.Blocks.state c.set_slot.new.blocks) c.set_slot.new.draft) c.args.source.now c.args.target.now name c.args.other.now (slot_of c.args.source.now.entry.node.number c.args.other.now) may.from may.onto (set_so g c told name may)

-- the blocks are laid out as before
laid_so : (g : given.Over) (c : goal.In-Ok g) → (g.S.Blocks.state c.set_slot.new.blocks).books.geom ≡ (g.S.Blocks.state c.args.blocks.now).books.geom
laid_so g c = ap (λ (b : Bookkeeping). b.geom) c.in-Ok.ensures.looks.books

-- and that directory is there
there_so : (g : given.Over) (c : goal.In-Ok g) (slots : List Slot) → inodes_of (g.S.Blocks.state c.args.blocks.now).books.geom.layout (files_in (g.S.Blocks.state c.set_slot.new.blocks) c.set_slot.new.draft) c.args.source.now.dir ≡ Some (ADir slots)
    → inodes_in (g.S.Blocks.state c.set_slot.new.blocks) c.set_slot.new.draft c.args.source.now.dir ≡ Some (ADir slots)
there_so g c slots is = ap (λ m. m c.args.source.now.dir) (inodes_laid (g.S.Blocks.state c.args.blocks.now) (g.S.Blocks.state c.set_slot.new.blocks) (laid_so g c) c.set_slot.new.draft) ∙ is

-- its directory has the same blocks
placed_so : (g : given.Over) (c : goal.In-Ok g) → IsTrue g.S.Blocks.tells
    → IsWithPlaces (places_of (g.S.Blocks.state c.args.blocks.now)) (places_in (g.S.Blocks.state c.set_slot.new.blocks) c.set_slot.new.draft) c.args.target.now.dir (places_of (g.S.Blocks.state c.args.blocks.now) c.args.target.now.dir)
placed_so g c told =
    let s = g.S.Blocks.state c.args.blocks.now in
    let dir = c.args.target.now.dir in
    subst (λ d. IsWithPlaces (places_in s d) (places_in (g.S.Blocks.state c.set_slot.new.blocks) c.set_slot.new.draft) dir (places_in s d dir)) c.beside-draft.ensures (c.in-Ok.ensures.places told)

-- each node in use that is no snapshot reads as an inode before
all_read : (g : given.Over) (c : goal.In-Ok g) → IsTrue g.S.Blocks.tells → AreInodesOf (g.S.Blocks.state c.args.blocks.now).books.geom.layout (files_in (g.S.Blocks.state c.args.blocks.now) nothing_drafted) (inodes (g.S.Blocks.state c.args.blocks.now))
all_read g c told =
    let s = g.S.Blocks.state c.args.blocks.now in
    let t = c.requires.stands told in
    c.files_have_one_map.ensures.read s.books.geom.layout (files_of s.books.geom s.map) (λ k file is. c.blocks_have_a_map.ensures.reads s.books.geom s.map t.0 k file t.1 is)

pub set_slot-requires-clause-look : goal.set_slot-requires-clause-look
set_slot-requires-clause-look g c = look_begins g.S.Blocks.tells _ _ _ c.beside-draft.ensures c.requires.begin c.requires.onto_dir c.a_draft_may_begin.ensures

pub set_slot-requires-clause-there : goal.set_slot-requires-clause-there
set_slot-requires-clause-there g c = λ told.
    let may = (c.requires.moves told).1 in
    (may.onto.slots, ap (λ d. inodes_in (g.S.Blocks.state c.args.blocks.now) d c.args.target.now.dir) c.beside-draft.ensures ∙ may.onto.dir, place_within (inodes (g.S.Blocks.state c.args.blocks.now)) c.args.other.now c.args.target.now may.onto)

pub take_slot-requires-clause-there : goal.take_slot-requires-clause-there
take_slot-requires-clause-there g c = λ told.
    let moves = c.requires.moves told in
    let p = (goal.at.take_slot-requires-clause-there g c).In-Ok in
    let mid = left_so g p told moves.0 moves.1 in
    (mid.slots, there_so g p mid.slots mid.is, subst (λ n. c.args.source.now.entry.place < n) (sym (mid.many ∙ moves.1.from.count)) (place_within (inodes (g.S.Blocks.state c.args.blocks.now)) moves.0 c.args.source.now moves.1.from))

pub lose_link-requires-clause-found : goal.lose_link-requires-clause-found
lose_link-requires-clause-found g c = λ told.
    let s = g.S.Blocks.state c.args.blocks.now in
    let u = g.S.Blocks.state c.take_slot.new.blocks in
    let moves = c.requires.moves told in
    let may = moves.1 in
    let p = (goal.at.lose_link-requires-clause-found g c).In-Ok in
    let mid = left_so g p told moves.0 may in
    let reads = all_read g p told in
    found2 s.books.geom.layout (files_in s nothing_drafted) (files_in (g.S.Blocks.state c.set_slot.new.blocks) c.set_slot.new.draft) (files_in u c.take_slot.new.draft) (files_in u c.take_slot.new.draft) c.args.source.now c.args.target.now moves.0 c.args.other.now may.from may.onto may.not_node may.not_from may.not_into may.found may.inode may.shown reads (set_so g p told moves.0 may) mid
    (slots_laid s (g.S.Blocks.state c.set_slot.new.blocks) (laid_so g p) (files_in (g.S.Blocks.state c.set_slot.new.blocks) c.set_slot.new.draft) (files_in u c.take_slot.new.draft) c.args.source.now.dir (without_at c.args.source.now.entry.place mid.slots) (c.in-Ok-take_slot.ensures.slots told mid.slots (there_so g p mid.slots mid.is))) c.directories_are_read.ensures

pub returns-in-Ok-lose_link-clause-kept : goal.returns-in-Ok-lose_link-clause-kept
returns-in-Ok-lose_link-clause-kept g c = c.in-Ok-lose_link.ensures.kept ∙ c.in-Ok-take_slot.ensures.kept ∙ c.in-Ok.ensures.kept ∙ ap (λ (d : DraftState). d.kept) c.beside-draft.ensures

pub returns-in-Ok-lose_link-clause-leaves : goal.returns-in-Ok-lose_link-clause-leaves
returns-in-Ok-lose_link-clause-leaves g c = λ told.
    let s = g.S.Blocks.state c.args.blocks.now in
    let t = g.S.Blocks.state c.set_slot.new.blocks in
    let u = g.S.Blocks.state c.take_slot.new.blocks in
    let v = g.S.Blocks.state c.lose_link.new.blocks in
    let f0 = files_in s nothing_drafted in
    let f1 = files_in t c.set_slot.new.draft in
    let f2 = files_in u c.take_slot.new.draft in
    let f3 = files_in v c.lose_link.new.draft in
    let name = (c.requires.moves told).0 in
    let may = (c.requires.moves told).1 in
    let p = (goal.at.returns-in-Ok-lose_link-clause-leaves g c).In-Ok in
    let reads = all_read g p told in
    let named_one = set_so g p told name may in
    let mid = left_so g p told name may in
    let from_at = there_so g p mid.slots mid.is in
    let two = slots_laid s t (laid_so g p) f1 f2 c.args.source.now.dir (without_at c.args.source.now.entry.place mid.slots) (c.in-Ok-take_slot.ensures.slots told mid.slots from_at) in
    let plain = plain2 s.books.geom.layout f0 f1 f2 f3 c.args.source.now c.args.target.now name c.args.other.now may.from may.onto may.not_node may.not_from may.not_into may.found may.inode may.shown reads named_one mid two c.directories_are_read.ensures in
    leaves3 s.books.geom.layout f0 f1 f2 f3 c.args.source.now c.args.target.now name c.args.other.now may.from may.onto may.not_node may.not_from may.not_into may.found may.inode may.shown reads named_one mid two c.directories_are_read.ensures
    (places_of s) (places_in t c.set_slot.new.draft) (places_in u c.take_slot.new.draft) (places_in v c.lose_link.new.draft) (places_of s c.args.target.now.dir)
    (take (directory_blocks t.books.geom.layout (length mid.slots - 1)) (places_in t c.set_slot.new.draft c.args.source.now.dir)) (placed_so g p told) (c.in-Ok-take_slot.ensures.places told mid.slots from_at) (c.in-Ok-lose_link.ensures.leaves told plain)

pub returns-in-Ok-lose_link-clause-moves : goal.returns-in-Ok-lose_link-clause-moves
returns-in-Ok-lose_link-clause-moves g c = λ told name may.
    let s = g.S.Blocks.state c.args.blocks.now in
    let t = g.S.Blocks.state c.set_slot.new.blocks in
    let u = g.S.Blocks.state c.take_slot.new.blocks in
    let v = g.S.Blocks.state c.lose_link.new.blocks in
    let f0 = files_in s nothing_drafted in
    let f1 = files_in t c.set_slot.new.draft in
    let f2 = files_in u c.take_slot.new.draft in
    let f3 = files_in v c.lose_link.new.draft in
    let p = (goal.at.returns-in-Ok-lose_link-clause-moves g c).In-Ok in
    let reads = all_read g p told in
    let named_one = set_so g p told name may in
    let mid = left_so g p told name may in
    let from_at = there_so g p mid.slots mid.is in
    let two = slots_laid s t (laid_so g p) f1 f2 c.args.source.now.dir (without_at c.args.source.now.entry.place mid.slots) (c.in-Ok-take_slot.ensures.slots told mid.slots from_at) in
    let shown = shown2 s.books.geom.layout f0 f1 f2 f3 c.args.source.now c.args.target.now name c.args.other.now may.from may.onto may.not_node may.not_from may.not_into may.found may.inode may.shown reads named_one mid two c.directories_are_read.ensures in
    let laid_u = ap (λ (b : Bookkeeping). b.geom) c.in-Ok-take_slot.ensures.looks.books ∙ laid_so g p in
    let laid_v = ap (λ (b : Bookkeeping). b.geom) c.in-Ok-lose_link.ensures.looks.books ∙ laid_u in
    let three = link_laid s u laid_u f2 f3 c.args.target.now.entry.node.number (c.in-Ok-lose_link.ensures.link told may.inode (ap (λ m. m c.args.target.now.entry.node.number) (inodes_laid s u laid_u c.take_slot.new.draft) ∙ shown)) in
    let p0 = places_of s in
    let p1 = places_in t c.set_slot.new.draft in
    let p2 = places_in u c.take_slot.new.draft in
    let p3 = places_in v c.lose_link.new.draft in
    let node = c.args.target.now.entry.node in
    let first = placed_so g p told in
    let second = c.in-Ok-take_slot.ensures.places told mid.slots from_at in
    let gone = ap₂ (λ (counts places : List ℕ). blocks_gone (is_kept counts) node.facts places) (c.in-Ok-take_slot.ensures.kept ∙ c.in-Ok.ensures.kept ∙ ap (λ (d : DraftState). d.kept) c.beside-draft.ensures)
    (second.others node.number may.not_from ∙ first.others node.number may.not_into) in
    let lost : ℕ = blocks_gone (is_kept c.args.shared.now) node.facts (places_of s node.number) in
    let both = c.alterations_add_up.ensures.both in
    let a1 = altered_beside c.args.shared.now 1 [] 0 c.set_slot.new.draft (subst (λ d. Alters 1 [] 0 d c.set_slot.new.draft) c.beside-draft.ensures (c.in-Ok.ensures.alters told)) in
    let a2 = subst (λ (k : Geometry). Alters 3 [] (release k.layout (length mid.slots)) c.set_slot.new.draft c.take_slot.new.draft) (laid_so g p) (c.in-Ok-take_slot.ensures.alters told mid.slots from_at) in
    let a3 = subst (λ n. Alters 1 [] n c.take_slot.new.draft c.lose_link.new.draft) gone (c.in-Ok-lose_link.ensures.alters told) in
    let a12 = subst (λ n. Alters 4 [] n nothing_drafted c.take_slot.new.draft) {x = 0 + release (g.S.Blocks.state c.args.blocks.now).books.geom.layout (length mid.slots)} {y = release (g.S.Blocks.state c.args.blocks.now).books.geom.layout (length mid.slots)} (omega arith) (both 1 3 0 (release (g.S.Blocks.state c.args.blocks.now).books.geom.layout (length mid.slots)) [] [] nothing_drafted c.set_slot.new.draft c.take_slot.new.draft a1 a2) in
    let all = both 4 1 (release (g.S.Blocks.state c.args.blocks.now).books.geom.layout (length mid.slots)) lost [] [] nothing_drafted c.take_slot.new.draft c.lose_link.new.draft a12 a3 in
    let kept = placed_kept p0 p1 c.args.target.now.dir [] first in
    let cut = placed_cut p1 p2 c.args.source.now.dir (directory_blocks t.books.geom.layout (length mid.slots - 1)) [] second in
    record {
      moves = subst (λ m. MovesSlot (inodes s) m c.args.source.now.dir c.args.target.now.dir c.args.source.now.entry.node.number name c.args.other.now) (sym (inodes_laid s v laid_v c.lose_link.new.draft))
          (moves s.books.geom.layout f0 f1 f2 f3 c.args.source.now c.args.target.now name c.args.other.now may.from may.onto may.not_node may.not_from may.not_into may.found may.inode may.shown reads named_one mid two c.directories_are_read.ensures three);
      reads = reads_laid s v laid_v c.lose_link.new.draft (reads3 s.books.geom.layout f0 f1 f2 f3 c.args.source.now c.args.target.now name c.args.other.now may.from may.onto may.not_node may.not_from may.not_into may.found may.inode may.shown reads named_one mid two c.directories_are_read.ensures three);
      alters = subst (λ n. Alters 5 [] (release (g.S.Blocks.state c.args.blocks.now).books.geom.layout n + lost) nothing_drafted c.lose_link.new.draft) mid.many all;
      placed = placed_then p0 p2 p3 [] (placed_then p0 p1 p2 [] kept cut) (c.in-Ok-lose_link.ensures.placed told);
      used = used3 s.books.geom.layout f0 f1 f2 f3 c.args.source.now c.args.target.now name c.args.other.now may.from may.onto may.not_node may.not_from may.not_into may.found may.inode may.shown reads named_one mid two c.directories_are_read.ensures three;
    }

pub returns-in-Err-take_slot-clause-looks : goal.returns-in-Err-take_slot-clause-looks
returns-in-Err-take_slot-clause-looks g c =
    looks_more g.S.Blocks.tells (fails_reading {T = ℕ} (Err c.in-Err-take_slot.why)) (g.S.Blocks.state c.args.blocks.now) (g.S.Blocks.state c.set_slot.new.blocks) (g.S.Blocks.state c.take_slot.new.blocks) c.in-Ok.ensures.looks c.in-Err-take_slot.ensures.looks

pub returns-in-Ok-lose_link-clause-looks : goal.returns-in-Ok-lose_link-clause-looks
returns-in-Ok-lose_link-clause-looks g c =
    let first = looks_more g.S.Blocks.tells false _ _ _ c.in-Ok.ensures.looks c.in-Ok-take_slot.ensures.looks in
    looks_more g.S.Blocks.tells false (g.S.Blocks.state c.args.blocks.now) (g.S.Blocks.state c.take_slot.new.blocks) (g.S.Blocks.state c.lose_link.new.blocks) first c.in-Ok-lose_link.ensures.looks

pub returns-clause-looks : goal.returns-clause-looks
returns-clause-looks g c =
    let first = looks_more g.S.Blocks.tells false _ _ _ c.in-Ok.ensures.looks c.in-Ok-take_slot.ensures.looks in
    looks_more g.S.Blocks.tells (fails_reading {T = ℕ} (Err c.in-Err-lose_link.why)) (g.S.Blocks.state c.args.blocks.now) (g.S.Blocks.state c.take_slot.new.blocks) (g.S.Blocks.state c.lose_link.new.blocks) first c.in-Err-lose_link.ensures.looks
