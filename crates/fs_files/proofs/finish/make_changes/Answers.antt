use Rattle.std.proofs.Common.{ap, sym, subst, All, ◌≡◌, length, true, arith}
use Rattle.layout_bytes.specs.Bitmap.{is_set}
use Rattle.engine_blocks.specs.Puts.{IsData}
use Rattle.engine_blocks.specs.State.{State}
use Rattle.fs_files.specs.Drafts.{DraftState}
use Rattle.fs_files.specs.Making.{HasFreed}
use Rattle.fs_files.proofs.finishing.Made.{HasTook, fresh_within, fresh_marked, changed_room, changed_within, changed_marked, freed_room, freed_data, freed_marked, all_made}
use Rattle.fs_files.proofs.finish.make_changes.Goals as goal
use Rattle.fs_files.proofs.finish.make_changes.Goals.{After-take}

-- the draft, and its numbers taken
module _ (g : _) (c : goal.After-take g) where
  abbrev draft : DraftState
  draft = record { kept = c.requires.draft.0; changed = c.args.changed; fresh = c.args.fresh; taken = c.args.taken.now; freed = c.args.freed.now }

  abbrev old : State
  old = g.S.Blocks.state c.args.blocks.now

  abbrev one : State
  one = g.S.Blocks.state c.take.new.self

  took : HasTook g.S.Blocks.tells draft old one
  took = record { books = c.take.ensures.books; map = c.take.ensures.map; disk = c.take.ensures.disk }

pub put_all-requires-clause-within : goal.put_all-requires-clause-within
put_all-requires-clause-within g c =
    let a = (goal.at.put_all-requires-clause-within g c).After-take in
    fresh_within g.S.Blocks.tells (draft g a) (old g a) (one g a) c.requires.draft.1 c.requires.ready (took g a)

pub put_all-requires-clause-marked : goal.put_all-requires-clause-marked
put_all-requires-clause-marked g c = λ t.
    let a = (goal.at.put_all-requires-clause-marked g c).After-take in
    fresh_marked g.S.Blocks.tells (draft g a) (old g a) (one g a) c.requires.draft.1 c.requires.ready (took g a) t (g.met.S.Blocks.is_told c.args.blocks.now t)

pub put_all-requires-2-clause-room : goal.put_all-requires-2-clause-room
put_all-requires-2-clause-room g c =
    let a = (goal.at.put_all-requires-2-clause-room g c).After-take in
    changed_room g.S.Blocks.tells (draft g a) (old g a) (one g a) c.requires.draft.1 c.requires.ready (took g a) (g.S.Blocks.state c.put_all.new.blocks) c.put_all.ensures.puts

pub put_all-requires-2-clause-within : goal.put_all-requires-2-clause-within
put_all-requires-2-clause-within g c =
    let a = (goal.at.put_all-requires-2-clause-within g c).After-take in
    changed_within g.S.Blocks.tells (draft g a) (old g a) (one g a) c.requires.draft.1 c.requires.ready (took g a) (g.S.Blocks.state c.put_all.new.blocks) c.put_all.ensures.puts

pub put_all-requires-2-clause-marked : goal.put_all-requires-2-clause-marked
put_all-requires-2-clause-marked g c = λ t.
    let a = (goal.at.put_all-requires-2-clause-marked g c).After-take in
    changed_marked g.S.Blocks.tells (draft g a) (old g a) (one g a) c.requires.draft.1 c.requires.ready (took g a) (g.S.Blocks.state c.put_all.new.blocks) c.put_all.ensures.puts t (g.met.S.Blocks.is_told c.args.blocks.now t)

pub free_all-requires-clause-room : goal.free_all-requires-clause-room
free_all-requires-clause-room g c =
    let a = (goal.at.free_all-requires-clause-room g c).After-take in
    omega (
      arith,
      freed_room g.S.Blocks.tells (draft g a) (old g a) (one g a) c.requires.draft.1 c.requires.ready (took g a) (g.S.Blocks.state c.put_all.new.blocks) c.put_all.ensures.puts (g.S.Blocks.state c.put_all-2.new.blocks) c.put_all-2.ensures.puts,
      ap length c.as_slice.ensures,
    )

pub free_all-requires-clause-blocks : goal.free_all-requires-clause-blocks
free_all-requires-clause-blocks g c =
    let a = (goal.at.free_all-requires-clause-blocks g c).After-take in
    let three = g.S.Blocks.state c.put_all-2.new.blocks in
    subst (All (IsData three.books.geom)) (sym c.as_slice.ensures)
    (freed_data g.S.Blocks.tells (draft g a) (old g a) (one g a) c.requires.draft.1 c.requires.ready (took g a) (g.S.Blocks.state c.put_all.new.blocks) c.put_all.ensures.puts three c.put_all-2.ensures.puts)

pub free_all-requires-clause-marked : goal.free_all-requires-clause-marked
free_all-requires-clause-marked g c = λ t.
    let a = (goal.at.free_all-requires-clause-marked g c).After-take in
    let three = g.S.Blocks.state c.put_all-2.new.blocks in
    subst (All (λ b. is_set three.books.geom three.map b ≡ true)) (sym c.as_slice.ensures)
    (freed_marked g.S.Blocks.tells (draft g a) (old g a) (one g a) c.requires.draft.1 c.requires.ready (took g a) (g.S.Blocks.state c.put_all.new.blocks) c.put_all.ensures.puts three c.put_all-2.ensures.puts t (g.met.S.Blocks.is_told c.args.blocks.now t))

pub returns : goal.returns
returns g c =
    let a = (goal.at.returns g c).After-take in
    let three = g.S.Blocks.state c.put_all-2.new.blocks in
    let new = g.S.Blocks.state c.free_all.new.blocks in
    let made = all_made g.S.Blocks.tells (draft g a) (old g a) (one g a) c.requires.draft.1 c.requires.ready (took g a) (g.S.Blocks.state c.put_all.new.blocks) c.put_all.ensures.puts three c.put_all-2.ensures.puts new
    (subst (λ bs. HasFreed g.S.Blocks.tells bs three new) c.as_slice.ensures c.free_all.ensures.frees) in
    record { made = λ kept. record { books = made.books; map = λ t. let m = made.map t in record { lies = m.lies; bits = m.bits }; disk = made.disk } }
