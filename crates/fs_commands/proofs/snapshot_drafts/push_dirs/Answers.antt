use Rattle.std.proofs.Common.{false, get_or}
use Rattle.fs_files.specs.Places.{looks_more}
use Rattle.fs_commands.proofs.snapped.Bytes.{dirs_more, whole_read}
use Rattle.fs_commands.proofs.snapshot_drafts.push_dirs.Goals as goal

pub loop-b-preserved : goal.loop-b-preserved
loop-b-preserved g c =
    let s = g.S.Blocks.state c.args.blocks.now in
    let t = g.S.Blocks.state c.loop-b.blocks in
    let bs = c.args.dirs.now in
    let i = c.loop-b.b-index in
    let low = c.loop-b-test.true in
    record {
      looks = looks_more g.S.Blocks.tells false s t (g.S.Blocks.state c.get.new.self) c.loop-b.invariant.looks
          (record { books = c.in_ok-get.ensures.books; counts = c.in_ok-get.ensures.counts; map = c.in_ok-get.ensures.map; crash = c.in_ok-get.ensures.crash });
      bytes = λ told whole. dirs_more s.map bs c.args.bytes.now.items c.loop-b.bytes.items c.extend_from_slice.new.self.items c.get.new.into i low (c.loop-b.invariant.bytes told whole) c.in_ok-extend_from_slice.ensures.items
          (whole_read g.S.Blocks.tells s t (get_or bs i 0) c.get.new.into c.loop-b.invariant.looks told (g.met.S.Blocks.is_told c.loop-b.blocks told) (whole i 0 low) (λ defined. c.in_ok-get.ensures.block told defined));
    }
