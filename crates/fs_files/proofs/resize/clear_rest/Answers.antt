use Rattle.std.proofs.Common.{ap}
use Rattle.std.proofs.lemmas.Result.{on_ok_weaker}
use Rattle.fs_files.specs.Calls.{is_dir}
use Rattle.fs_files.proofs.calling.Resizes.{clears_none, cleared_none, clears_dir, cleared_dir}
use Rattle.fs_files.proofs.drafts.Refused.{ok_both}
use Rattle.fs_files.proofs.resize.clear_rest.Goals as goal

pub returns-in-Free-clause-clears : goal.returns-in-Free-clause-clears
returns-in-Free-clause-clears g c = clears_none c.args.layout c.args.kind c.args.size c.args.places.now c.args.draft.now (ap is_dir c.in-Free.is)

pub returns-in-Free-clause-bytes : goal.returns-in-Free-clause-bytes
returns-in-Free-clause-bytes g c = λ tells content zeros. cleared_none (g.S.Blocks.state c.args.blocks.now).map c.args.kind c.args.size c.args.places.now c.args.draft.now (ap is_dir c.in-Free.is) content

pub returns-in-File-clause-clears : goal.returns-in-File-clause-clears
returns-in-File-clause-clears g c = clears_none c.args.layout c.args.kind c.args.size c.args.places.now c.args.draft.now (ap is_dir c.in-File.is)

pub returns-in-File-clause-bytes : goal.returns-in-File-clause-bytes
returns-in-File-clause-bytes g c = λ tells content zeros. cleared_none (g.S.Blocks.state c.args.blocks.now).map c.args.kind c.args.size c.args.places.now c.args.draft.now (ap is_dir c.in-File.is) content

pub returns-in-Snapshot-clause-clears : goal.returns-in-Snapshot-clause-clears
returns-in-Snapshot-clause-clears g c = clears_none c.args.layout c.args.kind c.args.size c.args.places.now c.args.draft.now (ap is_dir c.in-Snapshot.is)

pub returns-in-Snapshot-clause-bytes : goal.returns-in-Snapshot-clause-bytes
returns-in-Snapshot-clause-bytes g c = λ tells content zeros. cleared_none (g.S.Blocks.state c.args.blocks.now).map c.args.kind c.args.size c.args.places.now c.args.draft.now (ap is_dir c.in-Snapshot.is) content

pub returns-in-Dir-clause-clears : goal.returns-in-Dir-clause-clears
returns-in-Dir-clause-clears g c = on_ok_weaker c.zero_room.result (clears_dir c.args.layout c.args.kind c.args.size c.args.places.now c.args.draft.now c.zero_room.new.draft (ap is_dir c.in-Dir.is)) c.zero_room.ensures.writes

pub returns-in-Dir-clause-bytes : goal.returns-in-Dir-clause-bytes
returns-in-Dir-clause-bytes g c = λ tells content zeros.
    ok_both c.zero_room.result (cleared_dir (g.S.Blocks.state c.args.blocks.now).map c.args.kind c.args.size c.args.places.now c.args.draft.now c.zero_room.new.draft (ap is_dir c.in-Dir.is))
    (c.zero_room.ensures.content tells content) (c.zero_room.ensures.bytes tells content (zeros c.in-Dir.is))
