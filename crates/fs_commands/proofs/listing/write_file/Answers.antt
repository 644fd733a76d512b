use Rattle.fs_commands.proofs.listed.Texts.{on_err}
use Rattle.fs_commands.proofs.listed.Contents.{head_front, content_front, end_front, line_done}
use Rattle.fs_commands.proofs.listing.write_file.Goals as goal

pub returns-in_err-write_file_head-clause-front : goal.returns-in_err-write_file_head-clause-front
returns-in_err-write_file_head-clause-front g c = λ told.
    let files = (g.N.Nodes.nodes (g.S.Blocks.state c.args.blocks.now) c.args.files.now).files in
    on_err _ _ (head_front files c.args.path.now c.args.number c.args.size _ _ c.prefixes_join.ensures.first c.in_err-write_file_head.ensures.front)

pub returns-in_err-write_content-clause-front : goal.returns-in_err-write_content-clause-front
returns-in_err-write_content-clause-front g c = λ told.
    let files = (g.N.Nodes.nodes (g.S.Blocks.state c.args.blocks.now) c.args.files.now).files in
    on_err _ _ (content_front files c.args.path.now c.args.number c.args.size _ _ c.in_ok-write_file_head.ensures.all _ c.prefixes_join.ensures.first c.prefixes_join.ensures.second (c.in_err-write_content.ensures.front told))

pub returns-in_err-push_all-clause-front : goal.returns-in_err-push_all-clause-front
returns-in_err-push_all-clause-front g c = λ told.
    let files = (g.N.Nodes.nodes (g.S.Blocks.state c.args.blocks.now) c.args.files.now).files in
    on_err _ _ (end_front files c.args.path.now c.args.number c.args.size _ _ c.in_ok-write_file_head.ensures.all _ _ (c.in_ok-write_content.ensures.all told) c.prefixes_join.ensures.second c.in_err-push_all.ensures.front)

pub returns-clause-all : goal.returns-clause-all
returns-clause-all g c = λ told.
    let files = (g.N.Nodes.nodes (g.S.Blocks.state c.args.blocks.now) c.args.files.now).files in
    line_done files c.args.path.now c.args.number c.args.size _ _ c.in_ok-write_file_head.ensures.all _ _ (c.in_ok-write_content.ensures.all told) c.in_ok-push_all.ensures.all
