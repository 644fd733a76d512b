use Rattle.std.proofs.Common.{sym, ◌∙◌}
use Rattle.std.specs.Io.KnownBytes.{Appends}
use Rattle.base_io.specs.Prefix.{TakesPrefix}
use Rattle.lang_tree.specs.Listing.{path_lines}
use Rattle.fs_commands.proofs.looking.Found.{draft_begun}
use Rattle.fs_commands.proofs.listed.Texts.{on_err, took_nothing}
use Rattle.fs_commands.proofs.listed.Whole.{in_session}
use Rattle.fs_commands.proofs.listing.listing.Goals as goal

pub returns-then-figures-clause-front : goal.returns-then-figures-clause-front
returns-then-figures-clause-front g c = λ told f h. took_nothing (g.K.Sink.taken c.args.out.now) (path_lines f.tree.names f.tree.nodes)

pub list_from_root-requires : goal.list_from_root-requires
list_from_root-requires g c =
    let going = sym c.figures.ensures.stopped ∙ c.if-figures.false in
    let may = c.requires.may_list in
    record {
      read = record {
        going = going;
        may = draft_begun g.S.Blocks.tells (g.S.Blocks.state c.args.blocks.now) c.beside-draft.result c.beside-draft.ensures (record { going = going; none_bare = may.none_bare; sound = may.sound; kept = may.kept }) c.a_draft_may_begin.ensures;
      };
    }

pub returns-in_err-list_from_root-clause-front : goal.returns-in_err-list_from_root-clause-front
returns-in_err-list_from_root-clause-front g c = λ told.
    on_err _ _ (in_session (g.S.Blocks.state c.args.blocks.now) c.beside-draft.result (λ t. TakesPrefix (g.K.Sink.taken c.args.out.now) (g.K.Sink.taken c.list_from_root.new.out) (path_lines t.names t.nodes)) c.beside-draft.ensures
    c.blocks_have_the_map_of_their_tree.ensures.map (c.in_err-list_from_root.ensures.front told))

pub returns-clause-all : goal.returns-clause-all
returns-clause-all g c = λ told.
    in_session (g.S.Blocks.state c.args.blocks.now) c.beside-draft.result (λ t. Appends (g.K.Sink.taken c.args.out.now) (g.K.Sink.taken c.list_from_root.new.out) (path_lines t.names t.nodes)) c.beside-draft.ensures
    c.blocks_have_the_map_of_their_tree.ensures.map (c.in_ok-list_from_root.ensures.all told)
