use Rattle.std.proofs.Common.{◌≡◌, ◌++◌, false, sym, subst, ◌∙◌, arith, rules, tests}
use Rattle.std.proofs.lemmas.Bool.{false≢true}
use Rattle.std.proofs.KnownBytes.{Appends-trans}
use Rattle.base_io.specs.Prefix.{TakesPrefix}
use Rattle.lang_tree.specs.Listing.{listing, path_lines}
use Rattle.lang_tree.specs.Step.{Session}
use Rattle.fs_files.specs.Places.{looks_more}
use Rattle.fs_session.specs.Sessions.{IsSession}
use Rattle.fs_snapshots.specs.Known.{KnowsSnapshots}
use Rattle.fs_commands.specs.Known.{counts_in, number_in}
use Rattle.fs_commands.specs.Listing.{CountsPushes, ended_by_push, ended_by_read, kept_lines}
use Rattle.fs_commands.proofs.listed.Texts.{on_err}
use Rattle.fs_commands.proofs.snapped.Kept.{begins_still, looked_session, still}
use Rattle.fs_commands.proofs.kept_listing.list_all.Goals as goal

pub list_kept-requires-clause-begin : goal.list_kept-requires-clause-begin
list_kept-requires-clause-begin g c =
    let s = g.S.Blocks.state c.args.blocks.now in
    let may = c.requires.may_list in
    begins_still g.S.Blocks.tells s (g.S.Blocks.state c.listing.new.blocks) c.in_ok-listing.ensures.looks (counts_in c.args.known.now) (record { going = sym c.in_ok-listing.ensures.stopped; none_bare = may.none_bare; sound = may.sound; kept = may.kept })

pub list_kept-requires-clause-knows : goal.list_kept-requires-clause-knows
list_kept-requires-clause-knows g c = λ told.
    still g.S.Blocks.tells (g.S.Blocks.state c.args.blocks.now) (g.S.Blocks.state c.listing.new.blocks) c.in_ok-listing.ensures.looks (λ x m. KnowsSnapshots x m (counts_in c.args.known.now) (number_in c.args.known.now)) told (c.requires.knows told)

pub returns-in_err-listing-clause-front : goal.returns-in_err-listing-clause-front
returns-in_err-listing-clause-front g c = λ told.
    let s = g.S.Blocks.state c.args.blocks.now in
    on_err c.from_residual.result ((f : Session) → IsSession s f → TakesPrefix (g.K.Sink.taken c.args.out.now) (g.K.Sink.taken c.listing.new.out) (listing f.tree))
    (λ f is. c.prefixes_join.ensures.first _ _ (path_lines f.tree.names f.tree.nodes) (kept_lines f.tree.snapshots) (c.in_err-listing.ensures.front told f is))

pub returns-in_err-list_kept-clause-front : goal.returns-in_err-list_kept-clause-front
returns-in_err-list_kept-clause-front g c = λ told.
    let s = g.S.Blocks.state c.args.blocks.now in
    on_err c.from_residual-in_err-list_kept.result ((f : Session) → IsSession s f → TakesPrefix (g.K.Sink.taken c.args.out.now) (g.K.Sink.taken c.list_kept.new.out) (listing f.tree))
    (λ f is. c.prefixes_join.ensures.second _ _ _ (path_lines f.tree.names f.tree.nodes) (kept_lines f.tree.snapshots) (c.in_ok-listing.ensures.all told f is)
    (c.in_err-list_kept.ensures.front told f (looked_session g.S.Blocks.tells s (g.S.Blocks.state c.listing.new.blocks) c.in_ok-listing.ensures.looks told f (sym c.in_ok-listing.ensures.stopped) is)))

pub returns-in_err-list_kept-clause-stopped : goal.returns-in_err-list_kept-clause-stopped
returns-in_err-list_kept-clause-stopped g c = search (rules, tests) ∙ c.in_ok-listing.ensures.stopped

pub returns-in_err-list_kept-clause-nothing : goal.returns-in_err-list_kept-clause-nothing
returns-in_err-list_kept-clause-nothing g c = λ stopped. absurd (false≢true (c.in_ok-listing.ensures.stopped ∙ stopped))

pub returns-in_err-list_kept-clause-looks : goal.returns-in_err-list_kept-clause-looks
returns-in_err-list_kept-clause-looks g c =
    looks_more g.S.Blocks.tells (ended_by_read c.from_residual-in_err-list_kept.result) (g.S.Blocks.state c.args.blocks.now) (g.S.Blocks.state c.listing.new.blocks) (g.S.Blocks.state c.list_kept.new.blocks) c.in_ok-listing.ensures.looks (search (rules, tests))

pub returns-in_err-list_kept-clause-pushes : goal.returns-in_err-list_kept-clause-pushes
returns-in_err-list_kept-clause-pushes g c =
    subst (λ n. CountsPushes (ended_by_push c.from_residual-in_err-list_kept.result) n (g.K.Sink.faults c.list_kept.new.out)) c.in_ok-listing.ensures.pushes.1 (search (rules, tests))

pub returns-clause-all : goal.returns-clause-all
returns-clause-all g c = λ told f is.
    let s = g.S.Blocks.state c.args.blocks.now in
    Appends-trans _ _ _ (path_lines f.tree.names f.tree.nodes) (kept_lines f.tree.snapshots) (c.in_ok-listing.ensures.all told f is)
    (c.in_ok-list_kept.ensures.all told f (looked_session g.S.Blocks.tells s (g.S.Blocks.state c.listing.new.blocks) c.in_ok-listing.ensures.looks told f (sym c.in_ok-listing.ensures.stopped) is))

pub returns-clause-stopped : goal.returns-clause-stopped
returns-clause-stopped g c = c.in_ok-listing.ensures.stopped

pub returns-clause-nothing : goal.returns-clause-nothing
returns-clause-nothing g c = λ stopped. absurd (false≢true (c.in_ok-listing.ensures.stopped ∙ stopped))

pub returns-clause-looks : goal.returns-clause-looks
returns-clause-looks g c =
    looks_more g.S.Blocks.tells false (g.S.Blocks.state c.args.blocks.now) (g.S.Blocks.state c.listing.new.blocks) (g.S.Blocks.state c.list_kept.new.blocks) c.in_ok-listing.ensures.looks c.in_ok-list_kept.ensures.lists.looks

pub returns-clause-pushes : goal.returns-clause-pushes
returns-clause-pushes g c = (omega (arith, c.in_ok-listing.ensures.pushes.0, c.in_ok-list_kept.ensures.lists.pushes.0), c.in_ok-list_kept.ensures.lists.pushes.1 ∙ c.in_ok-listing.ensures.pushes.1)
