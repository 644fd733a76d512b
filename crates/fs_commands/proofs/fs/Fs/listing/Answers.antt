use Rattle.std.proofs.Common.{sym, subst, ap}
use Rattle.engine_blocks.specs.State.{Bookkeeping}
use Rattle.fs_files.specs.Finish.{MayGoOn}
use Rattle.fs_session.specs.Staying.{between_stays, stands_still}
use Rattle.fs_snapshots.specs.Known.{KnowsSnapshots}
use Rattle.fs_commands.specs.Known.{counts_in, number_in}
use Rattle.fs_commands.specs.Listing.{ended_by_read}
use Rattle.fs_commands.proofs.Holding.{holds_looked}
use Rattle.fs_commands.proofs.fs.Fs.listing.Goals as goal

pub list_all-requires-clause-may_list : goal.list_all-requires-clause-may_list
list_all-requires-clause-may_list g c =
    let s = g.S.Blocks.state c.args.self.now.blocks in
    let ready = c.requires.ready in
    record {
      none_bare = ready.between.goes_on.may.none_bare;
      sound = ready.between.sound;
      kept = λ told. c.what_is_known_of_snapshots_is_so.ensures.kept s.books.geom s.map (counts_in c.args.self.now.known) (ready.knows told).kept;
    }

pub returns-clause-stays : goal.returns-clause-stays
returns-clause-stays g c =
    let s = g.S.Blocks.state c.args.self.now.blocks in
    let t = g.S.Blocks.state c.list_all.new.blocks in
    let looks = c.list_all.ensures.looks in
    let ready = c.requires.ready in
    record {
      ready = record {
        between = between_stays g.S.Blocks.tells s t c.args.self.now.unused (ap (λ (b : Bookkeeping). b.geom) looks.books) looks.map (subst MayGoOn (sym looks.books) ready.between.goes_on) ready.between;
        knows = λ told. subst (λ (b : Bookkeeping). KnowsSnapshots b.geom t.map (counts_in c.args.self.now.known) (number_in c.args.self.now.known)) (sym looks.books)
            (subst (λ m. KnowsSnapshots s.books.geom m (counts_in c.args.self.now.known) (number_in c.args.self.now.known)) (sym (looks.map told)) (ready.knows told));
        holds = holds_looked g.S.Blocks.tells (ended_by_read c.list_all.result) s t looks c.args.self.now.held ready.holds;
      };
      stands = λ told. stands_still s t (ap (λ (b : Bookkeeping). b.geom) looks.books) (looks.map told);
    }
