use Rattle.std.proofs.Common.{◌≡◌, ◌++◌, ℕ, [], false, List, Some, refl, sym, subst, ap, ◌∙◌, arith, rules, tests}
use Rattle.std.proofs.KnownBytes.{Appends-nil}
use Rattle.std.specs.FinMap.{entries}
use Rattle.std.specs.List.{AllByRecursion}
use Rattle.base_io.specs.Prefix.{TakesPrefix}
use Rattle.lang_tree.specs.Listing.{snapshot_lines}
use Rattle.lang_tree.specs.Step.{Session}
use Rattle.crash_stands.specs.Stands.{KeepsTree}
use Rattle.fs_files.specs.Calls.{places_of}
use Rattle.fs_files.specs.Places.{looks_more}
use Rattle.fs_session.specs.Sessions.{IsSession, MayBegin}
use Rattle.fs_commands.specs.Known.{number_in, numbers_by_name}
use Rattle.fs_commands.specs.Listing.{ended_by_push, ended_by_read, kept_lines, CountsPushes}
use Rattle.fs_commands.specs.Snapping.{IsSnapshot}
use Rattle.fs_commands.proofs.listed.Texts.{on_err}
use Rattle.fs_commands.proofs.numbered.Found.{each_there, named_snapshot}
use Rattle.fs_commands.proofs.numbered.Keys.{in_order}
use Rattle.fs_commands.proofs.numbered.Numbers.{entries_are}
use Rattle.fs_commands.proofs.planning.Looking.{no_look}
use Rattle.fs_commands.proofs.snapped.Answers.{keeps_there}
use Rattle.fs_commands.proofs.snapped.Kept.{begins_still, still}
use Rattle.fs_commands.proofs.snapped.Lines.{HasListed, all_listed, next_listed}
use Rattle.fs_commands.proofs.kept_listing.list_kept.Goals as goal

pub loop-name-init : goal.loop-name-init
loop-name-init g c =
    let s = g.S.Blocks.state c.args.blocks.now in
    let started = c.into_iter-name-iterator.ensures.into_iter_gives in
    let m = numbers_by_name c.args.known.now in
    let there : entries m ≡ c.into_iter-name-iterator.result = ap entries (sym c.numbers-name-items.ensures) ∙ in_order c.numbers-name-items.result.now.entries started.5 ∙ sym started.0 in
    record {
      looks = no_look g.S.Blocks.tells s;
      faults = refl;
      named = subst (AllByRecursion (λ (e : List ℕ × ℕ). number_in c.args.known.now e.0 ≡ Some e.1)) there (each_there m);
      text = λ told f h. record {
        rest = entries f.tree.snapshots;
        are = sym (entries_are f.tree.snapshots m (λ q. (c.requires.knows told).named q ∙ c.what_is_known_of_snapshots_is_so.ensures.named s.books.geom s.map f.tree q h.tree)) ∙ there;
        there = each_there f.tree.snapshots;
        seen = [];
        wrote = Appends-nil (g.K.Sink.taken c.args.out.now);
        lines = refl;
      };
    }

pub list_snapshot-requires-clause-begin : goal.list_snapshot-requires-clause-begin
list_snapshot-requires-clause-begin g c =
    subst (MayBegin g.S.Blocks.tells (g.S.Blocks.state c.loop-name.blocks)) (sym c.shared.ensures) (begins_still g.S.Blocks.tells (g.S.Blocks.state c.args.blocks.now) (g.S.Blocks.state c.loop-name.blocks) c.loop-name.invariant.looks _ c.requires.begin)

pub list_snapshot-requires-clause-snapshot : goal.list_snapshot-requires-clause-snapshot
list_snapshot-requires-clause-snapshot g c = λ told.
    let s = g.S.Blocks.state c.args.blocks.now in
    let named = subst (AllByRecursion (λ (e : List ℕ × ℕ). number_in c.args.known.now e.0 ≡ Some e.1)) c.in-Some.ensures.steps c.loop-name.invariant.named in
    still g.S.Blocks.tells s (g.S.Blocks.state c.loop-name.blocks) c.loop-name.invariant.looks (λ g m. IsSnapshot g m c.in-Some.number.now) told
    (named_snapshot s.books.geom s.map c.in-Some.name.now c.in-Some.number.now (sym ((c.requires.knows told).named c.in-Some.name.now) ∙ named.0))

pub loop-name-preserved : goal.loop-name-preserved
loop-name-preserved g c =
    let s = g.S.Blocks.state c.args.blocks.now in
    let t = g.S.Blocks.state c.loop-name.blocks in
    let h = c.loop-name.invariant in
    let ended = c.in_ok-list_snapshot.ensures in
    record {
      looks = looks_more g.S.Blocks.tells false s t (g.S.Blocks.state c.list_snapshot.new.blocks) h.looks ended.lists.looks;
      faults = ended.lists.pushes.1 ∙ h.faults;
      named = (subst (AllByRecursion (λ (e : List ℕ × ℕ). number_in c.args.known.now e.0 ≡ Some e.1)) c.in-Some.ensures.steps h.named).1;
      text = λ told f is.
          let next = next_listed f.tree.snapshots c.in-Some.name.now c.in-Some.number.now c.loop-name.name-iterator c.next.new.self (g.K.Sink.taken c.args.out.now) (g.K.Sink.taken c.loop-name.out) c.in-Some.ensures.steps (h.text told f is) in
          next.more (g.K.Sink.taken c.list_snapshot.new.out) (ended.all told next.kept
          (still g.S.Blocks.tells s t h.looks (λ g m. KeepsTree g m (places_of g m c.in-Some.number.now) next.kept) told
          (subst (λ n. KeepsTree s.books.geom s.map (places_of s.books.geom s.map n) next.kept) next.number (keeps_there s.books.geom s.map f.tree c.in-Some.name.now next.kept is.tree next.at))));
    }

pub returns-in_err-list_snapshot-clause-front : goal.returns-in_err-list_snapshot-clause-front
returns-in_err-list_snapshot-clause-front g c = λ told.
    let s = g.S.Blocks.state c.args.blocks.now in
    let t = g.S.Blocks.state c.loop-name.blocks in
    let h = c.loop-name.invariant in
    on_err c.from_residual.result ((f : Session) → IsSession s f → TakesPrefix (g.K.Sink.taken c.args.out.now) (g.K.Sink.taken c.list_snapshot.new.out) (kept_lines f.tree.snapshots)) (λ f is.
    let next = next_listed f.tree.snapshots c.in-Some.name.now c.in-Some.number.now c.loop-name.name-iterator c.next.new.self (g.K.Sink.taken c.args.out.now) (g.K.Sink.taken c.loop-name.out) c.in-Some.ensures.steps (h.text told f is) in
    subst (TakesPrefix (g.K.Sink.taken c.args.out.now) (g.K.Sink.taken c.list_snapshot.new.out)) (sym next.lines)
    (c.prefixes_join.ensures.second _ _ _ next.seen (snapshot_lines c.in-Some.name.now next.kept ++ next.rest) next.wrote
    (c.prefixes_join.ensures.first _ _ (snapshot_lines c.in-Some.name.now next.kept) next.rest (c.in_err-list_snapshot.ensures.front told next.kept
    (still g.S.Blocks.tells s t h.looks (λ g m. KeepsTree g m (places_of g m c.in-Some.number.now) next.kept) told
    (subst (λ n. KeepsTree s.books.geom s.map (places_of s.books.geom s.map n) next.kept) next.number (keeps_there s.books.geom s.map f.tree c.in-Some.name.now next.kept is.tree next.at)))))))

pub returns-in_err-list_snapshot-clause-lists : goal.returns-in_err-list_snapshot-clause-lists
returns-in_err-list_snapshot-clause-lists g c =
    let s = g.S.Blocks.state c.args.blocks.now in
    let h = c.loop-name.invariant in
    record {
      looks = looks_more g.S.Blocks.tells (ended_by_read c.from_residual.result) s (g.S.Blocks.state c.loop-name.blocks) (g.S.Blocks.state c.list_snapshot.new.blocks) h.looks (search (rules, tests));
      pushes = subst (λ n. CountsPushes (ended_by_push c.from_residual.result) n (g.K.Sink.faults c.list_snapshot.new.out)) h.faults (search (rules, tests));
      going = search (rules, tests);
    }

pub returns-clause-all : goal.returns-clause-all
returns-clause-all g c = λ told f is.
    all_listed f.tree.snapshots (g.K.Sink.taken c.args.out.now) (g.K.Sink.taken c.loop-name.out)
    (subst (λ ns. HasListed f.tree.snapshots ns (g.K.Sink.taken c.args.out.now) (g.K.Sink.taken c.loop-name.out)) c.in-None.ensures.steps.0 (c.loop-name.invariant.text told f is))

pub returns-clause-lists : goal.returns-clause-lists
returns-clause-lists g c = record { looks = c.loop-name.invariant.looks; pushes = (omega (arith, c.loop-name.invariant.faults), c.loop-name.invariant.faults); going = refl }
