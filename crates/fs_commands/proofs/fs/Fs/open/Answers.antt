use Rattle.std.proofs.Common.{OnOk, IfOk, rules, subst, sym, ◌∙◌}
use Rattle.std.specs.FinMap.{get}
use Rattle.lang_tree.specs.Tree.{Tree}
use Rattle.crash_stands.specs.Files.{files_of}
use Rattle.crash_stands.specs.Stands.{IsTreeOf}
use Rattle.fs_files.specs.Effects.{LooksOnly}
use Rattle.fs_check.specs.Snapshots.{numbers_in}
use Rattle.fs_check.specs.Whole.{fails_reading}
use Rattle.fs_check.specs.declared.snapshots.Snapshots.{Snapshots}
use Rattle.fs_snapshots.specs.Known.{CountsKeepers, KnowsSnapshots}
use Rattle.fs_commands.proofs.Opening.{opened}
use Rattle.fs_commands.proofs.snapped.Kept.{still}
use Rattle.fs_commands.proofs.fs.Fs.open.Goals as goal

pub returns-in-Ok-clause-session : goal.returns-in-Ok-clause-session
returns-in-Ok-clause-session g c = λ told.
    let s = g.S.Blocks.state c.args.blocks in
    let t = subst (λ r. OnOk r ((t : Tree) × IsTreeOf s.books.geom s.map t)) c.in-Ok.is (c.check.ensures.tree told) in
    (t.0, opened g.S.Blocks.tells s (g.S.Blocks.state c.check.new.blocks) t.0 told (subst (λ r. LooksOnly g.S.Blocks.tells (fails_reading r) s (g.S.Blocks.state c.check.new.blocks)) c.in-Ok.is c.check.ensures.looks) c.requires.begun t.1)

pub returns-in-Ok-clause-ready : goal.returns-in-Ok-clause-ready
returns-in-Ok-clause-ready g c =
    let s = g.S.Blocks.state c.args.blocks in
    let u = g.S.Blocks.state c.check.new.blocks in
    let looks = subst (λ r. LooksOnly g.S.Blocks.tells (fails_reading r) s u) c.in-Ok.is c.check.ensures.looks in
    record {
      between = record { goes_on = search rules; sound = search rules; used = λ told. c.new.ensures (files_of u.books.geom u.map) };
      knows = λ told.
          let known = still g.S.Blocks.tells s u looks (λ x m. KnowsSnapshots x m c.in-Ok.found.shared (get (numbers_in c.in-Ok.found.numbers.entries))) told
          (subst (λ r. IfOk r (λ (found : Snapshots). KnowsSnapshots s.books.geom s.map found.shared (get (numbers_in found.numbers.entries)))) c.in-Ok.is (c.check.ensures.known told)) in
          record { kept = subst (CountsKeepers u.books.geom u.map) (sym c.of.ensures.counts) known.kept; named = λ name. c.of.ensures.numbers name ∙ known.named name };
      holds = tt;
    }

pub returns-in-Ok-clause-looks : goal.returns-in-Ok-clause-looks
returns-in-Ok-clause-looks g c =
    let s = g.S.Blocks.state c.args.blocks in
    subst (λ r. LooksOnly g.S.Blocks.tells (fails_reading r) s (g.S.Blocks.state c.check.new.blocks)) c.in-Ok.is c.check.ensures.looks

pub returns-in-Ok-clause-stands : goal.returns-in-Ok-clause-stands
returns-in-Ok-clause-stands g c = λ told.
    let s = g.S.Blocks.state c.args.blocks in
    let t = subst (λ r. OnOk r ((t : Tree) × IsTreeOf s.books.geom s.map t)) c.in-Ok.is (c.check.ensures.tree told) in
    (t.0, (opened g.S.Blocks.tells s (g.S.Blocks.state c.check.new.blocks) t.0 told (subst (λ r. LooksOnly g.S.Blocks.tells (fails_reading r) s (g.S.Blocks.state c.check.new.blocks)) c.in-Ok.is c.check.ensures.looks) c.requires.begun t.1).tree)
