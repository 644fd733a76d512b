-- What a request asks for ends as it should.
use Rattle.std.proofs.Common.{Some, sym, ◌∙◌, subst}
use Rattle.cmd_words.specs.declared.request.Request.{Request}
use Rattle.cmd_words.specs.Words.{IsInRange}
use Rattle.cmd_program.specs.Endings.{Met, met}
use Rattle.cmd_program.specs.Program.{Completes}
use Rattle.cmd_program.proofs.Requests.{completes_copy, completes_load, completes_log, completes_make, completes_mirrored, completes_replay, completes_run, completes_show, completes_upgrade}
use Rattle.cmd_program.proofs.program.serve.Goals as goal

pub returns-in-Record-clause-completes : goal.returns-in-Record-clause-completes
returns-in-Record-clause-completes g c =
    let range = subst (λ (r : Request). IsInRange (Some r)) c.in-Record.is c.requires.range in
    rw c.in-Record.is (c.record_asked.ensures.completes range.7)

pub returns-in-Replay-clause-completes : goal.returns-in-Replay-clause-completes
returns-in-Replay-clause-completes g c =
    rw c.in-Replay.is (completes_replay _ _ c.replay.result _ (c.replay.ensures.replays (g.Y.Bay.state c.args.bay.now)) c.replay.ensures.faults)

pub returns-in-Tree-clause-completes : goal.returns-in-Tree-clause-completes
returns-in-Tree-clause-completes g c =
    rw c.in-Tree.is (completes_show _ _ c.show.result _ (c.show.ensures.shows (g.S.Source.remaining c.args.input.now) (g.S.Source.faults c.args.input.now)) (c.show.ensures.faults (g.S.Source.faults c.args.input.now)))

pub returns-in-Make-clause-completes : goal.returns-in-Make-clause-completes
returns-in-Make-clause-completes g c =
    rw c.in-Make.is (completes_make _ _ _ _ c.make.result _ (c.make.ensures.makes (g.S.Source.remaining c.args.input.now) (g.S.Source.faults c.args.input.now)) (c.make.ensures.faults (g.S.Source.faults c.args.input.now)))

pub returns-in-Load-clause-completes : goal.returns-in-Load-clause-completes
returns-in-Load-clause-completes g c =
    let m : Met = met (g.S.Source.remaining c.args.input.now) (g.S.Source.remaining c.args.input.now) (g.K.Sink.taken c.args.out.now) (g.K.Sink.taken c.load.new.out)
    (g.S.Source.faults c.args.input.now) (g.S.Source.faults c.args.input.now) (g.K.Sink.faults c.args.out.now) (g.K.Sink.faults c.load.new.out) (g.Y.Bay.state c.args.bay.now) (g.Y.Bay.state c.args.bay.now) in
    subst (λ (r : Request). Completes (Some r) c.load.result m) (sym c.in-Load.is)
    (completes_load _ _ c.load.result m c.load.ensures.loads (c.load.ensures.faults (g.S.Source.faults c.args.input.now)))

pub returns-in-Run-clause-completes : goal.returns-in-Run-clause-completes
returns-in-Run-clause-completes g c =
    rw c.in-Run.is (completes_run _ _ c.run.result _ c.run.ensures.runs c.run.ensures.faults)

pub run_mirrored-requires : goal.run_mirrored-requires
run_mirrored-requires g c = λ same. subst (λ (r : Request). IsInRange (Some r)) c.in-RunMirrored.is c.requires.range (sym c.as_str-in-RunMirrored.ensures ∙ same ∙ c.as_str-in-RunMirrored-2.ensures)

pub copy-requires : goal.copy-requires
copy-requires g c = λ same. subst (λ (r : Request). IsInRange (Some r)) c.in-Copy.is c.requires.range (sym c.as_str-in-Copy.ensures ∙ same ∙ c.as_str-in-Copy-2.ensures)

pub returns-in-RunMirrored-clause-completes : goal.returns-in-RunMirrored-clause-completes
returns-in-RunMirrored-clause-completes g c =
    rw c.in-RunMirrored.is (completes_mirrored _ _ _ c.run_mirrored.result _ c.run_mirrored.ensures.runs c.run_mirrored.ensures.faults)

pub returns-in-Copy-clause-completes : goal.returns-in-Copy-clause-completes
returns-in-Copy-clause-completes g c =
    rw c.in-Copy.is (completes_copy _ _ _ c.copy.result _ (c.copy.ensures.copies (g.S.Source.remaining c.args.input.now) (g.S.Source.faults c.args.input.now)) (c.copy.ensures.faults (g.S.Source.faults c.args.input.now)))

pub returns-in-AppLog-clause-completes : goal.returns-in-AppLog-clause-completes
returns-in-AppLog-clause-completes g c =
    rw c.in-AppLog.is (completes_log _ _ c.log.result _ c.log.ensures.logs c.log.ensures.faults)

pub upgrade-requires : goal.upgrade-requires
upgrade-requires g c = λ same. (subst (λ (r : Request). IsInRange (Some r)) c.in-Upgrade.is c.requires.range).0 (sym c.as_str-in-Upgrade.ensures ∙ same ∙ c.as_str-in-Upgrade-2.ensures)

pub returns-in-Upgrade-clause-completes : goal.returns-in-Upgrade-clause-completes
returns-in-Upgrade-clause-completes g c =
    rw c.in-Upgrade.is (completes_upgrade _ _ _ _ _ c.upgrade.result _ (c.upgrade.ensures.upgrades (g.S.Source.remaining c.args.input.now) (g.S.Source.faults c.args.input.now)) (c.upgrade.ensures.faults (g.S.Source.faults c.args.input.now)))
