use Rattle.std.proofs.Common.{Err, false, length, List, ap, subst, sym, ◌∙◌}
use Rattle.disk_contract.specs.declared.bay.Mark.{Mark}
use Rattle.disk_contract.specs.declared.event.Event.{Event}
use Rattle.crash_stands.specs.Bounds.{bounds_of}
use Rattle.engine_blocks.specs.State.{Bookkeeping}
use Rattle.fs_check.specs.Whole.{fails_by}
use Rattle.fs_commands.specs.Opened.{blocks_in}
use Rattle.engine_store.specs.StoreOf.{state_of}
use Rattle.lang_tree.specs.Step.{session_on}
use Rattle.cmd_image.specs.Staying.{damage_stays, none_stays}
use Rattle.cmd_image.specs.Mounted.{ShowsDisk}
use Rattle.cmd_image.proofs.Steps.{still_mounted}
use Rattle.cmd_image.proofs.show.show_store.Goals as goal

pub returns-in-Ok-clause-shows : goal.returns-in-Ok-clause-shows
returns-in-Ok-clause-shows g c = λ first is.
    let s = state_of g.D.Disk.state c.args.store in
    let u = state_of g.D.Disk.state (blocks_in c.in-Ok.fs) in
    c.list_shown.ensures.shows first (still_mounted g.D.Disk.tells false first s u is c.in-Ok.ensures.looks)
    (λ t. let session = c.in-Ok.ensures.session t in (session_on (bounds_of s.books.geom) session.0, session.1))
    (record {
      moment = λ t. c.mark_of-mark.ensures.moment t ∙ ap (λ d. length (g.D.Disk.state d).log) c.disk.ensures.value ∙ ap (λ (es : List Event). length es) (sym (c.in-Ok.ensures.looks.crash t).log);
      read_faults = c.mark_of-mark.ensures.read_faults ∙ ap (λ d. (g.D.Disk.state d).read_faults) c.disk.ensures.value ∙ is.read_faults;
      faults = c.mark_of-mark.ensures.faults ∙ ap (λ d. (g.D.Disk.state d).faults) c.disk.ensures.value ∙ is.faults;
    })

pub returns-in-Err-clause-shows : goal.returns-in-Err-clause-shows
returns-in-Err-clause-shows g c = λ first is.
    let s = state_of g.D.Disk.state c.args.store in
    let u = state_of g.D.Disk.state c.in-Err.store in
    let why = c.in-Err.why in
    let looks = c.in-Err.ensures.back in
    let taken = g.K.Sink.taken c.args.out.now in
    let geom = ap (λ (k : Bookkeeping). k.geom) looks.books in
    subst (λ (ms : List Mark). ShowsDisk {T = Unit {0}} g.D.Disk.tells first (g.D.Disk.state c.unopened-disk.result.0) ms taken taken (Err c.unopened-disk.result.1)) (sym c.requires.empty)
    (c.unopened-disk.ensures.back first taken (still_mounted g.D.Disk.tells (fails_by why) first s u is looks)
    (λ t. damage_stays s.books.geom u.books.geom s.map u.map why geom (looks.map t) (c.in-Err.ensures.damage t))
    (λ t. none_stays s.books.geom u.books.geom s.map u.map why geom (looks.map t) (c.in-Err.ensures.none t)))
