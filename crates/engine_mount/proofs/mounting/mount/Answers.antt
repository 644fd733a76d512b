use Rattle.std.proofs.Common.{rules, ◌≡◌, List, false, IfErr, sym, ◌∙◌, inl, subst}
use Rattle.std.proofs.lemmas.Bool.{false≢true}
use Rattle.disk_contract.specs.declared.event.Event.{Event}
use Rattle.crash_argument.specs.Opening.{WritesOne}
use Rattle.engine_recover.specs.Reading.{Searches}
use Rattle.engine_mount.specs.Mount.{RefusalSays}
use Rattle.engine_mount.specs.Refusal.{IsFault, is_unread, is_faulty}
use Rattle.engine_mount.proofs.Founds.{searches_spend, faults_say, if_err}
use Rattle.engine_mount.proofs.States.{same_idle}
use Rattle.engine_mount.proofs.Opens.{idle_stays, found_on_still, held_still, window_before, begun_before, goes_before}
use Rattle.engine_mount.proofs.OnlyWrite.{stops_too, once_since}
use Rattle.engine_mount.proofs.mounting.mount.Goals as goal

pub returns-in_err-found-clause-holds : goal.returns-in_err-found-clause-holds
returns-in_err-found-clause-holds g c = λ tells idle k m held. idle_stays c.journal_blocks_keep_to_their_bounds.ensures.headers c.windows_go_on.ensures.begins c.an_idle_disk_holds_what_is_settled.ensures (g.D.Disk.state c.args.disk.now) (g.D.Disk.state c.find.new.disk).log k m (c.find.ensures.reads.log tells) idle held

pub returns-in_err-found-clause-spends : goal.returns-in_err-found-clause-spends
returns-in_err-found-clause-spends g c =
    let reads : Searches g.D.Disk.tells (is_unread c.from_residual.result) (g.D.Disk.state c.args.disk.now) (g.D.Disk.state c.find.new.disk) = search rules in
    let calm : is_faulty c.from_residual.result ≡ false = search rules in
    searches_spend g.D.Disk.tells _ _ _ (g.D.Disk.state c.args.disk.now) (g.D.Disk.state c.find.new.disk) calm reads

pub returns-in_err-mounted-clause-holds : goal.returns-in_err-mounted-clause-holds
returns-in_err-mounted-clause-holds g c = λ tells idle k m held.
    let old = g.D.Disk.state c.args.disk.now in
    let mid = g.D.Disk.state c.find.new.disk in
    let size = c.find.ensures.reads.only.same.blocks in
    let base = c.find.ensures.reads.only.same.base in
    let log = c.find.ensures.reads.log tells in
    window_before old mid (g.D.Disk.state c.open.new.disk) k m size base log (c.open.ensures.holds tells (same_idle old mid base log idle) (found_on_still old mid c.in_ok-found.found size base log (c.in_ok-found.ensures.found tells idle)) k m (held_still old mid k m size base log held))

pub returns-in_err-mounted-clause-refused : goal.returns-in_err-mounted-clause-refused
returns-in_err-mounted-clause-refused g c = λ tells idle.
    let fault : IfErr c.from_residual-in_err-mounted.result IsFault = search rules in
    if_err c.from_residual-in_err-mounted.result IsFault (RefusalSays (g.D.Disk.state c.args.disk.now) (g.D.Disk.state c.open.new.disk)) (faults_say (g.D.Disk.state c.args.disk.now) (g.D.Disk.state c.open.new.disk)) fault

pub returns-clause-begins : goal.returns-clause-begins
returns-clause-begins g c = λ tells idle k m held.
    let old = g.D.Disk.state c.args.disk.now in
    let mid = g.D.Disk.state c.find.new.disk in
    let size = c.find.ensures.reads.only.same.blocks in
    let base = c.find.ensures.reads.only.same.base in
    let log = c.find.ensures.reads.log tells in
    begun_before old mid (g.D.Disk.state c.open.new.disk) k c.in_ok-mounted.mounted.slot c.in_ok-mounted.mounted.header m log (c.in_ok-mounted.ensures.begins tells (same_idle old mid base log idle) (found_on_still old mid c.in_ok-found.found size base log (c.in_ok-found.ensures.found tells idle)) k m (held_still old mid k m size base log held))

pub returns-clause-goes_on : goal.returns-clause-goes_on
returns-clause-goes_on g c = λ tells idle.
    let old = g.D.Disk.state c.args.disk.now in
    let mid = g.D.Disk.state c.find.new.disk in
    let size = c.find.ensures.reads.only.same.blocks in
    let base = c.find.ensures.reads.only.same.base in
    let log = c.find.ensures.reads.log tells in
    goes_before old mid c.in_ok-mounted.mounted.header size base log (c.in_ok-mounted.ensures.goes_on tells (same_idle old mid base log idle) (found_on_still old mid c.in_ok-found.found size base log (c.in_ok-found.ensures.found tells idle)))

pub returns-clause-holds : goal.returns-clause-holds
returns-clause-holds g c = λ tells idle k m held.
    let old = g.D.Disk.state c.args.disk.now in
    let mid = g.D.Disk.state c.find.new.disk in
    let size = c.find.ensures.reads.only.same.blocks in
    let base = c.find.ensures.reads.only.same.base in
    let log = c.find.ensures.reads.log tells in
    window_before old mid (g.D.Disk.state c.open.new.disk) k m size base log (c.open.ensures.holds tells (same_idle old mid base log idle) (found_on_still old mid c.in_ok-found.found size base log (c.in_ok-found.ensures.found tells idle)) k m (held_still old mid k m size base log held))

pub returns-in_err-found-clause-cause : goal.returns-in_err-found-clause-cause
returns-in_err-found-clause-cause g c = λ tells faulty.
    let calm : is_faulty c.from_residual.result ≡ false = search rules in
    absurd (false≢true (sym calm ∙ faulty))

pub returns-in_err-found-clause-alone : goal.returns-in_err-found-clause-alone
returns-in_err-found-clause-alone g c = λ tells idle none. stops_too (g.D.Disk.state c.args.disk.now).manner c.from_residual.result _ _ c.from_residual.ensures.0 (inl (c.find.ensures.reads.log tells))

pub returns-in_err-mounted-clause-alone : goal.returns-in_err-mounted-clause-alone
returns-in_err-mounted-clause-alone g c = λ tells idle none.
    let mid = g.D.Disk.state c.find.new.disk in
    once_since c.from_residual-in_err-mounted.result (g.D.Disk.state c.args.disk.now) mid (g.D.Disk.state c.open.new.disk) c.find.ensures.reads.only.same.manner (c.find.ensures.reads.log tells)
    (stops_too mid.manner c.from_residual-in_err-mounted.result _ _ c.from_residual-in_err-mounted.ensures.0 (c.in_err-mounted.ensures.alone tells (none c.in_ok-found.found (c.in_ok-found.ensures.found tells idle))))

pub returns-clause-alone : goal.returns-clause-alone
returns-clause-alone g c = λ tells idle none.
    subst (λ (l : List Event). WritesOne l (g.D.Disk.state c.open.new.disk).log) (c.find.ensures.reads.log tells) (c.in_ok-mounted.ensures.alone tells (none c.in_ok-found.found (c.in_ok-found.ensures.found tells idle)))
