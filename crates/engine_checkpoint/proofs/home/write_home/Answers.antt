-- The test tells that the block has to go home; so it may be written, and is idle.
use Rattle.std.proofs.Common.{List, [], ◌∷◌, ◌++◌, take, drop, None, refl, sym, ◌∙◌, ap, subst}
use Rattle.std.proofs.lemmas.Option.{none-some}
use Rattle.base_types.specs.Seal.{Blocks}
use Rattle.disk_contract.specs.declared.event.Event.{Event}
use Rattle.disk_contract.specs.declared.event.Event.TheVariants.{Wrote}
use Rattle.crash_argument.specs.Ledger.{WrittenRecord}
use Rattle.crash_argument.specs.HomeTest.{goes_home}
use Rattle.crash_argument.specs.PipelineData.{with_home}
use Rattle.engine_checkpoint.specs.HomeState.{HomeState}
use Rattle.engine_checkpoint.proofs.HomeSent.{sent_home}
use Rattle.engine_checkpoint.proofs.HomeWrites.{no_place, not_empty, home_failed}
use Rattle.engine_checkpoint.proofs.home.write_home.Goals as goal

pub returns-in_err-ticket-clause-home : goal.returns-in_err-ticket-clause-home
returns-in_err-ticket-clause-home g c = λ tells s l p freed taken t floor safe st from test between.
    let base = (g.D.Disk.state c.args.disk.now).base in
    let log = (g.D.Disk.state c.args.disk.now).log in
    let b = c.args.block in
    let x = c.args.bytes.now in
    let test2 = ap (λ (ws : List WrittenRecord). goes_home None ws (take p.batch (drop p.placed freed)) b) (c.counts_tell_the_batch.ensures.batch base log l p st.agree) ∙ test in
    let needs = c.the_home_test_is_exact.ensures.needs base log l p freed b x safe.keeps st.agree st.freed_by st.ends test2 in
    let may = c.a_home_write_may_be_made.ensures.may base log l p b x safe.keeps st.agree st.ends needs.covered needs.live in
    home_failed s l p freed taken t floor b _ _ _ c.from_residual.ensures.0 (c.write_in_place.ensures.safe tells s l t floor may safe)

pub returns-clause-home : goal.returns-clause-home
returns-clause-home g c = λ tells s l p freed taken t floor safe st from test between.
    let base = (g.D.Disk.state c.args.disk.now).base in
    let log = (g.D.Disk.state c.args.disk.now).log in
    let b = c.args.block in
    let x = c.args.bytes.now in
    let ticket = c.in_ok-ticket.ticket in
    let same = c.counts_tell_the_batch.ensures.batch base log l p st.agree in
    let test2 = ap (λ (ws : List WrittenRecord). goes_home None ws (take p.batch (drop p.placed freed)) b) same ∙ test in
    let needs = c.the_home_test_is_exact.ensures.needs base log l p freed b x safe.keeps st.agree st.freed_by st.ends test2 in
    let may = c.a_home_write_may_be_made.ensures.may base log l p b x safe.keeps st.agree st.ends needs.covered needs.live in
    let adds = c.in_ok-ticket.ensures.log tells in
    let free = no_place l.geom b safe.keeps.ring may.outside in
    let agree = c.a_batch_goes_home.ensures.written base log l p ticket b x safe.keeps st.agree adds.0 adds.1 st.ends needs
    (λ d y ge lt need. none-some y (sym (between d ge lt) ∙ sym (ap (λ (ws : List WrittenRecord). goes_home None ws (take p.batch (drop p.placed freed)) d) same) ∙ c.the_home_test_is_exact.ensures.finds base log l p freed d y safe.keeps st.agree st.freed_by st.ends need)) in
    let idle = c.nothing_is_written_between_records.ensures.accepted base log l ticket b x free st.idle in
    let calm = c.blocks_to_be_written_are_idle.ensures.home base log l p [] b x st.one st.agree safe.keeps refl from needs in
    let one = c.a_write_to_an_idle_block_is_the_one.ensures.home base log l p [] ticket b x st.one adds.0 adds.1 safe.keeps.headers.is_slot safe.keeps.ring may.outside from (not_empty l st.agree.batch b p.batch x st.agree.batch_is needs) calm in
    let free = c.taken_blocks_stay_dead.ensures.events log (Wrote ticket b x ∷ []) l (with_home p b ticket) taken (c.taken_blocks_stay_dead.ensures.home base log l p taken st.agree.batch b ticket x safe.keeps needs st.free) in
    let sent = sent_home l.geom log p.home ticket b x p.sent may.outside adds.0 adds.1 from st.one.below st.sent in
    let here : HomeState base (log ++ Wrote ticket b x ∷ []) l (with_home p b ticket) freed taken = record { agree = agree; freed_by = st.freed_by; ends = st.ends; idle = idle; one = one; sent = sent; free = free } in (
      c.write_in_place.ensures.safe tells s l t floor may safe,
      subst (λ (bs : Blocks). HomeState bs (g.D.Disk.state c.write_in_place.new.disk).log l (with_home p b ticket) freed taken) (sym c.write_in_place.ensures.spends.same.base)
          (subst (λ (lg : List Event). HomeState base lg l (with_home p b ticket) freed taken) (sym adds.2) here),
    )
