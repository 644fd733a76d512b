use Rattle.std.proofs.Common.{◌≡◌, None, ap, sym, ◌∙◌, subst}
use Rattle.lang_tree.specs.Tree.{Tree}
use Rattle.lang_log.specs.History.{opened_with}
use Rattle.lang_log.specs.Log.{HasNoLog, IsLogOf, Log}
use Rattle.crash_stands.specs.Stands.{StandsFor}
use Rattle.engine_blocks.specs.State.{Bookkeeping}
use Rattle.engine_store.specs.StoreOf.{state_of}
use Rattle.fs_check.specs.Whole.{fails_by}
use Rattle.fs_commands.specs.Opened.{blocks_in}
use Rattle.fs_log.specs.Keeping.{Keeps}
use Rattle.fs_log.specs.Open.{state_in}
use Rattle.fs_log.specs.Opening.{StandsAsMounted, StandsIn}
use Rattle.cmd_image.specs.Staying.{damage_stays, none_stays}
use Rattle.example_queue.specs.Queue.{IsOpenedOn}
use Rattle.example_queue.proofs.Opened.{as_mounted, on_no_log, on_ok, on_refusal, still_stands, stood_for}
use Rattle.example_queue.proofs.opening.open_files.Goals as goal

pub returns-in-Ok-clause-opened : goal.returns-in-Ok-clause-opened
returns-in-Ok-clause-opened g c = λ told first on begins.
    let known = g.D.Disk.state in
    let tells = g.D.Disk.tells in
    let s = state_of known c.args.store in
    let tree = c.in-Ok.ensures.stands told in
    let stands : StandsAsMounted (state_of known (blocks_in c.into_files.result)) tree.0 =
    subst (λ x. StandsAsMounted (state_of known (blocks_in x)) tree.0) (sym c.into_files.ensures.same) (as_mounted tells told s _ tree.0 c.requires.begun begins c.in-Ok.ensures.looks tree.1) in
    on_ok (λ log. (l : Log) × IsLogOf tree.0 l × Keeps (opened_with l) (state_in (state_of known) log)) (λ log. IsOpenedOn first (state_in (state_of known) log)) c.open_log.result
    (λ log is. record { tree = tree.0; stood = stood_for tells told first s on tree.0 tree.1; log = is.0; is = is.1; keeps = is.2 })
    (c.open_log.ensures.opened told tree.0 stands)

pub returns-in-Ok-clause-refused : goal.returns-in-Ok-clause-refused
returns-in-Ok-clause-refused g c = λ told first on.
    let known = g.D.Disk.state in
    let tells = g.D.Disk.tells in
    let s = state_of known c.args.store in
    let u = state_of known (blocks_in c.into_files.result) in
    let tree = c.in-Ok.ensures.stands told in
    let stands : StandsIn u tree.0 = subst (λ x. StandsIn (state_of known (blocks_in x)) tree.0) (sym c.into_files.ensures.same) (still_stands tells told s _ tree.0 c.in-Ok.ensures.looks tree.1) in
    let one = c.an_image_stands_for_one_tree.ensures.image in
    on_refusal first c.open_log.result c.open_log.ensures.own
    (on_no_log ((t : Tree) → StandsIn u t → HasNoLog t) ((t : Tree) → StandsFor first.blocks first.base t → HasNoLog t) c.open_log.result
    (λ none t stood. subst (λ (x : Tree). HasNoLog x) (sym (one _ _ t tree.0 stood (stood_for tells told first s on tree.0 tree.1))) (none tree.0 stands))
    (c.open_log.ensures.refused told))

pub returns-in-Err-clause-refused : goal.returns-in-Err-clause-refused
returns-in-Err-clause-refused g c = λ told first on.
    let known = g.D.Disk.state in
    let s = state_of known c.args.store in
    let u = state_of known c.in-Err.store in
    let why = c.in-Err.why in
    let looks = c.in-Err.ensures.back in
    let geom = ap (λ (k : Bookkeeping). k.geom) looks.books in
    (c.unopened-why.ensures.back first None (c.what_is_read_stays_mounted.ensures c.args.store c.in-Err.store first (fails_by why) on looks)
    (λ t. damage_stays s.books.geom u.books.geom s.map u.map why geom (looks.map t) (c.in-Err.ensures.damage t))
    (λ t. none_stays s.books.geom u.books.geom s.map u.map why geom (looks.map t) (c.in-Err.ensures.none t))).says told
