use Rattle.std.proofs.Common.{◌≡◌, inl, sym, ◌∙◌, ap, subst}
use Rattle.layout_geometry.specs.Geometry.{Geometry}
use Rattle.layout_journal.specs.declared.header.Header.{Header}
use Rattle.engine_recover.specs.Search.{FoundRun}
use Rattle.crash_argument.specs.Replay.{found_map}
use Rattle.engine_mount.specs.declared.mounting.Mounted.{Mounted}
use Rattle.engine_mount.specs.Mount.{settled_on}
use Rattle.engine_books.specs.Books.{TransactionBooks}
use Rattle.engine_store.specs.Mounting.{BeginsWith}
use Rattle.engine_store.specs.Refusal.{is_disk_fault}
use Rattle.engine_store.specs.Told.{store_state}
use Rattle.engine_store.proofs.Beginnings.{BeginLaws, begins_with, is_begun, kept_at_once}
use Rattle.engine_store.proofs.Mounts.{calm_window, faults_say, faulty_of, found_as, held_one, numbers_since, one_since, opened_since, refused_spends, search_spends, spends_since, starts_with, stops_before, stops_since, window_since}
use Rattle.engine_store.proofs.mounting.open_parts.Goals as goal

pub returns-in_err-found-clause-holds : goal.returns-in_err-found-clause-holds
returns-in_err-found-clause-holds g c = λ tells k m held. calm_window c.an_idle_disk_holds_what_is_settled.ensures (g.D.Disk.state c.args.disk.now) (g.D.Disk.state c.find_store.new.disk) k m (c.requires.idle tells) (c.find_store.ensures.reads.log tells) held

pub returns-in_default-clause-holds : goal.returns-in_default-clause-holds
returns-in_default-clause-holds g c = λ tells k m held. calm_window c.an_idle_disk_holds_what_is_settled.ensures (g.D.Disk.state c.args.disk.now) (g.D.Disk.state c.find_store.new.disk) k m (c.requires.idle tells) (c.find_store.ensures.reads.log tells) held

pub returns-in_default-new-clause-holds : goal.returns-in_default-new-clause-holds
returns-in_default-new-clause-holds g c = λ tells k m held. calm_window c.an_idle_disk_holds_what_is_settled.ensures (g.D.Disk.state c.args.disk.now) (g.D.Disk.state c.find_store.new.disk) k m (c.requires.idle tells) (c.find_store.ensures.reads.log tells) held

pub returns-in_default-new-clause-spends : goal.returns-in_default-new-clause-spends
returns-in_default-new-clause-spends g c = search_spends g.D.Disk.tells _ (g.D.Disk.state c.args.disk.now) (g.D.Disk.state c.find_store.new.disk) c.in_ok-found.ensures.reads

pub returns-in-Err-clause-holds : goal.returns-in-Err-clause-holds
returns-in-Err-clause-holds g c = λ tells. window_since g.D.Disk.tells (g.D.Disk.state c.args.disk.now) (g.D.Disk.state c.find_store.new.disk) (g.D.Disk.state c.open.new.disk) tells c.in_ok-found.ensures.reads c.in_ok-found.field-0.found (c.requires.idle tells) (c.in_ok-found.ensures.found tells (c.requires.idle tells)).0 (c.open.ensures.holds tells)

pub returns-in-Err-clause-refused : goal.returns-in-Err-clause-refused
returns-in-Err-clause-refused g c = λ tells. faults_say (g.D.Disk.state c.args.disk.now) (g.D.Disk.state c.open.new.disk) c.in-Err.why c.refusal_of.result (c.in_ok-found.ensures.mountable tells (c.requires.idle tells)) c.refusal_of.ensures c.in-Err.ensures.fault

pub returns-in-Err-clause-spends : goal.returns-in-Err-clause-spends
returns-in-Err-clause-spends g c = refused_spends Mounted _ c.in-Err.why c.refusal_of.result (g.D.Disk.state c.args.disk.now) (g.D.Disk.state c.open.new.disk) c.refusal_of.ensures
    (spends_since g.D.Disk.tells _ _ (g.D.Disk.state c.args.disk.now) (g.D.Disk.state c.find_store.new.disk) (g.D.Disk.state c.open.new.disk) c.in_ok-found.ensures.reads c.in-Err.ensures.spends)

pub returns-clause-kept : goal.returns-clause-kept
returns-clause-kept g c =
    let old = g.D.Disk.state c.args.disk.now in
    let mid = g.D.Disk.state c.find_store.new.disk in
    let new = g.D.Disk.state c.open.new.disk in
    let laws : BeginLaws = record { safe = c.a_call_begins_safe.ensures; map = c.a_session_begins_with_its_map.ensures.map; accepted = c.a_session_begins_with_its_map.ensures.accepted; right = c.a_new_store_is_right.ensures.right; sound = c.a_new_store_is_right.ensures.sound; began = c.a_new_store_is_right.ensures.began; cache = c.a_new_cache_agrees.ensures; one = c.an_image_holds_one_map.ensures.maps } in
    let f = c.in_ok-found.field-0.found in
    let books = c.new_parts.result.books in
    let made : books.bitmap ≡ c.in_ok-found.field-0.bitmap.items = ap (λ (v : TransactionBooks). v.bitmap) c.new_parts.ensures.books ∙ c.in-Ok.ensures.bitmap in
    let shape : c.header.result.now.geom ≡ f.run.header.geom = ap (λ (h : Header). h.geom) c.header.ensures ∙ ap (λ (r : FoundRun). r.header.geom) c.run.ensures.value in
    let size : new.blocks ≡ c.header.result.now.geom.n = c.in-Ok-open.ensures.spends.same.blocks ∙ (c.in_ok-found.ensures.reads.only.same.blocks ∙ (sym c.in_ok-found.ensures.sound.blocks ∙ ap (λ (k : Geometry). k.n) (sym shape))) in
    kept_at_once _ _ _ _ _ c.new_parts.ensures.parts laws g.D.Disk.tells new mid size c.in-Ok-open.ensures.anew (λ tells.
    let both = found_as old f c.in_ok-found.field-0.bitmap.items books made (c.in_ok-found.ensures.found tells (c.requires.idle tells)) in
    (_, _, (starts_with g.D.Disk.tells old mid new tells c.in_ok-found.ensures.reads f (c.requires.idle tells) both.0 c.the_bitmap_that_is_found_is_the_maps.ensures.has c.the_bitmap_that_is_found_is_the_maps.ensures.geom c.header.result.now.geom c.in-Ok-open.mounted.slot c.in-Ok-open.mounted.header c.moment-moment.result books shape c.new_parts.ensures.parts.books.geom both.1 (c.moment-moment.ensures tells) (c.lawful.ensures tells) (c.in-Ok-open.ensures.begins tells) (c.in-Ok-open.ensures.goes_on tells) f.run.header.geom (found_map (settled_on old) f.run.header f.run.records) (held_one g.D.Disk.tells old mid new tells c.in_ok-found.ensures.reads f (c.requires.idle tells) both.0)).1))

pub returns-clause-begun : goal.returns-clause-begun
returns-clause-begun g c = λ ticks. is_begun _ _ _ _ _ c.new_parts.ensures.parts ticks (g.D.Disk.state c.open.new.disk)

pub returns-clause-begins : goal.returns-clause-begins
returns-clause-begins g c = λ tells k m held ticks.
    let old = g.D.Disk.state c.args.disk.now in
    let mid = g.D.Disk.state c.find_store.new.disk in
    let new = g.D.Disk.state c.open.new.disk in
    let laws : BeginLaws = record { safe = c.a_call_begins_safe.ensures; map = c.a_session_begins_with_its_map.ensures.map; accepted = c.a_session_begins_with_its_map.ensures.accepted; right = c.a_new_store_is_right.ensures.right; sound = c.a_new_store_is_right.ensures.sound; began = c.a_new_store_is_right.ensures.began; cache = c.a_new_cache_agrees.ensures; one = c.an_image_holds_one_map.ensures.maps } in
    let f = c.in_ok-found.field-0.found in
    let books = c.new_parts.result.books in
    let made : books.bitmap ≡ c.in_ok-found.field-0.bitmap.items = ap (λ (v : TransactionBooks). v.bitmap) c.new_parts.ensures.books ∙ c.in-Ok.ensures.bitmap in
    let shape : c.header.result.now.geom ≡ f.run.header.geom = ap (λ (h : Header). h.geom) c.header.ensures ∙ ap (λ (r : FoundRun). r.header.geom) c.run.ensures.value in
    let both = found_as old f c.in_ok-found.field-0.bitmap.items books made (c.in_ok-found.ensures.found tells (c.requires.idle tells)) in
    let starts = starts_with g.D.Disk.tells old mid new tells c.in_ok-found.ensures.reads f (c.requires.idle tells) both.0 c.the_bitmap_that_is_found_is_the_maps.ensures.has c.the_bitmap_that_is_found_is_the_maps.ensures.geom c.header.result.now.geom c.in-Ok-open.mounted.slot c.in-Ok-open.mounted.header c.moment-moment.result books shape c.new_parts.ensures.parts.books.geom both.1 (c.moment-moment.ensures tells) (c.lawful.ensures tells) (c.in-Ok-open.ensures.begins tells) (c.in-Ok-open.ensures.goes_on tells) k m held in
    subst (λ (q : Geometry). BeginsWith q m (store_state c.new_parts.result ticks new)) starts.0 (begins_with _ _ _ _ _ c.new_parts.ensures.parts laws c.in-Ok-open.ensures.anew.released new _ m ticks starts.1)

pub returns-clause-holds : goal.returns-clause-holds
returns-clause-holds g c = λ tells. window_since g.D.Disk.tells (g.D.Disk.state c.args.disk.now) (g.D.Disk.state c.find_store.new.disk) (g.D.Disk.state c.open.new.disk) tells c.in_ok-found.ensures.reads c.in_ok-found.field-0.found (c.requires.idle tells) (c.in_ok-found.ensures.found tells (c.requires.idle tells)).0 (c.open.ensures.holds tells)

pub returns-clause-spends : goal.returns-clause-spends
returns-clause-spends g c = spends_since g.D.Disk.tells _ _ (g.D.Disk.state c.args.disk.now) (g.D.Disk.state c.find_store.new.disk) (g.D.Disk.state c.open.new.disk) c.in_ok-found.ensures.reads c.in-Ok-open.ensures.spends

pub returns-in-Err-clause-cause : goal.returns-in-Err-clause-cause
returns-in-Err-clause-cause g c = λ tells faulty. c.in-Err.ensures.cause tells (sym (faulty_of Mounted c.in-Err.why) ∙ sym (ap is_disk_fault c.refusal_of.ensures) ∙ faulty)

pub returns-in_err-found-clause-alone : goal.returns-in_err-found-clause-alone
returns-in_err-found-clause-alone g c = λ tells none. stops_before (g.D.Disk.state c.args.disk.now).manner c.from_residual.result _ _ c.from_residual.ensures.0 (c.find_store.ensures.reads.log tells)

pub returns-in_default-clause-alone : goal.returns-in_default-clause-alone
returns-in_default-clause-alone g c = λ tells none. inl (c.find_store.ensures.reads.log tells)

pub returns-in_default-new-clause-alone : goal.returns-in_default-new-clause-alone
returns-in_default-new-clause-alone g c = λ tells none. inl (c.find_store.ensures.reads.log tells)

pub returns-in-Err-clause-alone : goal.returns-in-Err-clause-alone
returns-in-Err-clause-alone g c = λ tells none. stops_since (g.D.Disk.state c.args.disk.now) (g.D.Disk.state c.find_store.new.disk) (g.D.Disk.state c.open.new.disk) c.find_store.ensures.reads.only.same.manner (c.find_store.ensures.reads.log tells)
    (c.in-Err.ensures.alone tells (none c.in_ok-found.field-0.found (c.in_ok-found.ensures.found tells (c.requires.idle tells)).0))

pub returns-clause-alone : goal.returns-clause-alone
returns-clause-alone g c = λ tells none. one_since (g.D.Disk.state c.args.disk.now) (g.D.Disk.state c.find_store.new.disk) (g.D.Disk.state c.open.new.disk) (c.find_store.ensures.reads.log tells)
    (c.in-Ok-open.ensures.alone tells (none c.in_ok-found.field-0.found (c.in_ok-found.ensures.found tells (c.requires.idle tells)).0))

pub returns-clause-numbers : goal.returns-clause-numbers
returns-clause-numbers g c = λ tells ticks. numbers_since g.D.Disk.tells (g.D.Disk.state c.args.disk.now) (g.D.Disk.state c.find_store.new.disk) tells c.in_ok-found.ensures.reads c.in_ok-found.field-0.found (c.requires.idle tells) (c.in_ok-found.ensures.found tells (c.requires.idle tells)).0 _ _ _ _ _ c.new_parts.ensures.parts (c.in-Ok-open.ensures.goes_on tells) ticks (g.D.Disk.state c.open.new.disk) (c.moment-moment.ensures tells)

pub returns-clause-opens : goal.returns-clause-opens
returns-clause-opens g c = λ tells ticks.
    let f = c.in_ok-found.field-0.found in
    let shape : c.header.result.now.geom ≡ f.run.header.geom = ap (λ (h : Header). h.geom) c.header.ensures ∙ ap (λ (r : FoundRun). r.header.geom) c.run.ensures.value in
    opened_since g.D.Disk.tells (g.D.Disk.state c.args.disk.now) (g.D.Disk.state c.find_store.new.disk) (g.D.Disk.state c.open.new.disk) tells c.in_ok-found.ensures.reads f (c.requires.idle tells) (c.in_ok-found.ensures.found tells (c.requires.idle tells)).0
    _ _ _ _ _ c.new_parts.ensures.parts shape (c.in-Ok-open.ensures.begins tells) (c.in-Ok-open.ensures.goes_on tells) ticks
