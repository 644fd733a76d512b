use Rattle.std.proofs.Common.{◌≡◌, ◌<◌, rules, List, ℕ, false, length, IfErr, ◌∙◌, ap, subst}
use Rattle.base_types.specs.Seal.{Blocks, blocks_of}
use Rattle.layout_journal.specs.declared.header.Header.{Header}
use Rattle.layout_bitmap.specs.Bits.{is_bad_bit}
use Rattle.engine_recover.specs.Search.{FoundRun, is_spent}
use Rattle.engine_mount.specs.Mount.{settled_on}
use Rattle.engine_store.specs.Refusal.{IsReplayedBitmap, NamesBadBit, RefusalSays}
use Rattle.engine_store.proofs.Bitmaps.{bad_says, if_err, idle_still, none_bad, settled_still}
use Rattle.engine_store.proofs.opening.find_store.Goals as goal

pub returns-in_err-check_bitmap-clause-refused : goal.returns-in_err-check_bitmap-clause-refused
returns-in_err-check_bitmap-clause-refused g c = λ tells idle.
    let old = g.D.Disk.state c.args.disk.now in
    let mid = g.D.Disk.state c.find.new.disk in
    let run = c.in-Ok.found.run in
    let geom = ap (λ (k : Header). k.geom) (c.header.ensures ∙ ap (λ (r : FoundRun). r.header) c.run.ensures.value) in
    let still = idle_still g.D.Disk.tells old mid tells c.in-Ok.ensures.reads idle in
    let read = subst (λ (at : Blocks). IsReplayedBitmap run at c.in_ok-bitmap.bitmap.items) (settled_still g.D.Disk.tells old mid tells c.in-Ok.ensures.reads) (c.in_ok-bitmap.ensures.value tells still) in
    let bad : IfErr c.from_residual-in_err-check_bitmap.result (NamesBadBit c.header.result.now.geom (blocks_of c.as_slice.result.now)) = search rules in
    if_err c.from_residual-in_err-check_bitmap.result (NamesBadBit c.header.result.now.geom (blocks_of c.in_ok-bitmap.bitmap.items)) (RefusalSays old (g.D.Disk.state c.read_bitmap.new.disk))
    (bad_says old (g.D.Disk.state c.read_bitmap.new.disk) c.header.result.now.geom c.in-Ok.found c.in_ok-bitmap.bitmap.items c.lawful.ensures.limits geom (record { is_found = c.in-Ok.ensures.found tells idle; going = subst (λ (r : FoundRun). is_spent r.header (length r.records) ≡ false) c.run.ensures.value c.run.ensures.going; epoch = subst (λ (e : ℕ). e < 9223372036854775792) c.epoch.ensures.value c.epoch.ensures.going }) read (c.in_ok-bitmap.ensures.reads.log tells ∙ c.in-Ok.ensures.reads.log tells))
    (subst (λ (xs : List (List ℕ)). IfErr c.from_residual-in_err-check_bitmap.result (NamesBadBit c.header.result.now.geom (blocks_of xs))) c.as_slice.ensures.value bad)

pub returns-clause-mountable : goal.returns-clause-mountable
returns-clause-mountable g c = λ tells idle.
    let old = g.D.Disk.state c.args.disk.now in
    let mid = g.D.Disk.state c.find.new.disk in
    let run = c.in-Ok.found.run in
    let geom = ap (λ (k : Header). k.geom) (c.header.ensures ∙ ap (λ (r : FoundRun). r.header) c.run.ensures.value) in
    let still = idle_still g.D.Disk.tells old mid tells c.in-Ok.ensures.reads idle in
    let read = subst (λ (at : Blocks). IsReplayedBitmap run at c.in_ok-bitmap.bitmap.items) (settled_still g.D.Disk.tells old mid tells c.in-Ok.ensures.reads) (c.in_ok-bitmap.ensures.value tells still) in
    let none = subst (λ (xs : List (List ℕ)). (b : ℕ) → is_bad_bit c.header.result.now.geom (blocks_of xs) b ≡ false) c.as_slice.ensures.value c.in_ok-check_bitmap.ensures.ok in
    record {
      found = c.in-Ok.found;
      left = record { is_found = c.in-Ok.ensures.found tells idle; going = subst (λ (r : FoundRun). is_spent r.header (length r.records) ≡ false) c.run.ensures.value c.run.ensures.going; epoch = subst (λ (e : ℕ). e < 9223372036854775792) c.epoch.ensures.value c.epoch.ensures.going };
      no_bad = none_bad c.header.result.now.geom run (settled_on old) c.in_ok-bitmap.bitmap.items c.lawful.ensures.limits geom read none;
    }
