use Rattle.std.proofs.Common.{◌≡◌, ℕ, ◌+◌, ◌<◌, Bool, true, false, if◌then◌else◌, take, length, length-take, sym, ap, ◌∙◌, arith}
use Rattle.std.proofs.lemmas.Option.{get_or_from_slice_get}
use Rattle.layout_extent.specs.Renew.{makes_way, renewals}
use Rattle.fs_files.specs.Shared.{is_kept}
use Rattle.fs_files.proofs.drafts.Alone.{no_ways}
use Rattle.fs_files.proofs.growing.Counted.{renewals_front, renewals_more, way_before, way_behind, way_none, way_within}
use Rattle.fs_files.proofs.grow.renewals.Goals as goal
use Rattle.fs_files.proofs.grow.renewals.Goals.{then-keeps, else-keeps}

pub returns-then-keeps_none-clause-exact : goal.returns-then-keeps_none-clause-exact
returns-then-keeps_none-clause-exact c =
    let kept = is_kept c.args.draft.now.kept in
    sym (no_ways (makes_way c.args.from c.args.past kept c.args.places.now) 0 c.args.places.now (λ j low. way_none kept c.args.from c.args.past c.args.places.now (0 + j) (c.keeps_none.ensures c.if-keeps_none.true)))

pub loop-place-init : goal.loop-place-init
loop-place-init c =
    let kept = is_kept c.args.draft.now.kept in
    let ps = c.args.places.now in (
      omega arith,
      sym (no_ways (makes_way c.args.from c.args.past kept ps) 0 (take c.min-place.result ps)
          (λ j low. way_before kept c.args.from c.args.past ps (0 + j) (omega (arith, low, length-take c.min-place.result ps, c.min-place.ensures)))),
    )

-- one place more, with what the test says there
one_more : (kept : ℕ → Bool) (from past n count more : ℕ) (ps : _) (t : Bool) → n < length ps → makes_way from past kept ps n ≡ t → more ≡ count + (if t then 1 else 0) → count ≡ renewals (makes_way from past kept ps) 0 (take n ps)
    → more ≡ renewals (makes_way from past kept ps) 0 (take (n + 1) ps)
one_more kept from past n count more ps t low is adds so_far =
    adds ∙ ap (λ k. k + (if t then 1 else 0)) so_far
    ∙ ap (λ u. renewals (makes_way from past kept ps) 0 (take n ps) + (if u then 1 else 0)) (sym is ∙ ap (makes_way from past kept ps) {x = n} {y = 0 + n} (omega arith))
    ∙ sym (renewals_more (makes_way from past kept ps) 0 n ps low)

pub loop-place-preserved : goal.loop-place-preserved
loop-place-preserved c =
    let kept = is_kept c.args.draft.now.kept in
    let ps = c.args.places.now in
    let low : c.loop-place.place < length ps = omega (arith, c.loop-place-test.true, c.min-last.ensures, c.count.ensures.value) in
    let way : makes_way c.args.from c.args.past kept ps c.loop-place.place ≡ c.keeps.result =
    way_within kept c.args.from c.args.past ps c.loop-place.place (omega (arith, c.loop-place.auto.place, c.loop-place-test.true, c.min-place.ensures, c.min-last.ensures)) (omega (arith, c.loop-place-test.true, c.min-last.ensures))
    ∙ ap kept (get_or_from_slice_get ps c.loop-place.place c.place.result 0 c.place.ensures.value) ∙ sym c.keeps.ensures in
    elim c.if-keeps.branch [
      | then-keeps w ↦ (
        omega (arith, w.count-is, c.loop-place.invariant.0),
        one_more kept c.args.from c.args.past c.loop-place.place c.loop-place.count c.if-keeps.count ps true low (way ∙ w.if-keeps.true) (omega (arith, w.count-is)) c.loop-place.invariant.1,
      )
      | else-keeps w ↦ (
        omega (arith, w.count-is, c.loop-place.invariant.0),
        one_more kept c.args.from c.args.past c.loop-place.place c.loop-place.count c.if-keeps.count ps false low (way ∙ w.if-keeps.false) (omega (arith, w.count-is)) c.loop-place.invariant.1,
      )
    ]

pub returns-clause-exact : goal.returns-clause-exact
returns-clause-exact c =
    let kept = is_kept c.args.draft.now.kept in
    let ps = c.args.places.now in
    c.loop-place.invariant.1
    ∙ renewals_front (makes_way c.args.from c.args.past kept ps) 0 c.loop-place.place ps
    (λ j high low. way_behind kept c.args.from c.args.past ps (0 + j) (omega (arith, high, low, c.loop-place-test.false, c.min-last.ensures, c.count.ensures.value)))

pub returns-clause-most : goal.returns-clause-most
returns-clause-most c = omega (arith, c.loop-place.invariant.0, c.loop-place.auto.place-end, c.min-last.ensures, c.min-place.ensures)
