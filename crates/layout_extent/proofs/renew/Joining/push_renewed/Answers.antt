use Rattle.std.proofs.Common.{◌≡◌, ◌+◌, ◌<◌, ◌≤◌, ◌∷◌, [], ◌++◌, length, drop, sym, ap, ap₂, ◌∙◌, append_assoc, arith}
use Rattle.std.proofs.lemmas.Option.{get_or_from_slice_get}
use Rattle.base_types.specs.Runs.{blocks_from}
use Rattle.layout_extent.specs.Renew.{makes_way, renew}
use Rattle.layout_extent.proofs.Renewed.{one_block, one_renewed, one_stays, way_within}
use Rattle.layout_extent.proofs.renew.Joining.push_renewed.Goals as goal
use Rattle.layout_extent.proofs.renew.Joining.push_renewed.Goals.{then-comes, else-comes}

pub loop-place-preserved : goal.loop-place-preserved
loop-place-preserved g c =
    let old = c.args.old.now in
    let list = c.args.list.now in
    let has = g.S.BlockSet.has c.args.set.now in
    let test = makes_way c.args.from c.args.past has old in
    let i = c.loop-place.place in
    let used = c.loop-place.used in
    let below : i < c.args.past = omega (arith, c.loop-place-test.true, c.loop-place.auto.place-end) in
    let low : c.args.from ≤ i = omega (arith, c.loop-place.auto.place) in
    let within : i < length old = omega (arith, below, c.requires.within) in
    let here : test i ≡ has c.place-number.result =
    way_within c.args.from c.args.past has old i low below ∙ ap has (get_or_from_slice_get old i c.place-number.result 0 c.place-number.ensures.value) in
    let step : c.if-comes.number ∷ renew test (i + 1) (drop (i + 1) old) (drop c.if-comes.used list) ≡ renew test i (drop i old) (drop used list) =
    elim c.if-comes.branch [
      | then-comes w ↦ ap₂ (λ n u. n ∷ renew test (i + 1) (drop (i + 1) old) (drop u list)) w.number-is w.used-is
          ∙ one_renewed test i old list used within (c.comes.ensures.more w.if-comes.true) (here ∙ c.comes.ensures.has w.if-comes.true)
      | else-comes w ↦ ap₂ (λ n u. n ∷ renew test (i + 1) (drop (i + 1) old) (drop u list)) (w.number-is ∙ sym (get_or_from_slice_get old i c.place-number.result 0 c.place-number.ensures.value)) w.used-is
          ∙ one_stays test i old list used within (λ some. here ∙ c.comes.ensures.stays w.if-comes.false some)
    ] in
    let few : c.if-comes.used ≤ length list =
    elim c.if-comes.branch [
      | then-comes w ↦ omega (arith, w.used-is, c.comes.ensures.more w.if-comes.true)
      | else-comes w ↦ omega (arith, w.used-is, c.loop-place.invariant.1)
    ] in
    let rest = renew test (i + 1) (drop (i + 1) old) (drop c.if-comes.used list) in
    let run = c.alone.result in (
      (λ xs is. let p = c.loop-place.invariant.0 xs is in (
        p.0 ++ blocks_from run.first run.count,
        c.push.ensures.holds p.0 p.1,
        ap (λ bs. (p.0 ++ bs) ++ rest) (one_block run c.if-comes.number c.alone.ensures.first c.alone.ensures.count)
            ∙ append_assoc p.0 (c.if-comes.number ∷ []) rest ∙ ap (λ zs. p.0 ++ zs) step ∙ p.2,
      )),
      few,
      omega (arith, c.push.ensures.few, c.loop-place.invariant.2),
    )
