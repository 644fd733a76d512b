-- Each turn does one number of the list more.
use Rattle.std.proofs.Common.{ℕ, ◌||◌, List, slice_index, sym, ap, ◌∙◌, take, take_all}
use Rattle.std.proofs.lemmas.List.{take_more}
use Rattle.engine_reuse.specs.Numbers.{is_among, set_of}
use Rattle.engine_reuse.proofs.Members.{put_next}
use Rattle.engine_reuse.proofs.numbers.Numbers.put_all.Goals as goal

pub loop-b-init : goal.loop-b-init
loop-b-init c = c.lawful.ensures

pub loop-b-preserved : goal.loop-b-preserved
loop-b-preserved c =
    put_next c.args.self.now.limit (take c.loop-b.b-index c.args.numbers.now) c.args.self.now.members (slice_index c.args.numbers.now c.loop-b.b-index) c.loop-b.self c.put.new.self c.loop-b.invariant
    c.put.ensures
    ∙ ap (λ (xs : List ℕ). set_of c.args.self.now.limit (λ b. is_among b xs || is_among b c.args.self.now.members)) (sym (take_more c.args.numbers.now c.loop-b.b-index 0 c.loop-b-test.true))

pub returns : goal.returns
returns c = c.loop-b.invariant ∙ ap (λ (xs : List ℕ). set_of c.args.self.now.limit (λ b. is_among b xs || is_among b c.args.self.now.members)) (take_all c.loop-b.b-index c.args.numbers.now c.loop-b-test.false)
