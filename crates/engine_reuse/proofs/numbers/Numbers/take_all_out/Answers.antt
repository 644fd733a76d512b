-- Each turn does one number of the list more.
use Rattle.std.proofs.Common.{ℕ, ◌&&◌, not, List, slice_index, sym, ap, ◌∙◌, take, take_all}
use Rattle.std.proofs.lemmas.List.{take_more}
use Rattle.engine_reuse.specs.Numbers.{is_among, set_of}
use Rattle.engine_reuse.proofs.Members.{take_out_next}
use Rattle.engine_reuse.proofs.numbers.Numbers.take_all_out.Goals as goal

pub loop-b-init : goal.loop-b-init
loop-b-init c = c.lawful.ensures

pub loop-b-preserved : goal.loop-b-preserved
loop-b-preserved c =
    take_out_next c.args.self.now.limit (take c.loop-b.b-index c.args.numbers.now) c.args.self.now.members (slice_index c.args.numbers.now c.loop-b.b-index) c.loop-b.self c.take_out.new.self c.loop-b.invariant
    c.take_out.ensures
    ∙ ap (λ (xs : List ℕ). set_of c.args.self.now.limit (λ b. not (is_among b xs) && is_among b c.args.self.now.members)) (sym (take_more c.args.numbers.now c.loop-b.b-index 0 c.loop-b-test.true))

pub returns : goal.returns
returns c = c.loop-b.invariant ∙ ap (λ (xs : List ℕ). set_of c.args.self.now.limit (λ b. not (is_among b xs) && is_among b c.args.self.now.members)) (take_all c.loop-b.b-index c.args.numbers.now c.loop-b-test.false)
