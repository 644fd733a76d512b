-- Behind the word of `from` the next word with a number is the next that isn't 0.
use Rattle.std.proofs.Common.{◌≡◌, ℕ, ◌%◌, ◌/◌, ◌<◌, ◌≤◌, slice_index}
use Rattle.std.specs.Int.{bit_at}
use Rattle.engine_reuse.proofs.Members.{none_before}
use Rattle.engine_reuse.proofs.numbers.next_member.Goals as goal

pub returns-clause-before : goal.returns-clause-before
returns-clause-before c =
    let own : (i : ℕ) → c.args.from % 64 ≤ i → i < 64 → bit_at (slice_index c.args.words.now (c.args.from / 64)) i ≡ 0 = c.in_default.ensures.none in
    none_before c.args.words.now c.args.filled.now c.args.from c.in_ok-next.next c.first_in_word.result c.requires.says own c.in_ok-next.ensures.before c.first_in_word.ensures.set.0 c.first_in_word.ensures.before
