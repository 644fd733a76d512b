use Rattle.std.proofs.Common.{◌≡◌, ◌<◌, ◌≤◌, length, inl, inr, sym, ◌∙◌, arith, rules, tests}
use Rattle.base_types.specs.Seal.{blocks_of}
use Rattle.crash_plain_recovery.proofs.Headers.{within_disk}
use Rattle.crash_plain_recovery.proofs.newest.header_in.Goals as goal

pub returns-in_err-blocks-clause-value : goal.returns-in_err-blocks-clause-value
returns-in_err-blocks-clause-value c = let far : 4294967295 < length c.args.image.now = search (rules, tests) in
    c.from_residual.ensures ∙ sym (c.headers_need_a_size.ensures (length c.args.image.now) (blocks_of c.args.image.now c.args.slot) (inr (omega (arith, far))))

pub returns-then-blocks-slot-clause-value : goal.returns-then-blocks-slot-clause-value
returns-then-blocks-slot-clause-value c = let few : length c.args.image.now ≤ c.args.slot = search (rules, tests) in
    sym (c.headers_need_a_size.ensures (length c.args.image.now) (blocks_of c.args.image.now c.args.slot) (inl (omega (arith, few, c.requires))))

pub returns-clause-within : goal.returns-clause-within
returns-clause-within c = let same : c.in_ok-blocks.blocks ≡ length c.args.image.now = search (rules, tests) in
    within_disk c.journal_blocks_keep_to_their_bounds.ensures.headers (length c.args.image.now) c.in_ok-blocks.blocks _ c.ok-2.result (c.ok-2.ensures.value ∙ c.read_header.ensures.value) same
