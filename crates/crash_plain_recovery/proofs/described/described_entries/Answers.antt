use Rattle.std.proofs.Common.{length, min, List, ◌++◌, ◌+◌, ◌-◌, sym, ◌∙◌, ap, subst, arith}
use Rattle.base_types.specs.Seal.{blocks_of}
use Rattle.layout_journal.specs.declared.entry.Entry.{Entry}
use Rattle.crash_record.specs.Found.{HasParts}
use Rattle.crash_plain_recovery.proofs.described.described_entries.Goals as goal

pub returns-in_default-clause-missing : goal.returns-in_default-clause-missing
returns-in_default-clause-missing c = λ _. (c.records_are_described_by_their_blocks.ensures (blocks_of c.args.image.now) c.args.header.now c.args.commit.now.number c.args.place).no_part c.args.commit.now c.loop-index.index
    c.requires.commit (omega (arith, c.loop-index-test.true, c.loop-index.auto.index-end)) (c.descriptor_at.ensures.missing c.in_default.is)

pub returns-then-entries-part_length-clause-missing : goal.returns-then-entries-part_length-clause-missing
returns-then-entries-part_length-clause-missing c = λ _. (c.records_are_described_by_their_blocks.ensures (blocks_of c.args.image.now) c.args.header.now c.args.commit.now.number c.args.place).bad_part c.args.commit.now c.loop-index.index
    c.loop-index.list.items c.in-Some.descriptor.entries c.requires.commit (omega (arith, c.loop-index-test.true)) c.loop-index.invariant c.in-Some.ensures.found
    (λ e. c.if-entries-part_length.true (ap (λ (l : List Entry). length l) c.as_slice-entries.ensures.value ∙ e ∙ ap (λ n. min 24 (c.args.commit.now.payloads + c.args.commit.now.fresh - n)) (sym (c.len.ensures ∙ c.loop-index.list.ok.0)) ∙ sym c.part_length.ensures))

pub loop-index-preserved : goal.loop-index-preserved
loop-index-preserved c =
    subst (HasParts (blocks_of c.args.image.now) c.args.header.now c.args.commit.now.number c.args.place (c.args.commit.now.payloads + c.args.commit.now.fresh) (c.loop-index.index + 1))
    (sym (c.in_ok-extend_from_slice.ensures.items ∙ ap (λ (l : List Entry). c.loop-index.list.items ++ l) c.as_slice-entries.ensures.value))
    ((c.records_are_described_by_their_blocks.ensures (blocks_of c.args.image.now) c.args.header.now c.args.commit.now.number c.args.place).part_more c.args.commit.now c.loop-index.index
    c.loop-index.list.items c.in-Some.descriptor.entries c.requires.commit (omega (arith, c.loop-index-test.true)) c.loop-index.invariant c.in-Some.ensures.found
    (ap (λ (l : List Entry). length l) (sym c.as_slice-entries.ensures.value) ∙ c.if-entries-part_length.false ∙ c.part_length.ensures ∙ ap (λ n. min 24 (c.args.commit.now.payloads + c.args.commit.now.fresh - n)) (c.len.ensures ∙ c.loop-index.list.ok.0)))
