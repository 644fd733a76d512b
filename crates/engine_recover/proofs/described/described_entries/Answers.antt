use Rattle.std.proofs.Common.{length, min, List, ◌++◌, ◌+◌, ◌-◌, sym, ◌∙◌, ap, subst, arith, length-append}
use Rattle.layout_journal.specs.declared.entry.Entry.{Entry}
use Rattle.crash_record.specs.Found.{HasParts}
use Rattle.engine_recover.proofs.Readings.{read_on, still_gives}
use Rattle.engine_recover.proofs.described.described_entries.Goals as goal

pub returns-in_default-clause-missing : goal.returns-in_default-clause-missing
returns-in_default-clause-missing g c = λ img gives has _. (c.records_are_described_by_their_blocks.ensures img c.args.header.now c.args.commit.now.number c.args.place).no_part c.args.commit.now c.loop-index.index
    has (omega (arith, c.loop-index-test.true, c.loop-index.auto.index-end)) (c.in_ok-descriptor.ensures.missing img (still_gives _ _ _ _ img c.loop-index.invariant.only gives) c.in_default.is)

pub returns-then-entries-part_length-clause-missing : goal.returns-then-entries-part_length-clause-missing
returns-then-entries-part_length-clause-missing g c = λ img gives has _.
    let part = rw c.in-Some.is at c.in_ok-descriptor.ensures.found img (still_gives _ _ _ _ img c.loop-index.invariant.only gives) in
    (c.records_are_described_by_their_blocks.ensures img c.args.header.now c.args.commit.now.number c.args.place).bad_part c.args.commit.now c.loop-index.index
    c.loop-index.list.items c.in-Some.descriptor.entries has (omega (arith, c.loop-index-test.true)) (c.loop-index.invariant.parts img gives has) part
    (λ e. c.if-entries-part_length.true (ap (λ (l : List Entry). length l) c.as_slice-entries.ensures.value ∙ e ∙ ap (λ n. min 24 (c.args.commit.now.payloads + c.args.commit.now.fresh - n)) (sym (c.len.ensures ∙ c.loop-index.list.ok.0)) ∙ sym c.part_length.ensures))

pub loop-index-preserved : goal.loop-index-preserved
loop-index-preserved g c =
    let grown = c.in_ok-add_all.ensures ∙ ap (λ (l : List Entry). c.loop-index.list.items ++ l) c.as_slice-entries.ensures.value in
    let len = ap (λ (l : List Entry). length l) (sym c.as_slice-entries.ensures.value) ∙ c.if-entries-part_length.false ∙ c.part_length.ensures ∙ ap (λ n. min 24 (c.args.commit.now.payloads + c.args.commit.now.fresh - n)) (c.len.ensures ∙ c.loop-index.list.ok.0) in
    record {
      only = read_on _ _ _ _ _ c.loop-index.invariant.only c.in_ok-descriptor.ensures.reads;
      count = ap (λ (l : List Entry). length l) grown ∙ length-append c.loop-index.list.items c.in-Some.descriptor.entries ∙ omega (arith, c.loop-index.invariant.count, len);
      parts = λ img gives has.
          let part = rw c.in-Some.is at c.in_ok-descriptor.ensures.found img (still_gives _ _ _ _ img c.loop-index.invariant.only gives) in
          subst (HasParts img c.args.header.now c.args.commit.now.number c.args.place (c.args.commit.now.payloads + c.args.commit.now.fresh) (c.loop-index.index + 1)) (sym grown)
          ((c.records_are_described_by_their_blocks.ensures img c.args.header.now c.args.commit.now.number c.args.place).part_more c.args.commit.now c.loop-index.index
          c.loop-index.list.items c.in-Some.descriptor.entries has (omega (arith, c.loop-index-test.true)) (c.loop-index.invariant.parts img gives has) part len);
    }
