use Rattle.std.proofs.Common.{arith, rules, []}
use Rattle.layout_journal.specs.declared.entry.EntryKind.TheVariants.{Payload}
use Rattle.layout_journal.proofs.WriteText.{entries_go}
use Rattle.layout_journal.proofs.write_record.put_entries.Goals as goal

pub loop-entry-preserved : goal.loop-entry-preserved
loop-entry-preserved c =
    let k = c.loop-entry.entry-index in
    record {
      bytes = entries_go c.args.entries.now k (record { block = 0; kind = Payload; digest = [] }) c.loop-entry.text.items c.put_entry.new.text.items c.args.text.now.items c.loop-entry-test.true c.loop-entry.invariant.bytes (search rules);
      size = omega (arith, c.put_entry.ensures.size, c.loop-entry.invariant.size);
    }
