use Rattle.std.proofs.Common.{◌∙◌, sym, ap₂, arith}
use Rattle.layout_bytes.specs.Bitmap.{first_bits_block}
use Rattle.layout_journal.proofs.Formatted.{bitmap_block}
use Rattle.layout_journal.proofs.block.formatted_block.Goals as goal

pub returns-then-b-table_start : goal.returns-then-b-table_start
returns-then-b-table_start c =
    c.first_bits_block.ensures
    ∙ ap₂ first_bits_block c.data_start.ensures (omega (arith, c.bitmap_start-then-b-table_start.ensures))
    ∙ sym (bitmap_block c.args.geom.now c.args.b (omega (arith, c.if-b-bitmap_start.false, c.bitmap_start.ensures)) (omega (arith, c.if-b-table_start.true, c.table_start.ensures)))
