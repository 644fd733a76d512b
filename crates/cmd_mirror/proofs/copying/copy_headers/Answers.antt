use Rattle.std.proofs.Common.{◌≡◌, true, false, IsTrue, refl, ◌∙◌, arith}
use Rattle.disk_contract.specs.Disk.{OnlyReads}
use Rattle.cmd_mirror.proofs.CopyHeaders.{bytes_on, headers_from_first, headers_from_second, headers_stopped, headers_unread, newest_by}
use Rattle.cmd_mirror.proofs.CopySteps.{bytes_read, reads_on}
use Rattle.cmd_mirror.proofs.Readings.{untouched}
use Rattle.cmd_mirror.proofs.copying.copy_headers.Goals as goal

pub returns-in_default : goal.returns-in_default
returns-in_default g c = headers_unread g.D.Disk.tells (g.D.Disk.state c.args.original.now) (g.D.Disk.state c.read.new.self) (g.D.Disk.state c.args.copy.now) c.in_default.ensures.spends c.in_default.ensures.log

pub returns-in_default-read : goal.returns-in_default-read
returns-in_default-read g c =
    headers_unread g.D.Disk.tells (g.D.Disk.state c.args.original.now) (g.D.Disk.state c.read-2.new.self) (g.D.Disk.state c.args.copy.now) (reads_on true (g.D.Disk.state c.args.original.now) (g.D.Disk.state c.read.new.self) (g.D.Disk.state c.read-2.new.self) c.in-Ok.ensures.spends c.in_default-read.ensures.spends)
    (λ t. c.in_default-read.ensures.log t ∙ c.in-Ok.ensures.log t)

pub returns-in-Err : goal.returns-in-Err
returns-in-Err g c =
    let reads : OnlyReads false (g.D.Disk.state c.args.original.now) (g.D.Disk.state c.read-2.new.self) = reads_on false (g.D.Disk.state c.args.original.now) (g.D.Disk.state c.read.new.self) (g.D.Disk.state c.read-2.new.self) c.in-Ok.ensures.spends c.in-Ok-read.ensures.spends in
    let log : IsTrue g.D.Disk.tells → (g.D.Disk.state c.read-2.new.self).log ≡ (g.D.Disk.state c.args.original.now).log = λ t. c.in-Ok-read.ensures.log t ∙ c.in-Ok.ensures.log t in
    let zero_is = bytes_read g.D.Disk.tells (g.D.Disk.state c.args.original.now) (g.D.Disk.state c.args.original.now) 0 c.read.new.into (untouched (g.D.Disk.state c.args.original.now)) (λ t. refl) c.in-Ok.ensures.reads in
    let one_is = bytes_read g.D.Disk.tells (g.D.Disk.state c.args.original.now) (g.D.Disk.state c.read.new.self) 1 c.read-2.new.into c.in-Ok.ensures.spends c.in-Ok.ensures.log c.in-Ok-read.ensures.reads in
    let newest_in = newest_by g.D.Disk.tells c.blocks-blocks.result 1 (g.D.Disk.state c.args.original.now) c.read.new.into c.read-2.new.into c.blocks-blocks.ensures (c.if-is_newer_second.ensures.second refl) zero_is one_is in
    headers_stopped g.D.Disk.tells 1 c.in-Err.fault (g.D.Disk.state c.args.original.now) (g.D.Disk.state c.read-2.new.self) (g.D.Disk.state c.args.copy.now) (g.D.Disk.state c.put_block.new.copy) (omega arith) newest_in (c.in-Err.ensures (g.D.Disk.state c.args.original.now) (g.D.Disk.state c.read-2.new.self) reads log one_is)

pub returns-then-is_newer_second : goal.returns-then-is_newer_second
returns-then-is_newer_second g c =
    let reads : OnlyReads false (g.D.Disk.state c.args.original.now) (g.D.Disk.state c.read-2.new.self) = reads_on false (g.D.Disk.state c.args.original.now) (g.D.Disk.state c.read.new.self) (g.D.Disk.state c.read-2.new.self) c.in-Ok.ensures.spends c.in-Ok-read.ensures.spends in
    let log : IsTrue g.D.Disk.tells → (g.D.Disk.state c.read-2.new.self).log ≡ (g.D.Disk.state c.args.original.now).log = λ t. c.in-Ok-read.ensures.log t ∙ c.in-Ok.ensures.log t in
    let zero_is = bytes_read g.D.Disk.tells (g.D.Disk.state c.args.original.now) (g.D.Disk.state c.args.original.now) 0 c.read.new.into (untouched (g.D.Disk.state c.args.original.now)) (λ t. refl) c.in-Ok.ensures.reads in
    let one_is = bytes_read g.D.Disk.tells (g.D.Disk.state c.args.original.now) (g.D.Disk.state c.read.new.self) 1 c.read-2.new.into c.in-Ok.ensures.spends c.in-Ok.ensures.log c.in-Ok-read.ensures.reads in
    let newest_in = newest_by g.D.Disk.tells c.blocks-blocks.result 1 (g.D.Disk.state c.args.original.now) c.read.new.into c.read-2.new.into c.blocks-blocks.ensures (c.if-is_newer_second.ensures.second refl) zero_is one_is in
    headers_from_second c.calls_in_a_row_spend_together.ensures g.D.Disk.tells c.put_block-then-is_newer_second.result (g.D.Disk.state c.args.original.now) (g.D.Disk.state c.read-2.new.self) (g.D.Disk.state c.read-2.new.self) (g.D.Disk.state c.args.copy.now) (g.D.Disk.state c.put_block.new.copy) (g.D.Disk.state c.put_block-then-is_newer_second.new.copy) newest_in
    (c.in_default-put_block.ensures (g.D.Disk.state c.args.original.now) (g.D.Disk.state c.read-2.new.self) reads log one_is) (c.put_block-then-is_newer_second.ensures (g.D.Disk.state c.read-2.new.self) (g.D.Disk.state c.read-2.new.self) (untouched (g.D.Disk.state c.read-2.new.self)) (λ t. refl) (bytes_on g.D.Disk.tells (g.D.Disk.state c.args.original.now) (g.D.Disk.state c.read-2.new.self) 0 c.read.new.into reads log zero_is))

pub returns-in-Err-put_block : goal.returns-in-Err-put_block
returns-in-Err-put_block g c =
    let reads : OnlyReads false (g.D.Disk.state c.args.original.now) (g.D.Disk.state c.read-2.new.self) = reads_on false (g.D.Disk.state c.args.original.now) (g.D.Disk.state c.read.new.self) (g.D.Disk.state c.read-2.new.self) c.in-Ok.ensures.spends c.in-Ok-read.ensures.spends in
    let log : IsTrue g.D.Disk.tells → (g.D.Disk.state c.read-2.new.self).log ≡ (g.D.Disk.state c.args.original.now).log = λ t. c.in-Ok-read.ensures.log t ∙ c.in-Ok.ensures.log t in
    let zero_is = bytes_read g.D.Disk.tells (g.D.Disk.state c.args.original.now) (g.D.Disk.state c.args.original.now) 0 c.read.new.into (untouched (g.D.Disk.state c.args.original.now)) (λ t. refl) c.in-Ok.ensures.reads in
    let one_is = bytes_read g.D.Disk.tells (g.D.Disk.state c.args.original.now) (g.D.Disk.state c.read.new.self) 1 c.read-2.new.into c.in-Ok.ensures.spends c.in-Ok.ensures.log c.in-Ok-read.ensures.reads in
    let newest_in = newest_by g.D.Disk.tells c.blocks-blocks.result 0 (g.D.Disk.state c.args.original.now) c.read.new.into c.read-2.new.into c.blocks-blocks.ensures (c.if-is_newer_second.ensures.first refl) zero_is one_is in
    headers_stopped g.D.Disk.tells 0 c.in-Err-put_block.fault (g.D.Disk.state c.args.original.now) (g.D.Disk.state c.read-2.new.self) (g.D.Disk.state c.args.copy.now) (g.D.Disk.state c.put_block-2.new.copy) (omega arith) newest_in (c.in-Err-put_block.ensures (g.D.Disk.state c.args.original.now) (g.D.Disk.state c.read-2.new.self) reads log zero_is)

pub returns : goal.returns
returns g c =
    let reads : OnlyReads false (g.D.Disk.state c.args.original.now) (g.D.Disk.state c.read-2.new.self) = reads_on false (g.D.Disk.state c.args.original.now) (g.D.Disk.state c.read.new.self) (g.D.Disk.state c.read-2.new.self) c.in-Ok.ensures.spends c.in-Ok-read.ensures.spends in
    let log : IsTrue g.D.Disk.tells → (g.D.Disk.state c.read-2.new.self).log ≡ (g.D.Disk.state c.args.original.now).log = λ t. c.in-Ok-read.ensures.log t ∙ c.in-Ok.ensures.log t in
    let zero_is = bytes_read g.D.Disk.tells (g.D.Disk.state c.args.original.now) (g.D.Disk.state c.args.original.now) 0 c.read.new.into (untouched (g.D.Disk.state c.args.original.now)) (λ t. refl) c.in-Ok.ensures.reads in
    let one_is = bytes_read g.D.Disk.tells (g.D.Disk.state c.args.original.now) (g.D.Disk.state c.read.new.self) 1 c.read-2.new.into c.in-Ok.ensures.spends c.in-Ok.ensures.log c.in-Ok-read.ensures.reads in
    let newest_in = newest_by g.D.Disk.tells c.blocks-blocks.result 0 (g.D.Disk.state c.args.original.now) c.read.new.into c.read-2.new.into c.blocks-blocks.ensures (c.if-is_newer_second.ensures.first refl) zero_is one_is in
    headers_from_first c.calls_in_a_row_spend_together.ensures g.D.Disk.tells c.put_block-3.result (g.D.Disk.state c.args.original.now) (g.D.Disk.state c.read-2.new.self) (g.D.Disk.state c.read-2.new.self) (g.D.Disk.state c.args.copy.now) (g.D.Disk.state c.put_block-2.new.copy) (g.D.Disk.state c.put_block-3.new.copy) newest_in
    (c.in_default-put_block-2.ensures (g.D.Disk.state c.args.original.now) (g.D.Disk.state c.read-2.new.self) reads log zero_is) (c.put_block-3.ensures (g.D.Disk.state c.read-2.new.self) (g.D.Disk.state c.read-2.new.self) (untouched (g.D.Disk.state c.read-2.new.self)) (λ t. refl) (bytes_on g.D.Disk.tells (g.D.Disk.state c.args.original.now) (g.D.Disk.state c.read-2.new.self) 1 c.read-2.new.into reads log one_is))
