use Rattle.std.proofs.Common.{◌≡◌, ◌⊎◌, inl, inr, ⊎_elim, ◌<◌, ◌≤◌, Err, ℕ, Ok, arith, rules, subst}
use Rattle.std.proofs.lemmas.Bool.{cases_lt}
use Rattle.cmd_mirror.specs.Copies.{CopiesPart}
use Rattle.cmd_mirror.proofs.CopyHeaders.{headers_few, headers_last, headers_left}
use Rattle.cmd_mirror.proofs.copying.copy_blocks.Goals as goal

pub returns-in-Err : goal.returns-in-Err
returns-in-Err g c = λ tells knows.
    let size : (c.min-headers.result ≡ 2) ⊎ ((g.D.Disk.state c.args.original.now).blocks < 2) = ⊎_elim (λ small. inr small) (λ large. inl (omega (arith, large, c.min-headers.ensures, c.blocks-blocks.ensures))) (cases_lt (g.D.Disk.state c.args.original.now).blocks 2) in
    headers_left c.headers_need_a_size.ensures tells g.D.Disk.tells c.min-headers.result c.in-Err.fault (g.D.Disk.state c.args.original.now) (g.D.Disk.state c.copy_range.new.original) (g.D.Disk.state c.args.copy.now) (g.D.Disk.state c.copy_range.new.copy) size knows
    (subst (λ (n : ℕ). CopiesPart g.D.Disk.tells c.min-headers.result n (Err c.in-Err.fault) (g.D.Disk.state c.args.original.now) (g.D.Disk.state c.copy_range.new.original) (g.D.Disk.state c.args.copy.now) (g.D.Disk.state c.copy_range.new.copy)) c.blocks-blocks.ensures c.in-Err.ensures)

pub returns-then-headers-lt-HEADERS : goal.returns-then-headers-lt-HEADERS
returns-then-headers-lt-HEADERS g c = λ tells knows.
    let few : c.min-headers.result ≤ (g.D.Disk.state c.args.original.now).blocks = search rules in
    let small : (g.D.Disk.state c.args.original.now).blocks < 2 = omega (arith, c.if-headers-lt-HEADERS.true, c.min-headers.ensures, c.blocks-blocks.ensures) in
    headers_few c.headers_need_a_size.ensures tells g.D.Disk.tells c.min-headers.result c.calls_in_a_row_spend_together.ensures c.copy_range-then-headers-lt-HEADERS.result (g.D.Disk.state c.args.original.now) (g.D.Disk.state c.copy_range.new.original)
    (g.D.Disk.state c.copy_range-then-headers-lt-HEADERS.new.original) (g.D.Disk.state c.args.copy.now) (g.D.Disk.state c.copy_range.new.copy) (g.D.Disk.state c.copy_range-then-headers-lt-HEADERS.new.copy) few knows
    (subst (λ (n : ℕ). CopiesPart g.D.Disk.tells c.min-headers.result n (Ok tt) (g.D.Disk.state c.args.original.now) (g.D.Disk.state c.copy_range.new.original) (g.D.Disk.state c.args.copy.now) (g.D.Disk.state c.copy_range.new.copy)) c.blocks-blocks.ensures c.in_default.ensures)
    small c.copy_range-then-headers-lt-HEADERS.ensures

pub returns : goal.returns
returns g c = λ tells knows.
    let few : c.min-headers.result ≤ (g.D.Disk.state c.args.original.now).blocks = search rules in
    let two : c.min-headers.result ≡ 2 = omega (arith, c.if-headers-lt-HEADERS.false, c.min-headers.ensures) in
    headers_last c.headers_need_a_size.ensures tells g.D.Disk.tells c.min-headers.result c.calls_in_a_row_spend_together.ensures c.copy_headers.result (g.D.Disk.state c.args.original.now) (g.D.Disk.state c.copy_range.new.original) (g.D.Disk.state c.copy_headers.new.original)
    (g.D.Disk.state c.args.copy.now) (g.D.Disk.state c.copy_range.new.copy) (g.D.Disk.state c.copy_headers.new.copy) few knows
    (subst (λ (n : ℕ). CopiesPart g.D.Disk.tells c.min-headers.result n (Ok tt) (g.D.Disk.state c.args.original.now) (g.D.Disk.state c.copy_range.new.original) (g.D.Disk.state c.args.copy.now) (g.D.Disk.state c.copy_range.new.copy)) c.blocks-blocks.ensures c.in_default.ensures)
    two c.copy_headers.ensures
