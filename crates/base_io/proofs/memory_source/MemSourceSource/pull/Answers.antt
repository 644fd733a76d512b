use Rattle.std.proofs.Common.{◌≡◌, ◌≤◌, ◌+◌, ◌-◌, min, length, take, drop, rules, sym, ap, ◌∙◌, arith, length-take-le}
use Rattle.base_io.proofs.Memory.{gave_front, gave_end}
use Rattle.base_io.proofs.memory_source.MemSourceSource.pull.Goals as goal

-- what was copied is the front of what was left
pub returns-clause-bytes : goal.returns-clause-bytes
returns-clause-bytes c =
    let bytes = c.self.inside.bytes.items in
    let into = c.args.into.now in
    let place = c.self.inside.place in
    let n = c.min-count.result in
    let count : n ≡ min (min (length into) c.self.inside.most) (length bytes - place) = search rules in
    let fits : n ≤ length bytes - place = omega (arith, count) in
    let short : n ≤ length into = omega (arith, count) in
    let front = c.copy_from_slice.ensures.after ∙ ap (λ l. take (place + n - place) (drop place l)) c.deref-2.ensures.value in
    let left_is = sym (ap (λ s. s.left) c.self.view_is) in
    (left_is ∙ gave_front bytes _ _ place n fits front, gave_end bytes _ into place c.self.inside.most n c.self.invariant.1 count (c.copy_from_slice.ensures.len ∙ length-take-le n into short))
