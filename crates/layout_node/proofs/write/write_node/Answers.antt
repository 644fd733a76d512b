-- The pieces stand one behind the other.
use Rattle.std.proofs.Common.{◌≡◌, ◌∷◌, [], ◌-◌, ◌*◌, ◌∙◌, length, ap, rules}
use Rattle.layout_node.proofs.WriteText.{written}
use Rattle.layout_node.proofs.write.write_node.Goals as goal

pub returns : goal.returns
returns c =
    let head : c.put.new.text.items ≡ c.kind_byte.result ∷ 0 ∷ [] = search rules in
    c.copy_from_slice.ensures.after ∙ c.as_slice.ensures.value
    ∙ written c.args.layout c.args.node.now c.kind_byte.result _ c.as_slice-runs.result.now
    c.put.new.text.items c.put_2.new.text.items c.put_4.new.text.items c.put_8.new.text.items c.put_zeros.new.text.items c.put_runs.new.text.items c.put_zeros-2.new.text.items
    (ap (λ n. n - 32 - 8 * length c.as_slice-runs.result.now) c.node_length.ensures) c.kind_byte.ensures c.as_slice-runs.ensures.value head c.put_2.ensures.bytes c.put_4.ensures.bytes c.put_8.ensures.bytes c.put_zeros.ensures.bytes
    c.put_runs.ensures.bytes c.put_zeros-2.ensures.bytes
