-- The pieces are one behind the other.
use Rattle.std.proofs.Common.{◌≡◌, ℕ, ◌-◌, List, [], ◌∷◌, ◌++◌, length, replicate, ◌∙◌, ap, append_assoc}
use Rattle.byteorder.specs.Endian.{little_bytes}
use Rattle.base_types.specs.Layouts.{slot_size}
use Rattle.layout_directory.proofs.slot.slot_text.Goals as goal

joined : (t u v w x number name zeros : List ℕ) (n : ℕ) → t ≡ [] → u ≡ t ++ number → v ≡ u ++ n ∷ [] → w ≡ v ++ name → x ≡ w ++ zeros
    → x ≡ number ++ (n ∷ (name ++ zeros))
joined t u v w x number name zeros n a b c d e =
    e ∙ ap (λ y. y ++ zeros) (d ∙ ap (λ y. y ++ name) (c ∙ ap (λ y. y ++ n ∷ []) (b ∙ ap (λ y. y ++ number) a)))
    ∙ append_assoc (number ++ n ∷ []) name zeros ∙ append_assoc number (n ∷ []) (name ++ zeros)

pub returns-clause-text : goal.returns-clause-text
returns-clause-text c =
    let s = c.args.slot.now in
    let name = c.as_bytes-name.ensures.value in
    let size : c.push.new.self.items ≡ c.put_4.new.text.items ++ length s.name ∷ [] =
    c.push.ensures.items ∙ ap (λ (y : List ℕ). c.put_4.new.text.items ++ length y ∷ []) name in
    let named : c.put.new.text.items ≡ c.push.new.self.items ++ s.name = c.put.ensures.bytes ∙ ap (λ y. c.push.new.self.items ++ y) name in
    let zeros : c.put_zeros.new.text.items ≡ c.put.new.text.items ++ replicate (slot_size c.args.layout - 5 - length s.name) 0 =
    c.put_zeros.ensures.bytes
    ∙ ap (λ n. c.put.new.text.items ++ replicate (n - 5 - length c.as_bytes-name.result.now) 0) c.slot_length.ensures
    ∙ ap (λ (y : List ℕ). c.put.new.text.items ++ replicate (slot_size c.args.layout - 5 - length y) 0) name in
    joined _ _ _ _ _ (little_bytes 4 s.node) s.name (replicate (slot_size c.args.layout - 5 - length s.name) 0) (length s.name) c.new-text.ensures c.put_4.ensures.bytes size named zeros
