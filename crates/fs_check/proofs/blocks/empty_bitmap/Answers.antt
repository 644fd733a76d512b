use Rattle.std.proofs.Common.{◌≡◌, ◌∙◌, sym, subst, ℕ, false, replicate, arith}
use Rattle.std.proofs.lemmas.List.{same_lists, length-replicate}
use Rattle.base_types.specs.Seal.{blocks_of}
use Rattle.layout_bytes.specs.Bitmap.{bit_in}
use Rattle.fs_check.proofs.sound.Whole.{zero_bits}
use Rattle.fs_check.proofs.blocks.empty_bitmap.Goals as goal

pub returns-clause-clear : goal.returns-clause-clear
returns-clause-clear c =
    let items : c.in_ok-bitmap.bitmap.items ≡ replicate c.bitmap_blocks-count.result (replicate 1024 0) =
    c.in_ok-bitmap.ensures.items_if_clones_equal (λ y e. same_lists y (replicate {A = ℕ} 1024 0) (e.long ∙ sym (length-replicate {A = ℕ} 1024 0))
    (λ k d low. e.at k d d (omega (arith, low, e.long)))) in
    subst (λ xs. (b : ℕ) → bit_in (blocks_of xs) b ≡ false) (sym items) (zero_bits c.bitmap_blocks-count.result)
