-- What the steps of a call make of a file's bytes, from the draft before it to the one after it. Its places were ps, with the content's `size` bytes in them, and qs are those that it takes.
use Rattle.std.proofs.Common.{◌≡◌, ℕ, Bool, ◌-◌, ◌*◌, ◌≤◌, IsTrue, List, length, take, drop, replicate, sym, ap, subst, ◌∙◌, arith}
use Rattle.std.proofs.lemmas.List.{length-take, length-replicate}
use Rattle.base_types.specs.Seal.{Blocks}
use Rattle.layout_bytes.specs.Bytes.{are_zeros}
use Rattle.lang_tree.specs.Step.{resized}
use Rattle.crash_stands.specs.Files.{joined}
use Rattle.fs_files.specs.Bytes.{overwrite, blocks_for}
use Rattle.fs_files.specs.Content.{HasContent}
use Rattle.fs_files.specs.Growing.{alone}
use Rattle.fs_files.specs.Drafts.{DraftState, drafted, FreesBlocks}
use Rattle.fs_files.proofs.bytes.Joins.{joined_length}
use Rattle.fs_files.proofs.bytes.Contents.{cut_short, cut_over}
use Rattle.fs_files.proofs.bytes.Tails.{past_cut}
use Rattle.fs_files.proofs.bytes.Places.{bytes_cut}
use Rattle.fs_files.proofs.bytes.Sizes.{blocks_hold}

-- A cut to `less` bytes: d, then e without the places past them.
pub cut_bytes : (m : Blocks) (kept : ℕ → Bool) (ps : List ℕ) (size less : ℕ) (d e : DraftState) → HasContent m d ps → size ≤ 1024 * length ps → less ≤ size → FreesBlocks (alone kept (drop (blocks_for less) ps)) d e
    → take less (joined (drafted e m) (take (blocks_for less) ps)) ≡ resized less (take size (joined (drafted d m) ps))
cut_bytes m kept ps size less d e content fits cuts frees =
    ap (λ xs. take less xs) (bytes_cut m kept (blocks_for less) ps d e content frees)
    ∙ cut_short size less (1024 * blocks_for less) (joined (drafted d m) ps) cuts (omega (arith, fits, joined_length (drafted d m) ps content.whole)) ((blocks_hold less).0)

-- the same, then f with zeros over the rest
pub cut_filled : (m : Blocks) (kept : ℕ → Bool) (ps : List ℕ) (size less : ℕ) (d e f : DraftState) → HasContent m d ps → size ≤ 1024 * length ps → less ≤ size → FreesBlocks (alone kept (drop (blocks_for less) ps)) d e
    → joined (drafted f m) (take (blocks_for less) ps) ≡ overwrite less (replicate (1024 * blocks_for less - less) 0) (joined (drafted e m) (take (blocks_for less) ps))
    → (take less (joined (drafted f m) (take (blocks_for less) ps)) ≡ resized less (take size (joined (drafted d m) ps))) × IsTrue (are_zeros (drop less (joined (drafted f m) (take (blocks_for less) ps))))
cut_filled m kept ps size less d e f content fits cuts frees fill =
    let hold = blocks_hold less in
    let long = joined_length (drafted d m) ps content.whole in
    let short : blocks_for less ≤ length ps = omega (arith, fits, cuts) in
    let all : joined (drafted f m) (take (blocks_for less) ps) ≡ overwrite less (replicate (1024 * blocks_for less - less) 0) (take (1024 * blocks_for less) (joined (drafted d m) ps)) =
    fill ∙ ap (λ xs. overwrite less (replicate (1024 * blocks_for less - less) 0) xs) (bytes_cut m kept (blocks_for less) ps d e content frees) in
    let size_is : length (take (1024 * blocks_for less) (joined (drafted d m) ps)) ≡ 1024 * blocks_for less = omega (arith, length-take (1024 * blocks_for less) (joined (drafted d m) ps), long, short) in (
      ap (λ xs. take less xs) all ∙ cut_over size less (1024 * blocks_for less) (replicate (1024 * blocks_for less - less) 0) (joined (drafted d m) ps) cuts (omega (arith, fits, long)) hold.0 (omega (arith, length-replicate {A = ℕ} (1024 * blocks_for less - less) 0, hold.0, long, short)),
      subst (λ xs. IsTrue (are_zeros (drop less xs))) (sym all) (past_cut less (1024 * blocks_for less) (take (1024 * blocks_for less) (joined (drafted d m) ps)) size_is hold.0),
    )
