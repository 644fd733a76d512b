-- What the steps of a resize leave, and lists that are a part of another.
use Rattle.std.proofs.Common.{◌≡◌, ◌≢◌, ℕ, zero, suc, ◌-◌, ◌*◌, ◌/◌, ◌≤◌, Bool, true, false, not, ◌&&◌, if◌then◌else◌, IsTrue, List, [], ◌∷◌, length, take, drop, replicate, sym, ap, subst, ◌∙◌, arith}
use Rattle.std.specs.List.{AllPairs}
use Rattle.std.proofs.lemmas.List.{take-replicate}
use Rattle.std.proofs.lemmas.Bool.Decides.{nat_tests}
use Rattle.base_types.specs.Seal.{Blocks}
use Rattle.base_types.specs.declared.words.Class.TheVariants.{Meta}
use Rattle.base_types.specs.declared.layout.Layout.{Layout}
use Rattle.layout_bytes.specs.declared.node.NodeKind.{NodeKind}
use Rattle.layout_bytes.specs.Bytes.{are_zeros}
use Rattle.engine_blocks.specs.Running.{has}
use Rattle.crash_stands.specs.Files.{joined}
use Rattle.fs_files.specs.Bytes.{overwrite}
use Rattle.fs_files.specs.Calls.{is_dir}
use Rattle.fs_files.specs.Content.{HasContent, WritesContent}
use Rattle.fs_files.specs.Drafts.{DraftState, drafted}
use Rattle.fs_files.specs.Nodes.{fills_blocks}
use Rattle.fs_files.specs.Resizing.{ClearsRest, IsCleared}
use Rattle.fs_files.proofs.bytes.Joins.{joined_length}
use Rattle.fs_files.proofs.bytes.Tails.{zero_within}
use Rattle.fs_files.proofs.growing.Outside.{over_zeros}
use Rattle.fs_files.proofs.drafts.Lists.{in_rest}
use Rattle.fs_files.proofs.bytes.Pieces.{writes_none}

-- a part of a block of zeros
pub zero_part : (n k : ℕ) → n ≤ 1024 → n ≡ k → take n (replicate {A = ℕ} 1024 0) ≡ replicate k 0
zero_part n k fits is = take-replicate n 1024 0 fits ∙ ap (λ j. replicate j 0) is

pub clears_none : (l : Layout) (kind : NodeKind) (size : ℕ) (places : List ℕ) (d : DraftState) → is_dir kind ≡ false → ClearsRest l kind size places d d
clears_none l kind size places d not_dir = grind (arith, nat_tests, writes_none)

pub cleared_none : (m : Blocks) (kind : NodeKind) (size : ℕ) (places : List ℕ) (d : DraftState) → is_dir kind ≡ false → HasContent m d places → IsCleared m kind size places d d
cleared_none m kind size places d not_dir content = grind (arith, nat_tests)

-- there are zeros already
pub zeros_there : (m : Blocks) (size : ℕ) (places : List ℕ) (d : DraftState) → HasContent m d places → size ≤ 1024 * length places → IsTrue (are_zeros (drop size (joined (drafted d m) places)))
    → joined (drafted d m) places ≡ overwrite size (replicate (1024 * length places - size) 0) (joined (drafted d m) places)
zeros_there m size places d content fits zeros =
    sym (over_zeros size (1024 * length places - size) (joined (drafted d m) places) (omega (arith, fits, joined_length (drafted d m) places content.whole))
    (λ i z low high. zero_within size (joined (drafted d m) places) zeros i z low (omega (arith, high, fits, joined_length (drafted d m) places content.whole))))

-- zeros are written, or are there
pub clears_dir : (l : Layout) (kind : NodeKind) (size : ℕ) (places : List ℕ) (d e : DraftState) → is_dir kind ≡ true → WritesContent Meta (if not (fills_blocks l size) then drop (size / 1024) places else []) d e
    → ClearsRest l kind size places d e
clears_dir l kind size places d e dir writes = record {
  writes = subst (λ t. WritesContent Meta (if t && not (fills_blocks l size) then drop (size / 1024) places else []) d e) (sym dir) writes;
}

pub cleared_dir : (m : Blocks) (kind : NodeKind) (size : ℕ) (places : List ℕ) (d e : DraftState) → is_dir kind ≡ true → HasContent m e places
    → joined (drafted e m) places ≡ overwrite size (replicate (1024 * length places - size) 0) (joined (drafted d m) places) → IsCleared m kind size places d e
cleared_dir m kind size places d e dir content bytes = grind (arith, nat_tests)

-- parts of a list

pub in_cleared : (t : Bool) (n : ℕ) (xs : List ℕ) (b : ℕ) → has (if t then drop n xs else []) b ≡ true → has xs b ≡ true
in_cleared t n xs b e = grind (arith, nat_tests, in_rest)

pub pairs_drop : (n : ℕ) (xs : List ℕ) → AllPairs (λ a b. a ≢ b) xs → AllPairs (λ a b. a ≢ b) (drop n xs)
pairs_drop zero xs once = once
pairs_drop (suc n) [] once = once
pairs_drop (suc n) (x ∷ xs) once = pairs_drop n xs (λ i j d l h. once (suc i) (suc j) d (omega (arith, l)) (omega (arith, h)))
