-- Reading where the list of a node's blocks is given.
use Rattle.std.proofs.Common.{◌≡◌, ◌≢◌, ℕ, ◌+◌, ◌-◌, ◌*◌, ◌≤◌, min, List, [], ◌++◌, length, take, drop, All, AllPairs, Some, slice_get, sym, ap, subst, ◌∙◌, arith, drop_of_length-le}
use Rattle.std.proofs.lemmas.List.{take_all, length-take}
use Rattle.std.proofs.lemmas.Bool.Decides.{nat_tests}
use Rattle.std.proofs.lemmas.Bool.{false≢true}
use Rattle.base_types.specs.Seal.{Blocks}
use Rattle.crash_stands.specs.Files.{FileNode, joined}
use Rattle.fs_files.specs.Calls.{block_bytes}
use Rattle.fs_files.specs.Content.{HasContent}
use Rattle.fs_files.specs.Drafts.{DraftState, drafted, nothing_drafted}
use Rattle.fs_files.proofs.bytes.Contents.{read_part}
use Rattle.fs_files.proofs.bytes.Joins.{of_place, joined_length, joined_part}
use Rattle.fs_files.proofs.calling.Reads.{begins}

-- a block at a place begins with the bytes that the file has there
pub begins_there : (m : Blocks) (ps : List ℕ) (index b size : ℕ) (block : List ℕ) (x : FileNode) → All (λ q. length (m q) ≡ 1024) ps → x.bytes ≡ take size (joined m ps)
    → slice_get ps index ≡ Some b → (length (m b) ≡ 1024 → block ≡ m b) → take (length (block_bytes x index)) block ≡ block_bytes x index
begins_there m ps index b size block x whole text place seen =
    let big : length (m b) ≡ 1024 = of_place (λ q. length (m q) ≡ 1024) ps index b whole place in
    let here : take 1024 (drop (1024 * index) (joined m ps)) ≡ block =
    ap (λ n. take 1024 (drop n (joined m ps))) {x = 1024 * index} {y = 1024 * index + 0} (omega arith)
    ∙ joined_part m ps index b 0 1024 whole place (omega arith)
    ∙ take_all 1024 (m b) (omega (arith, big))
    ∙ sym (seen big) in
    subst (λ bs. take (length (take 1024 (drop (1024 * index) bs))) block ≡ take 1024 (drop (1024 * index) bs)) (sym text) (begins size (1024 * index) (joined m ps) block here)

-- and behind its blocks it has none
pub none_there : (m : Blocks) (ps : List ℕ) (index size : ℕ) (block : List ℕ) (x : FileNode) → All (λ q. length (m q) ≡ 1024) ps → x.bytes ≡ take size (joined m ps)
    → length ps ≤ index → take (length (block_bytes x index)) block ≡ block_bytes x index
none_there m ps index size block x whole text past = grind (arith, nat_tests, joined_length, length-take, drop_of_length-le)

-- where nothing was drafted, whole blocks of which no two are the same have their content
pub plain_content : (m : Blocks) (ps : List ℕ) → All (λ q. length (m q) ≡ 1024) ps → AllPairs (λ a b. a ≢ b) ps → HasContent m nothing_drafted ps
plain_content m ps whole once = record { whole = whole; once = once; apart = λ i d low is. absurd (false≢true is) }

-- what was read of them with such a draft are their bytes
pub reads_plain : (m : Blocks) (d : DraftState) (ps qs before got : List ℕ) (from end : ℕ) → d ≡ nothing_drafted → qs ≡ ps → before ≡ []
    → (HasContent m d qs → got ≡ before ++ take (end - from) (drop from (joined (drafted d m) qs))) → HasContent m nothing_drafted ps → got ≡ take (end - from) (drop from (joined m ps))
reads_plain m d ps qs before got from end nothing same none bytes content =
    bytes (subst (λ x. HasContent m x qs) (sym nothing) (subst (HasContent m nothing_drafted) (sym same) content))
    ∙ ap (λ xs. xs ++ take (end - from) (drop from (joined (drafted d m) qs))) none
    ∙ ap (λ x. take (end - from) (drop from (joined (drafted x m) qs))) nothing
    ∙ ap (λ xs. take (end - from) (drop from (joined m xs))) same

-- what was read of them is a part of the file
pub reads_part : (m : Blocks) (ps : List ℕ) (size offset len held from end : ℕ) (got : List ℕ) → All (λ q. length (m q) ≡ 1024) ps
    → held ≡ min size (1024 * length ps) → from ≡ min offset held → end ≡ min held (from + len) → got ≡ take (end - from) (drop from (joined m ps))
    → got ≡ take len (drop offset (take size (joined m ps)))
reads_part m ps size offset len held from end got whole held_is from_is end_is is =
    let long : length (joined m ps) ≡ 1024 * length ps = joined_length m ps whole in
    is
    ∙ ap (λ n. take (n - from) (drop from (joined m ps))) end_is
    ∙ ap (λ n. take (min held (n + len) - n) (drop n (joined m ps))) from_is
    ∙ sym (read_part held offset len (joined m ps) (omega (arith, long, held_is)))
    ∙ ap (λ xs. take len (drop offset xs)) (front held size (joined m ps) (held_is ∙ ap (min size) (sym long)))
  where
    front : (held size : ℕ) (xs : List ℕ) → held ≡ min size (length xs) → take held xs ≡ take size xs
    front held size xs is = grind (arith, nat_tests, take_all)
