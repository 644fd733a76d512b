-- The block with a snapshot's name: how long the name is, its bytes, and zeros.
use Rattle.std.proofs.Common.{◌≡◌, ℕ, zero, suc, ◌+◌, ◌-◌, ◌≤◌, ◌&&◌, true, List, [], ◌∷◌, ◌++◌, length, take, drop, get_or, replicate, refl, sym, ap, ap₂, ◌∙◌, arith, take_all, length-take-le, length-drop, take-append-drop}
use Rattle.std.proofs.lemmas.List.{length-replicate}
use Rattle.std.proofs.Math.Seq.{drop-append_seam}
use Rattle.base_types.specs.Name.{is_name}
use Rattle.layout_bytes.specs.Bytes.{ZerosAreTold, are_zeros}
use Rattle.layout_bytes.specs.SnapshotName.{name_block}
use Rattle.fs_snapshots.specs.Nodes.{behind, short_name}

-- the first byte of the block says how long the name is, and these bytes are the name
pub name_there : (block name : List ℕ) → block ≡ name_block name → (get_or block 0 0 ≡ length name) × (take (get_or block 0 0) (drop 1 block) ≡ name)
name_there block name is =
    let long : get_or block 0 0 ≡ length name = ap (λ (xs : List ℕ). get_or xs 0 0) is in
    (long, ap (λ n. take n (drop 1 block)) long ∙ ap (λ (xs : List ℕ). take (length name) (drop 1 xs)) is ∙ behind name)

zeros_are : (n : ℕ) → are_zeros (replicate n 0) ≡ true
zeros_are zero = refl
zeros_are (suc n) = zeros_are n

-- what is behind a name is zeros
pub zeros_behind : (block name : List ℕ) (n : ℕ) → is_name name ≡ true → block ≡ name_block name → n ≡ get_or block 0 0 → are_zeros (take (1024 - (1 + n)) (drop (1 + n) block)) ≡ true
zeros_behind block name n lawful is count =
    let short = short_name name lawful in
    let long : n ≡ length name = count ∙ (name_there block name is).0 in
    let rest : drop (1 + n) block ≡ replicate (1023 - length name) 0 =
    ap₂ (λ (j : ℕ) (xs : List ℕ). drop j xs) {x = 1 + n} {y = suc (length name)} (omega (arith, long)) is ∙ drop-append_seam name (replicate (1023 - length name) 0) in
    ap (λ (xs : List ℕ). are_zeros (take (1024 - (1 + n)) xs)) rest
    ∙ ap are_zeros (take_all (1024 - (1 + n)) (replicate (1023 - length name) 0) (omega (arith, length-replicate {A = ℕ} (1023 - length name) 0, long)))
    ∙ zeros_are (1023 - length name)

-- a length, so many bytes and zeros are the block of these bytes
pub spelled : ZerosAreTold → (block name : List ℕ) (n : ℕ) → length block ≡ 1024 → n ≡ get_or block 0 0 → n ≤ 255 → name ≡ take (1 + n - 1) (drop 1 block) → are_zeros (take (1024 - (1 + n)) (drop (1 + n) block)) ≡ true → block ≡ name_block name
spelled told [] name n size count low bytes zeros = absurd (omega (arith, size))
spelled told (x ∷ rest) name n size count low bytes zeros =
    let left : length rest ≡ 1023 = omega (arith, size) in
    let is : name ≡ take n rest = bytes ∙ ap (λ j. take j rest) {x = 1 + n - 1} {y = n} (omega arith) in
    let behind : drop (1 + n) (x ∷ rest) ≡ drop n rest = ap (λ j. drop j (x ∷ rest)) {x = 1 + n} {y = suc n} (omega arith) in
    let long : length name ≡ n = ap length is ∙ length-take-le n rest (omega (arith, left, low)) in
    let over : length (drop n rest) ≡ 1023 - length name = omega (arith, length-drop n rest, left, long) in
    let clear : are_zeros (drop n rest) ≡ true =
    ap are_zeros (sym (take_all (1024 - (1 + n)) (drop n rest) (omega (arith, length-drop n rest, left)))) ∙ ap (λ (xs : List ℕ). are_zeros (take (1024 - (1 + n)) xs)) (sym behind) ∙ zeros in
    ap₂ (λ (m : ℕ) (xs : List ℕ). m ∷ xs) (sym count ∙ sym long)
    (sym (take-append-drop n rest) ∙ ap₂ (λ (xs ys : List ℕ). xs ++ ys) (sym is) (told (drop n rest) clear ∙ ap (λ m. replicate m 0) over))
