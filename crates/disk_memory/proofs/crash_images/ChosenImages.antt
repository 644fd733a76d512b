-- What a choice leaves of a log is a crash image.
use Rattle.std.proofs.Common.{◌≡◌, ◌⊎◌, inl, inr, ⊎_elim, ℕ, ◌<◌, true, false, ◌==◌, if◌then◌else◌, List, [], ◌∷◌, length, map, take, refl, ◌∙◌, subst, arith}
use Rattle.std.specs.List.{filter}
use Rattle.base_types.specs.Seal.{Blocks, blocks_of}
use Rattle.disk_contract.specs.declared.event.Event.{Event}
use Rattle.disk_contract.specs.Cell.{Write, cell_of}
use Rattle.disk_contract.specs.Crash.{IsImage}
use Rattle.disk_contract.specs.Lawful.{IsLawful}
use Rattle.disk_memory.specs.Image.{AreBlocks}
use Rattle.disk_memory.specs.Choice.{ChoiceState, NamedWrite, pending_writes, fate, left_by, left_after, chosen, AreBlocksOf}
use Rattle.disk_memory.specs.Torn.{as_write, pending_on}
use Rattle.disk_memory.proofs.log_rows.Events.{lawful_taken}

-- where none of these writes is to the block, what is there stays
left_or_some : (c : ChoiceState) (b : ℕ) (settled before : List ℕ) (ws : List NamedWrite)
    → (left_after c b settled before ws ≡ before) ⊎ (0 < length (map as_write (filter (λ w. w.block == b) ws)))
left_or_some c b settled before [] = inl refl
left_or_some c b settled before (w ∷ ws) =
    let rest = filter (λ (w : NamedWrite). w.block == b) ws in
    elim (w.block == b) as (λ v. (left_after c b settled (if v then left_by (fate c w.name) settled w.bytes before else before) ws ≡ before) ⊎ (0 < length (map as_write (if v then w ∷ rest else rest))))
    [ true ↦ inr (omega arith) | false ↦ left_or_some c b settled before ws ]

-- blocks of 1,024 bytes that a choice leaves are a crash image, where the cells have the pending writes
pub chosen_is_image : (n : ℕ) (base : Blocks) (log : List Event) (c : ChoiceState) (img : Blocks) → ((b : ℕ) → pending_on b log ≡ (cell_of base log b).pending)
    → ((b : ℕ) → b < n → img b ≡ chosen c base log b) → ((b : ℕ) → b < n → length (img b) ≡ 1024) → IsImage n base log img
chosen_is_image n base log c img cells made whole b within = ⊎_elim
    (λ same. inl (made b within ∙ same))
    (λ some. inr (inr (subst (λ (ws : List Write). 0 < length ws) (cells b) some, whole b within)))
    (left_or_some c b (cell_of base log b).settled (cell_of base log b).settled (pending_writes log))

-- the pending writes that a choice may name are those of the cells, as the law says it
abbrev pub PendingIsTold : Type 0
PendingIsTold = (base : Blocks) (log : List Event) (b : ℕ) → IsLawful log → pending_on b log ≡ (cell_of base log b).pending

-- so an image that a choice leaves at a moment of a lawful log is one
pub left_is_image : PendingIsTold
    → (n : ℕ) (base : Blocks) (log : List Event) (moment : ℕ) (c : ChoiceState) (image : List (List ℕ)) → IsLawful log → AreBlocksOf n (chosen c base (take moment log)) image → AreBlocks image
    → IsImage n base (take moment log) (blocks_of image)
left_is_image cells n base log moment c image lawful left blocks =
    let first : IsLawful (take moment log) = lawful_taken log moment lawful in
    chosen_is_image n base (take moment log) c (blocks_of image) (λ b. cells base (take moment log) b first) left.each (λ b within. (blocks.whole b (omega (arith, within, left.count))).length)
