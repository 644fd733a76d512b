-- What is pending on a block doesn't depend on what the disk began with.
use Rattle.std.proofs.Common.{◌≡◌, ℕ, Bool, if◌then◌else◌, ◌==◌, List, [], ◌∷◌, ◌++◌, Option, refl, ◌∙◌, arith}
use Rattle.base_types.specs.Seal.{Blocks}
use Rattle.disk_contract.specs.declared.event.Event.{Event}
use Rattle.disk_contract.specs.Cell.{Cell, Write, after, after_all, cell_of, settle, with_write}

same_settled : (c d : Cell) → c.pending ≡ d.pending → (ws : List Write) → (settle c ws).pending ≡ (settle d ws).pending
same_settled c d h1 ws = grind arith

same_written : (c d : Cell) (ticket : Option ℕ) (bytes : List ℕ) → c.pending ≡ d.pending → (here : Bool) → (if here then with_write c ticket bytes else c).pending ≡ (if here then with_write d ticket bytes else d).pending
same_written c d ticket bytes h1 here = grind arith

same_after : (b : ℕ) (c d : Cell) → c.pending ≡ d.pending → (e : Event) → (after b c e).pending ≡ (after b d e).pending
same_after b c d h1 e = grind (arith, same_written, same_settled, c.pending)

same_pending : (b : ℕ) (es : List Event) (c d : Cell) → c.pending ≡ d.pending → (after_all b c es).pending ≡ (after_all b d es).pending
same_pending b [] c d same = same
same_pending b (e ∷ es) c d same = same_pending b es (after b c e) (after b d e) (same_after b c d same e)

pub rests_alike : (base other : Blocks) (front : List Event) (b : ℕ) → (cell_of base front b).pending ≡ (cell_of other front b).pending
rests_alike base other front b = same_pending b front (record { settled = base b; pending = [] }) (record { settled = other b; pending = [] }) refl
