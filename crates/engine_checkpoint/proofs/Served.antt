-- Which blocks are going home, write by write; and that there is room for their list.
use Rattle.std.proofs.Common.{◌≡◌, ℕ, zero, suc, ◌+◌, ◌<◌, ◌≤◌, Bool, true, false, if◌then◌else◌, List, [], ◌∷◌, ◌++◌, length, take, get_or, vec_capacity, refl, ◌∙◌, ap, arith}
use Rattle.std.proofs.lemmas.List.{take_more}
use Rattle.engine_notes.specs.declared.notes.Note.{Note}
use Rattle.engine_notes.specs.Notes.{is_open}
use Rattle.engine_checkpoint.specs.declared.pipeline.HomeWrite.{HomeWrite}
use Rattle.engine_checkpoint.specs.declared.pipeline.Pipeline.{Pipeline}
use Rattle.engine_checkpoint.specs.Kept.{Kept, kept, payloads_in}
use Rattle.engine_checkpoint.specs.Order.{IsInOrder, HasRoom}
use Rattle.engine_checkpoint.specs.Turns.{going_home}

either_way : (b : Bool) (x : ℕ) (ns ms ks : List ℕ) → ns ≡ ms ++ ks → (if b then x ∷ ns else ns) ≡ (if b then x ∷ ms else ms) ++ ks
either_way true x ns ms ks e = ap (λ bs. x ∷ bs) e
either_way false x ns ms ks e = e

going_both : (hs gs : List HomeWrite) (notes : List Note) → going_home (hs ++ gs) notes ≡ going_home hs notes ++ going_home gs notes
going_both [] gs notes = refl
going_both (h ∷ hs) gs notes = either_way (is_open h.ticket notes) h.block (going_home (hs ++ gs) notes) (going_home hs notes) (going_home gs notes) (going_both hs gs notes)

-- one write more
pub going_more : (hs : List HomeWrite) (k : ℕ) (d : HomeWrite) (notes : List Note) → k < length hs → going_home (take (k + 1) hs) notes ≡ going_home (take k hs) notes ++ going_home (get_or hs k d ∷ []) notes
going_more hs k d notes lt = ap (λ xs. going_home xs notes) (take_more hs k d lt) ∙ going_both (take k hs) (get_or hs k d ∷ []) notes

pub payloads_take : (n : ℕ) (ks : List Kept) → payloads_in (take n ks) ≤ payloads_in ks
payloads_take zero ks = omega arith
payloads_take (suc n) [] = omega arith
payloads_take (suc n) (k ∷ ks) = omega (arith, payloads_take n ks)

-- the list of blocks has room for each checkpoint write
pub room_for_home : (v : Pipeline) → IsInOrder v → HasRoom v → length v.home.items ≤ vec_capacity v.blocks
room_for_home v o r = omega (arith, o.home, o.unplaced, payloads_take v.batch (kept v), r.blocks)
