-- The pending writes that a choice may name are those that the cells of a disk have.
use Rattle.std.proofs.Common.{◌≡◌, inr, ⊎_elim, ℕ, zero, suc, ◌+◌, true, false, ◌==◌, if◌then◌else◌, List, [], ◌∷◌, ◌++◌, length, map, drop, refl, sym, ◌∙◌, ap, arith}
use Rattle.std.proofs.lemmas.Bool.{eqb-true, eq-eqb, cases_Bool}
use Rattle.std.specs.List.{filter}
use Rattle.base_types.specs.Seal.{Blocks}
use Rattle.disk_contract.specs.declared.event.Event.{Event}
use Rattle.disk_contract.specs.declared.event.Event.TheVariants.{Wrote, Lost, Noticed}
use Rattle.disk_contract.specs.Cell.{Write, cell_of, IsNoticed}
use Rattle.disk_contract.specs.Lawful.{IsLawful, IsWriteOf, IsNewestNoticed, HasNoneNoticed, writes_to}
use Rattle.disk_memory.specs.declared.choice.WriteName.TheVariants as names
use Rattle.disk_memory.specs.Choice.{NamedWrite, writes_named, has_noticed, pending_of}
use Rattle.disk_memory.specs.Torn.{as_write, pending_on}
use Rattle.disk_memory.specs.Settled.{IsSettledPlace}
use Rattle.disk_memory.proofs.settled_places.SettledSteps.{has_settled_place}
use Rattle.disk_memory.proofs.settled_places.SettledCells.{pending_at}
use Rattle.disk_memory.proofs.settled_places.Pending.{none_noticed, some_noticed, none_behind}
use Rattle.disk_memory.proofs.log_rows.Events.{get_next}

-- an accepted write with its name, and a lost one
abbrev wrote : ℕ → ℕ → List ℕ → NamedWrite
wrote t d x = record { name = names.Accepted t; block = d; bytes = x }

abbrev gone : ℕ → ℕ → List ℕ → NamedWrite
gone number d x = record { name = names.Lost number; block = d; bytes = x }

-- those of these writes to the block that are pending
abbrev on_block : List Event → ℕ → List NamedWrite → List NamedWrite
on_block log b ws = filter (λ w. w.block == b) (pending_of log ws)

-- a write to another block is left out
on_other : (log : List Event) (b : ℕ) (w : NamedWrite) (ws : List NamedWrite) → (w.block == b) ≡ false → on_block log b (w ∷ ws) ≡ on_block log b ws
on_other log b w ws other = elim (has_noticed log w.block (w ∷ ws)) as (λ v. filter (λ w. w.block == b) (if v then pending_of log ws else w ∷ pending_of log ws) ≡ on_block log b ws)
    [ true ↦ refl | false ↦ ap (λ v. if v then w ∷ on_block log b ws else on_block log b ws) other ]

-- and so is one that is over, with those behind it
on_over : (log : List Event) (b : ℕ) (w : NamedWrite) (ws : List NamedWrite) → has_noticed log b (w ∷ ws) ≡ true → on_block log b (w ∷ ws) ≡ on_block log b ws
on_over log b w ws over = ⊎_elim
    (λ own. ap (λ v. filter (λ w. w.block == b) (if v then pending_of log ws else w ∷ pending_of log ws)) (ap (λ d. has_noticed log d (w ∷ ws)) (eqb-true w.block b own) ∙ over))
    (λ other. on_other log b w ws other)
    (cases_Bool (w.block == b))

-- one that isn't is pending
on_pending : (log : List Event) (b : ℕ) (w : NamedWrite) (ws : List NamedWrite) → w.block ≡ b → has_noticed log b (w ∷ ws) ≡ false → on_block log b (w ∷ ws) ≡ w ∷ on_block log b ws
on_pending log b w ws own calm = ap (λ v. filter (λ w. w.block == b) (if v then pending_of log ws else w ∷ pending_of log ws)) (ap (λ d. has_noticed log d (w ∷ ws)) own ∙ calm)
    ∙ ap (λ v. if v then w ∷ on_block log b ws else on_block log b ws) (eq-eqb w.block b own)

-- so where one that isn't over comes before others, it is pending with those of them that are
calm_more : (log : List Event) (b : ℕ) (w : NamedWrite) (ws : List NamedWrite) (rest : List Write) → has_noticed log b (w ∷ ws) ≡ false → map as_write (on_block log b ws) ≡ rest
    → map as_write (on_block log b (w ∷ ws)) ≡ (if w.block == b then as_write w ∷ rest else rest)
calm_more log b w ws rest calm is = ⊎_elim
    (λ own. ap (map as_write) (on_pending log b w ws (eqb-true w.block b own) calm) ∙ ap (λ (vs : List Write). as_write w ∷ vs) is ∙ sym (ap (λ v. if v then as_write w ∷ rest else rest) own))
    (λ other. ap (map as_write) (on_other log b w ws other) ∙ is ∙ sym (ap (λ v. if v then as_write w ∷ rest else rest) other))
    (cases_Bool (w.block == b))

-- where none was noticed, all writes to the block are pending
calm_pending : (log : List Event) (b lost : ℕ) (es : List Event) → ((u : ℕ) → IsWriteOf u b es → ¬ IsNoticed u log) → map as_write (on_block log b (writes_named lost es)) ≡ writes_to b es
calm_pending log b lost [] none = refl
calm_pending log b lost (Wrote t d x ∷ es) none =
    calm_more log b (wrote t d x) (writes_named lost es) (writes_to b es) (none_noticed log b lost (Wrote t d x ∷ es) none) (calm_pending log b lost es (λ u w. none u (inr w)))
calm_pending log b lost (Lost d x ∷ es) none =
    calm_more log b (gone (lost + 1) d x) (writes_named (lost + 1) es) (writes_to b es) (none_noticed log b lost (Lost d x ∷ es) none) (calm_pending log b (lost + 1) es none)
calm_pending log b lost (Noticed t ∷ es) none = calm_pending log b lost es none

-- those up to a noticed one are over, and the later ones are pending where none of them was noticed
later_pending : (log : List Event) (b lost t : ℕ) (x : List ℕ) (before later : List Event) → IsNoticed t log → ((u : ℕ) → IsWriteOf u b later → ¬ IsNoticed u log)
    → map as_write (on_block log b (writes_named lost (before ++ (Wrote t b x ∷ later)))) ≡ writes_to b later
later_pending log b lost t x [] later noticed calm =
    let over = some_noticed log b t x lost 0 0 (Wrote t b x ∷ later) noticed refl (omega arith) in
    ap (map as_write) (on_over log b (wrote t b x) (writes_named lost later) over) ∙ calm_pending log b lost later calm
later_pending log b lost t x (Wrote k d y ∷ before) later noticed calm =
    let rest = before ++ (Wrote t b x ∷ later) in
    let over = some_noticed log b t x lost (suc (length before)) 0 (Wrote k d y ∷ rest) noticed (get_next (Wrote k d y ∷ before) (Wrote t b x) later) (omega arith) in
    ap (map as_write) (on_over log b (wrote k d y) (writes_named lost rest) over) ∙ later_pending log b lost t x before later noticed calm
later_pending log b lost t x (Lost d y ∷ before) later noticed calm =
    let rest = before ++ (Wrote t b x ∷ later) in
    let over = some_noticed log b t x lost (suc (length before)) 0 (Lost d y ∷ rest) noticed (get_next (Lost d y ∷ before) (Wrote t b x) later) (omega arith) in
    ap (map as_write) (on_over log b (gone (lost + 1) d y) (writes_named (lost + 1) rest) over) ∙ later_pending log b (lost + 1) t x before later noticed calm
later_pending log b lost t x (Noticed k ∷ before) later noticed calm = later_pending log b lost t x before later noticed calm

-- so those to a block are the ones from its settled place on
pending_from : (log : List Event) (b place : ℕ) → IsLawful log → IsSettledPlace log b place → pending_on b log ≡ writes_to b (drop place log)
pending_from log b zero lawful none = calm_pending log b 0 log none
pending_from log b (suc p) lawful (t, x, at, newest) =
    ap (λ (es : List Event). map as_write (on_block log b (writes_named 0 es))) newest.split
    ∙ later_pending log b 0 t x newest.before (drop (suc p) log) newest.noticed (none_behind log b p t x lawful newest)

-- and these the cell has, as settled is the newest noticed write
pub pending_of_cells : ((base : Blocks) (log later : List Event) (b t : ℕ) (x : List ℕ) → IsLawful log → IsNewestNoticed log b t x later → cell_of base log b ≡ record { settled = x; pending = writes_to b later })
    → ((base : Blocks) (log : List Event) (b : ℕ) → IsLawful log → HasNoneNoticed log b → cell_of base log b ≡ record { settled = base b; pending = writes_to b log })
    → (base : Blocks) (log : List Event) (b : ℕ) → IsLawful log → pending_on b log ≡ (cell_of base log b).pending
pending_of_cells noticed none base log b lawful =
    let place = has_settled_place log b lawful in
    pending_from log b place.0 lawful place.1 ∙ sym (pending_at noticed none base log b place.0 lawful place.1)
