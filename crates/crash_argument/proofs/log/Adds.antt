-- One write more, accepted or lost.
use Rattle.std.proofs.Common.{◌≡◌, ◌≢◌, ◌⊎◌, inl, inr, ⊎_elim, ℕ, true, false, ◌==◌, List, [], ◌∷◌, ◌++◌, Option, Some, None, refl, sym, ◌∙◌, ap, subst, Bool, if◌then◌else◌}
use Rattle.std.proofs.lemmas.Bool.{cases_eq, eq-eqb, cond-true}
use Rattle.base_types.specs.Seal.{Blocks}
use Rattle.disk_contract.specs.declared.event.Event.{Event}
use Rattle.disk_contract.specs.declared.event.Event.TheVariants.{Wrote, Lost, Noticed}
use Rattle.disk_contract.specs.Cell.{Cell, Write, with_write, settle, from_ticket, is_ticket, after, cell_of, IsWritten}
use Rattle.disk_contract.specs.Crash.{AreBytesOf}
use Rattle.disk_contract.specs.Logs.{IsWritten-behind as written_behind}
use Rattle.crash_argument.proofs.log.Events.{cell_of-append, IsWritten-append, other_wrote, other_lost}
use Rattle.crash_argument.specs.Ledger.{StandsIn, IsOnDisk, latest, last_of}

-- the second log is the first with a write of x to the block, accepted or lost
pub record Adds (base : Blocks) (log new : List Event) (block : ℕ) (x : List ℕ) : Type 0 where
  pub other : (b : ℕ) → b ≢ block → cell_of base new b ≡ cell_of base log b
  pub stands : (y : List ℕ) → StandsIn (cell_of base new block) y → StandsIn (cell_of base log block) y ⊎ (y ≡ x)
  pub latest_is : latest (cell_of base new block) ≡ x
  pub settled : (cell_of base new block).settled ≡ (cell_of base log block).settled
  pub written : (y : List ℕ) → IsWritten y log → IsWritten y new
  pub own_written : IsWritten x new

-- what was on the disk is so still
pub on_disk : {n : ℕ} {base : Blocks} {log new : List Event} {block : ℕ} {x : List ℕ} → Adds base log new block x → (y : List ℕ) → IsOnDisk n base log y → IsOnDisk n base new y
on_disk a y h = ⊎_elim (λ w. inl (a.written y w)) inr h

-- what is in a block stood there before, or is what was written
pub stood : {base : Blocks} {log new : List Event} {block : ℕ} {x : List ℕ} → Adds base log new block x → (b : ℕ) (y : List ℕ) → StandsIn (cell_of base new b) y → StandsIn (cell_of base log b) y ⊎ (y ≡ x)
stood {base} {log} {new} {block} a b y st =
    ⊎_elim (λ same. ⊎_elim (λ old. inl (subst (λ c. StandsIn (cell_of base log c) y) (sym same) old)) inr (a.stands y (subst (λ c. StandsIn (cell_of base new c) y) same st)))
    (λ apart. inl (subst (λ (c : Cell). StandsIn c y) (a.other b apart) st)) (cases_eq b block)

-- what stands where nothing is pending is what is settled
pub stands_settled : (c : Cell) (x : List ℕ) → c.pending ≡ [] → StandsIn c x → x ≡ c.settled
stands_settled c x idle st = ⊎_elim (λ e. e) (λ w. absurd (subst (λ ws. AreBytesOf ws x) idle w)) st

-- what was written last is the last write
pub last_of-append : (x : List ℕ) (ws : List Write) (w : Write) → last_of x (ws ++ w ∷ []) ≡ w.bytes
last_of-append x [] w = refl
last_of-append x (v ∷ ws) w = last_of-append v.bytes ws w

-- bytes of these writes and one more are of these, or of that one
bytes-append : (ws : List Write) (w : Write) (y : List ℕ) → AreBytesOf (ws ++ w ∷ []) y → AreBytesOf ws y ⊎ (y ≡ w.bytes)
bytes-append [] w y h = ⊎_elim inr (λ none. absurd none) h
bytes-append (v ∷ ws) w y h = ⊎_elim (λ e. inl (inl e)) (λ r. ⊎_elim (λ p. inl (inr p)) inr (bytes-append ws w y r)) h

-- so what stands after a write stood before, or is what was written
with_write-stands : (c : Cell) (t : Option ℕ) (x y : List ℕ) → StandsIn (with_write c t x) y → StandsIn c y ⊎ (y ≡ x)
with_write-stands c t x y h = ⊎_elim (λ e. inl (inl e)) (λ r. ⊎_elim (λ p. inl (inr p)) inr (bytes-append c.pending _ y r)) h

pub last_written : (log : List Event) (t b : ℕ) (x : List ℕ) → IsWritten x (log ++ Wrote t b x ∷ [])
last_written log t b x = written_behind x log (Wrote t b x ∷ []) (inl refl)

-- an event that changes one cell, by a write to it, adds that write
adds_to : (base : Blocks) (log : List Event) (e : Event) (block : ℕ) (t : Option ℕ) (x : List ℕ)
    → ((b : ℕ) → b ≢ block → cell_of base (log ++ e ∷ []) b ≡ cell_of base log b) → cell_of base (log ++ e ∷ []) block ≡ with_write (cell_of base log block) t x
    → IsWritten x (log ++ e ∷ []) → Adds base log (log ++ e ∷ []) block x
adds_to base log e block t x other own is = record {
  other = other;
  stands = λ y h. with_write-stands (cell_of base log block) t x y (subst (λ (c : Cell). StandsIn c y) own h);
  latest_is = ap latest own ∙ last_of-append _ (cell_of base log block).pending _;
  settled = ap (λ (c : Cell). c.settled) own;
  written = λ y w. IsWritten-append y log _ w;
  own_written = is;
}

-- an accepted write does
pub adds_wrote : (base : Blocks) (log : List Event) (t block : ℕ) (x : List ℕ) → Adds base log (log ++ Wrote t block x ∷ []) block x
adds_wrote base log t block x = adds_to base log _ block (Some t) x
    (λ b apart. other_wrote base log t block b x (λ e. apart (sym e))) (cell_of-append base log _ block ∙ cond-true (block == block) _ _ (eq-eqb block block refl))
    (last_written log t block x)

-- and a lost one too
pub adds_lost : (base : Blocks) (log : List Event) (block : ℕ) (x : List ℕ) → Adds base log (log ++ Lost block x ∷ []) block x
adds_lost base log block x = adds_to base log _ block None x
    (λ b apart. other_lost base log block b x (λ e. apart (sym e))) (cell_of-append base log _ block ∙ cond-true (block == block) _ _ (eq-eqb block block refl))
    (written_behind x log (Lost block x ∷ []) (inl refl))

-- what a notice does to a block: what stood may go, nothing comes, and what was written last stays
pub record Settles (old new : Cell) : Type 0 where
  pub stands : (y : List ℕ) → StandsIn new y → StandsIn old y
  pub latest_is : latest new ≡ latest old
  pub idle : old.pending ≡ [] → (new.pending ≡ []) × (new.settled ≡ old.settled)

-- what a write does to the others: nothing
pub others_stay : {base : Blocks} {log new : List Event} {block : ℕ} {x : List ℕ} → Adds base log new block x → (b : ℕ) → b ≢ block → Settles (cell_of base log b) (cell_of base new b)
others_stay {base} {log} a b apart = subst (λ (d : Cell). Settles (cell_of base log b) d) (sym (a.other b apart)) (record { stands = λ y st. st; latest_is = refl; idle = λ e. (e, refl) })

-- bytes of the writes from a ticket on are bytes of all
part : (t : ℕ) (ws : List Write) (y : List ℕ) → AreBytesOf (from_ticket t ws) y → AreBytesOf ws y
part t [] y h = h
part t (w ∷ ws) y h = by (is_ticket t w.ticket) (part t ws y) h
  where
    by : (b : Bool) → (AreBytesOf (from_ticket t ws) y → AreBytesOf ws y) → AreBytesOf (if b then w ∷ ws else from_ticket t ws) y → AreBytesOf (w ∷ ws) y
    by true rest all = all
    by false rest less = inr (rest less)

-- what stands once some of the writes are settled stood before
settle-stands : (c : Cell) (ws : List Write) (y : List ℕ) → ((z : List ℕ) → AreBytesOf ws z → AreBytesOf c.pending z) → StandsIn (settle c ws) y → StandsIn c y
settle-stands c [] y sub h = h
settle-stands c (w ∷ ws) y sub h = inr (⊎_elim (λ e. sub y (inl e)) (λ r. sub y (inr r)) h)

-- the last of a part that isn't empty is the last of all
settle-last : (c : Cell) (t : ℕ) (ws : List Write) (x : List ℕ) → last_of x ws ≡ latest c → latest (settle c (from_ticket t ws)) ≡ latest c
settle-last c t [] x e = refl
settle-last c t (w ∷ ws) x e =
    elim (is_ticket t w.ticket) as (λ v. latest (settle c (Rattle.std.specs.Prelude.if◌then◌else◌ v (w ∷ ws) (from_ticket t ws))) ≡ latest c) [ true ↦ e | false ↦ settle-last c t ws w.bytes e ]

-- a notice does so to a cell
pub settles_notice : (b t : ℕ) (c : Cell) → Settles c (after b c (Noticed t))
settles_notice b t c = record {
  stands = λ y h. settle-stands c (from_ticket t c.pending) y (part t c.pending) h;
  latest_is = settle-last c t c.pending c.settled refl;
  idle = λ e. let same : settle c (from_ticket t c.pending) ≡ c = rw e refl in (ap (λ (d : Cell). d.pending) same ∙ e, ap (λ (d : Cell). d.settled) same);
}

-- and to a block of a disk
pub settles_one : (base : Blocks) (log : List Event) (t b : ℕ) → Settles (cell_of base log b) (cell_of base (log ++ Noticed t ∷ []) b)
settles_one base log t b = subst (λ (d : Cell). Settles (cell_of base log b) d) (sym (cell_of-append base log (Noticed t ∷ []) b)) (settles_notice b t (cell_of base log b))
