-- The walk over a log that puts the pending writes into an image of what is settled.
use Rattle.std.proofs.Common.{◌≡◌, ℕ, suc, ◌+◌, ◌<◌, ◌≤◌, Bool, true, false, not, ◌==◌, nat_lt, nat_le, if◌then◌else◌, List, [], ◌∷◌, length, slice_set, slice_get, slice_index_or, Option, Some, None, refl, sym, ◌∙◌, ap, subst, arith, ⊎_elim, length-set}
use Rattle.std.proofs.lemmas.Bool.Decides.{nat_tests}
use Rattle.std.proofs.lemmas.Bool.{cases_eq, eq-eqb, ne_eqb, cond-true, cond-false}
use Rattle.std.proofs.lemmas.List.{get_or-set_same, get_or-set_other, drop_all}
use Rattle.std.proofs.lemmas.Option.{same_Some}
use Rattle.base_types.specs.Seal.{Blocks, blocks_of}
use Rattle.disk_contract.specs.declared.event.Event.{Event}
use Rattle.disk_contract.specs.declared.event.Event.TheVariants.{Wrote, Lost, Noticed}
use Rattle.disk_contract.specs.Cell.{cell_of}
use Rattle.disk_contract.specs.Lawful.{IsLawful}
use Rattle.disk_memory.specs.declared.choice.WriteName.{WriteName}
use Rattle.disk_memory.specs.declared.choice.WriteName.TheVariants as names
use Rattle.disk_memory.specs.declared.choice.Fate.{Fate}
use Rattle.disk_memory.specs.Choice.{ChoiceState, NamedWrite, fate, left_by, left_after, pending_of, writes_named, has_noticed, chosen, AreBlocksOf}
use Rattle.disk_memory.specs.Crash.{put_write, put_event}
use Rattle.disk_memory.specs.Log.{AreWithin}
use Rattle.disk_memory.specs.Settled.{name_at, AreFates, AreSettledPlaces}
use Rattle.disk_memory.proofs.crash_images.FateBehind.{named_behind, IsThere, behind_drop, behind_at}
use Rattle.disk_memory.proofs.log_rows.Events.{write_within, lost_within}
use Rattle.disk_memory.proofs.crash_images.FatePending.{over_behind}
use Rattle.disk_memory.proofs.crash_images.TornLeft.{left_whatever}

-- what is settled of each block after these events
abbrev pub settled_of : Blocks → List Event → Blocks
settled_of base log b = (cell_of base log b).settled

-- the pending writes from place p on make of the image what the choice leaves
pub record AreLeft (n : ℕ) (c : ChoiceState) (base : Blocks) (log : List Event) (image : List (List ℕ)) (p : ℕ) : Type 0 where
  pub count : length image ≡ n
  pub each : (b : ℕ) → b < n → left_after c b (settled_of base log b) (blocks_of image b) (pending_of log (named_behind 0 log p)) ≡ chosen c base log b

-- the walk begins with what is settled
pub walk_start : (n : ℕ) (c : ChoiceState) (base : Blocks) (log : List Event) (image : List (List ℕ)) → AreBlocksOf n (settled_of base log) image → AreLeft n c base log image 0
walk_start n c base log image are = record {
  count = are.count;
  each = λ b within. ap (λ before. left_after c b (settled_of base log b) before (pending_of log (writes_named 0 log))) (are.each b within);
}

-- and ends with what the choice leaves
pub walk_end : (n : ℕ) (c : ChoiceState) (base : Blocks) (log : List Event) (image : List (List ℕ)) (p : ℕ) → length log ≤ p → AreLeft n c base log image p → AreBlocksOf n (chosen c base log) image
walk_end n c base log image p past left =
    let none : named_behind 0 log p ≡ [] = (behind_drop 0 log p).1 ∙ ap (writes_named (behind_drop 0 log p).0) (drop_all p log past) in
    record {
      count = left.count;
      each = λ b within. sym (ap (λ ws. left_after c b (settled_of base log b) (blocks_of image b) (pending_of log ws)) none) ∙ left.each b within;
    }

-- what is in a block after the write of a place, where `before` stood
abbrev after_write : ChoiceState → ℕ → List ℕ → NamedWrite → Bool → List ℕ → List ℕ
after_write c b settled w pending before = if pending then (if w.block == b then left_by (fate c w.name) settled w.bytes before else before) else before

-- the walk goes over a write: what its fate leaves is put where it is pending, and else nothing changes
over_write : (n : ℕ) (c : ChoiceState) (base : Blocks) (log : List Event) (image image2 : List (List ℕ)) (p place : ℕ) (w : NamedWrite)
    → named_behind 0 log p ≡ w ∷ named_behind 0 log (suc p) → has_noticed log w.block (named_behind 0 log p) ≡ nat_lt p place → length image2 ≡ n
    → ((b : ℕ) → blocks_of image2 b ≡ after_write c b (settled_of base log b) w (nat_le place p) (blocks_of image b)) → AreLeft n c base log image p → AreLeft n c base log image2 (suc p)
over_write n c base log image image2 p place w is over count put left = record {
  count = count;
  each = λ b within.
      ap (λ before. left_after c b (settled_of base log b) before (pending_of log ws)) (put b)
      ∙ sym (by b (nat_le place p) (has_noticed log w.block (w ∷ ws)) (ap (λ l. has_noticed log w.block l) (sym is) ∙ over ∙ sym (not_at place p)))
      ∙ ap (λ l. left_after c b (settled_of base log b) (blocks_of image b) (pending_of log l)) (sym is)
      ∙ left.each b within;
}
  where
    ws : List NamedWrite
    ws = named_behind 0 log (suc p)

    not_at : (place p : ℕ) → not (nat_le place p) ≡ nat_lt p place
    not_at place p = grind (arith, nat_tests)

    by : (b : ℕ) (pending noticed : Bool) → noticed ≡ not pending
        → left_after c b (settled_of base log b) (blocks_of image b) (if noticed then pending_of log ws else w ∷ pending_of log ws) ≡ left_after c b (settled_of base log b) (after_write c b (settled_of base log b) w pending (blocks_of image b)) (pending_of log ws)
    by b true noticed e = ap (λ t. left_after c b (settled_of base log b) (blocks_of image b) (if t then pending_of log ws else w ∷ pending_of log ws)) e
    by b false noticed e = ap (λ t. left_after c b (settled_of base log b) (blocks_of image b) (if t then pending_of log ws else w ∷ pending_of log ws)) e

-- a write without a fate leaves nothing
unfated : (c : ChoiceState) (b : ℕ) (settled : List ℕ) (w : NamedWrite) (pending : Bool) (before : List ℕ) → fate c w.name ≡ None → before ≡ after_write c b settled w pending before
unfated c b settled w pending before none = by pending (w.block == b) ∙ ap (λ f. if pending then (if w.block == b then left_by f settled w.bytes before else before) else before) (sym none)
  where
    by : (q r : Bool) → before ≡ (if q then (if r then left_by None settled w.bytes before else before) else before)
    by true true = refl
    by true false = refl
    by false r = refl

-- and one with a fate is put where it is pending
put_each : (c : ChoiceState) (settled : Blocks) (w : NamedWrite) (f : Fate) (pending : Bool) (image : List (List ℕ)) (b : ℕ) → w.block < length image → fate c w.name ≡ Some f
    → blocks_of (if pending then put_write settled w.block w.bytes f image else image) b ≡ after_write c b (settled b) w pending (blocks_of image b)
put_each c settled w f false image b within its = refl
put_each c settled w f true image b within its = ⊎_elim own other (cases_eq w.block b)
  where
    own : w.block ≡ b → blocks_of (put_write settled w.block w.bytes f image) b ≡ after_write c b (settled b) w true (blocks_of image b)
    own e =
        let there : blocks_of (put_write settled w.block w.bytes f image) b ≡ left_by (Some f) (settled w.block) w.bytes [] = ap (λ k. blocks_of (put_write settled w.block w.bytes f image) k) (sym e) ∙ get_or-set_same image w.block _ [] within in
        there ∙ ap (λ k. left_by (Some f) (settled k) w.bytes []) e ∙ sym (left_whatever f (settled b) w.bytes (blocks_of image b)) ∙ ap (λ o. left_by o (settled b) w.bytes (blocks_of image b)) (sym its)
        ∙ sym (cond-true (w.block == b) _ _ (eq-eqb w.block b e))

    other : (w.block ≡ b → ⊥) → blocks_of (put_write settled w.block w.bytes f image) b ≡ after_write c b (settled b) w true (blocks_of image b)
    other d = get_or-set_other image w.block b _ [] (λ e. d (sym e)) ∙ sym (cond-false (w.block == b) _ _ (ne_eqb w.block b d))

-- an image has as many blocks with a write as without it
pub same_count : (pending : Bool) (image : List (List ℕ)) (b : ℕ) (x : List ℕ) → length (if pending then slice_set image b x else image) ≡ length image
same_count true image b x = length-set image b x
same_count false image b x = refl

-- What the walk goes by: a lawful log, the settled places of its blocks, and the fates of its writes.
module _ (n : ℕ) (c : ChoiceState) (base : Blocks) (log : List Event) (places : List ℕ) (fates : List (Option Fate)) (lawful : IsLawful log) (within : AreWithin n log) (settled : AreSettledPlaces n log places) (are : AreFates log c.all c.named fates) where
  -- the row has the fate that the choice gives to the write of a place
  its_fate : (p : ℕ) (name : WriteName) (f : Option Fate) → name_at log p ≡ Some name → slice_get fates p ≡ Some f → fate c name ≡ f
  its_fate p name f its here = same_Some _ _ (sym (are.each p name its) ∙ here)

  -- a write to a block is over where its place is before the settled place of the block
  is_over : (p b : ℕ) → b < n → has_noticed log b (named_behind 0 log p) ≡ nat_lt p (slice_index_or places b 0)
  is_over p b inside = over_behind log b _ p lawful (settled.each b inside)

  -- a notice is none of the writes
  over_notice : (image : List (List ℕ)) (p : ℕ) → named_behind 0 log p ≡ named_behind 0 log (suc p) → AreLeft n c base log image p → AreLeft n c base log image (suc p)
  over_notice image p same left = record { count = left.count; each = λ b inside. ap (λ ws. left_after c b (settled_of base log b) (blocks_of image b) (pending_of log ws)) (sym same) ∙ left.each b inside }

  -- the walk goes over an event without a fate
  skip : (image : List (List ℕ)) (p : ℕ) (e : Event) → slice_get log p ≡ Some e → slice_get fates p ≡ Some None → AreLeft n c base log image p → AreLeft n c base log image (suc p)
  skip image p e here none left = by e here (behind_at 0 log p e here)
    where
      over : (w : NamedWrite) → w.block < n → name_at log p ≡ Some w.name → named_behind 0 log p ≡ w ∷ named_behind 0 log (suc p) → AreLeft n c base log image (suc p)
      over w inside its own = over_write n c base log image image p _ w own (is_over p w.block inside) left.count
          (λ k. unfated c k (settled_of base log k) w (nat_le (slice_index_or places w.block 0) p) (blocks_of image k) (its_fate p w.name None its none)) left

      by : (f : Event) → slice_get log p ≡ Some f → IsThere 0 log p f → AreLeft n c base log image (suc p)
      by (Wrote t b x) at there = over (record { name = names.Accepted t; block = b; bytes = x }) (write_within n log p t b x within at) there.1 there.2
      by (Lost b x) at there = over (record { name = names.Lost (there.0 + 1); block = b; bytes = x }) (lost_within n log p b x within at) there.1 there.2
      by (Noticed t) at there = over_notice image p there.2 left

  -- and over one with a fate, which is put
  put : (image : List (List ℕ)) (p : ℕ) (e : Event) (f : Fate) → slice_get log p ≡ Some e → slice_get fates p ≡ Some (Some f) → AreLeft n c base log image p → AreLeft n c base log (put_event (settled_of base log) places p e f image) (suc p)
  put image p e f here some left = by e here (behind_at 0 log p e here)
    where
      over : (w : NamedWrite) → w.block < n → name_at log p ≡ Some w.name → named_behind 0 log p ≡ w ∷ named_behind 0 log (suc p) → AreLeft n c base log (if nat_le (slice_index_or places w.block 0) p then put_write (settled_of base log) w.block w.bytes f image else image) (suc p)
      over w inside its own = over_write n c base log image _ p _ w own (is_over p w.block inside) (same_count (nat_le (slice_index_or places w.block 0) p) image w.block _ ∙ left.count)
          (λ k. put_each c (settled_of base log) w f (nat_le (slice_index_or places w.block 0) p) image k (omega (arith, inside, left.count)) (its_fate p w.name (Some f) its some)) left

      by : (g : Event) → slice_get log p ≡ Some g → IsThere 0 log p g → AreLeft n c base log (put_event (settled_of base log) places p g f image) (suc p)
      by (Wrote t b x) at there = over (record { name = names.Accepted t; block = b; bytes = x }) (write_within n log p t b x within at) there.1 there.2
      by (Lost b x) at there = over (record { name = names.Lost (there.0 + 1); block = b; bytes = x }) (lost_within n log p b x within at) there.1 there.2
      by (Noticed t) at there = over_notice image p there.2 left

  -- both with the next place written as a sum
  pub walk_skip : (image : List (List ℕ)) (p : ℕ) (e : Event) → slice_get log p ≡ Some e → slice_get fates p ≡ Some None → AreLeft n c base log image p → AreLeft n c base log image (p + 1)
  walk_skip image p e here none left = subst (AreLeft n c base log image) (omega arith) (skip image p e here none left)

  -- with what is put
  pub walk_put : (image : List (List ℕ)) (p : ℕ) (e : Event) (f : Fate) → slice_get log p ≡ Some e → slice_get fates p ≡ Some (Some f) → AreLeft n c base log image p → AreLeft n c base log (put_event (settled_of base log) places p e f image) (p + 1)
  walk_put image p e f here some left = subst (AreLeft n c base log (put_event (settled_of base log) places p e f image)) (omega arith) (put image p e f here some left)
