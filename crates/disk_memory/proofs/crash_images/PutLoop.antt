-- One step of the walk that puts pending writes, from what the code knows at a place of the whole log.
use Rattle.std.proofs.Common.{◌≡◌, ℕ, ◌+◌, ◌<◌, ◌≤◌, nat_le, List, [], ◌∷◌, length, take, get_or, slice_get, slice_index_or, Option, Some, None, refl, sym, ◌∙◌, ap, subst, arith}
use Rattle.std.proofs.lemmas.Option.{slice_get-get_or}
use Rattle.base_types.specs.Seal.{Blocks}
use Rattle.disk_contract.specs.declared.event.Event.{Event}
use Rattle.disk_contract.specs.declared.event.Event.TheVariants.{Wrote, Lost, Noticed}
use Rattle.disk_contract.specs.Cell.{cell_of}
use Rattle.disk_contract.specs.Lawful.{IsLawful}
use Rattle.disk_memory.specs.declared.choice.Fate.{Fate}
use Rattle.disk_memory.specs.Choice.{ChoiceState}
use Rattle.disk_memory.specs.Crash.{put_event}
use Rattle.disk_memory.specs.Log.{AreWithin}
use Rattle.disk_memory.specs.Settled.{AreFates, AreSettledPlaces}
use Rattle.disk_memory.proofs.crash_images.PutWalk.{AreLeft, settled_of, same_count, walk_skip, walk_put}
use Rattle.disk_memory.proofs.log_rows.Events.{front_at, lawful_taken, within_front}

-- each place of a log has its event
there : (log : List Event) (p : ℕ) → p < length log → (e : Event) × (slice_get log p ≡ Some e)
there log p h = (get_or log p (Noticed 0), slice_get-get_or log p (Noticed 0) h)

-- what the call for a place says: the image has what is put for its event, whatever the moment is that the settled places are of
abbrev pub Puts : ℕ → Blocks → List Event → List ℕ → ℕ → Fate → List (List ℕ) → List (List ℕ) → Type 0
Puts n base log places p f old new = (moment : ℕ) (event : Event) → AreSettledPlaces n (take moment log) places → slice_get log p ≡ Some event → new ≡ put_event (λ b. (cell_of base (take moment log) b).settled) places p event f old

-- a put leaves the count of blocks
put_count : (settled : Blocks) (places : List ℕ) (p : ℕ) (e : Event) (f : Fate) (image : List (List ℕ)) → length (put_event settled places p e f image) ≡ length image
put_count settled places p (Wrote t b x) f image = same_count (nat_le (slice_index_or places b 0) p) image b _
put_count settled places p (Lost b x) f image = same_count (nat_le (slice_index_or places b 0) p) image b _
put_count settled places p (Noticed t) f image = refl

-- so the call does
pub puts_count : (n : ℕ) (base : Blocks) (log : List Event) (places : List ℕ) (k p : ℕ) (f : Fate) (old new : List (List ℕ)) → k ≤ length log → p < k → AreSettledPlaces n (take k log) places → Puts n base log places p f old new → length new ≡ length old
puts_count n base log places k p f old new inside near settled puts =
    let event = there log p (omega arith) in
    ap length (puts k event.0 settled event.1) ∙ put_count (settled_of base (take k log)) places p event.0 f old

-- the walk goes over a place that has a fate
pub over_put : (n : ℕ) (c : ChoiceState) (base : Blocks) (log : List Event) (places : List ℕ) (fates : List (Option Fate)) (p : ℕ) (f : Fate) (old new : List (List ℕ)) → IsLawful log → AreWithin n log → length fates ≤ length log → p < length fates
    → AreSettledPlaces n (take (length fates) log) places → get_or fates p None ≡ Some f → Puts n base log places p f old new → AreFates (take (length fates) log) c.all c.named fates
    → AreLeft n c base (take (length fates) log) old p → AreLeft n c base (take (length fates) log) new (p + 1)
over_put n c base log places fates p f old new lawful within inside near settled some puts are left =
    let event = there log p (omega arith) in
    let walk = walk_put n c base (take (length fates) log) places fates (lawful_taken log (length fates) lawful) (within_front n (length fates) log within) settled are old p event.0 f
    (front_at (length fates) log p near ∙ event.1) (slice_get-get_or fates p None near ∙ ap Some some) left in
    subst (λ image. AreLeft n c base (take (length fates) log) image (p + 1)) (sym (puts (length fates) event.0 settled event.1)) walk

-- and over one that has none
pub over_none : (n : ℕ) (c : ChoiceState) (base : Blocks) (log : List Event) (places : List ℕ) (fates : List (Option Fate)) (p : ℕ) (image : List (List ℕ)) → IsLawful log → AreWithin n log → length fates ≤ length log → p < length fates
    → AreSettledPlaces n (take (length fates) log) places → get_or fates p None ≡ None → AreFates (take (length fates) log) c.all c.named fates
    → AreLeft n c base (take (length fates) log) image p → AreLeft n c base (take (length fates) log) image (p + 1)
over_none n c base log places fates p image lawful within inside near settled none are left =
    let event = there log p (omega arith) in
    walk_skip n c base (take (length fates) log) places fates (lawful_taken log (length fates) lawful) (within_front n (length fates) log within) settled are image p event.0
    (front_at (length fates) log p near ∙ event.1) (slice_get-get_or fates p None near ∙ ap Some none) left
