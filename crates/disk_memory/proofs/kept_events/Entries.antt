-- The entries of a disk's events: what is at a place, and that one more of them changes none of the others.
use Rattle.std.proofs.Common.{◌≡◌, ℕ, zero, suc, ◌+◌, ◌-◌, ◌<◌, ◌≤◌, List, [], ◌∷◌, ◌++◌, length, get_or, Some, option_map, refl, ap, ap₂, subst, ◌∙◌, arith}
use Rattle.std.proofs.Math.Seq.{get_or-append_seam}
use Rattle.std.proofs.lemmas.List.{get_or_append_left, map-append}
use Rattle.std.proofs.lemmas.Option.{none-some, same_Some, slice_get-map}
use Rattle.std.specs.List.{slice_get}
use Rattle.disk_contract.specs.declared.event.Event.{Event}
use Rattle.disk_memory.specs.declared.events.Entry.{Entry}
use Rattle.disk_memory.specs.declared.events.Entry.TheVariants.{Given, Wrote, Lost, Noticed}
use Rattle.disk_memory.specs.Events.{event_kept, events_kept, IsHeld, AreHeld, HasRoom}

-- the bytes of an entry are among more, too
held_in_more : (n m : ℕ) (e : Entry) → n ≤ m → IsHeld n e → IsHeld m e
held_in_more n m (Given event) more held = tt
held_in_more n m (Wrote ticket block at) more held = omega (arith, more, held)
held_in_more n m (Lost block at) more held = omega (arith, more, held)
held_in_more n m (Noticed ticket) more held = tt

-- so are those of all, and of one more
held_and_one : (n m : ℕ) (es : List Entry) (e : Entry) → n ≤ m → AreHeld n es → IsHeld m e → AreHeld m (es ++ e ∷ [])
held_and_one n m [] e more all one = (one, tt)
held_and_one n m (d ∷ es) e more all one = (held_in_more n m d more all.0, held_and_one n m es e more all.1 one)

-- those of each are there
pub held_at : (n : ℕ) (es : List Entry) (p : ℕ) (e : Entry) → AreHeld n es → slice_get es p ≡ Some e → IsHeld n e
held_at n [] p e all at = absurd (none-some e at)
held_at n (d ∷ es) zero e all at = subst (IsHeld n) (same_Some d e at) all.0
held_at n (d ∷ es) (suc p) e all at = held_at n es p e all.1 at

-- the event at a place is that of the entry there
pub event_at : (blocks : List (List ℕ)) (es : List Entry) (p : ℕ) (e : Entry) → slice_get es p ≡ Some e → slice_get (events_kept blocks es) p ≡ Some (event_kept blocks e)
event_at blocks es p e at = slice_get-map (event_kept blocks) es p ∙ ap (option_map (event_kept blocks)) at

-- more bytes behind those that an entry has change nothing of its event
same_event : (blocks more : List (List ℕ)) (e : Entry) → IsHeld (length blocks) e → event_kept (blocks ++ more) e ≡ event_kept blocks e
same_event blocks more (Given event) held = refl
same_event blocks more (Wrote ticket block at) held = ap (λ x. event_kept (x ∷ []) (Wrote ticket block 0)) (get_or_append_left blocks more [] at held)
same_event blocks more (Lost block at) held = ap (λ x. event_kept (x ∷ []) (Lost block 0)) (get_or_append_left blocks more [] at held)
same_event blocks more (Noticed ticket) held = refl

same_events : (blocks more : List (List ℕ)) (es : List Entry) → AreHeld (length blocks) es → events_kept (blocks ++ more) es ≡ events_kept blocks es
same_events blocks more [] held = refl
same_events blocks more (e ∷ es) held = ap₂ (λ (d : Event) ds. d ∷ ds) (same_event blocks more e held.0) (same_events blocks more es held.1)

-- the events with one entry more
one_more : (blocks : List (List ℕ)) (es : List Entry) (e : Entry) → events_kept blocks (es ++ e ∷ []) ≡ events_kept blocks es ++ event_kept blocks e ∷ []
one_more blocks es e = map-append (event_kept blocks) es (e ∷ [])

module _ {entries : List Entry} {written ready most most_blocks most_entries : ℕ} (room : HasRoom entries written ready most most_blocks most_entries) where
  -- an entry more without bytes of its own
  pub room_plain : (e : Entry) (more_entries : ℕ) → IsHeld written e → most_entries ≤ more_entries → HasRoom (entries ++ e ∷ []) written ready most most_blocks more_entries
  room_plain e more_entries held fit = record { held = held_and_one written written entries e (omega arith) room.held held; bytes_fit = room.bytes_fit; events_fit = omega (arith, room.events_fit, fit) }

  -- an entry more with the bytes that came last
  pub room_bytes : (e : Entry) (now more_blocks more_entries : ℕ) → now ≡ written + 1 → 0 < ready → IsHeld now e → most_blocks ≤ more_blocks → most_entries ≤ more_entries → HasRoom (entries ++ e ∷ []) now (ready - 1) most more_blocks more_entries
  room_bytes e now more_blocks more_entries is some held blocks_fit fit = record {
    held = held_and_one written now entries e (omega (arith, is)) room.held held;
    bytes_fit = omega (arith, room.bytes_fit, is, some, blocks_fit);
    events_fit = omega (arith, room.events_fit, fit);
  }

-- the events with a write more whose bytes come last
pub one_last : (blocks now : List (List ℕ)) (es new : List Entry) (e : ℕ → Entry) (at : ℕ) (x : List ℕ) → ((xs : List (List ℕ)) (k : ℕ) → event_kept xs (e k) ≡ event_kept (get_or xs k [] ∷ []) (e 0))
    → now ≡ blocks ++ x ∷ [] → new ≡ es ++ e at ∷ [] → at ≡ length blocks → AreHeld (length blocks) es → events_kept now new ≡ events_kept blocks es ++ event_kept (x ∷ []) (e 0) ∷ []
one_last blocks now es new e at x reads is more last held =
    ap₂ events_kept is more ∙ one_more (blocks ++ x ∷ []) es (e at)
    ∙ ap₂ (λ (ds : List Event) d. ds ++ d ∷ []) (same_events blocks (x ∷ []) es held) (reads (blocks ++ x ∷ []) at ∙ ap (λ (y : List ℕ). event_kept (y ∷ []) (e 0)) (ap (λ k. get_or (blocks ++ x ∷ []) k []) last ∙ get_or-append_seam blocks x [] []))
