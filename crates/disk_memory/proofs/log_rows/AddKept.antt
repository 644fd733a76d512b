-- The rows of a log fit it after one more event, and have room for it.
use Rattle.std.proofs.Common.{◌≡◌, ℕ, ◌+◌, ◌-◌, ◌^◌, ◌<◌, ◌≤◌, ◌==◌, ◌||◌, Bool, true, false, not, List, [], ◌∷◌, ◌++◌, length, Some, refl, sym, ap, ap₂, subst, ◌∙◌, arith, append-nil, length-append}
use Rattle.std.proofs.Math.Bool.{or-false}
use Rattle.std.proofs.lemmas.Bool.{false_from_ne_true, ne_eqb}
use Rattle.std.specs.List.{filter, slice_get}
use Rattle.disk_contract.specs.declared.event.Event.{Event}
use Rattle.disk_contract.specs.declared.event.Event.TheVariants.{Wrote, Lost, Noticed}
use Rattle.disk_contract.specs.Cell.{greatest_ticket, is_noticed}
use Rattle.disk_contract.specs.Disk.{IsOpen}
use Rattle.disk_contract.specs.Lawful.{IsEventOf}
use Rattle.disk_memory.specs.Ranks.{RanksState, with_next, without}
use Rattle.disk_memory.specs.Log.{LogState, IsKeptLog, tickets, write_count, accepted_places, lost_places, numbers_of}
use Rattle.disk_memory.proofs.log_rows.AddNumbers.{numbers_of_more, numbers_of_same, numbers_without, one_less}
use Rattle.disk_memory.proofs.log_rows.AddRows.{accepted_places-append, lost_places-append, write_count_of_more, places_count}
use Rattle.disk_memory.proofs.log_rows.Events.{tickets-append, greatest_wrote, greatest_lost, greatest_noticed, noticed-append, noticed_last, events_more, unnoticed_above, lawful_onto}
use Rattle.disk_memory.proofs.log_rows.RowTickets.{tickets_ascend}

-- whether a ticket has no notice
abbrev unnoticed : List Event → ℕ → Bool
unnoticed log u = not (is_noticed u log)

-- the notice of a ticket is of no other
noticed_others : (log : List Event) (t u : ℕ) → (u ≡ t → ⊥) → unnoticed (log ++ Noticed t ∷ []) u ≡ unnoticed log u
noticed_others log t u apart = ap not (noticed-append u log (Noticed t ∷ []) ∙ ap (λ v. is_noticed u log || (v || false)) (ne_eqb t u (λ e. apart (sym e))) ∙ or-false (is_noticed u log))

-- rows that fit their log
module _ {events : List Event} {row places lost : List ℕ} {ranks : RanksState} {room ready most_events most_tickets most_places most_lost : ℕ}
    (kept : IsKeptLog events row places lost ranks room ready most_events most_tickets most_places most_lost) where
  -- are as long as there are accepted writes, and writes that were lost
  pub lengths : (length places ≡ length row) × (length row + length lost ≡ write_count events)
  lengths =
      let counts = places_count 0 events in
      let rows = ap length kept.row_is in
      let of_places = ap length kept.places_are in
      let of_lost = ap length kept.lost_are in
      (omega (arith, counts.0), omega (arith, counts.0, counts.1))

  -- one more write has room where the bytes of one are ready
  pub more_ready : {s : LogState} → record { events = events; room = room; ready = ready } ≡ s → 0 < s.ready → write_count events + 1 ≤ room
  more_ready is some = omega (arith, kept.few, subst (λ (s : LogState). 0 < s.ready) (sym is) some)

  -- and where the log that is seen has room for it
  pub more_room : {s : LogState} → record { events = events; room = room; ready = ready } ≡ s → write_count s.events + 1 ≤ s.room → write_count events + 1 ≤ room
  more_room is more = subst (λ (s : LogState). write_count s.events + 1 ≤ s.room) (sym is) more

  -- where one more write has room, each row has room for it
  pub room_for_wrote : write_count events + 1 ≤ room → (length events < most_events) × (length row < most_tickets) × (length places < most_places) × (ranks.joined < ranks.most)
  room_for_wrote more =
      let all = lengths in
      (omega (arith, kept.count, kept.events_fit), omega (arith, all.1, kept.tickets_fit), omega (arith, all.0, all.1, kept.places_fit), omega (arith, all.1, kept.joined, kept.open_fit))

  -- also where it is a lost one
  pub room_for_lost : write_count events + 1 ≤ room → (length events < most_events) × (length lost < most_lost)
  room_for_lost more =
      let all = lengths in
      (omega (arith, kept.count, kept.events_fit), omega (arith, all.1, kept.lost_fit))

  -- the notice of an open ticket leaves one member less
  one_less_open : (t number : ℕ) → IsOpen t events → slice_get (tickets events) (number - 1) ≡ Some t
      → length (numbers_of (unnoticed (events ++ Noticed t ∷ [])) 1 (tickets events)) + 1 ≡ length ranks.members
  one_less_open t number is_open at =
      let passes : not (is_noticed t events) ≡ true = ap not (false_from_ne_true (is_noticed t events) is_open.1) in
      one_less (unnoticed events) (unnoticed (events ++ Noticed t ∷ [])) t (noticed_others events t) (ap not (noticed_last t events)) 0 1 (number - 1) (tickets events) passes (tickets_ascend [] events kept.lawful) at
      ∙ sym (ap length kept.open_are)

  -- so it has room
  pub room_for_notice : (t number : ℕ) → IsOpen t events → slice_get (tickets events) (number - 1) ≡ Some t → length events < most_events
  room_for_notice t number is_open at = omega (arith, one_less_open t number is_open at, kept.count, kept.few, kept.events_fit)

  -- and the number of the ticket is no member any more
  members_without : (t number : ℕ) → 0 < number → slice_get (tickets events) (number - 1) ≡ Some t
      → filter (λ m. not (m == number)) ranks.members ≡ numbers_of (unnoticed (events ++ Noticed t ∷ [])) 1 (tickets events)
  members_without t number some at =
      ap (filter (λ m. not (m == number))) kept.open_are
      ∙ ap (λ k. filter (λ m. not (m == k)) (numbers_of (unnoticed events) 1 (tickets events))) (omega arith)
      ∙ sym (numbers_without (unnoticed events) (unnoticed (events ++ Noticed t ∷ [])) t (noticed_others events t) (ap not (noticed_last t events)) 0 1 (number - 1) (tickets events) (tickets_ascend [] events kept.lawful) at)

  -- an event that is no notice changes no open number
  same_open : (e : Event) → ((u : ℕ) → is_noticed u (e ∷ []) ≡ false) → tickets events ≡ tickets (events ++ e ∷ []) → numbers_of (unnoticed events) 1 (tickets events) ≡ numbers_of (unnoticed (events ++ e ∷ [])) 1 (tickets (events ++ e ∷ []))
  same_open e quiet same_tickets =
      sym (numbers_of_same (unnoticed events) (unnoticed (events ++ e ∷ [])) (λ u. ap not (noticed-append u events (e ∷ []) ∙ ap (λ v. is_noticed u events || v) (quiet u) ∙ or-false (is_noticed u events))) 1 (tickets events))
      ∙ ap (numbers_of (unnoticed (events ++ e ∷ [])) 1) same_tickets

  -- the rows with one more accepted write, where room for the bytes of so many is left
  pub kept_wrote : (t b : ℕ) (x : List ℕ) (left more_tickets more_places : ℕ) → greatest_ticket events < t → (0 < left → t ≡ length (tickets events) + 1) → write_count events + 1 + left ≤ room
      → most_tickets ≤ more_tickets → most_places ≤ more_places
      → IsEventOf (2 ^ 32) (Wrote t b x)
      → IsKeptLog (events ++ Wrote t b x ∷ []) (row ++ t ∷ []) (places ++ length events ∷ []) lost (with_next ranks) room left most_events more_tickets more_places most_lost
  kept_wrote t b x left more_tickets more_places above next more tickets_fit places_fit event =
      let long = ap length kept.row_is in
      let all = length-append row (t ∷ []) in
      let events_long = length-append events (Wrote t b x ∷ []) in
      let writes = write_count_of_more events (Wrote t b x) in
      let members_long = length-append ranks.members ((ranks.joined + 1) ∷ []) in
      let same : (u : ℕ) → is_noticed u (events ++ Wrote t b x ∷ []) ≡ is_noticed u events = λ u. noticed-append u events (Wrote t b x ∷ []) ∙ or-false (is_noticed u events) in
      let passes : not (is_noticed t events) ≡ true = ap not (unnoticed_above events t kept.lawful above) in
      record {
        lawful = lawful_onto [] events (Wrote t b x) kept.lawful above;
        whole = events_more (2 ^ 32) events (Wrote t b x) kept.whole event;
        next = λ some. greatest_wrote events t b x above ∙ omega (arith, next some);
        few = omega arith;
        short = kept.short;
        row_is = ap (λ (ts : List ℕ). ts ++ t ∷ []) kept.row_is ∙ sym (tickets-append events (Wrote t b x ∷ []));
        places_are = ap₂ (λ (ps : List ℕ) p. ps ++ p ∷ []) kept.places_are (omega arith) ∙ sym (accepted_places-append 0 events (Wrote t b x ∷ []));
        lost_are = kept.lost_are ∙ sym (append-nil (lost_places 0 events)) ∙ sym (lost_places-append 0 events (Wrote t b x ∷ []));
        open_are =
            ap₂ (λ (ms : List ℕ) m. ms ++ m ∷ []) kept.open_are (omega (arith, kept.joined))
            ∙ sym (numbers_of_more (unnoticed events) 1 (tickets events) t passes)
            ∙ sym (numbers_of_same (unnoticed events) (unnoticed (events ++ Wrote t b x ∷ [])) (λ u. ap not (same u)) 1 (tickets events ++ t ∷ []))
            ∙ ap (numbers_of (unnoticed (events ++ Wrote t b x ∷ [])) 1) (sym (tickets-append events (Wrote t b x ∷ [])));
        joined = omega (arith, kept.joined);
        open_fit = kept.open_fit;
        count = omega (arith, kept.count);
        events_fit = kept.events_fit;
        tickets_fit = omega (arith, kept.tickets_fit);
        places_fit = omega (arith, kept.places_fit);
        lost_fit = kept.lost_fit;
      }

  -- the rows with one more write that was lost, where room for the bytes of so many is left
  pub kept_lost : (b : ℕ) (x : List ℕ) (left more_lost : ℕ) → left ≤ ready → write_count events + 1 + left ≤ room → most_lost ≤ more_lost
      → IsEventOf (2 ^ 32) (Lost b x)
      → IsKeptLog (events ++ Lost b x ∷ []) row places (lost ++ length events ∷ []) ranks room left most_events most_tickets most_places more_lost
  kept_lost b x left more_lost fewer more lost_fit event =
      let events_long = length-append events (Lost b x ∷ []) in
      let writes = write_count_of_more events (Lost b x) in
      let same_tickets : tickets events ≡ tickets (events ++ Lost b x ∷ []) = sym (append-nil (tickets events)) ∙ sym (tickets-append events (Lost b x ∷ [])) in
      record {
        lawful = lawful_onto [] events (Lost b x) kept.lawful tt;
        whole = events_more (2 ^ 32) events (Lost b x) kept.whole event;
        next = λ some. greatest_lost events b x ∙ kept.next (omega (arith, some, fewer));
        few = omega arith;
        short = kept.short;
        row_is = kept.row_is ∙ same_tickets;
        places_are = kept.places_are ∙ sym (append-nil (accepted_places 0 events)) ∙ sym (accepted_places-append 0 events (Lost b x ∷ []));
        lost_are = ap₂ (λ (ls : List ℕ) p. ls ++ p ∷ []) kept.lost_are (omega arith) ∙ sym (lost_places-append 0 events (Lost b x ∷ []));
        open_are = kept.open_are ∙ same_open (Lost b x) (λ u. refl) same_tickets;
        joined = kept.joined;
        open_fit = kept.open_fit;
        count = omega (arith, kept.count);
        events_fit = kept.events_fit;
        tickets_fit = kept.tickets_fit;
        places_fit = kept.places_fit;
        lost_fit = omega (arith, kept.lost_fit);
      }

  -- the rows with the notice of an open ticket, whose number is none of the open ones any more
  pub kept_notice : (t number : ℕ) → IsOpen t events → 0 < number → slice_get (tickets events) (number - 1) ≡ Some t
      → IsEventOf (2 ^ 32) (Noticed t)
      → IsKeptLog (events ++ Noticed t ∷ []) row places lost (without number ranks) room ready most_events most_tickets most_places most_lost
  kept_notice t number is_open some at event =
      let events_long = length-append events (Noticed t ∷ []) in
      let writes = write_count_of_more events (Noticed t) in
      let same_tickets : tickets events ≡ tickets (events ++ Noticed t ∷ []) = sym (append-nil (tickets events)) ∙ sym (tickets-append events (Noticed t ∷ [])) in
      let members = members_without t number some at in
      let fewer = one_less_open t number is_open at in
      record {
        lawful = lawful_onto [] events (Noticed t) kept.lawful is_open;
        whole = events_more (2 ^ 32) events (Noticed t) kept.whole event;
        next = λ any. greatest_noticed events t ∙ kept.next any;
        few = omega (arith, kept.few);
        short = kept.short;
        row_is = kept.row_is ∙ same_tickets;
        places_are = kept.places_are ∙ sym (append-nil (accepted_places 0 events)) ∙ sym (accepted_places-append 0 events (Noticed t ∷ []));
        lost_are = kept.lost_are ∙ sym (append-nil (lost_places 0 events)) ∙ sym (lost_places-append 0 events (Noticed t ∷ []));
        open_are = members ∙ ap (numbers_of (unnoticed (events ++ Noticed t ∷ [])) 1) same_tickets;
        joined = kept.joined;
        open_fit = kept.open_fit;
        count = omega (arith, kept.count, fewer, ap length members);
        events_fit = kept.events_fit;
        tickets_fit = kept.tickets_fit;
        places_fit = kept.places_fit;
        lost_fit = kept.lost_fit;
      }
