-- Each faithful image stands for the map after some of the records.
use Rattle.std.proofs.Common.{◌≡◌, ◌⊎◌, ⊎_elim, ℕ, ◌+◌, ◌-◌, ◌≤◌, IsTrue, List, [], ◌∷◌, ◌++◌, length, Some, None, slice_get, sym, ◌∙◌, ap, subst, arith, length-append, length-drop}
use Rattle.std.proofs.lemmas.Bool.{cases_lt}
use Rattle.base_types.specs.Seal.{Blocks}
use Rattle.disk_contract.specs.declared.event.Event.{Event}
use Rattle.disk_contract.specs.Cell.{cell_of}
use Rattle.layout_geometry.specs.Geometry.{Geometry, ring_block}
use Rattle.layout_journal.specs.declared.header.Header.{Header}
use Rattle.layout_journal.specs.Layout.{commit_of}
use Rattle.layout_journal.specs.Run.{Newest, Record, AreConsecutive, place_after, CanFollow, IsRun, all_places, commit_says, covered_by, otherwise, replayed, is_live, live_part}
use Rattle.crash_argument.specs.JournalLaws.{JournalLaws}
use Rattle.crash_argument.specs.Ledger.{Ledger, WrittenRecord, HoldsUnder, IsConsistentWith, IsStanding, FitsRecords, from_start, all_say, cover, latest}
use Rattle.crash_argument.proofs.log.Lists.{first_or_none, inspect, front, get_front, get_behind, get_drop, say_append, say_length, consecutive_front, places_append, consecutive_at}
use Rattle.crash_argument.proofs.theorem.Images.{IsFaithful, idle_latest, sealed_stands}
use Rattle.crash_argument.proofs.theorem.Core.{find_newest, Stands, decide_stands, stands_whole, whole_stands, known_stands, cover_read, whole_all, let_in_all, live_part_same, live_below}

-- the first of a list that isn't empty
first_of_list : {A : Type 0} (xs : List A) (x : A) → slice_get xs 0 ≡ Some x → (rest : List A) × (xs ≡ x ∷ rest)
first_of_list [] x e = cc
first_of_list {A} (y ∷ xs) x e =
    let same : y ≡ x = cc in
    (xs, ap (λ (z : A). z ∷ xs) same)

-- what an image stands for
pub record Reached (l : Ledger) (img : Blocks) : Type 0 where
  pub header : Header
  pub good : List WrittenRecord
  pub bad : List WrittenRecord
  pub split : from_start l header ≡ good ++ bad
  pub stops : (w : WrittenRecord) → slice_get bad 0 ≡ Some w → ¬ Stands l img header w
  pub standing : IsStanding l header
  pub known : l.known ≤ header.start + length good
  pub held : HoldsUnder l.geom.n l.geom img (live_part l.geom (l.map_before (header.start + length good)))

module _ (laws : JournalLaws) (base : Blocks) (log : List Event) (l : Ledger) (img : Blocks) (keeps : IsConsistentWith base log l) (f : IsFaithful (cell_of base log) l img) where
  module _ (h : Header) (slot : ℕ) (standing : IsStanding l h) (newest : Newest l.geom.n img slot h) (good bad : List WrittenRecord) (split : from_start l h ≡ good ++ bad)
      (each : (k : ℕ) (w : WrittenRecord) → slice_get good k ≡ Some w → Stands l img h w) (stops : (w : WrittenRecord) → slice_get bad 0 ≡ Some w → ¬ Stands l img h w) where
    -- the header fits the records
    fits : FitsRecords l h
    fits = keeps.headers.fits h standing

    -- the records from its start on say what the two parts say
    say_split : all_say (from_start l h) ≡ all_say good ++ all_say bad
    say_split = ap all_say split ∙ say_append good bad

    -- where a record of the good part is in the ledger
    in_good : (k : ℕ) (w : WrittenRecord) → slice_get good k ≡ Some w → slice_get l.records (h.start - l.header.start + k) ≡ Some w
    in_good k w is = sym (get_drop (h.start - l.header.start) l.records k) ∙ ap (λ (ws : List WrittenRecord). slice_get ws k) split ∙ get_front good bad k w is

    -- and where the first of the rest does
    in_bad : (w : WrittenRecord) → slice_get bad 0 ≡ Some w → slice_get l.records (h.start - l.header.start + length good) ≡ Some w
    in_bad w is = sym (get_drop (h.start - l.header.start) l.records (length good)) ∙ ap (λ (ws : List WrittenRecord). slice_get ws (length good)) split ∙ ap (slice_get (good ++ bad)) (omega arith) ∙ get_behind good bad 0 ∙ is

    -- the first of the rest has the number and the place behind the good part
    behind : (w : WrittenRecord) → slice_get bad 0 ≡ Some w → (w.says.number ≡ h.start + length good) × (w.says.place ≡ place_after l.geom.j h.at (all_say good))
    behind w is =
        let rest = first_of_list bad w is in
        consecutive_at l.geom.j h.start h.at good w.says (all_say rest.0)
        (subst (λ (rs : List Record). AreConsecutive l.geom.j h.start h.at rs) (say_split ∙ ap (λ (ws : List WrittenRecord). all_say good ++ all_say ws) rest.1) fits.consecutive)

    -- no record can follow the good part: it would be the first of the rest, and stand
    longest : (r : Record) → ¬ CanFollow img h (all_say good) r
    longest r can =
        let at = consecutive_at l.geom.j h.start h.at good r [] (subst (λ (g : Geometry). AreConsecutive g.j h.start h.at (all_say good ++ r ∷ [])) fits.geom can.next) in
        let from : l.header.start ≤ r.number = omega (arith, at.0, fits.start) in
        let commit : commit_of l.geom (img (ring_block l.geom r.place)) ≡ Some (commit_says h.epoch r) = ap (λ (g : Geometry). commit_of g (img (ring_block g r.place))) (sym fits.geom) ∙ can.whole.commit in
        let found = keeps.numbers.commit r.place _ _ (sealed_stands (cell_of base log) l img _ (f.places_in _) f (laws.commit_sealed l.geom _ _ commit)) commit fits.epoch from in
        let k_is : h.start - l.header.start + length good ≡ r.number - l.header.start = omega (arith, at.0, fits.start) in
        let w = found.0 in
        let in_records : slice_get l.records (h.start - l.header.start + length good) ≡ Some w = ap (slice_get l.records) k_is ∙ found.1 in
        let in_rest : slice_get bad 0 ≡ Some w = sym (get_behind good bad 0) ∙ ap (slice_get (good ++ bad)) {x = length good + 0} {y = length good} (omega arith) ∙ ap (λ (ws : List WrittenRecord). slice_get ws (length good)) (sym split) ∙ get_drop (h.start - l.header.start) l.records (length good) ∙ in_records in
        let place = behind w in_rest in
        stops w in_rest (whole_stands laws (cell_of base log) l img f h w r (h.start - l.header.start + length good) fits (keeps.each _ w in_records).spelled keeps.numbers in_records k_is from (at.0 ∙ sym place.0) (at.1 ∙ sym place.1) can.whole)

    -- the good part is the recoverable run of the image
    is_run : IsRun img h (all_say good)
    is_run = record {
      consecutive = subst (λ (g : Geometry). AreConsecutive g.j h.start h.at (all_say good)) (sym fits.geom) (consecutive_front l.geom.j h.start h.at (all_say good) (all_say bad) (subst (λ (rs : List Record). AreConsecutive l.geom.j h.start h.at rs) say_split fits.consecutive));
      whole = whole_all laws (cell_of base log) l img f h good (λ k w is. (stands_whole laws) (cell_of base log) l img f h w fits.geom fits.epoch (keeps.each _ w (in_good k w is)).spelled (each k w is));
      let_in = let_in_all laws (cell_of base log) l img f h l.geom.j h.start h.at (all_say good) (consecutive_front l.geom.j h.start h.at (all_say good) (all_say bad) (subst (λ (rs : List Record). AreConsecutive l.geom.j h.start h.at rs) say_split fits.consecutive)) (λ closed. omega (arith, fits.let_in closed, fits.start, fits.sure, fits.last, say_length good, ap (λ (ws : List WrittenRecord). length ws) split, length-append good bad, length-drop {A = WrittenRecord} (h.start - l.header.start) l.records));
      within = omega (arith, places_append (all_say good) (all_say bad), ap all_places say_split, fits.within, ap (λ (g : Geometry). g.j) fits.geom);
      longest = longest;
    }

    -- all records that are known are in the good part
    known : l.known ≤ h.start + length good
    known = ⊎_elim (λ e. omega (arith, keeps.known, fits.start, dropped, ap (λ (x : List WrittenRecord). length x) split, length-append good bad, ap (λ (x : List WrittenRecord). length x) e)) some (first_or_none bad)
      where
        dropped : length (from_start l h) ≡ length l.records - (h.start - l.header.start)
        dropped = length-drop (h.start - l.header.start) l.records

        some : (w : WrittenRecord) × (slice_get bad 0 ≡ Some w) → l.known ≤ h.start + length good
        some p = ⊎_elim (λ low. absurd (stops p.0 p.1 (known_stands laws (cell_of base log) l img f base log h p.0 fits (keeps.each _ p.0 (in_bad p.0 p.1)) (omega (arith, low, (behind p.0 p.1).0))))) (λ high. high) (cases_lt (h.start + length good) l.known)

    -- where the map after the good part is live, the image with the good part replayed is that map
    held_live : (b : ℕ) → IsTrue (is_live l.geom (l.map_before (h.start + length good)) b) → replayed l.geom img (all_say good) b ≡ l.map_before (h.start + length good) b
    held_live b live = ⊎_elim none some (inspect (cover None good b))
      where
        read : covered_by l.geom img None (all_say good) b ≡ cover None good b
        read = cover_read laws (cell_of base log) l img f h good None b each

        is_map : otherwise (cover None good b) (latest (cell_of base log b)) ≡ l.map_before (h.start + length good) b
        is_map = keeps.home.map h good bad b standing split known live

        at_home : cover None good b ≡ None → img b ≡ latest (cell_of base log b)
        at_home e =
            ⊎_elim (λ idle. idle_latest (cell_of base log) l img b (live_below l.geom (l.map_before (h.start + length good)) b live) f idle)
            (λ p. ap img (sym p.7) ∙ (each p.0 p.1 p.4).fresh p.5 p.2 p.3 p.6 ∙ sym ((keeps.each _ p.1 (in_good p.0 p.1 p.4)).fresh (omega (arith, fits.sure_grows, p.5)) p.2 p.3 p.6) ∙ ap (λ c. latest (cell_of base log c)) p.7)
            (keeps.home.laid h good bad b standing split known live e)

        none : cover None good b ≡ None → replayed l.geom img (all_say good) b ≡ l.map_before (h.start + length good) b
        none e = ap (λ o. otherwise o (img b)) (read ∙ e) ∙ at_home e ∙ sym (ap (λ o. otherwise o (latest (cell_of base log b))) e) ∙ is_map

        some : (x : List ℕ) × (cover None good b ≡ Some x) → replayed l.geom img (all_say good) b ≡ l.map_before (h.start + length good) b
        some p = ap (λ o. otherwise o (img b)) (read ∙ p.1) ∙ sym (ap (λ o. otherwise o (latest (cell_of base log b))) p.1) ∙ is_map

    -- so the image holds the live part of that map
    held : HoldsUnder l.geom.n l.geom img (live_part l.geom (l.map_before (h.start + length good)))
    held = record {
      held = record {
        slot = slot;
        header = h;
        run = all_say good;
        newest = newest;
        is_run = is_run;
        each = λ b. subst (λ (g : Geometry). live_part l.geom (l.map_before (h.start + length good)) b ≡ live_part g (replayed g img (all_say good)) b) (sym fits.geom)
            (live_part_same l.geom (l.map_before (h.start + length good)) (replayed l.geom img (all_say good)) keeps.shape held_live b);
      };
      geom = fits.geom;
    }

  -- each faithful image stands for the map after some of the records
  pub reached : Reached l img
  reached =
      let found = find_newest laws (cell_of base log) l img f keeps.headers in
      let part = front (Stands l img found.header) (decide_stands laws (cell_of base log) l img f found.header) (from_start l found.header) in
      record {
        header = found.header;
        good = part.good;
        bad = part.bad;
        split = part.whole;
        stops = part.stops;
        standing = found.standing;
        known = known found.header found.slot found.standing found.newest part.good part.bad part.whole part.each part.stops;
        held = held found.header found.slot found.standing found.newest part.good part.bad part.whole part.each part.stops;
      }
